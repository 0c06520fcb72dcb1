-- The names of the kit that proofs use, so that a file takes them from one place.
pub use mathlib.Core.Path.{◌≡◌, refl, sym, ap, ap₂, ◌∙◌, subst, fun_ext}
pub use mathlib.Core.Logic.{inl, inr, ⊎_elim, ◌↔◌, ◌⊎◌}
pub use mathlib.Core.Bool.{Bool, true, false, cond, ◌&&◌, not, ◌||◌, and-false, and-eq-true_iff, and-true, or-false}
pub use mathlib.Core.Bool.{or_assoc, and_assoc, or-true}
pub use mathlib.Core.Option.{Option, none, some}
pub use Rattle.std.specs.declared.result.Result.{Result}
pub use Rattle.std.specs.declared.result.Result.TheVariants.{Ok, Err}
pub use mathlib.Core.List.{List, [], ◌∷◌, ◌++◌, map, append_assoc, append-nil, map-id, foldr, foldr-append, map-append}
pub use Prim.Native.Nat.{ℕ, suc, ◌+◌, ◌-◌, ◌≤◌, ◌<◌, max, zero, ◌*◌, ◌/◌, ◌%◌, ◌^◌, min, suc-le-suc}
pub use native.Mathlib.Nat.{le_of_eq, le_trans, add-sub_cancel_left, mod-lt, div-add-mod', lt_of_le_of_lt, le_refl}
pub use native.Mathlib.Nat.{le_of_lt, eq-or-lt_of_le, pow-zero, pow-suc, mul_comm, suc-mul, lt_of_lt_of_le, add_assoc}
pub use native.Mathlib.Nat.{div-lt_iff_lt-mul, zero-add}
pub use native.Mathlib.Numerals.{add-one, towards_suc}
pub use native.Mathlib.Decide.{dec_lt, dec_le, ℕ_discrete}
pub use native.Mathlib.Omega.{arith}
pub use lib.Dec.{ltb, leb, T, lit<, eqb, eqb-zero-suc, eqb-suc-zero, eqb-suc-suc, le→leb}
pub use lib.ListN.{length, set, get_or, drop, replicate, length-replicate, take, length-drop, length-set, length-append}
pub use lib.ListN.{length-map, length-take, drop_of_length-le, take-append-drop, get_or-replicate, get_or-append}
pub use lib.ListN.{get_or-eq_default}
pub use lib.Seq.{length-take-le, set-get_or, get_or-set_same, sets, sets-eq, get_or-set_other, take-length, take_all}
pub use lib.Seq.{take-append_seam, take_at, drop-append_seam, get_or-append-add, drop-cons, take-suc, drop-length}
pub use lib.Seq.{drop-drop, get_or_at, drop_at, drop-append-le, take-set-le, drop-set-lt, get_or-take, get_or-drop}
pub use lib.Seq.{length-sets, take-take, take-suc-set, set_at, set-append_left, set-set, set_split, take-add, set_out}
pub use lib.Seq.{ext_get_or}
pub use lib.IntN.{ℤ, pos, ◌-ℤ◌, nat_abs, negsuc, ◌+ℤ◌, neg_ℤ}
pub use lib.Signed.{◌≤ℤ◌, lt_z, ◌<ℤ◌, mag, le_z, clash_ℤ, non_neg}
pub use mir.Syntax.{w16, w32, Ty, ty_array, w64, w8, named}
pub use mir.Val.{SFits, Val, has_ty, to_z, of_z, hbits, vstruct, of_list, Fits}
pub use mir.ValLaws.{to_z-of_z, to_z_pos}
pub use borrow.Author.Tests.{ltb-true, ltb-false, lt-ltb, le-ltb, leb-true, le-leb, lt-leb, eq-eqb, ne_eqb, eqb-true}
pub use borrow.Author.Tests.{not-true, not-false, eqb-false, leb-false}
pub use borrow.Author.Rules.{rules}
