-- An array of n elements by value in a walk: it becomes the row of its elements, which is lent as a `&mut [T]`, and the
-- row becomes an array again. Nothing here says what an element is.
-- Assumes `Logic`.
use mathlib.Core.Path.{◌≡◌, refl, sym, subst}
use Prim.Native.Nat.{ℕ}
use mathlib.Core.List.{List, [], ◌∷◌, map}
use lib.ListN.{length}
use seplogic.Ra.Ura.{Ura}
use base.Fraction.{full_share}
use mir.Syntax.{Ty, ty_array}
use mir.Raw.{raw as raw_ty}
use mir.Val.{Val}
use base.Fml.{fsep, fat}
use types.Logic.{Logic}
use types.Kit.{Item, Goal, Step, step, Seq, ‵, ◌$◌, move, use1, drop, fsplit, fjoin, fpick, fpack, feq_i, rewrite}
use types.Share.{arr_parts}
use borrow.Table.OneValue.{retype}
use denote.RattleType.{RattleType}
use denote.Laws.{Is, Lawful, shows}
use denote.Memory.{part_at, part_of, cell_raw, shares, lone}
use denote.Array.{Array, array_val, Array-Typed, Array-Tells, Array-Makes}
use denote.ArrayMemory.{Single, Array-apart, Array-whole}
use denote.Index.{row}
use denote.Steps.{owned, facts}
use Rattle.walks.proofs.Values.{ByValue}

module _ (R : RattleType) (n : ℕ) {M : Type 1} {𝓤 : Ura M} (𝓛 : Logic 𝓤)
    (by : ByValue 𝓛 R) (law : Lawful 𝓛 R) where
  open 𝓛 use {H}

  abbrev type : Ty
  type = ty_array (lone R.mir) n

  -- an array goes by value where its elements do
  abbrev pub of_array : ByValue 𝓛 (Array R n)
  of_array =
      record {
        val = λ xs. array_val (map by.val xs);
        tells = Array-Tells R (λ x. by.val x ∷ []) by.tells n;
        makes = Array-Makes 𝓛 R by.makes n;
        typed = λ xs. Array-Typed R law.typed n xs (array_val (map by.val xs) ∷ []);
      }

  module _ (same : raw_ty type ≡ raw_ty (raw_ty type)) (b : ℕ) {K : Type 0} {Γ : List (Item 𝓤)} {G : Goal 𝓤 H} where
    pub array_row : K → Single R.mir → (xs : List R.Denot) → Is (Array R n) xs (of_array.val xs ∷ [])
        → Step K 𝓛 (‵ (row R full_share xs b 0) ∷ Γ) G (‵ (fat full_share type b 0 (of_array.val xs)) ∷ Γ) G
    unfolding part_of
    array_row t one xs is =
        step (λ s.
        use1 𝓛 (‵ (fat full_share (raw_ty type) b 0 (of_array.val xs)))
        (retype 𝓛 full_share type (raw_ty type) same b 0 (of_array.val xs)) $
        owned t (Array R n) (Is (Array R n)) of_array.makes xs (of_array.val xs ∷ []) is $
        move t (1 ∷ 0 ∷ []) $ fjoin t $
        fpack t (List Val) (λ vs. fsep (cell_raw full_share (raw_ty type ∷ []) vs b 0) ((Array R n).own_val xs vs))
        (of_array.val xs ∷ []) $
        use1 𝓛 (‵ ((arr_parts (shares R) n).part full_share xs b 0)) (Array-apart 𝓛 R full_share one n xs b 0) $
        fsplit t $ drop t $ s)

    pub row-array : K → (xs : List R.Denot) → length xs ≡ n
        → (Is (Array R n) xs (of_array.val xs ∷ [])
        → Seq K 𝓛 (‵ (fat full_share type b 0 (of_array.val xs)) ∷ Γ) G)
        → Seq K 𝓛 (‵ (row R full_share xs b 0) ∷ Γ) G
    unfolding part_of
    row-array t xs e k =
        feq_i t ℕ (length xs) n e $ fjoin t $
        use1 𝓛 (‵ (part_at (Array R n) full_share xs b 0)) (Array-whole 𝓛 R full_share n xs b 0) $
        fpick t (λ vs. fsplit t $ move t (1 ∷ []) $
        facts t (Array R n) (Is (Array R n)) (shows 𝓛 (Array R n)) xs vs (λ is.
        rewrite t 0 (λ (ws : List Val). ‵ (cell_raw full_share (raw_ty type ∷ []) ws b 0)) (of_array.tells xs vs is)
        refl $
        use1 𝓛 (‵ (fat full_share type b 0 (of_array.val xs)))
        (retype 𝓛 full_share (raw_ty type) type (sym same) b 0 (of_array.val xs)) $
        k (subst (Is (Array R n) xs) (of_array.tells xs vs is) is)))
