-- The names that a walk by hand uses: those of the program logic, and the steps of this crate.
pub use seplogic.Ra.Ura.{Ura}
pub use base.Fraction.{full_share}
pub use mir.Syntax.{Ty, named, erased, imm, mut, w8, w16, w32, w64, ty_int, ty_bool, ty_ref, ty_unit, ty_ptr}
pub use mir.Val.{Val, vbool, vint, vunit}
pub use base.Logic.{SProp, ent, emp, via, id⊢, fst∗}
pub use base.Fml.{Fml, GName, fat, flft, fsep, feq}
pub use prog.Memory.{Memory}
pub use prog.Routine.{Routine}
pub use prog.Wp.{Heap, Out, Env, after_seq, after_block, Wp, at_return, WpFn, Tables}
unfoldable pub use prog.Wp.{after_turn}
pub use ghost.Atoms.{Atoms}
pub use contract.Lifetimes.{Lfts, Shares}
pub use contract.Monad.{Fun, fact_i}
pub use contract.Running.{tables}
unfoldable pub use contract.Running.{tables_of}
pub use sound.WpLaws.{fm_of}
pub use types.Logic.{Logic}
pub use types.Kit.{Item, ‵, ⋆, runs, any_q, at_ret, Sq, ◌$◌, ◌∵◌, !, qed, by, move, keep, drop, group, rewrite}
pub use types.Kit.{suffices, frame, done, fsplit, feq_l, feq_i}
pub use types.Run.{look, store, init, forget, stop, from, and_then, no_more, of_opd, assigns_last, land, first, blocks}
pub use types.Run.{stays, leaves_loop, returns, enter, alloc1, alloc0, params1, pass1, pass0, exec, Below, again, loops}
pub use types.Run.{lit, addr, hop, load, bin, unit_lit, assigns}
pub use denote.RattleType.{RattleType}
pub use denote.Laws.{Is}
pub use denote.Plain.{uint_Makes, uint_copy, uint_Lawful, uint_vals, uint_Tells}
pub use denote.Memory.{pointee}
pub use denote.Ref.{Bor, MutBor, at_last}
pub use denote.Slice.{slice_ty, slice_val, shr_slice_vals, mut_slice_vals, MutSlice, ShrSlice, Room, finally}
pub use denote.Builtin.{u8, u16, u32, usize, bool, unit}
pub use denote.Steps.{nothing, owned}
pub use denote.Triple.Entry.{Args, Vals, on_entry}
pub use denote.Triple.Spec.{Meets, triple_of}
pub use denote.Triple.Statement.{Contract, Triple}
pub use denote.Triple.Table.{entered, cited}
pub use Rattle.walks.proofs.Values.{ByValue, of_struct, of-unit, of-bool, of-enum, of_number}
pub use Rattle.walks.proofs.Rows.{Row, Open, opens, shuts, looks, looked, store_at}
pub use Rattle.walks.proofs.Loans.{ref-to, lends_row, row_back, shares-row, share_back, copies, shortens}
pub use Rattle.walks.proofs.Calls.{entry-out, called, called-for}
pub use Rattle.walks.proofs.Locals.{by-test, homes, held, part, sets, reborrows, returns_to}
pub use Rattle.walks.proofs.Leaving.{none, room, full, frees, silent}
pub use types.Part.{agg, rep}
pub use denote.Triple.Walked.{says, needs, Stays, walk_of, ends_at}
pub use Rattle.walks.proofs.Parameters.{Parameters, shared, lent, passed, valued, stays_of, by-walk}
pub use Rattle.walks.proofs.Arrays.{big-lit, repeats, lends-array, array_back, row_room}
