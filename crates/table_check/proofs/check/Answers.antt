-- `check` meets its contract: one lemma for each of its four returns.
use Rattle.prelude.proofs.{Err}
use Rattle.prelude.proofs.{ℕ, ◌/◌, ◌%◌, ◌≤◌, ◌<◌, arith, ◌≡◌, sym, ap, ◌∙◌, List, length, lt-ltb, le-ltb, le-leb}
use Rattle.prelude.proofs.{lt-leb, ne_eqb}
use Rattle.table.specs.{frame_size, frames, max_table, answer, frames_rejection, rejection, checked}
use Rattle.table.proofs.Asked.{refused}
use Rattle.table.proofs.Acceptance.{rejection-frames}
use Rattle.table_check.proofs.check.Goals as goal

module _ (t : List ℕ) where
  empty : length t ≡ 0 → refused 1 0 ≡ checked t
  unfolding rejection
  empty z = rw (le-ltb 0 (length t) (omega arith))

  module _ (h : length t ≡ 0 → ⊥) where
    too_long : max_table < length t → refused 2 0 ≡ checked t
    unfolding rejection
    too_long l = rw (lt-ltb 0 (length t) (omega arith), lt-leb (length t) max_table l)

    module _ (l : length t ≤ max_table) where
      left_over : (length t % frame_size ≡ 0 → ⊥) → refused 3 (length t / frame_size) ≡ checked t
      unfolding rejection
      left_over n =
          rw (
            lt-ltb 0 (length t) (omega arith),
            le-leb (length t) max_table l,
            ne_eqb (length t % frame_size) 0 n,
          )

      whole : length t % frame_size ≡ 0 → answer (frames t) (frames_rejection t) ≡ checked t
      whole n = ap (answer (frames t)) (sym (rejection-frames t (omega arith) l n))

pub returns-then-length-eq0 : goal.returns-then-length-eq0
returns-then-length-eq0 c = ap Err c.at.ensures ∙ empty _ c.if-length-eq0.true

pub returns-then-length-gt-MAX_TABLE : goal.returns-then-length-gt-MAX_TABLE
returns-then-length-gt-MAX_TABLE c = ap Err c.at-then-length-gt-MAX_TABLE.ensures
    ∙ too_long _ c.if-length-eq0.false c.if-length-gt-MAX_TABLE.true

pub returns-then-length-ne0 : goal.returns-then-length-ne0
returns-then-length-ne0 c = ap Err c.at-then-length-ne0.ensures
    ∙ left_over _ c.if-length-eq0.false c.if-length-gt-MAX_TABLE.false c.if-length-ne0.true

pub returns : goal.returns
returns c = c.check_frames.ensures
    ∙ whole _ c.if-length-eq0.false c.if-length-gt-MAX_TABLE.false c.if-length-ne0.false
