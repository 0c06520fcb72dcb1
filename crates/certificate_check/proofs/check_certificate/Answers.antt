-- `check_certificate` meets its contract: one lemma for each of its three returns.
use Rattle.prelude.proofs.{ℕ, ◌≤◌, ◌<◌, arith, ◌≡◌, ap, ◌∙◌, List, length, le-leb, lt-leb, Result, Ok, Err, ℤ}
use Rattle.table.specs.declared.Rejection.{Rejection}
use Rattle.table.proofs.Asked.{passed-on}
use Rattle.table.specs.{frames, answer}
use Rattle.certificate_check.specs.{check11, trees_rejection, flags_rejection, judged}
use Rattle.certificate_check.proofs.Judging.{judged-until, judged-onward}
use Rattle.certificate_check.proofs.check_certificate.Goals as goal

module _ (t flags : List ℕ) where
  -- the verdict that is due
  abbrev due : Result ℤ Rejection
  due = judged t flags (flags_rejection t flags)

  too_few : length flags < frames t → Err (record { number = 10; place = 0 }) ≡ due
  unfolding flags_rejection
  too_few h = rw (lt-leb _ _ h)

  module _ (h : frames t ≤ length flags) where
    wrong-flag : (r : Rejection) → Err r ≡ answer (frames t) (check11 t flags)
        → Err r ≡ due
    unfolding flags_rejection
    wrong-flag r e =
        rw (le-leb _ _ h) (judged-until t flags (frames t) (check11 t flags) (trees_rejection t flags) r e)

    right-flags : (k : ℕ) → Ok k ≡ answer (frames t) (check11 t flags)
        → judged t flags (trees_rejection t flags) ≡ due
    unfolding flags_rejection
    right-flags k e =
        rw (le-leb _ _ h) (judged-onward t flags (frames t) (check11 t flags) (trees_rejection t flags) k e)

pub returns-then-flags-frame_count : goal.returns-then-flags-frame_count
returns-then-flags-frame_count c = ap Err c.at.ensures ∙ too_few c.args.table.now c.args.flags.now (omega arith)

pub returns-in_err-check_flags : goal.returns-in_err-check_flags
returns-in_err-check_flags c = passed-on _ _ c.from_residual.ensures.1
    ∙ wrong-flag c.args.table.now c.args.flags.now (omega arith) _ c.in_err-check_flags.ensures

pub returns : goal.returns
returns c = c.check_trees.ensures
    ∙ right-flags c.args.table.now c.args.flags.now (omega arith) _ c.in_ok-check_flags.ensures
