-- `judge` meets its contract: a "no" settles the verdict, and equal values give it.
use Rattle.prelude.proofs.{ℕ, arith, ◌≡◌, ap, ◌∙◌, List, w16, to_z-of_z, eq-eqb, ne_eqb, Result, Ok, Err, ℤ}
use Rattle.gametree.specs.declared.Side.TheVariants.{Max, Min}
use Rattle.table.specs.{frames, ◌and_then◌, answer, value_of}
use Rattle.table.proofs.Asked.{passed-on}
use Rattle.table.specs.declared.Rejection.{Rejection}
use Rattle.certificate_check.specs.{tree_value, check_tree, check14, trees_rejection, judged}
use Rattle.certificate_check.proofs.Values.{value-within}
use Rattle.certificate_check.proofs.Judging.{judged-until, judged-onward}
use Rattle.certificate_check.proofs.judge.Goals as goal

module _ (t flags : List ℕ) where
  -- the verdict that is due
  abbrev due : Result ℤ Rejection
  due = judged t flags (trees_rejection t flags)

  no-max : (r : Rejection) → Err r ≡ answer (frames t) (check_tree 12 Max t flags) → Err r ≡ due
  unfolding trees_rejection
  no-max r e =
      judged-until t flags (frames t) (check_tree 12 Max t flags) (check_tree 13 Min t flags and_then check14 t flags)
      r e

  module _ (k : ℕ) (e : Ok k ≡ answer (frames t) (check_tree 12 Max t flags)) where
    no-min : (r : Rejection) → Err r ≡ answer (frames t) (check_tree 13 Min t flags) → Err r ≡ due
    unfolding trees_rejection
    no-min r f =
        judged-until t flags (frames t) (check_tree 13 Min t flags) (check14 t flags) r f
        ∙ judged-onward t flags (frames t) (check_tree 12 Max t flags) _ k e

    -- both sets of flags are solution trees
    both_hold : (j : ℕ) → Ok j ≡ answer (frames t) (check_tree 13 Min t flags)
        → judged t flags (check14 t flags) ≡ due
    unfolding trees_rejection
    both_hold j f =
        judged-onward t flags (frames t) (check_tree 13 Min t flags) (check14 t flags) j f
        ∙ judged-onward t flags (frames t) (check_tree 12 Max t flags) _ k e

  module _ (x y : ℕ) (p : x ≡ tree_value Max t flags) (q : y ≡ tree_value Min t flags) where
    unequal : (x ≡ y → ⊥) → Err (record { number = 14; place = 0 }) ≡ judged t flags (check14 t flags)
    unequal h = rw (← p, ← q, ne_eqb x y h)

    equal : x ≡ y → Ok (value_of x) ≡ judged t flags (check14 t flags)
    equal h = rw (← p, ← q, eq-eqb x y h)

pub returns-in_err-check_rules : goal.returns-in_err-check_rules
returns-in_err-check_rules c = passed-on _ _ c.from_residual.ensures.1
    ∙ no-max c.args.table.now c.args.flags.now _ c.in_err-check_rules.ensures

pub returns-in_err-check_rules-2 : goal.returns-in_err-check_rules-2
returns-in_err-check_rules-2 c = passed-on _ _ c.from_residual-in_err-check_rules-2.ensures.1
    ∙ no-min c.args.table.now c.args.flags.now _ c.in_ok-check_rules.ensures _ c.in_err-check_rules-2.ensures

pub returns-then-score-values : goal.returns-then-score-values
returns-then-score-values c =
    -- questions 12 and 13 have passed
    let passed : judged c.args.table.now c.args.flags.now (check14 c.args.table.now c.args.flags.now) ≡ due
    c.args.table.now c.args.flags.now = both_hold c.args.table.now c.args.flags.now _
    c.in_ok-check_rules.ensures _
    c.in_ok-check_rules-2.ensures in
    ap Err c.at.ensures
    ∙ unequal _ _ _ _ c.tree_values-values.ensures.0 c.tree_values-values.ensures.1 c.if-score-values.true ∙ passed

pub value-requires : goal.value-requires
value-requires c = omega (
  arith,
  c.tree_values-values.ensures.0,
  value-within Max c.args.table.now c.args.flags.now c.requires.0,
)

pub returns : goal.returns
returns c =
    -- questions 12 and 13 have passed
    let passed : judged c.args.table.now c.args.flags.now (check14 c.args.table.now c.args.flags.now) ≡ due
    c.args.table.now c.args.flags.now = both_hold c.args.table.now c.args.flags.now _
    c.in_ok-check_rules.ensures _
    c.in_ok-check_rules-2.ensures in
    ap Ok (to_z-of_z w16 c.value.result (record { sfits = c.value.type_inv }) ∙ c.value.ensures)
    ∙ equal _ _ _ _ c.tree_values-values.ensures.0 c.tree_values-values.ensures.1 c.if-score-values.false
    ∙ passed
