-- The flags of the solution trees follow from the bounds by the rule for flags.
use Rattle.prelude.proofs.{ℕ, ◌+◌, ◌≡◌, refl, sym, ap₂, ◌∙◌, Bool, true, false, cond, ◌&&◌, List, eqb}
use Rattle.gametree.specs.declared.Side.{Side}
use Rattle.gametree.specs.declared.Side.TheVariants.{Max, Min}
use Rattle.gametree.specs.{same, flag}
use Rattle.table.specs.{side_of, tree, valuation, WellFormed}
use Rattle.certificate_flags.specs.{movers_flag, child_flag, FlagsFrom}
use Rattle.certificate_write.proofs.Chosen.{Bounded, chosen_of, chosen-arrays}
use Rattle.certificate_write.proofs.Solutions.{solution, solution-root, solution-child}

-- the rule for the two parts of a flag is the rule for the flag
flag-rule : (q : Side) (x y e : Bool)
    → cond (cond (same Max q) x (x && e)) 1 0 + cond (cond (same Min q) y (y && e)) 2 0
    ≡ cond e (cond x 1 0 + cond y 2 0) (movers_flag q (cond x 1 0 + cond y 2 0))
flag-rule Max true true true = refl
flag-rule Max true true false = refl
flag-rule Max true false true = refl
flag-rule Max true false false = refl
flag-rule Max false true true = refl
flag-rule Max false true false = refl
flag-rule Max false false true = refl
flag-rule Max false false false = refl
flag-rule Min true true true = refl
flag-rule Min true true false = refl
flag-rule Min true false true = refl
flag-rule Min true false false = refl
flag-rule Min false true true = refl
flag-rule Min false true false = refl
flag-rule Min false false true = refl
flag-rule Min false false false = refl

-- the flags of the solution trees follow from arrays that hold the sides and the bounds
pub flags-follow : (t : List ℕ) → WellFormed t → (E : ℕ → Bool) {positions lows highs : List ℕ}
    → Bounded t E positions lows highs → FlagsFrom t positions lows highs (flag (valuation t) E (tree t))
flags-follow t wf E {positions} {lows} {highs} b =
    record {
      at_root = ap₂ (λ x y. cond x 1 0 + cond y 2 0) (solution-root t wf E Max) (solution-root t wf E Min);
      at_child = λ i k h c.
          let f = flag (valuation t) E (tree t) in
          let q = side_of t i in
          ap₂ (λ x y. cond x 1 0 + cond y 2 0) (solution-child t wf E Max i k h c) (solution-child t wf E Min i k h c)
          ∙ flag-rule q (solution t wf E Max i) (solution t wf E Min i) (eqb k (chosen_of t E q i))
          ∙ ap₂ (λ s x. child_flag s (f i) x k)
          (sym (b.sides_are i h))
          (sym (chosen-arrays t wf E b i h));
    }
