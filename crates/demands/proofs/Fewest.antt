-- No result counts fewer leaves than the smallest pair has, nor fewer than the entry of a regular table: for
-- `smallest-pair` and `counts-no-fewer` in Sentences.antt.
use Rattle.prelude.proofs.{ℕ, ◌≤◌, arith, ◌≡◌, ap, Bool, List, Ok}
use Rattle.gametree.specs.{Smallest, pair_leaves}
use Rattle.gametree_theory.proofs.Minimax.Counts.{pair_leaves-all}
use Rattle.gametree_theory.proofs.Theorems.{search-smallest}
use Rattle.table.specs.{frames, tree, valuation, RegularTable}
use Rattle.certificate_bounds.specs.{ones}
use Rattle.methods.specs.declared.Findings.{Findings}
use Rattle.methods.specs.declared.Answer.TheVariants.{Found}
use Rattle.methods.specs.{Lent}
use Rattle.methods.proofs.Rules as rules
use Rattle.plain.specs.declared.PlainResult.{PlainResult}
use Rattle.least_count.specs.{least_answer}
use Rattle.demands.specs.{Call}
use Rattle.demands.proofs.Running.{Says, PlainSays}
use Rattle.demands.proofs.Views as views
use Rattle.demands.proofs.Handed.{handed, proper}
use Rattle.demands.proofs.PlainCalls.{plain-accepted, leaves-marked}
use Rattle.demands.proofs.Demand3.{pair-exists}
use Rattle.demands.proofs.LeastCounts.{every-pair}

module _ (c : Call) (s : Says c) (f : Findings) (e : c.answer ≡ Found f) where
  pub smallest : (g h : ℕ → Bool) → Smallest (valuation c.table) (tree c.table) g h
      → pair_leaves g h (tree c.table) ≤ f.leaves
  smallest g h m =
      rw (ap (λ x. x.leaves) (views.findings c s f e))
      (search-smallest (valuation c.table) (tree c.table) (proper (handed c s f e)) g h m
      (rules.searched c.method c.table (views.nothing-beyond c s f e)))

  pub no-fewer : (w d n : ℕ) → RegularTable w d c.table → least_answer w d ≡ Ok n → n ≤ f.leaves
  no-fewer w d n r i =
      let a = (handed c s f e).accepted in
      let p = pair-exists c.table a in
      omega (
        arith,
        every-pair c.table w d r n i a p.0 p.1 _ p.2.certifies,
        smallest p.0 p.1 p.2,
      )

-- nor does the plain engine mark fewer
pub no-fewer-plain : (t : List ℕ) (f : PlainResult) (l l' : Lent) → PlainSays t l f l' → (w d n : ℕ)
    → RegularTable w d t → least_answer w d ≡ Ok n → n ≤ ones l'.marks (frames t)
no-fewer-plain t f l l' s w d n r i =
    let a = plain-accepted t f l l' s in
    let p = pair-exists t a in
    omega (
      arith,
      every-pair t w d r n i a p.0 p.1 _ p.2.certifies,
      pair_leaves-all p.0 p.1 (tree t),
      leaves-marked t f l l' s,
    )
