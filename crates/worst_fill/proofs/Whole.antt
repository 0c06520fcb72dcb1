-- The call: from the answer to the questions to the outcome.
use Rattle.prelude.proofs.{ℕ, ◌+◌, arith, ◌≡◌, refl, sym, ap, Option, none, some, List, length, Result, Ok, Err}
use Rattle.lists.proofs.Choice.{clash}
use Rattle.gametree.specs.declared.Side.TheVariants.{Max}
use Rattle.gametree.specs.{leaves}
use Rattle.gametree_theory.proofs.Minimax.Counts.{leaves-size}
use Rattle.table.specs.declared.Rejection.{Rejection}
use Rattle.table.specs.{unless, Outcome, ◌leaving◌, tree, rejection, Accepted, checked}
use Rattle.table.proofs.Acceptance.{accepted-formed, nodes-accepted, rejected-first}
use Rattle.table.proofs.Positions.{position-root}
use Rattle.table.proofs.Totals.{tree-size}
use Rattle.worst_fill.specs.{ranked, worst_fill, fill_outcome, Fillable}

module _ (t : List ℕ) where
  -- an accepted table can be filled from the root on
  pub root-fillable : Accepted t → Fillable t 0 Max 0
  root-fillable a =
      let wf = accepted-formed t a in
      record {
        formed = wf;
        inside = wf.non_empty;
        mover = sym (ap (λ p. p.side) (position-root t));
        at_most = omega (arith, leaves-size (tree t), tree-size t wf, wf.at_most);
      }

  module _ (n : ℕ) (e : Ok n ≡ checked t) where
    -- a table whose check gives nodes can be filled
    pub checked-fillable : Fillable t 0 Max 0
    checked-fillable = root-fillable (nodes-accepted t n e).0

    -- and what the recursion gives is the outcome
    pub fill_gives : (x : ℕ) (u : List ℕ) → x ≡ 0 + length (leaves (tree t)) → u ≡ ranked 0 (tree t) t
        → Ok x leaving u ≡ fill_outcome t
    unfolding worst_fill
    fill_gives x u p q =
        let z : x ≡ length (leaves (tree t)) = omega arith in rw ((nodes-accepted t n e).0, z, q)

  -- a rejection leaves the table
  pub fill-refused : (r : Rejection) → Err r ≡ checked t
      → Err r leaving t ≡ fill_outcome t
  fill-refused r e = rw (rejected-first t r e)

  -- what a number of leaves for an answer says, and what a rejection
  abbrev outcome_by : Option Rejection → Outcome (Result ℕ Rejection) (List ℕ)
  outcome_by q = unless q (λ r. Err r leaving t) (Ok (length (leaves (tree t))) leaving worst_fill t)

  given-parts : (q : Option Rejection) (n : ℕ) → (outcome_by q).answer ≡ Ok n
      → (q ≡ none) × (n ≡ length (leaves (tree t))) × ((outcome_by q).left ≡ worst_fill t)
  given-parts none n e = (refl, cc, refl)
  given-parts (some r) n e = clash (cc)

  refused-parts : (q : Option Rejection) (r : Rejection) → (outcome_by q).answer ≡ Err r
      → (q ≡ some r) × ((outcome_by q).left ≡ t)
  refused-parts none r e = clash (cc)
  refused-parts (some x) r e = (cc, refl)

  pub fill-given : (n : ℕ) → (fill_outcome t).answer ≡ Ok n
      → Accepted t × (n ≡ length (leaves (tree t))) × ((fill_outcome t).left ≡ worst_fill t)
  fill-given n e = given-parts (rejection t) n e

  pub fill-kept : (r : Rejection) → (fill_outcome t).answer ≡ Err r
      → (rejection t ≡ some r) × ((fill_outcome t).left ≡ t)
  fill-kept r e = refused-parts (rejection t) r e

  -- an accepted table is filled
  pub fill-accepted : Accepted t → fill_outcome t ≡ Ok (length (leaves (tree t))) leaving worst_fill t
  fill-accepted a = ap outcome_by a
