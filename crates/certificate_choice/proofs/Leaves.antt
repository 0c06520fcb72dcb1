-- The flagged leaves of a certificate are the leaves of its pair of solution trees, a shared one counted once.
use Rattle.prelude.proofs.{ℕ, zero, suc, ◌≤◌, arith, ◌≡◌, refl, sym, ◌∙◌, cond, ◌||◌, List, ltb, get_or, ne_eqb}
use Rattle.gametree.specs.declared.Side.TheVariants.{Max, Min}
use Rattle.gametree.specs.{in_both, inside, pair_leaves}
use Rattle.gametree_theory.proofs.Certificates.Leaves.{pair-count}
use Rattle.table.specs.{frames, child_count, tree}
use Rattle.table.proofs.Trees.{zero-or-suc}
use Rattle.table.proofs.Totals.{at_node, sum_same, count-sum, tree-leaf-count}
use Rattle.table.proofs.Acceptance.{accepted-formed}
use Rattle.certificate_check.specs.{member}
use Rattle.certificate_check.specs.Certificate.{Certificate}
use Rattle.certificate_choice.specs.{flagged_leaf, flagged_leaves}

-- a flag from 1 to 3 puts its node into one of the two trees, or both
in-a-tree : (f : ℕ) → f ≤ in_both → ltb 0 f ≡ (inside Max f || inside Min f)
in-a-tree zero h = refl
in-a-tree (suc zero) h = refl
in-a-tree (suc (suc zero)) h = refl
in-a-tree (suc (suc (suc zero))) h = refl
in-a-tree (suc (suc (suc (suc f)))) h = absurd (omega arith)

-- the flagged leaves of a certificate
pub flagged-pair : (t flags : List ℕ) {v : ℕ} → Certificate t flags v
    → flagged_leaves t flags ≡ pair_leaves (member Max flags) (member Min flags) (tree t)
flagged-pair t flags c =
    count-sum (flagged_leaf t flags) (frames t)
    ∙ sum_same _ (λ i. at_node (λ n. cond (member Max flags n || member Min flags n) 1 0) (λ _. 0) (child_count t i) i)
    (frames t) (λ i h.
    zero-or-suc (child_count t i) (λ z. rw (z, in-a-tree (get_or flags i 0) (c.in_range i h)))
    (λ n z. rw (z, ne_eqb (suc n) 0 (λ e. omega arith))))
    ∙ sym (tree-leaf-count t (accepted-formed t c.accepted) (λ n. member Max flags n || member Min flags n))
    ∙ sym (pair-count (member Max flags) (member Min flags) (tree t))
