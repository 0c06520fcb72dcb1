-- The bounds of the nodes of a table, from the leaves up.
use Rattle.prelude.proofs.{ℕ, zero, suc, ◌+◌, ◌-◌, ◌≤◌, ◌<◌, arith, ◌≡◌, refl, sym, ap, ap₂, ◌∙◌, Bool, List, get_or}
use Rattle.prelude.proofs.{set}
use Rattle.prelude.proofs.{set-get_or, eq-eqb, ne_eqb}
use Rattle.gametree.specs.declared.Side.{Side}
use Rattle.gametree.specs.{Tree, least, greatest, better, minimax, minimax_children, known}
use Rattle.table.specs.{frames, first_child, child_count, side_of, children_from, tree_at, valuation, WellFormed}
use Rattle.table.specs.{ChildOf}
use Rattle.table.proofs.Next.{child-later, child-within}
use Rattle.table.proofs.Trees.{tree-leaf, tree-inner}
use Rattle.certificate_bounds.specs.{marked, best_in, bound_of, leaf_bounds}
use Rattle.certificate_bounds.proofs.BottomUp.{Rising, rising-at}

-- a marked leaf has its score for both bounds, another one the least and the greatest score
pub bounds-marked : (t e : List ℕ) (k v : ℕ) → get_or e k 0 ≡ 1 → v ≡ valuation t k
    → record { low = v; high = v } ≡ leaf_bounds t (marked e) k
bounds-marked t e k v h d = rw (eq-eqb (get_or e k 0) 1 h, d)

pub bounds-unmarked : (t e : List ℕ) (k : ℕ) → (get_or e k 0 ≡ 1 → ⊥)
    → record { low = least; high = greatest } ≡ leaf_bounds t (marked e) k
bounds-unmarked t e k h = rw (ne_eqb (get_or e k 0) 1 h)

-- a mark of 1 stays when the leaf is evaluated once more
pub mark-again : (e : List ℕ) (k : ℕ) → get_or e k 0 ≡ 1 → set e k 1 ≡ e
mark-again e k h = ap (set e k) (sym h) ∙ set-get_or e k 0

-- the same entries have the same best one
pub best-same : (s : Side) (f g : ℕ → ℕ) (i n : ℕ) → ((k : ℕ) → i ≤ k → k ≤ i + n → f k ≡ g k)
    → best_in s f i n ≡ best_in s g i n
unfolding best_in
best-same s f g i zero e = e i (omega arith) (omega arith)
best-same s f g i (suc n) e =
    ap₂ (better s) (e i (omega arith) (omega arith))
    (best-same s f g (i + 1) n (λ k a b. e k (omega arith) (omega arith)))

-- the minimax value of a node is the best of its children's
pub minimax-best : (μ : ℕ → ℕ) (s : Side) (g : ℕ → Tree) (i n : ℕ)
    → minimax_children μ s (children_from g i n) ≡ best_in s (λ k. minimax μ (g k)) i n
unfolding best_in children_from
minimax-best μ s g i zero = refl
minimax-best μ s g i (suc n) = ap (better s (minimax μ (g i))) (minimax-best μ s g (i + 1) n)

module _ (t : List ℕ) (wf : WellFormed t) (E : ℕ → Bool) (x i : ℕ) (h : i < frames t) where
  -- the bound of a leaf
  pub bound-leaf : child_count t i ≡ 0 → known (valuation t) E x i ≡ bound_of t E x i
  bound-leaf e = rw (tree-leaf t wf i h e)

  -- the bound of an inner node: the best of its children's
  pub bound-inner : (f : ℕ → ℕ) → ((k : ℕ) → ChildOf t i k → f k ≡ bound_of t E x k) → {first count v : ℕ} {s : Side}
      → first ≡ first_child t i → count ≡ child_count t i → 0 < count → s ≡ side_of t i
      → v ≡ best_in s f first (first + count - (first + 1)) → v ≡ bound_of t E x i
  bound-inner f same {first} {count} {v} {s} p q c d b =
      let n = first + count - (first + 1) in
      b ∙ best-same s f (bound_of t E x) first n (λ k l m. same k (record { from = omega arith; to = omega arith }))
      ∙ sym (minimax-best (known (valuation t) E x) s (tree_at t) first n)
      ∙ rw (tree-inner t wf i n h (omega arith), ← p, ← d)

-- in a loop from the leaves up, the bounds of a node's children are filled before the node's own
pub children-bounded : (t : List ℕ) → WellFormed t → (f : ℕ → ℕ) {b₀ b : List ℕ} {i : ℕ}
    → Rising f (frames t) b₀ b i → 0 < i → (k : ℕ) → ChildOf t (i - 1) k → get_or b k 0 ≡ f k
children-bounded t wf f {b₀} {b} {i} r h k c =
    let l : i - 1 < frames t = omega (arith, r.inside) in
    rising-at f r k (omega (arith, child-later t wf l c)) (child-within t wf l c)
