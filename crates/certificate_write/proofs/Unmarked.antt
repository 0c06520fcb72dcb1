-- No leaf is evaluated twice: a visit marks leaves of the node's own tree only, and the trees of its younger siblings
-- have no node in common with that, so that they stay without a mark until their own visit.
use Rattle.prelude.proofs.{ℕ, ◌+◌, ◌≤◌, ◌<◌, arith, ◌≡◌, sym, ◌∙◌, subst, List}
use Rattle.lists.specs.{All}
use Rattle.lists.proofs.Lists.{all_map}
use Rattle.gametree.specs.{Tree, In}
use Rattle.table.specs.{frames, tree_at, WellFormed, ChildOf}
use Rattle.table.proofs.Nodes.{in-parent, children-apart}
use Rattle.certificate_bounds.specs.{mark_all}
use Rattle.certificate_write.specs.{Unmarked}
use Rattle.certificate_bounds.proofs.Marking.{mark_all-other}

-- marks in one tree leave another without a mark
marks-apart : (T U : Tree) (e w : List ℕ) → ((p : ℕ) → In p T → In p U → ⊥) → All (λ k. In k T) w → Unmarked e U
    → Unmarked (mark_all e w) U
marks-apart T U e w d a u p i =
    mark_all-other e w p (all_map _ _ (λ k j q. d p (subst (λ x. In x T) (sym q) j) i) w a) ∙ u p i

-- the trees of the children of node i from k on are without a mark
abbrev pub Unvisited : (t e : List ℕ) (i k : ℕ) → Type 0
Unvisited t e i k = (j : ℕ) → k ≤ j → ChildOf t i j → Unmarked e (tree_at t j)

module _ (t : List ℕ) (wf : WellFormed t) (i : ℕ) (inside : i < frames t) where
  -- the children of a node whose tree is without a mark all wait
  pub all-wait : (e : List ℕ) (k : ℕ) → Unmarked e (tree_at t i) → Unvisited t e i k
  all-wait e k u j a c p x = u p (in-parent t wf inside c p x)

  -- after the visit of a child, which marks nodes w of its tree, the younger ones still wait
  pub younger-wait : (k : ℕ) (e e' w : List ℕ) → ChildOf t i k → All (λ p. In p (tree_at t k)) w → Unvisited t e i k
      → e' ≡ mark_all e w
      → Unvisited t e' i (k + 1)
  younger-wait k e e' w c own h m j a d =
      rw m (marks-apart (tree_at t k) (tree_at t j) e w
      (λ p x y. omega (arith, children-apart t wf inside c d p x y)) own (h j (omega arith) d))
