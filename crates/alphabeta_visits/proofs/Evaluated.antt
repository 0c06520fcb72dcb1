-- The leaves that alpha-beta evaluates in a tree are nodes of the tree, so that a visit of a child leaves the trees of
-- its younger siblings without a mark.
use Rattle.prelude.proofs.{ℕ, ◌+◌, ◌<◌, ◌≡◌, refl, inl, inr, Bool, true, false, List, ltb}
use Rattle.gametree.specs.declared.Side.{Side}
use Rattle.lists.specs.{All}
use Rattle.gametree.specs.{Tree, leaf, inner, Children, last, ◌then◌, In, InChildren, raise, lower, SearchResult}
use Rattle.gametree.specs.{onward, alpha_beta, alpha_beta_children}
use Rattle.lists.proofs.Lists.{all_append}
use Rattle.table.specs.{frames, tree_at, WellFormed, ChildOf}
use Rattle.certificate_bounds.specs.{mark_all}
use Rattle.certificate_write.proofs.Unmarked.{Unvisited, younger-wait}

onward-all : (P : ℕ → Type 0) (b : Bool) (r q : SearchResult) → All P r.evaluated → All P q.evaluated
    → All P (onward b r q).evaluated
onward-all P true r q h k = all_append P r.evaluated q.evaluated h k
onward-all P false r q h k = h

mutual
  -- what holds of each node of a tree holds of the leaves that are evaluated in it
  evaluated-all : (P : ℕ → Type 0) (ν : ℕ → ℕ) (α β : ℕ) (T : Tree) → ((k : ℕ) → In k T → P k)
      → All P (alpha_beta ν α β T).evaluated
  evaluated-all P ν α β (leaf n) f = (f n refl, tt)
  evaluated-all P ν α β (inner n s ks) f = evaluated_children-all P ν s α β ks (λ k i. f k (inr i))

  evaluated_children-all : (P : ℕ → Type 0) (ν : ℕ → ℕ) (s : Side) (α β : ℕ) (ks : Children)
      → ((k : ℕ) → InChildren k ks → P k)
      → All P (alpha_beta_children ν s α β ks).evaluated
  evaluated_children-all P ν s α β (last t) f = evaluated-all P ν α β t f
  evaluated_children-all P ν s α β (t then ts) f =
      let r = alpha_beta ν α β t in
      let a = raise s α r.value in
      let b = lower s β r.value in
      onward-all P (ltb a b) r (alpha_beta_children ν s a b ts) (evaluated-all P ν α β t (λ k i. f k (inl i)))
      (evaluated_children-all P ν s a b ts (λ k i. f k (inr i)))

-- after the visit of a child the younger ones still wait
pub visit-waits : (t : List ℕ) → WellFormed t → (i : ℕ) → i < frames t → (ν : ℕ → ℕ) (α β k : ℕ) (e e' : List ℕ)
    → ChildOf t i k → Unvisited t e i k → e' ≡ mark_all e (alpha_beta ν α β (tree_at t k)).evaluated
    → Unvisited t e' i (k + 1)
visit-waits t wf i inside ν α β k e e' c w m =
    younger-wait t wf i inside k e e' _ c (evaluated-all (λ p. In p (tree_at t k)) ν α β (tree_at t k) (λ p i. i)) w m
