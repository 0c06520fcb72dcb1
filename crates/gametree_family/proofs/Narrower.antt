-- A narrower window reaches no other leaves.
use Rattle.prelude.proofs.{ℕ, ◌≤◌, arith, ◌≡◌, refl, true, false, List, ltb, eqb, ltb-true, lt-ltb, eq-eqb}
use Rattle.lists.specs.{among}
use Rattle.gametree.specs.declared.Side.{Side}
use Rattle.gametree.specs.declared.Side.TheVariants.{Max, Min}
use Rattle.gametree.specs.{Tree, leaf, inner, Children, last, ◌then◌, minimax, raise, lower, reached, reached_children}
use Rattle.lists.proofs.Choice.{cond_cases, or_left}
use Rattle.lists.proofs.Lists.{all_append, all_map, among-left, among-right}
use Rattle.gametree_theory.proofs.Results.Domination.{Reaches, ReachesChildren}

-- of two windows, one in the other, a child moves the ends so that they stay so
raise-mono : (s : Side) {α α' : ℕ} (m : ℕ) → α' ≤ α → raise s α' m ≤ raise s α m
raise-mono Max m h = omega arith
raise-mono Min m h = h

lower_mono : (s : Side) {β β' : ℕ} (m : ℕ) → β ≤ β' → lower s β m ≤ lower s β' m
lower_mono Max m h = h
lower_mono Min m h = omega arith

mutual
  -- the leaves reached with the window from α to β are reached with any wider one
  pub reached-narrower : (ν : ℕ → ℕ) (α β α' β' : ℕ) → α' ≤ α → β ≤ β' → (t : Tree)
      → Reaches ν α' β' t (reached ν α β t)
  reached-narrower ν α β α' β' h k (leaf n) =
      cond_cases (λ (w : List ℕ). Reaches ν α' β' (leaf n) w) (ltb α β) _ _
      (λ e.
      let l = ltb-true α β e in
      (rw (lt-ltb α' β' (omega arith)) (or_left (eqb n n) false (eq-eqb n n refl)), tt))
      (λ _. tt)
  reached-narrower ν α β α' β' h k (inner n s ks) = reached_children-narrower ν s α β α' β' h k ks

  reached_children-narrower : (ν : ℕ → ℕ) (s : Side) (α β α' β' : ℕ) → α' ≤ α → β ≤ β' → (ks : Children)
      → ReachesChildren ν α' β' s ks (reached_children ν s α β ks)
  reached_children-narrower ν s α β α' β' h k (last t) = reached-narrower ν α β α' β' h k t
  reached_children-narrower ν s α β α' β' h k (t then ts) =
      let m = minimax ν t in
      all_append (λ i. among (reached_children ν s α' β' (t then ts)) i ≡ true) (reached ν α β t) _
      (all_map _ _ (λ i e. among-left (reached ν α' β' t) _ i e) (reached ν α β t) (reached-narrower ν α β α' β' h k t))
      (all_map _ _ (λ i e. among-right (reached ν α' β' t) _ i e) (reached_children ν s (raise s α m) (lower s β m) ts)
      (reached_children-narrower ν s _ _ _ _ (raise-mono s m h) (lower_mono s m k) ts))
