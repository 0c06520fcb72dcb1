-- How many replacements SSS* can still make in a subtree until its node stands on the list SOLVED.
use Rattle.prelude.proofs.{ℕ, suc, ◌+◌, ◌*◌, ◌≤◌, ◌<◌, arith, ◌≡◌, refl, ap, inl, inr, Bool, true, false}
use Rattle.gametree.specs.declared.Side.{Side}
use Rattle.gametree.specs.declared.Side.TheVariants.{Max, Min}
use Rattle.gametree.specs.{Tree, leaf, inner, Children, last, ◌then◌, size, size_children, Memo, MemoChildren}
use Rattle.gametree.specs.{fresh_children}
use Rattle.gametree_theory.proofs.Minimax.Nodes.{size-then}
use Rattle.gametree_theory.proofs.Sss.Frontier.{outdone, ReadyChildren, Fitted, FittedChildren, rest-fresh}
use Rattle.gametree_theory.proofs.Sss.Frontier.{fitted-fresh}
use Rattle.gametree_theory.proofs.Sss.Frontier.{fitted-ready}

-- of a first child, a, and the others, b: at Min the first child's solution is handed up too
abbrev join-full : Side → (a b : ℕ) → ℕ
join-full Max a b = a + b
join-full Min a b = suc a + b

-- in an untouched subtree: at Max one child's solution is handed up, at Min each child's
abbrev mutual
  pub full : Tree → ℕ
  full (leaf n) = 1
  full (inner n s ks) = suc (full_children s ks)

  pub full_children : Side → Children → ℕ
  full_children s (last t) = suc (full t)
  full_children s (t then ts) = join-full s (full t) (full_children s ts)

-- of a first child, a, and the others, r, or f if they are untouched; the Bool says if one of these has a lesser high
abbrev join-part : Side → Bool → (a r f : ℕ) → ℕ
join-part Max b a r f = a + r
join-part Min true a r f = r
join-part Min false a r f = suc a + f

-- in a subtree that was found below
abbrev mutual
  pub part : (ν : ℕ → ℕ) (t : Tree) → Memo t → ℕ
  part ν (leaf n) m = 0
  part ν (inner n s ks) m = part_children ν s ks m.kids

  pub part_children : (ν : ℕ → ℕ) → Side → (ks : Children) → MemoChildren ks → ℕ
  part_children ν s (last t) m = suc (part ν t m)
  part_children ν s (t then ts) m =
      join-part s (outdone ν s t ts m) (part ν t m.first) (part_children ν s ts m.rest) (full_children s ts)

-- in a subtree that a pass with the test γ may enter
abbrev pub work : (ν : ℕ → ℕ) (γ : ℕ) (t : Tree) (m : Memo t) → Fitted ν γ t m → ℕ
work ν γ t m (inl e) = full t
work ν γ t m (inr r) = part ν t m

-- and at its children
abbrev pub work_children : (ν : ℕ → ℕ) (γ : ℕ) (s : Side) (ks : Children) (m : MemoChildren ks)
    → FittedChildren ν γ s ks m → ℕ
work_children ν γ s (last t) m w = suc (work ν γ t m w)
work_children ν γ Max (t then ts) m w = work ν γ t m.first w.0 + work_children ν γ Max ts m.rest w.1
work_children ν γ Min (t then ts) m (inl w) = work_children ν γ Min ts m.rest w.1
work_children ν γ Min (t then ts) m (inr w) = suc (work ν γ t m.first w.0) + full_children Min ts

module _ (ν : ℕ → ℕ) (γ : ℕ) where
  -- at untouched children
  pub work-fresh : (s : Side) (ks : Children) (m : MemoChildren ks) (e : m ≡ fresh_children ks)
      → work_children ν γ s ks m (fitted-fresh ν γ s ks m e) ≡ full_children s ks
  work-fresh s (last t) m e = refl
  work-fresh Max (t then ts) m e = ap (λ x. full t + x) (work-fresh Max ts m.rest (rest-fresh t ts e))
  work-fresh Min (t then ts) m e = refl

  -- at ready ones
  pub work-ready : (s : Side) (ks : Children) (m : MemoChildren ks) (r : ReadyChildren ν γ s ks m)
      → work_children ν γ s ks m (fitted-ready ν γ s ks m r) ≡ part_children ν s ks m
  work-ready s (last t) m r = refl
  work-ready Max (t then ts) m r = ap (λ x. part ν t m.first + x) (work-ready Max ts m.rest r.1)
  work-ready Min (t then ts) m (inl r) = rw r.0.1 (work-ready Min ts m.rest r.1)
  work-ready Min (t then ts) m (inr r) = rw r.1.1 refl

  -- handing up is left to do
  pub work-positive : (s : Side) (ks : Children) (m : MemoChildren ks) (w : FittedChildren ν γ s ks m)
      → 0 < work_children ν γ s ks m w
  work-positive s (last t) m w = omega arith
  work-positive Max (t then ts) m w = omega (arith, work-positive Max ts m.rest w.1)
  work-positive Min (t then ts) m (inl w) = work-positive Min ts m.rest w.1
  work-positive Min (t then ts) m (inr w) = omega arith

mutual
  -- an untouched tree costs at most twice its nodes, less 1
  pub full_size : (t : Tree) → full t < 2 * size t
  full_size (leaf n) = omega arith
  full_size (inner n s ks) = omega (arith, full_children-size_children s ks)

  full_children-size_children : (s : Side) (ks : Children) → full_children s ks ≤ 2 * size_children ks
  full_children-size_children s (last t) = full_size t
  full_children-size_children Max (t then ts) =
      omega (arith, size-then t ts, full_size t, full_children-size_children Max ts)
  full_children-size_children Min (t then ts) =
      omega (arith, size-then t ts, full_size t, full_children-size_children Min ts)
