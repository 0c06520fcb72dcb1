-- The frontier: the states of SSS* that stand for a subtree between two passes of MTD, and what a pass makes of them.
-- Here are the definitions, and steps 2, 3 and 4 of the argument that Simulation sets out.
use Rattle.prelude.proofs.{ℕ, ◌≤◌, ◌<◌, le_refl, le_trans, lt_of_le_of_lt, le_of_lt, arith, ◌≡◌, refl, ◌∙◌, ap, ◌⊎◌}
use Rattle.prelude.proofs.{inl, inr, Bool, true, false, not, List, [], ◌∷◌, ◌++◌, map, ltb, ltb-true, leb-true}
use Rattle.prelude.proofs.{leb-false, not-false, le-leb, lt-ltb, le-ltb}
use Rattle.lists.specs.{All}
use Rattle.gametree.specs.declared.Side.{Side}
use Rattle.gametree.specs.declared.Side.TheVariants.{Max, Min}
use Rattle.gametree.specs.{Tree, leaf, inner, Children, last, ◌then◌, greatest, number, Scored, ScoredChildren, Memo}
use Rattle.gametree.specs.{MemoChildren, memo_high, memo_high_children, Pass, PassChildren, pass, pass_children, fresh}
use Rattle.gametree.specs.{fresh_children, first_of, others_of, State, live, solved}
use Rattle.lists.proofs.Choice.{cond_cases, true-not-false}
use Rattle.lists.proofs.Lists.{all_append, all_left, all_right, all_map, all-zip}
use Rattle.gametree_theory.proofs.Mtd.Sound.{memo_low, memo_low-minimax, minimax-memo_high, Kept, KeptChildren}
use Rattle.gametree_theory.proofs.Mtd.Sound.{sound}
use Rattle.gametree_theory.proofs.Mtd.Sound.{sound_children}
use Rattle.gametree_theory.proofs.Mtd.Value.{fresh_children-memo_high}

-- no merit of the list exceeds γ
abbrev pub AtMost : ℕ → List State → Type 0
AtMost γ L = All (λ s. s.merit ≤ γ) L

-- each merit of the list is below γ
abbrev pub Below : ℕ → List State → Type 0
Below γ L = All (λ s. s.merit < γ) L

-- THE STATES OF A NODE

-- has a younger sibling of the first child a lesser high
abbrev pub outdone : (ν : ℕ → ℕ) → Side → (t : Tree) (ts : Children) → MemoChildren (t then ts) → Bool
outdone ν s t ts m = ltb (memo_high_children ν s ts m.rest) (memo_high ν t m.first)

-- the frontiers of two siblings: at Max both, at Min that of the one with the lesser high
abbrev pub join-frontier : Side → Bool → List State → List State → List State
join-frontier Max b F G = F ++ G
join-frontier Min true F G = G
join-frontier Min false F G = F

-- the states that stand for a node that was found below: a leaf's own; at Max those of all children, at Min those of
-- the child of least high, which is the first that was not found not below
abbrev mutual
  pub frontier : (ν : ℕ → ℕ) (t : Tree) → Memo t → List State
  frontier ν (leaf n) m = solved n (ν n) ∷ []
  frontier ν (inner n s ks) m = frontier_children ν s ks m.kids

  pub frontier_children : (ν : ℕ → ℕ) → Side → (ks : Children) → MemoChildren ks → List State
  frontier_children ν s (last t) m = frontier ν t m
  frontier_children ν s (t then ts) m =
      join-frontier s (outdone ν s t ts m) (frontier ν t m.first) (frontier_children ν s ts m.rest)

-- a node that a pass found not below a test of γ or more: a leaf is evaluated and its score is so, an inner node is
-- remembered
abbrev pub Found : (ν : ℕ → ℕ) → ℕ → (t : Tree) → Memo t → Type 0
Found ν γ (leaf n) m = (m.evaluated ≡ true) × (γ ≤ ν n)
Found ν γ (inner n s ks) m = m.not_below ≡ true

-- how a fact of children is made up: at Max of one of the first child and one of the others; at Min the first was found
-- and the fact is one of the others, or it is one of the first and the others are untouched
abbrev join-ready : Side → (found first others untouched : Type 0) → Type 0
join-ready Max f r rs u = r × rs
join-ready Min f r rs u = (f × rs) ⊎ (r × u)

-- a node that was found below by the last pass that tried it, with a test of γ or more: at Max all children are ready,
-- at Min some were found not below, the next is ready, and those after it are untouched
abbrev mutual
  pub Ready : (ν : ℕ → ℕ) → ℕ → (t : Tree) → Memo t → Type 0
  Ready ν γ (leaf n) m = m.evaluated ≡ true
  Ready ν γ (inner n s ks) m = (m.not_below ≡ false) × ReadyChildren ν γ s ks m.kids

  pub ReadyChildren : (ν : ℕ → ℕ) → ℕ → Side → (ks : Children) → MemoChildren ks → Type 0
  ReadyChildren ν γ s (last t) m = Ready ν γ t m
  ReadyChildren ν γ s (t then ts) m =
      join-ready s (Found ν γ t m.first × (outdone ν s t ts m ≡ true)) (Ready ν γ t m.first)
      (ReadyChildren ν γ s ts m.rest) ((m.rest ≡ fresh_children ts) × (outdone ν s t ts m ≡ false))

-- a node that a pass may enter: untouched, or found below
abbrev pub Fitted : (ν : ℕ → ℕ) → ℕ → (t : Tree) → Memo t → Type 0
Fitted ν γ t m = (m ≡ fresh t) ⊎ Ready ν γ t m

-- and the children of such a node
abbrev pub FittedChildren : (ν : ℕ → ℕ) → ℕ → Side → (ks : Children) → MemoChildren ks → Type 0
FittedChildren ν γ s (last t) m = Fitted ν γ t m
FittedChildren ν γ s (t then ts) m =
    join-ready s (Found ν γ t m.first) (Fitted ν γ t m.first) (FittedChildren ν γ s ts m.rest)
    (m.rest ≡ fresh_children ts)

-- what is found not below a test is not below a lower one
found-lower : (ν : ℕ → ℕ) {γ δ : ℕ} (t : Tree) (m : Memo t) → δ ≤ γ → Found ν γ t m → Found ν δ t m
found-lower ν (leaf n) m h f = (f.0, le_trans h f.1)
found-lower ν (inner n s ks) m h f = f

mutual
  -- what is ready for a test is ready for a lower one
  pub ready-lower : (ν : ℕ → ℕ) {γ δ : ℕ} (t : Tree) (m : Memo t) → δ ≤ γ → Ready ν γ t m → Ready ν δ t m
  ready-lower ν (leaf n) m h r = r
  ready-lower ν (inner n s ks) m h r = (r.0, ready_children-lower ν s ks m.kids h r.1)

  ready_children-lower : (ν : ℕ → ℕ) {γ δ : ℕ} (s : Side) (ks : Children) (m : MemoChildren ks) → δ ≤ γ
      → ReadyChildren ν γ s ks m
      → ReadyChildren ν δ s ks m
  ready_children-lower ν s (last t) m h r = ready-lower ν t m h r
  ready_children-lower ν Max (t then ts) m h r =
      (ready-lower ν t m.first h r.0, ready_children-lower ν Max ts m.rest h r.1)
  ready_children-lower ν Min (t then ts) m h (inl r) =
      inl ((found-lower ν t m.first h r.0.0, r.0.1), ready_children-lower ν Min ts m.rest h r.1)
  ready_children-lower ν Min (t then ts) m h (inr r) = inr (ready-lower ν t m.first h r.0, r.1)

-- the states that stand for such a node before the pass with the test γ: itself, LIVE, or its frontier
abbrev pub states : (ν : ℕ → ℕ) (γ : ℕ) (t : Tree) (m : Memo t) → Fitted ν γ t m → List State
states ν γ t m (inl e) = live (number t) γ ∷ []
states ν γ t m (inr r) = frontier ν t m

-- and for its children
abbrev pub states_children : (ν : ℕ → ℕ) (γ : ℕ) (s : Side) (ks : Children) (m : MemoChildren ks)
    → FittedChildren ν γ s ks m
    → List State
states_children ν γ s (last t) m w = states ν γ t m w
states_children ν γ Max (t then ts) m w = states ν γ t m.first w.0 ++ states_children ν γ Max ts m.rest w.1
states_children ν γ Min (t then ts) m (inl w) = states_children ν γ Min ts m.rest w.1
states_children ν γ Min (t then ts) m (inr w) = states ν γ t m.first w.0

-- the children of an untouched node are untouched
pub kids-fresh : (n : ℕ) (s : Side) (ks : Children) {m : Memo (inner n s ks)} → m ≡ fresh (inner n s ks)
    → m.kids ≡ fresh_children ks
kids-fresh n s ks e = ap (λ (x : Memo (inner n s ks)). x.kids) e

-- so are the first of untouched children
pub first-fresh : (t : Tree) (ts : Children) {m : MemoChildren (t then ts)} → m ≡ fresh_children (t then ts)
    → m.first ≡ fresh t
first-fresh t ts e = ap (λ (x : MemoChildren (t then ts)). x.first) e

-- and the others
pub rest-fresh : (t : Tree) (ts : Children) {m : MemoChildren (t then ts)} → m ≡ fresh_children (t then ts)
    → m.rest ≡ fresh_children ts
rest-fresh t ts e = ap (λ (x : MemoChildren (t then ts)). x.rest) e

-- untouched children fit
abbrev pub fitted-fresh : (ν : ℕ → ℕ) (γ : ℕ) (s : Side) (ks : Children) (m : MemoChildren ks) → m ≡ fresh_children ks
    → FittedChildren ν γ s ks m
fitted-fresh ν γ s (last t) m e = inl e
fitted-fresh ν γ Max (t then ts) m e =
    (inl (first-fresh t ts e), fitted-fresh ν γ Max ts m.rest (rest-fresh t ts e))
fitted-fresh ν γ Min (t then ts) m e = inr (inl (first-fresh t ts e), rest-fresh t ts e)

-- so do ready ones
abbrev pub fitted-ready : (ν : ℕ → ℕ) (γ : ℕ) (s : Side) (ks : Children) (m : MemoChildren ks)
    → ReadyChildren ν γ s ks m
    → FittedChildren ν γ s ks m
fitted-ready ν γ s (last t) m r = inr r
fitted-ready ν γ Max (t then ts) m r = (inr r.0, fitted-ready ν γ Max ts m.rest r.1)
fitted-ready ν γ Min (t then ts) m (inl r) = inl (r.0.0, fitted-ready ν γ Min ts m.rest r.1)
fitted-ready ν γ Min (t then ts) m (inr r) = inr (inr r.0, r.1.0)

-- what a pass that finds a node below leaves: the node is ready, and its merits are below the test
abbrev pub Next : (ν : ℕ → ℕ) (γ : ℕ) (t : Tree) → Pass t → Type 0
Next ν γ t r = r.not_below ≡ false → Ready ν γ t r.next × Below γ (frontier ν t r.next)

abbrev pub NextChildren : (ν : ℕ → ℕ) (γ : ℕ) (s : Side) (ks : Children) → PassChildren ks → Type 0
NextChildren ν γ s ks q =
    q.not_below ≡ false → ReadyChildren ν γ s ks q.next × Below γ (frontier_children ν s ks q.next)

-- the children that are LIVE when their parent's LIVE state is replaced: at Max all, at Min the first
abbrev pub opened : Side → (first : ℕ) (others : List ℕ) → List ℕ
opened Max c cs = c ∷ cs
opened Min c cs = c ∷ []

module _ (ν : ℕ → ℕ) (γ : ℕ) where
  -- the states of untouched children are those that their parent's replacement puts on the list
  pub states-fresh : (s : Side) (ks : Children) (m : MemoChildren ks) (e : m ≡ fresh_children ks)
      → states_children ν γ s ks m (fitted-fresh ν γ s ks m e)
      ≡ map (λ n. live n γ) (opened s (first_of ks) (others_of ks))
  states-fresh Max (last t) m e = refl
  states-fresh Min (last t) m e = refl
  states-fresh Max (t then ts) m e =
      ap (λ l. live (number t) γ ∷ l) (states-fresh Max ts m.rest (rest-fresh t ts e))
  states-fresh Min (t then ts) m e = refl

  -- and those of ready children are their frontier
  pub states-ready : (s : Side) (ks : Children) (m : MemoChildren ks) (r : ReadyChildren ν γ s ks m)
      → states_children ν γ s ks m (fitted-ready ν γ s ks m r) ≡ frontier_children ν s ks m
  states-ready s (last t) m r = refl
  states-ready Max (t then ts) m r = ap (λ l. frontier ν t m.first ++ l) (states-ready Max ts m.rest r.1)
  states-ready Min (t then ts) m (inl r) = rw r.0.1 (states-ready Min ts m.rest r.1)
  states-ready Min (t then ts) m (inr r) = rw r.1.1 refl

  -- the merits of untouched children are the test
  pub fresh-at_most : (s : Side) (ks : Children) (m : MemoChildren ks) (e : m ≡ fresh_children ks)
      → AtMost γ (states_children ν γ s ks m (fitted-fresh ν γ s ks m e))
  fresh-at_most s (last t) m e = (le_refl γ, tt)
  fresh-at_most Max (t then ts) m e = (le_refl γ, fresh-at_most Max ts m.rest (rest-fresh t ts e))
  fresh-at_most Min (t then ts) m e = (le_refl γ, tt)

  -- STEP 2. A NODE FOUND NOT BELOW IS NOT ENTERED

  -- a node that a pass finds not below is found so afterwards
  pass-not_below : (t : Tree) (m : Memo t) → (pass ν γ t m).not_below ≡ true → Found ν γ t (pass ν γ t m).next
  pass-not_below (leaf n) m =
      cond_cases (λ (r : Pass (leaf n)). r.not_below ≡ true → Found ν γ (leaf n) r.next) m.evaluated _ _
      (λ e f. (e, leb-true γ (ν n) f)) (λ _ f. (refl, leb-true γ (ν n) f))
  pass-not_below (inner n s ks) m =
      let P : Pass (inner n s ks) → Type 0 = λ r. r.not_below ≡ true → r.next.not_below ≡ true in
      cond_cases P (ltb (memo_high_children ν s ks m.kids) γ) _ _ (λ _ e. absurd (true-not-false e refl))
      (λ _. cond_cases P m.not_below _ _ (λ f _. f) (λ _ e. e))

  -- its low is at the test
  pub not_below-low : (t : Tree) (m : Memo t) → Kept ν γ t m → Found ν γ t m → γ ≤ memo_low ν t m
  not_below-low (leaf n) m k e = rw e.0 e.1
  not_below-low (inner n s ks) m k e = k.0 e

  -- and so its high
  pub not_below-high : (t : Tree) (m : Memo t) → Scored ν t → Kept ν γ t m → Found ν γ t m → γ ≤ memo_high ν t m
  not_below-high t m h k e =
      le_trans (not_below-low t m k e) (le_trans (memo_low-minimax ν t m) (minimax-memo_high ν t m h))

  -- so a pass answers at once, and evaluates no leaf of it
  pub not_below-again : (t : Tree) (m : Memo t) → Scored ν t → Kept ν γ t m → Found ν γ t m
      → ((pass ν γ t m).not_below ≡ true) × ((pass ν γ t m).evaluated ≡ [])
  not_below-again (leaf n) m h k e = rw (e.0, le-leb γ (ν n) e.1) (refl, refl)
  not_below-again (inner n s ks) m h k e =
      let P : Pass (inner n s ks) → Type 0 = λ r. (r.not_below ≡ true) × (r.evaluated ≡ []) in
      cond_cases P (ltb (memo_high_children ν s ks m.kids) γ) _ _
      (λ l. absurd (omega (arith, ltb-true _ γ l, not_below-high (inner n s ks) m h k e)))
      (λ _. cond_cases P m.not_below _ _ (λ _. (refl, refl)) (λ f. absurd (true-not-false e f)))

  -- STEP 3. THE MERITS OF A FRONTIER ARE AT MOST THE NODE'S HIGH

  module _ (g : γ ≤ greatest) where
    mutual
      -- in a node that is ready: at Min the children found not below have their highs at the test or above
      frontier-high : (t : Tree) (m : Memo t) → Scored ν t → Kept ν γ t m → Ready ν γ t m → AtMost γ (frontier ν t m)
          → AtMost (memo_high ν t m) (frontier ν t m)
      frontier-high (leaf n) m h k r b = (rw r (le_refl (ν n)), tt)
      frontier-high (inner n s ks) m h k r b = frontier_children-high s ks m.kids h k.1 r.1 b

      frontier_children-high : (s : Side) (ks : Children) (m : MemoChildren ks) → ScoredChildren ν ks
          → KeptChildren ν γ ks m
          → ReadyChildren ν γ s ks m → AtMost γ (frontier_children ν s ks m)
          → AtMost (memo_high_children ν s ks m) (frontier_children ν s ks m)
      frontier_children-high s (last t) m h k r b = frontier-high t m h k r b
      frontier_children-high Max (t then ts) m h k r b =
          let F = frontier ν t m.first in
          let G = frontier_children ν Max ts m.rest in
          all_append _ F G
          (all_map _ _ (λ x y. omega arith) F
          (frontier-high t m.first h.0 k.0 r.0 (all_left _ F G b)))
          (all_map _ _ (λ x y. omega arith) G
          (frontier_children-high Max ts m.rest h.1 k.1 r.1 (all_right _ F G b)))
      frontier_children-high Min (t then ts) m h k (inl r) b =
          let c = rw r.0.1 at b in
          let l = not_below-high t m.first h.0 k.0 r.0.0 in
          rw r.0.1 (all-zip _ _ _ (λ x y z. omega arith) (frontier_children ν Min ts m.rest) c
          (frontier_children-high Min ts m.rest h.1 k.1 r.1 c))
      frontier_children-high Min (t then ts) m h k (inr r) b =
          let f = r.1.1 in
          let c = rw f at b in
          let l = ap (λ x. memo_high_children ν Min ts x) r.1.0 ∙ fresh_children-memo_high ν Min ts in
          rw f (all-zip _ _ _ (λ x y z. omega arith) (frontier ν t m.first) c
          (frontier-high t m.first h.0 k.0 r.0 c))

    -- an untouched node's high is not below a test
    pub fresh-not-below : (s : Side) (ks : Children) (m : MemoChildren ks) → m ≡ fresh_children ks
        → memo_high_children ν s ks m < γ → ⊥
    fresh-not-below s ks m e l =
        let c = ap (λ x. memo_high_children ν s ks x) e ∙ fresh_children-memo_high ν s ks in
        omega arith

    -- at Min a first child found below has the least high, if its siblings are untouched
    pub first-least : (t : Tree) (ts : Children) (m : MemoChildren (t then ts)) → ScoredChildren ν (t then ts)
        → KeptChildren ν γ (t then ts) m → (pass ν γ t m.first).not_below ≡ false → m.rest ≡ fresh_children ts
        → outdone ν Min t ts (record { first = (pass ν γ t m.first).next; rest = m.rest }) ≡ false
    first-least t ts m h k e u =
        let c = ap (λ x. memo_high_children ν Min ts x) u ∙ fresh_children-memo_high ν Min ts in
        let l = (sound ν γ t m.first h.0 k.0).below e in
        le-ltb (memo_high_children ν Min ts m.rest) (memo_high ν t (pass ν γ t m.first).next) (omega arith)

    -- and one found not below has a greater high than a sibling found below
    pub first-outdone : (t : Tree) (ts : Children) (m : MemoChildren (t then ts)) → ScoredChildren ν (t then ts)
        → KeptChildren ν γ (t then ts) m → (pass ν γ t m.first).not_below ≡ true
        → (pass_children ν γ Min ts m.rest).not_below ≡ false
        → outdone ν Min t ts
        (record { first = (pass ν γ t m.first).next; rest = (pass_children ν γ Min ts m.rest).next })
        ≡ true
    first-outdone t ts m h k e f =
        let a = sound ν γ t m.first h.0 k.0 in
        let n = (pass ν γ t m.first).next in
        let u = not_below-high t n h.0 a.kept (pass-not_below t m.first e) in
        let l = (sound_children ν γ Min ts m.rest h.1 k.1).below f in
        lt-ltb (memo_high_children ν Min ts (pass_children ν γ Min ts m.rest).next) (memo_high ν t n) (omega arith)

    -- STEP 4. A NODE FOUND BELOW IS READY, AND EVERY MERIT OF ITS FRONTIER IS BELOW THE TEST

    -- a node that is not entered, because its high is below the test
    skipped : (n : ℕ) (s : Side) (ks : Children) (m : Memo (inner n s ks)) (w : Fitted ν γ (inner n s ks) m)
        → ScoredChildren ν ks
        → Kept ν γ (inner n s ks) m → AtMost γ (states ν γ (inner n s ks) m w) → memo_high_children ν s ks m.kids < γ
        → Ready ν γ (inner n s ks) m × Below γ (frontier_children ν s ks m.kids)
    skipped n s ks m (inl e) h k b l = absurd (fresh-not-below s ks m.kids (kids-fresh n s ks e) l)
    skipped n s ks m (inr r) h k b l = (
      r,
      all_map _ _ (λ x y. lt_of_le_of_lt y l) (frontier_children ν s ks m.kids)
          (frontier-high (inner n s ks) m h k r b),
    )

    -- an inner node, by whether it is entered
    next-inner : (n : ℕ) (s : Side) (ks : Children) (m : Memo (inner n s ks)) (w : Fitted ν γ (inner n s ks) m)
        → ScoredChildren ν ks → Kept ν γ (inner n s ks) m → AtMost γ (states ν γ (inner n s ks) m w)
        → NextChildren ν γ s ks (pass_children ν γ s ks m.kids)
        → Next ν γ (inner n s ks) (pass ν γ (inner n s ks) m)
    next-inner n s ks m w h k b q =
        cond_cases (Next ν γ (inner n s ks)) (ltb (memo_high_children ν s ks m.kids) γ) _ _
        (λ l _. skipped n s ks m w h k b (ltb-true _ γ l))
        (λ _. cond_cases (Next ν γ (inner n s ks)) m.not_below _ _ (λ _ e. absurd (true-not-false refl e))
        (λ _ e. ((e, (q e).0), (q e).1)))

    mutual
      -- at Max all children are found below; at Min one is, behind those found not below
      pub next : (t : Tree) (m : Memo t) (w : Fitted ν γ t m) → Scored ν t → Kept ν γ t m → AtMost γ (states ν γ t m w)
          → Next ν γ t (pass ν γ t m)
      next (leaf n) m w h k b =
          cond_cases (Next ν γ (leaf n)) m.evaluated _ _ (λ e f. (e, (leb-false γ (ν n) f, tt)))
          (λ _ f. (refl, (leb-false γ (ν n) f, tt)))
      next (inner n s ks) m (inl e) h k b =
          let f = kids-fresh n s ks e in
          next-inner n s ks m (inl e) h k b
          (next_children s ks m.kids (fitted-fresh ν γ s ks m.kids f) h k.1 (fresh-at_most s ks m.kids f))
      next (inner n s ks) m (inr r) h k b =
          next-inner n s ks m (inr r) h k b
          (next_children s ks m.kids (fitted-ready ν γ s ks m.kids r.1) h k.1
          (rw (states-ready s ks m.kids r.1) b))

      next_children : (s : Side) (ks : Children) (m : MemoChildren ks) (w : FittedChildren ν γ s ks m)
          → ScoredChildren ν ks
          → KeptChildren ν γ ks m → AtMost γ (states_children ν γ s ks m w)
          → NextChildren ν γ s ks (pass_children ν γ s ks m)
      next_children s (last t) m w h k b = next t m w h k b
      next_children Max (t then ts) m w h k b =
          let F = states ν γ t m.first w.0 in
          let G = states_children ν γ Max ts m.rest w.1 in
          let F' = frontier ν t (pass ν γ t m.first).next in
          let G' = frontier_children ν Max ts (pass_children ν γ Max ts m.rest).next in
          cond_cases (NextChildren ν γ Max (t then ts)) (pass ν γ t m.first).not_below _ _
          (λ e f. absurd (true-not-false e f))
          (λ e f.
          let x = next t m.first w.0 h.0 k.0 (all_left _ F G b) e in
          let y = next_children Max ts m.rest w.1 h.1 k.1 (all_right _ F G b) f in
          ((x.0, y.0), all_append _ F' G' x.1 y.1))
      next_children Min (t then ts) m (inl w) h k b =
          let a = (not_below-again t m.first h.0 k.0 w.0).0 in
          let p = pass-not_below t m.first a in
          cond_cases (NextChildren ν γ Min (t then ts)) (not (pass ν γ t m.first).not_below) _ _
          (λ e f. absurd (true-not-false a f))
          (λ e f.
          let y = next_children Min ts m.rest w.1 h.1 k.1 b f in
          let o = first-outdone t ts m h k a f in
          (inl ((p, o), y.0), rw o y.1))
      next_children Min (t then ts) m (inr w) h k b =
          cond_cases (NextChildren ν γ Min (t then ts)) (not (pass ν γ t m.first).not_below) _ _
          (λ e f.
          let x = next t m.first w.0 h.0 k.0 b f in
          let o = first-least t ts m h k f w.1 in
          (inr (x.0, (w.1, o)), rw o x.1))
          (λ e f.
          let p = pass-not_below t m.first (not-false _ e) in
          let o = first-outdone t ts m h k (not-false _ e) f in
          let y =
          next_children Min ts m.rest (fitted-fresh ν γ Min ts m.rest w.1) h.1 k.1
          (fresh-at_most Min ts m.rest w.1) f in
          (inl ((p, o), y.0), rw o y.1))

    -- so the high that the pass leaves bounds the merits again
    pub next-high : (t : Tree) (m : Memo t) (w : Fitted ν γ t m) → Scored ν t → Kept ν γ t m
        → AtMost γ (states ν γ t m w) → (pass ν γ t m).not_below ≡ false
        → AtMost (memo_high ν t (pass ν γ t m).next) (frontier ν t (pass ν γ t m).next)
    next-high t m w h k b e =
        let n = (pass ν γ t m).next in
        let N = next t m w h k b e in
        frontier-high t n h (sound ν γ t m h k).kept N.0 (all_map _ _ (λ x y. le_of_lt y) (frontier ν t n) N.1)
