-- What a tree says of a front: which state is whose child, which states are below a Max node, and which are behind
-- others. So every list that SSS* reaches is a front, has a state and no more of them than the tree has nodes, and the
-- first state of greatest merit on it is the one that the rule takes.
use Rattle.prelude.proofs.{ℕ, ◌≤◌, ◌<◌, arith, ◌≡◌, refl, sym, ◌∙◌, ap, ap₂, subst, inl, inr, true, false, Option, none}
use Rattle.prelude.proofs.{some, List, [], ◌∷◌, ◌++◌, map, append-nil, length, length-append}
use Rattle.lists.specs.{All}
use Rattle.gametree.specs.declared.Side.{Side}
use Rattle.gametree.specs.declared.Side.TheVariants.{Max, Min}
use Rattle.gametree.specs.{Tree, leaf, inner, Children, last, ◌then◌, number, size, size_children, In, InChildren, root}
use Rattle.gametree.specs.{under, first_of, others_of, subtree_at, link_in, above_in, left_in, Status, LIVE, SOLVED}
use Rattle.gametree.specs.{State}
use Rattle.gametree.specs.{live, solved, best_state, Step, empty, stop, quiet, evaluating, purge, replace_live}
use Rattle.gametree.specs.{replace_solved, replace, step, ListAfter, at_start, after_quiet, after_evaluating}
use Rattle.gametree_theory.proofs.Sss.Lookups.{Answers, AnswersChildren}
use Rattle.gametree_theory.proofs.Sss.OwnNodes.{own_root}
use Rattle.lists.proofs.Lists.{all_append, all_map, all-zip}
use Rattle.gametree_theory.proofs.Minimax.Nodes.{number_in, size-then}
use Rattle.gametree_theory.proofs.Sss.Steps.{between, taken, step-taken, step-at, purge-between}
use Rattle.gametree_theory.proofs.Sss.Steps.{purge-left, purge-right, purge-outside}
use Rattle.gametree_theory.proofs.Sss.Around.{handed}
use Rattle.gametree_theory.proofs.Sss.Fronts.{Front, FrontChildren, alone-front, ChildIn, Siblings, Beside}
use Rattle.gametree_theory.proofs.Sss.Fronts.{Within, top}
use Rattle.gametree_theory.proofs.Sss.Fronts.{child, plug, located}

beside-child : (q : Side) (ks : Children) (u : Tree) (F G : List State) → Beside q ks u F G → ChildIn u ks
beside-child q (last t) u F G b = b.0
beside-child q (t then ts) u F G (inl b) = inl b.0
beside-child q (t then ts) u F G (inr b) = inr (beside-child q ts u b.1 G b.4)

-- a node of a child is a node below its parent
pub in-child : (p : ℕ) (u : Tree) (ks : Children) → ChildIn u ks → In p u → InChildren p ks
in-child p u (last t) c i = subst (λ x. In p x) c i
in-child p u (t then ts) (inl c) i = inl (subst (λ x. In p x) c i)
in-child p u (t then ts) (inr c) i = inr (in-child p u ts c i)

mutual
  -- a front has a state, and no more of them than there are nodes
  pub front_length : (t : Tree) (L : List State) → Front t L → (0 < length L) × (length L ≤ size t)
  front_length (leaf n) L f = rw f.1 (omega arith, omega arith)
  front_length (inner n q ks) L (inl f) = rw f.1 (omega arith, omega arith)
  front_length (inner n q ks) L (inr f) = let r = kids-front-length q ks L f in (r.0, omega (arith, r.1))

  kids-front-length : (q : Side) (ks : Children) (L : List State) → FrontChildren q ks L
      → (0 < length L) × (length L ≤ size_children ks)
  kids-front-length q (last t) L f = front_length t L f
  kids-front-length Max (t then ts) L f =
      let x = front_length t f.0 f.3 in
      let y = kids-front-length Max ts f.1 f.4 in
      rw (f.2, length-append f.0 f.1) (omega (arith, x.0), omega (arith, size-then t ts, x.1, y.1))
  kids-front-length Min (t then ts) L (inl f) =
      let x = front_length t L f in (x.0, omega (arith, size-then t ts, x.1))
  kids-front-length Min (t then ts) L (inr f) =
      let y = kids-front-length Min ts L f in (y.0, omega (arith, size-then t ts, y.1))

-- the states of the list are of nodes below the children
abbrev InsideChildren : Children → List State → Type 0
InsideChildren ks L = All (λ s. InChildren s.node ks) L

inside-first : (t : Tree) (ts : Children) (L : List State) → All (λ s. In s.node t) L → InsideChildren (t then ts) L
inside-first t ts L h = all_map (λ s. In s.node t) (λ s. InChildren s.node (t then ts)) (λ s i. inl i) L h

inside-rest : (t : Tree) (ts : Children) (L : List State) → InsideChildren ts L → InsideChildren (t then ts) L
inside-rest t ts L h = all_map (λ s. InChildren s.node ts) (λ s. InChildren s.node (t then ts)) (λ s i. inr i) L h

inside_both : (t : Tree) (ts : Children) {L : List State} (F G : List State) → L ≡ F ++ G → All (λ s. In s.node t) F
    → InsideChildren (t then ts) G → InsideChildren (t then ts) L
inside_both t ts F G e h i =
    rw e (all_append (λ s. InChildren s.node (t then ts)) F G (inside-first t ts F h) i)

mutual
  -- the states of a front are of the tree's nodes
  pub front-in : (t : Tree) (L : List State) → Front t L → All (λ s. In s.node t) L
  front-in (leaf n) L f = rw f.1 (f.2, tt)
  front-in (inner n q ks) L (inl f) = rw f.1 (inl f.2, tt)
  front-in (inner n q ks) L (inr f) =
      all_map (λ s. InChildren s.node ks) (λ s. In s.node (inner n q ks)) (λ s i. inr i) L
      (kids-front-in q ks L f)

  kids-front-in : (q : Side) (ks : Children) (L : List State) → FrontChildren q ks L → InsideChildren ks L
  kids-front-in q (last t) L f = front-in t L f
  kids-front-in Max (t then ts) L f =
      inside_both t ts f.0 f.1 f.2 (front-in t f.0 f.3)
      (inside-rest t ts f.1 (kids-front-in Max ts f.1 f.4))
  kids-front-in Min (t then ts) L (inl f) = inside-first t ts L (front-in t L f)
  kids-front-in Min (t then ts) L (inr f) = inside-rest t ts L (kids-front-in Min ts L f)

siblings-in : (q : Side) (ks : Children) (L : List State) → Siblings q ks L → InsideChildren ks L
siblings-in Max ks L b = kids-front-in Max ks L b
siblings-in Min ks L b = rw b tt

beside-in : (q : Side) (ks : Children) (u : Tree) (F G : List State) → Beside q ks u F G
    → InsideChildren ks F × InsideChildren ks G
beside-in q (last t) u F G b = (rw b.1 tt, rw b.2 tt)
beside-in q (t then ts) u F G (inl b) = (rw b.1 tt, inside-rest t ts G (siblings-in q ts G b.2))
beside-in q (t then ts) u F G (inr b) =
    let r = beside-in q ts u b.1 G b.4 in (
      inside_both t ts b.0 b.1 b.2 (siblings-in q (last t) b.0 b.3) (inside-rest t ts b.1 r.0),
      inside-rest t ts G r.1,
    )

-- the siblings of a child of a Min node have no states
beside_none : (ks : Children) (u : Tree) (F G : List State) → Beside Min ks u F G → (F ≡ []) × (G ≡ [])
beside_none (last t) u F G b = (b.1, b.2)
beside_none (t then ts) u F G (inl b) = (b.1, b.2)
beside_none (t then ts) u F G (inr b) =
    let r = beside_none ts u b.1 G b.4 in (b.2 ∙ ap₂ ◌++◌ b.3 r.0, r.1)

-- the next sibling, where there is one, is a child too
abbrev NextIn : Option ℕ → Children → Type 0
NextIn none ks = Unit {0}
NextIn (some b) ks = (v : Tree) × (number v ≡ b) × ChildIn v ks

next-later : (o : Option ℕ) (t : Tree) (ts : Children) → NextIn o ts → NextIn o (t then ts)
next-later none t ts n = tt
next-later (some b) t ts n = (n.0, n.1, inr n.2)

first-child : (ks : Children) → (v : Tree) × (number v ≡ first_of ks) × ChildIn v ks
first-child (last t) = (t, refl, refl)
first-child (t then ts) = (t, refl, inl refl)

module _ (T : Tree) where
  child-answers : (n : ℕ) (q : Side) (u : Tree) (ks : Children) → ChildIn u ks → AnswersChildren T n q ks → Answers T u
  child-answers n q u (last t) c a = subst (λ x. Answers T x) (sym c) a.1
  child-answers n q u (t then ts) (inl c) a = subst (λ x. Answers T x) (sym c) a.2
  child-answers n q u (t then ts) (inr c) a = child-answers n q u ts c a.3

  child-link : (n : ℕ) (q : Side) (u : Tree) (ks : Children) → ChildIn u ks → AnswersChildren T n q ks
      → (o : Option ℕ) × (link_in T (number u) ≡ under n q o) × NextIn o ks
  child-link n q u (last t) c a = (none, ap (λ x. link_in T (number x)) c ∙ a.0, tt)
  child-link n q u (t then ts) (inl c) a =
      let f = first-child ts in
      (some (first_of ts), ap (λ x. link_in T (number x)) c ∙ a.0, (f.0, f.1, inr f.2))
  child-link n q u (t then ts) (inr c) a =
      let r = child-link n q u ts c a.3 in (r.0, r.1, next-later r.0 t ts r.2)

  -- the tree answers for each tree within
  within-answers : {r u : Tree} {A B : List State} → Within r u A B → Answers T r → Answers T u
  within-answers top a = a
  within-answers (child {n = n} {q = s} {ks = ks} {u = u} F G w b p q) a =
      child-answers n s u ks (beside-child s ks u F G b) (within-answers w a).2

  -- P holds of each node of the tree and each state's
  abbrev Each : (ℕ → ℕ → Type 0) → Tree → List State → Type 0
  Each P u L = All (λ s. (p : ℕ) → In p u → P p s.node) L

  -- no node of the tree is above a state's, nor, for those behind, right of it
  abbrev Clear : ℕ → ℕ → Type 0
  Clear p k = above_in T p k ≡ false

  abbrev Behind : ℕ → ℕ → Type 0
  Behind p k = (above_in T p k ≡ false) × (left_in T p k ≡ true)

  beside-clear : (n : ℕ) (q : Side) (ks : Children) (u : Tree) (F G : List State) → Beside q ks u F G
      → AnswersChildren T n q ks → Each Clear u F × Each Behind u G
  beside-clear n q (last t) u F G b a = (rw b.1 tt, rw b.2 tt)
  beside-clear n q (t then ts) u F G (inl b) a = (
    rw b.1 tt,
    all_map (λ s. InChildren s.node ts) (λ s. (p : ℕ) → In p u → Behind p s.node)
        (λ s i p j. let x = a.1 p s.node (subst (λ x. In p x) b.0 j) i in (x.0, x.2)) G
        (siblings-in q ts G b.2),
  )
  beside-clear n q (t then ts) u F G (inr b) a =
      let r = beside-clear n q ts u b.1 G b.4 a.3 in
      let c = beside-child q ts u b.1 G b.4 in (
        rw b.2 (all_append (λ s. (p : ℕ) → In p u → Clear p s.node) b.0 b.1
            (all_map (λ s. In s.node t) (λ s. (p : ℕ) → In p u → Clear p s.node)
            (λ s i p j. (a.1 s.node p i (in-child p u ts c j)).1) b.0 (siblings-in q (last t) b.0 b.3))
            r.0),
        r.1,
      )

  deeper : (P : ℕ → ℕ → Type 0) (u : Tree) (n : ℕ) (q : Side) (ks : Children) (L : List State) → ChildIn u ks
      → Each P (inner n q ks) L → Each P u L
  deeper P u n q ks L c o =
      all_map (λ s. (p : ℕ) → In p (inner n q ks) → P p s.node) (λ s. (p : ℕ) → In p u → P p s.node)
      (λ s f p i. f p (inr (in-child p u ks c i))) L o

  -- what stands before and behind a tree within is outside it, and what stands behind is right of it
  within-clear : {r u : Tree} {A B : List State} → Within r u A B → Answers T r → Each Clear u A × Each Behind u B
  within-clear top a = (tt, tt)
  within-clear (child {n = n} {q = s} {ks = ks} {u = u} {X = X} {Z = Z} F G w b p q) a =
      let o = within-clear w a in
      let c = beside-child s ks u F G b in
      let x = beside-clear n s ks u F G b (within-answers w a).2 in (
        rw p (all_append (λ s. (p : ℕ) → In p u → Clear p s.node) X F (deeper Clear u n s ks X c o.0) x.0),
        rw q (all_append (λ s. (p : ℕ) → In p u → Behind p s.node) G Z x.1 (deeper Behind u n s ks Z c o.1)),
      )

  -- a purge below the Max node n, around one of its children, leaves what stands around n
  purge-around : {r : Tree} {X Z : List State} (u : Tree) (n : ℕ) (ks : Children) (F G : List State)
      → Within r (inner n Max ks) X Z → Beside Max ks u F G → Answers T r
      → (purge T n (X ++ F) ≡ X) × (purge T n (G ++ Z) ≡ Z)
  purge-around {r} {X} {Z} u n ks F G w b a =
      let o = within-clear w a in
      let i = beside-in Max ks u F G b in
      let down : (L : List State) → InsideChildren ks L → All (λ s. above_in T n s.node ≡ true) L =
      λ L. all_map (λ s. InChildren s.node ks) (λ s. above_in T n s.node ≡ true)
      (λ s j. (within-answers w a).1 s.node j) L in (
        purge-left T n X F (down F i.0)
            ∙ purge-outside T n X (all_map _ (λ s. above_in T n s.node ≡ false) (λ s f. f n (inl refl)) X o.0),
        purge-right T n G Z (down G i.1)
            ∙ purge-outside T n Z (all_map _ (λ s. above_in T n s.node ≡ false) (λ s f. (f n (inl refl)).0) Z o.1),
      )

  -- so does what a child hands up on either side
  pub handed-around : {r : Tree} {X Z : List State} (q : Side) (u : Tree) (n : ℕ) (ks : Children) (F G : List State)
      → Within r (inner n q ks) X Z → Beside q ks u F G → Answers T r
      → (handed q T n (X ++ F) ≡ X) × (handed q T n (G ++ Z) ≡ Z)
  handed-around Max u n ks F G w b a = purge-around u n ks F G w b a
  handed-around {X = X} {Z = Z} Min u n ks F G w b a =
      let z = beside_none ks u F G b in (ap (λ l. X ++ l) z.0 ∙ append-nil X, ap (λ l. l ++ Z) z.1)

  -- a state with lesser merits before it and no greater ones behind is taken
  pub within-taken : (ν : ℕ → ℕ) {r u : Tree} {A B : List State} (s : State) → Within r u A B → Answers T r
      → number u ≡ s.node → All (λ x. x.merit < s.merit) A → All (λ x. x.merit ≤ s.merit) B
      → step ν T (A ++ (s ∷ B)) ≡ replace ν T s (between A B) s.status
  within-taken ν {u = u} {A = A} {B = B} s w a e l g =
      step-at ν T A s B l
      (all-zip _ _ (λ x. (x.merit ≤ s.merit) × (left_in T s.node x.node ≡ true))
      (λ x h k. (h, rw (← e) (k (number u) (number_in u)).1)) B g (within-clear w a).1)

kids-live : (m : ℕ) (ks : Children) → FrontChildren Max ks (map (λ n. live n m) (first_of ks ∷ others_of ks))
kids-live m (last t) = alone-front t (live (number t) m) refl
kids-live m (t then ts) = (
  live (number t) m ∷ [],
  map (λ n. live n m) (first_of ts ∷ others_of ts),
  refl,
  alone-front t (live (number t) m) refl,
  kids-live m ts,
)

-- one state of a child of a Min node
child-front : (ks : Children) (u : Tree) → ChildIn u ks → (s : State) → s.node ≡ number u
    → FrontChildren Min ks (s ∷ [])
child-front (last t) u c s e = alone-front t s (e ∙ ap number c)
child-front (t then ts) u (inl c) s e = inl (alone-front t s (e ∙ ap number c))
child-front (t then ts) u (inr c) s e = inr (child-front ts u c s e)

-- what a step leaves is a front
abbrev FrontStep : Tree → Step → Type 0
FrontStep t empty = Unit {0}
FrontStep t (stop v) = Unit {0}
FrontStep t (quiet M) = Front t M
FrontStep t (evaluating n m M) = Front t M

module _ (ν : ℕ → ℕ) (T : Tree) (r : Tree) (a : Answers T r) (o : link_in T (number r) ≡ root) where
  live-front : (s : State) (A B : List State) (u : Tree) → number u ≡ s.node → Within r u A B
      → FrontStep r (replace_live ν s (between A B) (subtree_at s.node T))
  live-front s A B (leaf n) e w =
      rw (ap (λ p. subtree_at p T) (sym e) ∙ within-answers T w a)
      (plug w (solved s.node _ ∷ []) (alone-front (leaf n) (solved s.node _) (sym e)))
  live-front s A B (inner n Max ks) e w =
      rw (ap (λ p. subtree_at p T) (sym e) ∙ (within-answers T w a).0)
      (plug w (map (λ n. live n s.merit) (first_of ks ∷ others_of ks)) (inr (kids-live s.merit ks)))
  live-front s A B (inner n Min ks) e w =
      let c = first-child ks in
      rw (ap (λ p. subtree_at p T) (sym e) ∙ (within-answers T w a).0)
      (plug w (live (first_of ks) s.merit ∷ [])
      (inr (child-front ks c.0 c.2 (live (first_of ks) _) (sym c.1))))

  solved-under : (s : State) (u : Tree) (A B : List State) → number u ≡ s.node
      → Within r u A B → FrontStep r (replace_solved T s (between A B) (link_in T s.node))
  solved-under s u A B e top = rw (ap (link_in T) (sym e) ∙ o) tt
  solved-under s u A B e (child {n = n} {q = Max} {ks = ks} F G w b p q) =
      let z = handed-around T Max u n ks F G w b a in
      let c = child-link T n Max u ks (beside-child Max ks u F G b) (within-answers T w a).2 in
      rw (ap (link_in T) (sym e) ∙ c.1, purge-between T n A B s.merit, p, q, z.0, z.1)
      (plug w (solved n s.merit ∷ []) (alone-front (inner n Max ks) (solved n _) refl))
  solved-under s u A B e (child {n = n} {q = Min} {ks = ks} {X = X} {Z = Z} F G w b p q) =
      let l = child-link T n Min u ks (beside-child Min ks u F G b) (within-answers T w a).2 in
      let z = handed-around T Min u n ks F G w b a in
      rw (ap (link_in T) (sym e) ∙ l.1) (next-front l.0 l.2 (rw (p ∙ z.0, q ∙ z.1) w))
    where
      next-front : (b : Option ℕ) → NextIn b ks → Within r (inner n Min ks) A B
          → FrontStep r (replace_solved T s (between A B) (under n Min b))
      next-front none x w =
          plug w (solved n s.merit ∷ []) (alone-front (inner n Min ks) (solved n _) refl)
      next-front (some b) x w =
          plug w (live b s.merit ∷ [])
          (inr (child-front ks x.0 x.2 (live b s.merit) (sym x.1)))

  replace-front : (A : List State) (s : State) (B : List State) → Front r (A ++ (s ∷ B)) → (b : Status)
      → FrontStep r (replace ν T s (between A B) b)
  replace-front A s B f LIVE =
      let l = located r A s B f in live-front s A B l.tree l.number_is l.within
  replace-front A s B f SOLVED =
      let l = located r A s B f in solved-under s l.tree A B l.number_is l.within

module _ (ν : ℕ → ℕ) (r : Tree) (a : Answers r r) where
  -- a step from a front leaves a front
  step-front : (L : List State) → Front r L → FrontStep r (step ν r L)
  step-front [] f = tt
  step-front (s ∷ ss) f =
      let k = taken r s ss in
      rw (step-taken ν r s ss)
      (replace-front ν r r a (own_root r) k.left (best_state r s ss) k.right (subst (Front r) (sym k.parts) f)
      (best_state r s ss).status)

  -- every list that SSS* reaches is a front of the tree
  pub front-reached : {k : ℕ} {w : List ℕ} {L : List State} → ListAfter ν r k w L → Front r L
  front-reached at_start = alone-front r _ refl
  front-reached (after_quiet {L = L} l e) = subst (FrontStep r) e (step-front L (front-reached l))
  front-reached (after_evaluating {L = L} l e) = subst (FrontStep r) e (step-front L (front-reached l))

  -- the first state of greatest merit on a front is the one taken
  pub front-taken : (A : List State) (s : State) (B : List State) → Front r (A ++ (s ∷ B))
      → All (λ x. x.merit < s.merit) A → All (λ x. x.merit ≤ s.merit) B
      → step ν r (A ++ (s ∷ B)) ≡ replace ν r s (between A B) s.status
  front-taken A s B f l g =
      let i = located r A s B f in within-taken r ν s i.within a i.number_is l g
