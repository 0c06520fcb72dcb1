-- The list around a node's states: what stands before and behind them, how that goes over to the children's states, and
-- which state is taken there: step 1 of the argument that Simulation sets out.
use Rattle.prelude.proofs.{ℕ, ◌≤◌, min, ◌≡◌, refl, ◌∙◌, ap, ◌⊎◌, inl, inr, Bool, true, false, Option, none, some, List}
use Rattle.prelude.proofs.{◌∷◌, ◌++◌, map}
use Rattle.lists.specs.{All}
use Rattle.gametree.specs.declared.Side.{Side}
use Rattle.gametree.specs.declared.Side.TheVariants.{Max, Min}
use Rattle.gametree.specs.{Tree, leaf, inner, Children, last, ◌then◌, number, In, InChildren, Memo, MemoChildren, under}
use Rattle.gametree.specs.{first_of, others_of, subtree_at, link_in, above_in, left_in, Status, LIVE, SOLVED, State}
use Rattle.gametree.specs.{live}
use Rattle.gametree.specs.{solved, Step, quiet, evaluating, purge, replace, step}
use Rattle.gametree_theory.proofs.Sss.Lookups.{Apart}
use Rattle.lists.proofs.Lists.{all_append, all_map, all-zip}
use Rattle.gametree_theory.proofs.Minimax.Nodes.{number_in}
use Rattle.gametree_theory.proofs.Sss.Steps.{between, step-at, purge-between, purge-outside}
use Rattle.gametree_theory.proofs.Sss.Frontier.{AtMost, Below, outdone, join-frontier, frontier}
use Rattle.gametree_theory.proofs.Sss.Frontier.{frontier_children}
use Rattle.gametree_theory.proofs.Sss.Frontier.{Fitted}
use Rattle.gametree_theory.proofs.Sss.Frontier.{FittedChildren}
use Rattle.gametree_theory.proofs.Sss.Frontier.{states, states_children, opened}

-- THE STATES OF A NODE ARE OF NODES BELOW IT

-- the states of the list are of nodes in the set P
abbrev pub Nodes : (ℕ → Type 0) → List State → Type 0
Nodes P F = All (λ s. P s.node) F

-- a greater set
more-nodes : {P Q : ℕ → Type 0} → ((p : ℕ) → P p → Q p) → (F : List State) → Nodes P F → Nodes Q F
more-nodes f F w = all_map _ _ (λ s i. f s.node i) F w

-- two lists, one behind the other
both-nodes : (P Q : ℕ → Type 0) (F G : List State) → Nodes P F → Nodes Q G → Nodes (λ p. P p ⊎ Q p) (F ++ G)
both-nodes P Q F G v w = all_append _ F G (more-nodes (λ p i. inl i) F v) (more-nodes (λ p i. inr i) G w)

-- the frontiers of two siblings
join-nodes : (P Q : ℕ → Type 0) (s : Side) (b : Bool) (F G : List State) → Nodes P F → Nodes Q G
    → Nodes (λ p. P p ⊎ Q p) (join-frontier s b F G)
join-nodes P Q Max b F G v w = both-nodes P Q F G v w
join-nodes P Q Min true F G v w = more-nodes (λ p i. inr i) G w
join-nodes P Q Min false F G v w = more-nodes (λ p i. inl i) F v

mutual
  -- the states of a frontier are of nodes of the tree
  pub frontier-nodes : (ν : ℕ → ℕ) (t : Tree) (m : Memo t) → Nodes (λ p. In p t) (frontier ν t m)
  frontier-nodes ν (leaf n) m = (refl, tt)
  frontier-nodes ν (inner n s ks) m =
      more-nodes (λ p i. inr i) (frontier_children ν s ks m.kids) (frontier_children-nodes ν s ks m.kids)

  frontier_children-nodes : (ν : ℕ → ℕ) (s : Side) (ks : Children) (m : MemoChildren ks)
      → Nodes (λ p. InChildren p ks) (frontier_children ν s ks m)
  frontier_children-nodes ν s (last t) m = frontier-nodes ν t m
  frontier_children-nodes ν s (t then ts) m =
      join-nodes (λ p. In p t) (λ p. InChildren p ts) s (outdone ν s t ts m) (frontier ν t m.first)
      (frontier_children ν s ts m.rest)
      (frontier-nodes ν t m.first) (frontier_children-nodes ν s ts m.rest)

-- so are those of a node that a pass may enter
states-nodes : (ν : ℕ → ℕ) (γ : ℕ) (t : Tree) (m : Memo t) (w : Fitted ν γ t m) → Nodes (λ p. In p t) (states ν γ t m w)
states-nodes ν γ t m (inl e) = (number_in t, tt)
states-nodes ν γ t m (inr r) = frontier-nodes ν t m

-- and those of children
pub states_children-nodes : (ν : ℕ → ℕ) (γ : ℕ) (s : Side) (ks : Children) (m : MemoChildren ks)
    (w : FittedChildren ν γ s ks m)
    → Nodes (λ p. InChildren p ks) (states_children ν γ s ks m w)
states_children-nodes ν γ s (last t) m w = states-nodes ν γ t m w
states_children-nodes ν γ Max (t then ts) m w =
    both-nodes (λ p. In p t) (λ p. InChildren p ts) (states ν γ t m.first w.0)
    (states_children ν γ Max ts m.rest w.1)
    (states-nodes ν γ t m.first w.0) (states_children-nodes ν γ Max ts m.rest w.1)
states_children-nodes ν γ Min (t then ts) m (inl w) =
    more-nodes (λ p i. inr i) (states_children ν γ Min ts m.rest w.1)
    (states_children-nodes ν γ Min ts m.rest w.1)
states_children-nodes ν γ Min (t then ts) m (inr w) =
    more-nodes (λ p i. inl i) (states ν γ t m.first w.0) (states-nodes ν γ t m.first w.0)

-- WHAT STANDS BEFORE AND BEHIND THEM

-- the lists L and R stand around the states of a set P of nodes, in a pass with the test γ
pub record Around (T : Tree) (γ : ℕ) (P : ℕ → Type 0) (L R : List State) : Type 0 where
  -- all before them have less merit, none behind has more
  pub less : Below γ L
  pub no_more : AtMost γ R
  -- all behind them are right of them
  pub behind : All (λ s. (p : ℕ) → P p → left_in T p s.node ≡ true) R
  -- no other state is below one of them
  pub clear_left : All (λ s. (p : ℕ) → P p → above_in T p s.node ≡ false) L
  pub clear_right : All (λ s. (p : ℕ) → P p → above_in T p s.node ≡ false) R

-- around a tree
abbrev pub AroundTree : Tree → ℕ → Tree → List State → List State → Type 0
AroundTree T γ t L R = Around T γ (λ p. In p t) L R

-- around the children of a node
abbrev pub AroundChildren : Tree → ℕ → Children → List State → List State → Type 0
AroundChildren T γ ks L R = Around T γ (λ p. InChildren p ks) L R

-- what is around some nodes is around a part of them
pub narrow : {T : Tree} {γ : ℕ} {P Q : ℕ → Type 0} → ((p : ℕ) → Q p → P p) → {L R : List State}
    → Around T γ P L R → Around T γ Q L R
narrow f {L} {R} a =
    record {
      less = a.less;
      no_more = a.no_more;
      behind = all_map _ _ (λ s i p j. i p (f p j)) R a.behind;
      clear_left = all_map _ _ (λ s i p j. i p (f p j)) L a.clear_left;
      clear_right = all_map _ _ (λ s i p j. i p (f p j)) R a.clear_right;
    }

module _ (T : Tree) (γ : ℕ) (t : Tree) (ts : Children) (L R : List State) (z : Apart T t ts)
    (a : AroundChildren T γ (t then ts) L R) where
  -- around the first child of a Max node, with the states G of its siblings behind it
  pub around-first : (G : List State) → AtMost γ G → Nodes (λ p. InChildren p ts) G
      → AroundTree T γ t L (G ++ R)
  around-first G b w =
      let u : AroundTree T γ t L R = narrow (λ p i. inl i) a in
      record {
        less = u.less;
        no_more = all_append _ G R b u.no_more;
        behind = all_append _ G R (all_map _ _ (λ s i p j. (z p s.node j i).2) G w) u.behind;
        clear_left = u.clear_left;
        clear_right = all_append _ G R (all_map _ _ (λ s i p j. (z p s.node j i).0) G w) u.clear_right;
      }

  -- around its siblings, with its frontier F before them
  pub around-rest : (F : List State) → Below γ F → Nodes (λ p. In p t) F → AroundChildren T γ ts (L ++ F) R
  around-rest F b w =
      let u : AroundChildren T γ ts L R = narrow (λ p i. inr i) a in
      record {
        less = all_append _ L F u.less b;
        no_more = u.no_more;
        behind = u.behind;
        clear_left = all_append _ L F u.clear_left (all_map _ _ (λ s i p j. (z s.node p i j).1) F w);
        clear_right = u.clear_right;
      }

-- what a SOLVED child hands up leaves of a list: under Max what is not below the parent p, under Min all
abbrev pub handed : Side → Tree → (p : ℕ) → List State → List State
handed Max T p L = purge T p L
handed Min T p L = L

-- nothing goes of a list that is clear of p
handed-outside : (s : Side) (T : Tree) (p : ℕ) (L : List State) → All (λ x. above_in T p x.node ≡ false) L
    → handed s T p L ≡ L
handed-outside Max T p L h = purge-outside T p L h
handed-outside Min T p L h = refl

-- what an inner node hands up leaves all that is around it
pub handed-clear : (T : Tree) (γ n : ℕ) (s : Side) (ks : Children) (L R : List State)
    → AroundTree T γ (inner n s ks) L R
    → (handed s T n L ≡ L) × (handed s T n R ≡ R)
handed-clear T γ n s ks L R a = (
  handed-outside s T n L (all_map _ _ (λ x f. f n (inl refl)) L a.clear_left),
  handed-outside s T n R (all_map _ _ (λ x f. f n (inl refl)) R a.clear_right),
)

-- STEP 1. THE STATE OF MERIT γ IS TAKEN

module _ (ν : ℕ → ℕ) (T : Tree) (γ : ℕ) (t : Tree) (L R : List State) (a : AroundTree T γ t L R) where
  -- the node's state is taken: all before it are less, none behind it has more, and all behind it are right of it
  pub takes : (u : Status) (x : Step)
      → replace ν T (record { node = number t; status = u; merit = γ }) (between L R) u ≡ x
      → step ν T (L ++ (record { node = number t; status = u; merit = γ } ∷ R)) ≡ x
  takes u x e =
      let s : State = record { node = number t; status = u; merit = γ } in
      let r =
      all-zip _ _ (λ y. (y.merit ≤ γ) × (left_in T (number t) y.node ≡ true))
      (λ y h k. (h, k (number t) (number_in t))) R a.no_more a.behind in
      step-at ν T L s R a.less r ∙ e

  -- a LIVE leaf is evaluated
  pub takes-leaf : (n : ℕ) → subtree_at (number t) T ≡ leaf n
      → step ν T (L ++ (live (number t) γ ∷ R))
      ≡ evaluating (number t) γ (L ++ (solved (number t) (min γ (ν (number t))) ∷ R))
  takes-leaf n e = takes LIVE _ (rw e refl)

  -- a LIVE inner node is replaced by children
  pub takes-inner : (n : ℕ) (s : Side) (ks : Children) → subtree_at (number t) T ≡ inner n s ks
      → step ν T (L ++ (live (number t) γ ∷ R))
      ≡ quiet (L ++ (map (λ k. live k γ) (opened s (first_of ks) (others_of ks)) ++ R))
  takes-inner n Max ks e = takes LIVE _ (rw e refl)
  takes-inner n Min ks e = takes LIVE _ (rw e refl)

  -- a SOLVED child of a Max node hands up
  pub takes-max : (p : ℕ) (b : Option ℕ) → link_in T (number t) ≡ under p Max b
      → step ν T (L ++ (solved (number t) γ ∷ R)) ≡ quiet (purge T p L ++ (solved p γ ∷ purge T p R))
  takes-max p b e = takes SOLVED _ (rw e (ap quiet (purge-between T p L R γ)))

  -- the last child of any node hands up
  pub takes-last : (s : Side) (p : ℕ) → link_in T (number t) ≡ under p s none
      → step ν T (L ++ (solved (number t) γ ∷ R)) ≡ quiet (handed s T p L ++ (solved p γ ∷ handed s T p R))
  takes-last Max p e = takes-max p none e
  takes-last Min p e = takes SOLVED _ (rw e refl)

  -- behind any other SOLVED child of a Min node the next sibling is LIVE
  pub takes-next : (p b : ℕ) → link_in T (number t) ≡ under p Min (some b)
      → step ν T (L ++ (solved (number t) γ ∷ R)) ≡ quiet (L ++ (live b γ ∷ R))
  takes-next p b e = takes SOLVED _ (rw e refl)
