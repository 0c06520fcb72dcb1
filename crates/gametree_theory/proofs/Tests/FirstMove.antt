-- After the last phase the bounds show the first root move. It tests the children as a test of the root would, so its
-- leaves are new and meet Baudet's condition; the bounds confirm the answer of each child up to the move, so they show
-- the move to have the root's value, and each elder sibling to be worse.
use Rattle.prelude.proofs.{ℕ, suc, ◌≤◌, ◌<◌, arith, ◌≡◌, refl, sym, ◌∙◌, ap, subst, Bool, true, false, cond, List, []}
use Rattle.prelude.proofs.{◌++◌, append_assoc, leb, eqb, le-leb, lt-leb, eqb-true, eqb-false, ne_eqb}
use Rattle.lists.specs.{among, Once}
use Rattle.gametree.specs.declared.Side.{Side}
use Rattle.gametree.specs.declared.Side.TheVariants.{Max, Min}
use Rattle.gametree.specs.{Tree, leaf, inner, Children, last, ◌then◌, least, greatest, minimax, minimax_children, Score}
use Rattle.gametree.specs.{Scored, ScoredChildren, known, low, high, Decided, reached, settles, worst, root_move_of}
use Rattle.gametree.specs.{bound_move, Tested, passed_on, test, test_children, equal_test, last_phase, Decision}
use Rattle.gametree.specs.{Strategy}
use Rattle.gametree.specs.{search_by, decide_by}
use Rattle.lists.proofs.Choice.{true-not-false}
use Rattle.lists.proofs.Lists.{all_append, all_map, all_among, among-left}
use Rattle.gametree_theory.proofs.Minimax.Bounds.{low≤, ≤high, minimax-score}
use Rattle.gametree_theory.proofs.Minimax.Closer.{low-rises, high-falls}
use Rattle.gametree_theory.proofs.Minimax.Moves.{Shown, move_same}
use Rattle.gametree_theory.proofs.Certificates.Solution.{Under, under-refl, under-both}
use Rattle.gametree_theory.proofs.Results.Domination.{Reaches}
use Rattle.gametree_theory.proofs.Tests.Answer.{test-answer}
use Rattle.gametree_theory.proofs.Tests.Leaves.{New, new_none, new-append, test_children-once}
use Rattle.gametree_theory.proofs.Tests.Leaves.{test_children-dominated}
use Rattle.gametree_theory.proofs.Tests.Progress.{Confirms, confirmed-low, confirmed-high, confirms-more}
use Rattle.gametree_theory.proofs.Tests.Progress.{test-confirmed}
use Rattle.gametree_theory.proofs.Tests.Runs.{search-right}

-- WHAT THE BOUNDS SHOW

-- of scores that are no better than v only v itself settles the test
equal-settles : (s : Side) (v m : ℕ) → Under s m v → settles s (leb (equal_test s v) m) ≡ eqb m v
equal-settles s v m u = at s u (eqb m v) refl
  where
    at : (s : Side) → Under s m v → (b : Bool) → eqb m v ≡ b → settles s (leb (equal_test s v) m) ≡ b
    at Max u true e = le-leb (equal_test Max v) m (omega (arith, eqb-true m v e))
    at Max u false e = lt-leb (equal_test Max v) m (omega (arith, eqb-false m v e))
    at Min u true e = rw (lt-leb (equal_test Min v) m (omega (arith, eqb-true m v e))) refl
    at Min u false e = rw (le-leb (equal_test Min v) m (omega (arith, eqb-false m v e))) refl

-- the bounds of the leaves E confirm the answer to γ of each child up to the first that settles its parent
abbrev Answered : (ℕ → ℕ) → (ℕ → Bool) → ℕ → Side → Children → Type 0
Answered ν E γ s (last t) = Confirms γ (leb γ (minimax ν t)) (low ν E t) (high ν E t)
Answered ν E γ s (t then ts) =
    Confirms γ (leb γ (minimax ν t)) (low ν E t) (high ν E t)
    × (settles s (leb γ (minimax ν t)) ≡ false → Answered ν E γ s ts)

-- those of a set of leaves that holds the tested ones do
tested-confirmed : (ν : ℕ → ℕ) (E : ℕ → Bool) (γ : ℕ) (w : List ℕ) (t : Tree) → Scored ν t
    → ((n : ℕ) → among (w ++ (test ν γ w t).evaluated) n ≡ true → E n ≡ true)
    → Confirms γ (leb γ (minimax ν t)) (low ν E t) (high ν E t)
tested-confirmed ν E γ w t h f =
    subst (λ b. Confirms γ b (low ν E t) (high ν E t)) (test-answer ν γ w t h)
    (confirms-more γ (test ν γ w t).not_below (low-rises ν _ E f t) (high-falls ν _ E f t h) (test-confirmed ν γ w t h))

-- the leaves of the first child's test are some of all
first-kept : (w : List ℕ) (b : Bool) (r q : Tested) (n : ℕ) → among (w ++ r.evaluated) n ≡ true
    → among (w ++ (cond b r (passed_on r q)).evaluated) n ≡ true
first-kept w true r q n e = e
first-kept w false r q n e =
    rw (← append_assoc w r.evaluated q.evaluated) (among-left (w ++ r.evaluated) q.evaluated n e)

-- and so are those of the others, where the first does not settle
rest-kept : (w : List ℕ) (b : Bool) (r q : Tested) (n : ℕ) → b ≡ false
    → among ((w ++ r.evaluated) ++ q.evaluated) n ≡ true
    → among (w ++ (cond b r (passed_on r q)).evaluated) n ≡ true
rest-kept w true r q n i e = absurd (true-not-false refl i)
rest-kept w false r q n i e = rw (← append_assoc w r.evaluated q.evaluated) e

test_children-answered : (ν : ℕ → ℕ) (E : ℕ → Bool) (γ : ℕ) (w : List ℕ) (s : Side) (ks : Children)
    → ScoredChildren ν ks
    → ((n : ℕ) → among (w ++ (test_children ν γ w s ks).evaluated) n ≡ true → E n ≡ true)
    → Answered ν E γ s ks
test_children-answered ν E γ w s (last t) h f = tested-confirmed ν E γ w t h f
test_children-answered ν E γ w s (t then ts) h f =
    let r = test ν γ w t in
    let v = w ++ r.evaluated in
    let q = test_children ν γ v s ts in
    let b = settles s r.not_below in (
      tested-confirmed ν E γ w t h.0 (λ n e. f n (first-kept w b r q n e)),
      λ i. test_children-answered ν E γ v s ts h.1
          (λ n e. f n (rest-kept w b r q n (ap (settles s) (test-answer ν γ w t h.0) ∙ i) e)),
    )

-- a child of the value v is shown to have it
shown-equal : (s : Side) (ν : ℕ → ℕ) (E : ℕ → Bool) (v : ℕ) (t : Tree) → Scored ν t
    → Confirms (equal_test s v) (leb (equal_test s v) (minimax ν t)) (low ν E t) (high ν E t)
    → minimax ν t ≡ v → minimax (known ν E (worst s)) t ≡ v
shown-equal Max ν E v t h c e =
    let k = confirmed-low v _ (low ν E t) (high ν E t) (le-leb v (minimax ν t) (omega arith)) c in
    omega (arith, low≤ ν E t)
shown-equal Min ν E v t h c e =
    let k = confirmed-high (suc v) _ (low ν E t) (high ν E t) (lt-leb (suc v) (minimax ν t) (omega arith)) c in
    omega (arith, ≤high ν E t h)

-- the bounds l and h show a child to be worse than v
abbrev pub ShownWorse : Side → ℕ → (l h : ℕ) → Type 0
ShownWorse Max v l h = h < v
ShownWorse Min v l h = v < l

-- and one that is worse is shown to be
shown-worse : (s : Side) (v m l h : ℕ) → Under s m v → (m ≡ v → ⊥)
    → Confirms (equal_test s v) (leb (equal_test s v) m) l h → ShownWorse s v l h
shown-worse Max v m l h u n c = confirmed-high v _ l h (lt-leb v m (omega arith)) c
shown-worse Min v m l h u n c = confirmed-low (suc v) _ l h (le-leb (suc v) m (omega arith)) c

-- the bounds of the leaves E show each child before the first of the value v to be worse
abbrev pub EldersWorse : (ℕ → ℕ) → (ℕ → Bool) → Side → ℕ → Children → Type 0
EldersWorse ν E s v (last t) = Unit
EldersWorse ν E s v (t then ts) =
    (minimax ν t ≡ v → ⊥) → ShownWorse s v (low ν E t) (high ν E t) × EldersWorse ν E s v ts

-- a child that has not the value v does not settle the test
unequal-passes : (s : Side) (v m : ℕ) → Under s m v → (m ≡ v → ⊥) → settles s (leb (equal_test s v) m) ≡ false
unequal-passes s v m u n = equal-settles s v m u ∙ ne_eqb m v n

answered-shown : (s : Side) (ν : ℕ → ℕ) (E : ℕ → Bool) (v : ℕ) (ks : Children) → ScoredChildren ν ks
    → Under s (minimax_children ν s ks) v
    → Answered ν E (equal_test s v) s ks → Shown (known ν E (worst s)) ν v ks
answered-shown s ν E v (last t) h u a = shown-equal s ν E v t h a
answered-shown s ν E v (t then ts) h u a =
    let k = under-both s (minimax ν t) (minimax_children ν s ts) v u in (
      shown-equal s ν E v t h.0 a.0,
      λ n. answered-shown s ν E v ts h.1 k.1 (a.1 (unequal-passes s v (minimax ν t) k.0 n)),
    )

answered-elders : (s : Side) (ν : ℕ → ℕ) (E : ℕ → Bool) (v : ℕ) (ks : Children) → Under s (minimax_children ν s ks) v
    → Answered ν E (equal_test s v) s ks → EldersWorse ν E s v ks
answered-elders s ν E v (last t) u a = tt
answered-elders s ν E v (t then ts) u a =
    let k = under-both s (minimax ν t) (minimax_children ν s ts) v u in
    λ n. (
      shown-worse s v (minimax ν t) (low ν E t) (high ν E t) k.0 n a.0,
      answered-elders s ν E v ts k.1 (a.1 (unequal-passes s v (minimax ν t) k.0 n)),
    )

-- the same at the root, for its value
abbrev pub ElderMovesWorse : (ℕ → ℕ) → (ℕ → Bool) → Tree → Type 0
ElderMovesWorse ν E (leaf n) = Unit
ElderMovesWorse ν E (inner n s ks) = EldersWorse ν E s (minimax_children ν s ks) ks

-- THE WHOLE SEARCH

-- bounds that have met stay where they are
decided-more : (ν : ℕ → ℕ) (w u : List ℕ) (t : Tree) → Scored ν t → Decided ν (among w) t
    → Decided ν (among (w ++ u)) t
decided-more ν w u t h d =
    let f = among-left w u in
    record {
      low_is = omega (arith, low-rises ν _ _ f t, low≤ ν (among (w ++ u)) t, d.low_is);
      high_is = omega (arith, high-falls ν _ _ f t h, ≤high ν (among (w ++ u)) t h, d.high_is);
    }

-- the test of the last phase is in the full window
pub equal-inside : (s : Side) (v : ℕ) → Score v → (least < equal_test s v) × (equal_test s v ≤ greatest)
equal-inside Max v h = omega arith
equal-inside Min v h = omega arith

-- what the last phase gives, after leaves w whose bounds have met
record Concludes (ν : ℕ → ℕ) (w : List ℕ) (t : Tree) (u : List ℕ) : Type 0 where
  new : New w u
  reaches : Reaches ν least greatest t u
  shown : bound_move ν (among (w ++ u)) t ≡ root_move_of ν t
  elders : ElderMovesWorse ν (among (w ++ u)) t

last_phase-concludes : (ν : ℕ → ℕ) (w : List ℕ) (t : Tree) → Scored ν t → Decided ν (among w) t
    → Concludes ν w t (last_phase ν (minimax ν t) w t)
last_phase-concludes ν w (leaf n) h d = record { new = new_none w; reaches = tt; shown = refl; elders = tt }
last_phase-concludes ν w (inner n s ks) h d =
    let v = minimax_children ν s ks in
    let γ = equal_test s v in
    let u = (test_children ν γ w s ks).evaluated in
    let i = equal-inside s v (minimax-score ν (inner n s ks) h) in
    let a = test_children-answered ν (among (w ++ u)) γ w s ks h (λ n k. k) in
    record {
      new = test_children-once ν γ w s ks;
      reaches = test_children-dominated ν γ least greatest w s ks h i.0 i.1;
      shown =
          move_same ν (among (w ++ u)) n s ks h (decided-more ν w u (inner n s ks) h d)
          (answered-shown s ν (among (w ++ u)) v ks h (under-refl s v) a);
      elders = answered-elders s ν (among (w ++ u)) v ks (under-refl s v) a;
    }

-- what a search with the last phase gives
pub record Decides (ν : ℕ → ℕ) (t : Tree) (d : Decision) : Type 0 where
  pub once : Once d.evaluated
  pub reaches : Reaches ν least greatest t d.evaluated
  pub decided : Decided ν (among d.evaluated) t
  pub shown : bound_move ν (among d.evaluated) t ≡ root_move_of ν t
  pub elders : ElderMovesWorse ν (among d.evaluated) t

-- it is so with every strategy
pub decide-right : (σ : Strategy) (ν : ℕ → ℕ) (t : Tree) → Scored ν t → Decides ν t (decide_by σ ν t)
decide-right σ ν t h =
    let r = search-right σ ν t h in
    let w = (search_by σ ν t).evaluated in
    let c =
    subst (λ v. Concludes ν w t (last_phase ν v w t)) (sym r.value) (last_phase-concludes ν w t h r.decided) in
    let u = last_phase ν (search_by σ ν t).value w t in
    record {
      once =
          (new-append [] w u
          (record { new = all_map _ _ (λ k _. refl) w (all_among w); once = r.once }) c.new).once;
      reaches =
          all_append (λ k. among (reached ν least greatest t) k ≡ true) w u r.reaches c.reaches;
      decided = decided-more ν w u t h r.decided;
      shown = c.shown;
      elders = c.elders;
    }
