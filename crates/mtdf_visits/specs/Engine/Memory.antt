-- The memory of MTD(f) as the engine keeps it, a count, the list of leaves and three arrays over the node numbers, and
-- what a test of a node asks of it and does to it.
use Rattle.std.specs.Prelude.{ℕ, ◌≤◌, ◌<◌, ◌≡◌, Bool, false, Option, None, Some, List, ◌++◌, leb, length, get_or, take}
use Rattle.lists.specs.Lists.{among}
use Rattle.gametree.specs.declared.Position.{Position}
use Rattle.gametree.specs.Trees.{Tree, leaf, inner, least, greatest, In}
use Rattle.gametree.specs.Bounds.{low, high}
use Rattle.gametree.specs.Tests.{Tested, opened, test, test_children}
use Rattle.table.specs.Frame.{frames, child_count}
use Rattle.table.specs.Position.{position_of}
use Rattle.table.specs.Tree.{tree_at, valuation}
use Rattle.table.specs.Formed.{WellFormed}
use Rattle.certificate_bounds.specs.Marks.{marked, ones}
use Rattle.certificate_bounds.specs.Engine.Progress.{Progress, progress, evaluate_all}

-- how many leaves are evaluated, their marks, the list of them, and the low and the high of each node
pub record Memory : Type 0 where
  pub leaves : ℕ
  pub evaluated : List ℕ
  pub order : List ℕ
  pub lows : List ℕ
  pub highs : List ℕ

-- the memory of a count and four arrays
abbrev pub memory : ℕ → (e o l h : List ℕ) → Memory
memory k e o l h = record { leaves = k; evaluated = e; order = o; lows = l; highs = h }

-- how far the evaluation of leaves has come
abbrev pub progress_of : Memory → Progress
progress_of m = progress m.leaves m.evaluated m.order

-- the leaves evaluated so far, in order
abbrev pub so_far : Memory → List ℕ
so_far m = take m.leaves m.order

-- each array has an entry for each of n nodes
pub record MemoryRoom (n : ℕ) (m : Memory) : Type 0 where
  pub evaluated : n ≤ length m.evaluated
  pub order : n ≤ length m.order
  pub lows : n ≤ length m.lows
  pub highs : n ≤ length m.highs

-- each array is as long as it was
pub record Long (m m' : Memory) : Type 0 where
  pub evaluated : length m'.evaluated ≡ length m.evaluated
  pub order : length m'.order ≡ length m.order
  pub lows : length m'.lows ≡ length m.lows
  pub highs : length m'.highs ≡ length m.highs

-- the two entries of node k are the bounds that the leaves evaluated so far give it
pub record Bounded (t : List ℕ) (m : Memory) (k : ℕ) : Type 0 where
  pub low : get_or m.lows k 0 ≡ low (valuation t) (among (so_far m)) (tree_at t k)
  pub high : get_or m.highs k 0 ≡ high (valuation t) (among (so_far m)) (tree_at t k)

-- so it is with each node of a tree
abbrev pub BoundsRight : List ℕ → Memory → Tree → Type 0
BoundsRight t m T = (k : ℕ) → In k T → Bounded t m k

-- the count is the number of marks, and the leaves evaluated so far are those with a mark
pub record Counted (t : List ℕ) (m : Memory) : Type 0 where
  pub number : m.leaves ≡ ones m.evaluated (frames t)
  pub marks : (k : ℕ) → k < frames t → marked m.evaluated k ≡ among (so_far m) k

-- what a test of node i at the position p asks
pub record VisitReady (t : List ℕ) (m : Memory) (i : ℕ) (p : Position) : Type 0 where
  pub formed : WellFormed t
  pub inside : i < frames t
  pub positioned : p ≡ position_of t i
  pub room : MemoryRoom (frames t) m
  pub counted : Counted t m
  pub right : BoundsRight t m (tree_at t i)

-- the leaves w were evaluated in turn: they are counted, marked and listed
pub record Evaluated (m m' : Memory) (w : List ℕ) : Type 0 where
  pub all : progress_of m' ≡ evaluate_all (progress_of m) w
  pub listed : so_far m' ≡ so_far m ++ w

-- nothing has changed at node k
pub record Same (m m' : Memory) (k : ℕ) : Type 0 where
  pub evaluated : among (so_far m') k ≡ among (so_far m) k
  pub low : get_or m'.lows k 0 ≡ get_or m.lows k 0
  pub high : get_or m'.highs k 0 ≡ get_or m.highs k 0

-- the test or the entering of the root of the tree T that gives q is done: its answer is the result, its leaves were
-- evaluated, the bounds in the tree follow, and nothing has changed outside
pub record Done (t : List ℕ) (T : Tree) (q : Tested) (m m' : Memory) (r : Bool) : Type 0 where
  pub answer : r ≡ q.not_below
  pub evaluated : Evaluated m m' q.evaluated
  pub counted : Counted t m'
  pub right : BoundsRight t m' T
  pub others : (k : ℕ) → (In k T → ⊥) → Same m m' k

-- what the entering of a node gives: of a leaf its score, of an inner node its children's answer
abbrev pub entered_test : (ℕ → ℕ) → ℕ → List ℕ → Tree → Tested
entered_test ν γ w (leaf n) = opened n (leb γ (ν n))
entered_test ν γ w (inner n s ks) = test_children ν γ w s ks

abbrev pub VisitedBy : (t : List ℕ) (T : Tree) (γ : ℕ) (m m' : Memory) (r : Bool) → Type 0
VisitedBy t T γ m m' r = Done t T (test (valuation t) γ (so_far m) T) m m' r

abbrev pub Entered : (t : List ℕ) (T : Tree) (γ : ℕ) (m m' : Memory) (r : Bool) → Type 0
Entered t T γ m m' r = Done t T (entered_test (valuation t) γ (so_far m) T) m m' r

-- node i is entered by the test γ: it has children, its high is not below the test, and its low is
pub record Undecided (t : List ℕ) (m : Memory) (i γ : ℕ) : Type 0 where
  pub non_empty : 0 < child_count t i
  pub high : γ ≤ get_or m.highs i 0
  pub low : get_or m.lows i 0 < γ

-- what a look at node i does: the test, where the node is answered; nothing, where it is to be entered
abbrev pub Looked : (t : List ℕ) (i γ : ℕ) (m m' : Memory) → Option Bool → Type 0
Looked t i γ m m' (Some r) = VisitedBy t (tree_at t i) γ m m' r
Looked t i γ m m' None = (m' ≡ m) × Undecided t m i γ

-- what the tests ask: nothing is evaluated, and the bounds are the least and the greatest
pub record Fresh (t : List ℕ) (m : Memory) : Type 0 where
  pub formed : WellFormed t
  pub room : MemoryRoom (frames t) m
  pub leaves : m.leaves ≡ 0
  pub evaluated : (k : ℕ) → k < frames t → marked m.evaluated k ≡ false
  pub lows : (k : ℕ) → k < frames t → get_or m.lows k 0 ≡ least
  pub highs : (k : ℕ) → k < frames t → get_or m.highs k 0 ≡ greatest
