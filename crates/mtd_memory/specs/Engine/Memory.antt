-- MTD's memory as the engine keeps it, a count, the list of leaves and three arrays over the node numbers, and what a
-- visit of a node asks of it and does to it.
use Rattle.std.specs.Prelude.{ℕ, zero, suc, ◌+◌, ◌-◌, ◌*◌, ◌/◌, ◌%◌, ◌≤◌, ◌<◌, ◌≡◌, Bool, true, false, cond, List}
use Rattle.std.specs.Prelude.{eqb, length, get_or, Option, Some, None}
use Rattle.std.specs.declared.ops.Range.{Range}
use Rattle.gametree.specs.declared.Position.{Position}
use Rattle.gametree.specs.declared.Side.{Side}
use Rattle.gametree.specs.declared.Side.TheVariants.{Max, Min}
use Rattle.gametree.specs.Trees.{Tree, greatest, In}
use Rattle.gametree.specs.Bounds.{high}
use Rattle.gametree.specs.Engine.Memo.{Memo, Pass, pass}
use Rattle.gametree.specs.Engine.MemoArrays.{read_memo, Remembered}
use Rattle.table.specs.Frame.{frames, first_child, child_count}
use Rattle.table.specs.Position.{position_of, side_of}
use Rattle.table.specs.Tree.{tree_at, valuation}
use Rattle.table.specs.Formed.{WellFormed}
use Rattle.certificate_bounds.specs.Marks.{marked, ones}
use Rattle.certificate_bounds.specs.Engine.Progress.{Progress, progress, evaluate_all}
use Rattle.certificate_bounds.specs.Engine.Bounds.{bound_of}
use Rattle.certificate_bounds.specs.Engine.Ranges.{best_in}
use Rattle.certificate_flags.specs.Engine.Chosen.{first_equal}
use Rattle.certificate_bounds.specs.Engine.Evaluations.{SameBuffers}
use Rattle.mtd_memory.specs.declared.Memory.{Memory as Lent}
use Rattle.mtd_memory.specs.declared.TwoBest.{TwoBest}

-- how many leaves are evaluated, their marks, the list of them, the high of each node, and an entry for each inner
-- node: 1 where a pass found it not below its test; else 0, or for a Min node one more than the number of its leading
-- children to skip, or for a Max node one that names its two best children
pub record Memory : Type 0 where
  pub leaves : ℕ
  pub evaluated : List ℕ
  pub order : List ℕ
  pub highs : List ℕ
  pub not_below : List ℕ

-- the memory of a count and four arrays
abbrev pub memory : ℕ → (e o h n : List ℕ) → Memory
memory k e o h n = record { leaves = k; evaluated = e; order = o; highs = h; not_below = n }

-- the memory that a struct of lent buffers holds
abbrev pub memory_of : Lent → Memory
memory_of m =
    let e = m.evaluations.now in memory e.leaves e.marks.now e.order.now m.highs.now m.not_below.now

-- each array keeps its length
pub record Long (m m' : Memory) : Type 0 where
  pub evaluated : length m'.evaluated ≡ length m.evaluated
  pub order : length m'.order ≡ length m.order
  pub highs : length m'.highs ≡ length m.highs
  pub not_below : length m'.not_below ≡ length m.not_below

-- all of it is in the same lent buffers before and after, which keep their lengths
pub record SameArrays (before after : Lent) : Type 0 where
  pub evaluations : after.evaluations.ghost_name ≡ before.evaluations.ghost_name
  pub buffers : SameBuffers before.evaluations.now after.evaluations.now
  pub highs : after.highs.ghost_name ≡ before.highs.ghost_name
  pub not_below : after.not_below.ghost_name ≡ before.not_below.ghost_name
  pub long : Long (memory_of before) (memory_of after)

-- how far the evaluation of leaves has come
abbrev pub progress_of : Memory → Progress
progress_of m = progress m.leaves m.evaluated m.order

-- what the arrays remember of a tree
abbrev pub memo_of : Memory → (T : Tree) → Memo T
memo_of m T = read_memo (marked m.evaluated) (marked m.not_below) T

-- the pass with the test γ over a tree that the arrays remember
abbrev pub pass_of : List ℕ → ℕ → Memory → (T : Tree) → Pass T
pass_of t γ m T = pass (valuation t) γ T (memo_of m T)

-- each array has an entry for each of n nodes
pub record MemoryRoom (n : ℕ) (m : Memory) : Type 0 where
  pub evaluated : n ≤ length m.evaluated
  pub order : n ≤ length m.order
  pub highs : n ≤ length m.highs
  pub not_below : n ≤ length m.not_below

-- the high of each node of a tree is the one that the leaves evaluated so far give it
abbrev pub HighsRight : List ℕ → Memory → Tree → Type 0
HighsRight t m T =
    (k : ℕ) → In k T → get_or m.highs k 0 ≡ high (valuation t) (marked m.evaluated) (tree_at t k)

-- how many leading children an entry says to skip: none by 0 and 1
abbrev pub skip_at : List ℕ → ℕ → ℕ
skip_at l k = get_or l k 0 - 1

-- the entry that says to skip n of them
abbrev pub skip_entry : ℕ → ℕ
skip_entry zero = 0
skip_entry (suc n) = suc (suc n)

-- the entry of a Min node with the answer b: below, it skips the n children that came before the one found below
abbrev pub kept_entry : (b : Bool) → (n : ℕ) → ℕ
kept_entry true n = 1
kept_entry false n = skip_entry n

-- an entry x from 256 on names two children of a Max node by their places: one more than that of the leading child, by
-- x / 256, and that of the second one; none of the others has a greater high than the second one
pub record NamesTwo (highs : List ℕ) (first end x : ℕ) : Type 0 where
  pub lead : 256 ≤ x → first + x / 256 ≤ end
  pub second : 256 ≤ x → first + x % 256 < end
  pub apart : 256 ≤ x → x % 256 + 1 ≡ x / 256 → ⊥
  pub others : 256 ≤ x → (j : ℕ) → first ≤ j → j < end → (j + 1 ≡ first + x / 256 → ⊥)
      → get_or highs j 0 ≤ get_or highs (first + x % 256) 0

-- the entry that names two different children by their places
abbrev pub lead_entry : (lead second : ℕ) → ℕ
lead_entry lead second = cond (eqb lead second) 0 ((lead + 1) * 256 + second)

-- the nodes of the range r are children of one node: some, at most 255, and each has a high
abbrev pub Siblings : List ℕ → Range ℕ → Type 0
Siblings highs r = (r.start < r.end) × (r.end ≤ length highs) × (r.end ≤ r.start + 255)

-- the two best of the children so far
pub record Best (highs : List ℕ) (first end : ℕ) (two : TwoBest) : Type 0 where
  pub lead-from : first ≤ two.lead
  pub lead-to : two.lead < end
  pub second_from : first ≤ two.second
  pub second-to : two.second < end
  pub most : two.most ≡ get_or highs two.lead 0
  pub more : two.more ≤ get_or highs two.second 0
  pub order : two.more ≤ two.most
  pub others : (j : ℕ) → first ≤ j → j < end → (j ≡ two.lead → ⊥) → get_or highs j 0 ≤ two.more

-- a leaf that is evaluated, or an inner node that a pass found not below
pub record Explored (t : List ℕ) (m : Memory) (j : ℕ) : Type 0 where
  pub leaf-is : child_count t j ≡ 0 → marked m.evaluated j ≡ true
  pub inner-is : 0 < child_count t j → marked m.not_below j ≡ true

-- the leading children that a Min node skips are not all of them, and explored; a Max node's entry names two children
pub record Skips (t : List ℕ) (m : Memory) (k : ℕ) : Type 0 where
  pub few : side_of t k ≡ Min → 0 < skip_at m.not_below k → skip_at m.not_below k < child_count t k
  pub explored : side_of t k ≡ Min → (j : ℕ) → first_child t k ≤ j → j < first_child t k + skip_at m.not_below k
      → Explored t m j
  pub leads : side_of t k ≡ Max
      → NamesTwo m.highs (first_child t k) (first_child t k + child_count t k) (get_or m.not_below k 0)

abbrev pub SkipsRight : List ℕ → Memory → Tree → Type 0
SkipsRight t m T = (k : ℕ) → In k T → Skips t m k

-- what is kept of a Min node that is below: the child before `child` was found below, and has the least high
pub record FoundBelow (highs : List ℕ) (first end child : ℕ) : Type 0 where
  pub from : first < child
  pub to : child ≤ end
  pub best : best_in Min (λ k. get_or highs k 0) first (end - (first + 1)) ≡ get_or highs (child - 1) 0

-- the children that a pass with the test γ has to try, by the entry x: of a Max node all others are below the test
pub record ToTry (s : Side) (highs : List ℕ) (γ first end x : ℕ) (r : Range ℕ) : Type 0 where
  pub start : first ≤ r.start
  pub some : r.start < r.end
  pub within : r.end ≤ end
  pub skips : s ≡ Min → (r.start ≡ first + (x - 1)) × (r.end ≡ end)
  pub outside : s ≡ Max → (k : ℕ) → first ≤ k → k < end → (r.start ≤ k → k < r.end → ⊥) → get_or highs k 0 < γ
  pub alone : s ≡ Max → 256 ≤ x → r.start + 1 ≡ r.end → r.end ≡ first + x / 256

-- where one child alone was tried, it is the leading one that the entry x names
pub record Alone (highs : List ℕ) (first end x : ℕ) (r : Range ℕ) : Type 0 where
  pub some : r.start < r.end
  pub within : r.end ≤ end
  pub alone : 256 ≤ x → r.start + 1 ≡ r.end → r.end ≡ first + x / 256
  pub leads : 256 ≤ x → r.start + 1 ≡ r.end → NamesTwo highs first end x

-- what a node with the answer b keeps of its children: the best high v, and the entry x
pub record KeepsBest (s : Side) (b : Bool) (highs : List ℕ) (first end child v x : ℕ) : Type 0 where
  pub high : v ≡ best_in s (λ k. get_or highs k 0) first (end - (first + 1))
  pub flag : eqb x 1 ≡ b
  pub skips : s ≡ Min → x ≡ kept_entry b (child - (first + 1))
  pub leads : s ≡ Max → NamesTwo highs first end x

-- the count is the number of marks
abbrev pub Counted : List ℕ → Memory → Type 0
Counted t m = m.leaves ≡ ones m.evaluated (frames t)

-- what a visit of node i at the position p asks
pub record VisitReady (t : List ℕ) (m : Memory) (i : ℕ) (p : Position) : Type 0 where
  pub formed : WellFormed t
  pub inside : i < frames t
  pub positioned : p ≡ position_of t i
  pub room : MemoryRoom (frames t) m
  pub counted : Counted t m
  pub right : HighsRight t m (tree_at t i)
  pub skips : SkipsRight t m (tree_at t i)

-- node i is entered by the pass with the test γ: it has children, its high is not below the test, and no pass has found
-- it not below
pub record Enterable (t : List ℕ) (m : Memory) (i γ : ℕ) : Type 0 where
  pub non_empty : 0 < child_count t i
  pub high : γ ≤ get_or m.highs i 0
  pub not_below : marked m.not_below i ≡ false

-- the leaves w were evaluated in turn: they are counted, marked and listed
pub record Evaluated (m m' : Memory) (w : List ℕ) : Type 0 where
  pub all : progress_of m' ≡ evaluate_all (progress_of m) w

-- what a visit of the root of the tree T does: the pass, and nothing to nodes outside the tree
pub record Passed (t : List ℕ) (T : Tree) (γ : ℕ) (m m' : Memory) (r : Bool) : Type 0 where
  pub answer : r ≡ (pass_of t γ m T).not_below
  pub evaluated : Evaluated m m' (pass_of t γ m T).evaluated
  pub counted : Counted t m'
  pub memo :
      Remembered (valuation t) γ T (marked m.evaluated) (marked m.not_below) (marked m'.evaluated)
      (marked m'.not_below)
  pub right : HighsRight t m' T
  pub others : (k : ℕ) → (In k T → ⊥) → get_or m'.highs k 0 ≡ get_or m.highs k 0
  pub skips : SkipsRight t m' T
  pub flags : (k : ℕ) → (In k T → ⊥) → get_or m'.not_below k 0 ≡ get_or m.not_below k 0

-- what a look at node i does: the pass, where the node is answered; nothing, where it is to be entered
abbrev pub Looked : (t : List ℕ) (i γ : ℕ) (m m' : Memory) → Option Bool → Type 0
Looked t i γ m m' (Some r) = Passed t (tree_at t i) γ m m' r
Looked t i γ m m' None = (m' ≡ m) × Enterable t m i γ

-- the place that is found; the end where there is none
abbrev pub place_or : ℕ → Option ℕ → ℕ
place_or end (Some k) = k
place_or end None = end

-- the children from `from` up to r are passed over: they are below the test by their highs, and their parent is Max
pub record PassedOver (s : Side) (highs : List ℕ) (γ from end r : ℕ) : Type 0 where
  pub start : from ≤ r
  pub to : r ≤ end
  pub below : (k : ℕ) → from ≤ k → k < r → get_or highs k 0 < γ
  pub side : from < r → s ≡ Max

-- the first of the root's children whose high is the root's, by the marks e; 0 where there is none
abbrev pub first_high : (t e : List ℕ) → ℕ
first_high t e = first_equal (bound_of t (marked e) greatest) (bound_of t (marked e) greatest 0) 1 (child_count t 0)

-- what the passes ask: nothing is evaluated, no node was found not below, and every high is the greatest
pub record Fresh (t : List ℕ) (m : Memory) : Type 0 where
  pub formed : WellFormed t
  pub room : MemoryRoom (frames t) m
  pub leaves : m.leaves ≡ 0
  pub evaluated : (k : ℕ) → k < frames t → marked m.evaluated k ≡ false
  pub not_below : (k : ℕ) → k < frames t → get_or m.not_below k 0 ≡ 0
  pub highs : (k : ℕ) → k < frames t → get_or m.highs k 0 ≡ greatest
