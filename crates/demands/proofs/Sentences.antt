-- The headline sentences of the demands and of each request, said of the functions that run (TheSentence.antt has the
-- first of them). N4: `treefile-digit` in Contracts.antt.
use Rattle.prelude.proofs.{ℕ, ◌*◌, ◌≤◌, ◌<◌, ◌≡◌, sym, ap, ◌∙◌, subst, ◌↔◌, Bool, true, cond, none, List, [], ◌++◌}
use Rattle.prelude.proofs.{eqb, Ok, Err}
use Rattle.prelude.proofs.{ℤ, pos, nat_abs, length, get_or, take, drop, ◌≤ℤ◌, ◌<ℤ◌}
use Rattle.std.specs.Prelude.{Ok}
use Rattle.lists.specs.{Once, Subsequence, among}
use Rattle.gametree.specs.{leaves as tree_leaves, minimax, Certifies, Smallest, pair_leaves, root_move_of}
use Rattle.table.specs.declared.Rejection.{Rejection}
use Rattle.table.specs.{frame_size, max_depth, frames, child_count, stored_score, depth_of, tree, valuation, value_of}
use Rattle.table.specs.{max_value, Ordinary, Accepted, LowestDeep, rejection_before9, SameShape, Alternating}
use Rattle.table.specs.{tree_by_depth}
use Rattle.table.specs.{RegularTable}
use Rattle.table.proofs.Sides.{tree-before}
use Rattle.table.proofs.TreeOfTable.{ordinary-scores}
use Rattle.file_hex.specs.{is_capital_digit}
use Rattle.file_line.specs.{line_digits, lines_of, decoded}
use Rattle.certificate_bounds.specs.{mark, ones}
use Rattle.table_check.proofs as table_check
use Rattle.table_check.specs.contracts as table_check'
use Rattle.file_read.proofs as reader
use Rattle.file_read.specs.contracts as reader'
use Rattle.file_read.specs.{AcceptedFile, read_outcome}
use Rattle.file_read.proofs.Acceptance.{accepted-exactly, read-nodes}
use Rattle.file_write.proofs as writer
use Rattle.file_write.specs.contracts as writer'
use Rattle.file.proofs.Saving.{saved_read}
use Rattle.file_convert.proofs as file_convert
use Rattle.file_convert.specs.contracts as file_convert'
use Rattle.file_convert.proofs.Converted.{converted-accepted, converted-table}
use Rattle.certificate_check.specs.Certificate.{Certificate}
use Rattle.methods.specs.declared.Method.TheVariants.{AlphaBeta, Mtd, Sss}
use Rattle.methods.specs.declared.Findings.{Findings}
use Rattle.methods.specs.declared.Spent.{Spent as Spending}
use Rattle.methods.specs.declared.Answer.TheVariants.{Found, Spent}
use Rattle.methods.specs.{run_of, evaluated_by, lent, findings_by, answer_by}
use Rattle.plain.proofs as plain
use Rattle.plain.specs.contracts as plain'
use Rattle.plain.specs.declared.PlainResult.{PlainResult}
use Rattle.graft.proofs as graft
use Rattle.graft.specs.contracts as graft'
use Rattle.graft.specs.{graft_value}
use Rattle.graft.proofs.Grafting.{grafted-value}
use Rattle.leaf_value.proofs as leaf_value
use Rattle.leaf_value.specs.contracts as leaf_value'
use Rattle.leaf_value.specs.{root_value}
use Rattle.leaf_value.proofs.Theorems.{given}
use Rattle.worst_fill.proofs as worst_fill
use Rattle.worst_fill.specs.contracts as worst_fill'
use Rattle.least_count.proofs as least_count
use Rattle.least_count.specs.contracts as least_count'
use Rattle.least_count.specs.{least_answer}
use Rattle.certificate_choice.proofs as certificate_choice
use Rattle.certificate_choice.specs.contracts as certificate_choice'
use Rattle.certificate_choice.specs.declared.Chosen.TheVariants.{First, Second}
use Rattle.certificate_choice.specs.{flagged_leaves, flags_by}
use Rattle.certificate_choice.proofs.Theorems.{both_first, both-second}
use Rattle.demands.specs.Runs.{Runs, function}
use Rattle.demands.specs.{RunBoth, EverySearch, EveryTwo, EverySearchAnd, EachPlain, Given, count_of, Room}
use Rattle.demands.specs.{AgreeOnMarked, Alike}
use Rattle.demands.proofs.Contracts as contracts
use Rattle.demands.proofs.Running.{follows, together, every, every_two, every-and, each-plain}
use Rattle.demands.proofs.LentBytes.{writer-says}
use Rattle.demands.proofs.Views as views
use Rattle.demands.proofs.Handed.{marks-at, marking, count_ones, no_more}
use Rattle.demands.proofs.Local.{answers-alike, marks-alike, orders-alike, buffers-alike}
use Rattle.demands.proofs.Allowed.{nothing_left, needs-more, spends, merit-bounds}
use Rattle.demands.proofs.Listing.{as_many, none-twice, left-to-right, first-of, first-of-mtd, all-of-mtd}
use Rattle.demands.proofs.Listing.{agree, same_count, same-buffers}
use Rattle.demands.proofs.PlainCalls.{plain_value, plain-move}
use Rattle.demands.proofs.Deeper.{deeper-answered}
use Rattle.demands.proofs.FilledCosts.{every-leaf-counted, every-leaf-marked, none-costlier}
use Rattle.demands.proofs.LeastCounts.{every-pair}
use Rattle.demands.proofs.Fewest.{smallest, no-fewer, no-fewer-plain}

-- DEMAND 2

-- "each valuing the leaves that its rule names and no others", a stopped run the first of them
pub rule-leaves : EverySearch (λ c. Given c → (k : ℕ) → k < frames c.table
    → get_or c.left.marks k 0 ≡ mark (among (evaluated_by c.method c.table)) k)
rule-leaves = every (λ c s x. marks-at (marking c s x))

-- "give for every accepted tree": with room in what is lent there is a result; from SSS* within its allowance
pub gives : EverySearch (λ c. Accepted c.table → Room c.table c.lent
    → ((n : ℕ) → c.method ≡ Sss n → length (run_of c.table).evaluations ≤ n)
    → (g : Findings) × (c.answer ≡ Found g))
gives = every (λ c s a r enough. (
  findings_by c.method c.table,
  views.room-answered c s a r ∙ ap (λ xs. answer_by xs c.method c.table)
      (nothing_left c.table c.method enough),
))

-- DEMAND 3

-- "so the count in its result is at most the one in alpha-beta's", whatever the first call's method, and also where it
-- is stopped by its allowance
pub counts : EveryTwo (λ c d. d.method ≡ AlphaBeta → d.table ≡ c.table → Given c → Given d
    → count_of c.answer ≤ count_of d.answer)
counts = every_two no_more

-- "Neither values a leaf twice: each count is exactly the number of leaves valued"
pub exact-count : EverySearch (λ c. Given c → (count_of c.answer ≡ length (evaluated_by c.method c.table))
    × (count_of c.answer ≡ ones c.left.marks (frames c.table)))
exact-count = every (λ c s x. (views.counted c s x, count_ones c s x))

-- "Neither count is below the number of leaves .. in the smallest pair of max and min solution trees of equal value"
pub smallest-pair : EverySearch (λ c. (f : Findings) → c.answer ≡ Found f → (g h : ℕ → Bool)
    → Smallest (valuation c.table) (tree c.table) g h → pair_leaves g h (tree c.table) ≤ f.leaves)
smallest-pair = every smallest

-- "whatever the leaves it passed over hold: two accepted trees of one shape that agree on the leaves it valued in one
-- of them get results from it that are alike in value, move and every count, with the same valued leaves and the same
-- solution trees"; the same lists of leaves; and N6: "trees that agree on valued leaves also agree on spent answers
-- under one allowance"
pub local : EveryTwo (λ c d. d.method ≡ c.method → Given c → Given d → SameShape c.table d.table
    → AgreeOnMarked c.table d.table c.left
    → (c.answer ≡ d.answer)
    × (take (frames c.table) c.left.marks ≡ take (frames c.table) d.left.marks)
    × (take (count_of c.answer) c.left.order ≡ take (count_of d.answer) d.left.order)
    × ((g : Findings) → c.answer ≡ Found g → Alike (frames c.table) c.left d.left))
local = every_two (λ c d s q i x y h a. (
  answers-alike c d s q i x y h a,
  marks-alike c d s q i x y h a,
  orders-alike c d s q i x y h a,
  buffers-alike c d s q i x y h a,
))

-- THE REQUESTS

-- N1: "It is proved equal to alpha-beta in both for every accepted tree", and so to every method
pub plain-agrees : EverySearchAnd plain'.search.ended (function plain.search.Symbol.name plain.search.Symbol.code)
    (λ c κs (u, _) r e. u.now ≡ c.table → (f : Findings) → c.answer ≡ Found f
    → (g : PlainResult) → r ≡ Ok g → (g.value ≡ f.value) × (g.root_move ≡ f.root_move))
plain-agrees =
    every-and contracts.plain-search (λ c s κs (u, (m, (f, _))) r e o same g i h j.
    let l = lent m.now f.now [] in
    let p = rw j at o in
    let v = views.findings c s g i in (
      plain_value u.now h l _ p ∙ ap (λ t. value_of (minimax (valuation t) (tree t))) same
          ∙ sym (ap (λ x. x.value) v),
      plain-move u.now h l _ p ∙ ap (λ t. root_move_of (valuation t) (tree t)) same
          ∙ sym (ap (λ x. x.root_move) v),
    ))

-- N2: "Deeper trees are answered with 9"
pub deeper-refused : Runs table_check'.check.ended (function table_check.check.Symbol.name
    table_check.check.Symbol.code)
    (λ κs (t, _) r e. rejection_before9 t.now ≡ none → (k : ℕ) → k < frames t.now
    → max_depth < depth_of t.now k → (q : Rejection) × LowestDeep t.now q × (r ≡ Err q))
deeper-refused =
    follows contracts.tables-check (λ κs (t, _) r e s passed k h d.
    let p = deeper-answered t.now passed k h d in (p.0, p.1, s ∙ p.2))

-- N3: "Reading a written file restores the table exactly"
pub written_read : RunBoth writer'.write.ended reader'.read.ended
    (function writer.write.Symbol.name writer.write.Symbol.code)
    (function reader.read.Symbol.name reader.read.Symbol.code)
    (λ κs (t, _) r (_, (b, _)) κs' (f, (u, _)) r' (_, (u', _)). (n : ℕ) → r ≡ Ok n
    → f.now ≡ take n b.now → length t.now ≤ length u.now
    → (r' ≡ Ok (frames t.now)) × (u'.now ≡ t.now ++ drop (length t.now) u.now))
written_read =
    together writer-says contracts.treefile-read
    (λ κs (t, (b, _)) r (_, (b', _)) (bytes, s) κs' (f, (u, _)) r' (_, (u', _)) c n e same room.
    let p = saved_read t.now b.now n (sym (ap (λ o. o.answer) s) ∙ e) bytes u.now room in
    let i = same ∙ ap (λ o. take n o.left) s in
    let o = c ∙ ap (λ x. read_outcome x u.now) i ∙ p in
    (ap (λ x. x.answer) o, ap (λ x. x.left) o))

-- N5: "A leaf's worth takes the place of its value": in `valuation` (`leaf-worth` in Demand2.antt); where no leaf is a
-- win or a loss, the scores are the stored ones, and so is all that follows from them: the value, the move, the leaves
-- that each rule names, the flags (`gives-exactly` and `leaves-exactly` in Demand2.antt, `same-bounds` in Plain.antt),
-- and what the checker gives (`checker` in TheSentence.antt)
pub stored-scores : (t : List ℕ) → Accepted t → Ordinary t → valuation t ≡ stored_score t
stored-scores = ordinary-scores

pub ordinary : EverySearch (λ c. (g : Findings) → c.answer ≡ Found g → Ordinary c.table
    → g.value ≡ value_of (minimax (stored_score c.table) (tree c.table)))
ordinary = every (λ c s g e p.
    ap (λ x. x.value) (views.findings c s g e)
    ∙ ap (λ ν. value_of (minimax ν (tree c.table)))
    (ordinary-scores c.table (views.accepted c s (views.found-given c s g e)) p))

-- N6: "Spent is given exactly when the full run needs more leaves than the allowance"
pub spent-exactly : EverySearch (λ c. (n : ℕ) → c.method ≡ Sss n → Accepted c.table → Room c.table c.lent
    → ((p : Spending) × (c.answer ≡ Spent p)) ↔ (n < length (run_of c.table).evaluations))
spent-exactly = every (λ c s n i a r. (
  λ p. needs-more c s p.0 p.1 n i,
  λ more. spends c s n i a r more,
))

-- "That merit is never below the root's value" (nor above 32,001)
pub merit-not-below : EverySearch (λ c. (p : Spending) → c.answer ≡ Spent p
    → (value_of (minimax (valuation c.table) (tree c.table)) ≤ℤ p.merit) × (p.merit ≤ℤ pos 32001))
merit-not-below = every merit-bounds

-- N7: "The reader takes capital hexadecimal letters and no others"
pub capitals-taken : Runs reader'.read.ended (function reader.read.Symbol.name reader.read.Symbol.code)
    (λ κs (f, _) r e. (n : ℕ) → r ≡ Ok n → (i k : ℕ) → i < length (lines_of f.now) → k < line_digits
    → is_capital_digit (get_or (get_or (lines_of f.now) i []) k 0) ≡ true)
capitals-taken =
    follows contracts.treefile-read (λ κs (f, (t, _)) r e s n given i k h l.
    let a = (read-nodes f.now t.now n (sym given ∙ ap (λ o. o.answer) s)).0 in
    (((accepted-exactly f.now).0 a).line i h).digits k l)

-- "their trees do not change"
pub converted-same : Runs file_convert'.convert.ended (function file_convert.convert.Symbol.name
    file_convert.convert.Symbol.code)
    (λ κs (f, _) r (_, (b, _)). (n : ℕ) → r ≡ Ok n
    → AcceptedFile (take n b.now) × (decoded (take n b.now) ≡ decoded f.now))
converted-same =
    follows contracts.convert-convert (λ κs (f, (b, _)) r (_, (b', _)) s n e.
    subst (λ x. AcceptedFile (take n x) × (decoded (take n x) ≡ decoded f.now)) (sym (ap (λ o. o.left) s))
    (let given = sym (ap (λ o. o.answer) s) ∙ e in
    (converted-accepted f.now b.now n given, converted-table f.now b.now n given)))

-- N8: "Old files mean what they meant"
pub alternating : EverySearch (λ c. (g : Findings) → c.answer ≡ Found g → Alternating c.table
    → g.value ≡ value_of (minimax (valuation c.table) (tree_by_depth c.table)))
alternating = every (λ c s g e p.
    ap (λ x. x.value) (views.findings c s g e)
    ∙ ap (λ x. value_of (minimax (valuation c.table) x))
    (tree-before c.table p (views.formed c s (views.found-given c s g e))))

-- N9: "Its minimax value equals that of the first tree with the leaf's worth replaced by the grafted tree's value"
pub graft-value : Runs graft'.graft.ended (function graft.graft.Symbol.name graft.graft.Symbol.code)
    (λ κs (t, (k, (u, _))) r (_, (_, (_, (b, _)))). (n : ℕ) → r ≡ Ok n →
    let result = take (frame_size * n) b.now in
    minimax (valuation result) (tree result) ≡ graft_value t.now k u.now)
graft-value =
    follows contracts.graft-graft (λ κs (t, (k, (u, (b, _)))) r e s n i.
    subst (λ x. minimax (valuation (take (frame_size * n) x)) (tree (take (frame_size * n) x))
    ≡ graft_value t.now k u.now) (sym (ap (λ o. o.left) s))
    (grafted-value t.now k u.now b.now n (sym (ap (λ o. o.answer) s) ∙ i)))

-- N10: "The call gives the smallest leaf value from -32,000 to 32,000 that makes the root's value exactly the wanted
-- one"
pub smallest-value : Runs leaf_value'.least_value.ended (function leaf_value.least_value.Symbol.name
    leaf_value.least_value.Symbol.code)
    (λ κs (t, (k, (w, _))) r e. (v : ℤ) → r ≡ Ok v → (nat_abs v ≤ max_value) × (root_value t.now k v ≡ w)
    × ((u : ℤ) → nat_abs u ≤ max_value → u <ℤ v → root_value t.now k u ≡ w → ⊥))
smallest-value =
    follows contracts.leastvalue-least-value (λ κs (t, (k, (w, _))) r e s v i.
    let g = given t.now k w v (sym s ∙ i) in (g.ranged, g.reaches, g.smallest))

-- N11: "In that tree alpha-beta values every leaf, so no filling of the shape costs it more"
pub costs-most : EverySearchAnd worst_fill'.fill.ended (function worst_fill.fill.Symbol.name
    worst_fill.fill.Symbol.code)
    (λ c κs (t, _) r (t', _). (n : ℕ) → r ≡ Ok n → c.method ≡ AlphaBeta
    → (g : Findings) → c.answer ≡ Found g → (SameShape t.now c.table → g.leaves ≤ n)
    × (c.table ≡ t'.now → (g.leaves ≡ n) × ((k : ℕ) → k < frames t.now
    → get_or c.left.marks k 0 ≡ cond (eqb (child_count t.now k) 0) 1 0)))
costs-most =
    every-and contracts.worstfill-fill (λ c s κs (t, _) r (t', _) o n e i g f.
    let given = sym (ap (λ x. x.answer) o) ∙ e in (
      none-costlier t.now n given c s i g f,
      λ same.
          let there = same ∙ ap (λ x. x.left) o in
          (every-leaf-counted t.now n given c s i g f there, every-leaf-marked t.now n given c s i g f there),
    ))

-- N12: "each entry is the number of leaves, a shared one counted once, in every max and min pair of equal value, in
-- each such tree that is accepted"
pub least-leaves : Runs least_count'.least_leaves.ended (function least_count.least_leaves.Symbol.name
    least_count.least_leaves.Symbol.code)
    (λ κs (w, (d, _)) r e. (n : ℕ) → r ≡ Ok n → (t : List ℕ) → RegularTable w d t → Accepted t
    → (g h : ℕ → Bool) (v : ℕ) → Certifies (valuation t) (tree t) g h v → pair_leaves g h (tree t) ≡ n)
least-leaves =
    follows contracts.leastcount-least-leaves
    (λ κs (w, (d, _)) r e s n i t regular. every-pair t w d regular n (sym s ∙ i))

-- "and no finished search counts fewer"
pub counts-no-fewer : EverySearch (λ c. (g : Findings) → c.answer ≡ Found g → (w d n : ℕ)
    → RegularTable w d c.table → least_answer w d ≡ Ok n → n ≤ g.leaves)
counts-no-fewer = every no-fewer

-- nor does the plain engine mark fewer
pub marks-no-fewer : EachPlain (λ t f _ l. (w d n : ℕ) → RegularTable w d t → least_answer w d ≡ Ok n
    → n ≤ ones l.marks (frames t))
marks-no-fewer = each-plain no-fewer-plain

-- N13: "the call hands back the flags of the one with fewer flagged leaves, the first on a tie"
pub fewer-leaves : Runs certificate_choice'.select.ended (function certificate_choice.select.Symbol.name
    certificate_choice.select.Symbol.code)
    (λ κs (t, (f, (s, _))) r e. (v w : ℕ) → Certificate t.now f.now v → Certificate t.now s.now w
    → (flagged_leaves t.now s.now < flagged_leaves t.now f.now
    → (r.choice ≡ Ok Second) × (r.flags.now ≡ take (frames t.now) s.now))
    × (flagged_leaves t.now f.now ≤ flagged_leaves t.now s.now
    → (r.choice ≡ Ok First) × (r.flags.now ≡ take (frames t.now) f.now)))
fewer-leaves =
    follows contracts.shorter-select (λ κs (t, (f, (s, _))) r e o v w c d. (
      λ l. let i = o.0 ∙ both-second t.now f.now s.now c d l in
          (i, o.1 ∙ ap (flags_by t.now f.now s.now) i),
      λ l. let i = o.0 ∙ both_first t.now f.now s.now c d l in
          (i, o.1 ∙ ap (flags_by t.now f.now s.now) i),
    ))

-- N14: "For every accepted tree MTD and a finished SSS* give the same list": with the same value, move and count, marks
-- and flags; and where its allowance stops SSS*, it gives the first leaves of that list
pub one_list : EveryTwo (λ c d. (n : ℕ) → c.method ≡ Mtd → d.method ≡ Sss n → d.table ≡ c.table → Given c → Given d
    → (take (count_of d.answer) d.left.order ≡ take (count_of d.answer) c.left.order)
    × ((g h : Findings) → c.answer ≡ Found g → d.answer ≡ Found h
    → (g.leaves ≡ h.leaves) × (g.value ≡ h.value) × (g.root_move ≡ h.root_move)
    × Alike (frames c.table) c.left d.left))
one_list = every_two (λ c d s q n i j t x y. (
  first-of d c q s y x n (first-of-mtd c d s x n i j t),
  λ g h e f.
      let w = all-of-mtd c d s x n i j t q h f in
      let a = agree c d s q t g h e f in
      (same_count c d s q t g h e f w, a.0, a.1, same-buffers c d s q t g h e f w),
))

-- "and alpha-beta's list is in left-to-right order"
pub from-the-left : EverySearch (λ c. c.method ≡ AlphaBeta → Given c
    → Subsequence (take (count_of c.answer) c.left.order) (tree_leaves (tree c.table)))
from-the-left = every left-to-right

-- "a list has as many as the count, and none stands in it twice"
pub listed-once : EverySearch (λ c. Given c → let list = take (count_of c.answer) c.left.order in
    (length list ≡ count_of c.answer) × Once list)
listed-once = every (λ c s x. (as_many c s x, none-twice c s x))
