-- The sentence of the release note, then the value and the bytes behind it (demands 3, 2 and 1), each said of the
-- functions that run: of their lowered code, which an unverified back end then compiles (`Runs` in specs/Runs.antt;
-- `EverySearch` and `EveryTwo` in specs/Searches.antt, of the calls of `search::search`, by whatever method). Read with
-- it `Marked` and `CertifiedBy` (specs/Handed.antt), the tree of a table (`tree` and `valuation` in
-- table/specs/Tree.antt), `minimax` and `root_move_of` (gametree/specs); and `evaluated_by` (methods/specs/Rules.antt)
-- with
-- `reached`, `mtd`, `mtdf` and `sss` (gametree/specs), for whether the methods are those of the papers. Sentences.antt
-- has the other sentences, Exports.antt this one of the two exports. In a statement about a call of another function
-- the arguments come first, in the order of the code, then the answer r, then the parameters at exit; t and u are
-- tables, m marks, f flags, o lists of leaves.
use Rattle.prelude.proofs.{ℕ, ◌≤◌, ◌≡◌, sym, ap, ◌∙◌, ◌↔◌, some, [], ◌∷◌, ℤ, length, Ok, Err}
use Rattle.gametree.specs.{minimax, root_move_of}
use Rattle.table.specs.declared.Rejection.{Rejection}
use Rattle.table.specs.{value_of, frames, tree, valuation, ◌and_then◌, ◌leaving◌, rejection}
use Rattle.table.proofs.Asked.{answer-rejected}
use Rattle.file_line.specs.{decoded}
use Rattle.certificate_write.specs.{search_rejection}
use Rattle.methods.specs.declared.Method.TheVariants.{AlphaBeta, Sss}
use Rattle.methods.specs.declared.Findings.{Findings}
use Rattle.methods.specs.declared.Answer.TheVariants.{Found, Rejected}
use Rattle.methods.specs.{lent, rejection_of, search_outcome}
use Rattle.sss.proofs as sss
use Rattle.sss.specs.contracts as sss'
use Rattle.plain.proofs as plain
use Rattle.plain.specs.contracts as plain'
use Rattle.certificate_check.proofs as certificate_check
use Rattle.certificate_check.specs.contracts as certificate_check'
use Rattle.certificate_check.specs.Certificate.{Certificate}
use Rattle.certificate_check.proofs.Theorems.{accepts-certificates, accepted-minimax}
use Rattle.file_read.proofs as reader
use Rattle.file_read.specs.contracts as reader'
use Rattle.file_read.specs.{read_rejection}
use Rattle.file_read.proofs.Reading.{read_answer}
use Rattle.file_write.proofs as writer
use Rattle.file_write.specs.contracts as writer'
use Rattle.file_write.specs.{write_check10, write_rejection}
use Rattle.file.proofs.Saving as saving
use Rattle.file_convert.proofs as file_convert
use Rattle.file_convert.specs.contracts as file_convert'
use Rattle.file_convert.specs.declared.Printed.TheVariants.{NoRoom}
use Rattle.file_convert.specs.{base_rejection}
use Rattle.file_convert.proofs.Converted as converted
use Rattle.file_convert.proofs.Printing.{no-room-keeps}
use Rattle.graft.proofs as graft
use Rattle.graft.specs.contracts as graft'
use Rattle.graft_questions.specs.{graft_rejection}
use Rattle.graft.proofs.Grafting as grafting
use Rattle.worst_fill.proofs as worst_fill
use Rattle.worst_fill.specs.contracts as worst_fill'
use Rattle.worst_fill.proofs.Whole.{fill-kept}
use Rattle.demands.specs.Runs.{Runs, function}
use Rattle.demands.specs.{EverySearch, EveryTwo, Given, Marked, CertifiedBy}
use Rattle.demands.proofs.Contracts as contracts
use Rattle.demands.proofs.Running.{follows, every, every_two}
use Rattle.demands.proofs.Views as views
use Rattle.demands.proofs.Handed.{flags-certify, handed, dominated}
use Rattle.demands.proofs.PlainCalls.{plain-refused}

-- THE SENTENCE

-- "it values no leaf that alpha-beta would have passed over": whenever one table is searched twice, by SSS* within any
-- allowance and by alpha-beta, and neither call is refused, each leaf that the first marks the second marks too; so it
-- is with every other method
pub no-leaf-passed-over : EveryTwo (λ c d. d.method ≡ AlphaBeta → d.table ≡ c.table → Given c → Given d
    → (k : ℕ) → Marked c.table c.left k → Marked d.table d.left k)
no-leaf-passed-over = every_two dominated

-- THE VALUE

-- "give for every accepted tree the minimax value and the first root move that reaches it, with a max and a min
-- solution tree made only of leaves they valued" (that there is a result for every accepted tree: `gives` in
-- Sentences.antt)
pub minimax-value : EverySearch (λ c. (g : Findings) → c.answer ≡ Found g
    → g.value ≡ value_of (minimax (valuation c.table) (tree c.table)))
minimax-value = every (λ c s g e. ap (λ x. x.value) (views.findings c s g e))

pub first-move : EverySearch (λ c. (g : Findings) → c.answer ≡ Found g
    → g.root_move ≡ root_move_of (valuation c.table) (tree c.table))
first-move = every (λ c s g e. ap (λ x. x.root_move) (views.findings c s g e))

pub solution-trees : EverySearch (λ c. (g : Findings) → c.answer ≡ Found g → CertifiedBy c.table c.left)
solution-trees = every (λ c s g e. flags-certify (handed c s g e))

-- "The checker accepts a pair exactly when both are solution trees of that tree with equal value, and that value is
-- then the minimax value"
pub checker : Runs certificate_check'.check.ended (function certificate_check.check.Symbol.name
    certificate_check.check.Symbol.code)
    (λ κs (t, (f, _)) r e. (((z : ℤ) × (r ≡ Ok z)) ↔ ((v : ℕ) × Certificate t.now f.now v))
    × ((z : ℤ) → r ≡ Ok z → z ≡ value_of (minimax (valuation t.now) (tree t.now))))
checker =
    follows contracts.verify-check (λ κs (t, (f, _)) r e o.
    let a = accepts-certificates t.now f.now in (
      (λ p. a.0 (p.0, sym o ∙ p.1), λ p. ((a.1 p).0, o ∙ (a.1 p).1)),
      λ z p. accepted-minimax t.now f.now z (sym o ∙ p),
    ))

-- OF `sss::search`

-- SSS* over a lent list of states with an entry per node gives and leaves what `search::search` does by SSS*
-- (`search-search` in Contracts): all that is said of the calls of `search::search` in these files holds of its calls
pub lent-list : Runs sss'.search.ended (function sss.search.Symbol.name sss.search.Symbol.code)
    (λ κs (t, (l, (m, (f, (o, (n, _)))))) r (_, (_, (m', (f', (o', _))))). frames t.now ≤ length l.now
    → r leaving lent m'.now f'.now o'.now
    ≡ search_outcome (Sss n) t.now (lent m.now f.now o.now))
lent-list =
    follows contracts.sss-search (λ κs (t, (l, (m, (f, (o, (n, _)))))) r e s long.
    ap (λ x. x.answer) s ∙ views.list-outcome n t.now l.now (lent m.now f.now o.now) long)

-- THE BYTES

-- "After a refusal all lent memory holds what it held before": the refusal is the first "no" to the questions that the
-- function puts, and what it could change is as it was; the other public functions are lent nothing that they could
-- change
pub keeps : EverySearch (λ c. (q : Rejection) → c.answer ≡ Rejected q
    → (rejection_of c.table c.lent ≡ some q) × (c.left ≡ c.lent))
keeps = every views.refused

-- SSS* over a lent list of states asks for room in that list too
pub sss-keeps : Runs sss'.search.ended (function sss.search.Symbol.name sss.search.Symbol.code)
    (λ κs (t, (l, (m, (f, (o, _))))) r (_, (l', (m', (f', (o', _))))). (q : Rejection) → r ≡ Rejected q
    → (search_rejection t.now (length l.now ∷ length m.now ∷ length f.now ∷ length o.now ∷ []) ≡ some q)
    × (l'.now ≡ l.now) × (lent m'.now f'.now o'.now ≡ lent m.now f.now o.now))
sss-keeps =
    follows contracts.sss-search (λ κs (t, (l, (m, (f, (o, (n, _)))))) r (_, (l', (m', (f', (o', _))))) s q e.
    views.list-refused n t.now l.now (lent m.now f.now o.now) _ q _ l'.now (rw e at s))

pub plain-keeps : Runs plain'.search.ended (function plain.search.Symbol.name plain.search.Symbol.code)
    (λ κs (t, (m, (f, _))) r (_, (m', (f', _))). (q : Rejection) → r ≡ Err q
    → (search_rejection t.now (length m.now ∷ length f.now ∷ []) ≡ some q)
    × (lent m'.now f'.now [] ≡ lent m.now f.now []))
plain-keeps =
    follows contracts.plain-search (λ κs (t, (m, (f, _))) r (_, (m', (f', _))) s q e.
    plain-refused t.now (lent m.now f.now []) (lent m'.now f'.now []) q (rw e at s))

pub read_keeps : Runs reader'.read.ended (function reader.read.Symbol.name reader.read.Symbol.code)
    (λ κs (f, (t, _)) r (_, (t', _)). (q : Rejection) → r ≡ Err q
    → (read_rejection f.now t.now ≡ some q) × (t'.now ≡ t.now))
read_keeps =
    follows contracts.treefile-read (λ κs (f, (t, _)) r (_, (t', _)) s q e.
    let a = sym e ∙ ap (λ o. o.answer) s ∙ read_answer f.now t.now in
    let i = answer-rejected (frames (decoded f.now)) q (read_rejection f.now t.now) a in
    (i, ap (λ o. o.left) s ∙ rw i))

pub write_keeps : Runs writer'.write.ended (function writer.write.Symbol.name writer.write.Symbol.code)
    (λ κs (t, (b, _)) r (_, (b', _)). (q : Rejection) → r ≡ Err q
    → (write_rejection t.now (length b.now) ≡ some q) × (b'.now ≡ b.now))
write_keeps =
    follows contracts.treefile-write (λ κs (t, (b, _)) r (_, (b', _)) s q e.
    let k = saving.write_keeps t.now b.now q (sym (ap (λ o. o.answer) s) ∙ e) in
    (k.0, ap (λ o. o.left) s ∙ k.1))

pub convert-keeps : Runs file_convert'.convert.ended (function file_convert.convert.Symbol.name
    file_convert.convert.Symbol.code)
    (λ κs (f, (b, _)) r (_, (b', _)). (q : Rejection) → r ≡ Err q
    → ((base_rejection f.now and_then write_check10 (decoded f.now) (length b.now)) ≡ some q)
    × (b'.now ≡ b.now))
convert-keeps =
    follows contracts.convert-convert (λ κs (f, (b, _)) r (_, (b', _)) s q e.
    let k = converted.convert-keeps f.now b.now q (sym (ap (λ o. o.answer) s) ∙ e) in
    (k.0, ap (λ o. o.left) s ∙ k.1))

-- where there is no room for what `capitals` prints
pub output-keeps : Runs file_convert'.output.ended (function file_convert.output.Symbol.name
    file_convert.output.Symbol.code)
    (λ κs (f, (b, _)) r (_, (b', _)). r ≡ NoRoom → b'.now ≡ b.now)
output-keeps =
    follows contracts.convert-output (λ κs (f, (b, _)) r (_, (b', _)) s e.
    ap (λ o. o.left) s ∙ no-room-keeps f.now b.now (sym (ap (λ o. o.answer) s) ∙ e))

pub graft-keeps : Runs graft'.graft.ended (function graft.graft.Symbol.name graft.graft.Symbol.code)
    (λ κs (t, (k, (u, (b, _)))) r (_, (_, (_, (b', _)))). (q : Rejection) → r ≡ Err q
    → (graft_rejection t.now k u.now (length b.now) ≡ some q) × (b'.now ≡ b.now))
graft-keeps =
    follows contracts.graft-graft (λ κs (t, (k, (u, (b, _)))) r (_, (_, (_, (b', _)))) s q e.
    let p = grafting.graft-keeps t.now k u.now b.now q (sym (ap (λ o. o.answer) s) ∙ e) in
    (p.0, ap (λ o. o.left) s ∙ p.1))

pub fill-keeps : Runs worst_fill'.fill.ended (function worst_fill.fill.Symbol.name worst_fill.fill.Symbol.code)
    (λ κs (t, _) r (t', _). (q : Rejection) → r ≡ Err q
    → (rejection t.now ≡ some q) × (t'.now ≡ t.now))
fill-keeps =
    follows contracts.worstfill-fill (λ κs (t, _) r (t', _) s q e.
    let k = fill-kept t.now q (sym (ap (λ o. o.answer) s) ∙ e) in
    (k.0, ap (λ o. o.left) s ∙ k.1))
