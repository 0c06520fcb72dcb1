-- Demand 2: what is said beside the headline sentences (`minimax-value`, `first-move`, `solution-trees` and `checker`
-- in TheSentence, `rule-leaves` and `gives` in Sentences), of the searches as they run.
use Rattle.prelude.proofs.{ℕ, ◌+◌, ◌*◌, ◌≤◌, ◌<◌, arith, ◌≡◌, sym, ap, ◌∙◌, List, length, Ok}
use Rattle.gametree_theory.proofs.Within.{evaluations-count, full-few}
use Rattle.table.specs.{frame_size, frames, byte_of, child_count, depth_of, tree, valuation, value_of, signed, worth}
use Rattle.table.specs.{Accepted}
use Rattle.table.proofs.Acceptance.{accepted-formed, nodes-accepted}
use Rattle.table.proofs.Proper.{tree-proper}
use Rattle.table.proofs.Totals.{tree-size}
use Rattle.table.proofs.TreeOfTable.{score-worth}
use Rattle.table.proofs.Values.{value-stored}
use Rattle.table_check.proofs as table_check
use Rattle.table_check.specs.contracts as table_check'
use Rattle.certificate_write.specs.{marks_of, flags_of, listed}
use Rattle.certificate_check.specs.{verdict}
use Rattle.methods.specs.declared.Findings.{Findings}
use Rattle.methods.specs.declared.Spent.{Spent as Spending}
use Rattle.methods.specs.declared.Answer.TheVariants.{Found, Spent}
use Rattle.methods.specs.{run_of, evaluated_by, findings_by}
use Rattle.demands.specs.Runs.{Runs, function}
use Rattle.demands.specs.{EverySearch, Given, Room}
use Rattle.demands.proofs.Contracts as contracts
use Rattle.demands.proofs.Running.{follows, every}
use Rattle.demands.proofs.LentBytes.{first-bytes}
use Rattle.demands.proofs.Views as views
use Rattle.demands.proofs.Handed.{handed, flags-verified}

-- a call with an accepted table and room in what is lent is not refused, and no other is answered
pub not-refused : EverySearch (λ c. Accepted c.table → Room c.table c.lent → Given c)
not-refused = every views.room-given

pub only-accepted : EverySearch (λ c. Given c → Accepted c.table × Room c.table c.lent)
only-accepted = every (λ c s x. (views.accepted c s x, views.room c s x))

-- SSS* evaluates no more leaves than there are nodes, so that an allowance of so many is enough
pub leaves-at-most : (t : List ℕ) → Accepted t → length (run_of t).evaluations ≤ frames t
leaves-at-most t a =
    let wf = accepted-formed t a in
    omega (
      arith,
      full-few (valuation t) (tree t) (tree-proper t wf),
      evaluations-count (valuation t) (tree t),
      tree-size t wf,
    )

-- what a search gives and leaves follows from the leaves of its rule: the findings; the marks and the list of leaves,
-- with what was lent behind them, and the flags, which a spent allowance leaves as they were
pub gives-exactly : EverySearch (λ c. (g : Findings) → c.answer ≡ Found g → g ≡ findings_by c.method c.table)
gives-exactly = every views.findings

pub leaves-exactly : EverySearch (λ c. let rule = evaluated_by c.method c.table in Given c
    → (c.left.marks ≡ marks_of rule c.table c.lent.marks) × (c.left.order ≡ listed rule c.lent.order)
    × ((g : Findings) → c.answer ≡ Found g → c.left.flags ≡ flags_of rule c.table c.lent.flags)
    × ((p : Spending) → c.answer ≡ Spent p → c.left.flags ≡ c.lent.flags))
leaves-exactly =
    every (λ c s x. (views.marks c s x, views.order c s x, views.flags c s, views.flags-kept c s))

-- the checker accepts what each search hands back, and gives the value that the search found
pub verified : EverySearch (λ c. (g : Findings) → c.answer ≡ Found g
    → verdict c.table c.left.flags ≡ Ok g.value)
verified = every (λ c s g e.
    flags-verified (handed c s g e) ∙ ap Ok (sym (ap (λ x. x.value) (views.findings c s g e))))

-- "Guessing past the leaves was never wanted, so the value is that of the tree handed over": `tree t` is the tree that
-- the frames of the table describe (table/proofs/TreeOfTable.antt), and a leaf counts with the worth, at its depth, of
-- the number that its bytes 4 and 5 hold in two's complement
pub leaf-worth : Runs table_check'.check.ended (function table_check.check.Symbol.name table_check.check.Symbol.code)
    (λ κs (t, _) r e. (n : ℕ) → r ≡ Ok n → (i : ℕ) → i < frames t.now → child_count t.now i ≡ 0
    → value_of (valuation t.now i)
    ≡ worth (depth_of t.now i) (signed (byte_of t.now i 4) (byte_of t.now i 5)))
leaf-worth =
    first-bytes (follows contracts.tables-check (λ κs (t, _) r e s bytes n given i h leaf.
    let a = (nodes-accepted t.now n (sym given ∙ s)).0 in
    score-worth t.now a i h ∙ ap (worth (depth_of t.now i))
    (value-stored t.now i (bytes (frame_size * i + 4) (omega arith)) (bytes (frame_size * i + 5) (omega arith))
    ((accepted-formed t.now a).scored i h leaf))))
