-- The plain engine (02: N1), sentence by sentence, said of `plain::search` as it runs. "an engine without cuts in which
-- Max's turn asks Min's turn for each child, and Min's asks Max's": `max_turn` and `min_turn` in plain/src/lib.rt. "It
-- is proved equal to alpha-beta in both for every accepted tree": `plain-agrees` in Sentences. A refusal is the first
-- "no" to questions 1 to 10, and leaves the buffers as they were: `plain-keeps` in TheSentence.
use Rattle.prelude.proofs.{ℕ, ◌≤◌, ◌<◌, ◌≡◌, sym, ap, ◌∙◌, cond, [], ◌∷◌, eqb, length, get_or, Ok}
use Rattle.gametree.specs.{minimax, root_move_of}
use Rattle.table.specs.{frames, child_count, tree, valuation, value_of, Accepted}
use Rattle.certificate_bounds.specs.{ones}
use Rattle.certificate_write.specs.{flags_of}
use Rattle.certificate_write.proofs.Questions.{room-passed}
use Rattle.certificate_check.specs.{verdict}
use Rattle.plain.proofs as plain
use Rattle.plain.specs.contracts as plain'
use Rattle.plain.specs.{all_leaves, plain_found}
use Rattle.demands.specs.Runs.{Runs, function}
use Rattle.demands.specs.{EachPlain, CertifiedBy}
use Rattle.demands.proofs.Contracts as contracts
use Rattle.demands.proofs.Running.{follows, each-plain}
use Rattle.demands.proofs.Handed.{flags-certify, flags-verified}
use Rattle.demands.proofs.PlainCalls as calls

-- "and gives value and move": with an accepted table and room in what is lent there is a result
pub plain-gives : Runs plain'.search.ended (function plain.search.Symbol.name plain.search.Symbol.code)
    (λ κs (t, (m, (f, _))) r e. Accepted t.now → frames t.now ≤ length m.now
    → frames t.now ≤ length f.now → r ≡ Ok (plain_found t.now))
plain-gives =
    follows contracts.plain-search (λ κs (t, (m, (f, _))) r e s a h k.
    ap (λ x. x.answer) s ∙ rw (room-passed t.now (length m.now ∷ length f.now ∷ []) a (h, (k, tt))))

-- and only an accepted table gets one
pub plain-accepted : EachPlain (λ t g _ _. Accepted t)
plain-accepted = each-plain calls.plain-accepted

-- the value is the minimax value, the move the first root move that reaches it
pub plain_value : EachPlain (λ t g _ _. g.value ≡ value_of (minimax (valuation t) (tree t)))
plain_value = each-plain calls.plain_value

pub plain-move : EachPlain (λ t g _ _. g.root_move ≡ root_move_of (valuation t) (tree t))
plain-move = each-plain calls.plain-move

-- "It marks every leaf": a node's mark is 1 if it has no children, and else 0
pub every-leaf : EachPlain (λ t g _ l. (k : ℕ) → k < frames t
    → get_or l.marks k 0 ≡ cond (eqb (child_count t k) 0) 1 0)
every-leaf = each-plain calls.every-leaf

-- so there are as many marks at 1 as leaves
pub leaves-marked : EachPlain (λ t g _ l. ones l.marks (frames t) ≡ length (all_leaves t))
leaves-marked = each-plain calls.leaves-marked

-- "and it writes a proof by the same bounds": the flags are read off the bounds of the marked leaves, as those of each
-- search are; the leaves are all of them
pub same-bounds : EachPlain (λ t g l l'. l'.flags ≡ flags_of (all_leaves t) t l.flags)
same-bounds = each-plain (λ t g l l' s. (calls.plain-handed t g l l' s).flags)

pub plain-certified : EachPlain (λ t g _ l. CertifiedBy t l)
plain-certified = each-plain (λ t g l l' s. flags-certify (calls.plain-handed t g l l' s))

-- the check of certificates accepts them, and gives the value found
pub plain-verified : EachPlain (λ t g _ l. verdict t l.flags ≡ Ok g.value)
plain-verified = each-plain (λ t g l l' s.
    flags-verified (calls.plain-handed t g l l' s) ∙ ap Ok (sym (calls.plain_value t g l l' s)))
