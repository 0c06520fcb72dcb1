-- What is proved of the calls of the plain engine, for Plain.antt.
use Rattle.prelude.proofs.{ℕ, ◌<◌, ◌≡◌, ap, ◌∙◌, cond, none, some, List, [], ◌∷◌, eqb, length, get_or}
use Rattle.std.specs.Prelude.{Result, Ok, Err}
use Rattle.lists.proofs.Choice.{clash}
use Rattle.gametree.specs.{minimax, root_move_of}
use Rattle.gametree_theory.proofs.Theorems.{all-deciding}
use Rattle.table.specs.declared.Rejection.{Rejection}
use Rattle.table.specs.{frames, child_count, tree, valuation, value_of, Outcome, ◌leaving◌, Accepted}
use Rattle.table.proofs.Acceptance.{accepted-formed}
use Rattle.table.proofs.Proper.{tree-proper}
use Rattle.certificate_bounds.specs.{ones}
use Rattle.certificate_write.specs.{search_rejection, marks_of, flags_of}
use Rattle.certificate_write.proofs.Questions.{passed-room}
use Rattle.certificate_write.proofs.Marks.{evaluated-within, ones-evaluated}
use Rattle.methods.specs.{Lent, lent}
use Rattle.plain.specs.declared.PlainResult.{PlainResult}
use Rattle.plain.specs.{all_leaves, plain_found, plain_outcome}
use Rattle.plain.proofs.Leaves.{leaves-are}
use Rattle.demands.proofs.Parts.{by-given, by-refusal}
use Rattle.demands.proofs.Running.{PlainSays}
use Rattle.demands.proofs.Handed.{HandedBack, marks-at}

-- the lengths of which question 10 asks
abbrev lengths : Lent → List ℕ
lengths l = length l.marks ∷ length l.flags ∷ []

-- a refusal is the first "no" to questions 1 to 10, and leaves the buffers as they were
pub plain-refused : (t : List ℕ) (l l' : Lent) (q : Rejection) → Err q leaving l' ≡ plain_outcome t l
    → (search_rejection t (lengths l) ≡ some q) × (l' ≡ l)
plain-refused t l l' q s =
    by-refusal Err _ l (λ r e. clash (cc)) (λ x y e. cc) (search_rejection t (lengths l)) q l' s

-- a call with a result
module _ (t : List ℕ) (f : PlainResult) (l l' : Lent) (s : PlainSays t l f l') where
  passed : (search_rejection t (lengths l) ≡ none)
      × ◌≡◌ {A = Outcome (Result PlainResult Rejection) Lent} (Ok f leaving l')
      (Ok (plain_found t) leaving lent (marks_of (all_leaves t) t l.marks) (flags_of (all_leaves t) t l.flags) l.order)
  passed =
      by-given Err _ l (search_rejection t (lengths l)) (Ok f) l'
      (λ r e. clash (cc)) s

  found : f ≡ plain_found t
  found = cc (ap (λ x. x.answer) passed.1)

  pub plain-accepted : Accepted t
  plain-accepted = (passed-room t (lengths l) passed.0).0

  -- what it hands back is read off all leaves
  pub plain-handed : HandedBack t (all_leaves t) l l'
  plain-handed =
      let wf = accepted-formed t plain-accepted in
      let d = all-deciding (valuation t) (tree t) (tree-proper t wf) in
      record {
        accepted = plain-accepted;
        room = (passed-room t (lengths l) passed.0).1.1.0;
        deciding = d;
        marked = record { within = evaluated-within t wf d; marks = ap (λ x. x.left.marks) passed.1 };
        flags = ap (λ x. x.left.flags) passed.1;
      }

  pub plain_value : f.value ≡ value_of (minimax (valuation t) (tree t))
  plain_value = ap (λ x. x.value) found

  pub plain-move : f.root_move ≡ root_move_of (valuation t) (tree t)
  plain-move = ap (λ x. x.root_move) found

  -- a node's mark is 1 if it has no children, and else 0
  pub every-leaf : (k : ℕ) → k < frames t → get_or l'.marks k 0 ≡ cond (eqb (child_count t k) 0) 1 0
  every-leaf k h =
      marks-at plain-handed.marked k h
      ∙ ap (λ b. cond b 1 0) (leaves-are t (accepted-formed t plain-accepted) k h)

  -- so there are as many marks at 1 as leaves
  pub leaves-marked : ones l'.marks (frames t) ≡ length (all_leaves t)
  leaves-marked =
      ap (λ x. ones x (frames t)) plain-handed.marked.marks
      ∙ ones-evaluated t (accepted-formed t plain-accepted) plain-handed.deciding l.marks
