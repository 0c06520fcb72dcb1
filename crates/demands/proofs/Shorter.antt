-- The shorter of two certificates (02: N13, of two proofs), sentence by sentence, over the definitions that the
-- contract of `certificate_choice::select` cites: `choice`, `flags_by` (of the choice it is `chosen_flags`) and
-- `pointer_by`. The table is t, the lent certificates are f and s. Both are lent to be read only, and so keep their
-- bytes. "the one with fewer flagged leaves, the first on a tie": `fewer-leaves` in Sentences.antt.
use Rattle.prelude.proofs.{ℕ, ◌≡◌, ◌⊎◌, ◌↔◌, some, List, [], length, take, Ok, Err}
use Rattle.gametree.specs.declared.Side.TheVariants.{Max, Min}
use Rattle.gametree.specs.{minimax, pair_leaves}
use Rattle.table.specs.declared.Rejection.{Rejection}
use Rattle.table.specs.{frames, tree, valuation, value_of, rejection}
use Rattle.certificate_check.specs.{member, verdict}
use Rattle.certificate_check.specs.Certificate.{Certificate}
use Rattle.certificate_choice.specs.declared.Chosen.TheVariants.{First, Second}
use Rattle.certificate_choice.specs.{flagged_leaves, choice, chosen_flags, pointer_by}
use Rattle.certificate_choice.proofs.Leaves.{flagged-pair}
use Rattle.certificate_choice.proofs.Theorems.{table-rejected, only-first, only-second, neither, handed-first}
use Rattle.certificate_choice.proofs.Theorems.{handed-second}
use Rattle.certificate_choice.proofs.Theorems.{handed-none, handed-size, handed-value, empty-refused, refused-first}

-- a flagged leaf is a leaf of the max or the min solution tree, a shared one counted once
pub flagged-leaves : (t flags : List ℕ) (v : ℕ) → Certificate t flags v
    → flagged_leaves t flags ≡ pair_leaves (member Max flags) (member Min flags) (tree t)
flagged-leaves t flags v c = flagged-pair t flags c

module _ (t f s : List ℕ) where
  -- "Questions 1 to 9 are put to the tree"
  pub table-asked : (r : Rejection) → rejection t ≡ some r → choice t f s ≡ Err r
  table-asked r e = table-rejected t f s e

  -- "If only one is accepted, that one is handed back"
  pub first_alone : (v : ℕ) (q : Rejection) → Certificate t f v → verdict t s ≡ Err q
      → (choice t f s ≡ Ok First) × (chosen_flags t f s ≡ take (frames t) f)
  first_alone v q c e = let d = only-first t f s c e in (d, handed-first t f s d)

  pub second-alone : (w : ℕ) (r : Rejection) → verdict t f ≡ Err r → Certificate t s w
      → (choice t f s ≡ Ok Second) × (chosen_flags t f s ≡ take (frames t) s)
  second-alone w r e d = let c = only-second t f s e d in (c, handed-second t f s c)

  -- "If neither is, the first proof's refusal stands", and nothing is handed back
  pub first-refusal : (r q : Rejection) → verdict t f ≡ Err r → verdict t s ≡ Err q
      → (choice t f s ≡ Err r) × (chosen_flags t f s ≡ [])
  first-refusal r q e d = let c = neither t f s e d in (c, handed-none t f s c)

  -- demand 1: a refusal is the first "no" to the questions of the first certificate, the table's among them
  pub first-choice : (r : Rejection) → choice t f s ≡ Err r → verdict t f ≡ Err r
  first-choice r e = refused-first t f s e

  -- nothing is handed back on a rejection, and on nothing else
  pub empty-rejected : (chosen_flags t f s ≡ []) ↔ ((r : Rejection) × (choice t f s ≡ Err r))
  empty-rejected = (empty-refused t f s, λ p. handed-none t f s p.1)

  -- "The part handed back has one flag a node"
  pub one-flag-a-node : (choice t f s ≡ Ok First) ⊎ (choice t f s ≡ Ok Second) → length (chosen_flags t f s) ≡ frames t
  one-flag-a-node = handed-size t f s

  -- and is itself accepted, with the minimax value
  pub handed-accepted : (choice t f s ≡ Ok First) ⊎ (choice t f s ≡ Ok Second)
      → verdict t (chosen_flags t f s) ≡ Ok (value_of (minimax (valuation t) (tree t)))
  handed-accepted = handed-value t f s

  -- and begins where the chosen certificate does, in its own memory
  pub own-memory : (p q : ℕ × ℕ) → (choice t f s ≡ Ok First → pointer_by p q (choice t f s) ≡ p)
      × (choice t f s ≡ Ok Second → pointer_by p q (choice t f s) ≡ q)
  own-memory p q = (λ e. rw e, λ e. rw e)
