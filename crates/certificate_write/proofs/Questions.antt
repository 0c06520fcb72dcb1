-- Questions 1 to 10, for any number of buffers: they pass exactly if the table is accepted and each buffer has an entry
-- per node, so that the shortest decides.
use Rattle.prelude.proofs.{ℕ, ◌≤◌, ◌<◌, min, arith, dec_le, ◌≡◌, refl, ap, ◌∙◌, Bool, true, ◌&&◌, none, List, [], ◌∷◌}
use Rattle.prelude.proofs.{Result, Ok, Err}
use Rattle.prelude.proofs.{leb, le-leb, lt-leb, leb-true}
use Rattle.lists.specs.{All}
use Rattle.lists.proofs.Choice.{and_both}
use Rattle.table.specs.declared.Rejection.{Rejection}
use Rattle.table.specs.{frames, WellFormed, answer, ask, ◌and_then◌, rejection, long_enough, check10, Accepted, checked}
use Rattle.table.proofs.Stated.{ask-yes, both-passed}
use Rattle.table.proofs.Asked.{refused, answer-nodes, answer-rejected}
use Rattle.table.proofs.Acceptance.{accepted-formed, nodes-accepted}
use Rattle.certificate_write.specs.{search_rejection}

-- each of the buffers has n entries
abbrev pub Room : ℕ → List ℕ → Type 0
Room n ls = All (λ l. n ≤ l) ls

long-enough-each : (n : ℕ) (ls : List ℕ) → long_enough n ls ≡ true → Room n ls
long-enough-each n [] e = tt
long-enough-each n (l ∷ ls) e =
    let p = and_both (leb n l) (long_enough n ls) e in
    (leb-true n l p.0, long-enough-each n ls p.1)

each-long-enough : (n : ℕ) (ls : List ℕ) → Room n ls → long_enough n ls ≡ true
each-long-enough n [] r = refl
each-long-enough n (l ∷ ls) r = rw (le-leb n l r.0) (each-long-enough n ls r.1)

-- of two lengths the lesser decides
room-min : (n a b : ℕ) (c : Bool) → leb n (min a b) && c ≡ leb n a && (leb n b && c)
room-min n a b c =
    elim (dec_le n a) [
      | yes h ↦ elim (dec_le n b) [
        | yes k ↦ rw (le-leb n a h, le-leb n b k, le-leb n (min a b) (omega arith))
        | no k ↦ rw (le-leb n a h, lt-leb n b (omega arith), lt-leb n (min a b) (omega arith))
      ]
      | no h ↦ rw (lt-leb n a (omega arith), lt-leb n (min a b) (omega arith))
    ]

module _ (t ls : List ℕ) where
  -- passed questions: an accepted table, and room in each buffer
  pub passed-room : search_rejection t ls ≡ none → Accepted t × Room (frames t) ls
  passed-room e =
      let p = both-passed (rejection t) (check10 (frames t) ls) e in
      (p.0, long-enough-each (frames t) ls (ask-yes _ _ _ p.1))

  -- and the other way round
  pub room-passed : Accepted t → Room (frames t) ls → search_rejection t ls ≡ none
  room-passed e r = rw (e, each-long-enough (frames t) ls r)

  -- what the questions answer
  abbrev pub asked : Result ℕ Rejection
  asked = answer (frames t) (search_rejection t ls)

  -- with nodes for an answer the search may be run
  pub nodes-long-enough : (n : ℕ) → Ok n ≡ asked → WellFormed t × Room (frames t) ls
  nodes-long-enough n e =
      let p = passed-room (answer-nodes (frames t) n (search_rejection t ls) e).0 in
      (accepted-formed t p.0, p.1)

-- an answer for the lesser of two lengths is the answer for both
pub of-lesser : (t : List ℕ) (a b : ℕ) (ls : List ℕ) {r : Result ℕ Rejection} {k : ℕ} → r ≡ asked t (k ∷ ls)
    → k ≡ min a b
    → r ≡ asked t (a ∷ b ∷ ls)
of-lesser t a b ls e m =
    e ∙ ap (λ k. asked t (k ∷ ls)) m
    ∙ ap (λ r. answer (frames t) (rejection t and_then ask r 10 0))
    (room-min (frames t) a b (long_enough (frames t) ls))

-- and of three
pub of-least : (t : List ℕ) (a b c : ℕ) {r : Result ℕ Rejection} {k l : ℕ} → r ≡ asked t (l ∷ [])
    → l ≡ min k c → k ≡ min a b
    → r ≡ asked t (a ∷ b ∷ c ∷ [])
of-least t a b c e m n = of-lesser t a b (c ∷ []) (of-lesser t _ c [] e m) n

-- what `ask` answers for the length of the shortest buffer
module _ (t : List ℕ) (l : ℕ) where
  -- a rejection of the table is the first
  pub table-refused : (r : Rejection) → Err r ≡ checked t → Err r ≡ asked t (l ∷ [])
  table-refused r e = rw (answer-rejected (frames t) r (rejection t) e)

  -- the shortest buffer is too short, or long enough
  module _ (n : ℕ) (e : Ok n ≡ checked t) where
    pub too_short : l < n → refused 10 0 ≡ asked t (l ∷ [])
    too_short h =
        let p = nodes-accepted t n e in
        rw (p.0, ← p.1, lt-leb n l h)

    pub long-enough : n ≤ l → Ok n ≡ asked t (l ∷ [])
    long-enough h =
        let p = nodes-accepted t n e in
        rw (p.0, ← p.1, le-leb n l h)
