-- What a call of the writer leaves, and that the reader takes it back: N3's sentences, over the outcome that the
-- writer's contract cites.
use Rattle.prelude.proofs.{ℕ, ◌*◌, ◌≤◌, ◌<◌, ◌≡◌, refl, sym, ap, ◌∙◌, Option, none, some, List, ◌++◌, length, take}
use Rattle.prelude.proofs.{Ok, Err}
use Rattle.prelude.proofs.{drop, take_at, drop_at, lt-leb}
use Rattle.lists.proofs.Choice.{clash}
use Rattle.table.specs.declared.Rejection.{Rejection}
use Rattle.table.specs.{frames, ◌leaving◌, Accepted}
use Rattle.file_line.specs.{line_size}
use Rattle.file_read.specs.{read_outcome}
use Rattle.file_write.specs.{file_of, write_rejection, at_front, write_outcome}
use Rattle.file_write.proofs.Questions.{passed-room, room-passed}
use Rattle.file.specs.{Bytes, Saved}
use Rattle.file.proofs.RoundTrip.{written-length, written_read, written_once}

-- what the outcome of writing a table holds, by the first "no" x to the questions before it, where it gives a length
pub record LengthWritten (t file : List ℕ) (x : Option Rejection) (n : ℕ) : Type 0 where
  pub passed : x ≡ none
  pub size : n ≡ length (file_of t)
  pub front : take n (at_front x (file_of t) file).left ≡ file_of t
  pub past : drop n (at_front x (file_of t) file).left ≡ drop n file

module _ (t file : List ℕ) where
  pub length-written : (x : Option Rejection) (n : ℕ) → (at_front x (file_of t) file).answer ≡ Ok n
      → LengthWritten t file x n
  length-written none n e =
      let same : length (file_of t) ≡ n = cc in
      record {
        passed = refl;
        size = sym same;
        front = take_at (file_of t) _ n same;
        past = rw (drop_at (file_of t) _ n same, same);
      }
  length-written (some r) n e = clash (cc)

  -- and where it gives a rejection
  pub rejection-written : (x : Option Rejection) (r : Rejection) → (at_front x (file_of t) file).answer ≡ Err r
      → (x ≡ some r) × ((at_front x (file_of t) file).left ≡ file)
  rejection-written none r e = clash (cc)
  rejection-written (some x) r e = (cc, refl)

  -- an accepted table and room for its file give a length
  pub write-gives : Accepted t → line_size * frames t ≤ length file
      → (write_outcome t file).answer ≡ Ok (line_size * frames t)
  write-gives a room = rw (room-passed t (length file) a room) (ap Ok (written-length t a))

  -- an accepted table and no room for its file give 10
  pub write-short : Accepted t → length file < line_size * frames t
      → (write_outcome t file).answer ≡ Err (record { number = 10; place = 0 })
  unfolding write_rejection
  write-short a short = rw (a, lt-leb (line_size * frames t) (length file) short)

  -- where there is a length, the buffer begins with the file of an accepted table, and keeps what lies past it
  pub write-saves : (n : ℕ) → (write_outcome t file).answer ≡ Ok n → Saved t file n
  write-saves n e =
      let w = length-written (write_rejection t (length file)) n e in
      let a = (passed-room t (length file) w.passed).0 in
      record { accepted = a; size = w.size ∙ written-length t a; front = w.front; past = w.past }

  -- where there is a rejection, it is the first "no", and the buffer is as it was
  pub write_keeps : (r : Rejection) → (write_outcome t file).answer ≡ Err r
      → (write_rejection t (length file) ≡ some r) × ((write_outcome t file).left ≡ file)
  write_keeps = rejection-written (write_rejection t (length file))

  -- reading the bytes that were written into any table with room restores the table exactly
  pub saved_read : (n : ℕ) → (write_outcome t file).answer ≡ Ok n → Bytes t → (table : List ℕ)
      → length t ≤ length table →
      let f = take n (write_outcome t file).left in
      read_outcome f table ≡ Ok (frames t) leaving (t ++ drop (length t) table)
  saved_read n e h table room =
      let s = write-saves n e in rw s.front (written_read t s.accepted h table room)

-- two calls leave the same file only for the same table
pub saved-once : (t u file other : List ℕ) (n m : ℕ) → (write_outcome t file).answer ≡ Ok n
    → (write_outcome u other).answer ≡ Ok m → Bytes t → Bytes u
    → take n (write_outcome t file).left ≡ take m (write_outcome u other).left → t ≡ u
saved-once t u file other n m e g h k same =
    let a = write-saves t file n e in
    let b = write-saves u other m g in
    written_once t u a.accepted h b.accepted k (sym a.front ∙ same ∙ b.front)
