-- The writer, question by question: what it answers and what it leaves in the lent buffer at each way out.
use Rattle.prelude.proofs.{ℕ, ◌*◌, ◌≤◌, ◌<◌, ◌≡◌, none, List, ◌++◌, length, drop, arith, le-leb, lt-leb, leb-true, Ok}
use Rattle.prelude.proofs.{Err}
use Rattle.table.specs.declared.Rejection.{Rejection}
use Rattle.table.specs.{frames, rejection, Accepted, checked}
use Rattle.table.proofs.Stated.{ask-yes, both-passed}
use Rattle.table.proofs.Asked.{answer-rejected}
use Rattle.table.proofs.Acceptance.{accepted-stated}
use Rattle.file_line.specs.{line_size}
use Rattle.file_write.specs.{encode, file_of, write_check10, write_rejection, write_outcome}
use Rattle.file_write.proofs.Writing.{encode-length}

module _ (t : List ℕ) where
  -- the file of an accepted table has 13 bytes for each node
  pub file-length : Accepted t → length (file_of t) ≡ line_size * frames t
  file-length e = encode-length (frames t) t (omega (arith, (accepted-stated t e).whole))

  module _ (room : ℕ) where
    -- passed questions: an accepted table, and room for its file
    pub passed-room : write_rejection t room ≡ none → Accepted t × (line_size * frames t ≤ room)
    unfolding write_rejection
    passed-room e =
        let p = both-passed (rejection t) (write_check10 t room) e in
        (p.0, leb-true (line_size * frames t) room (ask-yes _ _ _ p.1))

    -- and the other way round
    pub room-passed : Accepted t → line_size * frames t ≤ room → write_rejection t room ≡ none
    unfolding write_rejection
    room-passed e h = rw (e, le-leb (line_size * frames t) room h)

  module _ (file : List ℕ) where
    -- the table is rejected
    pub table-refused : (r : Rejection) → Err r ≡ checked t
        → record { answer = Err r; left = file } ≡ write_outcome t file
    unfolding write_rejection
    table-refused r e = rw (answer-rejected (frames t) r (rejection t) e)

    module _ (e : Accepted t) (n : ℕ) (q : n ≡ frames t) where
      -- the buffer is too short
      pub buffer-short : length file < line_size * n
          → record { answer = Err (record { number = 10; place = 0 }); left = file } ≡ write_outcome t file
      unfolding write_rejection
      buffer-short h = rw (e, ← q, lt-leb (line_size * n) (length file) h)

      -- the file is written
      pub file-written : (after : List ℕ) → line_size * n ≤ length file
          → after ≡ encode n t ++ drop (line_size * n) file
          → record { answer = Ok (line_size * n); left = after } ≡ write_outcome t file
      file-written after h g = rw (room-passed (length file) e (omega (arith, q)), g, file-length e, q)
