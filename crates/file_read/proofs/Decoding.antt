-- The loop that decodes a file: what holds after n lines, and that each line, stored behind the ones before, keeps it.
use Rattle.prelude.proofs.{ℕ, ◌+◌, ◌*◌, ◌≤◌, ◌<◌, ◌≡◌, refl, sym, ap, ◌∙◌, true, false, Option, none, some, List}
use Rattle.prelude.proofs.{◌++◌, Ok, Err}
use Rattle.prelude.proofs.{append-nil, append_assoc, length, take, drop, length-append, drop_of_length-le, sets}
use Rattle.prelude.proofs.{sets-eq, take_at, length-take-le, arith}
use Rattle.lists.proofs.Choice.{clash}
use Rattle.table.specs.declared.Rejection.{Rejection}
use Rattle.table.specs.{frame_size, frames}
use Rattle.file_line.specs.{line_digits, bytes_of, bytes_at, is_line_at, lines_of, decode, decoded}
use Rattle.file_line.proofs.Lines.{line-bytes}
use Rattle.file_line.proofs.Positions.{line_bytes, line-is, line-fits}
use Rattle.file_read.specs.{each_line, file_check3, line_check3, Decoded, LongEnough}
use Rattle.file_read.proofs.Left.{lines_next, lines-stop}

-- six bytes stored behind n frames
stored : (table bs : List ℕ) (n : ℕ) → frame_size * (n + 1) ≤ length table → length bs ≡ frame_size
    → take (frame_size * (n + 1)) (sets table (frame_size * n) bs) ≡ take (frame_size * n) table ++ bs
stored table bs n h six =
    rw (sets-eq bs table (frame_size * n) (omega arith))
    (take_at (take (frame_size * n) table ++ bs) _ (frame_size * (n + 1))
    (length-append (take (frame_size * n) table) bs
    ∙ omega (arith, length-take-le (frame_size * n) table (omega arith))))

-- a rejection says nothing of the table
pub decoded-refused : (f : List ℕ) (x : Option Rejection) (table : List ℕ) (r : Rejection) → x ≡ some r
    → Decoded f x table (Err r)
decoded-refused f x table r e =
    record {
      answered = rw e;
      filled = λ p. clash (cc);
    }

-- after n lines the position is past them, question 3 is left for the lines from there on, and the table's front holds
-- their frames
pub record Decoding (f table : List ℕ) (at n : ℕ) : Type 0 where
  pub position : at ≡ (line_digits + 1) * n
  pub at_most : (line_digits + 1) * n ≤ length f + 1
  pub passed : file_check3 f ≡ each_line line_check3 n (lines_of (drop at f))
  pub filled : decoded f ≡ take (frame_size * n) table ++ decode (lines_of (drop at f))

-- before the first line
pub decoding-none : (f table : List ℕ) → Decoding f table 0 0
decoding-none f table =
    record {
      position = omega arith;
      at_most = omega arith;
      passed = refl;
      filled = refl;
    }

module _ (f table : List ℕ) (at n : ℕ) (room : LongEnough f table) (d : Decoding f table at n) where
  -- at the end of the file
  pub decoding-all : length f ≤ at → Decoded f (file_check3 f) table (Ok n)
  unfolding lines_of each_line decode
  decoding-all h =
      let passed : file_check3 f ≡ none = d.passed ∙ rw (drop_of_length-le f h) in
      let filled : decoded f ≡ take (frame_size * n) table =
      d.filled ∙ rw (drop_of_length-le f h) (append-nil (take (frame_size * n) table)) in
      let many : length (decoded f) ≡ frame_size * n =
      ap length filled ∙ length-take-le (frame_size * n) table (omega (arith, d.at_most)) in
      let whole : frames (decoded f) ≡ n = omega arith in
      record {
        answered = rw (passed, whole);
        filled = λ e. rw many (sym filled);
      }

  module _ (inside : at < length f) where
    -- a line that is not as it must be
    pub decoding-stop : (after : List ℕ) → is_line_at f at ≡ false
        → Decoded f (file_check3 f) after (Err (record { number = 3; place = n }))
    decoding-stop after e = decoded-refused f (file_check3 f) after _ (d.passed ∙ lines-stop f at n inside e)

    -- a line stored behind the ones before
    pub decoding-next : is_line_at f at ≡ true
        → Decoding f (sets table (frame_size * n) (bytes_at f at)) (at + (line_digits + 1)) (n + 1)
    unfolding each_line decode
    decoding-next is =
        let fits : at + line_digits ≤ length f = line-fits f at is in
        let line = line_bytes f at in
        let six : length (bytes_of line) ≡ frame_size = line-bytes line (line-is f at is) in
        let left = lines_next f at is in
        let rest = decode (lines_of (drop (at + (line_digits + 1)) f)) in
        let front = stored table (bytes_of line) n (omega (arith, d.position)) six in
        record {
          position = omega (arith, d.position);
          at_most = omega (arith, d.position);
          passed = d.passed ∙ rw (left, line-is f at is);
          filled =
              d.filled ∙ rw left (sym (append_assoc (take (frame_size * n) table) (bytes_of line) rest))
              ∙ ap (λ (l : List ℕ). l ++ rest) (sym front);
        }
