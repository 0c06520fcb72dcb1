-- What a call of the converter gives and leaves, over the outcome that its contract cites: the file's own table,
-- written.
use Rattle.prelude.proofs.{ℕ, ◌*◌, ◌≤◌, ◌≡◌, sym, ap, ap₂, ◌∙◌, ◌↔◌, true, Option, none, some, List, ◌++◌, leb}
use Rattle.prelude.proofs.{length, Ok, Err}
use Rattle.prelude.proofs.{take, drop, arith, le-leb, leb-true}
use Rattle.table.specs.declared.Rejection.{Rejection}
use Rattle.table.specs.{frames, ◌and_then◌, frames_rejection, Accepted}
use Rattle.table.proofs.Stated.{ask-yes, both-passed}
use Rattle.file_line.specs.{line_size, decoded}
use Rattle.file_read.specs.{max_file, file_check3, file_rejection, AcceptedFile, lines_rejection}
use Rattle.file_read.proofs.Reading.{lines-parts, lines_then}
use Rattle.file_read.proofs.Acceptance.{accepted-table, accepted-letters}
use Rattle.file_write.specs.{file_of, write_check10, at_front}
use Rattle.file.specs.{Bytes}
use Rattle.file.proofs.DecodedBytes.{decoded-bytes}
use Rattle.file.proofs.RoundTrip.{written-length, written-decoded, written-accepted}
use Rattle.file.proofs.Saving.{length-written, rejection-written}
use Rattle.file_convert.specs.{convert_rejection, convert_outcome, base_rejection, Converted}
use Rattle.file_convert.proofs.Kept.{raised-table, raised-rejection}

module _ (f : List ℕ) where
  -- a file that the base accepted is not too long, and has right lines and an accepted table
  pub base-sized : base_rejection f ≡ none → (length f ≤ max_file) × (file_check3 f ≡ none)
  base-sized e =
      let p = lines-parts f
      (both-passed (lines_rejection f) _ (sym (lines_then f (frames_rejection (decoded f))) ∙ e)).0 in
      (p.1, p.2)

  base-lines : base_rejection f ≡ none → file_check3 f ≡ none
  base-lines e = (base-sized e).1

  pub base-table : base_rejection f ≡ none → Accepted (decoded f)
  base-table e = rw (raised-table f) at (accepted-table _ (raised-rejection f ∙ e)).1

  base-bytes : base_rejection f ≡ none → Bytes (decoded f)
  base-bytes e = decoded-bytes f (base-lines e)

  -- and so has a file that is accepted now
  pub accepted-base : AcceptedFile f → base_rejection f ≡ none
  unfolding file_rejection
  accepted-base e = rw (accepted-letters f e) at e

  module _ (buffer : List ℕ) where
    -- the questions of a call, put to the file itself
    abbrev pub asked : Option Rejection
    asked = base_rejection f and_then write_check10 (decoded f) (length buffer)

    -- its outcome is that of writing the file's own table
    pub convert-own : convert_outcome f buffer ≡ at_front asked (file_of (decoded f)) buffer
    unfolding convert_rejection convert_outcome
    convert-own = rw (raised-rejection f, raised-table f)

    -- a file that the base accepted, and room, give a length
    pub convert_gives : base_rejection f ≡ none → line_size * frames (decoded f) ≤ length buffer
        → convert_outcome f buffer
        ≡ record {
          answer = Ok (line_size * frames (decoded f));
          left = file_of (decoded f) ++ drop (line_size * frames (decoded f)) buffer;
        }
    convert_gives e room =
        convert-own
        ∙ rw (
          e,
          le-leb (line_size * frames (decoded f)) (length buffer) room,
          written-length (decoded f) (base-table e),
        )

    -- a rejection is the first "no", and the buffer is as it was
    pub convert-keeps : (r : Rejection) → (convert_outcome f buffer).answer ≡ Err r
        → (asked ≡ some r) × ((convert_outcome f buffer).left ≡ buffer)
    convert-keeps r e =
        let w = rejection-written (decoded f) buffer asked r (sym (ap (λ o. o.answer) convert-own) ∙ e) in
        (w.0, ap (λ o. o.left) convert-own ∙ w.1)

    module _ (n : ℕ) (e : (convert_outcome f buffer).answer ≡ Ok n) where
      -- where there is a length, the base accepted the file
      pub convert-base : base_rejection f ≡ none
      convert-base =
          let w = length-written (decoded f) buffer asked n (sym (ap (λ o. o.answer) convert-own) ∙ e) in
          (both-passed (base_rejection f) _ w.passed).0

      -- and its table's file stands at the buffer's front
      pub convert-leaves : Converted f buffer n
      convert-leaves =
          let w = length-written (decoded f) buffer asked n (sym (ap (λ o. o.answer) convert-own) ∙ e) in
          record {
            accepted = base-table convert-base;
            size = w.size ∙ written-length (decoded f) (base-table convert-base);
            front = ap (λ o. take n o.left) convert-own ∙ w.front;
            past = ap (λ o. drop n o.left) convert-own ∙ w.past;
          }

      -- within the buffer
      pub converted-within : n ≤ length buffer
      converted-within =
          let w = length-written (decoded f) buffer asked n (sym (ap (λ o. o.answer) convert-own) ∙ e) in
          let room : leb (line_size * frames (decoded f)) (length buffer) ≡ true =
          ask-yes _ _ _ (both-passed (base_rejection f) _ w.passed).1 in
          omega (arith, convert-leaves.size, leb-true (line_size * frames (decoded f)) (length buffer) room)

      -- what was written is accepted by the reader, and holds the file's table
      abbrev pub new : List ℕ
      new = take n (convert_outcome f buffer).left

      pub converted-accepted : AcceptedFile new
      converted-accepted =
          rw convert-leaves.front (written-accepted (decoded f) (base-table convert-base) (base-bytes convert-base))

      pub converted-table : decoded new ≡ decoded f
      converted-table =
          rw convert-leaves.front (written-decoded (decoded f) (base-table convert-base) (base-bytes convert-base))

-- converting it again changes nothing
pub converted-again : (f buffer : List ℕ) (n : ℕ) → (convert_outcome f buffer).answer ≡ Ok n → (other : List ℕ)
    → n ≤ length other →
    let new = take n (convert_outcome f buffer).left in
    convert_outcome new other ≡ record { answer = Ok n; left = new ++ drop n other }
converted-again f buffer n e other room =
    let new = take n (convert_outcome f buffer).left in
    let l = convert-leaves f buffer n e in
    let table = converted-table f buffer n e in
    let size : line_size * frames (decoded new) ≡ n = ap (λ t. line_size * frames t) table ∙ sym l.size in
    let file : file_of (decoded new) ≡ new = ap file_of table ∙ sym l.front in
    let gives = convert_gives new other (accepted-base new (converted-accepted f buffer n e)) (omega arith) in
    gives ∙ ap₂ (λ k g. record { answer = Ok k; left = g ++ drop k other }) size file

-- two files give one file exactly if they have one table
pub converted-once : (f g buffer other : List ℕ) (n m : ℕ) → (convert_outcome f buffer).answer ≡ Ok n
    → (convert_outcome g other).answer ≡ Ok m
    → (decoded f ≡ decoded g) ↔ (take n (convert_outcome f buffer).left ≡ take m (convert_outcome g other).left)
converted-once f g buffer other n m e h = (
  λ same. (convert-leaves f buffer n e).front ∙ ap file_of same ∙ sym (convert-leaves g other m h).front,
  λ same. sym (converted-table f buffer n e) ∙ ap decoded same ∙ converted-table g other m h,
)
