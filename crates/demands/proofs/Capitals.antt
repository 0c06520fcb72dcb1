-- Capitals only (02: N7), sentence by sentence, over the definitions that the contracts of the reader and of the
-- converter cite. "lifts the letters a to f to capitals and then reads and writes as in N3": `convert_outcome` in
-- file_convert/specs/Convert.antt. "The reader takes capital hexadecimal letters and no others" and "their trees do not
-- change": `capitals-taken` and `converted-same` in Sentences.antt; "For a file still refused" nothing is written:
-- `convert-keeps` in TheSentence.antt. "a small letter a to f in a line, 16, place the first such line":
-- `lowest-small` in Demand1.antt.
use Rattle.prelude.proofs.{ℕ, ◌*◌, ◌≤◌, ◌<◌, arith, ◌≡◌, refl, sym, ap, ◌∙◌, ◌↔◌, true, not, Option, none, some, List}
use Rattle.prelude.proofs.{Ok, Err}
use Rattle.prelude.proofs.{[], ◌++◌, length, get_or, take, drop}
use Rattle.table.specs.declared.Rejection.{Rejection}
use Rattle.table.specs.{frames, ◌and_then◌, unless, ◌leaving◌, check1}
use Rattle.table.proofs.Stated.{both-passed, passed_then}
use Rattle.table.proofs.Acceptance.{accepted-stated}
use Rattle.file_line.specs.{line_size, has_lowercase, line_at, lines_of, decoded}
use Rattle.file_read.specs.{max_file, file_check2, file_check3, file_check16, file_rejection, read_rejection}
use Rattle.file_read.specs.{read_outcome}
use Rattle.file_read.proofs.FirstLine.{line-asked}
use Rattle.file_write.specs.{file_of}
use Rattle.file.proofs.RoundTrip.{written-length}
use Rattle.file_convert.specs.declared.Printed.TheVariants.{File, Line}
use Rattle.file_convert.specs.{raised, convert_outcome, output_outcome, base_rejection, Converted}
use Rattle.text.specs.{refused_line}
use Rattle.file_convert.proofs.Kept.{raised-table, raised-check3, raised-rejection, raised-line}
use Rattle.file_convert.proofs.Converted.{base-table, convert_gives, convert-leaves, converted-again, converted-once}
use Rattle.file_convert.proofs.Printing.{line-printed, file-printed}

module _ (f : List ℕ) where
  -- "asked after question 3 .. has passed for all lines and before 4": a file that passes 1 to 3 and has a line with a
  -- small letter gets it, whatever its frames and the lent table are
  pub small-refused : (check1 f and_then file_check2 f and_then file_check3 f) ≡ none → (i : ℕ)
      → i < length (lines_of f)
      → has_lowercase (get_or (lines_of f) i []) ≡ true
      → (r : Rejection) × (file_check16 f ≡ some r) × ((table : List ℕ)
      → (read_outcome f table).answer ≡ Err r)
  unfolding read_rejection file_rejection
  small-refused e i h s =
      let a = both-passed (check1 f) _ e in
      let b = both-passed (file_check2 f) _ a.1 in
      let p = line-asked 16 (λ l. not (has_lowercase l)) f i h (ap not s) in
      let q : file_rejection f ≡ some p.0 =
      passed_then (check1 f) _ a.0 ∙ passed_then (file_check2 f) _ b.0 ∙ passed_then (file_check3 f) _ b.1
      ∙ rw p.1 in
      (p.0, p.1, λ _. rw q)

  -- "(which still passes small letters)"
  pub three-either-case : file_check3 (raised f) ≡ file_check3 f
  three-either-case = raised-check3 f

  -- "Reading one line by itself takes what it took": its contract is as it was, and takes either letter case
  pub line-either-case : (at : ℕ) → line_at (raised f) at ≡ line_at f at
  line-either-case = raised-line f

  -- "their trees do not change": a lifted file gets the answers that the base gave to the file, and has its table
  pub same-questions : file_rejection (raised f) ≡ base_rejection f
  same-questions = raised-rejection f

  pub same-table : decoded (raised f) ≡ decoded f
  same-table = raised-table f

  module _ (buffer : List ℕ) where
    -- a file that the base accepted is converted, into any buffer that has room for a longest file
    pub length-converted : base_rejection f ≡ none → max_file ≤ length buffer
        → (convert_outcome f buffer).answer ≡ Ok (line_size * frames (decoded f))
    length-converted e room =
        let at_most = (accepted-stated (decoded f) (base-table f e)).most in
        ap (λ o. o.answer) (convert_gives f buffer e (omega arith))

    -- only such a file is; its own table's file stands then at the buffer's front
    pub file-converted : (n : ℕ) → (convert_outcome f buffer).answer ≡ Ok n → Converted f buffer n
    file-converted = convert-leaves f buffer

    -- "it prints 01's `refused` line only": in a buffer with room for every file, what is printed for a file that the
    -- base refused is the line of that refusal and nothing else, and for any other the file of its table
    pub printed-only : max_file ≤ length buffer →
        let x = unless (base_rejection f) refused_line (file_of (decoded f)) in
        output_outcome f buffer
        ≡ unless (base_rejection f) (λ r. Line r (length x)) (File (length x)) leaving (x ++ drop (length x) buffer)
    printed-only room = by (base_rejection f) refl
      where
        by : (q : Option Rejection) → base_rejection f ≡ q →
            let x = unless q refused_line (file_of (decoded f)) in
            output_outcome f buffer
            ≡ unless q (λ r. Line r (length x)) (File (length x)) leaving (x ++ drop (length x) buffer)
        by none e =
            file-printed f buffer room e
            ∙ ap (λ n. File n leaving (file_of (decoded f) ++ drop n buffer))
            (sym (written-length (decoded f) (base-table f e)))
        by (some r) e = line-printed f buffer room r e

    module _ (n : ℕ) (e : (convert_outcome f buffer).answer ≡ Ok n) where
      -- converting it once more changes nothing
      pub converted-twice : (other : List ℕ) → n ≤ length other →
          let new = take n (convert_outcome f buffer).left in
          convert_outcome new other ≡ Ok n leaving (new ++ drop n other)
      converted-twice = converted-again f buffer n e

-- "the same tree .. is filed twice": no more; two files are converted to one file, byte for byte, exactly if they have
-- one table
pub one-file-each : (f g buffer other : List ℕ) (n m : ℕ) → (convert_outcome f buffer).answer ≡ Ok n
    → (convert_outcome g other).answer ≡ Ok m
    → (decoded f ≡ decoded g) ↔ (take n (convert_outcome f buffer).left ≡ take m (convert_outcome g other).left)
one-file-each = converted-once
