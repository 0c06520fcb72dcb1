-- What the converter gives decides what is printed: a file that it wrote is printed as it stands, a rejection as its
-- line.
use Rattle.prelude.proofs.{ℕ, ◌*◌, ◌≤◌, ◌<◌, arith, ◌≡◌, refl, sym, ap, ◌∙◌, Option, none, some, List, ◌++◌, leb}
use Rattle.prelude.proofs.{Result, Ok, Err}
use Rattle.prelude.proofs.{length, drop, length-append, le-leb, lt-leb}
use Rattle.lists.proofs.Choice.{clash, cond_cases}
use Rattle.table.specs.declared.Rejection.{Rejection}
use Rattle.table.specs.{unless, Outcome, ◌leaving◌, frames}
use Rattle.table.proofs.Acceptance.{accepted-formed}
use Rattle.file_line.specs.{line_size, decoded}
use Rattle.file_read.specs.{max_file}
use Rattle.file_write.specs.{file_of, at_front}
use Rattle.file.proofs.Saving.{length-written, rejection-written}
use Rattle.text.specs.{refused_line}
use Rattle.text.proofs.Sizes.{refused-few}
use Rattle.file_convert.specs.{raised, convert_rejection, convert_outcome, length_printed, laid_text, output_outcome}
use Rattle.file_convert.specs.{base_rejection}
use Rattle.file_convert.specs.declared.Printed.{Printed}
use Rattle.file_convert.specs.declared.Printed.TheVariants.{File, Line, NoRoom}
use Rattle.file_convert.proofs.Kept.{raised-rejection}
use Rattle.file_convert.proofs.Converted.{base-table, convert_gives, converted-within}

-- bytes that have room in the buffer are laid; where they have none, the buffer is as it was
module _ (named : ℕ → Printed) (x buffer : List ℕ) where
  pub text-laid : length x ≤ length buffer
      → named (length x) leaving (x ++ drop (length x) buffer) ≡ laid_text named x buffer
  unfolding laid_text
  text-laid h = rw (le-leb (length x) (length buffer) h)

  pub text-short : length buffer < length x → NoRoom leaving buffer ≡ laid_text named x buffer
  unfolding laid_text
  text-short h = rw (lt-leb (length x) (length buffer) h)

  -- the bytes that are printed are within the buffer
  laid-within : ((n : ℕ) → length_printed (named n) ≡ n)
      → length_printed (laid_text named x buffer).answer ≤ length (laid_text named x buffer).left
  unfolding laid_text
  laid-within e =
      cond_cases (λ (o : Outcome Printed (List ℕ)). length_printed o.answer ≤ length o.left)
      (leb (length x) (length buffer)) _ _
      (λ h. omega (arith, e (length x), length-append x (drop (length x) buffer))) (λ h. omega arith)

  -- where there is no room, the buffer is as it was
  laid-keeps : ((n : ℕ) → named n ≡ NoRoom → ⊥) → (laid_text named x buffer).answer ≡ NoRoom
      → (laid_text named x buffer).left ≡ buffer
  unfolding laid_text
  laid-keeps c =
      cond_cases (λ (o : Outcome Printed (List ℕ)). o.answer ≡ NoRoom → o.left ≡ buffer)
      (leb (length x) (length buffer)) _ _
      (λ h e. absurd (c (length x) e)) (λ h e. refl)

module _ (f buffer : List ℕ) where
  abbrev asked : Option Rejection
  asked = convert_rejection f (length buffer)

  abbrev table : List ℕ
  table = decoded (raised f)

  convert-is : convert_outcome f buffer ≡ at_front asked (file_of table) buffer
  unfolding convert_outcome
  convert-is = refl

  -- a file that was written is printed
  pub written-printed : (o : Outcome (Result ℕ Rejection) (List ℕ)) (n : ℕ) → o ≡ convert_outcome f buffer
      → o.answer ≡ Ok n
      → File n leaving o.left ≡ output_outcome f buffer
  written-printed o n e h =
      let given = sym (ap (λ x. x.answer) e) ∙ h in
      let w = length-written table buffer asked n (sym (ap (λ x. x.answer) convert-is) ∙ given) in
      let left : o.left ≡ file_of table ++ drop (length (file_of table)) buffer =
      ap (λ x. x.left) (e ∙ convert-is) ∙ rw w.passed in
      rw (w.passed, left, w.size)
      (text-laid File (file_of table) buffer (omega (arith, w.size, converted-within f buffer n given)))

  -- a rejection leaves the buffer as it was, and its line is printed
  pub rejection-printed : (o : Outcome (Result ℕ Rejection) (List ℕ)) (r : Rejection) → o ≡ convert_outcome f buffer
      → o.answer ≡ Err r
      → (o.left ≡ buffer) × (output_outcome f buffer ≡ laid_text (Line r) (refused_line r) buffer)
  rejection-printed o r e h =
      let w = rejection-written table buffer asked r (sym (ap (λ x. x.answer) (e ∙ convert-is)) ∙ h) in
      (ap (λ x. x.left) (e ∙ convert-is) ∙ w.1, rw w.0)

  -- the bytes that are printed are within the buffer
  within_by : (q : Option Rejection) →
      let o = unless q (λ r. laid_text (Line r) (refused_line r) buffer) (laid_text File (file_of table) buffer) in
      length_printed o.answer ≤ length o.left
  within_by none = laid-within File (file_of table) buffer (λ n. refl)
  within_by (some r) = laid-within (Line r) (refused_line r) buffer (λ n. refl)

  pub printed-within : (o : Outcome Printed (List ℕ)) → o ≡ output_outcome f buffer
      → length_printed o.answer ≤ length o.left
  printed-within o e = rw e (within_by asked)

  -- where there is no room, the buffer is as it was
  keeps-by : (q : Option Rejection) →
      let o = unless q (λ r. laid_text (Line r) (refused_line r) buffer) (laid_text File (file_of table) buffer) in
      o.answer ≡ NoRoom → o.left ≡ buffer
  keeps-by none = laid-keeps File (file_of table) buffer (λ n e. clash (cc))
  keeps-by (some r) = laid-keeps (Line r) (refused_line r) buffer (λ n e. clash (cc))

  pub no-room-keeps : (output_outcome f buffer).answer ≡ NoRoom → (output_outcome f buffer).left ≡ buffer
  no-room-keeps = keeps-by asked

  -- in a buffer with room for every file, what the base accepted is printed as its table's file
  pub file-printed : max_file ≤ length buffer → base_rejection f ≡ none
      → output_outcome f buffer
      ≡ File (line_size * frames (decoded f)) leaving
      (file_of (decoded f) ++ drop (line_size * frames (decoded f)) buffer)
  file-printed room e =
      let at_most = (accepted-formed (decoded f) (base-table f e)).at_most in
      let g = convert_gives f buffer e (omega arith) in
      sym (written-printed _ _ (sym g) refl)

  -- and what it refused as the line of that refusal
  pub line-printed : max_file ≤ length buffer → (r : Rejection) → base_rejection f ≡ some r →
      let line = refused_line r in
      output_outcome f buffer ≡ Line r (length line) leaving (line ++ drop (length line) buffer)
  unfolding convert_rejection
  line-printed room r e =
      rw (raised-rejection f, e)
      (sym (text-laid (Line r) (refused_line r) buffer (omega (arith, refused-few r))))
