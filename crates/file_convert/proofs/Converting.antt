-- The converter, way out by way out: the file is rejected, or its own table is written.
use Rattle.prelude.proofs.{ℕ, ◌≡◌, sym, ◌∙◌, none, some, List, Err}
use Rattle.table.specs.declared.Rejection.{Rejection}
use Rattle.file_line.specs.{decoded}
use Rattle.file_write.specs.{write_rejection, write_outcome}
use Rattle.file_convert.specs.{convert_outcome, base_rejection}
use Rattle.file_convert.proofs.Converted.{base-table, convert-own}

module _ (f buffer : List ℕ) where
  -- one of the questions got a "no"
  pub convert-refused : (r : Rejection) → base_rejection f ≡ some r
      → record { answer = Err r; left = buffer } ≡ convert_outcome f buffer
  convert-refused r e = sym (convert-own f buffer ∙ rw e)

  -- the file's table is written
  pub convert-written : (table : List ℕ) → table ≡ decoded f → base_rejection f ≡ none
      → write_outcome table buffer ≡ convert_outcome f buffer
  unfolding write_rejection
  convert-written table same e = rw (same, base-table f e) (sym (convert-own f buffer ∙ rw e))
