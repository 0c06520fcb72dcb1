-- How many lines and bytes a file has: each line takes its bytes and a line feed, and only the last line feed may be
-- missing.
use Rattle.prelude.proofs.{ℕ, suc, ◌+◌, ◌*◌, ◌/◌, ◌≤◌, ◌≡◌, refl, Bool, true, false, none, List, [], ◌∷◌, eqb, length}
use Rattle.prelude.proofs.{length-append, arith}
use Rattle.table.specs.{frame_size, max_nodes, frames}
use Rattle.table.proofs.Stated.{ask-yes, both-passed}
use Rattle.file_line.specs.{line_digits, line_feed, bytes_of, put_before, lines_of, decode, decoded}
use Rattle.file_line.proofs.Lines.{line-length, line-bytes}
use Rattle.file_read.specs.{max_file, each_line, file_check3, line_check3}

-- the bytes of lines with a line feed after each
closed_length : List (List ℕ) → ℕ
closed_length [] = 0
closed_length (l ∷ ls) = length l + 1 + closed_length ls

-- a file has as many, or one less
lines-closed : (f : List ℕ) → (length f ≤ closed_length (lines_of f)) × (closed_length (lines_of f) ≤ length f + 1)
unfolding lines_of closed_length
lines-closed [] = (omega arith, omega arith)
lines-closed (b ∷ f) = go (eqb b line_feed) (lines_of f) (lines-closed f)
  where
    go : (e : Bool) (ls : List (List ℕ)) → (length f ≤ closed_length ls) × (closed_length ls ≤ length f + 1)
        → (suc (length f) ≤ closed_length (put_before e b ls))
        × (closed_length (put_before e b ls) ≤ suc (length f) + 1)
    go true ls h = omega arith
    go false [] h = omega arith
    go false (l ∷ ls) h = omega arith

-- lines that all pass question 3 have twelve bytes, and stand for six
closed-lines : (i : ℕ) (ls : List (List ℕ)) → each_line line_check3 i ls ≡ none
    → closed_length ls ≡ (line_digits + 1) * length ls
unfolding each_line closed_length
closed-lines i [] e = refl
closed-lines i (l ∷ ls) e =
    let p = both-passed (line_check3 i l) (each_line line_check3 (i + 1) ls) e in
    omega (arith, line-length l (ask-yes _ _ _ p.0), closed-lines (i + 1) ls p.1)

bytes-lines : (i : ℕ) (ls : List (List ℕ)) → each_line line_check3 i ls ≡ none
    → length (decode ls) ≡ frame_size * length ls
unfolding each_line decode
bytes-lines i [] e = refl
bytes-lines i (l ∷ ls) e =
    let p = both-passed (line_check3 i l) (each_line line_check3 (i + 1) ls) e in
    omega (
      arith,
      length-append (bytes_of l) (decode ls),
      line-bytes l (ask-yes _ _ _ p.0),
      bytes-lines (i + 1) ls p.1,
    )

module _ (f : List ℕ) (passed : file_check3 f ≡ none) where
  -- every 13 bytes are a line, and so is what is left, which is then 12 bytes
  pub line-count : length (lines_of f) ≡ (length f + line_digits) / (line_digits + 1)
  line-count = omega (arith, lines-closed f, closed-lines 0 (lines_of f) passed)

  -- each line is a frame
  pub decoded-length : length (decoded f) ≡ frame_size * length (lines_of f)
  decoded-length = bytes-lines 0 (lines_of f) passed

  -- so there are as many frames as lines
  pub frame-count : frames (decoded f) ≡ length (lines_of f)
  frame-count = omega (arith, decoded-length)

  -- a file of at most 53,248 bytes has at most 4,096 of them
  pub frames-few : length f ≤ max_file → frames (decoded f) ≤ max_nodes
  frames-few h = omega (arith, frame-count, line-count)
