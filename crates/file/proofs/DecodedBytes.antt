-- The table of a file whose lines are right is a list of bytes: two digits make less than 256.
use Rattle.prelude.proofs.{ℕ, zero, suc, ◌+◌, ◌-◌, ◌<◌, ◌≡◌, true, none, List, [], ◌∷◌, ◌++◌, ltb, length}
use Rattle.prelude.proofs.{length-append, get_or-append, get_or-append-add, arith, dec_lt, ltb-true}
use Rattle.lists.proofs.Choice.{and_both}
use Rattle.table.proofs.Stated.{ask-yes, both-passed}
use Rattle.file_hex.specs.{no_digit, digit_of}
use Rattle.file_line.specs.{all_digits, bytes_of, lines_of, decode, decoded}
use Rattle.file_line.proofs.Lines.{line-digits}
use Rattle.file_read.specs.{each_line, file_check3, line_check3}
use Rattle.file.specs.{Bytes}

-- of a line
line-bytes : (l : List ℕ) → all_digits l ≡ true → Bytes (bytes_of l)
unfolding all_digits bytes_of
line-bytes [] e k h = absurd (omega arith)
line-bytes (a ∷ []) e k h = absurd (omega arith)
line-bytes (a ∷ b ∷ l) e zero h =
    let p = and_both (ltb (digit_of a) no_digit) _ e in
    let q = and_both (ltb (digit_of b) no_digit) _ p.1 in
    omega (arith, ltb-true (digit_of a) no_digit p.0, ltb-true (digit_of b) no_digit q.0)
line-bytes (a ∷ b ∷ l) e (suc k) h =
    let p = and_both (ltb (digit_of a) no_digit) _ e in
    line-bytes l (and_both (ltb (digit_of b) no_digit) (all_digits l) p.1).1 k (omega arith)

-- bytes behind bytes
both_bytes : (a b : List ℕ) → Bytes a → Bytes b → Bytes (a ++ b)
both_bytes a b h g k l = elim (dec_lt k (length a)) [
  | yes i ↦ rw (get_or-append a b 0 k i) (h k i)
  | no i ↦
      let past : k ≡ length a + (k - length a) = omega arith in
      let room : k - length a < length b = omega (arith, length-append a b) in
      rw (past, get_or-append-add a b (k - length a) 0) (g (k - length a) room)
]

lines-bytes : (i : ℕ) (ls : List (List ℕ)) → each_line line_check3 i ls ≡ none → Bytes (decode ls)
unfolding each_line decode
lines-bytes i [] e = λ k h. absurd (omega arith)
lines-bytes i (l ∷ ls) e =
    let p = both-passed (line_check3 i l) _ e in
    both_bytes (bytes_of l) (decode ls) (line-bytes l (line-digits l (ask-yes _ _ _ p.0)))
    (lines-bytes (i + 1) ls p.1)

-- of a file
pub decoded-bytes : (f : List ℕ) → file_check3 f ≡ none → Bytes (decoded f)
decoded-bytes f e = lines-bytes 0 (lines_of f) e
