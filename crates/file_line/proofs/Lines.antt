-- A line's digits, and the six bytes that they stand for.
use Rattle.prelude.proofs.{ℕ, zero, suc, ◌+◌, ◌*◌, ◌<◌, ◌≡◌, refl, ap, true, and-eq-true_iff, List, [], ◌∷◌, ltb, eqb}
use Rattle.prelude.proofs.{length, get_or, arith, ltb-true, eqb-true}
use Rattle.table.specs.{frame_size}
use Rattle.file_hex.specs.{no_digit, digit_of}
use Rattle.file_line.specs.{line_digits, all_digits, is_line, bytes_of}

-- a line has twelve bytes
pub line-length : (l : List ℕ) → is_line l ≡ true → length l ≡ line_digits
unfolding is_line
line-length l e = eqb-true (length l) line_digits ((and-eq-true_iff (eqb (length l) line_digits) (all_digits l)).0 e).0

-- they are digits
pub line-digits : (l : List ℕ) → is_line l ≡ true → all_digits l ≡ true
unfolding is_line
line-digits l e = ((and-eq-true_iff (eqb (length l) line_digits) (all_digits l)).0 e).1

-- where all are digits, each is
pub digit_at : (l : List ℕ) (i : ℕ) → all_digits l ≡ true → i < length l → digit_of (get_or l i 0) < no_digit
unfolding all_digits
digit_at [] i e h = omega arith
digit_at (b ∷ l) zero e h =
    ltb-true (digit_of b) no_digit ((and-eq-true_iff (ltb (digit_of b) no_digit) (all_digits l)).0 e).0
digit_at (b ∷ l) (suc i) e h =
    digit_at l i ((and-eq-true_iff (ltb (digit_of b) no_digit) (all_digits l)).0 e).1 (omega arith)

-- byte k of a line is made of its digits 2k and 2k + 1
pub byte_at : (k : ℕ) (l : List ℕ) → 2 * k + 1 < length l
    → get_or (bytes_of l) k 0 ≡ 16 * digit_of (get_or l (2 * k) 0) + digit_of (get_or l (2 * k + 1) 0)
unfolding bytes_of
byte_at k [] h = absurd (omega arith)
byte_at k (a ∷ []) h = absurd (omega arith)
byte_at zero (a ∷ b ∷ l) h = refl
byte_at (suc k) (a ∷ b ∷ l) h =
    let low : 2 * suc k + 1 ≡ suc (suc (2 * k + 1)) = omega arith in
    let high : 2 * suc k ≡ suc (suc (2 * k)) = omega arith in
    rw (low, high) (byte_at k l (omega arith))

-- two digits make a byte
pub bytes-length : (n : ℕ) (l : List ℕ) → length l ≡ 2 * n → length (bytes_of l) ≡ n
unfolding bytes_of
bytes-length zero [] h = refl
bytes-length (suc n) [] h = absurd (omega arith)
bytes-length n (a ∷ []) h = absurd (omega arith)
bytes-length zero (a ∷ b ∷ l) h = absurd (omega arith)
bytes-length (suc n) (a ∷ b ∷ l) h = ap suc (bytes-length n l (omega arith))

-- a line has six bytes
pub line-bytes : (l : List ℕ) → is_line l ≡ true → length (bytes_of l) ≡ frame_size
line-bytes l e = bytes-length frame_size l (line-length l e)
