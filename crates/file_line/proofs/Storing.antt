-- Storing the bytes of one line, each behind the ones before.
use Rattle.prelude.proofs.{ℕ, suc, ◌+◌, ◌*◌, ◌<◌, ◌≡◌, refl, sym, ◌∙◌, Bool, true, false, List, [], ◌∷◌, ◌++◌}
use Rattle.prelude.proofs.{append-nil, length, get_or, set, take, drop_of_length-le, sets, sets-eq, take-suc}
use Rattle.prelude.proofs.{take-length, length-take-le, arith, add-one}
use Rattle.table.specs.{frame_size}
use Rattle.file_hex.specs.{no_digit, digit_of}
use Rattle.file_line.specs.{line_digits, all_digits, bytes_of, Stored}
use Rattle.file_line.proofs.Lines.{byte_at, bytes-length}

-- a byte stored behind others
stored_last : (t vs : List ℕ) (i v : ℕ) → set (sets t i vs) (i + length vs) v ≡ sets t i (vs ++ (v ∷ []))
stored_last t [] i v = let here : i + 0 ≡ i = omega arith in rw here
stored_last t (a ∷ vs) i v =
    let next : i + suc (length vs) ≡ suc i + length vs = omega arith in
    rw next (stored_last (set t i a) vs (suc i) v)

-- byte k stored behind the k bytes before it
pub stored_next : (t bs : List ℕ) (i k : ℕ) → k < length bs
    → set (sets t i (take k bs)) (i + k) (get_or bs k 0) ≡ sets t i (take (k + 1) bs)
stored_next t bs i k h =
    let many : length (take k bs) ≡ k = length-take-le k bs (omega arith) in
    let last : set (sets t i (take k bs)) (i + length (take k bs)) (get_or bs k 0)
    ≡ sets t i (take k bs ++ (get_or bs k 0 ∷ [])) = stored_last t (take k bs) i (get_or bs k 0) in
    rw (add-one, take-suc bs k 0 h) (rw many at last)

-- where the answer is no, the table is as it was
pub stored_refused : (is : Bool) (bytes t : List ℕ) (to : ℕ) → is ≡ false → Stored is bytes t to t false
stored_refused is bytes t to e =
    record {
      answered = sym e;
      stored = refl;
    }

-- where the answer is yes, bytes that fill the table are its content
pub stored-whole : (is : Bool) (bytes t after : List ℕ) (r : Bool) → Stored is bytes t 0 after r → r ≡ true
    → length bytes ≡ length t → after ≡ bytes
stored-whole is bytes t after r s h e =
    rw h at s.stored ∙ sets-eq bytes t 0 (omega arith)
    ∙ rw (drop_of_length-le t {i = 0 + length bytes} (omega arith)) (append-nil bytes)

module _ (line t : List ℕ) (to k : ℕ) (twelve : length line ≡ line_digits) (inside : k < frame_size) where
  -- byte k, made of the numbers of its two digits and stored behind the ones before
  pub byte-stored : (table : List ℕ) (high low : ℕ) → table ≡ sets t to (take k (bytes_of line))
      → high ≡ digit_of (get_or line (2 * k) 0) → low ≡ digit_of (get_or line (2 * k + 1) 0)
      → set table (to + k) (no_digit * high + low) ≡ sets t to (take (k + 1) (bytes_of line))
  byte-stored table high low e h l =
      let byte : no_digit * high + low ≡ get_or (bytes_of line) k 0 = rw (h, l, byte_at k line (omega arith)) in
      rw (e, byte) (stored_next t (bytes_of line) to k (omega (arith, bytes-length frame_size line twelve)))

-- after the last byte the answer is yes, if every byte of the line is a digit
pub stored-all : (line t : List ℕ) (to : ℕ) (table : List ℕ) (k : ℕ) → length line ≡ line_digits → k ≡ frame_size
    → table ≡ sets t to (take k (bytes_of line)) → all_digits line ≡ true
    → Stored (all_digits line) (bytes_of line) t to table true
stored-all line t to table k twelve h e a =
    let six : length (bytes_of line) ≡ k = bytes-length frame_size line twelve ∙ sym h in
    record {
      answered = sym a;
      stored = e ∙ rw (← six, take-length (bytes_of line));
    }
