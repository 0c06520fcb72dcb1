-- Writing one line: what holds after the digits of k bytes, and that each two digits, laid behind the ones before, keep
-- it.
use Rattle.prelude.proofs.{ℕ, zero, suc, ◌+◌, ◌*◌, ◌/◌, ◌%◌, ◌≤◌, ◌<◌, ◌≡◌, refl, ap, ◌∙◌, List, [], ◌∷◌, ◌++◌, map-id}
use Rattle.prelude.proofs.{length, get_or, set, take, drop, length-append, length-set, get_or-append, sets, sets-eq}
use Rattle.prelude.proofs.{take-length, get_or_at, arith}
use Rattle.table.specs.{frame_size, up_from}
use Rattle.table.proofs.Ranges.{length_up, up_at}
use Rattle.file_hex.specs.{capital_of}
use Rattle.file_line.specs.{line_digits, line_feed, line_size}
use Rattle.file_line.proofs.Storing.{stored_next}
use Rattle.file_write.specs.{digits_of, line_of, byte_values, digit_pairs}

-- a byte has two digits
pub digits-length : (bs : List ℕ) → length (digits_of bs) ≡ 2 * length bs
unfolding digits_of
digits-length [] = refl
digits-length (b ∷ bs) = omega (arith, digits-length bs)

-- those of byte k stand at 2k and 2k + 1
digit-high : (bs : List ℕ) (k : ℕ) → k < length bs → get_or (digits_of bs) (2 * k) 0 ≡ capital_of (get_or bs k 0 / 16)
unfolding digits_of
digit-high [] k h = absurd (omega arith)
digit-high (b ∷ bs) zero h = refl
digit-high (b ∷ bs) (suc k) h =
    let e : 2 * suc k ≡ suc (suc (2 * k)) = omega arith in rw e (digit-high bs k (omega arith))

digit_low : (bs : List ℕ) (k : ℕ) → k < length bs
    → get_or (digits_of bs) (2 * k + 1) 0 ≡ capital_of (get_or bs k 0 % 16)
unfolding digits_of
digit_low [] k h = absurd (omega arith)
digit_low (b ∷ bs) zero h = refl
digit_low (b ∷ bs) (suc k) h =
    let e : 2 * suc k + 1 ≡ suc (suc (2 * k + 1)) = omega arith in rw e (digit_low bs k (omega arith))

-- where the digits of a byte are looked up
module _ (b : ℕ) (h : b < byte_values) where
  bytes : List ℕ
  bytes = up_from 0 byte_values

  inside : b < length bytes
  unfolding bytes
  inside = omega (arith, rw (map-id (up_from 0 byte_values)) at (length_up (λ x. x) 0 byte_values))

  byte : get_or bytes b 0 ≡ b
  unfolding bytes
  byte = omega (arith, rw (map-id (up_from 0 byte_values)) at (up_at (λ x. x) 0 byte_values b h))

  pair-high : get_or digit_pairs (2 * b) 0 ≡ capital_of (b / 16)
  unfolding bytes digit_pairs
  pair-high = digit-high bytes b inside ∙ ap (λ x. capital_of (x / 16)) byte

  pair-low : get_or digit_pairs (2 * b + 1) 0 ≡ capital_of (b % 16)
  unfolding bytes digit_pairs
  pair-low = digit_low bytes b inside ∙ ap (λ x. capital_of (x % 16)) byte

  -- from these pairs, for this byte
  pub looked-up : (pairs : List ℕ) (w : ℕ) → pairs ≡ digit_pairs → b ≡ w
      → (get_or pairs (2 * b) 0 ≡ capital_of (w / 16)) × (get_or pairs (2 * b + 1) 0 ≡ capital_of (w % 16))
  looked-up pairs w e f = rw (e, ← f) (pair-high, pair-low)

-- the digits of k bytes of a frame have been laid at the front of a file f
pub record Laying (frame f file : List ℕ) (k : ℕ) : Type 0 where
  pub at_most : k ≤ frame_size
  pub size : length file ≡ length f
  pub laid : file ≡ sets f 0 (take (2 * k) (line_of frame))

module _ (frame : List ℕ) (six : length frame ≡ frame_size) where
  -- thirteen bytes
  pub line-size : length (line_of frame) ≡ line_size
  unfolding line_of
  line-size = length-append (digits_of frame) (line_feed ∷ []) ∙ omega (arith, digits-length frame)

  -- the digits of byte k, and the line feed
  line-high : (k : ℕ) → k < frame_size → get_or (line_of frame) (2 * k) 0 ≡ capital_of (get_or frame k 0 / 16)
  unfolding line_of
  line-high k h =
      get_or-append (digits_of frame) (line_feed ∷ []) 0 (2 * k) (omega (arith, digits-length frame))
      ∙ digit-high frame k (omega arith)

  line_low : (k : ℕ) → k < frame_size → get_or (line_of frame) (2 * k + 1) 0 ≡ capital_of (get_or frame k 0 % 16)
  unfolding line_of
  line_low k h =
      get_or-append (digits_of frame) (line_feed ∷ []) 0 (2 * k + 1) (omega (arith, digits-length frame))
      ∙ digit_low frame k (omega arith)

  pub line-feed : get_or (line_of frame) line_digits 0 ≡ line_feed
  unfolding line_of
  line-feed = get_or_at (digits_of frame) line_feed [] 0 line_digits (digits-length frame ∙ omega arith)

  module _ (f : List ℕ) where
    -- byte i of the line laid behind the ones before
    byte-laid : (i b : ℕ) → i < line_size → b ≡ get_or (line_of frame) i 0
        → set (sets f 0 (take i (line_of frame))) i b ≡ sets f 0 (take (i + 1) (line_of frame))
    byte-laid i b h e =
        let front : 0 + i ≡ i = omega arith in
        rw e (rw front at (stored_next f (line_of frame) 0 i (omega (arith, line-size))))

    -- before the first byte
    pub laying-none : Laying frame f f 0
    laying-none = record { at_most = omega arith; size = refl; laid = refl }

    module _ (file : List ℕ) (k : ℕ) (l : Laying frame f file k) where
      -- two digits laid behind the ones before
      pub laying-next : (a b : ℕ) → k < frame_size → a ≡ capital_of (get_or frame k 0 / 16)
          → b ≡ capital_of (get_or frame k 0 % 16) → Laying frame f (set (set file (2 * k) a) (2 * k + 1) b) (k + 1)
      laying-next a b h high low =
          let next : 2 * (k + 1) ≡ 2 * k + 1 + 1 = omega arith in
          record {
            at_most = omega arith;
            size = simp length-set l.size;
            laid =
                rw (l.laid, next, byte-laid (2 * k) a (omega arith) (rw (line-high k h) high))
                (byte-laid (2 * k + 1) b (omega arith) (rw (line_low k h) low));
          }

      -- the line feed behind the last of them
      pub laying-all : frame_size ≤ k → line_size ≤ length f
          → set file line_digits line_feed ≡ line_of frame ++ drop line_size f
      laying-all h room =
          let all : 2 * k ≡ line_digits = omega (arith, l.at_most) in
          let whole = sets-eq (line_of frame) f 0 (omega (arith, line-size)) in
          let fed = byte-laid line_digits line_feed (omega arith) (rw line-feed) in
          rw (l.laid, all, fed, ← line-size, take-length (line_of frame))
          (rw line-size at whole)
