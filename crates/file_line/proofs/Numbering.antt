-- What the numbers of digits, and the count of bytes that are none, say of a line whose bytes stand in front of further
-- digits.
use Rattle.prelude.proofs.{ℕ, suc, ◌+◌, ◌-◌, ◌≤◌, ◌<◌, min, ◌≡◌, refl, ap, ◌∙◌, Bool, true, false, List, []}
use Rattle.prelude.proofs.{◌∷◌, ◌++◌, length, get_or, take, drop, replicate, get_or-replicate}
use Rattle.prelude.proofs.{get_or-append, get_or-append-add, take-length, arith}
use Rattle.prelude.proofs.{dec_lt, lt-ltb}
use Rattle.file_hex.specs.{no_digit, digit_of}
use Rattle.file_line.specs.{line_digits, all_digits, digits_at_once, Numbered}
use Rattle.file_line.proofs.Lines.{digit_at}

-- a list of digits
pub digits-all : (l : List ℕ) → ((i : ℕ) → i < length l → digit_of (get_or l i 0) < no_digit) → all_digits l ≡ true
unfolding all_digits
digits-all [] h = refl
digits-all (b ∷ l) h =
    rw (lt-ltb (digit_of b) no_digit (h 0 (omega arith))) (digits-all l (λ i p. h (suc i) (omega arith)))

-- a list with a byte that is no digit
pub digits-not : (l : List ℕ) (i : ℕ) → i < length l → digit_of (get_or l i 0) ≡ no_digit → all_digits l ≡ false
digits-not l i h e = go (all_digits l) refl
  where
    go : (b : Bool) → all_digits l ≡ b → b ≡ false
    go true a = absurd (omega (arith, digit_at l i a h, e))
    go false a = refl

-- the zeros that stand behind the digits of a line
abbrev pub zeros : List ℕ
zeros = replicate 4 48

module _ (line copied : List ℕ) (twelve : length line ≡ line_digits)
    (c : copied ≡ take (length line) line ++ drop (length line) (replicate digits_at_once 48))
  where
    padded : copied ≡ line ++ zeros
    padded = c ∙ rw (take-length line, twelve)

    module _ (numbers : List ℕ) (x : ℕ) (d : Numbered copied numbers x digits_at_once) where
      line_at : (i : ℕ) → i < line_digits → get_or copied i 0 ≡ get_or line i 0
      line_at i h = rw padded (get_or-append line zeros 0 i (omega arith))

      module _ (none : x ≡ 0) where
        -- where none was counted as no digit, each byte of the line is one
        line-digit : (i : ℕ) → i < line_digits → digit_of (get_or line i 0) < no_digit
        line-digit i h = rw (← line_at i h) (d.none none i (omega arith))

        -- and has its number, below 16
        pub line-number : (i : ℕ) → i < line_digits → get_or numbers i 0 ≡ digit_of (get_or line i 0)
        line-number i h =
            let cut : min (get_or numbers i 0) no_digit ≡ digit_of (get_or line i 0) =
            d.each i (omega arith) ∙ ap digit_of (line_at i h) in
            omega (arith, cut, line-digit i h)

        pub line-right : all_digits line ≡ true
        line-right = digits-all line (λ i h. line-digit i (omega arith))

      zero-at : (i : ℕ) → line_digits ≤ i → i < digits_at_once → digit_of (get_or copied i 0) ≡ 0
      unfolding digit_of
      zero-at i l h =
          let at : i ≡ length line + (i - line_digits) = omega arith in
          rw (
            padded,
            at,
            get_or-append-add line zeros (i - line_digits) 0,
            get_or-replicate {A = ℕ} 4 (i - line_digits) 48 0 (omega arith),
          )

      -- and if one was, it is the line's
      pub line-wrong : 0 < x → all_digits line ≡ false
      line-wrong h =
          let s = d.non_empty h in
          elim (dec_lt s.0 line_digits) [
            | yes l ↦ digits-not line s.0 (omega arith) (rw (← line_at s.0 l) s.2)
            | no l ↦ absurd (omega (arith, zero-at s.0 (omega arith) s.1, s.2))
          ]
