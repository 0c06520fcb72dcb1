-- Text as bytes: numbers in base ten, and the line of a rejection (SPEC 12.1).
use Rattle.std.specs.Prelude.{ℕ, zero, suc, ◌+◌, ◌-◌, ◌/◌, ◌%◌, ◌≤◌, ◌≡◌, cond, List, [], ◌∷◌, ◌++◌}
use Rattle.std.specs.Prelude.{ltb, ℤ, pos, negsuc, length, take, drop, replicate, set}
use Rattle.std.specs.List.{fold}
pub use Rattle.file_line.specs.Line.{line_feed}
use Rattle.table.specs.declared.Rejection.{Rejection}
use Rattle.text.specs.declared.Text.{Text}

-- the text of a number in base ten, of at most so many digits
unfoldable pub decimal_within : ℕ → ℕ → List ℕ
decimal_within zero n = []
decimal_within (suc f) n = cond (ltb n 10) ((48 + n) ∷ []) (decimal_within f (n / 10) ++ ((48 + n % 10) ∷ []))

-- 64 bits take at most 20 digits
abbrev pub decimal : ℕ → List ℕ
decimal n = decimal_within 20 n

-- a minus sign stands before a negative number
abbrev pub signed_decimal : ℤ → List ℕ
signed_decimal (pos n) = decimal n
signed_decimal (negsuc n) = 45 ∷ decimal (suc n)

-- a blank
abbrev pub space : ℕ
space = 32

-- "refused", the number and the place
abbrev pub refused_line : Rejection → List ℕ
refused_line r =
    114 ∷ 101 ∷ 102 ∷ 117 ∷ 115 ∷ 101 ∷ 100 ∷ space
    ∷ (decimal r.number ++ (space ∷ (decimal r.place ++ (line_feed ∷ []))))

-- the bytes x laid into a buffer from a position on
unfoldable pub laid : ℕ → List ℕ → List ℕ → List ℕ
laid at x b = take at b ++ (x ++ drop (at + length x) b)

-- there is room for the bytes x from a position on
pub record TextRoom (at : ℕ) (x b : List ℕ) : Type 0 where
  pub enough : at + length x ≤ length b

-- the bytes x were laid into the buffer b from a position on: the position after them, and what the buffer holds then
pub record Put (at : ℕ) (x b : List ℕ) (next : ℕ) (after : List ℕ) : Type 0 where
  pub behind : next ≡ at + length x
  pub text : after ≡ laid at x b

-- how many bytes a text has: room for every report of a file, and for the line of every rejection
abbrev pub text_size : ℕ
text_size = 256

-- the text that begins with the bytes x, and has zeros after them
unfoldable pub text_of : List ℕ → Text
text_of x = record { bytes = x ++ replicate (text_size - length x) 0; length = length x }

-- the text t with one byte more, and with the bytes x more, one behind the other
abbrev pub pushed_byte : Text → ℕ → Text
pushed_byte t b = record { bytes = set t.bytes t.length b; length = t.length + 1 }

abbrev pub pushed : Text → List ℕ → Text
pushed t x = fold pushed_byte t x

-- there is room for the bytes x behind those of the text t
abbrev pub HasRoom : Text → List ℕ → Type 0
HasRoom t x = t.length + length x ≤ text_size
