-- One line of a file: twelve digits, and the six bytes that they stand for.
use Rattle.std.specs.Prelude.{ℕ, ◌+◌, ◌*◌, min, Bool, true, false, cond, ◌&&◌, ◌||◌, List, [], ◌∷◌, ltb}
use Rattle.std.specs.Prelude.{eqb, length, take, drop, Result, Ok, Err}
use Rattle.file_hex.specs.Digit.{is_lowercase, no_digit, digit_of}
use Rattle.file_line.specs.declared.Frame.{Frame}
use Rattle.file_line.specs.declared.Cursor.{Cursor}

-- how many digits a line has
abbrev pub line_digits : ℕ
line_digits = 12

-- the byte that closes it
abbrev pub line_feed : ℕ
line_feed = 10

-- how many bytes a line takes with it
abbrev pub line_size : ℕ
line_size = line_digits + 1

-- is every byte a digit
unfoldable pub all_digits : List ℕ → Bool
all_digits [] = true
all_digits (b ∷ l) = ltb (digit_of b) no_digit && all_digits l

-- is a line, without its line feed, as SPEC 2.2 says
unfoldable pub is_line : List ℕ → Bool
is_line l = eqb (length l) line_digits && all_digits l

-- has a text a lowercase letter
unfoldable pub has_lowercase : List ℕ → Bool
has_lowercase [] = false
has_lowercase (b ∷ l) = is_lowercase b || has_lowercase l

-- the bytes of a line, one for each two digits, the high one first
unfoldable pub bytes_of : List ℕ → List ℕ
bytes_of [] = []
bytes_of (h ∷ []) = []
bytes_of (h ∷ l ∷ ds) = (16 * digit_of h + digit_of l) ∷ bytes_of ds

-- after the digits comes the end of the file or a line feed
abbrev pub closed : List ℕ → Bool
closed [] = true
closed (b ∷ bs) = eqb b line_feed

-- do twelve digits stand at a position, and then a line feed or the end of the file
unfoldable pub is_line_at : List ℕ → ℕ → Bool
is_line_at f at = is_line (take line_digits (drop at f)) && closed (drop (at + line_digits) f)

-- the bytes that the twelve digits at a position stand for
abbrev pub bytes_at : List ℕ → ℕ → List ℕ
bytes_at f at = bytes_of (take line_digits (drop at f))

-- reading one line at a position: its frame and the position past it, or no line and the position as it is
unfoldable pub line_at : List ℕ → ℕ → Result (Frame × Cursor) Cursor
line_at f at =
    cond (is_line_at f at)
    (Ok (record { bytes = bytes_at f at }, record { at = min (at + line_digits + 1) (length f) }))
    (Err (record { at = at }))
