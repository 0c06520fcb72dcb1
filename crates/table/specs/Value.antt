-- Values at the public edge.
use Rattle.std.specs.Prelude.{ℕ, ◌+◌, ◌*◌, ◌<◌, ◌≡◌, cond, List, ltb, ℤ, pos, neg_ℤ, nat_abs, ◌+ℤ◌, ◌-ℤ◌}
use Rattle.std.specs.Int.Signed.{le_z}
use Rattle.gametree.specs.Trees.{zero_score}
use Rattle.table.specs.Frame.{two_bytes, frames, child_count, stored_score}

-- the value of a score: the score less 32,001, as an integer
abbrev pub value_of : ℕ → ℤ
value_of score = pos score -ℤ pos zero_score

-- the score of a value: the value plus 32,001
abbrev pub score_of : ℤ → ℕ
score_of value = nat_abs (value +ℤ pos zero_score)

-- the number that two bytes hold in two's complement, high byte first
abbrev pub signed : (high low : ℕ) → ℤ
signed high low = cond (ltb high 128) (pos (high * 256 + low)) (pos (high * 256 + low) -ℤ pos two_bytes)

-- a leaf's value is from -32,000 to 32,000
abbrev pub max_value : ℕ
max_value = 32000

-- from 31,000 up a value is a win, from -31,000 down a loss
abbrev pub win : ℕ
win = 31000

-- the worth of a leaf (02: worth): a win is worth its value less the depth, a loss its value plus the depth, any other
-- value itself
abbrev pub worth : (depth : ℕ) (value : ℤ) → ℤ
worth depth value =
    cond (le_z (pos win) value) (value -ℤ pos depth)
    (cond (le_z value (neg_ℤ (pos win))) (value +ℤ pos depth) value)

-- no leaf of the table is a win or a loss: each value is from -30,999 to 30,999
abbrev pub Ordinary : List ℕ → Type 0
Ordinary t = (i : ℕ) → i < frames t → child_count t i ≡ 0 → nat_abs (value_of (stored_score t i)) < win
