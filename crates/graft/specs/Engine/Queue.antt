-- The queue of a graft: an unvisited node's frame holds the number of its source in its first two bytes, the field of
-- the first child.
use Rattle.std.specs.Prelude.{ℕ, ◌+◌, ◌*◌, ◌/◌, ◌%◌, ◌<◌, ◌≡◌, List, [], ◌∷◌, length, take, drop}
use Rattle.std.proofs.lemmas.List.Edits.{sets}
use Rattle.table.specs.Frame.{frame_size, first_child}

-- the buffer with the number n in these bytes of node i's frame, high byte first
abbrev pub with_first : (i n : ℕ) → List ℕ → List ℕ
with_first i n b = sets b (frame_size * i) (n / 256 ∷ n % 256 ∷ [])

-- the buffer b, which was b₀, with the sources f 0, f 1, .. of the n nodes from number `at` on in their frames; what is
-- before these frames and behind them is as it was
pub record Queued (f : ℕ → ℕ) (at n : ℕ) (b₀ b : List ℕ) : Type 0 where
  pub long : length b ≡ length b₀
  pub before : take (frame_size * at) b ≡ take (frame_size * at) b₀
  pub entries : (m : ℕ) → m < n → first_child b (at + m) ≡ f m
  pub behind : drop (frame_size * (at + n)) b ≡ drop (frame_size * (at + n)) b₀
