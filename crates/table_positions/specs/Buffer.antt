-- What a buffer holds: one entry a node, and after these what it held before.
use Rattle.std.specs.Prelude.{ℕ, zero, suc, ◌+◌, List, ◌++◌, map, set, drop}
use Rattle.table.specs.Tree.{up_from}

-- the buffer b after f 0, f 1, .., f (n - 1) have been written for n nodes; entries past them are kept
unfoldable pub written : (ℕ → ℕ) → ℕ → List ℕ → List ℕ
written f n b = map f (up_from 0 n) ++ drop n b

-- the buffer b with f k stored at each k of the n numbers from i on
unfoldable pub stored : {A : Type 0} → (ℕ → A) → ℕ → ℕ → List A → List A
stored f i zero b = b
stored f i (suc n) b = stored f (i + 1) n (set b i (f i))
