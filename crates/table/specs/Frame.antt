-- A table is a list of bytes; a node is a frame of six of them (SPEC 3.1). Fields are read by node number, and are
-- 0 past the table's end.
use Rattle.std.specs.Prelude.{ℕ, zero, suc, ◌+◌, ◌*◌, ◌/◌, ◌%◌, Bool, ◌&&◌, List, ltb, eqb, length, get_or}
use Rattle.gametree.specs.Trees.{zero_score}

-- the limits (SPEC 3.2)
abbrev pub frame_size : ℕ
frame_size = 6

abbrev pub max_nodes : ℕ
max_nodes = 4096

-- 24,576 bytes
abbrev pub max_table : ℕ
max_table = frame_size * max_nodes

abbrev pub max_children : ℕ
max_children = 40

abbrev pub max_depth : ℕ
max_depth = 18

-- the number of whole frames
abbrev pub frames : List ℕ → ℕ
frames t = length t / frame_size

-- byte k of node i's frame
abbrev pub byte_of : List ℕ → ℕ → ℕ → ℕ
byte_of t i k = get_or t (frame_size * i + k) 0

-- bytes 0 and 1: the number of the first child, high byte first
abbrev pub first_child : List ℕ → ℕ → ℕ
first_child t i = byte_of t i 0 * 256 + byte_of t i 1

-- byte 2: the count of children
abbrev pub child_count : List ℕ → ℕ → ℕ
child_count t i = byte_of t i 2

-- is i a leaf of the table? No, past its last whole frame
abbrev pub is_leaf : List ℕ → ℕ → Bool
is_leaf t i = ltb i (frames t) && eqb (child_count t i) 0

-- byte 3: who moves there
abbrev pub byte3 : List ℕ → ℕ → ℕ
byte3 t i = byte_of t i 3

-- what byte 3 holds where the same side moves as at the parent (02: a second capture); 0 means the other side
abbrev pub same_mover : ℕ
same_mover = 1

-- bytes 4 and 5 as one unsigned number, high byte first
abbrev pub value_bytes : List ℕ → ℕ → ℕ
value_bytes t i = byte_of t i 4 * 256 + byte_of t i 5

-- how many numbers two bytes hold
abbrev pub two_bytes : ℕ
two_bytes = 65536

-- the score that they hold: their value in two's complement plus 32,001, so that -32,000 to 32,000 are 1 to 64,001
abbrev pub stored_score : List ℕ → ℕ → ℕ
stored_score t i = (value_bytes t i + zero_score) % two_bytes

-- 1 plus the child counts of all nodes before i: the number that i's first child has
unfoldable pub next : List ℕ → ℕ → ℕ
next t zero = 1
next t (suc i) = next t i + child_count t i
