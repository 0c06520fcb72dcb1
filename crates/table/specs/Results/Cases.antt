-- Small tables, with what the check answers and what the children of a node are.
use Rattle.table.specs.declared.Rejection.{Rejection}
use Rattle.std.specs.Prelude.{ℕ, zero, suc, ◌+◌, List, [], ◌∷◌, ◌++◌, Result, Ok, Err}

-- a leaf of a value's two bytes
abbrev pub leaf_frame : ℕ → ℕ → List ℕ
leaf_frame high low = 0 ∷ 0 ∷ 0 ∷ 0 ∷ high ∷ low ∷ []

-- an inner node with n children from number f on
abbrev pub inner_frame : ℕ → ℕ → List ℕ
inner_frame f n = 0 ∷ f ∷ n ∷ 0 ∷ 0 ∷ 0 ∷ []

-- one where the same side moves as at its parent
abbrev pub again_frame : ℕ → ℕ → List ℕ
again_frame f n = 0 ∷ f ∷ n ∷ 1 ∷ 0 ∷ 0 ∷ []

-- n leaves of 0
unfoldable pub leaves : ℕ → List ℕ
leaves zero = []
leaves (suc n) = leaf_frame 0 0 ++ leaves n

-- n nodes from number i on with one child each, and a leaf
unfoldable pub chain : ℕ → ℕ → List ℕ
chain i zero = leaf_frame 0 0
chain i (suc n) = inner_frame (i + 1) 1 ++ chain (i + 1) n

-- a root of two nodes with two leaves each, of these values (SPEC 12.2)
abbrev pub small : ℕ → ℕ → ℕ → ℕ → List ℕ
small a b c d =
    inner_frame 1 2 ++ inner_frame 3 2 ++ inner_frame 5 2
    ++ leaf_frame 0 a ++ leaf_frame 0 b ++ leaf_frame 0 c ++ leaf_frame 0 d

-- Max(Max(1, 2)), where Max moves twice (SPEC 12.2)
abbrev pub capture : List ℕ
capture = inner_frame 1 1 ++ again_frame 2 2 ++ leaf_frame 0 1 ++ leaf_frame 0 2

-- a root that is a leaf of -5; a root with the single leaf 9
abbrev pub lone : List ℕ
lone = leaf_frame 255 251

abbrev pub single : List ℕ
single = inner_frame 1 1 ++ leaf_frame 0 9

-- a table and its answer
pub record Case : Type 0 where
  pub table : List ℕ
  pub answer : Result ℕ Rejection

abbrev pub accepts : List ℕ → ℕ → Case
accepts t n = record { table = t; answer = Ok n }

abbrev pub rejects : List ℕ → ℕ → ℕ → Case
rejects t q p = record { table = t; answer = Err (record { number = q; place = p }) }

-- what is accepted
abbrev pub accepted : List Case
accepted =
    accepts lone 1
    ∷ accepts single 2
    ∷ accepts (small 1 2 3 4) 7
    ∷ accepts capture 4
    -- the values 32,000 and -32,000
    ∷ accepts (leaf_frame 125 0) 1
    ∷ accepts (leaf_frame 131 0) 1
    -- 40 children; depth 18
    ∷ accepts (inner_frame 1 40 ++ leaves 40) 41
    ∷ accepts (chain 0 18) 19
    ∷ []

-- what is not
abbrev pub rejected : List Case
rejected =
    rejects [] 1 0
    -- one byte; a byte left over
    ∷ rejects (0 ∷ []) 3 0
    ∷ rejects (leaf_frame 0 5 ++ 0 ∷ []) 3 1
    -- 41 children come before a wrong byte 3 of a later node, and after one of the same node
    ∷ rejects (inner_frame 1 2 ++ inner_frame 3 41 ++ 0 ∷ 0 ∷ 0 ∷ 1 ∷ 0 ∷ 0 ∷ []) 5 1
    ∷ rejects (0 ∷ 1 ∷ 41 ∷ 1 ∷ 0 ∷ 0 ∷ []) 4 0
    -- byte 3 is 1 at the root, at a leaf, at a node with 41 children; it is 2
    ∷ rejects (again_frame 1 1 ++ leaf_frame 0 5) 4 0
    ∷ rejects (inner_frame 1 1 ++ 0 ∷ 0 ∷ 0 ∷ 1 ∷ 0 ∷ 5 ∷ []) 4 1
    ∷ rejects (inner_frame 1 1 ++ again_frame 2 41) 5 1
    ∷ rejects (inner_frame 1 1 ++ 0 ∷ 2 ∷ 1 ∷ 2 ∷ 0 ∷ 0 ∷ leaf_frame 0 5) 4 1
    -- a leaf with a first child; an inner node that leaves a number out; a leaf root and a node that names itself
    ∷ rejects (0 ∷ 1 ∷ 0 ∷ 0 ∷ 0 ∷ 5 ∷ []) 6 0
    ∷ rejects (inner_frame 2 1 ++ leaves 2) 6 0
    ∷ rejects (leaf_frame 0 5 ++ inner_frame 1 1) 6 1
    -- the values 32,001 and -32,001; an inner node with a value
    ∷ rejects (leaf_frame 125 1) 7 0
    ∷ rejects (leaf_frame 130 255) 7 0
    ∷ rejects (0 ∷ 1 ∷ 1 ∷ 0 ∷ 0 ∷ 1 ∷ leaf_frame 0 5) 7 0
    -- more frames than children, and fewer
    ∷ rejects (leaves 2) 8 2
    ∷ rejects (inner_frame 1 2 ++ leaves 1) 8 2
    -- depth 19
    ∷ rejects (chain 0 19) 9 19
    ∷ []

-- a table, a node and its children's frames
pub record Family : Type 0 where
  pub table : List ℕ
  pub node : ℕ
  pub children : List ℕ

abbrev pub families : List Family
families =
    record { table = small 1 2 3 4; node = 0; children = inner_frame 3 2 ++ inner_frame 5 2 }
    ∷ record { table = small 1 2 3 4; node = 2; children = leaf_frame 0 3 ++ leaf_frame 0 4 }
    -- a leaf; a number past the last frame; children that would reach past the table, or into bytes left over
    ∷ record { table = small 1 2 3 4; node = 3; children = [] }
    ∷ record { table = small 1 2 3 4; node = 7; children = [] }
    ∷ record { table = inner_frame 1 2 ++ leaves 1; node = 0; children = [] }
    ∷ record { table = inner_frame 1 1 ++ 0 ∷ 0 ∷ 0 ∷ []; node = 0; children = [] }
    -- no question is asked: a root that names itself is its own child
    ∷ record { table = inner_frame 0 1; node = 0; children = inner_frame 0 1 }
    ∷ []
