-- Small trees on which a rule that is read wrongly gives something else, with what the three searches make of them.
-- (The cases of SPEC 12.2 stand in one table over bytes, in the crate `demands`.)
use Rattle.std.specs.Prelude.{ℕ, suc, ◌+◌, ◌≡◌, List, [], ◌∷◌, map, get_or, drop}
use Rattle.lists.specs.Lists.{among}
use Rattle.gametree.specs.Trees.{Max, Min, Tree, leaf, inner, last, ◌then◌, greatest, zero_score}
use Rattle.gametree.specs.AlphaBeta.{SearchResult, full_window}
use Rattle.gametree.specs.Mtd.{mtd}
use Rattle.gametree.specs.Sss.{Evaluation, sss}
use Rattle.gametree.specs.Certificate.{flag}
use Rattle.gametree.specs.Move.{root_move_of}

-- the score of a value that is not negative
abbrev pub score : ℕ → ℕ
score v = zero_score + v

-- a tree with the scores of its nodes, by number (those of inner nodes play no part)
pub record Case : Type 0 where
  pub tree : Tree
  pub scores : List ℕ

abbrev pub valuation : Case → ℕ → ℕ
valuation c n = get_or c.scores n 0

-- a tree with values that are not negative
abbrev pub evaluated_with : Tree → List ℕ → Case
evaluated_with t vs = record { tree = t; scores = map score vs }

-- a root of two Min nodes with two leaves each
abbrev pub small : Tree
small = inner 0 Max (inner 1 Min (leaf 3 then last (leaf 4)) then last (inner 2 Min (leaf 5 then last (leaf 6))))

-- the small tree with values given for its leaves
abbrev pub leaves_of : ℕ → ℕ → ℕ → ℕ → Case
leaves_of a b c d = evaluated_with small (0 ∷ 0 ∷ 0 ∷ a ∷ b ∷ c ∷ d ∷ [])

-- a leaf of -5
abbrev pub lone_leaf : Case
lone_leaf = record { tree = leaf 0; scores = 31996 ∷ [] }

-- Max(Min(3, 6), Min(3, 1)): of equal merits the leftmost comes first, whichever arrived first
abbrev pub equal_merits : Case
equal_merits = leaves_of 3 6 3 1

-- Max(Min(7, 1), Min(7)): the second child is the move
abbrev pub second_move : Case
second_move =
    evaluated_with (inner 0 Max (inner 1 Min (leaf 3 then last (leaf 4)) then last (inner 2 Min (last (leaf 5)))))
    (0 ∷ 0 ∷ 0 ∷ 7 ∷ 1 ∷ 7 ∷ [])

-- Max(Min(1), 1): the leftmost of equal merits has the greater number
abbrev pub left_is_greater : Case
left_is_greater = evaluated_with (inner 0 Max (inner 1 Min (last (leaf 3)) then last (leaf 2))) (0 ∷ 0 ∷ 1 ∷ 1 ∷ [])

-- Max(Min(Max(1)), Min(1, 1)): the same, and by number SSS* would evaluate a leaf that alpha-beta does not
abbrev pub left_is_deeper : Case
left_is_deeper =
    evaluated_with
    (inner 0 Max
    (inner 1 Min (last (inner 3 Max (last (leaf 6)))) then last (inner 2 Min (leaf 4 then last (leaf 5)))))
    (0 ∷ 0 ∷ 0 ∷ 0 ∷ 1 ∷ 1 ∷ 1 ∷ [])

-- Max(Min(1, 1), 1): after the first pass the root's low is its value, and decides nothing
abbrev pub low_known : Case
low_known =
    evaluated_with (inner 0 Max (inner 1 Min (leaf 3 then last (leaf 4)) then last (leaf 2))) (0 ∷ 0 ∷ 1 ∷ 1 ∷ 1 ∷ [])

-- Max(Min(Max(Min(1, 4), 3), 1)): node 2, found not below by the second pass, is not entered by the third
abbrev pub found_before_case : Case
found_before_case =
    evaluated_with
    (inner 0 Max
    (last (inner 1 Min
    (inner 2 Max (inner 4 Min (leaf 6 then last (leaf 7)) then last (leaf 5)) then last (leaf 3)))))
    (0 ∷ 0 ∷ 0 ∷ 1 ∷ 0 ∷ 3 ∷ 1 ∷ 4 ∷ [])

-- Max(Min(Max(Min(1), 3), 1)): when node 2 is SOLVED, a state is on the list two levels below it
abbrev pub state_below : Case
state_below =
    evaluated_with
    (inner 0 Max
    (last (inner 1 Min (inner 2 Max (inner 4 Min (last (leaf 6)) then last (leaf 5)) then last (leaf 3)))))
    (0 ∷ 0 ∷ 0 ∷ 1 ∷ 0 ∷ 3 ∷ 1 ∷ [])

-- Max(Min(Max(1, Min(1)), 2)): the same, and its merit is that of node 2
abbrev pub equal_below : Case
equal_below =
    evaluated_with
    (inner 0 Max
    (last (inner 1 Min (inner 2 Max (leaf 4 then last (inner 5 Min (last (leaf 6)))) then last (leaf 3)))))
    (0 ∷ 0 ∷ 0 ∷ 2 ∷ 1 ∷ 0 ∷ 1 ∷ [])

-- Max(Min(4, 3)): the first pass leaves a bound that is not the value, so there are three
abbrev pub three_passes : Case
three_passes = evaluated_with (inner 0 Max (last (inner 1 Min (leaf 2 then last (leaf 3))))) (0 ∷ 0 ∷ 4 ∷ 3 ∷ [])

-- Max(Min(5, 4, 3)): from above each leaf takes a test of its own
abbrev pub falling_leaves : Case
falling_leaves =
    evaluated_with (inner 0 Max (last (inner 1 Min (leaf 2 then (leaf 3 then last (leaf 4))))))
    (0 ∷ 0 ∷ 5 ∷ 4 ∷ 3 ∷ [])

-- the numbers from k on, one for each entry of a list
abbrev pub numbers : ℕ → List ℕ → List ℕ
numbers k [] = []
numbers k (x ∷ xs) = k ∷ numbers (suc k) xs

-- what the searches make of a tree: alpha-beta's value and leaves; MTD's value and leaves, and its passes; SSS*'s value
-- and leaves, and its replacements; the root move; and the flags of the certificate that SSS* gives
pub record Row : Type 0 where
  pub alpha_beta : SearchResult
  pub mtd : SearchResult
  pub passes : ℕ
  pub sss : SearchResult
  pub replacements : ℕ
  pub move : ℕ
  pub flags : List ℕ

abbrev pub row_of : Case → Row
row_of c =
    let ν = valuation c in
    let t = c.tree in
    let w = map (λ x. x.leaf) (sss ν t).evaluations in
    record {
      alpha_beta = full_window ν t;
      mtd = record { value = (mtd ν t).value; evaluated = (mtd ν t).evaluated };
      passes = (mtd ν t).passes;
      sss = record { value = (sss ν t).value; evaluated = w };
      replacements = (sss ν t).replacements;
      move = root_move_of ν t;
      flags = map (flag ν (among w) t) (numbers 0 c.scores);
    }

-- a line of the table: the score, the move, alpha-beta's leaves, those of MTD and SSS*, the passes, the replacements,
-- the flags
abbrev pub line : (value move : ℕ) (alpha_beta sss : List ℕ) (passes replacements : ℕ) (flags : List ℕ) → Row
line v m a w p r f =
    record {
      alpha_beta = record { value = v; evaluated = a };
      mtd = record { value = v; evaluated = w };
      passes = p;
      sss = record { value = v; evaluated = w };
      replacements = r;
      move = m;
      flags = f;
    }

abbrev pub cases : List Case
cases =
    equal_merits
    ∷ second_move
    ∷ left_is_greater
    ∷ left_is_deeper
    ∷ low_known
    ∷ found_before_case
    ∷ state_below
    ∷ equal_below
    ∷ three_passes
    ∷ []

abbrev pub table : List Row
table =
    line (score 3) 1 (3 ∷ 4 ∷ 5 ∷ []) (3 ∷ 5 ∷ 4 ∷ []) 2 9 (3 ∷ 3 ∷ 1 ∷ 3 ∷ 2 ∷ 1 ∷ 0 ∷ [])
    ∷ line (score 7) 2 (3 ∷ 4 ∷ 5 ∷ []) (3 ∷ 5 ∷ 4 ∷ []) 2 9 (3 ∷ 1 ∷ 3 ∷ 0 ∷ 1 ∷ 3 ∷ [])
    ∷ line (score 1) 1 (3 ∷ 2 ∷ []) (3 ∷ 2 ∷ []) 2 6 (3 ∷ 3 ∷ 1 ∷ 3 ∷ [])
    ∷ line (score 1) 1 (6 ∷ 4 ∷ []) (6 ∷ 4 ∷ []) 2 9 (3 ∷ 3 ∷ 1 ∷ 3 ∷ 1 ∷ 0 ∷ 3 ∷ [])
    ∷ line (score 1) 1 (3 ∷ 4 ∷ 2 ∷ []) (3 ∷ 2 ∷ 4 ∷ []) 2 8 (3 ∷ 3 ∷ 1 ∷ 3 ∷ 2 ∷ [])
    ∷ line (score 1) 1 (6 ∷ 7 ∷ 5 ∷ 3 ∷ []) (6 ∷ 5 ∷ 3 ∷ []) 3 11 (3 ∷ 3 ∷ 2 ∷ 3 ∷ 0 ∷ 2 ∷ 0 ∷ 0 ∷ [])
    ∷ line (score 1) 1 (6 ∷ 5 ∷ 3 ∷ []) (6 ∷ 5 ∷ 3 ∷ []) 3 11 (3 ∷ 3 ∷ 2 ∷ 3 ∷ 0 ∷ 2 ∷ 0 ∷ [])
    ∷ line (score 1) 1 (4 ∷ 6 ∷ 3 ∷ []) (4 ∷ 6 ∷ 3 ∷ []) 2 11 (3 ∷ 3 ∷ 3 ∷ 2 ∷ 3 ∷ 1 ∷ 1 ∷ [])
    ∷ line (score 3) 1 (2 ∷ 3 ∷ []) (2 ∷ 3 ∷ []) 3 7 (3 ∷ 3 ∷ 2 ∷ 3 ∷ [])
    ∷ []

-- the definitions give a column of the table
abbrev pub Column : {A : Type 0} → (Row → A) → Type 0
Column f = map (λ c. f (row_of c)) cases ≡ map f table

-- an evaluation by its parts
abbrev at : (leaf merit replacements : ℕ) → Evaluation
at n m k = record { leaf = n; merit = m; replacements = k }

-- a tree, how many leaves are allowed, and the evaluations of SSS* that are not covered
pub record Allowed : Type 0 where
  pub case : Case
  pub allowance : ℕ
  pub uncovered : List Evaluation

abbrev allowed : Case → (allowance : ℕ) → List Evaluation → Allowed
allowed c a xs = record { case = c; allowance = a; uncovered = xs }

-- Max(Min(1, 2), Min(3, 4)), up to the greatest allowance that a call can be given, Max(Min(2, 3), Min(4, 1)), and a
-- leaf of -5
abbrev pub allowances : List Allowed
allowances =
    allowed (leaves_of 1 2 3 4) 0 (at 3 greatest 2 ∷ at 5 greatest 4 ∷ at 6 (score 3) 6 ∷ [])
    ∷ allowed (leaves_of 1 2 3 4) 1 (at 5 greatest 4 ∷ at 6 (score 3) 6 ∷ [])
    ∷ allowed (leaves_of 1 2 3 4) 2 (at 6 (score 3) 6 ∷ [])
    ∷ allowed (leaves_of 1 2 3 4) 3 []
    ∷ allowed (leaves_of 1 2 3 4) 18446744073709551615 []
    ∷ allowed (leaves_of 2 3 4 1) 2 (at 6 (score 4) 6 ∷ at 4 (score 2) 8 ∷ [])
    ∷ allowed (leaves_of 2 3 4 1) 3 (at 4 (score 2) 8 ∷ [])
    ∷ allowed (leaves_of 2 3 4 1) 4 []
    ∷ allowed lone_leaf 0 (at 0 greatest 0 ∷ [])
    ∷ allowed lone_leaf 1 []
    ∷ []

-- the definitions give them
abbrev pub AllowancesRight : Type 0
AllowancesRight =
    map (λ x. drop x.allowance (sss (valuation x.case) x.case.tree).evaluations) allowances
    ≡ map (λ x. x.uncovered) allowances
