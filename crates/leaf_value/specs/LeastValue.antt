-- The smallest value of a leaf that gives the root a wanted value (02: what score would save it?): its questions in
-- order, and its answer.
use Rattle.std.specs.Prelude.{ℕ, zero, suc, ◌+◌, Bool, cond, List, leb, eqb, ℤ, nat_abs, Result, Ok, Err}
use Rattle.std.proofs.Math.Option.{Option, none, some}
use Rattle.gametree.specs.Trees.{minimax}
use Rattle.gametree.specs.Graft.{substituted}
use Rattle.table.specs.declared.Rejection.{Rejection}
use Rattle.table.specs.Frame.{is_leaf}
use Rattle.table.specs.Position.{depth_of}
use Rattle.table.specs.Tree.{tree, valuation, leaf_score}
use Rattle.table.specs.Value.{value_of, score_of, max_value}
use Rattle.table.specs.Rejection.{ask, ◌and_then◌, unless}
use Rattle.table.specs.Check.{rejection}

-- 19: is the named node a leaf?
abbrev pub check19 : (t : List ℕ) (k : ℕ) → Option Rejection
check19 t k = ask (is_leaf t k) 19 k

-- 20: is the wanted value from -32,000 to 32,000?
abbrev pub check20 : (wanted : ℤ) → Option Rejection
check20 wanted = ask (leb (nat_abs wanted) max_value) 20 0

-- the root's score where the leaf k holds the score s, and each other leaf what it holds; the leaf counts with its
-- worth
unfoldable pub root_score : (t : List ℕ) (k s : ℕ) → ℕ
root_score t k s = minimax (substituted (valuation t) k (leaf_score (depth_of t k) s)) (tree t)

-- the first of the n numbers from i on that passes the test
unfoldable pub first_from : (ℕ → Bool) → (i n : ℕ) → Option ℕ
first_from f i zero = none
first_from f i (suc n) = cond (f i) (some i) (first_from f (i + 1) n)

-- the smallest score with which the leaf k gives the root the score w; the values from -32,000 to 32,000 have the
-- scores from 1 to 64,001
unfoldable pub smallest : (t : List ℕ) (k w : ℕ) → Option ℕ
smallest t k w = first_from (λ s. eqb (root_score t k s) w) 1 64001

-- the value of that score; 21 where there is none
abbrev pub answer_for : (k : ℕ) → Option ℕ → Result ℤ Rejection
answer_for k (some s) = Ok (value_of s)
answer_for k none = Err (record { number = 21; place = k })

-- the first "no" to 1 to 9, 19 and 20
abbrev pub value_rejection : (t : List ℕ) (k : ℕ) (wanted : ℤ) → Option Rejection
value_rejection t k wanted = rejection t and_then check19 t k and_then check20 wanted

-- the answer of a call with the table, the named node and the wanted value
unfoldable pub least_value : (t : List ℕ) (k : ℕ) (wanted : ℤ) → Result ℤ Rejection
least_value t k wanted =
    unless (value_rejection t k wanted) Err (answer_for k (smallest t k (score_of wanted)))
