-- The check of a lent certificate: questions 1 to 14 in order (SPEC 4.2, 5.5).
use Rattle.std.specs.Prelude.{ℕ, List, [], ◌∷◌, leb, eqb, length, get_or, Result, Ok, Err, ℤ}
use Rattle.std.proofs.Math.Option.{Option}
use Rattle.gametree.specs.declared.Side.{Side}
use Rattle.gametree.specs.declared.Side.TheVariants.{Max, Min}
use Rattle.gametree.specs.Certificate.{in_both}
use Rattle.table.specs.declared.Rejection.{Rejection}
use Rattle.table.specs.Frame.{frames}
use Rattle.table.specs.Rejection.{ask, ◌and_then◌, each_node, unless}
use Rattle.table.specs.Check.{rejection, check10}
use Rattle.table.specs.Value.{value_of}
use Rattle.certificate_check.specs.Flags.{rule_holds}
use Rattle.certificate_check.specs.Value.{tree_value}

-- 11: is every flag 0 to 3? The place of a "no" is the lowest node whose flag is not.
abbrev pub check11 : List ℕ → List ℕ → Option Rejection
check11 t flags = each_node (λ i. ask (leb (get_or flags i 0) in_both) 11 i) 0 (frames t)

-- 12 for Max, 13 for Min (the number is q): do side p's flags form a solution tree? The place of a "no" is the lowest
-- node whose rule breaks.
abbrev pub check_tree : ℕ → Side → List ℕ → List ℕ → Option Rejection
check_tree q p t flags = each_node (λ i. ask (rule_holds p t flags i) q i) 0 (frames t)

-- 14: are both values equal?
abbrev pub check14 : List ℕ → List ℕ → Option Rejection
check14 t flags = ask (eqb (tree_value Max t flags) (tree_value Min t flags)) 14 0

-- the first "no" to questions 12 to 14, which concern the two trees
unfoldable pub trees_rejection : List ℕ → List ℕ → Option Rejection
trees_rejection t flags = check_tree 12 Max t flags and_then check_tree 13 Min t flags and_then check14 t flags

-- the first "no" to questions 10 to 14, which concern the flags
unfoldable pub flags_rejection : List ℕ → List ℕ → Option Rejection
flags_rejection t flags =
    check10 (frames t) (length flags ∷ []) and_then check11 t flags and_then trees_rejection t flags

-- the first "no" to questions 1 to 14
unfoldable pub certificate_rejection : List ℕ → List ℕ → Option Rejection
certificate_rejection t flags = rejection t and_then flags_rejection t flags

-- the value of the max tree, unless there is a rejection
abbrev pub judged : List ℕ → List ℕ → Option Rejection → Result ℤ Rejection
judged t flags q = unless q Err (Ok (value_of (tree_value Max t flags)))

-- the answer of the check of a certificate
unfoldable pub verdict : List ℕ → List ℕ → Result ℤ Rejection
verdict t flags = judged t flags (certificate_rejection t flags)
