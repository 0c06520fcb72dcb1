-- Which of two lent certificates is handed back (02: the shorter of two proofs).
use Rattle.std.specs.Prelude.{Result, Ok, Err}
use Rattle.std.specs.Prelude.{ℕ, Bool, cond, ◌&&◌, List, [], eqb, ltb, get_or, take}
use Rattle.std.proofs.Math.Option.{Option, none, some}
use Rattle.lists.specs.Lists.{count_from}
use Rattle.table.specs.declared.Rejection.{Rejection}
use Rattle.table.specs.Frame.{frames, child_count}
use Rattle.table.specs.Rejection.{unless}
use Rattle.table.specs.Check.{rejection}
use Rattle.certificate_check.specs.Check.{flags_rejection}
use Rattle.certificate_choice.specs.declared.Chosen.{Chosen}
use Rattle.certificate_choice.specs.declared.Chosen.TheVariants.{First, Second}

-- node i is a leaf with a flag: in one of the two trees, or in both
abbrev pub flagged_leaf : (t flags : List ℕ) → ℕ → Bool
flagged_leaf t flags i = eqb (child_count t i) 0 && ltb 0 (get_or flags i 0)

-- how many flagged leaves a table has, a shared one counted once
abbrev pub flagged_leaves : (t flags : List ℕ) → ℕ
flagged_leaves t flags = count_from (flagged_leaf t flags) 0 (frames t)

-- the choice by what each certificate is rejected for, and by whether the second has fewer flagged leaves: the accepted
-- one; if both are, the one with fewer, the first on a tie; if neither is, the first one's rejection
abbrev pub choice_by : Option Rejection → Option Rejection → Bool → Result Chosen Rejection
choice_by none none b = cond b (Ok Second) (Ok First)
choice_by none (some s) b = Ok First
choice_by (some r) none b = Ok Second
choice_by (some r) (some s) b = Err r

-- the answer: questions 1 to 9 of the table, then 10 to 14 of each certificate by itself
unfoldable pub choice : (t first second : List ℕ) → Result Chosen Rejection
choice t first second =
    unless (rejection t) Err
    (choice_by (flags_rejection t first) (flags_rejection t second)
    (ltb (flagged_leaves t second) (flagged_leaves t first)))

-- the flags of the choice, one a node; none on a rejection
abbrev pub flags_by : (t first second : List ℕ) → Result Chosen Rejection → List ℕ
flags_by t first second (Ok First) = take (frames t) first
flags_by t first second (Ok Second) = take (frames t) second
flags_by t first second (Err r) = []

-- what is handed back
abbrev pub chosen_flags : (t first second : List ℕ) → List ℕ
chosen_flags t first second = flags_by t first second (choice t first second)

-- where they begin: at the front of the chosen certificate, and on a rejection at that of the first
abbrev pub pointer_by : (first second : ℕ × ℕ) → Result Chosen Rejection → ℕ × ℕ
pointer_by first second (Ok First) = first
pointer_by first second (Ok Second) = second
pointer_by first second (Err r) = first
