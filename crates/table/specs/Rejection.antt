-- Rejections (01: the first "no", with its number and a place), checks put one after the other, and what a call that
-- puts questions first gives and leaves.
use Rattle.std.specs.Prelude.{ℕ, zero, suc, ◌+◌, Bool, true, false, Result, Ok, Err}
use Rattle.std.proofs.Math.Option.{Option, none, some}
use Rattle.table.specs.declared.Rejection.{Rejection}

infixr 40 ◌and_then◌
infixl 35 ◌leaving◌
-- what a check gives: nothing if it passes, else the question's number and the place
abbrev pub ask : Bool → ℕ → ℕ → Option Rejection
ask true q p = none
ask false q p = some (record { number = q; place = p })

-- the first rejection of two checks in order
abbrev pub ◌and_then◌ : Option Rejection → Option Rejection → Option Rejection
none and_then r = r
some x and_then r = some x

-- the first rejection of a check put to n nodes, from node i on
unfoldable pub each_node : (ℕ → Option Rejection) → ℕ → ℕ → Option Rejection
each_node q i zero = none
each_node q i (suc n) = q i and_then each_node q (i + 1) n

-- what is made of the first "no", or, where there is none, the result
abbrev pub unless : {A : Type 0} → Option Rejection → (Rejection → A) → A → A
unless none refused result = result
unless (some r) refused result = refused r

-- the answer of a check that gives the number of nodes
abbrev pub answer : ℕ → Option Rejection → Result ℕ Rejection
answer n q = unless q Err (Ok n)

-- what a call answers, and what it leaves in the memory that it is lent
pub record Outcome (A B : Type 0) : Type 0 where
  pub answer : A
  pub left : B

abbrev pub ◌leaving◌ : {A B : Type 0} → A → B → Outcome A B
a leaving b = record { answer = a; left = b }
