-- The questions of a width and a depth in order, and the answer (SPEC 18.4).
use Rattle.std.specs.Prelude.{ℕ, ◌&&◌, ltb, leb, Result, Ok, Err}
use Rattle.std.proofs.Math.Option.{Option}
use Rattle.table.specs.declared.Rejection.{Rejection}
use Rattle.table.specs.Frame.{max_children, max_depth}
use Rattle.table.specs.Rejection.{ask, ◌and_then◌, unless}
use Rattle.least_count.specs.Rule.{least_count}

-- 22: is the width from 1 to 40?
abbrev pub check22 : (width : ℕ) → Option Rejection
check22 w = ask (ltb 0 w && leb w max_children) 22 0

-- 23: is the depth at most 18?
abbrev pub check23 : (depth : ℕ) → Option Rejection
check23 d = ask (leb d max_depth) 23 0

-- the first "no", the width before the depth
abbrev pub least_rejection : (width depth : ℕ) → Option Rejection
least_rejection w d = check22 w and_then check23 d

-- the answer of a call: the least count, unless a question got a "no"
abbrev pub least_answer : (width depth : ℕ) → Result ℕ Rejection
least_answer w d = unless (least_rejection w d) Err (Ok (least_count w d))
