-- Merits as signed numbers, and back.
use Rattle.prelude.proofs.{ℕ, ◌≤◌, arith, sym, ap, ℤ, w32, SFits}
use Rattle.gametree.specs.{greatest}
use Rattle.table.specs.{value_of, score_of}
use Rattle.table.proofs.Values.{value-small, score-back}
use Rattle.sss_turns.specs.{IsMerit}

-- the value of a score takes 32 bits
pub value-fits : (s : ℕ) → s ≤ greatest → SFits w32 (value_of s)
value-fits s h = record { sfits = omega (arith, value-small s h) }

-- the value of a score that is one is a merit
pub merit-is : (s : ℕ) → s ≤ greatest → IsMerit (value_of s)
merit-is s h = record { same = ap value_of (sym (score-back s)); at_most = omega (arith, score-back s) }

-- a merit takes 32 bits
pub merit-fits : (z : ℤ) → IsMerit z → SFits w32 z
merit-fits z m = rw m.same (value-fits (score_of z) m.at_most)
