-- The cases of 01 marked P (SPEC 12.2), as byte tables; the other cases are tests (results).
use Rattle.std.specs.Prelude.{ℕ, ◌≡◌, List, [], ◌∷◌, ℤ, pos, neg_ℤ, replicate}
use Rattle.table.specs.Frame.{frames}
use Rattle.table.specs.Results.Cases.{small, lone, single}
use Rattle.methods.specs.declared.Method.TheVariants.{AlphaBeta, Sss}
use Rattle.methods.specs.declared.Findings.{Findings}
use Rattle.methods.specs.declared.Answer.TheVariants.{Found}
use Rattle.methods.specs.Outcome.{lent, search_outcome}

-- a line of 01's table: the tree, its value and move, how many leaves alpha-beta and SSS* evaluate; and for SSS* the
-- replacements and the flags that it writes
pub data CaseLine : Type 0 where
  says : (table : List ℕ) (value : ℤ) (move ab sss replacements : ℕ) (flags : List ℕ) → CaseLine

-- what a search finds
abbrev pub findings_are : ℤ → (move leaves steps : ℕ) → Findings
findings_are v m n k = record { value = v; root_move = m; leaves = n; steps = k }

-- the two searches give what the line says, with buffers of zeros and an allowance that covers all leaves
abbrev pub LineHolds : CaseLine → Type 0
LineHolds (says t v m ab sss r flags) =
    let zeros : List ℕ = replicate (frames t) 0 in
    let l = lent zeros zeros zeros in
    let s = search_outcome (Sss (frames t)) t l in
    ((search_outcome AlphaBeta t l).answer ≡ Found (findings_are v m ab 0))
    × (s.answer ≡ Found (findings_are v m sss r)) × (s.left.flags ≡ flags)

-- leaves, value, move, AB, SSS*, replacements, flags
abbrev pub case_lines : List CaseLine
case_lines =
    says (small 1 2 3 4) (pos 3) 2 4 3 9 (3 ∷ 1 ∷ 3 ∷ 1 ∷ 0 ∷ 3 ∷ 2 ∷ [])
    ∷ says (small 2 3 1 4) (pos 2) 1 3 3 9 (3 ∷ 3 ∷ 1 ∷ 3 ∷ 2 ∷ 1 ∷ 0 ∷ [])
    ∷ says (small 2 3 4 1) (pos 2) 1 4 4 11 (3 ∷ 3 ∷ 1 ∷ 3 ∷ 2 ∷ 0 ∷ 1 ∷ [])
    ∷ says (small 4 1 2 3) (pos 2) 2 4 4 11 (3 ∷ 1 ∷ 3 ∷ 0 ∷ 1 ∷ 3 ∷ 2 ∷ [])
    ∷ says (small 2 5 2 1) (pos 2) 1 3 3 9 (3 ∷ 3 ∷ 1 ∷ 3 ∷ 2 ∷ 1 ∷ 0 ∷ [])
    ∷ says (small 7 7 7 7) (pos 7) 1 3 3 9 (3 ∷ 3 ∷ 1 ∷ 3 ∷ 2 ∷ 1 ∷ 0 ∷ [])
    ∷ says lone (neg_ℤ (pos 5)) 0 1 1 1 (3 ∷ [])
    ∷ says single (pos 9) 1 1 1 3 (3 ∷ 3 ∷ [])
    ∷ []
