-- Rows of tests over byte tables: what each search gives, the lists and the flags that it leaves; and the rows of the
-- cases of 01 marked P, beyond what 01 says of them.
use Rattle.std.specs.Prelude.{ℕ, List, [], ◌∷◌, ℤ, pos, negsuc, length, replicate, Result, Ok, Err}
use Rattle.table.specs.Frame.{frames}
use Rattle.table.specs.declared.Rejection.{Rejection}
use Rattle.table.specs.Results.Cases.{small, lone, single}
use Rattle.certificate_write.specs.Search.{listed}
use Rattle.certificate_bounds.specs.Marks.{ones}
use Rattle.methods.specs.declared.Method.TheVariants.{AlphaBeta, Mtd, Sss}
use Rattle.methods.specs.declared.Answer.{Answer}
use Rattle.methods.specs.declared.Answer.TheVariants.{Found, Spent, Rejected}
use Rattle.methods.specs.Outcome.{lent, search_outcome}
use Rattle.plain.specs.declared.PlainResult.{PlainResult}
use Rattle.plain.specs.Outcome.{plain_outcome}
use Rattle.demands.specs.Cases.{findings_are}

-- what a search gives: the value, the move, the count of evaluated leaves and the steps; or of an allowance that is
-- spent the merit and the counts
abbrev pub found : ℤ → (move leaves steps : ℕ) → Answer
found v m n k = Found (findings_are v m n k)

abbrev pub spent : ℤ → (leaves steps : ℕ) → Answer
spent v n k = Spent (record { merit = v; leaves = n; steps = k })

-- the plain engine gives no count: it is that of the marks at 1
abbrev by_plain : (marks : ℕ) → Result PlainResult Rejection → Answer
by_plain n (Ok f) = found f.value f.root_move n 0
by_plain n (Err r) = Rejected r

-- a line of the table: what alpha-beta, the plain engine, MTD and SSS* give, the list of leaves that each of the three
-- searches leaves in one of zeros, and the flags that SSS* and the plain engine write
pub record Row : Type 0 where
  pub given : List Answer
  pub lists : List (List ℕ)
  pub flags : List (List ℕ)

abbrev pub row_of : List ℕ → Row
row_of t =
    let zeros : List ℕ = replicate (frames t) 0 in
    let l = lent zeros zeros zeros in
    let a = search_outcome AlphaBeta t l in
    let p = plain_outcome t (lent zeros zeros []) in
    let m = search_outcome Mtd t l in
    let s = search_outcome (Sss (frames t)) t l in
    record {
      given =
          a.answer ∷ by_plain (ones p.left.marks (frames t)) p.answer ∷ m.answer ∷ s.answer ∷ [];
      lists = a.left.order ∷ m.left.order ∷ s.left.order ∷ [];
      flags = s.left.flags ∷ p.left.flags ∷ [];
    }

-- value, move, all leaves, alpha-beta's leaves, MTD's leaves and passes, SSS*'s leaves and replacements; the leaves of
-- alpha-beta in order, and those of MTD and SSS*, which are the same; the flags of SSS* and those of the plain engine
abbrev pub row_with : ℤ → (move all ab mtd passes sss replacements : ℕ) → (ab_order order flags plain_flags : List ℕ)
    → Row
row_with v m l a d p s r u w f g =
    let in_list : List ℕ → List ℕ = λ x. listed x (replicate (length f) 0) in
    record {
      given = found v m a 0 ∷ found v m l 0 ∷ found v m d p ∷ found v m s r ∷ [];
      lists = in_list u ∷ in_list w ∷ in_list w ∷ [];
      flags = f ∷ g ∷ [];
    }

-- both write the same flags
abbrev pub row : ℤ → (move all ab mtd passes sss replacements : ℕ) → (ab_order order flags : List ℕ) → Row
row v m l a d p s r u w f = row_with v m l a d p s r u w f f

abbrev pub tables : List (List ℕ)
tables =
    small 1 2 3 4 ∷ small 2 3 1 4 ∷ small 2 3 4 1 ∷ small 4 1 2 3 ∷ small 2 5 2 1 ∷ small 7 7 7 7 ∷ lone ∷ single ∷ []

abbrev pub rows : List Row
rows =
    row (pos 3) 2 4 4 3 2 3 9 (3 ∷ 4 ∷ 5 ∷ 6 ∷ []) (3 ∷ 5 ∷ 6 ∷ []) (3 ∷ 1 ∷ 3 ∷ 1 ∷ 0 ∷ 3 ∷ 2 ∷ [])
    ∷ row (pos 2) 1 4 3 3 2 3 9 (3 ∷ 4 ∷ 5 ∷ []) (3 ∷ 5 ∷ 4 ∷ []) (3 ∷ 3 ∷ 1 ∷ 3 ∷ 2 ∷ 1 ∷ 0 ∷ [])
    ∷ row (pos 2) 1 4 4 4 3 4 11 (3 ∷ 4 ∷ 5 ∷ 6 ∷ []) (3 ∷ 5 ∷ 6 ∷ 4 ∷ []) (3 ∷ 3 ∷ 1 ∷ 3 ∷ 2 ∷ 0 ∷ 1 ∷ [])
    ∷ row (pos 2) 2 4 4 4 3 4 11 (3 ∷ 4 ∷ 5 ∷ 6 ∷ []) (3 ∷ 5 ∷ 4 ∷ 6 ∷ []) (3 ∷ 1 ∷ 3 ∷ 0 ∷ 1 ∷ 3 ∷ 2 ∷ [])
    -- the plain engine evaluates the last leaf, which the searches pass over, and takes it
    ∷ row_with (pos 2) 1 4 3 3 2 3 9 (3 ∷ 4 ∷ 5 ∷ []) (3 ∷ 5 ∷ 4 ∷ []) (3 ∷ 3 ∷ 1 ∷ 3 ∷ 2 ∷ 1 ∷ 0 ∷ [])
    (3 ∷ 3 ∷ 1 ∷ 3 ∷ 2 ∷ 0 ∷ 1 ∷ [])
    ∷ row (pos 7) 1 4 3 3 2 3 9 (3 ∷ 4 ∷ 5 ∷ []) (3 ∷ 5 ∷ 4 ∷ []) (3 ∷ 3 ∷ 1 ∷ 3 ∷ 2 ∷ 1 ∷ 0 ∷ [])
    ∷ row (negsuc 4) 0 1 1 1 2 1 1 (0 ∷ []) (0 ∷ []) (3 ∷ [])
    ∷ row (pos 9) 1 1 1 1 2 1 3 (1 ∷ []) (1 ∷ []) (3 ∷ 3 ∷ [])
    ∷ []
