-- The questions of a width and a depth: which "no" is the first, when there is none, and what an answer says of them.
use Rattle.prelude.proofs.{ℕ, ◌≤◌, ◌<◌, arith, ◌≡◌, refl, ◌⊎◌, inl, inr, Option, none, some, ltb, ltb-true, leb-true}
use Rattle.prelude.proofs.{Ok, Err}
use Rattle.prelude.proofs.{lt-ltb, le-leb, lt-leb}
use Rattle.lists.proofs.Choice.{clash, and_both}
use Rattle.table.specs.declared.Rejection.{Rejection}
use Rattle.table.specs.{max_children, max_depth, unless}
use Rattle.table.proofs.Stated.{ask-yes, both-passed}
use Rattle.least_count.specs.{check22, check23, least_rejection}

-- a width outside the table, whatever the depth
pub wrong-width : (w d : ℕ) → (w ≡ 0) ⊎ (max_children < w)
    → least_rejection w d ≡ some (record { number = 22; place = 0 })
wrong-width w d (inl e) = rw e
wrong-width w d (inr l) = rw (lt-ltb 0 w (omega arith), lt-leb w max_children l)

module _ (w d : ℕ) (a : 0 < w) (b : w ≤ max_children) where
  -- a depth outside the table, where the width is inside it
  pub wrong-depth : max_depth < d → least_rejection w d ≡ some (record { number = 23; place = 0 })
  wrong-depth l = rw (lt-ltb 0 w a, le-leb w max_children b, lt-leb d max_depth l)

  -- an entry of the table
  pub inside-table : d ≤ max_depth → least_rejection w d ≡ none
  inside-table l = rw (lt-ltb 0 w a, le-leb w max_children b, le-leb d max_depth l)

-- only an entry of the table passes
pub passed-inside : (w d : ℕ) → least_rejection w d ≡ none → (0 < w) × (w ≤ max_children) × (d ≤ max_depth)
passed-inside w d e =
    let p = both-passed (check22 w) (check23 d) e in
    let q = and_both (ltb 0 w) _ (ask-yes _ _ _ p.0) in
    (ltb-true _ _ q.0, leb-true _ _ q.1, leb-true _ _ (ask-yes _ _ _ p.1))

-- a count is given where there is no "no", and a rejection is the first one
pub given-leaves : (n m : ℕ) (o : Option Rejection) → unless o Err (Ok n) ≡ Ok m → (o ≡ none) × (m ≡ n)
given-leaves n m none e = (refl, cc)
given-leaves n m (some r) e = clash (cc)

pub given-rejected : (n : ℕ) (r : Rejection) (o : Option Rejection) → unless o Err (Ok n) ≡ Err r
    → o ≡ some r
given-rejected n r none e = clash (cc)
given-rejected n r (some q) e = cc
