-- The least a regular tree can cost (02: N12), sentence by sentence, over the definition that the contract of the call
-- cites. "Hold a table of the 760 least counts .. The rule is shown over the whole table together": `whole_table` in
-- least_count/src/lib.rt, whose contract compares all entries at once; `carried` in least_count/proofs/Carried.antt
-- says what that is for one.
use Rattle.prelude.proofs.{ℕ, ◌≤◌, ◌<◌, arith, le_trans, ◌≡◌, ap, ◌⊎◌, Bool, some, List, Ok, Err}
use Rattle.gametree.specs.{Certifies, pair_leaves}
use Rattle.gametree_theory.proofs.Minimax.Counts.{leaves-size, pair_leaves-all}
use Rattle.gametree_theory.proofs.Certificates.Regular.{pair-count}
use Rattle.table.specs.declared.Rejection.{Rejection}
use Rattle.table.specs.{unless, max_children, max_depth, tree, valuation, Accepted, RegularTable}
use Rattle.table.proofs.Acceptance.{accepted-formed}
use Rattle.table.proofs.Totals.{tree-size}
use Rattle.table.proofs.Regular.{tree-regular, regular-depth, regular-width}
use Rattle.least_count.specs.{cap, least_of, least_count, least_rejection, least_answer}
use Rattle.least_count.proofs.Questions.{wrong-width, wrong-depth, inside-table, passed-inside, given-leaves}
use Rattle.least_count.proofs.Questions.{given-rejected}
use Rattle.demands.proofs.Demand3.{pair-exists}

-- "width 1 to 40 by depth 0 to 18: width to the power of half the depth rounded up, plus width to the power of half
-- rounded down, less 1, capped at 65,535": so says `least_count`, and each entry is given
pub entry-given : (w d : ℕ) → 0 < w → w ≤ max_children → d ≤ max_depth → least_answer w d ≡ Ok (least_count w d)
entry-given w d a b c = ap (λ q. unless q Err (Ok (least_count w d))) (inside-table w d a b c)

-- and nothing else
pub only-entries : (w d n : ℕ) → least_answer w d ≡ Ok n
    → (0 < w) × (w ≤ max_children) × (d ≤ max_depth) × (n ≡ least_count w d)
only-entries w d n e =
    let p = given-leaves (least_count w d) n (least_rejection w d) e in
    let i = passed-inside w d p.0 in
    (i.0, i.1, i.2, p.1)

-- "where every inner node has the same width, all leaves lie at one depth and the sides alternate": `RegularTable`
module _ (t : List ℕ) (w d : ℕ) (r : RegularTable w d t) where
  pairs-alike : Accepted t → (g h : ℕ → Bool) (v : ℕ) → Certifies (valuation t) (tree t) g h v
      → pair_leaves g h (tree t) ≡ least_of w d
  pairs-alike a g h v c =
      omega (arith, pair-count g h (tree t) w d (tree-regular w d t (accepted-formed t a) r) c.max_tree c.min_tree)

  -- such a tree that is accepted and has an inner node has an entry
  pub entry-there : Accepted t → 0 < d → least_answer w d ≡ Ok (least_count w d)
  entry-there a l =
      let p = regular-width w d t a r l in entry-given w d p.0 p.1 (regular-depth w d t a r)

  module _ (n : ℕ) (e : least_answer w d ≡ Ok n) where
    counted : n ≡ least_count w d
    counted = (given-leaves (least_count w d) n (least_rejection w d) e).1

    -- "Below the cap": where the tree is accepted the entry always is, as there are no more than 4,096 nodes
    pub below-the-cap : Accepted t → n < cap
    below-the-cap a =
        let s = pair-exists t a in
        let p = pairs-alike a s.0 s.1 _ s.2.certifies in
        let q = le_trans (pair_leaves-all s.0 s.1 (tree t)) (leaves-size (tree t)) in
        omega (arith, p, q, counted, tree-size t (accepted-formed t a), (accepted-formed t a).at_most)

    -- "each entry is the number of leaves, a shared one counted once, in every max and min pair of equal value, in each
    -- such tree that is accepted"
    pub every-pair : Accepted t → (g h : ℕ → Bool) (v : ℕ) → Certifies (valuation t) (tree t) g h v
        → pair_leaves g h (tree t) ≡ n
    every-pair a g h v c = omega (arith, pairs-alike a g h v c, counted, below-the-cap a)

-- "Turned away: width outside 1 to 40, 22, place 0; .. width first"
pub outside-width : (w d : ℕ) → (w ≡ 0) ⊎ (max_children < w)
    → least_answer w d ≡ Err (record { number = 22; place = 0 })
outside-width w d o = ap (λ q. unless q Err (Ok (least_count w d))) (wrong-width w d o)

-- "depth above 18, 23, place 0"
pub outside-depth : (w d : ℕ) → 0 < w → w ≤ max_children → max_depth < d
    → least_answer w d ≡ Err (record { number = 23; place = 0 })
outside-depth w d a b l = ap (λ q. unless q Err (Ok (least_count w d))) (wrong-depth w d a b l)

-- demand 1: a refusal is the first "no"
pub first-least : (w d : ℕ) (r : Rejection) → least_answer w d ≡ Err r → least_rejection w d ≡ some r
first-least w d r e = given-rejected (least_count w d) r (least_rejection w d) e
