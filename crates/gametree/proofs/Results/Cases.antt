-- The small trees, computed from the definitions.
use Rattle.prelude.proofs.{arith, refl, ⊎_elim, some, [], ◌∷◌}
use Rattle.lists.specs.{among}
use Rattle.gametree.specs.{mtd, Reason, small, valuation, leaves_of, Column, AllowancesRight}

-- the definitions give the whole table
pub small-trees : Column (λ r. r.alpha_beta)
    × Column (λ r. r.mtd)
    × Column (λ r. r.passes)
    × Column (λ r. r.sss)
    × Column (λ r. r.replacements)
    × Column (λ r. r.move)
    × Column (λ r. r.flags)
unfolding mtd
small-trees = (refl, refl, refl, refl, refl, refl, refl)

-- and so they give the small trees within allowances
pub small-allowances : AllowancesRight
small-allowances = refl

-- Max(Min(3, 5), Min(2, 9)): after 3, 5 and 2 there is a reason to pass over the leaf 9, since Max has 3 at node 1, and
-- Min has 2 at node 5
pub nine-passed-over : Reason (valuation (leaves_of 3 5 2 9)) (among (3 ∷ 4 ∷ 5 ∷ [])) small 6
nine-passed-over =
    record {
      max_child = 1;
      min_child = 5;
      under_max =
          record {
            parent = 0;
            next = some 2;
            child = refl;
            above = refl;
            apart = ⊎_elim (λ e. omega arith) (⊎_elim (λ e. omega arith) (λ e. omega arith));
          };
      under_min = record { parent = 2; next = some 6; child = refl; above = refl; apart = λ e. omega arith };
      crossed = omega arith;
    }
