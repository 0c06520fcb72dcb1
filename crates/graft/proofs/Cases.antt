-- The small grafts, computed from the definitions.
use Rattle.prelude.proofs.{arith, ◌≡◌, refl, ap₂, map, ◌++◌, Err}
use Rattle.table.specs.{next, parent_before, position_within, position_of, up_from, children_from, grow, tree_at}
use Rattle.table.specs.{valuation}
use Rattle.table.specs.{each_node, frames_rejection, rejection, Accepted, leaves, chain, small}
use Rattle.graft.specs.{root_for, base, child_sources, breadth_first, frame_at, laid_frames, graft_outcome}
use Rattle.graft.specs.{valuation_from, graft_value, pair, chain_to, buffer, given, refused, far, values}
use Rattle.graft_questions.specs.{deepest}
use Rattle.graft.proofs.Grafting.{graft-keeps, graft-no-leaf}

-- answers and buffers
pub small-grafts : map (λ c. graft_outcome c.first c.node c.second (buffer c.room)) (given ++ refused)
    ≡ map (λ c. c.outcome) (given ++ refused)
unfolding up_from root_for base child_sources breadth_first frame_at laid_frames next parent_before position_within
    position_of
    each_node frames_rejection rejection leaves chain chain_to deepest
small-grafts = refl

tables-accepted : Accepted (small 1 2 3 4) × Accepted (pair 5 6)
unfolding next parent_before position_within position_of each_node frames_rejection rejection
tables-accepted = (refl, refl)

-- 17 with the node as named, by the law: the place of so large a node is not computed
pub far-node : graft_outcome (small 1 2 3 4) far (pair 5 6) (buffer 60)
    ≡ record { answer = Err (record { number = 17; place = far }); left = buffer 60 }
far-node =
    let a = tables-accepted in
    let e = graft-no-leaf (small 1 2 3 4) far (pair 5 6) (buffer 60) a.0 a.1 (λ l. omega (arith, l.inside)) in
    ap₂ (λ x y. record { answer = x; left = y }) e (graft-keeps (small 1 2 3 4) far (pair 5 6) (buffer 60) _ e).1

-- values
pub graft-values : map (λ c. graft_value c.first c.node c.second) values ≡ map (λ c. c.score) values
unfolding parent_before position_within position_of children_from grow tree_at valuation valuation_from chain
graft-values = refl
