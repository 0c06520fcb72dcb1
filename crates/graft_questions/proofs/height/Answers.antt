-- `graft_questions::height` meets its contract: the last node is the deepest.
use Rattle.prelude.proofs.{◌-◌, arith, ap, ◌∙◌}
use Rattle.table.specs.{frames, depth_of}
use Rattle.table.proofs.Positions.{depth-at-most}
use Rattle.graft_questions.proofs.Heights.{last-deepest}
use Rattle.graft_questions.proofs.height.Goals as goal

pub returns : goal.returns
returns c =
    let e = ap (λ p. p.depth) c.position_of-last.ensures
    ∙ ap (λ m. depth_of c.args.table.now (m - 1)) c.frame_count.ensures in (
      e ∙ last-deepest c.args.table.now c.requires,
      omega (
        arith,
        e,
        depth-at-most c.args.table.now (frames c.args.table.now - 1),
        c.requires.at_most,
        c.requires.non_empty,
      ),
    )
