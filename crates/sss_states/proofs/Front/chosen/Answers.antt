-- `sss_states::Front::chosen` meets its contract: its children are nodes of the table.
use Rattle.prelude.proofs.{arith}
use Rattle.table.proofs.Next.{children-within}
use Rattle.sss_states.proofs.Front.chosen.Goals as goal

pub leftmost_best-requires : goal.leftmost_best-requires
leftmost_best-requires c = let w = children-within _ c.requires.fits.formed c.args.node c.requires.node_bound
    (omega (arith, c.child_count-count.ensures.0)) in (
      omega arith,
      omega (arith, c.child_count-count.ensures.0, c.first_child.ensures.0, c.requires.fits.sound.room),
      omega (arith, c.requires.fits.sound.at_most),
    )
