-- `judge_in` meets its contract: what is filled in are the positions.
use Rattle.prelude.proofs.{length-replicate}
use Rattle.table_positions.proofs.Positions.{positioned}
use Rattle.certificate_check.proofs.judge_in.Goals as goal

pub judge-requires : goal.judge-requires
judge-requires g c = (
  c.requires.well_formed.0,
  c.requires.well_formed.1,
  positioned _ c.requires.well_formed.0 _ (simp length-replicate c.requires.room.0) c.fill.ensures,
)
