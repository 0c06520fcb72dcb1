-- `certificate_write::write_certificate_at` meets its contract: the arrays hold the sides and the bounds, and the move
-- and the flags follow.
use Rattle.prelude.proofs.{arith}
use Rattle.certificate_bounds.specs.{marked}
use Rattle.certificate_write.proofs.Chosen.{Bounded, bounded, chosen-move}
use Rattle.certificate_write.proofs.Flags.{flags-follow}
use Rattle.certificate_write.proofs.write_certificate_at.Goals as goal

pub read_off-requires : goal.read_off-requires
read_off-requires c = record {
  well_formed = c.requires.well_formed.0;
  table_in_bounds =
      (c.requires.well_formed.1.room, omega (arith, c.requires.well_formed.0.at_most, c.fill_bounds.auto));
  table_in_bounds_2 = (
    omega (arith, c.requires.well_formed.0.at_most, c.fill_bounds.auto),
    c.requires.table_in_bounds.1,
  );
}

pub returns : goal.returns
returns c =
    -- the arrays hold the sides and the bounds
    let holds-bounds : Bounded c.args.table.now (marked c.args.evaluated.now) c.args.positions.now
    c.fill_bounds.new.lows c.fill_bounds.new.highs = bounded _ _ _ _ c.requires.well_formed.1
    c.fill_bounds.ensures.lows_after c.fill_bounds.ensures.highs_after in
    let h = holds-bounds in
    record {
      value = rw c.read_off.ensures.value (chosen-move _ c.requires.well_formed.0 _ h);
      certificate_after =
          c.read_off.ensures.by_index _ (flags-follow _ c.requires.well_formed.0 _ h);
      evaluated_unchanged =
          c.fill_bounds.ensures.evaluated_unchanged;
    }
