-- `certificate_write::write_certificate` meets its contract: what is filled in are the positions.
use Rattle.table_positions.proofs.Positions.{positioned}
use Rattle.certificate_write.proofs.write_certificate.Goals as goal

pub write_certificate_at-requires : goal.write_certificate_at-requires
write_certificate_at-requires c = record {
  well_formed = (
    c.requires.well_formed,
    positioned _ c.requires.well_formed _ c.requires.well_formed.at_most c.fill.ensures,
  );
  table_in_bounds =
      c.requires.table_in_bounds;
}

pub returns : goal.returns
returns c = record {
  value = c.write_certificate_at.ensures.value;
  certificate_after =
      c.write_certificate_at.ensures.certificate_after;
  evaluated_unchanged =
      c.write_certificate_at.ensures.evaluated_unchanged;
}
