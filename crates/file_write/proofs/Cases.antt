-- The small tables, computed from the definitions.
use Rattle.prelude.proofs.{◌≡◌, refl, map}
use Rattle.table.specs.{next, position_within, position_of, each_node, frames_rejection, rejection}
use Rattle.file_hex.specs.{capital_of}
use Rattle.file_write.specs.{digits_of, line_of, encode, write_rejection, performed, writings}

-- each writing is as stated
pub small-writings : map performed writings ≡ writings
unfolding capital_of digits_of line_of encode rejection write_rejection next position_within position_of each_node
    frames_rejection
small-writings = refl
