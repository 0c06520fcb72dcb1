-- The small files, computed from the definitions.
use Rattle.prelude.proofs.{◌≡◌, refl, map}
use Rattle.table.specs.{next, position_within, position_of, each_node, frames_rejection}
use Rattle.file_hex.specs.{digit_of, capital_of}
use Rattle.file_line.specs.{all_digits, is_line, has_lowercase, bytes_of, lines_of, decode}
use Rattle.file_read.specs.{each_line, file_rejection}
use Rattle.file_write.specs.{digits_of, line_of, encode}
use Rattle.file_convert.specs.{raise_case, convert_rejection, convert_outcome, computed, cases}

-- each case is as stated
pub small-conversions : map computed cases ≡ cases
unfolding digit_of all_digits is_line has_lowercase bytes_of lines_of decode each_line file_rejection next
    position_within position_of each_node frames_rejection capital_of digits_of line_of encode raise_case
    convert_rejection convert_outcome
small-conversions = refl
