-- What the program prints for small files, computed from the definitions.
use Rattle.prelude.proofs.{◌≡◌, refl, map}
use Rattle.gametree.specs.{mtd}
use Rattle.table.specs.{next, parent_before, position_within, position_of, children_from, grow, tree_at, valuation}
use Rattle.table.specs.{each_node}
use Rattle.table.specs.{frames_rejection}
use Rattle.file_hex.specs.{digit_of}
use Rattle.file_line.specs.{all_digits, is_line, has_lowercase, bytes_of, lines_of, decode}
use Rattle.file_read.specs.{each_line, file_rejection}
use Rattle.text.specs.{decimal_within}
use Rattle.analysis.specs.{computed, expected, cases}

-- each case is as stated
pub small-files : map computed cases ≡ map expected cases
unfolding mtd next parent_before position_within position_of children_from grow tree_at valuation each_node
    frames_rejection
    digit_of all_digits is_line has_lowercase bytes_of lines_of decode each_line file_rejection decimal_within
small-files = refl
