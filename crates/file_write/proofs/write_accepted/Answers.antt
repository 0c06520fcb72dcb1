-- The buffer is too short, or the lines are written.
use Rattle.prelude.proofs.{refl, arith}
use Rattle.table.specs.{up_from}
use Rattle.table.proofs.Acceptance.{accepted-stated}
use Rattle.file_hex.specs.{capital_of}
use Rattle.file_write.specs.{digits_of, digit_pairs}
use Rattle.file_write.proofs.Questions.{buffer-short, file-written}
use Rattle.file_write.proofs.write_accepted.Goals as goal

pub overflow_mul-nodes : goal.overflow_mul-nodes
overflow_mul-nodes c = omega (arith, c.requires.1, (accepted-stated _ c.requires.0).most)

pub returns-then-file-nodes : goal.returns-then-file-nodes
returns-then-file-nodes c = rw c.at.ensures (buffer-short _ _ c.requires.0 _ c.requires.1 c.if-file-nodes.true)

-- the table in the code holds the digits of each byte
pub write_lines-requires-clause-pairs_value : goal.write_lines-requires-clause-pairs_value
unfolding capital_of up_from digits_of digit_pairs
write_lines-requires-clause-pairs_value c = refl

pub write_lines-requires-clause-nodes_le_max_nodes :
    goal.write_lines-requires-clause-nodes_le_max_nodes
write_lines-requires-clause-nodes_le_max_nodes c =
    let s = accepted-stated _ c.requires.0 in
    (omega (arith, c.requires.1, s.most), omega (arith, c.requires.1, s.whole))

pub returns : goal.returns
returns c =
    file-written _ _ c.requires.0 _ c.requires.1 _ (omega (arith, c.if-file-nodes.false)) c.write_lines.ensures
