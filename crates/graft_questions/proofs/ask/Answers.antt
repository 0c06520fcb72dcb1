-- `graft_questions::ask` meets its contract: accepted tables are well formed.
use Rattle.table.proofs.Acceptance.{accepted-formed, nodes-accepted}
use Rattle.graft_questions.proofs.ask.Goals as goal

pub ask_leaf-requires : goal.ask_leaf-requires
ask_leaf-requires c = (
  accepted-formed c.args.first.now (nodes-accepted c.args.first.now _ c.in_ok-check.ensures).0,
  accepted-formed c.args.second.now (nodes-accepted c.args.second.now _ c.in_ok-check-2.ensures).0,
)
