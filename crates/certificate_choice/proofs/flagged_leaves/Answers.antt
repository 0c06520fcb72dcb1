-- `flagged_leaves` meets its contract: the nodes that pass are those that `count_from` counts.
use Rattle.prelude.proofs.{arith, ◌∙◌}
use Rattle.std.proofs.Common.{rules, tests}
use Rattle.std.proofs.lemmas.Iterator.{YieldsList-from_range}
use Rattle.std.proofs.lemmas.Iterator.Consumers.{count_from_yields_List, YieldsList-from_filter}
use Rattle.lists.proofs.Counting.{count-filter}
use Rattle.table.specs.{frames}
use Rattle.certificate_choice.specs.{flagged_leaf}
use Rattle.certificate_choice.proofs.flagged_leaves.Goals as goal

pub returns : goal.returns
returns c =
    let E = flagged_leaf c.args.table.now c.args.flags.now in
    let n = frames c.args.table.now in
    let nodes = YieldsList-from_range 0 c.frame_count.result n c.filter.ensures.source (omega arith) in
    count_from_yields_List c.filter.result _ c.count.ensures.ran
    (YieldsList-from_filter _ E nodes c.filter.ensures.closure (λ x b q k. search (rules, tests)))
    ∙ count-filter E 0 n
