-- `sss::search` meets its contract: what start, the loop and finish leave is the outcome.
use Rattle.std.proofs.Common.{refl, length, rules}
use Rattle.sss.specs.declared.Sizes.{Sizes}
use Rattle.sss.proofs.Starting.{start-prepared}
use Rattle.sss.proofs.Whole.{finish-asks, whole}
use Rattle.sss.proofs.search.Goals as goal

pub drive-run-requires : goal.drive-run-requires
drive-run-requires c =
    let n : Sizes = record {
      entries = length c.args.list.now;
      flags = length c.args.certificate.now;
      order = length c.args.order.now;
    } in
    start-prepared c.args.allowance c.args.table.now c.args.evaluated.now c.args.order.now n c.args.list.now refl refl
    c.start-checked.result c.start-checked.new.positions c.start-checked.new.evaluated c.start-checked.ensures
    c.begun.result c.begun.ensures

pub finish-requires : goal.finish-requires
finish-requires c =
    finish-asks c.args.allowance c.args.table.now c.args.list.now c.args.evaluated.now c.args.certificate.now
    c.args.order.now _ refl c.start-checked.ensures c.begun.ensures c.drive-run.ensures.driven

pub returns : goal.returns
returns c =
    -- what was lent ends as the run leaves it
    let w = whole c.args.allowance c.args.table.now c.args.list.now c.args.evaluated.now c.args.certificate.now
    c.args.order.now _ refl c.start-checked.ensures c.begun.ensures c.drive-run.ensures.driven
    c.finish.ensures.finished in
    search rules
