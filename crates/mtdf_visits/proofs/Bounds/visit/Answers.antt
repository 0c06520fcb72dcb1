-- `Bounds::visit` meets its contract: the look answers, or the node is entered.
use Rattle.mtdf_visits.specs.{memory_of}
use Rattle.mtdf_visits.proofs.Visits.{open-visited}
use Rattle.mtdf_visits.proofs.Bounds.visit.Goals as goal

pub returns-in-None-clause-visited : goal.returns-in-None-clause-visited
returns-in-None-clause-visited c =
    let a = c.args in
    open-visited a.table.now a.node a.test (memory_of a.self.now) (memory_of c.look.new.self) c.look.result
    c.look.ensures.looked c.in-None.is c.requires c.enter.ensures.entered
