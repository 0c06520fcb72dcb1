-- `sss_loop::drive_own` meets its contract: its front is zeros, and its list is of blank entries.
use Rattle.std.proofs.Common.{sym, subst, replicate}
use Rattle.table.specs.Frame.{max_nodes}
use Rattle.certificate_bounds.specs.{progress_of}
use Rattle.sss_states.specs.declared.State.{State}
use Rattle.sss_loop.specs.Engine.Driven.{Prepared, Driven, zeros}
use Rattle.sss_loop.proofs.drive_own.Goals as goal

pub drive-requires : goal.drive-requires
drive-requires c =
    subst (λ (x : State). Prepared c.args.table.now c.args.positions.now zeros (replicate max_nodes x)
    (progress_of c.args.evaluations.now) c.args.run) (sym c.blank-list.ensures) c.requires

pub returns-clause-driven : goal.returns-clause-driven
returns-clause-driven c = record {
  front = c.drive.new.front.entries.now;
  list = c.drive.new.list;
  driven =
      subst (λ (x : State). Driven c.args.table.now zeros (replicate max_nodes x) (progress_of c.args.evaluations.now)
      c.args.run (record {
        front = c.drive.new.front.entries.now;
        list = c.drive.new.list;
        progress = progress_of c.drive.new.evaluations;
        run = c.drive.result;
      })) c.blank-list.ensures c.drive.ensures.driven;
}
