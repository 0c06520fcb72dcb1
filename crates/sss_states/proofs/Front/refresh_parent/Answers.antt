-- `sss_states::Front::refresh_parent` meets its contract: the parent and its child are nodes of the table.
use Rattle.prelude.proofs.{arith, ◌∙◌, ap}
use Rattle.sss_states.specs.{best_at, renewed}
use Rattle.sss_states.proofs.Risings.{rises}
use Rattle.sss_states.proofs.Front.refresh_parent.Goals as goal

pub chosen-child-requires-clause-node_bound : goal.chosen-child-requires-clause-node_bound
chosen-child-requires-clause-node_bound c =
    (rises c.requires.fits c.requires.node_bound c.parent_at-parent.ensures).inside

pub best_at-requires : goal.best_at-requires
best_at-requires c =
    let r = rises c.requires.fits c.requires.node_bound c.parent_at-parent.ensures in
    omega (arith, c.chosen-child.ensures, r.child, c.requires.fits.sound.room)

pub packed-requires : goal.packed-requires
packed-requires c =
    let r = rises c.requires.fits c.requires.node_bound c.parent_at-parent.ensures in
    let b = c.best_at.ensures ∙ ap (best_at c.args.self.now.entries.now) c.chosen-child.ensures in
    (omega (arith, b, r.merit), omega (arith, c.chosen-child.ensures, r.child, c.requires.fits.formed.at_most))

pub bounds-self-parent : goal.bounds-self-parent
bounds-self-parent c =
    let r = rises c.requires.fits c.requires.node_bound c.parent_at-parent.ensures in
    omega (arith, r.inside, c.requires.fits.sound.room)

pub offset_bounds-self-parent : goal.offset_bounds-self-parent
offset_bounds-self-parent c =
    let r = rises c.requires.fits c.requires.node_bound c.parent_at-parent.ensures in
    omega (arith, r.inside, c.requires.fits.formed.at_most)

pub returns-clause-value : goal.returns-clause-value
returns-clause-value c = (rises c.requires.fits c.requires.node_bound c.parent_at-parent.ensures).is

pub returns-clause-entries : goal.returns-clause-entries
returns-clause-entries c =
    let r = rises c.requires.fits c.requires.node_bound c.parent_at-parent.ensures in
    rw (c.packed.ensures, c.best_at.ensures, c.chosen-child.ensures)
    (ap (renewed c.args.self.now.table.now c.args.self.now.entries.now) r.is)
