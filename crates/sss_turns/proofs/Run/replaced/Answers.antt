-- `sss_turns::Run::replaced` meets its contract: the front fits after each step.
use Rattle.sss_states.proofs.Risings.{putting-fits, changed-sound, refreshed-keeps}
use Rattle.sss_turns.proofs.Run.replaced.Goals as goal

pub put-requires : goal.put-requires
put-requires c = putting-fits _ _ _ _ _ c.requires

pub refresh_ancestors-top-requires-clause-fits : goal.refresh_ancestors-top-requires-clause-fits
refresh_ancestors-top-requires-clause-fits c =
    let s = c.put.ensures.same_front in
    rw (s.0, s.1, c.put.ensures.entries) (record {
      formed = c.requires.fits.formed;
      positions = c.requires.fits.positions;
      sound = changed-sound _ _ _ _ _ c.requires;
    })

pub descend-requires : goal.descend-requires
descend-requires c =
    let p = c.put.ensures.same_front in
    let r = c.refresh_ancestors-top.ensures.same_front in
    let k = refreshed-keeps _ c.requires.fits.formed c.args.merit c.args.change.node _ c.args.change.node
    (changed-sound _ _ _ _ _ c.requires) c.requires.here.node in
    rw (
      r.0,
      r.1,
      c.refresh_ancestors-top.ensures.entries,
      c.refresh_ancestors-top.ensures.value,
      p.0,
      p.1,
      c.put.ensures.entries,
    ) (record {
      fits = record { formed = c.requires.fits.formed; positions = c.requires.fits.positions; sound = k.0 };
      node_bound = k.1;
    })
