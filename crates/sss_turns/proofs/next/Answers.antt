-- `sss_turns::next` meets its contract: what replaces a state that is not the SOLVED root is a change of the table.
use Rattle.prelude.proofs.{◌≡◌, sym, ap, ◌∙◌, false, w32, to_z-of_z}
use Rattle.table.specs.{score_of}
use Rattle.sss_turns.specs.{is_solved_root}
use Rattle.sss_turns.proofs.Merits.{merit-fits}
use Rattle.sss_turns.proofs.Puts.{state-put}
use Rattle.sss_turns.proofs.Taking.{not_root}
use Rattle.sss_turns.proofs.next.Goals as goal

pub replaced-requires : goal.replaced-requires
replaced-requires c =
    -- a state other than the SOLVED root
    let other : is_solved_root c.args.entry.status c.args.entry.node ≡ false =
    sym c.is_solved_root.ensures ∙ c.if-is_solved_root.false in
    -- the merit of the entry is a number of 32 bits
    let merit = c.score_of-merit.ensures
    ∙ ap score_of (to_z-of_z w32 c.args.entry.merit (merit-fits _ c.requires.merit)) in
    rw (c.of_state-change.ensures.value, merit)
    (state-put _ _ _ _ c.requires.fits c.requires.merit.at_most _ c.args.entry.status c.requires.node
    (not_root c.args.entry.status _ other))
