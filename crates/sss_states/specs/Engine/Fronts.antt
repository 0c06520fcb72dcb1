-- A front as a search carries it along, and that it stays where it is.
use Rattle.std.specs.Prelude.{◌≡◌, length}
use Rattle.sss_states.specs.declared.Front.{Front}
use Rattle.sss_states.specs.Engine.Kept.{Fits}

-- what a function over a front asks of it
abbrev pub FrontFits : Front → Type 0
FrontFits f = Fits f.table.now f.positions.now f.entries.now

-- table and positions are the same before and after; the entries are in the same lent buffer and keep their length
abbrev pub SameFront : Front → Front → Type 0
SameFront before after =
    (after.table ≡ before.table) × (after.positions ≡ before.positions)
    × (after.entries.ghost_name ≡ before.entries.ghost_name)
    × (length after.entries.now ≡ length before.entries.now)
