-- The game with the sides exchanged, and Scout: no call cites them.
pub mod Mirror
pub mod Scout
pub use Mirror.{mirror, mirror_children, opposite, mirrored, opposite_test}
pub use Scout.{scouted, better_test, probed, scout, scout_children, probe_children}
