-- Definitions for the loop over a list of entries.
pub mod Engine
pub use Engine.Driven.{Prepared, Driven, zeros, PreparedOwn, DrivenOwn}
pub use Engine.Invariant.{allowed_run, Reaches, Moves, Keeps, GoesOn, Over, Stands, Running}
