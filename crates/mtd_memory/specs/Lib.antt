-- What the engine keeps.
pub mod Engine
pub use Engine.Memory.{Memory, memory, memory_of, Long, SameArrays}
pub use Engine.Memory.{progress_of, memo_of, pass_of, MemoryRoom, HighsRight, skip_at, skip_entry}
pub use Engine.Memory.{kept_entry, place_or, Siblings}
pub use Engine.Memory.{NamesTwo, lead_entry, Best, Explored, Skips, SkipsRight, FoundBelow, ToTry, Alone, KeepsBest}
pub use Engine.Memory.{Counted, VisitReady, Enterable, Evaluated, Passed, Looked, PassedOver, first_high, Fresh}
