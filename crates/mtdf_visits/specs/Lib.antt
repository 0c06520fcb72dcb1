-- What the engine keeps.
pub mod Engine
pub use Engine.Memory.{Memory, memory, progress_of, so_far, MemoryRoom, Long, Bounded, BoundsRight, Counted, VisitReady}
pub use Engine.Memory.{Evaluated, Same, Done, entered_test, VisitedBy, Entered, Undecided, Looked, Fresh}
pub use Engine.Bounds.{memory_of, SameBuffers}
