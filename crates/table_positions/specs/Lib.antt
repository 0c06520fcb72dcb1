-- Definitions for a work array over the nodes of a table: what is written into a buffer, and where a node stands.
pub mod Buffer
pub mod Engine
unfoldable pub use Buffer.{written, stored}
pub use Engine.Positions.{side_count, side_number, number_side, packed, position_entry, parent_in, depth_in, side_in}
pub use Engine.Positions.{position_in, Positioned}
