-- Definitions over byte tables: what a reader of the contracts has to believe.
pub mod Frame
pub mod Children
pub mod Position
pub mod Tree
pub mod Value
pub mod Formed
pub mod Questions
pub mod Rejection
pub mod Check
pub mod Shape
pub mod FirstNo
pub mod Results
unfoldable pub use Frame.{next}
pub use Frame.{frame_size, max_nodes, max_table, max_children, max_depth, frames, byte_of, first_child, child_count}
pub use Frame.{is_leaf, byte3}
pub use Frame.{same_mover, value_bytes, two_bytes, stored_score}
unfoldable pub use Children.{children_of, children_at}
unfoldable pub use Position.{parent_before, position_within, position_of}
pub use Position.{is_child, parent_of, root_position, child_side, child_position, depth_of, side_of}
unfoldable pub use Tree.{up_from, children_from, grow, tree_at, valuation}
pub use Tree.{node, tree, leaf_score}
pub use Value.{value_of, score_of, signed, max_value, win, worth, Ordinary}
pub use Formed.{WellFormed, ChildOf}
pub use Questions.{number_of}
unfoldable pub use Rejection.{each_node}
pub use Rejection.{ask, ◌and_then◌, unless, answer, Outcome, ◌leaving◌}
unfoldable pub use Check.{frames_rejection, rejection}
pub use Check.{check1, check2, check3, byte3_right, check4, check5, first_child_right, check6, value_right, check7}
pub use Check.{check_node, check8, check9, nodes_rejection, depths_rejection, long_enough, check10, Accepted, checked}
pub use Shape.{SameShape, AgreeOn}
pub use FirstNo.{FirstAt, LowestNo, LowestDeep, rejection_before9}
pub use Results.Stated.{FrameAsStated, TableAsStated}
unfoldable pub use Results.Cases.{leaves, chain}
pub use Results.Cases.{leaf_frame, small, lone, accepted, rejected, families}
unfoldable pub use Results.Alternating.{grow_by_depth}
pub use Results.Alternating.{Alternating, zero_check4, zero_frames, zero_rejection, side_by_depth, tree_by_depth}
pub use Results.Regular.{RegularTable}
pub use Results.Leaf.{Leaf}
