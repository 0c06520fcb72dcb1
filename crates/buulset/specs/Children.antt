-- The children of a node, as the number of the first and their count.
use Rattle.std.specs.Prelude.{ℕ, zero, suc, ◌*◌, ◌/◌, List, length, take, drop}
use Rattle.table.specs.Frame.{frame_size, first_child}
use Rattle.table.specs.Children.{children_of}
use Rattle.buulset_answers.specs.declared.Children.{Children}
use Rattle.buulset_answers.specs.Answers.{no_children}

abbrev pub children_from : (first count : ℕ) → Children
children_from k zero = no_children
children_from k (suc n) = record { first = k; count = suc n }

unfoldable pub flat_children : List ℕ → ℕ → Children
flat_children t i = children_from (first_child t i) (length (children_of t i) / frame_size)

-- the part of a table that they are
abbrev pub part_of : List ℕ → Children → List ℕ
part_of t c = take (frame_size * c.count) (drop (frame_size * c.first) t)
