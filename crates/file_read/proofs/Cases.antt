-- The small files, computed from the definitions; files at the limit; and the last line feed.
use Rattle.prelude.proofs.{ℕ, ◌≤◌, ◌≡◌, refl, ap, ◌∙◌, some, List, [], ◌∷◌, ◌++◌, map, eqb, length, arith, ne_eqb}
use Rattle.table.specs.{max_nodes, frames, next, position_within, position_of, ◌and_then◌, each_node, frames_rejection}
use Rattle.file_hex.specs.{digit_of}
use Rattle.file_line.specs.{line_feed, all_digits, is_line, has_lowercase, bytes_of, put_before, lines_of, decode}
use Rattle.file_line.specs.{decoded}
use Rattle.file_read.specs.{each_line, file_check3, file_check16, file_rejection, AcceptedFile, read_rejection}
use Rattle.file_read.specs.{computed, cases}
use Rattle.file_read.proofs.Reading.{file-then, sized, long-refused, accepted-parts}
use Rattle.file_read.proofs.Acceptance.{accepted-nodes}

-- each case is as stated
pub small-files : map computed cases ≡ cases
unfolding digit_of all_digits is_line has_lowercase bytes_of lines_of decode each_line file_rejection read_rejection
    next position_within position_of each_node frames_rejection
small-files = refl

module _ (f : List ℕ) where
  -- 53,248 bytes are never too many: questions 3 and 16 and those on frames decide
  pub full-file : length f ≡ 53248
      → file_rejection f ≡ (file_check3 f and_then file_check16 f and_then frames_rejection (decoded f))
  full-file e = file-then f ∙ rw (sized f (omega arith) (omega arith))

  -- 53,249 bytes are too many, whatever they are
  pub too-long-file : length f ≡ 53249 → file_rejection f ≡ some (record { number = 2; place = 0 })
  too-long-file e = file-then f ∙ rw (long-refused f (omega arith))

  -- an accepted file of 53,248 bytes has 4,096 nodes, and so has one without the last line feed
  pub full-nodes : AcceptedFile f → 53247 ≤ length f → frames (decoded f) ≡ max_nodes
  full-nodes e h = omega (arith, accepted-nodes f e, accepted-parts f e)

-- the last line feed may be missing: without it the lines are the same
pub last-feed : (g : List ℕ) (b : ℕ) → (b ≡ line_feed → ⊥)
    → lines_of (g ++ (b ∷ line_feed ∷ [])) ≡ lines_of (g ++ (b ∷ []))
unfolding lines_of
last-feed [] b n = rw (ne_eqb b line_feed n)
last-feed (x ∷ g) b n = ap (put_before (eqb x line_feed) x) (last-feed g b n)
