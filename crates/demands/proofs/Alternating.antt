-- "Old files mean what they meant" (N8): a table without a second capture gets the answers to question 4 that it got
-- before byte 3 had a meaning, and who moves is what the depth says. No other definition of a call reads byte 3, so
-- every call gives what it gave; AlternatingCalls has this for the reader, the check of certificates, the tree and what
-- is printed, against their definitions of then.
use Rattle.prelude.proofs.{ℕ, ◌<◌, ◌≡◌, List, eqb}
use Rattle.table.specs.{frames, byte3, depth_of, side_of, ask, check4, Alternating, side_by_depth}
use Rattle.table.proofs.Sides.{check4-before, side-parity}

module _ (t : List ℕ) (p : Alternating t) (i : ℕ) (h : i < frames t) where
  -- question 4 asks whether byte 3 is zero
  pub alternating-question : check4 t i ≡ ask (eqb (byte3 t i) 0) 4 i
  alternating-question = check4-before t p i h

  -- at even depth Max moves, at odd depth Min
  pub alternating-mover : side_of t i ≡ side_by_depth (depth_of t i)
  alternating-mover = side-parity t p i h
