-- A byte is in a range, below it or above it.
use Rattle.prelude.proofs.{ℕ, ◌≤◌, ◌<◌, ◌≡◌, true, false, and-false, and-eq-true_iff, leb, le-leb, lt-leb, leb-true}
use Rattle.file_hex.specs.{within}

module _ (a z b : ℕ) where
  -- it is in the range
  pub inside : a ≤ b → b ≤ z → within a z b ≡ true
  inside p q = simp (le-leb a b p, le-leb b z q)

  -- it is below the range
  pub below : b < a → within a z b ≡ false
  below p = simp (lt-leb a b p)

  -- it is above the range
  pub above : z < b → within a z b ≡ false
  above p = rw (lt-leb b z p) (and-false (leb a b))

  -- and a byte in it is neither
  pub bounds : within a z b ≡ true → (a ≤ b) × (b ≤ z)
  bounds e = let p = (and-eq-true_iff (leb a b) (leb b z)).0 e in (leb-true a b p.0, leb-true b z p.1)
