-- A question with a number that is put to node after node: the turns of such a loop.
use Rattle.prelude.proofs.{ℕ, ◌+◌, ◌≤◌, ◌<◌, arith, ◌≡◌, ap, Bool, true, false, Option, Ok}
use Rattle.table.specs.declared.Rejection.{Rejection}
use Rattle.table.specs.{ask, each_node, answer}
use Rattle.table.proofs.Asked.{Passed, passed_none, passed-more, passed-until, passed-all, refused}

-- the question that the test f answers at each node
abbrev pub asked : (ℕ → Bool) → ℕ → ℕ → Option Rejection
asked f q i = ask (f i) q i

-- it has passed at each node before i, of n
pub record Asking (f : ℕ → Bool) (q n i : ℕ) : Type 0 where
  pub within : i ≤ n
  pub passed : Passed (asked f q) n i

module _ (f : ℕ → Bool) (q n : ℕ) where
  -- nothing is asked yet
  pub asking-none : Asking f q n 0
  asking-none = record { within = omega arith; passed = passed_none (asked f q) n }

  module _ (i : ℕ) (a : Asking f q n i) where
    -- it passes at node i too
    pub asking-more : i < n → f i ≡ true → Asking f q n (i + 1)
    asking-more h e =
        record { within = omega arith; passed = passed-more (asked f q) n i h a.passed (ap (λ b. ask b q i) e) }

    -- it gets a "no" there
    pub asking-until : i < n → f i ≡ false → refused q i ≡ answer n (each_node (asked f q) 0 n)
    asking-until h e = rw (passed-until (asked f q) n i h a.passed _ (ap (λ b. ask b q i) e))

    -- it has passed at each node
    pub asking-all : n ≤ i → Ok n ≡ answer n (each_node (asked f q) 0 n)
    asking-all h =
        let e : i ≡ n = omega (arith, a.within) in
        rw (passed-all (asked f q) n (rw e at a.passed))
