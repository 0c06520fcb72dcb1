-- SSS* within an allowance of leaves, step by step, as the code makes it: the run of Sss, which ends before the first
-- leaf that the allowance does not cover. `covered-full` and `spent-first` of gametree_theory/proofs/Within say the
-- same by the evaluations of the full run.
use Rattle.std.specs.Prelude.{ℕ, zero, suc, ◌*◌, List, [], ◌∷◌, ◌++◌, map}
use Rattle.gametree.specs.Trees.{Tree, least, size}
use Rattle.gametree.specs.Sss.{State, Step, empty, stop, quiet, evaluating, step, SssRun, start}

-- how it ends: with a value, as the full run does, or before a leaf that its allowance does not cover, with the merit
-- of that leaf's state
pub data End : Type 0 where
  finished : (value : ℕ) → End
  spent : (merit : ℕ) → End

-- what it gives: its end, the leaves evaluated, in order, and how many replacements there were
pub record Ran : Type 0 where
  pub end : End
  pub evaluated : List ℕ
  pub replacements : ℕ

-- a run that ends so after k replacements, with no leaf evaluated
abbrev pub ends : End → (k : ℕ) → Ran
ends e k = record { end = e; evaluated = []; replacements = k }

-- the run r, with these leaves evaluated before its own
abbrev pub resumed : List ℕ → Ran → Ran
resumed leaves r = record { end = r.end; evaluated = leaves ++ r.evaluated; replacements = r.replacements }

-- the full run, as one within an allowance that covers all its leaves
abbrev pub in_full : SssRun → Ran
in_full r =
    record {
      end = finished r.value;
      evaluated = map (λ x. x.leaf) r.evaluations;
      replacements = r.replacements;
    }

-- a step after k replacements, with an allowance of a leaves left: a leaf uses one up; where none is left the step is
-- not made, and the run ends spent
abbrev pub follow_within : Step → (a k : ℕ) → (ℕ → List State → Ran) → Ran
follow_within empty a k rest = ends (finished least) k
follow_within (stop v) a k rest = ends (finished v) k
follow_within (quiet M) a k rest = rest a M
follow_within (evaluating n m M) zero k rest = ends (spent m) k
follow_within (evaluating n m M) (suc a) k rest = resumed (n ∷ []) (rest a M)

-- the run from a list after k replacements with an allowance of a leaves; the first number bounds the states taken, as
-- in `run_from`
abbrev pub run_within : (ℕ → ℕ) → Tree → ℕ → (a k : ℕ) → List State → Ran
run_within ν t zero a k L = ends (finished least) k
run_within ν t (suc f) a k L = follow_within (step ν t L) a k (λ b M. run_within ν t f b (suc k) M)

-- SSS* within an allowance of a leaves
abbrev pub sss_within : (a : ℕ) → (ℕ → ℕ) → Tree → Ran
sss_within a ν t = run_within ν t (2 * size t) a 0 (start t)
