-- SSS* on a tree: its states, its list, one replacement, and the run. State, LIVE, SOLVED, merit and replacement are
-- Stockman's words (source 002; SPEC 10).
use Rattle.std.specs.Prelude.{ℕ, zero, suc, ◌*◌, min, ◌≡◌, Bool, cond, ◌||◌, ◌&&◌, List, [], ◌∷◌, ◌++◌, map, ltb, eqb}
use Rattle.std.proofs.Math.Option.{none, some}
use Rattle.gametree.specs.Trees.{Max, Min, Tree, leaf, inner, least, greatest, number, size}
use Rattle.gametree.specs.Nodes.{Link, root, under, first_of, others_of, subtree_at, link_in, above_in, left_in}

-- a state: a node, its status, and its merit; the greatest merit on the list bounds the root's value from above
pub data Status : Type 0 where
  LIVE SOLVED : Status

pub record State : Type 0 where
  pub node : ℕ
  pub status : Status
  pub merit : ℕ

abbrev pub live : ℕ → ℕ → State
live n m = record { node = n; status = LIVE; merit = m }

abbrev pub solved : ℕ → ℕ → State
solved n m = record { node = n; status = SOLVED; merit = m }

-- s is taken rather than x: its merit is greater, or equal and s is left of x in the tree
abbrev pub beats : Tree → State → State → Bool
beats t s x = ltb x.merit s.merit || (eqb x.merit s.merit && left_in t s.node x.node)

-- the state of the list s ∷ ss that is taken: of greatest merit, on equal merit the leftmost in the tree
abbrev pub best_state : Tree → State → List State → State
best_state t s [] = s
best_state t s (x ∷ xs) = cond (beats t s (best_state t x xs)) s (best_state t x xs)

-- the list s ∷ ss with new states in place of the one taken
abbrev pub put : Tree → State → List State → (new : List State) → List State
put t s [] new = new
put t s (x ∷ xs) new = cond (beats t s (best_state t x xs)) (new ++ (x ∷ xs)) (s ∷ put t x xs new)

-- what one step does: there is no state to take (no run on a proper tree comes to this: `state-held` in
-- gametree_theory/proofs/Theorems); the root, SOLVED, is taken; a state is replaced; a leaf's state of this merit is
-- replaced, and the leaf evaluated
pub data Step : Type 0 where
  empty : Step
  stop : (value : ℕ) → Step
  quiet : List State → Step
  evaluating : (leaf merit : ℕ) → List State → Step

-- the states that are not below p: all those below it are purged, and not its children alone
abbrev pub purge : Tree → ℕ → List State → List State
purge t p [] = []
purge t p (s ∷ ss) = cond (above_in t p s.node) (purge t p ss) (s ∷ purge t p ss)

-- the LIVE state s is replaced, and p puts the new states in its place: a leaf is evaluated, and SOLVED; of a Max node
-- all children are LIVE, of a Min node the first
abbrev pub replace_live : (ℕ → ℕ) → State → (List State → List State) → Tree → Step
replace_live ν s p (leaf n) = evaluating s.node s.merit (p (solved s.node (min s.merit (ν s.node)) ∷ []))
replace_live ν s p (inner n Max ks) = quiet (p (map (λ c. live c s.merit) (first_of ks ∷ others_of ks)))
replace_live ν s p (inner n Min ks) = quiet (p (live (first_of ks) s.merit ∷ []))

-- the SOLVED state s is replaced: under Max the parent q is SOLVED and all states below it go; under Min the next
-- sibling is LIVE, after the last the parent is SOLVED
abbrev pub replace_solved : Tree → State → (List State → List State) → Link → Step
replace_solved t s p root = stop s.merit
replace_solved t s p (under q Max b) = quiet (purge t q (p (solved q s.merit ∷ [])))
replace_solved t s p (under q Min (some b)) = quiet (p (live b s.merit ∷ []))
replace_solved t s p (under q Min none) = quiet (p (solved q s.merit ∷ []))

abbrev pub replace : (ℕ → ℕ) → Tree → State → (List State → List State) → Status → Step
replace ν t s p LIVE = replace_live ν s p (subtree_at s.node t)
replace ν t s p SOLVED = replace_solved t s p (link_in t s.node)

-- one step of SSS*: the state taken, replaced
abbrev pub step : (ℕ → ℕ) → Tree → List State → Step
step ν t [] = empty
step ν t (s ∷ ss) = replace ν t (best_state t s ss) (put t s ss) (best_state t s ss).status

-- an evaluation: the leaf, the merit of its state when that is taken, and how many replacements came before
pub record Evaluation : Type 0 where
  pub leaf : ℕ
  pub merit : ℕ
  pub replacements : ℕ

-- what a run gives: its value, its evaluations, in order, and how many replacements there were
pub record SssRun : Type 0 where
  pub value : ℕ
  pub evaluations : List Evaluation
  pub replacements : ℕ

-- a step after k replacements, and then the rest of the run. With no state to take, or past the bound on states taken,
-- the value is `least`, which no run on a proper tree gives: `sss-minimax` in gametree_theory/proofs/Theorems.
abbrev pub follow : Step → (k : ℕ) → (List State → SssRun) → SssRun
follow empty k rest = record { value = least; evaluations = []; replacements = k }
follow (stop v) k rest = record { value = v; evaluations = []; replacements = k }
follow (quiet M) k rest = rest M
follow (evaluating n m M) k rest =
    let x : Evaluation = record { leaf = n; merit = m; replacements = k } in
    record { value = (rest M).value; evaluations = x ∷ (rest M).evaluations; replacements = (rest M).replacements }

-- the run from a list after k replacements; the first number bounds the states taken
abbrev pub run_from : (ℕ → ℕ) → Tree → ℕ → (k : ℕ) → List State → SssRun
run_from ν t zero k L = record { value = least; evaluations = []; replacements = k }
run_from ν t (suc f) k L = follow (step ν t L) k (λ M. run_from ν t f (suc k) M)

-- the list at the start: the root, LIVE, with the greatest merit
abbrev pub start : Tree → List State
start t = live (number t) greatest ∷ []

-- SSS* on a tree. It takes at most 2 × nodes states: 2 × nodes - 1 are replaced, and the last is the root.
abbrev pub sss : (ℕ → ℕ) → Tree → SssRun
sss ν t = run_from ν t (2 * size t) 0 (start t)

-- after k replacements, which evaluated these leaves, the list is L
pub data ListAfter (ν : ℕ → ℕ) (t : Tree) : ℕ → List ℕ → List State → Type 0 where
  at_start : ListAfter ν t 0 [] (start t)
  after_quiet : {k : ℕ} {leaves : List ℕ} {L M : List State} → ListAfter ν t k leaves L → step ν t L ≡ quiet M
      → ListAfter ν t (suc k) leaves M
  after_evaluating : {k n m : ℕ} {leaves : List ℕ} {L M : List State} → ListAfter ν t k leaves L
      → step ν t L ≡ evaluating n m M → ListAfter ν t (suc k) (leaves ++ (n ∷ [])) M
