-- What score would save it (02: N10), sentence by sentence, over the definition that the contract of the call cites.
-- The table is t, the named node k, the wanted root value w; a leaf's value is an integer from -32,000 to 32,000, and
-- `root_value t k v` is the root's value where the leaf k holds v and each other leaf what it holds in t. "The call
-- gives the smallest leaf value .. that makes the root's value exactly the wanted one": `smallest-value` in
-- Sentences.antt.
use Rattle.prelude.proofs.{ℕ, ◌≤◌, ◌<◌, ◌≡◌, ◌∙◌, ◌⊎◌, none, some, List, ℤ, nat_abs, lt-leb, Ok, Err}
use Rattle.lists.proofs.Choice.{is_false}
use Rattle.gametree.specs.{minimax}
use Rattle.table.specs.declared.Rejection.{Rejection}
use Rattle.table.specs.{tree, valuation, value_of, max_value, rejection, Accepted, Leaf}
use Rattle.leaf_value.specs.{value_rejection, least_value, root_value, SameBut, held_value}
use Rattle.leaf_value.proofs.Questions.{table-refused, table-accepted, no-leaf, out_of_range, first-no}
use Rattle.leaf_value.proofs.Theorems.{leaf-test, test-leaf, value-exists, none-exists, only_none}
use Rattle.leaf_value.proofs.Influence.{value-held, same_answer}

module _ (t : List ℕ) (k : ℕ) (w : ℤ) where
  module _ (a : Accepted t) (l : Leaf t k) (r : nat_abs w ≤ max_value) where
    -- where some value does, one is given
    pub value-given : (u : ℤ) → nat_abs u ≤ max_value → root_value t k u ≡ w → (v : ℤ) × (least_value t k w ≡ Ok v)
    value-given = value-exists t k w (record { accepted = a; leaf = l; ranged = r })

    -- "None is answered exactly if no such value exists", "none, 21, place the leaf"
    pub none-answered : ((u : ℤ) → nat_abs u ≤ max_value → root_value t k u ≡ w → ⊥)
        → least_value t k w ≡ Err (record { number = 21; place = k })
    none-answered = none-exists t k w (record { accepted = a; leaf = l; ranged = r })

  pub none_only : Accepted t → (p : ℕ) → least_value t k w ≡ Err (record { number = 21; place = p })
      → (p ≡ k) × Leaf t k × (nat_abs w ≤ max_value) × ((u : ℤ) → nat_abs u ≤ max_value → root_value t k u ≡ w → ⊥)
  none_only = only_none t k w

  -- "Turned away, asked in this order after 9"
  pub table-in-turn : (r : Rejection) → rejection t ≡ some r → least_value t k w ≡ Err r
  table-in-turn = table-refused t k w

  -- "the named node is no leaf, 19, place the node as named"
  pub no-leaf-named : Accepted t → (Leaf t k → ⊥) → least_value t k w ≡ Err (record { number = 19; place = k })
  no-leaf-named a f = table-accepted t k w a ∙ no-leaf t k w (is_false _ (λ e. f (test-leaf t k e)))

  -- "the wanted value is outside -32,000 to 32,000, 20, place 0"
  pub wanted-outside : Accepted t → Leaf t k → max_value < nat_abs w
      → least_value t k w ≡ Err (record { number = 20; place = 0 })
  wanted-outside a l h =
      table-accepted t k w a ∙ out_of_range t k w (leaf-test t k l) (lt-leb (nat_abs w) max_value h)

  -- demand 1: a refusal is the first "no" to 1 to 9, 19 and 20, or, where these have none, 21 at the leaf
  pub first-least-value : (r : Rejection) → least_value t k w ≡ Err r
      → (value_rejection t k w ≡ some r) ⊎ ((value_rejection t k w ≡ none) × (r ≡ record { number = 21; place = k }))
  first-least-value = first-no t k w

module _ (t u : List ℕ) (k : ℕ) (s : SameBut t u k) (a : Accepted t) (b : Accepted u) where
  -- `root_value` is what it says: a table that holds v at the leaf, and otherwise what t holds, has that minimax value
  pub held-value : Leaf t k → value_of (minimax (valuation u) (tree u)) ≡ root_value t k (held_value u k)
  held-value = value-held t u k s a b

  -- "What the leaf held before has no influence once question 7 has passed it"
  pub no-influence : (w : ℤ) → least_value t k w ≡ least_value u k w
  no-influence = same_answer t u k s a b
