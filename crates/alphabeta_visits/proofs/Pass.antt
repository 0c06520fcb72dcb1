-- The pass over the children of a node: before each child, what the children that are left give from the present window
-- completes what the node was to give.
use Rattle.prelude.proofs.{ℕ, suc, ◌+◌, ◌-◌, ◌≤◌, ◌<◌, arith, ◌≡◌, refl, sym, ap, ◌∙◌, Bool, true, false, ltb, lt-ltb}
use Rattle.prelude.proofs.{le-ltb}
use Rattle.gametree.specs.declared.Side.{Side}
use Rattle.gametree.specs.{Tree, raise, lower, SearchResult, after, onward, alpha_beta, alpha_beta_children}
use Rattle.table.specs.{children_from}
use Rattle.certificate_bounds.specs.{Progress, evaluate_all}
use Rattle.certificate_bounds.proofs.Listing.{evaluate_all-append}

-- the score v and the progress p' are what the result f gives, from the progress p
abbrev pub Gives : SearchResult → (p p' : Progress) → ℕ → Type 0
Gives f p p' v = (v ≡ f.value) × (p' ≡ evaluate_all p f.evaluated)

-- with a progress that was p₀ and is p, the rest completes the whole
pub record Remainder (whole rest : SearchResult) (p₀ p : Progress) : Type 0 where
  pub value : rest.value ≡ whole.value
  pub evaluated : evaluate_all p rest.evaluated ≡ evaluate_all p₀ whole.evaluated

-- before the first child all is owed
pub remainder-all : (f : SearchResult) (p : Progress) → Remainder f f p p
remainder-all f p = record { value = refl; evaluated = refl }

module _ (w f : SearchResult) (p₀ p p' : Progress) (v : ℕ) (d : Gives f p p' v) where
  -- the last result that is owed completes the whole
  remainder-done : Remainder w f p₀ p → Gives w p₀ p' v
  remainder-done o = (d.0 ∙ o.value, d.1 ∙ o.evaluated)

  -- a result with more behind it leaves the rest owed
  remainder-after : (q : SearchResult) → Remainder w (after f q) p₀ p → Remainder w q p₀ p'
  remainder-after q o =
      record {
        value = o.value;
        evaluated =
            ap (λ x. evaluate_all x q.evaluated) d.1 ∙ sym (evaluate_all-append p f.evaluated q.evaluated)
            ∙ o.evaluated;
      }

module _ (ν : ℕ → ℕ) (g : ℕ → Tree) (s : Side) where
  -- what the children from k to m give, from the window a b
  unfoldable pub rest : ℕ → ℕ → ℕ → ℕ → SearchResult
  rest a b k m = alpha_beta_children ν s a b (children_from g k (m - k))

  -- the last child alone is left
  rest-last : (a b k m : ℕ) → k ≡ m → rest a b k m ≡ alpha_beta ν a b (g k)
  unfolding rest children_from
  rest-last a b k m e = let z : m - k ≡ 0 = omega arith in rw z

  -- a child with others behind it: the pass goes on if it leaves the window open
  rest_more : (a b k m : ℕ) → k < m → (v : ℕ) → v ≡ (alpha_beta ν a b (g k)).value
      → rest a b k m
      ≡ onward (ltb (raise s a v) (lower s b v)) (alpha_beta ν a b (g k)) (rest (raise s a v) (lower s b v) (k + 1) m)
  unfolding rest children_from
  rest_more a b k m h v e = let z : m - k ≡ suc (m - (k + 1)) = omega arith in rw (z, e)

  module _ (a b k m : ℕ) {w : SearchResult} {p₀ p p' : Progress} {v : ℕ}
      (o : Remainder w (rest a b k m) p₀ p) (d : Gives (alpha_beta ν a b (g k)) p p' v) where
    -- after the last child the whole is given
    pub pass-ends : k ≡ m → Gives w p₀ p' v
    pass-ends h = remainder-done w _ p₀ p p' v d (rw (rest-last a b k m h) at o)

    module _ (a' b' : ℕ) (h : k < m) (x : a' ≡ raise s a v) (y : b' ≡ lower s b v) where
      step : (t : Bool) → ltb a' b' ≡ t → rest a b k m ≡ onward t (alpha_beta ν a b (g k)) (rest a' b' (k + 1) m)
      step t z = rest_more a b k m h v d.0 ∙ rw (← z, x, y)

      -- a child that closes the window is the last one
      pub pass-stops : b' ≤ a' → Gives w p₀ p' v
      pass-stops z = remainder-done w _ p₀ p p' v d (rw (step false (le-ltb a' b' z)) at o)

      -- after one that leaves it open the next is owed, in the narrower window
      pub pass-goes-on : a' < b' → Remainder w (rest a' b' (k + 1) m) p₀ p'
      pass-goes-on z = remainder-after w _ p₀ p p' v d _ (rw (step true (lt-ltb a' b' z)) at o)
