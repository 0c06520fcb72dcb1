-- The solution trees that are read off the bounds of a table, node by node: the root is in both, and whether a child is
-- in one follows from whether its parent is.
use Rattle.prelude.proofs.{ℕ, zero, suc, ◌+◌, ◌≤◌, ◌<◌, arith, dec_le, ◌≡◌, refl, sym, ap, ap₂, ◌∙◌, subst, Bool, true}
use Rattle.prelude.proofs.{false, cond, not, ◌&&◌, List, eqb, eq-eqb, ne_eqb}
use Rattle.gametree.specs.declared.Side.{Side}
use Rattle.gametree.specs.declared.Side.TheVariants.{Max, Min}
use Rattle.gametree.specs.{Tree, other, minimax, minimax_children, known, worst, same, solution_of}
use Rattle.lists.proofs.Choice.{cond_cases}
use Rattle.gametree_theory.proofs.Certificates.ReadOff.{ReadOff, ReadEach, ReadFirst, read-root, fits}
use Rattle.table.specs.{frames, first_child, child_count, next, side_of, children_from, tree_at, tree, valuation}
use Rattle.table.specs.{WellFormed}
use Rattle.table.specs.{ChildOf}
use Rattle.table.proofs.Parents.{top-down}
use Rattle.table.proofs.Trees.{zero-or-suc, tree-inner, tree-number}
use Rattle.table.proofs.Nodes.{tree-distinct}
use Rattle.certificate_flags.specs.{first_equal}
use Rattle.certificate_bounds.specs.{bound_of}
use Rattle.certificate_write.proofs.Chosen.{chosen_of}

-- the first of later numbers is no earlier one but 0
first_past : (f : ℕ → ℕ) (v j i n : ℕ) → 0 < j → j < i → j ≡ first_equal f v i n → ⊥
unfolding first_equal
first_past f v j i zero a b e = omega arith
first_past f v j i (suc n) a b e =
    cond_cases (λ x. j ≡ x → ⊥) (eqb (f i) v) i (first_equal f v (i + 1) n) (λ _ q. omega arith)
    (λ _ q. first_past f v j (i + 1) n a (omega arith) q) e

-- a number is the first one if it has the value, and else one of the later ones
first-here : (x : Bool) (i w : ℕ) → (i ≡ w → ⊥) → eqb i (cond x i w) ≡ x
first-here true i w h = eq-eqb i i refl
first-here false i w h = ne_eqb i w h

first-there : (b x : Bool) (k i w : ℕ) → (k ≡ i → ⊥) → (b && not x) && eqb k w ≡ b && eqb k (cond x i w)
first-there true true k i w h = sym (ne_eqb k i h)
first-there true false k i w h = refl
first-there false x k i w h = refl

module _ (p : Side) (μ : ℕ → ℕ) (g : ℕ → Bool) (h : ℕ → Tree) where
  -- what is read off for each child
  each-child : (b : Bool) (i n k : ℕ) → i ≤ k → k ≤ i + n → ReadEach p μ g b (children_from h i n)
      → ReadOff p μ g b (h k)
  unfolding children_from
  each-child b i zero k a c r = let e : i ≡ k = omega arith in subst (λ j. ReadOff p μ g b (h j)) e r
  each-child b i (suc n) k a c r =
      elim (dec_le k i) [
        | yes l ↦ (let e : i ≡ k = omega arith in subst (λ j. ReadOff p μ g b (h j)) e r.0)
        | no l ↦ each-child b (i + 1) n k (omega arith) (omega arith) r.1
      ]

  first_alone : (b : Bool) (v i k : ℕ) → 0 < i → i ≤ k → k ≤ i → (w : ℕ) → (i ≡ w → ⊥)
      → ReadOff p μ g (b && eqb (minimax μ (h i)) v) (h i)
      → ReadOff p μ g (b && eqb k (cond (eqb (minimax μ (h i)) v) i w)) (h k)
  first_alone b v i k z a c w d r =
      let e : i ≡ k = omega arith in
      subst (λ j. ReadOff p μ g (b && eqb j (cond (eqb (minimax μ (h i)) v) i w)) (h j)) e
      (subst (λ x. ReadOff p μ g (b && x) (h i)) (sym (first-here (eqb (minimax μ (h i)) v) i w d)) r)

  -- what is read off for the first child with the value v, and for the others
  first-child : (b : Bool) (v i n k : ℕ) → 0 < i → i ≤ k → k ≤ i + n → ReadFirst p μ g b v (children_from h i n)
      → ReadOff p μ g (b && eqb k (first_equal (λ j. minimax μ (h j)) v i (suc n))) (h k)
  unfolding children_from first_equal
  first-child b v i zero k z a c r = first_alone b v i k z a (omega arith) 0 (λ e. omega arith) r
  first-child b v i (suc n) k z a c r =
      let f : ℕ → ℕ = λ j. minimax μ (h j) in
      let w = first_equal f v (i + 1) (suc n) in
      let x = eqb (f i) v in
      elim (dec_le k i) [
        | yes l ↦ first_alone b v i k z a l w (first_past f v i (i + 1) (suc n) z (omega arith)) r.0
        | no l ↦ subst (λ y. ReadOff p μ g y (h k)) (first-there b x k i w (λ e. omega arith))
            (first-child (b && not x) v (i + 1) n k (omega arith) (omega arith) (omega arith) r.1)
      ]

-- is child k in side p's tree, where b says whether its parent is, q moves there and `chosen` is its chosen child
abbrev pub child_in : Side → Side → Bool → (chosen k : ℕ) → Bool
child_in p q b chosen k = cond (same p q) b (b && eqb k chosen)

read-child : (p q : Side) (μ : ℕ → ℕ) (g : ℕ → Bool) (h : ℕ → Tree) (b : Bool) (v i n k : ℕ) → 0 < i → i ≤ k → k ≤ i + n
    → cond (same p q) (ReadEach p μ g b (children_from h i n)) (ReadFirst p μ g b v (children_from h i n))
    → ReadOff p μ g (child_in p q b (first_equal (λ j. minimax μ (h j)) v i (suc n)) k) (h k)
read-child Max Max μ g h b v i n k z a c r = each-child Max μ g h b i n k a c r
read-child Max Min μ g h b v i n k z a c r = first-child Max μ g h b v i n k z a c r
read-child Min Max μ g h b v i n k z a c r = first-child Min μ g h b v i n k z a c r
read-child Min Min μ g h b v i n k z a c r = each-child Min μ g h b i n k a c r

-- in the side's own tree no child is chosen, and the other side's bounds choose
choose-other : (p q : Side) (b : Bool) (c : ℕ → ℕ) (k : ℕ)
    → child_in p q b (c (worst (other p))) k ≡ child_in p q b (c (worst q)) k
choose-other Max Max b c k = refl
choose-other Max Min b c k = refl
choose-other Min Max b c k = refl
choose-other Min Min b c k = refl

module _ (t : List ℕ) (wf : WellFormed t) (E : ℕ → Bool) (p : Side) where
  -- side p's solution tree
  abbrev pub solution : ℕ → Bool
  solution k = solution_of p (valuation t) E (tree t) k

  -- the valuation that it is read off
  abbrev bounds : ℕ → ℕ
  bounds = known (valuation t) E (worst (other p))

  abbrev ReadAt : ℕ → Bool → Type 0
  ReadAt i b = ReadOff p bounds solution b (tree_at t i)

  read_at : (i : ℕ) (b : Bool) → ReadAt i b → solution i ≡ b
  read_at i b r = subst (λ j. solution j ≡ b) (tree-number t i) (read-root p bounds solution b (tree_at t i) r)

  read-tree : ReadAt 0 true
  read-tree = fits p bounds solution (tree t) (tree-distinct t wf 0 wf.non_empty) (λ k i. refl)

  -- the root is in it
  pub solution-root : solution 0 ≡ true
  solution-root = read_at 0 true read-tree

  read_below : (i k : ℕ) → i < frames t → ChildOf t i k → ReadAt i (solution i)
      → ReadAt k (child_in p (side_of t i) (solution i) (chosen_of t E (side_of t i) i) k)
  unfolding chosen_of
  read_below i k h d r =
      let q = side_of t i in
      let c : ℕ → ℕ = λ x. first_equal (bound_of t E x) (bound_of t E x i) (next t i) (child_count t i) in
      zero-or-suc (child_count t i) (λ e. absurd (omega (arith, d.from, d.to))) (λ n e.
      let s = tree-inner t wf i n h e in
      let f = first_equal (bound_of t E (worst (other p))) in
      let v = minimax_children bounds q (children_from (tree_at t) (first_child t i) n) in
      let x : f v (first_child t i) (suc n) ≡ c (worst (other p)) =
      ap₂ (f v) (wf.first i h (omega arith)) (sym e)
      ∙ ap (λ y. f (minimax bounds y) (next t i) (child_count t i)) (sym s) in
      subst (ReadAt k) (ap (λ y. child_in p q (solution i) y k) x ∙ choose-other p q (solution i) c k)
      (read-child p q bounds solution (tree_at t) (solution i) v (first_child t i) n k
      (omega (arith, wf.later i h (omega arith))) d.from (omega (arith, d.to)) (rw s at r).1))

  read_all : (i : ℕ) → i < frames t → ReadAt i (solution i)
  read_all =
      top-down t wf (λ i. ReadAt i (solution i)) (subst (ReadAt 0) (sym solution-root) read-tree)
      (λ i k h d r. let x = read_below i k h d r in subst (ReadAt k) (sym (read_at k _ x)) x)

  -- a child is in it if its parent is, and if the side itself moves there or the child is the chosen one
  pub solution-child : (i k : ℕ) → i < frames t → ChildOf t i k
      → solution k ≡ child_in p (side_of t i) (solution i) (chosen_of t E (side_of t i) i) k
  solution-child i k h d = read_at k _ (read_below i k h d (read_all i h))
