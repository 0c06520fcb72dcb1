-- The loops over the front: the leftmost best of some children, the fall, and the way down.
use Rattle.prelude.proofs.{ℕ, zero, suc, ◌+◌, ◌-◌, ◌*◌, ◌/◌, ◌≤◌, ◌<◌, arith, dec_le, ◌≡◌, refl, sym, ◌∙◌, ap, inl, inr}
use Rattle.prelude.proofs.{List, [], ◌∷◌, ◌⊎◌, max, leb, length, get_or, eq-eqb, ne_eqb, lt-ltb, lt-leb, le-leb}
use Rattle.std.specs.List.{between, fold, position, position_or_len}
use Rattle.std.specs.Option.{unwrap_or}
use Rattle.std.proofs.lemmas.List.Edits.{length-between, get_or-between}
use Rattle.std.proofs.lemmas.List.Sums.{position_or_len_is}
use Rattle.table.specs.{max_nodes, frames, WellFormed}
use Rattle.table.proofs.Next.{child-within, child-later}
use Rattle.sss_states.specs.{best_at, link_at, leftmost_best, descended, Sound, Fits}
use Rattle.sss_states.proofs.Ways.{leftmost-is}

-- a number that no entry of a list exceeds, and that an entry reaches or that is a
pub record Greatest (a : ℕ) (xs : List ℕ) (v : ℕ) : Type 0 where
  pub from : a ≤ v
  pub at_most : (k : ℕ) → k < length xs → get_or xs k 0 ≤ v
  pub attained : (v ≡ a) ⊎ ((k : ℕ) × (k < length xs) × (v ≡ get_or xs k 0))

greatest-is : (a : ℕ) (xs : List ℕ) → Greatest a xs (fold max a xs)
greatest-is a [] = record { from = omega arith; at_most = λ k h. absurd (omega arith); attained = inl refl }
greatest-is a (x ∷ xs) =
    let g = greatest-is (max a x) xs in
    record {
      from = omega (arith, g.from);
      at_most = by_place (omega (arith, g.from)) g.at_most;
      attained = elim g.attained [
        | inr o ↦ inr (suc o.0, omega (arith, o.1), o.2)
        | inl e ↦ elim (dec_le x a) [
          | yes l ↦ inl (omega arith)
          | no l ↦ inr (0, omega arith, omega arith)
        ]
      ];
    }
  where
    by_place : {v : ℕ} → x ≤ v → ((k : ℕ) → k < length xs → get_or xs k 0 ≤ v) → (k : ℕ) → k < length (x ∷ xs)
        → get_or (x ∷ xs) k 0 ≤ v
    by_place i f zero h = i
    by_place i f (suc k) h = f k (omega arith)

-- the first of some children with the merit of the greatest entry is the leftmost best
pub first-best : (w : List ℕ) (first count : ℕ) → 0 < count → first + count ≤ length w
    → first + unwrap_or (position (leb (fold max 0 (between first (first + count) w) / max_nodes * max_nodes))
    (between first (first + count) w)) 0 ≡ leftmost_best w first (count - 1)
first-best w first count h l =
    let xs = between first (first + count) w in
    let long : length xs ≡ count = omega (arith, length-between w first (first + count) l) in
    let g = greatest-is 0 xs in
    let v = fold max 0 xs in
    let m = leftmost-is w first (count - 1) in
    let c = leftmost_best w first (count - 1) in
    let entry : (k : ℕ) → k < count → get_or xs k 0 ≡ get_or w (first + k) 0 =
    λ k q. get_or-between w first (first + count) k 0 (omega arith) in
    let top : v / max_nodes ≤ best_at w c = elim g.attained [
      | inl e ↦ omega arith
      | inr o ↦ (let b = m.greatest (first + o.0) (omega arith) (omega (arith, o.1)) in
          omega (arith, o.2, entry o.0 (omega (arith, o.1))))
    ] in
    let here : first + (c - first) ≡ c = omega (arith, m.from) in
    let best : get_or xs (c - first) 0 ≡ get_or w c 0 =
    entry (c - first) (omega (arith, m.to)) ∙ ap (λ i. get_or w i 0) here in
    let p : position_or_len (leb (v / max_nodes * max_nodes)) xs ≡ c - first =
    position_or_len_is (leb (v / max_nodes * max_nodes)) xs (c - first) 0 (omega (arith, m.to))
    (λ k q. let b = m.leftmost (first + k) (omega arith) (omega arith) in
    let t = g.at_most (c - first) (omega (arith, m.to)) in
    lt-leb _ _ (omega (arith, best, entry k (omega (arith, m.to)))))
    (λ q. le-leb _ _ (omega (arith, best, top))) in
    rw (p, lt-ltb (c - first) (length xs) (omega (arith, m.to))) here

-- on the way down from a node, `at` is reached
pub record Descending (t F w : List ℕ) (node at : ℕ) : Type 0 where
  pub fits : Fits t F w
  pub inside : at < frames t
  pub same : descended (frames t - at) w at ≡ descended (frames t - node) w node

descended-enough : (t w : List ℕ) (wf : WellFormed t) (o : Sound t w) (f g k : ℕ) → k < frames t → frames t ≤ k + f
    → frames t ≤ k + g → descended f w k ≡ descended g w k
unfolding descended
descended-enough t w wf o zero g k h a b = absurd (omega arith)
descended-enough t w wf o (suc f) zero k h a b = absurd (omega arith)
descended-enough t w wf o (suc f) (suc g) k h a b =
    elim (o.links k h) [
      | inl z ↦ rw (eq-eqb (link_at w k) 0 z)
      | inr c ↦ (let l = child-later t wf h c in
          rw (ne_eqb (link_at w k) 0 (λ z. omega arith))
          (descended-enough t w wf o f g (link_at w k) (child-within t wf h c) (omega arith) (omega arith)))
    ]

module _ {t F w : List ℕ} {node at : ℕ} (d : Descending t F w node at) where
  descended-here : descended (frames t - at) w at ≡ descended (suc (frames t - at - 1)) w at
  descended-here = ap (λ x. descended x w at) (omega (arith, d.inside))

  module _ {child : ℕ} (is : (child ≡ link_at w at) × (0 < child)) where
    -- a child to go down to is a larger node of the table
    pub descend-room : (at < child) × (child < frames t)
    descend-room =
        elim (d.fits.sound.links at d.inside) [
          | inl z ↦ absurd (omega (arith, is.0, is.1))
          | inr c ↦ (let wf = d.fits.formed in
              rw is.0 (child-later t wf d.inside c, child-within t wf d.inside c))
        ]

    -- a step down
    pub descend-on : Descending t F w node child
    unfolding descended
    descend-on =
        let r = descend-room in
        let down : descended (frames t - at) w at ≡ descended (frames t - child) w child =
        descended-here ∙ rw (← is.0, ne_eqb child 0 (λ z. omega (arith, is.1))) (descended-enough t w d.fits.formed
        d.fits.sound (frames t - at - 1) (frames t - child) child r.1 (omega (arith, r.0)) (omega arith)) in
        record { fits = d.fits; inside = r.1; same = sym down ∙ d.same }

  -- the end
  pub descend-end : link_at w at ≡ 0 → at ≡ descended (frames t - node) w node
  unfolding descended
  descend-end z = sym (descended-here ∙ rw (eq-eqb (link_at w at) 0 z)) ∙ d.same
