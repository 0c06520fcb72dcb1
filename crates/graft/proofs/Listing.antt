-- A tree listed in breadth-first order. What waits after i nodes, the known nodes from the i-th on, weighs the tree
-- without i nodes; so the list ends after as many nodes as the tree has, and each node finds its children next in line.
use Rattle.prelude.proofs.{ℕ, zero, suc, ◌+◌, ◌-◌, ◌≤◌, ◌<◌, arith, dec_le, dec_lt, add-one, ◌≡◌, refl, ap, ◌∙◌}
use Rattle.prelude.proofs.{List, []}
use Rattle.prelude.proofs.{◌∷◌, ◌++◌, length, get_or, drop, length-append, length-drop, drop_of_length-le}
use Rattle.prelude.proofs.{get_or-append, drop-cons, drop-append-le, get_or-append-add}
use Rattle.lists.specs.{All}
use Rattle.lists.proofs.Lists.{all_append}
use Rattle.graft.specs.{breadth_first}

-- the sum of W over a list
abbrev pub weight : (ℕ → ℕ) → List ℕ → ℕ
weight W [] = 0
weight W (s ∷ l) = W s + weight W l

weight-append : (W : ℕ → ℕ) (l m : List ℕ) → weight W (l ++ m) ≡ weight W l + weight W m
weight-append W [] m = omega arith
weight-append W (s ∷ l) m = omega (arith, weight-append W l m)

-- a list of which each element weighs at least 1 weighs its length or more
weight-length : (W : ℕ → ℕ) (l : List ℕ) → All (λ s. 1 ≤ W s) l → length l ≤ weight W l
weight-length W [] a = omega arith
weight-length W (s ∷ l) a = omega (arith, weight-length W l a.1)

-- what holds of each element of a list holds of one and of those from one on
all-at {ℓ} : (P : ℕ → Type ℓ) (l : List ℕ) → All P l → (i : ℕ) → i < length l → P (get_or l i 0)
all-at P [] a i h = absurd (omega arith)
all-at P (s ∷ l) a zero h = a.0
all-at P (s ∷ l) a (suc i) h = all-at P l a.1 i (omega arith)

all_drop {ℓ} : (P : ℕ → Type ℓ) (i : ℕ) (l : List ℕ) → All P l → All P (drop i l)
all_drop P zero l a = a
all_drop P (suc i) [] a = tt
all_drop P (suc i) (s ∷ l) a = all_drop P i l a.1

-- the children of each node of a kind are of it, and a node weighs 1 and its children
pub record Weighs (D : ℕ → Type 0) (children : ℕ → List ℕ) (W : ℕ → ℕ) (root : ℕ) : Type 0 where
  pub start : D root
  pub below : (s : ℕ) → D s → All D (children s)
  pub weighs : (s : ℕ) → D s → W s ≡ 1 + weight W (children s)

module _ (children : ℕ → List ℕ) (root : ℕ) where
  abbrev L : ℕ → List ℕ
  L i = breadth_first children root i

  abbrev σ : ℕ → ℕ
  σ i = get_or (L i) i 0

  -- after one node more its children are known
  list-more : (i : ℕ) → L (i + 1) ≡ L i ++ children (σ i)
  unfolding breadth_first
  list-more i = rw (add-one i)

  pub length_more : (i : ℕ) → length (L (i + 1)) ≡ length (L i) + length (children (σ i))
  length_more i = ap length (list-more i) ∙ length-append (L i) (children (σ i))

  -- what is known stays known
  pub list-kept : (i m j : ℕ) → i ≤ m → j < length (L i)
      → (length (L i) ≤ length (L m)) × (get_or (L m) j 0 ≡ get_or (L i) j 0)
  unfolding breadth_first
  list-kept i zero j h l = let e : i ≡ 0 = omega arith in rw e (omega arith, refl)
  list-kept i (suc m) j h l =
      elim (dec_le i m) [
        | yes p ↦ (let r = list-kept i m j p l in (
          omega (arith, r.0, length-append (L m) (children (σ m))),
          get_or-append (L m) (children (σ m)) 0 j (omega (arith, r.0)) ∙ r.1,
        ))
        | no p ↦ (let e : i ≡ suc m = omega arith in rw e (omega arith, refl))
      ]

  -- a node's children stand in line where the list ended before them
  pub list-child : (i m j : ℕ) → i < m → j < length (children (σ i))
      → get_or (L m) (length (L i) + j) 0 ≡ get_or (children (σ i)) j 0
  list-child i m j h l =
      (list-kept (i + 1) m (length (L i) + j) (omega arith) (omega (arith, length_more i))).1
      ∙ ap (λ x. get_or x (length (L i) + j) 0) (list-more i)
      ∙ get_or-append-add (L i) (children (σ i)) j 0

  module _ (D : ℕ → Type 0) (W : ℕ → ℕ) (w : Weighs D children W root) where
    -- after i nodes
    record Unvisited (i : ℕ) : Type 0 where
      all : All D (L i)
      left : weight W (drop i (L i)) + i ≡ W root

    unvisited-in : (i : ℕ) → Unvisited i → i < W root → i < length (L i)
    unvisited-in i a h =
        elim (dec_lt i (length (L i))) [
          | yes l ↦ l
          | no l ↦ absurd (omega (arith, ap (weight W) (drop_of_length-le (L i) {i = i} (omega arith)), a.left))
        ]

    unvisited-all : (i : ℕ) → i ≤ W root → Unvisited i
    unfolding breadth_first
    unvisited-all zero h = record { all = (w.start, tt); left = omega arith }
    unvisited-all (suc i) h =
        let a = unvisited-all i (omega arith) in
        let l = unvisited-in i a (omega arith) in
        let d = all-at D (L i) a.all i l in
        let e : weight W (drop i (L i)) ≡ W (σ i) + weight W (drop (suc i) (L i)) = ap (weight W)
        (drop-cons (L i) i 0 l) in
        let f : weight W (drop (suc i) (L i ++ children (σ i)))
        ≡ weight W (drop (suc i) (L i)) + weight W (children (σ i)) =
        ap (weight W) (drop-append-le (suc i) (L i) (children (σ i)) (omega arith))
        ∙ weight-append W (drop (suc i) (L i)) (children (σ i)) in
        record {
          all = all_append D (L i) (children (σ i)) a.all (w.below (σ i) d);
          left = omega (arith, a.left, w.weighs (σ i) d);
        }

    -- while nodes of the tree are left, one waits
    pub waits : (i : ℕ) → i < W root → i < length (L i)
    waits i h = unvisited-in i (unvisited-all i (omega arith)) h

    -- each is of the kind
    pub kind : (i : ℕ) → i < W root → D (σ i)
    kind i h = all-at D (L i) (unvisited-all i (omega arith)).all i (waits i h)

    -- after as many nodes as the tree has, as many are known
    pub list_all : length (L (W root)) ≡ W root
    list_all =
        let a = unvisited-all (W root) (omega arith) in
        let n : 1 ≤ W root = omega (arith, w.weighs root w.start) in
        let v = waits (W root - 1) (omega arith) in
        let e : W root - 1 + 1 ≡ W root = omega arith in
        let k = (list-kept (W root - 1) (W root) 0 (omega arith) (omega arith)).0 in
        let b = weight-length W (drop (W root) (L (W root)))
        (all_drop (λ s. 1 ≤ W s) (W root) (L (W root)) (all-light (L (W root)) a.all)) in
        omega (arith, a.left, length-drop (W root) (L (W root)))
      where
        all-light : (l : List ℕ) → All D l → All (λ s. 1 ≤ W s) l
        all-light [] x = tt
        all-light (s ∷ l) x = (omega (arith, w.weighs s x.0), all-light l x.1)
