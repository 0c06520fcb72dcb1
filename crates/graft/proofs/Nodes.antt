-- A node over the trees of consecutive numbers: other numbers, and the same trees elsewhere.
use Rattle.prelude.proofs.{ℕ, zero, suc, ◌+◌, ◌≤◌, ◌<◌, arith, ◌≡◌, refl, ap, ap₂, ◌∙◌, List, [], ◌∷◌, map, ne_eqb}
use Rattle.lists.specs.{All}
use Rattle.gametree.specs.declared.Side.{Side}
use Rattle.gametree.specs.{Tree, inner, last, ◌then◌, size, size_children, grafted, grafted_children, relabelled}
use Rattle.gametree.specs.{relabelled_children}
use Rattle.gametree_theory.proofs.Minimax.Nodes.{size-then}
use Rattle.table.specs.{up_from, children_from, node}
use Rattle.graft.proofs.Listing.{weight}

-- the same trees from another number on
kids-shifted : (g h : ℕ → Tree) (i j n : ℕ) → ((m : ℕ) → m ≤ n → g (i + m) ≡ h (j + m))
    → children_from g i n ≡ children_from h j n
unfolding children_from
kids-shifted g h i j zero e =
    let a : i + 0 ≡ i = omega arith in
    let b : j + 0 ≡ j = omega arith in
    ap last (rw (a, b) at (e 0 (omega arith)))
kids-shifted g h i j (suc n) e =
    let a : i + 0 ≡ i = omega arith in
    let b : j + 0 ≡ j = omega arith in
    ap₂ ◌then◌ (rw (a, b) at (e 0 (omega arith)))
    (kids-shifted g h (i + 1) (j + 1) n (λ m l.
    let c : i + 1 + m ≡ i + suc m = omega arith in
    let d : j + 1 + m ≡ j + suc m = omega arith in
    rw (c, d) (e (suc m) (omega arith))))

pub node-shifted : (s : Side) (g h : ℕ → Tree) (x i j n : ℕ) → ((m : ℕ) → m < n → g (i + m) ≡ h (j + m))
    → node x s g i n ≡ node x s h j n
node-shifted s g h x i j zero e = refl
node-shifted s g h x i j (suc n) e = ap (inner x s) (kids-shifted g h i j n (λ m l. e m (omega arith)))

-- a node with other numbers
relabelled-kids : (f : ℕ → ℕ) (g : ℕ → Tree) (i n : ℕ)
    → relabelled_children f (children_from g i n) ≡ children_from (λ c. relabelled f (g c)) i n
unfolding children_from
relabelled-kids f g i zero = refl
relabelled-kids f g i (suc n) = ap (λ ks. relabelled f (g i) then ks) (relabelled-kids f g (i + 1) n)

pub relabelled-node : (f : ℕ → ℕ) (x : ℕ) (s : Side) (g : ℕ → Tree) (i n : ℕ)
    → relabelled f (node x s g i n) ≡ node (f x) s (λ c. relabelled f (g c)) i n
relabelled-node f x s g i zero = refl
relabelled-node f x s g i (suc n) = ap (inner (f x) s) (relabelled-kids f g i n)

-- a node other than the leaf k, with a tree in the place of that leaf
grafted-kids : (k : ℕ) (v : Tree) (g : ℕ → Tree) (i n : ℕ)
    → grafted_children k v (children_from g i n) ≡ children_from (λ c. grafted k v (g c)) i n
unfolding children_from
grafted-kids k v g i zero = refl
grafted-kids k v g i (suc n) = ap (λ ks. grafted k v (g i) then ks) (grafted-kids k v g (i + 1) n)

pub grafted-node : (k : ℕ) (v : Tree) (x : ℕ) (s : Side) (g : ℕ → Tree) (i n : ℕ) → (x ≡ k → ⊥)
    → grafted k v (node x s g i n) ≡ node x s (λ c. grafted k v (g c)) i n
grafted-node k v x s g i zero h = rw (ne_eqb x k h)
grafted-node k v x s g i (suc n) h = ap (inner x s) (grafted-kids k v g i n)

-- its size: 1 and the sizes of the trees below
kids-size : (g : ℕ → Tree) (i n : ℕ) → size_children (children_from g i n)
    ≡ weight (λ c. size (g c)) (up_from i (suc n))
unfolding children_from up_from
kids-size g i zero = omega arith
kids-size g i (suc n) =
    size-then (g i) (children_from g (i + 1) n) ∙ ap (λ x. size (g i) + x) (kids-size g (i + 1) n)

pub node-size : (x : ℕ) (s : Side) (g : ℕ → Tree) (i n : ℕ)
    → size (node x s g i n) ≡ 1 + weight (λ c. size (g c)) (up_from i n)
unfolding up_from
node-size x s g i zero = refl
node-size x s g i (suc n) = omega (arith, kids-size g i n)

-- consecutive numbers, each replaced elsewhere
pub weight-map : (W f : ℕ → ℕ) (l : List ℕ) → weight W (map f l) ≡ weight (λ c. W (f c)) l
weight-map W f [] = refl
weight-map W f (s ∷ l) = ap (λ x. W (f s) + x) (weight-map W f l)

pub all_up : (P : ℕ → Type 0) (f : ℕ → ℕ) (i n : ℕ) → ((m : ℕ) → m < n → P (f (i + m))) → All P (map f (up_from i n))
unfolding up_from
all_up P f i zero h = tt
all_up P f i (suc n) h =
    let a : i + 0 ≡ i = omega arith in (
      rw a at (h 0 (omega arith)),
      all_up P f (i + 1) n (λ m l. let e : i + 1 + m ≡ i + suc m = omega arith in rw e (h (suc m) (omega arith))),
    )
