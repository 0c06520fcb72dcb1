-- Scores that rise in blocks from left to right at Max and fall at Min (02: the dearest filling). Every leaf's score is
-- another one, the score of a node lies in its block, and so no window ever closes: alpha-beta reaches every leaf.
use Rattle.prelude.proofs.{ℕ, ◌+◌, ◌≤◌, ◌<◌, arith, dec_lt, ◌≡◌, refl, sym, ◌∙◌, ap₂, ◌⊎◌, inl, inr, true, false, ◌++◌}
use Rattle.prelude.proofs.{eqb, length, length-append, lt-ltb, eqb-true}
use Rattle.lists.specs.{among}
use Rattle.lists.proofs.Choice.{true-not-false, or_cases}
use Rattle.lists.proofs.Lists.{among-append}
use Rattle.gametree.specs.declared.Side.{Side}
use Rattle.gametree.specs.declared.Side.TheVariants.{Max, Min}
use Rattle.gametree.specs.{Tree, leaf, inner, Children, last, ◌then◌, better, minimax, minimax_children, leaves}
use Rattle.gametree.specs.{leaves_children, EveryLeaf, EveryLeafChildren, raise, lower, reached, reached_children}

-- how many leaves there are
abbrev pub total : Tree → ℕ
total t = length (leaves t)

abbrev pub total_children : Children → ℕ
total_children ks = length (leaves_children ks)

-- where the blocks of a child and of its younger siblings begin: rising at Max, falling at Min
abbrev pub elder_from : Side → (b younger : ℕ) → ℕ
elder_from Max b younger = b
elder_from Min b younger = b + younger

abbrev pub younger_from : Side → (b elder : ℕ) → ℕ
younger_from Max b elder = b + elder
younger_from Min b elder = b

-- the scores of the leaves are the numbers from b on, in blocks
abbrev mutual
  pub Blocks : (ℕ → ℕ) → ℕ → Tree → Type 0
  Blocks ν b (leaf n) = ν n ≡ b
  Blocks ν b (inner n s ks) = BlocksChildren ν s b ks

  pub BlocksChildren : (ℕ → ℕ) → Side → ℕ → Children → Type 0
  BlocksChildren ν s b (last t) = Blocks ν b t
  BlocksChildren ν s b (t then ts) =
      Blocks ν (elder_from s b (total_children ts)) t × BlocksChildren ν s (younger_from s b (total t)) ts

-- the leaves of a child and of its younger siblings, together
total-then : (t : Tree) (ts : Children) → total_children (t then ts) ≡ total t + total_children ts
total-then t ts = length-append (leaves t) (leaves_children ts)

mutual
  -- the same scores, z more each, fill the blocks that begin z later
  pub blocks_more : (ν μ : ℕ → ℕ) (z b : ℕ) (t : Tree) → EveryLeaf (λ n. μ n ≡ ν n + z) t → Blocks ν b t
      → Blocks μ (b + z) t
  blocks_more ν μ z b (leaf n) e f = omega arith
  blocks_more ν μ z b (inner n s ks) e f = blocks_children-more ν μ z s b ks e f

  pub blocks_children-more : (ν μ : ℕ → ℕ) (z : ℕ) (s : Side) (b : ℕ) (ks : Children)
      → EveryLeafChildren (λ n. μ n ≡ ν n + z) ks
      → BlocksChildren ν s b ks → BlocksChildren μ s (b + z) ks
  blocks_children-more ν μ z s b (last t) e f = blocks_more ν μ z b t e f
  blocks_children-more ν μ z Max b (t then ts) e f = (
    blocks_more ν μ z b t e.0 f.0,
    (let q : b + z + total t ≡ b + total t + z = omega arith in
        rw q (blocks_children-more ν μ z Max (b + total t) ts e.1 f.1)),
  )
  blocks_children-more ν μ z Min b (t then ts) e f = (
    (let q : b + z + total_children ts ≡ b + total_children ts + z = omega arith in
        rw q (blocks_more ν μ z (b + total_children ts) t e.0 f.0)),
    blocks_children-more ν μ z Min b ts e.1 f.1,
  )

-- both blocks lie within the whole, and one behind the other: where one ends the other begins
within : (s : Side) (b m n x : ℕ) → (elder_from s b n ≤ x) × (x < elder_from s b n + m) → (b ≤ x) × (x < b + (m + n))
within Max b m n x h = (omega arith, omega arith)
within Min b m n x h = (omega arith, omega arith)

within-younger : (s : Side) (b m n x : ℕ) → (younger_from s b m ≤ x) × (x < younger_from s b m + n)
    → (b ≤ x) × (x < b + (m + n))
within-younger Max b m n x h = (omega arith, omega arith)
within-younger Min b m n x h = (omega arith, omega arith)

apart : (s : Side) (b m n x y : ℕ) → (elder_from s b n ≤ x) × (x < elder_from s b n + m)
    → (younger_from s b m ≤ y) × (y < younger_from s b m + n) → x ≡ y → ⊥
apart Max b m n x y h k e = omega arith
apart Min b m n x y h k e = omega arith

-- a leaf is one of a child's, or of its younger siblings'
pub leaf-cases : (t : Tree) (ts : Children) (x : ℕ) → among (leaves_children (t then ts)) x ≡ true
    → (among (leaves t) x ≡ true) ⊎ (among (leaves_children ts) x ≡ true)
leaf-cases t ts x h =
    or_cases (among (leaves t) x) (among (leaves_children ts) x)
    (sym (among-append (leaves t) (leaves_children ts) x) ∙ h)

single : (x n : ℕ) → among (leaves (leaf n)) x ≡ true → x ≡ n
single x n h = elim (or_cases (eqb x n) false h) [
  | inl e ↦ eqb-true x n e
  | inr e ↦ absurd (true-not-false e refl)
]

mutual
  -- a leaf's score is within the block
  pub blocks_at : (ν : ℕ → ℕ) (b : ℕ) (t : Tree) → Blocks ν b t → (x : ℕ) → among (leaves t) x ≡ true
      → (b ≤ ν x) × (ν x < b + total t)
  blocks_at ν b (leaf n) f x h = rw (single x n h, f) (omega arith, omega arith)
  blocks_at ν b (inner n s ks) f x h = blocks_children-at ν s b ks f x h

  pub blocks_children-at : (ν : ℕ → ℕ) (s : Side) (b : ℕ) (ks : Children) → BlocksChildren ν s b ks → (x : ℕ)
      → among (leaves_children ks) x ≡ true → (b ≤ ν x) × (ν x < b + total_children ks)
  blocks_children-at ν s b (last t) f x h = blocks_at ν b t f x h
  blocks_children-at ν s b (t then ts) f x h =
      rw (total-then t ts)
      (elim (leaf-cases t ts x h) [
        | inl i ↦ within s b (total t) (total_children ts) (ν x) (blocks_at ν _ t f.0 x i)
        | inr i ↦ within-younger s b (total t) (total_children ts) (ν x) (blocks_children-at ν s _ ts f.1 x i)
      ])

mutual
  -- no two leaves have the same score
  pub blocks-once : (ν : ℕ → ℕ) (b : ℕ) (t : Tree) → Blocks ν b t → (x y : ℕ) → among (leaves t) x ≡ true
      → among (leaves t) y ≡ true → ν x ≡ ν y → x ≡ y
  blocks-once ν b (leaf n) f x y h k e = single x n h ∙ sym (single y n k)
  blocks-once ν b (inner n s ks) f x y h k e = blocks_children-once ν s b ks f x y h k e

  blocks_children-once : (ν : ℕ → ℕ) (s : Side) (b : ℕ) (ks : Children) → BlocksChildren ν s b ks → (x y : ℕ)
      → among (leaves_children ks) x ≡ true → among (leaves_children ks) y ≡ true → ν x ≡ ν y → x ≡ y
  blocks_children-once ν s b (last t) f x y h k e = blocks-once ν b t f x y h k e
  blocks_children-once ν s b (t then ts) f x y h k e =
      let m = total t in
      let n = total_children ts in
      elim (leaf-cases t ts x h) [
        | inl i ↦ elim (leaf-cases t ts y k) [
          | inl j ↦ blocks-once ν _ t f.0 x y i j e
          | inr j ↦ absurd
              (apart s b m n (ν x) (ν y) (blocks_at ν _ t f.0 x i) (blocks_children-at ν s _ ts f.1 y j) e)
        ]
        | inr i ↦ elim (leaf-cases t ts y k) [
          | inl j ↦ absurd
              (apart s b m n (ν y) (ν x) (blocks_at ν _ t f.0 y j) (blocks_children-at ν s _ ts f.1 x i) (sym e))
          | inr j ↦ blocks_children-once ν s _ ts f.1 x y i j e
        ]
      ]

-- a number within the whole is in one of the two blocks
split : (s : Side) (b m n x : ℕ) → b ≤ x → x < b + (m + n)
    → ((elder_from s b n ≤ x) × (x < elder_from s b n + m)) ⊎ ((younger_from s b m ≤ x) × (x < younger_from s b m + n))
split Max b m n x h k =
    elim (dec_lt x (b + m)) [
      | yes l ↦ inl (h, l)
      | no l ↦ inr (omega arith, omega arith)
    ]
split Min b m n x h k =
    elim (dec_lt x (b + n)) [
      | yes l ↦ inr (h, l)
      | no l ↦ inl (omega arith, omega arith)
    ]

mutual
  -- each number of the block is a leaf's score
  pub blocks-all : (P : ℕ → Type 0) (ν : ℕ → ℕ) (b : ℕ) (t : Tree) → EveryLeaf P t → Blocks ν b t → (r : ℕ) → b ≤ r
      → r < b + total t → (n : ℕ) × P n × (ν n ≡ r)
  blocks-all P ν b (leaf n) p f r h k = (n, p, omega arith)
  blocks-all P ν b (inner n s ks) p f r h k = blocks_children-all P ν s b ks p f r h k

  blocks_children-all : (P : ℕ → Type 0) (ν : ℕ → ℕ) (s : Side) (b : ℕ) (ks : Children) → EveryLeafChildren P ks
      → BlocksChildren ν s b ks → (r : ℕ) → b ≤ r → r < b + total_children ks → (n : ℕ) × P n × (ν n ≡ r)
  blocks_children-all P ν s b (last t) p f r h k = blocks-all P ν b t p f r h k
  blocks_children-all P ν s b (t then ts) p f r h k =
      elim (split s b (total t) (total_children ts) r h (omega (arith, total-then t ts))) [
        | inl i ↦ blocks-all P ν _ t p.0 f.0 r i.0 i.1
        | inr i ↦ blocks_children-all P ν s _ ts p.1 f.1 r i.0 i.1
      ]

-- the better of two scores, one of each block, is within the whole
better-within : (s : Side) (b m n x y : ℕ) → (elder_from s b n ≤ x) × (x < elder_from s b n + m)
    → (younger_from s b m ≤ y) × (y < younger_from s b m + n) → (b ≤ better s x y) × (better s x y < b + (m + n))
better-within Max b m n x y h k = (omega arith, omega arith)
better-within Min b m n x y h k = (omega arith, omega arith)

mutual
  -- the minimax value is within the block
  value-within : (ν : ℕ → ℕ) (b : ℕ) (t : Tree) → Blocks ν b t → (b ≤ minimax ν t) × (minimax ν t < b + total t)
  value-within ν b (leaf n) f = (omega arith, omega arith)
  value-within ν b (inner n s ks) f = value_children-within ν s b ks f

  value_children-within : (ν : ℕ → ℕ) (s : Side) (b : ℕ) (ks : Children) → BlocksChildren ν s b ks
      → (b ≤ minimax_children ν s ks) × (minimax_children ν s ks < b + total_children ks)
  value_children-within ν s b (last t) f = value-within ν b t f
  value_children-within ν s b (t then ts) f =
      rw (total-then t ts)
      (better-within s b (total t) (total_children ts) (minimax ν t) (minimax_children ν s ts) (value-within ν _ t f.0)
      (value_children-within ν s _ ts f.1))

-- a window around the whole is one around each block, the younger's after the elder's value too
opens : (s : Side) (b m n α β x : ℕ) → α < b → b + (m + n) ≤ β → (elder_from s b n ≤ x) × (x < elder_from s b n + m)
    → (α < elder_from s b n) × (elder_from s b n + m ≤ β) × (raise s α x < younger_from s b m)
    × (younger_from s b m + n ≤ lower s β x)
opens Max b m n α β x h g i = (omega arith, omega arith, omega arith, omega arith)
opens Min b m n α β x h g i = (omega arith, omega arith, omega arith, omega arith)

mutual
  -- every leaf is reached from a window around the block
  pub all-reached : (ν : ℕ → ℕ) (b α β : ℕ) (t : Tree) → Blocks ν b t → α < b → b + total t ≤ β
      → reached ν α β t ≡ leaves t
  all-reached ν b α β (leaf n) f h g = rw (lt-ltb α β (omega arith))
  all-reached ν b α β (inner n s ks) f h g = all_children-reached ν s b α β ks f h g

  all_children-reached : (ν : ℕ → ℕ) (s : Side) (b α β : ℕ) (ks : Children) → BlocksChildren ν s b ks → α < b
      → b + total_children ks ≤ β → reached_children ν s α β ks ≡ leaves_children ks
  all_children-reached ν s b α β (last t) f h g = all-reached ν b α β t f h g
  all_children-reached ν s b α β (t then ts) f h g =
      let v = minimax ν t in
      let o = opens s b (total t) (total_children ts) α β v h (omega (arith, total-then t ts))
      (value-within ν _ t f.0) in
      ap₂ ◌++◌ (all-reached ν _ α β t f.0 o.0 o.1)
      (all_children-reached ν s _ (raise s α v) (lower s β v) ts f.1 o.2 o.3)
