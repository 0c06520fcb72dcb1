-- Lookups by number in a tree T (`subtree_at`, `link_in`, `above_in`, `left_in`) agree with the structure of its part
-- t.
use Rattle.prelude.proofs.{ℕ, ◌≡◌, true, false, none, some}
use Rattle.gametree.specs.declared.Side.{Side}
use Rattle.gametree.specs.{Tree, leaf, inner, Children, last, ◌then◌, number, In, InChildren, under, first_of}
use Rattle.gametree.specs.{subtree_at}
use Rattle.gametree.specs.{link_in, above_in, left_in}

-- no node of a child's tree is above a node of a younger sibling's, nor the other way round, and the elder's are left
-- of the younger's
abbrev pub Apart : Tree → Tree → Children → Type 0
Apart T t ts =
    (p q : ℕ) → In p t → InChildren q ts → (above_in T p q ≡ false) × (above_in T q p ≡ false) × (left_in T p q ≡ true)

-- T answers as t says, below its root
abbrev mutual
  pub Answers : Tree → Tree → Type 0
  Answers T (leaf n) = subtree_at n T ≡ leaf n
  Answers T (inner n s ks) =
      (subtree_at n T ≡ inner n s ks) ×
      ((p : ℕ) → InChildren p ks → above_in T n p ≡ true) × AnswersChildren T n s ks

  pub AnswersChildren : Tree → ℕ → Side → Children → Type 0
  AnswersChildren T n s (last t) = (link_in T (number t) ≡ under n s none) × Answers T t
  AnswersChildren T n s (t then ts) =
      (link_in T (number t) ≡ under n s (some (first_of ts))) × Apart T t ts × Answers T t × AnswersChildren T n s ts
