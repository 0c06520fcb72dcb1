-- `buulset::buulset_children` meets its contract: the part that it makes known by two numbers is the one that the call
-- hands back.
use Rattle.prelude.proofs.{ℕ, zero, suc, ◌+◌, ◌*◌, ◌/◌, ◌<◌, ◌≤◌, arith, ◌≡◌, refl, sym, ap, ◌∙◌, ◌&&◌, List, [], ltb}
use Rattle.prelude.proofs.{rules, leb, length, take, drop, length-drop, length-take-le, ltb-true, leb-true}
use Rattle.lists.proofs.Choice.{cond_cases, and_both}
use Rattle.table.specs.{frame_size, frames, first_child, child_count, children_of}
use Rattle.buulset_answers.specs.declared.Children.{Children}
use Rattle.buulset_answers.specs.{no_children}
use Rattle.buulset.specs.{children_from, flat_children, part_of}
use Rattle.buulset.proofs.buulset_children.Goals as goal

-- n frames from the frame f on are the part of the children from f on
from_first : (t : List ℕ) (f n : ℕ) → take (frame_size * n) (drop (frame_size * f) t) ≡ part_of t (children_from f n)
from_first t f zero = refl
from_first t f (suc n) = refl

-- children that are some, and none
some-children : (f n m : ℕ) → 0 < n → n ≡ m → record { first = f; count = n } ≡ children_from f m
some-children f n zero h e = absurd (omega arith)
some-children f n (suc m) h e = ap (λ (k : ℕ). record { first = f; count = k }) e

no-children : (f n m : ℕ) → n ≡ 0 → n ≡ m → no_children ≡ children_from f m
no-children f n zero h e = refl
no-children f n (suc m) h e = absurd (omega arith)

-- k frames are counted as k
counted : (k : ℕ) (l : List ℕ) → frame_size * k ≤ length l
    → take (frame_size * k) l ≡ take (frame_size * (length (take (frame_size * k) l) / frame_size)) l
counted k l h =
    let e : length (take (frame_size * k) l) ≡ frame_size * k = length-take-le _ _ h in
    let m : frame_size * k ≡ frame_size * (length (take (frame_size * k) l) / frame_size) = omega arith in
    ap (λ (n : ℕ). take n l) m

module _ (t : List ℕ) (i : ℕ) where
  -- the children are whole frames, from the first child's on
  whole : children_of t i
      ≡ take (frame_size * (length (children_of t i) / frame_size)) (drop (frame_size * first_child t i) t)
  unfolding children_of
  whole =
      cond_cases (λ p. p ≡ take (frame_size * (length p / frame_size)) (drop (frame_size * first_child t i) t))
      (ltb i (frames t) && leb (first_child t i + child_count t i) (frames t)) _ []
      (λ h.
      let b : first_child t i + child_count t i ≤ frames t =
      leb-true _ _ (and_both (ltb i (frames t)) _ h).1 in
      counted (child_count t i) _ (simp length-drop (omega arith)))
      (λ _. refl)

  -- a node that has children is one of the table
  inside : 0 < length (children_of t i) / frame_size → i < frames t
  unfolding children_of
  inside =
      cond_cases (λ p. 0 < length p / frame_size → i < frames t)
      (ltb i (frames t) && leb (first_child t i + child_count t i) (frames t)) _ []
      (λ h _. ltb-true _ _ (and_both _ (leb (first_child t i + child_count t i) (frames t)) h).0)
      (λ _ r. absurd (omega arith))

  -- so the two numbers stand for the part
  abbrev Stands : Children → Type 0
  Stands r = (r ≡ flat_children t i) × (children_of t i ≡ part_of t r)

  stands : (r : Children) → r ≡ flat_children t i → Stands r
  unfolding flat_children
  stands r e =
      (e, whole ∙ from_first t (first_child t i) (length (children_of t i) / frame_size) ∙ ap (part_of t) (sym e))

  module _ (p : List ℕ) (e : p ≡ children_of t i) where
    same_count : length p / frame_size ≡ length (children_of t i) / frame_size
    same_count = ap (λ (l : List ℕ). length l / frame_size) e

    among : 0 < length p / frame_size → i < frames t
    among h = inside (omega (arith, same_count))

    none : (r : Children) → r ≡ no_children → length p / frame_size ≡ 0 → Stands r
    unfolding flat_children
    none r q z = stands r (q ∙ no-children _ _ _ z same_count)

    some : (f : ℕ) → f ≡ first_child t i → 0 < length p / frame_size
        → Stands (record { first = f; count = length p / frame_size })
    unfolding flat_children
    some f q h =
        stands _
        (ap (λ (k : ℕ). record { first = k; count = length p / frame_size }) q ∙ some-children _ _ _ h same_count)

pub returns-then-count-eq0 : goal.returns-then-count-eq0
returns-then-count-eq0 c = none _ _ _ c.children.ensures.0 _ (search rules) (omega arith)

pub first_child-requires : goal.first_child-requires
first_child-requires c = among _ _ _ c.children.ensures.0 (omega arith)

pub returns : goal.returns
returns c = some _ _ _ c.children.ensures.0 _ c.first_child.ensures.0 (omega arith)
