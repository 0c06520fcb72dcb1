-- `children` meets its contract: one lemma for each of its three returns.
use Rattle.prelude.proofs.{ℕ, ◌+◌, ◌*◌, ◌-◌, ◌<◌, ◌≤◌, arith, ◌≡◌, ap, List, [], take, drop, lt-ltb, le-ltb, le-leb}
use Rattle.prelude.proofs.{lt-leb}
use Rattle.table.specs.{frame_size, frames, first_child, child_count, children_of, children_at}
use Rattle.table.proofs.children.Goals as goal

-- a part that begins 0 bytes behind a pointer begins there
same-pointer : (p : ℕ × ℕ) → ◌≡◌ {A = ℕ × ℕ} (p.0, 0 + p.1) p
same-pointer p = ap (λ x. (p.0, x)) (omega arith)

-- past the last whole frame there are none
past : (p : ℕ × ℕ) (t : List ℕ) (i : ℕ) → frames t ≤ i
    → (◌≡◌ {A = List ℕ} [] (children_of t i)) × (◌≡◌ {A = ℕ × ℕ} (p.0, 0 + p.1) (children_at p t i))
unfolding children_of children_at
past p t i h = (rw (le-ltb _ _ h), rw (le-ltb _ _ h) (same-pointer p))

module _ (p : ℕ × ℕ) (t : List ℕ) (i f k : ℕ) (h : i < frames t) (a : f ≡ first_child t i) (b : k ≡ child_count t i)
  where
    -- nor where they would reach past the table
    over : frames t < f + k
        → (◌≡◌ {A = List ℕ} [] (children_of t i)) × (◌≡◌ {A = ℕ × ℕ} (p.0, 0 + p.1) (children_at p t i))
    unfolding children_of children_at
    over r = (rw (lt-ltb _ _ h, ← a, ← b, lt-leb _ _ r), rw (lt-ltb _ _ h, ← a, ← b, lt-leb _ _ r) (same-pointer p))

    -- else they are the frames from the first child's up to the last one's
    inside : f + k ≤ frames t
        → (take (frame_size * (f + k) - frame_size * f) (drop (frame_size * f) t) ≡ children_of t i)
        × (◌≡◌ {A = ℕ × ℕ} (p.0, frame_size * f + p.1) (children_at p t i))
    unfolding children_of children_at
    inside r =
        let l : frame_size * (f + k) - frame_size * f ≡ frame_size * k = omega arith in
        (rw (lt-ltb _ _ h, ← a, ← b, le-leb _ _ r, l), rw (lt-ltb _ _ h, ← a, ← b, le-leb _ _ r))

pub returns-then-frame_count-node : goal.returns-then-frame_count-node
returns-then-frame_count-node c = past _ _ _ (omega arith)

pub returns-then-end-frame_count : goal.returns-then-end-frame_count
returns-then-end-frame_count c =
    inside _ _ _ _ _ (omega arith) c.first_child-first.ensures.0 c.child_count.ensures.0 (omega arith)

pub returns-else-end-frame_count : goal.returns-else-end-frame_count
returns-else-end-frame_count c =
    over _ _ _ _ _ (omega arith) c.first_child-first.ensures.0 c.child_count.ensures.0 (omega arith)
