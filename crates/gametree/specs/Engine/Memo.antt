-- For code: MTD with what it remembers kept at each node of the tree, and not in two lists as in Mtd; the run is the
-- same (`memo-run` in proofs/mtd/Memory).
use Rattle.std.specs.Prelude.{ℕ, zero, suc, ◌+◌, Bool, true, false, cond, List, [], ◌∷◌, ◌++◌, leb, ltb}
use Rattle.gametree.specs.Trees.{Side, Tree, leaf, inner, Children, last, ◌then◌, greatest, better}
use Rattle.gametree.specs.Mtd.{settles, MtdRun}

-- what is remembered of a leaf: has it been evaluated (01: its mark); of an inner node: has a pass found it not below
-- its test, and what is remembered of its children
abbrev mutual
  pub Memo : Tree → Type 0
  Memo (leaf n) = record { evaluated : Bool }
  Memo (inner n s ks) = record { not_below : Bool; kids : MemoChildren ks }

  pub MemoChildren : Children → Type 0
  MemoChildren (last t) = Memo t
  MemoChildren (t then ts) = record { first : Memo t; rest : MemoChildren ts }

-- a bound of each node, as the leaves evaluated so far give it, where each other leaf has the score x
abbrev mutual
  pub memo_bound : ℕ → (ℕ → ℕ) → (t : Tree) → Memo t → ℕ
  memo_bound x ν (leaf n) m = cond m.evaluated (ν n) x
  memo_bound x ν (inner n s ks) m = memo_bound_children x ν s ks m.kids

  pub memo_bound_children : ℕ → (ℕ → ℕ) → Side → (ks : Children) → MemoChildren ks → ℕ
  memo_bound_children x ν s (last t) m = memo_bound x ν t m
  memo_bound_children x ν s (t then ts) m = better s (memo_bound x ν t m.first) (memo_bound_children x ν s ts m.rest)

-- the high of each node, as the leaves evaluated so far give it
abbrev pub memo_high : (ℕ → ℕ) → (t : Tree) → Memo t → ℕ
memo_high ν t m = memo_bound greatest ν t m

abbrev pub memo_high_children : (ℕ → ℕ) → Side → (ks : Children) → MemoChildren ks → ℕ
memo_high_children ν s ks m = memo_bound_children greatest ν s ks m

-- what a pass over a node gives: was it found not below the test, what is remembered now, and the leaves evaluated,
-- in order
pub record Pass (t : Tree) : Type 0 where
  pub not_below : Bool
  pub next : Memo t
  pub evaluated : List ℕ

-- the same for the children of a node
pub record PassChildren (ks : Children) : Type 0 where
  pub not_below : Bool
  pub next : MemoChildren ks
  pub evaluated : List ℕ

-- the node is not entered, and the answer is b
abbrev pub stay : (t : Tree) → Memo t → Bool → Pass t
stay t m b = record { not_below = b; next = m; evaluated = [] }

-- the leaf is tried for the first time and so is evaluated, and the answer is b
abbrev pub tried : (n : ℕ) → Bool → Pass (leaf n)
tried n b = record { not_below = b; next = record { evaluated = true }; evaluated = n ∷ [] }

-- the first child settles its parent
abbrev pub ended : (t : Tree) (ts : Children) → Pass t → MemoChildren ts → PassChildren (t then ts)
ended t ts r m =
    record { not_below = r.not_below; next = record { first = r.next; rest = m }; evaluated = r.evaluated }

-- the other children settle it
abbrev pub joined : (t : Tree) (ts : Children) → Pass t → PassChildren ts → PassChildren (t then ts)
joined t ts r q =
    record {
      not_below = q.not_below;
      next = record { first = r.next; rest = q.next };
      evaluated = r.evaluated ++ q.evaluated;
    }

-- an inner node gets its children's answer, and remembers it
abbrev pub entered : (n : ℕ) (s : Side) (ks : Children) → PassChildren ks → Pass (inner n s ks)
entered n s ks q =
    record {
      not_below = q.not_below;
      next = record { not_below = q.not_below; kids = q.next };
      evaluated = q.evaluated;
    }

-- one pass with the test γ
abbrev mutual
  pub pass : (ℕ → ℕ) → ℕ → (t : Tree) → Memo t → Pass t
  pass ν γ (leaf n) m = cond m.evaluated (stay (leaf n) m (leb γ (ν n))) (tried n (leb γ (ν n)))
  pass ν γ (inner n s ks) m =
      cond (ltb (memo_high_children ν s ks m.kids) γ) (stay (inner n s ks) m false)
      (cond m.not_below (stay (inner n s ks) m true) (entered n s ks (pass_children ν γ s ks m.kids)))

  pub pass_children : (ℕ → ℕ) → ℕ → Side → (ks : Children) → MemoChildren ks → PassChildren ks
  pass_children ν γ s (last t) m =
      record { not_below = (pass ν γ t m).not_below; next = (pass ν γ t m).next; evaluated = (pass ν γ t m).evaluated }
  pass_children ν γ s (t then ts) m =
      cond (settles s (pass ν γ t m.first).not_below) (ended t ts (pass ν γ t m.first) m.rest)
      (joined t ts (pass ν γ t m.first) (pass_children ν γ s ts m.rest))

-- what a run of passes gives: the value, what is remembered at the end, the leaves evaluated, in order, and how many
-- passes there were
pub record MemoRun (t : Tree) : Type 0 where
  pub value : ℕ
  pub memo : Memo t
  pub evaluated : List ℕ
  pub passes : ℕ

-- the root is not below γ: the test is the value
abbrev pub settled : (γ : ℕ) (t : Tree) → Pass t → MemoRun t
settled γ t r = record { value = γ; memo = r.next; evaluated = r.evaluated; passes = 1 }

-- the root is below: the later passes' run follows
abbrev pub followed : (t : Tree) → Pass t → MemoRun t → MemoRun t
followed t r q =
    record { value = q.value; memo = q.memo; evaluated = r.evaluated ++ q.evaluated; passes = 1 + q.passes }

-- passes from the test γ, the next test being the root's high; the first number bounds how many
abbrev pub run : (ℕ → ℕ) → ℕ → ℕ → (t : Tree) → Memo t → MemoRun t
run ν zero γ t m = record { value = γ; memo = m; evaluated = []; passes = 0 }
run ν (suc f) γ t m =
    let more = followed t (pass ν γ t m) (run ν f (memo_high ν t (pass ν γ t m).next) t (pass ν γ t m).next) in
    cond (pass ν γ t m).not_below (settled γ t (pass ν γ t m)) more

-- nothing is evaluated and nothing was found
abbrev mutual
  pub fresh : (t : Tree) → Memo t
  fresh (leaf n) = record { evaluated = false }
  fresh (inner n s ks) = record { not_below = false; kids = fresh_children ks }

  pub fresh_children : (ks : Children) → MemoChildren ks
  fresh_children (last t) = fresh t
  fresh_children (t then ts) = record { first = fresh t; rest = fresh_children ts }

-- MTD from the test `greatest`
unfoldable pub memo_mtd : (ℕ → ℕ) → (t : Tree) → MemoRun t
memo_mtd ν t = run ν (suc greatest) greatest t (fresh t)

-- what a run gives, without its memory
abbrev pub without_memo : (t : Tree) → MemoRun t → MtdRun
without_memo t r = record { value = r.value; evaluated = r.evaluated; passes = r.passes }
