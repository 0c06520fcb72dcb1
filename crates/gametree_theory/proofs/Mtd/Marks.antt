-- The memory of MTD marks the leaves of its list, so its bounds are those of that set of leaves; and no leaf stands
-- in the list twice.
use Rattle.prelude.proofs.{ℕ, zero, suc, ◌≡◌, refl, sym, ◌∙◌, ap, ap₂, inl, inr, Bool, true, false, ◌||◌, or-false}
use Rattle.prelude.proofs.{List, [], ◌∷◌, ◌++◌, append_assoc, append-nil, ltb}
use Rattle.lists.specs.{All, among, Once}
use Rattle.gametree.specs.declared.Side.{Side}
use Rattle.gametree.specs.{Tree, leaf, inner, Children, last, ◌then◌, greatest, better, minimax, minimax_children, In}
use Rattle.gametree.specs.{InChildren, Distinct, DistinctChildren, known, settles, memo_bound, memo_bound_children}
use Rattle.gametree.specs.{Memo}
use Rattle.gametree.specs.{MemoChildren, memo_high, memo_high_children, Pass, PassChildren, stay, tried, ended, joined}
use Rattle.gametree.specs.{pass, pass_children, MemoRun, run, fresh, fresh_children, memo_mtd}
use Rattle.lists.proofs.Choice.{cond_cases, true-not-false, or-false-both}
use Rattle.lists.proofs.Lists.{all_append, all_map, all_among, among-append, among-right, among-out}
use Rattle.lists.proofs.Lists.{once-append}

-- the memory marks as evaluated just the leaves of the list w
abbrev mutual
  pub Marks : List ℕ → (t : Tree) → Memo t → Type 0
  Marks w (leaf n) m = m.evaluated ≡ among w n
  Marks w (inner n s ks) m = MarksChildren w ks m.kids

  pub MarksChildren : List ℕ → (ks : Children) → MemoChildren ks → Type 0
  MarksChildren w (last t) m = Marks w t m
  MarksChildren w (t then ts) m = Marks w t m.first × MarksChildren w ts m.rest

-- leaves of other trees change no mark
mutual
  pub marks-other : (w v : List ℕ) (t : Tree) (m : Memo t) → All (λ k. In k t → ⊥) v → Marks w t m → Marks (w ++ v) t m
  marks-other w v (leaf n) m o h =
      h ∙ sym (among-append w v n ∙ ap (◌||◌ (among w n)) (among-out v n o) ∙ or-false (among w n))
  marks-other w v (inner n s ks) m o h = marks_children-other w v ks m.kids (all_map _ _ (λ k f i. f (inr i)) v o) h

  marks_children-other : (w v : List ℕ) (ks : Children) (m : MemoChildren ks) → All (λ k. InChildren k ks → ⊥) v
      → MarksChildren w ks m
      → MarksChildren (w ++ v) ks m
  marks_children-other w v (last t) m o h = marks-other w v t m o h
  marks_children-other w v (t then ts) m o h = (
    marks-other w v t m.first (all_map _ _ (λ k f i. f (inl i)) v o) h.0,
    marks_children-other w v ts m.rest (all_map _ _ (λ k f i. f (inr i)) v o) h.1,
  )

-- nor do they before the tree's own
mutual
  marks-before : (w v : List ℕ) (t : Tree) (m : Memo t) → All (λ k. In k t → ⊥) w → Marks v t m → Marks (w ++ v) t m
  marks-before w v (leaf n) m o h = h ∙ sym (among-append w v n ∙ ap (λ b. b || among v n) (among-out w n o))
  marks-before w v (inner n s ks) m o h = marks_children-before w v ks m.kids (all_map _ _ (λ k f i. f (inr i)) w o) h

  pub marks_children-before : (w v : List ℕ) (ks : Children) (m : MemoChildren ks) → All (λ k. InChildren k ks → ⊥) w
      → MarksChildren v ks m
      → MarksChildren (w ++ v) ks m
  marks_children-before w v (last t) m o h = marks-before w v t m o h
  marks_children-before w v (t then ts) m o h = (
    marks-before w v t m.first (all_map _ _ (λ k f i. f (inl i)) w o) h.0,
    marks_children-before w v ts m.rest (all_map _ _ (λ k f i. f (inr i)) w o) h.1,
  )

-- a pass after the leaves w: its leaves are in the tree, new, and stand once, and the memory marks them too
pub record Marking (w : List ℕ) (t : Tree) (r : Pass t) : Type 0 where
  pub new : All (λ k. In k t × (among w k ≡ false)) r.evaluated
  pub once : Once r.evaluated
  pub marks : Marks (w ++ r.evaluated) t r.next

pub record MarkingChildren (w : List ℕ) (ks : Children) (q : PassChildren ks) : Type 0 where
  pub new : All (λ k. InChildren k ks × (among w k ≡ false)) q.evaluated
  pub once : Once q.evaluated
  pub marks : MarksChildren (w ++ q.evaluated) ks q.next

-- a leaf that is tried for the first time
marking-tried : (w : List ℕ) (n : ℕ) (b : Bool) → among w n ≡ false → Marking w (leaf n) (tried n b)
marking-tried w n b e =
    record { new = ((refl, e), tt); once = (tt, tt); marks = sym (among-right w (n ∷ []) n (all_among (n ∷ [])).0) }

-- a node that is not entered
marking-stay : (w : List ℕ) (t : Tree) (m : Memo t) (b : Bool) → Marks w t m → Marking w t (stay t m b)
marking-stay w t m b h = record { new = tt; once = tt; marks = rw append-nil h }

module _ (w : List ℕ) (t : Tree) (ts : Children) (d : (p : ℕ) → In p t → InChildren p ts → ⊥) (r : Pass t)
    (a : Marking w t r) where
  -- the first child's leaves are none of its siblings'
  not-theirs : All (λ k. InChildren k ts → ⊥) r.evaluated
  not-theirs = all_map _ _ (λ k x i. d k x.0 i) r.evaluated a.new

  first-new : All (λ k. InChildren k (t then ts) × (among w k ≡ false)) r.evaluated
  first-new = all_map _ _ (λ k x. (inl x.0, x.1)) r.evaluated a.new

  -- the first child settles its parent
  marking-ended : (m : MemoChildren ts) → MarksChildren w ts m → MarkingChildren w (t then ts) (ended t ts r m)
  marking-ended m h =
      record {
        new = first-new;
        once = a.once;
        marks = (
          a.marks,
          marks_children-other w r.evaluated ts m not-theirs h,
        );
      }

  -- it does not, and its siblings are tried
  marking-joined : (q : PassChildren ts) → MarkingChildren (w ++ r.evaluated) ts q
      → MarkingChildren w (t then ts) (joined t ts r q)
  marking-joined q b =
      let v = r.evaluated in
      let u = q.evaluated in
      record {
        new =
            all_append (λ k. InChildren k (t then ts) × (among w k ≡ false)) v u first-new
            (all_map _ _ (λ k x. (
              inr x.0,
              (or-false-both (among w k) (among v k) (sym (among-append w v k) ∙ x.1)).0,
            )) u b.new);
        once =
            once-append (λ k. In k t) (λ k. InChildren k ts) d v u a.once b.once
            (all_map _ _ (λ k x. x.0) v a.new) (all_map _ _ (λ k x. x.0) u b.new);
        marks = rw (← append_assoc w v u) (
          marks-other (w ++ v) u t r.next (all_map _ _ (λ k x i. d k i x.0) u b.new) a.marks,
          b.marks,
        );
      }

mutual
  -- a pass marks what it evaluates
  pub pass-marks : (ν : ℕ → ℕ) (γ : ℕ) (w : List ℕ) (t : Tree) (m : Memo t) → Distinct t → Marks w t m
      → Marking w t (pass ν γ t m)
  pass-marks ν γ w (leaf n) m d h =
      cond_cases (λ r. Marking w (leaf n) r) m.evaluated _ _ (λ _. marking-stay w (leaf n) m _ h)
      (λ e. marking-tried w n _ (sym h ∙ e))
  pass-marks ν γ w (inner n s ks) m d h =
      let q = pass_children-marks ν γ w s ks m.kids d.1 h in
      cond_cases (λ r. Marking w (inner n s ks) r) (ltb (memo_high_children ν s ks m.kids) γ) _ _
      (λ _. marking-stay w (inner n s ks) m false h)
      (λ _. cond_cases (λ r. Marking w (inner n s ks) r) m.not_below _ _
      (λ _. marking-stay w (inner n s ks) m true h)
      (λ _. record {
        new = all_map _ _ (λ k x. (inr x.0, x.1)) (pass_children ν γ s ks m.kids).evaluated q.new;
        once = q.once;
        marks = q.marks;
      }))

  pass_children-marks : (ν : ℕ → ℕ) (γ : ℕ) (w : List ℕ) (s : Side) (ks : Children) (m : MemoChildren ks)
      → DistinctChildren ks
      → MarksChildren w ks m
      → MarkingChildren w ks (pass_children ν γ s ks m)
  pass_children-marks ν γ w s (last t) m d h =
      let r = pass-marks ν γ w t m d h in
      record { new = r.new; once = r.once; marks = r.marks }
  pass_children-marks ν γ w s (t then ts) m d h =
      let r = pass ν γ t m.first in
      let a = pass-marks ν γ w t m.first d.0 h.0 in
      let k = marks_children-other w r.evaluated ts m.rest (not-theirs w t ts d.2 r a) h.1 in
      cond_cases (λ q. MarkingChildren w (t then ts) q) (settles s r.not_below) _ _
      (λ _. marking-ended w t ts d.2 r a m.rest h.1)
      (λ _. marking-joined w t ts d.2 r a (pass_children ν γ s ts m.rest)
      (pass_children-marks ν γ (w ++ r.evaluated) s ts m.rest d.1 k))

-- the same of a run after the leaves w
pub record RunMarking (w : List ℕ) (t : Tree) (q : MemoRun t) : Type 0 where
  pub new : All (λ k. among w k ≡ false) q.evaluated
  pub once : Once q.evaluated
  pub marks : Marks (w ++ q.evaluated) t q.memo

-- a run marks what it evaluates
run-marks : (ν : ℕ → ℕ) (f γ : ℕ) (w : List ℕ) (t : Tree) (m : Memo t) → Distinct t → Marks w t m
    → RunMarking w t (run ν f γ t m)
run-marks ν zero γ w t m d h = record { new = tt; once = tt; marks = rw append-nil h }
run-marks ν (suc f) γ w t m d h =
    let r = pass ν γ t m in
    let n = r.next in
    let v = r.evaluated in
    let a = pass-marks ν γ w t m d h in
    let q = run ν f (memo_high ν t n) t n in
    let b = run-marks ν f (memo_high ν t n) (w ++ v) t n d a.marks in
    let u = q.evaluated in
    cond_cases (λ q. RunMarking w t q) r.not_below _ _
    (λ _. record {
      new = all_map _ _ (λ k x. x.1) v a.new;
      once = a.once;
      marks = a.marks;
    })
    (λ _. record {
      new =
          all_append (λ k. among w k ≡ false) v u (all_map _ _ (λ k x. x.1) v a.new)
          (all_map _ _ (λ k x. (or-false-both (among w k) (among v k) (sym (among-append w v k) ∙ x)).0) u b.new);
      once =
          once-append (λ k. among (w ++ v) k ≡ true) (λ k. among (w ++ v) k ≡ false) (λ k x y. true-not-false x y) v u
          a.once b.once
          (all_map _ _ (λ k x. among-right w v k x) v (all_among v)) b.new;
      marks = rw (← append_assoc w v u) b.marks;
    })

mutual
  -- at the start nothing is marked
  pub fresh-marks : (t : Tree) → Marks [] t (fresh t)
  fresh-marks (leaf n) = refl
  fresh-marks (inner n s ks) = fresh_children-marks ks

  fresh_children-marks : (ks : Children) → MarksChildren [] ks (fresh_children ks)
  fresh_children-marks (last t) = fresh-marks t
  fresh_children-marks (t then ts) = (fresh-marks t, fresh_children-marks ts)

-- MTD's leaves stand once, and are those that the memory marks
pub mtd-marks : (ν : ℕ → ℕ) (t : Tree) → Distinct t → RunMarking [] t (memo_mtd ν t)
unfolding memo_mtd
mtd-marks ν t d = run-marks ν (suc greatest) greatest [] t (fresh t) d (fresh-marks t)

-- a bound that the memory gives is that of the marked leaves
mutual
  pub memo_bound-is : (x : ℕ) (ν : ℕ → ℕ) (w : List ℕ) (t : Tree) (m : Memo t) → Marks w t m
      → memo_bound x ν t m ≡ minimax (known ν (among w) x) t
  memo_bound-is x ν w (leaf n) m h = rw h refl
  memo_bound-is x ν w (inner n s ks) m h = memo_bound_children-is x ν w s ks m.kids h

  memo_bound_children-is : (x : ℕ) (ν : ℕ → ℕ) (w : List ℕ) (s : Side) (ks : Children) (m : MemoChildren ks)
      → MarksChildren w ks m
      → memo_bound_children x ν s ks m ≡ minimax_children (known ν (among w) x) s ks
  memo_bound_children-is x ν w s (last t) m h = memo_bound-is x ν w t m h
  memo_bound_children-is x ν w s (t then ts) m h =
      ap₂ (better s) (memo_bound-is x ν w t m.first h.0) (memo_bound_children-is x ν w s ts m.rest h.1)
