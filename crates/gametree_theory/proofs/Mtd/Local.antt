-- MTD depends only on the scores of the leaves that it evaluates.
use Rattle.prelude.proofs.{ℕ, zero, suc, ◌≡◌, refl, ◌∙◌, ap, ap₂, Bool, true, false, cond, List, ltb}
use Rattle.lists.specs.{All}
use Rattle.gametree.specs.declared.Side.{Side}
use Rattle.gametree.specs.{Tree, leaf, inner, Children, last, ◌then◌, greatest, better, settles, Memo, MemoChildren}
use Rattle.gametree.specs.{memo_high, memo_high_children, Pass, PassChildren, stay, ended, joined, entered, pass}
use Rattle.gametree.specs.{pass_children, MemoRun, settled, followed, run, fresh, fresh_children}
use Rattle.lists.proofs.Choice.{cond_cases, true-not-false}
use Rattle.lists.proofs.Lists.{all_left, all_right}

-- both valuations agree on the leaves that are evaluated
abbrev mutual
  pub Agree : (ν μ : ℕ → ℕ) (t : Tree) → Memo t → Type 0
  Agree ν μ (leaf n) m = m.evaluated ≡ true → ν n ≡ μ n
  Agree ν μ (inner n s ks) m = AgreeChildren ν μ ks m.kids

  pub AgreeChildren : (ν μ : ℕ → ℕ) (ks : Children) → MemoChildren ks → Type 0
  AgreeChildren ν μ (last t) m = Agree ν μ t m
  AgreeChildren ν μ (t then ts) m = Agree ν μ t m.first × AgreeChildren ν μ ts m.rest

-- both agree on the leaves of a list
abbrev pub Alike : (ν μ : ℕ → ℕ) → List ℕ → Type 0
Alike ν μ w = All (λ k. ν k ≡ μ k) w

mutual
  -- the highs are the same
  memo_high-local : (ν μ : ℕ → ℕ) (t : Tree) (m : Memo t) → Agree ν μ t m → memo_high ν t m ≡ memo_high μ t m
  memo_high-local ν μ (leaf n) m a = same m.evaluated a
    where
      same : (b : Bool) → (b ≡ true → ν n ≡ μ n) → cond b (ν n) greatest ≡ cond b (μ n) greatest
      same true h = h refl
      same false h = refl
  memo_high-local ν μ (inner n s ks) m a = memo_high_children-local ν μ s ks m.kids a

  memo_high_children-local : (ν μ : ℕ → ℕ) (s : Side) (ks : Children) (m : MemoChildren ks) → AgreeChildren ν μ ks m
      → memo_high_children ν s ks m ≡ memo_high_children μ s ks m
  memo_high_children-local ν μ s (last t) m a = memo_high-local ν μ t m a
  memo_high_children-local ν μ s (t then ts) m a =
      ap₂ (λ x y. better s x y) (memo_high-local ν μ t m.first a.0)
      (memo_high_children-local ν μ s ts m.rest a.1)

-- a leaf that is evaluated before or now
leaf-alike : (ν μ : ℕ → ℕ) (γ n : ℕ) (m : Memo (leaf n)) → Agree ν μ (leaf n) m
    → Alike ν μ (pass ν γ (leaf n) m).evaluated → ν n ≡ μ n
leaf-alike ν μ γ n m h =
    cond_cases (λ (r : Pass (leaf n)). Alike ν μ r.evaluated → ν n ≡ μ n) m.evaluated _ _ (λ e _. h e)
    (λ _ a. a.0)

module _ (ν μ : ℕ → ℕ) where
  -- an inner node is the same if its children are, where they are tried
  inner-local : (t : Tree) (b c : Bool) (x y z z' : Pass t) → (Alike ν μ z.evaluated → z ≡ z')
      → Alike ν μ (cond b x (cond c y z)).evaluated → cond b x (cond c y z) ≡ cond b x (cond c y z')
  inner-local t true c x y z z' f a = refl
  inner-local t false true x y z z' f a = refl
  inner-local t false false x y z z' f a = f a

  -- the leaves of the first child are some of all
  first_alike : (t : Tree) (ts : Children) (b : Bool) (r : Pass t) (m : MemoChildren ts) (q : PassChildren ts)
      → Alike ν μ (cond b (ended t ts r m) (joined t ts r q)).evaluated → Alike ν μ r.evaluated
  first_alike t ts true r m q a = a
  first_alike t ts false r m q a = all_left (λ k. ν k ≡ μ k) r.evaluated q.evaluated a

  -- the children are the same if the others are, where the first does not settle
  kids-local : (t : Tree) (ts : Children) (b : Bool) (r : Pass t) (m : MemoChildren ts) (q q' : PassChildren ts)
      → (Alike ν μ q.evaluated → q ≡ q')
      → Alike ν μ (cond b (ended t ts r m) (joined t ts r q)).evaluated
      → cond b (ended t ts r m) (joined t ts r q) ≡ cond b (ended t ts r m) (joined t ts r q')
  kids-local t ts true r m q q' f a = refl
  kids-local t ts false r m q q' f a =
      ap (λ x. joined t ts r x) (f (all_right (λ k. ν k ≡ μ k) r.evaluated q.evaluated a))

mutual
  -- a pass is the same for valuations that agree on the leaves evaluated before and by it
  pass-local : (ν μ : ℕ → ℕ) (γ : ℕ) (t : Tree) (m : Memo t) → Agree ν μ t m → Alike ν μ (pass ν γ t m).evaluated
      → pass ν γ t m ≡ pass μ γ t m
  pass-local ν μ γ (leaf n) m h a = rw (leaf-alike ν μ γ n m h a) refl
  pass-local ν μ γ (inner n s ks) m h a =
      inner-local ν μ (inner n s ks) (ltb (memo_high_children ν s ks m.kids) γ) m.not_below _ _ _ _
      (λ b. ap (λ q. entered n s ks q) (pass_children-local ν μ γ s ks m.kids h b)) a
      ∙ ap (λ x. cond (ltb x γ) (stay (inner n s ks) m false)
      (cond m.not_below (stay (inner n s ks) m true) (entered n s ks (pass_children μ γ s ks m.kids))))
      (memo_high_children-local ν μ s ks m.kids h)

  pass_children-local : (ν μ : ℕ → ℕ) (γ : ℕ) (s : Side) (ks : Children) (m : MemoChildren ks) → AgreeChildren ν μ ks m
      → Alike ν μ (pass_children ν γ s ks m).evaluated
      → pass_children ν γ s ks m ≡ pass_children μ γ s ks m
  pass_children-local ν μ γ s (last t) m h a =
      ap (λ (r : Pass t). record { not_below = r.not_below; next = r.next; evaluated = r.evaluated })
      (pass-local ν μ γ t m h a)
  pass_children-local ν μ γ s (t then ts) m h a =
      let r = pass ν γ t m.first in
      let q = pass_children ν γ s ts m.rest in
      kids-local ν μ t ts (settles s r.not_below) r m.rest q (pass_children μ γ s ts m.rest)
      (λ b. pass_children-local ν μ γ s ts m.rest h.1 b) a
      ∙ ap (λ (r : Pass t). cond (settles s r.not_below) (ended t ts r m.rest)
      (joined t ts r (pass_children μ γ s ts m.rest)))
      (pass-local ν μ γ t m.first h.0 (first_alike ν μ t ts (settles s r.not_below) r m.rest q a))

mutual
  -- and they agree on the leaves evaluated after it
  agree-next : (ν μ : ℕ → ℕ) (γ : ℕ) (t : Tree) (m : Memo t) → Agree ν μ t m → Alike ν μ (pass ν γ t m).evaluated
      → Agree ν μ t (pass ν γ t m).next
  agree-next ν μ γ (leaf n) m h = λ a _. leaf-alike ν μ γ n m h a
  agree-next ν μ γ (inner n s ks) m h =
      cond_cases (λ (r : Pass (inner n s ks)). Alike ν μ r.evaluated → Agree ν μ (inner n s ks) r.next)
      (ltb (memo_high_children ν s ks m.kids) γ) _ _
      (λ _ _. h)
      (λ _. cond_cases (λ (r : Pass (inner n s ks)). Alike ν μ r.evaluated → Agree ν μ (inner n s ks) r.next)
      m.not_below _ _
      (λ _ _. h)
      (λ _ a. agree_children-next ν μ γ s ks m.kids h a))

  agree_children-next : (ν μ : ℕ → ℕ) (γ : ℕ) (s : Side) (ks : Children) (m : MemoChildren ks) → AgreeChildren ν μ ks m
      → Alike ν μ (pass_children ν γ s ks m).evaluated
      → AgreeChildren ν μ ks (pass_children ν γ s ks m).next
  agree_children-next ν μ γ s (last t) m h = λ a. agree-next ν μ γ t m h a
  agree_children-next ν μ γ s (t then ts) m h =
      cond_cases (λ (q : PassChildren (t then ts)). Alike ν μ q.evaluated → AgreeChildren ν μ (t then ts) q.next)
      (settles s (pass ν γ t m.first).not_below) _ _
      (λ _ a. (agree-next ν μ γ t m.first h.0 a, h.1))
      (λ _ a. (
        agree-next ν μ γ t m.first h.0
            (all_left (λ k. ν k ≡ μ k) (pass ν γ t m.first).evaluated (pass_children ν γ s ts m.rest).evaluated
            a),
        agree_children-next ν μ γ s ts m.rest h.1
            (all_right (λ k. ν k ≡ μ k) (pass ν γ t m.first).evaluated (pass_children ν γ s ts m.rest).evaluated
            a),
      ))

module _ (ν μ : ℕ → ℕ) (γ : ℕ) (t : Tree) (r : Pass t) (q : MemoRun t) where
  -- the leaves of the first pass are some of the run's
  pass-alike : (b : Bool) → Alike ν μ (cond b (settled γ t r) (followed t r q)).evaluated → Alike ν μ r.evaluated
  pass-alike true a = a
  pass-alike false a = all_left (λ k. ν k ≡ μ k) r.evaluated q.evaluated a

  -- a run is the same if what follows its first pass is
  rest-local : (q' : MemoRun t) (b : Bool) → (Alike ν μ q.evaluated → q ≡ q')
      → Alike ν μ (cond b (settled γ t r) (followed t r q)).evaluated
      → cond b (settled γ t r) (followed t r q) ≡ cond b (settled γ t r) (followed t r q')
  rest-local q' true f a = refl
  rest-local q' false f a = ap (λ x. followed t r x) (f (all_right (λ k. ν k ≡ μ k) r.evaluated q.evaluated a))

-- so is a run
pub run-local : (ν μ : ℕ → ℕ) (f γ : ℕ) (t : Tree) (m : Memo t) → Agree ν μ t m → Alike ν μ (run ν f γ t m).evaluated
    → run ν f γ t m ≡ run μ f γ t m
run-local ν μ zero γ t m h a = refl
run-local ν μ (suc f) γ t m h a =
    let r = pass ν γ t m in
    let n = r.next in
    let b = pass-alike ν μ γ t r (run ν f (memo_high ν t n) t n) r.not_below a in
    let c = agree-next ν μ γ t m h b in
    rest-local ν μ γ t r (run ν f (memo_high ν t n) t n) (run μ f (memo_high ν t n) t n) r.not_below
    (λ d. run-local ν μ f (memo_high ν t n) t n c d) a
    ∙ ap (λ x. cond r.not_below (settled γ t r) (followed t r (run μ f x t n))) (memo_high-local ν μ t n c)
    ∙ ap (λ (r : Pass t). cond r.not_below (settled γ t r)
    (followed t r (run μ f (memo_high μ t r.next) t r.next))) (pass-local ν μ γ t m h b)

mutual
  -- at the start no leaf is evaluated
  pub fresh-agree : (ν μ : ℕ → ℕ) (t : Tree) → Agree ν μ t (fresh t)
  fresh-agree ν μ (leaf n) = λ e. absurd (true-not-false e refl)
  fresh-agree ν μ (inner n s ks) = fresh_children-agree ν μ ks

  fresh_children-agree : (ν μ : ℕ → ℕ) (ks : Children) → AgreeChildren ν μ ks (fresh_children ks)
  fresh_children-agree ν μ (last t) = fresh-agree ν μ t
  fresh_children-agree ν μ (t then ts) = (fresh-agree ν μ t, fresh_children-agree ν μ ts)
