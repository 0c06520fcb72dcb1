-- MTD's memory in two arrays: arrays that agree give the same memory, empty ones the fresh one, and the highs are those
-- of the marked leaves; a visit of the children goes child by child.
use Rattle.prelude.proofs.{ℕ, ◌≡◌, refl, ◌∙◌, ap, ap₂, inl, inr, true, false}
use Rattle.gametree.specs.declared.Side.{Side}
use Rattle.gametree.specs.{Tree, leaf, inner, Children, last, ◌then◌, greatest, better, minimax_children, In}
use Rattle.gametree.specs.{InChildren}
use Rattle.gametree.specs.{known, high, settles, Memo, MemoChildren, memo_high, memo_high_children, pass, pass_children}
use Rattle.gametree.specs.{fresh, fresh_children, Bits, read_memo, read_memo_children, Remembered, KidsRemembered}

mutual
  -- arrays that agree on a tree's nodes give the same memo
  pub read_memo-same : (M F M' F' : Bits) (t : Tree) → ((p : ℕ) → In p t → (M p ≡ M' p) × (F p ≡ F' p))
      → read_memo M F t ≡ read_memo M' F' t
  read_memo-same M F M' F' (leaf n) h =
      ap {B = Memo (leaf n)} (λ x. record { evaluated = x }) (h n refl).0
  read_memo-same M F M' F' (inner n s ks) h =
      ap₂ {C = Memo (inner n s ks)} (λ x y. record { not_below = x; kids = y }) (h n (inl refl)).1
      (read_memo_children-same M F M' F' ks (λ p i. h p (inr i)))

  pub read_memo_children-same : (M F M' F' : Bits) (ks : Children)
      → ((p : ℕ) → InChildren p ks → (M p ≡ M' p) × (F p ≡ F' p))
      → read_memo_children M F ks ≡ read_memo_children M' F' ks
  read_memo_children-same M F M' F' (last t) h = read_memo-same M F M' F' t h
  read_memo_children-same M F M' F' (t then ts) h =
      ap₂ {C = MemoChildren (t then ts)} (λ x y. record { first = x; rest = y })
      (read_memo-same M F M' F' t (λ p i. h p (inl i))) (read_memo_children-same M F M' F' ts (λ p i. h p (inr i)))

mutual
  -- where no node is marked and none was found, the memory is the fresh one
  pub read-fresh : (M F : Bits) (t : Tree) → ((p : ℕ) → In p t → (M p ≡ false) × (F p ≡ false))
      → read_memo M F t ≡ fresh t
  read-fresh M F (leaf n) h =
      ap {B = Memo (leaf n)} (λ x. record { evaluated = x }) (h n refl).0
  read-fresh M F (inner n s ks) h =
      ap₂ {C = Memo (inner n s ks)} (λ x y. record { not_below = x; kids = y }) (h n (inl refl)).1
      (read-fresh-kids M F ks (λ p i. h p (inr i)))

  read-fresh-kids : (M F : Bits) (ks : Children) → ((p : ℕ) → InChildren p ks → (M p ≡ false) × (F p ≡ false))
      → read_memo_children M F ks ≡ fresh_children ks
  read-fresh-kids M F (last t) h = read-fresh M F t h
  read-fresh-kids M F (t then ts) h =
      ap₂ {C = MemoChildren (t then ts)} (λ x y. record { first = x; rest = y }) (read-fresh M F t (λ p i. h p (inl i)))
      (read-fresh-kids M F ts (λ p i. h p (inr i)))

mutual
  -- the high that the memory of two arrays gives is the one of the marked leaves
  pub read-high : (ν : ℕ → ℕ) (M F : Bits) (t : Tree) → memo_high ν t (read_memo M F t) ≡ high ν M t
  read-high ν M F (leaf n) = refl
  read-high ν M F (inner n s ks) = read-high-kids ν M F s ks

  pub read-high-kids : (ν : ℕ → ℕ) (M F : Bits) (s : Side) (ks : Children)
      → memo_high_children ν s ks (read_memo_children M F ks) ≡ minimax_children (known ν M greatest) s ks
  read-high-kids ν M F s (last t) = read-high ν M F t
  read-high-kids ν M F s (t then ts) = ap₂ (better s) (read-high ν M F t) (read-high-kids ν M F s ts)

module _ (ν : ℕ → ℕ) (γ : ℕ) (s : Side) (t : Tree) (ts : Children) (d : (p : ℕ) → In p t → InChildren p ts → ⊥)
    (M F M₁ F₁ : Bits) (a : Remembered ν γ t M F M₁ F₁) where
  -- the siblings' memo is untouched by the first child's visit
  pub rest-same : read_memo_children M₁ F₁ ts ≡ read_memo_children M F ts
  rest-same = read_memo_children-same M₁ F₁ M F ts (λ p i. a.elsewhere p (λ j. d p j i))

  -- the first child settles its parent
  pub visit-ended : settles s (pass ν γ t (read_memo M F t)).not_below ≡ true
      → KidsRemembered ν γ s (t then ts) M F M₁ F₁
  visit-ended e =
      record {
        got = rw e (ap₂ {C = MemoChildren (t then ts)} (λ x y. record { first = x; rest = y }) a.got rest-same);
        elsewhere = λ p h. a.elsewhere p (λ i. h (inl i));
      }

  -- it does not, and its siblings are visited next
  pub visit-joined : (M₂ F₂ : Bits) → settles s (pass ν γ t (read_memo M F t)).not_below ≡ false
      → KidsRemembered ν γ s ts M₁ F₁ M₂ F₂ → KidsRemembered ν γ s (t then ts) M F M₂ F₂
  visit-joined M₂ F₂ e b =
      let first = read_memo-same M₂ F₂ M₁ F₁ t (λ p i. b.elsewhere p (λ j. d p i j)) ∙ a.got in
      let rest = b.got ∙ ap (λ x. (pass_children ν γ s ts x).next) rest-same in
      record {
        got = rw e (ap₂ {C = MemoChildren (t then ts)} (λ x y. record { first = x; rest = y }) first rest);
        elsewhere = λ p h. (
          (b.elsewhere p (λ i. h (inr i))).0 ∙ (a.elsewhere p (λ i. h (inl i))).0,
          (b.elsewhere p (λ i. h (inr i))).1 ∙ (a.elsewhere p (λ i. h (inl i))).1,
        );
      }
