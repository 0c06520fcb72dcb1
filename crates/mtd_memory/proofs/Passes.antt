-- What a pass does at a node, over its tree and the arrays: a leaf is tried; a node whose high is below the test, or
-- that was found not below, is not entered; any other is entered.
use Rattle.prelude.proofs.{ℕ, suc, ◌+◌, ◌≤◌, ◌<◌, arith, ◌≡◌, refl, sym, ap, ap₂, ◌∙◌, subst, inl, inr, Bool}
use Rattle.prelude.proofs.{true, false, cond, List, [], ◌∷◌, leb, eqb, get_or, set, get_or-set_same, get_or-set_other}
use Rattle.prelude.proofs.{lt-ltb, le-ltb}
use Rattle.gametree.specs.declared.Side.{Side}
use Rattle.gametree.specs.{Tree, leaf, inner, Children, InChildren, high, Memo, memo_high, Pass, stay, entered}
use Rattle.lists.proofs.Choice.{cond_cases}
use Rattle.gametree_theory.proofs.Mtd.MemoArrays.{read_memo_children-same, read-high}
use Rattle.table.specs.{tree_at, valuation, frames, first_child, child_count}
use Rattle.certificate_bounds.specs.{marked, ones, progress, evaluate_all}
use Rattle.certificate_bounds.proofs.Marking.{marked_other}
use Rattle.mtd_memory.specs.{Memory, memory, progress_of, memo_of, pass_of, MemoryRoom, HighsRight, Counted}
use Rattle.mtd_memory.specs.{Evaluated, Passed, Skips, SkipsRight}
use Rattle.mtd_memory.proofs.Arrays.{marked-same, evaluated-none, skips-same}
use Rattle.mtd_memory.proofs.Children.{pass_children_of, PassedChildren}

-- a leaf that was tried: evaluated now, if it was not before, and compared with the test
module _ (t : List ℕ) (i γ : ℕ) (m : Memory) (n : ℕ) (o : List ℕ) (r : Bool) (is_IsLeaf : tree_at t i ≡ leaf i)
    (room : MemoryRoom (suc i) m) (a : r ≡ leb γ (valuation t i))
    (w : progress n (set m.evaluated i 1) o
    ≡ evaluate_all (progress_of m) (cond (marked m.evaluated i) [] (i ∷ [])))
    (c : n ≡ ones (set m.evaluated i 1) (frames t)) (none : child_count t i ≡ 0) (own-skips : Skips t m i) where
  -- its mark is 1 now
  leaf-marked : marked (set m.evaluated i 1) i ≡ true
  leaf-marked = marked-same m.evaluated i true (omega (arith, room.evaluated))

  -- the memory afterwards
  abbrev tried : Memory
  tried = memory n (set m.evaluated i 1) o (set m.highs i (valuation t i)) m.not_below

  -- what the pass says, by whether it was evaluated before
  record Done (q : Pass (leaf i)) : Type 0 where
    answer : r ≡ q.not_below
    evaluated : Evaluated m tried q.evaluated
    next : marked (set m.evaluated i 1) i ≡ q.next.evaluated

  leaf-done : Done (pass_of t γ m (leaf i))
  leaf-done =
      cond_cases Done (marked m.evaluated i) _ _
      (λ e. record {
        answer = a;
        evaluated = record { all = rw e at w };
        next = leaf-marked ∙ sym e;
      })
      (λ e. record {
        answer = a;
        evaluated = record { all = rw e at w };
        next = leaf-marked;
      })

  pub leaf-passed : Passed t (leaf i) γ m tried r
  leaf-passed =
      record {
        answer = leaf-done.answer;
        evaluated = leaf-done.evaluated;
        counted = c;
        memo =
            record {
              got = ap {B = Memo (leaf i)} (λ x. record { evaluated = x }) leaf-done.next;
              elsewhere = λ p h. (marked_other m.evaluated i p 1 h, refl);
            };
        right = λ k h.
            rw (h, is_IsLeaf, leaf-marked)
            (get_or-set_same m.highs i (valuation t i) 0 (omega (arith, room.highs)));
        others = λ k h. get_or-set_other m.highs i k (valuation t i) 0 h;
        skips = λ k h. rw h (skips-same refl (λ j a b. absurd (omega (arith, none))) own-skips);
        flags = λ k h. refl;
      }

-- a node that is not entered
stay-passed : (t : List ℕ) (T : Tree) (γ : ℕ) (m : Memory) (r : Bool) → Counted t m
    → pass_of t γ m T ≡ stay T (memo_of m T) r → HighsRight t m T → SkipsRight t m T → Passed t T γ m m r
stay-passed t T γ m r n e h s =
    record {
      answer = ap (λ q. q.not_below) (sym e);
      evaluated = subst (λ q. Evaluated m m q.evaluated) (sym e) (evaluated-none m);
      counted = n;
      memo = record { got = ap (λ q. q.next) (sym e); elsewhere = λ p h. (refl, refl) };
      right = h;
      others = λ k h. refl;
      skips = s;
      flags = λ k h. refl;
    }

-- an inner node: its stored high decides, or its flag, or it is entered
module _ (t : List ℕ) (i γ : ℕ) (m : Memory) (s : Side) (ks : Children) (is-inner : tree_at t i ≡ inner i s ks)
    (right : HighsRight t m (inner i s ks)) (skips : SkipsRight t m (inner i s ks)) where
  stored : get_or m.highs i 0 ≡ memo_high (valuation t) (inner i s ks) (memo_of m (inner i s ks))
  stored = (rw is-inner at (right i (inl refl))) ∙ sym (read-high (valuation t) _ _ (inner i s ks))

  pub below-passed : (r : Bool) → Counted t m → r ≡ false → get_or m.highs i 0 < γ
      → Passed t (inner i s ks) γ m m r
  below-passed r n a h =
      stay-passed t (inner i s ks) γ m r n (rw (a, lt-ltb _ _ (rw stored at h))) right skips

  pub not-below-passed : (r : Bool) → Counted t m → r ≡ true → γ ≤ get_or m.highs i 0
      → marked m.not_below i ≡ true → Passed t (inner i s ks) γ m m r
  not-below-passed r n a h f =
      stay-passed t (inner i s ks) γ m r n (rw (a, le-ltb _ _ (rw stored at h), f)) right skips

  module _ (m' : Memory) (r : Bool) (v : ℕ) (h : γ ≤ get_or m.highs i 0) (f : marked m.not_below i ≡ false)
      (room : MemoryRoom (suc i) m') (apart : InChildren i ks → ⊥) (q : PassedChildren t γ s ks m m' r)
      (kids-right : (k : ℕ) → InChildren k ks
      → get_or m'.highs k 0 ≡ high (valuation t) (marked m'.evaluated) (tree_at t k))
      (others : (k : ℕ) → (InChildren k ks → ⊥) → get_or m'.highs k 0 ≡ get_or m.highs k 0)
      (best : v ≡ high (valuation t) (marked m'.evaluated) (inner i s ks)) (x : ℕ) (flag : eqb x 1 ≡ r)
      (kids-skips : (k : ℕ) → InChildren k ks → Skips t m' k)
      (later : (k j : ℕ) → InChildren k ks → first_child t k ≤ j → j < first_child t k + child_count t k
      → j ≡ i → ⊥)
      (flags : (k : ℕ) → (InChildren k ks → ⊥) → get_or m'.not_below k 0 ≡ get_or m.not_below k 0)
      (own-skips : Skips t (memory m'.leaves m'.evaluated m'.order (set m'.highs i v)
      (set m'.not_below i x)) i) where
    enters : pass_of t γ m (inner i s ks) ≡ entered i s ks (pass_children_of t γ s m ks)
    enters = rw (le-ltb _ _ (rw stored at h), f)

    not_own : (p : ℕ) → InChildren p ks → p ≡ i → ⊥
    not_own p x e = apart (subst (λ k. InChildren k ks) e x)

    pub entered-passed : Passed t (inner i s ks) γ m
        (memory m'.leaves m'.evaluated m'.order (set m'.highs i v)
        (set m'.not_below i x)) r
    entered-passed =
        let own = ap (λ z. eqb z 1) (get_or-set_same m'.not_below i x 0 (omega (arith, room.not_below))) ∙ flag in
        let same = read_memo_children-same _ _ _ _ ks (λ p x. (refl, marked_other m'.not_below i p _ (not_own p x))) in
        record {
          answer = q.answer ∙ ap (λ x. x.not_below) (sym enters);
          evaluated = record {
            all = q.evaluated.all ∙ ap (λ x. evaluate_all (progress_of m) x.evaluated) (sym enters);
          };
          counted = q.counted;
          memo =
              record {
                got =
                    ap₂ {C = Memo (inner i s ks)} (λ x y. record { not_below = x; kids = y }) (own ∙ q.answer)
                    (same ∙ q.memo.got)
                    ∙ ap (λ x. x.next) (sym enters);
                elsewhere = λ p x. (
                  (q.memo.elsewhere p (λ y. x (inr y))).0,
                  marked_other m'.not_below i p _ (λ e. x (inl e)) ∙ (q.memo.elsewhere p (λ y. x (inr y))).1,
                );
              };
          right = λ k x.
              elim x [
                | inl e ↦ rw (e, is-inner) (get_or-set_same m'.highs i v 0 (omega (arith, room.highs)) ∙ best)
                | inr y ↦ get_or-set_other m'.highs i k v 0 (not_own k y) ∙ kids-right k y
              ];
          others = λ k x. get_or-set_other m'.highs i k v 0 (λ e. x (inl e)) ∙ others k (λ y. x (inr y));
          skips = λ k z.
              elim z [
                | inl e ↦ rw e own-skips
                | inr y ↦ skips-same (get_or-set_other m'.not_below i k x 0 (not_own k y))
                    (λ j a b. (
                      refl,
                      marked_other m'.not_below i j x (later k j y a b),
                      get_or-set_other m'.highs i j v 0 (later k j y a b),
                    ))
                    (kids-skips k y)
              ];
          flags = λ k z. get_or-set_other m'.not_below i k x 0 (λ e. z (inl e)) ∙ flags k (λ y. z (inr y));
        }
