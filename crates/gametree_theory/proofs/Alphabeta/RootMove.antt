-- Alpha-beta's own root move: the last child that raised alpha is the first child that has the root's value.
use Rattle.prelude.proofs.{ℕ, ◌≤◌, ◌<◌, max, arith, ◌≡◌, refl, ◌∙◌, Bool, true, false, cond, ltb, eqb, ltb-true}
use Rattle.prelude.proofs.{ltb-false, lt-ltb, le-ltb, eq-eqb, ne_eqb}
use Rattle.gametree.specs.declared.Side.TheVariants.{Max}
use Rattle.gametree.specs.{inner, Children, last, ◌then◌, least, minimax, minimax_children, number, Scored, first_with}
use Rattle.gametree.specs.{root_move_of}
use Rattle.gametree_theory.proofs.Minimax.Bounds.{minimax-score}

-- the last of the children under Max that raises alpha, which is α before them; k where none does
unfoldable pub raiser : (ℕ → ℕ) → ℕ → ℕ → Children → ℕ
raiser ν α k (last t) = cond (ltb α (minimax ν t)) (number t) k
raiser ν α k (t then ts) = raiser ν (max α (minimax ν t)) (cond (ltb α (minimax ν t)) (number t) k) ts

-- a child of value m and number n before children whose best value is b, of which g b is the first to have it
first-raiser : (α m b n k : ℕ) (g : ℕ → ℕ)
    → cond (ltb (max α m) b) (g b) (cond (ltb α m) n k)
    ≡ cond (ltb α (max m b)) (cond (eqb m (max m b)) n (g (max m b))) k
first-raiser α m b n k g = go (ltb (max α m) b) refl (ltb α m) refl
  where
    go : (x : Bool) → ltb (max α m) b ≡ x → (y : Bool) → ltb α m ≡ y
        → cond x (g b) (cond y n k) ≡ cond (ltb α (max m b)) (cond (eqb m (max m b)) n (g (max m b))) k
    go true p y q =
        let h : max α m < b = ltb-true _ _ p in
        let e : max m b ≡ b = omega arith in
        rw (e, lt-ltb α b (omega arith), ne_eqb m b (λ d. omega arith)) refl
    go false p true q =
        let h : b ≤ max α m = ltb-false _ _ p in
        let i : α < m = ltb-true _ _ q in
        let e : max m b ≡ m = omega arith in
        rw (e, lt-ltb α m i, eq-eqb m m refl) refl
    go false p false q =
        let h : b ≤ max α m = ltb-false _ _ p in
        let i : m ≤ α = ltb-false _ _ q in
        rw (le-ltb α (max m b) (omega arith)) refl

-- it is the first child of the best value, where that is above α
raiser-first : (ν : ℕ → ℕ) (α k : ℕ) (ks : Children)
    → raiser ν α k ks
    ≡ cond (ltb α (minimax_children ν Max ks)) (first_with (minimax ν) (minimax_children ν Max ks) ks) k
unfolding raiser
raiser-first ν α k (last t) = rw (eq-eqb (minimax ν t) (minimax ν t) refl) refl
raiser-first ν α k (t then ts) =
    raiser-first ν (max α (minimax ν t)) _ ts
    ∙ first-raiser α (minimax ν t) (minimax_children ν Max ts) (number t) k (λ v. first_with (minimax ν) v ts)

-- so from the least score on it is the root move
pub raiser-move : (ν : ℕ → ℕ) (n : ℕ) (ks : Children) → Scored ν (inner n Max ks)
    → raiser ν least 0 ks ≡ root_move_of ν (inner n Max ks)
raiser-move ν n ks h =
    raiser-first ν least 0 ks ∙ rw (lt-ltb least _ (minimax-score ν (inner n Max ks) h).0) refl
