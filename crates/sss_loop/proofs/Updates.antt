-- What a list holds after some of its entries have been replaced.
use Rattle.prelude.proofs.{ℕ, zero, suc, ◌+◌, ◌≤◌, arith, add-one, ◌≡◌, refl, ap, ◌∙◌, List, [], ◌∷◌}
use Rattle.prelude.proofs.{◌++◌, length, set, drop, replicate, drop-set-lt}
use Rattle.sss_states.specs.declared.State.{State}
use Rattle.sss_states.specs.{blank, stored}
use Rattle.sss_turns.specs.{updated, blanks}

-- entries from n on are kept
pub stored-drop : {A : Type 0} (f : ℕ → A) (n i c : ℕ) (xs : List A) → i + c ≤ n → drop n (stored f i c xs) ≡ drop n xs
unfolding stored
stored-drop f n i zero xs h = refl
stored-drop f n i (suc c) xs h =
    stored-drop f n (i + 1) c (set xs i (f i)) (omega arith) ∙ drop-set-lt n xs i (f i) (omega arith)

-- past the first entry
stored_past : {A : Type 0} (x y : A) (i n : ℕ) (xs : List A)
    → stored (λ k. x) (suc i) n (y ∷ xs) ≡ y ∷ stored (λ k. x) i n xs
unfolding stored
stored_past x y i zero xs = refl
stored_past x y i (suc n) xs = rw (add-one i, add-one (suc i)) (stored_past x y (suc i) n (set xs i x))

-- the first n entries are blank
pub blank-first : (n : ℕ) (ls : List State) → n ≤ length ls → updated (blanks n) ls ≡ replicate n blank ++ drop n ls
unfolding stored
blank-first zero ls h = refl
blank-first (suc n) [] h = absurd (omega arith)
blank-first (suc n) (y ∷ ls) h =
    stored_past blank blank 0 n ls ∙ ap (λ k. blank ∷ k) (blank-first n ls (omega arith))
