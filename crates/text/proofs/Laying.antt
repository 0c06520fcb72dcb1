-- Text that is laid into a buffer piece by piece.
use Rattle.prelude.proofs.{ℕ, zero, suc, ◌+◌, ◌≤◌, ◌<◌, arith, add-one, ◌≡◌, refl, sym, ap, ap₂, ◌∙◌}
use Rattle.prelude.proofs.{List, [], ◌∷◌, ◌++◌, append_assoc, length, get_or, set, take, drop, take-append-drop}
use Rattle.prelude.proofs.{length-append, length-take, length-drop, set_split, take-suc, take_at, drop_at, drop-drop}
use Rattle.text.specs.{laid, TextRoom, Put}

-- nothing laid
pub laid_none : (at : ℕ) (b : List ℕ) → laid at [] b ≡ b
unfolding laid
laid_none at b = let e : at + 0 ≡ at = omega arith in rw e (take-append-drop at b)

-- one byte laid is a byte stored
pub laid_one : (at x : ℕ) (b : List ℕ) → at < length b → set b at x ≡ laid at (x ∷ []) b
unfolding laid
laid_one at x b h = set_split b at x h ∙ ap (λ k. take at b ++ (x ∷ drop k b)) (sym (add-one at))

-- the length stays
pub laid-length : (at : ℕ) (x b : List ℕ) → at + length x ≤ length b → length (laid at x b) ≡ length b
unfolding laid
laid-length at x b h =
    simp (length-append, length-take, length-drop) (omega arith)

-- a piece behind a piece
pub laid_more : (at : ℕ) (x y b : List ℕ) → at + length x ≤ length b
    → laid (at + length x) y (laid at x b) ≡ laid at (x ++ y) b
unfolding laid
laid_more at x y b h =
    let front = take at b ++ x in
    let n : length front ≡ at + length x =
    length-append (take at b) x ∙ ap (λ k. k + length x) (length-take at b ∙ omega arith) in
    let whole : take at b ++ (x ++ drop (at + length x) b) ≡ front ++ drop (at + length x) b =
    sym (append_assoc (take at b) x (drop (at + length x) b)) in
    let e : at + length x + length y ≡ at + length (x ++ y) = omega (arith, length-append x y) in
    ap₂ (λ k l. k ++ (y ++ l))
    (ap (take (at + length x)) whole ∙ take_at front (drop (at + length x) b) (at + length x) n)
    (ap (drop (at + length x + length y)) whole
    ∙ sym (drop-drop (length y) (at + length x) (front ++ drop (at + length x) b))
    ∙ ap (drop (length y)) (drop_at front (drop (at + length x) b) (at + length x) n)
    ∙ drop-drop (length y) (at + length x) b ∙ ap (λ k. drop k b) e)
    ∙ append_assoc (take at b) x (y ++ drop (at + length (x ++ y)) b)
    ∙ ap (λ k. take at b ++ k) (sym (append_assoc x y (drop (at + length (x ++ y)) b)))

-- room for a text is room for its front
pub room-front : {at : ℕ} {x b : List ℕ} (y : List ℕ) → TextRoom at (x ++ y) b → TextRoom at x b
room-front {x} y h = record { enough = omega (arith, length-append x y) }

module _ {at : ℕ} {x b : List ℕ} {n : ℕ} {b' : List ℕ} where
  -- once the front is laid, there is room for the rest behind it
  pub room-rest : (y : List ℕ) → Put at x b n b' → TextRoom at (x ++ y) b → TextRoom n y b'
  room-rest y p h =
      let l = length-append x y in
      record { enough = omega (arith, p.behind, ap length p.text, laid-length at x b (omega arith)) }

  -- and the rest laid there makes the whole
  pub put_then : {y : List ℕ} {m : ℕ} {b'' : List ℕ} → Put at x b n b' → TextRoom at (x ++ y) b → Put n y b' m b''
      → Put at (x ++ y) b m b''
  put_then {y} p h q =
      let r : TextRoom at x b = room-front y h in
      record {
        behind = omega (arith, p.behind, q.behind, length-append x y);
        text = q.text ∙ ap₂ (λ i t. laid i y t) p.behind p.text ∙ laid_more at x y b r.enough;
      }

-- the next byte of a word is stored behind those laid
pub laid_next : (at i : ℕ) (word b : List ℕ) → at + length word ≤ length b → i < length word
    → set (laid at (take i word) b) (at + i) (get_or word i 0) ≡ laid at (take (i + 1) word) b
laid_next at i word b h l =
    let n : length (take i word) ≡ i = length-take i word ∙ omega arith in
    let x = take i word in
    let e : at + i ≡ at + length x = omega (arith, n) in
    ap (λ k. set (laid at x b) k (get_or word i 0)) e
    ∙ laid_one (at + length x) (get_or word i 0) (laid at x b) (omega (arith, n, laid-length at x b (omega (arith, n))))
    ∙ laid_more at x (get_or word i 0 ∷ []) b (omega (arith, n))
    ∙ ap (λ k. laid at k b) (sym (take-suc word i 0 l) ∙ ap (λ k. take k word) (sym (add-one i)))

-- a whole word
pub take_whole : (word : List ℕ) (i : ℕ) → length word ≤ i → take i word ≡ word
take_whole [] zero h = refl
take_whole [] (suc i) h = refl
take_whole (x ∷ word) zero h = absurd (omega arith)
take_whole (x ∷ word) (suc i) h = ap (λ k. x ∷ k) (take_whole word i (omega arith))
