-- Buffers that are written from the left.
use Rattle.prelude.proofs.{ℕ, zero, suc, ◌+◌, ◌-◌, ◌≤◌, ◌<◌, arith, add-one, ◌≡◌, refl, sym, ap, ap₂, ◌∙◌, cond, List}
use Rattle.prelude.proofs.{[], ◌∷◌, ◌++◌, map, append_assoc, eqb, length, get_or, set, drop, length-append, length-drop}
use Rattle.prelude.proofs.{length-set, get_or-append, drop-cons, drop-set-lt, set_at, set-append_left}
use Rattle.prelude.proofs.{get_or-append-add, get_or-drop, get_or-set_same, eq-eqb, ne_eqb}
use Rattle.table.specs.{up_from}
use Rattle.table.proofs.Ranges.{length_up, up_at, up_same, up_next}
use Rattle.table_positions.specs.{written}

-- nothing written
pub written_none : (f : ℕ → ℕ) (b : List ℕ) → written f 0 b ≡ b
unfolding written up_from
written_none f b = refl

-- the next entry is stored behind those written
pub written_next : (f : ℕ → ℕ) (n : ℕ) (b : List ℕ) → n < length b → set (written f n b) n (f n) ≡ written f (n + 1) b
unfolding written
written_next f n b h =
    let l = map f (up_from 0 n) in
    let next = up_next f 0 n n (omega arith) in
    rw (drop-cons b n 0 h, set_at l (get_or b n 0) (drop (suc n) b) (f n) n (length_up f 0 n), add-one n, next)
    (sym (append_assoc l (f n ∷ []) (drop (suc n) b)))

-- the length stays
pub written-length : (f : ℕ → ℕ) (n : ℕ) (b : List ℕ) → n ≤ length b → length (written f n b) ≡ length b
unfolding written
written-length f n b h = simp (length-append, length-drop) (omega (arith, length_up f 0 n))

-- what stands at a node's entry
pub written_at : (f : ℕ → ℕ) (n k : ℕ) (b : List ℕ) → k < n → get_or (written f n b) k 0 ≡ f k
unfolding written
written_at f n k b h =
    get_or-append (map f (up_from 0 n)) (drop n b) 0 k (omega (arith, length_up f 0 n))
    ∙ up_at f 0 n k h ∙ ap f (omega arith)

-- and past those written
pub written-past : (f : ℕ → ℕ) (n k : ℕ) (b : List ℕ) → n ≤ k → n ≤ length b → get_or (written f n b) k 0 ≡ get_or b k 0
unfolding written
written-past f n k b h l =
    let l = map f (up_from 0 n) in
    let e : k ≡ length l + (k - n) = omega (arith, length_up f 0 n) in
    let d : n + (k - n) ≡ k = omega arith in
    ap (λ j. get_or (l ++ drop n b) j 0) e ∙ get_or-append-add l (drop n b) (k - n) 0 ∙ get_or-drop n b (k - n) 0
    ∙ ap (λ j. get_or b j 0) d

-- the entry behind those to be written is stored before them
pub written_behind : (f : ℕ → ℕ) (n : ℕ) (b : List ℕ) → n < length b
    → written f n (set b n (f n)) ≡ written f (n + 1) b
unfolding written
written_behind f n b h =
    let l : n < length (set b n (f n)) = omega (arith, length-set b n (f n)) in
    let d = drop-set-lt (suc n) b n (f n) (omega arith) in
    rw (drop-cons (set b n (f n)) n 0 l, get_or-set_same b n (f n) 0 h, d, add-one n, up_next f 0 n n (omega arith))
    (sym (append_assoc (map f (up_from 0 n)) (f n ∷ []) (drop (suc n) b)))

-- the same entries, the same buffer
pub written_same : (f g : ℕ → ℕ) (n : ℕ) (b : List ℕ) → ((k : ℕ) → k < n → f k ≡ g k) → written f n b ≡ written g n b
unfolding written
written_same f g n b e = ap (λ l. l ++ drop n b) (up_same f g 0 n (λ k l h. e k (omega arith)))

-- an entry that is written over later does not matter
pub written_over : (f : ℕ → ℕ) (n k v : ℕ) (b : List ℕ) → k < n → written f n (set b k v) ≡ written f n b
unfolding written
written_over f n k v b h = ap (λ l. map f (up_from 0 n) ++ l) (drop-set-lt n b k v h)

-- f with the value v at k
abbrev pub put : (ℕ → ℕ) → ℕ → ℕ → ℕ → ℕ
put f k v j = cond (eqb j k) v (f j)

pub put_same : (f : ℕ → ℕ) (k v : ℕ) → put f k v k ≡ v
put_same f k v = rw (eq-eqb k k refl)

pub put_other : (f : ℕ → ℕ) (k v j : ℕ) → (j ≡ k → ⊥) → put f k v j ≡ f j
put_other f k v j h = rw (ne_eqb j k h)

up-set : (f : ℕ → ℕ) (i n j k v : ℕ) → j < n → k ≡ i + j
    → set (map f (up_from i n)) j v ≡ map (put f k v) (up_from i n)
unfolding up_from
up-set f i zero j k v h e = absurd (omega arith)
up-set f i (suc n) zero k v h e =
    let same : k ≡ i = omega arith in
    ap₂ ◌∷◌ (rw same (sym (put_same f i v)))
    (up_same f (put f k v) (i + 1) n (λ m l _. sym (put_other f k v m (λ q. omega arith))))
up-set f i (suc n) (suc j) k v h e =
    ap₂ ◌∷◌ (sym (put_other f k v i (λ q. omega arith))) (up-set f (i + 1) n j k v (omega arith) (omega arith))

-- an entry stored among those written
pub written-set : (f : ℕ → ℕ) (n k v : ℕ) (b : List ℕ) → k < n → set (written f n b) k v ≡ written (put f k v) n b
unfolding written
written-set f n k v b h =
    set-append_left (map f (up_from 0 n)) (drop n b) k v (omega (arith, length_up f 0 n))
    ∙ ap (λ l. l ++ drop n b) (up-set f 0 n k k v h (omega arith))
