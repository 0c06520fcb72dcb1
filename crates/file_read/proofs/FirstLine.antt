-- A question put to each line of a file in turn (3 and 16): the place of a "no" is the number of the first line that
-- gets it.
use Rattle.prelude.proofs.{ℕ, zero, suc, ◌+◌, ◌<◌, arith, ◌≡◌, refl, ap, subst, ⊎_elim, Bool, true, false, Option, none}
use Rattle.prelude.proofs.{some, List, [], ◌∷◌, length, get_or}
use Rattle.lists.proofs.Choice.{clash, true-not-false}
use Rattle.table.specs.declared.Rejection.{Rejection}
use Rattle.table.specs.{ask}
use Rattle.table.proofs.Stated.{ask-yes, both-passed}
use Rattle.table.proofs.FirstNo.{ask-no, then-first}
use Rattle.file_line.specs.{lines_of}
use Rattle.file_read.specs.{each_line}

-- the question of number q: does a line pass a test
module _ (q : ℕ) (passes : List ℕ → Bool) where
  abbrev asked : ℕ → List ℕ → Option Rejection
  asked i l = ask (passes l) q i

  -- of these lines, the first of them number i, the line of the rejection's place is the first that does not pass
  record FirstLine (i : ℕ) (ls : List (List ℕ)) (r : Rejection) : Type 0 where
    line : ℕ
    within : line < length ls
    told : r ≡ record { number = q; place = i + line }
    no : passes (get_or ls line []) ≡ false
    before : (k : ℕ) → k < line → passes (get_or ls k []) ≡ true

  module _ (i : ℕ) (l : List ℕ) (ls : List (List ℕ)) (r : Rejection) where
    here : asked i l ≡ some r → FirstLine i (l ∷ ls) r
    here e =
        let p = ask-no (passes l) q i r e in
        let z : i ≡ i + 0 = omega arith in
        record {
          line = 0;
          within = omega arith;
          told = subst (λ k. r ≡ record { number = q; place = k }) z p.1;
          no = p.0;
          before = λ k h. absurd (omega arith);
        }

    later : passes l ≡ true → FirstLine (i + 1) ls r → FirstLine i (l ∷ ls) r
    later y f =
        let z : i + 1 + f.line ≡ i + suc f.line = omega arith in
        record {
          line = suc f.line;
          within = omega (arith, f.within);
          told = subst (λ k. r ≡ record { number = q; place = k }) z f.told;
          no = f.no;
          before = earlier f.line f.before;
        }
      where
        earlier : (n : ℕ) → ((k : ℕ) → k < n → passes (get_or ls k []) ≡ true) → (k : ℕ) → k < suc n
            → passes (get_or (l ∷ ls) k []) ≡ true
        earlier n b zero h = y
        earlier n b (suc k) h = b k (omega arith)

  lines-first : (i : ℕ) (ls : List (List ℕ)) (r : Rejection) → each_line asked i ls ≡ some r → FirstLine i ls r
  unfolding each_line
  lines-first i [] r e = clash (cc)
  lines-first i (l ∷ ls) r e =
      ⊎_elim (here i l ls r)
      (λ h. later i l ls r (ask-yes (passes l) q i h.0) (lines-first (i + 1) ls r h.1))
      (then-first (asked i l) (each_line asked (i + 1) ls) r e)

  -- a "no" to it
  pub line_first : (f : List ℕ) (r : Rejection) → each_line asked 0 (lines_of f) ≡ some r
      → (r.number ≡ q) × (r.place < length (lines_of f)) × (passes (get_or (lines_of f) r.place []) ≡ false)
      × ((k : ℕ) → k < r.place → passes (get_or (lines_of f) k []) ≡ true)
  line_first f r e =
      let a = lines-first 0 (lines_of f) r e in
      let n = ap (λ x. x.number) a.told in
      let p : r.place ≡ a.line = omega (arith, ap (λ x. x.place) a.told) in
      (n, omega (arith, p, a.within), rw p a.no, λ k h. a.before k (omega (arith, p)))

  -- where every line passes, there is none
  lines-passed : (i : ℕ) (ls : List (List ℕ)) → each_line asked i ls ≡ none → (k : ℕ) → k < length ls
      → passes (get_or ls k []) ≡ true
  unfolding each_line
  lines-passed i [] e k h = absurd (omega arith)
  lines-passed i (l ∷ ls) e zero h = ask-yes (passes l) q i (both-passed (asked i l) _ e).0
  lines-passed i (l ∷ ls) e (suc k) h = lines-passed (i + 1) ls (both-passed (asked i l) _ e).1 k (omega arith)

  -- so a line that does not pass gets one
  pub line-asked : (f : List ℕ) (k : ℕ) → k < length (lines_of f) → passes (get_or (lines_of f) k []) ≡ false
      → (r : Rejection) × (each_line asked 0 (lines_of f) ≡ some r)
  line-asked f k h e = by-questions (each_line asked 0 (lines_of f)) refl
    where
      by-questions : (x : Option Rejection) → each_line asked 0 (lines_of f) ≡ x
          → (r : Rejection) × (each_line asked 0 (lines_of f) ≡ some r)
      by-questions none p = absurd (true-not-false (lines-passed 0 (lines_of f) p k h) e)
      by-questions (some r) p = (r, p)
