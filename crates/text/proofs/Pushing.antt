-- Bytes pushed behind a text: in two parts, as one copy, and into an empty text.
use Rattle.prelude.proofs.{ℕ, suc, ◌+◌, ◌≤◌, ◌<◌, arith, ◌≡◌, refl, List, [], ◌∷◌, ◌++◌}
use Rattle.prelude.proofs.{length, take, drop, append_assoc, length-append, drop-set-lt, length-set, take-append-drop}
use Rattle.std.proofs.lemmas.List.{take_more_set}
use Rattle.std.proofs.lemmas.List.Sums.{fold-append}
use Rattle.text.specs.declared.Text.{Text}
use Rattle.text.specs.{laid, Put, pushed_byte, pushed}
use Rattle.text.proofs.Digits.{decimal-short, signed_decimal-few}

-- a part behind a part
pub pushed-append : (t : Text) (x y : List ℕ) → pushed t (x ++ y) ≡ pushed (pushed t x) y
pushed-append t x y = fold-append pushed_byte t x y

-- the length grows by theirs
pub pushed-length : (t : Text) (x : List ℕ) → (pushed t x).length ≡ t.length + length x
pushed-length t [] = omega arith
pushed-length t (b ∷ x) = omega (arith, pushed-length (pushed_byte t b) x)

-- what `grind` needs to follow a text that grows piece by piece
pub ruleset pushing = (pushed-append, pushed-length, length-append, decimal-short, signed_decimal-few)

-- the text t with the bytes x stored at once behind its own
abbrev pub copied : Text → List ℕ → Text
copied t x = record {
  bytes = take t.length t.bytes ++ (x ++ drop (t.length + length x) t.bytes);
  length = t.length + length x;
}

-- where there is room, that is the text with them pushed
pub pushed-copied : (t : Text) (x : List ℕ) → t.length + length x ≤ length t.bytes → copied t x ≡ pushed t x
pushed-copied t [] h =
    let e : t.length + 0 ≡ t.length = omega arith in
    rw e (rw (take-append-drop t.length t.bytes) refl)
pushed-copied t (b ∷ x) h =
    let l : t.length < length t.bytes = omega arith in
    let e : t.length + suc (length x) ≡ t.length + 1 + length x = omega arith in
    let front = take_more_set t.bytes t.length b l in
    let rest = drop-set-lt (t.length + 1 + length x) t.bytes t.length b (omega arith) in
    rw e (rw (← append_assoc (take t.length t.bytes) (b ∷ []) _, ← front, ← rest)
    (pushed-copied (pushed_byte t b) x (omega (arith, length-set t.bytes t.length b))))

-- what is laid behind the bytes of a text is pushed
pub put-pushed : (t : Text) (x : List ℕ) {n : ℕ} {b : List ℕ} → t.length + length x ≤ length t.bytes
    → Put t.length x t.bytes n b → record { bytes = b; length = n } ≡ pushed t x
unfolding laid
put-pushed t x {n} {b} h p =
    let e : n ≡ t.length + length x = p.behind in
    let c : b ≡ (copied t x).bytes = p.text in
    rw e (rw c (pushed-copied t x h))
