-- How long a rejection's line is; and what is laid into zeros, or pushed into an empty text, is the text of it.
use Rattle.prelude.proofs.{ℕ, ◌-◌, ◌≤◌, arith, zero-add, ◌≡◌, refl, sym, ap, ◌∙◌, List, [], ◌++◌}
use Rattle.prelude.proofs.{length, take, drop, replicate, length-append, length-replicate, take_at}
use Rattle.std.proofs.lemmas.List.{drop-replicate}
use Rattle.table.specs.declared.Rejection.{Rejection}
use Rattle.text.specs.declared.Text.{Text}
use Rattle.text.specs.{refused_line, laid, TextRoom, Put, pushed, text_size, text_of}
use Rattle.text.proofs.Digits.{decimal-short}
use Rattle.text.proofs.Pushing.{pushed-copied}

-- a rejection's line
pub refused-few : (r : Rejection) → length (refused_line r) ≤ text_size
refused-few r = simp length-append (omega (arith, decimal-short r.number, decimal-short r.place))

-- bytes that a text has room for
module _ (x : List ℕ) where
  -- they have room in a buffer of its size
  pub text-room : {b : List ℕ} → length x ≤ text_size → text_size ≤ length b → TextRoom 0 x b
  text-room at_most h = record { enough = omega arith }

  -- what was laid into zeros is the text of them
  pub text-laid : {n : ℕ} {b : List ℕ} → Put 0 x (replicate text_size 0) n b
      → record { bytes = b; length = n } ≡ text_of x
  unfolding text_of laid
  text-laid {n} {b} p =
      let k : n ≡ length x = omega (arith, p.behind) in
      let z : b ≡ x ++ replicate (text_size - length x) 0 =
      p.text
      ∙ ap (λ i. x ++ drop {A = ℕ} i (replicate text_size 0)) (zero-add (length x))
      ∙ ap (λ y. x ++ y) (drop-replicate {X = ℕ} (length x) text_size 0) in
      cc

  -- pushed into an empty text they are the text of them
  pub pushed-text : length x ≤ text_size → pushed (text_of []) x ≡ text_of x
  unfolding text_of
  pushed-text h =
      sym (pushed-copied (text_of []) x (omega (arith, length-replicate {A = ℕ} text_size 0)))
      ∙ rw (zero-add (length x), drop-replicate {X = ℕ} (length x) text_size 0)

  -- the length of a text is within it
  pub length-within : {r : Text} → r ≡ text_of x → r.length ≤ length r.bytes
  unfolding text_of
  length-within e =
      omega (
        arith,
        ap (λ t. t.length) e,
        ap (λ t. length t.bytes) e,
        length-append x (replicate (text_size - length x) 0),
      )

  -- its length is that of x, and so many of its bytes are those of x
  pub text-bytes : {r : Text} → r ≡ text_of x → (r.length ≡ length x) × (take r.length r.bytes ≡ x)
  unfolding text_of
  text-bytes e = (ap (λ t. t.length) e, ap (λ t. take t.length t.bytes) e ∙ take_at x _ (length x) refl)
