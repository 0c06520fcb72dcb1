-- Whether a text has a lowercase letter, as a fold over its bytes.
use Rattle.prelude.proofs.{ℕ, ◌≡◌, sym, ◌∙◌, Bool, ◌||◌, or-false, or_assoc, List, [], ◌∷◌}
use Rattle.std.specs.List.{fold}
use Rattle.file_hex.specs.{is_lowercase}
use Rattle.file_line.specs.{has_lowercase}

-- one of the bytes so far was one, or one of those of the text is
pub folded : (text : List ℕ) (small : Bool)
    → fold (λ found byte. found || is_lowercase byte) small text ≡ (small || has_lowercase text)
unfolding has_lowercase
folded [] small = sym (or-false small)
folded (b ∷ l) small =
    folded l (small || is_lowercase b) ∙ or_assoc small (is_lowercase b) (has_lowercase l)
