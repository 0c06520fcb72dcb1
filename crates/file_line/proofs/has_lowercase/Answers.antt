-- The fold over the bytes gives what the definition computes.
use Rattle.std.proofs.Common.{rules, ◌≡◌, false, ◌||◌, ◌∙◌}
use Rattle.std.specs.List.{fold}
use Rattle.file_hex.specs.{is_lowercase}
use Rattle.file_line.proofs.SmallLetters.{folded}
use Rattle.file_line.proofs.has_lowercase.Goals as goal

pub returns : goal.returns
returns c =
    let bytes : c.fold.result ≡ fold (λ found byte. found || is_lowercase byte) false c.args.text.now = search rules in
    bytes ∙ folded c.args.text.now false
