-- Each line stands behind the one before.
use Rattle.prelude.proofs.{arith, refl, [], ◌∷◌}
use Rattle.table.specs.{max_nodes}
use Rattle.methods.specs.declared.Method.TheVariants.{AlphaBeta, Mtd, Sss}
use Rattle.methods.proofs.Rules.{enough}
use Rattle.text.proofs.Pushing.{pushing}
use Rattle.text.proofs.Sizes.{pushed-text}
use Rattle.analysis.specs.{analysis}
use Rattle.analysis.proofs.Searches.{found-line}
use Rattle.analysis.proofs.Sizes.{analysis-few}
use Rattle.analysis.proofs.analyse.Goals as goal

pub returns : goal.returns
returns c =
    let t = c.args.table.now in
    let ab = found-line t (97 ∷ 98 ∷ []) AlphaBeta _ c.find-ab.ensures.value refl in
    let mtd = found-line t (109 ∷ 116 ∷ 100 ∷ []) Mtd _ c.find-mtd.ensures.value refl in
    let all = enough t c.requires max_nodes c.requires.at_most in
    let sss = found-line t (115 ∷ 115 ∷ 115 ∷ []) (Sss max_nodes) _ c.find-sss.ensures.value all in
    let whole = pushed-text (analysis t) (analysis-few t) in
    grind (arith, pushing, ab, mtd, sss, whole)
