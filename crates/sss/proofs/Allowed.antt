-- A run within an allowance, by how it ends: it is what the method's rule gives.
use Rattle.prelude.proofs.{ℕ, ◌≡◌, refl, sym, ap, ◌∙◌, List, [], ◌∷◌, length}
use Rattle.lists.proofs.Choice.{clash}
use Rattle.gametree.specs.{root_move_of, Evaluation, Ran as Within, finished, spent, sss_within}
use Rattle.gametree_theory.proofs.Theorems.{sss-minimax}
use Rattle.gametree_theory.proofs.Within.{covered-full, spent-first, within-leaves}
use Rattle.table.specs.{tree, valuation, WellFormed, value_of}
use Rattle.table.proofs.Proper.{tree-proper}
use Rattle.methods.specs.declared.Answer.{Answer}
use Rattle.methods.specs.declared.Answer.TheVariants.{Found, Spent}
use Rattle.methods.specs.declared.Method.TheVariants.{Sss}
use Rattle.methods.specs.{run_of, evaluated_by, beyond, answer_by}

module _ (t : List ℕ) (wf : WellFormed t) (a : ℕ) where
  abbrev within : Within
  within = sss_within a (valuation t) (tree t)

  module _ (γ k : ℕ) (w : List ℕ) where
    -- its leaves are those of the rule
    module _ (f : ℕ → _) (h : within ≡ record { end = f γ; evaluated = w; replacements = k }) where
      pub leaves-are : w ≡ evaluated_by (Sss a) t
      leaves-are =
          sym (ap (λ r. r.evaluated) h) ∙ within-leaves (valuation t) (tree t) (tree-proper t wf) a

    -- one that took the SOLVED root, where n is the root move
    pub answer-finished : (n : ℕ) → n ≡ root_move_of (valuation t) (tree t)
        → within ≡ record { end = finished γ; evaluated = w; replacements = k }
        → ◌≡◌ {A = Answer} (Found (record { value = value_of γ; root_move = n; leaves = length w; steps = k }))
        (answer_by (beyond (Sss a) t) (Sss a) t)
    answer-finished n m h = by_left (beyond (Sss a) t) refl
      where
        by_left : (xs : List Evaluation) → beyond (Sss a) t ≡ xs
            → ◌≡◌ {A = Answer} (Found (record { value = value_of γ; root_move = n; leaves = length w; steps = k }))
            (answer_by xs (Sss a) t)
        by_left [] i =
            let f = sym h ∙ covered-full (valuation t) (tree t) a i in
            let v : γ ≡ (run_of t).value = cc (ap (λ r. r.end) f) in
            let x = ap value_of (v ∙ sss-minimax (valuation t) (tree t) (tree-proper t wf)) in
            let y = ap length (leaves-are finished h) in
            let z : k ≡ (run_of t).replacements = ap (λ r. r.replacements) f in
            cc
        by_left (x ∷ xs) i =
            let s = spent-first (valuation t) (tree t) a x xs i in
            clash (cc (ap (λ r. r.end) h, ap (λ r. r.end) s))

    -- and one that the allowance ended
    pub answer-spent : within ≡ record { end = spent γ; evaluated = w; replacements = k }
        → ◌≡◌ {A = Answer} (Spent (record { merit = value_of γ; leaves = length w; steps = k }))
        (answer_by (beyond (Sss a) t) (Sss a) t)
    answer-spent h = by_left (beyond (Sss a) t) refl
      where
        by_left : (xs : List Evaluation) → beyond (Sss a) t ≡ xs
            → ◌≡◌ {A = Answer} (Spent (record { merit = value_of γ; leaves = length w; steps = k }))
            (answer_by xs (Sss a) t)
        by_left [] i =
            let f = covered-full (valuation t) (tree t) a i in
            clash (cc (ap (λ r. r.end) h, ap (λ r. r.end) f))
        by_left (x ∷ xs) i =
            let s = sym h ∙ spent-first (valuation t) (tree t) a x xs i in
            let v : γ ≡ x.merit = cc (ap (λ r. r.end) s) in
            let y = ap length (leaves-are spent h) in
            let z : k ≡ x.replacements = ap (λ r. r.replacements) s in
            cc
