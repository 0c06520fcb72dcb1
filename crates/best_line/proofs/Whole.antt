-- The steps of a call: SSS* finds the value and writes its certificate, whose principal variation is then given.
use Rattle.table.specs.declared.Rejection.{Rejection}
use Rattle.prelude.proofs.{ℕ, ◌≤◌, arith, ◌≡◌, sym, ap, ap₂, ◌∙◌, List, [], ◌∷◌, ◌++◌, length, drop, replicate, Result}
use Rattle.prelude.proofs.{length-replicate}
use Rattle.table.specs.{max_nodes, frames, Accepted, ◌leaving◌}
use Rattle.table.proofs.Acceptance.{accepted-formed}
use Rattle.certificate_write.proofs.Questions.{room-passed}
use Rattle.methods.specs.declared.Method.{Method}
use Rattle.methods.specs.declared.Method.TheVariants.{Sss}
use Rattle.methods.specs.declared.Answer.{Answer}
use Rattle.methods.specs.declared.Answer.TheVariants.{Found}
use Rattle.methods.specs.{evaluated_by, Lent, lent, findings_by, answer_by, flags_left, search_outcome}
use Rattle.methods.proofs.Rules.{enough, decides}
use Rattle.variation.specs.{principal_outcome}
use Rattle.variation.proofs.Given.{gives}
use Rattle.variation.specs.declared.LineFound.{LineFound}
use Rattle.best_line.specs.{certificate_of, best_line_of, line_found, found_in, line_length}
use Rattle.best_line.proofs.Certified.{written-certificate}

abbrev zeros : List ℕ
zeros = replicate max_nodes 0

module _ (t : List ℕ) (accepted : Accepted t) where
  abbrev m : Method
  m = Sss max_nodes

  room : frames t ≤ length zeros
  room = omega (arith, (accepted-formed t accepted).at_most, length-replicate {A = ℕ} max_nodes 0)

  -- SSS* finds, and writes the certificate over the zeros
  searched : (a : Answer) (l : Lent) → a leaving l ≡ search_outcome m t (lent zeros zeros zeros)
      → (a ≡ Found (findings_by m t)) × (l.flags ≡ certificate_of t)
  searched a l e =
      let none = room-passed t (length zeros ∷ length zeros ∷ length zeros ∷ []) accepted (room, (room, (room, tt))) in
      let all = enough t (accepted-formed t accepted) max_nodes (accepted-formed t accepted).at_most in
      let o = rw none at e in (
        ap (λ x. x.answer) o ∙ ap (λ xs. answer_by xs m t) all,
        ap (λ x. x.left.flags) o ∙ ap (λ xs. flags_left xs m t zeros) all,
      )

  module _ (line : List ℕ) (long : frames t ≤ length line) where
    -- and the variation of that certificate is the line
    pub find-gives : (a : Answer) (l : Lent) (p : Result ℕ Rejection) (line' : List ℕ) (f : LineFound) (n : ℕ)
        → a leaving l ≡ search_outcome m t (lent zeros zeros zeros)
        → p leaving line' ≡ principal_outcome t l.flags line → n ≡ line_length p → f ≡ found_in a n
        → (f ≡ line_found t) × (line' ≡ best_line_of t ++ drop f.length line)
    unfolding best_line_of
    find-gives a l p line' f n e q y x =
        let s = searched a l e in
        let wf = accepted-formed t accepted in
        let all = enough t wf max_nodes wf.at_most in
        let c = written-certificate t accepted (evaluated_by m t) (decides t wf m all) zeros room in
        let g = (rw s.1 at q) ∙ gives t (certificate_of t) line line' c long in
        let k = y ∙ ap line_length (ap (λ o. o.answer) g) in
        let u : f ≡ line_found t = x ∙ ap₂ found_in s.0 k in
        (u, ap (λ o. o.left) g ∙ ap (λ i. best_line_of t ++ drop i line) (sym (ap (λ y. y.length) u)))
