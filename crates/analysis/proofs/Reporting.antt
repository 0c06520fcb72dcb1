-- What the reader of a file gives is what the report goes by: an accepted table, or the first rejection of the file.
use Rattle.prelude.proofs.{ℕ, ◌*◌, ◌≤◌, arith, ◌≡◌, refl, sym, ap, ◌∙◌, List, [], ◌∷◌, ◌++◌, append-nil, Result, Ok}
use Rattle.prelude.proofs.{Err}
use Rattle.prelude.proofs.{length, take}
use Rattle.table.specs.declared.Rejection.{Rejection}
use Rattle.table.specs.{frame_size, max_nodes, max_table, tree, valuation, ◌leaving◌, WellFormed}
use Rattle.table.proofs.Acceptance.{accepted-formed}
use Rattle.file_line.specs.{decoded}
use Rattle.file_read.specs.{read_outcome}
use Rattle.file_read.proofs.Acceptance.{read-nodes, long-enough-rejected}
use Rattle.text.specs.{refused_line}
use Rattle.analysis.specs.{heading, analysis_on, report, line_by, analysis}
use Rattle.methods.specs.declared.Method.TheVariants.{AlphaBeta, Mtd, Sss}
use Rattle.methods.proofs.Rules.{all-evaluated}

module _ (t : List ℕ) (wf : WellFormed t) where
  -- the analysis of a table's tree has the lines of its methods
  three-lines : analysis_on (valuation t) (tree t)
      ≡ heading
      ++ (line_by (97 ∷ 98 ∷ []) AlphaBeta t
      ++ (line_by (109 ∷ 116 ∷ 100 ∷ []) Mtd t ++ line_by (115 ∷ 115 ∷ 115 ∷ []) (Sss max_nodes) t))
  unfolding line_by
  three-lines = rw (all-evaluated t wf max_nodes wf.at_most)

  analysed : analysis_on (valuation t) (tree t) ≡ analysis t
  analysed = three-lines ∙ rw (append-nil (line_by (115 ∷ 115 ∷ 115 ∷ []) (Sss max_nodes) t)) refl

module _ (f : List ℕ) where
  -- what is known once a file was read into a table: its first n frames are well formed, and their analysis is reported
  pub record Read (table : List ℕ) (n : ℕ) : Type 0 where
    pub at_most : n ≤ max_nodes
    pub formed : WellFormed (take (frame_size * n) table)
    pub reported : analysis (take (frame_size * n) table) ≡ report f

  module _ (fresh table : List ℕ) (a : Result ℕ Rejection) (e : a leaving table ≡ read_outcome f fresh) where
    pub read-accepted : (n : ℕ) → a ≡ Ok n → Read table n
    read-accepted n g =
        let p = read-nodes f fresh n (sym g ∙ ap (λ o. o.answer) e) in
        let formed = accepted-formed (decoded f) p.1 in
        let bytes : take (frame_size * n) table ≡ decoded f = ap (λ o. take (frame_size * n) o.left) e ∙ p.3 in
        record {
          at_most = omega (arith, p.2, formed.at_most);
          formed = rw bytes formed;
          reported = rw (bytes, p.0) (sym (analysed (decoded f) formed));
        }

    -- the rejection of a file that is read into a roomy table is printed
    pub read-rejected : max_table ≤ length fresh → (r : Rejection) → a ≡ Err r → refused_line r ≡ report f
    read-rejected room r g =
        rw (long-enough-rejected f fresh room r (sym g ∙ ap (λ o. o.answer) e)) refl
