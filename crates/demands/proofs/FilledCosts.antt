-- What is proved of alpha-beta on a table that was filled, for `costs-most` in Sentences.antt.
use Rattle.prelude.proofs.{ℕ, ◌≤◌, ◌<◌, arith, ◌≡◌, sym, ap, ap₂, ◌∙◌, subst, cond, List, eqb, length, get_or, Ok}
use Rattle.lists.specs.{among}
use Rattle.lists.proofs.Lists.{sub-length}
use Rattle.gametree.specs.{leaves}
use Rattle.gametree_theory.proofs.Theorems.{alpha_beta-leaves, alpha_beta-ordered}
use Rattle.table.specs.{frames, child_count, tree, valuation, SameShape}
use Rattle.table.proofs.Acceptance.{accepted-formed}
use Rattle.table.proofs.Shapes.{same-tree}
use Rattle.methods.specs.declared.Method.TheVariants.{AlphaBeta}
use Rattle.methods.specs.declared.Findings.{Findings}
use Rattle.methods.specs.declared.Answer.TheVariants.{Found}
use Rattle.methods.specs.{evaluated_by}
use Rattle.plain.proofs.Leaves.{leaves-are}
use Rattle.worst_fill.specs.{fill_outcome, handed}
use Rattle.worst_fill.proofs.Whole.{fill-given}
use Rattle.worst_fill.proofs.WorstFill.{worst-reached}
use Rattle.demands.specs.{Call}
use Rattle.demands.proofs.Running.{Says}
use Rattle.demands.proofs.Views as views
use Rattle.demands.proofs.Handed.{leaves_by, marking, marks-at}
use Rattle.demands.proofs.WorstFill.{only-accepted, leaf-count, filled-shape}

module _ (t : List ℕ) (n : ℕ) (e : (fill_outcome t).answer ≡ Ok n) where
  all-leaves : evaluated_by AlphaBeta (handed t) ≡ leaves (tree t)
  all-leaves =
      subst (λ u. evaluated_by AlphaBeta u ≡ leaves (tree t)) (sym (fill-given t n e).2)
      (worst-reached t (only-accepted t n e))

  -- a call by alpha-beta that gives a result
  module _ (c : Call) (s : Says c) (i : c.method ≡ AlphaBeta) (g : Findings) (f : c.answer ≡ Found g) where
    counted : g.leaves ≡ length (evaluated_by AlphaBeta c.table)
    counted = ap (λ x. x.leaves) (views.findings c s g f) ∙ ap (λ m. length (evaluated_by m c.table)) i

    -- "so no filling of the shape costs it more"
    pub none-costlier : SameShape t c.table → g.leaves ≤ n
    none-costlier h =
        let u = c.table in
        let w = views.formed c s (views.found-given c s g f) in
        omega (
          arith,
          counted,
          sub-length (alpha_beta-ordered (valuation u) (tree u)),
          ap length (alpha_beta-leaves (valuation u) (tree u)),
          ap (λ T. length (leaves T)) (same-tree t u h (accepted-formed t (only-accepted t n e)) w),
          leaf-count t n e,
        )

    -- "In that tree alpha-beta values every leaf": its count is the number of leaves, and a node's mark is 1 if it has
    -- no children, and else 0
    module _ (there : c.table ≡ handed t) where
      every-leaf : leaves_by c ≡ leaves (tree t)
      every-leaf = ap₂ evaluated_by i there ∙ all-leaves

      pub every-leaf-counted : g.leaves ≡ n
      every-leaf-counted =
          ap (λ x. x.leaves) (views.findings c s g f) ∙ ap length every-leaf ∙ sym (leaf-count t n e)

      pub every-leaf-marked : (k : ℕ) → k < frames t
          → get_or c.left.marks k 0 ≡ cond (eqb (child_count t k) 0) 1 0
      every-leaf-marked k h =
          marks-at (marking c s (views.found-given c s g f)) k
          (omega (arith, ap frames there, (filled-shape t n e).0.same_frames))
          ∙ ap (λ w. cond (among w k) 1 0) every-leaf
          ∙ ap (λ b. cond b 1 0) (leaves-are t (accepted-formed t (only-accepted t n e)) k h)
