-- A run over a front and a list of its own: what it leaves is what the method's rule gives.
use Rattle.prelude.proofs.{ℕ, ◌≡◌, ap, subst, List, replicate, Ok}
use Rattle.table.specs.{max_nodes, frames, WellFormed}
use Rattle.table_positions.specs.{written}
use Rattle.certificate_bounds.specs.{Progress, progress}
use Rattle.certificate_write.specs.{marks_of, listed}
use Rattle.methods.specs.declared.Method.TheVariants.{Sss}
use Rattle.methods.specs.{evaluated_by, beyond, answer_by}
use Rattle.sss_states.specs.{blank}
use Rattle.sss_turns.specs.declared.Run.{Run}
use Rattle.sss_turns.specs.{going, Config}
use Rattle.sss_loop.specs.{Running, DrivenOwn}
use Rattle.sss.specs.{begun, answer_of}
use Rattle.sss.proofs.Whole.{answer-is, marks-so, order-so}

module _ (a : ℕ) (t : List ℕ) (wf : WellFormed t) (b o b₁ : List ℕ) (r : Run)
    (cleared : b₁ ≡ written (λ k. 0) (frames t) b) (begins : r ≡ begun a (Ok (frames t))) {p' : Progress} {r' : Run}
    (d : DrivenOwn t (progress 0 b₁ o) r p' r') where
  abbrev config : Config
  config = record { front = d.front; list = d.list; progress = p'; run = r' }

  ran : Running a t (replicate max_nodes blank) (progress 0 (written (λ k. 0) (frames t) b) o) config
  ran =
      subst (λ m. Running m t (replicate max_nodes blank) (progress 0 (written (λ k. 0) (frames t) b) o) config)
      (ap (λ x. x.counts.allowance) begins)
      (subst (λ y. Running r.counts.allowance t (replicate max_nodes blank) (progress 0 y o) config) cleared
      (d.driven.ran (ap (λ x. going x.stage) begins)))

  pub own-gives : (answer_of p'.leaves r' ≡ answer_by (beyond (Sss a) t) (Sss a) t)
      × ((p'.marks ≡ marks_of (evaluated_by (Sss a) t) t b) × (p'.order ≡ listed (evaluated_by (Sss a) t) o))
  own-gives = (
    answer-is t wf a _ b o config ran d.driven.stopped,
    (marks-so t wf a _ b o config ran d.driven.stopped, order-so t wf a _ b o config ran d.driven.stopped),
  )
