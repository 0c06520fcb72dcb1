-- `certificate_bounds::clear` meets its contract: what is filled with 0 is written as 0 for each node.
use Rattle.prelude.proofs.{ℕ, suc, zero, ◌+◌, ◌≤◌, arith, ◌≡◌, refl, sym, ap, ap₂, ◌∙◌, List, ◌∷◌, ◌++◌, map, length}
use Rattle.prelude.proofs.{replicate}
use Rattle.prelude.proofs.{length-take-le, take, drop}
use Rattle.table.specs.{up_from}
use Rattle.table_positions.specs.{written}
use Rattle.certificate_bounds.proofs.clear.Goals as goal

-- zeros, one for each of n nodes
zeros : (n i : ℕ) → replicate {A = ℕ} n 0 ≡ map (λ k. 0) (up_from i n)
unfolding up_from
zeros zero i = refl
zeros (suc n) i = ap (λ l. 0 ∷ l) (zeros n (i + 1))

zeroed : (n : ℕ) (b : List ℕ) → n ≤ length b
    → replicate {A = ℕ} (length (take n b)) 0 ++ drop n b ≡ written (λ k. 0) n b
unfolding written
zeroed n b h = ap (λ m. replicate {A = ℕ} m 0 ++ drop n b) (length-take-le n b h) ∙ ap (λ l. l ++ drop n b) (zeros n 0)

pub returns : goal.returns
returns c = ap (λ l. l ++ drop c.args.n c.args.evaluated.now) (c.fill.ensures.after (λ y e. e))
    ∙ zeroed _ _ c.requires
