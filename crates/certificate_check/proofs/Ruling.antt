-- The rules of a side's tree, asked of node after node until every node has been reached as a child: those that are
-- left are leaves, whose rules hold.
use Rattle.prelude.proofs.{ℕ, ◌+◌, ◌-◌, ◌≤◌, ◌<◌, arith, dec_lt, ◌≡◌, refl, ap, ◌∙◌, true, false, List, Ok}
use Rattle.gametree.specs.declared.Side.{Side}
use Rattle.table.specs.{frames, child_count, next, WellFormed, ask, answer}
use Rattle.table.proofs.Next.{next_more, next-within, none_after}
use Rattle.table.proofs.Asked.{refused, passed-each}
use Rattle.certificate_check.specs.{rule_holds, check_tree}
use Rattle.certificate_check.proofs.Asking.{asked, Asking, asking-none, asking-more, asking-until}
use Rattle.certificate_check.proofs.Rules.{leaf-rule}

-- before node i, where m is 1 plus the child counts so far
pub record Ruling (p : Side) (q : ℕ) (t flags : List ℕ) (i m : ℕ) : Type 0 where
  pub inside : i < frames t
  pub counted : m ≡ next t i
  pub asking : Asking (rule_holds p t flags) q (frames t) i

module _ (p : Side) (q : ℕ) (t flags : List ℕ) (wf : WellFormed t) where
  pub ruling-none : Ruling p q t flags 0 1
  unfolding next
  ruling-none = record {
    inside = wf.non_empty;
    counted = refl;
    asking =
        asking-none (rule_holds p t flags) q (frames t);
  }

  module _ (i m : ℕ) (r : Ruling p q t flags i m) where
    -- the rule does not hold at node i
    pub ruling-until : rule_holds p t flags i ≡ false → refused q i ≡ answer (frames t) (check_tree q p t flags)
    ruling-until e = asking-until (rule_holds p t flags) q (frames t) i r.asking r.inside e

    module _ (e : rule_holds p t flags i ≡ true) (n : ℕ) (d : n ≡ child_count t i) where
      next-after : m + n ≡ next t (i + 1)
      next-after = omega (arith, next_more t i, r.counted)

      -- the counts stay within the table
      pub ruling-within : m + n ≤ frames t
      ruling-within = omega (arith, next-after, next-within t wf (i + 1) (omega (arith, r.inside)))

      behind : Asking (rule_holds p t flags) q (frames t) (i + 1)
      behind = asking-more (rule_holds p t flags) q (frames t) i r.asking r.inside e

      -- the rule holds at node i, and some node is not reached
      pub ruling-more : (m + n ≡ frames t → ⊥) → Ruling p q t flags (i + 1) (m + n)
      ruling-more h =
          record {
            inside = elim (dec_lt (i + 1) (frames t)) [
              | yes l ↦ l
              | no l ↦ (let z : i + 1 ≡ frames t = omega (arith, r.inside) in
                  absurd (h (next-after ∙ ap (next t) z ∙ wf.total)))
            ];
            counted = next-after;
            asking = behind;
          }

      -- the rule holds at node i, and every node is reached
      pub ruling-all : m + n ≡ frames t → Ok (frames t) ≡ answer (frames t) (check_tree q p t flags)
      ruling-all h =
          let k = frames t - (i + 1) in
          let f = passed-each (asked (rule_holds p t flags) q) (i + 1) k (λ j a b.
          ap (λ x. ask x q j) (leaf-rule p t flags j (omega arith)
          (none_after t wf (i + 1) j (omega (arith, next-after)) a (omega (arith, r.inside))))) in
          rw (behind.passed ∙ f)
