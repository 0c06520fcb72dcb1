-- `child_in_both` meets its contract: the first of the children that is in both trees is found, and an inner node in
-- both has one.
use Rattle.prelude.proofs.{ℕ, ◌+◌, ◌≤◌, ◌<◌, arith, dec_lt, ◌≡◌, List, length, get_or}
use Rattle.std.proofs.Common.{rules, tests}
use Rattle.std.proofs.lemmas.Iterator.{first_from_Range, serves_from_Range}
use Rattle.std.proofs.lemmas.List.{get_or_read}
use Rattle.std.specs.Prelude.{true, Option, Some, None, MatchOption}
use Rattle.gametree.specs.{in_both}
use Rattle.table.specs.{frames, first_child, child_count}
use Rattle.table.proofs.Next.{child-within}
use Rattle.variation.specs.{shared, Certified, FirstShared}
use Rattle.variation.proofs.Shared.{some-shared}
use Rattle.variation.proofs.child_in_both.Goals as goal

module _ (t flags : List ℕ) (i : ℕ) (c : Certified t flags) (h : i < frames t) (both : shared flags i ≡ true) where
  -- what a search through the children finds
  abbrev Found : Option ℕ → Type 0
  Found r =
      MatchOption r
      ((k : ℕ) → first_child t i ≤ k → k < first_child t i + child_count t i → get_or flags k 0 ≡ in_both → ⊥)
      (λ k. (first_child t i ≤ k) × (k < first_child t i + child_count t i) × (get_or flags k 0 ≡ in_both)
      × ((j : ℕ) → first_child t i ≤ j → j < k → get_or flags j 0 ≡ in_both → ⊥))

  found-shared : (r : Option ℕ) → Found r → MatchOption r (child_count t i ≡ 0) (FirstShared t flags i)
  found-shared None f =
      elim (dec_lt 0 (child_count t i)) [
        | yes l ↦ (let s = some-shared t flags c i h both l in absurd (f s.0 s.1.from s.1.to s.2))
        | no l ↦ omega arith
      ]
  found-shared (Some k) f =
      record { child = record { from = f.0; to = f.1 }; both = f.2; before = f.3 }

  -- a child has a flag
  flagged : (k : ℕ) → first_child t i ≤ k → k < first_child t i + child_count t i → k < length flags
  flagged k a b = omega (arith, child-within t c.formed h (record { from = a; to = b }), c.enough)

pub find-requires-clause-callable : goal.find-requires-clause-callable
find-requires-clause-callable c =
    serves_from_Range (λ x q k. search (rules, tests))
    (λ x low high.
    let inside = flagged c.args.table.now c.args.certificate.now c.args.node c.requires.certified.0
    c.requires.certified.1 c.requires.in_both x (omega (arith, c.first_child-first.ensures.0))
    (omega (arith, c.first_child-first.ensures.0, c.child_count.ensures.0)) in
    search rules)

pub returns : goal.returns
returns c =
    let first = c.first_child-first.ensures.0 in
    let count = c.child_count.ensures.0 in
    let flags = c.args.certificate.now in
    let r = first_from_Range _ _ _ _ (λ k. get_or flags k 0 ≡ in_both) (λ k. get_or flags k 0 ≡ in_both → ⊥)
    c.find.ensures.ran (λ x q k. grind (arith, tests, get_or_read))
    (λ x q k. (search rules, grind (arith, tests, get_or_read))) in
    found-shared c.args.table.now flags c.args.node c.requires.certified.0 c.requires.certified.1
    c.requires.in_both c.find.result (rw (← first, ← count) r)
