-- What a node's entry names: the two best children of a Max node, found by a look at each, and those that a pass has to
-- try by it.
use Rattle.prelude.proofs.{ℕ, zero, suc, ◌+◌, ◌-◌, ◌*◌, ◌/◌, ◌%◌, ◌≤◌, ◌<◌, le_refl, ℕ_discrete, arith, ◌≡◌, refl}
use Rattle.prelude.proofs.{◌∙◌, Bool, false, List, eqb, get_or, ne_eqb, eqb-false}
use Rattle.gametree.specs.declared.Side.{Side}
use Rattle.gametree.specs.declared.Side.TheVariants.{Max, Min}
use Rattle.gametree.specs.{better}
use Rattle.lists.proofs.Choice.{clash, cond_cases}
use Rattle.certificate_bounds.specs.{best_in}
use Rattle.mtd_memory.specs.declared.TwoBest.{TwoBest}
use Rattle.mtd_memory.specs.{skip_entry, kept_entry, NamesTwo, lead_entry, Best, ToTry, KeepsBest}
use Rattle.mtd_memory.proofs.Arrays.{no-leads}
use Rattle.mtd_memory.proofs.Answers.{best-of-two}

-- the sides are two
pub max-not-min : {s : Side} → s ≡ Max → s ≡ Min → ⊥
max-not-min e f = clash (cc)

module _ {highs : List ℕ} {γ first end x : ℕ} (some : first < end) (l : NamesTwo highs first end x) where
  -- all children of a Max node are tried
  pub all-to-try : ToTry Max highs γ first end x (record { start = first; end = end })
  all-to-try =
      record {
        start = le_refl first;
        some = some;
        within = le_refl end;
        skips = λ e. absurd (max-not-min refl e);
        outside = λ e k a b c. absurd (c a b);
        alone = λ e n s. omega (arith, l.lead n);
      }

  -- the leading one alone is
  pub lead-to-try : 256 ≤ x → get_or highs (first + x % 256) 0 < γ
      → ToTry Max highs γ first end x (record { start = first + x / 256 - 1; end = first + x / 256 })
  lead-to-try n h =
      record {
        start = omega arith;
        some = omega arith;
        within = l.lead n;
        skips = λ e. absurd (max-not-min refl e);
        outside = λ e k a b c. omega (arith, h, l.others n k a b (λ z. c (omega (arith, z)) (omega (arith, z))));
        alone = λ e _ s. refl;
      }

-- a Min node skips the leading ones
pub skips-to-try : {highs : List ℕ} {γ first end x from : ℕ} → first + (x - 1) < end → from ≡ first + (x - 1)
    → ToTry Min highs γ first end x (record { start = from; end = end })
skips-to-try {end = end} l e =
    record {
      start = omega (arith, e);
      some = omega (arith, e);
      within = le_refl end;
      skips = λ _. (e, refl);
      outside = λ s. absurd (max-not-min s refl);
      alone = λ s. absurd (max-not-min s refl);
    }

-- the first child is the best of one
pub best-one : (highs : List ℕ) (first : ℕ)
    → Best highs first (first + 1) (record { lead = first; second = first; most = get_or highs first 0; more = 0 })
best-one highs first =
    record {
      lead-from = le_refl first;
      lead-to = omega arith;
      second_from = le_refl first;
      second-to = omega arith;
      most = refl;
      more = omega arith;
      order = omega arith;
      others = λ j a b e. absurd (e (omega arith));
    }

-- a look at one more
module _ {highs : List ℕ} {first n : ℕ} {two : TwoBest} (b : Best highs first n two) where
  pub best-neither : get_or highs n 0 ≤ two.more → Best highs first (n + 1) two
  best-neither h =
      record {
        lead-from = b.lead-from;
        lead-to = omega (arith, b.lead-to);
        second_from = b.second_from;
        second-to = omega (arith, b.second-to);
        most = b.most;
        more = b.more;
        order = b.order;
        others = λ j a l e.
            elim (ℕ_discrete j n) [
              | yes z ↦ rw z h
              | no z ↦ b.others j a (omega arith) e
            ];
      }

  pub best-second : two.more < get_or highs n 0 → get_or highs n 0 ≤ two.most
      → Best highs first (n + 1)
      (record { lead = two.lead; second = n; most = two.most; more = get_or highs n 0 })
  best-second g h =
      record {
        lead-from = b.lead-from;
        lead-to = omega (arith, b.lead-to);
        second_from = omega (arith, b.lead-from, b.lead-to);
        second-to = omega arith;
        most = b.most;
        more = le_refl _;
        order = h;
        others = λ j a l e.
            elim (ℕ_discrete j n) [
              | yes z ↦ rw z (le_refl _)
              | no z ↦ omega (arith, g, b.others j a (omega arith) e)
            ];
      }

  pub best-lead : two.most < get_or highs n 0
      → Best highs first (n + 1)
      (record { lead = n; second = two.lead; most = get_or highs n 0; more = two.most })
  best-lead h =
      record {
        lead-from = omega (arith, b.lead-from, b.lead-to);
        lead-to = omega arith;
        second_from = b.lead-from;
        second-to = omega (arith, b.lead-to);
        most = refl;
        more = omega (arith, b.most);
        order = omega (arith, h);
        others = λ j a l e.
            elim (ℕ_discrete j two.lead) [
              | yes z ↦ rw z (omega (arith, b.most))
              | no z ↦ omega (arith, b.order, b.others j a (omega arith) z)
            ];
      }

-- what a Max node keeps
pub keeps-max : {answer : Bool} {highs : List ℕ} {first end child v x : ℕ}
    → v ≡ best_in Max (λ k. get_or highs k 0) first (end - (first + 1)) → eqb x 1 ≡ answer → NamesTwo highs first end x
    → KeepsBest Max answer highs first end child v x
keeps-max h f l = record { high = h; flag = f; skips = λ e. absurd (max-not-min refl e); leads = λ _. l }

-- what a Min node keeps
pub keeps-min : {answer : Bool} {highs : List ℕ} {first end child v x : ℕ}
    → v ≡ best_in Min (λ k. get_or highs k 0) first (end - (first + 1)) → eqb x 1 ≡ answer
    → x ≡ kept_entry answer (child - (first + 1)) → KeepsBest Min answer highs first end child v x
keeps-min h f s = record { high = h; flag = f; skips = λ _. s; leads = λ e. absurd (max-not-min e refl) }

-- an entry names the same children by another name
pub leads-entry : {highs : List ℕ} {first end x y : ℕ} → x ≡ y → NamesTwo highs first end y → NamesTwo highs first end x
leads-entry e l = rw e l

-- an entry that skips children is no answer
pub skip-flag : (n x : ℕ) → x ≡ skip_entry n → eqb x 1 ≡ false
skip-flag zero x e = rw e refl
skip-flag (suc n) x e = ne_eqb x 1 (λ z. omega (arith, z, e))

-- nor is one from 256 on
pub named-flag : (x : ℕ) → 256 ≤ x → eqb x 1 ≡ false
named-flag x h = ne_eqb x 1 (λ e. omega (arith, e))

module _ {highs : List ℕ} {first end x : ℕ} (n : 256 ≤ x) (l : NamesTwo highs first end x) where
  -- the best high is the greater of the leading child's and the second one's
  pub alone-best : (k : ℕ) → k + 1 ≡ first + x / 256
      → better Max (get_or highs k 0) (get_or highs (first + x % 256) 0)
      ≡ best_in Max (λ k. get_or highs k 0) first (end - (first + 1))
  alone-best k e =
      let a = l.lead n in
      let b = l.second n in
      best-of-two (λ k. get_or highs k 0) first (end - (first + 1)) k (first + x % 256) (omega (arith, e))
      (omega (arith, e)) (omega arith) (omega arith)
      (λ j c d. elim (ℕ_discrete j k) [
        | yes z ↦ rw z (omega arith)
        | no z ↦ omega (arith, l.others n j c (omega arith) (λ q. z (omega (arith, q, e))))
      ])

module _ {highs : List ℕ} {first end : ℕ} {two : TwoBest} (b : Best highs first end two) where
  -- the entry of the two best children
  pub best-leads : end ≤ first + 255 → NamesTwo highs first end (lead_entry (two.lead - first) (two.second - first))
  best-leads few =
      cond_cases (NamesTwo highs first end) (eqb (two.lead - first) (two.second - first)) _ _
      (λ _. no-leads (omega arith)) (λ e. named (eqb-false _ _ e))
    where
      named : (two.lead - first ≡ two.second - first → ⊥)
          → NamesTwo highs first end ((two.lead - first + 1) * 256 + (two.second - first))
      named apart =
          let lf = b.lead-from in
          let lt = b.lead-to in
          let sf = b.second_from in
          let st = b.second-to in
          let x = (two.lead - first + 1) * 256 + (two.second - first) in
          let p : x / 256 ≡ two.lead - first + 1 = omega arith in
          let q : first + x % 256 ≡ two.second = omega arith in
          record {
            lead = λ _. omega (arith, p);
            second = λ _. omega (arith, q);
            apart = λ _ e. apart (omega (arith, e, p, q));
            others = λ _ j c d e.
                rw q (omega (arith, b.more, b.others j c d (λ z. e (omega (arith, z, p)))));
          }

  pub best-flag : eqb (lead_entry (two.lead - first) (two.second - first)) 1 ≡ false
  best-flag =
      cond_cases (λ x. eqb x 1 ≡ false) (eqb (two.lead - first) (two.second - first)) _ _ (λ _. refl)
      (λ _. named-flag ((two.lead - first + 1) * 256 + (two.second - first)) (omega arith))

  -- and the best high
  pub best-high : two.most ≡ best_in Max (λ k. get_or highs k 0) first (end - (first + 1))
  best-high =
      let z : two.most ≡ better Max (get_or highs two.lead 0) (get_or highs two.lead 0) = omega (arith, b.most) in
      z
      ∙ best-of-two (λ k. get_or highs k 0) first (end - (first + 1)) two.lead two.lead b.lead-from
      (omega (arith, b.lead-to)) b.lead-from (omega (arith, b.lead-to))
      (λ j c d. elim (ℕ_discrete j two.lead) [
        | yes q ↦ rw q (omega arith)
        | no q ↦ (let to = b.lead-to in
            omega (arith, b.most, b.order, b.others j c (omega arith) q))
      ])
