-- The check of a certificate accepts exactly the certificates, and gives their value, the minimax value of the tree.
use Rattle.prelude.proofs.{ℕ, ◌<◌, arith, ◌≡◌, refl, sym, ap, ◌∙◌, ◌↔◌, Bool, true, Option, none, some, List, [], ◌∷◌}
use Rattle.prelude.proofs.{Ok}
use Rattle.prelude.proofs.{leb, ℤ, length, get_or, le-leb, leb-true, eq-eqb, eqb-true}
use Rattle.gametree.specs.declared.Side.TheVariants.{Max, Min}
use Rattle.gametree.specs.{minimax}
use Rattle.lists.proofs.Choice.{and_both}
use Rattle.gametree_theory.proofs.Theorems.{certificate-minimax}
use Rattle.table.specs.declared.Rejection.{Rejection}
use Rattle.table.specs.{frames, tree, valuation, ask, each_node, rejection, check10, value_of}
use Rattle.table.proofs.Asked.{each-passed, passed-each}
use Rattle.table.proofs.Stated.{ask-yes, yes-ask, both-passed, passed-both}
use Rattle.table.proofs.Acceptance.{accepted-formed}
use Rattle.certificate_check.specs.{rule_holds, tree_value, check11, check_tree, check14, trees_rejection}
use Rattle.certificate_check.specs.{flags_rejection, certificate_rejection, judged, verdict}
use Rattle.certificate_check.specs.Certificate.{Certificate}
use Rattle.certificate_check.proofs.Rules.{rules-solve, solved-rules}
use Rattle.certificate_check.proofs.Values.{tree-value-same}

-- a value is given where there is no rejection
judged-value : (t flags : List ℕ) (z : ℤ) (o : Option Rejection) → judged t flags o ≡ Ok z
    → (o ≡ none) × (z ≡ value_of (tree_value Max t flags))
judged-value t flags z none e = (refl, cc)
judged-value t flags z (some r) e = absurd (let x : ◌≡◌ {A = ℕ} 0 1 = cc in omega arith)

module _ (t flags : List ℕ) where
  -- a question that passed holds at each node
  each-yes : (f : ℕ → Bool) (q : ℕ) → each_node (λ i. ask (f i) q i) 0 (frames t) ≡ none → (i : ℕ) → i < frames t
      → f i ≡ true
  each-yes f q e i h =
      ask-yes (f i) q i (each-passed (λ i. ask (f i) q i) 0 (frames t) e i (omega arith) (omega arith))

  yes-each : (f : ℕ → Bool) (q : ℕ) → ((i : ℕ) → i < frames t → f i ≡ true)
      → each_node (λ i. ask (f i) q i) 0 (frames t) ≡ none
  yes-each f q y =
      passed-each (λ i. ask (f i) q i) 0 (frames t) (λ i l h. yes-ask (f i) q i (y i (omega arith)))

  -- flags that pass every question are a certificate of the max tree's value
  pub passed-certificate : certificate_rejection t flags ≡ none → Certificate t flags (tree_value Max t flags)
  unfolding certificate_rejection flags_rejection trees_rejection
  passed-certificate e =
      let a = both-passed (rejection t) _ e in
      let b = both-passed (check10 (frames t) (length flags ∷ [])) _ a.1 in
      let c = both-passed (check11 t flags) _ b.1 in
      let d = both-passed (check_tree 12 Max t flags) _ c.1 in
      let f = both-passed (check_tree 13 Min t flags) (check14 t flags) d.1 in
      let wf = accepted-formed t a.0 in
      record {
        accepted = a.0;
        enough = leb-true _ _ (and_both _ true (ask-yes _ 10 0 b.0)).0;
        in_range = λ i h. leb-true _ _ (each-yes (λ i. leb (get_or flags i 0) 3) 11 c.0 i h);
        certifies = record {
          max_tree = rules-solve Max t flags wf (each-yes (rule_holds Max t flags) 12 d.0);
          min_tree = rules-solve Min t flags wf (each-yes (rule_holds Min t flags) 13 f.0);
          max_value = tree-value-same Max t flags wf;
          min_value = tree-value-same Min t flags wf ∙ sym (eqb-true _ _ (ask-yes _ 14 0 f.1));
        };
      }

  -- a certificate passes every question
  pub certificate-passed : (v : ℕ) → Certificate t flags v → certificate_rejection t flags ≡ none
  unfolding certificate_rejection flags_rejection trees_rejection
  certificate-passed v c =
      let wf = accepted-formed t c.accepted in
      let p = c.certifies in
      let e = sym (tree-value-same Max t flags wf) ∙ p.max_value ∙ sym p.min_value ∙ tree-value-same Min t flags wf in
      passed-both (rejection t) _ c.accepted
      (passed-both (check10 (frames t) (length flags ∷ [])) _ (rw (le-leb _ _ c.enough))
      (passed-both (check11 t flags) _ (yes-each (λ i. leb (get_or flags i 0) 3) 11
      (λ i h. le-leb _ _ (c.in_range i h)))
      (passed-both (check_tree 12 Max t flags) _
      (yes-each (rule_holds Max t flags) 12 (solved-rules Max t flags wf p.max_tree))
      (passed-both (check_tree 13 Min t flags) (check14 t flags)
      (yes-each (rule_holds Min t flags) 13 (solved-rules Min t flags wf p.min_tree))
      (yes-ask _ 14 0 (eq-eqb _ _ e))))))

  -- the value of a certificate is the verdict on it
  pub certificate-verdict : (v : ℕ) → Certificate t flags v → verdict t flags ≡ Ok (value_of v)
  unfolding verdict
  certificate-verdict v c =
      let e = sym (tree-value-same Max t flags (accepted-formed t c.accepted)) ∙ c.certifies.max_value in
      rw (certificate-passed v c) (ap (λ x. Ok (value_of x)) e)

  -- and what gets a value is a certificate of it
  pub verdict-certificate : (z : ℤ) → verdict t flags ≡ Ok z → (v : ℕ) × Certificate t flags v × (z ≡ value_of v)
  unfolding verdict
  verdict-certificate z e =
      let j = judged-value t flags z (certificate_rejection t flags) e in
      (tree_value Max t flags, passed-certificate j.0, j.1)

  -- the flags are accepted exactly if they are a max and a min solution tree of the table's tree with equal value
  pub accepts-certificates : ((z : ℤ) × (verdict t flags ≡ Ok z)) ↔ ((v : ℕ) × Certificate t flags v)
  accepts-certificates = (
    λ a. (let c = verdict-certificate a.0 a.1 in (c.0, c.1)),
    λ c. (value_of c.0, certificate-verdict c.0 c.1),
  )

  -- and the value given is then the minimax value of that tree
  pub accepted-minimax : (z : ℤ) → verdict t flags ≡ Ok z → z ≡ value_of (minimax (valuation t) (tree t))
  accepted-minimax z e =
      let c = verdict-certificate z e in
      c.2 ∙ ap value_of (certificate-minimax (valuation t) (tree t) _ _ c.0 c.1.certifies)
