-- The check of a certificate as a test that counts children, node by node; it says what the definition says.
use Rattle.prelude.proofs.{ℕ, ◌≡◌, refl, sym, ◌∙◌, Bool, true, ◌&&◌, eqb, eqb-true, eq-eqb}
use Rattle.gametree.specs.declared.Side.{Side}
use Rattle.gametree.specs.declared.Side.TheVariants.{Max, Min}
use Rattle.gametree.specs.{Tree, leaf, inner, Children, last, ◌then◌, number, Rules, RulesChildren, solution_value}
use Rattle.gametree.specs.{Certifies}
use Rattle.gametree_theory.proofs.Certificates.Counting.{members, required, rules_hold, rules_hold_children}
use Rattle.gametree_theory.proofs.Certificates.Counting.{certificate?}
use Rattle.lists.proofs.Choice.{and_both}
use Rattle.gametree_theory.proofs.Certificates.Solution.{rule-counted, counted-rule}

and_intro : {a b : Bool} → a ≡ true → b ≡ true → a && b ≡ true
and_intro e f = rw (e, f) refl

mutual
  rules-hold : (p : Side) (g : ℕ → Bool) (t : Tree) → Rules p g t → rules_hold p g t ≡ true
  rules-hold p g (leaf n) r = refl
  rules-hold p g (inner n q ks) r =
      and_intro (eq-eqb _ _ (rule-counted p q (g n) g ks r.0)) (rules_children-hold p g ks r.1)

  rules_children-hold : (p : Side) (g : ℕ → Bool) (ks : Children) → RulesChildren p g ks
      → rules_hold_children p g ks ≡ true
  rules_children-hold p g (last t) r = rules-hold p g t r
  rules_children-hold p g (t then ts) r = and_intro (rules-hold p g t r.0) (rules_children-hold p g ts r.1)

mutual
  hold-rules : (p : Side) (g : ℕ → Bool) (t : Tree) → rules_hold p g t ≡ true → Rules p g t
  hold-rules p g (leaf n) e = tt
  hold-rules p g (inner n q ks) e =
      let k = and_both (eqb (members g ks) (required p q (g n) ks)) _ e in
      (counted-rule p q (g n) g ks (eqb-true _ _ k.0), hold-rules_children p g ks k.1)

  hold-rules_children : (p : Side) (g : ℕ → Bool) (ks : Children) → rules_hold_children p g ks ≡ true
      → RulesChildren p g ks
  hold-rules_children p g (last t) e = hold-rules p g t e
  hold-rules_children p g (t then ts) e =
      let k = and_both (rules_hold p g t) _ e in
      (hold-rules p g t k.0, hold-rules_children p g ts k.1)

-- a certificate passes
pub certificate-passes : (ν : ℕ → ℕ) (t : Tree) (g h : ℕ → Bool) (v : ℕ) → Certifies ν t g h v
    → certificate? ν t g h ≡ true
certificate-passes ν t g h v c =
    and_intro
    (and_intro (and_intro c.max_tree.0 (rules-hold Max g t c.max_tree.1))
    (and_intro c.min_tree.0 (rules-hold Min h t c.min_tree.1)))
    (eq-eqb _ _ (c.max_value ∙ sym c.min_value))

-- what passes is a certificate
pub passed-certifies : (ν : ℕ → ℕ) (t : Tree) (g h : ℕ → Bool) → certificate? ν t g h ≡ true
    → Certifies ν t g h (solution_value Max ν g t)
passed-certifies ν t g h e =
    let k = and_both ((g (number t) && rules_hold Max g t) && (h (number t) && rules_hold Min h t)) _ e in
    let l = and_both (g (number t) && rules_hold Max g t) _ k.0 in
    let x = and_both (g (number t)) _ l.0 in
    let y = and_both (h (number t)) _ l.1 in
    record {
      max_tree = (x.0, hold-rules Max g t x.1);
      min_tree = (y.0, hold-rules Min h t y.1);
      max_value = refl;
      min_value = sym (eqb-true _ _ k.1);
    }
