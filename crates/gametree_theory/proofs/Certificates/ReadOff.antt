-- The solution tree that is read off a valuation: its local rule, and that it is a solution tree of the minimax value.
use Rattle.prelude.proofs.{ℕ, ◌≤◌, ◌<◌, arith, ◌≡◌, refl, sym, ◌∙◌, ap, ap₂, subst, ◌⊎◌, inl, inr, ⊎_elim, Bool, true}
use Rattle.prelude.proofs.{false, cond, not, ◌&&◌, ◌||◌, and-true, and-false, or-false, List, eqb, eqb-true, eqb-false}
use Rattle.prelude.proofs.{eq-eqb, ne_eqb}
use Rattle.lists.specs.{among}
use Rattle.gametree.specs.declared.Side.{Side}
use Rattle.gametree.specs.declared.Side.TheVariants.{Max, Min}
use Rattle.gametree.specs.{Tree, leaf, inner, Children, last, ◌then◌, least, greatest, better, minimax}
use Rattle.gametree.specs.{minimax_children}
use Rattle.gametree.specs.{number, In, InChildren, EveryLeaf, EveryLeafChildren, Distinct, DistinctChildren, Each}
use Rattle.gametree.specs.{NoneOf, OneOf, Rule, Rules, RulesChildren, SolutionTree, worst, solution_value, same, chosen}
use Rattle.gametree.specs.{chosen_each, chosen_first}
use Rattle.lists.proofs.Choice.{cond_cases, true-not-false, is_false, or_cases, and_both}
use Rattle.lists.proofs.Lists.{among-append}
use Rattle.gametree_theory.proofs.Minimax.Bounds.{every_map, every-map-kids, minimax-within}
use Rattle.gametree_theory.proofs.Minimax.Bounds.{minimax_children-within}
use Rattle.gametree_theory.proofs.Certificates.Leaves.{best_leaf, best_leaf_children, value-best}

-- the set g is side p's tree read off μ, where b says whether the root is in it: the rule of `chosen`, node by node
abbrev mutual
  pub ReadOff : Side → (ℕ → ℕ) → (ℕ → Bool) → Bool → Tree → Type 0
  ReadOff p μ g b (leaf n) = g n ≡ b
  ReadOff p μ g b (inner n q ks) =
      (g n ≡ b) × cond (same p q) (ReadEach p μ g b ks) (ReadFirst p μ g b (minimax_children μ q ks) ks)

  pub ReadEach : Side → (ℕ → ℕ) → (ℕ → Bool) → Bool → Children → Type 0
  ReadEach p μ g b (last t) = ReadOff p μ g b t
  ReadEach p μ g b (t then ts) = ReadOff p μ g b t × ReadEach p μ g b ts

  pub ReadFirst : Side → (ℕ → ℕ) → (ℕ → Bool) → Bool → ℕ → Children → Type 0
  ReadFirst p μ g b v (last t) = ReadOff p μ g (b && eqb (minimax μ t) v) t
  ReadFirst p μ g b v (t then ts) =
      ReadOff p μ g (b && eqb (minimax μ t) v) t × ReadFirst p μ g (b && not (eqb (minimax μ t) v)) v ts

-- a bound that is finite, as source 000 says: a high below `greatest`, a low above `least`
abbrev pub Finite : Side → ℕ → Type 0
Finite Max v = v < greatest
Finite Min v = least < v

-- both of two scores are finite if the side's choice is
finite-both : (p : Side) (a b : ℕ) → Finite p (better p a b) → Finite p a × Finite p b
finite-both Max a b h = omega arith
finite-both Min a b h = omega arith

-- the worst score changes no choice
better-worst : (p : Side) (v : ℕ) → v ≤ greatest → (better p v (worst p) ≡ v) × (better p (worst p) v ≡ v)
better-worst Max v h = omega arith
better-worst Min v h = omega arith

worst≤ : (p : Side) → worst p ≤ greatest
worst≤ Max = omega arith
worst≤ Min = omega arith

-- a choice that is not the first of two is the second
better-second : (q : Side) (a b v : ℕ) → better q a b ≡ v → (a ≡ v → ⊥) → b ≡ v
better-second Max a b v e h = omega arith
better-second Min a b v e h = omega arith

-- μ gives no leaf more than `greatest`
abbrev pub Capped : (ℕ → ℕ) → Tree → Type 0
Capped μ t = EveryLeaf (λ n. μ n ≤ greatest) t

abbrev CappedChildren : (ℕ → ℕ) → Children → Type 0
CappedChildren μ ks = EveryLeafChildren (λ n. μ n ≤ greatest) ks

-- nor has it a greater minimax value
capped-value : (μ : ℕ → ℕ) (q : Side) (ks : Children) → CappedChildren μ ks → minimax_children μ q ks ≤ greatest
capped-value μ q ks i = (minimax_children-within 0 greatest μ q ks
    (every-map-kids _ _ (λ n h. (omega arith, h)) ks i)).1

-- what is read off in a tree, and in the children of a node: all of them, or the first with the value
record ReadTree (p : Side) (μ : ℕ → ℕ) (g : ℕ → Bool) (b : Bool) (t : Tree) : Type 0 where
  rules : Rules p g t
  value : best_leaf p μ g t ≡ cond b (minimax μ t) (worst p)
  finite : EveryLeaf (λ n. g n ≡ true → Finite p (μ n)) t

record ReadChildren (p : Side) (μ : ℕ → ℕ) (g : ℕ → Bool) (b : Bool) (ks : Children) (Some : Type 0) (v : ℕ) : Type 0
  where
    rules : RulesChildren p g ks
    if_in : b ≡ true → Some
    if_out : b ≡ false → NoneOf g ks
    value : best_leaf_children p μ g ks ≡ cond b v (worst p)
    finite : EveryLeafChildren (λ n. g n ≡ true → Finite p (μ n)) ks

-- the root is in the set as b says
pub read-root : (p : Side) (μ : ℕ → ℕ) (g : ℕ → Bool) (b : Bool) (t : Tree) → ReadOff p μ g b t → g (number t) ≡ b
read-root p μ g b (leaf n) r = r
read-root p μ g b (inner n q ks) r = r.0

-- the value of a first child and the others: all are in the set; one is, the first with the value
each-value : (p : Side) (b : Bool) (x y m w : ℕ) → x ≡ cond b m (worst p) → y ≡ cond b w (worst p)
    → better p x y ≡ cond b (better p m w) (worst p)
each-value p true x y m w d e = ap₂ (better p) d e
each-value p false x y m w d e = ap₂ (better p) d e ∙ (better-worst p (worst p) (worst≤ p)).0

first-value : (p : Side) (b c : Bool) (x y m v : ℕ) → (b ≡ true → v ≤ greatest) → (c ≡ true → m ≡ v)
    → x ≡ cond (b && c) m (worst p) → y ≡ cond (b && not c) v (worst p) → better p x y ≡ cond b v (worst p)
first-value p true true x y m v k f d e = ap₂ (better p) (d ∙ f refl) e ∙ (better-worst p v (k refl)).0
first-value p true false x y m v k f d e = ap₂ (better p) d e ∙ (better-worst p v (k refl)).1
first-value p false c x y m v k f d e = ap₂ (better p) d e ∙ (better-worst p (worst p) (worst≤ p)).0

last-value : (b c : Bool) (x m v w : ℕ) → (b ≡ true → (c ≡ true) × (m ≡ v)) → x ≡ cond (b && c) m w → x ≡ cond b v w
last-value true c x m v w f e = e ∙ rw (f refl).0 (f refl).1
last-value false c x m v w f e = e

and-not-both : (b c : Bool) → b && not c ≡ true → (b ≡ true) × (c ≡ false)
and-not-both true true e = absurd (true-not-false e refl)
and-not-both true false e = (refl, refl)
and-not-both false c e = absurd (true-not-false e refl)

-- exactly one child is read off: the first with the value, or one of the others
first_one : (b c x : Bool) (A B : Type 0) → x ≡ b && c → (b && not c ≡ true → A) → (b && not c ≡ false → B) → b ≡ true
    → ((x ≡ true) × B) ⊎ ((x ≡ false) × A)
first_one true true x A B e f g h = inl (e, g refl)
first_one true false x A B e f g h = inr (e, f refl)
first_one false c x A B e f g h = absurd (true-not-false h refl)

false-and : (b c : Bool) → b ≡ false → b && c ≡ false
false-and b c e = rw e refl

-- the rule of a node from what was read off its children
rule-from : (b : Bool) (g : ℕ → Bool) (ks : Children) (Some : Type 0) (R : Bool → Type 0) → (Some → R true)
    → (NoneOf g ks → R false) → (b ≡ true → Some) → (b ≡ false → NoneOf g ks) → R b
rule-from true g ks Some R f h k l = f (k refl)
rule-from false g ks Some R f h k l = h (l refl)

-- what is read off an inner node, from what was read off its children
read-node : (p q : Side) (μ : ℕ → ℕ) (g : ℕ → Bool) (b : Bool) (n : ℕ) (ks : Children) {Some : Type 0}
    → (Some → Rule p q true g ks) → g n ≡ b → ReadChildren p μ g b ks Some (minimax_children μ q ks)
    → ReadTree p μ g b (inner n q ks)
read-node p q μ g b n ks f e k =
    record {
      rules = (rw e (rule-from b g ks _ (λ x. Rule p q x g ks) f (λ x. x) k.if_in k.if_out), k.rules);
      value = k.value;
      finite = k.finite;
    }

mutual
  -- a node in the tree has its finite value, one outside has none
  read : (p : Side) (μ : ℕ → ℕ) (g : ℕ → Bool) (b : Bool) (t : Tree) → Capped μ t → (b ≡ true → Finite p (minimax μ t))
      → ReadOff p μ g b t → ReadTree p μ g b t
  read p μ g b (leaf n) i h r = record { rules = tt; value = rw r refl; finite = λ e. h (sym r ∙ e) }
  read Max μ g b (inner n Max ks) i h r =
      read-node Max Max μ g b n ks (λ x. x) r.0 (read-each Max μ g b ks i h r.1)
  read Max μ g b (inner n Min ks) i h r =
      read-node Max Min μ g b n ks (λ x. x) r.0 (read_first Max Min μ g b _ ks i (λ z. (h z, refl)) r.1)
  read Min μ g b (inner n Max ks) i h r =
      read-node Min Max μ g b n ks (λ x. x) r.0 (read_first Min Max μ g b _ ks i (λ z. (h z, refl)) r.1)
  read Min μ g b (inner n Min ks) i h r =
      read-node Min Min μ g b n ks (λ x. x) r.0 (read-each Min μ g b ks i h r.1)

  read-each : (p : Side) (μ : ℕ → ℕ) (g : ℕ → Bool) (b : Bool) (ks : Children) → CappedChildren μ ks
      → (b ≡ true → Finite p (minimax_children μ p ks))
      → ReadEach p μ g b ks → ReadChildren p μ g b ks (Each g ks) (minimax_children μ p ks)
  read-each p μ g b (last t) i h r =
      let x = read p μ g b t i h r in
      let e = read-root p μ g b t r in
      record { rules = x.rules; if_in = λ z. e ∙ z; if_out = λ z. e ∙ z; value = x.value; finite = x.finite }
  read-each p μ g b (t then ts) i h r =
      let x = read p μ g b t i.0 (λ z. (finite-both p _ _ (h z)).0) r.0 in
      let y = read-each p μ g b ts i.1 (λ z. (finite-both p _ _ (h z)).1) r.1 in
      let e = read-root p μ g b t r.0 in
      record {
        rules = (x.rules, y.rules);
        if_in = λ z. (e ∙ z, y.if_in z);
        if_out = λ z. (e ∙ z, y.if_out z);
        value = each-value p b _ _ _ _ x.value y.value;
        finite = (x.finite, y.finite);
      }

  read_first : (p q : Side) (μ : ℕ → ℕ) (g : ℕ → Bool) (b : Bool) (v : ℕ) (ks : Children) → CappedChildren μ ks
      → (b ≡ true → Finite p v × (minimax_children μ q ks ≡ v)) → ReadFirst p μ g b v ks
      → ReadChildren p μ g b ks (OneOf g ks) v
  read_first p q μ g b v (last t) i h r =
      let c = eqb (minimax μ t) v in
      let x =
      read p μ g (b && c) t i (λ z. rw (eqb-true (minimax μ t) v (and_both b c z).1) (h (and_both b c z).0).0) r in
      let e = read-root p μ g (b && c) t r in
      let f : b ≡ true → c ≡ true = λ z. eq-eqb (minimax μ t) v (h z).1 in
      record {
        rules = x.rules;
        if_in = λ z. e ∙ rw (z, f z) refl;
        if_out = λ z. e ∙ false-and b c z;
        value = last-value b c _ _ v _ (λ z. (f z, (h z).1)) x.value;
        finite = x.finite;
      }
  read_first p q μ g b v (t then ts) i h r =
      let c = eqb (minimax μ t) v in
      let x =
      read p μ g (b && c) t i.0 (λ z. rw (eqb-true (minimax μ t) v (and_both b c z).1) (h (and_both b c z).0).0)
      r.0 in
      let y =
      read_first p q μ g (b && not c) v ts i.1
      (λ z.
      let k = and-not-both b c z in
      ((h k.0).0, better-second q (minimax μ t) _ v (h k.0).1 (eqb-false (minimax μ t) v k.1)))
      r.1 in
      let e = read-root p μ g (b && c) t r.0 in
      record {
        rules = (x.rules, y.rules);
        if_in = first_one b c (g (number t)) (OneOf g ts) (NoneOf g ts) e y.if_in y.if_out;
        if_out = λ z. (e ∙ false-and b c z, y.if_out (false-and b (not c) z));
        value =
            first-value p b c _ _ (minimax μ t) v (λ z. rw (h z).1 at (capped-value μ q (t then ts) i))
            (λ z. eqb-true (minimax μ t) v z)
            x.value y.value;
        finite = (x.finite, y.finite);
      }

-- what is read off a valuation whose minimax value is finite is a solution tree of that value, with finite leaves only
pub read-solution : (p : Side) (μ : ℕ → ℕ) (g : ℕ → Bool) (t : Tree) → Capped μ t → Finite p (minimax μ t)
    → ReadOff p μ g true t
    → SolutionTree p g t × (solution_value p μ g t ≡ minimax μ t) × EveryLeaf (λ n. g n ≡ true → Finite p (μ n)) t
read-solution p μ g t i h r =
    let k = read p μ g true t i (λ _. h) r in
    let u = (minimax-within 0 greatest μ t (every_map _ _ (λ n l. (omega arith, l)) t i)).1 in
    let v = value-best p μ g t ∙ ap (λ x. better p x (worst p)) k.value ∙ (better-worst p (minimax μ t) u).0 in
    ((read-root p μ g true t r, k.rules), v, k.finite)

-- is the node k chosen, where b says whether the root is
abbrev mutual
  is_chosen : Side → (ℕ → ℕ) → Bool → Tree → ℕ → Bool
  is_chosen p μ b (leaf n) k = b && eqb k n
  is_chosen p μ b (inner n q ks) k =
      (b && eqb k n) || cond (same p q) (is_chosen_each p μ b ks k)
      (is_chosen_first p μ b (minimax_children μ q ks) ks k)

  is_chosen_each : Side → (ℕ → ℕ) → Bool → Children → ℕ → Bool
  is_chosen_each p μ b (last t) k = is_chosen p μ b t k
  is_chosen_each p μ b (t then ts) k = is_chosen p μ b t k || is_chosen_each p μ b ts k

  is_chosen_first : Side → (ℕ → ℕ) → Bool → ℕ → Children → ℕ → Bool
  is_chosen_first p μ b v (last t) k = is_chosen p μ (b && eqb (minimax μ t) v) t k
  is_chosen_first p μ b v (t then ts) k =
      is_chosen p μ (b && eqb (minimax μ t) v) t k || is_chosen_first p μ (b && not (eqb (minimax μ t) v)) v ts k

mutual
  -- below a node that is not chosen none is
  none-chosen : (p : Side) (μ : ℕ → ℕ) (t : Tree) (k : ℕ) → is_chosen p μ false t k ≡ false
  none-chosen p μ (leaf n) k = refl
  none-chosen p μ (inner n q ks) k =
      cond_cases (λ x. x ≡ false) (same p q) _ _ (λ _. none_each p μ ks k)
      (λ _. none_first p μ (minimax_children μ q ks) ks k)

  none_each : (p : Side) (μ : ℕ → ℕ) (ks : Children) (k : ℕ) → is_chosen_each p μ false ks k ≡ false
  none_each p μ (last t) k = none-chosen p μ t k
  none_each p μ (t then ts) k = rw (none-chosen p μ t k) (none_each p μ ts k)

  none_first : (p : Side) (μ : ℕ → ℕ) (v : ℕ) (ks : Children) (k : ℕ) → is_chosen_first p μ false v ks k ≡ false
  none_first p μ v (last t) k = none-chosen p μ t k
  none_first p μ v (t then ts) k = rw (none-chosen p μ t k) (none_first p μ v ts k)

-- one of two lists, by a test
either-among : (b : Bool) {x y : Bool} (u v : List ℕ) (k : ℕ) → x ≡ among u k → y ≡ among v k
    → cond b x y ≡ among (cond b u v) k
either-among true u v k e f = e
either-among false u v k e f = f

-- the first child if it has the value (c), and the others if not
first-among : (p : Side) (μ : ℕ → ℕ) (v : ℕ) (t : Tree) (ts : Children) (k : ℕ) (c : Bool)
    → is_chosen p μ true t k ≡ among (chosen p μ t) k
    → (c ≡ false → is_chosen_first p μ true v ts k ≡ among (chosen_first p μ v ts) k)
    → is_chosen p μ c t k || is_chosen_first p μ (not c) v ts k
    ≡ among (cond c (chosen p μ t) (chosen_first p μ v ts)) k
first-among p μ v t ts k true e f = rw (none_first p μ v ts k) (or-false (is_chosen p μ true t k) ∙ e)
first-among p μ v t ts k false e f = rw (none-chosen p μ t k) (f refl)

mutual
  -- where the root is chosen they are the nodes of the list
  chosen-among : (p : Side) (μ : ℕ → ℕ) (t : Tree) (k : ℕ) → is_chosen p μ true t k ≡ among (chosen p μ t) k
  chosen-among p μ (leaf n) k = sym (or-false (eqb k n))
  chosen-among p μ (inner n q ks) k =
      ap (◌||◌ (eqb k n))
      (either-among (same p q) _ _ k (each-among p μ ks k) (children-among p q μ (minimax_children μ q ks) ks k refl))

  each-among : (p : Side) (μ : ℕ → ℕ) (ks : Children) (k : ℕ)
      → is_chosen_each p μ true ks k ≡ among (chosen_each p μ ks) k
  each-among p μ (last t) k = chosen-among p μ t k
  each-among p μ (t then ts) k =
      ap₂ ◌||◌ (chosen-among p μ t k) (each-among p μ ts k)
      ∙ sym (among-append (chosen p μ t) (chosen_each p μ ts) k)

  children-among : (p q : Side) (μ : ℕ → ℕ) (v : ℕ) (ks : Children) (k : ℕ) → minimax_children μ q ks ≡ v
      → is_chosen_first p μ true v ks k ≡ among (chosen_first p μ v ks) k
  children-among p q μ v (last t) k e = rw (eq-eqb (minimax μ t) v e) (chosen-among p μ t k)
  children-among p q μ v (t then ts) k e =
      first-among p μ v t ts k (eqb (minimax μ t) v) (chosen-among p μ t k)
      (λ z. children-among p q μ v ts k (better-second q (minimax μ t) _ v e (eqb-false (minimax μ t) v z)))

-- only nodes of the tree are chosen
mutual
  chosen-in : (p : Side) (μ : ℕ → ℕ) (b : Bool) (t : Tree) (k : ℕ) → is_chosen p μ b t k ≡ true → In k t
  chosen-in p μ b (leaf n) k e = eqb-true k n (and_both b (eqb k n) e).1
  chosen-in p μ b (inner n q ks) k e =
      ⊎_elim (λ z. inl (eqb-true k n (and_both b (eqb k n) z).1))
      (λ z.
      inr (cond_cases (λ x. x ≡ true → InChildren k ks) (same p q) _ _ (λ _ y. chosen_each-in p μ b ks k y)
      (λ _ y. chosen_first-in p μ b (minimax_children μ q ks) ks k y) z))
      (or_cases (b && eqb k n) _ e)

  chosen_each-in : (p : Side) (μ : ℕ → ℕ) (b : Bool) (ks : Children) (k : ℕ) → is_chosen_each p μ b ks k ≡ true
      → InChildren k ks
  chosen_each-in p μ b (last t) k e = chosen-in p μ b t k e
  chosen_each-in p μ b (t then ts) k e =
      ⊎_elim (λ z. inl (chosen-in p μ b t k z)) (λ z. inr (chosen_each-in p μ b ts k z))
      (or_cases (is_chosen p μ b t k) _ e)

  chosen_first-in : (p : Side) (μ : ℕ → ℕ) (b : Bool) (v : ℕ) (ks : Children) (k : ℕ)
      → is_chosen_first p μ b v ks k ≡ true
      → InChildren k ks
  chosen_first-in p μ b v (last t) k e = chosen-in p μ (b && eqb (minimax μ t) v) t k e
  chosen_first-in p μ b v (t then ts) k e =
      ⊎_elim (λ z. inl (chosen-in p μ (b && eqb (minimax μ t) v) t k z))
      (λ z. inr (chosen_first-in p μ (b && not (eqb (minimax μ t) v)) v ts k z))
      (or_cases (is_chosen p μ (b && eqb (minimax μ t) v) t k) _ e)

-- a set that is a node's own part and its children's part K: what it is at the node and at its children
node-fits : (g K : ℕ → Bool) (b : Bool) (n : ℕ) (ks : Children) → (InChildren n ks → ⊥)
    → ((k : ℕ) → K k ≡ true → InChildren k ks)
    → ((k : ℕ) → (k ≡ n) ⊎ InChildren k ks → g k ≡ (b && eqb k n) || K k)
    → (g n ≡ b) × ((k : ℕ) → InChildren k ks → g k ≡ K k)
node-fits g K b n ks d f h = (
  h n (inl refl) ∙ simp (eq-eqb n n refl, is_false (K n) (λ e. d (f n e)), and-true, or-false),
  λ k i. h k (inr i) ∙ simp (ne_eqb k n (λ e. d (subst (λ x. InChildren x ks) e i)), and-false),
)

-- a set that is the first child's part A and the others' part B
kids-fit : (g A B : ℕ → Bool) (t : Tree) (ts : Children) → ((k : ℕ) → In k t → InChildren k ts → ⊥)
    → ((k : ℕ) → A k ≡ true → In k t)
    → ((k : ℕ) → B k ≡ true → InChildren k ts) → ((k : ℕ) → In k t ⊎ InChildren k ts → g k ≡ A k || B k)
    → ((k : ℕ) → In k t → g k ≡ A k) × ((k : ℕ) → InChildren k ts → g k ≡ B k)
kids-fit g A B t ts d a b h = (
  λ k i. h k (inl i) ∙ simp (is_false (B k) (λ e. d k i (b k e)), or-false),
  λ k i. h k (inr i) ∙ simp (is_false (A k) (λ e. d k (a k e) i)),
)

-- a set that is the chosen one on the tree's nodes is read off, if the nodes' numbers are distinct
mutual
  fits-test : (p : Side) (μ : ℕ → ℕ) (g : ℕ → Bool) (b : Bool) (t : Tree) → Distinct t
      → ((k : ℕ) → In k t → g k ≡ is_chosen p μ b t k)
      → ReadOff p μ g b t
  fits-test p μ g b (leaf n) d h = h n refl ∙ simp (eq-eqb n n refl, and-true)
  fits-test Max μ g b (inner n Max ks) d h =
      let k = node-fits g (is_chosen_each Max μ b ks) b n ks d.0 (chosen_each-in Max μ b ks) h in
      (k.0, fits_each Max μ g b ks d.1 k.1)
  fits-test Max μ g b (inner n Min ks) d h =
      let k = node-fits g (is_chosen_first Max μ b _ ks) b n ks d.0 (chosen_first-in Max μ b _ ks) h in
      (k.0, fits-first Max μ g b _ ks d.1 k.1)
  fits-test Min μ g b (inner n Max ks) d h =
      let k = node-fits g (is_chosen_first Min μ b _ ks) b n ks d.0 (chosen_first-in Min μ b _ ks) h in
      (k.0, fits-first Min μ g b _ ks d.1 k.1)
  fits-test Min μ g b (inner n Min ks) d h =
      let k = node-fits g (is_chosen_each Min μ b ks) b n ks d.0 (chosen_each-in Min μ b ks) h in
      (k.0, fits_each Min μ g b ks d.1 k.1)

  fits_each : (p : Side) (μ : ℕ → ℕ) (g : ℕ → Bool) (b : Bool) (ks : Children) → DistinctChildren ks
      → ((k : ℕ) → InChildren k ks → g k ≡ is_chosen_each p μ b ks k) → ReadEach p μ g b ks
  fits_each p μ g b (last t) d h = fits-test p μ g b t d h
  fits_each p μ g b (t then ts) d h =
      let k =
      kids-fit g (is_chosen p μ b t) (is_chosen_each p μ b ts) t ts d.2 (chosen-in p μ b t)
      (chosen_each-in p μ b ts) h in
      (fits-test p μ g b t d.0 k.0, fits_each p μ g b ts d.1 k.1)

  fits-first : (p : Side) (μ : ℕ → ℕ) (g : ℕ → Bool) (b : Bool) (v : ℕ) (ks : Children) → DistinctChildren ks
      → ((k : ℕ) → InChildren k ks → g k ≡ is_chosen_first p μ b v ks k) → ReadFirst p μ g b v ks
  fits-first p μ g b v (last t) d h = fits-test p μ g _ t d h
  fits-first p μ g b v (t then ts) d h =
      let k =
      kids-fit g (is_chosen p μ _ t) (is_chosen_first p μ _ v ts) t ts d.2 (chosen-in p μ _ t)
      (chosen_first-in p μ _ v ts) h in
      (fits-test p μ g _ t d.0 k.0, fits-first p μ g _ v ts d.1 k.1)

pub fits : (p : Side) (μ : ℕ → ℕ) (g : ℕ → Bool) (t : Tree) → Distinct t
    → ((k : ℕ) → In k t → g k ≡ among (chosen p μ t) k)
    → ReadOff p μ g true t
fits p μ g t d h = fits-test p μ g true t d (λ k i. h k i ∙ sym (chosen-among p μ t k))
