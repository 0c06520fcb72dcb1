-- The smallest certificate: no search evaluates fewer leaves than it has, and there is one.
use Rattle.prelude.proofs.{ℕ, ◌+◌, ◌≤◌, le_refl, le_trans, le_of_lt, ◌≡◌, refl, sym, ◌∙◌, ap, ap₂, inl, inr, Bool, true}
use Rattle.prelude.proofs.{false, cond, ◌&&◌, ◌||◌, List, [], ◌∷◌, ◌++◌, map, leb, eqb, length, leb-true, leb-false}
use Rattle.prelude.proofs.{eqb-true, eqb-false}
use Rattle.lists.specs.{All, among}
use Rattle.gametree.specs.declared.Side.{Side}
use Rattle.gametree.specs.declared.Side.TheVariants.{Max, Min}
use Rattle.gametree.specs.{Tree, leaf, inner, Children, last, ◌then◌, better, minimax, number, nodes, leaf_count}
use Rattle.gametree.specs.{leaf_count_children, In, InChildren, Proper, worst, solution_value, pair_leaves, inside}
use Rattle.gametree.specs.{flag}
use Rattle.gametree.specs.{Smallest}
use Rattle.gametree_theory.proofs.Certificates.Flags.{FlagsCertify}
use Rattle.gametree_theory.proofs.Certificates.Counting.{members, rules_hold, rules_hold_children, certificate?}
use Rattle.lists.proofs.Choice.{cond_cases, true-not-false}
use Rattle.lists.proofs.Lists.{all_left, all_right, all_map, all-at}
use Rattle.gametree_theory.proofs.Minimax.Nodes.{number_in, in-nodes}
use Rattle.gametree_theory.proofs.Certificates.Leaves.{best_leaf, best_leaf_children, value-best, pair-count}
use Rattle.gametree_theory.proofs.Certificates.Checker.{certificate-passes, passed-certifies}
use Rattle.gametree_theory.proofs.Certificates.Flags.{decided-certify}
use Rattle.gametree_theory.proofs.Minimax.Counts.{pair_leaves≤, count-list}

-- leaves that give a certificate are no fewer than the smallest one's
pub smallest≤ : (ν : ℕ → ℕ) (t : Tree) (g h : ℕ → Bool) (w : List ℕ) → Proper ν t → Smallest ν t g h
    → FlagsCertify ν (among w) t
    → pair_leaves g h t ≤ length w
smallest≤ ν t g h w r s p =
    le_trans (s.fewest _ _ (minimax ν t) p.certifies)
    (le_trans (pair_leaves≤ _ _ (among w) t p.max_leaves p.min_leaves) (count-list w t r.distinct))

-- two sets agree on the nodes of a tree
abbrev pub Same : (g h : ℕ → Bool) → Tree → Type 0
Same g h t = (k : ℕ) → In k t → g k ≡ h k

abbrev SameChildren : (g h : ℕ → Bool) → Children → Type 0
SameChildren g h ks = (k : ℕ) → InChildren k ks → g k ≡ h k

members-same : (g h : ℕ → Bool) (ks : Children) → SameChildren g h ks → members g ks ≡ members h ks
members-same g h (last t) e = rw (e (number t) (number_in t)) refl
members-same g h (t then ts) e = rw (e (number t) (inl (number_in t)), members-same g h ts (λ k i. e k (inr i))) refl

-- then the rules, the values and the counts are the same
mutual
  rules-same : (p : Side) (g h : ℕ → Bool) (t : Tree) → Same g h t → rules_hold p g t ≡ rules_hold p h t
  rules-same p g h (leaf n) e = refl
  rules-same p g h (inner n q ks) e =
      let f : SameChildren g h ks = λ k i. e k (inr i) in
      rw (members-same g h ks f, e n (inl refl), rules_children-same p g h ks f) refl

  rules_children-same : (p : Side) (g h : ℕ → Bool) (ks : Children) → SameChildren g h ks
      → rules_hold_children p g ks ≡ rules_hold_children p h ks
  rules_children-same p g h (last t) e = rules-same p g h t e
  rules_children-same p g h (t then ts) e =
      ap₂ ◌&&◌ (rules-same p g h t (λ k i. e k (inl i))) (rules_children-same p g h ts (λ k i. e k (inr i)))

mutual
  best-same : (p : Side) (ν : ℕ → ℕ) (g h : ℕ → Bool) (t : Tree) → Same g h t → best_leaf p ν g t ≡ best_leaf p ν h t
  best-same p ν g h (leaf n) e = rw (e n refl) refl
  best-same p ν g h (inner n q ks) e = best_children-same p ν g h ks (λ k i. e k (inr i))

  best_children-same : (p : Side) (ν : ℕ → ℕ) (g h : ℕ → Bool) (ks : Children) → SameChildren g h ks
      → best_leaf_children p ν g ks ≡ best_leaf_children p ν h ks
  best_children-same p ν g h (last t) e = best-same p ν g h t e
  best_children-same p ν g h (t then ts) e =
      ap₂ (better p) (best-same p ν g h t (λ k i. e k (inl i))) (best_children-same p ν g h ts (λ k i. e k (inr i)))

pub value_same : (p : Side) (ν : ℕ → ℕ) (g h : ℕ → Bool) (t : Tree) → Same g h t
    → solution_value p ν g t ≡ solution_value p ν h t
value_same p ν g h t e =
    value-best p ν g t ∙ ap (λ x. better p x (worst p)) (best-same p ν g h t e) ∙ sym (value-best p ν h t)

mutual
  count_same : (g h : ℕ → Bool) (t : Tree) → Same g h t → leaf_count g t ≡ leaf_count h t
  count_same g h (leaf n) e = rw (e n refl) refl
  count_same g h (inner n q ks) e = count_children-same g h ks (λ k i. e k (inr i))

  count_children-same : (g h : ℕ → Bool) (ks : Children) → SameChildren g h ks
      → leaf_count_children g ks ≡ leaf_count_children h ks
  count_children-same g h (last t) e = count_same g h t e
  count_children-same g h (t then ts) e =
      ap₂ ◌+◌ (count_same g h t (λ k i. e k (inl i))) (count_children-same g h ts (λ k i. e k (inr i)))

pair_leaves-same : (g h g' h' : ℕ → Bool) (t : Tree) → Same g g' t → Same h h' t
    → pair_leaves g h t ≡ pair_leaves g' h' t
pair_leaves-same g h g' h' t e f =
    pair-count g h t ∙ count_same _ _ t (λ k i. ap₂ ◌||◌ (e k i) (f k i)) ∙ sym (pair-count g' h' t)

certificate-same : (ν : ℕ → ℕ) (t : Tree) (g h g' h' : ℕ → Bool) → Same g g' t → Same h h' t
    → certificate? ν t g h ≡ certificate? ν t g' h'
certificate-same ν t g h g' h' e f =
    rw (
      e (number t) (number_in t),
      f (number t) (number_in t),
      rules-same Max g g' t e,
      rules-same Min h h' t f,
      value_same Max ν g g' t e,
      value_same Min ν h h' t f,
    ) refl

-- so a set that agrees with one of a certificate can stand for it
pub certificate-like : (ν : ℕ → ℕ) (t : Tree) (g h g' h' : ℕ → Bool) → Same g g' t → Same h h' t
    → certificate? ν t g h ≡ true
    → certificate? ν t g' h' ≡ true
certificate-like ν t g h g' h' e f c = sym (certificate-same ν t g h g' h' e f) ∙ c

-- a set with the number n put in or left out
abbrev with : ℕ → Bool → (ℕ → Bool) → ℕ → Bool
with n b g k = cond (eqb k n) b (g k)

-- all sets of some of the numbers of a list
abbrev subsets : List ℕ → List (ℕ → Bool)
subsets [] = (λ k. false) ∷ []
subsets (n ∷ ns) = map (with n true) (subsets ns) ++ map (with n false) (subsets ns)

all_of_map : {A B : Type 0} (P : B → Type 0) (f : A → B) (xs : List A) → All P (map f xs) → All (λ x. P (f x)) xs
all_of_map P f [] h = tt
all_of_map P f (x ∷ xs) h = (h.0, all_of_map P f xs h.1)

with-same : (g g' : ℕ → Bool) (n : ℕ) (b : Bool) → g n ≡ b → (ns : List ℕ) → All (λ k. g k ≡ g' k) ns
    → All (λ k. g k ≡ with n b g' k) (n ∷ ns)
with-same g g' n b f ns e = (at n (λ d. absurd (d refl)), all_map _ _ (λ k d. at k (λ _. d)) ns e)
  where
    at : (k : ℕ) → ((k ≡ n → ⊥) → g k ≡ g' k) → g k ≡ with n b g' k
    at k d = cond_cases (λ x. g k ≡ x) (eqb k n) b (g' k) (λ e. ap g (eqb-true k n e) ∙ f) (λ e. d (eqb-false k n e))

-- what holds of all of them holds of one that is like g on the list
like : (P : (ℕ → Bool) → Type 0) (ns : List ℕ) → All P (subsets ns) → (g : ℕ → Bool)
    → (g' : ℕ → Bool) × P g' × All (λ k. g k ≡ g' k) ns
like P [] h g = (λ k. false, h.0, tt)
like P (n ∷ ns) h g =
    let l = all_left P (map (with n true) (subsets ns)) (map (with n false) (subsets ns)) h in
    let r = all_right P (map (with n true) (subsets ns)) (map (with n false) (subsets ns)) h in
    choose (g n) refl (like (λ x. P (with n true x)) ns (all_of_map P (with n true) (subsets ns) l) g)
    (like (λ x. P (with n false x)) ns (all_of_map P (with n false) (subsets ns) r) g)
  where
    choose : (b : Bool) → g n ≡ b → (g' : ℕ → Bool) × P (with n true g') × All (λ k. g k ≡ g' k) ns
        → (g' : ℕ → Bool) × P (with n false g') × All (λ k. g k ≡ g' k) ns
        → (g' : ℕ → Bool) × P g' × All (λ k. g k ≡ g' k) (n ∷ ns)
    choose true e x y = (with n true x.0, x.1, with-same g x.0 n true e ns x.2)
    choose false e x y = (with n false y.0, y.1, with-same g y.0 n false e ns y.2)

-- the least of the good ones in a list, and no more than a good one that is given
record Best {A : Type 0} (good : A → Bool) (m : A → ℕ) (xs : List A) : Type 0 where
  one : A
  is_good : good one ≡ true
  best : All (λ x. good x ≡ true → m one ≤ m x) xs

best_of : {A : Type 0} (good : A → Bool) (m : A → ℕ) (a : A) → good a ≡ true → (xs : List A) → Best good m xs
best_of good m a g [] = record { one = a; is_good = g; best = tt }
best_of good m a g (x ∷ xs) =
    pick (best_of good m a g xs) (good x) refl (leb (m (best_of good m a g xs).one) (m x)) refl
  where
    pick : (b : Best good m xs) (c : Bool) → good x ≡ c → (d : Bool) → leb (m b.one) (m x) ≡ d → Best good m (x ∷ xs)
    pick b false e d f = record { one = b.one; is_good = b.is_good; best = (λ z. absurd (true-not-false z e), b.best) }
    pick b true e true f = record { one = b.one; is_good = b.is_good; best = (λ _. leb-true _ _ f, b.best) }
    pick b true e false f =
        record {
          one = x;
          is_good = e;
          best = (λ _. le_refl (m x), all_map _ _ (λ y k z. le_trans (le_of_lt (leb-false _ _ f)) (k z)) xs b.best);
        }

-- a pair of sets, and all pairs of two lists of them
abbrev Pair : Type 0
Pair = record { of_max : ℕ → Bool; of_min : ℕ → Bool }

abbrev pairs : List (ℕ → Bool) → List (ℕ → Bool) → List Pair
pairs [] hs = []
pairs (g ∷ gs) hs = map {B = Pair} (λ h. record { of_max = g; of_min = h }) hs ++ pairs gs hs

-- what holds of all pairs holds of each with each
all-pairs : (P : Pair → Type 0) (gs hs : List (ℕ → Bool)) → All P (pairs gs hs)
    → All (λ g. All (λ h. P (record { of_max = g; of_min = h })) hs) gs
all-pairs P [] hs a = tt
all-pairs P (g ∷ gs) hs a =
    let X : List Pair = map {B = Pair} (λ h. record { of_max = g; of_min = h }) hs in (
      all_of_map P (λ h. record { of_max = g; of_min = h }) hs (all_left P X (pairs gs hs) a),
      all-pairs P gs hs (all_right P X (pairs gs hs) a),
    )

-- there is a smallest certificate: of all pairs of sets of nodes that are one, the first with the fewest leaves
pub smallest-found : (ν : ℕ → ℕ) (t : Tree) → Proper ν t → (g : ℕ → Bool) × (h : ℕ → Bool) × Smallest ν t g h
smallest-found ν t r =
    let good : Pair → Bool = λ x. certificate? ν t x.of_max x.of_min in
    let m : Pair → ℕ = λ x. pair_leaves x.of_max x.of_min t in
    let p = decided-certify ν (λ _. true) t r (record { low_is = refl; high_is = refl }) in
    let seed : Pair =
    record { of_max = λ k. inside Max (flag ν (λ _. true) t k); of_min = λ k. inside Min (flag ν (λ _. true) t k) } in
    let S = subsets (nodes t) in
    let b =
    best_of good m seed (certificate-passes ν t seed.of_max seed.of_min (minimax ν t) p.certifies) (pairs S S) in
    let least : Pair → Type 0 = λ x. good x ≡ true → m b.one ≤ m x in
    let all = all-pairs least S S b.best in (
      b.one.of_max,
      b.one.of_min,
      record {
        value = solution_value Max ν b.one.of_max t;
        certifies = passed-certifies ν t b.one.of_max b.one.of_min b.is_good;
        fewest = λ g h v c.
            let x = like (λ g. All (λ h. least (record { of_max = g; of_min = h })) S) (nodes t) all g in
            let y = like (λ h. least (record { of_max = x.0; of_min = h })) (nodes t) x.1 h in
            let e : Same g x.0 t = λ k i. all-at (λ k. g k ≡ x.0 k) (nodes t) x.2 k (in-nodes k t i) in
            let f : Same h y.0 t = λ k i. all-at (λ k. h k ≡ y.0 k) (nodes t) y.2 k (in-nodes k t i) in
            let z = y.1 (certificate-like ν t g h x.0 y.0 e f (certificate-passes ν t g h v c)) in
            rw (pair_leaves-same g h x.0 y.0 t e f) z;
      },
    )
