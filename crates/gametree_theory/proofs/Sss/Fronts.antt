-- Every list that SSS* reaches is a front of the tree: one state for a node, or, below a Max node, the fronts of all
-- its children from left to right, below a Min node the front of one child. So the states below a node stand together,
-- and a purge takes the end of what stands before the state taken and the beginning of what stands behind it.
use Rattle.prelude.proofs.{ℕ, ◌≡◌, refl, sym, ◌∙◌, ap, ap₂, subst, ◌⊎◌, inl, inr, List, [], ◌∷◌, ◌++◌, append_assoc}
use Rattle.prelude.proofs.{append-nil}
use Rattle.gametree.specs.declared.Side.{Side}
use Rattle.gametree.specs.declared.Side.TheVariants.{Max, Min}
use Rattle.gametree.specs.{Tree, leaf, inner, Children, last, ◌then◌, number, State}
use Rattle.lists.proofs.Choice.{clash}

-- the list is one state, of node n
abbrev pub Alone : ℕ → List State → Type 0
Alone n L = (s : State) × (L ≡ s ∷ []) × (s.node ≡ n)

-- the list is a front of the tree
abbrev mutual
  pub Front : Tree → List State → Type 0
  Front (leaf n) L = Alone n L
  Front (inner n q ks) L = Alone n L ⊎ FrontChildren q ks L

  pub FrontChildren : Side → Children → List State → Type 0
  FrontChildren q (last t) L = Front t L
  FrontChildren Max (t then ts) L = (F : List State) × (G : List State) × (L ≡ F ++ G) × Front t F
      × FrontChildren Max ts G
  FrontChildren Min (t then ts) L = Front t L ⊎ FrontChildren Min ts L

-- one state is a front of its node's tree
pub alone-front : (t : Tree) (s : State) → s.node ≡ number t → Front t (s ∷ [])
alone-front (leaf n) s e = (s, refl, e)
alone-front (inner n q ks) s e = inl (s, refl, e)

-- u is one of the children
abbrev pub ChildIn : Tree → Children → Type 0
ChildIn u (last t) = u ≡ t
ChildIn u (t then ts) = (u ≡ t) ⊎ ChildIn u ts

-- the fronts of some siblings of a child: below a Max node each has one, below a Min node none
abbrev pub Siblings : Side → Children → List State → Type 0
Siblings Max ks L = FrontChildren Max ks L
Siblings Min ks L = L ≡ []

-- u is one of the children, with the fronts F of its elder siblings and G of its younger ones
abbrev pub Beside : Side → Children → Tree → List State → List State → Type 0
Beside q (last t) u F G = (u ≡ t) × (F ≡ []) × (G ≡ [])
Beside q (t then ts) u F G =
    ((u ≡ t) × (F ≡ []) × Siblings q ts G)
    ⊎ ((F₁ : List State) × (F₂ : List State) × (F ≡ F₁ ++ F₂) × Siblings q (last t) F₁ × Beside q ts u F₂ G)

-- u is a tree within r, and a front of u between A and B makes a front of r
pub data Within (r : Tree) : Tree → List State → List State → Type 0 where
  top : Within r r [] []
  child : {n : ℕ} {q : Side} {ks : Children} {u : Tree} {X Z A B : List State} (F G : List State)
      → Within r (inner n q ks) X Z → Beside q ks u F G → A ≡ X ++ F → B ≡ G ++ Z → Within r u A B

-- a front of u is one of its parent where its siblings have none
between : {u t : Tree} {F G : List State} (M : List State) → u ≡ t → F ≡ [] → G ≡ [] → Front u M
    → Front t (F ++ (M ++ G))
between {t = t} M e p q f =
    subst (λ L. Front t L) (sym (ap₂ (λ x y. x ++ (M ++ y)) p q ∙ append-nil M)) (subst (λ x. Front x M) e f)

-- with the fronts of its siblings it makes one of its parent
pub beside-front : (q : Side) (ks : Children) (u : Tree) (F G M : List State) → Beside q ks u F G → Front u M
    → FrontChildren q ks (F ++ (M ++ G))
beside-front q (last t) u F G M b f = between M b.0 b.1 b.2 f
beside-front Max (t then ts) u F G M (inl b) f =
    (M, G, ap (λ x. x ++ (M ++ G)) b.1, subst (λ x. Front x M) b.0 f, b.2)
beside-front Max (t then ts) u F G M (inr b) f = (
  b.0,
  b.1 ++ (M ++ G),
  ap (λ x. x ++ (M ++ G)) b.2 ∙ append_assoc b.0 b.1 (M ++ G),
  b.3,
  beside-front Max ts u b.1 G M b.4 f,
)
beside-front Min (t then ts) u F G M (inl b) f = inl (between M b.0 b.1 b.2 f)
beside-front Min (t then ts) u F G M (inr b) f =
    inr (subst (λ x. FrontChildren Min ts (x ++ (M ++ G))) (sym (b.2 ∙ ap (λ x. x ++ b.1) b.3))
    (beside-front Min ts u b.1 G M b.4 f))

regroup : (X F M G Z A B : List State) → A ≡ X ++ F → B ≡ G ++ Z → X ++ ((F ++ (M ++ G)) ++ Z) ≡ A ++ (M ++ B)
regroup X F M G Z A B p q = rw (p, q) (simp append_assoc)

-- a front of u in its place makes a front of the whole
pub plug : {r u : Tree} {A B : List State} → Within r u A B → (M : List State) → Front u M → Front r (A ++ (M ++ B))
plug {r} top M f = subst (λ L. Front r L) (sym (append-nil M)) f
plug {r} (child {q = s} {ks = ks} {u = u} {X = X} {Z = Z} {A = A} {B = B} F G w b p q) M f =
    subst (λ L. Front r L) (regroup X F M G Z A B p q) (plug w (F ++ (M ++ G)) (inr (beside-front s ks u F G M b f)))

-- where a state of two joined lists stands
data Split (A : List State) (s : State) (B F G : List State) : Type 0 where
  in_first : (C : List State) → F ≡ A ++ (s ∷ C) → B ≡ C ++ G → Split A s B F G
  in_second : (C : List State) → A ≡ F ++ C → G ≡ C ++ (s ∷ B) → Split A s B F G

by-split : {R : Type 0} {A : List State} {s : State} {B F G : List State} → Split A s B F G
    → ((C : List State) → F ≡ A ++ (s ∷ C) → B ≡ C ++ G → R)
    → ((C : List State) → A ≡ F ++ C → G ≡ C ++ (s ∷ B) → R) → R
by-split (in_first C p q) f g = f C p q
by-split (in_second C p q) f g = g C p q

split-cons : (a : State) (A : List State) (s : State) (B F G : List State) → Split A s B F G
    → Split (a ∷ A) s B (a ∷ F) G
split-cons a A s B F G (in_first C p q) = in_first C (ap (λ l. a ∷ l) p) q
split-cons a A s B F G (in_second C p q) = in_second C (ap (λ l. a ∷ l) p) q

split : (A : List State) (s : State) (B F G : List State) → A ++ (s ∷ B) ≡ F ++ G → Split A s B F G
split A s B [] G e = in_second A refl (sym e)
split [] s B (f ∷ F) G e = in_first F (let p : s ≡ f = cc in ap (λ x. x ∷ F) (sym p)) (cc)
split (a ∷ A) s B (f ∷ F) G e =
    let p : a ≡ f = cc in
    let q : A ++ (s ∷ B) ≡ F ++ G = cc in
    subst (λ x. Split (a ∷ A) s B (x ∷ F) G) p (split-cons a A s B F G (split A s B F G q))

-- the tree of the state s in a front, with what stands before and behind it
pub record Located (r : Tree) (s : State) (A B : List State) : Type 0 where
  pub tree : Tree
  pub number_is : number tree ≡ s.node
  pub within : Within r tree A B

only-state : (A : List State) (s x : State) (B : List State) → A ++ (s ∷ B) ≡ x ∷ []
    → (A ≡ []) × (s ≡ x) × (B ≡ [])
only-state [] s x B e = (refl, cc, cc)
only-state (a ∷ []) s x B e = let z : s ∷ B ≡ [] = cc in clash (cc)
only-state (a ∷ b ∷ A) s x B e = clash (cc)

alone-located : (r u : Tree) (n : ℕ) (A : List State) (s : State) (B X Z : List State) → number u ≡ n
    → Alone n (A ++ (s ∷ B)) → Within r u X Z → Located r s (X ++ A) (B ++ Z)
alone-located r u n A s B X Z e a w =
    let o = only-state A s a.0 B a.1 in
    record {
      tree = u;
      number_is = e ∙ sym a.2 ∙ ap (λ x. x.node) (sym o.1);
      within = subst (λ l. Within r u l (B ++ Z)) (sym (append-nil X) ∙ ap (λ l. X ++ l) (sym o.0))
          (subst (λ l. Within r u X l) (ap (λ l. l ++ Z) (sym o.2)) w);
    }

moved : (r : Tree) (s : State) {A B C D : List State} → A ≡ C → B ≡ D → Located r s A B → Located r s C D
moved r s {A} {B} {C} {D} p q l = subst (λ x. Located r s x D) p (subst (λ x. Located r s A x) q l)

mutual
  locate : (r u : Tree) (A : List State) (s : State) (B X Z : List State) → Front u (A ++ (s ∷ B)) → Within r u X Z
      → Located r s (X ++ A) (B ++ Z)
  locate r (leaf n) A s B X Z f w = alone-located r (leaf n) n A s B X Z refl f w
  locate r (inner n q ks) A s B X Z (inl f) w = alone-located r (inner n q ks) n A s B X Z refl f w
  locate r (inner n q ks) A s B X Z (inr f) w =
      locate_children r q ks A s B X Z f (λ u F G b. child F G w b refl refl)

  locate_children : (r : Tree) (q : Side) (ks : Children) (A : List State) (s : State) (B X Z : List State)
      → FrontChildren q ks (A ++ (s ∷ B))
      → ((u : Tree) (F G : List State) → Beside q ks u F G → Within r u (X ++ F) (G ++ Z))
      → Located r s (X ++ A) (B ++ Z)
  locate_children r q (last t) A s B X Z f w =
      locate r t A s B X Z f (subst (λ l. Within r t l Z) (append-nil X) (w t [] [] (refl, refl, refl)))
  locate_children r Max (t then ts) A s B X Z f w =
      by-split (split A s B f.0 f.1 f.2)
      (λ C p q.
      moved r s refl (sym (append_assoc C f.1 Z) ∙ ap (λ l. l ++ Z) (sym q))
      (locate r t A s C X (f.1 ++ Z) (subst (λ l. Front t l) p f.3)
      (subst (λ l. Within r t l (f.1 ++ Z)) (append-nil X) (w t [] f.1 (inl (refl, refl, f.4))))))
      (λ C p q.
      moved r s (append_assoc X f.0 C ∙ ap (λ l. X ++ l) (sym p)) refl
      (locate_children r Max ts C s B (X ++ f.0) Z (subst (λ l. FrontChildren Max ts l) q f.4)
      (λ u F H b.
      subst (λ l. Within r u l (H ++ Z)) (sym (append_assoc X f.0 F))
      (w u (f.0 ++ F) H (inr (f.0, F, refl, f.3, b))))))
  locate_children r Min (t then ts) A s B X Z (inl f) w =
      locate r t A s B X Z f (subst (λ l. Within r t l Z) (append-nil X) (w t [] [] (inl (refl, refl, refl))))
  locate_children r Min (t then ts) A s B X Z (inr f) w =
      locate_children r Min ts A s B X Z f (λ u F G b. w u F G (inr ([], F, refl, refl, b)))

-- each state of a front stands in its place
pub located : (r : Tree) (A : List State) (s : State) (B : List State) → Front r (A ++ (s ∷ B)) → Located r s A B
located r A s B f = moved r s refl (append-nil B) (locate r r A s B [] [] f top)
