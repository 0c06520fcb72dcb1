-- What a change of the arrays within one node's tree leaves as it was, and what new states of a node's children show.
use Rattle.prelude.proofs.{ℕ, ◌+◌, ◌≤◌, ◌<◌, arith, ◌≡◌, refl, sym, ◌∙◌, ap, subst, inl, inr, List, [], ◌∷◌, ◌++◌}
use Rattle.prelude.proofs.{append_assoc, append-nil}
use Rattle.gametree.specs.declared.Side.{Side}
use Rattle.gametree.specs.declared.Side.TheVariants.{Max, Min}
use Rattle.gametree.specs.{Tree, inner, Children, last, ◌then◌, number, In, InChildren, Distinct, DistinctChildren}
use Rattle.gametree.specs.{Status, State, LIVE, live}
use Rattle.gametree_theory.proofs.Sss.Fronts.{ChildIn}
use Rattle.gametree_theory.proofs.Sss.FrontSteps.{in-child}
use Rattle.gametree_theory.proofs.Minimax.Nodes.{number_in}
use Rattle.sss_states.specs.{Arrays, Listed, Above, Leads, Shows, listed, expanded, Siblings, none, one, more}
use Rattle.sss_states.specs.{Beside, only, first, later, Around, top, child, state_at}
use Rattle.sss_states.proofs.Shown.{beside-child}

-- the arrays a and z agree at node k
pub record AgreeAt (a z : Arrays) (k : ℕ) : Type 0 where
  pub says : (s : Status) (m : ℕ) → a.says k s m → z.says k s m
  pub link : z.link k ≡ a.link k
  pub best : z.best k ≡ a.best k

-- they agree but for the nodes of u
abbrev pub AgreeBut : Arrays → Arrays → Tree → Type 0
AgreeBut a z u = (k : ℕ) → (In k u → ⊥) → AgreeAt a z k

-- a child's nodes are distinct
pub child-distinct : (u : Tree) (ks : Children) → ChildIn u ks → DistinctChildren ks → Distinct u
child-distinct u (last t) c d = subst Distinct (sym c) d
child-distinct u (t then ts) (inl c) d = subst Distinct (sym c) d.0
child-distinct u (t then ts) (inr c) d = child-distinct u ts c d.1

module _ (a z : Arrays) where
  listed_same : {n : ℕ} {L : List State} → AgreeAt a z n → Listed a n L → Listed z n L
  listed_same {n} g h =
      record {
        status = h.status;
        says = rw g.best (g.says h.status (a.best n) h.says);
        link = g.link ∙ h.link;
        only = h.only ∙ ap (λ k. state_at n h.status k ∷ []) (sym g.best);
      }

  above_same : {m n : ℕ} {u : Tree} → AgreeAt a z n → Above a m n u → Above z m n u
  above_same g h = record { link = g.link ∙ h.link; later = h.later; best = g.best ∙ h.best }

  mutual
    -- where the arrays agree, they show the same states
    pub shown-same : {t : Tree} {L : List State} → Shows a t L → Distinct t → ((k : ℕ) → In k t → AgreeAt a z k)
        → Shows z t L
    shown-same (listed {t = t} h) d g = listed (listed_same (g (number t) (number_in t)) h)
    shown-same (expanded {n = n} {q = q} {ks = ks} {u = u} F M G l h b e) d g =
        let c = beside-child a b in
        let f : (k : ℕ) → In k u → AgreeAt a z k = λ k i. g k (inr (in-child k u ks c i)) in
        let leads : Leads z n u = rw (f (number u) (number_in u)).best (above_same (g n (inl refl)) l) in
        let beside : Beside z q (z.best n) ks u F G =
        rw (g n (inl refl)).best (beside_same b d.1 (λ k i j. g k (inr i))) in
        expanded F M G leads (shown-same h (child-distinct u ks c d.1) f) beside e

    siblings-same : {q : Side} {m : ℕ} {ks : Children} {L : List State} → Siblings a q m ks L → DistinctChildren ks
        → ((k : ℕ) → InChildren k ks → AgreeAt a z k) → Siblings z q m ks L
    siblings-same none d g = none
    siblings-same (one {t = t} m h i) d g = one m (shown-same h d g) (rw (g (number t) (number_in t)).best i)
    siblings-same (more {t = t} m F G h i b e) d g =
        more m F G (shown-same h d.0 (λ k j. g k (inl j))) (rw (g (number t) (inl (number_in t))).best i)
        (siblings-same b d.1 (λ k j. g k (inr j))) e

    -- a change within u leaves its siblings as they were
    pub beside_same : {q : Side} {m : ℕ} {ks : Children} {u : Tree} {F G : List State} → Beside a q m ks u F G
        → DistinctChildren ks → ((k : ℕ) → InChildren k ks → (In k u → ⊥) → AgreeAt a z k) → Beside z q m ks u F G
    beside_same only d g = only
    beside_same (first b) d g = first (siblings-same b d.1 (λ k i. g k (inr i) (λ j. d.2 k j i)))
    beside_same (later {u = u} {ts = ts} F₁ F₂ b c e) d g =
        later F₁ F₂ (siblings-same b d.0 (λ k i. g k (inl i) (λ j. d.2 k i (in-child k u ts (beside-child a c) j))))
        (beside_same c d.1 (λ k i. g k (inr i))) e

-- the nodes of a tree that the links lead to are distinct
pub around-distinct : (a : Arrays) {r : Tree} {m : ℕ} {u : Tree} {A B : List State} → Around a r m u A B → Distinct r
    → Distinct u
around-distinct a top d = d
around-distinct a (child {ks = ks} {u = u} F G w b h p q) d =
    child-distinct u ks (beside-child a b) (around-distinct a w d).1

-- a change within u leaves all that is around it
pub around-same : (a z : Arrays) {r : Tree} {m : ℕ} {u : Tree} {A B : List State} → Distinct r → AgreeBut a z u
    → Around a r m u A B → Around z r m u A B
around-same a z d g top = top
around-same a z d g (child {n = n} {ks = ks} {u = u} F G w b h p q) =
    let e = around-distinct a w d in
    let out : (k : ℕ) → (InChildren k ks → ⊥) → In k u → ⊥ = λ k o i. o (in-child k u ks (beside-child a b) i) in
    child F G (around-same a z d (λ k o. g k (out k (λ i. o (inr i)))) w) (beside_same a z b e.1 (λ k i. g k))
    (above_same a z (g n (out n e.0)) h) p q

-- a node that is on the list
pub alone-shows : (a : Arrays) (t : Tree) (n : ℕ) (s : Status) (m : ℕ) → number t ≡ n → a.says n s m → a.link n ≡ 0
    → a.best n ≡ m → Shows a t (state_at n s m ∷ [])
alone-shows a t n s m i e l b =
    listed {t = t} {L = state_at n s m ∷ []} (rw i (record {
      status = s;
      says = rw b e;
      link = l;
      only = ap (λ k. state_at n s k ∷ []) (sym b);
    }))

-- node k is on the list, LIVE with merit m
abbrev pub Fresh : Arrays → ℕ → ℕ → Type 0
Fresh a m k = a.says k LIVE m × (a.link k ≡ 0) × (a.best k ≡ m)

pub fresh-shows : (a : Arrays) (m : ℕ) (t : Tree) {k : ℕ} → number t ≡ k → Fresh a m k → Shows a t (live k m ∷ [])
fresh-shows a m t {k} e f = alone-shows a t k LIVE m e f.0 f.1 f.2

-- a node that goes down to a LIVE child, before which no states stand
pub opened : (a : Arrays) (n : ℕ) {q : Side} {ks : Children} {u : Tree} {m c : ℕ} {G : List State} → number u ≡ c
    → Beside a q m ks u [] G → Fresh a m c → a.link n ≡ c → n < c → a.best n ≡ m
    → Shows a (inner n q ks) (live c m ∷ G)
opened a n {q = q} {ks = ks} {u = u} {m = m} {c = c} {G = G} i b f l h e =
    let best = e ∙ sym f.2 ∙ ap a.best (sym i) in
    let leads : Leads a n u = record { link = l ∙ sym i; later = rw i h; best = best } in
    expanded {q = q} {ks = ks} [] (live c m ∷ []) G leads (fresh-shows a m u i f) (rw e b) refl

-- siblings and a child whose merit may have fallen: no merit is above m
pub beside-all : (a : Arrays) {m : ℕ} {ks : Children} {u : Tree} {F G : List State} (M : List State)
    → Beside a Max m ks u F G → Shows a u M → a.best (number u) ≤ m → Siblings a Max (m + 1) ks (F ++ (M ++ G))
beside-all a {m} {u = u} M only h i = one (m + 1) (subst (λ l. Shows a u l) (sym (append-nil M)) h) (omega arith)
beside-all a {m} {G = G} M (first b) h i = more (m + 1) M G h (omega arith) b refl
beside-all a {G = G} M (later F₁ F₂ (one m s j) c e) h i =
    more (m + 1) F₁ (F₂ ++ (M ++ G)) s (omega arith) (beside-all a M c h i)
    (ap (λ f. f ++ (M ++ G)) e ∙ append_assoc F₁ F₂ (M ++ G))

-- the siblings of a Min node's child have no states, whatever their limit
pub beside-min : (a : Arrays) {m : ℕ} {ks : Children} {u : Tree} {F G : List State} (k : ℕ) → Beside a Min m ks u F G
    → Beside a Min k ks u F G
beside-min a k only = only
beside-min a k (first none) = first none
beside-min a k (later F₁ F₂ none c e) = later [] F₂ none (beside-min a k c) e
