-- Steps of SSS*: runs of them, which state is taken, and the purge.
use Rattle.prelude.proofs.{ℕ, ◌≤◌, ◌<◌, le_refl, le_trans, lt_of_lt_of_le, arith, ◌≡◌, refl, sym, ◌∙◌, ap, ap₂, subst}
use Rattle.prelude.proofs.{fun_ext, Bool, true, false, cond, ◌&&◌, ◌||◌, and-false, none, some, List, [], ◌∷◌, ◌++◌}
use Rattle.prelude.proofs.{append-nil, ltb, eqb, ltb-false, le-ltb, eq-eqb, ne_eqb}
use Rattle.lists.specs.{All, among}
use Rattle.gametree.specs.declared.Side.TheVariants.{Max, Min}
use Rattle.gametree.specs.{Tree, leaf, inner, nodes, Link, root, under, subtree_at, link_in, above_in, left_in, Status}
use Rattle.gametree.specs.{LIVE, SOLVED, State, solved, beats, best_state, put, Step, empty, stop, quiet, evaluating}
use Rattle.gametree.specs.{purge, replace_live, replace_solved, replace, step}
use Rattle.lists.proofs.Choice.{cond_cases}
use Rattle.lists.proofs.Lists.{all_append, all_left, all_right}

-- steps from one list to another, with the leaves that they evaluate, in order; of an allowance of a replacements at
-- least b are left
pub data Steps (ν : ℕ → ℕ) (T : Tree) : ℕ → List State → List ℕ → List State → ℕ → Type 0 where
  done : {a b : ℕ} {L : List State} → b ≤ a → Steps ν T a L [] L b
  quietly : {a b c : ℕ} {L M N : List State} {w : List ℕ} → step ν T L ≡ quiet M → c < a → Steps ν T c M w N b
      → Steps ν T a L w N b
  evaluates : {a b c : ℕ} {L M N : List State} {w : List ℕ} {n m : ℕ} → step ν T L ≡ evaluating n m M → c < a
      → Steps ν T c M w N b → Steps ν T a L (n ∷ w) N b

module _ {ν : ℕ → ℕ} {T : Tree} where
  -- a greater allowance
  pub allow : {a b c : ℕ} {L N : List State} {w : List ℕ} → a ≤ c → Steps ν T a L w N b → Steps ν T c L w N b
  allow h (done k) = done (le_trans k h)
  allow h (quietly e k p) = quietly e (lt_of_lt_of_le k h) p
  allow h (evaluates e k p) = evaluates e (lt_of_lt_of_le k h) p

  -- less of it left
  pub spare : {a b c : ℕ} {L N : List State} {w : List ℕ} → Steps ν T a L w N b → c ≤ b → Steps ν T a L w N c
  spare (done k) h = done (le_trans h k)
  spare (quietly e k p) h = quietly e k (spare p h)
  spare (evaluates e k p) h = evaluates e k (spare p h)

  -- steps one after the other
  pub chain : {a b c d : ℕ} {L M N : List State} {w x : List ℕ} → Steps ν T a L w M b → c ≤ b → Steps ν T c M x N d
      → Steps ν T a L (w ++ x) N d
  chain (done k) h q = allow (le_trans h k) q
  chain (quietly e k p) h q = quietly e k (chain p h q)
  chain (evaluates e k p) h q = evaluates e k (chain p h q)

  -- one quiet step more
  pub then-quiet : {a b c : ℕ} {L M N : List State} {w : List ℕ} → Steps ν T a L w M b → c < b → step ν T M ≡ quiet N
      → Steps ν T a L w N c
  then-quiet (done k) h e = quietly e (le_trans h k) (done (le_refl _))
  then-quiet (quietly f k p) h e = quietly f k (then-quiet p h e)
  then-quiet (evaluates f k p) h e = evaluates f k (then-quiet p h e)

-- the lists A and B with states between them
abbrev pub between : (A B new : List State) → List State
between A B new = A ++ (new ++ B)

-- where the state b of the list L stands, and where new states are put by f
pub record Taken (b : State) (f : List State → List State) (L : List State) : Type 0 where
  pub left : List State
  pub right : List State
  pub parts : left ++ (b ∷ right) ≡ L
  pub puts : f ≡ between left right

-- the state taken is one of the list, and the new ones stand where it stood
pub taken : (T : Tree) (s : State) (ss : List State) → Taken (best_state T s ss) (put T s ss) (s ∷ ss)
taken T s [] = record { left = []; right = []; parts = refl; puts = fun_ext (λ new. sym (append-nil new)) }
taken T s (x ∷ xs) = at (beats T s (best_state T x xs)) (taken T x xs)
  where
    at : (b : Bool) → Taken (best_state T x xs) (put T x xs) (x ∷ xs)
        → Taken (cond b s (best_state T x xs)) (λ new. cond b (new ++ (x ∷ xs)) (s ∷ put T x xs new)) (s ∷ x ∷ xs)
    at true k = record { left = []; right = x ∷ xs; parts = refl; puts = refl }
    at false k =
        record {
          left = s ∷ k.left;
          right = k.right;
          parts = ap (λ l. s ∷ l) k.parts;
          puts = ap (λ f new. s ∷ f new) k.puts;
        }

-- so it is replaced there
pub step-taken : (ν : ℕ → ℕ) (T : Tree) (s : State) (ss : List State) → let k = taken T s ss in
    step ν T (s ∷ ss) ≡ replace ν T (best_state T s ss) (between k.left k.right) (best_state T s ss).status
step-taken ν T s ss = ap (λ f. replace ν T (best_state T s ss) f (best_state T s ss).status) (taken T s ss).puts

-- what all states of the list fulfil the one taken does, and those around it
pub taken-all : (T : Tree) (P : State → Type 0) (s : State) (ss : List State) → P s → All P ss
    → let k = taken T s ss in All P k.left × P (best_state T s ss) × All P k.right
taken-all T P s ss h i =
    let k = taken T s ss in
    let a = subst (All P) (sym k.parts) (h, i) in
    let r = all_right P k.left (best_state T s ss ∷ k.right) a in
    (all_left P k.left (best_state T s ss ∷ k.right) a, r.0, r.1)

-- and so do the states after a replacement, if the new ones do
pub between-all : (P : State → Type 0) (A B new : List State) → All P A → All P B → All P new
    → All P (between A B new)
between-all P A B new h i j = all_append P A (new ++ B) h (all_append P new B j i)

-- the merit of the state that is taken; 0 where there is none
abbrev pub taken_merit : Tree → List State → ℕ
taken_merit T [] = 0
taken_merit T (s ∷ ss) = (best_state T s ss).merit

-- it is the one that an evaluation gives
abbrev GivesMerit : Step → ℕ → Type 0
GivesMerit empty x = Unit {0}
GivesMerit (stop v) x = Unit {0}
GivesMerit (quiet M) x = Unit {0}
GivesMerit (evaluating n m M) x = m ≡ x

step-merit : (ν : ℕ → ℕ) (T : Tree) (L : List State) → GivesMerit (step ν T L) (taken_merit T L)
step-merit ν T [] = tt
step-merit ν T (s ∷ ss) = at (best_state T s ss) (put T s ss) (best_state T s ss).status
  where
    live : (b : State) (f : List State → List State) (t : Tree) → GivesMerit (replace_live ν b f t) b.merit
    live b f (leaf n) = refl
    live b f (inner n Max ks) = tt
    live b f (inner n Min ks) = tt

    solved : (b : State) (f : List State → List State) (l : Link) → GivesMerit (replace_solved T b f l) b.merit
    solved b f root = tt
    solved b f (under q Max c) = tt
    solved b f (under q Min none) = tt
    solved b f (under q Min (some c)) = tt

    at : (b : State) (f : List State → List State) (u : Status) → GivesMerit (replace ν T b f u) b.merit
    at b f LIVE = live b f (subtree_at b.node T)
    at b f SOLVED = solved b f (link_in T b.node)

pub merit-taken : (ν : ℕ → ℕ) (T : Tree) (L : List State) {n m : ℕ} {M : List State} → step ν T L ≡ evaluating n m M
    → m ≡ taken_merit T L
merit-taken ν T L e = subst (λ x. GivesMerit x (taken_merit T L)) e (step-merit ν T L)

-- s beats what has no more merit and is right of it
beats-behind : (T : Tree) (s x : State) → (x.merit ≤ s.merit) × (left_in T s.node x.node ≡ true)
    → beats T s x ≡ true
beats-behind T s x h = go (ltb x.merit s.merit) refl
  where
    go : (b : Bool) → ltb x.merit s.merit ≡ b
        → b || (eqb x.merit s.merit && left_in T s.node x.node) ≡ true
    go true e = refl
    go false e =
        rw (eq-eqb x.merit s.merit (omega (arith, ltb-false x.merit s.merit e, h.0)), h.1) refl

-- and does not beat what has more
beats-less : (T : Tree) (s x : State) → s.merit < x.merit → beats T s x ≡ false
beats-less T s x h =
    rw (le-ltb x.merit s.merit (omega arith), ne_eqb x.merit s.merit (λ e. omega (arith, e))) refl

-- a state that none exceeds, with all others right of it, is taken where it stands first
abbrev Behind : Tree → State → List State → Type 0
Behind T s R = All (λ x. (x.merit ≤ s.merit) × (left_in T s.node x.node ≡ true)) R

beats-all : (T : Tree) (s x : State) (xs : List State) → Behind T s (x ∷ xs) → beats T s (best_state T x xs) ≡ true
beats-all T s x xs h =
    beats-behind T s (best_state T x xs)
    (taken-all T (λ x. (x.merit ≤ s.merit) × (left_in T s.node x.node ≡ true)) x xs h.0 h.1).1

best-here : (T : Tree) (s : State) (R : List State) → Behind T s R → best_state T s R ≡ s
best-here T s [] h = refl
best-here T s (x ∷ xs) h = rw (beats-all T s x xs h)

put-here : (T : Tree) (s : State) (R new : List State) → Behind T s R → put T s R new ≡ new ++ R
put-here T s [] new h = sym (append-nil new)
put-here T s (x ∷ xs) new h = rw (beats-all T s x xs h)

-- and where all that stand before it are less
best-there : (T : Tree) (x : State) (L : List State) (s : State) (R : List State) → x.merit < s.merit
    → All (λ y. y.merit < s.merit) L → Behind T s R → best_state T x (L ++ (s ∷ R)) ≡ s
best-there T x [] s R h l r = rw (best-here T s R r, beats-less T x s h)
best-there T x (y ∷ ys) s R h l r = rw (best-there T y ys s R l.0 l.1 r, beats-less T x s h)

put-there : (T : Tree) (x : State) (L : List State) (s : State) (R new : List State) → x.merit < s.merit
    → All (λ y. y.merit < s.merit) L → Behind T s R → put T x (L ++ (s ∷ R)) new ≡ between (x ∷ L) R new
put-there T x [] s R new h l r = rw (best-here T s R r, beats-less T x s h) (ap (λ k. x ∷ k) (put-here T s R new r))
put-there T x (y ∷ ys) s R new h l r =
    rw (best-there T y ys s R l.0 l.1 r, beats-less T x s h)
    (ap (λ k. x ∷ k) (put-there T y ys s R new l.0 l.1 r))

-- the state s is replaced if all before it are less, none behind it is greater, and all behind it are right of it
pub step-at : (ν : ℕ → ℕ) (T : Tree) (L : List State) (s : State) (R : List State) → All (λ y. y.merit < s.merit) L
    → All (λ y. (y.merit ≤ s.merit) × (left_in T s.node y.node ≡ true)) R
    → step ν T (L ++ (s ∷ R)) ≡ replace ν T s (between L R) s.status
step-at ν T [] s R l r =
    ap₂ (λ b f. replace ν T b f b.status) (best-here T s R r) (fun_ext (λ new. put-here T s R new r))
step-at ν T (x ∷ L) s R l r =
    ap₂ (λ b f. replace ν T b f b.status) (best-there T x L s R l.0 l.1 r)
    (fun_ext (λ new. put-there T x L s R new l.0 l.1 r))

-- a purge at one state of a list
purge-append-one : (b : Bool) (s : State) (K L R : List State) → K ≡ L ++ R → cond b K (s ∷ K) ≡ cond b L (s ∷ L) ++ R
purge-append-one true s K L R e = e
purge-append-one false s K L R e = ap (λ l. s ∷ l) e

module _ (T : Tree) (p : ℕ) where
  -- a purge goes through both of two lists
  purge-append : (L R : List State) → purge T p (L ++ R) ≡ purge T p L ++ purge T p R
  purge-append [] R = refl
  purge-append (s ∷ ss) R =
      purge-append-one (above_in T p s.node) s (purge T p (ss ++ R)) (purge T p ss) (purge T p R) (purge-append ss R)

  -- and leaves p itself
  pub purge-between : (L R : List State) (m : ℕ)
      → purge T p (between L R (solved p m ∷ [])) ≡ purge T p L ++ (solved p m ∷ purge T p R)
  purge-between L R m =
      let self : above_in T p p ≡ false = rw (eq-eqb p p refl) (and-false (among (nodes (subtree_at p T)) p)) in
      purge-append L (solved p m ∷ R) ∙ ap (λ l. purge T p L ++ l) (rw self refl)

  -- nothing goes where nothing is below p
  pub purge-outside : (L : List State) → All (λ s. above_in T p s.node ≡ false) L → purge T p L ≡ L
  purge-outside [] h = refl
  purge-outside (s ∷ ss) h = rw h.0 (ap (λ l. s ∷ l) (purge-outside ss h.1))

  -- all goes where all is below p
  purge-below : (L : List State) → All (λ s. above_in T p s.node ≡ true) L → purge T p L ≡ []
  purge-below [] h = refl
  purge-below (s ∷ ss) h = rw h.0 (purge-below ss h.1)

  -- what is below p goes, wherever it stands
  pub purge-left : (L F : List State) → All (λ s. above_in T p s.node ≡ true) F → purge T p (L ++ F) ≡ purge T p L
  purge-left L F h = purge-append L F ∙ rw (purge-below F h) (append-nil (purge T p L))

  pub purge-right : (G R : List State) → All (λ s. above_in T p s.node ≡ true) G → purge T p (G ++ R) ≡ purge T p R
  purge-right G R h = purge-append G R ∙ rw (purge-below G h) refl

  -- a purge takes no fact from the states that stay
  pub purge-all : (P : State → Type 0) (L : List State) → All P L → All P (purge T p L)
  purge-all P [] h = tt
  purge-all P (s ∷ ss) h =
      cond_cases (All P) (above_in T p s.node) (purge T p ss) (s ∷ purge T p ss) (λ _. purge-all P ss h.1)
      (λ _. (h.0, purge-all P ss h.1))
