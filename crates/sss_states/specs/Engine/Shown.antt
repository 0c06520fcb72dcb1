-- The list of SSS*, kept by node number in three arrays. A node is on the list (its link is 0), or expanded: then its
-- link is the child to go down to, at a Max node the leftmost of its children's greatest merits, at a Min node its one
-- child that has states. For each node that is, or has below it, a listed state, `best` is the greatest merit of the
-- states at or below it.
use Rattle.std.specs.Prelude.{ℕ, ◌+◌, ◌≤◌, ◌<◌, ◌≡◌, List, [], ◌∷◌, ◌++◌}
use Rattle.lists.specs.Lists.{All}
use Rattle.gametree.specs.declared.Side.{Side}
use Rattle.gametree.specs.declared.Side.TheVariants.{Max, Min}
use Rattle.gametree.specs.Trees.{Tree, inner, Children, last, ◌then◌, number}
use Rattle.gametree.specs.Sss.{Status, State}

-- the arrays: what the entry of a node says of its status and merit, the links, and the greatest merits
pub record Arrays : Type 1 where
  pub says : ℕ → Status → ℕ → Type 0
  pub link : ℕ → ℕ
  pub best : ℕ → ℕ

abbrev pub state_at : ℕ → Status → ℕ → State
state_at n s m = record { node = n; status = s; merit = m }

-- the merits of the states are at most m, or below m
abbrev pub UpTo : ℕ → List State → Type 0
UpTo m L = All (λ s. s.merit ≤ m) L

abbrev pub Below : ℕ → List State → Type 0
Below m L = All (λ s. s.merit < m) L

module _ (a : Arrays) where
  -- node n is on the list: its own state
  pub record Listed (n : ℕ) (L : List State) : Type 0 where
    pub status : Status
    pub says : a.says n status (a.best n)
    pub link : a.link n ≡ 0
    pub only : L ≡ state_at n status (a.best n) ∷ []

  -- node n, of greatest merit m, goes down to its child u
  pub record Above (m n : ℕ) (u : Tree) : Type 0 where
    pub link : a.link n ≡ number u
    pub later : n < number u
    pub best : a.best n ≡ m

  -- and m is u's greatest merit
  abbrev pub Leads : ℕ → Tree → Type 0
  Leads n u = Above (a.best (number u)) n u

  mutual
    -- the arrays show the states L at and below a node: its own, or those of the child that it goes down to, between
    -- its siblings'
    pub data Shows : Tree → List State → Type 0 where
      listed : {t : Tree} {L : List State} → Listed (number t) L → Shows t L
      expanded : {n : ℕ} {q : Side} {ks : Children} {u : Tree} {L : List State} (F M G : List State)
          → Leads n u → Shows u M → Beside q (a.best n) ks u F G → L ≡ F ++ (M ++ G) → Shows (inner n q ks) L

    -- some siblings of that child, with greatest merits below m, show the states L: below a Min node they have none
    pub data Siblings : Side → ℕ → Children → List State → Type 0 where
      none : {m : ℕ} {ks : Children} → Siblings Min m ks []
      one : {t : Tree} {L : List State} (m : ℕ) → Shows t L → a.best (number t) < m → Siblings Max m (last t) L
      more : {t : Tree} {ts : Children} {L : List State} (m : ℕ) (F G : List State) → Shows t F → a.best (number t) < m
          → Siblings Max m ts G → L ≡ F ++ G → Siblings Max m (t then ts) L

    -- u is one of the children: its elder siblings show the states F, with merits below m, the younger ones G, with
    -- merits of at most m
    pub data Beside : Side → ℕ → Children → Tree → List State → List State → Type 0 where
      only : {q : Side} {m : ℕ} {u : Tree} → Beside q m (last u) u [] []
      first : {q : Side} {m : ℕ} {u : Tree} {ts : Children} {G : List State} → Siblings q (m + 1) ts G
          → Beside q m (u then ts) u [] G
      later : {q : Side} {m : ℕ} {t u : Tree} {ts : Children} {F G : List State} (F₁ F₂ : List State)
          → Siblings q m (last t) F₁ → Beside q m ts u F₂ G → F ≡ F₁ ++ F₂ → Beside q m (t then ts) u F G

  -- the links lead from r down to u, and m is the greatest merit all the way; before the states below u stand A, with
  -- merits below m, and behind them B, with merits of at most m
  pub data Around (r : Tree) (m : ℕ) : Tree → List State → List State → Type 0 where
    top : Around r m r [] []
    child : {n : ℕ} {q : Side} {ks : Children} {u : Tree} {X Z A B : List State} (F G : List State)
        → Around r m (inner n q ks) X Z → Beside q m ks u F G → Above m n u → A ≡ X ++ F → B ≡ G ++ Z → Around r m u A B

  -- node c is the leftmost of greatest merit m on the list L
  pub record BestFound (r : Tree) (m : ℕ) (L : List State) (c : ℕ) : Type 0 where
    pub tree : Tree
    pub number_is : number tree ≡ c
    pub status : Status
    pub says : a.says c status m
    pub left : List State
    pub right : List State
    pub around : Around r m tree left right
    pub parts : L ≡ left ++ (state_at c status m ∷ right)
    pub lesser : Below m left
    pub no-greater : UpTo m right
