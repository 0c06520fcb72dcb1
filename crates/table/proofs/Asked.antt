-- Questions put to node after node: as long as they pass, the first rejection is that of the nodes that are left.
use Rattle.prelude.proofs.{ℕ, zero, suc, ◌+◌, ◌*◌, ◌-◌, ◌≤◌, ◌<◌, arith, dec_lt, ◌≡◌, refl, sym, ◌∙◌, Option, none}
use Rattle.prelude.proofs.{Result, Ok, Err}
use Rattle.prelude.proofs.{some, ap}
use Rattle.prelude.proofs.{List}
use Rattle.std.specs.Prelude.{IsErrAnd}
use Rattle.table.specs.declared.Rejection.{Rejection}
use Rattle.table.specs.{max_children, frames, next, ◌and_then◌, each_node, unless, answer, ◌leaving◌, check_node}
use Rattle.table.specs.{nodes_rejection}
use Rattle.table.proofs.Next.{next_more}
use Rattle.table.proofs.Stated.{both-passed, passed-both, passed-stated}
use Rattle.lists.proofs.Choice.{clash}

-- a rejection that `?` passes on is the one that was given
pub passed-on : {A E : Type 0} (r : Result A E) (e : E) → IsErrAnd r (λ y. y ≡ e) → r ≡ Err e
passed-on (Ok x) e p = absurd p
passed-on (Err y) e p = ap Err p

-- the answer of a question that gets a "no"
abbrev pub refused : ℕ → ℕ → Result ℕ Rejection
refused q p = Err (record { number = q; place = p })

nodes-rejected : {m : ℕ} {r : Rejection} → Ok m ≡ Err r → ⊥
nodes-rejected e = clash (cc)

-- an answer that gives nodes comes from questions that passed
pub answer-nodes : (m k : ℕ) (o : Option Rejection) → Ok k ≡ answer m o → (o ≡ none) × (k ≡ m)
answer-nodes m k none e = (refl, cc)
answer-nodes m k (some r) e = absurd (nodes-rejected e)

-- a rejection is that of the questions
pub answer-rejected : (m : ℕ) (r : Rejection) (o : Option Rejection) → Err r ≡ answer m o → o ≡ some r
answer-rejected m r none e = absurd (nodes-rejected (sym e))
answer-rejected m r (some s) e = cc

-- the answer of a call that puts questions first
pub answer-of : {A B : Type 0} (q : Option Rejection) (f : Rejection → A) (b : B) (a : A) (c : B)
    → (unless q (λ r. f r leaving b) (a leaving c)).answer ≡ unless q f a
answer-of none f b a c = refl
answer-of (some r) f b a c = refl

-- a question put to each node passes when it passes at each
pub each-passed : (q : ℕ → Option Rejection) (i n : ℕ) → each_node q i n ≡ none
    → (k : ℕ) → i ≤ k → k < i + n → q k ≡ none
unfolding each_node
each-passed q i zero e k a b = absurd (omega arith)
each-passed q i (suc n) e k a b =
    let p = both-passed (q i) _ e in
    elim (dec_lt i k) [
      | yes l ↦ each-passed q (i + 1) n p.1 k (omega arith) (omega arith)
      | no l ↦ (let f : k ≡ i = omega arith in rw f p.0)
    ]

pub passed-each : (q : ℕ → Option Rejection) (i n : ℕ) → ((k : ℕ) → i ≤ k → k < i + n → q k ≡ none)
    → each_node q i n ≡ none
unfolding each_node
passed-each q i zero p = refl
passed-each q i (suc n) p =
    passed-both (q i) _ (p i (omega arith) (omega arith))
    (passed-each q (i + 1) n (λ k a b. p k (omega arith) (omega arith)))

-- the first rejection of the nodes below n is that of the nodes from i on
abbrev pub Passed : (ℕ → Option Rejection) → ℕ → ℕ → Type 0
Passed q n i = each_node q 0 n ≡ each_node q i (n - i)

module _ (q : ℕ → Option Rejection) (n : ℕ) where
  -- before the first node nothing is left out
  pub passed_none : Passed q n 0
  passed_none = let e : n - 0 ≡ n = omega arith in rw e

  -- past the last node the question has passed
  pub passed-all : Passed q n n → each_node q 0 n ≡ none
  unfolding each_node
  passed-all p = let e : n - n ≡ 0 = omega arith in p ∙ rw e

  module _ (i : ℕ) (h : i < n) (p : Passed q n i) where
    passed-head : each_node q 0 n ≡ (q i and_then each_node q (i + 1) (n - (i + 1)))
    unfolding each_node
    passed-head = let e : n - i ≡ suc (n - (i + 1)) = omega arith in p ∙ rw e

    -- a node that passes leaves the later ones
    pub passed-more : q i ≡ none → Passed q n (i + 1)
    passed-more e = passed-head ∙ rw e

    -- a node that does not pass is the first
    pub passed-until : (r : Rejection) → q i ≡ some r → each_node q 0 n ≡ some r
    passed-until r e = passed-head ∙ rw e

  -- nodes that pass leave the later ones
  pub passed-below : (i : ℕ) → i ≤ n → ((k : ℕ) → k < i → q k ≡ none) → Passed q n i
  passed-below zero h p = passed_none
  passed-below (suc i) h p =
      let e : i + 1 ≡ suc i = omega arith in
      let q = passed-below i (omega arith) (λ k l. p k (omega arith)) in
      rw e at (passed-more i (omega arith) q (p i (omega arith)))

-- where questions 4 to 7 stand before node i: m is 1 plus the child counts so far
pub record Asking (t : List ℕ) (i m : ℕ) : Type 0 where
  pub within : i ≤ frames t
  pub counted : m ≡ next t i
  pub small : m ≤ 1 + max_children * i
  pub passed : Passed (check_node t) (frames t) i

-- before the first node
pub asking-none : (t : List ℕ) → Asking t 0 1
unfolding next
asking-none t =
    record {
      within = omega arith;
      counted = refl;
      small = omega arith;
      passed = passed_none (check_node t) (frames t);
    }

module _ (t : List ℕ) (i m : ℕ) (h : i < frames t) (a : Asking t i m) where
  -- node i passed
  pub asking-more : (k : ℕ) → Ok k ≡ answer (next t (i + 1)) (check_node t i) → Asking t (i + 1) k
  asking-more k e =
      let p = answer-nodes _ _ (check_node t i) e in
      let c = (passed-stated t i p.0).few_children in
      record {
        within = omega arith;
        counted = p.1;
        small = omega (arith, p.1, next_more t i, a.counted, a.small);
        passed = passed-more (check_node t) (frames t) i h a.passed p.0;
      }

  -- node i did not pass
  pub asking-until : (r : Rejection) → Err r ≡ answer (next t (i + 1)) (check_node t i)
      → Err r ≡ answer (next t (frames t)) (nodes_rejection t)
  asking-until r e =
      rw (passed-until (check_node t) (frames t) i h a.passed r (answer-rejected _ _ (check_node t i) e))

-- past the last node
pub asking-all : (t : List ℕ) (i m : ℕ) → frames t ≤ i → Asking t i m
    → Ok m ≡ answer (next t (frames t)) (nodes_rejection t)
asking-all t i m h a =
    let e : i ≡ frames t = omega (arith, a.within) in
    rw (passed-all (check_node t) (frames t) (rw e at a.passed), a.counted, e)
