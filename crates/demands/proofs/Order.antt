-- Request N14, sentence by sentence. "fills a lent list with the numbers of the valued leaves, in the order valued, and
-- leaves the rest of it": `leaves-exactly` in Demand2. MTD and SSS* give one list, alpha-beta's is in left-to-right
-- order, and a list has as many as the count and none twice: `one_list`, `from-the-left` and `listed-once` in
-- Sentences. A run that is stopped gives the first leaves of the full run's list: `first-of-list` in Allowance. After a
-- refusal all of the list is as it was: `keeps` in TheSentence. Tables that agree on the valued leaves get the same
-- lists: `local` in Sentences.
use Rattle.prelude.proofs.{ℕ, suc, ◌<◌, ◌≡◌, refl, ap, ◌∙◌, ◌↔◌, ◌⊎◌, Bool, true, false, ◌&&◌, some, List, [], ◌∷◌}
use Rattle.prelude.proofs.{◌++◌, leb, length, take, lt-leb}
use Rattle.lists.specs.{among}
use Rattle.gametree.specs.{least, minimax, State, stop, step, ListAfter}
use Rattle.gametree_theory.proofs.Theorems as theory
use Rattle.table.specs.{frames, tree, valuation, ask, ◌and_then◌, rejection, long_enough, Accepted}
use Rattle.table.proofs.Acceptance.{accepted-formed}
use Rattle.table.proofs.Proper.{tree-proper}
use Rattle.certificate_write.specs.{search_rejection}
use Rattle.methods.specs.{run_of}
use Rattle.demands.specs.{EverySearch, Given, count_of, Marked}
use Rattle.demands.proofs.Running.{every}
use Rattle.demands.proofs.Listing as calls

-- the nodes in the list are those marked 1
pub listed-marked : EverySearch (λ c. Given c → (k : ℕ)
    → (among (take (count_of c.answer) c.left.order) k ≡ true) ↔ Marked c.table c.left k)
listed-marked = every calls.listed-marked

-- "show that the state list holds a state until the root is taken SOLVED": each list that SSS* reaches on an accepted
-- table, by any number of replacements, holds one, so also the one where an allowance ends the run (`CutShort`)
module _ (t : List ℕ) (a : Accepted t) where
  abbrev After : ℕ → List ℕ → List State → Type 0
  After k w L = ListAfter (valuation t) (tree t) k w L

  pub state-held : {k : ℕ} {w : List ℕ} {L : List State} → After k w L → 0 < length L
  state-held r =
      let wf = accepted-formed t a in
      theory.state-held (valuation t) (tree t) (tree-proper t wf) r

  -- and from it the root is taken, SOLVED, or a state is replaced, which leads to the next list
  pub held-until : {k : ℕ} {w : List ℕ} {L : List State} → After k w L
      → ((v : ℕ) × (step (valuation t) (tree t) L ≡ stop v))
      ⊎ ((v : List ℕ) × ((M : List State) × After (suc k) v M))
  held-until r =
      let wf = accepted-formed t a in
      theory.held-until (valuation t) (tree t) (tree-proper t wf) r

  -- so the full run gives the root's value, from the root taken SOLVED, and not `least`, which a run without a state to
  -- take would give
  pub no-empty : ((run_of t).value ≡ minimax (valuation t) (tree t)) × (least < (run_of t).value)
  no-empty =
      let wf = accepted-formed t a in
      let e = theory.sss-minimax (valuation t) (tree t) (tree-proper t wf) in
      (e, rw e (theory.value-score (valuation t) (tree t) (tree-proper t wf).scored).0)

-- "A short list gets 10": place 0, after questions 1 to 9; and so does any other of the lent buffers
pub short-list : (t before after : List ℕ) (n : ℕ) → n < frames t
    → search_rejection t (before ++ n ∷ after) ≡ (rejection t and_then some (record { number = 10; place = 0 }))
short-list t before after n h = ap (λ b. rejection t and_then ask b 10 0) (too_short before)
  where
    and-false : (b : Bool) → (b && false) ≡ false
    and-false true = refl
    and-false false = refl

    too_short : (ls : List ℕ) → long_enough (frames t) (ls ++ n ∷ after) ≡ false
    too_short [] = rw (lt-leb (frames t) n h)
    too_short (l ∷ ls) = ap (λ b. leb (frames t) l && b) (too_short ls) ∙ and-false (leb (frames t) l)
