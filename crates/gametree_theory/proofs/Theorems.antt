-- The theorems for use, on proper trees: distinct node numbers and real scores. Each says in one sentence what it
-- gives. Sections: bounds, alpha-beta, MTD, SSS*, certificates, the searches together, locality.
use Rattle.prelude.proofs.{ℕ, suc, ◌+◌, ◌*◌, ◌≤◌, ◌<◌, lt_of_le_of_lt, arith, ◌≡◌, refl, sym, ◌∙◌, ap, ap₂, subst, ◌↔◌}
use Rattle.prelude.proofs.{◌⊎◌, inl, inr, Bool, true, false, cond, List, [], ◌∷◌, ◌++◌, map, length}
use Rattle.lists.specs.{All, among, Once, Subsequence, different}
use Rattle.gametree.specs.declared.Side.{Side}
use Rattle.gametree.specs.declared.Side.TheVariants.{Max, Min}
use Rattle.gametree.specs.{Tree, leaf, inner, Children, least, greatest, minimax, size, leaves, leaf_count, In}
use Rattle.gametree.specs.{EveryLeaf, Score, Scored, Distinct, Proper, known, low, high, best_of, Decided, reached}
use Rattle.gametree.specs.{full_window, mtd, fresh, memo_mtd, without_memo, State, Step, empty, stop, quiet, evaluating}
use Rattle.gametree.specs.{replace, step, run_from, start, sss, ListAfter, after_quiet, after_evaluating, resumed}
use Rattle.gametree.specs.{in_full}
use Rattle.gametree.specs.{Strategy, decide_by, Rule, SolutionTree, solution_value, Certifies, pair_leaves, chosen}
use Rattle.gametree.specs.{Smallest, root_move_of, bound_move, unrivalled, Reason}
use Rattle.gametree_theory.proofs.Certificates.Flags.{FlagsCertify}
use Rattle.gametree_theory.proofs.Certificates.Counting.{members, required}
use Rattle.gametree_theory.proofs.Searches.{sss_evaluated, Searched, by_alpha_beta, by_mtd, by_sss, by_tests}
use Rattle.gametree_theory.proofs.Searches.{Deciding, SameResults}
use Rattle.lists.proofs.Lists.{all_map, all_among, all-at, once-length, sub-all, sub_once}
use Rattle.gametree_theory.proofs.Minimax.Nodes.{leaves-once}
use Rattle.gametree_theory.proofs.Minimax.Bounds.{minimax-score, minimax_children-best}
use Rattle.gametree_theory.proofs.Minimax.Bounds.{known-local}
use Rattle.gametree_theory.proofs.Alphabeta.Window.{alpha_beta-value, alpha_beta-evaluated, reached-ordered}
use Rattle.gametree_theory.proofs.Alphabeta.Window.{alpha_beta-local}
use Rattle.gametree_theory.proofs.Alphabeta.Window.{covered-decided}
use Rattle.gametree_theory.proofs.Mtd.Value.{mtd-right}
use Rattle.gametree_theory.proofs.Mtd.Marks.{mtd-marks}
use Rattle.gametree_theory.proofs.Mtd.Passes.{passes-few}
use Rattle.gametree_theory.proofs.Mtd.Local.{run-local, fresh-agree}
use Rattle.gametree_theory.proofs.Mtd.Memory.{memo-run}
use Rattle.gametree_theory.proofs.Sss.Steps.{between, taken_merit}
use Rattle.gametree_theory.proofs.Sss.Work.{full_size}
use Rattle.gametree_theory.proofs.Sss.Run.{sss-is-mtd}
use Rattle.gametree_theory.proofs.Results.Merits.{list-unique, run-falls, first-merit}
use Rattle.gametree_theory.proofs.Sss.Lists.{list-reached, resume}
use Rattle.gametree_theory.proofs.Sss.OwnNodes.{own-answers}
use Rattle.gametree_theory.proofs.Sss.Fronts.{Front}
use Rattle.gametree_theory.proofs.Allowance.Ending.{never-empty}
use Rattle.gametree_theory.proofs.Allowance.Local.{run_from-local}
use Rattle.gametree_theory.proofs.Sss.FrontSteps.{front_length, front-in, front-reached, front-taken}
use Rattle.gametree_theory.proofs.Sss.LastMove.{MaxRoot, last-move}
use Rattle.gametree_theory.proofs.Certificates.Solution.{solution-bound, certified, rule-counted, counted-rule}
use Rattle.gametree_theory.proofs.Certificates.Flags.{decided-certify}
use Rattle.gametree_theory.proofs.Minimax.Counts.{once-count}
use Rattle.gametree_theory.proofs.Certificates.SmallestPair.{smallest≤, smallest-found}
use Rattle.gametree_theory.proofs.Minimax.Moves.{covered-move, bound_move-local}
use Rattle.gametree_theory.proofs.Mtd.Moves.{mtd-decided, mtd-move}
use Rattle.gametree_theory.proofs.Tests.Local.{decide-local}
use Rattle.gametree_theory.proofs.Tests.FirstMove.{decide-right}
use Rattle.gametree_theory.proofs.Results.Domination.{mtd-reaches}
use Rattle.gametree_theory.proofs.Results.ClosedForm.{mtd-unrivalled}
use Rattle.gametree_theory.proofs.Results.Reason.{decided-reason}

-- BOUNDS

-- an evaluated leaf has its score for both bounds
pub bounds-evaluated : (ν : ℕ → ℕ) (E : ℕ → Bool) (n : ℕ) → E n ≡ true
    → (low ν E (leaf n) ≡ ν n) × (high ν E (leaf n) ≡ ν n)
bounds-evaluated ν E n e = (rw e refl, rw e refl)

-- another leaf has `least` and `greatest`
pub bounds-other : (ν : ℕ → ℕ) (E : ℕ → Bool) (n : ℕ) → E n ≡ false
    → (low ν E (leaf n) ≡ least) × (high ν E (leaf n) ≡ greatest)
bounds-other ν E n e = (rw e refl, rw e refl)

-- a Max node takes the greatest low and the greatest high of its children, a Min node the least of each
pub bounds-inner : (ν : ℕ → ℕ) (E : ℕ → Bool) (n : ℕ) (s : Side) (ks : Children)
    → (low ν E (inner n s ks) ≡ best_of s (low ν E) ks) × (high ν E (inner n s ks) ≡ best_of s (high ν E) ks)
bounds-inner ν E n s ks = (
  minimax_children-best (known ν E least) s ks,
  minimax_children-best (known ν E greatest) s ks,
)

-- the minimax value is a real score
pub value-score : (ν : ℕ → ℕ) (t : Tree) → Scored ν t → Score (minimax ν t)
value-score ν t h = minimax-score ν t h

-- ALPHA-BETA

-- with the full window it evaluates just the leaves whose alpha is less than their beta
pub alpha_beta-leaves : (ν : ℕ → ℕ) (t : Tree) → (full_window ν t).evaluated ≡ reached ν least greatest t
alpha_beta-leaves ν t = alpha_beta-evaluated ν least greatest (omega arith) t

-- its list is in left-to-right order
pub alpha_beta-ordered : (ν : ℕ → ℕ) (t : Tree) → Subsequence (full_window ν t).evaluated (leaves t)
alpha_beta-ordered ν t = rw (alpha_beta-leaves ν t) (reached-ordered ν least greatest t)

-- MTD

-- MTD makes at most one pass more than there are different scores among the leaves that it evaluates
pub mtd-passes : (ν : ℕ → ℕ) (t : Tree) → Proper ν t → (mtd ν t).passes ≤ suc (different (map ν (mtd ν t).evaluated))
mtd-passes ν t h = rw (memo-run ν t h.distinct) (passes-few ν t h)

-- SSS*

module _ (ν : ℕ → ℕ) (t : Tree) (h : Proper ν t) where
  -- SSS* gives the minimax value
  pub sss-minimax : (sss ν t).value ≡ minimax ν t
  sss-minimax = (sss-is-mtd ν t h).value-is

  -- it evaluates the leaves that MTD evaluates, in the same order
  pub sss-mtd : sss_evaluated ν t ≡ (mtd ν t).evaluated
  sss-mtd = (sss-is-mtd ν t h).leaves-are ∙ sym (ap (λ q. q.evaluated) (memo-run ν t h.distinct))

  -- it makes at most twice as many replacements as there are nodes, less 1
  pub sss-replacements : (sss ν t).replacements < 2 * size t
  sss-replacements = lt_of_le_of_lt (sss-is-mtd ν t h).replaced (full_size t)

  module _ {k : ℕ} {w : List ℕ} {L : List State} (r : ListAfter ν t k w L) where
    -- a list that it reaches is a front of the tree
    pub list-front : Front t L
    list-front = front-reached ν t (own-answers t h.distinct) r

    -- so it holds a state
    pub state-held : 0 < length L
    state-held = (front_length t L list-front).0

    -- and no more of them than there are nodes

    pub list-fits : length L ≤ size t
    list-fits = (front_length t L list-front).1

    -- they are of nodes of the tree
    pub list-nodes : All (λ s. In s.node t) L
    list-nodes = front-in t L list-front

    -- and the first of greatest merit is the one that the rule takes
    pub list-first : (A : List State) (s : State) (B : List State) → L ≡ A ++ (s ∷ B)
        → All (λ x. x.merit < s.merit) A → All (λ x. x.merit ≤ s.merit) B
        → step ν t L ≡ replace ν t s (between A B) s.status
    list-first A s B e l g = rw e (front-taken ν t (own-answers t h.distinct) A s B (rw e at list-front) l g)

    -- fewer replacements than twice the number of nodes led to it
    pub list-few : k < 2 * size t
    list-few = (list-reached ν t h r).at_most

    -- from it the root is taken, SOLVED, or a state is replaced, which leads to the next list
    pub held-until : ((v : ℕ) × (step ν t L ≡ stop v))
        ⊎ ((v : List ℕ) × ((M : List State) × ListAfter ν t (suc k) v M))
    held-until = by-step (step ν t L) refl
      where
        by-step : (x : Step) → step ν t L ≡ x
            → ((v : ℕ) × (step ν t L ≡ stop v)) ⊎ ((v : List ℕ) × ((M : List State) × ListAfter ν t (suc k) v M))
        by-step empty e = absurd (never-empty ν t h r e)
        by-step (stop v) e = inl (v, e)
        by-step (quiet M) e = inr (w, (M, after_quiet r e))
        by-step (evaluating n m M) e = inr (w ++ (n ∷ []), (M, after_evaluating r e))

    -- the merit of the state taken from it is not below the minimax value
    pub merit-bound : minimax ν t ≤ taken_merit t L
    merit-bound = (list-reached ν t h r).merit

    -- and is `greatest` until a leaf is evaluated
    pub merit-start : length w ≡ 0 → taken_merit t L ≡ greatest
    merit-start e = first-merit ν t L r e state-held

    -- the leaves so far are the first of the whole run's list
    pub list-prefix : (u : List ℕ) × (w ++ u ≡ sss_evaluated ν t)
    list-prefix = let a = list-reached ν t h r in (a.to_come, a.whole ∙ sym (sss-is-mtd ν t h).leaves-are)

    -- and the run goes on from it, for what is left of the bound on states taken
    pub list-resumes : (f : ℕ) → k + f ≡ 2 * size t → in_full (sss ν t) ≡ resumed w (in_full (run_from ν t f k L))
    list-resumes f e = resume ν t r f e

-- where the root is taken SOLVED, the state that was replaced last is the root move's: of a list that SSS* reaches s is
-- the state taken, and M is the next list
pub solved-by : (ν : ℕ → ℕ) (t : Tree) → Proper ν t → MaxRoot t → {k v : ℕ} {w u : List ℕ} (A : List State) (s : State)
    (B : List State) {M : List State} → ListAfter ν t k w (A ++ (s ∷ B)) → All (λ x. x.merit < s.merit) A
    → All (λ x. x.merit ≤ s.merit) B → ListAfter ν t (suc k) u M → step ν t M ≡ stop v → s.node ≡ root_move_of ν t
solved-by = last-move

-- the list after a number of replacements is determined, and so are the leaves that they evaluated
pub list-determined : (ν : ℕ → ℕ) (t : Tree) {k : ℕ} {w v : List ℕ} {L M : List State}
    → ListAfter ν t k w L → ListAfter ν t k v M → (w ≡ v) × (L ≡ M)
list-determined ν t r q = list-unique ν t r q

-- the merit of the state taken never rises along a run
pub merit-falls : (ν : ℕ → ℕ) (t : Tree) {k j : ℕ} {w v : List ℕ} {L M : List State}
    → ListAfter ν t k w L → ListAfter ν t j v M → k ≤ j → taken_merit t M ≤ taken_merit t L
merit-falls ν t r q h = run-falls ν t r q h

-- CERTIFICATES

-- the rule of a node holds exactly if the count of its children in the set is the required one
pub rule-counting : (p q : Side) (b : Bool) (g : ℕ → Bool) (ks : Children)
    → Rule p q b g ks ↔ (members g ks ≡ required p q b ks)
rule-counting p q b g ks = (rule-counted p q b g ks, counted-rule p q b g ks)

-- a max tree's value is at least the minimax value, a min tree's at most
pub solution-bounds : (ν : ℕ → ℕ) (t : Tree) (g : ℕ → Bool)
    → (SolutionTree Max g t → minimax ν t ≤ solution_value Max ν g t)
    × (SolutionTree Min g t → solution_value Min ν g t ≤ minimax ν t)
solution-bounds ν t g = (solution-bound Max ν g t, solution-bound Min ν g t)

-- so what a certificate certifies is the minimax value
pub certificate-minimax : (ν : ℕ → ℕ) (t : Tree) (g h : ℕ → Bool) (v : ℕ) → Certifies ν t g h v → v ≡ minimax ν t
certificate-minimax ν t g h v c = certified ν t g h v c

-- a smallest certificate exists
pub smallest-exists : (ν : ℕ → ℕ) (t : Tree) → Proper ν t → (g : ℕ → Bool) × (h : ℕ → Bool) × Smallest ν t g h
smallest-exists ν t r = smallest-found ν t r

-- THE SEARCHES

module _ (ν : ℕ → ℕ) (t : Tree) (r : Proper ν t) where
  -- alpha-beta with the full window gives the minimax value
  pub alpha_beta-minimax : (full_window ν t).value ≡ minimax ν t
  alpha_beta-minimax =
      let e = alpha_beta-value ν least greatest (omega arith) t in
      let s = minimax-score ν t r.scored in
      omega arith

  -- so does MTD (and SSS*: `sss-minimax`)
  pub mtd-minimax : (mtd ν t).value ≡ minimax ν t
  mtd-minimax = ap (λ q. q.value) (memo-run ν t r.distinct) ∙ (mtd-right ν t r.scored).value

  -- what holds of the leaves of MTD with its memory at the nodes holds of those of MTD and of SSS*
  as-mtd : (P : List ℕ → Type 0) → P (memo_mtd ν t).evaluated → P (mtd ν t).evaluated
  as-mtd P x = subst P (sym (ap (λ q. q.evaluated) (memo-run ν t r.distinct))) x

  as-sss : (P : List ℕ → Type 0) → P (memo_mtd ν t).evaluated → P (sss_evaluated ν t)
  as-sss P x = subst P (sym (sss-is-mtd ν t r).leaves-are) x

  -- the bounds of the leaves that a search evaluates meet at the minimax value
  pub search-decides : {w : List ℕ} → Searched ν t w → Decided ν (among w) t
  search-decides by_alpha_beta = covered-decided ν _ t r.scored (all_among (full_window ν t).evaluated)
  search-decides by_mtd = as-mtd (λ w. Decided ν (among w) t) (mtd-decided ν t r)
  search-decides by_sss = as-sss (λ w. Decided ν (among w) t) (mtd-decided ν t r)
  search-decides (by_tests σ) = (decide-right σ ν t r.scored).decided

  -- so a leaf that it does not evaluate is passed over for a reason, by those bounds
  pub search-reason : {w : List ℕ} → Searched ν t w → (k : ℕ) → among (leaves t) k ≡ true → among w k ≡ false
      → Reason ν (among w) t k
  search-reason s = decided-reason ν _ t r (search-decides s)

  -- the flags read off them are a certificate of that value, made of evaluated leaves only
  pub search-certifies : {w : List ℕ} → Searched ν t w → FlagsCertify ν (among w) t
  search-certifies s = decided-certify ν _ t r (search-decides s)

  -- the move: the first child of the root that they prove to have the root's value is the first that has it
  pub search-move : {w : List ℕ} → Searched ν t w → bound_move ν (among w) t ≡ root_move_of ν t
  search-move by_alpha_beta = covered-move ν _ t r.scored (all_among (full_window ν t).evaluated)
  search-move by_mtd = as-mtd (λ w. bound_move ν (among w) t ≡ root_move_of ν t) (mtd-move ν t r)
  search-move by_sss = as-sss (λ w. bound_move ν (among w) t ≡ root_move_of ν t) (mtd-move ν t r)
  search-move (by_tests σ) = (decide-right σ ν t r.scored).shown

  -- no leaf is evaluated twice
  pub search-once : {w : List ℕ} → Searched ν t w → Once w
  search-once by_alpha_beta = sub_once (alpha_beta-ordered ν t) (leaves-once t r.distinct)
  search-once by_mtd = as-mtd Once (mtd-marks ν t r.distinct).once
  search-once by_sss = as-sss Once (mtd-marks ν t r.distinct).once
  search-once (by_tests σ) = (decide-right σ ν t r.scored).once

  -- domination: every leaf that a search evaluates is one that alpha-beta evaluates
  pub domination : {w : List ℕ} → Searched ν t w → All (λ k. among (full_window ν t).evaluated k ≡ true) w
  domination by_alpha_beta = all_among (full_window ν t).evaluated
  domination by_mtd =
      as-mtd (λ w. All (λ k. among (full_window ν t).evaluated k ≡ true) w)
      (rw (alpha_beta-leaves ν t) (mtd-reaches ν t r.scored))
  domination by_sss =
      as-sss (λ w. All (λ k. among (full_window ν t).evaluated k ≡ true) w)
      (rw (alpha_beta-leaves ν t) (mtd-reaches ν t r.scored))
  domination (by_tests σ) = rw (alpha_beta-leaves ν t) (decide-right σ ν t r.scored).reaches

  -- so no search evaluates more leaves than alpha-beta
  pub domination-count : {w : List ℕ} → Searched ν t w → length w ≤ length (full_window ν t).evaluated
  domination-count {w} s = once-length w (full_window ν t).evaluated (search-once s) (domination s)

  -- alpha-beta's leaves are leaves of the tree
  alpha_beta-own : All (λ k. among (leaves t) k ≡ true) (full_window ν t).evaluated
  alpha_beta-own = sub-all _ (alpha_beta-ordered ν t) (all_among (leaves t))

  -- so a search lists leaves of the tree, none twice, and they decide its value and its move
  pub search-deciding : {w : List ℕ} → Searched ν t w → Deciding ν t w
  search-deciding {w} s =
      record {
        own = all_map _ _ (all-at _ (full_window ν t).evaluated alpha_beta-own) w (domination s);
        once = search-once s;
        decided = search-decides s;
        move = search-move s;
      }

  -- all leaves together decide them too, as alpha-beta's are among them
  pub all-deciding : Deciding ν t (leaves t)
  all-deciding =
      record {
        own = all_among (leaves t);
        once = leaves-once t r.distinct;
        decided = covered-decided ν _ t r.scored alpha_beta-own;
        move = covered-move ν _ t r.scored alpha_beta-own;
      }

  -- the length of such a list is the number of leaves that are marked as evaluated
  pub deciding-count : {w : List ℕ} → Deciding ν t w → leaf_count (among w) t ≡ length w
  deciding-count {w} d = once-count w t r.distinct d.once d.own

  -- no search evaluates fewer leaves than a smallest certificate has
  pub search-smallest : (g h : ℕ → Bool) → Smallest ν t g h → {w : List ℕ} → Searched ν t w
      → pair_leaves g h t ≤ length w
  search-smallest g h m {w} s = smallest≤ ν t g h w r m (search-certifies s)

  -- the closed form: MTD evaluates a leaf exactly if its alpha is less than its beta and no rival exceeds
  -- its beta
  pub closed-form-mtd : EveryLeaf (λ n. among (mtd ν t).evaluated n ≡ among (unrivalled ν least greatest least t) n) t
  closed-form-mtd =
      as-mtd (λ w. EveryLeaf (λ n. among w n ≡ among (unrivalled ν least greatest least t) n) t) (mtd-unrivalled ν t r)

  -- so does SSS*
  pub closed-form-sss : EveryLeaf (λ n. among (sss_evaluated ν t) n ≡ among (unrivalled ν least greatest least t) n) t
  closed-form-sss =
      as-sss (λ w. EveryLeaf (λ n. among w n ≡ among (unrivalled ν least greatest least t) n) t) (mtd-unrivalled ν t r)

-- LOCALITY

-- alpha-beta gives the same value and list under a valuation that agrees on the leaves that it evaluates
pub local-alpha_beta : (ν μ : ℕ → ℕ) (t : Tree) → All (λ k. ν k ≡ μ k) (full_window ν t).evaluated
    → full_window ν t ≡ full_window μ t
local-alpha_beta ν μ t a = sym (alpha_beta-local ν μ least greatest t a)

-- MTD gives the same value, list and passes
local-memo : (ν μ : ℕ → ℕ) (t : Tree) → All (λ k. ν k ≡ μ k) (memo_mtd ν t).evaluated → memo_mtd ν t ≡ memo_mtd μ t
unfolding memo_mtd
local-memo ν μ t a = run-local ν μ (suc greatest) greatest t (fresh t) (fresh-agree ν μ t) a

pub local-mtd : (ν μ : ℕ → ℕ) (t : Tree) → Distinct t → All (λ k. ν k ≡ μ k) (mtd ν t).evaluated → mtd ν t ≡ mtd μ t
local-mtd ν μ t d a =
    memo-run ν t d ∙ ap (without_memo t) (local-memo ν μ t (rw (memo-run ν t d) at a)) ∙ sym (memo-run μ t d)

-- SSS* gives the same value, list and replacements
pub local-sss : (ν μ : ℕ → ℕ) (t : Tree) → All (λ k. ν k ≡ μ k) (sss_evaluated ν t)
    → in_full (sss ν t) ≡ in_full (sss μ t)
local-sss ν μ t a = run_from-local ν μ t (2 * size t) 0 (start t) a

-- a search made of tests gives the same list and number of tests
pub local-decide : (σ : Strategy) (ν μ : ℕ → ℕ) (t : Tree) → All (λ k. ν k ≡ μ k) (decide_by σ ν t).evaluated
    → decide_by σ ν t ≡ decide_by σ μ t
local-decide σ ν μ t a = decide-local ν μ σ t a

-- each search evaluates the same leaves
pub local-search : (ν μ : ℕ → ℕ) (t : Tree) → Distinct t → {w : List ℕ} → Searched ν t w → All (λ k. ν k ≡ μ k) w
    → Searched μ t w
local-search ν μ t d by_alpha_beta a =
    subst (λ x. Searched μ t x.evaluated) (sym (local-alpha_beta ν μ t a)) by_alpha_beta
local-search ν μ t d by_mtd a = subst (λ x. Searched μ t x.evaluated) (sym (local-mtd ν μ t d a)) by_mtd
local-search ν μ t d by_sss a = subst (λ x. Searched μ t x.evaluated) (sym (local-sss ν μ t a)) by_sss
local-search ν μ t d (by_tests σ) a =
    subst (λ x. Searched μ t x.evaluated) (sym (local-decide σ ν μ t a)) (by_tests σ)

-- and hands over the same value, move and flags
pub local-results : (ν μ : ℕ → ℕ) (t : Tree) → Proper ν t → Proper μ t → {w : List ℕ} → Searched ν t w
    → All (λ k. ν k ≡ μ k) w
    → SameResults ν μ t w
local-results ν μ t r q {w} s a =
    let z = local-search ν μ t r.distinct s a in
    record {
      same_value =
          sym (search-decides ν t r s).low_is ∙ ap (λ κ. minimax κ t) (known-local ν μ w a least)
          ∙ (search-decides μ t q z).low_is;
      same_move = sym (search-move ν t r s) ∙ bound_move-local ν μ w a t ∙ search-move μ t q z;
      same_flags = λ k.
          ap₂ (λ κ χ. cond (among (chosen Max κ t) k) 1 0 + cond (among (chosen Min χ t) k) 2 0)
          (known-local ν μ w a greatest)
          (known-local ν μ w a least);
    }
