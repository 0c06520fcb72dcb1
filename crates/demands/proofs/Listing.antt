-- What is proved of the lists of leaves that calls leave, for Order.antt and Sentences.antt.
use Rattle.prelude.proofs.{ℕ, ◌≡◌, sym, ap, ap₂, ◌∙◌, subst, ◌↔◌, true, List, ◌++◌, map, append_assoc, length, take}
use Rattle.prelude.proofs.{drop, take-append-drop, take-append_seam}
use Rattle.lists.specs.{among, Once, Subsequence}
use Rattle.gametree.specs.{leaves, minimax, flag, root_move_of}
use Rattle.gametree_theory.proofs.Theorems.{alpha_beta-leaves, alpha_beta-ordered, sss-mtd}
use Rattle.table.specs.{frames, up_from, tree, valuation, value_of}
use Rattle.table.proofs.Proper.{tree-proper}
use Rattle.table_positions.specs.{written}
use Rattle.certificate_bounds.specs.{mark}
use Rattle.methods.specs.declared.Method.TheVariants.{AlphaBeta, Mtd, Sss}
use Rattle.methods.specs.declared.Findings.{Findings}
use Rattle.methods.specs.declared.Answer.TheVariants.{Found}
use Rattle.methods.specs.{evaluated_by}
use Rattle.methods.proofs.Rules as rules
use Rattle.demands.specs.{Call, Given, count_of, Marked, Alike}
use Rattle.demands.proofs.Running.{Says}
use Rattle.demands.proofs.Views as views
use Rattle.demands.proofs.Handed.{leaves_by, marking, marked-leaf, leaf-marked, first-leaves}
use Rattle.demands.proofs.Local.{take-written}
use Rattle.demands.proofs.Allowed.{all-leaves}

-- the list that a call gives: the first entries of the one that it leaves, as many as the count says
abbrev list_of : Call → List ℕ
list_of c = take (count_of c.answer) c.left.order

module _ (c : Call) (s : Says c) (given : Given c) where
  pub as_many : length (list_of c) ≡ count_of c.answer
  as_many = ap length (first-leaves c s given) ∙ sym (views.counted c s given)

  pub none-twice : Once (list_of c)
  none-twice =
      subst Once (sym (first-leaves c s given)) (rules.once c.table (views.formed c s given) c.method)

  -- the nodes in it are those marked 1
  pub listed-marked : (k : ℕ) → (among (list_of c) k ≡ true) ↔ Marked c.table c.left k
  listed-marked k = (
    λ e. leaf-marked (marking c s given) k (ap (λ w. among w k) (sym (first-leaves c s given)) ∙ e),
    λ m. ap (λ w. among w k) (first-leaves c s given) ∙ marked-leaf (marking c s given) k m,
  )

-- alpha-beta's comes from the tree's leaves, from left to right, by leaving some out
pub left-to-right : (c : Call) → Says c → c.method ≡ AlphaBeta → Given c
    → Subsequence (list_of c) (leaves (tree c.table))
left-to-right c s m x =
    subst (λ w. Subsequence w (leaves (tree c.table)))
    (alpha_beta-leaves (valuation c.table) (tree c.table)
    ∙ sym (first-leaves c s x ∙ ap (λ n. evaluated_by n c.table) m))
    (alpha_beta-ordered (valuation c.table) (tree c.table))

-- a call that evaluates the first leaves of another gives the first of its list
pub first-of : (c d : Call) → Says c → Says d → Given c → Given d → (n : ℕ) → leaves_by c ≡ take n (leaves_by d)
    → list_of c ≡ take (count_of c.answer) d.left.order
first-of c d s q x y n e =
    let w = leaves_by d in
    let rest = drop (length w) d.lent.order in
    let split : w ++ rest ≡ take n w ++ (drop n w ++ rest) =
    ap (λ v. v ++ rest) (sym (take-append-drop n w)) ∙ append_assoc (take n w) (drop n w) rest in
    first-leaves c s x ∙ e
    ∙ sym (ap₂ take (views.counted c s x ∙ ap length e) (views.order d q y ∙ split) ∙ take-append_seam (take n w) _)

-- what was written for the same leaves of the same table
same-written : (F : (w t : List ℕ) → ℕ → ℕ) (w v t u a b x y : List ℕ) → w ≡ v → u ≡ t
    → x ≡ written (F w t) (frames t) a → y ≡ written (F v u) (frames u) b → take (frames t) x ≡ take (frames t) y
same-written F w v t u a b x y e i j k =
    ap (take (frames t)) j ∙ take-written (F w t) (frames t) a
    ∙ ap₂ (λ w t. map (F w t) (up_from 0 (frames t))) e (sym i)
    ∙ sym (ap₂ take (ap frames (sym i)) k ∙ take-written (F v u) (frames u) b)

-- two calls with results on one table
module _ (c d : Call) (s : Says c) (q : Says d) (t : d.table ≡ c.table) (g h : Findings) (e : c.answer ≡ Found g)
    (f : d.answer ≡ Found h) where
  pub agree : (g.value ≡ h.value) × (g.root_move ≡ h.root_move)
  agree = (
    ap (λ x. x.value) (views.findings c s g e)
        ∙ sym (ap (λ x. x.value) (views.findings d q h f) ∙ ap (λ t. value_of (minimax (valuation t) (tree t))) t),
    ap (λ x. x.root_move) (views.findings c s g e)
        ∙ sym (ap (λ x. x.root_move) (views.findings d q h f) ∙ ap (λ t. root_move_of (valuation t) (tree t)) t),
  )

  -- that evaluate the same leaves
  module _ (w : leaves_by c ≡ leaves_by d) where
    pub same_count : g.leaves ≡ h.leaves
    same_count =
        ap (λ x. x.leaves) (views.findings c s g e) ∙ ap length w
        ∙ sym (ap (λ x. x.leaves) (views.findings d q h f))

    pub same-buffers : Alike (frames c.table) c.left d.left
    same-buffers =
        record {
          marks =
              same-written (λ w _. mark (among w)) (leaves_by c) (leaves_by d) c.table d.table _ _ _ _ w t
              (views.marks c s (views.found-given c s g e)) (views.marks d q (views.found-given d q h f));
          flags =
              same-written (λ w t. flag (valuation t) (among w) (tree t)) (leaves_by c) (leaves_by d) c.table
              d.table _ _ _ _ w t (views.flags c s g e) (views.flags d q h f);
        }

-- MTD evaluates the leaves of the full run of SSS*, and SSS* the first of them
module _ (c d : Call) (s : Says c) (x : Given c) (n : ℕ) (i : c.method ≡ Mtd) (j : d.method ≡ Sss n)
    (t : d.table ≡ c.table) where
  pub first-of-mtd : leaves_by d ≡ take n (leaves_by c)
  first-of-mtd =
      ap₂ evaluated_by j t
      ∙ ap (take n) (sss-mtd (valuation c.table) (tree c.table) (tree-proper c.table (views.formed c s x)))
      ∙ sym (ap (λ m. take n (evaluated_by m c.table)) i)

  pub all-of-mtd : (q : Says d) (h : Findings) → d.answer ≡ Found h → leaves_by c ≡ leaves_by d
  all-of-mtd q h f =
      ap (λ m. evaluated_by m c.table) i
      ∙ sym (ap₂ evaluated_by j t ∙ all-leaves c.table n (rw (j, t) at (views.nothing-beyond d q h f))
      ∙ sss-mtd (valuation c.table) (tree c.table) (tree-proper c.table (views.formed c s x)))
