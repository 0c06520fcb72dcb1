-- What a turn needs and hands back: at a leaf, at the head of the loop over an inner node's children, and at the turn
-- of the side that moves at a child.
use Rattle.prelude.proofs.{ℕ, suc, ◌+◌, ◌-◌, ◌≤◌, ◌<◌, arith, ◌≡◌, refl, ap, ap₂, ◌∙◌, List, length, set}
use Rattle.gametree.specs.declared.Side.{Side}
use Rattle.gametree.specs.{better, minimax, leaves, Score, worst}
use Rattle.gametree_theory.proofs.Minimax.Nodes.{leaves_in}
use Rattle.gametree_theory.proofs.Theorems.{value-score}
use Rattle.table.specs.{max_depth, first_child, child_count, child_side, tree_at, valuation, ChildOf}
use Rattle.table.proofs.Nodes.{in-own}
use Rattle.table.proofs.Next.{child-within}
use Rattle.table.proofs.Positions.{depth-child}
use Rattle.table.proofs.Proper.{every-leaf, leaf-scored}
use Rattle.table.proofs.Trees.{tree-leaf, tree-inner}
use Rattle.certificate_bounds.specs.{mark_all, Evaluable}
use Rattle.certificate_write.specs.{Unmarked}
use Rattle.certificate_bounds.proofs.Marking.{mark_all-length}
use Rattle.certificate_write.proofs.Unmarked.{Unvisited, all-wait, younger-wait}
use Rattle.certificate_write.proofs.Searchable.{searchable-depth, searchable-child}
use Rattle.plain.specs.{turn_position, Ready}
use Rattle.plain.proofs.Pass.{better-worst, score_after, marks_after, scores-all, marks-all}

-- a turn at node i gives the score r, and makes e' of the marks e
abbrev pub Gives : (t : List ℕ) (i : ℕ) (e e' : List ℕ) (r : ℕ) → Type 0
Gives t i e e' r = (r ≡ minimax (valuation t) (tree_at t i)) × (e' ≡ mark_all e (leaves (tree_at t i)))

-- behind the last child of node i
abbrev children_end : (t : List ℕ) (i : ℕ) → ℕ
children_end t i = first_child t i + child_count t i

-- at the head of the loop over the children of node i: child k is next, e₀ were the marks and e are, v is the score;
-- what the children that are left make of them is what the turn is to give
pub record TurnLoop (t : List ℕ) (s : Side) (i : ℕ) (e₀ e : List ℕ) (v k : ℕ) : Type 0 where
  pub from : first_child t i ≤ k
  pub to : k ≤ children_end t i
  pub kept : length e ≡ length e₀
  pub unvisited : Unvisited t e i k
  pub gives :
      Gives t i e₀ (marks_after (tree_at t) e k (children_end t i - k))
      (score_after (tree_at t) (valuation t) s v k (children_end t i - k))

-- the child that is next
pub turn-child : {t : List ℕ} {s : Side} {i : ℕ} {e₀ e : List ℕ} {v k : ℕ} → TurnLoop t s i e₀ e v k
    → k < first_child t i + child_count t i → ChildOf t i k
turn-child h l = record { from = h.from; to = l }

module _ (t e : List ℕ) (s : Side) (i left : ℕ) (r : Ready t e s i left) where
  -- a leaf may be evaluated
  pub leaf-evaluable : (d : ℕ) → d ≡ max_depth - left → child_count t i ≡ 0 → Evaluable t e i d
  leaf-evaluable d q z =
      let x = r.searchable in
      let p = searchable-depth t e i (turn_position s left) x in
      record {
        inside = x.inside;
        leaf = z;
        room = omega (arith, x.inside, x.marks);
        unmarked = x.unmarked i (in-own t x.formed i);
        depth = q ∙ p.0;
        shallow = omega (arith, p.1);
      }

  -- and that is its turn
  pub leaf-gives : (e' : List ℕ) (v : ℕ) → child_count t i ≡ 0 → v ≡ valuation t i → e' ≡ set e i 1 → Gives t i e e' v
  unfolding mark_all
  leaf-gives e' v z p q = rw (tree-leaf t r.searchable.formed i r.searchable.inside z) (p, q)

  -- before the first child all is to come
  pub turn-starts : (first v : ℕ) → 0 < child_count t i → first ≡ first_child t i → v ≡ worst s
      → TurnLoop t s i e e v first
  turn-starts first v c f w =
      let x = r.searchable in
      let n = child_count t i - 1 in
      let m : child_count t i ≡ suc n = omega arith in
      let b : children_end t i - first ≡ suc n = omega arith in
      let own = tree-inner t x.formed i n x.inside m in
      let side = ap (λ p. p.side) x.positioned in
      let score = value-score (valuation t) (tree_at t i)
      (every-leaf t x.formed (λ k. Score (valuation t k)) (leaf-scored t x.formed) i x.inside) in
      record {
        from = omega arith;
        to = omega arith;
        kept = refl;
        unvisited = all-wait t x.formed i x.inside e first x.unmarked;
        gives = (
          rw (b, w, f, scores-all (tree_at t) (valuation t) s (worst s) (first_child t i) n, own, ← side)
              (better-worst s _ (omega (arith, rw (own, ← side) at score))),
          rw (b, f, own) (marks-all (tree_at t) e (first_child t i) n),
        );
      }

  -- a node that has a child is not of the greatest depth
  pub inner-left : 0 < child_count t i → 0 < left
  inner-left n =
      let x = r.searchable in
      let c : ChildOf t i (first_child t i) = record { from = omega arith; to = omega arith } in
      omega (
        arith,
        r.shallow (first_child t i) (child-within t x.formed x.inside c),
        depth-child t x.formed x.inside c,
        searchable-depth t e i (turn_position s left) x,
        r.remaining,
      )

  -- the child may be searched by the side q that moves there, with one level less
  pub ready-child : (k : ℕ) (q : Side) (e' : List ℕ) → ChildOf t i k → q ≡ child_side t k s → length e' ≡ length e
      → Unmarked e' (tree_at t k) → Ready t e' q k (left - 1)
  ready-child k q e' c m l u =
      let d : max_depth - (left - 1) ≡ (max_depth - left) + 1 =
      omega (arith, inner-left (omega (arith, c.from, c.to)), r.remaining) in
      record {
        searchable =
            searchable-child t e i (turn_position s left) r.searchable k e' (turn_position q (left - 1)) c l u
            (ap₂ (λ d q. record { depth = d; side = q }) d m);
        remaining = omega (arith, r.remaining);
        shallow = r.shallow;
      }

module _ (t e : List ℕ) (s : Side) (i left : ℕ) (r : Ready t e s i left) (e₁ : List ℕ) (v k : ℕ)
    (h : TurnLoop t s i e e₁ v k) where
  -- after the turn of a child the children behind it are to come
  pub turn-goes-on : ChildOf t i k → (e₂ : List ℕ) (x w : ℕ) → Gives t k e₁ e₂ x → w ≡ better s v x
      → TurnLoop t s i e e₂ w (k + 1)
  unfolding score_after marks_after
  turn-goes-on c e₂ x w d b =
      let m : children_end t i - k ≡ suc (children_end t i - (k + 1)) = omega (arith, c.to) in
      let z = r.searchable in
      record {
        from = omega (arith, h.from);
        to = omega (arith, c.to);
        kept = ap length d.1 ∙ mark_all-length e₁ _ ∙ h.kept;
        unvisited =
            younger-wait t z.formed i z.inside k e₁ e₂ _ c (leaves_in (tree_at t k)) h.unvisited d.1;
        gives = rw (b, d.0, d.1) (rw m at h.gives);
      }

  -- after the last child the turn is given
  pub turn-ends : first_child t i + child_count t i ≤ k → Gives t i e e₁ v
  unfolding score_after marks_after
  turn-ends l = let z : children_end t i - k ≡ 0 = omega (arith, h.to) in rw z at h.gives
