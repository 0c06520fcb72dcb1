-- `leaf_in` meets its contract: only a leaf that is in the tree has its score.
use Rattle.prelude.proofs.{ℕ, ◌≡◌, refl, sym, ap, ◌∙◌, Bool, true, false, cond, ◌&&◌, List, eqb}
use Rattle.gametree.specs.declared.Side.{Side}
use Rattle.gametree.specs.{worst}
use Rattle.table.specs.{child_count, stored_score, leaf_score, valuation}
use Rattle.certificate_check.specs.{member, leaf_in}
use Rattle.certificate_check.proofs.Values.{leaf-in, inner-in}
use Rattle.certificate_check.proofs.leaf_in.Goals as goal

neither : (b : Bool) (x y : ℕ) → cond (b && false) x y ≡ y
neither true x y = refl
neither false x y = refl

-- a node outside the tree
outside : (p : Side) (t flags : List ℕ) (i : ℕ) → member p flags i ≡ false → leaf_in p t flags i ≡ worst p
outside p t flags i e = rw e (neither (eqb (child_count t i) 0) (valuation t i) (worst p))

pub returns-then-not-is_member : goal.returns-then-not-is_member
returns-then-not-is_member c = c.worst.ensures
    ∙ sym (outside c.args.side c.args.table.now c.args.flags.now c.args.node
    (sym c.is_member.ensures ∙ c.if-not-is_member.true))

pub returns-then-child_count-eq0 : goal.returns-then-child_count-eq0
unfolding valuation
returns-then-child_count-eq0 c = c.leaf_score.ensures.0
    ∙ ap (λ d. leaf_score d (stored_score c.args.table.now c.args.node)) c.requires.depth_value.0
    ∙ sym (leaf-in c.args.side c.args.table.now c.args.flags.now c.args.node
    (sym c.child_count.ensures.0 ∙ c.if-child_count-eq0.true)
    ∙ rw (sym c.is_member.ensures ∙ c.if-not-is_member.false))

pub returns-else-child_count-eq0 : goal.returns-else-child_count-eq0
returns-else-child_count-eq0 c = c.worst-else-child_count-eq0.ensures
    ∙ sym (inner-in c.args.side c.args.table.now c.args.flags.now c.args.node (λ e.
    c.if-child_count-eq0.false (c.child_count.ensures.0 ∙ e)))
