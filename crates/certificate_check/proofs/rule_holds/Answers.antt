-- `rule_holds` meets its contract: one lemma for each of its returns.
use Rattle.std.specs.Prelude.{count_by}
use Rattle.prelude.proofs.{◌+◌, ◌-◌, ◌≤◌, length, take, drop}
use Rattle.prelude.proofs.{ℕ, zero, suc, arith, ◌≡◌, refl, sym, ◌∙◌, Bool, true, false, List, eqb}
use Rattle.gametree.specs.declared.Side.{Side}
use Rattle.table.specs.{first_child, child_count, side_of}
use Rattle.table.proofs.Next.{children-within}
use Rattle.gametree.specs.{inside}
use Rattle.lists.specs.{count_from}
use Rattle.lists.proofs.Counting.{count-part}
use Rattle.certificate_check.specs.{member, required_of, root_member, rule_holds}
use Rattle.certificate_check.proofs.Rules.{root-member}
use Rattle.certificate_check.proofs.rule_holds.Goals as goal
use Rattle.certificate_check.proofs.rule_holds.Goals.{else-node-eq0-via-then-node-eq0+else-not-member}
use Rattle.certificate_check.proofs.rule_holds.Goals.{else-node-eq0-via-else-node-eq0}

-- a root outside
root-outside : (p : Side) (t flags : List ℕ) (i : ℕ) → i ≡ 0 → member p flags i ≡ false → false ≡ rule_holds p t flags i
unfolding rule_holds
root-outside p t flags zero e m = rw m
root-outside p t flags (suc i) e m = absurd (omega arith)

-- a node outside has no child in the tree
required-outside : (p q : Side) (n : ℕ) → required_of p q false n ≡ 0
required-outside p q zero = refl
required-outside p q (suc n) = refl

-- the members among the children, counted in the part of the flags that is theirs
members-counted : (p : Side) (flags : List ℕ) (f n m : ℕ) → f + n ≤ length flags
    → m ≡ count_by (inside p) (take (f + n - f) (drop f flags)) → m ≡ count_from (member p flags) f n
members-counted p flags f n m h e =
    let size : f + n - f ≡ n = omega arith in
    e ∙ rw (count-part (inside p) flags n f h, size) refl

module _ (p : Side) (t flags : List ℕ) (i : ℕ) (r : root_member p flags i ≡ true) where
  -- a leaf
  leaf-holds : (n : ℕ) → n ≡ child_count t i → n ≡ 0 → true ≡ rule_holds p t flags i
  unfolding rule_holds count_from
  leaf-holds n e z = rw (r, ← e, z)

  -- an inner node
  inner-holds : (m k f n : ℕ) (q : Side) (b : Bool) → f ≡ first_child t i → n ≡ child_count t i → q ≡ side_of t i
      → b ≡ member p flags i → m ≡ count_from (member p flags) f n → k ≡ required_of p q b n
      → eqb m k ≡ rule_holds p t flags i
  unfolding rule_holds
  inner-holds m k f n q b ef en eq eb em ek = rw (r, ← ef, ← en, ← eq, ← eb, em, ek)

pub returns-then-not-member : goal.returns-then-not-member
returns-then-not-member c = root-outside c.args.side c.args.table.now c.args.flags.now c.args.node c.if-node-eq0.true
    (sym c.is_member-member.ensures ∙ c.if-not-member.true)

pub returns-then-count-eq0 : goal.returns-then-count-eq0
returns-then-count-eq0 c =
    -- past the first test, the root is in the tree
    let root_in : root_member c.args.side c.args.flags.now c.args.node ≡ true =
    root-member c.args.side c.args.flags.now c.args.node (λ z.
    elim c.else-node-eq0.branch [
      | else-node-eq0-via-then-node-eq0+else-not-member w ↦ sym c.is_member-member.ensures ∙ w.if-not-member.false
      | else-node-eq0-via-else-node-eq0 w ↦ absurd (w.if-node-eq0.false z)
    ]) in
    leaf-holds c.args.side c.args.table.now c.args.flags.now c.args.node root_in _ c.child_count-count.ensures.0
    c.if-count-eq0.true

pub slice_bounds-count_members-end : goal.slice_bounds-count_members-end
slice_bounds-count_members-end c = omega (
  arith,
  children-within c.args.table.now c.requires.well_formed c.args.node c.requires.node_bound.0 (omega arith),
  c.requires.node_bound.1,
)

pub returns-then-not-member-2 : goal.returns-then-not-member-2
returns-then-not-member-2 c =
    -- past the first test, the root is in the tree
    let root_in : root_member c.args.side c.args.flags.now c.args.node ≡ true =
    root-member c.args.side c.args.flags.now c.args.node (λ z.
    elim c.else-node-eq0.branch [
      | else-node-eq0-via-then-node-eq0+else-not-member w ↦ sym c.is_member-member.ensures ∙ w.if-not-member.false
      | else-node-eq0-via-else-node-eq0 w ↦ absurd (w.if-node-eq0.false z)
    ]) in
    inner-holds c.args.side c.args.table.now c.args.flags.now c.args.node root_in _ _ _ _ _ _
    c.first_child-first.ensures.0 c.child_count-count.ensures.0 c.requires.mover_value
    (sym (c.if-not-member-2.true) ∙ c.is_member-member.ensures)
    (members-counted c.args.side c.args.flags.now _ _ _ (omega (
      arith,
      children-within c.args.table.now c.requires.well_formed c.args.node c.requires.node_bound.0 (omega arith),
      c.requires.node_bound.1,
    )) c.count_members-members.ensures)
    (sym (required-outside c.args.side c.args.mover c.child_count-count.result))

pub returns : goal.returns
returns c =
    -- past the first test, the root is in the tree
    let root_in : root_member c.args.side c.args.flags.now c.args.node ≡ true =
    root-member c.args.side c.args.flags.now c.args.node (λ z.
    elim c.else-node-eq0.branch [
      | else-node-eq0-via-then-node-eq0+else-not-member w ↦ sym c.is_member-member.ensures ∙ w.if-not-member.false
      | else-node-eq0-via-else-node-eq0 w ↦ absurd (w.if-node-eq0.false z)
    ]) in
    inner-holds c.args.side c.args.table.now c.args.flags.now c.args.node root_in _ _ _ _ _ _
    c.first_child-first.ensures.0 c.child_count-count.ensures.0 c.requires.mover_value
    (sym (c.if-not-member-2.false) ∙ c.is_member-member.ensures)
    (members-counted c.args.side c.args.flags.now _ _ _ (omega (
      arith,
      children-within c.args.table.now c.requires.well_formed c.args.node c.requires.node_bound.0 (omega arith),
      c.requires.node_bound.1,
    )) c.count_members-members.ensures) c.required.ensures
