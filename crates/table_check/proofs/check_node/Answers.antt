-- `check_node` meets its contract: one lemma for each of its five returns.
use Rattle.prelude.proofs.{Err}
use Rattle.prelude.proofs.{ℕ, ◌+◌, ◌<◌, ◌≤◌, arith, ◌≡◌, sym, ap, ◌∙◌, true, false, List, le-leb, lt-leb, Ok}
use Rattle.table.specs.{max_children, child_count, next, answer, byte3_right, first_child_right, value_right}
use Rattle.table.specs.{check_node}
use Rattle.table.proofs.Next.{next_more}
use Rattle.table.proofs.Asked.{refused}
use Rattle.table_check.proofs.check_node.Goals as goal

module _ (t : List ℕ) (i m : ℕ) where
  no-4 : byte3_right t i ≡ false → refused 4 i ≡ answer m (check_node t i)
  no-4 h = rw h

  module _ (z : byte3_right t i ≡ true) where
    no-5 : max_children < child_count t i → refused 5 i ≡ answer m (check_node t i)
    no-5 h = rw (z, lt-leb (child_count t i) max_children h)

    module _ (h : child_count t i ≤ max_children) where
      no-6 : first_child_right t i (child_count t i) ≡ false → refused 6 i ≡ answer m (check_node t i)
      no-6 e = rw (z, le-leb (child_count t i) max_children h, e)

      module _ (e : first_child_right t i (child_count t i) ≡ true) where
        no-7 : value_right t i (child_count t i) ≡ false → refused 7 i ≡ answer m (check_node t i)
        no-7 f = rw (z, le-leb (child_count t i) max_children h, e, f)

        all_right : value_right t i (child_count t i) ≡ true → Ok m ≡ answer m (check_node t i)
        all_right f = rw (z, le-leb (child_count t i) max_children h, e, f)

pub returns-then-not-byte_3_right : goal.returns-then-not-byte_3_right
returns-then-not-byte_3_right c = ap Err c.at.ensures
    ∙ no-4 c.args.table.now c.args.node _
    (sym c.byte_3_right.ensures ∙ c.if-not-byte_3_right.true)

pub returns-then-count-gt-MAX_CHILDREN : goal.returns-then-count-gt-MAX_CHILDREN
returns-then-count-gt-MAX_CHILDREN c =
    -- past question 4 byte 3 is right
    let byte-right : byte3_right c.args.table.now c.args.node ≡ true =
    sym c.byte_3_right.ensures ∙ c.if-not-byte_3_right.false in
    ap Err c.at-then-count-gt-MAX_CHILDREN.ensures ∙ no-5 c.args.table.now c.args.node _ byte-right (omega arith)

pub returns-then-not-first_child_right : goal.returns-then-not-first_child_right
returns-then-not-first_child_right c =
    -- past question 4 byte 3 is right
    let byte-right : byte3_right c.args.table.now c.args.node ≡ true =
    sym c.byte_3_right.ensures ∙ c.if-not-byte_3_right.false in
    ap Err c.at-then-not-first_child_right.ensures
    ∙ no-6 c.args.table.now c.args.node _ byte-right (omega arith)
    (sym c.first_child_right.ensures ∙ c.if-not-first_child_right.true)

pub returns-then-not-value_right : goal.returns-then-not-value_right
returns-then-not-value_right c =
    -- past question 4 byte 3 is right
    let byte-right : byte3_right c.args.table.now c.args.node ≡ true =
    sym c.byte_3_right.ensures ∙ c.if-not-byte_3_right.false in
    ap Err c.at-then-not-value_right.ensures
    ∙ no-7 c.args.table.now c.args.node _ byte-right (omega arith)
    (sym c.first_child_right.ensures ∙ c.if-not-first_child_right.false)
    (sym c.value_right.ensures ∙ c.if-not-value_right.true)

pub returns : goal.returns
returns c =
    -- past question 4 byte 3 is right
    let byte-right : byte3_right c.args.table.now c.args.node ≡ true =
    sym c.byte_3_right.ensures ∙ c.if-not-byte_3_right.false in
    ap Ok (omega (arith, next_more c.args.table.now c.args.node))
    ∙ all_right c.args.table.now c.args.node (next c.args.table.now (c.args.node + 1)) byte-right (omega arith)
    (sym c.first_child_right.ensures ∙ c.if-not-first_child_right.false)
    (sym c.value_right.ensures ∙ c.if-not-value_right.false)
