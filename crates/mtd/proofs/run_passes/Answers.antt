-- `run_passes` gives what MTD gives: the passes so far and the run from here make the whole run.
use Rattle.prelude.proofs.{◌+◌, ◌-◌, ◌≤◌, arith, ◌≡◌, ◌∙◌, refl, length}
use Rattle.table.specs.{child_count, next}
use Rattle.table.proofs.Next.{next-within}
use Rattle.mtd_memory.specs.{memory_of}
use Rattle.mtd_memory.proofs.Arrays.{same-at-once, same-arrays}
use Rattle.mtd.proofs.Runs.{passing-first, passing-ready, passing-last, next-falls, passing-next, move-right}
use Rattle.mtd.proofs.run_passes.Goals as goal

pub loop-root-init : goal.loop-root-init
loop-root-init c = (passing-first _ _ c.requires _ _ refl refl, same-at-once _)

pub visit-not_below-requires : goal.visit-not_below-requires
visit-not_below-requires c = passing-ready c.requires.formed c.loop-root.invariant.0 c.requires.room

pub bounds-memory-0 : goal.bounds-memory-0
bounds-memory-0 c =
    omega (
      arith,
      c.requires.formed.non_empty,
      c.requires.room.highs,
      c.visit-not_below.ensures.same_arrays.long.highs,
      c.loop-root.invariant.0.long.highs,
    )

pub loop-root-smaller : goal.loop-root-smaller
loop-root-smaller c =
    next-falls c.requires.formed c.loop-root.invariant.0 {m'' = memory_of c.visit-not_below.new.memory}
    c.visit-not_below.ensures.passed c.if-not_below.false

pub loop-root-preserved : goal.loop-root-preserved
loop-root-preserved c =
    let s = same-arrays c.loop-root.invariant.1 c.visit-not_below.ensures.same_arrays in (
      passing-next c.requires.formed c.loop-root.invariant.0 {m'' = memory_of c.visit-not_below.new.memory}
          c.visit-not_below.ensures.passed c.if-not_below.false s.long _ refl,
      s,
    )

pub first_equal-root_move-requires : goal.first_equal-root_move-requires
unfolding next
first_equal-root_move-requires c =
    -- the root's children are nodes of the table
    let p = c.requires in
    let within : 1 + child_count c.args.table.now 0 ≤ length c.visit-not_below.new.memory.highs.now = omega (
      arith,
      next-within _ p.formed 1 p.formed.non_empty,
      p.room.highs,
      c.visit-not_below.ensures.same_arrays.long.highs,
      c.loop-root.invariant.0.long.highs,
    ) in
    (omega arith, omega (arith, within, c.child_count-end.ensures.0))

pub returns-clause-root_move_value : goal.returns-clause-root_move_value
returns-clause-root_move_value c =
    let z : 1 + c.child_count-end.result - 1 ≡ child_count c.args.table.now 0 =
    omega (arith, c.child_count-end.ensures.0) in
    (rw z at c.first_equal-root_move.ensures)
    ∙ move-right _ c.requires.formed (memory_of c.visit-not_below.new.memory) c.visit-not_below.ensures.passed.right

pub returns-clause-order_after : goal.returns-clause-order_after
returns-clause-order_after c =
    (passing-last c.requires.formed c.loop-root.invariant.0 {m'' = memory_of c.visit-not_below.new.memory}
    c.visit-not_below.ensures.passed c.if-not_below.true).1.0
