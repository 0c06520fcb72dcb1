-- `enter` does what the pass does at an open node, and leaves everything outside its tree as it was.
use Rattle.prelude.proofs.{ℕ, ◌+◌, ◌<◌, arith, refl, sym, ap, ◌∙◌}
use Rattle.table.specs.{frames, tree_at}
use Rattle.table.proofs.Next.{child-later, child-within}
use Rattle.mtd_memory.specs.{memory_of, SameArrays, MemoryRoom, Passed, PassedOver}
use Rattle.mtd_memory.proofs.Arrays.{room-kept, same-at-once, same-arrays}
use Rattle.mtd_memory.proofs.Turns.{PassLoop, Left, Family, family-within, turn-child, turn-ready}
use Rattle.mtd_memory.proofs.Visits.{looked-passed, open-ready, open-passed, ready-shallow, visit-entered}
use Rattle.mtd_memory.proofs.Skips.{skips-within, leads-own, Trying, try-first, try-next, try-over, try-again, try-last}
use Rattle.mtd_memory.proofs.Skips.{Untried, outside-still, alone-still}
use Rattle.mtd.proofs.+enter.Goals as goal
use Rattle.mtd.proofs.+enter.Goals.{After-child_count, At-loop-next, Joined-look, After-remember-arg-1}
use Rattle.mtd.proofs.+enter.Goals.{in-Some-look, in-None, in_default, in-Some+then-last_tried}

module _ (t : ℕ) where
  -- the node's children
  family : (c : After-child_count t) → Family c.args.table.now c.args.node c.first_child-first.result
      (c.first_child-first.result + c.child_count.result)
  family c =
      record {
        formed = c.requires.visit_ready.formed;
        inside = c.requires.visit_ready.inside;
        from = c.first_child-first.ensures.0;
        to = ap (λ n. c.first_child-first.result + n) c.child_count.ensures.0;
      }

  some : (c : After-child_count t) → c.first_child-first.result < c.first_child-first.result + c.child_count.result
  some c = omega (arith, c.requires.enterable.non_empty, c.child_count.ensures.0)

  -- the loop is at the next child that is tried
  module _ (c : At-loop-next t) {q : ℕ}
      (o : PassedOver c.args.position.side c.loop-next.memory.highs.now c.args.test c.loop-next.child
      c.to_try-tries.result.end q) (less : q < c.to_try-tries.result.end) where
    turn : PassLoop c.args.table.now c.args.position.side c.args.test c.first_child-first.result
        (c.first_child-first.result + c.child_count.result) (memory_of c.args.memory.now)
        (memory_of c.loop-next.memory) q
        × Trying c.first_child-first.result (c.first_child-first.result + c.child_count.result)
        c.to_try-tries.result (memory_of c.args.memory.now) (memory_of c.loop-next.memory) q
    turn =
        let k = (goal.at.At-loop-next t c).After-child_count in
        try-next (family k) c.requires.visit_ready (some k) c.requires.enterable.high c.to_try-tries.ensures
        c.loop-next.invariant.0 c.loop-next.invariant.1 o less

  -- what the visit of the child did, and the memory stays in its buffers
  visited : (c : Joined-look t)
      → Passed c.args.table.now (tree_at c.args.table.now c.in-Some.next) c.args.test
      (memory_of c.loop-next.memory) (memory_of c.match-look.memory) c.match-look.answer
      × SameArrays c.args.memory.now c.match-look.memory
  visited c =
      let l = c.look.ensures.looked in
      let s = same-arrays c.loop-next.invariant.2 c.look.ensures.same_arrays in
      elim c.match-look.branch [
        | in-Some-look w ↦ rw (w.memory-is, w.answer-is) (looked-passed _ _ _ _ _ _ l _ w.in-Some-look.is, s)
        | in-None w ↦ rw (w.memory-is, w.answer-is) (
          open-passed _ _ _ _ _ _ l w.in-None.is w.enter-answer.ensures.passed,
          same-arrays s w.enter-answer.ensures.same_arrays,
        )
      ]

  -- after the loop the children have their answer
  left : (c : After-remember-arg-1 t)
      → let first = c.first_child-first.result in
      let end = c.first_child-first.result + c.child_count.result in
      let m = memory_of c.args.memory.now in
      let m' = memory_of c.match-next_tried.memory in
      Left c.args.table.now c.args.position.side c.args.test first end m m' c.match-next_tried.child
      c.match-next_tried.answer
      × SameArrays c.args.memory.now c.match-next_tried.memory × Untried first end c.to_try-tries.result m m'
  left c =
      let l = (goal.at.After-remember-arg-1 t c).At-loop-next in
      let f = (goal.at.At-loop-next t l).After-child_count in
      let p = c.requires.visit_ready in
      let high = c.requires.enterable.high in
      let u = c.loop-next.invariant in
      let o = c.to_try-tries.ensures in
      elim c.match-next_tried.branch [
        | in_default w ↦ rw (w.memory-is, w.child-is, w.answer-is) (
          try-over (family f) p (some f) high o u.0 u.1 w.in_default.ensures.place refl,
          u.2,
          u.1.outside,
        )
        | in-Some+then-last_tried w ↦ (let z = turn l w.in-Some.ensures.place w.in-Some.ensures.inside in
            let k = w.look.ensures.looked in
            let s = same-arrays u.2 w.look.ensures.same_arrays in
            let m'' = memory_of w.match-look.memory in
            let v : Passed c.args.table.now (tree_at c.args.table.now w.in-Some.next) c.args.test
            (memory_of c.loop-next.memory) m'' w.match-look.answer
            × SameArrays c.args.memory.now w.match-look.memory =
            elim w.match-look.branch [
              | in-Some-look x ↦ rw (x.memory-is, x.answer-is) (looked-passed _ _ _ _ _ _ k _ x.in-Some-look.is, s)
              | in-None x ↦ rw (x.memory-is, x.answer-is) (
                open-passed _ _ _ _ _ _ k x.in-None.is x.enter-answer.ensures.passed,
                same-arrays s x.enter-answer.ensures.same_arrays,
              )
            ] in
            rw (w.memory-is, w.child-is, w.answer-is) (
              try-last (family f) p (some f) high o z.0 z.1 {m'' = m''} v.0 v.1.long
                  (sym w.last_tried.ensures ∙ w.if-last_tried.true),
              v.1,
              outside-still (family f) p (some f) high o z.0 z.1 {m'' = m''} v.0 v.1.long,
            ))
      ]

  room : (c : After-remember-arg-1 t) → MemoryRoom (frames c.args.table.now) (memory_of c.match-next_tried.memory)
  room c = room-kept c.requires.visit_ready.room (left c).1.long

pub to_try-tries-requires-clause-first_lt_end : goal.to_try-tries-requires-clause-first_lt_end
to_try-tries-requires-clause-first_lt_end t c =
    let p = c.requires.visit_ready in (
      some t c,
      omega (arith, family-within (family t c) (some t c), p.room.highs),
      omega (arith, p.inside, p.room.not_below),
    )

pub to_try-tries-requires-clause-node_bound : goal.to_try-tries-requires-clause-node_bound
to_try-tries-requires-clause-node_bound t c = skips-within (family t c) c.requires.visit_ready (some t c)

pub to_try-tries-requires-clause-names_two : goal.to_try-tries-requires-clause-names_two
to_try-tries-requires-clause-names_two t c = leads-own (family t c) c.requires.visit_ready

pub loop-next-init : goal.loop-next-init
loop-next-init t c =
    let f = (goal.at.loop-next-init t c).After-child_count in
    let u = try-first (family t f) c.requires.visit_ready (some t f) c.requires.enterable.high c.to_try-tries.ensures in
    (u.0, u.1, same-at-once _)

pub next_tried-requires : goal.next_tried-requires
next_tried-requires t c =
    let f = (goal.at.next_tried-requires t c).After-child_count in
    let to = c.loop-next.invariant.1.to in
    let within = c.to_try-tries.ensures.within in (
      omega arith,
      omega (
        arith,
        family-within (family t f) (some t f),
        c.requires.visit_ready.room.highs,
        c.loop-next.invariant.0.long.highs,
      ),
    )

pub child_position-at-requires : goal.child_position-at-requires
child_position-at-requires t c =
    let l = (goal.at.child_position-at-requires t c).At-loop-next in
    let f = (goal.at.At-loop-next t l).After-child_count in
    let p = c.requires.visit_ready in
    let z = turn t l c.in-Some.ensures.place c.in-Some.ensures.inside in
    (child-within _ p.formed p.inside (turn-child (family t f) z.0), ready-shallow p)

pub look-requires : goal.look-requires
look-requires t c =
    let l = (goal.at.look-requires t c).At-loop-next in
    let f = (goal.at.At-loop-next t l).After-child_count in
    turn-ready (family t f) c.requires.visit_ready (turn t l c.in-Some.ensures.place c.in-Some.ensures.inside).0
    c.child_position-at.ensures

pub enter-answer-requires : goal.enter-answer-requires
enter-answer-requires t c =
    let l = (goal.at.enter-answer-requires t c).At-loop-next in
    let f = (goal.at.At-loop-next t l).After-child_count in
    let p = c.requires.visit_ready in
    let z = turn t l c.in-Some.ensures.place c.in-Some.ensures.inside in
    let j = turn-child (family t f) z.0 in (
      omega (arith, c.decreases, child-later _ p.formed p.inside j, child-within _ p.formed p.inside j),
      open-ready _ _ _ _ _ _ c.look.ensures.looked c.in-None.is
          (turn-ready (family t f) p z.0 c.child_position-at.ensures),
    )

pub loop-next-preserved : goal.loop-next-preserved
loop-next-preserved t c =
    let d = (goal.at.loop-next-preserved t c).Joined-look in
    let l = (goal.at.loop-next-preserved t c).At-loop-next in
    let f = (goal.at.At-loop-next t l).After-child_count in
    let z = turn t l c.in-Some.ensures.place c.in-Some.ensures.inside in
    let v = visited t d in
    let u =
    try-again (family t f) c.requires.visit_ready (some t f) c.requires.enterable.high c.to_try-tries.ensures z.0 z.1
    {m'' = memory_of c.match-look.memory} v.0 v.1.long (sym c.last_tried.ensures ∙ c.if-last_tried.false) in
    (u.0, u.1, v.1)

pub remember-requires-clause-siblings : goal.remember-requires-clause-siblings
remember-requires-clause-siblings t c =
    let f = (goal.at.remember-requires-clause-siblings t c).After-child_count in (
      some t f,
      omega (arith, family-within (family t f) (some t f), (room t c).highs),
      omega (arith, c.child_count.ensures.1),
    )

pub remember-requires-clause-found_below : goal.remember-requires-clause-found_below
remember-requires-clause-found_below t c = λ s b.
    let d = (left t c).0.down s b in
    record { from = d.from; to = d.to; best = d.best }

pub remember-requires-clause-alone : goal.remember-requires-clause-alone
remember-requires-clause-alone t c =
    let f = (goal.at.remember-requires-clause-alone t c).After-child_count in
    let l = left t c in
    alone-still (family t f) c.requires.visit_ready (some t f) c.requires.enterable.high c.to_try-tries.ensures
    {m' = memory_of c.match-next_tried.memory} l.0 l.2

pub returns-clause-passed : goal.returns-clause-passed
returns-clause-passed t c =
    let d = (goal.at.returns-clause-passed t c).After-remember-arg-1 in
    let f = (goal.at.returns-clause-passed t c).After-child_count in
    let e = c.requires.enterable in
    rw (c.remember.ensures.evaluations_after, c.remember.ensures.highs_after, c.remember.ensures.not_below_after)
    (visit-entered (family t f) c.requires.visit_ready (some t f) {m' = memory_of c.match-next_tried.memory} e.high
    e.not_below (room t d) (left t d).0 c.remember.ensures.keeps_best)

pub returns-clause-same_arrays : goal.returns-clause-same_arrays
returns-clause-same_arrays t c =
    same-arrays (left t (goal.at.returns-clause-same_arrays t c).After-remember-arg-1).1
    c.remember.ensures.same_arrays
