-- `Bounds::enter` tests the children of a node, and leaves everything outside its tree as it was.
use Rattle.prelude.proofs.{ℕ, ◌+◌, ◌<◌, arith, sym, ap, ◌∙◌, length-set, rules}
use Rattle.table.specs.{frames, tree_at}
use Rattle.table.proofs.Next.{child-later, child-within}
use Rattle.mtd_memory.proofs.Turns.{Family, family-within}
use Rattle.mtdf_visits.specs.{Memory, memory_of, MemoryRoom, Long, VisitReady, VisitedBy}
use Rattle.mtdf_visits.proofs.Arrays.{room-kept, long-more}
use Rattle.mtdf_visits.proofs.Turns.{turn-first, turn-child, turn-ready, turn-next, turn_last}
use Rattle.mtdf_visits.proofs.Visits.{looked-visited, open-ready, open-visited, visited-same, ready-shallow}
use Rattle.mtdf_visits.proofs.Visits.{visit-entered}
use Rattle.mtdf_visits.proofs.Bounds.+enter.Goals as goal
use Rattle.mtdf_visits.proofs.Bounds.+enter.Goals.{After-child_count, Joined-look, in-Some, in-None}

module _ (t : ℕ) where
  -- the node's children
  family : (c : After-child_count t) → Family c.args.table.now c.args.node c.first_child-first.result
      (c.first_child-first.result + c.child_count.result)
  family c =
      record {
        formed = c.requires.visit_ready.formed;
        inside = c.requires.visit_ready.inside;
        from = c.first_child-first.ensures.0;
        to = ap (λ n. c.first_child-first.result + n) c.child_count.ensures.0;
      }

  some : (c : After-child_count t) → c.first_child-first.result < c.first_child-first.result + c.child_count.result
  some c = omega (arith, c.requires.node_nonzero, c.child_count.ensures.0)

  -- the memory at the entry, at the head of the loop, after the look, and after the child
  abbrev before : Joined-look t → Memory
  before c = memory_of c.args.self.now

  abbrev present : Joined-look t → Memory
  present c = memory_of c.loop-answer.self

  abbrev looked : Joined-look t → Memory
  looked c = memory_of c.look.new.self

  abbrev after : Joined-look t → Memory
  after c = memory_of c.match-look.self

  -- what the look at the child asks
  ready : (c : Joined-look t) → VisitReady c.args.table.now (present c) c.loop-answer.child
      c.child_position-below.result
  ready c =
      turn-ready (family (goal.at.Joined-look t c).After-child_count) c.requires.visit_ready
      c.loop-answer.invariant.turn c.child_position-below.ensures

  -- what the visit of the child did
  passed : (c : Joined-look t) → VisitedBy c.args.table.now (tree_at c.args.table.now c.loop-answer.child) c.args.test
      (present c) (after c) c.match-look.answer
  passed c =
      let a = c.args in
      let i = c.loop-answer.child in
      elim c.match-look.branch [
        | in-Some w ↦ visited-same a.test (ap memory_of w.self-is) w.answer-is
            (looked-visited a.table.now i a.test (present c) (looked c) c.look.result c.look.ensures.looked _
            w.in-Some.is)
        | in-None w ↦ visited-same a.test (ap memory_of w.self-is) w.answer-is
            (open-visited a.table.now i a.test (present c) (looked c) c.look.result c.look.ensures.looked w.in-None.is
            (ready c) w.enter-answer.ensures.entered)
      ]

  -- the arrays keep their lengths
  long : (c : Joined-look t) → Long (before c) (after c)
  long c =
      let u = long-more c.loop-answer.invariant.turn.long c.look.ensures.same_lengths in
      elim c.match-look.branch [
        | in-Some w ↦ rw w.self-is u
        | in-None w ↦ rw w.self-is (long-more u w.enter-answer.ensures.same_lengths)
      ]

  room : (c : Joined-look t) → MemoryRoom (frames c.args.table.now) (after c)
  room c = room-kept c.requires.visit_ready.room (long c)

pub loop-answer-init : goal.loop-answer-init
loop-answer-init t c =
    let k = (goal.at.loop-answer-init t c).After-child_count in
    record {
      turn = turn-first (family t k) c.requires.visit_ready (some t k);
      same_buffers = search rules;
    }

pub child_position-below-requires : goal.child_position-below-requires
child_position-below-requires t c =
    let p = c.requires.visit_ready in
    let k = (goal.at.child_position-below-requires t c).After-child_count in
    (child-within _ p.formed p.inside (turn-child (family t k) c.loop-answer.invariant.turn), ready-shallow p)

pub look-requires : goal.look-requires
look-requires t c =
    turn-ready (family t (goal.at.look-requires t c).After-child_count) c.requires.visit_ready
    c.loop-answer.invariant.turn c.child_position-below.ensures

pub enter-answer-requires : goal.enter-answer-requires
enter-answer-requires t c =
    let a = c.args in
    let p = c.requires.visit_ready in
    let k = (goal.at.enter-answer-requires t c).After-child_count in
    let l = c.loop-answer in
    let j = turn-child (family t k) l.invariant.turn in
    let o = open-ready a.table.now l.child a.test (memory_of l.self) (memory_of c.look.new.self) c.look.result
    c.look.ensures.looked c.in-None.is
    (turn-ready (family t k) c.requires.visit_ready l.invariant.turn c.child_position-below.ensures) in
    (omega (arith, c.decreases, child-later _ p.formed p.inside j, child-within _ p.formed p.inside j), o)

pub loop-answer-preserved : goal.loop-answer-preserved
loop-answer-preserved t c =
    let d = (goal.at.loop-answer-preserved t c).Joined-look in
    record {
      turn =
          turn-next (family t (goal.at.Joined-look t d).After-child_count) c.loop-answer.invariant.turn (passed t d)
          (long t d) (sym c.last_tried.ensures ∙ c.if-last_tried.false);
      same_buffers = search rules;
    }

pub back_up-requires : goal.back_up-requires
back_up-requires t c =
    let d = (goal.at.back_up-requires t c).Joined-look in
    let k = (goal.at.Joined-look t d).After-child_count in
    let n = (room t d).lows in (
      omega (arith, c.requires.visit_ready.inside, n),
      some t k,
      omega (arith, family-within (family t k) (some t k), n),
    )

pub back_up-requires-2 : goal.back_up-requires-2
back_up-requires-2 t c =
    let d = (goal.at.back_up-requires-2 t c).Joined-look in
    let k = (goal.at.Joined-look t d).After-child_count in
    let n = (room t d).highs in (
      omega (arith, c.requires.visit_ready.inside, n),
      some t k,
      omega (arith, family-within (family t k) (some t k), n),
    )

pub returns-clause-entered : goal.returns-clause-entered
returns-clause-entered t c =
    let d = (goal.at.returns-clause-entered t c).Joined-look in
    let k = (goal.at.Joined-look t d).After-child_count in
    let left = turn_last (family t k) c.loop-answer.invariant.turn (passed t d)
    (sym c.last_tried.ensures ∙ c.if-last_tried.true) in
    rw (c.back_up.ensures, c.back_up-2.ensures)
    (visit-entered (family t k) c.requires.visit_ready (some t k) c.match-look.answer (room t d) left)

pub returns-clause-same_lengths : goal.returns-clause-same_lengths
returns-clause-same_lengths t c =
    let d = (goal.at.returns-clause-same_lengths t c).Joined-look in
    let l = long t d in
    record {
      evaluated = l.evaluated;
      order = l.order;
      lows = rw c.back_up.ensures (length-set _ _ _ ∙ l.lows);
      highs = rw c.back_up-2.ensures (length-set _ _ _ ∙ l.highs);
    }
