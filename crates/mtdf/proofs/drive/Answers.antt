-- `drive` gives what the run of tests gives: the tests so far and the run from here make the whole run.
use Rattle.prelude.proofs.{ℕ, suc, ◌+◌, ◌≤◌, ◌<◌, arith, add-one, ◌≡◌, refl, cond, get_or, rules}
use Rattle.gametree.specs.{greatest, clamp}
use Rattle.table.specs.{frames}
use Rattle.mtdf_visits.specs.{Memory, memory_of}
use Rattle.mtdf_visits.proofs.Arrays.{long-more}
use Rattle.mtdf.proofs.Runs.{Driving, driving-first, root-ordered, root-small, driving-ready, driving-last, leaves-grow}
use Rattle.mtdf.proofs.Runs.{leaves-few, next_small, driving-next}
use Rattle.mtdf.proofs.drive.Goals as goal
use Rattle.mtdf.proofs.drive.Goals.{After-visit-answer}

-- the memory at the head of the loop, and after the test
abbrev present : After-visit-answer → Memory
present c = memory_of c.loop-bounds.bounds

abbrev after : After-visit-answer → Memory
after c = memory_of c.visit-answer.new.self

-- the test is the wish, brought between the root's low + 1 and its high
chosen : (c : After-visit-answer) → c.clamp-test.result
    ≡ clamp (get_or (present c).lows 0 0 + 1) (get_or (present c).highs 0 0) c.loop-bounds.wish
chosen c =
    let o = root-ordered c.requires.formed c.loop-bounds.invariant.driving in
    omega (arith, o, c.clamp-test.ensures, c.loop-bounds-test.true)

-- the root's bounds had not met
apart : (c : After-visit-answer) → get_or (present c).lows 0 0 ≡ get_or (present c).highs 0 0 → ⊥
apart c = c.loop-bounds-test.true

-- a leaf is evaluated, and there are no more of them than nodes
grown : (c : After-visit-answer) → ((present c).leaves < (after c).leaves)
    × ((after c).leaves ≤ frames c.args.table.now)
grown c =
    let p = c.requires.formed in
    let u = c.loop-bounds.invariant.driving in
    let v = c.visit-answer.ensures.visited in
    (leaves-grow p u (apart c) (chosen c) v, leaves-few p u (apart c) (chosen c) v)

-- the root's low is a score
small : (c : After-visit-answer) → get_or (after c).lows 0 0 ≤ greatest
small c =
    next_small c.requires.formed c.loop-bounds.invariant.driving (apart c) (chosen c) c.visit-answer.ensures.visited

-- after the test, with the next wish
next : (c : After-visit-answer) → (wish : ℕ)
    → wish ≡ cond c.visit-answer.result (suc (get_or (after c).lows 0 0)) (get_or (after c).highs 0 0)
    → Driving c.args.table.now c.args.guess (memory_of c.args.bounds.now) (after c) wish (c.loop-bounds.tests + 1)
next c =
    let u = c.loop-bounds.invariant.driving in
    let v = c.visit-answer.ensures in
    driving-next c.requires.formed u (apart c) (chosen c) v.visited (long-more u.long v.same_lengths)

pub loop-bounds-init : goal.loop-bounds-init
loop-bounds-init c =
    record { driving = driving-first _ _ _ c.requires; same_buffers = search rules }

pub overflow_add-bounds : goal.overflow_add-bounds
overflow_add-bounds c =
    let p = c.requires.formed in
    let u = c.loop-bounds.invariant.driving in
    omega (arith, root-ordered p u, root-small p u)

pub clamp-test-requires : goal.clamp-test-requires
clamp-test-requires c =
    let o = root-ordered c.requires.formed c.loop-bounds.invariant.driving in
    omega (arith, o, c.loop-bounds-test.true)

pub visit-answer-requires : goal.visit-answer-requires
visit-answer-requires c = driving-ready c.requires.formed c.loop-bounds.invariant.driving c.requires.room

pub overflow_add-tests : goal.overflow_add-tests
overflow_add-tests c =
    let g = grown c in
    omega (arith, g.0, g.1, c.loop-bounds.invariant.driving.at_most, c.requires.formed.at_most)

pub overflow_add-wish : goal.overflow_add-wish
overflow_add-wish c = let s = small (goal.at.overflow_add-wish c).After-visit-answer in omega (arith, s)

pub loop-bounds-smaller-then-answer : goal.loop-bounds-smaller-then-answer
loop-bounds-smaller-then-answer c =
    let g = grown (goal.at.loop-bounds-smaller-then-answer c).After-visit-answer in omega (arith, g.0, g.1)

pub loop-bounds-smaller : goal.loop-bounds-smaller
loop-bounds-smaller c =
    let g = grown (goal.at.loop-bounds-smaller c).After-visit-answer in omega (arith, g.0, g.1)

pub loop-bounds-preserved-then-answer : goal.loop-bounds-preserved-then-answer
loop-bounds-preserved-then-answer c =
    record {
      driving =
          next (goal.at.loop-bounds-preserved-then-answer c).After-visit-answer _ (rw (c.if-answer.true, add-one));
      same_buffers = search rules;
    }

pub loop-bounds-preserved : goal.loop-bounds-preserved
loop-bounds-preserved c =
    record {
      driving = next (goal.at.loop-bounds-preserved c).After-visit-answer _ (rw c.if-answer.false);
      same_buffers = search rules;
    }

pub returns-clause-met : goal.returns-clause-met
returns-clause-met c =
    driving-last c.requires.formed c.loop-bounds.invariant.driving _ c.loop-bounds-test.false refl refl
