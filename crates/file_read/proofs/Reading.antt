-- The reader, question by question: what it answers and what it leaves in the lent table at each way out.
use Rattle.prelude.proofs.{ℕ, ◌*◌, ◌≤◌, ◌<◌, ◌≡◌, refl, sym, ap, ◌∙◌, Option, none, some, List, ◌++◌, length, take}
use Rattle.prelude.proofs.{Result, Ok, Err}
use Rattle.prelude.proofs.{drop, length-take, take-length, arith, lt-ltb, le-ltb, le-leb, lt-leb, ltb-true, leb-true}
use Rattle.table.specs.declared.Rejection.{Rejection}
use Rattle.table.specs.{frame_size, max_nodes, frames, ◌and_then◌, answer, ◌leaving◌, check1, frames_rejection}
use Rattle.table.proofs.Stated.{ask-yes, both-passed}
use Rattle.table.proofs.Asked.{refused, answer-nodes, answer-rejected, answer-of}
use Rattle.file_line.specs.{lines_of, decoded}
use Rattle.file_read.specs.{max_file, file_check2, file_check3, file_check16, file_rejection, read_rejection}
use Rattle.file_read.specs.{read_outcome, lines_rejection, Decoded}
use Rattle.file_read.proofs.Decoding.{decoded-refused}
use Rattle.file_read.proofs.Counts.{decoded-length, frame-count, frames-few}

-- three questions and then another
then-three : (a b c x : Option Rejection)
    → (a and_then b and_then c and_then x) ≡ ((a and_then b and_then c) and_then x)
then-three (some r) b c x = refl
then-three none (some r) c x = refl
then-three none none c x = refl

module _ (f : List ℕ) where
  -- what comes after questions 1 to 3
  pub lines_then : (x : Option Rejection)
      → (check1 f and_then file_check2 f and_then file_check3 f and_then x) ≡ (lines_rejection f and_then x)
  unfolding lines_rejection
  lines_then x = then-three (check1 f) (file_check2 f) (file_check3 f) x

  pub file-then : file_rejection f ≡ (lines_rejection f and_then file_check16 f and_then frames_rejection (decoded f))
  unfolding file_rejection
  file-then = lines_then (file_check16 f and_then frames_rejection (decoded f))

  -- question 1
  pub empty-refused : length f ≡ 0 → lines_rejection f ≡ some (record { number = 1; place = 0 })
  unfolding lines_rejection
  empty-refused e = rw (le-ltb 0 (length f) (omega arith))

  -- question 2
  pub long-refused : max_file < length f → lines_rejection f ≡ some (record { number = 2; place = 0 })
  unfolding lines_rejection
  long-refused h = rw (lt-ltb 0 (length f) (omega arith), lt-leb (length f) max_file h)

  -- a file that passes both is left to question 3
  pub sized : 0 < length f → length f ≤ max_file → lines_rejection f ≡ file_check3 f
  unfolding lines_rejection
  sized h k = rw (lt-ltb 0 (length f) h, le-leb (length f) max_file k)

  -- what lines that are right have passed
  pub lines-parts : lines_rejection f ≡ none → (0 < length f) × (length f ≤ max_file) × (file_check3 f ≡ none)
  unfolding lines_rejection
  lines-parts e =
      let a = both-passed (check1 f) _ e in
      let b = both-passed (file_check2 f) _ a.1 in (
        ltb-true 0 (length f) (ask-yes _ _ _ a.0),
        leb-true (length f) max_file (ask-yes _ _ _ b.0),
        b.1,
      )

  -- what an accepted file has passed
  pub accepted-parts : file_rejection f ≡ none
      → (0 < length f) × (length f ≤ max_file) × (file_check3 f ≡ none) × (file_check16 f ≡ none)
      × (frames_rejection (decoded f) ≡ none)
  accepted-parts e =
      let a = both-passed (lines_rejection f) _ (sym file-then ∙ e) in
      let b = both-passed (file_check16 f) _ a.1 in
      let p = lines-parts a.0 in
      (p.0, p.1, p.2, b.0, b.1)

-- a table whose front holds a file's n frames, after questions that passed
pub record Front (f : List ℕ) (x : Option Rejection) (table : List ℕ) (n : ℕ) : Type 0 where
  pub passed : x ≡ none
  pub nodes : n ≡ frames (decoded f)
  pub lines : n ≡ length (lines_of f)
  pub at_most : n ≤ max_nodes
  pub size : frame_size * n ≡ length (decoded f)
  pub bytes : take (frame_size * n) table ≡ decoded f

-- it has room for them
pub front-room : (f : List ℕ) (x : Option Rejection) (table : List ℕ) (n : ℕ) → Front f x table n
    → frame_size * n ≤ length table
front-room f x table n w =
    omega (arith, simp length-take at (ap length w.bytes), w.size)

module _ (f : List ℕ) (x : Option Rejection) (table : List ℕ) (r : Result ℕ Rejection) (d : Decoded f x table r) where
  -- where they give n nodes
  pub decoded-front : (x ≡ none → (length f ≤ max_file) × (file_check3 f ≡ none)) → (n : ℕ) → r ≡ Ok n
      → Front f x table n
  decoded-front asked n e =
      let a = answer-nodes (frames (decoded f)) n x (sym e ∙ d.answered) in
      let q = asked a.0 in
      let size : frame_size * n ≡ length (decoded f) =
      omega (arith, a.1, frame-count f q.1, decoded-length f q.1) in
      record {
        passed = a.0;
        nodes = a.1;
        lines = a.1 ∙ frame-count f q.1;
        at_most = omega (arith, a.1, frames-few f q.1 q.0);
        size = size;
        bytes = rw size (d.filled a.0);
      }

  -- where they reject
  pub decoded-rejected : (y : Rejection) → r ≡ Err y → x ≡ some y
  decoded-rejected y e = answer-rejected (frames (decoded f)) y x (sym e ∙ d.answered)

module _ (f table : List ℕ) where
  -- questions 1 to 3, whatever comes after them
  pub lines-refused : (x : Option Rejection) (r : Result ℕ Rejection) → Decoded f (lines_rejection f) table r
      → (y : Rejection)
      → r ≡ Err y → Decoded f (lines_rejection f and_then x) table r
  lines-refused x r d y e =
      let refused = decoded-rejected f (lines_rejection f) table r d y e in
      rw e (decoded-refused f (lines_rejection f and_then x) table y (rw refused))

  module _ (n : ℕ) (w : Front f (lines_rejection f) table n) where
    -- the question after them
    pub next-refused : (q x : Option Rejection) (y : Rejection) → q ≡ some y
        → Decoded f (lines_rejection f and_then q and_then x) table (Err y)
    next-refused q x y e =
        decoded-refused f (lines_rejection f and_then q and_then x) table y (rw (w.passed, e))

    -- questions 4 to 9, put to the front of the table
    pub frames-asked : (q : Option Rejection) (r : Result ℕ Rejection) → q ≡ none
        → r ≡ answer (frames (take (frame_size * n) table)) (frames_rejection (take (frame_size * n) table))
        → Decoded f (lines_rejection f and_then q and_then frames_rejection (decoded f)) table r
    frames-asked q r c e =
        record {
          answered = e ∙ rw (w.bytes, w.passed, c);
          filled = λ p. rw (← w.size) w.bytes;
        }

module _ (f table : List ℕ) where
  -- the answer by itself
  pub read_answer : (read_outcome f table).answer ≡ answer (frames (decoded f)) (read_rejection f table)
  read_answer = answer-of (read_rejection f table) Err table _ _

  -- one of questions 1 to 9 and 16 got a "no"
  pub read-refused : (x : Rejection) → file_rejection f ≡ some x → Err x leaving table ≡ read_outcome f table
  unfolding read_rejection
  read-refused x e = rw e

  module _ (t : List ℕ) (n : ℕ) (w : Front f (file_rejection f) t n) where
    -- question 10
    pub read_short : length table < frame_size * n → refused 10 0 leaving table ≡ read_outcome f table
    unfolding read_rejection
    read_short h =
        rw (w.passed, lt-leb (frame_size * length (lines_of f)) (length table) (omega (arith, w.lines)))

    -- no question got a "no"
    pub read-accepted : (after : List ℕ) → frame_size * n ≤ length table
        → after ≡ take (length (take (frame_size * n) t)) (take (frame_size * n) t)
        ++ drop (length (take (frame_size * n) t)) table
        → Ok n leaving after ≡ read_outcome f table
    unfolding read_rejection
    read-accepted after h e =
        let same : after ≡ decoded f ++ drop (length (decoded f)) table =
        e ∙ rw (w.bytes, take-length (decoded f)) in
        let room = le-leb (frame_size * length (lines_of f)) (length table) (omega (arith, w.lines)) in
        rw (w.passed, room, same, w.nodes)
