-- A file is accepted exactly if its lines are right (SPEC 2.2), without lowercase letters, and hold an accepted table;
-- what the reader then gives.
use Rattle.prelude.proofs.{ℕ, zero, suc, ◌+◌, ◌*◌, ◌/◌, ◌%◌, ◌≤◌, ◌<◌, ◌≡◌, refl, sym, ap, ◌∙◌, ◌↔◌, true, false, Ok}
use Rattle.prelude.proofs.{Err}
use Rattle.prelude.proofs.{Option, none, some, List, [], ◌∷◌, ◌++◌, length, get_or, take, drop, take_at, arith, lt-ltb}
use Rattle.prelude.proofs.{le-leb, eq-eqb, ltb-true, leb-true, not-true}
use Rattle.lists.proofs.Choice.{clash}
use Rattle.table.specs.declared.Rejection.{Rejection}
use Rattle.table.specs.{frame_size, frames, max_table, ◌leaving◌, check1, check2, check3, rejection, Accepted}
use Rattle.table.proofs.Stated.{ask-yes, yes-ask, both-passed, passed-both}
use Rattle.table.proofs.Asked.{answer-nodes}
use Rattle.table.proofs.Acceptance.{accepted-stated, stated-accepted, accepted-formed}
use Rattle.file_line.specs.{line_digits, is_line, has_lowercase, lines_of, decoded}
use Rattle.file_line.proofs.CapitalDigits.{capital-at, capitals-all}
use Rattle.file_line.proofs.Lines.{line-length, line-digits, digit_at}
use Rattle.file_read.specs.{max_file, each_line, file_check2, file_check3, file_check16, file_rejection, AcceptedFile}
use Rattle.file_read.specs.{read_rejection, read_outcome, line_check16, line_check3, LineAsStated, FileAsStated}
use Rattle.file_read.proofs.Counts.{line-count, decoded-length, frame-count}
use Rattle.file_read.proofs.Reading.{accepted-parts, read_answer}

line-stated : (l : List ℕ) → is_line l ≡ true → has_lowercase l ≡ false → LineAsStated l
line-stated l e g =
    let twelve = line-length l e in
    record {
      twelve = twelve;
      digits = λ k h. (let i : k < length l = rw twelve h in capital-at l k (digit_at l k (line-digits l e) i) g i);
    }

stated-line : (l : List ℕ) → LineAsStated l → (is_line l ≡ true) × (has_lowercase l ≡ false)
unfolding is_line
stated-line l s =
    let p = capitals-all l (λ k h. s.digits k (rw s.twelve at h)) in
    (rw (s.twelve, eq-eqb line_digits line_digits refl) p.0, p.1)

-- questions 3 and 16 pass exactly if each line is as stated
lines-stated : (i : ℕ) (ls : List (List ℕ)) → each_line line_check3 i ls ≡ none → each_line line_check16 i ls ≡ none
    → (k : ℕ) → k < length ls → LineAsStated (get_or ls k [])
unfolding each_line
lines-stated i [] e g k h = absurd (omega arith)
lines-stated i (l ∷ ls) e g zero h =
    line-stated l (ask-yes _ _ _ (both-passed (line_check3 i l) _ e).0)
    (not-true _ (ask-yes _ _ _ (both-passed (line_check16 i l) _ g).0))
lines-stated i (l ∷ ls) e g (suc k) h =
    lines-stated (i + 1) ls (both-passed (line_check3 i l) _ e).1 (both-passed (line_check16 i l) _ g).1 k (omega arith)

stated-lines : (i : ℕ) (ls : List (List ℕ)) → ((k : ℕ) → k < length ls → LineAsStated (get_or ls k []))
    → (each_line line_check3 i ls ≡ none) × (each_line line_check16 i ls ≡ none)
unfolding each_line
stated-lines i [] p = (refl, refl)
stated-lines i (l ∷ ls) p =
    let first = stated-line l (p 0 (omega arith)) in
    let rest = stated-lines (i + 1) ls (λ k h. p (suc k) (omega arith)) in
    (passed-both (line_check3 i l) _ (yes-ask _ _ _ first.0) rest.0, rw first.1 rest.1)

module _ (f : List ℕ) where
  -- the lines of an accepted file pass question 3, and hold an accepted table
  pub accepted-table : AcceptedFile f → (file_check3 f ≡ none) × Accepted (decoded f)
  unfolding rejection
  accepted-table e =
      let q = accepted-parts f e in
      let n = line-count f q.2 in
      let m = decoded-length f q.2 in
      let t = decoded f in (
        q.2,
        passed-both (check1 t) _ (yes-ask _ _ _ (lt-ltb 0 (length t) (omega arith)))
            (passed-both (check2 t) _ (yes-ask _ _ _ (le-leb (length t) max_table (omega arith)))
            (passed-both (check3 t) _ (yes-ask _ _ _ (eq-eqb (length t % frame_size) 0 (omega arith))) q.4)),
      )

  -- and question 16
  pub accepted-letters : AcceptedFile f → file_check16 f ≡ none
  accepted-letters e = (accepted-parts f e).3

  -- a file whose lines pass questions 3 and 16 and hold an accepted table is accepted
  pub table-accepted : file_check3 f ≡ none → file_check16 f ≡ none → Accepted (decoded f) → AcceptedFile f
  unfolding rejection file_rejection
  table-accepted e g accepted =
      let n = line-count f e in
      let m = decoded-length f e in
      let t = decoded f in
      let a = both-passed (check1 t) _ accepted in
      let b = both-passed (check2 t) _ a.1 in
      let c = both-passed (check3 t) _ b.1 in
      let some_bytes = ltb-true 0 (length t) (ask-yes _ _ _ a.0) in
      let few_bytes = leb-true (length t) max_table (ask-yes _ _ _ b.0) in
      passed-both (check1 f) _ (yes-ask _ _ _ (lt-ltb 0 (length f) (omega arith)))
      (passed-both (file_check2 f) _ (yes-ask _ _ _ (le-leb (length f) max_file (omega arith)))
      (passed-both (file_check3 f) _ e (passed-both (file_check16 f) _ g c.1)))

  -- a file is accepted exactly if it is as SPEC 2 and 3 state it
  pub accepted-exactly : AcceptedFile f ↔ FileAsStated f
  accepted-exactly = (
    λ e. (let p = accepted-table e in
        record {
          line = lines-stated 0 (lines_of f) p.0 (accepted-letters e);
          table = accepted-stated (decoded f) p.1;
        }),
    λ s. (let p = stated-lines 0 (lines_of f) s.line in
        table-accepted p.0 p.1 (stated-accepted (decoded f) s.table)),
  )

  -- an accepted file has a node for every 13 bytes, and for the last 12 if the last line feed is missing
  pub accepted-nodes : AcceptedFile f → frames (decoded f) ≡ (length f + line_digits) / (line_digits + 1)
  accepted-nodes e = let p = (accepted-table e).0 in frame-count f p ∙ line-count f p

  -- where the reader gives nodes, the file is accepted, and the table begins with its frames
  pub read-nodes : (table : List ℕ) (n : ℕ) → Ok n ≡ (read_outcome f table).answer
      → AcceptedFile f × Accepted (decoded f) × (n ≡ frames (decoded f))
      × (take (frame_size * n) (read_outcome f table).left ≡ decoded f)
  unfolding read_rejection
  read-nodes table n e =
      let a = answer-nodes (frames (decoded f)) n (read_rejection f table) (e ∙ read_answer f table) in
      let b = both-passed (file_rejection f) _ a.0 in
      let p = accepted-table b.0 in
      let size : frame_size * n ≡ length (decoded f) =
      omega (arith, a.1, decoded-length f p.0, frame-count f p.0) in
      (b.0, p.1, a.1, rw (b.0, b.1) (take_at (decoded f) _ (frame_size * n) (sym size)))

  -- an accepted file is read into every table that has six bytes for each line
  pub accepted-read : (table : List ℕ) → AcceptedFile f → frame_size * frames (decoded f) ≤ length table
      → read_outcome f table ≡ Ok (frames (decoded f)) leaving (decoded f ++ drop (length (decoded f)) table)
  unfolding read_rejection
  accepted-read table e room =
      let p = (accepted-table e).0 in
      rw (e, le-leb (frame_size * length (lines_of f)) (length table) (omega (arith, frame-count f p)))

  -- into a table that has room for every file, the reader rejects by questions 1 to 9 and 16 only
  pub long-enough-rejected : (table : List ℕ) → max_table ≤ length table → (r : Rejection)
      → Err r ≡ (read_outcome f table).answer → file_rejection f ≡ some r
  unfolding read_rejection
  long-enough-rejected table room r e = by-questions (file_rejection f) refl
    where
      by-questions : (q : Option Rejection) → file_rejection f ≡ q → q ≡ some r
      by-questions none p =
          let at_most = (accepted-formed (decoded f) (accepted-table p).1).at_most in
          let nodes = e ∙ ap (λ o. o.answer) (accepted-read table p (omega arith)) in clash (cc)
      by-questions (some x) p = let same : Err r ≡ Err x = (rw p at e) in cc
