-- The file of a table, against the definitions that the public reader cites: its length, its letters and line feeds,
-- that it is read back exactly, and that different tables give different files.
use Rattle.prelude.proofs.{ℕ, zero, suc, ◌+◌, ◌*◌, ◌-◌, ◌≤◌, ◌<◌, min, ◌≡◌, refl, sym, ap, ◌∙◌, true, Option, none, Ok}
use Rattle.prelude.proofs.{List, [], ◌∷◌, ◌++◌, append_assoc, length, get_or, take, drop, length-take, length-drop}
use Rattle.prelude.proofs.{get_or-append, take_all, drop-drop, take-add, get_or-take, get_or-drop, get_or-append-add}
use Rattle.prelude.proofs.{length-take-le, arith}
use Rattle.table.specs.declared.Rejection.{Rejection}
use Rattle.table.specs.{frame_size, frames, ◌leaving◌, Accepted}
use Rattle.table.proofs.Stated.{yes-ask, passed-both}
use Rattle.table.proofs.Acceptance.{accepted-stated}
use Rattle.file_hex.specs.{is_capital_digit}
use Rattle.file_line.specs.{line_digits, line_feed, line_size, lines_of, decode, decoded}
use Rattle.file_read.specs.{each_line, AcceptedFile, read_outcome, line_check16, line_check3}
use Rattle.file_read.proofs.Acceptance.{table-accepted, accepted-read}
use Rattle.file_write.specs.{digits_of, line_of, encode, file_of}
use Rattle.file_write.proofs.Laying.{digits-length, line-size, line-feed}
use Rattle.file_write.proofs.Questions.{file-length}
use Rattle.file.specs.{Bytes, InCapitals}
use Rattle.file.proofs.Capitals.{digits-capital, digits-large, digits-read, bytes_back}
use Rattle.file.proofs.Capitals.{frame-line, digits-first}

-- a part of bytes is bytes
part_bytes : (t : List ℕ) (a n : ℕ) → Bytes t → Bytes (take n (drop a t))
part_bytes t a n h k l =
    let small : k < min n (length t - a) = simp (length-take, length-drop) at l in
    rw (get_or-take n (drop a t) k 0 (omega arith), get_or-drop a t k 0) (h (a + k) (omega arith))

-- a table that has the first frame, and n more
module _ (n : ℕ) (t : List ℕ) (whole : frame_size * suc n ≤ length t) where
  -- the first frame
  abbrev frame : List ℕ
  frame = take frame_size t

  frame-six : length frame ≡ frame_size
  frame-six = length-take-le frame_size t (omega arith)

  -- the others
  rest-whole : frame_size * n ≤ length (drop frame_size t)
  rest-whole = simp length-drop (omega arith)

  module _ (h : Bytes t) where
    frame-bytes : Bytes frame
    frame-bytes = part_bytes t 0 frame_size h

    rest-bytes : Bytes (drop frame_size t)
    rest-bytes k l = rw (get_or-drop frame_size t k 0) (h (frame_size + k) (omega (arith, simp length-drop at l)))

    -- the first line holds the first frame
    lines-written : lines_of (encode (suc n) t) ≡ digits_of frame ∷ lines_of (encode n (drop frame_size t))
    unfolding encode line_of
    lines-written =
        rw (append_assoc (digits_of frame) (line_feed ∷ []) (encode n (drop frame_size t)))
        (digits-first (digits_of frame) (encode n (drop frame_size t)) (digits-read frame frame-bytes))

-- a question put to each line of a written file passes if it passes for the digits of every frame
pub each-written : (q : ℕ → List ℕ → Option Rejection)
    → ((i : ℕ) (frame : List ℕ) → length frame ≡ frame_size → Bytes frame → q i (digits_of frame) ≡ none)
    → (n i : ℕ) (t : List ℕ) → frame_size * n ≤ length t → Bytes t → each_line q i (lines_of (encode n t)) ≡ none
unfolding encode lines_of each_line
each-written q p zero i t w h = refl
each-written q p (suc n) i t w h =
    rw (lines-written n t w h)
    (passed-both _ _ (p i (take frame_size t) (frame-six n t w) (frame-bytes n t w h))
    (each-written q p n (i + 1) (drop frame_size t) (rest-whole n t w) (rest-bytes n t w h)))

-- the lines of n frames stand for them
decode-written : (n : ℕ) (t : List ℕ) → frame_size * n ≤ length t → Bytes t
    → decode (lines_of (encode n t)) ≡ take (frame_size * n) t
unfolding encode lines_of decode
decode-written zero t w h = refl
decode-written (suc n) t w h =
    let more : frame_size * suc n ≡ frame_size + frame_size * n = omega arith in
    rw (
      lines-written n t w h,
      bytes_back (take frame_size t) (frame-bytes n t w h),
      decode-written n (drop frame_size t) (rest-whole n t w) (rest-bytes n t w h),
      more,
    )
    (sym (take-add frame_size (frame_size * n) t))

-- byte k of line i is that of node i's line
line_at : (n : ℕ) (t : List ℕ) → frame_size * n ≤ length t → (i k : ℕ) → i < n → k < line_size
    → get_or (encode n t) (line_size * i + k) 0 ≡ get_or (line_of (take frame_size (drop (frame_size * i) t))) k 0
unfolding encode
line_at zero t w i k h l = absurd (omega arith)
line_at (suc n) t w zero k h l =
    let here : line_size * 0 + k ≡ k = omega arith in
    rw here
    (get_or-append (line_of (take frame_size t)) (encode n (drop frame_size t)) 0 k
    (omega (arith, line-size (take frame_size t) (frame-six n t w))))
line_at (suc n) t w (suc i) k h l =
    let first = line_of (take frame_size t) in
    let past : line_size * suc i + k ≡ length first + (line_size * i + k) =
    omega (arith, line-size (take frame_size t) (frame-six n t w)) in
    let more : frame_size + frame_size * i ≡ frame_size * suc i = omega arith in
    let later = line_at n (drop frame_size t) (rest-whole n t w) i k (omega arith) l in
    rw (past, get_or-append-add first (encode n (drop frame_size t)) (line_size * i + k) 0)
    (rw (drop-drop (frame_size * i) frame_size t, more) at later)

module _ (t : List ℕ) (accepted : Accepted t) where
  -- a written file has 13 bytes for each node
  pub written-length : length (file_of t) ≡ line_size * frames t
  written-length = file-length t accepted

  whole : frame_size * frames t ≤ length t
  whole = omega (arith, (accepted-stated t accepted).whole)

  -- the frame of node i
  abbrev node-frame : ℕ → List ℕ
  node-frame i = take frame_size (drop (frame_size * i) t)

  node-six : (i : ℕ) → i < frames t → length (node-frame i) ≡ frame_size
  node-six i h = simp (length-take, length-drop) (omega arith)

  module _ (bytes : Bytes t) where
    capital-at : (i k : ℕ) → i < frames t → k < line_digits
        → is_capital_digit (get_or (file_of t) (line_size * i + k) 0) ≡ true
    unfolding line_of
    capital-at i k h l =
        let many : length (digits_of (node-frame i)) ≡ line_digits =
        digits-length (node-frame i) ∙ omega (arith, node-six i h) in
        rw (
          line_at (frames t) t whole i k h (omega arith),
          get_or-append (digits_of (node-frame i)) (line_feed ∷ []) 0 k (omega arith),
        )
        (digits-capital (node-frame i) (part_bytes t (frame_size * i) frame_size bytes) k (omega (arith, node-six i h)))

    -- every line of a written file is closed, and every letter is a capital
    pub written-capitals : InCapitals (file_of t) (frames t)
    written-capitals =
        record {
          size = written-length;
          capitals = capital-at;
          closed = λ i h.
              line_at (frames t) t whole i line_digits h (omega arith) ∙ line-feed (node-frame i) (node-six i h);
        }

    -- a written file holds the table
    pub written-decoded : decoded (file_of t) ≡ t
    written-decoded =
        decode-written (frames t) t whole bytes
        ∙ take_all (frame_size * frames t) t (omega (arith, (accepted-stated t accepted).whole))

    -- a written file is accepted
    pub written-accepted : AcceptedFile (file_of t)
    written-accepted =
        table-accepted (file_of t)
        (each-written line_check3 (λ i frame six h. yes-ask _ _ _ (frame-line frame six h)) (frames t) 0 t whole bytes)
        (each-written line_check16 (λ i frame six h. rw (digits-large frame h)) (frames t) 0 t whole bytes)
        (rw written-decoded accepted)

    -- reading a written file into any table with room restores the table exactly, and keeps what lies past it
    pub written_read : (table : List ℕ) → length t ≤ length table
        → read_outcome (file_of t) table ≡ Ok (frames t) leaving (t ++ drop (length t) table)
    written_read table room =
        accepted-read (file_of t) table written-accepted (rw written-decoded (omega arith))
        ∙ ap (λ x. Ok (frames x) leaving (x ++ drop (length x) table)) written-decoded

-- two accepted tables give one file only if they are equal
pub written_once : (t u : List ℕ) → Accepted t → Bytes t → Accepted u → Bytes u → file_of t ≡ file_of u → t ≡ u
written_once t u a h b k e = sym (written-decoded t a h) ∙ ap decoded e ∙ written-decoded u b k
