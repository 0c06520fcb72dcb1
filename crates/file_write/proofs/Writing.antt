-- The loop that writes a file: what holds after n lines, and that each line, laid behind the ones before, keeps it.
use Rattle.prelude.proofs.{ℕ, zero, suc, ◌+◌, ◌*◌, ◌-◌, ◌≤◌, ◌<◌, ◌≡◌, refl, sym, ap, ◌∙◌, List, [], ◌++◌, append-nil}
use Rattle.prelude.proofs.{append_assoc, length, take, drop, length-append, length-drop, drop_of_length-le, take_all}
use Rattle.prelude.proofs.{take_at, drop_at, drop-drop, length-take-le, arith, add-one}
use Rattle.table.specs.{frame_size}
use Rattle.file_line.specs.{line_size}
use Rattle.file_write.specs.{line_of, encode}
use Rattle.file_write.proofs.Laying.{line-size}

-- each line takes thirteen bytes
pub encode-length : (n : ℕ) (t : List ℕ) → frame_size * n ≤ length t → length (encode n t) ≡ line_size * n
unfolding encode
encode-length zero t h = refl
encode-length (suc n) t h =
    let left : frame_size * n ≤ length (drop frame_size t) = simp length-drop (omega arith) in
    length-append (line_of (take frame_size t)) (encode n (drop frame_size t))
    ∙ omega (
      arith,
      line-size (take frame_size t) (length-take-le frame_size t (omega arith)),
      encode-length n (drop frame_size t) left,
    )

-- the last line stands behind the others
encode-last : (n : ℕ) (t : List ℕ)
    → encode (suc n) t ≡ encode n t ++ line_of (take frame_size (drop (frame_size * n) t))
unfolding encode
encode-last zero t = append-nil (line_of (take frame_size t))
encode-last (suc n) t =
    let next : frame_size + frame_size * n ≡ frame_size * suc n = omega arith in
    let i = encode-last n (drop frame_size t) in
    let j = rw (drop-drop (frame_size * n) frame_size t, next) at i in
    rw j (sym (append_assoc (line_of (take frame_size t)) (encode n (drop frame_size t)) _))

-- after n lines the file f begins with them, and holds past them what it held
pub record Writing (t f : List ℕ) (many : ℕ) (file : List ℕ) (n : ℕ) : Type 0 where
  pub at_most : n ≤ many
  pub size : length file ≡ length f
  pub lines : file ≡ encode n t ++ drop (line_size * n) f

module _ (t f : List ℕ) (many : ℕ) where
  -- before the first line
  pub writing-none : Writing t f many f 0
  unfolding encode
  writing-none = record { at_most = omega arith; size = refl; lines = refl }

  module _ (whole : frame_size * many ≤ length t) (room : line_size * many ≤ length f) (file : List ℕ) (n : ℕ)
      (w : Writing t f many file n) where
    -- past the last line
    pub writing-all : many ≤ n → file ≡ encode many t ++ drop (line_size * many) f
    writing-all h = let all : n ≡ many = omega (arith, w.at_most) in rw all at w.lines

    module _ (inside : n < many) where
      front : take (line_size * n) file ≡ encode n t
      front = rw w.lines (take_at (encode n t) _ (line_size * n) (encode-length n t (omega arith)))

      left : drop (line_size * n) file ≡ drop (line_size * n) f
      left = rw w.lines (drop_at (encode n t) _ (line_size * n) (encode-length n t (omega arith)))

      -- the lines and what is left, after one line more
      line-behind : (frame : List ℕ) → frame ≡ take frame_size (drop (frame_size * n) t)
          → encode n t ++ ((line_of frame ++ drop line_size (drop (line_size * n) f)) ++ [])
          ≡ encode (n + 1) t ++ drop (line_size * (n + 1)) f
      line-behind frame e =
          let next : line_size * n + line_size ≡ line_size * (n + 1) = omega arith in
          let last : encode (n + 1) t ≡ encode n t ++ line_of frame = rw (add-one n, e) (encode-last n t) in
          rw (append-nil, drop-drop line_size (line_size * n) f, next, last)
          (sym (append_assoc (encode n t) _ _))

      -- a line laid at the front of what is left of the file
      pub writing-next : (at : ℕ) (frame last : List ℕ) → at ≡ line_size * n
          → frame ≡ take frame_size (drop (frame_size * n) t)
          → last ≡ line_of frame ++ drop line_size (take (length file - at) (drop at file))
          → Writing t f many (take at file ++ (last ++ drop (length file - at) (drop at file))) (n + 1)
      writing-next at frame last place e g =
          let size : length (drop at file) ≤ length file - at = simp length-drop (omega arith) in
          let all = take_all (length file - at) (drop at file) size in
          let same : take at file ++ (last ++ drop (length file - at) (drop at file))
          ≡ encode (n + 1) t ++ drop (line_size * (n + 1)) f =
          rw (g, all, drop_of_length-le (drop at file) size, place, front, left) (line-behind frame e) in
          record {
            at_most = omega arith;
            size =
                ap length same
                ∙ simp (length-append, length-drop)
                (omega (arith, encode-length (n + 1) t (omega arith)));
            lines = same;
          }
