-- Saving a tree (02: N3), sentence by sentence: of the writer as it runs, or over the definition that its contract
-- cites. "Each line is laid behind the lines already written": `encode` in file_write/specs/Encoded.antt.
-- "Reading a written file restores the table exactly": `Written-Read` in Sentences.antt.
use Rattle.prelude.proofs.{ℕ, ◌*◌, ◌≤◌, ◌<◌, ◌≡◌, sym, ap, ◌∙◌, subst, List, length, take, Ok, Err}
use Rattle.table.specs.{frames, Accepted}
use Rattle.file_line.specs.{line_size}
use Rattle.file_read.specs.{AcceptedFile}
use Rattle.file_write.proofs as writer
use Rattle.file_write.specs.contracts as writer'
use Rattle.file_write.specs.{write_outcome}
use Rattle.file.specs.{InCapitals, Saved}
use Rattle.file.proofs.RoundTrip.{written-capitals, written-accepted}
use Rattle.file.proofs.Saving.{write-gives, write-short, write-saves, saved-once}
use Rattle.demands.specs.Runs.{Runs, function}
use Rattle.demands.specs.{RunBoth}
use Rattle.demands.proofs.Running.{follows, together}
use Rattle.demands.proofs.LentBytes.{writer-says}

module _ (t file : List ℕ) where
  -- "a writer from an accepted table to a file", "It gives the file's length in bytes": with room, there is a length
  pub length-given : Accepted t → line_size * frames t ≤ length file
      → (write_outcome t file).answer ≡ Ok (line_size * frames t)
  length-given = write-gives t file

  -- "A buffer shorter than 13 bytes a node gets 10"
  pub short-buffer : Accepted t → length file < line_size * frames t
      → (write_outcome t file).answer ≡ Err (record { number = 10; place = 0 })
  short-buffer = write-short t file

  -- only an accepted table gets a length; its file stands at the buffer's front, and "Bytes past the file keep their
  -- contents"
  pub file-laid : (n : ℕ) → (write_outcome t file).answer ≡ Ok n → Saved t file n
  file-laid = write-saves t file

-- "capital letters, a line feed after every line, the last included"
pub in-capitals : Runs writer'.write.ended (function writer.write.Symbol.name writer.write.Symbol.code)
    (λ κs (t, _) r (_, (b, _)). (n : ℕ) → r ≡ Ok n → InCapitals (take n b.now) (frames t.now))
in-capitals =
    follows writer-says (λ κs (t, (b, _)) r (_, (b', _)) (bytes, s) n i.
    let w = write-saves t.now b.now n (sym (ap (λ o. o.answer) s) ∙ i) in
    subst (λ f. InCapitals f (frames t.now)) (sym (ap (λ o. take n o.left) s ∙ w.front))
    (written-capitals t.now w.accepted bytes))

-- a written file is accepted
pub file-accepted : Runs writer'.write.ended (function writer.write.Symbol.name writer.write.Symbol.code)
    (λ κs _ r (_, (b, _)). (n : ℕ) → r ≡ Ok n → AcceptedFile (take n b.now))
file-accepted =
    follows writer-says (λ κs (t, (b, _)) r (_, (b', _)) (bytes, s) n i.
    let w = write-saves t.now b.now n (sym (ap (λ o. o.answer) s) ∙ i) in
    subst AcceptedFile (sym (ap (λ o. take n o.left) s ∙ w.front))
    (written-accepted t.now w.accepted bytes))

-- "and two tables give one file only if they are equal"
pub one-file : RunBoth writer'.write.ended writer'.write.ended
    (function writer.write.Symbol.name writer.write.Symbol.code)
    (function writer.write.Symbol.name writer.write.Symbol.code)
    (λ κs (t, _) r (_, (b, _)) κs' (u, _) q (_, (d, _)). (n m : ℕ) → r ≡ Ok n → q ≡ Ok m
    → take n b.now ≡ take m d.now → t.now ≡ u.now)
one-file =
    together writer-says writer-says
    (λ κs (t, (b, _)) r (_, (b', _)) (bytes, s) κs' (u, (d, _)) q (_, (d', _)) (bytes', c) n m i j same.
    saved-once t.now u.now b.now d.now n m (sym (ap (λ o. o.answer) s) ∙ i)
    (sym (ap (λ o. o.answer) c) ∙ j) bytes bytes'
    (sym (ap (λ o. take n o.left) s) ∙ same ∙ ap (λ o. take m o.left) c))
