-- A tree that is too deep, by each call (02: N2); for `deeper-refused` in Sentences.antt.
use Rattle.prelude.proofs.{ℕ, ◌<◌, ◌≡◌, ◌∙◌, none, some, List, Err}
use Rattle.table.specs.declared.Rejection.{Rejection}
use Rattle.table.specs.{max_depth, frames, depth_of, ◌and_then◌, check1, nodes_rejection, check8, checked, LowestDeep}
use Rattle.table.specs.{rejection_before9}
use Rattle.table.proofs.Stated.{both-passed, passed_then}
use Rattle.table.proofs.FirstNo.{deeper-frames, deeper-rejected}
use Rattle.file_line.specs.{decoded}
use Rattle.file_read.specs.{file_check2, file_check3, file_check16, file_rejection, read_rejection, read_outcome}
use Rattle.file_write.specs.{write_rejection}
use Rattle.certificate_write.specs.{search_rejection}
use Rattle.certificate_check.specs.{certificate_rejection}

-- 02, N2: "Deeper trees are answered with 9": a table by the check, by every search, by the check of certificates and
-- by the writer
pub deeper-answered : (t : List ℕ) → rejection_before9 t ≡ none → (k : ℕ) → k < frames t → max_depth < depth_of t k
    → (r : Rejection) × LowestDeep t r × (checked t ≡ Err r)
    × ((lengths : List ℕ) → search_rejection t lengths ≡ some r)
    × ((flags : List ℕ) → certificate_rejection t flags ≡ some r) × ((room : ℕ) → write_rejection t room ≡ some r)
unfolding certificate_rejection write_rejection
deeper-answered t e k l d =
    let p = deeper-rejected t e k l d in
    (p.0, p.2, rw p.1, λ _. rw p.1, λ _. rw p.1, λ _. rw p.1)

-- and a file by the reader
pub deeper-read : (f : List ℕ)
    → (check1 f and_then file_check2 f and_then file_check3 f and_then file_check16 f and_then nodes_rejection
    (decoded f)
    and_then check8 (decoded f)) ≡ none
    → (k : ℕ) → k < frames (decoded f) → max_depth < depth_of (decoded f) k
    → (r : Rejection) × LowestDeep (decoded f) r × ((table : List ℕ) → (read_outcome f table).answer ≡ Err r)
unfolding read_rejection file_rejection
deeper-read f e k l d =
    let a = both-passed (check1 f) _ e in
    let b = both-passed (file_check2 f) _ a.1 in
    let c = both-passed (file_check3 f) _ b.1 in
    let g = both-passed (file_check16 f) _ c.1 in
    let p = deeper-frames (decoded f) g.1 k l d in
    let q : file_rejection f ≡ some p.0 =
    passed_then (check1 f) _ a.0 ∙ passed_then (file_check2 f) _ b.0
    ∙ passed_then (file_check3 f) _ c.0 ∙ passed_then (file_check16 f) _ g.0 ∙ p.1 in
    (p.0, p.2, λ _. rw q)
