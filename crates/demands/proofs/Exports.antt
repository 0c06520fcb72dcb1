-- What the functions of the library for other languages promise: each asks nothing, and leaves what is said here of its
-- arguments, its answer r and its parameters at exit, which are marked '. It is the outcome of the call that it makes
-- (Contracts.antt), as numbers. As there, this is the function's own contract, compared with it by computing. They
-- are those of `buulset`; the exports of `buulset_c` call them, and have the same clauses.
use Rattle.prelude.proofs.{ℕ, ◌<◌, ◌≡◌, refl, sym, ap, ◌∙◌, List, [], length, get_or}
use Rattle.table.specs.{frames, ◌leaving◌, checked, children_of}
use Rattle.file_hex.specs.{digit_of}
use Rattle.file_line.specs.{line_at}
use Rattle.file_read.specs.{read_outcome}
use Rattle.file_write.specs.{write_outcome}
use Rattle.file_convert.specs.{convert_outcome, output_outcome}
use Rattle.methods.specs.declared.Method.{Method}
use Rattle.methods.specs.declared.Method.TheVariants.{AlphaBeta, Mtd, MtdFrom, Sss}
use Rattle.methods.specs.{Lent, lent, search_outcome}
use Rattle.plain.specs.{plain_outcome}
use Rattle.best_line.specs.{line_outcome}
use Rattle.certificate_check.specs.{verdict}
use Rattle.certificate_choice.specs.{choice, chosen_flags}
use Rattle.graft.specs.{graft_outcome}
use Rattle.leaf_value.specs.{least_value}
use Rattle.worst_fill.specs.{fill_outcome}
use Rattle.least_count.specs.{least_answer}
use Rattle.analysis.specs.Report as reports
use Rattle.text.specs.{refused_line, text_of}
use Rattle.buulset.proofs as buulset
use Rattle.buulset.specs.contracts as buulset'
use Rattle.buulset.specs.{version, flat_children, part_of, flat_by}
use Rattle.buulset_answers.specs.declared.Answer.{Answer}
use Rattle.buulset_answers.specs.{counted, valued, lined, moved}
use Rattle.buulset_flat.specs.{flat, flat_printed, flat_answer, flat_choice, flat_line, flat_text}
use Rattle.demands.specs.Runs.{Runs, function}
use Rattle.demands.specs.{RunBoth, Call, Given}
use Rattle.demands.proofs.Running.{together, Says}
use Rattle.demands.proofs.Views.{lengths, refused}
use Rattle.demands.proofs.Handed.{dominated}
use Rattle.demands.proofs.Numbers.{never-zero}

pub exported-version : Runs buulset'.buulset_version.ended (function buulset.buulset_version.Symbol.name
    buulset.buulset_version.Symbol.code)
    (λ κs x r e. r ≡ version)
exported-version = record { meets = buulset.buulset_version.Met.met _ }

-- files and tables

pub exported-read : Runs buulset'.buulset_read.ended (function buulset.buulset_read.Symbol.name
    buulset.buulset_read.Symbol.code)
    (λ κs (f, (t, _)) r (_, (t', _)). r leaving t'.now ≡ flat_by (flat counted) (read_outcome f.now t.now))
exported-read = record { meets = buulset.buulset_read.Met.met _ }

pub exported-read-line : Runs buulset'.buulset_read_line.ended
    (function buulset.buulset_read_line.Symbol.name buulset.buulset_read_line.Symbol.code)
    (λ κs (f, (k, _)) r e. r ≡ flat_line (line_at f.now k))
exported-read-line = record { meets = buulset.buulset_read_line.Met.met _ }

pub exported-digit : Runs buulset'.buulset_digit.ended (function buulset.buulset_digit.Symbol.name
    buulset.buulset_digit.Symbol.code)
    (λ κs (b, _) r e. r ≡ digit_of b)
exported-digit = record { meets = buulset.buulset_digit.Met.met _ }

pub exported-write : Runs buulset'.buulset_write.ended (function buulset.buulset_write.Symbol.name
    buulset.buulset_write.Symbol.code)
    (λ κs (t, (f, _)) r (_, (f', _)). r leaving f'.now ≡ flat_by (flat counted) (write_outcome t.now f.now))
exported-write = record { meets = buulset.buulset_write.Met.met _ }

pub exported-convert : Runs buulset'.buulset_convert.ended (function buulset.buulset_convert.Symbol.name
    buulset.buulset_convert.Symbol.code)
    (λ κs (f, (b, _)) r (_, (b', _)). r leaving b'.now ≡ flat_by (flat counted) (convert_outcome f.now b.now))
exported-convert = record { meets = buulset.buulset_convert.Met.met _ }

pub exported-capitals : Runs buulset'.buulset_capitals.ended (function buulset.buulset_capitals.Symbol.name
    buulset.buulset_capitals.Symbol.code)
    (λ κs (f, (b, _)) r (_, (b', _)). r leaving b'.now ≡ flat_by flat_printed (output_outcome f.now b.now))
exported-capitals = record { meets = buulset.buulset_capitals.Met.met _ }

pub exported-check : Runs buulset'.buulset_check.ended (function buulset.buulset_check.Symbol.name
    buulset.buulset_check.Symbol.code)
    (λ κs (t, _) r e. r ≡ flat counted (checked t.now))
exported-check = record { meets = buulset.buulset_check.Met.met _ }

pub exported-children : Runs buulset'.buulset_children.ended (function buulset.buulset_children.Symbol.name
    buulset.buulset_children.Symbol.code)
    (λ κs (t, (k, _)) r e. (r ≡ flat_children t.now k) × (children_of t.now k ≡ part_of t.now r))
exported-children = record { meets = buulset.buulset_children.Met.met _ }

-- searches

pub exported-alphabeta : Runs buulset'.buulset_alphabeta.ended
    (function buulset.buulset_alphabeta.Symbol.name buulset.buulset_alphabeta.Symbol.code)
    (λ κs (t, (m, (f, (o, _)))) r (_, (m', (f', (o', _)))). r leaving lent m'.now f'.now o'.now
    ≡ flat_by flat_answer (search_outcome AlphaBeta t.now (lent m.now f.now o.now)))
exported-alphabeta = record { meets = buulset.buulset_alphabeta.Met.met _ }

pub exported-mtd : Runs buulset'.buulset_mtd.ended (function buulset.buulset_mtd.Symbol.name
    buulset.buulset_mtd.Symbol.code)
    (λ κs (t, (m, (f, (o, _)))) r (_, (m', (f', (o', _)))). r leaving lent m'.now f'.now o'.now
    ≡ flat_by flat_answer (search_outcome Mtd t.now (lent m.now f.now o.now)))
exported-mtd = record { meets = buulset.buulset_mtd.Met.met _ }

pub exported-mtdf : Runs buulset'.buulset_mtdf.ended (function buulset.buulset_mtdf.Symbol.name
    buulset.buulset_mtdf.Symbol.code)
    (λ κs (t, (v, (m, (f, (o, _))))) r (_, (_, (m', (f', (o', _))))). r leaving lent m'.now f'.now o'.now
    ≡ flat_by flat_answer (search_outcome (MtdFrom v) t.now (lent m.now f.now o.now)))
exported-mtdf = record { meets = buulset.buulset_mtdf.Met.met _ }

pub exported-sss : Runs buulset'.buulset_sss.ended (function buulset.buulset_sss.Symbol.name
    buulset.buulset_sss.Symbol.code)
    (λ κs (t, (m, (f, (o, (n, _))))) r (_, (m', (f', (o', _)))). r leaving lent m'.now f'.now o'.now
    ≡ flat_by flat_answer (search_outcome (Sss n) t.now (lent m.now f.now o.now)))
exported-sss = record { meets = buulset.buulset_sss.Met.met _ }

pub exported-plain : Runs buulset'.buulset_plain.ended (function buulset.buulset_plain.Symbol.name
    buulset.buulset_plain.Symbol.code)
    (λ κs (t, (m, (f, _))) r (_, (m', (f', _))). r leaving lent m'.now f'.now []
    ≡ flat_by (flat moved) (plain_outcome t.now (lent m.now f.now [])))
exported-plain = record { meets = buulset.buulset_plain.Met.met _ }

-- what an export of a search is called with, gives and leaves, as a call of the search
exported-call : (w : Method) (t : List ℕ) (l l' : Lent) (r : Answer)
    → r leaving l' ≡ flat_by flat_answer (search_outcome w t l)
    → (c : Call) × (c.method ≡ w) × (c.table ≡ t) × (c.left ≡ l') × Says c × (r.refused ≡ 0 → Given c)
exported-call w t l l' r e =
    let o = search_outcome w t l in
    let c : Call = record { method = w; table = t; lent = l; answer = o.answer; left = o.left } in (
      c,
      refl,
      refl,
      sym (ap (λ x. x.left) e),
      refl,
      λ z q i. never-zero t (lengths l) q (refused c refl q i).0
          (sym (ap (λ x. x.answer.refused) e ∙ ap (λ a. (flat_answer a).refused) i) ∙ z),
    )

-- THE SENTENCE of the two exports: whenever `buulset_sss`, within any allowance, and `buulset_alphabeta` are called on
-- one table and neither is refused, each node that the first marks 1 the second marks 1 too
pub exported-sentence : RunBoth buulset'.buulset_sss.ended buulset'.buulset_alphabeta.ended
    (function buulset.buulset_sss.Symbol.name buulset.buulset_sss.Symbol.code)
    (function buulset.buulset_alphabeta.Symbol.name buulset.buulset_alphabeta.Symbol.code)
    (λ κs (t, _) r (_, (m, _)) κs' (u, _) q (_, (x, _)). u.now ≡ t.now → r.refused ≡ 0 → q.refused ≡ 0
    → (k : ℕ) → k < frames t.now → get_or m.now k 0 ≡ 1 → get_or x.now k 0 ≡ 1)
exported-sentence =
    together exported-sss exported-alphabeta
    (λ κs (t, (m, (f, (o, (n, _))))) r (_, (m', (f', (o', _)))) e.
    λ κs' (u, (x, (y, (z, _)))) q (_, (x', (y', (z', _)))) i same g h k l mark.
    let c = exported-call (Sss n) t.now (lent m.now f.now o.now) _ r e in
    let d = exported-call AlphaBeta u.now (lent x.now y.now z.now) _ q i in
    ap (λ v. get_or v.marks k 0) (sym d.3)
    ∙ (dominated c.0 d.0 c.4 d.4 d.1 (d.2 ∙ same ∙ sym c.2) (c.5 g) (d.5 h) k
    (record { node = rw c.2 l; mark = ap (λ v. get_or v.marks k 0) c.3 ∙ mark })).mark)

-- certificates

pub exported-line : Runs buulset'.buulset_line.ended (function buulset.buulset_line.Symbol.name
    buulset.buulset_line.Symbol.code)
    (λ κs (t, (l, _)) r (_, (l', _)). r leaving l'.now ≡ flat_by (flat lined) (line_outcome t.now l.now))
exported-line = record { meets = buulset.buulset_line.Met.met _ }

pub exported-verify : Runs buulset'.buulset_verify.ended (function buulset.buulset_verify.Symbol.name
    buulset.buulset_verify.Symbol.code)
    (λ κs (t, (f, _)) r e. r ≡ flat valued (verdict t.now f.now))
exported-verify = record { meets = buulset.buulset_verify.Met.met _ }

pub exported-shorter : Runs buulset'.buulset_shorter.ended (function buulset.buulset_shorter.Symbol.name
    buulset.buulset_shorter.Symbol.code)
    (λ κs (t, (f, (s, _))) r e.
    r ≡ flat_choice (choice t.now f.now s.now) (length (chosen_flags t.now f.now s.now)))
exported-shorter = record { meets = buulset.buulset_shorter.Met.met _ }

-- trees

pub exported-graft : Runs buulset'.buulset_graft.ended (function buulset.buulset_graft.Symbol.name
    buulset.buulset_graft.Symbol.code)
    (λ κs (t, (k, (u, (b, _)))) r (_, (_, (_, (b', _)))).
    r leaving b'.now ≡ flat_by (flat counted) (graft_outcome t.now k u.now b.now))
exported-graft = record { meets = buulset.buulset_graft.Met.met _ }

pub exported-least-value : Runs buulset'.buulset_least_value.ended
    (function buulset.buulset_least_value.Symbol.name buulset.buulset_least_value.Symbol.code)
    (λ κs (t, (k, (w, _))) r e. r ≡ flat valued (least_value t.now k w))
exported-least-value = record { meets = buulset.buulset_least_value.Met.met _ }

pub exported-fill : Runs buulset'.buulset_fill.ended (function buulset.buulset_fill.Symbol.name
    buulset.buulset_fill.Symbol.code)
    (λ κs (t, _) r (t', _). r leaving t'.now ≡ flat_by (flat counted) (fill_outcome t.now))
exported-fill = record { meets = buulset.buulset_fill.Met.met _ }

pub exported-least-leaves : Runs buulset'.buulset_least_leaves.ended
    (function buulset.buulset_least_leaves.Symbol.name buulset.buulset_least_leaves.Symbol.code)
    (λ κs (w, (d, _)) r e. r ≡ flat counted (least_answer w d))
exported-least-leaves = record { meets = buulset.buulset_least_leaves.Met.met _ }

-- texts

pub exported-report : Runs buulset'.buulset_report.ended (function buulset.buulset_report.Symbol.name
    buulset.buulset_report.Symbol.code)
    (λ κs (f, _) r e. r ≡ flat_text (text_of (reports.report f.now)))
exported-report = record { meets = buulset.buulset_report.Met.met _ }

pub exported-refused : Runs buulset'.buulset_refused.ended (function buulset.buulset_refused.Symbol.name
    buulset.buulset_refused.Symbol.code)
    (λ κs (q, (p, _)) r e. r ≡ flat_text (text_of (refused_line (record { number = q; place = p }))))
exported-refused = record { meets = buulset.buulset_refused.Met.met _ }
