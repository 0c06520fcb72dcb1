-- "each public entry takes whatever bytes it is lent, stays inside them, finishes" (demand 1): each public function
-- asks nothing of its caller, and leaves what is said here of its arguments, its answer r and its parameters at exit,
-- which are marked '. This is the function's own contract, compared with it by computing: a contract that promises
-- less, or asks for something, is refused here. The theorems of the other files are about the definitions that are
-- cited here.
use Rattle.prelude.proofs.{◌≡◌, []}
use Rattle.table.specs.{◌leaving◌, checked, children_of, children_at}
use Rattle.methods.specs.{lent, search_outcome}
use Rattle.search.proofs as search
use Rattle.search.specs.contracts as search'
use Rattle.sss_states.proofs as sss_states
use Rattle.sss_states.specs.contracts as sss_states'
use Rattle.sss_states.specs.{blank}
use Rattle.sss.proofs as sss
use Rattle.sss.specs.contracts as sss'
use Rattle.sss.specs.{sss_outcome}
use Rattle.plain.proofs as plain
use Rattle.plain.specs.contracts as plain'
use Rattle.plain.specs.{plain_outcome}
use Rattle.graft.proofs as graft
use Rattle.graft.specs.contracts as graft'
use Rattle.graft.specs.{graft_outcome}
use Rattle.certificate_choice.proofs as certificate_choice
use Rattle.certificate_choice.specs.contracts as certificate_choice'
use Rattle.certificate_choice.specs.{choice, flags_by, pointer_by}
use Rattle.certificate_check.proofs as certificate_check
use Rattle.certificate_check.specs.contracts as certificate_check'
use Rattle.certificate_check.specs.{verdict}
use Rattle.best_line.proofs as best_line
use Rattle.best_line.specs.contracts as best_line'
use Rattle.best_line.specs.{line_outcome}
use Rattle.variation.proofs as variation
use Rattle.variation.specs.contracts as variation'
use Rattle.variation.specs.{principal_outcome}
use Rattle.leaf_value.proofs as leaf_value
use Rattle.leaf_value.specs.contracts as leaf_value'
use Rattle.leaf_value.specs.{least_value}
use Rattle.worst_fill.proofs as worst_fill
use Rattle.worst_fill.specs.contracts as worst_fill'
use Rattle.worst_fill.specs.{fill_outcome}
use Rattle.least_count.proofs as least_count
use Rattle.least_count.specs.contracts as least_count'
use Rattle.least_count.specs.{least_answer}
use Rattle.file_write.proofs as file_write
use Rattle.file_write.specs.contracts as file_write'
use Rattle.file_write.specs.{write_outcome}
use Rattle.file_convert.proofs as file_convert
use Rattle.file_convert.specs.contracts as file_convert'
use Rattle.file_convert.specs.{convert_outcome, length_printed, output_outcome}
use Rattle.file_read.proofs as file_read
use Rattle.file_read.specs.contracts as file_read'
use Rattle.file_read.specs.{read_outcome}
use Rattle.table_check.proofs as table_check
use Rattle.table_check.specs.contracts as table_check'
use Rattle.table.proofs as table
use Rattle.table.specs.contracts as table'
use Rattle.file_hex.proofs as file_hex
use Rattle.file_hex.specs.contracts as file_hex'
use Rattle.file_hex.specs.{digit_of}
use Rattle.file_line.proofs as file_line
use Rattle.file_line.specs.contracts as file_line'
use Rattle.file_line.specs.{line_at}
use Rattle.analysis.proofs as analysis
use Rattle.analysis.specs.contracts as analysis'
use Rattle.text.proofs as text
use Rattle.text.specs.contracts as text'
use Rattle.text.specs.{refused_line, text_of}
use Rattle.analysis.specs.Report as reports
use Rattle.demands.specs.Runs.{Runs, function}

-- the searches

pub search-search : Runs search'.search.ended (function search.search.Symbol.name search.search.Symbol.code)
    (λ κs (w, (t, (m, (f, (o, _))))) r (_, (_, (m', (f', (o', _))))). r leaving lent m'.now f'.now o'.now
    ≡ search_outcome w t.now (lent m.now f.now o.now))
search-search = record { meets = search.search.Met.met _ }

-- SSS* over a lent list of states
pub sss-search : Runs sss'.search.ended (function sss.search.Symbol.name sss.search.Symbol.code)
    (λ κs (t, (l, (m, (f, (o, (n, _)))))) r (_, (l', (m', (f', (o', _))))).
    r leaving lent m'.now f'.now o'.now leaving l'.now
    ≡ sss_outcome n t.now l.now (lent m.now f.now o.now))
sss-search = record { meets = sss.search.Met.met _ }

pub plain-search : Runs plain'.search.ended (function plain.search.Symbol.name plain.search.Symbol.code)
    (λ κs (t, (m, (f, _))) r (_, (m', (f', _))).
    r leaving lent m'.now f'.now [] ≡ plain_outcome t.now (lent m.now f.now []))
plain-search = record { meets = plain.search.Met.met _ }

-- an entry for a list of states to lend
pub sss-blank : Runs sss_states'.blank.ended (function sss_states.blank.Symbol.name sss_states.blank.Symbol.code)
    (λ κs x r e. r ≡ blank)
sss-blank = record { meets = sss_states.blank.Met.met _ }

-- the check of a table, of a certificate, its principal variation, that of a table, and the children of a node

pub tables-check : Runs table_check'.check.ended (function table_check.check.Symbol.name table_check.check.Symbol.code)
    (λ κs (t, _) r e. r ≡ checked t.now)
tables-check = record { meets = table_check.check.Met.met _ }

pub verify-check : Runs certificate_check'.check.ended (function certificate_check.check.Symbol.name
    certificate_check.check.Symbol.code)
    (λ κs (t, (f, _)) r e. r ≡ verdict t.now f.now)
verify-check = record { meets = certificate_check.check.Met.met _ }

pub variation-principal : Runs variation'.principal.ended (function variation.principal.Symbol.name
    variation.principal.Symbol.code)
    (λ κs (t, (f, (l, _))) r (_, (_, (l', _))). r leaving l'.now ≡ principal_outcome t.now f.now l.now)
variation-principal = record { meets = variation.principal.Met.met _ }

pub best-line-line : Runs best_line'.line.ended (function best_line.line.Symbol.name best_line.line.Symbol.code)
    (λ κs (t, (l, _)) r (_, (l', _)). r leaving l'.now ≡ line_outcome t.now l.now)
best-line-line = record { meets = best_line.line.Met.met _ }

pub frames-children : Runs table'.children.ended (function table.children.Symbol.name table.children.Symbol.code)
    (λ κs (t, (k, _)) r e. (r.now ≡ children_of t.now k) × (r.ref_ptr ≡ children_at t.ref_ptr t.now k))
frames-children = record { meets = table.children.Met.met _ }

-- files

pub treefile-digit : Runs file_hex'.digit.ended (function file_hex.digit.Symbol.name file_hex.digit.Symbol.code)
    (λ κs (b, _) r e. r ≡ digit_of b)
treefile-digit = record { meets = file_hex.digit.Met.met _ }

pub treefile-read-line : Runs file_line'.Cursor.read_line.ended
    (function file_line.Cursor.read_line.Symbol.name file_line.Cursor.read_line.Symbol.code)
    (λ κs (c, (f, _)) r e. r ≡ line_at f.now c.at)
treefile-read-line = record { meets = file_line.Cursor.read_line.Met.met _ }

pub treefile-read : Runs file_read'.read.ended (function file_read.read.Symbol.name file_read.read.Symbol.code)
    (λ κs (f, (t, _)) r (_, (t', _)). r leaving t'.now ≡ read_outcome f.now t.now)
treefile-read = record { meets = file_read.read.Met.met _ }

pub treefile-write : Runs file_write'.write.ended (function file_write.write.Symbol.name file_write.write.Symbol.code)
    (λ κs (t, (f, _)) r (_, (f', _)). r leaving f'.now ≡ write_outcome t.now f.now)
treefile-write = record { meets = file_write.write.Met.met _ }

pub convert-convert : Runs file_convert'.convert.ended (function file_convert.convert.Symbol.name
    file_convert.convert.Symbol.code)
    (λ κs (f, (b, _)) r (_, (b', _)). r leaving b'.now ≡ convert_outcome f.now b.now)
convert-convert = record { meets = file_convert.convert.Met.met _ }

pub convert-output : Runs file_convert'.output.ended (function file_convert.output.Symbol.name
    file_convert.output.Symbol.code)
    (λ κs (f, (b, _)) r (_, (b', _)). r leaving b'.now ≡ output_outcome f.now b.now)
convert-output = record { meets = file_convert.output.Met.met _ }

pub convert-length-printed : Runs file_convert'.length_printed.ended
    (function file_convert.length_printed.Symbol.name file_convert.length_printed.Symbol.code)
    (λ κs (p, _) r e. r ≡ length_printed p)
convert-length-printed = record { meets = file_convert.length_printed.Met.met _ }

pub report-write : Runs analysis'.write.ended (function analysis.write.Symbol.name analysis.write.Symbol.code)
    (λ κs (f, _) r e. r ≡ text_of (reports.report f.now))
report-write = record { meets = analysis.write.Met.met _ }

pub text-refused : Runs text'.refused.ended (function text.refused.Symbol.name text.refused.Symbol.code)
    (λ κs (q, _) r e. r ≡ text_of (refused_line q))
text-refused = record { meets = text.refused.Met.met _ }

-- the requests' own calls

pub graft-graft : Runs graft'.graft.ended (function graft.graft.Symbol.name graft.graft.Symbol.code)
    (λ κs (t, (k, (u, (b, _)))) r (_, (_, (_, (b', _)))). r leaving b'.now ≡ graft_outcome t.now k u.now b.now)
graft-graft = record { meets = graft.graft.Met.met _ }

pub leastvalue-least-value : Runs leaf_value'.least_value.ended
    (function leaf_value.least_value.Symbol.name leaf_value.least_value.Symbol.code)
    (λ κs (t, (k, (w, _))) r e. r ≡ least_value t.now k w)
leastvalue-least-value = record { meets = leaf_value.least_value.Met.met _ }

pub worstfill-fill : Runs worst_fill'.fill.ended (function worst_fill.fill.Symbol.name worst_fill.fill.Symbol.code)
    (λ κs (t, _) r (t', _). r leaving t'.now ≡ fill_outcome t.now)
worstfill-fill = record { meets = worst_fill.fill.Met.met _ }

pub leastcount-least-leaves : Runs least_count'.least_leaves.ended
    (function least_count.least_leaves.Symbol.name least_count.least_leaves.Symbol.code)
    (λ κs (w, (d, _)) r e. r ≡ least_answer w d)
leastcount-least-leaves = record { meets = least_count.least_leaves.Met.met _ }

pub shorter-choose : Runs certificate_choice'.choose.ended (function certificate_choice.choose.Symbol.name
    certificate_choice.choose.Symbol.code)
    (λ κs (t, (f, (s, _))) r e. r ≡ choice t.now f.now s.now)
shorter-choose = record { meets = certificate_choice.choose.Met.met _ }

pub shorter-select : Runs certificate_choice'.select.ended (function certificate_choice.select.Symbol.name
    certificate_choice.select.Symbol.code)
    (λ κs (t, (f, (s, _))) r e. (r.choice ≡ choice t.now f.now s.now)
    × (r.flags.now ≡ flags_by t.now f.now s.now r.choice)
    × (r.flags.ref_ptr ≡ pointer_by f.ref_ptr s.ref_ptr r.choice))
shorter-select = record { meets = certificate_choice.select.Met.met _ }
