-- `search::run` meets its contract: the positions, what the method's engine finds, and the certificate of a value.
use Rattle.prelude.proofs.{◌≡◌, ap, ◌∙◌, List, ℕ, arith, w32, to_z-of_z, to_z, of_z, rules}
use Rattle.table.specs.{WellFormed, ◌leaving◌}
use Rattle.table_positions.proofs.Positions.{positioned}
use Rattle.certificate_write.specs.{marks_of, listed}
use Rattle.methods.specs.declared.Method.{Method}
use Rattle.methods.specs.declared.Method.TheVariants.{AlphaBeta, Mtd, MtdFrom, Sss}
use Rattle.methods.specs.declared.Answer.{Answer}
use Rattle.methods.specs.declared.Answer.TheVariants.{Found}
use Rattle.methods.specs.{evaluated_by, beyond, answer_by, lent, given_by, certified_flags}
use Rattle.methods.proofs.Certifying.{certifies}
use Rattle.search.proofs.run.Goals as goal

-- the answer r that is given is the engine's, a, and the certificate is made of its marks
concluded : (t : List ℕ) → WellFormed t → (m : Method) (b c o : List ℕ) (a r : Answer) (e e' c' o' : List ℕ) → r ≡ a
    → a ≡ answer_by (beyond m t) m t → e ≡ marks_of (evaluated_by m t) t b → o' ≡ listed (evaluated_by m t) o → e' ≡ e
    → c' ≡ certified_flags a t e c → r leaving lent e' c' o' ≡ given_by m t (lent b c o)
concluded t wf m b c o a r e e' c' o' same answer marks order kept flags =
    ap (λ x. x leaving lent e' c' o') same ∙ certifies t wf m b c o a e e' c' o' answer marks order kept flags

pub conclude-requires : goal.conclude-requires
conclude-requires c = record {
  well_formed = (
    c.requires.well_formed,
    positioned _ c.requires.well_formed _ c.requires.well_formed.at_most c.fill.ensures,
  );
  table_in_bounds =
      (omega (arith, c.requires.table_in_bounds.0), c.requires.table_in_bounds.1);
}

pub conclude-requires-in-Mtd : goal.conclude-requires-in-Mtd
conclude-requires-in-Mtd c = record {
  well_formed = (
    c.requires.well_formed,
    positioned _ c.requires.well_formed _ c.requires.well_formed.at_most c.fill.ensures,
  );
  table_in_bounds =
      (omega (arith, c.requires.table_in_bounds.0), c.requires.table_in_bounds.1);
}

pub conclude-requires-in-MtdFrom : goal.conclude-requires-in-MtdFrom
conclude-requires-in-MtdFrom c = record {
  well_formed = (
    c.requires.well_formed,
    positioned _ c.requires.well_formed _ c.requires.well_formed.at_most c.fill.ensures,
  );
  table_in_bounds =
      (omega (arith, c.requires.table_in_bounds.0), c.requires.table_in_bounds.1);
}

pub find-answer-requires : goal.find-answer-requires
find-answer-requires c = record {
  well_formed = (
    c.requires.well_formed,
    positioned _ c.requires.well_formed _ c.requires.well_formed.at_most c.fill.ensures,
  );
  table_in_bounds =
      (c.requires.table_in_bounds.0, c.requires.table_in_bounds.2);
}

pub conclude-requires-in-Sss : goal.conclude-requires-in-Sss
conclude-requires-in-Sss c = record {
  well_formed = (
    c.requires.well_formed,
    positioned _ c.requires.well_formed _ c.requires.well_formed.at_most c.fill.ensures,
  );
  table_in_bounds =
      (omega (arith, c.requires.table_in_bounds.0), c.requires.table_in_bounds.1);
}

pub returns-in-AlphaBeta : goal.returns-in-AlphaBeta
returns-in-AlphaBeta c = rw c.in-AlphaBeta.is
    (concluded _ c.requires.well_formed AlphaBeta c.args.evaluated.now c.args.certificate.now c.args.order.now _
    _ _ _ _ _
    c.conclude.ensures.value (ap Found c.find-findings.ensures.value) c.find-findings.ensures.evaluated_after
    c.find-findings.ensures.order_after c.conclude.ensures.evaluated_unchanged c.conclude.ensures.certificate_after)

pub returns-in-Mtd : goal.returns-in-Mtd
returns-in-Mtd c = rw c.in-Mtd.is
    (concluded _ c.requires.well_formed Mtd c.args.evaluated.now c.args.certificate.now c.args.order.now _ _ _ _ _ _
    c.conclude-in-Mtd.ensures.value (ap Found c.find-findings-in-Mtd.ensures.value)
    c.find-findings-in-Mtd.ensures.evaluated_after c.find-findings-in-Mtd.ensures.order_after
    c.conclude-in-Mtd.ensures.evaluated_unchanged c.conclude-in-Mtd.ensures.certificate_after)

pub returns-in-MtdFrom : goal.returns-in-MtdFrom
returns-in-MtdFrom c =
    -- the start is passed on as it is
    let k : to_z w32 (of_z w32 c.in-MtdFrom.start) ≡ c.in-MtdFrom.start =
    to_z-of_z w32 c.in-MtdFrom.start (record { sfits = search rules }) in
    let f = rw k at c.find-findings-in-MtdFrom.ensures.value in
    let m = rw k at c.find-findings-in-MtdFrom.ensures.evaluated_after in
    let o = rw k at c.find-findings-in-MtdFrom.ensures.order_after in
    rw c.in-MtdFrom.is
    (concluded _ c.requires.well_formed (MtdFrom c.in-MtdFrom.start) c.args.evaluated.now c.args.certificate.now
    c.args.order.now _ _ _ _ _ _
    c.conclude-in-MtdFrom.ensures.value (ap Found f) m o c.conclude-in-MtdFrom.ensures.evaluated_unchanged
    c.conclude-in-MtdFrom.ensures.certificate_after)

pub returns-in-Sss : goal.returns-in-Sss
returns-in-Sss c = rw c.in-Sss.is
    (concluded _ c.requires.well_formed (Sss c.in-Sss.allowance) c.args.evaluated.now c.args.certificate.now
    c.args.order.now _ _ _ _ _ _
    c.conclude-in-Sss.ensures.value c.find-answer.ensures.value c.find-answer.ensures.evaluated_after
    c.find-answer.ensures.order_after c.conclude-in-Sss.ensures.evaluated_unchanged
    c.conclude-in-Sss.ensures.certificate_after)
