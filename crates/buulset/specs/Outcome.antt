-- What an exported call leaves: the outcome of the call that it makes, with its answer flat.
use Rattle.table.specs.Rejection.{Outcome, ◌leaving◌}
use Rattle.buulset_answers.specs.declared.Answer.{Answer}

-- an outcome with its answer made flat; what the call leaves stays the same
abbrev pub flat_by : {A B : Type 0} → (A → Answer) → Outcome A B → Outcome Answer B
flat_by f o = f o.answer leaving o.left
