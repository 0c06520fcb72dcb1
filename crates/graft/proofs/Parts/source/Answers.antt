-- `graft::Parts::source` meets its contract: the sources below the second root are the first table's nodes.
use Rattle.prelude.proofs.{arith, ◌≡◌, sym, subst, ℕ, ◌-◌}
use Rattle.std.proofs.Common.{rules}
use Rattle.table.specs.{frames}
use Rattle.graft.specs.{SourceIn}
use Rattle.graft.proofs.Joined.{in_first, in_second}
use Rattle.graft.proofs.Parts.source.Goals as goal

pub returns-then-number-self : goal.returns-then-number-self
returns-then-number-self c =
    let root : c.args.self.now.root ≡ frames c.args.self.now.first.now = search rules in
    in_first _ _ _ c.requires (omega arith)

pub returns-else-number-self : goal.returns-else-number-self
returns-else-number-self c =
    let root : c.args.self.now.root ≡ frames c.args.self.now.first.now = search rules in
    let t = c.args.self.now.first.now in
    let u = c.args.self.now.second.now in
    let P : ℕ → Type 0 = λ r. SourceIn t u c.args.number u (c.args.number - r) r in
    subst P (sym root) (in_second _ _ _ c.requires (omega arith))
