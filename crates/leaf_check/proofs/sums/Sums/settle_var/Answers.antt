use Rattle.std.proofs.Common.{◌≢◌, ℤ, pos, of_z, ◌∙◌, ap}
use Rattle.std.specs.Int.{w128}
use Rattle.std.proofs.lemmas.List.{get_or_default}
use Rattle.mix_system.specs.Row.{number_at}
use Rattle.leaf_check.proofs.SettleLaws.{settled_other}
use Rattle.leaf_check.proofs.sums.Sums.settle_var.Goals as goal

pub returns : goal.returns
returns c =
    let numbers = c.args.self.now.numbers.items in
    let not_zero : number_at numbers c.args.var ≢ pos 0 = λ is_zero.
    c.if-index-eq0.false (ap (λ (n : ℤ). of_z w128 n) (c.index.ensures ∙ get_or_default numbers c.args.var c.index.result.now (pos 0) c.requires ∙ is_zero)) in
    settled_other numbers c.args.var c.requires not_zero
