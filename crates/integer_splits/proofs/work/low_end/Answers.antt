use Rattle.std.proofs.Common.{◌≡◌, None, Some, sym, ◌∙◌, rules}
use Rattle.mix_system.specs.declared.literal.Side.TheVariants.{Ge}
use Rattle.mix_system.specs.declared.literal.Term.TheVariants.{Var}
use Rattle.bounded_simplex.specs.InForce.{in_force}
use Rattle.bounded_simplex.proofs.EndLaws.{var_end}
use Rattle.integer_splits.proofs.work.low_end.Goals as goal

pub returns-in-None : goal.returns-in-None
returns-in-None c =
    let left = var_end c.args.bounds.now c.args.var Ge in
    let none : in_force c.args.bounds.now (Var c.args.var) Ge ≡ None = first_of (search rules, cc) in
    let both : Some left.bound ≡ None = sym left.is ∙ none in
    let no : ⊥ = cc in
    absurd no
