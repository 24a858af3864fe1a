use Rattle.std.proofs.Common.{◌≡◌, ◌+◌, Some, None, sym, ◌∙◌, subst}
use Rattle.ir_constants.specs.Constants.{constant_var}
use Rattle.ir_constants.proofs.ConstantLaws.{var_where}
use Rattle.ir_constants.proofs.constants.Constants.var_of.Goals as goal

pub returns-in-Some : goal.returns-in-Some
returns-in-Some c =
    let keys = c.self.inside.numbers.keys in
    let is = var_where c.args.number keys c.if-number-le1.false (Some c.in-Some.at) (sym c.get_index_of.ensures.index ∙ c.in-Some.is) in
    subst (λ constants. c.in-Some.at + 2 ≡ constant_var constants c.args.number) c.self.view_is is

pub returns-in-None : goal.returns-in-None
returns-in-None c =
    let keys = c.self.inside.numbers.keys in
    let is = var_where c.args.number keys c.if-number-le1.false None (sym c.get_index_of.ensures.index ∙ c.in-None.is) in
    subst (λ constants. 0 ≡ constant_var constants c.args.number) c.self.view_is is
