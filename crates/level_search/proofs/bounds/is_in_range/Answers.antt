use Rattle.std.proofs.Common.{sym, subst}
use Rattle.mix_system.specs.declared.literal.Lit.{Lit}
use Rattle.mix_system.specs.Bounds.{Entails}
use Rattle.level_search.proofs.KeptLaws.{range_says, row_unsaid}
use Rattle.level_search.proofs.bounds.is_in_range.Goals as goal

pub returns-in_default : goal.returns-in_default
returns-in_default c = (λ e. absurd (cc e), λ said. absurd (row_unsaid c.args.system.now.ranges c.args.lit c.in_default.not-Var said))

pub returns : goal.returns
returns c =
    let lit = c.args.lit in
    let both = range_says c.args.system.now.ranges lit c.in-Var.var c.range.result c.in-Var.is c.range.ensures.range in (
      λ e. both.0 (subst (λ (bound : Lit). Entails bound lit) c.end_of.ensures (c.entails.ensures.0 e)),
      λ said. c.entails.ensures.1 (subst (λ (bound : Lit). Entails bound lit) (sym c.end_of.ensures) (both.1 said)),
    )
