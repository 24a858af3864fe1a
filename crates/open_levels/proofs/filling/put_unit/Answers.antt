use Rattle.std.proofs.Common.{List, sym, subst, arith}
use Rattle.mix_system.specs.declared.literal.Lit.{Lit}
use Rattle.box_check.specs.Bounds.{Stands}
use Rattle.box_check.proofs.BoundsLaws.{StaysHere_refl}
use Rattle.open_levels.specs.Adds.{Adds}
use Rattle.open_levels.proofs.AddsLaws.{Stands-same, adds_none}
use Rattle.open_levels.proofs.LevelLaws.{none_single}
use Rattle.open_levels.proofs.filling.put_unit.Goals as goal

pub returns-in_default-clause-adds : goal.returns-in_default-clause-adds
returns-in_default-clause-adds c =
    subst (λ (lits : List Lit). Adds lits c.args.bounds.now c.args.bounds.now) (sym (none_single c.args.clause.now (λ one. omega (arith, one, c.in_default.len_below)))) (adds_none Stands Stands-same c.args.bounds.now)

pub returns-in_default-2-clause-adds : goal.returns-in_default-2-clause-adds
returns-in_default-2-clause-adds c =
    subst (λ (lits : List Lit). Adds lits c.args.bounds.now c.args.bounds.now) (sym (none_single c.args.clause.now (λ one. omega (arith, one, c.in_default.len_at_least)))) (adds_none Stands Stands-same c.args.bounds.now)

pub returns-in_default-clause-stays : goal.returns-in_default-clause-stays
returns-in_default-clause-stays c = StaysHere_refl c.args.bounds.now

pub returns-in_default-2-clause-stays : goal.returns-in_default-2-clause-stays
returns-in_default-2-clause-stays c = StaysHere_refl c.args.bounds.now
