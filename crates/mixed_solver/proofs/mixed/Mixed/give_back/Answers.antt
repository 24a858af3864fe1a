use Rattle.std.proofs.Common.{◌++◌, length, length-append, ap, sym, subst, List, arith}
use Rattle.std.proofs.lemmas.List.{take_at}
use Rattle.mix_system.specs.declared.literal.Lit.{Lit}
use Rattle.mix_system.specs.System.{System}
use Rattle.trail_bounds.specs.TrailBounds.{AreBoundsOf}
use Rattle.mixed_solver.proofs.mixed.Mixed.give_back.Goals as goal

pub returns-clause-bounds : goal.returns-clause-bounds
returns-clause-bounds c =
    let old = c.args.self.now.bounds in
    let lits = c.args.self.now.level.search.trail.lits in
    let (more, are) = c.requires.bounds in
    let own : AreBoundsOf old.system.now (lits ++ more) old = subst (λ (s : System). AreBoundsOf s (lits ++ more) old) (sym are.same) are in
    let same = ap length c.trail.ensures.lits in
    let fits = c.trail.ensures.trail.few_lits in
    let back = c.give_back.ensures.bounds (lits ++ more) own (omega (arith, length-append lits more, same, fits)) in
    subst (λ (s : System). AreBoundsOf s lits c.give_back.new.self) are.same
    (subst (λ (xs : List Lit). AreBoundsOf old.system.now xs c.give_back.new.self) (take_at lits more _ (omega (arith, same, fits))) back)
