use Rattle.std.proofs.Common.{◌≡◌, pos, sym, subst}
use Rattle.tableau_rows.specs.declared.equation.Equation.{Equation}
use Rattle.tableau_rows.specs.Substitution.{taken}
use Rattle.bounded_simplex.specs.Refutation.{columns_of}
use Rattle.bounded_simplex.proofs.WithinLaws.{entries_within}
use Rattle.bounded_simplex.proofs.simplex.Simplex.entering_for.Goals as goal

pub entering-requires-clause-known : goal.entering-requires-clause-known
entering-requires-clause-known c =
    let s = c.args.self.now in
    let row = c.index-equation.result.now in
    entries_within row (columns_of s.bounds.system) (λ column beyond. subst (λ (x : Equation). taken x column ≡ pos 0) (sym c.index-equation.ensures) (s.tableau_of.known c.args.broken.at row column c.requires beyond))
