use Rattle.std.proofs.Common.{[], refl, sym, ◌∙◌, rules, arith}
use Rattle.std.specs.Prelude.{Any}
use Rattle.std.proofs.lemmas.Bool.{false≢true}
use Rattle.std.proofs.lemmas.List.{take_all}
use Rattle.std.proofs.lemmas.List.Elements.{All-more, All-same}
use Rattle.std.proofs.lemmas.Option.{get_or_from_slice_get}
use Rattle.mix_system.specs.System.{IsWellFormed}
use Rattle.mix_system.specs.Fits.{IsTrueAt}
use Rattle.mix_system.proofs.SizeLaws.{calm_has_no_excess}
use Rattle.mix_system.proofs.WellFormedLaws.{All-slice_get}
use Rattle.mix_system.proofs.system.System.holds.Goals as goal

pub returns-in_err-has_true_literal-clause-calm : goal.returns-in_err-has_true_literal-clause-calm
returns-in_err-has_true_literal-clause-calm c = λ calm.
    let system = c.args.self.now in
    let well_formed : IsWellFormed system = search rules in
    absurd (calm_has_no_excess system c.args.point.now _ well_formed calm (c.if-not-is_in_ranges.ensures.0 refl) c.in_err-has_true_literal.ensures.excess)

pub returns-then-not-branch-clause-fits : goal.returns-then-not-branch-clause-fits
returns-then-not-branch-clause-fits c =
    let system = c.args.self.now in
    let met = c.in_ok-has_true_literal.ensures.met in (
      λ e. absurd (false≢true e),
      λ fits. sym c.if-not-branch.true ∙ met.1 (All-slice_get (Any (IsTrueAt system.rows c.args.point.now)) system.clauses _ _ c.clause.ensures.lits fits.clauses_hold),
    )

pub loop-at-preserved : goal.loop-at-preserved
loop-at-preserved c =
    let system = c.args.self.now in
    let met = c.in_ok-has_true_literal.ensures.met.0 c.if-not-branch.false in
    let here = get_or_from_slice_get system.clauses c.loop-at.at c.clause.result.now [] c.clause.ensures.lits in
    All-more (Any (IsTrueAt system.rows c.args.point.now)) system.clauses c.loop-at.at [] (omega arith) c.loop-at.invariant (rw here met)

pub returns-clause-fits : goal.returns-clause-fits
returns-clause-fits c =
    let system = c.args.self.now in (
      λ _. record {
        one_each = c.requires;
        in_ranges = c.if-not-is_in_ranges.ensures.0 refl;
        clauses_hold = All-same (Any (IsTrueAt system.rows c.args.point.now)) _ _ (sym (take_all c.loop-at.at system.clauses (omega arith))) c.loop-at.invariant;
      },
      λ _. refl,
    )
