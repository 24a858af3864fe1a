use Rattle.std.proofs.Common.{◌∷◌, ◌++◌, [], List, ℕ, refl, sym, ◌∙◌, ap, subst, append_assoc}
use Rattle.proof_checker.specs.Place.{AtHeader}
use Rattle.proof_checker.specs.Verdict.{lines, AreAnswered}
use Rattle.proof_checker.proofs.checker.check.Goals as goal

pub loop-line-init : goal.loop-line-init
loop-line-init c = ([], c.in_ok-checker.ensures, refl)

pub line-requires : goal.line-requires
line-requires c = (c.args.system.now, c.args.cost, c.loop-line.invariant.0, c.loop-line.invariant.1)

pub loop-line-preserved : goal.loop-line-preserved
loop-line-preserved c =
    let fed = c.loop-line.invariant.0 in (
      fed ++ c.in-Some.line.now ∷ [],
      c.in_ok-line.ensures.read c.args.system.now c.args.cost fed c.loop-line.invariant.1,
      c.loop-line.invariant.2 ∙ ap (λ (ls : List (List ℕ)). fed ++ ls) c.in-Some.ensures.0 ∙ sym (append_assoc fed (c.in-Some.line.now ∷ []) (lines c.in-Some.behind.now)),
    )

pub returns : goal.returns
returns c =
    let fed = c.loop-line.invariant.0 in
    let whole = c.loop-line.invariant.2 ∙ ap (λ (ls : List (List ℕ)). fed ++ ls) c.in_default.ensures in
    subst (λ (ls : List (List ℕ)). AreAnswered c.args.system.now c.args.cost AtHeader 1 ls c.end.result) (sym whole) (c.end.ensures c.args.system.now c.args.cost fed c.loop-line.invariant.1)
