use Rattle.std.proofs.Common.{List, All, refl, subst, arith}
use Rattle.std.proofs.lemmas.List.{take_all}
use Rattle.std.proofs.lemmas.List.Elements.{All-more}
use Rattle.mix_system.specs.declared.farkas.FarkasPart.{FarkasPart}
use Rattle.proof_term.specs.Steps.{NamesTerm}
use Rattle.proof_checker.proofs.nodes.name_terms.Goals as goal

pub loop-part-preserved : goal.loop-part-preserved
loop-part-preserved c =
    let Named : FarkasPart → Type 0 = λ part. NamesTerm c.args.system.now part.lit in
    let named = subst Named c.part-item.is (c.has_term.ensures.0 c.if-not-has_term.false) in
    All-more Named c.args.parts.now c.loop-part.part-index c.part-item.result (omega arith) c.loop-part.invariant named

pub returns : goal.returns
returns c =
    let Named : List FarkasPart → Type 0 = λ parts. All (λ (part : FarkasPart). NamesTerm c.args.system.now part.lit) parts in
    (λ _. subst Named (take_all c.loop-part.part-index c.args.parts.now (omega arith)) c.loop-part.invariant, λ _. refl)
