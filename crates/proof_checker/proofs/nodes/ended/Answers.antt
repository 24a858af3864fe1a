use Rattle.std.proofs.Common.{refl, ap}
use Rattle.proof_term.specs.Valid.{Stage}
use Rattle.open_levels.specs.Kept.{stage_of}
use Rattle.proof_checker.specs.Place.{AtStep}
use Rattle.proof_checker.specs.Outcome.{Next}
use Rattle.proof_checker.proofs.KeptLaws.{levels_back}
use Rattle.proof_checker.proofs.nodes.ended.Goals as goal

pub with_clause-requires : goal.with_clause-requires
with_clause-requires c = record {
  kept = levels_back c.args.base.now c.args.theory c.back_to.new.self c.requires (c.back_to.ensures c.requires.before c.requires.extends c.requires.mark);
  named = rw c.items.ensures c.requires.named;
}

pub returns : goal.returns
returns c =
    let stage = rw c.items.ensures at c.in_ok-later.ensures.stage in
    (AtStep (stage_of c.in_ok-later.later), (refl, c.in_ok-later.ensures.kept), ap (λ (s : Stage). Next (AtStep s)) stage)
