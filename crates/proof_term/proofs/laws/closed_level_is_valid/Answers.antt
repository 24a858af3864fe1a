use Rattle.std.proofs.Common.{◌≡◌, ℤ, length, inl, refl, sym, subst}
use Rattle.mix_system.specs.declared.literal.Term.{Term}
use Rattle.proof_term.specs.declared.step.Step.TheVariants.{Enter}
use Rattle.proof_term.specs.Partial.{Run, run_start, run_after, run_to, StandsLocally, IsPart}
use Rattle.proof_term.proofs.PartialLaws.{closed_part, goal_is_below}
use Rattle.proof_term.proofs.laws.closed_level_is_valid.Goals as goal

pub returns : goal.returns
returns c = λ system cost portions first outer inner term bound pending last finds valid stands count ended.
    let parts = valid.levels.1 in
    let same = goal_is_below term parts.1 bound parts.2 parts.3 in
    let ended_outer = run_to (run_start system first) outer in
    let opens = subst (λ (t : Term). StandsLocally system cost portions (length finds) ended_outer (Enter t bound)) (sym same.0)
    (subst (λ (b : ℤ). StandsLocally system cost portions (length finds) ended_outer (Enter parts.1 b)) (sym same.1) parts.4) in
    let within = subst (λ (t : Term). IsPart system cost portions (length finds) 1 (run_after ended_outer (Enter t bound)) inner) (sym same.0)
    (subst (λ (b : ℤ). IsPart system cost portions (length finds) 1 (run_after ended_outer (Enter parts.1 b)) inner) (sym same.1) parts.5.0) in
    record {
      levels = (valid.levels.0, (closed_part system cost portions (length finds) 0 (run_start system first) outer inner term bound last parts.0 opens within stands count ended, inl refl));
      rising = valid.rising;
      finds_of = valid.finds_of;
    }
