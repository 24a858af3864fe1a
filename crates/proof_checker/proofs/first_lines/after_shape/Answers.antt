use Rattle.std.proofs.Common.{refl, inl, inr, sym, ◌∙◌}
use Rattle.proof_checker.specs.Place.{AtGoal}
use Rattle.proof_checker.proofs.first_lines.after_shape.Goals as goal

pub returns-then-vars : goal.returns-then-vars
returns-then-vars c = rw c.other_system.ensures (inl (λ same. c.if-vars.true (same.0 ∙ sym c.vars.ensures.count), refl))

pub returns-then-clauses : goal.returns-then-clauses
returns-then-clauses c = rw c.other_system-then-clauses.ensures (inl (λ same. c.if-clauses.true (same.1 ∙ sym c.clauses.ensures.count), refl))

pub returns : goal.returns
returns c = (AtGoal, refl, inr ((c.if-vars.false ∙ c.vars.ensures.count, c.if-clauses.false ∙ c.clauses.ensures.count), refl))
