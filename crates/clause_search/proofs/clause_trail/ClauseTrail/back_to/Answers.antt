use Rattle.std.proofs.Common.{◌≡◌, ◌≤◌, ◌∙◌, length, take, ap}
use Rattle.std.proofs.lemmas.List.{length-take-le}
use Rattle.bound_trail.specs.Trail.{level_end}
use Rattle.clause_search.specs.Stored.{lists}
use Rattle.clause_search.proofs.ReasonLaws.{AreReasons-cut, level_end_within}
use Rattle.clause_search.proofs.clause_trail.ClauseTrail.back_to.Goals as goal

pub invariant_of-self : goal.invariant_of-self
invariant_of-self c =
    let it = c.self.inside in
    let level = c.args.level in
    let h : level ≤ length it.trail.levels = rw (← c.self.view_is) at c.requires in
    let end = level_end it.trail level in
    let within = level_end_within it.trail level c.self.invariant.trail in
    let lits = c.lits.ensures.lits in
    let back = c.back_to.ensures.back in
    let count : length c.lits.result.now ≡ end = rw (lits, back) (length-take-le end it.trail.lits within) in
    let reasons = c.truncate.ensures.items ∙ ap (λ n. take n it.reasons.items) count in
    record {
      trail = c.back_to.ensures.trail;
      clauses = rw back (record { each = c.self.invariant.clauses.each; few = c.self.invariant.clauses.few });
      reasons = rw (reasons, back) (AreReasons-cut (lists it) level it.reasons.items c.self.invariant.trail h c.self.invariant.reasons);
    }
