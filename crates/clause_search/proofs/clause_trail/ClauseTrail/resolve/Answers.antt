use Rattle.std.proofs.Common.{◌≡◌, ◌∙◌, subst}
use Rattle.std.proofs.lemmas.List.{length-set}
use Rattle.std.proofs.lemmas.Option.{slice_get_within}
use Rattle.std.specs.List.{HoldsAt}
use Rattle.mix_system.specs.Follows.{LeavesOne}
use Rattle.bound_trail.specs.Trail.{box_with}
use Rattle.clause_search.specs.declared.marks.Mark.TheVariants.{Used}
use Rattle.clause_search.proofs.MarkLaws.{same_clause, lowest_used, resolve_one}
use Rattle.clause_search.proofs.clause_trail.ClauseTrail.resolve.Goals as goal

pub clause-requires : goal.clause-requires
clause-requires c =
    let reason = c.in-Some.ensures in
    slice_get_within c.args.self.now.store c.in-Some.number reason.0 reason.1

pub mark_causes-requires-clause-one_each : goal.mark_causes-requires-clause-one_each
mark_causes-requires-clause-one_each c = length-set c.args.marks.now.items c.args.at (Used c.in-Some.number) ∙ c.requires.marks.one_each

pub mark_causes-requires-clause-lowest : goal.mark_causes-requires-clause-lowest
mark_causes-requires-clause-lowest c =
    lowest_used c.args.start c.args.lowest c.args.at c.in-Some.number c.args.marks.now.items c.requires.within c.requires.apart c.requires.lowest

pub returns-clause-resolves : goal.returns-clause-resolves
returns-clause-resolves c =
    let state = c.args.self.now in
    let reason = c.in-Some.ensures in
    let clause = c.clause.result.now in
    let same : reason.0 ≡ clause = same_clause state.store c.in-Some.number reason.0 clause reason.1 c.clause.ensures.lits in
    resolve_one state c.args.at c.in-Some.number c.args.start c.args.lowest c.mark_causes.result clause c.args.marks.now.items c.mark_causes.new.marks.items
    c.clause.ensures.trail c.clause.ensures.clause.inner c.requires.seen c.requires.within c.clause.ensures.lits
    (subst (λ xs. HoldsAt (LeavesOne (box_with state.trail c.args.at) xs) state.trail.lits c.args.at) same reason.2) c.requires.marks c.mark_causes.ensures.marks
