use Rattle.std.proofs.Common.{◌≡◌, ◌<◌, List, [], ◌∷◌, length, get_or, Some, None, sym, ◌∙◌, ap, subst, ⊎_elim, arith}
use Rattle.std.proofs.lemmas.Bool.{cases_lt, false≢true}
use Rattle.std.proofs.lemmas.List.{get_or_default}
use Rattle.std.specs.Prelude.{slice_get}
use Rattle.mix_system.specs.declared.literal.Lit.{Lit}
use Rattle.mix_system.specs.Lit.{negation}
use Rattle.mix_system.specs.Bounds.{Entails}
use Rattle.bound_trail.specs.Edges.{blank_lit}
use Rattle.clause_search.proofs.MarkLaws.{same_clause}
use Rattle.level_steps.specs.Level.{available}
use Rattle.level_search.specs.Kept.{level_of}
use Rattle.level_search.specs.Local.{IsNumber}
use Rattle.level_theories.proofs.GoalLaws.{by_range, single_of}
use Rattle.level_theories.proofs.goal.single_against.Goals as goal

pub loop-at-preserved-then-not-excludes : goal.loop-at-preserved-then-not-excludes
loop-at-preserved-then-not-excludes c = λ k only below is entails.
    let store = c.args.level.now.search.store in
    let clause = c.clause.result.now in
    ⊎_elim (λ before. c.loop-at.invariant k only before is entails)
    (λ past. let last : k ≡ c.loop-at.at = omega arith in
    let here : slice_get store c.loop-at.at ≡ Some (only ∷ []) = subst (λ n. slice_get store n ≡ Some (only ∷ [])) last is in
    let same : clause ≡ only ∷ [] = same_clause store c.loop-at.at clause (only ∷ []) c.clause.ensures.lits here in
    let first : get_or clause 0 blank_lit ≡ only = ap (λ (lits : List Lit). get_or lits 0 blank_lit) same in
    absurd (false≢true (sym c.if-not-excludes.true ∙ c.excludes.ensures.1 (subst (λ (l : Lit). Entails c.args.goal (negation l)) (sym first) entails))))
    (cases_lt k c.loop-at.at)

pub returns-in-loop-at-clause-some : goal.returns-in-loop-at-clause-some
returns-in-loop-at-clause-some c =
    let it = c.args.level.now in
    let at = c.loop-at.at in
    let clause = c.clause.result.now in
    let clauses = available (level_of it) it.steps.items in
    let numbers = it.numbers.items in
    let single : clause ≡ get_or clause 0 blank_lit ∷ [] = single_of clause blank_lit (omega (arith, c.in-len1.len_at_least, c.in-len1.len_below)) in
    let within : at < length numbers = omega (arith, c.requires.kept.numbered.one_each, c.loop-at-test.true, c.clauses-at-end.ensures.count) in
    let number : get_or numbers at None ≡ Some c.in-Some.number = get_or_default numbers at None c.index.result.now within ∙ sym c.index.ensures ∙ c.in-Some.is in
    let named : slice_get clauses c.in-Some.number ≡ Some clause = subst (IsNumber clauses it.goal clause) number (c.requires.kept.numbered.each at clause c.clause.ensures.lits) in
    record {
      only = get_or clause 0 blank_lit;
      among = named ∙ ap Some single;
      excluded = c.excludes.ensures.0 c.if-not-excludes.false;
    }

pub returns-clause-none : goal.returns-clause-none
returns-clause-none c =
    by_range c.args.level.now c.requires.kept c.args.goal c.requires.goal
    (λ k only within is entails. c.loop-at.invariant k only (omega (arith, within, c.loop-at-test.false, c.clauses-at-end.ensures.count)) is entails) c.requires.broken
