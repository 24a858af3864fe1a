use Rattle.std.proofs.Common.{List, [], ◌∷◌, ◌++◌, sym, ◌∙◌, subst, inr}
use Rattle.std.specs.Prelude.{Contains}
use Rattle.std.proofs.lemmas.Bool.{false≢true}
use Rattle.std.proofs.lemmas.List.Elements.{Contains-push}
use Rattle.mix_system.specs.declared.literal.Lit.{Lit}
use Rattle.mix_system.specs.Bounds.{IsIn}
use Rattle.mix_system.specs.Lit.{negation}
use Rattle.level_steps.specs.Level.{box_of}
use Rattle.level_search.specs.Kept.{level_of}
use Rattle.level_theories.specs.Theory.{IsExcluded, AreExcluded}
use Rattle.level_theories.proofs.ExcludedLaws.{term_on_trail, taken, taken_inner, excluded_more}
use Rattle.level_theories.proofs.excluded.exclude_lit.Goals as goal

pub is_true-requires : goal.is_true-requires
is_true-requires c = term_on_trail c.args.level.now c.requires.kept c.args.lit.term c.requires.term

pub negation-negation-requires : goal.negation-negation-requires
negation-negation-requires c =
    let it = c.args.level.now in
    let unsaid : ¬ IsIn (box_of (level_of it) it.steps.items) c.args.lit = λ said. false≢true (sym c.if-says.false ∙ c.says.ensures.1 said) in
    taken_inner it c.requires.kept c.args.lit c.requires.calm c.requires.exact (c.is_true.ensures.0 c.if-not-is_true.false) unsaid

pub returns-then-has-clause-covered : goal.returns-then-has-clause-covered
returns-then-has-clause-covered c =
    let lit = c.args.lit in
    let among = subst (Contains c.items.result.now) c.negation-negation.ensures (c.has.ensures.0 c.if-has.true) in
    inr (inr (subst (λ (xs : List Lit). Contains xs (negation lit)) c.items.ensures among))

pub returns-clause-lits : goal.returns-clause-lits
returns-clause-lits c =
    let it = c.args.level.now in
    let lits = c.args.lits.now in
    let negated = c.negation-negation.result in
    let unsaid : ¬ IsIn (box_of (level_of it) it.steps.items) c.args.lit = λ said. false≢true (sym c.if-says.false ∙ c.says.ensures.1 said) in
    let is = taken it c.requires.kept c.args.lit c.requires.exact (c.is_true.ensures.0 c.if-not-is_true.false) unsaid in
    let apart : ¬ Contains lits negated = λ among. false≢true (sym c.if-has.false ∙ c.has.ensures.1 (subst (λ (xs : List Lit). Contains xs negated) (sym c.items.ensures) among)) in
    subst (AreExcluded it) (sym c.in_ok-push.ensures.ok) (excluded_more it lits negated c.requires.lits (subst (IsExcluded it) (sym c.negation-negation.ensures) is) apart)

pub returns-clause-covered : goal.returns-clause-covered
returns-clause-covered c =
    let lits = c.args.lits.now in
    let negated = negation c.args.lit in
    inr (inr (subst (λ (xs : List Lit). Contains xs negated) (sym c.in_ok-push.ensures.ok)
    (subst (λ (l : Lit). Contains (lits ++ l ∷ []) negated) (sym c.negation-negation.ensures) (Contains-push lits negated))))
