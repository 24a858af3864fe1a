use Rattle.std.proofs.Common.{◌∷◌, List, map, refl, inl, inr, sym, ◌∙◌, ap}
use Rattle.std.proofs.lemmas.Bool.{false≢true}
use Rattle.mix_system.specs.declared.literal.Lit.{Lit}
use Rattle.mix_system.specs.declared.farkas.FarkasPart.{FarkasPart}
use Rattle.open_levels.specs.Kept.{stage_of}
use Rattle.proof_checker.specs.Place.{after_leaf}
use Rattle.proof_checker.specs.Outcome.{GoesTo, LeafGives, multiple_of}
use Rattle.proof_checker.specs.Kept.{IsTheory, Comes}
use Rattle.proof_checker.proofs.ComesLaws.{comes_as, if_ok_as}
use Rattle.proof_checker.proofs.KeptLaws.{part_slots}
use Rattle.proof_checker.proofs.nodes.leaf.Goals as goal

pub are_in-requires : goal.are_in-requires
are_in-requires c = part_slots c.args.base.now c.args.theory c.requires.theory.0 _ c.requires.theory.1 (c.name_terms.ensures.0 c.if-not-name_terms.false)

pub combine-requires : goal.combine-requires
combine-requires c = record { clear = c.requires.clear; terms = c.name_terms.ensures.0 c.if-not-name_terms.false }

pub returns-then-not-name_terms-clause-gives : goal.returns-then-not-name_terms-clause-gives
returns-then-not-name_terms-clause-gives c = λ box boxes t.
    let are = ap (λ (ps : List FarkasPart). map multiple_of ps) c.items-parts.ensures ∙ c.in_ok-list.ensures in
    (_, are, inl (λ names. false≢true (sym c.if-not-name_terms.true ∙ c.name_terms.ensures.1 names), refl))

pub returns-then-not-are_in-clause-gives : goal.returns-then-not-are_in-clause-gives
returns-then-not-are_in-clause-gives c = λ box boxes t.
    let are = ap (λ (ps : List FarkasPart). map multiple_of ps) c.items-parts.ensures ∙ c.in_ok-list.ensures in
    let names = c.name_terms.ensures.0 c.if-not-name_terms.false in
    (_, are, inr (names, inl (λ within. false≢true (sym c.if-not-are_in.true ∙ (c.are_in.ensures box t.stand.0).1 within), refl)))

pub returns-in-TooLarge-clause-gives : goal.returns-in-TooLarge-clause-gives
returns-in-TooLarge-clause-gives c = λ box boxes t.
    let are = ap (λ (ps : List FarkasPart). map multiple_of ps) c.items-parts.ensures ∙ c.in_ok-list.ensures in
    let names = c.name_terms.ensures.0 c.if-not-name_terms.false in
    let within = (c.are_in.ensures box t.stand.0).0 c.if-not-are_in.false in
    (_, are, inr (names, inr (within, inl (c.in-TooLarge.excess, c.in-TooLarge.ensures.exact, refl))))

pub returns-in-NotZero-clause-gives : goal.returns-in-NotZero-clause-gives
returns-in-NotZero-clause-gives c = λ box boxes t.
    let are = ap (λ (ps : List FarkasPart). map multiple_of ps) c.items-parts.ensures ∙ c.in_ok-list.ensures in
    let names = c.name_terms.ensures.0 c.if-not-name_terms.false in
    let within = (c.are_in.ensures box t.stand.0).0 c.if-not-are_in.false in
    let exact = c.in-NotZero.ensures.exact in
    (_, are, inr (names, inr (within, inr (exact.0, inl (λ vanishes. exact.1.1 (vanishes exact.1.0), refl)))))

pub returns-in-NotContradictory-clause-gives : goal.returns-in-NotContradictory-clause-gives
returns-in-NotContradictory-clause-gives c = λ box boxes t.
    let are = ap (λ (ps : List FarkasPart). map multiple_of ps) c.items-parts.ensures ∙ c.in_ok-list.ensures in
    let names = c.name_terms.ensures.0 c.if-not-name_terms.false in
    let within = (c.are_in.ensures box t.stand.0).0 c.if-not-are_in.false in
    let exact = c.in-NotContradictory.ensures.exact in
    (_, are, inr (names, inr (within, inr (exact.0, inr (exact.1, inl (exact.2, refl))))))

pub returns-in-Refutes-clause-gives : goal.returns-in-Refutes-clause-gives
returns-in-Refutes-clause-gives c =
    let base = c.args.base.now in
    let theory = c.args.theory in
    let Goes : List (List Lit) → _ = λ boxes. GoesTo (after_leaf (stage_of theory.levels) theory.clause boxes) in
    let Gives : List Lit → List (List Lit) → _ = λ box boxes. LeafGives base.system.now (stage_of theory.levels) theory.clause box boxes c.args.multiples.now in
    let are = ap (λ (ps : List FarkasPart). map multiple_of ps) c.items-parts.ensures ∙ c.in_ok-list.ensures in
    let names = c.name_terms.ensures.0 c.if-not-name_terms.false in
    let exact = c.in-Refutes.ensures.exact in
    if_ok_as (λ f. (box : List Lit) (boxes : List (List Lit)) → IsTheory base theory (box ∷ boxes) → Comes base (Goes boxes) f)
    (λ f. (box : List Lit) (boxes : List (List Lit)) → IsTheory base theory (box ∷ boxes) → Comes base (Gives box boxes) f)
    (λ f comes box boxes t.
    let within = (c.are_in.ensures box t.stand.0).0 c.if-not-are_in.false in
    comes_as base (Goes boxes) (Gives box boxes) (λ o goes. (_, are, inr (names, inr (within, inr (exact.0, inr (exact.1, inr (exact.2, goes))))))) f (comes box boxes t)) c.refuted.result
    c.refuted.ensures
