use Rattle.std.proofs.Common.{◌≡◌, ℕ, ◌<◌, ◌∙◌, true, false, length, get_or, Option, Some, None, refl, sym, inr, arith}
use Rattle.std.specs.Prelude.{is_some}
use Rattle.std.proofs.lemmas.Bool.{false≢true}
use Rattle.std.proofs.lemmas.List.{get_or_default}
use Rattle.bound_trail.specs.Edges.{blank_lit}
use Rattle.bound_trail.specs.Trail.{box}
use Rattle.clause_search.proofs.LookLaws.{seen_two, seen_false, seen_left, seen_within, seen_implied}
use Rattle.clause_search.proofs.look.look_at.Goals as goal

place_of_some : (left : Option ℕ) → is_some left ≡ true → (place : ℕ) × (left ≡ Some place)
place_of_some None e = absurd (false≢true e)
place_of_some (Some place) e = (place, refl)

none_of : (left : Option ℕ) → is_some left ≡ false → left ≡ None
none_of None e = refl
none_of (Some place) e = absurd (false≢true (sym e))

pub loop-at-preserved-then-is_false : goal.loop-at-preserved-then-is_false
loop-at-preserved-then-is_false c =
    let clause = c.args.clause.now in
    let at = c.loop-at.at in
    let lit = get_or clause at blank_lit in
    let within : at < length clause = omega arith in
    let same = get_or_default clause at blank_lit lit within in
    seen_false (box c.args.trail.now) clause at c.loop-at.left lit lit c.loop-at.invariant within same same
    (λ a. false≢true (sym c.if-is_true.false ∙ c.is_true.ensures.1 a)) (c.is_false.ensures.0 c.if-is_false.true)

pub returns-then-is_some : goal.returns-then-is_some
returns-then-is_some c =
    let clause = c.args.clause.now in
    let at = c.loop-at.at in
    let lit = get_or clause at blank_lit in
    let within : at < length clause = omega arith in
    let same = get_or_default clause at blank_lit lit within in
    let left = place_of_some c.loop-at.left (sym c.is_some.ensures ∙ c.if-is_some.true) in
    inr (seen_two (box c.args.trail.now) clause at c.loop-at.left left.0 lit left.1 c.loop-at.invariant within same (λ a. false≢true (sym c.if-is_false.false ∙ c.is_false.ensures.1 a)))

pub loop-at-preserved : goal.loop-at-preserved
loop-at-preserved c =
    let clause = c.args.clause.now in
    let at = c.loop-at.at in
    let lit = get_or clause at blank_lit in
    let within : at < length clause = omega arith in
    let same = get_or_default clause at blank_lit lit within in
    let none = none_of c.loop-at.left (sym c.is_some.ensures ∙ c.if-is_some.false) in
    seen_left (box c.args.trail.now) clause at c.loop-at.left lit lit none c.loop-at.invariant within same same
    (λ a. false≢true (sym c.if-is_true.false ∙ c.is_true.ensures.1 a)) (λ a. false≢true (sym c.if-is_false.false ∙ c.is_false.ensures.1 a))

pub returns-in-Some : goal.returns-in-Some
returns-in-Some c =
    let clause = c.args.clause.now in
    let place = c.in-Some.at in
    let lit = get_or clause place blank_lit in
    let all : c.loop-at.at ≡ length clause = omega arith in
    let within = seen_within (box c.args.trail.now) clause c.loop-at.at c.loop-at.left place c.in-Some.is c.loop-at.invariant in
    seen_implied (box c.args.trail.now) clause c.loop-at.at c.loop-at.left place lit c.in-Some.is all c.loop-at.invariant (get_or_default clause place blank_lit lit (omega arith))
