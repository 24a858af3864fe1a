use Rattle.std.proofs.Common.{◌≡◌, ◌<◌, ℕ, [], ◌∷◌, ◌++◌, length, Option, None, Some, true, false, get_or, FitsSigned, refl, sym, ◌∙◌, rules, arith}
use Rattle.std.specs.Int.{w128}
use Rattle.std.specs.Prelude.{is_some}
use Rattle.std.proofs.lemmas.Bool.{false≢true}
use Rattle.std.proofs.lemmas.Int.{to_z-of_z}
use Rattle.mix_system.specs.Row.{number_at}
use Rattle.bounded_simplex.specs.Listing.{is_basic}
use Rattle.bounded_simplex.proofs.ListingLaws.{rest_more, rest_same, basic_at}
use Rattle.bounded_simplex.proofs.listing.list_rest.Goals as goal

some_of : (place : Option ℕ) → is_some place ≡ true → (at : ℕ) × (place ≡ Some at)
some_of None e = absurd (false≢true e)
some_of (Some at) e = (at, refl)

none_of : (place : Option ℕ) → is_some place ≡ false → place ≡ None
none_of None e = refl
none_of (Some at) e = absurd (false≢true (sym e))

pub loop-column-preserved : goal.loop-column-preserved
loop-column-preserved c =
    let rows = c.args.rows.now in
    let values = c.args.values.now in
    let column = c.loop-column.column in
    let rest = c.loop-column.rest.items in
    let inside : column < length c.args.places.now = omega (arith, c.requires.count, c.loop-column-test.true) in
    let none = none_of (get_or c.args.places.now column None) (sym c.is_some.ensures ∙ c.if-is_some.false) in
    let outside : is_basic rows column ≡ false = (c.requires.placed column None inside).0 none in
    let fits : FitsSigned w128 (number_at values column) = search rules in
    let added : c.push.new.self.items ≡ rest ++ number_at values column ∷ [] = first_of (search rules, search (rules, to_z-of_z)) in
    rest_more rows values rest c.push.new.self.items column (number_at values column) outside refl added c.loop-column.invariant

pub loop-column-preserved-then-is_some : goal.loop-column-preserved-then-is_some
loop-column-preserved-then-is_some c =
    let rows = c.args.rows.now in
    let column = c.loop-column.column in
    let inside : column < length c.args.places.now = omega (arith, c.requires.count, c.loop-column-test.true) in
    let (at, is) = some_of (get_or c.args.places.now column None) (sym c.is_some.ensures ∙ c.if-is_some.true) in
    let here = (c.requires.placed column None inside).1 at is in
    rest_same rows c.args.values.now c.loop-column.rest.items column (basic_at rows column at here.0 here.1) c.loop-column.invariant
