use Rattle.std.proofs.Common.{◌≡◌, ◌+◌, ◌<◌, [], ◌∷◌, ◌++◌, length, take, get_or, Some, sym, ap, subst, ◌∙◌, rules, arith}
use Rattle.std.specs.Prelude.{set}
use Rattle.std.proofs.lemmas.List.{take_more, length-set, length-take-le, map-append, get_or_default}
use Rattle.tableau_rows.specs.declared.equation.Equation.{Equation}
use Rattle.bounded_simplex.specs.Listing.{basis_of, ArePlaced}
use Rattle.bounded_simplex.specs.Refutation.{columns_of}
use Rattle.bounded_simplex.proofs.ListingLaws.{placed_more}
use Rattle.bounded_simplex.proofs.WithinLaws.{basic_known}
use Rattle.bounded_simplex.proofs.listing.list_basis.Goals as goal

pub loop-at-preserved : goal.loop-at-preserved
loop-at-preserved c =
    let rows = c.args.rows.now in
    let vars = length c.args.bounds.now.system.ranges in
    let i = c.loop-at.at in
    let row = get_or rows i c.index-rows-at.result in
    let inside : i < length rows = c.loop-at-test.true in
    let more = take_more rows i c.index-rows-at.result inside in
    let added : c.push.new.self.items ≡ c.loop-at.basis.items ++ c.term_at.result ∷ [] = search rules in
    let known = basic_known (columns_of c.args.bounds.now.system) rows i row.basic c.requires.known inside (λ d. ap (λ (x : Equation). x.basic) (get_or_default rows i c.index-rows-at.result d inside)) in
    let within : row.basic < length c.loop-at.places.items = omega (arith, known, c.loop-at.invariant.count) in
    let placed = placed_more (take i rows) (take (i + 1) rows) row c.loop-at.places.items more within c.loop-at.invariant.placed in
    let many : length (take i rows) ≡ i = length-take-le i rows (omega (arith, inside)) in
    record {
      basis = added ∙ ap (λ l. l ++ c.term_at.result ∷ []) c.loop-at.invariant.basis ∙ ap (λ t. basis_of vars (take i rows) ++ t ∷ []) c.term_at.ensures.term
          ∙ sym (ap (basis_of vars) more ∙ map-append _ (take i rows) (row ∷ []));
      count = length-set c.loop-at.places.items row.basic (Some i) ∙ c.loop-at.invariant.count;
      placed = subst (λ n. ArePlaced (take (i + 1) rows) (set c.loop-at.places.items row.basic (Some n))) many placed;
    }
