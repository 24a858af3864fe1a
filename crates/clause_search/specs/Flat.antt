-- The clauses that flat memory means.
use Rattle.std.specs.Prelude.{◌≤◌, List, length, map, slice_range, All}
use Rattle.mix_system.specs.declared.literal.Lit.{Lit}
use Rattle.clause_search.specs.declared.store.Span.{Span}
use Rattle.clause_search.specs.declared.store.ClauseStore.TheInside.{Inside}

abbrev pub part : List Lit → Span → List Lit
part lits span = slice_range lits span.from span.to

abbrev pub clauses : Inside → List (List Lit)
clauses store = map (part store.lits.items) store.spans.items

abbrev pub AreSpans : Inside → Type 0
AreSpans store =
    All (λ span. (span.from ≤ span.to) × (span.to ≤ length store.lits.items)) store.spans.items
