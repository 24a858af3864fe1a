-- The parts of flat memory stay as they are when literals are put behind.
use Rattle.std.proofs.Common.{◌≡◌, ℕ, ◌≤◌, List, [], ◌∷◌, ◌++◌, length, drop, map, All, refl, sym, ap, ◌∙◌, arith}
use Rattle.std.proofs.lemmas.List.{map-append, take-append-le, take_all, drop_at}
use Rattle.std.proofs.lemmas.List.Elements.{All-head, All-tail}
use Rattle.std.proofs.lemmas.Slice.{between_is}
use Rattle.mix_system.specs.declared.literal.Lit.{Lit}
use Rattle.clause_search.specs.declared.store.Span.{Span}
use Rattle.clause_search.specs.Flat.{part}

abbrev IsSpan : List Lit → Span → Type 0
IsSpan lits span = (span.from ≤ span.to) × (span.to ≤ length lits)

part-append : (lits more : List Lit) (span : Span) → IsSpan lits span → part (lits ++ more) span ≡ part lits span
part-append lits more span h =
    between_is (lits ++ more) span.from span.to ∙ ap (drop span.from) (take-append-le span.to lits more h.1) ∙ sym (between_is lits span.from span.to)

pub parts-append : (lits more : List Lit) (spans : List Span) → All (IsSpan lits) spans → map (part (lits ++ more)) spans ≡ map (part lits) spans
parts-append lits more [] ok = refl
parts-append lits more (span ∷ spans) ok =
    let one = part-append lits more span (All-head (IsSpan lits) span spans ok) in
    let rest = parts-append lits more spans (All-tail (IsSpan lits) span spans ok) in
    rw (one, rest) refl

last_part : (lits more : List Lit) (from to : ℕ) → from ≡ length lits → to ≡ length (lits ++ more) → part (lits ++ more) (record { from = from; to = to }) ≡ more
last_part lits more from to e f =
    between_is (lits ++ more) from to ∙ ap (drop from) (take_all to (lits ++ more) (omega arith)) ∙ drop_at lits more from (sym e)

pub parts-push : (lits more : List Lit) (spans : List Span) (from to : ℕ) → from ≡ length lits → to ≡ length (lits ++ more) → All (IsSpan lits) spans → map (part (lits ++ more)) (spans ++ record { from = from; to = to } ∷ []) ≡ map (part lits) spans ++ more ∷ []
parts-push lits more spans from to e f ok =
    let last : Span = record { from = from; to = to } in
    map-append (part (lits ++ more)) spans (last ∷ [])
    ∙ ap (λ xs. xs ++ part (lits ++ more) last ∷ []) (parts-append lits more spans ok)
    ∙ ap (λ x. map (part lits) spans ++ x ∷ []) (last_part lits more from to e f)
