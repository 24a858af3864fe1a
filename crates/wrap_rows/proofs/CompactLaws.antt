-- Compact systems are calm, and stay compact where pieces are added.
use Rattle.std.proofs.Common.{ℕ, zero, suc, ◌+◌, ◌*◌, ◌^◌, ◌<◌, ◌≤◌, ℤ, pos, List, [], ◌∷◌, ◌++◌, map, length, sym, subst, arith}
use Rattle.std.specs.Prelude.{All, fold, unsigned_abs, slice_index_or}
use Rattle.std.proofs.lemmas.Nat.{mul-le}
use Rattle.std.proofs.lemmas.List.Elements.{All-weaker, All-append, All-map}
use Rattle.std.proofs.lemmas.List.Sums.{sum_by-cons}
use Rattle.mix_system.specs.declared.literal.Lit.{Lit}
use Rattle.mix_system.specs.declared.row.Part.{Part}
use Rattle.mix_system.specs.Lit.{negation}
use Rattle.mix_system.specs.System.{System}
use Rattle.mix_system.specs.Calm.{IsCalm, range_size, part_size, row_size}
use Rattle.mix_system.specs.Calm.{IsSmall as IsBelow}
use Rattle.wrap_rows.specs.Normal.{sizes, with_part, row_of, with_lit, clause_of}
use Rattle.wrap_rows.specs.Layout.{Layout, raised, clause_from}
use Rattle.wrap_rows.specs.Piece.{Lays}
use Rattle.wrap_rows.specs.Small.{IsNarrow, IsShort, IsSmall, IsCompact}
use Rattle.wrap_rows.proofs.CaseLaws.{Each, Each-from_All, All-from_Each}
use Rattle.wrap_rows.proofs.SumLaws.{sizes-with_part}
use Rattle.wrap_rows.proofs.ClauseLaws.{with_lit-each}
use Rattle.wrap_rows.proofs.SmallLaws.{negated_size}

-- ---- the normal form

sizes-fold : (sum parts : List Part) → sizes (fold with_part sum parts) ≤ sizes sum + sizes parts
sizes-fold sum [] = omega arith
sizes-fold sum (part ∷ parts) = omega (arith, sizes-fold (with_part sum part) parts, sizes-with_part sum part)

-- a sum in normal form is no larger
sizes-row_of : (parts : List Part) → sizes (row_of parts) ≤ sizes parts
unfolding row_of
sizes-row_of parts = omega (arith, sizes-fold [] parts)

fold-each : (P : Lit → Type 0) (lits more : List Lit) → All P lits → Each P more → All P (fold with_lit lits more)
fold-each P lits [] each rest = each
fold-each P lits (lit ∷ more) each rest = fold-each P (with_lit lits lit) more (with_lit-each P lits lit each rest.0) rest.1

-- what holds of each literal holds of each in normal form
clause_of-each : (P : Lit → Type 0) (lits : List Lit) → Each P lits → All P (clause_of lits)
unfolding clause_of
clause_of-each P lits each = fold-each P [] lits (λ k d within. absurd (omega arith)) each

-- ---- the size of a row

narrow_at : (ranges : List (ℤ × ℤ)) (var : ℕ) → Each IsNarrow ranges → range_size (slice_index_or ranges var (pos 0, pos 0)) ≤ 2 ^ 32
narrow_at [] zero each = omega arith
narrow_at [] (suc var) each = omega arith
narrow_at (range ∷ ranges) zero each = each.0
narrow_at (range ∷ ranges) (suc var) each = narrow_at ranges var each.1

row_is_small : (ranges : List (ℤ × ℤ)) (parts : List Part) → Each IsNarrow ranges → row_size ranges parts ≤ sizes parts * 2 ^ 32
row_is_small ranges [] each = omega arith
row_is_small ranges (part ∷ parts) each =
    let size = unsigned_abs part.coeff in
    let here : part_size ranges part ≤ size * 2 ^ 32 = mul-le _ _ _ _ (omega arith) (narrow_at ranges part.var each) in
    omega (arith, here, row_is_small ranges parts each, sum_by-cons (part_size ranges) part parts)

each_coefficient : (parts : List Part) → sizes parts < 2 ^ 66 → Each (λ part. IsBelow part.coeff) parts
each_coefficient [] small = tt
each_coefficient (part ∷ parts) small = (omega (arith, small), each_coefficient parts (omega (arith, small)))

-- ---- a literal and its negation

below_both : (lit : Lit) → IsShort lit → IsBelow lit.bound × IsBelow (negation lit).bound
below_both lit short = (omega (arith, short), omega (arith, short, negated_size lit.side lit.bound))

-- ---- calm

pub compact-calm : (system : System) → IsCompact system → IsCalm system
compact-calm system compact = record {
  ends = All-weaker IsNarrow (λ range. IsBelow range.0 × IsBelow range.1) (λ range narrow. (omega (arith, narrow), omega (arith, narrow))) system.ranges compact.ranges;
  coefficients = All-weaker (λ parts. sizes parts < 2 ^ 66) (All (λ part. IsBelow part.coeff)) (λ parts small. All-from_Each (λ part. IsBelow part.coeff) parts (each_coefficient parts small)) system.rows compact.rows;
  bounds = All-weaker (All IsShort) (All (λ lit. IsBelow lit.bound × IsBelow (negation lit).bound)) (λ lits short. All-weaker IsShort (λ lit. IsBelow lit.bound × IsBelow (negation lit).bound) below_both lits short) system.clauses compact.bounds;
  sums = All-weaker (λ parts. sizes parts < 2 ^ 66) (λ parts. row_size system.ranges parts < 2 ^ 100) (λ parts small. omega (arith, small, row_is_small system.ranges parts (Each-from_All IsNarrow system.ranges compact.ranges))) system.rows compact.rows;
}

-- ---- and compact again

pub compact-declared : (system : System) (more : List (ℤ × ℤ)) → IsCompact system → All IsNarrow more → IsCompact (record system { ranges = system.ranges ++ more })
compact-declared system more compact narrow = record {
  ranges = All-append IsNarrow system.ranges more compact.ranges narrow;
  rows = compact.rows;
  bounds = compact.bounds;
}

laid_rows : (rows : List (List Part)) → All (λ parts. sizes parts < 2 ^ 66) rows → All (λ parts. sizes parts < 2 ^ 66) (map row_of rows)
laid_rows rows small =
    All-map (λ parts. sizes parts < 2 ^ 66) row_of rows
    (All-weaker (λ parts. sizes parts < 2 ^ 66) (λ parts. sizes (row_of parts) < 2 ^ 66) (λ parts less. omega (arith, less, sizes-row_of parts)) rows small)

laid_clause : (first : ℕ) (lits : List Lit) → All IsShort lits → All IsShort (clause_from first lits)
laid_clause first lits short = clause_of-each IsShort (map (raised first) lits) (Each-from_All IsShort (map (raised first) lits) (All-map IsShort (raised first) lits short))

laid_clauses : (first : ℕ) (clauses : List (List Lit)) → All (All IsShort) clauses → All (All IsShort) (map (clause_from first) clauses)
laid_clauses first clauses short =
    All-map (All IsShort) (clause_from first) clauses
    (All-weaker (All IsShort) (λ lits. All IsShort (clause_from first lits)) (λ lits each. laid_clause first lits each) clauses short)

pub compact-laid : (layout : Layout) (old new : System) → IsCompact old → IsSmall layout → Lays layout old new → IsCompact new
compact-laid layout old new compact small lays =
    subst IsCompact (sym lays) (record {
      ranges = compact.ranges;
      rows = All-append (λ parts. sizes parts < 2 ^ 66) old.rows (map row_of layout.rows) compact.rows (laid_rows layout.rows small.rows);
      bounds = All-append (All IsShort) old.clauses (map (clause_from (length old.rows)) layout.clauses) compact.bounds (laid_clauses (length old.rows) layout.clauses small.bounds);
    })
