-- The equation of a row of a system.
use Rattle.std.proofs.Common.{◌≡◌, ◌≢◌, ℕ, ◌<◌, List, [], ◌∷◌, ◌++◌, length, map, ℤ, pos, negsuc, ◌+ℤ◌, ◌*ℤ◌, All, refl, ap, ◌∙◌, subst, arith}
use Rattle.std.specs.Prelude.{AllPairs, unsigned_abs}
use Rattle.std.specs.Int.{◌∣◌}
use Rattle.std.proofs.lemmas.Int.{ints}
use Rattle.std.proofs.lemmas.List.{get_or-map, get_or_at, length-map, length-append}
use Rattle.std.proofs.lemmas.List.Elements.{All-push, All-map, All-weaker}
use Rattle.std.proofs.lemmas.List.Quantifiers.{all_pairs_push}
use Rattle.std.proofs.Math.Nat.{eq-one_of_dvd-one}
use Rattle.mix_system.specs.declared.row.Part.{Part}
use Rattle.mix_system.specs.Sum.{int_sum_by}
use Rattle.tableau_rows.specs.declared.entry.Entry.{Entry}
use Rattle.tableau_rows.specs.Equation.{total, unit, IsSolved}
use Rattle.tableau_rows.specs.Turning.{entry_of}
use Rattle.tableau_rows.proofs.TotalLaws.{total_push, unit_same, coefficient_none}

abbrev own_entry : ℕ → Entry
own_entry basic = record { column = basic; coeff = negsuc 0 }

-- what a row's parts and its own column add up to
pub parts_total : (number : ℕ → ℤ) (parts : List Part) → total number (map entry_of parts) ≡ int_sum_by (λ part. part.coeff *ℤ number part.var) parts
parts_total number [] = refl
parts_total number (part ∷ parts) = ap (λ z. part.coeff *ℤ number part.var +ℤ z) (parts_total number parts)

parts_rising : (parts : List Part) → AllPairs (λ part later. part.var < later.var) parts → AllPairs (λ entry later. entry.column < later.column) (map entry_of parts)
parts_rising parts rising i j d before within =
    let j_within : j < length parts = omega (arith, length-map parts entry_of) in
    let blank : Part = record { coeff = pos 0; var = 0 } in
    rw (get_or-map entry_of parts i blank d (omega arith), get_or-map entry_of parts j blank d j_within) (rising i j blank before j_within)

pub row_solved : (parts : List Part) (basic : ℕ) (entries : List Entry) → entries ≡ map entry_of parts ++ record { column = basic; coeff = negsuc 0 } ∷ []
    → All (λ part. part.var < basic) parts → AllPairs (λ part later. part.var < later.var) parts → All (λ part. part.coeff ≢ pos 0) parts → IsSolved basic (pos 1) entries
row_solved parts basic entries is known rising nonzero =
    rw is (record {
      sparse = record {
        rising = all_pairs_push (λ entry later. entry.column < later.column) (map entry_of parts) (own_entry basic) (parts_rising parts rising) (All-map (λ entry. entry.column < basic) entry_of parts known);
        nonzero = All-push (λ entry. entry.coeff ≢ pos 0) (map entry_of parts) (own_entry basic) (All-map (λ entry. entry.coeff ≢ pos 0) entry_of parts nonzero) (λ e. absurd (omega (arith, ints, e)));
      };
      reduced = λ d all. eq-one_of_dvd-one (subst (λ (x : Entry). d ∣ unsigned_abs x.coeff) (get_or_at (map entry_of parts) (own_entry basic) [] (own_entry basic) (length (map entry_of parts)) refl)
          (all (length (map entry_of parts)) (own_entry basic) (omega (arith, length-append (map entry_of parts) (own_entry basic ∷ [])))));
      positive = omega (arith, ints);
      solved =
          let none = coefficient_none (map entry_of parts) basic (All-map (λ entry. entry.column ≢ basic) entry_of parts (All-weaker (λ part. part.var < basic) (λ part. part.var ≢ basic) (λ part h same. absurd (omega arith)) parts known)) in
          let own = unit_same basic in
          total_push (unit basic) (map entry_of parts) (own_entry basic) ∙ omega (arith, ints, none, ap (λ u. negsuc 0 *ℤ u) own);
    })
