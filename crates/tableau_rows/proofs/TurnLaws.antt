-- Entries whose signs are turned.
use Rattle.std.proofs.Common.{◌≡◌, ◌≢◌, ℕ, zero, suc, ◌+◌, ◌<◌, List, [], ◌∷◌, ◌++◌, length, get_or, take, map, Bool, true, false, ℤ, pos, negsuc, neg_ℤ, ◌+ℤ◌, ◌*ℤ◌, ◌≤ℤ◌, refl, ap, ◌∙◌, subst, arith}
use Rattle.std.specs.Prelude.{unsigned_abs}
use Rattle.std.specs.Int.{◌∣◌}
use Rattle.std.proofs.lemmas.Int.{ints}
use Rattle.std.proofs.lemmas.List.{get_or-map, length-map, take_more, map-append}
use Rattle.tableau_rows.specs.declared.entry.Entry.{Entry}
use Rattle.tableau_rows.specs.Equation.{total, unit, coefficient, IsSparse, IsReduced, IsSolved}
use Rattle.tableau_rows.specs.declared.equation.Equation.{Equation}
use Rattle.tableau_rows.specs.Substitution.{IsMultiple}
use Rattle.tableau_rows.specs.Turning.{turned_number, turned_entry}
use Rattle.tableau_rows.proofs.RingLaws.{neg-mul}

pub turned_sums : (turn : Bool) (entries : List Entry) (number : ℕ → ℤ) → total number (map (turned_entry turn) entries) ≡ turned_number turn (total number entries)
turned_sums true [] number = refl
turned_sums true (e ∷ entries) number = omega (arith, ints, turned_sums true entries number, neg-mul e.coeff (number e.column))
turned_sums false [] number = refl
turned_sums false (e ∷ entries) number = ap (λ z. e.coeff *ℤ number e.column +ℤ z) (turned_sums false entries number)

turned_nonzero : (turn : Bool) (z : ℤ) → z ≢ pos 0 → turned_number turn z ≢ pos 0
turned_nonzero true z nonzero e = nonzero (omega (arith, ints, e))
turned_nonzero false z nonzero e = nonzero e

turned_size : (turn : Bool) (z : ℤ) → unsigned_abs (turned_number turn z) ≡ unsigned_abs z
turned_size true (pos zero) = refl
turned_size true (pos (suc n)) = refl
turned_size true (negsuc n) = refl
turned_size false z = refl

turned_at : (turn : Bool) (entries : List Entry) (k : ℕ) (d : Entry) → k < length entries → get_or (map (turned_entry turn) entries) k d ≡ turned_entry turn (get_or entries k d)
turned_at turn entries k d within = get_or-map (turned_entry turn) entries k d d within

pub turned_sparse : (turn : Bool) (entries : List Entry) → IsSparse entries → IsSparse (map (turned_entry turn) entries)
turned_sparse turn entries sparse = record {
  rising = λ i j d before within.
      let j_within : j < length entries = omega (arith, length-map entries (turned_entry turn)) in
      rw (turned_at turn entries i d (omega arith), turned_at turn entries j d j_within) (sparse.rising i j d before j_within);
  nonzero = λ k d within.
      let k_within : k < length entries = omega (arith, length-map entries (turned_entry turn)) in
      rw (turned_at turn entries k d k_within) (turned_nonzero turn _ (sparse.nonzero k d k_within));
}

pub turned_reduced : (turn : Bool) (entries : List Entry) → IsReduced entries → IsReduced (map (turned_entry turn) entries)
turned_reduced turn entries reduced d all =
    reduced d (λ k e within.
    subst (λ n. d ∣ n) (ap (λ (x : Entry). unsigned_abs x.coeff) (turned_at turn entries k e within) ∙ turned_size turn (get_or entries k e).coeff) (all k e (omega (arith, length-map entries (turned_entry turn)))))

pub turned_solved : (turn : Bool) (entries made : List Entry) (column : ℕ) (denominator : ℤ) → made ≡ map (turned_entry turn) entries → IsSparse entries → IsReduced entries
    → pos 1 ≤ℤ denominator → turned_number turn (coefficient entries column) ≡ neg_ℤ denominator → IsSolved column denominator made
turned_solved turn entries made column denominator is sparse reduced positive solved =
    rw is (record {
      sparse = turned_sparse turn entries sparse;
      reduced = turned_reduced turn entries reduced;
      positive = positive;
      solved = turned_sums turn entries (unit column) ∙ solved;
    })

pub turned_more : (turn : Bool) (entries : List Entry) (i : ℕ) (d : Entry) → i < length entries → map (turned_entry turn) (take (i + 1) entries) ≡ map (turned_entry turn) (take i entries) ++ turned_entry turn (get_or entries i d) ∷ []
turned_more turn entries i d within = ap (map (turned_entry turn)) (take_more entries i d within) ∙ map-append (turned_entry turn) (take i entries) (get_or entries i d ∷ [])

-- the sums are turned as a whole
pub turned_multiple : (turn : Bool) (equation new : Equation) → new.entries.items ≡ map (turned_entry turn) equation.entries.items → IsMultiple new equation
turned_multiple true equation new is = record {
  factor = negsuc 0;
  factor_nonzero = λ e. absurd (omega (arith, ints, e));
  sums = λ number. ap (total number) is ∙ turned_sums true equation.entries.items number ∙ omega (arith, ints);
}
turned_multiple false equation new is = record {
  factor = pos 1;
  factor_nonzero = λ e. absurd (omega (arith, ints, e));
  sums = λ number. ap (total number) is ∙ turned_sums false equation.entries.items number ∙ omega (arith, ints);
}
