-- The bounds of the ranges, in their places.
use Rattle.std.proofs.Common.{◌≡◌, ℕ, ◌+◌, ◌*◌, ◌<◌, ◌≤◌, List, [], ◌∷◌, ◌++◌, length, get_or, Option, None, Some, ℤ, pos, sym, ap, ◌∙◌, ⊎_elim, arith}
use Rattle.std.proofs.lemmas.Bool.{cases_lt, cases_eq}
use Rattle.std.proofs.lemmas.List.{get_or_append_left, get_or_at, get_or_past, length-append, append_assoc}
use Rattle.mix_system.specs.declared.literal.Term.TheVariants.{Var, Row}
use Rattle.mix_system.specs.declared.literal.Side.{Side}
use Rattle.mix_system.specs.declared.literal.Side.TheVariants.{Le, Ge}
use Rattle.mix_system.specs.System.{System}
use Rattle.mix_system.specs.Bounds.{range_end}
use Rattle.bounded_simplex.specs.BoundPlaces.{side_place}
use Rattle.bounded_simplex.specs.StoredBounds.{AreEnds}

-- the ends of the first ranges stand in their places
abbrev pub RangesStand : List (ℤ × ℤ) → ℕ → List (Option ℤ) → Type 0
RangesStand ranges count ends =
    (var : ℕ) (side : Side) → var < count → get_or ends (2 * var + side_place side) None ≡ Some (range_end side (get_or ranges var (pos 0, pos 0)))

side_small : (side : Side) → side_place side < 2
side_small Le = omega arith
side_small Ge = omega arith

-- a pair that was put behind others
pub pair_before : (ends more : List (Option ℤ)) (low high : Option ℤ) → more ≡ ends ++ low ∷ high ∷ [] → (k : ℕ) → k < length ends → get_or more k None ≡ get_or ends k None
pair_before ends more low high is k within = ap (λ l. get_or l k None) is ∙ get_or_append_left ends (low ∷ high ∷ []) None k within

pub pair_low : (ends more : List (Option ℤ)) (low high : Option ℤ) → more ≡ ends ++ low ∷ high ∷ [] → (k : ℕ) → length ends ≡ k → get_or more k None ≡ low
pair_low ends more low high is k at = ap (λ l. get_or l k None) is ∙ get_or_at ends low (high ∷ []) None k at

pub pair_high : (ends more : List (Option ℤ)) (low high : Option ℤ) → more ≡ ends ++ low ∷ high ∷ [] → (k : ℕ) → length ends + 1 ≡ k → get_or more k None ≡ high
pair_high ends more low high is k at =
    ap (λ l. get_or l k None) (is ∙ sym (append_assoc ends (low ∷ []) (high ∷ []))) ∙ get_or_at (ends ++ low ∷ []) high [] None k (length-append ends (low ∷ []) ∙ at)

pub pair_count : (ends more : List (Option ℤ)) (low high : Option ℤ) → more ≡ ends ++ low ∷ high ∷ [] → length more ≡ length ends + 2
pair_count ends more low high is = ap length is ∙ length-append ends (low ∷ high ∷ [])

pub stand_more : (ranges : List (ℤ × ℤ)) (count : ℕ) (ends more : List (Option ℤ)) (range : ℤ × ℤ) → length ends ≡ 2 * count → range ≡ get_or ranges count (pos 0, pos 0) → more ≡ ends ++ Some range.0 ∷ Some range.1 ∷ []
    → RangesStand ranges count ends → RangesStand ranges (count + 1) more
stand_more ranges count ends more range long read is stand var side within =
    ⊎_elim (λ (lt : var < count). pair_before ends more _ _ is _ (omega (arith, long, side_small side)) ∙ stand var side lt)
    (λ (le : count ≤ var). let same : var ≡ count = omega arith in at_end side same) (cases_lt var count)
  where
    at_end : (side : Side) → var ≡ count → get_or more (2 * var + side_place side) None ≡ Some (range_end side (get_or ranges var (pos 0, pos 0)))
    at_end Ge same = pair_low ends more _ _ is _ (omega (arith, long, same)) ∙ ap (λ (r : ℤ × ℤ). Some r.0) (read ∙ ap (λ n. get_or ranges n (pos 0, pos 0)) (sym same))
    at_end Le same = pair_high ends more _ _ is _ (omega (arith, long, same)) ∙ ap (λ (r : ℤ × ℤ). Some r.1) (read ∙ ap (λ n. get_or ranges n (pos 0, pos 0)) (sym same))

pub stand_kept : (ranges : List (ℤ × ℤ)) (count row : ℕ) (ends more : List (Option ℤ)) → length ends ≡ 2 * (count + row) → more ≡ ends ++ None ∷ None ∷ [] → RangesStand ranges count ends → RangesStand ranges count more
stand_kept ranges count row ends more long is stand var side within = pair_before ends more None None is _ (omega (arith, long, side_small side)) ∙ stand var side within

pub none_kept : (least : ℕ) (ends more : List (Option ℤ)) → more ≡ ends ++ None ∷ None ∷ [] → ((k : ℕ) → least ≤ k → get_or ends k None ≡ None) → (k : ℕ) → least ≤ k → get_or more k None ≡ None
none_kept least ends more is none k above =
    ⊎_elim (λ (lt : k < length ends). pair_before ends more None None is k lt ∙ none k above)
    (λ (le : length ends ≤ k). ⊎_elim (λ same. pair_low ends more None None is k (sym same))
    (λ other. ⊎_elim (λ next. pair_high ends more None None is k (sym next)) (λ past. get_or_past more k None (omega (arith, pair_count ends more None None is))) (cases_eq k (length ends + 1)))
    (cases_eq k (length ends))) (cases_lt k (length ends))

pub first_ends : (system : System) (room : ℕ) (ends : List (Option ℤ)) → RangesStand system.ranges (length system.ranges) ends → ((k : ℕ) → 2 * length system.ranges ≤ k → get_or ends k None ≡ None)
    → AreEnds (record { system = system; changes = []; room = room }) ends
first_ends system room ends stand none (Var var) side exists = stand var side exists
first_ends system room ends stand none (Row row) side exists = none (2 * (length system.ranges + row) + side_place side) (omega arith)
