-- That what is laid names variables that exist, and no rows of others.
use Rattle.std.proofs.Common.{◌≡◌, ◌<◌, ◌≤◌, ◌+◌, ◌&&◌, ℕ, zero, suc, pos, eqb, leb, ltb, Bool, true, false, cond, List, [], ◌∷◌, ◌++◌, length, get_or, map, Option, Some, None, refl, arith}
use Rattle.std.specs.Prelude.{flat_map, zip}
use Rattle.std.specs.Option.{unwrap_or}
use Rattle.std.specs.Map.{lookup}
use Rattle.std.specs.List.{All, list_all, range_with_len}
use Rattle.std.proofs.lemmas.Bool.{cond_both}
use Rattle.std.proofs.lemmas.Bool.Decides.{nat_tests}
use Rattle.std.proofs.lemmas.List.Elements.{All-weaker}
use Rattle.mix_system.specs.declared.literal.Term.{Term}
use Rattle.mix_system.specs.declared.literal.Term.TheVariants.{Var, Row}
use Rattle.mix_system.specs.declared.literal.Lit.{Lit}
use Rattle.ll_tree.specs.declared.func.Param.{Param}
use Rattle.ll_tree.specs.declared.func.Range.{Range}
use Rattle.ll_tree.specs.declared.block.Case.{Case}
use Rattle.ll_tree.specs.declared.block.Instr.{Instr}
use Rattle.ll_tree.specs.declared.block.End.{End}
use Rattle.ll_tree.specs.declared.block.End.TheVariants as end
use Rattle.ll_tree.specs.declared.op.Op.{Op}
use Rattle.ll_tree.specs.declared.op.Op.TheVariants.{Bin, Cmp, Cast, Select, Abs, Assume}
use Rattle.ll_links.specs.declared.link.Source.{Source}
use Rattle.ll_links.specs.declared.link.Source.TheVariants as source
use Rattle.ll_verifier.specs.Sound.{SoundFunc}
use Rattle.wrap_rows.specs.declared.vars.ValueVars.{ValueVars}
use Rattle.wrap_rows.specs.Blocks.{equals}
use Rattle.wrap_rows.specs.Layout.{raised_term, raised, clause_from}
use Rattle.wrap_rows.specs.Normal.{clause_of}
use Rattle.wrap_rows.specs.Piece.{is_of_rows, names_own_rows}
use Rattle.wrap_rows.proofs.CaseLaws.{Each, Each-from_All}
use Rattle.wrap_rows.proofs.BlockLaws.{Each-append}
use Rattle.path_encoding.specs.declared.spots.ConstSpot.{ConstSpot}
use Rattle.path_encoding.specs.declared.spots.PathSpots.{PathSpots}
use Rattle.path_encoding.specs.Spots.{value_vars, constant_among, constant_var, source_vars, operand_vars, block_at, block_var, place_with, edge_to, edge_vars, case_vars, Exist}
use Rattle.path_encoding.specs.FlowRows.{flow_rows}
use Rattle.path_encoding.specs.Ends.{is_on, assume_clauses, assumes_at, ranged_clauses, return_clauses, branch_clauses, each_case, default_clause, switch_clauses, end_clauses, block_clauses}
use Rattle.path_encoding.specs.PathLayout.{start_clauses, flow_clauses, visit_clauses, path_layout}
use Rattle.path_encoding.proofs.LitLaws.{AreSaid, HasLits, start_each, visits_each}

-- ---- variables exist

pub get_or_holds : {X : Type 0} (P : X → Type 0) (xs : List X) (i : ℕ) (d : X) → Each P xs → P d → P (get_or xs i d)
get_or_holds P [] i d each here = here
get_or_holds P (x ∷ xs) zero d each here = each.0
get_or_holds P (x ∷ xs) (suc i) d each here = get_or_holds P xs i d each.1 here

-- What has the variables 0 and 1, the numbers of all values and the variables of all constants, has the number of each operand.
module _ (P : ℕ → Type 0) (zero_has : P 0) where
  found_has : {K : Type 0} (test : K → Bool) (pairs : List (K × ℕ)) → Each {X = K × ℕ} (λ pair. P pair.1) pairs → P (unwrap_or (lookup test pairs) 0)
  found_has test [] each = zero_has
  found_has test (pair ∷ pairs) each = cond_both (test pair.0) (Some pair.1) (lookup test pairs) (λ found. P (unwrap_or found 0)) (λ _. each.0) (λ _. found_has test pairs each.1)

  spots_have : (constants : List ConstSpot) → Each {X = ConstSpot} (λ spot. P spot.var) constants → Each {X = ℕ × ℕ} (λ pair. P pair.1) (map (λ (spot : ConstSpot). (spot.value, spot.var)) constants)
  spots_have [] each = tt
  spots_have (spot ∷ constants) each = (each.0, spots_have constants each.1)

  module _ (one_has : P 1) where
    low_has : (n : ℕ) → leb n 1 ≡ true → P n
    low_has zero few = zero_has
    low_has (suc zero) few = one_has
    low_has (suc (suc n)) few = absurd (grind (arith, nat_tests))

    constant_has : (constants : List ConstSpot) (n : ℕ) → Each {X = ConstSpot} (λ spot. P spot.var) constants → P (constant_var constants n)
    constant_has constants n each =
        cond_both (leb n 1) n (constant_among constants n) P (low_has n) (λ _. found_has (λ value. eqb value n) (map (λ (spot : ConstSpot). (spot.value, spot.var)) constants) (spots_have constants each))

    pub number_has : (spots : PathSpots) (source : Source) → All (λ value. P value.number) spots.values.items → All (λ spot. P spot.var) spots.constants.items → P (source_vars spots source).number
    number_has spots (source.Value id) values constants = get_or_holds (λ (value : ValueVars). P value.number) spots.values.items id.0 (value_vars 0 0) (Each-from_All (λ (value : ValueVars). P value.number) spots.values.items values) zero_has
    number_has spots (source.Const n) values constants = constant_has spots.constants.items n (Each-from_All (λ (spot : ConstSpot). P spot.var) spots.constants.items constants)
    number_has spots source.Poison values constants = zero_has

module _ (vars : ℕ) where
  abbrev IsKnown : ValueVars → Type 0
  IsKnown value = (value.number < vars) × (value.mark < vars)

  mark_known : (spots : PathSpots) (source : Source) → Exist vars spots → (source_vars spots source).mark < vars
  mark_known spots (source.Value id) exist =
      (get_or_holds IsKnown spots.values.items id.0 (value_vars 0 0) (Each-from_All IsKnown spots.values.items exist.values) (omega (arith, exist.numbers), omega (arith, exist.numbers))).1
  mark_known spots (source.Const n) exist = omega (arith, exist.numbers)
  mark_known spots source.Poison exist = omega (arith, exist.numbers)

  pub source_known : (spots : PathSpots) (source : Source) → Exist vars spots → ((source_vars spots source).number < vars) × ((source_vars spots source).mark < vars)
  source_known spots source exist = (
    number_has (λ (var : ℕ). var < vars) (omega (arith, exist.numbers)) (omega (arith, exist.numbers)) spots source
        (All-weaker IsKnown (λ (value : ValueVars). value.number < vars) (λ value known. known.0) spots.values.items exist.values) exist.constants,
    mark_known spots source exist,
  )

  pairs_known : {K : Type 0} (keys : List K) (known : List ℕ) → Each (λ var. var < vars) known → Each {X = K × ℕ} (λ pair. pair.1 < vars) (zip keys known)
  pairs_known [] known each = tt
  pairs_known (key ∷ keys) [] each = tt
  pairs_known (key ∷ keys) (var ∷ known) each = (each.0, pairs_known keys known each.1)

  pub edge_known : (it : SoundFunc) (spots : PathSpots) (at place : ℕ) → Exist vars spots → edge_to it spots at place < vars
  edge_known it spots at place exist =
      found_has (λ (var : ℕ). var < vars) (omega (arith, exist.numbers)) _ (edge_vars it spots) (pairs_known _ spots.edges.items (Each-from_All (λ (var : ℕ). var < vars) spots.edges.items exist.edges))

-- ---- clauses over variables alone

abbrev IsVar : Term → Type 0
IsVar (Var var) = Unit {0}
IsVar (Row row) = ⊥

abbrev pub OverVars : List (List Lit) → Type 0
OverVars clauses = Each (Each (λ lit. IsVar lit.term)) clauses

raised_same : (first : ℕ) (lits : List Lit) → Each (λ lit. IsVar lit.term) lits → map (raised first) lits ≡ lits
raised_same first [] each = refl
raised_same first (lit ∷ lits) each =
    let here = term_same lit.term each.0 in
    let rest = raised_same first lits each.1 in
    λ i. record { term = here i; side = lit.side; bound = lit.bound } ∷ rest i
  where
    term_same : (term : Term) → IsVar term → raised_term first term ≡ term
    term_same (Var var) is = refl
    term_same (Row row) is = absurd is

-- such clauses are laid as they are
pub laid_same : (first : ℕ) (clauses : List (List Lit)) → OverVars clauses → map (clause_from first) clauses ≡ map clause_of clauses
laid_same first [] each = refl
laid_same first (lits ∷ clauses) each = λ i. clause_of (raised_same first lits each.0 i) ∷ laid_same first clauses each.1 i

vars_of_rows : (rows : ℕ) (lits : List Lit) → Each (λ lit. IsVar lit.term) lits → list_all (λ lit. is_of_rows rows lit.term) lits ≡ true
vars_of_rows rows [] each = refl
vars_of_rows rows (lit ∷ lits) each = λ i. here lit.term each.0 i && vars_of_rows rows lits each.1 i
  where
    here : (term : Term) → IsVar term → is_of_rows rows term ≡ true
    here (Var var) is = refl
    here (Row row) is = absurd is

own_vars : (rows : ℕ) (clauses : List (List Lit)) → OverVars clauses → list_all (list_all (λ lit. is_of_rows rows lit.term)) clauses ≡ true
own_vars rows [] each = refl
own_vars rows (lits ∷ clauses) each = λ i. vars_of_rows rows lits each.0 i && own_vars rows clauses each.1 i

-- over variables alone are the clauses of the start and of blocks
vars_alone : HasLits (λ n. Unit {0}) (λ lit. IsVar lit.term)
vars_alone = record { off = λ var. tt; on = λ var. tt; up_to = λ var n said. tt; from_on = λ var n said. tt; below = λ var n said. tt; above = λ var n said. tt }

module _ (it : SoundFunc) (spots : PathSpots) where
  abbrev all_said : AreSaid it (λ n. Unit {0})
  all_said = record { ranges = λ range is. (tt, tt); values = λ at case there. tt }

  pub start_over : OverVars (start_clauses it spots)
  start_over = start_each it spots (λ n. Unit {0}) (λ lit. IsVar lit.term) vars_alone

  pub visits_over : OverVars (visit_clauses it spots)
  visits_over = visits_each it spots (λ n. Unit {0}) (λ lit. IsVar lit.term) vars_alone all_said

-- ---- the clauses name rows of their own

all_append : {X : Type 0} (p : X → Bool) (xs ys : List X) → list_all p xs ≡ true → list_all p ys ≡ true → list_all p (xs ++ ys) ≡ true
all_append p [] ys left right = right
all_append p (x ∷ xs) ys left right =
    (elim (p x) as (λ (b : Bool). (b && list_all p xs) ≡ true → (b && list_all p (xs ++ ys)) ≡ true) [
      | true ↦ λ rest. all_append p xs ys rest right
      | false ↦ λ none. absurd (cc none)
    ]) left

own_flows : (rows first count : ℕ) → first + count ≤ rows → list_all (list_all (λ lit. is_of_rows rows lit.term)) (flat_map (λ row. equals row (pos 0)) (range_with_len first count)) ≡ true
own_flows rows first zero few = refl
own_flows rows first (suc count) few =
    let here : ltb first rows ≡ true = grind (arith, nat_tests) in
    let rest = own_flows rows (first + 1) count (omega (arith, few)) in
    λ i. (here i && true) && ((here i && true) && rest i)

pub own_rows : (it : SoundFunc) (spots : PathSpots) → names_own_rows (path_layout it spots) ≡ true
own_rows it spots =
    let rows = length (flow_rows it spots) in
    let own = list_all (λ (lit : Lit). is_of_rows rows lit.term) in
    all_append own (start_clauses it spots) (flow_clauses rows ++ visit_clauses it spots) (own_vars rows (start_clauses it spots) (start_over it spots))
    (all_append own (flow_clauses rows) (visit_clauses it spots) (own_flows rows 0 rows (omega arith)) (own_vars rows (visit_clauses it spots) (visits_over it spots)))
