-- The variables of constants, and that each counted constant has its own.
use Rattle.std.proofs.Common.{◌≡◌, ◌⊎◌, inl, inr, ◌+◌, ◌<◌, ℕ, zero, suc, Bool, true, false, cond, not, ◌||◌, eqb, ltb, leb, List, [], ◌∷◌, ◌++◌, length, get_or, fold, Option, Some, None, refl, sym, ◌∙◌, ap, subst, arith}
use Rattle.std.specs.Prelude.{Contains, flat_map}
use Rattle.std.specs.Option.{unwrap_or, option_map}
use Rattle.std.specs.List.{list_any, position, position_or_len, prefix_len}
use Rattle.std.specs.Map.{lookup}
use Rattle.std.proofs.lemmas.Bool.{false≢true}
use Rattle.std.proofs.lemmas.Bool.Decides.{nat_tests}
use Rattle.std.proofs.lemmas.List.Folds.{list_any-append}
use Rattle.ll_tree.specs.declared.block.Block.{Block}
use Rattle.ll_tree.specs.declared.block.Operand.{Operand}
use Rattle.ll_tree.specs.declared.block.Operand.TheVariants as operand
use Rattle.ir_constants.specs.Constants.{with_number, with_operand, with_operands, constants_of, vars_from, constant_var, HasVar}
use Rattle.ir_constants.specs.Counted.{counted_in}

no_item : {X : Type 0} (x : X) → Contains {X = X} [] x → ⊥
no_item x there = omega (arith, there.1)

cons_cases : {X : Type 0} (first : X) (rest : List X) (x : X) → Contains (first ∷ rest) x → (first ≡ x) ⊎ Contains rest x
cons_cases first rest x (zero, within, is) = inl is
cons_cases first rest x (suc k, within, is) = inr (k, omega arith, is)

by_test : (P : Bool → Type 0) (test : Bool) → (test ≡ true → P true) → (test ≡ false → P false) → P test
by_test P true when_true when_false = when_true refl
by_test P false when_true when_false = when_false refl

same_test : (a b : ℕ) → eqb a b ≡ eqb b a
same_test a b = by_test (λ t. t ≡ eqb b a) (eqb a b) (λ is. grind (arith, nat_tests)) (λ is. grind (arith, nat_tests))

-- ---- where a constant stands

-- its variable, by the first place at which it stands
pub var_at : (n var : ℕ) (constants : List ℕ) → unwrap_or (lookup (λ value. eqb value n) (vars_from var constants)) 0 ≡ cond (ltb (position_or_len (eqb n) constants) (length constants)) (var + position_or_len (eqb n) constants) 0
var_at n var [] = refl
var_at n var (c ∷ constants) = rw (same_test c n) (by_test (λ t. at_test t) (eqb n c) (λ is. grind (arith, nat_tests)) (λ is. later (var_at n (var + 1) constants)))
  where
    at_test : Bool → Type 0
    at_test t = unwrap_or (cond t (Some var) (lookup (λ value. eqb value n) (vars_from (var + 1) constants))) 0 ≡ cond (ltb (cond (not t) (1 + position_or_len (eqb n) constants) 0) (suc (length constants))) (var + cond (not t) (1 + position_or_len (eqb n) constants) 0) 0

    later : unwrap_or (lookup (λ value. eqb value n) (vars_from (var + 1) constants)) 0 ≡ cond (ltb (position_or_len (eqb n) constants) (length constants)) (var + 1 + position_or_len (eqb n) constants) 0 → at_test false
    later rest = grind (arith, nat_tests, rest)

abbrev pub var_by : Option ℕ → ℕ
var_by None = 0
var_by (Some at) = at + 2

-- and by what looks it up
pub var_where : (n : ℕ) (constants : List ℕ) → 1 < n → (found : Option ℕ) → position (eqb n) constants ≡ found → var_by found ≡ constant_var constants n
var_where n constants large found is =
    let test : leb n 1 ≡ false = grind (arith, nat_tests, large) in
    rw test (rw (var_at n 2 constants)
    (by_test (λ t. cond t (Some (position_or_len (eqb n) constants)) None ≡ found → var_by found ≡ cond t (2 + position_or_len (eqb n) constants) 0)
    (ltb (position_or_len (eqb n) constants) (length constants))
    (λ there is. ap var_by (sym is) ∙ omega arith)
    (λ past is. ap var_by (sym is))
    is))

-- ---- a constant that is among others

abbrev IsAmong : List ℕ → ℕ → Type 0
IsAmong constants n = list_any (eqb n) constants ≡ true

-- it has a place, and stands there
among_at : (n : ℕ) (constants : List ℕ) → IsAmong constants n → (position_or_len (eqb n) constants < length constants) × (get_or constants (position_or_len (eqb n) constants) 0 ≡ n)
among_at n [] among = absurd (false≢true among)
among_at n (c ∷ constants) among =
    by_test (λ t. (t || list_any (eqb n) constants) ≡ true → (cond (not t) (1 + position_or_len (eqb n) constants) 0 < suc (length constants)) × (get_or (c ∷ constants) (cond (not t) (1 + position_or_len (eqb n) constants) 0) 0 ≡ n))
    (eqb n c)
    (λ is among. (omega arith, grind (arith, nat_tests, is)))
    (λ is among. later (among_at n constants among))
    among
  where
    later : (position_or_len (eqb n) constants < length constants) × (get_or constants (position_or_len (eqb n) constants) 0 ≡ n) → (1 + position_or_len (eqb n) constants < suc (length constants)) × (get_or (c ∷ constants) (1 + position_or_len (eqb n) constants) 0 ≡ n)
    later rest =
        let next : suc (position_or_len (eqb n) constants) ≡ 1 + position_or_len (eqb n) constants = omega arith in
        (omega (arith, rest.0), subst (λ k. get_or (c ∷ constants) k 0 ≡ n) next rest.1)

among_more : (n : ℕ) (constants more : List ℕ) → IsAmong constants n → IsAmong (constants ++ more) n
among_more n constants more among = list_any-append (eqb n) constants more ∙ ap (λ t. t || list_any (eqb n) more) among

last_among : (n : ℕ) (constants : List ℕ) → IsAmong (constants ++ n ∷ []) n
last_among n constants = list_any-append (eqb n) constants (n ∷ []) ∙ by_own (list_any (eqb n) constants)
  where
    own : eqb n n ≡ true
    own = grind (arith, nat_tests)

    by_own : (t : Bool) → (t || (eqb n n || false)) ≡ true
    by_own true = refl
    by_own false = ap (λ t. t || false) own

among_number : (n other : ℕ) (constants : List ℕ) → IsAmong constants n → IsAmong (with_number constants other) n
among_number n other constants among = by_test (λ t. IsAmong (cond t constants (constants ++ other ∷ [])) n) (leb other 1 || list_any (eqb other) constants) (λ is. among) (λ is. among_more n constants (other ∷ []) among)

among_operand : (n : ℕ) (operand : Operand) (constants : List ℕ) → IsAmong constants n → IsAmong (with_operand constants operand) n
among_operand n (operand.Name name) constants among = among
among_operand n (operand.Const other) constants among = among_number n other constants among
among_operand n operand.Poison constants among = among

among_operands : (n : ℕ) (operands : List Operand) (constants : List ℕ) → IsAmong constants n → IsAmong (with_operands constants operands) n
among_operands n [] constants among = among
among_operands n (operand ∷ operands) constants among = among_operands n operands (with_operand constants operand) (among_operand n operand constants among)

-- a number that was added
added : (n : ℕ) (constants : List ℕ) → leb n 1 ≡ false → IsAmong (with_number constants n) n
added n constants large = rw large (by_test (λ t. IsAmong (cond t constants (constants ++ n ∷ [])) n) (list_any (eqb n) constants) (λ is. is) (λ is. last_among n constants))

counted_among : (n : ℕ) (operands : List Operand) (constants : List ℕ) → leb n 1 ≡ false → Contains operands (operand.Const n) → IsAmong (with_operands constants operands) n
counted_among n [] constants large there = absurd (no_item (operand.Const n) there)
counted_among n (one ∷ operands) constants large there = by_cases (cons_cases one operands (operand.Const n) there) (counted_among n operands (with_operand constants one) large)
  where
    by_cases : (one ≡ operand.Const n) ⊎ Contains operands (operand.Const n) → (Contains operands (operand.Const n) → IsAmong (with_operands (with_operand constants one) operands) n) → IsAmong (with_operands (with_operand constants one) operands) n
    by_cases (inl same) rest = subst (λ o. IsAmong (with_operands (with_operand constants o) operands) n) (sym same) (among_operands n operands (with_number constants n) (added n constants large))
    by_cases (inr later) rest = rest later

-- ---- each counted constant has its variable

pub has_var : (blocks : List Block) (n : ℕ) → Contains (flat_map counted_in blocks) (operand.Const n) → HasVar (constants_of blocks) n
has_var blocks n there = by_test (λ t. t ≡ leb n 1 → HasVar (constants_of blocks) n) (leb n 1) (λ is same. small is) (λ is same. large is) refl
  where
    small : leb n 1 ≡ true → HasVar (constants_of blocks) n
    small is = record { within = rw is (grind (arith, nat_tests, is)); stands = rw is (low n is) }
      where
        low : (n : ℕ) → leb n 1 ≡ true → get_or (0 ∷ 1 ∷ constants_of blocks) n 0 ≡ n
        low zero is = refl
        low (suc zero) is = refl
        low (suc (suc n)) is = absurd (grind (arith, nat_tests, is))

    large : leb n 1 ≡ false → HasVar (constants_of blocks) n
    large is =
        let at = among_at n (constants_of blocks) (counted_among n (flat_map counted_in blocks) [] is there) in
        let var : unwrap_or (lookup (λ value. eqb value n) (vars_from 2 (constants_of blocks))) 0 ≡ 2 + position_or_len (eqb n) (constants_of blocks) =
        var_at n 2 (constants_of blocks) ∙ rw (within_test (position_or_len (eqb n) (constants_of blocks)) (length (constants_of blocks)) at.0) refl in
        let behind : suc (suc (position_or_len (eqb n) (constants_of blocks))) ≡ 2 + position_or_len (eqb n) (constants_of blocks) = omega arith in
        record {
          within = rw is (rw var (omega (arith, at.0)));
          stands = rw is (rw var (subst (λ k. get_or (0 ∷ 1 ∷ constants_of blocks) k 0 ≡ n) behind at.1));
        }
      where
        within_test : (a b : ℕ) → a < b → ltb a b ≡ true
        within_test a b below = grind (arith, nat_tests)
