-- What is written for the cases says where their switches have their numbers.
use Rattle.std.proofs.Common.{◌≡◌, ◌≢◌, ◌<◌, ◌≤◌, ◌+◌, ⊎_elim, ℕ, zero, suc, ℤ, pos, Bool, true, false, List, [], ◌∷◌, ◌++◌, length, get_or, drop, map, refl, sym, ◌∙◌, ap, subst, arith}
use Rattle.std.specs.Prelude.{◌↔◌, zip}
use Rattle.std.specs.List.{All, Contains}
use Rattle.std.specs.Ordering.{int_eq}
use Rattle.std.proofs.lemmas.Bool.{cases_lt}
use Rattle.std.proofs.lemmas.Bool.Decides.{Decides-int_eq}
use Rattle.std.proofs.lemmas.List.{get_or-drop, length-drop}
use Rattle.std.proofs.lemmas.List.Elements.{All-contains, Contains-get_or, Contains-append_right}
use Rattle.std.proofs.lemmas.Slice.Zip.{get_or-zip, length-zip, seconds-zip}
use Rattle.mix_system.specs.Row.{number_at}
use Rattle.ll_tree.specs.declared.block.Block.{Block}
use Rattle.ll_tree.specs.declared.block.Case.{Case}
use Rattle.ll_tree.specs.declared.block.End.{End}
use Rattle.ll_tree.specs.declared.block.End.TheVariants as end
use Rattle.ll_verifier.specs.Sound.{SoundFunc}
use Rattle.ir_runs.proofs.MemberLaws.{map_in}
use Rattle.wrap_rows.specs.declared.vars.ValueVars.{ValueVars}
use Rattle.wrap_rows.specs.Piece.{mark_of}
use Rattle.wrap_rows.specs.Vars.{IsMark}
use Rattle.path_encoding.specs.declared.spots.ConstSpot.{ConstSpot}
use Rattle.path_encoding.specs.declared.spots.PathSpots.{PathSpots}
use Rattle.path_encoding.specs.Spots.{block_at, operand_vars, source_at, cases_of, cases_before, case_vars, AreSpotsOf, Exist, AreApart}
use Rattle.path_encoding.specs.Agree.{asked_var, IsCaseSaid, AreCasesSaid}
use Rattle.path_encoding.specs.Filled.{ChangesOnly, put_marks, is_value, put_cases, asked_at, AreSaidBefore}
use Rattle.path_encoding.proofs.CountLaws.{cases_in, before_more, before_le, before_within, cases_few}
use Rattle.path_encoding.proofs.KnownLaws.{number_has}
use Rattle.path_encoding.proofs.MarkSums as sums
use Rattle.path_encoding.proofs.MemberLaws.{second_in}
use Rattle.path_encoding.proofs.PutLaws.{mark_is, mark_one, apart_of, apart_right, apart_at, vars_of, put_length, put_other, put_there}

-- a pair of two lists, the second from some place on, by its place
placed : {X : Type 0} (xs : List X) (vars : List ℕ) (from : ℕ) (pair : X × ℕ) → Contains (zip xs (drop from vars)) pair → (k : ℕ) × (k < length xs) × (from + k < length vars) × (pair.1 ≡ get_or vars (from + k) pair.1)
placed {X = X} xs vars from pair (k, low, is) =
    let size = length-zip xs (drop from vars) in
    let rest = length-drop from vars in
    let first : k < length xs = omega (arith, low, size) in
    let second : k < length (drop from vars) = omega (arith, low, size) in
    let read = get_or-zip xs (drop from vars) k pair first second in
    (k, first, omega (arith, second, rest), sym (ap (λ (p : X × ℕ). p.1) is) ∙ ap (λ (p : X × ℕ). p.1) read ∙ get_or-drop from vars k pair.1)

drop_in : (n : ℕ) (xs : List ℕ) (x : ℕ) → Contains (drop n xs) x → Contains xs x
drop_in n xs x (k, low, is) = (n + k, omega (arith, low, length-drop n xs), sym (get_or-drop n xs k x) ∙ is)

apart_drop : (n : ℕ) (xs : List ℕ) → sums.AreApart xs → sums.AreApart (drop n xs)
apart_drop zero [] apart = tt
apart_drop zero (x ∷ xs) apart = apart
apart_drop (suc n) [] apart = tt
apart_drop (suc n) (x ∷ xs) apart = apart_drop n xs apart.1

apart_pairs : (written : List Case) (vars : List ℕ) → sums.AreApart vars → sums.AreApart (vars_of (zip written vars))
apart_pairs [] vars apart = tt
apart_pairs (case ∷ written) [] apart = tt
apart_pairs (case ∷ written) (var ∷ vars) apart = (
  λ there.
      let (pair, pair_there, is) = map_in (λ (pair : Case × ℕ). pair.1) (zip written vars) var there in
      apart.0 (subst (λ (v : ℕ). Contains vars v) is (second_in written vars pair pair_there)),
  apart_pairs written vars apart.1,
)

-- ---- a case

said_from : (point : List ℤ) (number : ℕ) (case : Case × ℕ) → number_at point case.1 ≡ mark_of (is_value (number_at point number) case.0) → IsCaseSaid point number case
said_from point number case marked =
    let test = is_value (number_at point number) case.0 in
    let decides = Decides-int_eq (number_at point number) (pos case.0.value) in
    record {
      mark = subst IsMark (sym marked) (mark_is test);
      says = (λ one. decides.0 (mark_one test (sym marked ∙ one)), λ same. marked ∙ ap mark_of (decides.1 same));
    }

-- whose variables keep their numbers
kept_said : (now new : List ℤ) (number : ℕ) (case : Case × ℕ) → number_at new case.1 ≡ number_at now case.1 → number_at new number ≡ number_at now number → IsCaseSaid now number case → IsCaseSaid new number case
kept_said now new number case same asked said = record {
  mark = subst IsMark (sym same) said.mark;
  says = (λ one. asked ∙ said.says.0 (sym same ∙ one), λ is. same ∙ said.says.1 (sym asked ∙ is));
}

-- ---- the blocks before a position have their cases written

pub said_none : (it : SoundFunc) (spots : PathSpots) (old : List ℤ) → AreSaidBefore it spots old old 0
said_none it spots old = record {
  said = λ other low. absurd (omega (arith, low));
  kept = record { same_length = refl; kept = λ var never. refl };
}

module _ (it : SoundFunc) (spots : PathSpots) (are : AreSpotsOf it spots) (apart : AreApart spots) where
  abbrev cases : List ℕ
  cases = spots.cases.items

  abbrev asked : ℕ → ℕ
  asked = asked_at it spots

  all_apart : sums.AreApart cases
  all_apart = apart_right spots.edges.items cases (apart_right spots.blocks.items (spots.edges.items ++ cases) (apart_of (spots.blocks.items ++ (spots.edges.items ++ cases)) apart.paths))

  -- no case has the variable of a number that is asked
  abbrev IsFree : ℕ → Type 0
  IsFree var = ¬ Contains cases var

  low_free : (var : ℕ) → var < 2 → IsFree var
  low_free var low there = let high = All-contains (λ (v : ℕ). 2 ≤ v) cases var apart.numbers there in omega (arith, low, high)

  asked_free : (terminator : End) → IsFree (asked_var it spots terminator)
  asked_free end.RetVoid = low_free 0 (omega arith)
  asked_free (end.Ret width value) = low_free 0 (omega arith)
  asked_free (end.Br to) = low_free 0 (omega arith)
  asked_free (end.CondBr cond when_set when_clear) = low_free 0 (omega arith)
  asked_free (end.Switch width value default written) = number_has IsFree (low_free 0 (omega arith)) (low_free 1 (omega arith)) spots (source_at it.func value) apart.values apart.constants
  asked_free end.Unreachable = low_free 0 (omega arith)

  -- variables of the cases of two blocks
  blocks_apart : (at other : ℕ) → at < other → other < length it.flow.order → (one two : Case × ℕ) → Contains (case_vars it spots at) one → Contains (case_vars it spots other) two → one.1 ≢ two.1
  blocks_apart at other below low one two there other_there same =
      let (i, i_low, i_within, i_is) = placed (cases_of (block_at it at).end) cases (cases_before it at) one there in
      let (j, j_low, j_within, j_is) = placed (cases_of (block_at it other).end) cases (cases_before it other) two other_there in
      let order : cases_before it at + i < cases_before it other + j = omega (arith, before_more it at, before_le it (at + 1) other (omega (arith, below)), i_low) in
      let here : get_or cases (cases_before it at + i) two.1 ≡ get_or cases (cases_before it other + j) two.1 = ap (get_or cases (cases_before it at + i)) (sym same) ∙ sym i_is ∙ same ∙ j_is in
      apart_at cases all_apart (cases_before it at + i) (cases_before it other + j) two.1 order j_within here

  -- those of one block
  block_apart : (at : ℕ) → sums.AreApart (vars_of (case_vars it spots at))
  block_apart at = apart_pairs (cases_of (block_at it at).end) (drop (cases_before it at) cases) (apart_drop (cases_before it at) cases all_apart)

  among : (at var : ℕ) → Contains (vars_of (case_vars it spots at)) var → Contains cases var
  among at var there =
      let (case, case_there, is) = map_in (λ (case : Case × ℕ). case.1) (case_vars it spots at) var there in
      drop_in (cases_before it at) cases var (subst (λ (v : ℕ). Contains (drop (cases_before it at) cases) v) is (second_in (cases_of (block_at it at).end) (drop (cases_before it at) cases) case case_there))

  module _ (old now new : List ℤ) (exist : Exist (length old) spots) (at : ℕ) (low : at < length it.flow.order) (so_far : AreSaidBefore it spots old now at)
      (put : new ≡ put_cases (number_at now (asked at)) (cases_of (block_at it at).end) (drop (cases_before it at) cases) now) where
    abbrev number : ℤ
    number = number_at now (asked at)

    keeps : (var : ℕ) → ¬ Contains (vars_of (case_vars it spots at)) var → number_at new var ≡ number_at now var
    keeps var never = subst (λ (point : List ℤ). number_at point var ≡ number_at now var) (sym put) (put_other (is_value number) (case_vars it spots at) now var never)

    asked_kept : (other : ℕ) → number_at new (asked other) ≡ number_at now (asked other)
    asked_kept other = keeps (asked other) (λ there. asked_free (block_at it other).end (among at (asked other) there))

    earlier : (other : ℕ) → other < at → All (IsCaseSaid new (asked other)) (case_vars it spots other)
    earlier other below = λ k d k_low.
        let case = get_or (case_vars it spots other) k d in
        let there = Contains-get_or (case_vars it spots other) k d k_low in
        let before = so_far.said other below k d k_low in
        let same : number_at new case.1 ≡ number_at now case.1 = keeps case.1 (λ clash.
        let (two, two_there, is) = map_in (λ (case : Case × ℕ). case.1) (case_vars it spots at) case.1 clash in
        blocks_apart other at below low case two there two_there (sym is)) in
        kept_said now new (asked other) case same (asked_kept other) before

    written : All (IsCaseSaid new (asked at)) (case_vars it spots at)
    written = λ k d k_low.
        let case = get_or (case_vars it spots at) k d in
        let there = Contains-get_or (case_vars it spots at) k d k_low in
        let known : (var : ℕ) → Contains (vars_of (case_vars it spots at)) var → var < length now = λ var var_there. omega (arith, so_far.kept.same_length, All-contains (λ (v : ℕ). v < length old) cases var exist.cases (among at var var_there)) in
        let marked : number_at new case.1 ≡ mark_of (is_value number case.0) = subst (λ (point : List ℤ). number_at point case.1 ≡ mark_of (is_value number case.0)) (sym put) (put_there (is_value number) (case_vars it spots at) now (block_apart at) known case there) in
        said_from new (asked at) case (marked ∙ ap (λ (n : ℤ). mark_of (is_value n case.0)) (sym (asked_kept at)))

    pub said_more : AreSaidBefore it spots old new (at + 1)
    said_more = record {
      said = λ other below. ⊎_elim (earlier other) (λ past. let same : at ≡ other = omega (arith, below, past) in subst (λ (n : ℕ). All (IsCaseSaid new (asked n)) (case_vars it spots n)) same written) (cases_lt other at);
      kept = record {
        same_length = subst (λ (point : List ℤ). length point ≡ length old) (sym put) (put_length (is_value number) (case_vars it spots at) now ∙ so_far.kept.same_length);
        kept = λ var never. keeps var (λ there. never (among at var there)) ∙ so_far.kept.kept var never;
      };
    }
