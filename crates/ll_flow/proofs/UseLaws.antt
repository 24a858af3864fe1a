-- Uses by places and by labels.
use Rattle.std.proofs.Common.{◌≡◌, ◌<◌, inl, inr, ℕ, IsTrue, List, [], ◌∷◌, length, map, sym, ◌∙◌, ap, subst, arith}
use Rattle.std.specs.Prelude.{All, Contains}
use Rattle.std.proofs.lemmas.List.Elements.{All-head, All-tail}
use Rattle.ll_tree.specs.declared.func.Func.{Func}
use Rattle.ll_rules.specs.Items.{labels_of, values_of}
use Rattle.name_table.specs.Names.{AreDifferent}
use Rattle.flow_rules.specs.declared.usage.Use.{Use}
use Rattle.flow_rules.specs.Flow.{Flow, IsWithin}
use Rattle.flow_rules.specs.Paths as places
use Rattle.ll_flow.specs.declared.homes.Home.{Home}
use Rattle.ll_flow.specs.declared.homes.Home.TheVariants as home
use Rattle.ll_flow.specs.declared.uses.Moment.{Moment}
use Rattle.ll_flow.specs.Homes.{homes_of}
use Rattle.ll_flow.specs.Paths.{label_of, IsPathTo, IsFlowOf}
use Rattle.ll_flow.specs.Uses.{ValueUse, StandsOn, IsGiven, IsDefinedOn, IsDefined, LeavesOut}
use Rattle.ll_flow.specs.Found.{Agrees, IsPlaced}
use Rattle.ll_flow.proofs.PlaceLaws.{same_label}
use Rattle.ll_flow.proofs.PathLaws.{is_path_labels, is_path_places, path_within}
use Rattle.ll_flow.proofs.HomeLaws.{value_name, home_is, StandsBelow, home_below}

module _ (func : Func) (flow : Flow) (of : IsFlowOf func flow) (different : AreDifferent (labels_of func)) (apart : AreDifferent (map value_name (values_of func))) where
  abbrev blocks : ℕ
  blocks = length func.blocks

  abbrev label : ℕ → List ℕ
  label place = label_of func place

  stands_labels : (usage : Use) (block item : ℕ) (moment : Moment) → Agrees (home.At block item) moment usage → (path : List ℕ) → places.IsDefinedOn usage path → StandsOn (label block) item moment (map label path)
  stands_labels usage block item moment agrees [] on = absurd on
  stands_labels usage block item moment agrees (last ∷ []) on = (ap label (on.0 ∙ agrees.0), agrees.1.0 on.1)
  stands_labels usage block item moment agrees (first ∷ next ∷ rest) (inl same) = inl (ap label (same ∙ agrees.0))
  stands_labels usage block item moment agrees (first ∷ next ∷ rest) (inr later) = inr (stands_labels usage block item moment agrees (next ∷ rest) later)

  given_labels : (home : Home) (usage : Use) (moment : Moment) → Agrees home moment usage → (path : List ℕ) → places.IsDefinedOn usage path → IsGiven func home moment (map label path)
  given_labels home.Param usage moment agrees path on = tt
  given_labels (home.At block item) usage moment agrees path on = stands_labels usage block item moment agrees path on

  stands_places : (usage : Use) (block item : ℕ) (moment : Moment) → block < blocks → Agrees (home.At block item) moment usage → (path : List ℕ) → All (λ (place : ℕ). place < blocks) path → StandsOn (label block) item moment (map label path) → places.IsDefinedOn usage path
  stands_places usage block item moment low agrees [] within on = absurd on
  stands_places usage block item moment low agrees (last ∷ []) within on =
      (same_label func different last block (All-head (λ (place : ℕ). place < blocks) last [] within) low on.0 ∙ sym agrees.0, agrees.1.1 on.1)
  stands_places usage block item moment low agrees (first ∷ next ∷ rest) within (inl same) =
      inl (same_label func different first block (All-head (λ (place : ℕ). place < blocks) first (next ∷ rest) within) low same ∙ sym agrees.0)
  stands_places usage block item moment low agrees (first ∷ next ∷ rest) within (inr later) =
      inr (stands_places usage block item moment low agrees (next ∷ rest) (All-tail (λ (place : ℕ). place < blocks) first (next ∷ rest) within) later)

  -- what is given in the entry before its items stands on every path
  param_places : (usage : Use) → usage.definition ≡ 0 → IsTrue usage.comes_first → (path : List ℕ) (to : ℕ) → places.IsPathTo flow.graph path to → places.IsDefinedOn usage path
  param_places usage zero_is first [] to path = absurd path
  param_places usage zero_is first (last ∷ []) to path = (path.0 ∙ sym zero_is, first)
  param_places usage zero_is first (start ∷ next ∷ rest) to path = inl (path.0 ∙ sym zero_is)

  given_places : (home : Home) (usage : Use) (moment : Moment) → usage.definition < blocks → usage.block < blocks → Agrees home moment usage → (path : List ℕ) → places.IsPathTo flow.graph path usage.block → IsGiven func home moment (map label path) → places.IsDefinedOn usage path
  given_places home.Param usage moment low used agrees path is_path on = param_places usage agrees.0 agrees.1 path usage.block is_path
  given_places (home.At block item) usage moment low used agrees path is_path on =
      stands_places usage block item moment (subst (λ (place : ℕ). place < blocks) agrees.0 low) agrees path (path_within func flow.graph of.edges path usage.block used is_path) on

  module _ (it : ValueUse) (usage : Use) (placed : IsPlaced func it usage) where
    on_places : (path : List ℕ) → places.IsPathTo flow.graph path usage.block → IsDefinedOn func it (map label path) → places.IsDefinedOn usage path
    on_places path is_path (home, there, on) =
        let same : home ≡ placed.home = home_is func apart it.name home placed.home there placed.given in
        given_places placed.home usage it.moment placed.definition placed.block placed.agrees path is_path (subst (λ (home : Home). IsGiven func home it.moment (map label path)) same on)

    path_to_labels : (path : List ℕ) → places.IsPathTo flow.graph path usage.block → IsPathTo func (map label path) it.block
    path_to_labels path is_path = subst (λ (name : List ℕ). IsPathTo func (map label path) name) placed.there (is_path_labels func flow.graph of.edges path usage.block is_path)

    pub defined_labels : places.IsDefined flow.graph usage → IsDefined func it
    defined_labels defined path is_path =
        let by_place = is_path_places func flow.graph of.edges different of.entry path usage.block placed.block (subst (λ (name : List ℕ). IsPathTo func path name) (sym placed.there) is_path) in
        let on = given_labels placed.home usage it.moment placed.agrees by_place.0 (defined by_place.0 by_place.2) in
        (placed.home, placed.given, subst (λ (path : List (List ℕ)). IsGiven func placed.home it.moment path) by_place.1 on)

    pub undefined_labels : ¬ places.IsDefined flow.graph usage → ¬ IsDefined func it
    undefined_labels undefined defined =
        undefined (λ path is_path. on_places path is_path (defined (map label path) (path_to_labels path is_path)))

    pub leaves_labels : (path : List ℕ) → places.LeavesOut flow.graph usage path → LeavesOut func it (map label path)
    leaves_labels path (is_path, never) = (path_to_labels path is_path, λ on. never (on_places path is_path on))

-- a use in a block of a value that is given there
pub placed_use : (func : Func) (it : ValueUse) (usage : Use) (origin : Home) → 0 < length func.blocks → Contains (homes_of func) (it.name, origin) → Agrees origin it.moment usage → usage.block < length func.blocks → label_of func usage.block ≡ it.block → IsPlaced func it usage
placed_use func it usage origin entry there agrees low same = record {
  home = origin;
  given = there;
  agrees = agrees;
  definition = below origin agrees (home_below func it.name origin there);
  block = low;
  there = same;
}
  where
    below : (origin : Home) → Agrees origin it.moment usage → StandsBelow (length func.blocks) origin → usage.definition < length func.blocks
    below home.Param agrees stands = omega (arith, entry, agrees.0)
    below (home.At block item) agrees stands = omega (arith, stands, agrees.0)

-- it lies in the function's flow
pub use_within : (func : Func) (flow : Flow) (it : ValueUse) (usage : Use) → IsFlowOf func flow → IsPlaced func it usage → IsWithin flow usage
use_within func flow it usage of placed = record {
  definition = omega (arith, placed.definition, of.flow.size);
  block = omega (arith, placed.block, of.flow.size);
}
