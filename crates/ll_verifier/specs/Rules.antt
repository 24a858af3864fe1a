-- The rules for the items of a function, in order, and what breaks them.
use Rattle.std.specs.Prelude.{◌≡◌, ◌⊎◌, ℕ, List, [], Bool, Option, Some, is_some, slice_index_or}
use Rattle.ll_tree.specs.declared.func.Func.{Func}
use Rattle.ll_rules.specs.Items.{labels_of, names_of, values_of, parts_of}
use Rattle.ll_rules.specs.Limits.{KeepsLimits, IsFirstExcess}
use Rattle.name_table.specs.Names.{AreDifferent, IsFirstRepeat}
use Rattle.ll_items.specs.Sites.{Site, sites_of}
use Rattle.ll_item_rules.specs.First.{NoneFails, IsFirst}
use Rattle.ll_item_rules.specs.Lacking.{lacking_name}
use Rattle.ll_item_rules.specs.Widths.{type_differs}
use Rattle.ll_item_rules.specs.Cases.{repeated_case}
use Rattle.ll_item_rules.specs.Constants.{is_not_linear, has_bad_divisor}
use Rattle.ll_phi_rules.specs.Phis.{differ_at}
use Rattle.ll_tree.specs.Formed.{IsFormed}
use Rattle.ll_flow.specs.Paths.{HasNoLoop, IsCycle, AllReached, IsFirstUnreached}
use Rattle.ll_flow.specs.Uses.{ValueUse, uses_of, AllDefined, IsFirstUndefined, LeavesOut}
use Rattle.ll_verifier.specs.declared.fault.Spot.{Spot}
use Rattle.ll_verifier.specs.declared.fault.VerifyFault.{VerifyFault}
use Rattle.ll_verifier.specs.declared.fault.VerifyFault.TheVariants as fault

-- an item's place, by the label of its block
abbrev pub spot_of : Func → Site → Spot
spot_of func site = record { block = slice_index_or (labels_of func) site.block []; item = site.item }

-- the first name of an item that is no value's or no block's
abbrev pub missing_name : Func → Site → Option (List ℕ)
missing_name func site = lacking_name (values_of func) (labels_of func) (parts_of site.what)

abbrev pub lacks_name : Func → Site → Bool
lacks_name func site = is_some (missing_name func site)

abbrev pub differs : Func → Site → Bool
differs func site = type_differs (values_of func) func.ret site.what

abbrev pub repeats_case : Site → Bool
repeats_case site = is_some (repeated_case site.what)

abbrev pub HasDifferentNames : Func → Type 0
HasDifferentNames func = AreDifferent (names_of func)

-- the name that is given twice, of several the one whose second place comes first
abbrev pub IsGivenTwice : Func → List ℕ → Type 0
IsGivenTwice func name = (at : ℕ) × IsFirstRepeat (names_of func) at × (name ≡ slice_index_or (names_of func) at [])

-- what is kept before each rule is asked

abbrev pub HasNames : Func → Type 0
HasNames func = KeepsLimits func × HasDifferentNames func

abbrev pub IsNamed : Func → Type 0
IsNamed func = HasNames func × NoneFails (lacks_name func) (sites_of func)

abbrev pub IsTyped : Func → Type 0
IsTyped func = IsNamed func × NoneFails (differs func) (sites_of func)

abbrev pub HasCases : Func → Type 0
HasCases func = IsTyped func × NoneFails repeats_case (sites_of func)

abbrev pub IsLinear : Func → Type 0
IsLinear func = HasCases func × NoneFails (λ site. is_not_linear site.what) (sites_of func)

abbrev pub Divides : Func → Type 0
Divides func = IsLinear func × NoneFails (λ site. has_bad_divisor site.what) (sites_of func)

abbrev pub HasEntries : Func → Type 0
HasEntries func = Divides func × NoneFails (differ_at func.blocks) (sites_of func)

abbrev pub IsAcyclic : Func → Type 0
IsAcyclic func = HasEntries func × HasNoLoop func

abbrev pub IsConnected : Func → Type 0
IsConnected func = IsAcyclic func × AllReached func

-- All rules are kept.
abbrev pub KeepsAll : Func → Type 0
KeepsAll func = IsConnected func × AllDefined func

-- What the language asks of a function: it is formed, and none of the conditions of a fault holds.
pub record Rules (func : Func) : Type 0 where
  pub formed : IsFormed func
  pub limits : KeepsLimits func
  pub names : HasDifferentNames func
  pub named : NoneFails (lacks_name func) (sites_of func)
  pub typed : NoneFails (differs func) (sites_of func)
  pub cases : NoneFails repeats_case (sites_of func)
  pub linear : NoneFails (λ site. is_not_linear site.what) (sites_of func)
  pub divisors : NoneFails (λ site. has_bad_divisor site.what) (sites_of func)
  pub entries : NoneFails (differ_at func.blocks) (sites_of func)
  pub acyclic : HasNoLoop func
  pub reached : AllReached func
  pub defined : AllDefined func

-- the first item that breaks a rule stands there
abbrev pub StandsFirst : Func → (Site → Bool) → Spot → Type 0
StandsFirst func breaks at = (site : Site) × IsFirst breaks (sites_of func) site × (at ≡ spot_of func site)

-- the fault is the first
abbrev pub Breaks : Func → VerifyFault → Type 0
Breaks func (fault.TooMany excess) = IsFirstExcess func excess
Breaks func (fault.NameTwice name) = KeepsLimits func × IsGivenTwice func name
Breaks func (fault.NoSuchName name at) = HasNames func × ((site : Site) × IsFirst (lacks_name func) (sites_of func) site × (at ≡ spot_of func site) × (missing_name func site ≡ Some name))
Breaks func (fault.TypeDiffers at) = IsNamed func × StandsFirst func (differs func) at
Breaks func (fault.DuplicateCase at value) = IsTyped func × ((site : Site) × IsFirst repeats_case (sites_of func) site × (at ≡ spot_of func site) × (repeated_case site.what ≡ Some value))
Breaks func (fault.NotLinear at) = HasCases func × StandsFirst func (λ site. is_not_linear site.what) at
Breaks func (fault.BadDivisor at) = IsLinear func × StandsFirst func (λ site. has_bad_divisor site.what) at
Breaks func (fault.PhiEntries at) = Divides func × StandsFirst func (differ_at func.blocks) at
Breaks func (fault.Loop cycle) = HasEntries func × IsCycle func cycle
Breaks func (fault.Unreached block) = IsAcyclic func × IsFirstUnreached func block
Breaks func (fault.NotDefined at name path) = IsConnected func × ((it : ValueUse) × IsFirstUndefined func (uses_of func) it × (at ≡ spot_of func it.site) × (name ≡ it.name) × LeavesOut func it path)
Breaks func fault.NoMemory = ⊥

-- why a function is refused: it breaks a rule, unless memory was wanting
abbrev pub IsRefusal : Func → VerifyFault → Type 0
IsRefusal func refusal = (refusal ≡ fault.NoMemory) ⊎ Breaks func refusal
