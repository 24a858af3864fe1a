-- One answer: rules that are kept or one fault.
use Rattle.std.proofs.Common.{◌≡◌, ◌<◌, ◌≤◌, ⊎_elim, ℕ, zero, suc, Bool, List, [], ◌∷◌, ◌++◌, get_or, Option, Some, refl, sym, ◌∙◌, ap, subst, arith}
use Rattle.std.proofs.lemmas.Bool.{cases_lt, cases_order}
use Rattle.std.proofs.lemmas.List.Elements.{All-same}
use Rattle.ll_tree.specs.declared.func.Func.{Func}
use Rattle.ll_rules.specs.declared.limits.TooMany.{TooMany}
use Rattle.ll_rules.specs.Items.{names_of}
use Rattle.ll_rules.specs.Limits.{KeepsLimits}
use Rattle.ll_items.specs.Sites.{Site, sites_of}
use Rattle.ll_item_rules.specs.First.{NoneFails, IsFirst}
use Rattle.ll_item_rules.specs.Cases.{repeated_case}
use Rattle.ll_item_rules.specs.Constants.{is_not_linear, has_bad_divisor}
use Rattle.ll_phi_rules.specs.Phis.{differ_at}
use Rattle.ll_flow.specs.Paths.{HasNoLoop, AllReached, IsReached, IsFirstUnreached, label_of}
use Rattle.ll_flow.specs.Uses.{ValueUse, uses_of, IsDefined, AllDefined, IsFirstUndefined}
use Rattle.ll_verifier.specs.declared.fault.Spot.{Spot}
use Rattle.ll_verifier.specs.declared.fault.VerifyFault.{VerifyFault}
use Rattle.ll_verifier.specs.declared.fault.VerifyFault.TheVariants as fault
use Rattle.ll_verifier.specs.Answer.{pinned}
use Rattle.ll_verifier.specs.Rules.{spot_of, missing_name, lacks_name, differs, repeats_case, HasDifferentNames, IsGivenTwice, KeepsAll, Rules, StandsFirst, Breaks}
use Rattle.ll_verifier.proofs.FirstLaws.{broken_there, one_first, first_fails, one_site}
use Rattle.ll_verifier.proofs.ExcessLaws.{excess_fails, one_excess}
use Rattle.ll_verifier.proofs.TwiceLaws.{repeat_fails, one_repeat}

-- the place of a fault's rule among the rules
abbrev rank : VerifyFault → ℕ
rank (fault.TooMany excess) = 0
rank (fault.NameTwice name) = 1
rank (fault.NoSuchName name at) = 2
rank (fault.TypeDiffers at) = 3
rank (fault.DuplicateCase at value) = 4
rank (fault.NotLinear at) = 5
rank (fault.BadDivisor at) = 6
rank (fault.PhiEntries at) = 7
rank (fault.Loop cycle) = 8
rank (fault.Unreached block) = 9
rank (fault.NotDefined at name path) = 10
rank fault.NoMemory = 11

-- the fault of the rule at a place
abbrev IsAt : ℕ → VerifyFault → Type 0
IsAt n it = get_or
    (((excess : TooMany) × (it ≡ fault.TooMany excess))
    ∷ ((name : List ℕ) × (it ≡ fault.NameTwice name))
    ∷ ((name : List ℕ) × (at : Spot) × (it ≡ fault.NoSuchName name at))
    ∷ ((at : Spot) × (it ≡ fault.TypeDiffers at))
    ∷ ((at : Spot) × (value : ℕ) × (it ≡ fault.DuplicateCase at value))
    ∷ ((at : Spot) × (it ≡ fault.NotLinear at))
    ∷ ((at : Spot) × (it ≡ fault.BadDivisor at))
    ∷ ((at : Spot) × (it ≡ fault.PhiEntries at))
    ∷ ((cycle : List (List ℕ)) × (it ≡ fault.Loop cycle))
    ∷ ((block : List ℕ) × (it ≡ fault.Unreached block))
    ∷ ((at : Spot) × (name : List ℕ) × (path : List (List ℕ)) × (it ≡ fault.NotDefined at name path))
    ∷ []) n (it ≡ fault.NoMemory)

is_at : (it : VerifyFault) → IsAt (rank it) it
is_at (fault.TooMany excess) = (excess, refl)
is_at (fault.NameTwice name) = (name, refl)
is_at (fault.NoSuchName name at) = (name, at, refl)
is_at (fault.TypeDiffers at) = (at, refl)
is_at (fault.DuplicateCase at value) = (at, value, refl)
is_at (fault.NotLinear at) = (at, refl)
is_at (fault.BadDivisor at) = (at, refl)
is_at (fault.PhiEntries at) = (at, refl)
is_at (fault.Loop cycle) = (cycle, refl)
is_at (fault.Unreached block) = (block, refl)
is_at (fault.NotDefined at name path) = (at, name, path, refl)
is_at fault.NoMemory = refl

module _ (func : Func) where
  -- the rules behind the limits
  abbrev Rule : ℕ → Type 0
  Rule n = get_or
      (HasDifferentNames func
      ∷ NoneFails (lacks_name func) (sites_of func)
      ∷ NoneFails (differs func) (sites_of func)
      ∷ NoneFails repeats_case (sites_of func)
      ∷ NoneFails (λ (site : Site). is_not_linear site.what) (sites_of func)
      ∷ NoneFails (λ (site : Site). has_bad_divisor site.what) (sites_of func)
      ∷ NoneFails (differ_at func.blocks) (sites_of func)
      ∷ HasNoLoop func
      ∷ AllReached func
      ∷ AllDefined func
      ∷ []) n (Unit {0})

  abbrev Kept : ℕ → Type 0
  Kept zero = KeepsLimits func
  Kept (suc n) = Kept n × Rule n

  -- so many rules are kept
  abbrev Before : ℕ → Type 0
  Before zero = Unit {0}
  Before (suc n) = Kept n

  one_less : (n : ℕ) → Before (suc n) → Before n
  one_less zero kept = tt
  one_less (suc n) kept = kept.0

  down : (n m : ℕ) → n ≤ m → Before m → Before n
  down n zero le kept = subst Before (none le) kept
    where
      none : n ≤ 0 → 0 ≡ n
      none le = omega (arith, le)
  down n (suc m) le kept =
      ⊎_elim
      (λ less. down n m (within less) (one_less m kept))
      (λ more. subst Before (all more) kept)
      (cases_lt n (suc m))
    where
      within : n < suc m → n ≤ m
      within less = omega (arith, less)

      all : suc m ≤ n → suc m ≡ n
      all more = omega (arith, more, le)

  kept_before : (it : VerifyFault) → Breaks func it → Before (rank it)
  kept_before (fault.TooMany excess) breaks = tt
  kept_before (fault.NameTwice name) (kept, rest) = kept
  kept_before (fault.NoSuchName name at) (kept, rest) = kept
  kept_before (fault.TypeDiffers at) (kept, rest) = kept
  kept_before (fault.DuplicateCase at value) (kept, rest) = kept
  kept_before (fault.NotLinear at) (kept, rest) = kept
  kept_before (fault.BadDivisor at) (kept, rest) = kept
  kept_before (fault.PhiEntries at) (kept, rest) = kept
  kept_before (fault.Loop cycle) (kept, rest) = kept
  kept_before (fault.Unreached block) (kept, rest) = kept
  kept_before (fault.NotDefined at name path) (kept, rest) = kept
  kept_before fault.NoMemory breaks = absurd breaks

  spot_fails : (breaks : Site → Bool) (at : Spot) → StandsFirst func breaks at → NoneFails breaks (sites_of func) → ⊥
  spot_fails breaks at (site, first, is) = first_fails breaks (sites_of func) site first

  unreached_fails : (block : List ℕ) → IsFirstUnreached func block → AllReached func → ⊥
  unreached_fails block first all = first.unreached (subst (IsReached func) (sym first.there) (all first.place first.within))

  undefined_fails : (it : ValueUse) → IsFirstUndefined func (uses_of func) it → AllDefined func → ⊥
  undefined_fails it first all =
      broken_there (IsDefined func) first.before it first.after first.undefined
      (All-same (IsDefined func) (first.before ++ it ∷ first.after) (uses_of func) (sym first.uses_are) all)

  -- the rule itself isn't kept
  broken : (it : VerifyFault) → Breaks func it → Before (suc (rank it)) → ⊥
  broken (fault.TooMany excess) breaks kept = excess_fails func excess breaks kept
  broken (fault.NameTwice name) (before, (at, repeat, is)) kept = repeat_fails (names_of func) at repeat.within repeat.again kept.1
  broken (fault.NoSuchName name at) (before, (site, first, is, names)) kept = first_fails (lacks_name func) (sites_of func) site first kept.1
  broken (fault.TypeDiffers at) (before, rest) kept = spot_fails (differs func) at rest kept.1
  broken (fault.DuplicateCase at value) (before, (site, first, is, names)) kept = first_fails repeats_case (sites_of func) site first kept.1
  broken (fault.NotLinear at) (before, rest) kept = spot_fails (λ (site : Site). is_not_linear site.what) at rest kept.1
  broken (fault.BadDivisor at) (before, rest) kept = spot_fails (λ (site : Site). has_bad_divisor site.what) at rest kept.1
  broken (fault.PhiEntries at) (before, rest) kept = spot_fails (differ_at func.blocks) at rest kept.1
  broken (fault.Loop cycle) (before, is) kept = kept.1 cycle is.closed
  broken (fault.Unreached block) (before, first) kept = unreached_fails block first kept.1
  broken (fault.NotDefined at name path) (before, (it, first, is, has, left)) kept = undefined_fails it first kept.1
  broken fault.NoMemory breaks kept = absurd breaks

  all_kept : Rules func → KeepsAll func
  all_kept rules =
      ((((((((((rules.limits, rules.names), rules.named), rules.typed), rules.cases), rules.linear), rules.divisors), rules.entries), rules.acyclic), rules.reached), rules.defined)

  low : (it : VerifyFault) → Breaks func it → suc (rank it) ≤ 11
  low (fault.TooMany excess) breaks = omega arith
  low (fault.NameTwice name) breaks = omega arith
  low (fault.NoSuchName name at) breaks = omega arith
  low (fault.TypeDiffers at) breaks = omega arith
  low (fault.DuplicateCase at value) breaks = omega arith
  low (fault.NotLinear at) breaks = omega arith
  low (fault.BadDivisor at) breaks = omega arith
  low (fault.PhiEntries at) breaks = omega arith
  low (fault.Loop cycle) breaks = omega arith
  low (fault.Unreached block) breaks = omega arith
  low (fault.NotDefined at name path) breaks = omega arith
  low fault.NoMemory breaks = absurd breaks

  -- no fault is told of a function that keeps the rules
  pub breaks_no_rules : (it : VerifyFault) → Breaks func it → Rules func → ⊥
  breaks_no_rules it breaks rules = broken it breaks (down (suc (rank it)) 11 (low it breaks) (all_kept rules))

  not_before : (one other : VerifyFault) → Breaks func one → Breaks func other → rank one < rank other → ⊥
  not_before one other breaks also less = broken one breaks (down (suc (rank one)) (rank other) (omega (arith, less)) (kept_before other also))

  one_rank : (one other : VerifyFault) → Breaks func one → Breaks func other → rank other ≡ rank one
  one_rank one other breaks also =
      ⊎_elim
      (λ same. sym same)
      (λ apart. ⊎_elim
      (λ less. absurd (not_before one other breaks also less))
      (λ more. absurd (not_before other one also breaks more))
      apart)
      (cases_order (rank one) (rank other))

  one_spot : (breaks : Site → Bool) (at other : Spot) → StandsFirst func breaks at → StandsFirst func breaks other → at ≡ other
  one_spot breaks at other (site, first, is) (place, also, also_is) =
      is ∙ ap (spot_of func) (one_site breaks (sites_of func) site place first also) ∙ sym also_is

  -- two names or numbers that the first item has
  one_found : {A : Type 0} (breaks : Site → Bool) (found : Site → Option A) (at other : Spot) (it that : A)
      → ((site : Site) × IsFirst breaks (sites_of func) site × (at ≡ spot_of func site) × (found site ≡ Some it))
      → ((site : Site) × IsFirst breaks (sites_of func) site × (other ≡ spot_of func site) × (found site ≡ Some that))
      → (at ≡ other) × (it ≡ that)
  one_found breaks found at other it that (site, first, is, has) (place, also, also_is, also_has) =
      let same : site ≡ place = one_site breaks (sites_of func) site place first also in
      (is ∙ ap (spot_of func) same ∙ sym also_is, inside it that (sym has ∙ ap found same ∙ also_has))
    where
      inside : {A : Type 0} (it that : A) → Some it ≡ Some that → it ≡ that
      inside it that e = cc

  one_twice : (name other : List ℕ) → IsGivenTwice func name → IsGivenTwice func other → name ≡ other
  one_twice name other (at, repeat, is) (place, also, also_is) =
      is ∙ ap (λ (n : ℕ). get_or (names_of func) n []) (one_repeat (names_of func) at place repeat also) ∙ sym also_is

  not_earlier : (one other : List ℕ) (first : IsFirstUnreached func one) (also : IsFirstUnreached func other) → first.place < also.place → ⊥
  not_earlier one other first also less = first.unreached (subst (IsReached func) (sym first.there) (also.first first.place less))

  one_unreached : (one other : List ℕ) → IsFirstUnreached func one → IsFirstUnreached func other → one ≡ other
  one_unreached one other first also =
      ⊎_elim
      (λ same. first.there ∙ ap (label_of func) same ∙ sym also.there)
      (λ apart. ⊎_elim
      (λ less. absurd (not_earlier one other first also less))
      (λ more. absurd (not_earlier other one also first more))
      apart)
      (cases_order first.place also.place)

  one_use : (it other : ValueUse) → IsFirstUndefined func (uses_of func) it → IsFirstUndefined func (uses_of func) other → it ≡ other
  one_use it other first also =
      one_first (IsDefined func) first.before also.before it other first.after also.after (sym first.uses_are ∙ also.uses_are)
      first.undefined also.undefined first.first also.first

  -- two faults of one rule
  same_fault : (one other : VerifyFault) → IsAt (rank one) other → Breaks func one → Breaks func other → pinned one ≡ pinned other
  same_fault (fault.TooMany excess) other (also, is) breaks too =
      let that : Breaks func (fault.TooMany also) = subst (Breaks func) is too in
      ap (λ (x : TooMany). fault.TooMany x) (one_excess func excess also breaks that) ∙ ap pinned (sym is)
  same_fault (fault.NameTwice name) other (also, is) breaks too =
      let that : Breaks func (fault.NameTwice also) = subst (Breaks func) is too in
      ap (λ (x : List ℕ). fault.NameTwice x) (one_twice name also breaks.1 that.1) ∙ ap pinned (sym is)
  same_fault (fault.NoSuchName name at) other (also, place, is) breaks too =
      let that : Breaks func (fault.NoSuchName also place) = subst (Breaks func) is too in
      let same : (at ≡ place) × (name ≡ also) = one_found (lacks_name func) (missing_name func) at place name also breaks.1 that.1 in
      (λ i. fault.NoSuchName (same.1 i) (same.0 i)) ∙ ap pinned (sym is)
  same_fault (fault.TypeDiffers at) other (place, is) breaks too =
      let that : Breaks func (fault.TypeDiffers place) = subst (Breaks func) is too in
      ap (λ (x : Spot). fault.TypeDiffers x) (one_spot (differs func) at place breaks.1 that.1) ∙ ap pinned (sym is)
  same_fault (fault.DuplicateCase at value) other (place, also, is) breaks too =
      let that : Breaks func (fault.DuplicateCase place also) = subst (Breaks func) is too in
      let same : (at ≡ place) × (value ≡ also) = one_found repeats_case (λ (site : Site). repeated_case site.what) at place value also breaks.1 that.1 in
      (λ i. fault.DuplicateCase (same.0 i) (same.1 i)) ∙ ap pinned (sym is)
  same_fault (fault.NotLinear at) other (place, is) breaks too =
      let that : Breaks func (fault.NotLinear place) = subst (Breaks func) is too in
      ap (λ (x : Spot). fault.NotLinear x) (one_spot (λ (site : Site). is_not_linear site.what) at place breaks.1 that.1) ∙ ap pinned (sym is)
  same_fault (fault.BadDivisor at) other (place, is) breaks too =
      let that : Breaks func (fault.BadDivisor place) = subst (Breaks func) is too in
      ap (λ (x : Spot). fault.BadDivisor x) (one_spot (λ (site : Site). has_bad_divisor site.what) at place breaks.1 that.1) ∙ ap pinned (sym is)
  same_fault (fault.PhiEntries at) other (place, is) breaks too =
      let that : Breaks func (fault.PhiEntries place) = subst (Breaks func) is too in
      ap (λ (x : Spot). fault.PhiEntries x) (one_spot (differ_at func.blocks) at place breaks.1 that.1) ∙ ap pinned (sym is)
  same_fault (fault.Loop cycle) other (also, is) breaks too = ap pinned (sym is)
  same_fault (fault.Unreached block) other (also, is) breaks too =
      let that : Breaks func (fault.Unreached also) = subst (Breaks func) is too in
      ap (λ (x : List ℕ). fault.Unreached x) (one_unreached block also breaks.1 that.1) ∙ ap pinned (sym is)
  same_fault (fault.NotDefined at name path) other (place, also, way, is) breaks too =
      let that : Breaks func (fault.NotDefined place also way) = subst (Breaks func) is too in
      let same : (at ≡ place) × (name ≡ also) = one_undefined at place name also path way breaks that in
      (λ i. fault.NotDefined (same.0 i) (same.1 i) []) ∙ ap pinned (sym is)
    where
      one_undefined : (at place : Spot) (name also : List ℕ) (path way : List (List ℕ)) → Breaks func (fault.NotDefined at name path) → Breaks func (fault.NotDefined place also way) → (at ≡ place) × (name ≡ also)
      one_undefined at place name also path way (kept, (it, first, is, has, left)) (kept_too, (that, first_too, is_too, has_too, left_too)) =
          let same : it ≡ that = one_use it that first first_too in
          (is ∙ ap (λ (u : ValueUse). spot_of func u.site) same ∙ sym is_too, has ∙ ap (λ (u : ValueUse). u.name) same ∙ sym has_too)
  same_fault fault.NoMemory other is breaks too = absurd breaks

  -- two faults that are told are one, but for the cycle and the path
  pub one_fault : (one other : VerifyFault) → Breaks func one → Breaks func other → pinned one ≡ pinned other
  one_fault one other breaks also =
      same_fault one other (subst (λ (n : ℕ). IsAt n other) (one_rank one other breaks also) (is_at other)) breaks also
