-- The map of what is told of some names.
use Rattle.std.proofs.Common.{◌≡◌, ◌⊎◌, inl, inr, ℕ, List, [], ◌∷◌, map, Bool, true, false, ◌||◌, cond, Option, Some, None, is_some, IsSome, refl, sym, ◌∙◌, ap, subst}
use Rattle.std.specs.Prelude.{Contains}
use Rattle.std.specs.List.{AllZip, list_any}
use Rattle.std.specs.Str.{bytes_eq}
use Rattle.std.proofs.lemmas.Bool.{true≢false, false≢true}
use Rattle.std.proofs.lemmas.Option.{none-some}
use Rattle.std.proofs.lemmas.Slice.Eq.{bytes_eq-Decides}
use Rattle.ll_tree.specs.declared.func.Param.{Param}
use Rattle.ll_flow.proofs.PlaceLaws.{no_item, cons_cases}
use Rattle.ir_meaning.specs.declared.value.Val.{Val}
use Rattle.ir_runs.specs.Values.{Vals, ranged}
use Rattle.ir_runs.proofs.MemberLaws.{in_here, in_there}
use Rattle.ir_runs.proofs.BlockLaws.{Knows}
use Rattle.path_values.specs.Way.{told, told_of}

-- each value of the first map is one of the second
abbrev pub Grows : Vals → Vals → Type 0
Grows vals more = (name : List ℕ) (val : Val) → vals name ≡ Some val → more name ≡ Some val

among_is : (name : List ℕ) (names : List (List ℕ)) → Contains names name → list_any (bytes_eq name) names ≡ true
among_is name [] there = absurd (no_item name there)
among_is name (first ∷ names) there = by_cases (among_is name names) (cons_cases first names name there)
  where
    by_cases : (Contains names name → list_any (bytes_eq name) names ≡ true) → (first ≡ name) ⊎ Contains names name → bytes_eq name first || list_any (bytes_eq name) names ≡ true
    by_cases rest (inl same) = rw ((bytes_eq-Decides name first).1 (sym same)) refl
    by_cases rest (inr later) = by_test (bytes_eq name first) (rest later)
      where
        by_test : (b : Bool) → list_any (bytes_eq name) names ≡ true → b || list_any (bytes_eq name) names ≡ true
        by_test true is = refl
        by_test false is = is

is_among : (name : List ℕ) (names : List (List ℕ)) → list_any (bytes_eq name) names ≡ true → Contains names name
is_among name [] is = absurd (false≢true is)
is_among name (first ∷ names) is = by_test (bytes_eq name first) refl (is_among name names)
  where
    by_test : (b : Bool) → bytes_eq name first ≡ b → (list_any (bytes_eq name) names ≡ true → Contains names name) → Contains (first ∷ names) name
    by_test true same rest = subst (λ (n : List ℕ). Contains (first ∷ names) n) (sym ((bytes_eq-Decides name first).0 same)) (in_here first names)
    by_test false apart rest = in_there first name names (rest (subst (λ (b : Bool). b || list_any (bytes_eq name) names ≡ true) apart is))

module _ (names : List (List ℕ)) (value : List ℕ → Val) where
  pub told_is : (name : List ℕ) → Contains names name → told_of names value name ≡ Some (value name)
  told_is name there = rw (among_is name names there) refl

  told_some : (name : List ℕ) → IsSome (told_of names value name) → Contains names name
  told_some name is = by_test (list_any (bytes_eq name) names) refl
    where
      by_test : (b : Bool) → list_any (bytes_eq name) names ≡ b → Contains names name
      by_test true same = is_among name names same
      by_test false same = absurd (false≢true (subst (λ (b : Bool). IsSome (cond b (Some (value name)) None)) same is))

  pub told_knows : Knows (told_of names value) names
  told_knows name = (told_some name, λ there. ap is_some (told_is name there))

  -- what is told of the names is told
  pub told_grows : Grows (told_of names value) (told value)
  told_grows name val is = by_test (list_any (bytes_eq name) names) refl
    where
      by_test : (b : Bool) → list_any (bytes_eq name) names ≡ b → Some (value name) ≡ Some val
      by_test true same = subst (λ (b : Bool). cond b (Some (value name)) None ≡ Some val) same is
      by_test false same = absurd (none-some val (subst (λ (b : Bool). cond b (Some (value name)) None ≡ Some val) same is))

  -- a map of these names whose values are told is this one
  pub told_same : (vals : Vals) → Knows vals names → Grows vals (told value) → vals ≡ told_of names value
  told_same vals knows grows = λ i. λ name. same name (vals name) refl i
    where
      same : (name : List ℕ) (found : Option Val) → vals name ≡ found → vals name ≡ told_of names value name
      same name (Some val) is = is ∙ sym (grows name val is) ∙ sym (told_is name ((knows name).0 (ap is_some is)))
      same name None is = is ∙ unknown (told_of names value name) refl
        where
          unknown : (found : Option Val) → told_of names value name ≡ found → None ≡ told_of names value name
          unknown None none = sym none
          unknown (Some val) there = absurd (none-some val (sym is ∙ by_known ((knows name).1 (told_some name (ap is_some there)))))
            where
              by_known : IsSome (vals name) → vals name ≡ Some val
              by_known known = absurd (false≢true (subst (λ (found : Option Val). IsSome found) is known))

  -- a map of these names that the told values grow to is this one
  pub grown_same : (vals : Vals) → Knows vals names → Grows (told_of names value) vals → vals ≡ told_of names value
  grown_same vals knows grows = λ i. λ name. same name (list_any (bytes_eq name) names) refl i
    where
      same : (name : List ℕ) (b : Bool) → list_any (bytes_eq name) names ≡ b → vals name ≡ told_of names value name
      same name true is = grows name (value name) (told_is name (is_among name names is)) ∙ sym (told_is name (is_among name names is))
      same name false is = by_value (vals name) refl
        where
          by_value : (found : Option Val) → vals name ≡ found → vals name ≡ told_of names value name
          by_value None none = none ∙ rw is refl
          by_value (Some val) there = absurd (true≢false (sym (among_is name names ((knows name).0 (ap is_some there))) ∙ is))

-- ---- parameters

abbrev pub Holds : Vals → List Param → List ℕ → Type 0
Holds vals params args = AllZip (λ param arg. vals param.name ≡ Some (ranged param.range arg)) params args

abbrev names_of_params : List Param → List (List ℕ)
names_of_params params = map (λ param. param.name) params

-- two maps that hold the same arguments have the same values for the parameters
pub params_same : (vals other : Vals) (params : List Param) (args : List ℕ) → Holds vals params args → Holds other params args → (name : List ℕ) → Contains (names_of_params params) name → vals name ≡ other name
params_same vals other [] args holds holds_too name there = absurd (no_item name there)
params_same vals other (param ∷ params) [] holds holds_too name there = absurd holds
params_same vals other (param ∷ params) (arg ∷ args) holds holds_too name there =
    by_cases (params_same vals other params args holds.1 holds_too.1 name) (cons_cases param.name (names_of_params params) name there)
  where
    by_cases : (Contains (names_of_params params) name → vals name ≡ other name) → (param.name ≡ name) ⊎ Contains (names_of_params params) name → vals name ≡ other name
    by_cases rest (inl same) = subst (λ (n : List ℕ). vals n ≡ other n) same (holds.0 ∙ sym holds_too.0)
    by_cases rest (inr later) = rest later

-- a map that has the same values for the parameters holds them too
pub holds_same : (vals more : Vals) (params : List Param) (args : List ℕ) → ((name : List ℕ) → Contains (names_of_params params) name → more name ≡ vals name) → Holds vals params args → Holds more params args
holds_same vals more [] [] same holds = tt
holds_same vals more [] (arg ∷ args) same holds = holds
holds_same vals more (param ∷ params) [] same holds = holds
holds_same vals more (param ∷ params) (arg ∷ args) same holds =
    (same param.name (in_here param.name (names_of_params params)) ∙ holds.0, holds_same vals more params args (λ name there. same name (in_there param.name name (names_of_params params) there)) holds.1)
