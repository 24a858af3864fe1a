-- Paths that go on by one block, and that come to no block twice.
use Rattle.std.proofs.Common.{◌≡◌, ◌⊎◌, inl, inr, ℕ, List, [], ◌∷◌, ◌++◌, refl, sym, ◌∙◌, subst}
use Rattle.std.specs.Prelude.{Contains}
use Rattle.ll_tree.specs.declared.func.Func.{Func}
use Rattle.ll_flow.specs.declared.uses.Moment.{Moment}
use Rattle.ll_flow.specs.Paths.{GoesTo, GoesOn, IsPathTo, Runs, IsClosed, HasNoLoop}
use Rattle.ll_flow.specs.Uses.{ComesBefore, StandsOn}
use Rattle.ll_flow.proofs.PlaceLaws.{no_item, cons_cases}
use Rattle.ir_runs.proofs.MemberLaws.{in_here, in_there}

goes_on : (func : Func) (from : List ℕ) (rest : List (List ℕ)) (last next : List ℕ) → GoesOn func from rest last → GoesTo func last next → GoesOn func from (rest ++ next ∷ []) next
goes_on func from [] last next same goes = (subst (λ (name : List ℕ). GoesTo func name next) (sym same) goes, refl)
goes_on func from (other ∷ rest) last next path goes = (path.0, goes_on func other rest last next path.1 goes)

-- a path goes on by an edge
pub path_more : (func : Func) (path : List (List ℕ)) (last next : List ℕ) → IsPathTo func path last → GoesTo func last next → IsPathTo func (path ++ next ∷ []) next
path_more func [] last next path goes = absurd path
path_more func (first ∷ rest) last next path goes = (path.0, goes_on func first rest last next path.1 goes)

runs_to : (func : Func) (from : List ℕ) (rest : List (List ℕ)) (last next : List ℕ) → GoesOn func from rest last → GoesTo func last next → Runs func from rest next
runs_to func from [] last next same goes = subst (λ (name : List ℕ). GoesTo func name next) (sym same) goes
runs_to func from (other ∷ rest) last next path goes = (path.0, runs_to func other rest last next path.1 goes)

closes : (func : Func) (from : List ℕ) (rest : List (List ℕ)) (last next : List ℕ) → GoesOn func from rest last → GoesTo func last next → Contains (from ∷ rest) next → (cycle : List (List ℕ)) × IsClosed func cycle
closes func from [] last next same goes there = by_cases (cons_cases from [] next there)
  where
    by_cases : (from ≡ next) ⊎ Contains [] next → (cycle : List (List ℕ)) × IsClosed func cycle
    by_cases (inl is) = (next ∷ [], subst (λ (name : List ℕ). GoesTo func name next) (sym same ∙ is) goes)
    by_cases (inr none) = absurd (no_item next none)
closes func from (other ∷ rest) last next path goes there = by_cases (closes func other rest last next path.1 goes) (cons_cases from (other ∷ rest) next there)
  where
    by_cases : (Contains (other ∷ rest) next → (cycle : List (List ℕ)) × IsClosed func cycle) → (from ≡ next) ⊎ Contains (other ∷ rest) next → (cycle : List (List ℕ)) × IsClosed func cycle
    by_cases more (inl is) = (from ∷ other ∷ rest, subst (λ (name : List ℕ). Runs func from (other ∷ rest) name) (sym is) (runs_to func from (other ∷ rest) last next path goes))
    by_cases more (inr later) = more later

-- where there is no loop, an edge from the end of a path leads to a block that isn't on it
pub no_return : (func : Func) → HasNoLoop func → (path : List (List ℕ)) (last next : List ℕ) → IsPathTo func path last → GoesTo func last next → Contains path next → ⊥
no_return func none [] last next path goes there = no_item next there
no_return func none (first ∷ rest) last next path goes there =
    let closed = closes func first rest last next path.1 goes there in
    none closed.0 closed.1

-- what stands on a path stands in one of its blocks
pub stands_in : (label : List ℕ) (item : ℕ) (moment : Moment) (path : List (List ℕ)) → StandsOn label item moment path → Contains path label
stands_in label item moment [] on = absurd on
stands_in label item moment (last ∷ []) on = subst (λ (name : List ℕ). Contains (last ∷ []) name) on.0 (in_here last [])
stands_in label item moment (first ∷ next ∷ rest) (inl same) = subst (λ (name : List ℕ). Contains (first ∷ next ∷ rest) name) same (in_here first (next ∷ rest))
stands_in label item moment (first ∷ next ∷ rest) (inr later) = in_there first label (next ∷ rest) (stands_in label item moment (next ∷ rest) later)

-- in a block before the last, or in the last before the moment
pub stands_before : (label : List ℕ) (item : ℕ) (moment : Moment) (path : List (List ℕ)) (last : List ℕ) → StandsOn label item moment (path ++ last ∷ []) → Contains path label ⊎ ((last ≡ label) × ComesBefore item moment)
stands_before label item moment [] last on = inr on
stands_before label item moment (first ∷ []) last (inl same) = inl (subst (λ (name : List ℕ). Contains (first ∷ []) name) same (in_here first []))
stands_before label item moment (first ∷ []) last (inr later) = inr later
stands_before label item moment (first ∷ next ∷ rest) last (inl same) = inl (subst (λ (name : List ℕ). Contains (first ∷ next ∷ rest) name) same (in_here first (next ∷ rest)))
stands_before label item moment (first ∷ next ∷ rest) last (inr later) = by_cases (stands_before label item moment (next ∷ rest) last later)
  where
    by_cases : Contains (next ∷ rest) label ⊎ ((last ≡ label) × ComesBefore item moment) → Contains (first ∷ next ∷ rest) label ⊎ ((last ≡ label) × ComesBefore item moment)
    by_cases (inl there) = inl (in_there first label (next ∷ rest) there)
    by_cases (inr own) = inr own
