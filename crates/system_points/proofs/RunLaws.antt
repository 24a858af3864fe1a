-- The arguments at a point, and what a path costs.
use Rattle.std.proofs.Common.{◌≡◌, ◌<◌, ◌≤◌, ◌&&◌, ◌+◌, ℕ, ℤ, pos, negsuc, suc, Bool, true, cond, leb, ltb, List, [], ◌∷◌, length, get_or, take, map, refl, sym, ap, arith}
use Rattle.std.specs.Prelude.{◌≤ℤ◌, Contains, All, zip, unsigned_abs}
use Rattle.std.proofs.lemmas.Int.{ints}
use Rattle.std.proofs.lemmas.Bool.Decides.{nat_tests}
use Rattle.std.proofs.lemmas.List.Elements.{All-nil, All-cons}
use Rattle.mix_system.specs.Row.{number_at}
use Rattle.ll_tree.specs.declared.func.Param.{Param}
use Rattle.ll_verifier.specs.Sound.{SoundFunc, IsSound}
use Rattle.ir_runs.proofs.MemberLaws.{in_here, in_there}
use Rattle.portion_cuts.specs.Paths.{PositionCosts, IsPath, spends_in, is_in}
use Rattle.portion_cuts.specs.Portions.{whole}
use Rattle.wrap_rows.specs.declared.vars.ValueVars.{ValueVars}
use Rattle.path_encoding.specs.Spots.{value_vars}
use Rattle.point_runs.proofs.BlocksLaws.{path_low}
use Rattle.piece_values.specs.Ready.{IsArgument}

-- ---- arguments

size_of : (number : ℤ) → pos 0 ≤ℤ number → number ≡ pos (unsigned_abs number)
size_of (pos n) some = refl
size_of (negsuc n) some = absurd (omega (arith, ints, some))

module _ (point : List ℤ) where
  abbrev argument : ValueVars → ℕ
  argument vars = unsigned_abs (number_at point vars.number)

  pub all_given : (params : List Param) (values : List ValueVars) → length params ≤ length values → ((k : ℕ) → k < length params → pos 0 ≤ℤ number_at point (get_or values k (value_vars 0 0)).number)
      → All (IsArgument point) (zip (zip params (map argument (take (length params) values))) values)
  all_given [] values few some = All-nil (IsArgument point)
  all_given (param ∷ params) [] few some = absurd (omega (arith, few))
  all_given (param ∷ params) (vars ∷ values) few some =
      All-cons (IsArgument point) ((param, argument vars), vars) (zip (zip params (map argument (take (length params) values))) values) (size_of (number_at point vars.number) (some 0 (omega arith)))
      (all_given params values (omega (arith, few)) (λ k low. some (suc k) (omega (arith, low))))

-- ---- costs

module _ (costs : PositionCosts) (inside other : ℕ → Bool) where
  pub same_spent : (path : List ℕ) → ((at : ℕ) → Contains path at → inside at ≡ other at) → spends_in costs inside path ≡ spends_in costs other path
  same_spent [] same = refl
  same_spent (last ∷ []) same = ap (λ (b : Bool). cond b (costs.block last) 0) (same last (in_here last []))
  same_spent (at ∷ next ∷ rest) same =
      let here = ap (λ (b : Bool). cond b (costs.block at + costs.edge at next) 0) (same at (in_here at (next ∷ rest))) in
      let later = same_spent (next ∷ rest) (λ one there. same one (in_there at one (next ∷ rest) there)) in
      λ i. here i + later i

all_inside : (count at : ℕ) → at < count → (leb 0 at && ltb at count) ≡ true
all_inside count at low = grind (arith, nat_tests, low)

module _ (it : SoundFunc) (sound : IsSound it) (costs : PositionCosts) (path : List ℕ) (is : IsPath it.flow.edges path) where
  pub all_spent : spends_in costs (λ at. true) path ≡ spends_in costs (is_in (whole it)) path
  all_spent = same_spent costs (λ at. true) (is_in (whole it)) path (λ at there. sym (all_inside (length it.flow.order) at (path_low it sound path is at there)))
