-- Portions lie one behind the other, and what a path spends in them is what it spends in all blocks.
use Rattle.std.proofs.Common.{◌≡◌, ◌<◌, ◌≤◌, ◌+◌, ◌&&◌, ℕ, zero, suc, List, [], ◌∷◌, length, get_or, Bool, true, false, not, cond, ltb, leb, refl, sym, ◌∙◌, ap, subst, arith}
use Rattle.std.specs.Prelude.{sum_by}
use Rattle.std.specs.List.{All, filter, range_with_len}
use Rattle.std.proofs.lemmas.Bool.{cond_both}
use Rattle.std.proofs.lemmas.Bool.Decides.{nat_tests}
use Rattle.std.proofs.lemmas.List.Folds.{list_any_none}
use Rattle.std.proofs.lemmas.List.Sums.{sum_by-cons}
use Rattle.flow_graph.specs.declared.edge.Edge.{Edge}
use Rattle.flow_rules.proofs.OrderLaws.{flow_forward}
use Rattle.ll_verifier.specs.Sound.{SoundFunc, IsSound}
use Rattle.portion_cuts.specs.declared.portion.Portion.{Portion}
use Rattle.portion_cuts.specs.Paths.{PositionCosts, is_in, spends}
use Rattle.portion_cuts.specs.Portions.{portion, passes_over, is_cut, between, portions_of, Cover}

-- ---- cuts at both ends

before_all : (from to : ℕ) → (ltb from 0 && ltb 0 to) ≡ false
before_all from to = grind (arith, nat_tests)

behind_all : (from to at : ℕ) → to < at → (ltb from at && ltb at to) ≡ false
behind_all from to at low = grind (arith, nat_tests)

cut_first : (edges : List Edge) → is_cut edges 0 ≡ true
cut_first edges = ap not (list_any_none (passes_over 0) edges (λ k d low. before_all (get_or edges k d).from (get_or edges k d).to))

cut_last : (edges : List Edge) (at : ℕ) → All (λ edge. edge.to < at) edges → is_cut edges at ≡ true
cut_last edges at within = ap not (list_any_none (passes_over at) edges (λ k d low. behind_all (get_or edges k d).from (get_or edges k d).to at (within k d low)))

-- ---- neighbouring cuts

module _ (test : ℕ → Bool) where
  cover_on : (count start from : ℕ) → from < start → test (start + count) ≡ true → Cover from (between (from ∷ filter test (range_with_len start (suc count)))) (start + count)
  cover_on zero start from low last =
      let here : test start ≡ true = subst (λ (n : ℕ). test n ≡ true) (omega arith) last in
      let goal : Cover from (between (from ∷ cond (test start) (start ∷ []) [])) start = subst (λ (b : Bool). Cover from (between (from ∷ cond b (start ∷ []) [])) start) (sym here) (refl, low, refl) in
      subst (Cover from (between (from ∷ filter test (range_with_len start 1)))) (omega arith) goal
  cover_on (suc count) start from low last =
      let further : test ((start + 1) + count) ≡ true = subst (λ (n : ℕ). test n ≡ true) (omega arith) last in
      let rest = filter test (range_with_len (start + 1) (suc count)) in
      let end : (start + 1) + count ≡ start + suc count = omega arith in
      let all : Cover from (between (from ∷ cond (test start) (start ∷ rest) rest)) ((start + 1) + count) =
      cond_both (test start) (start ∷ rest) rest (λ (list : List ℕ). Cover from (between (from ∷ list)) ((start + 1) + count))
      (λ yes. (refl, low, cover_on count (start + 1) start (omega arith) further))
      (λ no. cover_on count (start + 1) from (omega (arith, low)) further) in
      subst (Cover from (between (from ∷ cond (test start) (start ∷ rest) rest))) end all

  cover_all : (count : ℕ) → 0 < count → test 0 ≡ true → test count ≡ true → Cover 0 (between (filter test (range_with_len 0 (suc count)))) count
  cover_all zero some first last = absurd (omega (arith, some))
  cover_all (suc count) some first last =
      let rest = filter test (range_with_len 1 (suc count)) in
      let further : test (1 + count) ≡ true = subst (λ (n : ℕ). test n ≡ true) (omega arith) last in
      let end : 1 + count ≡ suc count = omega arith in
      let all : Cover 0 (between (cond (test 0) (0 ∷ rest) rest)) (1 + count) = subst (λ (b : Bool). Cover 0 (between (cond b (0 ∷ rest) rest)) (1 + count)) (sym first) (cover_on count 1 0 (omega arith) further) in
      subst (Cover 0 (between (cond (test 0) (0 ∷ rest) rest))) end all

pub covers : (it : SoundFunc) → IsSound it → Cover 0 (portions_of it) (length it.flow.order)
covers it sound =
    let forward = flow_forward (length it.func.blocks) it.flow sound.flow.flow in
    let more : suc (length it.flow.order) ≡ length it.flow.order + 1 = omega arith in
    subst (λ (n : ℕ). Cover 0 (between (filter (is_cut it.flow.edges) (range_with_len 0 n))) (length it.flow.order)) more
    (cover_all (is_cut it.flow.edges) (length it.flow.order) (omega (arith, sound.flow.entry, sound.flow.flow.size)) (cut_first it.flow.edges) (cut_last it.flow.edges (length it.flow.order) forward.within))

-- ---- sums over portions

-- two portions and both together
pub record AreJoined (first second both : Portion) : Type 0 where
  pub meet : first.to.0 ≡ second.from.0
  pub start : both.from.0 ≡ first.from.0
  pub end : both.to.0 ≡ second.to.0
  pub first_order : first.from.0 ≤ first.to.0
  pub second_order : second.from.0 ≤ second.to.0

part_of : (a b c at cost : ℕ) → a ≤ b → b ≤ c → cond (leb a at && ltb at b) cost 0 + cond (leb b at && ltb at c) cost 0 ≡ cond (leb a at && ltb at c) cost 0
part_of a b c at cost low high = grind (arith, nat_tests)

joined_at : (first second both : Portion) → AreJoined first second both → (at cost : ℕ) → cond (is_in first at) cost 0 + cond (is_in second at) cost 0 ≡ cond (is_in both at) cost 0
joined_at first second both are at cost =
    let sum = part_of first.from.0 first.to.0 second.to.0 at cost are.first_order (omega (arith, are.meet, are.second_order)) in
    let middle : cond (is_in first at) cost 0 + cond (leb first.to.0 at && ltb at second.to.0) cost 0 ≡ cond (is_in first at) cost 0 + cond (is_in second at) cost 0 = ap (λ (n : ℕ). cond (is_in first at) cost 0 + cond (leb n at && ltb at second.to.0) cost 0) are.meet in
    let ends : cond (leb first.from.0 at && ltb at second.to.0) cost 0 ≡ cond (is_in both at) cost 0 = ap (λ (n : ℕ). cond (leb n at && ltb at second.to.0) cost 0) (sym are.start) ∙ ap (λ (n : ℕ). cond (leb both.from.0 at && ltb at n) cost 0) (sym are.end) in
    sym middle ∙ sum ∙ ends

nowhere : (edge : Portion) → edge.to.0 ≤ edge.from.0 → (at cost : ℕ) → cond (is_in edge at) cost 0 ≡ 0
nowhere edge order at cost = none edge.from.0 edge.to.0 order
  where
    none : (a b : ℕ) → b ≤ a → cond (leb a at && ltb at b) cost 0 ≡ 0
    none a b low = grind (arith, nat_tests)

module _ (costs : PositionCosts) where
  joined : (first second both : Portion) → AreJoined first second both → (path : List ℕ) → spends costs first path + spends costs second path ≡ spends costs both path
  joined first second both are [] = refl
  joined first second both are (last ∷ []) = joined_at first second both are last (costs.block last)
  joined first second both are (at ∷ next ∷ rest) =
      let here = joined_at first second both are at (costs.block at + costs.edge at next) in
      omega (arith, here, joined first second both are (next ∷ rest))

  spends_none : (empty : Portion) → empty.to.0 ≤ empty.from.0 → (path : List ℕ) → spends costs empty path ≡ 0
  spends_none empty order [] = refl
  spends_none empty order (last ∷ []) = nowhere empty order last (costs.block last)
  spends_none empty order (at ∷ next ∷ rest) = omega (arith, nowhere empty order at (costs.block at + costs.edge at next), spends_none empty order (next ∷ rest))

  cover_order : (from : ℕ) (portions : List Portion) (to : ℕ) → Cover from portions to → from ≤ to
  cover_order from [] to cover = omega (arith, cover)
  cover_order from (first ∷ portions) to cover = omega (arith, cover.1, cover_order first.to.0 portions to cover.2)

  pub sum_of : (path : List ℕ) (from : ℕ) (portions : List Portion) (to : ℕ) → Cover from portions to → sum_by (λ portion. spends costs portion path) portions ≡ spends costs (portion from to) path
  sum_of path from [] to cover = sym (spends_none (portion from to) (omega (arith, cover)) path)
  sum_of path from (first ∷ portions) to cover =
      let rest = sum_of path first.to.0 portions to cover.2 in
      let both = joined first (portion first.to.0 to) (portion from to) (record { meet = refl; start = sym cover.0; end = refl; first_order = omega (arith, cover.0, cover.1); second_order = cover_order first.to.0 portions to cover.2 }) path in
      sum_by-cons (λ (portion : Portion). spends costs portion path) first portions ∙ ap (λ (n : ℕ). spends costs first path + n) rest ∙ both
