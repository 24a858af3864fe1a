-- The cases of a switch have different numbers.
use Rattle.std.proofs.Common.{◌≡◌, ◌||◌, ⊎_elim, ℕ, eqb, Bool, true, false, cond, List, [], ◌∷◌, ◌++◌, map, length, Option, Some, None, append_assoc, refl, sym, ◌∙◌, ap, subst}
use Rattle.std.specs.Prelude.{is_some}
use Rattle.std.specs.Map.{lookup}
use Rattle.std.specs.List.{Contains}
use Rattle.std.proofs.lemmas.Bool.{true≢false}
use Rattle.std.proofs.lemmas.Bool.Decides.{Decides-eqb}
use Rattle.std.proofs.lemmas.List.Elements.{All-contains}
use Rattle.ll_tree.specs.declared.func.Func.{Func}
use Rattle.ll_tree.specs.declared.block.Block.{Block}
use Rattle.ll_tree.specs.declared.block.Case.{Case}
use Rattle.ll_rules.specs.Items.{Item, OfPhi, OfInstr, OfEnd}
use Rattle.ll_items.specs.Sites.{Site, sites_of}
use Rattle.ll_item_rules.specs.Cases.{has_number, repeated_after, end_repeated}
use Rattle.ll_flow.proofs.PlaceLaws.{no_item, cons_cases}
use Rattle.ll_verifier.specs.Rules.{Rules, repeats_case}
use Rattle.ir_runs.proofs.EntryLaws.{item_site}
use Rattle.ir_runs.proofs.MemberLaws.{in_map}
use Rattle.ir_runs.proofs.SiteLaws.{site_at}

-- no terminator of a block has a number twice
pub none_repeated : (func : Func) → Rules func → (block : Block) → Contains func.blocks block → end_repeated block.end ≡ None
none_repeated func rules block there =
    let front : List Item = map OfPhi block.phis ++ map OfInstr block.body in
    let at = item_site func rules block there front [] (OfEnd block.end) (sym (append_assoc (map OfPhi block.phis) (map OfInstr block.body) (OfEnd block.end ∷ []))) in
    let fails = All-contains (λ (site : Site). repeats_case site ≡ false) (sites_of func) (site_at at.0 (length front) (OfEnd block.end)) rules.cases at.1 in
    none_number (end_repeated block.end) fails
  where
    none_number : (found : Option ℕ) → is_some found ≡ false → found ≡ None
    none_number None is = refl
    none_number (Some n) is = absurd (true≢false is)

any_more : (seen : List ℕ) (number other : ℕ) → has_number seen other ≡ true → has_number (seen ++ number ∷ []) other ≡ true
any_more [] number other is = absurd (true≢false (sym is))
any_more (first ∷ seen) number other is =
    (elim (eqb first other) as (λ (b : Bool). (b || has_number seen other) ≡ true → (b || has_number (seen ++ number ∷ []) other) ≡ true) [
      | true ↦ λ _. refl
      | false ↦ λ rest. any_more seen number other rest
    ]) is

last_seen : (seen : List ℕ) (number : ℕ) → has_number (seen ++ number ∷ []) number ≡ true
last_seen [] number = ap (λ (b : Bool). b || false) ((Decides-eqb number number).1 refl)
last_seen (first ∷ seen) number = elim (eqb first number) as (λ (b : Bool). (b || has_number (seen ++ number ∷ []) number) ≡ true) [ true ↦ refl | false ↦ last_seen seen number ]

-- none of those behind was seen
not_seen : (seen numbers : List ℕ) → repeated_after seen numbers ≡ None → (number : ℕ) → Contains numbers number → has_number seen number ≡ false
not_seen seen [] none number there = absurd (no_item number there)
not_seen seen (first ∷ numbers) none number there =
    (elim (has_number seen first) as (λ (b : Bool). has_number seen first ≡ b → cond b (Some first) (repeated_after (seen ++ first ∷ []) numbers) ≡ None → has_number seen number ≡ false) [
      | true ↦ λ is some. absurd (cc some)
      | false ↦ λ is rest. ⊎_elim (λ same. subst (λ (n : ℕ). has_number seen n ≡ false) same is) (λ later. unseen (has_number seen number) refl (not_seen (seen ++ first ∷ []) numbers rest number later)) (cons_cases first numbers number there)
    ]) refl none
  where
    unseen : (b : Bool) → has_number seen number ≡ b → has_number (seen ++ first ∷ []) number ≡ false → b ≡ false
    unseen true is later = absurd (true≢false (sym (any_more seen first number is) ∙ later))
    unseen false is later = refl

-- a case is the first with its number
found_after : (seen : List ℕ) (cases : List Case) → repeated_after seen (map (λ (case : Case). case.value) cases) ≡ None → (case : Case) → Contains cases case → lookup (λ value. eqb value case.value) (map (λ (case : Case). (case.value, case.to)) cases) ≡ Some case.to
found_after seen [] none case there = absurd (no_item case there)
found_after seen (first ∷ cases) none case there =
    let rest = rest_none (has_number seen first.value) none in
    ⊎_elim
    (λ same.
    let yes : eqb first.value case.value ≡ true = (Decides-eqb first.value case.value).1 (ap (λ (c : Case). c.value) same) in
    ap (λ (b : Bool). cond b (Some first.to) (lookup (λ value. eqb value case.value) (map (λ (case : Case). (case.value, case.to)) cases))) yes ∙ ap (λ (c : Case). Some c.to) same)
    (λ later.
    let fresh = not_seen (seen ++ first.value ∷ []) (map (λ (case : Case). case.value) cases) rest case.value (in_map (λ (case : Case). case.value) cases case later) in
    let no : eqb first.value case.value ≡ false = differs (eqb first.value case.value) refl fresh in
    ap (λ (b : Bool). cond b (Some first.to) (lookup (λ value. eqb value case.value) (map (λ (case : Case). (case.value, case.to)) cases))) no ∙ found_after (seen ++ first.value ∷ []) cases rest case later)
    (cons_cases first cases case there)
  where
    rest_none : (b : Bool) → cond b (Some first.value) (repeated_after (seen ++ first.value ∷ []) (map (λ (case : Case). case.value) cases)) ≡ None → repeated_after (seen ++ first.value ∷ []) (map (λ (case : Case). case.value) cases) ≡ None
    rest_none true some = absurd (cc some)
    rest_none false rest = rest

    differs : (b : Bool) → eqb first.value case.value ≡ b → has_number (seen ++ first.value ∷ []) case.value ≡ false → b ≡ false
    differs true is fresh = absurd (true≢false (sym (subst (λ (n : ℕ). has_number (seen ++ first.value ∷ []) n ≡ true) ((Decides-eqb first.value case.value).0 is) (last_seen seen first.value)) ∙ fresh))
    differs false is fresh = refl

pub found_case : (cases : List Case) → repeated_after [] (map (λ (case : Case). case.value) cases) ≡ None → (case : Case) → Contains cases case → lookup (λ value. eqb value case.value) (map (λ (case : Case). (case.value, case.to)) cases) ≡ Some case.to
found_case = found_after []
