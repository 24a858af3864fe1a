-- Different labels, a case at a time.
use Rattle.std.proofs.Common.{◌≡◌, ◌<◌, ◌≤◌, ◌+◌, ℕ, Bool, true, false, cond, ◌||◌, List, [], ◌∷◌, length, get_or, drop, map, refl, sym, ◌∙◌, ap, arith}
use Rattle.std.specs.List.{list_any}
use Rattle.std.specs.Str.{bytes_eq}
use Rattle.std.proofs.lemmas.List.{drop_more}
use Rattle.ll_tree.specs.declared.block.Case.{Case}
use Rattle.ll_rules.specs.Limits.{count_distinct}

abbrev pub labels : List Case → List (List ℕ)
labels cases = map (λ (case : Case). case.to) cases

-- whether a label stands among those of cases
pub any_label : (label : List ℕ) (cases : List Case) → list_any (λ (other : List ℕ). bytes_eq other label) (labels cases) ≡ list_any (λ (case : Case). bytes_eq case.to label) cases
any_label label [] = refl
any_label label (case ∷ cases) = ap (λ b. bytes_eq case.to label || b) (any_label label cases)

-- 1 for a label that no later case has
abbrev pub one_where_new : Bool → ℕ
one_where_new is_there = cond is_there 0 1

-- one case less is left
pub distinct_more : (cases : List Case) (at : ℕ) (case : Case) → at < length cases → case ≡ get_or cases at case
    → count_distinct (labels (drop at cases)) ≡ one_where_new (list_any (λ (other : Case). bytes_eq other.to case.to) (drop (at + 1) cases)) + count_distinct (labels (drop (at + 1) cases))
distinct_more cases at case within is =
    let opened : drop at cases ≡ case ∷ drop (at + 1) cases = drop_more cases at case within ∙ ap (λ (first : Case). first ∷ drop (at + 1) cases) (sym is) in
    ap (λ (list : List Case). count_distinct (labels list)) opened
    ∙ ap (λ b. one_where_new b + count_distinct (labels (drop (at + 1) cases))) (any_label case.to (drop (at + 1) cases))

at_most_one : (b : Bool) → one_where_new b ≤ 1
at_most_one true = omega arith
at_most_one false = omega arith

-- a step of the count
pub case_step : (cases : List Case) (at count more total : ℕ) (later : List Case) (label : List ℕ) (there : Bool) (case : Case) → at < length cases → case ≡ get_or cases at case → label ≡ case.to → later ≡ drop (at + 1) cases
    → there ≡ list_any (λ (other : Case). bytes_eq other.to label) later → more ≡ one_where_new there → count ≤ at → count + count_distinct (labels (drop at cases)) ≡ total
    → (count + more ≤ at + 1) × (count + more + count_distinct (labels (drop (at + 1) cases)) ≡ total)
case_step cases at count more total later label there case within is is_label is_later is_there is_more few rest =
    let here : there ≡ list_any (λ (other : Case). bytes_eq other.to case.to) (drop (at + 1) cases) =
    is_there ∙ ap (λ (name : List ℕ). list_any (λ (other : Case). bytes_eq other.to name) later) is_label ∙ ap (λ (list : List Case). list_any (λ (other : Case). bytes_eq other.to case.to) list) is_later in
    let added : more ≡ one_where_new (list_any (λ (other : Case). bytes_eq other.to case.to) (drop (at + 1) cases)) = is_more ∙ ap one_where_new here in
    let opened = distinct_more cases at case within is in
    let small : more ≤ 1 = rw is_more (at_most_one there) in
    (omega (arith, small, few), omega (arith, added, opened, rest))

-- the targets of a switch: its default and those of its cases
pub switch_edges : (default label : List ℕ) (cases tested counted : List Case) (there : Bool) (edges more : ℕ) → label ≡ default → tested ≡ cases → counted ≡ cases → there ≡ list_any (λ (case : Case). bytes_eq case.to label) tested
    → edges ≡ count_distinct (labels counted) → more ≡ one_where_new there → edges + more ≡ count_distinct (default ∷ labels cases)
switch_edges default label cases tested counted there edges more is_label is_tested is_counted is_there is_edges is_more =
    let here : there ≡ list_any (λ (other : List ℕ). bytes_eq other default) (labels cases) =
    is_there ∙ ap (λ (name : List ℕ). list_any (λ (case : Case). bytes_eq case.to name) tested) is_label ∙ ap (λ (list : List Case). list_any (λ (case : Case). bytes_eq case.to default) list) is_tested ∙ sym (any_label default cases) in
    let first : more ≡ one_where_new (list_any (λ (other : List ℕ). bytes_eq other default) (labels cases)) = is_more ∙ ap one_where_new here in
    let others : edges ≡ count_distinct (labels cases) = is_edges ∙ ap (λ (list : List Case). count_distinct (labels list)) is_counted in
    omega (arith, first, others)
