-- A line says one thing.
use Rattle.std.proofs.Common.{◌≡◌, ◌<◌, ◌^◌, ℕ, true, false, List, ◌∷◌, ◌++◌, get_or, Some, refl, sym, ◌∙◌, arith}
use Rattle.std.specs.Fmt.{decimal}
use Rattle.std.proofs.lemmas.Bool.{true≢false}
use Rattle.std.proofs.lemmas.Fmt.{decimal_nonempty}
use Rattle.std.proofs.lemmas.Option.{same_Some}
use Rattle.ll_token.specs.Scan.{IsLocalName}
use Rattle.cost_table.specs.Digits.{is_digit}
use Rattle.cost_table.specs.Lines.{is_idle, IsNamedCost, IsEdgeLine, Says, IsEdge}
use Rattle.cost_table.specs.declared.line.Said.{Said}
use Rattle.cost_table.specs.declared.line.Said.TheVariants as words
use Rattle.cost_table.proofs.DigitLaws.{decimal_digits}
use Rattle.cost_table.proofs.NameLaws.{split_back}

-- a line with a name at its front isn't idle
pub not_idle : (line written rest name : List ℕ) → line ≡ written ++ 32 ∷ rest → IsLocalName written name → is_idle line ≡ true → ⊥
not_idle line written rest name form local idle =
    let no : is_idle line ≡ false = rw (form, local.1) refl in
    true≢false (sym idle ∙ no)

-- a decimal doesn't begin as a name does
not_name : (cost : ℕ) (written rest name : List ℕ) → cost < 2 ^ 32 → decimal cost ≡ written ++ 32 ∷ rest → IsLocalName written name → ⊥
not_name cost written rest name small form local =
    let few : cost < 2 ^ 64 = omega (arith, small) in
    let digit = decimal_digits cost few 0 0 (decimal_nonempty cost few) in
    let first : get_or (decimal cost) 0 0 ≡ 37 = rw (form, local.1) refl in
    let is : is_digit 37 ≡ true = rw first at digit in
    true≢false (sym is)

pub not_both : (line name from to : List ℕ) (cost other : ℕ) → IsNamedCost line name cost → IsEdgeLine line from to other → ⊥
not_both line name from to cost other named edge =
    let back = split_back line named.written (decimal cost) name named.form named.named in
    let rest = split_back line edge.written edge.rest from edge.form edge.named in
    not_name cost edge.to_and_cost.written (decimal other) to named.small (sym back ∙ rest ∙ edge.to_and_cost.form) edge.to_and_cost.named

pub idle_alone : (line : List ℕ) → is_idle line ≡ true → (other : Said) → Says line other → other ≡ words.Nothing
idle_alone line idle words.Nothing says = refl
idle_alone line idle (words.Block label cost) says = absurd (not_idle line says.written (decimal cost) label says.form says.named idle)
idle_alone line idle (words.Edge from to cost) says = absurd (not_idle line says.written says.rest from says.form says.named idle)

-- nothing else reads as a name and a cost
abbrev pub IsOnlyNamed : List ℕ → List ℕ × ℕ → Type 0
IsOnlyNamed line named = (name : List ℕ) (cost : ℕ) → IsNamedCost line name cost → (let other : List ℕ × ℕ = (name, cost) in Some named ≡ Some other)

pub block_alone : (line label : List ℕ) (cost : ℕ) → IsNamedCost line label cost → IsOnlyNamed line (label, cost) → (other : Said) → Says line other → other ≡ words.Block label cost
block_alone line label cost named alone words.Nothing says = absurd (not_idle line named.written (decimal cost) label named.form named.named says)
block_alone line label cost named alone (words.Block name other) says =
    let both = same_Some (label, cost) (name, other) (alone name other says) in
    sym (λ i. words.Block (both i).0 (both i).1)
block_alone line label cost named alone (words.Edge from to other) says = absurd (not_both line label from to cost other named says)

-- where nothing reads as a name and a cost, an edge is said alone
pub edge_alone : (line : List ℕ) (said : Said) → (is_idle line ≡ true → ⊥) → ((name : List ℕ) (cost : ℕ) → IsNamedCost line name cost → ⊥) → IsEdge line said
    → ((from to : List ℕ) (cost : ℕ) → IsEdgeLine line from to cost → Some said ≡ Some (words.Edge from to cost)) → Says line said × ((other : Said) → Says line other → other ≡ said)
edge_alone line words.Nothing active none edge alone = absurd edge
edge_alone line (words.Block label cost) active none edge alone = absurd edge
edge_alone line (words.Edge from to cost) active none edge alone = (edge, others)
  where
    others : (other : Said) → Says line other → other ≡ words.Edge from to cost
    others words.Nothing says = absurd (active says)
    others (words.Block name other) says = absurd (none name other says)
    others (words.Edge from' to' cost') says = sym (same_Some (words.Edge from to cost) (words.Edge from' to' cost') (alone from' to' cost' says))

pub no_form : (line : List ℕ) → (is_idle line ≡ true → ⊥) → ((name : List ℕ) (cost : ℕ) → IsNamedCost line name cost → ⊥) → ((from to : List ℕ) (cost : ℕ) → IsEdgeLine line from to cost → ⊥) → (said : Said) → Says line said → ⊥
no_form line active none no_edge words.Nothing says = active says
no_form line active none no_edge (words.Block name cost) says = none name cost says
no_form line active none no_edge (words.Edge from to cost) says = no_edge from to cost says
