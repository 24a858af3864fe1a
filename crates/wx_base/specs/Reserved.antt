-- A list with reserved room, as contracts see it.
use Rattle.std.specs.Prelude.{ℕ, List, refl}
use Rattle.std.specs.Coded.{Coded, code_by, coded×, coded_list, coded_ℕ}

-- the items, and how many there is room for in all
pub record Roomy (A : Type 0) : Type 0 where
  pub items : List A
  pub room : ℕ

abbrev pub roomy_code : {A : Type 0} → Coded A → Coded (Roomy A)
roomy_code {A} code = code_by (List A × ℕ) (coded× (coded_list code) coded_ℕ) (λ list. (list.items, list.room)) (λ pair. record { items = pair.0; room = pair.1 }) (λ _. refl)
