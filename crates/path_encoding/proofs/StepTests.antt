-- A loop that looks a path through for an edge.
use Rattle.std.proofs.Common.{◌≡◌, ◌<◌, ◌≤◌, ◌+◌, ◌-◌, ◌&&◌, ◌||◌, ℕ, eqb, Bool, false, List, [], ◌∷◌, length, get_or, drop, refl, sym, ◌∙◌, ap, arith}
use Rattle.std.proofs.lemmas.List.{drop_more, length-drop}
use Rattle.ll_links.specs.declared.link.Position.{Position}
use Rattle.ll_verifier.specs.declared.order.PositionEdge.{PositionEdge}
use Rattle.path_encoding.specs.Paths.{positions}
use Rattle.path_encoding.specs.Filled.{is_step}

abbrev steps_from : List Position → ℕ → PositionEdge → Bool
steps_from path i edge = is_step (positions (drop i path)) edge

abbrev pub joins : PositionEdge → Position → Position → Bool
joins edge from to = eqb edge.from.0 from.0 && eqb edge.to.0 to.0

module _ (path : List Position) (edge : PositionEdge) (i : ℕ) (position : Position) (some : 1 ≤ i) (low : i < length path) where
  abbrev pub first : Position
  first = get_or path (i - 1) position

  abbrev pub next : Position
  next = get_or path i position

  two : drop (i - 1) path ≡ first ∷ next ∷ drop (i + 1) path
  two =
      let same : i - 1 + 1 ≡ i = omega (arith, some) in
      drop_more path (i - 1) position (omega (arith, low)) ∙ ap (λ (n : ℕ). first ∷ drop n path) same ∙ ap (λ (rest : List Position). first ∷ rest) (drop_more path i position low)

  step_here : steps_from path (i - 1) edge ≡ (joins edge first next || steps_from path i edge)
  step_here =
      ap (λ (rest : List Position). is_step (positions rest) edge) two
      ∙ ap (λ (rest : List Position). joins edge first next || is_step (positions rest) edge) (sym (drop_more path i position low))

  pub step_on : joins edge first next ≡ false → steps_from path i edge ≡ steps_from path (i - 1) edge
  step_on other = sym (step_here ∙ ap (λ (b : Bool). b || steps_from path i edge) other)

pub step_nowhere : (path : List Position) (edge : PositionEdge) (i : ℕ) → 1 ≤ i → length path ≤ i → steps_from path (i - 1) edge ≡ false
step_nowhere path edge i some past = alone (drop (i - 1) path) (omega (arith, length-drop (i - 1) path, some, past))
  where
    alone : (rest : List Position) → length rest ≤ 1 → is_step (positions rest) edge ≡ false
    alone [] few = refl
    alone (position ∷ []) few = refl
    alone (position ∷ other ∷ rest) few = absurd (omega (arith, few))
