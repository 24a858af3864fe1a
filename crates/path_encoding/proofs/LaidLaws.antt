-- Clauses that a loop lays, a piece a turn.
use Rattle.std.proofs.Common.{◌≡◌, ◌<◌, ◌≤◌, ◌+◌, ℕ, List, [], ◌∷◌, ◌++◌, length, get_or, take, map, append-nil, append_assoc, refl, sym, ◌∙◌, ap, arith}
use Rattle.std.specs.Prelude.{flat_map}
use Rattle.std.proofs.lemmas.List.{take_all, length-map, length-append}
use Rattle.std.proofs.lemmas.List.Folds.{length-flat_map-take}
use Rattle.mix_system.specs.declared.literal.Lit.{Lit}
use Rattle.mix_system.specs.System.{System}
use Rattle.path_encoding.proofs.LayingLaws.{flat_more}

-- the pieces of the first so many stand behind the clauses of the first system
abbrev pub Laid : {X : Type 0} → (List Lit → List Lit) → (X → List (List Lit)) → List X → System → System → ℕ → Type 0
Laid g f xs old now i = now ≡ record old { clauses = old.clauses ++ map g (flat_map f (take i xs)) }

abbrev with_clauses : System → List (List Lit) → System
with_clauses old clauses = record old { clauses = clauses }

take_none : {X : Type 0} (xs : List X) → take 0 xs ≡ []
take_none [] = refl
take_none (x ∷ xs) = refl

module _ {X : Type 0} (g : List Lit → List Lit) (f : X → List (List Lit)) (xs : List X) (old : System) where
  pub laid_none : Laid g f xs old old 0
  laid_none = ap (with_clauses old) (sym (ap (λ (front : List X). old.clauses ++ map g (flat_map f front)) (take_none xs) ∙ append-nil old.clauses))

  pub laid_more : (now new : System) (i : ℕ) (x : X) → Laid g f xs old now i → i < length xs → new ≡ record now { clauses = now.clauses ++ map g (f (get_or xs i x)) } → Laid g f xs old new (i + 1)
  laid_more now new i x so_far low step =
      step
      ∙ ap {A = System} (λ s. record s { clauses = s.clauses ++ map g (f (get_or xs i x)) }) so_far
      ∙ ap (with_clauses old) (append_assoc old.clauses (map g (flat_map f (take i xs))) (map g (f (get_or xs i x))) ∙ ap (λ (behind : List (List Lit)). old.clauses ++ behind) (sym (flat_more g f xs i x low)))

  pub laid_skip : (now : System) (i : ℕ) (x : X) → Laid g f xs old now i → i < length xs → f (get_or xs i x) ≡ [] → Laid g f xs old now (i + 1)
  laid_skip now i x so_far low none =
      so_far
      ∙ ap (with_clauses old)
      (sym (ap (λ (behind : List (List Lit)). old.clauses ++ behind) (flat_more g f xs i x low ∙ ap (λ (piece : List (List Lit)). map g (flat_map f (take i xs)) ++ map g piece) none ∙ append-nil (map g (flat_map f (take i xs))))))

  pub laid_all : (now : System) (i : ℕ) → Laid g f xs old now i → length xs ≤ i → now ≡ record old { clauses = old.clauses ++ map g (flat_map f xs) }
  laid_all now i so_far past = so_far ∙ ap (λ (all : List X). with_clauses old (old.clauses ++ map g (flat_map f all))) (take_all i xs past)

  pub laid_room : (now : System) (i : ℕ) (x : X) → Laid g f xs old now i → i < length xs → length now.clauses + length (f (get_or xs i x)) ≤ length old.clauses + length (flat_map f xs)
  laid_room now i x so_far low =
      let here = ap {A = System} (λ s. length s.clauses) so_far in
      let both = length-append old.clauses (map g (flat_map f (take i xs))) in
      let mapped = length-map (flat_map f (take i xs)) g in
      omega (arith, here, both, mapped, length-flat_map-take f xs i x low)

  pub laid_same : (now : System) (i : ℕ) → Laid g f xs old now i → (now.ranges ≡ old.ranges) × (now.rows ≡ old.rows)
  laid_same now i so_far = (ap {A = System} (λ s. s.ranges) so_far, ap {A = System} (λ s. s.rows) so_far)
