-- Names counted by the places of labels.
use Rattle.std.proofs.Common.{◌≡◌, ◌<◌, ◌≤◌, ◌+◌, ℕ, suc, Bool, true, false, cond, List, [], ◌∷◌, ◌++◌, length, get_or, set, replicate, take, map, Bor, Option, Some, None, refl, sym, ◌∙◌, ap, subst, arith}
use Rattle.std.specs.Option.{option_map}
use Rattle.std.specs.Str.{bytes_eq}
use Rattle.std.proofs.lemmas.Slice.Eq.{bytes_eq-Decides}
use Rattle.std.proofs.lemmas.List.{get_or-map, length-map, length-take-le, map-append, take_more}
use Rattle.name_table.specs.Names.{place_of, AreDifferent}
use Rattle.name_table.proofs.DifferentLaws.{place_of-cons}
use Rattle.ll_phi_rules.specs.Phis.{times}
use Rattle.ll_phi_rules.specs.Counts.{counts_of}

abbrev is_one : List ℕ → List ℕ → ℕ
is_one name label = cond {A = ℕ} (bytes_eq name label) 1 0

-- ---- one name more

times-push : (label name : List ℕ) (names : List (List ℕ)) → times label (names ++ name ∷ []) ≡ times label names + is_one name label
times-push label name [] = omega arith
times-push label name (other ∷ names) = omega (arith, times-push label name names)

abbrev number_of : Option ℕ → ℕ
number_of None = 0
number_of (Some number) = number

none_some : (a : ℕ) → (◌≡◌ {A = Option ℕ} None (Some a)) → ⊥
none_some a e = cc

-- a name that is no label isn't counted
pub counted-none : (name : List ℕ) (names labels : List (List ℕ)) → None ≡ place_of name labels → counts_of labels (names ++ name ∷ []) ≡ counts_of labels names
counted-none name names [] e = refl
counted-none name names (label ∷ labels) e =
    let apart : (bytes_eq name label ≡ false) × (place_of name labels ≡ None) = place_of-cons name label labels (sym e) in
    let same : times label (names ++ name ∷ []) ≡ times label names = omega (arith, times-push label name names, ap (λ b. cond {A = ℕ} b 1 0) apart.0) in
    rw (same, counted-none name names labels (sym apart.1)) refl

abbrev raised : List ℕ → ℕ → List ℕ
raised counts place = set counts place (get_or counts place 0 + 1)

-- a label is counted at its place, and nowhere else
pub counted-some : (name : List ℕ) (names labels : List (List ℕ)) (place : ℕ) → AreDifferent labels → Some place ≡ place_of name labels
    → counts_of labels (names ++ name ∷ []) ≡ raised (counts_of labels names) place
counted-some name names [] place d e = absurd (none_some place (sym e))
counted-some name names (label ∷ labels) place d e =
    (elim (bytes_eq name label) as (λ b. bytes_eq name label ≡ b → Some place ≡ cond {A = Option ℕ} b (Some 0) (option_map suc (place_of name labels)) → counts_of (label ∷ labels) (names ++ name ∷ []) ≡ raised (counts_of (label ∷ labels) names) place) [
      | true ↦ λ test found. here test (ap number_of found)
      | false ↦ λ test found. later test (counted-some name names labels) (place_of name labels) refl found
    ]) refl e
  where
    here : bytes_eq name label ≡ true → place ≡ 0 → counts_of (label ∷ labels) (names ++ name ∷ []) ≡ raised (counts_of (label ∷ labels) names) place
    here test first =
        let more : times label (names ++ name ∷ []) ≡ times label names + 1 = omega (arith, times-push label name names, ap (λ b. cond {A = ℕ} b 1 0) test) in
        let absent : None ≡ place_of name labels = subst (λ (n : List ℕ). None ≡ place_of n labels) (sym ((bytes_eq-Decides name label).0 test)) (sym d.0) in
        rw (first, more, counted-none name names labels absent) refl

    later : bytes_eq name label ≡ false → ((p : ℕ) → AreDifferent labels → Some p ≡ place_of name labels → counts_of labels (names ++ name ∷ []) ≡ raised (counts_of labels names) p)
        → (o : Option ℕ) → place_of name labels ≡ o → Some place ≡ option_map suc o → counts_of (label ∷ labels) (names ++ name ∷ []) ≡ raised (counts_of (label ∷ labels) names) place
    later test rest None is found = absurd (none_some place (sym found))
    later test rest (Some p) is found =
        let same : times label (names ++ name ∷ []) ≡ times label names = omega (arith, times-push label name names, ap (λ b. cond {A = ℕ} b 1 0) test) in
        let behind : place ≡ suc p = ap number_of found in
        rw (behind, same, rest p d.1 (sym is)) refl

-- no name is counted yet
pub counted-nothing : (labels : List (List ℕ)) → replicate (length labels) 0 ≡ counts_of labels []
counted-nothing [] = refl
counted-nothing (label ∷ labels) = ap (λ (l : List ℕ). 0 ∷ l) (counted-nothing labels)

is_one-few : (b : Bool) → cond {A = ℕ} b 1 0 ≤ 1
is_one-few true = omega arith
is_one-few false = omega arith

times-few : (label : List ℕ) (names : List (List ℕ)) → times label names ≤ length names
times-few label [] = omega arith
times-few label (name ∷ names) = omega (arith, times-few label names, is_one-few (bytes_eq name label))

-- ---- names taken one after the other

abbrev pub spelled : List (Bor (List ℕ)) → List (List ℕ)
spelled names = map (λ (name : Bor (List ℕ)). name.now) names

module _ (labels : List (List ℕ)) (names : List (Bor (List ℕ))) (i : ℕ) (name default : Bor (List ℕ)) (within : i < length names) (is : name ≡ get_or names i default)
    (counts : List ℕ) (counted : counts ≡ counts_of labels (spelled (take i names))) where
  one_more : spelled (take (i + 1) names) ≡ spelled (take i names) ++ name.now ∷ []
  one_more = ap spelled (take_more names i default within ∙ ap (λ (x : Bor (List ℕ)). take i names ++ x ∷ []) (sym is)) ∙ map-append (λ (name : Bor (List ℕ)). name.now) (take i names) (name ∷ [])

  -- one that is no label
  pub next-none : None ≡ place_of name.now labels → counts ≡ counts_of labels (spelled (take (i + 1) names))
  next-none none = counted ∙ sym (counted-none name.now (spelled (take i names)) labels none) ∙ ap (counts_of labels) (sym one_more)

  module _ (place : ℕ) (found : Some place ≡ place_of name.now labels) where
    -- a label
    pub next-some : AreDifferent labels → raised counts place ≡ counts_of labels (spelled (take (i + 1) names))
    next-some different =
        ap (λ (l : List ℕ). raised l place) counted ∙ sym (counted-some name.now (spelled (take i names)) labels place different found) ∙ ap (counts_of labels) (sym one_more)

    -- its place is one of the counts
    pub place-counted : place < length labels → place < length counts
    place-counted there = omega (arith, there, ap length counted, length-map labels (λ (label : List ℕ). times label (spelled (take i names))))

    -- no more are counted than names were taken
    pub count-few : place < length labels → get_or counts place 0 ≤ i
    count-few there =
        let size : length (spelled (take i names)) ≡ i = length-map (take i names) (λ (name : Bor (List ℕ)). name.now) ∙ length-take-le i names (omega (arith, within)) in
        let few : get_or (counts_of labels (spelled (take i names))) place 0 ≤ length (spelled (take i names)) =
        rw (get_or-map (λ (label : List ℕ). times label (spelled (take i names))) labels place [] 0 there) (times-few (get_or labels place []) (spelled (take i names))) in
        rw counted (omega (arith, few, size))
