-- Clauses and rows that are laid one after the other.
use Rattle.std.proofs.Common.{◌≡◌, ◌<◌, ◌≤◌, ◌+◌, ℕ, zero, suc, List, [], ◌∷◌, ◌++◌, length, get_or, take, map, append-nil, refl, ◌∙◌, ap, subst, arith}
use Rattle.std.specs.Prelude.{flat_map, zip}
use Rattle.std.specs.List.{range_with_len}
use Rattle.std.proofs.lemmas.List.{take_more, map-append}
use Rattle.std.proofs.lemmas.List.Concat.{flat_map-append}
use Rattle.std.proofs.lemmas.List.Folds.{length-flat_map-take}
use Rattle.std.proofs.lemmas.List.FromFn.{length-range_with_len, get_or-range_with_len}
use Rattle.std.proofs.lemmas.Slice.Zip.{length-zip}

-- ---- numbers in a row

pub range_more : (first count : ℕ) → range_with_len first (count + 1) ≡ range_with_len first count ++ (first + count) ∷ []
range_more first zero = let same : first ≡ first + 0 = omega arith in ap (λ (n : ℕ). n ∷ []) same
range_more first (suc count) =
    let more : suc count + 1 ≡ suc (count + 1) = omega arith in
    let last : first + 1 + count ≡ first + suc count = omega arith in
    ap (range_with_len first) more
    ∙ ap (λ (rest : List ℕ). first ∷ rest) (range_more (first + 1) count ∙ ap (λ (n : ℕ). range_with_len (first + 1) count ++ n ∷ []) last)

pub take_range : (first count k : ℕ) → k ≤ count → take k (range_with_len first count) ≡ range_with_len first k
take_range first zero zero low = refl
take_range first zero (suc k) low = absurd (omega (arith, low))
take_range first (suc count) zero low = refl
take_range first (suc count) (suc k) low = ap (λ (rest : List ℕ). first ∷ rest) (take_range (first + 1) count k (omega (arith, low)))

-- ---- a step of a loop

module _ {X Y Z : Type 0} (g : Y → Z) (f : X → List Y) where
  pub flat_more : (xs : List X) (i : ℕ) (x : X) → i < length xs → map g (flat_map f (take (i + 1) xs)) ≡ map g (flat_map f (take i xs)) ++ map g (f (get_or xs i x))
  flat_more xs i x low =
      let one = get_or xs i x in
      ap (λ (taken : List X). map g (flat_map f taken)) (take_more xs i x low)
      ∙ ap (map g) (flat_map-append f (take i xs) (one ∷ []) ∙ ap (λ (last : List Y). flat_map f (take i xs) ++ last) (append-nil (f one)))
      ∙ map-append g (flat_map f (take i xs)) (f one)

module _ {Y Z : Type 0} (g : Y → Z) (f : ℕ → List Y) where
  pub range_flat_more : (n : ℕ) → map g (flat_map f (range_with_len 0 (n + 1))) ≡ map g (flat_map f (range_with_len 0 n)) ++ map g (f n)
  range_flat_more n =
      ap (λ (numbers : List ℕ). map g (flat_map f numbers)) (range_more 0 n)
      ∙ ap (map g) (flat_map-append f (range_with_len 0 n) ((0 + n) ∷ []) ∙ ap (λ (last : List Y). flat_map f (range_with_len 0 n) ++ last) (append-nil (f (0 + n))))
      ∙ map-append g (flat_map f (range_with_len 0 n)) (f (0 + n))
      ∙ ap (λ (k : ℕ). map g (flat_map f (range_with_len 0 n)) ++ map g (f k)) (omega arith)

  pub range_flat_room : (n count : ℕ) → n < count → length (flat_map f (range_with_len 0 n)) + length (f n) ≤ length (flat_map f (range_with_len 0 count))
  range_flat_room n count low =
      let room = length-flat_map-take f (range_with_len 0 count) n 0 (omega (arith, low, length-range_with_len 0 count)) in
      let front : take n (range_with_len 0 count) ≡ range_with_len 0 n = take_range 0 count n (omega (arith, low)) in
      let here : get_or (range_with_len 0 count) n 0 ≡ n = get_or-range_with_len 0 count n 0 low ∙ omega arith in
      subst (λ (k : ℕ). length (flat_map f (range_with_len 0 n)) + length (f k) ≤ length (flat_map f (range_with_len 0 count))) here
      (subst (λ (numbers : List ℕ). length (flat_map f numbers) + length (f (get_or (range_with_len 0 count) n 0)) ≤ length (flat_map f (range_with_len 0 count))) front room)

-- ---- pairs

pub zip_low : {X Y : Type 0} (xs : List X) (ys : List Y) (i : ℕ) → i < length xs → i < length ys → i < length (zip xs ys)
zip_low xs ys i low low_too = omega (arith, length-zip xs ys, low, low_too)

pub length_zip : {X Y : Type 0} (xs : List X) (ys : List Y) → length xs ≤ length ys → length (zip xs ys) ≡ length xs
length_zip xs ys few = omega (arith, length-zip xs ys, few)
