-- Lists that lie end to end.
use Rattle.std.proofs.Common.{◌≡◌, ◌<◌, ◌≤◌, ◌-◌, ℕ, zero, suc, List, [], ◌∷◌, ◌++◌, length, get_or, take, drop, slice_range, refl, sym, ◌∙◌, ap, arith, length-append}
use Rattle.std.proofs.Math.Seq.{take-length, drop-length}
use Rattle.std.proofs.lemmas.List.{take-append-le, drop-append-le, length-drop}
use Rattle.flat_lists.specs.Pieces.{pieces, AreEnds, last_end}

pub last-within : (start : ℕ) (ends : List ℕ) (whole : ℕ) → AreEnds start ends whole → last_end start ends ≤ whole
last-within start [] whole h = h
last-within start (end ∷ ends) whole h = last-within end ends whole h.1

pub start-within : (start : ℕ) (ends : List ℕ) (whole : ℕ) → AreEnds start ends whole → start ≤ last_end start ends
start-within start [] whole h = omega arith
start-within start (end ∷ ends) whole h = let more = start-within end ends whole h.1 in omega (arith, more, h.0)

pub ends-more : (start : ℕ) (ends : List ℕ) (whole more : ℕ) → AreEnds start ends whole → whole ≤ more → AreEnds start ends more
ends-more start [] whole more h e = omega (arith, h, e)
ends-more start (end ∷ ends) whole more h e = (h.0, ends-more end ends whole more h.1 e)

pub ends-push : (start : ℕ) (ends : List ℕ) (whole : ℕ) → AreEnds start ends whole → AreEnds start (ends ++ whole ∷ []) whole
ends-push start [] whole h = (h, omega arith)
ends-push start (end ∷ ends) whole h = (h.0, ends-push end ends whole h.1)

pub length-pieces : {X : Type 0} (start : ℕ) (ends : List ℕ) (items : List X) → length (pieces start ends items) ≡ length ends
length-pieces start [] items = refl
length-pieces start (end ∷ ends) items = ap suc (length-pieces end ends items)

pub last-push : (start : ℕ) (ends : List ℕ) (whole : ℕ) → last_end start (ends ++ whole ∷ []) ≡ whole
last-push start [] whole = refl
last-push start (end ∷ ends) whole = last-push end ends whole

-- a piece doesn't change where the whole grows
pub slice-append : {X : Type 0} (xs ys : List X) (i j : ℕ) → i ≤ j → j ≤ length xs → slice_range (xs ++ ys) i j ≡ slice_range xs i j
slice-append xs ys i j h e =
    ap (take (j - i)) (drop-append-le i xs ys (omega (arith, h, e))) ∙ take-append-le (j - i) (drop i xs) ys (rw length-drop (omega (arith, h, e)))

pub pieces-append : {X : Type 0} (start : ℕ) (ends : List ℕ) (xs ys : List X) → AreEnds start ends (length xs) → pieces start ends (xs ++ ys) ≡ pieces start ends xs
pieces-append start [] xs ys h = refl
pieces-append {X} start (end ∷ ends) xs ys h =
    (λ i. slice-append xs ys start end h.0 (within (start-within end ends (length xs) h.1) (last-within end ends (length xs) h.1)) i ∷ pieces-append end ends xs ys h.1 i)
  where
    within : end ≤ last_end end ends → last_end end ends ≤ length xs → end ≤ length xs
    within a b = omega (arith, a, b)

-- the open piece is closed
pub pieces-push : {X : Type 0} (start : ℕ) (ends : List ℕ) (items : List X) → pieces start (ends ++ length items ∷ []) items ≡ pieces start ends items ++ slice_range items (last_end start ends) (length items) ∷ []
pieces-push start [] items = refl
pieces-push {X} start (end ∷ ends) items = ap (λ (l : List (List X)). slice_range items start end ∷ l) (pieces-push end ends items)

pub slice-to_end : {X : Type 0} (xs : List X) (i : ℕ) → slice_range xs i (length xs) ≡ drop i xs
slice-to_end xs i = ap (λ n. take n (drop i xs)) (sym (length-drop i xs)) ∙ take-length (drop i xs)

pub piece-at : {X : Type 0} (start : ℕ) (ends : List ℕ) (items : List X) (at : ℕ) → at < length ends → get_or (pieces start ends items) at [] ≡ slice_range items (get_or (start ∷ ends) at 0) (get_or ends at 0)
piece-at start [] items at h = absurd (omega arith)
piece-at start (end ∷ ends) items zero h = refl
piece-at start (end ∷ ends) items (suc at) h = piece-at end ends items at (omega arith)

pair_is : {A B : Type 0} {a b : A} {x y : B} → a ≡ b → x ≡ y → ◌≡◌ {A = A × B} (a, x) (b, y)
pair_is e f = λ i. (e i, f i)

-- one item more in the open list
pub ends_pushed : {X : Type 0} (ends : List ℕ) (items new : List X) (item : X) → new ≡ items ++ item ∷ [] → AreEnds 0 ends (length items) → AreEnds 0 ends (length new)
ends_pushed ends items new item e h = rw e (ends-more 0 ends (length items) (length (items ++ item ∷ [])) h (rw length-append (omega arith)))

pub pushed : {X : Type 0} (ends : List ℕ) (items new : List X) (item : X) (view : List (List X) × List X) → new ≡ items ++ item ∷ [] → AreEnds 0 ends (length items)
    → ◌≡◌ {A = List (List X) × List X} (pieces 0 ends items, drop (last_end 0 ends) items) view → ◌≡◌ {A = List (List X) × List X} (pieces 0 ends new, drop (last_end 0 ends) new) (view.0, view.1 ++ item ∷ [])
pushed {X} ends items new item view e h is =
    let closed : pieces 0 ends new ≡ pieces 0 ends items = ap (pieces 0 ends) e ∙ pieces-append 0 ends items (item ∷ []) h in
    let rest : drop (last_end 0 ends) new ≡ drop (last_end 0 ends) items ++ item ∷ [] = ap (drop (last_end 0 ends)) e ∙ drop-append-le (last_end 0 ends) items (item ∷ []) (last-within 0 ends (length items) h) in
    pair_is closed rest ∙ ap (λ (v : List (List X) × List X). (v.0, v.1 ++ item ∷ [])) is

-- the open list is closed
pub closed_ends : {X : Type 0} (ends new : List ℕ) (items : List X) (whole : ℕ) → new ≡ ends ++ whole ∷ [] → whole ≡ length items → AreEnds 0 ends (length items) → AreEnds 0 new (length items)
closed_ends {X} ends new items whole e w h = rw (e, w) (ends-push 0 ends (length items) h)

pub closed : {X : Type 0} (ends new : List ℕ) (items : List X) (whole : ℕ) (view : List (List X) × List X) → new ≡ ends ++ whole ∷ [] → whole ≡ length items
    → ◌≡◌ {A = List (List X) × List X} (pieces 0 ends items, drop (last_end 0 ends) items) view → ◌≡◌ {A = List (List X) × List X} (pieces 0 new items, drop (last_end 0 new) items) (view.0 ++ view.1 ∷ [], [])
closed {X} ends new items whole view e w is =
    let more : new ≡ ends ++ length items ∷ [] = e ∙ ap (λ n. ends ++ n ∷ []) w in
    let done : pieces 0 new items ≡ pieces 0 ends items ++ drop (last_end 0 ends) items ∷ [] =
    ap (λ (l : List ℕ). pieces 0 l items) more ∙ pieces-push 0 ends items ∙ ap (λ (l : List X). pieces 0 ends items ++ l ∷ []) (slice-to_end items (last_end 0 ends)) in
    let rest : drop (last_end 0 new) items ≡ [] = ap (λ (l : List ℕ). drop (last_end 0 l) items) more ∙ ap (λ n. drop n items) (last-push 0 ends (length items)) ∙ drop-length items in
    pair_is done rest ∙ ap (λ (v : List (List X) × List X). (v.0 ++ v.1 ∷ [], [])) is

-- the bounds of a closed list
pub bounds-at : (start : ℕ) (ends : List ℕ) (whole at : ℕ) → AreEnds start ends whole → at < length ends → (get_or (start ∷ ends) at 0 ≤ get_or ends at 0) × (get_or ends at 0 ≤ whole)
bounds-at start [] whole at h within = absurd (omega arith)
bounds-at start (end ∷ ends) whole zero h within = (h.0, rest (start-within end ends whole h.1) (last-within end ends whole h.1))
  where
    rest : end ≤ last_end end ends → last_end end ends ≤ whole → end ≤ whole
    rest a b = omega (arith, a, b)
bounds-at start (end ∷ ends) whole (suc at) h within = bounds-at end ends whole at h.1 (omega arith)

module _ {X : Type 0} (ends : List ℕ) (items : List X) (view : List (List X) × List X) (is : ◌≡◌ {A = List (List X) × List X} (pieces 0 ends items, drop (last_end 0 ends) items) view) where
  pub count_is : length ends ≡ length view.0
  count_is = sym (length-pieces 0 ends items) ∙ ap (λ (v : List (List X) × List X). length v.0) is

  pub list_is : (at : ℕ) → at < length ends → slice_range items (get_or (0 ∷ ends) at 0) (get_or ends at 0) ≡ get_or view.0 at []
  list_is at within = sym (piece-at 0 ends items at within) ∙ ap (λ (v : List (List X) × List X). get_or v.0 at []) is

pub record Bounds (shown : List ℕ) (at start whole : ℕ) : Type 0 where
  pub within : at < length shown
  pub order : start ≤ get_or shown at 0
  pub inside : get_or shown at 0 ≤ whole

pub bounds_of : {X : Type 0} (ends shown : List ℕ) (items : List X) (view : List (List X) × List X) (at start : ℕ) → shown ≡ ends → ◌≡◌ {A = List (List X) × List X} (pieces 0 ends items, drop (last_end 0 ends) items) view
    → AreEnds 0 ends (length items) → at < length view.0 → start ≡ get_or (0 ∷ shown) at 0 → Bounds shown at start (length items)
bounds_of {X} ends shown items view at start same is h within is_start =
    let count : length ends ≡ length view.0 = count_is ends items view is in
    let here : at < length ends = omega (arith, within, count) in
    let both = bounds-at 0 ends (length items) at h here in
    record {
      within = rw same here;
      order = rw (is_start, same) both.0;
      inside = rw same both.1;
    }

-- the list between two bounds
pub list_at : {X : Type 0} (ends shown : List ℕ) (items lent back list : List X) (view : List (List X) × List X) (at start : ℕ) → shown ≡ ends → lent ≡ items → ◌≡◌ {A = List (List X) × List X} (pieces 0 ends items, drop (last_end 0 ends) items) view
    → at < length view.0 → start ≡ get_or (0 ∷ shown) at 0 → back ≡ drop start lent → list ≡ take (get_or shown at 0 - start) back → list ≡ get_or view.0 at []
list_at {X} ends shown items lent back list view at start same is_lent is within is_start is_back is_list =
    let count : length ends ≡ length view.0 = count_is ends items view is in
    let here : at < length ends = omega (arith, within, count) in
    is_list ∙ ap (take (get_or shown at 0 - start)) (is_back ∙ ap (drop start) is_lent) ∙ ap (λ n. take (get_or shown at 0 - n) (drop n items)) is_start
    ∙ ap (λ (l : List ℕ). take (get_or l at 0 - get_or (0 ∷ l) at 0) (drop (get_or (0 ∷ l) at 0) items)) same ∙ list_is ends items view is at here
