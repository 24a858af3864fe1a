-- A word is found in a table where it is among its rows.
use Rattle.std.proofs.Common.{◌≡◌, ℕ, Bool, true, false, List, get_or, Option, Some, None, IfSome, IfNone, Contains, refl, sym, ◌∙◌}
use Rattle.std.specs.List.{list_any}
use Rattle.std.specs.Str.{bytes_eq}
use Rattle.std.specs.Option.{is_some}
use Rattle.std.proofs.lemmas.Slice.Eq.{bytes_eq-Decides}
use Rattle.std.proofs.lemmas.List.{get_or_default}
use Rattle.std.proofs.lemmas.List.Folds.{list_any_none, list_any_at}
use Rattle.std.proofs.lemmas.Option.{slice_get_within, get_or_from_slice_get}
use Rattle.op_table.specs.Rows.{IsFirstAt}

not_true : (b : Bool) → (b ≡ true → ⊥) → b ≡ false
not_true true never = absurd (never refl)
not_true false never = refl

pub found_among : (rows : List (List ℕ)) (word : List ℕ) (found : Option ℕ) → IfSome found (IsFirstAt rows word) → IfNone found (Contains rows word → ⊥) → is_some found ≡ list_any (bytes_eq word) rows
found_among rows word None first absent =
    sym (list_any_none (bytes_eq word) rows (λ k d within. not_true _ (λ same.
    absent (k, within, get_or_default rows k word d within ∙ sym ((bytes_eq-Decides word (get_or rows k d)).0 same)))))
found_among rows word (Some at) first absent =
    sym (list_any_at (bytes_eq word) rows at word (slice_get_within rows at word first.there)
    ((bytes_eq-Decides word (get_or rows at word)).1 (sym (get_or_from_slice_get rows at word word first.there))))
