-- What a look-up by name finds from a place of the list on.
use Rattle.std.proofs.Common.{◌≡◌, ◌≢◌, ◌<◌, ◌≤◌, ◌+◌, ℕ, List, Vec, length, drop, get_or, Some, None, sym, ◌∙◌, ap, cond}
use Rattle.std.specs.Str.{bytes_eq}
use Rattle.std.proofs.lemmas.List.{drop_more, drop_all}
use Rattle.std.proofs.lemmas.Slice.Eq.{bytes_eq-Decides}
use Rattle.std.proofs.lemmas.Bool.{false_from_ne_true}
use Rattle.std.specs.declared.alloc.Global.{Global}
use Rattle.wx_base.specs.Shelf.{first_with, pairs_of}

module _ (files : List (List ℕ × Vec ℕ Global)) (name : List ℕ) (i : ℕ) (file : List ℕ × Vec ℕ Global) (within : i < length files) (is : file ≡ get_or files i file) where
  here : first_with (pairs_of (drop i files)) name ≡ cond (bytes_eq file.0 name) (Some file.1.items) (first_with (pairs_of (drop (i + 1) files)) name)
  here = ap (λ (l : List (List ℕ × Vec ℕ Global)). first_with (pairs_of l) name) (drop_more files i file within) ∙ ap (λ (f : List ℕ × Vec ℕ Global). cond (bytes_eq f.0 name) (Some f.1.items) (first_with (pairs_of (drop (i + 1) files)) name)) (sym is)

  pub first_with-found : file.0 ≡ name → first_with (pairs_of (drop i files)) name ≡ Some file.1.items
  first_with-found same = here ∙ ap (λ b. cond b (Some file.1.items) (first_with (pairs_of (drop (i + 1) files)) name)) ((bytes_eq-Decides file.0 name).1 same)

  pub first_with-passed : file.0 ≢ name → first_with (pairs_of (drop i files)) name ≡ first_with (pairs_of (drop (i + 1) files)) name
  first_with-passed other = here ∙ ap (λ b. cond b (Some file.1.items) (first_with (pairs_of (drop (i + 1) files)) name)) (false_from_ne_true _ (λ t. other ((bytes_eq-Decides file.0 name).0 t)))

pub first_with-end : (files : List (List ℕ × Vec ℕ Global)) (name : List ℕ) (i : ℕ) → length files ≤ i → first_with (pairs_of (drop i files)) name ≡ None
first_with-end files name i past = ap (λ (l : List (List ℕ × Vec ℕ Global)). first_with (pairs_of l) name) (drop_all i files past)
