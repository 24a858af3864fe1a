-- Files in memory that never fail, as contracts see them.
use Rattle.std.specs.Prelude.{ℕ, List, [], ◌∷◌, ◌++◌, map, Option, Some, None, if◌then◌else◌, Vec, Result, Ok, Err}
use Rattle.std.specs.Option.{unwrap_or}
use Rattle.std.specs.Str.{bytes_eq}
use Rattle.std.specs.declared.alloc.Global.{Global}
use Rattle.wx_base.specs.Files.{FilesView}
use Rattle.wx_base.specs.declared.files.FetchError.{FetchError}
use Rattle.wx_base.specs.declared.files.FetchError.TheVariants as fetch
use Rattle.wx_base.specs.declared.files.StoreError.{StoreError}

-- names with their bytes
abbrev pub Pairs : Type 0
Pairs = List (List ℕ × List ℕ)

abbrev pub pairs_of : List (List ℕ × Vec ℕ Global) → Pairs
pairs_of files = map (λ file. (file.0, file.1.items)) files

-- the bytes of the first pair with this name
abbrev pub first_with : Pairs → List ℕ → Option (List ℕ)
first_with [] name = None
first_with (pair ∷ pairs) name = if bytes_eq pair.0 name then Some pair.1 else first_with pairs name

-- The pairs of which the first with a name counts, what was asked for, and what was stored.
pub record Shelf : Type 0 where
  pub files : Pairs
  pub asked : List (List ℕ)
  pub kept : Pairs

-- pairs of which nothing was asked for yet
abbrev pub fresh : Pairs → Shelf
fresh files = record { files = files; asked = []; kept = [] }

-- the bytes of the first pair with this name, and none where there is no such pair
abbrev pub contents_or_empty : Pairs → List ℕ → List ℕ
contents_or_empty files name = unwrap_or (first_with files name) []

-- every name has contents
abbrev pub shelf_view : Shelf → FilesView
shelf_view shelf = record { contents = Some (λ name. Some (contents_or_empty shelf.files name)); asked = Some shelf.asked; stored = Some shelf.kept; faults = 0; taken = 0 }

abbrev pub with_asked : Shelf → List ℕ → Shelf
with_asked shelf name = record shelf { asked = shelf.asked ++ name ∷ [] }

-- the files after a fetch that was answered
abbrev pub fetched : {T : Type 0} → Shelf → List ℕ → Result T FetchError → Shelf
fetched shelf name (Err fetch.NoMemory) = shelf
fetched shelf name (Err fetch.Failed) = shelf
fetched shelf name (Err fetch.TooLong) = with_asked shelf name
fetched shelf name (Ok bytes) = with_asked shelf name

-- the files once these bytes were stored under the name
abbrev pub with_stored : Shelf → List ℕ → List ℕ → Shelf
with_stored shelf name bytes = record shelf { files = (name, bytes) ∷ shelf.files; asked = shelf.asked ++ name ∷ []; kept = shelf.kept ++ (name, bytes) ∷ [] }

-- the files after a store
abbrev pub stored : {T : Type 0} → Shelf → List ℕ → List ℕ → Result T StoreError → Shelf
stored shelf name bytes (Err error) = shelf
stored shelf name bytes (Ok done) = with_stored shelf name bytes
