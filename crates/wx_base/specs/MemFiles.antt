-- Files in memory of which chosen calls fail, as contracts see them.
use Rattle.std.specs.Prelude.{◌⊎◌, ℕ, ◌+◌, ◌-◌, ◌^◌, min, List, Some, IsNone, Contains, Result, Ok, Err}
use Rattle.wx_base.specs.Files.{FilesView}
use Rattle.wx_base.specs.Shelf.{Shelf, first_with, with_asked, with_stored}
use Rattle.wx_base.specs.declared.files.FetchError.{FetchError}
use Rattle.wx_base.specs.declared.files.FetchError.TheVariants as fetch
use Rattle.wx_base.specs.declared.files.StoreError.{StoreError}
use Rattle.wx_base.specs.declared.files.StoreError.TheVariants as store

-- The files, the numbers of the calls that fail, the number of the next call, and how often a call failed.
pub record Memory : Type 0 where
  pub shelf : Shelf
  pub failing : List ℕ
  pub calls : ℕ
  pub faults : ℕ

abbrev pub memory_view : Memory → FilesView
memory_view memory = record { contents = Some (first_with memory.shelf.files); asked = Some memory.shelf.asked; stored = Some memory.shelf.kept; faults = memory.faults; taken = 0 }

-- one more, but for the last value of the type
abbrev pub next : ℕ → ℕ
next n = min (n + 1) (2 ^ 64 - 1)

-- a fetch of this name fails
abbrev pub FetchFails : Memory → List ℕ → Type 0
FetchFails memory name = Contains memory.failing memory.calls ⊎ IsNone (first_with memory.shelf.files name)

-- the memory after a call that asked for this name, and failed
abbrev pub failed : Memory → List ℕ → Memory
failed memory name = record memory { shelf = with_asked memory.shelf name; calls = next memory.calls; faults = next memory.faults }

-- the memory after a fetch that was answered
abbrev pub fetched : {T : Type 0} → Memory → List ℕ → Result T FetchError → Memory
fetched memory name (Err fetch.NoMemory) = memory
fetched memory name (Err fetch.Failed) = failed memory name
fetched memory name (Err fetch.TooLong) = record memory { shelf = with_asked memory.shelf name; calls = next memory.calls }
fetched memory name (Ok bytes) = record memory { shelf = with_asked memory.shelf name; calls = next memory.calls }

-- the memory after a store
abbrev pub stored : {T : Type 0} → Memory → List ℕ → List ℕ → Result T StoreError → Memory
stored memory name bytes (Err store.NoMemory) = memory
stored memory name bytes (Err store.Failed) = failed memory name
stored memory name bytes (Ok done) = record memory { shelf = with_stored memory.shelf name bytes; calls = next memory.calls }
