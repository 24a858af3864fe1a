-- What a files object tells, and what its calls do to it.
use Rattle.std.specs.Prelude.{◌≡◌, ◌≢◌, ℕ, ◌+◌, ◌-◌, ◌^◌, ◌<◌, ◌≤◌, min, List, [], ◌∷◌, ◌++◌, length, Option, Some, None, Result, Ok, Err, ⊤, IsSomeAnd}
use Rattle.std.specs.Option.{option_map}
use Rattle.wx_base.specs.declared.files.FetchError.{FetchError}
use Rattle.wx_base.specs.declared.files.FetchError.TheVariants as fetch
use Rattle.wx_base.specs.declared.files.StoreError.{StoreError}
use Rattle.wx_base.specs.declared.files.StoreError.TheVariants as store

-- nothing, where an object doesn't tell its contents; else the bytes under each name that has some
abbrev pub Contents : Type 0
Contents = Option (List ℕ → Option (List ℕ))

-- A files object at one moment.
pub record FilesView : Type 0 where
  pub contents : Contents
  -- the names that were asked for, in order, where the object tells them
  pub asked : Option (List (List ℕ))
  -- the stored pairs of a name and its bytes, in order, where it tells them
  pub stored : Option (List (List ℕ × List ℕ))
  -- how often the outside failed, which stands still at the last value of `u64`
  pub faults : ℕ
  -- how many bytes fetches took from outside, for an object that tells no contents; it stands still there too
  pub taken : ℕ

-- the bytes that are told for a name
abbrev pub told : Contents → List ℕ → Option (List ℕ)
told None name = None
told (Some contents) name = contents name

-- these bytes are the told ones, where any are told
abbrev pub AreTold : Contents → List ℕ → List ℕ → Type 0
AreTold None name bytes = ⊤
AreTold (Some contents) name bytes = contents name ≡ Some bytes

-- the told bytes are more than the limit, where any are told
abbrev pub AreLonger : Contents → List ℕ → ℕ → Type 0
AreLonger None name limit = ⊤
AreLonger (Some contents) name limit = IsSomeAnd (contents name) (λ bytes. limit < length bytes)

-- an object that tells no contents has taken more bytes than the limit from outside between two moments
abbrev pub TookMore : Contents → ℕ → ℕ → ℕ → Type 0
TookMore None limit before now = min (before + limit + 1) (2 ^ 64 - 1) ≤ now
TookMore (Some contents) limit before now = ⊤

-- more bytes than the limit stand under the name, as far as is told
pub record IsTooLong (old new : FilesView) (name : List ℕ) (limit : ℕ) : Type 0 where
  pub longer : AreLonger old.contents name limit
  pub took : TookMore old.contents limit old.taken new.taken

-- what was told grows by an item at its end
abbrev pub with_end : {A : Type 0} → Option (List A) → A → Option (List A)
with_end items item = option_map (λ all. all ++ item ∷ []) items

-- every answer but want of memory adds the name to the asked ones
abbrev pub asked_by : {T : Type 0} → Option (List (List ℕ)) → List ℕ → Result T FetchError → Option (List (List ℕ))
asked_by asked name (Ok bytes) = with_end asked name
asked_by asked name (Err fetch.Failed) = with_end asked name
asked_by asked name (Err fetch.TooLong) = with_end asked name
asked_by asked name (Err fetch.NoMemory) = asked

-- what a fetch leaves: nothing but the asked names and the two counts changes
abbrev pub LeavesFetch : {T : Type 0} → FilesView → FilesView → List ℕ → Result T FetchError → Type 0
LeavesFetch old new name result = new ≡ record old { asked = asked_by old.asked name result; faults = new.faults; taken = new.taken }

-- the name has these bytes from now on, and each other name has what it had
abbrev pub ContentsWith : Contents → Contents → List ℕ → List ℕ → Type 0
ContentsWith None new name bytes = new ≡ None
ContentsWith (Some old) None name bytes = ⊥
ContentsWith (Some old) (Some new) name bytes = (new name ≡ Some bytes) × ((other : List ℕ) → other ≢ name → new other ≡ old other)

-- what a store leaves: with Ok a stored pair more, and maybe other contents; after an error neither
abbrev pub LeavesStore : {T : Type 0} → FilesView → FilesView → List ℕ → List ℕ → Result T StoreError → Type 0
LeavesStore old new name bytes (Ok done) = new ≡ record old { contents = new.contents; asked = with_end old.asked name; stored = with_end old.stored (name, bytes); faults = new.faults }
LeavesStore old new name bytes (Err store.Failed) = new ≡ record old { asked = with_end old.asked name; faults = new.faults }
LeavesStore old new name bytes (Err store.NoMemory) = new ≡ record old { faults = new.faults }
