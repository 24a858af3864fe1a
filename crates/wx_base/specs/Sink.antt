-- What a sink tells, and what a put does to it.
use Rattle.std.specs.Prelude.{◌≡◌, ℕ, ◌≤◌, List, ◌++◌, length, take, Option, Result, Ok, Err}
use Rattle.std.specs.Option.{option_map}
use Rattle.wx_base.specs.declared.sink.PutError.{PutError}
use Rattle.wx_base.specs.declared.sink.PutError.TheVariants as put

-- A sink at one moment.
pub record SinkView : Type 0 where
  -- the written bytes, where the sink tells them
  pub written : Option (List ℕ)
  -- how often the outside failed, which stands still at the last value of `u64`
  pub faults : ℕ

-- what was written, and then these bytes
abbrev pub written_with : Option (List ℕ) → List ℕ → Option (List ℕ)
written_with written bytes = option_map (λ all. all ++ bytes) written

-- All bytes were written; after a fault, a front of them; where memory was wanting, none.
abbrev pub Writes : {T : Type 0} → SinkView → SinkView → List ℕ → Result T PutError → Type 0
Writes old new bytes (Ok done) = new ≡ record old { written = written_with old.written bytes; faults = new.faults }
Writes old new bytes (Err put.Failed) = (n : ℕ) × (n ≤ length bytes) × (new ≡ record old { written = written_with old.written (take n bytes); faults = new.faults })
Writes old new bytes (Err put.NoMemory) = new ≡ record old { faults = new.faults }
