-- A sink in memory, as contracts see it.
use Rattle.std.specs.Prelude.{ℕ, ◌==◌, List, [], ◌∷◌, ◌++◌, take, Option, Some, None, if◌then◌else◌}
use Rattle.wx_base.specs.MemFiles.{next}
use Rattle.wx_base.specs.Sink.{SinkView}

-- A sink in memory: the numbers of the puts that fail with the count of bytes that each still takes, the
-- number of the next put, what was written, and how often a put failed.
pub record Page : Type 0 where
  pub failing : List (ℕ × ℕ)
  pub puts : ℕ
  pub bytes : List ℕ
  pub faults : ℕ

abbrev pub page_view : Page → SinkView
page_view page = record { written = Some page.bytes; faults = page.faults }

-- how many bytes the put of this number takes before it fails, if it fails: the first pair counts
abbrev pub taken_by : List (ℕ × ℕ) → ℕ → Option ℕ
taken_by [] put = None
taken_by (pair ∷ pairs) put = if pair.0 == put then Some pair.1 else taken_by pairs put

-- the sink after a put of some bytes
abbrev pub after_put : Page → List ℕ → Option ℕ → Page
after_put page bytes None = record page { puts = next page.puts; bytes = page.bytes ++ bytes }
after_put page bytes (Some n) = record page { puts = next page.puts; bytes = page.bytes ++ take n bytes; faults = next page.faults }
