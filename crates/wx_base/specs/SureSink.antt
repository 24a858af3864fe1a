-- A sink in memory that never fails, as contracts see it.
use Rattle.std.specs.Prelude.{ℕ, List, Some}
use Rattle.wx_base.specs.Sink.{SinkView}

-- a sink by the bytes that were written to it
abbrev pub sure_sink_view : List ℕ → SinkView
sure_sink_view bytes = record { written = Some bytes; faults = 0 }
