use Rattle.command_words.specs.Arguments.{widths_of}
use Rattle.command_words.proofs.ArgumentLaws.{SoFar}
use Rattle.command_words.proofs.arguments.arguments_of.Given as goal

abbrev pub invariant-loop-place : goal.invariant-loop-place
invariant-loop-place l = record { so_far : SoFar (widths_of l.params) l.words l.args l.place }
