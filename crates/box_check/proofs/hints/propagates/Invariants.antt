use Rattle.std.proofs.Common.{[], ◌∷◌, ◌++◌, drop}
use Rattle.box_check.proofs.HintsLaws.{Reaches}
use Rattle.box_check.proofs.hints.propagates.Given as goal

abbrev pub invariant-loop-hint : goal.invariant-loop-hint
invariant-loop-hint g l = Reaches (g.C.Clauses.known l.clauses) l.initial.bounds l.bounds l.fn.hints (drop l.hint-index l.before ++ l.last ∷ [])
