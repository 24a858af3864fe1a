-- What the tokens of a function's text are, without the brace that closes it: a tree's spelling, or tokens that stop.
use Rattle.std.specs.Prelude.{List}
use Rattle.ll_tree.specs.declared.func.Func.{Func}
use Rattle.ll_grammar.specs.declared.stop.Refusal.{Refusal}
use Rattle.ll_grammar.specs.Tokens.{Tok}
use Rattle.ll_grammar.specs.Spells.{SpellsFunction}
use Rattle.ll_grammar.specs.Sentences as sentences

-- The tokens spell the function.
abbrev pub IsSentence : Func → List Tok → Type 0
IsSentence func ts = SpellsFunction func ts

-- The grammar can't go on with the first of the tokens left, and can with those before it. This is what is wrong with it.
abbrev pub IsRefused : List Tok → Refusal → (left : List Tok) → Type 0
IsRefused ts refusal left = sentences.StopsAt refusal ts left

-- The grammar can go on with each of them: they begin some function, but they spell none.
abbrev pub IsUnfinished : List Tok → Type 0
IsUnfinished ts = sentences.HasNoFault ts × sentences.BeginsSome ts × ((func : Func) → SpellsFunction func ts → ⊥)
