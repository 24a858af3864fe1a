-- What an answer says of the functions that tokens spell.
use Rattle.std.specs.Prelude.{◌≡◌, ◌≤◌, List, ◌∷◌, ◌++◌, length, Result, Ok, Err}
use Rattle.ll_tree.specs.declared.func.Func.{Func}
use Rattle.ll_grammar.specs.declared.stop.Refusal.{Refusal}
use Rattle.ll_grammar.specs.declared.stop.Stop.{Stop}
use Rattle.ll_grammar.specs.declared.stop.Stop.TheVariants as stop
use Rattle.ll_grammar.specs.Tokens.{Tok}
use Rattle.ll_grammar.specs.Reading.{Fault}
use Rattle.ll_grammar.specs.Header.{function}
use Rattle.ll_grammar.specs.Spells.{SpellsFunction}

-- Where the tokens spell this function the answer is it, unless memory is wanting.
abbrev pub IsAnswerFor : Result Func Stop → Func → Type 0
IsAnswerFor (Ok it) func = it ≡ func
IsAnswerFor (Err why) func = why ≡ stop.NoMemory

-- However the tokens go on, a fault stands behind them.
abbrev pub HasNoFault : List Tok → Type 0
HasNoFault tokens = (more left : List Tok) (fault : Refusal) → function (tokens ++ more) ≡ Fault fault left → length left ≤ length more

-- Some function begins with these tokens.
abbrev pub BeginsSome : List Tok → Type 0
BeginsSome tokens = (others : List Tok) × (func : Func) × SpellsFunction func (tokens ++ others)

-- The fault stands at the first of the tokens left: those before it begin some function, and with it they begin none. On all
-- tokens that begin so reading stops there with this fault, and no other stands before it.
pub record StopsAt (fault : Refusal) (tokens left : List Tok) : Type 0 where
  pub front : List Tok
  pub token : Tok
  pub behind : List Tok
  pub whole : tokens ≡ front ++ token ∷ behind
  pub stands : left ≡ token ∷ behind
  pub begins : BeginsSome front
  pub never : (func : Func) (others : List Tok) → SpellsFunction func (front ++ token ∷ others) → ⊥
  pub first : HasNoFault front
  pub early : (others : List Tok) → function (front ++ token ∷ others) ≡ Fault fault (token ∷ others)

-- where a token is refused, or the tokens ended too early
abbrev pub Stops : Result Func Stop → (tokens left : List Tok) → Type 0
Stops (Err (stop.Refused fault)) tokens left = StopsAt fault tokens left
Stops (Err stop.RanOut) tokens left = HasNoFault tokens × BeginsSome tokens
Stops answer tokens left = Unit {0}
