-- Readings: what the front of a list of tokens gives, and how readings are put together.
use Rattle.std.specs.Prelude.{◌≡◌, ℕ, Bool, Option, Some, None, List, [], ◌∷◌, drop, Result, Ok, Err, if◌then◌else◌}
use Rattle.ll_token.specs.declared.token.TokenKind.{TokenKind}
use Rattle.ll_token.specs.declared.token.TokenKind.TheVariants as kinds
use Rattle.std.specs.Str.{bytes_eq}
use Rattle.ll_grammar.specs.Tokens.{Tok, kind_at, mark_at, word_at, name_at}
use Rattle.ll_grammar.specs.Words.{width_of, has_width, literal_of}
use Rattle.ll_grammar.specs.Places.{refused}
use Rattle.ll_grammar.specs.declared.stop.Refusal.{Refusal}
use Rattle.ll_grammar.specs.declared.stop.Place.{Place}
use Rattle.ll_grammar.specs.declared.stop.Place.TheVariants as place
use Rattle.ll_grammar.specs.declared.stop.Stop.{Stop}
use Rattle.ll_grammar.specs.declared.stop.Stop.TheVariants as stop

-- Done with a value and the tokens left; a fault at the first of the tokens left; or more tokens were wanted.
pub data Read (A : Type 0) : Type 0 where
  Done : A → List Tok → Read A
  Fault : Refusal → List Tok → Read A
  RanOut : Read A

-- What a function returned, and the tokens that it left, are what reading gives, unless memory was wanting.
abbrev pub Gives : {A : Type 0} → Result A Stop → List Tok → Read A → Type 0
Gives (Ok x) left read = read ≡ Done x left
Gives (Err (stop.Refused r)) left read = read ≡ Fault r left
Gives (Err stop.RanOut) left read = read ≡ RanOut
Gives (Err stop.NoMemory) left read = Unit {0}

infixl 10 ◌>>=◌
abbrev pub ◌>>=◌ : {A B : Type 0} → Read A → (A → List Tok → Read B) → Read B
(Done x ts) >>= f = f x ts
(Fault r ts) >>= f = Fault r ts
RanOut >>= f = RanOut

-- nothing that may stand at this place comes next
abbrev pub stopped : {A : Type 0} → Place → List Tok → Read A
stopped at [] = RanOut
stopped at (t ∷ ts) = Fault (refused at t.kind t.text) (t ∷ ts)

-- ---- one token

-- the next token, where the test of what comes next holds
abbrev pub take_if : {A : Type 0} → Bool → A → Place → List Tok → Read A
take_if test x at ts = if test then Done x (drop 1 ts) else stopped at ts

unfoldable pub mark : ℕ → List Tok → Read Unit
mark byte ts = take_if (mark_at byte ts) (tt {0}) place.Other ts

unfoldable pub keyword : List ℕ → List Tok → Read Unit
keyword word ts = take_if (bytes_eq (word_at ts) word) (tt {0}) place.Other ts

-- a token that holds a name
unfoldable pub name : TokenKind → Place → List Tok → Read (List ℕ)
name kind at ts = take_if (kind_at kind ts) (name_at ts) at ts

-- a `!` and what follows it
unfoldable pub metadatum : List Tok → Read Unit
metadatum ts = take_if (kind_at kinds.Meta ts) (tt {0}) place.Other ts

-- the next token, where it gives a value
abbrev pub take_some : {A : Type 0} → Option A → Place → List Tok → Read A
take_some (Some x) at ts = Done x (drop 1 ts)
take_some None at ts = stopped at ts

-- an integer type, by its width
unfoldable pub width : List Tok → Read ℕ
width ts = take_some (width_of (word_at ts)) place.Type ts

-- the integer type of this width
unfoldable pub one_width : ℕ → List Tok → Read Unit
one_width w ts = take_if (has_width w (word_at ts)) (tt {0}) place.Type ts

unfoldable pub literal_at : ℕ → List Tok → Option ℕ
literal_at w [] = None
literal_at w (t ∷ ts) = literal_of w t.kind t.text

-- a literal of this width, as a number below 2^width
unfoldable pub literal : ℕ → List Tok → Read ℕ
literal w ts = take_some (literal_at w ts) place.Literal ts
