-- Which function a file spells under a name, and where it spells none, the one fault.
use Rattle.std.specs.Prelude.{◌≡◌, ◌⊎◌, ℕ, List, codes, Result, Ok, Err}
use Rattle.std.specs.List.{slice_range}
use Rattle.ll_token.specs.declared.token.Token.{Token}
use Rattle.ll_token.specs.declared.token.TokenFault.{TokenFault}
use Rattle.ll_token.specs.Scan.{AreTokens, IsFirstFault}
use Rattle.ll_tree.specs.declared.func.Func.{Func}
use Rattle.ll_grammar.specs.declared.stop.Refusal.{Refusal}
use Rattle.ll_grammar.specs.declared.stop.Refusal.TheVariants as refusal
use Rattle.ll_grammar.specs.Tokens.{Tok, seen, line_at, text_at}
use Rattle.ll_reader.specs.declared.fault.ReadFault.{ReadFault}
use Rattle.ll_reader.specs.declared.fault.ReadFault.TheVariants as faults
use Rattle.ll_reader.specs.declared.finder.Section.{Section}
use Rattle.ll_reader.specs.declared.finder.Found.TheVariants as found
use Rattle.ll_reader.specs.declared.finder.Found.{Found}
use Rattle.ll_grammar.specs.Reading.{Read, Done, Fault, RanOut}
use Rattle.ll_grammar.specs.Header.{function}
use Rattle.ll_reader.specs.Functions.{Finds}
use Rattle.ll_reader.specs.Sentence.{IsSentence, IsRefused, IsUnfinished}

-- the bytes of a function's text, without the brace that closes it
abbrev pub section_text : List ℕ → Section → List ℕ
section_text text section = slice_range text section.start section.end

-- The one function of the file that has the name stands here, and these are its tokens.
abbrev pub HasTokens : (text name : List ℕ) → Section → List Tok → Type 0
HasTokens text name section ts =
    Finds text name (found.Closed section)
    × (tokens : List Token) × AreTokens (section_text text section) section.line tokens × (ts ≡ seen (section_text text section) 0 tokens)

-- The file spells the function under this name.
abbrev pub FileSpells : (text name : List ℕ) → Func → Type 0
FileSpells text name func = (section : Section) × (ts : List Tok) × HasTokens text name section ts × IsSentence func ts

-- The first token with which the grammar can't go on: what is wrong with it, its line and its bytes. Where all tokens
-- up to the brace that closes the text can go on, it is this brace, and it stands where something else was wanted.
abbrev pub Refuses : (text name : List ℕ) → Refusal → (line : ℕ) → (bytes : List ℕ) → Type 0
Refuses text name r line bytes =
    (section : Section) × (ts : List Tok) × HasTokens text name section ts
    × (((left : List Tok) × IsRefused ts r left × (line ≡ line_at left) × (bytes ≡ text_at left))
    ⊎ (IsUnfinished ts × (r ≡ refusal.Unexpected) × (line ≡ section.closing_line) × (bytes ≡ codes "}")))

-- The file spells no function under this name, for this reason.
abbrev pub FileStops : (text name : List ℕ) → ReadFault → Type 0
FileStops text name faults.NoFunction = Finds text name found.Nowhere
FileStops text name faults.TwoFunctions = Finds text name found.Twice
FileStops text name faults.NotClosed = Finds text name found.Unclosed
FileStops text name (faults.Token fault) = (section : Section) × Finds text name (found.Closed section) × IsFirstFault (section_text text section) section.line fault
FileStops text name (faults.NotInProfile line bytes) = Refuses text name refusal.NotInProfile line bytes
FileStops text name (faults.BadWidth line bytes) = Refuses text name refusal.BadWidth line bytes
FileStops text name (faults.BadLiteral line bytes) = Refuses text name refusal.BadLiteral line bytes
FileStops text name (faults.NoLabel line bytes) = Refuses text name refusal.NoLabel line bytes
FileStops text name (faults.Unexpected line bytes) = Refuses text name refusal.Unexpected line bytes
FileStops text name faults.NoMemory = ⊥

-- ---- what the private functions give

abbrev pub fault_of : Refusal → ℕ → List ℕ → ReadFault
fault_of refusal.NotInProfile line bytes = faults.NotInProfile line bytes
fault_of refusal.BadWidth line bytes = faults.BadWidth line bytes
fault_of refusal.BadLiteral line bytes = faults.BadLiteral line bytes
fault_of refusal.NoLabel line bytes = faults.NoLabel line bytes
fault_of refusal.Unexpected line bytes = faults.Unexpected line bytes

-- what a reading of a text's tokens says; the brace that closes the text stands in this line
abbrev pub answer_of : (closing_line : ℕ) → Read Func → Result Func ReadFault
answer_of closing_line (Done func left) = Ok func
answer_of closing_line (Fault r left) = Err (fault_of r (line_at left) (text_at left))
answer_of closing_line RanOut = Err (faults.Unexpected closing_line (codes "}"))

-- The answer is such a one, unless memory was wanting.
abbrev pub IsAnswer : (Result Func ReadFault → Type 0) → Result Func ReadFault → Type 0
IsAnswer Is (Err faults.NoMemory) = Unit {0}
IsAnswer Is (Ok func) = Is (Ok func)
IsAnswer Is (Err fault) = Is (Err fault)

-- what the text of a function says
abbrev pub SectionSays : (text : List ℕ) → Section → Result Func ReadFault → Type 0
SectionSays text section answer =
    ((tokens : List Token) × AreTokens (section_text text section) section.line tokens × (answer ≡ answer_of section.closing_line (function (seen (section_text text section) 0 tokens))))
    ⊎ ((fault : TokenFault) × IsFirstFault (section_text text section) section.line fault × (answer ≡ Err (faults.Token fault)))

-- what a file says of the functions under a name
abbrev pub FileSays : (text : List ℕ) → Found → Result Func ReadFault → Type 0
FileSays text found.Nowhere answer = answer ≡ Err faults.NoFunction
FileSays text found.Twice answer = answer ≡ Err faults.TwoFunctions
FileSays text found.Unclosed answer = answer ≡ Err faults.NotClosed
FileSays text (found.Closed section) answer = SectionSays text section answer
