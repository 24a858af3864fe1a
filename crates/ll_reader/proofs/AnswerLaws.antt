-- A file has one answer.
use Rattle.std.proofs.Common.{◌≡◌, ◌⊎◌, ℕ, ◌<◌, List, [], length, Result, Ok, Err, IfOk, IfErr, refl, sym, ap, subst, ◌∙◌, arith, inl, inr}
use Rattle.std.proofs.lemmas.Bool.{false≢true, cases_order}
use Rattle.ll_token.specs.declared.token.Token.{Token}
use Rattle.ll_token.specs.declared.token.TokenFault.{TokenFault}
use Rattle.ll_token.specs.Scan.{AreTokens}
use Rattle.ll_token.proofs.ScanLaws.{one_list, one_fault, not_both}
use Rattle.ll_tree.specs.declared.func.Func.{Func}
use Rattle.ll_grammar.specs.declared.stop.Refusal.{Refusal}
use Rattle.ll_grammar.specs.declared.stop.Refusal.TheVariants as refusal
use Rattle.ll_grammar.specs.Tokens.{Tok, seen, line_at, text_at}
use Rattle.ll_grammar.specs.Reading.{Read, Done, Fault, RanOut}
use Rattle.ll_grammar.specs.Header.{function}
use Rattle.ll_grammar.specs.Spells.{SpellsFunction}
use Rattle.ll_grammar.specs.Sentences as sentences
use Rattle.ll_grammar.specs.declared.stop.Stop.{Stop}
use Rattle.ll_grammar.specs.declared.stop.Stop.TheVariants as stop
use Rattle.ll_grammar.proofs.HeaderReadLaws.{function_reads}
use Rattle.ll_grammar.proofs.SentenceLaws.{spelled_by, only_by, stops_by}
use Rattle.std.proofs.lemmas.List.{append-nil}
use Rattle.ll_reader.specs.Sentence.{IsRefused, IsUnfinished}
use Rattle.ll_reader.specs.declared.fault.ReadFault.{ReadFault}
use Rattle.ll_reader.specs.declared.fault.ReadFault.TheVariants as faults
use Rattle.ll_reader.specs.declared.finder.Section.{Section}
use Rattle.ll_reader.specs.declared.finder.Found.{Found}
use Rattle.ll_reader.specs.declared.finder.Found.TheVariants as found
use Rattle.ll_reader.specs.FileLines.{lines}
use Rattle.ll_reader.specs.Functions.{HasName, IsOnly, NoneCloses, Closes, section_of, Finds}
use Rattle.ll_reader.specs.FileSpells.{section_text, HasTokens, FileSpells, Refuses, FileStops, fault_of, answer_of, IsAnswer, SectionSays, FileSays}

-- ---- what is found

-- one line is the first that closes
one_closing : (ls : List (List ℕ)) (n m other : ℕ) → Closes ls n m → Closes ls n other → m ≡ other
one_closing ls n m other one two = elim (cases_order m other) [
  | inl same ↦ same
  | inr (inl less) ↦ absurd (false≢true (sym (two.first m one.behind less) ∙ one.closing))
  | inr (inr greater) ↦ absurd (false≢true (sym (one.first other two.behind greater) ∙ two.closing))
]

not_two : (text name : List ℕ) (k n m : ℕ) → IsOnly text name k → n < m → HasName text name n → HasName text name m → ⊥
not_two text name k n m only less one other =
    let a = only.1 n one in
    let b = only.1 m other in
    omega arith

not_open : (ls : List (List ℕ)) (n m : ℕ) → NoneCloses ls n (length ls) → Closes ls n m → ⊥
not_open ls n m none closes = false≢true (sym (none m closes.behind closes.there) ∙ closes.closing)

one_find : (text name : List ℕ) (a b : Found) → Finds text name a → Finds text name b → a ≡ b
one_find text name found.Nowhere found.Nowhere one other = refl
one_find text name found.Nowhere found.Twice one (n, m, less, has, has_too) = absurd (one n has)
one_find text name found.Nowhere found.Unclosed one (n, only, none) = absurd (one n only.0)
one_find text name found.Nowhere (found.Closed s) one (n, m, only, closes, is) = absurd (one n only.0)
one_find text name found.Twice found.Nowhere (n, m, less, has, has_too) other = absurd (other n has)
one_find text name found.Twice found.Twice one other = refl
one_find text name found.Twice found.Unclosed (n, m, less, has, has_too) (k, only, none) = absurd (not_two text name k n m only less has has_too)
one_find text name found.Twice (found.Closed s) (n, m, less, has, has_too) (k, end, only, closes, is) = absurd (not_two text name k n m only less has has_too)
one_find text name found.Unclosed found.Nowhere (n, only, none) other = absurd (other n only.0)
one_find text name found.Unclosed found.Twice (k, only, none) (n, m, less, has, has_too) = absurd (not_two text name k n m only less has has_too)
one_find text name found.Unclosed found.Unclosed one other = refl
one_find text name found.Unclosed (found.Closed s) (k, only, none) (n, m, is_only, closes, is) =
    absurd (not_open (lines text) k m none (subst (λ (x : ℕ). Closes (lines text) x m) (only.1 n is_only.0) closes))
one_find text name (found.Closed s) found.Nowhere (n, m, only, closes, is) other = absurd (other n only.0)
one_find text name (found.Closed s) found.Twice (k, end, only, closes, is) (n, m, less, has, has_too) = absurd (not_two text name k n m only less has has_too)
one_find text name (found.Closed s) found.Unclosed (n, m, is_only, closes, is) (k, only, none) =
    absurd (not_open (lines text) k m none (subst (λ (x : ℕ). Closes (lines text) x m) (only.1 n is_only.0) closes))
one_find text name (found.Closed s) (found.Closed t) (n, m, only, closes, is) (k, end, is_only, is_closed, is_too) =
    let same : n ≡ k = is_only.1 n only.0 in
    let same_end : m ≡ end = one_closing (lines text) k m end (subst (λ (x : ℕ). Closes (lines text) x m) same closes) is_closed in
    ap found.Closed (is ∙ ap (λ (x : ℕ). section_of (lines text) x m) same ∙ ap (section_of (lines text) k) same_end ∙ sym is_too)

-- ---- what the text that was found says

says_once : (text : List ℕ) (section : Section) (a b : Result Func ReadFault) → SectionSays text section a → SectionSays text section b → a ≡ b
says_once text section a b (inl (ts, are, is)) (inl (us, are_too, is_too)) =
    is ∙ ap (λ (x : List Token). answer_of section.closing_line (function (seen (section_text text section) 0 x))) (one_list (section_text text section) section.line ts us are are_too) ∙ sym is_too
says_once text section a b (inl (ts, are, is)) (inr (fault, first, is_too)) = absurd (not_both (section_text text section) section.line ts fault are first)
says_once text section a b (inr (fault, first, is)) (inl (ts, are, is_too)) = absurd (not_both (section_text text section) section.line ts fault are first)
says_once text section a b (inr (fault, first, is)) (inr (other, first_too, is_too)) =
    is ∙ ap (λ (x : TokenFault). Err (faults.Token x)) (one_fault (section_text text section) section.line fault other first first_too) ∙ sym is_too

file_says_once : (text : List ℕ) (f : Found) (a b : Result Func ReadFault) → FileSays text f a → FileSays text f b → a ≡ b
file_says_once text found.Nowhere a b one other = one ∙ sym other
file_says_once text found.Twice a b one other = one ∙ sym other
file_says_once text found.Unclosed a b one other = one ∙ sym other
file_says_once text (found.Closed section) a b one other = says_once text section a b one other

abbrev pub Says : (text name : List ℕ) → Result Func ReadFault → Type 0
Says text name answer = (f : Found) × Finds text name f × FileSays text f answer

pub one_answer : (text name : List ℕ) (a b : Result Func ReadFault) → Says text name a → Says text name b → a ≡ b
one_answer text name a b (f, finds, says) (g, finds_too, says_too) =
    file_says_once text g a b (subst (λ (x : Found). FileSays text x a) (one_find text name f g finds finds_too) says) says_too

-- ---- the same in the words of the language

-- where the tokens stop
fault_read : (ts : List Tok) (r : Refusal) (left : List Tok) → IsRefused ts r left → function ts ≡ Fault r left
fault_read ts r left stops = ap function stops.whole ∙ stops.early stops.behind ∙ ap (Fault r) (sym stops.stands)

none_spelled : (ts : List Tok) → function ts ≡ RanOut → (func : Func) → SpellsFunction func ts → ⊥
none_spelled ts ran func spelled = no_memory (only_by (Err stop.RanOut) [] ts ran func spelled)
  where
    no_memory : ◌≡◌ {A = Stop} stop.RanOut stop.NoMemory → ⊥
    no_memory e = absurd cc

ran_out_read : (ts : List Tok) (read : Read Func) → function ts ≡ read → IsUnfinished ts → read ≡ RanOut
ran_out_read ts (Done func left) is (no_fault, begins, none) = absurd (none func (spelled_by (Ok func) left ts is))
ran_out_read ts (Fault r left) is (no_fault, begins, none) =
    let stops : sentences.StopsAt r ts left = stops_by (Err (stop.Refused r)) left ts is in
    let within = no_fault [] left r (ap function (append-nil ts) ∙ is) in
    absurd (omega (arith, ap length stops.stands))
ran_out_read ts RanOut is unfinished = refl

pub spells_says : (text name : List ℕ) (func : Func) → FileSpells text name func → Says text name (Ok func)
spells_says text name func (section, ts, (finds, tokens, are, seen_so), spelled) =
    (found.Closed section, finds, inl (tokens, are, sym (ap (λ (x : List Tok). answer_of section.closing_line (function x)) (sym seen_so) ∙ ap (answer_of section.closing_line) (function_reads func ts spelled))))

refuses_says : (text name : List ℕ) (r : Refusal) (line : ℕ) (bytes : List ℕ) → Refuses text name r line bytes → Says text name (Err (fault_of r line bytes))
refuses_says text name r line bytes (section, ts, (finds, tokens, are, seen_so), inl (left, stops, line_is, bytes_are)) = (
  found.Closed section,
  finds,
  inl (
    tokens,
    are,
    sym (ap (λ (x : List Tok). answer_of section.closing_line (function x)) (sym seen_so) ∙ ap (answer_of section.closing_line) (fault_read ts r left stops)
        ∙ ap (λ (x : ℕ). Err (fault_of r x (text_at left))) (sym line_is) ∙ ap (λ (x : List ℕ). Err (fault_of r line x)) (sym bytes_are)),
  ),
)
refuses_says text name r line bytes (section, ts, (finds, tokens, are, seen_so), inr (unfinished, r_is, line_is, bytes_are)) = (
  found.Closed section,
  finds,
  inl (
    tokens,
    are,
    sym (ap (λ (x : List Tok). answer_of section.closing_line (function x)) (sym seen_so) ∙ ap (answer_of section.closing_line) (ran_out_read ts (function ts) refl unfinished)
        ∙ rw (r_is, line_is, bytes_are) refl),
  ),
)

pub stops_says : (text name : List ℕ) (fault : ReadFault) → FileStops text name fault → Says text name (Err fault)
stops_says text name faults.NoFunction stops = (found.Nowhere, stops, refl)
stops_says text name faults.TwoFunctions stops = (found.Twice, stops, refl)
stops_says text name faults.NotClosed stops = (found.Unclosed, stops, refl)
stops_says text name (faults.Token fault) (section, finds, first) = (found.Closed section, finds, inr (fault, first, refl))
stops_says text name (faults.NotInProfile line bytes) refuses = refuses_says text name refusal.NotInProfile line bytes refuses
stops_says text name (faults.BadWidth line bytes) refuses = refuses_says text name refusal.BadWidth line bytes refuses
stops_says text name (faults.BadLiteral line bytes) refuses = refuses_says text name refusal.BadLiteral line bytes refuses
stops_says text name (faults.NoLabel line bytes) refuses = refuses_says text name refusal.NoLabel line bytes refuses
stops_says text name (faults.Unexpected line bytes) refuses = refuses_says text name refusal.Unexpected line bytes refuses
stops_says text name faults.NoMemory stops = absurd stops

stops_of : (text name : List ℕ) (r : Refusal) (line : ℕ) (bytes : List ℕ) → Refuses text name r line bytes → FileStops text name (fault_of r line bytes)
stops_of text name refusal.NotInProfile line bytes refuses = refuses
stops_of text name refusal.BadWidth line bytes refuses = refuses
stops_of text name refusal.BadLiteral line bytes refuses = refuses
stops_of text name refusal.NoLabel line bytes refuses = refuses
stops_of text name refusal.Unexpected line bytes refuses = refuses

-- a tree that is spelled, or a fault that stops
abbrev Means : (text name : List ℕ) → Result Func ReadFault → Type 0
Means text name (Ok func) = FileSpells text name func
Means text name (Err fault) = FileStops text name fault

read_means : (text name : List ℕ) (section : Section) (ts : List Tok) → HasTokens text name section ts → (read : Read Func) → function ts ≡ read → Means text name (answer_of section.closing_line read)
read_means text name section ts has (Done func left) is = (section, ts, has, spelled_by (Ok func) left ts is)
read_means text name section ts has (Fault r left) is = stops_of text name r (line_at left) (text_at left) (section, ts, has, inl (left, stops_by (Err (stop.Refused r)) left ts is, refl, refl))
read_means text name section ts has RanOut is = (section, ts, has, inr ((let (no_fault, begins) = stops_by (Err stop.RanOut) [] ts is in (no_fault, begins, none_spelled ts is)), refl, refl, refl))

pub says_means : (text name : List ℕ) (answer : Result Func ReadFault) → Says text name answer → Means text name answer
says_means text name answer (found.Nowhere, finds, is) = subst (Means text name) (sym is) finds
says_means text name answer (found.Twice, finds, is) = subst (Means text name) (sym is) finds
says_means text name answer (found.Unclosed, finds, is) = subst (Means text name) (sym is) finds
says_means text name answer (found.Closed section, finds, inl (tokens, are, is)) =
    let ts : List Tok = seen (section_text text section) 0 tokens in
    subst (Means text name) (sym is) (read_means text name section ts (finds, tokens, are, refl) (function ts) refl)
says_means text name answer (found.Closed section, finds, inr (fault, first, is)) = subst (Means text name) (sym is) (section, finds, first)

-- ---- what the call answers

ok_is : (a b : Func) → ◌≡◌ {A = Result Func ReadFault} (Ok a) (Ok b) → a ≡ b
ok_is a b is = ap ok_or is
  where
    ok_or : Result Func ReadFault → Func
    ok_or (Ok func) = func
    ok_or (Err e) = a

err_is : (a b : ReadFault) → ◌≡◌ {A = Result Func ReadFault} (Err a) (Err b) → a ≡ b
err_is a b is = ap err_or is
  where
    err_or : Result Func ReadFault → ReadFault
    err_or (Ok func) = a
    err_or (Err e) = e

answer_cases : (Is : Result Func ReadFault → Type 0) (result : Result Func ReadFault) → IsAnswer Is result → (result ≡ Err faults.NoMemory) ⊎ Is result
answer_cases Is (Ok func) is = inr is
answer_cases Is (Err faults.NoFunction) is = inr is
answer_cases Is (Err faults.TwoFunctions) is = inr is
answer_cases Is (Err faults.NotClosed) is = inr is
answer_cases Is (Err (faults.Token fault)) is = inr is
answer_cases Is (Err (faults.NotInProfile line bytes)) is = inr is
answer_cases Is (Err (faults.BadWidth line bytes)) is = inr is
answer_cases Is (Err (faults.BadLiteral line bytes)) is = inr is
answer_cases Is (Err (faults.NoLabel line bytes)) is = inr is
answer_cases Is (Err (faults.Unexpected line bytes)) is = inr is
answer_cases Is (Err faults.NoMemory) is = inl refl

module _ (text name : List ℕ) (f : Found) (finds : Finds text name f) (result : Result Func ReadFault) (answers : IsAnswer (FileSays text f) result) where
  pub spells_so : IfOk result (FileSpells text name)
  spells_so = go result answers
    where
      go : (r : Result Func ReadFault) → IsAnswer (FileSays text f) r → IfOk r (FileSpells text name)
      go (Ok func) is = says_means text name (Ok func) (f, finds, is)
      go (Err e) is = tt

  pub stops_so : IfErr result (λ fault. (fault ≡ faults.NoMemory) ⊎ FileStops text name fault)
  stops_so = go result (answer_cases (FileSays text f) result answers)
    where
      go : (r : Result Func ReadFault) → (r ≡ Err faults.NoMemory) ⊎ FileSays text f r → IfErr r (λ fault. (fault ≡ faults.NoMemory) ⊎ FileStops text name fault)
      go (Ok func) is = tt
      go (Err e) (inl is) = inl (err_is e faults.NoMemory is)
      go (Err e) (inr is) = inr (says_means text name (Err e) (f, finds, is))

  only_so : (other : Result Func ReadFault) → Says text name other → (result ≡ other) ⊎ (result ≡ Err faults.NoMemory)
  only_so other says = elim (answer_cases (FileSays text f) result answers) [
    | inl none ↦ inr none
    | inr is ↦ inl (one_answer text name result other (f, finds, is) says)
  ]

  pub only_spelled : (func : Func) → FileSpells text name func → (result ≡ Ok func) ⊎ (result ≡ Err faults.NoMemory)
  only_spelled func spelled = only_so (Ok func) (spells_says text name func spelled)

  pub only_stopped : (fault : ReadFault) → FileStops text name fault → (result ≡ Err fault) ⊎ (result ≡ Err faults.NoMemory)
  only_stopped fault stops = only_so (Err fault) (stops_says text name fault stops)

-- ---- one tree or one fault

pub one_tree : (text name : List ℕ) (one other : Func) → FileSpells text name one → FileSpells text name other → one ≡ other
one_tree text name one other is is_too = ok_is one other (one_answer text name (Ok one) (Ok other) (spells_says text name one is) (spells_says text name other is_too))

pub one_stop : (text name : List ℕ) (one other : ReadFault) → FileStops text name one → FileStops text name other → one ≡ other
one_stop text name one other is is_too = err_is one other (one_answer text name (Err one) (Err other) (stops_says text name one is) (stops_says text name other is_too))

pub not_both_answers : (text name : List ℕ) (func : Func) (fault : ReadFault) → FileSpells text name func → FileStops text name fault → ⊥
not_both_answers text name func fault is stops = differ (one_answer text name (Ok func) (Err fault) (spells_says text name func is) (stops_says text name fault stops))
  where
    differ : Ok func ≡ Err fault → ⊥
    differ e = absurd cc

-- ---- the text of a function

answer_by : (Is Also : Result Func ReadFault → Type 0) → ((answer : Result Func ReadFault) → Is answer → Also answer) → (result : Result Func ReadFault) → IsAnswer Is result → IsAnswer Also result
answer_by Is Also by (Ok func) is = by (Ok func) is
answer_by Is Also by (Err faults.NoFunction) is = by (Err faults.NoFunction) is
answer_by Is Also by (Err faults.TwoFunctions) is = by (Err faults.TwoFunctions) is
answer_by Is Also by (Err faults.NotClosed) is = by (Err faults.NotClosed) is
answer_by Is Also by (Err (faults.Token fault)) is = by (Err (faults.Token fault)) is
answer_by Is Also by (Err (faults.NotInProfile line bytes)) is = by (Err (faults.NotInProfile line bytes)) is
answer_by Is Also by (Err (faults.BadWidth line bytes)) is = by (Err (faults.BadWidth line bytes)) is
answer_by Is Also by (Err (faults.BadLiteral line bytes)) is = by (Err (faults.BadLiteral line bytes)) is
answer_by Is Also by (Err (faults.NoLabel line bytes)) is = by (Err (faults.NoLabel line bytes)) is
answer_by Is Also by (Err (faults.Unexpected line bytes)) is = by (Err (faults.Unexpected line bytes)) is
answer_by Is Also by (Err faults.NoMemory) is = tt

pub section_says : (text : List ℕ) (section : Section) (tokens items : List Token) → AreTokens (section_text text section) section.line tokens → items ≡ tokens → (result : Result Func ReadFault)
    → IsAnswer (λ answer. answer ≡ answer_of section.closing_line (function (seen (section_text text section) 0 items))) result → IsAnswer (SectionSays text section) result
section_says text section tokens items are items_are result is =
    answer_by (λ answer. answer ≡ answer_of section.closing_line (function (seen (section_text text section) 0 items))) (SectionSays text section)
    (λ answer says. inl (tokens, are, says ∙ ap (λ (x : List Token). answer_of section.closing_line (function (seen (section_text text section) 0 x))) items_are)) result is
