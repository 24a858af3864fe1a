-- The functions of a file, and the one that has a name.
use Rattle.std.specs.Prelude.{◌≡◌, ℕ, ◌+◌, ◌<◌, ◌≤◌, true, false, List, length, Option, Some, None}
use Rattle.ll_reader.specs.declared.finder.Section.{Section}
use Rattle.ll_reader.specs.declared.finder.Found.{Found}
use Rattle.ll_reader.specs.declared.finder.Found.TheVariants as found
use Rattle.ll_reader.specs.FileLines.{lines, nth_line, line_start, is_define, is_closing, IsAt}
use Rattle.ll_reader.specs.DefineLine.{IsNamed}

-- A function begins at line n: a define line that stands in the text of no other function. So behind each define line
-- before it, a line closes that one's text first.
pub record BeginsFunction (ls : List (List ℕ)) (n : ℕ) : Type 0 where
  pub there : n < length ls
  pub defines : is_define (nth_line ls n) ≡ true
  pub outside : (d : ℕ) → d < n → is_define (nth_line ls d) ≡ true → (c : ℕ) × (d < c) × (c < n) × (is_closing (nth_line ls c) ≡ true)

-- The function that begins at line n has this name.
abbrev pub HasName : (text name : List ℕ) → ℕ → Type 0
HasName text name n = BeginsFunction (lines text) n × IsNamed (nth_line (lines text) n) name

-- It is the only one.
abbrev pub IsOnly : (text name : List ℕ) → ℕ → Type 0
IsOnly text name n = HasName text name n × ((other : ℕ) → HasName text name other → other ≡ n)

-- no line between the two closes
abbrev pub NoneCloses : List (List ℕ) → (n m : ℕ) → Type 0
NoneCloses ls n m = (c : ℕ) → n < c → c < m → is_closing (nth_line ls c) ≡ false

-- Line m is the first behind line n that closes.
pub record Closes (ls : List (List ℕ)) (n m : ℕ) : Type 0 where
  pub behind : n < m
  pub there : m < length ls
  pub closing : is_closing (nth_line ls m) ≡ true
  pub first : NoneCloses ls n m

-- a function's text: from the first byte of line n to that of line m, and the two lines' numbers, counted from 1
abbrev pub section_of : List (List ℕ) → (n m : ℕ) → Section
section_of ls n m = record { start = line_start ls n; end = line_start ls m; line = n + 1; closing_line = m + 1 }

-- What a file has under a name: no function, two, one that no line closes, or one with this text.
abbrev pub Finds : (text name : List ℕ) → Found → Type 0
Finds text name found.Nowhere = (n : ℕ) → HasName text name n → ⊥
Finds text name found.Twice = (n m : ℕ) × (n < m) × HasName text name n × HasName text name m
Finds text name found.Unclosed = (n : ℕ) × IsOnly text name n × NoneCloses (lines text) n (length (lines text))
Finds text name (found.Closed section) = (n m : ℕ) × IsOnly text name n × Closes (lines text) n m × (section ≡ section_of (lines text) n m)

-- ---- what the private functions give

-- A function begins at line n, and its text ends at line m, which closes it, or with the file.
pub record IsSection (text : List ℕ) (n m : ℕ) (section : Section) : Type 0 where
  pub behind : n < m
  pub none_closes : NoneCloses (lines text) n m
  pub closes : m < length (lines text) → is_closing (nth_line (lines text) m) ≡ true
  pub begins : IsAt text n section.start
  pub ends : IsAt text m section.end
  pub section_is : section ≡ section_of (lines text) n m

-- It is the first behind so many lines.
pub record IsNextSection (text : List ℕ) (before : ℕ) (section : Section) : Type 0 where
  pub n : ℕ
  pub m : ℕ
  pub later : before ≤ n
  pub there : n < length (lines text)
  pub defines : is_define (nth_line (lines text) n) ≡ true
  pub skipped : (k : ℕ) → before ≤ k → k < n → is_define (nth_line (lines text) k) ≡ false
  pub is_section : IsSection text n m section

-- the next define line behind so many lines, with its function, or none
abbrev pub IsNextFunction : (text : List ℕ) → (before : ℕ) → Option Section → Type 0
IsNextFunction text before (Some section) = IsNextSection text before section
IsNextFunction text before None = (k : ℕ) → before ≤ k → k < length (lines text) → is_define (nth_line (lines text) k) ≡ false

-- The function with the name in so many lines, or none.
abbrev pub IsSoFar : (text name : List ℕ) → (before : ℕ) → Option Section → Type 0
IsSoFar text name before None = (k : ℕ) → k < before → HasName text name k → ⊥
IsSoFar text name before (Some section) =
    (n m : ℕ) × (n < before) × HasName text name n × ((k : ℕ) → k < before → HasName text name k → k ≡ n) × IsSection text n m section

-- So many lines were looked at, and they end outside of a function's text.
pub record IsScanned (text name : List ℕ) (before at : ℕ) (found : Option Section) : Type 0 where
  pub is_at : IsAt text before at
  pub closed : (d : ℕ) → d < before → is_define (nth_line (lines text) d) ≡ true → (c : ℕ) × (d < c) × (c ≤ before) × (c < length (lines text) → is_closing (nth_line (lines text) c) ≡ true)
  pub so_far : IsSoFar text name before found

-- The text that was found lies in the file.
abbrev pub LiesInFile : (text : List ℕ) → Found → Type 0
LiesInFile text found.Nowhere = Unit {0}
LiesInFile text found.Twice = Unit {0}
LiesInFile text found.Unclosed = Unit {0}
LiesInFile text (found.Closed section) = (section.start ≤ section.end) × (section.end ≤ length text) × (section.line ≤ length text)
