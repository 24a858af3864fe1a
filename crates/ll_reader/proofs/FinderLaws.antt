-- The functions of a file, found line by line.
use Rattle.std.proofs.Common.{◌≡◌, ℕ, zero, suc, ◌+◌, ◌-◌, ◌<◌, ◌≤◌, ◌↔◌, Bool, true, false, not, eqb, IsTrue, List, [], ◌∷◌, length, take, drop, get_or, Option, Some, None, refl, sym, ap, subst, ◌∙◌, arith, inl, inr}
use Rattle.std.specs.List.{prefix_len}
use Rattle.std.specs.Option.{is_some}
use Rattle.std.proofs.lemmas.Bool.{eqb-true, false≢true, not-true, cases_lt, cases_order}
use Rattle.std.proofs.lemmas.List.{drop-drop, length-drop, get_or-drop, drop_all}
use Rattle.std.proofs.lemmas.List.Sums.{prefix_len_passes, prefix_len_stops}
use Rattle.ll_reader.specs.declared.lines.LineKind.{LineKind}
use Rattle.ll_reader.specs.declared.lines.LineKind.TheVariants as kinds
use Rattle.ll_reader.specs.declared.lines.Passed.{Passed}
use Rattle.ll_reader.specs.declared.finder.Section.{Section}
use Rattle.ll_reader.specs.declared.finder.Found.TheVariants as found_
use Rattle.ll_reader.specs.FileLines.{lines, nth_line, first_len, is_define, is_closing, is_of, has_prefix, count_before, IsAt, StandBefore}
use Rattle.ll_reader.specs.DefineLine.{IsNamed}
use Rattle.ll_reader.specs.Functions.{BeginsFunction, HasName, NoneCloses, Finds, IsSection, IsNextSection, IsNextFunction, IsSoFar, IsScanned, LiesInFile}
use Rattle.ll_reader.proofs.FileLineLaws.{lines_begin, at_start, at_more, at_first, place_grows}

-- ---- lines by number

-- a define line begins with no `}`
no_brace : (b : ℕ) (rest : List ℕ) → eqb b 125 ≡ true → is_define (b ∷ rest) ≡ false
unfolding is_define has_prefix
no_brace b rest e = rw (eqb-true b 125 e) refl

apart_lines : (line : List ℕ) → is_define line ≡ true → is_closing line ≡ false
unfolding is_closing
apart_lines [] is = refl
apart_lines (b ∷ rest) is = go (eqb b 125) refl
  where
    go : (t : Bool) → eqb b 125 ≡ t → t ≡ false
    go false e = refl
    go true e = absurd (false≢true (sym (no_brace b rest e) ∙ is))

-- no line is left where no byte is left
none_left : (text : List ℕ) (n at : ℕ) → IsAt text n at → length text ≤ at → length (lines text) ≤ n
unfolding lines
none_left text n at is all =
    let nothing : drop n (lines text) ≡ [] = sym is.behind ∙ ap lines (drop_all at text all) in
    let l : length (lines text) - n ≡ 0 = sym (length-drop n (lines text)) ∙ ap length nothing in
    omega (arith, l)

-- some line is left where some byte is
some_left : (text : List ℕ) (n at : ℕ) → IsAt text n at → at < length text → n < length (lines text)
some_left text n at is more =
    let some : 0 < length (drop at text) = omega (arith, length-drop at text) in
    let l : length (lines text) - n ≡ suc (length (lines (drop (first_len (drop at text)) (drop at text)))) =
    sym (length-drop n (lines text)) ∙ ap length (sym is.behind) ∙ ap length (lines_begin (drop at text) some) in
    omega (arith, l)

-- the line at a place
pub line_is : (text : List ℕ) (n at : ℕ) → IsAt text n at → at < length text → nth_line (lines text) n ≡ take (first_len (drop at text)) (drop at text)
line_is text n at is more =
    let some : 0 < length (drop at text) = omega (arith, length-drop at text) in
    let e : n + 0 ≡ n = omega arith in
    ap (λ (x : ℕ). nth_line (lines text) x) (sym e) ∙ sym (get_or-drop n (lines text) 0 []) ∙ ap (λ (ls : List (List ℕ)). nth_line ls 0) (sym is.behind ∙ lines_begin (drop at text) some)

-- ---- the lines before the first of a kind

module _ (kind : LineKind) (text : List ℕ) (n at : ℕ) (is_at : IsAt text n at) (passed : Passed) (before : StandBefore kind (drop at text) passed) where
  pub at_next : IsAt text (n + passed.lines) (at + passed.len)
  at_next = at_more text n at passed.lines passed.len is_at before.ends

  counted : passed.lines ≡ count_before kind (drop n (lines text))
  counted = before.count ∙ ap (count_before kind) is_at.behind

  shifted : (j : ℕ) → get_or (drop n (lines text)) j [] ≡ nth_line (lines text) (n + j)
  shifted j = get_or-drop n (lines text) j []

  pub none_between : (k : ℕ) → n ≤ k → k < n + passed.lines → is_of kind (nth_line (lines text) k) ≡ false
  unfolding count_before
  none_between k from to =
      let c = counted in
      let fits : k - n < count_before kind (drop n (lines text)) = omega (arith, c) in
      let e : n + (k - n) ≡ k = omega arith in
      let passes = prefix_len_passes (λ line. not (is_of kind line)) (drop n (lines text)) (k - n) [] fits in
      not-true _ (subst (λ (line : List ℕ). not (is_of kind line) ≡ true) (shifted (k - n) ∙ ap (nth_line (lines text)) e) passes)

  pub one_there : n + passed.lines < length (lines text) → is_of kind (nth_line (lines text) (n + passed.lines)) ≡ true
  unfolding count_before
  one_there more =
      let c = counted in
      let l = length-drop n (lines text) in
      let stops = prefix_len_stops (λ line. not (is_of kind line)) (drop n (lines text)) [] (omega (arith, c, l)) in
      let here : get_or (drop n (lines text)) (prefix_len (λ line. not (is_of kind line)) (drop n (lines text))) [] ≡ nth_line (lines text) (n + passed.lines) =
      ap (λ (j : ℕ). get_or (drop n (lines text)) j []) (sym c) ∙ shifted passed.lines in
      not_from_false' _ (subst (λ (line : List ℕ). not (is_of kind line) ≡ false) here stops)
    where
      not_from_false' : (b : Bool) → not b ≡ false → b ≡ true
      not_from_false' true e = refl
      not_from_false' false e = absurd (false≢true (sym e))

-- ---- the next function

same_section : (line closing_line : ℕ) {a b c d : ℕ} → a ≡ b → c ≡ d
    → ◌≡◌ {A = Section} (record { start = a; end = c; line = line; closing_line = closing_line }) (record { start = b; end = d; line = line; closing_line = closing_line })
same_section line closing_line p q = rw (p, q) refl

module _ (text : List ℕ) (n at : ℕ) (is_at : IsAt text n at) (outside : Passed) (to_define : StandBefore kinds.Define (drop at text) outside) where
  pub no_function : length (drop (at + outside.len) text) ≡ 0 → IsNextFunction text n None
  no_function nothing =
      let next = at_next kinds.Define text n at is_at outside to_define in
      let l = length-drop (at + outside.len) text in
      let all = none_left text (n + outside.lines) (at + outside.len) next (omega (arith, l)) in
      λ k from to. none_between kinds.Define text n at is_at outside to_define k from (omega arith)

  module _ (from behind : List ℕ) (first : ℕ) (from_is : from ≡ drop (at + outside.len) text) (some : 0 < length from) (first_is : first ≡ first_len from) (behind_is : behind ≡ drop first from)
      (inside : Passed) (to_closing : StandBefore kinds.Closing behind inside) (section : Section)
      (section_is : section ≡ record { start = at + outside.len; end = at + outside.len + first + inside.len; line = n + outside.lines + 1; closing_line = n + outside.lines + 1 + inside.lines + 1 }) where
    abbrev start : ℕ
    start = at + outside.len

    abbrev number : ℕ
    number = n + outside.lines

    starts : IsAt text number start
    starts = at_next kinds.Define text n at is_at outside to_define

    more : start < length text
    more = let l = length-drop start text in let e = ap length from_is in omega arith

    there : number < length (lines text)
    there = some_left text number start starts more

    behind_first : IsAt text (number + 1) (start + first)
    behind_first = at_more text number start 1 first starts
        (subst (λ (x : ℕ). IsAt (drop start text) 1 x) (ap first_len (sym from_is) ∙ sym first_is) (at_first (drop start text) (omega (arith, some, ap length from_is))))

    rest_is : behind ≡ drop (start + first) text
    rest_is = behind_is ∙ ap (drop first) from_is ∙ drop-drop first start text

    to_end : StandBefore kinds.Closing (drop (start + first) text) inside
    to_end = subst (λ (x : List ℕ). StandBefore kinds.Closing x inside) rest_is to_closing

    abbrev closing : ℕ
    closing = number + 1 + inside.lines

    ends : IsAt text closing (start + first + inside.len)
    ends = at_next kinds.Closing text (number + 1) (start + first) behind_first inside to_end

    pub next_is : IsNextFunction text n (Some section)
    next_is = record {
      n = number;
      m = closing;
      later = omega arith;
      there = there;
      defines = one_there kinds.Define text n at is_at outside to_define there;
      skipped = none_between kinds.Define text n at is_at outside to_define;
      is_section = record {
        behind = omega arith;
        none_closes = λ c after before. none_between kinds.Closing text (number + 1) (start + first) behind_first inside to_end c (omega arith) before;
        closes = one_there kinds.Closing text (number + 1) (start + first) behind_first inside to_end;
        begins = subst (λ (s : Section). IsAt text number s.start) (sym section_is) starts;
        ends = subst (λ (s : Section). IsAt text closing s.end) (sym section_is) ends;
        section_is = section_is ∙ same_section (number + 1) (closing + 1) starts.place_is ends.place_is;
      };
    }

-- ---- what was found so far

-- a function that begins behind lines without a define line that isn't closed
module _ (text name : List ℕ) (before at : ℕ) (found : Option Section) (scanned : IsScanned text name before at found) where
  abbrev ls : List (List ℕ)
  ls = lines text

  begins_here : (n : ℕ) → before ≤ n → n < length ls → is_define (nth_line ls n) ≡ true → ((k : ℕ) → before ≤ k → k < n → is_define (nth_line ls k) ≡ false) → BeginsFunction ls n
  begins_here n from there defines skipped = record {
    there = there;
    defines = defines;
    outside = λ d earlier is_d. elim (cases_lt d before) [
      | inr late ↦ absurd (false≢true (sym (skipped d late earlier) ∙ is_d))
      | inl early ↦
          let (c, behind, up_to, closing) = scanned.closed d early is_d in
          elim (cases_order c n) [
            | inl same ↦ absurd (false≢true (sym (apart_lines (nth_line ls n) defines) ∙ subst (λ (x : ℕ). is_closing (nth_line ls x) ≡ true) same (closing (omega (arith, same)))))
            | inr (inl less) ↦ (c, behind, less, closing (omega arith))
            | inr (inr greater) ↦ absurd (omega arith)
          ]
    ];
  }

  -- a function inside of another one's text begins at no line
  no_inner : (n m k : ℕ) → is_define (nth_line ls n) ≡ true → NoneCloses ls n m → n < k → k < m → BeginsFunction ls k → ⊥
  no_inner n m k defines none from to begins =
      let (c, behind, less, closing) = begins.outside n from defines in
      false≢true (sym (none c behind (omega arith)) ∙ closing)

  module _ (section : Section) (next : IsNextSection text before section) where
    begins : BeginsFunction ls next.n
    begins = begins_here next.n next.later next.there next.defines next.skipped

    -- in the lines up to the end of its text, no other function begins
    only_here : (k : ℕ) → before ≤ k → k < next.m → BeginsFunction ls k → k ≡ next.n
    only_here k from to begins_k = elim (cases_order k next.n) [
      | inl same ↦ same
      | inr (inl less) ↦ absurd (false≢true (sym (next.skipped k from less) ∙ begins_k.defines))
      | inr (inr greater) ↦ absurd (no_inner next.n next.m k next.defines next.is_section.none_closes greater to begins_k)
    ]

    closed_next : (d : ℕ) → d < next.m → is_define (nth_line ls d) ≡ true → (c : ℕ) × (d < c) × (c ≤ next.m) × (c < length ls → is_closing (nth_line ls c) ≡ true)
    closed_next d early is_d = elim (cases_lt d before) [
      | inl sooner ↦ let (c, behind, up_to, closing) = scanned.closed d sooner is_d in let later = next.later in let past = next.is_section.behind in (c, behind, omega arith, closing)
      | inr late ↦ (next.m, early, omega arith, next.is_section.closes)
    ]

    pub within : section.start < length text
    within = elim (cases_lt section.start (length text)) [
      | inl less ↦ less
      | inr all ↦ let none = none_left text next.n section.start next.is_section.begins all in let there = next.there in absurd (omega arith)
    ]

    pub line_there : nth_line ls next.n ≡ take (first_len (drop section.start text)) (drop section.start text)
    line_there = line_is text next.n section.start next.is_section.begins within

    pub number_is : section.closing_line - 1 ≡ next.m
    number_is = ap (λ (s : Section). s.closing_line - 1) next.is_section.section_is ∙ omega arith

    pub smaller : length ls - (section.closing_line - 1) < length ls - before
    smaller = let e = number_is in let later = next.later in let behind = next.is_section.behind in let there = next.there in omega arith

    scanned_more : (more : Option Section) → IsSoFar text name next.m more → IsScanned text name (section.closing_line - 1) section.end more
    scanned_more more so_far = rw number_is (record { is_at = next.is_section.ends; closed = closed_next; so_far = so_far })

    -- whether the define line has the name
    module _ (is : Bool) (decides : IsTrue is ↔ IsNamed (take (first_len (drop section.start text)) (drop section.start text)) name) where
      has : is ≡ true → HasName text name next.n
      has it_is = (begins, subst (λ (line : List ℕ). IsNamed line name) (sym line_there) (decides.0 it_is))

      has_not : is ≡ false → IsNamed (nth_line ls next.n) name → ⊥
      has_not is_not named = false≢true (sym is_not ∙ decides.1 (subst (λ (line : List ℕ). IsNamed line name) line_there named))

      past : is ≡ false → (k : ℕ) → k < next.m → HasName text name k → k < before
      past is_not k early (begins_k, named) = elim (cases_lt k before) [
        | inl sooner ↦ sooner
        | inr late ↦ absurd (has_not is_not (subst (λ (x : ℕ). IsNamed (nth_line ls x) name) (only_here k late early begins_k) named))
      ]

      keeps : is ≡ false → (f : Option Section) → IsSoFar text name before f → IsSoFar text name next.m f
      keeps is_not None none = λ k early has_k. none k (past is_not k early has_k) has_k
      keeps is_not (Some s) (n, m, less, has_n, only, is_section) =
          let later = next.later in
          let behind = next.is_section.behind in
          (n, m, omega arith, has_n, (λ k early has_k. only k (past is_not k early has_k) has_k), is_section)

      pub pass_section : is ≡ false → IsScanned text name (section.closing_line - 1) section.end found
      pass_section is_not = scanned_more found (keeps is_not found scanned.so_far)

      first_found : found ≡ None → is ≡ true → (k : ℕ) → k < next.m → HasName text name k → k ≡ next.n
      first_found none it_is k early has_k = elim (cases_lt k before) [
        | inl sooner ↦ absurd (subst (IsSoFar text name before) none scanned.so_far k sooner has_k)
        | inr late ↦ only_here k late early has_k.0
      ]

      pub take_section : is_some found ≡ false → is ≡ true → IsScanned text name (section.closing_line - 1) section.end (Some section)
      take_section none it_is = scanned_more (Some section) (next.n, next.m, next.is_section.behind, has it_is, first_found (is_none found none) it_is, next.is_section)
        where
          is_none : (f : Option Section) → is_some f ≡ false → f ≡ None
          is_none None none = refl
          is_none (Some s) none = absurd cc

      pub second_section : is_some found ≡ true → is ≡ true → Finds text name found_.Twice
      second_section some it_is = go found some scanned.so_far
        where
          go : (f : Option Section) → is_some f ≡ true → IsSoFar text name before f → Finds text name found_.Twice
          go None some so_far = absurd cc
          go (Some s) some (n, m, less, has_n, only, is_section) = let later = next.later in (n, next.n, omega arith, has_n, has it_is)

  -- all lines were looked at
  past_all : IsNextFunction text before None → (k : ℕ) → HasName text name k → k < before
  past_all none k (begins_k, named) = elim (cases_lt k before) [
    | inl sooner ↦ sooner
    | inr late ↦ absurd (false≢true (sym (none k late begins_k.there) ∙ begins_k.defines))
  ]

  pub so_far_all : IsNextFunction text before None → IsSoFar text name (length ls) found
  so_far_all none = go found scanned.so_far
    where
      go : (f : Option Section) → IsSoFar text name before f → IsSoFar text name (length ls) f
      go None nothing = λ k early has_k. nothing k (past_all none k has_k) has_k
      go (Some s) (n, m, less, has_n, only, is_section) = (n, m, has_n.0.there, has_n, (λ k early has_k. only k (past_all none k has_k) has_k), is_section)

-- ---- what was found

pub nowhere : (text name : List ℕ) → IsSoFar text name (length (lines text)) None → Finds text name found_.Nowhere × LiesInFile text found_.Nowhere
nowhere text name nothing = (λ n has. nothing n has.0.there has, tt)

within_text : (text : List ℕ) (n m : ℕ) (section : Section) → IsSection text n m section → LiesInFile text (found_.Closed section)
within_text text n m section is =
    let starts = is.begins.place_is in
    let ends = is.ends.place_is in
    let ends_within = is.ends.within in
    let few = is.ends.few in
    let behind = is.behind in
    let grows = place_grows (lines text) n m (omega arith) in
    let line : section.line ≡ n + 1 = ap (λ (s : Section). s.line) is.section_is in
    (omega arith, omega arith, omega arith)

pub closed : (text name : List ℕ) (section : Section) → IsSoFar text name (length (lines text)) (Some section) → section.end < length text
    → Finds text name (found_.Closed section) × LiesInFile text (found_.Closed section)
closed text name section (n, m, less, has, only, is) more =
    let there = some_left text m section.end is.ends more in (
      (n, m, (has, λ other h. only other h.0.there h), record { behind = is.behind; there = there; closing = is.closes there; first = is.none_closes }, is.section_is),
      within_text text n m section is,
    )

pub unclosed : (text name : List ℕ) (section : Section) → IsSoFar text name (length (lines text)) (Some section) → length text ≤ section.end
    → Finds text name found_.Unclosed × LiesInFile text found_.Unclosed
unclosed text name section (n, m, less, has, only, is) all =
    let past = none_left text m section.end is.ends all in
    ((n, (has, λ other h. only other h.0.there h), λ c after before. is.none_closes c after (omega arith)), tt)

pub no_section : (text name : List ℕ) → IsScanned text name 0 0 None
no_section text name = record {
  is_at = at_start text;
  closed = λ d early is. absurd (omega arith);
  so_far = λ k early has. absurd (omega arith);
}

pub some_of : (n : ℕ) → eqb n 0 ≡ false → 0 < n
some_of zero none = absurd cc
some_of (suc n) some = omega arith
