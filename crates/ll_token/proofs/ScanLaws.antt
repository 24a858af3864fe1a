-- A text has one list of tokens, or one first fault.
use Rattle.std.proofs.Common.{◌≡◌, ◌⊎◌, ℕ, zero, suc, ◌+◌, ◌-◌, ◌^◌, ◌<◌, ◌≤◌, Bool, true, false, not, cond, eqb, List, [], ◌∷◌, ◌++◌, length, take, drop, Option, Some, None, Result, Ok, Err, refl, sym, ap, subst, ◌∙◌, arith, inl, inr, length-append}
use Rattle.std.specs.List.{list_all}
use Rattle.std.specs.Prelude.{All, IfOk, MatchResult, slice_range}
use Rattle.std.proofs.lemmas.List.{take_at, drop_at, append_assoc, take-append-drop, drop_all, length-drop, length-take-le}
use Rattle.std.proofs.lemmas.List.Sums.{count_by-le-length}
use Rattle.std.proofs.lemmas.List.Elements.{All-nil, All-cons}
use Rattle.std.proofs.lemmas.Bool.{and_from, and_parts, not_from_false, ne_eqb, eqb-true, cases_lt}
use Rattle.ll_token.specs.declared.token.TokenKind.{TokenKind}
use Rattle.ll_token.specs.declared.token.TokenKind.TheVariants as kinds
use Rattle.ll_token.specs.declared.token.FaultKind.{FaultKind}
use Rattle.ll_token.specs.declared.token.FaultKind.TheVariants as faults
use Rattle.ll_token.specs.declared.token.Token.{Token}
use Rattle.ll_token.specs.declared.token.TokenFault.{TokenFault}
use Rattle.ll_token.specs.declared.lexeme.Lexeme.{Lexeme}
use Rattle.ll_token.specs.declared.lexeme.Flaw.{Flaw}
use Rattle.ll_token.specs.Bytes.{begins, begins_gap, is_run_byte, is_inner, is_mark, line_ends}
use Rattle.ll_token.specs.Names.{IsQuoted, Writes}
use Rattle.ll_token.specs.Lexemes.{IsToken, IsFlaw}
use Rattle.ll_token.specs.Scan.{IsGap, IsLastGap, StartsWith, Scans, AreTokens, StopsAt, IsFirstFault, Follows, IsTokenOf, AreInOrder}
use Rattle.ll_token.specs.Reading.{lexeme, gap_len, lexeme_at}
use Rattle.ll_token.proofs.ListLaws.{apart, all_weaker, no_line_ends, line_ends-append}
use Rattle.ll_token.proofs.PieceLaws.{some_left}
use Rattle.ll_token.proofs.GapLaws.{SkipsGap, skips_gap, no_gap, gap_again, last_gap_again}
use Rattle.ll_token.proofs.LexemeLaws.{IsLexeme, Right, lexeme_right}
use Rattle.ll_token.proofs.AgainLaws.{Starts, lexeme_again, flaw_again}

-- ---- a token has bytes, and none of them is LF

abbrev in_line : ℕ → Bool
in_line b = not (eqb b 10)

run_in_line : (bytes : List ℕ) → list_all is_run_byte bytes ≡ true → list_all in_line bytes ≡ true
run_in_line bytes each = all_weaker is_run_byte in_line bytes (λ b run. not_from_false (eqb b 10) (apart is_run_byte b 10 run refl)) each

all_append : (test : ℕ → Bool) (front rest : List ℕ) → list_all test front ≡ true → list_all test rest ≡ true → list_all test (front ++ rest) ≡ true
all_append test [] rest a b = b
all_append test (c ∷ front) rest a b =
    let parts = and_parts (test c) (list_all test front) a in
    and_from (test c) (list_all test (front ++ rest)) parts.0 (all_append test front rest parts.1 b)

quoted_in_line : (text name : List ℕ) → IsQuoted text name → list_all in_line text ≡ true
quoted_in_line text name q =
    let inside : list_all in_line q.inner ≡ true = all_weaker is_inner in_line q.inner (λ b inner. not_from_false (eqb b 10) (apart is_inner b 10 inner refl)) q.in_line in
    ap (list_all in_line) q.quotes ∙ all_append in_line q.inner (34 ∷ []) inside refl

writes_in_line : (text after name : List ℕ) → Writes text after name → list_all in_line text ≡ true
writes_in_line text after name (inl w) = run_in_line text w.0.each
writes_in_line text after name (inr q) = quoted_in_line text name q

token_in_line : (kind : TokenKind) (text after : List ℕ) → IsToken kind text after → list_all in_line text ≡ true
token_in_line kinds.Local text after (name, (body, e, w, some)) = ap (list_all in_line) e ∙ writes_in_line body after name w
token_in_line kinds.Global text after (name, (body, e, w, some)) = ap (list_all in_line) e ∙ writes_in_line body after name w
token_in_line kinds.Label text after (name, (body, e, w, some)) = ap (list_all in_line) e ∙ all_append in_line body (58 ∷ []) (writes_in_line body (58 ∷ after) name w) refl
token_in_line kinds.String text after (name, (q, plain)) = quoted_in_line text name q
token_in_line kinds.Number text after (is, number) = run_in_line text is.0.each
token_in_line kinds.Word text after (is, word) = run_in_line text is.0.each
token_in_line kinds.Meta text after (run, e, each, longest) = ap (list_all in_line) e ∙ run_in_line run each
token_in_line kinds.Hash text after (run, e, is) = ap (list_all in_line) e ∙ run_in_line run is.each
token_in_line kinds.Mark text after (b, e, mark) =
    ap (list_all in_line) e ∙ and_from (in_line b) true (not_from_false (eqb b 10) (apart is_mark b 10 mark refl)) refl

pub token_some : (kind : TokenKind) (text after : List ℕ) → IsToken kind text after → 0 < length text
token_some kinds.Local text after (name, (body, e, w, some)) = omega (arith, ap length e)
token_some kinds.Global text after (name, (body, e, w, some)) = omega (arith, ap length e)
token_some kinds.Label text after (name, (body, e, w, some)) = omega (arith, ap length e, length-append body (58 ∷ []))
token_some kinds.String text after (name, (q, plain)) = omega (arith, ap length q.quotes)
token_some kinds.Number text after (is, number) = is.0.some
token_some kinds.Word text after (is, word) = is.0.some
token_some kinds.Meta text after (run, e, each, longest) = omega (arith, ap length e)
token_some kinds.Hash text after (run, e, is) = omega (arith, ap length e)
token_some kinds.Mark text after (b, e, mark) = omega (arith, ap length e)

-- ---- what comes next

-- what the reading gives behind a gap
abbrev after_gap : (first_line : ℕ) (read rest : List ℕ) → Result Lexeme Flaw → Result (Option (Token × List ℕ × List ℕ)) TokenFault
after_gap first_line read rest (Ok found) =
    Ok (Some (record { kind = found.kind; start = length read; end = length read + found.len; line = first_line + line_ends read }, read ++ take found.len rest, drop found.len rest))
after_gap first_line read rest (Err flaw) = Err (record { kind = flaw.kind; place = length read + flaw.offset; line = first_line + line_ends read })

unfoldable next_at : (first_line : ℕ) (before bytes : List ℕ) → Result (Option (Token × List ℕ × List ℕ)) TokenFault
next_at first_line before bytes =
    let len = gap_len false bytes in
    cond (eqb (length (drop len bytes)) 0) (Ok None) (after_gap first_line (before ++ take len bytes) (drop len bytes) (lexeme_at (drop len bytes)))

-- a gap, and what begins no gap
next_behind : (first_line : ℕ) (before bytes gap rest : List ℕ) (read : Result Lexeme Flaw) → bytes ≡ gap ++ rest → IsGap gap → Starts rest read → next_at first_line before bytes ≡ after_gap first_line (before ++ gap) rest read
unfolding next_at
next_behind first_line before bytes gap rest read whole blank starts =
    let none : gap_len false rest ≡ 0 = no_gap rest starts.no_gap in
    let len : gap_len false (gap ++ rest) ≡ length gap = omega (arith, gap_again gap rest blank, none) in
    let more : eqb (length rest) 0 ≡ false = ne_eqb (length rest) 0 (λ nothing. let h : length rest ≡ 0 = nothing in let some = starts.some in omega arith) in
    ap (next_at first_line before) whole ∙ rw (len, take_at gap rest (length gap) refl, drop_at gap rest (length gap) refl, more, starts.reads) refl

token_is : (token : Token) (start end line : ℕ) → token.start ≡ start → token.end ≡ end → token.line ≡ line → token ≡ record { kind = token.kind; start = start; end = end; line = line }
token_is token start end line a b c =
    let first : token ≡ record { kind = token.kind; start = start; end = token.end; line = token.line } = ap (λ (n : ℕ). record token { start = n }) a in
    let second : record { kind = token.kind; start = start; end = token.end; line = token.line } ≡ record { kind = token.kind; start = start; end = end; line = token.line } = ap (λ (n : ℕ). record { kind = token.kind; start = start; end = n; line = token.line }) b in
    let third : record { kind = token.kind; start = start; end = end; line = token.line } ≡ record { kind = token.kind; start = start; end = end; line = line } = ap (λ (n : ℕ). record { kind = token.kind; start = start; end = end; line = n }) c in
    first ∙ second ∙ third

fault_is : (fault : TokenFault) (place line : ℕ) → fault.place ≡ place → fault.line ≡ line → fault ≡ record { kind = fault.kind; place = place; line = line }
fault_is fault place line a b =
    let first : fault ≡ record { kind = fault.kind; place = place; line = fault.line } = ap (λ (n : ℕ). record fault { place = n }) a in
    let second : record { kind = fault.kind; place = place; line = fault.line } ≡ record { kind = fault.kind; place = place; line = line } = ap (λ (n : ℕ). record { kind = fault.kind; place = place; line = n }) b in
    first ∙ second

abbrev Next : Type 0
Next = Result (Option (Token × List ℕ × List ℕ)) TokenFault

abbrev found : Token → List ℕ → List ℕ → Next
found token read rest = Ok (Some (token, read, rest))

same_found : (a b : Token) (read read' rest rest' : List ℕ) → a ≡ b → read ≡ read' → rest ≡ rest' → found a read rest ≡ found b read' rest'
same_found a b read read' rest rest' p q r =
    ap (λ (t : Token). found t read rest) p ∙ ap (λ (x : List ℕ). found b x rest) q ∙ ap (λ (x : List ℕ). found b read' x) r

found_is : (a b : Token) (read read' rest rest' : List ℕ) → found a read rest ≡ found b read' rest' → (a ≡ b) × (read ≡ read') × (rest ≡ rest')
found_is a b read read' rest rest' e =
    let triple : (a, read, rest) ≡ (b, read', rest') = cc in
    (ap (λ (t : Token × List ℕ × List ℕ). t.0) triple, ap (λ (t : Token × List ℕ × List ℕ). t.1) triple, ap (λ (t : Token × List ℕ × List ℕ). t.2) triple)

-- a token is what comes next
token_next : (first_line : ℕ) (before bytes : List ℕ) (token : Token) (end after : List ℕ) → StartsWith first_line before bytes token end after → next_at first_line before bytes ≡ found token end after
token_next first_line before bytes token end after s =
    let t = s.is_token in
    let front : List ℕ = before ++ s.gap in
    let starts = lexeme_again token.kind s.text after t.form in
    let long : length before + length s.gap ≡ length front = sym (length-append before s.gap) in
    let same : record { kind = token.kind; start = length front; end = length front + length s.text; line = first_line + line_ends front } ≡ token = sym (token_is token (length front) (length front + length s.text) (first_line + line_ends front) t.start t.end t.line) in
    next_behind first_line before bytes s.gap (s.text ++ after) (lexeme token.kind (length s.text)) s.whole s.blank starts
    ∙ same_found (record { kind = token.kind; start = length front; end = length front + length s.text; line = first_line + line_ends front }) token (front ++ take (length s.text) (s.text ++ after)) end (drop (length s.text) (s.text ++ after)) after
    same
    (ap (λ (x : List ℕ). front ++ x) (take_at s.text after (length s.text) refl) ∙ sym s.up_to)
    (drop_at s.text after (length s.text) refl)

-- what may come behind the last token
abbrev Ends : (first_line : ℕ) (before bytes : List ℕ) → Option TokenFault → Type 0
Ends first_line before bytes None = IsLastGap bytes
Ends first_line before bytes (Some fault) = StopsAt first_line before bytes fault

abbrev end_value : Option TokenFault → Next
end_value None = Ok None
end_value (Some fault) = Err fault

end_next : (first_line : ℕ) (before bytes : List ℕ) (end : Option TokenFault) → Ends first_line before bytes end → next_at first_line before bytes ≡ end_value end
unfolding next_at
end_next first_line before bytes None last =
    let len : gap_len false bytes ≡ length bytes = last_gap_again bytes last in
    rw (len, drop_all (length bytes) bytes (omega arith)) refl
end_next first_line before bytes (Some fault) stops =
    let front : List ℕ = before ++ stops.gap in
    next_behind first_line before bytes stops.gap stops.rest (Err (record { kind = fault.kind; offset = stops.offset })) stops.whole stops.blank (flaw_again fault.kind stops.rest stops.offset stops.flaw)
    ∙ ap (λ (f : TokenFault). Err f) (sym (fault_is fault (length front + stops.offset) (first_line + line_ends front) stops.place stops.line))

same_end : (a b : Option TokenFault) → end_value a ≡ end_value b → a ≡ b
same_end None None e = refl
same_end None (Some f) e = absurd cc
same_end (Some f) None e = absurd cc
same_end (Some f) (Some g) e = let same : f ≡ g = cc in ap (λ (x : TokenFault). Some x) same

no_end : (end : Option TokenFault) (token : Token) (read rest : List ℕ) → end_value end ≡ found token read rest → ⊥
no_end None token read rest e = cc
no_end (Some f) token read rest e = cc

-- A text is read in one way.
one_scan : (first_line : ℕ) (before bytes : List ℕ) (ts us : List Token) (read rest read' rest' : List ℕ) (a b : Option TokenFault)
    → Scans first_line before bytes ts read rest → Ends first_line read rest a → Scans first_line before bytes us read' rest' → Ends first_line read' rest' b → (ts ≡ us) × (a ≡ b)
one_scan first_line before bytes [] [] read rest read' rest' a b l ends m other =
    let first : next_at first_line before bytes ≡ end_value a = ap (λ (x : List ℕ). next_at first_line x bytes) (sym l.0) ∙ ap (λ (x : List ℕ). next_at first_line read x) (sym l.1) ∙ end_next first_line read rest a ends in
    let second : next_at first_line before bytes ≡ end_value b = ap (λ (x : List ℕ). next_at first_line x bytes) (sym m.0) ∙ ap (λ (x : List ℕ). next_at first_line read' x) (sym m.1) ∙ end_next first_line read' rest' b other in
    (refl, same_end a b (sym first ∙ second))
one_scan first_line before bytes [] (u ∷ us) read rest read' rest' a b l ends m other =
    let first : next_at first_line before bytes ≡ end_value a = ap (λ (x : List ℕ). next_at first_line x bytes) (sym l.0) ∙ ap (λ (x : List ℕ). next_at first_line read x) (sym l.1) ∙ end_next first_line read rest a ends in
    absurd (no_end a u m.0 m.1 (sym first ∙ token_next first_line before bytes u m.0 m.1 m.2))
one_scan first_line before bytes (t ∷ ts) [] read rest read' rest' a b l ends m other =
    let second : next_at first_line before bytes ≡ end_value b = ap (λ (x : List ℕ). next_at first_line x bytes) (sym m.0) ∙ ap (λ (x : List ℕ). next_at first_line read' x) (sym m.1) ∙ end_next first_line read' rest' b other in
    absurd (no_end b t l.0 l.1 (sym second ∙ token_next first_line before bytes t l.0 l.1 l.2))
one_scan first_line before bytes (t ∷ ts) (u ∷ us) read rest read' rest' a b l ends m other =
    let same = found_is t u l.0 m.0 l.1 m.1 (sym (token_next first_line before bytes t l.0 l.1 l.2) ∙ token_next first_line before bytes u m.0 m.1 m.2) in
    let moved : Scans first_line l.0 l.1 us read' rest' = rw (same.1, same.2) m.3 in
    let later = one_scan first_line l.0 l.1 ts us read rest read' rest' a b l.3 ends moved other in
    (rw (same.0, later.0) refl, later.1)

-- ---- what the code reads next

within_bytes : (kind : FaultKind) (bytes : List ℕ) (place : ℕ) → IsFlaw kind bytes place → place ≤ length bytes
within_bytes faults.BadByte bytes place (none, e) = omega (arith, e)
within_bytes faults.OpenString bytes place (open_here, e) = omega (arith, e)
within_bytes faults.BadEscape bytes place b =
    let inside = b.bad.here in
    omega (arith, b.here, ap length b.parts, length-append b.lead (b.inner ++ 34 ∷ b.after), length-append b.inner (34 ∷ b.after), inside)

record GapBefore (bytes : List ℕ) : Type 0 where
  whole : bytes ≡ take (gap_len false bytes) bytes ++ drop (gap_len false bytes) bytes
  blank : IsGap (take (gap_len false bytes) bytes)
  no_gap : begins begins_gap (drop (gap_len false bytes) bytes) ≡ false
  long : length (take (gap_len false bytes) bytes) ≡ gap_len false bytes

gap_before : (bytes : List ℕ) → 0 < length (drop (gap_len false bytes) bytes) → SkipsGap bytes (gap_len false bytes) → GapBefore bytes
gap_before bytes some (inl w) =
    let front : take (gap_len false bytes) bytes ≡ w.0 = ap (take (gap_len false bytes)) w.2 ∙ take_at w.0 w.1 (gap_len false bytes) (sym w.3) in
    let back : drop (gap_len false bytes) bytes ≡ w.1 = ap (drop (gap_len false bytes)) w.2 ∙ drop_at w.0 w.1 (gap_len false bytes) (sym w.3) in
    record {
      whole = sym (take-append-drop (gap_len false bytes) bytes);
      blank = subst IsGap (sym front) w.4;
      no_gap = ap (begins begins_gap) back ∙ w.6;
      long = ap length front ∙ sym w.3;
    }
gap_before bytes some (inr w) =
    let nothing : length (drop (gap_len false bytes) bytes) ≡ 0 = ap length (drop_all (gap_len false bytes) bytes (omega (arith, w.0))) in
    absurd (omega arith)

pub follows_end : (bytes : List ℕ) → length (drop (gap_len false bytes) bytes) ≡ 0 → IsLastGap bytes
follows_end bytes nothing =
    elim (skips_gap bytes) [
      | inl w ↦
          let back : drop (gap_len false bytes) bytes ≡ w.1 = ap (drop (gap_len false bytes)) w.2 ∙ drop_at w.0 w.1 (gap_len false bytes) (sym w.3) in
          let some = w.5 in
          absurd (omega (arith, ap length back))
      | inr w ↦ w.1
    ]

right_of : (rest : List ℕ) → 0 < length rest → begins begins_gap rest ≡ false → Right rest (lexeme_at rest)
right_of [] some none = absurd (omega arith)
right_of (b ∷ rest) some none = lexeme_right b rest none

module _ (first_line : ℕ) (before bytes : List ℕ) (some : 0 < length (drop (gap_len false bytes) bytes)) where
  right_here : (read : Result Lexeme Flaw) → lexeme_at (drop (gap_len false bytes) bytes) ≡ read → Right (drop (gap_len false bytes) bytes) read
  right_here read e =
      subst (Right (drop (gap_len false bytes) bytes)) e (right_of (drop (gap_len false bytes) bytes) some (gap_before bytes some (skips_gap bytes)).no_gap)

  pub follows_token : (found : Lexeme) (token : Token) → lexeme_at (drop (gap_len false bytes) bytes) ≡ Ok found → token.kind ≡ found.kind → token.start ≡ length before + gap_len false bytes → token.end ≡ token.start + found.len → token.line ≡ first_line + (line_ends before + line_ends (take (gap_len false bytes) bytes)) → Follows first_line before bytes (Ok (Some token))
  follows_token found token e kind start end line =
      let gap = gap_before bytes some (skips_gap bytes) in
      let is : IsLexeme (drop (gap_len false bytes) bytes) found = right_here (Ok found) e in
      let front : List ℕ = take (gap_len false bytes) bytes in
      let long : length (before ++ front) ≡ length before + gap_len false bytes = length-append before front ∙ ap (λ (n : ℕ). length before + n) gap.long in
      let len = is.len_is in (
        (before ++ front) ++ is.text,
        is.after,
        record {
          gap = front;
          text = is.text;
          whole = gap.whole ∙ ap (λ (x : List ℕ). front ++ x) is.parts;
          blank = gap.blank;
          is_token = record {
            start = start ∙ sym long;
            end = omega (arith, start, end, len, long);
            line = line ∙ ap (λ (n : ℕ). first_line + n) (sym (line_ends-append before front));
            form = subst (λ (k : TokenKind). IsToken k is.text is.after) (sym kind) is.form;
          };
          up_to = refl;
        },
      )

  pub follows_fault : (flaw : Flaw) (fault : TokenFault) → lexeme_at (drop (gap_len false bytes) bytes) ≡ Err flaw → fault.kind ≡ flaw.kind → fault.place ≡ length before + gap_len false bytes + flaw.offset → fault.line ≡ first_line + (line_ends before + line_ends (take (gap_len false bytes) bytes)) → Follows first_line before bytes (Err fault)
  follows_fault flaw fault e kind place line =
      let gap = gap_before bytes some (skips_gap bytes) in
      let front : List ℕ = take (gap_len false bytes) bytes in
      let long : length (before ++ front) ≡ length before + gap_len false bytes = length-append before front ∙ ap (λ (n : ℕ). length before + n) gap.long in
      let is : IsFlaw flaw.kind (drop (gap_len false bytes) bytes) flaw.offset = right_here (Err flaw) e in
      record {
        gap = front;
        rest = drop (gap_len false bytes) bytes;
        offset = flaw.offset;
        whole = gap.whole;
        blank = gap.blank;
        flaw = subst (λ (k : FaultKind). IsFlaw k (drop (gap_len false bytes) bytes) flaw.offset) (sym kind) is;
        place = omega (arith, place, long);
        line = line ∙ ap (λ (n : ℕ). first_line + n) (sym (line_ends-append before front));
      }

  pub lexeme_within : (found : Lexeme) → lexeme_at (drop (gap_len false bytes) bytes) ≡ Ok found → found.len ≤ length (drop (gap_len false bytes) bytes)
  lexeme_within found e =
      let is : IsLexeme (drop (gap_len false bytes) bytes) found = right_here (Ok found) e in
      omega (arith, is.len_is, ap length is.parts, length-append is.text is.after)

  pub flaw_within : (flaw : Flaw) → lexeme_at (drop (gap_len false bytes) bytes) ≡ Err flaw → flaw.offset ≤ length (drop (gap_len false bytes) bytes)
  flaw_within flaw e = within_bytes flaw.kind (drop (gap_len false bytes) bytes) flaw.offset (right_here (Err flaw) e)

-- ---- the tokens so far

pub Scans-push : (first_line : ℕ) (before bytes : List ℕ) (tokens : List Token) (read rest : List ℕ) (token : Token) (end after : List ℕ)
    → Scans first_line before bytes tokens read rest → StartsWith first_line read rest token end after → Scans first_line before bytes (tokens ++ token ∷ []) end after
Scans-push first_line before bytes [] read rest token end after leads starts =
    (end, after, subst (λ (x : List ℕ). StartsWith first_line before x token end after) leads.1 (subst (λ (x : List ℕ). StartsWith first_line x rest token end after) leads.0 starts), (refl, refl))
Scans-push first_line before bytes (t ∷ tokens) read rest token end after leads starts =
    (leads.0, leads.1, leads.2, Scans-push first_line leads.0 leads.1 tokens read rest token end after leads.3 starts)

pub starts_whole : (first_line : ℕ) (before bytes : List ℕ) (token : Token) (end after : List ℕ) → StartsWith first_line before bytes token end after → before ++ bytes ≡ end ++ after
starts_whole first_line before bytes token end after s =
    ap (λ (x : List ℕ). before ++ x) s.whole ∙ sym (append_assoc before s.gap (s.text ++ after)) ∙ sym (append_assoc (before ++ s.gap) s.text after) ∙ ap (λ (x : List ℕ). x ++ after) (sym s.up_to)

pub starts_end : (first_line : ℕ) (before bytes : List ℕ) (token : Token) (end after : List ℕ) → StartsWith first_line before bytes token end after → (token.end ≡ length end) × (token.line ≡ first_line + line_ends end) × (length before ≤ token.start) × (token.start < token.end)
starts_end first_line before bytes token end after s =
    let t = s.is_token in
    let none : line_ends s.text ≡ 0 = no_line_ends s.text (token_in_line token.kind s.text after t.form) in
    let some = token_some token.kind s.text after t.form in
    let lines : line_ends end ≡ line_ends (before ++ s.gap) + line_ends s.text = ap line_ends s.up_to ∙ line_ends-append (before ++ s.gap) s.text in
    let long : length end ≡ length (before ++ s.gap) + length s.text = ap length s.up_to ∙ length-append (before ++ s.gap) s.text in
    (omega (arith, t.end, long), omega (arith, t.line, lines, none), omega (arith, t.start, length-append before s.gap), omega (arith, t.start, t.end, some))

-- ---- what follows of the tokens of a text

pub in_order : (first_line : ℕ) (before bytes : List ℕ) (tokens : List Token) (read rest : List ℕ) (to : ℕ) → to ≡ length before + length bytes → Scans first_line before bytes tokens read rest → AreInOrder (length before) to tokens
in_order first_line before bytes [] read rest to e leads = omega (arith, e)
in_order first_line before bytes (t ∷ tokens) read rest to e leads =
    let places = starts_end first_line before bytes t leads.0 leads.1 leads.2 in
    let whole : length before + length bytes ≡ length leads.0 + length leads.1 = sym (length-append before bytes) ∙ ap length (starts_whole first_line before bytes t leads.0 leads.1 leads.2) ∙ length-append leads.0 leads.1 in
    (places.2, places.3, subst (λ (n : ℕ). AreInOrder n to tokens) (sym places.0) (in_order first_line leads.0 leads.1 tokens read rest to (e ∙ whole) leads.3))

-- a part of a text is its slice
slice_at : (text front part after : List ℕ) (start end : ℕ) → text ≡ front ++ (part ++ after) → start ≡ length front → end ≡ length front + length part → (slice_range text start end ≡ part) × (drop end text ≡ after) × (end ≤ length text)
slice_at text front part after start end parts start_is end_is =
    let len : length part ≡ end - start = omega (arith, start_is, end_is) in
    let behind : drop start text ≡ part ++ after = ap (drop start) parts ∙ drop_at front (part ++ after) start (sym start_is) in
    let long : length (front ++ part) ≡ end = length-append front part ∙ sym end_is in (
      ap (λ (x : List ℕ). take (end - start) x) behind ∙ take_at part after (end - start) len,
      ap (drop end) (parts ∙ sym (append_assoc front part after)) ∙ drop_at (front ++ part) after end long,
      omega (arith, ap length parts, length-append front (part ++ after), length-append part after, end_is),
    )

pub each_is : (text : List ℕ) (first_line : ℕ) (before bytes : List ℕ) (tokens : List Token) (read rest : List ℕ) → text ≡ before ++ bytes → Scans first_line before bytes tokens read rest → All (IsTokenOf text) tokens
each_is text first_line before bytes [] read rest e leads = All-nil (IsTokenOf text)
each_is text first_line before bytes (t ∷ tokens) read rest e leads =
    let s = leads.2 in
    let is = s.is_token in
    let parts : text ≡ (before ++ s.gap) ++ (s.text ++ leads.1) = e ∙ ap (λ (x : List ℕ). before ++ x) s.whole ∙ sym (append_assoc before s.gap (s.text ++ leads.1)) in
    let slice = slice_at text (before ++ s.gap) s.text leads.1 t.start t.end parts is.start is.end in
    All-cons (IsTokenOf text) t tokens
    (record {
      ordered = omega (arith, is.start, is.end);
      within = slice.2;
      form = subst (λ (x : List ℕ). IsToken t.kind x (drop t.end text)) (sym slice.0) (subst (λ (x : List ℕ). IsToken t.kind s.text x) (sym slice.1) is.form);
    })
    (each_is text first_line leads.0 leads.1 tokens read rest (e ∙ starts_whole first_line before bytes t leads.0 leads.1 s) leads.3)

-- ---- the same, in the terms of the code

module _ (text behind rest : List ℕ) (at len : ℕ) (behind_is : behind ≡ drop at text) (len_is : len ≡ gap_len false behind) (rest_is : rest ≡ drop len behind) where
  rest_here : rest ≡ drop (gap_len false (drop at text)) (drop at text)
  rest_here = rest_is ∙ ap (λ (n : ℕ). drop n behind) len_is ∙ ap (λ (b : List ℕ). drop (gap_len false b) b) behind_is

  len_here : len ≡ gap_len false (drop at text)
  len_here = len_is ∙ ap (gap_len false) behind_is

  pub ends_here : true ≡ eqb (length rest) 0 → IsLastGap (drop at text)
  ends_here nothing = follows_end (drop at text) (ap length (sym rest_here) ∙ eqb-true (length rest) 0 (sym nothing))

  some_here : false ≡ eqb (length rest) 0 → 0 < length (drop (gap_len false (drop at text)) (drop at text))
  some_here more = subst (λ (x : List ℕ). 0 < length x) rest_here (some_left (length rest) more)

  reads_here : (read : Result Lexeme Flaw) → read ≡ lexeme_at rest → lexeme_at (drop (gap_len false (drop at text)) (drop at text)) ≡ read
  reads_here read e = ap lexeme_at (sym rest_here) ∙ sym e

  pub lexeme_bound : at ≤ length text → false ≡ eqb (length rest) 0 → (found : Lexeme) → Ok found ≡ lexeme_at rest → at + len + found.len ≤ length text
  lexeme_bound within more found e =
      let some = some_here more in
      let long = lexeme_within 0 [] (drop at text) some found (reads_here (Ok found) e) in
      omega (arith, long, length-drop (gap_len false (drop at text)) (drop at text), length-drop at text, len_here, some)

  pub flaw_bound : at ≤ length text → false ≡ eqb (length rest) 0 → (flaw : Flaw) → Err flaw ≡ lexeme_at rest → at + len + flaw.offset ≤ length text
  flaw_bound within more flaw e =
      let some = some_here more in
      let long = flaw_within 0 [] (drop at text) some flaw (reads_here (Err flaw) e) in
      omega (arith, long, length-drop (gap_len false (drop at text)) (drop at text), length-drop at text, len_here, some)

  lines_here : (lines : ℕ) → lines ≡ line_ends (take len behind) → lines ≡ line_ends (take (gap_len false (drop at text)) (drop at text))
  lines_here lines e = e ∙ ap (λ (n : ℕ). line_ends (take n behind)) len_is ∙ ap (λ (b : List ℕ). line_ends (take (gap_len false b) b)) behind_is

  pub token_here : at ≤ length text → false ≡ eqb (length rest) 0 → (first_line : ℕ) (found : Lexeme) (line lines : ℕ) → Ok found ≡ lexeme_at rest → lines ≡ line_ends (take len behind) → line ≡ first_line + line_ends (take at text)
      → Follows first_line (take at text) (drop at text) (Ok (Some (record { kind = found.kind; start = at + len; end = at + len + found.len; line = line + lines })))
  token_here within more first_line found line lines e lines_are line_is =
      let long : length (take at text) ≡ at = length-take-le at text within in
      let more_lines = lines_here lines lines_are in
      follows_token first_line (take at text) (drop at text) (some_here more) found (record { kind = found.kind; start = at + len; end = at + len + found.len; line = line + lines })
      (reads_here (Ok found) e) refl (omega (arith, long, len_here)) refl (omega (arith, more_lines, line_is))

  pub fault_here : at ≤ length text → false ≡ eqb (length rest) 0 → (first_line : ℕ) (flaw : Flaw) (line lines : ℕ) → Err flaw ≡ lexeme_at rest → lines ≡ line_ends (take len behind) → line ≡ first_line + line_ends (take at text)
      → Follows first_line (take at text) (drop at text) (Err (record { kind = flaw.kind; place = at + len + flaw.offset; line = line + lines }))
  fault_here within more first_line flaw line lines e lines_are line_is =
      let long : length (take at text) ≡ at = length-take-le at text within in
      let more_lines = lines_here lines lines_are in
      follows_fault first_line (take at text) (drop at text) (some_here more) flaw (record { kind = flaw.kind; place = at + len + flaw.offset; line = line + lines })
      (reads_here (Err flaw) e) refl (omega (arith, long, len_here)) (omega (arith, more_lines, line_is))

-- a step of the loop over the text
pub record ReadTo (first_line : ℕ) (text : List ℕ) (tokens : List Token) (at line : ℕ) : Type 0 where
  pub within : at ≤ length text
  pub line_is : line ≡ first_line + line_ends (take at text)
  pub leads : Scans first_line [] text tokens (take at text) (drop at text)

pub few_lines : (first_line : ℕ) (text : List ℕ) (tokens : List Token) (at line : ℕ) → first_line < 2 ^ 31 → ReadTo first_line text tokens at line → line < 2 ^ 31 + at
few_lines first_line text tokens at line few r =
    omega (arith, few, r.line_is, count_by-le-length (λ b. eqb b 10) (take at text), length-take-le at text r.within)

pub reads_on : (first_line : ℕ) (text : List ℕ) (tokens : List Token) (at line : ℕ) (token : Token) → ReadTo first_line text tokens at line → Follows first_line (take at text) (drop at text) (Ok (Some token))
    → ReadTo first_line text (tokens ++ token ∷ []) token.end token.line × (at < token.end)
reads_on first_line text tokens at line token r follows =
    let end : List ℕ = follows.0 in
    let after : List ℕ = follows.1 in
    let places = starts_end first_line (take at text) (drop at text) token end after follows.2 in
    let whole : text ≡ end ++ after = sym (take-append-drop at text) ∙ starts_whole first_line (take at text) (drop at text) token end after follows.2 in
    let front : take token.end text ≡ end = ap (take token.end) whole ∙ take_at end after token.end (sym places.0) in
    let back : drop token.end text ≡ after = ap (drop token.end) whole ∙ drop_at end after token.end (sym places.0) in
    let pushed = Scans-push first_line [] text tokens (take at text) (drop at text) token end after r.leads follows.2 in
    let long : length text ≡ length end + length after = ap length whole ∙ length-append end after in
    let from : length (take at text) ≡ at = length-take-le at text r.within in (
      record {
        within = omega (arith, places.0, long);
        line_is = places.1 ∙ ap (λ (x : List ℕ). first_line + line_ends x) (sym front);
        leads = subst (λ (x : List ℕ). Scans first_line [] text (tokens ++ token ∷ []) x (drop token.end text)) (sym front) (subst (λ (x : List ℕ). Scans first_line [] text (tokens ++ token ∷ []) end x) (sym back) pushed);
      },
      omega (arith, places.2, places.3, from),
    )

-- ---- one answer

-- a text is read to its end or to its first fault
abbrev pub IsAnswer : (text : List ℕ) (first_line : ℕ) (tokens : List Token) → Option TokenFault → Type 0
IsAnswer text first_line tokens end = (read rest : List ℕ) × Scans first_line [] text tokens read rest × Ends first_line read rest end

one_end : (text : List ℕ) (first_line : ℕ) (ts us : List Token) (a b : Option TokenFault) → IsAnswer text first_line ts a → IsAnswer text first_line us b → (ts ≡ us) × (a ≡ b)
one_end text first_line ts us a b s t = one_scan first_line [] text ts us s.0 s.1 t.0 t.1 a b s.2 s.3 t.2 t.3

pub one_list : (text : List ℕ) (first_line : ℕ) (one other : List Token) → AreTokens text first_line one → AreTokens text first_line other → one ≡ other
one_list text first_line one other s t = (one_end text first_line one other None None s t).0

pub one_fault : (text : List ℕ) (first_line : ℕ) (one other : TokenFault) → IsFirstFault text first_line one → IsFirstFault text first_line other → one ≡ other
one_fault text first_line one other s t =
    let same : Some one ≡ Some other = (one_end text first_line s.0 t.0 (Some one) (Some other) (s.1, s.2, s.3, s.4) (t.1, t.2, t.3, t.4)).1 in
    cc

pub not_both : (text : List ℕ) (first_line : ℕ) (tokens : List Token) (fault : TokenFault) → AreTokens text first_line tokens → IsFirstFault text first_line fault → ⊥
not_both text first_line tokens fault s t =
    let same : None ≡ Some fault = (one_end text first_line tokens t.0 None (Some fault) s (t.1, t.2, t.3, t.4)).1 in
    cc

-- ---- some answer

abbrev Scan : ℕ → List ℕ → List ℕ → Type 0
Scan first_line before bytes = (tokens : List Token) × (end : Option TokenFault) × (read rest : List ℕ) × Scans first_line before bytes tokens read rest × Ends first_line read rest end

stop : (first_line : ℕ) (before bytes : List ℕ) (end : Option TokenFault) → Ends first_line before bytes end → Scan first_line before bytes
stop first_line before bytes end ends = ([], end, before, bytes, (refl, refl), ends)

go_on : (first_line : ℕ) (before bytes : List ℕ) (token : Token) (end after : List ℕ) → StartsWith first_line before bytes token end after → Scan first_line end after → Scan first_line before bytes
go_on first_line before bytes token end after starts later = (token ∷ later.0, later.1, later.2, later.3, (end, after, starts, later.4), later.5)

scan_next : (first_line : ℕ) (before bytes : List ℕ) → ((end after : List ℕ) → length after < length bytes → Scan first_line end after) → 0 < length (drop (gap_len false bytes) bytes) → (read : Result Lexeme Flaw) → lexeme_at (drop (gap_len false bytes) bytes) ≡ read → Scan first_line before bytes
scan_next first_line before bytes later some (Ok found) e =
    let at : ℕ = length before + gap_len false bytes in
    let token : Token = record { kind = found.kind; start = at; end = at + found.len; line = first_line + (line_ends before + line_ends (take (gap_len false bytes) bytes)) } in
    let follows = follows_token first_line before bytes some found token e refl refl refl refl in
    let places = starts_end first_line before bytes token follows.0 follows.1 follows.2 in
    let whole : length before + length bytes ≡ length follows.0 + length follows.1 = sym (length-append before bytes) ∙ ap length (starts_whole first_line before bytes token follows.0 follows.1 follows.2) ∙ length-append follows.0 follows.1 in
    let more : length before < length follows.0 = omega (arith, places.0, places.2, places.3) in
    go_on first_line before bytes token follows.0 follows.1 follows.2 (later follows.0 follows.1 (omega arith))
scan_next first_line before bytes later some (Err flaw) e =
    let fault : TokenFault = record { kind = flaw.kind; place = length before + gap_len false bytes + flaw.offset; line = first_line + (line_ends before + line_ends (take (gap_len false bytes) bytes)) } in
    stop first_line before bytes (Some fault) (follows_fault first_line before bytes some flaw fault e refl refl refl)

scan_all : (bytes_left : ℕ) (first_line : ℕ) (before bytes : List ℕ) → length bytes ≤ bytes_left → Scan first_line before bytes
scan_all zero first_line before bytes few =
    stop first_line before bytes None (follows_end bytes (omega (arith, length-drop (gap_len false bytes) bytes)))
scan_all (suc bytes_left) first_line before bytes few =
    elim (cases_lt 0 (length (drop (gap_len false bytes) bytes))) [
      | inl some ↦ scan_next first_line before bytes (λ end after less. scan_all bytes_left first_line end after (omega arith)) some (lexeme_at (drop (gap_len false bytes) bytes)) refl
      | inr none ↦ stop first_line before bytes None (follows_end bytes (omega arith))
    ]

answer_of : (text : List ℕ) (first_line : ℕ) (tokens : List Token) (end : Option TokenFault) (read rest : List ℕ) → Scans first_line [] text tokens read rest → Ends first_line read rest end → ((tokens : List Token) × AreTokens text first_line tokens) ⊎ ((fault : TokenFault) × IsFirstFault text first_line fault)
answer_of text first_line tokens None read rest leads ends = inl (tokens, (read, rest, leads, ends))
answer_of text first_line tokens (Some fault) read rest leads ends = inr (fault, (tokens, read, rest, leads, ends))

pub some_answer : (text : List ℕ) (first_line : ℕ) → ((tokens : List Token) × AreTokens text first_line tokens) ⊎ ((fault : TokenFault) × IsFirstFault text first_line fault)
some_answer text first_line =
    let s = scan_all (length text) first_line [] text (omega arith) in
    answer_of text first_line s.0 s.1 s.2 s.3 s.4 s.5

-- ---- the answer of the code, unless memory is wanting

abbrev pub Answered : {E : Type 0} → (text : List ℕ) (first_line : ℕ) → Result (Result (List Token) TokenFault) E → Type 0
Answered text first_line result = IfOk result (λ answer. MatchResult answer (AreTokens text first_line) (IsFirstFault text first_line))

pub only_tokens : {E : Type 0} (text : List ℕ) (first_line : ℕ) (result : Result (Result (List Token) TokenFault) E) → Answered text first_line result → (tokens : List Token) → AreTokens text first_line tokens → IfOk result (λ answer. answer ≡ Ok tokens)
only_tokens text first_line (Ok (Ok found)) so tokens are = ap (λ (ts : List Token). Ok ts) (one_list text first_line found tokens so are)
only_tokens text first_line (Ok (Err fault)) so tokens are = absurd (not_both text first_line tokens fault are so)
only_tokens text first_line (Err e) so tokens are = tt

pub only_fault : {E : Type 0} (text : List ℕ) (first_line : ℕ) (result : Result (Result (List Token) TokenFault) E) → Answered text first_line result → (fault : TokenFault) → IsFirstFault text first_line fault → IfOk result (λ answer. answer ≡ Err fault)
only_fault text first_line (Ok (Ok found)) so fault is = absurd (not_both text first_line found fault so is)
only_fault text first_line (Ok (Err other)) so fault is = ap (λ (f : TokenFault). Err f) (one_fault text first_line other fault so is)
only_fault text first_line (Err e) so fault is = tt

pub answer_in_order : {E : Type 0} (text : List ℕ) (first_line : ℕ) (result : Result (Result (List Token) TokenFault) E) → Answered text first_line result → IfOk result (λ answer. IfOk answer (AreInOrder 0 (length text)))
answer_in_order text first_line (Ok (Ok tokens)) so = in_order first_line [] text tokens so.0 so.1 (length text) (omega arith) so.2
answer_in_order text first_line (Ok (Err fault)) so = tt
answer_in_order text first_line (Err e) so = tt

pub answer_each : {E : Type 0} (text : List ℕ) (first_line : ℕ) (result : Result (Result (List Token) TokenFault) E) → Answered text first_line result → IfOk result (λ answer. IfOk answer (All (IsTokenOf text)))
answer_each text first_line (Ok (Ok tokens)) so = each_is text first_line [] text tokens so.0 so.1 refl so.2
answer_each text first_line (Ok (Err fault)) so = tt
answer_each text first_line (Err e) so = tt
