-- The other way round: a token is read as one, and so is a fault. So bytes begin with one token at most, or one fault.
use Rattle.std.proofs.Common.{◌≡◌, ℕ, suc, ◌+◌, ◌<◌, Bool, true, false, not, cond, ◌||◌, eqb, List, [], ◌∷◌, ◌++◌, length, drop, Result, Ok, Err, refl, sym, ap, subst, ◌∙◌, arith, inl, inr, length-append}
use Rattle.std.specs.List.{list_all, list_any, prefix_len}
use Rattle.std.proofs.lemmas.List.{take_at, drop_at, append_assoc}
use Rattle.std.proofs.lemmas.Bool.{or_from, or_parts, or_cases, and_parts, eqb-true, not-true, ne_eqb}
use Rattle.ll_token.specs.declared.token.TokenKind.{TokenKind}
use Rattle.ll_token.specs.declared.token.TokenKind.TheVariants as kinds
use Rattle.ll_token.specs.declared.token.FaultKind.{FaultKind}
use Rattle.ll_token.specs.declared.token.FaultKind.TheVariants as faults
use Rattle.ll_token.specs.declared.lexeme.Lexeme.{Lexeme}
use Rattle.ll_token.specs.declared.lexeme.Flaw.{Flaw}
use Rattle.ll_token.specs.Bytes.{begins_gap, is_run_byte, marks, is_mark, is_sigil, is_inner, is_other, begins, is_number}
use Rattle.ll_token.specs.Names.{IsRun, Writes, StandsFor}
use Rattle.ll_token.specs.Lexemes.{IsToken, IsFlaw, IsLead, BeginsNoToken, IsPlainRun}
use Rattle.ll_token.specs.Lexemes.BeginsNoToken.{other_byte, no_name, no_hash, empty_name, empty_label}
use Rattle.ll_token.specs.Reading.{lexeme, bad_byte, inside_at, bare_name, quoted_name, name_at, string_at, run_at, lexeme_at}
use Rattle.ll_token.proofs.ListLaws.{apart, prefix_is, front_byte}
use Rattle.ll_token.proofs.PieceLaws.{StandsFor-length}
use Rattle.ll_token.proofs.StringLaws.{begins_parts, inside_again, open_again, bad_again, open_string, bad_escape}

-- what is read at the front, behind no gap
pub record Starts (bytes : List ℕ) (read : Result Lexeme Flaw) : Type 0 where
  pub reads : lexeme_at bytes ≡ read
  pub no_gap : begins begins_gap bytes ≡ false
  pub some : 0 < length bytes

-- a run byte neither begins a gap nor is it one of these
run_no_gap : (b : ℕ) → is_run_byte b ≡ true → begins_gap b ≡ false
run_no_gap b run =
    or_from _ _ (or_from _ _ (or_from _ _ (or_from _ _ (apart is_run_byte b 32 run refl) (apart is_run_byte b 9 run refl)) (apart is_run_byte b 13 run refl)) (apart is_run_byte b 10 run refl)) (apart is_run_byte b 59 run refl)

mark_no_gap : (b : ℕ) → is_mark b ≡ true → begins_gap b ≡ false
mark_no_gap b mark =
    or_from _ _ (or_from _ _ (or_from _ _ (or_from _ _ (apart is_mark b 32 mark refl) (apart is_mark b 9 mark refl)) (apart is_mark b 13 mark refl)) (apart is_mark b 10 mark refl)) (apart is_mark b 59 mark refl)

-- what holds of each byte of a list holds of one that is among them
any_all : (test : ℕ → Bool) (b : ℕ) (bytes : List ℕ) → list_any (λ c. eqb c b) bytes ≡ true → list_all test bytes ≡ true → test b ≡ true
any_all test b [] any all = absurd cc
any_all test b (c ∷ bytes) any all =
    let parts = and_parts (test c) (list_all test bytes) all in
    elim (or_cases (eqb c b) (list_any (λ x. eqb x b) bytes) any) [
      | inl e ↦ subst (λ (x : ℕ). test x ≡ true) (eqb-true c b e) parts.0
      | inr later ↦ any_all test b bytes later parts.1
    ]

mark_no_run : (b : ℕ) → is_mark b ≡ true → is_run_byte b ≡ false
mark_no_run b mark = not-true (is_run_byte b) (any_all (λ c. not (is_run_byte c)) b marks mark refl)

not_zero : (n : ℕ) → 0 < n → eqb n 0 ≡ false
not_zero n some = ne_eqb n 0 (λ none. let h : n ≡ 0 = none in omega arith)

one_more : (kind : TokenKind) (m n : ℕ) → m ≡ n → lexeme kind m ≡ lexeme kind n
one_more kind m n e = ap (lexeme kind) e

-- ---- runs

run_first : (front rest : List ℕ) → 0 < length front → list_all is_run_byte front ≡ true → lexeme_at (front ++ rest) ≡ run_at (front ++ rest)
unfolding lexeme_at
run_first [] rest some each = absurd (omega arith)
run_first (b ∷ front) rest some each =
    let run : is_run_byte b ≡ true = (and_parts (is_run_byte b) (list_all is_run_byte front) each).0 in
    rw (run, apart is_run_byte b 37 run refl, apart is_run_byte b 64 run refl, apart is_run_byte b 34 run refl, apart is_run_byte b 33 run refl, apart is_run_byte b 35 run refl) refl

run_starts : (front rest : List ℕ) (read : Result Lexeme Flaw) → 0 < length front → list_all is_run_byte front ≡ true → run_at (front ++ rest) ≡ read → Starts (front ++ rest) read
run_starts front rest read some each reads = record {
  reads = run_first front rest some each ∙ reads;
  no_gap = front_byte is_run_byte begins_gap front rest some each run_no_gap;
  some = omega (arith, length-append front rest);
}

label_again : (run after : List ℕ) → IsRun run (58 ∷ after) → run_at (run ++ 58 ∷ after) ≡ lexeme kinds.Label (length run + 1)
unfolding run_at
label_again run after is =
    let len : prefix_len is_run_byte (run ++ 58 ∷ after) ≡ length run = prefix_is is_run_byte run (58 ∷ after) is.each is.longest in
    rw (len, drop_at run (58 ∷ after) (length run) refl) refl

plain_again : (run after : List ℕ) → IsPlainRun run after → run_at (run ++ after) ≡ cond (is_number run) (lexeme kinds.Number (length run)) (lexeme kinds.Word (length run))
unfolding run_at
plain_again run after is =
    let len : prefix_len is_run_byte (run ++ after) ≡ length run = prefix_is is_run_byte run after is.0.each is.0.longest in
    rw (len, drop_at run after (length run) refl, take_at run after (length run) refl, is.1) refl

bare_again : (kind : TokenKind) (run after : List ℕ) → IsRun run after → bare_name kind (run ++ after) ≡ lexeme kind (length run + 1)
unfolding bare_name
bare_again kind run after is =
    let len : prefix_len is_run_byte (run ++ after) ≡ length run = prefix_is is_run_byte run after is.each is.longest in
    rw (len, not_zero (length run) is.some) refl

none_again : (kind : TokenKind) (rest : List ℕ) → begins is_run_byte rest ≡ false → bare_name kind rest ≡ bad_byte
unfolding bare_name
none_again kind rest none =
    let len : prefix_len is_run_byte rest ≡ 0 = prefix_is is_run_byte [] rest refl none in
    rw len refl

-- ---- names

-- a name that isn't empty has an inside that isn't
written : (inner name : List ℕ) → StandsFor inner name [] → 0 < length name → 0 < length inner
written inner name stands some = omega (arith, StandsFor-length inner name [] stands)

pub name_again : (kind : TokenKind) (body after name : List ℕ) → Writes body after name → 0 < length name → name_at kind (body ++ after) ≡ lexeme kind (suc (length body))
unfolding name_at quoted_name
name_again kind body after name (inl w) some =
    let run = w.0 in
    let bare : begins (λ b. eqb b 34) (body ++ after) ≡ false = front_byte is_run_byte (λ b. eqb b 34) body after run.some run.each (λ b is_run. apart is_run_byte b 34 is_run refl) in
    rw bare (bare_again kind body after run ∙ one_more kind (length body + 1) (suc (length body)) (omega arith))
name_again kind body after name (inr q) some =
    let text : body ++ after ≡ 34 ∷ (q.inner ++ 34 ∷ after) = ap (λ (x : List ℕ). x ++ after) q.quotes ∙ ap (λ (x : List ℕ). 34 ∷ x) (append_assoc q.inner (34 ∷ []) after) in
    let more : eqb (length q.inner) 0 ≡ false = not_zero (length q.inner) (written q.inner name q.escapes some) in
    let inside : inside_at 2 (q.inner ++ 34 ∷ after) ≡ Ok (length q.inner) = inside_again 2 q.inner after name q.in_line q.escapes in
    let long : length body ≡ suc (length (q.inner ++ 34 ∷ [])) = ap length q.quotes in
    let len : length q.inner + 3 ≡ suc (length body) = omega (arith, long, length-append q.inner (34 ∷ [])) in
    ap (name_at kind) text ∙ rw (inside, more) (one_more kind (length q.inner + 3) (suc (length body)) len)

-- ---- strings

string_again : (inner after name : List ℕ) → list_all is_inner inner ≡ true → StandsFor inner name [] → string_at (inner ++ 34 ∷ after) ≡ cond (begins (λ b. eqb b 58) after) (cond (eqb (length inner) 0) bad_byte (lexeme kinds.Label (length inner + 3))) (lexeme kinds.String (length inner + 2))
unfolding string_at
string_again inner after name in_line escapes =
    let inside : inside_at 1 (inner ++ 34 ∷ after) ≡ Ok (length inner) = inside_again 1 inner after name in_line escapes in
    let long : length (inner ++ 34 ∷ []) ≡ length inner + 1 = length-append inner (34 ∷ []) in
    let behind : drop (length inner + 1) (inner ++ 34 ∷ after) ≡ after = ap (drop (length inner + 1)) (sym (append_assoc inner (34 ∷ []) after)) ∙ drop_at (inner ++ 34 ∷ []) after (length inner + 1) long in
    rw (inside, behind) refl

-- ---- tokens

moved : (bytes other : List ℕ) (read other_read : Result Lexeme Flaw) → bytes ≡ other → read ≡ other_read → Starts other other_read → Starts bytes read
moved bytes other read other_read same_bytes same_read starts = record {
  reads = ap lexeme_at same_bytes ∙ starts.reads ∙ sym same_read;
  no_gap = ap (begins begins_gap) same_bytes ∙ starts.no_gap;
  some = (let long = ap length same_bytes in let more = starts.some in omega arith);
}

quoted_label : (inner after name : List ℕ) → list_all is_inner inner ≡ true → StandsFor inner name [] → 0 < length name → Starts (34 ∷ (inner ++ 34 ∷ 58 ∷ after)) (lexeme kinds.Label (length inner + 3))
unfolding lexeme_at
quoted_label inner after name in_line escapes some =
    let more : eqb (length inner) 0 ≡ false = not_zero (length inner) (written inner name escapes some) in
    record {
      reads = string_again inner (58 ∷ after) name in_line escapes ∙ rw more refl;
      no_gap = refl;
      some = omega arith;
    }

pub lexeme_again : (kind : TokenKind) (text after : List ℕ) → IsToken kind text after → Starts (text ++ after) (lexeme kind (length text))
unfolding lexeme_at
lexeme_again kinds.Local text after (name, (body, e, w, some)) =
    moved (text ++ after) ((37 ∷ body) ++ after) (lexeme kinds.Local (length text)) (lexeme kinds.Local (suc (length body))) (ap (λ (x : List ℕ). x ++ after) e) (ap (λ (x : List ℕ). lexeme kinds.Local (length x)) e)
    (record { reads = name_again kinds.Local body after name w some; no_gap = refl; some = omega arith })
lexeme_again kinds.Global text after (name, (body, e, w, some)) =
    moved (text ++ after) ((64 ∷ body) ++ after) (lexeme kinds.Global (length text)) (lexeme kinds.Global (suc (length body))) (ap (λ (x : List ℕ). x ++ after) e) (ap (λ (x : List ℕ). lexeme kinds.Global (length x)) e)
    (record { reads = name_again kinds.Global body after name w some; no_gap = refl; some = omega arith })
lexeme_again kinds.Label text after (name, (body, e, inl w, some)) =
    let long : length text ≡ length body + 1 = ap length e ∙ length-append body (58 ∷ []) in
    moved (text ++ after) (body ++ 58 ∷ after) (lexeme kinds.Label (length text)) (lexeme kinds.Label (length body + 1)) (ap (λ (x : List ℕ). x ++ after) e ∙ append_assoc body (58 ∷ []) after) (one_more kinds.Label (length text) (length body + 1) long)
    (run_starts body (58 ∷ after) (lexeme kinds.Label (length body + 1)) w.0.some w.0.each (label_again body after w.0))
lexeme_again kinds.Label text after (name, (body, e, inr q, some)) =
    let quotes : text ≡ 34 ∷ ((q.inner ++ 34 ∷ []) ++ 58 ∷ []) = e ∙ ap (λ (x : List ℕ). x ++ 58 ∷ []) q.quotes in
    let bytes : text ++ after ≡ 34 ∷ (q.inner ++ 34 ∷ 58 ∷ after) = ap (λ (x : List ℕ). x ++ after) quotes ∙ ap (λ (x : List ℕ). 34 ∷ x) (append_assoc (q.inner ++ 34 ∷ []) (58 ∷ []) after ∙ append_assoc q.inner (34 ∷ []) (58 ∷ after)) in
    let long : length text ≡ length q.inner + 3 = omega (arith, ap length quotes, length-append (q.inner ++ 34 ∷ []) (58 ∷ []), length-append q.inner (34 ∷ [])) in
    moved (text ++ after) (34 ∷ (q.inner ++ 34 ∷ 58 ∷ after)) (lexeme kinds.Label (length text)) (lexeme kinds.Label (length q.inner + 3)) bytes (one_more kinds.Label (length text) (length q.inner + 3) long)
    (quoted_label q.inner after name q.in_line q.escapes some)
lexeme_again kinds.String text after (name, (q, plain)) =
    let bytes : text ++ after ≡ 34 ∷ (q.inner ++ 34 ∷ after) = ap (λ (x : List ℕ). x ++ after) q.quotes ∙ ap (λ (x : List ℕ). 34 ∷ x) (append_assoc q.inner (34 ∷ []) after) in
    let long : length text ≡ length q.inner + 2 = omega (arith, ap length q.quotes, length-append q.inner (34 ∷ [])) in
    moved (text ++ after) (34 ∷ (q.inner ++ 34 ∷ after)) (lexeme kinds.String (length text)) (lexeme kinds.String (length q.inner + 2)) bytes (one_more kinds.String (length text) (length q.inner + 2) long)
    (record { reads = string_again q.inner after name q.in_line q.escapes ∙ rw plain refl; no_gap = refl; some = omega arith })
lexeme_again kinds.Number text after (is, number) =
    run_starts text after (lexeme kinds.Number (length text)) is.0.some is.0.each (plain_again text after is ∙ rw number refl)
lexeme_again kinds.Word text after (is, word) =
    run_starts text after (lexeme kinds.Word (length text)) is.0.some is.0.each (plain_again text after is ∙ rw word refl)
lexeme_again kinds.Meta text after (run, e, each, longest) =
    let len : prefix_len is_run_byte (run ++ after) ≡ length run = prefix_is is_run_byte run after each longest in
    moved (text ++ after) ((33 ∷ run) ++ after) (lexeme kinds.Meta (length text)) (lexeme kinds.Meta (prefix_len is_run_byte (run ++ after) + 1)) (ap (λ (x : List ℕ). x ++ after) e) (one_more kinds.Meta (length text) (prefix_len is_run_byte (run ++ after) + 1) (omega (arith, ap length e, len)))
    (record { reads = refl; no_gap = refl; some = omega arith })
lexeme_again kinds.Hash text after (run, e, is) =
    moved (text ++ after) ((35 ∷ run) ++ after) (lexeme kinds.Hash (length text)) (lexeme kinds.Hash (length run + 1)) (ap (λ (x : List ℕ). x ++ after) e) (one_more kinds.Hash (length text) (length run + 1) (omega (arith, ap length e)))
    (record { reads = bare_again kinds.Hash run after is; no_gap = refl; some = omega arith })
lexeme_again kinds.Mark text after (b, e, mark) =
    moved (text ++ after) (b ∷ after) (lexeme kinds.Mark (length text)) (lexeme kinds.Mark 1) (ap (λ (x : List ℕ). x ++ after) e) (ap (λ (x : List ℕ). lexeme kinds.Mark (length x)) e)
    (record {
      reads = rw (mark_no_run b mark, mark, apart is_mark b 37 mark refl, apart is_mark b 64 mark refl, apart is_mark b 34 mark refl, apart is_mark b 33 mark refl, apart is_mark b 35 mark refl) refl;
      no_gap = mark_no_gap b mark;
      some = omega arith;
    })

-- ---- faults

string_broken : (bytes : List ℕ) (flaw : Flaw) → inside_at 1 bytes ≡ Err flaw → string_at bytes ≡ Err flaw
unfolding string_at
string_broken bytes flaw e = rw e refl

name_broken : (kind : TokenKind) (bytes : List ℕ) (flaw : Flaw) → inside_at 2 bytes ≡ Err flaw → name_at kind (34 ∷ bytes) ≡ Err flaw
unfolding name_at quoted_name
name_broken kind bytes flaw e = rw e refl

lead_broken : (lead bytes : List ℕ) (flaw : Flaw) → IsLead lead → inside_at (length lead) bytes ≡ Err flaw → Starts (lead ++ bytes) (Err flaw)
unfolding lexeme_at
lead_broken lead bytes flaw (inl e) broken =
    moved (lead ++ bytes) (34 ∷ bytes) (Err flaw) (Err flaw) (ap (λ (x : List ℕ). x ++ bytes) e) refl
    (record { reads = string_broken bytes flaw (ap (λ (x : List ℕ). inside_at (length x) bytes) (sym e) ∙ broken); no_gap = refl; some = omega arith })
lead_broken lead bytes flaw (inr (inl e)) broken =
    moved (lead ++ bytes) (37 ∷ 34 ∷ bytes) (Err flaw) (Err flaw) (ap (λ (x : List ℕ). x ++ bytes) e) refl
    (record { reads = name_broken kinds.Local bytes flaw (ap (λ (x : List ℕ). inside_at (length x) bytes) (sym e) ∙ broken); no_gap = refl; some = omega arith })
lead_broken lead bytes flaw (inr (inr e)) broken =
    moved (lead ++ bytes) (64 ∷ 34 ∷ bytes) (Err flaw) (Err flaw) (ap (λ (x : List ℕ). x ++ bytes) e) refl
    (record { reads = name_broken kinds.Global bytes flaw (ap (λ (x : List ℕ). inside_at (length x) bytes) (sym e) ∙ broken); no_gap = refl; some = omega arith })

no_name_again : (kind : TokenKind) (rest : List ℕ) → begins (λ b. is_run_byte b || eqb b 34) rest ≡ false → name_at kind rest ≡ bad_byte
unfolding name_at
no_name_again kind rest none =
    let parts = begins_parts is_run_byte (λ b. eqb b 34) rest none in
    rw parts.1 (none_again kind rest parts.0)

empty_name_again : (kind : TokenKind) (rest : List ℕ) → name_at kind (34 ∷ 34 ∷ rest) ≡ bad_byte
unfolding name_at quoted_name
empty_name_again kind rest =
    let inside : inside_at 2 (34 ∷ rest) ≡ Ok 0 = inside_again 2 [] rest [] refl refl in
    rw inside refl

sigil_starts : (first : ℕ) (rest : List ℕ) → is_sigil first ≡ true → ((kind : TokenKind) → name_at kind rest ≡ bad_byte) → Starts (first ∷ rest) bad_byte
unfolding lexeme_at
sigil_starts first rest sigil bad =
    elim (or_cases (eqb first 37) (eqb first 64) sigil) [
      | inl e ↦ subst (λ (b : ℕ). Starts (b ∷ rest) bad_byte) (sym (eqb-true first 37 e)) (record { reads = bad kinds.Local; no_gap = refl; some = omega arith })
      | inr e ↦ subst (λ (b : ℕ). Starts (b ∷ rest) bad_byte) (sym (eqb-true first 64 e)) (record { reads = bad kinds.Global; no_gap = refl; some = omega arith })
    ]

other_starts : (b : ℕ) (rest : List ℕ) → is_other b ≡ true → Starts (b ∷ rest) bad_byte
unfolding lexeme_at
other_starts b rest other =
    let a6 = or_parts (begins_gap b || is_run_byte b || is_mark b || is_sigil b || eqb b 34 || eqb b 33) (eqb b 35) (not-true (begins_gap b || is_run_byte b || is_mark b || is_sigil b || eqb b 34 || eqb b 33 || eqb b 35) other) in
    let a5 = or_parts (begins_gap b || is_run_byte b || is_mark b || is_sigil b || eqb b 34) (eqb b 33) a6.0 in
    let a4 = or_parts (begins_gap b || is_run_byte b || is_mark b || is_sigil b) (eqb b 34) a5.0 in
    let a3 = or_parts (begins_gap b || is_run_byte b || is_mark b) (is_sigil b) a4.0 in
    let a2 = or_parts (begins_gap b || is_run_byte b) (is_mark b) a3.0 in
    let a1 = or_parts (begins_gap b) (is_run_byte b) a2.0 in
    let sigils = or_parts (eqb b 37) (eqb b 64) a3.1 in
    record {
      reads = rw (a1.1, a2.1, sigils.0, sigils.1, a4.1, a5.1, a6.1) refl;
      no_gap = a1.0;
      some = omega arith;
    }

none_starts : (bytes : List ℕ) → BeginsNoToken bytes → Starts bytes bad_byte
unfolding lexeme_at
none_starts _ (other_byte b rest other) = other_starts b rest other
none_starts _ (no_name first rest sigil none) = sigil_starts first rest sigil (λ kind. no_name_again kind rest none)
none_starts _ (no_hash rest none) = record { reads = none_again kinds.Hash rest none; no_gap = refl; some = omega arith }
none_starts _ (empty_name first rest sigil) = sigil_starts first (34 ∷ 34 ∷ rest) sigil (λ kind. empty_name_again kind rest)
none_starts _ (empty_label rest) = record { reads = string_again [] (58 ∷ rest) [] refl refl; no_gap = refl; some = omega arith }

pub flaw_again : (kind : FaultKind) (bytes : List ℕ) (place : ℕ) → IsFlaw kind bytes place → Starts bytes (Err (record { kind = kind; offset = place }))
flaw_again faults.BadByte bytes place (none, e) =
    subst (λ (n : ℕ). Starts bytes (Err (record { kind = faults.BadByte; offset = n }))) (sym e) (none_starts bytes none)
flaw_again faults.OpenString bytes place (o, e) =
    subst (λ (n : ℕ). Starts bytes (Err (record { kind = faults.OpenString; offset = n }))) (sym e)
    (subst (λ (x : List ℕ). Starts x (Err open_string)) (sym o.parts) (lead_broken o.lead (o.inner ++ o.after) open_string o.begins_string (open_again (length o.lead) o.inner o.after o.in_line o.line_end)))
flaw_again faults.BadEscape bytes place b =
    subst (λ (n : ℕ). Starts bytes (Err (bad_escape n))) (sym b.here)
    (subst (λ (x : List ℕ). Starts x (Err (bad_escape (length b.lead + b.within)))) (sym b.parts)
    (lead_broken b.lead (b.inner ++ 34 ∷ b.after) (bad_escape (length b.lead + b.within)) b.begins_string (bad_again (length b.lead) b.inner b.after b.within b.in_line b.bad)))
