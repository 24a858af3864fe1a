-- The name that a token holds is the one that its bytes write.
use Rattle.std.proofs.Common.{◌≡◌, ◌-◌, ◌<◌, ◌≤◌, ℕ, zero, suc, true, false, cond, eqb, List, [], ◌∷◌, ◌++◌, length, take, drop, Some, Result, Ok, Err, IfOk, refl, sym, ap, ◌∙◌, arith, inl, inr, length-append}
use Rattle.std.proofs.lemmas.List.{take_at, append-nil}
use Rattle.ll_token.specs.declared.token.TokenKind.{TokenKind}
use Rattle.ll_token.specs.declared.token.TokenKind.TheVariants as kinds
use Rattle.ll_token.specs.Bytes.{begins, is_run_byte}
use Rattle.ll_token.specs.Names.{Writes, StandsFor}
use Rattle.ll_token.specs.Lexemes.{HoldsName, has_name}
use Rattle.ll_token.specs.Reading.{piece_at}
use Rattle.ll_token.proofs.ListLaws.{apart, front_byte}
use Rattle.ll_token.proofs.PieceLaws.{piece_again, shorter}
use Rattle.ll_grammar.specs.Tokens.{unescaped_behind, unescaped_within, written, name_in, held_name}

unescaped-is : (inner name : List ℕ) (pieces : ℕ) → StandsFor inner name [] → length inner ≤ pieces → unescaped_within pieces inner ≡ name
unfolding unescaped_within
unescaped-is inner [] zero stands within = refl
unescaped-is inner [] (suc pieces) stands within = ap (λ x. unescaped_behind (unescaped_within pieces) (piece_at x)) stands
unescaped-is inner (byte ∷ name) pieces (piece, after, whole, is, rest) within =
    let e : piece_at inner ≡ Some (byte, after) = ap piece_at whole ∙ piece_again piece after byte is in
    let less = shorter inner (byte, after) (sym e) in
    go (λ p fits. unescaped-is after name p rest fits) pieces e less within
  where
    go : ((p : ℕ) → length after ≤ p → unescaped_within p after ≡ name) → (pieces : ℕ) → piece_at inner ≡ Some (byte, after) → length after < length inner → length inner ≤ pieces → unescaped_within pieces inner ≡ byte ∷ name
    go ih zero e less within = absurd (omega arith)
    go ih (suc pieces) e less within = ap (unescaped_behind (unescaped_within pieces)) e ∙ ap (λ (x : List ℕ). byte ∷ x) (ih pieces (omega arith))

written-is : (body after name : List ℕ) → Writes body after name → name ≡ written body
unfolding written
written-is body after name (inl w) =
    let run = w.0 in
    let bare : begins (λ b. eqb b 34) (body ++ []) ≡ false = front_byte is_run_byte (λ b. eqb b 34) body [] run.some run.each (λ b is_run. apart is_run_byte b 34 is_run refl) in
    let plain : begins (λ b. eqb b 34) body ≡ false = ap (begins (λ b. eqb b 34)) (sym (append-nil body)) ∙ bare in
    w.1 ∙ sym (ap (λ b. cond b (unescaped_within (length body) (take (length (drop 1 body) - 1) (drop 1 body))) body) plain)
written-is body after name (inr q) =
    let behind : drop 1 body ≡ q.inner ++ 34 ∷ [] = ap (drop 1) q.quotes in
    let len : length (q.inner ++ 34 ∷ []) - 1 ≡ length q.inner = omega (arith, length-append q.inner (34 ∷ [])) in
    let inside : take (length (drop 1 body) - 1) (drop 1 body) ≡ q.inner = ap (λ (x : List ℕ). take (length x - 1) x) behind ∙ ap (λ (n : ℕ). take n (q.inner ++ 34 ∷ [])) len ∙ take_at q.inner (34 ∷ []) (length q.inner) refl in
    let quoted : begins (λ b. eqb b 34) body ≡ true = ap (begins (λ b. eqb b 34)) q.quotes in
    let fits : length q.inner ≤ length body = omega (arith, ap length q.quotes, length-append q.inner (34 ∷ [])) in
    sym (ap (λ b. cond b (unescaped_within (length body) (take (length (drop 1 body) - 1) (drop 1 body))) body) quoted
    ∙ ap (unescaped_within (length body)) inside
    ∙ unescaped-is q.inner name (length body) q.escapes fits)

pub holds-name_in : (kind : TokenKind) (text after name : List ℕ) → HoldsName kind text after name → name ≡ name_in kind text
holds-name_in kinds.Local text after name (body, e, w, some) = written-is body after name w ∙ ap (λ (x : List ℕ). written (drop 1 x)) (sym e)
holds-name_in kinds.Global text after name (body, e, w, some) = written-is body after name w ∙ ap (λ (x : List ℕ). written (drop 1 x)) (sym e)
holds-name_in kinds.Label text after name (body, e, w, some) =
    let len : length (body ++ 58 ∷ []) - 1 ≡ length body = omega (arith, length-append body (58 ∷ [])) in
    let front : take (length text - 1) text ≡ body = ap (λ (x : List ℕ). take (length x - 1) x) e ∙ ap (λ (n : ℕ). take n (body ++ 58 ∷ [])) len ∙ take_at body (58 ∷ []) (length body) refl in
    written-is body (58 ∷ after) name w ∙ ap written (sym front)
holds-name_in kinds.String text after name (q, plain) = written-is text after name (inr q)
holds-name_in kinds.Number text after name holds = absurd holds
holds-name_in kinds.Word text after name holds = absurd holds
holds-name_in kinds.Meta text after name holds = absurd holds
holds-name_in kinds.Hash text after name holds = absurd holds
holds-name_in kinds.Mark text after name holds = absurd holds

-- a name that a call gave
pub holds_held : {E : Type 0} (kind : TokenKind) (text after : List ℕ) (made : Result (List ℕ) E) → has_name kind ≡ true → IfOk made (HoldsName kind text after) → IfOk made (λ name. name ≡ held_name kind text)
unfolding held_name
holds_held kind text after (Ok name) named holds = holds-name_in kind text after name holds ∙ sym (ap (λ b. cond b (name_in kind text) []) named)
holds_held kind text after (Err e) named holds = tt
