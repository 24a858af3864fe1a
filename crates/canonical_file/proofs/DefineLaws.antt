-- The first line of a canonical text is a define line with the function's name.
use Rattle.std.proofs.Common.{◌≡◌, ◌<◌, ◌≤◌, ◌+◌, ℕ, zero, suc, Bool, true, false, not, cond, ◌&&◌, eqb, List, [], ◌∷◌, ◌++◌, length, take, drop, get_or, count_by, Option, Some, None, refl, sym, ap, ◌∙◌, subst, arith, true≢false, append_assoc, append-nil, length-append}
use Rattle.std.specs.Prelude.{codes, if◌then◌else◌}
use Rattle.std.specs.List.{list_all}
use Rattle.std.proofs.lemmas.Bool.{and_from}
use Rattle.std.proofs.lemmas.Grind.{flat_map-append}
use Rattle.std.proofs.lemmas.List.{take_at, drop_at, get_or_append_left}
use Rattle.std.proofs.lemmas.List.Folds.{list_all-append}
use Rattle.std.proofs.lemmas.List.Sums.{sum_by-cons}
use Rattle.std.proofs.Math.Seq.{get_or-append_seam}
use Rattle.ll_token.specs.Bytes.{is_run_byte}
use Rattle.ll_token.proofs.ListLaws.{all_weaker, apart}
use Rattle.ll_tree.specs.declared.func.Func.{Func}
use Rattle.ll_tree.specs.declared.func.Ret.{Ret}
use Rattle.ll_tree.specs.declared.func.Ret.TheVariants as ret
use Rattle.ll_tree.specs.declared.func.Range.{Range}
use Rattle.ll_tree.specs.Naming.{name_text}
use Rattle.ll_tree.specs.Words.{type_word}
use Rattle.ll_tree.specs.Pieces.{Piece, Word, Bits, Number, Local, Global, Label, Intrinsic, Mark, Blank, LineEnd, piece_text, written}
use Rattle.ll_tree.specs.Text.{literal, flag, range_pieces, ret_piece, ret_width}
use Rattle.ll_grammar.proofs.TokenLaws.{both_true}
use Rattle.ll_grammar.proofs.FlagLaws.{not_true_is}
use Rattle.canonical_text.specs.Named.{IsName}
use Rattle.canonical_text.proofs.TokenLaws.{IsLexed, type_run, decimal_run, global_holds}
use Rattle.canonical_text.proofs.LineLaws.{IsPlaced, IsLine}
use Rattle.ll_reader.specs.DefineLine.{is_even, is_outside, is_sigil_at, IsFirstSigil, IsNamed}

-- ---- bytes that are neither a quote nor a sigil of a global name

abbrev pub is_clean : ℕ → Bool
is_clean byte = not (eqb byte 64) && not (eqb byte 34)

run_clean : (b : ℕ) → is_run_byte b ≡ true → is_clean b ≡ true
run_clean b is = and_from _ _ (ap not (apart is_run_byte b 64 is refl)) (ap not (apart is_run_byte b 34 is refl))

-- the pieces before the name
abbrev pub is_plain : Piece → Bool
is_plain (Word word) = true
is_plain (Bits w) = true
is_plain (Number n) = true
is_plain (Mark byte) = is_clean byte
is_plain Blank = true
is_plain piece = false

plain_clean : (piece : Piece) → IsPlaced piece → is_plain piece ≡ true → list_all is_clean (piece_text piece) ≡ true
plain_clean (Word word) placed plain = all_weaker is_run_byte is_clean word run_clean (both_true _ _ placed.0.0).1
plain_clean (Bits w) placed plain = all_weaker is_run_byte is_clean (type_word w) run_clean (type_run w placed.0)
plain_clean (Number n) placed plain = all_weaker is_run_byte is_clean (piece_text (Number n)) run_clean (decimal_run n placed.0)
plain_clean (Mark byte) placed plain = ap (λ b. b && true) plain
plain_clean Blank placed plain = refl
plain_clean (Local n) placed plain = absurd (true≢false (sym plain))
plain_clean (Global n) placed plain = absurd (true≢false (sym plain))
plain_clean (Label n) placed plain = absurd (true≢false (sym plain))
plain_clean (Intrinsic word w) placed plain = absurd (true≢false (sym plain))
plain_clean LineEnd placed plain = absurd (true≢false (sym plain))

pub all_clean : (front behind : List Piece) → IsLine (front ++ behind) → list_all is_plain front ≡ true → list_all is_clean (written front) ≡ true
all_clean [] behind is plain = refl
all_clean (piece ∷ front) behind (placed, apart, is) plain =
    let p = both_true (is_plain piece) (list_all is_plain front) plain in
    list_all-append is_clean (piece_text piece) (written front) ∙ and_from _ _ (plain_clean piece placed p.0) (all_clean front behind is p.1)

pub plain_both : (front behind : List Piece) → list_all is_plain front ≡ true → list_all is_plain behind ≡ true → list_all is_plain (front ++ behind) ≡ true
plain_both front behind one other = list_all-append is_plain front behind ∙ and_from _ _ one other

pub flag_plain : (b : Bool) (word : List ℕ) → list_all is_plain (flag b word) ≡ true
flag_plain false word = refl
flag_plain true word = refl

literal_by : (n : ℕ) (one none : Bool) → is_plain (if one then (if none then Word (codes "false") else Word (codes "true")) else Number n) ≡ true
literal_by n true true = refl
literal_by n true false = refl
literal_by n false none = refl

literal_plain : (w n : ℕ) → is_plain (literal w n) ≡ true
literal_plain w n = literal_by n (eqb w 1) (eqb n 0)

pub ret_plain : (r : Ret) → is_plain (ret_piece r) ≡ true
ret_plain ret.Void = refl
ret_plain (ret.Int w) = refl

pub range_plain : (kind : Piece) (w : ℕ) (range : Option Range) → is_plain kind ≡ true → list_all is_plain (range_pieces kind w range) ≡ true
range_plain kind w None is = refl
range_plain kind w (Some r) is = and_from _ _ is (and_from _ _ (literal_plain w r.lo) (and_from _ _ (literal_plain w r.hi) refl))

-- ---- the first sigil of a line

clean_no_quote : (bytes : List ℕ) → list_all is_clean bytes ≡ true → count_by (λ byte. eqb byte 34) bytes ≡ 0
clean_no_quote [] all = refl
clean_no_quote (b ∷ bytes) all =
    let p = both_true (is_clean b) (list_all is_clean bytes) all in
    let plain : eqb b 34 ≡ false = not_true_is (eqb b 34) (both_true (not (eqb b 64)) (not (eqb b 34)) p.0).1 in
    let later : count_by (λ byte. eqb byte 34) bytes ≡ 0 = clean_no_quote bytes p.1 in
    sum_by-cons (λ c. cond (eqb c 34) 1 0) b bytes ∙ rw plain (omega (arith, later))

clean_no_sigil : (bytes : List ℕ) (n : ℕ) → list_all is_clean bytes ≡ true → n < length bytes → eqb (get_or bytes n 0) 64 ≡ false
clean_no_sigil [] n all within = absurd (omega arith)
clean_no_sigil (b ∷ bytes) zero all within = not_true_is _ (both_true _ _ (both_true (is_clean b) (list_all is_clean bytes) all).0).0
clean_no_sigil (b ∷ bytes) (suc n) all within = clean_no_sigil bytes n (both_true (is_clean b) (list_all is_clean bytes) all).1 (omega (arith, within))

pub named_line : (front name after : List ℕ) → list_all is_clean front ≡ true → IsName name → IsNamed (front ++ ((64 ∷ name_text name) ++ 40 ∷ after)) name
unfolding is_sigil_at is_outside
named_line front name after clean is =
    let line : List ℕ = front ++ ((64 ∷ name_text name) ++ 40 ∷ after) in
    let before : take (length front) line ≡ front = take_at front ((64 ∷ name_text name) ++ 40 ∷ after) (length front) refl in
    record {
      at = length front;
      text = 64 ∷ name_text name;
      after = 40 ∷ after;
      first = (
        omega (arith, length-append front ((64 ∷ name_text name) ++ 40 ∷ after)),
        and_from _ _ (ap (λ (b : ℕ). eqb b 64) (get_or-append_seam front 64 (name_text name ++ 40 ∷ after) 0)) (ap (λ (x : List ℕ). is_even (count_by (λ byte. eqb byte 34) x)) before ∙ ap is_even (clean_no_quote front clean)),
        λ other within. ap (λ b. b && is_even (count_by (λ byte. eqb byte 34) (take other line))) (ap (λ (b : ℕ). eqb b 64) (get_or_append_left front ((64 ∷ name_text name) ++ 40 ∷ after) 0 other within) ∙ clean_no_sigil front other clean within),
      );
      parts = drop_at front ((64 ∷ name_text name) ++ 40 ∷ after) (length front) refl;
      holds = global_holds name (40 ∷ after) is (refl, refl);
    }
