-- What is read piece by piece between quotes is what the pieces stand for.
use Rattle.std.proofs.Common.{◌≡◌, ℕ, zero, suc, ◌+◌, ◌*◌, ◌-◌, ◌<◌, ◌≤◌, true, false, ◌&&◌, eqb, ltb, List, [], ◌∷◌, ◌++◌, length, Option, Some, None, Result, Ok, Err, IfOk, refl, sym, ap, subst, ◌∙◌, arith, inl, inr, length-append}
use Rattle.std.specs.Option.{option_map}
use Rattle.std.specs.Char.{digit_value}
use Rattle.std.proofs.lemmas.Bool.{and_parts, ltb-true, lt-ltb, eqb-true, eqb-false, ne_eqb, cond_both}
use Rattle.std.proofs.lemmas.List.{nil_from_length}
use Rattle.ll_token.specs.Names.{IsPiece, StandsFor, IsBadEscape}
use Rattle.ll_token.specs.Reading.{escaped, escape_at, piece_at, bad_behind, bad_within, bad_at}

-- what is read as a piece is one
abbrev PieceOf : List ℕ → Option (ℕ × List ℕ) → Type 0
PieceOf bytes None = Unit {0}
PieceOf bytes (Some read) = (piece : List ℕ) × (bytes ≡ piece ++ read.1) × IsPiece piece read.0 × (0 < length piece)

hex_right : (byte high low : ℕ) (rest : List ℕ) → byte ≡ 92 → PieceOf (byte ∷ high ∷ low ∷ rest) (option_map (λ b. (b, rest)) (escaped high low))
hex_right byte high low rest is_backslash =
    cond_both (ltb (digit_value high) 16 && ltb (digit_value low) 16) (Some (16 * digit_value high + digit_value low)) None
    (λ (o : Option ℕ). PieceOf (byte ∷ high ∷ low ∷ rest) (option_map (λ b. (b, rest)) o))
    (λ digits.
    let two = and_parts (ltb (digit_value high) 16) (ltb (digit_value low) 16) digits in
    (byte ∷ high ∷ low ∷ [], refl, inr (inr (high, low, rw is_backslash refl, ltb-true (digit_value high) 16 two.0, ltb-true (digit_value low) 16 two.1, refl)), omega arith))
    (λ _. tt)

escape_right : (byte : ℕ) (rest : List ℕ) → byte ≡ 92 → PieceOf (byte ∷ rest) (escape_at rest)
escape_right byte [] is_backslash = tt
escape_right byte (next ∷ []) is_backslash =
    cond_both (eqb next 92) (Some (92, [])) None (PieceOf (byte ∷ next ∷ []))
    (λ e. let same : next ≡ 92 = eqb-true next 92 e in (byte ∷ next ∷ [], refl, inr (inl (rw (is_backslash, same) refl, refl)), omega arith))
    (λ _. tt)
escape_right byte (next ∷ low ∷ rest) is_backslash =
    cond_both (eqb next 92) (Some (92, low ∷ rest)) (option_map (λ b. (b, rest)) (escaped next low)) (PieceOf (byte ∷ next ∷ low ∷ rest))
    (λ e. let same : next ≡ 92 = eqb-true next 92 e in (byte ∷ next ∷ [], refl, inr (inl (rw (is_backslash, same) refl, refl)), omega arith))
    (λ _. hex_right byte next low rest is_backslash)

piece_right : (bytes : List ℕ) → PieceOf bytes (piece_at bytes)
piece_right [] = tt
piece_right (byte ∷ rest) =
    cond_both (eqb byte 92) (escape_at rest) (Some (byte, rest)) (PieceOf (byte ∷ rest))
    (λ e. escape_right byte rest (eqb-true byte 92 e))
    (λ e. (byte ∷ [], refl, inl (refl, eqb-false byte 92 e), omega arith))

pub piece_of : (bytes : List ℕ) (read : ℕ × List ℕ) → piece_at bytes ≡ Some read → (piece : List ℕ) × (bytes ≡ piece ++ read.1) × IsPiece piece read.0 × (0 < length piece)
piece_of bytes read e = subst (PieceOf bytes) e (piece_right bytes)

-- 92 isn't a hexadecimal digit
not_backslash : (b : ℕ) → digit_value b < 16 → b ≡ 92 → ⊥
not_backslash b digit same =
    let wrong : digit_value 92 < 16 = subst (λ (x : ℕ). digit_value x < 16) same digit in
    omega (arith, wrong)

-- a piece is read as one, whatever follows it
pub piece_again : (piece rest : List ℕ) (byte : ℕ) → IsPiece piece byte → piece_at (piece ++ rest) ≡ Some (byte, rest)
piece_again piece rest byte (inl w) =
    let plain : eqb byte 92 ≡ false = ne_eqb byte 92 w.1 in
    rw (w.0, plain) refl
piece_again piece [] byte (inr (inl w)) = rw (w.0, w.1) refl
piece_again piece (next ∷ rest) byte (inr (inl w)) = rw (w.0, w.1) refl
piece_again piece rest byte (inr (inr w)) =
    let high : ltb (digit_value w.0) 16 ≡ true = lt-ltb (digit_value w.0) 16 w.3 in
    let low : ltb (digit_value w.1) 16 ≡ true = lt-ltb (digit_value w.1) 16 w.4 in
    let plain : eqb w.0 92 ≡ false = ne_eqb w.0 92 (not_backslash w.0 w.3) in
    rw (w.2, plain, high, low, w.5) refl

-- ---- a name, piece by piece

-- where no piece stands, none is read
pub none_read : (bytes : List ℕ) → ((piece after : List ℕ) (byte : ℕ) → bytes ≡ piece ++ after → IsPiece piece byte → ⊥) → piece_at bytes ≡ None
none_read bytes no_piece =
    elim (piece_at bytes) as (λ (read : Option (ℕ × List ℕ)). PieceOf bytes read → read ≡ None) [
      | None ↦ λ _. refl
      | Some read ↦ λ w. absurd (no_piece w.0 read.1 read.0 w.1 w.2)
    ] (piece_right bytes)

-- where none is read, no piece stands
pub no_piece_where_none : (bytes : List ℕ) → piece_at bytes ≡ None → (piece after : List ℕ) (byte : ℕ) → bytes ≡ piece ++ after → IsPiece piece byte → ⊥
no_piece_where_none bytes none piece after byte parts is_piece =
    let some : piece_at bytes ≡ Some (byte, after) = ap piece_at parts ∙ piece_again piece after byte is_piece in
    cc

-- one more piece
pub StandsFor-push : (inner name rest piece after : List ℕ) (byte : ℕ) → StandsFor inner name rest → rest ≡ piece ++ after → IsPiece piece byte → StandsFor inner (name ++ byte ∷ []) after
StandsFor-push inner [] rest piece after byte stands parts is_piece = (piece, after, stands ∙ parts, is_piece, refl)
StandsFor-push inner (first ∷ name) rest piece after byte stands parts is_piece =
    (stands.0, stands.1, stands.2, stands.3, StandsFor-push stands.1 name rest piece after byte stands.4 parts is_piece)

-- a name is no longer than what stands for it
pub StandsFor-length : (inner name rest : List ℕ) → StandsFor inner name rest → length name + length rest ≤ length inner
StandsFor-length inner [] rest stands = let same = ap length stands in omega arith
StandsFor-length inner (byte ∷ name) rest stands =
    let read : piece_at inner ≡ Some (byte, stands.1) = ap piece_at stands.2 ∙ piece_again stands.0 stands.1 byte stands.3 in
    let found = piece_of inner (byte, stands.1) read in
    let long : length inner ≡ length found.0 + length stands.1 = ap length found.1 ∙ length-append found.0 stands.1 in
    let less = StandsFor-length stands.1 name rest stands.4 in
    let some : 0 < length found.0 = found.3 in
    omega arith

same_read : (read other : ℕ × List ℕ) → Some read ≡ Some other → read ≡ other
same_read read other e = cc

-- Bytes stand for one name, as far as it goes.
pub one_name : (inner name rest other_name other : List ℕ) → StandsFor inner name rest → piece_at rest ≡ None → StandsFor inner other_name other → piece_at other ≡ None → (name ≡ other_name) × (rest ≡ other)
one_name inner [] rest [] other s rest_ends t other_ends = (refl, sym s ∙ t)
one_name inner [] rest (byte ∷ other_name) other s rest_ends t other_ends =
    let read : piece_at inner ≡ Some (byte, t.1) = ap piece_at t.2 ∙ piece_again t.0 t.1 byte t.3 in
    let ends : piece_at inner ≡ None = ap piece_at s ∙ rest_ends in
    absurd cc
one_name inner (byte ∷ name) rest [] other s rest_ends t other_ends =
    let read : piece_at inner ≡ Some (byte, s.1) = ap piece_at s.2 ∙ piece_again s.0 s.1 byte s.3 in
    let ends : piece_at inner ≡ None = ap piece_at t ∙ other_ends in
    absurd cc
one_name inner (byte ∷ name) rest (other_byte ∷ other_name) other s rest_ends t other_ends =
    let read : piece_at inner ≡ Some (byte, s.1) = ap piece_at s.2 ∙ piece_again s.0 s.1 byte s.3 in
    let other_read : piece_at inner ≡ Some (other_byte, t.1) = ap piece_at t.2 ∙ piece_again t.0 t.1 other_byte t.3 in
    let same = same_read (byte, s.1) (other_byte, t.1) (sym read ∙ other_read) in
    let same_byte : byte ≡ other_byte = ap (λ (p : ℕ × List ℕ). p.0) same in
    let same_after : t.1 ≡ s.1 = sym (ap (λ (p : ℕ × List ℕ). p.1) same) in
    let later = one_name s.1 name rest other_name other s.4 rest_ends (subst (λ (after : List ℕ). StandsFor after other_name other) same_after t.4) other_ends in
    (rw (same_byte, later.0) refl, later.1)

-- ---- the first backslash that begins no escape

-- an answer to the question for it
abbrev pub Answers : List ℕ → Option ℕ → Type 0
Answers inner None = (name : List ℕ) × StandsFor inner name []
Answers inner (Some place) = IsBadEscape inner place

behind_right : (bytes : List ℕ) (bad_in : List ℕ → Option ℕ) (pieces : ℕ) → 0 < length bytes → length bytes ≤ suc pieces → ((rest : List ℕ) → length rest ≤ pieces → Answers rest (bad_in rest))
    → (read : Option (ℕ × List ℕ)) → piece_at bytes ≡ read → Answers bytes (bad_behind bad_in (length bytes) read)
behind_right bytes bad_in pieces some few right None e =
    record { name = []; rest = bytes; before = refl; here = omega arith; more = some; no_piece = no_piece_where_none bytes e }
behind_right bytes bad_in pieces some few right (Some read) e =
    let found = piece_of bytes read e in
    let long : length bytes ≡ length found.0 + length read.1 = ap length found.1 ∙ length-append found.0 read.1 in
    let at_least : 0 < length found.0 = found.3 in
    elim (bad_in read.1) as (λ (bad : Option ℕ). Answers read.1 bad → Answers bytes (option_map (λ place. (length bytes - length read.1) + place) bad)) [
      | None ↦ λ w. (read.0 ∷ w.0, (found.0, read.1, found.1, found.2, w.1))
      | Some place ↦ λ w. record {
        name = read.0 ∷ w.name;
        rest = w.rest;
        before = (found.0, read.1, found.1, found.2, w.before);
        here = (let inside = w.here in omega arith);
        more = w.more;
        no_piece = w.no_piece;
      }
    ] (right read.1 (omega arith))

within_right : (pieces : ℕ) (bytes : List ℕ) → length bytes ≤ pieces → Answers bytes (bad_within pieces bytes)
unfolding bad_within
within_right zero [] few = ([], refl)
within_right zero (byte ∷ rest) few = absurd (omega arith)
within_right (suc pieces) [] few = ([], refl)
within_right (suc pieces) (byte ∷ rest) few =
    behind_right (byte ∷ rest) (bad_within pieces) pieces (omega arith) few (within_right pieces) (piece_at (byte ∷ rest)) refl

pub bad_right : (inner : List ℕ) → Answers inner (bad_at inner)
unfolding bad_at
bad_right inner = within_right (length inner) inner (omega arith)

pub one_answer : (inner : List ℕ) (answer other : Option ℕ) → Answers inner answer → Answers inner other → answer ≡ other
one_answer inner None None a b = refl
one_answer inner None (Some place) a b =
    let ends = one_name inner a.0 [] b.name b.rest a.1 refl b.before (none_read b.rest b.no_piece) in
    let nothing : 0 ≡ length b.rest = ap length ends.1 in
    let more = b.more in
    absurd (omega arith)
one_answer inner (Some place) None a b =
    let ends = one_name inner b.0 [] a.name a.rest b.1 refl a.before (none_read a.rest a.no_piece) in
    let nothing : 0 ≡ length a.rest = ap length ends.1 in
    let more = a.more in
    absurd (omega arith)
one_answer inner (Some place) (Some other) a b =
    let ends = one_name inner a.name a.rest b.name b.rest a.before (none_read a.rest a.no_piece) b.before (none_read b.rest b.no_piece) in
    let same : length a.rest ≡ length b.rest = ap length ends.1 in
    let here = a.here in
    let there = b.here in
    ap (λ (n : ℕ). Some n) (omega arith)

-- ---- as a loop reads

-- what is read of the bytes so far
abbrev pub ReadUpTo : List ℕ → List ℕ → Type 0
ReadUpTo inner rest = (name : List ℕ) × StandsFor inner name rest

pub goes_on : (inner rest : List ℕ) (read : ℕ × List ℕ) → ReadUpTo inner rest → Some read ≡ piece_at rest → ReadUpTo inner read.1
goes_on inner rest read so_far e =
    let found = piece_of rest read (sym e) in
    (so_far.0 ++ read.0 ∷ [], StandsFor-push inner so_far.0 rest found.0 read.1 read.0 so_far.1 found.1 found.2)

pub shorter : (rest : List ℕ) (read : ℕ × List ℕ) → Some read ≡ piece_at rest → length read.1 < length rest
shorter rest read e =
    let found = piece_of rest read (sym e) in
    let long : length rest ≡ length found.0 + length read.1 = ap length found.1 ∙ length-append found.0 read.1 in
    let some : 0 < length found.0 = found.3 in
    omega arith

pub within : (inner rest : List ℕ) → ReadUpTo inner rest → length rest ≤ length inner
within inner rest so_far = omega (arith, StandsFor-length inner so_far.0 rest so_far.1)

pub stops : (inner rest : List ℕ) → ReadUpTo inner rest → None ≡ piece_at rest → 0 < length rest → Some (length inner - length rest) ≡ bad_at inner
stops inner rest so_far e some =
    let fits = within inner rest so_far in
    one_answer inner (Some (length inner - length rest)) (bad_at inner)
    (record { name = so_far.0; rest = rest; before = so_far.1; here = omega arith; more = some; no_piece = no_piece_where_none rest (sym e) })
    (bad_right inner)

pub ends_well : (inner rest : List ℕ) → ReadUpTo inner rest → length rest ≡ 0 → None ≡ bad_at inner
ends_well inner rest so_far nothing =
    one_answer inner None (bad_at inner) (so_far.0, subst (λ (r : List ℕ). StandsFor inner so_far.0 r) (nil_from_length rest nothing) so_far.1) (bad_right inner)

pub some_left : (n : ℕ) → false ≡ eqb n 0 → 0 < n
some_left n e = let other = eqb-false n 0 (sym e) in omega arith

-- a name that is read as far as it goes is the whole name, where there is one
pub whole_name : (inner name rest : List ℕ) → (whole : List ℕ) × StandsFor inner whole [] → StandsFor inner name rest → piece_at rest ≡ None → StandsFor inner name []
whole_name inner name rest whole so_far ends =
    let same = one_name inner name rest whole.0 [] so_far ends whole.1 refl in
    subst (λ (x : List ℕ). StandsFor inner name x) same.1 so_far
