-- The first line of a text, and where lines begin.
use Rattle.std.proofs.Common.{◌≡◌, ℕ, zero, suc, ◌+◌, ◌-◌, ◌<◌, ◌≤◌, Bool, true, false, cond, eqb, List, [], ◌∷◌, length, take, drop, get_or, refl, sym, ap, ◌∙◌, arith}
use Rattle.std.proofs.lemmas.Bool.{eqb-true}
use Rattle.std.proofs.lemmas.List.{drop-drop, length-drop, drop_all, length-take-le}
use Rattle.ll_reader.specs.declared.lines.LineKind.{LineKind}
use Rattle.ll_reader.specs.FileLines.{onto_first, lines, line_start, first_len, is_of, count_before, IsAt, StandBefore}

-- ---- the first line

-- an LF at this place
abbrev EndsAt : List ℕ → ℕ → Type 0
EndsAt bytes at = eqb (get_or bytes at 0) 10 ≡ true

-- the first LF ends the line
pub len_with_end : (bytes : List ℕ) (at : ℕ) → at < length bytes → EndsAt bytes at → ((k : ℕ) → 0 ≤ k → k < at → EndsAt bytes k → ⊥) → at + 1 ≡ first_len bytes
unfolding first_len
len_with_end [] at within is none = absurd (omega arith)
len_with_end (b ∷ rest) zero within is none = ap (λ (t : Bool). cond t 1 (suc (first_len rest))) (sym is)
len_with_end (b ∷ rest) (suc at) within is none =
    go (eqb b 10) (none 0 (omega arith) (omega arith)) (len_with_end rest at (omega arith) is (λ k low below. none (suc k) (omega arith) (omega arith)))
  where
    go : (t : Bool) → (t ≡ true → ⊥) → at + 1 ≡ first_len rest → suc at + 1 ≡ cond t 1 (suc (first_len rest))
    go true never ih = absurd (never refl)
    go false never ih = omega (arith, ih)

pub len_without_end : (bytes : List ℕ) → ((k : ℕ) → 0 ≤ k → k < length bytes → EndsAt bytes k → ⊥) → length bytes ≡ first_len bytes
unfolding first_len
len_without_end [] none = refl
len_without_end (b ∷ rest) none = go (eqb b 10) (none 0 (omega arith) (omega arith)) (len_without_end rest (λ k low below. none (suc k) (omega arith) (omega arith)))
  where
    go : (t : Bool) → (t ≡ true → ⊥) → length rest ≡ first_len rest → suc (length rest) ≡ cond t 1 (suc (first_len rest))
    go true never ih = absurd (never refl)
    go false never ih = ap suc ih

pub len_within : (bytes : List ℕ) → first_len bytes ≤ length bytes
unfolding first_len
len_within [] = omega arith
len_within (b ∷ rest) = go (eqb b 10) (len_within rest)
  where
    go : (t : Bool) → first_len rest ≤ length rest → cond t 1 (suc (first_len rest)) ≤ suc (length rest)
    go true ih = omega arith
    go false ih = omega arith

pub len_some : (bytes : List ℕ) → 0 < length bytes → 0 < first_len bytes
unfolding first_len
len_some [] some = absurd (omega arith)
len_some (b ∷ rest) some = go (eqb b 10)
  where
    go : (t : Bool) → 0 < cond t 1 (suc (first_len rest))
    go true = omega arith
    go false = omega arith

abbrev Begins : List ℕ → Type 0
Begins bytes = lines bytes ≡ take (first_len bytes) bytes ∷ lines (drop (first_len bytes) bytes)

-- a line of one byte, and one with a byte more in front
last_line : (b : ℕ) → (t : Bool) → eqb b 10 ≡ t → Begins (b ∷ [])
unfolding lines first_len
last_line b true e = rw e (rw (eqb-true b 10 e) refl)
last_line b false e = rw e refl

longer_line : (b c : ℕ) (rest : List ℕ) → Begins (c ∷ rest) → (t : Bool) → eqb b 10 ≡ t → Begins (b ∷ c ∷ rest)
unfolding lines first_len
longer_line b c rest ih true e = rw e (rw (eqb-true b 10 e) refl)
longer_line b c rest ih false e = rw e (ap (onto_first b) ih)

-- the first line and those behind it
pub lines_begin : (bytes : List ℕ) → 0 < length bytes → Begins bytes
lines_begin [] some = absurd (omega arith)
lines_begin (b ∷ []) some = last_line b (eqb b 10) refl
lines_begin (b ∷ c ∷ rest) some = longer_line b c rest (lines_begin (c ∷ rest) (omega arith)) (eqb b 10) refl

-- ---- where lines begin

place_none : (n : ℕ) → line_start [] n ≡ 0
unfolding line_start
place_none zero = refl
place_none (suc n) = refl

place_more : (ls : List (List ℕ)) (n c : ℕ) → line_start ls (n + c) ≡ line_start ls n + line_start (drop n ls) c
unfolding line_start
place_more ls zero c = let e : zero + c ≡ c = omega arith in rw e (let g : line_start ls c ≡ 0 + line_start ls c = omega arith in g)
place_more [] (suc n) c = rw (place_none (suc n + c), place_none c) refl
place_more (l ∷ ls) (suc n) c =
    let e : suc n + c ≡ suc (n + c) = omega arith in
    let ih = place_more ls n c in
    rw e (omega (arith, ih))

pub place_grows : (ls : List (List ℕ)) (n m : ℕ) → n ≤ m → line_start ls n ≤ line_start ls m
place_grows ls n m le =
    let e : n + (m - n) ≡ m = omega arith in
    let more : line_start ls m ≡ line_start ls n + line_start (drop n ls) (m - n) = ap (line_start ls) (sym e) ∙ place_more ls n (m - n) in
    omega (arith, more)

pub at_start : (text : List ℕ) → IsAt text 0 0
unfolding line_start
at_start text = record { place_is = refl; behind = refl; within = omega arith; few = omega arith }

-- lines behind lines
pub at_more : (text : List ℕ) (n at c len : ℕ) → IsAt text n at → IsAt (drop at text) c len → IsAt text (n + c) (at + len)
at_more text n at c len first second = record {
  place_is = ap (λ (x : ℕ). x + len) first.place_is ∙ ap (λ (x : ℕ). line_start (lines text) n + x) (second.place_is ∙ ap (λ (ls : List (List ℕ)). line_start ls c) first.behind) ∙ sym (place_more (lines text) n c);
  behind = ap lines (sym (drop-drop len at text)) ∙ second.behind ∙ ap (drop c) first.behind ∙ drop-drop c n (lines text);
  within = let w = second.within in let v = first.within in let l = length-drop at text in omega arith;
  few = let w = second.few in let v = first.few in omega arith;
}

-- the first line
pub at_first : (bytes : List ℕ) → 0 < length bytes → IsAt bytes 1 (first_len bytes)
unfolding line_start
at_first bytes some =
    let begins = lines_begin bytes some in
    let within = len_within bytes in
    let more = len_some bytes some in
    record {
      place_is = rw begins (omega (arith, length-take-le (first_len bytes) bytes within));
      behind = rw begins refl;
      within = within;
      few = omega arith;
    }

-- ---- the lines before the first of a kind

pub record ArePassed (kind : LineKind) (bytes : List ℕ) (lines_ len : ℕ) : Type 0 where
  pub ends : IsAt bytes lines_ len
  pub goes_on : lines_ + count_before kind (lines (drop len bytes)) ≡ count_before kind (lines bytes)

pub none_passed : (kind : LineKind) (bytes : List ℕ) → ArePassed kind bytes 0 0
none_passed kind bytes = record { ends = at_start bytes; goes_on = omega arith }

module _ (kind : LineKind) (bytes : List ℕ) (n len : ℕ) (passed : ArePassed kind bytes n len) (rest line : List ℕ) (k : ℕ)
    (rest_is : rest ≡ drop len bytes) (k_is : k ≡ first_len rest) (line_is : line ≡ take k rest) (more : len < length bytes) where
  some_left : 0 < length rest
  some_left = omega (arith, ap length rest_is, length-drop len bytes)

  first_is : lines (drop len bytes) ≡ line ∷ lines (drop k (drop len bytes))
  first_is = rw (line_is, k_is, ← rest_is) (lines_begin rest some_left)

  pub pass : is_of kind line ≡ false → ArePassed kind bytes (n + 1) (len + k)
  unfolding count_before
  pass other =
      let one : IsAt (drop len bytes) 1 k = rw (k_is, ← rest_is) (at_first rest some_left) in
      let goes_on = passed.goes_on in
      let counted : count_before kind (lines (drop len bytes)) ≡ 1 + count_before kind (lines (drop (len + k) bytes)) =
      rw (first_is, other) (ap (λ (x : List ℕ). 1 + count_before kind (lines x)) (drop-drop k len bytes)) in
      record { ends = at_more bytes n len 1 k passed.ends one; goes_on = omega arith }

  pub stop : is_of kind line ≡ true → StandBefore kind bytes (record { len = len; lines = n })
  unfolding count_before
  stop here =
      let none : count_before kind (lines (drop len bytes)) ≡ 0 = rw (first_is, here) refl in
      let goes_on = passed.goes_on in
      record { count = omega arith; ends = passed.ends }

  pub smaller : length bytes - (len + k) < length bytes - len
  smaller = let some = len_some rest some_left in omega arith

pub passed_all : (kind : LineKind) (bytes : List ℕ) (n len : ℕ) → ArePassed kind bytes n len → length bytes ≤ len → StandBefore kind bytes (record { len = len; lines = n })
unfolding count_before lines
passed_all kind bytes n len passed all =
    let none : count_before kind (lines (drop len bytes)) ≡ 0 = ap (λ (x : List ℕ). count_before kind (lines x)) (drop_all len bytes all) in
    let goes_on = passed.goes_on in
    record { count = omega arith; ends = passed.ends }
