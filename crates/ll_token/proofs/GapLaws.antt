-- What white space and comments have at the front, byte by byte.
use Rattle.std.proofs.Common.{◌≡◌, ◌⊎◌, ℕ, suc, ◌+◌, ◌<◌, ◌≤◌, Bool, true, false, not, cond, eqb, List, [], ◌∷◌, ◌++◌, length, get_or, drop, refl, sym, ap, subst, ◌∙◌, arith, inl, inr, length-append}
use Rattle.std.specs.List.{list_all}
use Rattle.std.proofs.lemmas.List.{at_drop_more, at_drop_all, append-nil, append_assoc}
use Rattle.std.proofs.lemmas.Bool.{and_parts, and_from, or_parts, or_from, or_right, not-true, not_from_false, eqb-true, cond_both}
use Rattle.ll_token.specs.Bytes.{is_space, begins_gap, begins}
use Rattle.ll_token.specs.Scan.{IsComment, IsGap, IsLastGap}
use Rattle.ll_token.specs.Scan.IsGap.{nothing, space, comment}
use Rattle.ll_token.specs.Reading.{gap_len}
use Rattle.ll_token.proofs.ListLaws.{apart}

pub gap_more : (inside : Bool) (bytes : List ℕ) (i : ℕ) → i < length bytes → gap_len inside (drop i bytes) ≡ cond (eqb (get_or bytes i 0) 10) (suc (gap_len false (drop (i + 1) bytes))) (cond inside (suc (gap_len true (drop (i + 1) bytes))) (cond (eqb (get_or bytes i 0) 59) (suc (gap_len true (drop (i + 1) bytes))) (cond (is_space (get_or bytes i 0)) (suc (gap_len false (drop (i + 1) bytes))) 0)))
unfolding gap_len
gap_more inside bytes i lt = at_drop_more (gap_len inside) bytes i 0 lt

pub gap_all : (inside : Bool) (bytes : List ℕ) (i : ℕ) → length bytes ≤ i → gap_len inside (drop i bytes) ≡ 0
unfolding gap_len
gap_all inside bytes i le = at_drop_all (gap_len inside) bytes i le

-- ---- what is skipped is a gap

-- the gap at the front of the bytes, or up to their end
abbrev pub SkipsGap : List ℕ → ℕ → Type 0
SkipsGap bytes len = ((gap after : List ℕ) × (bytes ≡ gap ++ after) × (len ≡ length gap) × IsGap gap × (0 < length after) × (begins begins_gap after ≡ false)) ⊎ ((len ≡ length bytes) × IsLastGap bytes)

-- the same from within a comment on
abbrev SkipsComment : List ℕ → ℕ → Type 0
SkipsComment bytes len =
    ((inside gap after : List ℕ) × (bytes ≡ inside ++ 10 ∷ (gap ++ after)) × (len ≡ length inside + suc (length gap)) × IsComment inside × IsGap gap × (0 < length after) × (begins begins_gap after ≡ false))
    ⊎ ((len ≡ length bytes) × (IsComment bytes ⊎ ((inside last : List ℕ) × (bytes ≡ inside ++ 10 ∷ last) × IsComment inside × IsLastGap last)))

abbrev Skips : Bool → List ℕ → ℕ → Type 0
Skips false = SkipsGap
Skips true = SkipsComment

last_space : (b : ℕ) (rest : List ℕ) → is_space b ≡ true → IsLastGap rest → IsLastGap (b ∷ rest)
last_space b rest blank (inl g) = inl (space b rest blank g)
last_space b rest blank (inr w) = inr (b ∷ w.0, w.1, ap (λ (x : List ℕ). b ∷ x) w.2, space b w.0 blank w.3, w.4)

space_more : (b : ℕ) (rest : List ℕ) (n : ℕ) → is_space b ≡ true → SkipsGap rest n → SkipsGap (b ∷ rest) (suc n)
space_more b rest n blank (inl w) = inl (b ∷ w.0, w.1, ap (λ (x : List ℕ). b ∷ x) w.2, ap suc w.3, space b w.0 blank w.4, w.5, w.6)
space_more b rest n blank (inr w) = inr (ap suc w.0, last_space b rest blank w.1)

line_more : (b : ℕ) (rest : List ℕ) (n : ℕ) → b ≡ 10 → SkipsGap rest n → SkipsComment (b ∷ rest) (suc n)
line_more b rest n is_line (inl w) =
    let len : suc n ≡ 0 + suc (length w.0) = let same = w.3 in omega arith in
    inl ([], w.0, w.1, rw (is_line, ← w.2) refl, len, refl, w.4, w.5, w.6)
line_more b rest n is_line (inr w) = inr (ap suc w.0, inr ([], rest, rw is_line refl, refl, w.1))

inside_more : (b : ℕ) (rest : List ℕ) (n : ℕ) → eqb b 10 ≡ false → SkipsComment rest n → SkipsComment (b ∷ rest) (suc n)
inside_more b rest n in_line (inl w) =
    let len : suc n ≡ length (b ∷ w.0) + suc (length w.1) = let same = w.4 in omega arith in
    inl (b ∷ w.0, w.1, w.2, ap (λ (x : List ℕ). b ∷ x) w.3, len, and_from (not (eqb b 10)) _ (not_from_false (eqb b 10) in_line) w.5, w.6, w.7, w.8)
inside_more b rest n in_line (inr w) =
    elim w.1 [
      | inl c ↦ inr (ap suc w.0, inl (and_from (not (eqb b 10)) _ (not_from_false (eqb b 10) in_line) c))
      | inr v ↦ inr (ap suc w.0, inr (b ∷ v.0, v.1, ap (λ (x : List ℕ). b ∷ x) v.2, and_from (not (eqb b 10)) _ (not_from_false (eqb b 10) in_line) v.3, v.4))
    ]

last_comment : (inside last : List ℕ) → IsComment inside → IsLastGap last → IsLastGap (59 ∷ (inside ++ 10 ∷ last))
last_comment inside last c (inl g) = inl (comment inside last c g)
last_comment inside last c (inr w) =
    let parts : inside ++ 10 ∷ last ≡ (inside ++ 10 ∷ w.0) ++ 59 ∷ w.1 = ap (λ (x : List ℕ). inside ++ 10 ∷ x) w.2 ∙ sym (append_assoc inside (10 ∷ w.0) (59 ∷ w.1)) in
    inr (59 ∷ (inside ++ 10 ∷ w.0), w.1, ap (λ (x : List ℕ). 59 ∷ x) parts, comment inside w.0 c w.3, w.4)

comment_more : (b : ℕ) (rest : List ℕ) (n : ℕ) → b ≡ 59 → SkipsComment rest n → SkipsGap (b ∷ rest) (suc n)
comment_more b rest n is_comment (inl w) =
    let parts : b ∷ rest ≡ (59 ∷ (w.0 ++ 10 ∷ w.1)) ++ w.2 = ap (λ (x : ℕ). x ∷ rest) is_comment ∙ ap (λ (x : List ℕ). 59 ∷ x) (w.3 ∙ sym (append_assoc w.0 (10 ∷ w.1) w.2)) in
    let len : suc n ≡ length (59 ∷ (w.0 ++ 10 ∷ w.1)) = let same = w.4 in omega (arith, length-append w.0 (10 ∷ w.1)) in
    inl (59 ∷ (w.0 ++ 10 ∷ w.1), w.2, parts, len, comment w.0 w.1 w.5 w.6, w.7, w.8)
comment_more b rest n is_comment (inr w) =
    elim w.1 [
      | inl c ↦ inr (ap suc w.0, inr ([], rest, ap (λ (x : ℕ). x ∷ rest) is_comment, nothing, c))
      | inr v ↦ inr (ap suc w.0, subst IsLastGap (sym (ap (λ (x : ℕ). x ∷ rest) is_comment ∙ ap (λ (x : List ℕ). 59 ∷ x) v.2)) (last_comment v.0 v.1 v.3 v.4))
    ]

skips : (inside : Bool) (bytes : List ℕ) → Skips inside bytes (gap_len inside bytes)
unfolding gap_len
skips false [] = inr (refl, inl nothing)
skips true [] = inr (refl, inl refl)
skips true (b ∷ rest) =
    cond_both (eqb b 10) (suc (gap_len false rest)) (suc (gap_len true rest)) (SkipsComment (b ∷ rest))
    (λ e. line_more b rest (gap_len false rest) (eqb-true b 10 e) (skips false rest))
    (λ e. inside_more b rest (gap_len true rest) e (skips true rest))
skips false (b ∷ rest) =
    cond_both (eqb b 10) (suc (gap_len false rest)) (cond (eqb b 59) (suc (gap_len true rest)) (cond (is_space b) (suc (gap_len false rest)) 0)) (SkipsGap (b ∷ rest))
    (λ e. space_more b rest (gap_len false rest) (or_right _ (eqb b 10) e) (skips false rest))
    (λ no_line.
    cond_both (eqb b 59) (suc (gap_len true rest)) (cond (is_space b) (suc (gap_len false rest)) 0) (SkipsGap (b ∷ rest))
    (λ e. comment_more b rest (gap_len true rest) (eqb-true b 59 e) (skips true rest))
    (λ no_comment.
    cond_both (is_space b) (suc (gap_len false rest)) 0 (SkipsGap (b ∷ rest))
    (λ e. space_more b rest (gap_len false rest) e (skips false rest))
    (λ e. inl ([], b ∷ rest, refl, refl, nothing, omega arith, or_from (is_space b) (eqb b 59) e no_comment))))

pub skips_gap : (bytes : List ℕ) → SkipsGap bytes (gap_len false bytes)
skips_gap bytes = skips false bytes

-- ---- a gap is skipped

pub no_gap : (bytes : List ℕ) → begins begins_gap bytes ≡ false → gap_len false bytes ≡ 0
unfolding gap_len
no_gap [] ends = refl
no_gap (b ∷ rest) ends =
    let parts = or_parts (is_space b) (eqb b 59) ends in
    let blank = parts.0 in
    let in_line : eqb b 10 ≡ false = (or_parts _ (eqb b 10) blank).1 in
    rw (blank, in_line, parts.1) refl

inside_len : (inside rest : List ℕ) → IsComment inside → gap_len true (inside ++ 10 ∷ rest) ≡ length inside + suc (gap_len false rest)
unfolding gap_len
inside_len [] rest c = omega arith
inside_len (b ∷ inside) rest c =
    let parts = and_parts (not (eqb b 10)) (list_all (λ x. not (eqb x 10)) inside) c in
    let in_line : eqb b 10 ≡ false = not-true (eqb b 10) parts.0 in
    let later : gap_len true (inside ++ 10 ∷ rest) ≡ length inside + suc (gap_len false rest) = inside_len inside rest parts.1 in
    rw in_line (omega (arith, later))

comment_len : (inside : List ℕ) → IsComment inside → gap_len true inside ≡ length inside
unfolding gap_len
comment_len [] c = refl
comment_len (b ∷ inside) c =
    let parts = and_parts (not (eqb b 10)) (list_all (λ x. not (eqb x 10)) inside) c in
    let in_line : eqb b 10 ≡ false = not-true (eqb b 10) parts.0 in
    rw in_line (ap suc (comment_len inside parts.1))

space_len : (b : ℕ) (rest : List ℕ) → is_space b ≡ true → gap_len false (b ∷ rest) ≡ suc (gap_len false rest)
unfolding gap_len
space_len b rest blank =
    let no_comment : eqb b 59 ≡ false = apart is_space b 59 blank refl in
    cond_both (eqb b 10) (suc (gap_len false rest)) (cond (eqb b 59) (suc (gap_len true rest)) (cond (is_space b) (suc (gap_len false rest)) 0)) (λ (n : ℕ). n ≡ suc (gap_len false rest))
    (λ _. refl)
    (λ _. rw (no_comment, blank) refl)

pub gap_again : (gap after : List ℕ) → IsGap gap → gap_len false (gap ++ after) ≡ length gap + gap_len false after
unfolding gap_len
gap_again _ after nothing = omega arith
gap_again _ after (space b rest blank g) =
    let later : gap_len false (rest ++ after) ≡ length rest + gap_len false after = gap_again rest after g in
    space_len b (rest ++ after) blank ∙ omega (arith, later)
gap_again _ after (comment inside rest c g) =
    let later : gap_len false (rest ++ after) ≡ length rest + gap_len false after = gap_again rest after g in
    let parts : (inside ++ 10 ∷ rest) ++ after ≡ inside ++ 10 ∷ (rest ++ after) = append_assoc inside (10 ∷ rest) after in
    let whole : gap_len true ((inside ++ 10 ∷ rest) ++ after) ≡ length inside + suc (gap_len false (rest ++ after)) = ap (gap_len true) parts ∙ inside_len inside (rest ++ after) c in
    omega (arith, whole, later, length-append inside (10 ∷ rest))

pub last_gap_again : (bytes : List ℕ) → IsLastGap bytes → gap_len false bytes ≡ length bytes
unfolding gap_len
last_gap_again bytes (inl g) =
    let whole : gap_len false (bytes ++ []) ≡ length bytes + 0 = gap_again bytes [] g in
    ap (gap_len false) (sym (append-nil bytes)) ∙ omega (arith, whole)
last_gap_again bytes (inr w) =
    let front : gap_len false (w.0 ++ 59 ∷ w.1) ≡ length w.0 + suc (gap_len true w.1) = gap_again w.0 (59 ∷ w.1) w.3 in
    let inside : gap_len true w.1 ≡ length w.1 = comment_len w.1 w.4 in
    let long : length bytes ≡ length w.0 + suc (length w.1) = ap length w.2 ∙ length-append w.0 (59 ∷ w.1) in
    ap (gap_len false) w.2 ∙ omega (arith, front, inside, long)
