-- Where a local name at the front of a line ends.
use Rattle.std.proofs.Common.{◌≡◌, ◌<◌, ⊎_elim, ℕ, suc, Bool, true, false, not, List, [], ◌∷◌, ◌++◌, length, take, drop, get_or, refl, sym, ◌∙◌, ap, arith, append_assoc, drop-cons, length-append}
use Rattle.std.specs.Prelude.{◌==◌}
use Rattle.std.specs.List.{AllPass, prefix_len, list_all}
use Rattle.std.proofs.lemmas.Bool.{cases_eq, true≢false}
use Rattle.std.proofs.lemmas.Bool.Decides.{nat_tests}
use Rattle.std.proofs.lemmas.List.{take_at, drop_at, take-append-drop, length_push}
use Rattle.std.proofs.Math.Seq.{get_or-append_seam}
use Rattle.std.proofs.lemmas.List.Sums.{AllPass-from_list_all}
use Rattle.std.proofs.lemmas.List.Elements.{All-cons, All-tail}
use Rattle.ll_token.specs.Bytes.{is_run_byte, is_inner}
use Rattle.ll_token.specs.Names.{IsRun}
use Rattle.ll_token.specs.Scan.{IsLocalName}
use Rattle.cost_table.specs.Names.{no_quote, no_space, name_len}

-- a byte that passes a test isn't one that fails it
apart : (test : ℕ → Bool) (byte other : ℕ) → test byte ≡ true → test other ≡ false → (byte == other) ≡ false
apart test byte other passes fails =
    ⊎_elim (λ same. absurd (true≢false (sym passes ∙ ap test same ∙ fails))) (λ differs. grind (arith, nat_tests)) (cases_eq byte other)

front_len : (p : ℕ → Bool) (xs : List ℕ) (y : ℕ) (ys : List ℕ) → AllPass p xs → p y ≡ false → prefix_len p (xs ++ y ∷ ys) ≡ length xs
front_len p [] y ys each stops = rw stops refl
front_len p (x ∷ xs) y ys each stops =
    let here : p x ≡ true = each 0 0 (omega arith) in
    let tail = front_len p xs y ys (All-tail (λ (b : ℕ). p b ≡ true) x xs each) stops in
    rw (here, tail) (omega arith)

bare : (body rest : List ℕ) → IsRun body [] → name_len (37 ∷ (body ++ 32 ∷ rest)) ≡ suc (length body)
bare [] rest run = absurd (omega (arith, run.some))
bare (first ∷ body) rest run =
    let runs : AllPass is_run_byte (first ∷ body) = AllPass-from_list_all is_run_byte (first ∷ body) run.each in
    let plain : (first == 34) ≡ false = apart is_run_byte first 34 (runs 0 0 (omega arith)) refl in
    let passes : AllPass no_space (first ∷ body) = λ k d low. ap not (apart is_run_byte (get_or (first ∷ body) k d) 32 (runs k d low) refl) in
    let all : AllPass no_space (37 ∷ first ∷ body) = All-cons (λ (b : ℕ). no_space b ≡ true) 37 (first ∷ body) refl passes in
    rw plain (front_len no_space (37 ∷ first ∷ body) 32 rest all refl)

quoted : (inner rest : List ℕ) → list_all is_inner inner ≡ true → name_len (37 ∷ 34 ∷ ((inner ++ 34 ∷ []) ++ 32 ∷ rest)) ≡ suc (suc (length (inner ++ 34 ∷ [])))
quoted inner rest inside =
    let inners : AllPass is_inner inner = AllPass-from_list_all is_inner inner inside in
    let passes : AllPass no_quote inner = λ k d low. ap not (apart is_inner (get_or inner k d) 34 (inners k d low) refl) in
    let len : prefix_len no_quote ((inner ++ 34 ∷ []) ++ 32 ∷ rest) ≡ length inner = rw (append_assoc inner (34 ∷ []) (32 ∷ rest)) (front_len no_quote inner 34 (32 ∷ rest) passes refl) in
    omega (arith, len, length_push inner 34)

-- a name at the front has so many bytes
pub name_len_of : (written rest name : List ℕ) → IsLocalName written name → name_len (written ++ 32 ∷ rest) ≡ length written
name_len_of written rest name local =
    rw local.1 (
    ⊎_elim
    (λ run. bare local.0 rest run.0)
    (λ string. rw string.quotes (quoted string.inner rest string.in_line))
    local.2
    )

-- the parts of a split
pub split_parts : (line : List ℕ) (end : ℕ) → end < length line → get_or line end 0 ≡ 32 → line ≡ take end line ++ 32 ∷ drop 1 (drop end line)
split_parts line end low space =
    let front : drop end line ≡ 32 ∷ drop (suc end) line = drop-cons line end 0 low ∙ ap (λ (b : ℕ). b ∷ drop (suc end) line) space in
    let back : drop 1 (drop end line) ≡ drop (suc end) line = ap (λ (xs : List ℕ). drop 1 xs) front in
    sym (take-append-drop end line) ∙ ap (λ (xs : List ℕ). take end line ++ xs) (front ∙ ap (λ (xs : List ℕ). 32 ∷ xs) (sym back))

module _ (line written rest name : List ℕ) (form : line ≡ written ++ 32 ∷ rest) (local : IsLocalName written name) where
  pub split_len : name_len line ≡ length written
  split_len = rw form (name_len_of written rest name local)

  pub split_more : (name_len line < length line) × (get_or line (name_len line) 0 ≡ 32)
  split_more = rw split_len (rw form (omega (arith, length-append written (32 ∷ rest)), get_or-append_seam written 32 rest 0))

  pub split_front : take (name_len line) line ≡ written
  split_front = rw split_len (rw form (take_at written (32 ∷ rest) (length written) refl))

  pub split_back : drop 1 (drop (name_len line) line) ≡ rest
  split_back = rw split_len (rw form (ap (λ (xs : List ℕ). drop 1 xs) (drop_at written (32 ∷ rest) (length written) refl)))
