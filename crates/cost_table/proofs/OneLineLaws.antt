-- A line says one thing at most, whoever reads it.
use Rattle.std.proofs.Common.{◌≡◌, ◌<◌, ◌^◌, ℕ, true, List, [], ◌∷◌, ◌++◌, length, take, drop, refl, sym, ◌∙◌, ap, arith, subst, inl, inr}
use Rattle.std.specs.Fmt.{decimal}
use Rattle.std.specs.List.{list_all}
use Rattle.std.specs.Str.Parse.{digits_value}
use Rattle.std.proofs.lemmas.Bool.{true≢false}
use Rattle.std.proofs.lemmas.List.{take_at, length_push}
use Rattle.ll_token.specs.Bytes.{is_run_byte}
use Rattle.ll_token.specs.Names.{IsRun, Writes, StandsFor}
use Rattle.ll_token.specs.Scan.{IsLocalName}
use Rattle.ll_token.proofs.PieceLaws.{one_name}
use Rattle.cost_table.specs.Lines.{IsNamedCost, IsEdgeLine, Says}
use Rattle.cost_table.specs.declared.line.Said.{Said}
use Rattle.cost_table.specs.declared.line.Said.TheVariants as words
use Rattle.cost_table.proofs.DigitLaws.{decimal_value}
use Rattle.cost_table.proofs.LineLaws.{idle_alone, not_both}
use Rattle.cost_table.proofs.NameLaws.{split_front, split_back}

-- a run has no quote
not_quoted : (body rest : List ℕ) → IsRun body [] → body ≡ 34 ∷ rest → ⊥
not_quoted body rest run quoted =
    let each : list_all is_run_byte (34 ∷ rest) ≡ true = subst (λ (bytes : List ℕ). list_all is_run_byte bytes ≡ true) quoted run.each in
    true≢false (sym each)

same_inside : (one other : List ℕ) (byte : ℕ) → one ++ byte ∷ [] ≡ other ++ byte ∷ [] → one ≡ other
same_inside one other byte same =
    let len : length one ≡ length other = omega (arith, ap length same, length_push one byte, length_push other byte) in
    sym (take_at one (byte ∷ []) (length one) refl) ∙ ap (λ (bytes : List ℕ). take (length one) bytes) same ∙ ap (λ (n : ℕ). take n (other ++ byte ∷ [])) len ∙ take_at other (byte ∷ []) (length other) refl

one_writing : (body name other : List ℕ) → Writes body [] name → Writes body [] other → name ≡ other
one_writing body name other (inl run) (inl also) = run.1 ∙ sym also.1
one_writing body name other (inl run) (inr string) = absurd (not_quoted body (string.inner ++ 34 ∷ []) run.0 string.quotes)
one_writing body name other (inr string) (inl run) = absurd (not_quoted body (string.inner ++ 34 ∷ []) run.0 string.quotes)
one_writing body name other (inr string) (inr also) =
    let same = same_inside also.inner string.inner 34 (ap (λ (bytes : List ℕ). drop 1 bytes) (sym also.quotes ∙ string.quotes)) in
    (one_name string.inner name [] other [] string.escapes refl (subst (λ (inner : List ℕ). StandsFor inner other []) same also.escapes) refl).0

one_local : (written name other : List ℕ) → IsLocalName written name → IsLocalName written other → name ≡ other
one_local written name other local also =
    let same : also.0 ≡ local.0 = ap (λ (bytes : List ℕ). drop 1 bytes) (sym also.1 ∙ local.1) in
    one_writing local.0 name other local.2 (subst (λ (body : List ℕ). Writes body [] other) same also.2)

module _ (line : List ℕ) where
  -- a line is split in one way
  one_split : (written rest name also_written also_rest other : List ℕ) → line ≡ written ++ 32 ∷ rest → IsLocalName written name → line ≡ also_written ++ 32 ∷ also_rest → IsLocalName also_written other → (name ≡ other) × (rest ≡ also_rest)
  one_split written rest name also_written also_rest other form local also_form also_local =
      let front : also_written ≡ written = sym (split_front line also_written also_rest other also_form also_local) ∙ split_front line written rest name form local in
      let back : rest ≡ also_rest = sym (split_back line written rest name form local) ∙ split_back line also_written also_rest other also_form also_local in
      (one_local written name other local (subst (λ (bytes : List ℕ). IsLocalName bytes other) front also_local), back)

one_number : (cost other : ℕ) → cost < 2 ^ 32 → other < 2 ^ 32 → decimal cost ≡ decimal other → cost ≡ other
one_number cost other small also_small same =
    sym (decimal_value cost (omega (arith, small))) ∙ ap (λ (digits : List ℕ). digits_value 10 digits) same ∙ decimal_value other (omega (arith, also_small))

one_named : (line name also_name : List ℕ) (cost other : ℕ) → IsNamedCost line name cost → IsNamedCost line also_name other → (name ≡ also_name) × (cost ≡ other)
one_named line name also_name cost other named also =
    let parts = one_split line named.written (decimal cost) name also.written (decimal other) also_name named.form named.named also.form also.named in
    (parts.0, one_number cost other named.small also.small parts.1)

one_edge : (line from to from' to' : List ℕ) (cost other : ℕ) → IsEdgeLine line from to cost → IsEdgeLine line from' to' other → (from ≡ from') × (to ≡ to') × (cost ≡ other)
one_edge line from to from' to' cost other edge also =
    let parts = one_split line edge.written edge.rest from also.written also.rest from' edge.form edge.named also.form also.named in
    let rest = one_named edge.rest to to' cost other edge.to_and_cost (subst (λ (bytes : List ℕ). IsNamedCost bytes to' other) (sym parts.1) also.to_and_cost) in
    (parts.0, rest.0, rest.1)

pub says_one : (line : List ℕ) (said other : Said) → Says line said → Says line other → said ≡ other
says_one line words.Nothing other says also = sym (idle_alone line says other also)
says_one line (words.Block label cost) words.Nothing says also = idle_alone line also (words.Block label cost) says
says_one line (words.Block label cost) (words.Block name other) says also =
    let same = one_named line label name cost other says also in
    λ i. words.Block (same.0 i) (same.1 i)
says_one line (words.Block label cost) (words.Edge from to other) says also = absurd (not_both line label from to cost other says also)
says_one line (words.Edge from to cost) words.Nothing says also = idle_alone line also (words.Edge from to cost) says
says_one line (words.Edge from to cost) (words.Block label other) says also = absurd (not_both line label from to other cost also says)
says_one line (words.Edge from to cost) (words.Edge from' to' other) says also =
    let same = one_edge line from to from' to' cost other says also in
    λ i. words.Edge (same.0 i) (same.1 i) (same.2 i)
