-- Arguments that are taken one after the other.
use Rattle.std.proofs.Common.{◌≡◌, ◌⊎◌, ◌≢◌, ◌<◌, ◌≤◌, ◌+◌, ◌^◌, ℕ, List, [], ◌∷◌, ◌++◌, length, take, map, get_or, refl, sym, ◌∙◌, ap, subst, inl, inr, arith}
use Rattle.std.specs.Fmt.{decimal}
use Rattle.std.proofs.lemmas.Bool.{cases_order}
use Rattle.std.proofs.lemmas.List.{map-append, take_more, length-map, length-take-le, get_or_default}
use Rattle.std.proofs.Math.Seq.{take-length}
use Rattle.wx_base.specs.declared.lists.Arg.{Arg}
use Rattle.ll_tree.specs.declared.func.Param.{Param}
use Rattle.command_words.specs.Arguments.{IsNumber, IsTaken, IsTakenAs, AreArguments, IsFirstBad, widths_of}

widths : List Arg → List ℕ
widths args = map (λ arg. arg.width) args

texts : List Arg → List (List ℕ)
texts args = map (λ arg. decimal arg.value) args

-- The words before a place are taken, as these arguments.
pub record SoFar (of : List ℕ) (words : List (List ℕ)) (args : List Arg) (place : ℕ) : Type 0 where
  pub fits : map (λ arg. arg.width) args ≡ take place of
  pub says : map (λ arg. decimal arg.value) args ≡ take place words
  pub within : place ≤ length of
  pub earlier : (other : ℕ) → other < place → (other < length words) × IsTaken of other (get_or words other [])

pub none_yet : (of : List ℕ) (words : List (List ℕ)) → SoFar of words [] 0
none_yet of words = record { fits = refl; says = refl; within = omega arith; earlier = λ other less. absurd (omega (arith, less)) }

pub one_more : (of : List ℕ) (words : List (List ℕ)) (args : List Arg) (place : ℕ) (arg : Arg) → SoFar of words args place → place < length words
    → (word : List ℕ) → word ≡ get_or words place word → IsTakenAs of place word arg → SoFar of words (args ++ arg ∷ []) (place + 1)
one_more of words args place arg so there word read taken_as = record {
  fits = map-append (λ (it : Arg). it.width) args (arg ∷ []) ∙ ap (λ (xs : List ℕ). xs ++ arg.width ∷ []) so.fits
      ∙ ap (λ (x : ℕ). take place of ++ x ∷ []) is.width ∙ sym (take_more of place 0 is.there);
  says = map-append (λ (it : Arg). decimal it.value) args (arg ∷ []) ∙ ap (λ (xs : List (List ℕ)). xs ++ decimal arg.value ∷ []) so.says
      ∙ ap (λ (x : List ℕ). take place words ++ x ∷ []) (sym is.value) ∙ sym (take_more words place [] there);
  within = omega (arith, is.there);
  earlier = λ other less. elim (cases_order other place) [
    | inl same ↦ rw same (there, (is.there, taken))
    | inr (inl before) ↦ so.earlier other before
    | inr (inr behind) ↦ absurd (omega (arith, less, behind))
  ];
}
  where
    is : IsTakenAs of place (get_or words place []) arg
    is = subst (λ (it : List ℕ). IsTakenAs of place it arg) (read ∙ get_or_default words place word [] there) taken_as

    taken : IsNumber (get_or of place 0) (get_or words place [])
    taken = (arg.value, subst (λ (width : ℕ). arg.value < 2 ^ width) is.width arg.fits, is.value)

pub first_bad : (of : List ℕ) (words : List (List ℕ)) (args : List Arg) (place : ℕ) → SoFar of words args place → place < length words
    → (IsTaken of place (get_or words place []) → ⊥) → IsFirstBad of words place
first_bad of words args place so there bad = record { bad = inl (there, bad); earlier = so.earlier }

count : (of : List ℕ) (words : List (List ℕ)) (args : List Arg) (place : ℕ) → SoFar of words args place → length args ≡ place
count of words args place so =
    sym (length-map args (λ (it : Arg). it.width)) ∙ ap length so.fits ∙ length-take-le place of so.within

pub all_taken : (of : List ℕ) (words : List (List ℕ)) (args : List Arg) (place : ℕ) → SoFar of words args place → place ≡ length words
    → length args ≡ length of → AreArguments of words args
all_taken of words args place so whole all = record {
  fits = so.fits ∙ ap (λ (n : ℕ). take n of) (sym (count of words args place so) ∙ all) ∙ take-length of;
  says = so.says ∙ ap (λ (n : ℕ). take n words) whole ∙ take-length words;
}

pub too_few : (of : List ℕ) (words : List (List ℕ)) (args : List Arg) (place : ℕ) → SoFar of words args place → place ≡ length words
    → length args ≢ length of → IsFirstBad of words (length args)
too_few of words args place so whole fewer =
    let same = count of words args place so in
    let less : place < length of = elim (cases_order place (length of)) [
      | inl all ↦ absurd (fewer (same ∙ all))
      | inr (inl less) ↦ less
      | inr (inr more) ↦ absurd (omega (arith, more, so.within))
    ] in
    rw same (record { bad = inr (whole, less); earlier = so.earlier })

pub not_all : (params : List Param) (args : List Arg) (n : ℕ) → n ≡ length args → n ≢ length params → length args ≢ length (widths_of params)
not_all params args n is other same = other (is ∙ same ∙ length-map params (λ (it : Param). it.width))
