-- What an answer says of the trees that the tokens spell.
use Rattle.std.proofs.Common.{◌≡◌, ◌≤◌, suc, Bool, true, false, leb, List, [], ◌∷◌, ◌++◌, length, drop, Result, Ok, Err, IfOk, refl, sym, ap, ◌∙◌, subst, arith, leb-true, leb-false, length-append, append_assoc, append-nil, ◌+◌, ℕ}
use Rattle.ll_tree.specs.declared.func.Func.{Func}
use Rattle.ll_grammar.specs.declared.stop.Stop.{Stop}
use Rattle.ll_grammar.specs.declared.stop.Stop.TheVariants as stop
use Rattle.ll_tree.specs.Formed.{IsFormed}
use Rattle.ll_grammar.specs.Tokens.{Tok, AreNamed}
use Rattle.ll_grammar.specs.Reading.{Read, Done, Fault, RanOut, Gives}
use Rattle.ll_grammar.specs.Header.{function}
use Rattle.ll_grammar.specs.Spells.{SpellsFunction}
use Rattle.ll_grammar.specs.Sentences.{IsAnswerFor, HasNoFault, BeginsSome, StopsAt, Stops}
use Rattle.ll_grammar.specs.declared.stop.Refusal.{Refusal}
use Rattle.ll_grammar.proofs.EarlyLaws.{Early, left_of, first_or}
use Rattle.ll_grammar.proofs.CompletionLaws.{Older, Ends}
use Rattle.ll_grammar.proofs.CompletionHeaderLaws.{comp_function}
use Rattle.ll_grammar.proofs.EarlyHeaderLaws.{early_function}
use Rattle.ll_grammar.proofs.DoneLaws.{Holds, OnDone, when_done}
use Rattle.ll_grammar.proofs.HeaderLaws.{function_sound}
use Rattle.ll_grammar.proofs.FormedLaws.{function_formed}
use Rattle.ll_grammar.proofs.HeaderReadLaws.{function_reads}

pub spelled_by : (result : Result Func Stop) (left ts : List Tok) → Gives result left (function ts) → IfOk result (λ func. SpellsFunction func ts)
spelled_by (Ok f) left ts e = (when_done (function_sound ts) e).0
spelled_by (Err s) left ts e = tt

pub formed_by : (result : Result Func Stop) (left ts : List Tok) → Gives result left (function ts) → AreNamed ts → IfOk result IsFormed
formed_by (Ok f) left ts e named = function_formed f ts named (when_done (function_sound ts) e).0
formed_by (Err s) left ts e named = tt

done_is : (f g : Func) (a b : List Tok) → Done f a ≡ Done g b → f ≡ g
done_is f g a b e = subst (λ r. Holds r (λ x _. f ≡ x)) e refl

done_no_fault : {A : Type 0} (f : A) (a : List Tok) (r : Read A) → Done f a ≡ r → (Holds r (λ _ _. ⊥) → ⊥)
done_no_fault f a r e = subst (λ r. Holds r (λ _ _. ⊥) → ⊥) e (λ h. h)

pub only_by : (result : Result Func Stop) (left ts : List Tok) → Gives result left (function ts) → (func : Func) → SpellsFunction func ts → IsAnswerFor result func
only_by (Ok f) left ts e func spells = done_is f func left [] (sym e ∙ function_reads func ts spells)
only_by (Err (stop.Refused r)) left ts e func spells = absurd (done_no_fault func [] (Fault r left) (sym (function_reads func ts spells) ∙ e) tt)
only_by (Err stop.RanOut) left ts e func spells = absurd (done_no_fault func [] RanOut (sym (function_reads func ts spells) ∙ e) tt)
only_by (Err stop.NoMemory) left ts e func spells = refl

-- two ways to part one list
parted : (xs ys front : List Tok) (t : Tok) (rest : List Tok) → xs ++ ys ≡ front ++ t ∷ rest → length ys ≤ length rest → (middle : List Tok) × (xs ≡ front ++ t ∷ middle)
parted [] ys front t rest is few = absurd (omega (arith, ap length is, length-append front (t ∷ rest)))
parted (x ∷ xs) ys [] t rest is few = (xs, ap (λ (u : Tok). u ∷ xs) (ap (first_or t) is))
parted (x ∷ xs) ys (u ∷ front) t rest is few =
    let w = parted xs ys front t rest (ap (drop 1) is) few in
    (w.0, ap (λ (v : Tok). v ∷ xs) (ap (first_or x) is) ∙ ap (λ (l : List Tok). u ∷ l) w.1)

abbrev RanOr : {A : Type 0} → Read A → Type 0
RanOr RanOut = Unit {0}
RanOr (Done x a) = Unit {0}
RanOr (Fault fault left) = ⊥

ran_no_fault : {A : Type 0} (r : Read A) (fault : Refusal) (left : List Tok) → r ≡ RanOut → r ≡ Fault fault left → ⊥
ran_no_fault r fault left ran e = subst (λ r. RanOr r) (sym ran ∙ e) tt

no_fault : (ts more left : List Tok) (fault : Refusal) → function ts ≡ RanOut → Early function (ts ++ more) (Fault fault left) → length left ≤ length more
no_fault ts more [] fault ran early = omega arith
no_fault ts more (t ∷ rest) fault ran (stands, (front, is, same)) = go (leb (suc (length rest)) (length more)) refl
  where
    go : (b : Bool) → leb (suc (length rest)) (length more) ≡ b → suc (length rest) ≤ length more
    go true fits = leb-true _ _ fits
    go false past =
        let few : length more ≤ length rest = omega (arith, leb-false (suc (length rest)) (length more) past) in
        let w = parted ts more front t rest is few in
        absurd (ran_no_fault (function ts) fault (t ∷ w.0) ran (ap function w.1 ∙ same w.0))

-- no fault stands before a fault
fault_first : (fault : Refusal) (front : List Tok) (t : Tok) (rest : List Tok) → function (front ++ t ∷ rest) ≡ Fault fault (t ∷ rest) → HasNoFault front
fault_first fault front t rest e more left other stops = go left (subst (λ q. Early function (front ++ more) q) stops (early_function.early (front ++ more)))
  where
    go : (left : List Tok) → Early function (front ++ more) (Fault other left) → length left ≤ length more
    go [] early = omega arith
    go (u ∷ l) (stands, (front2, is, same)) = within (leb (suc (length l)) (length more)) refl
      where
        within : (b : Bool) → leb (suc (length l)) (length more) ≡ b → suc (length l) ≤ length more
        within true fits = leb-true _ _ fits
        within false past =
            let few : length more ≤ length l = omega (arith, leb-false (suc (length l)) (length more) past) in
            let w = parted front more front2 u l is few in
            let whole : front ++ t ∷ rest ≡ front2 ++ u ∷ (w.0 ++ t ∷ rest) = ap (λ (xs : List Tok). xs ++ t ∷ rest) w.1 ∙ append_assoc front2 (u ∷ w.0) (t ∷ rest) in
            let both : Fault fault (t ∷ rest) ≡ Fault other (u ∷ (w.0 ++ t ∷ rest)) = sym e ∙ ap function whole ∙ same (w.0 ++ t ∷ rest) in
            absurd (omega (arith, ap (λ q. length (left_of q)) both, length-append w.0 (t ∷ rest)))

-- a line that no token stands in
newest : List Tok → ℕ
newest [] = 0
newest (t ∷ ts) = suc (t.line + newest ts)

older_than : (n : ℕ) (ts : List Tok) → newest ts ≤ n → Older n ts
unfolding newest
older_than n [] old = tt
older_than n (t ∷ ts) old = ((λ same. omega (arith, old, same)), older_than n ts (omega (arith, old)))

completed : (ts : List Tok) → Ends (function ts) → BeginsSome ts
completed [] ends = let s = (comp_function 0).starts in (s.more ++ [], s.value, (when_done (function_sound (s.more ++ [])) (s.reads [] refl)).0)
completed (t ∷ ts) ends =
    let n = newest (t ∷ ts) in
    let w = ((comp_function n).completes (suc (length ts))).finish t ts (omega arith) (older_than n (t ∷ ts) (omega arith)) ends in
    (w.more ++ [], w.value, (when_done (function_sound (t ∷ (ts ++ (w.more ++ [])))) (w.reads [] refl)).0)

-- tokens without a fault begin some function
no_fault_begins : (ts : List Tok) → HasNoFault ts → BeginsSome ts
no_fault_begins ts none = completed ts (go (function ts) refl (function_sound ts) (early_function.early ts))
  where
    at_end : (func : Func) (l : List Tok) → l ≡ [] → Ends (Done func l)
    at_end func [] here = tt
    at_end func (t ∷ l) here = absurd (omega (arith, ap length here))

    go : (r : Read Func) → function ts ≡ r → OnDone r (λ f rest. SpellsFunction f ts × (rest ≡ [])) → Early function ts r → Ends r
    go (Done func l) e sound early = at_end func l sound.holds.1
    go (Fault fault []) e sound early = early.0
    go (Fault fault (t ∷ l)) e sound early = absurd (omega (arith, none [] (t ∷ l) fault (ap function (append-nil ts) ∙ e)))
    go RanOut e sound early = tt

stops_at : (fault : Refusal) (left ts : List Tok) → function ts ≡ Fault fault left → Early function ts (Fault fault left) → StopsAt fault ts left
stops_at fault [] ts e early = absurd early.0
stops_at fault (t ∷ rest) ts e (stands, (front, is, same)) = record {
  front = front;
  token = t;
  behind = rest;
  whole = is;
  stands = refl;
  never = λ func others spells. done_no_fault func [] (Fault fault (t ∷ others)) (sym (function_reads func (front ++ t ∷ others) spells) ∙ same others) tt;
  begins = no_fault_begins front (fault_first fault front t rest (ap function (sym is) ∙ e));
  first = fault_first fault front t rest (ap function (sym is) ∙ e);
  early = same;
}

ran_out_no_fault : (ts : List Tok) → function ts ≡ RanOut → HasNoFault ts
ran_out_no_fault ts e more left fault stops = no_fault ts more left fault e (subst (λ q. Early function (ts ++ more) q) stops (early_function.early (ts ++ more)))

pub stops_by : (result : Result Func Stop) (left ts : List Tok) → Gives result left (function ts) → Stops result ts left
stops_by (Ok f) left ts e = tt
stops_by (Err (stop.Refused fault)) left ts e = stops_at fault left ts e (subst (λ q. Early function ts q) e (early_function.early ts))
stops_by (Err stop.RanOut) left ts e = let none = ran_out_no_fault ts e in (none, no_fault_begins ts none)
stops_by (Err stop.NoMemory) left ts e = tt

-- tokens spell one tree at most
pub one_tree : (ts : List Tok) (f g : Func) → SpellsFunction f ts → SpellsFunction g ts → f ≡ g
one_tree ts f g is also = done_is f g [] [] (sym (function_reads f ts is) ∙ function_reads g ts also)
