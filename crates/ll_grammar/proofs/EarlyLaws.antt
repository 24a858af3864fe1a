-- A reading looks at no token behind the first one that it leaves: the same is read of each list that begins so.
use Rattle.std.proofs.Common.{◌≡◌, ◌+◌, ◌-◌, ◌≤◌, ℕ, zero, suc, Bool, true, false, List, [], ◌∷◌, ◌++◌, length, drop, Option, Some, None, refl, sym, ap, ◌∙◌, subst, arith, append_assoc, length-append}
use Rattle.std.specs.Prelude.{if◌then◌else◌}
use Rattle.std.specs.Option.{option_map_or}
use Rattle.std.proofs.lemmas.List.{append_cancel_right}
use Rattle.ll_grammar.specs.declared.stop.Place.{Place}
use Rattle.ll_grammar.specs.Tokens.{Tok}
use Rattle.ll_grammar.specs.Reading.{Read, Done, Fault, RanOut, ◌>>=◌, stopped, take_if, take_some}

-- the tokens left
abbrev pub left_of : {A : Type 0} → Read A → List Tok
left_of (Done x a) = a
left_of (Fault r a) = a
left_of RanOut = []

-- the same answer with other tokens left
abbrev pub with_left : {A : Type 0} → Read A → List Tok → Read A
with_left (Done x a) b = Done x b
with_left (Fault r a) b = Fault r b
with_left RanOut b = RanOut

-- a fault stands at a token
abbrev pub Stands : {A : Type 0} → Read A → Type 0
Stands (Done x a) = Unit {0}
Stands (Fault r []) = ⊥
Stands (Fault r (t ∷ a)) = Unit {0}
Stands RanOut = Unit {0}

-- an answer on tokens is that on each list with the same tokens up to the first one left
abbrev pub Behaves : {A : Type 0} → (List Tok → Read A) → List Tok → Read A → List Tok → Type 0
Behaves X ts r [] = Unit {0}
Behaves X ts r (t ∷ rest) = (front : List Tok) × (ts ≡ front ++ t ∷ rest) × ((others : List Tok) → X (front ++ t ∷ others) ≡ with_left r (t ∷ others))

abbrev pub Early : {A : Type 0} → (List Tok → Read A) → List Tok → Read A → Type 0
Early X ts r = Stands r × Behaves X ts r (left_of r)

pub record IsEarly {A : Type 0} (X : List Tok → Read A) : Type 0 where
  pub early : (ts : List Tok) → Early X ts (X ts)

-- what looks at the next token alone
abbrev pub Looks : {A : Type 0} → (List Tok → A) → Type 0
Looks v = (t : Tok) (a c : List Tok) → v (t ∷ a) ≡ v (t ∷ c)

-- two readings that agree on the lists in question
early_as : {A : Type 0} (X Y : List Tok → Read A) (ts : List Tok) (q : Read A) → Early Y ts q
    → ((front : List Tok) (t : Tok) (rest others : List Tok) → ts ≡ front ++ t ∷ rest → X (front ++ t ∷ others) ≡ Y (front ++ t ∷ others)) → Early X ts q
early_as X Y ts q (stands, behaves) agree = (stands, go (left_of q) behaves)
  where
    go : (l : List Tok) → Behaves Y ts q l → Behaves X ts q l
    go [] b = tt
    go (t ∷ rest) (front, is, same) = (front, is, λ others. agree front t rest others is ∙ same others)

looks_same : {A : Type 0} (v : List Tok → A) → Looks v → (ts front : List Tok) (t : Tok) (rest others : List Tok) → ts ≡ front ++ t ∷ rest → v (front ++ t ∷ others) ≡ v ts
looks_same v looks ts [] t rest others is = looks t others rest ∙ ap v (sym is)
looks_same v looks ts (a ∷ front) t rest others is = looks a (front ++ t ∷ others) (front ++ t ∷ rest) ∙ ap v (sym is)

-- ---- single tokens

pub early_done : {A : Type 0} (x : A) → IsEarly (λ ts. Done x ts)
early_done {A} x = record { early = go }
  where
    go : (ts : List Tok) → Early (λ ts. Done x ts) ts (Done x ts)
    go [] = (tt, tt)
    go (t ∷ rest) = (tt, ([], refl, λ others. refl))

pub early_ran_out : {A : Type 0} → IsEarly {A = A} (λ ts. RanOut)
early_ran_out = record { early = λ ts. (tt, tt) }

pub early_taken : {A : Type 0} (v : List Tok → A) → Looks v → IsEarly (λ ts. Done (v ts) (drop 1 ts))
early_taken {A} v looks = record { early = go }
  where
    go : (ts : List Tok) → Early (λ ts. Done (v ts) (drop 1 ts)) ts (Done (v ts) (drop 1 ts))
    go [] = (tt, tt)
    go (t ∷ []) = (tt, tt)
    go (t ∷ u ∷ rest) = (tt, (t ∷ [], refl, λ others. ap (λ (x : A). Done x (u ∷ others)) (looks t (u ∷ others) (u ∷ rest))))

pub early_stopped : {A : Type 0} (at : Place) → IsEarly {A = A} (λ ts. stopped at ts)
early_stopped {A} at = record { early = go }
  where
    go : (ts : List Tok) → Early {A = A} (λ ts. stopped at ts) ts (stopped at ts)
    go [] = (tt, tt)
    go (t ∷ rest) = (tt, ([], refl, λ others. refl))

-- ---- readings put together

none_left : {A : Type 0} (Y : List Tok → Read A) (q : Read A) (l : List Tok) → Behaves Y [] q l → l ≡ []
none_left Y q [] b = refl
none_left Y q (t ∷ rest) (front, is, same) = absurd (omega (arith, ap length is, length-append front (t ∷ rest)))

abbrev pub first_or : Tok → List Tok → Tok
first_or t [] = t
first_or t (u ∷ l) = u

module _ {A B : Type 0} (X : List Tok → Read A) (f : A → List Tok → Read B) (ts : List Tok) where
  abbrev then_of : List Tok → Read B
  then_of l = X l >>= f

  goes_on : (x : A) (t : Tok) (rest front : List Tok) → ((others : List Tok) → X (front ++ t ∷ others) ≡ Done x (t ∷ others)) → (front2 : List Tok) (u : Tok) (rest2 : List Tok) → t ∷ rest ≡ front2 ++ u ∷ rest2
      → (others : List Tok) → X (front ++ (front2 ++ u ∷ others)) ≡ Done x (front2 ++ u ∷ others)
  goes_on x t rest front same [] u rest2 is others = subst (λ t. X (front ++ t ∷ others) ≡ Done x (t ∷ others)) (ap (first_or t) is) (same others)
  goes_on x t rest front same (a ∷ front2) u rest2 is others = subst (λ t. X (front ++ t ∷ (front2 ++ u ∷ others)) ≡ Done x (t ∷ (front2 ++ u ∷ others))) (ap (first_or t) is) (same (front2 ++ u ∷ others))

  joined : (x : A) (t : Tok) (rest front : List Tok) → ts ≡ front ++ t ∷ rest → ((others : List Tok) → X (front ++ t ∷ others) ≡ Done x (t ∷ others)) → (q : Read B) (l : List Tok) → Behaves (f x) (t ∷ rest) q l → Behaves then_of ts q l
  joined x t rest front is same q [] b = tt
  joined x t rest front is same q (u ∷ rest2) (front2, is2, same2) = (
    front ++ front2,
    is ∙ ap (λ (l : List Tok). front ++ l) is2 ∙ sym (append_assoc front front2 (u ∷ rest2)),
    λ others.
        ap then_of (append_assoc front front2 (u ∷ others)) ∙ ap (λ r. r >>= f) (goes_on x t rest front same front2 u rest2 is2 others) ∙ same2 others,
  )

  then_early : ((x : A) → IsEarly (f x)) → (r : Read A) → Early X ts r → Early then_of ts (r >>= f)
  then_early more (Done x []) e =
      let v = (more x).early [] in
      (v.0, subst (λ l. Behaves then_of ts (f x []) l) (sym (none_left (f x) (f x []) (left_of (f x [])) v.1)) tt)
  then_early more (Done x (t ∷ rest)) (stands, (front, is, same)) =
      let v = (more x).early (t ∷ rest) in
      (v.0, joined x t rest front is same (f x (t ∷ rest)) (left_of (f x (t ∷ rest))) v.1)
  then_early more (Fault r []) e = absurd e.0
  then_early more (Fault r (t ∷ rest)) (stands, (front, is, same)) = (tt, (front, is, λ others. ap (λ r. r >>= f) (same others)))
  then_early more RanOut e = (tt, tt)

pub early_then : {A B : Type 0} (X : List Tok → Read A) (f : A → List Tok → Read B) → IsEarly X → ((x : A) → IsEarly (f x)) → IsEarly (λ ts. X ts >>= f)
early_then X f first more = record { early = λ ts. then_early X f ts more (X ts) (first.early ts) }

pub early_if : {A : Type 0} (b : List Tok → Bool) (r s : List Tok → Read A) → Looks b → IsEarly r → IsEarly s → IsEarly (λ ts. if b ts then r ts else s ts)
early_if {A} b r s looks first other = record { early = λ ts. go ts (b ts) refl }
  where
    go : (ts : List Tok) (test : Bool) → b ts ≡ test → Early (λ ts. if b ts then r ts else s ts) ts (if test then r ts else s ts)
    go ts true e = early_as (λ ts. if b ts then r ts else s ts) r ts (r ts) (first.early ts) (λ front t rest others is. ap (λ b. if b then r (front ++ t ∷ others) else s (front ++ t ∷ others)) (looks_same b looks ts front t rest others is ∙ e))
    go ts false e = early_as (λ ts. if b ts then r ts else s ts) s ts (s ts) (other.early ts) (λ front t rest others is. ap (λ b. if b then r (front ++ t ∷ others) else s (front ++ t ∷ others)) (looks_same b looks ts front t rest others is ∙ e))

pub early_some : {A B : Type 0} (o : List Tok → Option A) (f : A → List Tok → Read B) (r : List Tok → Read B) → Looks o → ((x : A) → IsEarly (f x)) → IsEarly r → IsEarly (λ ts. option_map_or (λ x. f x ts) (o ts) (r ts))
early_some {A} {B} o f r looks some other = record { early = λ ts. go ts (o ts) refl }
  where
    go : (ts : List Tok) (test : Option A) → o ts ≡ test → Early (λ ts. option_map_or (λ x. f x ts) (o ts) (r ts)) ts (option_map_or (λ x. f x ts) test (r ts))
    go ts (Some x) e = early_as (λ ts. option_map_or (λ x. f x ts) (o ts) (r ts)) (f x) ts (f x ts) ((some x).early ts) (λ front t rest others is. ap (λ o. option_map_or (λ x. f x (front ++ t ∷ others)) o (r (front ++ t ∷ others))) (looks_same o looks ts front t rest others is ∙ e))
    go ts None e = early_as (λ ts. option_map_or (λ x. f x ts) (o ts) (r ts)) r ts (r ts) (other.early ts) (λ front t rest others is. ap (λ o. option_map_or (λ x. f x (front ++ t ∷ others)) o (r (front ++ t ∷ others))) (looks_same o looks ts front t rest others is ∙ e))

pub early_take_if : {A : Type 0} (b : List Tok → Bool) (v : List Tok → A) (at : Place) → Looks b → Looks v → IsEarly (λ ts. take_if (b ts) (v ts) at ts)
early_take_if b v at looks values = early_if b (λ ts. Done (v ts) (drop 1 ts)) (λ ts. stopped at ts) looks (early_taken v values) (early_stopped at)

pub early_take_some : {A : Type 0} (o : List Tok → Option A) (at : Place) → Looks o → IsEarly (λ ts. take_some (o ts) at ts)
early_take_some {A} o at looks = record { early = λ ts. go ts (o ts) refl }
  where
    go : (ts : List Tok) (test : Option A) → o ts ≡ test → Early (λ ts. take_some (o ts) at ts) ts (take_some test at ts)
    go ts (Some x) e = early_as (λ ts. take_some (o ts) at ts) (λ l. Done x (drop 1 l)) ts (Done x (drop 1 ts)) ((early_taken (λ _. x) (λ t a c. refl)).early ts) (λ front t rest others is. ap (λ o. take_some o at (front ++ t ∷ others)) (looks_same o looks ts front t rest others is ∙ e))
    go ts None e = early_as (λ ts. take_some (o ts) at ts) (λ l. stopped at l) ts (stopped at ts) ((early_stopped at).early ts) (λ front t rest others is. ap (λ o. take_some o at (front ++ t ∷ others)) (looks_same o looks ts front t rest others is ∙ e))

-- behind the next token
pub early_behind : {A : Type 0} (r : List Tok → Read A) → IsEarly r → IsEarly (λ ts. r (drop 1 ts))
early_behind r e = early_then (λ ts. Done (tt {0}) (drop 1 ts)) (λ _. r) (early_taken (λ _. tt {0}) (λ t a c. refl)) (λ _. e)

-- ---- readings that go on so many times at most

same_front : (front front2 : List Tok) (t : Tok) (rest ts : List Tok) → ts ≡ front ++ t ∷ rest → ts ≡ front2 ++ t ∷ rest → front2 ≡ front
same_front front front2 t rest ts is is2 = append_cancel_right front2 front (t ∷ rest) (sym is2 ∙ is)

-- more steps than tokens change nothing
abbrev pub Settles : {A : Type 0} → (ℕ → List Tok → Read A) → Type 0
Settles X = (n : ℕ) (ts : List Tok) → length ts ≤ n → X n ts ≡ X (length ts) ts

pub early_within : {A : Type 0} (X : ℕ → List Tok → Read A) → Settles X → ((n : ℕ) → IsEarly (X n)) → IsEarly (λ ts. X (length ts) ts)
early_within {A} X settles each = record { early = λ ts. go ts (X (length ts) ts) refl ((each (length ts)).early ts) }
  where
    at_most : (ts : List Tok) (q : Read A) → X (length ts) ts ≡ q → (n : ℕ) → length ts ≤ n → Early (X n) ts q
    at_most ts q e n fits = subst (λ r. Early (X n) ts r) (settles n ts fits ∙ e) ((each n).early ts)

    again : (ts front : List Tok) (t : Tok) (rest : List Tok) (q : Read A) → ts ≡ front ++ t ∷ rest → (n : ℕ) → Behaves (X n) ts q (t ∷ rest) → (others : List Tok) → X n (front ++ t ∷ others) ≡ with_left q (t ∷ others)
    again ts front t rest q is n (front2, is2, same) others = subst (λ f. X n (f ++ t ∷ others) ≡ with_left q (t ∷ others)) (same_front front front2 t rest ts is is2) (same others)

    left : (ts : List Tok) (q : Read A) (l : List Tok) → l ≡ left_of q → X (length ts) ts ≡ q → Behaves (X (length ts)) ts q l → Behaves (λ ts. X (length ts) ts) ts q l
    left ts q [] here e b = tt
    left ts q (t ∷ rest) here e (front, is, same) = (
      front,
      is,
      λ others.
          let l = front ++ t ∷ others in
          let n = length ts + length l in
          sym (settles n l (omega arith)) ∙ again ts front t rest q is n (subst (λ k. Behaves (X n) ts q k) (sym here) (at_most ts q e n (omega arith)).1) others,
    )

    go : (ts : List Tok) (q : Read A) → X (length ts) ts ≡ q → Early (X (length ts)) ts q → Early (λ ts. X (length ts) ts) ts q
    go ts q e (stands, behaves) = (stands, left ts q (left_of q) refl e behaves)

-- it is enough to compare neighbours
pub settles_from : {A : Type 0} (X : ℕ → List Tok → Read A) → ((n : ℕ) (ts : List Tok) → length ts ≤ n → X n ts ≡ X (suc n) ts) → Settles X
settles_from X next n ts fits = go (n - length ts) n (omega arith)
  where
    go : (k n : ℕ) → n ≡ k + length ts → X n ts ≡ X (length ts) ts
    go zero n e = ap (λ (n : ℕ). X n ts) (omega (arith, e))
    go (suc k) n e = let less : n ≡ suc (k + length ts) = omega (arith, e) in ap (λ (n : ℕ). X n ts) less ∙ sym (next (k + length ts) ts (omega arith)) ∙ go k (k + length ts) refl

-- what is equal to an early reading
pub early_same : {A : Type 0} (X Y : List Tok → Read A) → ((ts : List Tok) → X ts ≡ Y ts) → IsEarly Y → IsEarly X
early_same {A} X Y same e = record { early = λ ts. subst (λ q. Early X ts q) (sym (same ts)) (early_as X Y ts (Y ts) (e.early ts) (λ front t rest others is. same (front ++ t ∷ others))) }

-- a reading of one of two lists
pub push_if : {A B : Type 0} (f : A → B) (b : Bool) (x y : A) → f (if b then x else y) ≡ (if b then f x else f y)
push_if f true x y = refl
push_if f false x y = refl
