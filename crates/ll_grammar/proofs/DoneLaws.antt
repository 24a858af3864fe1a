-- What holds of the value and of the tokens left, where a reading is done; and how it follows from the parts.
use Rattle.std.proofs.Common.{◌≡◌, Bool, true, false, List, [], ◌∷◌, drop, Option, Some, None, refl, subst}
use Rattle.std.specs.Prelude.{if◌then◌else◌}
use Rattle.std.specs.Option.{option_map_or}
use Rattle.ll_grammar.specs.declared.stop.Place.{Place}
use Rattle.ll_grammar.specs.Tokens.{Tok}
use Rattle.ll_grammar.specs.Reading.{Read, Done, Fault, RanOut, ◌>>=◌, stopped, take_if, take_some}

abbrev pub Holds : {A : Type 0} → Read A → (A → List Tok → Type 0) → Type 0
Holds (Done x ts) P = P x ts
Holds (Fault r ts) P = Unit {0}
Holds RanOut P = Unit {0}

pub record OnDone {A : Type 0} (r : Read A) (P : A → List Tok → Type 0) : Type 0 where
  pub holds : Holds r P

pub on_done : {A : Type 0} {P : A → List Tok → Type 0} {x : A} {ts : List Tok} → P x ts → OnDone (Done x ts) P
on_done p = record { holds = p }

pub on_ran_out : {A : Type 0} {P : A → List Tok → Type 0} → OnDone RanOut P
on_ran_out = record { holds = tt }

pub on_then : {A B : Type 0} {P : A → List Tok → Type 0} {Q : B → List Tok → Type 0} (r : Read A) (f : A → List Tok → Read B)
    → OnDone r P → ((x : A) (ts : List Tok) → P x ts → OnDone (f x ts) Q) → OnDone (r >>= f) Q
on_then (Done x ts) f here more = more x ts here.holds
on_then (Fault r ts) f here more = record { holds = tt }
on_then RanOut f here more = record { holds = tt }

pub on_if : {A : Type 0} {P : A → List Tok → Type 0} (b : Bool) (r s : Read A) → (b ≡ true → OnDone r P) → (b ≡ false → OnDone s P) → OnDone (if b then r else s) P
on_if true r s yes_ other = yes_ refl
on_if false r s yes_ other = other refl

pub on_stopped : {A : Type 0} {P : A → List Tok → Type 0} (at : Place) (ts : List Tok) → OnDone (stopped {A = A} at ts) P
on_stopped at [] = record { holds = tt }
on_stopped at (t ∷ ts) = record { holds = tt }

pub on_take_if : {A : Type 0} {P : A → List Tok → Type 0} (b : Bool) (x : A) (at : Place) (ts : List Tok) → (b ≡ true → P x (drop 1 ts)) → OnDone (take_if b x at ts) P
on_take_if true x at ts is = record { holds = is refl }
on_take_if false x at ts is = on_stopped at ts

pub on_take_some : {A : Type 0} {P : A → List Tok → Type 0} (o : Option A) (at : Place) (ts : List Tok) → ((x : A) → o ≡ Some x → P x (drop 1 ts)) → OnDone (take_some o at ts) P
on_take_some (Some x) at ts is = record { holds = is x refl }
on_take_some None at ts is = on_stopped at ts

pub on_some : {A B : Type 0} {P : B → List Tok → Type 0} (o : Option A) (f : A → Read B) (r : Read B) → ((x : A) → o ≡ Some x → OnDone (f x) P) → OnDone r P → OnDone (option_map_or f o r) P
on_some (Some x) f r here other = here x refl
on_some None f r here other = other

pub when_done : {A : Type 0} {P : A → List Tok → Type 0} {r : Read A} {x : A} {ts : List Tok} → OnDone r P → r ≡ Done x ts → P x ts
when_done {A} {P} {r} {x} {ts} here e = subst (λ r. Holds r P) e here.holds

pub weaken : {A : Type 0} {P Q : A → List Tok → Type 0} {r : Read A} → OnDone r P → ((x : A) (ts : List Tok) → P x ts → Q x ts) → OnDone r Q
weaken {A} {P} {Q} {r} here more = go r here
  where
    go : (r : Read A) → OnDone r P → OnDone r Q
    go (Done x ts) h = record { holds = more x ts h.holds }
    go (Fault f ts) h = record { holds = tt }
    go RanOut h = record { holds = tt }
