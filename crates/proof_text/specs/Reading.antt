-- What parts of a line give together.
use Rattle.std.specs.Prelude.{List, [], ◌∷◌, ◌++◌, Bool, true, false}
use Rattle.proof_text.specs.declared.reading.Reading.{Reading}
use Rattle.proof_text.specs.declared.reading.Reading.TheVariants.{Malformed, Unfit, Fits}

-- the form of both is looked at before any number
abbrev pub both : {A B : Type 0} → Reading A → Reading B → Reading (A × B)
both Malformed second = Malformed
both Unfit Malformed = Malformed
both Unfit Unfit = Unfit
both Unfit (Fits y) = Unfit
both (Fits x) Malformed = Malformed
both (Fits x) Unfit = Unfit
both (Fits x) (Fits y) = Fits (x, y)

abbrev pub mapped : {A B : Type 0} → (A → B) → Reading A → Reading B
mapped f Malformed = Malformed
mapped f Unfit = Unfit
mapped f (Fits x) = Fits (f x)

-- what one part gives, before what further parts of its kind give
abbrev pub in_front : {A : Type 0} → Reading A → Reading (List A) → Reading (List A)
in_front first rest = mapped (λ p. p.0 ∷ p.1) (both first rest)

-- one item alone
abbrev pub single : {A : Type 0} → Reading A → Reading (List A)
single item = mapped (λ x. x ∷ []) item

-- items, and further items behind them
abbrev pub joined : {A : Type 0} → Reading (List A) → Reading (List A) → Reading (List A)
joined first rest = mapped (λ p. p.0 ++ p.1) (both first rest)

-- items that were read, where all of them fit
abbrev pub gathered : {A : Type 0} → Bool → List A → Reading (List A)
gathered true items = Fits items
gathered false items = Unfit

-- what holds of the value of a part that fits
abbrev pub IfFits : {A : Type 0} → Reading A → (A → Type 0) → Type 0
IfFits Malformed P = Unit {0}
IfFits Unfit P = Unit {0}
IfFits (Fits x) P = P x
