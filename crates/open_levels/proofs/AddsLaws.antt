-- Bounds that more literals are put to say what a box with these literals says.
use Rattle.std.proofs.Common.{◌≡◌, ◌⊎◌, ◌↔◌, ℕ, List, [], ◌∷◌, ◌++◌, Result, Ok, Err, OnOk, refl, sym, ◌∙◌, subst, inl, inr, ⊎_elim, arith}
use Rattle.mix_system.specs.declared.literal.Term.{Term}
use Rattle.mix_system.specs.declared.literal.Term.TheVariants.{Var, Row}
use Rattle.mix_system.specs.declared.literal.Lit.{Lit}
use Rattle.mix_system.specs.System.{Exists}
use Rattle.mix_system.specs.Bounds.{IsIn}
use Rattle.mix_system.proofs.BoundLaws.{IsIn-none, IsIn-append_left, IsIn-append_right, IsIn-append_cases}
use Rattle.box_check.specs.declared.bounds.Bounds.{Bounds}
use Rattle.box_check.specs.Bounds.{IsOver, HasSlot, Stands, StandsEverywhere, Extends, Tightens, TightensEverywhere}
use Rattle.box_check.proofs.BoundsLaws.{Extends_refl, Extends_more, Extends-length}
use Rattle.box_check.proofs.HintsLaws.{Stands-put, StandsEverywhere-put}
use Rattle.open_levels.specs.Adds.{AddsTo, Adds, AddsEverywhere}

abbrev pub SaySame : List Lit → List Lit → Type 0
SaySame box other = (lit : Lit) → IsIn box lit ↔ IsIn other lit

pub Stands-same : (bounds : Bounds) (box other : List Lit) → SaySame box other → Stands bounds box → Stands bounds other
Stands-same bounds box other same stands lit has =
    (λ says. (same lit).0 ((stands lit has).0 says), λ within. (stands lit has).1 ((same lit).1 within))

pub StandsEverywhere-same : (bounds : Bounds) (box other : List Lit) → SaySame box other → StandsEverywhere bounds box → StandsEverywhere bounds other
StandsEverywhere-same bounds box other same stands lit has =
    (λ says. (same lit).0 ((stands lit has).0 says), λ within. (stands lit has).1 ((same lit).1 within))

pub has_slot : (vars rows : ℕ) (bounds : Bounds) (term : Term) → IsOver vars rows bounds → Exists vars rows term → HasSlot bounds term
has_slot vars rows bounds (Var var) over exists = (omega (arith, over.vars_are, exists), omega (arith, over.slots, exists))
has_slot vars rows bounds (Row row) over exists = omega (arith, over.vars_are, over.slots, exists)

pub over_later : (vars rows : ℕ) (old new : Bounds) → IsOver vars rows old → Extends old new → IsOver vars rows new
over_later vars rows old new over extends = record { vars_are = extends.vars ∙ over.vars_are; slots = Extends-length old new extends ∙ over.slots }

pub adds_one : (old new : Bounds) (lit : Lit) → Tightens lit old new → Extends old new → Adds (lit ∷ []) old new
adds_one old new lit tightens extends = record { extends = extends; stands = λ box stands. Stands-put old new lit box stands tightens extends }

pub adds_one_everywhere : (old new : Bounds) (lit : Lit) → TightensEverywhere lit old new → Extends old new → AddsEverywhere (lit ∷ []) old new
adds_one_everywhere old new lit tightens extends =
    record { extends = extends; stands = λ box stands. StandsEverywhere-put old new lit box stands tightens extends }

-- what is in force and what is left to be put are the whole
abbrev Covers : (done left whole : List Lit) → Type 0
Covers done left whole = (lit : Lit) → (IsIn done lit ⊎ IsIn left lit) ↔ IsIn whole lit

pub record Adding (StandFor : Bounds → List Lit → Type 0) (whole left : List Lit) (old now : Bounds) : Type 0 where
  pub extends : Extends old now
  pub stands : (box : List Lit) → StandFor old box → (done : List Lit) × StandFor now done × Covers done left (whole ++ box)

-- the same for each word by which bounds stand for a box, if it tells no boxes apart that say the same
module _ (StandFor : Bounds → List Lit → Type 0) (same_for : (bounds : Bounds) (box other : List Lit) → SaySame box other → StandFor bounds box → StandFor bounds other) where
  pub adds_none : (old : Bounds) → AddsTo StandFor [] old old
  adds_none old = record { extends = Extends_refl old; stands = λ box stands. stands }

  pub adds_as : (lits other : List Lit) (old new : Bounds) → SaySame lits other → AddsTo StandFor lits old new → AddsTo StandFor other old new
  adds_as lits other old new same adds = record {
    extends = adds.extends;
    stands = λ box stands. same_for new (lits ++ box) (other ++ box) (λ lit. (
      λ within. ⊎_elim (λ here. IsIn-append_left other box lit ((same lit).0 here)) (λ there. IsIn-append_right other box lit there) (IsIn-append_cases lits box lit within),
      λ within. ⊎_elim (λ here. IsIn-append_left lits box lit ((same lit).1 here)) (λ there. IsIn-append_right lits box lit there) (IsIn-append_cases other box lit within),
    )) (adds.stands box stands);
  }

  pub adding_start : (whole : List Lit) (old : Bounds) → Adding StandFor whole whole old old
  adding_start whole old = record {
    extends = Extends_refl old;
    stands = λ box stands. (
      box,
      stands,
      λ lit. (
        λ either. ⊎_elim (λ within. IsIn-append_right whole box lit within) (λ within. IsIn-append_left whole box lit within) either,
        λ within. ⊎_elim (λ here. inr here) (λ there. inl there) (IsIn-append_cases whole box lit within),
      ),
    );
  }

  pub adding_next : (whole left piece rest : List Lit) (old now new : Bounds) → left ≡ piece ++ rest → Adding StandFor whole left old now → AddsTo StandFor piece now new → Adding StandFor whole rest old new
  adding_next whole left piece rest old now new is h adds = record {
    extends = Extends_more old now new h.extends adds.extends;
    stands = λ box stands.
        let found = h.stands box stands in
        let back : (lit : Lit) → IsIn (piece ++ rest) lit → IsIn left lit = λ lit within. subst (λ (lits : List Lit). IsIn lits lit) (sym is) within in
        let parts : (lit : Lit) → IsIn left lit → IsIn (piece ++ rest) lit = λ lit within. subst (λ (lits : List Lit). IsIn lits lit) is within in (
          piece ++ found.0,
          adds.stands found.0 found.1,
          λ lit. (
            λ either. (found.2 lit).0 (⊎_elim
                (λ within. ⊎_elim (λ here. inr (back lit (IsIn-append_left piece rest lit here))) (λ there. inl there) (IsIn-append_cases piece found.0 lit within))
                (λ within. inr (back lit (IsIn-append_right piece rest lit within))) either),
            λ within. ⊎_elim (λ done. inl (IsIn-append_right piece found.0 lit done))
                (λ is_left. ⊎_elim (λ here. inl (IsIn-append_left piece found.0 lit here)) (λ there. inr there) (IsIn-append_cases piece rest lit (parts lit is_left)))
                ((found.2 lit).1 within),
          ),
        );
  }

  pub adding_end : (whole left : List Lit) (old now : Bounds) → left ≡ [] → Adding StandFor whole left old now → AddsTo StandFor whole old now
  adding_end whole left old now is h = record {
    extends = h.extends;
    stands = λ box stands.
        let found = h.stands box stands in
        same_for now found.0 (whole ++ box) (λ lit. (
          λ within. (found.2 lit).0 (inl within),
          λ within. ⊎_elim (λ done. done) (λ is_left. absurd (IsIn-none lit (subst (λ (lits : List Lit). IsIn lits lit) is is_left))) ((found.2 lit).1 within),
        )) found.1;
  }

  pub adds_two : (a b : Lit) (old mid new : Bounds) → AddsTo StandFor (a ∷ []) old mid → AddsTo StandFor (b ∷ []) mid new → AddsTo StandFor (a ∷ b ∷ []) old new
  adds_two a b old mid new first second =
      adding_end (a ∷ b ∷ []) [] old new refl
      (adding_next (a ∷ b ∷ []) (b ∷ []) (b ∷ []) [] old mid new refl (adding_next (a ∷ b ∷ []) (a ∷ b ∷ []) (a ∷ []) (b ∷ []) old old mid refl (adding_start (a ∷ b ∷ []) old) first) second)

-- what holds where a call answered Ok
pub on_ok : {T E A B : Type 0} (result : Result T E) → (A → B) → OnOk result A → OnOk result B
on_ok (Ok value) gives a = gives a
on_ok (Err error) gives a = tt

pub on_ok_always : {T E B : Type 0} (result : Result T E) → B → OnOk result B
on_ok_always (Ok value) b = b
on_ok_always (Err error) b = tt
