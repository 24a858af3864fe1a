-- What bounds say after one more literal, and after changes are taken back.
use Rattle.std.proofs.Common.{◌≡◌, ◌⊎◌, ◌↔◌, ◌+◌, ◌*◌, ◌<◌, ◌≤◌, ℕ, ℤ, pos, negsuc, ◌+ℤ◌, ◌-ℤ◌, ◌≤ℤ◌, List, [], ◌∷◌, ◌++◌, length, get_or, set, refl, sym, ◌∙◌, ap, subst, inl, inr, ⊎_elim, append_assoc, length-append, arith}
use Rattle.std.proofs.lemmas.Int.{ints}
use Rattle.std.proofs.lemmas.Bool.{cases_eq}
use Rattle.std.proofs.lemmas.List.{append-nil, get_or-set_same, get_or-set_other, set-get_or, set-set, length-set}
use Rattle.mix_system.specs.declared.literal.Term.{Term}
use Rattle.mix_system.specs.declared.literal.Term.TheVariants.{Var, Row}
use Rattle.mix_system.specs.declared.literal.Side.{Side}
use Rattle.mix_system.specs.declared.literal.Side.TheVariants.{Le, Ge}
use Rattle.mix_system.specs.declared.literal.Lit.{Lit}
use Rattle.mix_system.specs.Lit.{IsWithin}
use Rattle.mix_system.specs.Bounds.{Entails}
use Rattle.box_check.specs.declared.bounds.Bounds.{Bounds}
use Rattle.box_check.specs.declared.bounds.Change.{Change}
use Rattle.box_check.specs.declared.bounds.End.{End}
use Rattle.box_check.specs.Bounds.{index_of, slot_of, no_end, SaysEnd, SaysEverywhere, SaysHere, Says, HasSlot, AreUpTo, restored, Extends, IsSame, opened, Tightens, TightensEverywhere, StaysHere, Stands, StandsEverywhere}

abbrev IsKnown : ℕ → Term → Type 0
IsKnown vars (Var var) = var < vars
IsKnown vars (Row row) = Unit {0}

known_from_HasSlot : (bounds : Bounds) (term : Term) → HasSlot bounds term → IsKnown bounds.vars term
known_from_HasSlot bounds (Var var) has = has.0
known_from_HasSlot bounds (Row row) has = tt

pub slot_within : (bounds : Bounds) (term : Term) (side : Side) → HasSlot bounds term → slot_of bounds.vars term side 1 < length bounds.ends.items
slot_within bounds (Var var) Le has = omega (arith, has.1)
slot_within bounds (Var var) Ge has = omega (arith, has.1)
slot_within bounds (Row row) Le has = omega (arith, has)
slot_within bounds (Row row) Ge has = omega (arith, has)

-- different terms and sides have different places
same_slot : (vars : ℕ) (a b : Term) (s t : Side) → IsKnown vars a → IsKnown vars b → (behind : ℕ) → slot_of vars a s behind ≡ slot_of vars b t behind → (a ≡ b) × (s ≡ t)
same_slot vars (Var a) (Var b) Le Le ka kb behind e = (ap Var (omega arith), refl)
same_slot vars (Var a) (Var b) Ge Ge ka kb behind e = (ap Var (omega arith), refl)
same_slot vars (Row a) (Row b) Le Le ka kb behind e = (ap Row (omega arith), refl)
same_slot vars (Row a) (Row b) Ge Ge ka kb behind e = (ap Row (omega arith), refl)
same_slot vars (Var a) (Var b) Le Ge ka kb behind e = absurd (omega arith)
same_slot vars (Var a) (Var b) Ge Le ka kb behind e = absurd (omega arith)
same_slot vars (Row a) (Row b) Le Ge ka kb behind e = absurd (omega arith)
same_slot vars (Row a) (Row b) Ge Le ka kb behind e = absurd (omega arith)
same_slot vars (Var a) (Row b) Le Le ka kb behind e = absurd (omega arith)
same_slot vars (Var a) (Row b) Le Ge ka kb behind e = absurd (omega arith)
same_slot vars (Var a) (Row b) Ge Le ka kb behind e = absurd (omega arith)
same_slot vars (Var a) (Row b) Ge Ge ka kb behind e = absurd (omega arith)
same_slot vars (Row a) (Var b) Le Le ka kb behind e = absurd (omega arith)
same_slot vars (Row a) (Var b) Le Ge ka kb behind e = absurd (omega arith)
same_slot vars (Row a) (Var b) Ge Le ka kb behind e = absurd (omega arith)
same_slot vars (Row a) (Var b) Ge Ge ka kb behind e = absurd (omega arith)

-- the two places of a side are others than those of any other side
places_apart : (vars : ℕ) (a b : Term) (s t : Side) (far near : ℕ) → far ≤ 1 → near ≤ 1 → (far ≡ near → ⊥) → slot_of vars a s far ≡ slot_of vars b t near → ⊥
places_apart vars a b s t far near few few_too apart e = apart (omega (arith, few, few_too, e))

-- of two whole numbers the first is at most the second, or at least one more
int_cases : (a b : ℤ) → (a ≤ℤ b) ⊎ ((b +ℤ pos 1) ≤ℤ a)
int_cases a b = go (b -ℤ a) refl
  where
    go : (d : ℤ) → (b -ℤ a) ≡ d → (a ≤ℤ b) ⊎ ((b +ℤ pos 1) ≤ℤ a)
    go (pos n) e = inl (omega (arith, ints, e))
    go (negsuc n) e = inr (omega (arith, ints, e))

-- a bound that doesn't say one literal and says another one on its side: the first is the stronger
weaker : (side : Side) (a b : ℤ) (level : ℕ) (end : End) → (SaysEnd side a level end → ⊥) → SaysEnd side b level end → IsWithin side b a
weaker Le a b level end not_a says_b = elim (int_cases end.bound a) [ inl low ↦ absurd (not_a (says_b.0, low)) | inr high ↦ omega (arith, ints, high, says_b.1) ]
weaker Ge a b level end not_a says_b = elim (int_cases a end.bound) [ inl low ↦ absurd (not_a (says_b.0, low)) | inr high ↦ omega (arith, ints, high, says_b.1) ]

stronger : (side : Side) (a b : ℤ) (level : ℕ) (end : End) → SaysEnd side a level end → IsWithin side b a → SaysEnd side b level end
stronger Le a b level end says_a within = (says_a.0, omega (arith, ints, says_a.1, within))
stronger Ge a b level end says_a within = (says_a.0, omega (arith, ints, says_a.1, within))

-- what is kept behind a term's place says a literal, as a bound of that level
abbrev SaysAt : ℕ → ℕ → Bounds → Lit → Type 0
SaysAt behind level bounds lit = SaysEnd lit.side lit.bound level (get_or bounds.ends.items (slot_of bounds.vars lit.term lit.side behind) no_end)

-- what is said already says all that it entails
at_entailed : (behind level : ℕ) (bounds : Bounds) (lit other : Lit) → Entails lit other → SaysAt behind level bounds lit → SaysAt behind level bounds other
at_entailed behind level bounds lit other entails says =
    let at_other : SaysEnd other.side lit.bound level (get_or bounds.ends.items (slot_of bounds.vars other.term other.side behind) no_end) =
    rw (← entails.same_term, ← entails.same_side) says in
    stronger other.side lit.bound other.bound level _ at_other entails.as_strong

entailed_everywhere : (bounds : Bounds) (lit other : Lit) → Entails lit other → SaysEverywhere bounds lit → SaysEverywhere bounds other
entailed_everywhere bounds lit other entails says = at_entailed 0 1 bounds lit other entails says

pub says_entailed : (bounds : Bounds) (lit other : Lit) → Entails lit other → Says bounds lit → Says bounds other
says_entailed bounds lit other entails says =
    ⊎_elim (λ h. inl (entailed_everywhere bounds lit other entails h)) (λ h. inr (at_entailed 1 bounds.level bounds lit other entails h)) says

pub Tightens_said : (bounds : Bounds) (lit : Lit) → Says bounds lit → Tightens lit bounds bounds
Tightens_said bounds lit says other has = (λ h. inr h, ⊎_elim (λ entails. says_entailed bounds lit other entails says) (λ h. h))

pub TightensEverywhere_said : (bounds : Bounds) (lit : Lit) → SaysEverywhere bounds lit → TightensEverywhere lit bounds bounds
TightensEverywhere_said bounds lit says other has = (λ h. inr h, ⊎_elim (λ entails. entailed_everywhere bounds lit other entails says) (λ h. h))

pub StaysHere_refl : (bounds : Bounds) → StaysHere bounds bounds
StaysHere_refl bounds = record { everywhere = λ other has. (λ h. h, λ h. h); up_to = λ h. h }

pub Extends_refl : (bounds : Bounds) → Extends bounds bounds
Extends_refl bounds = record { more = []; changes = sym (append-nil bounds.changes.items); ends = refl; vars = refl; level = refl }

-- a place was written: behind the place of a literal's term, for a level
module _ (old new : Bounds) (lit : Lit) (behind level slot : ℕ) (few : behind ≤ 1) (slot_is : slot ≡ slot_of old.vars lit.term lit.side behind) (has : HasSlot old lit.term) (vars : new.vars ≡ old.vars) (same_level : new.level ≡ old.level)
    (put : new.ends.items ≡ set old.ends.items slot (record { level = level; bound = lit.bound })) where
  abbrev end_of_lit : End
  end_of_lit = record { level = level; bound = lit.bound }

  here_within : slot_of old.vars lit.term lit.side behind < length old.ends.items
  here_within = let place = slot_within old lit.term lit.side has in omega (arith, place, few)

  written : new.ends.items ≡ set old.ends.items (slot_of old.vars lit.term lit.side behind) end_of_lit
  written = put ∙ ap (λ i. set old.ends.items i end_of_lit) slot_is

  end_here : (other : Lit) → slot_of old.vars other.term other.side behind ≡ slot_of old.vars lit.term lit.side behind → get_or new.ends.items (slot_of new.vars other.term other.side behind) no_end ≡ end_of_lit
  end_here other same =
      rw (written, vars, same) (get_or-set_same old.ends.items (slot_of old.vars lit.term lit.side behind) end_of_lit no_end here_within)

  end_elsewhere : (other : Lit) (far : ℕ) → (slot_of old.vars other.term other.side far ≡ slot_of old.vars lit.term lit.side behind → ⊥)
      → get_or new.ends.items (slot_of new.vars other.term other.side far) no_end ≡ get_or old.ends.items (slot_of old.vars other.term other.side far) no_end
  end_elsewhere other far apart =
      rw (written, vars) (get_or-set_other old.ends.items (slot_of old.vars lit.term lit.side behind) (slot_of old.vars other.term other.side far) end_of_lit no_end apart)

  -- what is said there
  at_written : (SaysAt behind level old lit → ⊥) → (other : Lit) → HasSlot old other.term → SaysAt behind level new other ↔ (Entails lit other ⊎ SaysAt behind level old other)
  at_written not_said other other_has = elim (cases_eq (slot_of old.vars other.term other.side behind) (slot_of old.vars lit.term lit.side behind)) [
    | inl same ↦
        let parts = same_slot old.vars other.term lit.term other.side lit.side (known_from_HasSlot old other.term other_has) (known_from_HasSlot old lit.term has) behind same in
        let here = end_here other same in (
          λ says. inl (record { same_term = sym parts.0; same_side = sym parts.1; as_strong = (rw here at says).1 }),
          ⊎_elim (λ entails. rw here (refl, entails.as_strong))
              (λ says. rw here (
              let not_here : SaysEnd other.side lit.bound level (get_or old.ends.items (slot_of old.vars other.term other.side behind) no_end) → ⊥ = rw (parts.0, parts.1) not_said in
              (refl, weaker other.side lit.bound other.bound level _ not_here says))),
        )
    | inr apart ↦
        let elsewhere = end_elsewhere other behind apart in (
          λ says. inr (rw elsewhere at says),
          ⊎_elim (λ entails. absurd (apart (rw (entails.same_term, entails.same_side) refl))) (λ says. rw elsewhere says),
        )
  ]

  -- what is said beside it
  at_others : (far other_level : ℕ) → far ≤ 1 → (far ≡ behind → ⊥) → (other : Lit) → SaysAt far other_level new other ↔ SaysAt far other_level old other
  at_others far other_level few_too apart other =
      let elsewhere = end_elsewhere other far (λ e. places_apart old.vars other.term lit.term other.side lit.side far behind few_too few apart e) in (
        λ says. rw elsewhere at says,
        λ says. rw elsewhere says,
      )

  -- taking the change back gives what was there
  pub Extends_written : (before : End) → new.changes.items ≡ old.changes.items ++ record { slot = slot; before = before } ∷ [] → before ≡ get_or old.ends.items slot before → Extends old new
  Extends_written before changed was = record {
    more = record { slot = slot; before = before } ∷ [];
    changes = changed;
    ends = ap (λ (es : List End). set es slot before) put ∙ set-set old.ends.items slot end_of_lit before ∙ ap (λ (end : End). set old.ends.items slot end) was ∙ set-get_or old.ends.items slot before;
    vars = vars;
    level = same_level;
  }

  pub AreUpTo_written : level ≤ old.level → AreUpTo old → AreUpTo new
  AreUpTo_written low kept = record {
    counted = rw same_level kept.counted;
    up_to = λ k. elim (cases_eq k slot) [
      | inl same ↦
          let within : slot < length old.ends.items = rw slot_is here_within in
          let here : get_or new.ends.items k no_end ≡ end_of_lit = rw (put, same) (get_or-set_same old.ends.items slot end_of_lit no_end within) in
          rw (here, same_level) low
      | inr apart ↦
          let there : get_or new.ends.items k no_end ≡ get_or old.ends.items k no_end = rw put (get_or-set_other old.ends.items slot k end_of_lit no_end apart) in
          rw (there, same_level) (kept.up_to k)
    ];
  }

-- a literal was written for the level in work
module _ (old new : Bounds) (lit : Lit) (slot : ℕ) (slot_is : slot ≡ slot_of old.vars lit.term lit.side 1) (has : HasSlot old lit.term) (vars : new.vars ≡ old.vars) (same_level : new.level ≡ old.level)
    (put : new.ends.items ≡ set old.ends.items slot (record { level = old.level; bound = lit.bound })) where
  stays_everywhere : (other : Lit) → SaysEverywhere new other ↔ SaysEverywhere old other
  stays_everywhere other = at_others old new lit 1 old.level slot (omega arith) slot_is has vars same_level put 0 1 (omega arith) (λ e. cc e) other

  said_here : (other : Lit) → SaysHere new other ↔ SaysAt 1 old.level new other
  said_here other = (λ h. rw same_level at h, λ h. rw same_level h)

  pub Tightens_here : (Says old lit → ⊥) → Tightens lit old new
  Tightens_here not_said other other_has =
      let everywhere = stays_everywhere other in
      let here = at_written old new lit 1 old.level slot (omega arith) slot_is has vars same_level put (λ h. not_said (inr h)) other other_has in
      let same = said_here other in (
        λ says. ⊎_elim (λ h. inr (inl (everywhere.0 h))) (λ h. ⊎_elim (λ e. inl e) (λ old_says. inr (inr old_says)) (here.0 (same.0 h))) says,
        ⊎_elim (λ e. inr (same.1 (here.1 (inl e)))) (λ says. ⊎_elim (λ h. inl (everywhere.1 h)) (λ h. inr (same.1 (here.1 (inr h)))) says),
      )

  pub StaysHere_written : StaysHere old new
  StaysHere_written = record {
    everywhere = λ other other_has. stays_everywhere other;
    up_to = AreUpTo_written old new lit 1 old.level slot (omega arith) slot_is has vars same_level put (omega arith);
  }

-- a literal was written for all levels
module _ (old new : Bounds) (lit : Lit) (slot : ℕ) (slot_is : slot ≡ slot_of old.vars lit.term lit.side 0) (has : HasSlot old lit.term) (vars : new.vars ≡ old.vars) (same_level : new.level ≡ old.level)
    (put : new.ends.items ≡ set old.ends.items slot (record { level = 1; bound = lit.bound })) (not_said : SaysEverywhere old lit → ⊥) where
  pub TightensEverywhere_written : TightensEverywhere lit old new
  TightensEverywhere_written other other_has = at_written old new lit 0 1 slot (omega arith) slot_is has vars same_level put not_said other other_has

  pub Tightens_everywhere : Tightens lit old new
  Tightens_everywhere other other_has =
      let everywhere = TightensEverywhere_written other other_has in
      let beside = at_others old new lit 0 1 slot (omega arith) slot_is has vars same_level put 1 old.level (omega arith) (λ e. cc e) other in
      let there : SaysHere new other ↔ SaysAt 1 old.level new other = (λ h. rw same_level at h, λ h. rw same_level h) in (
        λ says. ⊎_elim (λ h. ⊎_elim (λ e. inl e) (λ old_says. inr (inl old_says)) (everywhere.0 h)) (λ h. inr (inr (beside.0 (there.0 h)))) says,
        ⊎_elim (λ e. inl (everywhere.1 (inl e))) (λ says. ⊎_elim (λ h. inl (everywhere.1 (inr h))) (λ h. inr (there.1 (beside.1 h))) says),
      )

restored-append : (first later : List Change) (ends : List End) → restored (first ++ later) ends ≡ restored first (restored later ends)
restored-append [] later ends = refl
restored-append (change ∷ first) later ends = ap (λ (es : List End). set es change.slot change.before) (restored-append first later ends)

-- one change that was made before some bounds and is taken back
pub Extends_more : (old mid new : Bounds) → Extends old mid → Extends mid new → Extends old new
Extends_more old mid new first second = record {
  more = first.more ++ second.more;
  changes = second.changes ∙ ap (λ cs. cs ++ second.more) first.changes ∙ append_assoc old.changes.items first.more second.more;
  ends = restored-append first.more second.more new.ends.items ∙ ap (restored first.more) second.ends ∙ first.ends;
  vars = second.vars ∙ first.vars;
  level = second.level ∙ first.level;
}

length-restored : (changes : List Change) (ends : List End) → length (restored changes ends) ≡ length ends
length-restored [] ends = refl
length-restored (change ∷ changes) ends = length-set (restored changes ends) change.slot change.before ∙ length-restored changes ends

pub Extends-length : (old new : Bounds) → Extends old new → length new.ends.items ≡ length old.ends.items
Extends-length old new extends = sym (length-restored extends.more new.ends.items) ∙ ap (λ (es : List End). length es) extends.ends

-- the last change is taken back

split_more : {X : Type 0} (start more front : List X) (c : X) → start ++ more ≡ front ++ c ∷ [] → length start < length (front ++ c ∷ []) → (middle : List X) × (more ≡ middle ++ c ∷ []) × (front ≡ start ++ middle)
split_more [] more front c e h = (front, e, refl)
split_more (x ∷ start) more [] c e h = absurd (omega arith)
split_more {X} (x ∷ start) more (y ∷ front) c e h =
    let tails : start ++ more ≡ front ++ c ∷ [] = cc e in
    let heads : y ≡ x = cc e in
    let found = split_more start more front c tails (omega arith) in
    (found.0, found.1, ap {A = X} (λ z. z ∷ front) heads ∙ ap (λ (l : List X). x ∷ l) found.2)

pub Extends_pop : (start now new : Bounds) (change : Change) → Extends start now → length start.changes.items < length now.changes.items → now.changes.items ≡ new.changes.items ++ change ∷ []
    → new.ends.items ≡ set now.ends.items change.slot change.before → new.vars ≡ now.vars → new.level ≡ now.level → Extends start new
Extends_pop start now new change h longer popped written vars level =
    let both : start.changes.items ++ h.more ≡ new.changes.items ++ change ∷ [] = sym h.changes ∙ popped in
    let parts = split_more start.changes.items h.more new.changes.items change both (rw (← popped) longer) in record {
      more = parts.0;
      changes = parts.2;
      ends = ap (restored parts.0) written ∙ sym (restored-append parts.0 (change ∷ []) now.ends.items) ∙ ap (λ (cs : List Change). restored cs now.ends.items) (sym parts.1) ∙ h.ends;
      vars = vars ∙ h.vars;
      level = level ∙ h.level;
    }

same_at_end : (start now : Bounds) (more : List Change) → now.changes.items ≡ start.changes.items ++ more → restored more now.ends.items ≡ start.ends.items → now.vars ≡ start.vars → now.level ≡ start.level
    → length now.changes.items ≤ length start.changes.items → IsSame start now
same_at_end start now [] changes ends vars level short = record { changes = changes ∙ append-nil start.changes.items; ends = ends; vars = vars; level = level }
same_at_end start now (c ∷ more) changes ends vars level short =
    absurd (omega (arith, ap (λ (cs : List Change). length cs) changes, length-append start.changes.items (c ∷ more)))

pub Extends_end : (start now : Bounds) → Extends start now → length now.changes.items ≤ length start.changes.items → IsSame start now
Extends_end start now h short = same_at_end start now h.more h.changes h.ends h.vars h.level short

-- bounds that are the same

pub same_extends : (old now : Bounds) → IsSame old now → Extends old now
same_extends old now same = record {
  more = [];
  changes = same.changes ∙ sym (append-nil old.changes.items);
  ends = same.ends;
  vars = same.vars;
  level = same.level;
}

pub AreUpTo-later : (old now : Bounds) → IsSame old now → AreUpTo old → AreUpTo now
AreUpTo-later old now same kept = record {
  counted = rw same.level kept.counted;
  up_to = λ k. rw (same.ends, same.level) (kept.up_to k);
}

-- a level within: nothing is said there but on all levels

pub AreUpTo-opened : (bounds : Bounds) → AreUpTo bounds → AreUpTo (opened bounds)
AreUpTo-opened bounds kept = record {
  counted = omega (arith, kept.counted);
  up_to = λ k. let low = kept.up_to k in omega (arith, low);
}

pub Stands-opened : (bounds : Bounds) (box : List Lit) → AreUpTo bounds → StandsEverywhere bounds box → Stands (opened bounds) box
Stands-opened bounds box kept stands lit has =
    let both = stands lit has in
    let low = kept.up_to (slot_of bounds.vars lit.term lit.side 1) in (
      λ says. ⊎_elim both.0 (λ h. absurd (omega (arith, low, h.0))) says,
      λ within. inl (both.1 within),
    )

pub close_back : (start mid new : Bounds) → IsSame (opened start) mid → new.changes.items ≡ mid.changes.items → new.ends.items ≡ mid.ends.items → new.vars ≡ mid.vars → new.level + 1 ≡ mid.level → IsSame start new
close_back start mid new same changes ends vars level = record {
  changes = changes ∙ same.changes;
  ends = ends ∙ same.ends;
  vars = vars ∙ same.vars;
  level = let was = same.level in omega (arith, level, was);
}
