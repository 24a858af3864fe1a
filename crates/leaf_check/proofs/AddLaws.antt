-- What was added so far and what is left come to the whole, in sums and in steps.
use Rattle.std.proofs.Common.{◌≡◌, ◌<◌, ◌+◌, ℕ, zero, suc, ℤ, pos, ◌+ℤ◌, ◌*ℤ◌, List, [], ◌∷◌, ◌++◌, length, drop, get_or, set, refl, sym, ◌∙◌, ap, ap₂, subst, inl, inr, ⊎_elim, append_assoc, eq-eqb, ne_eqb, arith, All}
use Rattle.std.proofs.lemmas.Int.{ints}
use Rattle.std.proofs.lemmas.Bool.{cases_eq}
use Rattle.std.proofs.lemmas.List.{append-nil, drop_more, get_or-set_same, get_or-set_other, length-set}
use Rattle.std.proofs.lemmas.List.Elements.{All-nil, All-append}
use Rattle.std.proofs.Math.IntN.{*ℤ-zero}
use Rattle.wx_num.specs.declared.excess.Excess.{Excess}
use Rattle.mix_system.specs.declared.literal.Side.{Side}
use Rattle.mix_system.specs.declared.literal.Side.TheVariants.{Le, Ge}
use Rattle.mix_system.specs.declared.row.Part.{Part}
use Rattle.mix_system.specs.declared.farkas.FarkasPart.{FarkasPart}
use Rattle.mix_system.specs.Sum.{int_sum_by}
use Rattle.mix_system.specs.Row.{number_at}
use Rattle.mix_system.specs.FarkasSum.{parts_of, coeff_on, by_side, weight, bound_weight, term_steps, leaf_steps_from}
use Rattle.mix_system.proofs.ProductLaws.{*ℤ-add}
use Rattle.proof_term.specs.Steps.{StaysWithin}
use Rattle.leaf_check.specs.Steps.{product_steps, IsFirstExcess}
use Rattle.leaf_check.specs.Sums.{Names, NamesAny, Changes, Adds, AddsAll}
use Rattle.leaf_check.proofs.StepLaws.{first_behind, first_in_front}

by_side-add : (side : Side) (by a b : ℤ) → by_side side (by *ℤ (a +ℤ b)) ≡ by_side side (by *ℤ a) +ℤ by_side side (by *ℤ b)
by_side-add Le by a b = *ℤ-add a b by
by_side-add Ge by a b = omega (arith, ints, *ℤ-add a b by)

by_side-zero : (side : Side) (by : ℤ) → by_side side (by *ℤ pos 0) ≡ pos 0
by_side-zero Le by = *ℤ-zero by
by_side-zero Ge by = omega (arith, ints, *ℤ-zero by)

term_steps-same : (side : Side) (by : ℤ) (f g : ℕ → ℤ) → ((v : ℕ) → f v ≡ g v) → (parts : List Part) → term_steps side by f parts ≡ term_steps side by g parts
term_steps-same side by f g same [] = refl
term_steps-same side by f g same (part ∷ parts) =
    ap₂ (λ (sum : ℤ) (rest : List Excess). product_steps side sum by part.coeff ++ rest) (same part.var)
    (term_steps-same side by (λ v. f v +ℤ by_side side (by *ℤ coeff_on v part)) (λ v. g v +ℤ by_side side (by *ℤ coeff_on v part))
    (λ v. ap (λ (n : ℤ). n +ℤ by_side side (by *ℤ coeff_on v part)) (same v)) parts)

leaf_steps-same : (rows : List (List Part)) (f g : ℕ → ℤ) → ((v : ℕ) → f v ≡ g v) → (constant : ℤ) (parts : List FarkasPart) → leaf_steps_from rows f constant parts ≡ leaf_steps_from rows g constant parts
leaf_steps-same rows f g same constant [] = refl
leaf_steps-same rows f g same constant (part ∷ parts) =
    ap₂ (λ (front rest : List Excess). front ++ (product_steps part.lit.side constant part.by part.lit.bound ++ rest))
    (term_steps-same part.lit.side part.by f g same (parts_of rows part.lit.term))
    (leaf_steps-same rows (λ v. f v +ℤ weight rows v part) (λ v. g v +ℤ weight rows v part) (λ v. ap (λ (n : ℤ). n +ℤ weight rows v part) (same v)) (constant +ℤ bound_weight part) parts)

pub Names_at : (parts : List Part) (i : ℕ) (d : Part) → i < length parts → Names parts (get_or parts i d).var
Names_at [] i d within = absurd (omega arith)
Names_at (part ∷ parts) zero d within = inl refl
Names_at (part ∷ parts) (suc i) d within = inr (Names_at parts i d (omega arith))

pub NamesAny_at : (rows : List (List Part)) (parts : List FarkasPart) (i : ℕ) (d : FarkasPart) → i < length parts → (v : ℕ) → Names (parts_of rows (get_or parts i d).lit.term) v → NamesAny rows parts v
NamesAny_at rows [] i d within v names = absurd (omega arith)
NamesAny_at rows (part ∷ parts) zero d within v names = inl names
NamesAny_at rows (part ∷ parts) (suc i) d within v names = inr (NamesAny_at rows parts i d (omega arith) v names)

pub Changes_none : (named : ℕ → Type 0) (old : List ℤ) → Changes named old old
Changes_none named old = record { one_each = refl; others_stay = λ v. inl refl }

pub Changes_more : (named piece : ℕ → Type 0) (old now new : List ℤ) → Changes named old now → Changes piece now new → ((v : ℕ) → piece v → named v) → Changes named old new
Changes_more named piece old now new first second among = record {
  one_each = second.one_each ∙ first.one_each;
  others_stay = λ v. ⊎_elim (λ same. ⊎_elim (λ before. inl (same ∙ before)) (λ is. inr is) (first.others_stay v)) (λ is. inr (among v is)) (second.others_stay v);
}

-- one part

abbrev pub with_part : Side → ℤ → Part → List ℤ → List ℤ
with_part side by part now = set now part.var (number_at now part.var +ℤ by_side side (by *ℤ part.coeff))

module _ (side : Side) (by : ℤ) (part : Part) (now : List ℤ) (within : part.var < length now) where
  added_at : (v : ℕ) → number_at (with_part side by part now) v ≡ number_at now v +ℤ by_side side (by *ℤ coeff_on v part)
  added_at v = elim (cases_eq v part.var) [
    | inl same ↦
        let own : coeff_on v part ≡ part.coeff = rw (eq-eqb part.var v (sym same)) refl in
        rw (own, same) (get_or-set_same now part.var (number_at now part.var +ℤ by_side side (by *ℤ part.coeff)) (pos 0) within)
    | inr other ↦
        let none : coeff_on v part ≡ pos 0 = rw (ne_eqb part.var v (λ e. other (sym e))) refl in
        let stays = get_or-set_other now part.var v (number_at now part.var +ℤ by_side side (by *ℤ part.coeff)) (pos 0) other in
        let zero_here : by_side side (by *ℤ coeff_on v part) ≡ pos 0 = ap (λ (n : ℤ). by_side side (by *ℤ n)) none ∙ by_side-zero side by in
        omega (arith, ints, stays, zero_here)
  ]

  Changes_one : Changes (λ v. v ≡ part.var) now (with_part side by part now)
  Changes_one = record {
    one_each = length-set now part.var (number_at now part.var +ℤ by_side side (by *ℤ part.coeff));
    others_stay = λ v. ⊎_elim (λ same. inr same) (λ other. inl (get_or-set_other now part.var v (number_at now part.var +ℤ by_side side (by *ℤ part.coeff)) (pos 0) other)) (cases_eq v part.var);
  }

-- some parts were added, and some are left
pub record PartsAdded (side : Side) (by : ℤ) (all left : List Part) (old now : List ℤ) : Type 0 where
  pub done : List Excess
  pub split : term_steps side by (number_at old) all ≡ done ++ term_steps side by (number_at now) left
  pub stay : All StaysWithin done
  pub sums : (v : ℕ) → number_at now v +ℤ by_side side (by *ℤ int_sum_by (coeff_on v) left) ≡ number_at old v +ℤ by_side side (by *ℤ int_sum_by (coeff_on v) all)
  pub changes : Changes (Names all) old now

pub parts_start : (side : Side) (by : ℤ) (all : List Part) (old : List ℤ) → PartsAdded side by all all old old
parts_start side by all old = record { done = []; split = refl; stay = All-nil StaysWithin; sums = λ v. refl; changes = Changes_none (Names all) old }

module _ (side : Side) (by : ℤ) (all rest : List Part) (part : Part) (old now : List ℤ) (h : PartsAdded side by all (part ∷ rest) old now) where
  pub parts_first : (excess : Excess) → IsFirstExcess (product_steps side (number_at now part.var) by part.coeff) excess → IsFirstExcess (term_steps side by (number_at old) all) excess
  parts_first excess first =
      rw h.split (first_behind h.done (term_steps side by (number_at now) (part ∷ rest)) excess h.stay
      (first_in_front (product_steps side (number_at now part.var) by part.coeff) (term_steps side by (λ v. number_at now v +ℤ by_side side (by *ℤ coeff_on v part)) rest) excess first))

  pub parts_next : (new : List ℤ) → part.var < length now → new ≡ with_part side by part now → All StaysWithin (product_steps side (number_at now part.var) by part.coeff)
      → Names all part.var → PartsAdded side by all rest old new
  parts_next new within is stay named =
      let here = product_steps side (number_at now part.var) by part.coeff in
      let added : (v : ℕ) → number_at new v ≡ number_at now v +ℤ by_side side (by *ℤ coeff_on v part) = λ v. ap (λ (ns : List ℤ). number_at ns v) is ∙ added_at side by part now within v in
      let later = term_steps-same side by (number_at new) (λ v. number_at now v +ℤ by_side side (by *ℤ coeff_on v part)) added rest in
      record {
        done = h.done ++ here;
        split = h.split ∙ ap (λ (steps : List Excess). h.done ++ (here ++ steps)) (sym later) ∙ sym (append_assoc h.done here (term_steps side by (number_at new) rest));
        stay = All-append StaysWithin h.done here h.stay stay;
        sums = λ v.
            let sum = by_side-add side by (coeff_on v part) (int_sum_by (coeff_on v) rest) in
            omega (arith, ints, added v, sum, h.sums v);
        changes = Changes_more (Names all) (λ v. v ≡ part.var) old now new h.changes
            (subst (λ (ns : List ℤ). Changes (λ v. v ≡ part.var) now ns) (sym is) (Changes_one side by part now within))
            (λ v same. subst (λ (w : ℕ). Names all w) (sym same) named);
      }

module _ (side : Side) (by : ℤ) (all : List Part) (old now : List ℤ) (h : PartsAdded side by all [] old now) where
  pub parts_stay : All StaysWithin (term_steps side by (number_at old) all)
  parts_stay = rw (h.split, append-nil h.done) h.stay

  pub parts_sums : Adds side by all old now
  parts_sums v = omega (arith, ints, by_side-zero side by, h.sums v)

-- some literals were added, and some are left
pub record LiteralsAdded (rows : List (List Part)) (all left : List FarkasPart) (old now : List ℤ) (constant : ℤ) : Type 0 where
  pub done : List Excess
  pub split : leaf_steps_from rows (number_at old) (pos 0) all ≡ done ++ leaf_steps_from rows (number_at now) constant left
  pub stay : All StaysWithin done
  pub sums : (v : ℕ) → number_at now v +ℤ int_sum_by (weight rows v) left ≡ number_at old v +ℤ int_sum_by (weight rows v) all
  pub bounds : constant +ℤ int_sum_by bound_weight left ≡ int_sum_by bound_weight all
  pub changes : Changes (NamesAny rows all) old now

pub literals_start : (rows : List (List Part)) (all : List FarkasPart) (old : List ℤ) → LiteralsAdded rows all all old old (pos 0)
literals_start rows all old = record { done = []; split = refl; stay = All-nil StaysWithin; sums = λ v. refl; bounds = omega (arith, ints); changes = Changes_none (NamesAny rows all) old }

module _ (rows : List (List Part)) (all rest : List FarkasPart) (part : FarkasPart) (old now : List ℤ) (constant : ℤ) (h : LiteralsAdded rows all (part ∷ rest) old now constant) where
  pub literals_first_term : (excess : Excess) → IsFirstExcess (term_steps part.lit.side part.by (number_at now) (parts_of rows part.lit.term)) excess
      → IsFirstExcess (leaf_steps_from rows (number_at old) (pos 0) all) excess
  literals_first_term excess first =
      rw h.split (first_behind h.done (leaf_steps_from rows (number_at now) constant (part ∷ rest)) excess h.stay
      (first_in_front (term_steps part.lit.side part.by (number_at now) (parts_of rows part.lit.term))
      (product_steps part.lit.side constant part.by part.lit.bound ++ leaf_steps_from rows (λ v. number_at now v +ℤ weight rows v part) (constant +ℤ bound_weight part) rest) excess first))

  pub literals_first_bound : All StaysWithin (term_steps part.lit.side part.by (number_at now) (parts_of rows part.lit.term))
      → (excess : Excess) → IsFirstExcess (product_steps part.lit.side constant part.by part.lit.bound) excess
      → IsFirstExcess (leaf_steps_from rows (number_at old) (pos 0) all) excess
  literals_first_bound stay excess first =
      let behind = leaf_steps_from rows (λ v. number_at now v +ℤ weight rows v part) (constant +ℤ bound_weight part) rest in
      rw h.split (first_behind h.done (leaf_steps_from rows (number_at now) constant (part ∷ rest)) excess h.stay
      (first_behind (term_steps part.lit.side part.by (number_at now) (parts_of rows part.lit.term)) (product_steps part.lit.side constant part.by part.lit.bound ++ behind) excess stay
      (first_in_front (product_steps part.lit.side constant part.by part.lit.bound) behind excess first)))

  pub literals_next : (new : List ℤ) (sum : ℤ) → All StaysWithin (term_steps part.lit.side part.by (number_at now) (parts_of rows part.lit.term))
      → Adds part.lit.side part.by (parts_of rows part.lit.term) now new → Changes (Names (parts_of rows part.lit.term)) now new
      → All StaysWithin (product_steps part.lit.side constant part.by part.lit.bound) → sum ≡ constant +ℤ by_side part.lit.side (part.by *ℤ part.lit.bound)
      → ((v : ℕ) → Names (parts_of rows part.lit.term) v → NamesAny rows all v) → LiteralsAdded rows all rest old new sum
  literals_next new sum stay adds changes bound_stay sum_is named =
      let terms = term_steps part.lit.side part.by (number_at now) (parts_of rows part.lit.term) in
      let bound = product_steps part.lit.side constant part.by part.lit.bound in
      let behind = leaf_steps-same rows (number_at new) (λ v. number_at now v +ℤ weight rows v part) adds sum rest in
      let here : leaf_steps_from rows (λ v. number_at now v +ℤ weight rows v part) (constant +ℤ bound_weight part) rest ≡ leaf_steps_from rows (number_at new) sum rest =
      ap (λ (c : ℤ). leaf_steps_from rows (λ v. number_at now v +ℤ weight rows v part) c rest) (sym sum_is) ∙ sym behind in
      record {
        done = h.done ++ (terms ++ bound);
        split = h.split
            ∙ ap (λ (steps : List Excess). h.done ++ (terms ++ (bound ++ steps))) here
            ∙ ap (λ (steps : List Excess). h.done ++ steps) (sym (append_assoc terms bound (leaf_steps_from rows (number_at new) sum rest)))
            ∙ sym (append_assoc h.done (terms ++ bound) (leaf_steps_from rows (number_at new) sum rest));
        stay = All-append StaysWithin h.done (terms ++ bound) h.stay (All-append StaysWithin terms bound stay bound_stay);
        sums = λ v. let more : number_at new v ≡ number_at now v +ℤ weight rows v part = adds v in omega (arith, ints, more, h.sums v);
        bounds = let more : sum ≡ constant +ℤ bound_weight part = sum_is in omega (arith, ints, more, h.bounds);
        changes = Changes_more (NamesAny rows all) (Names (parts_of rows part.lit.term)) old now new h.changes changes named;
      }

module _ (rows : List (List Part)) (all : List FarkasPart) (old now : List ℤ) (constant : ℤ) (h : LiteralsAdded rows all [] old now constant) where
  pub literals_stay : All StaysWithin (leaf_steps_from rows (number_at old) (pos 0) all)
  literals_stay = rw (h.split, append-nil h.done) h.stay

  pub literals_sums : AddsAll rows all old now
  literals_sums v = omega (arith, ints, h.sums v)

  pub literals_constant : constant ≡ int_sum_by bound_weight all
  literals_constant = omega (arith, ints, h.bounds)

-- the literal that a loop reads
pub front_is : (parts : List FarkasPart) (i : ℕ) (part : FarkasPart) → i < length parts → part ≡ get_or parts i part → drop i parts ≡ part ∷ drop (i + 1) parts
front_is parts i part within is = drop_more parts i part within ∙ ap (λ (p : FarkasPart). p ∷ drop (i + 1) parts) (sym is)

pub NamesAny_item : (rows : List (List Part)) (parts : List FarkasPart) (i : ℕ) (part : FarkasPart) → i < length parts → part ≡ get_or parts i part → (v : ℕ) → Names (parts_of rows part.lit.term) v → NamesAny rows parts v
NamesAny_item rows parts i part within is v names = NamesAny_at rows parts i part within v (subst (λ (p : FarkasPart). Names (parts_of rows p.lit.term) v) is names)
