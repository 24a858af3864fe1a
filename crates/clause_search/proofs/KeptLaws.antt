-- The literals that are kept, and their levels.
use Rattle.std.proofs.Common.{◌≡◌, ℕ, ◌+◌, ◌-◌, ◌<◌, ◌≤◌, List, [], ◌∷◌, ◌++◌, length, get_or, All, refl, sym, ap, ◌∙◌, subst, inl, inr, ⊎_elim, arith}
use Rattle.std.specs.Prelude.{Contains}
use Rattle.std.proofs.lemmas.Bool.{cases_lt}
use Rattle.std.proofs.lemmas.List.{map-append, get_or_past, get_or_default}
use Rattle.std.proofs.lemmas.List.Elements.{All-push, All-weaker, Contains-append_left, Contains-push}
use Rattle.std.proofs.lemmas.List.Quantifiers.{all_pairs_push}
use Rattle.mix_system.specs.declared.literal.Lit.{Lit}
use Rattle.mix_system.specs.Lit.{negation}
use Rattle.bound_trail.specs.Trail.{Trail, level_end}
use Rattle.clause_search.specs.declared.marks.Mark.{Mark}
use Rattle.clause_search.specs.Marks.{lit_at, IsSeen}
use Rattle.clause_search.specs.Runs.{AreKept, IsLevelOf, IsBackLevel}

abbrev IsKept : List Mark → ℕ → ℕ → Type 0
IsKept marks at place = IsSeen marks place × (place < at)

pub kept_none : (trail : Trail) (marks : List Mark) → AreKept trail marks 0 []
kept_none trail marks = record {
  places = [];
  lits_are = refl;
  rising = λ i j d less h. absurd (omega arith);
  seen = λ k d h. absurd (omega arith);
  all = λ place below. absurd (omega arith);
}

pub kept_skip : (trail : Trail) (marks : List Mark) (at : ℕ) (lits : List Lit) → (¬ IsSeen marks at) → AreKept trail marks at lits → AreKept trail marks (at + 1) lits
kept_skip trail marks at lits not_seen kept = record {
  places = kept.places;
  lits_are = kept.lits_are;
  rising = kept.rising;
  seen = All-weaker (IsKept marks at) (IsKept marks (at + 1)) (λ place h. (h.0, omega (arith, h.1))) kept.places kept.seen;
  all = λ place below is. ⊎_elim
      (λ before. kept.all place before is)
      (λ past. let e : place ≡ at = omega arith in absurd (not_seen (subst (IsSeen marks) e is)))
      (cases_lt place at);
}

pub kept_push : (trail : Trail) (marks : List Mark) (at : ℕ) (lits : List Lit) → IsSeen marks at → AreKept trail marks at lits → AreKept trail marks (at + 1) (lits ++ negation (lit_at trail at) ∷ [])
kept_push trail marks at lits is kept =
    let f : ℕ → Lit = λ place. negation (lit_at trail place) in
    let weaker : All (IsKept marks (at + 1)) kept.places = All-weaker (IsKept marks at) (IsKept marks (at + 1)) (λ place h. (h.0, omega (arith, h.1))) kept.places kept.seen in
    record {
      places = kept.places ++ at ∷ [];
      lits_are = ap (λ xs. xs ++ f at ∷ []) kept.lits_are ∙ sym (map-append f kept.places (at ∷ []));
      rising = all_pairs_push (λ place later. place < later) kept.places at kept.rising (λ k d h. (kept.seen k d h).1);
      seen = All-push (IsKept marks (at + 1)) kept.places at weaker (is, omega arith);
      all = λ place below seen. ⊎_elim
          (λ before. Contains-append_left kept.places (at ∷ []) place (kept.all place before seen))
          (λ past. let e : at ≡ place = omega arith in subst (Contains (kept.places ++ at ∷ [])) e (Contains-push kept.places at))
          (cases_lt place at);
    }

pub kept_end : (trail : Trail) (marks : List Mark) (at : ℕ) (lits : List Lit) → at ≡ length trail.lits → AreKept trail marks at lits → AreKept trail marks (length trail.lits) lits
kept_end trail marks at lits e kept = subst (λ n. AreKept trail marks n lits) e kept

-- levels

pub level_found : (trail : Trail) (at level place : ℕ) → level < length trail.levels → get_or trail.levels level place ≡ place → at < place → ((earlier : ℕ) → earlier < level → level_end trail earlier ≤ at) → IsLevelOf trail at level
level_found trail at level place h is behind before = record {
  present = omega arith;
  ends = omega (arith, get_or_default trail.levels level (length trail.lits) place h, is);
  begins = before;
}

pub level_more : (trail : Trail) (at level place : ℕ) → level < length trail.levels → get_or trail.levels level place ≡ place → place ≤ at → ((earlier : ℕ) → earlier < level → level_end trail earlier ≤ at) → (earlier : ℕ) → earlier < level + 1 → level_end trail earlier ≤ at
level_more trail at level place h is not_behind before earlier below =
    ⊎_elim
    (λ less. before earlier less)
    (λ past. let e : level ≡ earlier = omega arith in
    let here : level_end trail level ≤ at = omega (arith, get_or_default trail.levels level (length trail.lits) place h, is) in
    subst (λ n. level_end trail n ≤ at) e here)
    (cases_lt earlier level)

pub level_last : (trail : Trail) (at level : ℕ) → at < length trail.lits → level ≡ length trail.levels → ((earlier : ℕ) → earlier < level → level_end trail earlier ≤ at) → IsLevelOf trail at level
level_last trail at level h e before = record {
  present = omega arith;
  ends = omega (arith, get_or_past trail.levels level (length trail.lits) (omega arith));
  begins = before;
}

-- the last place that is seen before a start

pub back_skip : (marks : List Mark) (at start : ℕ) → 0 < at → (¬ IsSeen marks (at - 1)) → ((k : ℕ) → at ≤ k → k < start → ¬ IsSeen marks k) → (k : ℕ) → at - 1 ≤ k → k < start → ¬ IsSeen marks k
back_skip marks at start some not_seen before k from h seen =
    ⊎_elim
    (λ below. let e : k ≡ at - 1 = omega arith in not_seen (subst (IsSeen marks) e seen))
    (λ past. before k past h seen)
    (cases_lt k at)

pub back_found : (trail : Trail) (marks : List Mark) (at start level : ℕ) → 0 < at → at ≤ start → IsSeen marks (at - 1) → ((k : ℕ) → at ≤ k → k < start → ¬ IsSeen marks k) → IsLevelOf trail (at - 1) level → IsBackLevel trail marks start level
back_found trail marks at start level some within seen before is =
    inr (
      at - 1,
      record {
        below = omega arith;
        seen = seen;
        last = λ k h here. ⊎_elim (λ below. omega arith) (λ past. absurd (before k past h here)) (cases_lt k at);
      },
      is,
    )

pub back_none : (trail : Trail) (marks : List Mark) (start : ℕ) → ((k : ℕ) → 0 ≤ k → k < start → ¬ IsSeen marks k) → IsBackLevel trail marks start 0
back_none trail marks start before = inl (λ at h. before at (omega arith) h, refl)
