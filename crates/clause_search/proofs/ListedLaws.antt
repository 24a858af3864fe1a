-- What lists of watchers keep when one is put, replaced or taken out.
use Rattle.std.proofs.Common.{◌≡◌, ◌≢◌, ℕ, ◌+◌, ◌-◌, ◌<◌, List, [], ◌∷◌, ◌++◌, length, get_or, set, map, refl, sym, ap, ◌∙◌, subst, ⊎_elim, arith}
use Rattle.std.specs.Prelude.{Contains}
use Rattle.std.proofs.lemmas.Bool.{cases_lt, cases_eq}
use Rattle.std.proofs.lemmas.List.{get_or-set_same, get_or-set_other, length-set, get_or_default, get_or-map, length-map, map-set, set-get_or}
use Rattle.std.proofs.lemmas.List.Elements.{Contains-push, Contains-append_left}
use Rattle.clause_search.specs.declared.watch_lists.Watcher.{Watcher}
use Rattle.clause_search.specs.Watched.{list_at}
use Rattle.clause_search.specs.Visited.{Adds, KeepsBut, Takes, Replaces}

-- one list changes
pub changed_here : (lists : List (List Watcher)) (list : ℕ) (new : List Watcher) → list < length lists → list_at (set lists list new) list ≡ new
changed_here lists list new h = get_or-set_same lists list new [] h

pub changed_other : (lists : List (List Watcher)) (list other : ℕ) (new : List Watcher) → other ≢ list → list_at (set lists list new) other ≡ list_at lists other
changed_other lists list other new apart = get_or-set_other lists list other new [] apart

kept_changed : (lists : List (List Watcher)) (list : ℕ) (new : List Watcher) (watcher : Watcher) → list < length lists → (Contains (list_at lists list) watcher → Contains new watcher) → (other : ℕ) → Contains (list_at lists other) watcher → Contains (list_at (set lists list new) other) watcher
kept_changed lists list new watcher h keeps other has =
    ⊎_elim
    (λ (e : other ≡ list). subst (λ n. Contains (list_at (set lists list new) n) watcher) (sym e)
    (subst (λ xs. Contains xs watcher) (sym (changed_here lists list new h)) (keeps (subst (λ n. Contains (list_at lists n) watcher) e has))))
    (λ (e : other ≡ list → ⊥). subst (λ xs. Contains xs watcher) (sym (changed_other lists list other new e)) has)
    (cases_eq other list)

pub adds_put : (lists : List (List Watcher)) (list : ℕ) (watcher : Watcher) → list < length lists → Adds lists (set lists list (list_at lists list ++ watcher ∷ []))
adds_put lists list watcher h =
    let new = list_at lists list ++ watcher ∷ [] in
    record {
      same_length = length-set lists list new;
      kept = λ other it has. kept_changed lists list new it h (λ a. Contains-append_left (list_at lists list) (watcher ∷ []) it a) other has;
    }

pub put_there : (lists : List (List Watcher)) (list : ℕ) (watcher : Watcher) → list < length lists → Contains (list_at (set lists list (list_at lists list ++ watcher ∷ [])) list) watcher
put_there lists list watcher h =
    subst (λ xs. Contains xs watcher) (sym (changed_here lists list (list_at lists list ++ watcher ∷ []) h)) (Contains-push (list_at lists list) watcher)

pub adds_nothing : (lists : List (List Watcher)) → Adds lists lists
adds_nothing lists = record { same_length = refl; kept = λ list it has. has }

pub adds_both : (old mid new : List (List Watcher)) → Adds old mid → Adds mid new → Adds old new
adds_both old mid new a b = record {
  same_length = b.same_length ∙ a.same_length;
  kept = λ list it has. b.kept list it (a.kept list it has);
}

pub adds_keeps : (lost : Watcher) (old mid new : List (List Watcher)) → Adds old mid → KeepsBut lost mid new → KeepsBut lost old new
adds_keeps lost old mid new a b = record {
  same_length = b.same_length ∙ a.same_length;
  kept = λ list it apart has. b.kept list it apart (a.kept list it has);
}

-- a watcher is written in another one's place
kept_set : (xs : List Watcher) (at : ℕ) (lost new it : Watcher) → at < length xs → lost ≡ get_or xs at lost → it ≢ lost → Contains xs it → Contains (set xs at new) it
kept_set xs at lost new it h is apart has =
    let k = has.0 in
    let within : k < length xs = has.1 in
    let count = length-set xs at new in
    ⊎_elim
    (λ (e : k ≡ at). absurd (apart (sym has.2 ∙ ap (λ n. get_or xs n it) e ∙ get_or_default xs at it lost h ∙ sym is)))
    (λ (e : k ≡ at → ⊥). (k, omega arith, get_or-set_other xs at k new it e ∙ has.2))
    (cases_eq k at)

pub replaces : (lists : List (List Watcher)) (list at : ℕ) (watcher : Watcher) → list < length lists → at < length (list_at lists list) → Replaces list at watcher lists (set lists list (set (list_at lists list) at watcher))
replaces lists list at watcher h within =
    let xs = list_at lists list in
    let new = set xs at watcher in
    let here = changed_here lists list new h in
    record {
      keeps = λ lost is. record {
        same_length = length-set lists list new;
        kept = λ other it apart has. kept_changed lists list new it h (λ a. kept_set xs at lost watcher it within is apart a) other has;
      };
      as_many = ap length here ∙ length-set xs at watcher;
      before = λ k d below. ap (λ ys. get_or ys k d) here ∙ get_or-set_other xs at k watcher d (λ e. omega arith);
      there = λ d. ap (λ ys. get_or ys at d) here ∙ get_or-set_same xs at watcher d within;
    }

-- the last watcher comes to the place of one that is taken out
pub record IsTaken (at : ℕ) (old new : List Watcher) : Type 0 where
  pub fewer : length new + 1 ≡ length old
  pub last : (d : Watcher) → at + 1 < length old → get_or new at d ≡ get_or old (length old - 1) d
  pub others : (k : ℕ) (d : Watcher) → k ≢ at → k + 1 < length old → get_or new k d ≡ get_or old k d

kept_taken : (at : ℕ) (old new : List Watcher) (lost it : Watcher) → at < length old → IsTaken at old new → lost ≡ get_or old at lost → it ≢ lost → Contains old it → Contains new it
kept_taken at old new lost it h taken is apart has =
    let k = has.0 in
    let within : k < length old = has.1 in
    let fewer = taken.fewer in
    ⊎_elim
    (λ (e : k ≡ at). absurd (apart (sym has.2 ∙ ap (λ n. get_or old n it) e ∙ get_or_default old at it lost h ∙ sym is)))
    (λ (e : k ≡ at → ⊥). ⊎_elim
    (λ (below : k + 1 < length old). (k, omega arith, taken.others k it e below ∙ has.2))
    (λ past. let last : k ≡ length old - 1 = omega arith in
    let more : at + 1 < length old = omega (arith, e) in
    (at, omega arith, taken.last it more ∙ ap (λ n. get_or old n it) (sym last) ∙ has.2))
    (cases_lt (k + 1) (length old)))
    (cases_eq k at)

pub takes : (lists : List (List Watcher)) (list at : ℕ) (new : List Watcher) → list < length lists → at < length (list_at lists list) → IsTaken at (list_at lists list) new → Takes list at lists (set lists list new)
takes lists list at new h within taken =
    let xs = list_at lists list in
    let here = changed_here lists list new h in
    record {
      keeps = λ lost is. record {
        same_length = length-set lists list new;
        kept = λ other it apart has. kept_changed lists list new it h (λ a. kept_taken at xs new lost it within taken is apart a) other has;
      };
      fewer = ap (λ ys. length ys + 1) here ∙ taken.fewer;
      before = λ k d below. ap (λ ys. get_or ys k d) here ∙ taken.others k d (λ e. omega arith) (omega arith);
    }

pub takes_after : (list at : ℕ) (old mid new : List (List Watcher)) → Adds old mid → list_at mid list ≡ list_at old list → Takes list at mid new → Takes list at old new
takes_after list at old mid new adds same t = record {
  keeps = λ lost is. adds_keeps lost old mid new adds (t.keeps lost (subst (λ xs. lost ≡ get_or xs at lost) (sym same) is));
  fewer = t.fewer ∙ ap length same;
  before = λ k d below. t.before k d below ∙ ap (λ xs. get_or xs k d) same;
}

pub taken_by : (at : ℕ) (old new : List Watcher) (old_length new_length : ℕ) → old_length ≡ length old → new_length ≡ length new → new_length + 1 ≡ old_length
    → (((d : Watcher) → at + 1 < old_length → get_or new at d ≡ get_or old (old_length - 1) d) × ((k : ℕ) (d : Watcher) → k ≢ at → k + 1 < old_length → get_or new k d ≡ get_or old k d)) → IsTaken at old new
taken_by at old new old_length new_length same same_new fewer both = record {
  fewer = omega arith;
  last = λ d h. both.0 d (omega arith) ∙ ap (λ n. get_or old (n - 1) d) same;
  others = λ k d apart h. both.1 k d apart (omega arith);
}

-- the lists that a list of vectors means
pub here_is : {V : Type 0} (f : V → List Watcher) (inside : List V) (lists : List (List Watcher)) (list : ℕ) (v : V) → map f inside ≡ lists → list < length lists → v ≡ get_or inside list v → f v ≡ list_at lists list
here_is f inside lists list v view h is =
    let count = ap length view in
    let within : list < length inside = omega (arith, length-map inside f) in
    ap f is ∙ sym (get_or-map f inside list v [] within) ∙ ap (λ xs. get_or xs list []) view

pub changed_view : {V : Type 0} (f : V → List Watcher) (inside : List V) (lists : List (List Watcher)) (list : ℕ) (v : V) → map f inside ≡ lists → map f (set inside list v) ≡ set lists list (f v)
changed_view f inside lists list v view = map-set f inside list v ∙ ap (λ xs. set xs list (f v)) view

pub same_list : (lists : List (List Watcher)) (list : ℕ) (new : List Watcher) → new ≡ list_at lists list → set lists list new ≡ lists
same_list lists list new e = ap (λ xs. set lists list xs) e ∙ set-get_or lists list []
