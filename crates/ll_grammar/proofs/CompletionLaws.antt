-- Tokens at which no fault stands can be completed: how a completion of a reading follows from its parts.
use Rattle.std.proofs.Common.{◌≡◌, ◌<◌, ◌≤◌, ℕ, suc, Bool, true, false, List, [], ◌∷◌, ◌++◌, length, drop, Option, Some, None, refl, sym, ap, ◌∙◌, subst, arith, append_assoc, length-append}
use Rattle.std.specs.Prelude.{if◌then◌else◌}
use Rattle.std.specs.Option.{option_map_or}
use Rattle.ll_token.specs.declared.token.TokenKind.{TokenKind}
use Rattle.ll_grammar.specs.declared.stop.Place.{Place}
use Rattle.ll_grammar.specs.Tokens.{Tok}
use Rattle.ll_grammar.specs.Reading.{Read, Done, Fault, RanOut, ◌>>=◌, stopped, take_if, take_some}
use Rattle.ll_grammar.proofs.DoneLaws.{OnDone, when_done}
use Rattle.ll_grammar.proofs.EarlyLaws.{IsEarly, Early, Looks}

-- a token of this line that begins no line without a meaning
abbrev pub token : ℕ → TokenKind → List ℕ → Tok
token n kind text = record { kind = kind; text = text; line = n; debug = false }

-- no token stands in this line
abbrev pub Older : ℕ → List Tok → Type 0
Older n [] = Unit {0}
Older n (t ∷ ts) = (t.line ≡ n → ⊥) × Older n ts

pub older_behind : (n : ℕ) (front rest : List Tok) → Older n (front ++ rest) → Older n rest
older_behind n [] rest old = old
older_behind n (t ∷ front) rest old = older_behind n front rest old.1

-- the tokens ended before the reading found a fault, or left any
abbrev pub Ends : {A : Type 0} → Read A → Type 0
Ends (Done x []) = Unit {0}
Ends (Done x (t ∷ a)) = ⊥
Ends (Fault r a) = ⊥
Ends RanOut = Unit {0}

-- tokens that complete a reading, whatever of this kind follows
pub record Finish {A : Type 0} (X : List Tok → Read A) (P : A → Type 0) (ts : List Tok) (C : List Tok → Type 0) : Type 0 where
  pub more : List Tok
  pub value : A
  pub fits : P value
  pub reads : (k : List Tok) → C k → X (ts ++ (more ++ k)) ≡ Done value k

-- each list of tokens, not empty and not too long, is completed
pub record Completes {A : Type 0} (n m : ℕ) (X : List Tok → Read A) (P : A → Type 0) (C : List Tok → Type 0) : Type 0 where
  pub finish : (t : Tok) (ts : List Tok) → length ts < m → Older n (t ∷ ts) → Ends (X (t ∷ ts)) → Finish X P (t ∷ ts) C

-- tokens that are read from the first on, and begin so
pub record Starts {A : Type 0} (X : List Tok → Read A) (P : A → Type 0) (C S : List Tok → Type 0) : Type 0 where
  pub more : List Tok
  pub value : A
  pub fits : P value
  pub reads : (k : List Tok) → C k → X (more ++ k) ≡ Done value k
  pub begins : (k : List Tok) → C k → S (more ++ k)

-- what begins with this token
abbrev pub FirstIs : Tok → List Tok → Type 0
FirstIs v k = (a : List Tok) × (k ≡ v ∷ a)

abbrev pub Any : List Tok → Type 0
Any k = Unit {0}

pub starts_weak : {A : Type 0} {X : List Tok → Read A} {P : A → Type 0} {C S T : List Tok → Type 0} → Starts X P C S → ((k : List Tok) → S k → T k) → Starts X P C T
starts_weak s weak = record { more = s.more; value = s.value; fits = s.fits; reads = s.reads; begins = λ k c. weak (s.more ++ k) (s.begins k c) }

-- ---- from parts

module _ {A B : Type 0} (X : List Tok → Read A) (f : A → List Tok → Read B) (P : A → Type 0) (Q : B → Type 0) (C D : List Tok → Type 0) where
  abbrev both_of : List Tok → Read B
  both_of l = X l >>= f

  starts_both : {S : List Tok → Type 0} → Starts X P C S → ((x : A) → P x → Starts (f x) Q D C) → Starts both_of Q D S
  starts_both {S} s more =
      let t = more s.value s.fits in
      record {
        more = s.more ++ t.more;
        value = t.value;
        fits = t.fits;
        reads = λ k d. ap both_of (append_assoc s.more t.more k) ∙ ap (λ r. r >>= f) (s.reads (t.more ++ k) (t.begins k d)) ∙ t.reads k d;
        begins = λ k d. subst S (sym (append_assoc s.more t.more k)) (s.begins (t.more ++ k) (t.begins k d));
      }

  finish_first : (ts : List Tok) → Finish X P ts C → ((x : A) → P x → Starts (f x) Q D C) → Finish both_of Q ts D
  finish_first ts w more =
      let t = more w.value w.fits in
      record {
        more = w.more ++ t.more;
        value = t.value;
        fits = t.fits;
        reads = λ k d. ap (λ (l : List Tok). both_of (ts ++ l)) (append_assoc w.more t.more k) ∙ ap (λ r. r >>= f) (w.reads (t.more ++ k) (t.begins k d)) ∙ t.reads k d;
      }

  pub completes_both : (n m m2 : ℕ) (R : A → Type 0) → ((ts : List Tok) → OnDone (X ts) (λ x a. R x × (length ts ≤ m → length a ≤ m2))) → IsEarly X → Completes n m X P C → ((x : A) → R x → Completes n m2 (f x) Q D) → ((x : A) → P x → Starts (f x) Q D C)
      → Completes n m both_of Q D
  completes_both n m m2 R sound early first next starts = record { finish = λ t ts few old ends. go (t ∷ ts) (omega (arith, few)) old (X (t ∷ ts)) refl (early.early (t ∷ ts)) (λ e. first.finish t ts few old e) ends }
    where
      go : (ts : List Tok) → length ts ≤ m → Older n ts → (r : Read A) → X ts ≡ r → Early X ts r → (Ends (X ts) → Finish X P ts C) → Ends (r >>= f) → Finish both_of Q ts D
      go ts few old (Done x []) e early first ends = finish_first ts (first (subst Ends (sym e) tt)) starts
      go ts few old (Done x (t ∷ rest)) e (stands, (front, is, same)) first ends =
          let p = when_done (sound ts) e in
          let w = (next x p.0).finish t rest (omega (arith, p.1 few)) (older_behind n front (t ∷ rest) (subst (Older n) is old)) ends in
          record {
            more = w.more;
            value = w.value;
            fits = w.fits;
            reads = λ k d.
                ap (λ (l : List Tok). both_of (l ++ (w.more ++ k))) is ∙ ap both_of (append_assoc front (t ∷ rest) (w.more ++ k)) ∙ ap (λ r. r >>= f) (same (rest ++ (w.more ++ k))) ∙ w.reads k d;
          }
      go ts few old (Fault r a) e early first ends = absurd ends
      go ts few old RanOut e early first ends = finish_first ts (first (subst Ends (sym e) tt)) starts

pub starts_then : {A B : Type 0} {P : A → Type 0} {Q : B → Type 0} {C D S : List Tok → Type 0} (X : List Tok → Read A) (f : A → List Tok → Read B)
    → Starts X P C S → ((x : A) → P x → Starts (f x) Q D C) → Starts (λ ts. X ts >>= f) Q D S
starts_then {A} {B} {P} {Q} {C} {D} {S} X f s more = starts_both X f P Q C D s more

-- ---- choices

pub completes_if : {A : Type 0} {n m : ℕ} {P : A → Type 0} {C : List Tok → Type 0} (b : List Tok → Bool) (r s : List Tok → Read A) → Looks b → Completes n m r P C → Completes n m s P C → Completes n m (λ ts. if b ts then r ts else s ts) P C
completes_if {A} {n} {m} {P} {C} b r s looks first other = record { finish = λ t ts few old ends. go t ts few old (b (t ∷ ts)) refl ends }
  where
    go : (t : Tok) (ts : List Tok) → length ts < m → Older n (t ∷ ts) → (test : Bool) → b (t ∷ ts) ≡ test → Ends (if test then r (t ∷ ts) else s (t ∷ ts)) → Finish (λ ts. if b ts then r ts else s ts) P (t ∷ ts) C
    go t ts few old true e ends =
        let w = first.finish t ts few old ends in
        record { more = w.more; value = w.value; fits = w.fits; reads = λ k c. ap (λ b. if b then r (t ∷ (ts ++ (w.more ++ k))) else s (t ∷ (ts ++ (w.more ++ k)))) (looks t (ts ++ (w.more ++ k)) ts ∙ e) ∙ w.reads k c }
    go t ts few old false e ends =
        let w = other.finish t ts few old ends in
        record { more = w.more; value = w.value; fits = w.fits; reads = λ k c. ap (λ b. if b then r (t ∷ (ts ++ (w.more ++ k))) else s (t ∷ (ts ++ (w.more ++ k)))) (looks t (ts ++ (w.more ++ k)) ts ∙ e) ∙ w.reads k c }

pub completes_some : {A B : Type 0} {n m : ℕ} {P : B → Type 0} {C : List Tok → Type 0} (o : List Tok → Option A) (f : A → List Tok → Read B) (r : List Tok → Read B) → Looks o → ((x : A) → Completes n m (f x) P C) → Completes n m r P C
    → Completes n m (λ ts. option_map_or (λ x. f x ts) (o ts) (r ts)) P C
completes_some {A} {B} {n} {m} {P} {C} o f r looks some other = record { finish = λ t ts few old ends. go t ts few old (o (t ∷ ts)) refl ends }
  where
    go : (t : Tok) (ts : List Tok) → length ts < m → Older n (t ∷ ts) → (test : Option A) → o (t ∷ ts) ≡ test → Ends (option_map_or (λ x. f x (t ∷ ts)) test (r (t ∷ ts))) → Finish (λ ts. option_map_or (λ x. f x ts) (o ts) (r ts)) P (t ∷ ts) C
    go t ts few old (Some x) e ends =
        let w = (some x).finish t ts few old ends in
        record { more = w.more; value = w.value; fits = w.fits; reads = λ k c. ap (λ o. option_map_or (λ x. f x (t ∷ (ts ++ (w.more ++ k)))) o (r (t ∷ (ts ++ (w.more ++ k))))) (looks t (ts ++ (w.more ++ k)) ts ∙ e) ∙ w.reads k c }
    go t ts few old None e ends =
        let w = other.finish t ts few old ends in
        record { more = w.more; value = w.value; fits = w.fits; reads = λ k c. ap (λ o. option_map_or (λ x. f x (t ∷ (ts ++ (w.more ++ k)))) o (r (t ∷ (ts ++ (w.more ++ k))))) (looks t (ts ++ (w.more ++ k)) ts ∙ e) ∙ w.reads k c }

pub completes_stopped : {A : Type 0} {n m : ℕ} {P : A → Type 0} {C : List Tok → Type 0} (at : Place) → Completes n m (λ ts. stopped {A = A} at ts) P C
completes_stopped at = record { finish = λ t ts few old ends. absurd ends }

pub completes_done : {A : Type 0} {n m : ℕ} {P : A → Type 0} {C : List Tok → Type 0} (x : A) → Completes n m (λ ts. Done x ts) P C
completes_done x = record { finish = λ t ts few old ends. absurd ends }

pub starts_done : {A : Type 0} {P : A → Type 0} {C : List Tok → Type 0} (x : A) → P x → Starts (λ ts. Done x ts) P C C
starts_done x p = record { more = []; value = x; fits = p; reads = λ k c. refl; begins = λ k c. c }

pub completes_taken : {A : Type 0} {n m : ℕ} {P : A → Type 0} {C : List Tok → Type 0} (v : List Tok → A) → Looks v → ((t : Tok) → P (v (t ∷ []))) → Completes n m (λ ts. Done (v ts) (drop 1 ts)) P C
completes_taken {A} {n} {m} {P} {C} v looks fits = record { finish = λ t ts few old ends. go t ts ends }
  where
    go : (t : Tok) (ts : List Tok) → Ends (Done (v (t ∷ ts)) ts) → Finish (λ ts. Done (v ts) (drop 1 ts)) P (t ∷ ts) C
    go t [] ends = record { more = []; value = v (t ∷ []); fits = fits t; reads = λ k c. ap (λ x. Done x k) (looks t k []) }
    go t (u ∷ ts) ends = absurd ends

pub completes_behind : {A : Type 0} {n m : ℕ} {P : A → Type 0} {C S : List Tok → Type 0} (r : List Tok → Read A) → Completes n m r P C → Starts r P C S → Completes n m (λ ts. r (drop 1 ts)) P C
completes_behind {A} {n} {m} {P} {C} {S} r some starts = record { finish = λ t ts few old ends. go t ts few old ends }
  where
    go : (t : Tok) (ts : List Tok) → length ts < m → Older n (t ∷ ts) → Ends (r ts) → Finish (λ ts. r (drop 1 ts)) P (t ∷ ts) C
    go t [] few old ends = record { more = starts.more; value = starts.value; fits = starts.fits; reads = λ k c. starts.reads k c }
    go t (u ∷ ts) few old ends = let w = some.finish u ts (omega (arith, few)) old.1 ends in record { more = w.more; value = w.value; fits = w.fits; reads = λ k c. w.reads k c }

pub completes_take_if : {A : Type 0} {n m : ℕ} {P : A → Type 0} {C : List Tok → Type 0} (b : List Tok → Bool) (v : List Tok → A) (at : Place) → Looks b → Looks v → ((t : Tok) → P (v (t ∷ []))) → Completes n m (λ ts. take_if (b ts) (v ts) at ts) P C
completes_take_if b v at looks values fits = completes_if b (λ ts. Done (v ts) (drop 1 ts)) (λ ts. stopped at ts) looks (completes_taken v values fits) (completes_stopped at)

pub completes_take_some : {A : Type 0} {n m : ℕ} {P : A → Type 0} {C : List Tok → Type 0} (o : List Tok → Option A) (at : Place) → Looks o → ((t : Tok) (x : A) → o (t ∷ []) ≡ Some x → P x) → Completes n m (λ ts. take_some (o ts) at ts) P C
completes_take_some {A} {n} {m} {P} {C} o at looks fits = record { finish = λ t ts few old ends. go t ts (o (t ∷ ts)) refl ends }
  where
    go : (t : Tok) (ts : List Tok) (test : Option A) → o (t ∷ ts) ≡ test → Ends (take_some test at (t ∷ ts)) → Finish (λ ts. take_some (o ts) at ts) P (t ∷ ts) C
    go t [] (Some x) e ends = record { more = []; value = x; fits = fits t x e; reads = λ k c. ap (λ o. take_some o at (t ∷ k)) (looks t k [] ∙ e) }
    go t (u ∷ ts) (Some x) e ends = absurd ends
    go t ts None e ends = absurd ends

-- what is equal
pub completes_same : {A : Type 0} {n m : ℕ} {P : A → Type 0} {C : List Tok → Type 0} (X Y : List Tok → Read A) → ((ts : List Tok) → X ts ≡ Y ts) → Completes n m Y P C → Completes n m X P C
completes_same {A} {n} {m} {P} {C} X Y same some = record {
  finish = λ t ts few old ends.
      let w = some.finish t ts few old (subst Ends (same (t ∷ ts)) ends) in
      record { more = w.more; value = w.value; fits = w.fits; reads = λ k c. same (t ∷ (ts ++ (w.more ++ k))) ∙ w.reads k c };
}

pub completes_weak : {A : Type 0} {n m : ℕ} {P : A → Type 0} {C D : List Tok → Type 0} (X : List Tok → Read A) → Completes n m X P C → ((k : List Tok) → D k → C k) → Completes n m X P D
completes_weak X some weak = record {
  finish = λ t ts few old ends.
      let w = some.finish t ts few old ends in record { more = w.more; value = w.value; fits = w.fits; reads = λ k d. w.reads k (weak k d) };
}

-- ---- both at once

pub record Comp {A : Type 0} (n : ℕ) (X : List Tok → Read A) (P : A → Type 0) (C S : List Tok → Type 0) : Type 0 where
  pub completes : (m : ℕ) → Completes n m X P C
  pub starts : Starts X P C S

abbrev pub Always : {A : Type 0} → A → Type 0
Always x = Unit {0}

pub comp_weak : {A : Type 0} {n : ℕ} {X : List Tok → Read A} {P : A → Type 0} {C S T : List Tok → Type 0} → Comp n X P C S → ((k : List Tok) → S k → T k) → Comp n X P C T
comp_weak c weak = record { completes = c.completes; starts = starts_weak c.starts weak }

pub and_done : {A : Type 0} {P Q : A → List Tok → Type 0} (r : Read A) → OnDone r P → OnDone r Q → OnDone r (λ x a. P x a × Q x a)
and_done (Done x a) p q = record { holds = (p.holds, q.holds) }
and_done (Fault r a) p q = record { holds = tt }
and_done RanOut p q = record { holds = tt }

pub always_done : {A : Type 0} (r : Read A) → OnDone r (λ x a. Always x)
always_done (Done x a) = record { holds = tt }
always_done (Fault r a) = record { holds = tt }
always_done RanOut = record { holds = tt }

pub shrinks : {A : Type 0} (X : List Tok → Read A) (ts : List Tok) (m : ℕ) (r : Read A) → Early X ts r → OnDone r (λ x a. length ts ≤ m → length a ≤ m)
shrinks X ts m (Done x []) e = record { holds = λ few. omega arith }
shrinks X ts m (Done x (t ∷ rest)) (stands, (front, is, same)) = record { holds = λ few. omega (arith, few, ap length is, length-append front (t ∷ rest)) }
shrinks X ts m (Fault r a) e = record { holds = tt }
shrinks X ts m RanOut e = record { holds = tt }

pub seq : {A B : Type 0} {n : ℕ} {P : A → Type 0} {Q : B → Type 0} {C D S : List Tok → Type 0} (X : List Tok → Read A) (f : A → List Tok → Read B) → ((ts : List Tok) → OnDone (X ts) (λ x _. P x)) → IsEarly X → Comp n X P C S
    → ((x : A) → P x → Comp n (f x) Q D C) → Comp n (λ ts. X ts >>= f) Q D S
seq {A} {B} {n} {P} {Q} {C} {D} {S} X f sound early c more = record {
  completes = λ m. completes_both X f P Q C D n m m P (λ ts. and_done (X ts) (sound ts) (shrinks X ts m (X ts) (early.early ts))) early (c.completes m) (λ x p. (more x p).completes m) (λ x p. (more x p).starts);
  starts = starts_then X f c.starts (λ x p. (more x p).starts);
}

-- where anything may follow the first, and nothing is asked of its value
pub seq_any : {A B : Type 0} {n : ℕ} {Q : B → Type 0} {D S T : List Tok → Type 0} (X : List Tok → Read A) (f : A → List Tok → Read B) → IsEarly X → Comp n X Always Any S → ((x : A) → Comp n (f x) Q D T) → Comp n (λ ts. X ts >>= f) Q D S
seq_any X f early c more = seq X f (λ ts. always_done (X ts)) early c (λ x _. comp_weak (more x) (λ k _. tt))

pub comp_done : {A : Type 0} {n : ℕ} {P : A → Type 0} {C : List Tok → Type 0} (x : A) → P x → Comp n (λ ts. Done x ts) P C C
comp_done x p = record { completes = λ m. completes_done x; starts = starts_done x p }

pub comp_take_if : {A : Type 0} {n : ℕ} {P : A → Type 0} {C : List Tok → Type 0} (b : List Tok → Bool) (v : List Tok → A) (at : Place) → Looks b → Looks v → ((t : Tok) → P (v (t ∷ []))) → (w : Tok) → ((k : List Tok) → b (w ∷ k) ≡ true)
    → Comp n (λ ts. take_if (b ts) (v ts) at ts) P C (FirstIs w)
comp_take_if b v at looks values fits w test = record {
  completes = λ m. completes_take_if b v at looks values fits;
  starts = record {
    more = w ∷ [];
    value = v (w ∷ []);
    fits = fits w;
    reads = λ k c. ap (λ b. take_if b (v (w ∷ k)) at (w ∷ k)) (test k) ∙ ap (λ x. Done x k) (values w k []);
    begins = λ k c. (k, refl);
  };
}

pub comp_take_some : {A : Type 0} {n : ℕ} {P : A → Type 0} {C : List Tok → Type 0} (o : List Tok → Option A) (at : Place) → Looks o → ((t : Tok) (x : A) → o (t ∷ []) ≡ Some x → P x) → (w : Tok) (x : A) → ((k : List Tok) → o (w ∷ k) ≡ Some x)
    → Comp n (λ ts. take_some (o ts) at ts) P C (FirstIs w)
comp_take_some o at looks fits w x test = record {
  completes = λ m. completes_take_some o at looks fits;
  starts = record { more = w ∷ []; value = x; fits = fits w x (test []); reads = λ k c. ap (λ o. take_some o at (w ∷ k)) (test k); begins = λ k c. (k, refl) };
}

-- a choice whose completion from the first token on is this
pub comp_of : {A : Type 0} {n : ℕ} {X : List Tok → Read A} {P : A → Type 0} {C S : List Tok → Type 0} → ((m : ℕ) → Completes n m X P C) → (w : Tok) → (x : A) → P x → ((k : List Tok) → C k → X (w ∷ k) ≡ Done x k) → ((k : List Tok) → S (w ∷ k)) → Comp n X P C S
comp_of completes w x p reads begins = record { completes = completes; starts = record { more = w ∷ []; value = x; fits = p; reads = reads; begins = λ k c. begins k } }

pub forget : {A : Type 0} {n : ℕ} {X : List Tok → Read A} {P : A → Type 0} {C S : List Tok → Type 0} → Comp n X P C S → Comp n X Always C S
forget c = record {
  completes = λ m. record { finish = λ t ts few old ends. let w = (c.completes m).finish t ts few old ends in record { more = w.more; value = w.value; fits = tt; reads = w.reads } };
  starts = record { more = c.starts.more; value = c.starts.value; fits = tt; reads = c.starts.reads; begins = c.starts.begins };
}

pub completes_behind_less : {A : Type 0} {n m : ℕ} {P : A → Type 0} {C S : List Tok → Type 0} (r : List Tok → Read A) → Completes n m r P C → Starts r P C S → Completes n (suc m) (λ ts. r (drop 1 ts)) P C
completes_behind_less {A} {n} {m} {P} {C} {S} r some starts = record { finish = λ t ts few old ends. go t ts few old ends }
  where
    go : (t : Tok) (ts : List Tok) → length ts < suc m → Older n (t ∷ ts) → Ends (r ts) → Finish (λ ts. r (drop 1 ts)) P (t ∷ ts) C
    go t [] few old ends = record { more = starts.more; value = starts.value; fits = starts.fits; reads = λ k c. starts.reads k c }
    go t (u ∷ ts) few old ends = let w = some.finish u ts (omega (arith, few)) old.1 ends in record { more = w.more; value = w.value; fits = w.fits; reads = λ k c. w.reads k c }

pub completes_zero : {A : Type 0} {n : ℕ} {X : List Tok → Read A} {P : A → Type 0} {C : List Tok → Type 0} → Completes n 0 X P C
completes_zero = record { finish = λ t ts few old ends. absurd (omega (arith, few)) }

pub starts_same : {A : Type 0} {P : A → Type 0} {C S : List Tok → Type 0} (X Y : List Tok → Read A) → ((ts : List Tok) → X ts ≡ Y ts) → Starts Y P C S → Starts X P C S
starts_same X Y same s = record { more = s.more; value = s.value; fits = s.fits; reads = λ k c. same (s.more ++ k) ∙ s.reads k c; begins = s.begins }

-- behind one token more
pub starts_lift : {A : Type 0} {P : A → Type 0} {C S : List Tok → Type 0} (w : Tok) (X r : List Tok → Read A) → ((l : List Tok) → X (w ∷ l) ≡ r l) → Starts r P C S → Starts X P C (FirstIs w)
starts_lift w X r same s = record { more = w ∷ s.more; value = s.value; fits = s.fits; reads = λ k c. same (s.more ++ k) ∙ s.reads k c; begins = λ k c. (s.more ++ k, refl) }

-- less may follow
pub comp_less : {A : Type 0} {n : ℕ} {X : List Tok → Read A} {P : A → Type 0} {C D S : List Tok → Type 0} → Comp n X P C S → ((k : List Tok) → D k → C k) → Comp n X P D S
comp_less {A} {n} {X} c less = record {
  completes = λ m. completes_weak X (c.completes m) less;
  starts = record { more = c.starts.more; value = c.starts.value; fits = c.starts.fits; reads = λ k d. c.starts.reads k (less k d); begins = λ k d. c.starts.begins k (less k d) };
}

-- the second of two choices
pub starts_else : {A : Type 0} {P : A → Type 0} {C S : List Tok → Type 0} (b : List Tok → Bool) (r s : List Tok → Read A) → Starts s P C S → ((k : List Tok) → S k → b k ≡ false) → Starts (λ ts. if b ts then r ts else s ts) P C S
starts_else b r s starts other = record {
  more = starts.more;
  value = starts.value;
  fits = starts.fits;
  reads = λ k c. ap (λ b. if b then r (starts.more ++ k) else s (starts.more ++ k)) (other (starts.more ++ k) (starts.begins k c)) ∙ starts.reads k c;
  begins = starts.begins;
}
