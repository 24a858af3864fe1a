-- Lines that were fed, and one more; the answer to them and to what stands behind the last line feed.
use Rattle.std.proofs.Common.{◌≡◌, ℕ, ◌+◌, List, [], ◌∷◌, ◌++◌, length, length-append, Result, Ok, Err, IfOk, OnOk, refl, ◌∙◌, ap, subst, inl, inr, ⊎_elim, arith}
use Rattle.mix_system.specs.declared.literal.Term.{Term}
use Rattle.mix_system.specs.System.{System}
use Rattle.proof_checker.specs.declared.verdict.Reason.{Reason}
use Rattle.proof_checker.specs.declared.verdict.Verdict.{Verdict}
use Rattle.proof_checker.specs.declared.verdict.Verdict.TheVariants.{No}
use Rattle.proof_checker.specs.Place.{Place, AtHeader}
use Rattle.proof_checker.specs.Outcome.{Next, Fails, Gives}
use Rattle.proof_checker.specs.Verdict.{end_verdict, AreAnswered}
use Rattle.proof_checker.specs.declared.base.Base.{Base}
use Rattle.proof_checker.specs.declared.kept.Kept.{Kept}
use Rattle.proof_checker.specs.declared.kept.Found.{Found}
use Rattle.proof_checker.specs.declared.kept.Found.TheVariants as found
use Rattle.proof_checker.specs.Kept.{IsKept, Comes}
use Rattle.proof_checker.specs.declared.checker.Checker.{Checker}
use Rattle.proof_checker.specs.declared.checker.Fed.{Fed as Answer}
use Rattle.proof_checker.specs.Fed.{Pass, FailsFirst, IsFound, HasRead, IsFed}

module _ (system : System) (cost : Term) where
  pub pass_more : (place : Place) (fed : List (List ℕ)) (line : List ℕ) (to next : Place) → Pass system cost place fed to → Gives system cost to line (Next next)
      → Pass system cost place (fed ++ line ∷ []) next
  pass_more place [] line to next is gives = (next, subst (λ (p : Place). Gives system cost p line (Next next)) is gives, refl)
  pass_more place (first ∷ fed) line to next passes gives = (passes.0, passes.1, pass_more passes.0 fed line to next passes.2 gives)

  pub fails_now : (place : Place) (number at : ℕ) (fed : List (List ℕ)) (line : List ℕ) (to : Place) (why : Reason) → Pass system cost place fed to → Gives system cost to line (Fails why)
      → at ≡ number + length fed → FailsFirst system cost place number (fed ++ line ∷ []) at why
  fails_now place number at [] line to why is gives e = inl (subst (λ (p : Place). Gives system cost p line (Fails why)) is gives, omega (arith, e))
  fails_now place number at (first ∷ fed) line to why passes gives e = inr (passes.0, passes.1, fails_now passes.0 (number + 1) at fed line to why passes.2 gives (omega (arith, e)))

  pub fails_later : (place : Place) (number at : ℕ) (fed : List (List ℕ)) (line : List ℕ) (why : Reason) → FailsFirst system cost place number fed at why
      → FailsFirst system cost place number (fed ++ line ∷ []) at why
  fails_later place number at [] line why fails = absurd fails
  fails_later place number at (first ∷ fed) line why fails =
      ⊎_elim (λ here. inl here) (λ later. inr (later.0, later.1, fails_later later.0 (number + 1) at fed line why later.2)) fails

  goes_on : (place : Place) (number : ℕ) (line : List ℕ) (front : List (List ℕ)) (rest : List ℕ) (to : Place) (verdict : Verdict) → Gives system cost place line (Next to)
      → AreAnswered system cost to (number + 1) (front ++ rest ∷ []) verdict → AreAnswered system cost place number (line ∷ (front ++ rest ∷ [])) verdict
  goes_on place number line [] rest to verdict gives answered = inr (to, gives, answered)
  goes_on place number line (next ∷ front) rest to verdict gives answered = inr (to, gives, answered)

  stops : (place : Place) (number at : ℕ) (line : List ℕ) (front : List (List ℕ)) (rest : List ℕ) (why : Reason) → Gives system cost place line (Fails why) → at ≡ number
      → AreAnswered system cost place number (line ∷ (front ++ rest ∷ [])) (No at why)
  stops place number at line [] rest why gives e = inl (why, gives, ap (λ n. No n why) e)
  stops place number at line (next ∷ front) rest why gives e = inl (why, gives, ap (λ n. No n why) e)

  pub answered_end : (place : Place) (number at : ℕ) (fed : List (List ℕ)) (rest : List ℕ) (to : Place) (verdict : Verdict) → Pass system cost place fed to → at ≡ number + length fed
      → verdict ≡ end_verdict to at rest → AreAnswered system cost place number (fed ++ rest ∷ []) verdict
  answered_end place number at [] rest to verdict is e answer =
      let same : at ≡ number = omega (arith, e) in answer ∙ ap (λ (p : Place). end_verdict p at rest) is ∙ ap (λ n. end_verdict place n rest) same
  answered_end place number at (first ∷ fed) rest to verdict passes e answer =
      goes_on place number first fed rest passes.0 verdict passes.1 (answered_end passes.0 (number + 1) at fed rest to verdict passes.2 (omega (arith, e)) answer)

  pub answered_failed : (place : Place) (number at : ℕ) (fed : List (List ℕ)) (rest : List ℕ) (why : Reason) → FailsFirst system cost place number fed at why
      → AreAnswered system cost place number (fed ++ rest ∷ []) (No at why)
  answered_failed place number at [] rest why fails = absurd fails
  answered_failed place number at (first ∷ fed) rest why fails =
      ⊎_elim (λ here. stops place number at first fed rest why here.0 here.1)
      (λ later. goes_on place number first fed rest later.0 (No at why) later.1 (answered_failed later.0 (number + 1) at fed rest why later.2)) fails

-- of the system and the cost of a checker, so of those that it was made for
pub over : (base : Base) (system : System) (cost : Term) (P : System → Term → Type 0) → base.system.now ≡ system → base.cost ≡ cost → P base.system.now base.cost → P system cost
over base system cost P same_system same_cost p = subst (λ (t : Term). P system t) same_cost (subst (λ (s : System). P s base.cost) same_system p)

-- what is found of lines that were fed, and of one more

abbrev pub After : Base → Kept → List ℕ → Found → Type 0
After base k line f = (at : Place) → IsKept base k at → Comes base (Gives base.system.now base.cost at line) f

module _ (base : Base) (fed : List (List ℕ)) where
  pub found_failed : (k : Kept) (number : ℕ) (line : List ℕ) (why : Reason) → IsFound base fed (found.At k) number → After base k line (found.Failed why)
      → IsFound base (fed ++ line ∷ []) (found.Failed why) number
  found_failed k number line why is after =
      fails_now base.system.now base.cost AtHeader 1 number fed line is.0 why is.2 (after is.0 is.1) is.3

  pub found_goes : (k next : Kept) (number later : ℕ) (line : List ℕ) → IsFound base fed (found.At k) number → After base k line (found.At next) → later ≡ number + 1
      → IsFound base (fed ++ line ∷ []) (found.At next) later
  found_goes k next number later line is after e =
      let comes = after is.0 is.1 in
      (comes.0, comes.1, pass_more base.system.now base.cost AtHeader fed line is.0 comes.0 is.2 comes.2, omega (arith, e, is.3, length-append fed (line ∷ [])))

  pub found_stays : (number : ℕ) (line : List ℕ) (why : Reason) → IsFound base fed (found.Failed why) number → IsFound base (fed ++ line ∷ []) (found.Failed why) number
  found_stays number line why is = fails_later base.system.now base.cost AtHeader 1 number fed line why is

  pub answered_at : (k : Kept) (number : ℕ) (rest : List ℕ) (verdict : Verdict) → IsFound base fed (found.At k) number
      → ((to : Place) → IsKept base k to → verdict ≡ end_verdict to number rest) → AreAnswered base.system.now base.cost AtHeader 1 (fed ++ rest ∷ []) verdict
  answered_at k number rest verdict is ends = answered_end base.system.now base.cost AtHeader 1 number fed rest is.0 verdict is.2 is.3 (ends is.0 is.1)

-- a checker that found this of the lines
pub found_as : (system : System) (cost : Term) (fed : List (List ℕ)) (checker : Checker) (f : Found) → checker.found ≡ f → HasRead system cost fed checker
    → HasRead system cost fed (record checker { found = f })
found_as system cost fed checker f is read = record {
  system_is = read.system_is;
  cost_is = read.cost_is;
  sound = read.sound;
  clear = read.clear;
  found = subst (λ (g : Found). IsFound checker.base fed g checker.number) is read.found;
}

-- the same of what a line more comes to

abbrev Reads : Checker → List ℕ → Checker → Type 0
Reads old line new = (system : System) (cost : Term) (fed : List (List ℕ)) → HasRead system cost fed old → HasRead system cost (fed ++ line ∷ []) new

abbrev Says : Checker → List ℕ → Answer → Type 0
Says old line answer = (system : System) (cost : Term) (fed : List (List ℕ)) → HasRead system cost fed old → IsFed system cost (fed ++ line ∷ []) answer

pub reads_as : {E : Type 0} (checker new : Checker) (f : Found) (line : List ℕ) → checker.found ≡ f → (r : Result Answer E) → OnOk r (Reads (record checker { found = f }) line new)
    → OnOk r (Reads checker line new)
reads_as checker new f line is (Ok x) reads = λ system cost fed read. reads system cost fed (found_as system cost fed checker f is read)
reads_as checker new f line is (Err e) reads = tt

pub says_as : {E : Type 0} (checker : Checker) (f : Found) (line : List ℕ) → checker.found ≡ f → (r : Result Answer E) → IfOk r (Says (record checker { found = f }) line)
    → IfOk r (Says checker line)
says_as checker f line is (Ok x) says = λ system cost fed read. says system cost fed (found_as system cost fed checker f is read)
says_as checker f line is (Err e) says = tt
