-- What the clauses of a tally cite, and the measures of a system by which a tally's budget is said to be spent.
use Rattle.std.specs.Prelude.{◌≡◌, ℕ, ◌+◌, ◌*◌, Bool, false, ◌&&◌, ◌==◌, ℤ, ◌-ℤ◌, unsigned_abs, List, length, map, sum_by, flat_map}
use Rattle.std.specs.Ordering.{int_eq}
use Rattle.std.specs.Int.Digits.{digits_of}
use Rattle.std.specs.Set.{distinct_count}
use Rattle.mix_system.specs.declared.literal.Term.{Term}
use Rattle.mix_system.specs.declared.literal.Term.TheVariants.{Var, Row}
use Rattle.mix_system.specs.declared.literal.Lit.{Lit}
use Rattle.mix_system.specs.Lit.{Atom, atom}
use Rattle.mix_system.specs.System.{System}
use Rattle.mix_system.specs.declared.tally.Work.{Work}
use Rattle.mix_system.specs.declared.tally.Work.TheVariants.{Decision, Propagation, Conflict, Split, Check}
use Rattle.mix_system.specs.declared.tally.Tally.{Tally}

-- how many units a tally has counted, of all kinds
abbrev pub units : Tally → ℕ
units t = t.decisions + t.propagations + t.conflicts + t.splits + t.checks

-- 1 where both are the same kind, and otherwise 0
abbrev pub one_if_same : Work → Work → ℕ
one_if_same Decision Decision = 1
one_if_same Propagation Propagation = 1
one_if_same Conflict Conflict = 1
one_if_same Split Split = 1
one_if_same Check Check = 1
one_if_same _ _ = 0

-- new has counted one unit of the kind more than old, and is otherwise as old
pub record CountsOne (kind : Work) (old new : Tally) : Type 0 where
  pub decisions : new.decisions ≡ old.decisions + one_if_same kind Decision
  pub propagations : new.propagations ≡ old.propagations + one_if_same kind Propagation
  pub conflicts : new.conflicts ≡ old.conflicts + one_if_same kind Conflict
  pub splits : new.splits ≡ old.splits + one_if_same kind Split
  pub checks : new.checks ≡ old.checks + one_if_same kind Check
  pub budget : new.budget ≡ old.budget

-- whether two terms are the same
abbrev pub is_same_term : Term → Term → Bool
is_same_term (Var a) (Var b) = a == b
is_same_term (Row a) (Row b) = a == b
is_same_term _ _ = false

abbrev pub is_same_atom : Atom → Atom → Bool
is_same_atom a b = is_same_term a.0 b.0 && int_eq a.1 b.1

-- the atoms of the literals of some clauses, as written
abbrev pub atoms : List (List Lit) → List Atom
atoms clauses = flat_map (map atom) clauses

-- How many literals stand on a trail at most, where each has an atom of its own: the different atoms of the clauses, one for each
-- portion, and one for the goal.
abbrev pub trail_bound : System → (portions : ℕ) → ℕ
trail_bound system portions = distinct_count is_same_atom (atoms system.clauses) + portions + 1

-- how often a range can be halved: the binary digits of its high end minus its low end, of which 0 has none
abbrev pub halvings : ℤ × ℤ → ℕ
halvings range = length (digits_of 2 (unsigned_abs (range.1 -ℤ range.0)))

-- how deep a tree of halvings goes at most
abbrev pub halving_depth : System → ℕ
halving_depth system = sum_by halvings system.ranges

-- how many pivots one check of the simplex makes at most
abbrev pub pivot_bound : System → ℕ
pivot_bound system = 16 * (length system.ranges + length system.rows)

-- how many units one lemma, leaf, find or cut pays for
abbrev pub units_per_event : System → (portions : ℕ) → ℕ
units_per_event system portions = 3 * (trail_bound system portions + halving_depth system + 4)
