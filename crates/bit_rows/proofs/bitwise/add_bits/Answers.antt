use Rattle.std.proofs.Common.{◌≡◌, ℕ, zero, suc, ◌+◌, ◌-◌, ◌++◌, List, length, map, length-append, append_assoc, add-zero, ap, ap₂, sym, subst, ◌∙◌, arith}
use Rattle.std.proofs.lemmas.List.{append-nil, length-map, map-append}
use Rattle.mix_system.specs.declared.literal.Lit.{Lit}
use Rattle.mix_system.specs.System.{System}
use Rattle.wrap_rows.specs.Normal.{clause_of}
use Rattle.bit_rows.specs.Bits.{lowest, others, StandBefore}
use Rattle.bit_rows.specs.Bitwise.{bit_clauses, bits_clauses}
use Rattle.bit_rows.proofs.BitsLaws.{lowest_before, others_before}
use Rattle.bit_rows.proofs.bitwise.add_bits.Goals as goal

pub loop-place-init : goal.loop-place-init
loop-place-init c =
    let old = c.args.into.now in
    let vars = length old.ranges in
    let all : c.args.width - 0 ≡ c.args.width = omega arith in
    record {
      laid = ap₂ (λ (k : ℕ) (at : ℕ). record old { clauses = old.clauses ++ map clause_of (bits_clauses c.args.kind k at c.args.a c.args.b) }) all (add-zero c.args.x);
      left = subst (λ k. StandBefore k vars c.args.a) (sym all) c.requires.left;
      right = subst (λ k. StandBefore k vars c.args.b) (sym all) c.requires.right;
    }

pub add_bit-requires-clause-x : goal.add_bit-requires-clause-x
add_bit-requires-clause-x c = omega (arith, c.requires.known, ap {A = System} (λ s. length s.ranges) c.loop-place.invariant.laid)

pub add_bit-requires-clause-a : goal.add_bit-requires-clause-a
add_bit-requires-clause-a c =
    let vars = length c.args.into.now.ranges in
    let k = c.args.width - (c.loop-place.place + 1) in
    let step : c.args.width - c.loop-place.place ≡ suc k = omega arith in
    let before = subst (λ j. StandBefore j vars c.loop-place.left) step c.loop-place.invariant.left in
    omega (arith, c.lowest.ensures, lowest_before k vars c.loop-place.left before, ap {A = System} (λ s. length s.ranges) c.loop-place.invariant.laid)

pub add_bit-requires-clause-b : goal.add_bit-requires-clause-b
add_bit-requires-clause-b c =
    let vars = length c.args.into.now.ranges in
    let k = c.args.width - (c.loop-place.place + 1) in
    let step : c.args.width - c.loop-place.place ≡ suc k = omega arith in
    let before = subst (λ j. StandBefore j vars c.loop-place.right) step c.loop-place.invariant.right in
    omega (arith, c.lowest-in-loop-place.ensures, lowest_before k vars c.loop-place.right before, ap {A = System} (λ s. length s.ranges) c.loop-place.invariant.laid)

pub add_bit-requires-clause-room : goal.add_bit-requires-clause-room
add_bit-requires-clause-room c =
    let kind = c.args.kind in
    let at = c.args.x + c.loop-place.place in
    let left = c.loop-place.left in
    let right = c.loop-place.right in
    let k = c.args.width - (c.loop-place.place + 1) in
    let step : c.args.width - c.loop-place.place ≡ suc k = omega arith in
    let rest = bits_clauses kind (c.args.width - c.loop-place.place) at left right in
    let whole = bits_clauses kind c.args.width c.args.x c.args.a c.args.b in
    omega (
      arith,
      c.requires.room,
      ap {A = System} (λ s. length s.clauses) c.loop-place.invariant.laid,
      length-append c.loop-place.into.clauses (map clause_of rest),
      length-append c.args.into.now.clauses (map clause_of whole),
      length-map rest clause_of,
      length-map whole clause_of,
      ap (λ j. length (bits_clauses kind j at left right)) step,
      length-append (bit_clauses kind at (lowest left) (lowest right)) (bits_clauses kind k (at + 1) (others left) (others right)),
      ap₂ (λ u v. length (bit_clauses kind at u v)) c.lowest.ensures c.lowest-in-loop-place.ensures,
    )

pub others-left-requires : goal.others-left-requires
others-left-requires c =
    let vars = length c.args.into.now.ranges in
    let k = c.args.width - (c.loop-place.place + 1) in
    let step : c.args.width - c.loop-place.place ≡ suc k = omega arith in
    let before = subst (λ j. StandBefore j vars c.loop-place.left) step c.loop-place.invariant.left in
    omega (arith, lowest_before k vars c.loop-place.left before, c.requires.few_vars)

pub others-right-requires : goal.others-right-requires
others-right-requires c =
    let vars = length c.args.into.now.ranges in
    let k = c.args.width - (c.loop-place.place + 1) in
    let step : c.args.width - c.loop-place.place ≡ suc k = omega arith in
    let before = subst (λ j. StandBefore j vars c.loop-place.right) step c.loop-place.invariant.right in
    omega (arith, lowest_before k vars c.loop-place.right before, c.requires.few_vars)

pub loop-place-preserved : goal.loop-place-preserved
loop-place-preserved c =
    let vars = length c.args.into.now.ranges in
    let kind = c.args.kind in
    let now = c.loop-place.into in
    let at = c.args.x + c.loop-place.place in
    let left = c.loop-place.left in
    let right = c.loop-place.right in
    let k = c.args.width - (c.loop-place.place + 1) in
    let step : c.args.width - c.loop-place.place ≡ suc k = omega arith in
    let next : c.args.x + (c.loop-place.place + 1) ≡ at + 1 = omega arith in
    let here = bit_clauses kind at c.lowest.result c.lowest-in-loop-place.result in
    let later = bits_clauses kind k (c.args.x + (c.loop-place.place + 1)) c.others-left.result c.others-right.result in
    let whole : here ++ later ≡ bits_clauses kind (c.args.width - c.loop-place.place) at left right =
    ap₂ (λ u v. bit_clauses kind at u v ++ later) c.lowest.ensures c.lowest-in-loop-place.ensures
    ∙ ap (λ place. bit_clauses kind at (lowest left) (lowest right) ++ bits_clauses kind k place c.others-left.result c.others-right.result) next
    ∙ ap₂ (λ u v. bit_clauses kind at (lowest left) (lowest right) ++ bits_clauses kind k (at + 1) u v) c.others-left.ensures c.others-right.ensures
    ∙ ap (λ j. bits_clauses kind j at left right) (sym step) in
    let before_left = subst (λ j. StandBefore j vars left) step c.loop-place.invariant.left in
    let before_right = subst (λ j. StandBefore j vars right) step c.loop-place.invariant.right in
    record {
      laid =
          ap {A = System} (λ s. record s { clauses = s.clauses ++ map clause_of later }) c.in_ok-add_bit.ensures
          ∙ ap (λ (clauses : List (List Lit)). record now { clauses = clauses }) (append_assoc now.clauses (map clause_of here) (map clause_of later) ∙ ap (λ (rest : List (List Lit)). now.clauses ++ rest) (sym (map-append clause_of here later)))
          ∙ ap (λ (rest : List (List Lit)). record now { clauses = now.clauses ++ map clause_of rest }) whole
          ∙ c.loop-place.invariant.laid;
      left = subst (StandBefore k vars) (sym c.others-left.ensures) (others_before k vars left before_left);
      right = subst (StandBefore k vars) (sym c.others-right.ensures) (others_before k vars right before_right);
    }

pub returns : goal.returns
returns c =
    let now = c.loop-place.into in
    let none : zero ≡ c.args.width - c.loop-place.place = omega arith in
    ap (λ (clauses : List (List Lit)). record now { clauses = clauses }) (sym (append-nil now.clauses))
    ∙ ap (λ j. record now { clauses = now.clauses ++ map clause_of (bits_clauses c.args.kind j (c.args.x + c.loop-place.place) c.loop-place.left c.loop-place.right) }) none
    ∙ c.loop-place.invariant.laid
