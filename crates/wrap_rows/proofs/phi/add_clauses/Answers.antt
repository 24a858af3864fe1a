use Rattle.std.proofs.Common.{◌≡◌, ℕ, ◌∙◌, ◌+◌, List, length, length-append, map, ◌++◌, append_assoc, take, get_or, sym, ap, arith}
use Rattle.std.proofs.lemmas.List.{length-map, length-take-le}
use Rattle.mix_system.specs.System.{System}
use Rattle.mix_system.specs.declared.literal.Lit.{Lit}
use Rattle.wrap_rows.specs.declared.phi.Incoming.{Incoming}
use Rattle.wrap_rows.specs.Normal.{clause_of}
use Rattle.wrap_rows.specs.Layout.{clause_from}
use Rattle.wrap_rows.specs.Phi.{clauses_from, clauses_for}
use Rattle.wrap_rows.proofs.PhiLaws.{laid-more, clauses_length}
use Rattle.wrap_rows.proofs.phi.add_clauses.Goals as goal

pub add_clauses_for-requires-clause-room : goal.add_clauses_for-requires-clause-room
add_clauses_for-requires-clause-room c =
    let so_far = clauses_from 0 c.args.mark (take c.loop-one.one-index c.args.incoming.now) in
    omega (
      arith,
      c.requires.room,
      c.loop-one-test.true,
      ap {A = System} (λ s. length s.clauses) c.loop-one.invariant.laid,
      length-append c.args.into.now.clauses (map (clause_from c.args.row) so_far),
      length-map so_far (clause_from c.args.row),
      clauses_length 0 c.args.mark (take c.loop-one.one-index c.args.incoming.now),
      length-take-le c.loop-one.one-index c.args.incoming.now (omega (arith, c.loop-one-test.true)),
    )

pub loop-one-preserved : goal.loop-one-preserved
loop-one-preserved c =
    let old = c.args.into.now in
    let mark = c.args.mark in
    let i = c.loop-one.one-index in
    let none : Incoming = record { edge = 0; value = record { number = 0; mark = 0 } } in
    let one = get_or c.args.incoming.now i none in
    let so_far = map (clause_from c.args.row) (clauses_from 0 mark (take i c.args.incoming.now)) in
    let all : c.loop-one.next ≡ c.args.row + i → (old.clauses ++ so_far) ++ map clause_of (clauses_for c.loop-one.next mark one) ≡ old.clauses ++ map (clause_from c.args.row) (clauses_from 0 mark (take (i + 1) c.args.incoming.now)) =
    λ is.
    append_assoc old.clauses so_far (map clause_of (clauses_for c.loop-one.next mark one))
    ∙ ap (λ (row : ℕ). old.clauses ++ (so_far ++ map clause_of (clauses_for row mark one))) is
    ∙ ap (λ (last : List (List Lit)). old.clauses ++ last) (sym (laid-more c.args.row mark i c.args.incoming.now none c.loop-one-test.true)) in
    record {
      row = omega (arith, c.loop-one.invariant.row);
      laid =
          c.in_ok-add_clauses_for.ensures
          ∙ ap {A = System} (λ s. record s { clauses = s.clauses ++ map clause_of (clauses_for c.loop-one.next mark one) }) c.loop-one.invariant.laid
          ∙ ap (λ (clauses : List (List Lit)). record old { clauses = clauses }) (all c.loop-one.invariant.row);
    }
