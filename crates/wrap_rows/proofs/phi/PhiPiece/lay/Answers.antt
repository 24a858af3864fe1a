use Rattle.std.proofs.Common.{◌+◌, length, ap, arith}
use Rattle.mix_system.specs.System.{System}
use Rattle.wrap_rows.proofs.PhiLaws.{own_rows, clauses_length}
use Rattle.wrap_rows.proofs.phi.PhiPiece.lay.Goals as goal

pub returns-in_err-add_rows-clause-own_rows : goal.returns-in_err-add_rows-clause-own_rows
returns-in_err-add_rows-clause-own_rows c = own_rows c.args.self.now c.args.first

pub add_clauses-requires-clause-room : goal.add_clauses-requires-clause-room
add_clauses-requires-clause-room c =
    omega (
      arith,
      c.requires.clauses,
      ap {A = System} (λ s. length s.clauses) c.in_ok-add_rows.ensures,
      clauses_length 0 (c.args.first + 1) c.args.self.now.incoming.items,
      ap length c.as_slice-incoming.ensures.value,
    )

pub returns-clause-own_rows : goal.returns-clause-own_rows
returns-clause-own_rows c = own_rows c.args.self.now c.args.first
