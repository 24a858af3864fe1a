use Rattle.std.proofs.Common.{◌≡◌, ◌∷◌, take, rules}
use Rattle.ll_reader.specs.DefineLine.{name_len}
use Rattle.ll_reader.proofs.DefineLineLaws.{name_found, name_only}
use Rattle.ll_reader.proofs.define_line.name_behind.Goals as goal

pub returns-clause-found : goal.returns-clause-found
returns-clause-found c =
    let local : c.deref.result.now ≡ 37 ∷ take (name_len c.args.bytes.now) c.args.bytes.now = search rules in
    name_found c.args.bytes.now c.deref.result.now local c.local_name.result c.local_name.ensures.found

pub returns-clause-only : goal.returns-clause-only
returns-clause-only c =
    let local : c.deref.result.now ≡ 37 ∷ take (name_len c.args.bytes.now) c.args.bytes.now = search rules in
    name_only c.args.bytes.now c.deref.result.now local c.local_name.result c.local_name.ensures.only
