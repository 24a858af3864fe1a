use Rattle.std.proofs.Common.{sym, subst, ◌∙◌}
use Rattle.std.specs.Option.{IfSome}
use Rattle.std.proofs.lemmas.Bool.{false≢true}
use Rattle.ll_reader.proofs.DefineLineLaws.{has_found, found_is, some_is, some_not_none}
use Rattle.ll_reader.specs.DefineLine.{StandsBehind}
use Rattle.ll_reader.proofs.define_line.is_named.Goals as goal

pub returns-in-Some-2 : goal.returns-in-Some-2
returns-in-Some-2 c =
    let first = rw c.in-Some.is at c.sigil_place.ensures in
    let behind = c.split_at.ensures.back in (
      λ same. has_found c.args.line.now c.split_at.result.1.now c.in-Some.at first behind c.in-Some-2.found c.args.name.now
          (subst (λ found. IfSome found (StandsBehind c.split_at.result.1.now)) c.in-Some-2.is c.in_ok-found.ensures.found) (c.same.ensures.0 same),
      λ named. c.same.ensures.1 (some_is (sym c.in-Some-2.is ∙ found_is c.args.line.now c.split_at.result.1.now c.in-Some.at first behind c.in_ok-found.field-0 c.args.name.now c.in_ok-found.ensures.only named)),
    )

pub returns-in-None : goal.returns-in-None
returns-in-None c =
    let first = rw c.in-Some.is at c.sigil_place.ensures in
    let behind = c.split_at.ensures.back in (
      λ is. absurd (false≢true is),
      λ named. some_not_none (sym (found_is c.args.line.now c.split_at.result.1.now c.in-Some.at first behind c.in_ok-found.field-0 c.args.name.now c.in_ok-found.ensures.only named) ∙ c.in-None.is),
    )
