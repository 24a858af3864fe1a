use Rattle.std.proofs.Common.{◌≡◌, ◌+◌, ◌<◌, length, drop, refl, sym, subst, ap, ◌∙◌}
use Rattle.std.proofs.lemmas.List.{drop-drop}
use Rattle.std.proofs.lemmas.Bool.{eqb-true}
use Rattle.ll_reader.specs.declared.lines.LineKind.TheVariants as kinds
use Rattle.ll_reader.specs.FileLines.{StandBefore}
use Rattle.ll_reader.proofs.FinderLaws.{no_function, next_is, some_of}
use Rattle.ll_reader.proofs.finder.next_section.Goals as goal

pub returns-then-is_empty : goal.returns-then-is_empty
returns-then-is_empty c =
    let outside = subst (λ bytes. StandBefore kinds.Define bytes c.lines_before-outside.result) c.split_at.ensures.back c.lines_before-outside.ensures in
    let from : c.split_at-2.result.1.now ≡ drop (c.args.at + c.lines_before-outside.result.len) c.args.text.now =
    c.split_at-2.ensures.back ∙ ap (drop c.lines_before-outside.result.len) c.split_at.ensures.back ∙ drop-drop c.lines_before-outside.result.len c.args.at c.args.text.now in
    let empty : length c.split_at-2.result.1.now ≡ 0 = eqb-true _ 0 (sym c.is_empty.ensures ∙ c.if-is_empty.true) in
    no_function c.args.text.now c.args.before c.args.at c.requires.line_end c.lines_before-outside.result outside (ap length (sym from) ∙ empty)

pub returns : goal.returns
returns c =
    let outside = subst (λ bytes. StandBefore kinds.Define bytes c.lines_before-outside.result) c.split_at.ensures.back c.lines_before-outside.ensures in
    let from : c.split_at-2.result.1.now ≡ drop (c.args.at + c.lines_before-outside.result.len) c.args.text.now =
    c.split_at-2.ensures.back ∙ ap (drop c.lines_before-outside.result.len) c.split_at.ensures.back ∙ drop-drop c.lines_before-outside.result.len c.args.at c.args.text.now in
    let some : 0 < length c.split_at-2.result.1.now = some_of (length c.split_at-2.result.1.now) (sym c.is_empty.ensures ∙ c.if-is_empty.false) in
    next_is c.args.text.now c.args.before c.args.at c.requires.line_end c.lines_before-outside.result outside
    c.split_at-2.result.1.now c.split_at-3.result.1.now c.line_len-first.result from some c.line_len-first.ensures.len c.split_at-3.ensures.back
    c.lines_before-inside.result c.lines_before-inside.ensures _ refl
