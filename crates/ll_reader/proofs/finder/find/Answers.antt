use Rattle.std.proofs.Common.{sym, ◌∙◌}
use Rattle.ll_reader.proofs.FinderLaws.{no_section, within, smaller, pass_section, take_section, second_section, so_far_all}
use Rattle.ll_reader.proofs.finder.find.Goals as goal

pub loop-section-init : goal.loop-section-init
loop-section-init c = no_section c.args.text.now c.args.name.now

pub next_section-requires-clause-line_end : goal.next_section-requires-clause-line_end
next_section-requires-clause-line_end c = c.loop-section.invariant.is_at

pub has_name-requires-clause-within : goal.has_name-requires-clause-within
has_name-requires-clause-within c = within c.args.text.now c.args.name.now c.loop-section.before c.loop-section.at c.loop-section.found c.loop-section.invariant c.in-Some.section c.in-Some.ensures

pub loop-section-smaller-then-not-branch : goal.loop-section-smaller-then-not-branch
loop-section-smaller-then-not-branch c = smaller c.args.text.now c.args.name.now c.loop-section.before c.loop-section.at c.loop-section.found c.loop-section.invariant c.in-Some.section c.in-Some.ensures

pub loop-section-preserved-then-not-branch : goal.loop-section-preserved-then-not-branch
loop-section-preserved-then-not-branch c = pass_section c.args.text.now c.args.name.now c.loop-section.before c.loop-section.at c.loop-section.found c.loop-section.invariant c.in-Some.section c.in-Some.ensures c.in_ok-has_name.field-0 c.in_ok-has_name.ensures c.if-not-branch.true

pub returns-then-is_some-clause-finds : goal.returns-then-is_some-clause-finds
returns-then-is_some-clause-finds c = second_section c.args.text.now c.args.name.now c.loop-section.before c.loop-section.at c.loop-section.found c.loop-section.invariant c.in-Some.section c.in-Some.ensures c.in_ok-has_name.field-0 c.in_ok-has_name.ensures (sym c.is_some.ensures ∙ c.if-is_some.true) c.if-not-branch.false

pub loop-section-smaller : goal.loop-section-smaller
loop-section-smaller c = smaller c.args.text.now c.args.name.now c.loop-section.before c.loop-section.at c.loop-section.found c.loop-section.invariant c.in-Some.section c.in-Some.ensures

pub loop-section-preserved : goal.loop-section-preserved
loop-section-preserved c = take_section c.args.text.now c.args.name.now c.loop-section.before c.loop-section.at c.loop-section.found c.loop-section.invariant c.in-Some.section c.in-Some.ensures c.in_ok-has_name.field-0 c.in_ok-has_name.ensures (sym c.is_some.ensures ∙ c.if-is_some.false) c.if-not-branch.false

pub returns-clause-finds : goal.returns-clause-finds
returns-clause-finds c = (c.outcome.ensures c.args.name.now (so_far_all c.args.text.now c.args.name.now c.loop-section.before c.loop-section.at c.loop-section.found c.loop-section.invariant c.in_default.ensures)).0

pub returns-clause-within : goal.returns-clause-within
returns-clause-within c = (c.outcome.ensures c.args.name.now (so_far_all c.args.text.now c.args.name.now c.loop-section.before c.loop-section.at c.loop-section.found c.loop-section.invariant c.in_default.ensures)).1
