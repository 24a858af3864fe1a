use Rattle.wcet_core.proofs.DecidedLaws.{said_decided}
use Rattle.wcet_core.proofs.JobLaws.{narrow_widths}
use Rattle.wcet_core.proofs.laws.decides.Goals as goal

pub returns : goal.returns
returns c = said_decided (record {
  one_func = c.one_answer.ensures.tree;
  one_stop = c.one_answer.ensures.fault;
  no_stop = c.one_answer.ensures.not_both;
  one_break = c.one_answer-2.ensures.one;
  no_break = c.one_answer-2.ensures.refused;
  one_table = λ text func one other rules is also. c.one_table.ensures.one text func rules one other is also;
  one_fault = λ text func one other rules is also. c.one_table.ensures.one_fault text func rules one other is.0 also.0 is.1 also.1;
  no_fault = λ text func costs fault rules is also. also.0 (c.one_table.ensures.not_both text func rules costs fault is also.1);
  ends = λ func args rules are. c.each_list_ends_once.ensures func args rules are;
  narrow = narrow_widths;
})
