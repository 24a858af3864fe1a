use Rattle.std.proofs.Common.{sym, ◌∙◌}
use Rattle.std.proofs.lemmas.Bool.{false≢true}
use Rattle.wx_base.proofs.LookupLaws.{first_with-found, first_with-passed, first_with-end}
use Rattle.wx_base.proofs.sure_files.find.Goals as goal

pub returns-then-same : goal.returns-then-same
returns-then-same c =
    sym (first_with-found _ _ _ _ c.loop-file-test.true c.file-item.is (c.same.ensures.0 c.if-same.true)) ∙ c.loop-file.invariant

pub loop-file-preserved : goal.loop-file-preserved
loop-file-preserved c =
    sym (first_with-passed _ _ _ _ c.loop-file-test.true c.file-item.is (λ same. false≢true (sym c.if-same.false ∙ c.same.ensures.1 same))) ∙ c.loop-file.invariant

pub returns : goal.returns
returns c = sym (first_with-end _ _ _ c.loop-file-test.false) ∙ c.loop-file.invariant
