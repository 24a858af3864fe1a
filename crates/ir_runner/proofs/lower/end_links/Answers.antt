use Rattle.std.proofs.Common.{◌+◌, length}
use Rattle.ll_rules.specs.Items.{labels_of, values_of}
use Rattle.ll_links.specs.Items.{item_at}
use Rattle.ll_links.specs.Links.{AreLinks}
use Rattle.ir_runner.proofs.LowerLaws.{end_linked}
use Rattle.ir_runner.proofs.lower.end_links.Goals.{After-links}
use Rattle.ir_runner.proofs.lower.end_links.Goals as goal

linked : (c : After-links) → AreLinks (values_of c.args.sound.now.func) (labels_of c.args.sound.now.func) (item_at c.args.sound.now.func.blocks c.args.at.0 (length c.args.block.now.phis + length c.args.block.now.body)) c.links.result
linked c = rw (← c.len.ensures, ← c.len-2.ensures) c.links.ensures.links

pub returns-clause-sources : goal.returns-clause-sources
returns-clause-sources c = (end_linked c.args.sound.now.func c.args.at.0 c.args.block.now c.requires.at c.links.result (linked c)).0

pub returns-clause-targets : goal.returns-clause-targets
returns-clause-targets c = (end_linked c.args.sound.now.func c.args.at.0 c.args.block.now c.requires.at c.links.result (linked c)).1
