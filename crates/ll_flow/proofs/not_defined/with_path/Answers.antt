use Rattle.std.proofs.Common.{◌∙◌}
use Rattle.flow_rules.specs.Paths as places
use Rattle.ll_flow.proofs.PathLaws.{path_within}
use Rattle.ll_flow.proofs.UseLaws.{leaves_labels}
use Rattle.ll_flow.proofs.not_defined.with_path.Goals as goal

pub labels_at-requires : goal.labels_at-requires
labels_at-requires c =
    let found = c.requires.found.2 in
    let leaves : places.LeavesOut c.args.uses.now.flow.now.graph c.args.found.now.it c.in_ok-places.places = c.in_ok-places.ensures in
    rw c.items.ensures (path_within c.args.uses.now.func.now c.args.uses.now.flow.now.graph c.requires.tables.flow.edges c.in_ok-places.places c.args.found.now.it.block found.placed.block leaves.0)

pub returns : goal.returns
returns c =
    let it = c.requires.found.0 in
    let found = c.requires.found.2 in
    let leaves : places.LeavesOut c.args.uses.now.flow.now.graph c.args.found.now.it c.in_ok-places.places = c.in_ok-places.ensures in
    record {
      it = it;
      first = c.requires.found.1;
      site = found.site;
      within = found.within;
      name = c.in_ok-name.ensures ∙ c.bytes.ensures ∙ found.name;
      path = rw (c.in_ok-path.ensures, c.items.ensures) (leaves_labels c.args.uses.now.func.now c.args.uses.now.flow.now c.requires.tables.flow c.requires.tables.different_labels c.requires.tables.different_values it c.args.found.now.it found.placed c.in_ok-places.places leaves);
    }
