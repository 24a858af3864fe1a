use Rattle.std.proofs.Common.{◌≡◌, ◌<◌, ℕ, List, [], ◌∷◌, length, Bor, inl, refl, sym, ◌∙◌, ap, subst, arith}
use Rattle.std.proofs.lemmas.List.{length-map, get_or-map}
use Rattle.cost_table.specs.Entries.{label_at}
use Rattle.cost_table.specs.Table.{CostLists, Table, Lacks, lines_in, spelled}
use Rattle.cost_table.proofs.LabelLaws.{are_different}
use Rattle.cost_table.proofs.TableLaws.{no_heading, lacks_of, table_of}
use Rattle.cost_table.proofs.costs.read_table.Goals as goal

abbrev no_label : Bor (List ℕ)
no_label = record { ref_ptr = (0, 0); now = [] }

pub returns-in_default-version_of-clause-fault : goal.returns-in_default-version_of-clause-fault
returns-in_default-version_of-clause-fault c =
    let lines : lines_in c.args.text.now ≡ c.in-Some.first.now ∷ c.next.new.self = sym c.lines-lines.ensures.value ∙ c.in-Some.ensures.steps in
    inl (no_heading c.args.text.now c.in-Some.first.now c.next.new.self lines c.in_default-version_of.ensures, refl)

pub table_of-requires : goal.table_of-requires
table_of-requires c = are_different (spelled c.args.labels.now) c.requires.different

pub returns-in-Some-first_missing-clause-fault : goal.returns-in-Some-first_missing-clause-fault
returns-in-Some-first_missing-clause-fault c =
    let table = c.in_ok-table.table in
    let block = c.in-Some-first_missing.block in
    let lines : lines_in c.args.text.now ≡ c.in-Some.first.now ∷ c.next.new.self = sym c.lines-lines.ensures.value ∙ c.in-Some.ensures.steps in
    let missing = rw c.deref.ensures.value at c.in-Some-first_missing.ensures in
    let size : length c.in_ok-table.table ≡ length c.args.labels.now = ap length c.in_ok-table.ensures ∙ length-map c.args.labels.now (λ (label : Bor (List ℕ)). label.now) in
    let low : c.in-Some-first_missing.block < length c.args.labels.now = omega (arith, missing.0, c.in_ok-take_lines.ensures.blocks, size) in
    let named : label_at c.in_ok-table.table c.in-Some-first_missing.block ≡ c.in_ok-new.field-0 =
    ap (λ (list : List (List ℕ)). label_at list block) c.in_ok-table.ensures
    ∙ get_or-map (λ (label : Bor (List ℕ)). label.now) c.args.labels.now block no_label [] low
    ∙ sym c.in_ok-new.ensures in
    subst (λ (list : List (List ℕ)). Lacks c.args.text.now list c.args.edges.now c.in_ok-new.field-0) c.in_ok-table.ensures
    (lacks_of c.args.text.now table c.args.edges.now c.in-Some-version_of.version c.in-Some.first.now c.next.new.self lines c.in-Some-version_of.ensures c.take_lines.new.ledger.blocks.items c.take_lines.new.ledger.edges.items c.in_ok-take_lines.ensures.entries c.in_ok-take_lines.ensures.blocks block c.in_ok-new.field-0 missing named)

pub returns-clause-table : goal.returns-clause-table
returns-clause-table c =
    let costs : CostLists = record { blocks = c.in_ok-costs_in.field-0; edges = c.in_ok-costs_in-2.field-0 } in
    let lines : lines_in c.args.text.now ≡ c.in-Some.first.now ∷ c.next.new.self = sym c.lines-lines.ensures.value ∙ c.in-Some.ensures.steps in
    subst (λ (list : List (List ℕ)). Table c.args.text.now list c.args.edges.now costs) c.in_ok-table.ensures
    (table_of c.args.text.now c.in_ok-table.table c.args.edges.now c.in-Some-version_of.version c.in-Some.first.now c.next.new.self lines c.in-Some-version_of.ensures c.take_lines.new.ledger.blocks.items c.take_lines.new.ledger.edges.items c.in_ok-take_lines.ensures.entries c.in_ok-take_lines.ensures.blocks costs c.in_ok-take_lines.ensures.edges (rw c.deref.ensures.value at c.in_default-first_missing.ensures) (rw c.deref-2.ensures.value at c.in_ok-costs_in.ensures) (rw c.deref-3.ensures.value at c.in_ok-costs_in-2.ensures))
