use Rattle.std.proofs.Common.{ℕ, List, Bor, ◌∙◌}
use Rattle.std.proofs.lemmas.List.{length-map}
use Rattle.op_table.specs.Rows.{rows_of}
use Rattle.op_table.proofs.PlaceLaws.{position-rows_of, finds_within, finds_first, finds_all, finds_back}
use Rattle.op_table.proofs.word_table.WordTable.find.Goals as goal

pub returns-clause-within : goal.returns-clause-within
returns-clause-within g c =
    finds_within c.args.word.now (rows_of c.args.self.now.words.now) c.place_of.result _ (c.place_of.ensures ∙ position-rows_of c.args.word.now c.args.self.now.words.now) (length-map c.args.self.now.words.now (λ (row : Bor (List ℕ)). row.now) ∙ c.args.self.now.sized)

pub returns-clause-first : goal.returns-clause-first
returns-clause-first g c =
    finds_first c.args.word.now (rows_of c.args.self.now.words.now) c.place_of.result (c.place_of.ensures ∙ position-rows_of c.args.word.now c.args.self.now.words.now)

pub returns-clause-absent : goal.returns-clause-absent
returns-clause-absent g c =
    finds_all c.args.word.now (rows_of c.args.self.now.words.now) c.place_of.result (c.place_of.ensures ∙ position-rows_of c.args.word.now c.args.self.now.words.now)

pub returns-clause-inverse : goal.returns-clause-inverse
returns-clause-inverse g c =
    finds_back c.args.word.now (rows_of c.args.self.now.words.now) c.place_of.result (c.place_of.ensures ∙ position-rows_of c.args.word.now c.args.self.now.words.now)
