use Rattle.std.proofs.Common.{◌≡◌, ◌+◌, ◌∙◌, ℕ, List, Some, None, length, get_or, sym, ap, subst, arith}
use Rattle.std.specs.Prelude.{zip}
use Rattle.std.proofs.lemmas.List.{length_push, length-map}
use Rattle.ll_links.specs.declared.link.Position.{Position}
use Rattle.ll_links.specs.Links.{block_id}
use Rattle.path_encoding.specs.Spots.{edge_vars}
use Rattle.path_encoding.specs.Paths.{positions, IsTaken}
use Rattle.path_encoding.specs.Reading.{next_from}
use Rattle.path_encoding.proofs.TakenLaws.{one_path}
use Rattle.path_encoding.proofs.ReadPathLaws.{HasRead, first_is, goes_next, stops, few, read_first, read_more, read_all}
use Rattle.path_encoding.proofs.path.path_at.Goals as goal

pub loop-init : goal.loop-init
loop-init c = record {
  read = λ full is.
      let first = first_is c.args.sound.now c.edges-edges.ensures.sound c.args.spots.now c.requires.spots c.args.point.now full is in
      subst (λ (path : List Position). HasRead full path 0) (sym c.new-path.ensures.items) (read_first full first.0 first.1);
  count = ap length c.new-path.ensures.items;
}

pub returns-in_default : goal.returns-in_default
returns-in_default c =
    let it = c.args.sound.now in
    let spots = c.args.spots.now in
    let point = c.args.point.now in
    let sound = c.edges-edges.ensures.sound in
    let path = c.loop.path.items in
    let found = one_path it sound spots c.requires.spots point c.requires.marks c.requires.holds in
    let full = found.0 in
    let read = c.loop.invariant.read full found.1 in
    let pairs : zip c.edges-edges.result.now c.as_slice-vars.result.now ≡ edge_vars it spots = λ i. zip (c.edges-edges.ensures.edges i) (c.as_slice-vars.ensures.value i) in
    let none : next_from point (edge_vars it spots) (get_or full (length path) 0) ≡ None = sym (c.next_taken.ensures ∙ (λ i. next_from point (pairs i) (read.here i))) ∙ c.in_default.is in
    let past = stops it sound spots c.requires.spots point full found.1 (length path) read.low none in
    let same : positions c.push.new.self.items ≡ full = ap positions c.in_ok-push.ensures.items ∙ read_all full path c.loop.at read past in
    subst (IsTaken it spots point) (sym same) found.1

pub loop-preserved : goal.loop-preserved
loop-preserved c =
    let it = c.args.sound.now in
    let spots = c.args.spots.now in
    let point = c.args.point.now in
    let sound = c.edges-edges.ensures.sound in
    let path = c.loop.path.items in
    let last : Position = record { 0 = c.loop.at } in
    let pairs : zip c.edges-edges.result.now c.as_slice-vars.result.now ≡ edge_vars it spots = λ i. zip (c.edges-edges.ensures.edges i) (c.as_slice-vars.ensures.value i) in
    record {
      read = λ full is.
          let read = c.loop.invariant.read full is in
          let next : next_from point (edge_vars it spots) (get_or full (length path) 0) ≡ Some c.in-Some.to = sym (c.next_taken.ensures ∙ (λ i. next_from point (pairs i) (read.here i))) ∙ c.in-Some.is in
          let goes = goes_next it sound spots c.requires.spots point full is (length path) read.low c.in-Some.to next in
          subst (λ (items : List Position). HasRead full items c.in-Some.to.0) (sym c.in_ok-push.ensures.items) (read_more full path c.loop.at c.in-Some.to.0 read goes.0 goes.1);
      count = ap length c.in_ok-push.ensures.items ∙ length_push path last ∙ ap (λ (n : ℕ). n + 1) c.loop.invariant.count;
    }

pub returns : goal.returns
returns c =
    let it = c.args.sound.now in
    let spots = c.args.spots.now in
    let point = c.args.point.now in
    let sound = c.edges-edges.ensures.sound in
    let found = one_path it sound spots c.requires.spots point c.requires.marks c.requires.holds in
    let read = c.loop.invariant.read found.0 found.1 in
    let low = few it sound spots c.requires.spots point found.0 found.1 (length c.loop.path.items) read.low in
    absurd (omega (arith, low, c.loop.invariant.count, c.loop-test.false, ap length c.order-blocks.ensures.order, length-map it.flow.order block_id))
