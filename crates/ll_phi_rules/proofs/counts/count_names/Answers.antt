use Rattle.std.proofs.Common.{◌≡◌, ◌≤◌, ℕ, Bor, List, [], get_or, replicate, refl, ◌∙◌, ap, rules}
use Rattle.std.proofs.lemmas.List.{get_or_default}
use Rattle.ll_phi_rules.proofs.CountLaws.{counted-nothing, next-none, next-some, place-counted, count-few}
use Rattle.ll_phi_rules.proofs.counts.count_names.Goals as goal

abbrev none : Bor (List ℕ)
none = record { ref_ptr = (0, 0); now = [] }

pub loop-name-init : goal.loop-name-init
loop-name-init c = c.in_ok-counts.ensures.items_if_clones_equal (λ y is. is) ∙ ap (λ n. replicate n 0) c.len.ensures ∙ counted-nothing c.args.labels.now

pub overflow_add-index_mut : goal.overflow_add-index_mut
overflow_add-index_mut c =
    let counts = c.loop-name.counts.items in
    let name = get_or c.args.names.now c.loop-name.name-index none in
    let there = place-counted c.args.labels.now c.args.names.now c.loop-name.name-index name none c.loop-name-test.true refl counts c.loop-name.invariant c.in-Some.place c.in-Some.ensures.place c.in-Some.ensures.within in
    let value : c.index_mut.result.now ≡ get_or counts c.in-Some.place 0 = c.index_mut.ensures.value ∙ get_or_default counts c.in-Some.place c.index_mut.result.now 0 there in
    let few : c.index_mut.result.now ≤ c.loop-name.name-index =
    rw value (count-few c.args.labels.now c.args.names.now c.loop-name.name-index name none c.loop-name-test.true refl counts c.loop-name.invariant c.in-Some.place c.in-Some.ensures.place c.in-Some.ensures.within) in
    search rules

pub loop-name-preserved : goal.loop-name-preserved
loop-name-preserved c =
    let counts = c.loop-name.counts.items in
    let name = get_or c.args.names.now c.loop-name.name-index none in
    let there = place-counted c.args.labels.now c.args.names.now c.loop-name.name-index name none c.loop-name-test.true refl counts c.loop-name.invariant c.in-Some.place c.in-Some.ensures.place c.in-Some.ensures.within in
    let value : c.index_mut.result.now ≡ get_or counts c.in-Some.place 0 = c.index_mut.ensures.value ∙ get_or_default counts c.in-Some.place c.index_mut.result.now 0 there in
    rw value (next-some c.args.labels.now c.args.names.now c.loop-name.name-index name none c.loop-name-test.true refl counts c.loop-name.invariant c.in-Some.place c.in-Some.ensures.place c.requires)

pub loop-name-preserved-in_default : goal.loop-name-preserved-in_default
loop-name-preserved-in_default c =
    next-none c.args.labels.now c.args.names.now c.loop-name.name-index (get_or c.args.names.now c.loop-name.name-index none) none c.loop-name-test.true refl c.loop-name.counts.items c.loop-name.invariant c.in_default.ensures.place
