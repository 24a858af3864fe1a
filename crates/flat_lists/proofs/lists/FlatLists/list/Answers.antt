use Rattle.std.proofs.Common.{◌<◌, ap, length, rules}
use Rattle.flat_lists.proofs.PieceLaws.{bounds_of, list_at}
use Rattle.flat_lists.proofs.lists.FlatLists.list.Goals as goal
use Rattle.std.proofs.Common.{refl, get_or, ◌∷◌, arith}
use Rattle.std.proofs.lemmas.List.{length-drop}

pub start_of-start-requires : goal.start_of-start-requires
start_of-start-requires g c = (bounds_of c.self.inside.ends.items c.as_slice-ends.result.now c.self.inside.items.items c.args.self.now c.args.at (get_or (0 ∷ c.as_slice-ends.result.now) c.args.at 0) c.as_slice-ends.ensures.value c.self.view_is c.self.invariant c.requires refl).within

pub offset_bounds-ends-at : goal.offset_bounds-ends-at
offset_bounds-ends-at g c =
    let bounds = bounds_of c.self.inside.ends.items c.as_slice-ends.result.now c.self.inside.items.items c.args.self.now c.args.at c.start_of-start.result c.as_slice-ends.ensures.value c.self.view_is c.self.invariant c.requires c.start_of-start.ensures in
    let within : c.args.at < length c.as_slice-ends.result.now = bounds.within in
    search rules

pub bounds-ends-at : goal.bounds-ends-at
bounds-ends-at g c = (bounds_of c.self.inside.ends.items c.as_slice-ends.result.now c.self.inside.items.items c.args.self.now c.args.at c.start_of-start.result c.as_slice-ends.ensures.value c.self.view_is c.self.invariant c.requires c.start_of-start.ensures).within

pub overflow_sub-size : goal.overflow_sub-size
overflow_sub-size g c = (bounds_of c.self.inside.ends.items c.as_slice-ends.result.now c.self.inside.items.items c.args.self.now c.args.at c.start_of-start.result c.as_slice-ends.ensures.value c.self.view_is c.self.invariant c.requires c.start_of-start.ensures).order

pub split_at-requires : goal.split_at-requires
split_at-requires g c =
    let bounds = bounds_of c.self.inside.ends.items c.as_slice-ends.result.now c.self.inside.items.items c.args.self.now c.args.at c.start_of-start.result c.as_slice-ends.ensures.value c.self.view_is c.self.invariant c.requires c.start_of-start.ensures in
    omega (arith, bounds.order, bounds.inside, ap length c.as_slice.ensures.value)

pub split_at-requires-2 : goal.split_at-requires-2
split_at-requires-2 g c =
    let bounds = bounds_of c.self.inside.ends.items c.as_slice-ends.result.now c.self.inside.items.items c.args.self.now c.args.at c.start_of-start.result c.as_slice-ends.ensures.value c.self.view_is c.self.invariant c.requires c.start_of-start.ensures in
    omega (arith, bounds.order, bounds.inside, ap length c.as_slice.ensures.value, ap length c.split_at.ensures.back, length-drop c.start_of-start.result c.as_slice.result.now)

pub returns : goal.returns
returns g c = list_at c.self.inside.ends.items c.as_slice-ends.result.now c.self.inside.items.items c.as_slice.result.now c.split_at.result.1.now c.split_at-2.result.0.now c.args.self.now c.args.at c.start_of-start.result c.as_slice-ends.ensures.value c.as_slice.ensures.value c.self.view_is c.requires c.start_of-start.ensures c.split_at.ensures.back c.split_at-2.ensures.front
