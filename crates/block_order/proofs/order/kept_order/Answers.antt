use Rattle.std.proofs.Common.{◌≡◌, ◌<◌, ℕ, Bool, true, false, List, length, get_or, subst, refl, arith, length-set, length-take, length-append, length-drop}
use Rattle.block_order.specs.Marks.{IsFirstFree}
use Rattle.block_order.proofs.AcyclicLaws.{no_cycle}
use Rattle.block_order.proofs.TakingLaws.{left_falls, taken_first, taken_more, taken_all, each_taken}
use Rattle.block_order.proofs.order.kept_order.Goals as goal

pub loop-block-init : goal.loop-block-init
loop-block-init c =
    let taken = c.in_ok-taken.ensures.items_if_clones_equal (λ y is. is) in
    let blocked = c.in_ok-blocked.ensures.items_if_clones_equal (λ y is. is) in
    record {
      taken = taken_first c.args.blocks c.args.edges.now c.in_ok-taken.taken.items c.new-order.result.items taken c.new-order.ensures.items;
      room = rw (taken, blocked) refl;
    }

pub loop-block-preserved : goal.loop-block-preserved
loop-block-preserved c =
    let first : IsFirstFree c.args.edges.now c.loop-block.taken.items c.in-Some.block = subst (λ (marks : List Bool). IsFirstFree c.args.edges.now marks c.in-Some.block) c.deref.ensures.value c.in-Some.ensures in
    let more = taken_more c.args.blocks c.args.edges.now c.loop-block.taken.items c.loop-block.order.items c.in-Some.block c.requires c.loop-block.invariant.taken first in
    record {
      taken = rw c.in_ok-push.ensures.items more;
      room = simp (length-take, length-append, length-drop, length-set) (omega (arith, c.next_ready.auto.blocked, c.deref_mut.ensures.len, c.loop-block.invariant.room, c.loop-block.blocked.ok.0));
    }

pub loop-block-smaller : goal.loop-block-smaller
loop-block-smaller c =
    let first : IsFirstFree c.args.edges.now c.loop-block.taken.items c.in-Some.block = subst (λ (marks : List Bool). IsFirstFree c.args.edges.now marks c.in-Some.block) c.deref.ensures.value c.in-Some.ensures in
    left_falls c.loop-block.taken.items c.in-Some.block first.within first.free.0

pub returns-in-None-clause-orders : goal.returns-in-None-clause-orders
returns-in-None-clause-orders c =
    rw c.from_vec.ensures (taken_all c.args.blocks c.args.edges.now c.loop-block.taken.items c.loop-block.order.items c.loop-block.invariant.taken (subst (λ (marks : List Bool). (block : ℕ) → block < length marks → get_or marks block false ≡ true) c.deref-2.ensures.value c.in-None.ensures))

pub returns-in-None-clause-size : goal.returns-in-None-clause-size
returns-in-None-clause-size c =
    rw c.from_vec.ensures (each_taken c.args.blocks c.args.edges.now c.loop-block.taken.items c.loop-block.order.items c.loop-block.invariant.taken (subst (λ (marks : List Bool). (block : ℕ) → block < length marks → get_or marks block false ≡ true) c.deref-2.ensures.value c.in-None.ensures))

pub returns-in-None-clause-acyclic : goal.returns-in-None-clause-acyclic
returns-in-None-clause-acyclic c =
    no_cycle c.args.blocks c.args.edges.now c.loop-block.order.items c.requires (taken_all c.args.blocks c.args.edges.now c.loop-block.taken.items c.loop-block.order.items c.loop-block.invariant.taken (subst (λ (marks : List Bool). (block : ℕ) → block < length marks → get_or marks block false ≡ true) c.deref-2.ensures.value c.in-None.ensures))
