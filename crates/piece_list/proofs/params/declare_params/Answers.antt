use Rattle.std.proofs.Common.{◌≡◌, ◌∙◌, ◌<◌, ℕ, List, length, get_or, ap, sym, subst, refl, arith}
use Rattle.std.proofs.Math.ListN.{length-set}
use Rattle.std.proofs.lemmas.List.Elements.{All-get_or}
use Rattle.ll_tree.specs.Formed.{IsFormedParam}
use Rattle.ll_tree.specs.declared.func.Func.{Func}
use Rattle.ll_tree.specs.declared.func.Param.{Param}
use Rattle.piece_list.specs.Drafts.{AreLeft}
use Rattle.piece_list.proofs.ParamLaws.{left_first, left_more}
use Rattle.piece_list.proofs.params.declare_params.Goals as goal

pub loop-at-init : goal.loop-at-init
loop-at-init c = (omega arith, left_first c.args.sound.now c.args.into.now c.requires.none c.requires.exist c.requires.room)

pub declare_param-requires : goal.declare_param-requires
declare_param-requires c =
    let it = c.args.sound.now in
    let at = c.loop-at.at in
    let param = c.index-params-at.result in
    let list : c.items-params.result.now ≡ it.func.params = c.items-params.ensures ∙ ap (λ (func : Func). func.params) c.func.ensures.func in
    let low : at < length it.func.params = subst (λ (params : List Param). at < length params) list c.loop-at-test.true in
    let is : get_or it.func.params at param ≡ param = ap (λ (params : List Param). get_or params at param) (sym list) ∙ sym c.index-params-at.is in
    record {
      formed = subst IsFormedParam is (All-get_or IsFormedParam it.func.params at param low c.func.ensures.rules.formed.params);
      room = omega (arith, c.loop-at.invariant.1.room, low, c.func.ensures.rules.limits.params);
    }

pub loop-at-preserved : goal.loop-at-preserved
loop-at-preserved c =
    let it = c.args.sound.now in
    let at = c.loop-at.at in
    let param = c.index-params-at.result in
    let draft = c.loop-at.into in
    let list : c.items-params.result.now ≡ it.func.params = c.items-params.ensures ∙ ap (λ (func : Func). func.params) c.func.ensures.func in
    let low : at < length it.func.params = subst (λ (params : List Param). at < length params) list c.loop-at-test.true in
    let is : get_or it.func.params at param ≡ param = ap (λ (params : List Param). get_or params at param) (sym list) ∙ sym c.index-params-at.is in
    let fits : at < length draft.spots.values.items = omega (arith, low, c.requires.values, c.loop-at.invariant.1.same.count) in (
      omega (arith, low),
      left_more it c.args.into.now at draft _ param c.loop-at.invariant.1 low is fits c.in_ok-vars.vars
          (record {
            vars_are = c.in_ok-vars.ensures.vars;
            grown = c.in_ok-vars.ensures.system;
            placed = c.in_ok-vars.ensures.placed;
            stand = c.in_ok-vars.ensures.stand;
            compact = c.in_ok-vars.ensures.compact;
          })
          refl (record { blocks = refl; edges = refl; cases = refl; constants = refl; count = length-set draft.spots.values.items at c.in_ok-vars.vars }),
    )

pub returns : goal.returns
returns c =
    let it = c.args.sound.now in
    let list : c.items-params.result.now ≡ it.func.params = c.items-params.ensures ∙ ap (λ (func : Func). func.params) c.func.ensures.func in
    let all : c.loop-at.at ≡ length it.func.params = omega (arith, c.loop-at-test.false, ap length list, c.loop-at.invariant.0) in
    subst (λ (at : ℕ). AreLeft it at c.args.into.now c.loop-at.into) all c.loop-at.invariant.1
