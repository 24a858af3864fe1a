use Rattle.std.proofs.Common.{◌≡◌, ℕ, Bool, true, length, length-set, refl, sym, subst, ◌∙◌, arith}
use Rattle.std.proofs.lemmas.Bool.{false≢true}
use Rattle.flow_graph.proofs.MarkingLaws.{Marked, marked_all, step_past, step_on}
use Rattle.flow_graph.proofs.reach.mark_reached.Goals as goal
use Rattle.flow_graph.proofs.reach.mark_reached.Goals.{then-edge-without+then-reached-edge, else-edge-without, else-edge-without-via-then-edge-without+else-reached-edge, else-edge-without-via-else-edge-without}

pub loop-edge-preserved : goal.loop-edge-preserved
loop-edge-preserved c =
    let size : length c.args.reached.now ≡ length c.loop-edge.reached = omega (arith, length-set {A = Bool} c.fill.new.self c.args.entry true, c.loop-edge.auto.reached, c.fill.ensures.len) in
    elim c.if-edge-without.branch [
      | then-edge-without+then-reached-edge w ↦
          step_on c.args.edges.now c.args.entry c.args.without c.loop-edge.edge-index c.loop-edge.reached c.if-edge-without.reached _ c.loop-edge-test.true refl c.loop-edge.invariant (length c.args.reached.now) c.requires.forward size w.reached-is w.if-reached-edge.true w.if-edge-without.true
      | else-edge-without w ↦
          elim w.else-edge-without.branch [
            | else-edge-without-via-then-edge-without+else-reached-edge w' ↦
                step_past c.args.edges.now c.args.entry c.args.without c.loop-edge.edge-index c.loop-edge.reached c.if-edge-without.reached _ c.loop-edge-test.true refl c.loop-edge.invariant w.reached-is (λ marked around. false≢true (sym w'.if-reached-edge.false ∙ marked))
            | else-edge-without-via-else-edge-without w' ↦
                step_past c.args.edges.now c.args.entry c.args.without c.loop-edge.edge-index c.loop-edge.reached c.if-edge-without.reached _ c.loop-edge-test.true refl c.loop-edge.invariant w.reached-is (λ marked around. around w'.if-edge-without.false)
          ]
    ]

pub returns : goal.returns
returns c =
    let ended : c.loop-edge.edge-index ≡ length c.args.edges.now = omega arith in
    λ block within. marked_all c.args.edges.now c.args.entry c.args.without (length c.loop-edge.reached) c.loop-edge.reached (subst (λ (n : ℕ). Marked c.args.edges.now c.args.entry c.args.without (length c.loop-edge.reached) n c.loop-edge.reached) ended c.loop-edge.invariant) block within
