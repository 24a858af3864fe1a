use Rattle.std.proofs.Common.{◌≡◌, ◌++◌, ◌∙◌, ℕ, ℤ, List, sym, ap, subst}
use Rattle.path_encoding.specs.Paths.{positions, IsTaken, AreMarks}
use Rattle.path_encoding.specs.Filled.{ChangesOnly, put_blocks, put_edges}
use Rattle.path_encoding.proofs.PutPathLaws.{new, keeps_others, marks_there, path_taken}
use Rattle.path_encoding.proofs.fill.fill_path.Goals.{After-put_edges}
use Rattle.path_encoding.proofs.fill.fill_path.Goals as goal

same : (c : After-put_edges) → c.put_edges.new.point ≡ new c.args.sound.now c.args.spots.now c.requires.spots c.args.point.now c.requires.known c.requires.apart (positions c.args.path.now)
same c =
    let path = positions c.args.path.now in
    let half : c.put_blocks.new.point ≡ put_blocks path 0 c.args.spots.now.blocks.items c.args.point.now = c.put_blocks.ensures ∙ ap (λ (vars : List ℕ). put_blocks path 0 vars c.args.point.now) c.as_slice-blocks.ensures.value in
    c.put_edges.ensures ∙ (λ i. put_edges path (c.edges-edges.ensures.edges i) (c.as_slice-vars.ensures.value i) (half i))

pub returns-clause-taken : goal.returns-clause-taken
returns-clause-taken c =
    let path = positions c.args.path.now in
    subst (λ (point : List ℤ). IsTaken c.args.sound.now c.args.spots.now point path) (sym (same (goal.at.returns-clause-taken c).After-put_edges))
    (path_taken c.args.sound.now c.args.spots.now c.requires.spots c.args.point.now c.requires.known c.requires.apart path c.requires.path c.requires.ends)

pub returns-clause-marks : goal.returns-clause-marks
returns-clause-marks c =
    subst (AreMarks c.args.spots.now) (sym (same (goal.at.returns-clause-marks c).After-put_edges))
    (marks_there c.args.sound.now c.args.spots.now c.requires.spots c.args.point.now c.requires.known c.requires.apart (positions c.args.path.now))

pub returns-clause-kept : goal.returns-clause-kept
returns-clause-kept c =
    let spots = c.args.spots.now in
    subst (ChangesOnly (spots.blocks.items ++ spots.edges.items) c.args.point.now) (sym (same (goal.at.returns-clause-kept c).After-put_edges))
    (keeps_others c.args.sound.now spots c.requires.spots c.args.point.now c.requires.known c.requires.apart (positions c.args.path.now))
