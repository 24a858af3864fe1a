use Rattle.std.proofs.Common.{sym}
use Rattle.ll_token.proofs.PieceLaws.{piece_of, StandsFor-push, whole_name}
use Rattle.ll_token.proofs.escapes.unescaped.Goals as goal

pub loop-byte-preserved : goal.loop-byte-preserved
loop-byte-preserved c =
    let found = piece_of c.loop-byte.rest.now (c.in-Some.byte, c.in-Some.after.now) (sym c.in-Some.ensures) in
    rw c.in_ok-push.ensures.items (StandsFor-push c.args.inner.now c.loop-byte.bytes.items c.loop-byte.rest.now found.0 c.in-Some.after.now c.in-Some.byte c.loop-byte.invariant found.1 found.2)

pub returns : goal.returns
returns c =
    rw c.from_vec.ensures (whole_name c.args.inner.now c.loop-byte.bytes.items c.loop-byte.rest.now c.requires c.loop-byte.invariant (sym c.in_default.ensures))
