use Rattle.std.proofs.Common.{◌≡◌, ◌<◌, ℕ, List, Option, length, ◌+◌, ◌-◌, ◌≤◌, take, drop, sym, subst, arith, length-take, length-drop}
use Rattle.std.proofs.lemmas.List.{take_all}
use Rattle.std.proofs.Math.Seq.{take-add}
use Rattle.std.proofs.KnownBytes.{Appends-trans}
use Rattle.std.specs.Io.KnownBytes.{Appends}
use Rattle.wx_base.proofs.host_sink.write_all.Goals as goal

-- what one write was given
module _ (bytes : List ℕ) (written : ℕ) where
  abbrev rest : List ℕ
  rest = take (length bytes - written) (drop written bytes)

  rest-all : rest ≡ drop written bytes
  rest-all = take_all _ _ (omega (arith, length-drop written bytes))

  within : (count : ℕ) → written < length bytes → count ≤ length rest → written + count ≤ length bytes
  within count before bound = omega (arith, length-drop written bytes, length-take (length bytes - written) (drop written bytes))

  goes_on : (a b c : Option (List ℕ)) (count : ℕ) → Appends a b (take written bytes) → Appends b c (take count rest) → Appends a c (take (written + count) bytes)
  goes_on a b c count first second =
      let second_all = subst (λ (l : List ℕ). Appends b c (take count l)) rest-all second in
      subst (Appends a c) (sym (take-add written count bytes)) (Appends-trans a b c (take written bytes) (take count (drop written bytes)) first second_all)

pub loop-written-preserved : goal.loop-written-preserved
loop-written-preserved g c = record {
  within = within c.args.bytes.now c.loop-written.written c.in-Ok.count c.loop-written-test.true c.in-Ok.ensures.bound;
  known = goes_on c.args.bytes.now c.loop-written.written _ _ _ c.in-Ok.count c.loop-written.invariant.known c.in-Ok.ensures.bytes;
}
