use Rattle.std.proofs.Common.{ap}
use Rattle.branch_show.specs.Json.{key_member}
use Rattle.branch_show.proofs.Commas.{commas-written}
use Rattle.branch_show.proofs.Refused.{commas-part, on-err}
use Rattle.branch_show.proofs.json.put_keys.Goals as goal

pub loop-i-preserved : goal.loop-i-preserved
loop-i-preserved g c =
    let member = key_member (g.V.Asked.answers c.args.document.now) c.args.kind in
    commas-written member c.args.keys.now c.loop-i.i c.index-keys-i.result (member c.as_slice.result.now) c.args.out.now.items c.loop-i.out.items c.put_key.new.out.items
    c.loop-i-test.true c.index-keys-i.is (ap member c.as_slice.ensures.bytes) c.loop-i.invariant c.in_ok-put_key.ensures.ok

pub returns-in_err-put_key-clause-err : goal.returns-in_err-put_key-clause-err
returns-in_err-put_key-clause-err g c =
    let member = key_member (g.V.Asked.answers c.args.document.now) c.args.kind in
    on-err c.from_residual.result (commas-part member c.args.keys.now c.loop-i.i c.index-keys-i.result (member c.as_slice.result.now) c.args.out.now.items c.loop-i.out.items c.put_key.new.out.items
    c.loop-i-test.true c.index-keys-i.is (ap member c.as_slice.ensures.bytes) c.loop-i.invariant c.in_err-put_key.ensures.err)
