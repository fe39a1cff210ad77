-- The objects, and then the heads.
use Rattle.std.proofs.lemmas.Result.{on_ok_weaker}
use Rattle.store_compact.proofs.Writes.{first-torn, all-torn, both-begin, both-told}
use Rattle.store_compact.proofs.writing.write_store.Goals as goal

pub returns-in_err-put_synced-clause-any_moment : goal.returns-in_err-put_synced-clause-any_moment
returns-in_err-put_synced-clause-any_moment g c =
    let laws = g.met.D.Disk in
    first-torn g.D.Disk laws.counts_now laws.only_now laws.reads_image laws.told c.args.objects.now c.args.heads.now c.args.disk.now _ c.put_synced.ensures.any_moment

pub returns-clause-any_moment : goal.returns-clause-any_moment
returns-clause-any_moment g c =
    let laws = g.met.D.Disk in
    all-torn g.D.Disk laws.counts_now laws.only_now laws.reads_image laws.told c.args.objects.now c.args.heads.now c.args.disk.now _ c.put_synced.ensures.any_moment _ c.put_synced-2.ensures.any_moment

pub returns-clause-begin : goal.returns-clause-begin
returns-clause-begin g c =
    let laws = g.met.D.Disk in
    on_ok_weaker _ (both-begin g.D.Disk laws.counts_now laws.only_now laws.reads_image laws.told c.args.objects.now c.args.heads.now c.args.disk.now _ _ c.in_ok-put_synced.ensures.put) c.put_synced-2.ensures.put

pub returns-clause-written : goal.returns-clause-written
returns-clause-written g c =
    on_ok_weaker _ (both-told c.args.objects.now c.args.heads.now _ _ _ c.in_ok-put_synced.ensures.written) c.put_synced-2.ensures.written
