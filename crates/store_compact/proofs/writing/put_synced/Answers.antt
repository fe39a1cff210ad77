-- What is sure after the sync was written.
use Rattle.std.proofs.lemmas.Result.{on_ok_weaker}
use Rattle.store_compact.proofs.Writes.{has-put, wrote-synced}
use Rattle.store_compact.proofs.writing.put_synced.Goals as goal

pub returns-clause-put : goal.returns-clause-put
returns-clause-put g c =
    let laws = g.met.D.Disk in
    on_ok_weaker _ (has-put g.D.Disk laws.counts_now laws.only_now laws.reads_image laws.told c.args.part c.args.at c.args.bytes.now c.args.disk.now _ c.sync.new.self (wrote-synced g.D.Disk laws.counts_now laws.only_now laws.reads_image laws.told _ _ _ _ c.write_at.ensures.moments c.sync.ensures.moments) c.in_ok-write_at.ensures.written) c.sync.ensures.durable
