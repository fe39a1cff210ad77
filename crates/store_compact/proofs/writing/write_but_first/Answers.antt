-- The first byte, the objects, and then the heads behind that byte.
use Rattle.std.proofs.Common.{◌≡◌, ◌-◌, ℕ, List, length, take, drop, arith}
use Rattle.std.proofs.lemmas.List.{take_all, length-drop}
use Rattle.std.proofs.lemmas.Result.{on_ok_weaker}
use Rattle.store_compact.proofs.Writes.{second-begin, all-told}
use Rattle.store_compact.proofs.writing.write_but_first.Goals as goal

-- all bytes behind the first
abbrev behind : List ℕ → List ℕ
behind heads = take (length heads - 1) (drop 1 heads)

behind-all : (heads : List ℕ) → behind heads ≡ drop 1 heads
behind-all heads = take_all (length heads - 1) (drop 1 heads) (omega (arith, length-drop 1 heads))

pub returns-clause-begin : goal.returns-clause-begin
returns-clause-begin g c =
    let laws = g.met.D.Disk in
    on_ok_weaker _
    (second-begin g.D.Disk laws.counts_now laws.only_now laws.reads_image laws.told c.args.objects.now c.args.heads.now c.requires.first (behind c.args.heads.now) (behind-all c.args.heads.now) c.args.disk.now c.give_first.new.disk c.put_synced.new.disk
    c.give_first.ensures.never_current c.in_ok-give_first.ensures.other c.put_synced.ensures.any_moment c.in_ok-put_synced.ensures.put c.put_synced-2.new.disk c.put_synced-2.ensures.any_moment)
    c.put_synced-2.ensures.put

pub returns-clause-written : goal.returns-clause-written
returns-clause-written g c =
    let laws = g.met.D.Disk in
    on_ok_weaker _
    (all-told g.D.Disk laws.counts_now laws.only_now laws.reads_image laws.told c.args.objects.now c.args.heads.now c.requires.first (behind c.args.heads.now) (behind-all c.args.heads.now) _ _ _ _ c.in_ok-give_first.ensures.kept c.in_ok-put_synced.ensures.written)
    c.put_synced-2.ensures.written
