-- So many of the records are those of the history.
use Rattle.std.proofs.Common.{◌≡◌, ℕ, List, ◌∙◌, refl, sym, length, take, drop, Some, rules, subst}
use Rattle.std.specs.Prelude.{All, slice_get}
use Rattle.std.proofs.lemmas.Option.{slice_get_read}
use Rattle.branch_wire.specs.StoredObjects.{Begins}
use Rattle.heads_journal.specs.declared.record.Record.{Record}
use Rattle.heads_journal.specs.Format.{IsRecord}
use Rattle.branch_machine.specs.Fixed.{fix_in}
use Rattle.commit_replay.specs.Follows.{form_of}
use Rattle.commit_replay.specs.Walk.{IsWalked}
use Rattle.commit_replay.proofs.Walked.{walked-none, ahead-none, walked-more, left-more, walked-known, walk-stops, walked-all, walked-settled}
use Rattle.commit_replay.proofs.Lists.{All-at}
use Rattle.commit_replay.proofs.walk.replay.Goals as goal

is-record : (version : ℕ) (records : List Record) → All (IsRecord version) records → (n : ℕ) (r : Record) → slice_get records n ≡ Some r → IsRecord version r
is-record version records all n r comes = All-at (IsRecord version) records n r all comes

pub loop-next-init : goal.loop-next-init
loop-next-init g c =
    let m = g.T.Mrdt.meaning in
    let objects = c.args.objects.items in
    let first = c.in-Ok.first.items in
    let starts : take (length first) objects ≡ first = search rules in
    let left : c.take.new.self ≡ drop (length first) objects = search rules in
    let fresh = c.keep_folds.ensures ∙ c.in-Ok-fresh.ensures in (
      walked-none m g.A.Address.address c.args.terms c.args.version c.args.records.now objects c.keep_folds.new.self fresh (subst (λ text. Begins text objects) (c.in-Ok.ensures c.args.terms refl) starts),
      ahead-none m g.A.Address.address c.args.terms c.args.version c.args.records.now objects c.keep_folds.new.self fresh first c.take.new.self (c.in-Ok.ensures c.args.terms refl) left,
    )

pub replay_record-requires-clause-known : goal.replay_record-requires-clause-known
replay_record-requires-clause-known g c =
    let comes : slice_get c.args.records.now c.loop-next.next-index ≡ Some c.next-item.result = slice_get_read c.args.records.now (length c.args.records.now) c.loop-next.next-index c.next-item.result refl c.loop-next-test.true c.next-item.is in
    λ _ _. walked-known g.T.Mrdt.meaning g.A.Address.address c.args.terms c.args.version c.args.records.now c.args.objects.items c.loop-next.recorded c.loop-next.next-index c.loop-next.invariant.0 c.next-item.result comes

pub returns-in-Err-clause-refused : goal.returns-in-Err-clause-refused
returns-in-Err-clause-refused g c =
    let comes : slice_get c.args.records.now c.loop-next.next-index ≡ Some c.next-item.result = slice_get_read c.args.records.now (length c.args.records.now) c.loop-next.next-index c.next-item.result refl c.loop-next-test.true c.next-item.is in
    walk-stops g.T.Mrdt.meaning g.A.Address.address c.args.terms c.args.version c.args.records.now c.args.objects.items c.loop-next.recorded c.loop-next.next-index c.loop-next.invariant.0 c.next-item.result comes
    c.loop-next.ahead c.loop-next.invariant.1 c.in-Err.refused c.in-Err.ensures.stops

pub loop-next-preserved : goal.loop-next-preserved
loop-next-preserved g c =
    let comes : slice_get c.args.records.now c.loop-next.next-index ≡ Some c.next-item.result = slice_get_read c.args.records.now (length c.args.records.now) c.loop-next.next-index c.next-item.result refl c.loop-next-test.true c.next-item.is in
    let next = c.next-item.result in
    let new = c.replay_record.new.recorded in
    let of = is-record c.args.version c.args.records.now c.requires c.loop-next.next-index next comes in (
      walked-more g.T.Mrdt.meaning g.A.Address.address c.args.terms c.args.version c.args.records.now c.args.objects.items c.loop-next.recorded c.loop-next.next-index c.loop-next.invariant.0 next comes
          c.loop-next.ahead c.loop-next.invariant.1 new of c.in_default-replay_record.ensures.read c.in_default-replay_record.ensures.went,
      left-more g.T.Mrdt.meaning g.A.Address.address c.args.terms c.args.version c.args.records.now c.args.objects.items c.loop-next.recorded c.loop-next.next-index c.loop-next.invariant.0 next comes
          c.loop-next.ahead c.loop-next.invariant.1 new c.in_default-replay_record.ensures.went c.replay_record.new.ahead c.in_default-replay_record.ensures.left,
    )

pub returns-clause-settled : goal.returns-clause-settled
returns-clause-settled g c =
    let r = c.drop_folds.new.self in
    let end : c.loop-next.next-index ≡ length c.args.records.now = search rules in
    walked-settled g.T.Mrdt.meaning g.A.Address.address c.args.terms c.args.version c.args.records.now c.args.objects.items r
    (subst (λ n. IsWalked (fix_in (form_of c.args.version) g.T.Mrdt.meaning c.args.terms g.A.Address.address) r n c.args.records.now c.args.objects.items) end (subst (λ recorded. IsWalked (fix_in (form_of c.args.version) g.T.Mrdt.meaning c.args.terms g.A.Address.address) recorded c.loop-next.next-index c.args.records.now c.args.objects.items) (sym c.drop_folds.ensures) c.loop-next.invariant.0))

pub returns-clause-replayed : goal.returns-clause-replayed
returns-clause-replayed g c = (subst (λ recorded. IsWalked (fix_in (form_of c.args.version) g.T.Mrdt.meaning c.args.terms g.A.Address.address) recorded c.loop-next.next-index c.args.records.now c.args.objects.items) (sym c.drop_folds.ensures) c.loop-next.invariant.0).follows

pub returns-clause-all : goal.returns-clause-all
returns-clause-all g c =
    let r = c.drop_folds.new.self in
    let end : c.loop-next.next-index ≡ length c.args.records.now = search rules in
    walked-all g.T.Mrdt.meaning g.A.Address.address c.args.terms c.args.version c.args.records.now c.args.objects.items r
    (subst (λ n. IsWalked (fix_in (form_of c.args.version) g.T.Mrdt.meaning c.args.terms g.A.Address.address) r n c.args.records.now c.args.objects.items) end (subst (λ recorded. IsWalked (fix_in (form_of c.args.version) g.T.Mrdt.meaning c.args.terms g.A.Address.address) recorded c.loop-next.next-index c.args.records.now c.args.objects.items) (sym c.drop_folds.ensures) c.loop-next.invariant.0))
