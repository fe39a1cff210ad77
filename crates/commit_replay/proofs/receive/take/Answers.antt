-- The item is answered in one way, so a move that the machine makes of it is the one that was made.
use Rattle.std.proofs.Common.{subst}
use Rattle.branch_history.specs.Steps as machine
use Rattle.branch_machine.specs.Fixed.{fix}
use Rattle.branch_machine.specs.Objects.{Pair}
use Rattle.branch_machine.specs.Validity.{IsFullyValid}
use Rattle.recorded_history.specs.Receives.{ReceivesItem, HasItsRecord, item_arrived, item_refused}
use Rattle.commit_replay.proofs.Looked.{settled-moves}
use Rattle.commit_replay.proofs.Received.{still-taken, refused-taken, new-taken}
use Rattle.commit_replay.proofs.receive.take.Goals as goal

pub returns-in-Ok-New : goal.returns-in-Ok-New
returns-in-Ok-New g c =
    let r = c.args.recorded.now in
    let fixed = fix g.T.Mrdt.meaning r.terms g.A.Address.address in
    let laws = (g.met.T.Mrdt g.world.𝓛 g.world.𝓜 g.world.𝓡 ((λ s x. x), (λ x. x), (λ x. x), λ x. x)).laws in
    let valid = subst (IsFullyValid fixed) (settled-moves r.written r.pending c.requires.settled) c.moves-before.ensures.valid in
    let item : Pair = record { value = c.args.value.now; commit = c.args.commit.now } in
    let mid = c.receive.new.self in
    let is = subst (λ a. ReceivesItem fixed item r mid (item_arrived a)) c.in-Ok-New.field-0-is c.in-Ok-New.ensures.receives in
    let recorded = subst (HasItsRecord fixed mid) c.in-Ok-New.field-0-is c.in-Ok-New.ensures.recorded in
    new-taken g.T.Mrdt.meaning laws g.A.Address.address g.met.A.Address.size r c.keep_if_same.new.recorded valid c.requires.settled item c.counted-length.ensures c.args.next.now c.args.bytes.now
    mid (machine.New c.in-Ok-New.field-0-0) c.in-Ok-New.field-0-1 is c.in-Ok-New.own recorded c.moves-moves.ensures.valid c.keep_if_same.result c.keep_if_same.ensures

pub returns-in-Ok-Here : goal.returns-in-Ok-Here
returns-in-Ok-Here g c =
    let r = c.args.recorded.now in
    let fixed = fix g.T.Mrdt.meaning r.terms g.A.Address.address in
    let laws = (g.met.T.Mrdt g.world.𝓛 g.world.𝓜 g.world.𝓡 ((λ s x. x), (λ x. x), (λ x. x), λ x. x)).laws in
    let valid = subst (IsFullyValid fixed) (settled-moves r.written r.pending c.requires.settled) c.moves-before.ensures.valid in
    let item : Pair = record { value = c.args.value.now; commit = c.args.commit.now } in
    let is = subst (λ a. ReceivesItem fixed item r c.receive.new.self (item_arrived a)) c.in-Ok-Here.field-0-is c.in-Ok-Here.ensures.receives in
    still-taken g.T.Mrdt.meaning laws g.A.Address.address g.met.A.Address.size r c.receive.new.self valid c.requires.settled item c.counted-length.ensures c.args.next.now c.args.bytes.now (machine.Here c.in-Ok-Here.field-0-0) is

pub returns-in-Err-BadBundle : goal.returns-in-Err-BadBundle
returns-in-Err-BadBundle g c =
    let r = c.args.recorded.now in
    let fixed = fix g.T.Mrdt.meaning r.terms g.A.Address.address in
    let laws = (g.met.T.Mrdt g.world.𝓛 g.world.𝓜 g.world.𝓡 ((λ s x. x), (λ x. x), (λ x. x), λ x. x)).laws in
    let valid = subst (IsFullyValid fixed) (settled-moves r.written r.pending c.requires.settled) c.moves-before.ensures.valid in
    let item : Pair = record { value = c.args.value.now; commit = c.args.commit.now } in
    let is = subst (λ e. ReceivesItem fixed item r c.receive.new.self (item_refused e)) c.in-Err-BadBundle.field-0-is c.in-Err-BadBundle.ensures.receives in
    refused-taken g.T.Mrdt.meaning laws g.A.Address.address g.met.A.Address.size r c.receive.new.self valid c.requires.settled item c.counted-length.ensures c.args.next.now c.args.bytes.now machine.BadBundle is

pub returns-in-Err-OwnOrigin : goal.returns-in-Err-OwnOrigin
returns-in-Err-OwnOrigin g c =
    let r = c.args.recorded.now in
    let fixed = fix g.T.Mrdt.meaning r.terms g.A.Address.address in
    let laws = (g.met.T.Mrdt g.world.𝓛 g.world.𝓜 g.world.𝓡 ((λ s x. x), (λ x. x), (λ x. x), λ x. x)).laws in
    let valid = subst (IsFullyValid fixed) (settled-moves r.written r.pending c.requires.settled) c.moves-before.ensures.valid in
    let item : Pair = record { value = c.args.value.now; commit = c.args.commit.now } in
    let is = subst (λ e. ReceivesItem fixed item r c.receive.new.self (item_refused e)) c.in-Err-OwnOrigin.field-0-is c.in-Err-OwnOrigin.ensures.receives in
    refused-taken g.T.Mrdt.meaning laws g.A.Address.address g.met.A.Address.size r c.receive.new.self valid c.requires.settled item c.counted-length.ensures c.args.next.now c.args.bytes.now machine.OwnOrigin is

pub returns-in-Err-TimeClash : goal.returns-in-Err-TimeClash
returns-in-Err-TimeClash g c =
    let r = c.args.recorded.now in
    let fixed = fix g.T.Mrdt.meaning r.terms g.A.Address.address in
    let laws = (g.met.T.Mrdt g.world.𝓛 g.world.𝓜 g.world.𝓡 ((λ s x. x), (λ x. x), (λ x. x), λ x. x)).laws in
    let valid = subst (IsFullyValid fixed) (settled-moves r.written r.pending c.requires.settled) c.moves-before.ensures.valid in
    let item : Pair = record { value = c.args.value.now; commit = c.args.commit.now } in
    let is = subst (λ e. ReceivesItem fixed item r c.receive.new.self (item_refused e)) c.in-Err-TimeClash.field-0-is c.in-Err-TimeClash.ensures.receives in
    refused-taken g.T.Mrdt.meaning laws g.A.Address.address g.met.A.Address.size r c.receive.new.self valid c.requires.settled item c.counted-length.ensures c.args.next.now c.args.bytes.now (machine.TimeClash c.in-Err-TimeClash.field-0-0) is

pub returns-in-Err-Exhausted : goal.returns-in-Err-Exhausted
returns-in-Err-Exhausted g c =
    let r = c.args.recorded.now in
    let fixed = fix g.T.Mrdt.meaning r.terms g.A.Address.address in
    let laws = (g.met.T.Mrdt g.world.𝓛 g.world.𝓜 g.world.𝓡 ((λ s x. x), (λ x. x), (λ x. x), λ x. x)).laws in
    let valid = subst (IsFullyValid fixed) (settled-moves r.written r.pending c.requires.settled) c.moves-before.ensures.valid in
    let item : Pair = record { value = c.args.value.now; commit = c.args.commit.now } in
    let is = subst (λ e. ReceivesItem fixed item r c.receive.new.self (item_refused e)) c.in-Err-Exhausted.field-0-is c.in-Err-Exhausted.ensures.receives in
    refused-taken g.T.Mrdt.meaning laws g.A.Address.address g.met.A.Address.size r c.receive.new.self valid c.requires.settled item c.counted-length.ensures c.args.next.now c.args.bytes.now (machine.Exhausted c.in-Err-Exhausted.field-0-0) is

pub returns-in-Err-ValueTooLarge : goal.returns-in-Err-ValueTooLarge
returns-in-Err-ValueTooLarge g c =
    let r = c.args.recorded.now in
    let fixed = fix g.T.Mrdt.meaning r.terms g.A.Address.address in
    let laws = (g.met.T.Mrdt g.world.𝓛 g.world.𝓜 g.world.𝓡 ((λ s x. x), (λ x. x), (λ x. x), λ x. x)).laws in
    let valid = subst (IsFullyValid fixed) (settled-moves r.written r.pending c.requires.settled) c.moves-before.ensures.valid in
    let item : Pair = record { value = c.args.value.now; commit = c.args.commit.now } in
    let is = subst (λ e. ReceivesItem fixed item r c.receive.new.self (item_refused e)) c.in-Err-ValueTooLarge.field-0-is c.in-Err-ValueTooLarge.ensures.receives in
    refused-taken g.T.Mrdt.meaning laws g.A.Address.address g.met.A.Address.size r c.receive.new.self valid c.requires.settled item c.counted-length.ensures c.args.next.now c.args.bytes.now (machine.ValueTooLarge c.in-Err-ValueTooLarge.field-0-0) is

pub returns-in-Err-FullCommits : goal.returns-in-Err-FullCommits
returns-in-Err-FullCommits g c =
    let r = c.args.recorded.now in
    let fixed = fix g.T.Mrdt.meaning r.terms g.A.Address.address in
    let laws = (g.met.T.Mrdt g.world.𝓛 g.world.𝓜 g.world.𝓡 ((λ s x. x), (λ x. x), (λ x. x), λ x. x)).laws in
    let valid = subst (IsFullyValid fixed) (settled-moves r.written r.pending c.requires.settled) c.moves-before.ensures.valid in
    let item : Pair = record { value = c.args.value.now; commit = c.args.commit.now } in
    let is = subst (λ e. ReceivesItem fixed item r c.receive.new.self (item_refused e)) c.in-Err-FullCommits.field-0-is c.in-Err-FullCommits.ensures.receives in
    refused-taken g.T.Mrdt.meaning laws g.A.Address.address g.met.A.Address.size r c.receive.new.self valid c.requires.settled item c.counted-length.ensures c.args.next.now c.args.bytes.now (machine.FullCommits c.in-Err-FullCommits.field-0-0) is

pub returns-in-Err-FullMoves : goal.returns-in-Err-FullMoves
returns-in-Err-FullMoves g c =
    let r = c.args.recorded.now in
    let fixed = fix g.T.Mrdt.meaning r.terms g.A.Address.address in
    let laws = (g.met.T.Mrdt g.world.𝓛 g.world.𝓜 g.world.𝓡 ((λ s x. x), (λ x. x), (λ x. x), λ x. x)).laws in
    let valid = subst (IsFullyValid fixed) (settled-moves r.written r.pending c.requires.settled) c.moves-before.ensures.valid in
    let item : Pair = record { value = c.args.value.now; commit = c.args.commit.now } in
    let is = subst (λ e. ReceivesItem fixed item r c.receive.new.self (item_refused e)) c.in-Err-FullMoves.field-0-is c.in-Err-FullMoves.ensures.receives in
    refused-taken g.T.Mrdt.meaning laws g.A.Address.address g.met.A.Address.size r c.receive.new.self valid c.requires.settled item c.counted-length.ensures c.args.next.now c.args.bytes.now (machine.FullMoves c.in-Err-FullMoves.field-0-0) is

pub returns : goal.returns
returns g c =
    let r = c.args.recorded.now in
    let fixed = fix g.T.Mrdt.meaning r.terms g.A.Address.address in
    let laws = (g.met.T.Mrdt g.world.𝓛 g.world.𝓜 g.world.𝓡 ((λ s x. x), (λ x. x), (λ x. x), λ x. x)).laws in
    let valid = subst (IsFullyValid fixed) (settled-moves r.written r.pending c.requires.settled) c.moves-before.ensures.valid in
    let item : Pair = record { value = c.args.value.now; commit = c.args.commit.now } in
    let is = subst (λ e. ReceivesItem fixed item r c.receive.new.self (item_refused e)) c.in-Err-Collision.field-0-is c.in-Err-Collision.ensures.receives in
    refused-taken g.T.Mrdt.meaning laws g.A.Address.address g.met.A.Address.size r c.receive.new.self valid c.requires.settled item c.counted-length.ensures c.args.next.now c.args.bytes.now (machine.Collision c.in-Err-Collision.field-0-0 c.in-Err-Collision.field-0-1 c.in-Err-Collision.field-0-2) is
