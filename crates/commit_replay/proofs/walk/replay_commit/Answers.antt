-- What the objects of a commit are refused for, in the form of the version.
use Rattle.std.proofs.Common.{◌≡◌, ℕ, ◌-◌, ◌<◌, ◌≤◌, List, length, take, ◌∙◌, arith, subst₂}
use Rattle.branch_machine.specs.Fixed.{fix_in}
use Rattle.branch_files.specs.Next.{end_at}
use Rattle.commit_replay.specs.declared.commit.NotRemade.{NotRemade}
use Rattle.commit_replay.specs.Follows.{form_of}
use Rattle.commit_replay.specs.Walk.{NotRemadeAs}
use Rattle.commit_replay.proofs.Versions.{cut-own, object-own, commit-own}
use Rattle.commit_replay.proofs.walk.replay_commit.Goals as goal

pub returns-then-end-place-clause-stops : goal.returns-then-end-place-clause-stops
returns-then-end-place-clause-stops g c =
    let r = c.args.recorded.now in
    let ahead : List ℕ = c.args.ahead.now in
    let place : ℕ = c.standing_of-now.result.end in
    let less : length ahead < end_at c.args.next.now - place = omega (arith, c.if-end-place.true, c.requires.end) in
    cut-own g.T.Mrdt.meaning r.terms g.A.Address.address c.args.version r.written ahead c.args.next.now c.requires.of c.requires.may
    place c.standing_of-now.ensures.end less

pub returns-in-Err-Object-clause-stops : goal.returns-in-Err-Object-clause-stops
returns-in-Err-Object-clause-stops g c =
    let r = c.args.recorded.now in
    let fixed = fix_in (form_of c.args.version) g.T.Mrdt.meaning r.terms g.A.Address.address in
    let ahead : List ℕ = c.args.ahead.now in
    let place : ℕ = c.standing_of-now.result.end in
    let bytes : List ℕ = take (c.args.end - place) ahead in
    let same : c.deref.result.now ≡ bytes = c.deref.ensures.value ∙ c.in-Ok.ensures.taken in
    let long : c.args.end - place ≤ length ahead = omega (arith, c.if-end-place.false) in
    object-own g.T.Mrdt.meaning r.terms g.A.Address.address c.args.version r.written ahead c.args.next.now c.requires.of c.requires.may
    place c.standing_of-now.ensures.end c.requires.makes c.args.end c.requires.end long
    (subst₂ (λ (l : List ℕ) (why : NotRemade). NotRemadeAs fixed r.written c.args.next.now l why) same c.in-Err-Object.field-0-is c.in-Err-Object.ensures.not)

pub returns-in-Err-Commit-clause-stops : goal.returns-in-Err-Commit-clause-stops
returns-in-Err-Commit-clause-stops g c =
    let r = c.args.recorded.now in
    let fixed = fix_in (form_of c.args.version) g.T.Mrdt.meaning r.terms g.A.Address.address in
    let ahead : List ℕ = c.args.ahead.now in
    let place : ℕ = c.standing_of-now.result.end in
    let bytes : List ℕ = take (c.args.end - place) ahead in
    let same : c.deref.result.now ≡ bytes = c.deref.ensures.value ∙ c.in-Ok.ensures.taken in
    let long : c.args.end - place ≤ length ahead = omega (arith, c.if-end-place.false) in
    commit-own g.T.Mrdt.meaning r.terms g.A.Address.address c.args.version r.written ahead c.args.next.now c.requires.of c.requires.may
    place c.standing_of-now.ensures.end c.requires.makes c.args.end c.requires.end long
    c.standing_of-now.result.commits c.standing_of-now.ensures.commits
    (subst₂ (λ (l : List ℕ) (why : NotRemade). NotRemadeAs fixed r.written c.args.next.now l why) same c.in-Err-Commit.field-0-is c.in-Err-Commit.ensures.not)
