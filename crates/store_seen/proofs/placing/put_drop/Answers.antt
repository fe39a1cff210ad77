-- The branch was not dropped, it is not the first, and its head is the one that was seen.
use Rattle.std.proofs.Common.{◌≡◌, ℕ, refl, Result, Ok, Err, OnOk}
use Rattle.std.specs.Prelude.{IsErrOf}
use Rattle.std.proofs.lemmas.Bool.{both_ways}
use Rattle.branch_names.specs.declared.heads.DropRefused.{DropRefused}
use Rattle.branch_names.specs.declared.heads.DropRefused.TheVariants as refused
use Rattle.branch_names.specs.Heads.{is_dropped}
use Rattle.store_seen.proofs.placing.put_drop.Goals as goal

-- what comes where no refusal does
unrefused : {T P : Type 0} (r : Result T DropRefused) → OnOk r P → (r ≡ Err refused.Dropped → ⊥) → (r ≡ Err refused.KeepsMain → ⊥) → ((newest : ℕ) → IsErrOf r (refused.Stale newest) → ⊥) → P
unrefused (Ok x) done dropped main stale = done
unrefused (Err refused.Dropped) done dropped main stale = absurd (dropped refl)
unrefused (Err refused.KeepsMain) done dropped main stale = absurd (main refl)
unrefused (Err (refused.Stale newest)) done dropped main stale = absurd (stale newest refl)

pub returns : goal.returns
returns c =
    let done = c.drop_branch.ensures in
    unrefused c.drop_branch.result done.gone
    (λ gone. both_ways (is_dropped c.args.heads.now.branches c.args.branch) c.requires.there.1 (done.dropped.0 gone))
    (λ first. c.requires.other (done.main.0 first).1)
    (λ newest old. let is = (done.stale newest).0 old in let head = c.head-newest.ensures in is.2 (cc))
