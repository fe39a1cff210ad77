-- The branch was not dropped, and its head is the one that was seen.
use Rattle.std.proofs.Common.{◌≡◌, ℕ, refl, Result, Ok, Err, OnOk}
use Rattle.std.specs.Prelude.{IsErrOf}
use Rattle.std.proofs.lemmas.Bool.{both_ways}
use Rattle.branch_names.specs.declared.heads.MoveRefused.{MoveRefused}
use Rattle.branch_names.specs.declared.heads.MoveRefused.TheVariants as refused
use Rattle.branch_names.specs.Heads.{is_dropped}
use Rattle.store_seen.proofs.versions.put_head.Goals as goal

-- what comes where neither refusal does
unrefused : {T P : Type 0} (r : Result T MoveRefused) → OnOk r P → (r ≡ Err refused.Dropped → ⊥) → ((newest : ℕ) → IsErrOf r (refused.Stale newest) → ⊥) → P
unrefused (Ok x) done dropped stale = done
unrefused (Err refused.Dropped) done dropped stale = absurd (dropped refl)
unrefused (Err (refused.Stale newest)) done dropped stale = absurd (stale newest refl)

pub returns : goal.returns
returns c =
    let done = c.move_from.ensures in
    unrefused c.move_from.result done.moved
    (λ gone. both_ways (is_dropped c.args.heads.now.branches c.args.branch) c.requires.1 (done.dropped.0 gone))
    (λ newest old. let is = (done.stale newest).0 old in let head = c.head-newest.ensures in is.1 (cc))
