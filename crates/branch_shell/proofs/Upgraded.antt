-- What an upgrade wrote and left, and the counts of faults then.
use Rattle.std.proofs.Common.{◌≡◌, ◌≢◌, ◌⊎◌, ℕ, List, refl, inl, inr}
use Rattle.std.specs.Prelude.{Option, Some, ◌↔◌}
use Rattle.branch_disk.specs.declared.disk.Disk.{Ghosts}
use Rattle.branch_print.specs.Reports.{upgraded_text}
use Rattle.store_upgrade.specs.declared.answers.UpgradeRefused.{UpgradeRefused}
use Rattle.store_upgrade.specs.declared.answers.UpgradeRefused.TheVariants as refusal
use Rattle.store_upgrade.specs.Upgrades.{Begun, Upgraded, UpgradeRefusedAs, HasCauseOfEither}
use Rattle.branch_shell.specs.declared.status.Status.{Status}
use Rattle.branch_shell.specs.declared.status.Status.TheVariants.{Done, Usage, StoreRefused, DiskFault, ReadFault, WriteFault, LineTooLong, InputTooLong, Memory}
use Rattle.branch_shell.specs.Counts.{HaveReason, SaysReason}
use Rattle.branch_shell.specs.Once.{Answers}
use Rattle.branch_shell.specs.Upgrading.{SaysUpgraded, SaysNotUpgraded, upgrade_refusal_text}
use Rattle.branch_shell.proofs.Once.{answers_map, reason_said}

module _ {D : Type 0} (disk : Ghosts D) (address : List ℕ → List ℕ) (first second now : D) where
  -- the second disk is as it was, or the moves of the first were begun on it
  pub second_left : (why : UpgradeRefused) → UpgradeRefusedAs disk address first second now why
      → (now ≡ second) ⊎ Begun disk address first second now
  second_left refusal.NotAStore is = inl is.1
  second_left (refusal.BadRecord number) is = inl is.1
  second_left (refusal.BadObject place) is = inl is.1
  second_left (refusal.BadCommit number) is = inl is.1
  second_left (refusal.Truncated part place) is = inl is.1
  second_left (refusal.NotEmpty length) is = inr is.0
  second_left (refusal.Upgrade number) is = inr is.0
  second_left refusal.DiskFault is = is
  second_left refusal.Memory is = is

  pub says_upgraded : (count : ℕ) → Upgraded disk address first second count now
      → (status : Status) (g0 g1 : Option (List ℕ))
      → Answers (λ whole. whole ≡ upgraded_text count) (λ whole. ⊥) status g0 g1
      → Answers (SaysUpgraded disk address first second now)
      (SaysNotUpgraded disk address first second now) status g0 g1
  says_upgraded count up status g0 g1 w =
      answers_map (λ whole. whole ≡ upgraded_text count) (λ whole. ⊥)
      (SaysUpgraded disk address first second now) (SaysNotUpgraded disk address first second now)
      (λ whole is. (count, up, is)) (λ whole no. absurd no) status g0 g1 w

  pub says_not_upgraded : (why : UpgradeRefused)
      → UpgradeRefusedAs disk address first second now why
      → (status : Status) (g0 g1 : Option (List ℕ))
      → Answers (λ whole. ⊥) (λ whole. upgrade_refusal_text why ≡ Some whole) status g0 g1
      → Answers (SaysUpgraded disk address first second now)
      (SaysNotUpgraded disk address first second now) status g0 g1
  says_not_upgraded why is status g0 g1 w =
      answers_map (λ whole. ⊥) (λ whole. upgrade_refusal_text why ≡ Some whole)
      (SaysUpgraded disk address first second now) (SaysNotUpgraded disk address first second now)
      (λ whole no. absurd no) (λ whole says. (why, is, says)) status g0 g1 w

-- the counts where no store was upgraded
module _ (n k0 k1 f0 f1 s0 s1 : ℕ) (why : UpgradeRefused)
    (cause : HasCauseOfEither f0 f1 s0 s1 why) where
  -- where the status tells no fault of a disk, no disk failed
  pub no_disk_failed : (status : Status) → (status ≡ DiskFault) ↔ (why ≡ refusal.DiskFault)
      → status ≢ DiskFault → (f1 ≡ f0) × (s1 ≡ s0)
  no_disk_failed status fault other = cause.others (λ e. other (fault.1 e))

  failed_so : why ≡ refusal.DiskFault → k1 ≡ k0
      → HaveReason (record { source = n; sink = k0; first = f0; second = s0 })
      (record { source = n; sink = k1; first = f1; second = s1 }) DiskFault
  failed_so is same = elim (cause.failed is) [
    | inl of_first ↦ inl ((of_first.0, refl, same), of_first.1)
    | inr of_second ↦ inr ((of_second.1, refl, same), of_second.0)
  ]

  others : (success refused : List ℕ → Type 0) (status : Status) (g0 g1 : Option (List ℕ))
      → Answers success refused status g0 g1
      → (status ≡ DiskFault) ↔ (why ≡ refusal.DiskFault) → SaysReason k0 k1 status
      → status ≢ DiskFault
      → HaveReason (record { source = n; sink = k0; first = f0; second = s0 })
      (record { source = n; sink = k1; first = f1; second = s1 }) status
  others success refused status g0 g1 w fault says other =
      let same = no_disk_failed status fault other in
      inl (reason_said success refused n k0 k1 f0 f1 g0 g1 status w same.0 other says, same.1)

  pub upgrade_reason : (success refused : List ℕ → Type 0) (status : Status)
      (g0 g1 : Option (List ℕ)) → Answers success refused status g0 g1
      → (status ≡ DiskFault) ↔ (why ≡ refusal.DiskFault) → SaysReason k0 k1 status
      → HaveReason (record { source = n; sink = k0; first = f0; second = s0 })
      (record { source = n; sink = k1; first = f1; second = s1 }) status
  upgrade_reason success refused DiskFault g0 g1 w fault says = failed_so (fault.0 refl) says
  upgrade_reason success refused Done g0 g1 w fault says = others success refused Done g0 g1 w fault says (λ e. cc e)
  upgrade_reason success refused Usage g0 g1 w fault says = others success refused Usage g0 g1 w fault says (λ e. cc e)
  upgrade_reason success refused StoreRefused g0 g1 w fault says = others success refused StoreRefused g0 g1 w fault says (λ e. cc e)
  upgrade_reason success refused ReadFault g0 g1 w fault says = others success refused ReadFault g0 g1 w fault says (λ e. cc e)
  upgrade_reason success refused WriteFault g0 g1 w fault says = others success refused WriteFault g0 g1 w fault says (λ e. cc e)
  upgrade_reason success refused LineTooLong g0 g1 w fault says = others success refused LineTooLong g0 g1 w fault says (λ e. cc e)
  upgrade_reason success refused InputTooLong g0 g1 w fault says = others success refused InputTooLong g0 g1 w fault says (λ e. cc e)
  upgrade_reason success refused Memory g0 g1 w fault says = others success refused Memory g0 g1 w fault says (λ e. cc e)
