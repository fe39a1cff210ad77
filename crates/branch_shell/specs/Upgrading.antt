-- Making a store of today's version of one of the old version: what is written, and what becomes of
-- both disks.
use Rattle.std.specs.Prelude.{◌≡◌, ◌⊎◌, ℕ, List, Some, None}
use Rattle.std.specs.declared.option.Option.{Option}
use Rattle.std.specs.Io.KnownBytes.{Appends}
use Rattle.branch_disk.specs.declared.disk.Disk.{Ghosts}
use Rattle.branch_disk.specs.Disk.{Files, LeavesOnly}
use Rattle.branch_print.specs.Reports.{upgraded_text, not_empty_text, no_store_text, bad_record_text, bad_object_text, bad_commit_text, truncated_text, no_upgrade_text}
use Rattle.store_core.specs.Inits.{IsEmpty}
use Rattle.store_upgrade.specs.declared.answers.UpgradeRefused.{UpgradeRefused}
use Rattle.store_upgrade.specs.declared.answers.UpgradeRefused.TheVariants as refusal
use Rattle.store_upgrade.specs.Upgrades.{Begun, Upgraded, UpgradeRefusedAs}
use Rattle.branch_shell.specs.declared.status.Status.{Status}
use Rattle.branch_shell.specs.Once.{WroteOnce}

-- the text of why no store was upgraded; none, where the cause is a disk or the memory
abbrev pub upgrade_refusal_text : UpgradeRefused → Option (List ℕ)
upgrade_refusal_text refusal.NotAStore = Some no_store_text
upgrade_refusal_text (refusal.BadRecord number) = Some (bad_record_text number)
upgrade_refusal_text (refusal.BadObject place) = Some (bad_object_text place)
upgrade_refusal_text (refusal.BadCommit number) = Some (bad_commit_text number)
upgrade_refusal_text (refusal.Truncated part place) = Some (truncated_text part place)
upgrade_refusal_text (refusal.NotEmpty length) = Some not_empty_text
upgrade_refusal_text (refusal.Upgrade number) = Some (no_upgrade_text number)
upgrade_refusal_text refusal.DiskFault = None
upgrade_refusal_text refusal.Memory = None

-- The current disk has a store of the old version, and all its moves, renewed, were made of the other
-- disk, which was empty: this is the text of how many they are.
abbrev pub SaysUpgraded : {D : Type 0} → Ghosts D → (List ℕ → List ℕ) → D → D → D → List ℕ
    → Type 0
SaysUpgraded disk address held other now text = (count : ℕ)
    × Upgraded disk address held other count now × (text ≡ upgraded_text count)

-- the text of why they were not, and what is left of the other disk
abbrev pub SaysNotUpgraded : {D : Type 0} → Ghosts D → (List ℕ → List ℕ) → D → D → D → List ℕ
    → Type 0
SaysNotUpgraded disk address held other now text = (why : UpgradeRefused)
    × UpgradeRefusedAs disk address held other now why
    × (upgrade_refusal_text why ≡ Some text)

-- What an upgrade did, which ended with this status. Nothing is written to the current disk. The
-- other is as it was, or the current one was read and its moves were begun on it: then at each moment
-- each image, where all were empty, is no store or stands for some first ones of them. Of one that
-- holds bytes a crash leaves only what it might have left before.
pub record RanUpgrade {D : Type 0} (disk : Ghosts D) (address : List ℕ → List ℕ)
    (held held_now other other_now : D) (status : Status) (text : List ℕ) : Type 0 where
  pub wrote : WroteOnce (SaysUpgraded disk address held other other_now)
      (SaysNotUpgraded disk address held other other_now) status text
  pub same : disk.contents held_now ≡ disk.contents held
  pub kept : LeavesOnly disk.moment disk.left_since held held_now (disk.may_leave held)
  pub begun : (other_now ≡ other) ⊎ Begun disk address held other other_now
  pub full : (files : Files) → disk.contents other ≡ Some files → ¬ IsEmpty files
      → LeavesOnly disk.moment disk.left_since other other_now (disk.may_leave other)

-- some text was given to the sink, of which this is true
abbrev pub Gives : Option (List ℕ) → Option (List ℕ) → (List ℕ → Type 0) → Type 0
Gives given_old given_new P = (text : List ℕ) × Appends given_old given_new text × P text
