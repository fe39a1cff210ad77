-- The disk that was chosen, of two: what it tells and has, and what a run over it is of both.
use Rattle.std.proofs.Common.{◌≡◌, ◌⊎◌, ℕ, ◌≤◌, true, false, List, [], refl, sym, ap, subst, ◌∙◌, inl, inr}
use Rattle.std.specs.Prelude.{Option, Some, None, if◌then◌else◌}
use Rattle.std.specs.Option.{ForSome}
use Rattle.branch_disk.specs.declared.disk.Disk.{Ghosts}
use Rattle.branch_disk.specs.Disk.{Files, StillTells}
use Rattle.branch_compact.specs.Switch.{is_current}
use Rattle.store_compact.specs.declared.answers.Which.{Which}
use Rattle.store_compact.specs.declared.answers.Which.TheVariants.{First, Second}
use Rattle.branch_command.specs.declared.command.Command.{Command}
use Rattle.branch_command.specs.declared.command.Command.TheVariants as read
use Rattle.branch_command.specs.Commands.{Said, Init, Help, Means}
use Rattle.branch_shell.specs.declared.choose.Values.{Values}
use Rattle.branch_shell.specs.declared.status.Status.{Status}
use Rattle.branch_shell.specs.declared.status.Status.TheVariants.{StoreRefused}
use Rattle.branch_shell.specs.Alone.{WorksOnCurrent}
use Rattle.branch_shell.specs.Once.{Says}
use Rattle.branch_shell.specs.Reading.{Exchanges}
use Rattle.branch_shell.specs.Values.{HaveValues}
use Rattle.branch_shell.specs.Statuses.{Wrote, WroteBy}
use Rattle.branch_shell.specs.Counts.{HasReason, HaveReason}
use Rattle.branch_shell.specs.Disks.{Disks, held, IsCurrentBy, current_told, AreChosen, NoneChosen}
use Rattle.branch_shell.specs.Ran.{RanOnCurrent, RanOverBoth}

-- of the two that tell these, this one
abbrev told_of : Which → Option Files → Option Files → Option Files
told_of First first second = first
told_of Second first second = second

told_so : (which : Which) (first second : Option Files) → ForSome first (IsCurrentBy which)
    → StillTells second first → told_of which first second ≡ current_told first second
told_so First None second is tells = refl
told_so First (Some f) second is tells =
    ap (λ b. if b then Some f else second) (sym (is f refl))
told_so Second (Some f) second is tells =
    ap (λ b. if b then Some f else second) (sym (is f refl))
told_so Second None None is tells = refl
told_so Second None (Some f) is tells = absurd (cc ((tells f refl).1))

module _ {D : Type 0} (disk : Ghosts D)
    (all_tell : (one other : D) → StillTells (disk.contents one) (disk.contents other)) where
  -- what is told of the current disk, it told
  held_was : (which : Which) (values : Values) (old now : Disks D) → AreChosen disk old now which values
      → disk.contents (held which old)
      ≡ current_told (disk.contents old.first) (disk.contents old.second)
  held_was First values old now are =
      told_so First (disk.contents old.first) (disk.contents old.second)
      are.current (all_tell old.second old.first)
  held_was Second values old now are =
      told_so Second (disk.contents old.first) (disk.contents old.second)
      are.current (all_tell old.second old.first)

  -- and it tells that still
  held_told : (which : Which) (values : Values) (old now : Disks D) → AreChosen disk old now which values
      → disk.contents (held which now)
      ≡ current_told (disk.contents old.first) (disk.contents old.second)
  held_told First values old now are = are.first.same ∙ held_was First values old now are
  held_told Second values old now are = are.second.same ∙ held_was Second values old now are

  module _ (which : Which) (values : Values) (old now : Disks D) (are : AreChosen disk old now which values) where
    -- it has these values
    have_told : ForSome (current_told (disk.contents old.first) (disk.contents old.second)) (HaveValues values)
    have_told =
        subst (λ (t : Option Files). ForSome t (HaveValues values)) (held_was which values old now are) are.have

    -- what was given over it, or this
    pub behind_told : (address : List ℕ → List ℕ) (command : Said) (status : Status) (l0 l1 g0 g1 : Option (List ℕ)) (same : Type 0)
        → same ⊎ Exchanges l0 l1 g0 g1 (WroteBy values address command (disk.contents (held which now)) l1 status)
        → same ⊎ Exchanges l0 l1 g0 g1 (Wrote address command (current_told (disk.contents old.first) (disk.contents old.second)) l1 status)
    behind_told address command status l0 l1 g0 g1 same (inl stays) = inl stays
    behind_told address command status l0 l1 g0 g1 same (inr e) = inr (
      e.0,
      e.1,
      e.2,
      e.3,
      (
        values,
        have_told,
        subst (λ (t : Option Files). WroteBy values address command t l1 status e.0 e.1) (held_told which values old now are) e.4,
      ),
    )

-- where the second disk is current, the first says so still
pub aside_second : {D : Type 0} (disk : Ghosts D) (values : Values) (old now : Disks D)
    → AreChosen disk old now Second values → ForSome (disk.contents now.first) (IsCurrentBy Second)
aside_second disk values old now are f told = are.current f (sym are.first.same ∙ told)

-- a command on the current disk is one over both
pub over_both : {D : Type 0} (disk : Ghosts D) (address : List ℕ → List ℕ) (said : Said) (command : Command)
    → WorksOnCurrent command → Means said command
    → (old new : Disks D) (left : Option (List ℕ)) (status : Status) (input text : List ℕ)
    → NoneChosen disk old new status input text
    ⊎ RanOnCurrent disk address said old new left status input text
    → RanOverBoth disk address said old new left status input text
over_both disk address (Init n) (read.Init terms) works means old new left status input text did = absurd works
over_both disk address (Init n) command works means old new left status input text did = absurd means
over_both disk address Help (read.Tell words) works means old new left status input text did = absurd works
over_both disk address Help command works means old new left status input text did = absurd means
over_both disk address said command works means old new left status input text did = did

-- the counts of two disks, the other way round
pub reason_swapped : (source sink first second source_now sink_now first_now second_now : ℕ)
    (status : Status)
    → HaveReason (record { source = source; sink = sink; first = first; second = second })
    (record { source = source_now; sink = sink_now; first = first_now; second = second_now }) status
    → HaveReason (record { source = source; sink = sink; first = second; second = first })
    (record { source = source_now; sink = sink_now; first = second_now; second = first_now }) status
reason_swapped source sink first second source_now sink_now first_now second_now status (inl of_first) =
    inr of_first
reason_swapped source sink first second source_now sink_now first_now second_now status (inr of_second) =
    inl of_second

-- the same reason of counts that are the same
pub reason_from : (source sink first second first_old second_old source_now sink_now first_now
    second_now : ℕ) (status : Status) → first ≡ first_old → second ≡ second_old
    → HaveReason (record { source = source; sink = sink; first = first; second = second })
    (record { source = source_now; sink = sink_now; first = first_now; second = second_now }) status
    → HaveReason (record { source = source; sink = sink; first = first_old; second = second_old })
    (record { source = source_now; sink = sink_now; first = first_now; second = second_now }) status
reason_from source sink first second first_old second_old source_now sink_now first_now second_now status is_first is_second reason =
    subst (λ (s : ℕ). HaveReason (record { source = source; sink = sink; first = first_old; second = s })
    (record { source = source_now; sink = sink_now; first = first_now; second = second_now }) status) is_second
    (subst (λ (f : ℕ). HaveReason (record { source = source; sink = sink; first = f; second = second })
    (record { source = source_now; sink = sink_now; first = first_now; second = second_now }) status) is_first reason)

-- a refusal was said: only the sink's count may have risen
pub said_reason : (text : List ℕ) (n sink sink_now disk : ℕ) (result : Status) (g0 g1 : Option (List ℕ))
    → Says text StoreRefused result g0 g1 sink sink_now
    → HasReason (record { source = n; sink = sink; disk = disk })
    (record { source = n; sink = sink_now; disk = disk }) result
said_reason text n sink sink_now disk result g0 g1 (inl (is, gave, same)) =
    subst (λ (s : Status). HasReason (record { source = n; sink = sink; disk = disk })
    (record { source = n; sink = sink_now; disk = disk }) s) (sym is) (refl, same, refl)
said_reason text n sink sink_now disk result g0 g1 (inr (is, gives, rose)) =
    subst (λ (s : Status). HasReason (record { source = n; sink = sink; disk = disk })
    (record { source = n; sink = sink_now; disk = disk }) s) (sym is) (rose, inl (refl, refl))
