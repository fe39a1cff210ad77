-- The counts of faults by how a script ends, and what was given where the sink failed to finish.
use Rattle.std.proofs.Common.{◌≡◌, ℕ, ◌≤◌, sym, subst, ◌∙◌, ◌⊎◌, inl, inr, arith}
use Rattle.std.specs.Prelude.{Result, Ok, Err, OnOk, IfErr}
use Rattle.branch_io.specs.Causes.{Rose}
use Rattle.branch_shell.specs.declared.status.Status.{Status}
use Rattle.branch_shell.specs.declared.status.Status.TheVariants.{Done, Usage, StoreRefused, DiskFault, ReadFault, WriteFault, LineTooLong, InputTooLong, Memory}
use Rattle.branch_shell.specs.Counts.{Counts, HasReason, StopsAtFault, StopsTelling}
use Rattle.branch_shell.specs.Statuses.{status_of}

rose_from : (a b c : ℕ) → b ≡ a → Rose b c → Rose a c
rose_from a b c same rose = subst (λ n. Rose n c) same rose

module _ (r0 r1 k0 k1 d0 d1 : ℕ) where
  abbrev pub first : Counts
  first = record { source = r0; sink = k0; disk = d0 }

  abbrev pub mid : Counts
  mid = record { source = r1; sink = k1; disk = d1 }

  module _ (k2 : ℕ) where
    abbrev pub last : Counts
    last = record { source = r1; sink = k2; disk = d1 }

    -- the counts where the sink finished
    pub reason_finished : (status : Status) → StopsAtFault first mid status → k2 ≡ k1 → HasReason first last status
    reason_finished Done stops same = (stops.0, same ∙ stops.1, stops.2)
    reason_finished Usage stops same = absurd stops
    reason_finished StoreRefused stops same = absurd stops
    reason_finished DiskFault stops same = (stops.0, stops.1, same ∙ stops.2)
    reason_finished ReadFault stops same = (stops.0, same ∙ stops.1, stops.2)
    reason_finished WriteFault stops same = (subst (Rose k0) (sym same) stops.0, inl (stops.1, stops.2))
    reason_finished LineTooLong stops same = (stops.0, same ∙ stops.1, stops.2)
    reason_finished InputTooLong stops same = (stops.0, same ∙ stops.1, stops.2)
    reason_finished Memory stops same = (stops.0, same ∙ stops.1, stops.2)

    -- and where it did not
    pub reason_unfinished : (status : Status) → StopsAtFault first mid status → k1 ≤ k2 → Rose k1 k2 → HasReason first last WriteFault
    reason_unfinished Done stops later rose = (rose_from k0 k1 k2 stops.1 rose, inl (stops.0, stops.2))
    reason_unfinished Usage stops later rose = absurd stops
    reason_unfinished StoreRefused stops later rose = absurd stops
    reason_unfinished DiskFault stops later rose = (rose_from k0 k1 k2 stops.2 rose, inr (inr (stops.1, stops.0)))
    reason_unfinished ReadFault stops later rose = (rose_from k0 k1 k2 stops.1 rose, inr (inl (stops.0, stops.2)))
    reason_unfinished WriteFault stops later rose = let first = stops.0 in (omega (arith, first, later), inl (stops.1, stops.2))
    reason_unfinished LineTooLong stops later rose = (rose_from k0 k1 k2 stops.1 rose, inl (stops.0, stops.2))
    reason_unfinished InputTooLong stops later rose = (rose_from k0 k1 k2 stops.1 rose, inl (stops.0, stops.2))
    reason_unfinished Memory stops later rose = (rose_from k0 k1 k2 stops.1 rose, inl (stops.0, stops.2))

  -- behind a fault of the source, or of the disk, what such a fault leaves was given
  module _ (P : Status → Type 0) where
    pub behind_source : (status : Status) → StopsAtFault first mid status → P status → (r1 ≡ r0) ⊎ P ReadFault
    behind_source Done stops e = inl stops.0
    behind_source Usage stops e = absurd stops
    behind_source StoreRefused stops e = absurd stops
    behind_source DiskFault stops e = inl stops.1
    behind_source ReadFault stops e = inr e
    behind_source WriteFault stops e = inl stops.1
    behind_source LineTooLong stops e = inl stops.0
    behind_source InputTooLong stops e = inl stops.0
    behind_source Memory stops e = inl stops.0

    pub behind_disk : (status : Status) → StopsAtFault first mid status → P status → (d1 ≡ d0) ⊎ P DiskFault
    behind_disk Done stops e = inl stops.2
    behind_disk Usage stops e = absurd stops
    behind_disk StoreRefused stops e = absurd stops
    behind_disk DiskFault stops e = inr e
    behind_disk ReadFault stops e = inl stops.2
    behind_disk WriteFault stops e = inl stops.2
    behind_disk LineTooLong stops e = inl stops.2
    behind_disk InputTooLong stops e = inl stops.2
    behind_disk Memory stops e = inl stops.2

  -- a script that runs is no misuse, and its store is not refused
  pub never_usage : (status : Status) → StopsAtFault first mid status → status ≡ Usage → ⊥
  never_usage status stops is = subst (StopsAtFault first mid) is stops

  -- telling was stopped, before any other fault
  module _ (k2 d2 : ℕ) (source : r1 ≡ r0) (sink : k1 ≡ k0) (disk : d1 ≡ d0) where
    abbrev pub stopped : Counts
    stopped = record { source = r1; sink = k2; disk = d2 }

    pub stops_telling : (status : Status) → StopsTelling k1 k2 d1 d2 status → StopsAtFault first stopped status
    stops_telling WriteFault stops = (rose_from k0 k1 k2 sink stops.0, source, stops.1 ∙ disk)
    stops_telling DiskFault stops = (rose_from d0 d1 d2 disk stops.0, source, stops.1 ∙ sink)
    stops_telling Memory stops = (source, stops.0 ∙ sink, stops.1 ∙ disk)
    stops_telling Done stops = absurd stops
    stops_telling Usage stops = absurd stops
    stops_telling StoreRefused stops = absurd stops
    stops_telling ReadFault stops = absurd stops
    stops_telling LineTooLong stops = absurd stops
    stops_telling InputTooLong stops = absurd stops

    -- the last line was told, or stopped so
    pub last_stops : (result : Result (Unit {0}) Status) → OnOk result (k2 ≡ k1) → OnOk result (d2 ≡ d1) → IfErr result (StopsTelling k1 k2 d1 d2) → StopsAtFault first stopped (status_of result)
    last_stops (Ok done) same still stops = (source, same ∙ sink, still ∙ disk)
    last_stops (Err status) same still stops = stops_telling status stops
