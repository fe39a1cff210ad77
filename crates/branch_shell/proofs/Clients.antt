-- Clients, from the opening of their store on.
use Rattle.std.proofs.Common.{◌≡◌, ◌≢◌, ℕ, ◌≤◌, List, [], ◌++◌, refl, subst, inl, inr, false}
use Rattle.std.specs.Prelude.{Option}
use Rattle.branch_disk.specs.Disk.{Files}
use Rattle.branch_disk.specs.declared.disk.Disk.{Ghosts}
use Rattle.branch_disk.specs.Moments.{weakened}
use Rattle.branch_command.specs.Commands.{Clients}
use Rattle.branch_command.specs.Work.{Clients as ClientsGiven}
use Rattle.branch_files.specs.Laws.{ReadsWhatStands}
use Rattle.branch_history.specs.declared.moves.Move.{Move}
use Rattle.branch_machine.specs.Laws.{HasFullyValidPrefixes}
use Rattle.branch_shared.specs.Crashes.{IsSafeFrom, StandsFrom}
use Rattle.client_runs.specs.Worked.{IsOfClients}
use Rattle.store_core.specs.Views.{StoreView}
use Rattle.branch_shell.specs.declared.status.Status.{Status}
use Rattle.branch_shell.specs.declared.status.Status.TheVariants.{DiskFault}
use Rattle.branch_shell.specs.Bundling.{fixed_for}
use Rattle.branch_shell.specs.Disks.{LeavesAsBefore}
use Rattle.branch_shell.specs.Documents.{SaysUnopened}
use Rattle.branch_shell.specs.Once.{WroteOnce}
use Rattle.branch_shell.specs.Ran.{HoldsStore, LeavesClients, Ran}
use Rattle.branch_shell.specs.Stores.{Stored, IsOpenedAs}
use Rattle.branch_shell.specs.Together.{CameTogether, RanOver, ReadsFrom, SaysTogether, SurvivesClients}
use Rattle.branch_shell.specs.Values.{ValueType}
use Rattle.branch_shell.proofs.Once.{wrote_map}
use Rattle.branch_shell.proofs.Opening.{for_its_kind, store_read, failed}
use Rattle.branch_shell.proofs.Outcomes.{reads_from, reads_first}

module _ {S O R Q A : Type 0} (of : ValueType S O R Q A) (address : List ℕ → List ℕ) {D : Type 0} (disk : Ghosts D) (clients : ClientsGiven) where
  -- what stands for the moves of a core that clients shared reads as its store
  module _ (reads : ReadsWhatStands of.meaning) (prefixes : HasFullyValidPrefixes of.meaning) (old new : StoreView (Move O R) D) (status : Status) where
    abbrev store_of : Stored O R
    store_of = record { terms = old.terms; history = old.history }

    pub survives : IsSafeFrom disk (fixed_for of.meaning address store_of) (IsOfClients of.forms clients.count clients.work.steps clients.work.number) old new → CameTogether of address store_of clients new.history → (status ≢ DiskFault → new.failed ≡ false)
        → SurvivesClients disk of address store_of clients old.disk new.disk status
    survives safe came worked =
        let whole : List (Move O R) = new.history ++ safe.tail in
        record {
          history = new.history;
          tail = safe.tail;
          came = came;
          none = λ other. safe.none (worked other);
          few = safe.few;
          allowed = safe.allowed;
          valid = safe.valid;
          any_moment = weakened disk.moment disk.left_since old.disk new.disk (StandsFrom (fixed_for of.meaning address store_of) old.history whole) (ReadsFrom of address store_of whole) safe.moments
              (λ c stands. reads_from of address reads store_of prefixes whole safe.valid c stands);
          at_end = λ c image. reads_first of address reads store_of prefixes whole safe.valid new.history safe.tail refl c (safe.now c image);
        }

  module _ (counts_now : (d : D) (t : ℕ) (c : Files) → t ≤ disk.moment d → disk.may_leave d c → disk.left_since d t c)
      (only_now : (d : D) (c : Files) → disk.left_since d (disk.moment d) c → disk.may_leave d c)
      (left : Option (List ℕ)) (old : D) where
    -- the store was opened
    module _ (mid new : D) (found : Stored O R) (status : Status) (text : List ℕ) (is : IsOpenedAs of.kind of.meaning address (disk.contents old) found)
        (first : LeavesAsBefore disk old mid) (since : SurvivesClients disk of address found clients mid new status)
        (w : WroteOnce (RanOver disk.may_leave of address found clients new) (λ whole. ⊥) status text) where
      worked : (store : Stored O R) → HoldsStore disk of address old store → LeavesClients disk of address store clients old new status [] text
      worked store holds = inr (record {
        opened = mid;
        before = first;
        since = subst (λ (s : Stored O R). SurvivesClients disk of address s clients mid new status) (store_read of address disk counts_now only_now old store found holds is) since;
      })

      pub clients_opened : Ran disk of address (Clients clients) old new left status [] text
      clients_opened = record {
        wrote = (
          refl,
          wrote_map (RanOver disk.may_leave of address found clients new) (λ whole. ⊥) (SaysTogether of address (disk.contents old) clients) (SaysUnopened of address (disk.contents old))
              (λ whole ran. (found, is, (ran.history, ran.told))) (λ whole no. absurd no) status text w,
        );
        leaves = record {
          ran = λ done. (found, is, subst (λ (s : Status). WroteOnce (RanOver disk.may_leave of address found clients new) (λ whole. ⊥) s text) done w);
          leaves = record {
            over = worked;
            none = λ files says none. absurd {A = LeavesAsBefore disk old new}
                (none found.terms found.history (for_its_kind of address files found.terms found.history is.kind_is (is.reads files says)));
          };
        };
        refused = λ refused. absurd {A = LeavesAsBefore disk old new}
            (subst (λ (s : Status). WroteOnce (RanOver disk.may_leave of address found clients new) (λ whole. ⊥) s text) refused w);
      }

    -- or it was not
    module _ (new : D) (status : Status) (text : List ℕ) (all : LeavesAsBefore disk old new)
        (w : WroteOnce (λ whole. ⊥) (SaysUnopened of address (disk.contents old)) status text) where
      unopened : (store : Stored O R) → HoldsStore disk of address old store → LeavesClients disk of address store clients old new status [] text
      unopened store holds = inl (failed of address disk counts_now only_now old new store status text holds all w)

      pub clients_refused : Ran disk of address (Clients clients) old new left status [] text
      clients_refused = record {
        wrote = (
          refl,
          wrote_map (λ whole. ⊥) (SaysUnopened of address (disk.contents old)) (SaysTogether of address (disk.contents old) clients) (SaysUnopened of address (disk.contents old))
              (λ whole no. absurd no) (λ whole says. says) status text w,
        );
        leaves = record {
          ran = λ done. absurd (subst (λ (s : Status). WroteOnce (λ whole. ⊥) (SaysUnopened of address (disk.contents old)) s text) done w);
          leaves = record { over = unopened; none = λ files says none. all };
        };
        refused = λ refused. all;
      }
