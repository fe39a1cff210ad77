-- What a run did of each command, of the words that say it.
use Rattle.std.proofs.Common.{◌≡◌, ◌≢◌, ◌⊎◌, ℕ, ◌≤◌, List, [], refl, sym, ◌∙◌, subst, inl, inr}
use Rattle.std.specs.Prelude.{Option, Some, Bool, true, false}
use Rattle.std.specs.Io.KnownBytes.{Appends}
use Rattle.std.proofs.KnownBytes.{Consumes-nil, Appends-nil}
use Rattle.branch_disk.specs.declared.disk.Disk.{Ghosts}
use Rattle.branch_disk.specs.Disk.{Files}
use Rattle.branch_disk.specs.Moments.{weakened, started}
use Rattle.branch_names.specs.declared.terms.Terms.{Terms}
use Rattle.store_core.specs.Inits.{IsEmpty}
use Rattle.mrdt_model.specs.Laws.{Meaning}
use Rattle.branch_command.specs.Terms.{TermNumbers, AreTerms, kind_number}
use Rattle.branch_command.specs.Commands.{Said, Init, Script, Look, Help}
use Rattle.branch_shell.specs.declared.status.Status.{Status}
use Rattle.branch_shell.specs.declared.status.Status.TheVariants.{Done, Usage, StoreRefused, DiskFault, Memory}
use Rattle.branch_shell.specs.Reading.{Exchanges}
use Rattle.branch_shell.specs.Once.{WroteOnce, Answers, Says}
use Rattle.branch_shell.specs.Stores.{ReadsAsNoneOrEmpty}
use Rattle.branch_shell.specs.Values.{ValueType, documents, documents_with_sequences}
use Rattle.branch_command.specs.declared.look.Look.{Look as Looked}
use Rattle.branch_shell.specs.Looks.{SaysLook, SaysNoLook}
use Rattle.mrdt_old_doc.specs.OldDocument.{old_document}
use Rattle.branch_shell.specs.Statuses.{WroteOf, ScriptWrote}
use Rattle.store_compact.specs.declared.answers.Which.{Which}
use Rattle.branch_shell.specs.Disks.{Disks, LeavesAsBefore, StaysSame, NoneChosen}
use Rattle.branch_shell.specs.Ran.{LeavesInit, LeavesLooked, SaysMade, SaysNotMade, RanInit, RanInitFor, RanChosen, RanOverBoth}
use Rattle.branch_shell.proofs.Inits.{empty_reads, empty_map, none_or_empty_map}

-- a script tells no misuse
script_usage : {S O R Q A : Type 0} (of : ValueType S O R Q A) (address : List ℕ → List ℕ) (told : Option Files) (left : Option (List ℕ)) (input text : List ℕ) → ScriptWrote of address told left Usage input text → ⊥
script_usage of address told left input text (inl once) = once.1
script_usage of address told left input text (inr over) = over.3

pub no_usage : {S O R Q A : Type 0} (of : ValueType S O R Q A) (address : List ℕ → List ℕ) (told : Option Files) (left : Option (List ℕ)) (status : Status) (input text : List ℕ)
    → WroteOf of address Script told left status input text → status ≡ Usage → ⊥
no_usage of address told left status input text w is =
    script_usage of address told left input text (subst (λ (s : Status). ScriptWrote of address told left s input text) is w)

-- nor does what was written that answers no line
pub once_usage : (success refusal : List ℕ → Type 0) (status : Status) (text : List ℕ) → WroteOnce success refusal status text → status ≡ Usage → ⊥
once_usage success refusal status text w is = subst (λ (s : Status). WroteOnce success refusal s text) is w

-- the text of help, or a first part of it
text_given : (text : List ℕ) (result : Status) (g0 g1 : Option (List ℕ)) (before now : ℕ) → Says text Done result g0 g1 before now → (given : List ℕ) × Appends g0 g1 given
text_given text result g0 g1 before now (inl (is, gave, same)) = (text, gave)
text_given text result g0 g1 before now (inr (is, gives, rose)) = (gives.part, gives.given)

module _ (address : List ℕ → List ℕ) {D : Type 0} (disk : Ghosts D) where
  pub help_ran : (old : Disks D) (text : List ℕ) (status : Status) (l g0 g1 : Option (List ℕ)) (before now : ℕ) → Says text Done status g0 g1 before now
      → Exchanges l l g0 g1 (RanOverBoth disk address Help old old l status)
  help_ran old text status l g0 g1 before now says =
      let given = text_given text status g0 g1 before now says in
      ([], given.0, Consumes-nil l, given.1, (refl, refl))

  -- a store that is made under terms of which this is true, and so that
  init_map : {S O R Q A : Type 0} (meaning : Meaning S O R Q A) (P Q' : Terms → Type 0) → ((terms : Terms) → P terms → Q' terms) → (old new : Disks D) (status : Status) (text : List ℕ)
      → RanInit disk meaning address P old new status text → RanInit disk meaning address Q' old new status text
  init_map meaning P Q' are old new status text r = record {
    wrote = r.wrote;
    leaves = record {
      any_moment = λ empty. weakened disk.moment disk.left_since old.first new.first (ReadsAsNoneOrEmpty meaning address P) (ReadsAsNoneOrEmpty meaning address Q')
          (r.leaves.any_moment empty) (none_or_empty_map meaning address P Q' are);
      made = λ done c image. empty_map meaning address P Q' are c (r.leaves.made done c image);
      kept = r.leaves.kept;
    };
    refused = r.refused;
    full = r.full;
    second = r.second;
  }

  init_for_map : (P Q' : Terms → Type 0) → ((terms : Terms) → P terms → Q' terms) → (sequences : Bool) (old new : Disks D) (status : Status) (text : List ℕ)
      → RanInitFor disk address P sequences old new status text → RanInitFor disk address Q' sequences old new status text
  init_for_map P Q' are true old new status text r = init_map documents_with_sequences.meaning P Q' are old new status text r
  init_for_map P Q' are false old new status text r = init_map documents.meaning P Q' are old new status text r

  -- what was done of a store that is made of these values
  pub init_said : {S O R Q A : Type 0} (meaning : Meaning S O R Q A) (P : Terms → Type 0) (old new : Disks D) (status : Status) (l g0 g1 : Option (List ℕ))
      → Answers (SaysMade (disk.contents old.first) (disk.contents old.second)) (SaysNotMade (disk.contents old.first) (disk.contents old.second)) status g0 g1
      → LeavesInit disk meaning address P old.first new.first status → (status ≡ StoreRefused → LeavesAsBefore disk old.first new.first)
      → ((files : Files) → disk.contents old.second ≡ Some files → ¬ IsEmpty files → new.first ≡ old.first)
      → StaysSame disk old.second new.second
      → Exchanges l l g0 g1 (λ input text. (input ≡ []) × RanInit disk meaning address P old new status text)
  init_said meaning P old new status l g0 g1 w leaves refused full second =
      ([], w.0, Consumes-nil l, w.1, (refl, record { wrote = w.2; leaves = leaves; refused = refused; full = full; second = second }))

  -- those with sequences, where the kind is 1; and documents else
  pub init_wide : (P : Terms → Type 0) (kind : ℕ) (sequences : Bool) → kind ≡ kind_number sequences → kind ≡ 1 → (old new : Disks D) (status : Status) (l g0 g1 : Option (List ℕ))
      → Exchanges l l g0 g1 (λ input text. (input ≡ []) × RanInit disk documents_with_sequences.meaning address P old new status text)
      → Exchanges l l g0 g1 (λ input text. (input ≡ []) × RanInitFor disk address P sequences old new status text)
  init_wide P kind true is one old new status l g0 g1 e = e
  init_wide P kind false is one old new status l g0 g1 e = absurd (let never : 0 ≡ 1 = sym is ∙ one in cc never)

  pub init_plain : (P : Terms → Type 0) (kind : ℕ) (sequences : Bool) → kind ≡ kind_number sequences → kind ≢ 1 → (old new : Disks D) (status : Status) (l g0 g1 : Option (List ℕ))
      → Exchanges l l g0 g1 (λ input text. (input ≡ []) × RanInit disk documents.meaning address P old new status text)
      → Exchanges l l g0 g1 (λ input text. (input ≡ []) × RanInitFor disk address P sequences old new status text)
  init_plain P kind false is other old new status l g0 g1 e = e
  init_plain P kind true is other old new status l g0 g1 e = absurd (other is)

  pub init_ran : (n : TermNumbers) (P : Terms → Type 0) → ((terms : Terms) → P terms → AreTerms n terms)
      → (old new : Disks D) (status : Status) (l g0 g1 : Option (List ℕ))
      → Exchanges l l g0 g1 (λ input text. (input ≡ []) × RanInitFor disk address P n.sequences old new status text)
      → Exchanges l l g0 g1 (RanOverBoth disk address (Init n) old new l status)
  init_ran n P are old new status l g0 g1 e =
      (e.0, e.1, e.2, e.3, (e.4.0, init_for_map P (AreTerms n) are n.sequences old new status e.1 e.4.1))

module _ {S O R Q A : Type 0} (of : ValueType S O R Q A) (address : List ℕ → List ℕ) {D : Type 0} (disk : Ghosts D) where
  -- a run over the current disk alone, which leaves the other as it was
  pub look_ran : (which : Which) (old new aside : D) (status : Status) (l g0 g1 : Option (List ℕ)) (look : Looked)
      → Answers (SaysLook of address (disk.contents old) look) (SaysNoLook of old_document address (disk.contents old) look) status g0 g1
      → LeavesLooked disk of address old new status
      → Exchanges l l g0 g1 (RanChosen disk of address (Look look) which old new aside aside l status)
  look_ran which old new aside status l g0 g1 look w leaves =
      ([], w.0, Consumes-nil l, w.1, (record { wrote = (refl, w.2); leaves = leaves; refused = λ refused. leaves.any_moment }, refl))

module _ (address : List ℕ → List ℕ) {D : Type 0} (disk : Ghosts D)
    (only_now : (d : D) (c : Files) → disk.left_since d (disk.moment d) c → disk.may_leave d c) where
  -- nothing was done
  pub untouched : (old : D) → StaysSame disk old old
  untouched old = record { same = refl; kept = started disk.moment disk.left_since old (disk.may_leave old) (only_now old) }

  idle : (old : Disks D) (status : Status) → (status ≡ DiskFault) ⊎ (status ≡ Memory) → NoneChosen disk old old status [] []
  idle old status why = record { why = why; no_input = refl; no_text = refl; first = untouched old.first; second = untouched old.second }

  idle_init : {S O R Q A : Type 0} (meaning : Meaning S O R Q A) (n : TermNumbers) (old : Disks D) → RanInit disk meaning address (AreTerms n) old old Memory []
  idle_init meaning n old =
      let same = (untouched old.first).kept in
      record {
        wrote = refl;
        leaves = record {
          any_moment = λ empty. weakened disk.moment disk.left_since old.first old.first (disk.may_leave old.first) (ReadsAsNoneOrEmpty meaning address (AreTerms n))
              same (λ c was. empty_reads meaning address (AreTerms n) c (empty c was));
          made = λ done. absurd (cc);
          kept = λ files told full. same;
        };
        refused = λ refused. same;
        full = λ files told full. refl;
        second = untouched old.second;
      }

  idle_init_for : (n : TermNumbers) (sequences : Bool) (old : Disks D) → RanInitFor disk address (AreTerms n) sequences old old Memory []
  idle_init_for n true old = idle_init documents_with_sequences.meaning n old
  idle_init_for n false old = idle_init documents.meaning n old

  -- for want of memory to read the words
  idle_over : (old : Disks D) (l : Option (List ℕ)) (command : Said) → RanOverBoth disk address command old old l Memory [] []
  idle_over old l (Init n) = (refl, idle_init_for n n.sequences old)
  idle_over old l Help = (refl, refl)
  idle_over old l command = inl (idle old Memory (inr refl))

  pub both_memory : (old : Disks D) (l g : Option (List ℕ)) (command : Said)
      → Exchanges l l g g (RanOverBoth disk address command old old l Memory)
  both_memory old l g command = ([], [], Consumes-nil l, Appends-nil g, idle_over old l command)

-- where the other disk stays as it was
pub both_behind : (same also E : Type 0) → also → same ⊎ E → (same × also) ⊎ E
both_behind same also E stays (inl is) = inl (is, stays)
both_behind same also E stays (inr e) = inr e
