-- Receiving what a source holds: what was said of it, and what is left.
use Rattle.std.proofs.Common.{◌≡◌, ◌⊎◌, inl, inr, ⊎_elim, ℕ, ◌+◌, ◌^◌, ◌<◌, ◌≤◌, arith, List, [], ◌∷◌, ◌++◌, length, take, length-append, append-nil, refl, ap, sym, ◌∙◌, subst, Option, Some, None}
use Rattle.std.specs.Prelude.{Err, ◌↔◌, false}
use Rattle.std.specs.Io.KnownBytes.{IsAtEnd, Consumes}
use Rattle.std.proofs.KnownBytes.{Consumes-trans}
use Rattle.mrdt_model.specs.Laws.{Meaning}
use Rattle.branch_io.specs.Causes.{HasCauseOf}
use Rattle.branch_wire.specs.Reading.{HasLength64}
use Rattle.branch_disk.specs.Disk.{Files, LeavesOnly}
use Rattle.branch_disk.specs.declared.disk.Disk.{Ghosts}
use Rattle.branch_disk.specs.Moments.{started, weakened}
use Rattle.branch_names.specs.declared.terms.Terms.{Terms}
use Rattle.branch_names.specs.Heads.{branch_named}
use Rattle.branch_history.specs.declared.moves.Move.{Move}
use Rattle.branch_history.specs.History.{store_of}
use Rattle.branch_history.specs.Steps as machine
use Rattle.branch_machine.specs.Fixed.{fix}
use Rattle.branch_machine.specs.Laws.{HasSize}
use Rattle.branch_machine.specs.Validity.{IsFullyValid}
use Rattle.branch_files.specs.Laws.{ReadsWhatStands}
use Rattle.branch_bundle_laws.specs.Bundles.{Bundle}
use Rattle.branch_bundle_laws.specs.Receiving.{Receipt, NoBundle, Stopped, NotPlaced, Placed as PlacedAs, ReceivesFree}
use Rattle.branch_receipts.specs.Receipts.{Keeps}
use Rattle.branch_receipts.specs.Laws.{KeepsReceived, KeepsOnTheWay, AcceptsSent}
use Rattle.branch_print.specs.Sent.{stop_text}
use Rattle.store_core.specs.Images.{AllStand}
use Rattle.store_core.specs.Views.{StoreView}
use Rattle.store_receive.specs.declared.answers.Placed.{Placed}
use Rattle.store_receive.specs.declared.answers.NotReceived.{NotReceived}
use Rattle.store_receive.specs.declared.answers.NotReceived.TheVariants as unreceived
use Rattle.store_receive.specs.Received.{TellsItem, TellsBranch, TellsReceipt, HasMade, AreReceived, AreInterrupted, AreNotReceived, AreFirstMoves, StandsOnTheirWay}
use Rattle.branch_shell.specs.declared.status.Status.{Status}
use Rattle.branch_shell.specs.declared.status.Status.TheVariants.{Done, Usage, StoreRefused, DiskFault, ReadFault, WriteFault, LineTooLong, InputTooLong, Memory}
use Rattle.branch_shell.specs.Counts.{HasReason, SaysReason}
use Rattle.branch_shell.specs.Disks.{LeavesAsBefore}
use Rattle.branch_shell.specs.Once.{WroteOnce, Answers}
use Rattle.branch_shell.specs.Telling.{Takes}
use Rattle.branch_shell.specs.Stores.{Stored, ReadsAsStore, IsOpenedAs}
use Rattle.branch_shell.specs.Bundling.{not_received_text, receipt_text, fixed_for, with_moves, IsSuccess, IsRefusal, AcceptsSaid, IsAnswered, ReadsOnTheWay, SaysReceipt, WroteReceived, IsUnread, ReceivesFrom, TakenFrom, TellsTaken, SaysTaken, DoesNotReceive, RanReceive, StopsBehind, SourceReason}
use Rattle.branch_shell.proofs.Once.{wrote_map, reason_said}

-- what is said of an item that was refused
item-told : (e : NotReceived) (n : ℕ) (r : machine.Refusal) → TellsItem e n r → not_received_text e ≡ Some (stop_text n r)
item-told unreceived.NoBundle n r tells = absurd tells
item-told (unreceived.BadBundle item) n r (number, is) = ap (λ (k : ℕ). Some (stop_text k machine.BadBundle)) number ∙ ap (λ (x : machine.Refusal). Some (stop_text n x)) (sym is)
item-told (unreceived.OwnOrigin item) n r (number, is) = ap (λ (k : ℕ). Some (stop_text k machine.OwnOrigin)) number ∙ ap (λ (x : machine.Refusal). Some (stop_text n x)) (sym is)
item-told (unreceived.TimeClash item commit) n r (number, is) = ap (λ (k : ℕ). Some (stop_text k (machine.TimeClash commit))) number ∙ ap (λ (x : machine.Refusal). Some (stop_text n x)) (sym is)
item-told (unreceived.Exhausted clock) n r is = ap (λ (x : machine.Refusal). Some (stop_text n x)) (sym is)
item-told (unreceived.ValueTooLarge size) n r is = ap (λ (x : machine.Refusal). Some (stop_text n x)) (sym is)
item-told (unreceived.FullCommits count) n r is = ap (λ (x : machine.Refusal). Some (stop_text n x)) (sym is)
item-told (unreceived.FullMoves count) n r is = ap (λ (x : machine.Refusal). Some (stop_text n x)) (sym is)
item-told (unreceived.Collision address stored fresh) n r is = ap (λ (x : machine.Refusal). Some (stop_text n x)) (sym is)
item-told (unreceived.NameTaken number) n r tells = absurd tells
item-told (unreceived.FullBranches count) n r tells = absurd tells
item-told unreceived.DiskFault n r tells = absurd tells
item-told unreceived.Memory n r tells = absurd tells

-- and of a branch
branch-told : (e : NotReceived) (r : machine.Refusal) → TellsBranch e r → not_received_text e ≡ Some (stop_text 0 r)
branch-told unreceived.NoBundle r tells = absurd tells
branch-told (unreceived.BadBundle item) r tells = absurd tells
branch-told (unreceived.OwnOrigin item) r tells = absurd tells
branch-told (unreceived.TimeClash item number) r tells = absurd tells
branch-told (unreceived.Exhausted clock) r tells = absurd tells
branch-told (unreceived.ValueTooLarge size) r tells = absurd tells
branch-told (unreceived.FullCommits count) r tells = absurd tells
branch-told (unreceived.FullMoves count) r is = ap (λ (x : machine.Refusal). Some (stop_text 0 x)) (sym is)
branch-told (unreceived.Collision address stored fresh) r tells = absurd tells
branch-told (unreceived.NameTaken number) r is = ap (λ (x : machine.Refusal). Some (stop_text 0 x)) (sym is)
branch-told (unreceived.FullBranches count) r is = ap (λ (x : machine.Refusal). Some (stop_text 0 x)) (sym is)
branch-told unreceived.DiskFault r tells = absurd tells
branch-told unreceived.Memory r tells = absurd tells

-- what is said is the text of the receipt, which is a refusal
receipt-told : (e : NotReceived) (receipt : Receipt) → TellsReceipt e receipt → IsRefusal receipt × (not_received_text e ≡ Some (receipt_text receipt))
receipt-told e NoBundle is = (tt, ap not_received_text is)
receipt-told e (Stopped n r) tells = (tt, item-told e n r tells)
receipt-told e (NotPlaced r) tells = (tt, branch-told e r tells)
receipt-told e (PlacedAs count number head) tells = absurd tells

-- of want of memory and of a fault nothing is said
interrupted-told : {D S O R Q A : Type 0} (meaning : Meaning S O R Q A) (terms : Terms) (address : List ℕ → List ℕ) (bytes : List ℕ) (old new : StoreView (Move O R) D) (e : NotReceived) (whole : List ℕ)
    → AreInterrupted (fix meaning terms address) bytes old new e → ¬ (not_received_text e ≡ Some whole)
interrupted-told meaning terms address bytes old new e whole broken says = by broken
  where
    silent : (f : NotReceived) → not_received_text f ≡ None → e ≡ f → ⊥
    silent f none is = let clash : None ≡ Some whole = sym none ∙ sym (ap not_received_text is) ∙ says in cc clash

    by : AreInterrupted (fix meaning terms address) bytes old new e → ⊥
    by (inl (inl (is, same))) = silent unreceived.Memory refl is
    by (inl (inr (is, failed))) = silent unreceived.DiskFault refl is
    by (inr (b, fits, text, stopped)) = ⊎_elim (λ m. silent unreceived.Memory refl m.0) (λ f. silent unreceived.DiskFault refl f.0) stopped.why

module _ {S O R Q A : Type 0} (meaning : Meaning S O R Q A) (address : List ℕ → List ℕ) (law : ReadsWhatStands meaning) (way : KeepsOnTheWay meaning) (store : Stored O R) (bytes name : List ℕ) where
  -- behind first moves all older commits and branches stand
  first-keep : IsFullyValid (fixed_for meaning address store) store.history → (b : Bundle) (made : List (Move O R)) → AreFirstMoves (fixed_for meaning address store) store.history b name made → Keeps (fixed_for meaning address store) store.history name made
  first-keep valid b made (inl some) = subst (Keeps (fixed_for meaning address store) store.history name) (sym some.taken.made_is) ((way store.terms address store.history valid name).0 some.first some.taken.turns some.taken.received)
  first-keep valid b made (inr all) = subst (Keeps (fixed_for meaning address store) store.history name) (sym all.made_is) ((way store.terms address store.history valid name).1 b all.turns all.placed all.received)

  -- what stands on the way reads so
  reads-on-the-way : IsFullyValid (fixed_for meaning address store) store.history → (c : Files) → StandsOnTheirWay (fixed_for meaning address store) store.history bytes name c → ReadsOnTheWay meaning address store bytes name c
  reads-on-the-way valid c (inl before) = inl (law store.terms address store.history c valid before)
  reads-on-the-way valid c (inr (b, fits, text, w)) = inr (b, fits, text, w.made, w.first, first-keep valid b w.made w.first, law store.terms address (store.history ++ w.made) c w.valid w.stands)

  module _ {D : Type 0} (disk : Ghosts D) where
    pub on-the-way : (old new now : D) → now ≡ new → IsFullyValid (fixed_for meaning address store) store.history
        → LeavesOnly disk.moment disk.left_since old new (StandsOnTheirWay (fixed_for meaning address store) store.history bytes name)
        → LeavesOnly disk.moment disk.left_since old now (ReadsOnTheWay meaning address store bytes name)
    on-the-way old new now same valid all =
        subst (λ (d : D). LeavesOnly disk.moment disk.left_since old d (ReadsOnTheWay meaning address store bytes name)) (sym same)
        (weakened disk.moment disk.left_since old new (StandsOnTheirWay (fixed_for meaning address store) store.history bytes name) (ReadsOnTheWay meaning address store bytes name) all (reads-on-the-way valid))

-- nothing was made
module _ {S O R Q A D : Type 0} (meaning : Meaning S O R Q A) (address : List ℕ → List ℕ) (law : ReadsWhatStands meaning) (store : Stored O R) (bytes name : List ℕ) (disk : Ghosts D) where
  pub stays : (old now : D) → now ≡ old → IsFullyValid (fixed_for meaning address store) store.history → AllStand (fixed_for meaning address store) store.history (disk.may_leave now)
      → ((d : D) (c : Files) → disk.left_since d (disk.moment d) c → disk.may_leave d c) → LeavesOnly disk.moment disk.left_since old now (ReadsOnTheWay meaning address store bytes name)
  stays old now same valid stand only_now =
      subst (λ (d : D). LeavesOnly disk.moment disk.left_since d now (ReadsOnTheWay meaning address store bytes name)) same
      (started disk.moment disk.left_since now (ReadsOnTheWay meaning address store bytes name)
      (λ c left. inl (law store.terms address store.history c valid (stand c (only_now now c left)))))

-- a receipt, and what is left then
module _ {D S O R Q A : Type 0} (meaning : Meaning S O R Q A) (address : List ℕ → List ℕ) (law : ReadsWhatStands meaning) (keeps : KeepsReceived meaning) (accepts : AcceptsSent meaning) (size : HasSize address) (bytes name : List ℕ) (old new : StoreView (Move O R) D)
    (valid_old : IsFullyValid (fix meaning old.terms address) old.history) (free : branch_named (store_of old.terms.origin old.history).branches name ≡ None) (few : length bytes < 2 ^ 32) where
  abbrev before : Stored O R
  before = record { terms = old.terms; history = old.history }

  -- what a sender sent is acceptable
  said-accepted : (receipt : Receipt) (made : List (Move O R)) → ReceivesFree (fix meaning old.terms address) old.history bytes name receipt made → AcceptsSaid meaning address before bytes made receipt
  said-accepted receipt made received sender tip here sends is =
      let short : HasLength64 bytes = omega (arith, few) in
      accepts sender.terms old.terms address size sender.history old.history tip here sends (subst (λ (b : List ℕ). HasLength64 b) is short) name free receipt made
      (subst (λ (b : List ℕ). ReceivesFree (fix meaning old.terms address) old.history b name receipt made) is received)

  module _ (images : Files → Type 0) where
    answered : (receipt : Receipt) → AreReceived (fix meaning old.terms address) bytes name old new receipt → IsFullyValid (fix meaning new.terms address) new.history
        → (new.failed ≡ false → AllStand (fix meaning new.terms address) new.history images) → old.failed ≡ false → IsAnswered meaning address before bytes name images receipt
    answered receipt r valid stand worked =
        let valid_now = subst (λ (v : StoreView (Move O R) D). IsFullyValid (fix meaning v.terms address) v.history) r.now valid in
        let works : new.failed ≡ false = ap (λ (v : StoreView (Move O R) D). v.failed) r.now ∙ worked in
        let stand_now = subst (λ (v : StoreView (Move O R) D). AllStand (fix meaning v.terms address) v.history images) r.now (stand works) in
        record {
          made = r.made;
          received = r.received;
          reads = λ c image. law old.terms address (old.history ++ r.made) c valid_now (stand_now c image);
          has = keeps old.terms address old.history valid_old bytes name receipt r.made r.received;
          accepts = said-accepted receipt r.made r.received;
        }

    pub success-said : (p : Placed) → AreReceived (fix meaning old.terms address) bytes name old new (PlacedAs p.count p.branch p.head) → IsFullyValid (fix meaning new.terms address) new.history
        → (new.failed ≡ false → AllStand (fix meaning new.terms address) new.history images) → old.failed ≡ false → (whole : List ℕ)
        → whole ≡ receipt_text (PlacedAs p.count p.branch p.head) → SaysReceipt meaning address before bytes name images IsSuccess whole
    success-said p r valid stand worked whole is = (PlacedAs p.count p.branch p.head, tt, answered (PlacedAs p.count p.branch p.head) r valid stand worked, is)

    pub refusal-said : (e : NotReceived) → AreNotReceived (fix meaning old.terms address) bytes name old new e → IsFullyValid (fix meaning new.terms address) new.history
        → (new.failed ≡ false → AllStand (fix meaning new.terms address) new.history images) → old.failed ≡ false → (whole : List ℕ)
        → not_received_text e ≡ Some whole → SaysReceipt meaning address before bytes name images IsRefusal whole
    refusal-said e (inr broken) valid stand worked whole says = absurd (interrupted-told meaning old.terms address bytes old new e whole broken says)
    refusal-said e (inl (receipt, tells, r)) valid stand worked whole says =
        let told = receipt-told e receipt tells in
        let both : Some whole ≡ Some (receipt_text receipt) = sym says ∙ told.1 in
        (receipt, told.0, answered receipt r valid stand worked, cc both)

-- the counts where the disk may have failed
pub reason_received : {T : Type 0} (success refused : List ℕ → Type 0) (n k0 k1 d0 d1 : ℕ) (g0 g1 : Option (List ℕ)) (e : NotReceived) (status : Status) → Answers success refused status g0 g1
    → HasCauseOf {T = T} unreceived.DiskFault d0 d1 (Err e) → (status ≡ DiskFault) ↔ (e ≡ unreceived.DiskFault) → SaysReason k0 k1 status
    → HasReason (record { source = n; sink = k0; disk = d0 }) (record { source = n; sink = k1; disk = d1 }) status
reason_received {T} success refused n k0 k1 d0 d1 g0 g1 e status w cause fault says = by status refl
  where
    other : (s : Status) → status ≡ s → ¬ (s ≡ DiskFault) → HasReason (record { source = n; sink = k0; disk = d0 }) (record { source = n; sink = k1; disk = d1 }) status
    other s is never =
        reason_said success refused n k0 k1 d0 d1 g0 g1 status w
        (cause.others (λ is_fault. let same : e ≡ unreceived.DiskFault = cc is_fault in never (sym is ∙ fault.1 same))) (λ f. never (sym is ∙ f)) says

    by : (s : Status) → status ≡ s → HasReason (record { source = n; sink = k0; disk = d0 }) (record { source = n; sink = k1; disk = d1 }) status
    by DiskFault is =
        subst (HasReason (record { source = n; sink = k0; disk = d0 }) (record { source = n; sink = k1; disk = d1 })) (sym is)
        (cause.failed (ap Err (fault.0 is)), refl, subst (SaysReason k0 k1) is says)
    by Done is = other Done is (λ f. cc f)
    by Usage is = other Usage is (λ f. cc f)
    by StoreRefused is = other StoreRefused is (λ f. cc f)
    by ReadFault is = other ReadFault is (λ f. cc f)
    by WriteFault is = other WriteFault is (λ f. cc f)
    by LineTooLong is = other LineTooLong is (λ f. cc f)
    by InputTooLong is = other InputTooLong is (λ f. cc f)
    by Memory is = other Memory is (λ f. cc f)

-- where the sink failed, the disk did not
pub not_behind_received : {T : Type 0} (d0 d1 : ℕ) (e : NotReceived) (status : Status) → HasCauseOf {T = T} unreceived.DiskFault d0 d1 (Err e) → (status ≡ DiskFault) ↔ (e ≡ unreceived.DiskFault) → status ≡ WriteFault → d1 ≡ d0
not_behind_received d0 d1 e status cause fault is =
    cause.others (λ is_fault. let same : e ≡ unreceived.DiskFault = cc is_fault in let clash : WriteFault ≡ DiskFault = sym is ∙ fault.1 same in absurd (cc clash))

module _ {S O R Q A : Type 0} (meaning : Meaning S O R Q A) (address : List ℕ → List ℕ) (store : Stored O R) (name : List ℕ) (images : Files → Type 0) (left : Option (List ℕ)) (input : List ℕ) where
  abbrev Success : List ℕ → Type 0
  Success = SaysReceipt meaning address store input name images IsSuccess

  abbrev Refusal : List ℕ → Type 0
  Refusal = SaysReceipt meaning address store input name images IsRefusal

  -- what was written of an input that was read to its end
  pub wrote-read : (status : Status) (text : List ℕ) → IsAtEnd left → length input < 2 ^ 32 → WroteOnce Success Refusal status text → WroteReceived meaning address store name images left status input text
  wrote-read Done text end few w = (end, few, w)
  wrote-read Usage text end few w = absurd w
  wrote-read StoreRefused text end few w = (end, few, w)
  wrote-read DiskFault text end few w = (end, few, w)
  wrote-read ReadFault text end few w = absurd w
  wrote-read WriteFault text end few w = (end, few, w)
  wrote-read LineTooLong text end few w = absurd w
  wrote-read InputTooLong text end few w = absurd w
  wrote-read Memory text end few w = (omega (arith, few), w)

  pub never-unread : (X : Type 0) (status : Status) (text : List ℕ) → WroteOnce Success Refusal status text → IsUnread status → X
  never-unread X Done text w un = absurd un
  never-unread X Usage text w un = absurd un
  never-unread X StoreRefused text w un = absurd un
  never-unread X DiskFault text w un = absurd un
  never-unread X ReadFault text w un = absurd w
  never-unread X WriteFault text w un = absurd un
  never-unread X LineTooLong text w un = absurd un
  never-unread X InputTooLong text w un = absurd w
  never-unread X Memory text w un = absurd un

  -- and of one that was not
  pub wrote-unread : (status : Status) → StopsBehind status input → WroteReceived meaning address store name images left status input []
  wrote-unread Done stops = absurd stops
  wrote-unread Usage stops = absurd stops
  wrote-unread StoreRefused stops = absurd stops
  wrote-unread DiskFault stops = absurd stops
  wrote-unread ReadFault stops = (stops, refl)
  wrote-unread WriteFault stops = absurd stops
  wrote-unread LineTooLong stops = absurd stops
  wrote-unread InputTooLong stops = (stops, refl)
  wrote-unread Memory stops = (stops, refl)

pub unread_reason : (input : List ℕ) (s0 s1 k d : ℕ) (status : Status) → StopsBehind status input → SourceReason s0 s1 status → HasReason (record { source = s0; sink = k; disk = d }) (record { source = s1; sink = k; disk = d }) status
unread_reason input s0 s1 k d Done stops cause = absurd stops
unread_reason input s0 s1 k d Usage stops cause = absurd stops
unread_reason input s0 s1 k d StoreRefused stops cause = absurd stops
unread_reason input s0 s1 k d DiskFault stops cause = absurd stops
unread_reason input s0 s1 k d ReadFault stops cause = (cause, refl, refl)
unread_reason input s0 s1 k d WriteFault stops cause = absurd stops
unread_reason input s0 s1 k d LineTooLong stops cause = absurd stops
unread_reason input s0 s1 k d InputTooLong stops cause = (cause, refl, refl)
unread_reason input s0 s1 k d Memory stops cause = (cause, refl, refl)

pub never_write_fault : (input : List ℕ) (X : Type 0) (status : Status) → StopsBehind status input → status ≡ WriteFault → X
never_write_fault input X status stops is = absurd (subst (λ (s : Status). StopsBehind s input) is stops)

-- what was done since the opening, from the start
module _ {S O R Q A T P X B C D : Type 0} (disk : Ghosts D) (kind : ℕ) (meaning : Meaning S O R Q A) (old_meaning : Meaning T P X B C) (address : List ℕ → List ℕ) (name : List ℕ) where
  pub ran-opened : (old opened new : D) (store : Stored O R) (left : Option (List ℕ)) (status : Status) (input text : List ℕ) → IsOpenedAs kind meaning address (disk.contents old) store → LeavesAsBefore disk old opened
      → TakenFrom disk meaning address name store opened new left status input text → RanReceive disk kind meaning old_meaning address name old new left status input text
  ran-opened old opened new store left status input text is before (inl (none, wrote, same)) = inl (record {
    no_input = none;
    wrote = wrote_map (λ whole. ⊥) (TellsTaken store name) (λ whole. ⊥) (SaysTaken kind meaning old_meaning address (disk.contents old) name) (λ whole no. no) (λ whole taken. inr (store, is, taken)) status text wrote;
    kept = subst (LeavesAsBefore disk old) (sym same) before;
  })
  ran-opened old opened new store left status input text is before (inr from) = inr (store, is, record { opened = opened; before = before; since = from })

  -- receiving tells no misuse
  pub receive_usage : (old new : D) (left : Option (List ℕ)) (status : Status) (input text : List ℕ) → RanReceive disk kind meaning old_meaning address name old new left status input text → status ≡ Usage → ⊥
  receive_usage old new left status input text (inl none) is = subst (λ (s : Status). WroteOnce (λ whole. ⊥) (SaysTaken kind meaning old_meaning address (disk.contents old) name) s text) is none.wrote
  receive_usage old new left status input text (inr (store, opened, did)) is =
      (subst (λ (s : Status). WroteReceived meaning address store name (disk.may_leave new) left s input text) is did.since.wrote).2

-- a piece that was taken is behind the bytes before it
module _ (l0 l1 l2 : Option (List ℕ)) (bytes old new : List ℕ) (count read : ℕ) (took : Consumes l0 l1 bytes) (counted : read ≡ length bytes) (takes : Takes (take 0 old) (take (0 + count) new) l1 l2 count) where
  piece-is : takes.piece ≡ take count new
  piece-is = let plain : 0 + count ≡ count = omega arith in sym takes.added ∙ ap (λ (k : ℕ). take k new) plain

  pub took-more : Consumes l0 l2 (bytes ++ take count new)
  took-more = subst (λ (p : List ℕ). Consumes l0 l2 (bytes ++ p)) piece-is (Consumes-trans l0 l1 l2 bytes takes.piece took takes.took)

  pub counted-more : read + count ≡ length (bytes ++ take count new)
  counted-more =
      let long : length (bytes ++ take count new) ≡ length bytes + length (take count new) = length-append bytes (take count new) in
      let size : length (take count new) ≡ count = ap length (sym piece-is) ∙ takes.counted in
      omega (arith, long, size, counted)

  pub took-none : count ≡ 0 → Consumes l0 l2 bytes
  took-none none =
      let nothing : takes.piece ≡ [] = length-zero takes.piece (takes.counted ∙ none) in
      subst (Consumes l0 l2) (append-nil bytes) (subst (λ (p : List ℕ). Consumes l0 l2 (bytes ++ p)) nothing (Consumes-trans l0 l1 l2 bytes takes.piece took takes.took))
    where
      length-zero : (xs : List ℕ) → length xs ≡ 0 → xs ≡ []
      length-zero [] is = refl
      length-zero (x ∷ xs) is = absurd (omega (arith, is))
