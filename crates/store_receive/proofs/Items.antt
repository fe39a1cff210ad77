-- What the core answers to items that it receives together, as what is told of them here.
use Rattle.std.proofs.Common.{◌≡◌, ◌≢◌, ◌⊎◌, inl, inr, ℕ, ◌+◌, arith, true, false, List, [], ◌∷◌, ◌++◌, length, map, refl, ap, sym, ◌∙◌, subst, append-nil, Some, None}
use Rattle.std.specs.Prelude.{Result, Ok, Err}
use mathlib.Core.List.{IsPrefix}
use Rattle.mrdt_model.specs.Laws.{Meaning}
use Rattle.branch_io.specs.Causes.{HasCauseOf}
use Rattle.branch_disk.specs.Disk.{Files, LeavesOnly}
use Rattle.branch_disk.specs.declared.disk.Disk.{Ghosts}
use Rattle.branch_disk.specs.Moments.{weakened}
use Rattle.branch_history.specs.declared.moves.Move.{Move}
use Rattle.branch_history.specs.Steps.{Refusal, Turn}
use Rattle.branch_history.specs.Steps as machine
use Rattle.branch_machine.specs.Fixed.{Fixed, fix}
use Rattle.branch_machine.specs.Objects.{Pair}
use Rattle.branch_machine.specs.Validity.{IsFullyValid, Receives}
use Rattle.branch_files.specs.Stands.{Stands}
use Rattle.machine_answers.specs.Answers.{Refused}
use Rattle.branch_bundle_laws.specs.Receiving.{IsTaken, made_by, ReceivesAll, EndsRefused}
use Rattle.branch_bundle_laws.proofs.Folds.{has-items}
use Rattle.branch_bundle_laws.proofs.Turns.{IsReceivedAs, WasHere, WasNew, WasRefused, WasBad, received-as}
use Rattle.branch_bundle.specs.declared.bundle.Item.{Item}
use Rattle.branch_bundle.specs.Held.{pair_of}
use Rattle.store_core.specs.declared.answers.Got.{Got}
use Rattle.store_core.specs.declared.answers.GotAll.{GotAll}
use Rattle.store_core.specs.declared.answers.ReceiveRefused.{ReceiveRefused}
use Rattle.store_core.specs.declared.answers.ReceiveRefused.TheVariants as refusal
use Rattle.store_core.specs.Images.{WithFirst}
use Rattle.store_core.specs.Receiving.{receive_answer, NamesItem}
use Rattle.store_core.specs.Together.{TellsTurns, NamesNext, TakesItems}
use Rattle.store_core.specs.Views.{StoreView}
use Rattle.store_core.proofs.Arrived.{told-taken}
use Rattle.store_core.proofs.Turns.{makes-taken}
use Rattle.store_receive.specs.declared.answers.NotReceived.{NotReceived}
use Rattle.store_receive.specs.declared.answers.NotReceived.TheVariants as unreceived
use Rattle.store_receive.specs.Received.{TellsItem, item_stopped, AreSomeTaken, MakesNothing, TakesAll, StopsIn, StandsAfterSome}

module _ {S O R Q A : Type 0} (fixed : Fixed S O R Q A) where
  -- no items
  none-taken : (history : List (Move O R)) (items : List Pair) → AreSomeTaken fixed history items []
  none-taken history items = record { first = []; rest = items; parts = refl; taken = record { turns = []; received = refl; taken = tt; made_is = refl } }

  -- an item that was taken, and some first ones of those behind it
  one-taken : (history : List (Move O R)) (item : Pair) (items : List Pair) (t : Turn O R A) (made : List (Move O R)) → Receives fixed history item t → IsTaken t → AreSomeTaken fixed (history ++ t.made) items made
      → AreSomeTaken fixed history (item ∷ items) (t.made ++ made)
  one-taken history item items t made receives is some = record {
    first = item ∷ some.first;
    rest = some.rest;
    parts = ap (λ (l : List Pair). item ∷ l) some.parts;
    taken = record {
      turns = t ∷ some.taken.turns;
      received = (receives, inl (is, some.taken.received));
      taken = (is, some.taken.taken);
      made_is = ap (λ (l : List (Move O R)). t.made ++ l) some.taken.made_is;
    };
  }

  -- a turn that makes no move, and the first moves of the turns behind it
  skips : (history : List (Move O R)) (item : Pair) (items : List Pair) (t : Turn O R A) (first : List (Move O R)) → Receives fixed history item t → IsTaken t → t.made ≡ []
      → AreSomeTaken fixed (history ++ t.made) items first → AreSomeTaken fixed history (item ∷ items) first
  skips history item items t first receives is none some =
      subst (λ (l : List (Move O R)). AreSomeTaken fixed history (item ∷ items) (l ++ first)) none (one-taken history item items t first receives is some)

  -- The first of the moves that items make are those that the first of the items make.
  pub first-items : (history : List (Move O R)) (items : List Pair) (turns : List (Turn O R A)) (first : List (Move O R)) → ReceivesAll fixed history items turns → IsPrefix first (made_by turns) → AreSomeTaken fixed history items first
  first-items history items turns [] received among = none-taken history items
  first-items history [] turns (m ∷ first) none among =
      let clash : m ∷ (first ++ among.0) ≡ [] = among.1 ∙ ap (λ (l : List (Turn O R A)). made_by l) none in
      absurd (cc clash)
  first-items history (item ∷ items) [] (m ∷ first) received among = absurd received
  first-items history (item ∷ items) (t ∷ ts) (m ∷ first) (one, inl (is, more)) among =
      at (received-as fixed history item t one) (λ rest p. first-items (history ++ t.made) items ts rest more p)
    where
      still : t.made ≡ [] → ((rest : List (Move O R)) → IsPrefix rest (made_by ts) → AreSomeTaken fixed (history ++ t.made) items rest) → AreSomeTaken fixed history (item ∷ items) (m ∷ first)
      still none behind = skips history item items t (m ∷ first) one is none (behind (m ∷ first) (among.0, among.1 ∙ ap (λ (l : List (Move O R)). l ++ made_by ts) none))

      at : IsReceivedAs fixed history item t → ((rest : List (Move O R)) → IsPrefix rest (made_by ts) → AreSomeTaken fixed (history ++ t.made) items rest) → AreSomeTaken fixed history (item ∷ items) (m ∷ first)
      at (WasHere n there same) behind = still (ap (λ (u : Turn O R A). u.made) same) behind
      at (WasRefused r may same) behind = still (ap (λ (u : Turn O R A). u.made) same) behind
      at (WasBad nowhere same) behind = still (ap (λ (u : Turn O R A). u.made) same) behind
      at (WasNew k same full pairs branches how) behind =
          let made : t.made ≡ k ∷ [] = ap (λ (u : Turn O R A). u.made) same in
          let all : m ∷ (first ++ among.0) ≡ k ∷ made_by ts = among.1 ∙ ap (λ (l : List (Move O R)). l ++ made_by ts) made in
          let rest : first ++ among.0 ≡ made_by ts = cc all in
          let head : k ≡ m = cc all in
          let whole : t.made ++ first ≡ m ∷ first = ap (λ (l : List (Move O R)). l ++ first) made ∙ ap (λ (x : Move O R). x ∷ first) head in
          subst (AreSomeTaken fixed history (item ∷ items)) whole (one-taken history item items t first one is (behind first (among.0, rest)))
  first-items history (item ∷ items) (t ∷ ts) (m ∷ first) (one, inr (not, none)) among = at (received-as fixed history item t one)
    where
      all : m ∷ (first ++ among.0) ≡ t.made
      all = among.1 ∙ ap (λ (l : List (Turn O R A)). t.made ++ made_by l) none ∙ append-nil t.made

      still : t.made ≡ [] → AreSomeTaken fixed history (item ∷ items) (m ∷ first)
      still no_move = let clash : m ∷ (first ++ among.0) ≡ [] = all ∙ no_move in absurd (cc clash)

      at : IsReceivedAs fixed history item t → AreSomeTaken fixed history (item ∷ items) (m ∷ first)
      at (WasHere n there same) = still (ap (λ (u : Turn O R A). u.made) same)
      at (WasRefused r may same) = still (ap (λ (u : Turn O R A). u.made) same)
      at (WasBad nowhere same) = still (ap (λ (u : Turn O R A). u.made) same)
      at (WasNew k same full pairs branches how) = absurd (not (makes-taken fixed history item t k one (ap (λ (u : Turn O R A). u.made) same)))

module _ {O R A : Type 0} where
  -- how turns end of which a refusal is told
  pub record StopsSo (turns : List (Turn O R A)) (gots : List Got) (e : ReceiveRefused) : Type 0 where
    pub refusal : Refusal
    pub ends : EndsRefused turns refusal
    pub counted : length turns ≡ length gots + 1
    pub answer : receive_answer {A = A} {R = R} (Err e) ≡ Refused refusal

  pub ends-behind : (t : Turn O R A) (ts : List (Turn O R A)) (r : Refusal) → EndsRefused ts r → EndsRefused (t ∷ ts) r
  ends-behind t [] r ends = absurd ends
  ends-behind t (u ∷ ts) r ends = ends

  pub stops-so : (history : List (Move O R)) (turns : List (Turn O R A)) (gots : List Got) (e : ReceiveRefused) → TellsTurns history turns gots (Some e) → StopsSo turns gots e
  stops-so history turns [] e (t, one, (r, answer, is)) = record {
    refusal = r;
    ends = subst (λ (l : List (Turn O R A)). EndsRefused l r) (sym one) (ap (λ (u : Turn O R A). u.outcome) is);
    counted = ap length one;
    answer = answer;
  }
  stops-so history [] (g ∷ gots) e told = absurd told
  stops-so history (t ∷ turns) (g ∷ gots) e told =
      let rest = stops-so (history ++ t.made) turns gots e told.1 in
      record { refusal = rest.refusal; ends = ends-behind t turns rest.refusal rest.ends; counted = omega (arith, rest.counted); answer = rest.answer }

module _ {R A : Type 0} where
  -- what the core tells of an item that is refused is told here
  pub tells-item : (e : ReceiveRefused) (r : Refusal) (number : ℕ) → receive_answer {A = A} {R = R} (Err e) ≡ Refused r → NamesItem number e → TellsItem (item_stopped e) number r
  tells-item (refusal.BadBundle n) r number is names = let same : machine.BadBundle ≡ r = cc is in (names, sym same)
  tells-item (refusal.OwnOrigin n) r number is names = let same : machine.OwnOrigin ≡ r = cc is in (names, sym same)
  tells-item (refusal.TimeClash n commit) r number is names = let same : machine.TimeClash commit ≡ r = cc is in (names, sym same)
  tells-item (refusal.Exhausted clock) r number is names = let same : machine.Exhausted clock ≡ r = cc is in sym same
  tells-item (refusal.ValueTooLarge size) r number is names = let same : machine.ValueTooLarge size ≡ r = cc is in sym same
  tells-item (refusal.FullCommits count) r number is names = let same : machine.FullCommits count ≡ r = cc is in sym same
  tells-item (refusal.FullMoves count) r number is names = let same : machine.FullMoves count ≡ r = cc is in sym same
  tells-item (refusal.Collision a stored fresh) r number is names = let same : machine.Collision a stored fresh ≡ r = cc is in sym same
  tells-item refusal.DiskFault r number is names = absurd (cc is)
  tells-item (refusal.Failed moves) r number is names = absurd (cc is)
  tells-item refusal.Memory r number is names = absurd (cc is)

  -- what is told of an item is no fault of the disk
  pub no-fault : (e : ReceiveRefused) (r : Refusal) → receive_answer {A = A} {R = R} (Err e) ≡ Refused r → item_stopped e ≢ unreceived.DiskFault
  no-fault (refusal.BadBundle n) r is fault = cc fault
  no-fault (refusal.OwnOrigin n) r is fault = cc fault
  no-fault (refusal.TimeClash n commit) r is fault = cc fault
  no-fault (refusal.Exhausted clock) r is fault = cc fault
  no-fault (refusal.ValueTooLarge size) r is fault = cc fault
  no-fault (refusal.FullCommits count) r is fault = cc fault
  no-fault (refusal.FullMoves count) r is fault = cc fault
  no-fault (refusal.Collision a stored fresh) r is fault = cc fault
  no-fault refusal.DiskFault r is fault = absurd (cc is)
  no-fault (refusal.Failed moves) r is fault = absurd (cc is)
  no-fault refusal.Memory r is fault = absurd (cc is)

module _ {D S O R Q A : Type 0} (disk : Ghosts D) (meaning : Meaning S O R Q A) (address : List ℕ → List ℕ) (items : List Item) (old new : StoreView (Move O R) D) where
  abbrev fixed : Fixed S O R Q A
  fixed = fix meaning old.terms address

  abbrev pairs : List Pair
  pairs = map pair_of items

  abbrev Takes : Result GotAll ReceiveRefused → Type 0
  Takes result = TakesItems disk meaning address pairs old new result

  -- all were taken
  pub batch-taken : (all : GotAll) → Takes (Ok all) → all.refused ≡ None → TakesAll fixed pairs old new all.made
  batch-taken all t none =
      let told : TellsTurns old.history t.turns all.got None = subst (TellsTurns old.history t.turns all.got) none t.answered.told in
      record {
        made = made_by t.turns;
        taken = record { turns = t.turns; received = t.answered.received; taken = told-taken old.history t.turns all.got told; made_is = refl };
        counted = t.answered.counted;
        now = t.answered.history;
      }

  -- one was refused
  pub batch-stops : (all : GotAll) (e : ReceiveRefused) → Takes (Ok all) → all.refused ≡ Some e → NamesNext items all.got all.refused → StopsIn fixed items old new (item_stopped e)
  batch-stops all e t some names =
      let told : TellsTurns old.history t.turns all.got (Some e) = subst (TellsTurns old.history t.turns all.got) some t.answered.told in
      let stop = stops-so old.history t.turns all.got e told in
      let (item, last, named) = subst (NamesNext items all.got) some names in
      record {
        turns = t.turns;
        received = t.answered.received;
        refusal = stop.refusal;
        ends = stop.ends;
        before = length all.got;
        counted = stop.counted;
        item = item;
        last = last;
        tells = tells-item e stop.refusal item.number stop.answer named;
        now = t.answered.history;
      }

  -- none was, since the disk failed or memory was short
  pub batch-nothing : (e : ReceiveRefused) → old.failed ≡ false → Takes (Err e) → MakesNothing old new (item_stopped e)
  batch-nothing (refusal.Failed moves) worked t = let clash : false ≡ true = sym worked ∙ t.answered.0 in absurd (cc clash)
  batch-nothing (refusal.BadBundle n) worked t = absurd t.answered
  batch-nothing (refusal.OwnOrigin n) worked t = absurd t.answered
  batch-nothing (refusal.TimeClash n commit) worked t = absurd t.answered
  batch-nothing (refusal.Exhausted clock) worked t = absurd t.answered
  batch-nothing (refusal.ValueTooLarge size) worked t = absurd t.answered
  batch-nothing (refusal.FullCommits count) worked t = absurd t.answered
  batch-nothing (refusal.FullMoves count) worked t = absurd t.answered
  batch-nothing (refusal.Collision a stored fresh) worked t = absurd t.answered
  batch-nothing refusal.DiskFault worked t = inr (refl, t.answered.kept)
  batch-nothing refusal.Memory worked t = inl (refl, t.answered.1.same)

  -- at each moment the first of the moves are those of the first of the items
  module _ (valid : IsFullyValid fixed old.history) where
    after-first : (c : Files) (made : List (Move O R)) → AreSomeTaken fixed old.history pairs made → Stands fixed (old.history ++ made) c → StandsAfterSome fixed old.history pairs c
    after-first c made some stands =
        let taken = some.taken in
        record {
          made = made;
          first = some;
          valid = subst (λ (l : List (Move O R)). IsFullyValid fixed (old.history ++ l)) (sym taken.made_is) (has-items fixed old.history valid some.first taken.turns taken.received).valid;
          stands = stands;
        }

    by-turns : (turns : List (Turn O R A)) → ReceivesAll fixed old.history pairs turns ⊎ (turns ≡ []) → (c : Files) → WithFirst fixed old.history (made_by turns) c → StandsAfterSome fixed old.history pairs c
    by-turns turns (inl received) c (first, among, stands) = after-first c first (first-items fixed old.history pairs turns first received among) stands
    by-turns turns (inr none) c (first, among, stands) =
        let ends : first ++ among.0 ≡ [] = among.1 ∙ ap (λ (l : List (Turn O R A)). made_by l) none in
        let empty : first ≡ [] = no-first first among.0 ends in
        after-first c first (subst (AreSomeTaken fixed old.history pairs) (sym empty) (none-taken fixed old.history pairs)) stands
      where
        no-first : (xs ys : List (Move O R)) → xs ++ ys ≡ [] → xs ≡ []
        no-first [] ys is = refl
        no-first (x ∷ xs) ys is = absurd (cc is)

    asked : (result : Result GotAll ReceiveRefused) → (t : Takes result) → ReceivesAll fixed old.history pairs t.turns ⊎ (t.turns ≡ [])
    asked (Ok all) t = inl t.answered.received
    asked (Err (refusal.Failed moves)) t = inr t.answered.2.none
    asked (Err (refusal.BadBundle n)) t = absurd t.answered
    asked (Err (refusal.OwnOrigin n)) t = absurd t.answered
    asked (Err (refusal.TimeClash n commit)) t = absurd t.answered
    asked (Err (refusal.Exhausted clock)) t = absurd t.answered
    asked (Err (refusal.ValueTooLarge size)) t = absurd t.answered
    asked (Err (refusal.FullCommits count)) t = absurd t.answered
    asked (Err (refusal.FullMoves count)) t = absurd t.answered
    asked (Err (refusal.Collision a stored fresh)) t = absurd t.answered
    asked (Err refusal.DiskFault) t = inl t.answered.received
    asked (Err refusal.Memory) t = inr t.answered.1.none

    pub batch-moments : (result : Result GotAll ReceiveRefused) → old.failed ≡ false → Takes result → LeavesOnly disk.moment disk.left_since old.disk new.disk (StandsAfterSome fixed old.history pairs)
    batch-moments result worked t =
        weakened disk.moment disk.left_since old.disk new.disk (WithFirst fixed old.history (made_by t.turns)) (StandsAfterSome fixed old.history pairs) (t.leaves.moments worked) (by-turns t.turns (asked result t))

  -- the count of faults stays, but at a fault of the disk
  quiet : {T : Type 0} (result : Result T NotReceived) → disk.faults new.disk ≡ disk.faults old.disk → result ≢ Err unreceived.DiskFault → HasCauseOf unreceived.DiskFault (disk.faults old.disk) (disk.faults new.disk) result
  quiet result same never = record { later = omega (arith, same); failed = λ is. absurd (never is); others = λ is. same }

  goes-on-so : (all : GotAll) → Takes (Ok all) → disk.faults new.disk ≡ disk.faults old.disk
  goes-on-so all t = t.leaves.quiet (ap (λ (v : StoreView (Move O R) D). v.failed) t.answered.history)

  pub took-cause : (all : GotAll) (count : ℕ) → Takes (Ok all) → HasCauseOf {T = ℕ} unreceived.DiskFault (disk.faults old.disk) (disk.faults new.disk) (Ok count)
  took-cause all count t = quiet (Ok count) (goes-on-so all t) (λ is. cc is)

  pub stop-cause : (all : GotAll) (e : ReceiveRefused) → Takes (Ok all) → all.refused ≡ Some e → HasCauseOf {T = ℕ} unreceived.DiskFault (disk.faults old.disk) (disk.faults new.disk) (Err (item_stopped e))
  stop-cause all e t some =
      let stop = stops-so old.history t.turns all.got e (subst (TellsTurns old.history t.turns all.got) some t.answered.told) in
      quiet (Err (item_stopped e)) (goes-on-so all t) (λ is. no-fault {R = R} {A = A} e stop.refusal stop.answer (cc is))

  pub nothing-cause : (e : ReceiveRefused) → old.failed ≡ false → Takes (Err e) → HasCauseOf {T = ℕ} unreceived.DiskFault (disk.faults old.disk) (disk.faults new.disk) (Err (item_stopped e))
  nothing-cause (refusal.Failed moves) worked t = let clash : false ≡ true = sym worked ∙ t.answered.0 in absurd (cc clash)
  nothing-cause (refusal.BadBundle n) worked t = absurd t.answered
  nothing-cause (refusal.OwnOrigin n) worked t = absurd t.answered
  nothing-cause (refusal.TimeClash n commit) worked t = absurd t.answered
  nothing-cause (refusal.Exhausted clock) worked t = absurd t.answered
  nothing-cause (refusal.ValueTooLarge size) worked t = absurd t.answered
  nothing-cause (refusal.FullCommits count) worked t = absurd t.answered
  nothing-cause (refusal.FullMoves count) worked t = absurd t.answered
  nothing-cause (refusal.Collision a stored fresh) worked t = absurd t.answered
  nothing-cause refusal.DiskFault worked t =
      let failed = ap (λ (v : StoreView (Move O R) D). v.failed) t.answered.kept in
      record { later = t.leaves.later; failed = λ is. t.leaves.caused worked failed; others = λ never. absurd (never refl) }
  nothing-cause refusal.Memory worked t = quiet (Err unreceived.Memory) (ap (λ (v : StoreView (Move O R) D). disk.faults v.disk) t.answered.1.same) (λ is. cc is)
