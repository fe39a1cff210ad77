-- What receiving items together answered and left, from what arrived in memory and was put on the disk.
use Rattle.std.proofs.Common.{◌≡◌, ◌≢◌, ℕ, ◌≤◌, ◌^◌, Bool, true, false, List, [], ◌∷◌, ◌++◌, length, map, refl, sym, ◌∙◌, ap, subst, arith, append-nil, Option, Result, Ok, Err}
use Rattle.branch_io.specs.Causes.{Rose}
use Rattle.branch_disk.specs.Disk.{Files, LeavesOnly}
use Rattle.branch_disk.specs.declared.disk.Disk.{Ghosts}
use Rattle.mrdt_model.specs.Laws.{Meaning}
use Rattle.branch_names.specs.declared.terms.Terms.{Terms}
use Rattle.branch_history.specs.declared.moves.Move.{Move}
use Rattle.heads_journal.specs.declared.record.Record.{Record}
use Rattle.branch_machine.specs.Fixed.{Fixed, fix}
use Rattle.branch_machine.specs.Objects.{Pair}
use Rattle.branch_machine.specs.Validity.{IsFullyValid}
use Rattle.branch_files.specs.Records.{records_after}
use Rattle.branch_bundle_laws.specs.Receiving.{made_by}
use Rattle.branch_bundle_laws.proofs.Mapped.{length-mapped}
use Rattle.branch_bundle.specs.declared.bundle.Item.{Item}
use Rattle.branch_bundle.specs.Held.{pair_of}
use Rattle.recorded_history.specs.Views.{RecordedView}
use Rattle.store_core.specs.declared.answers.Got.{Got}
use Rattle.store_core.specs.declared.answers.GotAll.{GotAll}
use Rattle.store_core.specs.declared.answers.ReceiveRefused.{ReceiveRefused}
use Rattle.store_core.specs.declared.answers.ReceiveRefused.TheVariants as refusal
use Rattle.store_core.specs.Batches.{ExactlyAll}
use Rattle.store_core.specs.Contents.{MayTear, PutsExactly}
use Rattle.store_core.specs.Images.{AllStand, WithFirst}
use Rattle.store_core.specs.Keeps.{Waits}
use Rattle.store_core.specs.Together.{TellsTurns, HaveArrived, TakesItems}
use Rattle.store_core.specs.Views.{StoreView}
use Rattle.store_core.proofs.Answered.{view_of}
use Rattle.store_core.proofs.Turns.{made-few}
use Rattle.store_core.proofs.Waited.{left-still, left-put, left-fault, settled_is, undone_is, all_moments, all_valid, all_stand, all_exact, all_torn, all_few}
use Rattle.store_core.proofs.Waiting.{length-records_after}

-- a list of no length
no_items : {X : Type 0} (xs : List X) → length xs ≡ 0 → xs ≡ []
no_items [] none = refl
no_items (x ∷ xs) none = absurd (omega arith)

-- items that arrived in memory
module _ {S O R Q A : Type 0} (fixed : Fixed S O R Q A) (items : List Item) (old new : RecordedView (Move O R)) (got : List Got) (refused : Option ReceiveRefused) (records : List Record) (have : HaveArrived fixed (map pair_of items) old new got refused records) where
  -- there are as many records as moves
  pub records-many : length records ≡ length (made_by have.turns)
  records-many = ap length have.are ∙ length-records_after fixed old.written (made_by have.turns)

  pub no_made : length records ≡ 0 → made_by have.turns ≡ []
  no_made none = no_items (made_by have.turns) (sym records-many ∙ none)

  -- their moves wait, no more than a batch may have
  pub waits_all : length items ≤ 64 → length records ≢ 0 → Waits fixed new records
  waits_all within some =
      let made = made_by have.turns in
      let pending : new.pending ≡ made = ap (λ (r : RecordedView (Move O R)). r.pending) have.pending in
      let written : new.written ≡ old.written = ap (λ (r : RecordedView (Move O R)). r.written) have.pending in
      let few = made-few fixed old.written (map pair_of items) have.turns have.received in
      let many = records-many in
      let pairs_few = length-mapped pair_of items in
      let size = ap length pending in
      record {
        some = omega (arith, size, many, some);
        few = omega (arith, size, few, pairs_few, within);
        are = have.are ∙ ap (λ (h : List (Move O R)). records_after fixed h made) (sym written) ∙ ap (records_after fixed new.written) (sym pending);
      }

-- the same where the terms are those of the moves that wait
pub waits_at : {S O R Q A : Type 0} (meaning : Meaning S O R Q A) (address : List ℕ → List ℕ) (items : List Item) (old new : RecordedView (Move O R)) (got : List Got) (refused : Option ReceiveRefused) (records : List Record)
    → HaveArrived (fix meaning old.terms address) (map pair_of items) old new got refused records → length items ≤ 64 → length records ≢ 0 → Waits (fix meaning new.terms address) new records
waits_at {S} {O} {R} meaning address items old new got refused records have within some =
    let same : new.terms ≡ old.terms = ap (λ (r : RecordedView (Move O R)). r.terms) have.pending in
    subst (λ (t : Terms). Waits (fix meaning t address) new records) (sym same) (waits_all (fix meaning old.terms address) items old new got refused records have within some)

module _ {D S O R Q A : Type 0} (disk : Ghosts D) (meaning : Meaning S O R Q A) (address : List ℕ → List ℕ) (items : List Pair) where
  -- a store with this recorded history
  module _ (old : StoreView (Move O R) D) (r0 : RecordedView (Move O R)) (d0 opened : D) (failed0 : Bool) (view_is : view_of r0 failed0 d0 opened ≡ old)
      (only_now : (d : D) (c : Files) → disk.left_since d (disk.moment d) c → disk.may_leave d c)
      (stands : failed0 ≡ false → AllStand (fix meaning r0.terms address) r0.written (disk.may_leave d0)) where
    abbrev before : StoreView (Move O R) D
    before = view_of r0 failed0 d0 opened

    -- the disk had failed before
    pub items-failed : (moves : ℕ) → failed0 ≡ true → moves ≡ length r0.written → TakesItems disk meaning address items old old (Err (refusal.Failed moves))
    items-failed moves had counted = subst (λ (v : StoreView (Move O R) D). TakesItems disk meaning address items v v (Err (refusal.Failed moves))) view_is (record {
      turns = [];
      answered = (had, counted, record { none = refl; same = refl });
      leaves = left-still disk meaning address only_now before [] stands (Err (refusal.Failed moves)) (λ _. tt) (λ _. tt);
    })

    module _ (worked : failed0 ≡ false) where
      -- memory was short
      pub items-short : (r1 : RecordedView (Move O R)) → r1 ≡ r0 → TakesItems disk meaning address items old (view_of r1 failed0 d0 opened) (Err refusal.Memory)
      items-short r1 same =
          subst (λ (v : StoreView (Move O R) D). TakesItems disk meaning address items v (view_of r1 failed0 d0 opened) (Err refusal.Memory)) view_is
          (subst (λ (x : RecordedView (Move O R)). TakesItems disk meaning address items before (view_of x failed0 d0 opened) (Err refusal.Memory)) (sym same) (record {
            turns = [];
            answered = (worked, record { none = refl; same = refl });
            leaves = left-still disk meaning address only_now before [] stands (Err refusal.Memory) (λ _. tt) (λ _. tt);
          }))

      -- items that arrived in memory
      module _ (r1 : RecordedView (Move O R)) (got : List Got) (refused : Option ReceiveRefused) (records : List Record) (have : HaveArrived (fix meaning r0.terms address) items r0 r1 got refused records) where
        abbrev made : List (Move O R)
        made = made_by have.turns

        as_many : length records ≡ length made
        as_many = ap length have.are ∙ length-records_after (fix meaning r0.terms address) r0.written made

        of_old : (new : StoreView (Move O R) D) (result : Result GotAll ReceiveRefused) → TakesItems disk meaning address items before new result → TakesItems disk meaning address items old new result
        of_old new result takes = subst (λ (v : StoreView (Move O R) D). TakesItems disk meaning address items v new result) view_is takes

        -- what is told of them
        module _ (all : GotAll) (got_is : all.got ≡ got) (made_is : all.made ≡ length records) (refused_is : all.refused ≡ refused) where
          told : TellsTurns r0.written have.turns all.got all.refused
          told = subst (λ (g : List Got). TellsTurns r0.written have.turns g all.refused) (sym got_is) (subst (λ (o : Option ReceiveRefused). TellsTurns r0.written have.turns got o) (sym refused_is) have.told)

          counted : all.made ≡ length made
          counted = made_is ∙ as_many

          -- none is new
          pub items-here : length records ≡ 0 → IsFullyValid (fix meaning r0.terms address) r0.written → length r0.written ≤ 2 ^ 48 → TakesItems disk meaning address items old (view_of r1 failed0 d0 opened) (Ok all)
          items-here none valid few =
              let no_move : made ≡ [] = no_items made (sym as_many ∙ none) in
              let whole : r0.written ++ made ≡ r0.written = ap (λ (ms : List (Move O R)). r0.written ++ ms) no_move ∙ append-nil r0.written in
              let same : view_of r1 failed0 d0 opened ≡ before = ap (λ (x : RecordedView (Move O R)). view_of x failed0 d0 opened) have.pending in
              of_old (view_of r1 failed0 d0 opened) (Ok all)
              (subst (λ (v : StoreView (Move O R) D). TakesItems disk meaning address items before v (Ok all)) (sym same) (record {
                turns = have.turns;
                answered = record {
                  worked = worked;
                  received = have.received;
                  told = told;
                  counted = counted;
                  history = ap (λ (h : List (Move O R)). record before { history = h }) (sym whole);
                  few = few;
                };
                leaves = left-still disk meaning address only_now before made stands (Ok all) (λ _. subst (IsFullyValid (fix meaning r0.terms address)) (sym whole) valid)
                    (λ _. subst (ExactlyAll meaning address disk.contents before before) (sym no_move) refl);
              }))

        module _ (r2 : RecordedView (Move O R)) (d1 : D) (failed1 : Bool)
            (moments : LeavesOnly disk.moment disk.left_since d0 d1 (WithFirst (fix meaning r1.terms address) r1.written r1.pending))
            (counts_now : (d : D) (t : ℕ) (c : Files) → t ≤ disk.moment d → disk.may_leave d c → disk.left_since d t c)
            (valid : IsFullyValid (fix meaning r1.terms address) (r1.written ++ r1.pending)) where
          here_moments : LeavesOnly disk.moment disk.left_since d0 d1 (WithFirst (fix meaning r0.terms address) r0.written made)
          here_moments = all_moments disk meaning address r0 r1 made have.pending d0 opened failed0 worked d1 moments

          here_valid : IsFullyValid (fix meaning r0.terms address) (r0.written ++ made)
          here_valid = all_valid disk meaning address r0 r1 made have.pending d0 opened failed0 worked valid

          -- the disk failed under them
          pub items-fault : r2 ≡ record r1 { pending = [] } → failed1 ≡ true → MayTear meaning address r1 (disk.contents d0) (disk.contents d1)
              → disk.faults d0 ≤ disk.faults d1 → Rose (disk.faults d0) (disk.faults d1) → TakesItems disk meaning address items old (view_of r2 failed1 d1 opened) (Err refusal.DiskFault)
          items-fault undone fails torn later rose =
              of_old (view_of r2 failed1 d1 opened) (Err refusal.DiskFault)
              (subst (λ (v : StoreView (Move O R) D). TakesItems disk meaning address items before v (Err refusal.DiskFault)) (sym (undone_is disk meaning address r0 r1 made have.pending d0 opened failed0 worked r2 d1 failed1 undone fails)) (record {
                turns = have.turns;
                answered = record { worked = worked; received = have.received; kept = refl };
                leaves = left-fault disk meaning address before d1 made worked here_moments counts_now here_valid (Err refusal.DiskFault)
                    (all_torn disk meaning address r0 r1 made have.pending d0 opened failed0 worked d1 torn) later rose;
              }))

          -- they were put on the disk
          module _ (all : GotAll) (got_is : all.got ≡ got) (made_is : all.made ≡ length records) (refused_is : all.refused ≡ refused) where
            pub items-put : length records ≢ 0 → r2 ≡ record { written = r1.written ++ r1.pending; pending = []; terms = r1.terms } → length (r1.written ++ r1.pending) ≤ 2 ^ 48 → failed1 ≡ false
                → AllStand (fix meaning r1.terms address) (r1.written ++ r1.pending) (disk.may_leave d1) → PutsExactly meaning address r1 (disk.contents d0) (disk.contents d1)
                → disk.faults d1 ≡ disk.faults d0 → TakesItems disk meaning address items old (view_of r2 failed1 d1 opened) (Ok all)
            items-put some settled few works stand exact same =
                of_old (view_of r2 failed1 d1 opened) (Ok all)
                (subst (λ (v : StoreView (Move O R) D). TakesItems disk meaning address items before v (Ok all)) (sym (settled_is disk meaning address r0 r1 made have.pending d0 opened failed0 worked r2 d1 failed1 settled works)) (record {
                  turns = have.turns;
                  answered = record {
                    worked = worked;
                    received = have.received;
                    told = told all got_is made_is refused_is;
                    counted = counted all got_is made_is refused_is;
                    history = refl;
                    few = all_few disk meaning address r0 r1 made have.pending d0 opened failed0 worked (2 ^ 48) few;
                  };
                  leaves = left-put disk meaning address before d1 made worked here_moments counts_now here_valid all (omega (arith, as_many, some))
                      (all_stand disk meaning address r0 r1 made have.pending d0 opened failed0 worked d1 stand) (all_exact disk meaning address r0 r1 made have.pending d0 opened failed0 worked d1 exact) same;
                }))
