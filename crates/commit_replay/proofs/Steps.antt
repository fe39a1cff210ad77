-- One more record: the step that remakes its move, if any move has the record and the bytes behind the history.
use Rattle.std.proofs.Common.{suc, ◌≡◌, ℕ, ◌+◌, ◌-◌, ◌<◌, ◌^◌, List, [], ◌∷◌, ◌++◌, length, take, drop, refl, sym, ◌∙◌, ap, arith, subst, append_assoc, length-append, take-append-drop, Option, Some, None}
use Rattle.std.specs.Prelude.{slice_get}
use Rattle.std.proofs.lemmas.List.{take_at, take_all}
use Rattle.std.proofs.lemmas.Option.{slice_get_within}
use Rattle.std.proofs.Math.Seq.{take-append_seam, drop-append_seam, drop-append-add}
use Rattle.mrdt_model.specs.declared.errors.Unread.{Unread}
use Rattle.mrdt_model.specs.declared.errors.Unread.TheVariants as unread
use Rattle.mrdt_model.specs.Laws.{KeepsLaws}
use Rattle.branch_disk.specs.Disk.{Files}
use Rattle.branch_names.specs.Heads.{head_of, branch_named}
use Rattle.branch_wire.specs.Reading.{HasLength64}
use Rattle.branch_wire.specs.Objects.{CommitFields, commit_object}
use Rattle.branch_wire.specs.declared.action.Action.{Action}
use Rattle.branch_wire.specs.declared.action.Action.TheVariants as wire
use Rattle.branch_wire.specs.StoredObjects.{Begins}
use Rattle.branch_objects_codec.specs.Grammar.{IsCommit}
use Rattle.branch_history.specs.declared.moves.Move.{Move}
use Rattle.branch_history.specs.declared.moves.Move.TheVariants as move
use Rattle.branch_history.specs.Commits.{clock_of, visible}
use Rattle.branch_history.specs.History.{Store}
use Rattle.branch_history.specs.Machine.{turn, answers, makes}
use Rattle.branch_history.specs.Steps as machine
use Rattle.branch_history.proofs.Turns.{fork-makes, land-makes, merge-makes, join-makes, forward-makes, place-makes, drop-makes}
use Rattle.branch_history.proofs.Histories.{valid-few}
use Rattle.branch_history.proofs.Valid.{IsAccepted, IsAccepted-from}
use Rattle.heads_journal.specs.declared.record.Record.{Record}
use Rattle.heads_journal.specs.declared.record.Record.TheVariants.{Fork, Operation, Merge, Forward, Join, Received, Place, Drop}
use Rattle.heads_journal.specs.Format.{fields_of, record_fields, Fits}
use Rattle.heads_journal.proofs.Spelled.{length-spelled}
use Rattle.branch_machine.specs.Fixed.{Form, FixedIn, Fixed}
use Rattle.branch_machine.specs.Objects.{store_after, objects_text, region, end_of}
use Rattle.branch_machine.specs.Machine.{collision_refusal, commit_here, unless_made, full_turn}
use Rattle.branch_machine.specs.Laws.{HasSize}
use Rattle.branch_machine.specs.Validity.{IsFullMove, IsFullyValid}
use Rattle.branch_machine.proofs.Valid.{full_move-is, valid-before, valid-second, valid-more}
use Rattle.branch_files.specs.Records.{record_of, records_of, IsKnownIn, AreKnown, history_text}
use Rattle.branch_files.specs.Stands.{Spans}
use Rattle.branch_files.specs.Next.{end_at, MakesCommit, IsNext, bytes_behind, Suits, Does, IsValuePart, HasShape, IsMade}
use Rattle.branch_files.proofs.Longer.{more-begins, records-more, known-more, objects_text-more}
use Rattle.branch_files.proofs.All.{grown, next-plain}
use Rattle.branch_files.proofs.Next.{bytes-are}
use Rattle.branch_files.proofs.Shapes.{operation-tells}
use Rattle.recorded_history.proofs.Steps.{full-plain, full-makes}
use Rattle.commit_replay.specs.Follows.{Follows, MayCome, Remakes}
use Rattle.commit_replay.specs.declared.commit.NotRemade.{NotRemade}
use Rattle.commit_replay.specs.declared.commit.NotRemade.TheVariants as unmade
use Rattle.commit_replay.specs.declared.plan.Plan.{Plan}
use Rattle.commit_replay.specs.declared.plan.Plan.TheVariants as plan
use Rattle.commit_replay.specs.Parts.{value_text, AreParts, IsOfType, IsWhyNot, unread_as}
use Rattle.commit_replay.specs.Plans.{IsPlanOf, step_for}
use Rattle.commit_replay.specs.Walk.{NotRemadeAs}
use Rattle.commit_replay.proofs.Parted.{value-part, parts-shape, not-valued}
use Rattle.commit_replay.proofs.Lists.{take-at}

module _ {S O R Q A : Type 0} (fixed : Fixed S O R Q A) (moves : List (Move O R)) where
  abbrev s : Store O R
  s = store_after fixed moves

  module _ (m : Move O R) (full : IsFullMove fixed moves m) where
    accepted : IsAccepted fixed.meaning fixed.terms moves m
    accepted = IsAccepted-from fixed.meaning fixed.terms moves m (full_move-is fixed moves m full).0

    free : collision_refusal fixed moves m ≡ None
    free = (full_move-is fixed moves m full).2

  -- a move of the machine is made by the step of one that sees the head of the branch
  again-fork : (name from_name : List ℕ) (count from : ℕ) → branch_named s.branches from_name ≡ Some from → IsFullMove fixed moves (move.Fork name count from) → (full_turn fixed moves (machine.Fork name from_name)).made ≡ move.Fork name count from ∷ []
  again-fork name from_name count from named full =
      let m : Move O R = move.Fork name count from in
      let is = accepted m full in
      let same : move.Fork name (length s.branches) from ≡ m = ap (λ (k : ℕ). move.Fork name k from) (sym is.next) in
      ap (λ t. t.made)
      (full-makes fixed moves (machine.Fork name from_name) refl m (machine.Forked (length s.branches) (head_of s.branches from))
      (fork-makes fixed.meaning fixed.terms moves name from_name from named is.free is.landed ∙ ap (λ (x : Move O R). makes x (machine.Forked (length s.branches) (head_of s.branches from))) same) (free m full))

  again-operation : (r : ℕ) (op : O) (reply : R) → IsFullMove fixed moves (move.Operation r op reply) → (full_turn fixed moves (machine.Land r (head_of s.branches r) op)).made ≡ move.Operation r op reply ∷ []
  again-operation r op reply full =
      let m : Move O R = move.Operation r op reply in
      let is = accepted m full in
      let h : ℕ = head_of s.branches r in
      let turned = land-makes fixed.meaning fixed.terms moves r h op is.prepared is.landed in
      let same : move.Operation r op (fixed.meaning.reply_of (visible s.commits h) op) ≡ m = ap (λ x. move.Operation r op x) (sym is.replies) in
      ap (λ t. t.made)
      (full-makes fixed moves (machine.Land r h op) refl m (turn fixed.meaning fixed.terms moves (machine.Land r h op)).outcome
      (turned ∙ ap (λ (x : Move O R). makes x (machine.Landed (length s.commits) (record { clock = clock_of s.commits h + 1; origin = fixed.terms.origin + r }) (fixed.meaning.reply_of (visible s.commits h) op))) same ∙ ap (λ o. makes m o) (ap (λ t. t.outcome) (sym turned))) (free m full))

  again-merge : (r k : ℕ) → IsFullMove fixed moves (move.Merge r k) → (full_turn fixed moves (machine.Merge r (head_of s.branches r) (k ∷ []))).made ≡ move.Merge r k ∷ []
  again-merge r k full =
      let m : Move O R = move.Merge r k in
      let is = accepted m full in
      let h : ℕ = head_of s.branches r in
      ap (λ t. t.made)
      (full-makes fixed moves (machine.Merge r h (k ∷ [])) refl m (machine.Merged (length s.commits)) (merge-makes fixed.meaning fixed.terms moves r h k is.above is.below is.prepared is.landed) (free m full))

  again-forward : (r k : ℕ) → IsFullMove fixed moves (move.Forward r k) → (full_turn fixed moves (machine.Merge r (head_of s.branches r) (k ∷ []))).made ≡ move.Forward r k ∷ []
  again-forward r k full =
      let m : Move O R = move.Forward r k in
      let is = accepted m full in
      let h : ℕ = head_of s.branches r in
      ap (λ t. t.made)
      (full-makes fixed moves (machine.Merge r h (k ∷ [])) refl m (machine.Forwarded k) (forward-makes fixed.meaning fixed.terms moves r h k is.above is.below is.landed) (free m full))

  again-join : (r : ℕ) (ks : List ℕ) → IsFullMove fixed moves (move.Join r ks) → (full_turn fixed moves (machine.Merge r (head_of s.branches r) ks)).made ≡ move.Join r ks ∷ []
  again-join r [] full = let is = accepted (move.Join r []) full in absurd (omega (arith, is.several))
  again-join r (k ∷ []) full = let is = accepted (move.Join r (k ∷ [])) full in absurd (omega (arith, is.several))
  again-join r (k ∷ l ∷ ls) full =
      let m : Move O R = move.Join r (k ∷ l ∷ ls) in
      let is = accepted m full in
      let h : ℕ = head_of s.branches r in
      ap (λ t. t.made)
      (full-makes fixed moves (machine.Merge r h (k ∷ l ∷ ls)) refl m (machine.Joined (length s.commits)) (join-makes fixed.meaning fixed.terms moves r h k l ls is.apart is.prepared is.landed) (free m full))

  again-place : (name : List ℕ) (count k : ℕ) → IsFullMove fixed moves (move.Place name count k) → (full_turn fixed moves (machine.Place name k)).made ≡ move.Place name count k ∷ []
  again-place name count k full =
      let m : Move O R = move.Place name count k in
      let is = accepted m full in
      let same : move.Place name (length s.branches) k ≡ m = ap (λ (n : ℕ). move.Place name n k) (sym is.next) in
      ap (λ t. t.made)
      (full-makes fixed moves (machine.Place name k) refl m (machine.Forked (length s.branches) k)
      (place-makes fixed.meaning fixed.terms moves name k is.free is.landed ∙ ap (λ (x : Move O R). makes x (machine.Forked (length s.branches) k)) same) (free m full))

  again-drop : (r : ℕ) → IsFullMove fixed moves (move.Drop r) → (full_turn fixed moves (machine.Drop r (head_of s.branches r))).made ≡ move.Drop r ∷ []
  again-drop r full =
      let m : Move O R = move.Drop r in
      let is = accepted m full in
      let h : ℕ = head_of s.branches r in
      ap (λ t. t.made) (full-makes fixed moves (machine.Drop r h) refl m (machine.DroppedAt r h) (drop-makes fixed.meaning fixed.terms moves r h is.landed) (free m full))

  -- a merge with this record and region is what the step remakes
  remade-merge : (r k : ℕ) (address : List ℕ) (end : ℕ) (bytes : List ℕ) (m : Move O R) → IsFullMove fixed moves m → record_of fixed moves m ≡ Merge r k address end → region fixed moves m ≡ bytes → Remakes fixed moves (machine.Merge r (head_of s.branches r) (k ∷ [])) (Merge r k address end) bytes
  remade-merge r k address end bytes (move.Fork name count from) full same is = absurd (cc same)
  remade-merge r k address end bytes (move.Operation r' op reply) full same is = absurd (cc same)
  remade-merge r k address end bytes (move.Forward r' k') full same is = absurd (cc same)
  remade-merge r k address end bytes (move.Join r' ks) full same is = absurd (cc same)
  remade-merge r k address end bytes (move.Received parents origin clock act) full same is = absurd (cc same)
  remade-merge r k address end bytes (move.Place name count k') full same is = absurd (cc same)
  remade-merge r k address end bytes (move.Drop r') full same is = absurd (cc same)
  remade-merge r k address end bytes (move.Merge r' k') full same is =
      let a : r' ≡ r = cc same in
      let b : k' ≡ k = cc same in
      record {
        made = move.Merge r' k';
        makes = ap (λ (x : ℕ). (full_turn fixed moves (machine.Merge x (head_of s.branches x) (k ∷ []))).made) (sym a) ∙ ap (λ (x : ℕ). (full_turn fixed moves (machine.Merge r' (head_of s.branches r') (x ∷ []))).made) (sym b) ∙ again-merge r' k' full;
        recorded = same;
        stored = is;
      }

  pub not-merged : (r k : ℕ) (address : List ℕ) (end : ℕ) (bytes : List ℕ) → (Remakes fixed moves (machine.Merge r (head_of s.branches r) (k ∷ [])) (Merge r k address end) bytes → ⊥) → IsMade fixed moves (Merge r k address end) bytes → ⊥
  not-merged r k address end bytes none (m, full, same, is) = none (remade-merge r k address end bytes m full same is)

  -- and so is a join
  remade-join : (r : ℕ) (ks : List ℕ) (end : ℕ) (bytes : List ℕ) (m : Move O R) → IsFullMove fixed moves m → record_of fixed moves m ≡ Join r ks end → region fixed moves m ≡ bytes → Remakes fixed moves (machine.Merge r (head_of s.branches r) ks) (Join r ks end) bytes
  remade-join r ks end bytes (move.Fork name count from) full same is = absurd (cc same)
  remade-join r ks end bytes (move.Operation r' op reply) full same is = absurd (cc same)
  remade-join r ks end bytes (move.Merge r' k') full same is = absurd (cc same)
  remade-join r ks end bytes (move.Forward r' k') full same is = absurd (cc same)
  remade-join r ks end bytes (move.Received parents origin clock act) full same is = absurd (cc same)
  remade-join r ks end bytes (move.Place name count k') full same is = absurd (cc same)
  remade-join r ks end bytes (move.Drop r') full same is = absurd (cc same)
  remade-join r ks end bytes (move.Join r' ks') full same is =
      let a : r' ≡ r = cc same in
      let b : ks' ≡ ks = cc same in
      record {
        made = move.Join r' ks';
        makes = ap (λ (x : ℕ). (full_turn fixed moves (machine.Merge x (head_of s.branches x) ks)).made) (sym a) ∙ ap (λ (xs : List ℕ). (full_turn fixed moves (machine.Merge r' (head_of s.branches r') xs)).made) (sym b) ∙ again-join r' ks' full;
        recorded = same;
        stored = is;
      }

  pub not-joined : (r : ℕ) (ks : List ℕ) (end : ℕ) (bytes : List ℕ) → (Remakes fixed moves (machine.Merge r (head_of s.branches r) ks) (Join r ks end) bytes → ⊥) → IsMade fixed moves (Join r ks end) bytes → ⊥
  not-joined r ks end bytes none (m, full, same, is) = none (remade-join r ks end bytes m full same is)

  -- a step that the machine answers without a move remakes none
  pub full-answers : (step : machine.Step O Q) → commit_here fixed moves step ≡ None → (outcome : machine.Outcome A R) → turn fixed.meaning fixed.terms moves step ≡ answers outcome → full_turn fixed moves step ≡ answers outcome
  full-answers step plain outcome is = full-plain fixed moves step plain ∙ ap (λ t. unless_made (collision_refusal fixed moves) t.made t) is

  pub none-remade : (step : machine.Step O Q) (r : Record) (bytes : List ℕ) → (full_turn fixed moves step).made ≡ [] → Remakes fixed moves step r bytes → ⊥
  none-remade step r bytes none again = let e : [] ≡ again.made ∷ [] = sym none ∙ again.makes in cc e

  -- one that makes another move does not remake it
  pub other-remade : (step : machine.Step O Q) (m : Move O R) (r : Record) (bytes : List ℕ) → (full_turn fixed moves step).made ≡ m ∷ [] → (record_of fixed moves m ≡ r → region fixed moves m ≡ bytes → ⊥) → Remakes fixed moves step r bytes → ⊥
  other-remade step m r bytes is other again =
      let e : m ∷ [] ≡ again.made ∷ [] = sym is ∙ again.makes in
      let same : m ≡ again.made = cc e in
      other (ap (record_of fixed moves) same ∙ again.recorded) (ap (region fixed moves) same ∙ again.stored)

-- a move of the machine with this record and the region behind the history: records that the history follows go on with it
pub follows-more : {S O R Q A : Type 0} {form : Form} (fixed : FixedIn form S O R Q A) (moves : List (Move O R)) (objects : List ℕ) (records : List Record) (r : Record) (m : Move O R) → Follows fixed moves records objects → slice_get records (length moves) ≡ Some r → IsKnownIn form.version r → IsFullMove fixed moves m → record_of fixed moves m ≡ r → region fixed moves m ≡ bytes_behind fixed moves objects r → Follows fixed (moves ++ m ∷ []) records objects
follows-more {S} {O} {R} {Q} {A} {form} fixed moves objects records r m follows comes known full same is =
    let count : length (moves ++ m ∷ []) ≡ suc (length moves) = omega (arith, length-append moves (m ∷ [])) in
    let there = slice_get_within records (length moves) r comes in
    let k : ℕ = end_at r - end_of fixed moves in
    let rest : List ℕ = drop (end_of fixed moves) objects in record {
      valid = valid-more fixed moves m follows.valid full;
      within = omega (arith, count, there);
      recorded = records-more fixed moves m ∙ ap (λ (q : Record). records_of fixed moves ++ q ∷ []) same ∙ ap (λ (l : List Record). l ++ r ∷ []) follows.recorded
          ∙ sym (take-at records (length moves) r comes) ∙ ap (λ (n : ℕ). take n records) (sym count);
      known = known-more fixed moves m follows.known (subst (IsKnownIn form.version) (sym same) known);
      stored = more-begins (objects_text fixed (moves ++ m ∷ [])) objects
          (record {
            more = drop k rest;
            is = sym (take-append-drop (end_of fixed moves) objects) ∙ ap (λ (l : List ℕ). l ++ rest) follows.stored
                ∙ ap (λ (l : List ℕ). objects_text fixed moves ++ l) (sym (take-append-drop k rest) ∙ ap (λ (l : List ℕ). l ++ drop k rest) (sym is))
                ∙ sym (append_assoc (objects_text fixed moves) (region fixed moves m) (drop k rest)) ∙ ap (λ (l : List ℕ). l ++ drop k rest) (sym (objects_text-more fixed moves m));
          });
    }

-- files that have the history and the record, and these objects
module _ {S O R Q A : Type 0} (fixed : Fixed S O R Q A) (moves : List (Move O R)) (objects : List ℕ) (r : Record) (valid : IsFullyValid fixed moves) (begins : Begins (objects_text fixed moves) objects) (known : AreKnown fixed moves) (fits : Fits r) (may : MayCome fixed moves r) where
  abbrev text : List ℕ
  text = history_text fixed moves

  abbrev behind : List ℕ
  behind = 1 ∷ (record_fields r ++ 0 ∷ [])

  abbrev pub files : Files
  files = record { objects = objects; heads = text ++ behind }

  spanned : Spans fixed moves files
  spanned = record { valid = valid; objects = begins; heads = take-append_seam text behind; gate = omega (arith, length-append text behind); known = known }

  next : IsNext fixed moves files.heads r
  next = record {
    there = record {
      gate = ap (take 1) (drop-append_seam text behind);
      long = omega (arith, length-append text behind, length-append (record_fields r) (0 ∷ []), length-spelled (fields_of r) fits.0);
    };
    spelled = ap (take 63) (drop-append-add text behind 1) ∙ take_at (record_fields r) (0 ∷ []) 63 (length-spelled (fields_of r) fits.0);
    fits = fits;
    known = may.known;
    room = may.room;
    suits = may.suits;
  }

  pub spans-more : (m : Move O R) → IsFullMove fixed moves m → record_of fixed moves m ≡ r → region fixed moves m ≡ bytes_behind fixed moves objects r → Spans fixed (moves ++ m ∷ []) files
  spans-more m full same is = grown fixed files moves spanned r m next full same is

  module _ (laws : KeepsLaws fixed.meaning) (size : HasSize fixed.address) (short : HasLength64 objects) where
    -- an operation with this record and region has the spelling that stands there
    operation-of : (b : ℕ) (op : O) (reply : R) → IsFullMove fixed moves (move.Operation b op reply) → record_of fixed moves (move.Operation b op reply) ≡ r → region fixed moves (move.Operation b op reply) ≡ bytes_behind fixed moves objects r
        → (first : List ℕ) (c : CommitFields) → IsValuePart fixed first → IsCommit c → bytes_behind fixed moves objects r ≡ first ++ commit_object c → c.action ≡ wire.Operation (fixed.meaning.op_spelling op) (fixed.meaning.reply_spelling reply)
    operation-of b op reply full same is first c value commit parts =
        operation-tells fixed laws size files short moves b op reply (spans-more (move.Operation b op reply) full same is) first c value commit (ap (bytes_behind fixed moves objects) same ∙ parts)

    -- a record of a move that makes no commit is of a move of the machine
    plain : (MakesCommit r → ⊥) → (m : Move O R) × (record_of fixed moves m ≡ r) × IsFullMove fixed moves m × (region fixed moves m ≡ bytes_behind fixed moves objects r)
    plain makes =
        let found = next-plain fixed files moves spanned laws r next makes in (
          found.0,
          found.1,
          (valid-second fixed moves (found.0 ∷ []) found.2.valid).0,
          sym (bytes-are fixed laws size files short moves found.0 found.2) ∙ ap (bytes_behind fixed moves objects) found.1,
        )

end-field : (r : Record) → end_at r ≡ (fields_of r).end
end-field (Fork number from name end) = refl
end-field (Operation branch address end) = refl
end-field (Merge branch from address end) = refl
end-field (Forward branch to end) = refl
end-field (Join branch joined end) = refl
end-field (Received address end) = refl
end-field (Place number commit name end) = refl
end-field (Drop branch end) = refl

-- bytes that may stand behind the history
module _ {S O R Q A : Type 0} (fixed : Fixed S O R Q A) (moves : List (Move O R)) (r : Record) (bytes : List ℕ) (laws : KeepsLaws fixed.meaning) (size : HasSize fixed.address) (valid : IsFullyValid fixed moves) (known : AreKnown fixed moves) (fits : Fits r) (may : MayCome fixed moves r) (long : end_of fixed moves + length bytes ≡ end_at r) where
  abbrev t : Store O R
  t = store_after fixed moves

  abbrev before : List ℕ
  before = objects_text fixed moves

  abbrev pub whole : List ℕ
  whole = before ++ bytes

  pub starts : Begins before whole
  starts = take-append_seam before bytes

  pub whole-short : HasLength64 whole
  whole-short = let small = fits.0.end in omega (arith, length-append before bytes, long, end-field r, small)

  pub behind-is : bytes_behind fixed moves whole r ≡ bytes
  behind-is =
      ap (take (end_at r - end_of fixed moves)) (drop-append_seam before bytes) ∙ take_all (end_at r - end_of fixed moves) bytes (omega (arith, long))

  -- an operation with this record and region is what the step remakes
  module _ (op : O) (text told : List ℕ) (one : (other : O) → fixed.meaning.is_op other → fixed.meaning.op_spelling other ≡ text → op ≡ other) (value : Option (List ℕ)) (c : CommitFields) (are : AreParts fixed.terms.layout bytes value c) (inside : IsOfType fixed.meaning value) (does : c.action ≡ wire.Operation text told) where
    remade-operation : (b : ℕ) (address : List ℕ) (end : ℕ) → r ≡ Operation b address end → (m : Move O R) → IsFullMove fixed moves m → record_of fixed moves m ≡ r → region fixed moves m ≡ bytes → Remakes fixed moves (machine.Land b (head_of t.branches b) op) r bytes
    remade-operation b address end is_r (move.Fork name count from) full same is = absurd (let e : Fork count from name (end_of fixed (moves ++ move.Fork name count from ∷ [])) ≡ Operation b address end = same ∙ is_r in cc e)
    remade-operation b address end is_r (move.Merge r' k') full same is = absurd (let e : record_of fixed moves (move.Merge r' k') ≡ Operation b address end = same ∙ is_r in cc e)
    remade-operation b address end is_r (move.Forward r' k') full same is = absurd (let e : record_of fixed moves (move.Forward r' k') ≡ Operation b address end = same ∙ is_r in cc e)
    remade-operation b address end is_r (move.Join r' ks) full same is = absurd (let e : record_of fixed moves (move.Join r' ks) ≡ Operation b address end = same ∙ is_r in cc e)
    remade-operation b address end is_r (move.Received parents origin clock act) full same is = absurd (let e : record_of fixed moves (move.Received parents origin clock act) ≡ Operation b address end = same ∙ is_r in cc e)
    remade-operation b address end is_r (move.Place name count k') full same is = absurd (let e : record_of fixed moves (move.Place name count k') ≡ Operation b address end = same ∙ is_r in cc e)
    remade-operation b address end is_r (move.Drop r') full same is = absurd (let e : record_of fixed moves (move.Drop r') ≡ Operation b address end = same ∙ is_r in cc e)
    remade-operation b address end is_r (move.Operation b' other reply) full same is =
        let e : record_of fixed moves (move.Operation b' other reply) ≡ Operation b address end = same ∙ is_r in
        let branch : b' ≡ b = cc e in
        let spelled = operation-of fixed moves whole r valid starts known fits may laws size whole-short b' other reply full same (is ∙ sym behind-is) (value_text value) c (value-part fixed r bytes value are.kept inside) are.commit (behind-is ∙ are.whole) in
        let actions : wire.Operation text told ≡ wire.Operation (fixed.meaning.op_spelling other) (fixed.meaning.reply_spelling reply) = sym does ∙ spelled in
        let texts : text ≡ fixed.meaning.op_spelling other = cc actions in
        let ops : op ≡ other = one other (accepted fixed moves (move.Operation b' other reply) full).known (sym texts) in
        record {
          made = move.Operation b' other reply;
          makes = ap (λ (x : ℕ). (full_turn fixed moves (machine.Land x (head_of t.branches x) op)).made) (sym branch) ∙ ap (λ (x : O). (full_turn fixed moves (machine.Land b' (head_of t.branches b') x)).made) ops
              ∙ again-operation fixed moves b' other reply full;
          recorded = same;
          stored = is;
        }

    pub not-operated : (b : ℕ) (address : List ℕ) (end : ℕ) → r ≡ Operation b address end → (Remakes fixed moves (machine.Land b (head_of t.branches b) op) r bytes → ⊥) → IsMade fixed moves r bytes → ⊥
    not-operated b address end is_r none (m, full, same, is) = none (remade-operation b address end is_r m full same is)

  -- a move without a commit is remade
  forked : (name from_name : List ℕ) (number from end : ℕ) → r ≡ Fork number from name end → branch_named t.branches from_name ≡ Some from → (m : Move O R) → record_of fixed moves m ≡ r → IsFullMove fixed moves m → region fixed moves m ≡ bytes → Remakes fixed moves (machine.Fork name from_name) r bytes
  forked name from_name number from end is_r named (move.Fork name' count from') same full is =
      let e : record_of fixed moves (move.Fork name' count from') ≡ Fork number from name end = same ∙ is_r in
      let names : name' ≡ name = cc e in
      let sources : from' ≡ from = cc e in
      record {
        made = move.Fork name' count from';
        makes = ap (λ (x : List ℕ). (full_turn fixed moves (machine.Fork x from_name)).made) (sym names) ∙ again-fork fixed moves name' from_name count from' (named ∙ ap (λ (k : ℕ). Some k) (sym sources)) full;
        recorded = same;
        stored = is;
      }
  forked name from_name number from end is_r named (move.Operation b' op reply) same full is = absurd (let e : record_of fixed moves (move.Operation b' op reply) ≡ Fork number from name end = same ∙ is_r in cc e)
  forked name from_name number from end is_r named (move.Merge b' k') same full is = absurd (let e : record_of fixed moves (move.Merge b' k') ≡ Fork number from name end = same ∙ is_r in cc e)
  forked name from_name number from end is_r named (move.Forward b' k') same full is = absurd (let e : record_of fixed moves (move.Forward b' k') ≡ Fork number from name end = same ∙ is_r in cc e)
  forked name from_name number from end is_r named (move.Join b' ks) same full is = absurd (let e : record_of fixed moves (move.Join b' ks) ≡ Fork number from name end = same ∙ is_r in cc e)
  forked name from_name number from end is_r named (move.Received parents origin clock act) same full is = absurd (let e : record_of fixed moves (move.Received parents origin clock act) ≡ Fork number from name end = same ∙ is_r in cc e)
  forked name from_name number from end is_r named (move.Place name' count k') same full is = absurd (let e : record_of fixed moves (move.Place name' count k') ≡ Fork number from name end = same ∙ is_r in cc e)
  forked name from_name number from end is_r named (move.Drop b') same full is = absurd (let e : record_of fixed moves (move.Drop b') ≡ Fork number from name end = same ∙ is_r in cc e)

  forwarded : (b k end : ℕ) → r ≡ Forward b k end → (m : Move O R) → record_of fixed moves m ≡ r → IsFullMove fixed moves m → region fixed moves m ≡ bytes → Remakes fixed moves (machine.Merge b (head_of t.branches b) (k ∷ [])) r bytes
  forwarded b k end is_r (move.Forward b' k') same full is =
      let e : record_of fixed moves (move.Forward b' k') ≡ Forward b k end = same ∙ is_r in
      let branch : b' ≡ b = cc e in
      let commit : k' ≡ k = cc e in
      record {
        made = move.Forward b' k';
        makes = ap (λ (x : ℕ). (full_turn fixed moves (machine.Merge x (head_of t.branches x) (k ∷ []))).made) (sym branch) ∙ ap (λ (x : ℕ). (full_turn fixed moves (machine.Merge b' (head_of t.branches b') (x ∷ []))).made) (sym commit)
            ∙ again-forward fixed moves b' k' full;
        recorded = same;
        stored = is;
      }
  forwarded b k end is_r (move.Fork name count from) same full is = absurd (let e : record_of fixed moves (move.Fork name count from) ≡ Forward b k end = same ∙ is_r in cc e)
  forwarded b k end is_r (move.Operation b' op reply) same full is = absurd (let e : record_of fixed moves (move.Operation b' op reply) ≡ Forward b k end = same ∙ is_r in cc e)
  forwarded b k end is_r (move.Merge b' k') same full is = absurd (let e : record_of fixed moves (move.Merge b' k') ≡ Forward b k end = same ∙ is_r in cc e)
  forwarded b k end is_r (move.Join b' ks) same full is = absurd (let e : record_of fixed moves (move.Join b' ks) ≡ Forward b k end = same ∙ is_r in cc e)
  forwarded b k end is_r (move.Received parents origin clock act) same full is = absurd (let e : record_of fixed moves (move.Received parents origin clock act) ≡ Forward b k end = same ∙ is_r in cc e)
  forwarded b k end is_r (move.Place name count k') same full is = absurd (let e : record_of fixed moves (move.Place name count k') ≡ Forward b k end = same ∙ is_r in cc e)
  forwarded b k end is_r (move.Drop b') same full is = absurd (let e : record_of fixed moves (move.Drop b') ≡ Forward b k end = same ∙ is_r in cc e)

  placed : (name : List ℕ) (number k end : ℕ) → r ≡ Place number k name end → (m : Move O R) → record_of fixed moves m ≡ r → IsFullMove fixed moves m → region fixed moves m ≡ bytes → Remakes fixed moves (machine.Place name k) r bytes
  placed name number k end is_r (move.Place name' count k') same full is =
      let e : record_of fixed moves (move.Place name' count k') ≡ Place number k name end = same ∙ is_r in
      let names : name' ≡ name = cc e in
      let commits : k' ≡ k = cc e in
      record {
        made = move.Place name' count k';
        makes = ap (λ (x : List ℕ). (full_turn fixed moves (machine.Place x k)).made) (sym names) ∙ ap (λ (x : ℕ). (full_turn fixed moves (machine.Place name' x)).made) (sym commits) ∙ again-place fixed moves name' count k' full;
        recorded = same;
        stored = is;
      }
  placed name number k end is_r (move.Fork name' count from) same full is = absurd (let e : record_of fixed moves (move.Fork name' count from) ≡ Place number k name end = same ∙ is_r in cc e)
  placed name number k end is_r (move.Operation b' op reply) same full is = absurd (let e : record_of fixed moves (move.Operation b' op reply) ≡ Place number k name end = same ∙ is_r in cc e)
  placed name number k end is_r (move.Merge b' k') same full is = absurd (let e : record_of fixed moves (move.Merge b' k') ≡ Place number k name end = same ∙ is_r in cc e)
  placed name number k end is_r (move.Forward b' k') same full is = absurd (let e : record_of fixed moves (move.Forward b' k') ≡ Place number k name end = same ∙ is_r in cc e)
  placed name number k end is_r (move.Join b' ks) same full is = absurd (let e : record_of fixed moves (move.Join b' ks) ≡ Place number k name end = same ∙ is_r in cc e)
  placed name number k end is_r (move.Received parents origin clock act) same full is = absurd (let e : record_of fixed moves (move.Received parents origin clock act) ≡ Place number k name end = same ∙ is_r in cc e)
  placed name number k end is_r (move.Drop b') same full is = absurd (let e : record_of fixed moves (move.Drop b') ≡ Place number k name end = same ∙ is_r in cc e)

  dropped : (b end : ℕ) → r ≡ Drop b end → (m : Move O R) → record_of fixed moves m ≡ r → IsFullMove fixed moves m → region fixed moves m ≡ bytes → Remakes fixed moves (machine.Drop b (head_of t.branches b)) r bytes
  dropped b end is_r (move.Drop b') same full is =
      let e : record_of fixed moves (move.Drop b') ≡ Drop b end = same ∙ is_r in
      let branch : b' ≡ b = cc e in
      record {
        made = move.Drop b';
        makes = ap (λ (x : ℕ). (full_turn fixed moves (machine.Drop x (head_of t.branches x))).made) (sym branch) ∙ again-drop fixed moves b' full;
        recorded = same;
        stored = is;
      }
  dropped b end is_r (move.Fork name count from) same full is = absurd (let e : record_of fixed moves (move.Fork name count from) ≡ Drop b end = same ∙ is_r in cc e)
  dropped b end is_r (move.Operation b' op reply) same full is = absurd (let e : record_of fixed moves (move.Operation b' op reply) ≡ Drop b end = same ∙ is_r in cc e)
  dropped b end is_r (move.Merge b' k') same full is = absurd (let e : record_of fixed moves (move.Merge b' k') ≡ Drop b end = same ∙ is_r in cc e)
  dropped b end is_r (move.Forward b' k') same full is = absurd (let e : record_of fixed moves (move.Forward b' k') ≡ Drop b end = same ∙ is_r in cc e)
  dropped b end is_r (move.Join b' ks) same full is = absurd (let e : record_of fixed moves (move.Join b' ks) ≡ Drop b end = same ∙ is_r in cc e)
  dropped b end is_r (move.Received parents origin clock act) same full is = absurd (let e : record_of fixed moves (move.Received parents origin clock act) ≡ Drop b end = same ∙ is_r in cc e)
  dropped b end is_r (move.Place name count k') same full is = absurd (let e : record_of fixed moves (move.Place name count k') ≡ Drop b end = same ∙ is_r in cc e)

  pub fork-remade : (name from_name : List ℕ) (number from end : ℕ) → r ≡ Fork number from name end → branch_named t.branches from_name ≡ Some from → Remakes fixed moves (machine.Fork name from_name) r bytes
  fork-remade name from_name number from end is_r named =
      let made = plain fixed moves whole r valid starts known fits may laws size whole-short (subst (λ (q : Record). MakesCommit q → ⊥) (sym is_r) (λ none. none)) in
      forked name from_name number from end is_r named made.0 made.1 made.2 (made.3 ∙ behind-is)

  pub forward-remade : (b k end : ℕ) → r ≡ Forward b k end → Remakes fixed moves (machine.Merge b (head_of t.branches b) (k ∷ [])) r bytes
  forward-remade b k end is_r =
      let made = plain fixed moves whole r valid starts known fits may laws size whole-short (subst (λ (q : Record). MakesCommit q → ⊥) (sym is_r) (λ none. none)) in
      forwarded b k end is_r made.0 made.1 made.2 (made.3 ∙ behind-is)

  pub place-remade : (name : List ℕ) (number k end : ℕ) → r ≡ Place number k name end → Remakes fixed moves (machine.Place name k) r bytes
  place-remade name number k end is_r =
      let made = plain fixed moves whole r valid starts known fits may laws size whole-short (subst (λ (q : Record). MakesCommit q → ⊥) (sym is_r) (λ none. none)) in
      placed name number k end is_r made.0 made.1 made.2 (made.3 ∙ behind-is)

  pub drop-remade : (b end : ℕ) → r ≡ Drop b end → Remakes fixed moves (machine.Drop b (head_of t.branches b)) r bytes
  drop-remade b end is_r =
      let made = plain fixed moves whole r valid starts known fits may laws size whole-short (subst (λ (q : Record). MakesCommit q → ⊥) (sym is_r) (λ none. none)) in
      dropped b end is_r made.0 made.1 made.2 (made.3 ∙ behind-is)

  -- what the step of a plan does not remake, the machine does not make
  pub planned-not : (q : Record) → r ≡ q → (action : Action) (p : Plan O) → IsPlanOf fixed.meaning q action p → (value : Option (List ℕ)) (c : CommitFields) → AreParts fixed.terms.layout bytes value c → IsOfType fixed.meaning value → c.action ≡ action → (Remakes fixed moves (step_for fixed.terms moves p) r bytes → ⊥) → IsMade fixed moves r bytes → ⊥
  planned-not (Operation b address end) is_r (wire.Operation spelling told) (plan.Operation branch op) (same, known, one) value c are inside does none made =
      not-operated op spelling told one value c are inside does b address end is_r
      (λ again. none (subst (λ (x : ℕ). Remakes fixed moves (machine.Land x (head_of t.branches x) op) r bytes) (sym same) again)) made
  planned-not (Merge b k address end) is_r wire.Merge (plan.Merge branch commit) (same, other) value c are inside does none made =
      not-merged fixed moves b k address end bytes
      (λ again. none (subst (λ (q : Record). Remakes fixed moves (machine.Merge branch (head_of t.branches branch) (commit ∷ [])) q bytes) (sym is_r)
      (subst (λ (x : ℕ). Remakes fixed moves (machine.Merge x (head_of t.branches x) (commit ∷ [])) (Merge b k address end) bytes) (sym same)
      (subst (λ (x : ℕ). Remakes fixed moves (machine.Merge b (head_of t.branches b) (x ∷ [])) (Merge b k address end) bytes) (sym other) again))))
      (subst (λ (q : Record). IsMade fixed moves q bytes) is_r made)
  planned-not (Join b ks end) is_r wire.Merge (plan.Join branch commits) (same, others) value c are inside does none made =
      not-joined fixed moves b ks end bytes
      (λ again. none (subst (λ (q : Record). Remakes fixed moves (machine.Merge branch (head_of t.branches branch) commits) q bytes) (sym is_r)
      (subst (λ (x : ℕ). Remakes fixed moves (machine.Merge x (head_of t.branches x) commits) (Join b ks end) bytes) (sym same)
      (subst (λ (xs : List ℕ). Remakes fixed moves (machine.Merge b (head_of t.branches b) xs) (Join b ks end) bytes) (sym others) again))))
      (subst (λ (q : Record). IsMade fixed moves q bytes) is_r made)
  planned-not (Fork number from name end) is_r action p none-planned value c are inside does none made = absurd none-planned
  planned-not (Forward b k end) is_r action p none-planned value c are inside does none made = absurd none-planned
  planned-not (Received address end) is_r action p none-planned value c are inside does none made = absurd none-planned
  planned-not (Place number k name end) is_r action p none-planned value c are inside does none made = absurd none-planned
  planned-not (Drop b end) is_r action p none-planned value c are inside does none made = absurd none-planned
  planned-not (Operation b address end) is_r wire.Root p none-planned value c are inside does none made = absurd none-planned
  planned-not (Operation b address end) is_r wire.Merge p none-planned value c are inside does none made = absurd none-planned
  planned-not (Operation b address end) is_r (wire.Operation spelling told) (plan.Merge branch commit) none-planned value c are inside does none made = absurd none-planned
  planned-not (Merge b k address end) is_r wire.Root p none-planned value c are inside does none made = absurd none-planned
  planned-not (Merge b k address end) is_r (wire.Operation spelling told) p none-planned value c are inside does none made = absurd none-planned
  planned-not (Operation b address end) is_r (wire.Operation spelling told) (plan.Join branch commits) none-planned value c are inside does none made = absurd none-planned
  planned-not (Merge b k address end) is_r wire.Merge (plan.Operation branch op) none-planned value c are inside does none made = absurd none-planned
  planned-not (Merge b k address end) is_r wire.Merge (plan.Join branch commits) none-planned value c are inside does none made = absurd none-planned
  planned-not (Join b ks end) is_r wire.Root p none-planned value c are inside does none made = absurd none-planned
  planned-not (Join b ks end) is_r (wire.Operation spelling told) p none-planned value c are inside does none made = absurd none-planned
  planned-not (Join b ks end) is_r wire.Merge (plan.Operation branch op) none-planned value c are inside does none made = absurd none-planned
  planned-not (Join b ks end) is_r wire.Merge (plan.Merge branch commit) none-planned value c are inside does none made = absurd none-planned

  -- why bytes were refused, of which these parts were read
  pub why-not-made : (value : Option (List ℕ)) (c : CommitFields) (action : Action) → AreParts fixed.terms.layout bytes value c → c.action ≡ action → Does fixed r action → (IsOfType fixed.meaning value → IsMade fixed moves r bytes → ⊥) → (why : NotRemade) → IsWhyNot fixed.meaning value why → NotRemadeAs fixed moves r bytes why
  why-not-made value c action are does done none unmade.Object inside = not-valued fixed r bytes value c are inside
  why-not-made value c action are does done none unmade.Commit inside = (parts-shape fixed r bytes value c are inside (subst (Does fixed r) (sym does) done) (λ one. absurd (omega (arith, one))), none inside)
  why-not-made value c action are does done none unmade.Memory inside = tt

-- bytes that are not read are refused for it
pub why-unread : {S O R Q A : Type 0} {form : Form} (fixed : FixedIn form S O R Q A) (moves : List (Move O R)) (r : Record) (bytes : List ℕ) (why : Unread) → (why ≡ unread.NotCanonical → HasShape fixed r bytes → ⊥) → NotRemadeAs fixed moves r bytes (unread_as why)
why-unread fixed moves r bytes unread.NotCanonical none = none refl
why-unread fixed moves r bytes unread.Memory none = tt

-- a record of a move without a commit adds no bytes
pub no-bytes : {S O R Q A : Type 0} (fixed : Fixed S O R Q A) (moves : List (Move O R)) (r : Record) → (MakesCommit r → ⊥) → Suits fixed moves r → end_at r ≡ end_of fixed moves
no-bytes fixed moves (Fork number from name end) makes suits = suits.2
no-bytes fixed moves (Operation b address end) makes suits = absurd (makes tt)
no-bytes fixed moves (Merge b k address end) makes suits = absurd (makes tt)
no-bytes fixed moves (Forward b k end) makes suits = suits.4
no-bytes fixed moves (Join b ks end) makes suits = absurd (makes tt)
no-bytes fixed moves (Received address end) makes suits = absurd (makes tt)
no-bytes fixed moves (Place number k name end) makes suits = suits.2
no-bytes fixed moves (Drop b end) makes suits = suits.2

-- and one of a move that makes a commit adds some
pub some-bytes : {S O R Q A : Type 0} (fixed : Fixed S O R Q A) (moves : List (Move O R)) (r : Record) → MakesCommit r → Suits fixed moves r → end_of fixed moves < end_at r
some-bytes fixed moves (Fork number from name end) makes suits = absurd makes
some-bytes fixed moves (Operation b address end) makes suits = suits.1.0
some-bytes fixed moves (Merge b k address end) makes suits = suits.4.0
some-bytes fixed moves (Forward b k end) makes suits = absurd makes
some-bytes fixed moves (Join b ks end) makes suits = suits.2.0
some-bytes fixed moves (Received address end) makes suits = suits
some-bytes fixed moves (Place number k name end) makes suits = absurd makes
some-bytes fixed moves (Drop b end) makes suits = absurd makes

-- there is a number for one more move
pub few-moves : {S O R Q A : Type 0} (fixed : Fixed S O R Q A) → KeepsLaws fixed.meaning → (moves : List (Move O R)) → IsFullyValid fixed moves → length moves + 1 < 2 ^ 64
few-moves fixed laws moves valid =
    let few = valid-few fixed.meaning fixed.terms laws moves (valid-before fixed moves valid) in
    let most = fixed.terms.limits.in_range.moves_high in
    omega (arith, few, most)
