-- No files are without an answer.
use Rattle.std.proofs.Common.{zero, suc, ◌≡◌, ◌⊎◌, inl, inr, ℕ, ◌+◌, ◌-◌, ◌≤◌, List, [], ◌∷◌, ◌++◌, length, take, drop, get_or, refl, sym, ◌∙◌, ap, subst, arith, append_assoc, length-append, take-append-drop, Option, Some, None, ⊎_elim}
use Rattle.std.specs.List.{concat}
use Rattle.std.specs.Option.{option_map}
use Rattle.std.proofs.lemmas.Bool.{cases_eq, cases_lt, false_from_ne_true}
use Rattle.std.proofs.lemmas.List.{get_or-drop}
use Rattle.std.proofs.Math.Seq.{drop-append-add}
use Rattle.mrdt_model.specs.Laws.{Meaning, KeepsLaws}
use Rattle.branch_disk.specs.Disk.{Files}
use Rattle.branch_disk.specs.declared.part.Part.TheVariants.{Objects, Heads}
use Rattle.branch_names.specs.declared.terms.Terms.{Terms}
use Rattle.branch_names.specs.declared.branch.Branch.{Branch}
use Rattle.branch_names.specs.Heads.{name_of, head_of, branch_named, IsKeptBranch}
use Rattle.branch_wire.specs.StoredObjects.{Stored, collision, fresh}
use Rattle.branch_graph.specs.Graph.{reaches}
use Rattle.branch_history.specs.declared.moves.Move.{Move}
use Rattle.branch_history.specs.declared.moves.Move.TheVariants as move
use Rattle.branch_history.specs.Commits.{graph_of}
use Rattle.branch_history.specs.History.{Store}
use Rattle.branch_history.proofs.Stores.{branch_named-none, branch_named-kept, branch_named-is}
use Rattle.branch_history.specs.Steps.{Collision}
use Rattle.branch_history.specs.Validity.{IsMove}
use Rattle.branch_history.proofs.Valid.{store_of-more}
use Rattle.branch_history.proofs.Kept.{IsKept}
use Rattle.branch_history.proofs.Histories.{valid-kept}
use Rattle.branch_history.proofs.Turns.{moves-none, fork-moves, forward-moves, drop-moves, IsMove-fork, IsMove-forward, IsMove-place, IsMove-drop}
use Rattle.heads_journal.specs.declared.record.Record.{Record}
use Rattle.heads_journal.specs.declared.record.Record.TheVariants.{Fork, Operation, Merge, Forward, Join, Received, Place, Drop}
use Rattle.heads_journal.specs.Format.{IsHeader, fields_of, record_fields}
use Rattle.heads_journal.specs.Reading.{IsOpen}
use Rattle.heads_journal.proofs.Spelled.{length-spelled}
use Rattle.heads_journal.proofs.Records.{behind_gate}
use Rattle.branch_machine.specs.Fixed.{Form, FixedIn, present, fix_in}
use Rattle.branch_machine.specs.Objects.{store_after, objects_of, objects_text, new_objects, region, end_of}
use Rattle.branch_machine.specs.Machine.{collision_refusal}
use Rattle.branch_machine.specs.Laws.{IsNew}
use Rattle.branch_machine.specs.Validity.{IsFullMove}
use Rattle.branch_machine.proofs.Valid.{is-full_move, valid-before, valid-more}
use Rattle.branch_machine.proofs.Distinct.{no-objects}
use Rattle.branch_files.specs.Records.{header_in, record_of, IsKnownIn, history_text, gate_of}
use Rattle.branch_files.specs.Stands.{Spans}
use Rattle.branch_files.specs.Next.{end_at, MakesCommit, IsNext, bytes_behind}
use Rattle.branch_files.specs.Reading.{Answer, Opens, NotAStore, BadRecord, BadObject, BadCommit, Truncated, IsStored, EndsWith, ReadsIn, ReadsAs}
use Rattle.branch_files.proofs.Longer.{more-begins, known-more, history-more, objects_text-more}
use Rattle.branch_files.proofs.Today.{reads-today}

open-first : (rest : List ℕ) → get_or rest 0 0 ≡ 1 → IsOpen rest
open-first [] is = absurd (let e : 0 ≡ 1 = is in cc e)
open-first (x ∷ rest) is = ap (λ (k : ℕ). k ∷ []) is

-- among branches of distinct names, the name of each that was not dropped finds it
found-own : (branches : List Branch) (n : ℕ) → ((q r : ℕ) → IsKeptBranch branches q → IsKeptBranch branches r → name_of branches q ≡ name_of branches r → q ≡ r) → IsKeptBranch branches n → (o : Option ℕ) → branch_named branches (name_of branches n) ≡ o → branch_named branches (name_of branches n) ≡ Some n
found-own branches n distinct kept None is = absurd (branch_named-none branches (name_of branches n) n is kept refl)
found-own branches n distinct kept (Some r) is =
    let same : r ≡ n = distinct r n (branch_named-kept branches (name_of branches n) r is) kept (branch_named-is branches (name_of branches n) r is) in
    is ∙ ap (λ (k : ℕ). Some k) same

named-own : (branches : List Branch) (n : ℕ) → ((q r : ℕ) → IsKeptBranch branches q → IsKeptBranch branches r → name_of branches q ≡ name_of branches r → q ≡ r) → IsKeptBranch branches n → branch_named branches (name_of branches n) ≡ Some n
named-own branches n distinct kept = found-own branches n distinct kept (branch_named branches (name_of branches n)) refl

-- a move without objects collides with none
no-refusal : {S O R Q A : Type 0} {form : Form} (fixed : FixedIn form S O R Q A) (moves : List (Move O R)) (m : Move O R) → new_objects fixed moves m ≡ [] → collision_refusal fixed moves m ≡ None
unfolding collision_refusal
no-refusal fixed moves m none = ap (λ (xs : Stored). option_map (λ c. Collision (fixed.address c.1) c.0 c.1) (collision fixed.address (objects_of fixed moves) xs)) none

module _ {S O R Q A : Type 0} {form : Form} (fixed : FixedIn form S O R Q A) (files : Files) (moves : List (Move O R)) (spans : Spans fixed moves files) where
  -- a move of the machine with the record and the region that stand behind a history is in the files
  pub grown : (r : Record) (m : Move O R) → IsNext fixed moves files.heads r → IsFullMove fixed moves m → record_of fixed moves m ≡ r → region fixed moves m ≡ bytes_behind fixed moves files.objects r → Spans fixed (moves ++ m ∷ []) files
  grown r m next full same bytes = record {
    valid = valid-more fixed moves m spans.valid full;
    objects = more-begins (objects_text fixed (moves ++ m ∷ [])) files.objects
        (record {
          more = drop k behind;
          is = first ∙ ap (λ (l : List ℕ). objects_text fixed moves ++ l) (sym (take-append-drop k behind) ∙ ap (λ (l : List ℕ). l ++ drop k behind) (sym bytes))
              ∙ sym (append_assoc (objects_text fixed moves) (region fixed moves m) (drop k behind)) ∙ ap (λ (l : List ℕ). l ++ drop k behind) (sym (objects_text-more fixed moves m));
        });
    heads = more-begins (history_text fixed (moves ++ m ∷ [])) files.heads
        (record {
          more = rest;
          is = second ∙ ap (λ (l : List ℕ). history_text fixed moves ++ l) split ∙ sym (append_assoc (history_text fixed moves) (1 ∷ record_fields r) rest) ∙ ap (λ (l : List ℕ). l ++ rest) (sym longer);
        });
    gate = let long = next.there.long in omega (arith, ap length longer, length-append (history_text fixed moves) (1 ∷ record_fields r), length-spelled (fields_of r) next.fits.0);
    known = known-more fixed moves m spans.known (subst (IsKnownIn form.version) (sym same) next.known);
  }
    where
      k : ℕ
      k = end_at r - end_of fixed moves

      behind : List ℕ
      behind = drop (end_of fixed moves) files.objects

      first : files.objects ≡ objects_text fixed moves ++ behind
      first = sym (take-append-drop (end_of fixed moves) files.objects) ∙ ap (λ (l : List ℕ). l ++ behind) spans.objects

      after : List ℕ
      after = drop (gate_of fixed moves) files.heads

      second : files.heads ≡ history_text fixed moves ++ after
      second = sym (take-append-drop (gate_of fixed moves) files.heads) ∙ ap (λ (l : List ℕ). l ++ after) spans.heads

      rest : List ℕ
      rest = drop 63 (drop 1 after)

      spelled : take 63 (drop 1 after) ≡ record_fields r
      spelled = sym (ap (λ (l : List ℕ). take 63 (drop (gate_of fixed moves + 1) l)) second ∙ ap (take 63) (drop-append-add (history_text fixed moves) after 1)) ∙ next.spelled

      split : after ≡ 1 ∷ (record_fields r ++ rest)
      split = behind_gate r after next.there.gate spelled

      longer : history_text fixed (moves ++ m ∷ []) ≡ history_text fixed moves ++ 1 ∷ record_fields r
      longer = history-more fixed moves m ∙ ap (λ (q : Record). history_text fixed moves ++ 1 ∷ record_fields q) same

  module _ (laws : KeepsLaws fixed.meaning) where
    abbrev s : Store O R
    s = store_after fixed moves

    kept : IsKept fixed.meaning fixed.terms s
    kept = valid-kept fixed.meaning fixed.terms laws moves (valid-before fixed moves spans.valid)

    -- a move without a commit
    module _ (m : Move O R) (is : IsMove fixed.meaning fixed.terms moves m) (unseen : IsNew fixed moves m) (unmoved : (store_after fixed (moves ++ m ∷ [])).commits ≡ s.commits) where
      none-new : new_objects fixed moves m ≡ []
      none-new = no-objects fixed moves m unmoved

      region-empty : region fixed moves m ≡ []
      region-empty = ap (λ (xs : Stored). concat (fresh (objects_of fixed moves) xs)) none-new

      end-stays : end_of fixed (moves ++ m ∷ []) ≡ end_of fixed moves
      end-stays = let none = ap length region-empty in omega (arith, ap length (objects_text-more fixed moves m), length-append (objects_text fixed moves) (region fixed moves m))

      plain : (r : Record) → IsNext fixed moves files.heads r → record_of fixed moves m ≡ r → end_at r ≡ end_of fixed moves → Spans fixed (moves ++ m ∷ []) files
      plain r next same end =
          let nothing : end_at r - end_of fixed moves ≡ 0 = omega (arith, end) in
          grown r m next (is-full_move fixed moves m is unseen (no-refusal fixed moves m none-new)) same
          (region-empty ∙ ap (λ (n : ℕ). take n (drop (end_of fixed moves) files.objects)) (sym nothing))

    -- a record of a move without a commit that may come next is of a move of the machine
    pub next-plain : (r : Record) → IsNext fixed moves files.heads r → (MakesCommit r → ⊥) → (m : Move O R) × (record_of fixed moves m ≡ r) × Spans fixed (moves ++ m ∷ []) files
    next-plain (Fork number from name end) next makes =
        let free = next.suits.0 in
        let room = free.1 in
        let m : Move O R = move.Fork name number from in
        let found = named-own s.branches from kept.ordered.distinct next.suits.1 in
        let landed = fork-moves fixed.terms moves (let e = free.0 in omega (arith, e)) ∙ moves-none fixed.terms moves next.room in
        let is = subst (λ (k : ℕ). IsMove fixed.meaning fixed.terms moves (move.Fork name k from)) (sym free.0) (IsMove-fork fixed.meaning fixed.terms moves name (name_of s.branches from) from next.fits.1 found free.2 landed) in
        let unmoved : (store_after fixed (moves ++ m ∷ [])).commits ≡ s.commits = ap (λ (t : Store O R). t.commits) (store_of-more fixed.terms.origin moves m) in
        let same : record_of fixed moves m ≡ Fork number from name end = ap (λ e. Fork number from name e) (end-stays m is tt unmoved ∙ sym next.suits.2) in
        (m, same, plain m is tt unmoved (Fork number from name end) next same next.suits.2)
    next-plain (Place number k name end) next makes =
        let free = next.suits.0 in
        let room = free.1 in
        let m : Move O R = move.Place name number k in
        let landed = fork-moves fixed.terms moves (let e = free.0 in omega (arith, e)) ∙ moves-none fixed.terms moves next.room in
        let is = subst (λ (j : ℕ). IsMove fixed.meaning fixed.terms moves (move.Place name j k)) (sym free.0) (IsMove-place fixed.meaning fixed.terms moves name k next.fits.1 next.suits.1 free.2 landed) in
        let unmoved : (store_after fixed (moves ++ m ∷ [])).commits ≡ s.commits = ap (λ (t : Store O R). t.commits) (store_of-more fixed.terms.origin moves m) in
        let same : record_of fixed moves m ≡ Place number k name end = ap (λ e. Place number k name e) (end-stays m is tt unmoved ∙ sym next.suits.2) in
        (m, same, plain m is tt unmoved (Place number k name end) next same next.suits.2)
    next-plain (Operation r address end) next makes = absurd (makes tt)
    next-plain (Merge r k address end) next makes = absurd (makes tt)
    next-plain (Join r ks end) next makes = absurd (makes tt)
    next-plain (Received address end) next makes = absurd (makes tt)
    next-plain (Forward r k end) next makes =
        let suits = next.suits in
        let m : Move O R = move.Forward r k in
        let h : ℕ = head_of s.branches r in
        let landed = forward-moves fixed.terms moves r h suits.0.1 refl ∙ moves-none fixed.terms moves next.room in
        let is = IsMove-forward fixed.meaning fixed.terms moves r h k suits.0.0 (kept.ordered.heads r suits.0.0) suits.1 (false_from_ne_true (reaches (graph_of s.commits) h k) suits.2) suits.3 landed in
        let unmoved : (store_after fixed (moves ++ m ∷ [])).commits ≡ s.commits = ap (λ (t : Store O R). t.commits) (store_of-more fixed.terms.origin moves m) in
        let same : record_of fixed moves m ≡ Forward r k end = ap (λ e. Forward r k e) (end-stays m is tt unmoved ∙ sym suits.4) in
        (m, same, plain m is tt unmoved (Forward r k end) next same suits.4)
    next-plain (Drop r end) next makes =
        let suits = next.suits in
        let m : Move O R = move.Drop r in
        let h : ℕ = head_of s.branches r in
        let landed = drop-moves fixed.terms moves r h suits.0.1 suits.1 refl ∙ moves-none fixed.terms moves next.room in
        let is = IsMove-drop fixed.meaning fixed.terms moves r h suits.0.0 (kept.ordered.heads r suits.0.0) landed in
        let unmoved : (store_after fixed (moves ++ m ∷ [])).commits ≡ s.commits = ap (λ (t : Store O R). t.commits) (store_of-more fixed.terms.origin moves m) in
        let same : record_of fixed moves m ≡ Drop r end = ap (λ e. Drop r e) (end-stays m is tt unmoved ∙ sym suits.2) in
        (m, same, plain m is tt unmoved (Drop r end) next same suits.2)

    makes-or-not : (r : Record) → MakesCommit r ⊎ (MakesCommit r → ⊥)
    makes-or-not (Fork number from name end) = inr (λ makes. makes)
    makes-or-not (Operation r address end) = inl tt
    makes-or-not (Merge r k address end) = inl tt
    makes-or-not (Forward r k end) = inr (λ makes. makes)
    makes-or-not (Join r ks end) = inl tt
    makes-or-not (Received address end) = inl tt
    makes-or-not (Place number k name end) = inr (λ makes. makes)
    makes-or-not (Drop r end) = inr (λ makes. makes)

    -- reading ends behind the history, or the files have one more move
    module _ (ends : (a : Answer O R) → EndsWith fixed moves files a → ⊥) (more : (m : Move O R) → Spans fixed (moves ++ m ∷ []) files → ⊥) where
      no-next : (r : Record) → IsNext fixed moves files.heads r → ⊥
      no-next r next =
          ⊎_elim
          (λ less. ends (Truncated Objects (end_of fixed moves)) (refl, (r, next, less)))
          (λ le.
          let stored : IsStored fixed moves files r = record { next = next; long = le } in
          ⊎_elim
          (λ makes.
          ends (BadObject (end_of fixed moves)) (
            refl,
            (
              r,
              stored,
              makes,
              λ shape.
                  ends (BadCommit (length s.commits)) (
                    refl,
                    (
                      r,
                      record { stored = stored; makes = makes; shape = shape },
                      λ made. more made.0 (grown r made.0 next made.1 made.2 made.3),
                    ),
                  ),
            ),
          ))
          (λ plainly. let one = next-plain r next plainly in more one.0 one.2)
          (makes-or-not r))
          (cases_lt (length files.objects) (end_at r))

      ends-or-more : ⊥
      ends-or-more =
          let gate : ℕ = gate_of fixed moves in
          ⊎_elim
          (λ is.
          let same : gate + 0 ≡ gate = omega arith in
          let opens : IsOpen (drop gate files.heads) = open-first (drop gate files.heads) (get_or-drop gate files.heads 0 0 ∙ ap (λ (k : ℕ). get_or files.heads k 0) same ∙ is) in
          ⊎_elim
          (λ less. ends (Truncated Heads gate) (refl, opens, less))
          (λ le. ends (BadRecord (length moves + 1)) (refl, record { gate = opens; long = le }, no-next))
          (cases_lt (length files.heads) (gate + 65)))
          (λ other. ends (Opens fixed.terms moves) (refl, refl, record { there = spans.gate; shut = other }))
          (cases_eq (get_or files.heads gate 0) 1)

module _ {S O R Q A : Type 0} (form : Form) (m : Meaning S O R Q A) (laws : KeepsLaws m) (address : List ℕ → List ℕ) (files : Files) (none : (a : Answer O R) → ReadsIn form m address files a → ⊥) where
  climb : (fuel : ℕ) (l : Terms) → IsHeader (header_in form l) → (moves : List (Move O R)) → Spans (fix_in form m l address) moves files → length files.heads ≤ gate_of (fix_in form m l address) moves + fuel → ⊥
  climb zero l fits moves spans le = let less = spans.gate in omega (arith, le)
  climb (suc fuel) l fits moves spans le =
      ends-or-more (fix_in form m l address) files moves spans laws
      (λ a ends. none a (inr (l, moves, fits, spans, ends)))
      (λ made next.
      climb fuel l fits (moves ++ made ∷ []) next
      (omega (arith, le, ap length (history-more (fix_in form m l address) moves made), length-append (history_text (fix_in form m l address) moves) (1 ∷ record_fields (record_of (fix_in form m l address) moves made)))))

  pub some-reading_in : ⊥
  some-reading_in = none NotAStore (inl (refl, λ l fits spans. climb (length files.heads) l fits [] spans (omega arith)))

pub some-reading : {S O R Q A : Type 0} (m : Meaning S O R Q A) (laws : KeepsLaws m) (address : List ℕ → List ℕ) (files : Files) → ((a : Answer O R) → ReadsAs m address files a → ⊥) → ⊥
some-reading m laws address files none = some-reading_in present m laws address files (λ a reads. none a (reads-today m address files a reads))
