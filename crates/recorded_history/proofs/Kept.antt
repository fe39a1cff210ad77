-- What a recorded history keeps, move by move.
use Rattle.std.proofs.Common.{◌≡◌, ◌≤◌, ℕ, List, [], ◌∷◌, ◌++◌, length, drop, take, map, refl, ap, sym, ◌∙◌, arith, None, subst, append-nil, append_assoc, length-append}
use Rattle.std.proofs.lemmas.List.{map-append, append_cancel_left, length-map, take-take, take_all}
use Rattle.std.proofs.lemmas.List.Folds.{concat-append}
use Rattle.std.proofs.Math.Seq.{take-append_seam, drop-append_seam}
use Rattle.std.specs.List.{concat}
use Rattle.mrdt_model.specs.Laws.{Meaning}
use Rattle.branch_names.specs.declared.terms.Terms.{Terms}
use Rattle.branch_wire.specs.StoredObjects.{Stored, fresh}
use Rattle.branch_history.specs.declared.moves.Move.{Move}
use Rattle.branch_history.specs.Commits.{Commit}
use Rattle.branch_history.specs.History.{store_of}
use Rattle.branch_history.specs.Validity.{IsValid}
use Rattle.branch_history.proofs.Later.{commits-longer}
use Rattle.branch_machine.specs.Fixed.{Fixed, fix}
use Rattle.branch_machine.specs.Objects.{Pair, store_after, pairs_of, objects_of, objects_text, new_objects, region}
use Rattle.branch_machine.specs.Machine.{collision_refusal}
use Rattle.branch_machine.specs.Laws.{IsNew}
use Rattle.branch_machine.specs.Validity.{IsFullyValid}
use Rattle.branch_machine.proofs.Pairs.{length-pairs_of, pairs_of-longer, objects-more}
use Rattle.branch_machine.proofs.Valid.{valid-first}
use Rattle.branch_files.proofs.Longer.{objects_text-more}
use Rattle.object_store.specs.Views.{ObjectsView}
use Rattle.store_seen.specs.Turns.{StoodAt, StoodBefore, Undone}
use Rattle.store_seen.specs.Views.{CoreView, VersionsView}
use Rattle.recorded_history.specs.Keeps.{CameFrom, CameBehind, IsBackAt, IsRecorded, IsLaidOut}
use Rattle.recorded_history.specs.Machine.{addresses_of, regions}
use Rattle.recorded_history.specs.Views.{RecordedView, recorded_of}
use Rattle.recorded_history.proofs.Steps.{fully-more}

-- the rest of a list behind a first part
drop-first : {X : Type 0} (xs ys : List X) → drop (length xs) (xs ++ ys) ≡ ys
drop-first xs ys = drop-append_seam xs ys

-- lists with one more item each are equal only where the lists and the items are
pub last-same : {X : Type 0} (xs ys : List X) (x y : X) → xs ++ x ∷ [] ≡ ys ++ y ∷ [] → (xs ≡ ys) × (x ≡ y)
last-same [] [] x y e = (refl, cc)
last-same [] (z ∷ zs) x y e = let size = ap length e in absurd (omega (arith, size, length-append zs (y ∷ [])))
last-same (z ∷ zs) [] x y e = let size = ap length e in absurd (omega (arith, size, length-append zs (x ∷ [])))
last-same (z ∷ zs) (w ∷ ws) x y e =
    let rest : zs ++ x ∷ [] ≡ ws ++ y ∷ [] = cc in
    let first : z ≡ w = cc in
    let more = last-same zs ws x y rest in
    (ap (λ v. v ∷ zs) first ∙ ap (λ l. w ∷ l) more.0, more.1)

module _ {S O R Q A : Type 0} (fixed : Fixed S O R Q A) where
  -- the addresses of the first part of a history
  pub addresses-first : (history more : List (Move O R)) → take (length (store_after fixed history).commits) (addresses_of fixed (history ++ more)) ≡ addresses_of fixed history
  addresses-first history more =
      let old : List (Commit O R) = (store_after fixed history).commits in
      let commits = commits-longer fixed.terms.origin history more in
      let longer = pairs_of-longer fixed old commits.more in
      let f : Pair → List ℕ = λ p. fixed.address p.commit in
      let grown : addresses_of fixed (history ++ more) ≡ addresses_of fixed history ++ map f longer.more =
      ap (λ (cs : List (Commit O R)). map f (pairs_of fixed cs)) commits.is ∙ ap (map f) longer.is ∙ map-append f (pairs_of fixed old) longer.more in
      let count : length old ≡ length (addresses_of fixed history) = sym (length-map (pairs_of fixed old) f ∙ length-pairs_of fixed old) in
      ap (take (length old)) grown ∙ ap (λ (n : ℕ). take n (addresses_of fixed history ++ map f longer.more)) count ∙ take-append_seam (addresses_of fixed history) (map f longer.more)

  -- what is staged is the region of the move
  pub staged-region : (history : List (Move O R)) (made : Move O R) (objects : ObjectsView) → objects.stored ≡ objects_of fixed history → objects.stored ++ objects.staged ≡ objects_of fixed (history ++ made ∷ []) → concat objects.staged ≡ region fixed history made
  staged-region history made objects stored staged =
      let new : Stored = fresh (objects_of fixed history) (new_objects fixed history made) in
      let whole : objects_of fixed history ++ objects.staged ≡ objects_of fixed history ++ new = ap (λ (s : Stored). s ++ objects.staged) (sym stored) ∙ staged ∙ objects-more fixed history made in
      ap concat (append_cancel_left (objects_of fixed history) objects.staged new whole)

  -- the objects of moves that are made one behind the other
  abbrev new_all : List (Move O R) → List (Move O R) → Stored
  new_all history [] = []
  new_all history (made ∷ more) = fresh (objects_of fixed history) (new_objects fixed history made) ++ new_all (history ++ made ∷ []) more

  objects-all : (history more : List (Move O R)) → objects_of fixed (history ++ more) ≡ objects_of fixed history ++ new_all history more
  objects-all history [] = ap (objects_of fixed) (append-nil history) ∙ sym (append-nil (objects_of fixed history))
  objects-all history (made ∷ more) =
      let new : Stored = fresh (objects_of fixed history) (new_objects fixed history made) in
      let rest : Stored = new_all (history ++ made ∷ []) more in
      ap (objects_of fixed) (sym (append_assoc history (made ∷ []) more)) ∙ objects-all (history ++ made ∷ []) more
      ∙ ap (λ (s : Stored). s ++ rest) (objects-more fixed history made) ∙ append_assoc (objects_of fixed history) new rest

  regions-are : (history more : List (Move O R)) → concat (new_all history more) ≡ regions fixed history more
  regions-are history [] = refl
  regions-are history (made ∷ more) =
      let new : Stored = fresh (objects_of fixed history) (new_objects fixed history made) in
      concat-append new (new_all (history ++ made ∷ []) more) ∙ ap (λ (l : List ℕ). concat new ++ l) (regions-are (history ++ made ∷ []) more)

  -- what is staged is the regions of all pending moves
  pub staged-regions : (history more : List (Move O R)) (objects : ObjectsView) → objects.stored ≡ objects_of fixed history → objects.stored ++ objects.staged ≡ objects_of fixed (history ++ more) → concat objects.staged ≡ regions fixed history more
  staged-regions history more objects stored staged =
      let whole : objects_of fixed history ++ objects.staged ≡ objects_of fixed history ++ new_all history more = ap (λ (s : Stored). s ++ objects.staged) (sym stored) ∙ staged ∙ objects-all history more in
      ap concat (append_cancel_left (objects_of fixed history) objects.staged (new_all history more) whole) ∙ regions-are history more

  -- a longer history has the regions of its further moves behind its objects
  pub text-regions : (history more : List (Move O R)) → objects_text fixed (history ++ more) ≡ objects_text fixed history ++ regions fixed history more
  text-regions history [] = ap (objects_text fixed) (append-nil history) ∙ sym (append-nil (objects_text fixed history))
  text-regions history (made ∷ more) =
      let rest : List ℕ = regions fixed (history ++ made ∷ []) more in
      ap (objects_text fixed) (sym (append_assoc history (made ∷ []) more)) ∙ text-regions (history ++ made ∷ []) more
      ∙ ap (λ (t : List ℕ). t ++ rest) (objects_text-more fixed history made) ∙ append_assoc (objects_text fixed history) (region fixed history made) rest

  -- nothing is staged where there are no more objects
  pub staged-nothing : (history more : List (Move O R)) (objects : ObjectsView) → objects.stored ≡ objects_of fixed history → objects.stored ++ objects.staged ≡ objects_of fixed more → objects_of fixed more ≡ objects_of fixed history → objects.staged ≡ []
  staged-nothing history more objects stored staged same =
      append_cancel_left objects.stored objects.staged [] (staged ∙ same ∙ sym stored ∙ sym (append-nil objects.stored))

-- one pending move more
came-more : {O R : Type 0} (terms : Terms) (history pending : List (Move O R)) (stood : List ℕ) (made : Move O R) (head : ℕ) → CameFrom terms history pending stood → StoodAt terms (history ++ pending) made head → CameFrom terms history (pending ++ made ∷ []) (stood ++ head ∷ [])
came-more {O} {R} terms history [] [] made head came at = (subst (λ (l : List (Move O R)). StoodAt terms l made head) (append-nil history) at, tt)
came-more {O} {R} terms history [] (k ∷ stood) made head came at = absurd came
came-more {O} {R} terms history (m ∷ pending) [] made head came at = absurd came
came-more {O} {R} terms history (m ∷ pending) (k ∷ stood) made head came at =
    (came.0, came-more terms (history ++ m ∷ []) pending stood made head came.1 (subst (λ (l : List (Move O R)). StoodAt terms l made head) (sym (append_assoc history (m ∷ []) pending)) at))

-- the last of the pending moves
pub record CameLast {O R : Type 0} (terms : Terms) (history pending : List (Move O R)) (stood : List ℕ) (head : ℕ) : Type 0 where
  pub first : List (Move O R)
  pub made : Move O R
  pub is : pending ≡ first ++ made ∷ []
  pub came : CameFrom terms history first stood
  pub at : StoodAt terms (history ++ first) made head

came-last : {O R : Type 0} (terms : Terms) (history pending : List (Move O R)) (stood : List ℕ) (head : ℕ) → CameFrom terms history pending (stood ++ head ∷ []) → CameLast terms history pending stood head
came-last {O} {R} terms history [] [] head came = absurd came
came-last {O} {R} terms history [] (k ∷ stood) head came = absurd came
came-last {O} {R} terms history (m ∷ []) [] head came = record { first = []; made = m; is = refl; came = tt; at = subst (λ (l : List (Move O R)). StoodAt terms l m head) (sym (append-nil history)) came.0 }
came-last {O} {R} terms history (m ∷ p ∷ pending) [] head came = absurd came.1
came-last {O} {R} terms history (m ∷ pending) (k ∷ stood) head came =
    let later = came-last terms (history ++ m ∷ []) pending stood head came.1 in
    record {
      first = m ∷ later.first;
      made = later.made;
      is = ap (λ (l : List (Move O R)). m ∷ l) later.is;
      came = (came.0, later.came);
      at = subst (λ (l : List (Move O R)). StoodAt terms l later.made head) (append_assoc history (m ∷ []) later.first) later.at;
    }

-- of no pending moves
came-none : {O R : Type 0} (terms : Terms) (history pending : List (Move O R)) (stood : List ℕ) → pending ≡ [] → CameFrom terms history pending stood → stood ≡ []
came-none terms history [] [] none came = refl
came-none terms history [] (k ∷ stood) none came = absurd came
came-none terms history (m ∷ pending) stood none came = absurd (cc)

none-came : {O R : Type 0} (terms : Terms) (history pending : List (Move O R)) → CameFrom terms history pending [] → pending ≡ []
none-came terms history [] came = refl
none-came terms history (m ∷ pending) came = absurd came

module _ {S O R Q A : Type 0} (meaning : Meaning S O R Q A) (address : List ℕ → List ℕ) (settled : CoreView (Move O R)) where
  abbrev fixed : Fixed S O R Q A
  fixed = fix meaning settled.terms address

  module _ (versions : VersionsView (Move O R)) (objects : ObjectsView) (stood : List ℕ) (kept : IsRecorded meaning address (recorded_of settled versions.core) stood versions objects) where
    -- where no move is pending, all are written
    pub core-settled : (recorded_of settled versions.core).pending ≡ [] → versions.core ≡ settled
    core-settled none =
        kept.moves ∙ ap (λ (l : List (Move O R)). let v : CoreView (Move O R) = record { history = settled.history ++ l; terms = settled.terms } in v) none ∙ ap (λ (l : List (Move O R)). let v : CoreView (Move O R) = record { history = l; terms = settled.terms } in v) (append-nil settled.history)

    pub settled-valid : IsFullyValid fixed settled.history
    settled-valid = valid-first fixed settled.history (recorded_of settled versions.core).pending kept.valid

    pub settled-addressed : (recorded_of settled versions.core).pending ≡ [] → versions.addresses ≡ addresses_of fixed settled.history
    settled-addressed none = kept.addressed ∙ ap (λ (l : List (Move O R)). addresses_of fixed (settled.history ++ l)) none ∙ ap (addresses_of fixed) (append-nil settled.history)

    pub settled-staged : (recorded_of settled versions.core).pending ≡ [] → objects.staged ≡ []
    settled-staged none =
        staged-nothing fixed settled.history (settled.history ++ (recorded_of settled versions.core).pending) objects kept.stored kept.staged
        (ap (λ (l : List (Move O R)). objects_of fixed (settled.history ++ l)) none ∙ ap (objects_of fixed) (append-nil settled.history))

    pub settled-whole : (recorded_of settled versions.core).pending ≡ [] → objects.stored ++ objects.staged ≡ objects_of fixed settled.history
    settled-whole none = ap (λ (s : Stored). objects.stored ++ s) (settled-staged none) ∙ append-nil objects.stored ∙ kept.stored

    -- the half in memory has all objects, stored or staged
    pub laid-out : IsLaidOut meaning address versions objects
    laid-out =
        let same = sym kept.moves in
        record {
          valid = subst (λ (core : CoreView (Move O R)). IsFullyValid (fix meaning core.terms address) core.history) same kept.valid;
          addressed = subst (λ (core : CoreView (Move O R)). versions.addresses ≡ addresses_of (fix meaning core.terms address) core.history) same kept.addressed;
          whole = subst (λ (core : CoreView (Move O R)). objects.stored ++ objects.staged ≡ objects_of (fix meaning core.terms address) core.history) same kept.staged;
        }

    -- none came from anywhere where none is pending
    pub unmoved : (recorded_of settled versions.core).pending ≡ [] → stood ≡ []
    unmoved none = came-none settled.terms settled.history (recorded_of settled versions.core).pending stood none kept.came

    -- the longer history, behind all that are pending
    pub core-on : (made : Move O R) (new : CoreView (Move O R)) → new ≡ record versions.core { history = versions.core.history ++ made ∷ [] } → new ≡ record { history = (settled.history ++ (recorded_of settled versions.core).pending) ++ made ∷ []; terms = settled.terms }
    core-on made new is = is ∙ ap (λ (core : CoreView (Move O R)). let k : CoreView (Move O R) = record { history = core.history ++ made ∷ []; terms = core.terms } in k) kept.moves

    -- the longer history, where one more move was made
    pub core-more : (none : (recorded_of settled versions.core).pending ≡ []) (made : Move O R) (new : CoreView (Move O R)) → new ≡ record versions.core { history = versions.core.history ++ made ∷ [] } → new ≡ record { history = settled.history ++ made ∷ []; terms = settled.terms }
    core-more none made new is = is ∙ ap (λ (core : CoreView (Move O R)). let k : CoreView (Move O R) = record { history = core.history ++ made ∷ []; terms = core.terms } in k) (core-settled none)

  -- one move more
  module _ (made : Move O R) (versions : VersionsView (Move O R)) (core_is : versions.core ≡ record { history = settled.history ++ made ∷ []; terms = settled.terms }) where
    pub pending-one : recorded_of settled versions.core ≡ record { written = settled.history; pending = made ∷ []; terms = settled.terms }
    pending-one = ap (recorded_of settled) core_is ∙ ap (λ (l : List (Move O R)). let r : RecordedView (Move O R) = record { written = settled.history; pending = l; terms = settled.terms } in r) (drop-first settled.history (made ∷ []))

    pub recorded-more : (objects : ObjectsView) (head : ℕ) → IsFullyValid fixed settled.history → IsValid meaning versions.core.terms versions.core.history → IsNew fixed settled.history made → collision_refusal fixed settled.history made ≡ None → StoodAt settled.terms settled.history made head
        → versions.addresses ≡ addresses_of fixed (settled.history ++ made ∷ []) → objects.stored ≡ objects_of fixed settled.history → objects.stored ++ objects.staged ≡ objects_of fixed (settled.history ++ made ∷ [])
        → IsRecorded meaning address (recorded_of settled versions.core) (head ∷ []) versions objects
    recorded-more objects head full valid unseen free stood addressed stored staged =
        subst (λ (r : RecordedView (Move O R)). IsRecorded meaning address r (head ∷ []) versions objects) (sym pending-one)
        (record {
          valid = fully-more fixed settled.history made full (subst (λ (core : CoreView (Move O R)). IsValid meaning core.terms core.history) core_is valid) unseen free;
          came = (stood, tt);
          moves = core_is;
          addressed = addressed;
          stored = stored;
          staged = staged;
        })

  -- one move more behind pending ones
  module _ (pending : List (Move O R)) (made : Move O R) (versions : VersionsView (Move O R)) (core_is : versions.core ≡ record { history = (settled.history ++ pending) ++ made ∷ []; terms = settled.terms }) where
    abbrev whole : List (Move O R)
    whole = settled.history ++ pending

    together : whole ++ made ∷ [] ≡ settled.history ++ (pending ++ made ∷ [])
    together = append_assoc settled.history pending (made ∷ [])

    pub pending-on : recorded_of settled versions.core ≡ record { written = settled.history; pending = pending ++ made ∷ []; terms = settled.terms }
    pending-on =
        ap (recorded_of settled) core_is
        ∙ ap (λ (l : List (Move O R)). let r : RecordedView (Move O R) = record { written = settled.history; pending = l; terms = settled.terms } in r) (ap (drop (length settled.history)) together ∙ drop-first settled.history (pending ++ made ∷ []))

    pub recorded-on : (objects : ObjectsView) (stood : List ℕ) (head : ℕ) → IsFullyValid fixed whole → IsValid meaning versions.core.terms versions.core.history → IsNew fixed whole made → collision_refusal fixed whole made ≡ None → CameFrom settled.terms settled.history pending stood → StoodAt settled.terms whole made head
        → versions.addresses ≡ addresses_of fixed (whole ++ made ∷ []) → objects.stored ≡ objects_of fixed settled.history → objects.stored ++ objects.staged ≡ objects_of fixed (whole ++ made ∷ [])
        → IsRecorded meaning address (recorded_of settled versions.core) (stood ++ head ∷ []) versions objects
    recorded-on objects stood head full valid unseen free came at addressed stored staged =
        subst (λ (r : RecordedView (Move O R)). IsRecorded meaning address r (stood ++ head ∷ []) versions objects) (sym pending-on)
        (record {
          valid = subst (IsFullyValid fixed) together (fully-more fixed whole made full (subst (λ (core : CoreView (Move O R)). IsValid meaning core.terms core.history) core_is valid) unseen free);
          came = came-more settled.terms settled.history pending stood made head came at;
          moves = core_is ∙ ap (λ (l : List (Move O R)). let c : CoreView (Move O R) = record { history = l; terms = settled.terms } in c) together;
          addressed = addressed ∙ ap (addresses_of fixed) together;
          stored = stored;
          staged = staged ∙ ap (objects_of fixed) together;
        })

  -- the moves taken off again
  module _ (versions new : VersionsView (Move O R)) (objects new_objects : ObjectsView) (stood : List ℕ) (kept : IsRecorded meaning address (recorded_of settled versions.core) stood versions objects) (back : IsBackAt settled versions new) (same : new_objects.stored ≡ objects.stored) (none : new_objects.staged ≡ []) where
    core-back : new.core ≡ settled
    core-back = ap (λ (v : VersionsView (Move O R)). v.core) back

    pub pending-none : recorded_of settled new.core ≡ record { written = settled.history; pending = []; terms = settled.terms }
    pending-none = ap (recorded_of settled) core-back ∙ ap (λ (l : List (Move O R)). let r : RecordedView (Move O R) = record { written = settled.history; pending = l; terms = settled.terms } in r) (ap (drop (length settled.history)) (sym (append-nil settled.history)) ∙ drop-first settled.history [])

    pub recorded-back : IsRecorded meaning address (recorded_of settled new.core) [] new new_objects
    recorded-back =
        let whole = append-nil settled.history in
        subst (λ (r : RecordedView (Move O R)). IsRecorded meaning address r [] new new_objects) (sym pending-none)
        (record {
          valid = subst (IsFullyValid fixed) (sym whole) (valid-first fixed settled.history (recorded_of settled versions.core).pending kept.valid);
          came = tt;
          moves = core-back ∙ ap (λ (l : List (Move O R)). let c : CoreView (Move O R) = record { history = l; terms = settled.terms } in c) (sym whole);
          addressed = ap (λ (v : VersionsView (Move O R)). v.addresses) back ∙ ap (take (length (store_after fixed settled.history).commits)) kept.addressed ∙ addresses-first fixed settled.history (recorded_of settled versions.core).pending ∙ ap (addresses_of fixed) (sym whole);
          stored = same ∙ kept.stored;
          staged = ap (λ (s : Stored). new_objects.stored ++ s) none ∙ append-nil new_objects.stored ∙ same ∙ kept.stored ∙ ap (objects_of fixed) (sym whole);
        })

-- the pending moves without their last one
module _ {O R : Type 0} (settled core : CoreView (Move O R)) (stood : List ℕ) (head : ℕ) (behind : CameBehind settled core (stood ++ head ∷ [])) where
  abbrev last_one : CameLast settled.terms settled.history behind.pending stood head
  last_one = came-last settled.terms settled.history behind.pending stood head behind.came

  history-is : core.history ≡ (settled.history ++ last_one.first) ++ last_one.made ∷ []
  history-is =
      ap (λ (c : CoreView (Move O R)). c.history) behind.whole ∙ ap (λ (l : List (Move O R)). settled.history ++ l) last_one.is
      ∙ sym (append_assoc settled.history last_one.first (last_one.made ∷ []))

  terms-are : core.terms ≡ settled.terms
  terms-are = ap (λ (c : CoreView (Move O R)). c.terms) behind.whole

  pub stood-before : StoodBefore core.terms core.history head
  stood-before moves made is =
      let parts = last-same (settled.history ++ last_one.first) moves last_one.made made (sym history-is ∙ is) in
      subst (λ (t : Terms). StoodAt t moves made head) (sym terms-are)
      (subst (λ (l : List (Move O R)). StoodAt settled.terms l made head) parts.0 (subst (λ (m : Move O R). StoodAt settled.terms (settled.history ++ last_one.first) m head) parts.1 last_one.at))

  module _ (old new : VersionsView (Move O R)) (is : old.core ≡ core) (undone : Undone old new) where
    abbrev left : List (Move O R)
    left = settled.history ++ last_one.first

    same_terms : old.core.terms ≡ settled.terms
    same_terms = ap (λ (c : CoreView (Move O R)). c.terms) (is ∙ behind.whole)

    undone-is : new ≡ record { core = record { history = left; terms = settled.terms }; addresses = take (length (store_of settled.terms.origin left).commits) old.addresses }
    undone-is =
        undone left last_one.made (ap (λ (c : CoreView (Move O R)). c.history) is ∙ history-is)
        ∙ ap (λ (t : Terms). let v : VersionsView (Move O R) = record { core = record { history = left; terms = t }; addresses = take (length (store_of t.origin left).commits) old.addresses } in v) same_terms

    pub left-behind : CameBehind settled new.core stood
    left-behind = record { pending = last_one.first; whole = ap (λ (v : VersionsView (Move O R)). v.core) undone-is; came = last_one.came }

    pub left-first : take (length (store_of settled.terms.origin settled.history).commits) new.addresses ≡ take (length (store_of settled.terms.origin settled.history).commits) old.addresses
    left-first =
        let before : ℕ = length (store_of settled.terms.origin settled.history).commits in
        let commits = commits-longer settled.terms.origin settled.history last_one.first in
        let fewer : before ≤ length (store_of settled.terms.origin left).commits = omega (arith, ap length commits.is, length-append (store_of settled.terms.origin settled.history).commits commits.more) in
        ap (λ (v : VersionsView (Move O R)). take before v.addresses) undone-is ∙ take-take before (length (store_of settled.terms.origin left).commits) old.addresses fewer

-- none is pending any more
pub back-at : {O R : Type 0} (settled : CoreView (Move O R)) (old new : VersionsView (Move O R)) (stood : List ℕ) → stood ≡ [] → CameBehind settled new.core stood
    → take (length (store_of settled.terms.origin settled.history).commits) new.addresses ≡ take (length (store_of settled.terms.origin settled.history).commits) old.addresses → length new.addresses ≡ length (store_of new.core.terms.origin new.core.history).commits → IsBackAt settled old new
back-at {O} {R} settled old new stood none behind first size =
    let before : ℕ = length (store_of settled.terms.origin settled.history).commits in
    let no_more : behind.pending ≡ [] = none-came settled.terms settled.history behind.pending (subst (CameFrom settled.terms settled.history behind.pending) none behind.came) in
    let core : new.core ≡ settled = behind.whole ∙ ap (λ (l : List (Move O R)). let c : CoreView (Move O R) = record { history = settled.history ++ l; terms = settled.terms } in c) no_more
    ∙ ap (λ (l : List (Move O R)). let c : CoreView (Move O R) = record { history = l; terms = settled.terms } in c) (append-nil settled.history) in
    let counted : length (store_of new.core.terms.origin new.core.history).commits ≡ before = ap (λ (c : CoreView (Move O R)). length (store_of c.terms.origin c.history).commits) core in
    let whole : length new.addresses ≤ before = omega (arith, size, counted) in
    let addresses : new.addresses ≡ take before old.addresses = sym (take_all before new.addresses whole) ∙ first in
    ap (λ (c : CoreView (Move O R)). let v : VersionsView (Move O R) = record { core = c; addresses = new.addresses } in v) core
    ∙ ap (λ (a : List (List ℕ)). let v : VersionsView (Move O R) = record { core = settled; addresses = a } in v) addresses
