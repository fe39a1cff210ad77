-- What was made anew in the form that is written today, as it is in the form of another version.
use Rattle.std.proofs.Common.{◌≡◌, ℕ, ◌-◌, ◌<◌, ◌≤◌, Bool, true, false, cond, ◌==◌, List, length, take, drop, Option, refl, sym, ◌∙◌, ap, arith, subst}
use Rattle.std.specs.List.{AllByRecursion}
use Rattle.std.proofs.lemmas.Bool.{eqb-true}
use Rattle.std.proofs.lemmas.List.{length-drop}
use Rattle.mrdt_model.specs.Laws.{Meaning}
use Rattle.branch_names.specs.declared.terms.Terms.{Terms}
use Rattle.branch_disk.specs.declared.part.Part.TheVariants.{Objects}
use Rattle.branch_history.specs.declared.moves.Move.{Move}
use Rattle.branch_history.proofs.Lists.{AllByRecursion-more}
use Rattle.heads_journal.specs.declared.record.Record.{Record}
use Rattle.heads_journal.specs.Format.{fields_of, IsRecord}
use Rattle.branch_machine.specs.Fixed.{FixedIn, Fixed, present, fix_in, fix}
use Rattle.branch_machine.specs.Objects.{end_of}
use Rattle.branch_files.specs.Records.{last_in, records_of, IsKnownIn, IsKnown, AreKnown}
use Rattle.branch_files.specs.Next.{end_at, MakesCommit, AreFewIn, bytes_behind, HasShape, IsMade}
use Rattle.branch_wire.specs.Objects.{CommitFields}
use Rattle.branch_history.specs.History.{store_of}
use Rattle.commit_replay.specs.declared.commit.NotRemade.{NotRemade}
use Rattle.commit_replay.specs.declared.commit.NotRemade.TheVariants as unmade
use Rattle.commit_replay.specs.declared.refused.ReplayRefused.TheVariants.{Truncated, BadObject, BadCommit}
use Rattle.commit_replay.specs.Follows.{form_of, MayCome}
use Rattle.commit_replay.specs.Parts.{AreParts}
use Rattle.commit_replay.specs.Refusals.{ComesWhole, StopsAheadAs}
use Rattle.commit_replay.specs.Walk.{NotRemadeAs}
use Rattle.commit_replay.proofs.Forms.{end-same, records-same, suits-same, does-same, shape-later, made-same}
use Rattle.commit_replay.proofs.Parted.{shape-parts, parts-shape, parts-same}
use Rattle.commit_replay.proofs.Steps.{some-bytes}

last-few : (version : ℕ) → last_in version ≤ 8
last-few version = at (version == 1)
  where
    at : (old : Bool) → cond old 4 8 ≤ 8
    at true = omega arith
    at false = omega arith

-- a record that is known today, and is one of the version, is known in it; and what is known in the version is known today
pub known-in : (version : ℕ) (r : Record) → IsRecord version r → IsKnown r → IsKnownIn version r
known-in version r is known = record { within = at (version == 1) (eqb-true version 1) }
  where
    at : (old : Bool) → (old ≡ true → version ≡ 1) → (fields_of r).kind ≤ cond old 4 8
    at true one = is.1 (one refl)
    at false one = known.within

pub known-out : (version : ℕ) (r : Record) → IsKnownIn version r → IsKnown r
known-out version r known = record { within = let most = last-few version in let few = known.within in omega (arith, most, few) }

module _ {S O R Q A : Type 0} (m : Meaning S O R Q A) (terms : Terms) (address : List ℕ → List ℕ) (version : ℕ) where
  abbrev today : Fixed S O R Q A
  today = fix m terms address

  abbrev own : FixedIn (form_of version) S O R Q A
  own = fix_in (form_of version) m terms address

  pub known-today : (moves : List (Move O R)) → AreKnown own moves → AreKnown today moves
  known-today moves known =
      subst (AllByRecursion IsKnown) (records-same m terms address (form_of version) present moves)
      (AllByRecursion-more (IsKnownIn version) IsKnown (records_of own moves) (known-out version) known)

  may-own : (moves : List (Move O R)) (r : Record) → IsRecord version r → MayCome today moves r → MayCome own moves r
  may-own moves r is may = record { room = may.room; known = known-in version r is may.known; suits = suits-same m terms address present (form_of version) moves r may.suits }

  may-today : (moves : List (Move O R)) (r : Record) → MayCome own moves r → MayCome today moves r
  may-today moves r may = record { room = may.room; known = known-out version r may.known; suits = suits-same m terms address (form_of version) present moves r may.suits }

  shape-today : (r : Record) (bytes : List ℕ) → HasShape own r bytes → HasShape today r bytes
  shape-today = shape-later m terms address (form_of version) present (λ one. absurd (omega (arith, one)))

  -- why a commit was not remade, whose parents are few enough for the version
  module _ (moves : List (Move O R)) (r : Record) (bytes : List ℕ) (value : Option (List ℕ)) (c : CommitFields) (are : AreParts terms.layout bytes value c) (few : AreFewIn version c.parents) where
    shape-own : HasShape today r bytes → HasShape own r bytes
    shape-own shape =
        let s = shape-parts today r bytes shape in
        parts-shape own r bytes s.value s.commit s.are s.inside (does-same m terms address present (form_of version) r s.commit.action s.does)
        (subst (λ (d : CommitFields). AreFewIn version d.parents) (sym (parts-same terms.layout bytes s.value value s.commit c s.are are).1) few)

    pub not-own : (why : NotRemade) → NotRemadeAs today moves r bytes why → NotRemadeAs own moves r bytes why
    not-own unmade.Object none = λ shape. none (shape-today r bytes shape)
    not-own unmade.Commit (shape, none) = (shape-own shape, λ made. none (made-same m terms address (form_of version) present moves r bytes made))
    not-own unmade.Memory is = tt

  -- a record that may not come today may not come in the version, and so on
  pub bad-own : (moves : List (Move O R)) (r : Record) → (MayCome today moves r → ⊥) → MayCome own moves r → ⊥
  bad-own moves r none may = none (may-today moves r may)

  module _ (moves : List (Move O R)) (ahead : List ℕ) (r : Record) (is : IsRecord version r) (may : MayCome today moves r) (place : ℕ) (at : place ≡ end_of today moves) where
    at-own : place ≡ end_of own moves
    at-own = at ∙ end-same m terms address present (form_of version) moves

    pub cut-own : length ahead < end_at r - place → StopsAheadAs own moves ahead r (Truncated Objects place)
    cut-own less objects behind = (at-own, may-own moves r is may, omega (arith, less, at-own, ap length behind, length-drop (end_of own moves) objects))

    module _ (makes : MakesCommit r) (end : ℕ) (ends : end ≡ end_at r) (long : end - place ≤ length ahead) where
      -- the bytes up to where those of the record end
      abbrev bytes : List ℕ
      bytes = take (end - place) ahead

      module _ (objects : List ℕ) (behind : ahead ≡ drop (end_of own moves) objects) where
        whole : ComesWhole own moves objects r
        whole = record {
          may = may-own moves r is may;
          long = let more = some-bytes today moves r makes may.suits in omega (arith, ends, long, at, at-own, more, ap length behind, length-drop (end_of own moves) objects);
          makes = makes;
        }

        are : bytes ≡ bytes_behind own moves objects r
        are =
            ap (λ (n : ℕ). take (n - place) ahead) ends ∙ ap (λ (n : ℕ). take (end_at r - n) ahead) at-own
            ∙ ap (λ (l : List ℕ). take (end_at r - end_of own moves) l) behind

      pub object-own : NotRemadeAs own moves r bytes unmade.Object → StopsAheadAs own moves ahead r (BadObject place)
      object-own none objects behind = (at-own, whole objects behind, subst (λ (l : List ℕ). HasShape own r l → ⊥) (are objects behind) none)

      pub commit-own : (number : ℕ) → number ≡ length (store_of terms.origin moves).commits → NotRemadeAs own moves r bytes unmade.Commit → StopsAheadAs own moves ahead r (BadCommit number)
      commit-own number counted why objects behind =
          (counted, whole objects behind, subst (HasShape own r) (are objects behind) why.0, subst (λ (l : List ℕ). IsMade own moves r l → ⊥) (are objects behind) why.1)
