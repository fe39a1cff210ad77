-- What an engine stands for, step by step.
use Rattle.std.proofs.Common.{◌≡◌, ℕ, ◌<◌, Bool, true, false, cond, List, [], ◌∷◌, ◌++◌, length, refl, ap, sym, subst, ◌∙◌, append_assoc, append-nil, Some}
use Rattle.std.specs.Prelude.{Option, bytes_eq, Result, Ok, Err, OnOk, OnErr}
use Rattle.mrdt_model.specs.declared.errors.Memory.{Memory}
use Rattle.std.specs.Option.{option_map}
use Rattle.std.specs.Ordering.{nat_cmp, is_eq}
use Rattle.std.specs.Cmp.Lexicographic.{slice_cmp}
use Rattle.std.proofs.lemmas.Map.Text.{is_eq-slice_cmp}
use mathlib.Core.List.{IsPrefix}
use Rattle.branch_disk.specs.Disk.{Files}
use Rattle.branch_names.specs.declared.terms.Terms.{Terms}
use Rattle.branch_history.specs.History.{store_of}
use Rattle.branch_history.specs.Steps as machine
use Rattle.branch_history.specs.Machine.{answers}
use Rattle.branch_history.proofs.Heads.{same_branch}
use Rattle.branch_machine.specs.Machine.{full_turn}
use Rattle.branch_files.specs.Laws.{ReadsWhatStands}
use Rattle.branch_machine.specs.Validity.{IsFullyValid}
use Rattle.store_core.specs.Images.{AllStand}
use Rattle.branch_engine.proofs.Values.{Values, fixed_of}
use Rattle.branch_engine.specs.Sessions.{Sight}
use Rattle.branch_engine.specs.Play.{History, Play}
use Rattle.branch_engine.specs.Readings.{ReadAs}
use Rattle.branch_engine.specs.Engines.{Store, Core, Seen, EngineView, session_named, sight_of, AreLooksAt, Puts, KeepsLooks, IsAt}

pub prefix-self : {A : Type 0} (xs : List A) → IsPrefix xs xs
prefix-self xs = ([], append-nil xs)

pub prefix-more : {A : Type 0} (xs ys added : List A) → IsPrefix xs ys → IsPrefix xs (ys ++ added)
prefix-more xs ys added p = (p.0 ++ added, sym (append_assoc xs p.0 added) ∙ ap (λ w. w ++ added) p.1)

-- a branch that is there stays
pub branch-stays : {O R : Type 0} (first : ℕ) (old new : History O R) (r : ℕ) → IsPrefix old new → r < length (store_of first old).branches → r < length (store_of first new).branches
branch-stays first old new r p there = subst (λ h. r < length (store_of first h).branches) p.1 (same_branch first old p.0 r there).there

-- looks stay at beginnings of a history that grows
pub looks-grow : {O R : Type 0} (old new : Core O R) (sessions : List (List ℕ × Seen O R)) (made : History O R) → AreLooksAt old sessions → new.terms ≡ old.terms → new.history ≡ old.history ++ made → AreLooksAt new sessions
looks-grow old new sessions made looks terms grown name seen found =
    let l = looks name seen found in
    (subst (IsPrefix seen.history) (sym grown) (prefix-more seen.history old.history made l.0), l.1 ∙ sym terms)

-- one look more
put_step : {O R : Type 0} (core : Core O R) (t : Bool) (seen s : Seen O R) (old : Option (Seen O R)) → IsPrefix seen.history core.history × (seen.terms ≡ core.terms)
    → (old ≡ Some s → IsPrefix s.history core.history × (s.terms ≡ core.terms)) → cond t (Some seen) old ≡ Some s → IsPrefix s.history core.history × (s.terms ≡ core.terms)
put_step core true seen s old here rest is = let same : seen ≡ s = cc in subst (λ k. IsPrefix k.history core.history × (k.terms ≡ core.terms)) same here
put_step core false seen s old here rest is = rest is

pub looks-put : {O R : Type 0} (core : Core O R) (old new : List (List ℕ × Seen O R)) (session : List ℕ) (seen : Seen O R) → AreLooksAt core old → Puts old new session seen
    → IsPrefix seen.history core.history → seen.terms ≡ core.terms → AreLooksAt core new
looks-put core old new session seen looks puts at terms name s found =
    put_step core (is_eq (slice_cmp nat_cmp session name)) seen s (session_named old name) (at, terms) (looks name s) (sym (puts name) ∙ found)

-- a look was put or, for want of memory, nothing
pub looks-set : {O R : Type 0} (core : Core O R) (old new : List (List ℕ × Seen O R)) (session : List ℕ) (seen : Seen O R) (result : Result (Unit {0}) Memory) → AreLooksAt core old
    → OnOk result (Puts old new session seen) → OnErr result (KeepsLooks old new)
    → IsPrefix seen.history core.history → seen.terms ≡ core.terms → AreLooksAt core new
looks-set core old new session seen (Ok done) looks puts kept at terms = looks-put core old new session seen looks puts at terms
looks-set core old new session seen (Err memory) looks puts kept at terms = λ name s found. looks name s (sym (kept name) ∙ found)

abbrev sees : {A R : Type 0} → ℕ → ℕ → machine.Outcome A R
sees a b = machine.Sees a b

abbrev refused : {A R : Type 0} → machine.Refusal → machine.Outcome A R
refused refusal = machine.Refused refusal

-- a look gives one branch and one head
pub same-look : {O R A : Type 0} (a b c d : ℕ) → answers {O = O} {R = R} {A = A} (machine.Sees a b) ≡ answers (machine.Sees c d) → (a ≡ c) × (b ≡ d)
same-look {O} {R} {A} a b c d is = let o : sees {A = A} {R = R} a b ≡ sees c d = ap (λ (t : machine.Turn O R A). t.outcome) is in (cc, cc)

pub never-refused : {O R A : Type 0} (a b : ℕ) (refusal : machine.Refusal) → answers {O = O} {R = R} {A = A} (machine.Sees a b) ≡ answers (machine.Refused refusal) → ⊥
never-refused {O} {R} {A} a b refusal is = let o : sees {A = A} {R = R} a b ≡ refused refusal = ap (λ (t : machine.Turn O R A). t.outcome) is in cc

map_step : {O R : Type 0} (t : Bool) (seen : Seen O R) (old : Option (Seen O R)) → option_map sight_of (cond t (Some seen) old) ≡ cond t (Some (sight_of seen)) (option_map sight_of old)
map_step true seen old = refl
map_step false seen old = refl

module _ {S O R Q A D : Type 0} (may_leave : D → Files → Type 0) (values : Values S O R Q A) where
  -- each image reads as the store's history
  abbrev pub IsWhole : Store O R D → Type 0
  IsWhole store = (c : Files) → may_leave store.disk c → ReadAs (fixed_of values store.terms) store.history c

  pub whole-so : ReadsWhatStands values.meaning → (store : Store O R D) → IsFullyValid (fixed_of values store.terms) store.history
      → AllStand (fixed_of values store.terms) store.history (may_leave store.disk) → IsWhole store
  whole-so law store valid stand c image = law store.terms values.address store.history c valid (stand c image)

  module _ (terms : Terms) (old : EngineView O R D) (p : Play O R) (at : IsAt may_leave (fixed_of values terms) old p) where
    -- the machine's turn, over the play
    pub turn-at : (step : machine.Step O Q) (t : machine.Turn O R A) → full_turn (fixed_of values old.core.terms) old.core.history step ≡ t → full_turn (fixed_of values terms) p.moves step ≡ t
    turn-at step t is =
        ap (λ (m : History O R). full_turn (fixed_of values terms) m step) (sym at.history)
        ∙ ap (λ (l : Terms). full_turn (fixed_of values l) old.core.history step) (sym at.terms_are) ∙ is

    -- after a move of the core
    pub at-more : (new : EngineView O R D) (made : History O R) → new.core.terms ≡ old.core.terms → new.core.history ≡ old.core.history ++ made → KeepsLooks old.sessions new.sessions → IsWhole new.core
        → IsAt may_leave (fixed_of values terms) new (record { moves = p.moves ++ made; sessions = p.sessions })
    at-more new made same grown kept whole =
        let under : new.core.terms ≡ terms = same ∙ at.terms_are in
        let now : new.core.history ≡ p.moves ++ made = grown ∙ ap (λ (h : History O R). h ++ made) at.history in
        record {
          terms_are = under;
          history = now;
          sights = λ name. ap (option_map sight_of) (kept name) ∙ at.sights name;
          images = λ c image. subst (λ (h : History O R). ReadAs (fixed_of values terms) h c) now (subst (λ (l : Terms). ReadAs (fixed_of values l) new.core.history c) under (whole c image));
        }

    -- with no move
    pub at-still : IsAt may_leave (fixed_of values terms) old (record { moves = p.moves ++ []; sessions = p.sessions })
    at-still = subst (λ (h : History O R). IsAt may_leave (fixed_of values terms) old (record { moves = h; sessions = p.sessions })) (sym (append-nil p.moves)) at

    -- a session came to see a look
    pub at-put : (new : EngineView O R D) (session : List ℕ) (seen : Seen O R) (sight : Sight) → new.core ≡ old.core → Puts old.sessions new.sessions session seen → sight_of seen ≡ sight
        → IsAt may_leave (fixed_of values terms) new (record { moves = p.moves; sessions = (record { name = session; sight = sight }) ∷ p.sessions })
    at-put new session seen sight core puts same = record {
      terms_are = ap (λ (k : Store O R D). k.terms) core ∙ at.terms_are;
      history = ap (λ (k : Store O R D). k.history) core ∙ at.history;
      sights = λ name.
          ap (option_map sight_of) (puts name) ∙ map_step (is_eq (slice_cmp nat_cmp session name)) seen (session_named old.sessions name)
          ∙ ap (λ t. cond t (Some (sight_of seen)) (option_map sight_of (session_named old.sessions name))) (is_eq-slice_cmp session name)
          ∙ ap (λ s. cond (bytes_eq session name) (Some s) (option_map sight_of (session_named old.sessions name))) same
          ∙ ap (cond (bytes_eq session name) (Some sight)) (at.sights name);
      images = λ c image. at.images c (subst (λ (k : Store O R D). may_leave k.disk c) core image);
    }

    -- each session sees what it saw
    pub at-kept : (new : EngineView O R D) → new.core ≡ old.core → KeepsLooks old.sessions new.sessions → IsAt may_leave (fixed_of values terms) new p
    at-kept new core kept = record {
      terms_are = ap (λ (k : Store O R D). k.terms) core ∙ at.terms_are;
      history = ap (λ (k : Store O R D). k.history) core ∙ at.history;
      sights = λ name. ap (option_map sight_of) (kept name) ∙ at.sights name;
      images = λ c image. at.images c (subst (λ (k : Store O R D). may_leave k.disk c) core image);
    }
