-- What staging a work's objects answers.
use Rattle.std.proofs.Common.{◌≡◌, ℕ, ◌+◌, ◌<◌, List, [], ◌∷◌, ◌++◌, length, map, refl, ap, sym, ◌∙◌, arith, Some, None, All, get_or, slice_get, append_assoc, subst, Bor, Option}
use Rattle.std.proofs.lemmas.List.{length-map}
use Rattle.std.proofs.lemmas.Option.{slice_get-get_or}
use Rattle.std.specs.List.{AllByRecursion}
use mathlib.Core.List.{IsPrefix}
use Rattle.mrdt_model.specs.Laws.{Meaning, KeepsLaws}
use Rattle.branch_graph.proofs.Ranked.{AllByRecursion-from_All, All-from_AllByRecursion}
use Rattle.branch_names.specs.declared.terms.Terms.{Terms}
use Rattle.branch_names.specs.Heads.{head_of}
use Rattle.branch_wire.specs.declared.action.Action.{Action}
use Rattle.branch_wire.specs.declared.action.Action.TheVariants as wire
use Rattle.branch_wire.specs.StoredObjects.{Stored, collision, fresh}
use Rattle.branch_history.specs.declared.moves.Move.{Move}
use Rattle.branch_history.specs.Commits.{Commit}
use Rattle.branch_history.specs.History.{Store, store_of, operation_commit, merge_commit}
use Rattle.branch_history.specs.Machine.{answers, turn}
use Rattle.branch_history.specs.Steps as machine
use Rattle.branch_history.proofs.Lists.{AllByRecursion-more}
use Rattle.branch_history.proofs.Valid.{store_of-more}
use Rattle.branch_machine.specs.Fixed.{Fixed, fix}
use Rattle.branch_machine.specs.Objects.{Pair, both, address_at, store_after, pairs_of, objects_of, end_of}
use Rattle.branch_machine.specs.Validity.{IsFullyValid}
use Rattle.branch_machine.proofs.Pairs.{length-pairs_of}
use Rattle.object_store.specs.declared.errors.StageRefused.{StageRefused}
use Rattle.object_store.specs.declared.errors.StageRefused.TheVariants as staging
use Rattle.object_store.specs.Commits.{commit_fields, pair_with}
use Rattle.object_store.specs.Refusals.{RefusesToStage}
use Rattle.object_store.specs.Views.{ObjectsView}
use Rattle.store_seen.specs.declared.answers.LandRefused as seen
use Rattle.store_seen.specs.declared.answers.LandRefused.TheVariants as seen_refusal
use Rattle.store_seen.specs.declared.prepared.Written.TheVariants as written
use Rattle.store_seen.specs.Keeps.{IsSeen, bytes_at}
use Rattle.store_seen.specs.Turns.{step_of, move_of, addresses_after}
use Rattle.store_seen.specs.Turns as turns
use Rattle.store_seen.specs.Views.{SeenView, PreparedView, Work, Operation, Merge, Join, Forward}
use Rattle.store_seen.specs.Written.{IsWrittenWork}
use Rattle.recorded_history.specs.Keeps.{IsStaged}
use Rattle.recorded_history.specs.Machine.{FullyRefuses, addresses_of}
use Rattle.recorded_history.specs.Refusals.{LandRefusedAs, stage_refused, land_refused}
use Rattle.recorded_history.proofs.Steps.{address-found, refusal_for, full-collides, full-refuses, work-plain, none-free, none-objects, none-addresses, new_pair, one-refused, one-stored, one-addresses, one-address, record-is}
use Rattle.recorded_history.proofs.Heads.{may-head}
use Rattle.recorded_history.proofs.Commits.{operation-one, operation-pair, merge-one, merge-pair, join-one, join-pair, commit-there}

-- a work's move makes a commit, and these are its objects
pub record MakesPair {S O R Q A : Type 0} (fixed : Fixed S O R Q A) (history : List (Move O R)) (work : Work O R) (made : Move O R) (objects : Pair) : Type 0 where
  pub new : Commit O R
  pub one : (store_after fixed (history ++ made ∷ [])).commits ≡ (store_after fixed history).commits ++ new ∷ []
  pub pair : objects ≡ new_pair fixed history made new one
  pub after : (a : List ℕ) (l : List (List ℕ)) → addresses_after work a l ≡ l ++ a ∷ []

module _ {S O R Q A : Type 0} (fixed : Fixed S O R Q A) (history : List (Move O R)) (stored : Stored) (stored_is : stored ≡ objects_of fixed history) where
  module _ (work : Work O R) (made : Move O R) (own : Pair) (makes : MakesPair fixed history work made own) where
    collides : collision fixed.address stored (both own) ≡ collision fixed.address (objects_of fixed history) (both (new_pair fixed history made makes.new makes.one))
    collides = ap (λ (s : Stored). collision fixed.address s (both own)) stored_is ∙ ap (λ (p : Pair). collision fixed.address (objects_of fixed history) (both p)) makes.pair

    -- the objects are staged
    pub staged-one : (old objects : ObjectsView) (a : List ℕ) → old.stored ++ old.staged ≡ stored → collision fixed.address stored (both own) ≡ None → objects.stored ≡ old.stored → objects.staged ≡ old.staged ++ fresh stored (both own) → a ≡ fixed.address own.commit
        → IsStaged fixed history work made old objects a
    staged-one old objects a all none same added address_is =
        let p = new_pair fixed history made makes.new makes.one in
        let address_own : a ≡ fixed.address p.commit = address_is ∙ ap (λ (q : Pair). fixed.address q.commit) makes.pair in
        let new : fresh stored (both own) ≡ fresh (objects_of fixed history) (both p) = ap (λ (s : Stored). fresh s (both own)) stored_is ∙ ap (λ (q : Pair). fresh (objects_of fixed history) (both q)) makes.pair in
        record {
          free = one-refused fixed history made makes.new makes.one ∙ ap (refusal_for fixed.address) (sym collides ∙ none);
          stored = same;
          staged = ap (λ (s : Stored). s ++ objects.staged) same ∙ ap (λ (s : Stored). old.stored ++ s) added ∙ sym (append_assoc old.stored old.staged (fresh stored (both own)))
              ∙ ap (λ (s : Stored). s ++ fresh stored (both own)) (all ∙ stored_is) ∙ ap (λ (s : Stored). objects_of fixed history ++ s) new ∙ sym (one-stored fixed history made makes.new makes.one);
          addressed = makes.after a (addresses_of fixed history) ∙ ap (λ (b : List ℕ). addresses_of fixed history ++ b ∷ []) address_own ∙ sym (one-addresses fixed history made makes.new makes.one);
          recorded = record-is fixed history made a (end_of fixed (history ++ made ∷ [])) (one-address fixed history made makes.new makes.one ∙ sym address_own) refl;
        }

    -- or refused, as the machine refuses the move
    pub staged-refused : (seen : SeenView (Move O R)) → (turn fixed.meaning fixed.terms history (step_of seen work)).made ≡ made ∷ [] → (refused : StageRefused) → RefusesToStage fixed.address stored (both own) refused
        → LandRefusedAs fixed (record { seen = seen; work = work }) history (stage_refused refused)
    staged-refused seen may (staging.Collision a y x) is =
        full-collides fixed history (step_of seen work) (work-plain fixed history seen work) made (machine.Collision a y x) may
        (one-refused fixed history made makes.new makes.one ∙ ap (refusal_for fixed.address) (sym collides ∙ is.0) ∙ ap (λ (b : List ℕ). Some (machine.Collision b y x)) (sym is.1))
    staged-refused seen may staging.Memory is = tt

-- a move up stages nothing
pub staged-none : {S O R Q A : Type 0} (fixed : Fixed S O R Q A) (history : List (Move O R)) (branch : ℕ) (work : Work O R) (seen : SeenView (Move O R)) (other : ℕ) → IsWrittenWork fixed.meaning seen work (written.Forward other)
    → (objects : ObjectsView) (a : List ℕ) → objects.stored ++ objects.staged ≡ objects_of fixed history → IsStaged fixed history work (move_of branch work) objects objects a
staged-none fixed history branch (Operation op reply) seen other is objects a whole = absurd is
staged-none fixed history branch (Merge commit) seen other is objects a whole = absurd is
staged-none fixed history branch (Join commits) seen other is objects a whole = absurd is
staged-none {S} {O} {R} fixed history branch (Forward commit) seen other is objects a whole =
    let work : Work O R = Forward commit in
    let made : Move O R = move_of branch work in
    let same = ap (λ (s : Store O R). s.commits) (store_of-more fixed.terms.origin history made) in
    record {
      free = none-free fixed history made same;
      stored = refl;
      staged = whole ∙ sym (none-objects fixed history made same);
      addressed = sym (none-addresses fixed history made same);
      recorded = refl;
    }

-- the commit that is merged is one of the look's
pub other-there : {S O R Q A : Type 0} (meaning : Meaning S O R Q A) (seen : SeenView (Move O R)) (work : Work O R) (other clock size : ℕ) (value : Option (Bor (List ℕ))) → IsWrittenWork meaning seen work (written.Merge other clock size value) → other < length (store_of seen.terms.origin seen.history).commits
other-there meaning seen (Operation op reply) other clock size value is = absurd is
other-there meaning seen (Merge commit) other clock size value is = subst (λ (n : ℕ). n < length (store_of seen.terms.origin seen.history).commits) (sym is.other_is) is.there
other-there meaning seen (Join commits) other clock size value is = absurd is
other-there meaning seen (Forward commit) other clock size value is = absurd is

-- the commits that are joined are of a longer history
pub others-there : {S O R Q A : Type 0} (meaning : Meaning S O R Q A) (seen : SeenView (Move O R)) (work : Work O R) (others : Bor (List ℕ)) (clock size : ℕ) (value : Option (Bor (List ℕ))) → IsWrittenWork meaning seen work (written.Join others clock size value)
    → (count : ℕ) → ((n : ℕ) → n < length (store_of seen.terms.origin seen.history).commits → n < count) → All (λ n. n < count) others.now
others-there meaning seen (Operation op reply) others clock size value is count more = absurd is
others-there meaning seen (Merge commit) others clock size value is count more = absurd is
others-there meaning seen (Join commits) others clock size value is count more =
    let before : ℕ = length (store_of seen.terms.origin seen.history).commits in
    let stand = AllByRecursion-from_All (λ n. n < before) commits is.there in
    subst (λ (ns : List ℕ). All (λ n. n < count) ns) (sym is.others_are) (All-from_AllByRecursion (λ n. n < count) commits (AllByRecursion-more (λ n. n < before) (λ n. n < count) commits more stand))
others-there meaning seen (Forward commit) others clock size value is count more = absurd is

work-refuses : {S O R Q A : Type 0} (fixed : Fixed S O R Q A) (prepared : PreparedView O R) (history : List (Move O R)) (refusal : machine.Refusal) → turn fixed.meaning fixed.terms history (step_of prepared.seen prepared.work) ≡ answers (machine.Refused refusal)
    → FullyRefuses fixed history (step_of prepared.seen prepared.work) refusal
work-refuses fixed prepared history refusal is = full-refuses fixed history (step_of prepared.seen prepared.work) (work-plain fixed history prepared.seen prepared.work) refusal is

-- what the half in memory refuses, the machine that keeps objects refuses
pub seen-refused : {S O R Q A : Type 0} (fixed : Fixed S O R Q A) (prepared : PreparedView O R) (history : List (Move O R)) (refused : seen.LandRefused) → turns.LandRefusedAs fixed.meaning prepared (record { history = history; terms = fixed.terms }) refused
    → LandRefusedAs fixed prepared history (land_refused refused)
seen-refused fixed prepared history (seen_refusal.Dropped branch) is = work-refuses fixed prepared history (machine.Dropped branch) is
seen-refused fixed prepared history (seen_refusal.Stale newest) is = (work-refuses fixed prepared history (machine.Stale newest) is.0, is.1)
seen-refused fixed prepared history (seen_refusal.FullCommits count) is = work-refuses fixed prepared history (machine.FullCommits count) is
seen-refused fixed prepared history (seen_refusal.FullMoves count) is = work-refuses fixed prepared history (machine.FullMoves count) is
seen-refused fixed prepared history seen_refusal.Memory is = tt

module _ {S O R Q A : Type 0} (meaning : Meaning S O R Q A) (laws : KeepsLaws meaning) (terms : Terms) (address : List ℕ → List ℕ) (history : List (Move O R)) (valid : IsFullyValid (fix meaning terms address) history) (seen : SeenView (Move O R)) (is : IsSeen meaning seen) (prefix : IsPrefix seen.history history) (under : seen.terms ≡ terms) where
  abbrev fixed : Fixed S O R Q A
  fixed = fix meaning terms address

  module _ (addresses : List (List ℕ)) (addressed : addresses ≡ addresses_of (fix meaning terms address) history) where
    found : (n : ℕ) (a : List ℕ) → slice_get addresses n ≡ Some a → a ≡ address_at address (pairs_of fixed (store_of terms.origin history).commits) n
    found n a at = sym (address-found address (pairs_of fixed (store_of terms.origin history).commits) n a (ap (λ (l : List (List ℕ)). slice_get l n) (sym addressed) ∙ at))

    counted : length addresses ≡ length (store_of terms.origin history).commits
    counted = ap length addressed ∙ length-map (pairs_of fixed (store_of terms.origin history).commits) (λ p. fixed.address p.commit) ∙ length-pairs_of fixed (store_of terms.origin history).commits

    all-found : (ns : List ℕ) → AllByRecursion (λ n. n < length (store_of terms.origin history).commits) ns → map (λ n. get_or addresses n []) ns ≡ map (address_at address (pairs_of fixed (store_of terms.origin history).commits)) ns
    all-found [] stand = refl
    all-found (n ∷ ns) stand =
        let within : n < length addresses = let size = counted in let lt = stand.0 in omega (arith, size, lt) in
        let first = found n (get_or addresses n []) (slice_get-get_or addresses n [] within) in
        ap (λ (x : List ℕ). x ∷ map (λ k. get_or addresses k []) ns) first ∙ ap (λ (l : List (List ℕ)). address_at address (pairs_of fixed (store_of terms.origin history).commits) n ∷ l) (all-found ns stand.1)

    pub operation-makes_pair : (work : Work O R) → (turn meaning terms history (step_of seen work)).made ≡ move_of seen.branch work ∷ [] → (clock size : ℕ) (value : Option (Bor (List ℕ))) (op_bytes reply_bytes : Bor (List ℕ)) → IsWrittenWork meaning seen work (written.Operation clock size value op_bytes reply_bytes)
        → (parents : List (List ℕ)) (branch : ℕ) (action : Action) (a : List ℕ) → slice_get addresses seen.head ≡ Some a → parents ≡ a ∷ [] → branch ≡ terms.origin + seen.branch → action ≡ wire.Operation op_bytes.now reply_bytes.now
        → MakesPair fixed history work (move_of seen.branch work) (pair_with (bytes_at value) (commit_fields address (bytes_at value) parents branch clock action))
    operation-makes_pair (Operation op reply) may clock size value op_bytes reply_bytes w parents branch action a at parents_are on does =
        let newest = may-head meaning terms history seen (Operation op reply) may in
        record {
          new = operation_commit (store_of terms.origin history).commits (terms.origin + seen.branch) (head_of (store_of terms.origin history).branches seen.branch) op reply;
          one = operation-one meaning laws terms address history valid seen is prefix under newest op reply;
          pair = operation-pair meaning laws terms address history valid seen is prefix under newest op reply clock size (bytes_at value) op_bytes.now reply_bytes.now w parents branch action (parents_are ∙ ap (λ (b : List ℕ). b ∷ []) (found seen.head a at)) on does;
          after = λ b l. refl;
        }
    operation-makes_pair (Merge commit) may clock size value op_bytes reply_bytes w parents branch action a at parents_are on does = absurd w
    operation-makes_pair (Join commits) may clock size value op_bytes reply_bytes w parents branch action a at parents_are on does = absurd w
    operation-makes_pair (Forward commit) may clock size value op_bytes reply_bytes w parents branch action a at parents_are on does = absurd w

    pub merge-makes_pair : (work : Work O R) → (turn meaning terms history (step_of seen work)).made ≡ move_of seen.branch work ∷ [] → (other clock size : ℕ) (value : Option (Bor (List ℕ))) → IsWrittenWork meaning seen work (written.Merge other clock size value)
        → (parents : List (List ℕ)) (branch : ℕ) (a b : List ℕ) → slice_get addresses seen.head ≡ Some a → slice_get addresses other ≡ Some b → parents ≡ a ∷ b ∷ [] → branch ≡ terms.origin + seen.branch
        → MakesPair fixed history work (move_of seen.branch work) (pair_with (bytes_at value) (commit_fields address (bytes_at value) parents branch clock wire.Merge))
    merge-makes_pair (Operation op reply) may other clock size value w parents branch a b at behind parents_are on = absurd w
    merge-makes_pair (Merge commit) may other clock size value w parents branch a b at behind parents_are on =
        let newest = may-head meaning terms history seen (Merge commit) may in
        let second : b ≡ address_at address (pairs_of fixed (store_of terms.origin history).commits) commit = found other b behind ∙ ap (address_at address (pairs_of fixed (store_of terms.origin history).commits)) w.other_is in
        record {
          new = merge_commit (store_of terms.origin history).commits (terms.origin + seen.branch) (head_of (store_of terms.origin history).branches seen.branch ∷ commit ∷ []);
          one = merge-one meaning laws terms address history valid seen is prefix under newest commit;
          pair = merge-pair meaning laws terms address history valid seen is prefix under newest commit other clock size (bytes_at value) w parents branch (parents_are ∙ ap (λ (x : List ℕ). x ∷ b ∷ []) (found seen.head a at) ∙ ap (λ (x : List ℕ). address_at address (pairs_of fixed (store_of terms.origin history).commits) seen.head ∷ x ∷ []) second) on;
          after = λ x l. refl;
        }
    merge-makes_pair (Join commits) may other clock size value w parents branch a b at behind parents_are on = absurd w
    merge-makes_pair (Forward commit) may other clock size value w parents branch a b at behind parents_are on = absurd w

    pub join-makes_pair : (work : Work O R) → (turn meaning terms history (step_of seen work)).made ≡ move_of seen.branch work ∷ [] → (others : Bor (List ℕ)) (clock size : ℕ) (value : Option (Bor (List ℕ))) → IsWrittenWork meaning seen work (written.Join others clock size value)
        → (parents : List (List ℕ)) (branch : ℕ) → parents ≡ map (λ n. get_or addresses n []) (seen.head ∷ others.now) → branch ≡ terms.origin + seen.branch
        → MakesPair fixed history work (move_of seen.branch work) (pair_with (bytes_at value) (commit_fields address (bytes_at value) parents branch clock wire.Merge))
    join-makes_pair (Operation op reply) may others clock size value w parents branch parents_are on = absurd w
    join-makes_pair (Merge commit) may others clock size value w parents branch parents_are on = absurd w
    join-makes_pair (Join commits) may others clock size value w parents branch parents_are on =
        let newest = may-head meaning terms history seen (Join commits) may in
        let stand : AllByRecursion (λ n. n < length (store_of terms.origin history).commits) (seen.head ∷ commits) =
        AllByRecursion-more (λ n. n < length (store_of seen.terms.origin seen.history).commits) (λ n. n < length (store_of terms.origin history).commits) (seen.head ∷ commits) (commit-there meaning laws terms address history valid seen is prefix under)
        (is.head, AllByRecursion-from_All (λ n. n < length (store_of seen.terms.origin seen.history).commits) commits w.there) in
        record {
          new = merge_commit (store_of terms.origin history).commits (terms.origin + seen.branch) (head_of (store_of terms.origin history).branches seen.branch ∷ commits);
          one = join-one meaning laws terms address history valid seen is prefix under newest commits;
          pair = join-pair meaning laws terms address history valid seen is prefix under newest commits others.now clock size (bytes_at value) w parents branch (parents_are ∙ ap (λ (ns : List ℕ). map (λ n. get_or addresses n []) (seen.head ∷ ns)) w.others_are ∙ all-found (seen.head ∷ commits) stand) on;
          after = λ x l. refl;
        }
    join-makes_pair (Forward commit) may others clock size value w parents branch parents_are on = absurd w
