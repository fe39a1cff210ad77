-- The compact history of a valid one.
use Rattle.std.proofs.Common.{zero, suc, ◌≡◌, ℕ, ◌+◌, ◌<◌, ◌≤◌, Bool, true, false, cond, List, [], ◌∷◌, ◌++◌, length, filter, refl, ap, sym, ◌∙◌, arith, IsTrue, Option, subst, length-append, append_assoc, ⊎_elim}
use Rattle.std.specs.Prelude.{slice_get}
use Rattle.std.specs.List.{filter_map, cons_option, flat_map, concat}
use Rattle.std.proofs.lemmas.Bool.{cases_Bool, false_from_ne_true, both_ways}
use Rattle.mrdt_model.specs.Laws.{Meaning, KeepsLaws}
use Rattle.branch_wire.specs.StoredObjects.{header, fresh}
use Rattle.branch_graph.specs.Graph.{reaches, falling}
use Rattle.branch_history.specs.declared.moves.Move.{Move}
use Rattle.branch_names.specs.declared.terms.Terms.{Terms}
use Rattle.branch_names.specs.Heads.{head_of}
use Rattle.branch_history.specs.Commits.{Commit, graph_of, origin_of, visible}
use Rattle.branch_history.specs.History.{Store, store_of}
use Rattle.branch_history.specs.Validity.{IsValid}
use Rattle.branch_names.specs.Heads.{IsKeptBranch}
use Rattle.branch_history.proofs.Grown.{length-graph}
use Rattle.branch_history.proofs.Later.{IsLonger, commits-longer, longer-same_at}
use Rattle.branch_history.proofs.Kept.{IsKept}
use Rattle.branch_history.proofs.Histories.{valid-kept}
use Rattle.branch_machine.specs.Fixed.{Fixed}
use Rattle.branch_machine.specs.Objects.{Pair, both, value_text, commit_text, pairs_of, store_after, objects_of, objects_text}
use Rattle.branch_machine.specs.Laws.{HasSize}
use Rattle.branch_machine.specs.Validity.{IsFullMove, IsFullyValid}
use Rattle.branch_machine.proofs.Valid.{valid-before, valid-first, valid-second}
use Rattle.branch_machine.proofs.Distinct.{valid-sound}
use Rattle.branch_files.specs.Records.{history_text}
use Rattle.branch_files.proofs.Gates.{gates}
use Rattle.branch_machine.proofs.Pairs.{length-pairs_of}
use Rattle.branch_compact.specs.Compact.{is_live, new_number, stays, renumbered, at_places, kept_commits, kept_moves, compact}
use Rattle.branch_compact.specs.Laws.{HaveSameNames, HasSameHead}
use Rattle.branch_compact.proofs.Numbers.{number-zero, number-kept, number-gone, length-places, get-places}
use Rattle.branch_compact.proofs.Thinned.{IsDownward}
use Rattle.branch_compact.proofs.Moves.{kept_moves-fewer, kept_moves-stays, kept_moves-goes}
use Rattle.branch_compact.proofs.Steps.{IsFollowed, followed, visible-same, reaches-same}
use Rattle.branch_compact.proofs.Whole.{StayAlike, stay-alike, follow}
use Rattle.branch_compact.proofs.Live.{reaches-root, live-from, live-head, live-down}
use Rattle.branch_compact.proofs.Stored.{pairs-shorter}
use Rattle.branch_compact.proofs.Objects.{commit_text-kept, value_text-kept, StayFull, stay-full}

-- commit 0 is live
pub live-root : {S O R Q A : Type 0} (meaning : Meaning S O R Q A) (terms : Terms) (s : Store O R) → IsKept meaning terms s → IsTrue (is_live s 0)
live-root meaning terms s kept =
    let h : ℕ = head_of s.branches 0 in
    let heads = kept.ordered.heads 0 kept.ordered.main.0 in
    live-from s 0 0 kept.ordered.main
    (reaches-root (graph_of s.commits) kept.ordered.ranked (λ n positive lt. kept.ordered.rooted n positive (omega (arith, lt, length-graph s.commits))) h (omega (arith, heads, length-graph s.commits)))

module _ {S O R Q A : Type 0} (meaning : Meaning S O R Q A) (terms : Terms) (laws : KeepsLaws meaning) (moves : List (Move O R)) (valid : IsValid meaning terms moves) where
  abbrev s : Store O R
  s = store_of terms.origin moves

  abbrev t : Store O R
  t = store_of terms.origin (compact terms moves)

  pub kept : IsKept meaning terms s
  kept = valid-kept meaning terms laws moves valid

  pub down : IsDownward (is_live s) (graph_of s.commits)
  down = live-down s terms kept.ordered

  pub alike : StayAlike meaning terms laws (is_live s) moves
  alike = stay-alike meaning terms laws (is_live s) (live-root meaning terms s kept) moves valid down

  pub compact-valid : IsValid meaning terms (compact terms moves)
  unfolding compact
  compact-valid = alike.valid

  pub compact-followed : IsFollowed (is_live s) s t
  unfolding compact
  compact-followed = followed (follow meaning terms laws (is_live s) moves valid down alike)

  pub compact-commits : (t.commits ≡ kept_commits (is_live s) s.commits) × HaveSameNames s.branches t.branches
  compact-commits = let thin = compact-followed.thin in (thin.commits, thin.names)

pub compact-fewer : {O R : Type 0} (terms : Terms) (moves : List (Move O R)) → length (compact terms moves) ≤ length moves
unfolding compact
compact-fewer terms moves = kept_moves-fewer (is_live (store_of terms.origin moves)) moves

-- of the items of numbers that are kept
module _ {X : Type 0} (keep : ℕ → Bool) where
  step_map : (b : Bool) (item : ℕ → Option X) (n : ℕ) (ns : List ℕ) → filter_map item (cond b (n ∷ ns) ns) ≡ cond b (cons_option (item n) (filter_map item ns)) (filter_map item ns)
  step_map true item n ns = refl
  step_map false item n ns = refl

  pub picked-kept : (item other : ℕ → Option X) (test later : ℕ → Bool) (n : ℕ)
      → ((k : ℕ) → k < n → IsTrue (test k) → IsTrue (keep k)) → ((k : ℕ) → k < n → IsTrue (keep k) → other (new_number keep k) ≡ item k) → ((k : ℕ) → k < n → IsTrue (keep k) → later (new_number keep k) ≡ test k)
      → filter_map other (filter later (falling (new_number keep n))) ≡ filter_map item (filter test (falling n))
  picked-kept item other test later zero within items tests = ap (λ k. filter_map other (filter later (falling k))) (number-zero keep)
  picked-kept item other test later (suc n) within items tests =
      let r : ℕ = new_number keep n in
      let rest : filter_map other (filter later (falling r)) ≡ filter_map item (filter test (falling n)) = picked-kept item other test later n (λ k lt. within k (omega arith)) (λ k lt. items k (omega arith)) (λ k lt. tests k (omega arith)) in
      ⊎_elim
      (λ held.
      ap (λ k. filter_map other (filter later (falling k))) (number-kept keep n held)
      ∙ step_map (later r) other r (filter later (falling r))
      ∙ ap (λ b. cond b (cons_option (other r) (filter_map other (filter later (falling r)))) (filter_map other (filter later (falling r)))) (tests n (omega arith) held)
      ∙ ap (λ o. cond (test n) (cons_option o (filter_map other (filter later (falling r)))) (filter_map other (filter later (falling r)))) (items n (omega arith) held)
      ∙ ap (λ y. cond (test n) (cons_option (item n) y) y) rest
      ∙ sym (step_map (test n) item n (filter test (falling n))))
      (λ lost.
      ap (λ k. filter_map other (filter later (falling k))) (number-gone keep n lost) ∙ rest
      ∙ sym (ap (λ b. filter_map item (cond b (n ∷ filter test (falling n)) (filter test (falling n)))) (false_from_ne_true (test n) (λ is. both_ways (keep n) lost (within n (omega arith) is)))))
      (cases_Bool (keep n))

module _ {S O R Q A : Type 0} (fixed : Fixed S O R Q A) (laws : KeepsLaws fixed.meaning) (moves : List (Move O R)) (valid : IsFullyValid fixed moves) where
  abbrev before : Store O R
  before = store_after fixed moves

  abbrev after : Store O R
  after = store_after fixed (compact fixed.terms moves)

  abbrev live : ℕ → Bool
  live = is_live before

  plain : IsValid fixed.meaning fixed.terms moves
  plain = valid-before fixed moves valid

  was : IsKept fixed.meaning fixed.terms before
  was = kept fixed.meaning fixed.terms laws moves plain

  full : StayFull fixed laws live (live-root fixed.meaning fixed.terms before was) moves
  full = stay-full fixed laws live (live-root fixed.meaning fixed.terms before was) moves valid (down fixed.meaning fixed.terms laws moves plain)

  pub compact-fully_valid : IsFullyValid fixed (compact fixed.terms moves)
  unfolding compact
  compact-fully_valid = full.valid

  pub compact-pairs : pairs_of fixed after.commits ≡ at_places live 0 (pairs_of fixed before.commits)
  unfolding compact
  compact-pairs = full.pairs

  -- the file of objects
  pub compact-shorter : length (objects_text fixed (compact fixed.terms moves)) ≤ length (objects_text fixed moves)
  unfolding objects_of
  compact-shorter =
      let pairs : List Pair = pairs_of fixed before.commits in
      omega (
        arith,
        ap (λ ps. length (concat (fresh [] (flat_map both ps)))) compact-pairs,
        pairs-shorter live 0 pairs [],
        length-append header (concat (fresh [] (flat_map both (pairs_of fixed after.commits)))),
        length-append header (concat (fresh [] (flat_map both pairs))),
      )

  -- a branch that was not dropped
  pub compact-head : (r : ℕ) → IsKeptBranch before.branches r → HasSameHead fixed before after r
  compact-head r here =
      let h : ℕ = head_of before.branches r in
      let pairs : List Pair = pairs_of fixed before.commits in
      let w = compact-followed fixed.meaning fixed.terms laws moves plain in
      let lt : h < length before.commits = was.ordered.heads r here.0 in
      let is : IsTrue (live h) = live-head before fixed.terms was.ordered r here in
      let head : head_of after.branches r ≡ new_number live h = w.thin.heads r here.0 is in
      let in_pairs : h < length pairs = omega (arith, lt, length-pairs_of fixed before.commits) in
      let size : length (pairs_of fixed after.commits) ≡ new_number live (length pairs) = ap length compact-pairs ∙ length-places live pairs in
      record {
        number = head;
        visible = ap (visible after.commits) head ∙ visible-same w h lt is;
        value = ap (λ ps. value_text ps (head_of after.branches r)) compact-pairs ∙ ap (value_text (at_places live 0 pairs)) head ∙ value_text-kept live pairs h in_pairs is;
        commit = ap (λ ps. commit_text ps (head_of after.branches r)) compact-pairs ∙ ap (commit_text (at_places live 0 pairs)) head ∙ commit_text-kept live pairs h in_pairs is;
        reach =
            ap (λ k. filter_map (slice_get (pairs_of fixed after.commits)) (filter (reaches (graph_of after.commits) (head_of after.branches r)) (falling k))) size
            ∙ ap (λ j. filter_map (slice_get (pairs_of fixed after.commits)) (filter (reaches (graph_of after.commits) j) (falling (new_number live (length pairs))))) head
            ∙ picked-kept live (slice_get pairs) (slice_get (pairs_of fixed after.commits)) (reaches (graph_of before.commits) h) (reaches (graph_of after.commits) (new_number live h)) (length pairs)
            (λ k less reached. w.down h k (omega (arith, lt, length-graph before.commits)) is reached)
            (λ k less live_k. ap (λ ps. slice_get ps (new_number live k)) compact-pairs ∙ get-places live pairs k less live_k)
            (λ k less live_k. reaches-same w h lt is k live_k);
      }

  -- the file of records
  pub compact-fewer_records : HasSize fixed.address → length (history_text fixed (compact fixed.terms moves)) ≤ length (history_text fixed moves)
  compact-fewer_records size = omega (arith, gates fixed laws size moves valid, gates fixed laws size (compact fixed.terms moves) compact-fully_valid, compact-fewer fixed.terms moves)

  -- a commit that was made on a branch that was not dropped
  pub own-live : HasSize fixed.address → (n r : ℕ) → 0 < n → n < length before.commits → IsKeptBranch before.branches r → origin_of before.commits n ≡ fixed.terms.origin + r → IsTrue (live n)
  own-live size n r positive lt here own = live-from before r n here ((valid-sound fixed laws size moves valid).reach n r positive lt here.0 own)

-- one move of a history
module _ {S O R Q A : Type 0} (fixed : Fixed S O R Q A) (laws : KeepsLaws fixed.meaning) (moves more : List (Move O R)) (next : Move O R) (valid : IsFullyValid fixed (moves ++ next ∷ more)) where
  abbrev all : List (Move O R)
  all = moves ++ next ∷ more

  abbrev front : List (Move O R)
  front = moves ++ next ∷ []

  abbrev ends : Store O R
  ends = store_after fixed all

  abbrev keep : ℕ → Bool
  keep = is_live ends

  abbrev here : Bool
  here = stays keep (length (store_after fixed moves).commits) next

  grouped : all ≡ front ++ more
  grouped = sym (append_assoc moves (next ∷ []) more)

  front_valid : IsFullyValid fixed front
  front_valid = valid-first fixed front more (subst (IsFullyValid fixed) grouped valid)

  -- the commits of the front reach what is kept alone
  front_down : IsDownward keep (graph_of (store_after fixed front).commits)
  front_down j k lt is reached =
      let old : List (Commit O R) = (store_after fixed front).commits in
      let longer = subst (λ (l : List (Move O R)). IsLonger old (store_after fixed l).commits) (sym grouped) (commits-longer fixed.terms.origin front more) in
      let ranked = (valid-kept fixed.meaning fixed.terms laws front (valid-before fixed front front_valid)).ordered.ranked in
      let less : j < length old = omega (arith, lt, length-graph old) in
      let same = longer-same_at old ends.commits longer ranked j less in
      down fixed.meaning fixed.terms laws all (valid-before fixed all valid) j k (omega (arith, less, ap length longer.is, length-append old longer.more, length-graph ends.commits)) is (same.reach k ∙ reached)

  root : IsTrue (keep 0)
  root = live-root fixed.meaning fixed.terms ends (kept fixed.meaning fixed.terms laws all (valid-before fixed all valid))

  pub next-made : here ≡ true → IsFullMove fixed (kept_moves keep moves) (renumbered keep next) × (kept_moves keep front ≡ kept_moves keep moves ++ renumbered keep next ∷ [])
  next-made held =
      let e = kept_moves-stays keep fixed.terms.origin moves next held in
      let stay = stay-full fixed laws keep root front front_valid front_down in
      let rest = valid-second fixed (kept_moves keep moves) (renumbered keep next ∷ []) (subst (IsFullyValid fixed) e stay.valid) in
      (rest.0, e)

  pub next-gone : here ≡ false → kept_moves keep front ≡ kept_moves keep moves
  next-gone lost = kept_moves-goes keep fixed.terms.origin moves next lost
