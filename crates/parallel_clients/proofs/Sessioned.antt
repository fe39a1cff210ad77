-- What a client's sessions see, by what becomes of their table.
use Rattle.std.proofs.Common.{◌≡◌, ℕ, ◌<◌, Bool, true, false, cond, List, [], ◌++◌, length, refl, ap, sym, subst, ◌∙◌, Option, Some, None, IsTrue}
use Rattle.std.specs.Prelude.{bytes_eq}
use Rattle.std.specs.Option.{option_map}
use Rattle.std.specs.Ordering.{nat_cmp, is_eq}
use Rattle.std.specs.Cmp.Lexicographic.{slice_cmp}
use Rattle.std.proofs.Math.Path.{fun_ext}
use Rattle.std.proofs.lemmas.Map.Text.{is_eq-slice_cmp}
use Rattle.std.proofs.lemmas.Slice.Eq.{bytes_eq-Decides}
use mathlib.Core.List.{IsPrefix}
use Rattle.branch_front.proofs.Prefixes.{prefix_self, prefix_trans}
use Rattle.mrdt_model.specs.Laws.{Meaning}
use Rattle.branch_names.specs.declared.terms.Terms.{Terms}
use Rattle.branch_names.specs.Heads.{head_of, branch_named}
use Rattle.branch_graph.specs.Graph.{reaches}
use Rattle.branch_history.specs.declared.moves.Move.{Move}
use Rattle.branch_history.specs.Commits.{graph_of}
use Rattle.branch_history.specs.History.{store_of}
use Rattle.branch_history.specs.Merging.{brought}
use Rattle.branch_history.specs.Laws.{KeepsOrder, RaisesHeads}
use Rattle.branch_history.specs.Validity.{IsValid}
use Rattle.branch_history.proofs.Reach.{reaches-trans}
use Rattle.branch_history.proofs.Stores.{branch_named-there}
use Rattle.store_seen.specs.Views.{SeenView}
use Rattle.parallel_clients.specs.declared.sessions.Session.{Session}
use Rattle.parallel_clients.specs.Played.{Sights, with_sight, HadHead, AreNamedHeads, IsReached, BringsNothing}
use Rattle.parallel_clients.specs.Sessions.{Sessions, session_named, Puts, sights_of, IsSession, AreSessions}
use Rattle.branch_history.specs.Steps as machine
use Rattle.branch_history.specs.Machine.{turn, answers}
use Rattle.parallel_clients.proofs.Turned.{look-named}
use Rattle.parallel_clients.proofs.Brought.{brings-nothing}

put_step : {M : Type 0} (t : Bool) (s : Session (SeenView M)) (old : Option (Session (SeenView M))) → option_map (λ s. s.seen.branch) (cond t (Some s) old) ≡ cond t (Some s.seen.branch) (option_map (λ s. s.seen.branch) old)
put_step true s old = refl
put_step false s old = refl

-- a session came to see the branch of a look
pub sights-put : {M : Type 0} (old new : Sessions M) (session : List ℕ) (s : Session (SeenView M)) → Puts old new session s → sights_of new ≡ with_sight (sights_of old) session s.seen.branch
sights-put old new session s puts = fun_ext (λ name.
    ap (option_map (λ s. s.seen.branch)) (puts name) ∙ put_step (is_eq (slice_cmp nat_cmp session name)) s (session_named old name)
    ∙ ap (λ t. cond t (Some s.seen.branch) (sights_of old name)) (is_eq-slice_cmp session name))

pub sights-kept : {M : Type 0} (old new : Sessions M) → ((name : List ℕ) → session_named new name ≡ session_named old name) → sights_of new ≡ sights_of old
sights-kept old new kept = fun_ext (λ name. ap (option_map (λ s. s.seen.branch)) (kept name))

again_step : (sights : Sights) (session : List ℕ) (branch : ℕ) (name : List ℕ) → sights session ≡ Some branch → (t : Bool) → bytes_eq session name ≡ t → cond t (Some branch) (sights name) ≡ sights name
again_step sights session branch name is true test = sym is ∙ ap sights ((bytes_eq-Decides session name).0 test)
again_step sights session branch name is false test = refl

-- one that sees the same branch again
pub sights-again : (sights : Sights) (session : List ℕ) (branch : ℕ) → sights session ≡ Some branch → with_sight sights session branch ≡ sights
sights-again sights session branch is = fun_ext (λ name. again_step sights session branch name is (bytes_eq session name) refl)

pub sight-found : {M : Type 0} (sessions : Sessions M) (session : List ℕ) (s : Session (SeenView M)) → session_named sessions session ≡ Some s → sights_of sessions session ≡ Some s.seen.branch
sight-found sessions session s found = ap (option_map (λ s. s.seen.branch)) found

pub sight-none : {M : Type 0} (sessions : Sessions M) (session : List ℕ) → session_named sessions session ≡ None → sights_of sessions session ≡ None
sight-none sessions session none = ap (option_map (λ s. s.seen.branch)) none

module _ {O R : Type 0} (terms : Terms) where
  pub session-later : (moves later : List (Move O R)) (s : Session (SeenView (Move O R))) → IsPrefix moves later → IsSession terms moves s → IsSession terms later s
  session-later moves later s grows is = record { begins = prefix_trans s.seen.history moves later is.begins grows; terms_are = is.terms_are; named = is.named; head = is.head }

  -- a look at the head of a branch
  pub session-looked : {S Q A : Type 0} (meaning : Meaning S O R Q A) (moves : List (Move O R)) (s : Session (SeenView (Move O R))) → s.seen.history ≡ moves → s.seen.terms ≡ terms
      → turn meaning terms moves (machine.Look s.branch) ≡ answers (machine.Sees s.seen.branch s.seen.head) → IsSession terms moves s
  session-looked meaning moves s history limited is =
      let found = look-named meaning terms moves s.branch s.seen.branch s.seen.head is in
      record {
        begins = subst (λ h. IsPrefix h moves) (sym history) (prefix_self moves);
        terms_are = limited;
        named = subst (λ h. branch_named (store_of terms.origin h).branches s.branch ≡ Some s.seen.branch) (sym history) found.0;
        head = subst (λ h. head_of (store_of terms.origin h).branches s.seen.branch ≡ s.seen.head) (sym history) found.1;
      }

  pub sessions_later : (moves later : List (Move O R)) (sessions : Sessions (Move O R)) → IsPrefix moves later → AreSessions terms moves sessions → AreSessions terms later sessions
  sessions_later moves later sessions grows are = record { each = λ name s found. session-later moves later s grows (are.each name s found) }

  put_one : (moves : List (Move O R)) (s other : Session (SeenView (Move O R))) (o : Option (Session (SeenView (Move O R)))) (t : Bool) → IsSession terms moves s → (o ≡ Some other → IsSession terms moves other)
      → cond t (Some s) o ≡ Some other → IsSession terms moves other
  put_one moves s other o true is rest e = let same : s ≡ other = cc in subst (IsSession terms moves) same is
  put_one moves s other o false is rest e = rest e

  pub sessions-put : (moves : List (Move O R)) (old new : Sessions (Move O R)) (session : List ℕ) (s : Session (SeenView (Move O R))) → Puts old new session s → IsSession terms moves s → AreSessions terms moves old → AreSessions terms moves new
  sessions-put moves old new session s puts is are = record {
    each = λ name other found. put_one moves s other (session_named old name) (is_eq (slice_cmp nat_cmp session name)) is (are.each name other) (sym (puts name) ∙ found);
  }

  pub sessions-kept : (moves : List (Move O R)) (old new : Sessions (Move O R)) → ((name : List ℕ) → session_named new name ≡ session_named old name) → AreSessions terms moves old → AreSessions terms moves new
  sessions-kept moves old new kept are = record { each = λ name s found. are.each name s (sym (kept name) ∙ found) }

  module _ (moves : List (Move O R)) (s : Session (SeenView (Move O R))) (is : IsSession terms moves s) where
    pub session-head : HadHead terms.origin moves s.seen.branch s.seen.head
    session-head = (s.branch, record { before = s.seen.history; begins = is.begins; named = is.named; head = is.head })

    -- the head of its branch reaches the one that a session sees
    session-risen : {S Q A : Type 0} (meaning : Meaning S O R Q A) → RaisesHeads meaning → IsValid meaning terms moves
        → IsTrue (reaches (graph_of (store_of terms.origin moves).commits) (head_of (store_of terms.origin moves).branches s.seen.branch) s.seen.head)
    session-risen meaning raises valid =
        let r : ℕ = s.seen.branch in
        let there : r < length (store_of terms.origin s.seen.history).branches = branch_named-there (store_of terms.origin s.seen.history).branches s.branch r is.named in
        let grown : s.seen.history ++ is.begins.0 ≡ moves = is.begins.1 in
        let risen = raises terms s.seen.history is.begins.0 (subst (IsValid meaning terms) (sym grown) valid) r there in
        subst (λ h. IsTrue (reaches (graph_of (store_of terms.origin moves).commits) (head_of (store_of terms.origin moves).branches r) h)) is.head
        (subst (λ ms. IsTrue (reaches (graph_of (store_of terms.origin ms).commits) (head_of (store_of terms.origin ms).branches r) (head_of (store_of terms.origin s.seen.history).branches r))) grown risen)

    -- what a session's head reaches, the head of its branch reaches
    pub session-reaches : {S Q A : Type 0} (meaning : Meaning S O R Q A) → KeepsOrder meaning → RaisesHeads meaning → IsValid meaning terms moves
        → (from : List ℕ) (source : ℕ) → branch_named (store_of terms.origin moves).branches from ≡ Some source
        → IsTrue (reaches (graph_of (store_of terms.origin moves).commits) s.seen.head (head_of (store_of terms.origin moves).branches source)) → IsReached terms.origin s.seen.branch from moves
    session-reaches meaning order raises valid from source found below =
        let r : ℕ = s.seen.branch in
        let here = session-risen meaning raises valid in
        record {
          source = source;
          other = found;
          reached = reaches-trans (graph_of (store_of terms.origin moves).commits) (order terms moves valid).ranked (head_of (store_of terms.origin moves).branches r) s.seen.head (head_of (store_of terms.origin moves).branches source) here below;
        }

    -- where a merge brings nothing to a session's head, it brings nothing to the head of its branch
    pub session-brings : {S Q A : Type 0} (meaning : Meaning S O R Q A) → KeepsOrder meaning → RaisesHeads meaning → IsValid meaning terms moves
        → (from : List (List ℕ)) (heads : List ℕ) → AreNamedHeads terms.origin moves from heads
        → brought (graph_of (store_of terms.origin moves).commits) s.seen.head heads ≡ [] → BringsNothing terms.origin s.seen.branch from moves
    session-brings meaning order raises valid from heads others none = record {
      heads = heads;
      others = others;
      nothing = brings-nothing (graph_of (store_of terms.origin moves).commits) (order terms moves valid).ranked s.seen.head (head_of (store_of terms.origin moves).branches s.seen.branch) heads
          (session-risen meaning raises valid) none;
    }
