-- How clients go on: what holds of a history holds of a longer one, and steps are played one after another.
use Rattle.std.proofs.Common.{◌≡◌, ℕ, ◌+◌, ◌-◌, ◌<◌, ◌≤◌, List, [], ◌∷◌, ◌++◌, length, refl, ap, sym, subst, ◌∙◌, append_assoc, append-nil, Some, arith, length-append, ◌⊎◌, inl, inr, ⊎_elim, Option, None}
use Rattle.std.specs.Prelude.{slice_get}
use mathlib.Core.List.{IsPrefix}
use Rattle.branch_front.proofs.Prefixes.{prefix_self, prefix_trans, prefix_length}
use Rattle.branch_history.specs.declared.moves.Move.{Move}
use Rattle.branch_history.specs.declared.moves.Move.TheVariants as move
use Rattle.branch_history.proofs.Lists.{slice_get-append, slice_get-new}
use Rattle.branch_script.specs.declared.step.Step.{Step}
use Rattle.branch_script.specs.declared.step.Step.TheVariants.{Look, Fork, Merge, Join, Do, Ask, Drop}
use Rattle.branch_doc.specs.Types.{PlainForms}
use Rattle.parallel_clients.specs.Played.{Sights, no_sights, with_sight, IsMoveAt, WasNamed, WasHead, HadHead, WereHeads, HasNumber, IsAsked, IsDone, IsForked, IsMerged, Joins, IsJoined, IsTaken, IsReached, BringsNothing, TakesOne, TakesNone, IfSees, PlayedFrom, PlayedTo}
use Rattle.parallel_clients.specs.Outcomes.{ArePast}
use Rattle.parallel_clients.specs.Sessions.{Stage, GoesOn, PlaysOn}

-- what stays when a history grows

module _ {O R : Type 0} (origin : ℕ) (moves later : List (Move O R)) (grows : IsPrefix moves later) where
  pub named-later : (name : List ℕ) (branch : ℕ) → WasNamed origin moves name branch → WasNamed origin later name branch
  named-later name branch was = record { before = was.before; begins = prefix_trans was.before moves later was.begins grows; named = was.named }

  pub head-later : (name : List ℕ) (branch commit : ℕ) → WasHead origin moves name branch commit → WasHead origin later name branch commit
  head-later name branch commit was = record { before = was.before; begins = prefix_trans was.before moves later was.begins grows; named = was.named; head = was.head }

  pub had-later : (branch commit : ℕ) → HadHead origin moves branch commit → HadHead origin later branch commit
  had-later branch commit had = (had.0, head-later had.0 branch commit had.1)

  pub heads-later : (names : List (List ℕ)) (heads : List ℕ) → WereHeads origin moves names heads → WereHeads origin later names heads
  heads-later names heads were = record { before = were.before; begins = prefix_trans were.before moves later were.begins grows; are = were.are }

  pub joins-later : (branch : ℕ) (from : List (List ℕ)) (made : Move O R) → Joins origin moves branch from made → Joins origin later branch from made
  joins-later branch from made joins = record {
    head = joins.head;
    heads = joins.heads;
    before = joins.before;
    begins = prefix_trans joins.before moves later joins.begins grows;
    seen = joins.seen;
    others = joins.others;
    is_move = joins.is_move;
  }

-- the last move of a history stands at its length
pub move-last : {M : Type 0} (before later : List M) (made : M) → IsPrefix (before ++ made ∷ []) later → IsMoveAt later (length (before ++ made ∷ [])) made
move-last before later made grows =
    let all = before ++ made ∷ [] in
    let long : length all ≡ length before + 1 = length-append before (made ∷ []) in
    let at : length all - 1 ≡ length before = omega arith in
    let in_all : slice_get all (length before) ≡ Some made = slice_get-new before made [] in
    let in_later : slice_get (all ++ grows.0) (length before) ≡ Some made = slice_get-append all grows.0 (length before) (omega arith) ∙ in_all in
    ap (slice_get later) at ∙ ap (λ ms. slice_get ms (length before)) (sym grows.1) ∙ in_later

-- places behind a number

pub past-less : (m n : ℕ) (places : List ℕ) → m ≤ n → ArePast n places → ArePast m places
past-less m n [] le past = tt
past-less m n (p ∷ ps) le past = (omega (arith, past.0), past-less m n ps le past.1)

pub past-both : (n : ℕ) (xs ys : List ℕ) → ArePast n xs → ArePast n ys → ArePast n (xs ++ ys)
past-both n [] ys a b = b
past-both n (x ∷ xs) ys a b = (a.0, past-both n xs ys a.1 b)

-- what a session that sees a branch does is something more
pub sees-more : (Does More : ℕ → Type 0) → ((branch : ℕ) → Does branch → More branch) → (sight : Option ℕ) → IfSees sight Does → IfSees sight More
sees-more Does More more None is = is
sees-more Does More more (Some branch) is = more branch is

-- what was played from behind a place was played from behind an earlier one
module _ {O R Q A : Type 0} (forms : PlainForms O Q R A) (origin : ℕ) (moves : List (Move O R)) (m n : ℕ) (le : m ≤ n) where
  one-earlier : (Is : ℕ → Type 0) (Rest : ℕ → List ℕ → Type 0) (places : List ℕ) → TakesOne Is Rest n places → TakesOne Is Rest m places
  one-earlier Is Rest [] is = is
  one-earlier Is Rest (place ∷ places) is = let behind = is.0 in (omega (arith, behind), is.1, is.2)

  none-earlier : (Holds : List (Move O R) → Type 0) (Rest : ℕ → List ℕ → Type 0) (places : List ℕ) → TakesNone moves Holds Rest n places → TakesNone moves Holds Rest m places
  none-earlier Holds Rest places is = let behind = is.behind in record { before = is.before; begins = is.begins; behind = omega (arith, behind); here = is.here; rest = is.rest }

  pub played-earlier : (steps : List Step) (sights after : Sights) (places : List ℕ) → PlayedFrom forms origin moves steps sights after n places → PlayedFrom forms origin moves steps sights after m places
  played-earlier [] sights after places is = is
  played-earlier (Look session branch ∷ steps) sights after places is =
      (is.0, none-earlier (HasNumber origin branch is.0) (PlayedFrom forms origin moves steps (with_sight sights session is.0) after) places is.1)
  played-earlier (Ask branch query ∷ steps) sights after places is = none-earlier (IsAsked origin branch (forms.query query)) (PlayedFrom forms origin moves steps sights after) places is
  played-earlier (Do session op ∷ steps) sights after places is =
      let Rest = PlayedFrom forms origin moves steps sights after in
      sees-more (λ branch. TakesOne (IsDone moves branch (forms.op op)) Rest n places) (λ branch. TakesOne (IsDone moves branch (forms.op op)) Rest m places)
      (λ branch. one-earlier (IsDone moves branch (forms.op op)) Rest places) (sights session) is
  played-earlier (Fork new from ∷ steps) sights after places is =
      let Rest = PlayedFrom forms origin moves steps sights after in
      ⊎_elim (λ one. inl (one-earlier (IsForked origin moves new from) Rest places one)) (λ none. inr (none-earlier (IsTaken origin new from) Rest places none)) is
  played-earlier (Merge session from ∷ steps) sights after places is =
      let Rest = PlayedFrom forms origin moves steps sights after in
      sees-more (λ branch. TakesOne (IsMerged origin moves branch from) Rest n places ⊎ TakesNone moves (IsReached origin branch from) Rest n places)
      (λ branch. TakesOne (IsMerged origin moves branch from) Rest m places ⊎ TakesNone moves (IsReached origin branch from) Rest m places)
      (λ branch both. ⊎_elim (λ one. inl (one-earlier (IsMerged origin moves branch from) Rest places one)) (λ none. inr (none-earlier (IsReached origin branch from) Rest places none)) both)
      (sights session) is
  played-earlier (Join session from ∷ steps) sights after places is =
      let Rest = PlayedFrom forms origin moves steps sights after in
      sees-more (λ branch. TakesOne (IsJoined origin moves branch from) Rest n places ⊎ TakesNone moves (BringsNothing origin branch from) Rest n places)
      (λ branch. TakesOne (IsJoined origin moves branch from) Rest m places ⊎ TakesNone moves (BringsNothing origin branch from) Rest m places)
      (λ branch both. ⊎_elim (λ one. inl (one-earlier (IsJoined origin moves branch from) Rest places one)) (λ none. inr (none-earlier (BringsNothing origin branch from) Rest places none)) both)
      (sights session) is
  played-earlier (Drop session ∷ steps) sights after places is =
      let Rest = PlayedFrom forms origin moves steps sights after in
      sees-more (λ branch. TakesOne (λ place. IsMoveAt moves place (move.Drop branch)) Rest n places) (λ branch. TakesOne (λ place. IsMoveAt moves place (move.Drop branch)) Rest m places)
      (λ branch. one-earlier (λ place. IsMoveAt moves place (move.Drop branch)) Rest places) (sights session) is

-- steps one after another

module _ {O R Q A : Type 0} (forms : PlainForms O Q R A) (origin : ℕ) where
  pub plays-none : (s : Stage (Move O R)) → PlaysOn forms origin [] s s
  plays-none s = record {
    own = [];
    grown = prefix_self s.moves;
    added = sym (append-nil s.places);
    past = tt;
    goes_on = λ later rest after more grows played. played;
  }

  pub plays-both : (first second : List Step) (a b c : Stage (Move O R)) → PlaysOn forms origin first a b → PlaysOn forms origin second b c → PlaysOn forms origin (first ++ second) a c
  plays-both first second a b c p q = record {
    own = p.own ++ q.own;
    grown = prefix_trans a.moves b.moves c.moves p.grown q.grown;
    added = q.added ∙ ap (λ ps. ps ++ q.own) p.added ∙ append_assoc a.places p.own q.own;
    past = past-both (length a.moves) p.own q.own p.past (past-less (length a.moves) (length b.moves) q.own (prefix_length a.moves b.moves p.grown) q.past);
    goes_on = λ later rest after more grows played.
        let tail = q.goes_on later rest after more grows played in
        let all = p.goes_on later (second ++ rest) after (q.own ++ more) (prefix_trans b.moves c.moves later q.grown grows) tail in
        subst (λ ss. PlayedFrom forms origin later ss a.sights after (length a.moves) ((p.own ++ q.own) ++ more)) (sym (append_assoc first second rest))
        (subst (PlayedFrom forms origin later (first ++ (second ++ rest)) a.sights after (length a.moves)) (sym (append_assoc p.own q.own more)) all);
  }

  -- what a client has played in all
  pub plays-played : (steps : List Step) (a b : Stage (Move O R)) (later : List (Move O R)) → PlaysOn forms origin steps a b → a.sights ≡ no_sights → a.places ≡ [] → IsPrefix b.moves later
      → PlayedTo forms origin (length a.moves) steps b.places later b.sights
  unfolding PlayedTo
  plays-played steps a b later p none empty grows =
      let all = p.goes_on later [] b.sights [] grows (refl, refl) in
      let own_is : p.own ++ [] ≡ b.places = append-nil p.own ∙ sym (p.added ∙ ap (λ ps. ps ++ p.own) empty) in
      subst (λ sights. PlayedFrom forms origin later steps sights b.sights (length a.moves) b.places) none
      (subst (λ ps. PlayedFrom forms origin later steps a.sights b.sights (length a.moves) ps) own_is
      (subst (λ ss. PlayedFrom forms origin later ss a.sights b.sights (length a.moves) (p.own ++ [])) (append-nil steps) all))

  -- one step

  module _ (old new : Stage (Move O R)) (grown : IsPrefix old.moves new.moves) where
    -- one that makes no move
    pub plays-still : (step : Step) → new.places ≡ old.places → GoesOn forms origin (step ∷ []) [] old new → PlaysOn forms origin (step ∷ []) old new
    plays-still step same goes = record {
      own = [];
      grown = grown;
      added = same ∙ sym (append-nil old.places);
      past = tt;
      goes_on = goes;
    }

    -- one that makes a move
    pub plays-move : (step : Step) (place : ℕ) → length old.moves < place → place ≤ length new.moves → new.places ≡ old.places ++ place ∷ []
        → ((later : List (Move O R)) (rest : List Step) (after : Sights) (more : List ℕ) → IsPrefix new.moves later
        → PlayedFrom forms origin later rest new.sights after place more → PlayedFrom forms origin later (step ∷ rest) old.sights after (length old.moves) (place ∷ more))
        → PlaysOn forms origin (step ∷ []) old new
    plays-move step place past within noted goes = record {
      own = place ∷ [];
      grown = grown;
      added = noted;
      past = (past, tt);
      goes_on = λ later rest after more grows played. goes later rest after more grows (played-earlier forms origin later place (length new.moves) within rest new.sights after more played);
    }
