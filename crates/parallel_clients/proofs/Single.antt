-- What one step of a client does to what it has played.
use Rattle.std.proofs.Common.{◌≡◌, ℕ, ◌+◌, ◌<◌, ◌⊎◌, inl, inr, List, [], ◌∷◌, ◌++◌, length, ap, sym, subst, ◌∙◌, Some, arith, length-append, ⊎_elim}
use mathlib.Core.List.{IsPrefix}
use Rattle.branch_front.proofs.Prefixes.{prefix_trans, prefix_more, prefix_length}
use Rattle.branch_history.specs.declared.moves.Move.{Move}
use Rattle.branch_history.specs.declared.moves.Move.TheVariants as move
use Rattle.branch_doc.specs.declared.plain.PlainOp.{PlainOp}
use Rattle.branch_doc.specs.declared.plain.PlainQuery.{PlainQuery}
use Rattle.branch_script.specs.declared.step.Step.{Step}
use Rattle.branch_script.specs.declared.step.Step.TheVariants.{Look, Fork, Merge, Join, Do, Ask, Drop}
use Rattle.branch_shared.specs.Passes.{PassView}
use Rattle.branch_doc.specs.Types.{PlainForms}
use Rattle.parallel_clients.specs.Played.{Sights, with_sight, IsMoveAt, WasNamed, HasNumber, IsAsked, IsDone, IsForked, IsMerged, IsJoined, IsTaken, IsReached, BringsNothing, TakesOne, TakesNone, IfSees, PlayedFrom}
use Rattle.parallel_clients.specs.Sessions.{Stage, PlaysOn, HasMoved, HasDone, HasMerged, HasJoined, HasDropped}
use Rattle.parallel_clients.proofs.Went.{named-later, head-later, joins-later, move-last, played-earlier, plays-still, plays-move}

module _ {O R Q A : Type 0} (forms : PlainForms O Q R A) (origin : ℕ) (old new : Stage (Move O R)) (mid after : PassView (Move O R)) (from_old : IsPrefix old.moves mid.moves) (to_new : IsPrefix after.moves new.moves) (places noted : List ℕ) (had : old.places ≡ places) (has : new.places ≡ noted) where
  -- a move that landed has its place behind what had been seen, and stands there in any longer history
  module _ (made : Move O R) (moved : HasMoved made mid after places noted) where
    abbrev place : ℕ
    place = length after.moves

    long : place ≡ length moved.before + 1
    long = ap length moved.last ∙ length-append moved.before (made ∷ [])

    mid-after : IsPrefix mid.moves after.moves
    mid-after = subst (IsPrefix mid.moves) (sym moved.last) (prefix_trans mid.moves moved.before (moved.before ++ made ∷ []) moved.seen (prefix_more moved.before (made ∷ [])))

    grown : IsPrefix old.moves new.moves
    grown = prefix_trans old.moves mid.moves new.moves from_old (prefix_trans mid.moves after.moves new.moves mid-after to_new)

    past : length old.moves < place
    past =
        let a = prefix_length old.moves mid.moves from_old in
        let b = prefix_length mid.moves moved.before moved.seen in omega (arith, long)

    noted-is : new.places ≡ old.places ++ place ∷ []
    noted-is = has ∙ moved.noted ∙ ap (λ ps. ps ++ place ∷ []) (sym had)

    stands : (later : List (Move O R)) → IsPrefix new.moves later → IsMoveAt later place made
    stands later grows =
        let all : IsPrefix (moved.before ++ made ∷ []) later = subst (λ ms. IsPrefix ms later) moved.last (prefix_trans after.moves new.moves later to_new grows) in
        subst (λ n. IsMoveAt later n made) (sym (ap length moved.last)) (move-last moved.before later made all)

    pub plays-made : (step : Step)
        → ((later : List (Move O R)) (rest : List Step) (ends : Sights) (more : List ℕ) → IsPrefix new.moves later → IsMoveAt later place made
        → PlayedFrom forms origin later rest new.sights ends place more → PlayedFrom forms origin later (step ∷ rest) old.sights ends (length old.moves) (place ∷ more))
        → PlaysOn forms origin (step ∷ []) old new
    plays-made step goes =
        plays-move forms origin old new grown step place past (prefix_length after.moves new.moves to_new) noted-is
        (λ later rest ends more grows played. goes later rest ends more grows (stands later grows) played)

  module _ (same : new.sights ≡ old.sights) where
    kept : (later : List (Move O R)) (rest : List Step) (ends : Sights) (last : ℕ) (more : List ℕ) → PlayedFrom forms origin later rest new.sights ends last more → PlayedFrom forms origin later rest old.sights ends last more
    kept later rest ends last more played = subst (λ sights. PlayedFrom forms origin later rest sights ends last more) same played

    pub plays-done : (session : List ℕ) (op : PlainOp) → HasDone (old.sights session) (forms.op op) mid after places noted → PlaysOn forms origin (Do session op ∷ []) old new
    plays-done session op done =
        let made : Move O R = move.Operation done.branch done.operation done.reply in
        plays-made made done.moved (Do session op)
        (λ later rest ends more grows at played.
        let is : IsDone later done.branch (forms.op op) (length after.moves) = record { operation = done.operation; is = done.is; reply = done.reply; made = at } in
        subst (λ o. IfSees o (λ branch. TakesOne (IsDone later branch (forms.op op)) (PlayedFrom forms origin later rest old.sights ends) (length old.moves) (length after.moves ∷ more))) (sym done.sees)
        (past made done.moved, is, kept later rest ends (length after.moves) more played))

    pub plays-dropped : (session : List ℕ) → HasDropped (old.sights session) mid after places noted → PlaysOn forms origin (Drop session ∷ []) old new
    plays-dropped session done =
        let made : Move O R = move.Drop done.branch in
        plays-made made done.moved (Drop session)
        (λ later rest ends more grows at played.
        subst (λ o. IfSees o (λ branch. TakesOne (λ place. IsMoveAt later place (move.Drop branch)) (PlayedFrom forms origin later rest old.sights ends) (length old.moves) (length after.moves ∷ more))) (sym done.sees)
        (past made done.moved, at, kept later rest ends (length after.moves) more played))

    pub plays-merged : (session from : List ℕ) → HasMerged origin (old.sights session) from mid after places noted → PlaysOn forms origin (Merge session from ∷ []) old new
    plays-merged session from done = ⊎_elim (λ moved. by (move.Merge done.branch done.commit) moved (λ later at. inl at)) (λ moved. by (move.Forward done.branch done.commit) moved (λ later at. inr at)) done.moved
      where
        by : (made : Move O R) → HasMoved made mid after places noted
            → ((later : List (Move O R)) → IsMoveAt later (length after.moves) made → IsMoveAt later (length after.moves) (move.Merge done.branch done.commit) ⊎ IsMoveAt later (length after.moves) (move.Forward done.branch done.commit))
            → PlaysOn forms origin (Merge session from ∷ []) old new
        by made moved either =
            plays-made made moved (Merge session from)
            (λ later rest ends more grows at played.
            let to_later = prefix_trans after.moves new.moves later to_new grows in
            let is : IsMerged origin later done.branch from (length after.moves) = record {
              source = done.source;
              commit = done.commit;
              head = head-later origin after.moves later to_later from done.source done.commit done.head;
              made = either later at;
            } in
            let Rest = PlayedFrom forms origin later rest old.sights ends in
            subst (λ o. IfSees o (λ branch. TakesOne (IsMerged origin later branch from) Rest (length old.moves) (length after.moves ∷ more) ⊎ TakesNone later (IsReached origin branch from) Rest (length old.moves) (length after.moves ∷ more))) (sym done.sees)
            (inl (past made moved, is, kept later rest ends (length after.moves) more played)))

    pub plays-joined : (session : List ℕ) (from : List (List ℕ)) → HasJoined origin (old.sights session) from mid after places noted → PlaysOn forms origin (Join session from ∷ []) old new
    plays-joined session from done =
        plays-made done.made done.moved (Join session from)
        (λ later rest ends more grows at played.
        let to_later = prefix_trans after.moves new.moves later to_new grows in
        let is : IsJoined origin later done.branch from (length after.moves) = record { made = done.made; joins = joins-later origin after.moves later to_later done.branch from done.made done.joins; at = at } in
        let Rest = PlayedFrom forms origin later rest old.sights ends in
        subst (λ o. IfSees o (λ branch. TakesOne (IsJoined origin later branch from) Rest (length old.moves) (length after.moves ∷ more) ⊎ TakesNone later (BringsNothing origin branch from) Rest (length old.moves) (length after.moves ∷ more))) (sym done.sees)
        (inl (past done.made done.moved, is, kept later rest ends (length after.moves) more played)))

    pub plays-forked : (name from : List ℕ) (number source : ℕ) → WasNamed origin after.moves from source → HasMoved (move.Fork name number source) mid after places noted → PlaysOn forms origin (Fork name from ∷ []) old new
    plays-forked name from number source named moved =
        let made : Move O R = move.Fork name number source in
        plays-made made moved (Fork name from)
        (λ later rest ends more grows at played.
        let to_later = prefix_trans after.moves new.moves later to_new grows in
        let is : IsForked origin later name from (length after.moves) = record { number = number; source = source; named = named-later origin after.moves later to_later from source named; made = at } in
        inl (past made moved, is, kept later rest ends (length after.moves) more played))

  -- a step that makes no move was done where its last look was
  module _ (seen : IsPrefix mid.moves after.moves) (none : noted ≡ places) where
    on : IsPrefix old.moves new.moves
    on = prefix_trans old.moves mid.moves new.moves from_old (prefix_trans mid.moves after.moves new.moves seen to_new)

    takes-none : (Holds : List (Move O R) → Type 0) (later : List (Move O R)) (rest : List Step) (ends : Sights) (more : List ℕ) → Holds after.moves → IsPrefix new.moves later
        → PlayedFrom forms origin later rest new.sights ends (length new.moves) more → TakesNone later Holds (PlayedFrom forms origin later rest new.sights ends) (length old.moves) more
    takes-none Holds later rest ends more here grows played = record {
      before = after.moves;
      begins = prefix_trans after.moves new.moves later to_new grows;
      behind = prefix_length old.moves after.moves (prefix_trans old.moves mid.moves after.moves from_old seen);
      here = here;
      rest = played-earlier forms origin later (length after.moves) (length new.moves) (prefix_length after.moves new.moves to_new) rest new.sights ends more played;
    }

    pub plays-looked : (session branch : List ℕ) (number : ℕ) → new.sights ≡ with_sight old.sights session number → HasNumber origin branch number after.moves → PlaysOn forms origin (Look session branch ∷ []) old new
    plays-looked session branch number sights there =
        plays-still forms origin old new on (Look session branch) (has ∙ none ∙ sym had)
        (λ later rest ends more grows played.
        (number, subst (λ s. TakesNone later (HasNumber origin branch number) (PlayedFrom forms origin later rest s ends) (length old.moves) more) sights (takes-none (HasNumber origin branch number) later rest ends more there grows played)))

    module _ (same : new.sights ≡ old.sights) where
      kept-none : (Holds : List (Move O R) → Type 0) (later : List (Move O R)) (rest : List Step) (ends : Sights) (more : List ℕ) → Holds after.moves → IsPrefix new.moves later
          → PlayedFrom forms origin later rest new.sights ends (length new.moves) more → TakesNone later Holds (PlayedFrom forms origin later rest old.sights ends) (length old.moves) more
      kept-none Holds later rest ends more here grows played =
          subst (λ s. TakesNone later Holds (PlayedFrom forms origin later rest s ends) (length old.moves) more) same (takes-none Holds later rest ends more here grows played)

      pub plays-same : (session from : List ℕ) (branch : ℕ) → old.sights session ≡ Some branch → IsReached origin branch from after.moves → PlaysOn forms origin (Merge session from ∷ []) old new
      plays-same session from branch sees reached =
          plays-still forms origin old new on (Merge session from) (has ∙ none ∙ sym had)
          (λ later rest ends more grows played.
          let Rest = PlayedFrom forms origin later rest old.sights ends in
          subst (λ o. IfSees o (λ b. TakesOne (IsMerged origin later b from) Rest (length old.moves) more ⊎ TakesNone later (IsReached origin b from) Rest (length old.moves) more)) (sym sees)
          (inr (kept-none (IsReached origin branch from) later rest ends more reached grows played)))

      pub plays-nothing : (session : List ℕ) (from : List (List ℕ)) (branch : ℕ) → old.sights session ≡ Some branch → BringsNothing origin branch from after.moves → PlaysOn forms origin (Join session from ∷ []) old new
      plays-nothing session from branch sees brings =
          plays-still forms origin old new on (Join session from) (has ∙ none ∙ sym had)
          (λ later rest ends more grows played.
          let Rest = PlayedFrom forms origin later rest old.sights ends in
          subst (λ o. IfSees o (λ b. TakesOne (IsJoined origin later b from) Rest (length old.moves) more ⊎ TakesNone later (BringsNothing origin b from) Rest (length old.moves) more)) (sym sees)
          (inr (kept-none (BringsNothing origin branch from) later rest ends more brings grows played)))

      pub plays-taken : (name from : List ℕ) → IsTaken origin name from after.moves → PlaysOn forms origin (Fork name from ∷ []) old new
      plays-taken name from taken =
          plays-still forms origin old new on (Fork name from) (has ∙ none ∙ sym had) (λ later rest ends more grows played. inr (kept-none (IsTaken origin name from) later rest ends more taken grows played))

      pub plays-asked : (branch : List ℕ) (query : PlainQuery) → IsAsked origin branch (forms.query query) after.moves → PlaysOn forms origin (Ask branch query ∷ []) old new
      plays-asked branch query there =
          plays-still forms origin old new on (Ask branch query) (has ∙ none ∙ sym had) (λ later rest ends more grows played. kept-none (IsAsked origin branch (forms.query query)) later rest ends more there grows played)
