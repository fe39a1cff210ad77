-- Clients from their scripts to what became of them.
use Rattle.std.proofs.Common.{zero, suc, ◌≡◌, ℕ, ◌+◌, ◌*◌, ◌-◌, ◌<◌, ◌≤◌, List, [], ◌∷◌, ◌++◌, length, vec_capacity, ap, sym, subst, ◌∙◌, arith}
use Rattle.std.specs.Prelude.{slice_index_or}
use Rattle.std.specs.List.{AllByRecursion, AllZip}
use Rattle.std.proofs.lemmas.Slice.Zip.{AllZip-long}
use mathlib.Core.List.{IsPrefix}
use Rattle.branch_history.specs.declared.moves.Move.{Move}
use Rattle.branch_machine.specs.Validity.{IsFullyValid}
use Rattle.branch_script.specs.declared.step.Step.{Step}
use Rattle.branch_shared.specs.Passes.{PassView}
use Rattle.parallel_clients.specs.declared.clients.Entrant.{Entrant}
use Rattle.parallel_clients.specs.declared.clients.Seat.{Seat}
use Rattle.parallel_clients.specs.declared.outcome.Outcome.{Outcome}
use Rattle.parallel_clients.specs.Clients.{Ran, all_places, count_places}
use Rattle.parallel_clients.specs.Entrants.{IsSeat, IsReady, HaveEntered, HasWorked, HasRunOwn, IsOwnOutcome, HaveLeft}
use Rattle.parallel_clients.specs.Outcomes.{Setting, IsOutcome}
use Rattle.parallel_clients.proofs.Places.{places-apart}

-- two relations one after the other
zip-through : {A B C : Type 0} (P : A → B → Type 0) (Q : B → C → Type 0) (R : A → C → Type 0) → ((x : A) (y : B) (z : C) → P x y → Q y z → R x z)
    → (xs : List A) (ys : List B) (zs : List C) → AllZip P xs ys → AllZip Q ys zs → AllZip R xs zs
zip-through P Q R through [] [] zs p q = zip-none zs q
  where
    zip-none : (zs : List _) → AllZip Q [] zs → AllZip R [] zs
    zip-none [] q = tt
    zip-none (z ∷ zs) q = absurd q
zip-through P Q R through [] (y ∷ ys) zs p q = absurd p
zip-through P Q R through (x ∷ xs) [] zs p q = absurd p
zip-through P Q R through (x ∷ xs) (y ∷ ys) [] p q = absurd q
zip-through P Q R through (x ∷ xs) (y ∷ ys) (z ∷ zs) p q = (through x y z p.0 q.0, zip-through P Q R through xs ys zs p.1 q.1)

-- the second of the pairs of two lists
zip-second : {A B : Type 0} (P : A → B → Type 0) (Q : B → Type 0) → ((x : A) (y : B) → P x y → Q y) → (xs : List A) (ys : List B) → AllZip P xs ys → AllByRecursion Q ys
zip-second P Q second [] [] zip = tt
zip-second P Q second [] (y ∷ ys) zip = absurd zip
zip-second P Q second (x ∷ xs) [] zip = absurd zip
zip-second P Q second (x ∷ xs) (y ∷ ys) zip = (second x y zip.0, zip-second P Q second xs ys zip.1)

-- what holds of each item holds at each place
pub all-indexed : {A : Type 0} (P : A → Type 0) (xs : List A) → AllByRecursion P xs → (i : ℕ) (d : A) → i < length xs → P (slice_index_or xs i d)
all-indexed P [] all i d lt = absurd (omega arith)
all-indexed P (x ∷ xs) all zero d lt = all.0
all-indexed P (x ∷ xs) all (suc i) d lt = all-indexed P xs all.1 i d (omega (arith, lt))

-- a client that has done nothing yet, with this script
record Starts {M : Type 0} (from : PassView M) (steps : List Step) (entrant : Entrant (PassView M)) : Type 0 where
  pub steps_are : entrant.seat.steps.now ≡ steps
  pub none : entrant.seat.places.items ≡ []
  pub room : length entrant.seat.steps.now ≤ vec_capacity entrant.seat.places
  pub pass_is : entrant.pass ≡ record from { mine = []; others = []; parts = 2; receipts = 0 }

-- a client that has room for its places, and has taken none
abbrev pub HasRoom : {M : Type 0} → Entrant M → Type 0
HasRoom entrant = (entrant.seat.places.items ≡ []) × (length entrant.seat.steps.now ≤ vec_capacity entrant.seat.places)

-- a client whose pass has more than one part
abbrev pub HasParts : {M : Type 0} → Entrant (PassView M) → Type 0
HasParts entrant = 1 < entrant.pass.parts

module _ {M : Type 0} (from : PassView M) (scripts : List (List Step)) (seats : List Seat) (entrants : List (Entrant (PassView M))) (seated : AllZip IsSeat scripts seats) (ready : AllZip (IsReady from) seats entrants) where
  start : (steps : List Step) (seat : Seat) (entrant : Entrant (PassView M)) → IsSeat steps seat → IsReady from seat entrant → Starts from steps entrant
  start steps seat entrant is on_seat = record {
    steps_are = ap (λ (s : Seat). s.steps.now) on_seat.seat_is ∙ is.steps_are;
    none = ap (λ (s : Seat). s.places.items) on_seat.seat_is ∙ is.none;
    room = subst (λ (s : Seat). length s.steps.now ≤ vec_capacity s.places) (sym on_seat.seat_is) (subst (λ ss. length ss ≤ vec_capacity seat.places) (sym is.steps_are) is.room);
    pass_is = on_seat.pass_is;
  }

  starts : AllZip (Starts from) scripts entrants
  starts = zip-through IsSeat (IsReady from) (Starts from) start scripts seats entrants seated ready

  pub all-parts : AllByRecursion HasParts entrants
  all-parts = zip-second (Starts from) HasParts (λ steps e is. let two = ap (λ p. p.parts) is.pass_is in omega arith) scripts entrants starts

  pub all-room : AllByRecursion HasRoom entrants
  all-room = zip-second (Starts from) HasRoom (λ steps e is. (is.none, is.room)) scripts entrants starts

  -- what holds of each script holds of that of each client
  pub all-scripts : (P : List Step → Type 0) → AllByRecursion P scripts → AllByRecursion (λ (e : Entrant (PassView M)). P e.seat.steps.now) entrants
  all-scripts P = also scripts entrants starts
    where
      also : (ss : List (List Step)) (es : List (Entrant (PassView M))) → AllZip (Starts from) ss es → AllByRecursion P ss → AllByRecursion (λ (e : Entrant (PassView M)). P e.seat.steps.now) es
      also [] [] zip all = tt
      also [] (e ∷ es) zip all = absurd zip
      also (s ∷ ss) [] zip all = tt
      also (s ∷ ss) (e ∷ es) zip all = (subst P (sym zip.0.steps_are) all.0, also ss es zip.1 all.1)

  pub as-many : length entrants ≡ length scripts
  as-many = AllZip-long (Starts from) scripts entrants starts

  pub as-many-seats : length seats ≡ length scripts
  as-many-seats = AllZip-long IsSeat scripts seats seated

module _ {S O R Q A : Type 0} (on : Setting S O R Q A) (from mid : PassView (Move O R)) (moves : mid.moves ≡ from.moves) where
  -- a client that has done this script, and began where a pass was
  record Did (steps : List Step) (entrant : Entrant (PassView (Move O R))) : Type 0 where
    pub steps_are : entrant.seat.steps.now ≡ steps
    pub ran : HasRunOwn on mid entrant

  did : (steps : List Step) (before after : Entrant (PassView (Move O R))) → Starts from steps before → HasWorked on before after → Did steps after
  did steps before after starts worked =
      let began : before.pass.moves ≡ mid.moves = ap (λ p. p.moves) starts.pass_is ∙ sym moves in
      let none : before.pass.receipts ≡ 0 = ap (λ p. p.receipts) starts.pass_is in
      record {
        steps_are = worked.steps_are ∙ starts.steps_are;
        ran = record {
          became = subst (λ ss. IsOutcome on mid.moves after.pass.moves after.pass.faults ss after.outcome) (sym worked.steps_are)
              (subst (λ ms. IsOutcome on ms after.pass.moves after.pass.faults before.seat.steps.now after.outcome) began worked.became);
          seen = subst (λ ms. IsPrefix ms after.pass.moves) began worked.advances.seen;
          parts = worked.advances.parts ∙ ap (λ p. p.parts) starts.pass_is;
          mine = worked.advances.mine (ap (λ p. p.mine) starts.pass_is);
          others = worked.advances.others ∙ ap (λ p. p.others) starts.pass_is;
          counted = let c = worked.advances.counted in omega arith;
          valid = λ is. worked.valid (subst (IsFullyValid on.fixed) (sym began) is);
        };
      }

  all-did : (scripts : List (List Step)) (before after : List (Entrant (PassView (Move O R)))) → AllZip (Starts from) scripts before → length after ≡ length before
      → ((i : ℕ) (d : Entrant (PassView (Move O R))) → i < length before → HasWorked on (slice_index_or before i d) (slice_index_or after i d)) → AllZip Did scripts after
  all-did [] [] [] starts same worked = tt
  all-did [] [] (e ∷ es) starts same worked = absurd (cc)
  all-did [] (e ∷ es) after starts same worked = absurd starts
  all-did (s ∷ ss) [] after starts same worked = absurd starts
  all-did (s ∷ ss) (e ∷ es) [] starts same worked = absurd (cc)
  all-did (s ∷ ss) (e ∷ es) (f ∷ fs) starts same worked =
      let rest : length fs ≡ length es = omega (arith, same) in
      (did s e f starts.0 (worked 0 e (omega arith)), all-did ss es fs starts.1 rest (λ i d lt. worked (suc i) d (omega (arith, lt))))

  module _ (scripts : List (List Step)) (seats : List Seat) (before after : List (Entrant (PassView (Move O R)))) (seated : AllZip IsSeat scripts seats) (ready : AllZip (IsReady from) seats before) (same : length after ≡ length before)
      (worked : (i : ℕ) (d : Entrant (PassView (Move O R))) → i < length before → HasWorked on (slice_index_or before i d) (slice_index_or after i d)) where
    all : AllZip Did scripts after
    all = all-did scripts before after (starts from scripts seats before seated ready) same worked

    pub all-ran : AllByRecursion (HasRunOwn on mid) after
    all-ran = zip-second Did (HasRunOwn on mid) (λ steps e is. is.ran) scripts after all

    pub ran-all : (new : PassView (Move O R)) (outcomes : List Outcome) → HaveEntered (length seats) from mid → 2 * length seats < from.parts → HaveLeft on mid new after outcomes → Ran on from new scripts outcomes
    ran-all new outcomes entered many left =
        let mine : new.mine ≡ from.mine = left.mine ∙ ap (λ p. p.mine) entered in
        let others : new.others ≡ from.others ++ all_places outcomes = left.others ∙ ap (λ p. p.others ++ all_places outcomes) entered in
        let kept : mid.parts ≡ from.parts - 2 * length seats = ap (λ p. p.parts) entered in
        let had : mid.receipts ≡ from.receipts = ap (λ p. p.receipts) entered in
        let known : mid.faults ≡ from.faults = ap (λ p. p.faults) entered in
        let first = as-many from scripts seats before seated ready in
        let second = as-many-seats from scripts seats before seated ready in
        let parts : new.parts ≡ from.parts = let p = left.parts in omega arith in
        let receipts : new.receipts ≡ from.receipts + count_places outcomes = left.counted ∙ ap (λ n. n + count_places outcomes) had in
        record {
          each = zip-through Did (IsOwnOutcome on mid new) (IsOutcome on from.moves new.moves new.faults)
              (λ steps e o is became. subst (λ ss. IsOutcome on from.moves new.moves new.faults ss o) is.steps_are (subst (λ ms. IsOutcome on ms new.moves new.faults e.seat.steps.now o) moves became)) scripts after outcomes all left.each;
          seen = subst (λ ms. IsPrefix ms new.moves) moves left.seen;
          valid = λ is. left.valid (subst (IsFullyValid on.fixed) (sym moves) is);
          faults = let f = left.faults in omega arith;
          apart = places-apart outcomes left.once;
          rest = ap (λ (m : List ℕ). record new { mine = m }) mine
              ∙ ap (λ (m : List ℕ). record new { mine = from.mine; others = m }) others
              ∙ ap (λ (n : ℕ). record new { mine = from.mine; others = from.others ++ all_places outcomes; parts = n }) parts
              ∙ ap (λ (n : ℕ). record new { mine = from.mine; others = from.others ++ all_places outcomes; parts = from.parts; receipts = n }) receipts;
        }
