-- A client of drawn steps names no branch that is not there, and each session of its has looked.
use Rattle.std.proofs.Common.{zero, suc, ◌≡◌, ℕ, ◌+◌, ◌-◌, ◌%◌, ◌^◌, ◌<◌, ◌≤◌, ◌⊎◌, ⊎_elim, Bool, true, false, cond, List, [], ◌∷◌, ◌++◌, length, codes, refl, ap, sym, subst, ◌∙◌, Option, Some, None, arith, append_assoc, append-nil, length-append}
use Rattle.std.specs.Prelude.{slice_get, take, bytes_eq}
use Rattle.std.specs.List.{AllByRecursion}
use Rattle.std.proofs.lemmas.Bool.{cases_lt, both_ways, false_from_ne_true}
use mathlib.Core.List.{IsPrefix}
use Rattle.mrdt_model.specs.Laws.{Meaning}
use Rattle.branch_names.specs.declared.terms.Terms.{Terms}
use Rattle.branch_names.specs.declared.branch.Branch.{Branch}
use Rattle.branch_names.specs.Heads.{name_of, head_of, is_dropped, branch_named, with_branch, IsKeptBranch}
use Rattle.branch_history.specs.declared.moves.Move.{Move}
use Rattle.branch_history.specs.declared.moves.Move.TheVariants as move
use Rattle.branch_history.specs.History.{Store, store_of, after_move}
use Rattle.branch_history.specs.Laws.{IsWithin, KeepsLimits, KeepsOrder}
use Rattle.branch_history.specs.Steps as machine
use Rattle.branch_history.specs.Machine.{turn, answers}
use Rattle.recorded_history.specs.Machine.{FullyRefuses}
use Rattle.branch_history.proofs.Heads.{same_branch}
use Rattle.branch_history.proofs.Later.{commits-longer}
use Rattle.branch_history.proofs.Stores.{length-with_branch, name_of-new, is_dropped-old, is_dropped-new, is_dropped-with_head, branch_named-none, branch_named-kept, branch_named-is}
use Rattle.branch_history.proofs.Valid.{store_of-none, store_of-more}
use Rattle.branch_machine.specs.Fixed.{fix}
use Rattle.branch_machine.specs.Laws.{MakesFewerMoves, HasFullyValidPrefixes}
use Rattle.branch_machine.specs.Validity.{IsFullyValid}
use Rattle.branch_doc.specs.declared.plain.Kind.TheVariants as kind
use Rattle.branch_doc.specs.declared.plain.PlainOp.{PlainOp}
use Rattle.branch_doc.specs.Kinds.{op_kind}
use Rattle.branch_doc.specs.Types.{PlainForms}
use Rattle.branch_script.specs.declared.step.Step.{Step}
use Rattle.branch_script.specs.declared.step.Step.TheVariants.{Look, Fork, Merge, Join, Do, Ask, Drop}
use Rattle.branch_gen.specs.Clients.{client_branch, own, top, drawn_steps, client_steps}
use Rattle.branch_shared.specs.Allowed.{GrowsBy}
use Rattle.parallel_clients.specs.declared.outcome.ClientRefusal.{ClientRefusal}
use Rattle.parallel_clients.specs.declared.outcome.ClientRefusal.TheVariants as refusal
use Rattle.parallel_clients.specs.declared.outcome.Outcome.{Outcome}
use Rattle.parallel_clients.specs.declared.outcome.Outcome.TheVariants.{Done, Refused, Unseen}
use Rattle.parallel_clients.specs.Played.{Sights, no_sights, with_sight, IsMoveAt, WasHead, HadHead, HasBranch, IsDone, IsForked, IsMerged, IsJoined, IsReached, BringsNothing, TakesOne, TakesNone, IfSees, PlayedFrom, PlayedTo}
use Rattle.parallel_clients.specs.Outcomes.{Setting, RefusesLook, RefusesJoin, RefusesLanding, RefusesStep, LacksKind, StepRefused, SeesNone, ComesTo}
use Rattle.client_runs.specs.Worked.{MayRefuse, MayComeTo}
use Rattle.client_runs.proofs.Drawn.{IsNoDrop, IsSession, IsOfBoth, IsOfNoSequence, IsDrawn, steps-drawn}
use Rattle.client_runs.proofs.Reasons.{Says, reason-full, says-look, says-fork, says-land, says-merge}

-- some branch has the name
abbrev pub IsThere : {O R : Type 0} → ℕ → List (Move O R) → List ℕ → Type 0
IsThere origin moves name = branch_named (store_of origin moves).branches name ≡ None → ⊥

-- each branch that a step names is there, it drops none, it asks nothing, and it is on no sequence
abbrev Knows : {O R : Type 0} → ℕ → List (Move O R) → Step → Type 0
Knows origin moves (Look session from) = IsThere origin moves from
Knows origin moves (Fork new from) = IsThere origin moves from
Knows origin moves (Merge session from) = IsThere origin moves from
Knows origin moves (Join session from) = AllByRecursion (IsThere origin moves) from
Knows origin moves (Do session op) = IsOfNoSequence op
Knows origin moves (Ask from query) = ⊥
Knows origin moves (Drop session) = ⊥

all-first : {X : Type 0} (P : X → Type 0) (xs ys : List X) → AllByRecursion P (xs ++ ys) → AllByRecursion P xs
all-first P [] ys all = tt
all-first P (x ∷ xs) ys all = (all.0, all-first P xs ys all.1)

all-second : {X : Type 0} (P : X → Type 0) (xs ys : List X) → AllByRecursion P (xs ++ ys) → AllByRecursion P ys
all-second P [] ys all = all
all-second P (x ∷ xs) ys all = all-second P xs ys all.1

-- what holds of all behind a list holds of all behind a longer one
all-behind : {X : Type 0} (P : X → Type 0) (old more first rest : List X) → old ++ more ≡ first ++ rest → length old ≤ length first → AllByRecursion P more → AllByRecursion P rest
all-behind P [] more first rest is le all = all-second P first rest (subst (AllByRecursion P) is all)
all-behind P (x ∷ old) more [] rest is le all = absurd (omega (arith, le))
all-behind {X} P (x ∷ old) more (y ∷ first) rest is le all = let tail : old ++ more ≡ first ++ rest = cc in all-behind P old more first rest tail (omega (arith, le)) all

dropped-there : (branches : List Branch) (r : ℕ) → is_dropped branches r ≡ true → r < length branches
dropped-there [] r is = let never : ⊥ = cc in absurd never
dropped-there (b ∷ bs) zero is = omega arith
dropped-there (b ∷ bs) (suc r) is = let rest = dropped-there bs r is in omega (arith, rest)

dropped-new : (branches : List Branch) (name : List ℕ) (head r : ℕ) → is_dropped (with_branch branches name head) r ≡ true → is_dropped branches r ≡ true
dropped-new branches name head r is =
    ⊎_elim
    (λ lt. sym (is_dropped-old branches name head r lt) ∙ is)
    (λ le.
    let there = dropped-there (with_branch branches name head) r is in
    let last : r ≡ length branches = omega (arith, le, there, length-with_branch branches name head) in
    absurd (both_ways (is_dropped (with_branch branches name head) r) (is_dropped-new branches name head r last) is))
    (cases_lt r (length branches))

module _ {O R : Type 0} (origin : ℕ) where
  -- a branch that is dropped then was dropped before
  move-dropped : (s : Store O R) (m : Move O R) (r : ℕ) → IsNoDrop m → is_dropped (after_move origin s m).branches r ≡ true → is_dropped s.branches r ≡ true
  move-dropped s (move.Fork name number from) r none is = dropped-new s.branches name (head_of s.branches from) r is
  move-dropped s (move.Place name number n) r none is = dropped-new s.branches name n r is
  move-dropped s (move.Operation q op reply) r none is = sym (is_dropped-with_head s.branches q (length s.commits) r) ∙ is
  move-dropped s (move.Merge q m) r none is = sym (is_dropped-with_head s.branches q (length s.commits) r) ∙ is
  move-dropped s (move.Join q ms) r none is = sym (is_dropped-with_head s.branches q (length s.commits) r) ∙ is
  move-dropped s (move.Forward q m) r none is = sym (is_dropped-with_head s.branches q m r) ∙ is
  move-dropped s (move.Received parents from clock act) r none is = is
  move-dropped s (move.Drop q) r none is = absurd none

  dropped-before : (before more : List (Move O R)) (r : ℕ) → AllByRecursion IsNoDrop more → is_dropped (store_of origin (before ++ more)).branches r ≡ true → is_dropped (store_of origin before).branches r ≡ true
  dropped-before before [] r none is = ap (λ (ms : List (Move O R)). is_dropped (store_of origin ms).branches r) (sym (append-nil before)) ∙ is
  dropped-before before (m ∷ ms) r none is =
      let next : List (Move O R) = before ++ m ∷ [] in
      let later = dropped-before next ms r none.1 (ap (λ (ns : List (Move O R)). is_dropped (store_of origin ns).branches r) (append_assoc before (m ∷ []) ms) ∙ is) in
      move-dropped (store_of origin before) m r none.0 (ap (λ (s : Store O R). is_dropped s.branches r) (sym (store_of-more origin before m)) ∙ later)

  kept-later : (before more : List (Move O R)) (r : ℕ) → AllByRecursion IsNoDrop more → IsKeptBranch (store_of origin before).branches r → IsKeptBranch (store_of origin (before ++ more)).branches r
  kept-later before more r none kept =
      let new = store_of origin (before ++ more) in (
        (same_branch origin before more r kept.0).there,
        false_from_ne_true (is_dropped new.branches r) (λ is. both_ways (is_dropped (store_of origin before).branches r) kept.1 (dropped-before before more r none is)),
      )

-- a history that goes on from an old one, behind which no branch is dropped
abbrev pub GoesOnFrom : {O R : Type 0} → List (Move O R) → List (Move O R) → Type 0
GoesOnFrom {O} {R} old moves = (before : List (Move O R)) (begins : IsPrefix before moves) → length old ≤ length before → AllByRecursion IsNoDrop begins.0

pub goes-on-from : {O R : Type 0} (old moves new : List (Move O R)) → GrowsBy IsNoDrop old new → IsPrefix moves new → GoesOnFrom old moves
goes-on-from {O} {R} old moves new drops begins before first le =
    let whole : old ++ drops.more ≡ before ++ (first.0 ++ begins.0) =
    drops.is ∙ sym begins.1 ∙ ap (λ (ms : List (Move O R)). ms ++ begins.0) (sym first.1) ∙ append_assoc before first.0 begins.0 in
    all-first IsNoDrop first.0 begins.0 (all-behind IsNoDrop old drops.more before (first.0 ++ begins.0) whole le drops.all)

module _ {O R : Type 0} (origin : ℕ) (old moves : List (Move O R)) (on : GoesOnFrom old moves) (main : IsKeptBranch (store_of origin moves).branches 0) where
  -- a branch is there with its name later
  stays-there : (before : List (Move O R)) (name : List ℕ) (r : ℕ) → IsPrefix before moves → length old ≤ length before → IsKeptBranch (store_of origin before).branches r → name_of (store_of origin before).branches r ≡ name
      → IsThere origin moves name
  stays-there before name r begins le kept named none =
      let later = kept-later origin before begins.0 r (on before begins le) kept in
      branch_named-none (store_of origin (before ++ begins.0)).branches name r (ap (λ (ms : List (Move O R)). branch_named (store_of origin ms).branches name) begins.1 ∙ none) later ((same_branch origin before begins.0 r kept.0).name ∙ named)

  main-there : IsThere origin moves (codes "main")
  main-there none =
      let first : Store O R = store_of origin [] in
      let there : 0 < length first.branches = subst (λ (s : Store O R). 0 < length s.branches) (sym (store_of-none origin)) (omega arith) in
      branch_named-none (store_of origin moves).branches (codes "main") 0 none main ((same_branch origin [] moves 0 there).name ∙ ap (λ (s : Store O R). name_of s.branches 0) (store_of-none origin))

  -- a history up to a move of it
  record UpTo (all : List (Move O R)) (k : ℕ) (made : Move O R) : Type 0 where
    first : List (Move O R)
    begins : IsPrefix (first ++ made ∷ []) all
    long : length first ≡ k

  up-to : (all : List (Move O R)) (k : ℕ) (made : Move O R) → slice_get all k ≡ Some made → UpTo all k made
  up-to [] k made is = let never : ⊥ = cc in absurd never
  up-to (m ∷ ms) zero made is = let same : made ≡ m = cc in record { first = []; begins = (ms, ap (λ (n : Move O R). n ∷ ms) same); long = refl }
  up-to (m ∷ ms) (suc k) made is =
      let rest = up-to ms k made is in
      record { first = m ∷ rest.first; begins = (rest.begins.0, ap (λ (ns : List (Move O R)). m ∷ ns) rest.begins.1); long = let l = rest.long in omega (arith, l) }

  forked-there : (new from : List ℕ) (place : ℕ) → length old < place → IsForked origin moves new from place → IsThere origin moves new
  forked-there new from place behind is =
      let at = up-to moves (place - 1) (move.Fork new is.number is.source) is.made in
      let s : Store O R = store_of origin at.first in
      let head : ℕ = head_of s.branches is.source in
      let made : Move O R = move.Fork new is.number is.source in
      let forked : store_of origin (at.first ++ made ∷ []) ≡ after_move origin s made = store_of-more origin at.first made in
      let branches : List Branch = with_branch s.branches new head in
      let there : length s.branches < length branches = omega (arith, length-with_branch s.branches new head) in
      let long = at.long in
      stays-there (at.first ++ made ∷ []) new (length s.branches) at.begins (omega (arith, long, behind, length-append at.first (made ∷ [])))
      (subst (λ (t : Store O R). IsKeptBranch t.branches (length s.branches)) (sym forked) (there, is_dropped-new s.branches new head (length s.branches) refl))
      (ap (λ (t : Store O R). name_of t.branches (length s.branches)) forked ∙ name_of-new s.branches new head (length s.branches) refl)

  named-there : (before : List (Move O R)) (name : List ℕ) → IsPrefix before moves → length old ≤ length before → HasBranch origin name before → IsThere origin moves name
  named-there before name begins le is =
      stays-there before name is.0 begins le (branch_named-kept (store_of origin before).branches name is.0 is.1) (branch_named-is (store_of origin before).branches name is.0 is.1)

  one-there : (new from : List ℕ) (Rest : ℕ → List ℕ → Type 0) (places : List ℕ) → TakesOne (IsForked origin moves new from) Rest (length old) places → IsThere origin moves new
  one-there new from Rest [] is = absurd is
  one-there new from Rest (place ∷ places) is = forked-there new from place is.0 is.1

  -- a branch that was to be forked is there
  played-there : {Q A : Type 0} (forms : PlainForms O Q R A) (new from : List ℕ) (steps : List Step) (places : List ℕ) (after : Sights) → PlayedTo forms origin (length old) (Fork new from ∷ steps) places moves after → IsThere origin moves new
  unfolding PlayedTo
  played-there forms new from steps places after is =
      ⊎_elim
      (λ one. one-there new from (PlayedFrom forms origin moves steps no_sights after) places one)
      (λ none. named-there none.before new none.begins none.behind none.here.0)
      is

  both-there : (branch name : List ℕ) → IsThere origin moves branch → IsOfBoth branch name → IsThere origin moves name
  both-there branch name there is =
      ⊎_elim
      (λ e. subst (IsThere origin moves) (sym e) main-there)
      (λ e. subst (IsThere origin moves) (sym e) there)
      is

  drawn-knows : (branch : List ℕ) (s : Step) → IsThere origin moves branch → IsDrawn branch s → Knows origin moves s
  drawn-knows branch (Do session op) there is = is.1
  drawn-knows branch (Merge session from) there is = both-there branch from there is.1
  drawn-knows branch (Join session from) there is = absurd is
  drawn-knows branch (Look session from) there is = absurd is
  drawn-knows branch (Fork new from) there is = absurd is
  drawn-knows branch (Ask from query) there is = absurd is
  drawn-knows branch (Drop session) there is = absurd is

  -- a client knows each branch that its step names, where the history has what the steps before it made
  pub client-knows : {Q A : Type 0} (forms : PlainForms O Q R A) (client steps number k : ℕ) (s : Step) (places : List ℕ) (after : Sights)
      → slice_get (client_steps client steps number) k ≡ Some s → PlayedTo forms origin (length old) (take k (client_steps client steps number)) places moves after → Knows origin moves s
  unfolding client_steps
  client-knows forms client steps number zero s places after is played =
      let same : Fork (client_branch client) (codes "main") ≡ s = cc in subst (Knows origin moves) same main-there
  client-knows forms client steps number (suc zero) s places after is played =
      let same : Look own (client_branch client) ≡ s = cc in
      subst (Knows origin moves) same (played-there forms (client_branch client) (codes "main") [] places after played)
  client-knows forms client steps number (suc (suc zero)) s places after is played =
      let same : Look top (codes "main") ≡ s = cc in subst (Knows origin moves) same main-there
  client-knows forms client steps number (suc (suc (suc k))) s places after is played =
      let x : ℕ = (number + client) % 2 ^ 64 in
      let branch : List ℕ = client_branch client in
      let rest : List Step = take k (drawn_steps branch steps x) in
      drawn-knows branch s
      (played-there forms branch (codes "main") (Look own branch ∷ Look top (codes "main") ∷ rest) places after played)
      (steps-drawn branch steps x k s is)

-- what each session sees behind the first three steps
abbrev started : ℕ → ℕ → Sights
started first second = with_sight (with_sight no_sights own first) top second

session-started : (first second : ℕ) (session : List ℕ) → IsSession session → started first second session ≡ None → ⊥
session-started first second session is none =
    ⊎_elim
    (λ e. let sees : Some first ≡ None = ap (started first second) (sym e) ∙ none in cc)
    (λ e. let sees : Some second ≡ None = ap (started first second) (sym e) ∙ none in cc)
    is

put-sees : (test : Bool) (number : ℕ) (sight : Option ℕ) → (sight ≡ None → ⊥) → cond test (Some number) sight ≡ None → ⊥
put-sees true number sight sees none = let never : ⊥ = cc in never
put-sees false number sight sees none = sees none

-- a session that sees a branch sees one later
module _ {O R Q A : Type 0} (forms : PlainForms O Q R A) (origin : ℕ) (moves : List (Move O R)) (after : Sights) (session : List ℕ) where
  abbrev Sees : Sights → Type 0
  Sees sights = sights session ≡ None → ⊥

  one-sees : (Is : ℕ → Type 0) (Rest : ℕ → List ℕ → Type 0) (last : ℕ) (places : List ℕ) → ((place : ℕ) (more : List ℕ) → Rest place more → Sees after) → TakesOne Is Rest last places → Sees after
  one-sees Is Rest last [] goes is = absurd is
  one-sees Is Rest last (place ∷ places) goes is = goes place places is.2

  if-sees : (sight : Option ℕ) (Does : ℕ → Type 0) → ((branch : ℕ) → Does branch → Sees after) → IfSees sight Does → Sees after
  if-sees None Does goes is = absurd is
  if-sees (Some branch) Does goes is = goes branch is

  sees-on : (steps : List Step) (sights : Sights) (last : ℕ) (places : List ℕ) → Sees sights → PlayedFrom forms origin moves steps sights after last places → Sees after
  sees-on [] sights last places sees is = subst (λ (seen : Sights). seen session ≡ None → ⊥) is.1 sees
  sees-on (Look other branch ∷ steps) sights last places sees is =
      sees-on steps (with_sight sights other is.0) (length is.1.before) places (λ none. put-sees (bytes_eq other session) is.0 (sights session) sees none) is.1.rest
  sees-on (Ask branch query ∷ steps) sights last places sees is = sees-on steps sights (length is.before) places sees is.rest
  sees-on (Do other op ∷ steps) sights last places sees is =
      let Rest = PlayedFrom forms origin moves steps sights after in
      if-sees (sights other) (λ branch. TakesOne (IsDone moves branch (forms.op op)) Rest last places)
      (λ branch one. one-sees (IsDone moves branch (forms.op op)) Rest last places (λ place more rest. sees-on steps sights place more sees rest) one)
      is
  sees-on (Fork new from ∷ steps) sights last places sees is =
      let Rest = PlayedFrom forms origin moves steps sights after in
      ⊎_elim
      (λ one. one-sees (IsForked origin moves new from) Rest last places (λ place more rest. sees-on steps sights place more sees rest) one)
      (λ none. sees-on steps sights (length none.before) places sees none.rest)
      is
  sees-on (Merge other from ∷ steps) sights last places sees is =
      let Rest = PlayedFrom forms origin moves steps sights after in
      if-sees (sights other) (λ branch. TakesOne (IsMerged origin moves branch from) Rest last places ⊎ TakesNone moves (IsReached origin branch from) Rest last places)
      (λ branch both. ⊎_elim
      (λ one. one-sees (IsMerged origin moves branch from) Rest last places (λ place more rest. sees-on steps sights place more sees rest) one)
      (λ none. sees-on steps sights (length none.before) places sees none.rest)
      both)
      is
  sees-on (Join other from ∷ steps) sights last places sees is =
      let Rest = PlayedFrom forms origin moves steps sights after in
      if-sees (sights other) (λ branch. TakesOne (IsJoined origin moves branch from) Rest last places ⊎ TakesNone moves (BringsNothing origin branch from) Rest last places)
      (λ branch both. ⊎_elim
      (λ one. one-sees (IsJoined origin moves branch from) Rest last places (λ place more rest. sees-on steps sights place more sees rest) one)
      (λ none. sees-on steps sights (length none.before) places sees none.rest)
      both)
      is
  sees-on (Drop other ∷ steps) sights last places sees is =
      let Rest = PlayedFrom forms origin moves steps sights after in
      if-sees (sights other) (λ branch. TakesOne (λ place. IsMoveAt moves place (move.Drop branch)) Rest last places)
      (λ branch one. one-sees (λ place. IsMoveAt moves place (move.Drop branch)) Rest last places (λ place more rest. sees-on steps sights place more sees rest) one)
      is

  looks-see : (branch : List ℕ) (rest : List Step) (last : ℕ) (places : List ℕ) → IsSession session → PlayedFrom forms origin moves (Look own branch ∷ Look top (codes "main") ∷ rest) no_sights after last places → Sees after
  looks-see branch rest last places is played =
      let second = played.1.rest in
      sees-on rest (started played.0 second.0) (length second.1.before) places (session-started played.0 second.0 session is) second.1.rest

  starts-see : (branch : List ℕ) (rest : List Step) (last : ℕ) (places : List ℕ) → IsSession session
      → PlayedFrom forms origin moves (Fork branch (codes "main") ∷ Look own branch ∷ Look top (codes "main") ∷ rest) no_sights after last places → Sees after
  starts-see branch rest last places is played =
      let Rest = PlayedFrom forms origin moves (Look own branch ∷ Look top (codes "main") ∷ rest) no_sights after in
      ⊎_elim
      (λ one. one-sees (IsForked origin moves branch (codes "main")) Rest last places (λ place more next. looks-see branch rest place more is next) one)
      (λ none. looks-see branch rest (length none.before) places is none.rest)
      played

drawn-sees : (branch : List ℕ) (after : Sights) → ((session : List ℕ) → IsSession session → after session ≡ None → ⊥) → (s : Step) → IsDrawn branch s → SeesNone after s → ⊥
drawn-sees branch after sees (Do session op) is none = sees session is.0 none
drawn-sees branch after sees (Merge session from) is none = sees session is.0 none
drawn-sees branch after sees (Join session from) is none = absurd is
drawn-sees branch after sees (Look session from) is none = absurd is
drawn-sees branch after sees (Fork new from) is none = absurd is
drawn-sees branch after sees (Ask from query) is none = absurd is
drawn-sees branch after sees (Drop session) is none = absurd is

-- no session of a client's step sees none
pub client-sees : {O R Q A : Type 0} (forms : PlainForms O Q R A) (origin begun : ℕ) (moves : List (Move O R)) (client steps number k : ℕ) (s : Step) (places : List ℕ) (after : Sights)
    → slice_get (client_steps client steps number) k ≡ Some s → PlayedTo forms origin begun (take k (client_steps client steps number)) places moves after → SeesNone after s → ⊥
unfolding client_steps PlayedTo
client-sees forms origin begun moves client steps number zero s places after is played none = let same : s ≡ Fork (client_branch client) (codes "main") = cc in subst (SeesNone after) same none
client-sees forms origin begun moves client steps number (suc zero) s places after is played none = let same : s ≡ Look own (client_branch client) = cc in subst (SeesNone after) same none
client-sees forms origin begun moves client steps number (suc (suc zero)) s places after is played none = let same : s ≡ Look top (codes "main") = cc in subst (SeesNone after) same none
client-sees forms origin begun moves client steps number (suc (suc (suc k))) s places after is played none =
    let x : ℕ = (number + client) % 2 ^ 64 in
    let branch : List ℕ = client_branch client in
    drawn-sees branch after (λ session of_client. starts-see forms origin moves after session branch (take k (drawn_steps branch steps x)) begun places of_client played)
    s (steps-drawn branch steps x k s is) none

module _ {S O R Q A : Type 0} (on : Setting S O R Q A) (moves : List (Move O R)) (within : IsWithin on.fixed.terms moves) where
  -- what the machine says where a client knows its branches
  abbrev SaysNone : machine.Refusal → Type 0
  SaysNone = Says on.fixed moves (λ name. ⊥)

  says-full : (step : machine.Step O Q) (why : machine.Refusal) → (turn on.fixed.meaning on.fixed.terms moves step ≡ answers (machine.Refused why) → SaysNone why) → FullyRefuses on.fixed moves step why → SaysNone why
  says-full step why rest is = reason-full SaysNone on.fixed moves step why (λ stored fresh is. (is.0, refl, is.1)) rest is

  says-seen : (branch : Option ℕ) (Does : ℕ → Type 0) (why : machine.Refusal) → ((number : ℕ) → Does number → SaysNone why) → IfSees branch Does → SaysNone why
  says-seen None Does why does is = absurd is
  says-seen (Some number) Does why does is = does number is

  knows-says : (sights : Sights) (s : Step) (why : machine.Refusal) → Knows on.fixed.terms.origin moves s → RefusesStep on moves sights s why → SaysNone why
  knows-says sights (Look session from) why knows is = says-full (machine.Look from) why (says-look on.fixed moves within (λ name. ⊥) from why knows) is
  knows-says sights (Ask from query) why knows is = absurd knows
  knows-says sights (Fork new from) why knows is = says-full (machine.Fork new from) why (says-fork on.fixed moves within (λ name. ⊥) new from why knows) is
  knows-says sights (Do session op) why knows is =
      says-seen (sights session) (λ branch. RefusesLanding on moves branch (on.forms.op op) why) why
      (λ branch does. says-full (machine.Land branch does.head does.operation) why (says-land on.fixed moves within (λ name. ⊥) branch does.head does.operation why) does.refused)
      is
  knows-says sights (Merge session from) why knows is =
      says-seen (sights session)
      (λ branch. FullyRefuses on.fixed moves (machine.Look from) why
      ⊎ ((head source commit : ℕ) × HadHead on.fixed.terms.origin moves branch head × WasHead on.fixed.terms.origin moves from source commit × FullyRefuses on.fixed moves (machine.Merge branch head (commit ∷ [])) why)) why
      (λ branch does. ⊎_elim
      (λ look. says-full (machine.Look from) why (says-look on.fixed moves within (λ name. ⊥) from why knows) look)
      (λ merge. says-full (machine.Merge branch merge.0 (merge.2 ∷ [])) why (says-merge on.fixed moves within (λ name. ⊥) branch merge.0 (merge.2 ∷ []) why) merge.5)
      does)
      is
  knows-says sights (Join session from) why knows is =
      says-seen (sights session) (λ branch. RefusesLook on moves from why ⊎ RefusesJoin on moves branch from why) why
      (λ branch does. ⊎_elim
      (λ look.
      let there = all-second (IsThere on.fixed.terms.origin moves) look.first (look.name ∷ look.rest) (subst (AllByRecursion (IsThere on.fixed.terms.origin moves)) look.is knows) in
      says-full (machine.Look look.name) why (says-look on.fixed moves within (λ name. ⊥) look.name why there.0) look.refused)
      (λ join. says-full (machine.Merge branch join.head join.heads) why (says-merge on.fixed moves within (λ name. ⊥) branch join.head join.heads why) join.refused)
      does)
      is
  knows-says sights (Drop session) why knows is = absurd knows

  -- no step is of a kind that the store lacks, where it lacks sequences alone
  lacks-none : ((op : PlainOp) → on.forms.op op ≡ None → op_kind op ≡ kind.Sequence) → (sights : Sights) (s : Step) → Knows on.fixed.terms.origin moves s → LacksKind on moves sights s → ⊥
  lacks-none lacks sights (Do session op) knows is = seen-lacks (sights session) is
    where
      seen-lacks : (branch : Option ℕ) → IfSees branch (λ number. on.forms.op op ≡ None) → ⊥
      seen-lacks None none = none
      seen-lacks (Some number) none = knows (lacks op none)
  lacks-none lacks sights (Ask from query) knows is = knows
  lacks-none lacks sights (Look session from) knows is = is
  lacks-none lacks sights (Fork new from) knows is = is
  lacks-none lacks sights (Merge session from) knows is = is
  lacks-none lacks sights (Join session from) knows is = is
  lacks-none lacks sights (Drop session) knows is = is

  -- and what a longer history says
  module _ (lacks : (op : PlainOp) → on.forms.op op ≡ None → op_kind op ≡ kind.Sequence) (later : List (Move O R)) (grows : IsPrefix moves later) (bounds : IsWithin on.fixed.terms later) where
    prefix-length : length moves ≤ length later
    prefix-length = let e = ap (λ (ms : List (Move O R)). length ms) grows.1 in omega (arith, length-append moves grows.0, e)

    commits-length : length (store_of on.fixed.terms.origin moves).commits ≤ length (store_of on.fixed.terms.origin later).commits
    commits-length =
        let longer = commits-longer on.fixed.terms.origin moves grows.0 in
        let e = ap (λ (ms : List (Move O R)). length (store_of on.fixed.terms.origin ms).commits) grows.1 in
        let at = ap (λ (cs : List _). length cs) longer.is in
        omega (arith, length-append (store_of on.fixed.terms.origin moves).commits longer.more, e, at)

    branches-length : length (store_of on.fixed.terms.origin moves).branches ≤ length (store_of on.fixed.terms.origin later).branches
    branches-length = by-length (length (store_of on.fixed.terms.origin moves).branches) refl
      where
        by-length : (n : ℕ) → n ≡ length (store_of on.fixed.terms.origin moves).branches → n ≤ length (store_of on.fixed.terms.origin later).branches
        by-length zero is = omega arith
        by-length (suc n) is =
            let there : n < length (store_of on.fixed.terms.origin moves).branches = omega (arith, is) in
            let kept = (same_branch on.fixed.terms.origin moves grows.0 n there).there in
            let e = ap (λ (ms : List (Move O R)). length (store_of on.fixed.terms.origin ms).branches) grows.1 in
            omega (arith, kept, e)

    says-may : (old : List (Move O R)) → GrowsBy IsNoDrop old moves → (r : ClientRefusal) (faults : ℕ) (sights : Sights) (s : Step) → Knows on.fixed.terms.origin moves s → StepRefused on moves faults sights s r → MayRefuse on.fixed old later r
    says-may old drops (refusal.UnknownBranch name) faults sights s knows is = knows-says sights s (machine.UnknownBranch name) knows is
    says-may old drops (refusal.Dropped branch) faults sights s knows is =
        let origin : ℕ = on.fixed.terms.origin in
        let dropped : is_dropped (store_of origin moves).branches branch ≡ true = knows-says sights s (machine.Dropped branch) knows is in
        dropped-before origin old drops.more branch drops.all (ap (λ (ms : List (Move O R)). is_dropped (store_of origin ms).branches branch) drops.is ∙ dropped)
    says-may old drops refusal.KeepsMain faults sights s knows is = knows-says sights s machine.KeepsMain knows is
    says-may old drops (refusal.Exhausted clock) faults sights s knows is = knows-says sights s (machine.Exhausted clock) knows is
    says-may old drops (refusal.FullCommits count) faults sights s knows is =
        let says = knows-says sights s (machine.FullCommits count) knows is in
        let most = bounds.commits in
        (says.0, omega (arith, says.0, says.1, commits-length))
    says-may old drops (refusal.FullBranches count) faults sights s knows is =
        let says = knows-says sights s (machine.FullBranches count) knows is in
        let most = bounds.branches in
        (says.0, omega (arith, says.0, says.1, branches-length))
    says-may old drops (refusal.FullMoves count) faults sights s knows is =
        let says = knows-says sights s (machine.FullMoves count) knows is in
        let most = bounds.accepted in
        (says.0, omega (arith, says.0, says.1, prefix-length))
    says-may old drops (refusal.ValueTooLarge length) faults sights s knows is = knows-says sights s (machine.ValueTooLarge length) knows is
    says-may old drops (refusal.Collision address stored fresh) faults sights s knows is = knows-says sights s (machine.Collision address stored fresh) knows is
    says-may old drops refusal.NoSequences faults sights s knows is = lacks-none lacks sights s knows is
    says-may old drops refusal.DiskFault faults sights s knows is = tt
    says-may old drops (refusal.Failed count) faults sights s knows is = tt
    says-may old drops refusal.Memory faults sights s knows is = tt

-- what may become of a client
module _ {S O R Q A : Type 0} (on : Setting S O R Q A) (lacks : (op : PlainOp) → on.forms.op op ≡ None → op_kind op ≡ kind.Sequence) (old new : List (Move O R)) (drops : GrowsBy IsNoDrop old new)
    (within : (moves : List (Move O R)) → IsPrefix moves new → IsWithin on.fixed.terms moves)
    (main : (moves : List (Move O R)) → IsPrefix moves new → IsKeptBranch (store_of on.fixed.terms.origin moves).branches 0) where
  -- up to a first part that begins with the old history, no branch is dropped either
  drops-none : (moves : List (Move O R)) → IsPrefix old moves → IsPrefix moves new → GrowsBy IsNoDrop old moves
  drops-none moves begun begins = record { more = begun.0; is = begun.1; all = goes-on-from old moves new drops begins old begun (omega arith) }

  pub may-come : (faults client steps number : ℕ) (outcome : Outcome) → ComesTo on old new faults (client_steps client steps number) outcome → MayComeTo on.fixed old new outcome
  may-come faults client steps number (Done places) is = tt
  may-come faults client steps number (Refused k r places) is =
      says-may on is.before (within is.before is.begins) lacks new is.begins (within new ([], append-nil new)) old (drops-none is.before is.begun is.begins) r faults is.sights is.step
      (client-knows on.fixed.terms.origin old is.before (goes-on-from old is.before new drops is.begins) (main is.before is.begins) on.forms client steps number k is.step places is.sights is.is_step is.played)
      is.refused
  may-come faults client steps number (Unseen k places) is = client-sees on.forms on.fixed.terms.origin (length old) new client steps number k is.step places is.sights is.is_step is.played is.unseen

-- each first part of a valid history is within the terms
pub first-within : {S O R Q A : Type 0} (m : Meaning S O R Q A) (terms : Terms) (address : List ℕ → List ℕ) → KeepsLimits m → MakesFewerMoves m → HasFullyValidPrefixes m
    → (new : List (Move O R)) → IsFullyValid (fix m terms address) new → (moves : List (Move O R)) → IsPrefix moves new → IsWithin terms moves
first-within {S} {O} {R} {Q} {A} m terms address keeps fewer prefixes new valid moves begins =
    let whole : IsFullyValid (fix m terms address) (moves ++ begins.0) = subst (IsFullyValid (fix m terms address)) (sym begins.1) valid in
    keeps terms moves (fewer terms address moves (prefixes terms address moves begins.0 whole))

-- and has `main`
pub first-main : {S O R Q A : Type 0} (m : Meaning S O R Q A) (terms : Terms) (address : List ℕ → List ℕ) → KeepsOrder m → MakesFewerMoves m → HasFullyValidPrefixes m
    → (new : List (Move O R)) → IsFullyValid (fix m terms address) new → (moves : List (Move O R)) → IsPrefix moves new → IsKeptBranch (store_of terms.origin moves).branches 0
first-main {S} {O} {R} {Q} {A} m terms address keeps fewer prefixes new valid moves begins =
    let whole : IsFullyValid (fix m terms address) (moves ++ begins.0) = subst (IsFullyValid (fix m terms address)) (sym begins.1) valid in
    (keeps terms moves (fewer terms address moves (prefixes terms address moves begins.0 whole))).main
