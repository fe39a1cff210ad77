-- Moves made again, one after the other.
use Rattle.std.proofs.Common.{◌≡◌, ◌≢◌, ◌⊎◌, Option, arith, inl, inr, ⊎_elim, ℕ, ◌≤◌, false, true, List, [], ◌∷◌, ◌++◌, length, refl, ap, sym, ◌∙◌, subst, append_assoc, append-nil}
use Rattle.std.specs.Prelude.{Result, Ok, Err, OnOk, IfErr}
use Rattle.std.specs.Option.{ForSome}
use Rattle.branch_io.specs.Causes.{HasCauseOf}
use Rattle.branch_names.specs.declared.terms.Terms.{Terms}
use Rattle.branch_history.specs.History.{store_of}
use Rattle.branch_machine.specs.Validity.{IsFullyValid}
use mathlib.Core.List.{IsPrefix}
use Rattle.branch_disk.specs.Disk.{Files, LeavesOnly}
use Rattle.branch_disk.specs.declared.disk.Disk.{Ghosts}
use Rattle.branch_disk.specs.Moments.{started, goes_on, weakened}
use Rattle.mrdt_model.specs.Laws.{Meaning}
use Rattle.branch_history.specs.declared.moves.Move.{Move}
use Rattle.branch_machine.specs.Fixed.{Fixed, fix}
use Rattle.branch_files.specs.Stands.{Stands}
use Rattle.branch_renewal.specs.Laws.{Repeats, RepeatsAll, IsRefused}
use Rattle.store_core.specs.declared.answers.InitRefused.{InitRefused}
use Rattle.store_core.specs.declared.answers.InitRefused.TheVariants as init_refusal
use Rattle.store_core.specs.Images.{AllStand, WithOrWithout, NoneOrEmpty}
use Rattle.store_core.specs.Inits.{IsEmpty, InitRefusedAs}
use Rattle.store_core.specs.Views.{StoreView}
use Rattle.moves_again.specs.declared.answers.MoveRefused.{MoveRefused}
use Rattle.moves_again.specs.declared.answers.MoveRefused.TheVariants as move_refusal
use Rattle.moves_again.specs.declared.answers.MakeRefused.{MakeRefused}
use Rattle.moves_again.specs.declared.answers.MakeRefused.TheVariants as make_refusal
use Rattle.moves_again.specs.Again.{MakesOne, MakesAll, LeavesOne, HasMade, StandsWithSome, NoneOrSome, AllMade, MakeRefusedAs, stopped, init_refused}

-- some first ones of the moves were made of a store, and the rest are made again behind them
pub record GoesOn {D S O R Q A : Type 0} (disk : Ghosts D) (meaning : Meaning S O R Q A) (address : List ℕ → List ℕ)
    (moves rest : List (Move O R)) (old now : StoreView (Move O R) D) : Type 0 where
  pub first : List (Move O R)
  pub parts : moves ≡ first ++ rest
  pub made : HasMade first old now
  pub repeats : RepeatsAll (fix meaning old.terms address) (old.history ++ first) rest
  pub stands : AllStand (fix meaning old.terms address) (old.history ++ first) (disk.may_leave now.disk)
  pub moments : LeavesOnly disk.moment disk.left_since old.disk now.disk (StandsWithSome (fix meaning old.terms address) old.history moves)
  pub faults : disk.faults now.disk ≡ disk.faults old.disk

module _ {D S O R Q A : Type 0} (disk : Ghosts D) (meaning : Meaning S O R Q A) (address : List ℕ → List ℕ) (old : StoreView (Move O R) D) where
  abbrev fixed : Fixed S O R Q A
  fixed = fix meaning old.terms address

  -- a fact about a store that has made some moves
  at_store : (first : List (Move O R)) (now : StoreView (Move O R) D) → HasMade first old now → (P : StoreView (Move O R) D → Type 0) → P now → P (record old { history = old.history ++ first; disk = now.disk })
  at_store first now made P p = subst P made p

  made_none : HasMade {D = D} [] old old
  made_none = ap (λ (h : List (Move O R)). record old { history = h }) (sym (append-nil old.history))

  pub goes-on-start : (moves : List (Move O R)) → RepeatsAll fixed old.history moves → AllStand fixed old.history (disk.may_leave old.disk)
      → ((d : D) (c : Files) → disk.left_since d (disk.moment d) c → disk.may_leave d c) → GoesOn disk meaning address moves moves old old
  goes-on-start moves repeats stands only_now = record {
    first = [];
    parts = refl;
    made = made_none;
    repeats = subst (λ (h : List (Move O R)). RepeatsAll fixed h moves) (sym (append-nil old.history)) repeats;
    stands = subst (λ (h : List (Move O R)). AllStand fixed h (disk.may_leave old.disk)) (sym (append-nil old.history)) stands;
    moments = started disk.moment disk.left_since old.disk (StandsWithSome fixed old.history moves)
        (λ c left. ([], (moves, refl), subst (λ (h : List (Move O R)). Stands fixed h c) (sym (append-nil old.history)) (stands c (only_now old.disk c left))));
    faults = refl;
  }

  module _ (moves rest : List (Move O R)) (m : Move O R) (now new : StoreView (Move O R) D) (goes : GoesOn disk meaning address moves (m ∷ rest) old now) where
    abbrev first : List (Move O R)
    first = goes.first

    -- what the loop hands to the making of one move
    pub next-repeats : Repeats (fix meaning now.terms address) now.history m
    next-repeats = subst (λ (v : StoreView (Move O R) D). Repeats (fix meaning v.terms address) v.history m) (sym goes.made) goes.repeats.0

    pub next-worked : old.failed ≡ false → now.failed ≡ false
    next-worked worked = ap (λ (v : StoreView (Move O R) D). v.failed) goes.made ∙ worked

    some_more : (c : Files) → WithOrWithout fixed (old.history ++ first) (m ∷ []) c → StandsWithSome fixed old.history moves c
    some_more c (inl before) = (first, (m ∷ rest, sym goes.parts), before)
    some_more c (inr after) =
        (first ++ m ∷ [], (rest, append_assoc first (m ∷ []) rest ∙ sym goes.parts), subst (λ (h : List (Move O R)). Stands fixed h c) (append_assoc old.history first (m ∷ [])) after)

    pub next-moments : LeavesOne disk (fix meaning now.terms address) m now new → LeavesOnly disk.moment disk.left_since old.disk new.disk (StandsWithSome fixed old.history moves)
    next-moments leaves =
        let at = subst (λ (v : StoreView (Move O R) D). LeavesOne disk (fix meaning v.terms address) m v new) goes.made leaves in
        goes_on disk.moment disk.left_since old.disk now.disk new.disk (StandsWithSome fixed old.history moves) (WithOrWithout fixed (old.history ++ first) (m ∷ [])) goes.moments (at goes.stands) some_more

    one_more : (v : StoreView (Move O R) D) → v ≡ record old { history = old.history ++ first; disk = now.disk } → new ≡ record v { history = v.history ++ m ∷ []; disk = new.disk } → HasMade (first ++ m ∷ []) old new
    one_more v is made =
        made ∙ ap (λ (v : StoreView (Move O R) D). record v { history = v.history ++ m ∷ []; disk = new.disk }) is
        ∙ ap (λ (h : List (Move O R)). record old { history = h; disk = new.disk }) (append_assoc old.history first (m ∷ []))

    -- one move more was made
    pub goes-on-next : MakesOne (fix meaning now.terms address) m now new (Ok tt) → LeavesOne disk (fix meaning now.terms address) m now new
        → AllStand (fix meaning new.terms address) new.history (disk.may_leave new.disk) → disk.faults new.disk ≡ disk.faults now.disk → GoesOn disk meaning address moves rest old new
    goes-on-next makes leaves stands faults =
        let made : HasMade (first ++ m ∷ []) old new = one_more now goes.made makes in
        record {
          first = first ++ m ∷ [];
          parts = goes.parts ∙ sym (append_assoc first (m ∷ []) rest);
          made = made;
          repeats = subst (λ (h : List (Move O R)). RepeatsAll fixed h rest) (append_assoc old.history first (m ∷ [])) goes.repeats.1;
          stands = subst (λ (v : StoreView (Move O R) D). AllStand (fix meaning v.terms address) v.history (disk.may_leave new.disk)) made stands;
          moments = next-moments leaves;
          faults = faults ∙ goes.faults;
        }

    -- a move that was not made ends it
    pub stops : (e : MoveRefused) → MakesOne (fix meaning now.terms address) m now new (Err e) → MakesAll fixed moves old new (Err e)
    stops move_refusal.Refused makes =
        let refused = subst (λ (v : StoreView (Move O R) D). IsRefused (fix meaning v.terms address) v.history m) goes.made makes.1 in
        let same_disk : now.disk ≡ new.disk = ap (λ (v : StoreView (Move O R) D). v.disk) (sym makes.0) in
        let has : HasMade first old new = makes.0 ∙ goes.made ∙ ap (λ (d : D). record old { history = old.history ++ first; disk = d }) same_disk in
        (first, m, rest, goes.parts, has, refused)
    stops move_refusal.DiskFault makes =
        (first, makes ∙ ap (λ (v : StoreView (Move O R) D). record v { failed = true; disk = new.disk }) goes.made)
    stops move_refusal.Memory makes =
        let same_disk : now.disk ≡ new.disk = ap (λ (v : StoreView (Move O R) D). v.disk) (sym makes) in
        (first, makes ∙ goes.made ∙ ap (λ (d : D). record old { history = old.history ++ first; disk = d }) same_disk)

  -- and it ends where none is left
  pub goes-on-end : (moves rest : List (Move O R)) (now : StoreView (Move O R) D) → rest ≡ [] → GoesOn disk meaning address moves rest old now → HasMade moves old now
  goes-on-end moves rest now none goes =
      let all : goes.first ≡ moves = sym (goes.parts ∙ ap (λ (r : List (Move O R)). goes.first ++ r) none ∙ append-nil goes.first) in
      goes.made ∙ ap (λ (f : List (Move O R)). record old { history = old.history ++ f; disk = now.disk }) all

-- a list of no items
pub none_left : {X : Type 0} (xs : List X) → length xs ≡ 0 → xs ≡ []
none_left [] is = refl
none_left (x ∷ xs) is = absurd (omega arith)

-- the cause of a refusal, where no count had risen before
pub cause-goes-on : {T E : Type 0} {fault : E} (before mid now : ℕ) (r : Result T E) → mid ≡ before → HasCauseOf fault mid now r → HasCauseOf fault before now r
cause-goes-on {T} {E} {fault} before mid now r same cause = subst (λ n. HasCauseOf fault n now r) same cause

-- files of no moves have some first ones
pub none_or_some : {S O R Q A : Type 0} (fixed : Fixed S O R Q A) (moves : List (Move O R)) (c : Files) → NoneOrEmpty fixed c → NoneOrSome fixed moves c
none_or_some fixed moves c (inl none) = inl none
none_or_some fixed moves c (inr stands) = inr ([], (moves, refl), stands)

-- a store of these moves, from the making of an empty one and of the moves behind it
module _ {D S O R Q A : Type 0} (disk : Ghosts D) (meaning : Meaning S O R Q A) (address : List ℕ → List ℕ) (terms : Terms) (moves : List (Move O R))
    (start : D) (core new : StoreView (Move O R) D) (made : core ≡ record { history = []; terms = terms; failed = false; disk = core.disk; opened = core.disk }) where
  abbrev whole : Fixed S O R Q A
  whole = fix meaning terms address

  pub begun-working : core.failed ≡ false
  begun-working = ap (λ (v : StoreView (Move O R) D). v.failed) made

  terms_are : core.terms ≡ terms
  terms_are = ap (λ (v : StoreView (Move O R) D). v.terms) made

  none_yet : core.history ≡ []
  none_yet = ap (λ (v : StoreView (Move O R) D). v.history) made

  pub begun-repeats : RepeatsAll whole [] moves → RepeatsAll (fix meaning core.terms address) core.history moves
  begun-repeats repeats = subst (λ (v : StoreView (Move O R) D). RepeatsAll (fix meaning v.terms address) v.history moves) (sym made) repeats

  part_of : (first : List (Move O R)) → HasMade first core new → new ≡ record { history = first; terms = terms; failed = false; disk = new.disk; opened = core.disk }
  part_of first has = has ∙ ap (λ (v : StoreView (Move O R) D). record v { history = v.history ++ first; disk = new.disk }) made

  pub all-made : HasMade moves core new → IsFullyValid (fix meaning new.terms address) new.history
      → (new.failed ≡ false → AllStand (fix meaning new.terms address) new.history (disk.may_leave new.disk)) → AllMade whole moves (length new.history) (disk.may_leave new.disk)
  all-made has valid stands =
      let is = part_of moves has in
      record {
        counted = ap (λ (v : StoreView (Move O R) D). length v.history) is;
        valid = subst (λ (v : StoreView (Move O R) D). IsFullyValid (fix meaning v.terms address) v.history) is valid;
        stands = subst (λ (v : StoreView (Move O R) D). AllStand (fix meaning v.terms address) v.history (disk.may_leave new.disk)) is (stands (ap (λ (v : StoreView (Move O R) D). v.failed) is));
      }

  -- why they were not all made
  pub not-made : ForSome (disk.contents start) IsEmpty → IsFullyValid (fix meaning new.terms address) new.history
      → (new.failed ≡ false → AllStand (fix meaning new.terms address) new.history (disk.may_leave new.disk))
      → (e : MoveRefused) → MakesAll (fix meaning core.terms address) moves core new (Err e)
      → MakeRefusedAs whole moves (disk.contents start) (disk.contents new.disk) (disk.may_leave new.disk) (stopped (length (store_of new.terms.origin new.history).commits) e)
  not-made empty valid stands move_refusal.Refused (first, m, rest, parts, has, refused) =
      let is = part_of first has in (
        empty,
        record {
          first = first;
          made = m;
          rest = rest;
          parts = parts;
          counted = ap (λ (v : StoreView (Move O R) D). length (store_of v.terms.origin v.history).commits) is;
          refused = subst (λ (v : StoreView (Move O R) D). IsRefused (fix meaning v.terms address) (v.history ++ first) m) made refused;
          valid = subst (λ (v : StoreView (Move O R) D). IsFullyValid (fix meaning v.terms address) v.history) is valid;
          stands = subst (λ (v : StoreView (Move O R) D). AllStand (fix meaning v.terms address) v.history (disk.may_leave new.disk)) is (stands (ap (λ (v : StoreView (Move O R) D). v.failed) is));
        },
      )
  not-made empty valid stands move_refusal.DiskFault is = tt
  not-made empty valid stands move_refusal.Memory is = empty

  -- what a crash leaves meanwhile
  pub made-moments : LeavesOnly disk.moment disk.left_since start core.disk (NoneOrEmpty whole)
      → LeavesOnly disk.moment disk.left_since core.disk new.disk (StandsWithSome (fix meaning core.terms address) core.history moves)
      → LeavesOnly disk.moment disk.left_since start new.disk (NoneOrSome whole moves)
  made-moments begun then =
      let some = subst (λ (v : StoreView (Move O R) D). LeavesOnly disk.moment disk.left_since core.disk new.disk (StandsWithSome (fix meaning v.terms address) v.history moves)) made then in
      goes_on disk.moment disk.left_since start core.disk new.disk (NoneOrSome whole moves) (StandsWithSome whole [] moves)
      (weakened disk.moment disk.left_since start core.disk (NoneOrEmpty whole) (NoneOrSome whole moves) begun (none_or_some whole moves)) some (λ c is. inr is)

-- what the result of the last step is, by what the moves came to
module _ {D : Type 0} (commits count : ℕ) (disk : D) where
  pub by-result : (made : Result (Unit {0}) MoveRefused) (r : Result (ℕ × D) (MakeRefused × D))
      → OnOk made (r ≡ Ok (count, disk)) → IfErr made (λ e. r ≡ Err (stopped commits e, disk))
      → (P : Result (Unit {0}) MoveRefused → Result (ℕ × D) (MakeRefused × D) → Type 0)
      → P (Ok tt) (Ok (count, disk)) → ((e : MoveRefused) → P (Err e) (Err (stopped commits e, disk))) → P made r
  by-result (Ok done) r ok err P through refused = subst (λ k. P (Ok done) k) (sym ok) through
  by-result (Err e) r ok err P through refused = subst (λ k. P (Err e) k) (sym err) (refused e)

-- causes, as refusals of the making
pub cause-stopped : {T X : Type 0} (commits before now : ℕ) (e : MoveRefused) → HasCauseOf {T = X} move_refusal.DiskFault before now (Err e) → HasCauseOf {T = T} make_refusal.DiskFault before now (Err (stopped commits e))
cause-stopped commits before now move_refusal.Refused cause = record { later = cause.later; failed = λ is. absurd (cc); others = λ _. cause.others (λ is. cc) }
cause-stopped commits before now move_refusal.DiskFault cause = record { later = cause.later; failed = λ _. cause.failed refl; others = λ other. absurd (other refl) }
cause-stopped commits before now move_refusal.Memory cause = record { later = cause.later; failed = λ is. absurd (cc); others = λ _. cause.others (λ is. cc) }

pub cause-unbegun : {T X : Type 0} (before now : ℕ) (e : InitRefused) → HasCauseOf {T = X} init_refusal.DiskFault before now (Err e) → HasCauseOf {T = T} make_refusal.DiskFault before now (Err (init_refused e))
cause-unbegun before now (init_refusal.NotEmpty length) cause = record { later = cause.later; failed = λ is. absurd (cc); others = λ _. cause.others (λ is. cc) }
cause-unbegun before now init_refusal.DiskFault cause = record { later = cause.later; failed = λ _. cause.failed refl; others = λ other. absurd (other refl) }
cause-unbegun before now init_refusal.Memory cause = record { later = cause.later; failed = λ is. absurd (cc); others = λ _. cause.others (λ is. cc) }

-- no store was begun
pub unbegun : {S O R Q A : Type 0} (fixed : Fixed S O R Q A) (moves : List (Move O R)) (told now : Option Files) (images : Files → Type 0)
    → (e : InitRefused) → ForSome told (InitRefusedAs e) → (e ≢ init_refusal.DiskFault → now ≡ told) → MakeRefusedAs fixed moves told now images (init_refused e)
unbegun fixed moves told now images (init_refusal.NotEmpty length) is same = (is, same (λ e. cc))
unbegun fixed moves told now images init_refusal.DiskFault is same = tt
unbegun fixed moves told now images init_refusal.Memory is same = is
