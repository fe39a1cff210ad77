-- What a crash leaves of a shared store goes on from call to call.
use Rattle.std.proofs.Common.{◌≡◌, inl, inr, ⊎_elim, ℕ, ◌≤◌, true, false, List, [], ◌++◌, length, refl, ap, sym, subst, ◌∙◌, arith, append_assoc}
use Rattle.std.proofs.lemmas.List.{append-nil}
use Rattle.std.specs.List.{AllByRecursion}
use mathlib.Core.List.{IsPrefix}
use Rattle.branch_disk.specs.Disk.{Files, LeavesOnly}
use Rattle.branch_disk.specs.declared.disk.Disk.{Ghosts}
use Rattle.branch_front.proofs.Prefixes.{prefix_self, prefix_more, prefix_trans}
use Rattle.branch_history.specs.declared.moves.Move.{Move}
use Rattle.branch_machine.specs.Fixed.{Fixed}
use Rattle.branch_machine.specs.Validity.{IsFullyValid}
use Rattle.branch_files.specs.Stands.{Stands}
use Rattle.store_core.specs.Images.{AllStand, WithFirst, WithOrWithout}
use Rattle.store_core.specs.Views.{StoreView}
use Rattle.branch_shared.specs.Crashes.{LeavesSince, StandsFrom, IsSafe, IsSharedAt}

module _ {S O R Q A : Type 0} (fixed : Fixed S O R Q A) where
  -- with or without some moves is with the first of them
  pub first-of : (history more : List (Move O R)) (c : Files) → WithOrWithout fixed history more c → WithFirst fixed history more c
  first-of history more c is =
      ⊎_elim (λ none. ([], (more, refl), subst (λ (h : List (Move O R)). Stands fixed h c) (sym (append-nil history)) none)) (λ all. (more, prefix_self more, all)) is

  -- what stands for a beginning does so where more moves follow
  widened : (begun short long : List (Move O R)) → IsPrefix short long → (c : Files) → StandsFrom fixed begun short c → StandsFrom fixed begun long c
  widened begun short long further c is = record { moves = is.moves; begins = is.begins; within = prefix_trans is.moves short long is.within further; stands = is.stands }

  -- a history with the first of more moves behind it begins with what the history begins with
  from-first : (begun history more : List (Move O R)) → IsPrefix begun history → (c : Files) → WithFirst fixed history more c → StandsFrom fixed begun (history ++ more) c
  from-first begun history more begins c is = record {
    moves = history ++ is.0;
    begins = prefix_trans begun history (history ++ is.0) begins (prefix_more history is.0);
    within = (is.1.0, append_assoc history is.0 is.1.0 ∙ ap (λ (l : List (Move O R)). history ++ l) is.1.1);
    stands = is.2;
  }

module _ {D S O R Q A : Type 0} (disk : Ghosts D) (fixed : Fixed S O R Q A) (since : ℕ) (left : ℕ → Files → Type 0) (begun : List (Move O R)) (allows : Move O R → Type 0) where
  abbrev Safe : StoreView (Move O R) D → Type 0
  Safe core = IsSafe disk fixed since left begun allows core

  -- a store that has just got its name
  pub safe-first : (core : StoreView (Move O R) D) → ((d : D) (c : Files) → disk.left_since d (disk.moment d) c → disk.may_leave d c) → IsSharedAt disk since left core → core.history ≡ begun → IsFullyValid fixed core.history
      → AllStand fixed core.history (disk.may_leave core.disk) → Safe core
  safe-first core only_now shared named valid stand =
      let whole : IsPrefix begun core.history = subst (IsPrefix begun) (sym named) (prefix_self begun) in
      let none : core.history ++ [] ≡ core.history = append-nil core.history in
      record {
        tail = [];
        begins = whole;
        none = λ works. refl;
        few = omega arith;
        allowed = tt;
        valid = subst (IsFullyValid fixed) (sym none) valid;
        now = λ c image. ([], ([], refl), subst (λ (h : List (Move O R)). Stands fixed h c) (sym none) (stand c image));
        moments = record {
          later = omega (arith, shared.moment_is);
          each = λ c image. record {
            moves = core.history;
            begins = whole;
            within = ([], refl);
            stands = stand c (only_now core.disk c (subst (λ (t : ℕ). disk.left_since core.disk t c) (sym shared.moment_is) image));
          };
          before = λ t c le image. inl (shared.no_less t c image);
          keeps = λ t c le image. shared.no_more t c image;
        };
      }

  -- the call of a store that worked goes on from its moments
  module _ (old : StoreView (Move O R) D) (safe : Safe old) (worked : old.failed ≡ false) (made : List (Move O R)) (new : D) (call : LeavesOnly disk.moment disk.left_since old.disk new (WithFirst fixed old.history made)) where
    further : IsPrefix (old.history ++ safe.tail) (old.history ++ made)
    further = (made, ap (λ (l : List (Move O R)). (old.history ++ l) ++ made) (safe.none worked) ∙ ap (λ (l : List (Move O R)). l ++ made) (append-nil old.history))

    abbrev Stays : Files → Type 0
    Stays = StandsFrom fixed begun (old.history ++ made)

    earlier : (c : Files) → StandsFrom fixed begun (old.history ++ safe.tail) c → Stays c
    earlier c is = widened fixed begun (old.history ++ safe.tail) (old.history ++ made) further c is

    later : (c : Files) → WithFirst fixed old.history made c → Stays c
    later c is = from-first fixed begun old.history made safe.begins c is

    goes-on : LeavesSince disk since left new Stays
    goes-on = record {
      later = omega (arith, safe.moments.later, call.later);
      each = λ c image. ⊎_elim (λ was. earlier c (safe.moments.each c was)) (later c) (call.before since c safe.moments.later image);
      before = λ t c le image.
          ⊎_elim (λ was. ⊎_elim (λ first. inl first) (λ then. inr (earlier c then)) (safe.moments.before t c le was)) (λ now. inr (later c now)) (call.before t c (omega (arith, le, safe.moments.later)) image);
      keeps = λ t c le image. call.keeps t c (omega (arith, le, safe.moments.later)) (safe.moments.keeps t c le image);
    }

  -- moves were made
  pub safe-grown : (old new : StoreView (Move O R) D) (made : List (Move O R)) → Safe old → old.failed ≡ false → LeavesOnly disk.moment disk.left_since old.disk new.disk (WithFirst fixed old.history made)
      → new.history ≡ old.history ++ made → IsFullyValid fixed new.history → AllStand fixed new.history (disk.may_leave new.disk) → Safe new
  safe-grown old new made safe worked call grown valid stand =
      let none : new.history ++ [] ≡ new.history = append-nil new.history in
      record {
        tail = [];
        begins = prefix_trans begun old.history new.history safe.begins (made, sym grown);
        none = λ works. refl;
        few = omega arith;
        allowed = tt;
        valid = subst (IsFullyValid fixed) (sym none) valid;
        now = λ c image. ([], ([], refl), subst (λ (h : List (Move O R)). Stands fixed h c) (sym none) (stand c image));
        moments = subst (λ (h : List (Move O R)). LeavesSince disk since left new.disk (StandsFrom fixed begun h)) (sym (none ∙ grown)) (goes-on old safe worked made new.disk call);
      }

  -- the disk failed under them
  pub safe-failed : (old new : StoreView (Move O R) D) (made : List (Move O R)) → Safe old → old.failed ≡ false → LeavesOnly disk.moment disk.left_since old.disk new.disk (WithFirst fixed old.history made)
      → new ≡ record old { failed = true; disk = new.disk } → length made ≤ 64 → AllByRecursion allows made → IsFullyValid fixed (old.history ++ made) → ((c : Files) → disk.may_leave new.disk c → WithFirst fixed old.history made c) → Safe new
  safe-failed old new made safe worked call kept few may valid leaves =
      let fails : StoreView (Move O R) D = record old { failed = true; disk = new.disk } in
      let is : Safe fails = record {
        tail = made;
        begins = safe.begins;
        none = λ works. let never : true ≡ false = works in absurd (cc never);
        few = few;
        allowed = may;
        valid = valid;
        now = leaves;
        moments = goes-on old safe worked made new.disk call;
      } in
      subst Safe (sym kept) is

  -- nothing has changed
  pub safe-same : (old new : StoreView (Move O R) D) → Safe old → new ≡ old → Safe new
  safe-same old new safe same = subst Safe (sym same) safe
