-- What a crash leaves of a core that clients shared, for who knows the core as it was before.
use Rattle.std.proofs.Common.{◌≡◌, ℕ, inl, inr, ⊎_elim, List, [], ◌++◌, refl, sym, subst, arith}
use Rattle.std.proofs.lemmas.List.{append-nil}
use Rattle.branch_disk.specs.Disk.{Files}
use Rattle.branch_disk.specs.Moments.{started}
use Rattle.branch_disk.specs.declared.disk.Disk.{Ghosts}
use Rattle.branch_history.specs.declared.moves.Move.{Move}
use Rattle.branch_machine.specs.Fixed.{Fixed}
use Rattle.branch_machine.specs.Validity.{IsFullyValid}
use Rattle.branch_files.specs.Stands.{Stands}
use Rattle.store_core.specs.Images.{AllStand}
use Rattle.store_core.specs.Views.{StoreView}
use Rattle.branch_shared.specs.Crashes.{IsSafe, IsSafeFrom, IsSharedAt, StandsFrom}
use Rattle.client_runs.proofs.Drawn.{all-mapped}

module _ {D S O R Q A : Type 0} (disk : Ghosts D) (fixed : Fixed S O R Q A) (allows : Move O R → Type 0) where
  -- who knows the disk as it was when the store was shared needs no name
  pub safe-from : (since : ℕ) (left : ℕ → Files → Type 0) (begun : List (Move O R)) (old new : StoreView (Move O R) D) → IsSharedAt disk since left old → old.history ≡ begun → IsSafe disk fixed since left begun allows new → IsSafeFrom disk fixed allows old new
  safe-from since left begun old new shared named safe =
      let first : List (Move O R) = new.history ++ safe.tail in
      let from = subst (λ (b : List (Move O R)). IsSafe disk fixed since left b allows new) (sym named) safe in
      let at : ℕ = disk.moment old.disk in
      record {
        tail = from.tail;
        begins = from.begins;
        none = from.none;
        few = from.few;
        allowed = from.allowed;
        valid = from.valid;
        now = from.now;
        moments = record {
          later = omega (arith, from.moments.later, shared.moment_is);
          each = λ c image. from.moments.each c (subst (λ (t : ℕ). disk.left_since new.disk t c) shared.moment_is image);
          before = λ t c le image. ⊎_elim (λ was. inl (shared.no_more t c was)) (λ now. inr now) (from.moments.before t c (omega (arith, le, shared.moment_is)) image);
          keeps = λ t c le image. from.moments.keeps t c (omega (arith, le, shared.moment_is)) (shared.no_less t c image);
        };
      }

  -- a core that nobody shared
  pub safe-still : (core : StoreView (Move O R) D) → ((d : D) (c : Files) → disk.left_since d (disk.moment d) c → disk.may_leave d c) → IsFullyValid fixed core.history → AllStand fixed core.history (disk.may_leave core.disk) → IsSafeFrom disk fixed allows core core
  safe-still core only_now valid stand =
      let none = append-nil core.history in
      record {
        tail = [];
        begins = ([], none);
        none = λ works. refl;
        few = omega arith;
        allowed = tt;
        valid = subst (IsFullyValid fixed) (sym none) valid;
        now = λ c image. ([], ([], refl), subst (λ (h : List (Move O R)). Stands fixed h c) (sym none) (stand c image));
        moments = started disk.moment disk.left_since core.disk (StandsFrom fixed core.history (core.history ++ []))
            (λ c image. record { moves = core.history; begins = ([], none); within = ([], refl); stands = stand c (only_now core.disk c image) });
      }

  -- what allows less is safe for what allows more
  pub safe-wider : (more : Move O R → Type 0) → ((made : Move O R) → allows made → more made) → (old new : StoreView (Move O R) D) → IsSafeFrom disk fixed allows old new → IsSafeFrom disk fixed more old new
  safe-wider more wider old new safe = record {
    tail = safe.tail;
    begins = safe.begins;
    none = safe.none;
    few = safe.few;
    allowed = all-mapped allows more wider safe.tail safe.allowed;
    valid = safe.valid;
    now = safe.now;
    moments = safe.moments;
  }
