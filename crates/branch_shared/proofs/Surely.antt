-- What was acknowledged stays sure from call to call.
use Rattle.std.proofs.Common.{◌≡◌, inl, inr, ◌⊎◌, ⊎_elim, ℕ, zero, suc, ◌+◌, ◌<◌, ◌≤◌, List, [], ◌∷◌, ◌++◌, length, take, drop, replicate, ap, sym, subst, ◌∙◌, arith, append_assoc}
use Rattle.std.proofs.lemmas.List.{append-nil, take-append-drop, take-append-le}
use Rattle.std.specs.Prelude.{slice_get, None, Some}
use mathlib.Core.List.{IsPrefix}
use Rattle.branch_disk.specs.Disk.{Files, LeavesOnly}
use Rattle.branch_disk.specs.declared.disk.Disk.{Ghosts}
use Rattle.branch_history.specs.declared.moves.Move.{Move}
use Rattle.branch_machine.specs.Fixed.{Fixed}
use Rattle.branch_files.specs.Stands.{Stands}
use Rattle.store_core.specs.Images.{AllStand, WithFirst}
use Rattle.store_core.specs.Views.{StoreView}
use Rattle.branch_shared.specs.Crashes.{IsSureSince, AreSure}
use Rattle.branch_shared.proofs.Entries.{GoOn}
use Rattle.branch_shared.proofs.Places.{prefix-whole}

-- an item that is there stands within the list, and where more follow too
get-within : {X : Type 0} (xs : List X) (n : ℕ) (x : X) → slice_get xs n ≡ Some x → n < length xs
get-within [] n x at = absurd (cc at)
get-within (y ∷ xs) zero x at = omega arith
get-within (y ∷ xs) (suc n) x at = omega (arith, get-within xs n x at)

get-more : {X : Type 0} (xs ys : List X) (n : ℕ) (x : X) → slice_get xs n ≡ Some x → slice_get (xs ++ ys) n ≡ Some x
get-more [] ys n x at = absurd (cc at)
get-more (y ∷ xs) ys zero x at = at
get-more (y ∷ xs) ys (suc n) x at = get-more xs ys n x at

get-same : {X : Type 0} (count : ℕ) (y : X) (n : ℕ) (x : X) → slice_get (replicate count y) n ≡ Some x → x ≡ y
get-same zero y n x at = absurd (cc at)
get-same (suc count) y zero x at = let same : y ≡ x = cc at in sym same
get-same (suc count) y (suc n) x at = get-same count y n x at

-- an item of a list, and behind it some number of times this one, is one of the list or is this one
get-behind : {X : Type 0} (xs : List X) (count : ℕ) (y : X) (n : ℕ) (x : X) → slice_get (xs ++ replicate count y) n ≡ Some x → (slice_get xs n ≡ Some x) ⊎ (x ≡ y)
get-behind [] count y n x at = inr (get-same count y n x at)
get-behind (z ∷ xs) count y zero x at = inl at
get-behind (z ∷ xs) count y (suc n) x at = get-behind xs count y n x at

-- moments that go on to no more are the same
pub goes-nowhere : (since : ℕ) (old new : List ℕ) → GoOn since old new → length new ≡ length old → old ≡ new
goes-nowhere since old new on same = prefix-whole old new (replicate on.count since, sym on.is) (sym same)

module _ {D S O R Q A : Type 0} (disk : Ghosts D) (fixed : Fixed S O R Q A) (begun : List (Move O R)) where
  abbrev Sure : List (Move O R) → List ℕ → D → Type 0
  Sure moves sure now = AreSure disk fixed begun moves sure now

  -- a store that has just got its name
  pub sure-first : (moves : List (Move O R)) (sure : List ℕ) (now : D) → moves ≡ begun → sure ≡ [] → Sure moves sure now
  sure-first moves sure now whole none = record {
    long = omega (arith, ap length whole, ap length none);
    each = λ n since at. absurd (let never : None ≡ Some since = subst (λ (l : List ℕ). slice_get l n ≡ Some since) none at in cc never);
  }

  -- what is said of moves is said of their beginning
  pub sure-begins : (few moves : List (Move O R)) (some sure : List ℕ) (now : D) → IsPrefix few moves → IsPrefix some sure → length begun + length some ≡ length few → Sure moves sure now → Sure few some now
  sure-begins few moves some sure now begins known long is = record {
    long = long;
    each = λ n since at.
        let whole : slice_get sure n ≡ Some since = subst (λ (l : List ℕ). slice_get l n ≡ Some since) known.1 (get-more some known.0 n since at) in
        let count = length begun + n + 1 in
        let within : count ≤ length few = omega (arith, long, get-within some n since at) in
        let same : take count moves ≡ take count few = sym (ap (λ (l : List (Move O R)). take count l) begins.1) ∙ take-append-le count few begins.0 within in
        subst (λ (l : List (Move O R)). IsSureSince disk fixed l since now) same (is.each n since whole);
  }

  -- the files stand for these moves, with whatever behind them
  abbrev GoesOn : List (Move O R) → Files → Type 0
  GoesOn moves c = (more : List (Move O R)) × Stands fixed (moves ++ more) c

  -- with the first of them behind them, they do for each beginning
  from-begin : (moves : List (Move O R)) (n : ℕ) (c : Files) → GoesOn moves c → GoesOn (take n moves) c
  from-begin moves n c is =
      let same : take n moves ++ (drop n moves ++ is.0) ≡ moves ++ is.0 = sym (append_assoc (take n moves) (drop n moves) is.0) ∙ ap (λ (l : List (Move O R)). l ++ is.0) (take-append-drop n moves) in
      (drop n moves ++ is.0, subst (λ (l : List (Move O R)). Stands fixed l c) (sym same) is.1)

  -- a call of the disk that leaves all that there was
  pub sure-stays : (moves more : List (Move O R)) (sure : List ℕ) (old new : D) → Sure moves sure old → LeavesOnly disk.moment disk.left_since old new (WithFirst fixed moves more) → Sure moves sure new
  sure-stays moves more sure old new is call = record {
    long = is.long;
    each = λ n since at.
        let one = is.each n since at in
        record {
          come = omega (arith, one.come, call.later);
          have = λ c image. ⊎_elim (λ was. one.have c was) (λ now. from-begin moves (length begun + n + 1) c (now.0, now.2)) (call.before since c one.come image);
        };
  }

  -- and moves that each image has now, and that are acknowledged now
  pub sure-grown : (old new : StoreView (Move O R) D) (made : List (Move O R)) (us vs : List ℕ) → ((d : D) (c : Files) → disk.left_since d (disk.moment d) c → disk.may_leave d c)
      → GoOn (disk.moment new.disk) us vs → length begun + length vs ≡ length new.history
      → Sure old.history us old.disk → LeavesOnly disk.moment disk.left_since old.disk new.disk (WithFirst fixed old.history made) → new.history ≡ old.history ++ made → AllStand fixed new.history (disk.may_leave new.disk)
      → Sure new.history vs new.disk
  sure-grown old new made us vs only_now on long is call grown stand =
      let stays = sure-stays old.history made us old.disk new.disk is call in
      record {
        long = long;
        each = λ n since at.
            let count = length begun + n + 1 in
            ⊎_elim
            (λ (before : slice_get us n ≡ Some since).
            let within : count ≤ length old.history = omega (arith, is.long, get-within us n since before) in
            let same : take count new.history ≡ take count old.history = ap (λ (l : List (Move O R)). take count l) grown ∙ take-append-le count old.history made within in
            subst (λ (l : List (Move O R)). IsSureSince disk fixed l since new.disk) (sym same) (stays.each n since before))
            (λ (now : since ≡ disk.moment new.disk).
            record {
              come = omega (arith, now);
              have = λ c image.
                  let left = only_now new.disk c (subst (λ (t : ℕ). disk.left_since new.disk t c) now image) in
                  from-begin new.history count c ([], subst (λ (l : List (Move O R)). Stands fixed l c) (sym (append-nil new.history)) (stand c left));
            })
            (get-behind us on.count (disk.moment new.disk) n since (subst (λ (l : List ℕ). slice_get l n ≡ Some since) on.is at));
      }

  -- nothing was made: the disk failed, or was not called
  module _ (old new : StoreView (Move O R) D) (us vs : List ℕ) (on : GoOn (disk.moment new.disk) us vs) (long : length begun + length vs ≡ length new.history) (is : Sure old.history us old.disk) where
    no-more : new.history ≡ old.history → us ≡ vs
    no-more same = goes-nowhere (disk.moment new.disk) us vs on (omega (arith, long, is.long, ap length same))

    pub sure-failed : (made : List (Move O R)) → new.history ≡ old.history → LeavesOnly disk.moment disk.left_since old.disk new.disk (WithFirst fixed old.history made) → Sure new.history vs new.disk
    sure-failed made same call =
        subst (λ (l : List ℕ). Sure new.history l new.disk) (no-more same) (subst (λ (h : List (Move O R)). Sure h us new.disk) (sym same) (sure-stays old.history made us old.disk new.disk is call))

    pub sure-same : new ≡ old → Sure new.history vs new.disk
    sure-same same =
        subst (λ (l : List ℕ). Sure new.history l new.disk) (no-more (ap (λ (s : StoreView (Move O R) D). s.history) same))
        (subst (λ (s : StoreView (Move O R) D). Sure s.history us s.disk) (sym same) is)
