-- The items of a bundle that were taken so far.
use Rattle.std.proofs.Common.{◌≡◌, ◌⊎◌, inl, inr, ℕ, ◌+◌, ◌≤◌, suc, arith, false, true, zero, List, [], ◌∷◌, ◌++◌, length, take, drop, map, refl, ap, sym, ◌∙◌, subst, append_assoc, append-nil, length-append, length-take-le, Some}
use Rattle.std.specs.List.{AllByRecursion}
use Rattle.std.proofs.lemmas.Grind.{flat_map-append}
use Rattle.std.proofs.lemmas.List.{length-take, map-append, take-append-drop}
use Rattle.std.proofs.Math.Seq.{take-add, take-length}
use Rattle.std.specs.Prelude.{Result, slice_get}
use Rattle.branch_io.specs.Causes.{HasCauseOf}
use Rattle.mrdt_model.specs.Laws.{Meaning}
use Rattle.branch_disk.specs.Disk.{Files, LeavesOnly}
use Rattle.branch_disk.specs.declared.disk.Disk.{Ghosts}
use Rattle.branch_disk.specs.Moments.{started, goes_on}
use Rattle.branch_history.specs.declared.moves.Move.{Move}
use Rattle.branch_history.specs.Steps.{Refusal, Turn}
use Rattle.branch_machine.specs.Fixed.{Fixed, fix}
use Rattle.branch_machine.specs.Objects.{Pair}
use Rattle.branch_machine.specs.Validity.{IsFullyValid}
use Rattle.branch_files.specs.Stands.{Stands}
use Rattle.branch_bundle_laws.specs.Receiving.{IsTaken, made_by, ReceivesAll, EndsRefused}
use Rattle.branch_bundle_laws.proofs.Folds.{has-items}
use Rattle.branch_bundle_laws.proofs.Mapped.{length-mapped}
use Rattle.branch_bundle.specs.declared.bundle.Item.{Item}
use Rattle.branch_bundle.specs.Held.{pair_of, numbered}
use Rattle.store_core.specs.Images.{AllStand}
use Rattle.store_core.specs.Views.{StoreView}
use Rattle.store_receive.specs.declared.answers.NotReceived.{NotReceived}
use Rattle.store_receive.specs.Received.{TellsItem, HasMade, AreSomeTaken, MakesNothing, IsInterrupted, TakesAll, StopsAt, StopsIn, StandsAfterSome}
use Rattle.store_receive.proofs.Items.{ends-behind}
use Rattle.store_core.proofs.Turns.{received-length, made-few, refused-not-taken, numbered-at}

-- an element of a part of a list
get-first : {X : Type 0} (xs : List X) (n j : ℕ) (x : X) → slice_get (take n xs) j ≡ Some x → slice_get xs j ≡ Some x
get-first [] zero j x is = is
get-first [] (suc n) j x is = is
get-first (y ∷ ys) zero j x is = absurd (cc is)
get-first (y ∷ ys) (suc n) zero x is = is
get-first (y ∷ ys) (suc n) (suc j) x is = get-first ys n j x is

get-part : {X : Type 0} (xs : List X) (k n j : ℕ) (x : X) → slice_get (take n (drop k xs)) j ≡ Some x → Some x ≡ slice_get xs (k + j)
get-part xs zero n j x is = let e : j ≡ 0 + j = omega arith in sym (get-first xs n j x is) ∙ ap (slice_get xs) e
get-part [] (suc k) n j x is = sym (get-first [] n j x is)
get-part (y ∷ ys) (suc k) n j x is = let e : suc (k + j) ≡ suc k + j = omega arith in get-part ys k n j x is ∙ ap (slice_get (y ∷ ys)) e

module _ {S O R Q A : Type 0} (fixed : Fixed S O R Q A) where
  -- items behind others that were all taken
  received-behind : (moves : List (Move O R)) (items : List Pair) (turns : List (Turn O R A)) → ReceivesAll fixed moves items turns → AllByRecursion IsTaken turns
      → (more : List Pair) (ts : List (Turn O R A)) → ReceivesAll fixed (moves ++ made_by turns) more ts → ReceivesAll fixed moves (items ++ more) (turns ++ ts)
  received-behind moves [] turns none taken more ts received =
      let at : moves ++ made_by turns ≡ moves = ap (λ (l : List (Turn O R A)). moves ++ made_by l) none ∙ append-nil moves in
      subst (λ (l : List (Turn O R A)). ReceivesAll fixed moves more (l ++ ts)) (sym none) (subst (λ (h : List (Move O R)). ReceivesAll fixed h more ts) at received)
  received-behind moves (i ∷ items) [] none taken more ts received = absurd none
  received-behind moves (i ∷ items) (u ∷ us) (one, inl (is, rest)) taken more ts received = (
    one,
    inl (is, received-behind (moves ++ u.made) items us rest taken.1 more ts (subst (λ (h : List (Move O R)). ReceivesAll fixed h more ts) (sym (append_assoc moves u.made (made_by us))) received)),
  )
  received-behind moves (i ∷ items) (u ∷ us) (one, inr (not, none)) taken more ts received = absurd (not taken.0)

  -- items behind which nothing comes, or nothing is asked for
  received-rest : (moves : List (Move O R)) (items rest : List Pair) (turns : List (Turn O R A)) → ReceivesAll fixed moves items turns → (AllByRecursion IsTaken turns × (rest ≡ [])) ⊎ ((r : Refusal) × EndsRefused turns r)
      → ReceivesAll fixed moves (items ++ rest) turns
  received-rest moves items rest turns received (inl (taken, none)) = subst (λ (l : List Pair). ReceivesAll fixed moves l turns) (sym (ap (λ (l : List Pair). items ++ l) none ∙ append-nil items)) received
  received-rest moves items rest turns received (inr (r, ends)) = at moves items turns received ends
    where
      at : (moves : List (Move O R)) (items : List Pair) (turns : List (Turn O R A)) → ReceivesAll fixed moves items turns → EndsRefused turns r → ReceivesAll fixed moves (items ++ rest) turns
      at moves [] turns none ends = absurd (subst (λ (l : List (Turn O R A)). EndsRefused l r) none ends)
      at moves (i ∷ items) [] none ends = absurd none
      at moves (i ∷ items) (t ∷ ts) (one, inr (not, none)) ends = (one, inr (not, none))
      at moves (i ∷ items) (t ∷ []) (one, inl (is, more)) ends = absurd (refused-not-taken t r ends is)
      at moves (i ∷ items) (t ∷ u ∷ ts) (one, inl (is, more)) ends = (one, inl (is, at (moves ++ t.made) items (u ∷ ts) more ends))

module _ {O R A : Type 0} where
  taken-both : (turns ts : List (Turn O R A)) → AllByRecursion IsTaken turns → AllByRecursion IsTaken ts → AllByRecursion IsTaken (turns ++ ts)
  taken-both [] ts all more = more
  taken-both (u ∷ us) ts all more = (all.0, taken-both us ts all.1 more)

  made-both : (turns ts : List (Turn O R A)) → made_by (turns ++ ts) ≡ made_by turns ++ made_by ts
  made-both turns ts = flat_map-append (λ (u : Turn O R A). u.made) turns ts

  ends-both : (turns ts : List (Turn O R A)) (r : Refusal) → EndsRefused ts r → EndsRefused (turns ++ ts) r
  ends-both [] ts r ends = ends
  ends-both (u ∷ us) ts r ends = ends-behind u (us ++ ts) r (ends-both us ts r ends)

-- the first items were taken, of which so many were new
pub record GoesOn {D S O R Q A : Type 0} (disk : Ghosts D) (meaning : Meaning S O R Q A) (address : List ℕ → List ℕ)
    (items : List Item) (k count : ℕ) (old now : StoreView (Move O R) D) : Type 0 where
  pub turns : List (Turn O R A)
  pub received : ReceivesAll (fix meaning old.terms address) old.history (map pair_of (take k items)) turns
  pub taken : AllByRecursion IsTaken turns
  pub now_is : HasMade (made_by turns) old now
  pub counted : count ≡ length (made_by turns)
  pub few : count ≤ k
  pub valid : IsFullyValid (fix meaning old.terms address) old.history
  pub stands : AllStand (fix meaning old.terms address) (old.history ++ made_by turns) (disk.may_leave now.disk)
  pub moments : LeavesOnly disk.moment disk.left_since old.disk now.disk (StandsAfterSome (fix meaning old.terms address) old.history (map pair_of items))
  pub faults : disk.faults now.disk ≡ disk.faults old.disk

module _ {D S O R Q A : Type 0} (disk : Ghosts D) (meaning : Meaning S O R Q A) (address : List ℕ → List ℕ) (items : List Item) (old : StoreView (Move O R) D) where
  abbrev fixed : Fixed S O R Q A
  fixed = fix meaning old.terms address

  -- the first items and those behind them
  parted : (k : ℕ) → map pair_of items ≡ map pair_of (take k items) ++ map pair_of (drop k items)
  parted k = ap (map pair_of) (sym (take-append-drop k items)) ∙ map-append pair_of (take k items) (drop k items)

  -- files that stand for the history behind the first items
  after-some : (k : ℕ) (turns : List (Turn O R A)) → IsFullyValid fixed old.history → ReceivesAll fixed old.history (map pair_of (take k items)) turns → AllByRecursion IsTaken turns
      → (c : Files) → Stands fixed (old.history ++ made_by turns) c → StandsAfterSome fixed old.history (map pair_of items) c
  after-some k turns valid received taken c stands = record {
    made = made_by turns;
    first = record {
      first = map pair_of (take k items);
      rest = map pair_of (drop k items);
      parts = parted k;
      taken = record { turns = turns; received = received; taken = taken; made_is = refl };
    };
    valid = (has-items fixed old.history valid (map pair_of (take k items)) turns received).valid;
    stands = stands;
  }

  pub goes-on-start : IsFullyValid fixed old.history → AllStand fixed old.history (disk.may_leave old.disk)
      → ((d : D) (c : Files) → disk.left_since d (disk.moment d) c → disk.may_leave d c) → GoesOn disk meaning address items 0 0 old old
  goes-on-start valid stands only_now =
      let same : old.history ++ [] ≡ old.history = append-nil old.history in
      record {
        turns = [];
        received = refl;
        taken = tt;
        now_is = ap (λ (h : List (Move O R)). record old { history = h }) (sym same);
        counted = refl;
        few = omega arith;
        valid = valid;
        stands = subst (λ (h : List (Move O R)). AllStand fixed h (disk.may_leave old.disk)) (sym same) stands;
        moments = started disk.moment disk.left_since old.disk (StandsAfterSome fixed old.history (map pair_of items))
            (λ c left. after-some 0 [] valid refl tt c (subst (λ (h : List (Move O R)). Stands fixed h c) (sym same) (stands c (only_now old.disk c left))));
        faults = refl;
      }

  -- the next items of the list
  module _ (k n count : ℕ) (batch : List Item) (now new : StoreView (Move O R) D) (goes : GoesOn disk meaning address items k count old now) (is : batch ≡ take n (drop k items)) where
    abbrev pairs : List Pair
    pairs = map pair_of batch

    abbrev turns : List (Turn O R A)
    turns = goes.turns

    abbrev here : Fixed S O R Q A
    here = fix meaning now.terms address

    pub next-worked : old.failed ≡ false → now.failed ≡ false
    next-worked worked = ap (λ (v : StoreView (Move O R) D). v.failed) goes.now_is ∙ worked

    first_are : map pair_of (take (k + n) items) ≡ map pair_of (take k items) ++ pairs
    first_are = ap (map pair_of) (take-add k n items ∙ ap (λ (l : List Item). take k items ++ l) (sym is)) ∙ map-append pair_of (take k items) batch

    all_are : map pair_of items ≡ map pair_of (take k items) ++ (pairs ++ map pair_of (drop (k + n) items))
    all_are = parted (k + n) ∙ ap (λ (l : List Pair). l ++ map pair_of (drop (k + n) items)) first_are ∙ append_assoc (map pair_of (take k items)) pairs (map pair_of (drop (k + n) items))

    -- what holds of the store now, behind the first items
    at-history : (P : List (Move O R) → Fixed S O R Q A → Type 0) → P now.history here → P (old.history ++ made_by turns) fixed
    at-history P holds = subst (λ (v : StoreView (Move O R) D). P v.history (fix meaning v.terms address)) goes.now_is holds

    received-next : (rest : List Pair) (ts : List (Turn O R A)) → ReceivesAll here now.history pairs ts → (AllByRecursion IsTaken ts × (rest ≡ [])) ⊎ ((r : Refusal) × EndsRefused ts r)
        → ReceivesAll fixed old.history (map pair_of (take k items) ++ (pairs ++ rest)) (turns ++ ts)
    received-next rest ts received how =
        received-behind fixed old.history (map pair_of (take k items)) turns goes.received goes.taken (pairs ++ rest) ts
        (received-rest fixed (old.history ++ made_by turns) pairs rest ts (at-history (λ h f. ReceivesAll f h pairs ts) received) how)

    -- the history behind the moves of more turns
    long : (made : List (Move O R)) (ts : List (Turn O R A)) → made ≡ made_by ts → (old.history ++ made_by turns) ++ made ≡ old.history ++ made_by (turns ++ ts)
    long made ts same =
        append_assoc old.history (made_by turns) made ∙ ap (λ (l : List (Move O R)). old.history ++ (made_by turns ++ l)) same
        ∙ ap (λ (l : List (Move O R)). old.history ++ l) (sym (made-both turns ts))

    made-next : (made : List (Move O R)) (ts : List (Turn O R A)) → made ≡ made_by ts → HasMade made now new → HasMade (made_by (turns ++ ts)) old new
    made-next made ts same is_made =
        is_made ∙ ap (λ (v : StoreView (Move O R) D). record v { history = v.history ++ made; disk = new.disk }) goes.now_is
        ∙ ap (λ (h : List (Move O R)). record old { history = h; disk = new.disk }) (long made ts same)

    -- what stands behind some of them stands behind some of all
    some-more : (c : Files) → StandsAfterSome here now.history pairs c → StandsAfterSome fixed old.history (map pair_of items) c
    some-more c after =
        let some = after.first in
        let taken = some.taken in
        let ts = taken.turns in
        let behind : List Pair = some.rest ++ map pair_of (drop (k + n) items) in
        let received : ReceivesAll fixed old.history (map pair_of (take k items) ++ some.first) (turns ++ ts) =
        received-behind fixed old.history (map pair_of (take k items)) turns goes.received goes.taken some.first ts (at-history (λ h f. ReceivesAll f h some.first ts) taken.received) in
        let valid = (has-items fixed old.history goes.valid (map pair_of (take k items) ++ some.first) (turns ++ ts) received).valid in
        let stands : Stands fixed (old.history ++ made_by (turns ++ ts)) c = subst (λ (h : List (Move O R)). Stands fixed h c) (long after.made ts taken.made_is) (at-history (λ h f. Stands f (h ++ after.made) c) after.stands) in
        record {
          made = made_by (turns ++ ts);
          first = record {
            first = map pair_of (take k items) ++ some.first;
            rest = behind;
            parts = all_are ∙ ap (λ (l : List Pair). map pair_of (take k items) ++ (l ++ map pair_of (drop (k + n) items))) some.parts
                ∙ ap (λ (l : List Pair). map pair_of (take k items) ++ l) (append_assoc some.first some.rest (map pair_of (drop (k + n) items)))
                ∙ sym (append_assoc (map pair_of (take k items)) some.first behind);
            taken = record { turns = turns ++ ts; received = received; taken = taken-both turns ts goes.taken taken.taken; made_is = refl };
          };
          valid = valid;
          stands = stands;
        }

    pub next-moments : LeavesOnly disk.moment disk.left_since now.disk new.disk (StandsAfterSome here now.history pairs)
        → LeavesOnly disk.moment disk.left_since old.disk new.disk (StandsAfterSome fixed old.history (map pair_of items))
    next-moments leaves =
        goes_on disk.moment disk.left_since old.disk now.disk new.disk (StandsAfterSome fixed old.history (map pair_of items))
        (StandsAfterSome here now.history pairs) goes.moments leaves some-more

    -- they were taken
    pub goes-on-next : (more next end : ℕ) → k + n ≡ end → TakesAll here pairs now new more → next ≡ count + more
        → LeavesOnly disk.moment disk.left_since now.disk new.disk (StandsAfterSome here now.history pairs)
        → AllStand (fix meaning new.terms address) new.history (disk.may_leave new.disk) → disk.faults new.disk ≡ disk.faults now.disk
        → GoesOn disk meaning address items end next old new
    goes-on-next more next end ends takes next_is leaves stands faults =
        let taken = takes.taken in
        let ts = taken.turns in
        let made : HasMade (made_by (turns ++ ts)) old new = made-next takes.made ts taken.made_is takes.now in
        let size : length (made_by (turns ++ ts)) ≡ length (made_by turns) + length takes.made = ap length (made-both turns ts ∙ ap (λ (l : List (Move O R)). made_by turns ++ l) (sym taken.made_is)) ∙ length-append (made_by turns) takes.made in
        let before = goes.counted in
        let now_counted = takes.counted in
        let few = made-few here now.history pairs ts taken.received in
        let one_each : length takes.made ≡ length (made_by ts) = ap length taken.made_is in
        let pairs_few : length pairs ≤ n = omega (arith, length-mapped pair_of batch, ap length is, length-take n (drop k items)) in
        let so_few = goes.few in
        let received : ReceivesAll fixed old.history (map pair_of (take (k + n) items)) (turns ++ ts) =
        subst (λ (l : List Pair). ReceivesAll fixed old.history l (turns ++ ts)) (ap (λ (l : List Pair). map pair_of (take k items) ++ l) (append-nil pairs) ∙ sym first_are)
        (received-next [] ts taken.received (inl (taken.taken, refl))) in
        subst (λ (e : ℕ). GoesOn disk meaning address items e next old new) ends (record {
          turns = turns ++ ts;
          received = received;
          taken = taken-both turns ts goes.taken taken.taken;
          now_is = made;
          counted = omega (arith, size, now_counted, next_is, before);
          few = omega (arith, next_is, few, so_few, now_counted, one_each, pairs_few);
          valid = goes.valid;
          stands = subst (λ (v : StoreView (Move O R) D). AllStand (fix meaning v.terms address) v.history (disk.may_leave new.disk)) made stands;
          moments = next-moments leaves;
          faults = faults ∙ goes.faults;
        })

    -- so the count of new ones is one of items
    pub next-few : (more : ℕ) → k + n ≤ length items → TakesAll here pairs now new more → count + more ≤ length items
    next-few more within takes =
        let few = made-few here now.history pairs takes.taken.turns takes.taken.received in
        let one_each : length takes.made ≡ length (made_by takes.taken.turns) = ap length takes.taken.made_is in
        let pairs_few : length pairs ≤ n = omega (arith, length-mapped pair_of batch, ap length is, length-take n (drop k items)) in
        omega (arith, few, one_each, pairs_few, takes.counted, goes.few, within)

    some-taken : AreSomeTaken fixed old.history (map pair_of items) (made_by turns)
    some-taken = record {
      first = map pair_of (take k items);
      rest = map pair_of (drop k items);
      parts = parted k;
      taken = record { turns = turns; received = goes.received; taken = goes.taken; made_is = refl };
    }

    interrupted : (e : NotReceived) → MakesNothing now new e → IsInterrupted fixed (map pair_of items) old new e
    interrupted e (inl (memory, same)) =
        let disk_is : now.disk ≡ new.disk = ap (λ (v : StoreView (Move O R) D). v.disk) (sym same) in
        record {
          made = made_by turns;
          first = some-taken;
          why = inl (memory, same ∙ goes.now_is ∙ ap (λ (d : D). record old { history = old.history ++ made_by turns; disk = d }) disk_is);
        }
    interrupted e (inr (fault, failed)) = record {
      made = made_by turns;
      first = some-taken;
      why = inr (fault, failed ∙ ap (λ (v : StoreView (Move O R) D). record v { failed = true; disk = new.disk }) goes.now_is);
    }

    counted-turns : k ≤ length items → length turns ≡ k
    counted-turns within =
        received-length fixed old.history (map pair_of (take k items)) turns goes.received goes.taken
        ∙ length-mapped pair_of (take k items) ∙ length-take-le k items within

    -- the number of one of them
    number_of : items ≡ numbered 1 (map pair_of items) → (j : ℕ) (item : Item) → slice_get batch j ≡ Some item → item.number ≡ k + (j + 1)
    number_of numbers j item found =
        let here_found : slice_get items (k + j) ≡ Some item = sym (get-part items k n j item (subst (λ (l : List Item). slice_get l j ≡ Some item) is found)) in
        numbered-at items 1 (k + j) item numbers here_found ∙ omega arith

    -- one that was not taken ends it
    pub stops : items ≡ numbered 1 (map pair_of items) → k ≤ length items → (e : NotReceived) → StopsIn here batch now new e ⊎ MakesNothing now new e
        → StopsAt fixed (map pair_of items) old new e ⊎ IsInterrupted fixed (map pair_of items) old new e
    stops numbers within e (inr nothing) = inr (interrupted e nothing)
    stops numbers within e (inl stop) =
        let ts = stop.turns in
        let received : ReceivesAll fixed old.history (map pair_of items) (turns ++ ts) =
        subst (λ (l : List Pair). ReceivesAll fixed old.history l (turns ++ ts)) (sym all_are) (received-next (map pair_of (drop (k + n) items)) ts stop.received (inr (stop.refusal, stop.ends))) in
        let number : stop.item.number ≡ length (turns ++ ts) =
        number_of numbers stop.before stop.item stop.last ∙ omega (arith, counted-turns within, length-append turns ts, stop.counted) in
        inl (record {
          turns = turns ++ ts;
          received = received;
          refusal = stop.refusal;
          ends = ends-both turns ts stop.refusal stop.ends;
          tells = subst (λ (m : ℕ). TellsItem e m stop.refusal) number stop.tells;
          now = made-next (made_by ts) ts refl stop.now;
        })

  -- and it ends behind all of them
  pub goes-on-end : (k count : ℕ) (now : StoreView (Move O R) D) → length items ≤ k → k ≤ length items → GoesOn disk meaning address items k count old now → TakesAll fixed (map pair_of items) old now count
  goes-on-end k count now least most goes =
      let end : k ≡ length items = omega (arith, least, most) in
      let all : take k items ≡ items = ap (λ (n : ℕ). take n items) end ∙ take-length items in
      record {
        made = made_by goes.turns;
        taken = record {
          turns = goes.turns;
          received = subst (λ (l : List Item). ReceivesAll fixed old.history (map pair_of l) goes.turns) all goes.received;
          taken = goes.taken;
          made_is = refl;
        };
        counted = goes.counted;
        now = goes.now_is;
      }

-- the cause of a refusal, where no count had risen before
pub cause-goes-on : {T E : Type 0} {fault : E} (before mid now : ℕ) (r : Result T E) → mid ≡ before → HasCauseOf fault mid now r → HasCauseOf fault before now r
cause-goes-on {T} {E} {fault} before mid now r same cause = subst (λ n. HasCauseOf fault n now r) same cause
