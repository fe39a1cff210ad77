-- How receiving ends: behind the items, at the tip, with the branch.
use Rattle.std.proofs.Common.{◌≡◌, ◌⊎◌, inl, inr, ℕ, ◌+◌, ◌<◌, Bool, true, false, cond, List, [], ◌∷◌, ◌++◌, length, map, refl, ap, sym, ◌∙◌, subst, Option, Some, None, append_assoc, append-nil}
use Rattle.std.specs.Prelude.{IsTrue, Result, Ok, Err, IfOk, IfErr}
use Rattle.std.specs.List.{position_from}
use Rattle.mrdt_model.specs.Laws.{Meaning}
use Rattle.branch_disk.specs.Disk.{Files, LeavesOnly}
use Rattle.branch_disk.specs.declared.disk.Disk.{Ghosts}
use Rattle.branch_disk.specs.Moments.{started, goes_on, weakened}
use Rattle.branch_wire.specs.StoredObjects.{same}
use Rattle.branch_names.specs.Names.{is_name}
use Rattle.branch_names.specs.declared.terms.Terms.{Terms}
use Rattle.branch_history.specs.declared.moves.Move.{Move}
use Rattle.branch_history.specs.Steps.{Refusal, Refused, Forked, Place, Turn}
use Rattle.branch_machine.specs.Fixed.{Fixed, fix}
use Rattle.branch_machine.specs.Objects.{Pair, pairs_of, store_after}
use Rattle.branch_machine.specs.Validity.{IsFullyValid}
use Rattle.branch_machine.proofs.Stored.{same-eq, same-refl}
use Rattle.branch_machine.proofs.Valid.{valid-more}
use Rattle.branch_files.specs.Stands.{Stands}
use Rattle.branch_bundle_laws.specs.Bundles.{Bundle as Plain}
use Rattle.branch_bundle_laws.specs.Text.{bundle_text, IsBundle}
use Rattle.branch_bundle_laws.specs.Receiving.{made_by, Receipt, NoBundle, Stopped, NotPlaced, Placed as PlacedAs, addressed, placing}
use Rattle.branch_bundle_laws.proofs.Folds.{has-items}
use Rattle.branch_bundle_laws.proofs.Placed.{placed-or}
use Rattle.branch_bundle.specs.declared.bundle.Bundle.{Bundle}
use Rattle.branch_bundle.specs.declared.bundle.Item.{Item}
use Rattle.branch_bundle.specs.Held.{pair_of, IsReadAs}
use Rattle.recorded_history.specs.Machine.{commit_of_address}
use Rattle.store_core.specs.Images.{AllStand, WithOrWithout}
use Rattle.store_core.specs.Views.{StoreView}
use Rattle.store_receive.specs.declared.answers.NotReceived.{NotReceived}
use Rattle.store_receive.specs.declared.answers.NotReceived.TheVariants as unreceived
use Rattle.store_receive.specs.declared.answers.Placed.{Placed}
use Rattle.store_receive.specs.Received.{HasMade, HasFailed, AreSomeTaken, MakesNothing, IsInterrupted, IsReceived, IsNotReceived, TakesAll, StopsAt, StandsAfterSome, IsPlaced, IsNotPlaced, StandsAfterPlace, PlacesAtTip, NotPlacedAtTip, StandsAtTip, StandsOnTheWay, AreReceived, AreNotReceived, StandsOnTheirWay}

same-swap : (a b : List ℕ) → same a b ≡ same b a
same-swap a b = by (same a b) refl (same b a) refl
  where
    by : (x : Bool) → same a b ≡ x → (y : Bool) → same b a ≡ y → x ≡ y
    by true p true q = refl
    by false p false q = refl
    by true p false q =
        let eq : a ≡ b = same-eq a b p in
        let clash : true ≡ false = sym (same-refl b) ∙ ap (λ (l : List ℕ). same b l) (sym eq) ∙ q in
        absurd (cc clash)
    by false p true q =
        let eq : b ≡ a = same-eq b a q in
        let clash : true ≡ false = sym (same-refl a) ∙ ap (λ (l : List ℕ). same a l) (sym eq) ∙ p in
        absurd (cc clash)

module _ {S O R Q A : Type 0} (fixed : Fixed S O R Q A) (moves : List (Move O R)) where
  -- the first commit with an address, as it is found by its own
  pub addressed-is : (a : List ℕ) → addressed fixed moves a ≡ commit_of_address fixed moves a
  addressed-is a = mapped 0 (pairs_of fixed (store_after fixed moves).commits)
    where
      mapped : (i : ℕ) (ps : List Pair) → position_from (λ (p : Pair). same (fixed.address p.commit) a) i ps ≡ position_from (same a) i (map (λ (p : Pair). fixed.address p.commit) ps)
      mapped i [] = refl
      mapped i (p ∷ ps) =
          ap (λ (b : Bool). cond b (Some i) (position_from (λ (p : Pair). same (fixed.address p.commit) a) (i + 1) ps)) (same-swap (fixed.address p.commit) a)
          ∙ ap (λ (o : Option ℕ). cond (same a (fixed.address p.commit)) (Some i) o) (mapped (i + 1) ps)

  module _ (name : List ℕ) (n : ℕ) where
    -- a branch that the machine places has the head that was asked for
    pub placed-head : (number head : ℕ) → (placing fixed moves name n).outcome ≡ Forked number head → head ≡ n
    placed-head number head outcome = at (placed-or fixed moves name n)
      where
        at : ((r : Refusal) × ((placing fixed moves name n).outcome ≡ Refused r)) ⊎ ((placing fixed moves name n).outcome ≡ Forked (length (store_after fixed moves).branches) n) → head ≡ n
        at (inl (r, refused)) = let clash : Refused r ≡ Forked number head = sym refused ∙ outcome in absurd (cc clash)
        at (inr forked) = let both : Forked number head ≡ Forked (length (store_after fixed moves).branches) n = sym outcome ∙ forked in cc both

    -- the history with the move of the branch is valid
    pub place-valid : IsFullyValid fixed moves → IsTrue (is_name name) → n < length (store_after fixed moves).commits → (m : Move O R) → (placing fixed moves name n).made ≡ m ∷ []
        → IsFullyValid fixed (moves ++ (placing fixed moves name n).made)
    place-valid valid named there m is = subst (λ (l : List (Move O R)). IsFullyValid fixed (moves ++ l)) (sym is) (valid-more fixed moves m valid (Place name n, (named, there), is))

    -- what stands for the history, or for it with the branch
    pub after-place : IsFullyValid fixed (moves ++ (placing fixed moves name n).made) → (c : Files) → WithOrWithout fixed moves (placing fixed moves name n).made c → StandsAfterPlace fixed moves name n c
    after-place valid c (inl before) = inl before
    after-place valid c (inr after) = inr (valid, after)

-- nothing happened to the disk
pub stayed : {D S O R Q A : Type 0} (disk : Ghosts D) (fixed : Fixed S O R Q A) (moves : List (Move O R)) (old new : D) → new ≡ old → AllStand fixed moves (disk.may_leave old)
    → ((d : D) (c : Files) → disk.left_since d (disk.moment d) c → disk.may_leave d c) → (P : Files → Type 0) → ((c : Files) → Stands fixed moves c → P c) → LeavesOnly disk.moment disk.left_since old new P
stayed disk fixed moves old new same stands only_now P so =
    subst (λ (d : _). LeavesOnly disk.moment disk.left_since old d P) (sym same) (started disk.moment disk.left_since old P (λ c left. so c (stands c (only_now old c left))))

-- a bundle whose items were all taken
module _ {D S O R Q A : Type 0} (disk : Ghosts D) (meaning : Meaning S O R Q A) (address : List ℕ → List ℕ) (b : Plain) (name : List ℕ) (old mid : StoreView (Move O R) D)
    (count : ℕ) (takes : TakesAll (fix meaning old.terms address) b.items old mid count) where
  abbrev fixed : Fixed S O R Q A
  fixed = fix meaning old.terms address

  abbrev turns : List (Turn O R A)
  turns = takes.taken.turns

  mid-is : HasMade (made_by turns) old mid
  mid-is = takes.now ∙ ap (λ (l : List (Move O R)). record old { history = old.history ++ l; disk = mid.disk }) takes.taken.made_is

  at-history : (P : List (Move O R) → Fixed S O R Q A → Type 0) → P mid.history (fix meaning mid.terms address) → P (old.history ++ made_by turns) fixed
  at-history P holds = subst (λ (v : StoreView (Move O R) D). P v.history (fix meaning v.terms address)) mid-is holds

  counted : count ≡ length (made_by turns)
  counted = takes.counted ∙ ap length takes.taken.made_is

  -- no commit has the address of the tip
  no-tip : (e : NotReceived) (new : StoreView (Move O R) D) → e ≡ unreceived.NoBundle → addressed (fix meaning mid.terms address) mid.history b.tip ≡ None → new ≡ mid → IsNotReceived fixed b name old new e
  no-tip e new is none same =
      let there = at-history (λ h f. addressed f h b.tip ≡ None) none in
      inl (
        NoBundle,
        is,
        record {
          made = made_by turns;
          received = (turns, [], takes.taken.received, (takes.taken.taken, there, refl), sym (append-nil (made_by turns)));
          now = same ∙ mid-is ∙ ap (λ (d : D). record old { history = old.history ++ made_by turns; disk = d }) (ap (λ (v : StoreView (Move O R) D). v.disk) (sym same));
        },
      )

  module _ (n : ℕ) (found : addressed (fix meaning mid.terms address) mid.history b.tip ≡ Some n) (new : StoreView (Move O R) D) where
    there : addressed fixed (old.history ++ made_by turns) b.tip ≡ Some n
    there = at-history (λ h f. addressed f h b.tip ≡ Some n) found

    abbrev placed : Turn O R A
    placed = placing fixed (old.history ++ made_by turns) name n

    long : (made : List (Move O R)) → HasMade made mid new → HasMade (made_by turns ++ made) old new
    long made is =
        is ∙ ap (λ (v : StoreView (Move O R) D). record v { history = v.history ++ made; disk = new.disk }) mid-is
        ∙ ap (λ (h : List (Move O R)). record old { history = h; disk = new.disk }) (append_assoc old.history (made_by turns) made)

    -- the branch was placed
    all-placed : (p : Placed) → p.count ≡ count → IsPlaced (fix meaning mid.terms address) name n mid new p → IsReceived fixed b name old new (PlacedAs p.count p.branch p.head)
    all-placed p counts is =
        let outcome = at-history (λ h f. (placing f h name n).outcome ≡ Forked p.branch n) is.outcome in
        let made = at-history (λ h f. HasMade (placing f h name n).made mid new) is.now in
        subst (λ (k : ℕ). IsReceived fixed b name old new (PlacedAs p.count p.branch k)) (sym is.head)
        (record {
          made = made_by turns ++ placed.made;
          received = (turns, placed.made, takes.taken.received, (takes.taken.taken, there, outcome, counts ∙ counted, refl), refl);
          now = long placed.made made;
        })

    -- it was refused, or the disk failed, or memory was short
    not-placed : (e : NotReceived) → IsNotPlaced (fix meaning mid.terms address) name n mid new e → IsNotReceived fixed b name old new e
    not-placed e (inl (r, tells, refuses)) =
        let refused = at-history (λ h f. (placing f h name n).outcome ≡ Refused r) refuses.refused in
        inl (
          NotPlaced r,
          tells,
          record {
            made = made_by turns;
            received = (turns, [], takes.taken.received, (takes.taken.taken, (n, there, refused), refl), sym (append-nil (made_by turns)));
            now = refuses.same ∙ mid-is ∙ ap (λ (d : D). record old { history = old.history ++ made_by turns; disk = d }) (ap (λ (v : StoreView (Move O R) D). v.disk) (sym refuses.same));
          },
        )
    not-placed e (inr nothing) = inr (record { made = made_by turns; first = some; why = why nothing })
      where
        some : AreSomeTaken fixed old.history b.items (made_by turns)
        some = record {
          first = b.items;
          rest = [];
          parts = sym (append-nil b.items);
          taken = record { turns = turns; received = takes.taken.received; taken = takes.taken.taken; made_is = refl };
        }

        why : MakesNothing mid new e → ((e ≡ unreceived.Memory) × HasMade (made_by turns) old new) ⊎ ((e ≡ unreceived.DiskFault) × HasFailed (made_by turns) old new)
        why (inl (memory, same)) =
            inl (memory, same ∙ mid-is ∙ ap (λ (d : D). record old { history = old.history ++ made_by turns; disk = d }) (ap (λ (v : StoreView (Move O R) D). v.disk) (sym same)))
        why (inr (fault, failed)) = inr (fault, failed ∙ ap (λ (v : StoreView (Move O R) D). record v { failed = true; disk = new.disk }) mid-is)

    -- what stands behind the branch is on the way
    placed-on-the-way : IsFullyValid fixed old.history → (c : Files) → StandsAfterPlace (fix meaning mid.terms address) mid.history name n c → StandsOnTheWay fixed old.history b name c
    placed-on-the-way valid c stands = by (at-history (λ h f. StandsAfterPlace f h name n c) stands)
      where
        by : StandsAfterPlace fixed (old.history ++ made_by turns) name n c → StandsOnTheWay fixed old.history b name c
        by (inl before) = record {
          made = made_by turns;
          first = inl (record {
            first = b.items;
            rest = [];
            parts = sym (append-nil b.items);
            taken = record { turns = turns; received = takes.taken.received; taken = takes.taken.taken; made_is = refl };
          });
          valid = (has-items fixed old.history valid b.items turns takes.taken.received).valid;
          stands = before;
        }
        by (inr (longer, after)) =
            let whole = append_assoc old.history (made_by turns) placed.made in
            record {
              made = made_by turns ++ placed.made;
              first = inr (record {
                turns = turns;
                placed = placed;
                received = record { received = takes.taken.received; taken = takes.taken.taken; tip = n; there = there; turn = refl };
                made_is = refl;
              });
              valid = subst (IsFullyValid fixed) whole longer;
              stands = subst (λ (h : List (Move O R)). Stands fixed h c) whole after;
            }

  items-stand : IsFullyValid fixed old.history → (c : Files) → Stands (fix meaning mid.terms address) mid.history c → StandsOnTheWay fixed old.history b name c
  items-stand valid c stands = record {
    made = made_by turns;
    first = inl (record {
      first = b.items;
      rest = [];
      parts = sym (append-nil b.items);
      taken = record { turns = turns; received = takes.taken.received; taken = takes.taken.taken; made_is = refl };
    });
    valid = (has-items fixed old.history valid b.items turns takes.taken.received).valid;
    stands = at-history (λ h f. Stands f h c) stands;
  }

  tip-on-the-way : IsFullyValid fixed old.history → (c : Files) → StandsAtTip (fix meaning mid.terms address) mid.history name b.tip c → StandsOnTheWay fixed old.history b name c
  tip-on-the-way valid c (inl before) = items-stand valid c before
  tip-on-the-way valid c (inr (n, found, stands)) = placed-on-the-way n found mid valid c stands

  pub tip-moments : (new : StoreView (Move O R) D) → IsFullyValid fixed old.history → LeavesOnly disk.moment disk.left_since old.disk mid.disk (StandsOnTheWay fixed old.history b name)
      → LeavesOnly disk.moment disk.left_since mid.disk new.disk (StandsAtTip (fix meaning mid.terms address) mid.history name b.tip)
      → LeavesOnly disk.moment disk.left_since old.disk new.disk (StandsOnTheWay fixed old.history b name)
  tip-moments new valid before then =
      goes_on disk.moment disk.left_since old.disk mid.disk new.disk (StandsOnTheWay fixed old.history b name) (StandsAtTip (fix meaning mid.terms address) mid.history name b.tip)
      before then (tip-on-the-way valid)

  pub tip-placed : (new : StoreView (Move O R) D) (p : Placed) → (p.count ≡ count) × PlacesAtTip (fix meaning mid.terms address) name b.tip mid new p → IsReceived fixed b name old new (PlacedAs p.count p.branch p.head)
  tip-placed new p (counts, (n, found, is)) = all-placed n found new p counts is

  pub tip-refused : (new : StoreView (Move O R) D) (e : NotReceived) → NotPlacedAtTip (fix meaning mid.terms address) name b.tip mid new e → IsNotReceived fixed b name old new e
  tip-refused new e (inl (is, none, same)) = no-tip e new is none same
  tip-refused new e (inr (n, found, is)) = not-placed n found new e is

module _ {S O R Q A : Type 0} (fixed : Fixed S O R Q A) (moves : List (Move O R)) (b : Plain) (name : List ℕ) where
  some-on-the-way : (c : Files) → StandsAfterSome fixed moves b.items c → StandsOnTheWay fixed moves b name c
  some-on-the-way c stands = record { made = stands.made; first = inl stands.first; valid = stands.valid; stands = stands.stands }

  -- behind some of the items it is on the way
  pub some-moments : {D : Type 0} (disk : Ghosts D) (old new : D) → LeavesOnly disk.moment disk.left_since old new (StandsAfterSome fixed moves b.items)
      → LeavesOnly disk.moment disk.left_since old new (StandsOnTheWay fixed moves b name)
  some-moments disk old new all = weakened disk.moment disk.left_since old new (StandsAfterSome fixed moves b.items) (StandsOnTheWay fixed moves b name) all some-on-the-way

  -- where an item was not taken the bundle is not received
  pub stopped : {D : Type 0} (old new : StoreView (Move O R) D) (e : NotReceived) → moves ≡ old.history → StopsAt fixed b.items old new e ⊎ IsInterrupted fixed b.items old new e → IsNotReceived fixed b name old new e
  stopped old new e is (inr broken) = inr broken
  stopped old new e is (inl stops) = inl (
    Stopped (length stops.turns) stops.refusal,
    stops.tells,
    record {
      made = made_by stops.turns;
      received = (stops.turns, [], stops.received, (stops.ends, refl, refl), sym (append-nil (made_by stops.turns)));
      now = stops.now;
    },
  )

-- what stands where a branch is placed at the commit with an address
pub at-tip-moments : {D S O R Q A : Type 0} (disk : Ghosts D) (fixed : Fixed S O R Q A) (moves : List (Move O R)) (name tip : List ℕ) (n : ℕ) (old new : D) → addressed fixed moves tip ≡ Some n
    → LeavesOnly disk.moment disk.left_since old new (StandsAfterPlace fixed moves name n) → LeavesOnly disk.moment disk.left_since old new (StandsAtTip fixed moves name tip)
at-tip-moments disk fixed moves name tip n old new found all =
    weakened disk.moment disk.left_since old new (StandsAfterPlace fixed moves name n) (StandsAtTip fixed moves name tip) all (λ c stands. inr (n, found, stands))

-- what holds of an answer, where more or less is said of it
pub ok-map : {T E : Type 0} (r : Result T E) (P Q : T → Type 0) → ((x : T) → P x → Q x) → IfOk r P → IfOk r Q
ok-map (Ok x) P Q f holds = f x holds
ok-map (Err e) P Q f holds = holds

pub ok-both : {T E : Type 0} (r : Result T E) (P Q : T → Type 0) → IfOk r P → IfOk r Q → IfOk r (λ x. P x × Q x)
ok-both (Ok x) P Q p q = (p, q)
ok-both (Err e) P Q p q = p

pub err-map : {T E : Type 0} (r : Result T E) (P Q : E → Type 0) → ((e : E) → P e → Q e) → IfErr r P → IfErr r Q
err-map (Ok x) P Q f holds = holds
err-map (Err e) P Q f holds = f e holds

-- the bytes and the terms are these
pub read-here : (terms others : Terms) → terms ≡ others → (l bytes : List ℕ) → l ≡ bytes → (b : Bundle) → IsReadAs terms.layout l b → IsReadAs others.layout bytes b
read-here terms others same l bytes is b read =
    subst (λ (t : Terms). IsReadAs t.layout bytes b) same (subst (λ (k : List ℕ). IsReadAs terms.layout k b) is read)

-- bytes that are those of a bundle, or of none
module _ {D S O R Q A : Type 0} (fixed : Fixed S O R Q A) (bytes name : List ℕ) (old new : StoreView (Move O R) D) where
  module _ (b : Plain) (fits : IsBundle fixed.terms.layout b) (text : bytes ≡ bundle_text fixed.terms.layout b) where
    pub bundle-received : (receipt : Receipt) → IsReceived fixed b name old new receipt → AreReceived fixed bytes name old new receipt
    bundle-received receipt r = record { made = r.made; received = inr (b, fits, text, r.received); now = r.now }

    pub bundle-not-received : (e : NotReceived) → IsNotReceived fixed b name old new e → AreNotReceived fixed bytes name old new e
    bundle-not-received e (inl (receipt, tells, r)) = inl (receipt, tells, bundle-received receipt r)
    bundle-not-received e (inr broken) = inr (inr (b, fits, text, broken))

    pub bundle-moments : (disk : Ghosts D) → LeavesOnly disk.moment disk.left_since old.disk new.disk (StandsOnTheWay fixed old.history b name)
        → LeavesOnly disk.moment disk.left_since old.disk new.disk (StandsOnTheirWay fixed old.history bytes name)
    bundle-moments disk all =
        weakened disk.moment disk.left_since old.disk new.disk (StandsOnTheWay fixed old.history b name) (StandsOnTheirWay fixed old.history bytes name) all (λ c w. inr (b, fits, text, w))

  pub none-received : ((b : Plain) → IsBundle fixed.terms.layout b → ¬ (bytes ≡ bundle_text fixed.terms.layout b)) → new ≡ old → AreNotReceived fixed bytes name old new unreceived.NoBundle
  none-received none same = inl (
    NoBundle,
    refl,
    record {
      made = [];
      received = inl (none, refl, refl);
      now = same ∙ ap (λ (h : List (Move O R)). record old { history = h }) (sym (append-nil old.history))
          ∙ ap (λ (d : D). record old { history = old.history ++ []; disk = d }) (ap (λ (v : StoreView (Move O R) D). v.disk) (sym same));
    },
  )

-- the same of a list of items that is this one
pub taken_listed : {D S O R Q A : Type 0} (meaning : Meaning S O R Q A) (address : List ℕ → List ℕ) (l items : List Item) (old mid : StoreView (Move O R) D) (count : ℕ) → l ≡ items
    → TakesAll (fix meaning old.terms address) (map pair_of l) old mid count → TakesAll (fix meaning old.terms address) (map pair_of items) old mid count
taken_listed meaning address l items old mid count same takes = subst (λ (k : List Item). TakesAll (fix meaning old.terms address) (map pair_of k) old mid count) same takes

pub moments_listed : {D S O R Q A : Type 0} (disk : Ghosts D) (fixed : Fixed S O R Q A) (l items : List Item) (old mid : StoreView (Move O R) D) → l ≡ items
    → LeavesOnly disk.moment disk.left_since old.disk mid.disk (StandsAfterSome fixed old.history (map pair_of l))
    → LeavesOnly disk.moment disk.left_since old.disk mid.disk (StandsAfterSome fixed old.history (map pair_of items))
moments_listed disk fixed l items old mid same all = subst (λ (k : List Item). LeavesOnly disk.moment disk.left_since old.disk mid.disk (StandsAfterSome fixed old.history (map pair_of k))) same all

pub stops_listed : {D S O R Q A : Type 0} (fixed : Fixed S O R Q A) (l items : List Item) (old mid : StoreView (Move O R) D) (e : NotReceived) → l ≡ items
    → StopsAt fixed (map pair_of l) old mid e ⊎ IsInterrupted fixed (map pair_of l) old mid e → StopsAt fixed (map pair_of items) old mid e ⊎ IsInterrupted fixed (map pair_of items) old mid e
stops_listed fixed l items old mid e same stops = subst (λ (k : List Item). StopsAt fixed (map pair_of k) old mid e ⊎ IsInterrupted fixed (map pair_of k) old mid e) same stops
