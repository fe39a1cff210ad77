-- The receiving of bytes: one answer, and the moves that it makes.
use Rattle.std.proofs.Common.{◌≡◌, ◌⊎◌, inl, inr, ℕ, ◌<◌, ◌≤◌, List, [], ◌∷◌, ◌++◌, length, refl, ap, sym, ◌∙◌, arith, IsTrue, subst, Option, Some, None, append_assoc, append-nil, length-append, ⊎_elim}
use Rattle.std.specs.List.{AllByRecursion, flat_map}
use Rattle.mrdt_model.specs.Laws.{KeepsLaws}
use Rattle.branch_names.specs.Names.{is_name}
use Rattle.branch_wire.specs.Reading.{HasLength64}
use Rattle.branch_wire.specs.StoredObjects.{same}
use Rattle.branch_wire.proofs.Lists.{flat_map-each}
use Rattle.branch_history.specs.declared.moves.Move.{Move}
use Rattle.branch_history.specs.declared.moves.Move.TheVariants as move
use Rattle.branch_names.specs.Heads.{branch_named}
use Rattle.branch_history.specs.Steps.{Refusal, NameTaken, New, Here, Forked, Refused, BadBundle, Place, Turn}
use Rattle.branch_history.proofs.Lists.{AllByRecursion-more, position-within}
use Rattle.branch_machine.specs.Fixed.{Fixed}
use Rattle.branch_machine.specs.Objects.{Pair, pairs_of, store_after}
use Rattle.branch_machine.specs.Machine.{full_turn}
use Rattle.branch_machine.specs.Laws.{HasSize}
use Rattle.branch_machine.specs.Validity.{IsFullyValid, IsFullMove, Receives}
use Rattle.branch_machine.proofs.Pairs.{length-pairs_of}
use Rattle.branch_machine.proofs.Items.{answered}
use Rattle.branch_machine.proofs.Valid.{valid-more}
use Rattle.branch_bundle_laws.specs.Bundles.{Bundle}
use Rattle.branch_bundle_laws.specs.Text.{item_text, bundle_text, IsBundle}
use Rattle.branch_bundle_laws.specs.Receiving.{IsTaken, IsReceiving, made_by, ReceivesAll, addressed, Receipt, NoBundle, Stopped, NotPlaced, Placed, EndsRefused, EndsAs, ReceivesFree, ReceivesBytes}
use Rattle.branch_bundle_laws.specs.Laws.{MakesReceived}
use Rattle.branch_bundle_laws.proofs.Turns.{IsReceivedAs, WasHere, WasNew, WasRefused, WasBad, received-as}
use Rattle.branch_bundle_laws.proofs.Folds.{all-grown}
use Rattle.branch_bundle_laws.proofs.Placed.{forked, placed-or}
use Rattle.branch_bundle_laws.proofs.OneAnswer.{one-fold}
use Rattle.branch_bundle_laws.proofs.Text.{bundles-one, bundle-length}

none-some : {X : Type 0} (o : Option X) (x : X) → o ≡ None → o ≡ Some x → ⊥
none-some o x none some = let clash : None ≡ Some x = sym none ∙ some in cc clash

module _ {O R A : Type 0} where
  -- the last turn is taken, or refused in one way
  taken-refused : (ts : List (Turn O R A)) (r : Refusal) → AllByRecursion IsTaken ts → EndsRefused ts r → ⊥
  taken-refused [] r taken ends = ends
  taken-refused (t ∷ []) r ((n, inl here), rest) ends = let clash : Here n ≡ Refused r = sym here ∙ ends in cc clash
  taken-refused (t ∷ []) r ((n, inr new), rest) ends = let clash : New n ≡ Refused r = sym new ∙ ends in cc clash
  taken-refused (t ∷ u ∷ ts) r (first, rest) ends = taken-refused (u ∷ ts) r rest ends

  one-refusal : (ts : List (Turn O R A)) (r q : Refusal) → EndsRefused ts r → EndsRefused ts q → r ≡ q
  one-refusal [] r q ends also = absurd ends
  one-refusal (t ∷ []) r q ends also = let same : Refused r ≡ Refused q = sym ends ∙ also in cc same
  one-refusal (t ∷ u ∷ ts) r q ends also = one-refusal (u ∷ ts) r q ends also

  -- one more turn in front
  ends-behind : (t : Turn O R A) (ts : List (Turn O R A)) (r : Refusal) → EndsRefused ts r → EndsRefused (t ∷ ts) r
  ends-behind t [] r ends = absurd ends
  ends-behind t (u ∷ ts) r ends = ends

module _ {S O R Q A : Type 0} (fixed : Fixed S O R Q A) where
  -- what is answered behind the items is one
  one-end : (after : List (Move O R)) (tip name : List ℕ) (ts : List (Turn O R A)) (p q : Receipt) (l m : List (Move O R)) → EndsAs fixed after tip name ts p l → EndsAs fixed after tip name ts q m → (p ≡ q) × (l ≡ m)
  one-end after tip name ts NoBundle NoBundle l m x y = (refl, x.2 ∙ sym y.2)
  one-end after tip name ts NoBundle (Stopped i r) l m x y = absurd (taken-refused ts r x.0 y.0)
  one-end after tip name ts NoBundle (NotPlaced r) l m x y = absurd (none-some (addressed fixed after tip) y.1.0 x.1 y.1.1)
  one-end after tip name ts NoBundle (Placed c n h) l m x y = absurd (none-some (addressed fixed after tip) h x.1 y.1)
  one-end after tip name ts (Stopped i r) NoBundle l m x y = absurd (taken-refused ts r y.0 x.0)
  one-end after tip name ts (Stopped i r) (Stopped j q) l m x y = (ap (λ k. Stopped k r) (x.1 ∙ sym y.1) ∙ ap (λ k. Stopped j k) (one-refusal ts r q x.0 y.0), x.2 ∙ sym y.2)
  one-end after tip name ts (Stopped i r) (NotPlaced q) l m x y = absurd (taken-refused ts r y.0 x.0)
  one-end after tip name ts (Stopped i r) (Placed c n h) l m x y = absurd (taken-refused ts r y.0 x.0)
  one-end after tip name ts (NotPlaced r) NoBundle l m x y = absurd (none-some (addressed fixed after tip) x.1.0 y.1 x.1.1)
  one-end after tip name ts (NotPlaced r) (Stopped i q) l m x y = absurd (taken-refused ts q x.0 y.0)
  one-end after tip name ts (NotPlaced r) (NotPlaced q) l m x y =
      let tips : Some x.1.0 ≡ Some y.1.0 = sym x.1.1 ∙ y.1.1 in
      let tip_is : x.1.0 ≡ y.1.0 = cc tips in
      let refusals : Refused r ≡ Refused q = sym x.1.2 ∙ ap (λ k. (full_turn fixed after (Place name k)).outcome) tip_is ∙ y.1.2 in
      let same_refusal : r ≡ q = cc refusals in
      (ap (λ k. NotPlaced k) same_refusal, x.2 ∙ sym y.2)
  one-end after tip name ts (NotPlaced r) (Placed c n h) l m x y =
      let tips : Some x.1.0 ≡ Some h = sym x.1.1 ∙ y.1 in
      let tip_is : x.1.0 ≡ h = cc tips in
      let clash : Refused r ≡ Forked n h = sym x.1.2 ∙ ap (λ k. (full_turn fixed after (Place name k)).outcome) tip_is ∙ y.2 in
      absurd (cc clash)
  one-end after tip name ts (Placed c n h) NoBundle l m x y = absurd (none-some (addressed fixed after tip) h y.1 x.1)
  one-end after tip name ts (Placed c n h) (Stopped i q) l m x y = absurd (taken-refused ts q x.0 y.0)
  one-end after tip name ts (Placed c n h) (NotPlaced r) l m x y =
      let tips : Some y.1.0 ≡ Some h = sym y.1.1 ∙ x.1 in
      let tip_is : y.1.0 ≡ h = cc tips in
      let clash : Refused r ≡ Forked n h = sym y.1.2 ∙ ap (λ k. (full_turn fixed after (Place name k)).outcome) tip_is ∙ x.2 in
      absurd (cc clash)
  one-end after tip name ts (Placed c n h) (Placed d k j) l m x y =
      let tips : Some h ≡ Some j = sym x.1 ∙ y.1 in
      let tip_is : h ≡ j = cc tips in
      let outcomes : Forked n h ≡ Forked k j = sym x.2 ∙ ap (λ i. (full_turn fixed after (Place name i)).outcome) tip_is ∙ y.2 in
      let numbers : n ≡ k = cc outcomes in
      (ap (λ i. Placed i n h) (x.3 ∙ sym y.3) ∙ ap (λ i. Placed d i h) numbers ∙ ap (λ i. Placed d k i) tip_is, x.4 ∙ ap (λ i. (full_turn fixed after (Place name i)).made) tip_is ∙ sym y.4)

  module _ (laws : KeepsLaws fixed.meaning) (size : HasSize fixed.address) (moves : List (Move O R)) (valid : IsFullyValid fixed moves) (bytes name : List ℕ) (short : HasLength64 bytes) where
    commits-short : (b : Bundle) → IsBundle fixed.terms.layout b → bytes ≡ bundle_text fixed.terms.layout b → AllByRecursion (λ item. HasLength64 item.commit) b.items
    commits-short b fits is =
        let whole = bundle-length fixed.terms.layout b fits.0 in
        AllByRecursion-more (λ item. length (item_text item) ≤ length (flat_map item_text b.items)) (λ item. HasLength64 item.commit) b.items
        (λ item le. omega (arith, le, length-append item.value item.commit, whole, ap length is, short)) (flat_map-each item_text b.items)

    one-free : (p q : Receipt) (l m : List (Move O R)) → ReceivesFree fixed moves bytes name p l → ReceivesFree fixed moves bytes name q m → (p ≡ q) × (l ≡ m)
    one-free p q l m (inl (none, is, made)) (inl (nor, also, other)) = (is ∙ sym also, made ∙ sym other)
    one-free p q l m (inl (none, is, made)) (inr (b, fits, text, rest)) = absurd (none b fits text)
    one-free p q l m (inr (b, fits, text, rest)) (inl (none, is, made)) = absurd (none b fits text)
    one-free p q l m (inr (b, fits, text, (ts, last, received, ends, made))) (inr (c, fits_c, text_c, (us, final, received_c, ends_c, made_c))) =
        let same_b : c ≡ b = ((bundles-one fixed.terms.layout).one c b [] [] fits_c fits (ap (λ x. x ++ []) (sym text_c ∙ text))).0 in
        let items : ReceivesAll fixed moves b.items us = subst (λ (x : Bundle). ReceivesAll fixed moves x.items us) same_b received_c in
        let turns : us ≡ ts = sym (one-fold fixed laws size moves valid b.items (commits-short b fits text) ts us received items) in
        let ends_b : EndsAs fixed (moves ++ made_by us) b.tip name us q final = subst (λ (x : Bundle). EndsAs fixed (moves ++ made_by us) x.tip name us q final) same_b ends_c in
        let ends_t : EndsAs fixed (moves ++ made_by ts) b.tip name ts q final = subst (λ (x : List (Turn O R A)). EndsAs fixed (moves ++ made_by x) b.tip name x q final) turns ends_b in
        let one = one-end (moves ++ made_by ts) b.tip name ts p q last final ends ends_t in
        (one.0, made ∙ ap (λ (x : List (Move O R)). made_by ts ++ x) one.1 ∙ ap (λ (x : List (Turn O R A)). made_by x ++ final) (sym turns) ∙ sym made_c)

    pub one-bytes : (p q : Receipt) (l m : List (Move O R)) → ReceivesBytes fixed moves bytes name p l → ReceivesBytes fixed moves bytes name q m → (p ≡ q) × (l ≡ m)
    one-bytes p q l m (inl (n, taken, is, made)) (inl (k, also, other, none)) =
        let numbers : Some n ≡ Some k = sym taken ∙ also in
        let same_number : n ≡ k = cc numbers in
        (is ∙ ap (λ i. NotPlaced (NameTaken i)) same_number ∙ sym other, made ∙ sym none)
    one-bytes p q l m (inl (n, taken, is, made)) (inr (named, rest)) = absurd (none-some (branch_named (store_after fixed moves).branches name) n named taken)
    one-bytes p q l m (inr (named, rest)) (inl (n, taken, is, made)) = absurd (none-some (branch_named (store_after fixed moves).branches name) n named taken)
    one-bytes p q l m (inr (named, rest)) (inr (also, other)) = one-free p q l m rest other

  -- a turn on an item is taken, or refused
  turn-ends : (moves : List (Move O R)) (item : Pair) (t : Turn O R A) → IsReceivedAs fixed moves item t → IsTaken t ⊎ ((r : Refusal) × (t.outcome ≡ Refused r))
  turn-ends moves item t (WasHere n there is) = inl (n, inl (ap (λ (u : Turn O R A). u.outcome) is))
  turn-ends moves item t (WasNew m is full pairs branches how) = inl (length (store_after fixed moves).commits, inr (ap (λ (u : Turn O R A). u.outcome) is))
  turn-ends moves item t (WasRefused r may is) = inr (r, ap (λ (u : Turn O R A). u.outcome) is)
  turn-ends moves item t (WasBad nowhere is) = inr (BadBundle, ap (λ (u : Turn O R A). u.outcome) is)

  all-end : (moves : List (Move O R)) (items : List Pair) (ts : List (Turn O R A)) → ReceivesAll fixed moves items ts → AllByRecursion IsTaken ts ⊎ ((r : Refusal) × EndsRefused ts r)
  all-end moves [] ts none = inl (subst (AllByRecursion IsTaken) (sym none) tt)
  all-end moves (item ∷ items) [] none = absurd none
  all-end moves (item ∷ items) (t ∷ ts) (first, inl (taken, rest)) =
      ⊎_elim (λ all. inl (taken, all)) (λ ends. inr (ends.0, ends-behind t ts ends.0 ends.1)) (all-end (moves ++ t.made) items ts rest)
  all-end moves (item ∷ items) (t ∷ ts) (first, inr (refused, none)) =
      ⊎_elim (λ taken. absurd (refused taken)) (λ ends. inr (ends.0, subst (λ (l : List (Turn O R A)). EndsRefused (t ∷ l) ends.0) (sym none) ends.1)) (turn-ends moves item t (received-as fixed moves item t first))

  -- items have answers
  some-answers : (moves : List (Move O R)) (items : List Pair) → ((ts : List (Turn O R A)) → ¬ ReceivesAll fixed moves items ts) → ⊥
  some-answers moves [] none = none [] refl
  some-answers moves (item ∷ items) none = answered fixed moves item (λ t first. behind t first (λ rest. some-answers (moves ++ t.made) items rest))
    where
      behind : (t : Turn O R A) → Receives fixed moves item t → (((ts : List (Turn O R A)) → ¬ ReceivesAll fixed (moves ++ t.made) items ts) → ⊥) → ⊥
      behind t first more =
          ⊎_elim
          (λ taken. more (λ ts rest. none (t ∷ ts) (first, inl (taken, rest))))
          (λ ends. none (t ∷ []) (first, inr (not t ends.0 ends.1, refl)))
          (turn-ends moves item t (received-as fixed moves item t first))
        where
          not : (t : Turn O R A) (r : Refusal) → t.outcome ≡ Refused r → ¬ IsTaken t
          not t r is taken = taken-refused (t ∷ []) r (taken, tt) is

  -- and something is answered behind them
  some-end : (after : List (Move O R)) (tip name : List ℕ) (ts : List (Turn O R A)) → AllByRecursion IsTaken ts ⊎ ((r : Refusal) × EndsRefused ts r) → (p : Receipt) × (made : List (Move O R)) × EndsAs fixed after tip name ts p made
  some-end after tip name ts (inr ends) = (Stopped (length ts) ends.0, [], (ends.1, refl, refl))
  some-end after tip name ts (inl taken) = at (addressed fixed after tip) refl
    where
      at : (o : Option ℕ) → addressed fixed after tip ≡ o → (p : Receipt) × (made : List (Move O R)) × EndsAs fixed after tip name ts p made
      at None none = (NoBundle, [], (taken, none, refl))
      at (Some k) there =
          ⊎_elim
          (λ refused. (NotPlaced refused.0, [], (taken, (k, there, refused.1), refl)))
          (λ stands. (Placed (length (made_by ts)) (length (store_after fixed after).branches) k, (full_turn fixed after (Place name k)).made, (taken, there, stands, refl, refl)))
          (placed-or fixed after name k)

  pub some-bytes : (moves : List (Move O R)) (bytes name : List ℕ) → ((p : Receipt) (made : List (Move O R)) → ¬ ReceivesBytes fixed moves bytes name p made) → ⊥
  some-bytes moves bytes name none = at (branch_named (store_after fixed moves).branches name) refl
    where
      no-bundle : branch_named (store_after fixed moves).branches name ≡ None → (b : Bundle) → IsBundle fixed.terms.layout b → ¬ (bytes ≡ bundle_text fixed.terms.layout b)
      no-bundle named b fits is =
          some-answers moves b.items
          (λ ts received.
          let end = some-end (moves ++ made_by ts) b.tip name ts (all-end moves b.items ts received) in
          none end.0 (made_by ts ++ end.1) (inr (named, inr (b, fits, is, (ts, end.1, received, end.2, refl)))))

      at : (o : Option ℕ) → branch_named (store_after fixed moves).branches name ≡ o → ⊥
      at (Some n) taken = none (NotPlaced (NameTaken n)) [] (inl (n, taken, refl, refl))
      at None named = none NoBundle [] (inr (named, inl (no-bundle named, refl, refl)))

  -- the moves that turns on items make
  all-both : (xs ys : List (Move O R)) → AllByRecursion IsReceiving xs → AllByRecursion IsReceiving ys → AllByRecursion IsReceiving (xs ++ ys)
  all-both [] ys p q = q
  all-both (x ∷ xs) ys p q = (p.0, all-both xs ys p.1 q)

  turn-makes : (moves : List (Move O R)) (item : Pair) (t : Turn O R A) → IsReceivedAs fixed moves item t → AllByRecursion IsReceiving t.made
  turn-makes moves item t (WasHere n there is) = subst (λ (u : Turn O R A). AllByRecursion IsReceiving u.made) (sym is) tt
  turn-makes moves item t (WasNew m is full pairs branches how) = subst (λ (u : Turn O R A). AllByRecursion IsReceiving u.made) (sym is) (how, tt)
  turn-makes moves item t (WasRefused r may is) = subst (λ (u : Turn O R A). AllByRecursion IsReceiving u.made) (sym is) tt
  turn-makes moves item t (WasBad nowhere is) = subst (λ (u : Turn O R A). AllByRecursion IsReceiving u.made) (sym is) tt

  all-make : (moves : List (Move O R)) (items : List Pair) (ts : List (Turn O R A)) → ReceivesAll fixed moves items ts → AllByRecursion IsReceiving (made_by ts)
  all-make moves [] ts none = subst (λ (l : List (Turn O R A)). AllByRecursion IsReceiving (made_by l)) (sym none) tt
  all-make moves (item ∷ items) [] none = absurd none
  all-make moves (item ∷ items) (t ∷ ts) (first, inl (taken, rest)) = all-both t.made (made_by ts) (turn-makes moves item t (received-as fixed moves item t first)) (all-make (moves ++ t.made) items ts rest)
  all-make moves (item ∷ items) (t ∷ ts) (first, inr (refused, none)) = all-both t.made (made_by ts) (turn-makes moves item t (received-as fixed moves item t first)) (subst (λ (l : List (Turn O R A)). AllByRecursion IsReceiving (made_by l)) (sym none) tt)

  module _ (moves : List (Move O R)) (valid : IsFullyValid fixed moves) (name : List ℕ) (named : IsTrue (is_name name)) where
    nothing-made : (made : List (Move O R)) → made ≡ [] → MakesReceived fixed moves name made
    nothing-made made none = record {
      valid = subst (λ (l : List (Move O R)). IsFullyValid fixed (moves ++ l)) (sym none) (subst (IsFullyValid fixed) (sym (append-nil moves)) valid);
      received = [];
      placed = [];
      is = none;
      each = tt;
      last = inl refl;
    }

    -- received commits, and nothing more
    items-made : (ts : List (Turn O R A)) (made last : List (Move O R)) → IsFullyValid fixed (moves ++ made_by ts) → AllByRecursion IsReceiving (made_by ts) → made ≡ made_by ts ++ last → last ≡ [] → MakesReceived fixed moves name made
    items-made ts made last later each is none = record {
      valid = subst (λ (l : List (Move O R)). IsFullyValid fixed (moves ++ l)) (sym (is ∙ ap (λ (l : List (Move O R)). made_by ts ++ l) none ∙ append-nil (made_by ts))) later;
      received = made_by ts;
      placed = [];
      is = is ∙ ap (λ (l : List (Move O R)). made_by ts ++ l) none;
      each = each;
      last = inl refl;
    }

    end-made : (tip : List ℕ) (ts : List (Turn O R A)) (p : Receipt) (made last : List (Move O R)) → IsFullyValid fixed (moves ++ made_by ts) → AllByRecursion IsReceiving (made_by ts) → made ≡ made_by ts ++ last → EndsAs fixed (moves ++ made_by ts) tip name ts p last → MakesReceived fixed moves name made
    end-made tip ts NoBundle made last later each is ends = items-made ts made last later each is ends.2
    end-made tip ts (Stopped i r) made last later each is ends = items-made ts made last later each is ends.2
    end-made tip ts (NotPlaced r) made last later each is ends = items-made ts made last later each is ends.2
    end-made tip ts (Placed c n h) made last later each is ends =
        let after : List (Move O R) = moves ++ made_by ts in
        let count : ℕ = length (store_after fixed after).branches in
        let m : Move O R = move.Place name count h in
        let one = forked fixed after name h n h ends.2 in
        let at : last ≡ m ∷ [] = ends.4 ∙ one in
        let there : h < length (store_after fixed after).commits =
        omega (arith, (position-within (λ (p : Pair). same (fixed.address p.commit) tip) 0 h (pairs_of fixed (store_after fixed after).commits) ends.1).1, length-pairs_of fixed (store_after fixed after).commits) in
        let full : IsFullMove fixed after m = (Place name h, (named, there), one) in
        let whole : after ++ m ∷ [] ≡ moves ++ made = append_assoc moves (made_by ts) (m ∷ []) ∙ ap (λ (l : List (Move O R)). moves ++ (made_by ts ++ l)) (sym at) ∙ ap (λ (l : List (Move O R)). moves ++ l) (sym is) in
        record {
          valid = subst (IsFullyValid fixed) whole (valid-more fixed after m later full);
          received = made_by ts;
          placed = last;
          is = is;
          each = each;
          last = inr (count, h, at);
        }

    pub bytes-made : (bytes : List ℕ) (p : Receipt) (made : List (Move O R)) → ReceivesBytes fixed moves bytes name p made → MakesReceived fixed moves name made
    bytes-made bytes p made (inl (n, taken, is, none)) = nothing-made made none
    bytes-made bytes p made (inr (free, inl (never, is, none))) = nothing-made made none
    bytes-made bytes p made (inr (free, inr (b, fits, text, (ts, last, received, ends, is)))) =
        end-made b.tip ts p made last (all-grown fixed moves b.items ts valid received).valid (all-make moves b.items ts received) is ends
