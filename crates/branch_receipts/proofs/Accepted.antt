-- What is answered to the bytes that a valid history sent.
use Rattle.std.proofs.Common.{◌≡◌, inl, inr, ℕ, List, [], ◌∷◌, ◌++◌, ap, sym, ◌∙◌, subst, Some, None, append_assoc}
use Rattle.std.specs.List.{AllByRecursion}
use Rattle.mrdt_model.specs.Laws.{Meaning}
use Rattle.branch_wire.specs.Reading.{HasLength64}
use Rattle.branch_names.specs.declared.branch.Branch.{Branch}
use Rattle.branch_names.specs.declared.layout.Layout.{Layout}
use Rattle.branch_names.specs.declared.terms.Terms.{Terms}
use Rattle.branch_names.specs.Heads.{branch_named}
use Rattle.branch_history.specs.declared.moves.Move.{Move}
use Rattle.branch_history.specs.Commits.{Commit}
use Rattle.branch_history.specs.Steps.{Refusal, New, Here, Refused, Turn}
use Rattle.branch_machine.specs.Fixed.{Fixed, fix}
use Rattle.branch_machine.specs.Objects.{pairs_of, store_after}
use Rattle.branch_machine.specs.Laws.{HasSize}
use Rattle.branch_bundle_laws.specs.Bundles.{Bundle, item_at, bundle_of}
use Rattle.branch_bundle_laws.specs.Text.{bundle_text, IsBundle}
use Rattle.branch_bundle_laws.specs.Receiving.{made_by, ReceivesAll, Receipt, NoBundle, Stopped, NotPlaced, Placed, EndsRefused, EndsAs, ReceivesItems, ReceivesFree}
use Rattle.branch_bundle_laws.specs.Laws.{ReadsBundles, SendsBundles, AddsAllItems, AcceptsBundles, MayMeet, IsAnswered, Sends}
use Rattle.branch_receipts.specs.Receipts.{IsAcceptable}
use Rattle.branch_receipts.proofs.Places.{stays, refused-full}

-- the last turn refuses for something else than that the item is bad
met-last : {O R A : Type 0} (t : Turn O R A) (r : Refusal) → IsAnswered t → t.outcome ≡ Refused r → MayMeet r
met-last t r (inl (n, inl here)) is = let clash : Here n ≡ Refused r = sym here ∙ is in absurd (cc clash)
met-last t r (inl (n, inr new)) is = let clash : New n ≡ Refused r = sym new ∙ is in absurd (cc clash)
met-last t r (inr (q, refused, may)) is =
    let both : Refused q ≡ Refused r = sym refused ∙ is in
    let one : q ≡ r = cc both in
    subst MayMeet one may

met : {O R A : Type 0} (ts : List (Turn O R A)) (r : Refusal) → AllByRecursion IsAnswered ts → EndsRefused ts r → MayMeet r
met [] r all ends = absurd ends
met (t ∷ []) r all ends = met-last t r all.0 ends
met (t ∷ u ∷ ts) r all ends = met (u ∷ ts) r all.1 ends

module _ {S O R Q A : Type 0} (meaning : Meaning S O R Q A) (reads : ReadsBundles) (sends : SendsBundles meaning) (adds : AddsAllItems meaning) (accepts : AcceptsBundles meaning) (terms others : Terms) (address : List ℕ → List ℕ) (size : HasSize address) (moves more : List (Move O R)) (tip : ℕ) (addresses : List (List ℕ)) (from : Sends (fix meaning terms address) moves tip addresses (fix meaning others address) more) (name : List ℕ) (free : branch_named (store_after (fix meaning others address) more).branches name ≡ None) where
  abbrev one : Fixed S O R Q A
  one = fix meaning terms address

  abbrev other : Fixed S O R Q A
  other = fix meaning others address

  abbrev b : Bundle
  b = bundle_of one moves tip addresses

  abbrev Accepted : List (Move O R) → Receipt → Type 0
  Accepted made receipt = IsAcceptable one moves tip other (more ++ made) receipt

  ends-accepted : (ts : List (Turn O R A)) → ReceivesAll other more b.items ts → (receipt : Receipt) (last : List (Move O R)) → EndsAs other (more ++ made_by ts) b.tip name ts receipt last → Accepted (made_by ts ++ last) receipt
  ends-accepted ts received NoBundle last ends =
      let there = (accepts terms others address size moves more tip addresses ts from received).1 ends.0 in
      let clash : None ≡ Some there.0 = sym ends.1 ∙ there.1 in
      absurd (cc clash)
  ends-accepted ts received (Stopped i r) last ends = met ts r (accepts terms others address size moves more tip addresses ts from received).0 ends.0
  ends-accepted ts received (NotPlaced r) last ends =
      let grown = adds others address more from.also b.items ts received in
      refused-full other (more ++ made_by ts) name ends.1.0 (ap (λ (bs : List Branch). branch_named bs name) grown.branches ∙ free) r ends.1.2
  ends-accepted ts received (Placed count number head) last ends =
      let there = (accepts terms others address size moves more tip addresses ts from received).1 ends.0 in
      let tips : Some there.0 ≡ Some head = sym there.1 ∙ ends.1 in
      let at : there.0 ≡ head = cc tips in
      let after : List (Move O R) = more ++ made_by ts in
      let stood = (stays other after name head).0 in
      let joined : after ++ last ≡ more ++ (made_by ts ++ last) = append_assoc more (made_by ts) last in
      let commits : (store_after other (more ++ (made_by ts ++ last))).commits ≡ (store_after other after).commits =
      ap (λ (l : List (Move O R)). (store_after other l).commits) (sym joined) ∙ ap (λ (l : List (Move O R)). (store_after other (after ++ l)).commits) ends.4 ∙ stood in
      ap (λ (cs : List (Commit O R)). item_at (pairs_of other cs) head) commits ∙ ap (item_at (pairs_of other (store_after other after).commits)) (sym at) ∙ there.2

  abbrev text : List ℕ
  text = bundle_text terms.layout b

  -- the layouts are the same
  good : HasLength64 text → IsBundle others.layout b
  good short = subst (λ (l : Layout). IsBundle l b) from.layouts (sends terms address size moves from.valid tip addresses short)

  read : text ≡ bundle_text others.layout b
  read = ap (λ (l : Layout). bundle_text l b) from.layouts

  pub accepted : HasLength64 text → (receipt : Receipt) (made : List (Move O R)) → ReceivesFree other more text name receipt made → Accepted made receipt
  accepted short receipt made (inl (never, is, none)) = absurd (never b (good short) read)
  accepted short receipt made (inr (c, fits, is, received)) =
      let same : c ≡ b = ((reads others.layout).one c b [] [] fits (good short) (ap (λ x. x ++ []) (sym is ∙ read))).0 in
      by-items receipt made (subst (λ (x : Bundle). ReceivesItems other more x name receipt made) same received)
    where
      by-items : (receipt : Receipt) (made : List (Move O R)) → ReceivesItems other more b name receipt made → Accepted made receipt
      by-items receipt made (ts, last, received, ends, is) = subst (λ (l : List (Move O R)). Accepted l receipt) (sym is) (ends-accepted ts received receipt last ends)
