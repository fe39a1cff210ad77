-- Objects framed by a kind and a length, and items of one or two of them, at the front of bytes.
use Rattle.std.proofs.Common.{◌≡◌, ℕ, ◌+◌, List, [], ◌∷◌, ◌++◌, length, ap, sym, ◌∙◌, arith, append_assoc, length-append}
use Rattle.branch_names.specs.declared.layout.Layout.{Layout}
use Rattle.branch_wire.specs.Fields.{field}
use Rattle.branch_wire.specs.Reading.{HasLength64}
use Rattle.branch_wire.proofs.Numbers.{same_parts, length-field}
use Rattle.branch_objects_codec.specs.Parts.{NoneAt}
use Rattle.branch_objects_codec.proofs.Body.{own}
use Rattle.branch_bundle_laws.specs.Text.{item_text, IsFramed, IsValueText, IsItemText}
use Rattle.branch_bundle_laws.proofs.Text.{values}

-- as many bytes as a kind, a length and a body have are these, where these stand
pub framed-taken : (old ahead rest object more body : List ℕ) (kind : ℕ) → old ≡ kind ∷ ahead → ahead ≡ field body ++ rest → length object ≡ length body + 9 → old ≡ object ++ more → object ≡ kind ∷ field body
framed-taken old ahead rest object more body kind first second long is =
    let size : length object ≡ length (kind ∷ field body) = omega (arith, long, length-field body) in
    (same_parts object more (kind ∷ field body) rest size (sym is ∙ first ∙ ap (λ (l : List ℕ). kind ∷ l) second)).0

-- they are all there
pub framed-there : (old ahead rest body : List ℕ) (kind : ℕ) → old ≡ kind ∷ ahead → ahead ≡ field body ++ rest → length old ≡ length body + 9 + length rest
framed-there old ahead rest body kind first second = omega (arith, ap length first, ap length second, length-append (field body) rest, length-field body)

-- no object stands where no kind does
pub none-kind : (old : List ℕ) → old ≡ [] → NoneAt IsFramed own old
none-kind old empty x rest (kind, body, short, is) there =
    let clash : [] ≡ kind ∷ (field body ++ rest) = sym empty ∙ there ∙ ap (λ (l : List ℕ). l ++ rest) is in
    cc clash

-- nor where no length and body stand behind it
pub none-body : (old ahead : List ℕ) (kind : ℕ) → old ≡ kind ∷ ahead → ((body rest : List ℕ) → HasLength64 body → ahead ≡ field body ++ rest → ⊥) → NoneAt IsFramed own old
none-body old ahead kind first none x rest (k, body, short, is) there =
    let whole : kind ∷ ahead ≡ k ∷ (field body ++ rest) = sym first ∙ there ∙ ap (λ (l : List ℕ). l ++ rest) is in
    let inner : ahead ≡ field body ++ rest = cc whole in
    none body rest short inner

-- no item stands where its first part does not
pub none-value : (layout : Layout) (old : List ℕ) → NoneAt (IsValueText layout) own old → NoneAt (IsItemText layout) item_text old
none-value layout old none item rest fit is = none item.value (item.commit ++ rest) fit.0 (is ∙ append_assoc item.value item.commit rest)

-- nor where its second does not stand behind it
pub none-commit : (layout : Layout) (old mid value : List ℕ) → IsValueText layout value → old ≡ value ++ mid → NoneAt IsFramed own mid → NoneAt (IsItemText layout) item_text old
none-commit layout old mid value fits found none item rest fit is =
    none item.commit rest fit.1 ((values layout).one value item.value mid (item.commit ++ rest) fits fit.0 (sym found ∙ is ∙ append_assoc item.value item.commit rest)).1

-- two parts, one behind the other
pub both-taken : (old mid rest value commit a b : List ℕ) → old ≡ value ++ mid → mid ≡ commit ++ rest → a ≡ value → b ≡ commit → old ≡ (a ++ b) ++ rest
both-taken old mid rest value commit a b first second p q =
    first ∙ ap (λ (l : List ℕ). value ++ l) second ∙ sym (append_assoc value commit rest) ∙ ap (λ (l : List ℕ). (l ++ commit) ++ rest) (sym p) ∙ ap (λ (l : List ℕ). (a ++ l) ++ rest) (sym q)
