-- A store of values of a type, and what lines make of it.
use Rattle.std.specs.Prelude.{ℕ, List, [], ◌∷◌}
use Rattle.std.specs.declared.option.Option.{Option}
use Rattle.branch_disk.specs.Disk.{Files}
use Rattle.branch_names.specs.declared.terms.Terms.{Terms}
use Rattle.mrdt_old_doc.specs.OldDocument.{old_document}
use Rattle.branch_machine.specs.Fixed.{Fixed, fix}
use Rattle.branch_doc.specs.Types.{PlainForms}
use Rattle.branch_engine.specs.Play.{Play, begins, line_told, text_of, after_lines}
use Rattle.branch_shell.specs.Stores.{Stored, SaysRefused}
use Rattle.branch_shell.specs.Values.{ValueType}

-- what is fixed for a store of values of this type, under these terms
abbrev pub fixed_under : {S O R Q A : Type 0} → ValueType S O R Q A → (List ℕ → List ℕ) → Terms
    → Fixed S O R Q A
fixed_under of address terms = fix of.meaning terms address

abbrev pub fixed_of : {S O R Q A : Type 0} → ValueType S O R Q A → (List ℕ → List ℕ) → Stored O R
    → Fixed S O R Q A
fixed_of of address store = fixed_under of address store.terms

-- the text of why files are refused as a store of such values; of the old version there are
-- documents alone
abbrev pub SaysUnopened : {S O R Q A : Type 0} → ValueType S O R Q A → (List ℕ → List ℕ)
    → Option Files → List ℕ → Type 0
SaysUnopened of address told text = SaysRefused of.kind of.meaning old_document address told text

-- the text of lines over a store
abbrev pub script_text : {S O R Q A : Type 0} → ValueType S O R Q A → (List ℕ → List ℕ)
    → Stored O R → List (List ℕ) → List ℕ
script_text of address store lines = text_of of.forms (fixed_of of address store) store.history lines

-- the store after lines
abbrev pub store_after : {S O R Q A : Type 0} → ValueType S O R Q A → (List ℕ → List ℕ)
    → Stored O R → List (List ℕ) → Stored O R
store_after of address store lines = record {
  terms = store.terms;
  history = after_lines of.forms (fixed_of of address store) store.history lines;
}

-- a reply in front of others, if it is one: an empty line and a comment have none
abbrev pub with_reply : List ℕ → List (List ℕ) → List (List ℕ)
with_reply [] replies = replies
with_reply (b ∷ bs) replies = (b ∷ bs) ∷ replies

-- the replies to lines from a play on, one by one
abbrev pub replies_from : {S O R Q A : Type 0} → PlainForms O Q R A → Fixed S O R Q A → Play O R
    → List (List ℕ) → List (List ℕ)
replies_from forms fixed p [] = []
replies_from forms fixed p (line ∷ lines) = with_reply (line_told forms fixed p line).text
    (replies_from forms fixed (line_told forms fixed p line).after lines)

-- the replies to lines over a store
abbrev pub replies_over : {S O R Q A : Type 0} → ValueType S O R Q A → (List ℕ → List ℕ)
    → Stored O R → List (List ℕ) → List (List ℕ)
replies_over of address store lines = replies_from of.forms (fixed_of of address store)
    (begins store.history) lines
