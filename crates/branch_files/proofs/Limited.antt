-- The header of a heads file tells the terms.
use Rattle.std.proofs.Common.{◌≡◌, ℕ, suc, List, ◌∷◌, ◌++◌, take, sym, ◌∙◌, ap, append_assoc, arith}
use Rattle.std.proofs.lemmas.List.{take_at}
use Rattle.branch_wire.specs.StoredObjects.{Begins}
use Rattle.branch_names.specs.declared.terms.Terms.{Terms}
use Rattle.heads_journal.specs.declared.record.Record.{Record}
use Rattle.heads_journal.specs.Format.{Header, IsHeader, header_fields}
use Rattle.heads_journal.specs.Heads.{open_records, heads_text}
use Rattle.heads_journal.proofs.Spelled.{length-header_fields}
use Rattle.heads_journal.proofs.Limited.{header-same}
use Rattle.branch_machine.specs.Fixed.{Form, present}
use Rattle.branch_files.specs.Records.{header_in, header_for}
use Rattle.branch_files.proofs.Longer.{begins-more}

header-at : (h : Header) (records : List Record) (heads : List ℕ) → Begins (heads_text h records) heads → take 64 heads ≡ 1 ∷ header_fields h
header-at h records heads begins =
    let more = begins-more (heads_text h records) heads begins in
    ap (take 64) (more.is ∙ ap (λ (l : List ℕ). 1 ∷ l) (append_assoc (header_fields h) (open_records records) more.more))
    ∙ take_at (1 ∷ header_fields h) (open_records records ++ more.more) 64 (ap suc (length-header_fields h))

-- each header of the form that is written today is one
pub is_header : (terms : Terms) → IsHeader (header_for terms)
is_header terms = record { version = omega arith; old = λ one. absurd (omega (arith, one)) }

-- a file begins with one header of a form
pub terms-same_in : (form : Form) (a b : Terms) (records others : List Record) (heads : List ℕ) → IsHeader (header_in form a) → IsHeader (header_in form b) → Begins (heads_text (header_in form a) records) heads → Begins (heads_text (header_in form b) others) heads → a ≡ b
terms-same_in form a b records others heads fits_a fits_b p q =
    let whole : 1 ∷ header_fields (header_in form a) ≡ 1 ∷ header_fields (header_in form b) = sym (header-at (header_in form a) records heads p) ∙ header-at (header_in form b) others heads q in
    let fields : header_fields (header_in form a) ≡ header_fields (header_in form b) = tail-same (header_fields (header_in form a)) (header_fields (header_in form b)) whole in
    ap (λ (h : Header). h.terms) (header-same (header_in form a) (header_in form b) fits_a fits_b fields)
  where
    tail-same : (x y : List ℕ) → 1 ∷ x ≡ 1 ∷ y → x ≡ y
    tail-same x y is = cc is

pub terms-same : (a b : Terms) (records others : List Record) (heads : List ℕ) → Begins (heads_text (header_for a) records) heads → Begins (heads_text (header_for b) others) heads → a ≡ b
terms-same a b records others heads p q = terms-same_in present a b records others heads (is_header a) (is_header b) p q
