-- How files read for one that asks for a kind of values.
use Rattle.std.proofs.Common.{◌≡◌, ◌≢◌, inl, inr, ℕ, List, [], refl, sym, ◌∙◌, ap}
use Rattle.mrdt_model.specs.Laws.{Meaning, KeepsLaws}
use Rattle.branch_disk.specs.Disk.{Files}
use Rattle.branch_names.specs.declared.terms.Terms.{Terms}
use Rattle.branch_wire.specs.Reading.{HasLength64}
use Rattle.branch_history.specs.declared.moves.Move.{Move}
use Rattle.heads_journal.specs.Format.{IsHeader}
use Rattle.branch_machine.specs.Fixed.{Form, fix_in}
use Rattle.branch_machine.specs.Laws.{HasSize}
use Rattle.branch_files.specs.Records.{header_in, records_of}
use Rattle.branch_files.specs.Stands.{Spans}
use Rattle.branch_files.specs.Reading.{Answer, Opens, NotAStore, EndsSomewhereIn, ReadsIn, IsNoStoreInOf, EndsSomewhereInOf, ReadsInOf}
use Rattle.branch_files.proofs.Limited.{terms-same_in}
use Rattle.branch_files.proofs.Longer.{spans-first}
use Rattle.branch_files.proofs.OneWay.{one-reading_in}
use Rattle.branch_files.proofs.All.{some-reading_in}

module _ {S O R Q A : Type 0} (form : Form) (kind : ℕ) (m : Meaning S O R Q A) (address : List ℕ → List ℕ) (files : Files) where
  -- what is read for a kind is read
  kept : (a : Answer O R) → EndsSomewhereInOf form kind m address files a → EndsSomewhereIn form m address files a
  kept a (terms, moves, is, fits, spans, ends) = (terms, moves, fits, spans, ends)

  no-store-of : (a : Answer O R) → IsNoStoreInOf form kind m address files → EndsSomewhereInOf form kind m address files a → ⊥
  no-store-of a none (terms, moves, is, fits, spans, ends) = none terms is fits (spans-first (fix_in form m terms address) files [] moves spans)

  pub one-reading_of : KeepsLaws m → HasSize address → HasLength64 files.objects → (a b : Answer O R) → ReadsInOf form kind m address files a → ReadsInOf form kind m address files b → a ≡ b
  one-reading_of laws size short a b (inl (is, none)) (inl (is', none')) = is ∙ sym is'
  one-reading_of laws size short a b (inl (is, none)) (inr ends) = absurd (no-store-of b none ends)
  one-reading_of laws size short a b (inr ends) (inl (is, none)) = absurd (no-store-of a none ends)
  one-reading_of laws size short a b (inr ends) (inr ends') = one-reading_in m laws address size files short form a b (inr (kept a ends)) (inr (kept b ends'))

  -- no files are without an answer
  pub some-reading_of : KeepsLaws m → ((a : Answer O R) → ReadsInOf form kind m address files a → ⊥) → ⊥
  some-reading_of laws none =
      none NotAStore
      (inl (refl, λ terms is fits spans. some-reading_in form m laws address files (λ a reads. at terms is fits spans a reads)))
    where
      at : (terms : Terms) → terms.kind ≡ kind → IsHeader (header_in form terms) → Spans (fix_in form m terms address) [] files → (a : Answer O R) → ReadsIn form m address files a → ⊥
      at terms is fits spans a (inl (same, empty)) = empty terms fits spans
      at terms is fits spans a (inr (l, moves, fits_l, p, ends)) =
          let same : l ≡ terms = terms-same_in form l terms (records_of (fix_in form m l address) moves) (records_of (fix_in form m terms address) []) files.heads fits_l fits p.heads spans.heads in
          none a (inr (l, moves, ap (λ (t : Terms). t.kind) same ∙ is, fits_l, p, ends))

  -- a history is read for its kind
  pub own-kind : (terms : Terms) (moves : List (Move O R)) → terms.kind ≡ kind → ReadsIn form m address files (Opens terms moves) → ReadsInOf form kind m address files (Opens terms moves)
  own-kind terms moves is (inl (is_none, none)) = absurd (let e : Opens terms moves ≡ NotAStore = is_none in cc e)
  own-kind terms moves is (inr (l, all, fits, spans, ends)) = inr (l, all, ap (λ (t : Terms). t.kind) (sym ends.0) ∙ is, fits, spans, ends)

  -- and for no other
  pub is-own : (terms : Terms) (moves : List (Move O R)) → ReadsInOf form kind m address files (Opens terms moves) → (terms.kind ≡ kind) × ReadsIn form m address files (Opens terms moves)
  is-own terms moves (inl (is_none, none)) = absurd (let e : Opens terms moves ≡ NotAStore = is_none in cc e)
  is-own terms moves (inr (l, all, is, fits, spans, ends)) = (ap (λ (t : Terms). t.kind) ends.0 ∙ is, inr (l, all, fits, spans, ends))

  -- with all that the files read as
  pub all-own : (terms : Terms) (moves : List (Move O R)) → ReadsInOf form kind m address files (Opens terms moves) → (a : Answer O R) → ReadsIn form m address files a → ReadsInOf form kind m address files a
  all-own terms moves (inl (is_none, none)) a reads = absurd (let e : Opens terms moves ≡ NotAStore = is_none in cc e)
  all-own terms moves (inr (l, all, is, fits, spans, ends)) a (inl (is_none, none)) = absurd (none l fits (spans-first (fix_in form m l address) files [] all spans))
  all-own terms moves (inr (l, all, is, fits, spans, ends)) a (inr (k, more, fits_k, spans_k, ends_k)) =
      let same : k ≡ l = terms-same_in form k l (records_of (fix_in form m k address) more) (records_of (fix_in form m l address) all) files.heads fits_k fits spans_k.heads spans.heads in
      inr (k, more, ap (λ (t : Terms). t.kind) same ∙ is, fits_k, spans_k, ends_k)

  pub other-kind : (terms : Terms) (moves : List (Move O R)) → ReadsIn form m address files (Opens terms moves) → terms.kind ≢ kind → ReadsInOf form kind m address files NotAStore
  other-kind terms moves (inl (is_none, none)) other = absurd (let e : Opens terms moves ≡ NotAStore = is_none in cc e)
  other-kind terms moves (inr (l, all, fits, spans, ends)) other =
      inl (
        refl,
        λ t is fits_t empty.
            let same : t ≡ l = terms-same_in form t l (records_of (fix_in form m t address) []) (records_of (fix_in form m l address) all) files.heads fits_t fits empty.heads spans.heads in
            other (ap (λ (x : Terms). x.kind) (ends.0 ∙ sym same) ∙ is),
      )

  pub no-kind : ReadsIn form m address files NotAStore → ReadsInOf form kind m address files NotAStore
  no-kind (inl (same, none)) = inl (same, λ terms is. none terms)
  no-kind (inr (l, all, fits, spans, ends)) = absurd ends

module _ {S O R Q A : Type 0} (form : Form) (old : form.version ≡ 1) (m : Meaning S O R Q A) (address : List ℕ → List ℕ) (files : Files) (a : Answer O R) where
  pub old-of : ReadsIn form m address files a → ReadsInOf form 0 m address files a
  old-of (inl (is, none)) = inl (is, λ terms first. none terms)
  old-of (inr (terms, moves, fits, spans, ends)) = inr (terms, moves, (fits.old old).0, fits, spans, ends)

  pub of-old : ReadsInOf form 0 m address files a → ReadsIn form m address files a
  of-old (inl (is, none)) = inl (is, λ terms fits. none terms (fits.old old).0 fits)
  of-old (inr (terms, moves, is, fits, spans, ends)) = inr (terms, moves, fits, spans, ends)
