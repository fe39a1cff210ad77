-- Files read in one way.
use Rattle.std.proofs.Common.{◌≡◌, inl, inr, ℕ, List, [], ◌∷◌, ◌++◌, refl, sym, ◌∙◌, ap, subst, arith, append_assoc}
use Rattle.mrdt_model.specs.Laws.{Meaning, KeepsLaws}
use Rattle.branch_disk.specs.Disk.{Files}
use Rattle.branch_disk.specs.declared.part.Part.TheVariants.{Objects, Heads}
use Rattle.branch_names.specs.declared.terms.Terms.{Terms}
use Rattle.branch_wire.specs.Reading.{HasLength64}
use Rattle.branch_history.specs.declared.moves.Move.{Move}
use Rattle.branch_machine.specs.Fixed.{Form, FixedIn, present, fix_in}
use Rattle.branch_machine.specs.Laws.{HasSize}
use Rattle.heads_journal.specs.declared.record.Record.{Record}
use Rattle.branch_files.specs.Records.{records_of, record_of, gate_of}
use Rattle.branch_files.specs.Stands.{Spans}
use Rattle.branch_files.specs.Next.{end_at, MakesCommit, HasShape, IsMade, bytes_behind}
use Rattle.branch_files.specs.Reading.{Answer, Opens, NotAStore, BadRecord, BadObject, BadCommit, Truncated, EndsWith, IsNoStoreIn, EndsSomewhereIn, ReadsIn, ReadsAs}
use Rattle.branch_files.proofs.Longer.{spans-first}
use Rattle.branch_files.proofs.Next.{full, end-is, end-there, bytes-are, is-next, next-same}
use Rattle.branch_files.proofs.Places.{shut-open, one-end}
use Rattle.branch_files.proofs.Shapes.{shape-behind, one-move}
use Rattle.branch_files.proofs.Limited.{terms-same_in}
use Rattle.branch_files.proofs.Today.{today-reads}

-- two lists: equal, or one begins with the other and has more
pub data Compared {X : Type 0} (xs ys : List X) : Type 0 where
  Equal : xs ≡ ys → Compared xs ys
  Shorter : (x : X) (rest : List X) → ys ≡ xs ++ x ∷ rest → Compared xs ys
  Longer : (x : X) (rest : List X) → xs ≡ ys ++ x ∷ rest → Compared xs ys

compared-more : {X : Type 0} (x y : X) (xs ys : List X) → x ≡ y → Compared xs ys → Compared (x ∷ xs) (y ∷ ys)
compared-more x y xs ys is (Equal e) = Equal (ap (λ z. z ∷ xs) is ∙ ap (λ l. y ∷ l) e)
compared-more x y xs ys is (Shorter z rest e) = Shorter z rest (ap (λ l. y ∷ l) e ∙ ap (λ w. w ∷ (xs ++ z ∷ rest)) (sym is))
compared-more x y xs ys is (Longer z rest e) = Longer z rest (ap (λ l. x ∷ l) e ∙ ap (λ w. w ∷ (ys ++ z ∷ rest)) is)

module _ {S O R Q A : Type 0} {form : Form} (fixed : FixedIn form S O R Q A) (laws : KeepsLaws fixed.meaning) (size : HasSize fixed.address) (files : Files) (short : HasLength64 files.objects) where
  -- where the files have one more move, reading does not end before it
  goes-on : (moves : List (Move O R)) (m : Move O R) → Spans fixed (moves ++ m ∷ []) files → (a : Answer O R) → EndsWith fixed moves files a → ⊥
  goes-on moves m spans (Opens l h) (_, _, shut) = shut-open (gate_of fixed moves) files.heads shut (is-next fixed laws size files short moves m spans).there.gate
  goes-on moves m spans NotAStore p = p
  goes-on moves m spans (Truncated Heads place) (_, _, less) = let long = (is-next fixed laws size files short moves m spans).there.long in omega (arith, less)
  goes-on moves m spans (BadRecord n) (_, _, none) = none (record_of fixed moves m) (is-next fixed laws size files short moves m spans)
  goes-on moves m spans (Truncated Objects place) (_, (r, next, less)) =
      let same : r ≡ record_of fixed moves m = next-same fixed moves files.heads r (record_of fixed moves m) next (is-next fixed laws size files short moves m spans) in
      let is = end-is fixed laws size files short moves m spans in
      let there = end-there fixed laws size files short moves m spans in
      omega (arith, less, ap end_at same, is, there)
  goes-on moves m spans (BadObject place) (_, (r, stored, makes, none)) =
      let q : Record = record_of fixed moves m in
      let same : r ≡ q = next-same fixed moves files.heads r q stored.next (is-next fixed laws size files short moves m spans) in
      none (subst (λ (x : Record). HasShape fixed x (bytes_behind fixed moves files.objects x)) (sym same) (shape-behind fixed laws size files short moves m spans (subst MakesCommit same makes)))
  goes-on moves m spans (BadCommit n) (_, (r, shaped, none)) =
      let q : Record = record_of fixed moves m in
      let same : r ≡ q = next-same fixed moves files.heads r q shaped.stored.next (is-next fixed laws size files short moves m spans) in
      none (subst (λ (x : Record). IsMade fixed moves x (bytes_behind fixed moves files.objects x)) (sym same)
      (m, full fixed laws size files short moves m spans, refl, sym (bytes-are fixed laws size files short moves m spans)))

  more-on : (moves : List (Move O R)) (m : Move O R) (rest : List (Move O R)) → Spans fixed (moves ++ m ∷ rest) files → Spans fixed (moves ++ m ∷ []) files
  more-on moves m rest spans = spans-first fixed files (moves ++ m ∷ []) rest (subst (λ (l : List (Move O R)). Spans fixed l files) (sym (append_assoc moves (m ∷ []) rest)) spans)

  -- of two histories that the files have one begins with the other
  compare : (before first second : List (Move O R)) → Spans fixed (before ++ first) files → Spans fixed (before ++ second) files → Compared first second
  compare before [] [] p q = Equal refl
  compare before [] (n ∷ ns) p q = Shorter n ns refl
  compare before (m ∷ ms) [] p q = Longer m ms refl
  compare before (m ∷ ms) (n ∷ ns) p q =
      let one = more-on before m ms p in
      let other = more-on before n ns q in
      let records = next-same fixed before files.heads (record_of fixed before m) (record_of fixed before n) (is-next fixed laws size files short before m one) (is-next fixed laws size files short before n other) in
      let same : m ≡ n = one-move fixed laws size files short before m n one other records in
      let grown : Spans fixed ((before ++ m ∷ []) ++ ms) files = subst (λ (l : List (Move O R)). Spans fixed l files) (sym (append_assoc before (m ∷ []) ms)) p in
      let other_grown : Spans fixed ((before ++ m ∷ []) ++ ns) files =
      subst (λ (l : List (Move O R)). Spans fixed l files) (sym (append_assoc before (m ∷ []) ns)) (subst (λ (x : Move O R). Spans fixed (before ++ x ∷ ns) files) (sym same) q) in
      compared-more m n ms ns same (compare (before ++ m ∷ []) ms ns grown other_grown)

  -- with one limits
  one-answer : (first second : List (Move O R)) (a b : Answer O R) → Spans fixed first files → EndsWith fixed first files a → Spans fixed second files → EndsWith fixed second files b → a ≡ b
  one-answer first second a b p e q f = at (compare [] first second p q)
    where
      at : Compared first second → a ≡ b
      at (Equal same) = one-end fixed first files a b e (subst (λ (l : List (Move O R)). EndsWith fixed l files b) (sym same) f)
      at (Shorter m rest same) = absurd (goes-on first m (more-on first m rest (subst (λ (l : List (Move O R)). Spans fixed l files) same q)) a e)
      at (Longer m rest same) = absurd (goes-on second m (more-on second m rest (subst (λ (l : List (Move O R)). Spans fixed l files) same p)) b f)

module _ {S O R Q A : Type 0} (m : Meaning S O R Q A) (laws : KeepsLaws m) (address : List ℕ → List ℕ) (size : HasSize address) (files : Files) (short : HasLength64 files.objects) where
  module _ (form : Form) where
    somewhere-one : (a b : Answer O R) → EndsSomewhereIn form m address files a → EndsSomewhereIn form m address files b → a ≡ b
    somewhere-one a b (l, h, fits_l, p, e) (k, g, fits_k, q, f) =
        let same : k ≡ l = terms-same_in form k l (records_of (fix_in form m k address) g) (records_of (fix_in form m l address) h) files.heads fits_k fits_l q.heads p.heads in
        at k same q f
      where
        at : (k : Terms) → k ≡ l → Spans (fix_in form m k address) g files → EndsWith (fix_in form m k address) g files b → a ≡ b
        at k same q f =
            one-answer (fix_in form m l address) laws size files short h g a b p e
            (subst (λ (x : Terms). Spans (fix_in form m x address) g files) same q) (subst (λ (x : Terms). EndsWith (fix_in form m x address) g files b) same f)

    store-somewhere : (a : Answer O R) → IsNoStoreIn form m address files → EndsSomewhereIn form m address files a → ⊥
    store-somewhere a none (l, h, fits, p, e) = none l fits (spans-first (fix_in form m l address) files [] h p)

    pub one-reading_in : (a b : Answer O R) → ReadsIn form m address files a → ReadsIn form m address files b → a ≡ b
    one-reading_in a b (inl (is, none)) (inl (is', none')) = is ∙ sym is'
    one-reading_in a b (inl (is, none)) (inr ends) = absurd (store-somewhere b none ends)
    one-reading_in a b (inr ends) (inl (is, none)) = absurd (store-somewhere a none ends)
    one-reading_in a b (inr ends) (inr ends') = somewhere-one a b ends ends'

  pub one-reading : (a b : Answer O R) → ReadsAs m address files a → ReadsAs m address files b → a ≡ b
  one-reading a b p q = one-reading_in present a b (today-reads m address files a p) (today-reads m address files b q)
