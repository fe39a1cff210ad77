-- The record of a move, from where the newest commit stands behind it.
use Rattle.std.proofs.Common.{◌≡◌, ℕ, ◌+◌, ◌-◌, ◌<◌, ◌≤◌, List, [], ◌∷◌, ◌++◌, length, take, drop, suc, get_or, refl, sym, ◌∙◌, ap, arith, append_assoc, length-append}
use Rattle.std.proofs.Math.Seq.{take-append_seam}
use Rattle.std.proofs.lemmas.List.{take_more, drop_more, take-append-drop}
use Rattle.mrdt_model.specs.Laws.{Meaning}
use Rattle.branch_names.specs.declared.terms.Terms.{Terms}
use Rattle.branch_history.specs.declared.moves.Move.{Move}
use Rattle.branch_history.specs.declared.moves.Move.TheVariants as move
use Rattle.branch_history.specs.Commits.{Commit}
use Rattle.branch_history.proofs.Later.{IsLonger, commits-longer}
use Rattle.branch_history.proofs.Valid.{IsAccepted}
use Rattle.branch_machine.specs.Fixed.{Fixed}
use Rattle.branch_machine.specs.Objects.{Pair, commit_text, pairs_of, objects_of, end_of, store_after}
use Rattle.branch_machine.proofs.Pairs.{commit_text-old, length-pairs_of, pairs_of-longer}
use Rattle.branch_wire.specs.StoredObjects.{file_of}
use Rattle.branch_files.specs.Records.{header_for, new_address, record_of, record_with, records_of, history_text}
use Rattle.heads_journal.specs.Heads.{heads_text}
use Rattle.branch_files.proofs.Longer.{history-more}
use Rattle.heads_journal.specs.Format.{record_fields}
use Rattle.heads_journal.specs.declared.record.Record.{Record}
use Rattle.branch_compact.specs.Compact.{commits_made}
use Rattle.branch_compact.specs.Marks.{all_made}
use Rattle.branch_compact.proofs.Moves.{length-commits}
use Rattle.store_compact.specs.declared.copying.Placed.{Placed}
use Rattle.store_compact.specs.Copied.{objects_in, placed_of}
use Rattle.store_compact.specs.Spelled.{IsJoined}
use Rattle.store_compact.proofs.Copies.{placed-at, length-placed}

-- a move of the machine can be spelled
pub joined-of : {S O R Q A : Type 0} (meaning : Meaning S O R Q A) (terms : Terms) (moves : List (Move O R)) (m : Move O R) → IsAccepted meaning terms moves m → IsJoined m
joined-of meaning terms moves (move.Fork name number from) is = tt
joined-of meaning terms moves (move.Operation r op reply) is = tt
joined-of meaning terms moves (move.Merge r k) is = tt
joined-of meaning terms moves (move.Join r ks) is = (is.several, is.few)
joined-of meaning terms moves (move.Forward r k) is = tt
joined-of meaning terms moves (move.Received parents origin clock act) is = tt
joined-of meaning terms moves (move.Place name number n) is = tt
joined-of meaning terms moves (move.Drop r) is = tt

-- of a move without a commit no address matters
same-record : {O R : Type 0} (a b : List ℕ) (e : ℕ) (m : Move O R) → (commits_made m ≡ 1 → a ≡ b) → record_with a e m ≡ record_with b e m
same-record a b e (move.Fork name number from) same = refl
same-record a b e (move.Operation r op reply) same = ap (λ (l : List ℕ). record_with l e (move.Operation r op reply)) (same refl)
same-record {O} {R} a b e (move.Merge r k) same = let made : Move O R = move.Merge r k in ap (λ (l : List ℕ). record_with l e made) (same refl)
same-record {O} {R} a b e (move.Join r ks) same = let made : Move O R = move.Join r ks in ap (λ (l : List ℕ). record_with l e made) (same refl)
same-record a b e (move.Forward r k) same = refl
same-record a b e (move.Received parents origin clock act) same = ap (λ (l : List ℕ). record_with l e (move.Received parents origin clock act)) (same refl)
same-record a b e (move.Place name number n) same = refl
same-record a b e (move.Drop r) same = refl

all_made-more : {O R : Type 0} (ms : List (Move O R)) (m : Move O R) → all_made (ms ++ m ∷ []) ≡ all_made ms + commits_made m
all_made-more [] m = omega arith
all_made-more (x ∷ ms) m = omega (arith, all_made-more ms m)

module _ {S O R Q A : Type 0} (fixed : Fixed S O R Q A) (before : List (Move O R)) (m : Move O R) where
  abbrev behind : List (Commit O R)
  behind = (store_after fixed (before ++ m ∷ [])).commits

  -- one more move makes its commits
  pub count-more : length behind ≡ length (store_after fixed before).commits + commits_made m
  count-more = omega (arith, length-commits fixed.terms.origin (before ++ m ∷ []), length-commits fixed.terms.origin before, all_made-more before m)

  module _ (moves rest : List (Move O R)) (whole : (before ++ m ∷ []) ++ rest ≡ moves) where
    abbrev all : List (Commit O R)
    all = (store_after fixed moves).commits

    grown : IsLonger (pairs_of fixed behind) (pairs_of fixed all)
    grown =
        let longer = commits-longer fixed.terms.origin (before ++ m ∷ []) rest in
        let pairs = pairs_of-longer fixed behind longer.more in
        record { more = pairs.more; is = ap (λ (ms : List (Move O R)). pairs_of fixed (store_after fixed ms).commits) (sym whole) ∙ ap (pairs_of fixed) longer.is ∙ pairs.is }

    pub count-within : length behind ≤ length (pairs_of fixed all)
    count-within = omega (arith, ap length grown.is, length-append (pairs_of fixed behind) grown.more, length-pairs_of fixed behind)

    module _ (k : ℕ) (last : suc k ≡ length behind) where
      taken : take (suc k) (pairs_of fixed all) ≡ pairs_of fixed behind
      taken =
          ap (λ (n : ℕ). take n (pairs_of fixed all)) (last ∙ sym (length-pairs_of fixed behind))
          ∙ ap (take (length (pairs_of fixed behind))) grown.is ∙ take-append_seam (pairs_of fixed behind) grown.more

      text-same : commit_text (pairs_of fixed all) k ≡ commit_text (pairs_of fixed behind) k
      text-same = ap (λ (ps : List Pair). commit_text ps k) grown.is ∙ commit_text-old (pairs_of fixed behind) grown.more k (omega (arith, last, length-pairs_of fixed behind))

      end-is : length (file_of (objects_in (take (suc k) (pairs_of fixed all)))) ≡ end_of fixed (before ++ m ∷ [])
      unfolding objects_of
      end-is = ap (λ (ps : List Pair). length (file_of (objects_in ps))) taken

      address-is : commits_made m ≡ 1 → fixed.address (commit_text (pairs_of fixed all) k) ≡ new_address fixed before m
      unfolding new_address
      address-is one =
          let at : k ≡ length (store_after fixed before).commits = omega (arith, last, count-more, one) in
          ap fixed.address text-same ∙ ap (λ (n : ℕ). fixed.address (commit_text (pairs_of fixed behind) n)) at

      -- its record
      pub spelled : (placed : List Placed) (d : Placed) → placed ≡ placed_of fixed.address (pairs_of fixed all)
          → record_with (get_or placed k d).address (get_or placed k d).end m ≡ record_of fixed before m
      spelled placed d are =
          let within : k < length (pairs_of fixed all) = omega (arith, last, count-within) in
          let at = ap (λ (l : List Placed). get_or l k d) are ∙ placed-at fixed.address (pairs_of fixed all) k d within in
          ap (λ (p : Placed). record_with p.address p.end m) at
          ∙ ap (λ (e : ℕ). record_with (fixed.address (commit_text (pairs_of fixed all) k)) e m) end-is
          ∙ same-record (fixed.address (commit_text (pairs_of fixed all) k)) (new_address fixed before m) (end_of fixed (before ++ m ∷ [])) m address-is

      -- the text with it
      pub text-more : (placed : List Placed) (d : Placed) → placed ≡ placed_of fixed.address (pairs_of fixed all) → (old new : List ℕ) → old ≡ history_text fixed before
          → new ≡ old ++ 1 ∷ record_fields (record_with (get_or placed k d).address (get_or placed k d).end m) → new ≡ history_text fixed (before ++ m ∷ [])
      text-more placed d are old new was is =
          is ∙ ap (λ (l : List ℕ). l ++ 1 ∷ record_fields (record_with (get_or placed k d).address (get_or placed k d).end m)) was
          ∙ ap (λ (r : Record). history_text fixed before ++ 1 ∷ record_fields r) (spelled placed d are) ∙ sym (history-more fixed before m)

-- no records
pub history-none : {S O R Q A : Type 0} (fixed : Fixed S O R Q A) → history_text fixed [] ≡ heads_text (header_for fixed.terms) []
unfolding records_of
history-none fixed = refl

-- the next move of a history
module _ {S O R Q A : Type 0} (fixed : Fixed S O R Q A) (moves : List (Move O R)) (i : ℕ) (m : Move O R) (lt : i < length moves) (at : m ≡ get_or moves i m)
    (commits made : ℕ) (commits_are : commits ≡ length (store_after fixed (take i moves)).commits) (made_is : made ≡ commits_made m) where
  taken-next : take (i + 1) moves ≡ take i moves ++ m ∷ []
  taken-next = take_more moves i m lt ∙ ap (λ k. take i moves ++ k ∷ []) (sym at)

  split : (take i moves ++ m ∷ []) ++ drop (i + 1) moves ≡ moves
  split =
      append_assoc (take i moves) (m ∷ []) (drop (i + 1) moves) ∙ ap (λ k. take i moves ++ k ∷ drop (i + 1) moves) at
      ∙ ap (λ l. take i moves ++ l) (sym (drop_more moves i m lt)) ∙ take-append-drop i moves

  pub some-before : 1 ≤ commits
  some-before = omega (arith, commits_are, length-commits fixed.terms.origin (take i moves))

  counted : commits + made ≡ length (store_after fixed (take i moves ++ m ∷ [])).commits
  counted = omega (arith, commits_are, made_is, count-more fixed (take i moves) m)

  pub next-count : commits + made ≡ length (store_after fixed (take (i + 1) moves)).commits
  next-count = counted ∙ ap (λ (ms : List (Move O R)). length (store_after fixed ms).commits) (sym taken-next)

  module _ (placed : List Placed) (are : placed ≡ placed_of fixed.address (pairs_of fixed (store_after fixed moves).commits)) where
    pub made-within : commits + made ≤ length placed
    made-within =
        let fit = count-within fixed (take i moves) m moves (drop (i + 1) moves) split in
        omega (arith, counted, fit, ap length are, length-placed fixed.address [] (pairs_of fixed (store_after fixed moves).commits))

    pub next-text : (d : Placed) (old new : List ℕ) → old ≡ history_text fixed (take i moves)
        → new ≡ old ++ 1 ∷ record_fields (record_with (get_or placed (commits + made - 1) d).address (get_or placed (commits + made - 1) d).end m)
        → new ≡ history_text fixed (take (i + 1) moves)
    next-text d old new was is =
        let last : suc (commits + made - 1) ≡ length (store_after fixed (take i moves ++ m ∷ [])).commits = omega (arith, counted, some-before) in
        text-more fixed (take i moves) m moves (drop (i + 1) moves) split (commits + made - 1) last placed d are old new was is
        ∙ ap (history_text fixed) (sym taken-next)

-- as many are placed as there are commits
pub few-placed : {S O R Q A : Type 0} (fixed : Fixed S O R Q A) (moves : List (Move O R)) (placed : List Placed) → placed ≡ placed_of fixed.address (pairs_of fixed (store_after fixed moves).commits)
    → length placed ≡ length (store_after fixed moves).commits
few-placed fixed moves placed are =
    ap length are ∙ length-placed fixed.address [] (pairs_of fixed (store_after fixed moves).commits) ∙ length-pairs_of fixed (store_after fixed moves).commits
