-- The objects of a move that makes a commit: their shape, and that they and the record tell the move.
use Rattle.std.proofs.Common.{◌≡◌, ◌⊎◌, inl, inr, ℕ, ◌+◌, ◌<◌, ◌≤◌, ◌^◌, Option, Some, None, map, List, [], ◌∷◌, ◌++◌, length, refl, sym, ◌∙◌, ap, subst, arith, append-nil, length-append, ⊎_elim}
use Rattle.mrdt_model.specs.Laws.{KeepsLaws, Lawful}
use Rattle.branch_disk.specs.Disk.{Files}
use Rattle.branch_names.specs.declared.layout.Layout.{Layout}
use Rattle.branch_names.specs.declared.layout.Layout.TheVariants.{Whole, Changes}
use Rattle.branch_names.specs.Heads.{head_of}
use Rattle.branch_wire.specs.Fields.{number, short_number, field, counted}
use Rattle.branch_wire.specs.Reading.{HasLength, HasLength64}
use Rattle.branch_wire.specs.Objects.{CommitFields, action_field, value_field, commit_kind, commit_body, commit_object, value_object}
use Rattle.branch_wire.specs.declared.action.Action.{Action}
use Rattle.branch_wire.specs.declared.action.Action.TheVariants as wire
use Rattle.branch_wire.proofs.Numbers.{same_parts, length-number, length-field}
use Rattle.branch_wire.proofs.OneWay.{fields}
use Rattle.branch_history.specs.declared.moves.Move.{Move}
use Rattle.branch_history.specs.declared.moves.Move.TheVariants as move
use Rattle.branch_history.specs.Commits.{Commit, visible, clock_of, origin_of}
use Rattle.branch_history.specs.History.{Store, after_move, received_commit}
use Rattle.branch_history.proofs.Valid.{store_of-more, IsReceived}
use Rattle.branch_history.proofs.Grown.{clock_of-new, origin_of-new}
use Rattle.branch_history.proofs.Histories.{visible-lawful, received-stand}
use Rattle.branch_machine.specs.Fixed.{Form, FixedIn}
use Rattle.branch_machine.specs.Machine.{pair_next}
use Rattle.branch_machine.specs.Objects.{Pair, both, kept_value, kept_address, store_after, address_at, silent_action, action_of, fields_of, pairs_of, new_objects, region}
use Rattle.branch_machine.specs.Laws.{HasSize}
use Rattle.branch_machine.proofs.Distinct.{IsOwn, IsForeign, MakesOne, operation-makes, merge-makes, join-makes, made-objects, received-foreign, received-nine, all-sized, few-sized, addresses-same, valid-sound}
use Rattle.branch_machine.proofs.Valid.{valid-first}
use Rattle.branch_machine.proofs.Regions.{made, region-one}
use Rattle.heads_journal.specs.declared.record.Record.{Record}
use Rattle.branch_objects_codec.specs.Grammar.{IsCommit, IsValueAddress}
use Rattle.branch_wire.specs.Objects.{HasParents}
use Rattle.branch_objects_codec.proofs.Body.{same_commit}
use Rattle.branch_objects_codec.proofs.OneWay.{not_value}
use Rattle.branch_files.specs.Records.{record_of, last_in}
use Rattle.branch_files.specs.Stands.{Spans}
use Rattle.branch_files.specs.Next.{MakesCommit, Does, AreFewIn, IsLaidOut, IsValuePart, HasShape, bytes_behind}
use Rattle.branch_files.proofs.Longer.{known-last}
use Rattle.branch_files.proofs.Next.{accepted, unseen, kept, next, end-more, end-there, bytes-are}

module _ {S O R Q A : Type 0} {form : Form} (fixed : FixedIn form S O R Q A) (old new other : Store O R) (e : other ≡ new) where
  carried-kind : (c : Commit O R) → IsOwn fixed old new c ⊎ IsForeign fixed old new c → IsOwn fixed old other c ⊎ IsForeign fixed old other c
  carried-kind c (inl own) = inl (record {
    branch = own.branch;
    others = own.others;
    there = own.there;
    origin = own.origin;
    parents = own.parents;
    head = ap (λ s. head_of s.branches own.branch) e ∙ own.head;
  })
  carried-kind c (inr foreign) = inr (record { origin = foreign.origin; unseen = foreign.unseen })

  abbrev carried : MakesOne fixed old new → MakesOne fixed old other
  carried one = record {
    made = one.made;
    commits = ap (λ s. s.commits) e ∙ one.commits;
    branches = ap (λ s. length s.branches) e ∙ one.branches;
    few = one.few;
    within = one.within;
    kind = carried-kind one.made one.kind;
  }

-- equal objects of commits are of equal fields
same-object : (c d : CommitFields) → IsCommit c → IsCommit d → commit_object c ≡ commit_object d → c ≡ d
same-object c d p q is =
    let inner : field (commit_body c) ≡ field (commit_body d) = cc is in
    let bodies = (same_parts (number (length (commit_body c))) (commit_body c) (number (length (commit_body d))) (commit_body d) (length-number (length (commit_body c)) ∙ sym (length-number (length (commit_body d)))) inner).1 in
    let kinds : commit_kind c.value ≡ commit_kind d.value = cc is in
    (same_commit c d [] [] p q kinds (append-nil (commit_body c) ∙ bodies ∙ sym (append-nil (commit_body d)))).0

laid-out : (layout : Layout) (a : List ℕ) → IsLaidOut layout (kept_address layout a)
laid-out Whole a = refl
laid-out Changes a = refl

kept-sized : (layout : Layout) (a : List ℕ) → HasLength 32 a → IsValueAddress (kept_address layout a)
kept-sized Whole a size = size
kept-sized Changes a size = tt

module _ {S O R Q A : Type 0} {form : Form} (fixed : FixedIn form S O R Q A) (laws : KeepsLaws fixed.meaning) (size : HasSize fixed.address) (files : Files) (short : HasLength64 files.objects) (moves : List (Move O R)) where
  abbrev s : Store O R
  s = store_after fixed moves

  module _ (m : Move O R) (spans : Spans fixed (moves ++ m ∷ []) files) (one : MakesOne fixed (store_after fixed moves) (store_after fixed (moves ++ m ∷ []))) where
    abbrev pair : Pair
    pair = made fixed laws size moves m spans.valid one

    abbrev c : CommitFields
    c = fields_of fixed (pairs_of fixed s.commits) pair.value one.made

    abbrev spelling : List ℕ
    spelling = fixed.meaning.spelling_of (visible (s.commits ++ one.made ∷ []) (length s.commits))

    region-short : length (region fixed moves m) < 2 ^ 64
    region-short = let more = end-more fixed laws size files short moves m spans in let there = end-there fixed laws size files short moves m spans in omega (arith, short)

    body-short : HasLength64 (commit_body c)
    body-short =
        ⊎_elim
        (λ is. omega (arith, region-short, ap length is, length-field (commit_body c)))
        (λ is. omega (arith, region-short, ap length is, length-append pair.value pair.commit, length-field (commit_body c)))
        (region-one fixed laws size moves m spans.valid one)

    lawful : Lawful fixed.meaning (visible (s.commits ++ one.made ∷ []) (length s.commits))
    lawful =
        subst (λ (cs : List (Commit O R)). Lawful fixed.meaning (visible cs (length s.commits))) one.commits
        (visible-lawful fixed.meaning fixed.terms (store_after fixed (moves ++ m ∷ [])) (next fixed laws size files short moves m spans) (length s.commits))

    kept-part : (layout : Layout) → fixed.terms.layout ≡ layout → region fixed moves m ≡ kept_value layout spelling ++ pair.commit → IsValuePart fixed (kept_value layout spelling)
    kept-part Whole of is =
        let few : HasLength64 spelling = omega (arith, region-short, ap length is, length-append (value_object spelling) pair.commit, length-field spelling) in
        inr (of, spelling, few, laws.spelling_inside (visible (s.commits ++ one.made ∷ []) (length s.commits)) lawful few, refl)
    kept-part Changes of is = inl refl

    -- what stands before the commit's object
    value-part : (first : List ℕ) × IsValuePart fixed first × (region fixed moves m ≡ first ++ pair.commit)
    value-part = ⊎_elim (λ is. ([], inl refl, is)) (λ is. (pair.value, kept-part fixed.terms.layout refl is, is)) (region-one fixed laws size moves m spans.valid one)

    clock-low : one.made.clock ≤ fixed.terms.limits.clock
    clock-low =
        let low = (next fixed laws size files short moves m spans).low (length s.commits) in
        let is : clock_of (store_after fixed (moves ++ m ∷ [])).commits (length s.commits) ≡ one.made.clock = ap (λ (cs : List (Commit O R)). clock_of cs (length s.commits)) one.commits ∙ clock_of-new s.commits one.made in
        omega (arith, is)

    origin-small : one.made.origin < 2 ^ 32
    origin-small =
        let there : length s.commits < length (store_after fixed (moves ++ m ∷ [])).commits = omega (arith, ap length one.commits, length-append s.commits (one.made ∷ [])) in
        let small = (next fixed laws size files short moves m spans).ordered.small (length s.commits) there in
        let is : origin_of (store_after fixed (moves ++ m ∷ [])).commits (length s.commits) ≡ one.made.origin = ap (λ (cs : List (Commit O R)). origin_of cs (length s.commits)) one.commits ∙ origin_of-new s.commits one.made in
        omega (arith, is, small)

    is-commit : HasParents c.action (length one.made.parents) → IsCommit c
    is-commit count = record {
      count = subst (HasParents c.action) (sym (few-sized fixed.address size (pairs_of fixed s.commits) one.made.parents)) count;
      addresses = all-sized fixed.address size (pairs_of fixed s.commits) one.made.parents;
      branch = origin-small;
      clock = let low = clock-low in let most = fixed.terms.limits.in_range.clock_high in omega arith;
      value = kept-sized fixed.terms.layout (fixed.address pair.value) (size pair.value);
      short = body-short;
    }

    -- the spellings of an operation and its reply are not too long
    spelled-short : (o a : List ℕ) → c.action ≡ wire.Operation o a → HasLength64 o × HasLength64 a
    spelled-short o a is =
        let front : List ℕ = counted (λ address. address) c.parents ++ short_number c.branch ++ number c.clock ++ value_field c.value in
        let parts : commit_body c ≡ front ++ 1 ∷ (field o ++ field a) = ap (λ (x : Action). front ++ action_field x) is in
        let whole : length (commit_body c) ≡ length front + (1 + ((8 + length o) + (8 + length a))) =
        omega (arith, ap length parts, length-append front (1 ∷ (field o ++ field a)), length-append (field o) (field a), length-field o, length-field a) in
        let body = body-short in
        (omega (arith, whole, body), omega (arith, whole, body))

    has-shape : (r : Record) → HasParents c.action (length one.made.parents) → Does fixed r c.action → AreFewIn form.version c.parents → HasShape fixed r (region fixed moves m)
    has-shape r count does fewer =
        let first = value-part in
        (first.0, pair.commit, first.1, (c, is-commit count, does, fewer, laid-out fixed.terms.layout (fixed.address pair.value), refl), first.2)

  abbrev operation-one : (r : ℕ) (op : O) (reply : R) → Spans fixed (moves ++ move.Operation r op reply ∷ []) files → MakesOne fixed (store_after fixed moves) (store_after fixed (moves ++ move.Operation r op reply ∷ []))
  operation-one r op reply spans =
      let m : Move O R = move.Operation r op reply in
      carried fixed s (after_move fixed.terms.origin s m) (store_after fixed (moves ++ m ∷ [])) (store_of-more fixed.terms.origin moves m) (operation-makes fixed moves r op reply (kept fixed laws size files short moves m spans) (accepted fixed laws size files short moves m spans).there)

  abbrev merge-one : (r k : ℕ) → Spans fixed (moves ++ move.Merge r k ∷ []) files → MakesOne fixed (store_after fixed moves) (store_after fixed (moves ++ move.Merge r k ∷ []))
  merge-one r k spans =
      let m : Move O R = move.Merge r k in
      let is = accepted fixed laws size files short moves m spans in
      carried fixed s (after_move fixed.terms.origin s m) (store_after fixed (moves ++ m ∷ [])) (store_of-more fixed.terms.origin moves m) (merge-makes fixed moves r k (kept fixed laws size files short moves m spans) is.there is.stands)

  abbrev join-one : (r : ℕ) (ks : List ℕ) → Spans fixed (moves ++ move.Join r ks ∷ []) files → MakesOne fixed (store_after fixed moves) (store_after fixed (moves ++ move.Join r ks ∷ []))
  join-one r ks spans =
      let m : Move O R = move.Join r ks in
      let is = accepted fixed laws size files short moves m spans in
      carried fixed s (after_move fixed.terms.origin s m) (store_after fixed (moves ++ m ∷ [])) (store_of-more fixed.terms.origin moves m) (join-makes fixed moves r ks (kept fixed laws size files short moves m spans) is.there is.stands is.few)

  -- what was received
  module _ (parents : List ℕ) (origin clock : ℕ) (act : Option (O × R)) (spans : Spans fixed (moves ++ move.Received parents origin clock act ∷ []) files) where
    abbrev received : Move O R
    received = move.Received parents origin clock act

    received-is : IsReceived fixed.meaning fixed.terms moves parents origin clock act
    received-is = accepted fixed laws size files short moves received spans

    foreign : IsForeign fixed s (after_move fixed.terms.origin s received) (received_commit s.commits parents origin clock act)
    foreign = received-foreign fixed moves parents origin clock act received-is (unseen fixed laws size files short moves received spans)

    abbrev received-one : MakesOne fixed (store_after fixed moves) (store_after fixed (moves ++ received ∷ []))
    received-one =
        record {
          made = received_commit s.commits parents origin clock act;
          commits = ap (λ (t : Store O R). t.commits) (store_of-more fixed.terms.origin moves received);
          branches = ap (λ (t : Store O R). length t.branches) (store_of-more fixed.terms.origin moves received);
          few = received-nine fixed moves parents origin clock act received-is;
          within = received-stand fixed.meaning fixed.terms moves parents origin clock act received-is;
          kind = carried-kind fixed s (after_move fixed.terms.origin s received) (store_after fixed (moves ++ received ∷ [])) (store_of-more fixed.terms.origin moves received) (received_commit s.commits parents origin clock act) (inr foreign);
        }

  operation-short : (r : ℕ) (op : O) (reply : R) → Spans fixed (moves ++ move.Operation r op reply ∷ []) files → HasLength64 (fixed.meaning.op_spelling op) × HasLength64 (fixed.meaning.reply_spelling reply)
  operation-short r op reply spans =
      spelled-short (move.Operation r op reply) spans (operation-one r op reply spans) (fixed.meaning.op_spelling op) (fixed.meaning.reply_spelling reply) refl

  -- the spellings of an operation and of the reply that what it has seen determines are of the type
  spelled-does : (h : ℕ) (op : O) (reply : R) (m : Move O R) → Spans fixed (moves ++ m ∷ []) files → fixed.meaning.is_op op → reply ≡ fixed.meaning.reply_of (visible s.commits h) op → HasLength64 (fixed.meaning.op_spelling op) × HasLength64 (fixed.meaning.reply_spelling reply)
      → fixed.meaning.is_op_spelling (fixed.meaning.op_spelling op) × fixed.meaning.is_reply_spelling (fixed.meaning.reply_spelling reply)
  spelled-does h op reply m spans known replies few =
      let seen = visible s.commits h in
      let in_range = subst fixed.meaning.is_reply (sym replies) (laws.replies_in_range seen op (visible-lawful fixed.meaning fixed.terms s (kept fixed laws size files short moves m spans) h) known) in
      (laws.op_inside op known few.0, laws.reply_inside reply in_range few.1)

  operation-does : (r : ℕ) (op : O) (reply : R) (spans : Spans fixed (moves ++ move.Operation r op reply ∷ []) files) → fixed.meaning.is_op_spelling (fixed.meaning.op_spelling op) × fixed.meaning.is_reply_spelling (fixed.meaning.reply_spelling reply)
  operation-does r op reply spans =
      let m : Move O R = move.Operation r op reply in
      let is = accepted fixed laws size files short moves m spans in
      spelled-does (head_of s.branches r) op reply m spans is.known is.replies (operation-short r op reply spans)

  received-short : (parents : List ℕ) (origin clock : ℕ) (d : O × R) → Spans fixed (moves ++ move.Received parents origin clock (Some d) ∷ []) files → HasLength64 (fixed.meaning.op_spelling d.0) × HasLength64 (fixed.meaning.reply_spelling d.1)
  received-short parents origin clock d spans =
      spelled-short (move.Received parents origin clock (Some d)) spans (received-one parents origin clock (Some d) spans) (fixed.meaning.op_spelling d.0) (fixed.meaning.reply_spelling d.1) refl

  silent-merges : (parents : List ℕ) (p : ℕ) (ps : List ℕ) → parents ≡ p ∷ ps → silent_action parents ≡ wire.Merge
  silent-merges parents p ps is = ap silent_action is

  -- how many parents the commit has that was received
  received-count : (parents : List ℕ) (origin clock : ℕ) (act : Option (O × R)) (spans : Spans fixed (moves ++ move.Received parents origin clock act ∷ []) files) → HasParents (c (move.Received parents origin clock act) spans (received-one parents origin clock act spans)).action (length parents)
  received-count parents origin clock None spans =
      let is = accepted fixed laws size files short moves (move.Received parents origin clock None) spans in
      let some = is.few.some in
      let many = is.few.few in
      subst (λ (x : Action). HasParents x (length parents)) (sym (silent-merges parents is.parent is.others is.parents_are)) (omega (arith, ap length is.parents_are), omega (arith, ap length is.parents_are))
  received-count parents origin clock (Some d) spans =
      let is = accepted fixed laws size files short moves (move.Received parents origin clock (Some d)) spans in
      ap length is.parents_are

  received-does : (parents : List ℕ) (origin clock : ℕ) (act : Option (O × R)) (spans : Spans fixed (moves ++ move.Received parents origin clock act ∷ []) files) → Does fixed (record_of fixed moves (move.Received parents origin clock act)) (c (move.Received parents origin clock act) spans (received-one parents origin clock act spans)).action
  received-does parents origin clock None spans =
      let m : Move O R = move.Received parents origin clock None in
      let is = accepted fixed laws size files short moves m spans in
      subst (Does fixed (record_of fixed moves m)) (sym (silent-merges parents is.parent is.others is.parents_are)) tt
  received-does parents origin clock (Some d) spans =
      let m : Move O R = move.Received parents origin clock (Some d) in
      let is = accepted fixed laws size files short moves m spans in
      spelled-does is.parent d.0 d.1 m spans is.known is.replies (received-short parents origin clock d spans)

  join-count : (r : ℕ) (ks : List ℕ) (spans : Spans fixed (moves ++ move.Join r ks ∷ []) files) → HasParents wire.Merge (length (head_of s.branches r ∷ ks))
  join-count r ks spans =
      let is = accepted fixed laws size files short moves (move.Join r ks) spans in
      let some = is.several in
      let many = is.few in
      (omega arith, omega arith)

  -- files of version 1 have no record of a join
  join-later : (r : ℕ) (ks : List ℕ) (spans : Spans fixed (moves ++ move.Join r ks ∷ []) files) → form.version ≡ 1 → ⊥
  join-later r ks spans is =
      let within = (known-last fixed moves (move.Join r ks) spans.known).within in
      let known : 5 ≤ last_in 1 = subst (λ (version : ℕ). 5 ≤ last_in version) is within in
      omega (arith, known)

  -- nor one of a commit that was received
  received-later : (parents : List ℕ) (origin clock : ℕ) (act : Option (O × R)) (spans : Spans fixed (moves ++ move.Received parents origin clock act ∷ []) files) → form.version ≡ 1 → ⊥
  received-later parents origin clock act spans is =
      let within = (known-last fixed moves (move.Received parents origin clock act) spans.known).within in
      let known : 6 ≤ last_in 1 = subst (λ (version : ℕ). 6 ≤ last_in version) is within in
      omega (arith, known)

  -- the region of a move that makes a commit has the shape that its record asks for
  shape-region : (m : Move O R) → Spans fixed (moves ++ m ∷ []) files → MakesCommit (record_of fixed moves m) → HasShape fixed (record_of fixed moves m) (region fixed moves m)
  shape-region (move.Fork name count from) spans makes = absurd makes
  shape-region (move.Operation r op reply) spans makes =
      let m : Move O R = move.Operation r op reply in
      has-shape m spans (operation-one r op reply spans) (record_of fixed moves m) refl (operation-does r op reply spans) (λ is. omega arith)
  shape-region (move.Merge r k) spans makes =
      let m : Move O R = move.Merge r k in
      has-shape m spans (merge-one r k spans) (record_of fixed moves m) (omega arith, omega arith) tt (λ is. omega arith)
  shape-region (move.Join r ks) spans makes =
      let m : Move O R = move.Join r ks in
      has-shape m spans (join-one r ks spans) (record_of fixed moves m) (join-count r ks spans) tt (λ is. absurd (join-later r ks spans is))
  shape-region (move.Forward r k) spans makes = absurd makes
  shape-region (move.Received parents origin clock act) spans makes =
      let m : Move O R = move.Received parents origin clock act in
      has-shape m spans (received-one parents origin clock act spans) (record_of fixed moves m) (received-count parents origin clock act spans) (received-does parents origin clock act spans)
      (λ is. absurd (received-later parents origin clock act spans is))
  shape-region (move.Place name count k) spans makes = absurd makes
  shape-region (move.Drop r) spans makes = absurd makes

  pub shape-behind : (m : Move O R) → Spans fixed (moves ++ m ∷ []) files → MakesCommit (record_of fixed moves m) → HasShape fixed (record_of fixed moves m) (bytes_behind fixed moves files.objects (record_of fixed moves m))
  shape-behind m spans makes = subst (HasShape fixed (record_of fixed moves m)) (sym (bytes-are fixed laws size files short moves m spans)) (shape-region m spans makes)

  -- the commits of equal texts
  same-commits : (first second p q : List ℕ) (k l : ℕ) → IsValuePart fixed first → IsValuePart fixed second → (1 ≡ k → ⊥) → (1 ≡ l → ⊥) → first ++ k ∷ p ≡ second ++ l ∷ q → k ∷ p ≡ l ∷ q
  same-commits first second p q k l (inl x) (inl y) f g is = ap (λ (t : List ℕ). t ++ k ∷ p) (sym x) ∙ is ∙ ap (λ (t : List ℕ). t ++ l ∷ q) y
  same-commits first second p q k l (inl x) (inr (whole, w, short, inside, y)) f g is =
      let e : k ∷ p ≡ 1 ∷ (field w ++ l ∷ q) = ap (λ (t : List ℕ). t ++ k ∷ p) (sym x) ∙ is ∙ ap (λ (t : List ℕ). t ++ l ∷ q) y in
      let clash : k ≡ 1 = cc e in
      absurd (f (sym clash))
  same-commits first second p q k l (inr (whole, v, short, inside, x)) (inl y) f g is =
      let e : 1 ∷ (field v ++ k ∷ p) ≡ l ∷ q = ap (λ (t : List ℕ). t ++ k ∷ p) (sym x) ∙ is ∙ ap (λ (t : List ℕ). t ++ l ∷ q) y in
      let clash : 1 ≡ l = cc e in
      absurd (g clash)
  same-commits first second p q k l (inr (whole, v, short, inside, x)) (inr (also, w, small, within, y)) f g is =
      let e : 1 ∷ (field v ++ k ∷ p) ≡ 1 ∷ (field w ++ l ∷ q) = ap (λ (t : List ℕ). t ++ k ∷ p) (sym x) ∙ is ∙ ap (λ (t : List ℕ). t ++ l ∷ q) y in
      let inner : field v ++ k ∷ p ≡ field w ++ l ∷ q = cc e in
      (fields.one v w (k ∷ p) (l ∷ q) short small inner).1

  -- of two moves that make commits, and whose regions are equal, and of a move and a text
  same-made : (m : Move O R) (spans : Spans fixed (moves ++ m ∷ []) files) (one : MakesOne fixed (store_after fixed moves) (store_after fixed (moves ++ m ∷ []))) (first : List ℕ) (d : CommitFields) → IsValuePart fixed first → region fixed moves m ≡ first ++ commit_object d → commit_object (c m spans one) ≡ commit_object d
  same-made m spans one first d part is =
      let own = value-part m spans one in
      same-commits own.0 first (field (commit_body (c m spans one))) (field (commit_body d)) (commit_kind (c m spans one).value) (commit_kind d.value) own.1 part (not_value (c m spans one).value) (not_value d.value) (sym own.2 ∙ is)

  -- the commit's object behind a history, whatever stands before it
  pub operation-tells : (r : ℕ) (op : O) (reply : R) → Spans fixed (moves ++ move.Operation r op reply ∷ []) files → (first : List ℕ) (d : CommitFields) → IsValuePart fixed first → IsCommit d
      → bytes_behind fixed moves files.objects (record_of fixed moves (move.Operation r op reply)) ≡ first ++ commit_object d → d.action ≡ wire.Operation (fixed.meaning.op_spelling op) (fixed.meaning.reply_spelling reply)
  operation-tells r op reply spans first d part commit is =
      let m : Move O R = move.Operation r op reply in
      let one = operation-one r op reply spans in
      let objects = same-made m spans one first d part (sym (bytes-are fixed laws size files short moves m spans) ∙ is) in
      sym (ap (λ (f : CommitFields). f.action) (same-object (c m spans one) d (is-commit m spans one refl) commit objects))

  -- and of what was received
  received-object : (parents : List ℕ) (origin clock : ℕ) (act : Option (O × R)) (spans : Spans fixed (moves ++ move.Received parents origin clock act ∷ []) files) → (first : List ℕ) (d : CommitFields) → IsValuePart fixed first → IsCommit d
      → bytes_behind fixed moves files.objects (record_of fixed moves (move.Received parents origin clock act)) ≡ first ++ commit_object d → c (move.Received parents origin clock act) spans (received-one parents origin clock act spans) ≡ d
  received-object parents origin clock act spans first d part commit is =
      let m : Move O R = move.Received parents origin clock act in
      let one = received-one parents origin clock act spans in
      let objects = same-made m spans one first d part (sym (bytes-are fixed laws size files short moves m spans) ∙ is) in
      same-object (c m spans one) d (is-commit m spans one (received-count parents origin clock act spans)) commit objects

  pub received-tells : (parents : List ℕ) (origin clock : ℕ) (act : Option (O × R)) → Spans fixed (moves ++ move.Received parents origin clock act ∷ []) files → (first : List ℕ) (d : CommitFields) → IsValuePart fixed first → IsCommit d
      → bytes_behind fixed moves files.objects (record_of fixed moves (move.Received parents origin clock act)) ≡ first ++ commit_object d
      → (d.parents ≡ map (address_at fixed.address (pairs_of fixed s.commits)) parents) × (d.branch ≡ origin) × (d.clock ≡ clock) × (d.action ≡ action_of fixed parents (received_commit s.commits parents origin clock act).event)
  received-tells parents origin clock act spans first d part commit is =
      let same = sym (received-object parents origin clock act spans first d part commit is) in
      (ap (λ (f : CommitFields). f.parents) same, ap (λ (f : CommitFields). f.branch) same, ap (λ (f : CommitFields). f.clock) same, ap (λ (f : CommitFields). f.action) same)

  -- its two objects: the address of its value's, its own, what both add to those of the history, and the region
  pub received-objects : (parents : List ℕ) (origin clock : ℕ) (act : Option (O × R)) → Spans fixed (moves ++ move.Received parents origin clock act ∷ []) files → (first : List ℕ) (d : CommitFields) → IsValuePart fixed first → IsCommit d
      → bytes_behind fixed moves files.objects (record_of fixed moves (move.Received parents origin clock act)) ≡ first ++ commit_object d
      → let m : Move O R = move.Received parents origin clock act in
      let p = pair_next fixed moves (received_commit s.commits parents origin clock act) in
      (d.value ≡ kept_address fixed.terms.layout (fixed.address p.value)) × (commit_object d ≡ p.commit) × (new_objects fixed moves m ≡ both p)
      × ((region fixed moves m ≡ p.commit) ⊎ (region fixed moves m ≡ p.value ++ p.commit))
  received-objects parents origin clock act spans first d part commit is =
      let m : Move O R = move.Received parents origin clock act in
      let one = received-one parents origin clock act spans in
      let same = sym (received-object parents origin clock act spans first d part commit is) in
      (ap (λ (f : CommitFields). f.value) same, ap commit_object same, made-objects fixed moves m one, region-one fixed laws size moves m spans.valid one)

  region-same : (m n : Move O R) → Spans fixed (moves ++ m ∷ []) files → Spans fixed (moves ++ n ∷ []) files → record_of fixed moves m ≡ record_of fixed moves n → region fixed moves m ≡ region fixed moves n
  region-same m n p q same = sym (bytes-are fixed laws size files short moves m p) ∙ ap (bytes_behind fixed moves files.objects) same ∙ bytes-are fixed laws size files short moves n q

  operation-same : (r : ℕ) (op other : O) (reply more : R) → Spans fixed (moves ++ move.Operation r op reply ∷ []) files → Spans fixed (moves ++ move.Operation r other more ∷ []) files → record_of fixed moves (move.Operation r op reply) ≡ record_of fixed moves (move.Operation r other more) → move.Operation r op reply ≡ move.Operation r other more
  operation-same r op other reply more p q same =
      let m : Move O R = move.Operation r op reply in
      let n : Move O R = move.Operation r other more in
      let a = accepted fixed laws size files short moves m p in
      let b = accepted fixed laws size files short moves n q in
      let first = operation-one r op reply p in
      let second = operation-one r other more q in
      let its = value-part n q second in
      let objects = same-made m p first its.0 (c n q second) its.1 (region-same m n p q same ∙ its.2) in
      let fields_same = same-object (c m p first) (c n q second) (is-commit m p first refl) (is-commit n q second refl) objects in
      let actions : wire.Operation (fixed.meaning.op_spelling op) (fixed.meaning.reply_spelling reply) ≡ wire.Operation (fixed.meaning.op_spelling other) (fixed.meaning.reply_spelling more) = ap (λ (f : CommitFields). f.action) fields_same in
      let texts : fixed.meaning.op_spelling op ≡ fixed.meaning.op_spelling other = cc actions in
      let operations : op ≡ other = laws.one_op op other a.known b.known (operation-short r op reply p).0 texts in
      let replies : reply ≡ more = a.replies ∙ ap (λ o. fixed.meaning.reply_of (visible s.commits (head_of s.branches r)) o) operations ∙ sym b.replies in
      ap (λ o. move.Operation r o reply) operations ∙ ap (λ x. move.Operation r other x) replies

  -- what was received is told by its objects
  received-fields : (parents parents' : List ℕ) (origin origin' clock clock' : ℕ) (act act' : Option (O × R)) (p : Spans fixed (moves ++ move.Received parents origin clock act ∷ []) files) (q : Spans fixed (moves ++ move.Received parents' origin' clock' act' ∷ []) files)
      → record_of fixed moves (move.Received parents origin clock act) ≡ record_of fixed moves (move.Received parents' origin' clock' act')
      → c (move.Received parents origin clock act) p (received-one parents origin clock act p) ≡ c (move.Received parents' origin' clock' act') q (received-one parents' origin' clock' act' q)
  received-fields parents parents' origin origin' clock clock' act act' p q same =
      let m : Move O R = move.Received parents origin clock act in
      let n : Move O R = move.Received parents' origin' clock' act' in
      let first = received-one parents origin clock act p in
      let second = received-one parents' origin' clock' act' q in
      let its = value-part n q second in
      let objects = same-made m p first its.0 (c n q second) its.1 (region-same m n p q same ∙ its.2) in
      same-object (c m p first) (c n q second) (is-commit m p first (received-count parents origin clock act p)) (is-commit n q second (received-count parents' origin' clock' act' q)) objects

  acts-same : (parents parents' : List ℕ) (origin origin' clock clock' : ℕ) (act act' : Option (O × R)) (p : Spans fixed (moves ++ move.Received parents origin clock act ∷ []) files) (q : Spans fixed (moves ++ move.Received parents' origin' clock' act' ∷ []) files) → parents ≡ parents'
      → (c (move.Received parents origin clock act) p (received-one parents origin clock act p)).action ≡ (c (move.Received parents' origin' clock' act') q (received-one parents' origin' clock' act' q)).action → act ≡ act'
  acts-same parents parents' origin origin' clock clock' None None p q alike is = refl
  acts-same parents parents' origin origin' clock clock' None (Some d) p q alike is =
      let one = accepted fixed laws size files short moves (move.Received parents origin clock None) p in
      let clash : wire.Merge ≡ wire.Operation (fixed.meaning.op_spelling d.0) (fixed.meaning.reply_spelling d.1) = sym (silent-merges parents one.parent one.others one.parents_are) ∙ is in
      absurd (cc clash)
  acts-same parents parents' origin origin' clock clock' (Some d) None p q alike is =
      let one = accepted fixed laws size files short moves (move.Received parents' origin' clock' None) q in
      let clash : wire.Operation (fixed.meaning.op_spelling d.0) (fixed.meaning.reply_spelling d.1) ≡ wire.Merge = is ∙ silent-merges parents' one.parent one.others one.parents_are in
      absurd (cc clash)
  acts-same parents parents' origin origin' clock clock' (Some d) (Some d') p q alike is =
      let one = accepted fixed laws size files short moves (move.Received parents origin clock (Some d)) p in
      let two = accepted fixed laws size files short moves (move.Received parents' origin' clock' (Some d')) q in
      let actions : wire.Operation (fixed.meaning.op_spelling d.0) (fixed.meaning.reply_spelling d.1) ≡ wire.Operation (fixed.meaning.op_spelling d'.0) (fixed.meaning.reply_spelling d'.1) = is in
      let texts : fixed.meaning.op_spelling d.0 ≡ fixed.meaning.op_spelling d'.0 = cc actions in
      let operations : d.0 ≡ d'.0 = laws.one_op d.0 d'.0 one.known two.known (received-short parents origin clock d p).0 texts in
      let lists : one.parent ∷ [] ≡ two.parent ∷ [] = sym one.parents_are ∙ alike ∙ two.parents_are in
      let heads : one.parent ≡ two.parent = cc lists in
      let replies : d.1 ≡ d'.1 =
      one.replies ∙ ap (λ o. fixed.meaning.reply_of (visible s.commits one.parent) o) operations ∙ ap (λ k. fixed.meaning.reply_of (visible s.commits k) d'.0) heads ∙ sym two.replies in
      ap (λ (o : O). Some (o, d.1)) operations ∙ ap (λ (r : R). Some (d'.0, r)) replies

  received-same : (parents parents' : List ℕ) (origin origin' clock clock' : ℕ) (act act' : Option (O × R)) → Spans fixed (moves ++ move.Received parents origin clock act ∷ []) files → Spans fixed (moves ++ move.Received parents' origin' clock' act' ∷ []) files
      → record_of fixed moves (move.Received parents origin clock act) ≡ record_of fixed moves (move.Received parents' origin' clock' act') → move.Received parents origin clock act ≡ move.Received parents' origin' clock' act'
  received-same parents parents' origin origin' clock clock' act act' p q same =
      let fields = received-fields parents parents' origin origin' clock clock' act act' p q same in
      let one = accepted fixed laws size files short moves (move.Received parents origin clock act) p in
      let two = accepted fixed laws size files short moves (move.Received parents' origin' clock' act') q in
      let sound = valid-sound fixed laws size moves (valid-first fixed moves (move.Received parents origin clock act ∷ []) p.valid) in
      let a : parents ≡ parents' =
      addresses-same fixed.address (pairs_of fixed s.commits) (length s.commits) (λ j k in_j in_k is. sound.distinct j k in_j in_k (sound.one j k in_j in_k is)) parents parents'
      (received-stand fixed.meaning fixed.terms moves parents origin clock act one) (received-stand fixed.meaning fixed.terms moves parents' origin' clock' act' two) (ap (λ (f : CommitFields). f.parents) fields) in
      let b : origin ≡ origin' = ap (λ (f : CommitFields). f.branch) fields in
      let d : clock ≡ clock' = ap (λ (f : CommitFields). f.clock) fields in
      let e : act ≡ act' = acts-same parents parents' origin origin' clock clock' act act' p q a (ap (λ (f : CommitFields). f.action) fields) in
      ap (λ (x : List ℕ). move.Received x origin clock act) a ∙ ap (λ (x : ℕ). move.Received parents' x clock act) b ∙ ap (λ (x : ℕ). move.Received parents' origin' x act) d ∙ ap (λ (x : Option (O × R)). move.Received parents' origin' clock' x) e

  -- files have one next move at most
  pub one-move : (m n : Move O R) → Spans fixed (moves ++ m ∷ []) files → Spans fixed (moves ++ n ∷ []) files → record_of fixed moves m ≡ record_of fixed moves n → m ≡ n
  one-move (move.Fork name count from) (move.Fork name' count' from') p q same =
      let a : name ≡ name' = cc same in
      let b : count ≡ count' = cc same in
      let d : from ≡ from' = cc same in
      ap (λ x. move.Fork x count from) a ∙ ap (λ x. move.Fork name' x from) b ∙ ap (λ x. move.Fork name' count' x) d
  one-move (move.Operation r op reply) (move.Operation r' other more) p q same =
      let a : r ≡ r' = cc same in
      carry r r' a p q same
    where
      carry : (r r' : ℕ) → r ≡ r' → Spans fixed (moves ++ move.Operation r op reply ∷ []) files → Spans fixed (moves ++ move.Operation r' other more ∷ []) files → record_of fixed moves (move.Operation r op reply) ≡ record_of fixed moves (move.Operation r' other more) → move.Operation r op reply ≡ move.Operation r' other more
      carry r r' a p q same =
          subst (λ (k : ℕ). Spans fixed (moves ++ move.Operation k other more ∷ []) files → record_of fixed moves (move.Operation r op reply) ≡ record_of fixed moves (move.Operation k other more) → move.Operation r op reply ≡ move.Operation k other more) a
          (λ q1 same1. operation-same r op other reply more p q1 same1) q same
  one-move (move.Merge r k) (move.Merge r' k') p q same =
      let a : r ≡ r' = cc same in
      let b : k ≡ k' = cc same in
      ap (λ x. move.Merge x k) a ∙ ap (λ x. move.Merge r' x) b
  one-move (move.Forward r k) (move.Forward r' k') p q same =
      let a : r ≡ r' = cc same in
      let b : k ≡ k' = cc same in
      ap (λ x. move.Forward x k) a ∙ ap (λ x. move.Forward r' x) b
  one-move (move.Join r ks) (move.Join r' ks') p q same =
      let a : r ≡ r' = cc same in
      let b : ks ≡ ks' = cc same in
      ap (λ x. move.Join x ks) a ∙ ap (λ (x : List ℕ). move.Join r' x) b
  one-move (move.Received parents origin clock act) (move.Received parents' origin' clock' act') p q same = received-same parents parents' origin origin' clock clock' act act' p q same
  one-move (move.Place name count k) (move.Place name' count' k') p q same =
      let a : name ≡ name' = cc same in
      let b : count ≡ count' = cc same in
      let d : k ≡ k' = cc same in
      ap (λ x. move.Place x count k) a ∙ ap (λ x. move.Place name' x k) b ∙ ap (λ x. move.Place name' count' x) d
  one-move (move.Drop r) (move.Drop r') p q same =
      let a : r ≡ r' = cc same in
      ap (λ x. move.Drop x) a
  one-move m n p q same = absurd (cc same)
