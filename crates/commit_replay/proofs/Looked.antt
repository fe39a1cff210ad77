-- What looks and preparations tell of the machine's turns.
use Rattle.std.proofs.Common.{◌≡◌, ◌↔◌, ℕ, ◌<◌, ◌≤◌, Bool, false, IsTrue, List, [], ◌∷◌, ◌++◌, length, get_or, subst, refl, sym, ◌∙◌, ap, append-nil, Option, Some, None}
use Rattle.std.specs.Prelude.{slice_get}
use Rattle.std.specs.Option.{option_map, option_map_or}
use Rattle.std.proofs.lemmas.Option.{slice_get-get_or}
use Rattle.mrdt_model.specs.Laws.{Meaning, KeepsLaws}
use Rattle.branch_names.specs.declared.terms.Terms.{Terms}
use Rattle.branch_names.specs.Heads.{head_of, branch_named}
use Rattle.branch_names.specs.declared.branch.Branch.{Branch}
use Rattle.branch_history.specs.declared.moves.Move.{Move}
use Rattle.branch_history.specs.History.{Store, store_of}
use Rattle.branch_history.specs.Machine.{turn, answers}
use Rattle.branch_history.specs.Steps.{Look, Land, Merge, Refusal, Outcome, Sees, Refused, UnknownBranch}
use Rattle.branch_history.proofs.Histories.{valid-kept}
use Rattle.branch_machine.specs.Fixed.{Fixed, fix}
use Rattle.branch_machine.specs.Machine.{full_turn}
use Rattle.store_seen.specs.Turns.{Refuses, FromOn}
use Rattle.store_seen.specs.Pairs.{MergesAs}
use Rattle.store_seen.specs.Groups.{MergesAllAs}
use Rattle.store_seen.specs.Views.{SeenView, PairView, GroupView}
use Rattle.commit_replay.proofs.Steps.{full-answers}
use Rattle.branch_machine.specs.Validity.{IsFullyValid}
use Rattle.branch_machine.proofs.Valid.{valid-before}
use Rattle.heads_journal.specs.declared.record.Record.{Record}
use Rattle.branch_wire.specs.Fields.{version}
use Rattle.heads_journal.specs.Format.{fields_of}
use Rattle.branch_files.specs.Records.{IsKnown, last_in}
use Rattle.branch_files.specs.Next.{Suits}
use Rattle.commit_replay.specs.Follows.{MayCome}
use Rattle.branch_history.proofs.Turns.{look-unknown, look-sees}

module _ {S O R Q A : Type 0} (meaning : Meaning S O R Q A) (terms : Terms) (moves : List (Move O R)) (name : List ℕ) where
  abbrev s : Store O R
  s = store_of terms.origin moves

  seen-at : (b h : ℕ) (o : Option ℕ) → branch_named s.branches name ≡ o → turn meaning terms moves (Look name) ≡ answers (Sees b h) → (branch_named s.branches name ≡ Some b) × (h ≡ head_of s.branches b)
  seen-at b h None is turned =
      absurd (let e : ◌≡◌ {A = Outcome A R} (Refused (UnknownBranch name)) (Sees b h) = ap (λ t. t.outcome) (sym (look-unknown meaning terms moves name is) ∙ turned) in cc e)
  seen-at b h (Some r) is turned =
      let e : ◌≡◌ {A = Outcome A R} (Sees r (head_of s.branches r)) (Sees b h) = ap (λ t. t.outcome) (sym (look-sees meaning terms moves name r is) ∙ turned) in
      let branch : r ≡ b = cc e in
      let head : head_of s.branches r ≡ h = cc e in
      (is ∙ ap (λ (k : ℕ). Some k) branch, sym head ∙ ap (head_of s.branches) branch)

  -- the branch that a look sees has the name
  pub look-seen : (b h : ℕ) → turn meaning terms moves (Look name) ≡ answers (Sees b h) → (branch_named s.branches name ≡ Some b) × (h ≡ head_of s.branches b)
  look-seen b h turned = seen-at b h (branch_named s.branches name) refl turned

  unseen-at : (named : List ℕ) (o : Option ℕ) → branch_named s.branches name ≡ o → turn meaning terms moves (Look name) ≡ answers (Refused (UnknownBranch named)) → branch_named s.branches name ≡ None
  unseen-at named None is turned = is
  unseen-at named (Some r) is turned =
      absurd (let e : ◌≡◌ {A = Outcome A R} (Sees r (head_of s.branches r)) (Refused (UnknownBranch named)) = ap (λ t. t.outcome) (sym (look-sees meaning terms moves name r is) ∙ turned) in cc e)

  -- where no branch is seen, none has the name
  pub look-unseen : (named : List ℕ) → turn meaning terms moves (Look name) ≡ answers (Refused (UnknownBranch named)) → branch_named s.branches name ≡ None
  look-unseen named turned = unseen-at named (branch_named s.branches name) refl turned

-- a history without a pending move is what is written of it
pub settled-moves : {X : Type 0} (written pending : List X) → pending ≡ [] → written ++ pending ≡ written
settled-moves written pending none = ap (λ l. written ++ l) none ∙ append-nil written

abbrev named_head : Branch → List ℕ × ℕ
named_head b = (b.name, b.head)

-- a branch that is there is found
pub missing : (branches : List Branch) (n : ℕ) (o : Option (List ℕ × ℕ)) → n < length branches → o ≡ option_map (λ b. (b.name, b.head)) (slice_get branches n) → o ≡ None → ⊥
missing branches n o lt is none =
    let b : Branch = get_or branches n (record { name = []; head = 0; dropped = false }) in
    let e : Some (named_head b) ≡ None = ap (option_map named_head) (sym (slice_get-get_or branches n (record { name = []; head = 0; dropped = false }) lt)) ∙ sym is ∙ none in
    cc e

pub head-found : (branches : List Branch) (n : ℕ) (found : List ℕ × ℕ) → Some found ≡ option_map (λ b. (b.name, b.head)) (slice_get branches n) → found.1 ≡ head_of branches n
head-found branches n found is = at (slice_get branches n) refl is
  where
    at : (o : Option Branch) → slice_get branches n ≡ o → Some found ≡ option_map named_head o → found.1 ≡ head_of branches n
    at None at_n e = absurd (cc e)
    at (Some b) at_n e =
        let same : found ≡ named_head b = cc e in
        ap (λ (p : List ℕ × ℕ). p.1) same ∙ ap (λ (o : Option Branch). option_map_or (λ b. b.head) o 0) (sym at_n)

-- the head of a branch is a commit
pub head-there : {S O R Q A : Type 0} (fixed : Fixed S O R Q A) → KeepsLaws fixed.meaning → (moves : List (Move O R)) → IsFullyValid fixed moves → (r : ℕ) → r < length (store_of fixed.terms.origin moves).branches → head_of (store_of fixed.terms.origin moves).branches r < length (store_of fixed.terms.origin moves).commits
head-there fixed laws moves valid r lt = (valid-kept fixed.meaning fixed.terms laws moves (valid-before fixed moves valid)).ordered.heads r lt

-- a record may come where there is room, if it suits
pub may-by : {S O R Q A : Type 0} (fixed : Fixed S O R Q A) (moves : List (Move O R)) (r q : Record) (may : Bool) → q ≡ r → length moves < fixed.terms.limits.moves → IsKnown r → IsTrue may ↔ Suits fixed moves r → IsTrue may ↔ MayCome fixed moves q
may-by fixed moves r q may is room known suits =
    subst (λ (x : Record). IsTrue may ↔ MayCome fixed moves x) (sym is) ((λ t. record { room = room; known = known; suits = suits.0 t }), λ m. suits.1 m.suits)

-- the kinds that are read
le-last : {n : ℕ} → n ≤ 8 → n ≤ last_in version
le-last le = le

pub known-by : (r : Record) → (fields_of r).kind ≤ 8 → IsKnown r
known-by r le = record { within = le-last le }

-- a record of an unknown kind may not
pub may-not : {S O R Q A : Type 0} (fixed : Fixed S O R Q A) (moves : List (Move O R)) (r q : Record) → q ≡ r → (IsKnown r → ⊥) → IsTrue false ↔ MayCome fixed moves q
may-not fixed moves r q is unknown = ((λ t. absurd (cc t)), λ m. absurd (unknown (subst IsKnown is m.known)))

-- a look by its parts
pub seen-same : {X : Type 0} (seen : SeenView X) (history : List X) (terms : Terms) (branch head : ℕ) → seen.history ≡ history → seen.terms ≡ terms → seen.branch ≡ branch → seen.head ≡ head → seen ≡ record { history = history; terms = terms; branch = branch; head = head }
seen-same {X} seen history terms branch head h l b k =
    ap (λ (x : List X). record { history = x; terms = seen.terms; branch = seen.branch; head = seen.head }) h
    ∙ ap (λ (x : Terms). record { history = history; terms = x; branch = seen.branch; head = seen.head }) l
    ∙ ap (λ (x : ℕ). record { history = history; terms = terms; branch = x; head = seen.head }) b
    ∙ ap (λ (x : ℕ). record { history = history; terms = terms; branch = branch; head = x }) k

-- a look at the branch that has the name
pub looks-at : {S O R Q A : Type 0} (meaning : Meaning S O R Q A) (terms : Terms) (moves : List (Move O R)) (name : List ℕ) (branch : ℕ) (seen : SeenView (Move O R)) → branch_named (store_of terms.origin moves).branches name ≡ Some branch → seen.history ≡ moves → seen.terms ≡ terms → turn meaning terms moves (Look name) ≡ answers (Sees seen.branch seen.head)
    → seen ≡ record { history = moves; terms = terms; branch = branch; head = head_of (store_of terms.origin moves).branches branch }
looks-at meaning terms moves name branch seen named history limited sees =
    let found = look-seen meaning terms moves name seen.branch seen.head sees in
    let e : Some seen.branch ≡ Some branch = sym found.0 ∙ named in
    let same : seen.branch ≡ branch = cc e in
    seen-same seen moves terms branch (head_of (store_of terms.origin moves).branches branch) history limited same (found.1 ∙ ap (head_of (store_of terms.origin moves).branches) same)

module _ {S O R Q A : Type 0} (meaning : Meaning S O R Q A) (address : List ℕ → List ℕ) (terms : Terms) (moves : List (Move O R)) (branch head : ℕ) where
  -- an operation that is not prepared is not made
  pub unprepared : (seen : SeenView (Move O R)) (op : O) (refusal : Refusal) → seen ≡ record { history = moves; terms = terms; branch = branch; head = head }
      → FromOn meaning seen.terms seen.history (λ later. Refuses meaning seen.terms later (Land seen.branch seen.head op) refusal)
      → (full_turn (fix meaning terms address) moves (Land branch head op)).made ≡ []
  unprepared seen op refusal is refuses =
      let own = subst (λ (x : SeenView (Move O R)). FromOn meaning x.terms x.history (λ later. Refuses meaning x.terms later (Land x.branch x.head op) refusal)) is refuses in
      ap (λ t. t.made) (full-answers (fix meaning terms address) moves (Land branch head op) refl (Refused refusal) (own moves ([], append-nil moves)))

  -- a join that makes no move
  pub unjoined : (others : List ℕ) (group : GroupView (Move O R)) (outcome : Outcome A R) → group ≡ record { history = moves; terms = terms; branch = branch; head = head; others = others } → MergesAllAs meaning group outcome
      → (full_turn (fix meaning terms address) moves (Merge branch head others)).made ≡ []
  unjoined others group outcome is merges =
      let own = subst (λ (x : GroupView (Move O R)). MergesAllAs meaning x outcome) is merges in
      ap (λ t. t.made) (full-answers (fix meaning terms address) moves (Merge branch head others) refl outcome (own moves ([], append-nil moves)))

  -- a merge that makes no move
  pub unmerged : (other : ℕ) (pair : PairView (Move O R)) (outcome : Outcome A R) → pair ≡ record { history = moves; terms = terms; branch = branch; head = head; other = other } → MergesAs meaning pair outcome
      → (full_turn (fix meaning terms address) moves (Merge branch head (other ∷ []))).made ≡ []
  unmerged other pair outcome is merges =
      let own = subst (λ (x : PairView (Move O R)). MergesAs meaning x outcome) is merges in
      ap (λ t. t.made) (full-answers (fix meaning terms address) moves (Merge branch head (other ∷ [])) refl outcome (own moves ([], append-nil moves)))
