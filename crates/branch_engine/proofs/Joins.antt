-- A look grouped with the heads of other branches, over the core on which it was grouped.
use Rattle.std.proofs.Common.{◌≡◌, ℕ, List, [], ◌∷◌, ◌++◌, refl, ap, sym, subst, ◌∙◌, None}
use Rattle.std.specs.Prelude.{Ok, Err}
use mathlib.Core.List.{IsPrefix}
use Rattle.branch_names.specs.declared.terms.Terms.{Terms}
use Rattle.branch_history.specs.declared.moves.Move.{Move}
use Rattle.branch_history.specs.Steps as machine
use Rattle.branch_history.specs.Machine.{turn, answers}
use Rattle.store_seen.specs.Turns.{step_of}
use Rattle.store_seen.specs.Groups.{look_of, AreHeads, IsGrouped, MergesAllAs, AsksFor}
use Rattle.store_seen.specs.Views.{GroupView, PreparedView, Work}
use Rattle.store_seen.specs.Views as work
use Rattle.branch_machine.specs.Machine.{commit_here, full_turn}
use Rattle.branch_machine.specs.Fixed.{Fixed}
use Rattle.branch_engine.proofs.Values.{Values, fixed_of}
use Rattle.branch_engine.specs.Play.{History, Play, and_head, heads_named}
use Rattle.branch_engine.specs.Engines.{Core, Seen}
use Rattle.branch_engine.proofs.Machines.{full-answers, full-same}
use Rattle.branch_engine.proofs.Played.{prefix-self}

abbrev pub Group : Type 0 → Type 0 → Type 0
Group O R = GroupView (Move O R)

-- on a branch, by one that sees a commit, the merge of others at once
abbrev pub join_of : {O Q : Type 0} → ℕ → ℕ → List ℕ → machine.Step O Q
join_of branch head others = machine.Merge branch head others

-- no work receives a commit
receives-none : {S O R Q A : Type 0} (values : Values S O R Q A) (terms : Terms) (history : History O R) (seen : Seen O R) (does : Work O R) → commit_here (fixed_of values terms) history (step_of {Q = Q} seen does) ≡ None
receives-none values terms history seen (work.Operation op reply) = refl
receives-none values terms history seen (work.Merge commit) = refl
receives-none values terms history seen (work.Join commits) = refl
receives-none values terms history seen (work.Forward commit) = refl

module _ {S O R Q A : Type 0} (values : Values S O R Q A) (core : Core O R) (seen : Seen O R) (from : List (List ℕ)) (group : Group O R) (grouped : IsGrouped values.meaning core seen from group) where
  pub group-history : group.history ≡ core.history
  group-history = ap (λ (s : Seen O R). s.history) grouped.look

  pub group-terms : group.terms ≡ core.terms
  group-terms = ap (λ (s : Seen O R). s.terms) grouped.look

  pub group-branch : group.branch ≡ seen.branch
  group-branch = ap (λ (s : Seen O R). s.branch) grouped.look

  pub group-head : group.head ≡ seen.head
  group-head = ap (λ (s : Seen O R). s.head) grouped.look

  abbrev joined : ℕ → ℕ → machine.Step O Q
  joined branch head = join_of branch head group.others

  abbrev same_join : joined group.branch group.head ≡ joined seen.branch seen.head
  same_join = ap (λ b. joined b group.head) group-branch ∙ ap (joined seen.branch) group-head

  abbrev here : IsPrefix group.history core.history
  here = subst (λ h. IsPrefix h core.history) (sym group-history) (prefix-self core.history)

  -- the machine's turn that the group was told, of the join that a session asks for
  pub group-turn : (outcome : machine.Outcome A R) → MergesAllAs values.meaning group outcome → full_turn (fixed_of values core.terms) core.history (join_of seen.branch seen.head group.others) ≡ answers outcome
  group-turn outcome merges =
      full-answers (fixed_of values core.terms) core.history (join_of seen.branch seen.head group.others) outcome refl
      (subst (λ s. turn values.meaning core.terms core.history s ≡ answers outcome) same_join (subst (λ l. turn values.meaning l core.history (join_of group.branch group.head group.others) ≡ answers outcome) group-terms (merges core.history here)))

  -- what was prepared has the turn of that join
  pub group-work : (made : PreparedView O R) → made.seen ≡ look_of group → AsksFor values.meaning group made.work
      → full_turn (fixed_of values core.terms) core.history (join_of seen.branch seen.head group.others) ≡ full_turn (fixed_of values core.terms) core.history (step_of made.seen made.work)
  group-work made look asks =
      let does = λ (s : Seen O R). step_of {Q = Q} s made.work in
      let under = subst (λ (l : Terms). turn values.meaning l core.history (join_of group.branch group.head group.others) ≡ turn values.meaning l core.history (does (look_of group))) group-terms (asks core.history here) in
      let of_seen = subst (λ (s : machine.Step O Q). turn values.meaning core.terms core.history s ≡ turn values.meaning core.terms core.history (does (look_of group))) same_join under in
      let of_made = subst (λ (s : Seen O R). turn values.meaning core.terms core.history (join_of seen.branch seen.head group.others) ≡ turn values.meaning core.terms core.history (does s)) (sym look) of_seen in
      full-same (fixed_of values core.terms) core.history (join_of seen.branch seen.head group.others) (does made.seen) refl (receives-none values core.terms core.history made.seen made.work) of_made

-- what a core answers to looks, the machine that keeps objects answers over a play
abbrev pub LooksAlike : {S O R Q A : Type 0} → Fixed S O R Q A → Play O R → Core O R → Type 0
LooksAlike {S} {O} {R} {Q} {A} fixed p core = (name : List ℕ) (outcome : machine.Outcome A R) → turn fixed.meaning core.terms core.history (machine.Look name) ≡ answers outcome → full_turn fixed p.moves (machine.Look name) ≡ answers outcome

module _ {S O R Q A : Type 0} (fixed : Fixed S O R Q A) (p : Play O R) (core : Core O R) (alike : LooksAlike fixed p core) where
  -- one more head
  sees-one : (name : List ℕ) (names : List (List ℕ)) (source head : ℕ) → turn fixed.meaning core.terms core.history (machine.Look name) ≡ answers (machine.Sees source head)
      → heads_named fixed p (name ∷ names) ≡ and_head {A = A} {R = R} name (machine.Sees source head) (heads_named fixed p names)
  sees-one name names source head sees =
      ap (λ (t : machine.Turn O R A). and_head name t.outcome (heads_named fixed p names)) (alike name (machine.Sees source head) sees)

  pub heads-are : (names : List (List ℕ)) (heads : List ℕ) → AreHeads fixed.meaning core names heads → heads_named fixed p names ≡ Ok heads
  heads-are [] [] are = refl
  heads-are [] (head ∷ heads) are = absurd are
  heads-are (name ∷ names) [] are = absurd are
  heads-are (name ∷ names) (head ∷ heads) are =
      sees-one name names are.0.0 head are.0.1 ∙ ap (and_head {A = A} {R = R} name (machine.Sees are.0.0 head)) (heads-are names heads are.1)

  unknown-behind : (before behind : List (List ℕ)) (named : List ℕ) (heads : List ℕ) → AreHeads fixed.meaning core before heads
      → turn fixed.meaning core.terms core.history (machine.Look named) ≡ answers (machine.Refused (machine.UnknownBranch named)) → heads_named fixed p (before ++ named ∷ behind) ≡ Err named
  unknown-behind [] behind named [] are unknown =
      ap (λ (t : machine.Turn O R A). and_head named t.outcome (heads_named fixed p behind)) (alike named (machine.Refused (machine.UnknownBranch named)) unknown)
  unknown-behind [] behind named (head ∷ heads) are unknown = absurd are
  unknown-behind (name ∷ before) behind named [] are unknown = absurd are
  unknown-behind (name ∷ before) behind named (head ∷ heads) are unknown =
      sees-one name (before ++ named ∷ behind) are.0.0 head are.0.1 ∙ ap (and_head {A = A} {R = R} name (machine.Sees are.0.0 head)) (unknown-behind before behind named heads are.1 unknown)

  -- the first of the names that no branch has
  pub heads-unknown : (names before behind : List (List ℕ)) (named : List ℕ) (heads : List ℕ) → names ≡ before ++ named ∷ behind → AreHeads fixed.meaning core before heads
      → turn fixed.meaning core.terms core.history (machine.Look named) ≡ answers (machine.Refused (machine.UnknownBranch named)) → heads_named fixed p names ≡ Err named
  heads-unknown names before behind named heads is are unknown = ap (heads_named fixed p) is ∙ unknown-behind before behind named heads are unknown
