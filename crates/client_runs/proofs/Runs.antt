-- From what clients did at a shared store to what became of them over its core.
use Rattle.std.proofs.Common.{zero, suc, ◌≡◌, ℕ, ◌+◌, ◌<◌, ◌≤◌, List, [], ◌∷◌, ◌++◌, length, refl, ap, sym, subst, ◌∙◌, Option, Some, None, arith, append-nil, length-append, ⊎_elim}
use Rattle.std.specs.Prelude.{slice_get, IfOk, OnErr, Ok, Err}
use Rattle.std.specs.declared.result.Result.{Result}
use Rattle.std.specs.List.{AllZip}
use Rattle.std.proofs.lemmas.Bool.{cases_eq}
use Rattle.std.proofs.lemmas.Option.{slice_get_within}
use Rattle.std.proofs.lemmas.Slice.Zip.{AllZip-long}
use mathlib.Core.List.{IsPrefix}
use Rattle.mrdt_model.specs.Laws.{Meaning}
use Rattle.branch_front.specs.Lists.{AreAllWithin}
use Rattle.branch_names.specs.declared.terms.Terms.{Terms}
use Rattle.branch_names.specs.Heads.{IsKeptBranch}
use Rattle.branch_history.specs.declared.moves.Move.{Move}
use Rattle.branch_history.specs.History.{store_of}
use Rattle.branch_history.specs.Laws.{IsWithin}
use Rattle.branch_history.proofs.Lists.{slice_get-append, slice_get-new}
use Rattle.branch_machine.specs.Fixed.{fix}
use Rattle.branch_doc.specs.declared.plain.Kind.TheVariants as kind
use Rattle.branch_doc.specs.declared.plain.PlainOp.{PlainOp}
use Rattle.branch_doc.specs.Kinds.{op_kind}
use Rattle.branch_doc.specs.Types.{PlainForms}
use Rattle.branch_script.specs.declared.step.Step.{Step}
use Rattle.branch_gen.specs.Clients.{client_steps}
use Rattle.branch_shared.specs.Allowed.{GrowsBy}
use Rattle.branch_shared.specs.Passes.{PassView}
use Rattle.parallel_clients.specs.declared.outcome.Outcome.{Outcome}
use Rattle.parallel_clients.specs.Allowed.{IsOfScripts}
use Rattle.parallel_clients.specs.Clients.{Ran, all_places}
use Rattle.parallel_clients.specs.Outcomes.{Setting, setting, IsOutcome, StaysOutcome}
use Rattle.client_runs.specs.Scripts.{scripts_of}
use Rattle.client_runs.specs.Worked.{HaveRun, HaveWorked, IsOfClients}
use Rattle.client_runs.proofs.Drawn.{IsNoDrop, all-mapped}
use Rattle.client_runs.proofs.Known.{may-come}

-- what holds of an answer, in other words
pub answer-says : {T E : Type 0} (P Q : T → Type 0) (r : Result T E) → ((v : T) → P v → Q v) → IfOk r P → IfOk r Q
answer-says P Q (Ok v) says is = says v is
answer-says P Q (Err e) says is = tt

all-say : {X Y : Type 0} (P Q : X → Y → Type 0) → ((x : X) (y : Y) → P x y → Q x y) → (xs : List X) (ys : List Y) → AllZip P xs ys → AllZip Q xs ys
all-say P Q says [] [] is = tt
all-say P Q says [] (y ∷ ys) is = is
all-say P Q says (x ∷ xs) [] is = is
all-say P Q says (x ∷ xs) (y ∷ ys) is = (says x y is.0, all-say P Q says xs ys is.1)

-- a store's setting is that of its name
pub named-setting : {S O R Q A : Type 0} (m : Meaning S O R Q A) (address : List ℕ → List ℕ) (forms : PlainForms O Q R A) (terms named : Terms) (opened given : ℕ) → terms ≡ named → opened ≡ given
    → setting (fix m named address) forms given ≡ setting (fix m terms address) forms opened
named-setting m address forms terms named opened given same at =
    ap (λ l. setting (fix m l address) forms given) (sym same) ∙ ap (λ n. setting (fix m terms address) forms n) (sym at)

-- what holds after want of memory, in other words
pub failure-says : {T E : Type 0} (P Q : Type 0) (r : Result T E) → (P → Q) → OnErr r P → OnErr r Q
failure-says P Q (Ok v) says is = tt
failure-says P Q (Err e) says is = says is

-- a longer list that is no longer is the same
same-list : {M : Type 0} (first all : List M) → IsPrefix first all → length all ≡ length first → all ≡ first
same-list {M} first all begins size = by-rest begins.0 begins.1
  where
    by-rest : (rest : List M) → first ++ rest ≡ all → all ≡ first
    by-rest [] is = sym is ∙ append-nil first
    by-rest (m ∷ ms) is = let long = ap (λ (xs : List M). length xs) is in absurd (omega (arith, long, size, length-append first (m ∷ ms)))

-- how long a history is behind one that is named
pub closed-length : {M : Type 0} (begun history first : List M) (landed : ℕ) → first ≡ begun → length begun + landed ≡ length history → length first + landed ≡ length history
closed-length begun history first landed same is = ap (λ xs. length xs + landed) same ∙ is

-- clients ran over a store that began with a history, by a pass that held all parts, and the store was closed with that pass
pub record Over {S O R Q A E : Type 0} (on : Setting S O R Q A) (begun history : List (Move O R)) (since faults parts : ℕ) (scripts : List (List Step)) (result : Result (List Outcome) E) : Type 0 where
  pub old : PassView (Move O R)
  pub new : PassView (Move O R)
  pub first : old ≡ record { moves = begun; sure = []; mine = []; others = []; faults = since; parts = parts; receipts = 0 }
  pub ran : IfOk result (Ran on old new scripts)
  pub kept : OnErr result (new ≡ old)
  pub sees : IsPrefix new.moves history
  pub begins : IsPrefix begun history
  pub known : new.faults ≤ faults
  pub landed : ℕ
  pub receipts : ℕ
  pub landed_are : length begun + landed ≡ length history
  pub receipts_are : receipts ≡ new.receipts
  pub all : new.parts ≡ parts → receipts ≡ landed
  pub every : new.parts ≡ parts → AreAllWithin (length begun) (new.mine ++ new.others) (length history)

module _ {S O R Q A E : Type 0} (on : Setting S O R Q A) (begun history : List (Move O R)) (since faults parts : ℕ) (scripts : List (List Step)) where
  goes-on : (old new : PassView (Move O R)) (r : Result (List Outcome) E) → IfOk r (Ran on old new scripts) → OnErr r (new ≡ old) → (old.faults ≤ new.faults) × (new.parts ≡ old.parts)
  goes-on old new (Ok outcomes) ran kept = (ran.faults, ap (λ (p : PassView (Move O R)). p.parts) ran.rest)
  goes-on old new (Err e) ran kept = let same = ap (λ (p : PassView (Move O R)). p.faults) kept in (omega (arith, same), ap (λ (p : PassView (Move O R)). p.parts) kept)

  module _ (r : Result (List Outcome) E) (over : Over on begun history since faults parts scripts r) where
    abbrev held : (over.old.faults ≤ over.new.faults) × (over.new.parts ≡ over.old.parts)
    held = goes-on over.old over.new r over.ran over.kept

    pub faults-rise : since ≤ faults
    faults-rise =
        let at = ap (λ (p : PassView (Move O R)). p.faults) over.first in
        let known = over.known in
        let rise = held.0 in
        omega (arith, at, known, rise)

    -- the pass holds all parts again, so its receipts are all moves that landed, and it claims each
    parts_are : over.new.parts ≡ parts
    parts_are = held.1 ∙ ap (λ (p : PassView (Move O R)). p.parts) over.first

    counted : length begun + over.new.receipts ≡ length history
    counted =
        let all = over.all parts_are in
        let landed = over.landed_are in
        let receipts = over.receipts_are in
        omega (arith, all, landed, receipts)

    pub stays-so : OnErr r (history ≡ begun)
    stays-so =
        failure-says (over.new ≡ over.old) (history ≡ begun) r
        (λ kept.
        let none = ap (λ (p : PassView (Move O R)). p.receipts) (kept ∙ over.first) in
        let size = counted in
        same-list begun history over.begins (omega (arith, none, size)))
        over.kept

    -- the last pass may not have seen each move
    pub have-run : StaysOutcome on → IfOk r (HaveRun on begun history faults scripts)
    have-run stays =
        answer-says (Ran on over.old over.new scripts) (HaveRun on begun history faults scripts) r
        (λ outcomes ran.
        let same = ap (λ (p : PassView (Move O R)). p.moves) over.first in
        let fresh = ap (λ (p : PassView (Move O R)). p.receipts) over.first in
        let more = ap (λ (p : PassView (Move O R)). p.receipts) ran.rest in
        let size = counted in
        let claims : over.new.mine ++ over.new.others ≡ all_places outcomes =
        ap (λ (p : PassView (Move O R)). p.mine ++ p.others) ran.rest ∙ ap (λ (p : PassView (Move O R)). p.mine ++ (p.others ++ all_places outcomes)) over.first
        in
        record {
          each = all-say (IsOutcome on over.old.moves over.new.moves over.new.faults) (IsOutcome on begun history faults)
              (λ steps outcome is. subst (λ (ms : List (Move O R)). IsOutcome on ms history faults steps outcome) same (stays over.old.moves over.new.moves history over.new.faults faults steps outcome over.sees over.known is))
              scripts outcomes ran.each;
          apart = ran.apart;
          all = subst (λ (ns : List ℕ). AreAllWithin (length begun) ns (length history)) claims (over.every parts_are);
          counted = omega (arith, fresh, more, size);
        })
        over.ran

-- the scripts are those of the clients' numbers
pub length-scripts_of : (count steps number : ℕ) → length (scripts_of count steps number) ≡ count
length-scripts_of zero steps number = refl
length-scripts_of (suc count) steps number = omega (arith, length-append (scripts_of count steps number) (client_steps count steps number ∷ []), length-scripts_of count steps number)

scripts-at : (count steps number k : ℕ) (s : List Step) → slice_get (scripts_of count steps number) k ≡ Some s → s ≡ client_steps k steps number
scripts-at zero steps number k s is = let never : ⊥ = cc in absurd never
scripts-at (suc count) steps number k s is =
    let first : List (List Step) = scripts_of count steps number in
    let last : List Step = client_steps count steps number in
    let size = length-scripts_of count steps number in
    ⊎_elim
    (λ e.
    let at : slice_get (first ++ last ∷ []) k ≡ Some last = ap (λ n. slice_get (first ++ last ∷ []) n) (e ∙ sym size) ∙ slice_get-new first last [] in
    let same : s ≡ last = cc in
    same ∙ ap (λ n. client_steps n steps number) (sym e))
    (λ ne.
    let within = slice_get_within (first ++ last ∷ []) k s is in
    let there : k < length first = omega (arith, within, size, ne, length-append first (last ∷ [])) in
    scripts-at count steps number k s (sym (slice_get-append first (last ∷ []) k there) ∙ is))
    (cases_eq k count)

-- what a step of the clients' scripts may make, a client may
pub of-clients : {O R Q A : Type 0} (forms : PlainForms O Q R A) (count steps number : ℕ) (scripts : List (List Step)) → scripts ≡ scripts_of count steps number → (made : Move O R) → IsOfScripts forms scripts made → IsOfClients forms count steps number made
of-clients forms count steps number scripts drawn made is =
    let at = subst (λ (xs : List (List Step)). slice_get xs is.client ≡ Some is.steps) drawn is.is_script in
    record {
      client = is.client;
      is_one = omega (arith, slice_get_within (scripts_of count steps number) is.client is.steps at, length-scripts_of count steps number);
      place = is.place;
      step = is.step;
      is_step = subst (λ (xs : List Step). slice_get xs is.place ≡ Some is.step) (scripts-at count steps number is.client is.steps at) is.is_step;
      may = is.may;
    }

-- a history that grows by what allows less grows by what allows more
pub grows-wider : {M : Type 0} (P Q : M → Type 0) → ((m : M) → P m → Q m) → (old new : List M) → GrowsBy P old new → GrowsBy Q old new
grows-wider P Q wider old new grows = record { more = grows.more; is = grows.is; all = all-mapped P Q wider grows.more grows.all }

-- what stands beside an item of the second list
record Beside {X Y : Type 0} (Q : X → Y → Type 0) (xs : List X) (k : ℕ) (y : Y) : Type 0 where
  first : X
  at : slice_get xs k ≡ Some first
  holds : Q first y

beside : {X Y : Type 0} (Q : X → Y → Type 0) (xs : List X) (ys : List Y) (k : ℕ) (y : Y) → AllZip Q xs ys → slice_get ys k ≡ Some y → Beside Q xs k y
beside Q [] [] k y all is = let never : ⊥ = cc in absurd never
beside Q [] (z ∷ ys) k y all is = absurd all
beside Q (x ∷ xs) [] k y all is = absurd all
beside Q (x ∷ xs) (z ∷ ys) zero y all is = let same : z ≡ y = cc in record { first = x; at = refl; holds = subst (Q x) same all.0 }
beside Q (x ∷ xs) (z ∷ ys) (suc k) y all is = let rest = beside Q xs ys k y all.1 is in record { first = rest.first; at = rest.at; holds = rest.holds }

-- clients of drawn steps, over a valid history
module _ {S O R Q A : Type 0} (on : Setting S O R Q A) (lacks : (op : PlainOp) → on.forms.op op ≡ None → op_kind op ≡ kind.Sequence) (old new : List (Move O R)) (drops : GrowsBy IsNoDrop old new)
    (within : (moves : List (Move O R)) → IsPrefix moves new → IsWithin on.fixed.terms moves)
    (main : (moves : List (Move O R)) → IsPrefix moves new → IsKeptBranch (store_of on.fixed.terms.origin moves).branches 0) (faults count steps number : ℕ) where
  pub have-worked : (outcomes : List Outcome) → HaveRun on old new faults (scripts_of count steps number) outcomes → HaveWorked on old new faults count steps number outcomes
  have-worked outcomes run = record {
    clients = AllZip-long (IsOutcome on old new faults) (scripts_of count steps number) outcomes run.each ∙ length-scripts_of count steps number;
    each = λ client outcome at.
        let script = beside (IsOutcome on old new faults) (scripts_of count steps number) outcomes client outcome run.each at in
        let is : IsOutcome on old new faults (client_steps client steps number) outcome = subst (λ steps. IsOutcome on old new faults steps outcome) (scripts-at count steps number client script.first script.at) script.holds in
        record { is = is; may = may-come on lacks old new drops within main faults client steps number outcome is.comes };
    apart = run.apart;
    all = run.all;
    counted = run.counted;
  }
