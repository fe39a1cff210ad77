-- How clients enter, and how they leave.
use Rattle.std.proofs.Common.{◌≡◌, ℕ, ◌+◌, ◌*◌, ◌-◌, ◌<◌, ◌≤◌, max, Bool, true, false, cond, List, [], ◌∷◌, ◌++◌, length, length-append, take, drop, refl, ap, sym, subst, ◌∙◌, append_assoc, append-nil, arith}
use Rattle.std.specs.Prelude.{nat_lt}
use Rattle.std.specs.List.{AllByRecursion, AllZip}
use Rattle.std.proofs.lemmas.List.{drop_all, take_all}
use Rattle.std.proofs.lemmas.List.Sums.{sum_by_push}
use Rattle.std.proofs.lemmas.Slice.Zip.{all_zipped_more}
use mathlib.Core.List.{IsPrefix}
use Rattle.branch_front.specs.Lists.{longer, AreDistinct}
use Rattle.branch_front.proofs.Prefixes.{prefix_self, prefix_trans}
use Rattle.branch_history.specs.declared.moves.Move.{Move}
use Rattle.branch_machine.specs.Validity.{IsFullyValid}
use Rattle.branch_shared.specs.Passes.{PassView}
use Rattle.parallel_clients.specs.declared.clients.Entrant.{Entrant}
use Rattle.parallel_clients.specs.declared.outcome.Outcome.{Outcome}
use Rattle.parallel_clients.specs.Entrants.{HaveEntered, HasRunOwn, IsOwnOutcome, HaveLeft}
use Rattle.parallel_clients.specs.Outcomes.{Setting, places_of}
use Rattle.parallel_clients.specs.Clients.{all_places}
use Rattle.parallel_clients.proofs.Grown.{outcome-later}
use Rattle.parallel_clients.proofs.Places.{all_places-more, last-distinct}

-- the items of a list before one of them, and with it
module _ {A : Type 0} (before after all : List A) (x : A) (is : before ++ x ∷ after ≡ all) where
  pub with-one : (before ++ x ∷ []) ++ after ≡ all
  with-one = append_assoc before (x ∷ []) after ∙ is

  pub before-less : length before < length all
  before-less =
      let e : length (before ++ x ∷ after) ≡ length all = ap length is in
      omega (arith, length-append before (x ∷ after))

pub one-more : {A : Type 0} (before : List A) (x : A) → length (before ++ x ∷ []) ≡ length before + 1
one-more before x = length-append before (x ∷ [])

pub all-at : {A : Type 0} (P : A → Type 0) (before after : List A) (x : A) → AllByRecursion P (before ++ x ∷ after) → P x
all-at P [] after x all = all.0
all-at P (y ∷ ys) after x all = all-at P ys after x all.1

-- a list that was written back whole
pub whole-again : {A : Type 0} (count : ℕ) (new old : List A) → length new ≡ length old → count ≡ length old → take count (new ++ drop (length new) old) ≡ new
whole-again count new old same long =
    let none : drop (length new) old ≡ [] = drop_all (length new) old (omega (arith, same)) in
    let all : new ++ drop (length new) old ≡ new = ap (λ xs. new ++ xs) none ∙ append-nil new in
    ap (take count) all ∙ take_all count new (omega (arith, same, long))

-- pairs of two lists of which more holds
pub zip-each : {A B : Type 0} (P Q : A → B → Type 0) → ((x : A) (y : B) → P x y → Q x y) → (xs : List A) (ys : List B) → AllZip P xs ys → AllZip Q xs ys
zip-each P Q more [] [] zip = zip
zip-each P Q more [] (y ∷ ys) zip = zip
zip-each P Q more (x ∷ xs) [] zip = zip
zip-each P Q more (x ∷ xs) (y ∷ ys) zip = (more x y zip.0, zip-each P Q more xs ys zip.1)

-- what holds of two lists holds of the longer
of-longer : {A : Type 0} (P : List A → Type 0) (xs ys : List A) → P xs → P ys → P (longer xs ys)
of-longer P xs ys first second = by (nat_lt (length xs) (length ys))
  where
    by : (test : Bool) → P (cond test ys xs)
    by true = second
    by false = first

-- one client more enters

module _ {M : Type 0} (from mid : PassView M) where
  pub entered-more : (after : PassView M) (count : ℕ) → HaveEntered count from mid → after ≡ record mid { parts = mid.parts - 2 } → HaveEntered (count + 1) from after
  entered-more after count entered is =
      let first : after ≡ record from { parts = (from.parts - 2 * count) - 2 } = is ∙ ap (λ (p : PassView M). record p { parts = p.parts - 2 }) entered in
      let fewer : (from.parts - 2 * count) - 2 ≡ from.parts - 2 * (count + 1) = omega arith in
      first ∙ ap (λ (n : ℕ). record from { parts = n }) fewer

  pub ready-more : (pass : PassView M) (count : ℕ) → HaveEntered count from mid → pass ≡ record mid { mine = []; others = []; parts = 2; receipts = 0 } → pass ≡ record from { mine = []; others = []; parts = 2; receipts = 0 }
  ready-more pass count entered is = is ∙ ap (λ (p : PassView M). record p { mine = []; others = []; parts = 2; receipts = 0 }) entered

-- one client more leaves

module _ {S O R Q A : Type 0} (on : Setting S O R Q A) (from : PassView (Move O R)) where
  pub left-none : HaveLeft on from from [] []
  left-none = record {
    each = tt;
    seen = prefix_self from.moves;
    valid = λ is. is;
    faults = omega arith;
    mine = refl;
    others = sym (append-nil from.others);
    once = λ n. omega arith;
    parts = omega arith;
    counted = omega arith;
  }

  pub left-more : (now after : PassView (Move O R)) (entrants : List (Entrant (PassView (Move O R)))) (outcomes : List Outcome) (entrant : Entrant (PassView (Move O R)))
      → HaveLeft on from now entrants outcomes → HasRunOwn on from entrant
      → after ≡ record now { moves = longer now.moves entrant.pass.moves; sure = longer now.sure entrant.pass.sure; others = now.others ++ (entrant.pass.mine ++ entrant.pass.others); faults = max now.faults entrant.pass.faults; parts = now.parts + entrant.pass.parts; receipts = now.receipts + entrant.pass.receipts }
      → IsPrefix now.moves after.moves → IsPrefix entrant.pass.moves after.moves → AreDistinct (after.mine ++ after.others)
      → HaveLeft on from after (entrants ++ entrant ∷ []) (outcomes ++ entrant.outcome ∷ [])
  left-more now after entrants outcomes entrant left ran is this that once =
      let moves : after.moves ≡ longer now.moves entrant.pass.moves = ap (λ p. p.moves) is in
      let faults : after.faults ≡ max now.faults entrant.pass.faults = ap (λ p. p.faults) is in
      let places : List ℕ = places_of entrant.outcome in
      let claimed : entrant.pass.mine ++ entrant.pass.others ≡ places = ap (λ ms. ms ++ entrant.pass.others) ran.mine ∙ (ap (λ ms. places ++ ms) ran.others ∙ append-nil places) in
      let others : after.others ≡ from.others ++ all_places (outcomes ++ entrant.outcome ∷ []) =
      ap (λ p. p.others) is ∙ (ap (λ ms. now.others ++ ms) claimed ∙ (ap (λ ms. ms ++ places) left.others
      ∙ (append_assoc from.others (all_places outcomes) places ∙ ap (λ ms. from.others ++ ms) (sym (all_places-more outcomes entrant.outcome)))))
      in
      let parts : after.parts ≡ now.parts + entrant.pass.parts = ap (λ p. p.parts) is in
      let receipts : after.receipts ≡ now.receipts + entrant.pass.receipts = ap (λ p. p.receipts) is in
      let fewer : now.faults ≤ after.faults = omega arith in
      let own : entrant.pass.faults ≤ after.faults = omega arith in
      let two = ran.parts in
      let had = left.parts in
      let counted = left.counted in
      let counts = ran.counted in
      record {
        each = all_zipped_more (IsOwnOutcome on from after) entrants outcomes entrant entrant.outcome
            (zip-each (IsOwnOutcome on from now) (IsOwnOutcome on from after) (λ e o o_is. outcome-later on from.moves now.moves after.moves now.faults after.faults e.seat.steps.now o this fewer o_is) entrants outcomes left.each)
            (outcome-later on from.moves entrant.pass.moves after.moves entrant.pass.faults after.faults entrant.seat.steps.now entrant.outcome that own ran.became);
        seen = prefix_trans from.moves now.moves after.moves left.seen this;
        valid = λ v. subst (IsFullyValid on.fixed) (sym moves) (of-longer (IsFullyValid on.fixed) now.moves entrant.pass.moves (left.valid v) (ran.valid v));
        faults = let f = left.faults in omega arith;
        mine = ap (λ p. p.mine) is ∙ left.mine;
        others = others;
        once = last-distinct after.mine from.others (all_places (outcomes ++ entrant.outcome ∷ [])) (subst (λ ms. AreDistinct (after.mine ++ ms)) others once);
        parts = let e = one-more entrants entrant in omega arith;
        counted = let push = sum_by_push (λ o. length (places_of o)) outcomes entrant.outcome in omega arith;
      }
