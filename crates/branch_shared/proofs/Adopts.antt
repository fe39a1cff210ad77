-- The part of a pass that went with a job comes back to it; and a job that landed alone.
use Rattle.std.proofs.Common.{◌≡◌, ◌≢◌, ℕ, ◌+◌, ◌-◌, ◌<◌, ◌≤◌, max, Bool, true, false, cond, List, [], ◌∷◌, ◌++◌, length, refl, ap, sym, subst, ◌∙◌, arith, length-append, nat_lt, Result, Ok, Err, IfOk, IfErr, OnErr}
use Rattle.std.proofs.lemmas.List.{append-nil}
use Rattle.std.proofs.lemmas.Bool.Decides.{nat_tests}
use Rattle.std.specs.List.{AllByRecursion}
use mathlib.Core.List.{IsPrefix}
use Rattle.branch_front.proofs.Prefixes.{prefix_length}
use Rattle.branch_front.specs.Lists.{longer}
use Rattle.branch_front.specs.Views.{View}
use Rattle.branch_history.specs.declared.moves.Move.{Move}
use Rattle.branch_machine.specs.Fixed.{Fixed}
use Rattle.branch_machine.specs.Validity.{IsFullyValid}
use Rattle.store_seen.specs.declared.answers.Landed.{Landed}
use Rattle.store_seen.specs.Turns.{move_of}
use Rattle.store_seen.specs.Views.{PreparedView}
use Rattle.store_core.specs.declared.answers.LandRefused.{LandRefused}
use Rattle.store_core.specs.declared.answers.LandRefused.TheVariants as refusal
use Rattle.branch_shared.specs.declared.name.Entry.{Entry}
use Rattle.branch_shared.specs.Entries.{moves_of, moments_of}
use Rattle.branch_shared.specs.Passes.{PassView, IsSeenOn, KnowsMoments, LandedAt, LandRefusedAt, BatchRefusedAt}
use Rattle.branch_shared.specs.Batches.{LandsTogether, pass_of}
use Rattle.branch_shared.proofs.Entries.{long-moves, moves-longer, moments-longer}
use Rattle.branch_shared.proofs.Places.{prefix-whole}

-- of a list and one that begins with it, the longer is the other
longer-by : {X : Type 0} (xs ys : List X) (b : Bool) → nat_lt (length xs) (length ys) ≡ b → IsPrefix xs ys → cond b ys xs ≡ ys
longer-by xs ys true test p = refl
longer-by xs ys false test p =
    let most : length xs ≤ length ys = prefix_length xs ys p in
    let least : length ys ≤ length xs = grind (arith, nat_tests) in
    prefix-whole xs ys p (omega arith)

longer-other : {X : Type 0} (xs ys : List X) → IsPrefix xs ys → longer xs ys ≡ ys
longer-other xs ys p = longer-by xs ys (nat_lt (length xs) (length ys)) refl p

same-pass : {M : Type 0} (moves moves' : List M) (sure sure' mine mine' others others' : List ℕ) (faults faults' parts parts' receipts receipts' : ℕ)
    → moves ≡ moves' → sure ≡ sure' → mine ≡ mine' → others ≡ others' → faults ≡ faults' → parts ≡ parts' → receipts ≡ receipts'
    → (let p : PassView M = record { moves = moves; sure = sure; mine = mine; others = others; faults = faults; parts = parts; receipts = receipts } in p)
    ≡ record { moves = moves'; sure = sure'; mine = mine'; others = others'; faults = faults'; parts = parts'; receipts = receipts' }
same-pass {M} moves moves' sure sure' mine mine' others others' faults faults' parts parts' receipts receipts' a s b c d e f =
    let step1 : (l : List M) → PassView M = λ l. record { moves = l; sure = sure; mine = mine; others = others; faults = faults; parts = parts; receipts = receipts } in
    let step1s : (l : List ℕ) → PassView M = λ l. record { moves = moves'; sure = l; mine = mine; others = others; faults = faults; parts = parts; receipts = receipts } in
    let step2 : (l : List ℕ) → PassView M = λ l. record { moves = moves'; sure = sure'; mine = l; others = others; faults = faults; parts = parts; receipts = receipts } in
    let step3 : (l : List ℕ) → PassView M = λ l. record { moves = moves'; sure = sure'; mine = mine'; others = l; faults = faults; parts = parts; receipts = receipts } in
    let step4 : (n : ℕ) → PassView M = λ n. record { moves = moves'; sure = sure'; mine = mine'; others = others'; faults = n; parts = parts; receipts = receipts } in
    let step5 : (n : ℕ) → PassView M = λ n. record { moves = moves'; sure = sure'; mine = mine'; others = others'; faults = faults'; parts = n; receipts = receipts } in
    let step6 : (n : ℕ) → PassView M = λ n. record { moves = moves'; sure = sure'; mine = mine'; others = others'; faults = faults'; parts = parts'; receipts = n } in
    ap step1 a ∙ (ap step1s s ∙ (ap step2 b ∙ (ap step3 c ∙ (ap step4 d ∙ (ap step5 e ∙ ap step6 f)))))

-- a pass to which another was joined
abbrev pub joined : {M : Type 0} → PassView M → PassView M → PassView M
joined v w = record v { moves = longer v.moves w.moves; sure = longer v.sure w.sure; others = v.others ++ (w.mine ++ w.others); faults = max v.faults w.faults; parts = v.parts + w.parts; receipts = v.receipts + w.receipts }

pub joins : {O R : Type 0} (begun : List (Move O R)) (v w new : View (Entry O R))
    → new ≡ record v { moves = longer v.moves w.moves; others = v.others ++ (w.mine ++ w.others); faults = max v.faults w.faults; parts = v.parts + w.parts; receipts = v.receipts + w.receipts }
    → pass_of begun new ≡ joined (pass_of begun v) (pass_of begun w)
joins {O} {R} begun v w new is =
    let whole : PassView (Move O R) = joined (pass_of begun v) (pass_of begun w) in
    ap (λ (u : View (Entry O R)). pass_of begun u) is
    ∙ (ap (λ (l : List (Move O R)). record whole { moves = l; sure = moments_of (longer v.moves w.moves) }) (moves-longer begun v.moves w.moves) ∙ ap (λ (l : List ℕ). record whole { sure = l }) (moments-longer v.moves w.moves))

-- and one that saw an entry of its own
pub adds : {O R : Type 0} (begun : List (Move O R)) (v new : View (Entry O R)) (entries : List (Entry O R)) (history : List (Move O R)) (length' known : ℕ)
    → new ≡ record v { moves = entries; mine = v.mine ++ length' ∷ []; faults = known; receipts = v.receipts + 1 } → begun ++ moves_of entries ≡ history → length' ≡ length history
    → pass_of begun new ≡ record (pass_of begun v) { moves = history; sure = moments_of entries; mine = v.mine ++ length history ∷ []; faults = known; receipts = v.receipts + 1 }
adds {O} {R} begun v new entries history length' known is moves long =
    ap (λ (u : View (Entry O R)). pass_of begun u) is
    ∙ (ap (λ (l : List (Move O R)). record (pass_of begun v) { moves = l; sure = moments_of entries; mine = v.mine ++ length' ∷ []; faults = known; receipts = v.receipts + 1 }) moves
    ∙ ap (λ (n : ℕ). record (pass_of begun v) { moves = history; sure = moments_of entries; mine = v.mine ++ n ∷ []; faults = known; receipts = v.receipts + 1 }) long)

module _ {S O R Q A : Type 0} (fixed : Fixed S O R Q A) (opened : ℕ) (begun : List (Move O R)) (made : PreparedView O R) where
  module _ (v w : View (Entry O R)) where
    -- the part of a pass that goes with a job
    abbrev part : View (Entry O R)
    part = record v { mine = []; others = []; parts = 1; receipts = 0 }

    same-refused : (why : LandRefused) → BatchRefusedAt fixed opened made (pass_of begun part) (pass_of begun w) why
        → BatchRefusedAt fixed opened made (pass_of begun v) (record (pass_of begun v) { moves = begun ++ moves_of w.moves; sure = moments_of w.moves; faults = w.faults }) why
    same-refused (refusal.Dropped branch) is = is
    same-refused (refusal.Stale newest) is = is
    same-refused (refusal.FullCommits count) is = is
    same-refused (refusal.FullMoves count) is = is
    same-refused (refusal.Collision address stored fresh) is = is
    same-refused refusal.DiskFault is = is
    same-refused (refusal.Failed moves) is = is
    same-refused refusal.Memory is = is

    -- where the part's own move landed is behind what the pass had seen
    pub behind : (answer : Result (Landed R) LandRefused) → LandsTogether fixed opened begun made (pass_of begun part) (record { pass = pass_of begun w; answer = answer })
        → AllByRecursion (λ n. length begun + length v.moves < n) w.mine
    behind (Ok landed) together =
        let lands = together.landed in
        let mine : w.mine ≡ landed.moves ∷ [] = ap (λ (p : PassView (Move O R)). p.mine) lands.rest in
        let short : length (begun ++ moves_of v.moves) ≤ length lands.before = prefix_length (begun ++ moves_of v.moves) lands.before lands.seen in
        subst (AllByRecursion (λ n. length begun + length v.moves < n)) (sym mine)
        (omega (arith, short, lands.counted, ap length lands.last, length-append lands.before (move_of made.seen.branch made.work ∷ []), length-append begun (moves_of v.moves), long-moves v.moves), tt)
    behind (Err why) together =
        let mine : w.mine ≡ [] = ap (λ (p : PassView (Move O R)). p.mine) together.rest in
        subst (AllByRecursion (λ n. length begun + length v.moves < n)) (sym mine) tt

    abbrev after : View (Entry O R)
    after = record v { moves = longer v.moves w.moves; mine = v.mine ++ w.mine; others = v.others ++ w.others; faults = max v.faults w.faults; parts = (v.parts - 1) + w.parts; receipts = v.receipts + w.receipts }

    longer-moves : IsPrefix (begun ++ moves_of v.moves) (begun ++ moves_of w.moves) → begun ++ moves_of (longer v.moves w.moves) ≡ begun ++ moves_of w.moves
    longer-moves prefix = moves-longer begun v.moves w.moves ∙ longer-other (begun ++ moves_of v.moves) (begun ++ moves_of w.moves) prefix

    longer-moments : IsPrefix (moments_of v.moves) (moments_of w.moves) → moments_of (longer v.moves w.moves) ≡ moments_of w.moves
    longer-moments prefix = moments-longer v.moves w.moves ∙ longer-other (moments_of v.moves) (moments_of w.moves) prefix

    pub adopted : (answer : Result (Landed R) LandRefused) → LandsTogether fixed opened begun made (pass_of begun part) (record { pass = pass_of begun w; answer = answer }) → 1 < v.parts
        → LandsTogether fixed opened begun made (pass_of begun v) (record { pass = pass_of begun after; answer = answer })
    adopted (Ok landed) together more =
        let lands = together.landed in
        let moves = longer-moves together.prefix in
        let sure = longer-moments together.sure.0 in
        let mine = ap (λ (l : List ℕ). v.mine ++ l) (let own : w.mine ≡ landed.moves ∷ [] = ap (λ (p : PassView (Move O R)). p.mine) lands.rest in own) in
        let others = ap (λ (l : List ℕ). v.others ++ l) (let none : w.others ≡ [] = ap (λ (p : PassView (Move O R)). p.others) lands.rest in none) ∙ append-nil v.others in
        let rise : v.faults ≤ w.faults = together.faults in
        let faults : max v.faults w.faults ≡ w.faults = omega arith in
        let one : w.parts ≡ 1 = together.parts in
        let parts : (v.parts - 1) + w.parts ≡ v.parts = omega arith in
        let landings : w.receipts ≡ 1 = ap (λ (p : PassView (Move O R)). p.receipts) lands.rest in
        let receipts : v.receipts + w.receipts ≡ v.receipts + 1 = omega arith in
        let is = same-pass (begun ++ moves_of (longer v.moves w.moves)) (begun ++ moves_of w.moves) (moments_of (longer v.moves w.moves)) (moments_of w.moves) (v.mine ++ w.mine) (v.mine ++ landed.moves ∷ []) (v.others ++ w.others) v.others (max v.faults w.faults) w.faults ((v.parts - 1) + w.parts) v.parts (v.receipts + w.receipts) (v.receipts + 1)
        moves sure mine others faults parts receipts in
        subst (λ (p : PassView (Move O R)). LandsTogether fixed opened begun made (pass_of begun v) (record { pass = p; answer = Ok landed })) (sym is)
        (record {
          prefix = together.prefix;
          sure = together.sure;
          begins = together.begins;
          valid = together.valid;
          faults = together.faults;
          parts = refl;
          landed = record { before = lands.before; seen = lands.seen; turn_is = lands.turn_is; last = lands.last; counted = lands.counted; rest = refl };
          refused = tt;
          rest = tt;
          quiet = together.quiet;
        })
    adopted (Err why) together more =
        let seen = together.rest in
        let moves = longer-moves together.prefix in
        let sure = longer-moments together.sure.0 in
        let mine = ap (λ (l : List ℕ). v.mine ++ l) (let own : w.mine ≡ [] = ap (λ (p : PassView (Move O R)). p.mine) seen in own) ∙ append-nil v.mine in
        let others = ap (λ (l : List ℕ). v.others ++ l) (let none : w.others ≡ [] = ap (λ (p : PassView (Move O R)). p.others) seen in none) ∙ append-nil v.others in
        let rise : v.faults ≤ w.faults = together.faults in
        let faults : max v.faults w.faults ≡ w.faults = omega arith in
        let one : w.parts ≡ 1 = together.parts in
        let parts : (v.parts - 1) + w.parts ≡ v.parts = omega arith in
        let landings : w.receipts ≡ 0 = ap (λ (p : PassView (Move O R)). p.receipts) seen in
        let receipts : v.receipts + w.receipts ≡ v.receipts = omega arith in
        let is = same-pass (begun ++ moves_of (longer v.moves w.moves)) (begun ++ moves_of w.moves) (moments_of (longer v.moves w.moves)) (moments_of w.moves) (v.mine ++ w.mine) v.mine (v.others ++ w.others) v.others (max v.faults w.faults) w.faults ((v.parts - 1) + w.parts) v.parts (v.receipts + w.receipts) v.receipts
        moves sure mine others faults parts receipts in
        subst (λ (p : PassView (Move O R)). LandsTogether fixed opened begun made (pass_of begun v) (record { pass = p; answer = Err why })) (sym is)
        (record {
          prefix = together.prefix;
          sure = together.sure;
          begins = together.begins;
          valid = together.valid;
          faults = together.faults;
          parts = refl;
          landed = tt;
          refused = same-refused why together.refused;
          rest = refl;
          quiet = together.quiet;
        })

  module _ (old new : PassView (Move O R)) where
    alone-refused : (why : LandRefused) → LandRefusedAt fixed opened made old new why → BatchRefusedAt fixed opened made old new why
    alone-refused (refusal.Dropped branch) is = is
    alone-refused (refusal.Stale newest) is = is
    alone-refused (refusal.FullCommits count) is = is
    alone-refused (refusal.FullMoves count) is = is
    alone-refused (refusal.Collision address stored fresh) is = is
    alone-refused refusal.DiskFault is = is.0
    alone-refused (refusal.Failed moves) is = is
    alone-refused refusal.Memory is = is

    refused-alone : (answer : Result (Landed R) LandRefused) → IfErr answer (LandRefusedAt fixed opened made old new) → IfErr answer (BatchRefusedAt fixed opened made old new)
    refused-alone (Ok landed) is = tt
    refused-alone (Err why) is = alone-refused why is

    -- a job that lands alone lands as it does together with others
    pub alone : (answer : Result (Landed R) LandRefused) → IsPrefix old.moves new.moves → KnowsMoments begun old new → IsPrefix begun new.moves → IsFullyValid fixed new.moves → old.faults ≤ new.faults → new.parts ≡ old.parts
        → IfOk answer (λ landed. LandedAt fixed made old new landed.moves landed.kind) → IfErr answer (LandRefusedAt fixed opened made old new) → OnErr answer (IsSeenOn old new)
        → (answer ≢ Err refusal.DiskFault → ((moves : ℕ) → answer ≢ Err (refusal.Failed moves)) → new.faults ≡ 0)
        → LandsTogether fixed opened begun made old (record { pass = new; answer = answer })
    alone answer prefix sure begins valid faults parts landed refused rest quiet = record {
      prefix = prefix;
      sure = sure;
      begins = begins;
      valid = valid;
      faults = faults;
      parts = parts;
      landed = landed;
      refused = refused-alone answer refused;
      rest = rest;
      quiet = quiet;
    }
