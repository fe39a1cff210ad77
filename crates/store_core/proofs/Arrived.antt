-- Items received in memory, one behind another.
use Rattle.std.proofs.Common.{◌≡◌, ◌≢◌, inl, inr, ℕ, ◌+◌, ◌<◌, ◌≤◌, ◌^◌, suc, List, [], ◌∷◌, ◌++◌, length, map, take, drop, drop-cons, get_or, refl, sym, ◌∙◌, ap, subst, append-nil, append_assoc, Some, None, Result, Ok, Err}
use Rattle.std.specs.List.{AllByRecursion}
use Rattle.std.proofs.lemmas.List.{append_cancel_left, map-append, take_more, take-append-drop}
use Rattle.mrdt_model.specs.Laws.{Meaning}
use Rattle.branch_history.specs.declared.moves.Move.{Move}
use Rattle.branch_history.specs.Steps.{Turn}
use Rattle.branch_history.specs.Steps as machine
use Rattle.heads_journal.specs.declared.record.Record.{Record}
use Rattle.branch_machine.specs.Fixed.{Fixed, fix}
use Rattle.branch_machine.specs.Objects.{Pair}
use Rattle.branch_files.specs.Records.{records_after}
use Rattle.branch_bundle_laws.specs.Receiving.{IsTaken, made_by}
use Rattle.branch_bundle.specs.declared.bundle.Item.{Item}
use Rattle.branch_bundle.specs.Held.{pair_of}
use Rattle.machine_answers.specs.Answers.{Answer, Made, Still, Refused, Takes}
use Rattle.recorded_history.specs.declared.arrivals.Arrived.TheVariants as arrived
use Rattle.recorded_history.specs.declared.arrivals.ReceiveRefused.{ReceiveRefused as ReceiveRefusedBelow}
use Rattle.recorded_history.specs.declared.arrivals.ReceiveRefused.TheVariants as below
use Rattle.recorded_history.specs.Receives.{ReceivesMore, HasLastRecord}
use Rattle.recorded_history.specs.Receives as recorded
use Rattle.recorded_history.specs.Views.{RecordedView}
use Rattle.store_core.specs.declared.answers.Got.{Got}
use Rattle.store_core.specs.declared.answers.Got.TheVariants as got
use Rattle.store_core.specs.declared.answers.ReceiveRefused.{ReceiveRefused}
use Rattle.store_core.specs.declared.answers.ReceiveRefused.TheVariants as refusal
use Rattle.store_core.specs.Receiving.{item_refused, receive_answer}
use Rattle.store_core.specs.Together.{RefusedBy, ToldOf, TellsTurns, HasArrived, HaveArrived}
use Rattle.store_core.proofs.Batched.{after-both}
use Rattle.store_core.proofs.Turns.{received-more, made-more, refused-not-taken}

-- the bytes that were handed on are those of the item
pub more_of_bytes : {S O R Q A : Type 0} (fixed : Fixed S O R Q A) (old new : RecordedView (Move O R)) (answer : Answer A R) (value commit v c : List ℕ) → value ≡ v → commit ≡ c
    → ReceivesMore fixed (record { value = value; commit = commit }) old new answer → ReceivesMore fixed (record { value = v; commit = c }) old new answer
more_of_bytes fixed old new answer value commit v c same also is =
    subst (λ x. ReceivesMore fixed (record { value = v; commit = x }) old new answer) also
    (subst (λ x. ReceivesMore fixed (record { value = x; commit = commit }) old new answer) same is)

module _ {S O R Q A : Type 0} (fixed : Fixed S O R Q A) (item : Pair) (old new : RecordedView (Move O R)) (records : List Record) where
  abbrev at : List (Move O R)
  at = old.written ++ old.pending

  -- a turn that makes no move leaves what waits, and notes no record
  pends-still : (turn : Turn O R A) → turn.made ≡ [] → (made : List (Move O R)) → made ≡ [] → new.pending ≡ old.pending ++ made → new ≡ record old { pending = new.pending } → new ≡ record old { pending = old.pending ++ turn.made }
  pends-still turn none made no_move pending rest =
      rest ∙ ap (λ (ms : List (Move O R)). record old { pending = ms }) (pending ∙ ap (λ (ms : List (Move O R)). old.pending ++ ms) (no_move ∙ sym none))

  no-record : (turn : Turn O R A) → turn.made ≡ [] → records ≡ records ++ records_after fixed at turn.made
  no-record turn none = sym (append-nil records) ∙ ap (λ (ms : List (Move O R)). records ++ records_after fixed at ms) (sym none)

  -- the item is here
  pub one-here : (commit : ℕ) → ReceivesMore fixed item old new (Still (machine.Here commit)) → HasArrived fixed item old new (Ok (got.Here commit)) records records
  one-here commit is =
      let (turn, received, turns, made) = is.answers in
      let none : turn.made ≡ [] = ap (λ (u : Turn O R A). u.made) turns in
      record {
        turn = turn;
        received = received;
        told = record { turns = turns; history = ap (λ (ms : List (Move O R)). at ++ ms) none ∙ append-nil at; counted = tt };
        pending = pends-still turn none is.made made is.pending is.rest;
        are = no-record turn none;
      }

  -- it is new
  pub one-new : (commit moves : ℕ) (r : Record) → ReceivesMore fixed item old new (Made (machine.New commit) moves) → HasLastRecord fixed old new (arrived.New commit moves r) → HasArrived fixed item old new (Ok (got.New commit moves)) records (records ++ r ∷ [])
  one-new commit moves r is (m, pends, noted) =
      let (turn, received, turns, made) = is.answers in
      let longer : new.pending ≡ old.pending ++ turn.made = is.pending ∙ ap (λ (ms : List (Move O R)). old.pending ++ ms) made in
      let one : turn.made ≡ m ∷ [] = append_cancel_left old.pending turn.made (m ∷ []) (sym longer ∙ pends) in
      let all : new.written ++ new.pending ≡ at ++ turn.made =
      ap (λ (v : RecordedView (Move O R)). v.written ++ new.pending) is.rest ∙ ap (λ (ms : List (Move O R)). old.written ++ ms) longer ∙ sym (append_assoc old.written old.pending turn.made) in
      record {
        turn = turn;
        received = received;
        told = record { turns = turns; history = refl; counted = subst (λ (l : List (Move O R)). (moves ≡ length l) × (length l ≤ 2 ^ 48)) all is.counted };
        pending = is.rest ∙ ap (λ (ms : List (Move O R)). record old { pending = ms }) longer;
        are = ap (λ (x : Record). records ++ x ∷ []) noted ∙ ap (λ (ms : List (Move O R)). records ++ records_after fixed at ms) (sym one);
      }

  -- it is refused
  refused-by : (why : machine.Refusal) (x : ReceiveRefused) → receive_answer {A = A} {R = R} (Err x) ≡ Refused why → ReceivesMore fixed item old new (Refused why) → HasArrived fixed item old new (Err x) records records
  refused-by why x same is =
      let (turn, received, turns, made) = is.answers in
      let none : turn.made ≡ [] = ap (λ (u : Turn O R A). u.made) turns in
      record {
        turn = turn;
        received = received;
        told = (why, same, turns);
        pending = pends-still turn none is.made made is.pending is.rest;
        are = no-record turn none;
      }

  pub one-refused : (number : ℕ) (e : ReceiveRefusedBelow) → e ≢ below.Memory → ReceivesMore fixed item old new (recorded.item_refused e) → HasArrived fixed item old new (Err (item_refused number e)) records records
  one-refused number below.BadBundle not is = refused-by machine.BadBundle (refusal.BadBundle number) refl is
  one-refused number below.OwnOrigin not is = refused-by machine.OwnOrigin (refusal.OwnOrigin number) refl is
  one-refused number (below.TimeClash commit) not is = refused-by (machine.TimeClash commit) (refusal.TimeClash number commit) refl is
  one-refused number (below.Exhausted clock) not is = refused-by (machine.Exhausted clock) (refusal.Exhausted clock) refl is
  one-refused number (below.ValueTooLarge size) not is = refused-by (machine.ValueTooLarge size) (refusal.ValueTooLarge size) refl is
  one-refused number (below.FullCommits count) not is = refused-by (machine.FullCommits count) (refusal.FullCommits count) refl is
  one-refused number (below.FullMoves count) not is = refused-by (machine.FullMoves count) (refusal.FullMoves count) refl is
  one-refused number (below.Collision address stored fresh) not is = refused-by (machine.Collision address stored fresh) (refusal.Collision address stored fresh) refl is
  one-refused number below.Memory not is = absurd (not refl)

module _ {O R A : Type 0} where
  -- an item of which it is told what became of it was taken
  got-taken : (before after : List (Move O R)) (t : Turn O R A) (g : Got) → Takes t before after (receive_answer (Ok g)) → IsTaken t
  got-taken before after t (got.Here commit) is = (commit, inl (ap (λ (u : Turn O R A). u.outcome) is.turns))
  got-taken before after t (got.New commit moves) is = (commit, inr (ap (λ (u : Turn O R A). u.outcome) is.turns.1))

  pub told-taken : (history : List (Move O R)) (turns : List (Turn O R A)) (gots : List Got) → TellsTurns history turns gots None → AllByRecursion IsTaken turns
  told-taken history turns [] is = subst (λ (l : List (Turn O R A)). AllByRecursion IsTaken l) (sym is) tt
  told-taken history [] (g ∷ gots) is = absurd is
  told-taken history (t ∷ turns) (g ∷ gots) is = (got-taken history (history ++ t.made) t g is.0, told-taken (history ++ t.made) turns gots is.1)

  -- one more is told of
  tells-more : (history : List (Move O R)) (turns : List (Turn O R A)) (gots : List Got) (t : Turn O R A) (g : Got) → TellsTurns history turns gots None → ToldOf (history ++ made_by turns) t (Ok g) → TellsTurns history (turns ++ t ∷ []) (gots ++ g ∷ []) None
  tells-more history turns [] t g is one =
      let same : history ++ made_by turns ≡ history = ap (λ (l : List (Turn O R A)). history ++ made_by l) is ∙ append-nil history in
      subst (λ (l : List (Turn O R A)). TellsTurns history (l ++ t ∷ []) (g ∷ []) None) (sym is) (subst (λ (h : List (Move O R)). ToldOf h t (Ok g)) same one, refl)
  tells-more history [] (x ∷ gots) t g is one = absurd is
  tells-more history (u ∷ turns) (x ∷ gots) t g is one =
      (is.0, tells-more (history ++ u.made) turns gots t g is.1 (subst (λ (h : List (Move O R)). ToldOf h t (Ok g)) (sym (append_assoc history u.made (made_by turns))) one))

  -- or why it was refused
  tells-stop : (history : List (Move O R)) (turns : List (Turn O R A)) (gots : List Got) (t : Turn O R A) (e : ReceiveRefused) → TellsTurns history turns gots None → RefusedBy t e → TellsTurns history (turns ++ t ∷ []) gots (Some e)
  tells-stop history turns [] t e is one = (t, ap (λ (l : List (Turn O R A)). l ++ t ∷ []) is, one)
  tells-stop history [] (x ∷ gots) t e is one = absurd is
  tells-stop history (u ∷ turns) (x ∷ gots) t e is one = (is.0, tells-stop (history ++ u.made) turns gots t e is.1 one)

  pub told-refused : (t : Turn O R A) (e : ReceiveRefused) → RefusedBy t e → ¬ IsTaken t
  told-refused t e (r, same, is) = refused-not-taken t r (ap (λ (u : Turn O R A). u.outcome) is)

-- the first items, and one behind them
pub first-more : (items : List Item) (i : ℕ) (item other : Item) → i < length items → item ≡ get_or items i other → map pair_of (take (i + 1) items) ≡ map pair_of (take i items) ++ pair_of item ∷ []
first-more items i item other inside is =
    ap (map pair_of) (take_more items i other inside) ∙ map-append pair_of (take i items) (get_or items i other ∷ [])
    ∙ ap (λ (x : Item). map pair_of (take i items) ++ pair_of x ∷ []) (sym is)

pub all-parts : (items : List Item) (i : ℕ) (item other : Item) → i < length items → item ≡ get_or items i other → map pair_of (take i items) ++ pair_of item ∷ map pair_of (drop (suc i) items) ≡ map pair_of items
all-parts items i item other inside is =
    let behind : drop i items ≡ item ∷ drop (suc i) items = drop-cons items i other inside ∙ ap (λ (x : Item). x ∷ drop (suc i) items) (sym is) in
    ap (λ (l : List Item). map pair_of (take i items) ++ map pair_of l) (sym behind) ∙ sym (map-append pair_of (take i items) (drop i items)) ∙ ap (map pair_of) (take-append-drop i items)

module _ {S O R Q A : Type 0} (meaning : Meaning S O R Q A) (address : List ℕ → List ℕ) (old : RecordedView (Move O R)) where
  abbrev fixed : Fixed S O R Q A
  fixed = fix meaning old.terms address

  -- an item behind those that have arrived
  module _ (items : List Pair) (item : Pair) (mid new : RecordedView (Move O R)) (gots : List Got) (answer : Result Got ReceiveRefused) (records notes : List Record) (before : HaveArrived fixed items old mid gots None records)
      (one : HasArrived (fix meaning mid.terms address) item mid new answer records notes) where
    abbrev here : RecordedView (Move O R)
    here = record old { pending = made_by before.turns }

    arrives : HasArrived fixed item here new answer records notes
    arrives = subst (λ (x : RecordedView (Move O R)). HasArrived (fix meaning x.terms address) item x new answer records notes) before.pending one

    abbrev turns : List (Turn O R A)
    turns = before.turns ++ arrives.turn ∷ []

    whole : made_by turns ≡ made_by before.turns ++ arrives.turn.made
    whole = made-more before.turns arrives.turn

    pending : new ≡ record old { pending = made_by turns }
    pending = arrives.pending ∙ ap (λ (ms : List (Move O R)). record old { pending = ms }) (sym whole)

    are : notes ≡ records_after fixed old.written (made_by turns)
    are =
        arrives.are ∙ ap (λ (l : List Record). l ++ records_after fixed (old.written ++ made_by before.turns) arrives.turn.made) before.are
        ∙ sym (after-both fixed old.written (made_by before.turns) arrives.turn.made) ∙ ap (records_after fixed old.written) (sym whole)

    taken : AllByRecursion IsTaken before.turns
    taken = told-taken old.written before.turns gots before.told

    -- one more was taken
    pub arrived-next : (g : Got) → answer ≡ Ok g → HaveArrived fixed (items ++ item ∷ []) old new (gots ++ g ∷ []) None notes
    arrived-next g is =
        let told : ToldOf (old.written ++ made_by before.turns) arrives.turn (Ok g) = subst (λ (x : Result Got ReceiveRefused). ToldOf (old.written ++ made_by before.turns) arrives.turn x) is arrives.told in
        record {
          turns = turns;
          received = received-more fixed old.written items before.turns before.received taken item [] arrives.turn arrives.received
              (inl (got-taken (old.written ++ made_by before.turns) ((old.written ++ made_by before.turns) ++ arrives.turn.made) arrives.turn g told, refl));
          told = tells-more old.written before.turns gots arrives.turn g before.told told;
          pending = pending;
          are = are;
        }

    -- or it is refused, and is the last
    pub arrived-last : (e : ReceiveRefused) → answer ≡ Err e → (rest : List Pair) → HaveArrived fixed (items ++ item ∷ rest) old new gots (Some e) notes
    arrived-last e is rest =
        let told : RefusedBy arrives.turn e = subst (λ (x : Result Got ReceiveRefused). ToldOf (old.written ++ made_by before.turns) arrives.turn x) is arrives.told in
        record {
          turns = turns;
          received = received-more fixed old.written items before.turns before.received taken item rest arrives.turn arrives.received (inr (told-refused arrives.turn e told));
          told = tells-stop old.written before.turns gots arrives.turn e before.told told;
          pending = pending;
          are = are;
        }
