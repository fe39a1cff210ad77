-- Each kind of atomic step keeps the rule, and tells what it tells.
use Rattle.std.proofs.lemmas.Bool.Decides.{nat_tests}
use Rattle.std.specs.Prelude.{cond, nat_lt, slice_index, slice_set}
use Rattle.std.proofs.Common.{◌≡◌, ℕ, ◌+◌, ◌%◌, ◌^◌, ◌<◌, ◌≤◌, List, [], ◌∷◌, ◌++◌, length, set, true, false, refl, sym, ap, ◌∙◌, subst, arith, length-append}
use mathlib.Core.Option.{some}
use mathlib.Core.List.{IsPrefix}
use lib.ListN.{get_elem?}
use Rattle.atomic_table.specs.Table.{State, Me, keeps, Allows, Splits, Joins}
use Rattle.atomic_table.proofs.Lists.{set_again, set_else}
use Rattle.branch_front.specs.declared.seat_view.SeatView.{SeatView}
use Rattle.branch_front.specs.declared.rule.Counts.{Counts}
use Rattle.branch_front.specs.SeatViews.{spent, with_entry, idle_writer, taken_over, less_parts, newcomer, with_caller, together, adopted}
use Rattle.std.specs.List.{AllByRecursion}
use Rattle.branch_front.specs.Lists.{longer, shorter, RisesWithin, total, times, once_within, AreSomeWithin, AreAllWithin}
use Rattle.branch_front.specs.Rules.{Fits, Seated, CountsOneHistory, Added, WriterLooked, CallerLooked}
use Rattle.branch_front.proofs.Prefixes.{prefix_self, prefix_none, prefix_more, prefix_trans, prefix_length, prefix_shorter}
use Rattle.branch_front.proofs.Totals.{total_set, total_snoc, total_at, total_alone}
use Rattle.branch_front.proofs.Rising.{rises_further, rises_on, rises_behind, rises-append}
use Rattle.branch_front.proofs.Claims.{times-none, times-more, times-together, times-taken, times-adopted, once-more, once-least, length-more, length-together, length-taken, length-adopted}
use Rattle.branch_front.proofs.Keeps.{there, fits_spent, as_writer, writer_changes, caller_changes, caller_comes}

abbrev Table : Type 0 → Type 0
Table M = State (Unit {0}) (SeatView M)

abbrev Seat : Type 0 → Type 0
Seat M = Me (Unit {0}) (SeatView M)

abbrev Holds : {M : Type 0} → Counts → Table M → Type 0
Holds counts table = CountsOneHistory counts table.words table.views

next_word : (words : List ℕ) (n m : ℕ) → words ≡ n ∷ [] → m ≡ n + 1 → m < 2 ^ 64 → slice_set words 0 ((slice_index words 0 + 1) % 2 ^ 64) ≡ m ∷ []
next_word words n m is next small =
    let P : List ℕ → Type 0 = λ ws. slice_set ws 0 ((slice_index ws 0 + 1) % 2 ^ 64) ≡ m ∷ [] in
    let rolls : (n + 1) % 2 ^ 64 ≡ m = omega arith in
    subst P (sym is) (ap (λ (x : ℕ). x ∷ []) rolls)

same_word : (words : List ℕ) (n : ℕ) → words ≡ n ∷ [] → slice_set words 0 (slice_index words 0) ≡ n ∷ []
same_word words n is = let P : List ℕ → Type 0 = λ ws. slice_set ws 0 (slice_index ws 0) ≡ n ∷ [] in subst P (sym is) refl

found_word : (words : List ℕ) (n : ℕ) → words ≡ n ∷ [] → slice_index words 0 ≡ n
found_word words n is = ap (λ ws. slice_index ws 0) is

module _ {M : Type 0} where
  -- a load that changes no view keeps the rule
  stays : (counts : Counts) (id : ℕ) (v : SeatView M) (table : Table M) → Holds counts table → get_elem? table.views id ≡ some v
      → Holds counts record { words = slice_set table.words 0 (slice_index table.words 0); homes = table.homes; views = set table.views id v }
  stays counts id v table rule at =
      let P : List (SeatView M) → Type 0 = λ views. CountsOneHistory counts (slice_set table.words 0 (slice_index table.words 0)) views in
      subst P (sym (set_again table.views id v at))
      record { seat = rule.seat; writer = rule.writer; seated = rule.seated; word = same_word table.words (counts.begun + length rule.writer.moves) rule.word; parts = rule.parts; receipts = rule.receipts; claims = rule.claims }

  -- a view with no part claims nothing
  unclaimed : (begun n : ℕ) (writer v : SeatView M) → Fits begun writer v → v.parts ≡ 0 → times n (v.mine ++ v.others) ≡ 0
  unclaimed begun n writer v fits none = times-none n (v.mine ++ v.others) (sym fits.counted ∙ fits.idle none)

  -- no view claims more than all do
  claims_some : (first last : ℕ) (views : List (SeatView M)) (id : ℕ) (v : SeatView M) → get_elem? views id ≡ some v → ((n : ℕ) → total (λ u. times n (u.mine ++ u.others)) views ≡ once_within first last n)
      → AreSomeWithin first (v.mine ++ v.others) last
  claims_some first last views id v at all n = let most = total_at (λ u. times n (u.mine ++ u.others)) views id v at in let sum = all n in omega arith

  -- the writer's view fits itself after an entry too
  entry_fits : (begun : ℕ) (entry : List M) (v : SeatView M) → 0 < v.parts → length entry ≡ 1 → Fits begun v v → Fits begun (with_entry entry begun v) (with_entry entry begun v)
  entry_fits begun entry v part one fits =
      let long = length-append v.moves entry in record {
        moves = prefix_self (v.moves ++ entry);
        faults = omega arith;
        mine = rises_on begun v.mine (begun + length v.moves) (begun + length (v.moves ++ entry)) fits.mine (omega arith);
        counted = let more = length-more (begun + length (v.moves ++ entry)) v.mine v.others in omega (arith, fits.counted);
        idle = λ none. absurd (omega arith);
        heard = prefix_trans v.heard v.moves (v.moves ++ entry) fits.heard (prefix_more v.moves entry);
        heard_faults = fits.heard_faults;
      }

  pub adds : (counts : Counts) (slots id : ℕ) (me : Seat M) (entry : List M) (begun : ℕ)
      → me.0.writes ≡ true → 0 < me.0.parts → length entry ≡ 1 → begun ≡ counts.begun → counts.begun + length me.0.moves + 1 < 2 ^ 64
      → Allows (Holds counts) slots id me 0 (λ n. (n + 1) % 2 ^ 64) (λ n w. (w.1 ≡ me.1) × Added entry begun me.0 n w.0)
  adds counts slots id me entry begun writes part one is room table rule no_slots at below =
      let v : SeatView M = me.0 in
      let w : SeatView M = with_entry entry counts.begun v in
      let own = as_writer counts table.words table.views id v rule at writes in
      let fits = own.seated.each id v at in
      let long = length-append v.moves entry in
      let parts_same = total_set (λ u. u.parts) table.views id v w at in
      let receipts_more = total_set (λ u. u.receipts) table.views id v w at in
      let next : ℕ = counts.begun + length (v.moves ++ entry) in
      let claimed : (n : ℕ) → total (λ u. times n (u.mine ++ u.others)) (set table.views id w) ≡ once_within counts.begun next n = λ n.
      let claims_more = total_set (λ u. times n (u.mine ++ u.others)) table.views id v w at in
      let mine_more = times-more n next v.mine v.others in
      let all_more = once-more counts.begun (counts.begun + length v.moves) next n (omega arith) (omega arith) in
      let old = own.claims n in
      omega arith
      in
      let landed = entry_fits counts.begun entry v part one fits in
      let found = found_word table.words (counts.begun + length v.moves) own.word in
      let lands : counts.begun + length (v.moves ++ entry) ≡ slice_index table.words 0 + 1 = omega arith in (
        w,
        keeps,
        tt,
        record {
          seat = id;
          writer = w;
          seated = writer_changes counts.begun id v w table.views own.seated writes record { moves = prefix_more v.moves entry; faults = omega arith } landed;
          word = next_word table.words (counts.begun + length v.moves) (counts.begun + length (v.moves ++ entry)) own.word (omega arith) (omega arith);
          parts = omega (arith, own.parts);
          receipts = omega (arith, own.receipts);
          claims = claimed;
        },
        (
          refl,
          subst (λ (n : ℕ). Added entry n v (slice_index table.words 0) w) (sym is) record {
            word = found;
            after = refl;
            mine = subst (RisesWithin counts.begun w.mine) lands landed.mine;
            claims = subst (AreSomeWithin counts.begun (w.mine ++ w.others)) lands (claims_some counts.begun next (set table.views id w) id w (there table.views id v w at) claimed);
          },
        ),
      )

  pub writer_looks : (counts : Counts) (slots id : ℕ) (me : Seat M) (begun parts faults : ℕ) → me.0.writes ≡ true → begun ≡ counts.begun → parts ≡ counts.parts → me.0.faults ≤ faults
      → Allows (Holds counts) slots id me 0 (λ n. n) (λ n w. (w.1 ≡ me.1) × WriterLooked begun parts faults me.0 n w.0)
  writer_looks counts slots id me begun parts faults writes is are rise table rule no_slots at below =
      let v : SeatView M = me.0 in
      let w : SeatView M = record v { faults = faults } in
      let own = as_writer counts table.words table.views id v rule at writes in
      let fits = own.seated.each id v at in
      let parts_same = total_set (λ u. u.parts) table.views id v w at in
      let receipts_same = total_set (λ u. u.receipts) table.views id v w at in
      let all_claims : v.parts ≡ counts.parts → AreAllWithin counts.begun (v.mine ++ v.others) (counts.begun + length v.moves) = λ every n.
      sym (total_alone (λ u. times n (u.mine ++ u.others)) (λ u. u.parts) table.views id v (λ j u e. unclaimed counts.begun n v u (own.seated.each j u e)) at (own.parts ∙ sym every)) ∙ own.claims n
      in (
        w,
        keeps,
        tt,
        record {
          seat = id;
          writer = w;
          seated = writer_changes counts.begun id v w table.views own.seated writes record { moves = prefix_self v.moves; faults = rise }
              record { moves = fits.moves; faults = omega arith; mine = fits.mine; counted = fits.counted; idle = fits.idle; heard = fits.heard; heard_faults = omega (arith, fits.heard_faults) };
          word = same_word table.words (counts.begun + length v.moves) own.word;
          parts = omega (arith, own.parts);
          receipts = omega (arith, own.receipts);
          claims = λ n. let same = total_set (λ u. times n (u.mine ++ u.others)) table.views id v w at in let all = own.claims n in omega arith;
        },
        (
          refl,
          record {
            after = refl;
            word = found_word table.words (counts.begun + length v.moves) own.word ∙ ap (λ (n : ℕ). n + length v.moves) (sym is);
            heard = fits.heard;
            heard_faults = fits.heard_faults;
            mine = subst (λ (n : ℕ). RisesWithin n v.mine (n + length v.moves)) (sym is) fits.mine;
            receipts = omega (arith, total_at (λ u. u.receipts) table.views id v at, own.receipts);
            all = λ all. sym (total_alone (λ u. u.receipts) (λ u. u.parts) table.views id v (λ j u e. (own.seated.each j u e).idle) at (own.parts ∙ (sym are ∙ sym all))) ∙ own.receipts;
            counted = fits.counted;
            claims = subst (λ (n : ℕ). AreSomeWithin n (v.mine ++ v.others) (n + length v.moves)) (sym is) (claims_some counts.begun (counts.begun + length v.moves) table.views id v at own.claims);
            every = λ all. subst (λ (n : ℕ). AreAllWithin n (v.mine ++ v.others) (n + length v.moves)) (sym is) (all_claims (all ∙ are));
          },
        ),
      )

  pub caller_looks : (counts : Counts) (slots id : ℕ) (me : Seat M) → Allows (Holds counts) slots id me 0 (λ n. n) (λ n w. (w.1 ≡ me.1) × CallerLooked me.0 n w.0)
  caller_looks counts slots id me table rule no_slots at below =
      let v : SeatView M = me.0 in
      let fits = rule.seated.each id v at in
      let found = found_word table.words (counts.begun + length rule.writer.moves) rule.word in (
        v,
        keeps,
        tt,
        stays counts id v table rule at,
        (
          refl,
          record {
            after = refl;
            heard = λ le. prefix_shorter v.heard v.moves rule.writer.moves fits.heard fits.moves le;
            receipts = omega (arith, found, total_at (λ u. u.receipts) table.views id v at, rule.receipts);
            claims = λ n.
                let some_claims = claims_some counts.begun (counts.begun + length rule.writer.moves) table.views id v at rule.claims n in
                let one = once-least counts.begun (counts.begun + length rule.writer.moves) n in
                omega arith;
          },
        ),
      )

  pub gives_over : (counts : Counts) (id : ℕ) (v : SeatView M) → v.writes ≡ true → Splits (Holds counts) id v (idle_writer v) (taken_over v)
  gives_over counts id v writes table rule at =
      let w : SeatView M = idle_writer v in
      let own = as_writer counts table.words table.views id v rule at writes in
      let fits = own.seated.each id v at in
      let left : Seated counts.begun id w (set table.views id w) = writer_changes counts.begun id v w table.views own.seated writes record { moves = prefix_self v.moves; faults = omega arith }
      record { moves = fits.moves; faults = omega arith; mine = omega arith; counted = refl; idle = λ _. refl; heard = fits.heard; heard_faults = fits.heard_faults } in
      let parts_left = total_set (λ u. u.parts) table.views id v w at in
      let parts_right = total_snoc (λ u. u.parts) (set table.views id w) (taken_over v) in
      let receipts_left = total_set (λ u. u.receipts) table.views id v w at in
      let receipts_right = total_snoc (λ u. u.receipts) (set table.views id w) (taken_over v) in
      record {
        seat = id;
        writer = w;
        seated = caller_comes counts.begun id w (taken_over v) (set table.views id w) left refl
            record { moves = fits.moves; faults = fits.faults; mine = fits.mine; counted = fits.counted; idle = fits.idle; heard = fits.heard; heard_faults = fits.heard_faults };
        word = own.word;
        parts = omega (arith, own.parts);
        receipts = omega (arith, own.receipts);
        claims = λ n.
            let left = total_set (λ u. times n (u.mine ++ u.others)) table.views id v w at in
            let right = total_snoc (λ u. times n (u.mine ++ u.others)) (set table.views id w) (taken_over v) in
            let all = own.claims n in
            omega arith;
      }

  pub splits_off : (counts : Counts) (id : ℕ) (v : SeatView M) (n : ℕ) → v.writes ≡ false → n < v.parts → Splits (Holds counts) id v (less_parts n v) (newcomer n v)
  splits_off counts id v n calls some_left table rule at =
      let w : SeatView M = less_parts n v in
      let fits = rule.seated.each id v at in
      let left : Seated counts.begun rule.seat rule.writer (set table.views id w) = caller_changes counts.begun rule.seat id rule.writer v w table.views rule.seated at calls calls
      record { moves = fits.moves; faults = fits.faults; mine = fits.mine; counted = fits.counted; idle = λ none. absurd (omega arith); heard = fits.heard; heard_faults = fits.heard_faults } in
      let parts_left = total_set (λ u. u.parts) table.views id v w at in
      let parts_right = total_snoc (λ u. u.parts) (set table.views id w) (newcomer n v) in
      let receipts_left = total_set (λ u. u.receipts) table.views id v w at in
      let receipts_right = total_snoc (λ u. u.receipts) (set table.views id w) (newcomer n v) in
      record {
        seat = rule.seat;
        writer = rule.writer;
        seated = caller_comes counts.begun rule.seat rule.writer (newcomer n v) (set table.views id w) left refl
            record { moves = fits.moves; faults = fits.faults; mine = omega arith; counted = refl; idle = λ _. refl; heard = prefix_none rule.writer.moves; heard_faults = omega arith };
        word = rule.word;
        parts = omega (arith, rule.parts);
        receipts = omega (arith, rule.receipts);
        claims = λ k.
            let left = total_set (λ u. times k (u.mine ++ u.others)) table.views id v w at in
            let right = total_snoc (λ u. times k (u.mine ++ u.others)) (set table.views id w) (newcomer n v) in
            let all = rule.claims k in
            omega arith;
      }

  -- what stands at another place before a view is set
  elsewhere : (views : List (SeatView M)) (id other : ℕ) (b w : SeatView M) → ¬ (other ≡ id) → get_elem? (set views id b) other ≡ some w → get_elem? views other ≡ some w
  elsewhere views id other b w apart e = sym (set_else views id other b apart) ∙ e

  pub into_writer : (counts : Counts) (id : ℕ) (v : SeatView M) (other : ℕ) (w : SeatView M) → v.writes ≡ true → w.writes ≡ false → Joins (Holds counts) id v other w (with_caller v w) spent
  into_writer counts id v other w writes calls table rule at apart e =
      let both : SeatView M = with_caller v w in
      let own = as_writer counts table.words table.views id v rule at writes in
      let fits = own.seated.each id v at in
      let theirs = own.seated.each other w (elsewhere table.views id other both w apart e) in
      let joined : Seated counts.begun id both (set table.views id both) = writer_changes counts.begun id v both table.views own.seated writes record { moves = prefix_self v.moves; faults = omega arith }
      record {
        moves = fits.moves;
        faults = omega arith;
        mine = rises_further counts.begun w.mine (counts.begun + length w.moves) (counts.begun + length v.moves) theirs.mine (omega (arith, prefix_length w.moves v.moves theirs.moves));
        counted = let long = length-taken v.mine v.others w.mine w.others in omega (arith, fits.counted, theirs.counted);
        idle = λ none. omega (arith, fits.idle (omega arith), theirs.idle (omega arith));
        heard = theirs.moves;
        heard_faults = theirs.faults;
      } in
      let parts_both = total_set (λ u. u.parts) table.views id v both at in
      let parts_spent = total_set (λ u. u.parts) (set table.views id both) other w spent e in
      let receipts_both = total_set (λ u. u.receipts) table.views id v both at in
      let receipts_spent = total_set (λ u. u.receipts) (set table.views id both) other w spent e in
      record {
        seat = id;
        writer = both;
        seated = caller_changes counts.begun id other both w spent (set table.views id both) joined e calls refl (fits_spent counts.begun both);
        word = own.word;
        parts = omega (arith, own.parts);
        receipts = omega (arith, own.receipts);
        claims = λ n.
            let gain = total_set (λ u. times n (u.mine ++ u.others)) table.views id v both at in
            let loss = total_set (λ u. times n (u.mine ++ u.others)) (set table.views id both) other w spent e in
            let sum = times-taken n v.mine v.others w.mine w.others in
            let all = own.claims n in
            omega arith;
      }

  longer_begins : (log xs ys : List M) → IsPrefix xs log → IsPrefix ys log → IsPrefix (longer xs ys) log
  longer_begins log xs ys p q = elim (nat_lt (length xs) (length ys)) as (λ b. IsPrefix (cond b ys xs) log) [ true ↦ q | false ↦ p ]

  shorter_begins : (log xs ys : List M) → IsPrefix xs log → IsPrefix ys log → IsPrefix (shorter xs ys) log
  shorter_begins log xs ys p q = elim (nat_lt (length xs) (length ys)) as (λ b. IsPrefix (cond b xs ys) log) [ true ↦ p | false ↦ q ]

  longer_least : (xs ys : List M) → length xs ≤ length (longer xs ys)
  longer_least xs ys = grind (arith, nat_tests)

  longer_least' : (xs ys : List M) → length ys ≤ length (longer xs ys)
  longer_least' xs ys = grind (arith, nat_tests)

  pub into_caller : (counts : Counts) (id : ℕ) (v : SeatView M) (other : ℕ) (w : SeatView M) → v.writes ≡ false → w.writes ≡ false → Joins (Holds counts) id v other w (together v w) spent
  into_caller counts id v other w calls calls' table rule at apart e =
      let both : SeatView M = together v w in
      let fits = rule.seated.each id v at in
      let theirs = rule.seated.each other w (elsewhere table.views id other both w apart e) in
      let joined : Seated counts.begun rule.seat rule.writer (set table.views id both) = caller_changes counts.begun rule.seat id rule.writer v both table.views rule.seated at calls calls
      record {
        moves = longer_begins rule.writer.moves v.moves w.moves fits.moves theirs.moves;
        faults = omega (arith, fits.faults, theirs.faults);
        mine = rises_further counts.begun v.mine (counts.begun + length v.moves) (counts.begun + length (longer v.moves w.moves)) fits.mine (omega (arith, longer_least v.moves w.moves));
        counted = let long = length-together v.mine v.others w.mine w.others in omega (arith, fits.counted, theirs.counted);
        idle = λ none. omega (arith, fits.idle (omega arith), theirs.idle (omega arith));
        heard = shorter_begins rule.writer.moves v.moves w.moves fits.moves theirs.moves;
        heard_faults = fits.heard_faults;
      } in
      let parts_both = total_set (λ u. u.parts) table.views id v both at in
      let parts_spent = total_set (λ u. u.parts) (set table.views id both) other w spent e in
      let receipts_both = total_set (λ u. u.receipts) table.views id v both at in
      let receipts_spent = total_set (λ u. u.receipts) (set table.views id both) other w spent e in
      record {
        seat = rule.seat;
        writer = rule.writer;
        seated = caller_changes counts.begun rule.seat other rule.writer w spent (set table.views id both) joined e calls' refl (fits_spent counts.begun rule.writer);
        word = rule.word;
        parts = omega (arith, rule.parts);
        receipts = omega (arith, rule.receipts);
        claims = λ n.
            let gain = total_set (λ u. times n (u.mine ++ u.others)) table.views id v both at in
            let loss = total_set (λ u. times n (u.mine ++ u.others)) (set table.views id both) other w spent e in
            let sum = times-together n v.mine v.others w.mine w.others in
            let all = rule.claims n in
            omega arith;
      }

  pub into_owner : (counts : Counts) (id : ℕ) (v : SeatView M) (other : ℕ) (w : SeatView M) → v.writes ≡ false → w.writes ≡ false → AllByRecursion (λ n. counts.begun + length v.moves < n) w.mine → Joins (Holds counts) id v other w (adopted v w) spent
  into_owner counts id v other w calls calls' behind table rule at apart e =
      let both : SeatView M = adopted v w in
      let fits = rule.seated.each id v at in
      let theirs = rule.seated.each other w (elsewhere table.views id other both w apart e) in
      let joined : Seated counts.begun rule.seat rule.writer (set table.views id both) = caller_changes counts.begun rule.seat id rule.writer v both table.views rule.seated at calls calls
      record {
        moves = longer_begins rule.writer.moves v.moves w.moves fits.moves theirs.moves;
        faults = omega (arith, fits.faults, theirs.faults);
        mine =
            let mid = counts.begun + length v.moves in
            let last = counts.begun + length (longer v.moves w.moves) in
            let theirs_further = rises_further counts.begun w.mine (counts.begun + length w.moves) last theirs.mine (omega (arith, longer_least' v.moves w.moves)) in
            rises-append counts.begun v.mine w.mine mid last fits.mine (rises_behind counts.begun w.mine last mid theirs_further behind (omega (arith, longer_least v.moves w.moves)));
        counted = let long = length-adopted v.mine v.others w.mine w.others in omega (arith, fits.counted, theirs.counted);
        idle = λ none. omega (arith, fits.idle (omega arith), theirs.idle (omega arith));
        heard = shorter_begins rule.writer.moves v.moves w.moves fits.moves theirs.moves;
        heard_faults = fits.heard_faults;
      } in
      let parts_both = total_set (λ u. u.parts) table.views id v both at in
      let parts_spent = total_set (λ u. u.parts) (set table.views id both) other w spent e in
      let receipts_both = total_set (λ u. u.receipts) table.views id v both at in
      let receipts_spent = total_set (λ u. u.receipts) (set table.views id both) other w spent e in
      record {
        seat = rule.seat;
        writer = rule.writer;
        seated = caller_changes counts.begun rule.seat other rule.writer w spent (set table.views id both) joined e calls' refl (fits_spent counts.begun rule.writer);
        word = rule.word;
        parts = omega (arith, rule.parts);
        receipts = omega (arith, rule.receipts);
        claims = λ n.
            let gain = total_set (λ u. times n (u.mine ++ u.others)) table.views id v both at in
            let loss = total_set (λ u. times n (u.mine ++ u.others)) (set table.views id both) other w spent e in
            let sum = times-adopted n v.mine v.others w.mine w.others in
            let all = rule.claims n in
            omega arith;
      }
