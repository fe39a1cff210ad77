-- Commits of two valid histories with the same objects: their parents are such too, and they see the same events.
use Rattle.std.proofs.Common.{zero, suc, ◌≡◌, ℕ, ◌<◌, ◌≤◌, ◌==◌, Bool, List, [], ◌∷◌, length, map, max, refl, ap, sym, ◌∙◌, arith, IsTrue, subst, Option, Some, None, ⊎_elim}
use Rattle.std.specs.List.{list_any, AllByRecursion}
use Rattle.std.proofs.lemmas.Bool.{eqb-true, or_cases, or_left, or_right}
use Rattle.mrdt_model.specs.declared.time.Time.{Time}
use Rattle.mrdt_model.specs.Times.{among}
use Rattle.mrdt_model.specs.Executions.{Event, times_of, IsSameEvent, AreSameEvent, HoldSameEvents}
use Rattle.mrdt_model.specs.Laws.{Meaning, KeepsLaws}
use Rattle.mrdt_model.proofs.SameEvents.{times-alike, same_back}
use Rattle.branch_wire.specs.Objects.{CommitFields}
use Rattle.branch_wire.specs.declared.action.Action.TheVariants as wire
use Rattle.branch_graph.specs.Graph.{parents_of, reaches, any_reaches}
use Rattle.branch_history.specs.declared.moves.Move.{Move}
use Rattle.branch_names.specs.declared.terms.Terms.{Terms}
use Rattle.branch_history.specs.Commits.{Commit, graph_of, clock_of, origin_of, event_of, greatest_clock, visible, visible_at_all}
use Rattle.branch_history.specs.Validity.{AreCommits}
use Rattle.branch_history.proofs.Lists.{any_at, any-more, same_truth, AllByRecursion-more, AllByRecursion-both}
use Rattle.branch_history.proofs.Reach.{reaches-step, reaches-self, reaches-at_most}
use Rattle.branch_history.proofs.Chosen.{chosen}
use Rattle.branch_history.proofs.Grown.{visible-chosen, visible_at_all-chosen}
use Rattle.branch_history.proofs.Kept.{IsKept}
use Rattle.branch_history.proofs.Histories.{visible-lawful}
use Rattle.branch_machine.specs.Fixed.{Fixed, fix}
use Rattle.branch_machine.specs.Objects.{Pair, commit_text, value_text, address_at, silent_action, action_of, pairs_of, store_after}
use Rattle.branch_machine.specs.Laws.{HasSize}
use Rattle.branch_machine.specs.Validity.{IsFullyValid}
use Rattle.branch_bundle_laws.proofs.Mapped.{all-mapped, any-mapped, map-agree, map-map}
use Rattle.branch_bundle_laws.proofs.Made.{IsOperationOn, IsMadeOn}
use Rattle.branch_bundle_laws.proofs.Behind.{fields_at}
use Rattle.branch_bundle_laws.proofs.Chosen.{HasSame, hold-chosen}
use Rattle.branch_machine.proofs.Distinct.{addresses-same}
use Rattle.branch_bundle_laws.proofs.Fields.{kept, sound, made, behind, fits, one-address, later-event, layouts-told, same-object}

-- a commit of the second pairs has the objects of one of the first
pub record IsAlike (ps qs : List Pair) (n k : ℕ) : Type 0 where
  pub there : k < length qs
  pub value : value_text ps n ≡ value_text qs k
  pub text : commit_text ps n ≡ commit_text qs k

-- a commit without an operation does none
silent-none : (ps : List ℕ) (o r : List ℕ) → silent_action ps ≡ wire.Operation o r → ⊥
silent-none [] o r is = cc
silent-none (p ∷ ps) o r is = cc

module _ {S O R Q A : Type 0} (meaning : Meaning S O R Q A) (laws : KeepsLaws meaning) (address : List ℕ → List ℕ) (size : HasSize address) (terms others : Terms) (moves more : List (Move O R)) (valid : IsFullyValid (fix meaning terms address) moves) (also : IsFullyValid (fix meaning others address) more) where
  abbrev one : Fixed S O R Q A
  one = fix meaning terms address

  abbrev other : Fixed S O R Q A
  other = fix meaning others address

  abbrev cs : List (Commit O R)
  cs = (store_after one moves).commits

  abbrev ds : List (Commit O R)
  ds = (store_after other more).commits

  abbrev ps : List Pair
  ps = pairs_of one cs

  abbrev qs : List Pair
  qs = pairs_of other ds

  abbrev g : List (List ℕ)
  g = graph_of cs

  abbrev h : List (List ℕ)
  h = graph_of ds

  kept-one : IsKept meaning terms (store_after one moves)
  kept-one = kept one laws size moves valid

  kept-other : IsKept meaning others (store_after other more)
  kept-other = kept other laws size more also

  module _ (D : ℕ → Type 0) (to : ℕ → ℕ) (inside : (n : ℕ) → D n → n < length cs) (down : (n : ℕ) → D n → AllByRecursion D (parents_of g n)) (alike : (n : ℕ) → D n → (to n < length ds) × IsAlike ps qs n (to n)) where
    -- different commits are mapped to different ones
    pub one-to : (n k : ℕ) → D n → D k → to n ≡ to k → n ≡ k
    one-to n k d e is = (sound one laws size moves valid).distinct n k (inside n d) (inside k e) ((alike n d).1.text ∙ ap (commit_text qs) is ∙ sym (alike k e).1.text)

    -- addresses stay
    pub addresses-to : (ns : List ℕ) → AllByRecursion D ns → map (address_at address ps) ns ≡ map (address_at address qs) (map to ns)
    addresses-to ns all = map-agree D (address_at address ps) (λ n. address_at address qs (to n)) (λ n d. ap address (alike n d).1.text) ns all ∙ sym (map-map (address_at address qs) to ns)

    pub within-to : (ns : List ℕ) → AllByRecursion D ns → AreCommits ds (map to ns)
    within-to ns all = all-mapped D (λ k. k < length ds) to (λ n d. (alike n d).0) ns all

    fields-same : (n : ℕ) → D n → fields_at one cs ps n ≡ fields_at other ds qs (to n)
    fields-same n d =
        let lt = inside n d in
        let less = (alike n d).0 in
        same-object (fields_at one cs ps n) (fields_at other ds qs (to n)) (fits one laws size moves valid n lt) (fits other laws size more also (to n) less)
        (sym (behind one laws size moves valid n lt).text ∙ (alike n d).1.text ∙ (behind other laws size more also (to n) less).text)

    -- a commit of both tells that they have one layout
    pub layout-to : (n : ℕ) → D n → terms.layout ≡ others.layout
    layout-to n d = layouts-told terms.layout others.layout (address (value_text ps n)) (address (value_text qs (to n))) (ap (λ (c : CommitFields). c.value) (fields-same n d))

    -- parents are mapped to parents
    pub parents-to : (n : ℕ) → D n → parents_of h (to n) ≡ map to (parents_of g n)
    parents-to n d =
        let less = (alike n d).0 in
        let below = AllByRecursion-more (λ k. k < to n) (λ k. k < length ds) (parents_of h (to n)) (λ k lt. omega (arith, less)) (kept-other.ordered.ranked (to n)) in
        addresses-same address qs (length ds) (one-address other laws size more also) (parents_of h (to n)) (map to (parents_of g n)) below (within-to (parents_of g n) (down n d))
        (sym (ap (λ (c : CommitFields). c.parents) (fields-same n d)) ∙ addresses-to (parents_of g n) (down n d))

    pub origin-to : (n : ℕ) → D n → origin_of cs n ≡ origin_of ds (to n)
    origin-to n d = ap (λ (c : CommitFields). c.branch) (fields-same n d)

    pub clock-to : (n : ℕ) → D n → clock_of cs n ≡ clock_of ds (to n)
    clock-to n d = ap (λ (c : CommitFields). c.clock) (fields-same n d)

    action-to : (n : ℕ) → D n → action_of one (parents_of g n) (event_of cs n) ≡ action_of other (parents_of h (to n)) (event_of ds (to n))
    action-to n d = ap (λ (c : CommitFields). c.action) (fields-same n d)

    pub greatest-to : (ns : List ℕ) → AllByRecursion D ns → greatest_clock cs ns ≡ greatest_clock ds (map to ns)
    greatest-to [] all = refl
    greatest-to (n ∷ ns) all = ap (λ k. max k (greatest_clock cs ns)) (clock-to n all.0) ∙ ap (λ k. max (clock_of ds (to n)) k) (greatest-to ns all.1)

    -- what is reached is mapped to what is reached
    down-to : (b n m : ℕ) → n < b → D n → IsTrue (reaches g n m) → D m × IsTrue (reaches h (to n) (to m))
    down-to zero n m lt d is = absurd (omega arith)
    down-to (suc b) n m lt d is =
        ⊎_elim
        (λ e.
        let same : n ≡ m = eqb-true n m e in
        (subst D same d, subst (λ (k : ℕ). IsTrue (reaches h (to n) (to k))) same (reaches-self h kept-other.ordered.ranked (to n))))
        (λ any.
        let all = AllByRecursion-both D (λ p. p < n) (parents_of g n) (down n d) (kept-one.ordered.ranked n) in
        let found = any_at (λ p. D p × (p < n)) (λ p. reaches g p m) (parents_of g n) all any in
        let less = found.1.1 in
        let first = down-to b found.0 m (omega arith) found.1.0 found.2 in
        let rest : IsTrue (list_any (λ p. reaches h (to p) (to m)) (parents_of g n)) =
        any-more (λ p. D p × (p < n)) (λ p. reaches g p m) (λ p. reaches h (to p) (to m)) (parents_of g n) all (λ p e reach. (let under = e.1 in (down-to b p m (omega arith) e.0 reach).1)) any in (
          first.0,
          reaches-step h kept-other.ordered.ranked (to n) (to m)
              ∙ or_right (to n == to m) (any_reaches h (parents_of h (to n)) (to m))
              (ap (λ (l : List ℕ). any_reaches h l (to m)) (parents-to n d) ∙ any-mapped D to (λ p. reaches h p (to m)) (λ p. reaches h (to p) (to m)) (λ p _. refl) (parents_of g n) (down n d) ∙ rest),
        ))
        (or_cases (n == m) (any_reaches g (parents_of g n) m) (sym (reaches-step g kept-one.ordered.ranked n m) ∙ is))

    pub reach-to : (n m : ℕ) → D n → IsTrue (reaches g n m) → D m × IsTrue (reaches h (to n) (to m))
    reach-to n m d is = down-to (suc n) n m (omega arith) d is

    -- and what is reached there is what is reached here
    pub record IsMapped (keep : ℕ → Bool) (j : ℕ) : Type 0 where
      pub number : ℕ
      pub is : to number ≡ j
      pub known : D number
      pub kept : IsTrue (keep number)

    mapped-any : (P : ℕ → Type 0) (f : ℕ → ℕ → Bool) (j : ℕ) (ns : List ℕ) → AllByRecursion P ns → ((p : ℕ) → P p → IsTrue (reaches h (to p) j) → IsMapped (f p) j) → IsTrue (list_any (λ p. reaches h (to p) j) ns) → IsMapped (λ m. list_any (λ p. f p m) ns) j
    mapped-any P f j [] all each any = absurd (cc)
    mapped-any P f j (n ∷ ns) all each any =
        ⊎_elim
        (λ e. let m = each n all.0 e in record { number = m.number; is = m.is; known = m.known; kept = or_left (f n m.number) (list_any (λ p. f p m.number) ns) m.kept })
        (λ rest. let m = mapped-any P f j ns all.1 each rest in record { number = m.number; is = m.is; known = m.known; kept = or_right (f n m.number) (list_any (λ p. f p m.number) ns) m.kept })
        (or_cases (reaches h (to n) j) (list_any (λ p. reaches h (to p) j) ns) any)

    any-to : (j : ℕ) (ns : List ℕ) → AllByRecursion D ns → any_reaches h (map to ns) j ≡ list_any (λ p. reaches h (to p) j) ns
    any-to j ns all = any-mapped D to (λ p. reaches h p j) (λ p. reaches h (to p) j) (λ p _. refl) ns all

    up-to : (b n j : ℕ) → n < b → D n → IsTrue (reaches h (to n) j) → IsMapped (reaches g n) j
    up-to zero n j lt d is = absurd (omega arith)
    up-to (suc b) n j lt d is =
        ⊎_elim
        (λ e. record { number = n; is = eqb-true (to n) j e; known = d; kept = reaches-self g kept-one.ordered.ranked n })
        (λ any.
        let all = AllByRecursion-both D (λ p. p < n) (parents_of g n) (down n d) (kept-one.ordered.ranked n) in
        let found : IsTrue (list_any (λ p. reaches h (to p) j) (parents_of g n)) = sym (any-to j (parents_of g n) (down n d)) ∙ ap (λ (l : List ℕ). any_reaches h l j) (sym (parents-to n d)) ∙ any in
        let m = mapped-any (λ p. D p × (p < n)) (λ p m. reaches g p m) j (parents_of g n) all (λ p e reach. (let under = e.1 in up-to b p j (omega arith) e.0 reach)) found in
        record { number = m.number; is = m.is; known = m.known; kept = reaches-step g kept-one.ordered.ranked n m.number ∙ or_right (n == m.number) (any_reaches g (parents_of g n) m.number) m.kept })
        (or_cases (to n == j) (any_reaches h (parents_of h (to n)) j) (sym (reaches-step h kept-other.ordered.ranked (to n) j) ∙ is))

    pub back-to : (n j : ℕ) → D n → IsTrue (reaches h (to n) j) → IsMapped (reaches g n) j
    back-to n j d is = up-to (suc n) n j (omega arith) d is

    pub reach-same : (n m : ℕ) → D n → D m → reaches h (to n) (to m) ≡ reaches g n m
    reach-same n m d e =
        same_truth (reaches h (to n) (to m)) (reaches g n m)
        (λ is. let b = back-to n (to m) d is in subst (λ (k : ℕ). IsTrue (reaches g n k)) (one-to b.number m b.known e b.is) b.kept)
        (λ is. (reach-to n m d is).1)

    -- the commit and the one that it is mapped to have the same event
    abbrev AreSame : ℕ → Type 0
    AreSame n = AreSameEvent (event_of cs n) (event_of ds (to n))

    has-same : (m : ℕ) (e : Event O R) (test : ℕ → Bool) → D m → IsTrue (test (to m)) → event_of cs m ≡ Some e → AreSame m → HasSame (event_of ds) test (length ds) e
    has-same m e test d kept is same = at (event_of ds (to m)) refl (subst (λ o. AreSameEvent o (event_of ds (to m))) is same)
      where
        at : (o : Option (Event O R)) → event_of ds (to m) ≡ o → AreSameEvent (Some e) o → HasSame (event_of ds) test (length ds) e
        at None there alike_e = absurd alike_e
        at (Some f) there alike_e = record { made = f; at = record { number = to m; below = (alike m d).0; kept = kept; is = there }; same = alike_e }

    same-has : (m : ℕ) (f : Event O R) (keep : ℕ → Bool) → D m → IsTrue (keep m) → event_of ds (to m) ≡ Some f → AreSame m → HasSame (event_of cs) keep (length cs) f
    same-has m f keep d kept is same = at (event_of cs m) refl (subst (λ o. AreSameEvent (event_of cs m) o) is same)
      where
        at : (o : Option (Event O R)) → event_of cs m ≡ o → AreSameEvent (event_of cs m) (Some f) → HasSame (event_of cs) keep (length cs) f
        at None there alike_f = absurd (subst (λ o. AreSameEvent o (Some f)) there alike_f)
        at (Some e) there alike_f = record { made = e; at = record { number = m; below = inside m d; kept = kept; is = there }; same = same_back e f (subst (λ o. AreSameEvent o (Some f)) there alike_f) }

    hold-kept : (keep test : ℕ → Bool) → ((m : ℕ) → IsTrue (keep m) → D m × IsTrue (test (to m))) → ((j : ℕ) → IsTrue (test j) → IsMapped keep j) → ((m : ℕ) → IsTrue (keep m) → D m → AreSame m)
        → HoldSameEvents (chosen (event_of cs) keep (length cs)) (chosen (event_of ds) test (length ds))
    hold-kept keep test there back same =
        hold-chosen (event_of cs) (event_of ds) keep test (length cs) (length ds) kept-one.distinct kept-other.distinct
        (λ e at. let to_m = there at.number at.kept in has-same at.number e test to_m.0 to_m.1 at.is (same at.number at.kept to_m.0))
        (λ f at.
        let m = back at.number at.kept in
        same-has m.number f keep m.known m.kept (ap (event_of ds) m.is ∙ at.is) (same m.number m.kept m.known))

    hold-under : (n : ℕ) → D n → ((m : ℕ) → m ≤ n → D m → AreSame m) → HoldSameEvents (visible cs n) (visible ds (to n))
    hold-under n d same =
        subst (λ y. HoldSameEvents (visible cs n) y) (sym (visible-chosen ds (to n)))
        (subst (λ x. HoldSameEvents x (chosen (event_of ds) (reaches h (to n)) (length ds))) (sym (visible-chosen cs n))
        (hold-kept (reaches g n) (reaches h (to n)) (λ m is. reach-to n m d is) (λ j is. back-to n j d is) (λ m is e. same m (reaches-at_most g kept-one.ordered.ranked n m is) e)))

    event-same : (n : ℕ) → D n → ((p : ℕ) → p < n → D p → HoldSameEvents (visible cs p) (visible ds (to p))) → AreSame n
    event-same n d hold = at (event_of cs n) refl (event_of ds (to n)) refl
      where
        both : (e f : Event O R) → event_of cs n ≡ Some e → event_of ds (to n) ≡ Some f → wire.Operation (meaning.op_spelling e.operation) (meaning.reply_spelling e.reply) ≡ wire.Operation (meaning.op_spelling f.operation) (meaning.reply_spelling f.reply) → IsSameEvent e f
        both e f is there acts =
            let ea = kept-one.events n e is in
            let fa = kept-other.events (to n) f there in
            let eo : IsOperationOn meaning terms.limits.value cs (parents_of g n) e = subst (λ o. IsMadeOn meaning terms.limits.value cs (parents_of g n) (clock_of cs n) o) is (made one laws size moves valid n (later-event one laws size moves valid n e is) (inside n d)) in
            let fo : IsOperationOn meaning others.limits.value ds (parents_of h (to n)) f = subst (λ o. IsMadeOn meaning others.limits.value ds (parents_of h (to n)) (clock_of ds (to n)) o) there (made other laws size more also (to n) (later-event other laws size more also (to n) f there) (alike n d).0) in
            let p : ℕ = ea.parent in
            let known : D p = (subst (AllByRecursion D) ea.parents (down n d)).0 in
            let less : p < n = (subst (AllByRecursion (λ k. k < n)) ea.parents (kept-one.ordered.ranked n)).0 in
            let lists : fa.parent ∷ [] ≡ to p ∷ [] = sym fa.parents ∙ parents-to n d ∙ ap (map to) ea.parents in
            let parent : fa.parent ≡ to p = cc lists in
            let one_lists : eo.parent ∷ [] ≡ p ∷ [] = sym eo.parents_are ∙ ea.parents in
            let one_parent : eo.parent ≡ p = cc one_lists in
            let other_lists : fo.parent ∷ [] ≡ to p ∷ [] = sym fo.parents_are ∙ fa.parents ∙ lists in
            let other_parent : fo.parent ≡ to p = cc other_lists in
            let same = hold p less known in
            let shows = laws.any_order (visible cs p) (visible ds (to p)) (visible-lawful meaning terms (store_after one moves) kept-one p) (visible-lawful meaning others (store_after other more) kept-other (to p)) same in
            let texts : meaning.op_spelling e.operation ≡ meaning.op_spelling f.operation = cc acts in
            let short = eo.short in
            let high = terms.limits.in_range.value_high in
            let ops : e.operation ≡ f.operation = laws.one_op e.operation f.operation eo.known fo.known (omega arith) texts in
            record {
              time = ea.time ∙ ap (λ k. record { clock = k; origin = origin_of cs n }) (clock-to n d) ∙ ap (λ k. record { clock = clock_of ds (to n); origin = k }) (origin-to n d) ∙ sym fa.time;
              operation = ops;
              reply = eo.replies ∙ ap (λ k. meaning.reply_of (visible cs k) e.operation) one_parent ∙ shows.replies e.operation ∙ ap (λ o. meaning.reply_of (visible ds (to p)) o) ops ∙ ap (λ k. meaning.reply_of (visible ds k) f.operation) (sym other_parent) ∙ sym fo.replies;
              seen = λ t. ap (λ (l : List Time). among l t) ea.seen ∙ times-alike (visible cs p) (visible ds (to p)) same t ∙ ap (λ k. among (times_of (visible ds k)) t) (sym parent) ∙ ap (λ (l : List Time). among l t) (sym fa.seen);
            }

        acted : (o p : Option (Event O R)) → event_of cs n ≡ o → event_of ds (to n) ≡ p → action_of one (parents_of g n) o ≡ action_of other (parents_of h (to n)) p
        acted o p is there = ap (action_of one (parents_of g n)) (sym is) ∙ action-to n d ∙ ap (action_of other (parents_of h (to n))) there

        by-cases : (o p : Option (Event O R)) → event_of cs n ≡ o → event_of ds (to n) ≡ p → action_of one (parents_of g n) o ≡ action_of other (parents_of h (to n)) p → AreSameEvent o p
        by-cases None None is there acts = tt
        by-cases None (Some f) is there acts = silent-none (parents_of g n) (meaning.op_spelling f.operation) (meaning.reply_spelling f.reply) acts
        by-cases (Some e) None is there acts = silent-none (parents_of h (to n)) (meaning.op_spelling e.operation) (meaning.reply_spelling e.reply) (sym acts)
        by-cases (Some e) (Some f) is there acts = both e f is there acts

        at : (o : Option (Event O R)) → event_of cs n ≡ o → (p : Option (Event O R)) → event_of ds (to n) ≡ p → AreSame n
        at o is p there = subst (λ q. AreSameEvent (event_of cs n) q) (sym there) (subst (λ q. AreSameEvent q p) (sym is) (by-cases o p is there (acted o p is there)))

    same-below : (b n : ℕ) → n < b → D n → AreSame n
    same-below zero n lt d = absurd (omega arith)
    same-below (suc b) n lt d = event-same n d (λ p less e. hold-under p e (λ m le k. same-below b m (omega arith) k))

    pub same-event : (n : ℕ) → D n → AreSame n
    same-event n d = same-below (suc n) n (omega arith) d

    -- they see the same events
    pub hold-same : (n : ℕ) → D n → HoldSameEvents (visible cs n) (visible ds (to n))
    hold-same n d = hold-under n d (λ m le e. same-event m e)

    -- and so do lists of them
    pub hold-all : (ns : List ℕ) → AllByRecursion D ns → HoldSameEvents (visible_at_all cs ns) (visible_at_all ds (map to ns))
    hold-all ns all =
        subst (λ y. HoldSameEvents (visible_at_all cs ns) y) (sym (visible_at_all-chosen ds (map to ns)))
        (subst (λ x. HoldSameEvents x (chosen (event_of ds) (any_reaches h (map to ns)) (length ds))) (sym (visible_at_all-chosen cs ns))
        (hold-kept (any_reaches g ns) (any_reaches h (map to ns)) there
        (λ j is. mapped-any D (λ p m. reaches g p m) j ns all (λ p d reach. back-to p j d reach) (sym (any-to j ns all) ∙ is)) (λ m is e. same-event m e)))
      where
        there : (m : ℕ) → IsTrue (any_reaches g ns m) → D m × IsTrue (any_reaches h (map to ns) (to m))
        there m is =
            let found = any_at D (λ p. reaches g p m) ns all is in
            ((reach-to found.0 m found.1 found.2).0, any-to (to m) ns all ∙ any-more D (λ p. reaches g p m) (λ p. reaches h (to p) (to m)) ns all (λ p d reach. (reach-to p m d reach).1) is)
