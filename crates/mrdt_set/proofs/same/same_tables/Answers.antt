use Rattle.std.proofs.Common.{rules, ◌≡◌, ◌<◌, ◌^◌, ◌∙◌, ◌∷◌, [], drop, ap, sym, subst, length, refl, ℕ}
use Rattle.std.proofs.lemmas.Bool.{both_ways}
use Rattle.std.specs.List.{flat_map}
use Rattle.keyed_slots.proofs.Places.{first_is, none_first, shorter}
use Rattle.mrdt_set.specs.Members.{member_spelling}
use Rattle.mrdt_set.proofs.Walked.{alike-more, alike-next, alike-end, alike-longer, spelled-next, lengths-alike}
use Rattle.mrdt_set.proofs.same.same_tables.Goals as goal

pub returns-then-size-clause-spelled : goal.returns-then-size-clause-spelled
returns-then-size-clause-spelled c same =
    let mine : c.size.result < 2 ^ 64 = search rules in
    let theirs : c.size-2.result < 2 ^ 64 = search rules in
    let fits = λ (n m : ℕ) (is : n ≡ m) (h : n < 2 ^ 64). subst (λ (k : ℕ). k < 2 ^ 64) is h in
    let long = lengths-alike c.args.table.now c.args.other.now (fits c.size.result (length c.args.table.now) c.size.ensures.size mine) (fits c.size-2.result (length c.args.other.now) c.size-2.ensures.size theirs) same in
    absurd (c.if-size.true (c.size.ensures.size ∙ long ∙ sym c.size-2.ensures.size))

pub loop-slot-init : goal.loop-slot-init
loop-slot-init c = record {
  before = [];
  mine = sym c.walk-walk.ensures.walk;
  other = sym c.walk-others.ensures.walk;
}

pub loop-slot-smaller : goal.loop-slot-smaller
loop-slot-smaller c = shorter c.loop-slot.walk c.skip.new.self c.in-Some.slot.now (sym c.in-Some.ensures) c.skip.ensures

pub returns-then-not-same_member-clause-same : goal.returns-then-not-same_member-clause-same
returns-then-not-same_member-clause-same c =
    let walk = c.loop-slot.walk in
    let others = c.loop-slot.others in
    let slot = c.in-Some.slot.now in
    let their = c.in-Some-first.theirs.now in
    let rest = first_is walk slot (sym c.in-Some.ensures) in
    let more = first_is others their (sym c.in-Some-first.ensures) in (
      λ no. absurd (cc no),
      λ same.
          let parts = alike-next c.args.table.now c.args.other.now walk others (drop 1 walk) (drop 1 others) slot their c.loop-slot.invariant rest more same in
          absurd (both_ways c.same_member.result c.if-not-same_member.true (c.same_member.ensures.same.1 (c.element.ensures ∙ parts.0 ∙ sym c.element-in-Some.ensures, c.times.ensures ∙ parts.1 ∙ sym c.times-in-Some.ensures))),
    )

pub returns-then-not-same_member-clause-spelled : goal.returns-then-not-same_member-clause-spelled
returns-then-not-same_member-clause-spelled c same =
    let flat = flat_map member_spelling in
    let walk = c.loop-slot.walk in
    let others = c.loop-slot.others in
    let slot = c.in-Some.slot.now in
    let their = c.in-Some-first.theirs.now in
    let rest = first_is walk slot (sym c.in-Some.ensures) in
    let more = first_is others their (sym c.in-Some-first.ensures) in
    let next = spelled-next c.args.table.now c.args.other.now walk others (drop 1 walk) (drop 1 others) slot their c.loop-slot.invariant rest more same in
    absurd (both_ways c.same_member.result c.if-not-same_member.true (c.same_member.ensures.same.1 (c.same_member.ensures.spelled (flat (drop 1 walk)) (flat (drop 1 others)) (rw (c.element.ensures, c.element-in-Some.ensures, c.times.ensures, c.times-in-Some.ensures) next))))

pub loop-slot-preserved : goal.loop-slot-preserved
loop-slot-preserved c =
    let walk = c.loop-slot.walk in
    let others = c.loop-slot.others in
    let slot = c.in-Some.slot.now in
    let their = c.in-Some-first.theirs.now in
    let rest : walk ≡ slot ∷ c.skip.new.self = first_is walk slot (sym c.in-Some.ensures) ∙ ap (λ es. slot ∷ es) (sym c.skip.ensures) in
    let more : others ≡ their ∷ c.skip-in-Some.new.self = first_is others their (sym c.in-Some-first.ensures) ∙ ap (λ es. their ∷ es) (sym c.skip-in-Some.ensures) in
    let same = c.same_member.ensures.same.0 c.if-not-same_member.false in
    alike-more c.args.table.now c.args.other.now walk others c.skip.new.self c.skip-in-Some.new.self slot their c.loop-slot.invariant rest more (sym c.element.ensures ∙ same.0 ∙ c.element-in-Some.ensures) (sym c.times.ensures ∙ same.1 ∙ c.times-in-Some.ensures)

pub returns-clause-same : goal.returns-clause-same
returns-clause-same c = (λ yes. alike-end c.args.table.now c.args.other.now c.loop-slot.walk c.loop-slot.others c.loop-slot.invariant (none_first c.loop-slot.walk (sym c.in_default.ensures)) (sym c.size.ensures.size ∙ c.if-size.false ∙ c.size-2.ensures.size), λ same. refl)

pub returns-clause-spelled : goal.returns-clause-spelled
returns-clause-spelled c same = alike-end c.args.table.now c.args.other.now c.loop-slot.walk c.loop-slot.others c.loop-slot.invariant (none_first c.loop-slot.walk (sym c.in_default.ensures)) (sym c.size.ensures.size ∙ c.if-size.false ∙ c.size-2.ensures.size)
