-- One client more leaves.
use Rattle.std.proofs.Common.{rules, ◌≡◌, ◌∷◌, [], ◌++◌, ◌∙◌, length, ap, sym, subst, arith}
use Rattle.std.specs.List.{AllByRecursion}
use Rattle.std.proofs.lemmas.Slice.Zip.{AllZip-long}
use Rattle.branch_machine.specs.Fixed.{fix}
use Rattle.parallel_clients.specs.Entrants.{HasRunOwn, IsOwnOutcome, HaveLeft}
use Rattle.parallel_clients.specs.Outcomes.{setting}
use Rattle.parallel_clients.proofs.Ended.{with-one, before-less, all-at, left-none, left-more}
use Rattle.parallel_clients.proofs.clients.leave_all.Goals as goal

pub note-requires : goal.note-requires
note-requires g c =
    let on = setting (fix g.T.Mrdt.meaning g.N.Named.terms g.A.Address.address) g.T.Forms.forms g.N.Named.opened in
    let before = c.loop-entrant.yielded in
    let rest = c.next.new.self.rest.items in
    let inv = c.loop-entrant.invariant in
    let split : before ++ c.in-Some.entrant ∷ rest ≡ c.args.entrants.items = ap (λ r. before ++ r) (sym c.in-Some.ensures.steps.0) ∙ inv.0 in
    let less = before-less before rest c.args.entrants.items c.in-Some.entrant split in
    let same : length c.loop-entrant.outcomes.items ≡ length before = AllZip-long (IsOwnOutcome on c.args.pass.now c.loop-entrant.pass) before c.loop-entrant.outcomes.items inv.1.each in
    let room = inv.2 in
    omega arith

pub loop-entrant-preserved : goal.loop-entrant-preserved
loop-entrant-preserved g c =
    let on = setting (fix g.T.Mrdt.meaning g.N.Named.terms g.A.Address.address) g.T.Forms.forms g.N.Named.opened in
    let from = c.args.pass.now in
    let before = c.loop-entrant.yielded in
    let entrant = c.in-Some.entrant in
    let rest = c.next.new.self.rest.items in
    let inv = c.loop-entrant.invariant in
    let split : before ++ entrant ∷ rest ≡ c.args.entrants.items = ap (λ r. before ++ r) (sym c.in-Some.ensures.steps.0) ∙ inv.0 in
    let ran = all-at (HasRunOwn on from) before rest entrant (subst (AllByRecursion (HasRunOwn on from)) (sym split) c.requires.ran) in
    let left = left-more on from c.loop-entrant.pass c.leave.new.into before c.loop-entrant.outcomes.items entrant inv.1 ran c.leave.ensures.into c.leave.ensures.this c.leave.ensures.that c.leave.ensures.once in
    let room = inv.2 in
    let kept = c.note.ensures.capacity in (
      with-one before rest c.args.entrants.items entrant split,
      subst (HaveLeft on from c.leave.new.into (before ++ entrant ∷ [])) (sym c.note.ensures.items) left,
      omega arith,
    )

pub loop-entrant-init : goal.loop-entrant-init
loop-entrant-init g c =
    let on = setting (fix g.T.Mrdt.meaning g.N.Named.terms g.A.Address.address) g.T.Forms.forms g.N.Named.opened in
    let first : [] ++ c.into_iter-entrant-iterator.result.rest.items ≡ c.args.entrants.items = search rules in
    let none : HaveLeft on c.args.pass.now c.args.pass.now [] c.args.outcomes.items = subst (HaveLeft on c.args.pass.now c.args.pass.now []) (sym c.requires.none) (left-none on c.args.pass.now) in
    (first, none, c.requires.room)
