-- The job stands behind all others, under the next number.
use Rattle.std.proofs.Common.{◌≡◌, ◌+◌, ◌∙◌, [], ◌∷◌, ◌++◌, map, ap, sym, subst}
use Rattle.branch_batch.specs.Lists.{RisesFrom}
use Rattle.branch_batch.specs.Lines.{HasWritten, number_of}
use Rattle.branch_batch.proofs.Rising.{rises_more}
use Rattle.branch_batch.proofs.line.Line.put.Goals as goal

pub invariant_of-self-2 : goal.invariant_of-self-2
invariant_of-self-2 g c =
    let next = c.self.inside.count + 1 in
    let jobs = c.self.inside.waiting.items in
    let job = c.claim-claim.result in
    let front = ap (λ f. f.table) c.requires.front in
    let noted : HasWritten g.S.Service.table next c.note.new.writer c.note.new.pass =
    subst (λ t. HasWritten t next c.note.new.writer c.note.new.pass) front c.note.ensures.written in
    let pass = c.claim-claim.ensures.pass ∙ c.claim.ensures.pass in
    let items : c.push_back_reserved.new.self.items ≡ jobs ++ job ∷ [] = c.push_back_reserved.ensures.items ∙ ap (λ js. js ++ job ∷ []) c.reserve.ensures.items in (
      subst (λ p. HasWritten g.S.Service.table next c.note.new.writer p) (sym pass) noted,
      subst (λ js. RisesFrom 0 (map number_of js) next) (sym items)
          (rises_more number_of 0 jobs job c.self.inside.count (ap (λ w. w.number) c.claim-claim.ensures.claim) c.self.invariant.1),
    )
