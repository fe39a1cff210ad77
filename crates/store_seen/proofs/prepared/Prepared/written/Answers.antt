-- What is written is spelled as the history means it.
use Rattle.std.proofs.Common.{refl, ap, sym, ◌∙◌, subst}
use Rattle.store_seen.specs.Keeps.{IsReady, work_of}
use Rattle.store_seen.specs.Written.{IsWritten}
use Rattle.store_seen.specs.declared.prepared.Written.TheVariants as written
use Rattle.store_seen.proofs.Writes.{operation-written, merge-written, join-written}
use Rattle.store_seen.proofs.prepared.Prepared.written.Goals as goal

pub returns-in-Operation : goal.returns-in-Operation
returns-in-Operation g c =
    let laws = (g.met.T.Mrdt g.world.𝓛 g.world.𝓜 g.world.𝓡 ((λ s x. x), (λ x. x), (λ x. x), λ x. x)).laws in
    let m = g.T.Mrdt.meaning in
    let seen = c.self.inside.seen.value in
    let is = c.self.invariant in
    let ready = subst (λ r. IsReady m seen r) c.in-Operation.is is.ready in
    let same = ap (λ r. record { seen = seen; work = work_of r }) (sym c.in-Operation.is) ∙ c.self.view_is in
    subst (λ p. IsWritten m p (written.Operation c.in-Operation.time.clock c.size.result c.value.result c.op.result c.reply.result)) same
    (rw (c.size.ensures, c.value.ensures, c.op.ensures, c.reply.ensures) (operation-written m laws seen is.look _ _ _ _ _ ready.0 ready.1))

pub returns-in-Merge : goal.returns-in-Merge
returns-in-Merge g c =
    let laws = (g.met.T.Mrdt g.world.𝓛 g.world.𝓜 g.world.𝓡 ((λ s x. x), (λ x. x), (λ x. x), λ x. x)).laws in
    let m = g.T.Mrdt.meaning in
    let seen = c.self.inside.seen.value in
    let is = c.self.invariant in
    let ready = subst (λ r. IsReady m seen r) c.in-Merge.is is.ready in
    let same = ap (λ r. record { seen = seen; work = work_of r }) (sym c.in-Merge.is) ∙ c.self.view_is in
    subst (λ p. IsWritten m p (written.Merge c.in-Merge.commit c.in-Merge.clock c.in-Merge.spelled.size c.bytes.result)) same
    (rw c.bytes.ensures (merge-written m laws seen is.look _ _ _ _ _ refl ready.0 ready.1))

pub returns-in-Join : goal.returns-in-Join
returns-in-Join g c =
    let laws = (g.met.T.Mrdt g.world.𝓛 g.world.𝓜 g.world.𝓡 ((λ s x. x), (λ x. x), (λ x. x), λ x. x)).laws in
    let m = g.T.Mrdt.meaning in
    let seen = c.self.inside.seen.value in
    let is = c.self.invariant in
    let ready = subst (λ r. IsReady m seen r) c.in-Join.is is.ready in
    let same = ap (λ r. record { seen = seen; work = work_of r }) (sym c.in-Join.is) ∙ c.self.view_is in
    subst (λ p. IsWritten m p (written.Join c.as_slice.result c.in-Join.clock c.in-Join.spelled.size c.bytes-in-Join.result)) same
    (rw c.bytes-in-Join.ensures (join-written m laws seen is.look _ _ _ _ _ c.as_slice.ensures ready.0 ready.1))
