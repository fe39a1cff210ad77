-- What the operation comes to, at the events that are visible at the head.
use Rattle.std.proofs.Common.{◌≡◌, ◌+◌, refl, ap, sym, ◌∙◌}
use Rattle.branch_history.specs.Commits.{visible}
use Rattle.branch_history.specs.History.{store_of}
use Rattle.branch_history.specs.Steps as machine
use Rattle.store_seen.specs.Views.{Operation}
use Rattle.store_seen.proofs.Looks.{spelled-size, refused-later, op-exhausted, op-too_large, op-fits, op-ready, op-reply}
use Rattle.store_seen.proofs.seen.Seen.prepare.Goals as goal

pub returns-then-self-clause-refused : goal.returns-then-self-clause-refused
returns-then-self-clause-refused g c =
    let laws = (g.met.T.Mrdt g.world.𝓛 g.world.𝓜 g.world.𝓡 ((λ s x. x), (λ x. x), (λ x. x), λ x. x)).laws in
    let look = c.self.invariant.look in
    let clock = c.self.inside.clock in
    rw (← c.self.view_is)
    (refused-later g.T.Mrdt.meaning laws _ look c.args.op (machine.Exhausted clock) (op-exhausted g.T.Mrdt.meaning laws _ look c.args.op clock _ c.self.invariant.node c.if-self.true))

pub returns-then-length-self-clause-refused : goal.returns-then-length-self-clause-refused
returns-then-length-self-clause-refused g c =
    let laws = (g.met.T.Mrdt g.world.𝓛 g.world.𝓜 g.world.𝓡 ((λ s x. x), (λ x. x), (λ x. x), λ x. x)).laws in
    let look = c.self.invariant.look in
    let size = c.len-length.result in
    let made = c.in_ok-value.ensures in
    let own : c.origin-origin.result ≡ c.self.inside.terms.origin + c.self.inside.branch = c.origin-origin.ensures ∙ ap (λ v. v.terms.origin + v.branch) (sym c.self.view_is) in
    let applies = rw own at made.applies in
    let sized = spelled-size g.T.Mrdt.meaning _ c.in_ok-value.value c.args.op c.in_ok-value.reply c.in_ok-spelled.spelled c.in_ok-spelled.ensures size c.len-length.ensures in
    rw (← c.self.view_is)
    (refused-later g.T.Mrdt.meaning laws _ look c.args.op (machine.ValueTooLarge size)
    (op-too_large g.T.Mrdt.meaning laws _ look c.args.op c.self.inside.clock _ c.self.invariant.node c.deref.result.now c.deref.ensures c.in_ok-value.value c.in_ok-value.reply applies made.known.0 c.if-self.false size sized c.if-length-self.true))

pub invariant_of-result : goal.invariant_of-result
invariant_of-result g c =
    let laws = (g.met.T.Mrdt g.world.𝓛 g.world.𝓜 g.world.𝓡 ((λ s x. x), (λ x. x), (λ x. x), λ x. x)).laws in
    let look = c.self.invariant.look in
    let size = c.len-length.result in
    let made = c.in_ok-value.ensures in
    let own : c.origin-origin.result ≡ c.self.inside.terms.origin + c.self.inside.branch = c.origin-origin.ensures ∙ ap (λ v. v.terms.origin + v.branch) (sym c.self.view_is) in
    let applies = rw own at made.applies in
    let sized = spelled-size g.T.Mrdt.meaning _ c.in_ok-value.value c.args.op c.in_ok-value.reply c.in_ok-spelled.spelled c.in_ok-spelled.ensures size c.len-length.ensures in
    rw (c.of.ensures, own, ← c.self.view_is)
    (record {
      look = look;
      own = refl;
      at_branch = refl;
      newest = refl;
      ready = (
        op-ready g.T.Mrdt.meaning laws _ look c.args.op c.self.inside.clock _ c.self.invariant.node c.deref.result.now c.deref.ensures c.in_ok-value.value c.in_ok-value.reply applies made.known.0 c.if-self.false size sized c.if-length-self.false made.known.1,
        c.in_ok-spelled.ensures,
      );
    })

pub returns-clause-prepared : goal.returns-clause-prepared
returns-clause-prepared g c =
    let laws = (g.met.T.Mrdt g.world.𝓛 g.world.𝓜 g.world.𝓡 ((λ s x. x), (λ x. x), (λ x. x), λ x. x)).laws in
    let look = c.self.invariant.look in
    let seen = c.args.self.now in
    let reply = c.in_ok-value.reply in
    let own : c.origin-origin.result ≡ c.self.inside.terms.origin + c.self.inside.branch = c.origin-origin.ensures ∙ ap (λ v. v.terms.origin + v.branch) (sym c.self.view_is) in
    let applies = rw own at c.in_ok-value.ensures.applies in
    let same : reply ≡ g.T.Mrdt.meaning.reply_of (visible (store_of seen.terms.origin seen.history).commits seen.head) c.args.op =
    rw (← c.self.view_is) (op-reply g.T.Mrdt.meaning laws _ look c.args.op c.self.inside.clock _ c.self.invariant.node c.deref.result.now c.deref.ensures c.in_ok-value.value reply applies) in
    ap (λ v. record { seen = v; work = Operation c.args.op reply }) c.of.ensures ∙ ap (λ r. record { seen = seen; work = Operation c.args.op r }) same

pub returns-clause-fits : goal.returns-clause-fits
returns-clause-fits g c =
    let laws = (g.met.T.Mrdt g.world.𝓛 g.world.𝓜 g.world.𝓡 ((λ s x. x), (λ x. x), (λ x. x), λ x. x)).laws in
    let look = c.self.invariant.look in
    let size = c.len-length.result in
    let made = c.in_ok-value.ensures in
    let own : c.origin-origin.result ≡ c.self.inside.terms.origin + c.self.inside.branch = c.origin-origin.ensures ∙ ap (λ v. v.terms.origin + v.branch) (sym c.self.view_is) in
    let applies = rw own at made.applies in
    let sized = spelled-size g.T.Mrdt.meaning _ c.in_ok-value.value c.args.op c.in_ok-value.reply c.in_ok-spelled.spelled c.in_ok-spelled.ensures size c.len-length.ensures in
    rw (← c.self.view_is)
    (op-fits g.T.Mrdt.meaning laws _ look c.args.op c.self.inside.clock _ c.self.invariant.node c.deref.result.now c.deref.ensures c.in_ok-value.value c.in_ok-value.reply applies made.known.0 c.if-self.false size sized c.if-length-self.false)
