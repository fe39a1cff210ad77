use Rattle.std.proofs.Common.{◌≡◌, ◌∙◌, ◌<◌, ◌^◌, true, ap, sym, subst, length}
use Rattle.std.proofs.lemmas.Bool.{both_ways}
use Rattle.mrdt_both.proofs.Products.{pair-alike}
use Rattle.mrdt_both.proofs.both.BothMrdt.same.Goals as goal

pub returns-then-not-same-clause-spelled : goal.returns-then-not-same-clause-spelled
returns-then-not-same-clause-spelled g c short alike =
    let m = g.A.Mrdt.meaning in
    let n = g.B.Mrdt.meaning in
    let parts = pair-alike (m.state_spelling c.args.self.now.0) (n.state_spelling c.args.self.now.1) (m.state_spelling c.args.other.now.0) (n.state_spelling c.args.other.now.1) short alike in
    let own : c.get.result.now ≡ c.args.self.now.0 = c.get.ensures ∙ ap (λ (p : g.row.A.Denot × g.row.B.Denot). p.0) c.self.view_is in
    let their : c.get-2.result.now ≡ c.args.other.now.0 = c.get-2.ensures ∙ ap (λ (p : g.row.A.Denot × g.row.B.Denot). p.0) c.other.view_is in
    let are = c.same.ensures.spelled (subst (λ v. length (m.state_spelling v) < 2 ^ 64) (sym own) parts.0) (ap m.state_spelling own ∙ parts.2 ∙ sym (ap m.state_spelling their)) in
    let yes : c.same.result ≡ true = c.same.ensures.same.1 are in
    absurd (both_ways c.same.result c.if-not-same.true yes)

pub returns-clause-spelled : goal.returns-clause-spelled
returns-clause-spelled g c short alike =
    let m = g.A.Mrdt.meaning in
    let n = g.B.Mrdt.meaning in
    let parts = pair-alike (m.state_spelling c.args.self.now.0) (n.state_spelling c.args.self.now.1) (m.state_spelling c.args.other.now.0) (n.state_spelling c.args.other.now.1) short alike in
    let own : c.get.result.now ≡ c.args.self.now.0 = c.get.ensures ∙ ap (λ (p : g.row.A.Denot × g.row.B.Denot). p.0) c.self.view_is in
    let their : c.get-2.result.now ≡ c.args.other.now.0 = c.get-2.ensures ∙ ap (λ (p : g.row.A.Denot × g.row.B.Denot). p.0) c.other.view_is in
    let own_second : c.get-3.result.now ≡ c.args.self.now.1 = c.get-3.ensures ∙ ap (λ (p : g.row.A.Denot × g.row.B.Denot). p.1) c.self.view_is in
    let their_second : c.get-4.result.now ≡ c.args.other.now.1 = c.get-4.ensures ∙ ap (λ (p : g.row.A.Denot × g.row.B.Denot). p.1) c.other.view_is in
    let first = c.same.ensures.same.0 c.if-not-same.false in
    let second = c.same-2.ensures.spelled (subst (λ v. length (n.state_spelling v) < 2 ^ 64) (sym own_second) parts.1) (ap n.state_spelling own_second ∙ parts.3 ∙ sym (ap n.state_spelling their_second)) in
    (subst (λ v. m.is_same v c.args.other.now.0) own (subst (λ v. m.is_same c.get.result.now v) their first), subst (λ v. n.is_same v c.args.other.now.1) own_second (subst (λ v. n.is_same c.get-3.result.now v) their_second second))
