use Rattle.std.proofs.Common.{◌≡◌, ◌++◌, ◌∙◌, sym, ap, subst}
use Rattle.std.specs.Result.{OnErr}
use Rattle.mrdt_model.specs.Spelled.{AppendsPart}
use Rattle.branch_print.specs.Texts.{landed_text, line_end}
use Rattle.branch_engine.specs.Engines.{kind_text}
use Rattle.branch_engine.proofs.engine.put_kind.Goals as goal

pub returns-in-Operation-clause-err : goal.returns-in-Operation-clause-err
returns-in-Operation-clause-err g c =
    let text : landed_text c.in-Operation.commit c.in-Operation.time c.args.takes c.reply.result ≡ kind_text g.T.Forms.forms.reply c.args.takes c.args.kind = ap (landed_text c.in-Operation.commit c.in-Operation.time c.args.takes) c.reply.ensures ∙ sym (ap (kind_text g.T.Forms.forms.reply c.args.takes) c.in-Operation.is) in
    subst (λ t. OnErr c.put_landed.result (AppendsPart c.args.out.now.items c.put_landed.new.out.items (t ++ line_end))) text c.put_landed.ensures.err
