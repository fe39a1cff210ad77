use Rattle.std.proofs.Common.{◌∙◌, ℕ, List, ap, sym, subst, OnErr}
use Rattle.std.specs.List.{flat_map}
use Rattle.mrdt_model.specs.Spelled.{AppendsPart}
use Rattle.branch_show.specs.Documents.{key_line, keys_in}
use Rattle.branch_show.proofs.document.put_kind_lines.Goals as goal

pub returns-clause-err : goal.returns-clause-err
returns-clause-err g c =
    let line = key_line (g.V.Asked.answers c.args.document.now) c.args.kind in
    subst (λ (keys : List (List ℕ)). OnErr c.put_lines.result (AppendsPart c.args.out.now.items c.put_lines.new.out.items (flat_map line keys)))
    (c.keys_in.ensures ∙ ap keys_in (sym c.in-Some.is ∙ c.in_ok-ask.ensures)) c.put_lines.ensures.err
