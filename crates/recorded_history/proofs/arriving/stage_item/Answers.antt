-- What is staged are the two objects of the item.
use Rattle.std.proofs.Common.{◌++◌, ap, sym, ◌∙◌, subst}
use Rattle.std.proofs.lemmas.Result.{IfOk-weaker, IfErr-weaker, on_ok_weaker}
use Rattle.std.specs.Option.{option_copied}
use Rattle.branch_wire.specs.StoredObjects.{collision, fresh}
use Rattle.branch_machine.specs.Fixed.{fix}
use Rattle.object_store.specs.Commits.{value_of, value_address_of}
use Rattle.object_store.specs.Refusals.{RefusesToStage}
use Rattle.recorded_history.specs.Asks.{fields_in}
use Rattle.recorded_history.proofs.Told.{item-value, item-address, known-is, staged-pair, staged-address}
use Rattle.recorded_history.proofs.arriving.stage_item.Goals as goal

pub stage-requires : goal.stage-requires
stage-requires g c =
    let laws = (g.met.T.Mrdt g.world.𝓛 g.world.𝓜 g.world.𝓡 ((λ s x. x), (λ x. x), (λ x. x), λ x. x)).laws in
    let a = c.args.made.now in
    let fixed = fix g.T.Mrdt.meaning a.terms g.A.Address.address in
    let size = g.met.A.Address.size in
    let f = fields_in c.args.fields in
    let addressed = item-address fixed laws size a.history c.requires.valid c.args.value.now f c.requires.known a.step c.written.result c.requires.item c.written.ensures ∙ ap (value_address_of fixed.address) (sym c.spelling_of-spelling.ensures) in
    record { known = known-is fixed.address c.spelling_of-spelling.result c.args.fields.value addressed }

pub returns-clause-added : goal.returns-clause-added
returns-clause-added g c =
    let laws = (g.met.T.Mrdt g.world.𝓛 g.world.𝓜 g.world.𝓡 ((λ s x. x), (λ x. x), (λ x. x), λ x. x)).laws in
    let a = c.args.made.now in
    let fixed = fix g.T.Mrdt.meaning a.terms g.A.Address.address in
    let size = g.met.A.Address.size in
    let f = fields_in c.args.fields in
    let valued = item-value fixed laws size a.history c.requires.valid c.args.value.now f a.step c.written.result c.requires.item c.written.ensures ∙ ap value_of (sym c.spelling_of-spelling.ensures) in
    let addressed = item-address fixed laws size a.history c.requires.valid c.args.value.now f c.requires.known a.step c.written.result c.requires.item c.written.ensures ∙ ap (value_address_of fixed.address) (sym c.spelling_of-spelling.ensures) in
    let pair = staged-pair fixed.address c.args.value.now (option_copied c.spelling_of-spelling.result) f valued addressed in
    let o = c.args.objects.now in
    on_ok_weaker c.stage.result (λ is. is ∙ ap (λ p. o.staged ++ fresh (o.stored ++ o.staged) p) pair) c.stage.ensures.added

pub returns-clause-address : goal.returns-clause-address
returns-clause-address g c =
    let laws = (g.met.T.Mrdt g.world.𝓛 g.world.𝓜 g.world.𝓡 ((λ s x. x), (λ x. x), (λ x. x), λ x. x)).laws in
    let a = c.args.made.now in
    let fixed = fix g.T.Mrdt.meaning a.terms g.A.Address.address in
    let size = g.met.A.Address.size in
    let f = fields_in c.args.fields in
    let addressed = item-address fixed laws size a.history c.requires.valid c.args.value.now f c.requires.known a.step c.written.result c.requires.item c.written.ensures ∙ ap (value_address_of fixed.address) (sym c.spelling_of-spelling.ensures) in
    IfOk-weaker c.stage.result _ _ (λ _ is. is ∙ staged-address fixed.address (option_copied c.spelling_of-spelling.result) f addressed) c.stage.ensures.address

pub returns-clause-free : goal.returns-clause-free
returns-clause-free g c =
    let laws = (g.met.T.Mrdt g.world.𝓛 g.world.𝓜 g.world.𝓡 ((λ s x. x), (λ x. x), (λ x. x), λ x. x)).laws in
    let a = c.args.made.now in
    let fixed = fix g.T.Mrdt.meaning a.terms g.A.Address.address in
    let size = g.met.A.Address.size in
    let f = fields_in c.args.fields in
    let valued = item-value fixed laws size a.history c.requires.valid c.args.value.now f a.step c.written.result c.requires.item c.written.ensures ∙ ap value_of (sym c.spelling_of-spelling.ensures) in
    let addressed = item-address fixed laws size a.history c.requires.valid c.args.value.now f c.requires.known a.step c.written.result c.requires.item c.written.ensures ∙ ap (value_address_of fixed.address) (sym c.spelling_of-spelling.ensures) in
    let pair = staged-pair fixed.address c.args.value.now (option_copied c.spelling_of-spelling.result) f valued addressed in
    let o = c.args.objects.now in
    on_ok_weaker c.stage.result (λ is. sym (ap (collision fixed.address (o.stored ++ o.staged)) pair) ∙ is) c.stage.ensures.free

pub returns-clause-collides : goal.returns-clause-collides
returns-clause-collides g c =
    let laws = (g.met.T.Mrdt g.world.𝓛 g.world.𝓜 g.world.𝓡 ((λ s x. x), (λ x. x), (λ x. x), λ x. x)).laws in
    let a = c.args.made.now in
    let fixed = fix g.T.Mrdt.meaning a.terms g.A.Address.address in
    let size = g.met.A.Address.size in
    let f = fields_in c.args.fields in
    let valued = item-value fixed laws size a.history c.requires.valid c.args.value.now f a.step c.written.result c.requires.item c.written.ensures ∙ ap value_of (sym c.spelling_of-spelling.ensures) in
    let addressed = item-address fixed laws size a.history c.requires.valid c.args.value.now f c.requires.known a.step c.written.result c.requires.item c.written.ensures ∙ ap (value_address_of fixed.address) (sym c.spelling_of-spelling.ensures) in
    let pair = staged-pair fixed.address c.args.value.now (option_copied c.spelling_of-spelling.result) f valued addressed in
    let o = c.args.objects.now in
    IfErr-weaker c.stage.result _ _ (λ e is. subst (λ p. RefusesToStage fixed.address (o.stored ++ o.staged) p e) pair is) c.stage.ensures.collides
