use Rattle.std.proofs.Common.{◌∙◌, ◌++◌, ap, sym, subst}
use Rattle.std.specs.Option.{option_copied}
use Rattle.object_store.specs.Commits.{commit_pair}
use Rattle.branch_wire.specs.StoredObjects.{Stored, collision, fresh}
use Rattle.object_store.specs.Refusals.{RefusesToStage}
use Rattle.object_store.specs.Shelves.{texts}
use Rattle.object_store.specs.Views.{ObjectsView}
use Rattle.object_store.proofs.Marked.{all-texts, before-stays, behind-grows, mark-within}
use Rattle.object_store.proofs.objects.Objects.stage.Goals as goal

pub returns-in-Ok-clause-stored : goal.returns-in-Ok-clause-stored
returns-in-Ok-clause-stored g c =
    let shelf = c.self.inside.shelf in
    let mark = c.self.inside.mark in
    let pair = commit_pair g.A.Address.address (option_copied c.args.value) c.args.parents c.args.branch c.args.clock c.args.action in
    before-stays (texts shelf) (fresh (texts shelf) pair) (texts c.add_pair.new.self) mark.places (mark-within shelf mark.places c.self.invariant.places_within) c.in-Ok.ensures.added
    ∙ ap (λ (v : ObjectsView). v.stored) c.self.view_is

pub returns-in-Ok-clause-added : goal.returns-in-Ok-clause-added
returns-in-Ok-clause-added g c =
    let shelf = c.self.inside.shelf in
    let mark = c.self.inside.mark in
    let pair = commit_pair g.A.Address.address (option_copied c.args.value) c.args.parents c.args.branch c.args.clock c.args.action in
    behind-grows (texts shelf) (fresh (texts shelf) pair) (texts c.add_pair.new.self) mark.places (mark-within shelf mark.places c.self.invariant.places_within) c.in-Ok.ensures.added
    ∙ ap (λ (v : ObjectsView). v.staged ++ fresh (texts shelf) pair) c.self.view_is
    ∙ ap (λ (ts : Stored). c.args.self.now.staged ++ fresh ts pair) (all-texts shelf mark c.args.self.now c.self.view_is)

pub returns-in-Ok-clause-free : goal.returns-in-Ok-clause-free
returns-in-Ok-clause-free g c =
    let pair = commit_pair g.A.Address.address (option_copied c.args.value) c.args.parents c.args.branch c.args.clock c.args.action in
    ap (λ (ts : Stored). collision g.A.Address.address ts pair) (sym (all-texts c.self.inside.shelf c.self.inside.mark c.args.self.now c.self.view_is)) ∙ c.in-Ok.ensures.free

pub returns-in-Err-clause-collides : goal.returns-in-Err-clause-collides
returns-in-Err-clause-collides g c =
    let pair = commit_pair g.A.Address.address (option_copied c.args.value) c.args.parents c.args.branch c.args.clock c.args.action in
    subst (λ (ts : Stored). RefusesToStage g.A.Address.address ts pair c.in-Err.refused) (all-texts c.self.inside.shelf c.self.inside.mark c.args.self.now c.self.view_is) c.in-Err.ensures.collides
