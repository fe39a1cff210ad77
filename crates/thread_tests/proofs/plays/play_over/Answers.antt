-- A new store works.
use Rattle.std.proofs.Common.{ap, ◌∙◌, refl}
use Rattle.branch_shared.specs.Names.{BlankView}
use Rattle.store_core.specs.Views.{StoreView}
use Rattle.thread_tests.proofs.plays.play_over.Goals as goal

pub share-requires-clause-since : goal.share-requires-clause-since
share-requires-clause-since g c κs within = record {
  works = ap (λ (b : BlankView _ _). b.core.failed) c.in-Ok-new.ensures.made ∙ ap (λ (s : StoreView _ _). s.failed) c.in-Ok.ensures.made;
  moment_is = refl;
  no_more = λ t f was. was;
  no_less = λ t f was. was;
}
