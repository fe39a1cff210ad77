use Rattle.std.proofs.Common.{◌∙◌, ap, sym}
use Rattle.live_set.specs.Effects.{has_any}
use Rattle.live_set.proofs.Holding.{holds-live}
use Rattle.live_set.specs.UnitReply.{IsAnyReply}
use Rattle.mrdt_flag.specs.Flag.{flag_effect, IsAnyOp}
use Rattle.mrdt_flag.proofs.flag.FlagMrdt.answer.Goals as goal

pub returns : goal.returns
returns c x lawful is = c.is_on.ensures ∙ ap has_any is ∙ sym (holds-live flag_effect IsAnyOp IsAnyReply x lawful.well_formed)
