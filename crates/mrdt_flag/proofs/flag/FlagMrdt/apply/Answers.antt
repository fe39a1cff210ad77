use Rattle.std.proofs.Common.{◌≡◌, List, ◌∷◌, refl, ◌∙◌, ap, sym}
use Rattle.mrdt_model.specs.declared.time.Time.{Time}
use Rattle.mrdt_model.specs.Executions.{Event, IsLawful, IsAfter, next_event}
use Rattle.mrdt_model.proofs.Parts.{all_seen}
use Rattle.live_set.specs.Effects.{live_of, live_after}
use Rattle.live_set.proofs.Standing.{live-next}
use Rattle.mrdt_flag.specs.declared.flag.FlagOp.{FlagOp}
use Rattle.live_set.specs.UnitReply.{IsAnyReply, no_reply}
use Rattle.mrdt_flag.specs.Flag.{flag_effect, IsAnyOp}
use Rattle.mrdt_flag.proofs.flag.FlagMrdt.apply.Goals as goal

-- what is live after an operation
after_op : (op known : FlagOp) (t : Time) (x : List (Event FlagOp (Unit {0}))) → op ≡ known → IsLawful IsAnyOp IsAnyReply no_reply x → IsAfter x t → live_after (flag_effect known) t (live_of flag_effect x) ≡ live_of flag_effect (next_event x t op tt ∷ x)
after_op op known t x is lawful after =
    sym (ap (λ o. live_after (flag_effect o) t (live_of flag_effect x)) is) ∙ sym (live-next flag_effect x t op tt (all_seen IsAnyOp IsAnyReply x lawful.well_formed) after)

pub returns-in_ok-enabled-in-Enable-clause-applies : goal.returns-in_ok-enabled-in-Enable-clause-applies
returns-in_ok-enabled-in-Enable-clause-applies c x lawful is after = (refl, c.in_ok-enabled-in-Enable.ensures ∙ after_op c.args.op.now _ c.args.time x c.in-Enable.is lawful after)

pub returns-in-Disable-clause-applies : goal.returns-in-Disable-clause-applies
returns-in-Disable-clause-applies c x lawful is after = (refl, c.disabled.ensures ∙ after_op c.args.op.now _ c.args.time x c.in-Disable.is lawful after)
