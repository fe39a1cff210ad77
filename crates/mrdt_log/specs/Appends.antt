-- The appends are what is live of payloads that are put beside all others.
use Rattle.std.proofs.Common.{◌≡◌, ℕ, Bool, false, cond, List, [], ◌∷◌, map, refl, ◌∙◌, ap, sym}
use Rattle.mrdt_model.specs.declared.time.Time.{Time}
use Rattle.mrdt_model.specs.Executions.{Event}
use Rattle.live_set.specs.Entries.{by_time}
use Rattle.live_set.specs.Effects.{Effect, adding, is_hidden, puts_but, live_of}
use Rattle.mrdt_log.specs.declared.log.LogOp.{LogOp}
use Rattle.mrdt_log.specs.Log.{payload_of, append_of, appends}

-- an append puts its payload, and hides nothing
abbrev pub log_effect : LogOp → Effect (List ℕ)
log_effect op = adding (payload_of op)

module _ {R : Type 0} where
  never_hidden : (x : List (Event LogOp R)) (t : Time) → is_hidden log_effect x t ≡ false
  never_hidden [] t = refl
  never_hidden (e ∷ x) t = never_hidden x t

  puts_all : (hidden : Time → Bool) (x : List (Event LogOp R)) → ((t : Time) → hidden t ≡ false) → puts_but log_effect hidden x ≡ map append_of x
  puts_all hidden [] none = refl
  puts_all hidden (e ∷ x) none =
      let rest = puts_but log_effect hidden x in
      ap (λ b. cond b rest (append_of e ∷ rest)) (none e.time) ∙ ap (λ ks. append_of e ∷ ks) (puts_all hidden x none)

  pub appends-live : (x : List (Event LogOp R)) → appends x ≡ live_of log_effect x
  appends-live x = sym (ap by_time (puts_all (is_hidden log_effect x) x (never_hidden x)))
