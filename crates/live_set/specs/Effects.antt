-- Which payloads are live after some events.
use Rattle.std.specs.Prelude.{Bool, true, false, not, ◌&&◌, if◌then◌else◌, Option, None, Some, is_some, List, [], ◌∷◌}
use Rattle.std.specs.List.{list_any}
use Rattle.mrdt_model.specs.declared.time.Time.{Time}
use Rattle.mrdt_model.specs.Times.{among}
use Rattle.mrdt_model.specs.Executions.{Event}
use Rattle.live_set.specs.declared.kept.Kept.{Kept}
use Rattle.live_set.specs.Entries.{by_time, with_payload}

-- what an operation does to a live set: the payload that it puts, if any, and whether it hides the payloads that
-- it has seen
pub record Effect (V : Type 0) : Type 0 where
  pub puts : Option V
  pub hides : Bool

-- it puts a payload in place of all that it has seen
abbrev pub replacing : {V : Type 0} → V → Effect V
replacing v = record { puts = Some v; hides = true }

-- it takes away all that it has seen
abbrev pub removing : {V : Type 0} → Effect V
removing = record { puts = None; hides = true }

-- it puts a payload beside all others
abbrev pub adding : {V : Type 0} → V → Effect V
adding v = record { puts = Some v; hides = false }

-- it does nothing
abbrev pub apart : {V : Type 0} → Effect V
apart = record { puts = None; hides = false }

-- it takes away, and puts nothing in its place
abbrev pub removes : {V : Type 0} → Effect V → Bool
removes f = f.hides && not (is_some f.puts)

-- some event of x that hides what it has seen has seen the time
abbrev pub is_hidden : {O R V : Type 0} → (O → Effect V) → List (Event O R) → Time → Bool
is_hidden effect x t = list_any (λ e. (effect e.operation).hides && among e.seen t) x

-- some event of x that removes has seen the time
abbrev pub is_removed : {O R V : Type 0} → (O → Effect V) → List (Event O R) → Time → Bool
is_removed effect x t = list_any (λ e. removes (effect e.operation) && among e.seen t) x

-- some event puts a payload, and no event that removes has seen it
abbrev pub holds_some : {O R V : Type 0} → (O → Effect V) → List (Event O R) → Bool
holds_some effect x = list_any (λ e. is_some (effect e.operation).puts && not (is_removed effect x e.time)) x

-- an entry before others, where there is a payload and its time is not hidden
abbrev pub add_put : {V : Type 0} → Option V → Bool → Time → List (Kept V) → List (Kept V)
add_put None hidden t entries = entries
add_put (Some v) hidden t entries = if hidden then entries else (record { time = t; payload = v } ∷ entries)

-- what the events put, at their times that are not in the set
abbrev pub puts_but : {O R V : Type 0} → (O → Effect V) → (Time → Bool) → List (Event O R) → List (Kept V)
puts_but effect hidden [] = []
puts_but effect hidden (e ∷ x) = add_put (effect e.operation).puts (hidden e.time) e.time (puts_but effect hidden x)

-- by rising time, what the events put that none of them hides
abbrev pub live_of : {O R V : Type 0} → (O → Effect V) → List (Event O R) → List (Kept V)
live_of effect x = by_time (puts_but effect (is_hidden effect x) x)

-- what is live after an operation at time t that has seen all
abbrev pub live_after : {V : Type 0} → Effect V → Time → List (Kept V) → List (Kept V)
live_after f t live = with_payload (if f.hides then [] else live) t f.puts

-- whether there is an entry
abbrev pub has_any : {V : Type 0} → List (Kept V) → Bool
has_any [] = false
has_any (k ∷ live) = true
