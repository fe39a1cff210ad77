-- Entries with texts, as bytes.
use Rattle.std.proofs.Common.{◌≡◌, ℕ, ◌+◌, ◌<◌, ◌^◌, List, [], ◌∷◌, ◌++◌, length, ◌∙◌, ap, arith, length-append}
use Rattle.std.specs.List.{AllByRecursion, flat_map}
use Rattle.mrdt_model.specs.Times.{IsTime}
use Rattle.mrdt_model.specs.Spelled.{IsBytes}
use Rattle.branch_wire.specs.Fields.{time_field, field}
use Rattle.branch_wire.proofs.Numbers.{length-time_field, length-field}
use Rattle.branch_wire.proofs.Lists.{length-counted}
use Rattle.live_set.specs.declared.kept.Kept.{Kept}
use Rattle.live_set.specs.Payloads.{IsShortText}
use Rattle.live_set.specs.Spelling.{kept_spelling, live_spelling, KeptFits}

-- the time's numbers and the text's bytes lie in their ranges
abbrev pub IsKnown : Kept (List ℕ) → Type 0
IsKnown k = IsTime k.time × IsBytes k.payload

flat-short : (ks : List (Kept (List ℕ))) → AllByRecursion IsKnown ks → length (flat_map (kept_spelling field) ks) < 2 ^ 64 → AllByRecursion (KeptFits IsShortText) ks
flat-short [] known short = tt
flat-short (k ∷ ks) known short =
    let rest = flat_map (kept_spelling field) ks in
    let size : length ((time_field k.time ++ field k.payload) ++ rest) ≡ (12 + (8 + length k.payload)) + length rest =
    length-append (time_field k.time ++ field k.payload) rest ∙ ap (λ n. n + length rest) (length-append (time_field k.time) (field k.payload) ∙ ap (λ n. n + length (field k.payload)) (length-time_field k.time) ∙ ap (λ n. 12 + n) (length-field k.payload)) in
    ((known.0.0, (known.0.1, omega (arith, size, short))), flat-short ks known.1 (omega (arith, size, short)))

-- entries that are spelled in fewer than 2 ^ 64 bytes have short texts
pub all-short : (ks : List (Kept (List ℕ))) → AllByRecursion IsKnown ks → length (live_spelling field ks) < 2 ^ 64 → AllByRecursion (KeptFits IsShortText) ks
all-short ks known short = flat-short ks known (omega (arith, short, length-counted (kept_spelling field) ks))
