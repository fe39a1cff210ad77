-- What a side keeps.
use Rattle.mrdt_both.specs.declared.part.Kept.{Kept}
use Rattle.mrdt_both.specs.declared.part.Kept.TheVariants.{Own, Held}

abbrev pub value_of : {T : Type 0} → Kept T → T
value_of (Own value) = value
value_of (Held value) = value
