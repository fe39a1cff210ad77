-- The place of each kind in the nested product of seven.
use Rattle.mrdt_both.specs.declared.both.Side.{Side}
use Rattle.mrdt_both.specs.declared.both.Side.TheVariants.{First, Second}

-- one of each kind, nested to the right
abbrev pub OfKinds : Type 0 → Type 0 → Type 0 → Type 0 → Type 0 → Type 0 → Type 0 → Type 0
OfKinds A B C D E F G = Side A (Side B (Side C (Side D (Side E (Side F G)))))

-- the first is of counters, the second of flags, and so on
abbrev pub at_counters : {X Y : Type 0} → X → Side X Y
at_counters x = First x

abbrev pub at_flags : {A X Y : Type 0} → X → Side A (Side X Y)
at_flags x = Second (First x)

abbrev pub at_last_writes : {A B X Y : Type 0} → X → Side A (Side B (Side X Y))
at_last_writes x = Second (Second (First x))

abbrev pub at_multis : {A B C X Y : Type 0} → X → Side A (Side B (Side C (Side X Y)))
at_multis x = Second (Second (Second (First x)))

abbrev pub at_sets : {A B C D X Y : Type 0} → X → Side A (Side B (Side C (Side D (Side X Y))))
at_sets x = Second (Second (Second (Second (First x))))

abbrev pub at_logs : {A B C D E X Y : Type 0} → X → Side A (Side B (Side C (Side D (Side E (Side X Y)))))
at_logs x = Second (Second (Second (Second (Second (First x)))))

abbrev pub at_queues : {A B C D E F X : Type 0} → X → OfKinds A B C D E F X
at_queues x = Second (Second (Second (Second (Second (Second x)))))
