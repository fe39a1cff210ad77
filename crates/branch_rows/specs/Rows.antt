-- The worked rows, over addresses that only the length of bytes decides.
use Rattle.std.specs.Prelude.{◌≡◌, ℕ, Some, List, [], ◌∷◌, ◌++◌, codes, pos, refl}
use native.Mathlib.Nat.{le_intro}
use Rattle.mrdt_counter.specs.Counter.{counter_meaning}
use Rattle.mrdt_counter.specs.declared.counter.CounterOp.{CounterOp}
use Rattle.mrdt_counter.specs.declared.counter.CounterOp.TheVariants.{Add}
use Rattle.mrdt_map.specs.declared.map.OnKey.{OnKey}
use Rattle.mrdt_map.specs.Keyed.{map_meaning}
use Rattle.mrdt_both.specs.declared.both.Side.TheVariants.{First}
use Rattle.branch_doc.specs.Document.{DocState, document}
use Rattle.branch_doc.specs.Forms.{DocOp, DocReply, DocQuery, DocAnswer}
use Rattle.branch_address.specs.Weak.{weak_address}
use Rattle.branch_names.specs.declared.layout.Layout.{Layout}
use Rattle.branch_names.specs.declared.layout.Layout.TheVariants.{Whole, Changes}
use Rattle.branch_names.specs.declared.limits.Limits.{Limits}
use Rattle.branch_names.specs.declared.terms.Terms.{Terms}
use Rattle.branch_names.specs.Ranges.{AreInRange, AreOrigins}
use Rattle.heads_journal.specs.Format.{header_fields}
use Rattle.branch_history.specs.declared.moves.Move.{Move}
use Rattle.branch_history.specs.declared.moves.Move.TheVariants as move
use Rattle.branch_history.specs.Steps.{Land, Collision, Refused}
use Rattle.branch_machine.specs.Fixed.{Fixed, fix}
use Rattle.branch_machine.specs.Objects.{objects_text, end_of}
use Rattle.branch_machine.specs.Machine.{full_turn}
use Rattle.branch_files.specs.Records.{header_for, history_text}
use Rattle.branch_rows.specs.Bytes.{address_of, letters, fresh_value, root, bare_root, bare_commit, bare_record, bare_header_of_100, hits_value, hits_commit, hits_record, header_of_100, received_record, place_record, drop_record, fresh_map, map_root, map_value, map_commit, map_record, joined_value, joined_commit, join_record, letter_value, letter_commit}

abbrev pub store : Terms → Fixed DocState DocOp DocReply DocQuery DocAnswer
store terms = fix document terms weak_address

-- limits, with a first origin
abbrev pub from : (origin : ℕ) (limits : Limits) → AreOrigins origin limits.branches → Terms
from origin limits in_range = record { limits = limits; origin = origin; kind = 0; layout = Whole; small = le_intro 1 255 refl; in_range = in_range }

-- terms with another layout
abbrev pub laid_out : Layout → Terms → Terms
laid_out layout terms = record { limits = terms.limits; origin = terms.origin; kind = terms.kind; layout = layout; small = terms.small; in_range = terms.in_range }

-- limits of a thousand each
abbrev pub thousands : AreInRange 1000 1000 1000 1000 1000 → Limits
thousands in_range = record { clock = 1000; commits = 1000; branches = 1000; value = 1000; moves = 1000; in_range = in_range }

-- the operation that adds to a counter
abbrev pub adds : List ℕ → ℕ → OnKey CounterOp
adds key n = record { key = key; operation = Add (pos n) }

-- 5 is added to `hits` on `main`
abbrev pub hits : List (Move DocOp DocReply)
hits = move.Operation 0 (First (adds (codes "hits") 5)) (First tt) ∷ []

-- 1 is added to `a`
abbrev pub letter : DocOp
letter = First (adds (codes "a") 1)

-- one more branch, and that operation on `main`
abbrev pub two_branches : List (Move DocOp DocReply)
two_branches = move.Fork (codes "b") 1 0 ∷ move.Operation 0 letter (First tt) ∷ []

-- an addition of the origin 0 is received, has a branch, and this is dropped
abbrev pub received : List (Move DocOp DocReply)
received =
    move.Received (0 ∷ []) 0 1 (Some (First (adds (codes "hits") 5), First tt)) ∷ move.Place (codes "other") 1 1 ∷ move.Drop 1 ∷ []

-- of a store of maps of counters: two additions of other origins are received, and joined to `main`
abbrev pub joined : List (Move (OnKey CounterOp) (Unit {0}))
joined =
    move.Received (0 ∷ []) 7 1 (Some (adds (codes "c") 1, tt)) ∷ move.Received (0 ∷ []) 8 1 (Some (adds (codes "c") 10, tt))
    ∷ move.Join 0 (1 ∷ 2 ∷ []) ∷ []

-- a fresh store
abbrev pub WritesFreshStore : Type 0
WritesFreshStore =
    (terms : Terms) → let whole = laid_out Whole terms in
    (objects_text (store whole) [] ≡ letters ++ fresh_value ++ root)
    × (end_of (store whole) [] ≡ 191)
    × (history_text (store whole) [] ≡ 1 ∷ header_fields (header_for whole))

-- a fresh store that keeps no values
abbrev pub WritesFreshChanges : Type 0
WritesFreshChanges =
    (terms : Terms) → let bare = laid_out Changes terms in
    (objects_text (store bare) [] ≡ letters ++ bare_root)
    × (end_of (store bare) [] ≡ 46)
    × (history_text (store bare) [] ≡ 1 ∷ header_fields (header_for bare))

-- after one operation in such a store, whose first origin is 100
abbrev pub WritesOneChange : Type 0
WritesOneChange =
    (in_range : AreInRange 1000 1000 1000 1000 1000) (origins : AreOrigins 100 1000)
    → let bare = laid_out Changes (from 100 (thousands in_range) origins) in
    (objects_text (store bare) hits ≡ letters ++ bare_root ++ bare_commit 100 5)
    × (end_of (store bare) hits ≡ 146)
    × (history_text (store bare) hits ≡ bare_header_of_100 ++ bare_record)

-- after one operation
abbrev pub WritesOneOperation : Type 0
WritesOneOperation =
    (limits : Limits) (in_range : AreOrigins 0 limits.branches)
    → let terms = from 0 limits in_range in
    (objects_text (store terms) hits ≡ letters ++ fresh_value ++ root ++ hits_value 0 5 ++ hits_commit 0 5)
    × (end_of (store terms) hits ≡ 484)
    × (history_text (store terms) hits ≡ 1 ∷ (header_fields (header_for terms) ++ hits_record))

-- after what was received, in a store whose first origin is 100
abbrev pub WritesReceived : Type 0
WritesReceived =
    (in_range : AreInRange 1000 1000 1000 1000 1000) (origins : AreOrigins 100 1000)
    → let terms = from 100 (thousands in_range) origins in
    (objects_text (store terms) received ≡ letters ++ fresh_value ++ root ++ hits_value 0 5 ++ hits_commit 0 5)
    × (end_of (store terms) received ≡ 484)
    × (history_text (store terms) received ≡ header_of_100 ++ received_record ++ place_record ++ drop_record)

-- on the other branch, by one that sees the root, the operation: the amount has another time, in a value of as many bytes
abbrev pub RefusesTwoValues : Type 0
RefusesTwoValues =
    (in_range : AreInRange 1000 1000 1000 1000 1000) (origins : AreOrigins 0 1000)
    → let t = full_turn (store (from 0 (thousands in_range) origins)) two_branches (Land 1 0 letter) in
    (t.outcome ≡ Refused (Collision (address_of 158) (letter_value 0) (letter_value 1))) × (t.made ≡ [])

-- on `main`, by one that sees its operation, the operation again: a longer value, and another commit of as many bytes
abbrev pub RefusesTwoCommits : Type 0
RefusesTwoCommits =
    (in_range : AreInRange 1000 1000 1000 1000 1000) (origins : AreOrigins 0 1000)
    → let t = full_turn (store (from 0 (thousands in_range) origins)) two_branches (Land 0 1 letter) in
    (t.outcome ≡ Refused (Collision (address_of 129) (letter_commit 62 158 1) (letter_commit 129 178 2))) × (t.made ≡ [])

-- a store of the map of counters
abbrev pub WritesMaps : Type 0
WritesMaps =
    (terms : Terms) → let maps = fix (map_meaning counter_meaning) (laid_out Whole terms) weak_address in
    (end_of maps [] ≡ 95) × (end_of maps (move.Operation 0 (adds (codes "hits") 5) tt ∷ []) ≡ 290)

-- such a store after a join
abbrev pub WritesJoin : Type 0
WritesJoin =
    (limits : Limits) (in_range : AreOrigins 0 limits.branches)
    → let maps = fix (map_meaning counter_meaning) (from 0 limits in_range) weak_address in
    (objects_text maps joined
    ≡ letters ++ fresh_map ++ map_root ++ map_value 7 1 ++ map_commit 7 1 ++ map_value 8 10 ++ map_commit 8 10 ++ joined_value ++ joined_commit)
    × (end_of maps joined ≡ 713)
    × (history_text maps joined ≡ 1 ∷ (header_fields (header_for (from 0 limits in_range)) ++ map_record 1 28 ++ map_record 1 217 ++ join_record))
