-- What a map of mergeable values means: at each key, the values' type over the events on that key.
use Rattle.std.specs.Prelude.{◌≡◌, ◌≢◌, ℕ, ◌<◌, ◌^◌, Bool, if◌then◌else◌, Option, None, Some, List, [], ◌∷◌, ◌++◌, length, map}
use Rattle.std.specs.List.{AllByRecursion}
use Rattle.std.specs.Map.{lookup, keys_of}
use Rattle.std.specs.Ordering.{nat_cmp, is_eq, match_ordering}
use Rattle.std.specs.Cmp.Lexicographic.{slice_cmp}
use Rattle.std.specs.List.Sorted.{IsStrictlySortedBy}
use Rattle.mrdt_model.specs.declared.time.Time.{Time}
use Rattle.mrdt_model.specs.Times.{both, either}
use Rattle.mrdt_model.specs.Spelled.{IsBytes}
use Rattle.branch_wire.specs.Fields.{field, counted}
use Rattle.mrdt_model.specs.Executions.{Event, restrict, IsClosed, IsAfter, next_event, part_of}
use Rattle.mrdt_model.specs.Laws.{Meaning, Lawful}
use Rattle.mrdt_map.specs.declared.map.OnKey.{OnKey}
use Rattle.mrdt_map.specs.declared.map.MapQuery.{MapQuery}
use Rattle.mrdt_map.specs.declared.map.MapQuery.TheVariants.{AtKey, Keys}
use Rattle.mrdt_map.specs.declared.map.MapAnswer.{MapAnswer}
use Rattle.mrdt_map.specs.declared.map.MapAnswer.TheVariants.{OnValue, OnKeys}

-- whether two keys are the same
abbrev pub same_key : List ℕ → List ℕ → Bool
same_key j k = is_eq (slice_cmp nat_cmp j k)

-- what an entry list has at a key
abbrev pub value_at : {V : Type 0} → List (List ℕ × V) → List ℕ → Option V
value_at entries k = lookup (same_key k) entries

-- an operation and its reply, where they are on the key
abbrev pub at_key : {O R : Type 0} → List ℕ → OnKey O → R → Option (O × R)
at_key k o r = if same_key k o.key then Some (o.operation, r) else None

-- the events on a key
abbrev pub on_key : {O R : Type 0} → List ℕ → List (Event (OnKey O) R) → List (Event O R)
on_key k x = part_of (at_key k) x

-- an operation in range on a key of bytes
abbrev pub IsOnKey : {O : Type 0} → (O → Type 0) → OnKey O → Type 0
IsOnKey is_op o = IsBytes o.key × is_op o.operation

-- the reply of the values' type over the events on the key
abbrev pub key_reply : {O R : Type 0} → (List (Event O R) → O → R) → List (Event (OnKey O) R) → OnKey O → R
key_reply reply_of x o = reply_of (on_key o.key x) o.operation

-- a value, if there is one, that stands for the events; there is none where no event is
abbrev pub StandsAt : {V O R : Type 0} → (V → List (Event O R) → Type 0) → Option V → List (Event O R) → Type 0
StandsAt stands None y = y ≡ []
StandsAt stands (Some v) y = (y ≢ []) × stands v y

-- the entries, in the order of their keys, have a value for the events on each key
pub record StandsByKey {V O R : Type 0} (stands : V → List (Event O R) → Type 0) (entries : List (List ℕ × V)) (x : List (Event (OnKey O) R)) : Type 0 where
  pub ordered : IsStrictlySortedBy (slice_cmp nat_cmp) (keys_of entries)
  pub values : (k : List ℕ) → StandsAt stands (value_at entries k) (on_key k x)

-- as the law of merges, of values that may be missing
abbrev pub MergesAt : {V O R Q A : Type 0} → Meaning V O R Q A → Option V → Option V → Option V → Option V → Type 0
MergesAt {V} {O} {R} m base left right merged =
    (y : List (Event O R)) (a b : Time → Bool) → Lawful m y → IsClosed a y → IsClosed b y
    → StandsAt m.stands base (restrict (both a b) y) → StandsAt m.stands left (restrict a y) → StandsAt m.stands right (restrict b y)
    → StandsAt m.stands merged (restrict (either a b) y)

-- as the law of copies, of values that may be missing
abbrev pub CopiesAt : {V O R Q A : Type 0} → Meaning V O R Q A → Option V → Option V → Type 0
CopiesAt {V} {O} {R} m old new =
    (y : List (Event O R)) → Lawful m y → StandsAt m.stands old y → StandsAt m.stands new y

-- as the law of operations, on a value that may be missing
abbrev pub AppliesAt : {V O R Q A : Type 0} → Meaning V O R Q A → Option V → O → Time → V → R → Type 0
AppliesAt {V} {O} {R} m old operation time new reply =
    (y : List (Event O R)) → Lawful m y → StandsAt m.stands old y → IsAfter y time
    → (reply ≡ m.reply_of y operation) × m.stands new (next_event y time operation reply ∷ y)

-- the same keys in the same order, with values that are the same
abbrev pub AreSameEntries : {V : Type 0} → (V → V → Type 0) → List (List ℕ × V) → List (List ℕ × V) → Type 0
AreSameEntries same [] [] = Unit {0}
AreSameEntries same [] (f ∷ fs) = ⊥
AreSameEntries same (e ∷ es) [] = ⊥
AreSameEntries same (e ∷ es) (f ∷ fs) = (e.0 ≡ f.0) × same e.1 f.1 × AreSameEntries same es fs

-- the keys with this one in its place, in byte order
abbrev pub insert_key : List ℕ → List (List ℕ) → List (List ℕ)
insert_key k [] = k ∷ []
insert_key k (j ∷ ks) = match_ordering (slice_cmp nat_cmp k j) (k ∷ j ∷ ks) (j ∷ ks) (j ∷ insert_key k ks)

-- the keys of the operations, in byte order
abbrev pub touched : {O R : Type 0} → List (Event (OnKey O) R) → List (List ℕ)
touched [] = []
touched (e ∷ x) = insert_key e.operation.key (touched x)

-- each touched key with the events on it
abbrev pub parts : {O R : Type 0} → List (Event (OnKey O) R) → List (List ℕ × List (Event O R))
parts {O} {R} x = map {B = List ℕ × List (Event O R)} (λ k. (k, on_key k x)) (touched x)

-- a key and its value's spelling, each behind its length
abbrev pub entry_spelling : {V : Type 0} → (V → List ℕ) → List ℕ × V → List ℕ
entry_spelling value_spelling e = field e.0 ++ field (value_spelling e.1)

-- a count, and that many entries
abbrev pub entries_spelling : {V : Type 0} → (V → List ℕ) → List (List ℕ × V) → List ℕ
entries_spelling value_spelling entries = counted (entry_spelling value_spelling) entries

-- a key behind its length, and the operation as the rest
abbrev pub key_op_spelling : {O : Type 0} → (O → List ℕ) → OnKey O → List ℕ
key_op_spelling op_spelling o = field o.key ++ op_spelling o.operation

-- The grammars. A key has fewer than 2 ^ 64 bytes.
abbrev pub IsKey : List ℕ → Type 0
IsKey key = IsBytes key × (length key < 2 ^ 64)

-- an entry whose value's spelling is in the grammar of the values
abbrev pub IsEntry : (List ℕ → Type 0) → List ℕ × List ℕ → Type 0
IsEntry is_spelling e = IsKey e.0 × (length e.1 < 2 ^ 64) × is_spelling e.1

-- such entries, whose keys rise
abbrev pub AreInOrder : (List ℕ → Type 0) → List (List ℕ × List ℕ) → Type 0
AreInOrder is_spelling entries = IsStrictlySortedBy (slice_cmp nat_cmp) (keys_of entries) × AllByRecursion (IsEntry is_spelling) entries

-- few enough to be counted
abbrev pub AreEntries : (List ℕ → Type 0) → List (List ℕ × List ℕ) → Type 0
AreEntries is_spelling entries = (length entries < 2 ^ 64) × AreInOrder is_spelling entries

-- a value's spelling is its own
abbrev pub as_spelled : List ℕ → List ℕ
as_spelled spelling = spelling

-- the spelling of some such entries
abbrev pub IsEntriesSpelling : (List ℕ → Type 0) → List ℕ → Type 0
IsEntriesSpelling is_spelling bytes = (entries : List (List ℕ × List ℕ)) × AreEntries is_spelling entries × (bytes ≡ entries_spelling as_spelled entries)

-- a key behind its length, and a rest that is in the grammar of the values' operations
abbrev pub IsKeyOpSpelling : (List ℕ → Type 0) → List ℕ → Type 0
IsKeyOpSpelling is_spelling bytes = (key : List ℕ) × (rest : List ℕ) × IsKey key × is_spelling rest × (bytes ≡ field key ++ rest)

-- the answer about a key, or the keys
abbrev pub key_answer : {O R Q A : Type 0} → (List (Event O R) → Q → A) → List (Event (OnKey O) R) → MapQuery Q → MapAnswer A
key_answer answer_of x (AtKey k q) = OnValue (answer_of (on_key k x) q)
key_answer answer_of x Keys = OnKeys (touched x)

-- a map of values that mean this
abbrev pub map_meaning : {V O R Q A : Type 0} → Meaning V O R Q A → Meaning (List (List ℕ × V)) (OnKey O) R (MapQuery Q) (MapAnswer A)
map_meaning m = record {
  is_op = IsOnKey m.is_op;
  is_reply = m.is_reply;
  reply_of = key_reply m.reply_of;
  answer_of = key_answer m.answer_of;
  spelling_of = λ x. entries_spelling m.spelling_of (parts x);
  stands = StandsByKey m.stands;
  is_same = AreSameEntries m.is_same;
  state_spelling = entries_spelling m.state_spelling;
  op_spelling = key_op_spelling m.op_spelling;
  reply_spelling = m.reply_spelling;
  is_state_spelling = IsEntriesSpelling m.is_state_spelling;
  is_op_spelling = IsKeyOpSpelling m.is_op_spelling;
  is_reply_spelling = m.is_reply_spelling;
}
