-- A document as one JSON object on one line.
use Rattle.std.specs.Prelude.{ℕ, Bool, true, false, ◌&&◌, not, nat_eq, nat_le, Option, None, Some, List, [], ◌∷◌, ◌++◌, codes, map, filter, if◌then◌else◌}
use Rattle.std.specs.Fmt.{signed_decimal}
use Rattle.std.specs.List.{flat_map}
use Rattle.hex.specs.Hex.{encode_lower}
use Rattle.live_set.specs.declared.kept.Kept.{Kept}
use Rattle.branch_doc.specs.declared.plain.Kind.{Kind}
use Rattle.branch_doc.specs.declared.plain.PlainQuery.TheVariants.{Keys}
use Rattle.branch_doc.specs.declared.plain.PlainAnswer.{PlainAnswer}
use Rattle.branch_doc.specs.declared.plain.PlainAnswer.TheVariants.{CounterValue, FlagIsOn, LwwGet, MultiValues, SetMembers, LogRead, QueueItems, SequenceRead}
use Rattle.branch_print.specs.Texts.{time_text, line_end}
use Rattle.branch_words.specs.Words.{kind_word}
use Rattle.branch_show.specs.Documents.{Answering, all_kinds, whole_query, keys_of}

-- texts, with a comma between two
abbrev pub with_commas : List (List ℕ) → List ℕ
with_commas [] = []
with_commas (text ∷ texts) = text ++ flat_map (λ t. codes "," ++ t) texts

-- whether a byte stands for itself: one of 32 to 126, but for `"` and `\`
abbrev pub is_itself : ℕ → Bool
is_itself b = nat_le 32 b && nat_le b 126 && not (nat_eq b 34) && not (nat_eq b 92)

-- a byte in a string: `\"`, `\\`, or `\u00` and two lower-case hexadecimal digits
abbrev pub json_byte : ℕ → List ℕ
json_byte b =
    if is_itself b then b ∷ []
    else if nat_eq b 34 then codes "\\\""
    else if nat_eq b 92 then codes "\\\\"
    else codes "\\u00" ++ encode_lower (b ∷ [])

-- a string of bytes
abbrev pub json_string : List ℕ → List ℕ
json_string bytes = codes "\"" ++ flat_map json_byte bytes ++ codes "\""

-- an array of such texts
abbrev pub json_array : {X : Type 0} → (X → List ℕ) → List X → List ℕ
json_array text items = codes "[" ++ with_commas (map text items) ++ codes "]"

-- a member of an object
abbrev pub json_member : List ℕ → List ℕ → List ℕ
json_member name text = json_string name ++ codes ":" ++ text

-- an object of such members
abbrev pub json_object : List (List ℕ) → List ℕ
json_object members = codes "{" ++ with_commas members ++ codes "}"

-- a time, and what was put then
abbrev pub json_entry : Kept (List ℕ) → List ℕ
json_entry entry =
    json_object (json_member (codes "time") (json_string (time_text entry.time))
    ∷ json_member (codes "word") (json_string entry.payload) ∷ [])

-- the string that there is, or `null`
abbrev pub json_maybe : Option (List ℕ) → List ℕ
json_maybe None = codes "null"
json_maybe (Some bytes) = json_string bytes

-- what is at a key; the answers to other queries are not asked for
abbrev pub json_answer : Option PlainAnswer → List ℕ
json_answer (Some (CounterValue value)) = signed_decimal value
json_answer (Some (FlagIsOn is_on)) = if is_on then codes "true" else codes "false"
json_answer (Some (LwwGet payload)) = json_maybe payload
json_answer (Some (MultiValues payloads)) = json_array json_string payloads
json_answer (Some (SetMembers members)) = json_array json_string members
json_answer (Some (LogRead entries)) = json_array json_entry entries
json_answer (Some (QueueItems entries)) = json_array json_entry entries
json_answer (Some (SequenceRead entries)) = json_array json_entry entries
json_answer other = codes "null"

-- the member of a key
abbrev pub key_member : Answering → Kind → List ℕ → List ℕ
key_member answers k key = json_member key (json_answer (answers (whole_query k key)))

-- the member of a kind: an object with a member for each key
abbrev pub kind_member : Answering → Kind → List ℕ
kind_member answers k = json_member (kind_word k) (json_object (map (key_member answers k) (keys_of answers k)))

-- whether the document has values of a kind, of which it then tells the keys
abbrev pub is_told : Option PlainAnswer → Bool
is_told None = false
is_told (Some given) = true

-- the document: a member for each kind of which it has values
unfoldable pub json_text : Answering → List ℕ
json_text answers =
    json_object (map (kind_member answers) (filter (λ k. is_told (answers (Keys k))) all_kinds)) ++ line_end
