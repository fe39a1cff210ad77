-- The bytes of the rows, written out.
use Rattle.std.specs.Prelude.{ℕ, List, [], ◌∷◌, ◌++◌, codes, replicate}

abbrev pub zeros : ℕ → List ℕ
zeros n = replicate n 0

-- a number below 256 in eight bytes, and the address of an object of so many bytes
abbrev pub eight : ℕ → List ℕ
eight n = zeros 7 ++ n ∷ []

abbrev pub address_of : ℕ → List ℕ
address_of n = zeros 31 ++ n ∷ []

-- a map without keys, behind its length
abbrev pub no_keys : List ℕ
no_keys = eight 8 ++ zeros 8

-- the maps of a document behind that of counters
abbrev pub other_maps : List ℕ
other_maps = no_keys ++ no_keys ++ no_keys ++ no_keys ++ no_keys ++ zeros 8

-- the object of the document without keys
abbrev pub fresh_value : List ℕ
fresh_value = 1 ∷ eight 104 ++ no_keys ++ other_maps

-- the object of the root commit, above that value
abbrev pub root : List ℕ
root = 2 ∷ eight 53 ++ zeros 8 ++ zeros 4 ++ zeros 8 ++ address_of 113 ++ 0 ∷ []

-- the object of the root commit in the layout that keeps no values
abbrev pub bare_root : List ℕ
bare_root = 3 ∷ eight 21 ++ zeros 8 ++ zeros 4 ++ zeros 8 ++ 0 ∷ []

-- the header of the objects
abbrev pub letters : List ℕ
letters = codes "MRDTOBJS" ++ 0 ∷ 0 ∷ 0 ∷ 2 ∷ zeros 4

-- an amount that was added by an origin, with its time
abbrev pub amount_at : ℕ → ℕ → ℕ → List ℕ
amount_at clock origin n = eight clock ++ zeros 3 ++ origin ∷ eight n

-- the object of the document in which the counter `hits` has an amount that an origin added first
abbrev pub hits_value : ℕ → ℕ → List ℕ
hits_value origin n = 1 ∷ eight 152 ++ eight 56 ++ eight 1 ++ eight 4 ++ codes "hits" ++ eight 28 ++ eight 1 ++ amount_at 1 origin n ++ other_maps

-- the object of the commit above the root, of an origin, that adds an amount to `hits`
abbrev pub hits_commit : ℕ → ℕ → List ℕ
hits_commit origin n =
    2 ∷ eight 123 ++ eight 1 ++ address_of 62 ++ zeros 3 ++ origin ∷ eight 1 ++ address_of 161
    ++ 1 ∷ eight 21 ++ 1 ∷ eight 4 ++ codes "hits" ++ eight n ++ eight 1 ++ 1 ∷ []

-- and in the layout that keeps no values
abbrev pub bare_commit : ℕ → ℕ → List ℕ
bare_commit origin n =
    3 ∷ eight 91 ++ eight 1 ++ address_of 30 ++ zeros 3 ++ origin ∷ eight 1
    ++ 1 ∷ eight 21 ++ 1 ∷ eight 4 ++ codes "hits" ++ eight n ++ eight 1 ++ 1 ∷ []

-- the record of the commit without a value on `main`, behind its gate: the objects end at 146
abbrev pub bare_record : List ℕ
bare_record = 1 ∷ 2 ∷ zeros 4 ++ zeros 4 ++ zeros 7 ++ 146 ∷ address_of 100 ++ zeros 14

-- the record of the commit with a value on `main`, behind its gate: the objects end at 484
abbrev pub hits_record : List ℕ
hits_record = 1 ∷ 2 ∷ zeros 4 ++ zeros 4 ++ zeros 6 ++ 1 ∷ 228 ∷ address_of 132 ++ zeros 14

-- the header with limits of a thousand each and the first origin 100
abbrev pub header_of_100 : List ℕ
header_of_100 =
    1 ∷ codes "MRDTHEAD" ++ zeros 3 ++ 2 ∷ zeros 6 ++ 3 ∷ 232 ∷ zeros 2 ++ 3 ∷ 232 ∷ zeros 2 ++ 3 ∷ 232 ∷ zeros 6 ++ 3 ∷ 232 ∷ zeros 6
    ++ 3 ∷ 232 ∷ 0 ∷ zeros 3 ++ 100 ∷ zeros 14

-- and of a store that keeps no values
abbrev pub bare_header_of_100 : List ℕ
bare_header_of_100 =
    1 ∷ codes "MRDTHEAD" ++ zeros 3 ++ 2 ∷ zeros 6 ++ 3 ∷ 232 ∷ zeros 2 ++ 3 ∷ 232 ∷ zeros 2 ++ 3 ∷ 232 ∷ zeros 6 ++ 3 ∷ 232 ∷ zeros 6
    ++ 3 ∷ 232 ∷ 0 ∷ zeros 3 ++ 100 ∷ 1 ∷ zeros 13

-- the record of a commit that was received: the objects end at 484
abbrev pub received_record : List ℕ
received_record = 1 ∷ 6 ∷ zeros 4 ++ zeros 4 ++ zeros 6 ++ 1 ∷ 228 ∷ address_of 132 ++ zeros 14

-- the record of the branch `other`, which is placed at commit 1 as number 1
abbrev pub place_record : List ℕ
place_record = 1 ∷ 7 ∷ zeros 3 ++ 1 ∷ zeros 3 ++ 1 ∷ zeros 6 ++ 1 ∷ 228 ∷ codes "other" ++ zeros 27 ++ zeros 14

-- the record of its drop
abbrev pub drop_record : List ℕ
drop_record = 1 ∷ 8 ∷ zeros 3 ++ 1 ∷ zeros 4 ++ zeros 6 ++ 1 ∷ 228 ∷ zeros 32 ++ zeros 14

-- Of a store of maps of counters: the map without keys, and the object of the root commit above it.
abbrev pub fresh_map : List ℕ
fresh_map = 1 ∷ eight 8 ++ zeros 8

abbrev pub map_root : List ℕ
map_root = 2 ∷ eight 53 ++ zeros 8 ++ zeros 4 ++ zeros 8 ++ address_of 17 ++ 0 ∷ []

-- the object of the map in which the counter `c` has an amount that an origin added first
abbrev pub map_value : ℕ → ℕ → List ℕ
map_value origin n = 1 ∷ eight 53 ++ eight 1 ++ eight 1 ++ codes "c" ++ eight 28 ++ eight 1 ++ amount_at 1 origin n

-- the object of the commit above the root, of an origin, that adds an amount to `c`
abbrev pub map_commit : ℕ → ℕ → List ℕ
map_commit origin n =
    2 ∷ eight 118 ++ eight 1 ++ address_of 62 ++ zeros 3 ++ origin ∷ eight 1 ++ address_of 62
    ++ 1 ∷ eight 17 ++ eight 1 ++ codes "c" ++ eight n ++ eight 0

-- the record of the first such commit that is received, and of the second: the objects end at 284 and at 473
abbrev pub map_record : ℕ → ℕ → List ℕ
map_record high low = 1 ∷ 6 ∷ zeros 4 ++ zeros 4 ++ zeros 6 ++ high ∷ low ∷ address_of 127 ++ zeros 14

-- the object of the map in which `c` has the amounts 1 and 10 of the origins 7 and 8
abbrev pub joined_value : List ℕ
joined_value = 1 ∷ eight 73 ++ eight 1 ++ eight 1 ++ codes "c" ++ eight 48 ++ eight 2 ++ amount_at 1 7 1 ++ amount_at 1 8 10

-- the object of the commit on `main` that joins those two to the root
abbrev pub joined_commit : List ℕ
joined_commit = 2 ∷ eight 149 ++ eight 3 ++ address_of 62 ++ address_of 127 ++ address_of 127 ++ zeros 4 ++ eight 1 ++ address_of 82 ++ 2 ∷ []

-- its record, which joins the commits 1 and 2 to the head of `main`: the objects end at 713
abbrev pub join_record : List ℕ
join_record = 1 ∷ 5 ∷ zeros 4 ++ zeros 3 ++ 2 ∷ zeros 6 ++ 2 ∷ 201 ∷ zeros 3 ++ 1 ∷ zeros 3 ++ 2 ∷ zeros 24 ++ zeros 14

-- the object of the document in which the counter `a` has the amount 1, which a branch added first
abbrev pub letter_value : ℕ → List ℕ
letter_value branch = 1 ∷ eight 149 ++ eight 53 ++ eight 1 ++ eight 1 ++ codes "a" ++ eight 28 ++ eight 1 ++ amount_at 1 branch 1 ++ other_maps

-- the object of the commit on `main` that adds 1 to `a`: by the lengths of its parent and of its value, and its clock
abbrev pub letter_commit : ℕ → ℕ → ℕ → List ℕ
letter_commit parent value clock =
    2 ∷ eight 120 ++ eight 1 ++ address_of parent ++ zeros 4 ++ eight clock ++ address_of value
    ++ 1 ∷ eight 18 ++ 1 ∷ eight 1 ++ codes "a" ++ eight 1 ++ eight 1 ++ 1 ∷ []
