-- The texts of what a store holds, and of how it is made and opened.
use Rattle.std.specs.Prelude.{ℕ, List, [], ◌++◌, codes, decimal, length, if◌then◌else◌}
use Rattle.std.specs.List.{flat_map}
use Rattle.branch_disk.specs.declared.part.Part.{Part}
use Rattle.branch_disk.specs.declared.part.Part.TheVariants.{Objects, Heads}
use Rattle.branch_names.specs.declared.branch.Branch.{Branch}
use Rattle.branch_history.specs.declared.moves.Move.{Move}
use Rattle.branch_history.specs.History.{store_of}
use Rattle.branch_print.specs.Texts.{line_end}

-- a branch, by its name and the number of its head
abbrev pub branch_text : List ℕ → ℕ → List ℕ
branch_text name head = codes "branch " ++ name ++ codes " #" ++ decimal head

abbrev pub totals_text : ℕ → ℕ → ℕ → List ℕ
totals_text moves commits branches = codes "moves " ++ decimal moves ++ codes " commits " ++ decimal commits ++ codes " branches " ++ decimal branches

-- a line for a branch, but none where it was dropped
abbrev pub branch_line : Branch → List ℕ
branch_line b = if b.dropped then [] else branch_text b.name b.head ++ line_end

-- a line for each branch by number, less those that were dropped
abbrev pub branches_text : List Branch → List ℕ
branches_text branches = flat_map branch_line branches

-- The report of a store of a first origin with this history: its branches by number, and then how much it holds. The
-- branches that were dropped count among them.
unfoldable pub report_text : {O R : Type 0} → ℕ → List (Move O R) → List ℕ
report_text origin moves =
    let store = store_of origin moves in
    branches_text store.branches ++ totals_text (length moves) (length store.commits) (length store.branches) ++ line_end

-- a new store was made
abbrev pub ready_text : List ℕ
ready_text = codes "ready" ++ line_end

-- there are bytes already where one was to be made
abbrev pub not_empty_text : List ℕ
not_empty_text = codes "refused not empty" ++ line_end

-- so many moves of a store of the old version were made anew in the new one
abbrev pub upgraded_text : ℕ → List ℕ
upgraded_text moves = codes "upgraded " ++ decimal moves ++ line_end

-- so many moves of a history stay in the compact one, of so many
abbrev pub compacted_text : ℕ → ℕ → List ℕ
compacted_text kept moves =
    codes "compacted " ++ decimal kept ++ codes " of " ++ decimal moves ++ line_end

-- why files are not opened
abbrev pub no_store_text : List ℕ
no_store_text = codes "refused not a store" ++ line_end

abbrev pub old_version_text : List ℕ
old_version_text = codes "refused old version" ++ line_end

abbrev pub bad_record_text : ℕ → List ℕ
bad_record_text number = codes "refused record " ++ decimal number ++ line_end

abbrev pub bad_object_text : ℕ → List ℕ
bad_object_text place = codes "refused object " ++ decimal place ++ line_end

abbrev pub bad_commit_text : ℕ → List ℕ
bad_commit_text number = codes "refused commit " ++ decimal number ++ line_end

abbrev pub part_text : Part → List ℕ
part_text Objects = codes "objects"
part_text Heads = codes "heads"

abbrev pub truncated_text : Part → ℕ → List ℕ
truncated_text part place = codes "refused truncated " ++ part_text part ++ codes " " ++ decimal place ++ line_end

-- why a store of the old version is not made anew: the move of this commit
abbrev pub no_upgrade_text : ℕ → List ℕ
no_upgrade_text number = codes "refused upgrade " ++ decimal number ++ line_end
