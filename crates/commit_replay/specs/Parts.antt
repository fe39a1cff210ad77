-- The objects of one commit as they stand: that of its value, if its layout keeps it and it was not stored before, and its own.
use Rattle.std.specs.Prelude.{◌≡◌, ℕ, List, [], ◌++◌, length}
use Rattle.std.specs.declared.option.Option.{Option}
use Rattle.std.specs.declared.option.Option.TheVariants.{None, Some}
use Rattle.mrdt_model.specs.Laws.{Meaning}
use Rattle.branch_names.specs.declared.layout.Layout.{Layout}
use Rattle.branch_names.specs.declared.layout.Layout.TheVariants.{Whole}
use Rattle.branch_wire.specs.Reading.{HasLength64}
use Rattle.branch_wire.specs.Objects.{CommitFields, value_object, commit_object}
use Rattle.branch_objects_codec.specs.Grammar.{IsCommit}
use Rattle.branch_files.specs.Next.{IsLaidOut}
use Rattle.commit_replay.specs.declared.commit.NotRemade.{NotRemade}
use Rattle.commit_replay.specs.declared.commit.NotRemade.TheVariants as unmade
use Rattle.mrdt_model.specs.declared.errors.Unread.{Unread}
use Rattle.mrdt_model.specs.declared.errors.Unread.TheVariants as unread
use Rattle.commit_replay.specs.declared.parts.Parts.{Parts}

-- the bytes of the object of a value that has this spelling, or none
abbrev pub value_text : Option (List ℕ) → List ℕ
value_text None = []
value_text (Some spelling) = value_object spelling

-- no value is told, or the layout keeps values, and its spelling is not too long
abbrev pub IsKept : Layout → Option (List ℕ) → Type 0
IsKept layout None = Unit {0}
IsKept layout (Some spelling) = (layout ≡ Whole) × HasLength64 spelling

-- the bytes are the object of a value with this spelling, or nothing, and the object of this commit, as the layout has them
pub record AreParts (layout : Layout) (bytes : List ℕ) (value : Option (List ℕ)) (c : CommitFields) : Type 0 where
  pub kept : IsKept layout value
  pub commit : IsCommit c
  pub laid_out : IsLaidOut layout c.value
  pub whole : bytes ≡ value_text value ++ commit_object c

-- the commit's object does this, and has so many parents and, where the layout keeps values, this address of its value
pub record IsDoneIn (layout : Layout) (bytes : List ℕ) (parts : Parts) : Type 0 where
  pub commit : CommitFields
  pub placed : length (value_text parts.value) ≡ parts.place
  pub counted : length commit.parents ≡ parts.parents
  pub addressed : commit.value ≡ parts.address
  pub does : commit.action ≡ parts.action
  pub are : AreParts layout bytes parts.value commit

-- the value, if its object stands there, is spelled as the type has it
abbrev pub IsOfType : {S O R Q A : Type 0} → Meaning S O R Q A → Option (List ℕ) → Type 0
IsOfType meaning None = Unit {0}
IsOfType meaning (Some spelling) = meaning.is_state_spelling spelling

-- what it means that bytes of objects were not read
abbrev pub unread_as : Unread → NotRemade
unread_as unread.NotCanonical = unmade.Object
unread_as unread.Memory = unmade.Memory

-- why bytes were refused that are no commit's of the machine: the value's are none of the type, or the commit is made otherwise
abbrev pub IsWhyNot : {S O R Q A : Type 0} → Meaning S O R Q A → Option (List ℕ) → NotRemade → Type 0
IsWhyNot meaning value unmade.Object = ¬ IsOfType meaning value
IsWhyNot meaning value unmade.Commit = IsOfType meaning value
IsWhyNot meaning value unmade.Memory = Unit {0}
