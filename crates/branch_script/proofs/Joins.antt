-- The words of a join.
use Rattle.std.proofs.Common.{◌≡◌, ℕ, true, false, Bor, List, map, refl, Ok, Err}
use Rattle.std.specs.List.{list_all}
use Rattle.branch_names.specs.Names.{is_name}
use Rattle.branch_script.specs.declared.step.Step.TheVariants.{Join}
use Rattle.branch_script.specs.declared.step.LineRefused.TheVariants.{BadName}
use Rattle.branch_script.specs.Script.{join_words}

-- the bytes of words
abbrev pub bytes_of : List (Bor (List ℕ)) → List (List ℕ)
bytes_of words = map (λ word. word.now) words

-- names are joined
pub names_join : (session : List ℕ) (branches : List (List ℕ)) → is_name session ≡ true → list_all is_name branches ≡ true → join_words session branches ≡ Ok (Join session branches)
names_join session branches named all = rw (named, all) refl

-- a branch has no name
pub bad_branch : (session : List ℕ) (branches : List (List ℕ)) → is_name session ≡ true → list_all is_name branches ≡ false → join_words session branches ≡ Err BadName
bad_branch session branches named all = rw (named, all) refl
