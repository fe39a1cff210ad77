use Rattle.std.proofs.Common.{◌≡◌, true, map, take}
use Rattle.std.specs.List.{list_all}
use Rattle.branch_names.specs.Names.{is_name}
use Rattle.branch_script.proofs.form.join_words.Given as goal

abbrev pub invariant-loop-word : goal.invariant-loop-word
invariant-loop-word l = record {
  names : list_all (λ word. is_name word.now) (take l.word-index l.branches) ≡ true;
  read : l.names.items ≡ map (λ word. word.now) (take l.word-index l.branches);
}
