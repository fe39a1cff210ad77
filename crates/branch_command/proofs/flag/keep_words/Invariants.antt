use Rattle.std.proofs.Common.{◌≡◌, ◌++◌, map, take}
use Rattle.std.specs.String.{string_bytes}
use Rattle.std.specs.List.{list_any}
use Rattle.branch_command.specs.Flags.{is_last, flag_among, but_flag}
use Rattle.branch_command.proofs.flag.keep_words.Given as goal

-- the words before this one are kept but for the flag, and what was read of them is told
abbrev pub invariant-loop-word : goal.invariant-loop-word
invariant-loop-word l =
    (map string_bytes l.kept.items ≡ map string_bytes l.initial.kept.items ++ but_flag (map string_bytes (take l.word-index l.words)))
    × (l.read.is_over ≡ list_any is_last (map string_bytes (take l.word-index l.words)))
    × (l.read.is_found ≡ flag_among (map string_bytes (take l.word-index l.words)))
