use Rattle.std.proofs.Common.{◌≡◌, Some, take}
use Rattle.clap.specs.Walk.{texts}
use Rattle.branch_command.specs.Bundles.{addresses_of}
use Rattle.branch_command.proofs.bundles.read_addresses.Given as goal

-- the words before this one say the addresses so far
abbrev pub invariant-loop-word : goal.invariant-loop-word
invariant-loop-word l = addresses_of (texts (take l.word-index l.words)) ≡ Some l.here.items
