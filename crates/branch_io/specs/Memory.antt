-- What a source and a sink in memory hold.
use Rattle.std.specs.Prelude.{ℕ, List, drop}
use Rattle.branch_io.specs.declared.memory.MemorySource.{MemorySource}
use Rattle.branch_io.specs.declared.memory.MemorySink.{MemorySink}
use Rattle.branch_io.specs.declared.faults.Faults.{Faults}

-- the bytes that a source has left, the most that one call gives, and the calls that fail
abbrev pub rest_of : MemorySource → List ℕ
rest_of source = drop source.at source.bytes.items

abbrev pub piece_of : MemorySource → ℕ
piece_of source = source.piece

abbrev pub source_faults : MemorySource → Faults
source_faults source = source.faults

-- the bytes that a sink was given, and the calls that fail
abbrev pub bytes_of : MemorySink → List ℕ
bytes_of sink = sink.bytes.items

abbrev pub sink_faults : MemorySink → Faults
sink_faults sink = sink.faults
