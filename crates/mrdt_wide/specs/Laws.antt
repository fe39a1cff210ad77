-- The laws of a document with sequences, from those of a document and of sequences.
use Rattle.mrdt_model.specs.Laws.{KeepsLaws}
use Rattle.branch_doc.specs.Document.{document}
use Rattle.mrdt_both.specs.SidesLaws.{both_laws}
use Rattle.mrdt_doc.specs.Laws.{document_laws}
use Rattle.mrdt_map.specs.Keyed.{map_meaning}
use Rattle.mrdt_map.specs.MapLaws.{map_laws}
use Rattle.mrdt_sequence.specs.Sequence.{sequence_meaning}
use Rattle.mrdt_sequence.specs.SequenceLaws.{sequence_laws}
use Rattle.mrdt_wide.specs.Wide.{wide_document}

pub wide_laws : KeepsLaws wide_document
wide_laws = both_laws document (map_meaning sequence_meaning) document_laws
    (map_laws sequence_meaning sequence_laws)
