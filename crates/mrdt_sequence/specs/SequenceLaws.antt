-- The laws of the sequence.
use Rattle.std.proofs.Common.{◌≡◌, Option, [], ◌++◌, refl, ◌∙◌, ap, sym}
use Rattle.mrdt_model.specs.declared.time.Time.{Time}
use Rattle.mrdt_model.specs.Times.{among}
use Rattle.mrdt_model.specs.Executions.{times_of}
use Rattle.mrdt_model.specs.Laws.{KeepsLaws}
use Rattle.branch_wire.specs.Fields.{short_number}
use Rattle.branch_wire.proofs.OneWay.{short_numbers}
use Rattle.mrdt_sequence.specs.declared.op.SequenceOp.{SequenceOp}
use Rattle.mrdt_sequence.specs.declared.op.SequenceOp.TheVariants.{Insert, Delete}
use Rattle.mrdt_sequence.specs.Sequence.{IsOp, IsReply, nodes, sequence_reply, op_spelling, named_time, sequence_spelling, sequence_meaning}
use Rattle.mrdt_sequence.specs.Nodes.{reply-within}
use Rattle.mrdt_sequence.specs.InGrammar.{known-reply, nodes-inside}
use Rattle.mrdt_sequence.specs.Alike.{named_one}
use Rattle.mrdt_sequence.specs.Unchanged.{unchanged-left, unchanged-right}
use Rattle.mrdt_sequence.specs.AnyOrder.{nodes-alike, shows-alike}

one-op : (o p : SequenceOp) → IsOp o → IsOp p → op_spelling o ≡ op_spelling p → o ≡ p
one-op (Insert i u) (Insert j v) known also is =
    let behind : short_number i ++ u ≡ short_number j ++ v = cc is in
    let one = short_numbers.one i j u v known.0 also.0 behind in
    ap (λ k. Insert k u) one.0 ∙ ap (Insert j) one.1
one-op (Insert i u) (Delete j) known also is = absurd (cc is)
one-op (Delete i) (Insert j v) known also is = absurd (cc is)
one-op (Delete i) (Delete j) known also is =
    let behind : short_number i ≡ short_number j = cc is in
    ap Delete (short_numbers.one i j [] [] known also (ap (λ b. b ++ []) behind)).0

one-reply : (r s : Option Time) → IsReply r → IsReply s → named_time r ≡ named_time s → r ≡ s
one-reply r s known also is = (named_one r s [] [] known also (ap (λ b. b ++ []) is)).0

pub sequence_laws : KeepsLaws sequence_meaning
sequence_laws = record {
  one_spelling = λ s x l is. ap sequence_spelling is;
  replies_in_range = λ x o l known. known-reply x (sequence_reply x o) l.well_formed (reply-within (among (times_of x)) x o (λ t m. m));
  spelling_inside = λ x l short. (nodes x, nodes-inside x l.well_formed l.faithful l.few short, refl);
  op_inside = λ o known short. (o, known, refl);
  reply_inside = λ r known short. (r, known, refl);
  one_op = λ o p known also short is. one-op o p known also is;
  one_reply = λ r s known also short is. one-reply r s known also is;
  same_spelling = λ s t is. ap sequence_spelling is;
  same_stands = λ s t is. (λ x l stands. sym is ∙ stands, λ x l stands. is ∙ stands);
  unchanged_left = unchanged-left;
  unchanged_right = unchanged-right;
  any_order = λ x y l m same. shows-alike x y (nodes-alike x y l.well_formed l.faithful m.well_formed m.faithful same);
}
