-- The first object is read in one way.
use Rattle.std.proofs.Common.{◌∙◌, subst}
use Rattle.std.proofs.lemmas.Bool.{both_ways}
use Rattle.branch_names.specs.declared.layout.Layout.{Layout}
use Rattle.branch_files.specs.Next.{IsLaidOut}
use Rattle.commit_replay.proofs.Parted.{same-error, none-first, commit-last, laid-as, none-kept, commit-behind}
use Rattle.mrdt_model.specs.declared.errors.Unread.TheVariants as unread
use Rattle.commit_replay.proofs.parts.parted.Goals as goal
use Rattle.commit_replay.proofs.parts.parted.Goals.{else-is_at_end-via-then-is_at_end+else-is_laid_out, else-is_at_end-via-else-is_at_end}

pub returns-in-Ok-Commit-clause-none : goal.returns-in-Ok-Commit-clause-none
returns-in-Ok-Commit-clause-none c error value d parts =
    let last = commit-last c.args.layout c.new-cursor.result c.args.bytes.now c.new-cursor.ensures c.take.new.cursor _ c.in-Ok-Commit.ensures.equal _ _ _ _ _ c.in-Ok-Commit.field-0-is value d parts in
    let laid = laid-as c.args.layout c.new-cursor.result c.args.bytes.now c.new-cursor.ensures c.take.new.cursor _ c.in-Ok-Commit.ensures.equal _ _ _ _ _ c.in-Ok-Commit.field-0-is value d parts in
    elim c.else-is_at_end.branch [
      | else-is_at_end-via-then-is_at_end+else-is_laid_out w ↦ both_ways w.is_laid_out.result w.if-is_laid_out.false (w.is_laid_out.ensures.1 laid)
      | else-is_at_end-via-else-is_at_end w ↦ both_ways c.is_at_end.result w.if-is_at_end.false (c.is_at_end.ensures.1 last)
    ]

pub returns-in-Whole-clause-none : goal.returns-in-Whole-clause-none
returns-in-Whole-clause-none c error value d parts =
    c.behind.ensures.none error d parts.commit (subst (λ (layout : Layout). IsLaidOut layout d.value) c.in-Whole.is parts.laid_out)
    (c.take_rest-rest.ensures.all ∙ commit-behind c.args.layout c.new-cursor.result c.args.bytes.now c.new-cursor.ensures c.take.new.cursor _ c.in-Ok-Value.ensures.equal _ c.in-Ok-Value.field-0-is value d parts)

pub returns-in-Ok-Value-clause-none : goal.returns-in-Ok-Value-clause-none
returns-in-Ok-Value-clause-none c error value d parts =
    none-kept c.args.layout c.new-cursor.result c.args.bytes.now c.new-cursor.ensures c.take.new.cursor _ c.in-Ok-Value.ensures.equal c.in-Changes.is _ c.in-Ok-Value.field-0-is value d parts

pub returns-clause-none : goal.returns-clause-none
returns-clause-none c error value d parts = none-first c.args.layout c.new-cursor.result c.args.bytes.now c.new-cursor.ensures (c.in-Err.ensures.outside (same-error c.in-Err.refused unread.NotCanonical error)) value d parts
