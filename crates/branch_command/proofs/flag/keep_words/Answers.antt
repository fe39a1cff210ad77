use Rattle.std.proofs.Common.{◌∙◌, ap}
use Rattle.std.specs.String.{string_bytes}
use Rattle.branch_command.proofs.Flags.{word-kept, word-last, word-found}
use Rattle.branch_command.proofs.flag.keep_words.Goals as goal

pub loop-word-preserved : goal.loop-word-preserved
loop-word-preserved c =
    let words = c.args.words.now in
    let i = c.loop-word.word-index in
    let d = c.word-item.result in
    let inside = c.loop-word-test.true in
    let item = c.as_str.ensures.value ∙ ap string_bytes c.word-item.is in
    let over = c.loop-word.invariant.1 in
    let said = c.in_ok-read.ensures in (
      word-kept string_bytes words i d inside _ c.loop-word.read.is_over _ _ _ item c.loop-word.invariant.0 over said.kept,
      word-last string_bytes words i d inside _ c.loop-word.read.is_over _ item over said.over,
      word-found string_bytes words i d inside _ c.loop-word.read.is_over c.loop-word.read.is_found _ item over c.loop-word.invariant.2 said.found,
    )
