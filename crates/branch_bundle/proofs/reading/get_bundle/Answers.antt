use Rattle.std.proofs.Common.{◌≡◌, ◌∙◌, ◌++◌, [], List, ℕ, map, ap, sym}
use Rattle.std.proofs.lemmas.Bool.{both_ways}
use Rattle.std.proofs.lemmas.List.{append-nil}
use Rattle.std.proofs.lemmas.Result.{err_from_is_err_and}
use Rattle.mrdt_model.specs.declared.errors.Unread.TheVariants as unread
use Rattle.branch_objects_codec.proofs.Passed.{passed-on}
use Rattle.branch_bundle_laws.specs.Bundles.{Bundle}
use Rattle.branch_bundle_laws.specs.Text.{bundle_text, IsBundle}
use Rattle.branch_bundle.specs.Held.{pair_of}
use Rattle.branch_bundle.proofs.Whole.{none-items, read-parts, none-behind, one-bundle}
use Rattle.branch_bundle.proofs.reading.get_bundle.Goals as goal

pub returns-in_err-items-clause-outside : goal.returns-in_err-items-clause-outside
returns-in_err-items-clause-outside c error =
    let p = err_from_is_err_and c.from_residual-in_err-items.result c.from_residual-in_err-items.ensures.1 in
    let own = passed-on c.from_residual-in_err-items.result c.in_err-items.field-0.0 p.0 unread.NotCanonical p.1 p.2 error in
    none-items c.args.layout c.args.bytes.now c.take_front.new.cursor c.in_ok-tip.tip c.take_tip.new.cursor (sym c.new-cursor.ensures ∙ c.in_ok-take_front.ensures.ok)
    c.in_ok-tip.ensures.size c.in_ok-tip.ensures.ok (c.in_err-items.ensures.outside own)

pub returns-then-is_at_end-clause-read : goal.returns-then-is_at_end-clause-read
returns-then-is_at_end-clause-read c =
    let b : Bundle = record { tip = c.in_ok-tip.tip; items = map pair_of c.in_ok-items.items } in
    let known : IsBundle c.args.layout b = (c.in_ok-tip.ensures.size, c.in_ok-items.ensures.known) in
    let end : c.take_items.new.cursor ≡ [] = c.is_at_end.ensures.0 c.if-is_at_end.true in
    let whole : c.args.bytes.now ≡ bundle_text c.args.layout b =
    read-parts c.args.layout c.args.bytes.now c.take_front.new.cursor c.take_tip.new.cursor c.take_items.new.cursor b (sym c.new-cursor.ensures ∙ c.in_ok-take_front.ensures.ok) c.in_ok-tip.ensures.ok c.in_ok-items.ensures.ok
    ∙ ap (λ (l : List ℕ). bundle_text c.args.layout b ++ l) end ∙ append-nil (bundle_text c.args.layout b) in
    record { known = known; numbers = c.in_ok-items.ensures.numbers; spelled = whole; only = λ other good is. one-bundle c.args.layout c.args.bytes.now b other known whole good is }

pub returns-else-is_at_end-clause-outside : goal.returns-else-is_at_end-clause-outside
returns-else-is_at_end-clause-outside c error =
    let b : Bundle = record { tip = c.in_ok-tip.tip; items = map pair_of c.in_ok-items.items } in
    let known : IsBundle c.args.layout b = (c.in_ok-tip.ensures.size, c.in_ok-items.ensures.known) in
    none-behind c.args.layout c.args.bytes.now c.take_items.new.cursor b known
    (read-parts c.args.layout c.args.bytes.now c.take_front.new.cursor c.take_tip.new.cursor c.take_items.new.cursor b (sym c.new-cursor.ensures ∙ c.in_ok-take_front.ensures.ok) c.in_ok-tip.ensures.ok c.in_ok-items.ensures.ok)
    (λ none. both_ways c.is_at_end.result c.if-is_at_end.false (c.is_at_end.ensures.1 none))
