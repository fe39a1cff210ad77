-- The live commits are those of the compact history.
use Rattle.std.proofs.Common.{◌≡◌, ◌∙◌, List, length, ap, sym, subst}
use Rattle.branch_history.specs.declared.moves.Move.{Move}
use Rattle.branch_history.specs.History.{store_of}
use Rattle.branch_history.specs.Validity.{IsValid}
use Rattle.branch_names.specs.declared.terms.Terms.{Terms}
use Rattle.branch_machine.specs.Fixed.{fix}
use Rattle.branch_machine.specs.Objects.{pairs_of}
use Rattle.branch_compact.specs.Compact.{compact, is_live}
use Rattle.branch_compact.specs.Marks.{is_marked}
use Rattle.store_compact.specs.Copied.{placed_of}
use Rattle.store_compact.proofs.Gathered.{settled-valid, marked-live, gathered-objects, gathered-placed}
use Rattle.store_compact.proofs.files.compact_files.Goals as goal

pub copy_marked-requires-clause-valid : goal.copy_marked-requires-clause-valid
copy_marked-requires-clause-valid g c κs within =
    let r = c.args.recorded in
    settled-valid (fix g.T.Mrdt.meaning r.terms g.A.Address.address) r.written r.pending c.requires.settled c.moves.ensures.valid

pub compact_marked-requires-clause-count : goal.compact_marked-requires-clause-count
compact_marked-requires-clause-count g c κs within =
    let origin = c.terms-terms.result.origin in
    c.in_ok-marks.ensures.count
    ∙ ap (λ (ms : List (Move g.row.T-Op.Denot g.row.T-Reply.Denot)). length (store_of origin ms).commits) (c.history.ensures ∙ sym c.into_moves.ensures)

pub compact_marked-requires-clause-live : goal.compact_marked-requires-clause-live
compact_marked-requires-clause-live g c κs within n =
    let origin = c.terms-terms.result.origin in
    c.in_ok-marks.ensures.live n
    ∙ ap (λ (ms : List (Move g.row.T-Op.Denot g.row.T-Reply.Denot)). is_live (store_of origin ms) n) (c.history.ensures ∙ sym c.into_moves.ensures)

pub spell_heads-requires-clause-valid : goal.spell_heads-requires-clause-valid
spell_heads-requires-clause-valid g c κs within =
    let m = g.T.Mrdt.meaning in let a = g.A.Address.address in let r = c.args.recorded in
    let valid = c.makes_fewer_moves.ensures r.terms a r.written (settled-valid (fix m r.terms a) r.written r.pending c.requires.settled c.moves.ensures.valid) in
    let same = c.terms-terms.ensures in
    let moves : c.as_slice.result.now ≡ compact r.terms r.written =
    c.as_slice.ensures ∙ c.in_ok-moves.ensures ∙ ap (compact c.terms-terms.result) c.into_moves.ensures ∙ ap (λ (t : Terms). compact t r.written) same in
    subst (λ (t : Terms). IsValid m t c.as_slice.result.now) (sym same)
    (subst (λ (ms : List (Move g.row.T-Op.Denot g.row.T-Reply.Denot)). IsValid m r.terms ms) (sym moves) (c.compacts_valid.ensures r.terms r.written valid))

pub spell_heads-requires-clause-placed : goal.spell_heads-requires-clause-placed
spell_heads-requires-clause-placed g c κs within =
    let m = g.T.Mrdt.meaning in let a = g.A.Address.address in let r = c.args.recorded in
    let fixed = fix m r.terms a in
    let full = settled-valid fixed r.written r.pending c.requires.settled c.moves.ensures.valid in
    let same = c.terms-terms.ensures in
    let moves : c.as_slice.result.now ≡ compact r.terms r.written =
    c.as_slice.ensures ∙ c.in_ok-moves.ensures ∙ ap (compact c.terms-terms.result) c.into_moves.ensures ∙ ap (λ (t : Terms). compact t r.written) same in
    let live = marked-live r.terms c.terms-terms.result same r.written c.history.result.now c.history.ensures c.in_ok-marks.marks.items c.deref.result.now c.deref.ensures.value c.in_ok-marks.ensures.live in
    c.deref-2.ensures.value ∙ c.in_ok-copies.ensures.placed
    ∙ gathered-placed fixed r.written (compact r.terms r.written) (is_marked c.deref.result.now) live (c.keeps_objects.ensures r.terms a r.written full)
    ∙ ap (λ (ms : List (Move g.row.T-Op.Denot g.row.T-Reply.Denot)). placed_of a (pairs_of fixed (store_of r.terms.origin ms).commits)) (sym moves)
    ∙ ap (λ (t : Terms). placed_of a (pairs_of (fix m t a) (store_of t.origin c.as_slice.result.now).commits)) (sym same)

pub returns-clause-objects : goal.returns-clause-objects
returns-clause-objects g c =
    let m = g.T.Mrdt.meaning in let a = g.A.Address.address in let r = c.args.recorded in
    let fixed = fix m r.terms a in
    let full = settled-valid fixed r.written r.pending c.requires.settled c.moves.ensures.valid in
    let live = marked-live r.terms c.terms-terms.result c.terms-terms.ensures r.written c.history.result.now c.history.ensures c.in_ok-marks.marks.items c.deref.result.now c.deref.ensures.value c.in_ok-marks.ensures.live in
    c.in_ok-copies.ensures.text
    ∙ gathered-objects fixed r.written (compact r.terms r.written) (is_marked c.deref.result.now) live (c.keeps_objects.ensures r.terms a r.written full)
