-- The terms and the moves are those that were read.
use Rattle.std.proofs.Common.{List, refl, sym, subst₂, arith}
use Rattle.branch_names.specs.declared.terms.Terms.{Terms}
use Rattle.branch_history.specs.declared.moves.Move.{Move}
use Rattle.branch_files.specs.Reading.{Opens, ReadsIn, ReadsInOf}
use Rattle.store_core.specs.Opens.{old_form, IsOnly}
use Rattle.store_core.proofs.Opened.{refused-more, only-more}
use Rattle.store_core.proofs.old.read_old.Goals as goal

pub returns-in-Ok-clause-reads : goal.returns-in-Ok-clause-reads
returns-in-Ok-clause-reads g c = λ f told.
    subst₂ (λ (terms : Terms) (moves : List (Move g.row.T-Op.Denot g.row.T-Reply.Denot)). ReadsIn old_form g.T.Mrdt.meaning g.A.Address.address f (Opens terms moves))
    (sym c.terms-terms.ensures) (sym c.into_moves.ensures)
    ((c.reads_old_as_first_kind.ensures old_form refl g.A.Address.address f (Opens c.in-Ok.recorded.terms c.in-Ok.recorded.written)).1 (c.in-Ok.ensures.reads f told))

pub returns-in-Ok-clause-only : goal.returns-in-Ok-clause-only
returns-in-Ok-clause-only g c = λ f told.
    subst₂ (λ (terms : Terms) (moves : List (Move g.row.T-Op.Denot g.row.T-Reply.Denot)). IsOnly (ReadsIn old_form g.T.Mrdt.meaning g.A.Address.address f) (Opens terms moves))
    (sym c.terms-terms.ensures) (sym c.into_moves.ensures)
    (only-more (ReadsInOf old_form 0 g.T.Mrdt.meaning g.A.Address.address f) (ReadsIn old_form g.T.Mrdt.meaning g.A.Address.address f)
    (λ a. (c.reads_old_as_first_kind.ensures old_form refl g.A.Address.address f a).0) (Opens c.in-Ok.recorded.terms c.in-Ok.recorded.written) (c.in-Ok.ensures.only f told))

pub returns-in-Ok-clause-cause : goal.returns-in-Ok-clause-cause
returns-in-Ok-clause-cause g c =
    let same = c.in-Ok.ensures.cause.others (λ e. absurd (cc)) in
    record { later = omega (arith, same); failed = λ e. absurd (cc); others = λ _. same }

pub returns-in-Err-clause-refused : goal.returns-in-Err-clause-refused
returns-in-Err-clause-refused g c = λ f told.
    let m = g.T.Mrdt.meaning in let address = g.A.Address.address in
    refused-more (ReadsInOf old_form 0 m address f) (ReadsIn old_form m address f) (λ a. (c.reads_old_as_first_kind.ensures old_form refl address f a).1) _ (c.in-Err.ensures.refused f told)

pub returns-in-Err-clause-refused_only : goal.returns-in-Err-clause-refused_only
returns-in-Err-clause-refused_only g c = λ no_fault no_want f told terms history reads.
    c.in-Err.ensures.refused_only no_fault no_want f told terms history ((c.reads_old_as_first_kind.ensures old_form refl g.A.Address.address f (Opens terms history)).0 reads)

pub returns-in-Err-clause-only_refused : goal.returns-in-Err-clause-only_refused
returns-in-Err-clause-only_refused g c = λ f told.
    let m = g.T.Mrdt.meaning in let address = g.A.Address.address in
    refused-more (IsOnly (ReadsInOf old_form 0 m address f)) (IsOnly (ReadsIn old_form m address f))
    (only-more (ReadsInOf old_form 0 m address f) (ReadsIn old_form m address f) (λ a. (c.reads_old_as_first_kind.ensures old_form refl address f a).0)) _ (c.in-Err.ensures.only_refused f told)
