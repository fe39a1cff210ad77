-- Three jobs that were prepared before two landings and a drop, and four behind them.
use Rattle.std.proofs.Common.{◌≡◌, List, ◌++◌, ◌∙◌, ap, sym, append_assoc, arith, length, length-append}
use Rattle.std.proofs.lemmas.List.Elements.{All-push, All-same, All-weaker}
use mathlib.Core.List.{IsPrefix}
use Rattle.store_seen.specs.Views.{PreparedView}
use Rattle.core_tests.proofs.mixed.unlike_jobs.Goals as goal

-- a beginning of a beginning
prefix_trans : {A : Type 0} (xs ys zs : List A) → IsPrefix xs ys → IsPrefix ys zs → IsPrefix xs zs
prefix_trans xs ys zs p q = (p.0 ++ q.0, sym (append_assoc xs p.0 q.0) ∙ (ap (λ w. w ++ q.0) p.1 ∙ q.1))

pub returns-clause-many : goal.returns-clause-many
returns-clause-many g c =
    omega (arith, c.in_ok-jobs.ensures.many, simp length-append at (ap length c.in_ok-push.ensures.items), simp length-append at (ap length c.in_ok-push-2.ensures.items), simp length-append at (ap length c.in_ok-push-3.ensures.items), simp length-append at (ap length c.in_ok-push-4.ensures.items))

pub returns-clause-history : goal.returns-clause-history
returns-clause-history g c =
    let Q : PreparedView _ _ → Type 0 = λ job. IsPrefix job.seen.history c.args.core.now.history in
    let P : PreparedView _ _ → Type 0 = λ job. IsPrefix job.seen.history c.drop_branch.new.core.history in
    let landed = prefix_trans _ _ _ c.land_one.ensures.history c.land_one-2.ensures.history in
    let grown = prefix_trans _ _ _ landed c.drop_branch.ensures.history in
    let early = All-weaker Q P (λ job before. prefix_trans _ _ _ before grown) _ c.in_ok-jobs.ensures.history in
    let one = All-same P _ _ c.in_ok-push.ensures.items (All-push P _ _ early c.merge.ensures.history) in
    let two = All-same P _ _ c.in_ok-push-2.ensures.items (All-push P _ _ one c.addition.ensures.history) in
    let three = All-same P _ _ c.in_ok-push-3.ensures.items (All-push P _ _ two c.merge-2.ensures.history) in
    All-same P _ _ c.in_ok-push-4.ensures.items (All-push P _ _ three c.merge-3.ensures.history)

pub returns-clause-terms : goal.returns-clause-terms
returns-clause-terms g c =
    let Q : PreparedView _ _ → Type 0 = λ job. job.seen.terms ≡ c.args.core.now.terms in
    let P : PreparedView _ _ → Type 0 = λ job. job.seen.terms ≡ c.drop_branch.new.core.terms in
    let same = sym (c.drop_branch.ensures.terms ∙ (c.land_one-2.ensures.terms ∙ c.land_one.ensures.terms)) in
    let early = All-weaker Q P (λ job before. before ∙ same) _ c.in_ok-jobs.ensures.terms in
    let one = All-same P _ _ c.in_ok-push.ensures.items (All-push P _ _ early c.merge.ensures.terms) in
    let two = All-same P _ _ c.in_ok-push-2.ensures.items (All-push P _ _ one c.addition.ensures.terms) in
    let three = All-same P _ _ c.in_ok-push-3.ensures.items (All-push P _ _ two c.merge-2.ensures.terms) in
    All-same P _ _ c.in_ok-push-4.ensures.items (All-push P _ _ three c.merge-3.ensures.terms)
