use Rattle.std.proofs.Common.{rules, ◌≡◌, ◌++◌, ◌∙◌, ℕ, List, ap, sym}
use Rattle.std.specs.Prelude.{replicate}
use Rattle.heads_journal.specs.Headings.{heading_text}
use Rattle.heads_journal.proofs.header.read_heading.Goals as goal

pub returns-then-eq-clause-some : goal.returns-then-eq-clause-some
returns-then-eq-clause-some c =
    let rest : c.take_heading.new.cursor ≡ replicate {A = ℕ} 13 0 = search rules in
    sym c.new-cursor.ensures ∙ c.in-Ok.ensures.ok ∙ ap (λ (l : List ℕ). heading_text c.in-Ok.heading ++ l) rest
