-- The one move more, which is acknowledged now. It is allowed.
use Rattle.std.proofs.Common.{◌≡◌, List, [], ◌∷◌, ◌++◌, length, drop, ap, sym, subst, ◌∙◌, append_assoc}
use Rattle.std.specs.List.{AllByRecursion}
use Rattle.branch_history.specs.declared.moves.Move.{Move}
use Rattle.branch_shared.specs.Entries.{entries_at, moves_of}
use Rattle.branch_shared.proofs.Entries.{drop-front, moves-at, noted-moves}
use Rattle.branch_shared.proofs.Makes.{all-append}
use Rattle.branch_shared.proofs.kept.add.Goals as goal

pub add_as-requires-clause-entry : goal.add_as-requires-clause-entry
add_as-requires-clause-entry g c κs within =
    let made = c.requires.grown.0 in
    let front = g.N.Named.begun ++ moves_of c.args.writer.now.moves in
    let history = c.args.core.now.history in
    let since = g.D.Disk.moment c.args.core.now.disk in
    let entry : drop (length front) history ≡ made ∷ [] = ap (λ (ms : List (Move _ _)). drop (length front) ms) c.requires.grown.1 ∙ drop-front front (made ∷ []) in (
      ap (λ ms. length (entries_at since ms)) entry,
      c.requires.grown.1 ∙ (ap (λ ms. front ++ ms) (sym entry) ∙ ap (λ ms. front ++ ms) (sym (moves-at since (drop (length front) history)))),
    )

pub returns-clause-noted : goal.returns-clause-noted
returns-clause-noted g c = (drop (length (g.N.Named.begun ++ moves_of c.args.writer.now.moves)) c.args.core.now.history, ap (λ w. w.moves) c.add_as.ensures.writer)

pub returns-clause-history : goal.returns-clause-history
returns-clause-history g c =
    let made = c.requires.grown.0 in
    let old = c.args.writer.now.moves in
    let front = g.N.Named.begun ++ moves_of old in
    let history = c.args.core.now.history in
    let since = g.D.Disk.moment c.args.core.now.disk in
    let entry : drop (length front) history ≡ made ∷ [] = ap (λ (ms : List (Move _ _)). drop (length front) ms) c.requires.grown.1 ∙ drop-front front (made ∷ []) in
    let moves : moves_of c.add_as.new.writer.moves ≡ moves_of old ++ drop (length front) history = noted-moves since old c.add_as.new.writer.moves (drop (length front) history, ap (λ w. w.moves) c.add_as.ensures.writer) in
    c.requires.grown.1 ∙ (append_assoc g.N.Named.begun (moves_of old) (made ∷ []) ∙ (ap (λ ms. g.N.Named.begun ++ (moves_of old ++ ms)) (sym entry) ∙ ap (λ ms. g.N.Named.begun ++ ms) (sym moves)))

pub returns-clause-allowed : goal.returns-clause-allowed
returns-clause-allowed g c =
    let made = c.requires.grown.0 in
    let old = c.args.writer.now.moves in
    let front = g.N.Named.begun ++ moves_of old in
    let history = c.args.core.now.history in
    let since = g.D.Disk.moment c.args.core.now.disk in
    let entry : drop (length front) history ≡ made ∷ [] = ap (λ (ms : List (Move _ _)). drop (length front) ms) c.requires.grown.1 ∙ drop-front front (made ∷ []) in
    let moves : moves_of c.add_as.new.writer.moves ≡ moves_of old ++ made ∷ [] = noted-moves since old c.add_as.new.writer.moves (drop (length front) history, ap (λ w. w.moves) c.add_as.ensures.writer)
    ∙ ap (λ (e : List (Move _ _)). moves_of old ++ e) entry in
    subst (AllByRecursion g.N.Named.allows) (sym moves) (all-append g.N.Named.allows (moves_of old) (made ∷ []) c.requires.allowed (c.requires.grown.2, tt))
