-- A look is at the whole store, or at the commit that the place is, if the store has it.
use Rattle.std.proofs.Common.{◌≡◌, ◌<◌, ◌∙◌, Option, Some, None, refl, sym, subst, length}
use Rattle.branch_command.specs.declared.look.At.{At}
use Rattle.branch_shell.specs.Stores.{Stored}
use Rattle.branch_shell.specs.Values.{value_type}
use Rattle.branch_shell.specs.Looks.{place_of, nowhere_text, commits_of, IsAt, IsPlaced, IsLookText, TellsLook, TellsNowhere}
use Rattle.branch_shell.proofs.Said.{some_holds}
use Rattle.branch_shell.proofs.Once.{answers_map}
use Rattle.branch_shell.proofs.look.tell_look.Goals as goal

pub say_look-requires-clause-there : goal.say_look-requires-clause-there
say_look-requires-clause-there g c κs within = λ at is. let none : place_of c.args.look.now ≡ None = sym c.place_of.ensures ∙ c.in_default.is in absurd (cc (is, none))

pub say_look-requires-in-Ok-Some-clause-there : goal.say_look-requires-in-Ok-Some-clause-there
say_look-requires-in-Ok-Some-clause-there g c κs within = λ at is.
    let store : Stored _ _ = record { terms = c.args.core.now.terms; history = c.args.core.now.history } in
    some_holds c.in-Ok-Some.field-0 (λ commit. commit < length (commits_of store)) c.in-Ok-Some.commit c.in-Ok-Some.field-0-is c.in-Ok-Some.ensures.there

pub returns-in_default-clause-wrote : goal.returns-in_default-clause-wrote
returns-in_default-clause-wrote g c =
    let of = value_type g.T.Mrdt.meaning g.T.Forms.forms g.T.Kinded.KIND in
    let address = g.A.Address.address in
    let look = c.args.look.now in
    let store : Stored _ _ = record { terms = c.args.core.now.terms; history = c.args.core.now.history } in
    let none : place_of look ≡ None = sym c.place_of.ensures ∙ c.in_default.is in
    answers_map (IsLookText of address store look 0) (λ whole. ⊥) (TellsLook of address look store) (TellsNowhere look store)
    (λ whole is. (0, subst (λ (place : Option At). IsPlaced store place 0) (sym none) refl, is)) (λ whole no. absurd no)
    c.say_look.result (g.K.Sink.given c.args.sink.now) (g.K.Sink.given c.say_look.new.sink) c.say_look.ensures.wrote

pub returns-in-Ok-Some-clause-wrote : goal.returns-in-Ok-Some-clause-wrote
returns-in-Ok-Some-clause-wrote g c =
    let of = value_type g.T.Mrdt.meaning g.T.Forms.forms g.T.Kinded.KIND in
    let address = g.A.Address.address in
    let look = c.args.look.now in
    let store : Stored _ _ = record { terms = c.args.core.now.terms; history = c.args.core.now.history } in
    let commit = c.in-Ok-Some.commit in
    let is_at = some_holds c.in-Ok-Some.field-0 (IsAt store c.in-Some.at) commit c.in-Ok-Some.field-0-is c.in-Ok-Some.ensures.found in
    let place_is : place_of look ≡ Some c.in-Some.at = sym c.place_of.ensures ∙ c.in-Some.is in
    let run = c.say_look-in-Ok-Some in
    answers_map (IsLookText of address store look commit) (λ whole. ⊥) (TellsLook of address look store) (TellsNowhere look store)
    (λ whole is. (commit, subst (λ (place : Option At). IsPlaced store place commit) (sym place_is) is_at, is)) (λ whole no. absurd no)
    run.result (g.K.Sink.given c.args.sink.now) (g.K.Sink.given run.new.sink) run.ensures.wrote

pub returns-in-Ok-None-clause-wrote : goal.returns-in-Ok-None-clause-wrote
returns-in-Ok-None-clause-wrote g c =
    let of = value_type g.T.Mrdt.meaning g.T.Forms.forms g.T.Kinded.KIND in
    let look = c.args.look.now in
    let store : Stored _ _ = record { terms = c.args.core.now.terms; history = c.args.core.now.history } in
    let place_is : place_of look ≡ Some c.in-Some.at = sym c.place_of.ensures ∙ c.in-Some.is in
    answers_map (λ whole. ⊥) (λ whole. whole ≡ nowhere_text c.in-Some.at) (TellsLook of g.A.Address.address look store) (TellsNowhere look store)
    (λ whole no. absurd no) (λ whole is. (c.in-Some.at, place_is, c.in-Ok-None.ensures.none c.in-Ok-None.field-0-is, is))
    c.say_nowhere.result (g.K.Sink.given c.args.sink.now) (g.K.Sink.given c.say_nowhere.new.sink) c.say_nowhere.ensures.wrote
