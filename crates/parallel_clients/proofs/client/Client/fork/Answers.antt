-- One fork.
use Rattle.std.proofs.Common.{◌∷◌, [], ◌++◌, ◌∙◌, ap, sym, subst, refl}
use mathlib.Core.List.{IsPrefix}
use Rattle.branch_history.specs.declared.moves.Move.TheVariants as move
use Rattle.branch_machine.specs.Fixed.{fix}
use Rattle.parallel_clients.specs.Sessions.{stage_of}
use Rattle.branch_front.proofs.Prefixes.{prefix_self, prefix_more}
use Rattle.parallel_clients.proofs.Single.{plays-forked, plays-taken}
use Rattle.parallel_clients.proofs.Turned.{fork-named, fork-has}
use Rattle.parallel_clients.proofs.client.Client.fork.Goals as goal

pub fork-requires-clause-allowed : goal.fork-requires-clause-allowed
fork-requires-clause-allowed g c κs within number source = c.requires.allowed (move.Fork c.args.new.now number source) refl

pub returns-in-Ok-clause-plays : goal.returns-in-Ok-clause-plays
returns-in-Ok-clause-plays g c =
    let mid = c.args.pass.now in
    let after = c.fork.new.pass in
    let source = c.in-Ok.ensures.forked.0 in
    let f = c.in-Ok.ensures.forked.1 in
    let name = c.args.new.now in
    let from = c.args.from.now in
    let number = c.in-Ok.forked.number in
    let sessions = c.args.sessions.now.entries in
    let places = c.args.places.now.items in
    let noted = c.note.new.list.items in
    plays-forked g.T.Forms.forms g.N.Named.terms.origin (stage_of mid sessions places) (stage_of after sessions noted) mid after (prefix_self mid.moves) (prefix_self after.moves) places noted refl refl refl name from number source
    (record {
      before = f.before;
      begins = subst (IsPrefix f.before) (sym f.last) (prefix_more f.before (move.Fork name number source ∷ []));
      named = fork-named (fix g.T.Mrdt.meaning g.N.Named.terms g.A.Address.address) f.before name from number c.in-Ok.forked.head source f.turn_is;
    })
    (record { before = f.before; seen = f.seen; last = f.last; noted = c.note.ensures.items ∙ ap (λ n. places ++ n ∷ []) f.counted; mine = ap (λ p. p.mine) f.rest ∙ ap (λ n. mid.mine ++ n ∷ []) f.counted; others = ap (λ p. p.others) f.rest; receipts = ap (λ p. p.receipts) f.rest; parts = ap (λ p. p.parts) f.rest })

pub returns-in-Err-NameTaken-clause-plays : goal.returns-in-Err-NameTaken-clause-plays
returns-in-Err-NameTaken-clause-plays g c =
    let mid = c.args.pass.now in
    let after = c.fork.new.pass in
    let name = c.args.new.now in
    let from = c.args.from.now in
    let sessions = c.args.sessions.now.entries in
    let places = c.args.places.now.items in
    let refused = rw c.in-Err-NameTaken.field-0-is at c.in-Err-NameTaken.ensures.refused in
    let number = c.in-Err-NameTaken.field-0-0 in
    plays-taken g.T.Forms.forms g.N.Named.terms.origin (stage_of mid sessions places) (stage_of after sessions places) mid after (prefix_self mid.moves) (prefix_self after.moves) places places refl refl c.fork.ensures.prefix refl refl name from
    (fork-has (fix g.T.Mrdt.meaning g.N.Named.terms g.A.Address.address) after.moves name from number refused)
