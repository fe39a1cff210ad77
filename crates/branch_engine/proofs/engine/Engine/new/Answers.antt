use Rattle.std.proofs.Common.{◌≡◌, refl, sym, subst, None, List, ℕ}
use Rattle.std.specs.Option.{option_map}
use Rattle.branch_engine.proofs.Values.{values_of}
use Rattle.branch_engine.specs.Engines.{Seen, session_named, sight_of}
use Rattle.branch_engine.proofs.Played.{whole-so}
use Rattle.branch_engine.proofs.engine.Engine.new.Goals as goal

pub returns-clause-begins : goal.returns-clause-begins
returns-clause-begins g c = λ worked.
    let values = values_of g.T.Mrdt.meaning g.T.Forms.forms g.A.Address.address in
    record {
      terms_are = refl;
      history = refl;
      sights = λ name. subst (λ (entries : List (List ℕ × Seen g.row.T-Op.Denot g.row.T-Reply.Denot)). option_map sight_of (session_named entries name) ≡ None) (sym c.new.ensures.empty) refl;
      images = whole-so g.D.Disk.may_leave values c.reads_what_stands.ensures c.args.core c.moves.ensures.valid (c.moves.ensures.stands worked);
    }
