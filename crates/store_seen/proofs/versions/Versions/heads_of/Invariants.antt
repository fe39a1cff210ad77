-- The heads of the names before this one.
use Rattle.std.proofs.Common.{◌≡◌, ◌<◌, length, take, All}
use Rattle.branch_history.specs.History.{store_of}
use Rattle.store_seen.specs.Groups.{AreHeads}
use Rattle.store_seen.proofs.versions.Versions.heads_of.Given as goal

abbrev pub invariant-loop-name : goal.invariant-loop-name
invariant-loop-name g l = record {
  heads : AreHeads g.T.Mrdt.meaning l.self.core (take l.name-index l.from) l.heads.items;
  there : All (λ n. n < length (store_of l.self.core.terms.origin l.self.core.history).commits) l.heads.items;
  counted : length l.heads.items ≡ l.name-index;
}
