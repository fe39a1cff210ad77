-- The gates stand 64 bytes apart.
use Rattle.std.proofs.Common.{arith}
use Rattle.branch_machine.specs.Fixed.{fix}
use Rattle.branch_machine.specs.Objects.{objects_text}
use Rattle.branch_files.proofs.Gates.{gates}
use Rattle.store_core.specs.Contents.{closed_text}
use Rattle.store_core.proofs.Covers.{length-over, closed-long}
use Rattle.store_core.proofs.laws.has_lengths.Goals as goal

pub returns : goal.returns
returns g c = λ terms address size moves valid old.
    let fixed = fix g.T.Mrdt.meaning terms address in
    let laws = (g.met.T.Mrdt g.world.𝓛 g.world.𝓜 g.world.𝓡 ((λ s x. x), (λ x. x), (λ x. x), λ x. x)).laws in
    let gate = gates fixed laws size moves valid in (
      length-over (objects_text fixed moves) old.objects,
      omega (arith, length-over (closed_text fixed moves) old.heads, closed-long fixed moves, gate),
    )
