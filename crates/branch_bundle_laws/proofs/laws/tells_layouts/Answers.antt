-- The versions differ, and stand behind as many letters.
use Rattle.branch_bundle_laws.proofs.Text.{versions-told}
use Rattle.branch_bundle_laws.proofs.laws.tells_layouts.Goals as goal

pub returns : goal.returns
returns c = versions-told
