-- What was read, against what the bytes may spell.
use Rattle.std.proofs.Common.{◌≡◌, ℕ, Option, None, Some, List, [], ◌∷◌, ◌++◌, ◌∙◌, ap}
use Rattle.branch_wire.specs.Fields.{time_field, field}
use Rattle.live_set.specs.declared.kept.Kept.{Kept}
use Rattle.mrdt_register.specs.Lww.{IsLast, IsLwwState, lww_spelling}

pub read-some : (o : Option (Kept (List ℕ))) (k : Kept (List ℕ)) (bytes rest : List ℕ) → lww_spelling o ≡ bytes → bytes ≡ 1 ∷ rest → IsLwwState o
    → ((other : Kept (List ℕ)) → IsLast other → time_field other.time ++ field other.payload ≡ rest → k ≡ other) → Some k ≡ o
read-some None k bytes rest spelled cut known same = let clash : 0 ∷ [] ≡ 1 ∷ rest = spelled ∙ cut in cc
read-some (Some j) k bytes rest spelled cut known same =
    let whole : 1 ∷ (time_field j.time ++ field j.payload) ≡ 1 ∷ rest = spelled ∙ cut in
    let tail : time_field j.time ++ field j.payload ≡ rest = cc in
    ap Some (same j known tail)
