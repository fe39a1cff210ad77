-- Once both parts are synced, a crash leaves what reads give.
use Rattle.std.proofs.Common.{◌≡◌, ℕ, ◌≤◌, Option, Some, List, Result, Ok, Err, OnOk, sym, ◌∙◌, ap}
use Rattle.branch_disk.specs.declared.part.Part.TheVariants.{Objects, Heads}
use Rattle.branch_disk.specs.declared.disk.DiskFailed.{DiskFailed}
use Rattle.branch_disk.specs.Disk.{Files, LeavesOnly, IsSure}
use Rattle.branch_disk.specs.Moments.{now_too}

same_files : (c f : Files) → c.objects ≡ f.objects → c.heads ≡ f.heads → c ≡ f
same_files c f o h = ap (λ (l : List ℕ). record { objects = l; heads = c.heads }) o ∙ ap (λ (l : List ℕ). record { objects = f.objects; heads = l }) h

module _ {D : Type 0} (contents : D → Option Files) (may_leave : D → Files → Type 0) (moment : D → ℕ) (left_since : D → ℕ → Files → Type 0)
    (counts_now : (d : D) (t : ℕ) (c : Files) → t ≤ moment d → may_leave d c → left_since d t c)
    (told : (d : D) (c : Files) → may_leave d c → (f : Files) × (contents d ≡ Some f)) (old mid new : D) where
  pub settled : LeavesOnly moment left_since old mid (may_leave old) → contents mid ≡ contents old → IsSure Objects (contents old) (may_leave mid)
      → LeavesOnly moment left_since mid new (may_leave mid) → contents new ≡ contents mid
      → (result : Result (Unit {0}) DiskFailed) → OnOk result (IsSure Heads (contents mid) (may_leave new)) → OnOk result ((c : Files) → may_leave new c → contents new ≡ Some c)
  settled first same sure then same2 (Err e) sure2 = tt
  settled first same sure then same2 (Ok u) sure2 = λ c image.
      let at_mid = now_too moment left_since may_leave counts_now mid new (may_leave mid) then c image in
      let at_old = now_too moment left_since may_leave counts_now old mid (may_leave old) first c at_mid in
      let tells = told old c at_old in
      let is : c ≡ tells.0 = same_files c tells.0 (sure tells.0 tells.1 c at_mid) (sure2 tells.0 (same ∙ tells.1) c image) in
      same2 ∙ same ∙ tells.1 ∙ ap (λ (f : Files). Some f) (sym is)
