-- An image of a part, made from the calls: the writes up to the last sync of the part, and then the pending ones.
use Rattle.std.proofs.Common.{◌≡◌, zero, suc, ℕ, ◌+◌, ◌-◌, ◌<◌, ◌≤◌, min, Bool, true, false, List, [], ◌∷◌, ◌++◌, length, get_or, take, drop, Some, refl, sym, ◌∙◌, ap, subst, arith, take-append-drop, length-drop}
use Rattle.std.proofs.lemmas.List.{take_more, take_all}
use Rattle.branch_disk.specs.declared.part.Part.{Part}
use Rattle.branch_disk.specs.declared.part.Part.TheVariants.{Objects, Heads}
use Rattle.branch_disk.specs.declared.fill.Fill.{Fill}
use Rattle.branch_disk.specs.declared.call.What.{What}
use Rattle.branch_disk.specs.declared.call.What.TheVariants.{Look, Write, Sync}
use Rattle.branch_disk.specs.declared.call.Call.{Call}
use Rattle.branch_disk.specs.Disk.{Files}
use Rattle.branch_disk.specs.Image.{Held, IsImage, IsImageOf}
use Rattle.branch_disk.specs.History.{after_what, replay, both_at_rest, WasLeft}
use Rattle.branch_disk.specs.Fill.{kept_of, reads_after, filled_after, during, filled_of, syncs, makes_sure, HasNoSync, IsLastSync}
use Rattle.branch_disk.proofs.Lines.{replay-push}
use Rattle.branch_disk.proofs.ImageLaws.{sure_alone}
use Rattle.branch_disk.proofs.FillLaws.{reads_kept, filled_kept, during_some, during_none, during_left, filled_image}

-- a sync that went through leaves nothing pending
sync_rest : (fill : Fill) (part : Part) (what : What) (failed : Bool) (held : Held) → syncs part what failed ≡ true
    → filled_of fill (kept_of part (after_what what failed held)) ≡ (kept_of part (after_what what failed held)).reads
sync_rest fill part Look failed held is = cc
sync_rest fill part (Write p at bytes) failed held is = cc
sync_rest fill part (Sync p) true held is = cc
sync_rest fill Objects (Sync Objects) false held is = refl
sync_rest fill Objects (Sync Heads) false held is = cc
sync_rest fill Heads (Sync Objects) false held is = cc
sync_rest fill Heads (Sync Heads) false held is = refl

-- a call that makes the part not sure fills as one that is under way
no_sync : (fill : Fill) (part : Part) (what : What) (failed : Bool) (reads under : List ℕ) → syncs part what failed ≡ false
    → filled_after fill part what true reads under ≡ filled_after fill part what failed reads under
no_sync fill part Look failed reads under is = refl
no_sync fill part (Write p at bytes) failed reads under is = refl
no_sync fill part (Sync p) true reads under is = refl
no_sync fill Objects (Sync Objects) false reads under is = cc
no_sync fill Objects (Sync Heads) false reads under is = refl
no_sync fill Heads (Sync Objects) false reads under is = refl
no_sync fill Heads (Sync Heads) false reads under is = cc

replay-append : (held : Held) (xs ys : List Call) → replay (replay held xs) ys ≡ replay held (xs ++ ys)
replay-append held [] ys = refl
replay-append held (x ∷ xs) ys = replay-append (after_what x.what x.failed held) xs ys

first_rest : (fill : Fill) (part : Part) (objects heads : List ℕ) → filled_of fill (kept_of part (both_at_rest objects heads)) ≡ (kept_of part (both_at_rest objects heads)).reads
first_rest fill Objects objects heads = refl
first_rest fill Heads objects heads = refl

-- up to the last sync all is sure
rests : (fill : Fill) (part : Part) (objects heads : List ℕ) (xs : List Call) (last : ℕ) → IsLastSync part xs (length xs) last
    → filled_of fill (kept_of part (replay (both_at_rest objects heads) (take last xs))) ≡ (kept_of part (replay (both_at_rest objects heads) (take last xs))).reads
rests fill part objects heads xs zero is = first_rest fill part objects heads
rests fill part objects heads xs (suc m) is =
    let d : Call = record { what = Look; failed = false } in
    let held = both_at_rest objects heads in
    let at : suc m ≡ m + 1 = omega arith in
    let step : replay held (take (suc m) xs) ≡ after_what (get_or xs m d).what (get_or xs m d).failed (replay held (take m xs)) =
    ap (λ (n : ℕ). replay held (take n xs)) at ∙ ap (replay held) (take_more xs m d (omega (arith, is.within))) ∙ replay-push held (take m xs) (get_or xs m d) in
    let P : Held → Type 0 = λ h. filled_of fill (kept_of part h) ≡ (kept_of part h).reads in
    subst P (sym step) (sync_rest fill part (get_or xs m d).what (get_or xs m d).failed (replay held (take m xs)) (is.sync m at d))

module _ (held : Held) (xs : List Call) (i : ℕ) (call : Call) (part : Part) (inside : i < length xs) (is : call ≡ get_or xs i call) where
  step : replay held (take (i + 1) xs) ≡ after_what call.what call.failed (replay held (take i xs))
  step = ap (replay held) (take_more xs i call inside ∙ ap (λ (c : Call). take i xs ++ c ∷ []) (sym is)) ∙ replay-push held (take i xs) call

  -- what reads give, one call further
  pub next_reads : (bytes next : List ℕ) → bytes ≡ (kept_of part (replay held (take i xs))).reads → next ≡ reads_after part call.what call.failed bytes → next ≡ (kept_of part (replay held (take (i + 1) xs))).reads
  next_reads bytes next was now = now ∙ ap (reads_after part call.what call.failed) was ∙ sym (reads_kept part call.what call.failed (replay held (take i xs))) ∙ sym (ap (λ (h : Held). (kept_of part h).reads) step)

  -- an image, one call further
  pub next_filled : (fill : Fill) (bytes next : List ℕ) → HasNoSync part xs → bytes ≡ filled_of fill (kept_of part (replay held (take i xs)))
      → ((reads : List ℕ) → next ≡ filled_after fill part call.what true reads bytes) → next ≡ filled_of fill (kept_of part (replay held (take (i + 1) xs)))
  next_filled fill bytes next none was now =
      let here : makes_sure part call ≡ false = ap (makes_sure part) is ∙ none i inside call in
      let reads = (kept_of part (replay held (take i xs))).reads in
      now reads ∙ no_sync fill part call.what call.failed reads bytes here ∙ ap (filled_after fill part call.what call.failed reads) was
      ∙ sym (filled_kept fill part call.what call.failed (replay held (take i xs))) ∙ sym (ap (λ (h : Held). filled_of fill (kept_of part h)) step)

-- the whole of it, over the first k calls
module _ (objects heads : List ℕ) (calls : List Call) (k last : ℕ) (part : Part) (fill : Fill) (first synced all : List ℕ) (within : k ≤ length calls)
    (is : IsLastSync part (take k calls) (length (take k calls)) last)
    (began : first ≡ (kept_of part (both_at_rest objects heads)).reads)
    (wrote : (held : Held) → first ≡ (kept_of part held).reads → synced ≡ (kept_of part (replay held (take last (take k calls)))).reads)
    (filled : (held : Held) → synced ≡ filled_of fill (kept_of part held) → all ≡ filled_of fill (kept_of part (replay held (take (length (take k calls) - last) (drop last (take k calls)))))) where
  so_far : all ≡ filled_of fill (kept_of part (replay (both_at_rest objects heads) (take k calls)))
  so_far =
      let held = both_at_rest objects heads in
      let xs = take k calls in
      filled (replay held (take last xs)) (wrote held began ∙ sym (rests fill part objects heads xs last is))
      ∙ ap (λ (h : Held). filled_of fill (kept_of part h)) (ap (replay (replay held (take last xs))) (take_all (length xs - last) (drop last xs) (omega (arith, length-drop last xs)))
      ∙ replay-append held (take last xs) (drop last xs) ∙ ap (replay held) (take-append-drop last xs))

  pub ends_some : (call : Call) (result : List ℕ) → k < length calls → call ≡ get_or calls k call → ((reads : List ℕ) → result ≡ filled_after fill part call.what true reads all)
      → result ≡ filled_of fill (kept_of part (during (both_at_rest objects heads) calls k))
  ends_some call result inside at now =
      let held = replay (both_at_rest objects heads) (take k calls) in
      now (kept_of part held).reads ∙ ap (filled_after fill part call.what true (kept_of part held).reads) so_far
      ∙ sym (filled_kept fill part call.what true held) ∙ sym (ap (λ (h : Held). filled_of fill (kept_of part h)) (during_some (both_at_rest objects heads) calls k call inside at))

  pub ends_none : length calls ≤ k → all ≡ filled_of fill (kept_of part (during (both_at_rest objects heads) calls k))
  ends_none past =
      so_far ∙ ap (λ (l : List Call). filled_of fill (kept_of part (replay (both_at_rest objects heads) l))) (take_all k calls past)
      ∙ sym (ap (λ (h : Held). filled_of fill (kept_of part h)) (during_none (both_at_rest objects heads) calls k past))

-- the files of these two
abbrev pub files_as : List ℕ → List ℕ → Files
files_as objects heads = record { objects = objects; heads = heads }

same_files : (a b : Files) → a.objects ≡ b.objects → a.heads ≡ b.heads → a ≡ b
same_files a b os hs = ap (λ (l : List ℕ). record { objects = l; heads = a.heads }) os ∙ ap (λ (l : List ℕ). record { objects = b.objects; heads = l }) hs

module _ (objects heads : List ℕ) where
  -- a disk that was made so has nothing pending
  pub fresh : (o h : List ℕ) (calls : List Call) → calls ≡ [] → o ≡ objects → h ≡ heads → (c : Files) → IsImageOf (replay (both_at_rest o h) calls) c → Some (files_as objects heads) ≡ Some c
  fresh o h calls none os hs c image =
      let here : IsImageOf (both_at_rest o h) c = subst (λ (l : List Call). IsImageOf (replay (both_at_rest o h) l) c) none image in
      ap Some (same_files _ c (sym (sure_alone o c.objects here.0 ∙ os)) (sym (sure_alone h c.heads here.1 ∙ hs)))

  -- and it is one that a crash might have left
  pub image_left : (first : Held) (calls : List Call) (k t : ℕ) (fill : Fill) → t ≡ k → k ≤ length calls → objects ≡ filled_of fill (kept_of Objects (during first calls k)) → heads ≡ filled_of fill (kept_of Heads (during first calls k))
      → (f : Files) → Some (files_as objects heads) ≡ Some f → WasLeft first calls t f
  image_left first calls k t fill same within os hs f told =
      let here : f ≡ record { objects = objects; heads = heads } = cc in
      let held = during first calls k in
      let o : f.objects ≡ filled_of fill held.objects = ap (λ (g : Files). g.objects) here ∙ os in
      let h : f.heads ≡ filled_of fill held.heads = ap (λ (g : Files). g.heads) here ∙ hs in
      let image : IsImageOf held f = (subst (IsImage held.objects.sure held.objects.pending) (sym o) (filled_image fill held.objects.sure held.objects.pending), subst (IsImage held.heads.sure held.heads.pending) (sym h) (filled_image fill held.heads.sure held.heads.pending)) in
      let at : min k (length calls) ≡ t = omega arith in
      subst (λ (n : ℕ). WasLeft first calls n f) at (during_left first calls k f image)
