-- Laws of these images.
use Rattle.std.specs.Prelude.{◌≡◌, ◌⊎◌, ℕ, ◌+◌, ◌<◌, ◌≤◌, min, Bool, true, false, List, [], ◌∷◌, ◌++◌, length, take, drop, replicate}
use Rattle.std.proofs.Common.{zero, suc, inl, inr, ⊎_elim, refl, sym, ◌∙◌, ap, subst, arith, get_or, length-append}
use Rattle.std.proofs.lemmas.List.{take_all, drop_all, get_or_append_left, length-replicate, append-nil}
use Rattle.std.proofs.lemmas.Bool.{cases_lt}
use Rattle.branch_disk.specs.declared.part.Part.{Part}
use Rattle.branch_disk.specs.declared.part.Part.TheVariants.{Objects, Heads}
use Rattle.branch_disk.specs.declared.fill.Fill.{Fill}
use Rattle.branch_disk.specs.declared.fill.Fill.TheVariants.{Old, New, Byte}
use Rattle.branch_disk.specs.declared.call.What.{What}
use Rattle.branch_disk.specs.declared.call.What.TheVariants.{Look, Write, Sync}
use Rattle.branch_disk.specs.declared.call.Call.{Call}
use Rattle.branch_disk.specs.Disk.{Files, put, Torn}
use Rattle.branch_disk.specs.Image.{Patch, Held, IsImage, IsImageOf}
use Rattle.branch_disk.proofs.ImageLaws.{put_torn, torn_image, torn_refl}
use Rattle.branch_disk.specs.History.{after_what, replay, WasLeft}
use Rattle.branch_disk.specs.Fill.{filled, kept_of, reads_after, filled_after, during, filled_of}

-- bytes of that length at that place make an image of an image, wherever the place is
put_image : (sure : List ℕ) (ps : List Patch) (p : Patch) (bytes d : List ℕ) → length bytes ≡ length p.bytes → IsImage sure ps d → IsImage sure (p ∷ ps) (put p.at bytes d)
put_image sure ps p bytes d long image = ⊎_elim past within (cases_lt (length d) p.at)
  where
    within : p.at ≤ length d → IsImage sure (p ∷ ps) (put p.at bytes d)
    within le = torn_image sure ps p d (put p.at bytes d) image (subst (λ (n : ℕ). Torn p.at n d (put p.at bytes d)) long (put_torn p.at bytes d le))

    past : length d < p.at → IsImage sure (p ∷ ps) (put p.at bytes d)
    past lt =
        let front : take p.at d ≡ d = take_all p.at d (omega arith) in
        let back : drop (p.at + length bytes) d ≡ [] = drop_all (p.at + length bytes) d (omega arith) in
        let is : put p.at bytes d ≡ d ++ bytes = ap (λ (l : List ℕ). l ++ bytes ++ drop (p.at + length bytes) d) front ∙ ap (λ (l : List ℕ). d ++ bytes ++ l) back ∙ append-nil (d ++ bytes) in
        subst (IsImage sure (p ∷ ps)) (sym is) (record {
          no_shorter = omega (arith, length-append d bytes, image.no_shorter);
          no_longer = omega (arith, length-append d bytes, long);
          same = λ i in_s (outside, untouched). get_or_append_left d bytes 0 i (omega (arith, image.no_shorter)) ∙ image.same i in_s untouched;
        })

-- the image is one of those that a crash may leave
pub filled_image : (fill : Fill) (sure : List ℕ) (ps : List Patch) → IsImage sure ps (filled fill sure ps)
filled_image fill sure [] = record { no_shorter = omega arith; no_longer = omega arith; same = λ i in_s untouched. refl }
filled_image Old sure (p ∷ ps) = torn_image sure ps p (filled Old sure ps) (filled Old sure ps) (filled_image Old sure ps) (torn_refl p.at (length p.bytes) (filled Old sure ps))
filled_image New sure (p ∷ ps) = put_image sure ps p p.bytes (filled New sure ps) refl (filled_image New sure ps)
filled_image (Byte b) sure (p ∷ ps) = put_image sure ps p (replicate (length p.bytes) b) (filled (Byte b) sure ps) (length-replicate (length p.bytes) b) (filled_image (Byte b) sure ps)

pub reads_kept : (part : Part) (what : What) (failed : Bool) (held : Held) → (kept_of part (after_what what failed held)).reads ≡ reads_after part what failed (kept_of part held).reads
reads_kept part Look failed held = refl
reads_kept Objects (Write Objects at bytes) true held = refl
reads_kept Objects (Write Objects at bytes) false held = refl
reads_kept Objects (Write Heads at bytes) true held = refl
reads_kept Objects (Write Heads at bytes) false held = refl
reads_kept Heads (Write Objects at bytes) true held = refl
reads_kept Heads (Write Objects at bytes) false held = refl
reads_kept Heads (Write Heads at bytes) true held = refl
reads_kept Heads (Write Heads at bytes) false held = refl
reads_kept part (Sync p) true held = refl
reads_kept Objects (Sync Objects) false held = refl
reads_kept Objects (Sync Heads) false held = refl
reads_kept Heads (Sync Objects) false held = refl
reads_kept Heads (Sync Heads) false held = refl

pub filled_kept : (fill : Fill) (part : Part) (what : What) (failed : Bool) (held : Held)
    → filled_of fill (kept_of part (after_what what failed held)) ≡ filled_after fill part what failed (kept_of part held).reads (filled_of fill (kept_of part held))
filled_kept fill part Look failed held = refl
filled_kept fill Objects (Write Objects at bytes) true held = refl
filled_kept fill Objects (Write Objects at bytes) false held = refl
filled_kept fill Objects (Write Heads at bytes) true held = refl
filled_kept fill Objects (Write Heads at bytes) false held = refl
filled_kept fill Heads (Write Objects at bytes) true held = refl
filled_kept fill Heads (Write Objects at bytes) false held = refl
filled_kept fill Heads (Write Heads at bytes) true held = refl
filled_kept fill Heads (Write Heads at bytes) false held = refl
filled_kept fill Objects (Sync Objects) true held = refl
filled_kept fill Objects (Sync Heads) true held = refl
filled_kept fill Heads (Sync Objects) true held = refl
filled_kept fill Heads (Sync Heads) true held = refl
filled_kept fill Objects (Sync Objects) false held = refl
filled_kept fill Objects (Sync Heads) false held = refl
filled_kept fill Heads (Sync Objects) false held = refl
filled_kept fill Heads (Sync Heads) false held = refl

-- what a call leaves while it is under way, it may leave when it is done, or might have left before
begun_image : (what : What) (failed : Bool) (held : Held) (c : Files) → IsImageOf (after_what what true held) c → IsImageOf held c ⊎ IsImageOf (after_what what failed held) c
begun_image Look failed held c image = inl image
begun_image (Write Objects at bytes) true held c image = inr image
begun_image (Write Objects at bytes) false held c image = inr image
begun_image (Write Heads at bytes) true held c image = inr image
begun_image (Write Heads at bytes) false held c image = inr image
begun_image (Sync p) failed held c image = inl image

-- what is held during a call has only images that a crash then or at its end might have left
pub during_left : (held : Held) (calls : List Call) (k : ℕ) (c : Files) → IsImageOf (during held calls k) c → WasLeft held calls (min k (length calls)) c
during_left held [] k c image = (0, omega arith, omega arith, image)
during_left held (call ∷ calls) zero c image = ⊎_elim (λ before. (0, omega arith, omega arith, before)) (λ after. (1, omega arith, omega arith, after)) (begun_image call.what call.failed held c image)
during_left held (call ∷ calls) (suc k) c image =
    let from = during_left (after_what call.what call.failed held) calls k c image in
    (suc from.0, omega (arith, from.1), omega (arith, from.2), from.3)

pub during_some : (held : Held) (calls : List Call) (k : ℕ) (call : Call) → k < length calls → call ≡ get_or calls k call → during held calls k ≡ after_what call.what true (replay held (take k calls))
during_some held [] k call inside is = absurd (omega arith)
during_some held (c ∷ calls) zero call inside is = ap (λ (d : Call). after_what d.what true held) (sym is)
during_some held (c ∷ calls) (suc k) call inside is = during_some (after_what c.what c.failed held) calls k call (omega arith) is

pub during_none : (held : Held) (calls : List Call) (k : ℕ) → length calls ≤ k → during held calls k ≡ replay held calls
during_none held [] k past = refl
during_none held (c ∷ calls) zero past = absurd (omega arith)
during_none held (c ∷ calls) (suc k) past = during_none (after_what c.what c.failed held) calls k (omega arith)
