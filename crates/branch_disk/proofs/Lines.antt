-- How a history goes on by a call.
use Rattle.std.specs.Prelude.{◌≡◌, ◌⊎◌, ℕ, List, [], ◌∷◌, ◌++◌, length}
use Rattle.std.proofs.Common.{inl, inr, ⊎_elim, refl, sym, ◌∙◌, ap, subst, arith, length-append}
use Rattle.std.proofs.lemmas.List.{take_all, take-append-le}
use Rattle.std.proofs.lemmas.Bool.{cases_lt}
use Rattle.branch_disk.specs.declared.call.Call.{Call}
use Rattle.branch_disk.specs.Disk.{Files, LeavesOnly}
use Rattle.branch_disk.specs.Image.{Held, IsImageOf}
use Rattle.branch_disk.specs.History.{after_what, replay, WasLeft}
use Rattle.branch_disk.specs.HistoryLaws.{last_now}

pub replay-push : (held : Held) (calls : List Call) (call : Call) → replay held (calls ++ call ∷ []) ≡ after_what call.what call.failed (replay held calls)
replay-push held [] call = refl
replay-push held (c ∷ calls) call = replay-push (after_what c.what c.failed held) calls call

-- a history: what is held at first, and the calls
abbrev pub Line : Type 0
Line = Held × List Call

abbrev pub line_moment : Line → ℕ
line_moment line = length line.1

abbrev pub line_left : Line → ℕ → Files → Type 0
line_left line = WasLeft line.0 line.1

-- one call more
pub one_more : (first : Held) (calls : List Call) (call : Call) (P : Files → Type 0) → ((c : Files) → IsImageOf (replay first calls) c → P c)
    → ((c : Files) → IsImageOf (after_what call.what call.failed (replay first calls)) c → P c)
    → LeavesOnly line_moment line_left (first, calls) (first, calls ++ call ∷ []) P
one_more first calls call P was is = record {
  later = omega (arith, length-append calls (call ∷ []));
  each = λ c left. ⊎_elim (λ (h : WasLeft first calls (length calls) c). was c (last_now first calls c h)) (is c) (split (length calls) c left);
  before = λ t c le left. ⊎_elim (λ h. inl h) (λ h. inr (is c h)) (split t c left);
  keeps = λ t c le (k, late, inside, image). (k, late, omega (arith, length-append calls (call ∷ [])), subst (λ (l : List Call). IsImageOf (replay first l) c) (sym (take-append-le k calls (call ∷ []) inside)) image);
}
  where
    split : (t : ℕ) (c : Files) → WasLeft first (calls ++ call ∷ []) t c → WasLeft first calls t c ⊎ IsImageOf (after_what call.what call.failed (replay first calls)) c
    split t c (k, late, inside, image) = ⊎_elim
        (λ past. inr (subst (λ (h : Held). IsImageOf h c) (ap (replay first) (take_all k (calls ++ call ∷ []) (omega (arith, length-append calls (call ∷ [])))) ∙ replay-push first calls call) image))
        (λ within. inl (k, late, within, subst (λ (l : List Call). IsImageOf (replay first l) c) (take-append-le k calls (call ∷ []) within) image))
        (cases_lt (length calls) k)

-- no call more
pub none_more : (first : Held) (calls : List Call) (P : Files → Type 0) → ((c : Files) → IsImageOf (replay first calls) c → P c) → LeavesOnly line_moment line_left (first, calls) (first, calls) P
none_more first calls P was = record {
  later = omega arith;
  each = λ c left. was c (last_now first calls c left);
  before = λ t c le left. inl left;
  keeps = λ t c le left. left;
}

-- the same of a disk that has such a history
pub carried : {D E : Type 0} (f : D → E) (moment : E → ℕ) (left_since : E → ℕ → Files → Type 0) (old new : D) (P : Files → Type 0)
    → LeavesOnly moment left_since (f old) (f new) P → LeavesOnly (λ d. moment (f d)) (λ d. left_since (f d)) old new P
carried f moment left_since old new P all = record { later = all.later; each = all.each; before = all.before; keeps = all.keeps }
