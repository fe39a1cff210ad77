-- What a call does that tells a line or a step, from what is told and what was written.
use Rattle.std.proofs.Common.{◌≡◌, ◌≢◌, ℕ, ◌≤◌, true, false, List, ◌++◌, length, refl, ap, sym, subst, ◌∙◌, append-nil, inl, arith}
use Rattle.std.specs.Prelude.{Result, Ok, Err, IsErrAnd, OnOk, OnErr, IfErr}
use Rattle.std.proofs.Math.Seq.{take-length}
use Rattle.mrdt_model.specs.declared.errors.Memory.{Memory}
use Rattle.mrdt_model.specs.Spelled.{AppendsPart}
use Rattle.branch_io.specs.Causes.{Rose, HasCauseOf}
use Rattle.branch_disk.specs.Disk.{Files, LeavesOnly}
use Rattle.branch_disk.specs.Moments.{started}
use Rattle.branch_names.specs.declared.terms.Terms.{Terms}
use Rattle.branch_engine.proofs.Values.{Values, fixed_of}
use Rattle.branch_engine.specs.declared.refused.TellRefused.{TellRefused}
use Rattle.branch_engine.specs.declared.refused.TellRefused.TheVariants as refusal
use Rattle.branch_engine.specs.Play.{Play, Told}
use Rattle.branch_engine.specs.Readings.{ReadAsEither}
use Rattle.branch_engine.specs.Engines.{Store, EngineView, IsAt, KeepsLooks, Moves, Telling, Replies, StandsEitherWay, BreaksOff, LeavesEither, Does, Writes}

-- what a disk says of its images and its faults
pub record Members (D : Type 0) : Type 1 where
  pub may_leave : D → Files → Type 0
  pub moment : D → ℕ
  pub left_since : D → ℕ → Files → Type 0
  pub faults : D → ℕ
  pub only_now : (d : D) (c : Files) → left_since d (moment d) c → may_leave d c

abbrev pub members : {D : Type 0} (may_leave : D → Files → Type 0) (moment : D → ℕ) (left_since : D → ℕ → Files → Type 0) (faults : D → ℕ) → ((d : D) (c : Files) → left_since d (moment d) c → may_leave d c) → Members D
members may_leave moment left_since faults only_now = record { may_leave = may_leave; moment = moment; left_since = left_since; faults = faults; only_now = only_now }

-- a call that answers want of memory
pub short-of : (r : Result (Unit {0}) TellRefused) → IsErrAnd r (λ e. e ≡ refusal.Memory) → r ≡ Err refusal.Memory
short-of (Ok done) never = absurd never
short-of (Err e) is = ap Err is

-- what a call wrote that answers so
pub writes-as : (out out' words : List ℕ) (w : Result (Unit {0}) Memory) (r : Result (Unit {0}) TellRefused) → OnOk w (r ≡ Ok tt) → OnErr w (r ≡ Err refusal.Memory)
    → OnOk w (out' ≡ out ++ words) → OnErr w (AppendsPart out out' words) → Writes words out out' r
writes-as out out' words (Ok done) r through short ok err = subst (Writes words out out') (sym through) (ok, tt)
writes-as out out' words (Err memory) r through short ok err = subst (Writes words out out') (sym short) (tt, (refl, err))

module _ {S O R Q A D : Type 0} (m : Members D) (values : Values S O R Q A) where
  abbrev Is : Terms → EngineView O R D → Play O R → Type 0
  Is terms engine p = IsAt m.may_leave (fixed_of values terms) engine p

  abbrev pub DoesSo : Telling S O R Q A → EngineView O R D → EngineView O R D → List ℕ → List ℕ → Result (Unit {0}) TellRefused → Type 0
  DoesSo told old new out out' r = Does m.may_leave m.moment m.left_since m.faults values.meaning values.address told old new out out' r

  -- these words are told, and the engine then stands for what is left
  abbrev pub IsTold : Telling S O R Q A → EngineView O R D → EngineView O R D → List ℕ → Type 0
  IsTold told old new words = (terms : Terms) (p : Play O R) → Is terms old p → Is terms new (told (fixed_of values terms) p).after × ((told (fixed_of values terms) p).text ≡ words)

  -- what is told is this, and the engine stands for what that leaves
  pub told-by : (terms : Terms) (new : EngineView O R D) (told it : Told O R) (words : List ℕ) → told ≡ it → Is terms new it.after → it.text ≡ words → Is terms new told.after × (told.text ≡ words)
  told-by terms new told it words is after text = (subst (Is terms new) (sym (ap (λ (t : Told O R). t.after) is)) after, ap (λ (t : Told O R). t.text) is ∙ text)

  -- these words are told, and the engine stands for the history before or behind, in which each session sees what it saw
  abbrev pub IsHalfTold : Telling S O R Q A → EngineView O R D → EngineView O R D → List ℕ → Type 0
  IsHalfTold told old new words =
      (terms : Terms) (p : Play O R) → Is terms old p → StandsEitherWay m.may_leave (fixed_of values terms) new p (told (fixed_of values terms) p) × ((told (fixed_of values terms) p).text ≡ words)

  -- the disk has not failed, and a crash leaves either history
  pub record Works (told : Telling S O R Q A) (old new : EngineView O R D) : Type 0 where
    pub working : new.core.failed ≡ false
    pub moments : LeavesEither m.may_leave m.moment m.left_since values.meaning values.address told old new
    pub same : m.faults new.core.disk ≡ m.faults old.core.disk

  -- nothing moved
  pub works-still : (told : Telling S O R Q A) (old new : EngineView O R D) → old.core.failed ≡ false → new.core ≡ old.core → Works told old new
  works-still told old new worked core = record {
    working = ap (λ (k : Store O R D). k.failed) core ∙ worked;
    moments = λ terms p at.
        let Either = ReadAsEither (fixed_of values terms) p.moves (told (fixed_of values terms) p).after.moves in
        subst (λ (k : Store O R D). LeavesOnly m.moment m.left_since old.core.disk k.disk Either) (sym core)
        (started m.moment m.left_since old.core.disk Either (λ c left. inl (at.images c (m.only_now old.core.disk c left))));
    same = ap (λ (k : Store O R D). m.faults k.disk) core;
  }

  no-fault : (before now : ℕ) (r : Result (Unit {0}) TellRefused) → now ≡ before → r ≢ Err refusal.DiskFault → HasCauseOf refusal.DiskFault before now r
  no-fault before now r same not = record { later = omega (arith, same); failed = λ is. absurd (not is); others = λ _. same }

  -- all was done
  does-ok : (told : Telling S O R Q A) (old new : EngineView O R D) (out out' : List ℕ) (r : Result (Unit {0}) TellRefused) → r ≡ Ok tt → Works told old new → Replies m.may_leave values.meaning values.address told old new out out' → DoesSo told old new out out' r
  does-ok told old new out out' r is works replies = subst (DoesSo told old new out out') (sym is) (record {
    ok = replies;
    working = works.working;
    err = tt;
    moments = works.moments;
    cause = no-fault _ _ (Ok tt) works.same (λ no. cc);
  })

  -- memory was short
  does-memory : (told : Telling S O R Q A) (old new : EngineView O R D) (out out' : List ℕ) (r : Result (Unit {0}) TellRefused) → r ≡ Err refusal.Memory → Works told old new
      → BreaksOff m.may_leave values.meaning values.address told old new out out' refusal.Memory → DoesSo told old new out out' r
  does-memory told old new out out' r is works breaks = subst (DoesSo told old new out out') (sym is) (record {
    ok = tt;
    working = tt;
    err = breaks;
    moments = works.moments;
    cause = no-fault _ _ (Err refusal.Memory) works.same (λ no. cc);
  })

  -- the disk failed
  pub does-fault : (told : Telling S O R Q A) (old new : EngineView O R D) (out : List ℕ) → new.core ≡ record old.core { failed = true; disk = new.core.disk } → KeepsLooks old.sessions new.sessions
      → ((terms : Terms) (p : Play O R) → Is terms old p → Moves p (told (fixed_of values terms) p).after) → LeavesEither m.may_leave m.moment m.left_since values.meaning values.address told old new
      → m.faults old.core.disk ≤ m.faults new.core.disk → Rose (m.faults old.core.disk) (m.faults new.core.disk) → DoesSo told old new out out (Err refusal.DiskFault)
  does-fault told old new out core kept moves moments later rose = record {
    ok = tt;
    working = tt;
    err = (refl, core, kept, moves);
    moments = moments;
    cause = record { later = later; failed = λ _. rose; others = λ not. absurd (not refl) };
  }

  -- nothing was written, and nothing moved
  pub nothing_done : (told : Telling S O R Q A) (old new : EngineView O R D) (out : List ℕ) (r : Result (Unit {0}) TellRefused) → r ≡ Err refusal.Memory → old.core.failed ≡ false → new ≡ old → DoesSo told old new out out r
  nothing_done told old new out r is worked same =
      let works = works-still told old new worked (ap (λ (v : EngineView O R D). v.core) same) in
      does-memory told old new out out r is works (works.working, λ terms p at. (inl (subst (λ (v : EngineView O R D). Is terms v p) (sym same) at), (0, sym (append-nil out))))

  -- a first part of the words was written
  pub part_written : (told : Telling S O R Q A) (old new : EngineView O R D) (out out' words : List ℕ) (r : Result (Unit {0}) TellRefused) → r ≡ Err refusal.Memory → Works told old new → IsHalfTold told old new words → AppendsPart out out' words
      → DoesSo told old new out out' r
  part_written told old new out out' words r is works it part =
      does-memory told old new out out' r is works (works.working, λ terms p at. let t = it terms p at in (t.0, subst (AppendsPart out out') (sym t.1) part))

  -- the words were written
  all_written : (told : Telling S O R Q A) (old new : EngineView O R D) (out out' words : List ℕ) (r : Result (Unit {0}) TellRefused) → r ≡ Ok tt → Works told old new → IsTold told old new words → out' ≡ out ++ words → DoesSo told old new out out' r
  all_written told old new out out' words r is works it written =
      does-ok told old new out out' r is works (λ terms p at. let t = it terms p at in (t.0, written ∙ ap (λ (w : List ℕ). out ++ w) (sym t.1)))

  -- the words were written, or a first part of them; the call answers so
  pub ends_so : (told : Telling S O R Q A) (old new : EngineView O R D) (out out' words : List ℕ) (w : Result (Unit {0}) Memory) (r : Result (Unit {0}) TellRefused) → OnOk w (r ≡ Ok tt) → OnErr w (r ≡ Err refusal.Memory)
      → Works told old new → IsTold told old new words → IsHalfTold told old new words → OnOk w (out' ≡ out ++ words) → OnErr w (AppendsPart out out' words) → DoesSo told old new out out' r
  ends_so told old new out out' words (Ok done) r through short works it half ok err = all_written told old new out out' words r through works it ok
  ends_so told old new out out' words (Err memory) r through short works it half ok err = part_written told old new out out' words r short works half err

  -- and nothing moved
  pub stays_so : (told : Telling S O R Q A) (old new : EngineView O R D) (out out' words : List ℕ) (w : Result (Unit {0}) Memory) (r : Result (Unit {0}) TellRefused) → OnOk w (r ≡ Ok tt) → OnErr w (r ≡ Err refusal.Memory)
      → old.core.failed ≡ false → new ≡ old → IsTold told old old words → OnOk w (out' ≡ out ++ words) → OnErr w (AppendsPart out out' words) → DoesSo told old new out out' r
  stays_so told old new out out' words w r through short worked same it ok err =
      subst (λ (v : EngineView O R D). DoesSo told old v out out' r) (sym same)
      (ends_so told old old out out' words w r through short (works-still told old old worked refl) it (λ terms p at. (inl at, (it terms p at).1)) ok err)

  -- the words were written, or a first part of them, as what was written says
  pub writes_so : (told : Telling S O R Q A) (old new : EngineView O R D) (out out' words : List ℕ) (r : Result (Unit {0}) TellRefused) → Works told old new → IsTold told old new words → IsHalfTold told old new words
      → Writes words out out' r → DoesSo told old new out out' r
  writes_so told old new out out' words (Ok done) works it half wrote = all_written told old new out out' words (Ok done) refl works it wrote.0
  writes_so told old new out out' words (Err e) works it half wrote = part_written told old new out out' words (Err e) (ap Err wrote.1.0) works half wrote.1.1

  -- and nothing moved
  pub writes_still : (told : Telling S O R Q A) (old new : EngineView O R D) (out out' words : List ℕ) (r : Result (Unit {0}) TellRefused) → old.core.failed ≡ false → new ≡ old → IsTold told old old words
      → Writes words out out' r → DoesSo told old new out out' r
  writes_still told old new out out' words r worked same it wrote =
      subst (λ (v : EngineView O R D). DoesSo told old v out out' r) (sym same)
      (writes_so told old old out out' words r (works-still told old old worked refl) it (λ terms p at. (inl at, (it terms p at).1)) wrote)

  -- all words were written, and then a session came to see something or, for want of memory, sees what it saw
  pub sees_so : (told : Telling S O R Q A) (old new : EngineView O R D) (out out' words : List ℕ) (w : Result (Unit {0}) Memory) (r : Result (Unit {0}) TellRefused) → OnOk w (r ≡ Ok tt) → OnErr w (r ≡ Err refusal.Memory)
      → Works told old new → (P K : Type 0) → (P → IsTold told old new words) → (K → IsHalfTold told old new words) → OnOk w P → OnErr w K → out' ≡ out ++ words → DoesSo told old new out out' r
  sees_so told old new out out' words (Ok done) r through short works P K sees keeps ok err is = all_written told old new out out' words r through works (sees ok) is
  sees_so told old new out out' words (Err memory) r through short works P K sees keeps ok err is =
      part_written told old new out out' words r short works (keeps err) (length words, is ∙ ap (λ (w : List ℕ). out ++ w) (sym (take-length words)))

  -- what is told one way is told another way
  module _ (told other : Telling S O R Q A) (old new : EngineView O R D) (out out' : List ℕ)
      (same : (terms : Terms) (p : Play O R) → Is terms old p → told (fixed_of values terms) p ≡ other (fixed_of values terms) p) where
    breaks_as : (e : TellRefused) → BreaksOff m.may_leave values.meaning values.address other old new out out' e → BreaksOff m.may_leave values.meaning values.address told old new out out' e
    breaks_as refusal.DiskFault (written, core, kept, moves) = (written, core, kept, λ terms p at. subst (λ (t : Told O R). Moves p t.after) (sym (same terms p at)) (moves terms p at))
    breaks_as refusal.Memory (worked, half) =
        (worked, λ terms p at. subst (λ (t : Told O R). StandsEitherWay m.may_leave (fixed_of values terms) new p t × AppendsPart out out' t.text) (sym (same terms p at)) (half terms p at))

    replies_as : Replies m.may_leave values.meaning values.address other old new out out' → Replies m.may_leave values.meaning values.address told old new out out'
    replies_as replies terms p at = subst (λ (t : Told O R). Is terms new t.after × (out' ≡ out ++ t.text)) (sym (same terms p at)) (replies terms p at)

    ok_as : (r : Result (Unit {0}) TellRefused) → OnOk r (Replies m.may_leave values.meaning values.address other old new out out') → OnOk r (Replies m.may_leave values.meaning values.address told old new out out')
    ok_as (Ok done) replies = replies_as replies
    ok_as (Err e) none = tt

    err_as : (r : Result (Unit {0}) TellRefused) → IfErr r (BreaksOff m.may_leave values.meaning values.address other old new out out') → IfErr r (BreaksOff m.may_leave values.meaning values.address told old new out out')
    err_as (Ok done) none = tt
    err_as (Err e) breaks = breaks_as e breaks

    pub does_as : (r : Result (Unit {0}) TellRefused) → DoesSo other old new out out' r → DoesSo told old new out out' r
    does_as r does = record {
      ok = ok_as r does.ok;
      working = does.working;
      err = err_as r does.err;
      moments = λ terms p at. subst (λ (t : Told O R). LeavesOnly m.moment m.left_since old.core.disk new.core.disk (ReadAsEither (fixed_of values terms) p.moves t.after.moves)) (sym (same terms p at)) (does.moments terms p at);
      cause = does.cause;
    }
