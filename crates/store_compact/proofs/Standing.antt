-- What two disks read as, from what stands on each.
use Rattle.std.proofs.Common.{◌≡◌, inl, inr, ⊎_elim, ℕ, ◌+◌, ◌*◌, ◌≤◌, Bool, true, false, List, [], ◌∷◌, ◌++◌, length, take, drop, Option, Some, refl, sym, ◌∙◌, ap, subst, arith, append_assoc, length-append}
use Rattle.std.specs.Prelude.{nat_le, bytes_eq, slice_index, if◌then◌else◌}
use Rattle.std.proofs.lemmas.Bool.{and_from, le-leb}
use Rattle.std.proofs.lemmas.List.{length-take, take-append-drop}
use Rattle.std.proofs.Math.Seq.{take-append_seam}
use Rattle.mrdt_model.specs.Laws.{Meaning}
use Rattle.branch_disk.specs.Disk.{Files, put, After, Tells, LeavesOnly}
use Rattle.branch_disk.specs.Moments.{started, weakened, now_too}
use Rattle.branch_disk.specs.declared.disk.Disk.{Ghosts}
use Rattle.branch_wire.specs.StoredObjects.{Begins}
use Rattle.branch_history.specs.declared.moves.Move.{Move}
use Rattle.branch_machine.specs.Fixed.{Fixed, fix}
use Rattle.branch_machine.specs.Objects.{objects_text}
use Rattle.branch_machine.specs.Validity.{IsFullyValid}
use Rattle.branch_files.specs.Laws.{ReadsWhatStands}
use Rattle.branch_files.specs.Records.{AreKnown, history_text, gate_of}
use Rattle.branch_files.specs.Reading.{Opens, ReadsAs}
use Rattle.branch_files.specs.Stands.{Stands}
use Rattle.heads_journal.specs.Heads.{Rests}
use Rattle.branch_compact.specs.Compact.{compact}
use Rattle.branch_compact.specs.Switch.{is_current, current, AreTornAtFirst, SwitchesToFirst, SwitchesToSecond}
use Rattle.store_core.specs.Contents.{closed_text, over, HoldsExactly}
use Rattle.store_core.specs.Images.{AllStand}
use Rattle.store_core.specs.Views.{StoreView}
use Rattle.store_compact.specs.declared.answers.Which.{Which}
use Rattle.store_compact.specs.declared.answers.Which.TheVariants.{First, Second}
use Rattle.store_compact.specs.declared.answers.Compacted.{Compacted}
use Rattle.store_compact.specs.declared.answers.CompactRefused.TheVariants as refusal
use Rattle.store_compact.specs.Compacting.{first_of, second_of, ToFirst, ToSecond, ReadsEither, BothRead, IsCompacted, IsNotCompacted, HasCauseOfEither}
use Rattle.branch_io.specs.Causes.{Rose}
use Rattle.heads_journal.proofs.Torn.{torn-none}
use Rattle.store_compact.specs.Written.{BeginWith, Hold, LeftByFirst, IsSettledAside, LeftBySecond, MovedToFirst, MovedToSecond, with_first}
use Rattle.store_compact.proofs.Known.{known-compact}

-- the current one of two disks
module _ (P : Files → Type 0) (f s : Files) where
  pub when-current : is_current f ≡ true → P f → P (current f s)
  when-current is here = subst (λ (b : Bool). P (if b then f else s)) (sym is) here

  pub when-not : is_current f ≡ false → P s → P (current f s)
  when-not is there = subst (λ (b : Bool). P (if b then f else s)) (sym is) there

-- a text that begins with the byte 1
first-of : (text file : List ℕ) → take (length (1 ∷ text)) file ≡ 1 ∷ text → take 1 file ≡ 1 ∷ []
first-of text [] is = cc
first-of text (x ∷ file) is = let same : x ≡ 1 = cc in ap (λ n. n ∷ []) same

-- a file that begins with a text and a closed gate
index-behind : (text rest : List ℕ) → slice_index (text ++ 0 ∷ rest) (length text) ≡ 0
index-behind [] rest = refl
index-behind (x ∷ text) rest = index-behind text rest

rests-closed : (text file : List ℕ) → Begins (text ++ 0 ∷ []) file → Rests text file
rests-closed text file begins =
    let rest : List ℕ = drop (length (text ++ 0 ∷ [])) file in
    let whole : file ≡ text ++ 0 ∷ rest =
    sym (take-append-drop (length (text ++ 0 ∷ [])) file) ∙ ap (λ (l : List ℕ). l ++ rest) begins ∙ append_assoc text (0 ∷ []) rest in
    record {
      front = ap (take (length text)) whole ∙ take-append_seam text (0 ∷ rest);
      gate = record {
        there = omega (arith, ap length whole, length-append text (0 ∷ rest));
        shut = λ is. absurd (let none : 0 ≡ 1 = sym (index-behind text rest) ∙ ap (λ (l : List ℕ). slice_index l (length text)) (sym whole) ∙ is in cc);
      };
    }

torn-whole : (old new : Files) → 1 ≤ length old.heads → AreTornAtFirst old new → AreTornAtFirst (with_first 1 old) new
torn-whole old new there torn =
    let rest : length (drop 1 old.heads) + 1 ≡ length old.heads = omega (arith, there, ap length (take-append-drop 1 old.heads), length-append (take 1 old.heads) (drop 1 old.heads), length-take 1 old.heads) in
    record {
      objects = torn.objects;
      heads = record {
        before = refl;
        after = torn.heads.after;
        no_shorter = omega (arith, torn.heads.no_shorter, rest);
        no_longer = omega (arith, torn.heads.no_longer, rest);
      };
    }

module _ {S O R Q A : Type 0} (fixed : Fixed S O R Q A) (moves : List (Move O R)) where
  -- files that stand for a history are those of a current first disk
  pub current-stands : gate_of fixed moves ≡ 64 * (length moves + 1) → (c : Files) → Stands fixed moves c → is_current c ≡ true
  current-stands gate c stands =
      let there = stands.heads.gate.there in
      and_from (nat_le 65 (length c.heads)) (bytes_eq (take 1 c.heads) (1 ∷ []))
      (le-leb 65 (length c.heads) (omega (arith, gate, there)))
      (ap (λ (l : List ℕ). bytes_eq l (1 ∷ [])) (first-of (drop 1 (history_text fixed moves)) c.heads stands.heads.front))

  -- bytes of both files
  pub stands-with : AreKnown fixed moves → (objects heads : List ℕ) → objects ≡ objects_text fixed moves → heads ≡ closed_text fixed moves
      → (c : Files) → BeginWith objects heads c → Stands fixed moves c
  stands-with known objects heads objects_are heads_are c begin = record {
    objects = subst (λ (l : List ℕ). Begins l c.objects) objects_are begin.objects;
    heads = rests-closed (history_text fixed moves) c.heads (subst (λ (l : List ℕ). Begins l c.heads) heads_are begin.heads);
    known = known;
  }

  put-over : (text old : List ℕ) → put 0 text old ≡ over text old
  put-over text old = ap (λ (k : ℕ). text ++ drop k old) (omega arith)

  pub holds-exactly : (objects heads : List ℕ) → objects ≡ objects_text fixed moves → heads ≡ closed_text fixed moves
      → (a b : Option Files) → Tells (Hold objects heads) a b → HoldsExactly fixed moves a b
  holds-exactly objects heads objects_are heads_are a b tells f told =
      let new = tells f told in
      let one : new.0.objects ≡ over (objects_text fixed moves) f.objects = new.2.objects ∙ put-over objects f.objects ∙ ap (λ (l : List ℕ). over l f.objects) objects_are in
      let two : new.0.heads ≡ over (closed_text fixed moves) f.heads = new.2.heads ∙ put-over heads f.heads ∙ ap (λ (l : List ℕ). over l f.heads) heads_are in (
        new.0,
        new.1,
        ap (λ (l : List ℕ). record { objects = l; heads = new.0.heads }) one
            ∙ ap (λ (l : List ℕ). record { objects = over (objects_text fixed moves) f.objects; heads = l }) two,
      )

module _ {D : Type 0} (disk : Ghosts D)
    (counts_now : (d : D) (t : ℕ) (c : Files) → t ≤ disk.moment d → disk.may_leave d c → disk.left_since d t c)
    (only_now : (d : D) (c : Files) → disk.left_since d (disk.moment d) c → disk.may_leave d c)
    (reads_image : (d : D) (f : Files) → disk.contents d ≡ Some f → disk.may_leave d f)
    (told : (d : D) (c : Files) → disk.may_leave d c → (f : Files) × (disk.contents d ≡ Some f))
    (all_tell : (one other : D) (f : Files) → disk.contents one ≡ Some f → (g : Files) × (disk.contents other ≡ Some g))
    {S O R Q A : Type 0} (m : Meaning S O R Q A) (address : List ℕ → List ℕ) (store : StoreView (Move O R) D)
    (reads : ReadsWhatStands m) (to_first : SwitchesToFirst m) (to_second : SwitchesToSecond m)
    (valid : IsFullyValid (fix m store.terms address) store.history)
    (valid_compact : IsFullyValid (fix m store.terms address) (compact store.terms store.history))
    (stands : AllStand (fix m store.terms address) store.history (disk.may_leave store.disk))
    (gate : gate_of (fix m store.terms address) store.history ≡ 64 * (length store.history + 1))
    (gate_compact : gate_of (fix m store.terms address) (compact store.terms store.history) ≡ 64 * (length (compact store.terms store.history) + 1))
    (objects heads : List ℕ) (objects_are : objects ≡ objects_text (fix m store.terms address) (compact store.terms store.history))
    (heads_are : heads ≡ closed_text (fix m store.terms address) (compact store.terms store.history)) where
  abbrev Leaves : D → D → (Files → Type 0) → Type 0
  Leaves old new P = LeavesOnly disk.moment disk.left_since old new P

  now : (old new : D) (P : Files → Type 0) → Leaves old new P → (c : Files) → disk.may_leave new c → P c
  now old new P all = now_too disk.moment disk.left_since disk.may_leave counts_now old new P all

  begun : (old : D) (P : Files → Type 0) → ((c : Files) → disk.may_leave old c → P c) → Leaves old old P
  begun old P all = started disk.moment disk.left_since old P (λ c left. all c (only_now old c left))

  abbrev fixed : Fixed S O R Q A
  fixed = fix m store.terms address

  abbrev fewer : List (Move O R)
  fewer = compact store.terms store.history

  abbrev Either : Files → Type 0
  Either files = ReadsEither m address store.terms store.history files

  -- where a disk has an image, the core's has one too
  known : (d : D) (c : Files) → disk.may_leave d c → AreKnown fixed fewer
  known d c image =
      let f = told d c image in
      let g = all_tell d store.disk f.0 f.1 in
      known-compact fixed store.terms store.history (stands g.0 (reads_image store.disk g.0 g.1)).known

  held-reads : (c : Files) → disk.may_leave store.disk c → ReadsAs m address c (Opens store.terms store.history)
  held-reads c image = reads store.terms address store.history c valid (stands c image)

  held-current : (c : Files) → disk.may_leave store.disk c → is_current c ≡ true
  held-current c image = current-stands fixed store.history gate c (stands c image)

  stand : (d : D) (e : Files) → disk.may_leave d e → (c : Files) → BeginWith objects heads c → Stands fixed fewer c
  stand d e image c begin = stands-with fixed fewer (known d e image) objects heads objects_are heads_are c begin

  fewer-reads : (d : D) (e : Files) → disk.may_leave d e → (c : Files) → BeginWith objects heads c → ReadsAs m address c (Opens store.terms fewer)
  fewer-reads d e image c begin = reads store.terms address fewer c valid_compact (stand d e image c begin)

  -- one answer of two
  as-either : (c : Files) (one two : List (Move O R)) (b : Bool) → (ReadsAs m address c (Opens store.terms one) → Either c) → (ReadsAs m address c (Opens store.terms two) → Either c)
      → ReadsAs m address c (Opens store.terms (if b then one else two)) → Either c
  as-either c one two true here there is = here is
  as-either c one two false here there is = there is

  pub first-exact : (a b : Option Files) → Tells (Hold objects heads) a b → HoldsExactly fixed fewer a b
  first-exact a b tells = holds-exactly fixed fewer objects heads objects_are heads_are a b tells

  -- to the second disk
  module _ (other first second : D) (left : LeftBySecond disk objects heads store.disk other first second) where
    second-switching : Leaves store.disk first (λ f. (s : Files) → disk.may_leave second s → Either (current f s))
    second-switching = ⊎_elim
        (λ same. subst (λ (d : D). Leaves store.disk d (λ f. (s : Files) → disk.may_leave second s → Either (current f s))) (sym same)
        (begun store.disk _ (λ f image s _. inl (when-current (λ c. ReadsAs m address c (Opens store.terms store.history)) f s (held-current f image) (held-reads f image)))))
        (λ begin. weakened disk.moment disk.left_since store.disk first _ _ left.switching
        (λ f from s image.
        as-either (current f s) store.history fewer (is_current f) inl inr
        (to_second store.terms address store.history from.0 s f (held-current from.0 from.1) (held-reads from.0 from.1) (stand second s image s (begin s image)) from.2)))
        left.ready

    pub to-second : ToSecond disk m address store other first second
    to-second = record {
      writing = weakened disk.moment disk.left_since other second _ _ left.writing
          (λ s _ f image. when-current (λ c. ReadsAs m address c (Opens store.terms store.history)) f s (held-current f image) (held-reads f image));
      switching = second-switching;
      ready = ⊎_elim inl (λ begin. inr (λ c image. stand second c image c (begin c image))) left.ready;
    }

    pub second-either : (f s : Files) → disk.may_leave first f → disk.may_leave second s → Either (current f s)
    second-either f s here there = now store.disk first _ second-switching f here s there

  pub second-read : (first second : D) → ((c : Files) → disk.may_leave second c → BeginWith objects heads c) → ((c : Files) → disk.may_leave first c → is_current c ≡ false)
      → BothRead m address store.terms fewer (disk.may_leave first) (disk.may_leave second)
  second-read first second begin away f s here there =
      when-not (λ c. ReadsAs m address c (Opens store.terms fewer)) f s (away f here) (fewer-reads second s there s (begin s there))

  -- to the first disk
  module _ (other first : D) (left : LeftByFirst disk objects heads other first) where
    first-switching : Leaves left.between first (λ f. (s : Files) → disk.may_leave store.disk s → Either (current f s))
    first-switching = ⊎_elim
        (λ same. subst (λ (d : D). Leaves left.between d (λ f. (s : Files) → disk.may_leave store.disk s → Either (current f s))) (sym same)
        (begun left.between _ (λ f image s there. inl (when-not (λ c. ReadsAs m address c (Opens store.terms store.history)) f s (now other left.between _ left.writing f image) (held-reads s there)))))
        (λ ready. weakened disk.moment disk.left_since left.between first _ _ left.switching
        (λ f from s image.
        let was = ready from.0 from.1 in
        as-either (current f s) fewer store.history (is_current f) inr inl
        (to_first store.terms address store.history (with_first 1 from.0) s f (held-reads s image) (stand left.between from.0 from.1 (with_first 1 from.0) was.begin) (torn-whole from.0 f was.there from.2))))
        left.ready

    pub to-first : ToFirst disk m address store other first store.disk
    to-first = record {
      between = left.between;
      writing = weakened disk.moment disk.left_since other left.between _ _ left.writing
          (λ f none s image. when-not (λ c. ReadsAs m address c (Opens store.terms store.history)) f s none (held-reads s image));
      switching = first-switching;
      ready = ⊎_elim inl (λ ready. inr (λ c image. stand left.between c image (with_first 1 c) (ready c image).begin)) left.ready;
      kept = refl;
    }

    pub first-either : (f s : Files) → disk.may_leave first f → disk.may_leave store.disk s → Either (current f s)
    first-either f s here there = now left.between first _ first-switching f here s there

  pub first-read : (first : D) → ((c : Files) → disk.may_leave first c → BeginWith objects heads c) → BothRead m address store.terms fewer (disk.may_leave first) (disk.may_leave store.disk)
  first-read first begin f s here there =
      when-current (λ c. ReadsAs m address c (Opens store.terms fewer)) f s
      (current-stands fixed fewer gate_compact f (stand first f here f (begin f here))) (fewer-reads first f here f (begin f here))

  -- the heads begin with the byte 1
  pub heads-first : take 1 heads ≡ 1 ∷ []
  heads-first = ap (take 1) heads_are

  -- what was done, and what is left
  pub second-done : (which : Which) → which ≡ First → (other first second held : D) → held ≡ store.disk → (counted : Compacted) → counted.kept ≡ length fewer → counted.moves ≡ length store.history
      → MovedToSecond disk objects heads held other first second → IsCompacted disk m address which store other counted first second
  second-done which is other first second held same counted kept moves moved =
      let here = subst (λ (d : D). MovedToSecond disk objects heads d other first second) same moved in
      subst (λ (w : Which). IsCompacted disk m address w store other counted first second) (sym is) (record {
        kept = kept;
        moves = moves;
        reads = second-read first second here.begin here.away;
        moments = to-second other first second here.left;
        exact = (first-exact (disk.contents other) (disk.contents second) here.over, here.byte);
      })

  pub second-left : (which : Which) → which ≡ First → (other first second held : D) → held ≡ store.disk → LeftBySecond disk objects heads held other first second
      → IsNotCompacted disk m address which store other refusal.DiskFault first second
  second-left which is other first second held same left =
      let here = subst (λ (d : D). LeftBySecond disk objects heads d other first second) same left in
      subst (λ (w : Which). IsNotCompacted disk m address w store other refusal.DiskFault first second) (sym is) (record {
        reads = second-either other first second here;
        moments = to-second other first second here;
        same = λ e. absurd (cc);
      })

  pub first-done : (which : Which) → which ≡ Second → (other first held : D) → held ≡ store.disk → (counted : Compacted) → counted.kept ≡ length fewer → counted.moves ≡ length store.history
      → MovedToFirst disk objects heads other first → IsCompacted disk m address which store other counted first held
  first-done which is other first held same counted kept moves moved =
      subst (λ (w : Which). IsCompacted disk m address w store other counted first held) (sym is)
      (subst (λ (d : D). IsCompacted disk m address Second store other counted first d) (sym same) (record {
        kept = kept;
        moves = moves;
        reads = first-read first moved.begin;
        moments = to-first other first moved.left;
        exact = first-exact (disk.contents other) (disk.contents first) moved.over;
      }))

  pub first-left : (which : Which) → which ≡ Second → (other first held : D) → held ≡ store.disk → LeftByFirst disk objects heads other first
      → IsNotCompacted disk m address which store other refusal.DiskFault first held
  first-left which is other first held same left =
      subst (λ (w : Which). IsNotCompacted disk m address w store other refusal.DiskFault first held) (sym is)
      (subst (λ (d : D). IsNotCompacted disk m address Second store other refusal.DiskFault first d) (sym same) (record {
        reads = first-either other first left;
        moments = to-first other first left;
        same = λ e. absurd (cc);
      }))

  -- nothing was done
  untorn-first : (old : D) → Leaves old old (After AreTornAtFirst (disk.may_leave old))
  untorn-first old = begun old _ (λ c image. (c, image, record { objects = refl; heads = torn-none 0 1 c.heads }))

  nothing-at : (which : Which) (other : D) → (which ≡ Second → IsSettledAside (disk.contents other) (disk.may_leave other))
      → IsNotCompacted disk m address which store other refusal.Memory (first_of which store.disk other) (second_of which store.disk other)
  nothing-at First other aside =
      let left : LeftBySecond disk objects heads store.disk other store.disk other = record { writing = begun other (λ c. Unit {0}) (λ c image. tt); switching = untorn-first store.disk; ready = inl refl } in
      record { reads = second-either other store.disk other left; moments = to-second other store.disk other left; same = λ _. (refl, refl) }
  nothing-at Second other aside =
      let left : LeftByFirst disk objects heads other other = record { between = other; writing = begun other (λ c. is_current c ≡ false) (λ c image. (aside refl c image).1); switching = untorn-first other; ready = inl refl } in
      record { reads = first-either other other left; moments = to-first other other left; same = λ _. (refl, refl) }

  pub nothing-done : (which : Which) (other held first second : D) → held ≡ store.disk → first ≡ first_of which held other → second ≡ second_of which held other
      → (which ≡ Second → IsSettledAside (disk.contents other) (disk.may_leave other)) → IsNotCompacted disk m address which store other refusal.Memory first second
  nothing-done which other held first second same one two aside =
      subst (λ (f : D). IsNotCompacted disk m address which store other refusal.Memory f second) (sym (one ∙ ap (λ (d : D). first_of which d other) same))
      (subst (λ (s : D). IsNotCompacted disk m address which store other refusal.Memory (first_of which store.disk other) s) (sym (two ∙ ap (λ (d : D). second_of which d other) same)) (nothing-at which other aside))

-- no count rose
pub cause-none : (a b c d : ℕ) → b ≡ a → d ≡ c → HasCauseOfEither a b c d refusal.Memory
cause-none a b c d one two = record { first_later = omega arith; second_later = omega arith; failed = λ e. absurd (cc); others = λ _. (one, two) }

-- the first disk failed
pub cause-first : (a b c d : ℕ) → a ≤ b → Rose a b → d ≡ c → HasCauseOfEither a b c d refusal.DiskFault
cause-first a b c d later rose same = record { first_later = later; second_later = omega arith; failed = λ _. inl (rose, same); others = λ no. absurd (no refl) }
