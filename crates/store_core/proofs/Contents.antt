-- What a disk that tells has after the objects and the journal wrote to it.
use Rattle.std.proofs.Common.{◌≡◌, ℕ, ◌+◌, List, [], ◌∷◌, ◌++◌, length, take, drop, refl, sym, ◌∙◌, ap, subst, arith, append-nil, append_assoc, length-append, Option, Some}
use Rattle.branch_disk.specs.Disk.{Files, Holds, OnPart, Tells, Torn, put}
use Rattle.branch_disk.specs.declared.part.Part.TheVariants.{Objects, Heads}
use Rattle.branch_wire.specs.StoredObjects.{Begins}
use Rattle.branch_history.specs.declared.moves.Move.{Move}
use Rattle.heads_journal.specs.declared.record.Record.{Record}
use Rattle.heads_journal.specs.Heads.{open_records}
use Rattle.branch_machine.specs.Fixed.{Fixed}
use Rattle.branch_machine.specs.Objects.{objects_text, end_of, region}
use Rattle.branch_files.specs.Records.{records_after, history_text, gate_of}
use Rattle.branch_files.specs.Stands.{Stands}
use Rattle.branch_files.proofs.Longer.{history-append, objects_text-more}
use Rattle.recorded_history.specs.Machine.{regions}
use Rattle.store_core.specs.Contents.{over, closed_text, HoldsExactly, IsTorn, AreTorn}

-- bytes behind a text that the old ones begin with
put-behind : (text more old : List ℕ) → Begins text old → put (length text) more old ≡ over (text ++ more) old
put-behind text more old begins =
    ap (λ (l : List ℕ). l ++ more ++ drop (length text + length more) old) begins
    ∙ ap (λ (n : ℕ). text ++ more ++ drop n old) (sym (length-append text more))

-- bytes at the front
pub put-first : (text old : List ℕ) → put 0 text old ≡ over text old
put-first text old = ap (λ (n : ℕ). text ++ drop n old) (omega arith)

pub files-are : (f : Files) (objects heads : List ℕ) → f.objects ≡ objects → f.heads ≡ heads → f ≡ record { objects = objects; heads = heads }
files-are f objects heads first second =
    ap (λ (o : List ℕ). let g : Files = record { objects = o; heads = f.heads } in g) first
    ∙ ap (λ (h : List ℕ). let g : Files = record { objects = objects; heads = h } in g) second

-- what stays is torn nowhere
untorn : (at n : ℕ) (old new : List ℕ) → new ≡ old → Torn at n old new
untorn at n old new same = record {
  before = ap (take at) same;
  after = ap (drop (at + n)) same;
  no_shorter = (let e = ap length same in omega (arith, e));
  no_longer = (let e = ap length same in omega (arith, e));
}

module _ (start count : ℕ) (told after_objects : Option Files) (write : Tells (OnPart Objects (Torn start count)) told after_objects) where
  -- the objects alone may be torn
  pub torn-objects : (gate width : ℕ) → Tells (AreTorn start count gate width) told after_objects
  torn-objects gate width f tells =
      let w = write f tells in
      (w.0, w.1, record { objects = w.2.0; heads = untorn gate width f.heads w.0.heads w.2.1 })

  -- both parts may be
  pub torn-both : (after_records : Option Files) (place gate wide width : ℕ) → gate ≡ place → width ≡ wide → Tells (OnPart Heads (Torn place wide)) after_objects after_records → Tells (AreTorn start count gate width) told after_records
  torn-both after_records place gate wide width at long append f tells =
      let w = write f tells in
      let a = append w.0 w.1 in
      let heads = subst (λ (h : List ℕ). Torn place wide h a.0.heads) w.2.1 a.2.0 in
      let longer = subst (λ (n : ℕ). Torn place n f.heads a.0.heads) (sym long) heads in (
        a.0,
        a.1,
        record {
          objects = subst (λ (o : List ℕ). Torn start count f.objects o) (sym a.2.1) w.2.0;
          heads = subst (λ (p : ℕ). Torn p width f.heads a.0.heads) (sym at) longer;
        },
      )

module _ {S O R Q A : Type 0} (fixed : Fixed S O R Q A) where
  -- moves append their regions
  regions-append : (history more : List (Move O R)) → objects_text fixed (history ++ more) ≡ objects_text fixed history ++ regions fixed history more
  regions-append history [] = ap (objects_text fixed) (append-nil history) ∙ sym (append-nil (objects_text fixed history))
  regions-append history (m ∷ more) =
      ap (objects_text fixed) (sym (append_assoc history (m ∷ []) more))
      ∙ regions-append (history ++ m ∷ []) more
      ∙ ap (λ (t : List ℕ). t ++ regions fixed (history ++ m ∷ []) more) (objects_text-more fixed history m)
      ∙ append_assoc (objects_text fixed history) (region fixed history m) (regions fixed (history ++ m ∷ []) more)

module _ {S O R Q A : Type 0} (fixed : Fixed S O R Q A) (history more : List (Move O R)) where
  objects-with : (old new : List ℕ) → Begins (objects_text fixed history) old → Holds (end_of fixed history) (regions fixed history more) old new → new ≡ over (objects_text fixed (history ++ more)) old
  objects-with old new begins holds =
      holds ∙ put-behind (objects_text fixed history) (regions fixed history more) old begins
      ∙ ap (λ (t : List ℕ). over t old) (sym (regions-append fixed history more))

  closed-more : (records : List Record) → records ≡ records_after fixed history more → history_text fixed history ++ (open_records records ++ 0 ∷ []) ≡ closed_text fixed (history ++ more)
  closed-more records are =
      ap (λ (l : List Record). history_text fixed history ++ (open_records l ++ 0 ∷ [])) are
      ∙ sym (append_assoc (history_text fixed history) (open_records (records_after fixed history more)) (0 ∷ []))
      ∙ ap (λ (t : List ℕ). t ++ 0 ∷ []) (sym (history-append fixed history more))

  heads-with : (records : List Record) → records ≡ records_after fixed history more → (old new : List ℕ) → Begins (history_text fixed history) old → (place : ℕ) → gate_of fixed history ≡ place
      → Holds place (open_records records ++ 0 ∷ []) old new → new ≡ over (closed_text fixed (history ++ more)) old
  heads-with records are old new begins place at holds =
      subst (λ (p : ℕ). Holds p (open_records records ++ 0 ∷ []) old new) (sym at) holds
      ∙ put-behind (history_text fixed history) (open_records records ++ 0 ∷ []) old begins
      ∙ ap (λ (t : List ℕ). over t old) (closed-more records are)

  module _ (told after_objects after_records : Option Files) (place : ℕ) (at : gate_of fixed history ≡ place) where
    -- both writes went through
    pub holds-exactly : (records : List Record) → records ≡ records_after fixed history more → ((f : Files) → told ≡ Some f → Stands fixed history f)
        → Tells (OnPart Objects (Holds (end_of fixed history) (regions fixed history more))) told after_objects
        → Tells (OnPart Heads (Holds place (open_records records ++ 0 ∷ []))) after_objects after_records
        → HoldsExactly fixed (history ++ more) told after_records
    holds-exactly records are stands write append f tells =
        let w = write f tells in
        let a = append w.0 w.1 in
        let stood = stands f tells in
        let heads = heads-with records are f.heads a.0.heads stood.heads.front place at (subst (λ (h : List ℕ). Holds place (open_records records ++ 0 ∷ []) h a.0.heads) w.2.1 a.2.0) in
        let objects = objects-with f.objects a.0.objects stood.objects (a.2.1 ∙ w.2.0) in
        (a.0, a.1, files-are a.0 (over (objects_text fixed (history ++ more)) f.objects) (over (closed_text fixed (history ++ more)) f.heads) objects heads)

module _ {S O R Q A : Type 0} (fixed : Fixed S O R Q A) (told first after_objects after_record : Option Files) (same : first ≡ told) where
  -- a new store, written over what there was
  pub begins-exactly : (text : List ℕ) → text ≡ history_text fixed [] → Tells (OnPart Objects (Holds 0 (objects_text fixed []))) first after_objects
      → Tells (OnPart Heads (Holds 0 (text ++ 0 ∷ []))) after_objects after_record → HoldsExactly fixed [] told after_record
  begins-exactly text is write append f tells =
      let w = write f (same ∙ tells) in
      let a = append w.0 w.1 in
      let heads = a.2.0 ∙ put-first (text ++ 0 ∷ []) w.0.heads ∙ ap (λ (t : List ℕ). over (t ++ 0 ∷ []) w.0.heads) is ∙ ap (over (closed_text fixed [])) w.2.1 in
      let objects = a.2.1 ∙ w.2.0 ∙ put-first (objects_text fixed []) f.objects in
      (a.0, a.1, files-are a.0 (over (objects_text fixed []) f.objects) (over (closed_text fixed []) f.heads) objects heads)

-- what is told as before is torn nowhere
pub torn-nowhere : (start count gate : ℕ) (told now : Option Files) → now ≡ told → Tells (IsTorn start count gate) told now
torn-nowhere start count gate told now same f tells =
    (f, same ∙ tells, record { objects = untorn start count f.objects f.objects refl; heads = untorn gate 65 f.heads f.heads refl })

-- what was told before the first write
pub told-first : (step : Files → Files → Type 0) (told first now : Option Files) → first ≡ told → Tells step first now → Tells step told now
told-first step told first now same tells f is = tells f (same ∙ is)
