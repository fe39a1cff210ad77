-- Writes to the parts of a disk, one behind the other, each synced.
use Rattle.std.proofs.Common.{◌≡◌, ℕ, ◌+◌, ◌≤◌, false, List, [], ◌∷◌, ◌++◌, length, take, drop, Option, Some, sym, ◌∙◌, ap, subst, arith, append_assoc, length-append}
use Rattle.std.specs.Prelude.{nat_le, bytes_eq}
use Rattle.std.proofs.lemmas.Bool.{and_right}
use Rattle.std.proofs.lemmas.List.{drop_at, drop-drop, length-take-le}
use Rattle.std.proofs.Math.Seq.{take-append_seam}
use Rattle.branch_disk.specs.Disk.{Files, bytes_of, put, OnPart, Holds, Torn, After, Tells, IsSure, LeavesOnly}
use Rattle.branch_disk.specs.Moments.{goes_on, weakened, now_too}
use Rattle.branch_disk.specs.declared.disk.Disk.{Ghosts}
use Rattle.branch_disk.specs.declared.part.Part.{Part}
use Rattle.branch_disk.specs.declared.part.Part.TheVariants.{Objects, Heads}
use Rattle.branch_wire.specs.StoredObjects.{Begins}
use Rattle.heads_journal.proofs.Torn.{torn-none, torn-both}
use Rattle.branch_compact.specs.Switch.{is_current}
use Rattle.store_compact.specs.Written.{AreTorn, BeginButFirst, BeginWith, HasOtherFirst, HasPut, Hold, HoldButFirst, KeepButFirst}

-- what a step of one part says of its bytes
on-bytes : (part : Part) (P : List ℕ → List ℕ → Type 0) (old new : Files) → OnPart part P old new → P (bytes_of part old) (bytes_of part new)
on-bytes Objects P old new step = step.0
on-bytes Heads P old new step = step.0

-- the other part stays, whatever the step
on-others : (part : Part) (P : List ℕ → List ℕ → Type 0) (old new : Files) → OnPart part P old new → OnPart part (λ a b. Unit {0}) old new
on-others Objects P old new step = (tt, step.1)
on-others Heads P old new step = (tt, step.1)

-- bytes at the front stand there
pub put-begins : (bytes old : List ℕ) → Begins bytes (put 0 bytes old)
put-begins bytes old = take-append_seam bytes (drop (0 + length bytes) old)

pub other-not_current : (c : Files) → HasOtherFirst c → is_current c ≡ false
other-not_current c other = and_right (nat_le 65 (length c.heads)) (bytes_eq (take 1 c.heads) (1 ∷ [])) other.other

-- the same first byte
same-other : (d c : Files) → HasOtherFirst d → take 1 c.heads ≡ take 1 d.heads → length d.heads ≤ length c.heads → HasOtherFirst c
same-other d c other same longer = record {
  there = omega (arith, other.there, longer);
  other = ap (λ (l : List ℕ). bytes_eq l (1 ∷ [])) same ∙ other.other;
}

-- of two steps
one-torn : (n m : ℕ) (d c : Files) → OnPart Objects (Torn 0 n) d c → AreTorn n m d c
one-torn n m d c step = record { objects = step.0; heads = subst (λ (l : List ℕ). Torn 0 m d.heads l) (sym step.1) (torn-none 0 m d.heads) }

both-torn : (n m : ℕ) (e d c : Files) → AreTorn n m e d → OnPart Heads (Torn 0 m) d c → AreTorn n m e c
both-torn n m e d c first step = record {
  objects = subst (λ (l : List ℕ). Torn 0 n e.objects l) (sym step.1) first.objects;
  heads = torn-both 0 m e.heads d.heads c.heads first.heads step.0;
}

pub both-told : (objects heads : List ℕ) (a b c : Option Files) → Tells (OnPart Objects (Holds 0 objects)) a b → Tells (OnPart Heads (Holds 0 heads)) b c → Tells (Hold objects heads) a c
both-told objects heads a b c one two f told =
    let mid = one f told in
    let new = two mid.0 mid.1 in
    (new.0, new.1, record { objects = new.2.1 ∙ mid.2.0; heads = new.2.0 ∙ ap (put 0 heads) mid.2.1 })

-- a text whose first byte is 1
opened : (heads : List ℕ) → take 1 heads ≡ 1 ∷ [] → heads ≡ 1 ∷ drop 1 heads
opened [] is = absurd (cc)
opened (x ∷ rest) is = let same : x ≡ 1 = cc in ap (λ n. n ∷ rest) same

-- behind the first byte stands what was put there
put-behind : (bytes old : List ℕ) → 1 ≤ length old → drop 1 (put 1 bytes old) ≡ bytes ++ drop (1 + length bytes) old
put-behind bytes old there =
    ap (drop 1) (append_assoc (take 1 old) bytes (drop (1 + length bytes) old))
    ∙ drop_at (take 1 old) (bytes ++ drop (1 + length bytes) old) 1 (length-take-le 1 old there)

-- and the same is behind the first byte of a text that is put from its beginning
put-whole : (heads old : List ℕ) → take 1 heads ≡ 1 ∷ [] → drop 1 (put 0 heads old) ≡ drop 1 heads ++ drop (length (drop 1 heads)) (drop 1 old)
put-whole [] old is = absurd (cc)
put-whole (x ∷ rest) old is = ap (λ (l : List ℕ). rest ++ l) (ap (λ (k : ℕ). drop k old) (omega arith) ∙ sym (drop-drop (length rest) 1 old))

module _ {D : Type 0} (disk : Ghosts D)
    (counts_now : (d : D) (t : ℕ) (c : Files) → t ≤ disk.moment d → disk.may_leave d c → disk.left_since d t c)
    (only_now : (d : D) (c : Files) → disk.left_since d (disk.moment d) c → disk.may_leave d c)
    (reads_image : (d : D) (f : Files) → disk.contents d ≡ Some f → disk.may_leave d f)
    (told : (d : D) (c : Files) → disk.may_leave d c → (f : Files) × (disk.contents d ≡ Some f)) where
  abbrev Leaves : D → D → (Files → Type 0) → Type 0
  Leaves old new P = LeavesOnly disk.moment disk.left_since old new P

  now : (old new : D) (P : Files → Type 0) → Leaves old new P → (c : Files) → disk.may_leave new c → P c
  now old new P all = now_too disk.moment disk.left_since disk.may_leave counts_now old new P all

  -- a call behind another, which leaves what there was
  pub wrote-synced : (s0 s1 s2 : D) (P : Files → Type 0) → Leaves s0 s1 P → Leaves s1 s2 (disk.may_leave s1) → Leaves s0 s2 P
  wrote-synced s0 s1 s2 P first second = goes_on disk.moment disk.left_since s0 s1 s2 P _ first second (now s0 s1 P first)

  -- a write, and a sync
  pub has-put : (part : Part) (at : ℕ) (bytes : List ℕ) (s0 s1 s2 : D) → Leaves s0 s2 (After (OnPart part (Torn at (length bytes))) (disk.may_leave s0))
      → Tells (OnPart part (Holds at bytes)) (disk.contents s0) (disk.contents s1) → IsSure part (disk.contents s1) (disk.may_leave s2)
      → (c : Files) → disk.may_leave s2 c → HasPut part at bytes (disk.contents s0) (disk.may_leave s0) c
  has-put part at bytes s0 s1 s2 all holds sure c image =
      let from = now s0 s2 _ all c image in
      let first = told s0 from.0 from.1 in
      let then = holds first.0 first.1 in
      record {
        was = first.0;
        was_told = first.1;
        put_there = sure then.0 then.1 c image ∙ on-bytes part (Holds at bytes) first.0 then.0 then.2;
        from = from.0;
        from_before = from.1;
        others = on-others part (Torn at (length bytes)) from.0 c from.2;
      }

  -- both parts
  module _ (objects heads : List ℕ) (s0 s1 : D) (first : Leaves s0 s1 (After (OnPart Objects (Torn 0 (length objects))) (disk.may_leave s0))) where
    pub first-torn : Leaves s0 s1 (After (AreTorn (length objects) (length heads)) (disk.may_leave s0))
    first-torn = weakened disk.moment disk.left_since s0 s1 _ _ first (λ c from. (from.0, from.1, one-torn (length objects) (length heads) from.0 c from.2))

    pub all-torn : (s2 : D) → Leaves s1 s2 (After (OnPart Heads (Torn 0 (length heads))) (disk.may_leave s1))
        → Leaves s0 s2 (After (AreTorn (length objects) (length heads)) (disk.may_leave s0))
    all-torn s2 second = goes_on disk.moment disk.left_since s0 s1 s2 _ _ first-torn second
        (λ c from.
        let before = now s0 s1 _ first-torn from.0 from.1 in
        (before.0, before.1, both-torn (length objects) (length heads) before.0 from.0 c before.2 from.2))

  pub both-begin : (objects heads : List ℕ) (s0 s1 s2 : D)
      → ((c : Files) → disk.may_leave s1 c → HasPut Objects 0 objects (disk.contents s0) (disk.may_leave s0) c)
      → ((c : Files) → disk.may_leave s2 c → HasPut Heads 0 heads (disk.contents s1) (disk.may_leave s1) c)
      → (c : Files) → disk.may_leave s2 c → BeginWith objects heads c
  both-begin objects heads s0 s1 s2 one two c image =
      let at_heads = two c image in
      let at_objects = one at_heads.from at_heads.from_before in
      record {
        objects = subst (Begins objects) (sym (at_heads.others.1 ∙ at_objects.put_there)) (put-begins objects at_objects.was.objects);
        heads = subst (Begins heads) (sym at_heads.put_there) (put-begins heads at_heads.was.heads);
      }

  -- the parts behind the first byte
  module _ (objects heads : List ℕ) (one : take 1 heads ≡ 1 ∷ []) (tail : List ℕ) (tail_is : tail ≡ drop 1 heads) (s0 s1 s2 : D) (never : Leaves s0 s1 (λ c. is_current c ≡ false))
      (other : (c : Files) → disk.may_leave s1 c → HasOtherFirst c)
      (first : Leaves s1 s2 (After (OnPart Objects (Torn 0 (length objects))) (disk.may_leave s1))) where
    objects-other : (d c : Files) → HasOtherFirst d → c.heads ≡ d.heads → HasOtherFirst c
    objects-other d c was same = same-other d c was (ap (take 1) same) (omega (arith, ap length same))

    pub first-never : Leaves s0 s2 (λ c. is_current c ≡ false)
    first-never = goes_on disk.moment disk.left_since s0 s1 s2 _ _ never first
        (λ c from. other-not_current c (objects-other from.0 c (other from.0 from.1) from.2.1))

    module _ (has : (c : Files) → disk.may_leave s2 c → HasPut Objects 0 objects (disk.contents s1) (disk.may_leave s1) c) where
      pub second-other : (c : Files) → disk.may_leave s2 c → HasOtherFirst c
      second-other c image = let at = has c image in objects-other at.from c (other at.from at.from_before) at.others.1

      module _ (s3 : D) (second : Leaves s2 s3 (After (OnPart Heads (Torn 1 (length tail))) (disk.may_leave s2))) where
        pub second-never : Leaves s0 s3 (λ c. is_current c ≡ false)
        second-never = goes_on disk.moment disk.left_since s0 s2 s3 _ _ first-never second
            (λ c from. other-not_current c (same-other from.0 c (second-other from.0 from.1) from.2.0.before from.2.0.no_shorter))

        pub second-begin : ((c : Files) → disk.may_leave s3 c → HasPut Heads 1 tail (disk.contents s2) (disk.may_leave s2) c)
            → (c : Files) → disk.may_leave s3 c → BeginButFirst objects heads c
        second-begin put_there c image =
            let at = put_there c image in
            let was_other = second-other at.was (reads_image s2 at.was at.was_told) in
            let behind : drop 1 c.heads ≡ tail ++ drop (1 + length tail) at.was.heads = ap (drop 1) at.put_there ∙ put-behind tail at.was.heads was_other.there in
            let at_objects = has at.from at.from_before in
            let torn = now s2 s3 _ second c image in
            record {
              begin = record {
                objects = subst (Begins objects) (sym (at.others.1 ∙ at_objects.put_there)) (put-begins objects at_objects.was.objects);
                heads = subst (λ (l : List ℕ). Begins l (1 ∷ drop 1 c.heads)) (sym (opened heads one ∙ ap (λ (l : List ℕ). 1 ∷ l) (sym tail_is)))
                    (ap (λ (l : List ℕ). 1 ∷ take (length tail) l) behind ∙ ap (λ (l : List ℕ). 1 ∷ l) (take-append_seam tail (drop (1 + length tail) at.was.heads)));
              };
              there = omega (arith, (second-other torn.0 torn.1).there, torn.2.0.no_shorter);
              other = now s0 s3 _ second-never c image;
            }

  pub all-told : (objects heads : List ℕ) (begins : take 1 heads ≡ 1 ∷ []) (tail : List ℕ) (tail_is : tail ≡ drop 1 heads) (a b c d : Option Files) → Tells KeepButFirst a b → Tells (OnPart Objects (Holds 0 objects)) b c
      → Tells (OnPart Heads (Holds 1 tail)) c d → Tells (HoldButFirst objects heads) a d
  all-told objects heads begins tail tail_is a b c d one two three f is =
      let first = one f is in
      let second = two first.0 first.1 in
      let third = three second.0 second.1 in
      let there : 1 ≤ length second.0.heads = subst (λ (l : List ℕ). 1 ≤ length l) (sym second.2.1) first.2.there in
      let behind : drop 1 third.0.heads ≡ tail ++ drop (1 + length tail) second.0.heads = ap (drop 1) third.2.0 ∙ put-behind tail second.0.heads there in (
        third.0,
        third.1,
        record {
          objects = third.2.1 ∙ second.2.0 ∙ ap (put 0 objects) first.2.objects;
          heads = behind ∙ ap (λ (l : List ℕ). tail ++ l)
              (sym (drop-drop (length tail) 1 second.0.heads)
              ∙ ap (drop (length tail)) (ap (drop 1) second.2.1 ∙ first.2.heads))
              ∙ ap (λ (l : List ℕ). l ++ drop (length l) (drop 1 f.heads)) tail_is ∙ sym (put-whole heads f.heads begins);
          there = omega (arith, ap length third.2.0, length-append (take 1 second.0.heads ++ tail) (drop (1 + length tail) second.0.heads), length-append (take 1 second.0.heads) tail, length-take-le 1 second.0.heads there);
        },
      )
