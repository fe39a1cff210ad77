-- Both parts of a store, as they are written on a disk.
use Rattle.std.specs.Prelude.{◌≡◌, ◌⊎◌, ℕ, ◌≤◌, false, List, [], ◌∷◌, length, take, drop, Option, Some}
use Rattle.std.specs.Str.{bytes_eq}
use Rattle.branch_disk.specs.Disk.{Files, bytes_of, After, Holds, LeavesOnly, OnPart, Tells, Torn, put}
use Rattle.branch_disk.specs.declared.disk.Disk.{Ghosts}
use Rattle.branch_disk.specs.declared.part.Part.{Part}
use Rattle.branch_disk.specs.declared.part.Part.TheVariants.{Heads}
use Rattle.branch_wire.specs.StoredObjects.{Begins}
use Rattle.branch_compact.specs.Switch.{is_current, AreTornAtFirst}

-- the files begin with these objects and these heads
pub record BeginWith (objects_bytes heads_bytes : List ℕ) (files : Files) : Type 0 where
  pub objects : Begins objects_bytes files.objects
  pub heads : Begins heads_bytes files.heads

-- the files with this byte in the first place of the heads
abbrev pub with_first : ℕ → Files → Files
with_first byte files = record { objects = files.objects; heads = byte ∷ drop 1 files.heads }

-- The files begin so once the first byte of the heads is 1; that byte is there, and is another one.
pub record BeginButFirst (objects_bytes heads_bytes : List ℕ) (files : Files) : Type 0 where
  pub begin : BeginWith objects_bytes heads_bytes (with_first 1 files)
  pub there : 1 ≤ length files.heads
  pub other : is_current files ≡ false

-- any bytes may stand in so many of the objects, and in so many of the heads; all others are the old ones
pub record AreTorn (in_objects in_heads : ℕ) (old new : Files) : Type 0 where
  pub objects : Torn 0 in_objects old.objects new.objects
  pub heads : Torn 0 in_heads old.heads new.heads

-- the files have these bytes over the old ones
pub record Hold (objects_bytes heads_bytes : List ℕ) (old new : Files) : Type 0 where
  pub objects : new.objects ≡ put 0 objects_bytes old.objects
  pub heads : new.heads ≡ put 0 heads_bytes old.heads

-- but for the first byte of the heads
pub record HoldButFirst (objects_bytes heads_bytes : List ℕ) (old new : Files) : Type 0 where
  pub objects : new.objects ≡ put 0 objects_bytes old.objects
  pub heads : drop 1 new.heads ≡ drop 1 (put 0 heads_bytes old.heads)
  pub there : 1 ≤ length new.heads

-- the disk tells these files in each of its images, and they are not those of a current first disk
abbrev pub IsSettledAside : Option Files → (Files → Type 0) → Type 0
IsSettledAside told images = (c : Files) → images c → (told ≡ Some c) × (is_current c ≡ false)

-- the first byte of the heads is there, and is not 1
pub record HasOtherFirst (files : Files) : Type 0 where
  pub there : 1 ≤ length files.heads
  pub other : bytes_eq (take 1 files.heads) (1 ∷ []) ≡ false

-- nothing has changed but the first byte of the heads, which is there
pub record KeepButFirst (old new : Files) : Type 0 where
  pub objects : new.objects ≡ old.objects
  pub heads : drop 1 new.heads ≡ drop 1 old.heads
  pub there : 1 ≤ length new.heads

-- of one part, the image has these bytes over what was told; of the other it is an image from before
pub record HasPut (part : Part) (at : ℕ) (bytes : List ℕ) (told : Option Files) (before : Files → Type 0) (c : Files)
    : Type 0 where
  pub was : Files
  pub was_told : told ≡ Some was
  pub put_there : bytes_of part c ≡ put at bytes (bytes_of part was)
  pub from : Files
  pub from_before : before from
  pub others : OnPart part (λ old new. Unit {0}) from c

-- The second disk is written, from `other` to `second`, and then the first is switched, from the one that was held to
-- `first`: not before each image of the second begins with these bytes.
pub record LeftBySecond {D : Type 0} (disk : Ghosts D) (objects_bytes heads_bytes : List ℕ) (held other first second : D)
    : Type 0 where
  pub writing : LeavesOnly disk.moment disk.left_since other second (λ c. Unit {0})
  pub switching : LeavesOnly disk.moment disk.left_since held first (After AreTornAtFirst (disk.may_leave held))
  pub ready : (first ≡ held) ⊎ ((c : Files) → disk.may_leave second c → BeginWith objects_bytes heads_bytes c)

-- and so it is done
pub record MovedToSecond {D : Type 0} (disk : Ghosts D) (objects_bytes heads_bytes : List ℕ) (held other first second : D)
    : Type 0 where
  pub left : LeftBySecond disk objects_bytes heads_bytes held other first second
  pub begin : (c : Files) → disk.may_leave second c → BeginWith objects_bytes heads_bytes c
  pub away : (c : Files) → disk.may_leave first c → is_current c ≡ false
  pub over : Tells (Hold objects_bytes heads_bytes) (disk.contents other) (disk.contents second)
  pub byte : Tells (OnPart Heads (Holds 0 (2 ∷ []))) (disk.contents held) (disk.contents first)

-- The first disk is written but for one byte, from `other` to one between, and then switched, to `first`: not before
-- each image of the one between begins with these bytes, but for that byte. Until then none is current.
pub record LeftByFirst {D : Type 0} (disk : Ghosts D) (objects_bytes heads_bytes : List ℕ) (other first : D)
    : Type 0 where
  pub between : D
  pub writing : LeavesOnly disk.moment disk.left_since other between (λ c. is_current c ≡ false)
  pub switching : LeavesOnly disk.moment disk.left_since between first (After AreTornAtFirst (disk.may_leave between))
  pub ready : (first ≡ between) ⊎ ((c : Files) → disk.may_leave between c → BeginButFirst objects_bytes heads_bytes c)

-- and so it is done
pub record MovedToFirst {D : Type 0} (disk : Ghosts D) (objects_bytes heads_bytes : List ℕ) (other first : D)
    : Type 0 where
  pub left : LeftByFirst disk objects_bytes heads_bytes other first
  pub begin : (c : Files) → disk.may_leave first c → BeginWith objects_bytes heads_bytes c
  pub over : Tells (Hold objects_bytes heads_bytes) (disk.contents other) (disk.contents first)
