-- The play of the machine that an engine stands for.
use Rattle.std.specs.Prelude.{◌≡◌, ◌⊎◌, ℕ, Bool, true, false, List, [], ◌∷◌, ◌++◌, Some, Result, Err, OnOk, IfErr, if◌then◌else◌}
use Rattle.std.specs.declared.option.Option.{Option}
use Rattle.std.specs.Option.{option_map}
use Rattle.std.specs.Map.{lookup}
use Rattle.std.specs.Ordering.{nat_cmp, is_eq}
use Rattle.std.specs.Cmp.Lexicographic.{slice_cmp}
use mathlib.Core.List.{IsPrefix}
use Rattle.mrdt_model.specs.Laws.{Meaning}
use Rattle.mrdt_model.specs.Spelled.{AppendsPart}
use Rattle.branch_io.specs.Causes.{HasCauseOf}
use Rattle.branch_disk.specs.Disk.{Files, LeavesOnly}
use Rattle.branch_names.specs.declared.terms.Terms.{Terms}
use Rattle.branch_names.specs.Heads.{head_of}
use Rattle.branch_history.specs.History.{store_of}
use Rattle.branch_history.specs.declared.moves.Move.{Move}
use Rattle.branch_history.specs.Steps.{UnknownBranch}
use Rattle.machine_answers.specs.Answers.{Answer, Made, Still, Refused, Fault, Failed, Short}
use Rattle.store_seen.specs.Views.{CoreView, SeenView}
use Rattle.store_seen.specs.declared.answers.Kind.{Kind}
use Rattle.store_seen.specs.declared.answers.Kind.TheVariants as kind
use Rattle.store_seen.specs.declared.answers.PairRefused.{PairRefused}
use Rattle.store_seen.specs.declared.answers.PairRefused.TheVariants as pair_refusal
use Rattle.store_core.specs.Views.{StoreView, held}
use Rattle.branch_print.specs.Texts.{landed_text, merged_text, joined_text, forward_text, outcome_text, refusal_text, line_end}
use Rattle.branch_machine.specs.Fixed.{Fixed, fix}
use Rattle.branch_doc.specs.declared.plain.PlainReply.{PlainReply}
use Rattle.branch_doc.specs.Types.{PlainForms}
use Rattle.branch_engine.specs.Sessions.{Sight, seen_by}
use Rattle.branch_engine.specs.Play.{Play, Told}
use Rattle.branch_engine.specs.Readings.{ReadAs, ReadAsEither}
use Rattle.branch_engine.specs.declared.refused.TellRefused.{TellRefused}
use Rattle.branch_engine.specs.declared.refused.TellRefused.TheVariants.{DiskFault, Memory}

-- what the store of an engine is, for these operations and replies and over a disk of this type, what it holds in memory, and a look at it
abbrev pub Store : Type 0 → Type 0 → Type 0 → Type 0
Store O R D = StoreView (Move O R) D

abbrev pub Core : Type 0 → Type 0 → Type 0
Core O R = CoreView (Move O R)

abbrev pub Seen : Type 0 → Type 0 → Type 0
Seen O R = SeenView (Move O R)

-- an engine: its store, and the look of each session by name
pub record EngineView (O R D : Type 0) : Type 0 where
  pub core : Store O R D
  pub sessions : List (List ℕ × Seen O R)

-- what the table of sessions has for a name
abbrev pub session_named : {S : Type 0} → List (List ℕ × S) → List ℕ → Option S
session_named entries name = lookup (λ other. is_eq (slice_cmp nat_cmp name other)) entries

abbrev pub sight_of : {O R : Type 0} → Seen O R → Sight
sight_of seen = record { branch = seen.branch; head = seen.head }

-- each session's look is at a beginning of the core's history, under its terms
abbrev pub AreLooksAt : {O R : Type 0} → Core O R → List (List ℕ × Seen O R) → Type 0
AreLooksAt {O} {R} core sessions = (name : List ℕ) (seen : Seen O R) → session_named sessions name ≡ Some seen → IsPrefix seen.history core.history × (seen.terms ≡ core.terms)

-- a session came to see this look, and the others see what they saw
abbrev pub Puts : {S : Type 0} → List (List ℕ × S) → List (List ℕ × S) → List ℕ → S → Type 0
Puts old new session seen = (name : List ℕ) → session_named new name ≡ (if is_eq (slice_cmp nat_cmp session name) then Some seen else session_named old name)

-- each session sees what it saw
abbrev pub KeepsLooks : {S : Type 0} → List (List ℕ × S) → List (List ℕ × S) → Type 0
KeepsLooks old new = (name : List ℕ) → session_named new name ≡ session_named old name

-- a look at the head of this branch of a core
pub record IsLookAt {O R : Type 0} (core : Core O R) (branch : ℕ) (seen : Seen O R) : Type 0 where
  pub history : seen.history ≡ core.history
  pub terms_are : seen.terms ≡ core.terms
  pub branch_is : seen.branch ≡ branch
  pub head_is : seen.head ≡ head_of (store_of core.terms.origin core.history).branches branch

-- a session came to see the head of this branch
abbrev pub SeesHead : {O R D : Type 0} → EngineView O R D → EngineView O R D → List ℕ → ℕ → Type 0
SeesHead {O} {R} old new session branch = (seen : Seen O R) × Puts old.sessions new.sessions session seen × IsLookAt (held old.core) branch seen

-- The engine stands for a play: its store has the play's history, under the terms that are fixed, and each session's look gives what the
-- session sees. What a crash now leaves reads as that history.
pub record IsAt {S O R Q A D : Type 0} (may_leave : D → Files → Type 0) (fixed : Fixed S O R Q A) (engine : EngineView O R D) (p : Play O R) : Type 0 where
  pub terms_are : engine.core.terms ≡ fixed.terms
  pub history : engine.core.history ≡ p.moves
  pub sights : (name : List ℕ) → option_map sight_of (session_named engine.sessions name) ≡ seen_by p.sessions name
  pub images : (c : Files) → may_leave engine.core.disk c → ReadAs fixed p.moves c

-- a play in which the history goes on by one move
abbrev pub Moves : {O R : Type 0} → Play O R → Play O R → Type 0
Moves {O} {R} before after = (made : Move O R) × (after.moves ≡ before.moves ++ made ∷ [])

-- what is told of a line or a step over a play
abbrev pub Telling : (S O R Q A : Type 0) → Type 1
Telling S O R Q A = Fixed S O R Q A → Play O R → Told O R

-- where the engine stood for a play, it stands for what the line or step leaves of it, and the text was added
abbrev pub Replies : {S O R Q A D : Type 0} → (D → Files → Type 0) → Meaning S O R Q A → (List ℕ → List ℕ) → Telling S O R Q A → EngineView O R D → EngineView O R D → List ℕ → List ℕ → Type 0
Replies {S} {O} {R} may_leave meaning address told old new old_out new_out =
    (terms : Terms) (p : Play O R) → let fixed = fix meaning terms address in
    IsAt may_leave fixed old p → IsAt may_leave fixed new (told fixed p).after × (new_out ≡ old_out ++ (told fixed p).text)

-- of what was told in part: the history is the old one or the one after it, and each session sees what it saw
abbrev pub StandsEitherWay : {S O R Q A D : Type 0} → (D → Files → Type 0) → Fixed S O R Q A → EngineView O R D → Play O R → Told O R → Type 0
StandsEitherWay may_leave fixed engine p told = IsAt may_leave fixed engine p ⊎ IsAt may_leave fixed engine (record { moves = told.after.moves; sessions = p.sessions })

-- Why telling was broken off. Where the disk failed, nothing was added, the history is the old one, and the line or step makes a move; for want
-- of memory a first part of the text was added.
abbrev pub BreaksOff : {S O R Q A D : Type 0} → (D → Files → Type 0) → Meaning S O R Q A → (List ℕ → List ℕ) → Telling S O R Q A → EngineView O R D → EngineView O R D → List ℕ → List ℕ → TellRefused → Type 0
BreaksOff {S} {O} {R} may_leave meaning address told old new old_out new_out DiskFault =
    (new_out ≡ old_out)
    × (new.core ≡ record old.core { failed = true; disk = new.core.disk })
    × KeepsLooks old.sessions new.sessions
    × ((terms : Terms) (p : Play O R) → let fixed = fix meaning terms address in
    IsAt may_leave fixed old p → Moves p (told fixed p).after)
BreaksOff {S} {O} {R} may_leave meaning address told old new old_out new_out Memory =
    (new.core.failed ≡ false)
    × ((terms : Terms) (p : Play O R) → let fixed = fix meaning terms address in
    IsAt may_leave fixed old p → StandsEitherWay may_leave fixed new p (told fixed p) × AppendsPart old_out new_out (told fixed p).text)

-- At each moment of telling a line or a step, what a crash leaves reads as the history before or as the one after.
abbrev pub LeavesEither : {S O R Q A D : Type 0} → (D → Files → Type 0) → (D → ℕ) → (D → ℕ → Files → Type 0) → Meaning S O R Q A → (List ℕ → List ℕ) → Telling S O R Q A → EngineView O R D → EngineView O R D → Type 0
LeavesEither {S} {O} {R} may_leave moment left_since meaning address told old new =
    (terms : Terms) (p : Play O R) → let fixed = fix meaning terms address in
    IsAt may_leave fixed old p → LeavesOnly moment left_since old.core.disk new.core.disk (ReadAsEither fixed p.moves (told fixed p).after.moves)

-- what a call does that tells a line or a step: it does what was told and replies, or breaks off
pub record Does {S O R Q A D : Type 0} (may_leave : D → Files → Type 0) (moment : D → ℕ) (left_since : D → ℕ → Files → Type 0) (faults : D → ℕ)
    (meaning : Meaning S O R Q A) (address : List ℕ → List ℕ) (told : Telling S O R Q A) (old new : EngineView O R D) (old_out new_out : List ℕ) (result : Result (Unit {0}) TellRefused) : Type 0 where
  pub ok : OnOk result (Replies may_leave meaning address told old new old_out new_out)
  pub working : OnOk result (new.core.failed ≡ false)
  pub err : IfErr result (BreaksOff may_leave meaning address told old new old_out new_out)
  pub moments : LeavesEither may_leave moment left_since meaning address told old new
  pub cause : HasCauseOf DiskFault (faults old.core.disk) (faults new.core.disk) result

-- the text of what landed, by the plain form of a reply, and whether it takes an item out of a sequence
abbrev pub kind_text : {R : Type 0} → (R → PlainReply) → Bool → Kind R → List ℕ
kind_text plain takes (kind.Operation commit time reply) = landed_text commit time takes (plain reply)
kind_text plain takes (kind.Merged commit) = merged_text commit
kind_text plain takes (kind.Joined commit) = joined_text commit
kind_text plain takes (kind.Forward commit) = forward_text commit

-- what is told of a look that was not grouped with branches: the name that no branch has, and of want of memory nothing
abbrev pub ungrouped_text : PairRefused → List ℕ
ungrouped_text (pair_refusal.UnknownBranch name) = refusal_text [] (UnknownBranch name) ++ line_end
ungrouped_text pair_refusal.Memory = []

-- a call wrote these words or, for want of memory, a first part of them
abbrev pub Writes : List ℕ → List ℕ → List ℕ → Result (Unit {0}) TellRefused → Type 0
Writes words old_out new_out result =
    OnOk result (new_out ≡ old_out ++ words) × IfErr result (λ e. (e ≡ Memory) × AppendsPart old_out new_out words)

-- the reply to what was answered to a drop of the branch of this name; of a fault or want of memory nothing is told
abbrev pub RepliesAs : {O Q R A : Type 0} → PlainForms O Q R A → List ℕ → Answer A R → List ℕ → List ℕ → Result (Unit {0}) TellRefused → Type 0
RepliesAs forms branch (Made outcome moves) old_out new_out result = Writes (outcome_text forms false [] branch outcome ++ line_end) old_out new_out result
RepliesAs forms branch (Still outcome) old_out new_out result = Writes (outcome_text forms false [] branch outcome ++ line_end) old_out new_out result
RepliesAs forms branch (Refused refusal) old_out new_out result = Writes (refusal_text branch refusal ++ line_end) old_out new_out result
RepliesAs forms branch Fault old_out new_out result = (new_out ≡ old_out) × (result ≡ Err DiskFault)
RepliesAs forms branch (Failed moves) old_out new_out result = (new_out ≡ old_out) × (result ≡ Err DiskFault)
RepliesAs forms branch Short old_out new_out result = (new_out ≡ old_out) × (result ≡ Err Memory)
