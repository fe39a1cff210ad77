-- Worked rows of the machine over documents: what steps answer, one after another. The addresses are sums of bytes.
use Rattle.std.specs.Prelude.{◌≡◌, ℕ, List, [], ◌∷◌, ◌++◌, codes, pos, sum}
use Rattle.mrdt_counter.specs.declared.counter.CounterQuery.TheVariants.{Value}
use Rattle.mrdt_map.specs.declared.map.MapQuery.TheVariants.{AtKey}
use Rattle.mrdt_map.specs.declared.map.MapAnswer.TheVariants.{OnValue}
use Rattle.mrdt_both.specs.declared.both.Side.TheVariants.{First}
use Rattle.branch_doc.specs.Document.{DocState, document}
use Rattle.branch_doc.specs.Forms.{DocOp, DocReply, DocQuery, DocAnswer}
use Rattle.branch_names.specs.Ranges.{AreInRange, AreOrigins}
use Rattle.branch_wire.specs.Fields.{short_number}
use Rattle.branch_history.specs.declared.moves.Move.{Move}
use Rattle.branch_history.specs.Steps.{Step, Look, Fork, Land, Merge, ReceiveOperation, ReceiveMerge, Place, Drop, Ask, UnknownBranch, NameTaken, Dropped, KeepsMain, Stale, OwnOrigin, TimeClash, Outcome, Sees, Forked, Landed, Merged, Joined, Forwarded, Same, New, Here, DroppedAt, Answered, Refused}
use Rattle.branch_machine.specs.Fixed.{Fixed, fix}
use Rattle.branch_machine.specs.Machine.{full_turn}
use Rattle.branch_rows.specs.Bytes.{zeros}
use Rattle.branch_rows.specs.Rows.{from, thousands, adds}

abbrev pub sum_address : List ℕ → List ℕ
sum_address bytes = zeros 28 ++ short_number (sum bytes)

-- a store of documents with limits of a thousand each, from this first origin on
abbrev pub store_from : (origin : ℕ) → AreInRange 1000 1000 1000 1000 1000 → AreOrigins origin 1000 → Fixed DocState DocOp DocReply DocQuery DocAnswer
store_from origin in_range origins = fix document (from origin (thousands in_range) origins) sum_address

-- what steps answer, one after another
abbrev pub answers_from : Fixed DocState DocOp DocReply DocQuery DocAnswer → List (Move DocOp DocReply) → List (Step DocOp DocQuery) → List (Outcome DocAnswer DocReply)
answers_from fixed moves [] = []
answers_from fixed moves (step ∷ steps) = let t = full_turn fixed moves step in t.outcome ∷ answers_from fixed (moves ++ t.made) steps

-- so many are added to a counter
abbrev pub add : List ℕ → ℕ → DocOp
add key n = First (adds key n)

-- a counter is asked for, and is this
abbrev pub value : List ℕ → DocQuery
value key = First (AtKey key Value)

abbrev pub is_value : ℕ → Outcome DocAnswer DocReply
is_value n = Answered (First (OnValue (pos n)))

-- a commit of an operation of this time
abbrev pub landed : ℕ → ℕ → ℕ → Outcome DocAnswer DocReply
landed n clock origin = Landed n (record { clock = clock; origin = origin }) (First tt)

-- Three branches are joined into `main` at once, and again, which brings nothing. Where one of two that are joined lies
-- below the other, a branch goes forward to this.
abbrev pub JoinsBranches : Type 0
JoinsBranches =
    (in_range : AreInRange 1000 1000 1000 1000 1000) (origins : AreOrigins 0 1000)
    → answers_from (store_from 0 in_range origins) []
    (Fork (codes "p") (codes "main") ∷ Fork (codes "q") (codes "main") ∷ Fork (codes "r") (codes "main")
    ∷ Land 1 0 (add (codes "c") 1) ∷ Land 2 0 (add (codes "c") 10) ∷ Land 3 0 (add (codes "c") 100)
    ∷ Merge 0 0 (1 ∷ 2 ∷ 3 ∷ []) ∷ Ask 4 (value (codes "c")) ∷ Merge 0 4 (1 ∷ 2 ∷ []) ∷ Land 0 4 (add (codes "c") 1000)
    ∷ Merge 1 1 (5 ∷ 2 ∷ []) ∷ Merge 0 5 (1 ∷ []) ∷ [])
    ≡ Forked 1 0 ∷ Forked 2 0 ∷ Forked 3 0 ∷ landed 1 1 1 ∷ landed 2 1 2 ∷ landed 3 1 3
    ∷ Joined 4 ∷ is_value 111 ∷ Same ∷ landed 5 2 0 ∷ Forwarded 5 ∷ Same ∷ []

-- A store whose first origin is 100 receives an operation of the origin 0, and gives it a branch; it is here when it comes
-- again, and another branch is placed there. Merged, both count. Another operation of the same time clashes, and one of
-- an origin of its own is refused.
abbrev pub ReceivesOperations : Type 0
ReceivesOperations =
    (in_range : AreInRange 1000 1000 1000 1000 1000) (origins : AreOrigins 100 1000)
    → answers_from (store_from 100 in_range origins) []
    (Land 0 0 (add (codes "hits") 7) ∷ ReceiveOperation 0 0 (add (codes "hits") 5) ∷ Place (codes "other") 2
    ∷ ReceiveOperation 0 0 (add (codes "hits") 5) ∷ Place (codes "other") 2 ∷ Place (codes "again") 2 ∷ Look (codes "other")
    ∷ Merge 0 1 (2 ∷ []) ∷ Ask 3 (value (codes "hits")) ∷ ReceiveOperation 0 0 (add (codes "hits") 9)
    ∷ ReceiveOperation 101 0 (add (codes "hits") 9) ∷ ReceiveMerge 5 1 (2 ∷ []) ∷ Ask 4 (value (codes "hits")) ∷ [])
    ≡ landed 1 1 100 ∷ New 2 ∷ Forked 1 2 ∷ Here 2 ∷ Refused (NameTaken 1) ∷ Forked 2 2 ∷ Sees 1 2
    ∷ Merged 3 ∷ is_value 12 ∷ Refused (TimeClash 2) ∷ Refused OwnOrigin ∷ New 4 ∷ is_value 12 ∷ []

-- A store whose first origin is 0 takes nothing of the origin 0.
abbrev pub RefusesOwnOrigins : Type 0
RefusesOwnOrigins =
    (in_range : AreInRange 1000 1000 1000 1000 1000) (origins : AreOrigins 0 1000)
    → answers_from (store_from 0 in_range origins) [] (Land 0 0 (add (codes "hits") 5) ∷ ReceiveOperation 0 0 (add (codes "hits") 9) ∷ [])
    ≡ landed 1 1 0 ∷ Refused OwnOrigin ∷ []

-- A branch that was dropped does not move and is not found; `main` is kept. Its name is free, and its number is not.
abbrev pub DropsBranches : Type 0
DropsBranches =
    (in_range : AreInRange 1000 1000 1000 1000 1000) (origins : AreOrigins 0 1000)
    → answers_from (store_from 0 in_range origins) []
    (Fork (codes "q") (codes "main") ∷ Land 1 0 (add (codes "c") 1) ∷ Land 0 0 (add (codes "c") 20) ∷ Drop 1 0 ∷ Drop 1 1
    ∷ Land 1 1 (add (codes "c") 1) ∷ Drop 1 1 ∷ Drop 0 2 ∷ Look (codes "q") ∷ Fork (codes "q") (codes "main") ∷ [])
    ≡ Forked 1 0 ∷ landed 1 1 1 ∷ landed 2 1 0 ∷ Refused (Stale 1) ∷ DroppedAt 1 1
    ∷ Refused (Dropped 1) ∷ Refused (Dropped 1) ∷ Refused KeepsMain ∷ Refused (UnknownBranch (codes "q")) ∷ Forked 2 2 ∷ []
