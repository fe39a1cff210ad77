-- The step that receives what was made anew of the fields of a commit.
use Rattle.std.proofs.Common.{◌≡◌, ℕ, ◌+◌, ◌<◌, ◌≤◌, ◌^◌, List, [], ◌∷◌, length, map, get_or, refl, ap, sym, ◌∙◌, arith, subst, All, Option, Some, IfSome, Err, IsErrOf}
use Rattle.std.specs.List.{AllByRecursion}
use Rattle.std.specs.Prelude.{Result}
use Rattle.mrdt_model.specs.declared.errors.Unread.{Unread}
use Rattle.std.proofs.lemmas.List.{length-map}
use Rattle.mrdt_model.specs.Laws.{KeepsLaws}
use Rattle.branch_graph.proofs.Ranked.{All-from_AllByRecursion}
use Rattle.branch_wire.specs.Objects.{CommitFields, HasParents}
use Rattle.branch_wire.specs.declared.action.Action.{Action}
use Rattle.branch_wire.specs.declared.action.Action.TheVariants as wire
use Rattle.branch_objects_codec.specs.Grammar.{IsCommit}
use Rattle.branch_history.specs.declared.moves.Move.{Move}
use Rattle.branch_history.specs.Steps.{Step, ReceiveOperation, ReceiveMerge}
use Rattle.branch_history.specs.Validity.{IsStep}
use Rattle.branch_machine.specs.Fixed.{Fixed}
use Rattle.branch_machine.specs.Objects.{address_at, pairs_of, store_after}
use Rattle.branch_machine.specs.Laws.{HasSize}
use Rattle.branch_machine.specs.Validity.{IsFullyValid}
use Rattle.store_seen.specs.Arrivals.{receive_merge}
use Rattle.recorded_history.specs.Asks.{HaveAddresses, IsAsked}
use Rattle.recorded_history.proofs.Asked.{none-apart}

-- a list of one is its first
pub one-of : (ns : List ℕ) (d : ℕ) → length ns ≡ 1 → ns ≡ get_or ns 0 d ∷ []
one-of [] d is = absurd (omega (arith, is))
one-of (n ∷ []) d is = refl
one-of (n ∷ m ∷ ms) d is = absurd (omega (arith, is))

module _ {S O R Q A : Type 0} (fixed : Fixed S O R Q A) (history : List (Move O R)) where
  -- there are as many commits as addresses
  pub have-length : (addresses : List (List ℕ)) (ns : List ℕ) → HaveAddresses fixed history addresses ns → length ns ≡ length addresses
  have-length addresses ns have = sym (length-map ns (address_at fixed.address (pairs_of fixed (store_after fixed history).commits))) ∙ ap length have.addressed

  -- all of them are there
  pub have-there : (addresses : List (List ℕ)) (ns : List ℕ) → HaveAddresses fixed history addresses ns → All (λ n. n < length (store_after fixed history).commits) ns
  have-there addresses ns have = All-from_AllByRecursion (λ n. n < length (store_after fixed history).commits) ns have.there

  module _ (f : CommitFields) (known : IsCommit f) (ns : List ℕ) (have : HaveAddresses fixed history f.parents ns) where
    -- an operation has one parent
    pub operation-parent : (text reply : List ℕ) → f.action ≡ wire.Operation text reply → length ns ≡ 1
    operation-parent text reply is = have-length f.parents ns have ∙ subst (λ (a : Action). HasParents a (length f.parents)) is known.count

    pub first-there : (d : ℕ) → length ns ≡ 1 → get_or ns 0 d < length (store_after fixed history).commits
    first-there d one = (subst (λ (l : List ℕ). AllByRecursion (λ n. n < length (store_after fixed history).commits) l) (one-of ns d one) have.there).0

    -- a merge has two to nine
    pub merge-parents : f.action ≡ wire.Merge → (2 ≤ length ns) × (length ns ≤ 9)
    merge-parents is =
        let count = subst (λ (a : Action). HasParents a (length f.parents)) is known.count in
        let same = have-length f.parents ns have in
        let some = count.0 in
        let few = count.1 in
        (omega (arith, same, some), omega (arith, same, few))

    -- the operation is asked for
    pub operation-asked : (text reply : List ℕ) (op : O) (first : ℕ) → first ≡ get_or ns 0 first → f.action ≡ wire.Operation text reply → fixed.meaning.op_spelling op ≡ text → IsStep fixed.meaning (store_after fixed history) (let step : Step O Q = ReceiveOperation f.branch first op in step)
        → IsAsked fixed history f (ReceiveOperation f.branch first op)
    operation-asked text reply op first at is spelled may = record {
      asks = (
        subst (HaveAddresses fixed history f.parents) (one-of ns first (operation-parent text reply is) ∙ ap (λ (k : ℕ). k ∷ []) (sym at)) have,
        refl,
        reply,
        is ∙ ap (λ (t : List ℕ). wire.Operation t reply) (sym spelled),
      );
      may = may;
    }

  -- the merge is asked for
  pub merge-asked : (f : CommitFields) (ns : List ℕ) → HaveAddresses fixed history f.parents ns → f.action ≡ wire.Merge → 2 ≤ length ns → IsStep fixed.meaning (store_after fixed history) (let step : Step O Q = receive_merge f.branch ns in step) → IsAsked fixed history f (receive_merge f.branch ns)
  merge-asked f [] have is some may = absurd (omega (arith, some))
  merge-asked f (h ∷ ms) have is some may = record { asks = (have, refl, is); may = may }

  -- or nothing is, where the parents are not apart
  module _ (laws : KeepsLaws fixed.meaning) (size : HasSize fixed.address) (valid : IsFullyValid fixed history) where
    pub merge-none : (f : CommitFields) (ns : List ℕ) → HaveAddresses fixed history f.parents ns → f.action ≡ wire.Merge → 2 ≤ length ns → ¬ IsStep fixed.meaning (store_after fixed history) (let step : Step O Q = receive_merge f.branch ns in step) → (step : Step O Q) → IsAsked fixed history f step → ⊥
    merge-none f [] have is some none step asked = absurd (omega (arith, some))
    merge-none f (h ∷ ms) have is some none step asked = none-apart fixed laws size history valid f h ms have is none step asked

-- what was found
pub some-of : {X : Type 0} (P : X → Type 0) (o : Option X) (x : X) → o ≡ Some x → IfSome o P → P x
some-of {X} P o x is p = subst (λ (q : Option X). IfSome q P) is p

-- an error that is another
pub same-unread : {T : Type 0} (r : Result T Unread) (e k x : Unread) → r ≡ Err x → x ≡ e → IsErrOf r k → e ≡ k
same-unread {T} r e k x is same error =
    let both : ◌≡◌ {A = Result T Unread} (Err x) (Err k) = sym is ∙ error in
    let told : x ≡ k = cc both in
    sym same ∙ told
