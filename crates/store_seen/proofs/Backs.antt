-- A core goes back by its last move to what it was.
use Rattle.std.proofs.Common.{◌≡◌, ℕ, List, [], ◌∷◌, ◌++◌, length, take, ap, sym, ◌∙◌, subst}
use Rattle.std.proofs.Math.Seq.{take-append_seam}
use Rattle.branch_names.specs.declared.terms.Terms.{Terms}
use Rattle.branch_history.specs.declared.moves.Move.{Move}
use Rattle.branch_history.specs.History.{store_of}
use Rattle.store_seen.specs.Turns.{StoodAt, StoodBefore, GoesBack}
use Rattle.store_seen.specs.Views.{CoreView, VersionsView}
use Rattle.store_seen.proofs.Firsts.{same_without_last, same_last}

module _ {O R : Type 0} where
  -- where the branch stood before the last move
  pub stood-before : (old new : CoreView (Move O R)) (made : Move O R) (head : ℕ) → new ≡ record old { history = old.history ++ made ∷ [] } → StoodAt old.terms old.history made head → StoodBefore new.terms new.history head
  stood-before old new made head grown stood moves m e =
      let both = sym (ap (λ (c : CoreView (Move O R)). c.history) grown) ∙ e in
      subst (λ (t : Terms). StoodAt t moves m head) (sym (ap (λ (c : CoreView (Move O R)). c.terms) grown))
      (subst (λ (l : List (Move O R)). StoodAt old.terms l m head) (same_without_last old.history moves made m both)
      (subst (λ (n : Move O R). StoodAt old.terms old.history n head) (same_last old.history moves made m both) stood))

  pub goes-back : (old new : VersionsView (Move O R)) (made : Move O R) (more : List (List ℕ)) → new.core ≡ record old.core { history = old.core.history ++ made ∷ [] } → new.addresses ≡ old.addresses ++ more
      → length old.addresses ≡ length (store_of old.core.terms.origin old.core.history).commits → GoesBack new old
  goes-back old new made more grown added addressed back undone =
      undone old.core.history made (ap (λ (c : CoreView (Move O R)). c.history) grown)
      ∙ ap (λ (c : CoreView (Move O R)). let v : VersionsView (Move O R) = record { core = record c { history = old.core.history }; addresses = take (length (store_of c.terms.origin old.core.history).commits) new.addresses } in v) grown
      ∙ ap (λ a. let v : VersionsView (Move O R) = record { core = old.core; addresses = take (length (store_of old.core.terms.origin old.core.history).commits) a } in v) added
      ∙ ap (λ n. let v : VersionsView (Move O R) = record { core = old.core; addresses = take n (old.addresses ++ more) } in v) (sym addressed)
      ∙ ap (λ a. let v : VersionsView (Move O R) = record { core = old.core; addresses = a } in v) (take-append_seam old.addresses more)
