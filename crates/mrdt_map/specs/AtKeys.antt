-- The laws of merges and copies at one key.
use Rattle.std.proofs.Common.{◌≡◌, Bool, true, false, cond, ◌||◌, Option, None, Some, List, [], ◌∷◌, refl, ◌∙◌, ap, sym, subst}
use Rattle.mrdt_model.specs.declared.time.Time.{Time}
use Rattle.mrdt_model.specs.Times.{either}
use Rattle.mrdt_model.specs.Laws.{Meaning, Merges, StandsAsWell}
use Rattle.mrdt_model.specs.Executions.{Event, restrict}
use Rattle.mrdt_model.proofs.Executions.{restrict-lawful}
use Rattle.mrdt_map.specs.Keyed.{StandsAt, MergesAt, CopiesAt}

module _ {O R : Type 0} where
  step_left : (p q : Bool) (e : Event O R) (l r u : List (Event O R)) → cond q (e ∷ r) r ≡ [] → (r ≡ [] → u ≡ l) → cond (p || q) (e ∷ u) u ≡ cond p (e ∷ l) l
  step_left true true e l r u h ih = cc
  step_left true false e l r u h ih = ap (λ y. e ∷ y) (ih h)
  step_left false true e l r u h ih = cc
  step_left false false e l r u h ih = ih h

  -- where one side is empty, the union is the other side
  pub union-left : (a b : Time → Bool) (y : List (Event O R)) → restrict b y ≡ [] → restrict (either a b) y ≡ restrict a y
  union-left a b [] h = refl
  union-left a b (e ∷ y) h = step_left (a e.time) (b e.time) e (restrict a y) (restrict b y) (restrict (either a b) y) h (union-left a b y)

  step_right : (p q : Bool) (e : Event O R) (l r u : List (Event O R)) → cond p (e ∷ l) l ≡ [] → (l ≡ [] → u ≡ r) → cond (p || q) (e ∷ u) u ≡ cond q (e ∷ r) r
  step_right true true e l r u h ih = cc
  step_right true false e l r u h ih = cc
  step_right false true e l r u h ih = ap (λ y. e ∷ y) (ih h)
  step_right false false e l r u h ih = ih h

  pub union-right : (a b : Time → Bool) (y : List (Event O R)) → restrict a y ≡ [] → restrict (either a b) y ≡ restrict b y
  union-right a b [] h = refl
  union-right a b (e ∷ y) h = step_right (a e.time) (b e.time) e (restrict a y) (restrict b y) (restrict (either a b) y) h (union-right a b y)

  step_empty : (p q : Bool) (e : Event O R) (l u : List (Event O R)) → cond (p || q) (e ∷ u) u ≡ [] → (u ≡ [] → l ≡ []) → cond p (e ∷ l) l ≡ []
  step_empty true q e l u h ih = cc
  step_empty false true e l u h ih = cc
  step_empty false false e l u h ih = ih h

  -- where the union is empty, so is each side
  pub union-empty : (a b : Time → Bool) (y : List (Event O R)) → restrict (either a b) y ≡ [] → restrict a y ≡ []
  union-empty a b [] h = refl
  union-empty a b (e ∷ y) h = step_empty (a e.time) (b e.time) e (restrict a y) (restrict (either a b) y) h (union-empty a b y)

module _ {V O R Q A : Type 0} (t : Meaning V O R Q A) where
  -- only the left side has a value
  pub merges-left : (base : Option V) (l m : V) → StandsAsWell t l m → MergesAt t base (Some l) None (Some m)
  merges-left base l m copy y a b lawful in_a in_b is_base left right =
      let union = union-left a b y right in
      (λ none. left.0 (sym union ∙ none), subst (t.stands m) (sym union) (copy (restrict a y) (restrict-lawful t.is_op t.is_reply t.reply_of a y in_a lawful) left.1))

  -- neither the base nor the left side has one
  pub merges-right : (base : Option V) (r m : Option V) → CopiesAt t r m → MergesAt t base None r m
  merges-right base r m copy y a b lawful in_a in_b is_base left right =
      subst (StandsAt t.stands m) (sym (union-right a b y left)) (copy (restrict b y) (restrict-lawful t.is_op t.is_reply t.reply_of b y in_b lawful) right)

  pub merges-both : (o l r m : V) → Merges t o l r m → MergesAt t (Some o) (Some l) (Some r) (Some m)
  merges-both o l r m merge y a b lawful in_a in_b is_base left right =
      (λ none. left.0 (union-empty a b y none), merge y a b lawful in_a in_b is_base.1 left.1 right.1)

  pub merges-new : (i l r m : V) → t.stands i [] → Merges t i l r m → MergesAt t None (Some l) (Some r) (Some m)
  merges-new i l r m initial merge y a b lawful in_a in_b is_base left right =
      (λ none. left.0 (union-empty a b y none), merge y a b lawful in_a in_b (subst (t.stands i) (sym is_base) initial) left.1 right.1)

  pub copies-some : (v w : V) → StandsAsWell t v w → CopiesAt t (Some v) (Some w)
  copies-some v w copy y lawful is = (is.0, copy y lawful is.1)

  pub copies-none : CopiesAt t None None
  copies-none y lawful is = is
