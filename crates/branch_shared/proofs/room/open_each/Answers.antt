-- One job more is opened.
use Rattle.std.proofs.Common.{◌≡◌, List, [], ◌∷◌, ◌++◌, length, map, ap, sym, subst, ◌∙◌, arith}
use Rattle.std.proofs.lemmas.List.{map-append}
use Rattle.std.specs.List.{AllByRecursion}
use Rattle.branch_shared.specs.Batches.{JobView, TakenView, MayLand, pass_of}
use Rattle.branch_shared.proofs.room.open_each.Goals as goal

all-and : {X : Type 0} (P : X → Type 0) (xs : List X) (x : X) → AllByRecursion P xs → P x → AllByRecursion P (xs ++ x ∷ [])
all-and P [] x all is = (is, tt)
all-and P (y ∷ xs) x all is = (all.0, all-and P xs x all.1 is)

all-pushed : {X : Type 0} (P : X → Type 0) (xs new : List X) (x : X) → new ≡ xs ++ x ∷ [] → AllByRecursion P xs → P x → AllByRecursion P new
all-pushed P xs new x pushed all is = subst (AllByRecursion P) (sym pushed) (all-and P xs x all is)

map-pushed : {X Y : Type 0} (f : X → Y) (xs new : List X) (x : X) (ys : List Y) (y : Y) → new ≡ xs ++ x ∷ [] → ys ≡ map f xs → f x ≡ y → ys ++ y ∷ [] ≡ map f new
map-pushed {X} {Y} f xs new x ys y pushed mapped is =
    ap (λ (l : List Y). l ++ y ∷ []) mapped ∙ (ap (λ (z : Y). map f xs ++ z ∷ []) (sym is) ∙ (sym (map-append f xs (x ∷ [])) ∙ ap (λ (l : List X). map f l) (sym pushed)))

pub loop-waiting-preserved : goal.loop-waiting-preserved
loop-waiting-preserved g c =
    let begun = g.N.Named.begun in
    let inv = c.loop-waiting.invariant in
    let next = c.in-Some.ensures.steps.0 in
    let job = ap (λ w. w.job) c.open-job.ensures.stub in
    let inside = job ∙ sym (c.job.view_is ∙ c.open-job.ensures.job) in
    record {
      room_taken = omega (arith, c.push_reserved.ensures.len, ap length next, inv.room_taken);
      room_prepared = omega (arith, c.push_reserved-in-loop-waiting.ensures.len, ap length next, inv.room_prepared);
      capacity_taken = omega (arith, c.push_reserved.ensures.capacity, inv.capacity_taken);
      capacity_prepared = omega (arith, c.push_reserved-in-loop-waiting.ensures.capacity, inv.capacity_prepared);
      prepared = c.push_reserved-in-loop-waiting.ensures.items
          ∙ map-pushed (λ (t : TakenView _ _). t.job.prepared) _ _ _ _ _ c.push_reserved.ensures.items inv.prepared (ap (λ (j : JobView _ _). j.prepared) inside);
      passes = all-pushed (λ (t : TakenView _ _). t.given.pass ≡ pass_of begun t.job.pass) _ _ _ c.push_reserved.ensures.items inv.passes
          (c.pass_again.ensures ∙ ap (λ (j : JobView _ _). pass_of begun j.pass) (sym inside));
      may = all-pushed (λ (t : TakenView _ _). MayLand g.N.Named.table begun g.N.Named.terms g.N.Named.allows t.job) _ _ _ c.push_reserved.ensures.items inv.may
          (subst (MayLand g.N.Named.table begun g.N.Named.terms g.N.Named.allows) (sym job) c.open-job.ensures.takes);
    }
