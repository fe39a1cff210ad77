-- A client's steps, one after another, and what it comes to.
use Rattle.std.proofs.Common.{zero, suc, ◌≡◌, ℕ, List, [], ◌∷◌, ◌++◌, length, take, refl, sym, subst, ◌∙◌, Some, arith}
use Rattle.std.specs.Prelude.{slice_get}
use Rattle.std.specs.List.{AllByRecursion}
use mathlib.Core.List.{IsPrefix}
use Rattle.branch_front.proofs.Prefixes.{prefix_self, prefix_trans}
use Rattle.branch_names.specs.declared.terms.Terms.{Terms}
use Rattle.branch_history.specs.declared.moves.Move.{Move}
use Rattle.branch_script.specs.declared.step.Step.{Step}
use Rattle.branch_shared.specs.Passes.{PassView}
use Rattle.parallel_clients.specs.declared.landing.Stop.{Stop}
use Rattle.parallel_clients.specs.declared.landing.Stop.TheVariants.{Refused, Unseen}
use Rattle.parallel_clients.specs.declared.outcome.ClientRefusal.TheVariants.{Memory}
use Rattle.parallel_clients.specs.declared.outcome.Outcome.TheVariants.{Done}
use Rattle.branch_doc.specs.Types.{PlainForms}
use Rattle.parallel_clients.specs.Played.{no_sights, PlayedTo}
use Rattle.parallel_clients.specs.Outcomes.{Setting, ArePast, IsOutcome}
use Rattle.parallel_clients.specs.Sessions.{Sessions, AreSessions, sights_of, stage_of, PlaysOn, Advances, Stops, stopped_at, IsPlaying}
use Rattle.parallel_clients.proofs.Went.{plays-none, plays-both, plays-played}

-- what holds of each item holds of one that is there
pub all-got : {X : Type 0} (P : X → Type 0) (xs : List X) (k : ℕ) (x : X) → AllByRecursion P xs → slice_get xs k ≡ Some x → P x
all-got P [] k x all is = absurd (let never : ⊥ = cc in never)
all-got P (y ∷ ys) zero x all is = let same : y ≡ x = cc in subst P same all.0
all-got P (y ∷ ys) (suc k) x all is = all-got P ys k x all.1 is

pub advances-both : {M : Type 0} (a b c : PassView M) (xs ys zs : List ℕ) → Advances a b xs ys → Advances b c ys zs → Advances a c xs zs
advances-both a b c xs ys zs p q = record {
  seen = prefix_trans a.moves b.moves c.moves p.seen q.seen;
  faults = let f = p.faults in let g = q.faults in omega arith;
  parts = q.parts ∙ p.parts;
  counted = let f = p.counted in let g = q.counted in omega arith;
  mine = λ noted. q.mine (p.mine noted);
  others = q.others ∙ p.others;
}

pub advances-none : {M : Type 0} (a : PassView M) (xs : List ℕ) → Advances a a xs xs
advances-none a xs = record { seen = prefix_self a.moves; faults = omega arith; parts = refl; counted = refl; mine = λ noted. noted; others = refl }

module _ {O R Q A : Type 0} (forms : PlainForms O Q R A) (terms : Terms) where
  -- before the first step
  pub playing-none : (pass : PassView (Move O R)) → IsPlaying forms terms [] pass pass [] []
  playing-none pass = record {
    plays = plays-none forms terms.origin (record { moves = pass.moves; sights = no_sights; places = [] });
    sessions_are = record { each = λ name s found. absurd (cc) };
    advances = advances-none pass [];
  }

  -- one step more
  pub playing-more : (done : List Step) (step : Step) (old mid new : PassView (Move O R)) (before after : Sessions (Move O R)) (places noted : List ℕ) → IsPlaying forms terms done old mid before places
      → PlaysOn forms terms.origin (step ∷ []) (stage_of mid before places) (stage_of new after noted) → AreSessions terms new.moves after → Advances mid new places noted → IsPlaying forms terms (done ++ step ∷ []) old new after noted
  playing-more done step old mid new before after places noted playing plays are advances = record {
    plays = plays-both forms terms.origin done (step ∷ []) (record { moves = old.moves; sights = no_sights; places = [] }) (stage_of mid before places) (stage_of new after noted) playing.plays plays;
    sessions_are = are;
    advances = advances-both old mid new [] places noted playing.advances advances;
  }

  module _ (done : List Step) (old new : PassView (Move O R)) (sessions : Sessions (Move O R)) (places : List ℕ) (playing : IsPlaying forms terms done old new sessions places) where
    -- what was played, at any longer history
    playing-played : (later : List (Move O R)) → IsPrefix new.moves later → PlayedTo forms terms.origin (length old.moves) done places later (sights_of sessions)
    playing-played later grows = plays-played forms terms.origin done (record { moves = old.moves; sights = no_sights; places = [] }) (stage_of new sessions places) later playing.plays refl refl grows

    playing-past : ArePast (length old.moves) places
    playing-past = subst (ArePast (length old.moves)) (sym playing.plays.added) playing.plays.past

-- what a client comes to
module _ {S O R Q A : Type 0} (on : Setting S O R Q A) (steps : List Step) (old mid : PassView (Move O R)) (sessions : Sessions (Move O R)) (places : List ℕ) where
  pub done-became : IsPlaying on.forms on.fixed.terms steps old mid sessions places → IsOutcome on old.moves mid.moves mid.faults steps (Done places)
  done-became playing = record {
    comes = (sights_of sessions, playing-played on.forms on.fixed.terms steps old mid sessions places playing mid.moves (prefix_self mid.moves));
    past = playing-past on.forms on.fixed.terms steps old mid sessions places playing;
  }

  module _ (number : ℕ) (step : Step) (is_step : slice_get steps number ≡ Some step) (playing : IsPlaying on.forms on.fixed.terms (take number steps) old mid sessions places) where
    played-at : (later : List (Move O R)) → IsPrefix mid.moves later → PlayedTo on.forms on.fixed.terms.origin (length old.moves) (take number steps) places later (sights_of sessions)
    played-at later grows = playing-played on.forms on.fixed.terms (take number steps) old mid sessions places playing later grows

    past-at : ArePast (length old.moves) places
    past-at = playing-past on.forms on.fixed.terms (take number steps) old mid sessions places playing

    pub stopped-became : (new : PassView (Move O R)) (noted : List ℕ) (stop : Stop) → Advances mid new places noted → Stops on (sights_of sessions) step mid new places noted stop
        → IsOutcome on old.moves new.moves new.faults steps (stopped_at number stop noted)
    stopped-became new noted (Refused refusal) advances stops =
        let same : noted ≡ places = stops.stayed.noted in
        record {
          comes = record {
            step = step;
            is_step = is_step;
            before = new.moves;
            begun = prefix_trans old.moves mid.moves new.moves playing.plays.grown advances.seen;
            begins = prefix_self new.moves;
            sights = sights_of sessions;
            played = subst (λ ps. PlayedTo on.forms on.fixed.terms.origin (length old.moves) (take number steps) ps new.moves (sights_of sessions)) (sym same) (played-at new.moves advances.seen);
            refused = stops.why;
          };
          past = subst (ArePast (length old.moves)) (sym same) past-at;
        }
    stopped-became new noted Unseen advances stops =
        let same : noted ≡ places = stops.stayed.noted in
        record {
          comes = record {
            step = step;
            is_step = is_step;
            sights = sights_of sessions;
            played = subst (λ ps. PlayedTo on.forms on.fixed.terms.origin (length old.moves) (take number steps) ps new.moves (sights_of sessions)) (sym same) (played-at new.moves advances.seen);
            unseen = stops.why;
          };
          past = subst (ArePast (length old.moves)) (sym same) past-at;
        }

    -- one that could not look again before this step
    pub blind-became : IsOutcome on old.moves mid.moves mid.faults steps (stopped_at number (Refused Memory) places)
    blind-became = stopped-became mid places (Refused Memory) (advances-none mid places) (record { why = tt; stayed = record { rest = refl; noted = refl } })
