-- Commits that two valid histories share have the same in both.
use Rattle.std.proofs.Common.{ℕ, ◌<◌, Bool, List, length, ap, sym, arith, IsTrue}
use Rattle.std.specs.List.{AllByRecursion}
use Rattle.mrdt_model.specs.Laws.{Meaning, KeepsLaws}
use Rattle.branch_graph.specs.Graph.{parents_of}
use Rattle.branch_history.specs.declared.moves.Move.{Move}
use Rattle.branch_names.specs.declared.terms.Terms.{Terms}
use Rattle.branch_history.specs.Commits.{Commit, graph_of}
use Rattle.branch_history.specs.Steps.{Step}
use Rattle.branch_machine.specs.Fixed.{Fixed, fix}
use Rattle.branch_machine.specs.Objects.{Pair, pairs_of, store_after}
use Rattle.branch_machine.specs.Laws.{HasSize}
use Rattle.branch_machine.specs.Validity.{IsFullyValid, IsItem}
use Rattle.branch_machine.proofs.Pairs.{length-pairs_of}
use Rattle.branch_bundle_laws.specs.Bundles.{item_at}
use Rattle.branch_bundle_laws.specs.Shared.{AreShared, IsMatched}
use Rattle.branch_bundle_laws.proofs.Alike.{IsAlike, parents-to, origin-to, clock-to, same-event, hold-same, reach-same}
use Rattle.branch_bundle_laws.proofs.Item.{item-of}

module _ {S O R Q A : Type 0} (meaning : Meaning S O R Q A) (laws : KeepsLaws meaning) (address : List ℕ → List ℕ) (size : HasSize address) (terms others : Terms) (moves more : List (Move O R)) (valid : IsFullyValid (fix meaning terms address) moves) (also : IsFullyValid (fix meaning others address) more) where
  abbrev one : Fixed S O R Q A
  one = fix meaning terms address

  abbrev other : Fixed S O R Q A
  other = fix meaning others address

  abbrev cs : List (Commit O R)
  cs = (store_after one moves).commits

  abbrev ds : List (Commit O R)
  ds = (store_after other more).commits

  module _ (shared : ℕ → Bool) (to : ℕ → ℕ) (are : AreShared one moves other more shared to) where
    abbrev D : ℕ → Type 0
    D n = IsTrue (shared n)

    alike : (n : ℕ) → D n → (to n < length ds) × IsAlike (pairs_of one cs) (pairs_of other ds) n (to n)
    alike n d = (
      are.also n d,
      record {
        there = let lt = are.also n d in omega (arith, length-pairs_of other ds);
        value = sym (ap (λ (p : Pair). p.value) (are.objects n d));
        text = sym (ap (λ (p : Pair). p.commit) (are.objects n d));
      },
    )

    pub matched : (n : ℕ) → D n → IsMatched cs ds shared to n
    matched n d = record {
      parents = parents-to meaning laws address size terms others moves more valid also D to are.there are.down alike n d;
      origin = sym (origin-to meaning laws address size terms others moves more valid also D to are.there are.down alike n d);
      clock = sym (clock-to meaning laws address size terms others moves more valid also D to are.there are.down alike n d);
      event = same-event meaning laws address size terms others moves more valid also D to are.there are.down alike n d;
      sees = hold-same meaning laws address size terms others moves more valid also D to are.there are.down alike n d;
      reach = λ m e. reach-same meaning laws address size terms others moves more valid also D to are.there are.down alike n m d e;
    }

    pub received : (n : ℕ) → 0 < n → n < length cs → AllByRecursion D (parents_of (graph_of cs) n) → (step : Step O Q) × IsItem other more step (item_at (pairs_of one cs) n)
    received n positive lt all = item-of meaning laws address size terms others moves more valid also D to are.there are.down alike n lt positive all
