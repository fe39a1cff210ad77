-- The next commit is copied where it is marked.
use Rattle.std.proofs.Common.{◌≡◌, ◌<◌, ◌∙◌, ℕ, List, [], ◌++◌, true, length, take, ap, sym, arith, append-nil}
use Rattle.branch_history.specs.declared.moves.Move.{Move}
use Rattle.std.proofs.lemmas.List.{take_all}
use Rattle.branch_history.specs.History.{store_of}
use Rattle.branch_machine.specs.Fixed.{fix}
use Rattle.branch_machine.specs.Objects.{Pair, pairs_of}
use Rattle.branch_machine.proofs.Pairs.{length-pairs_of}
use Rattle.branch_wire.specs.StoredObjects.{file_of}
use Rattle.branch_compact.specs.Compact.{at_places}
use Rattle.branch_compact.specs.Marks.{is_marked}
use Rattle.store_compact.specs.Copied.{objects_in, placed_of, values_in}
use Rattle.store_compact.proofs.Copies.{known-next, whole-next, placed-next, next-gone}
use Rattle.store_compact.proofs.Told.{fresh-kept}
use Rattle.store_compact.proofs.copying.copy_marked.Goals.{then-marks-number+in_ok-copy_commit, else-marks-number}
use Rattle.store_compact.proofs.copying.copy_marked.Goals as goal

-- the commits are those of the written moves
settled-count : {O R : Type 0} (origin : ℕ) (written pending : List (Move O R)) → pending ≡ [] → length (store_of origin (written ++ pending)).commits ≡ length (store_of origin written).commits
settled-count {O} {R} origin written pending none = ap (λ (ms : List (Move O R)). length (store_of origin ms).commits) (ap (λ (p : List (Move O R)). written ++ p) none ∙ append-nil written)

pub loop-number-preserved : goal.loop-number-preserved
loop-number-preserved g c =
    let r = c.args.recorded.now in
    let fixed = fix g.T.Mrdt.meaning r.terms g.A.Address.address in
    let commits = (store_of r.terms.origin r.written).commits in
    let pairs = pairs_of fixed commits in
    let keep = is_marked c.args.marks.now in
    let k = c.loop-number.number in
    let was = c.loop-number.invariant in
    let settled = settled-count r.terms.origin r.written r.pending c.requires.settled in
    let there : k < length commits = omega (arith, c.loop-number-test.true, c.commits-number-end.ensures, settled) in
    let lt : k < length pairs = omega (arith, there, length-pairs_of fixed commits) in
    let address = g.A.Address.address in
    let laws = (g.met.T.Mrdt g.world.𝓛 g.world.𝓜 g.world.𝓡 ((λ s x. x), (λ x. x), (λ x. x), λ x. x)).laws in
    let adds = fresh-kept fixed laws g.met.A.Address.size r.written c.requires.valid keep k there in
    elim c.if-marks-number.branch [
      | then-marks-number+in_ok-copy_commit w ↦
          let marked : keep k ≡ true = w.if-marks-number.true in
          let copied = w.in_ok-copy_commit.ensures in
          record {
            within = omega (arith, there);
            known = ap (λ s. s.keys) w.known-is ∙ known-next keep pairs k lt marked address c.loop-number.known.keys was.known w.copy_commit.new.known.keys copied.known;
            whole = ap (λ s. s.text.items) w.copies-is
                ∙ whole-next keep pairs k lt marked address c.loop-number.known.keys was.known adds c.loop-number.copies.text.items w.copy_commit.new.copies.text.items was.whole copied.copied;
            placed = ap (λ s. s.placed.items) w.copies-is
                ∙ placed-next keep pairs k lt marked address c.loop-number.known.keys was.known adds c.loop-number.copies.text.items w.copy_commit.new.copies.text.items was.whole copied.copied
                c.loop-number.copies.placed.items w.copy_commit.new.copies.placed.items was.placed copied.placed;
          }
      | else-marks-number w ↦
          let gone = next-gone keep pairs k lt w.if-marks-number.false in
          record {
            within = omega (arith, there);
            known = ap (λ s. s.keys) w.known-is ∙ was.known ∙ ap (values_in address) (sym gone);
            whole = ap (λ s. s.text.items) w.copies-is ∙ was.whole ∙ ap (λ (ps : List Pair). file_of (objects_in ps)) (sym gone);
            placed = ap (λ s. s.placed.items) w.copies-is ∙ was.placed ∙ ap (placed_of address) (sym gone);
          }
    ]

pub returns-clause-text : goal.returns-clause-text
returns-clause-text g c =
    let r = c.args.recorded.now in
    let fixed = fix g.T.Mrdt.meaning r.terms g.A.Address.address in
    let commits = (store_of r.terms.origin r.written).commits in
    let pairs = pairs_of fixed commits in
    let keep = is_marked c.args.marks.now in
    let all : take c.loop-number.number pairs ≡ pairs = take_all c.loop-number.number pairs (omega (arith, c.loop-number-test.false, c.commits-number-end.ensures, settled-count r.terms.origin r.written r.pending c.requires.settled, length-pairs_of fixed commits)) in
    c.loop-number.invariant.whole ∙ ap (λ (l : List Pair). file_of (objects_in (at_places keep 0 l))) all

pub returns-clause-placed : goal.returns-clause-placed
returns-clause-placed g c =
    let r = c.args.recorded.now in
    let fixed = fix g.T.Mrdt.meaning r.terms g.A.Address.address in
    let commits = (store_of r.terms.origin r.written).commits in
    let pairs = pairs_of fixed commits in
    let keep = is_marked c.args.marks.now in
    let all : take c.loop-number.number pairs ≡ pairs = take_all c.loop-number.number pairs (omega (arith, c.loop-number-test.false, c.commits-number-end.ensures, settled-count r.terms.origin r.written r.pending c.requires.settled, length-pairs_of fixed commits)) in
    c.loop-number.invariant.placed ∙ ap (λ (l : List Pair). placed_of g.A.Address.address (at_places keep 0 l)) all
