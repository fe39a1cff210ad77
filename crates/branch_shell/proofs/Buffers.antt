-- The buffer: bytes that wait at its front, and those that are taken behind them.
use Rattle.std.proofs.Common.{◌≡◌, ℕ, ◌+◌, ◌-◌, ◌<◌, ◌≤◌, List, ◌++◌, length, take, drop, ap, sym, ◌∙◌, take_all, take-take, length-append, length-take-le, arith}
use Rattle.std.specs.Prelude.{Option, Result, Ok, Err, IfOk}
use Rattle.std.specs.Io.{ReadsAtMost}
use Rattle.std.specs.Io.KnownBytes.{ReadConsumes}
use borrow.Rule.Slice.PartMut.{put_mid, post_of}
use Rattle.std.proofs.Math.Seq.{take-append-add, drop-append-add}
use Rattle.std.proofs.lemmas.List.{take-append-le}
use Rattle.branch_shell.specs.Telling.{Takes}

-- the bytes behind a front
behind_front : (front rest : List ℕ) → drop (length front) (front ++ rest) ≡ rest
behind_front front rest = let n : length front + 0 ≡ length front = omega arith in ap (λ k. drop k (front ++ rest)) (sym n) ∙ drop-append-add front rest 0

-- what is left behind the whole lines stands at the front, once it was moved there
pub moved_rest : (bytes whole rest new : List ℕ) (end waiting : ℕ) → bytes ≡ whole ++ rest → length bytes ≡ end → waiting ≡ length rest
    → take (end - (end - waiting)) new ≡ drop (end - waiting) bytes → rest ≡ take waiting new
moved_rest bytes whole rest new end waiting parts size same moved =
    let long : length bytes ≡ length whole + length rest = ap length parts ∙ length-append whole rest in
    let front : end - waiting ≡ length whole = omega (arith, long, size, same) in
    let back : end - (end - waiting) ≡ waiting = omega (arith, long, size, same) in
    sym (behind_front whole rest) ∙ ap (λ k. drop k (whole ++ rest)) (sym front) ∙ ap (drop (end - waiting)) (sym parts) ∙ sym moved ∙ ap (λ k. take k new) back

module _ (old new : List ℕ) (left_old left_new : Option (List ℕ)) (waiting count : ℕ) (within : waiting ≤ length old) (t : Takes (take waiting old) (take (waiting + count) new) left_old left_new count) where
  -- the bytes that wait stay where they are
  still_waiting : take waiting (take (waiting + count) new) ≡ take waiting old
  still_waiting =
      let size : length (take waiting old) ≡ waiting = length-take-le waiting old within in
      ap (take waiting) t.added ∙ take-append-le waiting (take waiting old) t.piece (omega (arith, size)) ∙ take_all waiting (take waiting old) (omega (arith, size))

  pub front_waiting : take waiting new ≡ take waiting old
  front_waiting = sym (take-take waiting (waiting + count) new (omega arith)) ∙ still_waiting

-- what a source put behind the bytes that wait
pub takes_behind : {E : Type 0} (result : Result ℕ E) (waiting room size : ℕ) (old part : List ℕ) (left_old left_new : Option (List ℕ)) → waiting ≤ length old → length part ≡ room → 0 < room
    → ReadsAtMost result part → ReadConsumes left_old left_new result part
    → IfOk result (λ count. (count ≤ room) × Takes (take waiting old) (take (waiting + count) (put_mid waiting size old part)) left_old left_new count)
takes_behind (Ok count) waiting room size old part left_old left_new within long some bound bytes =
    let front : length (take waiting old) ≡ waiting = length-take-le waiting old within in
    let behind : List ℕ = post_of waiting size old in
    let most : count ≤ length part = bound.0 in (
      omega (arith, most, long),
      record {
        piece = take count part;
        added =
            ap (λ n. take (n + count) (take waiting old ++ (part ++ behind))) (sym front) ∙ take-append-add (take waiting old) (part ++ behind) count
            ∙ ap (λ t. take waiting old ++ t) (take-append-le count part behind most);
        counted = sym bound.1;
        took = bytes.0;
        last = λ none. bytes.1 none (omega (arith, long, some));
      },
    )
takes_behind (Err e) waiting room size old part left_old left_new within long some bound bytes = tt
