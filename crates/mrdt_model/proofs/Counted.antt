-- Bytes counted one part after another, as 64 bits hold the count.
use Rattle.std.proofs.Common.{◌≡◌, ℕ, ◌+◌, ◌^◌, ◌<◌, List, [], ◌++◌, length, arith, length-append}
use Rattle.mrdt_model.specs.Spelled.{capped}

-- what was counted and the bytes that are ahead are as many as the whole
pub record IsCountedSoFar (count : ℕ) (ahead whole : List ℕ) : Type 0 where
  pub sum : capped (count + length ahead) ≡ capped (length whole)
  pub fits : count < 2 ^ 64

-- the bytes that stand in front are counted
pub counted-more : (count more new : ℕ) (here ahead whole : List ℕ) → IsCountedSoFar count (here ++ ahead) whole → more ≡ capped (length here) → new ≡ capped (count + more) → IsCountedSoFar new ahead whole
counted-more count more new here ahead whole so_far part is =
    let sum = so_far.sum in
    let both = length-append here ahead in
    record {
      sum = omega (arith, sum, both, part, is);
      fits = omega (arith, is);
    }

-- all is counted
pub counted-all : (count : ℕ) (whole : List ℕ) → IsCountedSoFar count [] whole → count ≡ capped (length whole)
counted-all count whole so_far =
    let sum = so_far.sum in
    let fits = so_far.fits in
    omega (arith, sum, fits)

-- what stands in front of all that is ahead was counted
pub counted-start : (count : ℕ) (front ahead : List ℕ) → length front ≡ count → count < 2 ^ 64 → IsCountedSoFar count ahead (front ++ ahead)
counted-start count front ahead size fits =
    let both = length-append front ahead in
    record {
      sum = omega (arith, both, size);
      fits = fits;
    }
