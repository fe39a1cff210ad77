-- Both kinds of addresses have 32 bytes.
use Rattle.std.proofs.Common.{◌≡◌, ℕ, List, length, refl}
use Rattle.sha2.specs.Sha256.{sha256}
use Rattle.sha2.proofs.Facts256.{length-sha256}
use Rattle.branch_address.specs.Weak.{weak_address}

pub length-sha256_address : (bytes : List ℕ) → length (sha256 bytes) ≡ 32
length-sha256_address bytes = length-sha256 bytes

pub length-weak_address : (bytes : List ℕ) → length (weak_address bytes) ≡ 32
length-weak_address bytes = refl
