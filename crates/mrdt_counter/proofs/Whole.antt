-- Bytes that are one field, or a field and more.
use Rattle.std.proofs.Common.{◌≡◌, ℕ, List, [], ◌∷◌, ◌++◌, length, refl, ap, arith, length-append}

-- nothing stands behind the field
pub whole-length : (field rest bytes : List ℕ) (n : ℕ) → length field ≡ n → bytes ≡ field ++ rest → rest ≡ [] → length bytes ≡ n
whole-length field rest bytes n long is none = omega (arith, long, ap length is, length-append field rest, ap length none)

-- something stands behind it
pub more-length : (field rest bytes : List ℕ) (n : ℕ) → length field ≡ n → bytes ≡ field ++ rest → (rest ≡ [] → ⊥) → length bytes ≡ n → ⊥
more-length field [] bytes n long is some size = some refl
more-length field (b ∷ rest) bytes n long is some size = omega (arith, long, ap length is, length-append field (b ∷ rest), size)
