-- A client's branch has a name.
use Rattle.std.proofs.Common.{◌≡◌, ℕ, ◌+◌, ◌<◌, ◌≤◌, ◌%◌, ◌^◌, Bool, true, false, ◌&&◌, List, [], ◌∷◌, ◌++◌, length, refl, arith, IsTrue}
use Rattle.std.specs.Fmt.{decimal}
use Rattle.std.specs.List.{list_all}
use Rattle.std.proofs.lemmas.Fmt.{decimal_by_steps, length-decimal-le}
use Rattle.std.proofs.lemmas.Bool.Decides.{nat_tests}
use Rattle.branch_names.specs.Names.{is_name, is_name_byte}
use Rattle.branch_gen.specs.Clients.{client_branch}

digit-is_name_byte : (d : ℕ) → d < 10 → is_name_byte (48 + d) ≡ true
digit-is_name_byte d lt = grind (arith, nat_tests)

names_more : (xs ys : List ℕ) → list_all is_name_byte xs ≡ true → list_all is_name_byte ys ≡ true → list_all is_name_byte (xs ++ ys) ≡ true
names_more [] ys p q = q
names_more (x ∷ xs) ys p q = names_more-step (is_name_byte x) (list_all is_name_byte xs) (list_all is_name_byte (xs ++ ys)) p (λ rest. names_more xs ys rest q)
  where
    names_more-step : (a b c : Bool) → a && b ≡ true → (b ≡ true → c ≡ true) → a && c ≡ true
    names_more-step true b c h more = more h
    names_more-step false b c h more = h

decimal-is_name : (n : ℕ) → n < 2 ^ 64 → list_all is_name_byte (decimal n) ≡ true
decimal-is_name n lt =
    decimal_by_steps (λ m ds. list_all is_name_byte ds ≡ true)
    (λ m few. one (is_name_byte (48 + m)) (digit-is_name_byte m few))
    (λ m ds many rest. names_more ds ((48 + m % 10) ∷ []) rest (one (is_name_byte (48 + m % 10)) (digit-is_name_byte (m % 10) (omega arith))))
    n lt
  where
    one : (t : Bool) → t ≡ true → t && true ≡ true
    one true h = refl
    one false h = h

pub client_is_name : (client : ℕ) → client < 2 ^ 32 → IsTrue (is_name (client_branch client))
client_is_name client lt =
    let short : length (decimal client) ≤ 10 = length-decimal-le 10 client (omega arith) (omega arith) (omega arith) in
    let all : list_all is_name_byte (decimal client) ≡ true = decimal-is_name client (omega arith) in
    grind (arith, nat_tests, short, all)
