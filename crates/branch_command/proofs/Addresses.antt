-- The addresses that words say, one after the other.
use Rattle.std.proofs.Common.{◌≡◌, ◌++◌, ◌∙◌, ◌<◌, ◌+◌, suc, ℕ, arith, List, [], ◌∷◌, Option, Some, None, Bor, take, drop, drop-cons, get_or, length, refl, ap, ap₂, sym}
use Rattle.std.proofs.lemmas.List.{map-append, take-append-drop}
use Rattle.std.proofs.Math.Seq.{take-suc}
use Rattle.clap.specs.Walk.{Text, texts}
use Rattle.branch_command.specs.Bundles.{address_of, addresses_of, in_front}

-- an address behind others
abbrev behind : Option (List (List ℕ)) → Option (List ℕ) → Option (List (List ℕ))
behind (Some others) (Some address) = Some (others ++ address ∷ [])
behind _ _ = None

shift : (a : Option (List ℕ)) (others : Option (List (List ℕ))) (b : Option (List ℕ)) → in_front a (behind others b) ≡ behind (in_front a others) b
shift None None b = refl
shift None (Some others) b = refl
shift (Some a) None b = refl
shift (Some a) (Some others) None = refl
shift (Some a) (Some others) (Some b) = refl

alone : (o : Option (List ℕ)) → in_front o (Some []) ≡ behind (Some []) o
alone None = refl
alone (Some a) = refl

said_behind : (front : List Text) (word : Text) → addresses_of (front ++ word ∷ []) ≡ behind (addresses_of front) (address_of word)
said_behind [] word = alone (address_of word)
said_behind (w ∷ ws) word = ap (in_front (address_of w)) (said_behind ws word) ∙ shift (address_of w) (addresses_of ws) (address_of word)

nothing : (o : Option (List ℕ)) → in_front o None ≡ None
nothing None = refl
nothing (Some a) = refl

none_said : (front : List Text) (word : Text) (rest : List Text) → address_of word ≡ None → addresses_of (front ++ word ∷ rest) ≡ None
none_said [] word rest none = ap (λ (o : Option (List ℕ)). in_front o (addresses_of rest)) none
none_said (w ∷ ws) word rest none = ap (in_front (address_of w)) (none_said ws word rest none) ∙ nothing (address_of w)

-- the words before this one say these addresses, and so they do with this one
pub one_more : (words : List (Bor Text)) (i : ℕ) (d : Bor Text) (others : List (List ℕ)) (address : List ℕ) → i < length words
    → addresses_of (texts (take i words)) ≡ Some others → Some address ≡ address_of (get_or words i d).now → addresses_of (texts (take (i + 1) words)) ≡ Some (others ++ address ∷ [])
one_more words i d others address inside before said =
    let word = get_or words i d in
    let next : i + 1 ≡ suc i = omega arith in
    ap (λ (n : ℕ). addresses_of (texts (take n words))) next
    ∙ ap addresses_of (ap texts (take-suc words i d inside) ∙ map-append (λ (w : Bor Text). w.now) (take i words) (word ∷ [])) ∙ said_behind (texts (take i words)) word.now ∙ ap₂ behind before (sym said)

-- a word among others that says no address
pub one_says_none : (words : List (Bor Text)) (i : ℕ) (d : Bor Text) → i < length words → None ≡ address_of (get_or words i d).now → addresses_of (texts words) ≡ None
one_says_none words i d inside none =
    let word = get_or words i d in
    let whole : take i words ++ word ∷ drop (suc i) words ≡ words = ap (λ (ws : List (Bor Text)). take i words ++ ws) (sym (drop-cons words i d inside)) ∙ take-append-drop i words in
    ap addresses_of (ap texts (sym whole) ∙ map-append (λ (w : Bor Text). w.now) (take i words) (word ∷ drop (suc i) words)) ∙ none_said (texts (take i words)) word.now _ (sym none)
