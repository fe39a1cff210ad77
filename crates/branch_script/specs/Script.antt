-- What a line of a script says.
use Rattle.std.specs.Prelude.{◌≡◌, ℕ, Bool, false, ◌&&◌, bytes_eq, nat_eq, nat_le, codes, Option, Some, None, option_and_then, Result, Ok, Err, List, [], ◌∷◌, length, if◌then◌else◌}
use Rattle.std.specs.List.{list_all}
use Rattle.std.specs.Option.{option_map}
use Rattle.branch_doc.specs.declared.plain.Kind.{Kind}
use Rattle.branch_doc.specs.declared.plain.PlainOp.{PlainOp}
use Rattle.branch_doc.specs.declared.plain.PlainQuery.{PlainQuery}
use Rattle.branch_doc.specs.declared.plain.PlainQuery.TheVariants.{Keys}
use Rattle.branch_names.specs.Names.{is_name}
use Rattle.branch_script.specs.declared.step.Step.{Step}
use Rattle.branch_script.specs.declared.step.Step.TheVariants.{Look, Fork, Merge, Join, Drop, Do, Ask}
use Rattle.branch_script.specs.declared.step.Line.{Line}
use Rattle.branch_script.specs.declared.step.Line.TheVariants as form
use Rattle.branch_script.specs.declared.step.LineRefused.{LineRefused}
use Rattle.branch_script.specs.declared.step.LineRefused.TheVariants.{Syntax, BadName, BadNumber, Memory}
use Rattle.branch_script.specs.Lines.{words_of, is_silent, is_plain}
use Rattle.branch_script.specs.Numbers.{place_of}
use Rattle.branch_script.specs.Tables.{behind, kind_named, operations_at_key, operations_with_word, operations_with_number, queries_at_key, queries_with_word}

-- whether a word of a line is this keyword
abbrev pub is : List ℕ → List ℕ → Bool
is keyword word = bytes_eq word keyword

-- what is made of what was found in a table; a line for which there is nothing fits no form
abbrev pub fits : {A B : Type 0} → Option A → (A → Result B LineRefused) → Result B LineRefused
fits None said = Err Syntax
fits (Some found) said = said found

-- this step or line, where the word is a name
abbrev pub named : {B : Type 0} → List ℕ → Result B LineRefused → Result B LineRefused
named word said = if is_name word then said else Err BadName

-- a session does an operation, where its number is one
abbrev pub do_step : List ℕ → Result PlainOp LineRefused → Result Step LineRefused
do_step session (Err refusal) = Err refusal
do_step session (Ok op) = Ok (Do session op)

-- `drop SESSION`
abbrev pub two_words : List ℕ → List ℕ → Result Step LineRefused
two_words verb session = if is (codes "drop") verb then named session (Ok (Drop session)) else Err Syntax

-- `look SESSION BRANCH`, `fork NEW BRANCH`, `merge SESSION BRANCH`
abbrev pub three_words : List ℕ → List ℕ → List ℕ → Result Step LineRefused
three_words verb a b =
    fits (behind verb ((codes "look", Look a b) ∷ (codes "fork", Fork a b) ∷ (codes "merge", Merge a b) ∷ []))
    (λ step. named a (named b (Ok step)))

-- `do SESSION KIND KEY OPERATION`
abbrev pub do_at_key : List ℕ → Kind → List ℕ → List ℕ → Result Step LineRefused
do_at_key session kind key operation =
    fits (behind operation (operations_at_key kind key)) (λ op. named session (Ok (Do session op)))

-- `do SESSION KIND KEY OPERATION WORD`
abbrev pub do_with_word : List ℕ → Kind → List ℕ → List ℕ → List ℕ → Result Step LineRefused
do_with_word session kind key operation word =
    fits (behind operation (operations_with_word kind key word)) (λ op. named session (do_step session op))

-- `do SESSION KIND KEY OPERATION INT WORD`
abbrev pub do_with_number : List ℕ → Kind → List ℕ → List ℕ → List ℕ → List ℕ → Result Step LineRefused
do_with_number session kind key operation number word =
    fits (behind operation (operations_with_number kind key number word)) (λ op. named session (do_step session op))

-- `do SESSION`, and an operation: `KIND KEY OPERATION`, `KIND KEY OPERATION WORD`, or `KIND KEY OPERATION INT WORD`
abbrev pub do_words : List ℕ → List (List ℕ) → Result Step LineRefused
do_words session (kind ∷ key ∷ operation ∷ []) = fits (kind_named kind) (λ kind. do_at_key session kind key operation)
do_words session (kind ∷ key ∷ operation ∷ word ∷ []) = fits (kind_named kind) (λ kind. do_with_word session kind key operation word)
do_words session (kind ∷ key ∷ operation ∷ number ∷ word ∷ []) = fits (kind_named kind) (λ kind. do_with_number session kind key operation number word)
do_words session words = Err Syntax

-- a verb with one name or two
abbrev pub named_words : List ℕ → List ℕ → List (List ℕ) → Result Step LineRefused
named_words verb name [] = two_words verb name
named_words verb name (other ∷ []) = three_words verb name other
named_words verb name words = Err Syntax

-- the query that words say: `KIND keys`, `KIND KEY QUERY`, or `KIND KEY QUERY WORD`
abbrev pub query_of : List (List ℕ) → Option PlainQuery
query_of (kind ∷ query ∷ []) = if is (codes "keys") query then option_map Keys (kind_named kind) else None
query_of (kind ∷ key ∷ query ∷ []) = option_and_then (λ kind. behind query (queries_at_key kind key)) (kind_named kind)
query_of (kind ∷ key ∷ query ∷ word ∷ []) = option_and_then (λ kind. behind query (queries_with_word kind key word)) (kind_named kind)
query_of words = None

-- `ask BRANCH`, and a query
abbrev pub ask_words : List ℕ → List (List ℕ) → Result Step LineRefused
ask_words branch query = fits (query_of query) (λ query. named branch (Ok (Ask branch query)))

-- the words of a join: its verb, and two to eight branches
abbrev pub is_join : List ℕ → List (List ℕ) → Bool
is_join verb branches = is (codes "join") verb && nat_le 2 (length branches) && nat_le (length branches) 8

-- `join SESSION BRANCH BRANCH ..`
abbrev pub join_words : List ℕ → List (List ℕ) → Result Step LineRefused
join_words session branches =
    named session (if list_all is_name branches then Ok (Join session branches) else Err BadName)

-- the step of a line's words: a line that fits no form is refused first, then a bad name, then a bad number
abbrev pub words_step : List (List ℕ) → Result Step LineRefused
words_step (verb ∷ name ∷ words) =
    if is_join verb words then join_words name words
    else if is (codes "ask") verb then ask_words name words
    else if is (codes "do") verb then do_words name words
    else named_words verb name words
words_step words = Err Syntax

-- whether a word stands for a commit: it begins with `#`
abbrev pub is_marked : List ℕ → Bool
is_marked [] = false
is_marked (b ∷ bs) = nat_eq b 35

-- the number of the commit that such a word says: `#0`, or `#`, a digit 1 to 9 and further digits, up to 2 ^ 32 - 1
abbrev pub commit_of : List ℕ → Option ℕ
commit_of [] = None
commit_of (b ∷ bs) = if nat_eq b 35 then place_of bs else None

-- a line about the commit of a number, where there is one
abbrev pub numbered : Option ℕ → (ℕ → Line) → Result Line LineRefused
numbered None at = Err BadNumber
numbered (Some number) at = Ok (at number)

-- `ask #NUMBER`, and a query
abbrev pub ask_at_words : List ℕ → List (List ℕ) → Result Line LineRefused
ask_at_words commit query = fits (query_of query) (λ query. numbered (commit_of commit) (λ number. form.AskAt number query))

-- `fork NEW #NUMBER`
abbrev pub fork_at_words : List ℕ → List (List ℕ) → Result Line LineRefused
fork_at_words new (commit ∷ []) = named new (numbered (commit_of commit) (form.ForkAt new))
fork_at_words new words = Err Syntax

-- the words of a fork from a commit: its verb, and one word that stands for a commit
abbrev pub is_fork_at : List ℕ → List (List ℕ) → Bool
is_fork_at verb (at ∷ []) = is (codes "fork") verb && is_marked at
is_fork_at verb words = false

abbrev pub a_step : Result Step LineRefused → Result Line LineRefused
a_step (Ok step) = Ok (form.Step step)
a_step (Err refusal) = Err refusal

-- what a line's words say, where in place of the branch that is asked, or forked from, a word may stand for a commit
abbrev pub words_line : List (List ℕ) → Result Line LineRefused
words_line (verb ∷ name ∷ words) =
    if is (codes "ask") verb && is_marked name then ask_at_words name words
    else if is_fork_at verb words then fork_at_words name words
    else a_step (words_step (verb ∷ name ∷ words))
words_line words = Err Syntax

abbrev pub some_line : Result Line LineRefused → Result (Option Line) LineRefused
some_line (Ok said) = Ok (Some said)
some_line (Err refusal) = Err refusal

-- what a line says, or none for an empty line or a comment
unfoldable pub line_of : List ℕ → Result (Option Line) LineRefused
line_of line =
    if is_silent line then Ok None
    else if is_plain line then some_line (words_line (words_of line))
    else Err Syntax

-- the words are refused so, or memory was wanting
abbrev pub IsRefusedAs : {B : Type 0} → Result B LineRefused → LineRefused → Type 0
IsRefusedAs said Memory = Unit {0}
IsRefusedAs said refusal = said ≡ Err refusal

abbrev pub IsLineRefusedAs : List ℕ → LineRefused → Type 0
IsLineRefusedAs line Memory = Unit {0}
IsLineRefusedAs line refusal = line_of line ≡ Err refusal
