-- The kinds of error that clap has for words either all ask for a text or none does, where `help` is no word of its own.
use Rattle.std.proofs.Common.{◌≡◌, ◌∙◌, ◌+◌, ◌==◌, ℕ, Bool, nat_lt, min, cond, ◌&&◌, not, true, false, zero, suc, refl, sym, ap, List, [], ◌∷◌, length, Option, Some, None, inl, inr, codes}
use Rattle.std.specs.Prelude.{slice_get, find}
use Rattle.std.specs.Option.{option_map_or}
use Rattle.std.specs.Str.{bytes_eq, chars}
use Rattle.clap.specs.Lexer.{long_of, short_of}
use Rattle.clap.specs.Matches.{count_text}
use Rattle.clap.specs.Facts.{parser_of_value, unwrap_or_range}
use Rattle.clap.specs.Walk.{Held, Names, count_of, Row, Rule, Step, Text, Waiting, Walk, idle, option, positional, action_of, next, trailing, subcommand, value, arg_by_id, arg_by_index, arg_by_long, arg_by_short, most_values, nothing_held, subcommand_met, walk, walk_from, walked, with_default, word_met, values_or_missing, answers_to}
use Rattle.clap.specs.Simple.{App, Shape, argument_words, built, entered, label_of, names_of}
use Rattle.clap.specs.Kinds.{IsAmong, Kinds, check_kinds, or_else, range_kinds, request_kinds, value_kinds, values_kinds}
use Rattle.clap.specs.Faults.{action_fault, built_fault, bundle_step_fault, count_fault, default_fault, defaults_fault, entered_fault, fault_of, flag_word_fault, flags_fault, level_fault, long_fault, option_fault, other_fault, positional_fault, react_fault, set_fault, settle_fault, short_fault, step_fault, stray_fault, turn_fault, use_fault, walk_fault, word_fault}
use Rattle.clap.specs.declared.builder.action.ArgAction.{ArgAction}
use Rattle.clap.specs.declared.builder.action.ArgAction.TheVariants as action
use Rattle.clap.specs.declared.builder.value_parser.ValueParser.{ValueParser}
use Rattle.clap.specs.declared.error.kind.ErrorKind.{ErrorKind}
use Rattle.clap.specs.declared.error.kind.ErrorKind.TheVariants.{DisplayHelp, InvalidSubcommand, InvalidValue, TooFewValues, TooManyValues, UnknownArgument, WrongNumberOfValues}
use Rattle.branch_command.specs.Commands.{Help, is_request, asked_by}
use Rattle.branch_command.specs.Program.{program}

abbrev Each : Bool → Kinds → Type 0
Each b [] = Unit {0}
Each b (k ∷ ks) = (is_request k ≡ b) × Each b ks

-- all of them ask for a text, or none
pub record IsSure (ks : Kinds) : Type 0 where
  pub request : Bool
  pub each : Each request ks

none : IsSure []
none = record { request = true; each = tt }

one : (k : ErrorKind) → IsSure (k ∷ [])
one k = record { request = is_request k; each = (refl, tt) }

either : (b : Bool) (x y : Kinds) → IsSure x → IsSure y → IsSure (cond b x y)
either true x y p q = p
either false x y p q = q

both : (x y : Kinds) → IsSure x → IsSure y → IsSure (or_else x y)
both [] y p q = q
both (k ∷ ks) y p q = p

some : {X : Type 0} (f : X → Kinds) (o : Option X) → ((x : X) → IsSure (f x)) → IsSure (option_map_or f o [])
some f None h = none
some f (Some x) h = h x

-- ---- one use of an argument

value_sure : (i : Bool) (p : ValueParser) (t : List ℕ) → IsSure (value_kinds i p t)
value_sure i p t = either _ _ _ none (one _)

values_sure : (i : Bool) (p : ValueParser) (vs : List (List ℕ)) → IsSure (values_kinds i p vs)
values_sure i p [] = none
values_sure i p (v ∷ vs) = both _ _ (value_sure i p v) (values_sure i p vs)

range_sure : (least most n : ℕ) → IsSure (range_kinds least most n)
range_sure least most n = go (nat_lt 0 least && n == 0) (least == most) (least == n) (nat_lt n least) (nat_lt most n)
  where
    go : (a b c d e : Bool) → IsSure (cond a (InvalidValue ∷ []) (cond b (cond c [] (WrongNumberOfValues ∷ [])) (cond d (TooFewValues ∷ []) (cond e (TooManyValues ∷ []) []))))
    go a b c d e = either a _ _ (one _) (either b _ _ (either c _ _ none (one _)) (either d _ _ (one _) (either e _ _ (one _) none)))

request_sure : (x : ArgAction) → IsSure (request_kinds x)
request_sure action.Set = none
request_sure action.Append = none
request_sure action.SetTrue = none
request_sure action.SetFalse = none
request_sure action.Count = none
request_sure action.Help = one _
request_sure action.HelpShort = one _
request_sure action.HelpLong = one _
request_sure action.Version = one _

set_sure : (again : Bool) (a : Rule) (vs : List Text) (rows : List Row) → IsSure (set_fault again a vs rows)
set_sure again a vs rows = both _ _ (either _ _ _ (one _) none) (values_sure _ _ vs)

count_sure : (a : Rule) (vs : List Text) (rows : List Row) → IsSure (count_fault a vs rows)
count_sure a [] rows = value_sure a.ignore_case (parser_of_value a.parser) (count_text (min (count_of a.id rows + 1) 255))
count_sure a (v ∷ vs) rows = values_sure _ _ (v ∷ vs)

action_sure : (x : ArgAction) (again : Bool) (a : Rule) (vs : List Text) (rows : List Row) → IsSure (action_fault x again a vs rows)
action_sure action.Set again a vs rows = set_sure again a vs rows
action_sure action.SetTrue again a vs rows = set_sure again a vs rows
action_sure action.SetFalse again a vs rows = set_sure again a vs rows
action_sure action.Append again a vs rows = values_sure _ _ vs
action_sure action.Count again a vs rows = count_sure a vs rows
action_sure action.Help again a vs rows = one _
action_sure action.HelpShort again a vs rows = one _
action_sure action.HelpLong again a vs rows = one _
action_sure action.Version again a vs rows = one _

use_sure : (again : Bool) (a : Rule) (vs : List Text) (rows : List Row) → IsSure (use_fault again a vs rows)
use_sure again a vs rows = both _ _ (range_sure (unwrap_or_range a.range).start_inclusive (most_values a) (length vs)) (action_sure (action_of a) again a (values_or_missing a vs) rows)

-- ---- the words of one level

module _ (c : List Rule) (again : Bool) where
  settle_sure : (h : Held) → IsSure (settle_fault c again h)
  settle_sure h = some _ h.pending (λ p. some _ (arg_by_id c p.0) (λ a. use_sure again a p.1 h.rows))

  react_sure : (a : Rule) (vs : List Text) (h : Held) → IsSure (react_fault c again a vs h)
  react_sure a vs h = both _ _ (settle_sure h) (use_sure again a vs _)

  option_sure : (a : Rule) (v : Option Text) (h : Held) → IsSure (option_fault c again a v h)
  option_sure a (Some v) h = react_sure a (v ∷ []) h
  option_sure a None h = settle_sure h

  long_sure : (a : Option Rule) (v : Option Text) (h : Held) → IsSure (long_fault c again a v h)
  long_sure None v h = one _
  long_sure (Some a) v h = either _ _ _ (option_sure a v h) (either _ _ _ (one _) (react_sure a [] h))

  short_sure : (a : Option Rule) (rest : Text) (h : Held) (more : Held → Kinds) → ((h : Held) → IsSure (more h)) → IsSure (short_fault c again a rest h more)
  short_sure None rest h more n = one _
  short_sure (Some a) rest h more n = either _ _ _ (option_sure a _ h) (both _ _ (react_sure a [] h) (n _))

  step_of_bundle_sure : (x : Option ℕ) (flags : Text) (skip : ℕ) (h : Held) (more : Text → ℕ → Held → Kinds)
      → ((t : Text) (n : ℕ) (h : Held) → IsSure (more t n h)) → IsSure (bundle_step_fault c again x flags skip h more)
  step_of_bundle_sure None flags skip h more n = none
  step_of_bundle_sure (Some x) flags zero h more n = short_sure (arg_by_short c x) _ h (more _ 0) (n _ 0)
  step_of_bundle_sure (Some x) flags (suc skip) h more n = n _ skip h

  flags_sure : (k : ℕ) (flags : Text) (skip : ℕ) (h : Held) → IsSure (flags_fault c again k flags skip h)
  unfolding flags_fault
  flags_sure zero flags skip h = none
  flags_sure (suc k) flags skip h = step_of_bundle_sure (slice_get (chars flags) 0) flags skip h (flags_fault c again k) (flags_sure k)

  flag_word_sure : (p : Option (Text × Option Text)) (word : Text) (h : Held) → IsSure (flag_word_fault c again p word h)
  flag_word_sure (Some p) word h = long_sure (arg_by_long c p.0) p.1 h
  flag_word_sure None word h = some _ (short_of word) (λ flags. flags_sure (length flags) flags h.skip (record h { skip = 0 }))

  positional_sure : (a : Rule) (h : Held) → IsSure (positional_fault c again a h)
  positional_sure a h = either _ _ _ none (settle_sure h)

-- no word names a subcommand, or clap adds no `help`
abbrev IsQuiet : Shape → Names → Type 0
IsQuiet s names = (waiting : Waiting) (word name : Text) → subcommand_met names waiting word ≡ Some name → s.disable_help_subcommand ≡ true

other_sure : (s : Shape) (o : Option Text) (word : Text) (h : Held) → ((name : Text) → o ≡ Some name → s.disable_help_subcommand ≡ true) → IsSure (other_fault s o word h)
other_sure s (Some name) word h quiet =
    let off : s.disable_help_subcommand ≡ true = quiet name refl in
    rw off (go (bytes_eq name (codes "help")))
  where
    go : (b : Bool) → IsSure (cond (b && not true) (DisplayHelp ∷ InvalidSubcommand ∷ []) [])
    go true = none
    go false = none
other_sure s None word h quiet = either _ _ _ none (flag_word_sure s.rules s.args_override_self (long_of word) word h)

word_sure : (s : Shape) (names : Names) (trails : Bool) (waiting : Waiting) (word : Text) (h : Held) → IsQuiet s names → IsSure (word_fault s names trails waiting word h)
word_sure s names trails waiting word h quiet = either _ _ _ none (other_sure s (subcommand_met names waiting word) word h (quiet waiting word))

stray_sure : (s : Shape) → IsSure (stray_fault s)
stray_sure s = either s.is_leaf (UnknownArgument ∷ []) (UnknownArgument ∷ InvalidSubcommand ∷ []) (one _) (record { request = false; each = (refl, (refl, tt)) })

to_positional_sure : (s : Shape) (h : Held) (o : Option Rule)
    → IsSure (option_map_or (λ a. positional_fault s.rules s.args_override_self a h) o (stray_fault s))
to_positional_sure s h None = stray_sure s
to_positional_sure s h (Some a) = positional_sure s.rules s.args_override_self a h

step_sure : (s : Shape) (position : ℕ) (h : Held) (step : Step) → IsSure (step_fault s position h step)
step_sure s position h value = to_positional_sure s h (arg_by_index s.rules position)
step_sure s position h (next waiting) = none
step_sure s position h (trailing p) = none
step_sure s position h (subcommand name) = none

turn_sure : (s : Shape) (names : Names) (w : Walk) (word : Text) → IsQuiet s names → IsSure (turn_fault s names w word)
turn_sure s names w word quiet = either _ _ _ none (both _ _ (word_sure s names w.is_trailing w.waiting word w.held quiet) (step_sure s w.position
    (word_met s.rules names w.is_trailing w.waiting w.position word w.held).0 (word_met s.rules names w.is_trailing w.waiting w.position word w.held).1))

walk_sure : (s : Shape) (names : Names) → IsQuiet s names → (w : Walk) (words : List Text) → IsSure (walk_fault s names w words)
unfolding walk_fault
walk_sure s names quiet w [] = none
walk_sure s names quiet w (word ∷ words) = both _ _ (turn_sure s names w word quiet) (walk_sure s names quiet (walked s.rules names w word) words)

-- ---- after the words

default_sure : (rows : List Row) (a : Rule) → IsSure (default_fault rows a)
default_sure rows a = either _ _ _ none (both _ _ (request_sure (action_of a)) (values_sure _ _ a.defaults))

defaults_sure : (rows : List Row) (rules : List Rule) → IsSure (defaults_fault rows rules)
unfolding defaults_fault
defaults_sure rows [] = none
defaults_sure rows (a ∷ rules) = both _ _ (default_sure rows a) (defaults_sure (with_default rows a) rules)

check_sure : (a b c : Bool) → IsSure (check_kinds a b c)
check_sure a b c = either a _ _ (one _) (either b _ _ (one _) (either c _ _ (one _) none))

level_sure : (s : Shape) (names : Names) (h : Held) (words : List Text) (entered : Bool) (below : Kinds) → IsQuiet s names → IsSure below
    → IsSure (level_fault s names h words entered below)
level_sure s names h words entered below quiet b =
    both _ _ (walk_sure s names quiet (walk_from h) words)
    (both _ _ b (both _ _ (settle_sure s.rules s.args_override_self (walk s.rules names h words).held) (both _ _ (defaults_sure _ s.rules) (check_sure _ _ _))))

quiet_leaf : (s : Shape) → IsQuiet s []
quiet_leaf s idle word name e = cc
quiet_leaf s (option id) word name e = cc
quiet_leaf s positional word name e = cc

entered_sure : (a : App) (stop : Option (Text × List Text)) → IsSure (entered_fault a stop)
entered_sure a stop = some _ stop (λ p. some _ (find (λ s. answers_to p.0 (label_of s)) a.subs)
    (λ s. level_sure s [] nothing_held p.1 false [] (quiet_leaf s) none))

built_sure : (a : App) (h : Held) (words : List Text) → a.top.disable_help_subcommand ≡ true → IsSure (built_fault a h words)
built_sure a h words off = level_sure a.top (names_of a) h words _ _ (λ waiting word name e. off) (entered_sure a _)

pub program_sure : (words : List Text) → IsSure (fault_of program words)
unfolding program
program_sure words = built_sure (built program) nothing_held (argument_words program words) refl

-- ---- what an error of one of the kinds says

among_each : (b : Bool) (k : ErrorKind) (ks : Kinds) → Each b ks → IsAmong k ks → is_request k ≡ b
among_each b k [] each here = absurd here
among_each b k (x ∷ xs) each here = elim here [
  | inl same ↦ ap is_request same ∙ each.0
  | inr later ↦ among_each b k xs each.1 later
]

pub asked_by_one : (ks : Kinds) (k : ErrorKind) → IsSure ks → IsAmong k ks → asked_by ks ≡ cond (is_request k) (Some Help) None
asked_by_one [] k sure here = absurd here
asked_by_one (x ∷ xs) k sure here = ap (λ b. cond b (Some Help) None) (sure.each.0 ∙ sym (among_each sure.request k (x ∷ xs) sure.each here))
