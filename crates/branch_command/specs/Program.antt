-- The commands of the program and their options, as clap reads them.
use Rattle.std.specs.Prelude.{true, false, codes, Some, List, [], ◌∷◌, ◌++◌, map}
use Rattle.clap.specs.Walk.{Rule, Text}
use Rattle.clap.specs.Simple.{App, Shape, new_rule, new_shape}
use Rattle.clap.specs.declared.builder.action.ArgAction.TheVariants.{Append, SetTrue, Version}

-- an option `--name N`, which is given at most once
abbrev pub limit_rule : Text → Rule
limit_rule name = record (new_rule name) { long = Some name; value_names = 1 }

-- a flag `--name`, which has no word behind it and is given at most once
abbrev pub flag_rule : Text → Rule
flag_rule name = record (new_rule name) { long = Some name; action = Some SetTrue }

-- the flag `--version`; clap adds `--help` and `-h` by itself
abbrev pub version_rule : Rule
version_rule = record (new_rule (codes "version")) { long = Some (codes "version"); action = Some Version }

-- a word that a command takes, which may lack
abbrev pub optional_rule : Text → Rule
optional_rule name = record (new_rule name) { value_names = 1 }

-- the word behind `help`
abbrev pub topic_rule : Rule
topic_rule = optional_rule (codes "command")

-- a word that a command wants
abbrev pub wanted_rule : Text → Rule
wanted_rule name = record (new_rule name) { required = true; value_names = 1 }

-- words that a command takes, of which there may be none
abbrev pub several_rule : Text → Rule
several_rule name = record (new_rule name) { action = Some Append; value_names = 1 }

-- a command of this name, which takes these and `--version`
abbrev pub leaf : Text → List Rule → Shape
leaf name rules = record (new_shape name) { rules = rules ++ version_rule ∷ [] }

abbrev pub work_names : List Text
work_names = codes "steps" ∷ codes "number" ∷ []

abbrev pub client_names : List Text
client_names = codes "count" ∷ work_names

-- the options of `init` with a number
abbrev pub init_names : List Text
init_names = codes "max-clock" ∷ codes "max-commits" ∷ codes "max-branches" ∷ codes "max-value" ∷ codes "max-moves" ∷ codes "origin" ∷ []

-- and all its options
abbrev pub init_rules : List Rule
init_rules = map limit_rule init_names ++ flag_rule (codes "sequences") ∷ flag_rule (codes "changes") ∷ []

-- the words of `send`
abbrev pub send_rules : List Rule
send_rules = wanted_rule (codes "branch") ∷ several_rule (codes "address") ∷ []

-- the words of `log`
abbrev pub log_rules : List Rule
log_rules = wanted_rule (codes "at") ∷ optional_rule (codes "count") ∷ []

-- the word and the flag of `show`
abbrev pub show_rules : List Rule
show_rules = wanted_rule (codes "at") ∷ flag_rule (codes "json") ∷ []

-- the program without its commands, of which one is wanted; no program's name in front
abbrev pub bare_program : App
bare_program = record {
  top = record (new_shape (codes "bucketplum")) {
    rules = version_rule ∷ [];
    no_binary_name = true;
    disable_help_subcommand = true;
    disable_version_flag = true;
    propagate_version = true;
    has_version = true;
    subcommand_required = true;
  };
  subs = [];
}

-- with the commands on one store: `init [--max-clock N] .. [--sequences] [--changes]`, `script`, `check`,
-- `generate STEPS NUMBER`, `clients COUNT STEPS NUMBER`, `upgrade` and `compact`
abbrev pub store_program : App
store_program = record {
  top = record bare_program.top { is_leaf = false };
  subs = leaf (codes "init") init_rules
      ∷ leaf (codes "script") [] ∷ leaf (codes "check") []
      ∷ leaf (codes "generate") (map wanted_rule work_names) ∷ leaf (codes "clients") (map wanted_rule client_names)
      ∷ leaf (codes "upgrade") [] ∷ leaf (codes "compact") [] ∷ [];
}

-- with those on bundles, `address BRANCH`, `send BRANCH [ADDRESS ..]` and `receive NAME`, with those that print a
-- history, `log AT [COUNT]`, `show AT [--json]` and `graph`, and with `help [COMMAND]`
unfoldable pub program : App
program = record store_program {
  subs = store_program.subs ++ (leaf (codes "address") (wanted_rule (codes "branch") ∷ []) ∷ leaf (codes "send") send_rules
      ∷ leaf (codes "receive") (wanted_rule (codes "name") ∷ []) ∷ leaf (codes "log") log_rules ∷ leaf (codes "show") show_rules
      ∷ leaf (codes "graph") [] ∷ leaf (codes "help") (topic_rule ∷ []) ∷ []);
}
