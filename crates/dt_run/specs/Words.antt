-- The words after the program's name, and what they ask for.
--   dtq                  the command: an optional SCRIPT, and the flag --check
--   with_name words      the words with the program's name before them
--   is_taken all         the command takes all the words, the name among them
--   Asked                what they ask for: a script, and whether it is only read
--   rows_asked rows      what the command's matches ask for, if they have a SCRIPT
--   all_asked all        what all the words ask for, if the command takes them and they have a SCRIPT
--   asked words          the same of the words after the name
--   LacksScript all      the command does not take the words, or they have no SCRIPT
--   IsPlainWord word     the word is not empty and does not begin with `-`
--   TakesPlainWords      the law: a plain word asks for that script, also behind --check
use Rattle.std.specs.Prelude.{◌≡◌, ◌==◌, ◌⊎◌, ℕ, Bool, true, false, if◌then◌else◌, List, [], ◌∷◌}
use Rattle.std.specs.Prelude.{Option, None, Some, codes, option_map}
use Rattle.std.specs.Str.{bytes_eq}
use Rattle.std.specs.Option.{option_map_or}
use Rattle.clap.specs.Walk.{is_empty}
use Rattle.clap.specs.Words.{App, Row, Rule, fault_of, first_of, matches_of, new_app, new_rule, takes, with_rule}
use Rattle.clap.specs.declared.builder.ArgAction.TheVariants.{SetTrue}

abbrev pub script_rule : Rule
script_rule = new_rule (codes "script")

abbrev pub check_rule : Rule
check_rule = record (new_rule (codes "check")) { long = Some (codes "check"); action = Some SetTrue }

-- the command, as `clap` sees it
abbrev pub dtq : App
dtq = with_rule (with_rule (new_app (codes "dtq")) script_rule) check_rule

-- the command wants the program's name first
abbrev pub with_name : List (List ℕ) → List (List ℕ)
with_name words = codes "dtq" ∷ words

-- the command takes the words: `clap` finds no fault in them
abbrev pub is_taken : List (List ℕ) → Bool
is_taken all = is_empty (fault_of dtq all)

-- a script, and whether it is only read
pub record Asked : Type 0 where
  pub script : List ℕ
  pub is_check : Bool

-- the flag stands among the matches
abbrev pub is_checked : Option (List ℕ) → Bool
is_checked value = option_map_or (λ text. bytes_eq text (codes "true")) value false

-- what the matches of the command ask for
abbrev pub rows_asked : List Row → Option Asked
rows_asked rows =
    option_map (λ q. record { script = q; is_check = is_checked (first_of (codes "check") rows) })
    (first_of (codes "script") rows)

-- what all the words ask for
abbrev pub all_asked : List (List ℕ) → Option Asked
all_asked all = if is_taken all then rows_asked (matches_of dtq all) else None

-- what the words after the program's name ask for
abbrev pub asked : List (List ℕ) → Option Asked
asked words = all_asked (with_name words)

-- the command does not take the words, or they have no SCRIPT
abbrev pub LacksScript : List (List ℕ) → Type 0
LacksScript all = (takes dtq all ≡ false) ⊎ (first_of (codes "script") (matches_of dtq all) ≡ None)

-- a word that is not empty and does not begin with `-`
abbrev pub IsPlainWord : List ℕ → Type 0
IsPlainWord [] = ⊥
IsPlainWord (b ∷ rest) = (b == 45) ≡ false

-- the command takes the words, and they ask for this script
abbrev pub AsksFor : List (List ℕ) → List ℕ → Bool → Type 0
AsksFor words q check =
    (takes dtq (with_name words) ≡ true) × (asked words ≡ Some (record { script = q; is_check = check }))

-- a plain word asks for the run of that script, and behind --check for its reading
abbrev pub TakesPlainWords : Type 0
TakesPlainWords =
    (word : List ℕ) → IsPlainWord word →
    AsksFor (word ∷ []) word false × AsksFor (codes "--check" ∷ word ∷ []) word true
