-- A command that gets one option after the other.
use Rattle.std.proofs.Common.{◌≡◌, ◌∙◌, ◌<◌, ◌≤◌, ◌+◌, ℕ, List, [], ◌∷◌, ◌⊎◌, inl, inr, length, map, take, get_or, ap, refl, subst, sym}
use Rattle.std.specs.Prelude.{true, codes, Option, None, Some, Result, Ok, Err, IsErrAnd}
use Rattle.std.proofs.lemmas.List.{map-append, map_more, take_all}
use Rattle.clap.specs.Walk.{Row, Rule, Text}
use Rattle.clap.specs.Kinds.{Kinds, IsAmong}
use Rattle.clap.specs.Faults.{fault_of, is_simple_and_free}
use Rattle.clap.specs.declared.error.kind.ErrorKind.{ErrorKind}
use Rattle.clap.specs.declared.error.kind.ErrorKind.TheVariants.{OutOfMemory}
use Rattle.clap.specs.Simple.{App, matches_of, new_shape, with_rule}
use Rattle.chk_cmd_line.specs.Options.{app_with, fault_by, faultless, option_rule, parsed, words_rule}
use Rattle.chk_cmd_line.specs.Given.{ReadsOptions}
use Rattle.chk_cmd_line.specs.Usages.{option_names}
use Rattle.chk_cmd_line.specs.declared.commands.WordsFault.{WordsFault}
use Rattle.chk_cmd_line.specs.declared.commands.WordsFault.TheVariants.{Usage as IsUsage, NoMemory}
use Rattle.chk_cmd_line.specs.declared.options.Given.{Given}
use Rattle.chk_cmd_line.specs.declared.usage.Usage.{Usage}
use Rattle.chk_cmd_line.specs.declared.usage.Usage.TheVariants.{Commands, Round, Agent, Collector, Drain, Archive, Demux, Salvage, Load, Udp, Subscribe, Join}

-- the command with these rules
abbrev pub with_rules : List Rule → App
with_rules rules = record {
  top = record (new_shape (codes "chukwa")) { rules = rules; disable_help_flag = true };
  subs = [];
}

-- the command with these options, before the other words
abbrev pub with_options : List Text → App
with_options names = with_rules (map option_rule names)

-- one more option
pub one_more : {X : Type 0} (f : X → Text) (xs : List X) (i : ℕ) (d : X) (old new : App)
    → i < length xs → new ≡ with_rule old (option_rule (f (get_or xs i d))) → old ≡ with_options (map f (take i xs))
    → new ≡ with_options (map f (take (i + 1) xs))
one_more f xs i d old new lt added before =
    added ∙ ap (λ app. with_rule app (option_rule (f (get_or xs i d)))) before
    ∙ sym (ap with_options (map_more f xs i d lt)
    ∙ ap with_rules (map-append option_rule (map f (take i xs)) (f (get_or xs i d) ∷ [])))

-- all options, and behind them the other words
pub all_added : {X : Type 0} (f : X → Text) (xs : List X) (i : ℕ) (old new : App)
    → length xs ≤ i → new ≡ with_rule old words_rule → old ≡ with_options (map f (take i xs))
    → new ≡ app_with (map f xs)
all_added f xs i old new all added before =
    added ∙ ap (λ app. with_rule app words_rule) before
    ∙ ap (λ some. with_rule (with_options (map f some)) words_rule) (take_all i xs all)

-- what `clap` says of each of these commands is exact
pub all_simple : (usage : Usage) → is_simple_and_free (app_with (option_names usage)) ≡ true
all_simple Commands = refl
all_simple Round = refl
all_simple Agent = refl
all_simple Collector = refl
all_simple Drain = refl
all_simple Archive = refl
all_simple Demux = refl
all_simple Salvage = refl
all_simple Load = refl
all_simple Udp = refl
all_simple Subscribe = refl
all_simple Join = refl

-- an error where no words are taken, or of memory
none_told : (kind : ErrorKind) → ReadsOptions None (Err (fault_by kind))
none_told OutOfMemory = tt
none_told _ = refl

-- words that `clap` takes
pub taken : (names words : List Text) (app : App) (rows : List Row) → app ≡ app_with names
    → fault_of app words ≡ [] → rows ≡ matches_of app words → parsed names words ≡ Some rows
taken names words app rows is none same =
    let P : App → Type 0 = λ a. faultless (fault_of a words) (matches_of a words) ≡ Some rows in
    let found = matches_of app words in
    subst P is (ap (λ kinds. faultless kinds found) none ∙ ap (λ r. Some r) (sym same))

-- no memory for the rules of a command
pub without_memory : (rows : Option (List Row)) (r : Result Given WordsFault)
    → IsErrAnd r (λ fault. fault ≡ NoMemory) → ReadsOptions rows r
without_memory rows (Ok given) told = absurd told
without_memory rows (Err NoMemory) told = tt
without_memory rows (Err IsUsage) told = absurd (cc)

-- an error of `clap` itself
pub refused : (rows : List Row) (kinds : Kinds) (kind : ErrorKind) (fault : WordsFault)
    → (kind ≡ OutOfMemory) ⊎ IsAmong kind kinds → fault ≡ fault_by kind
    → ReadsOptions (faultless kinds rows) (Err fault)
refused rows kinds kind fault (inl memory) is =
    let P : WordsFault → Type 0 = λ f. ReadsOptions (faultless kinds rows) (Err f) in
    subst P (sym (is ∙ ap fault_by memory)) tt
refused rows [] kind fault (inr among) is = absurd among
refused rows (k ∷ kinds) kind fault (inr among) is =
    let P : WordsFault → Type 0 = λ f. ReadsOptions None (Err f) in
    subst P (sym is) (none_told kind)
