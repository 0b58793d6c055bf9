-- A command that gets one option after the other.
use Rattle.std.proofs.Common.{◌≡◌, ◌∙◌, ◌<◌, ◌≤◌, ◌+◌, ℕ, List, [], ◌∷◌, ◌⊎◌, inl, inr, length}
use Rattle.std.proofs.Common.{map, take, drop, get_or, ap, refl, subst, sym, add-one}
use Rattle.std.specs.Prelude.{true, Option, None, Some, Result, Ok, Err, IsErrAnd}
use Rattle.std.proofs.lemmas.List.{map-append, map_more, take_all}
use Rattle.std.proofs.Math.ListN.{drop_of_length-le}
use Rattle.std.proofs.Math.Seq.{drop-cons}
use Rattle.clap.specs.Walk.{Row, Text}
use Rattle.clap.specs.Kinds.{Kinds, IsAmong}
use Rattle.clap.specs.Faults.{fault_of, is_simple_and_free}
use Rattle.clap.specs.declared.error.kind.ErrorKind.{ErrorKind}
use Rattle.clap.specs.declared.error.kind.ErrorKind.TheVariants.{OutOfMemory}
use Rattle.clap.specs.Simple.{App, matches_of, with_rule}
use Rattle.chk_ctl_line.specs.Options.{app_with, fault_by, faultless, flag_rule, option_rule}
use Rattle.chk_ctl_line.specs.Options.{parsed, with_flags, with_rules, words_rule}
use Rattle.chk_ctl_line.specs.Given.{ReadsOptions}
use Rattle.chk_ctl_line.specs.Usages.{option_names, flag_names}
use Rattle.chk_ctl_line.specs.declared.commands.WordsFault.{WordsFault}
use Rattle.chk_ctl_line.specs.declared.commands.WordsFault.TheVariants.{Usage as IsUsage}
use Rattle.chk_ctl_line.specs.declared.commands.WordsFault.TheVariants.{NoMemory}
use Rattle.chk_ctl_line.specs.declared.options.Given.{Given}
use Rattle.chk_ctl_line.specs.declared.usage.Usage.{Usage}
use Rattle.chk_ctl_line.specs.declared.usage.Usage.TheVariants.{Commands, Audit, Cat, Check}
use Rattle.chk_ctl_line.specs.declared.usage.Usage.TheVariants.{Status, Verify, Sum, Held}
use Rattle.chk_ctl_line.specs.declared.usage.Usage.TheVariants.{Passed, Streams}

-- the command with these options that take a value
abbrev pub with_options : List Text → App
with_options names = with_rules (map option_rule names)

-- one more of them
pub one_more : {X : Type 0} (f : X → Text) (xs : List X) (i : ℕ) (d : X) (old new : App)
    → i < length xs → new ≡ with_rule old (option_rule (f (get_or xs i d)))
    → old ≡ with_options (map f (take i xs))
    → new ≡ with_options (map f (take (i + 1) xs))
one_more f xs i d old new lt added before =
    added ∙ ap (λ app. with_rule app (option_rule (f (get_or xs i d)))) before
    ∙ sym (ap with_options (map_more f xs i d lt)
    ∙ ap with_rules (map-append option_rule (map f (take i xs)) (f (get_or xs i d) ∷ [])))

-- all of them, and behind them the other options and words
pub all_added : {X : Type 0} (f : X → Text) (xs : List X) (i : ℕ) (flags : List Text)
    (old new : App)
    → length xs ≤ i → new ≡ with_rule (with_flags old flags) words_rule
    → old ≡ with_options (map f (take i xs))
    → new ≡ app_with (map f xs) flags
all_added f xs i flags old new all added before =
    added ∙ ap (λ app. with_rule (with_flags app flags) words_rule) before
    ∙ ap (λ some. with_rule (with_flags (with_options (map f some)) flags) words_rule)
    (take_all i xs all)

-- one more that takes no value: the rest is added to more
pub one_flag : {X : Type 0} (f : X → Text) (xs : List X) (i : ℕ) (d : X) (old new all : App)
    → i < length xs → new ≡ with_rule old (flag_rule (f (get_or xs i d)))
    → with_flags old (map f (drop i xs)) ≡ all
    → with_flags new (map f (drop (i + 1) xs)) ≡ all
one_flag {X = X} f xs i d old new all lt added before =
    let next : drop i xs ≡ get_or xs i d ∷ drop (i + 1) xs =
    drop-cons xs i d lt ∙ ap (λ (k : ℕ). get_or xs i d ∷ drop k xs) (sym (add-one i)) in
    ap (λ app. with_flags app (map f (drop (i + 1) xs))) added
    ∙ (sym (ap (λ (rest : List X). with_flags old (map f rest)) next) ∙ before)

-- none is left
pub all_flags : {X : Type 0} (f : X → Text) (xs : List X) (i : ℕ) (old all : App)
    → length xs ≤ i → with_flags old (map f (drop i xs)) ≡ all → old ≡ all
all_flags {X = X} f xs i old all past before =
    sym (ap (λ (rest : List X). with_flags old (map f rest)) (drop_of_length-le xs past)) ∙ before

-- what `clap` says of each of these commands is exact
pub all_simple : (usage : Usage) → is_simple_and_free
    (app_with (option_names usage) (flag_names usage)) ≡ true
all_simple Commands = refl
all_simple Audit = refl
all_simple Cat = refl
all_simple Check = refl
all_simple Status = refl
all_simple Streams = refl
all_simple Verify = refl
all_simple Sum = refl
all_simple Held = refl
all_simple Passed = refl

-- an error where no words are taken, or of memory
none_told : (kind : ErrorKind) → ReadsOptions None (Err (fault_by kind))
none_told OutOfMemory = tt
none_told _ = refl

-- words that `clap` takes
pub taken : (names flags words : List Text) (app : App) (rows : List Row)
    → app ≡ app_with names flags
    → fault_of app words ≡ [] → rows ≡ matches_of app words → parsed names flags words ≡ Some rows
taken names flags words app rows is none same =
    let P : App → Type 0 = λ a. faultless (fault_of a words) (matches_of a words) ≡ Some rows in
    let found = matches_of app words in
    subst P is (ap (λ kinds. faultless kinds found) none ∙ ap (λ r. Some r) (sym same))

-- no memory for the rules of a command
pub without_memory : (rows : Option (List Row)) (r : Result Given WordsFault)
    → IsErrAnd r (λ fault. fault ≡ NoMemory) → ReadsOptions rows r
without_memory rows (Ok given) told = absurd told
without_memory rows (Err NoMemory) told = tt
without_memory rows (Err IsUsage) told = absurd (cc)

-- an error of `clap` itself
pub refused : (rows : List Row) (kinds : Kinds) (kind : ErrorKind) (fault : WordsFault)
    → (kind ≡ OutOfMemory) ⊎ IsAmong kind kinds → fault ≡ fault_by kind
    → ReadsOptions (faultless kinds rows) (Err fault)
refused rows kinds kind fault (inl memory) is =
    let P : WordsFault → Type 0 = λ f. ReadsOptions (faultless kinds rows) (Err f) in
    subst P (sym (is ∙ ap fault_by memory)) tt
refused rows [] kind fault (inr among) is = absurd among
refused rows (k ∷ kinds) kind fault (inr among) is =
    let P : WordsFault → Type 0 = λ f. ReadsOptions None (Err f) in
    subst P (sym is) (none_told kind)
