-- The command whose words are those of `status`.
use Rattle.std.proofs.Common.{◌≡◌, ◌∙◌, List, [], refl, ap, subst, sym}
use Rattle.std.specs.Prelude.{true, Some}
use Rattle.clap.specs.Walk.{Row, Text}
use Rattle.clap.specs.Faults.{fault_of, is_simple_and_free}
use Rattle.clap.specs.Simple.{App, matches_of}
use Rattle.chk_ctl_line.specs.Options.{faultless}
use Rattle.chk_ctl_line.specs.Status.{status_app, status_rows}

-- what `clap` says of it is exact
pub status_simple : is_simple_and_free status_app ≡ true
status_simple = refl

-- words that `clap` takes
pub status_taken : (words : List Text) (app : App) (rows : List Row) → app ≡ status_app
    → fault_of app words ≡ [] → rows ≡ matches_of app words → status_rows words ≡ Some rows
status_taken words app rows is none same =
    let P : App → Type 0 = λ a. faultless (fault_of a words) (matches_of a words) ≡ Some rows in
    let found = matches_of app words in
    subst P is (ap (λ kinds. faultless kinds found) none ∙ ap (λ r. Some r) (sym same))
