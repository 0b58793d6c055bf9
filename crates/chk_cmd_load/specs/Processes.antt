-- The processes of a load.
use Rattle.std.specs.Prelude.{◌≡◌, ℕ, List, [], ◌∷◌, codes, Contains}
use Rattle.chk_control.specs.declared.Class.TheVariants.{Plain}
use Rattle.chk_site.specs.declared.acts.Role.TheVariants.{Writer}
use Rattle.chk_site.specs.declared.acts.Who.{Who}
use Rattle.chk_cmd_line.specs.Loads.{load_log}
use Rattle.chk_round.specs.declared.words.RoundWords.{RoundWords}
use Rattle.chk_round.specs.Processes.{IsRunOf}

-- the process that appends the lines and prints the summary
abbrev pub chukwa : Who
chukwa = record { role = Writer; name = codes "chukwa" }

-- the run started the processes of the round, and these and the writer act in it
pub record IsLoadRun (started acting : List Who) : Type 0 where
  pub round : IsRunOf (codes "load") started acting
  pub writes : Contains acting chukwa

-- the three logs
abbrev pub load_logs : List (List ℕ)
load_logs = load_log 0 ∷ load_log 1 ∷ load_log 2 ∷ []

-- the round of the three logs, as it is asked for without an option
pub record IsLoadRound (words : RoundWords) : Type 0 where
  pub source : words.source ≡ codes "load"
  pub kind : words.kind ≡ codes "Load"
  pub class : words.class ≡ Plain
  pub reads : words.reads ≡ 1000000
  pub cluster : words.cluster ≡ codes "none"
  pub logs : words.logs.items ≡ load_logs
