-- The writer's calls under the rules of all processes.
use Rattle.std.proofs.Common.{◌≡◌, ℕ, List, [], ◌∷◌, Ok, Err, Option, Result, refl, subst}
use Rattle.std.specs.Prelude.{Contains, MatchResult}
use Rattle.chk_site.specs.declared.acts.CallFault.{CallFault}
use Rattle.chk_site.specs.declared.acts.OutsideFault.{OutsideFault}
use Rattle.chk_site.specs.declared.acts.ActAnswer.{ActAnswer}
use Rattle.chk_site.specs.declared.acts.Call.TheVariants.{LogAppend, Say}
use Rattle.chk_site.specs.declared.acts.ActAnswer.TheVariants.{Refused, Stopped}
use Rattle.chk_site.specs.declared.acts.Who.{Who}
use Rattle.chk_site.specs.Acts.{GrowsLog}
use Rattle.chk_site.specs.Files.{Files}
use Rattle.chk_site.specs.Logs.{Logs}
use Rattle.chk_site.specs.History.{History, files_after, logs_after}
use Rattle.chk_site.specs.Honest.{Honest}
use Rattle.chk_site.specs.Runs.{Leads}
use Rattle.chk_site.specs.Site.{Adds, Calls, Ends, answered, own_step, plain}
use Rattle.chk_site.proofs.Leads.{any_leads, leads_none, leads_then}
use Rattle.chk_world.specs.Rules.{Legal, WriterRule}
use Rattle.chk_world.specs.Together.{Together}
use Rattle.chk_cmd_load.specs.Loads.{SaysLine, unsaid, said, unsayable, saying}
use Rattle.chk_cmd_load.specs.Pieces.{AppendsInTurn, all_appended, unappended, appended_on, ended}
use Rattle.chk_cmd_load.specs.Pieces.{appending, LogPiece, IsPiece}
use Rattle.chk_cmd_load.specs.Processes.{chukwa}

-- the piece is appended, and the answer tells how that ended
pub appended_one : {who : Who} {p : LogPiece} {old new : Option History}
    (given : Result (Unit {0}) CallFault) (result : Result (Unit {0}) OutsideFault) → IsPiece p
    → Adds old new (Calls (appending who p) (answered plain given))
    → MatchResult result (λ value. given ≡ Ok value) (λ fault. Ends LogAppend given fault)
    → AppendsInTurn who (p ∷ []) result old new
appended_one {who} {p} {old} {new} given (Ok tt) good told is =
    appended_on good (subst
    (λ (x : Result (Unit {0}) CallFault). Adds old new (Calls (appending who p) (answered plain x))) is told)
    all_appended
appended_one given (Err fault) good told ends = ended given good ends told

-- the line is said, and the answer tells how that ended
pub said_one : {who : Who} {line : List ℕ} {old new : Option History}
    (given : Result (Unit {0}) CallFault) (result : Result (Unit {0}) OutsideFault)
    → Adds old new (Calls (saying who line) (answered plain given))
    → MatchResult result (λ value. given ≡ Ok value) (λ fault. Ends Say given fault)
    → SaysLine who line result old new
said_one {who} {line} {old} {new} given (Ok tt) told is =
    said (subst
    (λ (x : Result (Unit {0}) CallFault). Adds old new (Calls (saying who line) (answered plain x))) is told)
said_one given (Err fault) told ends = unsayable given ends told

module _ (stamped : List (List ℕ)) (started acting : List Who) (writes : Contains acting chukwa) where
  abbrev Stays : Option History → Option History → Type 0
  Stays old new = Adds old new (Leads (Together stamped started acting) (Legal stamped) (Legal stamped))

  append_legal : (p : LogPiece) (answer : ActAnswer) (before : History) (files : Files) (logs : Logs)
      → WriterRule (files_after before) (logs_after before) (GrowsLog p.path p.bytes) answer
      → Honest before (own_step (appending chukwa p) answer files logs) → Legal stamped before
      → Legal stamped (own_step (appending chukwa p) answer files logs ∷ before)
  append_legal p answer before files logs rule honest legal = (
    legal,
    record { honest = honest; named = refl; starts = refl; own_files = tt; logs = refl; requests = tt; rule = rule },
  )

  append_leads : (p : LogPiece) (given : Result (Unit {0}) CallFault) {old new : Option History}
      → Adds old new (Calls (appending chukwa p) (answered plain given)) → Stays old new
  append_leads p given told =
      any_leads (Legal stamped) plain given (λ before answer files logs running. record { one = writes; running = running })
      (λ before step theirs outside legal. (legal, outside.obeys))
      (λ value before files logs running honest legal. append_legal p (plain value) before files logs tt honest legal)
      (λ fault before files logs running honest legal. append_legal p (Refused fault) before files logs tt honest legal)
      (λ left before files logs running honest legal. append_legal p (Stopped left) before files logs tt honest legal)
      (λ before legal. legal) told

  -- appends in turn leave a legal history legal
  pub appends_lead : {ps : List LogPiece} {result : Result (Unit {0}) OutsideFault} {old new : Option History}
      → AppendsInTurn chukwa ps result old new → Stays old new
  appends_lead all_appended = leads_none _ (λ h legal. legal)
  appends_lead unappended = leads_none _ (λ h legal. legal)
  appends_lead (appended_on {p = p} good told more) = leads_then (append_leads p (Ok tt) told) (appends_lead more)
  appends_lead (ended {p = p} given good ends told) = append_leads p given told

  say_legal : (line : List ℕ) (answer : ActAnswer) (before : History) (files : Files) (logs : Logs)
      → Honest before (own_step (saying chukwa line) answer files logs) → Legal stamped before
      → Legal stamped (own_step (saying chukwa line) answer files logs ∷ before)
  say_legal line answer before files logs honest legal = (
    legal,
    record { honest = honest; named = refl; starts = refl; own_files = tt; logs = tt; requests = tt; rule = tt },
  )

  say_leads : (line : List ℕ) (given : Result (Unit {0}) CallFault) {old new : Option History}
      → Adds old new (Calls (saying chukwa line) (answered plain given)) → Stays old new
  say_leads line given told =
      any_leads (Legal stamped) plain given (λ before answer files logs running. record { one = writes; running = running })
      (λ before step theirs outside legal. (legal, outside.obeys))
      (λ value before files logs running honest legal. say_legal line (plain value) before files logs honest legal)
      (λ fault before files logs running honest legal. say_legal line (Refused fault) before files logs honest legal)
      (λ left before files logs running honest legal. say_legal line (Stopped left) before files logs honest legal)
      (λ before legal. legal) told

  -- so does a line that is printed
  pub says_lead : {line : List ℕ} {result : Result (Unit {0}) OutsideFault} {old new : Option History}
      → SaysLine chukwa line result old new → Stays old new
  says_lead unsaid = leads_none _ (λ h legal. legal)
  says_lead {line = line} (said told) = say_leads line (Ok tt) told
  says_lead {line = line} (unsayable given ends told) = say_leads line given told
