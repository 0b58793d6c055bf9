-- A clause that speaks of what was asked for, where that is known.
use Rattle.std.proofs.Common.{◌≡◌, inl, inr, refl, ◌∙◌, ℕ, List, Option, Some, Result, Ok, Err, sym, subst}
use Rattle.std.proofs.lemmas.Option.{same_Some}
use Rattle.chk_site.specs.History.{History}
use Rattle.chk_site.specs.Site.{Adds}
use Rattle.chk_site.specs.Runs.{Leads}
use Rattle.chk_site.proofs.Runs.{adds_as}
use Rattle.chk_cmd_line.specs.Commands.{Asked}
use Rattle.chk_cmd_line.specs.declared.endings.Ending.{Ending}
use Rattle.chk_cmd_line.specs.declared.endings.Ending.TheVariants.{NoMemory}
use Rattle.chk_cmd_line.specs.Endings.{ending_line}
use Rattle.chukwa_run.specs.Processes.{RunSide}
use Rattle.chukwa_run.specs.Runs.{Begins, Ends, EndsWith, Caused, CausedBy, SaysUsage}
use Rattle.chukwa_run.specs.Saying.{SaysOnce, SaysEnding}
use Rattle.chukwa_run.proofs.LastLine.{ends_well, ends_by_line, caused_well, caused_by_line, line_said}
use Rattle.chukwa_run.proofs.Unbegun.{unbegun, caused_nothing}

-- what is said of the command that was asked for
pub of_command : {wanted : Option Asked} (this : Asked) → wanted ≡ Some this → (P : Asked → Type 0) → P this
    → (command : Asked) → wanted ≡ Some command → P command
of_command this is P p command e = subst P (same_Some this command (sym is ∙ e)) p

-- a command's result and its line
pub ends_told : (stamped : List (List ℕ)) (command : Asked) (earlier : History) (result : Result (Unit {0}) Ending) (status : ℕ)
    {old mid : Option History} (new : Option History)
    → Adds old mid (Leads (RunSide stamped command) (Begins stamped earlier) (EndsWith stamped command result earlier))
    → SaysEnding result status mid new
    → Adds old new (Leads (RunSide stamped command) (Begins stamped earlier) (Ends stamped command status earlier))
ends_told stamped command earlier (Ok value) status {old = old} new told says =
    subst (λ (s : ℕ). Adds old new (Leads (RunSide stamped command) (Begins stamped earlier) (Ends stamped command s earlier))) (sym says.0)
    (subst (λ (n : Option History). Adds old n (Leads (RunSide stamped command) (Begins stamped earlier) (Ends stamped command 0 earlier))) (sym says.1)
    (ends_well stamped command earlier told))
ends_told stamped command earlier (Err e) status {old = old} new told says =
    subst (λ (s : ℕ). Adds old new (Leads (RunSide stamped command) (Begins stamped earlier) (Ends stamped command s earlier))) (sym says.0)
    (ends_by_line stamped command earlier e told says.1)

pub ends_caused : (command : Asked) (result : Result (Unit {0}) Ending) (status : ℕ) {old mid : Option History} (new : Option History)
    → Adds old mid (CausedBy command result) → SaysEnding result status mid new → Adds old new (Caused command status)
ends_caused command (Ok value) status {old = old} new told says =
    subst (λ (s : ℕ). Adds old new (Caused command s)) (sym says.0)
    (subst (λ (n : Option History). Adds old n (Caused command 0)) (sym says.1) (caused_well command told))
ends_caused command (Err e) status {old = old} new told says =
    subst (λ (s : ℕ). Adds old new (Caused command s)) (sym says.0) (caused_by_line command e told says.1)

-- ---- without a command

-- there was no memory to read the words
pub unread_told : (stamped : List (List ℕ)) (command : Asked) (earlier : History) (status : ℕ) {old : Option History} (new : Option History)
    → SaysEnding (Err NoMemory) status old new
    → Adds old new (Leads (RunSide stamped command) (Begins stamped earlier) (Ends stamped command status earlier))
unread_told stamped command earlier status {old = old} new says =
    ends_told stamped command earlier (Err NoMemory) status new (unbegun stamped command earlier old) says

pub unread_caused : (command : Asked) (status : ℕ) {old : Option History} (new : Option History)
    → SaysEnding (Err NoMemory) status old new → Adds old new (Caused command status)
unread_caused command status {old = old} new says = ends_caused command (Err NoMemory) status new (caused_nothing command old) says

pub unread_says : (line : List ℕ) (status : ℕ) {old : Option History} (new : Option History) → SaysEnding (Err NoMemory) status old new
    → Adds old new (SaysUsage line status)
unread_says line status new says =
    adds_as (SaysUsage line status) (line_said (ending_line NoMemory) says.1) (λ added history s. inr (says.0, s))

pub usage_says : (line : List ℕ) {old new : Option History} → SaysOnce line old new → Adds old new (SaysUsage line 2)
usage_says line says = adds_as (SaysUsage line 2) (line_said line says) (λ added history s. inl (refl, s))
