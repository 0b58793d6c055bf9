-- The program's steps as a writer obey its rule.
use Rattle.std.proofs.Common.{◌≡◌, ℕ, false, List, [], ◌∷◌, Option, refl, sym, subst, arith}
use Rattle.std.specs.Prelude.{Contains, IsTrue}
use Rattle.std.proofs.lemmas.List.Elements.{Contains-append_right}
use Rattle.chk_site.specs.declared.acts.Who.{Who}
use Rattle.chk_site.specs.declared.acts.Call.TheVariants.{Say}
use Rattle.chk_site.specs.declared.acts.ActAnswer.{ActAnswer}
use Rattle.chk_site.specs.declared.acts.ActAnswer.TheVariants.{Refused, Stopped}
use Rattle.chk_site.specs.Files.{Files}
use Rattle.chk_site.specs.Logs.{Logs}
use Rattle.chk_site.specs.Acts.{Deed, Says, Reads, deed}
use Rattle.chk_site.specs.History.{Step, History, is_stopped, files_after, logs_after}
use Rattle.chk_site.specs.Honest.{Honest}
use Rattle.chk_site.specs.Site.{Adds, asked, own_step, plain}
use Rattle.chk_site.specs.Runs.{Leads}
use Rattle.chk_site.proofs.Leads.{any_leads, leads_none}
use Rattle.chk_world.specs.Rules.{Legal, Obeys, StartsAfterStop, Framed, OnlyWritersGrowLogs, OnlyAgentsPost, WriterRule, RoleMay, is_named_so}
use Rattle.chk_cmd_line.specs.Commands.{Asked}
use Rattle.chukwa_run.specs.Processes.{acting_first, acting_for, RunSide}
use Rattle.chk_cmd_load.specs.Processes.{chukwa}
use Rattle.chukwa_run.specs.Saying.{SaysOnce, unsaid, said}

-- a call that a writer may always make
abbrev pub IsHarmless : Deed → Type 0
IsHarmless (Says text) = Unit {0}
IsHarmless (Reads name at max) = Unit {0}
IsHarmless call = ⊥

-- what the rules ask of a call of the writer but that it is honest
record MayDo (before : History) (answer : ActAnswer) (call : Deed) : Type 0 where
  starts : StartsAfterStop chukwa before call
  framed : Framed chukwa (files_after before) call
  logs : OnlyWritersGrowLogs chukwa.role call
  requests : OnlyAgentsPost chukwa.role call
  rule : WriterRule (files_after before) (logs_after before) call answer

may_do : (before : History) (answer : ActAnswer) (call : Deed) → IsHarmless call → MayDo before answer call
may_do before answer (Says text) is = record { starts = refl; framed = tt; logs = tt; requests = tt; rule = tt }
may_do before answer (Reads name at max) is = record { starts = refl; framed = tt; logs = tt; requests = tt; rule = tt }
may_do before answer call is = elim is [ ]

-- an honest step of the writer that says something or reads a file
pub writer_obeys : (stamped : List (List ℕ)) (before : History) (step : Step) → step.act.who ≡ chukwa
    → IsHarmless (deed step.act) → Honest before step → Obeys stamped before step
writer_obeys stamped before step by is honest =
    let may = may_do before step.act.answer (deed step.act) is in
    record {
      honest = honest;
      named = subst (λ (w : Who). IsTrue (is_named_so w.role w.name)) (sym by) refl;
      starts = subst (λ (w : Who). StartsAfterStop w before (deed step.act)) (sym by) may.starts;
      own_files = subst (λ (w : Who). Framed w (files_after before) (deed step.act)) (sym by) may.framed;
      logs = subst (λ (w : Who). OnlyWritersGrowLogs w.role (deed step.act)) (sym by) may.logs;
      requests = subst (λ (w : Who). OnlyAgentsPost w.role (deed step.act)) (sym by) may.requests;
      rule = subst (λ (w : Who). RoleMay stamped w.role before step) (sym by) may.rule;
    }

pub chukwa_acts : (command : Asked) → Contains (acting_for command) chukwa
chukwa_acts command = Contains-append_right (acting_first command) (chukwa ∷ []) chukwa (0, omega arith, refl)

-- a line that is said leaves a legal history legal
pub say_legal : (stamped : List (List ℕ)) (command : Asked) (line : List ℕ) {old new : Option History}
    → SaysOnce line old new → Adds old new (Leads (RunSide stamped command) (Legal stamped) (Legal stamped))
say_legal stamped command line (unsaid {now = now}) = leads_none now (λ h legal. legal)
say_legal stamped command line (said given told) =
    any_leads (Legal stamped) plain given
    (λ before answer files logs running. record { one = chukwa_acts command; running = running })
    (λ before step theirs outside legal. (legal, outside.obeys))
    (λ value. says (plain value)) (λ fault. says (Refused fault)) (λ left. says (Stopped left))
    (λ before legal. legal) told
  where
    says : (answer : ActAnswer) (before : History) (files : Files) (logs : Logs) → is_stopped before ≡ false
        → Honest before (own_step (asked chukwa Say (line ∷ []) 0 0) answer files logs) → Legal stamped before
        → Legal stamped (own_step (asked chukwa Say (line ∷ []) 0 0) answer files logs ∷ before)
    says answer before files logs running honest legal =
        (legal, writer_obeys stamped before (own_step (asked chukwa Say (line ∷ []) 0 0) answer files logs) refl tt honest)
