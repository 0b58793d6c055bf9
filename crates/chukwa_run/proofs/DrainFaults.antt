-- A bad line of a drain is that of an initial file: where none is named, there is none.
use Rattle.std.proofs.Common.{◌≡◌, ℕ, Bool, true, false, List, Ok, Err, Option, Some, None, Result, refl, ap, sym, ◌∙◌, true≢false}
use Rattle.std.specs.Prelude.{is_some}
use Rattle.chk_bytes.specs.Words.{parts_at}
use Rattle.chk_site.specs.declared.acts.Who.{Who}
use Rattle.chk_site.specs.declared.acts.OutsideFault.{OutsideFault}
use Rattle.chk_site.specs.History.{History}
use Rattle.chk_failover.specs.Turns.{Turns}
use Rattle.chk_agent.specs.declared.agent.Rules.{Rules}
use Rattle.chk_agent.specs.States.{State}
use Rattle.chk_agent_run.specs.declared.faults.RunFault.{RunFault}
use Rattle.chk_agent_run.specs.declared.faults.RunFault.TheVariants as runs
use Rattle.chk_cmd_drain.specs.declared.faults.DrainFault.{DrainFault}
use Rattle.chk_cmd_drain.specs.declared.faults.DrainFault.TheVariants.{Run}
use Rattle.chk_cmd_drain.specs.declared.run.Work.{Work}
use Rattle.chk_cmd_drain.specs.Begins.{Begins}
use Rattle.chk_cmd_drain.specs.Drains.{Finishes, HasDrained, told_as}
use Rattle.chk_cmd_drain.proofs.Finished.{undone_so}
use Rattle.chukwa_run.proofs.AgentFaults.{is_bad, bad_in, text_in, outside_isnt, agent_isnt, no_text, blank_lines}

-- whether it names a line of the initial file
abbrev is_bad_line : DrainFault → Bool
is_bad_line (Run fault) = is_bad fault
is_bad_line fault = false

abbrev bad_drain : Result (Unit {0}) DrainFault → Bool
bad_drain (Ok value) = false
bad_drain (Err fault) = is_bad_line fault

begins_isnt : (who writer : Who) (ring : Turns) (rules : Rules) (initial : Option (List ℕ))
    (result : Result _ RunFault)
    (old new : Option History) → Begins who writer ring rules initial result old new
    → initial ≡ None
    → bad_in result ≡ false
begins_isnt who writer ring rules initial result old new (Begins.unread fault reads) is =
    outside_isnt fault
begins_isnt who writer ring rules initial result old new
    (Begins.unstarted text fault reads quiet) is = agent_isnt fault
begins_isnt who writer ring rules initial result old new
    (Begins.untimed text fault reads started clocked) is =
    agent_isnt fault
begins_isnt who writer ring rules initial result old new
    (Begins.unadded text now fault reads started clocked added) is =
    blank_lines _ _ _ _ _ _ _ added (ap (λ t. parts_at 10 (text_in t)) (no_text _ _ _ _ _ reads is))
begins_isnt who writer ring rules initial result old new
    (Begins.begun text now reads started clocked added) is = refl

told_isnt : (printed : Result (Unit {0}) OutsideFault) → bad_drain (told_as printed) ≡ false
told_isnt (Ok value) = refl
told_isnt (Err fault) = outside_isnt fault

finishes_isnt : (who : Who) (now reads polls : ℕ) (s t : State)
    (result : Result (Unit {0}) DrainFault) (old new : Option History)
    → Finishes who now reads polls s result t old new → bad_drain result ≡ false
finishes_isnt who now reads polls s t result old new Finishes.unbegun = refl
finishes_isnt who now reads polls s t result old new (Finishes.none_live none) = refl
finishes_isnt who now reads polls s t result old new (Finishes.refused fault drains) =
    agent_isnt fault
finishes_isnt who now reads polls s t result old new (Finishes.undone answer fault drains is) =
    undone_so (λ f. is_bad_line f ≡ false) refl (λ stem got want. refl) (λ path n. refl)
    (λ path had size. refl)
    (λ code. refl) t answer fault is
finishes_isnt who now reads polls s t result old new (Finishes.told printed some drains prints) =
    told_isnt printed

pub no_bad_drain : (who writer : Who) (ring : Turns) (rules : Rules) (work : Work)
    (result : Result (Unit {0}) DrainFault)
    (old new : Option History) → HasDrained who writer ring rules work result old new
    → work.initial ≡ None
    → bad_drain result ≡ false
no_bad_drain who writer ring rules work result old new (HasDrained.not_begun fault begins) is =
    begins_isnt _ _ _ _ _ _ _ _ begins is
no_bad_drain who writer ring rules work result old new
    (HasDrained.drained_so b begins finishes) is =
    finishes_isnt _ _ _ _ _ _ _ _ _ finishes

pub has_drain_file : {T : Type 0} (file : Option T) (fault : DrainFault)
    → (file ≡ None → bad_drain (Err fault) ≡ false) → (at : ℕ) → fault ≡ Run (runs.Initial at)
    → is_some file ≡ true
has_drain_file (Some name) fault fine k is = refl
has_drain_file None fault fine k is = absurd (true≢false (sym (ap is_bad_line is) ∙ fine refl))
