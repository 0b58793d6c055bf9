-- A bad line is that of an initial file: where none is named, there is none.
use Rattle.std.proofs.Common.{◌≡◌, ℕ, Bool, true, false, List, [], ◌∷◌, Ok, Err, Some, None, Option, Result, refl, sym, ◌∙◌, ap, subst, true≢false, arith}
use Rattle.std.specs.Prelude.{is_some}
use Rattle.chk_bytes.specs.Words.{parts_at}
use Rattle.chk_control.specs.declared.commands.Command.TheVariants.{Blank}
use Rattle.chk_control.specs.Lines.{Meaning, meaning_of, meaning_of_words}
use Rattle.chk_control.proofs.SpacedLemmas.{meaning_of_spaced}
use Rattle.chk_site.specs.declared.acts.Who.{Who}
use Rattle.chk_site.specs.declared.acts.OutsideFault.{OutsideFault}
use Rattle.chk_site.specs.declared.acts.OutsideFault.TheVariants as site_faults
use Rattle.chk_site.specs.History.{History}
use Rattle.chk_failover.specs.Turns.{Turns}
use Rattle.chk_agent.specs.declared.agent.Rules.{Rules}
use Rattle.chk_agent.specs.declared.answers.AgentFault.{AgentFault}
use Rattle.chk_agent.specs.declared.answers.AgentFault.TheVariants as agent_faults
use Rattle.chk_agent.specs.States.{State}
use Rattle.chk_agent_run.specs.declared.faults.RunFault.{RunFault}
use Rattle.chk_agent_run.specs.declared.faults.RunFault.TheVariants as runs
use Rattle.chk_agent_run.specs.declared.run.Work.{Work}
use Rattle.chk_agent_run.specs.declared.turn.Ended.{Ended}
use Rattle.chk_agent_run.specs.Faults.{fault_of, outside_fault}
use Rattle.chk_agent_run.specs.Initial.{ReadsInitial, no_file, read, is_met, IsLineAdded, AreAdded}
use Rattle.chk_agent_run.specs.Runs.{HasRun, unread, unstarted, unadded, ran, ended_as}

abbrev pub is_bad : RunFault → Bool
is_bad (runs.Initial at) = true
is_bad fault = false

abbrev pub bad_in : {T : Type 0} → Result T RunFault → Bool
bad_in (Ok value) = false
bad_in (Err fault) = is_bad fault

pub outside_isnt : (fault : OutsideFault) → is_bad (outside_fault fault) ≡ false
outside_isnt (site_faults.Outside call) = refl
outside_isnt site_faults.NoMemory = refl

pub agent_isnt : (fault : AgentFault) → is_bad (fault_of fault) ≡ false
agent_isnt (agent_faults.Damaged at) = refl
agent_isnt (agent_faults.Outside call) = refl
agent_isnt agent_faults.NoMemory = refl

ended_isnt : (result : Result Ended AgentFault) → bad_in (ended_as result) ≡ false
ended_isnt (Ok end) = refl
ended_isnt (Err fault) = agent_isnt fault

pub no_text : (writer : Who) (file : Option (List ℕ)) (result : Result (List ℕ) OutsideFault) (old new : Option History)
    → ReadsInitial writer file result old new → file ≡ None → result ≡ Ok []
no_text writer file result old new no_file is = refl
no_text writer file result old new (read name given script) is = absurd (cc)

-- nothing stands in no lines, and a blank line is skipped
none_bad : (at : ℕ) (lines : List (List ℕ)) (s t : State) (result : Result (Unit {0}) RunFault) (old new : Option History)
    → AreAdded at lines s result t old new → lines ≡ [] → bad_in result ≡ false
none_bad at lines s t result old new AreAdded.all_added is = refl
none_bad at lines s t result old new (AreAdded.on added rest) is = absurd (cc)
none_bad at lines s t result old new (AreAdded.bad added) is = absurd (cc)
none_bad at lines s t result old new (AreAdded.failed fault added) is = absurd (cc)

blank : meaning_of [] ≡ Ok Blank
unfolding meaning_of_words
blank = meaning_of_spaced [] refl (omega arith)

blank_added : (line : List ℕ) (s t : State) (result : Result Bool AgentFault) (old new : Option History)
    → IsLineAdded line s result t old new → line ≡ [] → result ≡ Ok false → ⊥
blank_added line s t result old new (IsLineAdded.skipped met) is bad = absurd (cc)
blank_added line s t result old new (IsLineAdded.no_add unmet other) is bad =
    true≢false (subst (λ (m : Meaning). is_met s m ≡ false) (ap meaning_of is ∙ blank) unmet)
blank_added line s t result old new (IsLineAdded.accepted reply unmet adds made met) is bad = absurd (cc)
blank_added line s t result old new (IsLineAdded.refused n unmet adds made) is bad =
    true≢false (subst (λ (m : Meaning). is_met s m ≡ false) (ap meaning_of is ∙ blank) unmet)
blank_added line s t result old new (IsLineAdded.failed fault unmet adds made) is bad = absurd (cc)
blank_added line s t result old new IsLineAdded.wanting is bad = absurd (cc)

abbrev rest_of : List (List ℕ) → List (List ℕ)
rest_of [] = []
rest_of (line ∷ lines) = lines

abbrev first_of : List (List ℕ) → List ℕ
first_of [] = []
first_of (line ∷ lines) = line

pub blank_lines : (at : ℕ) (lines : List (List ℕ)) (s t : State) (result : Result (Unit {0}) RunFault) (old new : Option History)
    → AreAdded at lines s result t old new → lines ≡ [] ∷ [] → bad_in result ≡ false
blank_lines at lines s t result old new AreAdded.all_added is = absurd (cc)
blank_lines at lines s t result old new (AreAdded.on added rest) is =
    none_bad _ _ _ _ _ _ _ rest (ap rest_of is)
blank_lines at lines s t result old new (AreAdded.bad added) is =
    absurd (blank_added _ _ _ _ _ _ added (ap first_of is) refl)
blank_lines at lines s t result old new (AreAdded.failed fault added) is = agent_isnt fault

abbrev pub text_in : Result (List ℕ) OutsideFault → List ℕ
text_in (Ok text) = text
text_in (Err fault) = []

pub no_bad_line : (who writer : Who) (ring : Turns) (rules : Rules) (work : Work) (result : Result Ended RunFault) (old new : Option History)
    → HasRun who writer ring rules work result old new → work.initial ≡ None → bad_in result ≡ false
no_bad_line who writer ring rules work result old new (unread fault reads) is = outside_isnt fault
no_bad_line who writer ring rules work result old new (unstarted text fault reads quiet) is = agent_isnt fault
no_bad_line who writer ring rules work result old new (unadded text fault reads started added) is =
    let empty : text ≡ [] = ap text_in (no_text _ _ _ _ _ reads is) in
    blank_lines _ _ _ _ _ _ _ added (ap (parts_at 10) empty)
no_bad_line who writer ring rules work result old new (ran text ended reads started added turns) is = ended_isnt ended

pub has_file : {T : Type 0} (file : Option T) (fault : RunFault) → (file ≡ None → is_bad fault ≡ false) → (at : ℕ)
    → fault ≡ runs.Initial at → is_some file ≡ true
has_file (Some name) fault fine k is = refl
has_file None fault fine k is = absurd (true≢false (sym (ap is_bad is) ∙ fine refl))
