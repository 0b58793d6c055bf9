-- A join, and the line that is printed behind it.
use Rattle.std.specs.Prelude.{IfErr}
use Rattle.std.proofs.Common.{◌≡◌, inl, inr, ℕ, false, List, [], ◌∷◌, ◌++◌, Option, Ok, Err, Result, refl, ap, sym, subst, ◌∙◌, append_assoc}
use Rattle.chk_site.specs.declared.acts.OutsideFault.{OutsideFault}
use Rattle.chk_site.specs.declared.acts.OutsideFault.TheVariants.{Outside as site_failed, NoMemory as no_memory}
use Rattle.chk_site.specs.declared.acts.Call.{Call}
use Rattle.chk_site.specs.declared.acts.Call.TheVariants.{Say}
use Rattle.chk_site.specs.declared.acts.CallFault.{CallFault}
use Rattle.chk_site.specs.declared.acts.CallFault.TheVariants.{Failed, Missing, Exists, Short, NoMemory as no_room}
use Rattle.chk_site.specs.declared.acts.Who.{Who}
use Rattle.chk_site.specs.Files.{Files}
use Rattle.chk_site.specs.History.{History, Every, Others, files_after, is_stopped}
use Rattle.chk_site.specs.Site.{Adds, Ends, OutsideCause}
use Rattle.chk_site.specs.Runs.{Leads, anyhow, own_acts}
use Rattle.chk_site.proofs.Runs.{adds_as, adds_both, adds_then, every_join}
use Rattle.chk_site.proofs.Leads.{leads_then}
use Rattle.chk_site.proofs.LastCalls.{last_of_both as last_then}
use Rattle.chk_replace.proofs.CallSteps.{script_last}
use Rattle.chk_world.specs.Rules.{Legal}
use Rattle.chk_world.specs.Places.{As}
use Rattle.chk_world.specs.Sight.{job}
use Rattle.chk_world.specs.JobSteps.{IsOf}
use Rattle.chk_record_index.specs.declared.fault.JobFault.TheVariants as Jobs
use Rattle.chk_record_reader.specs.Segments.{HasFiles, AreSettled}
use Rattle.chk_record_reader.proofs.AllRead.{adds_all}
use Rattle.chk_archive_parts.proofs.StepKinds.{as_kind}
use Rattle.chk_join.specs.Faults.{JoinsBy, JoinFailsLast, JoinCause, IsJoinFault}
use Rattle.chk_join.specs.Joined.{reads_of, LeavesFolders, Joined, Kept}
use Rattle.chk_join.specs.Publishing.{EndsLegally}
use Rattle.chk_join.specs.declared.report.JoinReport.{JoinReport}
use Rattle.chk_join.specs.declared.fault.JoinFault.{JoinFault}
use Rattle.chk_join.specs.declared.fault.JoinFault.TheVariants.{Job, NoMemory}
use Rattle.chk_cmd_output.specs.Printing.{all_printed, unprinted, printed_on, ended, PrintsInTurn, Print, printed}
use Rattle.chk_cmd_output.proofs.Printed.{prints_made, prints_told, prints_join, prints_run}
use Rattle.chk_cmd_join.specs.Telling.{run_line, tell_fault, printed_result, PrintsReport, IsTold, JoinsAndTells, EndsRunning, Tells, IsAnswerOf, LeftByJoin, ShowsJoin, says}
use Rattle.chk_cmd_output.proofs.AtMost.{at_most}
use Rattle.chk_cmd_join.proofs.CallKinds.{join_silent, of_join, of_print}
use Rattle.chk_cmd_join.proofs.Lines.{join_is_no_report}
use Rattle.chk_cmd_join.proofs.Prints.{prints_lead}
use Rattle.chk_cmd_output.proofs.CallKinds.{prints_own}

-- ---- what a join leaves, from the files that stood there

abbrev pub JoinLeft : List ℕ → List ℕ → Result JoinReport JoinFault → History → History → Type 0
JoinLeft left right result added history =
    AreSettled (reads_of (files_after history) left right) (files_after history)
    → Others (LeavesFolders left right) added history
    → LeftByJoin left right (files_after history) result (added ++ history)

abbrev Start : List ℕ → List ℕ → Type 0
Start left right = (held : Files) × AreSettled (reads_of held left right) held

abbrev Both : List ℕ → List ℕ → Result JoinReport JoinFault → Files → History → History → Type 0
Both left right result held added history =
    Leads (anyhow (LeavesFolders left right)) (HasFiles (reads_of held left right) held)
    (Joined held left right result)
    added history
    × Leads (anyhow (LeavesFolders left right)) (HasFiles (reads_of held left right) held)
    (Kept held left right result)
    added history

module _ (left right : List ℕ) (result : Result JoinReport JoinFault)
    {old new : Option History} where
  pub join_left : Adds old new (Every (IsOf JoinsBy))
      → ((held : Files) → AreSettled (reads_of held left right) held → Adds old new
      (Leads (anyhow (LeavesFolders left right)) (HasFiles (reads_of held left right) held)
      (Joined held left right result)))
      → ((held : Files) → AreSettled (reads_of held left right) held → Adds old new
      (Leads (anyhow (LeavesFolders left right)) (HasFiles (reads_of held left right) held)
      (Kept held left right result)))
      → Adds old new (JoinLeft left right result)
  join_left own raw kept =
      adds_all {X = Start left right} {Q = λ x. Both left right result x.0}
      (JoinLeft left right result) own
      (λ x. adds_both (Both left right result x.0) (raw x.0 x.1) (kept x.0 x.1)
      (λ added history p q. (p, q)))
      (λ added history p each settled others.
      let x = each (files_after history, settled) in
      record { joined = x.0.leads others (λ w is. refl); kept = x.1.leads others (λ w is. refl) })

  -- nothing was printed behind it
  pub shows_refused : (fault : JoinFault) → result ≡ Err fault
      → Adds old new (JoinLeft left right result)
      → Adds old new (ShowsJoin left right result)
  shows_refused fault is told =
      adds_as (ShowsJoin left right result) told
      (λ added history x. record {
        tail = [];
        body = added;
        is = refl;
        done = result;
        answer = subst (IsAnswerOf result) (sym is) (inl is);
        only_prints = tt;
        left_so = x;
      })

-- ---- a join that left this report, and then its line

-- the call of a fault, or this one
abbrev call_in : Call → OutsideFault → Call
call_in d (site_failed call) = call
call_in d no_memory = d

same_call : (a b : Call) → site_failed a ≡ site_failed b → a ≡ b
same_call a b is = ap (call_in a) is

-- the fault of a result, or this one
abbrev fault_in : OutsideFault → Result (Unit {0}) OutsideFault → OutsideFault
fault_in d (Ok value) = d
fault_in d (Err fault) = fault

ends_say : (given : Result (Unit {0}) CallFault) (call : Call) → Ends Say given (site_failed call)
    → call ≡ Say
ends_say (Ok value) call ends = absurd ends
ends_say (Err Failed) call ends = same_call call Say ends
ends_say (Err Missing) call ends = absurd ends
ends_say (Err Exists) call ends = absurd ends
ends_say (Err (Short size)) call ends = absurd ends
ends_say (Err no_room) call ends = absurd (cc)

-- what fails in a print is the print
said_say : {who : Who} {lines : List (List ℕ)} {said : Result
    (Unit {0}) OutsideFault} {old new : Option History}
    → PrintsInTurn who lines said old new → (call : Call) → said ≡ Err (site_failed call) → call
    ≡ Say
said_say all_printed call is = absurd (cc)
said_say unprinted call is = absurd (cc)
said_say (printed_on one told rest) call is = said_say rest call is
said_say (ended {fault = fault} given one ends told) call is =
    ends_say given call (subst (Ends Say given) (ap (fault_in fault) is) ends)

answer_of : (r : JoinReport) (said : Result (Unit {0}) OutsideFault)
    → ((call : Call) → said ≡ Err (site_failed call) → call ≡ Say)
    → IsAnswerOf (Ok r) (printed_result r said)
answer_of r (Ok value) by_say = refl
answer_of r (Err (site_failed call)) by_say = inr (r, (refl, by_say call refl))
answer_of r (Err no_memory) by_say = inr (r, (refl, tt))

module _ (r : JoinReport) {old mid new : Option History}
    (own : Adds old mid (Every (IsOf JoinsBy))) where
  silent : (said : Result (Unit {0}) OutsideFault) (fault : JoinFault)
      → PrintsInTurn job (run_line r ∷ []) said mid new
      → Adds old new (IsTold (Err fault))
  silent said fault prints =
      adds_then (IsTold (Err fault)) (join_silent own) (at_most prints)
      (λ a b history p q.
      let all : printed (own_acts (b ++ a)) ≡ printed (own_acts b) =
      prints_join b a ∙ ap (λ (x : List Print). x ++ printed (own_acts b)) p in
      elim q [ inl none ↦ inl (all ∙ none) | inr one ↦ inr (r, all ∙ one) ])

  told_of : (said : Result (Unit {0}) OutsideFault)
      → PrintsInTurn job (run_line r ∷ []) said mid new
      → Adds old new (IsTold (printed_result r said))
  told_of (Ok value) prints =
      adds_then (IsTold (Ok r)) (join_silent own) (prints_told prints)
      (λ a b history p q. prints_join b a ∙ (ap (λ (x : List Print). x ++ printed (own_acts b)) p
      ∙ q))
  told_of (Err (site_failed call)) prints = silent (Err (site_failed call))
      (Job (Jobs.Outside call)) prints
  told_of (Err no_memory) prints = silent (Err no_memory) NoMemory prints

  runs_of : (said : Result (Unit {0}) OutsideFault)
      → PrintsInTurn job (run_line r ∷ []) said mid new
      → Adds old new (EndsRunning (printed_result r said))
  runs_of (Ok value) prints =
      adds_then (EndsRunning (Ok r)) own (prints_run prints)
      (λ a b history p q. subst (λ (h : History). is_stopped h ≡ false)
      (sym (append_assoc b a history)) q)
  runs_of (Err (site_failed call)) prints =
      adds_as (λ added history. Unit {0}) (silent (Err (site_failed call)) NoMemory prints)
      (λ added history k. tt)
  runs_of (Err no_memory) prints =
      adds_as (λ added history. Unit {0}) (silent (Err no_memory) NoMemory prints)
      (λ added history k. tt)

  last_of : (said : Result (Unit {0}) OutsideFault)
      → PrintsInTurn job (run_line r ∷ []) said mid new
      → Adds old new (JoinFailsLast (printed_result r said))
  last_of (Ok value) prints =
      adds_then (JoinFailsLast (Ok r)) own (prints_own Tells says prints) (λ a b history p q. tt)
  last_of (Err (site_failed call)) prints =
      adds_then (JoinFailsLast {T = JoinReport} (Err (Job (Jobs.Outside call)))) own
      (script_last (prints_made prints))
      (λ a b history p q. last_then {T = Unit {0}} (Err (site_failed call)) b a history q)
  last_of (Err no_memory) prints =
      adds_then (JoinFailsLast {T = JoinReport} (Err NoMemory)) own (prints_own Tells says prints)
      (λ a b history p q. tt)

only_of : (r : JoinReport) (said : Result (Unit {0}) OutsideFault)
    → IfErr (printed_result r said) IsJoinFault
only_of r (Ok value) = tt
only_of r (Err (site_failed call)) = tt
only_of r (Err no_memory) = tt

module _ (who : Who) (by_job : who ≡ job) (r : JoinReport) (result : Result JoinReport JoinFault)
    {old mid new : Option History} (own : Adds old mid (Every (IsOf JoinsBy)))
    (given : PrintsReport who r result mid new) where
  abbrev said : Result (Unit {0}) OutsideFault
  said = given.0

  abbrev prints : PrintsInTurn job (run_line r ∷ []) said mid new
  prints = subst (λ (w : Who). PrintsInTurn w (run_line r ∷ []) said mid new) by_job given.1.1

  pub told_both : (stamped : List (List ℕ))
      → Adds old mid (Leads (As stamped job) (Legal stamped)
      (EndsLegally {T = JoinReport} {F = JoinFault} stamped (Ok r)))
      → Adds old new (Leads (As stamped job) (Legal stamped) (Legal stamped))
  told_both stamped told =
      leads_then told (prints_lead stamped (join_is_no_report r.streams r.bytes, tt) prints)

  pub own_both : Adds old new (Every (IsOf JoinsAndTells))
  own_both =
      adds_then (Every (IsOf JoinsAndTells)) (as_kind JoinsBy JoinsAndTells of_join own)
      (as_kind Tells JoinsAndTells of_print (prints_own Tells says prints))
      (λ a b history p q. every_join (IsOf JoinsAndTells) b a history p q)

  pub shows_both : (left right : List ℕ) → Adds old mid (JoinLeft left right (Ok r))
      → Adds old new (ShowsJoin left right result)
  shows_both left right told =
      adds_then (ShowsJoin left right result) told (prints_own Tells says prints)
      (λ a b history x p. record {
        tail = b;
        body = a;
        is = refl;
        done = Ok r;
        answer = subst (IsAnswerOf (Ok r)) (sym given.1.0)
            (answer_of r said (λ call is. said_say prints call is));
        only_prints = p;
        left_so = x;
      })

  pub prints_both : Adds old new (IsTold result)
  prints_both = subst (λ x. Adds old new (IsTold x)) (sym given.1.0) (told_of r own said prints)

  pub runs_both : Adds old new (EndsRunning result)
  runs_both = subst (λ x. Adds old new (EndsRunning x)) (sym given.1.0) (runs_of r own said prints)

  pub last_both : Adds old new (JoinFailsLast result)
  last_both = subst (λ x. Adds old new (JoinFailsLast x)) (sym given.1.0)
      (last_of r own said prints)

  pub only_both : IfErr result IsJoinFault
  only_both = subst (λ x. IfErr x IsJoinFault) (sym given.1.0) (only_of r said)

-- ---- a join that was refused

pub legal_refused : (stamped : List (List ℕ)) (fault : JoinFault) {old new : Option History}
    → Adds old new (Leads (As stamped job) (Legal stamped)
    (EndsLegally {T = JoinReport} {F = JoinFault} stamped (Err fault)))
    → Adds old new (Leads (As stamped job) (Legal stamped) (Legal stamped))
legal_refused stamped fault told = told

-- ---- the fault of a print

-- the answer of a join that was refused so
abbrev refused : JoinFault → Result JoinReport JoinFault
refused e = Err e

pub same_refusal : (fault : OutsideFault) (e : JoinFault) → e ≡ tell_fault fault → refused e
    ≡ refused (tell_fault fault)
same_refusal fault e is = ap refused is

pub tell_cause : (fault : OutsideFault) (before now : ℕ)
    → OutsideCause {T = Unit {0}} before now (Err fault)
    → JoinCause {T = JoinReport} before now (Err (tell_fault fault))
tell_cause (site_failed call) before now cause = cause
tell_cause no_memory before now cause = cause
