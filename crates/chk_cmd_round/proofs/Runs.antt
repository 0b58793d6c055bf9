-- A round and its lines, from a legal history.
use Rattle.std.proofs.Common.{◌≡◌, inl, ℕ, ◌≤◌, Bool, true, false, List, ◌++◌, Option, Some, None, Ok, Err, Result, sym, subst, ap, ◌∙◌, refl, arith, append_assoc}
use Rattle.std.specs.Prelude.{IsTrue, if◌then◌else◌}
use Rattle.chk_site.specs.declared.acts.Who.{Who}
use Rattle.chk_site.specs.declared.acts.OutsideFault.{OutsideFault}
use Rattle.chk_site.specs.declared.acts.OutsideFault.TheVariants.{Outside as site_failed, NoMemory as site_wanting}
use Rattle.chk_site.specs.History.{History, is_stopped, since_start}
use Rattle.chk_site.specs.Site.{Adds, LastFailed, OutsideCause}
use Rattle.chk_site.specs.Runs.{Leads, own_acts}
use Rattle.chk_site.proofs.Runs.{adds_as, adds_both, adds_none, adds_then}
use Rattle.chk_replace.proofs.CallSteps.{script_last}
use Rattle.chk_site.proofs.LastCalls.{last_of_both as last_then}
use Rattle.chk_world.specs.Agents.{AllOfCluster}
use Rattle.chk_world.specs.Checkpoints.{Line}
use Rattle.chk_world.specs.Knowing.{agent}
use Rattle.chk_world.specs.Names.{is_source}
use Rattle.chk_world.specs.Places.{AtTold}
use Rattle.chk_world.specs.Rules.{Legal}
use Rattle.chk_world.specs.Sight.{job}
use Rattle.chk_world.specs.Together.{Together}
use Rattle.chk_agent.specs.States.{lines_of}
use Rattle.chk_archive.specs.Reporting.{report_view}
use Rattle.chk_archive.specs.Reports.{Report}
use Rattle.chk_cmd_output.specs.Printing.{printed}
use Rattle.chk_cmd_output.proofs.Printed.{prints_made, prints_told}
use Rattle.chk_round.specs.declared.faults.RoundFault.{RoundFault}
use Rattle.chk_round.specs.declared.faults.RoundFault.TheVariants.{Outside, NoMemory, Damaged, Length, Growing, Shrank, Spent, Refused, Checkpoint}
use Rattle.chk_round.specs.declared.whole_round.Rounded.{Rounded}
use Rattle.chk_round.specs.Faults.{FailsInside, RoundCause}
use Rattle.chk_round.specs.Following.{HaveLines}
use Rattle.chk_round.specs.Processes.{IsRunOf}
use Rattle.chk_round.specs.Rounded.{AfterRound, RoundTo}
use Rattle.chk_round.specs.Staying.{StaysTo}
use Rattle.chk_round.proofs.Logs.{both_lead, early, ran}
use Rattle.chk_cmd_round.specs.declared.ends.RoundEnd.{RoundEnd}
use Rattle.chk_cmd_round.specs.declared.ends.RoundEnd.TheVariants.{Fault, Unclosed}
use Rattle.chk_cmd_round.specs.Telling.{Tells, cut, told, end_by, is_of_c1, print_end, round_prints}
use Rattle.chk_cmd_round.specs.Running.{AfterRun, EndsByCall, IsAllTold, RunCause, RunsTo, TellsRound}
use Rattle.chk_cmd_round.proofs.Unclosed.{none_open}
use Rattle.chk_cmd_round.proofs.Prints.{Any, BothMay, tells_lead, tells_printed, tells_run}

-- ---- the ends

fault_after : (stamped : List (List ℕ)) (fault : RoundFault) (h : History) → AfterRound stamped (Err fault) h
    → AfterRun stamped (Err (Fault fault)) h
fault_after stamped (Outside call) h x = x
fault_after stamped NoMemory h x = x
fault_after stamped (Damaged name at) h x = x
fault_after stamped (Checkpoint at) h x = x
fault_after stamped (Length stem got want) h x = x
fault_after stamped (Growing path reads) h x = x
fault_after stamped (Shrank path had size) h x = x
fault_after stamped (Spent number) h x = x
fault_after stamped (Refused code) h x = x

print_after : (stamped : List (List ℕ)) (fault : OutsideFault) (h : History) → Legal stamped h → AfterRun stamped (Err (print_end fault)) h
print_after stamped (site_failed call) h x = x
print_after stamped site_wanting h x = x

print_ends : (fault : OutsideFault) → IsAllTold (Err (print_end fault)) → ⊥
print_ends (site_failed call) x = x
print_ends site_wanting x = x

by_after : (stamped : List (List ℕ)) (first : Option (List ℕ)) (h : History) → Legal stamped h → AfterRun stamped (end_by first) h
by_after stamped None h x = x
by_after stamped (Some name) h x = go (is_of_c1 name)
  where
    go : (b : Bool) → AfterRun stamped (if b then Ok tt else Err (Unclosed name)) h
    go true = x
    go false = x

-- ---- what is known behind a round

module _ (stamped : List (List ℕ)) (source : List ℕ) where
  both_may : (r : Rounded) → r.agent.source ≡ source → (h : History) → AfterRound stamped (Ok r) h
      → BothMay stamped source (report_view r.report) h
  both_may r is h x = (
    subst (λ n. AtTold stamped (agent n) Any h) is
        (record { legal = x.0.legal; may_act = x.0.may_act; alive = λ running. tt }),
    record {
      legal = x.1.legal;
      may_act = x.1.may_act;
      alive = λ running. let d = (x.1.alive running).1 in (d.listing, d.last, d.ran);
    },
  )

  -- the lines, and where all were printed, what was
  record TellsTo (started acting : List Who) (r : Rounded) (result : Result (Unit {0}) OutsideFault) (added history : History) : Type 0 where
    leads : Leads (Together stamped started acting) (BothMay stamped source (report_view r.report)) (Legal stamped) added history
    running : result ≡ Ok tt → is_stopped (added ++ history) ≡ false
    printed_is : result ≡ Ok tt
        → printed (own_acts added) ≡ round_prints (agent source) job (lines_of r.agent) (report_view r.report)

  module _ (kind cluster : List ℕ) (logs : List (List ℕ)) (named : IsTrue (is_source source)) (started acting : List Who)
      (run : IsRunOf source started acting) where
    abbrev To : Result (Unit {0}) RoundEnd → History → History → Type 0
    To result = RunsTo stamped started acting source kind cluster logs result

    tells_cut : (r : Rounded) (fault : OutsideFault) {old new : Option History} → TellsRound source r (Err fault) old new
        → Adds old new (TellsTo started acting r (Err fault))
    tells_cut r fault tells =
        adds_as (TellsTo started acting r (Err fault))
        (tells_lead stamped source named started acting run (lines_of r.agent) (report_view r.report) tells)
        (λ added history x. record {
          leads = x;
          running = λ e. absurd (let z : ⊥ = cc in z);
          printed_is = λ e. absurd (let z : ⊥ = cc in z);
        })

    tells_all : (r : Rounded) {old new : Option History} → TellsRound source r (Ok tt) old new
        → Adds old new (TellsTo started acting r (Ok tt))
    tells_all r tells =
        adds_both (TellsTo started acting r (Ok tt))
        (tells_lead stamped source named started acting run (lines_of r.agent) (report_view r.report) tells)
        (adds_both
        (λ added history. (is_stopped (added ++ history) ≡ false)
        × (printed (own_acts added) ≡ round_prints (agent source) job (lines_of r.agent) (report_view r.report)))
        (tells_run tells) (tells_printed tells) (λ added history p q. (p, q)))
        (λ added history x y. record { leads = x; running = λ e. y.0; printed_is = λ e. y.1 })

    -- no call was made
    pub unbegun_to : (now : Option History) → Adds now now (To (Err (Fault NoMemory)))
    unbegun_to now = adds_none now (To (Err (Fault NoMemory))) (λ history. record {
      leads = record { leads = λ others h. h; own = tt };
      running = λ all. absurd all;
      done = λ all. absurd all;
    })

    pub undone_to : (fault : RoundFault) {old new : Option History} → Adds old new (RoundTo stamped started acting source (Err fault))
        → Adds old new (To (Err (Fault fault)))
    undone_to fault ends = adds_as (To (Err (Fault fault))) ends (λ added history x. record {
      leads = record {
        leads = λ others h. fault_after stamped fault (added ++ history) (x.leads.leads others h);
        own = x.leads.own;
      };
      running = λ all. absurd all;
      done = λ all. absurd all;
    })

    leads_both : (r : Rounded) (result : Result (Unit {0}) OutsideFault) (a b history : History)
        → RoundTo stamped started acting source (Ok r) a history
        → TellsTo started acting r result b (a ++ history)
        → Leads (Together stamped started acting) (Legal stamped) (Legal stamped) (b ++ a) history
    leads_both r result a b history x y =
        both_lead (Together stamped started acting) a b history
        (record {
          leads = λ others h. both_may r (x.source_is r refl) (a ++ history) (x.leads.leads others h);
          own = x.leads.own;
        }) y.leads

    module _ (r : Rounded) {old mid new : Option History} (first : Adds old mid (RoundTo stamped started acting source (Ok r))) where
      pub untold_to : (fault : OutsideFault) → TellsRound source r (Err fault) mid new → Adds old new (To (Err (print_end fault)))
      untold_to fault tells =
          adds_then (To (Err (print_end fault))) first (tells_cut r fault tells)
          (λ a b history x y.
          let both = leads_both r (Err fault) a b history x y in
          record {
            leads = record {
              leads = λ others h. print_after stamped fault ((b ++ a) ++ history) (both.leads others h);
              own = both.own;
            };
            running = λ all. absurd (print_ends fault all);
            done = λ all. absurd (print_ends fault all);
          })

      pub ran_to : r.agent.cluster ≡ cluster → HaveLines kind logs (lines_of r.agent)
          → Adds old mid (StaysTo stamped started source kind logs)
          → TellsRound source r (Ok tt) mid new → Adds old new (To (end_by r.report.first_unclosed))
      ran_to same live stays tells =
          adds_then (To (end_by r.report.first_unclosed))
          (adds_both
          (λ a history. RoundTo stamped started acting source (Ok r) a history
          × StaysTo stamped started source kind logs a history) first stays (λ a history x s. (x, s)))
          (tells_all r tells)
          (λ a b history xs y.
          let x = xs.0 in
          let both = leads_both r (Ok tt) a b history x y in
          let running : is_stopped ((b ++ a) ++ history) ≡ false = ap is_stopped (append_assoc b a history) ∙ y.running refl in
          record {
            leads = record {
              leads = λ others h. by_after stamped r.report.first_unclosed ((b ++ a) ++ history) (both.leads others h);
              own = both.own;
            };
            running = λ all. running;
            done = λ all others h.
                let first_others = early stamped started acting b a history others in
                let first_running = ran stamped started acting b a history y.leads running in
                let done = x.done r refl first_others h first_running in
                record {
                  rounded = r;
                  tail = b;
                  body = a;
                  split = refl;
                  done = done;
                  of_cluster = subst (λ n. AllOfCluster n (since_start (agent source) (a ++ history))) same done.one_cluster;
                  live = subst (HaveLines kind logs) (sym done.lines) live;
                  stays = xs.1 first_others h first_running;
                  printed_is = y.printed_is refl
                      ∙ ap (λ (ls : List Line). round_prints (agent source) job ls (report_view r.report)) (sym done.lines);
                  ends = refl;
                  closed = none_open source r a history done;
                  archived = λ e l one live. done.each l one live (none_open source r a history done e);
                };
          })

-- the lines are told by these two processes
pub tells_by : (source : List ℕ) (r : Rounded) (reading archiving : Who) (result : Result (Unit {0}) OutsideFault) {old new : Option History}
    → reading ≡ agent source → archiving ≡ job
    → Tells reading archiving (lines_of r.agent) (report_view r.report) result old new → TellsRound source r result old new
tells_by source r reading archiving result {old = old} {new = new} by by_job tells =
    subst (λ w. Tells (agent source) w (lines_of r.agent) (report_view r.report) result old new) by_job
    (subst (λ w. Tells w archiving (lines_of r.agent) (report_view r.report) result old new) by tells)

-- ---- the last call

pub fault_last : (fault : RoundFault) {old new : Option History} → Adds old new (FailsInside {T = Rounded} (Err fault))
    → Adds old new (EndsByCall (Err (Fault fault)))
fault_last fault last = adds_as (EndsByCall (Err (Fault fault))) last (λ added history x. go fault added history x)
  where
    go : (fault : RoundFault) (added history : History) → FailsInside {T = Rounded} (Err fault) added history
        → EndsByCall (Err (Fault fault)) added history
    go (Outside call) added history x = x
    go NoMemory added history x = x
    go (Damaged name at) added history x = x
    go (Checkpoint at) added history x = x
    go (Length stem got want) added history x = x
    go (Growing path reads) added history x = x
    go (Shrank path had size) added history x = x
    go (Spent number) added history x = x
    go (Refused code) added history x = x

print_late : (fault : OutsideFault) (b a history : History) → LastFailed {T = Unit {0}} (Err fault) b (a ++ history)
    → EndsByCall (Err (print_end fault)) (b ++ a) history
print_late (site_failed call) b a history last =
    λ running. inl (last_then {T = Unit {0}} (Err (site_failed call)) b a history last running)
print_late site_wanting b a history last = tt

tells_last : {reading archiving : Who} {lines : List Line} {r : Report} {fault : OutsideFault} {old new : Option History}
    → Tells reading archiving lines r (Err fault) old new → Adds old new (LastFailed {T = Unit {0}} (Err fault))
tells_last (cut prints) = script_last (prints_made prints)
tells_last {fault = fault} (told first last) =
    adds_then (LastFailed {T = Unit {0}} (Err fault)) (prints_told first) (script_last (prints_made last))
    (λ a b history x y. last_then {T = Unit {0}} (Err fault) b a history y)

pub print_last : (fault : OutsideFault) {P : History → History → Type 0} {reading archiving : Who} {lines : List Line} {r : Report}
    {old mid new : Option History} → Adds old mid P
    → Tells reading archiving lines r (Err fault) mid new → Adds old new (EndsByCall (Err (print_end fault)))
print_last fault first tells =
    adds_then (EndsByCall (Err (print_end fault))) first (tells_last tells) (λ a b history x y. print_late fault b a history y)

pub all_last : (o : Option (List ℕ)) {P Q : History → History → Type 0} {old mid new : Option History} → Adds old mid P → Adds mid new Q
    → Adds old new (EndsByCall (end_by o))
all_last o first second = adds_then (EndsByCall (end_by o)) first second (λ a b history x y. go o (b ++ a) history)
  where
    go : (o : Option (List ℕ)) (added history : History) → EndsByCall (end_by o) added history
    go None added history = tt
    go (Some name) added history = by (is_of_c1 name)
      where
        by : (b : Bool) → EndsByCall (if b then Ok tt else Err (Unclosed name)) added history
        by true = tt
        by false = tt

-- ---- the count

pub fault_cause : (before now : ℕ) (fault : RoundFault) → RoundCause {T = Rounded} before now (Err fault)
    → RunCause before now (Err (Fault fault))
fault_cause before now (Outside call) x = x
fault_cause before now NoMemory x = x
fault_cause before now (Damaged name at) x = x
fault_cause before now (Checkpoint at) x = x
fault_cause before now (Length stem got want) x = x
fault_cause before now (Growing path reads) x = x
fault_cause before now (Shrank path had size) x = x
fault_cause before now (Spent number) x = x
fault_cause before now (Refused code) x = x

pub print_cause : (before mid now : ℕ) (fault : OutsideFault) → before ≤ mid → OutsideCause {T = Unit {0}} mid now (Err fault)
    → RunCause before now (Err (print_end fault))
print_cause before mid now (site_failed call) le cause =
    let rose = cause.0 in let on = cause.1 in (omega (arith, le, rose, on), omega (arith, le, on))
print_cause before mid now site_wanting le cause = omega (arith, le, cause)

pub by_cause : (before mid now : ℕ) (first : Option (List ℕ)) → before ≤ mid → now ≡ mid → RunCause before now (end_by first)
by_cause before mid now None le same = omega (arith, le, same)
by_cause before mid now (Some name) le same = go (is_of_c1 name)
  where
    go : (b : Bool) → RunCause before now (if b then Ok tt else Err (Unclosed name))
    go true = omega (arith, le, same)
    go false = omega (arith, le, same)
