-- The start, the turns and the end.
use Rattle.std.proofs.Common.{◌≡◌, ℕ, List, Option, Result, Ok, Err, ap, sym, subst, refl}
use Rattle.std.specs.Prelude.{Contains, IfErr}
use Rattle.chk_site.specs.declared.acts.Role.TheVariants.{Collector}
use Rattle.chk_site.specs.declared.acts.Who.{Who}
use Rattle.chk_site.specs.History.{History}
use Rattle.chk_site.specs.Runs.{Leads, Owns}
use Rattle.chk_site.specs.Site.{Adds}
use Rattle.chk_site.proofs.Leads.{leads_then, leads_as}
use Rattle.chk_site.proofs.Runs.{adds_as}
use Rattle.chk_world.specs.Places.{As, Foreign, Talking, IsBy, IsMadeBy, AtTold}
use Rattle.chk_world.specs.Rules.{Legal}
use Rattle.chk_world.specs.Together.{Outside, IsByOne, Together}
use Rattle.chk_world.proofs.Beside.{others_foreign, owns_as, made_one}
use Rattle.chk_sink.specs.declared.fault.SinkFault.{SinkFault}
use Rattle.chk_sink.specs.declared.fault.SinkFault.TheVariants.{Outside as failed, Damaged, Spent, NoMemory}
use Rattle.chk_sink.specs.Closes.{IsOfTick}
use Rattle.chk_sink.specs.Held.{Holds, Matches}
use Rattle.chk_sink.specs.Starts.{IsFresh, Started, IsLastStart}
use Rattle.chk_sink.specs.States.{State, process}
use Rattle.chk_collector.specs.Finishing.{finished, Finished}
use Rattle.chk_collector_run.specs.Legality.{ChainEnds, Finds}
use Rattle.chk_collector_run.specs.Runs.{Collected}
use Rattle.chk_collector_run.proofs.SettledSinks.{none_open}
use Rattle.chk_collector_run.proofs.Talking.{talking_as}

-- ---- the process

pub who_is : (who : Who) (ms : ℕ) (s : State) → who.role ≡ Collector → IsFresh who ms s
    → who ≡ process s
who_is who ms s role fresh = λ i. record { role = role i; name = (sym fresh.collector) i }

-- each own step is by it and leaves the messages alone
pub made_quiet : {stamped : List (List ℕ)} {who : Who} {A B : History
    → Type 0} {old new : Option History}
    → Adds old new (Leads (As stamped who) A B) → Adds old new (Owns (IsBy who))
made_quiet {who = who} told = adds_as (Owns (IsBy who)) told (λ a h x. x.own)

-- ---- what the history is behind each exit

pub unstarted_ends : (stamped : List (List ℕ)) (who : Who) (fault : SinkFault) (h : History)
    → Started stamped who (Err fault) h
    → Collected stamped who (Err fault) h
unstarted_ends stamped who (failed call) h x = x
unstarted_ends stamped who (Damaged name at) h x = x
unstarted_ends stamped who (Spent born) h x = x
unstarted_ends stamped who NoMemory h x = x

chain_ends : (stamped : List (List ℕ)) (s : State) (fault : SinkFault) → IsOfTick fault
    → (h : History)
    → ChainEnds stamped s (Err fault) h → Collected stamped (process s) (Err fault) h
chain_ends stamped s (failed call) of h x = x.legal
chain_ends stamped s (Damaged name at) of h x = x
chain_ends stamped s (Spent born) of h x = absurd of
chain_ends stamped s NoMemory of h x = x.legal

finish_ends : (stamped : List (List ℕ)) (s t : State) (result : Result (Unit {0}) SinkFault)
    → IfErr result IsOfTick
    → (result ≡ Ok tt → t ≡ finished s) → (h : History) → Finished stamped s t result h
    → Collected stamped (process t) result h
finish_ends stamped s t (Ok value) of is h x = record {
  legal = x.legal;
  may_act = x.may_act;
  alive = λ r.
      none_open stamped t h x.legal (x.alive r).holds (ap (λ (k : State). k.abandoned) (is refl))
      (ap (λ (k : State). k.current) (is refl));
}
finish_ends stamped s t (Err (failed call)) of is h x = x.legal
finish_ends stamped s t (Err (Damaged name at)) of is h x =
    record { legal = x.legal; may_act = x.may_act; alive = λ r. (x.alive r).sound name at refl }
finish_ends stamped s t (Err (Spent born)) of is h x = absurd of
finish_ends stamped s t (Err NoMemory) of is h x = x.legal

-- a tick finds no number spent
pub last_start : (result : Result (Unit {0}) SinkFault) → IfErr result IsOfTick → IsLastStart result
last_start (Ok value) of = tt
last_start (Err (failed call)) of = tt
last_start (Err (Damaged name at)) of = tt
last_start (Err (Spent born)) of = absurd of
last_start (Err NoMemory) of = tt

-- ---- the parts, one after another

module _ (stamped : List (List ℕ)) (who : Who) where
  abbrev pub Runs : (History → Type 0) → Option History → Option History → Type 0
  Runs B old new = Adds old new (Leads (Talking stamped who) (Legal stamped) B)

  pub started_told : (s : State) → who ≡ process s → {old new : Option History}
      → Adds old new (Leads (As stamped who) (Legal stamped) (AtTold stamped who (Holds s)))
      → Runs (Matches stamped s) old new
  started_told s is told =
      leads_as (λ h x. x) (λ h x. subst (λ w. AtTold stamped w (Holds s) h) is x) (talking_as who
      stamped told)

  pub unstarted_told : (fault : SinkFault) {old new : Option History}
      → Adds old new (Leads (As stamped who) (Legal stamped) (Started stamped who (Err fault)))
      → Runs (Collected stamped who (Err fault)) old new
  unstarted_told fault told = leads_as (λ h x. x) (unstarted_ends stamped who fault) (talking_as
      who stamped told)

  pub cut_ran : (s t : State) → who ≡ process t → (fault : SinkFault) → IsOfTick fault
      → {old mid new : Option History}
      → Runs (Matches stamped s) old mid
      → Adds mid new (Leads (Talking stamped who) (Matches stamped s) (ChainEnds stamped t (Err
      fault)))
      → Runs (Collected stamped who (Err fault)) old new
  cut_ran s t is fault of start chain =
      leads_then start
      (leads_as (λ h x. x) (λ h x. subst (λ w. Collected stamped w (Err fault) h) (sym is)
      (chain_ends stamped t fault of h x)) chain)

  pub all_ran : (s t u : State) (to_t : who ≡ process t) (to_u : who ≡ process u) (result : Result
      (Unit {0}) SinkFault)
      → IfErr result IsOfTick → (result ≡ Ok tt → u ≡ finished t)
      → {old mid turned new : Option History}
      → Runs (Matches stamped s) old mid
      → Adds mid turned (Leads (Talking stamped who) (Matches stamped s) (Matches stamped t))
      → Adds turned new (Leads (As stamped (process t)) (Matches stamped t) (Finished stamped t u
      result))
      → Runs (Collected stamped who result) old new
  all_ran s t u to_t to_u result of is {turned = turned} {new = new} start chain finish =
      leads_then (leads_then start chain)
      (leads_as (λ h x. x) (λ h x. subst (λ w. Collected stamped w result h) (sym to_u)
      (finish_ends stamped t u result of is h x))
      (talking_as who stamped
      (subst (λ w. Adds turned new (Leads (As stamped w) (Matches stamped t) (Finished stamped t u
      result))) (sym to_t) finish)))

-- ---- beside other processes

pub together : {stamped : List (List ℕ)} {who : Who} {A B : History
    → Type 0} (started acting : List Who)
    → Contains started who → Contains acting who → {old new : Option History}
    → Adds old new (Leads (Talking stamped who) A B)
    → Adds old new (Leads (Together stamped started acting) A B)
together {stamped = stamped} {who = who} {A = A} {B = B} started acting one acts told =
    adds_as (Leads (Together stamped started acting) A B) told
    (λ added history x. record {
      leads = λ others h. x.leads (others_foreign stamped started who one added history others) h;
      own = owns_as (IsMadeBy who) (IsByOne acting) (made_one acting who acts) added history x.own;
    })

pub finds_together : {stamped : List (List ℕ)} {who : Who} {A : History
    → Type 0} (started : List Who) → Contains started who
    → {old new : Option History} → Adds old new (Finds (Foreign stamped who) who.name A)
    → Adds old new (Finds (Outside stamped started) who.name A)
finds_together {stamped = stamped} {who = who} {A = A} started one told =
    adds_as (Finds (Outside stamped started) who.name A) told
    (λ added history x others h. x (others_foreign stamped started who one added history others) h)
