-- Own calls of one who looks at agents and their logs.
use Rattle.std.proofs.Common.{◌≡◌, inl, inr, ℕ, Bool, true, false, List, [], ◌∷◌, refl}
use Rattle.std.proofs.Common.{Option, Some, None, Ok, Err, Result, sym, subst}
use Rattle.std.specs.Prelude.{codes}
use Rattle.chk_bytes.specs.Words.{before_end}
use Rattle.chk_control.specs.declared.Class.{Class}
use Rattle.chk_control.specs.declared.Class.TheVariants.{Plain, Rotating, Lines}
use Rattle.chk_site.specs.declared.acts.OutsideFault.{OutsideFault}
use Rattle.chk_site.specs.declared.acts.Role.TheVariants.{Job}
use Rattle.chk_site.specs.declared.acts.Who.{Who}
use Rattle.chk_site.specs.History.{History, Every}
use Rattle.chk_site.specs.Logs.{part_of}
use Rattle.chk_site.specs.Site.{answered, names_given, piece_given, Adds}
use Rattle.chk_site.proofs.Runs.{adds_as, adds_none, adds_then, every_join}
use Rattle.chk_replace.proofs.CallSteps.{call_each, OfOwn}
use Rattle.chk_replace.specs.Load.{IsLook}
use Rattle.chk_world.specs.Checkpoints.{Line}
use Rattle.chk_world.specs.Names.{spell, CheckFile}
use Rattle.chk_world.specs.Sight.{job}
use Rattle.chk_checkpoint.specs.declared.Checkpoint.{Checkpoint}
use Rattle.chk_checkpoint.specs.declared.fault.CheckFault.{CheckFault}
use Rattle.chk_ctl_status_rows.specs.declared.agents.AgentSeen.{AgentSeen}
use Rattle.chk_ctl_status_rows.specs.declared.agents.AgentsFault.{AgentsFault}
use Rattle.chk_ctl_status_rows.specs.declared.probing.Next.{Next}
use Rattle.chk_ctl_status_rows.specs.declared.probing.Next.TheVariants as next
use Rattle.chk_ctl_status_rows.specs.declared.probing.Probe.{Probe}
use Rattle.chk_ctl_status_rows.specs.Agents.{added, ended, failed, listed, listing, lists, log_added}
use Rattle.chk_ctl_status_rows.specs.Agents.{log_failed, logs_ended, named, no_logs, none_left, one_log}
use Rattle.chk_ctl_status_rows.specs.Agents.{one_more, other, reads, unlisted, unnamed, AddsAgent}
use Rattle.chk_ctl_status_rows.specs.Agents.{AddsLog, AddsNamed, Checked, EndBy, FindsAgents, Listed}
use Rattle.chk_ctl_status_rows.specs.Agents.{LooksAtLogs}
use Rattle.chk_ctl_status_rows.specs.Agents.{SeesAgent, SeesAgents, SeesLogs}
use Rattle.chk_ctl_status_rows.specs.Ends.{ends, goes_on, probing, size_shown, too_many, Behind, BySize}
use Rattle.chk_ctl_status_rows.specs.Ends.{FindsBy, Follows}
use Rattle.chk_ctl_status_rows.specs.Ends.{Probes, Sees, SumsOn}
use Rattle.chk_ctl_passed.specs.Agents.{agent_of}
use Rattle.chk_ctl_passed.proofs.Owned.{role_by}

abbrev OwnCalls : Option History → Option History → Type 0
OwnCalls old new = Adds old new (Every LooksAtLogs)

nothing : {now : Option History} → OwnCalls now now
nothing {now = now} = adds_none now (Every LooksAtLogs) (λ history. tt)

same : {old new : Option History} → new ≡ old → OwnCalls old new
same {old = old} is = subst (λ (now : Option History). OwnCalls old now) (sym is) nothing

joined : {old mid new : Option History} → OwnCalls old mid → OwnCalls mid new → OwnCalls old new
joined first second =
    adds_then (Every LooksAtLogs) first second
    (λ a b history p q. every_join LooksAtLogs b a history p q)

probe_own : (path part : List ℕ) (at : ℕ) → OfOwn LooksAtLogs (probing job path part at)
probe_own path part at = λ before answer files logs running honest.
    inl (inr (
      record { own = refl; running = running; honest = honest; by = refl },
      reads path (part_of part) at,
    ))

list_own : OfOwn LooksAtLogs (listing job)
list_own = λ before answer files logs running honest.
    inl (inr (record { own = refl; running = running; honest = honest; by = refl }, lists))

probes_own : {path part : List ℕ} {at : ℕ} {result : Result Probe OutsideFault}
    {old new : Option History} → Probes job path part at result old new → OwnCalls old new
probes_own {path = path} {part = part} {at = at} p =
    adds_as (Every LooksAtLogs) p.told
    (λ steps history calls.
    call_each LooksAtLogs (answered piece_given p.given) (λ before step theirs. inl (inl theirs))
    (probe_own path part at) calls)

by_size : (path part : List ℕ) (first : ℕ) (size : Option ℕ) (result : Result Next OutsideFault)
    {old new : Option History} → BySize job path part first size result old new → OwnCalls old new
by_size path part first (Some size) result x = probes_own x.probes
by_size path part first None result x = same x.0

behind_own : (path part : List ℕ) (first : ℕ) (given : Result Probe OutsideFault)
    (result : Result Next OutsideFault) {old new : Option History}
    → Behind job path part first given result old new → OwnCalls old new
behind_own path part first (Ok p) result x = by_size path part first (size_shown p) result x
behind_own path part first (Err fault) result x = same x.0

sees_own : {path part : List ℕ} {first : ℕ} {result : Result Next OutsideFault}
    {old new : Option History} → Sees job path part first result old new → OwnCalls old new
sees_own {path = path} {part = part} {first = first} {result = result} s =
    joined (probes_own s.probes) (behind_own path part first s.given result s.behind)

sums_own : {path : List ℕ} {result : Result (Option ℕ) OutsideFault} {n end : ℕ}
    {suffix : List ℕ} {old new : Option History} → SumsOn job path result n suffix end old new
    → OwnCalls old new
sums_own (too_many past is) = nothing
sums_own (ends next sees is) = sees_own sees
sums_own (goes_on sees more) = joined (sees_own sees) (sums_own more)

follows_own : (path : List ℕ) (given : Result Next OutsideFault)
    (result : Result (Option ℕ) OutsideFault) {old new : Option History}
    → Follows job path given result old new → OwnCalls old new
follows_own path (Ok (next.More suffix end)) result x = sums_own x
follows_own path (Ok (next.Last end)) result x = same x.0
follows_own path (Ok next.Changed) result x = same x.0
follows_own path (Err fault) result x = same x.0

finds_by : (class : Class) (l : Line) (result : Result (Option ℕ) OutsideFault)
    {old new : Option History} → FindsBy class job l result old new → OwnCalls old new
finds_by Plain l result x = probes_own x.probes
finds_by Rotating l result x = joined (sees_own x.sees) (follows_own l.path x.next result x.follows)
finds_by Lines l result x = joined (sees_own x.sees) (follows_own l.path x.next result x.follows)

end_by : (live : Bool) (l : Line) (result : Result (Option ℕ) OutsideFault)
    {old new : Option History} → EndBy live job l result old new → OwnCalls old new
end_by true l result x = finds_by l.class l result x
end_by false l result x = same x.0

log_own : {had : List (Option ℕ)} {l : Line} {result : Result (List (Option ℕ)) OutsideFault}
    {old new : Option History} → AddsLog job had l result old new → OwnCalls old new
log_own {l = l} (log_added end result x) = end_by l.live l (Ok end) x
log_own {l = l} (log_failed fault x) = end_by l.live l (Err fault) x

logs_own : {had : List (Option ℕ)} {lines : List Line}
    {result : Result (List (Option ℕ)) OutsideFault} {old new : Option History}
    → SeesLogs job had lines result old new → OwnCalls old new
logs_own no_logs = nothing
logs_own (one_log first rest) = joined (log_own first) (logs_own rest)
logs_own (logs_ended first) = log_own first

checked_own : (agent : Who) (given : Result Checkpoint CheckFault)
    (result : Result AgentSeen AgentsFault) {old new : Option History}
    → Checked job agent given result old new → OwnCalls old new
checked_own agent (Ok c) result x = logs_own x.seen
checked_own agent (Err fault) result x = same x.0

look_every : (agent : Who) → agent.role ≡ Job → (steps history : History)
    → Every (IsLook agent (spell (CheckFile agent.name))) steps history
    → Every LooksAtLogs steps history
look_every agent is [] history each = tt
look_every agent is (step ∷ steps) history each = (
  look_every agent is steps history each.0,
  inr (agent, is, each.1),
)

agent_own : {agent : Who} {result : Result AgentSeen AgentsFault} {old new : Option History}
    → agent.role ≡ Job → SeesAgent job agent result old new → OwnCalls old new
agent_own {agent = agent} {result = result} is s =
    joined
    (adds_as (Every LooksAtLogs) s.reads
    (λ steps history each. look_every agent is steps history each))
    (checked_own agent s.given result s.checked)

-- an agent whose checkpoint is looked at is read as the job
role_of : (name : List ℕ) (agent : Who) → agent_of name ≡ Some agent → agent.role ≡ Job
role_of name agent e = role_by (before_end (codes ".check") name) agent e

named_own : {agents : List AgentSeen} {agent : Who} {result : Result (List AgentSeen) AgentsFault}
    {old new : Option History} → agent.role ≡ Job → AddsNamed job agents agent result old new
    → OwnCalls old new
named_own is (added seen result sees) = agent_own is sees
named_own is (failed sees) = agent_own is sees

adds_own : {agents : List AgentSeen} {name : List ℕ} {result : Result (List AgentSeen) AgentsFault}
    {old new : Option History} → AddsAgent job agents name result old new → OwnCalls old new
adds_own (other is) = nothing
adds_own unnamed = nothing
adds_own {name = name} (named agent is adds) = named_own (role_of name agent is) adds

agents_own : {agents : List AgentSeen} {names : List (List ℕ)}
    {result : Result (List AgentSeen) AgentsFault} {old new : Option History}
    → SeesAgents job agents names result old new → OwnCalls old new
agents_own none_left = nothing
agents_own (one_more first rest) = joined (adds_own first) (agents_own rest)
agents_own (ended first) = adds_own first

listed_own : (result : Result (List (List ℕ)) OutsideFault) {old new : Option History}
    → Listed job result old new → OwnCalls old new
listed_own (Ok names) told =
    adds_as (Every LooksAtLogs) told
    (λ steps history calls.
    call_each LooksAtLogs (Ok (names_given names)) (λ before step theirs. inl (inl theirs))
    list_own calls)
listed_own (Err fault) told =
    adds_as (Every LooksAtLogs) told.2
    (λ steps history calls.
    call_each LooksAtLogs (answered names_given told.0) (λ before step theirs. inl (inl theirs))
    list_own calls)

finds_so : {result : Result (List AgentSeen) AgentsFault} {old new : Option History}
    → FindsAgents job result old new → OwnCalls old new
finds_so (unlisted {fault = fault} told) = listed_own (Err fault) told
finds_so (listed {names = names} told sees) =
    joined (listed_own (Ok names) told) (agents_own sees)

-- the calls of one who finds the agents
pub finds_own : {who : Who} {result : Result (List AgentSeen) AgentsFault}
    {old new : Option History} → who ≡ job → FindsAgents who result old new → OwnCalls old new
finds_own {who = who} {result = result} {old = old} {new = new} is finds =
    finds_so (subst (λ (w : Who). FindsAgents w result old new) is finds)
