-- The ends of the parts of a round that aren't of a read of a log.
use Rattle.std.proofs.Common.{◌≡◌, inl, inr, ℕ, List, Option, Result, Ok, Err, subst}
use Rattle.std.specs.Prelude.{IfErr}
use Rattle.chk_bytes.specs.Stems.{Stem}
use Rattle.chk_site.specs.declared.acts.Who.{Who}
use Rattle.chk_site.specs.History.{Every, History}
use Rattle.chk_site.specs.Site.{Adds}
use Rattle.chk_world.specs.JobSteps.{IsOf}
use Rattle.chk_world.specs.Knowing.{agent}
use Rattle.chk_world.specs.Works.{Works}
use Rattle.chk_sink.specs.declared.fault.SinkFault.{SinkFault}
use Rattle.chk_sink.specs.declared.fault.SinkFault.TheVariants.{Outside as sink_failed, Damaged as sink_damaged, Spent as sink_spent, NoMemory as sink_wanting}
use Rattle.chk_agent.specs.declared.answers.AgentFault.{AgentFault}
use Rattle.chk_agent.specs.declared.answers.AgentFault.TheVariants.{Damaged as agent_damaged, Outside as agent_failed, NoMemory as agent_wanting}
use Rattle.chk_exchange.specs.declared.fault.ExchangeFault.{ExchangeFault}
use Rattle.chk_exchange.specs.declared.fault.ExchangeFault.TheVariants.{Outside as inside_failed, NoMemory as inside_wanting, Damaged as inside_damaged, Spent as inside_spent, Refused as inside_refused}
use Rattle.chk_record_index.specs.declared.fault.JobFault.{JobFault}
use Rattle.chk_record_index.specs.declared.fault.JobFault.TheVariants.{Outside as job_failed, Damaged as job_damaged, Spent as job_spent, NoMemory as job_wanting}
use Rattle.chk_round.specs.declared.faults.RoundFault.{RoundFault}
use Rattle.chk_round.specs.declared.faults.RoundFault.TheVariants.{Outside, NoMemory, Damaged, Length, Growing, Shrank, Spent, Refused, Checkpoint}
use Rattle.chk_round.specs.Faults.{IsOfCall, of_agent, of_exchange, of_job, of_sinks}
use Rattle.chk_sink.specs.Closes.{IsOfTick}
use Rattle.chk_sink.specs.Damage.{DamageCause, SpentCause}
use Rattle.chk_sink.specs.Faults.{ended_by}
use Rattle.chk_sink.specs.States.{State as Sinks, process}
use Rattle.chk_sink.specs.Works.{OfStart, OfTick}
use Rattle.chk_agent.specs.Faults.{IsUndamaged}
use Rattle.chk_agent.specs.Starts.{FindsCheckpoint, StartsAndReads}
use Rattle.chk_agent.specs.States.{State as Agents}
use Rattle.chk_archive.specs.Archived.{ArchivesBy}
use Rattle.chk_archive.specs.Shown.{ShowsArchived}
use Rattle.chk_exchange.specs.Exchanges.{PollsInside, PostsInside}
use Rattle.chk_round.specs.Lengths.{EndShown, HasCommitted, IsPlain, PolledBelow, PolledOnce, PollsOn, WorkShown}
use Rattle.chk_round.specs.Processes.{c1}
use Rattle.chk_round.specs.Sites.{ArchivedSo, EndsLast, StartEnds, WorkEnds}
use Rattle.chk_round.specs.Reading as told
use Rattle.chk_round.specs.Reading.{IsGrowing, IsShrank}
use Rattle.chk_round.specs.Scripts.{IsNoRead}
use Rattle.chk_round.proofs.Lasting.{went_none, went_then}

pub plain_no_read : (fault : RoundFault) → IsPlain fault → IsNoRead fault
plain_no_read (Outside call) is = tt
plain_no_read NoMemory is = tt
plain_no_read (Damaged name at) is = tt
plain_no_read (Checkpoint at) is = tt
plain_no_read (Length stem got want) is = tt
plain_no_read (Growing path reads) is = is
plain_no_read (Shrank path had size) is = is
plain_no_read (Spent number) is = tt
plain_no_read (Refused code) is = tt

pub sinks_no_read : (fault : SinkFault) → IsNoRead (of_sinks fault)
sinks_no_read (sink_failed call) = tt
sinks_no_read (sink_damaged name at) = tt
sinks_no_read (sink_spent born) = tt
sinks_no_read sink_wanting = tt

pub agent_no_read : (fault : AgentFault) → IsNoRead (of_agent fault)
agent_no_read (agent_damaged at) = tt
agent_no_read (agent_failed call) = tt
agent_no_read agent_wanting = tt

pub exchange_no_read : (fault : ExchangeFault) → IsNoRead (of_exchange fault)
exchange_no_read (inside_failed call) = tt
exchange_no_read inside_wanting = tt
exchange_no_read (inside_damaged name at) = tt
exchange_no_read (inside_spent number) = tt
exchange_no_read (inside_refused code) = tt

pub sinks_plain : (fault : SinkFault) → IsPlain (of_sinks fault)
sinks_plain (sink_failed call) = tt
sinks_plain (sink_damaged name at) = tt
sinks_plain (sink_spent born) = tt
sinks_plain sink_wanting = tt

pub agent_plain : (fault : AgentFault) → IsPlain (of_agent fault)
agent_plain (agent_damaged at) = tt
agent_plain (agent_failed call) = tt
agent_plain agent_wanting = tt

pub job_plain : (fault : JobFault) → IsPlain (of_job fault)
job_plain (job_failed call) = tt
job_plain (job_damaged name at) = tt
job_plain (job_spent n) = tt
job_plain job_wanting = tt

pub exchange_plain : (fault : ExchangeFault) → IsPlain (of_exchange fault)
exchange_plain (inside_failed call) = tt
exchange_plain inside_wanting = tt
exchange_plain (inside_damaged name at) = tt
exchange_plain (inside_spent number) = tt
exchange_plain (inside_refused code) = tt

pub call_plain : (fault : RoundFault) → IsOfCall fault → IsPlain fault
call_plain (Outside call) is = tt
call_plain NoMemory is = tt
call_plain (Damaged name at) is = tt
call_plain (Checkpoint at) is = tt
call_plain (Length stem got want) is = is
call_plain (Growing path reads) is = is
call_plain (Shrank path had size) is = is
call_plain (Spent number) is = tt
call_plain (Refused code) is = tt

-- ---- what an end shows

length_late : {stem : Stem} {got want : ℕ} {P : History → History → Type 0}
    {old mid new : Option History}
    → Adds old mid P → PolledBelow stem got want mid new → PolledBelow stem got want old new
length_late p x = record {
  who = x.who;
  committed = x.committed;
  waiting = x.waiting;
  sinks = x.sinks;
  agent = x.agent;
  sinks_then = x.sinks_then;
  agent_then = x.agent_then;
  behind = x.behind;
  mid = x.mid;
  went = went_then p x.went;
  all = x.all;
  polls_on = x.polls_on;
  polls = x.polls;
}

pub call_shown : (T : Type 0) (fault : RoundFault) → IsOfCall fault → (old new : Option History)
    → WorkShown {T = T} (Err fault) old new
call_shown T (Outside call) is old new = tt
call_shown T NoMemory is old new = tt
call_shown T (Damaged name at) is old new = absurd is
call_shown T (Checkpoint at) is old new = absurd is
call_shown T (Length stem got want) is old new = absurd is
call_shown T (Growing path reads) is old new = absurd is
call_shown T (Shrank path had size) is old new = absurd is
call_shown T (Spent number) is old new = absurd is
call_shown T (Refused code) is old new = absurd is

-- the last work, with nothing before it
now_ends : {Ends : Option History → Option History → Type 0} {old new : Option History}
    → Ends old new → EndsLast Ends old new
now_ends {old = old} ends = record { behind = old; went = went_none old; ends = ends }

-- behind other calls
late_ends : {Ends : Option History → Option History → Type 0} {P : History → History → Type 0}
    {old mid new : Option History}
    → Adds old mid P → EndsLast Ends mid new → EndsLast Ends old new
late_ends p x = record { behind = x.behind; went = went_then p x.went; ends = x.ends }

as_ends : {A B : Option History → Option History → Type 0}
    → ((old new : Option History) → A old new → B old new) → {old new : Option History}
    → EndsLast A old new → EndsLast B old new
as_ends weaker {new = new} x =
    record { behind = x.behind; went = x.went; ends = weaker x.behind new x.ends }

pub sinks_shown : (T : Type 0) (s : Sinks) (fault : SinkFault) → IsOfTick fault
    → {old new : Option History}
    → Works (process s) (OfTick s) (ended_by {T = Unit {0}} (Err fault)) old new
    → Adds old new (DamageCause {T = Unit {0}} (Err fault))
    → WorkShown {T = T} (Err (of_sinks fault)) old new
sinks_shown T s (sink_failed call) is own damaged = tt
sinks_shown T s (sink_damaged name at) is own damaged =
    now_ends (WorkEnds.ticks s (sink_damaged name at) is own damaged)
sinks_shown T s (sink_spent born) is own damaged = absurd is
sinks_shown T s sink_wanting is own damaged = tt

pub post_shown : (T : Type 0) {who : Who} {now : ℕ} {s t : Sinks} {a b : Agents} → who ≡ process s
    → (fault : ExchangeFault) {old new : Option History}
    → PostsInside who now s a (Err fault) t b old new
    → WorkShown {T = T} (Err (of_exchange fault)) old new
post_shown T {now = now} {s = s} {t = t} {a = a} {b = b} is fault {old = old} {new = new} posts =
    go fault (subst (λ w. PostsInside w now s a (Err fault) t b old new) is posts)
  where
    go : (fault : ExchangeFault) → PostsInside (process s) now s a (Err fault) t b old new
        → WorkShown {T = T} (Err (of_exchange fault)) old new
    go (inside_failed call) posts = tt
    go inside_wanting posts = tt
    go (inside_damaged name at) posts =
        now_ends (WorkEnds.posts now s t a b (inside_damaged name at) posts)
    go (inside_spent n) posts = now_ends (WorkEnds.posts now s t a b (inside_spent n) posts)
    go (inside_refused code) posts =
        now_ends (WorkEnds.posts now s t a b (inside_refused code) posts)

-- a poll that ended otherwise than by a length
pub poll_once : {who : Who} {s t : Sinks} {a b : Agents} → who ≡ process s
    → (fault : ExchangeFault) {old new : Option History}
    → PollsInside who s a (Err fault) t b old new
    → PolledOnce who s a (Err (of_exchange fault)) t b old new
poll_once {who = who} {s = s} {t = t} {a = a} {b = b} is fault {old = old} {new = new} polls =
    go fault (subst (λ w. PollsInside w s a (Err fault) t b old new) is polls)
  where
    go : (fault : ExchangeFault) → PollsInside (process s) s a (Err fault) t b old new
        → PolledOnce who s a (Err (of_exchange fault)) t b old new
    go (inside_failed call) polls = tt
    go inside_wanting polls = tt
    go (inside_damaged name at) polls = WorkEnds.polls s t a b (inside_damaged name at) polls
    go (inside_spent n) polls = WorkEnds.polls s t a b (inside_spent n) polls
    go (inside_refused code) polls = WorkEnds.polls s t a b (inside_refused code) polls

-- behind a commit and some polls
pub once_shown : {who : Who} {s t : Sinks} {a b : Agents} {P : History → History → Type 0}
    {old mid : Option History}
    → HasCommitted s → PollsOn who s a t b old mid → Adds old mid P
    → (u : Sinks) (c : Agents) (new : Option History)
    → (fault : RoundFault) → PolledOnce who t b (Err fault) u c mid new
    → WorkShown {T = Unit {0}} (Err fault) old new
once_shown {who = who} {s = s} {t = t} {a = a} {b = b} {old = old} {mid = mid}
    all on went u c new (Length stem got want) polls = record {
      who = who;
      committed = s;
      waiting = a;
      sinks = t;
      agent = b;
      sinks_then = u;
      agent_then = c;
      behind = old;
      mid = mid;
      went = went_none old;
      all = all;
      polls_on = on;
      polls = polls;
    }
once_shown all on went u c new (Outside call) polls = tt
once_shown all on went u c new NoMemory polls = tt
once_shown all on went u c new (Damaged name at) polls = late_ends went (now_ends polls)
once_shown all on went u c new (Checkpoint at) polls = late_ends went (now_ends polls)
once_shown all on went u c new (Growing path reads) polls = tt
once_shown all on went u c new (Shrank path had size) polls = tt
once_shown all on went u c new (Spent number) polls = late_ends went (now_ends polls)
once_shown all on went u c new (Refused code) polls = late_ends went (now_ends polls)

pub job_shown : (T : Type 0) (fault : JobFault) {old new : Option History}
    → Adds old new (Every (IsOf ArchivesBy))
    → Adds old new (ShowsArchived {T = Unit {0}} (Err fault)) → ArchivedSo fault old new
    → WorkShown {T = T} (Err (of_job fault)) old new
job_shown T (job_failed call) own shown told = tt
job_shown T (job_damaged name at) own shown told =
    now_ends (WorkEnds.archives (job_damaged name at) own shown told)
job_shown T (job_spent n) own shown told =
    now_ends (WorkEnds.archives (job_spent n) own shown told)
job_shown T job_wanting own shown told = tt

-- an agent behind its start finds nothing damaged
pub agent_shown : (T X : Type 0) (fault : AgentFault) → IsUndamaged {T = X} (Err fault)
    → (old new : Option History) → WorkShown {T = T} (Err (of_agent fault)) old new
agent_shown T X (agent_damaged at) undamaged old new = absurd undamaged
agent_shown T X (agent_failed call) undamaged old new = tt
agent_shown T X agent_wanting undamaged old new = tt

pub work_late : (T U : Type 0) (fault : RoundFault) {P : History → History → Type 0}
    {old mid : Option History} (new : Option History)
    → Adds old mid P → WorkShown {T = U} (Err fault) mid new → WorkShown {T = T} (Err fault) old new
work_late T U (Length stem got want) new p x = length_late p x
work_late T U (Outside call) new p x = tt
work_late T U NoMemory new p x = tt
work_late T U (Damaged name at) new p x = late_ends p x
work_late T U (Checkpoint at) new p x = late_ends p x
work_late T U (Growing path reads) new p x = tt
work_late T U (Shrank path had size) new p x = tt
work_late T U (Spent number) new p x = late_ends p x
work_late T U (Refused code) new p x = late_ends p x

pub work_then : {T : Type 0} (r : Result T RoundFault) {P : History → History → Type 0}
    {old mid : Option History} (new : Option History)
    → Adds old mid P → WorkShown r mid new → WorkShown r old new
work_then (Ok value) new p x = tt
work_then {T = T} (Err fault) new p x = work_late T T fault new p x

pub growing_shown : {path : List ℕ} {reads : ℕ} {fault : RoundFault} (old new : Option History)
    → IsGrowing path reads fault → WorkShown {T = Unit {0}} (Err fault) old new
growing_shown old new told.grows = tt
growing_shown old new told.untold = tt

pub shrank_shown : {path : List ℕ} {had size : ℕ} {fault : RoundFault} (old new : Option History)
    → IsShrank path had size fault → WorkShown {T = Unit {0}} (Err fault) old new
shrank_shown old new told.shrinks = tt
shrank_shown old new told.untold = tt

-- ---- with the starts

module _ (T : Type 0) (source : List ℕ) where
  pub collector_shown : (fault : SinkFault) {old new : Option History}
      → Works c1 (OfStart c1) (ended_by {T = Sinks} (Err fault)) old new
      → Adds old new (DamageCause {T = Sinks} (Err fault))
      → Adds old new (SpentCause {T = Sinks} (Err fault))
      → EndShown {T = T} source (Err (of_sinks fault)) old new
  collector_shown (sink_failed call) own damaged spent = tt
  collector_shown (sink_damaged name at) own damaged spent =
      now_ends (inl (StartEnds.collector_starts (sink_damaged name at) own damaged spent))
  collector_shown (sink_spent born) own damaged spent =
      now_ends (inl (StartEnds.collector_starts (sink_spent born) own damaged spent))
  collector_shown sink_wanting own damaged spent = tt

  pub begun_shown : (fault : AgentFault) {P : History → History → Type 0}
      {old mid new : Option History} → Adds old mid P
      → StartsAndReads {T = Agents} (agent source) (Err fault) mid new
      → FindsCheckpoint {T = Agents} (λ s. s.saved) (agent source) (Err fault) mid new
      → EndShown {T = T} source (Err (of_agent fault)) old new
  begun_shown (agent_damaged at) p acts finds =
      late_ends p (now_ends (inl (StartEnds.agent_starts (agent_damaged at) acts finds)))
  begun_shown (agent_failed call) p acts finds = tt
  begun_shown agent_wanting p acts finds = tt

  -- a call alone
  pub only_shown : (r : Result T RoundFault) → IfErr r IsOfCall → (old new : Option History)
      → EndShown source r old new
  only_shown (Ok value) is old new = tt
  only_shown (Err (Outside call)) is old new = tt
  only_shown (Err NoMemory) is old new = tt
  only_shown (Err (Damaged name at)) is old new = absurd is
  only_shown (Err (Checkpoint at)) is old new = absurd is
  only_shown (Err (Length stem got want)) is old new = absurd is
  only_shown (Err (Growing path reads)) is old new = absurd is
  only_shown (Err (Shrank path had size)) is old new = absurd is
  only_shown (Err (Spent number)) is old new = absurd is
  only_shown (Err (Refused code)) is old new = absurd is

  -- the same of another value
  pub end_as : (U : Type 0) (fault : RoundFault) (old new : Option History)
      → EndShown {T = U} source (Err fault) old new → EndShown {T = T} source (Err fault) old new
  end_as U (Length stem got want) old new x = x
  end_as U (Outside call) old new x = tt
  end_as U NoMemory old new x = tt
  end_as U (Damaged name at) old new x = x
  end_as U (Checkpoint at) old new x = x
  end_as U (Growing path reads) old new x = tt
  end_as U (Shrank path had size) old new x = tt
  end_as U (Spent number) old new x = x
  end_as U (Refused code) old new x = x

  -- a work behind the starts
  pub work_ends : (U : Type 0) (fault : RoundFault) {P : History → History → Type 0}
      {old mid : Option History} (new : Option History)
      → Adds old mid P → WorkShown {T = U} (Err fault) mid new
      → EndShown {T = T} source (Err fault) old new
  work_ends U (Length stem got want) new p x = length_late p x
  work_ends U (Outside call) new p x = tt
  work_ends U NoMemory new p x = tt
  work_ends U (Damaged name at) new p x = late_ends p (as_ends (λ o n e. inr e) x)
  work_ends U (Checkpoint at) new p x = late_ends p (as_ends (λ o n e. inr e) x)
  work_ends U (Growing path reads) new p x = tt
  work_ends U (Shrank path had size) new p x = tt
  work_ends U (Spent number) new p x = late_ends p (as_ends (λ o n e. inr e) x)
  work_ends U (Refused code) new p x = late_ends p (as_ends (λ o n e. inr e) x)

pub only_plain : {T : Type 0} (r : Result T RoundFault) → IfErr r IsOfCall → IfErr r IsPlain
only_plain (Ok value) is = tt
only_plain (Err fault) is = call_plain fault is
