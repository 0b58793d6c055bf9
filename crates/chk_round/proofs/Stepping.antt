-- The reads of one adaptor so far.
use Rattle.std.proofs.Common.{◌≡◌, ℕ, ◌+◌, ◌*◌, ◌-◌, ◌≤◌, ◌<◌, true, List, [], length, Option, Some, Result, Ok, Err, refl, ap, sym, ◌∙◌, arith, subst}
use Rattle.std.specs.Prelude.{slice_get}
use Rattle.std.proofs.lemmas.Option.{same_Some}
use Rattle.chk_site.specs.declared.acts.Who.{Who}
use Rattle.chk_site.specs.History.{History}
use Rattle.chk_site.specs.Site.{Adds}
use Rattle.chk_site.specs.Runs.{Leads}
use Rattle.chk_site.proofs.Leads.{leads_as, leads_then}
use Rattle.chk_world.specs.Mailbox.{IsEmptyFor}
use Rattle.chk_world.specs.Places.{As}
use Rattle.chk_world.specs.Rules.{Legal}
use Rattle.chk_world.specs.Together.{Together}
use Rattle.chk_tail.specs.declared.step.Step.{Step}
use Rattle.chk_tail.specs.declared.step.Step.TheVariants.{Bytes, AtEnd as gave_none, Shrank as is_short}
use Rattle.chk_sink.specs.Held.{Matches as SinksMatch}
use Rattle.chk_sink.specs.States.{IsSameStart, State as Sinks, process}
use Rattle.chk_agent_adaptor.specs.Adaptors.{Adaptor, stream_at}
use Rattle.chk_agent_delivery.specs.Turns.{is_held}
use Rattle.chk_agent.specs.declared.answers.AgentFault.{AgentFault}
use Rattle.chk_agent.specs.declared.answers.AgentFault.TheVariants.{Damaged as agent_damaged, Outside as agent_failed, NoMemory as agent_wanting}
use Rattle.chk_agent.specs.declared.answers.Stepped.{Stepped}
use Rattle.chk_agent.specs.declared.answers.Stepped.TheVariants.{Read, AtEnd, Held, Shrank as step_shrank}
use Rattle.chk_agent.specs.Facts.{AfterStep, Matches as AgentMatches}
use Rattle.chk_agent.specs.Faults.{IsUndamaged}
use Rattle.chk_agent.specs.Fits.{IsSound}
use Rattle.chk_agent.specs.Fills as fill
use Rattle.chk_agent.specs.Fills.{IsOneStepped, after_step, queued}
use Rattle.chk_agent.specs.States.{State as Agents, process as agent_of}
use Rattle.chk_agent.proofs.Soundness.{below_at}
use Rattle.chk_agent_drain.proofs.Steps.{IsReadOn, but_same, but_then, step_grows, step_leaves, step_read}
use Rattle.chk_round.specs.declared.faults.RoundFault.{RoundFault}
use Rattle.chk_round.specs.declared.faults.RoundFault.TheVariants.{Outside, NoMemory, Damaged, Length, Growing, Shrank, Spent, Refused, Checkpoint}
use Rattle.chk_round.specs.Faults.{of_agent, RoundCause}
use Rattle.chk_round.specs.Following.{KeepsLogs}
use Rattle.chk_round.specs.Joint.{AreIn, BothAt, GoesOn, IsSameAgent, JointTo, OnlyStopped}
use Rattle.chk_round.specs.Keeping.{SinksKept}
use Rattle.chk_round.specs.OwnRows.{OwnTo}
use Rattle.chk_round.specs.Polling.{PostedSome}
use Rattle.chk_round.specs.Reading as told
use Rattle.chk_round.specs.Reading.{AfterReadOut, IsGrowing, IsShrank, ReadOn}
use Rattle.chk_round.specs.Sending.{SendsOn, SendsOthers}
use Rattle.chk_round.proofs.Following.{keeps_all, keeps_same, keeps_then, step_keeps_logs}
use Rattle.chk_round.proofs.Joining.{in_on, joint_none, joint_then}
use Rattle.chk_round.specs.Scripts as scripts
use Rattle.chk_round.specs.Scripts.{Anything, IsNoRead, ReadsOut}
use Rattle.chk_round.specs.Calls.{RestCalls, RoundCalls}
use Rattle.chk_round.proofs.Acts.{acts_none, acts_then, as_round, step_acts}
use Rattle.chk_round.proofs.NonePast.{quiet_none_past, sends_none, sends_then}
use Rattle.chk_round.proofs.OwnRows.{own_none, own_step, own_then}
use Rattle.chk_round.proofs.Polls.{starts_none, starts_then}
use Rattle.chk_round.proofs.Sent.{other_low}
use Rattle.chk_agent_drain.proofs.DrainingAll.{some_at}
use Rattle.chk_round.proofs.Sides.{agent_acts}

-- ---- ends that say nothing of the history

abbrev pub EndsLegally : RoundFault → Type 0
EndsLegally (Damaged name at) = ⊥
EndsLegally (Checkpoint at) = ⊥
EndsLegally (Shrank path had size) = ⊥
EndsLegally (Spent number) = ⊥
EndsLegally (Length stem got want) = ⊥
EndsLegally (Refused code) = ⊥
EndsLegally fault = Unit {0}

pub legal_goes : (stamped : List (List ℕ)) (s : Sinks) (a : Agents) (fault : RoundFault) → EndsLegally fault → (h : History)
    → Legal stamped h → GoesOn stamped s a (Err fault) h
legal_goes stamped s a (Outside call) is h x = x
legal_goes stamped s a NoMemory is h x = x
legal_goes stamped s a (Damaged name at) is h x = absurd is
legal_goes stamped s a (Checkpoint at) is h x = absurd is
legal_goes stamped s a (Length stem got want) is h x = absurd is
legal_goes stamped s a (Growing path reads) is h x = x
legal_goes stamped s a (Shrank path had size) is h x = absurd is
legal_goes stamped s a (Spent number) is h x = absurd is
legal_goes stamped s a (Refused code) is h x = absurd is

pub growing_legal : {path : List ℕ} {reads : ℕ} {fault : RoundFault} → IsGrowing path reads fault → EndsLegally fault
growing_legal told.grows = tt
growing_legal told.untold = tt

shrank_goes : (stamped : List (List ℕ)) (s : Sinks) (a : Agents) {path : List ℕ} {had size : ℕ} {fault : RoundFault}
    → IsShrank path had size fault → (h : History) → OnlyStopped stamped h → GoesOn stamped s a (Err fault) h
shrank_goes stamped s a told.shrinks h x = x
shrank_goes stamped s a told.untold h x = x.legal

pub growing_cause : {path : List ℕ} {reads : ℕ} {fault : RoundFault} (before now : ℕ) → IsGrowing path reads fault → before ≤ now
    → RoundCause {T = Unit {0}} before now (Err fault)
growing_cause before now told.grows le = le
growing_cause before now told.untold le = le

pub shrank_cause : {path : List ℕ} {had size : ℕ} {fault : RoundFault} (before now : ℕ) → IsShrank path had size fault → before ≤ now
    → RoundCause {T = Unit {0}} before now (Err fault)
shrank_cause before now told.shrinks le = le
shrank_cause before now told.untold le = le

agent_legal : (fault : AgentFault) → IsUndamaged {T = Stepped} (Err fault) → EndsLegally (of_agent fault)
agent_legal (agent_damaged at) is = absurd is
agent_legal (agent_failed call) is = tt
agent_legal agent_wanting is = tt

-- ---- a step

step_keeps : {i : ℕ} {a : Adaptor} {s t : Agents} {result : Result Stepped AgentFault} {old new : Option History}
    → IsOneStepped i a s result t old new → t.delivery.ring.addresses ≡ s.delivery.ring.addresses
step_keeps (fill.held is) = refl
step_keeps {i = i} {a = a} {s = s} (fill.made b step held is) = go step
  where
    go : (step : Step) → (after_step i step a b s).delivery.ring.addresses ≡ s.delivery.ring.addresses
    go (Bytes bytes end) = refl
    go gave_none = refl
    go (is_short had size) = refl
step_keeps (fill.refused b fault held is) = refl
step_keeps (fill.unkept b step held is) = refl
step_keeps (fill.wanting held) = refl

step_cluster : {i : ℕ} {a : Adaptor} {s t : Agents} {result : Result Stepped AgentFault} {old new : Option History}
    → IsOneStepped i a s result t old new → t.cluster ≡ s.cluster
step_cluster (fill.held is) = refl
step_cluster (fill.made b step held is) = refl
step_cluster (fill.refused b fault held is) = refl
step_cluster (fill.unkept b step held is) = refl
step_cluster (fill.wanting held) = refl

-- the queue had no room, and nothing changed
pub step_held : {i : ℕ} {a : Adaptor} {s t : Agents} {result : Result Stepped AgentFault} {old new : Option History} (used : ℕ)
    → IsOneStepped i a s result t old new → result ≡ Ok (Held used) → (t ≡ s) × (is_held s.delivery ≡ true)
step_held used (fill.held is) e = (refl, is)
step_held {i = i} {a = a} {s = s} used (fill.made b step held is) e = go step e
  where
    go : (step : Step) → ◌≡◌ {A = Result Stepped AgentFault} (Ok (fill.step_answer step)) (Ok (Held used))
        → (after_step i step a b s ≡ s) × (is_held s.delivery ≡ true)
    go (Bytes bytes end) e = absurd (let z : ⊥ = cc in z)
    go gave_none e = absurd (let z : ⊥ = cc in z)
    go (is_short had size) e = absurd (let z : ⊥ = cc in z)
step_held used (fill.refused b fault held is) e = absurd (let z : ⊥ = cc in z)
step_held used (fill.unkept b step held is) e = absurd (let z : ⊥ = cc in z)
step_held used (fill.wanting held) e = absurd (let z : ⊥ = cc in z)

pub step_on : {i : ℕ} {a : Adaptor} {s t : Agents} {result : Result Stepped AgentFault} {old new : Option History}
    → IsOneStepped i a s result t old new → slice_get s.adaptors i ≡ Some a → ReadOn i s t
step_on is there =
    let leaves = step_leaves is there in
    record {
      source = leaves.source;
      cluster = step_cluster is;
      ready = leaves.ready;
      addresses = step_keeps is;
      adaptors = leaves.adaptors;
    }

pub on_none : (i : ℕ) (a : Agents) → ReadOn i a a
on_none i a = record { source = refl; cluster = refl; ready = refl; addresses = refl; adaptors = but_same i a a refl }

pub on_then : (i : ℕ) (a b c : Agents) → ReadOn i a b → ReadOn i b c → ReadOn i a c
on_then i a b c p q = record {
  source = q.source ∙ p.source;
  cluster = q.cluster ∙ p.cluster;
  ready = q.ready ∙ p.ready;
  addresses = q.addresses ∙ p.addresses;
  adaptors = but_then i a b c p.adaptors q.adaptors;
}

pub on_same : (i : ℕ) (a b : Agents) → IsSameAgent a b → ReadOn i a b
on_same i a b same = record {
  source = same.source;
  cluster = same.cluster;
  ready = same.ready;
  addresses = same.rest.addresses;
  adaptors = but_same i a b same.rest.adaptors;
}

-- ---- a step beside the collector

abbrev pub StepTold : ℕ → Agents → Agents → Result Stepped AgentFault → Option History → Option History → Type 0
StepTold i a b result old new =
    (stamped : List (List ℕ)) → Adds old new (Leads (As stamped (agent_of a)) (AgentMatches stamped a) (AfterStep stamped i b result))

step_beside : (s : Sinks) (i : ℕ) (a b : Agents) (result : Result Stepped AgentFault) {old new : Option History}
    → StepTold i a b result old new → (stamped : List (List ℕ)) (started acting : List Who) → AreIn started acting s a
    → Adds old new (Leads (Together stamped started acting) (BothAt stamped s a)
    (λ h. AfterStep stamped i b result h × (SinksMatch stamped s h × (IsEmptyFor (process s) h × SinksKept s h))))
step_beside s i a b result told stamped started acting run =
    leads_as (λ h x. (x.1.0, (x.0, x.1.1))) (λ h x. x)
    (agent_acts stamped started acting s a.source run.collector_started run.agent_started run.agent_acts
    (λ h x. x.matches.legal) (told stamped))

pub step_goes : (s : Sinks) (i : ℕ) (a b : Agents) (result : Result Stepped AgentFault) {old new : Option History}
    → StepTold i a b result old new → JointTo s a s b (Ok tt) old new
step_goes s i a b result told stamped started acting run =
    leads_as (λ h x. x) (λ h x. (x.1.0, (x.0.matches, x.1.1))) (step_beside s i a b result told stamped started acting run)

step_stops : (s : Sinks) (i : ℕ) (a b : Agents) (result : Result Stepped AgentFault) (fault : RoundFault) → EndsLegally fault
    → {old new : Option History} → StepTold i a b result old new → JointTo s a s b (Err fault) old new
step_stops s i a b result fault legal told stamped started acting run =
    leads_as (λ h x. x) (λ h x. legal_goes stamped s b fault legal h x.0.matches.legal)
    (step_beside s i a b result told stamped started acting run)

-- a log is shorter than the place only where the site was stopped
step_shrinks : (s : Sinks) (i : ℕ) (a b : Agents) {path : List ℕ} (had size : ℕ) {fault : RoundFault}
    → IsShrank path had size fault → {old new : Option History} → StepTold i a b (Ok (step_shrank had size)) old new
    → JointTo s a s b (Err fault) old new
step_shrinks s i a b had size short told stamped started acting run =
    leads_as (λ h x. x)
    (λ h x. shrank_goes stamped s b short h (record { legal = x.0.matches.legal; never = x.0.whole }))
    (step_beside s i a b (Ok (step_shrank had size)) told stamped started acting run)

-- what is left of the reads makes all of them
abbrev pub ReadSoFar : ℕ → ℕ → Agents → ℕ → Agents → Option History → Option History → Type 0
ReadSoFar i reads a n b old now =
    (r : Result (Unit {0}) RoundFault) (u : Agents) (new : Option History)
    → ReadsOut i reads n b r u now new → ReadsOut i reads 0 a r u old new

-- ---- the reads so far

pub record Reading (i count reads : ℕ) (s : Sinks) (a : Agents) (t : Sinks) (b : Agents) (old now : Option History)
    (before after : ℕ) : Type 0 where
  pub joint : JointTo s a t b (Ok tt) old now
  pub starts : IsSameStart s t
  pub on : ReadOn i a b
  pub here : IsReadOn i b
  pub sends : SendsOthers i a old now
  pub lives : KeepsLogs a b
  pub rows : OwnTo s a t b (Ok tt) old now
  pub acts : Adds old now RoundCalls
  pub script : ReadSoFar i reads a count b old now
  pub few : count < reads
  pub faults : before ≤ after

pub reading_none : (i reads : ℕ) (s : Sinks) (a : Agents) (now : Option History) (n : ℕ) → 1 ≤ reads → IsReadOn i a
    → Reading i 0 reads s a s a now now n n
reading_none i reads s a now n some here = record {
  joint = joint_none s a now;
  starts = starts_none s;
  on = on_none i a;
  here = here;
  sends = λ stamped started one k x other at. sends_none (stream_at a.source x) x.read.offset stamped started now;
  lives = keeps_all a;
  rows = own_none s a now;
  acts = acts_none now;
  script = λ r u new x. x;
  few = omega (arith, some);
  faults = omega arith;
}

module _ (i count reads : ℕ) (s t : Sinks) (a b : Agents) {old now : Option History} {before mid : ℕ}
    (so : Reading i count reads s a t b old now before mid) (c : Agents) (result : Result Stepped AgentFault)
    {next : Option History} (told : StepTold i b c result now next)
    (made : (x : Adaptor) → slice_get b.adaptors i ≡ Some x → IsOneStepped i x b result c now next) where
  one : IsOneStepped i so.here.0 b result c now next
  one = made so.here.0 so.here.1

  source_on : b.source ≡ a.source
  source_on = so.on.source

  pub stepped_acts : Adds old next RoundCalls
  stepped_acts = acts_then so.acts (step_acts one)

  joint_stepped : JointTo s a t c (Ok tt) old next
  joint_stepped = joint_then s t t a b c (Ok tt) so.starts.collector source_on so.joint (step_goes t i b c result told)

  pub own_stepped : OwnTo s a t c (Ok tt) old next
  own_stepped = own_then s t t a b c (Ok tt) so.starts.collector source_on so.rows so.joint (own_step t one (told []))

  -- nothing was sent of the streams of others
  pub ended_sends : SendsOthers i a old next
  ended_sends stamped started one k x other at =
      let s = stream_at a.source x in
      sends_then s x.read.offset stamped started (so.sends stamped started one k x other at)
      (quiet_none_past s x.read.offset stamped started one (agent_of b) (told stamped))

  -- one more read that gave bytes
  pub reading_read : (n after : ℕ) → mid ≤ after → result ≡ Ok (Read n) → count + 1 < reads
      → Reading i (count + 1) reads s a t c old next before after
  reading_read n after on is few =
      let first = so.faults in
      record {
        joint = joint_then s t t a b c (Ok tt) so.starts.collector source_on so.joint (step_goes t i b c result told);
        starts = so.starts;
        on = on_then i a b c so.on (step_on one so.here.1);
        here = step_read n one is so.here.1 so.here.2;
        sends = ended_sends;
        rows = own_stepped;
        lives = keeps_then a b c so.lives
            (step_keeps_logs (subst (λ r. IsOneStepped i so.here.0 b r c now next) is one) so.here.1
            (λ had size e. let z : ⊥ = cc in z));
        acts = stepped_acts;
        script = λ r u new later.
            so.script r u new
            (scripts.read_on so.here.0 n so.here.1 few (subst (λ q. IsOneStepped i so.here.0 b q c now next) is one) later);
        few = few;
        faults = omega (arith, first, on);
      }

  pub read_smaller : (n : ℕ) → result ≡ Ok (Read n)
      → 2 * (reads - (count + 1)) + length c.delivery.queue.chunks < 2 * (reads - count) + length b.delivery.queue.chunks
  read_smaller n is = let few = so.few in let more = step_grows n one is in omega (arith, few, more)

  -- the reads end here
  pub reading_stops : (fault : RoundFault) → EndsLegally fault → (stamped : List (List ℕ)) (started acting : List Who)
      → AreIn started acting s a → Adds old next (Leads (Together stamped started acting) (BothAt stamped s a)
      (AfterReadOut stamped i t c (Err fault)))
  reading_stops fault legal =
      joint_then s t t a b c (Err fault) so.starts.collector source_on so.joint (step_stops t i b c result fault legal told)

  pub reading_shrinks : (had size : ℕ) → result ≡ Ok (step_shrank had size) → {path : List ℕ} {fault : RoundFault}
      → IsShrank path had size fault → (stamped : List (List ℕ)) (started acting : List Who)
      → AreIn started acting s a → Adds old next (Leads (Together stamped started acting) (BothAt stamped s a)
      (AfterReadOut stamped i t c (Err fault)))
  reading_shrinks had size is {fault = fault} short =
      joint_then s t t a b c (Err fault) so.starts.collector source_on so.joint
      (step_shrinks t i b c had size short (subst (λ r. StepTold i b c r now next) is told))

  pub reading_fails : (fault : AgentFault) → IsUndamaged {T = Stepped} (Err fault) → (stamped : List (List ℕ)) (started acting : List Who)
      → AreIn started acting s a → Adds old next (Leads (Together stamped started acting) (BothAt stamped s a)
      (AfterReadOut stamped i t c (Err (of_agent fault))))
  reading_fails fault undamaged = reading_stops (of_agent fault) (agent_legal fault undamaged)

  -- the log was read to its end
  pub reading_ended : result ≡ Ok AtEnd → (stamped : List (List ℕ)) (started acting : List Who) → AreIn started acting s a
      → Adds old next (Leads (Together stamped started acting) (BothAt stamped s a) (AfterReadOut stamped i t c (Ok tt)))
  reading_ended is stamped started acting run =
      leads_then (so.joint stamped started acting run)
      (leads_as (λ h x. x) (λ h x. ((x.1.0, (x.0.matches, x.1.1)), x.0.whole))
      (step_beside t i b c (Ok AtEnd)
      (subst (λ r. StepTold i b c r now next) is told) stamped started acting
      (in_on s t a b so.starts.collector source_on run)))

  pub ended_lives : result ≡ Ok AtEnd → KeepsLogs a c
  ended_lives is =
      keeps_then a b c so.lives
      (step_keeps_logs (subst (λ r. IsOneStepped i so.here.0 b r c now next) is one) so.here.1
      (λ had size e. let z : ⊥ = cc in z))

  pub ended_on : ReadOn i a c
  ended_on = on_then i a b c so.on (step_on one so.here.1)

  pub still_there : i < length c.adaptors
  still_there =
      let below = below_at b.adaptors i so.here.0 so.here.1 in
      let size = (step_on one so.here.1).adaptors.size in
      omega (arith, below, size)

  -- the adaptor that was stepped is of the same path
  path_still : (y : Adaptor) × (slice_get c.adaptors i ≡ Some y) × (y.path ≡ so.here.0.path)
  path_still =
      let y = some_at c.adaptors i still_there in
      let m = (step_on one so.here.1).adaptors.here y.0 y.1 in
      (y.0, y.1, m.3 ∙ ap (λ (k : Adaptor). k.path) (same_Some m.0 so.here.0 (sym m.1 ∙ so.here.1)))

  pub ended_script : result ≡ Ok AtEnd → ReadsOut i reads 0 a (Ok tt) c old next
  ended_script is =
      so.script (Ok tt) c next
      (scripts.at_end so.here.0 so.here.1 (subst (λ q. IsOneStepped i so.here.0 b q c now next) is one))

  pub unread_script : (fault : AgentFault) → result ≡ Err fault → ReadsOut i reads 0 a (Err (of_agent fault)) c old next
  unread_script fault is =
      so.script (Err (of_agent fault)) c next
      (scripts.unread so.here.0 fault so.here.1 (subst (λ q. IsOneStepped i so.here.0 b q c now next) is one))

  pub grown_script : (n : ℕ) → result ≡ Ok (Read n) → count + 1 ≡ reads → (fault : RoundFault)
      → ((x : Adaptor) → slice_get c.adaptors i ≡ Some x → IsGrowing x.path reads fault)
      → ReadsOut i reads 0 a (Err fault) c old next
  grown_script n is last fault which =
      so.script (Err fault) c next
      (scripts.grows so.here.0 n fault so.here.1 last (subst (λ q. IsOneStepped i so.here.0 b q c now next) is one)
      (subst (λ p. IsGrowing p reads fault) path_still.2 (which path_still.0 path_still.1)))

  pub shrank_script : (had size : ℕ) → result ≡ Ok (step_shrank had size) → (fault : RoundFault)
      → ((x : Adaptor) → slice_get c.adaptors i ≡ Some x → IsShrank x.path had size fault)
      → ReadsOut i reads 0 a (Err fault) c old next
  shrank_script had size is fault which =
      so.script (Err fault) c next
      (scripts.shrinks so.here.0 had size fault so.here.1 (subst (λ q. IsOneStepped i so.here.0 b q c now next) is one)
      (subst (λ p. IsShrank p had size fault) path_still.2 (which path_still.0 path_still.1)))

  pub unposted_script : (used : ℕ) → result ≡ Ok (Held used) → (d : Agents) (fault : RoundFault) {new : Option History}
      → IsNoRead fault → Adds next new Anything → ReadsOut i reads 0 a (Err fault) d old new
  unposted_script used is d fault {new = new} other more =
      so.script (Err fault) d new
      (scripts.unposted so.here.0 used fault so.here.1 (subst (λ q. IsOneStepped i so.here.0 b q c now next) is one) more other)

  -- ---- the queue was full: posts go first

  module _ (used : ℕ) (is : result ≡ Ok (Held used)) where
    same : c ≡ b
    same = (step_held used one is).0

    pub held_is : is_held c.delivery ≡ true
    held_is = ap (λ (k : Agents). is_held k.delivery) same ∙ (step_held used one is).1

    pub held_so : ReadOn i a c
    held_so = ended_on

    module _ (u : Sinks) (d : Agents) {new : Option History} where
      -- they end it
      pub held_ends : (fault : RoundFault) → JointTo t c u d (Err fault) next new → (stamped : List (List ℕ)) (started acting : List Who)
          → AreIn started acting s a → Adds old new (Leads (Together stamped started acting) (BothAt stamped s a)
          (AfterReadOut stamped i u d (Err fault)))
      held_ends fault joint =
          joint_then s t u a c d (Err fault) so.starts.collector (held_so).source
          (joint_then s t t a b c (Ok tt) so.starts.collector source_on so.joint (step_goes t i b c result told)) joint

      pub held_own : (r : Result (Unit {0}) RoundFault) → OwnTo t c u d r next new → OwnTo s a u d r old new
      held_own r rows = own_then s t u a c d r so.starts.collector (held_so).source own_stepped joint_stepped rows

      module _ (joint : JointTo t c u d (Ok tt) next new) (starts : IsSameStart t u) (posted : PostedSome c d)
          (sound : IsSound c) (sends : SendsOn c d next new) (more : Adds next new RestCalls)
          (rows : OwnTo t c u d (Ok tt) next new) where
        kept : d.adaptors ≡ b.adaptors
        kept = posted.same.rest.adaptors ∙ ap (λ (k : Agents). k.adaptors) same

        pub held_next : (late : ℕ) → mid ≤ late → Reading i count reads s a u d old new before late
        held_next late on_late =
            let first = so.faults in
            record {
              joint = joint_then s t u a c d (Ok tt) so.starts.collector held_so.source
                  (joint_then s t t a b c (Ok tt) so.starts.collector source_on so.joint (step_goes t i b c result told)) joint;
              starts = starts_then s t u so.starts starts;
              on = on_then i a c d held_so (on_same i c d posted.same);
              here = (so.here.0, ap (λ xs. slice_get xs i) kept ∙ so.here.1, so.here.2);
              sends = λ stamped started one k x other at.
                  let s = stream_at a.source x in
                  let low = other_low i a c held_so.adaptors held_so.source sound k x other at in
                  sends_then s x.read.offset stamped started (ended_sends stamped started one k x other at)
                  (sends stamped started s x.read.offset one low).0;
              lives = keeps_then a b d so.lives (keeps_same b d kept);
              rows = held_own (Ok tt) rows;
              acts = acts_then stepped_acts (as_round more);
              script = λ r w last later.
                  so.script r w last
                  (scripts.held so.here.0 used so.here.1 (subst (λ q. IsOneStepped i so.here.0 b q c now next) is one) more posted later);
              few = so.few;
              faults = omega (arith, first, on_late);
            }

        pub held_smaller : 2 * (reads - count) + length d.delivery.queue.chunks < 2 * (reads - count) + length b.delivery.queue.chunks
        held_smaller =
            let less = posted.fewer in
            let queue = ap (λ (k : Agents). length k.delivery.queue.chunks) same in
            omega (arith, less, queue)
