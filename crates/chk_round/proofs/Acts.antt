-- Which calls the parts of a round make.
use Rattle.std.proofs.Common.{◌≡◌, inl, inr, ℕ, Bool, true, false, List, [], ◌∷◌, ◌++◌, Option, Some, None, Result, Ok, Err, refl, sym, subst, ap, ◌∙◌, append_assoc, true≢false}
use Rattle.std.specs.Prelude.{MatchBool}
use Rattle.chk_bytes.specs.Stems.{Stem}
use Rattle.chk_bytes.specs.declared.NoMemory.{NoMemory as Wanting}
use Rattle.chk_control.specs.declared.Class.{Class}
use Rattle.chk_site.specs.declared.acts.ActAnswer.{ActAnswer}
use Rattle.chk_site.specs.declared.acts.Call.TheVariants.{Answer, Clock, Got, LogNewest, Send, Take}
use Rattle.chk_site.specs.declared.acts.CallFault.{CallFault}
use Rattle.chk_site.specs.declared.acts.CallFault.TheVariants.{Failed, NoMemory as site_wanting}
use Rattle.chk_site.specs.declared.acts.OutsideFault.{OutsideFault}
use Rattle.chk_site.specs.declared.acts.Role.TheVariants.{Agent, Collector}
use Rattle.chk_site.specs.declared.acts.Who.{Who}
use Rattle.chk_site.specs.declared.suffixes.Piece.{Piece}
use Rattle.chk_site.specs.declared.suffixes.Taking.{Taking}
use Rattle.chk_site.specs.Acts.{Deed, Creates, Sends as sends_message, deed}
use Rattle.chk_site.specs.History.{Every, History}
use Rattle.chk_site.specs.Messages.{self_address}
use Rattle.chk_site.specs.Runs.{Leads, Owns}
use Rattle.chk_site.specs.Site.{Adds, Asked, Calls, CallsSome, answered, asked, bytes_given, piece_given, plain, sized, suffix_given, taking_given}
use Rattle.chk_site.proofs.Leads.{call_owned}
use Rattle.chk_site.proofs.Runs.{adds_as, adds_both, adds_none, adds_then, every_join}
use Rattle.chk_replace.specs.Replace.{replacement}
use Rattle.chk_tail.specs.Walks as walk
use Rattle.chk_tail.specs.Walks.{Spot, Walks, Way, reading}
use Rattle.chk_tail.specs.declared.step.Step.{Step}
use Rattle.chk_checkpoint.specs.Lines.{written_text}
use Rattle.chk_world.specs.Checkpoints.{Line}
use Rattle.chk_world.specs.JobSteps.{IsOf}
use Rattle.chk_world.specs.Knowing.{agent}
use Rattle.chk_world.specs.Names.{CheckFile, spell}
use Rattle.chk_world.specs.Places.{As, IsBy}
use Rattle.chk_world.specs.Works.{Asks, IsOneOf, Works, deed_of}
use Rattle.chk_world.proofs.Beside.{owns_as}
use Rattle.chk_world.proofs.Working.{script_works, works_own}
use Rattle.chk_sink.specs.States.{State as Sinks, Writing, last_stem, needs_next, next_stem, process}
use Rattle.chk_sink.specs.Works.{IsAppendTo, IsMaking, OfPut, OfStart, OfTick, close_calls, commit_calls}
use Rattle.chk_collector.specs.Handled.{OfRequest}
use Rattle.chk_agent_adaptor.specs.Adaptors.{Adaptor}
use Rattle.chk_agent_delivery.specs.declared.answers.Answered.{Answered}
use Rattle.chk_agent_delivery.specs.declared.answers.Below.{Below}
use Rattle.chk_agent_delivery.specs.declared.answers.PollAnswer.{PollAnswer}
use Rattle.chk_agent_delivery.specs.declared.answers.Polled.{Polled}
use Rattle.chk_agent_delivery.specs.declared.answers.Posted.{Posted}
use Rattle.chk_agent_delivery.specs.Scripts as script
use Rattle.chk_agent_delivery.specs.Scripts.{AsksReply, IsPolled, IsPollReplied, IsPosted, IsPostReplied, Sends}
use Rattle.chk_agent_delivery.specs.States.{State as Delivery, address_now}
use Rattle.chk_agent.specs.Adds as adding
use Rattle.chk_agent.specs.Adds.{Found, IsAdded, IsNewest, TakesStream}
use Rattle.chk_agent.specs.declared.answers.Added.{Added}
use Rattle.chk_agent.specs.declared.answers.AgentFault.{AgentFault}
use Rattle.chk_agent.specs.declared.answers.Settled.{Settled}
use Rattle.chk_agent.specs.declared.answers.Stepped.{Stepped}
use Rattle.chk_agent.specs.Fills as fill
use Rattle.chk_agent.specs.Fills.{IsOneStepped}
use Rattle.chk_agent.specs.Settles as settle
use Rattle.chk_agent.specs.Settles.{IsSettled, Writes, gone_at, reset, settled}
use Rattle.chk_agent.specs.States.{State as Agents, lines_of, process as agent_of}
use Rattle.chk_archive.specs.Archived.{ArchivesBy}
use Rattle.chk_exchange.specs.declared.fault.ExchangeFault.{ExchangeFault}
use Rattle.chk_exchange.specs.Exchanges as inside
use Rattle.chk_exchange.specs.Exchanges.{EndsPoll, EndsPost, PollsInside, PostsInside, Responds, SendsPoll, SendsPost, Serves, Takes}
use Rattle.chk_exchange.proofs.Ending.{at_self}
use Rattle.chk_round.specs.declared.faults.RoundFault.{RoundFault}
use Rattle.chk_round.specs.Adding as logs
use Rattle.chk_round.specs.Adding.{AddsLogs}
use Rattle.chk_round.specs.Calls as calls
use Rattle.chk_round.specs.Calls.{BegunActs, CollectsBy, IsRestCall, IsRestStep, IsRoundCall, IsRoundStep, IsStarting, RestCalls, RoundActs, RoundCalls, TimedActs}
use Rattle.chk_round.specs.declared.whole_round.Rounded.{Rounded}
use Rattle.chk_round.specs.Processes.{IsRunOf, c1, processes}
use Rattle.chk_round.specs.Rounded.{RoundTo}
use Rattle.chk_round.specs.Starts.{ClockGave, EndsWithClock}

-- ---- in turn

pub rest_none : (now : Option History) → Adds now now RestCalls
rest_none now = adds_none now RestCalls (λ history. tt)

pub rest_then : {old mid new : Option History} → Adds old mid RestCalls → Adds mid new RestCalls
    → Adds old new RestCalls
rest_then p q =
    adds_then RestCalls p q
    (λ a b history x y. every_join
    (λ before step. step.own ≡ true → IsRestStep before step) b a history x y)

call_acts : (q : Asked) (given : Result ActAnswer CallFault) → IsRestCall q.who (deed_of q)
    → {old new : Option History}
    → Adds old new (Calls q given) → Adds old new RestCalls
call_acts q given is p =
    adds_as RestCalls p
    (λ a h made. call_owned IsRestStep given (λ before answer files logs running. is) made)

some_acts : (q : ℕ → Asked) (given : ℕ → Result ActAnswer CallFault)
    → ((n : ℕ) → IsRestCall (q n).who (deed_of (q n)))
    → {old new : Option History} → Adds old new (CallsSome q given) → Adds old new RestCalls
some_acts q given is p =
    adds_as RestCalls p
    (λ a h made. call_owned IsRestStep (given made.0)
    (λ before answer files logs running. is made.0) made.1)

works_acts : {who : Who} {P : Deed → Type 0} {fault : Option OutsideFault}
    → ((call : Deed) → P call → IsRestCall who call)
    → {old new : Option History} → Works who P fault old new → Adds old new RestCalls
works_acts {who = who} {P = P} kind works =
    adds_as RestCalls (works_own works)
    (owns_as (Asks who P) IsRestStep
    (λ before step asks. subst (λ w. IsRestCall w (deed step.act)) (sym asks.by)
    (kind (deed step.act) asks.allowed)))

-- ---- the collector

append_makes : (x : Stem) (call : Deed) → IsAppendTo x call → IsMaking x call
append_makes x (Creates w) is = absurd is
append_makes x call is = is

of_put : (who : Who) (s : Sinks) (call : Deed) → OfPut s call → CollectsBy who call
of_put who s call is = go (needs_next s.current) is
  where
    go : (b : Bool) → MatchBool b (IsMaking (next_stem s) call) (IsAppendTo (last_stem s) call)
        → CollectsBy who call
    go true is = calls.puts (next_stem s) call is
    go false is = calls.puts (last_stem s) call (append_makes (last_stem s) call is)

of_request : (who : Who) (bytes : List ℕ) (s : Sinks) (call : Deed) → OfRequest bytes s call
    → CollectsBy who call
of_request who bytes s call (inl post) = of_put who post.2.1 call post.2.3
of_request who bytes s call (inr poll) = calls.asks poll.2.0 call poll.2.2

of_commit : (s : Sinks) (o : Option Writing) (call : Deed) → IsOneOf (commit_calls s o) call
    → CollectsBy (process s) call
of_commit s None call is = absurd is
of_commit s (Some o) call is = calls.commits (last_stem s) o.size refl call is

of_close : (s : Sinks) (o : Option Writing) (call : Deed) → IsOneOf (close_calls s o) call
    → CollectsBy (process s) call
of_close s None call is = absurd is
of_close s (Some o) call is = calls.closes (last_stem s) refl call is

of_tick : (s : Sinks) (call : Deed) → OfTick s call → CollectsBy (process s) call
of_tick s call (inl (inl is)) = subst (CollectsBy (process s)) (sym is) calls.lists
of_tick s call (inl (inr left)) = calls.settles left.0 left.1.own call left.2
of_tick s call (inr (inl commit)) = of_commit s s.current call commit
of_tick s call (inr (inr close)) = of_close s s.current call close

pub tick_acts : (s : Sinks) {fault : Option OutsideFault} {old new : Option History}
    → Works (process s) (OfTick s) fault old new → Adds old new RestCalls
tick_acts s works =
    works_acts (λ call is. calls.collects (process s) refl call (of_tick s call is)) works

request_acts : (bytes : List ℕ) (s : Sinks) {fault : Option OutsideFault} {old new : Option History}
    → Works (process s) (OfRequest bytes s) fault old new → Adds old new RestCalls
request_acts bytes s works =
    works_acts
    (λ call is. calls.collects (process s) refl call
    (of_request (process s) bytes s call is)) works

module _ {who : Who} (role : who.role ≡ Collector) where
  answer_acts : (t : ℕ) (reply : List ℕ) (given : Result (Unit {0}) CallFault)
      {old new : Option History}
      → inside.Answers who t reply given old new → Adds old new RestCalls
  answer_acts t reply given call =
      call_acts (asked who Answer (reply ∷ []) t 0) (answered plain given)
      (calls.collects who role _ (calls.answers t reply)) call

  take_acts : (given : Result (Option Taking) CallFault) {old new : Option History}
      → Takes who given old new → Adds old new RestCalls
  take_acts given call =
      some_acts (λ of. asked who Take (self_address ∷ []) 0 0)
      (λ of. answered (taking_given of) given)
      (λ n. calls.collects who role _ calls.takes) call

  responds_acts : {s t : Sinks} {taking : ℕ} {request : List ℕ}
      {result : Result (Option ExchangeFault) ExchangeFault}
      {old new : Option History} → Responds who s taking request result t old new
      → Adds old new RestCalls
  responds_acts {s = s} {request = request} (Responds.unreplied un) = request_acts request s un.own
  responds_acts {s = s} {taking = taking} {request = request}
      (Responds.unsent reply fault given replied ends call) =
      rest_then (request_acts request s replied.own) (answer_acts taking reply given call)
  responds_acts {s = s} {taking = taking} {request = request}
      (Responds.unread reply replied is call) =
      rest_then (request_acts request s replied.own) (answer_acts taking reply (Ok tt) call)
  responds_acts {s = s} {taking = taking} {request = request}
      (Responds.sent reply made replied is call) =
      rest_then (request_acts request s replied.own) (answer_acts taking reply (Ok tt) call)

  serves_acts : {s t : Sinks} {result : Result (Option ExchangeFault) ExchangeFault}
      {old new : Option History}
      → Serves who s result t old new → Adds old new RestCalls
  serves_acts (Serves.untaken fault given ends call) = take_acts given call
  serves_acts (Serves.none call) = take_acts (Ok None) call
  serves_acts (Serves.taken taking call responds) = rest_then (take_acts (Ok (Some taking)) call)
      (responds_acts responds)

-- ---- the agent

module _ {who : Who} (role : who.role ≡ Agent) where
  send_acts : (d : Delivery) (bytes : List ℕ) → address_now d.ring ≡ self_address
      → (given : Result ℕ CallFault) {old new : Option History}
      → Sends who (address_now d.ring) bytes given old new → Adds old new RestCalls
  send_acts d bytes to given call =
      some_acts (λ n. asked who Send (address_now d.ring ∷ bytes ∷ []) n 0)
      (λ n. answered sized given)
      (λ n. subst (λ a. IsRestCall who (sends_message n a bytes)) (sym to)
      (calls.talks who role _ (calls.sends n bytes))) call

  ask_acts : (m : ℕ) (given : Result (List ℕ) CallFault) {old new : Option History}
      → AsksReply who m given old new
      → Adds old new RestCalls
  ask_acts m given call =
      call_acts (asked who Got [] m 0) (answered bytes_given given)
      (calls.talks who role _ (calls.gets m)) call

  posted_acts : {d e : Delivery} → d.ring.addresses ≡ self_address ∷ []
      → {given : Result Posted Wanting} {old new : Option History}
      → IsPosted who d given e old new → Adds old new RestCalls
  posted_acts to (script.empty {now = now} is) = rest_none now
  posted_acts to (script.no_rows {now = now} some is) = rest_none now
  posted_acts {d = d} to (script.sent front bytes m is written call) =
      send_acts d bytes (at_self d.ring to written.to) (Ok m) call
  posted_acts {d = d} to (script.failed front bytes is written call) =
      send_acts d bytes (at_self d.ring to written.to) (Err Failed) call
  posted_acts to (script.unsent {now = now} fault) = rest_none now
  posted_acts {d = d} to (script.refused fault front bytes is written call) =
      send_acts d bytes (at_self d.ring to written.to) (Err site_wanting) call

  replied_acts : {now : ℕ} {d e : Delivery} {given : Result Answered Wanting}
      {old new : Option History}
      → IsPostReplied who now d given e old new → Adds old new RestCalls
  replied_acts (script.nothing {at = at} is) = rest_none at
  replied_acts (script.got p bytes is call takes) = ask_acts p.message (Ok bytes) call
  replied_acts (script.silent p is call) = ask_acts p.message (Err Failed) call
  replied_acts (script.wanting fault p is call) = ask_acts p.message (Err site_wanting) call

  polled_acts : {d e : Delivery} → d.ring.addresses ≡ self_address ∷ []
      → {given : Result Polled Wanting} {old new : Option History}
      → IsPolled who d given e old new → Adds old new RestCalls
  polled_acts to (script.none {now = now} is) = rest_none now
  polled_acts {d = d} to (script.sent bytes m written call) =
      send_acts d bytes (at_self d.ring to written.to) (Ok m) call
  polled_acts {d = d} to (script.failed bytes written call) =
      send_acts d bytes (at_self d.ring to written.to) (Err Failed) call
  polled_acts to (script.unsent {now = now} fault) = rest_none now
  polled_acts {d = d} to (script.refused fault bytes written call) =
      send_acts d bytes (at_self d.ring to written.to) (Err site_wanting) call

  lengths_acts : {d e : Delivery} {given : Result PollAnswer Wanting} {old new : Option History}
      → IsPollReplied who d given e old new → Adds old new RestCalls
  lengths_acts (script.nothing {at = at} is) = rest_none at
  lengths_acts (script.got p bytes is call takes) = ask_acts p.message (Ok bytes) call
  lengths_acts (script.silent p is call) = ask_acts p.message (Err Failed) call
  lengths_acts (script.wanting fault p is call) = ask_acts p.message (Err site_wanting) call

-- ---- an exchange

post_sent : {a b : Agents} {result : Result (Unit {0}) ExchangeFault} {old new : Option History}
    → a.delivery.ring.addresses ≡ self_address ∷ [] → SendsPost a result b old new
    → Adds old new RestCalls
post_sent to (SendsPost.sent count posts) = posted_acts refl to posts.made
post_sent to (SendsPost.failed posts) = posted_acts refl to posts.made
post_sent to (SendsPost.unsent posts) = posted_acts refl to posts.made

post_ended : {now count : ℕ} {b c : Agents} {made : Option ExchangeFault}
    {result : Result (Unit {0}) ExchangeFault}
    {old new : Option History} → EndsPost now count b made result c old new
    → Adds old new RestCalls
post_ended (EndsPost.ungot replies) = replied_acts refl replies.made
post_ended (EndsPost.silent replies) = replied_acts refl replies.made
post_ended (EndsPost.taken none replies) = replied_acts refl replies.made
post_ended (EndsPost.told fault answer some which replies) = replied_acts refl replies.made
post_ended (EndsPost.refused code other replies) = replied_acts refl replies.made

pub post_acts : {who : Who} {now : ℕ} {s t : Sinks} {a b : Agents}
    {result : Result (Unit {0}) ExchangeFault}
    {old new : Option History} → who.role ≡ Collector
    → a.delivery.ring.addresses ≡ self_address ∷ []
    → PostsInside who now s a result t b old new → Adds old new RestCalls
post_acts role to (inside.PostsInside.unsent fault sends) = post_sent to sends
post_acts role to (inside.PostsInside.unserved count fault posts serves) =
    rest_then (posted_acts refl to posts.made) (serves_acts role serves)
post_acts role to (inside.PostsInside.ended count made posts serves ends) =
    rest_then (rest_then (posted_acts refl to posts.made) (serves_acts role serves))
    (post_ended ends)

poll_sent : {a b : Agents} {result : Result (Unit {0}) ExchangeFault} {old new : Option History}
    → a.delivery.ring.addresses ≡ self_address ∷ [] → SendsPoll a result b old new
    → Adds old new RestCalls
poll_sent to (SendsPoll.sent count polls) = polled_acts refl to polls.made
poll_sent to (SendsPoll.failed polls) = polled_acts refl to polls.made
poll_sent to (SendsPoll.unsent polls) = polled_acts refl to polls.made

poll_ended : {count : ℕ} {b c : Agents} {made : Option ExchangeFault}
    {result : Result (Option Below) ExchangeFault}
    {old new : Option History} → EndsPoll count b made result c old new → Adds old new RestCalls
poll_ended (EndsPoll.ungot replies) = lengths_acts refl replies.made
poll_ended (EndsPoll.silent replies) = lengths_acts refl replies.made
poll_ended (EndsPoll.taken below none replies) = lengths_acts refl replies.made
poll_ended (EndsPoll.told fault answer some which replies) = lengths_acts refl replies.made
poll_ended (EndsPoll.refused code other replies) = lengths_acts refl replies.made

pub poll_acts : {who : Who} {s t : Sinks} {a b : Agents}
    {result : Result (Option Below) ExchangeFault}
    {old new : Option History} → who.role ≡ Collector
    → a.delivery.ring.addresses ≡ self_address ∷ []
    → PollsInside who s a result t b old new → Adds old new RestCalls
poll_acts role to (inside.PollsInside.unsent fault sends) = poll_sent to sends
poll_acts role to (inside.PollsInside.unserved count fault polls serves) =
    rest_then (polled_acts refl to polls.made) (serves_acts role serves)
poll_acts role to (inside.PollsInside.ended count made polls serves ends) =
    rest_then (rest_then (polled_acts refl to polls.made) (serves_acts role serves))
    (poll_ended ends)

-- ---- with the reads

-- calls that read no log
pub as_round : {old new : Option History} → Adds old new RestCalls → Adds old new RoundCalls
as_round p =
    adds_as RoundCalls p
    (owns_as IsRestStep IsRoundStep
    (λ before step is. calls.rests step.act.who (deed step.act) is))

pub acts_none : (now : Option History) → Adds now now RoundCalls
acts_none now = adds_none now RoundCalls (λ history. tt)

pub acts_then : {old mid new : Option History} → Adds old mid RoundCalls → Adds mid new RoundCalls
    → Adds old new RoundCalls
acts_then p q =
    adds_then RoundCalls p q
    (λ a b history x y. every_join
    (λ before step. step.own ≡ true → IsRoundStep before step) b a history x y)

read_call : (q : Asked) (given : Result ActAnswer CallFault) → IsRoundCall q.who (deed_of q)
    → {old new : Option History}
    → Adds old new (Calls q given) → Adds old new RoundCalls
read_call q given is p =
    adds_as RoundCalls p
    (λ a h made. call_owned IsRoundStep given (λ before answer files logs running. is) made)

-- ---- the agent's reads and its checkpoint

read_acts : (way : Way) (p : Spot) (given : Result Piece CallFault) → way.who.role ≡ Agent
    → {old new : Option History}
    → Adds old new (Calls (reading way p) (answered piece_given given)) → Adds old new RoundCalls
read_acts way p given role call =
    read_call (reading way p) (answered piece_given given)
    (calls.reads way.who role _ (calls.reads_log way.path _ _ _)) call

walks_acts : {way : Way} {result : Result Step OutsideFault} {next p : Spot} {marks : List Spot}
    {old new : Option History}
    → way.who.role ≡ Agent → Walks way result next p marks old new → Adds old new RoundCalls
walks_acts {way = way} role
    (walk.decided {p = p} given call decides) = read_acts way p given role call
walks_acts {way = way} role (walk.walked {p = p} piece suffix ended after none call more) =
    acts_then (read_acts way p (Ok piece) role call) (walks_acts role more)
walks_acts {way = way} role (walk.unkept {p = p} piece some call is same) = read_acts way p
    (Ok piece) role call

pub step_acts : {i : ℕ} {a : Adaptor} {s t : Agents} {result : Result Stepped AgentFault}
    {old new : Option History}
    → IsOneStepped i a s result t old new → Adds old new RoundCalls
step_acts (fill.held {now = now} is) = acts_none now
step_acts (fill.made b step held is) = walks_acts refl is.walks
step_acts (fill.refused b fault held is) = walks_acts refl is.walks
step_acts (fill.unkept b step held is) = walks_acts refl is.walks
step_acts (fill.wanting {now = now} held) = acts_none now

writes_acts : (s : Agents) (lines : List Line) {result : Result (Unit {0}) OutsideFault}
    {old new : Option History}
    → Writes s lines result old new → Adds old new RestCalls
writes_acts s lines made =
    works_acts
    (λ call is. calls.talks (agent_of s) refl call (calls.saves (written_text lines) call is))
    (script_works (agent_of s)
    (replacement (agent_of s) (spell (CheckFile s.source)) (written_text lines))
    (refl, (refl, (refl, (refl, (refl, tt))))) made)

pub settle_acts : {now : ℕ} {s t : Agents} {result : Result Settled AgentFault}
    {old new : Option History}
    → IsSettled now s result t old new → Adds old new RestCalls
settle_acts (settle.same {at = at} is) = rest_none at
settle_acts {now = now} {s = s} (settle.written other made) = writes_acts s
    (lines_of (settled (reset (gone_at now s) s))) made
settle_acts {now = now} {s = s} (settle.failed call other made) = writes_acts s
    (lines_of (settled (reset (gone_at now s) s))) made
settle_acts {now = now} {s = s} (settle.unwritten other made) = writes_acts s
    (lines_of (settled (reset (gone_at now s) s))) made
settle_acts (settle.wanting {at = at}) = rest_none at

newest_asked : (s : Agents) (path : List ℕ) (given : Result (Option (List ℕ)) CallFault)
    {old new : Option History}
    → Adds old new
    (Calls (asked (agent_of s) LogNewest (path ∷ []) 0 0) (answered suffix_given given))
    → Adds old new RoundCalls
newest_asked s path given call =
    read_call (asked (agent_of s) LogNewest (path ∷ []) 0 0) (answered suffix_given given)
    (calls.reads (agent_of s) refl _ (calls.asks_newest path)) call

newest_acts : {s : Agents} {path : List ℕ} {b : Bool} {after : Option (List ℕ)}
    {old new : Option History}
    → IsNewest s path b after old new → Adds old new RoundCalls
newest_acts (adding.not_asked {now = now}) = acts_none now
newest_acts {s = s} {path = path} (adding.asked_for newest call) = newest_asked s path
    (Ok newest) call

takes_acts : {s t : Agents} {name : List ℕ} {class : Class} {kind path : List ℕ} {start : ℕ}
    {found : Option Found}
    {result : Result (Unit {0}) AgentFault} {old new : Option History}
    → TakesStream s name class kind path start found result t old new → Adds old new RoundCalls
takes_acts {s = s} (adding.written {t = t} after newest is made) = acts_then (newest_acts newest)
    (as_round (writes_acts s (lines_of t) made))
takes_acts {s = s} (adding.failed {t = t} after call newest is made) = acts_then
    (newest_acts newest) (as_round (writes_acts s (lines_of t) made))
takes_acts {s = s} (adding.unwritten {t = t} after newest is made) = acts_then (newest_acts newest)
    (as_round (writes_acts s (lines_of t) made))
takes_acts (adding.unkept after newest) = newest_acts newest
takes_acts {s = s} {path = path} (adding.unasked asks call) = newest_asked s path (Err Failed) call
takes_acts {s = s} {path = path} (adding.wanting asks call) = newest_asked s path
    (Err site_wanting) call
takes_acts (adding.unbegun {at = at}) = acts_none at

added_acts : {class : Class} {kind path : List ℕ} {s t : Agents} {result : Result Added AgentFault}
    {old new : Option History}
    → IsAdded class kind path s result t old new → Adds old new RoundCalls
added_acts (adding.IsAdded.live {now = now} found there lives) = acts_none now
added_acts (adding.IsAdded.too_many {now = now} none full) = acts_none now
added_acts (adding.IsAdded.new name found there may named takes) = takes_acts takes
added_acts (adding.IsAdded.refused name found fault there may named takes) = takes_acts takes
added_acts (adding.IsAdded.wanting {now = now}) = acts_none now

pub logs_acts : {class : Class} {kind : List ℕ} {paths : List (List ℕ)} {s t : Agents}
    {result : Result (Unit {0}) RoundFault}
    {old new : Option History} → AddsLogs class kind paths s result t old new
    → Adds old new RoundCalls
logs_acts (logs.all {now = now}) = acts_none now
logs_acts (logs.one added is rest) = acts_then (added_acts is) (logs_acts rest)
logs_acts (logs.refused fault is) = added_acts is

-- ---- the job

archive_steps : (added history : History) → Every (IsOf ArchivesBy) added history
    → RestCalls added history
archive_steps [] history made = tt
archive_steps (step ∷ added) history made =
    (archive_steps added history made.0, λ own. go own made.1)
  where
    go : step.own ≡ true → IsOf ArchivesBy (added ++ history) step → IsRestCall step.act.who
        (deed step.act)
    go own (inl theirs) = absurd (true≢false (sym own ∙ theirs.0))
    go own (inr mine) = subst (λ w. IsRestCall w (deed step.act)) (sym mine.0.by)
        (calls.archives (deed step.act) mine.1)

pub archive_acts : {old new : Option History} → Adds old new (Every (IsOf ArchivesBy))
    → Adds old new RestCalls
archive_acts own = adds_as RestCalls own archive_steps

-- ---- the starts

module _ (source : List ℕ) where
  abbrev Begins : History → History → Type 0
  Begins = Owns (IsStarting source)

  pub begins_then : {old mid new : Option History} → Adds old mid Begins → Adds mid new Begins
      → Adds old new Begins
  begins_then p q =
      adds_then Begins p q
      (λ a b history x y. every_join
      (λ before step. step.own ≡ true → IsStarting source before step) b a history x y)

  pub collector_begins : {fault : Option OutsideFault} {old new : Option History} → Works c1
      (OfStart c1) fault old new
      → Adds old new Begins
  collector_begins works =
      adds_as Begins (works_own works)
      (owns_as (Asks c1 (OfStart c1)) (IsStarting source)
      (λ before step asks. inl (asks.by, asks.allowed)))

  pub agent_begins : {A B : History → Type 0} {old new : Option History} → Adds old new
      (Leads (As [] (agent source)) A B)
      → Adds old new Begins
  agent_begins told =
      adds_as Begins told
      (λ a h x. owns_as (IsBy (agent source)) (IsStarting source)
      (λ before step by. inr (by.by, by.quiet)) a h x.own)

  clock_begins : (given : Result ℕ CallFault) {old new : Option History}
      → Adds old new (Calls (asked (agent source) Clock [] 0 0) (answered sized given))
      → Adds old new Begins
  clock_begins given call =
      adds_as Begins call
      (λ a h made. call_owned (IsStarting source) (answered sized given)
      (λ before answer files logs running. inr (refl, refl)) made)

  pub time_begins : (result : Result ℕ RoundFault) {old new : Option History} → ClockGave
      (agent source) result old new
      → Adds old new Begins
  time_begins (Ok now) call = clock_begins (Ok now) call
  time_begins (Err fault) gave = clock_begins (Err gave.0) gave.1

  -- ---- all in turn

  pub unbegun_acts : (now : Option History) → Adds now now (BegunActs source)
  unbegun_acts now =
      adds_none now (BegunActs source)
      (λ history. record
      { rest = []; starting = []; split = refl; starts = tt; calls = tt; time = inl refl })

  pub only_begun : {old new : Option History} → Adds old new Begins → Adds old new
      (BegunActs source)
  only_begun p =
      adds_as (BegunActs source) p
      (λ a h x. record
      { rest = []; starting = a; split = refl; starts = x; calls = tt; time = inl refl })

  pub timed : (now : ℕ) {old new : Option History} → Adds old new Begins → Adds old new
      (EndsWithClock (agent source) now)
      → Adds old new (TimedActs source)
  timed now p q =
      adds_both (TimedActs source) p q
      (λ a h x y. (
        record { rest = []; starting = a; split = refl; starts = x; calls = tt; time = inl refl },
        (now, y),
      ))

  pub timed_then : {old mid new : Option History} → Adds old mid (TimedActs source)
      → Adds mid new RoundCalls
      → Adds old new (TimedActs source)
  timed_then p q =
      adds_then (TimedActs source) p q
      (λ a b history z y. let x = z.0 in (
        record {
          rest = b ++ x.rest;
          starting = x.starting;
          split = ap (λ z. b ++ z) x.split ∙ sym (append_assoc b x.rest x.starting);
          starts = x.starts;
          calls = every_join (λ before step. step.own ≡ true → IsRoundStep before step) b x.rest
              (x.starting ++ history) x.calls
              (subst (RoundCalls b)
              (ap (λ z. z ++ history) x.split ∙ append_assoc x.rest x.starting history) y);
          time = inr z.1;
        },
        z.1,
      ))

  pub begun_of : {old new : Option History} → Adds old new (TimedActs source) → Adds old new
      (BegunActs source)
  begun_of p = adds_as (BegunActs source) p (λ a h x. x.0)

  pub all_acts : {result : Result Rounded RoundFault} {old new : Option History}
      → ((started acting : List Who) → IsRunOf source started acting → Adds old new
      (RoundTo [] started acting source result))
      → Adds old new (BegunActs source) → Adds old new (RoundActs source)
  all_acts told begun =
      adds_both (RoundActs source)
      (told (processes source) (processes source)
      (record { started_all = λ who one. one; acts_all = λ who one. one }))
      begun
      (λ a h x y. record { three = x.leads.own; begun = y })
