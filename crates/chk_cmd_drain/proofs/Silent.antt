-- Behind its start an agent prints nothing before its lines.
use Rattle.std.proofs.Common.{◌≡◌, inl, inr, ℕ, Bool, true, false, List, [], ◌∷◌, ◌++◌, Option, Result, Ok, Err, ap, ◌∙◌, refl}
use Rattle.chk_bytes.specs.declared.NoMemory.{NoMemory as NoRoom}
use Rattle.chk_site.specs.declared.acts.Act.{Act}
use Rattle.chk_site.specs.declared.acts.ActAnswer.{ActAnswer}
use Rattle.chk_site.specs.declared.acts.ActAnswer.TheVariants.{Refused, Stopped}
use Rattle.chk_site.specs.declared.acts.Call.TheVariants.{Send}
use Rattle.chk_site.specs.declared.acts.CallFault.{CallFault}
use Rattle.chk_site.specs.declared.acts.CallFault.TheVariants.{Failed, Missing, Exists, Short, NoMemory}
use Rattle.chk_site.specs.declared.acts.OutsideFault.{OutsideFault}
use Rattle.chk_site.specs.declared.acts.Who.{Who}
use Rattle.chk_site.specs.Acts.{deed_by}
use Rattle.chk_site.specs.History.{History, Every, IsTheirs, is_stopped}
use Rattle.chk_site.specs.Runs as runs
use Rattle.chk_site.specs.Runs.{MadeInTurn, own_acts}
use Rattle.chk_site.specs.Site.{Acted, Added, Adds, Asked, Calls, answered, asked, sized}
use Rattle.chk_site.proofs.Runs.{adds_as, adds_none, adds_then}
use Rattle.chk_world.specs.Checkpoints.{Line}
use Rattle.chk_tail.specs.declared.step.Step.{Step}
use Rattle.chk_tail.specs.Walks.{Spot, Walks, Way, decided, unkept, walked}
use Rattle.chk_agent_adaptor.specs.Adaptors.{Adaptor}
use Rattle.chk_agent_delivery.specs.declared.answers.Answered.{Answered}
use Rattle.chk_agent_delivery.specs.declared.answers.PollAnswer.{PollAnswer}
use Rattle.chk_agent_delivery.specs.declared.answers.Polled.{Polled}
use Rattle.chk_agent_delivery.specs.declared.answers.Posted.{Posted}
use Rattle.chk_agent_delivery.specs.Scripts as script
use Rattle.chk_agent_delivery.specs.Scripts.{AsksReply, IsPollReplied, IsPolled, IsPostReplied, IsPosted, Sends}
use Rattle.chk_agent_delivery.specs.States.{State as Delivery, address_now}
use Rattle.chk_agent.specs.declared.answers.Reply.{Reply}
use Rattle.chk_agent.specs.declared.answers.Settled.{Settled}
use Rattle.chk_agent.specs.declared.answers.Stepped.{Stepped}
use Rattle.chk_agent.specs.declared.answers.AgentFault.{AgentFault}
use Rattle.chk_agent.specs.Adds as adding
use Rattle.chk_agent.specs.Adds.{IsNewest}
use Rattle.chk_agent.specs.Commands as commands
use Rattle.chk_agent.specs.Commands.{IsCommand}
use Rattle.chk_agent.specs.Fills as fill
use Rattle.chk_agent.specs.Fills.{IsOneStepped}
use Rattle.chk_agent.specs.Settles as settle
use Rattle.chk_agent.specs.Settles.{IsSettled, Writes}
use Rattle.chk_agent.specs.States.{State, lines_of}
use Rattle.chk_agent_run.specs.declared.faults.RunFault.{RunFault}
use Rattle.chk_agent_run.specs.Calls.{Clocked}
use Rattle.chk_agent_run.specs.Initial as lines
use Rattle.chk_agent_run.specs.Initial.{AreAdded, IsLineAdded}
use Rattle.chk_agent_drain.specs.declared.answers.Drained.{Drained}
use Rattle.chk_agent_drain.specs.declared.answers.Drained.TheVariants.{Done}
use Rattle.chk_agent_drain.specs.Drains as drain
use Rattle.chk_agent_drain.specs.Drains.{Drains, IsDrained, PollGives, PollTries, PostTries, Progress}
use Rattle.chk_cmd_output.specs.Printing.{print_of, printed}
use Rattle.chk_cmd_output.proofs.Silent.{Silent, silent_call, silent_then}
use Rattle.chk_cmd_drain.proofs.Keeping.{not_done}

none : (now : Option History) → Adds now now Silent
none now = adds_none now Silent (λ history. refl)

-- ---- calls

-- such a call prints nothing
abbrev IsQuiet : Asked → Type 0
IsQuiet q = (answer : ActAnswer)
    → print_of q.who (deed_by q.call q.words q.number q.max) answer ≡ []

call : (q : Asked) → IsQuiet q → {given : Result ActAnswer CallFault} {old new : Option History}
    → Adds old new (Calls q given) → Adds old new Silent
call q quiet {given = given} told = adds_as Silent told (silent_call q quiet given)

abbrev AllQuiet : List Asked → Type 0
AllQuiet [] = Unit {0}
AllQuiet (q ∷ qs) = IsQuiet q × AllQuiet qs

made : {qs : List Asked} {result : Result (Unit {0}) OutsideFault} {old new : Option History}
    → AllQuiet qs → MadeInTurn qs result old new → Adds old new Silent
made quiet runs.finished = none _
made quiet runs.unbegun = none _
made quiet (runs.went_on {q = q} given fine told rest) =
    silent_then (call q quiet.0 told) (made quiet.1 rest)
made quiet (runs.ended {q = q} given ends told) = call q quiet.0 told

writes : (s : State) (ls : List Line) {result : Result (Unit {0}) OutsideFault}
    {old new : Option History} → Writes s ls result old new → Adds old new Silent
writes s ls w = made ((λ a. refl), ((λ a. refl), ((λ a. refl), ((λ a. refl), ((λ a. refl), tt))))) w

sends : (who : Who) (address bytes : List ℕ) (given : Result ℕ CallFault) {old new : Option History}
    → Sends who address bytes given old new → Adds old new Silent
sends who address bytes given told =
    adds_as Silent told
    (λ a h c. silent_call (asked who Send (address ∷ bytes ∷ []) c.0 0) (λ answer. refl)
    (answered sized given) a h c.1)

-- ---- the lines of the initial file

newest : {s : State} {path : List ℕ} {asks : Bool} {after : Option (List ℕ)}
    {old new : Option History} → IsNewest s path asks after old new → Adds old new Silent
newest adding.not_asked = none _
newest (adding.asked_for after told) = call _ (λ a. refl) told

command : {line : List ℕ} {s t : State} {reply : Reply} {old new : Option History}
    → IsCommand line s (Ok reply) t old new → Adds old new Silent
command (commands.plainly e is) = none _
command (commands.refused_add given class kind path name offset n means names says) = none _
command {s = s} (commands.added given class kind path name offset means names free
    (adding.written {t = t} after new is w)) =
    silent_then (newest new) (writes s (lines_of t) w)

line : {text : List ℕ} {s t : State} {old new : Option History}
    → IsLineAdded text s (Ok true) t old new → Adds old new Silent
line (lines.skipped met) = none _
line (lines.accepted reply todo adds did met) = command did

all : {at : ℕ} {texts : List (List ℕ)} {s t : State} {result : Result (Unit {0}) RunFault}
    {old new : Option History}
    → AreAdded at texts s result t old new → result ≡ Ok tt → Adds old new Silent
all lines.all_added is = none _
all (lines.on one rest) is = silent_then (line one) (all rest is)
all (lines.bad one) is = absurd (cc)
all (lines.failed fault one) is = absurd (cc)

-- the time is asked for, and then the streams are added
pub added_silent : {who : Who} {now : ℕ} {texts : List (List ℕ)} {s t : State}
    {old mid new : Option History} → Clocked who (Ok now) old mid
    → AreAdded 0 texts s (Ok tt) t mid new → Adds old new Silent
added_silent clocked lines = silent_then (call _ (λ a. refl) clocked.told) (all lines refl)

-- ---- a drain

walks : {way : Way} {result : Result Step OutsideFault} {next p : Spot} {marks : List Spot}
    {old new : Option History} → Walks way result next p marks old new → Adds old new Silent
walks (decided given told decides) = call _ (λ a. refl) told
walks (walked piece suffix ended after taken told rest) =
    silent_then (call _ (λ a. refl) told) (walks rest)
walks (unkept piece some told wants stays) = call _ (λ a. refl) told

steps : {i : ℕ} {a : Adaptor} {s t : State} {given : Stepped} {old new : Option History}
    → IsOneStepped i a s (Ok given) t old new → Adds old new Silent
steps (fill.held is) = none _
steps (fill.made b step held is) = walks is.walks

posts : {who : Who} {s t : Delivery} {result : Result Posted NoRoom} {old new : Option History}
    → IsPosted who s result t old new → Adds old new Silent
posts (script.empty none_waits) = none _
posts (script.no_rows some no_room) = none _
posts {who = who} {s = s} (script.sent front bytes m is written told) =
    sends who (address_now s.ring) bytes (Ok m) told
posts {who = who} {s = s} (script.failed front bytes is written told) =
    sends who (address_now s.ring) bytes (Err Failed) told
posts (script.unsent fault) = none _
posts {who = who} {s = s} (script.refused fault front bytes is written told) =
    sends who (address_now s.ring) bytes (Err NoMemory) told

post_replies : {who : Who} {now : ℕ} {s t : Delivery} {result : Result Answered NoRoom}
    {old new : Option History} → IsPostReplied who now s result t old new → Adds old new Silent
post_replies (script.nothing is) = none _
post_replies (script.got p bytes is told takes) = call _ (λ a. refl) told
post_replies (script.silent p is told) = call _ (λ a. refl) told
post_replies (script.wanting fault p is told) = call _ (λ a. refl) told

polls : {who : Who} {s t : Delivery} {result : Result Polled NoRoom} {old new : Option History}
    → IsPolled who s result t old new → Adds old new Silent
polls (script.none is) = none _
polls {who = who} {s = s} (script.sent bytes m written told) =
    sends who (address_now s.ring) bytes (Ok m) told
polls {who = who} {s = s} (script.failed bytes written told) =
    sends who (address_now s.ring) bytes (Err Failed) told
polls (script.unsent fault) = none _
polls {who = who} {s = s} (script.refused fault bytes written told) =
    sends who (address_now s.ring) bytes (Err NoMemory) told

poll_replies : {who : Who} {s t : Delivery} {result : Result PollAnswer NoRoom}
    {old new : Option History} → IsPollReplied who s result t old new → Adds old new Silent
poll_replies (script.nothing is) = none _
poll_replies (script.got p bytes is told takes) = call _ (λ a. refl) told
poll_replies (script.silent p is told) = call _ (λ a. refl) told
poll_replies (script.wanting fault p is told) = call _ (λ a. refl) told

post_tries : {now : ℕ} {p q : Progress} {s t : State} {old new : Option History}
    → PostTries now p s q t old new → Adds old new Silent
post_tries (drain.unsent may sent) = posts sent.made
post_tries (drain.silent n may sent replies) =
    silent_then (posts sent.made) (post_replies replies.made)
post_tries (drain.refused n code may sent replies) =
    silent_then (posts sent.made) (post_replies replies.made)

poll_tries : {p q : Progress} {s t : State} {old new : Option History} → PollTries p s q t old new
    → Adds old new Silent
poll_tries (drain.unsent sent) = polls sent.made
poll_tries (drain.silent n sent lengths) = silent_then (polls sent.made) (poll_replies lengths.made)
poll_tries (drain.refused n code sent lengths) =
    silent_then (polls sent.made) (poll_replies lengths.made)

poll_gives : {p q : Progress} {s t : State} {old new : Option History} → PollGives p s q t old new
    → Adds old new Silent
poll_gives (drain.given n m below sent lengths) =
    silent_then (polls sent.made) (poll_replies lengths.made)

settles : {now : ℕ} {s t : State} {given : Settled} {old new : Option History}
    → IsSettled now s (Ok given) t old new → Adds old new Silent
settles (settle.same same) = none _
settles {now = now} {s = s} (settle.written other w) =
    writes s (lines_of (settle.settled (settle.reset (settle.gone_at now s) s))) w

drains : {now reads polls : ℕ} {p : Progress} {s t : State}
    {result : Result Drained AgentFault} {old new : Option History}
    → Drains now reads polls p s result t old new → result ≡ Ok Done → Adds old new Silent
drains (drain.read_on i n a at go left more one rest) is = silent_then (steps one) (drains rest is)
drains (drain.growing i n a at go left last one) is = absurd (cc)
drains (drain.at_end i a at go left one rest) is = silent_then (steps one) (drains rest is)
drains (drain.shrank i had size a at go left one) is = absurd (cc)
drains (drain.unread i a fault at go left one) is = absurd (cc)
drains (drain.posted n m may sent replies rest) is =
    silent_then (posts sent.made) (silent_then (post_replies replies.made) (drains rest is))
drains (drain.unposted tries more rest) is = silent_then (post_tries tries) (drains rest is)
drains (drain.none_took {q = q} tries all) is = absurd (not_done q is)
drains (drain.polled may gives waits some pauses rest) is =
    silent_then (poll_gives gives) (silent_then (call _ (λ a. refl) pauses) (drains rest is))
drains (drain.polled_last may gives left rest) is =
    silent_then (poll_gives gives) (drains rest is)
drains (drain.pending b may gives most last) is = absurd (cc)
drains (drain.unpolled may tries more rest) is = silent_then (poll_tries tries) (drains rest is)
drains (drain.none_told {q = q} may tries all) is = absurd (not_done q is)
drains (drain.unpaused given fault may gives waits some ends pauses) is = absurd (cc)
drains (drain.wanting wants) is = absurd (cc)
drains (drain.unsettled fault ended none rows settled) is = absurd (cc)
drains (drain.done_all settled ended all_settled delivered) is = settles all_settled

pub drained_silent : {now reads polls : ℕ} (s : State) {t : State} {old new : Option History}
    → IsDrained now reads polls s (Ok Done) t old new → Adds old new Silent
drained_silent s d = drains d refl
