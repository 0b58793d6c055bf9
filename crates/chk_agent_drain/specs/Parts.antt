-- What the parts of a drain come to.
use Rattle.std.specs.Prelude.{◌≡◌, ◌≢◌, ◌⊎◌, ℕ, ◌+◌, ◌-◌, ◌≤◌, ◌<◌, Bool, true, false, List, [], ◌∷◌, ◌++◌, length, if◌then◌else◌, nat_lt, slice_get, Option, Some, None, Result, Ok, Err}
use Rattle.chk_site.specs.declared.acts.Call.{Call}
use Rattle.chk_site.specs.declared.acts.Call.TheVariants.{Send, Got, Pause}
use Rattle.chk_site.specs.declared.acts.CallFault.{CallFault}
use Rattle.chk_site.specs.declared.acts.OutsideFault.{OutsideFault}
use Rattle.chk_site.specs.History.{History, is_stopped}
use Rattle.chk_site.specs.Site.{Adds, Ends, EndsIn, Rose}
use Rattle.chk_site.specs.Runs.{Leads}
use Rattle.chk_world.specs.Places.{Talking}
use Rattle.chk_acks.specs.declared.row.Row.{Row}
use Rattle.chk_acks.specs.Rows.{is_unmarked}
use Rattle.chk_acks.specs.Sound.{IsSound as IsSoundTable}
use Rattle.chk_agent_adaptor.specs.Adaptors.{Adaptor}
use Rattle.chk_agent_delivery.specs.declared.answers.Posted.TheVariants.{Sent, Failed as post_failed}
use Rattle.chk_agent_delivery.specs.declared.answers.Answered.TheVariants.{Taken, Refused, Silent}
use Rattle.chk_agent_delivery.specs.declared.answers.Polled.TheVariants.{Sent as poll_sent, Failed as poll_failed}
use Rattle.chk_agent_delivery.specs.declared.answers.PollAnswer.TheVariants.{Lengths, Refused as poll_refused, Silent as poll_silent}
use Rattle.chk_agent_delivery.specs.declared.answers.Below.{Below}
use Rattle.chk_agent_delivery.specs.States.{free_rows}
use Rattle.chk_agent.specs.declared.answers.AgentFault.{AgentFault}
use Rattle.chk_agent.specs.declared.answers.AgentFault.TheVariants.{Damaged, Outside, NoMemory}
use Rattle.chk_agent.specs.States.{State, process}
use Rattle.chk_agent.specs.Facts.{Matches}
use Rattle.chk_agent.specs.Faults.{AgentCause, fault_of}
use Rattle.chk_agent.specs.Fits.{IsSound}
use Rattle.chk_agent.specs.Turns.{Posts, GetsPostReply, Polls, GetsLengths}
use Rattle.chk_agent_drain.specs.declared.answers.Drained.{Drained}
use Rattle.chk_agent_drain.specs.declared.answers.Drained.TheVariants.{Done, Pending, Shrank}
use Rattle.chk_agent_drain.specs.declared.tries.Miss.{Miss}
use Rattle.chk_agent_drain.specs.declared.tries.Miss.TheVariants.{Unsent, Silent as no_reply, Refused as other_reply}
use Rattle.chk_agent_drain.specs.declared.tries.Tries.{Tries}
use Rattle.chk_agent_drain.specs.Drains.{Progress, AllEnded, Drains, NoneLeft, Pauses, SomeLeft, Wants, tried_by, tried_for}

-- ---- one post, one poll

-- one more try in a row without a good reply
abbrev pub missed : Miss → Progress → Progress
missed Unsent p = tried_by Send p
missed no_reply p = tried_by Got p
missed (other_reply code) p = tried_for code p

-- the last call that failed, after one more
abbrev pub failed_by : Miss → Option Call → Option Call
failed_by Unsent failed = Some Send
failed_by no_reply failed = Some Got
failed_by (other_reply code) failed = failed

-- A post is sent, and the reply to it is taken.
pub data PostsOnce (now : ℕ) (s : State) : Result (Result (Unit {0}) Miss) AgentFault → State
    → Option History → Option History → Type 0 where
  good : {t u : State} {old mid new : Option History} (n m : ℕ) → Posts s (Ok (Sent n)) t old mid
      → GetsPostReply now t (Ok (Taken m)) u mid new → PostsOnce now s (Ok (Ok tt)) u old new
  unsent : {t : State} {old new : Option History} → Posts s (Ok post_failed) t old new
      → PostsOnce now s (Ok (Err Unsent)) t old new
  silent : {t u : State} {old mid new : Option History} (n : ℕ) → Posts s (Ok (Sent n)) t old mid
      → GetsPostReply now t (Ok Silent) u mid new → PostsOnce now s (Ok (Err no_reply)) u old new
  refused : {t u : State} {old mid new : Option History} (n code : ℕ)
      → Posts s (Ok (Sent n)) t old mid
      → GetsPostReply now t (Ok (Refused code)) u mid new
      → PostsOnce now s (Ok (Err (other_reply code))) u old new
  wanting : {t : State} {old new : Option History} → Wants now s t old new
      → PostsOnce now s (Err NoMemory) t old new

-- A poll is sent, and the reply to it is taken.
pub data PollsOnce (now : ℕ) (s : State) : Result (Result (Option Below) Miss) AgentFault → State
    → Option History → Option History → Type 0 where
  good : {t u : State} {old mid new : Option History} (n m : ℕ) (below : Option Below)
      → Polls s (Ok (poll_sent n)) t old mid
      → GetsLengths t (Ok (Lengths m below)) u mid new → PollsOnce now s (Ok (Ok below)) u old new
  unsent : {t : State} {old new : Option History} → Polls s (Ok poll_failed) t old new
      → PollsOnce now s (Ok (Err Unsent)) t old new
  silent : {t u : State} {old mid new : Option History} (n : ℕ)
      → Polls s (Ok (poll_sent n)) t old mid
      → GetsLengths t (Ok poll_silent) u mid new → PollsOnce now s (Ok (Err no_reply)) u old new
  refused : {t u : State} {old mid new : Option History} (n code : ℕ)
      → Polls s (Ok (poll_sent n)) t old mid
      → GetsLengths t (Ok (poll_refused code)) u mid new
      → PollsOnce now s (Ok (Err (other_reply code))) u old new
  wanting : {t : State} {old new : Option History} → Wants now s t old new
      → PollsOnce now s (Err NoMemory) t old new

-- the count of faults rose where a call failed
abbrev pub MissCause : {T : Type 0} → ℕ → ℕ → Result (Result T Miss) AgentFault → Type 0
MissCause before now (Ok (Err Unsent)) = Rose before now × (before ≤ now)
MissCause before now (Ok (Err no_reply)) = Rose before now × (before ≤ now)
MissCause before now result = before ≤ now

-- ---- tries in a row

-- the call sends, or asks for a reply
abbrev pub is_talk : Call → Bool
is_talk Send = true
is_talk Got = true
is_talk call = false

abbrev pub IsTalk : Option Call → Type 0
IsTalk None = Unit {0}
IsTalk (Some call) = is_talk call ≡ true

-- where a call failed among them, the count of faults rose
abbrev pub RoseIf : Option Call → ℕ → ℕ → Type 0
RoseIf None before now = before ≤ now
RoseIf (Some call) before now = Rose before now × (before ≤ now)

-- The tries of a drain are so many in a row, with this call as the last one that failed; the code
-- is that of the last reply,
-- where none failed.
pub record AreTries (tries : Tries) (p : Progress) : Type 0 where
  pub count : p.tried ≡ tries.count
  pub failed : p.failed ≡ tries.failed
  pub code : p.tried ≢ 0 → p.failed ≡ None → p.code ≡ tries.code

-- nothing was tried since the last good reply
pub record IsUntried (p : Progress) : Type 0 where
  pub tried : p.tried ≡ 0
  pub failed : p.failed ≡ None

-- nor polled since the last post
pub record IsFresh (p : Progress) : Type 0 where
  pub untried : IsUntried p
  pub polls : p.polls ≡ 0

-- ---- parts of a drain

-- what is left of a drain from the later progress and state is what is left of it from the earlier
-- ones
abbrev pub Onward : ℕ → ℕ → ℕ → Progress → State → Progress → State → Option History
    → Option History → Type 0
Onward now reads polls p s q t old mid =
    (result : Result Drained AgentFault) (u : State) (new : Option History)
    → Drains now reads polls q t result u mid new → Drains now reads polls p s result u old new

-- the drain goes on from a later progress and state, of which this is known
pub record GoesOn (now reads polls : ℕ) (p : Progress) (s : State)
    (Known : Progress → State → Type 0) (t : State)
    (old new : Option History) : Type 0 where
  pub progress : Progress
  pub known : Known progress t
  pub source : t.source ≡ s.source
  pub ready : t.ready ≡ s.ready
  pub onward : Onward now reads polls p s progress t old new

-- the drain has ended, or goes on
abbrev pub Comes : ℕ → ℕ → ℕ → Progress → State → (Progress → State → Type 0)
    → Option (Result Drained AgentFault) → State
    → Option History → Option History → Type 0
Comes now reads polls p s Known (Some result) t old new = Drains now reads polls p s result t old
    new
Comes now reads polls p s Known None t old new = GoesOn now reads polls p s Known t old new

-- from a legal history each step obeys the agent's rules, and the history holds the later state
abbrev pub Talks : State → State → Option History → Option History → Type 0
Talks s t old new =
    (stamped : List (List ℕ)) → Adds old new
    (Leads (Talking stamped (process s)) (Matches stamped s) (Matches stamped t))

-- Where a drain ends at a log that is shorter than what was read of it, the site was stopped: in a
-- legal history no log is.
abbrev pub NeverShort : State → Option (Result Drained AgentFault) → Option History
    → Option History → Type 0
NeverShort s (Some (Ok (Shrank i had is))) old new =
    (stamped : List (List ℕ)) → Adds old new
    (Leads (Talking stamped (process s)) (Matches stamped s) (λ h. is_stopped h ≡ false → ⊥))
NeverShort s end old new = Unit {0}

-- the call that failed is the last one, but for a send or the question for a reply
abbrev pub FailsLastBut : Result Drained AgentFault → History → History → Type 0
FailsLastBut (Err (Outside call)) added history =
    is_talk call ≡ false → is_stopped (added ++ history) ≡ false → EndsIn call added
FailsLastBut result added history = Unit {0}

abbrev pub EndsLast : Option (Result Drained AgentFault) → History → History → Type 0
EndsLast (Some result) added history = FailsLastBut result added history
EndsLast None added history = Unit {0}

-- a drain that ended early isn't done, and found no damage
abbrev pub EndsEarly : Result Drained AgentFault → Type 0
EndsEarly (Ok Done) = ⊥
EndsEarly (Err (Damaged at)) = ⊥
EndsEarly result = Unit {0}

-- the count of faults rose where a call that failed is answered
abbrev pub EndCause : ℕ → ℕ → Option (Result Drained AgentFault) → Type 0
EndCause before now (Some result) = AgentCause before now result × EndsEarly result
EndCause before now None = before ≤ now

-- What a part of a drain comes to, in the history and in the count of faults.
pub record Part (now reads polls : ℕ) (p : Progress) (s : State) (Known : Progress → State → Type 0)
    (end : Option (Result Drained AgentFault)) (t : State) (old new : Option History)
    (before after : ℕ) : Type 0 where
  pub comes : Comes now reads polls p s Known end t old new
  pub talks : Talks s t old new
  pub long : NeverShort s end old new
  pub last : Adds old new (EndsLast end)
  pub cause : EndCause before after end

-- ---- what is known of later ones

-- as many reads of each log, and the same ends found
pub record SameReading (p q : Progress) : Type 0 where
  pub reads : q.reads ≡ p.reads
  pub ended : q.ended ≡ p.ended

-- the same adaptors and addresses, and as much room for rows
pub record SameRest (s t : State) : Type 0 where
  pub adaptors : t.adaptors ≡ s.adaptors
  pub addresses : t.delivery.ring.addresses ≡ s.delivery.ring.addresses
  pub room : t.delivery.table.room ≡ s.delivery.table.room

-- nothing more is known
abbrev pub Anything : Progress → State → Type 0
Anything q t = Unit {0}

-- behind a post with a good reply: fewer chunks wait
pub record PostedBy (p : Progress) (s : State) (q : Progress) (t : State) : Type 0 where
  pub reading : SameReading p q
  pub fresh : IsFresh q
  pub rest : SameRest s t
  pub fewer : length t.delivery.queue.chunks < length s.delivery.queue.chunks

-- behind posts of all chunks
pub record PostedAll (p : Progress) (s : State) (q : Progress) (t : State) : Type 0 where
  pub reading : SameReading p q
  pub fresh : IsFresh q
  pub rest : SameRest s t
  pub none : t.delivery.queue.chunks ≡ []

-- how many rows aren't marked yet
abbrev pub count_rows : (Row → Bool) → List Row → ℕ
count_rows test [] = 0
count_rows test (row ∷ rows) = (if test row then 1 else 0) + count_rows test rows

abbrev pub unmarked_in : State → ℕ
unmarked_in s = count_rows is_unmarked s.delivery.table.rows

-- behind polls without a good reply
pub record TriedPolls (p : Progress) (s : State) (q : Progress) (t : State) : Type 0 where
  pub reading : SameReading p q
  pub polls : q.polls ≡ p.polls
  pub rest : SameRest s t
  pub queue : t.delivery.queue ≡ s.delivery.queue
  pub table : t.delivery.table ≡ s.delivery.table

-- A poll with a good reply, behind tries without one.
pub record PolledTo (now reads polls : ℕ) (p : Progress) (s : State) (below : Option Below)
    (t : State)
    (old new : Option History) (before after : ℕ) : Type 0 where
  pub state : State
  pub mid : Option History
  pub count : ℕ
  pub tries : Part now reads polls p s (TriedPolls p s) None state old mid before count
  pub gives : PollsOnce now state (Ok (Ok below)) t mid new
  pub talks : Talks state t mid new
  pub on : count ≤ after

-- the polls of a drain up to one with a good reply, or up to its end
abbrev pub PollsOn : ℕ → ℕ → ℕ → Progress → State
    → Result (Option Below) (Result Drained AgentFault) → State
    → Option History → Option History → ℕ → ℕ → Type 0
PollsOn now reads polls p s (Ok below) t old new before after = PolledTo now reads polls p s below
    t old new before after
PollsOn now reads polls p s (Err result) t old new before after = Part now reads polls p s Anything
    (Some result) t old new before after

-- what a drain answers of the row below a good reply, before which so many were left
abbrev pub pending_by : ℕ → Option Below → Option Drained
pending_by left None = None
pending_by left (Some b) = if nat_lt 1 left then None else Some (Pending b.stem b.got b.want)

-- behind a poll with a good reply, of which so many were left before it
pub record PolledBy (left : ℕ) (p : Progress) (s : State) (q : Progress) (t : State) : Type 0 where
  pub reading : SameReading p q
  pub untried : IsUntried q
  pub polls : q.polls ≡ p.polls + 1
  pub rest : SameRest s t
  pub queue : t.delivery.queue ≡ s.delivery.queue
  pub fewer : unmarked_in t + (left - 1) < unmarked_in s + left

-- one row is wanted, or nothing waits and each log gave nothing
abbrev pub WantsRows : ℕ → Progress → State → Type 0
WantsRows wanted p s = (wanted ≡ 1) ⊎ ((s.delivery.queue.chunks ≡ []) × AllEnded p s)

-- behind polls, of which so many are left
pub record Polling (polls left : ℕ) (p : Progress) (s : State) (q : Progress) (t : State) : Type 0
  where
    pub reading : SameReading p q
    pub untried : IsUntried q
    pub remain : left ≡ polls - q.polls
    pub rest : SameRest s t
    pub queue : t.delivery.queue ≡ s.delivery.queue

-- behind polls that made so many rows free
pub record Freed (wanted : ℕ) (p : Progress) (s : State) (q : Progress) (t : State) : Type 0 where
  pub reading : SameReading p q
  pub untried : IsUntried q
  pub rest : SameRest s t
  pub queue : t.delivery.queue ≡ s.delivery.queue
  pub free : wanted ≤ free_rows t.delivery
  pub sound : IsSound t
  pub table : IsSoundTable t.delivery.table

-- the pause between two polls
abbrev pub PausesOnce : State → Result (Unit {0}) AgentFault → Option History → Option History
    → Type 0
PausesOnce s (Ok value) old new = Pauses s (Ok tt) old new
PausesOnce s (Err fault) old new =
    (given : Result (Unit {0}) CallFault) × (outside : OutsideFault)
    × Ends Pause given outside × Pauses s given old new × (fault ≡ fault_of outside)

-- whether nothing is left to poll for
abbrev pub Leaves : Bool → State → Type 0
Leaves true s = NoneLeft s
Leaves false s = SomeLeft s

-- the pause behind a poll with a good reply, where another poll is to follow; or else none
abbrev pub PausesBetween : State → Result (Unit {0}) AgentFault → Option History → Option History
    → Type 0
PausesBetween s (Ok value) old new =
    (NoneLeft s × (new ≡ old)) ⊎ (SomeLeft s × PausesOnce s (Ok value) old new)
PausesBetween s (Err fault) old new = SomeLeft s × PausesOnce s (Err fault) old new

-- all is delivered but for the checkpoint
pub record DeliveredBy (s : State) (q : Progress) (t : State) : Type 0 where
  pub ended : AllEnded q t
  pub queue : t.delivery.queue.chunks ≡ []
  pub rows : t.delivery.table.rows ≡ []
  pub adaptors : t.adaptors ≡ s.adaptors
  pub sound : IsSound t
  pub table : IsSoundTable t.delivery.table

-- ---- reads

-- no read of this adaptor's log was made
pub record WasNotRead (i : ℕ) (p : Progress) : Type 0 where
  pub reads : p.reads i ≡ 0
  pub ended : p.ended i ≡ false

abbrev pub IsUnread : Progress → Type 0
IsUnread p = (i : ℕ) → WasNotRead i p

-- the same of all other adaptors
pub record SameBut (i : ℕ) (p q : Progress) : Type 0 where
  pub reads : (k : ℕ) → k ≢ i → q.reads k ≡ p.reads k
  pub ended : (k : ℕ) → k ≢ i → q.ended k ≡ p.ended k

-- the other adaptors are the same, and this one is of the same stream
pub record AdaptorsBut (i : ℕ) (s t : State) : Type 0 where
  pub size : length t.adaptors ≡ length s.adaptors
  pub others : (k : ℕ) (c : Adaptor) → k ≢ i → slice_get t.adaptors k ≡ Some c
      → slice_get s.adaptors k ≡ Some c
  pub here : (c : Adaptor) → slice_get t.adaptors i ≡ Some c
      → (a : Adaptor) × (slice_get s.adaptors i ≡ Some a) × (c.kind ≡ a.kind) × (c.path ≡ a.path)

-- behind the reads of an adaptor up to the end of its log
pub record ReadOut (i : ℕ) (p : Progress) (s : State) (q : Progress) (t : State) : Type 0 where
  pub fresh : IsFresh q
  pub ended : q.ended i ≡ true
  pub others : SameBut i p q
  pub adaptors : AdaptorsBut i s t

-- behind the reads of all adaptors
pub record AllRead (s : State) (q : Progress) (t : State) : Type 0 where
  pub fresh : IsFresh q
  pub ended : AllEnded q t
  pub size : length t.adaptors ≡ length s.adaptors
