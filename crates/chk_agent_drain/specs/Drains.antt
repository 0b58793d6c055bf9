-- What a drain does: it reads each log to its end, sends what they give, and polls until all of it
-- is committed.
use Rattle.std.specs.Prelude.{◌≡◌, ◌≢◌, ◌⊎◌, ℕ, ◌+◌, ◌≤◌, ◌<◌, ◌==◌, Bool, true, false, [], length, if◌then◌else◌, slice_get, Option, Some, None, Result, Ok, Err}
use Rattle.chk_site.specs.declared.acts.Call.{Call}
use Rattle.chk_site.specs.declared.acts.Call.TheVariants.{Send, Got, Pause}
use Rattle.chk_site.specs.declared.acts.CallFault.{CallFault}
use Rattle.chk_site.specs.declared.acts.OutsideFault.{OutsideFault}
use Rattle.chk_site.specs.History.{History}
use Rattle.chk_site.specs.Site.{Adds, asked, answered, plain, Calls, Ends}
use Rattle.chk_agent_adaptor.specs.Adaptors.{Adaptor, is_past, is_stepped}
use Rattle.chk_agent_delivery.specs.declared.answers.Posted.TheVariants.{Sent, Failed as post_failed}
use Rattle.chk_agent_delivery.specs.declared.answers.Answered.TheVariants.{Taken, Refused, Silent}
use Rattle.chk_agent_delivery.specs.declared.answers.Polled.TheVariants.{Sent as poll_sent, Failed as poll_failed}
use Rattle.chk_agent_delivery.specs.declared.answers.PollAnswer.TheVariants.{Lengths, Refused as poll_refused, Silent as poll_silent}
use Rattle.chk_agent_delivery.specs.declared.answers.Below.{Below}
use Rattle.chk_agent_delivery.specs.States.{free_rows}
use Rattle.chk_agent_delivery.specs.Turns.{is_held}
use Rattle.chk_agent.specs.declared.answers.AgentFault.{AgentFault}
use Rattle.chk_agent.specs.declared.answers.AgentFault.TheVariants.{Outside, NoMemory}
use Rattle.chk_agent.specs.declared.answers.Stepped.TheVariants.{Read, AtEnd, Shrank as step_shrank}
use Rattle.chk_agent.specs.declared.answers.Settled.{Settled}
use Rattle.chk_agent_drain.specs.declared.answers.Drained.{Drained}
use Rattle.chk_agent_drain.specs.declared.answers.Drained.TheVariants.{Done, Pending, Growing, Shrank, AllTried}
use Rattle.chk_agent.specs.States.{State, process, committed_at, lines_of}
use Rattle.chk_agent.specs.Faults.{fault_of}
use Rattle.chk_agent.specs.Fills.{IsOneStepped}
use Rattle.chk_agent.specs.Settles.{IsSettled}
use Rattle.chk_agent.specs.Turns.{Posts, GetsPostReply, Polls, GetsLengths}
use Rattle.chk_agent.specs.Commands.{first_again}

-- ---- how far a drain is

-- For each adaptor how many of its reads gave bytes, and whether its last one found the end of its
-- log; how many posts and
-- polls in a row failed or were refused, the last call that failed among them and the last code;
-- how many good replies to
-- polls came since the last post, and the last one's first row below.
pub record Progress : Type 0 where
  pub reads : ℕ → ℕ
  pub ended : ℕ → Bool
  pub tried : ℕ
  pub failed : Option Call
  pub code : ℕ
  pub polls : ℕ
  pub below : Option Below

abbrev pub begun : Progress
begun = record {
  reads = λ i. 0;
  ended = λ i. false;
  tried = 0;
  failed = None;
  code = 0;
  polls = 0;
  below = None;
}

-- one more read of an adaptor's log gave bytes
abbrev pub one_read : ℕ → Progress → Progress
one_read i p = record p { reads = λ k. (if k == i then p.reads k + 1 else p.reads k) }

-- an adaptor came to the end of its log
abbrev pub one_ended : ℕ → Progress → Progress
one_ended i p = record p { ended = λ k. (if k == i then true else p.ended k) }

-- a good reply to a post, and to a poll
abbrev pub post_good : Progress → Progress
post_good p = record p { tried = 0; failed = None; polls = 0; below = None }

abbrev pub poll_good : Option Below → Progress → Progress
poll_good below p = record p { tried = 0; failed = None; polls = p.polls + 1; below = below }

-- a call of a post or a poll failed, or its reply was another one
abbrev pub tried_by : Call → Progress → Progress
tried_by call p = record p { tried = p.tried + 1; failed = Some call }

abbrev pub tried_for : ℕ → Progress → Progress
tried_for code p = record p { tried = p.tried + 1; code = code }

-- each adaptor that is still read has come to the end of its log by its last step
abbrev pub AllEnded : Progress → State → Type 0
AllEnded p s = (i : ℕ) (a : Adaptor) → slice_get s.adaptors i ≡ Some a → is_stepped a.phase ≡ true
    → p.ended i ≡ true

-- chunks are sent while there is no room for more, and behind the last step
abbrev pub MayPost : Progress → State → Type 0
MayPost p s = (s.delivery.queue.chunks ≢ []) × ((is_held s.delivery ≡ true) ⊎ AllEnded p s)

-- polls are sent while no row is free, and once nothing waits and each log gave nothing
abbrev pub MayPoll : Progress → State → Type 0
MayPoll p s = (free_rows s.delivery ≡ 0) ⊎ ((s.delivery.queue.chunks ≡ []) × AllEnded p s)

-- more polls follow while none of those that were asked for gave less than an answered offset, or
-- fewer came since the last post
abbrev pub WaitsOn : ℕ → Progress → Type 0
WaitsOn polls p = (p.below ≡ None) ⊎ (p.polls < polls)

-- nothing is left to poll for: no chunk waits to be sent, and no row to be committed
abbrev pub NoneLeft : State → Type 0
NoneLeft s = (s.delivery.queue.chunks ≡ []) × (s.delivery.table.rows ≡ [])

-- a chunk waits to be sent, or a row to be committed, so that another poll is to follow
abbrev pub SomeLeft : State → Type 0
SomeLeft s = (s.delivery.queue.chunks ≢ []) ⊎ (s.delivery.table.rows ≢ [])

-- all addresses were tried in a row: none of the calls failed, or this one was the last that did
abbrev pub tried_answer : Progress → Result Drained AgentFault
tried_answer p = elim p.failed [
  | None ↦ Ok (AllTried p.tried p.code)
  | Some call ↦ Err (Outside call)
]

-- a drain waits a second between two polls with a good reply
abbrev pub Pauses : State → Result (Unit {0}) CallFault → Option History → Option History → Type 0
Pauses s given old new = Adds old new
    (Calls (asked (process s) Pause [] 1000 0) (answered plain given))

-- ---- what a drain leaves

-- all that was read of each adaptor that isn't past is committed, and the checkpoint says so
pub record AllDelivered (s : State) : Type 0 where
  pub queue : s.delivery.queue.chunks ≡ []
  pub committed : (i : ℕ) (a : Adaptor) → slice_get s.adaptors i ≡ Some a → is_past a.phase ≡ false
      → committed_at s i ≡ a.read.offset
  pub saved : s.saved ≡ lines_of s

-- ---- one post, one poll

-- a post that an address didn't take: its sending failed, no reply came, or another one than a
-- good one
pub data PostTries (now : ℕ) (p : Progress) (s : State) : Progress → State → Option History
    → Option History → Type 0 where
  unsent : {t : State} {old new : Option History} → MayPost p s → Posts s (Ok post_failed) t old new
      → PostTries now p s (tried_by Send p) t old new
  silent : {t u : State} {old mid new : Option History} (n : ℕ) → MayPost p s
      → Posts s (Ok (Sent n)) t old mid
      → GetsPostReply now t (Ok Silent) u mid new → PostTries now p s (tried_by Got p) u old new
  refused : {t u : State} {old mid new : Option History} (n code : ℕ) → MayPost p s
      → Posts s (Ok (Sent n)) t old mid
      → GetsPostReply now t (Ok (Refused code)) u mid new
      → PostTries now p s (tried_for code p) u old new

-- a poll with a good reply
pub data PollGives (p : Progress) (s : State) : Progress → State → Option History → Option History
    → Type 0 where
  given : {t u : State} {old mid new : Option History} (n m : ℕ) (below : Option Below)
      → Polls s (Ok (poll_sent n)) t old mid
      → GetsLengths t (Ok (Lengths m below)) u mid new → PollGives p s (poll_good below p) u old new

-- a poll without one
pub data PollTries (p : Progress) (s : State) : Progress → State → Option History → Option History
    → Type 0 where
  unsent : {t : State} {old new : Option History} → Polls s (Ok poll_failed) t old new
      → PollTries p s (tried_by Send p) t old new
  silent : {t u : State} {old mid new : Option History} (n : ℕ)
      → Polls s (Ok (poll_sent n)) t old mid
      → GetsLengths t (Ok poll_silent) u mid new → PollTries p s (tried_by Got p) u old new
  refused : {t u : State} {old mid new : Option History} (n code : ℕ)
      → Polls s (Ok (poll_sent n)) t old mid
      → GetsLengths t (Ok (poll_refused code)) u mid new
      → PollTries p s (tried_for code p) u old new

-- a post, a poll or a reply found no memory
pub data Wants (now : ℕ) (s : State) : State → Option History → Option History → Type 0 where
  post : {t : State} {old new : Option History} → Posts s (Err NoMemory) t old new
      → Wants now s t old new
  post_reply : {t u : State} {old mid new : Option History} (n : ℕ)
      → Posts s (Ok (Sent n)) t old mid
      → GetsPostReply now t (Err NoMemory) u mid new → Wants now s u old new
  poll : {t : State} {old new : Option History} → Polls s (Err NoMemory) t old new
      → Wants now s t old new
  poll_reply : {t u : State} {old mid new : Option History} (n : ℕ)
      → Polls s (Ok (poll_sent n)) t old mid
      → GetsLengths t (Err NoMemory) u mid new → Wants now s u old new

-- ---- a drain

-- Each part in its order, up to the one that ends it: a log that was read to its stated number,
-- one that shrank, all
-- addresses tried, a row that stays below its offset, a refused part, or the checkpoint that has
-- all that was read.
pub data Drains (now reads polls : ℕ) : Progress → State → Result Drained AgentFault → State
    → Option History → Option History → Type 0 where
  read_on : {p : Progress} {s t u : State} {result : Result Drained AgentFault}
      {old mid new : Option History} (i n : ℕ) (a : Adaptor)
      → slice_get s.adaptors i ≡ Some a → is_stepped a.phase ≡ true → p.ended i ≡ false
      → p.reads i + 1 < reads
      → IsOneStepped i a s (Ok (Read n)) t old mid
      → Drains now reads polls (one_read i p) t result u mid new
      → Drains now reads polls p s result u old new
  growing : {p : Progress} {s t : State} {old new : Option History} (i n : ℕ) (a : Adaptor)
      → slice_get s.adaptors i ≡ Some a → is_stepped a.phase ≡ true → p.ended i ≡ false
      → p.reads i + 1 ≡ reads
      → IsOneStepped i a s (Ok (Read n)) t old new
      → Drains now reads polls p s (Ok (Growing i reads)) t old new
  at_end : {p : Progress} {s t u : State} {result : Result Drained AgentFault}
      {old mid new : Option History} (i : ℕ) (a : Adaptor)
      → slice_get s.adaptors i ≡ Some a → is_stepped a.phase ≡ true → p.ended i ≡ false
      → IsOneStepped i a s (Ok AtEnd) t old mid
      → Drains now reads polls (one_ended i p) t result u mid new
      → Drains now reads polls p s result u old new
  shrank : {p : Progress} {s t : State} {old new : Option History} (i had is : ℕ) (a : Adaptor)
      → slice_get s.adaptors i ≡ Some a → is_stepped a.phase ≡ true → p.ended i ≡ false
      → IsOneStepped i a s (Ok (step_shrank had is)) t old new
      → Drains now reads polls p s (Ok (Shrank i had is)) t old new
  unread : {p : Progress} {s t : State} {old new : Option History} (i : ℕ) (a : Adaptor)
      (fault : AgentFault)
      → slice_get s.adaptors i ≡ Some a → is_stepped a.phase ≡ true → p.ended i ≡ false
      → IsOneStepped i a s (Err fault) t old new → Drains now reads polls p s (Err fault) t old new
  posted : {p : Progress} {s t u v : State} {result : Result Drained AgentFault}
      {old mid next new : Option History} (n m : ℕ)
      → MayPost p s → Posts s (Ok (Sent n)) t old mid
      → GetsPostReply now t (Ok (Taken m)) u mid next
      → Drains now reads polls (post_good p) u result v next new
      → Drains now reads polls p s result v old new
  unposted : {p q : Progress} {s t u : State} {result : Result Drained AgentFault}
      {old mid new : Option History}
      → PostTries now p s q t old mid → q.tried < length s.delivery.ring.addresses
      → Drains now reads polls q t result u mid new → Drains now reads polls p s result u old new
  none_took : {p q : Progress} {s t : State} {old new : Option History}
      → PostTries now p s q t old new → q.tried ≡ length s.delivery.ring.addresses
      → Drains now reads polls p s (tried_answer q) t old new
  polled : {p q : Progress} {s t u : State} {result : Result Drained AgentFault}
      {old mid next new : Option History}
      → MayPoll p s → PollGives p s q t old mid → WaitsOn polls q → SomeLeft t
      → Pauses t (Ok tt) mid next
      → Drains now reads polls q t result u next new → Drains now reads polls p s result u old new
  polled_last : {p q : Progress} {s t u : State} {result : Result Drained AgentFault}
      {old mid new : Option History}
      → MayPoll p s → PollGives p s q t old mid → NoneLeft t
      → Drains now reads polls q t result u mid new → Drains now reads polls p s result u old new
  pending : {p q : Progress} {s t : State} {old new : Option History} (b : Below)
      → MayPoll p s → PollGives p s q t old new → polls ≤ q.polls → q.below ≡ Some b
      → Drains now reads polls p s (Ok (Pending b.stem b.got b.want)) t old new
  unpolled : {p q : Progress} {s t u : State} {result : Result Drained AgentFault}
      {old mid new : Option History}
      → MayPoll p s → PollTries p s q t old mid → q.tried < length s.delivery.ring.addresses
      → Drains now reads polls q t result u mid new → Drains now reads polls p s result u old new
  none_told : {p q : Progress} {s t : State} {old new : Option History}
      → MayPoll p s → PollTries p s q t old new → q.tried ≡ length s.delivery.ring.addresses
      → Drains now reads polls p s (tried_answer q) t old new
  unpaused : {p q : Progress} {s t : State} {old mid new : Option History}
      (given : Result (Unit {0}) CallFault) (fault : OutsideFault)
      → MayPoll p s → PollGives p s q t old mid → WaitsOn polls q → SomeLeft t
      → Ends Pause given fault → Pauses t given mid new
      → Drains now reads polls p s (Err (fault_of fault)) t old new
  wanting : {p : Progress} {s t : State} {old new : Option History} → Wants now s t old new
      → Drains now reads polls p s (Err NoMemory) t old new
  unsettled : {p : Progress} {s t : State} {old new : Option History} (fault : AgentFault)
      → AllEnded p s → s.delivery.queue.chunks ≡ [] → s.delivery.table.rows ≡ []
      → IsSettled now s (Err fault) t old new
      → Drains now reads polls p s (Err fault) t old new
  done_all : {p : Progress} {s t : State} {old new : Option History} (settled : Settled)
      → AllEnded p s → IsSettled now s (Ok settled) t old new → AllDelivered t
      → Drains now reads polls p s (Ok Done) t old new

-- A drain begins at the first address.
abbrev pub IsDrained : ℕ → ℕ → ℕ → State → Result Drained AgentFault → State → Option History
    → Option History → Type 0
IsDrained now reads polls s result t old new = Drains now reads polls begun (first_again s) result
    t old new
