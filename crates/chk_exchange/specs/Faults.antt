-- Why an exchange ended otherwise: what the made reply tells, which call failed, and the count of
-- faults.
use Rattle.std.specs.Prelude.{◌≡◌, ◌≢◌, ◌⊎◌, ℕ, ◌≤◌, ◌<◌, List, [], ◌∷◌, ◌++◌, false, bytes_eq, decimal, find, Option, Some, None, Result, Ok, Err}
use Rattle.chk_bytes.specs.Numbers.{limit}
use Rattle.chk_http_grammar.specs.Messages.{IsReply}
use Rattle.chk_site.specs.declared.acts.Act.{Act}
use Rattle.chk_site.specs.declared.acts.Call.{Call}
use Rattle.chk_site.specs.declared.acts.Call.TheVariants.{Start, LogRead, LogNewest, LogAppend, Create, Append, Sync, Rename, Remove, Cut, Size, Read, List as ListNames, Clock, Pause, Send, Got, Take, More, Answer, Say}
use Rattle.chk_site.specs.declared.acts.CallFault.{CallFault}
use Rattle.chk_site.specs.declared.acts.CallFault.TheVariants.{Failed, NoMemory as no_memory}
use Rattle.chk_site.specs.declared.acts.ActAnswer.TheVariants.{Refused as act_refused}
use Rattle.chk_site.specs.CallNames.{call_name}
use Rattle.chk_site.specs.History.{History, is_stopped}
use Rattle.chk_site.specs.Runs.{own_acts}
use Rattle.chk_site.specs.Site.{EndsIn, Rose}
use Rattle.chk_sink.specs.declared.fault.SinkFault.{SinkFault}
use Rattle.chk_sink.specs.declared.fault.SinkFault.TheVariants.{Outside as sink_outside, Damaged as sink_damaged, Spent as sink_spent, NoMemory as sink_wanting}
use Rattle.chk_collector.specs.Outcomes.{Outcome, Fails}
use Rattle.chk_collector.specs.Replies.{MayHaveRisen}
use Rattle.chk_exchange.specs.declared.fault.ExchangeFault.{ExchangeFault}
use Rattle.chk_exchange.specs.declared.fault.ExchangeFault.TheVariants.{Outside, NoMemory, Damaged, Spent, Refused}

-- The fault is that of the sinks, as the line of a reply tells it: a number is told by its digits.
abbrev pub IsTold : SinkFault → ExchangeFault → Type 0
IsTold (sink_outside call) fault = fault ≡ Outside call
IsTold (sink_damaged name at) fault =
    (k : ℕ) × (fault ≡ Damaged name k) × (k < limit) × (decimal k ≡ decimal at)
IsTold (sink_spent born) fault =
    (k : ℕ) × (fault ≡ Spent k) × (k < limit) × (decimal k ≡ decimal born)
IsTold sink_wanting fault = ⊥

-- a made reply tells this fault, or none
abbrev pub IsMade : Outcome → Option ExchangeFault → Type 0
IsMade (Fails fault) made = (told : ExchangeFault) × (made ≡ Some told) × IsTold fault told
IsMade o made = made ≡ None

-- The line of the fault isn't read back: it takes memory for the name of a file, or its number is
-- too high.
abbrev pub IsUntold : SinkFault → Type 0
IsUntold (sink_outside call) = ⊥
IsUntold (sink_damaged name at) = Unit {0}
IsUntold (sink_spent born) = limit ≤ born
IsUntold sink_wanting = Unit {0}

-- the made reply isn't read back, or the line of its fault isn't
abbrev pub IsUnread : List ℕ → Outcome → Type 0
IsUnread reply o =
    ((code : ℕ) (body : List ℕ) → IsReply code body reply → ⊥)
    ⊎ ((fault : SinkFault) × (o ≡ Fails fault) × IsUntold fault)

-- all calls on the outside
abbrev pub all_calls : List Call
all_calls =
    Start ∷ LogRead ∷ LogNewest ∷ LogAppend ∷ Create ∷ Append ∷ Sync ∷ Rename ∷ Remove ∷ Cut ∷ Size
    ∷ Read ∷ ListNames ∷ Clock ∷ Pause ∷ Send ∷ Got ∷ Take ∷ More ∷ Answer ∷ Say ∷ []

-- the call of this name
abbrev pub called : List ℕ → Option Call
called name = find (λ call. bytes_eq (call_name call) name) all_calls

-- the call failed, or there was no memory for it
abbrev pub EndsBy : {T : Type 0} → Call → Result T CallFault → ExchangeFault → Type 0
EndsBy call (Err Failed) fault = fault ≡ Outside call
EndsBy call (Err no_memory) fault = fault ≡ NoMemory
EndsBy call given fault = ⊥

-- the call gave this value, or it ended the exchange
abbrev pub IsEnded : {T : Type 0} → Call → Result T ExchangeFault → (Result T CallFault → Type 0)
    → Type 0
IsEnded call (Ok value) Gave = Gave (Ok value)
IsEnded {T} call (Err fault) Gave =
    (given : Result T CallFault) × EndsBy call given fault × Gave given

-- the code isn't that of a made reply which tells a fault
abbrev pub IsOtherCode : Option ExchangeFault → ℕ → Type 0
IsOtherCode None code = Unit {0}
IsOtherCode (Some fault) code = code ≢ 503

-- ---- the call that failed

-- the newest of these acts is the failure of the call
abbrev pub FailedNewest : Call → List Act → Type 0
FailedNewest call [] = ⊥
FailedNewest call (act ∷ acts) = (act.call ≡ call) × (act.answer ≡ act_refused Failed)

-- the failure of the call is the newest but for an answer that was given and got
abbrev pub FailedInside : Call → List Act → Type 0
FailedInside call [] = ⊥
FailedInside call (got ∷ []) = ⊥
FailedInside call (got ∷ answer ∷ acts) =
    (got.call ≡ Got) × (answer.call ≡ Answer) × FailedNewest call acts

-- Where the site wasn't stopped, the call that failed is the last one, or it failed while the
-- message was handled, and behind it the site itself made only the answering and the getting.
abbrev pub FailsLast : {T : Type 0} → Result T ExchangeFault → History → History → Type 0
FailsLast (Err (Outside call)) added history =
    is_stopped (added ++ history) ≡ false → EndsIn call added ⊎ FailedInside call (own_acts added)
FailsLast result added history = Unit {0}

-- Only a call that failed raises the count. Where the exchange ended for want of memory, or the
-- agent got another reply, one of the handling may have failed before.
abbrev pub ExchangeCause : {T : Type 0} → ℕ → ℕ → Result T ExchangeFault → Type 0
ExchangeCause before now (Err (Outside call)) = Rose before now × (before ≤ now)
ExchangeCause before now (Err NoMemory) = MayHaveRisen before now
ExchangeCause before now (Err (Refused code)) = MayHaveRisen before now
ExchangeCause before now result = now ≡ before

-- the same while the reply hasn't been got: where it tells of a failed call, the count has risen
abbrev pub ServedCause : ℕ → ℕ → Result (Option ExchangeFault) ExchangeFault → Type 0
ServedCause before now (Ok None) = now ≡ before
ServedCause before now (Ok (Some fault)) =
    ExchangeCause {T = Option ExchangeFault} before now (Err fault)
ServedCause before now (Err fault) = ExchangeCause {T = Option ExchangeFault} before now (Err fault)
