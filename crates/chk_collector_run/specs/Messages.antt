-- One message of a collector's turn: how it is read to its end, and how it is answered.
use Rattle.std.specs.Prelude.{◌≡◌, ◌≢◌, ◌⊎◌, ℕ, suc, ◌≤◌, ◌<◌, nat_lt, if◌then◌else◌, List, [], ◌∷◌, ◌++◌, length, Option, Some, None, Result, Ok, Err}
use Rattle.chk_bytes.specs.declared.NoMemory.{NoMemory}
use Rattle.chk_bytes.specs.Stems.{Stem}
use Rattle.chk_site.specs.declared.acts.Who.{Who}
use Rattle.chk_site.specs.declared.acts.Call.{Call}
use Rattle.chk_site.specs.declared.acts.Call.TheVariants.{Take, More, Answer}
use Rattle.chk_site.specs.declared.acts.CallFault.{CallFault}
use Rattle.chk_site.specs.declared.acts.CallFault.TheVariants.{Failed, NoMemory as no_memory}
use Rattle.chk_site.specs.declared.suffixes.Taking.{Taking}
use Rattle.chk_site.specs.History.{History}
use Rattle.chk_site.specs.Site.{Adds, asked, answered, plain, bytes_given, taking_given, Calls, CallsSome}
use Rattle.chk_site.specs.Runs.{Leads, Owns}
use Rattle.chk_http_grammar.specs.Messages.{PostRequest, PollRequest}
use Rattle.httparse.specs.Grammar.{EndsInTarget}
use Rattle.chk_http.specs.declared.fault.HttpFault.{HttpFault}
use Rattle.chk_http.specs.declared.fault.HttpFault.TheVariants.{NotYet}
use Rattle.chk_http.specs.Heads.{HasManyRequestLines, IsNoRequestHead}
use Rattle.chk_world.specs.Collectors.{Appended, Handling}
use Rattle.chk_world.specs.Places.{As, IsBy}
use Rattle.chk_world.specs.Works.{Works}
use Rattle.chk_sink.specs.declared.fault.SinkFault.{SinkFault}
use Rattle.chk_sink.specs.declared.fault.SinkFault.TheVariants.{Outside, NoMemory as wanting}
use Rattle.chk_sink.specs.States.{State, IsSameStart}
use Rattle.chk_collector.specs.Answering.{Taken, Answered}
use Rattle.chk_collector.specs.Handled.{KeepsSeen, OfRequest, Unanswered}
use Rattle.chk_collector.specs.Outcomes.{Outcome, RefusedBy, IsOutcomeOf, OutcomeActs, OutcomeDamage, OutcomeLast, OutcomeState, outcome_ended, reply_of}
use Rattle.chk_tee_sender.specs.declared.Subscriber.{Subscriber}
use Rattle.chk_tee_sender.specs.declared.tees.Passed.{Passed}
use Rattle.chk_tee_sender.specs.Offers.{IsPassed}

-- the bytes of a whole head and of the longest body: a message of so many is read no further
abbrev pub most_bytes : ℕ
most_bytes = 4210688

-- the message isn't whole yet, nor too long
pub record IsOpen (bytes : List ℕ) : Type 0 where
  pub not_yet : RefusedBy bytes NotYet
  pub short : length bytes < most_bytes

-- the bytes are a request to post or a poll, or they are refused for another reason than that
-- they aren't whole yet
abbrev pub IsRead : List ℕ → Type 0
IsRead bytes =
    ((body : List ℕ) × PostRequest body bytes)
    ⊎ (((stems : List Stem) × PollRequest stems bytes) ⊎ ((fault : HttpFault) × (fault ≢ NotYet) ×
    RefusedBy bytes fault))

-- the message is read no further
abbrev pub IsShut : List ℕ → Type 0
IsShut bytes = (most_bytes ≤ length bytes) ⊎ IsRead bytes

-- the two cases in which both may be said of the bytes: they have more than 32 header lines, or
-- they end inside the target and
-- no head continues them
abbrev pub IsUndecided : List ℕ → Type 0
IsUndecided bytes = HasManyRequestLines bytes ⊎ (IsNoRequestHead bytes × EndsInTarget bytes)

-- else a message is read on exactly while it is open
abbrev pub ReadsOnExactly : Type 0
ReadsOnExactly = (bytes : List ℕ) → IsOpen bytes → IsShut bytes → IsUndecided bytes

-- How a message is read on from these bytes: piece by piece while it is open. All that came is
-- given at its end; nothing is
-- given where a call failed, which ends the message alone; and there may be no memory for a piece.
pub data IsReadOn (who : Who) (t : ℕ) : List ℕ → Result (Option (List ℕ)) NoMemory
    → Option History → Option History → Type 0 where
  whole : {bytes : List ℕ} {now : Option History} → IsShut bytes
      → IsReadOn who t bytes (Ok (Some bytes)) now now
  came : {bytes : List ℕ} {got : Result (Option (List ℕ)) NoMemory} {old mid new : Option History}
      (piece : List ℕ) → IsOpen bytes
      → 0 < length piece → Adds old mid (Calls (asked who More [] t 0) (answered bytes_given (Ok
      piece)))
      → IsReadOn who t (bytes ++ piece) got mid new → IsReadOn who t bytes got old new
  over : {bytes : List ℕ} {old new : Option History} → IsOpen bytes
      → Adds old new (Calls (asked who More [] t 0) (answered bytes_given (Ok [])))
      → IsReadOn who t bytes (Ok (Some bytes)) old new
  broken : {bytes : List ℕ} {old new : Option History} → IsOpen bytes
      → Adds old new (Calls (asked who More [] t 0) (answered bytes_given (Err Failed)))
      → IsReadOn who t bytes (Ok None) old new
  unread : {bytes : List ℕ} {fault : NoMemory} {old new : Option History} → IsOpen bytes
      → Adds old new (Calls (asked who More [] t 0) (answered bytes_given (Err no_memory)))
      → IsReadOn who t bytes (Err fault) old new
  unkept : {bytes : List ℕ} {fault : NoMemory} {old new : Option History} (piece : List ℕ)
      → IsOpen bytes → 0 < length piece
      → Adds old new (Calls (asked who More [] t 0) (answered bytes_given (Ok piece)))
      → IsReadOn who t bytes (Err fault) old new

-- From a legal history that holds the sinks, and in which these bytes are all that was got of the
-- message that was taken last, whatever was appended since then, the history behind the request
-- holds the sinks of the new state, and the reply may be the answer to that taking.
abbrev pub LeadsToReply : Who → List ℕ → State → State → Result (List ℕ) NoMemory → Option History
    → Option History → Type 0
LeadsToReply who request s u reply old new =
    (stamped : List (List ℕ)) (t : ℕ) (earlier : List Appended) (others : List Handling)
    → Adds old new
    (Leads (As stamped who) (Taken stamped s t request earlier others)
    (Answered stamped u t request earlier others reply))

-- a request was handled, with this reply
pub record IsHandled (who : Who) (request reply : List ℕ) (s t : State) (old new : Option History)
    : Type 0 where
  pub outcome : Outcome
  pub is : reply ≡ reply_of outcome
  pub told : LeadsToReply who request s t (Ok reply) old new
  pub by_bytes : IsOutcomeOf request outcome
  pub same : IsSameStart s t
  pub seen : KeepsSeen s t
  pub state : OutcomeState request s t outcome
  pub quiet : Adds old new (Owns (IsBy who))
  pub own : Works who (OfRequest request s) (outcome_ended outcome) old new
  pub acts : Adds old new (OutcomeActs outcome)
  pub last : Adds old new (OutcomeLast outcome)
  pub damaged : Adds old new (OutcomeDamage outcome)

-- there was no memory for the reply
pub record IsUnreplied (who : Who) (request : List ℕ) (fault : NoMemory) (s t : State)
    (old new : Option History) : Type 0 where
  pub told : LeadsToReply who request s t (Err fault) old new
  pub unanswered : Unanswered request s t old new
  pub same : IsSameStart s t
  pub seen : KeepsSeen s t
  pub quiet : Adds old new (Owns (IsBy who))

-- the answer was sent, or failed, which ends the message alone
abbrev pub IsSentOrFailed : Result (Unit {0}) CallFault → Type 0
IsSentOrFailed (Ok value) = Unit {0}
IsSentOrFailed (Err Failed) = Unit {0}
IsSentOrFailed (Err fault) = ⊥

-- the reply, where its answer was done
abbrev pub reply_sent : List ℕ → Result (Unit {0}) CallFault → Option (List ℕ)
reply_sent reply (Ok value) = Some reply
reply_sent reply (Err fault) = None

-- A request was handled and answered once with that reply, which is told where its answer was done;
-- or there was no memory for the reply or its answer.
pub data IsReplied (who : Who) (t : ℕ) (request : List ℕ) (s : State)
    : Result (Option (List ℕ)) NoMemory → Option History → State → Option History → Type 0 where
  sent : {old next new : Option History} {u : State} (reply : List ℕ)
      (given : Result (Unit {0}) CallFault) → IsHandled who request reply s u old next
      → IsSentOrFailed given
      → Adds next new (Calls (asked who Answer (reply ∷ []) t 0) (answered plain given))
      → IsReplied who t request s (Ok (reply_sent reply given)) old u new
  unreplied : {fault : NoMemory} {old new : Option History} {u : State}
      → IsUnreplied who request fault s u old new → IsReplied who t request s (Err fault) old u new
  unsent : {fault : NoMemory} {old next new : Option History} {u : State} (reply : List ℕ)
      → IsHandled who request reply s u old next
      → Adds next new
      (Calls (asked who Answer (reply ∷ []) t 0) (answered {T = Unit {0}} plain (Err no_memory)))
      → IsReplied who t request s (Err fault) old u new

-- A request was handled and answered. Behind an answer that was done, and behind none else, what was
-- written is passed on to the subscribers that stand, and never before it. The number of the
-- request's bytes is told; or there was no memory.
pub data IsPassedOn (who : Who) (t : ℕ) (request : List ℕ) (s : State) (a : List Subscriber)
    : Result ℕ NoMemory → Option History → State → List Subscriber → Option History → Type 0 where
  lost : {old new : Option History} {u : State} → IsReplied who t request s (Ok None) old u new
      → IsPassedOn who t request s a (Ok (length request)) old u a new
  passed_on : {old mid new : Option History} {u : State} {b : List Subscriber} (reply : List ℕ)
      (numbers : Passed) → IsReplied who t request s (Ok (Some reply)) old u mid
      → IsPassed who request reply a b (Ok numbers) mid new
      → IsPassedOn who t request s a (Ok (length request)) old u b new
  unpassed : {fault : NoMemory} {old mid new : Option History} {u : State} {b : List Subscriber}
      (reply : List ℕ) → IsReplied who t request s (Ok (Some reply)) old u mid
      → IsPassed who request reply a b (Err fault) mid new
      → IsPassedOn who t request s a (Err fault) old u b new
  undone : {fault : NoMemory} {old new : Option History} {u : State}
      → IsReplied who t request s (Err fault) old u new
      → IsPassedOn who t request s a (Err fault) old u a new

-- What became of a message that was taken: it broke off, or it was read to its end, handled,
-- answered and passed on; or there was no memory on the way. It tells how many bytes were read to
-- its end, and 0 where it broke off.
pub data IsAnswered (who : Who) (t : ℕ) (bytes : List ℕ) (s : State) (a : List Subscriber)
    : Result ℕ NoMemory → Option History → State → List Subscriber → Option History → Type 0 where
  broken : {old new : Option History} → IsReadOn who t bytes (Ok None) old new
      → IsAnswered who t bytes s a (Ok 0) old s a new
  unread : {fault : NoMemory} {old new : Option History} → IsReadOn who t bytes (Err fault) old new
      → IsAnswered who t bytes s a (Err fault) old s a new
  replied : {result : Result ℕ NoMemory} {old mid new : Option History} {u : State}
      {b : List Subscriber} (request : List ℕ) → IsReadOn who t bytes (Ok (Some request)) old mid
      → IsPassedOn who t request s a result mid u b new
      → IsAnswered who t bytes s a result old u b new

-- a message of so many bytes is a long one: its sender has more to send
abbrev pub long_bytes : ℕ
long_bytes = 3932160

-- how long a further message is waited for behind a long one, in milliseconds
abbrev pub further_wait : ℕ
further_wait = 20

-- how long a further message of the turn is waited for behind one of so many bytes, in
-- milliseconds; behind one that isn't long only what waits at the door already is taken
abbrev pub wait_behind : ℕ → ℕ
wait_behind size = if nat_lt size long_bytes then 0 else further_wait

-- this call ended the turn: it failed, or there was no memory
abbrev pub EndsBy : {T : Type 0} → Call → Result T CallFault → SinkFault → Type 0
EndsBy call (Err Failed) fault = fault ≡ Outside call
EndsBy call (Err no_memory) fault = fault ≡ wanting
EndsBy call given fault = ⊥

-- At most so many messages are taken at the door, answered and passed on to the subscribers, each
-- before the next is taken, up to the first taking that gives none. The first taking may wait so
-- long, and each further one as long as the size of the message before it says. A taking that fails
-- ends the turn, and so does want of memory.
pub data IsTakenUpTo (who : Who) (door : List ℕ)
    : ℕ → ℕ → State → List Subscriber → Option History → Result (Unit {0}) SinkFault → State
    → List Subscriber → Option History → Type 0 where
  enough : {wait : ℕ} {s : State} {a : List Subscriber} {now : Option History}
      → IsTakenUpTo who door 0 wait s a now (Ok tt) s a now
  none : {left wait : ℕ} {s : State} {a : List Subscriber} {old new : Option History}
      → Adds old new (CallsSome (λ of. asked who Take (door ∷ []) wait 0) (λ of. answered
      (taking_given of) (Ok None)))
      → IsTakenUpTo who door (suc left) wait s a old (Ok tt) s a new
  one : {left wait n : ℕ} {s t u : State} {a b c : List Subscriber}
      {result : Result (Unit {0}) SinkFault} {old mid next new : Option History} (taking : Taking)
      → Adds old mid (CallsSome (λ of. asked who Take (door ∷ []) wait 0) (λ of. answered
      (taking_given of) (Ok (Some taking))))
      → IsAnswered who taking.number taking.bytes s a (Ok n) mid t b next
      → IsTakenUpTo who door left (wait_behind n) t b next result u c new
      → IsTakenUpTo who door (suc left) wait s a old result u c new
  untaken : {left wait : ℕ} {s : State} {a : List Subscriber} {old new : Option History}
      (fault : SinkFault) (given : Result (Option Taking) CallFault)
      → EndsBy Take given fault
      → Adds old new (CallsSome (λ of. asked who Take (door ∷ []) wait 0) (λ of. answered
      (taking_given of) given))
      → IsTakenUpTo who door (suc left) wait s a old (Err fault) s a new
  unanswered : {left wait : ℕ} {s t : State} {a b : List Subscriber}
      {old mid new : Option History} (taking : Taking) (fault : NoMemory)
      → Adds old mid (CallsSome (λ of. asked who Take (door ∷ []) wait 0) (λ of. answered
      (taking_given of) (Ok (Some taking))))
      → IsAnswered who taking.number taking.bytes s a (Err fault) mid t b new
      → IsTakenUpTo who door (suc left) wait s a old (Err wanting) t b new
