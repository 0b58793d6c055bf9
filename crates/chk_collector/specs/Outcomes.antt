-- What a request comes to, and its reply.
use Rattle.chk_collector.specs.Handled.{Puts, PutsThen, EndsInPlace, OfRequest}
use Rattle.chk_collector.specs.Answering.{Taken}
use Rattle.chk_collector.specs.Least.{TellLeast}
use Rattle.chk_collector.specs.Passing.{RequestLeavesFull}
use Rattle.chk_collector.specs.OwnLines.{AreOfStart}
use Rattle.chk_world.specs.Works.{Works, NoneFailed}
use Rattle.chk_world.specs.Places.{As, AtTold}
use Rattle.chk_world.specs.Collectors.{Appended, Handling}
use Rattle.chk_site.specs.Runs.{Leads}
use Rattle.chk_site.specs.declared.acts.OutsideFault.{OutsideFault}
use Rattle.std.specs.Prelude.{◌≡◌, ◌⊎◌, ℕ, List, [], ◌∷◌, ◌++◌, length, map, codes, decimal, Option, Some, None, Err}
use Rattle.chk_bytes.specs.Stems.{Stem}
use Rattle.chk_site.specs.CallNames.{call_name}
use Rattle.chk_site.specs.History.{History}
use Rattle.chk_site.specs.Site.{Adds}
use Rattle.chk_chunk.specs.declared.faults.ChunkFault.{ChunkFault}
use Rattle.chk_chunk.specs.declared.faults.ChunkFault.TheVariants.{Short, Version, NotUtf8, Empty, TooLong, BeforeStart, TooMany, Trailing, TooHigh, NotWord, StartHigh}
use Rattle.chk_chunk.specs.Keys.{Chunk}
use Rattle.chk_chunk.specs.Faults.{post_fault}
use Rattle.chk_http_grammar.specs.Messages.{Ack, PostRequest, PollRequest, IsRequest, IsPostOf, acks_text, written_reply}
use Rattle.chk_http.specs.declared.fault.HttpFault.{HttpFault}
use Rattle.chk_http.specs.declared.fault.HttpFault.TheVariants.{BadHead, NoLength, TooLarge, NotYet, BadPath, BadMethod, BadLine}
use Rattle.chk_http.specs.Faults.{fault_code, fault_name}
use Rattle.chk_http.specs.Heads.{IsEndlessRequest}
use Rattle.chk_http.specs.Requests.{IsBadPath, IsBadMethod, IsBadQuery, IsWithoutLength, HasBadLength, HasLongBody, HasCutBody, IsBadHead, IsTooLarge, IsNotYet}
use Rattle.chk_http.specs.Written.{phrase_of}
use Rattle.chk_sink.specs.declared.fault.SinkFault.{SinkFault}
use Rattle.chk_sink.specs.declared.fault.SinkFault.TheVariants.{Outside, Damaged, Spent, NoMemory}
use Rattle.chk_sink.specs.Faults.{SinkCause, FailsLast, ended_by}
use Rattle.chk_sink.specs.Damage.{damage_in, DamageCause}
use Rattle.chk_sink.specs.States.{State, process, last_number}

-- what a request comes to: it is refused, or its post is, or its reply has these lines, or a call of the sinks was refused
pub data Outcome : Type 0 where
  Refused : HttpFault → Outcome
  BadPost : ChunkFault → Outcome
  Lines : List Ack → Outcome
  Fails : SinkFault → Outcome

-- the name of a post's fault
abbrev pub chunk_fault_name : ChunkFault → List ℕ
chunk_fault_name (Short at) = codes "Short"
chunk_fault_name (Version found) = codes "Version"
chunk_fault_name (NotUtf8 at) = codes "NotUtf8"
chunk_fault_name (Empty at) = codes "Empty"
chunk_fault_name (TooLong most found) = codes "TooLong"
chunk_fault_name (BeforeStart seq len) = codes "BeforeStart"
chunk_fault_name (TooMany count) = codes "TooMany"
chunk_fault_name (Trailing at) = codes "Trailing"
chunk_fault_name (TooHigh seq) = codes "TooHigh"
chunk_fault_name (NotWord at) = codes "NotWord"
chunk_fault_name (StartHigh start seq) = codes "StartHigh"

-- a line of its own
abbrev pub line : List ℕ → List ℕ
line text = text ++ 10 ∷ []

-- what the line of the sinks' fault says
abbrev pub sink_fault_text : SinkFault → List ℕ
sink_fault_text (Outside call) = codes "outside " ++ call_name call
sink_fault_text (Damaged name at) = codes "damaged " ++ (name ++ 32 ∷ decimal at)
sink_fault_text (Spent born) = codes "spent " ++ decimal born
sink_fault_text NoMemory = []

-- the code of the reply
abbrev pub code_of : Outcome → ℕ
code_of (Refused fault) = fault_code fault
code_of (BadPost fault) = 400
code_of (Lines acks) = 200
code_of (Fails fault) = 503

-- its body
abbrev pub body_of : Outcome → List ℕ
body_of (Refused fault) = line (fault_name fault)
body_of (BadPost fault) = line (chunk_fault_name fault)
body_of (Lines acks) = acks_text acks
body_of (Fails fault) = line (sink_fault_text fault)

-- the reply
abbrev pub reply_of : Outcome → List ℕ
reply_of o = written_reply (code_of o) (phrase_of (code_of o)) (body_of o)

-- why a request is refused, by its bytes alone
abbrev pub IsRefusal : List ℕ → HttpFault → Type 0
IsRefusal bytes BadHead = IsBadHead bytes
IsRefusal bytes NoLength = IsWithoutLength bytes
IsRefusal bytes TooLarge = IsTooLarge bytes
IsRefusal bytes NotYet = IsNotYet bytes
IsRefusal bytes BadPath = IsBadPath bytes
IsRefusal bytes BadMethod = IsBadMethod bytes
IsRefusal bytes BadLine = IsBadQuery bytes

-- the bytes are no request, for this reason, and where one of these reasons is there it is that one
pub record RefusedBy (bytes : List ℕ) (fault : HttpFault) : Type 0 where
  pub no_request : IsRequest bytes → ⊥
  pub reason : IsRefusal bytes fault
  pub bad_path : IsBadPath bytes → fault ≡ BadPath
  pub bad_method : IsBadMethod bytes → fault ≡ BadMethod
  pub bad_line : IsBadQuery bytes → fault ≡ BadLine
  pub no_length : IsWithoutLength bytes → fault ≡ NoLength
  pub bad_length : HasBadLength bytes → fault ≡ BadHead
  pub endless : IsEndlessRequest bytes → fault ≡ TooLarge
  pub long_body : HasLongBody bytes → fault ≡ TooLarge
  pub cut_body : HasCutBody bytes → fault ≡ NotYet

-- the bytes begin with a request to post a body that is no post, and this is the first thing wrong in it
pub record BadPostBy (bytes : List ℕ) (fault : ChunkFault) : Type 0 where
  pub body : List ℕ
  pub request : PostRequest body bytes
  pub first : post_fault body ≡ Some fault
  pub no_post : (chunks : List Chunk) → IsPostOf chunks bytes → ⊥

-- the bytes are a post, with one line for each chunk, or a poll, with one line for each stem, in order
abbrev pub HasLines : List ℕ → List Ack → Type 0
HasLines bytes acks =
    ((chunks : List Chunk) × IsPostOf chunks bytes × (length acks ≡ length chunks))
    ⊎ ((stems : List Stem) × PollRequest stems bytes × (map (λ a. a.stem) acks ≡ stems))

-- a put finds nothing damaged, and a question no number spent; want of memory is told by no reply
abbrev pub MayFail : List ℕ → SinkFault → Type 0
MayFail bytes (Damaged name at) = (stems : List Stem) × PollRequest stems bytes
MayFail bytes (Spent born) = (chunks : List Chunk) × IsPostOf chunks bytes
MayFail bytes (Outside call) = IsRequest bytes
MayFail bytes NoMemory = ⊥

-- which requests come to this
abbrev pub IsOutcomeOf : List ℕ → Outcome → Type 0
IsOutcomeOf bytes (Refused fault) = RefusedBy bytes fault
IsOutcomeOf bytes (BadPost fault) = BadPostBy bytes fault
IsOutcomeOf bytes (Lines acks) = HasLines bytes acks
IsOutcomeOf bytes (Fails fault) = MayFail bytes fault

-- only where a call of the outside failed does the count of faults rise
abbrev pub OutcomeCause : ℕ → ℕ → Outcome → Type 0
OutcomeCause before now (Fails fault) = SinkCause {T = Unit {0}} before now (Err fault)
OutcomeCause before now o = now ≡ before

-- the call that failed is the last one, where the site wasn't stopped
abbrev pub OutcomeLast : Outcome → History → History → Type 0
OutcomeLast (Fails fault) added history = FailsLast {T = Unit {0}} (Err fault) added history
OutcomeLast o added history = Unit {0}

-- a file is damaged exactly where an own step showed it
abbrev pub OutcomeDamage : Outcome → History → History → Type 0
OutcomeDamage (Fails fault) added history = DamageCause {T = Unit {0}} (Err fault) added history
OutcomeDamage o added history = damage_in added ≡ None

-- a reply that tells of a damaged file never comes in a legal history, where the site wasn't stopped
abbrev pub OutcomeSound : List ℕ → State → Option History → Option History → Outcome → Type 0
OutcomeSound request s told_before told_after (Fails (Damaged name at)) =
    (stamped : List (List ℕ)) (t : ℕ) (earlier : List Appended) (others : List Handling)
    → Adds told_before told_after
    (Leads (As stamped (process s)) (Taken stamped s t request earlier others)
    (AtTold stamped (process s) (λ front. ⊥)))
OutcomeSound request s told_before told_after o = Unit {0}

-- what ended the work
abbrev pub outcome_ended : Outcome → Option OutsideFault
outcome_ended (Fails fault) = ended_by {T = Unit {0}} (Err fault)
outcome_ended o = None

-- a request that is refused makes no call, a reply with lines had none that failed, and one that failed is the last
abbrev pub OutcomeActs : Outcome → History → History → Type 0
OutcomeActs (Refused fault) added history = added ≡ []
OutcomeActs (BadPost fault) added history = added ≡ []
OutcomeActs (Lines acks) added history = NoneFailed added history
OutcomeActs (Fails fault) added history = OutcomeLast (Fails fault) added history

-- Where the sinks stand behind the reply. A poll leaves them, a post that was answered puts each of its chunks, and its
-- last line is the place of the sink that is written to; a fault leaves what the refused put leaves.
abbrev pub OutcomeState : List ℕ → State → State → Outcome → Type 0
OutcomeState bytes old new (Refused fault) = new ≡ old
OutcomeState bytes old new (BadPost fault) = new ≡ old
OutcomeState bytes old new (Lines acks) =
    ((chunks : List Chunk) × IsPostOf chunks bytes × Puts (length chunks) old new × EndsInPlace new acks)
    ⊎ ((stems : List Stem) × PollRequest stems bytes × (new ≡ old))
OutcomeState bytes old new (Fails fault) =
    ((chunks : List Chunk) × IsPostOf chunks bytes × PutsThen (length chunks) old new fault)
    ⊎ ((stems : List Stem) × PollRequest stems bytes × (new ≡ old))

-- a number is spent only where the last sink of the start was created and none is written to
abbrev pub OutcomeSpent : State → State → Outcome → Type 0
OutcomeSpent old new (Fails (Spent born)) = (born ≡ old.born) × (new.current ≡ None) × (new.number ≡ last_number)
OutcomeSpent old new o = Unit {0}

-- each line of a poll's reply for a sink of this collector tells at least what stays committed
abbrev pub OutcomeLeast : List ℕ → State → Option History → Option History → Outcome → Type 0
OutcomeLeast request s told_before told_after (Lines acks) =
    (stems : List Stem) → PollRequest stems request → TellLeast (process s) acks told_before told_after
OutcomeLeast request s told_before told_after o = Unit {0}

-- where a reply has lines, a sink is abandoned only because one was full
abbrev pub OutcomeFull : List ℕ → State → State → Option History → Option History → Outcome → Type 0
OutcomeFull request old new told_before told_after (Lines acks) = RequestLeavesFull request old new told_before told_after
OutcomeFull request old new told_before told_after o = Unit {0}

-- each line of a post's reply is of a sink of this start
abbrev pub OutcomeOfStart : List ℕ → State → Outcome → Type 0
OutcomeOfStart request s (Lines acks) =
    (chunks : List Chunk) → IsPostOf chunks request → AreOfStart s acks
OutcomeOfStart request s o = Unit {0}

-- where the request is refused nothing is called, and nothing changes
abbrev pub Untouched : State → State → Option History → Option History → Outcome → Type 0
Untouched old new told_before told_after (Refused fault) = (new ≡ old) × (told_after ≡ told_before)
Untouched old new told_before told_after (BadPost fault) = (new ≡ old) × (told_after ≡ told_before)
Untouched old new told_before told_after o = Unit {0}

-- what is replied to a request: by its bytes and by what came of the sinks' calls
pub record Replied (request : List ℕ) (old new : State) (before now : ℕ) (told_before told_after : Option History)
    (reply : List ℕ) : Type 0 where
  pub outcome : Outcome
  pub is : reply ≡ reply_of outcome
  pub by_bytes : IsOutcomeOf request outcome
  pub cause : OutcomeCause before now outcome
  pub last : Adds told_before told_after (OutcomeLast outcome)
  pub damaged : Adds told_before told_after (OutcomeDamage outcome)
  pub spent : OutcomeSpent old new outcome
  pub untouched : Untouched old new told_before told_after outcome
  pub own : Works (process old) (OfRequest request old) (outcome_ended outcome) told_before told_after
  pub acts : Adds told_before told_after (OutcomeActs outcome)
  pub state : OutcomeState request old new outcome
  pub sound : OutcomeSound request old told_before told_after outcome
  pub least : OutcomeLeast request old told_before told_after outcome
  pub full : OutcomeFull request old new told_before told_after outcome
  pub of_start : OutcomeOfStart request new outcome
