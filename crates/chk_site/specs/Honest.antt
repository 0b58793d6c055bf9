-- An honest step: its answer agrees with the state before it.
use Rattle.std.specs.Prelude.{◌≡◌, ◌≢◌, ◌⊎◌, ◌↔◌, ℕ, ◌≤◌, ◌<◌, Bool, ◌&&◌, ◌==◌, not, IsTrue, List, [], ◌∷◌, ◌++◌, length, take, drop, Contains, bytes_eq, Option, Some, None, IsSome, MatchBool}
use Rattle.std.specs.List.{list_any}
use Rattle.std.specs.Borrow.{Bor}
use Rattle.chk_bytes.specs.Words.{is_word, BeginsWith, text_lt}
use Rattle.chk_site.specs.declared.acts.Who.{Who}
use Rattle.chk_site.specs.declared.acts.Role.{Role}
use Rattle.chk_site.specs.declared.acts.Role.TheVariants.{Agent}
use Rattle.chk_site.specs.declared.acts.CallFault.TheVariants.{Failed, Missing, Exists, Short}
use Rattle.chk_site.specs.declared.acts.ActAnswer.{ActAnswer}
use Rattle.chk_site.specs.declared.acts.ActAnswer.TheVariants.{Done, Refused, Stopped, Rotated, Deleted}
use Rattle.chk_site.specs.Files.{File, Files}
use Rattle.chk_site.specs.Logs.{Shown, read_from, given_of, newest}
use Rattle.chk_site.specs.Acts.{Deed, ReadsLog, AsksNewest, GrowsLog, Creates, Appends, Syncs, Renames, Removes, Cuts, AsksSize, Reads, Lists, Sends, Gets, Takes, TakesMore, deed, first, same_who}
use Rattle.chk_site.specs.History.{Step, History, Modelled, files_after, logs_after}
use Rattle.chk_site.specs.Messages.{Message, Taken, Reply, self_address, message, taken, replies, waiting}

-- a call that is done, or fails
abbrev pub Plain : ActAnswer → Type 0
Plain (Done words number of) = Unit {0}
Plain (Refused Failed) = Unit {0}
Plain (Stopped left) = Unit {0}
Plain answer = ⊥

-- the same with a fact of what was given
abbrev pub Gives : ActAnswer → (List (List ℕ) → ℕ → ℕ → Type 0) → Type 0
Gives (Done words number of) P = P words number of
Gives (Refused Failed) P = Unit {0}
Gives (Stopped left) P = Unit {0}
Gives answer P = ⊥

-- an append to a log, or what a writer does with its generations
abbrev pub GrowsOrTurns : ActAnswer → Type 0
GrowsOrTurns (Rotated suffix) = Unit {0}
GrowsOrTurns (Deleted suffix) = Unit {0}
GrowsOrTurns answer = Plain answer

-- a call that wants no file of this name
abbrev pub AtAbsent : ActAnswer → Option File → Type 0
AtAbsent (Done words number of) file = file ≡ None
AtAbsent (Refused Exists) file = IsSome file
AtAbsent answer file = Plain answer

-- a call that wants a file of this name
abbrev pub AtPresent : ActAnswer → Option File → Type 0
AtPresent (Done words number of) file = IsSome file
AtPresent (Refused Missing) file = file ≡ None
AtPresent answer file = Plain answer

-- a call that wants a file of at least n bytes
abbrev pub AtCut : ActAnswer → ℕ → Option File → Type 0
AtCut (Done words number of) n None = ⊥
AtCut (Done words number of) n (Some file) = n ≤ length file.bytes
AtCut (Refused (Short size)) n None = ⊥
AtCut (Refused (Short size)) n (Some file) = (length file.bytes < n) × (size ≡ length file.bytes)
AtCut answer n file = AtPresent answer file

-- a call that gives the file's length
abbrev pub AtSize : ActAnswer → Option File → Type 0
AtSize (Done words number of) None = ⊥
AtSize (Done words number of) (Some file) = number ≡ length file.bytes
AtSize answer file = AtPresent answer file

-- a call that gives the file's bytes from a place on
abbrev pub AtRead : ActAnswer → ℕ → ℕ → Option File → Type 0
AtRead (Done words number of) at max None = ⊥
AtRead (Done words number of) at max (Some file) = (at ≤ length file.bytes) × (words ≡ take max (drop at file.bytes) ∷ [])
AtRead (Refused (Short size)) at max None = ⊥
AtRead (Refused (Short size)) at max (Some file) = (length file.bytes < at) × (size ≡ length file.bytes)
AtRead answer at max file = AtPresent answer file

-- a call that gives a generation's bytes from a place on
abbrev pub AtLogRead : ActAnswer → ℕ → ℕ → Shown → Type 0
AtLogRead (Done words number of) at max g = (at ≤ length g.bytes) × (words ≡ given_of g at max)
AtLogRead (Refused (Short size)) at max g = (length g.bytes < at) × (size ≡ length g.bytes)
AtLogRead answer at max g = Plain answer

-- a call that gives the newest suffix, or none
abbrev pub AtNewest : ActAnswer → Option (List ℕ) → Type 0
AtNewest (Done words number of) None = words ≡ []
AtNewest (Done words number of) (Some suffix) = words ≡ suffix ∷ []
AtNewest answer suffix = Plain answer

-- each name comes before the next one in byte order
abbrev pub Rises : List (List ℕ) → Type 0
Rises [] = Unit {0}
Rises (name ∷ []) = Unit {0}
Rises (name ∷ next ∷ names) = IsTrue (text_lt name next) × Rises (next ∷ names)

-- the name of a file directly in a folder
abbrev pub in_folder : List ℕ → List ℕ → List ℕ
in_folder folder name = folder ++ 47 ∷ name

-- just the words, without a slash, that name files of the folder, in byte order
pub record IsListing (files : Files) (folder : List ℕ) (names : List (List ℕ)) : Type 0 where
  pub rises : Rises names
  pub each : (name : List ℕ) → Contains names name
      ↔ (IsTrue (is_word name && not (list_any (λ b. b == 47) name)) × IsSome (files (in_folder folder name)))

-- the bytes are a front of that message
abbrev pub IsFrontOf : Option Message → List ℕ → Type 0
IsFrontOf None bytes = ⊥
IsFrontOf (Some m) bytes = BeginsWith m.bytes bytes

-- what was taken is a front of a message; at an agent's door it may be anything
abbrev pub TakenPrefix : Role → ℕ → Option Message → List ℕ → Type 0
TakenPrefix Agent of m bytes = (of ≡ 0) ⊎ IsFrontOf m bytes
TakenPrefix role of m bytes = IsFrontOf m bytes

-- the bytes are all of that message
abbrev pub IsWholeOf : Option Message → List ℕ → Type 0
IsWholeOf None bytes = ⊥
IsWholeOf (Some m) bytes = bytes ≡ m.bytes

-- the mailbox gives its oldest message whole, and nothing where it is empty
abbrev pub MailboxOrder : History → List ℕ → List (List ℕ) → ℕ → Type 0
MailboxOrder history [] words of = words ≡ []
MailboxOrder history (n ∷ later) words of = (of ≡ n) × (bytes : List ℕ) × (words ≡ bytes ∷ []) × IsWholeOf (message history n) bytes

-- a taking gives nothing, or a front of a message under a new number
abbrev pub TakesOne : History → Who → List (List ℕ) → ℕ → ℕ → Type 0
TakesOne history who [] number of = Unit {0}
TakesOne history who (bytes ∷ words) number of =
    (words ≡ []) × (number ≢ 0) × (taken history number ≡ None) × TakenPrefix who.role of (message history of) bytes

-- a taking is such a one; at the mailbox it follows the mailbox
abbrev pub AtTake : History → Who → List ℕ → List (List ℕ) → ℕ → ℕ → Type 0
AtTake history who door words number of =
    TakesOne history who words number of
    × MatchBool (bytes_eq door self_address) (MailboxOrder history (waiting who history) words of) (Unit {0})

-- the next piece goes on with what its taker took; of nobody's taking, or another's, it is empty
abbrev pub AtMore : History → Who → Option Taken → List (List ℕ) → Type 0
AtMore history who None words = words ≡ [] ∷ []
AtMore history who (Some t) words =
    MatchBool (same_who who t.taker)
    ((more : List ℕ) × (words ≡ more ∷ []) × TakenPrefix t.taker.role t.of (message history t.of) (t.bytes ++ more))
    (words ≡ [] ∷ [])

-- nothing, or a front of one of these answers
abbrev pub FrontOfSome : List Reply → List ℕ → Type 0
FrontOfSome [] bytes = bytes ≡ []
FrontOfSome (r ∷ rest) bytes = BeginsWith r.bytes bytes ⊎ FrontOfSome rest bytes

-- the answer was made to a taking at the mailbox, and its call was done
abbrev pub is_sure : Reply → Bool
is_sure r = r.inside && r.done

-- all of one of the sure answers
abbrev pub WholeOfSure : List Reply → List ℕ → Type 0
WholeOfSure [] bytes = ⊥
WholeOfSure (r ∷ rest) bytes = (IsTrue (is_sure r) × (bytes ≡ r.bytes)) ⊎ WholeOfSure rest bytes

-- what is got for a message: the whole of a sure answer where there is one, else nothing or a front of some answer
abbrev pub GotAnswer : List Reply → List ℕ → Type 0
GotAnswer replies bytes = MatchBool (list_any is_sure replies) (WholeOfSure replies bytes) (FrontOfSome replies bytes)

-- the number of a message is new
abbrev pub FreshNumber : History → ℕ → Type 0
FreshNumber history n = (n ≢ 0) × (message history n ≡ None)

-- the answer agrees with the history before it
abbrev pub Agrees : History → Who → Deed → ActAnswer → Type 0
Agrees history who (ReadsLog path part at max) answer = AtLogRead answer at max (read_from part (logs_after history path))
Agrees history who (AsksNewest path) answer = AtNewest answer (newest (logs_after history path).rotated)
Agrees history who (GrowsLog path piece) answer = GrowsOrTurns answer
Agrees history who (Creates name) answer = AtAbsent answer (files_after history name)
Agrees history who (Appends name piece) answer = AtPresent answer (files_after history name)
Agrees history who (Syncs name) answer = AtPresent answer (files_after history name)
Agrees history who (Renames old new) answer = AtPresent answer (files_after history old)
Agrees history who (Removes name) answer = AtPresent answer (files_after history name)
Agrees history who (Cuts name n) answer = AtCut answer n (files_after history name)
Agrees history who (AsksSize name) answer = AtSize answer (files_after history name)
Agrees history who (Reads name at max) answer = AtRead answer at max (files_after history name)
Agrees history who (Lists folder) answer = Gives answer (λ words number of. IsListing (files_after history) folder words)
Agrees history who (Sends n address bytes) answer =
    FreshNumber history n × Gives answer (λ words number of. number ≡ n)
Agrees history who (Gets m) answer = Gives answer (λ words number of. GotAnswer (replies history m) (first words))
Agrees history who (Takes door wait) answer = Gives answer (λ words number of. AtTake history who door words number of)
Agrees history who (TakesMore t) answer = Gives answer (λ words number of. AtMore history who (taken history t) words)
Agrees history who call answer = Plain answer

-- the file model allows the step, and its answer agrees with the history before it
pub record Honest (history : History) (step : Step) : Type 0 where
  pub modelled : Modelled history step
  pub agrees : Agrees history step.act.who (deed step.act) step.act.answer

-- a text that may be given
abbrev pub text_at : Option (Bor (List ℕ)) → Option (List ℕ)
text_at None = None
text_at (Some text) = Some text.now
