-- What an act asks for, who made it, and what a change it may be.
use Rattle.std.specs.Prelude.{◌≡◌, ◌⊎◌, ℕ, ◌≤◌, Bool, true, false, ◌&&◌, ◌||◌, IsTrue, List, [], ◌∷◌, length, bytes_eq, if◌then◌else◌, Option, Some, None}
use Rattle.chk_site.specs.declared.acts.Role.{Role}
use Rattle.chk_site.specs.declared.acts.Role.TheVariants.{Agent, Collector, Job, Writer}
use Rattle.chk_site.specs.declared.acts.Who.{Who}
use Rattle.chk_site.specs.declared.acts.Act.{Act}
use Rattle.chk_site.specs.declared.lists.Left.{Left}
use Rattle.chk_site.specs.declared.acts.Call.{Call}
use Rattle.chk_site.specs.declared.acts.Call.TheVariants.{Start, LogRead, LogNewest, LogAppend, Create, Append, Sync, Rename, Remove, Cut, Size, Read, List as ListNames, Clock, Pause, Send, Got, Take, More, Answer, Say}
use Rattle.chk_site.specs.declared.acts.CallFault.TheVariants.{Failed}
use Rattle.chk_site.specs.declared.acts.ActAnswer.{ActAnswer}
use Rattle.chk_site.specs.declared.acts.ActAnswer.TheVariants.{Done, Refused, Stopped, Rotated, Deleted}
use Rattle.chk_site.specs.Files.{Change, Nothing, Created, Grown, Secured, Moved, Gone, Shortened, LogGrown, LogTurned, LogDropped}
use Rattle.chk_site.specs.Suffixes.{is_suffix}
use Rattle.chk_site.specs.Logs.{Part, part_of}

-- an act's call with what it is asked for
pub data Deed : Type 0 where
  Starts : Deed
  ReadsLog : List ℕ → Part → ℕ → ℕ → Deed
  AsksNewest : List ℕ → Deed
  GrowsLog : List ℕ → List ℕ → Deed
  Creates : List ℕ → Deed
  Appends : List ℕ → List ℕ → Deed
  Syncs : List ℕ → Deed
  Renames : List ℕ → List ℕ → Deed
  Removes : List ℕ → Deed
  Cuts : List ℕ → ℕ → Deed
  AsksSize : List ℕ → Deed
  Reads : List ℕ → ℕ → ℕ → Deed
  Lists : List ℕ → Deed
  AsksClock : Deed
  Pauses : ℕ → Deed
  Sends : ℕ → List ℕ → List ℕ → Deed
  Gets : ℕ → Deed
  Takes : List ℕ → ℕ → Deed
  TakesMore : ℕ → Deed
  Answers : ℕ → List ℕ → Deed
  Says : List ℕ → Deed

-- the first and the second text of a call
abbrev pub first : List (List ℕ) → List ℕ
first [] = []
first (word ∷ words) = word

-- the second text of a call
abbrev pub second : List (List ℕ) → List ℕ
second [] = []
second (word ∷ words) = first words

-- what a call with these words and numbers asks for
abbrev pub deed_by : Call → List (List ℕ) → ℕ → ℕ → Deed
deed_by Start words number max = Starts
deed_by LogRead words number max = ReadsLog (first words) (part_of (second words)) number max
deed_by LogNewest words number max = AsksNewest (first words)
deed_by LogAppend words number max = GrowsLog (first words) (second words)
deed_by Create words number max = Creates (first words)
deed_by Append words number max = Appends (first words) (second words)
deed_by Sync words number max = Syncs (first words)
deed_by Rename words number max = Renames (first words) (second words)
deed_by Remove words number max = Removes (first words)
deed_by Cut words number max = Cuts (first words) number
deed_by Size words number max = AsksSize (first words)
deed_by Read words number max = Reads (first words) number max
deed_by ListNames words number max = Lists (first words)
deed_by Clock words number max = AsksClock
deed_by Pause words number max = Pauses number
deed_by Send words number max = Sends number (first words) (second words)
deed_by Got words number max = Gets number
deed_by Take words number max = Takes (first words) number
deed_by More words number max = TakesMore number
deed_by Answer words number max = Answers number (first words)
deed_by Say words number max = Says (first words)

-- what an act asks for
abbrev pub deed : Act → Deed
deed act = deed_by act.call act.words act.number act.max

-- they are the same role
abbrev pub same_role : Role → Role → Bool
same_role Agent Agent = true
same_role Collector Collector = true
same_role Job Job = true
same_role Writer Writer = true
same_role _ _ = false

-- they are the same process
abbrev pub same_who : Who → Who → Bool
same_who a b = same_role a.role b.role && bytes_eq a.name b.name

-- the call was done
abbrev pub is_done : ActAnswer → Bool
is_done (Done words number of) = true
is_done _ = false

-- the act was a stop
abbrev pub is_stop : ActAnswer → Bool
is_stop (Stopped left) = true
is_stop _ = false

-- what a call changes where it takes place
abbrev pub change_of : Deed → Change
change_of (GrowsLog path piece) = LogGrown path piece
change_of (Creates name) = Created name
change_of (Appends name piece) = Grown name piece
change_of (Syncs name) = Secured name
change_of (Renames old new) = Moved old new
change_of (Removes name) = Gone name
change_of (Cuts name n) = Shortened name n
change_of _ = Nothing

-- the call may change the file of this name
abbrev pub touches : Deed → List ℕ → Bool
touches (Creates n) name = bytes_eq name n
touches (Appends n piece) name = bytes_eq name n
touches (Syncs n) name = bytes_eq name n
touches (Renames old new) name = bytes_eq name new || bytes_eq name old
touches (Removes n) name = bytes_eq name n
touches (Cuts n k) name = bytes_eq name n
touches call name = false

-- a stop says that the call on this name took place
abbrev pub says_whole : List Left → List ℕ → Bool
says_whole [] name = false
says_whole (l ∷ left) name = if bytes_eq name l.name then l.whole else says_whole left name

-- the tail that a stop leaves of this file
abbrev pub tail_of : List Left → List ℕ → Option (List ℕ)
tail_of [] name = None
tail_of (l ∷ left) name = if bytes_eq name l.name then Some l.tail else tail_of left name

-- the tail that an act leaves of this file, where it was a stop
abbrev pub tail_in : ActAnswer → List ℕ → Option (List ℕ)
tail_in (Stopped left) name = tail_of left name
tail_in answer name = None

-- a writer's act that does no more to a log than append to it
abbrev pub OnlyAppends : ActAnswer → Type 0
OnlyAppends (Rotated suffix) = ⊥
OnlyAppends (Deleted suffix) = ⊥
OnlyAppends answer = Unit {0}

-- some of a piece that was to be appended to a file or a log
abbrev pub TornAppend : Change → Change → Type 0
TornAppend (LogGrown path piece) did = (junk : List ℕ) × (length junk ≤ length piece) × (did ≡ LogGrown path junk)
TornAppend (Grown name piece) did = (junk : List ℕ) × (length junk ≤ length piece) × (did ≡ Grown name junk)
TornAppend change did = did ≡ change

-- what a call that failed may have done: nothing, or all, or of an append some bytes; a sync that failed did nothing
abbrev pub MayHave : Change → Change → Type 0
MayHave Nothing did = did ≡ Nothing
MayHave (Secured name) did = did ≡ Nothing
MayHave change did = (did ≡ Nothing) ⊎ TornAppend change did

-- what a call that was stopped has done, before what becomes of the tails of files
abbrev pub HasHalf : Change → List Left → Change → Type 0
HasHalf (Created name) left did = did ≡ (if says_whole left name then Created name else Nothing)
HasHalf (Moved old new) left did = did ≡ (if says_whole left old then Moved old new else Nothing)
HasHalf (Gone name) left did = did ≡ (if says_whole left name then Gone name else Nothing)
HasHalf (Shortened name n) left did = did ≡ (if says_whole left name then Shortened name n else Nothing)
HasHalf (LogGrown path piece) left did = TornAppend (LogGrown path piece) did
HasHalf change left did = did ≡ Nothing

-- what an act with this answer did
abbrev pub Did : Deed → ActAnswer → Change → Type 0
Did call (Done words number of) did = did ≡ change_of call
Did call (Refused Failed) did = MayHave (change_of call) did
Did call (Refused fault) did = did ≡ Nothing
Did call (Stopped left) did = HasHalf (change_of call) left did
Did (GrowsLog path piece) (Rotated suffix) did = IsTrue (is_suffix suffix) × (did ≡ LogTurned path suffix)
Did (GrowsLog path piece) (Deleted suffix) did = did ≡ LogDropped path suffix
Did call answer did = did ≡ Nothing
