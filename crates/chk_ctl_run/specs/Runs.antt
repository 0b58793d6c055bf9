-- What a run shows, by its words.
use Rattle.std.specs.Prelude.{◌≡◌, ℕ, ◌-◌, ◌^◌, Bool, true, false, List, codes}
use Rattle.std.specs.Prelude.{if◌then◌else◌, Option, Some, None, Result}
use Rattle.chk_site.specs.History.{History}
use Rattle.chk_chunk.specs.Keys.{record_limit, chunk_limit}
use Rattle.chk_world.specs.Sight.{job}
use Rattle.chk_ctl_cat.specs.declared.course.Course.{Course}
use Rattle.chk_ctl_cat.specs.declared.fault.LookFault.{LookFault}
use Rattle.chk_ctl_cat.specs.declared.stream.Came.{Came}
use Rattle.chk_ctl_cat.specs.Courses.{stream_of}
use Rattle.chk_ctl_streams.specs.Listing.{Listed}
use Rattle.chk_ctl_streams.specs.Going.{GoesOn}
use Rattle.chk_ctl_streams.specs.Following.{Follows}
use Rattle.chk_ctl_line.specs.Asked.{asked}
use Rattle.chk_ctl_line.specs.Commands.{Asked, Audit, Cat, Check, Streams, Verify, Sum, Held}
use Rattle.chk_ctl_line.specs.Commands.{Help, HeldIn, Passed, Version, CatAsked}
use Rattle.chk_ctl_line.specs.Usages.{usage_of, usage_text}
use Rattle.chk_ctl_run.specs.declared.outcome.Outcome.{Outcome}
use Rattle.chk_ctl_run.specs.declared.outcome.Outcome.TheVariants.{Usage, NoMemory}
use Rattle.chk_ctl_run.specs.Outcomes.{listed_as, shown_as}
use Rattle.chk_ctl_run.specs.Auditing.{ShowsAudit}
use Rattle.chk_ctl_run.specs.Checking.{ShowsChecked}
use Rattle.chk_ctl_run.specs.Finding.{InStore}
use Rattle.chk_ctl_run.specs.Summing.{ShowsSums}
use Rattle.chk_ctl_run.specs.Holding.{ShowsHeld}
use Rattle.chk_ctl_run.specs.Passing.{ShowsPassed}
use Rattle.chk_ctl_run.specs.Several.{ShowsStores}
use Rattle.chk_ctl_run.specs.Verifying.{ShowsVerified}
pub use Rattle.chk_ctl_run.specs.Telling.{Tells}

-- the folder of what is wanted, and the most bytes of a record in it
abbrev pub folder_of : CatAsked → List ℕ
folder_of w = if w.records then codes "demux" else codes "archive"

abbrev pub most_of : CatAsked → ℕ
most_of w = if w.records then record_limit else chunk_limit

-- a line for each stream of the two books is printed
pub record ShowsStreams (outcome : Outcome) (before after : Option History) : Type 0 where
  pub given : Result (Unit {0}) LookFault
  pub listed : Listed job (codes "archive") (codes "demux") given before after
  pub is : outcome ≡ listed_as given

-- the course stands at the offset that is asked for, in the stream that is
pub record IsCourseOf (w : CatAsked) (c : Course) : Type 0 where
  pub stream : stream_of c ≡ (record { source = w.source; kind = w.kind; name = w.name })
  pub begin : c.begin ≡ w.begin

-- a stream is printed on, or looked at again and again
abbrev pub PrintsBy : Bool → List ℕ → ℕ → Course → Course → Result Came LookFault
    → Option History → Option History → Type 0
PrintsBy false folder most c d result before after = GoesOn folder most 64 c d result before after
PrintsBy true folder most c d result before after =
    Follows folder most 64 (2 ^ 63 - 1) c d result before after

-- the stream that is asked for is printed from the offset on that is
pub record ShowsFrom (w : CatAsked) (result : Result Came LookFault)
    (before after : Option History) : Type 0 where
  pub from : Course
  pub to : Course
  pub is : IsCourseOf w from
  pub shown : PrintsBy w.follow (folder_of w) (most_of w) from to result before after

-- the same, by the outcome
pub record ShowsStream (w : CatAsked) (outcome : Outcome) (before after : Option History) : Type
    0 where
  pub given : Result Came LookFault
  pub shown : ShowsFrom w given before after
  pub is : outcome ≡ shown_as given

-- the line of the version
abbrev pub version_line : List ℕ
version_line = codes "chukwactl 1.1.0\n"

-- what is asked for is shown
abbrev pub ShowsAsked : Asked → Outcome → Option History → Option History → Type 0
ShowsAsked (Audit w) outcome before after = ShowsAudit w.store outcome before after
ShowsAsked (Cat w) outcome before after = InStore (ShowsStream w) outcome before after
ShowsAsked (Check w) outcome before after = ShowsChecked w outcome before after
ShowsAsked (Streams store) outcome before after = InStore ShowsStreams outcome before after
ShowsAsked (Verify store) outcome before after = ShowsVerified outcome before after
ShowsAsked (Sum store) outcome before after = InStore ShowsSums outcome before after
ShowsAsked (Held store) outcome before after = InStore ShowsHeld outcome before after
ShowsAsked (HeldIn stores) outcome before after = ShowsStores stores outcome before after
ShowsAsked (Passed w) outcome before after = ShowsPassed w outcome before after
ShowsAsked (Help usage) outcome before after = Tells (usage_text usage) outcome before after
ShowsAsked Version outcome before after = Tells version_line outcome before after

-- the same; or there was no memory before
pub data Shows (command : Asked) : Outcome → Option History → Option History → Type 0 where
  unbegun : {now : Option History} → Shows command NoMemory now now
  shows : {outcome : Outcome} {before after : Option History}
      → ShowsAsked command outcome before after → Shows command outcome before after

-- What the words ask for is shown; where they ask for nothing, nothing is done, and their usage
-- is the outcome; or there was no memory to read them.
pub data Ran (words : List (List ℕ)) : Outcome → Option History → Option History → Type 0 where
  unread : {now : Option History} → Ran words NoMemory now now
  unasked : {now : Option History} → asked words ≡ None
      → Ran words (Usage (usage_of words)) now now
  ran : {command : Asked} {outcome : Outcome} {before after : Option History}
      → asked words ≡ Some command
      → Shows command outcome before after → Ran words outcome before after
