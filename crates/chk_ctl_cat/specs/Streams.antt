-- What is printed of a stream, as the book that is read names it.
use Rattle.std.specs.Prelude.{◌≡◌, ℕ, List, [], ◌∷◌, Option, Some, None, Result, Ok, Err, if◌then◌else◌}
use Rattle.chk_site.specs.Files.{Files}
use Rattle.chk_site.specs.History.{History}
use Rattle.chk_site.specs.Site.{Adds}
use Rattle.chk_chunk.specs.Keys.{Stream, same_stream}
use Rattle.chk_world.specs.Books.{Book, End}
use Rattle.chk_record_index.specs.declared.fault.JobFault.{JobFault}
use Rattle.chk_record_index.specs.declared.fault.JobFault.TheVariants.{Outside as job_outside, Damaged as job_damaged, Spent as job_spent, NoMemory as job_no_memory}
use Rattle.chk_ctl_cat.specs.declared.course.Course.{Course}
use Rattle.chk_ctl_cat.specs.declared.fault.LookFault.{LookFault}
use Rattle.chk_ctl_cat.specs.declared.fault.LookFault.TheVariants.{Outside, Damaged, NoMemory}
use Rattle.chk_ctl_cat.specs.declared.stream.Came.{Came}
use Rattle.chk_ctl_cat.specs.declared.stream.Came.TheVariants.{Whole, Short, Unknown}
use Rattle.chk_ctl_cat.specs.Courses.{stream_of, KeepsCourse}
use Rattle.chk_ctl_cat.specs.Archives.{names_of, PrintedAll}
use Rattle.chk_ctl_cat.specs.Loading.{BookFound}
use Rattle.chk_ctl_cat.specs.Looking.{Sees}

-- the first end of the stream
abbrev pub end_of : Stream → List End → Option End
end_of s [] = None
end_of s (e ∷ es) = if same_stream s e.stream then Some e else end_of s es

-- the course at the start of its stream, of which this is the end in a book
abbrev pub course_from : Course → End → Course
course_from c e = record {
  source = c.source;
  kind = c.kind;
  name = c.name;
  start = e.start;
  end = e.end;
  begin = c.begin;
  reached = e.start;
}

-- whether a course has reached its end
abbrev pub IsCame : Course → Came → Type 0
IsCame c Whole = c.reached ≡ c.end
IsCame c Short = c.reached ≡ c.end → ⊥
IsCame c Unknown = ⊥

-- a refusal of a read of the job's as one of a look
abbrev pub look_of : JobFault → LookFault
look_of (job_outside call) = Outside call
look_of (job_damaged name at) = Damaged name at
look_of (job_spent number) = NoMemory
look_of job_no_memory = NoMemory

-- a printing that came to something is one that is done
abbrev pub printed_result : Result Came LookFault → Result (Unit {0}) LookFault
printed_result (Ok came) = Ok tt
printed_result (Err fault) = Err fault

-- what it came to
abbrev pub CameTo : Course → Result Came LookFault → Type 0
CameTo c (Ok came) = IsCame c came
CameTo c (Err fault) = Unit {0}

-- A stream that the book doesn't have is unknown, and nothing is printed. Of another one, with this end in the book, the
-- segments of these names are printed from its start on, by the result, and what it came to is so.
abbrev pub PrintedBy : ℕ → List (List ℕ) → Option End → Course → Course → Result Came LookFault → Files → List ℕ → History → Type 0
PrintedBy most names None old new result held text history = (result ≡ Ok Unknown) × (text ≡ [])
PrintedBy most names (Some e) old new result held text history =
    CameTo new result × PrintedAll most names (course_from old e) new (printed_result result) held text history

-- where the book has the stream, the course is the one from its start there, come further; else it is as it was
abbrev pub Stays : Option End → Course → Course → Type 0
Stays None old new = new ≡ old
Stays (Some e) old new = KeepsCourse (course_from old e) new

-- what follows a read of the book
abbrev pub Went : List ℕ → ℕ → Course → Course → Result Book JobFault → Result Came LookFault
    → Option History → Option History → Type 0
Went folder most old new (Ok b) result before after =
    Stays (end_of (stream_of old) b.ends) old new
    × Adds before after (Sees (PrintedBy most (names_of folder b.segments)
    (end_of (stream_of old) b.ends) old new result))
Went folder most old new (Err fault) result before after =
    (new ≡ old) × (after ≡ before) × (result ≡ Err (look_of fault))

-- the book was read, and then its archive of the stream was printed
pub record Stage (folder : List ℕ) (most : ℕ) (old new : Course) (result : Result Came LookFault)
    (before after : Option History) : Type 0 where
  pub given : Result Book JobFault
  pub middle : Option History
  pub read : BookFound folder given before middle
  pub went : Went folder most old new given result middle after
