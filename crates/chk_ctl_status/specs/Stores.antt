-- What is seen of a store, by own reads, and the text that shows it.
use Rattle.std.specs.Prelude.{ℕ, Bool, false, nat_le, nat_lt, ◌||◌, max, List, [], ◌∷◌, ◌++◌}
use Rattle.std.specs.Prelude.{length, codes, decimal, if◌then◌else◌, unwrap_or, flat_map}
use Rattle.std.specs.Prelude.{Option, Some, None, Result, Ok, Err}
use Rattle.std.specs.List.{list_any}
use Rattle.chk_site.specs.declared.acts.OutsideFault.{OutsideFault}
use Rattle.chk_site.specs.declared.acts.OutsideFault.TheVariants as site
use Rattle.chk_site.specs.History.{History}
use Rattle.chk_world.specs.Sight.{job}
use Rattle.chk_record_index.specs.declared.fault.JobFault.{JobFault}
use Rattle.chk_record_index.specs.declared.fault.JobFault.TheVariants as fault
use Rattle.chk_book.specs.declared.book.Book.{Book}
use Rattle.chk_book.specs.Books.{book_view}
use Rattle.chk_book.specs.Views.{end_view}
use Rattle.chk_ctl_cat.specs.Loading.{BookFound}
use Rattle.chk_ctl_held.specs.declared.finding.Waiting.{Waiting}
use Rattle.chk_ctl_held.specs.Finding.{FoundAgain}
use Rattle.chk_ctl_status_rows.specs.declared.sinks.Sinks.{Sinks}
use Rattle.chk_ctl_status_rows.specs.declared.sinks.OpenSink.{OpenSink}
use Rattle.chk_ctl_status_rows.specs.Lines.{counts_line, sink_line, stream_in}
use Rattle.chk_ctl_status_rows.specs.Sinks.{FindsSinks}
use Rattle.chk_ctl_status.specs.declared.store.StoreSeen.{StoreSeen}
use Rattle.chk_ctl_status.specs.Free.{free_text, free_word}

-- a refusal of the site as one of the job's
abbrev pub job_of : OutsideFault → JobFault
job_of (site.Outside call) = fault.Outside call
job_of site.NoMemory = fault.NoMemory

-- the sinks are looked at, beside the two books
pub data FoundRest (w : Waiting) (b : Book) : Result StoreSeen JobFault → Option History
    → Option History → Type 0 where
  no_sinks : {old new : Option History} (given : OutsideFault)
      → FindsSinks job (Err given) old new → FoundRest w b (Err (job_of given)) old new
  with_sinks : {old new : Option History} (sinks : Sinks) → FindsSinks job (Ok sinks) old new
      → FoundRest w b (Ok (record { waiting = w; split = b; sinks = sinks; free = None })) old new

-- the book of the records is read before
pub data FoundBeside (w : Waiting) : Result StoreSeen JobFault → Option History → Option History
    → Type 0 where
  no_records : {old new : Option History} (given : JobFault)
      → BookFound (codes "demux") (Err given) old new → FoundBeside w (Err given) old new
  with_records : {result : Result StoreSeen JobFault} {old mid new : Option History} (b : Book)
      → BookFound (codes "demux") (Ok (book_view b)) old mid → FoundRest w b result mid new
      → FoundBeside w result old new

-- the archive's book and the chunks that it sets aside are read before
pub data FoundStore : Result StoreSeen JobFault → Option History → Option History → Type 0 where
  no_archive : {old new : Option History} (given : JobFault)
      → FoundAgain (codes "archive") (Err given) old new → FoundStore (Err given) old new
  with_archive : {result : Result StoreSeen JobFault} {old mid new : Option History}
      (w : Waiting) → FoundAgain (codes "archive") (Ok w) old mid
      → FoundBeside w result mid new → FoundStore result old new

-- so many seconds are too many
abbrev pub is_quiet : Option ℕ → Bool
is_quiet (Some seconds) = nat_le 600 seconds
is_quiet None = false

-- chunks are set aside, or a sink under writing is quiet for too long
abbrev pub has_trouble : StoreSeen → Bool
has_trouble s =
    nat_lt 0 (length s.waiting.heads)
    || list_any (λ (o : OpenSink). is_quiet o.quiet) s.sinks.unclosed.items

-- how many sinks are under writing, how many closed ones wait, and how many chunks are set aside;
-- and below that what is free
abbrev pub store_counts : StoreSeen → List ℕ
store_counts s =
    counts_line (length s.sinks.unclosed.items) s.sinks.closed (length s.waiting.heads)
    ++ free_text s.free

-- the tables, below the name of the folder
abbrev pub text_of : List ℕ → List ℕ → List ℕ → List ℕ → List ℕ
text_of folder streams sinks counts =
    codes "store " ++ (folder ++ (codes "\n       ARCHIVED         DEMUXED  STREAM\n"
    ++ (streams ++ (codes "        WRITTEN       COMMITTED           QUIET  SINK\n"
    ++ (sinks ++ (codes "       UNCLOSED          CLOSED            HELD\n" ++ counts))))))

abbrev pub store_text : List ℕ → StoreSeen → List ℕ
store_text folder s =
    text_of folder
    (flat_map (λ e. stream_in (book_view s.split).ends (end_view e)) s.waiting.book.ends)
    (flat_map sink_line s.sinks.unclosed.items) (store_counts s)

-- the most seconds that a sink is known to be quiet
abbrev pub seconds_of : Option ℕ → ℕ
seconds_of quiet = unwrap_or quiet 0

abbrev pub longest : ℕ → List OpenSink → ℕ
longest most [] = most
longest most (s ∷ sinks) = longest (max most (seconds_of s.quiet)) sinks

abbrev pub line_counts : StoreSeen → List ℕ
line_counts s =
    codes "unclosed " ++ (decimal (length s.sinks.unclosed.items) ++ (codes " closed "
    ++ (decimal s.sinks.closed ++ (codes " held " ++ (decimal (length s.waiting.heads)
    ++ (codes " quiet " ++ (decimal (longest 0 s.sinks.unclosed.items)
    ++ (codes " free " ++ free_word s.free))))))))

-- one line on a store
abbrev pub line_text : List ℕ → StoreSeen → List ℕ
line_text folder s =
    (if has_trouble s then codes "WARNING" else codes "OK")
    ++ (codes " - " ++ (folder ++ (codes ": " ++ (line_counts s ++ codes "\n"))))
