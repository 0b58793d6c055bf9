-- One run of the archive job: what it takes, what it sets aside, and what it reports.
use Rattle.std.specs.Prelude.{◌≡◌, ℕ, ◌+◌, ◌-◌, Bool, true, false, ◌&&◌, ◌||◌, not, ◌==◌, nat_eq, nat_lt, nat_le, IsTrue, List, [], ◌∷◌, ◌++◌, length, filter, flat_map, count_by, Contains, Any, codes, decimal, bytes_eq, is_some, if◌then◌else◌, Option, Some, None}
use Rattle.std.specs.List.{starts_with}
use Rattle.chk_bytes.specs.Words.{before_end}
use Rattle.chk_site.specs.declared.acts.Role.TheVariants.{Job}
use Rattle.chk_site.specs.declared.acts.ActAnswer.{ActAnswer}
use Rattle.chk_site.specs.declared.acts.ActAnswer.TheVariants.{Done}
use Rattle.chk_site.specs.Files.{Files}
use Rattle.chk_site.specs.Acts.{Deed, Lists, deed, same_role}
use Rattle.chk_site.specs.History.{History, files_after}
use Rattle.chk_site.specs.Honest.{in_folder}
use Rattle.chk_chunk.specs.Keys.{Stream, Chunk, Covers, chunk_begin, chunk_end, same_stream, stream_lt, same_data}
use Rattle.chk_chunk.specs.Reach.{IsReach}
use Rattle.chk_world.specs.Streams.{start_of}
use Rattle.chk_world.specs.Committed.{sink_chunks, aside_chunks, archive_of_stream}

-- a listing of the sinks by the job: its names, and the history up to it
pub record Listing : Type 0 where
  pub names : List (List ℕ)
  pub upto : History

-- the last listing after this act
abbrev pub listing_by : Bool → Deed → ActAnswer → History → Option Listing → Option Listing
listing_by by_job (Lists folder) (Done names number of) upto earlier =
    if by_job && bytes_eq folder (codes "sinks") then Some (record { names = names; upto = upto }) else earlier
listing_by by_job call answer upto earlier = earlier

-- the job's last listing of the sinks
abbrev pub last_listing : History → Option Listing
last_listing [] = None
last_listing (step ∷ history) =
    listing_by (same_role step.act.who.role Job) (deed step.act) step.act.answer (step ∷ history) (last_listing history)

-- the name of a sink under writing
abbrev pub is_unclosed : List ℕ → Bool
is_unclosed name = is_some (before_end (codes ".chukwa") name)

-- the name of a done sink
abbrev pub is_closed : List ℕ → Bool
is_closed name = is_some (before_end (codes ".done") name)

-- how many sinks under writing a listing shows
abbrev pub unclosed_in : List (List ℕ) → ℕ
unclosed_in names = count_by is_unclosed names

-- the file of a listed name
abbrev pub sink_path : List ℕ → List ℕ
sink_path name = in_folder (codes "sinks") name

-- the chunks of a listed done sink
abbrev pub listed_chunks : Files → List ℕ → List Chunk
listed_chunks files name = if is_closed name then sink_chunks (files (sink_path name)) else []

-- in the order of streams, then of first offset and sequence id
abbrev pub comes_before : Chunk → Chunk → Bool
comes_before c d =
    stream_lt c.key.stream d.key.stream
    || (same_stream c.key.stream d.key.stream
    && (nat_lt (chunk_begin c) (chunk_begin d)
    || (nat_eq (chunk_begin c) (chunk_begin d) && nat_lt (chunk_end c) (chunk_end d))))

-- the chunk put behind those that come before it, and in front of the rest
abbrev pub put_in : Chunk → List Chunk → List Chunk
put_in c [] = c ∷ []
put_in c (d ∷ ds) = elim (comes_before d c) [ true ↦ d ∷ put_in c ds | false ↦ c ∷ d ∷ ds ]

-- in order; those that are alike keep the order that they had
abbrev pub in_order : List Chunk → List Chunk
in_order [] = []
in_order (c ∷ cs) = put_in c (in_order cs)

-- what a run has before it: the chunks set aside and those of the listed done sinks
abbrev pub found : Listing → List Chunk
found l = aside_chunks (files_after l.upto) ++ flat_map (listed_chunks (files_after l.upto)) l.names

-- the ends with that of one stream set anew
abbrev pub with_end : (Stream → ℕ) → Stream → ℕ → Stream → ℕ
with_end ends s end t = if same_stream s t then end else ends t

-- a chunk that begins at or below its stream's end and ends past it gives its bytes past that end; the sum of these
abbrev pub total_gain : (Stream → ℕ) → List Chunk → ℕ
total_gain ends [] = 0
total_gain ends (c ∷ cs) =
    let s = c.key.stream in
    elim (nat_le (chunk_begin c) (ends s) && nat_lt (ends s) (chunk_end c)) [
      | true ↦ (chunk_end c - ends s) + total_gain (with_end ends s (chunk_end c)) cs
      | false ↦ total_gain ends cs
    ]

-- of chunks that are equal in stream, sequence id and data the first one
abbrev pub once : List Chunk → List Chunk
once [] = []
once (c ∷ cs) = c ∷ filter (λ d. not (same_data c d)) (once cs)

-- the end of a stream's archive before the run. (The start of a stream without a byte may become known during the run.)
abbrev pub end_before : History → Listing → Stream → ℕ
end_before history l s = start_of l.upto s + length (archive_of_stream (files_after l.upto) s)

-- the end of a stream's archive after the run, counted from the start that the stream had before it
abbrev pub end_since : History → Listing → Stream → ℕ
end_since history l s = start_of l.upto s + length (archive_of_stream (files_after history) s)

-- each stream's archive has grown just as far as the found chunks reach without a gap
abbrev pub HasReached : History → Listing → Type 0
HasReached history l =
    (s : Stream) → IsReach (λ o. Any (Covers s o) (found l)) (end_before history l s) (end_since history l s)

-- the listed done sinks are gone, and the chunks past a gap are set aside
pub record SetsAside (history : History) (l : Listing) (held removed : ℕ) : Type 0 where
  pub aside : aside_chunks (files_after history)
      ≡ once (filter (λ c. nat_lt (end_since history l c.key.stream) (chunk_end c)) (in_order (found l)))
  pub held_is : held ≡ length (aside_chunks (files_after history))
  pub removed_is : removed ≡ count_by is_closed l.names
  pub gone : (name : List ℕ) → Contains l.names name → IsTrue (is_closed name)
      → files_after history (sink_path name) ≡ None

-- an archive run that began with this listing, with its four numbers
pub record IsArchiveRun (history : History) (l : Listing) (unclosed taken held removed : ℕ) : Type 0 where
  pub unclosed_is : unclosed ≡ unclosed_in l.names
  pub taken_is : taken ≡ total_gain (end_before history l) (in_order (found l))
  pub reached : HasReached history l
  pub rest : SetsAside history l held removed

-- the line that reports a run
abbrev pub report : ℕ → ℕ → ℕ → ℕ → List ℕ
report unclosed taken held removed =
    codes "archive unclosed " ++ (decimal unclosed
    ++ (codes " taken " ++ (decimal taken ++ (codes " held " ++ (decimal held
    ++ (codes " removed " ++ (decimal removed ++ 10 ∷ [])))))))

-- the text is one line with its newline
abbrev pub is_one_line : List ℕ → Bool
is_one_line [] = false
is_one_line (b ∷ []) = b == 10
is_one_line (b ∷ c ∷ text) = not (b == 10) && is_one_line (c ∷ text)

-- the text begins as a report does
abbrev pub is_report : List ℕ → Bool
is_report text = starts_with nat_eq text (codes "archive unclosed ")
