-- The families of metrics of stores, and the text of all of them.
use Rattle.std.specs.Prelude.{ℕ, List, [], ◌∷◌, ◌++◌, codes, flat_map, length, string_bytes}
use Rattle.std.specs.Prelude.{Option, Some, None}
use Rattle.std.specs.Borrow.{Bor}
use Rattle.chk_bytes.specs.Stems.{stem_text}
use Rattle.chk_book.specs.declared.lists.End.{End as EndStruct}
use Rattle.chk_book.specs.Books.{book_view}
use Rattle.chk_book.specs.Views.{end_view}
use Rattle.chk_ctl_status_rows.specs.declared.sinks.OpenSink.{OpenSink}
use Rattle.chk_ctl_status_rows.specs.Lines.{split_to}
use Rattle.chk_ctl_metrics.specs.declared.families.Family.{Family}
use Rattle.chk_ctl_metrics.specs.declared.families.Family.TheVariants as family
use Rattle.chk_ctl_metrics.specs.declared.families.NamedStore.{NamedStore}
use Rattle.chk_ctl_metrics.specs.Metrics.{sink_row, store_row, stream_row}

-- the name of a family's metric
abbrev pub name_of : Family → List ℕ
name_of family.Found = codes "chukwa_store_found"
name_of family.Archived = codes "chukwa_archived_bytes"
name_of family.Demuxed = codes "chukwa_demuxed_bytes"
name_of family.Written = codes "chukwa_sink_written_bytes"
name_of family.Committed = codes "chukwa_sink_committed_bytes"
name_of family.Quiet = codes "chukwa_sink_quiet_seconds"
name_of family.Unclosed = codes "chukwa_sinks_unclosed"
name_of family.Closed = codes "chukwa_sinks_closed"
name_of family.Held = codes "chukwa_chunks_held"
name_of family.Free = codes "chukwa_free_bytes"

-- what it is
abbrev pub help_of : Family → List ℕ
help_of family.Found = codes "1 where the folder is a store, 0 where it is none."
help_of family.Archived = codes "Offset up to which the stream is archived."
help_of family.Demuxed = codes "Offset up to which the stream is split into records."
help_of family.Written = codes "Length of a sink under writing."
help_of family.Committed = codes "Length up to which a sink under writing is committed."
help_of family.Quiet = codes "Seconds since a sink under writing grew."
help_of family.Unclosed = codes "Sinks under writing."
help_of family.Closed = codes "Closed sinks that wait for the job."
help_of family.Held = codes "Chunks that are set aside."
help_of family.Free = codes "Bytes that are free where the store is."

-- what stands before the rows of a metric
abbrev pub type_text : List ℕ → List ℕ
type_text name = codes "# TYPE " ++ (name ++ codes " gauge\n# HELP ")

abbrev pub head_text : List ℕ → List ℕ → List ℕ
head_text name help = type_text name ++ (name ++ (codes " " ++ (help ++ codes "\n")))

-- the rows of a store's streams
abbrev pub archived_row : NamedStore → EndStruct → List ℕ
archived_row s e =
    stream_row (name_of family.Archived) (string_bytes s.folder) (end_view e) e.end

abbrev pub demuxed_row : NamedStore → EndStruct → List ℕ
demuxed_row s e =
    stream_row (name_of family.Demuxed) (string_bytes s.folder) (end_view e)
    (split_to (book_view s.seen.split).ends (end_view e))

-- the rows of its sinks
abbrev pub written_row : NamedStore → OpenSink → List ℕ
written_row s o =
    sink_row (name_of family.Written) (string_bytes s.folder) (stem_text o.stem) o.written

abbrev pub committed_row : NamedStore → OpenSink → List ℕ
committed_row s o =
    sink_row (name_of family.Committed) (string_bytes s.folder) (stem_text o.stem) o.committed

-- none where it isn't known
abbrev pub quiet_of : List ℕ → List ℕ → Option ℕ → List ℕ
quiet_of store stem (Some seconds) = sink_row (name_of family.Quiet) store stem seconds
quiet_of store stem None = []

abbrev pub quiet_row : NamedStore → OpenSink → List ℕ
quiet_row s o = quiet_of (string_bytes s.folder) (stem_text o.stem) o.quiet

-- the row of what is free, none where that isn't known
abbrev pub free_of : List ℕ → Option ℕ → List ℕ
free_of store (Some bytes) = store_row (name_of family.Free) store bytes
free_of store None = []

-- the rows that a family has of a store
abbrev pub rows_of : Family → NamedStore → List ℕ
rows_of family.Found s = store_row (name_of family.Found) (string_bytes s.folder) 1
rows_of family.Archived s = flat_map (archived_row s) s.seen.waiting.book.ends
rows_of family.Demuxed s = flat_map (demuxed_row s) s.seen.waiting.book.ends
rows_of family.Written s = flat_map (written_row s) s.seen.sinks.unclosed.items
rows_of family.Committed s = flat_map (committed_row s) s.seen.sinks.unclosed.items
rows_of family.Quiet s = flat_map (quiet_row s) s.seen.sinks.unclosed.items
rows_of family.Unclosed s =
    store_row (name_of family.Unclosed) (string_bytes s.folder) (length s.seen.sinks.unclosed.items)
rows_of family.Closed s =
    store_row (name_of family.Closed) (string_bytes s.folder) s.seen.sinks.closed
rows_of family.Held s =
    store_row (name_of family.Held) (string_bytes s.folder) (length s.seen.waiting.heads)
rows_of family.Free s = free_of (string_bytes s.folder) s.seen.free

-- a family with its rows of all stores
unfoldable pub family_text : List NamedStore → Family → List ℕ
family_text stores f = head_text (name_of f) (help_of f) ++ flat_map (rows_of f) stores

-- which folders are stores: the row of one that is none, and all of them
abbrev pub absent_row : List ℕ → List ℕ
absent_row folder = store_row (name_of family.Found) folder 0

abbrev pub found_text : List NamedStore → List (Bor (List ℕ)) → List ℕ
found_text stores absent =
    family_text stores family.Found ++ flat_map (λ w. absent_row w.now) absent

-- those of streams, of the bytes of sinks, of sinks under writing, of what waits and what is free
abbrev pub stream_families : List Family
stream_families = family.Archived ∷ family.Demuxed ∷ []

abbrev pub sink_families : List Family
sink_families = family.Written ∷ family.Committed ∷ []

abbrev pub open_families : List Family
open_families = family.Quiet ∷ family.Unclosed ∷ []

abbrev pub waiting_families : List Family
waiting_families = family.Closed ∷ family.Held ∷ family.Free ∷ []

-- all of them
abbrev pub stores_text : List NamedStore → List (Bor (List ℕ)) → List ℕ
stores_text stores absent =
    found_text stores absent ++ (flat_map (family_text stores) stream_families
    ++ (flat_map (family_text stores) sink_families
    ++ (flat_map (family_text stores) open_families
    ++ flat_map (family_text stores) waiting_families)))
