-- What an archive run takes, once the sinks are listed.
use Rattle.std.specs.Prelude.{◌≡◌, ◌⊎◌, ℕ, ◌+◌, ◌-◌, ◌<◌, ◌≤◌, ◌^◌, Bool, true, false, not, ◌&&◌, IsTrue, List, [], ◌∷◌, ◌++◌, length, count_by, flat_map, sum_by, Contains, Some, None, Result, Ok, Err}
use Rattle.chk_bytes.specs.Numbers.{last_number}
use Rattle.chk_bytes.specs.Stems.{Stem}
use Rattle.chk_site.specs.Files.{Files}
use Rattle.chk_site.specs.History.{History}
use Rattle.chk_chunk.specs.Keys.{Stream, Chunk, chunk_limit}
use Rattle.chk_record_reader.specs.Segments.{heads_from, IsBadFile}
use Rattle.chk_archive.specs.Starts.{HaveStartsIn, ToldOtherStart}
use Rattle.chk_world.specs.Names.{Name, ArchiveFolder, SegmentFile, read}
use Rattle.chk_world.specs.Books.{Segment, End, Book, is_nothing}
use Rattle.chk_world.specs.Streams.{start_of}
use Rattle.chk_world.specs.Committed.{archived_end}
use Rattle.chk_world.specs.ArchiveRuns.{Listing, in_order, found, total_gain}
use Rattle.chk_world.specs.Rules.{Legal}
use Rattle.chk_world.specs.Places.{AtTold}
use Rattle.chk_world.specs.Sight.{job, Sight, own_book, own_archive, own_aside, AtJob}
use Rattle.chk_record_index.specs.Heads.{Head}
use Rattle.chk_record_index.specs.declared.fault.JobFault.{JobFault}
use Rattle.chk_record_index.specs.declared.fault.JobFault.TheVariants.{Damaged, Spent}
use Rattle.chk_book.specs.Books.{end_in}
use Rattle.chk_book.specs.Segmenting.{raised_all, with_segment}
use Rattle.chk_archive_plan.specs.Passes.{begins_at, AreSpans}
use Rattle.chk_archive_plan.specs.Laws.{span_gain}
use Rattle.chk_archive_plan.specs.Plan.{ends_of, set_aside}
use Rattle.chk_archive_plan.specs.declared.spans.Known.{Known}
use Rattle.chk_archive_plan.specs.declared.spans.Span.{Span}
use Rattle.chk_archive_parts.specs.Cuts.{AreWithin, span_cuts}
use Rattle.chk_record_index.specs.Order.{in_head_order}
use Rattle.chk_archive_parts.specs.Gathering.{heads_of}
use Rattle.chk_archive_parts.specs.Kept.{AreSpansWithin, is_first, are_old_aside}
use Rattle.chk_archive_parts.specs.declared.cuts.Cut.{Cut}
use Rattle.chk_archive.specs.Numbers.{Numbered}
use Rattle.chk_archive.specs.Written.{one_for, taken_parts, needed_behind}
use Rattle.chk_archive_parts.specs.Publishing.{MayFollow}
use Rattle.chk_archive_parts.specs.Writes.{HoldsChunks}
use Rattle.chk_archive.specs.declared.taking.Planned.{Planned}
use Rattle.chk_archive.specs.declared.taking.Taken.{Taken}

-- the files are these, the heads are all of their records', in order, and so many of them are of the first file
pub record AreSorted (v : Sight) (sources files : List (List ℕ)) (heads : List Head) (old : ℕ) : Type 0 where
  pub files_are : files ≡ sources
  pub heads_are : heads ≡ in_head_order (heads_of v 0 files)
  pub count : old ≡ count_by is_first (heads_of v 0 files)

-- the spans of heads in order, over the ends of the book; how many bytes their passes take, and what of each record
pub record IsPlanned (b : Book) (heads : List Head) (p : Planned) : Type 0 where
  pub known : List Known
  pub ends : (h : Head) → begins_at known h ≡ end_in h.key.start b.ends h.key.stream
  pub spans : AreSpans known heads 0 p.spans.items (length heads)
  pub taken : p.taken ≡ sum_by span_gain p.spans.items
  pub cuts : p.cuts ≡ flat_map (span_cuts heads) p.spans.items
  pub within : AreWithin (length heads) p.cuts
  pub spans_within : AreSpansWithin (length heads) p.spans.items

-- these spans, how many bytes their passes take, and what of each record
pub record IsCut (heads : List Head) (ss : List Span) (p : Planned) : Type 0 where
  pub are : p.spans.items ≡ ss
  pub taken : p.taken ≡ sum_by span_gain p.spans.items
  pub cuts : p.cuts ≡ flat_map (span_cuts heads) p.spans.items
  pub within : AreWithin (length heads) p.cuts

-- all that the job knows is the same, but for the archive's segments of this number and above
pub record SameBelow (next : ℕ) (v u : Sight) : Type 0 where
  pub listing : u.listing ≡ v.listing
  pub own : (n : Name) → ((k : ℕ) → next ≤ k → n ≡ SegmentFile ArchiveFolder k → ⊥) → u.own n ≡ v.own n
  pub sinks : (x : Stem) → u.sinks x ≡ v.sinks x

-- where the kept records are all of the book's aside segment, they are these chunks
abbrev pub IsWhole : Sight → Book → List Head → ℕ → List Cut → List Chunk → Type 0
IsWhole v b heads old kept chunks =
    (g : Segment) → b.aside ≡ Some g → IsTrue (are_old_aside heads old kept) → own_aside v ≡ chunks

-- The archive has this book, which names no segment from its next number on; none of the files is such a segment.
pub record CanPrepare (v : Sight) (b : Book) (files : List (List ℕ)) (heads : List Head) (old : ℕ) (kept : List Cut)
    (chunks : List Chunk) : Type 0 where
  pub book : own_book v ArchiveFolder ≡ b
  pub numbers : Numbered b
  pub files_old : (w : List ℕ) → Contains files w → (k : ℕ) → b.next ≤ k → read w ≡ SegmentFile ArchiveFolder k → ⊥
  pub whole : IsWhole v b heads old kept chunks

-- the segments with one of these parts behind them, where there are parts
pub data PartsAdded (u : Sight) (old new : Book) (parts : List Chunk) : Type 0 where
  nothing_taken : parts ≡ [] → new.segments ≡ old.segments → new.ends ≡ old.ends → PartsAdded u old new parts
  one_added : (g : Segment) → old.next ≤ g.number → (parts ≡ [] → ⊥) → HoldsChunks u g parts → new.segments ≡ old.segments ++ g ∷ []
      → new.ends ≡ raised_all parts old.ends → PartsAdded u old new parts

-- the aside segment that holds these chunks, or none where there are none
pub data AsideNamed (u : Sight) (old new : Book) (kept : List Chunk) : Type 0 where
  none_kept : kept ≡ [] → new.aside ≡ None → AsideNamed u old new kept
  old_kept : own_aside u ≡ kept → new.aside ≡ old.aside → AsideNamed u old new kept
  new_kept : (g : Segment) → old.next ≤ g.number → HoldsChunks u g kept → new.aside ≡ Some g → AsideNamed u old new kept

-- the book with one segment of the parts, where there are parts
pub data HasParts (v : Sight) (old new : Book) (parts : List Chunk) (u : Sight) : Type 0 where
  no_parts : parts ≡ [] → new ≡ old → SameBelow old.next v u → HasParts v old new parts u
  with_parts : (g : Segment) → g.number ≡ old.next → HoldsChunks u g parts → new ≡ with_segment old g parts
      → (old.next ≡ last_number → ⊥) → (parts ≡ [] → ⊥) → SameBelow old.next v u → HasParts v old new parts u

-- where the numbers are spent, the archive's book has fewer than this many left, and is the one that it had
abbrev pub IsSpentFor : ℕ → Sight → ℕ → Sight → Type 0
IsSpentFor needed v n u =
    (n ≡ last_number) × (2 ^ 63 ≤ (own_book u ArchiveFolder).next + needed) × (own_book u ArchiveFolder ≡ own_book v ArchiveFolder)
    × (u.listing ≡ v.listing)

abbrev pub PartsTaken : List (List ℕ) → Sight → Book → Book → List Chunk → Result Unit JobFault → History → Type 0
PartsTaken stamped v old new parts (Ok value) history = AtJob stamped (HasParts v old new parts) history
PartsTaken stamped v old new parts (Err (Damaged name at)) history = AtTold stamped job (λ h. ⊥) history
PartsTaken stamped v old new parts (Err (Spent n)) history =
    AtJob stamped (λ u. IsSpentFor (one_for parts) v n u) history
PartsTaken stamped v old new parts (Err fault) history = Legal stamped history

-- how many segments what is kept asks for: none where it stays
abbrev pub asked : Bool → List Chunk → ℕ
asked true kept = 0
asked false kept = one_for kept

-- the book names a segment of what is kept, or none where that is nothing
pub record HasAside (v : Sight) (old new : Book) (kept : List Chunk) (stays changed : Bool) (u : Sight) : Type 0 where
  pub same : SameBelow old.next v u
  pub segments : new.segments ≡ old.segments
  pub ends : new.ends ≡ old.ends
  pub aside : AsideNamed u old new kept
  pub numbers : new.next ≡ old.next + asked stays kept
  pub unchanged : changed ≡ false → new ≡ old

-- where the numbers are spent, the next one is the last, one segment is needed, and the archive has the book that it had
abbrev pub IsLast : Book → Sight → ℕ → ℕ → Sight → Type 0
IsLast b v needed n u =
    (n ≡ last_number) × (b.next ≡ last_number) × (needed ≡ 1) × (own_book u ArchiveFolder ≡ own_book v ArchiveFolder)
    × (u.listing ≡ v.listing)

abbrev pub AsideKept : List (List ℕ) → Sight → Book → Book → List Chunk → Bool → Result Bool JobFault → History → Type 0
AsideKept stamped v old new kept stays (Ok changed) history = AtJob stamped (HasAside v old new kept stays changed) history
AsideKept stamped v old new kept stays (Err (Damaged name at)) history = AtTold stamped job (λ h. ⊥) history
AsideKept stamped v old new kept stays (Err (Spent n)) history = AtJob stamped (IsLast old v (asked stays kept) n) history
AsideKept stamped v old new kept stays (Err fault) history = Legal stamped history

-- what is kept is what the aside segment has, or there is none of both
abbrev pub stays_aside : Book → List Head → ℕ → List Cut → Bool
stays_aside b heads old [] = is_nothing b.aside
stays_aside b heads old (k ∷ ks) = not (is_nothing b.aside) && are_old_aside heads old (k ∷ ks)

-- the next book stands ready: its new segments are there, synced; where it didn't change it is the old one
pub record IsReady (v : Sight) (old new : Book) (parts kept : List Chunk) (stays changed : Bool) (u : Sight) : Type 0 where
  pub same : SameBelow old.next v u
  pub parts_are : PartsAdded u old new parts
  pub aside : AsideNamed u old new kept
  pub numbers : new.next ≡ old.next + (one_for parts + asked stays kept)
  pub unchanged : changed ≡ false → new ≡ old

-- none of the files is damaged; the numbers are spent only where fewer are left than the run needs
abbrev pub Prepared : List (List ℕ) → Sight → Book → Book → List Chunk → List Chunk → Bool → Result Bool JobFault → History → Type 0
Prepared stamped v old new parts kept stays (Ok changed) history =
    AtJob stamped (IsReady v old new parts kept stays changed) history
Prepared stamped v old new parts kept stays (Err (Damaged name at)) history = AtTold stamped job (λ h. ⊥) history
Prepared stamped v old new parts kept stays (Err (Spent n)) history =
    AtJob stamped (λ u. IsSpentFor (one_for parts + asked stays kept) v n u) history
Prepared stamped v old new parts kept stays (Err fault) history = Legal stamped history

-- all that was found is taken, as far as it goes on without a gap, and what lies past a gap is set aside; so says the archive's
-- book, which is this one. Behind the segments of before it names one of the parts, where there are any.
pub record TookAll (v : Sight) (new : Book) (t : Taken) (u : Sight) : Type 0 where
  pub listing : u.listing ≡ v.listing
  pub sinks : (x : Stem) → u.sinks x ≡ v.sinks x
  pub book : own_book u ArchiveFolder ≡ new
  pub few : length new.segments ≤ length (own_book v ArchiveFolder).segments + 1
  pub l : Listing
  pub last : u.listing ≡ Some l
  pub reached : (s : Stream) → start_of l.upto s + length (own_archive u s)
      ≡ ends_of (archived_end l.upto) (in_order (found l)) s
  pub aside : own_aside u ≡ set_aside (ends_of (archived_end l.upto) (in_order (found l))) (in_order (found l))
  pub taken : t.taken ≡ total_gain (archived_end l.upto) (in_order (found l))
  pub held : t.held ≡ length (own_aside u)
  pub added : PartsAdded u (own_book v ArchiveFolder) new (taken_parts l)
  pub old : (k : ℕ) → k < (own_book v ArchiveFolder).next
      → u.own (SegmentFile ArchiveFolder k) ≡ v.own (SegmentFile ArchiveFolder k)
  pub numbers : (own_book v ArchiveFolder).next + needed_behind l ≤ new.next

-- where the numbers are spent, fewer are left than are needed for what the last listing shows
pub record TookNone (n : ℕ) (u : Sight) : Type 0 where
  pub number : n ≡ last_number
  pub l : Listing
  pub last : u.listing ≡ Some l
  pub lacks : 2 ^ 63 ≤ (own_book u ArchiveFolder).next + needed_behind l

abbrev pub TookSo : List (List ℕ) → Sight → Book → Book → Result Taken JobFault → History → Type 0
TookSo stamped v old new (Ok t) history = AtJob stamped (TookAll v new t) history
TookSo stamped v old new (Err (Damaged name at)) history = AtTold stamped job (λ h. ⊥) history
TookSo stamped v old new (Err (Spent n)) history = AtJob stamped (TookNone n) history
TookSo stamped v old new (Err fault) history = Legal stamped history

-- Where these files are so: at Ok each record has its stream's start. Damage is of the first file that isn't one of chunks; and where
-- all are, but a record has another start than its stream, it is of the first such record.
abbrev pub ReadSources : {T : Type 0} → List (List ℕ) → List End → Files → Result T JobFault → History → Type 0
ReadSources ws es held (Ok value) history = HaveStartsIn es (in_head_order (heads_from chunk_limit held 0 ws))
ReadSources ws es held (Err (Damaged name at)) history =
    IsBadFile chunk_limit held ws name at
    ⊎ ((HaveStartsIn es (in_head_order (heads_from chunk_limit held 0 ws)) → ⊥)
    → ToldOtherStart ws es (in_head_order (heads_from chunk_limit held 0 ws)) (Damaged name at))
ReadSources ws es held (Err fault) history = Unit

-- where the book has changed it may be published, else the archive has it
abbrev pub MayFollowIf : List (List ℕ) → Sight → Book → Bool → Type 0
MayFollowIf stamped v b changed =
    (changed ≡ true → MayFollow stamped ArchiveFolder v b) × (changed ≡ false → own_book v ArchiveFolder ≡ b)
