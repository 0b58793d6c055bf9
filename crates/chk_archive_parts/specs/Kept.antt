-- Which chunks are set aside.
use Rattle.std.specs.List.{list_any}
use Rattle.std.specs.Prelude.{◌≡◌, ℕ, zero, suc, ◌+◌, ◌<◌, ◌≤◌, Bool, true, false, ◌&&◌, nat_eq, nat_lt, bytes_eq, IsTrue, List, [], ◌∷◌, All, Contains, length, flat_map, slice_index_or, Result, Ok, Err}
use Rattle.chk_site.specs.History.{History}
use Rattle.chk_chunk.specs.Keys.{Chunk, chunk_limit, same_data}
use Rattle.chk_world.specs.ArchiveRuns.{once}
use Rattle.chk_world.proofs.Each.{Each}
use Rattle.chk_world.specs.Places.{AtTold}
use Rattle.chk_world.specs.Rules.{Legal}
use Rattle.chk_world.specs.Sight.{job, Sight, AtJob}
use Rattle.chk_record_index.specs.Heads.{Head, heads_in}
use Rattle.chk_record_index.specs.Order.{in_head_order, of_one_stream}
use Rattle.chk_record_index.specs.Pieces.{bytes_in}
use Rattle.chk_record_index.specs.declared.fault.JobFault.{JobFault}
use Rattle.chk_record_index.specs.declared.fault.JobFault.TheVariants.{Damaged}
use Rattle.chk_archive_plan.specs.Passes.{between, head_in}
use Rattle.chk_archive_plan.specs.declared.spans.Span.{Span}
use Rattle.chk_record_reader.specs.Segments.{HasFiles}
use Rattle.chk_record_reader.specs.declared.reader.RecordReader.{RecordReader}
use Rattle.chk_archive_parts.specs.declared.cuts.Cut.{Cut}
use Rattle.chk_archive_parts.specs.Cuts.{no_chunk, cut_chunk, cut_chunks}
use Rattle.chk_archive_parts.specs.Fetching.{AreWindows, CanFetchAll}
use Rattle.chk_archive_parts.specs.Gathering.{held, heads_of}
use Rattle.chk_archive_parts.specs.Records.{AreRecords, chunks_held}

-- the chunks past their streams' gaps
abbrev pub past_chunks : List Chunk → List Span → List Chunk
past_chunks cs spans = flat_map (λ (s : Span). between s.past s.end cs) spans

-- each span is within so many heads
abbrev pub AreSpansWithin : ℕ → List Span → Type 0
AreSpansWithin count spans = All (λ (s : Span). (s.past ≤ s.end) × (s.end ≤ count)) spans

-- the records of heads that stand from this place on, each as a whole
abbrev pub whole_from : ℕ → List Head → List Cut
whole_from at [] = []
whole_from at (h ∷ hs) = record { index = at; skip = 0 } ∷ whole_from (at + 1) hs

-- those past the gaps of these spans
abbrev pub past_cuts : List Head → List Span → List Cut
past_cuts heads spans = flat_map (λ (s : Span). whole_from s.past (between s.past s.end heads)) spans

-- each is the whole record of one of so many heads
abbrev pub AreWhole : ℕ → List Cut → Type 0
AreWhole count cuts = All (λ (k : Cut). (k.index < count) × (k.skip ≡ 0)) cuts

-- both are of one stream and have the same offsets
abbrev pub repeats : Head → Head → Bool
repeats h k = of_one_stream h k && (nat_eq h.begin k.begin && nat_eq h.key.seq k.key.seq)

abbrev pub head_of_cut : List Head → List Cut → ℕ → Head
head_of_cut heads cuts i = head_in heads (slice_index_or cuts i (record { index = 0; skip = 0 })).index

-- so are the record at this place and the one before it
abbrev pub goes_on : List Head → List Cut → ℕ → Bool
goes_on heads cuts zero = false
goes_on heads cuts (suc i) = repeats (head_of_cut heads cuts i) (head_of_cut heads cuts (suc i))

-- where those begin that are alike with the next one: as before, or behind all of so many
abbrev pub group_of : Bool → ℕ → ℕ → ℕ
group_of goes group count = elim goes [ true ↦ group | false ↦ count ]

-- the cut, where it isn't found
abbrev pub new_cut : Bool → Cut → List Cut
new_cut found k = elim found [ true ↦ [] | false ↦ k ∷ [] ]

-- so are no two that follow each other
abbrev pub NoneRepeats : List Head → List Cut → Type 0
NoneRepeats heads cuts = (i : ℕ) → i < length cuts → goes_on heads cuts i ≡ false

-- each that is kept is one of these, and each of the first of these, so many, that doesn't repeat
-- the one before it is kept
pub record AreKeptOf (heads : List Head) (past : List Cut) (count : ℕ)
    (kept : List Cut) : Type 0 where
  pub among : All (Contains past) kept
  pub firsts : (i : ℕ) → i < count → goes_on heads past i ≡ false
      → Contains kept (slice_index_or past i (record { index = 0; skip = 0 }))

-- the same of all records past the gaps of these spans
abbrev pub KeepsFirsts : List Head → List Span → List Cut → Type 0
KeepsFirsts heads spans kept = AreKeptOf heads (past_cuts heads spans)
    (length (past_cuts heads spans)) kept

-- the record is one of these, and none that stands before it is equal to it in stream, sequence id and data
pub record IsNew (cs : List Chunk) (past : List Cut) (k : Cut) : Type 0 where
  pub place : ℕ
  pub low : place < length past
  pub is : slice_index_or past place (record { index = 0; skip = 0 }) ≡ k
  pub new : (i : ℕ) → i < place
      → same_data (cut_chunk cs (slice_index_or past i (record { index = 0; skip = 0 }))) (cut_chunk cs k) ≡ false

-- the whole record stands past the gap of one of these spans, and it is the first one there that has its sequence id and data
pub record IsFirst (cs : List Chunk) (spans : List Span) (k : Cut) : Type 0 where
  pub span : Span
  pub one : Contains spans span
  pub low : span.past ≤ k.index
  pub high : k.index < span.end
  pub whole : k.skip ≡ 0
  pub first : (i : ℕ) → span.past ≤ i → i < k.index
      → same_data (slice_index_or cs i no_chunk) (slice_index_or cs k.index no_chunk) ≡ false

-- each chunk past a gap is kept once, of equal ones the first
abbrev pub AreKeptOnce : List Chunk → List Span → List Cut → Type 0
AreKeptOnce cs spans cuts = (cut_chunks cs cuts ≡ once (past_chunks cs spans)) × Each (IsFirst cs spans) cuts

-- So it is, whatever the data of those are that have the same offsets; none of the files is damaged.
abbrev pub KeptSo : List Chunk → List Span → Result (List Cut) JobFault → History → Type 0
KeptSo cs spans (Ok cuts) history = AreKeptOnce cs spans cuts
KeptSo cs spans (Err (Damaged name at)) history = ⊥
KeptSo cs spans (Err fault) history = Unit {0}

-- so it is, and the job knows what it knew
abbrev pub KeptTold : List (List ℕ) → Sight → List Chunk → List Span → Result (List Cut) JobFault → History → Type 0
KeptTold stamped v cs spans (Ok cuts) history =
    AtJob stamped (λ u. (u ≡ v) × AreKeptOnce cs spans cuts) history
KeptTold stamped v cs spans (Err (Damaged name at)) history = AtTold stamped job (λ h. ⊥) history
KeptTold stamped v cs spans (Err fault) history = Legal stamped history

-- records that stand in order, of each chunk the first one kept
abbrev pub SiftedSo : List Cut → List Chunk → Result (List Cut) JobFault → History → Type 0
SiftedSo past cs (Ok cuts) history = (cut_chunks cs cuts ≡ once (cut_chunks cs past)) × Each (IsNew cs past) cuts
SiftedSo past cs (Err (Damaged name at)) history = ⊥
SiftedSo past cs (Err fault) history = Unit {0}

-- the data of the record at a place
abbrev pub value_in : List Chunk → ℕ → List ℕ
value_in cs i = (slice_index_or cs i no_chunk).value

-- one of these records has such data
abbrev pub has_value : List ℕ → List Chunk → List Cut → Bool
has_value value cs known = list_any (λ (k : Cut). bytes_eq (value_in cs k.index) value) known

-- the answer is whether one of the known records has these data
abbrev pub AmongSo : Sight → List (List ℕ) → List ℕ → List Chunk → List Cut → RecordReader → Result Bool JobFault → History
    → Type 0
AmongSo v files value cs known r (Ok found) history = CanFetchAll v files r history × (found ≡ has_value value cs known)
AmongSo v files value cs known r (Err (Damaged name at)) history = ⊥
AmongSo v files value cs known r (Err fault) history = Unit {0}

-- the files are those that the job knows, and the windows of two readers are true
abbrev pub CanFind : Sight → List (List ℕ) → RecordReader → RecordReader → History → Type 0
CanFind v files r q history = HasFiles files (held v) history × AreWindows v files r × AreWindows v files q

abbrev pub FoundSo : Sight → List (List ℕ) → List ℕ → List Chunk → List Cut → RecordReader → RecordReader → Result Bool JobFault
    → History → Type 0
FoundSo v files value cs known r q (Ok found) history = CanFind v files r q history × (found ≡ has_value value cs known)
FoundSo v files value cs known r q (Err (Damaged name at)) history = ⊥
FoundSo v files value cs known r q (Err fault) history = Unit {0}

-- the head is of the first file
abbrev pub is_first : Head → Bool
is_first h = nat_eq h.file 0

-- the cuts are whole records of the first file, at rising places behind this one
abbrev pub rise_from : List Head → ℕ → List Cut → Bool
rise_from heads last [] = true
rise_from heads last (k ∷ ks) =
    let h : Head = head_in heads k.index in
    is_first h && (nat_eq k.skip 0 && (nat_lt last h.at && rise_from heads h.at ks))

-- they are so many, and so they are all records of the first file
abbrev pub are_old_aside : List Head → ℕ → List Cut → Bool
are_old_aside heads count cuts = nat_eq (length cuts) count && rise_from heads 0 cuts

-- where they are, what is kept is what the first file has
abbrev pub OldAsidesAreWhole : Type 0
OldAsidesAreWhole =
    (v : Sight) (w : List ℕ) (files : List (List ℕ)) (heads : List Head) (cs : List Chunk) (cuts : List Cut)
    → heads ≡ in_head_order (heads_of v 0 (w ∷ files))
    → AreRecords v (w ∷ files) heads cs
    → IsTrue (are_old_aside heads (length (heads_in chunk_limit 0 (bytes_in (held v w)))) cuts)
    → All (λ (k : Cut). k.index < length heads) cuts
    → cut_chunks cs cuts ≡ chunks_held v w
