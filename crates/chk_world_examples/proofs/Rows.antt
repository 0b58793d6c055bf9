-- The worked numbers and texts.
use Rattle.std.proofs.Common.{◌≡◌, ◌⊎◌, ℕ, zero, suc, ◌+◌, ◌≤◌, ◌<◌, true, false, List, [], ◌∷◌, ◌++◌, length, length-append, Some, None, refl, ap, sym, ◌∙◌, subst, inl, inr, arith, map}
use Rattle.std.specs.Prelude.{codes, Any, slice_index_or}
use Rattle.std.proofs.lemmas.Bool.{cases_lt}
use Rattle.chk_site.specs.Logs.{is_cut_place, last_cut}
use Rattle.chk_site.specs.History.{files_after}
use Rattle.chk_seqfile.specs.Headers.{header}
use Rattle.chk_seqfile.proofs.HeaderLemmas.{length-header}
use Rattle.chk_seqfile.specs.Entries.{record_entry}
use Rattle.chk_chunk.specs.Keys.{Covers, written_key}
use Rattle.chk_chunk.specs.Reach.{IsReach}
use Rattle.chk_world.specs.Names.{ArchiveFolder, BornFile, SinkFile, MarkFile, CheckFile, BookFile, SegmentFile, Temporary, OtherFile, read, file}
use Rattle.chk_world.specs.Checkpoints.{One, Two, are_lines, written_version, checkpoint_text, read_checkpoint}
use Rattle.chk_world.specs.Books.{written_version as book_version, book_bytes, read_book}
use Rattle.chk_world.specs.Committed.{committed_length, chunks_below, IsKept}
use Rattle.chk_world.specs.ArchiveRuns.{in_order, total_gain, once}
use Rattle.chk_world.specs.Splits.{split_stamped, split_lines}
use Rattle.chk_world_examples.specs.Moments.{g18, g19}
use Rattle.chk_world_examples.proofs.Unfolded.{texts}
use Rattle.chk_world_examples.specs.Rows.{WorkedRows, h1, hello, world, chunk_at, x, line, moved_line, book, moved_book, aside_book, day, covered_by, overlap, gap}

key_is : written_key (chunk_at 6 hello).key ≡ 1 ∷ 0 ∷ 0 ∷ 0 ∷ 0 ∷ 0 ∷ 0 ∷ 0 ∷ 6 ∷ 0 ∷ 2 ∷ 0x68 ∷ 0x31 ∷ 0 ∷ 3 ∷ 0x4C ∷ 0x6F ∷ 0x67 ∷ 0 ∷ 6 ∷ 0x2F ∷ 0x61 ∷ 0x2E ∷ 0x6C ∷ 0x6F ∷ 0x67 ∷ []
unfolding texts
key_is = refl

key_has_26_bytes : length (written_key (chunk_at 6 hello).key) ≡ 26
unfolding texts
key_has_26_bytes = refl

record_has_48_bytes : length (record_entry (written_key (chunk_at 6 hello).key) hello) ≡ 48
unfolding texts
record_has_48_bytes = refl

record_is : record_entry (written_key (chunk_at 6 hello).key) hello
    ≡ 0 ∷ 0 ∷ 0 ∷ 40 ∷ 0 ∷ 0 ∷ 0 ∷ 30 ∷ 0 ∷ 0 ∷ 0 ∷ 26 ∷ written_key (chunk_at 6 hello).key ++ 0 ∷ 0 ∷ 0 ∷ 6 ∷ hello
unfolding texts
record_is = refl

header_is : (m : List ℕ) → header m
    ≡ codes "SEQ" ++ 6 ∷ 34 ∷ codes "org.apache.hadoop.io.BytesWritable" ++ 34 ∷ codes "org.apache.hadoop.io.BytesWritable" ++ 0 ∷ 0 ∷ 0 ∷ 0 ∷ 0 ∷ 0 ∷ m
unfolding texts
header_is m = refl

header_has_96_bytes : (m : List ℕ) → length m ≡ 16 → length (header m) ≡ 96
header_has_96_bytes m e = length-header m e

sink_of_one_record_has_144_bytes : (m : List ℕ) → length m ≡ 16
    → length (header m ++ record_entry (written_key (chunk_at 6 hello).key) hello) ≡ 144
sink_of_one_record_has_144_bytes m e =
    let entry = record_entry (written_key (chunk_at 6 hello).key) hello in
    length-append (header m) entry ∙ ap (λ n. n + length entry) (length-header m e) ∙ ap (λ n. 96 + n) record_has_48_bytes

names_are_read : map read (codes "sinks/c1.1.1.chukwa" ∷ codes "sinks/c1.1.1.mark.tmp" ∷ codes "sinks/c1.born" ∷ codes "agents/h.1.check" ∷ codes "archive/seg.12" ∷ codes "archive/seg.012" ∷ codes "archive/book.tmp" ∷ codes "x.tmp" ∷ [])
    ≡ SinkFile x ∷ Temporary (MarkFile x) ∷ BornFile (codes "c1") ∷ CheckFile (codes "h.1") ∷ SegmentFile ArchiveFolder 12 ∷ OtherFile (codes "archive/seg.012") ∷ Temporary (BookFile ArchiveFolder) ∷ OtherFile (codes "x.tmp") ∷ []
unfolding texts
names_are_read = refl

checkpoint_is : checkpoint_text One (line ∷ []) ≡ codes "chukwa-checkpoint 1\nadd adaptor_1 = LWFTAdaptor Log /a.log 6 0 -\n"
unfolding texts
checkpoint_is = refl

checkpoint_has_65_bytes : length (checkpoint_text One (line ∷ [])) ≡ 65
unfolding texts
checkpoint_has_65_bytes = refl

checkpoint_is_read : read_checkpoint (checkpoint_text One (line ∷ [])) ≡ Some (line ∷ [])
unfolding texts
checkpoint_is_read = refl

no_checkpoint : read_checkpoint (codes "x") ≡ None
unfolding texts
no_checkpoint = refl

two_lines_of_one_log : are_lines One (line ∷ line ∷ []) ≡ false
unfolding texts
two_lines_of_one_log = refl

moved_checkpoint_is : checkpoint_text (written_version (moved_line ∷ [])) (moved_line ∷ []) ≡ codes "chukwa-checkpoint 2\nadd x = LWFTAdaptor Log /a.log 11 5 - 5\n"
unfolding texts
moved_checkpoint_is = refl

moved_checkpoint_has_60_bytes : length (checkpoint_text Two (moved_line ∷ [])) ≡ 60
unfolding texts
moved_checkpoint_has_60_bytes = refl

book_has_62_bytes : length (book_bytes (book_version book) book) ≡ 62
unfolding texts
book_has_62_bytes = refl

book_is_read : read_book (book_bytes (book_version book) book) ≡ Some book
unfolding texts
book_is_read = refl

moved_book_has_70_bytes : length (book_bytes (book_version moved_book) moved_book) ≡ 70
unfolding texts
moved_book_has_70_bytes = refl

moved_book_is_read : read_book (book_bytes (book_version moved_book) moved_book) ≡ Some moved_book
unfolding texts
moved_book_is_read = refl

aside_book_has_37_bytes : length (book_bytes (book_version aside_book) aside_book) ≡ 37
unfolding texts
aside_book_has_37_bytes = refl

aside_book_is_read : read_book (book_bytes (book_version aside_book) aside_book) ≡ Some aside_book
unfolding texts
aside_book_is_read = refl

cuts_of_lines : map (is_cut_place true [] (codes "a\nb")) (0 ∷ 1 ∷ 2 ∷ 3 ∷ []) ≡ true ∷ false ∷ true ∷ false ∷ []
unfolding texts
cuts_of_lines = refl

last_cut_of_lines : last_cut true [] (codes "a\nb") 3 ≡ 2
unfolding texts
last_cut_of_lines = refl

cuts_of_rotated : map (is_cut_place true (codes "ab" ∷ []) (codes "c\nd")) (0 ∷ 1 ∷ 2 ∷ 3 ∷ 4 ∷ 5 ∷ []) ≡ true ∷ false ∷ true ∷ false ∷ true ∷ false ∷ []
unfolding texts
cuts_of_rotated = refl

cuts_of_bytes : map (is_cut_place false [] (codes "ab")) (0 ∷ 1 ∷ 2 ∷ 3 ∷ []) ≡ true ∷ true ∷ true ∷ false ∷ []
unfolding texts
cuts_of_bytes = refl

day_is_split : map (λ r. r.end) (split_stamped 0 day) ≡ 47 ∷ 147 ∷ []
unfolding texts
day_is_split = refl

lines_are_split : map (λ r. r.end) (split_lines 0 (codes "a\nb")) ≡ 2 ∷ []
unfolding texts
lines_are_split = refl

overlap_gain : total_gain (λ s. 0) (in_order (chunk_at 10 (codes "o\nworl") ∷ chunk_at 6 hello ∷ [])) ≡ 10
unfolding texts
overlap_gain = refl

gap_gain : total_gain (λ s. 0) (in_order (chunk_at 12 world ∷ [])) ≡ 0
unfolding texts
gap_gain = refl

filled_gain : total_gain (λ s. 0) (in_order (chunk_at 12 world ∷ chunk_at 6 hello ∷ [])) ≡ 12
unfolding texts
filled_gain = refl

pub first_of_two : {X : Type 0} (P : X → Type 0) (a b : X) → P a → Any P (a ∷ b ∷ [])
first_of_two P a b p = (0, a, omega arith, refl, p)

pub second_of_two : {X : Type 0} (P : X → Type 0) (a b : X) → P b → Any P (a ∷ b ∷ [])
second_of_two P a b p = (1, b, omega arith, refl, p)

pub any_of_two : {X : Type 0} (P : X → Type 0) (a b : X) → Any P (a ∷ b ∷ []) → P a ⊎ P b
any_of_two {X = X} P a b q = go q.0 q.1 q.2 q.3 q.4
  where
    go : (k : ℕ) (y : X) → k < 2 → slice_index_or (a ∷ b ∷ []) k y ≡ y → P y → P a ⊎ P b
    go zero y h e p = inl (subst P (sym e) p)
    go (suc zero) y h e p = inr (subst P (sym e) p)
    go (suc (suc k)) y h e p = absurd (omega arith)

reach_of_overlap : IsReach (covered_by overlap) 0 10
unfolding texts
reach_of_overlap = record {
  on = omega arith;
  no_gap = λ o low high. elim (cases_lt o 6) [
    | inl h ↦ first_of_two (Covers h1 o) (chunk_at 6 hello) (chunk_at 10 (codes "o\nworl")) (refl, omega arith, h)
    | inr h ↦ second_of_two (Covers h1 o) (chunk_at 6 hello) (chunk_at 10 (codes "o\nworl")) (refl, omega arith, high)
  ];
  greatest = λ e low all. elim (cases_lt 10 e) [
    | inl h ↦ absurd (elim (any_of_two (Covers h1 10) (chunk_at 6 hello) (chunk_at 10 (codes "o\nworl")) (all 10 (omega arith) h)) [
      | inl c ↦ (let z : 10 < 6 = c.2 in omega arith)
      | inr c ↦ (let z : 10 < 10 = c.2 in omega arith)
    ])
    | inr h ↦ h
  ];
}

reach_before_gap : IsReach (covered_by gap) 0 6
unfolding texts
reach_before_gap = record {
  on = omega arith;
  no_gap = λ o low high. first_of_two (Covers h1 o) (chunk_at 6 hello) (chunk_at 13 world) (refl, omega arith, high);
  greatest = λ e low all. elim (cases_lt 6 e) [
    | inl h ↦ absurd (elim (any_of_two (Covers h1 6) (chunk_at 6 hello) (chunk_at 13 world) (all 6 (omega arith) h)) [
      | inl c ↦ (let z : 6 < 6 = c.2 in omega arith)
      | inr c ↦ (let z : 7 ≤ 6 = c.1 in omega arith)
    ])
    | inr h ↦ h
  ];
}

set_aside_once : once (chunk_at 12 world ∷ chunk_at 12 world ∷ []) ≡ chunk_at 12 world ∷ []
unfolding texts
set_aside_once = refl

committed_after_the_mark : committed_length (files_after g19) x ≡ 144
unfolding texts
committed_after_the_mark = refl

not_committed_before : committed_length (files_after g18) x ≡ 0
unfolding texts
not_committed_before = refl

kept_chunks : chunks_below (committed_length (files_after g19) x) (file (files_after g19) (SinkFile x)) ≡ chunk_at 6 hello ∷ []
unfolding texts
kept_chunks = refl

not_kept_before : chunks_below (committed_length (files_after g18) x) (file (files_after g18) (SinkFile x)) ≡ []
unfolding texts
not_kept_before = refl

kept_after_the_mark : IsKept (files_after g19) (chunk_at 6 hello)
unfolding texts
kept_after_the_mark = inl (x, refl, inl (0, omega arith, refl))

pub rows : WorkedRows
rows = record {
  key_is = key_is;
  key_has_26_bytes = key_has_26_bytes;
  record_has_48_bytes = record_has_48_bytes;
  record_is = record_is;
  header_is = header_is;
  header_has_96_bytes = header_has_96_bytes;
  sink_of_one_record_has_144_bytes = sink_of_one_record_has_144_bytes;
  names_are_read = names_are_read;
  checkpoint_is = checkpoint_is;
  checkpoint_has_65_bytes = checkpoint_has_65_bytes;
  checkpoint_is_read = checkpoint_is_read;
  no_checkpoint = no_checkpoint;
  two_lines_of_one_log = two_lines_of_one_log;
  moved_checkpoint_is = moved_checkpoint_is;
  moved_checkpoint_has_60_bytes = moved_checkpoint_has_60_bytes;
  book_has_62_bytes = book_has_62_bytes;
  book_is_read = book_is_read;
  moved_book_has_70_bytes = moved_book_has_70_bytes;
  moved_book_is_read = moved_book_is_read;
  aside_book_has_37_bytes = aside_book_has_37_bytes;
  aside_book_is_read = aside_book_is_read;
  cuts_of_lines = cuts_of_lines;
  last_cut_of_lines = last_cut_of_lines;
  cuts_of_rotated = cuts_of_rotated;
  cuts_of_bytes = cuts_of_bytes;
  day_is_split = day_is_split;
  lines_are_split = lines_are_split;
  overlap_gain = overlap_gain;
  gap_gain = gap_gain;
  filled_gain = filled_gain;
  reach_of_overlap = reach_of_overlap;
  reach_before_gap = reach_before_gap;
  set_aside_once = set_aside_once;
  committed_after_the_mark = committed_after_the_mark;
  not_committed_before = not_committed_before;
  kept_chunks = kept_chunks;
  not_kept_before = not_kept_before;
  kept_after_the_mark = kept_after_the_mark;
}
