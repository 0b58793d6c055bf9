-- Books of `demux` that the job's rule refuses since their records aren't the archive's split, or don't go on, each beside one that is allowed.
use Rattle.chk_site.specs.declared.acts.Call.TheVariants.{Rename}
use Rattle.chk_world_examples.specs.Texts.{chunk, hello, seg_head, stream, segment, end, book_1st}
use Rattle.chk_world.specs.Sight.{job}
use Rattle.chk_world_examples.proofs.Went.{else_holds}
use Rattle.std.proofs.Common.{◌≡◌, ℕ, Bool, true, false, List, [], ◌∷◌, ◌++◌, bytes_eq, refl, ap, sym, inr, subst, true≢false, arith, if◌then◌else◌, map, length, suc, ◌∙◌}
use Rattle.std.specs.Prelude.{codes, Any}
use Rattle.std.proofs.lemmas.Option.{same_Some}
use Rattle.chk_seqfile.specs.Headers.{marker_of}
use Rattle.chk_seqfile.specs.Entries.{record_entry}
use Rattle.chk_seqfile.proofs.HeaderLemmas.{IsHeader-header, length-marker_of}
use Rattle.chk_site.specs.declared.acts.ActAnswer.TheVariants.{Done}
use Rattle.chk_site.specs.History.{files_after}
use Rattle.chk_chunk.specs.Keys.{Stream, Chunk, key_1, same_stream}
use Rattle.chk_world.specs.Names.{DemuxFolder, SegmentFile, file}
use Rattle.chk_world.specs.Books.{Segment, End, Book, chunks_of_stream}
use Rattle.chk_world.specs.Streams.{start_of}
use Rattle.chk_world.specs.Committed.{HasFile, archive_of_stream}
use Rattle.chk_world.specs.Splits.{Record, record_in, split, records_named, demuxed_records}
use Rattle.chk_world.specs.Jobs.{IsSoundSegment, Run, BookNamesSyncedSegments, Continues, RecordsAreASplit, HasStart}
use Rattle.chk_world_examples.proofs.ExampleMessages.{in_one, in_none}
use Rattle.chk_world.proofs.NameTests.{streams_same}
use Rattle.chk_world_examples.specs.Refusing.{TheRule, ObeysBut, next_by}
use Rattle.chk_world_examples.specs.Books.{segment_of}
use Rattle.chk_world_examples.specs.Parts.{part_with}
use Rattle.chk_world_examples.proofs.Unfolded.{texts}
use Rattle.chk_world_examples.specs.Splits.{demuxed, may_publish, SplitAlone, no_records, demuxed_once, may_go_on, LostAlone}

-- the split of the archive of a stream
abbrev archive_split : List ℕ → Stream → List Record
archive_split value s = split [] s (start_of (demuxed value) s) (archive_of_stream (files_after (demuxed value)) s)

-- the demultiplexed records go on
goes_on : (value : List ℕ) (s : Stream) → Continues (demuxed_records (files_after (demuxed value)) s) (records_named (files_after (demuxed value)) book_1st s)
unfolding texts
goes_on value s = (records_named (files_after (demuxed value)) book_1st s, refl)

false_elsewhere : (s : Stream) → same_stream s stream ≡ false → RecordsAreASplit [] (demuxed (codes "jello\n")) book_1st s
unfolding texts
false_elsewhere s e = record {
  on = goes_on (codes "jello\n") s;
  are = (archive_split (codes "jello\n") s, sym (ap (λ b. map record_in (if b then part_with (codes "jello\n") ∷ [] else []) ++ archive_split (codes "jello\n") s) e));
}

true_elsewhere : (s : Stream) → same_stream s stream ≡ false → RecordsAreASplit [] (demuxed hello) book_1st s
unfolding texts
true_elsewhere s e = record {
  on = goes_on hello s;
  are = (archive_split hello s, sym (ap (λ b. map record_in (if b then part_with hello ∷ [] else []) ++ archive_split hello s) e));
}

-- the first record's data
abbrev first_bytes : List Record → List ℕ
first_bytes [] = []
first_bytes (r ∷ rs) = r.bytes

not_first : Continues (records_named (files_after (demuxed (codes "jello\n"))) book_1st stream) (archive_split (codes "jello\n") stream) → ⊥
unfolding texts
not_first r = true≢false (ap (λ rs. bytes_eq (first_bytes rs) hello) r.1)

pub no_split : may_publish (codes "jello\n") → ⊥
unfolding texts
no_split r =
    let p = r.1 in
    let e : p.0 ≡ book_1st = sym (same_Some book_1st p.0 p.1) in
    not_first (subst (λ (b : Book). RecordsAreASplit [] (demuxed (codes "jello\n")) b stream) e (p.2.1 stream)).are

sound_false : IsSoundSegment DemuxFolder segment (segment_of (codes "jello\n") 144)
unfolding texts
sound_false = record {
  length_is = refl;
  synced_is = refl;
  chunks = record {
    form = record {
      marker = marker_of (codes "seg.1");
      head = seg_head;
      entries = record_entry (key_1 chunk.key) (codes "jello\n");
      is = refl;
      header = IsHeader-header (marker_of (codes "seg.1")) (length-marker_of (codes "seg.1"));
      form = record {
        pieces = record_entry (key_1 chunk.key) (codes "jello\n") ∷ [];
        each = (inr (record { key = key_1 chunk.key; value = (codes "jello\n"); small = omega arith; is = refl }), tt);
        is = refl;
      };
    };
    all = refl;
  };
}

sound_true : IsSoundSegment DemuxFolder segment (segment_of hello 144)
unfolding texts
sound_true = record {
  length_is = refl;
  synced_is = refl;
  chunks = record {
    form = record {
      marker = marker_of (codes "seg.1");
      head = seg_head;
      entries = record_entry (key_1 chunk.key) hello;
      is = refl;
      header = IsHeader-header (marker_of (codes "seg.1")) (length-marker_of (codes "seg.1"));
      form = record {
        pieces = record_entry (key_1 chunk.key) hello ∷ [];
        each = (inr (record { key = key_1 chunk.key; value = hello; small = omega arith; is = refl }), tt);
        is = refl;
      };
    };
    all = refl;
  };
}

false_names : BookNamesSyncedSegments DemuxFolder (demuxed (codes "jello\n")) book_1st
unfolding texts
false_names = record {
  sound = λ g o. subst (λ (g : Segment). HasFile (file (files_after (demuxed (codes "jello\n"))) (SegmentFile DemuxFolder g.number)) (IsSoundSegment DemuxFolder g)) (in_one segment g o) sound_false;
  listed = λ c o. subst (λ (c : Chunk). Any (λ e. e.stream ≡ c.key.stream) (end ∷ [])) (in_one (part_with (codes "jello\n")) c o) (0, end, omega arith, refl, refl);
  ends = λ e o. subst (λ (e : End). Run e.start e.start (chunks_of_stream e.stream (part_with (codes "jello\n") ∷ [])) e.end) (in_one end e o) (refl, refl, refl);
  starts = λ e o. subst (λ (e : End). HasStart DemuxFolder (demuxed (codes "jello\n")) e) (in_one end e o) (_, refl, refl);
}

true_names : BookNamesSyncedSegments DemuxFolder (demuxed hello) book_1st
unfolding texts
true_names = record {
  sound = λ g o. subst (λ (g : Segment). HasFile (file (files_after (demuxed hello)) (SegmentFile DemuxFolder g.number)) (IsSoundSegment DemuxFolder g)) (in_one segment g o) sound_true;
  listed = λ c o. subst (λ (c : Chunk). Any (λ e. e.stream ≡ c.key.stream) (end ∷ [])) (in_one (part_with hello) c o) (0, end, omega arith, refl, refl);
  ends = λ e o. subst (λ (e : End). Run e.start e.start (chunks_of_stream e.stream (part_with hello ∷ [])) e.end) (in_one end e o) (refl, refl, refl);
  starts = λ e o. subst (λ (e : End). HasStart DemuxFolder (demuxed hello) e) (in_one end e o) (_, refl, refl);
}

pub no_split_alone : SplitAlone
no_split_alone = record { names = false_names; on = goes_on (codes "jello\n"); elsewhere = false_elsewhere }

pub no_split_else : ObeysBut TheRule (demuxed (codes "jello\n"))
    (next_by job Rename (codes "demux/book.tmp" ∷ codes "demux/book" ∷ []) 0 0 (Done [] 0 0) (demuxed (codes "jello\n")))
unfolding texts
no_split_else = else_holds job Rename (codes "demux/book.tmp" ∷ codes "demux/book" ∷ []) 0 0 [] 0
    0 (demuxed (codes "jello\n")) tt refl refl refl (refl, (refl, refl)) tt tt

-- with the archive's record it is allowed
split_here : RecordsAreASplit [] (demuxed hello) book_1st stream
unfolding texts
split_here = record { on = goes_on hello stream; are = ([], refl) }

split_at : (s : Stream) (b : Bool) → same_stream s stream ≡ b → RecordsAreASplit [] (demuxed hello) book_1st s
split_at s true e = subst (λ s. RecordsAreASplit [] (demuxed hello) book_1st s) (sym (streams_same s stream e)) split_here
split_at s false e = true_elsewhere s e

pub is_split : may_publish hello
unfolding texts
is_split = (refl, (book_1st, refl, (true_names, λ s. split_at s (same_stream s stream) refl)))

not_lost : Continues (demuxed_records (files_after (demuxed_once no_records)) stream) [] → ⊥
unfolding texts
not_lost c = let z : ◌≡◌ {A = ℕ} 0 (suc (length c.0)) = ap length c.1 in omega arith

pub records_lost : may_go_on no_records → ⊥
unfolding texts
records_lost r =
    let p = r.1 in
    let e : p.0 ≡ no_records = sym (same_Some no_records p.0 p.1) in
    not_lost (subst (λ (b : Book). RecordsAreASplit [] (demuxed_once no_records) b stream) e (p.2.1 stream)).on

lost_are : (s : Stream) → Continues (records_named (files_after (demuxed_once no_records)) no_records s)
    (split [] s (start_of (demuxed_once no_records) s) (archive_of_stream (files_after (demuxed_once no_records)) s))
unfolding texts
lost_are s = (split [] s (start_of (demuxed_once no_records) s) (archive_of_stream (files_after (demuxed_once no_records)) s), refl)

lost_on : (s : Stream) → same_stream s stream ≡ false → Continues (demuxed_records (files_after (demuxed_once no_records)) s) []
unfolding texts
lost_on s e = ([], sym (ap (λ b. map record_in (if b then chunk ∷ [] else []) ++ []) e))

lost_names : BookNamesSyncedSegments DemuxFolder (demuxed_once no_records) no_records
lost_names = record {
  sound = λ g o. absurd (in_none g o);
  listed = λ c o. absurd (in_none c o);
  ends = λ e o. absurd (in_none e o);
  starts = λ e o. absurd (in_none e o);
}

pub records_lost_alone : LostAlone
records_lost_alone = record { names = lost_names; are = lost_are; elsewhere = λ s e. record { on = lost_on s e; are = lost_are s } }

pub records_lost_else : ObeysBut TheRule (demuxed_once no_records)
    (next_by job Rename (codes "demux/book.tmp" ∷ codes "demux/book" ∷ []) 0 0 (Done [] 0 0) (demuxed_once no_records))
unfolding texts
records_lost_else = else_holds job Rename (codes "demux/book.tmp" ∷ codes "demux/book" ∷ []) 0 0
    [] 0 0 (demuxed_once no_records) tt refl refl refl (refl, (refl, refl)) tt tt

-- the book that has it is allowed
kept_names : BookNamesSyncedSegments DemuxFolder (demuxed_once book_1st) book_1st
unfolding texts
kept_names = record {
  sound = λ g o. subst (λ (g : Segment). HasFile (file (files_after (demuxed_once book_1st)) (SegmentFile DemuxFolder g.number)) (IsSoundSegment DemuxFolder g)) (in_one segment g o) sound_true;
  listed = λ c o. subst (λ (c : Chunk). Any (λ e. e.stream ≡ c.key.stream) (end ∷ [])) (in_one chunk c o) (0, end, omega arith, refl, refl);
  ends = λ e o. subst (λ (e : End). Run e.start e.start (chunks_of_stream e.stream (chunk ∷ [])) e.end) (in_one end e o) (refl, refl, refl);
  starts = λ e o. subst (λ (e : End). HasStart DemuxFolder (demuxed_once book_1st) e) (in_one end e o) (_, refl, refl);
}

abbrev kept_split : Stream → List Record
kept_split s = split [] s (start_of (demuxed_once book_1st) s) (archive_of_stream (files_after (demuxed_once book_1st)) s)

kept_here : RecordsAreASplit [] (demuxed_once book_1st) book_1st stream
unfolding texts
kept_here = record { on = ([], refl); are = ([], refl) }

kept_elsewhere : (s : Stream) → same_stream s stream ≡ false → RecordsAreASplit [] (demuxed_once book_1st) book_1st s
unfolding texts
kept_elsewhere s e = record {
  on = ([], ap (λ b. map record_in (if b then chunk ∷ [] else [])) e ∙ sym (ap (λ b. map record_in (if b then chunk ∷ [] else []) ++ []) e));
  are = (kept_split s, sym (ap (λ b. map record_in (if b then chunk ∷ [] else []) ++ kept_split s) e));
}

kept_at : (s : Stream) (b : Bool) → same_stream s stream ≡ b → RecordsAreASplit [] (demuxed_once book_1st) book_1st s
kept_at s true e = subst (λ s. RecordsAreASplit [] (demuxed_once book_1st) book_1st s) (sym (streams_same s stream e)) kept_here
kept_at s false e = kept_elsewhere s e

pub records_kept : may_go_on book_1st
unfolding texts
records_kept = (refl, (book_1st, refl, (kept_names, λ s. kept_at s (same_stream s stream) refl)))
