-- It is legal: the archive is split into records.
use Rattle.std.proofs.Common.{[], ◌∷◌, refl, arith, subst, inr, ◌≡◌, List, Bool, true, false, ap, sym, ◌++◌, if◌then◌else◌, map}
use Rattle.std.specs.Prelude.{codes, Any}
use Rattle.chk_site.specs.declared.acts.Call.TheVariants.{Create, Append, Sync, Rename}
use Rattle.chk_site.specs.History.{files_after}
use Rattle.chk_chunk.specs.Keys.{key_2, Stream, Chunk, same_stream}
use Rattle.chk_world.specs.Rules.{Legal}
use Rattle.chk_world_examples.specs.Texts.{seg_head, stream}
use Rattle.chk_world.specs.Sight.{job}
use Rattle.chk_world_examples.specs.LongRound.{first_chunk, second_chunk, entry_1, entry_2, whole_end, demux_seg, demux_tmp, demux_book, demux_segment, book_demux, k76, k77, k78, k79, k80, k81, k82, k83, k84, k85}
use Rattle.chk_world_examples.proofs.ExampleMessages.{in_one}
use Rattle.chk_world_examples.proofs.Went.{went}
use Rattle.chk_world_examples.proofs.Unfolded.{texts}
use Rattle.chk_world.specs.Names.{DemuxFolder, SegmentFile, file}
use Rattle.chk_seqfile.specs.Headers.{header, marker_of}
use Rattle.chk_seqfile.proofs.HeaderLemmas.{IsHeader-header, length-marker_of}
use Rattle.chk_world.specs.Books.{Segment, End, Two as book_2, book_bytes, chunks_of_stream}
use Rattle.chk_world.specs.Streams.{start_of}
use Rattle.chk_world.specs.Committed.{HasFile, archive_of_stream}
use Rattle.chk_world.specs.Splits.{Record, record_in, split, records_named}
use Rattle.chk_world.specs.Jobs.{IsSoundSegment, Run, HasStart, BookNamesSyncedSegments, RecordsAreASplit}
use Rattle.chk_world.proofs.NameTests.{streams_same}
use Rattle.chk_world_examples.proofs.Listed.{of_all}
use Rattle.chk_world_examples.proofs.LongArchive.{klegal76}

-- ---- the job splits the archive into records

pub klegal77 : Legal [] k77
unfolding texts
klegal77 =
    went job Create (demux_seg ∷ []) 0 0 [] 0 0 k76 klegal76
    tt refl refl refl refl tt tt (refl, tt)

pub klegal78 : Legal [] k78
unfolding texts
klegal78 =
    went job Append (demux_seg ∷ seg_head ∷ []) 0 0 [] 0 0 k77 klegal77
    (omega arith) refl refl refl refl tt tt (refl, tt)

pub klegal79 : Legal [] k79
unfolding texts
klegal79 =
    went job Append (demux_seg ∷ entry_1 ∷ []) 0 0 [] 0 0 k78 klegal78
    (omega arith) refl refl refl refl tt tt (refl, tt)

pub klegal80 : Legal [] k80
unfolding texts
klegal80 =
    went job Append (demux_seg ∷ entry_2 ∷ []) 0 0 [] 0 0 k79 klegal79
    (omega arith) refl refl refl refl tt tt (refl, tt)

pub klegal81 : Legal [] k81
unfolding texts
klegal81 =
    went job Sync (demux_seg ∷ []) 0 0 [] 0 0 k80 klegal80
    tt refl refl refl refl tt tt (refl, tt)

pub klegal82 : Legal [] k82
unfolding texts
klegal82 =
    went job Create (demux_tmp ∷ []) 0 0 [] 0 0 k81 klegal81
    tt refl refl refl refl tt tt (refl, tt)

pub klegal83 : Legal [] k83
unfolding texts
klegal83 =
    went job Append (demux_tmp ∷ book_bytes book_2 book_demux ∷ []) 0 0 [] 0 0 k82 klegal82
    (omega arith) refl refl refl refl tt tt (refl, tt)

pub klegal84 : Legal [] k84
unfolding texts
klegal84 =
    went job Sync (demux_tmp ∷ []) 0 0 [] 0 0 k83 klegal83
    tt refl refl refl refl tt tt (refl, tt)

demux_sound : HasFile (file (files_after k84) (SegmentFile DemuxFolder 1)) (IsSoundSegment DemuxFolder demux_segment)
unfolding texts
demux_sound = record {
  length_is = refl;
  synced_is = refl;
  chunks = record {
    form = record {
      marker = marker_of (codes "seg.1");
      head = header (marker_of (codes "seg.1"));
      entries = entry_1 ++ entry_2;
      is = refl;
      header = IsHeader-header (marker_of (codes "seg.1")) (length-marker_of (codes "seg.1"));
      form = record {
        pieces = entry_1 ∷ entry_2 ∷ [];
        each = (
          inr (record { key = key_2 first_chunk.key; value = first_chunk.value; small = omega arith; is = refl }),
          (inr (record { key = key_2 second_chunk.key; value = second_chunk.value; small = omega arith; is = refl }), tt),
        );
        is = refl;
      };
    };
    all = refl;
  };
}

demux_names : BookNamesSyncedSegments DemuxFolder k84 book_demux
unfolding texts
demux_names = record {
  sound = λ g o. subst (λ (g : Segment). HasFile (file (files_after k84) (SegmentFile DemuxFolder g.number)) (IsSoundSegment DemuxFolder g))
      (in_one demux_segment g o) demux_sound;
  listed = λ c o. of_all (λ (c : Chunk). Any (λ (e : End). e.stream ≡ c.key.stream) (whole_end ∷ [])) (first_chunk ∷ second_chunk ∷ []) c
      ((0, whole_end, omega arith, refl, refl), ((0, whole_end, omega arith, refl, refl), tt)) o;
  ends = λ e o. subst (λ (e : End). Run e.start e.start (chunks_of_stream e.stream (first_chunk ∷ second_chunk ∷ [])) e.end)
      (in_one whole_end e o) (refl, refl, (refl, refl, refl));
  starts = λ e o. subst (λ (e : End). HasStart DemuxFolder k84 e) (in_one whole_end e o) (_, refl, refl);
}

-- the records of the archive's bytes
abbrev archive_split : Stream → List Record
archive_split s = split [] s (start_of k84 s) (archive_of_stream (files_after k84) s)

demux_here : RecordsAreASplit [] k84 book_demux stream
unfolding texts
demux_here = record { on = (records_named (files_after k84) book_demux stream, refl); are = ([], refl) }

demux_at : (s : Stream) (b : Bool) → same_stream s stream ≡ b → RecordsAreASplit [] k84 book_demux s
unfolding texts
demux_at s true e = subst (λ s. RecordsAreASplit [] k84 book_demux s) (sym (streams_same s stream e)) demux_here
demux_at s false e = record {
  on = (records_named (files_after k84) book_demux s, refl);
  are = (archive_split s, sym (ap (λ b. map record_in (if b then first_chunk ∷ (if b then second_chunk ∷ [] else []) else (if b then second_chunk ∷ [] else [])) ++ archive_split s) e));
}

demux_splits : (s : Stream) → RecordsAreASplit [] k84 book_demux s
demux_splits s = demux_at s (same_stream s stream) refl

pub klegal85 : Legal [] k85
unfolding texts
klegal85 =
    went job Rename (demux_tmp ∷ demux_book ∷ []) 0 0 [] 0 0 k84 klegal84
    tt refl refl refl (refl, (refl, refl)) tt tt (refl, (book_demux, refl, (demux_names, demux_splits)))
