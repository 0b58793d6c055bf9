-- It is legal: the sink is archived and removed, and the run is reported.
use Rattle.chk_site.specs.declared.acts.Call.TheVariants.{Create, Append, Sync, Rename, Remove}
use Rattle.chk_world_examples.specs.Texts.{chunk, stem, entry, done_sink, seg, book_tmp, book_name, seg_head, stream, segment, end, book_1st, book_text}
use Rattle.chk_world.specs.Sight.{job}
use Rattle.chk_world_examples.specs.Moments.{l30, g31, g32, g33, g34, g35, g36, g37, g38, g39}
use Rattle.chk_world_examples.proofs.Went.{went}
use Rattle.std.proofs.Common.{◌≡◌, ◌⊎◌, inl, inr, Bool, true, false, [], ◌∷◌, refl, arith, ◌≤◌, if◌then◌else◌, sym, subst, ap, ◌∙◌}
use Rattle.std.specs.Prelude.{codes, Any, IsTrue}
use Rattle.chk_site.specs.History.{files_after}
use Rattle.chk_seqfile.specs.Headers.{marker_of}
use Rattle.chk_chunk.specs.Keys.{Stream, key_1, same_stream, same_data, chunk_end}
use Rattle.chk_world.specs.Names.{file, ArchiveFolder, SegmentFile}
use Rattle.chk_world.specs.Books.{chunks_named, chunks_of_stream}
use Rattle.chk_world.specs.Committed.{HasFile, archived_end, aside_chunks}
use Rattle.chk_world.specs.Jobs.{BookNamesSyncedSegments, ArchiveGrowsByParts, Grows, IsSoundSegment, chunks_after, IsPartAt, Run, HasStart}
use Rattle.chk_world.specs.Rules.{Legal}
use Rattle.chk_seqfile.proofs.HeaderLemmas.{IsHeader-header, length-marker_of}
use Rattle.chk_world_examples.proofs.ExampleMessages.{in_one, in_none}
use Rattle.chk_world.proofs.NameTests.{streams_same}
use Rattle.chk_world_examples.proofs.ExampleListing.{listing_legal}
use Rattle.chk_world_examples.proofs.Unfolded.{texts}

pub glegal31 : Legal [] g31
unfolding texts
glegal31 = went job Create (seg ∷ []) 0 0 [] 0 0 l30 listing_legal tt refl refl refl refl tt tt
    (refl, tt)

pub glegal32 : Legal [] g32
unfolding texts
glegal32 = went job Append (seg ∷ seg_head ∷ []) 0 0 [] 0 0 g31 glegal31 (omega arith) refl refl
    refl refl tt tt (refl, tt)

pub glegal33 : Legal [] g33
unfolding texts
glegal33 = went job Append (seg ∷ entry ∷ []) 0 0 [] 0 0 g32 glegal32 (omega arith) refl refl refl
    refl tt tt (refl, tt)

pub glegal34 : Legal [] g34
unfolding texts
glegal34 = went job Sync (seg ∷ []) 0 0 [] 0 0 g33 glegal33 tt refl refl refl refl tt tt
    (refl, tt)

pub glegal35 : Legal [] g35
unfolding texts
glegal35 = went job Create (book_tmp ∷ []) 0 0 [] 0 0 g34 glegal34 tt refl refl refl refl tt tt
    (refl, tt)

pub glegal36 : Legal [] g36
unfolding texts
glegal36 = went job Append (book_tmp ∷ book_text ∷ []) 0 0 [] 0 0 g35 glegal35 (omega arith) refl
    refl refl refl tt tt (refl, tt)

pub glegal37 : Legal [] g37
unfolding texts
glegal37 = went job Sync (book_tmp ∷ []) 0 0 [] 0 0 g36 glegal36 tt refl refl refl refl tt tt
    (refl, tt)

pub part_at : IsPartAt (files_after g37) stream 0 chunk
unfolding texts
part_at = record {
  whole = chunk;
  source = inl (stem, refl, (0, omega arith, refl));
  of = refl;
  begins = omega arith;
  past = omega arith;
  key = refl;
  value = refl;
}

pub grows_here : Grows g37 stream (chunks_after g37 book_1st stream)
unfolding texts
grows_here = record { old = []; parts = chunk ∷ []; are = refl; same = refl; new = (part_at, tt) }

pub named_are : chunks_named (files_after g37) ArchiveFolder book_1st ≡ chunk ∷ []
unfolding texts
named_are = refl

pub none_of : (s : Stream) → same_stream s stream ≡ false → chunks_of_stream s (chunk ∷ []) ≡ []
unfolding texts
none_of s e = ap (λ b. if b then chunk ∷ [] else []) e

pub none_after : (s : Stream) → same_stream s stream ≡ false → chunks_after g37 book_1st s ≡ []
none_after s e = ap (chunks_of_stream s) named_are ∙ none_of s e

pub grows_if : (s : Stream) (b : Bool) → same_stream s stream ≡ b → Grows g37 s (chunks_after g37 book_1st s)
unfolding texts
grows_if s true e = subst (λ s. Grows g37 s (chunks_after g37 book_1st s)) (sym (streams_same s stream e)) grows_here
grows_if s false e = record { old = []; parts = []; are = none_after s e; same = refl; new = tt }

pub book_grows : ArchiveGrowsByParts g37 book_1st
unfolding texts
book_grows = record {
  each = λ s. grows_if s (same_stream s stream) refl;
  aside_new = λ c o. absurd (in_none c o);
  aside_old = λ c o. absurd (in_none c o);
}

pub sound : HasFile (file (files_after g37) (SegmentFile ArchiveFolder 1)) (IsSoundSegment ArchiveFolder segment)
unfolding texts
sound = record {
  length_is = refl;
  synced_is = refl;
  chunks = record {
    form = record {
      marker = marker_of (codes "seg.1");
      head = seg_head;
      entries = entry;
      is = refl;
      header = IsHeader-header (marker_of (codes "seg.1")) (length-marker_of (codes "seg.1"));
      form = record { pieces = entry ∷ []; each = (inr (record { key = key_1 chunk.key; value = chunk.value; small = omega arith; is = refl }), tt); is = refl };
    };
    all = refl;
  };
}

pub book_names : BookNamesSyncedSegments ArchiveFolder g37 book_1st
unfolding texts
book_names = record {
  sound = λ g o. subst (λ g. HasFile (file (files_after g37) (SegmentFile ArchiveFolder g.number)) (IsSoundSegment ArchiveFolder g)) (in_one segment g o) sound;
  listed = λ c o. subst (λ c. Any (λ e. e.stream ≡ c.key.stream) (end ∷ [])) (in_one chunk c o) (0, end, omega arith, refl, refl);
  ends = λ e o. subst (λ e. Run e.start e.start (chunks_of_stream e.stream (chunks_named (files_after g37) ArchiveFolder book_1st)) e.end) (in_one end e o) (refl, refl, refl);
  starts = λ e o. subst (λ e. HasStart ArchiveFolder g37 e) (in_one end e o) (_, refl, refl);
}

pub glegal38 : Legal [] g38
unfolding texts
glegal38 = went job Rename (book_tmp ∷ book_name ∷ []) 0 0 [] 0 0 g37 glegal37 tt refl refl refl
    (refl, (refl, refl)) tt tt (refl, (book_1st, refl, (book_names, book_grows)))

pub glegal39 : Legal [] g39
unfolding texts
glegal39 = went job Remove (done_sink ∷ []) 0 0 [] 0 0 g38 glegal38 tt refl refl refl refl tt tt
    (refl, λ c o. subst (λ c. (chunk_end c ≤ archived_end g38 c.key.stream) ⊎ Any (λ d. IsTrue (same_data c d)) (aside_chunks (files_after g38))) (in_one chunk c o) (inl (omega arith)))
