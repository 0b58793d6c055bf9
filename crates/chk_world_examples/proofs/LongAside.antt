-- It is legal: a chunk that lies past a gap of the archive is set aside.
use Rattle.std.proofs.Common.{[], ◌∷◌, refl, arith, subst, inl, inr, ◌≡◌, ℕ, List, Bool, true, false, None, ap, sym, ◌∙◌, bytes_eq, ◌⊎◌, ◌≤◌, length, true≢false}
use Rattle.std.specs.Prelude.{codes, Any, IsTrue, Contains, ◌&&◌, ◌==◌, not, IsSome}
use Rattle.chk_site.specs.declared.acts.Call.TheVariants.{Start, Create, Append, Sync, Rename, Remove, List as ListNames, Say}
use Rattle.chk_site.specs.History.{files_after}
use Rattle.chk_chunk.specs.Keys.{key_2, Stream, Chunk, Covers, same_stream, same_data, chunk_end}
use Rattle.chk_world.specs.Rules.{Legal}
use Rattle.chk_world_examples.specs.Texts.{seg, seg_head, book_tmp, book_name, stream}
use Rattle.chk_world.specs.Sight.{job}
use Rattle.chk_world_examples.specs.LongRound.{second_chunk, entry_2, stem_2, done_2, listed_1, aside_segment, book_aside, k50, k51, k52, k53, k54, k55, k56, k57, k58, k59, k60, k61, k62}
use Rattle.chk_world_examples.proofs.ExampleMessages.{in_one, in_none}
use Rattle.chk_world_examples.proofs.Went.{went}
use Rattle.chk_world_examples.proofs.Unfolded.{texts}
use Rattle.chk_world.specs.Names.{ArchiveFolder, SegmentFile, DoneFile, file}
use Rattle.chk_world_examples.proofs.Present.{is_among, names_of, no_others}
use Rattle.std.specs.List.{list_any}
use Rattle.std.proofs.lemmas.Bool.{cases_lt}
use Rattle.chk_bytes.specs.Words.{is_word}
use Rattle.chk_seqfile.specs.Headers.{header, marker_of}
use Rattle.chk_seqfile.proofs.HeaderLemmas.{IsHeader-header, length-marker_of}
use Rattle.chk_site.specs.Honest.{IsListing, in_folder}
use Rattle.chk_chunk.specs.Reach.{IsReach}
use Rattle.chk_world.specs.Books.{Segment, Three, book_bytes, chunks_of_stream, values}
use Rattle.chk_world.specs.Streams.{start_of}
use Rattle.chk_world.specs.Committed.{HasFile, aside_chunks, archive_of_stream, archived_end}
use Rattle.chk_world.specs.ArchiveRuns.{report, Listing, found, end_before, end_since, is_closed, sink_path, HasReached, IsArchiveRun}
use Rattle.chk_world.specs.Jobs.{IsSoundSegment, BookNamesSyncedSegments, IsSource, ArchiveGrowsByParts, OnlyArchivedSinksRemoved}
use Rattle.chk_world.proofs.NameTests.{streams_same}
use Rattle.chk_world_examples.proofs.Listed.{of_all, none_missed}
use Rattle.chk_world_examples.proofs.ExampleRun.{archived}
use Rattle.chk_world_examples.proofs.LongTurn.{klegal50}

-- ---- the job lists the sinks, and sets the chunk of the done one aside, since the archive has a gap before it

pub klegal51 : Legal [] k51
unfolding texts
klegal51 = went job Start [] 0 0 [] 0 0 k50 klegal50 tt tt refl tt tt tt tt (refl, tt)

among_51 : (name : List ℕ) → is_among (names_of k51) (in_folder (codes "sinks") name)
    ≡ list_any (bytes_eq name) (codes "c1.1.2.done" ∷ codes "c1.1.1.mark" ∷ codes "c1.1.1.chukwa" ∷ codes "c1.born" ∷ [])
among_51 name = refl

listing_1 : IsListing (files_after k51) (codes "sinks") listed_1
unfolding texts
listing_1 = record {
  rises = (refl, (refl, (refl, tt)));
  each = λ name. (
    λ one. of_all (λ z. IsTrue (is_word z && not (list_any (λ b. b == 47) z)) × IsSome (files_after k51 (in_folder (codes "sinks") z)))
        listed_1 name ((refl, refl), ((refl, refl), ((refl, refl), ((refl, refl), tt)))) one,
    λ shown. of_all (λ z. Contains listed_1 z)
        (codes "c1.1.2.done" ∷ codes "c1.1.1.mark" ∷ codes "c1.1.1.chukwa" ∷ codes "c1.born" ∷ []) name
        ((2, omega arith, refl), ((1, omega arith, refl), ((0, omega arith, refl), ((3, omega arith, refl), tt))))
        (none_missed (names_of k51) (codes "c1.1.2.done" ∷ codes "c1.1.1.mark" ∷ codes "c1.1.1.chukwa" ∷ codes "c1.born" ∷ [])
        (files_after k51) (no_others [] k51 klegal51) among_51 name shown.1),
  );
}

pub klegal52 : Legal [] k52
unfolding texts
klegal52 =
    went job ListNames (codes "sinks" ∷ []) 0 0 listed_1 0 0 k51 klegal51
    tt listing_1 refl refl tt tt tt (refl, tt)

pub klegal53 : Legal [] k53
unfolding texts
klegal53 =
    went job Create (seg ∷ []) 0 0 [] 0 0 k52 klegal52
    tt refl refl refl refl tt tt (refl, tt)

pub klegal54 : Legal [] k54
unfolding texts
klegal54 =
    went job Append (seg ∷ seg_head ∷ []) 0 0 [] 0 0 k53 klegal53
    (omega arith) refl refl refl refl tt tt (refl, tt)

pub klegal55 : Legal [] k55
unfolding texts
klegal55 =
    went job Append (seg ∷ entry_2 ∷ []) 0 0 [] 0 0 k54 klegal54
    (omega arith) refl refl refl refl tt tt (refl, tt)

pub klegal56 : Legal [] k56
unfolding texts
klegal56 =
    went job Sync (seg ∷ []) 0 0 [] 0 0 k55 klegal55
    tt refl refl refl refl tt tt (refl, tt)

pub klegal57 : Legal [] k57
unfolding texts
klegal57 =
    went job Create (book_tmp ∷ []) 0 0 [] 0 0 k56 klegal56
    tt refl refl refl refl tt tt (refl, tt)

pub klegal58 : Legal [] k58
unfolding texts
klegal58 =
    went job Append (book_tmp ∷ book_bytes Three book_aside ∷ []) 0 0 [] 0 0 k57 klegal57
    (omega arith) refl refl refl refl tt tt (refl, tt)

pub klegal59 : Legal [] k59
unfolding texts
klegal59 =
    went job Sync (book_tmp ∷ []) 0 0 [] 0 0 k58 klegal58
    tt refl refl refl refl tt tt (refl, tt)

aside_sound : HasFile (file (files_after k59) (SegmentFile ArchiveFolder 1)) (IsSoundSegment ArchiveFolder aside_segment)
unfolding texts
aside_sound = record {
  length_is = refl;
  synced_is = refl;
  chunks = record {
    form = record {
      marker = marker_of (codes "seg.1");
      head = header (marker_of (codes "seg.1"));
      entries = entry_2;
      is = refl;
      header = IsHeader-header (marker_of (codes "seg.1")) (length-marker_of (codes "seg.1"));
      form = record {
        pieces = entry_2 ∷ [];
        each = (inr (record { key = key_2 second_chunk.key; value = second_chunk.value; small = omega arith; is = refl }), tt);
        is = refl;
      };
    };
    all = refl;
  };
}

aside_names : BookNamesSyncedSegments ArchiveFolder k59 book_aside
unfolding texts
aside_names = record {
  sound = λ g o. subst (λ (g : Segment). HasFile (file (files_after k59) (SegmentFile ArchiveFolder g.number)) (IsSoundSegment ArchiveFolder g))
      (in_one aside_segment g o) aside_sound;
  listed = λ c o. absurd (in_none c o);
  ends = λ e o. absurd (in_none e o);
  starts = λ e o. absurd (in_none e o);
}

aside_grows : ArchiveGrowsByParts k59 book_aside
unfolding texts
aside_grows = record {
  each = λ s. record { old = []; parts = []; are = refl; same = refl; new = tt };
  aside_new = λ c o. subst (IsSource (files_after k59)) (in_one second_chunk c o) (inl (stem_2, refl, (0, omega arith, refl)));
  aside_old = λ c o. absurd (in_none c o);
}

pub klegal60 : Legal [] k60
unfolding texts
klegal60 =
    went job Rename (book_tmp ∷ book_name ∷ []) 0 0 [] 0 0 k59 klegal59
    tt refl refl refl (refl, (refl, refl)) tt tt (refl, (book_aside, refl, (aside_names, aside_grows)))

saved_1 : OnlyArchivedSinksRemoved k60 (DoneFile stem_2)
unfolding texts
saved_1 c o = subst
    (λ (c : Chunk). (chunk_end c ≤ archived_end k60 c.key.stream) ⊎ Any (λ d. IsTrue (same_data c d)) (aside_chunks (files_after k60)))
    (in_one second_chunk c o) (inr (0, second_chunk, omega arith, refl, refl))

pub klegal61 : Legal [] k61
unfolding texts
klegal61 =
    went job Remove (done_2 ∷ []) 0 0 [] 0 0 k60 klegal60
    tt refl refl refl refl tt tt (refl, saved_1)

-- the job's first listing in it
abbrev run_1 : Listing
run_1 = record { names = listed_1; upto = k52 }

found_1 : found run_1 ≡ second_chunk ∷ []
unfolding texts
found_1 = refl

none_yet : archived k52 ≡ []
unfolding texts
none_yet = refl

none_since : archived k61 ≡ []
unfolding texts
none_since = refl

start_52 : start_of k52 stream ≡ 5
unfolding texts
start_52 = refl

one_covers : (s : Stream) (o : ℕ) → Any (Covers s o) (second_chunk ∷ []) → Covers s o second_chunk
one_covers s o a = subst (Covers s o) (sym (in_one second_chunk a.1 (a.0, a.2, a.3))) a.4

-- where the end isn't covered nothing is reached
stays_there : (s : Stream) (from end : ℕ) → from ≡ end → (Covers s end second_chunk → ⊥)
    → IsReach (λ o. Any (Covers s o) (second_chunk ∷ [])) from end
stays_there s from end same none = record {
  on = omega (arith, same);
  no_gap = λ o low high. absurd (let z : ⊥ = omega (arith, low, high, same) in z);
  greatest = λ e low all. elim (cases_lt end e) [
    | inl past ↦ absurd (none (one_covers s end (all end (omega (arith, same)) past)))
    | inr within ↦ within
  ];
}

reached_1 : HasReached k61 run_1
reached_1 s =
    subst (λ cs. IsReach (λ o. Any (Covers s o) cs) (end_before k61 run_1 s) (end_since k61 run_1 s)) (sym found_1)
    (stays_there s (end_before k61 run_1 s) (end_since k61 run_1 s) (omega (arith, before, after)) (none (same_stream s stream) refl))
  where
    before : length (archive_of_stream (files_after k52) s) ≡ 0
    before = ap (λ cs. length (values (chunks_of_stream s cs))) none_yet

    after : length (archive_of_stream (files_after k61) s) ≡ 0
    after = ap (λ cs. length (values (chunks_of_stream s cs))) none_since

    none : (b : Bool) → same_stream s stream ≡ b → Covers s (end_since k61 run_1 s) second_chunk → ⊥
    none true e c =
        let five : start_of k52 s ≡ 5 = ap (start_of k52) (streams_same s stream e) ∙ start_52 in
        let low = c.1 in
        omega (arith, five, after, low)
    none false e c = true≢false (sym c.0 ∙ e)

ran_1 : IsArchiveRun k61 run_1 1 0 1 1
unfolding texts
ran_1 = record {
  unclosed_is = refl;
  taken_is = refl;
  reached = reached_1;
  rest = record {
    aside = refl;
    held_is = refl;
    removed_is = refl;
    gone = λ name one. of_all (λ z. is_closed z ≡ true → files_after k61 (sink_path z) ≡ None) listed_1 name (
      (λ closed. absurd (true≢false (sym closed))),
      ((λ closed. absurd (true≢false (sym closed))), ((λ closed. refl), ((λ closed. absurd (true≢false (sym closed))), tt))),
    ) one;
  };
}

pub klegal62 : Legal [] k62
unfolding texts
klegal62 =
    went job Say (report 1 0 1 1 ∷ []) 0 0 [] 0 0 k61 klegal61
    tt tt refl refl tt tt tt (refl, (refl, record { unclosed = 1; taken = 0; held = 1; removed = 1; is = refl; ran = ran_1 }))
