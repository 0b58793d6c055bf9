-- It is legal: the gap is filled, and both chunks are archived.
use Rattle.std.proofs.Common.{[], ◌∷◌, refl, arith, subst, inl, inr, ◌≡◌, ℕ, List, Bool, true, false, None, ap, sym, ◌∙◌, bytes_eq, ◌⊎◌, ◌≤◌, ◌<◌, ◌++◌, length, true≢false, if◌then◌else◌}
use Rattle.std.specs.Prelude.{codes, Any, IsTrue, ◌&&◌, ◌==◌, not, IsSome}
use Rattle.chk_site.specs.declared.acts.Call.TheVariants.{Create, Append, Sync, Rename, Remove, List as ListNames, Say}
use Rattle.chk_site.specs.History.{History, files_after}
use Rattle.chk_chunk.specs.Keys.{key_2, Stream, Chunk, Covers, same_stream, same_data, chunk_end}
use Rattle.chk_world.specs.Rules.{Legal}
use Rattle.chk_world_examples.specs.Texts.{c1, sink, stem, mark, done_sink, book_tmp, book_name, stream}
use Rattle.chk_world.specs.Sight.{job}
use Rattle.chk_world_examples.specs.LongRound.{run_2, first_chunk, second_chunk, entry_1, entry_2, listed_2, seg_2, seg_2_head, whole_segment, whole_end, book_whole, k62, k63, k64, k65, k66, k67, k68, k69, k70, k71, k72, k73, k74, k75, k76}
use Rattle.chk_world_examples.proofs.ExampleMessages.{in_one, in_none}
use Rattle.chk_world_examples.proofs.Went.{went}
use Rattle.chk_world_examples.proofs.Unfolded.{texts}
use Rattle.chk_world.specs.Names.{ArchiveFolder, SegmentFile, DoneFile, file}
use Rattle.chk_world_examples.proofs.Present.{is_among, names_of, no_others}
use Rattle.std.specs.List.{list_any}
use Rattle.std.proofs.lemmas.Bool.{cases_lt}
use Rattle.chk_bytes.specs.Words.{is_word}
use Rattle.chk_seqfile.specs.Headers.{header, marker_of}
use Rattle.chk_seqfile.proofs.HeaderLemmas.{IsHeader-header, length-marker_of}
use Rattle.chk_site.specs.Honest.{IsListing, in_folder}
use Rattle.chk_chunk.specs.Reach.{IsReach}
use Rattle.chk_world.specs.Books.{Segment, End, Two as book_2, book_bytes, chunks_of_stream, values}
use Rattle.chk_world.specs.Streams.{start_of}
use Rattle.chk_world.specs.Committed.{HasFile, aside_chunks, archive_of_stream, archived_end}
use Rattle.chk_world.specs.ArchiveRuns.{report, found, end_before, end_since, is_closed, sink_path, HasReached, IsArchiveRun}
use Rattle.chk_world.specs.Jobs.{IsSoundSegment, Run, HasStart, BookNamesSyncedSegments, IsPartAt, Grows, chunks_after, end_after, ArchiveGrowsByParts, OnlyArchivedSinksRemoved}
use Rattle.chk_world.proofs.NameTests.{streams_same}
use Rattle.chk_world_examples.proofs.Listed.{of_all, none_missed}
use Rattle.chk_world_examples.proofs.ExampleRun.{archived}
use Rattle.chk_world_examples.proofs.Rows.{first_of_two, second_of_two, any_of_two}
use Rattle.chk_world_examples.proofs.LongAside.{klegal62}

-- ---- the collector ends its first sink too

pub klegal63 : Legal [] k63
unfolding texts
klegal63 =
    went c1 Rename (sink ∷ done_sink ∷ []) 0 0 [] 0 0 k62 klegal62
    tt refl refl refl (refl, refl) tt tt (refl, (refl, refl))

pub klegal64 : Legal [] k64
unfolding texts
klegal64 = went c1 Remove (mark ∷ []) 0 0 [] 0 0 k63 klegal63 tt refl refl refl refl tt tt tt

-- ---- the job lists the sinks again, and archives both chunks

among_64 : (name : List ℕ) → is_among (names_of k64) (in_folder (codes "sinks") name) ≡ list_any (bytes_eq name) listed_2
among_64 name = refl

listing_2 : IsListing (files_after k64) (codes "sinks") listed_2
unfolding texts
listing_2 = record {
  rises = (refl, tt);
  each = λ name. (
    λ one. of_all (λ z. IsTrue (is_word z && not (list_any (λ b. b == 47) z)) × IsSome (files_after k64 (in_folder (codes "sinks") z)))
        listed_2 name ((refl, refl), ((refl, refl), tt)) one,
    λ shown. none_missed (names_of k64) listed_2 (files_after k64) (no_others [] k64 klegal64) among_64 name shown.1,
  );
}

pub klegal65 : Legal [] k65
unfolding texts
klegal65 =
    went job ListNames (codes "sinks" ∷ []) 0 0 listed_2 0 0 k64 klegal64
    tt listing_2 refl refl tt tt tt (refl, tt)

pub klegal66 : Legal [] k66
unfolding texts
klegal66 =
    went job Create (seg_2 ∷ []) 0 0 [] 0 0 k65 klegal65
    tt refl refl refl refl tt tt (refl, tt)

pub klegal67 : Legal [] k67
unfolding texts
klegal67 =
    went job Append (seg_2 ∷ seg_2_head ∷ []) 0 0 [] 0 0 k66 klegal66
    (omega arith) refl refl refl refl tt tt (refl, tt)

pub klegal68 : Legal [] k68
unfolding texts
klegal68 =
    went job Append (seg_2 ∷ entry_1 ∷ []) 0 0 [] 0 0 k67 klegal67
    (omega arith) refl refl refl refl tt tt (refl, tt)

pub klegal69 : Legal [] k69
unfolding texts
klegal69 =
    went job Append (seg_2 ∷ entry_2 ∷ []) 0 0 [] 0 0 k68 klegal68
    (omega arith) refl refl refl refl tt tt (refl, tt)

pub klegal70 : Legal [] k70
unfolding texts
klegal70 =
    went job Sync (seg_2 ∷ []) 0 0 [] 0 0 k69 klegal69
    tt refl refl refl refl tt tt (refl, tt)

pub klegal71 : Legal [] k71
unfolding texts
klegal71 =
    went job Create (book_tmp ∷ []) 0 0 [] 0 0 k70 klegal70
    tt refl refl refl refl tt tt (refl, tt)

pub klegal72 : Legal [] k72
unfolding texts
klegal72 =
    went job Append (book_tmp ∷ book_bytes book_2 book_whole ∷ []) 0 0 [] 0 0 k71 klegal71
    (omega arith) refl refl refl refl tt tt (refl, tt)

pub klegal73 : Legal [] k73
unfolding texts
klegal73 =
    went job Sync (book_tmp ∷ []) 0 0 [] 0 0 k72 klegal72
    tt refl refl refl refl tt tt (refl, tt)

whole_sound : HasFile (file (files_after k73) (SegmentFile ArchiveFolder 2)) (IsSoundSegment ArchiveFolder whole_segment)
unfolding texts
whole_sound = record {
  length_is = refl;
  synced_is = refl;
  chunks = record {
    form = record {
      marker = marker_of (codes "seg.2");
      head = header (marker_of (codes "seg.2"));
      entries = entry_1 ++ entry_2;
      is = refl;
      header = IsHeader-header (marker_of (codes "seg.2")) (length-marker_of (codes "seg.2"));
      form = record {
        pieces = entry_1 ∷ entry_2 ∷ [];
        each = (
          inr (record { key = key_2 first_chunk.key; value = first_chunk.value; small = omega arith; is = refl }),
          (inr (record { key = key_2 second_chunk.key; value = second_chunk.value; small = omega arith; is = refl }), tt),
        );
        is = refl;
      };
    };
    all = refl;
  };
}

whole_names : BookNamesSyncedSegments ArchiveFolder k73 book_whole
unfolding texts
whole_names = record {
  sound = λ g o. subst (λ (g : Segment). HasFile (file (files_after k73) (SegmentFile ArchiveFolder g.number)) (IsSoundSegment ArchiveFolder g))
      (in_one whole_segment g o) whole_sound;
  listed = λ c o. of_all (λ (c : Chunk). Any (λ (e : End). e.stream ≡ c.key.stream) (whole_end ∷ [])) (first_chunk ∷ second_chunk ∷ []) c
      ((0, whole_end, omega arith, refl, refl), ((0, whole_end, omega arith, refl, refl), tt)) o;
  ends = λ e o. subst (λ (e : End). Run e.start e.start (chunks_of_stream e.stream (first_chunk ∷ second_chunk ∷ [])) e.end)
      (in_one whole_end e o) (refl, refl, (refl, refl, refl));
  starts = λ e o. subst (λ (e : End). HasStart ArchiveFolder k73 e) (in_one whole_end e o) (_, refl, refl);
}

first_part : IsPartAt (files_after k73) stream 5 first_chunk
unfolding texts
first_part = record {
  whole = first_chunk;
  source = inl (stem, refl, (0, omega arith, refl));
  of = refl;
  begins = omega arith;
  past = omega arith;
  key = refl;
  value = refl;
}

-- the other one was set aside
second_part : IsPartAt (files_after k73) stream 11 second_chunk
unfolding texts
second_part = record {
  whole = second_chunk;
  source = inr (0, omega arith, refl);
  of = refl;
  begins = omega arith;
  past = omega arith;
  key = refl;
  value = refl;
}

whole_here : Grows k73 stream (chunks_after k73 book_whole stream)
unfolding texts
whole_here = record { old = []; parts = first_chunk ∷ second_chunk ∷ []; are = refl; same = refl; new = (first_part, (second_part, tt)) }

whole_at : (s : Stream) (b : Bool) → same_stream s stream ≡ b → Grows k73 s (chunks_after k73 book_whole s)
unfolding texts
whole_at s true e = subst (λ s. Grows k73 s (chunks_after k73 book_whole s)) (sym (streams_same s stream e)) whole_here
whole_at s false e = record {
  old = [];
  parts = [];
  are = ap (λ b. if b then first_chunk ∷ (if b then second_chunk ∷ [] else []) else (if b then second_chunk ∷ [] else [])) e;
  same = refl;
  new = tt;
}

whole_grows : ArchiveGrowsByParts k73 book_whole
unfolding texts
whole_grows = record {
  each = λ s. whole_at s (same_stream s stream) refl;
  aside_new = λ c o. absurd (in_none c o);
  aside_old = λ c o. subst (λ (c : Chunk). Any (λ d. IsTrue (same_data c d)) [] ⊎ (chunk_end c ≤ end_after k73 book_whole c.key.stream))
      (in_one second_chunk c o) (inr (omega arith));
}

pub klegal74 : Legal [] k74
unfolding texts
klegal74 =
    went job Rename (book_tmp ∷ book_name ∷ []) 0 0 [] 0 0 k73 klegal73
    tt refl refl refl (refl, (refl, refl)) tt tt (refl, (book_whole, refl, (whole_names, whole_grows)))

saved_2 : OnlyArchivedSinksRemoved k74 (DoneFile stem)
unfolding texts
saved_2 c o = subst
    (λ (c : Chunk). (chunk_end c ≤ archived_end k74 c.key.stream) ⊎ Any (λ d. IsTrue (same_data c d)) (aside_chunks (files_after k74)))
    (in_one first_chunk c o) (inl (omega arith))

pub klegal75 : Legal [] k75
unfolding texts
klegal75 =
    went job Remove (done_sink ∷ []) 0 0 [] 0 0 k74 klegal74
    tt refl refl refl refl tt tt (refl, saved_2)

found_2 : found run_2 ≡ second_chunk ∷ first_chunk ∷ []
unfolding texts
found_2 = refl

none_before : archived k65 ≡ []
unfolding texts
none_before = refl

both_since : archived k75 ≡ first_chunk ∷ second_chunk ∷ []
unfolding texts
both_since = refl

start_65 : start_of k65 stream ≡ 5
unfolding texts
start_65 = refl

abbrev found_chunks : List Chunk
found_chunks = second_chunk ∷ first_chunk ∷ []

-- the two chunks cover their stream's offsets
reach_of_both : (s : Stream) → same_stream s stream ≡ true → (from end : ℕ) → from ≡ 5 → end ≡ 17
    → IsReach (λ o. Any (Covers s o) found_chunks) from end
reach_of_both s same from end begins ends = record {
  on = omega (arith, begins, ends);
  no_gap = λ o low high. elim (cases_lt o 11) [
    | inl h ↦ second_of_two (Covers s o) second_chunk first_chunk (same, omega (arith, low, begins), h)
    | inr h ↦ first_of_two (Covers s o) second_chunk first_chunk (same, h, omega (arith, high, ends))
  ];
  greatest = λ e low all. elim (cases_lt 17 e) [
    | inl past ↦ absurd (elim (any_of_two (Covers s 17) second_chunk first_chunk (all 17 (omega (arith, begins)) past)) [
      | inl c ↦ (let z : 17 < 17 = c.2 in omega arith)
      | inr c ↦ (let z : 17 < 11 = c.2 in omega arith)
    ])
    | inr within ↦ omega (arith, ends, within)
  ];
}

-- and no others
reach_of_neither : (s : Stream) → same_stream s stream ≡ false → (from end : ℕ) → from ≡ end
    → IsReach (λ o. Any (Covers s o) found_chunks) from end
reach_of_neither s other from end same = record {
  on = omega (arith, same);
  no_gap = λ o low high. absurd (let z : ⊥ = omega (arith, low, high, same) in z);
  greatest = λ e low all. elim (cases_lt end e) [
    | inl past ↦ absurd (elim (any_of_two (Covers s end) second_chunk first_chunk (all end (omega (arith, same)) past)) [
      | inl c ↦ true≢false (sym c.0 ∙ other)
      | inr c ↦ true≢false (sym c.0 ∙ other)
    ])
    | inr within ↦ within
  ];
}

length_if : (s : Stream) (b : Bool) → same_stream s stream ≡ b
    → length (values (chunks_of_stream s (first_chunk ∷ second_chunk ∷ []))) ≡ (if b then 12 else 0)
length_if s b e = ap (λ b. length (values (if b then first_chunk ∷ (if b then second_chunk ∷ [] else []) else (if b then second_chunk ∷ [] else [])))) e ∙ go b
  where
    go : (b : Bool) → length (values (if b then first_chunk ∷ (if b then second_chunk ∷ [] else []) else (if b then second_chunk ∷ [] else []))) ≡ (if b then 12 else 0)
    go true = refl
    go false = refl

-- where the archive has become the two chunks, it has reached all that was found
pub reached_2 : (history : History) → archived history ≡ first_chunk ∷ second_chunk ∷ [] → HasReached history run_2
reached_2 history named s =
    subst (λ cs. IsReach (λ o. Any (Covers s o) cs) (end_before history run_2 s) (end_since history run_2 s)) (sym found_2)
    (go (same_stream s stream) refl)
  where
    before : length (archive_of_stream (files_after k65) s) ≡ 0
    before = ap (λ cs. length (values (chunks_of_stream s cs))) none_before

    after : length (archive_of_stream (files_after history) s) ≡ length (values (chunks_of_stream s (first_chunk ∷ second_chunk ∷ [])))
    after = ap (λ cs. length (values (chunks_of_stream s cs))) named

    go : (b : Bool) → same_stream s stream ≡ b
        → IsReach (λ o. Any (Covers s o) found_chunks) (end_before history run_2 s) (end_since history run_2 s)
    go true e =
        let five : start_of k65 s ≡ 5 = ap (start_of k65) (streams_same s stream e) ∙ start_65 in
        let size = length_if s true e in
        reach_of_both s e (end_before history run_2 s) (end_since history run_2 s) (omega (arith, five, before)) (omega (arith, five, after, size))
    go false e =
        let size = length_if s false e in
        reach_of_neither s e (end_before history run_2 s) (end_since history run_2 s) (omega (arith, before, after, size))

ran_2 : IsArchiveRun k75 run_2 0 12 0 1
unfolding texts
ran_2 = record {
  unclosed_is = refl;
  taken_is = refl;
  reached = reached_2 k75 both_since;
  rest = record {
    aside = refl;
    held_is = refl;
    removed_is = refl;
    gone = λ name one. of_all (λ z. is_closed z ≡ true → files_after k75 (sink_path z) ≡ None) listed_2 name
        ((λ closed. refl), ((λ closed. absurd (true≢false (sym closed))), tt)) one;
  };
}

pub klegal76 : Legal [] k76
unfolding texts
klegal76 =
    went job Say (report 0 12 0 1 ∷ []) 0 0 [] 0 0 k75 klegal75
    tt tt refl refl tt tt tt (refl, (refl, record { unclosed = 0; taken = 12; held = 0; removed = 1; is = refl; ran = ran_2 }))
