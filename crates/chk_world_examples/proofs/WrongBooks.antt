-- Books that the job's rule refuses for one part of what they owe, each beside one that differs in the one fact and is allowed.
use Rattle.chk_site.specs.declared.acts.Call.TheVariants.{Rename}
use Rattle.chk_world_examples.specs.Texts.{chunk, stem, sink, hello, done_sink, book_tmp, book_name, seg_head, stream, segment, end, book_1st}
use Rattle.chk_world.specs.Sight.{job}
use Rattle.chk_world_examples.proofs.Went.{else_holds}
use Rattle.std.proofs.Common.{◌≡◌, ℕ, ◌+◌, ◌<◌, Bool, true, false, List, [], ◌∷◌, ◌++◌, length, drop, ◌-◌, bytes_eq, refl, ap, sym, ◌∙◌, inl, inr, subst, length-append, true≢false, arith, if◌then◌else◌}
use Rattle.std.specs.Prelude.{codes, Contains, Any}
use Rattle.std.proofs.lemmas.Option.{same_Some}
use Rattle.chk_seqfile.specs.Headers.{marker_of}
use Rattle.chk_seqfile.specs.Entries.{record_entry}
use Rattle.chk_seqfile.proofs.HeaderLemmas.{IsHeader-header, length-marker_of}
use Rattle.chk_site.specs.declared.acts.ActAnswer.TheVariants.{Done}
use Rattle.chk_site.specs.Files.{Files, Moved}
use Rattle.chk_site.specs.Acts.{Renames}
use Rattle.chk_chunk.specs.Keys.{Stream, Chunk, key_1, same_stream}
use Rattle.chk_world.specs.Names.{ArchiveFolder, JoinedFolder, SegmentFile, DoneFile, spell, file}
use Rattle.chk_world.specs.Books.{Segment, End, Book, values, chunks_of_stream}
use Rattle.chk_world.specs.Committed.{HasFile, archive_of_stream, archived_end}
use Rattle.chk_world.specs.Jobs.{IsSource, IsPartAt, AreParts, Grows, IsSoundSegment, Run, BookNamesSyncedSegments, ArchiveGrowsByParts, HasStart, all_segments, chunks_after, JobRule}
use Rattle.chk_world_examples.proofs.ExampleMessages.{in_one, in_none}
use Rattle.chk_world.proofs.NameTests.{streams_same}
use Rattle.chk_world_examples.specs.Refusing.{TheRule, ObeysBut, next_by}
use Rattle.chk_world_examples.specs.Parts.{NoThing, ItsSource, ItsValue, part_with}
use Rattle.chk_world_examples.proofs.WrongParts.{source_is, never_done}
use Rattle.chk_world_examples.proofs.Unfolded.{texts}
use Rattle.chk_world_examples.specs.Books.{with_files, segment_of, next_archive, ArchiveBut, next_joined, UnsyncedAlone}

-- all else that a step owes holds of the publication
pub archive_else : (name value : List ℕ)
    → ObeysBut TheRule (with_files (next_archive name value)) (next_by job Rename (book_tmp ∷ book_name ∷ []) 0 0 (Done [] 0 0) (with_files (next_archive name value)))
unfolding texts
archive_else name value = record {
  honest = record {
    modelled = record { effect = record { did = Moved book_tmp book_name; may = refl; files_left = λ n. refl; logs_left = λ p. refl }; small = tt };
    agrees = refl;
  };
  named = refl;
  starts = refl;
  own_files = (refl, (refl, refl));
  logs = tt;
  requests = tt;
  rule = tt;
}

-- the segments

sound_hello : IsSoundSegment ArchiveFolder segment (segment_of hello 144)
unfolding texts
sound_hello = record {
  length_is = refl;
  synced_is = refl;
  chunks = record {
    form = record {
      marker = marker_of (codes "seg.1");
      head = seg_head;
      entries = record_entry (key_1 chunk.key) hello;
      is = refl;
      header = IsHeader-header (marker_of (codes "seg.1")) (length-marker_of (codes "seg.1"));
      form = record {
        pieces = record_entry (key_1 chunk.key) hello ∷ [];
        each = (inr (record { key = key_1 chunk.key; value = hello; small = omega arith; is = refl }), tt);
        is = refl;
      };
    };
    all = refl;
  };
}

sound_jello : IsSoundSegment ArchiveFolder segment (segment_of (codes "jello\n") 144)
unfolding texts
sound_jello = record {
  length_is = refl;
  synced_is = refl;
  chunks = record {
    form = record {
      marker = marker_of (codes "seg.1");
      head = seg_head;
      entries = record_entry (key_1 chunk.key) (codes "jello\n");
      is = refl;
      header = IsHeader-header (marker_of (codes "seg.1")) (length-marker_of (codes "seg.1"));
      form = record {
        pieces = record_entry (key_1 chunk.key) (codes "jello\n") ∷ [];
        each = (inr (record { key = key_1 chunk.key; value = (codes "jello\n"); small = omega arith; is = refl }), tt);
        is = refl;
      };
    };
    all = refl;
  };
}

false_names : BookNamesSyncedSegments ArchiveFolder (with_files (next_archive done_sink (codes "jello\n"))) book_1st
unfolding texts
false_names = record {
  sound = λ g o. subst (λ (g : Segment). HasFile (file (next_archive done_sink (codes "jello\n")) (SegmentFile ArchiveFolder g.number)) (IsSoundSegment ArchiveFolder g)) (in_one segment g o) sound_jello;
  listed = λ c o. subst (λ (c : Chunk). Any (λ e. e.stream ≡ c.key.stream) (end ∷ [])) (in_one (part_with (codes "jello\n")) c o) (0, end, omega arith, refl, refl);
  ends = λ e o. subst (λ (e : End). Run e.start e.start (chunks_of_stream e.stream ((part_with (codes "jello\n")) ∷ [])) e.end) (in_one end e o) (refl, refl, refl);
  starts = λ e o. subst (λ (e : End). HasStart ArchiveFolder (with_files (next_archive done_sink (codes "jello\n"))) e) (in_one end e o) (_, refl, refl);
}

false_elsewhere : (s : Stream) → same_stream s stream ≡ false → Grows (with_files (next_archive done_sink (codes "jello\n"))) s (chunks_after (with_files (next_archive done_sink (codes "jello\n"))) book_1st s)
unfolding texts
false_elsewhere s e = record { old = []; parts = []; are = ap (λ b. if b then (part_with (codes "jello\n")) ∷ [] else []) e; same = refl; new = tt }

true_names : BookNamesSyncedSegments ArchiveFolder (with_files (next_archive done_sink hello)) book_1st
unfolding texts
true_names = record {
  sound = λ g o. subst (λ (g : Segment). HasFile (file (next_archive done_sink hello) (SegmentFile ArchiveFolder g.number)) (IsSoundSegment ArchiveFolder g)) (in_one segment g o) sound_hello;
  listed = λ c o. subst (λ (c : Chunk). Any (λ e. e.stream ≡ c.key.stream) (end ∷ [])) (in_one (part_with hello) c o) (0, end, omega arith, refl, refl);
  ends = λ e o. subst (λ (e : End). Run e.start e.start (chunks_of_stream e.stream ((part_with hello) ∷ [])) e.end) (in_one end e o) (refl, refl, refl);
  starts = λ e o. subst (λ (e : End). HasStart ArchiveFolder (with_files (next_archive done_sink hello)) e) (in_one end e o) (_, refl, refl);
}

true_elsewhere : (s : Stream) → same_stream s stream ≡ false → Grows (with_files (next_archive done_sink hello)) s (chunks_after (with_files (next_archive done_sink hello)) book_1st s)
unfolding texts
true_elsewhere s e = record { old = []; parts = []; are = ap (λ b. if b then (part_with hello) ∷ [] else []) e; same = refl; new = tt }

undone_names : BookNamesSyncedSegments ArchiveFolder (with_files (next_archive sink hello)) book_1st
unfolding texts
undone_names = record {
  sound = λ g o. subst (λ (g : Segment). HasFile (file (next_archive sink hello) (SegmentFile ArchiveFolder g.number)) (IsSoundSegment ArchiveFolder g)) (in_one segment g o) sound_hello;
  listed = λ c o. subst (λ (c : Chunk). Any (λ e. e.stream ≡ c.key.stream) (end ∷ [])) (in_one (part_with hello) c o) (0, end, omega arith, refl, refl);
  ends = λ e o. subst (λ (e : End). Run e.start e.start (chunks_of_stream e.stream ((part_with hello) ∷ [])) e.end) (in_one end e o) (refl, refl, refl);
  starts = λ e o. subst (λ (e : End). HasStart ArchiveFolder (with_files (next_archive sink hello)) e) (in_one end e o) (_, refl, refl);
}

undone_elsewhere : (s : Stream) → same_stream s stream ≡ false → Grows (with_files (next_archive sink hello)) s (chunks_after (with_files (next_archive sink hello)) book_1st s)
unfolding texts
undone_elsewhere s e = record { old = []; parts = []; are = ap (λ b. if b then (part_with hello) ∷ [] else []) e; same = refl; new = tt }

-- where its part has all things, the archive grows by it
archive_grows : (files : Files) (part : Chunk) → ArchiveBut NoThing files part → ArchiveGrowsByParts (with_files files) book_1st
archive_grows files part a = record {
  each = λ s. grows_at s (same_stream s stream) refl;
  aside_new = λ c o. absurd (in_none c (subst (λ cs. Contains cs c) a.aside_new o));
  aside_old = λ c o. absurd (in_none c (subst (λ cs. Contains cs c) a.aside_old o));
}
  where
    here : Grows (with_files files) stream (chunks_after (with_files files) book_1st stream)
    here = record {
      old = [];
      parts = part ∷ [];
      are = a.here;
      same = sym a.empty;
      new = (
        subst (λ n. IsPartAt files stream n part) (sym a.reached)
            (record { whole = chunk; source = a.its_part.source; of = a.its_part.of; begins = a.its_part.begins; past = a.its_part.past; key = a.its_part.key; value = a.its_part.value }),
        tt,
      );
    }

    grows_at : (s : Stream) (b : Bool) → same_stream s stream ≡ b → Grows (with_files files) s (chunks_after (with_files files) book_1st s)
    grows_at s true e = subst (λ s. Grows (with_files files) s (chunks_after (with_files files) book_1st s)) (sym (streams_same s stream e)) here
    grows_at s false e = a.elsewhere s e

-- the first of a list, or this one
abbrev first_chunk : Chunk → List Chunk → Chunk
first_chunk c [] = c
first_chunk c (d ∷ ds) = d

-- what an archive that had nothing gets is parts alone
part_alone : (old parts : List Chunk) (c : Chunk) → c ∷ [] ≡ old ++ parts → values old ≡ [] → 0 < length c.value → c ∷ [] ≡ parts
part_alone [] parts c e none some = e
part_alone (d ∷ old) parts c e none some = absurd (
    let n : length (values (d ∷ old)) ≡ 0 = ap length none in
    let d_is : c ≡ d = ap (first_chunk c) e in
    let m : length (values (d ∷ old)) ≡ length d.value + length (values old) = length-append d.value (values old) in
    let k : length c.value ≡ length d.value = ap (λ (c : Chunk). length c.value) d_is in
    omega (arith, n, m, k, some)
    )

-- the part of a book that is allowed
part_owed : (files : Files) (part : Chunk) → 0 < length part.value → Grows (with_files files) stream (part ∷ []) → archive_of_stream files stream ≡ []
    → archived_end (with_files files) stream ≡ 0 → IsPartAt files stream 0 part
part_owed files part some g empty reached =
    let parts = part_alone g.old g.parts part g.are (g.same ∙ empty) some in
    let new : AreParts files stream (archived_end (with_files files) stream) (part ∷ []) =
    subst (λ (ps : List Chunk). AreParts files stream (archived_end (with_files files) stream) ps) (sym parts) g.new in
    subst (λ n. IsPartAt files stream n part) reached new.0

-- the part in the archive has the data of the done sink's chunk

pub false_archive_alone : ArchiveBut ItsValue (next_archive done_sink (codes "jello\n")) (part_with (codes "jello\n"))
unfolding texts
false_archive_alone = record {
  names = false_names;
  elsewhere = false_elsewhere;
  aside_new = refl;
  aside_old = refl;
  here = refl;
  empty = refl;
  reached = refl;
  its_part = record { source = (inl (stem, refl, (0, omega arith, refl))); of = refl; begins = omega arith; past = omega arith; key = refl; value = tt };
}

false_part_owed : JobRule [] (with_files (next_archive done_sink (codes "jello\n"))) (Renames book_tmp book_name) → IsPartAt (next_archive done_sink (codes "jello\n")) stream 0 (part_with (codes "jello\n"))
unfolding texts
false_part_owed r =
    let p = r.1 in
    let e : p.0 ≡ book_1st = sym (same_Some book_1st p.0 p.1) in
    part_owed (next_archive done_sink (codes "jello\n")) (part_with (codes "jello\n")) (omega arith)
    (subst (λ (b : Book). Grows (with_files (next_archive done_sink (codes "jello\n"))) stream (chunks_after (with_files (next_archive done_sink (codes "jello\n"))) b stream)) e (p.2.1.each stream)) refl refl

-- the other files give no chunk
false_source : (c : Chunk) → IsSource (next_archive done_sink (codes "jello\n")) c → chunk ≡ c
unfolding texts
false_source c (inl s) = source_is c (inl s)
false_source c (inr a) = absurd (in_none c a)

pub false_archive : JobRule [] (with_files (next_archive done_sink (codes "jello\n"))) (Renames book_tmp book_name) → ⊥
unfolding texts
false_archive r =
    let p = false_part_owed r in
    true≢false (ap (λ t. bytes_eq t (codes "jello\n")) (subst (λ (c : Chunk). (codes "jello\n") ≡ drop (0 - (c.key.seq - length c.value)) c.value) (sym (false_source p.whole p.source)) p.value))

true_archive_owes : ArchiveBut NoThing (next_archive done_sink hello) (part_with hello)
unfolding texts
true_archive_owes = record {
  names = true_names;
  elsewhere = true_elsewhere;
  aside_new = refl;
  aside_old = refl;
  here = refl;
  empty = refl;
  reached = refl;
  its_part = record { source = (inl (stem, refl, (0, omega arith, refl))); of = refl; begins = omega arith; past = omega arith; key = refl; value = refl };
}

pub true_archive : JobRule [] (with_files (next_archive done_sink hello)) (Renames book_tmp book_name)
unfolding texts
true_archive = (refl, (book_1st, refl, (true_names, archive_grows (next_archive done_sink hello) (part_with hello) true_archive_owes)))

-- and that sink is done

pub undone_archive_alone : ArchiveBut ItsSource (next_archive sink hello) (part_with hello)
unfolding texts
undone_archive_alone = record {
  names = undone_names;
  elsewhere = undone_elsewhere;
  aside_new = refl;
  aside_old = refl;
  here = refl;
  empty = refl;
  reached = refl;
  its_part = record { source = tt; of = refl; begins = omega arith; past = omega arith; key = refl; value = refl };
}

undone_part_owed : JobRule [] (with_files (next_archive sink hello)) (Renames book_tmp book_name) → IsPartAt (next_archive sink hello) stream 0 (part_with hello)
unfolding texts
undone_part_owed r =
    let p = r.1 in
    let e : p.0 ≡ book_1st = sym (same_Some book_1st p.0 p.1) in
    part_owed (next_archive sink hello) (part_with hello) (omega arith)
    (subst (λ (b : Book). Grows (with_files (next_archive sink hello)) stream (chunks_after (with_files (next_archive sink hello)) b stream)) e (p.2.1.each stream)) refl refl

undone_source : (c : Chunk) → IsSource (next_archive sink hello) c → ⊥
unfolding texts
undone_source c (inl s) = never_done (bytes_eq (spell (DoneFile s.0)) sink) s.0 c s.1 refl s.2
undone_source c (inr a) = in_none c a

pub undone_archive : JobRule [] (with_files (next_archive sink hello)) (Renames book_tmp book_name) → ⊥
unfolding texts
undone_archive r = let p = undone_part_owed r in undone_source p.whole p.source

pub joined_unsynced : JobRule [] (with_files (next_joined 0)) (Renames (codes "joined/book.tmp") (codes "joined/book")) → ⊥
unfolding texts
joined_unsynced r =
    let p = r.1 in
    let e : book_1st ≡ p.0 = same_Some book_1st p.0 p.1 in
    let s = p.2.sound segment (subst (λ (b : Book). Contains (all_segments b) segment) e (0, omega arith, refl)) in
    let z : ◌≡◌ {A = ℕ} 0 144 = s.synced_is in
    omega arith

sound_joined : IsSoundSegment JoinedFolder segment (segment_of hello 144)
unfolding texts
sound_joined = record {
  length_is = refl;
  synced_is = refl;
  chunks = record {
    form = record {
      marker = marker_of (codes "seg.1");
      head = seg_head;
      entries = record_entry (key_1 chunk.key) hello;
      is = refl;
      header = IsHeader-header (marker_of (codes "seg.1")) (length-marker_of (codes "seg.1"));
      form = record {
        pieces = record_entry (key_1 chunk.key) hello ∷ [];
        each = (inr (record { key = key_1 chunk.key; value = hello; small = omega arith; is = refl }), tt);
        is = refl;
      };
    };
    all = refl;
  };
}

joined_names : BookNamesSyncedSegments JoinedFolder (with_files (next_joined 144)) book_1st
unfolding texts
joined_names = record {
  sound = λ g o. subst (λ (g : Segment). HasFile (file (next_joined 144) (SegmentFile JoinedFolder g.number)) (IsSoundSegment JoinedFolder g)) (in_one segment g o) sound_joined;
  listed = λ c o. subst (λ (c : Chunk). Any (λ e. e.stream ≡ c.key.stream) (end ∷ [])) (in_one chunk c o) (0, end, omega arith, refl, refl);
  ends = λ e o. subst (λ (e : End). Run e.start e.start (chunks_of_stream e.stream (chunk ∷ [])) e.end) (in_one end e o) (refl, refl, refl);
  starts = λ e o. subst (λ (e : End). HasStart JoinedFolder (with_files (next_joined 144)) e) (in_one end e o) tt;
}

pub joined_synced : JobRule [] (with_files (next_joined 144)) (Renames (codes "joined/book.tmp") (codes "joined/book"))
unfolding texts
joined_synced = (refl, (book_1st, refl, joined_names))

pub joined_alone : UnsyncedAlone
unfolding texts
joined_alone = record {
  length_is = refl;
  chunks = sound_joined.chunks;
  listed = joined_names.listed;
  ends = joined_names.ends;
  starts = λ e o. tt;
}

pub joined_else : ObeysBut TheRule (with_files (next_joined 0))
    (next_by job Rename (codes "joined/book.tmp" ∷ codes "joined/book" ∷ []) 0 0 (Done [] 0 0) (with_files (next_joined 0)))
unfolding texts
joined_else = else_holds job Rename (codes "joined/book.tmp" ∷ codes "joined/book" ∷ []) 0 0 [] 0
    0 (with_files (next_joined 0)) tt refl refl refl (refl, (refl, refl)) tt tt
