-- A book stays true, and the archive's records run from the start of a stream to its end.
use Rattle.std.proofs.Common.{◌≡◌, ◌⊎◌, inl, inr, ℕ, ◌+◌, Bool, true, false, ◌&&◌, List, [], ◌∷◌, ◌++◌, length, ap, sym, subst, ◌∙◌, refl, arith, length-append, Option, Some, None}
use Rattle.std.specs.Prelude.{Any, Contains, filter, nat_lt, nat_le, flat_map, filter_map}
use Rattle.std.proofs.lemmas.Bool.{and_parts, ltb-true, leb-true}
use Rattle.std.proofs.lemmas.Option.{none-some, same_Some}
use Rattle.std.specs.List.{cons_option}
use Rattle.chk_site.specs.Files.{File, Files}
use Rattle.chk_site.specs.History.{Step, History, files_after}
use Rattle.chk_seqfile.specs.Entries.{Placed, records_of}
use Rattle.chk_chunk.specs.Keys.{Stream, Key, Chunk, chunk_begin, chunk_end, is_of, has_value, read_key, record_limit}
use Rattle.chk_world.specs.Names.{Folder, ArchiveFolder, DemuxFolder, JoinedFolder, BookFile, SegmentFile, file}
use Rattle.chk_world.specs.Checkpoints.{line_of}
use Rattle.chk_world.specs.Books.{End, Book, book_in, book_of, chunk_if, chunk_with, chunk_of, chunks_within, chunks_in, segment_chunks, chunks_named, chunks_of_stream, values}
use Rattle.chk_world.specs.Streams.{founded_by, or_else, start_at, start_of}
use Rattle.chk_world.specs.Committed.{archived_end}
use Rattle.chk_world.specs.Jobs.{Run, HasStart, BookNamesSyncedSegments}
use Rattle.chk_world.specs.Rules.{Legal}
use Rattle.chk_world.proofs.NameTests.{streams_same}
use Rattle.chk_world.proofs.Segments.{named_sound, names_segments, NamedAreSound, NewlyPublished, book_after, segment_stays, new_stays, chunks_same, book_is, none_in}
use Rattle.chk_world.specs.TrueBooks.{HasBytes, archived_chunks}
use Rattle.chk_world.proofs.Each.{Each, each_filter, each_at, filter_each, filter_in, first_in}

-- ---- each record that is a chunk has bytes

value_bytes : (most : ℕ) (k : Key) (value : List ℕ) → has_value most k value ≡ true → HasBytes (record { key = k; value = value })
value_bytes most k value h =
    let p = and_parts (nat_lt 0 (length value)) (nat_le (length value) most && nat_le (k.start + length value) k.seq) h in
    let q = leb-true (k.start + length value) k.seq (and_parts (nat_le (length value) most) (nat_le (k.start + length value) k.seq) p.1).1 in
    record { some = ltb-true 0 (length value) p.0; room = omega (arith, q) }

each_mapped : {X Y : Type 0} (P : Y → Type 0) (h : X → Option Y) (xs : List X)
    → ((x : X) (y : Y) → h x ≡ Some y → P y) → Each P (filter_map h xs)
each_mapped P h [] f = tt
each_mapped {X = X} {Y = Y} P h (x ∷ xs) f = go (h x) refl (each_mapped P h xs f)
  where
    go : (o : Option Y) → h x ≡ o → Each P (filter_map h xs)
        → Each P (cons_option o (filter_map h xs))
    go None e rest = rest
    go (Some y) e rest = (f x y e, rest)

chunk_bytes : (most : ℕ) (r : Placed) (c : Chunk) → chunk_of most r ≡ Some c → HasBytes c
chunk_bytes most r c e = go (read_key r.key) e
  where
    pick : (k : Key) (b : Bool) → has_value most k r.value ≡ b → chunk_if b k r.value ≡ Some c
        → HasBytes c
    pick k true h e = subst HasBytes (same_Some (record { key = k; value = r.value }) c e) (value_bytes most k r.value h)
    pick k false h e = absurd (none-some c e)

    go : (o : Option Key) → chunk_with most o r.value ≡ Some c → HasBytes c
    go None e = absurd (none-some c e)
    go (Some k) e = pick k (has_value most k r.value) refl e

pub each_within : (most : ℕ) (bytes : List ℕ) → Each HasBytes (chunks_within most bytes)
each_within most bytes = each_mapped HasBytes (chunk_of most) (records_of bytes) (chunk_bytes most)

pub each_append : {X : Type 0} (P : X → Type 0) (xs ys : List X) → Each P xs → Each P ys
    → Each P (xs ++ ys)
each_append P [] ys a b = b
each_append P (x ∷ xs) ys a b = (a.0, each_append P xs ys a.1 b)

pub each_flat : {X Y : Type 0} (P : Y → Type 0) (f : X → List Y) (xs : List X)
    → ((x : X) → Each P (f x)) → Each P (flat_map f xs)
each_flat P f [] h = tt
each_flat P f (x ∷ xs) h = each_append P (f x) (flat_map f xs) (h x) (each_flat P f xs h)

each_in_file : (o : Option File) → Each HasBytes (chunks_in o)
each_in_file None = tt
each_in_file (Some f) = each_within record_limit f.bytes

pub each_named : (files : Files) (folder : Folder) (b : Book)
    → Each HasBytes (chunks_named files folder b)
each_named files folder b =
    each_flat HasBytes (segment_chunks files folder) b.segments (λ g. each_in_file (file files (SegmentFile folder g.number)))

-- ---- a run is as long as its values

pub run_length : (start from : ℕ) (cs : List Chunk) (to : ℕ) → Each HasBytes cs
    → Run start from cs to → from + length (values cs) ≡ to
run_length start from [] to all r = omega (arith, r)
run_length start from (c ∷ cs) to all r =
    let rest = run_length start (chunk_end c) cs to all.1 r.2 in
    let whole = length-append c.value (values cs) in
    let room = all.0.room in
    let begin : chunk_begin c ≡ from = r.1 in
    omega (arith, rest, whole, room, begin)

-- ---- the book

-- a stream that has begun with a start has
pub has_start_stays : (folder : Folder) (history : History) (step : Step) (e : End)
    → HasStart folder history e
    → HasStart folder (step ∷ history) e
has_start_stays ArchiveFolder history step e h =
    (h.0, ap (λ o. or_else o (founded_by (line_of step.files e.stream) (step.logs e.stream.name))) h.1, h.2)
has_start_stays DemuxFolder history step e h =
    (h.0, ap (λ o. or_else o (founded_by (line_of step.files e.stream) (step.logs e.stream.name))) h.1, h.2)
has_start_stays JoinedFolder history step e h = tt

-- the start that a book has for a stream is the stream's
pub has_start_is : (history : History) (e : End) → HasStart ArchiveFolder history e
    → e.start ≡ start_of history e.stream
has_start_is history e h = h.2 ∙ sym (ap start_at h.1)

-- all that a book says of its streams
record Says (folder : Folder) (history : History) (b : Book) : Type 0 where
  listed : (c : Chunk) → Contains (chunks_named (files_after history) folder b) c
      → Any (λ e. e.stream ≡ c.key.stream) b.ends
  ends : (e : End) → Contains b.ends e
      → Run e.start e.start (chunks_of_stream e.stream (chunks_named (files_after history) folder b)) e.end
  starts : (e : End) → Contains b.ends e → HasStart folder history e

says : (folder : Folder) (history : History) (b : Book) → BookNamesSyncedSegments folder history b
    → Says folder history b
says folder history b n = record { listed = n.listed; ends = n.ends; starts = n.starts }

-- of a book whose segments stay
kept : (folder : Folder) (history : History) (step : Step) (b : Book)
    → chunks_named step.files folder b ≡ chunks_named (files_after history) folder b
    → Says folder history b → Says folder (step ∷ history) b
kept folder history step b same t = record {
  listed = λ c one. t.listed c (subst (λ cs. Contains cs c) same one);
  ends = λ e one. subst (λ cs. Run e.start e.start (chunks_of_stream e.stream cs) e.end) (sym same) (t.ends e one);
  starts = λ e one. has_start_stays folder history step e (t.starts e one);
}

pub books_stay_true : (stamped : List (List ℕ)) (history : History) → Legal stamped history
    → (folder : Folder)
    → BookNamesSyncedSegments folder history (book_of (files_after history) folder)
books_stay_true stamped [] legal folder = record {
  sound = named_sound stamped [] legal folder;
  listed = λ c one. absurd (none_in c one);
  ends = λ e one. absurd (none_in e one);
  starts = λ e one. absurd (none_in e one);
}
books_stay_true stamped (step ∷ history) legal folder =
    let s = go (says folder history (book_of (files_after history) folder) (books_stay_true stamped history legal.0 folder))
    (book_after stamped folder history step legal).outcome in
    record {
      sound = named_sound stamped (step ∷ history) legal folder;
      listed = s.listed;
      ends = s.ends;
      starts = s.starts;
    }
  where
    before : NamedAreSound folder (files_after history)
    before = named_sound stamped history legal.0 folder

    go : Says folder history (book_of (files_after history) folder)
        → (file step.files (BookFile folder) ≡ file (files_after history) (BookFile folder))
        ⊎ NewlyPublished stamped folder history step (file step.files (BookFile folder))
        → Says folder (step ∷ history) (book_of step.files folder)
    go t (inl same) =
        let b = book_of (files_after history) folder in
        let as_before = chunks_same step.files (files_after history) folder b
        (λ g c. segment_stays stamped folder history step legal before g c) in
        subst (Says folder (step ∷ history)) (sym (ap book_in same)) (kept folder history step b as_before t)
    go t (inr p) =
        let b : Book = p.book in
        let names : BookNamesSyncedSegments folder history b = names_segments stamped folder history b p.good in
        let as_before = chunks_same step.files (files_after history) folder b
        (λ g c. new_stays stamped folder history step legal p names g c) in
        subst (Says folder (step ∷ history)) (sym (book_is (file step.files (BookFile folder)) p.f b p.there p.is))
        (kept folder history step b as_before (says folder history b names))

-- ---- the archive's records run from its start to its end

run_of : (history : History) (b : Book) → BookNamesSyncedSegments ArchiveFolder history b
    → (s : Stream) (xs : List Chunk)
    → chunks_of_stream s (chunks_named (files_after history) ArchiveFolder b) ≡ xs
    → Each HasBytes xs
    → Run (start_of history s) (start_of history s) xs (start_of history s + length (values xs))
run_of history b t s [] is bytes = omega arith
run_of history b t s (c ∷ xs) is bytes =
    let all = chunks_named (files_after history) ArchiveFolder b in
    let passed : Contains (filter (is_of s) all) c = first_in (filter (is_of s) all) c xs is in
    let of : is_of s c ≡ true = each_at (λ c. is_of s c ≡ true) (filter (is_of s) all) c (filter_each (is_of s) all) passed in
    let here = t.listed c (filter_in (is_of s) all c passed) in
    let e : End = here.1 in
    let one : Contains b.ends e = (here.0, here.2, here.3) in
    let stream : e.stream ≡ s = here.4 ∙ sym (streams_same s c.key.stream of) in
    let r : Run e.start e.start (c ∷ xs) e.end =
    subst (λ l. Run e.start e.start l e.end) (ap (λ u. chunks_of_stream u all) stream ∙ is) (t.ends e one) in
    let size = run_length e.start e.start (c ∷ xs) e.end bytes r in
    let long = length-append c.value (values xs) in
    let start : e.start ≡ start_of history s = has_start_is history e (t.starts e one) ∙ ap (start_of history) stream in
    let end : e.end ≡ start_of history s + length (values (c ∷ xs)) = omega (arith, size, start) in
    subst (λ n. Run n n (c ∷ xs) (start_of history s + length (values (c ∷ xs)))) start (subst (Run e.start e.start (c ∷ xs)) end r)

-- at every moment of a legal history the archive's records of a stream run from its start to its
-- end
pub archives_run : (stamped : List (List ℕ)) (history : History) → Legal stamped history
    → (s : Stream)
    → Run (start_of history s) (start_of history s) (archived_chunks history s)
    (archived_end history s)
archives_run stamped history legal s =
    let b = book_of (files_after history) ArchiveFolder in
    let all = chunks_named (files_after history) ArchiveFolder b in
    run_of history b (books_stay_true stamped history legal ArchiveFolder) s (chunks_of_stream s all) refl
    (each_filter HasBytes (is_of s) all (each_named (files_after history) ArchiveFolder b))
