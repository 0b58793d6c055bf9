-- What was found at the listing is what a run may take then and later.
use Rattle.std.proofs.Common.{◌≡◌, ◌⊎◌, inl, inr, ℕ, zero, suc, ◌+◌, ◌-◌, Bool, true, false, ◌&&◌, cond, List, [], ◌∷◌, ◌++◌, length, take, drop, Option, Some, None, ap, sym, subst, ◌∙◌, refl, arith, true≢false, if◌then◌else◌}
use Rattle.std.specs.Prelude.{Contains, filter, flat_map, nat_le, nat_lt}
use Rattle.std.proofs.lemmas.Bool.{and_parts, ltb-true, leb-true}
use Rattle.std.proofs.lemmas.Option.{none-some}
use Rattle.std.proofs.lemmas.List.Elements.{Contains-append_left}
use Rattle.chk_bytes.specs.Stems.{Stem}
use Rattle.chk_site.specs.Files.{File, Files}
use Rattle.chk_site.specs.History.{History, files_after}
use Rattle.chk_chunk.specs.Keys.{Stream, Chunk, is_key, has_value, is_of, same_stream, chunk_limit, chunk_begin}
use Rattle.chk_world.specs.Names.{ArchiveFolder, DoneFile, file, read}
use Rattle.chk_world.specs.Books.{End, Book, chunks_named, chunks_of_stream, values}
use Rattle.chk_world.specs.Committed.{sink_chunks, aside_chunks, archived_end}
use Rattle.chk_world.specs.Streams.{start_of, log_of}
use Rattle.chk_world.specs.ArchiveRuns.{Listing, in_order, found, is_closed, sink_path, listed_chunks}
use Rattle.chk_world.specs.DoneSinks.{IsDoneName}
use Rattle.chk_world.specs.Jobs.{IsSource, BookNamesSyncedSegments}
use Rattle.chk_world.specs.Sight.{Sight, shows_done}
use Rattle.chk_world.specs.TrueBooks.{HasBytes}
use Rattle.chk_world.proofs.NameTests.{streams_same}
use Rattle.chk_world.proofs.Each.{Each, each_from, each_filter, later_one}
use Rattle.chk_world.proofs.Segments.{none_in}
use Rattle.chk_world.proofs.BooksTrue.{each_named, run_length, has_start_is, books_stay_true}
use Rattle.chk_world.proofs.KeptTrue.{source_true}
use Rattle.chk_world.proofs.StaysTrue.{IsFoundedChunk}
use Rattle.chk_book.specs.Books.{end_in}
use Rattle.chk_archive_plan.specs.NextBooks.{AreFound}
use Rattle.chk_archive_plan.proofs.Parts.{stream_self}
use Rattle.chk_archive_plan.proofs.Runs.{put_all, all_put}
use Rattle.chk_archive_parts.specs.Gathering.{held_at}
use Rattle.chk_archive_parts.specs.Records.{AreOfLogs}
use Rattle.chk_archive.specs.Listed.{IsListed}
use Rattle.chk_archive.proofs.SinksGo.{good_stem}
use Rattle.chk_archive.proofs.Listings.{L, legal_then, book_then, sink_held}
use Rattle.chk_archive_parts.proofs.InTurn.{from_both}

-- ---- lists

from_flat : {X Y : Type 0} (f : X → List Y) (xs : List X) (y : Y) → Contains (flat_map f xs) y
    → (x : X) × Contains xs x × Contains (f x) y
from_flat f [] y one = absurd (none_in y one)
from_flat f (x ∷ xs) y one = elim (split (f x) (flat_map f xs) one) [
  | inl k ↦ (x, (0, omega arith, refl), k)
  | inr k ↦ let r = from_flat f xs y k in (r.0, later_one x xs r.0 r.1, r.2)
]
  where
    split : (ys zs : List _) → Contains (ys ++ zs) y → Contains ys y ⊎ Contains zs y
    split [] zs k = inr k
    split (z ∷ ys) zs (zero, low, at) = inl (0, omega arith, at)
    split (z ∷ ys) zs (suc k, low, at) = elim (split ys zs (k, omega (arith, low), at)) [
      | inl r ↦ inl (later_one z ys y r)
      | inr r ↦ inr r
    ]

-- ---- the sinks and the aside segment are as they were

module _ (stamped : List (List ℕ)) (names : List (List ℕ)) (b : Book) (v : Sight)
    (at : IsListed stamped names b v) where
  abbrev pub K : Listing
  K = L stamped names b v at

  abbrev pub then_files : Files
  then_files = files_after K.upto

  pub record StillThere (files : Files) : Type 0 where
    pub sinks : (x : Stem) (f : File) → v.sinks x ≡ Some f → file files (DoneFile x) ≡ Some f
    pub asides : aside_chunks files ≡ aside_chunks then_files

  shown_file : (t : Bool) (o : Option File) (f : File) → (if t then o else None) ≡ Some f → o ≡ Some f
  shown_file true o f e = e
  shown_file false o f e = absurd (none-some f e)

  pub there_then : StillThere then_files
  there_then = record {
    sinks = λ x f e. shown_file (shows_done (Some K) x) (file then_files (DoneFile x)) f
        (at.shows.sinks_then x ∙ e);
    asides = refl;
  }

  module _ (files : Files) (still : StillThere files) where
    from_sink : (name : List ℕ) → Contains names name → is_closed name ≡ true → (c : Chunk)
        → Contains (sink_chunks (then_files (sink_path name))) c → IsSource files c
    from_sink name one closed c k = go (then_files (sink_path name)) refl k
      where
        done : IsDoneName name (read (sink_path name))
        done = at.shows.done name one closed

        held : v.sinks done.0 ≡ then_files (sink_path name)
        held = sym (ap (held_at v) done.1) ∙ sink_held stamped names b v at name one closed

        go : (o : Option File) → then_files (sink_path name) ≡ o → Contains (sink_chunks o) c → IsSource files c
        go None e k = absurd (none_in c k)
        go (Some f) e k =
            inl (
              done.0,
              good_stem (sink_path name) done.0 done.1,
              subst (λ o. Contains (sink_chunks o) c) (sym (still.sinks done.0 f (held ∙ e))) k,
            )

    pub source_found : (c : Chunk) → Contains (found K) c → IsSource files c
    source_found c one =
        elim (from_both (aside_chunks then_files) (flat_map (listed_chunks then_files) K.names) c one) [
          | inl k ↦ inr (subst (λ l. Contains l c) (sym still.asides) k)
          | inr k ↦
              let r = from_flat (listed_chunks then_files) K.names c k in
              listed r.0 (subst (λ l. Contains l r.0) at.shows.are r.1) (is_closed r.0) refl r.2
        ]
      where
        listed : (name : List ℕ) → Contains names name → (t : Bool) → is_closed name ≡ t
            → Contains (if t then sink_chunks (then_files (sink_path name)) else []) c → IsSource files c
        listed name one true e k = from_sink name one e c k
        listed name one false e k = absurd (none_in c k)

  -- ---- the facts of each chunk that was found

  pub founded : (c : Chunk) → Contains (found K) c → IsFoundedChunk K.upto c
  founded c one =
      source_true stamped K.upto (legal_then stamped names b v at) c
      (source_found then_files there_then c one)

  pub found_bytes : (c : Chunk) → Contains (found K) c → HasBytes c
  found_bytes c one =
      let p = and_parts (is_key c.key) (has_value chunk_limit c.key c.value) (founded c one).valid in
      let q = and_parts (nat_lt 0 (length c.value))
      (nat_le (length c.value) chunk_limit && nat_le (c.key.start + length c.value) c.key.seq) p.1 in
      let r = and_parts (nat_le (length c.value) chunk_limit) (nat_le (c.key.start + length c.value) c.key.seq) q.1 in
      let low = ltb-true 0 (length c.value) q.0 in
      let fits = leb-true (c.key.start + length c.value) c.key.seq r.1 in
      record { some = low; room = omega (arith, fits) }

  pub each_found : Each HasBytes (found K)
  each_found = each_from HasBytes (found K) found_bytes

  -- each chunk in order was found in the files of then, or of later
  pub are_found : (history : History) → StillThere (files_after history)
      → AreFound history (in_order (found K))
  are_found history still = record {
    source = λ c one. source_found (files_after history) still c (all_put (found K) c one);
    bytes = λ c one. found_bytes c (all_put (found K) c one);
    all_aside = λ c one. put_all (found K) c
        (Contains-append_left (aside_chunks then_files) (flat_map (listed_chunks then_files) K.names) c
        (subst (λ l. Contains l c) still.asides one));
  }

  -- of two with the same offsets the data is the same
  pub of_logs : AreOfLogs (found K)
  of_logs c d one two stream begin seq =
      let t = founded c one in
      let u = founded d two in
      let x = found_bytes c one in
      let y = found_bytes d two in
      let size : length c.value ≡ length d.value = omega (arith, begin, seq, x.room, y.room) in
      let start : c.key.start ≡ d.key.start = t.is_true.start
      ∙ (ap (start_of K.upto) stream ∙ sym u.is_true.start) in
      let log = ap (log_of K.upto) stream in
      let from : chunk_begin c - c.key.start ≡ chunk_begin d - d.key.start = omega (arith, begin, start) in
      t.is_true.data_is
      ∙ (ap (λ n. take n (drop (chunk_begin c - c.key.start) (log_of K.upto c.key.stream))) size
      ∙ (ap (λ n. take (length d.value) (drop n (log_of K.upto c.key.stream))) from
      ∙ (ap (λ l. take (length d.value) (drop (chunk_begin d - d.key.start) l)) log
      ∙ sym u.is_true.data_is)))

  -- ---- the ends of the book

  abbrev pub Then : Stream → List Chunk
  Then s = chunks_of_stream s (chunks_named then_files ArchiveFolder b)

  pub true_book : BookNamesSyncedSegments ArchiveFolder K.upto b
  true_book =
      subst (BookNamesSyncedSegments ArchiveFolder K.upto) (book_then stamped names b v at)
      (books_stay_true stamped K.upto (legal_then stamped names b v at) ArchiveFolder)

  then_bytes : (s : Stream) → Each HasBytes (Then s)
  then_bytes s = each_filter HasBytes (is_of s) (chunks_named then_files ArchiveFolder b)
      (each_named then_files ArchiveFolder b)

  then_run : (s : Stream) → archived_end K.upto s ≡ start_of K.upto s + length (values (Then s))
  then_run s = ap (λ (c : Book). start_of K.upto s
      + length (values (chunks_of_stream s (chunks_named then_files ArchiveFolder c))))
      (book_then stamped names b v at)

  -- the end of a stream that the book has is that of its archive
  pub listed_end : (e : End) → Contains b.ends e → e.end ≡ archived_end K.upto e.stream
  listed_end e one =
      let r = true_book.ends e one in
      let size = run_length e.start e.start (Then e.stream) e.end (then_bytes e.stream) r in
      let start = has_start_is K.upto e (true_book.starts e one) in
      let end = then_run e.stream in
      omega (arith, size, start, end)

  -- a stream that the book doesn't have has no archive
  no_chunks : (s : Stream) → ((e : End) → Contains b.ends e → e.stream ≡ s → ⊥)
      → Then s ≡ []
  no_chunks s none = go (chunks_named then_files ArchiveFolder b) (λ c one. one)
    where
      go : (cs : List Chunk)
          → ((c : Chunk) → Contains cs c → Contains (chunks_named then_files ArchiveFolder b) c)
          → filter (is_of s) cs ≡ []
      go [] in_all = refl
      go (c ∷ cs) in_all =
          test (is_of s c) refl (go cs (λ d one. in_all d (later_one c cs d one)))
        where
          test : (t : Bool) → is_of s c ≡ t → filter (is_of s) cs ≡ []
              → cond t (c ∷ filter (is_of s) cs) (filter (is_of s) cs) ≡ []
          test false e rest = rest
          test true e rest =
              let a = true_book.listed c (in_all c (0, omega arith, refl)) in
              absurd (none a.1 (a.0, a.2, a.3) (a.4 ∙ sym (streams_same s c.key.stream e)))

  pub known_end : (c : Chunk) → Contains (found K) c
      → end_in c.key.start b.ends c.key.stream ≡ archived_end K.upto c.key.stream
  known_end c one = go b.ends (λ e k. k) (λ e k is. k)
    where
      s : Stream
      s = c.key.stream

      go : (es : List End) → ((e : End) → Contains es e → Contains b.ends e)
          → ((e : End) → Contains b.ends e → e.stream ≡ s → Contains es e)
          → end_in c.key.start es s ≡ archived_end K.upto s
      go [] in_all all =
          let none = no_chunks s (λ e k is. none_in e (all e k is)) in
          let end = then_run s in
          let empty : length (values (Then s)) ≡ 0 = ap (λ l. length (values l)) none in
          let start = (founded c one).is_true.start in
          omega (arith, end, empty, start)
      go (e ∷ es) in_all all =
          test (same_stream s e.stream) refl
          (λ rest. go es (λ f k. in_all f (later_one e es f k)) rest)
        where
          apart : same_stream s e.stream ≡ false → (f : End) → Contains (e ∷ es) f → f.stream ≡ s → Contains es f
          apart is f (zero, low, at) same =
              absurd (true≢false (sym (stream_self s)
              ∙ (ap (same_stream s) (sym same ∙ ap (λ (x : End). x.stream) (sym at)) ∙ is)))
          apart is f (suc k, low, at) same = (k, omega (arith, low), at)

          test : (t : Bool) → same_stream s e.stream ≡ t
              → (((f : End) → Contains b.ends f → f.stream ≡ s → Contains es f)
              → end_in c.key.start es s ≡ archived_end K.upto s)
              → (if t then e.end else end_in c.key.start es s) ≡ archived_end K.upto s
          test true is rest =
              listed_end e (in_all e (0, omega arith, refl))
              ∙ ap (archived_end K.upto) (sym (streams_same s e.stream is))
          test false is rest = rest (λ f k same. apart is f (all f k same) same)
