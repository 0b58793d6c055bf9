-- A book of parts may follow.
use Rattle.std.proofs.Common.{◌≡◌, ◌⊎◌, inl, inr, ℕ, zero, suc, ◌≤◌, true, not, List, [], ◌∷◌, ap, sym, subst, ◌∙◌, arith}
use Rattle.std.specs.Prelude.{IsTrue, Any, Contains, filter}
use Rattle.chk_site.specs.History.{History, files_after}
use Rattle.chk_chunk.specs.Keys.{Stream, Chunk, chunk_end, is_of, same_data}
use Rattle.chk_world.specs.Names.{ArchiveFolder}
use Rattle.chk_world.specs.Books.{End, Book, book_of, chunks_named, chunks_of_stream, values}
use Rattle.chk_world.specs.Streams.{founding, start_at, start_of}
use Rattle.chk_world.specs.Committed.{aside_chunks, archived_end}
use Rattle.chk_world.specs.ArchiveRuns.{once}
use Rattle.chk_world.specs.Jobs.{Run, HasStart, IsSource, Grows, BookNamesSyncedSegments, NewBook, chunks_after, end_after, aside_after}
use Rattle.chk_world.specs.Rules.{Legal}
use Rattle.chk_world.proofs.NameTests.{streams_same}
use Rattle.chk_world.proofs.Ends.{bytes_self}
use Rattle.chk_world.proofs.StaysTrue.{IsFoundedChunk}
use Rattle.chk_world.proofs.KeptTrue.{source_true}
use Rattle.chk_archive_plan.specs.Plan.{parts_from, reached_from, ends_of, is_past, set_aside}
use Rattle.chk_world.specs.TrueBooks.{HasBytes}
use Rattle.chk_archive_plan.specs.NextBooks.{NamesParts, AreFound}
use Rattle.chk_world.proofs.Each.{Each, each_from, each_filter, each_both, each_as, each_at, filter_each, filter_in, later_one}
use Rattle.chk_archive_plan.proofs.Parts.{MayTake, StartsAt, are_parts, parts_run, run_then, ends_at, stream_self}
use Rattle.chk_world.proofs.BooksTrue.{books_stay_true, has_start_is, archives_run, run_length, each_named}

-- ---- the new book

module _ (stamped : List (List ℕ)) (history : History) (legal : Legal stamped history) (old : Book)
    (is_old : book_of (files_after history) ArchiveFolder ≡ old) (new : Book) (cs : List Chunk)
    (found : AreFound history cs) (n : NamesParts history old new cs) where
  -- of one stream
  may_take : (s : Stream) → Each (MayTake (files_after history) s) (filter (is_of s) cs)
  may_take s =
      each_as (λ c. IsSource (files_after history) c × (is_of s c ≡ true))
      (MayTake (files_after history) s) (filter (is_of s) cs)
      (λ c h. record { source = h.0; of = h.1 })
      (each_both (IsSource (files_after history)) (λ c. is_of s c ≡ true) (filter (is_of s) cs)
      (each_filter (IsSource (files_after history)) (is_of s) cs
      (each_from (IsSource (files_after history)) cs found.source)) (filter_each (is_of s) cs))

  true_start : (c : Chunk) → Contains cs c → c.key.start ≡ start_of history c.key.stream
  true_start c one = let t : IsFoundedChunk history c = source_true stamped history legal c
      (found.source c one) in t.is_true.start

  starts_at : (s : Stream) → Each (StartsAt (start_of history s)) (filter (is_of s) cs)
  starts_at s =
      each_from (StartsAt (start_of history s)) (filter (is_of s) cs) (λ c one.
      let there = filter_in (is_of s) cs c one in
      let of = each_at (λ c. is_of s c ≡ true) (filter (is_of s) cs) c
      (filter_each (is_of s) cs) one in
      record {
        start_is = true_start c there ∙ ap (start_of history)
            (sym (streams_same s c.key.stream of));
        bytes = found.bytes c there;
      })

  pub grows : (s : Stream) → Grows history s (chunks_after history new s)
  grows s = record {
    old = chunks_of_stream s (chunks_named (files_after history) ArchiveFolder old);
    parts = parts_from (archived_end history s) (filter (is_of s) cs);
    are = n.chunks s;
    same = ap (λ b. values (chunks_of_stream s
        (chunks_named (files_after history) ArchiveFolder b))) (sym is_old);
    new = are_parts (files_after history) s (archived_end history s) (filter (is_of s) cs)
        (may_take s);
  }

  pub runs : (s : Stream) → Run (start_of history s) (start_of history s)
      (chunks_after history new s) (reached_from (archived_end history s) (filter (is_of s) cs))
  runs s =
      let st = start_of history s in
      let to = reached_from (archived_end history s) (filter (is_of s) cs) in
      let before : Run st st (chunks_of_stream s
      (chunks_named (files_after history) ArchiveFolder old)) (archived_end history s) =
      subst (λ b. Run st st (chunks_of_stream s
      (chunks_named (files_after history) ArchiveFolder b)) (archived_end history s)) is_old
      (archives_run stamped history legal s) in
      subst (λ l. Run st st l to) (sym (n.chunks s))
      (run_then st st (archived_end history s) to
      (chunks_of_stream s (chunks_named (files_after history) ArchiveFolder old))
      (parts_from (archived_end history s) (filter (is_of s) cs)) before
      (parts_run st (archived_end history s) (filter (is_of s) cs) (starts_at s)))

  pub start_has : (e : End) → Contains new.ends e → HasStart ArchiveFolder history e
  start_has e one = elim (n.starts e one) [
    | inl h ↦
        let f : End = h.1 in
        let t : BookNamesSyncedSegments ArchiveFolder history old =
        subst (BookNamesSyncedSegments ArchiveFolder history) is_old
        (books_stay_true stamped history legal ArchiveFolder) in
        let was : HasStart ArchiveFolder history f = t.starts f (h.0, h.2, h.3) in
        (was.0, ap (founding history) (sym h.4.0) ∙ was.1, sym h.4.1 ∙ was.2)
    | inr h ↦
        let t : IsFoundedChunk history h.1 = source_true stamped history legal h.1
        (found.source h.1 (h.0, h.2, h.3)) in (
          t.first,
          ap (founding history) (sym h.4.0) ∙ t.founded,
          sym h.4.1 ∙
              (t.is_true.start ∙ ap start_at t.founded),
        )
  ]

  pub start_so : (e : End) → Contains new.ends e → e.start ≡ start_of history e.stream
  start_so e one = has_start_is history e (start_has e one)

  pub names_synced : BookNamesSyncedSegments ArchiveFolder history new
  names_synced = record {
    sound = n.sound;
    listed = n.listed;
    ends = λ e one.
        let s = e.stream in
        subst (Run e.start e.start (chunks_after history new s)) (sym (n.ends e one))
        (subst (λ st. Run st st (chunks_after history new s)
        (reached_from (archived_end history s) (filter (is_of s) cs))) (sym (start_so e one))
        (runs s));
    starts = λ e one. start_has e one;
  }

  -- the end of each stream's archive
  pub end_is : (s : Stream) → end_after history new s ≡ ends_of (archived_end history) cs s
  end_is s =
      run_length (start_of history s) (start_of history s) (chunks_after history new s)
      (reached_from (archived_end history s) (filter (is_of s) cs))
      (each_filter HasBytes (is_of s) (chunks_named (files_after history) ArchiveFolder new)
      (each_named (files_after history) ArchiveFolder new)) (runs s)
      ∙ sym (ends_at (archived_end history) cs s)

  -- the book may be published where each chunk that was set aside stays so or is archived
  pub book_may : ((c : Chunk) → Contains (aside_after history new) c → IsSource
      (files_after history) c)
      → ((c : Chunk) → Contains (aside_chunks (files_after history)) c
      → Any (λ d. IsTrue (same_data c d)) (aside_after history new) ⊎
      (chunk_end c ≤ ends_of (archived_end history) cs c.key.stream))
      → NewBook stamped ArchiveFolder history new
  book_may aside_new aside_old = (
    names_synced,
    record {
      each = grows;
      aside_new = aside_new;
      aside_old = λ c one. elim (aside_old c one) [
        | inl kept ↦ inl kept
        | inr low ↦ inr (subst (λ m. chunk_end c ≤ m) (sym (end_is c.key.stream)) low)
      ];
    },
  )

-- ---- what is set aside

pub once_in : (cs : List Chunk) (c : Chunk) → Contains (once cs) c → Contains cs c
once_in [] c one = one
once_in (d ∷ cs) c (zero, below, at) = (0, omega arith, at)
once_in (d ∷ cs) c (suc k, below, at) =
    later_one d cs c (once_in cs c (filter_in (λ x. not (same_data d x)) (once cs) c
    (k, omega (arith, below), at)))

-- the part of the aside segment that comes from the pass are chunks that were found
pub aside_found : (ends : Stream → ℕ) (cs : List Chunk) (c : Chunk) → Contains (set_aside ends cs) c
    → Contains cs c
aside_found ends cs c one = filter_in (is_past ends) cs c (once_in (filter (is_past ends) cs) c one)
