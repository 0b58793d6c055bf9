-- The book that names the merged segment alone may be published.
use Rattle.std.proofs.Common.{◌≡◌, ◌⊎◌, inl, inr, ℕ, zero, suc, ◌+◌, List, [], ◌∷◌, length, Some, None, ap, sym, subst, ◌∙◌, refl, arith, append-nil}
use Rattle.std.specs.Prelude.{IsTrue, Any, Contains, flat_map}
use Rattle.std.proofs.lemmas.List.Elements.{Contains-append_left, Contains-append_right}
use Rattle.chk_bytes.specs.Stems.{is_count}
use Rattle.chk_site.specs.Files.{File, Files}
use Rattle.chk_site.specs.History.{History, files_after}
use Rattle.chk_chunk.specs.Keys.{Stream, is_of, same_data, chunk_limit}
use Rattle.chk_world.specs.Names.{ArchiveFolder, SegmentFile, file}
use Rattle.chk_world.specs.Books.{Segment, End, Book, book_of, AllChunks, chunks_in, chunks_within, chunks_named, chunks_of_stream, segment_chunks, values, aside_in}
use Rattle.chk_world.specs.Committed.{HasFile, aside_chunks}
use Rattle.chk_world.specs.ArchiveRuns.{in_order}
use Rattle.chk_world.specs.Jobs.{Run, IsSoundSegment, BookNamesSyncedSegments, Grows, ArchiveGrowsByParts, segment_list, aside_after, chunks_after, NewBook}
use Rattle.chk_world.specs.Rules.{Legal}
use Rattle.chk_world.specs.Sight.{Sight, sight, own_book, own_chunks}
use Rattle.chk_world.proofs.Each.{filter_in, passes_in}
use Rattle.chk_world.proofs.Segments.{flat_same, data_self}
use Rattle.chk_archive_parts.proofs.OneSegment.{segment_spelled, segment_own, some_has}
use Rattle.chk_archive.specs.FolderNames.{names_segment}
use Rattle.chk_archive_parts.specs.Publishing.{IsPublished, MayFollow}
use Rattle.chk_archive_parts.proofs.InTurn.{from_both}
use Rattle.chk_record_reader.proofs.BothLimits.{limits_agree}
use Rattle.chk_archive.proofs.MergeFacts.{facts, true_book, counted}
use Rattle.chk_world.proofs.Rounds.{stream_self}

-- the archive has this book, no other segments than the book's and the next one, and that one has
-- all records of the named ones, each stream's in its order, stream after stream; the new book names it alone
pub record IsMergedFor (b new : Book) (u : Sight) : Type 0 where
  pub book : own_book u ArchiveFolder ≡ b
  pub strays : (k : ℕ) → IsTrue (is_count k)
      → (u.own (SegmentFile ArchiveFolder k) ≡ None) ⊎ ((k ≡ b.next) ⊎ IsTrue (names_segment b k))
  pub f : File
  pub there : u.own (SegmentFile ArchiveFolder b.next) ≡ Some f
  pub synced : f.synced ≡ length f.bytes
  pub sound : AllChunks chunk_limit f.bytes
  pub same : (s : Stream) → chunks_of_stream s (chunks_within chunk_limit f.bytes)
      ≡ chunks_of_stream s (own_chunks u ArchiveFolder b.segments)
  pub in_turn : chunks_within chunk_limit f.bytes ≡ in_order (own_chunks u ArchiveFolder b.segments)
  pub counts : (k : Segment) → Contains b.segments k → IsTrue (is_count k.number)
  pub next : new.next ≡ b.next + 1
  pub alone : new.segments ≡ record { number = b.next; length = length f.bytes } ∷ []
  pub ends : new.ends ≡ b.ends
  pub aside : new.aside ≡ b.aside

only_one : {X : Type 0} (x y : X) → Contains (x ∷ []) y → x ≡ y
only_one x y (zero, low, at) = at
only_one x y (suc k, low, at) = absurd (let z : ⊥ = omega (arith, low) in z)

module _ (stamped : List (List ℕ)) (h : History) (legal : Legal stamped h) (b : Book)
    (book : book_of (files_after h) ArchiveFolder ≡ b) where
  -- what the job knows of the named segments is what they hold
  pub known_chunks : own_chunks (sight h) ArchiveFolder b.segments ≡ chunks_named (files_after h) ArchiveFolder b
  known_chunks =
      flat_same (λ (g : Segment). chunks_in ((sight h).own (SegmentFile ArchiveFolder g.number)))
      (segment_chunks (files_after h) ArchiveFolder) b.segments
      (λ g one.
      ap chunks_in
      (segment_own h g.number (counted stamped h legal b book g (Contains-append_left b.segments (segment_list b.aside) g one))
      ∙ ap (files_after h) (segment_spelled g.number)))

module _ (stamped : List (List ℕ)) (b new : Book) (u : Sight) (m : IsMergedFor b new u) (h : History)
    (legal : Legal stamped h) (p : IsPublished ArchiveFolder u (own_book u ArchiveFolder) (sight h)) where
  abbrev F : Files
  F = files_after h

  book_now : book_of F ArchiveFolder ≡ b
  book_now = p.book ∙ m.book

  abbrev G : Segment
  G = record { number = b.next; length = length m.f.bytes }

  old : BookNamesSyncedSegments ArchiveFolder h b
  old = true_book stamped h legal b book_now

  there : file F (SegmentFile ArchiveFolder b.next) ≡ Some m.f
  there =
      ap F (sym (segment_spelled b.next))
      ∙ (sym (segment_own h b.next (facts stamped h legal b book_now).count)
      ∙ (p.own (SegmentFile ArchiveFolder b.next) refl ∙ m.there))

  named : chunks_named F ArchiveFolder new ≡ chunks_within chunk_limit m.f.bytes
  named =
      ap (flat_map (segment_chunks F ArchiveFolder)) m.alone
      ∙ (append-nil (segment_chunks F ArchiveFolder G)
      ∙ (ap chunks_in there ∙ limits_agree m.f.bytes m.sound))

  own_same : own_chunks u ArchiveFolder b.segments ≡ own_chunks (sight h) ArchiveFolder b.segments
  own_same =
      flat_same (λ (g : Segment). chunks_in (u.own (SegmentFile ArchiveFolder g.number)))
      (λ (g : Segment). chunks_in ((sight h).own (SegmentFile ArchiveFolder g.number))) b.segments
      (λ g one. ap chunks_in (sym (p.own (SegmentFile ArchiveFolder g.number) refl)))

  same_stream : (s : Stream) → chunks_of_stream s (chunks_named F ArchiveFolder new)
      ≡ chunks_of_stream s (chunks_named F ArchiveFolder b)
  same_stream s =
      ap (chunks_of_stream s) named
      ∙ (m.same s ∙ ap (chunks_of_stream s) (own_same ∙ known_chunks stamped h legal b book_now))

  same_aside : aside_after h new ≡ aside_chunks F
  same_aside = ap (aside_in F ArchiveFolder) m.aside ∙ ap (λ (c : Book). aside_in F ArchiveFolder c.aside) (sym book_now)

  is_sound : HasFile (file F (SegmentFile ArchiveFolder G.number)) (IsSoundSegment ArchiveFolder G)
  is_sound =
      some_has (file F (SegmentFile ArchiveFolder b.next)) (IsSoundSegment ArchiveFolder G) m.f there
      (record { length_is = refl; synced_is = m.synced; chunks = m.sound })

  names : BookNamesSyncedSegments ArchiveFolder h new
  names = record {
    sound = λ g one. elim (from_both new.segments (segment_list new.aside) g one) [
      | inl k ↦ subst (λ (x : Segment). HasFile (file F (SegmentFile ArchiveFolder x.number)) (IsSoundSegment ArchiveFolder x))
          (only_one G g (subst (λ l. Contains l g) m.alone k)) is_sound
      | inr k ↦ old.sound g (Contains-append_right b.segments (segment_list b.aside) g
          (subst (λ o. Contains (segment_list o) g) m.aside k))
    ];
    listed = λ c one.
        let s = c.key.stream in
        let mine : Contains (chunks_of_stream s (chunks_named F ArchiveFolder new)) c =
        passes_in (is_of s) (chunks_named F ArchiveFolder new) c one (stream_self s) in
        let there_too : Contains (chunks_of_stream s (chunks_named F ArchiveFolder b)) c =
        subst (λ l. Contains l c) (same_stream s) mine in
        subst (Any (λ (e : End). e.stream ≡ s)) (sym m.ends)
        (old.listed c (filter_in (is_of s) (chunks_named F ArchiveFolder b) c there_too));
    ends = λ e one.
        subst (λ cs. Run e.start e.start cs e.end) (sym (same_stream e.stream))
        (old.ends e (subst (λ l. Contains l e) m.ends one));
    starts = λ e one. old.starts e (subst (λ l. Contains l e) m.ends one);
  }

  grows : (s : Stream) → Grows h s (chunks_after h new s)
  grows s = record {
    old = chunks_after h new s;
    parts = [];
    are = sym (append-nil (chunks_after h new s));
    same = ap values (same_stream s)
        ∙ ap (λ (c : Book). values (chunks_of_stream s (chunks_named F ArchiveFolder c))) (sym book_now);
    new = tt;
  }

  by_parts : ArchiveGrowsByParts h new
  by_parts = record {
    each = grows;
    aside_new = λ c one. inr (subst (λ l. Contains l c) same_aside one);
    aside_old = λ c one. inl
        (subst (Any (λ d. IsTrue (same_data c d))) (sym same_aside) (one.0, c, one.1, one.2, data_self c));
  }

  pub merged_new : NewBook stamped ArchiveFolder h new
  merged_new = (names, by_parts)

pub merged_may : (stamped : List (List ℕ)) (b new : Book) (u : Sight) → IsMergedFor b new u → MayFollow stamped ArchiveFolder u new
merged_may stamped b new u m h legal p = merged_new stamped b new u m h legal p
