-- The book with the new records' segment may be published.
use Rattle.std.proofs.Common.{◌≡◌, inl, inr, ℕ, zero, suc, Bool, true, false, List, [], ◌∷◌, ◌++◌, Option, Some, None, map, ap, sym, subst, ◌∙◌, arith, append-nil, if◌then◌else◌}
use Rattle.std.specs.Prelude.{Contains, filter}
use Rattle.std.proofs.lemmas.Grind.{flat_map-append}
use Rattle.std.proofs.lemmas.List.{map-append}
use Rattle.std.proofs.lemmas.List.Elements.{filter-append, Contains-append_cases, Contains-append_left, Contains-append_right}
use Rattle.std.proofs.lemmas.Option.{none-some}
use Rattle.chk_bytes.specs.Stems.{is_count}
use Rattle.chk_site.specs.Files.{File}
use Rattle.chk_site.specs.History.{History, files_after}
use Rattle.chk_chunk.specs.Keys.{Stream, Chunk, is_of}
use Rattle.chk_world.specs.Names.{ArchiveFolder, DemuxFolder, SegmentFile, file}
use Rattle.chk_world.specs.Books.{Segment, End, Book, chunks_in, segment_chunks, chunks_named}
use Rattle.chk_world.specs.Committed.{HasFile}
use Rattle.chk_world.specs.Jobs.{IsSoundSegment, Run, BookNamesSyncedSegments, HasStart, NewBook, RecordsAreASplit, all_segments, segment_list}
use Rattle.chk_world.specs.Rules.{Legal}
use Rattle.chk_world.specs.Sight.{sight}
use Rattle.chk_world.specs.Splits.{record_in, records_named}
use Rattle.chk_world.specs.Streams.{founding, start_of}
use Rattle.chk_world.proofs.Each.{each_at, each_from, passes_in}
use Rattle.chk_world.proofs.BooksTrue.{has_start_is}
use Rattle.chk_record_index.specs.Heads.{Head}
use Rattle.chk_archive_plan.proofs.Parts.{stream_self}
use Rattle.chk_book.specs.Segmenting.{raised_all, with_segment}
use Rattle.chk_demux.specs.Demuxed.{NamesStamped}
use Rattle.chk_demux.specs.Writes.{HoldsChunks}
use Rattle.chk_demux.proofs.NewRecords.{A, D, archived, olds, outs, own_chunks, archive_true, records_true, archive_sorted, records_sorted, whole_run, whole_split, new_listed, start_same}
use Rattle.chk_archive_parts.proofs.EndsInOrder.{Has, has_any, any_has}
use Rattle.chk_demux.proofs.SortedEnds.{EndOf, just_of}
use Rattle.chk_demux.proofs.Ordered.{of_stream}
use Rattle.chk_demux.proofs.RaisedEnds.{Fits, RunsIn, all_fit}

shown_file : (t : Bool) (o : Option File) (f : File) → (if t then o else None) ≡ Some f → o ≡ Some f
shown_file true o f e = e
shown_file false o f e = absurd (none-some f e)

only : (f g : Segment) → Contains (f ∷ []) g → f ≡ g
only f g (zero, low, at) = at
only f g (suc k, low, at) = absurd (let z : ⊥ = omega (arith, low) in z)

module _ (stamped types : List (List ℕ)) (named : NamesStamped stamped types) (history : History)
    (legal : Legal stamped history) (heads : List Head) where
  abbrev News : List Chunk
  News = outs stamped types named history legal heads

  abbrev Olds : List Chunk
  Olds = olds stamped types named history legal heads

  abbrev Old : Book
  Old = D stamped types named history legal heads

  abbrev All : List Chunk
  All = archived stamped types named history legal heads

  abbrev Archive : Book
  Archive = A stamped types named history legal heads

  archive_book : BookNamesSyncedSegments ArchiveFolder history Archive
  archive_book = archive_true stamped types named history legal heads

  old_book : BookNamesSyncedSegments DemuxFolder history Old
  old_book = records_true stamped types named history legal heads

  -- ---- the ends

  old_fits : Fits history Olds Old.ends
  old_fits = record {
    sorted = records_sorted stamped types named history legal heads;
    ends = each_from _ Old.ends (λ e one. (old_book.ends e one, old_book.starts e one));
    listed = each_from _ Olds (λ c one. has_any c.key.stream Old.ends (old_book.listed c one));
  }

  -- a new record has its stream's start
  starts_so : (c : Chunk) → Contains News c → (k : EndOf c.key.stream Archive.ends) → c.key.start ≡ k.end.start
  starts_so c one k =
      let e = k.end in
      let passed : Contains (filter (is_of c.key.stream) News) c =
      passes_in (is_of c.key.stream) News c one (stream_self c.key.stream) in
      let are : filter (is_of e.stream) News ≡ own_chunks stamped types named history legal heads e =
      just_of (own_chunks stamped types named history legal heads) (λ e. of_stream heads e _) Archive.ends
      (archive_sorted stamped types named history legal heads) e k.one in
      each_at (λ (c : Chunk). c.key.start ≡ e.start) (own_chunks stamped types named history legal heads e) c
      (start_same heads e _)
      (subst (λ l. Contains l c) are (subst (λ s. Contains (filter (is_of s) News) c) (sym k.is) passed))

  runs_in : (c : Chunk) → Contains News c → RunsIn history (Olds ++ News) c
  runs_in c one =
      let k = new_listed stamped types named history legal heads c one in
      let e = k.end in
      let start = starts_so c one k in
      let run = whole_run stamped types named history legal heads e k.one in
      let has = archive_book.starts e k.one in
      record {
        to = run.0;
        run = subst (λ s. Run c.key.start c.key.start (filter (is_of s) (Olds ++ News)) run.0) k.is
            (subst (λ n. Run n n (filter (is_of e.stream) (Olds ++ News)) run.0) (sym start) run.1);
        start = (has.0, ap (founding history) (sym k.is) ∙ has.1, start ∙ has.2);
      }

  fits : Fits history (Olds ++ News) (raised_all News Old.ends)
  fits = all_fit history Olds News Old.ends old_fits (each_from (RunsIn history (Olds ++ News)) News runs_in)

  -- ---- where the next segment holds the new records

  module _ (g : Segment) (holds : HoldsChunks (sight history) g News) where
    abbrev New : Book
    New = with_segment Old g News

    new_file : file (files_after history) (SegmentFile DemuxFolder g.number) ≡ Some holds.file
    new_file = shown_file (is_count g.number) (file (files_after history) (SegmentFile DemuxFolder g.number)) holds.file holds.there

    named_now : chunks_named (files_after history) DemuxFolder New ≡ Olds ++ News
    named_now =
        flat_map-append (segment_chunks (files_after history) DemuxFolder) Old.segments (g ∷ [])
        ∙ ap (λ l. Olds ++ l)
        (append-nil (segment_chunks (files_after history) DemuxFolder g) ∙ (ap chunks_in new_file ∙ holds.is.are))

    abbrev Sound : Segment → Type 0
    Sound x = HasFile (file (files_after history) (SegmentFile DemuxFolder x.number)) (IsSoundSegment DemuxFolder x)

    new_sound : Sound g
    new_sound =
        subst (λ o. HasFile o (IsSoundSegment DemuxFolder g)) (sym new_file)
        (record { length_is = sym holds.size; synced_is = holds.synced ∙ sym holds.size; chunks = holds.is.form })

    all_sound : (x : Segment) → Contains (all_segments New) x → Sound x
    all_sound x one = elim (Contains-append_cases (Old.segments ++ g ∷ []) (segment_list Old.aside) x one) [
      | inr aside ↦ old_book.sound x (Contains-append_right Old.segments (segment_list Old.aside) x aside)
      | inl listed ↦ elim (Contains-append_cases Old.segments (g ∷ []) x listed) [
        | inl old ↦ old_book.sound x (Contains-append_left Old.segments (segment_list Old.aside) x old)
        | inr last ↦ subst Sound (only g x last) new_sound
      ]
    ]

    names : BookNamesSyncedSegments DemuxFolder history New
    names = record {
      sound = all_sound;
      listed = λ c one.
          any_has c.key.stream New.ends
          (each_at (λ (c : Chunk). Has c.key.stream New.ends) (Olds ++ News) c fits.listed
          (subst (λ l. Contains l c) named_now one));
      ends = λ e one.
          subst (λ l. Run e.start e.start (filter (is_of e.stream) l) e.end) (sym named_now)
          (each_at (λ (e : End). Run e.start e.start (filter (is_of e.stream) (Olds ++ News)) e.end
          × HasStart DemuxFolder history e) New.ends e fits.ends one).0;
      starts = λ e one.
          (each_at (λ (e : End). Run e.start e.start (filter (is_of e.stream) (Olds ++ News)) e.end
          × HasStart DemuxFolder history e) New.ends e fits.ends one).1;
    }

    splits : (s : Stream) → RecordsAreASplit stamped history New s
    splits s =
        let whole = whole_split stamped types named history legal heads s (start_of history s)
        (λ e one is. has_start_is history e (archive_book.starts e one) ∙ ap (start_of history) is) in
        let now : records_named (files_after history) New s ≡ map record_in (filter (is_of s) (Olds ++ News)) =
        ap (λ l. map record_in (filter (is_of s) l)) named_now in
        record {
          on = (
            map record_in (filter (is_of s) News),
            now ∙ (ap (map record_in) (filter-append (is_of s) Olds News)
                ∙ map-append record_in (filter (is_of s) Olds) (filter (is_of s) News)),
          );
          are = ([], sym (append-nil (records_named (files_after history) New s) ∙ (now ∙ whole)));
        }

    pub may_publish : NewBook stamped DemuxFolder history New
    may_publish = (names, splits)
