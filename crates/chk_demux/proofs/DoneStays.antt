-- A demux run that was done stays so while the job sees the same.
use Rattle.std.proofs.Common.{◌≡◌, ◌⊎◌, inl, inr, ℕ, ◌+◌, true, List, [], ◌∷◌, map, ap, sym, subst, ◌∙◌, refl}
use Rattle.std.specs.Prelude.{Contains, filter}
use Rattle.chk_site.specs.History.{History, files_after}
use Rattle.chk_chunk.specs.Keys.{Stream, Chunk, is_of}
use Rattle.chk_world.specs.Names.{Folder, ArchiveFolder, DemuxFolder}
use Rattle.chk_world.specs.Books.{End, values}
use Rattle.chk_world.specs.Rules.{Legal}
use Rattle.chk_world.specs.Sight.{Sight, sight, own_book, own_chunks}
use Rattle.chk_world.specs.Splits.{record_in, split}
use Rattle.chk_world.specs.Streams.{start_of}
use Rattle.chk_world.proofs.NameTests.{streams_same}
use Rattle.chk_world.proofs.Each.{Each, each_at, filter_each, filter_in, first_in}
use Rattle.chk_world.proofs.BooksTrue.{books_stay_true, has_start_is}
use Rattle.chk_demux.specs.Demuxed.{Earlier, all_named, OneMore, HasKey, DemuxDone}
use Rattle.chk_demux.specs.Writes.{bytes_of}
use Rattle.chk_demux.specs.declared.report.DemuxReport.{DemuxReport}
use Rattle.chk_demux.proofs.Prefixes.{split_none}
use Rattle.chk_demux.proofs.Started.{named_known}

-- two legal histories of which the job sees the same
module _ (stamped : List (List ℕ)) (h g : History) (legal : Legal stamped h) (after : Legal stamped g) (same : sight g ≡ sight h) where
  named_same : (folder : Folder) → all_named (files_after g) folder ≡ all_named (files_after h) folder
  named_same folder =
      sym (named_known stamped g after folder)
      ∙ (ap (λ (v : Sight). own_chunks v folder (own_book v folder).segments) same ∙ named_known stamped h legal folder)

  abbrev Archived : Stream → List Chunk
  Archived s = filter (is_of s) (all_named (files_after h) ArchiveFolder)

  -- a stream without an archive has no records, and one with an archive has begun with one start
  starts_same : (s : Stream) → (Archived s ≡ []) ⊎ (start_of h s ≡ start_of g s)
  starts_same s = go (Archived s) refl
    where
      go : (l : List Chunk) → Archived s ≡ l → (Archived s ≡ []) ⊎ (start_of h s ≡ start_of g s)
      go [] is = inl is
      go (c ∷ l) is =
          let passed : Contains (Archived s) c = first_in (Archived s) c l is in
          let of = each_at (λ (c : Chunk). is_of s c ≡ true) (Archived s) c
          (filter_each (is_of s) (all_named (files_after h) ArchiveFolder)) passed in
          let true_now = books_stay_true stamped h legal ArchiveFolder in
          let true_then = books_stay_true stamped g after ArchiveFolder in
          let k = true_now.listed c (filter_in (is_of s) (all_named (files_after h) ArchiveFolder) c passed) in
          let e : End = k.1 in
          let one : Contains (own_book (sight h) ArchiveFolder).ends e = (k.0, k.2, k.3) in
          let stream : e.stream ≡ s = k.4 ∙ sym (streams_same s c.key.stream of) in
          let now = has_start_is h e (true_now.starts e one) in
          let later = has_start_is g e (true_then.starts e
          (subst (λ (v : Sight). Contains (own_book v ArchiveFolder).ends e) (sym same) one)) in
          inr (subst (λ t. start_of h t ≡ start_of g t) stream (sym now ∙ later))

  splits_same : (s : Stream) → split stamped s (start_of h s) (values (Archived s)) ≡ split stamped s (start_of g s) (values (Archived s))
  splits_same s = go (starts_same s)
    where
      go : (Archived s ≡ []) ⊎ (start_of h s ≡ start_of g s)
          → split stamped s (start_of h s) (values (Archived s)) ≡ split stamped s (start_of g s) (values (Archived s))
      go (inl none) =
          ap (λ l. split stamped s (start_of h s) (values l)) none
          ∙ (split_none stamped s (start_of h s)
          ∙ sym (ap (λ l. split stamped s (start_of g s) (values l)) none ∙ split_none stamped s (start_of g s)))
      go (inr is) = ap (λ n. split stamped s n (values (Archived s))) is

  pub done_stays : (before : Earlier) (r : DemuxReport) → DemuxDone stamped before r h → DemuxDone stamped before r g
  done_stays before r d = record {
    all = λ s.
        ap (λ l. map record_in (filter (is_of s) l)) (named_same DemuxFolder)
        ∙ (d.all s
        ∙ (splits_same s
        ∙ ap (λ l. split stamped s (start_of g s) (values (filter (is_of s) l))) (sym (named_same ArchiveFolder))));
    added = d.added;
    are = named_same DemuxFolder ∙ d.are;
    segments = subst (λ (v : Sight). OneMore before.segments d.added (own_book v DemuxFolder).segments) (sym same) d.segments;
    number = d.number;
    order = d.order;
    keys = subst (λ l. Each (HasKey l) d.added) (sym (named_same ArchiveFolder)) d.keys;
    taken = d.taken;
    entries = d.entries;
    left =
        ap (λ l. r.left + bytes_of l) (named_same DemuxFolder)
        ∙ (d.left ∙ ap bytes_of (sym (named_same ArchiveFolder)));
  }
