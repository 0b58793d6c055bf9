-- Records that are written in turn, and what they are in the end.
use Rattle.std.proofs.Common.{◌≡◌, ℕ, ◌+◌, ◌<◌, List, [], ◌∷◌, ◌++◌, length, map, get_or, set, refl, sym, ◌∙◌, ap, arith}
use Rattle.std.specs.Prelude.{filter}
use Rattle.std.proofs.lemmas.List.{map-append}
use Rattle.chk_site.specs.Files.{Files}
use Rattle.chk_site.specs.History.{History}
use Rattle.chk_chunk.specs.Keys.{Chunk}
use Rattle.chk_seqfile.specs.Entries.{Placed}
use Rattle.chk_world.specs.Books.{End}
use Rattle.chk_world.proofs.Each.{Each}
use Rattle.chk_world.proofs.BooksTrue.{each_append}
use Rattle.chk_record_index.specs.Heads.{Head, head_of}
use Rattle.chk_record_index.specs.Order.{in_head_order}
use Rattle.chk_record_index.specs.Pieces.{bytes_in}
use Rattle.chk_book.specs.declared.segmenter.Segmenter.{Segmenter}
use Rattle.chk_book.specs.Segmenting.{Writing}
use Rattle.chk_book.specs.Written.{taken}
use Rattle.chk_record_reader.specs.Archives.{chunk_in}
use Rattle.chk_record_reader.specs.Checking.{AllGoWell}
use Rattle.chk_record_reader.specs.OnePass.{end_at}
use Rattle.chk_record_reader.specs.ReadBack.{value_at}
use Rattle.chk_record_reader.specs.Segments.{IsSound, heads_from}
use Rattle.chk_record_reader.proofs.OnePass.{AreRising}
use Rattle.chk_archive_merge.specs.declared.cursor.Cursor.{Cursor}
use Rattle.chk_archive_merge.specs.declared.tour.Tour.{Tour}
use Rattle.chk_archive_merge.specs.declared.tour.Turn.TheVariants as turn
use Rattle.chk_archive_merge.specs.Cursors.{StandsBehind, IsNext}
use Rattle.chk_archive_merge.specs.Merges.{CanPut, IsBehind, IsMerging}
use Rattle.chk_archive_merge.specs.Sides.{is_in, IsSide, AreSides}
use Rattle.chk_archive_merge.specs.Tours.{IsToured, IsTurn, GoesFurther}
use Rattle.chk_archive_merge.proofs.Blocks.{rise}
use Rattle.chk_archive_merge.proofs.FileOrder.{merged_heads}
use Rattle.chk_archive_merge.proofs.Sides.{side_at, side_more, sides_more, sides_ended}
use Rattle.chk_archive_merge.proofs.Touring.{head_more, all_toured, next_goes}

module _ (most : ℕ) (names : List (List ℕ)) (held : Files) (es : List End) where
  -- before the first one
  pub merging_begins : (t : Tour) (cs : List Cursor) (w : Writing) (h : History) → CanPut names held w h → w.chunks ≡ []
      → IsToured es t [] → AreSides most held 0 names cs [] → IsMerging most names held es t cs w h
  merging_begins t cs w h can none toured sides = record {
    can = can;
    heads = [];
    chunks = none;
    toured = toured;
    sides = sides;
    within = tt;
  }

  -- the tour goes on without one
  pub merging_further : (t u : Tour) (cs : List Cursor) (w : Writing) (h : History) → GoesFurther es t u → IsMerging most names held es t cs w h
      → IsMerging most names held es u cs w h
  merging_further t u cs w h further m = record {
    can = m.can;
    heads = m.heads;
    chunks = m.chunks;
    toured = further.same m.heads m.toured;
    sides = m.sides;
    within = m.within;
  }

  -- one more
  pub merging_more : (t u : Tour) (cs : List Cursor) (d new : Cursor) (s : Segmenter) (w : Writing) (c : Chunk) (before after : History)
      → IsMerging most names held es t cs w before → t.stream < length es → t.file < length names
      → CanPut names held (taken s w c) after
      → ((done : List Placed) → StandsBehind (bytes_in (held (get_or names t.file []))) (get_or cs t.file d) done
      → IsBehind most (bytes_in (held (get_or names t.file []))) c done new)
      → IsNext most (end_at es t.stream) t.reached (get_or cs t.file d) c
      → u.stream ≡ t.stream → u.file ≡ t.file → u.reached ≡ c.key.seq
      → IsMerging most names held es u (set cs t.file new) (taken s w c) after
  merging_more t u cs d new s w c before after m stream file can behind next us uf ur = record {
    can = can;
    heads = m.heads ++ h ∷ [];
    chunks = ap (λ l. l ++ c ∷ []) m.chunks
        ∙ (ap (λ x. map (chunk_in names held) m.heads ++ x ∷ []) chunk ∙ sym (map-append (chunk_in names held) m.heads (h ∷ [])));
    toured = head_more es t u m.heads m.toured h stream (next_goes most (end_at es t.stream) t.reached (get_or cs t.file d) c (0 + t.file) b.r.at next)
        here us uf ur;
    sides = sides_more most held 0 names cs m.heads h t.file new file refl m.sides
        (side_more most held (0 + t.file) bytes (get_or cs t.file d) new (filter (is_in (0 + t.file)) m.heads) c side b);
    within = each_append (λ (k : Head). k.file < length names) m.heads (h ∷ []) m.within ((let z : 0 + t.file < length names = omega (arith, file) in z), tt);
  }
    where
      bytes : List ℕ
      bytes = bytes_in (held (get_or names t.file []))

      side : IsSide most (0 + t.file) (bytes_in (held (get_or names t.file []))) (get_or cs t.file d) (filter (is_in (0 + t.file)) m.heads)
      side = side_at most held 0 names cs m.heads t.file d file m.sides

      b : IsBehind most (bytes_in (held (get_or names t.file []))) c side.done new
      b = behind side.done side.stands

      h : Head
      h = head_of (0 + t.file) b.r.at c

      here : 0 + t.file ≡ t.file
      here = omega arith

      chunk : c ≡ chunk_in names held h
      chunk =
          sym (ap (λ (v : List ℕ). (let k : Chunk = record { key = c.key; value = v } in k))
          (ap (λ n. value_at b.r.at (bytes_in (held (get_or names n [])))) here ∙ b.value))

  -- behind the last one they are all records, in order
  pub all_written : (t : Tour) (cs : List Cursor) (w : Writing) (history : History) → AreRising es (length es)
      → IsMerging most names held es t cs w history → IsTurn es cs t turn.End
      → (w.chunks ≡ map (chunk_in names held) (in_head_order (heads_from most held 0 names)))
      × Each (IsSound most held) names × AllGoWell es (heads_from most held 0 names)
  all_written t cs w history rising m end =
      let done = sides_ended most held 0 names cs m.heads end.1 m.sides in
      let r = merged_heads most held names es m.heads (rise es rising) (all_toured es t t m.heads m.toured end.0) m.within done.0 in
      (m.chunks ∙ ap (map (chunk_in names held)) r.0, done.1, r.1)
