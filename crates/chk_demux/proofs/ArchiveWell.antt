-- Where a history is legal the archive's records run as its book says.
use Rattle.std.proofs.Common.{◌≡◌, ℕ, zero, suc, ◌+◌, Bool, true, false, List, [], ◌∷◌, ◌++◌, Option, Some, None, ap, sym, subst, ◌∙◌, refl, arith, if◌then◌else◌}
use Rattle.std.specs.Prelude.{Contains, codes, nat_eq, slice_index_or}
use Rattle.std.proofs.lemmas.Option.{same_Some, none-some}
use Rattle.chk_site.specs.History.{History, files_after}
use Rattle.chk_chunk.specs.Keys.{Stream, Chunk, is_of, same_stream, chunk_limit}
use Rattle.chk_world.specs.Names.{ArchiveFolder}
use Rattle.chk_world.specs.Books.{End, Book, AllChunks, chunks_of_stream}
use Rattle.chk_world.specs.Jobs.{Run, BookNamesSyncedSegments}
use Rattle.chk_world.specs.Rules.{Legal}
use Rattle.chk_world.specs.Sight.{Sight, sight, own_book}
use Rattle.chk_world.proofs.BooksTrue.{books_stay_true}
use Rattle.chk_world.proofs.Each.{Each, first_in, each_from, each_at, filter_in, filter_each, later_one}
use Rattle.chk_world.proofs.NameTests.{streams_same}
use Rattle.chk_world.proofs.Segments.{none_in}
use Rattle.chk_record_index.specs.Heads.{Head, heads_in}
use Rattle.chk_record_index.specs.Pieces.{bytes_in}
use Rattle.chk_archive_plan.proofs.Parts.{stream_self}
use Rattle.chk_record_reader.specs.Segments.{names_of, IsSound, heads_from, chunks_in_files}
use Rattle.chk_record_reader.specs.Courses.{end_of, is_end_of, break_by, reached, reaches, IsBreakBy}
use Rattle.chk_record_reader.specs.Checking.{AllGoWell}
use Rattle.chk_book.specs.Folders.{book_name}
use Rattle.chk_record_reader.specs.Archives.{RunsSo, IsDamagedAt, broken, unreached, place_in_book}
use Rattle.chk_record_reader.proofs.Undamaged.{undamaged}
use Rattle.chk_archive_parts.specs.Gathering.{held, heads_of}
use Rattle.chk_demux.specs.Demuxed.{all_named}
use Rattle.chk_demux.proofs.Sources.{archive_sound, archive_found}

end_there : (s : Stream) (es : List End) (e : End) → Contains es e → e.stream ≡ s → end_of s es ≡ None → ⊥
end_there s [] e one is none = none_in e one
end_there s (d ∷ es) e (zero, low, at) is none =
    let mine : is_end_of s d ≡ true =
    subst (λ (x : End). same_stream s x.stream ≡ true) (sym at)
    (subst (λ t. same_stream s t ≡ true) (sym is) (stream_self s)) in
    none-some d (sym none ∙ ap (λ b. if b then Some d else end_of s es) mine)
end_there s (d ∷ es) e (suc k, low, at) is none =
    go (is_end_of s d) none (λ n. end_there s es e (k, omega (arith, low), at) is n)
  where
    go : (b : Bool) → (if b then Some d else end_of s es) ≡ None → (end_of s es ≡ None → ⊥) → ⊥
    go true n rest = none-some d (sym n)
    go false n rest = rest n

end_is : (s : Stream) (es : List End) (e : End) → end_of s es ≡ Some e → Contains es e × (e.stream ≡ s)
end_is s [] e is = absurd (none-some e is)
end_is s (d ∷ es) e is = go (is_end_of s d) refl is (λ i. end_is s es e i)
  where
    go : (b : Bool) → is_end_of s d ≡ b → (if b then Some d else end_of s es) ≡ Some e
        → (end_of s es ≡ Some e → Contains es e × (e.stream ≡ s)) → Contains (d ∷ es) e × (e.stream ≡ s)
    go true mine i rest =
        let same = same_Some d e i in (
          (0, omega arith, same),
          ap (λ (x : End). x.stream) (sym same) ∙ sym (streams_same s d.stream mine),
        )
    go false mine i rest = let r = rest i in (later_one d es e r.0, r.1)

-- the heads of files that the job knows
pub heads_same : (v : Sight) (n : ℕ) (ws : List (List ℕ)) → heads_from chunk_limit (held v) n ws ≡ heads_of v n ws
heads_same v n [] = refl
heads_same v n (w ∷ ws) = ap (λ l. heads_in chunk_limit n (bytes_in (held v w)) ++ l) (heads_same v (n + 1) ws)

module _ (stamped : List (List ℕ)) (history : History) (legal : Legal stamped history) where
  abbrev V : Sight
  V = sight history

  abbrev B : Book
  B = own_book V ArchiveFolder

  abbrev Names : List (List ℕ)
  Names = names_of (codes "archive") B

  abbrev Cs : List Chunk
  Cs = all_named (files_after history) ArchiveFolder

  true_book : BookNamesSyncedSegments ArchiveFolder history B
  true_book = books_stay_true stamped history legal ArchiveFolder

  run_named : (s : Stream) (o : Option End) → end_of s B.ends ≡ o → RunsSo o (chunks_of_stream s Cs)
  run_named s None e = go (chunks_of_stream s Cs) refl
    where
      go : (l : List Chunk) → chunks_of_stream s Cs ≡ l → l ≡ []
      go [] is = refl
      go (c ∷ l) is =
          let one : Contains (chunks_of_stream s Cs) c = first_in (chunks_of_stream s Cs) c l is in
          let of = each_at (λ c. is_of s c ≡ true) (chunks_of_stream s Cs) c (filter_each (is_of s) Cs) one in
          let k = true_book.listed c (filter_in (is_of s) Cs c one) in
          absurd (end_there s B.ends k.1 (k.0, k.2, k.3) (k.4 ∙ sym (streams_same s c.key.stream of)) e)
  run_named s (Some d) e =
      let i = end_is s B.ends d e in
      subst (λ t. Run d.start d.start (chunks_of_stream t Cs) d.end) i.1 (true_book.ends d i.0)

  runs : (s : Stream) → RunsSo (end_of s B.ends) (chunks_of_stream s (chunks_in_files chunk_limit (held V) Names))
  runs s =
      subst (λ cs. RunsSo (end_of s B.ends) (chunks_of_stream s cs)) (sym (archive_found stamped history legal))
      (run_named s (end_of s B.ends) refl)

  sound : Each (IsSound chunk_limit (held V)) Names
  sound =
      each_from (IsSound chunk_limit (held V)) Names
      (λ w one.
      let x = archive_sound stamped history legal w one in
      subst (λ o. AllChunks chunk_limit (bytes_in o)) (sym x.there) x.chunks)

  abbrev Hs : List Head
  Hs = heads_from chunk_limit (held V) 0 Names

  never : (s : Stream) (name : List ℕ) (at : ℕ) → IsDamagedAt (codes "archive") B (held V) s name at → ⊥
  never s name at bad = undamaged (codes "archive") B (held V) sound runs s name at bad

  reached_so : (s : Stream) (o : Option End) → end_of s B.ends ≡ o → break_by s o Hs ≡ None → reaches s o Hs
  reached_so s None is none = tt
  reached_so s (Some e) is none = go (nat_eq (reached s e.start Hs) e.end) refl
    where
      go : (b : Bool) → nat_eq (reached s e.start Hs) e.end ≡ b → reached s e.start Hs ≡ e.end
      go true same = grind (arith, same)
      go false apart =
          absurd
          (never s (book_name (codes "archive")) (place_in_book B s)
          (unreached sound (subst (λ x. break_by s x Hs ≡ None) (sym is) none)
          (λ r.
          let so : reached s e.start Hs ≡ e.end = subst (λ x. reaches s x Hs) is r in
          let z : ⊥ = grind (arith, apart, so) in z) refl refl))

  goes : (s : Stream) (o : Option Head) → break_by s (end_of s B.ends) Hs ≡ o → IsBreakBy s (end_of s B.ends) Hs None
  goes s None is = (is, reached_so s (end_of s B.ends) refl is)
  goes s (Some h) is =
      absurd
      (never s (slice_index_or Names h.file []) h.at (broken sound (record { head = h; is = is; of = refl; place = refl })))

  pub archive_well : AllGoWell B.ends (heads_of V 0 Names)
  archive_well s =
      subst (λ hs. IsBreakBy s (end_of s B.ends) hs None) (heads_same V 0 Names)
      (goes s (break_by s (end_of s B.ends) Hs) refl)
