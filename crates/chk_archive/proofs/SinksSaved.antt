-- Once all is taken the listed done sinks may be removed.
use Rattle.std.proofs.Common.{◌≡◌, inl, inr, ℕ, ◌+◌, Bool, true, false, List, [], ◌++◌, length, Some, None, sym, subst, ◌∙◌, refl, arith, if◌then◌else◌, bytes_eq}
use Rattle.std.specs.Prelude.{IsTrue, Any, Contains, codes, flat_map}
use Rattle.std.specs.List.{list_any}
use Rattle.std.proofs.lemmas.Bool.{and_parts}
use Rattle.std.proofs.lemmas.Option.{none-some, same_Some}
use Rattle.std.proofs.lemmas.List.Elements.{Contains-append_right}
use Rattle.chk_bytes.specs.Stems.{Stem, is_stem, stem_text}
use Rattle.chk_site.specs.Files.{File}
use Rattle.chk_site.specs.History.{files_after}
use Rattle.chk_chunk.specs.Keys.{Stream, Chunk, chunk_limit, same_data}
use Rattle.chk_world.specs.Names.{DoneFile, file}
use Rattle.chk_world.specs.Books.{Book, chunks_within}
use Rattle.chk_world.specs.Committed.{sink_chunks, aside_chunks, archived_end}
use Rattle.chk_world.specs.Streams.{start_of}
use Rattle.chk_world.specs.ArchiveRuns.{Listing, in_order, found, sink_path, listed_chunks}
use Rattle.chk_world.specs.Sight.{Sight, shows_done, own_aside, own_archive}
use Rattle.chk_archive_plan.specs.Plan.{ends_of, set_aside}
use Rattle.chk_archive_plan.proofs.Runs.{put_all}
use Rattle.chk_archive_plan.proofs.SetAside.{saved}
use Rattle.chk_archive.specs.Listed.{IsListed}
use Rattle.chk_archive.specs.Sinks.{MayGo}
use Rattle.chk_archive.specs.Taking.{TookAll}
use Rattle.chk_archive.specs.declared.taking.Taken.{Taken}
use Rattle.chk_archive.proofs.SinksGo.{done_spelled, closed_text}
use Rattle.chk_world.proofs.SightStays.{name_in as any_in}
use Rattle.chk_archive.proofs.FoundSources.{K, founded}
use Rattle.chk_world.proofs.CompleteRuns.{flat_in as in_flat}

module _ (stamped : List (List ℕ)) (names : List (List ℕ)) (b : Book) (v : Sight)
    (at : IsListed stamped names b v) where
  abbrev L : Listing
  L = K stamped names b v at

  -- a done sink that the job knows was listed, and its chunks were found
  shown_found : (x : Stem) (f : File) → v.sinks x ≡ Some f → (c : Chunk)
      → Contains (chunks_within chunk_limit f.bytes) c → Contains (found L) c
  shown_found x f there c one = go (shows_done (Some L) x) refl (at.shows.sinks_then x ∙ there)
    where
      name : List ℕ
      name = stem_text x ++ codes ".done"

      go : (t : Bool) → shows_done (Some L) x ≡ t
          → (if t then file (files_after L.upto) (DoneFile x) else None) ≡ Some f → Contains (found L) c
      go false e is = absurd (none-some f is)
      go true e is =
          let p = and_parts (is_stem x) (list_any (bytes_eq name) L.names) e in
          let chunks : Contains (sink_chunks (files_after L.upto (sink_path name))) c =
          subst (λ w. Contains (sink_chunks (files_after L.upto w)) c) (done_spelled x)
          (subst (λ o. Contains (sink_chunks o) c) (sym is) one) in
          Contains-append_right (aside_chunks (files_after L.upto))
          (flat_map (listed_chunks (files_after L.upto)) L.names) c
          (in_flat (listed_chunks (files_after L.upto)) L.names name c (any_in L.names name p.1)
          (subst (λ t. Contains (if t then sink_chunks (files_after L.upto (sink_path name)) else []) c)
          (sym (closed_text (stem_text x))) chunks))

  module _ (new : Book) (t : Taken) (u : Sight) (took : TookAll v new t u) where
    -- it is the same listing
    pub listing_is : took.l ≡ L
    listing_is = same_Some took.l L (sym took.last ∙ (took.listing ∙ at.shows.last))

    pub reached_is : (s : Stream) → start_of L.upto s + length (own_archive u s)
        ≡ ends_of (archived_end L.upto) (in_order (found L)) s
    reached_is = subst (λ (l : Listing). (s : Stream) → start_of l.upto s + length (own_archive u s)
        ≡ ends_of (archived_end l.upto) (in_order (found l)) s) listing_is took.reached

    pub aside_is : own_aside u ≡ set_aside (ends_of (archived_end L.upto) (in_order (found L))) (in_order (found L))
    aside_is = subst (λ (l : Listing). own_aside u
        ≡ set_aside (ends_of (archived_end l.upto) (in_order (found l))) (in_order (found l))) listing_is took.aside

    pub may_go : MayGo u.own names u
    may_go = record {
      own_now = λ n. refl;
      listing = L;
      last = took.listing ∙ at.shows.last;
      are = at.shows.are;
      done = at.shows.done;
      saved = λ x f there c one.
          let known = shown_found x f (sym (took.sinks x) ∙ there) c one in
          let start = (founded stamped names b v at c known).is_true.start in
          let end = reached_is c.key.stream in
          elim (saved (ends_of (archived_end L.upto) (in_order (found L))) (in_order (found L)) c
          (put_all (found L) c known)) [
            | inl low ↦ inl (omega (arith, low, start, end))
            | inr any ↦ inr (subst (Any (λ d. IsTrue (same_data c d))) (sym aside_is) any)
          ];
    }
