-- An archive run that was done stays so while the job sees the same.
use Rattle.std.proofs.Common.{◌≡◌, ℕ, true, List, ◌++◌, Option, Some, None, ap, sym, subst, ◌∙◌, refl, if◌then◌else◌, length, ◌+◌, bytes_eq}
use Rattle.std.specs.Prelude.{Contains, Any, codes, filter, nat_lt}
use Rattle.std.specs.List.{list_any}
use Rattle.std.proofs.lemmas.Bool.{and_from}
use Rattle.chk_bytes.specs.Stems.{Stem, is_stem, stem_text}
use Rattle.chk_site.specs.Files.{File}
use Rattle.chk_site.specs.History.{History, files_after}
use Rattle.chk_chunk.specs.Keys.{Stream, Covers, chunk_end}
use Rattle.chk_chunk.specs.Reach.{IsReach}
use Rattle.chk_world.specs.Names.{DoneFile, file, spell, read}
use Rattle.chk_world.specs.Streams.{start_of}
use Rattle.chk_world.specs.Committed.{aside_chunks, archive_of_stream}
use Rattle.chk_world.specs.ArchiveRuns.{Listing, last_listing, is_closed, sink_path, found, in_order, once, end_before, end_since, IsArchiveRun}
use Rattle.chk_world.specs.DoneSinks.{IsDoneName}
use Rattle.chk_world.specs.Rules.{Legal}
use Rattle.chk_world.specs.Sight.{Sight, sight, shows_done, listed_sinks, own_archive, own_aside}
use Rattle.chk_world.proofs.DoneNames.{done_named}
use Rattle.chk_world.proofs.NameLemmas.{spell-read}
use Rattle.chk_world.proofs.OwnArchive.{own_archive_is, own_aside_is}
use Rattle.chk_archive.proofs.SinksGo.{good_stem, in_any}

-- two legal histories of which the job sees the same
module _ (stamped : List (List ℕ)) (h g : History) (legal : Legal stamped h) (after : Legal stamped g) (same : sight g ≡ sight h) where
  pub last_same : last_listing g ≡ last_listing h
  last_same = ap (λ (v : Sight). v.listing) same

  archive_same : (s : Stream) → archive_of_stream (files_after g) s ≡ archive_of_stream (files_after h) s
  archive_same s =
      sym (own_archive_is stamped g after s) ∙ (ap (λ (v : Sight). own_archive v s) same ∙ own_archive_is stamped h legal s)

  aside_same : aside_chunks (files_after g) ≡ aside_chunks (files_after h)
  aside_same = sym (own_aside_is stamped g after) ∙ (ap own_aside same ∙ own_aside_is stamped h legal)

  module _ (l : Listing) (last : last_listing h ≡ Some l) where
    -- a listed sink that is gone stays so
    gone_still : (name : List ℕ) → Contains l.names name → is_closed name ≡ true → files_after h (sink_path name) ≡ None
        → files_after g (sink_path name) ≡ None
    gone_still name listed closed gone = go (files_after g (sink_path name)) refl
      where
        shown : (x : Stem) → read (sink_path name) ≡ DoneFile x → name ≡ stem_text x ++ codes ".done"
            → shows_done (Some l) x ≡ true
        shown x reads is =
            and_from (is_stem x) (list_any (bytes_eq (stem_text x ++ codes ".done")) l.names) (good_stem (sink_path name) x reads)
            (subst (λ (n : List ℕ). list_any (bytes_eq n) l.names ≡ true) is (in_any l.names name listed))

        path_is : (x : Stem) → read (sink_path name) ≡ DoneFile x → sink_path name ≡ spell (DoneFile x)
        path_is x reads = sym (spell-read (sink_path name)) ∙ ap spell reads

        seen : (k : History) (x : Stem) → last_listing k ≡ Some l → read (sink_path name) ≡ DoneFile x
            → name ≡ stem_text x ++ codes ".done" → (sight k).sinks x ≡ files_after k (sink_path name)
        seen k x at reads is =
            ap (λ o. listed_sinks o (files_after k) x) at
            ∙ (ap (λ b. if b then file (files_after k) (DoneFile x) else None) (shown x reads is)
            ∙ sym (ap (files_after k) (path_is x reads)))

        go : (o : Option File) → files_after g (sink_path name) ≡ o → files_after g (sink_path name) ≡ None
        go None e = e
        go (Some f) e =
            let d : IsDoneName name (read (sink_path name)) = done_named stamped g after name closed f e in
            sym (seen g d.0 (last_same ∙ last) d.1 d.2) ∙ (ap (λ (v : Sight). v.sinks d.0) same ∙ (seen h d.0 last d.1 d.2 ∙ gone))

    end_same : (s : Stream) → end_since h l s ≡ end_since g l s
    end_same s = ap (λ (a : List ℕ). start_of l.upto s + length a) (sym (archive_same s))

    -- the run has the same numbers
    pub run_same : (unclosed taken held removed : ℕ) → IsArchiveRun h l unclosed taken held removed
        → IsArchiveRun g l unclosed taken held removed
    run_same unclosed taken held removed r = record {
      unclosed_is = r.unclosed_is;
      taken_is = r.taken_is;
      reached = λ s. subst (λ (e : ℕ). IsReach (λ o. Any (Covers s o) (found l)) (end_before h l s) e) (end_same s) (r.reached s);
      rest = record {
        aside = aside_same ∙ (r.rest.aside ∙ ap (λ (e : Stream → ℕ). once (filter (λ c. nat_lt (e c.key.stream) (chunk_end c)) (in_order (found l)))) (λ i s. end_same s i));
        held_is = r.rest.held_is ∙ sym (ap length aside_same);
        removed_is = r.rest.removed_is;
        gone = λ name listed closed. gone_still name listed closed (r.rest.gone name listed closed);
      };
    }
