-- The job's run in it is complete, and its report is a true one.
use Rattle.chk_site.specs.declared.acts.Call.TheVariants.{Say}
use Rattle.chk_world.specs.ArchiveRuns.{report, Listing, found, end_before, end_since, is_closed, sink_path, HasReached, IsArchiveRun}
use Rattle.chk_world_examples.specs.Texts.{chunk, listed_names, stream, end}
use Rattle.chk_world.specs.Sight.{job}
use Rattle.chk_world_examples.specs.Moments.{l30, g39, g40}
use Rattle.chk_world_examples.proofs.Went.{went}
use Rattle.std.proofs.Common.{◌≡◌, inl, inr, ℕ, Bool, true, false, List, [], ◌∷◌, length, None, ap, sym, subst, ◌∙◌, refl, arith, true≢false, if◌then◌else◌}
use Rattle.std.specs.Prelude.{codes, IsTrue, Any}
use Rattle.std.proofs.lemmas.Bool.{cases_lt}
use Rattle.chk_site.specs.History.{History, files_after}
use Rattle.chk_chunk.specs.Keys.{Stream, Chunk, Covers, same_stream}
use Rattle.chk_chunk.specs.Reach.{IsReach}
use Rattle.chk_world.specs.Names.{ArchiveFolder}
use Rattle.chk_world.specs.Books.{book_of, chunks_named, chunks_of_stream, values}
use Rattle.chk_world.specs.Streams.{start_of}
use Rattle.chk_world.specs.Committed.{archive_of_stream}
use Rattle.chk_world.specs.Rules.{Legal}
use Rattle.chk_world.proofs.NameTests.{streams_same}
use Rattle.chk_world_examples.proofs.ExampleMessages.{in_one}
use Rattle.chk_world_examples.proofs.ExampleListing.{in_two}
use Rattle.chk_world_examples.proofs.ExampleJob.{glegal39}
use Rattle.chk_world_examples.proofs.Unfolded.{texts}

-- the job's listing
abbrev pub listing : Listing
listing = record { names = listed_names; upto = l30 }

found_is : found listing ≡ chunk ∷ []
unfolding texts
found_is = refl

-- the chunks of the archive
abbrev pub archived : History → List Chunk
archived history = chunks_named (files_after history) ArchiveFolder (book_of (files_after history) ArchiveFolder)

none_yet : archived l30 ≡ []
unfolding texts
none_yet = refl

one_covers : (s : Stream) (o : ℕ) → Any (Covers s o) (chunk ∷ []) → Covers s o chunk
one_covers s o a = subst (Covers s o) (sym (in_one chunk a.1 (a.0, a.2, a.3))) a.4

-- the chunk covers its stream's offsets
reach_of_it : (s : Stream) → same_stream s stream ≡ true → (from end : ℕ) → from ≡ 0 → end ≡ 6 → IsReach (λ o. Any (Covers s o) (chunk ∷ [])) from end
reach_of_it s same from end begins ends = record {
  on = omega (arith, begins, ends);
  no_gap = λ o low high. (0, chunk, omega arith, refl, (same, omega arith, omega (arith, high, ends)));
  greatest = λ e low all. elim (cases_lt 6 e) [
    | inl past ↦ let h = (one_covers s 6 (all 6 (omega (arith, begins)) past)).2 in absurd (let z : ⊥ = omega (arith, h) in z)
    | inr within ↦ omega (arith, ends, within)
  ];
}

-- and no others
reach_of_none : (s : Stream) → same_stream s stream ≡ false → (from end : ℕ) → from ≡ end → IsReach (λ o. Any (Covers s o) (chunk ∷ [])) from end
reach_of_none s other from end same = record {
  on = omega (arith, same);
  no_gap = λ o low high. absurd (let z : ⊥ = omega (arith, low, high, same) in z);
  greatest = λ e low all. elim (cases_lt end e) [
    | inl past ↦ absurd (true≢false (sym (one_covers s end (all end (omega (arith, same)) past)).0 ∙ other))
    | inr within ↦ within
  ];
}

length_if : (s : Stream) (b : Bool) → same_stream s stream ≡ b → length (values (chunks_of_stream s (chunk ∷ []))) ≡ (if b then 6 else 0)
length_if s b e = ap (λ b. length (values (if b then chunk ∷ [] else []))) e ∙ go b
  where
    go : (b : Bool) → length (values (if b then chunk ∷ [] else [])) ≡ (if b then 6 else 0)
    go true = refl
    go false = refl

start_30 : start_of listing.upto stream ≡ 0
unfolding texts
start_30 = refl

-- where the archive has become that chunk, it has reached all that was found
pub has_reached : (history : History) → archived history ≡ chunk ∷ [] → HasReached history listing
has_reached history named s =
    subst (λ cs. IsReach (λ o. Any (Covers s o) cs) (end_before history listing s) (end_since history listing s)) (sym found_is) (go (same_stream s stream) refl)
  where
    before : length (archive_of_stream (files_after l30) s) ≡ 0
    before = ap (λ cs. length (values (chunks_of_stream s cs))) none_yet

    after : length (archive_of_stream (files_after history) s) ≡ length (values (chunks_of_stream s (chunk ∷ [])))
    after = ap (λ cs. length (values (chunks_of_stream s cs))) named

    go : (b : Bool) → same_stream s stream ≡ b → IsReach (λ o. Any (Covers s o) (chunk ∷ [])) (end_before history listing s) (end_since history listing s)
    go true e =
        let none : start_of listing.upto s ≡ 0 = ap (start_of listing.upto) (streams_same s stream e) ∙ start_30 in
        let size = length_if s true e in
        reach_of_it s e (end_before history listing s) (end_since history listing s) (omega (arith, none, before)) (omega (arith, none, after, size))
    go false e =
        let size = length_if s false e in
        reach_of_none s e (end_before history listing s) (end_since history listing s) (omega (arith, before, after, size))

named_39 : archived g39 ≡ chunk ∷ []
unfolding texts
named_39 = refl

ran : IsArchiveRun g39 listing 0 6 0 1
unfolding texts
ran = record {
  unclosed_is = refl;
  taken_is = refl;
  reached = has_reached g39 named_39;
  rest = record {
    aside = refl;
    held_is = refl;
    removed_is = refl;
    gone = λ name one. in_two (codes "c1.1.1.done") (codes "c1.born") name (λ z. IsTrue (is_closed z) → files_after g39 (sink_path z) ≡ None)
        (λ closed. refl) (λ closed. absurd (true≢false (sym closed))) one;
  };
}

pub glegal40 : Legal [] g40
unfolding texts
glegal40 = went job Say (report 0 6 0 1 ∷ []) 0 0 [] 0 0 g39 glegal39 tt tt refl refl tt tt tt
    (refl, (refl, record { unclosed = 0; taken = 6; held = 0; removed = 1; is = refl; ran = ran }))
