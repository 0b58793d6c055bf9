-- What the job knows stays over the steps of others.
use Rattle.std.proofs.Common.{◌≡◌, inl, inr, ℕ, suc, ◌<◌, Bool, true, false, ◌&&◌, List, [], ◌∷◌, ◌++◌, length, Option, Some, None, ap, sym, subst, ◌∙◌, refl, arith, true≢false, if◌then◌else◌, length-append, bytes_eq}
use Rattle.std.specs.Prelude.{IsTrue, IsSome, Contains, codes}
use Rattle.std.specs.List.{list_any}
use Rattle.std.proofs.lemmas.Bool.{and_parts, or_cases, false_from_ne_true}
use Rattle.std.proofs.lemmas.Option.{none-some}
use Rattle.chk_bytes.specs.Stems.{Stem, is_stem, stem_text}
use Rattle.chk_site.specs.declared.acts.Role.{Role}
use Rattle.chk_site.specs.declared.acts.Role.TheVariants.{Agent, Collector, Job, Writer}
use Rattle.chk_site.specs.declared.acts.Who.{Who}
use Rattle.chk_site.specs.declared.acts.ActAnswer.{ActAnswer}
use Rattle.chk_site.specs.declared.acts.ActAnswer.TheVariants.{Done}
use Rattle.chk_site.specs.Files.{File, changed}
use Rattle.chk_site.specs.Acts.{Deed, Lists, Removes, deed, change_of, same_role, same_who}
use Rattle.chk_site.specs.Honest.{Agrees, IsListing, in_folder}
use Rattle.chk_site.specs.History.{Step, History, files_after}
use Rattle.chk_seqfile.specs.Entries.{IsSequenceFile}
use Rattle.chk_world.specs.Names.{Name, BookFile, SegmentFile, DoneFile, SinkFile, Temporary, read, spell, file, is_known}
use Rattle.chk_world.specs.Committed.{OnFile}
use Rattle.chk_world.specs.ArchiveRuns.{Listing, last_listing, listing_by}
use Rattle.chk_world.specs.Rules.{Legal, Framed, may_remove, is_named_so}
use Rattle.chk_world.specs.Laws.{wrote, written_by}
use Rattle.chk_world.specs.Places.{Foreign, IsOwnBy}
use Rattle.chk_world.proofs.NameTests.{same_name, name_same}
use Rattle.chk_world.proofs.Ends.{bytes_same, bytes_self}
use Rattle.chk_world.proofs.Kept.{DoneKept}
use Rattle.chk_world.proofs.OwnSteps.{known_stem}
use Rattle.chk_world.proofs.Law.{holds_always}
use Rattle.chk_world.proofs.Commits.{done_tails}
use Rattle.chk_world.proofs.Frames.{files_stay, listing_stays}
use Rattle.chk_world.specs.Sight.{job, is_job_file, own_files, shows_done, listed_sinks, Sight, sight}
use Rattle.chk_world.specs.DoneSinks.{IsGone, RemovesDone, DoneStays}
use Rattle.chk_world.proofs.DoneSinks.{stays_gone, stays_done, no_sink_beside, sink_gone}

some_bytes : (bytes : List ℕ) → IsSequenceFile bytes → 0 < length bytes
some_bytes bytes f =
    let head = ap length f.header.is in
    let first = length-append (codes "SEQ") (6 ∷ (f.header.key_class ++ (f.header.value_class ++ (0 ∷ 0 ∷ (f.header.metadata ++ f.marker))))) in
    let all = ap length f.is in
    let both = length-append f.head f.entries in
    omega (arith, head, first, all, both)

-- what stands in a done sink was written
done_some : (wr : List ℕ) (sink o : Option File) (f : File) → o ≡ Some f
    → OnFile o (DoneKept wr sink) → 0 < length wr
done_some wr sink None f e h = absurd (none-some f e)
done_some wr sink (Some d) f e h =
    let some = some_bytes d.bytes h.done.chunks.form in
    let within = h.within in
    omega (arith, some, within)

pub written_some : (stamped : List (List ℕ)) (history : History) → Legal stamped history
    → (x : Stem) → IsTrue (is_stem x) → (f : File)
    → file (files_after history) (DoneFile x) ≡ Some f → 0 < length (wrote x history)
written_some stamped history legal x known f there =
    let inv = holds_always x (known_stem x known) stamped history legal in
    done_some (wrote x history) (file (files_after history) (SinkFile x)) (file (files_after history) (DoneFile x)) f there inv.files.of_done

-- ---- a sink that was done is still, or is gone

pub data WasDone (history : History) (x : Stem) : Type 0 where
  is_done_still : (f : File) → file (files_after history) (DoneFile x) ≡ Some f → WasDone history x
  is_gone : IsGone history x → WasDone history x

module _ (stamped : List (List ℕ)) (history : History) (step : Step)
    (legal : Legal stamped (step ∷ history)) (x : Stem) (known : IsTrue (is_stem x)) where
  grown_wrote : 0 < length (wrote x history) → 0 < length (wrote x (step ∷ history))
  grown_wrote some = let more = length-append (wrote x history) (written_by x (deed step.act) step.act.answer) in omega (arith, more, some)

  pub was_done_stays : WasDone history x → WasDone (step ∷ history) x
  was_done_stays (is_gone g) = is_gone (stays_gone stamped history step legal x known g)
  was_done_stays (is_done_still f there) = go (file step.files (DoneFile x)) refl
    where
      go : (o : Option File) → file step.files (DoneFile x) ≡ o → WasDone (step ∷ history) x
      go (Some g) e = is_done_still g e
      go None e = is_gone (record {
        wrote_some = grown_wrote (written_some stamped history legal.0 x known f there);
        sink = sink_gone stamped history step legal x known (written_some stamped history legal.0 x known f there) (no_sink_beside stamped history legal.0 x known f there);
        done = e;
      })

-- what a legal step makes of a done sink
pub done_sinks_stay : (stamped : List (List ℕ)) (history : History) (step : Step)
    → Legal stamped (step ∷ history)
    → (x : Stem) → IsTrue (is_stem x) → DoneStays history step x
done_sinks_stay stamped history step legal x known = record {
  stays = λ f there kept. stays_done stamped history step legal x known f there (λ w is.
      false_from_ne_true (same_name (DoneFile x) (read w)) (λ e. kept (removal w is (sym (name_same (DoneFile x) (read w) e)))));
  goes = λ f there gone. record {
    wrote_some = grown_wrote stamped history step legal x known (written_some stamped history legal.0 x known f there);
    sink = sink_gone stamped history step legal x known (written_some stamped history legal.0 x known f there)
        (no_sink_beside stamped history legal.0 x known f there);
    done = gone;
  };
  gone = stays_gone stamped history step legal x known;
}
  where
    removal : (w : List ℕ) → deed step.act ≡ Removes w → read w ≡ DoneFile x → RemovesDone step x
    removal w is of = record {
      word = w;
      call = is;
      of = of;
      by = subst (λ m. IsTrue (may_remove step.act.who m)) of
          (subst (Framed step.act.who (files_after history)) is legal.1.own_files);
    }

-- ---- what a listing shows was done

pub name_in : (names : List (List ℕ)) (name : List ℕ) → list_any (bytes_eq name) names ≡ true
    → Contains names name
name_in [] name h = absurd (true≢false (sym h))
name_in (n ∷ names) name h = elim (or_cases (bytes_eq name n) (list_any (bytes_eq name) names) h) [
  | inl same ↦ (0, omega arith, sym (bytes_same name n same))
  | inr rest ↦ let one = name_in names name rest in (suc one.0, omega (arith, one.1), one.2)
]

done_name : (x : Stem)
    → spell (DoneFile x) ≡ in_folder (codes "sinks") (stem_text x ++ codes ".done")
unfolding spell
done_name x = refl

pub some_file : (o : Option File) → IsSome o → (f : File) × (o ≡ Some f)
some_file None h = absurd (true≢false (sym h))
some_file (Some f) h = (f, refl)

module _ (stamped : List (List ℕ)) (history : History) (step : Step)
    (legal : Legal stamped (step ∷ history)) (x : Stem) where
  -- the listing is made here
  listed_now : (folder : List ℕ) (names : List (List ℕ)) (number of : ℕ)
      → deed step.act ≡ Lists folder → step.act.answer ≡ Done names number of
      → folder ≡ codes "sinks" → list_any (bytes_eq (stem_text x ++ codes ".done")) names ≡ true
      → WasDone (step ∷ history) x
  listed_now folder names number of call answer sinks shown =
      let agrees : Agrees history step.act.who (Lists folder) (Done names number of) =
      subst (λ a. Agrees history step.act.who (Lists folder) a) answer
      (subst (λ c. Agrees history step.act.who c step.act.answer) call legal.1.honest.agrees) in
      let listing : IsListing (files_after history) (codes "sinks") names = subst (λ f. IsListing (files_after history) f names) sinks agrees in
      let name = stem_text x ++ codes ".done" in
      let there = (listing.each name).0 (name_in names name shown) in
      let e = legal.1.honest.modelled.effect in
      let same : step.files (in_folder (codes "sinks") name) ≡ files_after history (in_folder (codes "sinks") name) =
      done_tails (deed step.act) step.act.answer names number of e.did (files_after history) step.files answer e.may e.files_left (in_folder (codes "sinks") name)
      ∙ ap (λ c. changed (change_of c) (files_after history) (in_folder (codes "sinks") name)) call in
      let f = some_file (files_after history (in_folder (codes "sinks") name)) there.1 in
      is_done_still f.0 (ap step.files (done_name x) ∙ (same ∙ f.1))

shown_parts : (l : Listing) (x : Stem) → shows_done (Some l) x ≡ true
    → (is_stem x ≡ true) × (list_any (bytes_eq (stem_text x ++ codes ".done")) l.names ≡ true)
shown_parts l x h = and_parts (is_stem x) (list_any (bytes_eq (stem_text x ++ codes ".done")) l.names) h

pub stem_shown : (o : Option Listing) (x : Stem) → shows_done o x ≡ true → is_stem x ≡ true
stem_shown None x h = absurd (true≢false (sym h))
stem_shown (Some l) x h = (shown_parts l x h).0

pub shown_was_done : (stamped : List (List ℕ)) (history : History) → Legal stamped history
    → (x : Stem) → shows_done (last_listing history) x ≡ true → WasDone history x
shown_was_done stamped [] legal x shown = absurd (true≢false (sym shown))
shown_was_done stamped (step ∷ history) legal x shown =
    go (deed step.act) step.act.answer refl refl shown
    (λ k. was_done_stays stamped history step legal x (stem_shown (last_listing history) x k) (shown_was_done stamped history legal.0 x k))
  where
    go : (call : Deed) (answer : ActAnswer) → deed step.act ≡ call → step.act.answer ≡ answer
        → shows_done (listing_by (same_role step.act.who.role Job) call answer (step ∷ history) (last_listing history)) x ≡ true
        → (shows_done (last_listing history) x ≡ true → WasDone (step ∷ history) x)
        → WasDone (step ∷ history) x
    go (Lists folder) (Done names number of) ce ae shown before = pick (same_role step.act.who.role Job && bytes_eq folder (codes "sinks")) refl shown
      where
        pick : (b : Bool) → (same_role step.act.who.role Job && bytes_eq folder (codes "sinks")) ≡ b
            → shows_done (if b then Some (record { names = names; upto = step ∷ history }) else last_listing history) x ≡ true → WasDone (step ∷ history) x
        pick true k shown =
            let sinks = bytes_same folder (codes "sinks") (and_parts (same_role step.act.who.role Job) (bytes_eq folder (codes "sinks")) k).1 in
            listed_now stamped history step legal x folder names number of ce ae sinks (shown_parts (record { names = names; upto = step ∷ history }) x shown).1
        pick false k shown = before shown
    go call answer ce ae shown before = before shown

-- ---- a step of others

own_of : (n : Name) → is_job_file n ≡ true → IsOwnBy Job (codes "job") n
own_of (BookFile folder) h = refl
own_of (SegmentFile folder k) h = refl
own_of (Temporary n) h = own_of n h
own_of _ h = absurd (true≢false (sym h))

pub job_removes : (who : Who) (x : Stem) → IsTrue (is_named_so who.role who.name)
    → IsTrue (may_remove who (DoneFile x)) → same_who job who ≡ true
job_removes who x named may = go who.role named may
  where
    go : (role : Role) → IsTrue (is_named_so role who.name) → same_role role Job ≡ true
        → (same_role Job role && bytes_eq (codes "job") who.name) ≡ true
    go Job named may = ap (bytes_eq (codes "job")) (bytes_same who.name (codes "job") named) ∙ bytes_self (codes "job")
    go Agent named may = absurd (true≢false (sym may))
    go Collector named may = absurd (true≢false (sym may))
    go Writer named may = absurd (true≢false (sym may))

pub sight_stays : (stamped : List (List ℕ)) (history : History) (step : Step)
    → Legal stamped history → Foreign stamped job history step
    → sight (step ∷ history) ≡ sight history
sight_stays stamped history step legal f = λ i. record { listing = listing_same i; own = λ n. own_same n i; sinks = λ x. sink_same x i }
  where
    listing_same : last_listing (step ∷ history) ≡ last_listing history
    listing_same = listing_stays stamped history step f

    own_at : (n : Name) (b : Bool) → (is_job_file n && is_known n) ≡ b
        → (if b then file step.files n else None) ≡ (if b then file (files_after history) n else None)
    own_at n false e = refl
    own_at n true e =
        let p = and_parts (is_job_file n) (is_known n) e in
        files_stay stamped job history step n f (record { own = own_of n p.0; known = p.1 })

    own_same : (n : Name) → own_files step.files n ≡ own_files (files_after history) n
    own_same n = own_at n (is_job_file n && is_known n) refl

    legal_now : Legal stamped (step ∷ history)
    legal_now = (legal, f.obeys)

    still : (x : Stem) → IsTrue (is_stem x) → WasDone history x
        → file step.files (DoneFile x) ≡ file (files_after history) (DoneFile x)
    still x known (is_gone g) = (stays_gone stamped history step (legal, f.obeys) x known g).done ∙ sym g.done
    still x known (is_done_still d there) =
        stays_done stamped history step (legal, f.obeys) x known d there (λ w is.
        false_from_ne_true (same_name (DoneFile x) (read w)) (λ e.
        let may : IsTrue (may_remove step.act.who (read w)) = subst (Framed step.act.who (files_after history)) is f.obeys.own_files in
        true≢false (sym (job_removes step.act.who x f.obeys.named (subst (λ m. IsTrue (may_remove step.act.who m)) (sym (name_same (DoneFile x) (read w) e)) may)) ∙ f.other)))
        ∙ sym there

    sink_at : (x : Stem) (b : Bool) → shows_done (last_listing history) x ≡ b
        → (if b then file step.files (DoneFile x) else None) ≡ (if b then file (files_after history) (DoneFile x) else None)
    sink_at x false e = refl
    sink_at x true e = still x (stem_shown (last_listing history) x e) (shown_was_done stamped history legal x e)

    sink_same : (x : Stem)
        → listed_sinks (last_listing (step ∷ history)) step.files x ≡ listed_sinks (last_listing history)
        (files_after history) x
    sink_same x = ap (λ l. listed_sinks l step.files x) listing_same ∙ sink_at x (shows_done (last_listing history) x) refl

-- a step of others leaves whatever is said of what the job knows
pub job_stays : (stamped : List (List ℕ)) (P : Sight → Type 0) (history : History) (step : Step)
    → Legal stamped history → Foreign stamped job history step
    → P (sight history) → P (sight (step ∷ history))
job_stays stamped P history step legal f h = subst P (sym (sight_stays stamped history step legal f)) h
