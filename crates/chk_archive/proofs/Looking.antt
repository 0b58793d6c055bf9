-- A listing of the archive's folder by the job.
use Rattle.std.proofs.Common.{◌≡◌, ◌⊎◌, inl, inr, ℕ, true, ◌&&◌, List, ◌∷◌, Option, Some, None, Ok, Err, ap, sym, subst, ◌∙◌, refl, if◌then◌else◌}
use Rattle.std.specs.Prelude.{IsTrue, Contains, codes, is_some}
use Rattle.chk_bytes.specs.Stems.{Stem, is_count}
use Rattle.chk_site.specs.declared.acts.OutsideFault.{OutsideFault}
use Rattle.chk_site.specs.declared.acts.ActAnswer.{ActAnswer}
use Rattle.chk_site.specs.Files.{File, Files}
use Rattle.chk_site.specs.Logs.{Logs}
use Rattle.chk_site.specs.Acts.{Lists, tail_in}
use Rattle.chk_site.specs.History.{History, files_after}
use Rattle.chk_site.specs.Honest.{Honest, IsListing, Agrees, in_folder}
use Rattle.chk_site.specs.Site.{Adds, own_step, names_given}
use Rattle.chk_site.specs.Runs.{Leads}
use Rattle.chk_site.proofs.Stays.{unnamed_stays}
use Rattle.chk_site.proofs.Leads.{leads_as}
use Rattle.chk_world.specs.Names.{ArchiveFolder, Name, SegmentFile, DoneFile, spell, is_known}
use Rattle.chk_world.specs.ArchiveRuns.{last_listing, listing_by}
use Rattle.chk_world.specs.Books.{Book}
use Rattle.chk_world.specs.Rules.{Legal}
use Rattle.chk_world.specs.Places.{As}
use Rattle.chk_world.specs.Sight.{job, is_job_file, own_files, listed_sinks, shows_done, Sight, sight, AtJob, own_book}
use Rattle.chk_world.proofs.ToldCalls.{MayCall, told_ok, told_ends}
use Rattle.chk_world.proofs.SightStays.{job_stays}
use Rattle.chk_book.specs.Folders.{segment_stem}
use Rattle.chk_archive.specs.Calling.{listing, Listed}
use Rattle.chk_archive.specs.Tidying.{HasBook}
use Rattle.chk_archive.proofs.StrayNames.{segment_spelled, stem_word}

-- the rules allow it
pub list_may : (stamped : List (List ℕ)) (folder : List ℕ) (B : History → Type 0) → MayCall stamped
    (listing job folder) refl B
list_may stamped folder B before answer files logs legal h =
    record { own_files = tt; logs = tt; requests = tt; rule = (refl, tt) }

-- the archive has this book, and its folder shows these names
pub record ShowsSegments (b : Book) (names : List (List ℕ)) (v : Sight) : Type 0 where
  pub book : own_book v ArchiveFolder ≡ b
  pub shown : (k : ℕ) → IsTrue (is_count k)
      → (v.own (SegmentFile ArchiveFolder k) ≡ None) ⊎ Contains names (segment_stem k)

module _ (names : List (List ℕ)) (before : History) (answer : ActAnswer) (files : Files)
    (logs : Logs)
    (is : answer ≡ names_given names) (folder : List ℕ)
    (honest : Honest before (own_step (listing job folder) answer files logs)) where
  -- it leaves all files
  pub files_same : (w : List ℕ) → files w ≡ files_after before w
  files_same w =
      unnamed_stays before (own_step (listing job folder) answer files logs) w honest.modelled refl
      (ap (λ a. tail_in a w) is)

  pub is_listing : IsListing (files_after before) folder names
  is_listing = subst (λ a. Agrees before job (Lists folder) a) is honest.agrees

  pub own_same : (n : Name) → own_files files n ≡ own_files (files_after before) n
  own_same n = ap (λ o. if is_job_file n && is_known n then o else None) (files_same (spell n))

module _ (stamped : List (List ℕ)) (b : Book) (names : List (List ℕ)) where
  archive_sight : (before : History) (answer : ActAnswer) (files : Files) (logs : Logs) → answer
      ≡ names_given names
      → Honest before (own_step (listing job (codes "archive")) answer files logs)
      → sight (own_step (listing job (codes "archive")) answer files logs ∷ before) ≡ sight before
  archive_sight before answer files logs is honest =
      let step = own_step (listing job (codes "archive")) answer files logs in
      let listed : last_listing (step ∷ before) ≡ last_listing before =
      subst (λ a. listing_by true (Lists (codes "archive")) a (step ∷ before) (last_listing before)
      ≡ last_listing before) (sym is) refl in
      let sinks : (x : Stem) → listed_sinks (last_listing (step ∷ before)) files x ≡ listed_sinks
      (last_listing before) (files_after before) x =
      λ x. ap (λ l. listed_sinks l files x) listed
      ∙ ap (λ o. if shows_done (last_listing before) x then o else None)
      (files_same names before answer files logs is (codes "archive") honest
      (spell (DoneFile x))) in
      λ i. record {
        listing = listed i;
        own = λ n. (own_same names before answer files logs is (codes "archive") honest n) i;
        sinks = λ x. (sinks x) i;
      }

  shown_at : (before : History) (answer : ActAnswer) (files : Files) (logs : Logs) → answer
      ≡ names_given names
      → Honest before (own_step (listing job (codes "archive")) answer files logs) → (k : ℕ)
      → is_count k ≡ true
      → (own_files files (SegmentFile ArchiveFolder k) ≡ None) ⊎ Contains names (segment_stem k)
  shown_at before answer files logs is honest k count = go
      (files (spell (SegmentFile ArchiveFolder k))) refl
    where
      go : (o : Option File) → files (spell (SegmentFile ArchiveFolder k)) ≡ o
          → (own_files files (SegmentFile ArchiveFolder k) ≡ None) ⊎ Contains names (segment_stem k)
      go None e = inl (ap (λ t. if t then files
          (spell (SegmentFile ArchiveFolder k)) else None) count ∙ e)
      go (Some f) e =
          let there : files_after before (in_folder (codes "archive") (segment_stem k)) ≡ Some f =
          ap (files_after before) (sym (segment_spelled k))
          ∙ (sym (files_same names before answer files logs is (codes "archive") honest
          (spell (SegmentFile ArchiveFolder k))) ∙ e) in
          inr (((is_listing names before answer files logs is (codes "archive") honest).each
          (segment_stem k)).1
          (stem_word k count, ap is_some there))

  -- after it the job knows which segments are there
  pub archive_listed : {old new : Option History} → Listed job (codes "archive") (Ok names) old new
      → Adds old new (Leads (As stamped job) (AtJob stamped (HasBook b))
      (AtJob stamped (ShowsSegments b names)))
  archive_listed told =
      told_ok stamped (listing job (codes "archive")) refl (λ h. HasBook b (sight h))
      (λ h. ShowsSegments b names (sight h))
      (names_given names) (job_stays stamped (HasBook b))
      (list_may stamped (codes "archive") (λ h. HasBook b (sight h))) tt
      (λ before answer files logs is legal h. record {
        book = subst (HasBook b) (sym (archive_sight before answer files logs is legal.1.honest)) h;
        shown = λ k count. shown_at before answer files logs is legal.1.honest k count;
      }) told

-- a listing that was refused
pub not_listed : (stamped : List (List ℕ)) (folder : List ℕ) (P : Sight → Type 0)
    (fault : OutsideFault) {old new : Option History}
    → Listed job folder (Err fault) old new
    → Adds old new (Leads (As stamped job) (AtJob stamped P) (Legal stamped))
not_listed stamped folder P fault told =
    leads_as (λ h k. k) (λ h k. k.legal)
    (told_ends stamped (listing job folder) refl (λ h. P (sight h))
    (λ f h. Unit {0}) names_given told.0 fault
    (job_stays stamped P) (list_may stamped folder (λ h. P (sight h)))
    (λ before answer files logs is legal h. tt) (λ history h. tt) told.1 told.2)
