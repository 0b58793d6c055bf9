-- Several files that the job reads are those that it knows.
use Rattle.std.proofs.Common.{◌≡◌, ℕ, Bool, true, false, List, ◌∷◌, ◌++◌, Option, Ok, Err, Result, ap, sym, subst, ◌∙◌, refl, true≢false}
use Rattle.std.specs.Prelude.{Contains}
use Rattle.chk_bytes.specs.Stems.{Stem}
use Rattle.chk_site.specs.Files.{File}
use Rattle.chk_site.specs.History.{Step, History, Every, Others, is_stopped}
use Rattle.chk_site.specs.Site.{Adds}
use Rattle.chk_site.specs.Runs.{Leads, anyhow}
use Rattle.chk_site.proofs.Runs.{adds_both, adds_as}
use Rattle.chk_site.proofs.Leads.{owned_anyhow}
use Rattle.chk_replace.specs.Load.{Has}
use Rattle.chk_chunk.specs.Keys.{Chunk}
use Rattle.chk_world.specs.Names.{ArchiveFolder, Name, BookFile, SegmentFile, DoneFile, spell, read}
use Rattle.chk_world.specs.Places.{As, Foreign}
use Rattle.chk_world.specs.Rules.{Legal}
use Rattle.chk_world.specs.Sight.{job, shows_done, Sight, sight, AtJob}
use Rattle.chk_world.specs.JobSteps.{IsOf, ReadsFile, SparesFile}
use Rattle.chk_world.proofs.NameLemmas.{spell-read}
use Rattle.chk_world.proofs.SightStays.{WasDone, stem_shown, shown_was_done, was_done_stays}
use Rattle.chk_world.proofs.Spares.{own_spared, done_spared}
use Rattle.chk_world.proofs.Lifts.{lift_reads}
use Rattle.chk_record_index.specs.Heads.{Head}
use Rattle.chk_record_index.specs.declared.fault.JobFault.{JobFault}
use Rattle.chk_record_index.specs.declared.fault.JobFault.TheVariants.{Outside, Damaged, Spent, NoMemory}
use Rattle.chk_record_reader.specs.Spans.{StaysAtOk}
use Rattle.chk_record_reader.specs.Segments.{HasFiles, SparesFiles}
use Rattle.chk_record_reader.specs.declared.reader.RecordReader.{RecordReader}
use Rattle.chk_record_reader.proofs.Frames.{spares_one}
use Rattle.chk_record_reader.proofs.AllRead.{adds_all}
use Rattle.chk_archive_parts.specs.Gathering.{held, CanBeRead, own_book_file, own_segment, shown_sink, AreSound}
use Rattle.chk_archive_parts.specs.Fetching.{IsRecordAt, CanFetch, Fetched, CanFetchAll, FetchedAll}
use Rattle.chk_archive_parts.proofs.OneFile.{stays_stopped, file_known, can_still}
use Rattle.chk_archive_parts.proofs.Fetches.{W, one_of_files}

-- ---- a fetch among all files

module _ (v : Sight) (files : List (List ℕ)) (heads : List Head) (i : ℕ) (c : Chunk)
    (sound : AreSound v files) (is : IsRecordAt v files heads i c) (r t : RecordReader) where
  abbrev F : List ℕ
  F = W v files heads i c sound is

  said : (result : Result (Unit {0}) JobFault) (added history : History)
      → Leads (anyhow (SparesFile F)) (CanFetch v files heads i r) (Fetched v files heads i c t result) added history
      → ((w : List ℕ) → Leads (anyhow (SparesFile w)) (Has w (held v w)) (StaysAtOk w (held v w) result) added history)
      → Others (SparesFiles files) added history → CanFetchAll v files r history
      → FetchedAll v files c t result (added ++ history)
  said (Ok value) added history x ys s can =
      let one = one_of_files v files heads i c sound is in
      let y = x.leads (spares_one files F one added history s) (can.0 F one, can.1) in
      ((λ w there. (ys w).leads (spares_one files w there added history s) (can.0 w there), y.0), y.1)
  said (Err (Outside call)) added history x ys s can = tt
  said (Err (Damaged name at)) added history x ys s can =
      let one = one_of_files v files heads i c sound is in
      x.leads (spares_one files F one added history s) (can.0 F one, can.1)
  said (Err (Spent n)) added history x ys s can = tt
  said (Err NoMemory) added history x ys s can = tt

  pub fetch_all : (result : Result (Unit {0}) JobFault) {old new : Option History}
      → Adds old new (Leads (anyhow (SparesFile F)) (CanFetch v files heads i r) (Fetched v files heads i c t result))
      → ((w : List ℕ) (file : Option File)
      → Adds old new (Leads (anyhow (SparesFile w)) (Has w file) (StaysAtOk w file result)))
      → Adds old new (Leads (anyhow (SparesFiles files)) (CanFetchAll v files r) (FetchedAll v files c t result))
  fetch_all result raw stays =
      adds_all (Leads (anyhow (SparesFiles files)) (CanFetchAll v files r) (FetchedAll v files c t result))
      raw (λ w. stays w (held v w))
      (λ added history x ys. record {
        leads = λ s can. said result added history x ys s can;
        own = owned_anyhow added history;
      })

-- ---- what reads of these files promise they do in every legal history

module _ (stamped : List (List ℕ)) (P : Sight → Type 0) (v : Sight) (files : List (List ℕ)) (sound : AreSound v files)
    (listing : (u : Sight) → P u → u.listing ≡ v.listing)
    (same : (u : Sight) → P u → (w : List ℕ) → Contains files w → held u w ≡ held v w) (B : History → Type 0) where
  -- the shown sinks were done
  abbrev AreDone : History → Type 0
  AreDone h = (x : Stem) → shows_done v.listing x ≡ true → WasDone h x

  stay_done : (before : History) (step : Step) → Legal stamped (step ∷ before) → AreDone before → AreDone (step ∷ before)
  stay_done before step legal q x shown =
      was_done_stays stamped before step legal x (stem_shown v.listing x shown) (q x shown)

  spared : (before : History) (step : Step) → Legal stamped before → AreDone before → Foreign stamped job before step
      → SparesFiles files before step
  spared before step legal q f w one = go (read w) refl (sound w one).can
    where
      named : (n : Name) → read w ≡ n → SparesFile (spell n) before step → SparesFile w before step
      named n e = subst (λ m. SparesFile m before step) (sym (sym (spell-read w) ∙ ap spell e))

      go : (n : Name) → read w ≡ n → CanBeRead v n → SparesFile w before step
      go n e own_book_file =
          named (BookFile ArchiveFolder) e
          (own_spared stamped (BookFile ArchiveFolder) (record { own = refl; known = refl }) before step legal f)
      go n e (own_segment k count) =
          named (SegmentFile ArchiveFolder k) e
          (own_spared stamped (SegmentFile ArchiveFolder k) (record { own = refl; known = count }) before step legal f)
      go n e (shown_sink x shown) =
          named (DoneFile x) e (done_spared stamped x (stem_shown v.listing x shown) before step legal f (q x shown))

  there : (h : History) → P (sight h) → HasFiles files (held v) h
  there h p w one =
      file_known (sight h) w (can_still v (sight h) (read w) (listing (sight h) p) (sound w one).can) h refl
      ∙ same (sight h) p w one

  were_done : (h : History) → Legal stamped h → P (sight h) → AreDone h
  were_done h legal p x shown =
      shown_was_done stamped h legal x (ap (λ l. shows_done l x) (listing (sight h) p) ∙ shown)

  abbrev Kept : History → History → Type 0
  Kept = Leads (As stamped job) (λ h. AtJob stamped P h × AreDone h × HasFiles files (held v) h)
      (λ h. AtJob stamped P h × AreDone h × B h)

  abbrev Stays : History → History → Type 0
  Stays = Leads (As stamped job) (λ h. AtJob stamped P h × Unit {0} × Unit {0})
      (λ h. AtJob stamped P h × Unit {0} × Unit {0})

  stays : {old new : Option History} → Adds old new (Every (IsOf ReadsFile)) → Adds old new Stays
  stays own =
      lift_reads stamped P (λ h. Unit {0}) (λ before step. Unit {0}) (λ h. Unit {0}) (λ h. Unit {0})
      (λ before step legal q. tt) (λ before step legal q f. tt)
      (adds_as (Leads (anyhow (λ before step. Unit {0})) (λ h. Unit {0}) (λ h. Unit {0})) own
      (λ added history made. record { leads = λ s h. tt; own = owned_anyhow added history })) own

  pub reads_all : {old new : Option History}
      → Adds old new (Leads (anyhow (SparesFiles files)) (HasFiles files (held v)) B) → Adds old new (Every (IsOf ReadsFile))
      → Adds old new (Leads (As stamped job) (AtJob stamped P)
      (λ h. AtJob stamped P h × (is_stopped h ≡ false → B h)))
  reads_all raw own =
      adds_both (Leads (As stamped job) (AtJob stamped P) (λ h. AtJob stamped P h × (is_stopped h ≡ false → B h)))
      (adds_both (λ added history. Kept added history × Stays added history)
      (lift_reads stamped P AreDone (SparesFiles files) (HasFiles files (held v)) B stay_done spared raw own)
      (stays own) (λ added history x y. (x, y))) own
      (λ added history xy made. record {
        leads = λ others h. go added history xy.0 xy.1 made others h (is_stopped history) refl;
        own = xy.0.own;
      })
    where
      go : (added history : History) → Kept added history → Stays added history → Every (IsOf ReadsFile) added history
          → Others (Foreign stamped job) added history → AtJob stamped P history → (b : Bool) → is_stopped history ≡ b
          → AtJob stamped P (added ++ history) × (is_stopped (added ++ history) ≡ false → B (added ++ history))
      go added history x y made others h false e =
          let p = h.alive e in
          let z = x.leads others (h, were_done history h.legal p, there history p) in
          (z.0, λ r. z.2)
      go added history x y made others h true e = (
        (y.leads others (h, tt, tt)).0,
        λ r. absurd (true≢false (sym (stays_stopped ReadsFile added history made e) ∙ r)),
      )
