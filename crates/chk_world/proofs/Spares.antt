-- What the raw clauses suppose of others holds of each that obeys.
use Rattle.std.proofs.Common.{◌≡◌, ℕ, false, List, Option, refl, sym, subst, ◌∙◌, true≢false}
use Rattle.std.specs.Prelude.{IsTrue}
use Rattle.std.proofs.lemmas.Bool.{false_from_ne_true}
use Rattle.chk_bytes.specs.Stems.{Stem, is_stem}
use Rattle.chk_site.specs.Files.{File}
use Rattle.chk_site.specs.History.{Step, History, Every, files_after}
use Rattle.chk_site.specs.Site.{Adds}
use Rattle.chk_site.specs.Runs.{Leads, anyhow}
use Rattle.chk_world.specs.Names.{Folder, Name, SegmentFile, DoneFile, read, spell, is_known}
use Rattle.chk_world.specs.Jobs.{is_named}
use Rattle.chk_world.specs.Rules.{Legal, Framed, may_remove}
use Rattle.chk_world.specs.Places.{Foreign, As, IsOwn}
use Rattle.chk_world.proofs.NameLemmas.{read-spell}
use Rattle.chk_world.proofs.NameTests.{same_name, name_same}
use Rattle.chk_world.proofs.Frames.{files_stay}
use Rattle.chk_world.specs.Sight.{job, Sight, sight, AtJob}
use Rattle.chk_world.specs.JobSteps.{IsOf, ReadsFile, WritesTo, SparesFile}
use Rattle.chk_world.proofs.DoneSinks.{stays_done, stays_gone}
use Rattle.chk_world.proofs.SightStays.{WasDone, is_done_still, is_gone, was_done_stays, job_removes}
use Rattle.chk_world.proofs.Lifts.{with_own, lift_reads, lift_writes}

-- the job's own files
pub own_spared : (stamped : List (List ℕ)) (n : Name) → IsOwn job n
    → (before : History) (step : Step) → Legal stamped before → Foreign stamped job before step
    → SparesFile (spell n) before step
own_spared stamped n own before step legal f = files_stay stamped job before step n f own

-- a sink that was done
pub done_spared : (stamped : List (List ℕ)) (x : Stem) → IsTrue (is_stem x)
    → (before : History) (step : Step) → Legal stamped before → Foreign stamped job before step
    → WasDone before x → SparesFile (spell (DoneFile x)) before step
done_spared stamped x known before step legal f (is_gone g) = (stays_gone stamped before step (legal, f.obeys) x known g).done ∙ sym g.done
done_spared stamped x known before step legal f (is_done_still d there) =
    stays_done stamped before step (legal, f.obeys) x known d there (λ w is.
    false_from_ne_true (same_name (DoneFile x) (read w)) (λ e.
    let may : IsTrue (may_remove step.act.who (read w)) = subst (Framed step.act.who (files_after before)) is f.obeys.own_files in
    true≢false (sym (job_removes step.act.who x f.obeys.named (subst (λ m. IsTrue (may_remove step.act.who m)) (sym (name_same (DoneFile x) (read w) e)) may)) ∙ f.other)))
    ∙ sym there

-- ---- so a call that reads a done sink, or a file of the job's own, is one over legal histories

pub reads_done : (stamped : List (List ℕ)) (P : Sight → Type 0) (x : Stem) → IsTrue (is_stem x)
    → (A B : History → Type 0) {old new : Option History}
    → Adds old new (Leads (anyhow (SparesFile (spell (DoneFile x)))) A B)
    → Adds old new (Every (IsOf ReadsFile))
    → Adds old new (Leads (As stamped job) (λ h. AtJob stamped P h × WasDone h x × A h) (λ h. AtJob stamped P h × WasDone h x × B h))
reads_done stamped P x known A B raw own =
    lift_reads stamped P (λ h. WasDone h x) (SparesFile (spell (DoneFile x))) A B
    (λ before step legal q. was_done_stays stamped before step legal x known q)
    (λ before step legal q f. done_spared stamped x known before step legal f q) raw own

pub reads_own : (stamped : List (List ℕ)) (P : Sight → Type 0) (n : Name) → IsOwn job n
    → (A B : History → Type 0) {old new : Option History}
    → Adds old new (Leads (anyhow (SparesFile (spell n))) A B)
    → Adds old new (Every (IsOf ReadsFile))
    → Adds old new (Leads (As stamped job) (λ h. AtJob stamped P h × Unit {0} × A h) (λ h. AtJob stamped P h × Unit {0} × B h))
reads_own stamped P n mine A B raw own =
    lift_reads stamped P (λ h. Unit {0}) (SparesFile (spell n)) A B (λ before step legal q. tt)
    (λ before step legal q f. own_spared stamped n mine before step legal f) raw own

-- What the job knows of all but a segment that no book names stays over a call that writes that
-- segment.
pub writes_segment : (stamped : List (List ℕ)) (P : Sight → Type 0) (folder : Folder) (k : ℕ)
    → IsTrue (is_known (SegmentFile folder k)) → (A B : History → Type 0) {old new : Option History}
    → ((history : History) → P (sight history) → is_named (files_after history) (SegmentFile folder k) ≡ false)
    → ((v : Sight) (o : Option File) → P v → P (with_own v (SegmentFile folder k) o))
    → Adds old new (Leads (anyhow (SparesFile (spell (SegmentFile folder k)))) A B)
    → Adds old new (Every (IsOf (WritesTo (spell (SegmentFile folder k)))))
    → Adds old new (Leads (As stamped job) (λ h. AtJob stamped P h × Unit {0} × A h) (λ h. AtJob stamped P h × Unit {0} × B h))
writes_segment stamped P folder k known A B unnamed free raw own =
    lift_writes folder k known (spell (SegmentFile folder k)) (read-spell (SegmentFile folder k) known) stamped P (λ h. Unit {0}) (SparesFile (spell (SegmentFile folder k))) A B
    unnamed free (λ before step legal q. tt) (λ before step legal q f. own_spared stamped (SegmentFile folder k) (record { own = refl; known = known }) before step legal f) raw own
