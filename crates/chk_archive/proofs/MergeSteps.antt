-- A call that reads files and writes a segment that no book names keeps what the job knows beside
-- it, whatever others do.
use Rattle.std.proofs.Common.{◌≡◌, inl, inr, ℕ, false, List, [], ◌∷◌, ◌++◌, Option, subst, refl}
use Rattle.std.specs.Prelude.{IsTrue, codes}
use Rattle.chk_bytes.specs.Stems.{is_count}
use Rattle.chk_site.specs.Files.{File}
use Rattle.chk_site.specs.Acts.{Deed, Starts}
use Rattle.chk_site.specs.History.{Step, History, Every, Others, files_after}
use Rattle.chk_site.specs.Site.{Adds}
use Rattle.chk_site.specs.Runs.{Leads, anyhow}
use Rattle.chk_site.proofs.Runs.{adds_both}
use Rattle.chk_site.proofs.Leads.{owned_anyhow}
use Rattle.chk_world.specs.Names.{ArchiveFolder, SegmentFile, spell}
use Rattle.chk_world.specs.Jobs.{is_named}
use Rattle.chk_world.specs.Places.{As, Foreign}
use Rattle.chk_world.specs.Rules.{Legal}
use Rattle.chk_world.specs.Sight.{job, Sight, sight, AtJob}
use Rattle.chk_world.specs.JobSteps.{IsOf, ReadsFile, reads, asks, WritesTo, ReadsOrWrites}
use Rattle.chk_world.proofs.Lifts.{with_own, lift_reads, owned_by}
use Rattle.chk_world.proofs.Spares.{writes_segment}
use Rattle.chk_world.proofs.ToldCalls.{talks}
use Rattle.chk_book.specs.Folders.{segment_name}
use Rattle.chk_archive_parts.proofs.OneSegment.{segment_spelled, quiet_write}
use Rattle.chk_world.proofs.Lifts.{no_write_starts}
use Rattle.chk_archive_parts.proofs.OneStep.{single, single_leads}

pub no_merge_starts : (w : List ℕ) → ReadsOrWrites w Starts → ⊥
no_merge_starts w (inl k) = elim k [ ]
no_merge_starts w (inr k) = no_write_starts w k

pub quiet_merging : (w : List ℕ) (call : Deed) → ReadsOrWrites w call → talks call ≡ false
quiet_merging w call (inl (reads name at max)) = refl
quiet_merging w call (inl (asks name)) = refl
quiet_merging w call (inr k) = quiet_write w call k

module _ (stamped : List (List ℕ)) (P : Sight → Type 0) (k : ℕ) (count : IsTrue (is_count k))
    (unnamed : (history : History) → P (sight history)
    → is_named (files_after history) (SegmentFile ArchiveFolder k) ≡ false)
    (free : (v : Sight) (o : Option File) → P v → P (with_own v (SegmentFile ArchiveFolder k) o)) where
  abbrev W : List ℕ
  W = segment_name (codes "archive") k

  abbrev None_ : History → Step → Type 0
  None_ before step = Unit {0}

  abbrev Any_ : History → Type 0
  Any_ h = Unit {0}

  abbrev Both : History → Type 0
  Both h = AtJob stamped P h × Any_ h × Any_ h

  module _ (before : History) (step : Step) (theirs : step.own ≡ false → Foreign stamped job before step)
      (at : AtJob stamped P before) where
    reading : IsOf ReadsFile before step → AtJob stamped P (step ∷ before)
    reading kind =
        (single_leads stamped before step Both Both
        (lift_reads stamped P Any_ None_ Any_ Any_ (λ b s legal q. tt) (λ b s legal q f. tt)
        (single before step (Leads (anyhow None_) Any_ Any_)
        (record { leads = λ s h. tt; own = owned_anyhow (step ∷ []) before }))
        (single before step (Every (IsOf ReadsFile)) (tt, kind))) theirs (at, tt, tt)).0

    writing : IsOf (WritesTo W) before step → AtJob stamped P (step ∷ before)
    writing kind =
        (single_leads stamped before step Both Both
        (writes_segment stamped P ArchiveFolder k count Any_ Any_ unnamed free
        (single before step (Leads (anyhow _) Any_ Any_)
        (record { leads = λ s h. tt; own = owned_anyhow (step ∷ []) before }))
        (single before step (Every (IsOf (WritesTo (spell (SegmentFile ArchiveFolder k)))))
        (tt, subst (λ w. IsOf (WritesTo w) before step) (segment_spelled k) kind))) theirs (at, tt, tt)).0

    one_step : IsOf (ReadsOrWrites W) before step → AtJob stamped P (step ∷ before)
    one_step (inl other) = reading (inl other)
    one_step (inr (own, inl k)) = reading (inr (own, k))
    one_step (inr (own, inr k)) = writing (inr (own, k))

  keeps : (added history : History) → Every (IsOf (ReadsOrWrites W)) added history
      → Others (Foreign stamped job) added history → AtJob stamped P history
      → AtJob stamped P (added ++ history)
  keeps [] history every others at = at
  keeps (step ∷ added) history every others at =
      one_step (added ++ history) step others.1 (keeps added history every.0 others.0 at) every.1

  module _ (S : History → Step → Type 0)
      (spares : (before : History) (step : Step) → Legal stamped before → Foreign stamped job before step
      → S before step) where
    others_hold : (added history : History) → Every (IsOf (ReadsOrWrites W)) added history
        → Others (Foreign stamped job) added history → AtJob stamped P history → Others S added history
    others_hold [] history every others at = tt
    others_hold (step ∷ added) history every others at = (
      others_hold added history every.0 others.0 at,
      λ theirs. spares (added ++ history) step (keeps added history every.0 others.0 at).legal (others.1 theirs),
    )

    -- so what the call promises of files it promises in every legal history
    pub over_merge : (A B : History → Type 0) {old new : Option History}
        → Adds old new (Leads (anyhow S) A B) → Adds old new (Every (IsOf (ReadsOrWrites W)))
        → Adds old new (Leads (As stamped job) (λ h. AtJob stamped P h × A h) (λ h. AtJob stamped P h × B h))
    over_merge A B raw own =
        adds_both (Leads (As stamped job) (λ h. AtJob stamped P h × A h) (λ h. AtJob stamped P h × B h)) raw own
        (λ added history led made. record {
          leads = λ others h. (
            keeps added history made others h.0,
            led.leads (others_hold added history made others h.0) h.1,
          );
          own = owned_by (ReadsOrWrites W) (quiet_merging W) added history made;
        })
