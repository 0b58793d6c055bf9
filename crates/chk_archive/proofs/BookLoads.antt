-- The load of the archive's book in a legal history.
use Rattle.std.proofs.Common.{◌≡◌, ℕ, false, List, [], ◌∷◌, ◌++◌, Option, Ok, Err, Result, ap, sym, subst, ◌∙◌, refl, true≢false, inl, inr}
use Rattle.std.specs.Prelude.{codes}
use Rattle.std.proofs.lemmas.Bool.{cases_Bool}
use Rattle.std.proofs.lemmas.List.{append_cancel_right}
use Rattle.std.proofs.lemmas.Option.{same_Some}
use Rattle.chk_site.specs.declared.acts.OutsideFault.{OutsideFault}
use Rattle.chk_site.specs.declared.acts.OutsideFault.TheVariants.{Outside as site_failed, NoMemory as no_memory}
use Rattle.chk_record_index.specs.Faults.{job_fault, IsOfRead}
use Rattle.chk_archive.specs.Archived.{Begun}
use Rattle.chk_site.specs.Files.{File}
use Rattle.chk_site.specs.Effect.{IsSmallFile}
use Rattle.chk_site.specs.History.{History, Every, files_after, is_stopped}
use Rattle.chk_site.specs.Site.{Adds}
use Rattle.chk_site.specs.Runs.{Leads, anyhow}
use Rattle.chk_site.proofs.Runs.{adds_as}
use Rattle.chk_site.proofs.Small.{all_small}
use Rattle.chk_replace.specs.Load.{Has}
use Rattle.chk_world.specs.Names.{ArchiveFolder, BookFile, spell, read}
use Rattle.chk_world.specs.Books.{Book, book_in}
use Rattle.chk_world.specs.Laws.{IsWholeBook}
use Rattle.chk_world.specs.Committed.{OnFile}
use Rattle.chk_world.specs.Places.{As}
use Rattle.chk_world.specs.Rules.{Legal}
use Rattle.chk_world.specs.Sight.{job, Sight, sight, own_book, AtJob}
use Rattle.chk_world.specs.JobSteps.{IsOf, ReadsFile, reads, asks, SparesFile}
use Rattle.chk_site.specs.Acts.{Deed, deed}
use Rattle.chk_world.proofs.Lifts.{owned_by}
use Rattle.chk_world.proofs.ToldCalls.{talks}
use Rattle.chk_world.proofs.NameLemmas.{read-spell}
use Rattle.chk_world.proofs.SmallFiles.{readable}
use Rattle.chk_record_index.specs.declared.fault.JobFault.{JobFault}
use Rattle.chk_record_index.specs.declared.fault.JobFault.TheVariants.{Outside, Damaged, Spent, NoMemory}
use Rattle.chk_book.specs.Folders.{book_name}
use Rattle.chk_book.specs.Loaded.{LoadedBook}
use Rattle.chk_archive.specs.Beginning.{HasBegun, Begins, only_reads}
use Rattle.chk_archive_parts.specs.Gathering.{held, held_at, CanBeRead, own_book_file}
use Rattle.chk_archive.specs.Tidying.{HasBook}
use Rattle.chk_archive_parts.proofs.OneFile.{Knows, stays_stopped, file_known, one_file}
use Rattle.chk_world.proofs.LogEnds.{legal_modelled}
use Rattle.chk_archive_parts.proofs.Beginning.{undamaged}

abbrev W : List ℕ
W = book_name (codes "archive")

pub spelled : W ≡ spell (BookFile ArchiveFolder)
unfolding spell
spelled = refl

reads_book : read W ≡ BookFile ArchiveFolder
reads_book = ap read spelled ∙ read-spell (BookFile ArchiveFolder) refl

can_read : (v : Sight) → CanBeRead v (read W)
can_read v = subst (CanBeRead v) (sym reads_book) own_book_file

book_held : (v : Sight) → book_in (held v W) ≡ own_book v ArchiveFolder
book_held v = ap (λ n. book_in (held_at v n)) reads_book

module _ (stamped : List (List ℕ)) (loaded : Book)
    (r : Result Book JobFault) {old new : Option History}
    (whole : (o : Option File) → IsSmallFile o → Adds old new
    (Leads (anyhow (SparesFile W)) (Has W o) (LoadedBook (codes "archive") o r)))
    (own : Adds old new (Every (IsOf ReadsFile))) where
  module _ (history : History) (legal : Legal stamped history) where
    abbrev v : Sight
    v = sight history

    is_held : files_after history W ≡ held v W
    is_held = file_known v W (can_read v) history refl

    small : IsSmallFile (held v W)
    small = subst IsSmallFile is_held ((all_small history
        (legal_modelled stamped history legal)).files W)

    sound : OnFile (held v W) IsWholeBook
    sound = subst (λ o. OnFile o IsWholeBook) (ap (files_after history) (sym spelled) ∙ is_held)
        ((readable stamped history legal).books ArchiveFolder)

    led : Adds old new (Leads (As stamped job) (Knows stamped v)
        (λ h. Knows stamped v h × (is_stopped h ≡ false → LoadedBook (codes "archive")
        (held v W) r h)))
    led = one_file stamped v W (can_read v) (LoadedBook (codes "archive") (held v W) r)
        (whole (held v W) small) own

  ended : (r : Result Book JobFault) (v : Sight) (h : History) →
      (is_stopped h ≡ false → own_book v ArchiveFolder ≡ loaded) → OnFile (held v W) IsWholeBook
      → Knows stamped v h × (is_stopped h ≡ false → LoadedBook (codes "archive") (held v W) r h)
      → HasBegun stamped loaded r h
  ended (Ok b) v h book sound k = record {
    legal = k.0.legal;
    may_act = k.0.may_act;
    alive = λ runs. (
      ap (λ (u : Sight). own_book u ArchiveFolder) (k.0.alive runs) ∙ book runs,
      (k.1 runs).1 ∙ (book_held v ∙ book runs),
    );
  }
  ended (Err (Damaged name at)) v h book sound k = record {
    legal = k.0.legal;
    may_act = k.0.may_act;
    alive = λ runs. undamaged (held v W) at sound (k.1 runs).1;
  }
  ended (Err (Outside call)) v h book sound k = k.0.legal
  ended (Err (Spent n)) v h book sound k = k.0.legal
  ended (Err NoMemory) v h book sound k = k.0.legal

  pub book_loaded : Adds old new (Leads (As stamped job) (AtJob stamped (HasBook loaded))
      (HasBegun stamped loaded r))
  book_loaded = record {
    told = λ history e.
        let y = own.told history e in (
          y.0,
          y.1,
          record {
            leads = λ others h.
                let w = (led history h.legal).told history e in
                let same : w.0 ≡ y.0 = append_cancel_right w.0 y.0 history
                (same_Some (w.0 ++ history) (y.0 ++ history) (sym w.1 ∙ y.1)) in
                let k = (subst (λ (a : History). Leads (As stamped job)
                (Knows stamped (sight history))
                (λ h. Knows stamped (sight history) h ×
                (is_stopped h ≡ false → LoadedBook (codes "archive")
                (held (sight history) W) r h)) a history) same w.2).leads others
                (record { legal = h.legal; may_act = h.may_act; alive = λ runs. refl }) in
                ended r (sight history) (y.0 ++ history)
                (λ runs. h.alive (ran y.0 history y.2 runs)) (sound history h.legal) k;
            own = owned_by ReadsFile quiet_read y.0 history y.2;
          },
        );
    untold = own.untold;
  }
    where
      ran : (added history : History) → Every (IsOf ReadsFile) added history → is_stopped
          (added ++ history) ≡ false
          → is_stopped history ≡ false
      ran added history made runs = elim (cases_Bool (is_stopped history)) [
        | inr so ↦ so
        | inl stopped ↦ absurd (true≢false
            (sym (stays_stopped ReadsFile added history made stopped) ∙ runs))
      ]

      quiet_read : (call : Deed) → ReadsFile call → talks call ≡ false
      quiet_read call (reads name at max) = refl
      quiet_read call (asks name) = refl

pub load_works : {old new : Option History} → Adds old new (Every (IsOf ReadsFile)) → Adds old new
    (Every (IsOf Begins))
load_works own = adds_as (Every (IsOf Begins)) own (λ added history made. go added history made)
  where
    go : (added history : History) → Every (IsOf ReadsFile) added history → Every
        (IsOf Begins) added history
    go [] history made = tt
    go (step ∷ added) history made = (
      go added history made.0,
      elim made.1 [
        | inl theirs ↦ inl theirs
        | inr mine ↦ inr
            (mine.0, only_reads (deed step.act) mine.1)
      ],
    )

-- a start that was refused
pub begin_refused : (stamped : List (List ℕ)) (loaded : Book)
    (fault : OutsideFault) {old new : Option History}
    → Adds old new (Leads (As stamped job) (Begun stamped loaded) (Legal stamped))
    → Adds old new (Leads (As stamped job) (Begun stamped loaded)
    (HasBegun stamped loaded (Err (job_fault fault))))
begin_refused stamped loaded (site_failed call) told = told
begin_refused stamped loaded no_memory told = told
