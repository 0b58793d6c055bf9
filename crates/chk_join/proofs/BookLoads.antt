-- The load of a folder's book in a legal history.
use Rattle.std.proofs.Common.{◌≡◌, ℕ, List, Option, Ok, Err, Result, ap, sym, subst}
use Rattle.std.proofs.Common.{◌∙◌, refl}
use Rattle.chk_site.specs.Files.{File}
use Rattle.chk_site.specs.Effect.{IsSmallFile}
use Rattle.chk_site.specs.Acts.{Deed, Starts}
use Rattle.chk_site.specs.History.{History, Every, files_after}
use Rattle.chk_site.specs.Site.{Adds}
use Rattle.chk_site.specs.Runs.{Leads, anyhow}
use Rattle.chk_site.proofs.Leads.{leads_as}
use Rattle.chk_site.proofs.Small.{all_small}
use Rattle.chk_replace.specs.Load.{Has}
use Rattle.chk_world.specs.Names.{Folder, BookFile, folder_text, spell}
use Rattle.chk_world.specs.Books.{book_in}
use Rattle.chk_world.specs.Laws.{IsWholeBook}
use Rattle.chk_world.specs.Committed.{OnFile}
use Rattle.chk_world.specs.Places.{As, AtTold}
use Rattle.chk_world.specs.Rules.{Legal}
use Rattle.chk_world.specs.Sight.{job, Sight, own_book, AtJob}
use Rattle.chk_world.specs.JobSteps.{IsOf, ReadsFile, reads, asks, SparesFile}
use Rattle.chk_world.proofs.Spares.{reads_own}
use Rattle.chk_world.proofs.SmallFiles.{readable}
use Rattle.chk_record_index.specs.declared.fault.JobFault.{JobFault}
use Rattle.chk_record_index.specs.declared.fault.JobFault.TheVariants.{Outside, Damaged, Spent, NoMemory}
use Rattle.chk_book.specs.Books.{book_view}
use Rattle.chk_book.specs.Folders.{book_name}
use Rattle.chk_book.specs.Loaded.{LoadedBook, book_result}
use Rattle.chk_book.specs.declared.book.Book.{Book as Struct}
use Rattle.chk_archive_parts.proofs.FromKnown.{from_known, reach}
use Rattle.chk_archive_parts.proofs.Published.{book_named}
use Rattle.chk_world.proofs.LogEnds.{legal_modelled}
use Rattle.chk_archive_parts.proofs.Beginning.{undamaged, quiet_read}

-- at Ok the folder has this book, and the job knows what it knew; it is never damaged
abbrev pub HasLoaded : List (List ℕ) → (Sight → Type 0) → Folder → Result Struct JobFault → History → Type 0
HasLoaded stamped P f (Ok b) h = AtJob stamped (λ v. P v × (own_book v f ≡ book_view b)) h
HasLoaded stamped P f (Err (Damaged name at)) h = AtTold stamped job (λ h. ⊥) h
HasLoaded stamped P f (Err fault) h = Legal stamped h

no_start : ReadsFile Starts → ⊥
no_start k = go Starts refl k
  where
    go : (call : Deed) → call ≡ Starts → ReadsFile call → ⊥
    go call is (reads name at max) = absurd (cc)
    go call is (asks name) = absurd (cc)

bottom : (stamped : List (List ℕ)) (P : Sight → Type 0) (f : Folder) (r : Result Struct JobFault) (h : History)
    → AtJob stamped (λ u. ⊥) h → HasLoaded stamped P f r h
bottom stamped P f (Ok b) h z = record { legal = z.legal; may_act = z.may_act; alive = λ runs. absurd (z.alive runs) }
bottom stamped P f (Err (Damaged name at)) h z = record { legal = z.legal; may_act = z.may_act; alive = z.alive }
bottom stamped P f (Err (Outside call)) h z = z.legal
bottom stamped P f (Err (Spent n)) h z = z.legal
bottom stamped P f (Err NoMemory) h z = z.legal

module _ (stamped : List (List ℕ)) (P : Sight → Type 0) (f : Folder) (text : List ℕ) (is : text ≡ folder_text f)
    (r : Result Struct JobFault) {old new : Option History}
    (whole : (o : Option File) → IsSmallFile o → Adds old new
    (Leads (anyhow (SparesFile (book_name text))) (Has (book_name text) o) (LoadedBook text o (book_result r))))
    (own : Adds old new (Every (IsOf ReadsFile))) where
  ended : (r : Result Struct JobFault) (o : Option File) → OnFile o IsWholeBook → (h : History)
      → AtJob stamped (λ u. P u × (u.own (BookFile f) ≡ o)) h → LoadedBook text o (book_result r) h → HasLoaded stamped P f r h
  ended (Ok b) o sound h k l = record {
    legal = k.legal;
    may_act = k.may_act;
    alive = λ runs. ((k.alive runs).0, ap book_in (k.alive runs).1 ∙ sym l.1);
  }
  ended (Err (Damaged name at)) o sound h k l =
      record { legal = k.legal; may_act = k.may_act; alive = λ runs. undamaged o at sound l.1 }
  ended (Err (Outside call)) o sound h k l = k.legal
  ended (Err (Spent n)) o sound h k l = k.legal
  ended (Err NoMemory) o sound h k l = k.legal

  pub book_loaded : Adds old new (Leads (As stamped job) (AtJob stamped P) (HasLoaded stamped P f r))
  book_loaded =
      from_known stamped ReadsFile no_start quiet_read P (HasLoaded stamped P f r) own
      (λ h k runs.
      let o : Option File = files_after h (spell (BookFile f)) in
      let Q : Sight → Type 0 = λ u. P u × (u.own (BookFile f) ≡ o) in
      let name : book_name text ≡ spell (BookFile f) = book_named f text is in
      let small : IsSmallFile o = (all_small h (legal_modelled stamped h k.legal)).files (spell (BookFile f)) in
      reach stamped h (λ h. AtJob stamped Q h × Unit {0} × Has (spell (BookFile f)) o h) (HasLoaded stamped P f r)
      (leads_as (λ g j. j) (λ g z. ended r o ((readable stamped h k.legal).books f) g z.0 z.2)
      (reads_own stamped Q (BookFile f) (record { own = refl; known = refl })
      (Has (spell (BookFile f)) o) (LoadedBook text o (book_result r))
      (subst (λ n. Adds old new (Leads (anyhow (SparesFile n)) (Has n o) (LoadedBook text o (book_result r)))) name (whole o small))
      own))
      (record { legal = k.legal; may_act = k.may_act; alive = λ runs. (k.alive runs, refl) }, tt, refl))
      (λ h z. bottom stamped P f r h z)
