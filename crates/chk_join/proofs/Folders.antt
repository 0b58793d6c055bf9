-- The books of the folders are loaded, and their archives joined.
use Rattle.std.proofs.Common.{◌≡◌, inl, inr, ℕ, Bool, true, false, ◌&&◌, List, length, [], ◌∷◌}
use Rattle.std.proofs.Common.{Option, Some, None, Ok, Err, Result, refl, sym, subst}
use Rattle.std.specs.Prelude.{Contains, nat_lt}
use Rattle.std.specs.List.{list_all}
use Rattle.std.proofs.lemmas.Bool.{and_parts}
use Rattle.chk_bytes.specs.Stems.{is_count}
use Rattle.chk_site.specs.declared.acts.OutsideFault.{OutsideFault}
use Rattle.chk_site.specs.declared.acts.OutsideFault.TheVariants.{Outside as site_failed}
use Rattle.chk_site.specs.declared.acts.OutsideFault.TheVariants.{NoMemory as no_memory}
use Rattle.chk_site.specs.Files.{Files}
use Rattle.chk_site.specs.Acts.{Deed, Removes, touches}
use Rattle.chk_site.specs.History.{History, Every, Others}
use Rattle.chk_site.specs.Site.{Adds, OutsideCause}
use Rattle.chk_site.specs.Runs.{anyhow, Leads}
use Rattle.chk_site.proofs.Runs.{adds_both}
use Rattle.chk_site.proofs.Leads.{owned_anyhow}
use Rattle.chk_replace.specs.Load.{Has}
use Rattle.chk_world.specs.Books.{Book, is_segment, is_end, is_aside, fits_version, segments_rise}
use Rattle.chk_world.specs.Books.{ends_rise, empty_book}
use Rattle.chk_world.specs.JobSteps.{IsOf, ReadsFile, SparesFile}
use Rattle.chk_world.proofs.SpelledLemmas.{book_so}
use Rattle.chk_record_index.specs.Faults.{IsOfRead, FailsLast, JobCause, job_fault}
use Rattle.chk_record_index.specs.Pieces.{AsksInPieces}
use Rattle.chk_record_index.specs.declared.fault.JobFault.{JobFault}
use Rattle.chk_record_index.specs.declared.fault.JobFault.TheVariants.{Outside, Damaged, Spent, NoMemory}
use Rattle.chk_book.specs.Folders.{book_name}
use Rattle.chk_book.specs.Loaded.{LoadedBook, IsBookOf, file_bytes}
use Rattle.chk_book.specs.Books.{book_view}
use Rattle.chk_book.specs.declared.book.Book.{Book as Struct}
use Rattle.chk_record_reader.specs.Segments.{HasFiles, AreSettled}
use Rattle.chk_record_reader.specs.Merging.{SparesBoth}
use Rattle.chk_record_reader.specs.Archives.{IsDamagedAt}
use Rattle.chk_record_reader.proofs.Frames.{reads_quiet}
use Rattle.chk_join_sources.specs.Copying.{Copies}
use Rattle.chk_join.specs.Beginning.{Begins, begins_starting, begins_reading}
use Rattle.chk_join.specs.Working.{Worked, TidiesBy, lists_joined, removes_stray, PreparesBy}
use Rattle.chk_join.specs.Working.{goes_reading, goes_tidying, goes_writing, Prepares, first_starts}
use Rattle.chk_join.specs.Working.{goes_on, job_result}
use Rattle.chk_join.specs.Joined.{archive_by, archive_in, records_of_book, records_in, RunsAll}
use Rattle.chk_join.specs.Joined.{ReadsWell, no_book, bad_records}
use Rattle.chk_join.specs.Preparing.{HasOrder, JoinedBooks, JoinsAs, Covers, IsFolderBook}
use Rattle.chk_join.specs.Preparing.{PreparedFrom}
use Rattle.chk_join.specs.declared.preparing.Prepared.{Prepared}
use Rattle.chk_archive_parts.proofs.Works.{works_as, works_fail}
use Rattle.chk_book.proofs.Works.{worked}
use Rattle.chk_join.proofs.Chain.{files_stay}

-- ---- a folder's book

-- its streams stand in order
book_ordered : (o : Option (List ℕ)) (b : Book) → IsBookOf o b → ends_rise b.ends ≡ true
book_ordered None b is = subst (λ (x : Book). ends_rise x.ends ≡ true) (sym is) refl
book_ordered (Some bytes) b is =
    let so = book_so bytes b is.0 in
    rises (is_count b.next) (nat_lt (length b.segments) 4294967296) (list_all (is_segment b.next) b.segments)
    (segments_rise b.segments) (nat_lt (length b.ends) 4294967296) (list_all is_end b.ends) (ends_rise b.ends)
    (is_aside b.next b.segments b.aside && fits_version so.0 b) so.1
  where
    rises : (c d e f g h i j : Bool) → (c && (d && (e && (f && (g && (h && (i && j))))))) ≡ true → i ≡ true
    rises c d e f g h i j k =
        let p = and_parts c (d && (e && (f && (g && (h && (i && j)))))) k in
        let q = and_parts d (e && (f && (g && (h && (i && j))))) p.1 in
        let r = and_parts e (f && (g && (h && (i && j)))) q.1 in
        let s = and_parts f (g && (h && (i && j))) r.1 in
        let t = and_parts g (h && (i && j)) s.1 in
        (and_parts i j (and_parts h (i && j) t.1).1).0

pub has_order : (held : Files) (folder : List ℕ) (b : Book) → IsFolderBook held folder b → HasOrder b
has_order held folder b is = book_ordered (file_bytes (held (book_name folder))) b is.book

-- a load of it, beside the files
pub load_told : (all : List (List ℕ)) (held : Files) (segment folder : List ℕ) → AreSettled all held
    → Contains all (book_name folder) → (r : Result Book JobFault) {old new : Option History}
    → Adds old new (Every (IsOf ReadsFile))
    → Adds old new (Leads (anyhow (SparesFile (book_name folder))) (Has (book_name folder) (held (book_name folder)))
    (LoadedBook folder (held (book_name folder)) r))
    → Adds old new (Leads (anyhow (SparesBoth all segment)) (HasFiles all held)
    (λ h. HasFiles all held h × LoadedBook folder (held (book_name folder)) r h))
load_told all held segment folder settled among r own told =
    adds_both (Leads (anyhow (SparesBoth all segment)) (HasFiles all held)
    (λ h. HasFiles all held h × LoadedBook folder (held (book_name folder)) r h)) own told
    (λ added history made x. record {
      leads = λ others had. (
        files_stay ReadsFile all held segment settled (λ w is call k. reads_quiet w call k) added history made others had,
        x.leads (one_file added history others) (had (book_name folder) among),
      );
      own = owned_anyhow added history;
    })
  where
    one_file : (added history : History) → Others (SparesBoth all segment) added history
        → Others (SparesFile (book_name folder)) added history
    one_file [] history s = tt
    one_file (step ∷ added) history s =
        (one_file added history s.0, λ theirs. (s.1 theirs).0 (book_name folder) among)

-- at Ok it is the folder's book
pub folder_loaded : (held : Files) (folder : List ℕ) (b : Struct) (h : History)
    → LoadedBook folder (held (book_name folder)) (Ok (book_view b)) h → IsFolderBook held folder (book_view b)
folder_loaded held folder b h x = record { is = x.1; book = x.2 }

pub left_not_loaded : (held : Files) (left right : List ℕ) (next : ℕ) (fault : JobFault) → IsOfRead fault → (h : History)
    → LoadedBook left (held (book_name left)) (Err fault) h → PreparedFrom held left right next (Err fault) h
left_not_loaded held left right next (Outside call) only h x = tt
left_not_loaded held left right next (Damaged name at) only h x = no_book left (inr (inl refl)) x.0 x.1
left_not_loaded held left right next (Spent n) only h x = absurd only
left_not_loaded held left right next NoMemory only h x = tt

pub right_not_loaded : (held : Files) (left right : List ℕ) (next : ℕ) (fault : JobFault) → IsOfRead fault → (h : History)
    → LoadedBook right (held (book_name right)) (Err fault) h → PreparedFrom held left right next (Err fault) h
right_not_loaded held left right next (Outside call) only h x = tt
right_not_loaded held left right next (Damaged name at) only h x = no_book right (inr (inr refl)) x.0 x.1
right_not_loaded held left right next (Spent n) only h x = absurd only
right_not_loaded held left right next NoMemory only h x = tt

-- ---- both

module _ (held : Files) (left right : List ℕ) (a b : Book) (next : ℕ) (ia : IsFolderBook held left a)
    (ib : IsFolderBook held right b) where
  well : (folder : List ℕ) (c : Book) → IsFolderBook held folder c → RunsAll folder c held → ReadsWell held folder
  well folder c is runs = record {
    book = subst (IsBookOf (file_bytes (held (book_name folder)))) is.is is.book;
    runs = subst (λ (x : Book). RunsAll folder x held) is.is runs;
  }

  as_folders : (result : Result Prepared JobFault) (h : History)
      → JoinsAs (archive_by left a held) (archive_by right b held) (records_of_book left a held)
      (records_of_book right b held)
      next result h
      → JoinsAs (archive_in held left) (archive_in held right) (records_in held left)
      (records_in held right) next result h
  as_folders result h x =
      subst (λ (c : Book). JoinsAs (archive_by left c held) (archive_in held right)
      (records_of_book left c held)
      (records_in held right) next result h) ia.is
      (subst (λ (d : Book). JoinsAs (archive_by left a held) (archive_by right d held)
      (records_of_book left a held)
      (records_of_book right d held) next result h) ib.is x)

  pub folders_joined : (result : Result Prepared JobFault) (h : History) → JoinedBooks held left a right b next result h
      → PreparedFrom held left right next result h
  folders_joined (Ok p) h x =
      (well left a ia x.0, (well right b ib x.1.0, as_folders (Ok p) h x.1.1))
  folders_joined (Err (Spent n)) h x =
      (well left a ia x.0, (well right b ib x.1.0, as_folders (Err (Spent n)) h x.1.1))
  folders_joined (Err (Damaged name at)) h (s, inl x) =
      bad_records left (inl refl) s (subst (λ (c : Book). IsDamagedAt left c held s name at) ia.is x)
  folders_joined (Err (Damaged name at)) h (s, inr x) =
      bad_records right (inr refl) s (subst (λ (c : Book). IsDamagedAt right c held s name at) ib.is x)
  folders_joined (Err (Outside call)) h x = tt
  folders_joined (Err NoMemory) h x = tt

-- ---- the tidying leaves the files

pub quiet_tidy : (all : List (List ℕ)) (held : Files) (left right : List ℕ) (b : Book) → Covers all held left right
    → (w : List ℕ) → Contains all w → (call : Deed) → TidiesBy b call → touches call w ≡ false
quiet_tidy all held left right b covers w is call lists_joined = refl
quiet_tidy all held left right b covers w is call (removes_stray v stray) =
    subst (λ u. touches (Removes u) w ≡ false) (sym stray.2) (covers.apart stray.0 w is)

-- ---- own calls, and their faults

pub copies_prepare : (b : Book) (call : Deed) → Copies b.next call → PreparesBy b call
copies_prepare b call (inl k) = goes_reading call k
copies_prepare b call (inr k) = goes_writing call k

pub tidies_prepare : (b : Book) (call : Deed) → TidiesBy b call → PreparesBy b call
tidies_prepare b call k = goes_tidying call k

pub begins_prepare : (call : Deed) → Begins call → Prepares call
begins_prepare call begins_starting = first_starts
begins_prepare call (begins_reading c k) = goes_on empty_book c (goes_reading c k)

pub reads_prepare : {T : Type 0} (b : Book) (r : Result T JobFault) {old new : Option History}
    → Adds old new (Every (IsOf ReadsFile)) → Adds old new (Every AsksInPieces) → Adds old new (FailsLast r)
    → Adds old new (Worked (PreparesBy b) r)
reads_prepare b r own pieces last =
    works_as ReadsFile (PreparesBy b) (λ call k. goes_reading call k) r (worked ReadsFile r own pieces last)

pub cause_job : (T : Type 0) (fault : OutsideFault) (before now : ℕ) → OutsideCause {T = Unit {0}} before now (Err fault)
    → JobCause {T = T} before now (Err (job_fault fault))
cause_job T (site_failed call) before now x = x
cause_job T no_memory before now x = x

-- a tidying that was refused
pub not_tidied : (held : Files) (left right : List ℕ) (next : ℕ) (fault : OutsideFault) (h : History)
    → PreparedFrom held left right next (Err (job_fault fault)) h
not_tidied held left right next (site_failed call) h = tt
not_tidied held left right next no_memory h = tt

pub not_tidied_works : (b : Book) (fault : OutsideFault) {old new : Option History}
    → Adds old new (Worked {T = Unit {0}} (TidiesBy b) (job_result (Err fault)))
    → Adds old new (Worked {T = Prepared} (PreparesBy b) (Err (job_fault fault)))
not_tidied_works b fault told =
    works_fail (Unit {0}) Prepared (PreparesBy b) (job_fault fault)
    (works_as (TidiesBy b) (PreparesBy b) (tidies_prepare b) (Err (job_fault fault)) told)
