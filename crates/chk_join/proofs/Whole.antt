-- A join from its start to its end.
use Rattle.std.proofs.Common.{◌≡◌, inl, inr, ℕ, zero, suc, false, List, [], ◌∷◌, ◌++◌, map, Option}
use Rattle.std.proofs.Common.{Ok, Err, Result, refl, sym, subst, ◌∙◌, arith, true≢false, bytes_eq}
use Rattle.std.specs.Prelude.{Contains, codes}
use Rattle.chk_site.specs.Files.{Files}
use Rattle.chk_site.specs.Acts.{Deed, touches}
use Rattle.chk_site.specs.History.{History, Every, Others}
use Rattle.chk_site.specs.Honest.{in_folder}
use Rattle.chk_site.specs.Site.{Adds}
use Rattle.chk_site.specs.Runs.{anyhow, Leads}
use Rattle.chk_site.proofs.Runs.{adds_both}
use Rattle.chk_site.proofs.Leads.{owned_anyhow}
use Rattle.chk_site.proofs.Stays.{unnamed_stays}
use Rattle.chk_replace.specs.Load.{Has}
use Rattle.chk_replace.specs.Replace.{tmp, LeavesBoth}
use Rattle.chk_world.specs.Books.{Segment, Book}
use Rattle.chk_world.specs.JobSteps.{IsOf, WritesTo, removes, creates, appends, syncs, SparesFile}
use Rattle.chk_record_index.specs.declared.fault.JobFault.{JobFault}
use Rattle.chk_record_index.specs.declared.fault.JobFault.TheVariants.{Outside, Damaged, Spent, NoMemory}
use Rattle.chk_book.specs.Folders.{book_name, segment_name, segment_stem}
use Rattle.chk_book.specs.Loaded.{LoadedBook, IsBookOf, file_bytes}
use Rattle.chk_record_index.specs.Faults.{IsOfRead}
use Rattle.chk_record_reader.specs.Segments.{HasFiles, AreSettled}
use Rattle.chk_record_reader.specs.Merging.{SparesBoth}
use Rattle.chk_record_reader.proofs.Frames.{reads_quiet}
use Rattle.chk_join_sources.specs.Copying.{joined_segment}
use Rattle.chk_join.specs.Beginning.{Begins, begins_starting, begins_reading}
use Rattle.chk_join.specs.Working.{PreparesBy, goes_reading, goes_tidying, goes_writing, Prepares}
use Rattle.chk_join.specs.Working.{first_starts, goes_on}
use Rattle.chk_join.specs.Joined.{joined_folder, folder_book, archive_files, reads_of, IsOfFolders}
use Rattle.chk_join.specs.Joined.{of_joined, of_left, of_right, LeavesFolders, archive_in}
use Rattle.chk_join.specs.Joined.{records_in, no_book}
use Rattle.chk_join.specs.Preparing.{Covers, IsFolderBook, JoinsAs, PreparedFrom, PreparedSo}
use Rattle.chk_join.specs.declared.preparing.Prepared.{Prepared}
use Rattle.chk_join.proofs.Begun.{joined_book}
use Rattle.chk_join.proofs.Chain.{files_stay}
use Rattle.chk_join.proofs.Folders.{quiet_tidy}
use Rattle.chk_join.proofs.RunFacts.{none_in}
use Rattle.chk_archive_parts.proofs.InTurn.{from_both}

-- ---- what is supposed of others

-- the files that are read are of the three folders
pub named_in : (files : Files) (left right folder : List ℕ) → ((name : List ℕ) → IsOfFolders left right (in_folder folder name))
    → (w : List ℕ) → Contains (archive_files files folder) w → IsOfFolders left right w
named_in files left right folder of w (zero, low, at) = subst (IsOfFolders left right) at (of (codes "book"))
named_in files left right folder of w (suc k, low, at) =
    go (folder_book files folder).segments (k, omega (arith, low), at)
  where
    go : (gs : List Segment) → Contains (map (λ (g : Segment). segment_name folder g.number) gs) w → IsOfFolders left right w
    go [] one = absurd (none_in w one)
    go (g ∷ gs) (zero, low, at) = subst (IsOfFolders left right) at (of (segment_stem g.number))
    go (g ∷ gs) (suc k, low, at) = go gs (k, omega (arith, low), at)

pub is_read : (files : Files) (left right w : List ℕ) → Contains (reads_of files left right) w → IsOfFolders left right w
is_read files left right w (zero, low, at) = subst (IsOfFolders left right) at (of_joined (codes "book"))
is_read files left right w (suc k, low, at) =
    elim (from_both (archive_files files left) (archive_files files right) w (k, omega (arith, low), at)) [
      | inl one ↦ named_in files left right left (λ n. of_left n) w one
      | inr one ↦ named_in files left right right (λ n. of_right n) w one
    ]

pub is_first : (files : Files) (left right : List ℕ) → Contains (reads_of files left right) joined_book
is_first files left right = (0, omega arith, refl)

-- so others spare them, and the segment under writing
pub spares_both : (K : Deed → Type 0) (files : Files) (left right : List ℕ) (n : ℕ) (added history : History)
    → Every (IsOf K) added history → Others (LeavesFolders left right) added history
    → Others (SparesBoth (reads_of files left right) (joined_segment n)) added history
spares_both K files left right n [] history made s = tt
spares_both K files left right n (step ∷ added) history made s = (
  spares_both K files left right n added history made.0 s.0,
  λ theirs. (
    λ w one. spared theirs w (is_read files left right w one) made.1,
    spared theirs (joined_segment n) (of_joined (segment_stem n)) made.1,
  ),
)
  where
    spared : step.own ≡ false → (w : List ℕ) → IsOfFolders left right w → IsOf K (added ++ history) step
        → SparesFile w (added ++ history) step
    spared theirs w of (inl t) =
        let x = s.1 theirs w of in unnamed_stays (added ++ history) step w t.1 x.untouched x.no_tail
    spared theirs w of (inr mine) = absurd (true≢false (sym mine.0.own ∙ theirs))

pub one_spared : (K : Deed → Type 0) (left right w : List ℕ) → IsOfFolders left right w → (added history : History)
    → Every (IsOf K) added history → Others (LeavesFolders left right) added history → Others (SparesFile w) added history
one_spared K left right w of [] history made s = tt
one_spared K left right w of (step ∷ added) history made s =
    (one_spared K left right w of added history made.0 s.0, λ theirs. spared theirs made.1)
  where
    spared : step.own ≡ false → IsOf K (added ++ history) step → SparesFile w (added ++ history) step
    spared theirs (inl t) =
        let x = s.1 theirs w of in unnamed_stays (added ++ history) step w t.1 x.untouched x.no_tail
    spared theirs (inr mine) = absurd (true≢false (sym mine.0.own ∙ theirs))

pub leaves_book : (left right : List ℕ) (added history : History) → Others (LeavesFolders left right) added history
    → Others (LeavesBoth joined_book) added history
leaves_book left right [] history s = tt
leaves_book left right (step ∷ added) history s = (
  leaves_book left right added history s.0,
  λ theirs. record {
    file = (s.1 theirs joined_book (of_joined (codes "book"))).untouched;
    next = s.1 theirs (tmp joined_book) (of_joined (codes "book.tmp"));
  },
)

-- ---- the beginning

quiet_begin : (w : List ℕ) (call : Deed) → Begins call → touches call w ≡ false
quiet_begin w call begins_starting = refl
quiet_begin w call (begins_reading c k) = reads_quiet w c k

pub begin_told : (files : Files) (left right : List ℕ) → AreSettled (reads_of files left right) files
    → (r : Result Book JobFault) {old new : Option History} → Adds old new (Every (IsOf Begins))
    → Adds old new (Leads (anyhow (SparesFile joined_book)) (Has joined_book (files joined_book))
    (LoadedBook joined_folder (files joined_book) r))
    → Adds old new (Leads (anyhow (LeavesFolders left right)) (HasFiles (reads_of files left right) files)
    (λ h. HasFiles (reads_of files left right) files h × LoadedBook joined_folder (files joined_book) r h))
begin_told files left right settled r own told =
    adds_both (Leads (anyhow (LeavesFolders left right)) (HasFiles (reads_of files left right) files)
    (λ h. HasFiles (reads_of files left right) files h × LoadedBook joined_folder (files joined_book) r h)) own told
    (λ added history made x. record {
      leads = λ others had.
          let both = spares_both Begins files left right 0 added history made others in (
            files_stay Begins (reads_of files left right) files (joined_segment 0) settled (λ w is call k. quiet_begin w call k)
                added history made both had,
            x.leads (one_file added history both) (had joined_book here),
          );
      own = owned_anyhow added history;
    })
  where
    here : Contains (reads_of files left right) joined_book
    here = (0, omega arith, refl)

    one_file : (added history : History) → Others (SparesBoth (reads_of files left right) (joined_segment 0)) added history
        → Others (SparesFile joined_book) added history
    one_file [] history s = tt
    one_file (step ∷ added) history s = (one_file added history s.0, λ theirs. (s.1 theirs).0 joined_book here)

-- ---- what comes behind it

pub quiet_write : (segment w : List ℕ) → bytes_eq w segment ≡ false → (call : Deed) → WritesTo segment call → touches call w ≡ false
quiet_write segment w apart call removes = apart
quiet_write segment w apart call creates = apart
quiet_write segment w apart call (appends piece) = apart
quiet_write segment w apart call syncs = apart

pub quiet_prepare : (all : List (List ℕ)) (held : Files) (left right : List ℕ) (b : Book)
    → Covers all held left right → (w : List ℕ) → Contains all w → (call : Deed) → PreparesBy b call → touches call w ≡ false
quiet_prepare all held left right b covers w is call (goes_reading c k) = reads_quiet w c k
quiet_prepare all held left right b covers w is call (goes_tidying c k) = quiet_tidy all held left right b covers w is c k
quiet_prepare all held left right b covers w is call (goes_writing c k) =
    quiet_write (joined_segment b.next) w (covers.apart b.next w is) c k

pub quiet_prepares : (all : List (List ℕ)) (held : Files) (left right : List ℕ) → Covers all held left right
    → (w : List ℕ) → Contains all w → (call : Deed) → Prepares call → touches call w ≡ false
quiet_prepares all held left right covers w is call first_starts = refl
quiet_prepares all held left right covers w is call (goes_on b c k) =
    quiet_prepare all held left right b covers w is c k

-- the rest in the rely of a join
pub rest_told : (K : Deed → Type 0) (files : Files) (left right : List ℕ) (n : ℕ) {A B : History → Type 0}
    {old new : Option History} → Adds old new (Every (IsOf K))
    → Adds old new (Leads (anyhow (SparesBoth (reads_of files left right) (joined_segment n))) A B)
    → Adds old new (Leads (anyhow (LeavesFolders left right)) A B)
rest_told K files left right n {A = A} {B = B} own told =
    adds_both (Leads (anyhow (LeavesFolders left right)) A B) own told
    (λ added history made x. record {
      leads = λ others had. x.leads (spares_both K files left right n added history made others) had;
      own = owned_anyhow added history;
    })

-- all three folders were read
pub all_read : (held : Files) (left right : List ℕ) (b : Book) → IsFolderBook held joined_folder b
    → (result : Result Prepared JobFault) (h : History) → PreparedFrom held left right b.next result h
    → PreparedSo held left right result h
all_read held left right b is (Ok p) h x = (
  record {
    book = subst (λ (c : Book). IsBookOf (file_bytes (held (book_name joined_folder))) c) is.is is.book;
    first = x.0;
    second = x.1.0;
  },
  subst (λ (c : Book). JoinsAs (archive_in held left) (archive_in held right) (records_in held left)
      (records_in held right) c.next (Ok p) h) is.is x.1.1,
)
all_read held left right b is (Err (Spent n)) h x = (
  record {
    book = subst (λ (c : Book). IsBookOf (file_bytes (held (book_name joined_folder))) c) is.is is.book;
    first = x.0;
    second = x.1.0;
  },
  subst (λ (c : Book). JoinsAs (archive_in held left) (archive_in held right) (records_in held left)
      (records_in held right) c.next (Err (Spent n)) h) is.is x.1.1,
)
all_read held left right b is (Err (Damaged name at)) h x = x
all_read held left right b is (Err (Outside call)) h x = tt
all_read held left right b is (Err NoMemory) h x = tt

-- a book of `joined` that wasn't loaded
pub none_read : (held : Files) (left right : List ℕ) (fault : JobFault) → IsOfRead fault → (h : History)
    → LoadedBook joined_folder (held joined_book) (Err fault) h → PreparedSo held left right (Err fault) h
none_read held left right (Outside call) only h x = tt
none_read held left right (Damaged name at) only h x = no_book joined_folder (inl refl) x.0 x.1
none_read held left right (Spent n) only h x = absurd only
none_read held left right NoMemory only h x = tt
