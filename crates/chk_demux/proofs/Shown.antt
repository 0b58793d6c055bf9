-- What the own reads of a demux run show, from call to call.
use Rattle.std.proofs.Common.{◌≡◌, ℕ, ◌-◌, ◌^◌, List, ◌++◌, codes, Option, Ok, Err, Result, subst}
use Rattle.std.specs.Prelude.{Contains, IfErr}
use Rattle.chk_site.specs.declared.acts.OutsideFault.{OutsideFault}
use Rattle.chk_site.specs.declared.acts.OutsideFault.TheVariants.{Outside as site_failed, NoMemory as no_memory}
use Rattle.chk_site.specs.History.{History}
use Rattle.chk_site.specs.Site.{Adds}
use Rattle.chk_site.proofs.Runs.{adds_then, adds_as}
use Rattle.chk_world.specs.Books.{Book}
use Rattle.chk_record_index.specs.declared.fault.JobFault.{JobFault}
use Rattle.chk_record_index.specs.declared.fault.JobFault.TheVariants.{Outside, Damaged, Spent, NoMemory}
use Rattle.chk_record_index.specs.Heads.{Head}
use Rattle.chk_record_index.specs.Order.{in_head_order}
use Rattle.chk_record_index.specs.Faults.{job_fault, IsOfBegin, IsOfRead, IsOfWrite}
use Rattle.chk_record_index.specs.Causes.{Shows}
use Rattle.chk_record_index.proofs.Showing.{within_all, within_late, within_early}
use Rattle.chk_book.specs.Books.{book_view}
use Rattle.chk_book.specs.Loaded.{ShowsBook}
use Rattle.chk_book.specs.declared.book.Book.{Book as Struct}
use Rattle.chk_book.specs.Causes.{SpentBook}
use Rattle.chk_record_reader.specs.Checking.{ToldOfSome}
use Rattle.chk_record_reader.specs.Segments.{names_of}
use Rattle.chk_record_reader.specs.Gone.{IsGoneIn}
use Rattle.chk_record_reader.proofs.Causes.{late_gone_in, late_unsound}
use Rattle.chk_demux.specs.declared.beginning.Books.{Books}
use Rattle.chk_demux.specs.Shown.{ShowsArchive, IsUnsoundFrom, whole, lost, ShowsNewestSound, IsDamage, ShowsSpent, no_archive, no_records, unsound, ShowsBegun}

-- one of some heads is one of all of them
gone_among : (ns : List (List ℕ)) (heads all : List Head) (name : List ℕ) (at : ℕ)
    (added history : History) → ((h : Head) → Contains heads h → Contains all h)
    → IsGoneIn ns heads name at added history → IsGoneIn ns all name at added history
gone_among ns heads all name at added history some (h, one, named, here, gone) =
    (h, some h one, named, here, gone)

-- a record isn't found again
pub gone_behind : {T : Type 0} (b : Book) (ns : List (List ℕ)) (heads : List Head) (result : Result T JobFault)
    {old mid new : Option History} → ns ≡ names_of (codes "archive") b → Adds old mid (ShowsNewestSound b (Ok heads))
    → Adds mid new (Shows (IsGoneIn ns heads) result) → Adds old new (Shows (IsUnsoundFrom b) result)
gone_behind b ns heads result n so_far told =
    adds_then (Shows (IsUnsoundFrom b) result) so_far told (λ a d history x y. said result a d history x y)
  where
    said : {T : Type 0} (result : Result T JobFault) (a d history : History) → ShowsNewestSound b (Ok heads) a history
        → Shows (IsGoneIn ns heads) result d (a ++ history) → Shows (IsUnsoundFrom b) result (d ++ a) history
    said (Ok value) a d history x y = tt
    said (Err (Outside call)) a d history x y = tt
    said (Err (Damaged name at)) a d history x y =
        lost x.0 x.1 (within_early _ d a history x.3)
        (subst (λ ws. IsGoneIn ws (in_head_order x.1) name at (d ++ a) history) n
        (gone_among ns heads (in_head_order x.1) name at (d ++ a) history x.2
        (late_gone_in ns heads name at d a history y)))
    said (Err (Spent k)) a d history x y = tt
    said (Err NoMemory) a d history x y = tt

-- the heads couldn't be had
pub heads_fail : (T : Type 0) (b : Book) (fault : JobFault) {old new : Option History}
    → Adds old new (ShowsNewestSound b (Err fault))
    → Adds old new (Shows {T = T} (IsUnsoundFrom b) (Err fault))
heads_fail T b fault told =
    adds_as (Shows {T = T} (IsUnsoundFrom b) (Err fault)) told (λ added history x. said fault added history x)
  where
    said : (fault : JobFault) (added history : History) → ShowsNewestSound b (Err fault) added history
        → Shows {T = T} (IsUnsoundFrom b) (Err fault) added history
    said (Outside call) added history x = tt
    said (Damaged name at) added history x = whole x
    said (Spent n) added history x = tt
    said NoMemory added history x = tt

-- what is shown behind other calls is shown by all of them
late_from : (b : Book) (name : List ℕ) (at : ℕ) (d a history : History)
    → IsUnsoundFrom b name at d (a ++ history) → IsUnsoundFrom b name at (d ++ a) history
late_from b name at d a history (whole u) = whole (late_unsound (codes "archive") b name at d a history u)
late_from b name at d a history (lost first heads s g) =
    lost first heads (within_late _ d a history s)
    (late_gone_in (names_of (codes "archive") b) (in_head_order heads) name at d a history g)

-- ---- the books

pub start_fails : (fault : OutsideFault) {P : History → History → Type 0} {old new : Option History} → Adds old new P
    → Adds old new (ShowsBegun (Err (job_fault fault)))
start_fails (site_failed call) told = adds_as (ShowsBegun (Err (Outside call))) told (λ added history x. tt)
start_fails no_memory told = adds_as (ShowsBegun (Err NoMemory)) told (λ added history x. tt)

pub archive_fails : (fault : JobFault) {P : History → History → Type 0} {old mid new : Option History} → Adds old mid P
    → Adds mid new (ShowsBook (codes "archive") (Err fault)) → Adds old new (ShowsBegun (Err fault))
archive_fails fault so_far told = adds_then (ShowsBegun (Err fault)) so_far told (λ a b history x y. said fault a b history y)
  where
    said : (fault : JobFault) (a b history : History) → ShowsBook (codes "archive") (Err fault) b (a ++ history) → ShowsBegun (Err fault) (b ++ a) history
    said (Outside call) a b history y = tt
    said (Damaged name at) a b history y = no_archive (within_late _ b a history (within_all _ b (a ++ history) y))
    said (Spent n) a b history y = tt
    said NoMemory a b history y = tt

pub records_fail : (fault : JobFault) {P Q : History → History → Type 0} {old mid next new : Option History} → Adds old mid P → Adds mid next Q
    → Adds next new (ShowsBook (codes "demux") (Err fault)) → Adds old new (ShowsBegun (Err fault))
records_fail fault so_far loaded told =
    adds_then (ShowsBegun (Err fault)) (adds_then (λ added history. Unit {0}) so_far loaded (λ a b history x y. tt)) told
    (λ a b history x y. said fault a b history y)
  where
    said : (fault : JobFault) (a b history : History) → ShowsBook (codes "demux") (Err fault) b (a ++ history) → ShowsBegun (Err fault) (b ++ a) history
    said (Outside call) a b history y = tt
    said (Damaged name at) a b history y = no_records (within_late _ b a history (within_all _ b (a ++ history) y))
    said (Spent n) a b history y = tt
    said NoMemory a b history y = tt

pub both_shown : (archive demux : Struct) {P : History → History → Type 0} {old mid next new : Option History} → Adds old mid P
    → Adds mid next (ShowsBook (codes "archive") (Ok (book_view archive)))
    → Adds next new (ShowsBook (codes "demux") (Ok (book_view demux)))
    → Adds old new (ShowsBegun (Ok (record { archive = archive; demux = demux })))
both_shown archive demux so_far loaded told =
    adds_then (ShowsBegun (Ok (record { archive = archive; demux = demux })))
    (adds_then (ShowsArchive (book_view archive)) so_far loaded
    (λ a b history x y. within_late _ b a history (within_all _ b (a ++ history) y))) told
    (λ a b history x y. (
      within_early _ b a history x,
      within_late _ b a history (within_all _ b (a ++ history) y),
    ))

-- ---- that the numbers are spent

pub writes_read : {T : Type 0} (r : Result T JobFault) → IfErr r IsOfWrite → IfErr r IsOfRead
writes_read (Ok value) of = tt
writes_read (Err (Outside call)) of = tt
writes_read (Err (Damaged name at)) of = absurd of
writes_read (Err (Spent n)) of = absurd of
writes_read (Err NoMemory) of = tt

-- where a number is left for a segment, beginning it doesn't tell that they are spent
pub begun_writes : {T : Type 0} (b : Book) (r : Result T JobFault) → (b.next ≡ 2 ^ 63 - 1 → ⊥)
    → IfErr r IsOfBegin → SpentBook b r → IfErr r IsOfWrite
begun_writes b (Ok value) below of spent = tt
begun_writes b (Err (Outside call)) below of spent = tt
begun_writes b (Err (Damaged name at)) below of spent = absurd of
begun_writes b (Err (Spent n)) below of spent = absurd (below spent.1)
begun_writes b (Err NoMemory) below of spent = tt

pub told_reads : (folder : List ℕ) (b : Book) (names : List (List ℕ)) (heads : List Head)
    (fault : JobFault) → ToldOfSome folder b names heads fault → IsOfRead fault
told_reads folder b names heads (Outside call) told = tt
told_reads folder b names heads (Damaged name at) told = tt
told_reads folder b names heads (Spent n) told = absurd told.1
told_reads folder b names heads NoMemory told = tt

-- ---- the run

pub damage_begun : (T : Type 0) (fault : JobFault) {old new : Option History} → Adds old new (ShowsBegun (Err fault))
    → Adds old new (Shows {T = T} IsDamage (Err fault))
damage_begun T fault told = adds_as (Shows {T = T} IsDamage (Err fault)) told (λ added history x. said fault added history x)
  where
    said : (fault : JobFault) (added history : History) → ShowsBegun (Err fault) added history → Shows {T = T} IsDamage (Err fault) added history
    said (Outside call) added history x = tt
    said (Damaged name at) added history x = x
    said (Spent n) added history x = tt
    said NoMemory added history x = tt

pub damage_behind : {T : Type 0} (b : Books) (result : Result T JobFault) {old mid new : Option History} → Adds old mid (ShowsBegun (Ok b))
    → Adds mid new (Shows (IsUnsoundFrom (book_view b.archive)) result) → Adds old new (Shows IsDamage result)
damage_behind b result so_far told = adds_then (Shows IsDamage result) so_far told (λ a d history x y. said result a d history x y)
  where
    said : {T : Type 0} (result : Result T JobFault) (a d history : History) → ShowsBegun (Ok b) a history
        → Shows (IsUnsoundFrom (book_view b.archive)) result d (a ++ history) → Shows IsDamage result (d ++ a) history
    said (Ok value) a d history x y = tt
    said (Err (Outside call)) a d history x y = tt
    said (Err (Damaged name at)) a d history x y =
        unsound (book_view b.archive) (within_early _ d a history x.0) (late_from (book_view b.archive) name at d a history y)
    said (Err (Spent n)) a d history x y = tt
    said (Err NoMemory) a d history x y = tt

-- reads never tell it
pub spent_begun : (T : Type 0) (fault : JobFault) {P : History → History → Type 0}
    {old new : Option History} → IsOfRead fault → Adds old new P
    → Adds old new (ShowsSpent {T = T} (Err fault))
spent_begun T (Outside call) only told =
    adds_as (ShowsSpent {T = T} (Err (Outside call))) told (λ added history x. tt)
spent_begun T (Damaged name at) only told =
    adds_as (ShowsSpent {T = T} (Err (Damaged name at))) told (λ added history x. tt)
spent_begun T (Spent n) only told = absurd only
spent_begun T NoMemory only told =
    adds_as (ShowsSpent {T = T} (Err NoMemory)) told (λ added history x. tt)

-- a call that failed behind the run never tells it
pub spent_outside : (T : Type 0) (fault : OutsideFault) {P : History → History → Type 0}
    {old new : Option History} → Adds old new P
    → Adds old new (ShowsSpent {T = T} (Err (job_fault fault)))
spent_outside T (site_failed call) told =
    adds_as (ShowsSpent {T = T} (Err (Outside call))) told (λ added history x. tt)
spent_outside T no_memory told =
    adds_as (ShowsSpent {T = T} (Err NoMemory)) told (λ added history x. tt)
