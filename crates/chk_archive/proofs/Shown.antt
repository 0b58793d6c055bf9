-- What the own reads of an archive run show, from call to call.
use Rattle.std.proofs.Common.{◌≡◌, ◌≤◌, ℕ, List, [], ◌++◌, length, map, codes, Option, Ok, Err, Result, ap, subst}
use Rattle.std.specs.Prelude.{OnOk, IfErr}
use Rattle.chk_site.specs.declared.acts.OutsideFault.{OutsideFault}
use Rattle.chk_site.specs.declared.acts.OutsideFault.TheVariants.{Outside as site_failed, NoMemory as no_memory}
use Rattle.chk_site.specs.History.{History}
use Rattle.chk_site.specs.Site.{Adds}
use Rattle.chk_site.proofs.Runs.{adds_then, adds_as, adds_none}
use Rattle.chk_chunk.specs.Keys.{chunk_limit}
use Rattle.chk_world.specs.Books.{End, Book, Segment}
use Rattle.chk_world.specs.Jobs.{segment_list}
use Rattle.chk_record_index.specs.declared.fault.JobFault.{JobFault}
use Rattle.chk_record_index.specs.declared.fault.JobFault.TheVariants.{Outside, Damaged, Spent, NoMemory}
use Rattle.chk_record_index.specs.Heads.{Head}
use Rattle.chk_record_index.specs.Order.{in_head_order}
use Rattle.chk_record_index.specs.Faults.{job_fault, IsOfRead}
use Rattle.chk_record_index.specs.Shown.{Within}
use Rattle.chk_record_index.specs.ShownHeads.{ShowAll, ShowsAllGathered}
use Rattle.chk_record_index.specs.Causes.{Cause, Shows}
use Rattle.chk_record_index.proofs.Showing.{within_all, within_late, within_early}
use Rattle.chk_record_index.proofs.Causes.{IsLate, Implies}
use Rattle.chk_book.specs.Loaded.{ShowsBook}
use Rattle.chk_book.specs.Folders.{segment_name}
use Rattle.chk_record_reader.specs.Gone.{IsGoneIn, IsUnsound}
use Rattle.chk_record_reader.proofs.Causes.{late_gone_in, late_unsound}
use Rattle.chk_archive.specs.FolderNames.{closed_in}
use Rattle.chk_archive.specs.Listed.{sources_in}
use Rattle.chk_archive.specs.Starts.{HaveStartsIn, ToldOtherStart}
use Rattle.chk_archive.specs.Shown.{IsUnfit, other_start, gone, IsUntaken, no_chunks, unfit, ShowsTaken, IfSpent, IsAtLast, LacksOne, no_book, unsound, untaken, for_merge, for_new, ShowsBegun, IsInHand, ShowsSettled, GivesNames, GaveNames, ShowsArchived}

-- ---- later steps

late_unfit : (ends : List End) (files : List (List ℕ)) (heads : List Head) → IsLate (IsUnfit ends files heads)
late_unfit ends files heads name at b a history (other_start told) = other_start told
late_unfit ends files heads name at b a history (gone x) = gone (late_gone_in files (in_head_order heads) name at b a history x)

late_untaken : (ends : List End) (files : List (List ℕ)) → IsLate (IsUntaken ends files)
late_untaken ends files name at b a history (no_chunks there x) = no_chunks there (within_late _ b a history x)
late_untaken ends files name at b a history (unfit heads x y) =
    unfit heads (within_late _ b a history x) (late_unfit ends files heads name at b a history y)

-- ---- the records that are found

-- a cause that implies another one
pub shows_wide : {T : Type 0} (C D : Cause) → Implies C D → (result : Result T JobFault) {old new : Option History} → Adds old new (Shows C result)
    → Adds old new (Shows D result)
shows_wide C D so result told = adds_as (Shows D result) told (λ added history x. said result added history x)
  where
    said : {T : Type 0} (result : Result T JobFault) (added history : History) → Shows C result added history → Shows D result added history
    said (Ok value) added history x = tt
    said (Err (Outside call)) added history x = tt
    said (Err (Damaged name at)) added history x = so name at added history x
    said (Err (Spent n)) added history x = tt
    said (Err NoMemory) added history x = tt

-- a record has another start than its stream
pub start_shown : (T : Type 0) (ends : List End) (files : List (List ℕ)) (heads sorted : List Head) (fault : JobFault) (now : Option History)
    → sorted ≡ in_head_order heads → ToldOtherStart files ends sorted fault → Adds now now (Shows {T = T} (IsUnfit ends files heads) (Err fault))
start_shown T ends files heads sorted fault now order told =
    adds_none now (Shows {T = T} (IsUnfit ends files heads) (Err fault))
    (λ history. said fault (subst (λ hs. ToldOtherStart files ends hs fault) order told) history)
  where
    said : (fault : JobFault) → ToldOtherStart files ends (in_head_order heads) fault → (history : History)
        → Shows {T = T} (IsUnfit ends files heads) (Err fault) [] history
    said (Outside call) told history = tt
    said (Damaged name at) told history = other_start told
    said (Spent n) told history = tt
    said NoMemory told history = tt

-- a record isn't found again
pub gone_shown : {T : Type 0} (ends : List End) (files : List (List ℕ)) (heads sorted : List Head) (result : Result T JobFault)
    {old new : Option History} → sorted ≡ in_head_order heads → Adds old new (Shows (IsGoneIn files sorted) result)
    → Adds old new (Shows (IsUnfit ends files heads) result)
gone_shown ends files heads sorted result order told =
    shows_wide (IsGoneIn files sorted) (IsUnfit ends files heads)
    (λ name at added history x. gone (subst (λ hs. IsGoneIn files hs name at added history) order x)) result told

pub taken_bad : (T : Type 0) (b : Book) (files : List (List ℕ))
    (fault : JobFault) {old new : Option History} → IsOfRead fault
    → Adds old new (ShowsAllGathered chunk_limit files (Err fault))
    → Adds old new (ShowsTaken {T = T} b files (Err fault))
taken_bad T b files fault only told =
    adds_as (ShowsTaken {T = T} b files (Err fault)) told
    (λ added history x. said fault only added history x)
  where
    said : (fault : JobFault) → IsOfRead fault → (added history : History)
        → ShowsAllGathered chunk_limit files (Err fault) added history
        → ShowsTaken {T = T} b files (Err fault) added history
    said (Outside call) only added history x = tt
    said (Damaged name at) only added history x = no_chunks x.0 x.1
    said (Spent n) only added history x = absurd only
    said NoMemory only added history x = tt

pub taken_found : {T : Type 0} (b : Book) (files : List (List ℕ)) (heads : List Head)
    (result : Result T JobFault)
    {old mid new : Option History} → OnOk result (HaveStartsIn b.ends (in_head_order heads))
    → IfErr result (IfSpent (LacksOne b heads))
    → Adds old mid (ShowsAllGathered chunk_limit files (Ok heads))
    → Adds mid new (Shows (IsUnfit b.ends files heads) result)
    → Adds old new (ShowsTaken b files result)
taken_found b files heads result starts spent so_far told =
    adds_then (ShowsTaken b files result) so_far told
    (λ a d history x y. said result starts spent a d history x y)
  where
    said : {T : Type 0} (result : Result T JobFault)
        → OnOk result (HaveStartsIn b.ends (in_head_order heads))
        → IfErr result (IfSpent (LacksOne b heads)) → (a d history : History)
        → ShowsAllGathered chunk_limit files (Ok heads) a history
        → Shows (IsUnfit b.ends files heads) result d (a ++ history)
        → ShowsTaken b files result (d ++ a) history
    said (Ok value) starts spent a d history x y = (
      heads,
      within_early _ d a history
          (within_all _ a history x),
      starts,
    )
    said (Err (Outside call)) starts spent a d history x y = tt
    said (Err (Damaged name at)) starts spent a d history x y =
        unfit heads (within_early _ d a history (within_all _ a history x))
        (late_unfit b.ends files heads name at d a history y)
    said (Err (Spent n)) starts spent a d history x y =
        (spent.0, heads, within_early _ d a history (within_all _ a history x), spent.1)
    said (Err NoMemory) starts spent a d history x y = tt

pub taken_as : (T U : Type 0) (b : Book) (files : List (List ℕ))
    (fault : JobFault) {old new : Option History}
    → Adds old new (ShowsTaken {T = U} b files (Err fault))
    → Adds old new (ShowsTaken {T = T} b files (Err fault))
taken_as T U b files fault told = adds_as (ShowsTaken {T = T} b files (Err fault)) told
    (λ added history x. said fault added history x)
  where
    said : (fault : JobFault) (added history : History)
        → ShowsTaken {T = U} b files (Err fault) added history
        → ShowsTaken {T = T} b files (Err fault) added history
    said (Outside call) added history x = tt
    said (Damaged name at) added history x = x
    said (Spent n) added history x = x
    said NoMemory added history x = tt

pub taken_fails : (T : Type 0) (b : Book) (files : List (List ℕ))
    (fault : OutsideFault) {P : History → History → Type 0}
    {old new : Option History} → Adds old new P
    → Adds old new (ShowsTaken {T = T} b files (Err (job_fault fault)))
taken_fails T b files (site_failed call) told = adds_as
    (ShowsTaken {T = T} b files (Err (Outside call))) told (λ added history x. tt)
taken_fails T b files no_memory told = adds_as (ShowsTaken {T = T} b files (Err NoMemory)) told
    (λ added history x. tt)

pub taken_kept : (T U : Type 0) (b : Book) (files : List (List ℕ)) (value : T)
    (other : U) {P : History → History → Type 0}
    {old mid new : Option History} → Adds old mid (ShowsTaken {T = U} b files (Ok other))
    → Adds mid new P
    → Adds old new (ShowsTaken {T = T} b files (Ok value))
taken_kept T U b files value other so_far told =
    adds_then (ShowsTaken {T = T} b files (Ok value)) so_far told
    (λ a d history x y. (x.0, within_early _ d a history x.1, x.2))

-- ---- the book

pub begun_so : (r : Result Book JobFault) {P : History → History → Type 0} {old mid new : Option History} → Adds old mid P
    → Adds mid new (ShowsBook (codes "archive") r) → Adds old new (ShowsBegun r)
begun_so r so_far told = adds_then (ShowsBegun r) so_far told (λ a b history x y. said r a b history y)
  where
    said : (r : Result Book JobFault) (a b history : History) → ShowsBook (codes "archive") r b (a ++ history) → ShowsBegun r (b ++ a) history
    said (Ok book) a b history y = within_late _ b a history (within_all _ b (a ++ history) y)
    said (Err (Outside call)) a b history y = tt
    said (Err (Damaged name at)) a b history y = no_book (within_late _ b a history (within_all _ b (a ++ history) y))
    said (Err (Spent n)) a b history y = tt
    said (Err NoMemory) a b history y = tt

pub begun_fails : (fault : OutsideFault) {P : History → History → Type 0} {old new : Option History} → Adds old new P
    → Adds old new (ShowsBegun (Err (job_fault fault)))
begun_fails (site_failed call) told = adds_as (ShowsBegun (Err (Outside call))) told (λ added history x. tt)
begun_fails no_memory told = adds_as (ShowsBegun (Err NoMemory)) told (λ added history x. tt)

pub settled_bad : (fault : JobFault) {old new : Option History} → IsOfRead fault
    → Adds old new (ShowsBegun (Err fault))
    → Adds old new (ShowsSettled (Err fault))
settled_bad fault only told = adds_as (ShowsSettled (Err fault)) told
    (λ added history x. said fault only added history x)
  where
    said : (fault : JobFault) → IsOfRead fault → (added history : History)
        → ShowsBegun (Err fault) added history
        → ShowsSettled (Err fault) added history
    said (Outside call) only added history x = tt
    said (Damaged name at) only added history x = x
    said (Spent n) only added history x = absurd only
    said NoMemory only added history x = tt

pub settled_fails : (fault : OutsideFault) {P : History → History → Type 0} {old new : Option History} → Adds old new P
    → Adds old new (ShowsSettled (Err (job_fault fault)))
settled_fails (site_failed call) told = adds_as (ShowsSettled (Err (Outside call))) told (λ added history x. tt)
settled_fails no_memory told = adds_as (ShowsSettled (Err NoMemory)) told (λ added history x. tt)

pub settled_unsound : (U : Type 0) (b : Book) (fault : JobFault) {P : History → History → Type 0} {old mid next new : Option History}
    → IfSpent ((16 ≤ length b.segments) × IsAtLast b) fault
    → Adds old mid (ShowsBegun (Ok b)) → Adds mid next P → Adds next new (Shows {T = U} (IsUnsound (codes "archive") b) (Err fault))
    → Adds old new (ShowsSettled (Err fault))
settled_unsound U b fault {P = P} spent so_far tidied told =
    adds_then (ShowsSettled (Err fault))
    (adds_then (ShowsBegun (Ok b)) so_far tidied (λ a d history x y. within_early _ d a history x)) told
    (λ a d history x y. said fault spent a d history x y)
  where
    said : (fault : JobFault) → IfSpent ((16 ≤ length b.segments) × IsAtLast b) fault
        → (a d history : History)
        → ShowsBegun (Ok b) a history → Shows {T = U} (IsUnsound (codes "archive") b) (Err fault) d
        (a ++ history)
        → ShowsSettled (Err fault) (d ++ a) history
    said (Outside call) spent a d history x y = tt
    said (Damaged name at) spent a d history x y =
        unsound b (within_early _ d a history x) (late_unsound (codes "archive") b name at d a history y)
    said (Spent n) spent a d history x y = (
      spent.0,
      for_merge b
          (within_early _ d a history x) spent.1.0 spent.1.1,
    )
    said NoMemory spent a d history x y = tt

pub settled_ok : (b new_book : Book) {P Q : History → History → Type 0}
    {old mid next new : Option History}
    → IsInHand b new_book → Adds old mid (ShowsBegun (Ok b)) → Adds mid next P → Adds next new Q
    → Adds old new (ShowsSettled (Ok new_book))
settled_ok b new_book hand so_far tidied merged =
    adds_then (ShowsSettled (Ok new_book))
    (adds_then (ShowsBegun (Ok b)) so_far tidied (λ a d history x y. within_early _ d a history x)) merged
    (λ a d history x y. (b, within_early _ d a history x, hand))

-- ---- the run

same_sources : (b loaded : Book) (names : List (List ℕ)) → b.aside ≡ loaded.aside → sources_in b names ≡ sources_in loaded names
same_sources b loaded names aside =
    ap (λ o. map (λ (g : Segment). segment_name (codes "archive") g.number) (segment_list o) ++ closed_in names) aside

pub archived_bad : (T : Type 0) (fault : JobFault) {old new : Option History} → Adds old new (ShowsSettled (Err fault))
    → Adds old new (ShowsArchived {T = T} (Err fault))
archived_bad T fault told = adds_as (ShowsArchived {T = T} (Err fault)) told (λ added history x. x)

pub archived_fails : (T : Type 0) (fault : OutsideFault) {P : History → History → Type 0} {old new : Option History} → Adds old new P
    → Adds old new (ShowsArchived {T = T} (Err (job_fault fault)))
archived_fails T (site_failed call) told = adds_as (ShowsArchived {T = T} (Err (Outside call))) told (λ added history x. tt)
archived_fails T no_memory told = adds_as (ShowsArchived {T = T} (Err NoMemory)) told (λ added history x. tt)

-- later steps change nothing of it
pub archived_kept : (T : Type 0) (value : T) {P : History → History → Type 0} {old mid new : Option History}
    → Adds old mid (ShowsArchived {T = T} (Ok value)) → Adds mid new P → Adds old new (ShowsArchived {T = T} (Ok value))
archived_kept T value so_far told =
    adds_then (ShowsArchived {T = T} (Ok value)) so_far told
    (λ a b history x y. (
      x.0,
      x.1,
      within_early _ b a history x.2,
      within_early _ b a history x.3,
      (x.4.0, within_early _ b a history x.4.1, x.4.2),
    ))

pub archived_so : {T : Type 0} (b : Book) (names : List (List ℕ)) (result : Result T JobFault)
    {old mid next new : Option History} → Adds old mid (ShowsSettled (Ok b)) → Adds mid next (GivesNames names)
    → Adds next new (ShowsTaken b (sources_in b names) result) → Adds old new (ShowsArchived result)
archived_so b names result so_far listed told =
    adds_then (ShowsArchived result)
    (adds_then (λ added history. ShowsSettled (Ok b) added history × GaveNames names added history) so_far listed
    (λ a d history x y. (
      (x.0, within_early _ d a history x.1, x.2),
      within_late _ d a history (within_all _ d (a ++ history) y),
    ))) told
    (λ a d history x y. said result a d history x.0 x.1 y)
  where
    said : {T : Type 0} (result : Result T JobFault) (a d history : History) → ShowsSettled (Ok b) a history → GaveNames names a history
        → ShowsTaken b (sources_in b names) result d (a ++ history)
        → ShowsArchived result (d ++ a) history
    said (Ok value) a d history x gave y = (
      x.0,
      names,
      within_early _ d a history x.1,
      within_early _ d a history gave,
      (
        y.0,
        subst (λ ws. Within (ShowAll chunk_limit 0 ws y.0) (d ++ a) history)
            (same_sources b x.0 names x.2.aside)
            (within_late _ d a history y.1),
        subst (λ es. HaveStartsIn es (in_head_order y.0)) x.2.ends y.2,
      ),
    )
    said (Err (Outside call)) a d history x gave y = tt
    said (Err (Damaged name at)) a d history x gave y =
        untaken x.0 names (within_early _ d a history x.1) (within_early _ d a history gave)
        (subst (λ es. IsUntaken es (sources_in x.0 names) name at (d ++ a) history) x.2.ends
        (subst (λ ws. IsUntaken b.ends ws name at (d ++ a) history)
        (same_sources b x.0 names x.2.aside)
        (late_untaken b.ends (sources_in b names) name at d a history y)))
    said (Err (Spent n)) a d history x gave y = (
      y.0,
      for_new x.0 b names y.1 (within_early _ d a history x.1) x.2 (within_early _ d a history gave)
          (within_late _ d a history y.2) y.3,
    )
    said (Err NoMemory) a d history x gave y = tt
