-- The join, by the answers of its parts.
use Rattle.std.proofs.Common.{◌≡◌, ◌⊎◌, inl, inr, ℕ, zero, suc, List, [], ◌∷◌, ◌++◌, map, Option}
use Rattle.std.proofs.Common.{Ok, Err, Result, refl, ap, sym, subst, ◌∙◌, arith, bytes_eq, true}
use Rattle.std.proofs.Common.{false, append_assoc}
use Rattle.std.specs.Prelude.{Contains, codes, IfErr}
use Rattle.std.proofs.lemmas.List.Elements.{Contains-append_left, Contains-append_right}
use Rattle.chk_site.specs.Files.{File, Files}
use Rattle.chk_site.specs.Acts.{Deed, Removes, touches}
use Rattle.chk_site.specs.History.{History, Every, Others, is_stopped}
use Rattle.chk_site.specs.Site.{Adds}
use Rattle.chk_site.specs.Runs.{anyhow, Leads}
use Rattle.chk_site.proofs.Runs.{adds_as, adds_both, adds_then}
use Rattle.chk_site.proofs.Leads.{leads_as, owned_anyhow}
use Rattle.chk_replace.specs.Load.{Has}
use Rattle.chk_replace.specs.Replace.{LeavesBoth}
use Rattle.chk_world.specs.Books.{Segment, Book}
use Rattle.chk_world.specs.JobSteps.{IsOf}
use Rattle.chk_world.proofs.Each.{later_one}
use Rattle.chk_record_index.specs.Faults.{JobCause, FailsLast, IsOfWrite}
use Rattle.chk_record_index.specs.Pieces.{AsksInPieces}
use Rattle.chk_record_index.specs.declared.fault.JobFault.{JobFault}
use Rattle.chk_record_index.specs.declared.fault.JobFault.TheVariants.{Outside, Damaged, Spent}
use Rattle.chk_record_index.specs.declared.fault.JobFault.TheVariants.{NoMemory as no_memory}
use Rattle.chk_book.specs.Books.{book_view}
use Rattle.chk_book.specs.Folders.{segment_name, segment_stem}
use Rattle.chk_book.specs.declared.book.Book.{Book as Struct}
use Rattle.chk_join_sources.specs.declared.difference.Difference.{Difference}
use Rattle.chk_record_reader.specs.Segments.{HasFiles, AreSettled}
use Rattle.chk_record_reader.proofs.Frames.{stays_so}
use Rattle.chk_archive_parts.specs.Publishing.{ReplacesBookOf}
use Rattle.chk_join.specs.Working.{Worked, PreparesBy, goes_reading, goes_tidying, goes_writing}
use Rattle.chk_join.specs.Working.{Prepares, first_starts, goes_on, lists_joined, removes_stray}
use Rattle.chk_join.specs.Faults.{join_fault, JoinCause, JoinFailsLast, JoinsBy, starts, only_reads}
use Rattle.chk_join.specs.Faults.{lists_folder, removes_segment, writes_segment, replaces_book}
use Rattle.chk_join.specs.Faults.{IsJoinFault}
use Rattle.chk_join.specs.Joined.{can_join, joined_folder, folder_book, archive_files, reads_of}
use Rattle.chk_join.specs.Joined.{LeavesFolders, Joined, JoinDone, OldOrDone, BookKept, Kept}
use Rattle.chk_join.specs.Preparing.{IsCounted, PreparedSo}
use Rattle.chk_join.specs.Publishing.{HasNewBook, PublishedSo, FinishedSo, WorkedSo, IsFinishFault}
use Rattle.chk_join.specs.Publishing.{differ_fault}
use Rattle.chk_join.specs.declared.preparing.Prepared.{Prepared}
use Rattle.chk_join.specs.declared.preparing.Prepared.TheVariants.{Ready, Differs}
use Rattle.chk_join.specs.declared.report.JoinReport.{JoinReport}
use Rattle.chk_join.specs.declared.fault.JoinFault.{JoinFault}
use Rattle.chk_join.specs.declared.fault.JoinFault.TheVariants.{Job, Differ, NoMemory}
use Rattle.chk_join.proofs.Begun.{joined_book}
use Rattle.chk_join.proofs.Apart.{other_folder, covers}
use Rattle.chk_join.proofs.Chain.{files_stay}
use Rattle.chk_join.proofs.Whole.{spares_both, leaves_book, one_spared, is_read, quiet_prepares}
use Rattle.chk_join.proofs.RunFacts.{none_in}
use Rattle.chk_join_sources.specs.Copying.{joined_segment}
use Rattle.chk_join.proofs.Finished.{join_done, alone_stays, quiet_other}
use Rattle.chk_site.proofs.LastCalls.{ends_in_both as ends_behind}

-- ---- the finish

pub finished_so : (f : Option File) (b : Book) (report : JoinReport) {old new : Option History}
    → Adds old new (Leads (anyhow (LeavesBoth joined_book)) (Has joined_book f) (PublishedSo f b (Ok tt)))
    → Adds old new (Leads (anyhow (LeavesBoth joined_book)) (Has joined_book f) (FinishedSo f b report (Ok report)))
finished_so f b report told = leads_as (λ h x. x) (λ h x. (refl, x)) told

pub not_finished : (f : Option File) (b : Book) (report : JoinReport) (fault : JobFault) (e : JoinFault) → e ≡ join_fault fault
    → {old new : Option History}
    → Adds old new (Leads (anyhow (LeavesBoth joined_book)) (Has joined_book f) (PublishedSo f b (Err fault)))
    → Adds old new (Leads (anyhow (LeavesBoth joined_book)) (Has joined_book f) (FinishedSo f b report (Err e)))
not_finished f b report fault e is told = leads_as (λ h x. x) (λ h x. x) told

-- a fault of the job as one of a join
pub fails_so : (T U : Type 0) (fault : JobFault) (added history : History) → FailsLast {T = T} (Err fault) added history
    → JoinFailsLast {T = U} (Err (join_fault fault)) added history
fails_so T U (Outside call) added history x = x
fails_so T U (Damaged name at) added history x = tt
fails_so T U (Spent n) added history x = tt
fails_so T U no_memory added history x = tt

pub cause_so : (T U : Type 0) (fault : JobFault) (before now : ℕ) → JobCause {T = T} before now (Err fault)
    → JoinCause {T = U} before now (Err (join_fault fault))
cause_so T U (Outside call) before now x = x
cause_so T U (Damaged name at) before now x = x
cause_so T U (Spent n) before now x = x
cause_so T U no_memory before now x = x

pub fault_so : (fault : JobFault) → IsJoinFault (join_fault fault)
fault_so (Outside call) = tt
fault_so (Damaged name at) = tt
fault_so (Spent n) = tt
fault_so no_memory = tt

pub finish_fault : (fault : JobFault) → IsOfWrite fault → IsFinishFault (join_fault fault)
finish_fault (Outside call) only = tt
finish_fault (Damaged name at) only = absurd only
finish_fault (Spent n) only = absurd only
finish_fault no_memory only = tt

pub worked_ok : {T U : Type 0} (K : Deed → Type 0) (value : T) (other : U) {old new : Option History}
    → Adds old new (Worked {T = T} K (Ok value)) → Adds old new (WorkedSo {T = U} K (Ok other))
worked_ok K value other told =
    adds_as (WorkedSo K (Ok other)) told (λ added history w. record { own = w.own; pieces = w.pieces; last = tt })

pub worked_err : (T U : Type 0) (K : Deed → Type 0) (fault : JobFault) (e : JoinFault) → e ≡ join_fault fault
    → {old new : Option History} → Adds old new (Worked {T = T} K (Err fault)) → Adds old new (WorkedSo {T = U} K (Err e))
worked_err T U K fault e is {old = old} {new = new} told =
    subst (λ x. Adds old new (WorkedSo {T = U} K (Err x))) (sym is)
    (adds_as (WorkedSo {T = U} K (Err (join_fault fault))) told
    (λ added history w. record { own = w.own; pieces = w.pieces; last = fails_so T U fault added history w.last }))

-- ---- its calls

pub prepares_join : (call : Deed) → Prepares call → JoinsBy call
prepares_join call first_starts = starts
prepares_join call (goes_on b c k) = go c k
  where
    go : (call : Deed) → PreparesBy b call → JoinsBy call
    go call (goes_reading c k) = only_reads c k
    go call (goes_tidying c lists_joined) = lists_folder
    go call (goes_tidying c (removes_stray w stray)) =
        subst (λ v. JoinsBy (Removes v)) (sym stray.2) (removes_segment stray.0)
    go call (goes_writing c k) = writes_segment b.next c k

pub replaces_join : (call : Deed) → ReplacesBookOf joined_folder call → JoinsBy call
replaces_join call k = replaces_book call k

-- ---- the calls behind the preparation

pub own_so : {T : Type 0} (K : Deed → Type 0) (r : Result T JoinFault) {old new : Option History}
    → Adds old new (WorkedSo K r) → Adds old new (Every (IsOf K))
own_so K r told = adds_as (Every (IsOf K)) told (λ added history w. w.own)

pub pieces_so : {T : Type 0} (K : Deed → Type 0) (r : Result T JoinFault) {old new : Option History}
    → Adds old new (WorkedSo K r) → Adds old new (Every AsksInPieces)
pieces_so K r told = adds_as (Every AsksInPieces) told (λ added history w. w.pieces)

pub last_so : {T : Type 0} (K : Deed → Type 0) (r : Result T JoinFault) {old new : Option History}
    → Adds old new (WorkedSo K r) → Adds old new (JoinFailsLast r)
last_so K r told = adds_as (JoinFailsLast r) told (λ added history w. w.last)

behind : {T : Type 0} (r : Result T JoinFault) (a b history : History) → JoinFailsLast r b (a ++ history)
    → JoinFailsLast r (b ++ a) history
behind (Ok value) a b history x = tt
behind (Err (Job (Outside call))) a b history x =
    λ running. ends_behind call b a (x (ap is_stopped (sym (append_assoc b a history)) ∙ running))
behind (Err (Job (Damaged name at))) a b history x = tt
behind (Err (Job (Spent n))) a b history x = tt
behind (Err (Job no_memory)) a b history x = tt
behind (Err (Differ source kind name at)) a b history x = tt
behind (Err NoMemory) a b history x = tt

-- the call that failed is the last one, also behind other calls
pub join_fails_behind : {T : Type 0} {P : History → History → Type 0} (r : Result T JoinFault) {old mid new : Option History}
    → Adds old mid P → Adds mid new (JoinFailsLast r) → Adds old new (JoinFailsLast r)
join_fails_behind r so_far told = adds_then (JoinFailsLast r) so_far told (λ a b history p q. behind r a b history q)

pub failed_so : {T : Type 0} (U : Type 0) (fault : JobFault) (e : JoinFault) → e ≡ join_fault fault → {K : Deed → Type 0}
    {old new : Option History} → Adds old new (Worked {T = T} K (Err fault)) → Adds old new (JoinFailsLast {T = U} (Err e))
failed_so {T = T} U fault e is {K = K} {old = old} {new = new} told =
    subst (λ k. Adds old new (JoinFailsLast {T = U} (Err k))) (sym is)
    (adds_as (JoinFailsLast {T = U} (Err (join_fault fault))) told
    (λ added history w. fails_so T U fault added history w.last))

pub differs_last : (U : Type 0) (d : Difference) (e : JoinFault) → e ≡ differ_fault d → {P : History → History → Type 0}
    {old new : Option History} → Adds old new P → Adds old new (JoinFailsLast {T = U} (Err e))
differs_last U d e is {old = old} {new = new} told =
    subst (λ k. Adds old new (JoinFailsLast {T = U} (Err k))) (sym is)
    (adds_as (JoinFailsLast {T = U} (Err (differ_fault d))) told (λ added history p. tt))

pub joins_fault : {T : Type 0} (r : Result T JoinFault) → IfErr r IsFinishFault → IfErr r IsJoinFault
joins_fault (Ok value) only = tt
joins_fault (Err (Job (Outside call))) only = tt
joins_fault (Err (Job (Damaged name at))) only = tt
joins_fault (Err (Job (Spent n))) only = tt
joins_fault (Err (Job no_memory)) only = absurd only
joins_fault (Err (Differ source kind name at)) only = tt
joins_fault (Err NoMemory) only = tt

pub caused_then : {T : Type 0} (r : Result T JoinFault) (before mid now : ℕ) → mid ≡ before → JoinCause mid now r
    → JoinCause before now r
caused_then {T = T} r before mid now same is = subst (λ n. JoinCause {T = T} n now r) same is

-- ---- the files

module _ (held : Files) (left right : List ℕ) (can : can_join left ≡ true) (could : can_join right ≡ true)
    (settled : AreSettled (reads_of held left right) held) where
  abbrev R : List (List ℕ)
  R = reads_of held left right

  here : Contains R joined_book
  here = (0, omega arith, refl)

  in_left : (w : List ℕ) → Contains (archive_files held left) w → Contains R w
  in_left w one =
      later_one joined_book (archive_files held left ++ archive_files held right) w
      (Contains-append_left (archive_files held left) (archive_files held right) w one)

  in_right : (w : List ℕ) → Contains (archive_files held right) w → Contains R w
  in_right w one =
      later_one joined_book (archive_files held left ++ archive_files held right) w
      (Contains-append_right (archive_files held left) (archive_files held right) w one)

  -- after the preparation the files are as they were
  pub prepared_kept : (result : Result Prepared JobFault) {old new : Option History} → Adds old new (Every (IsOf Prepares))
      → Adds old new (Leads (anyhow (LeavesFolders left right)) (HasFiles R held) (PreparedSo held left right result))
      → Adds old new (Leads (anyhow (LeavesFolders left right)) (HasFiles R held)
      (λ h. HasFiles R held h × PreparedSo held left right result h))
  prepared_kept result own told =
      adds_both (Leads (anyhow (LeavesFolders left right)) (HasFiles R held)
      (λ h. HasFiles R held h × PreparedSo held left right result h)) own told
      (λ added history made x. record {
        leads = λ others had. (
          files_stay Prepares R held (joined_segment 0) settled
              (quiet_prepares R held left right (covers held left right can could settled)) added history made
              (spares_both Prepares held left right 0 added history made others) had,
          x.leads others had,
        );
        own = owned_anyhow added history;
      })

  -- ---- a join that wasn't prepared

  pub unprepared : (fault : JobFault) (e : JoinFault) → e ≡ join_fault fault → (h : History)
      → PreparedSo held left right (Err fault) h → Joined held left right (Err e) h
  unprepared fault e is h x = subst (λ k. Joined held left right (Err k) h) (sym is) (go fault x)
    where
      go : (fault : JobFault) → PreparedSo held left right (Err fault) h → Joined held left right (Err (join_fault fault)) h
      go (Outside call) x = tt
      go (Damaged name at) x = x
      go (Spent n) x = (x.0, x.1.0, x.1.1.0, x.1.1.1.0, x.1.1.1.1)
      go no_memory x = tt

  both_kept : (h : History) → HasFiles R held h
      → HasFiles (archive_files held left) held h × HasFiles (archive_files held right) held h
  both_kept h had = (λ w one. had w (in_left w one), λ w one. had w (in_right w one))

  pub unprepared_kept : (fault : JobFault) (e : JoinFault) → e ≡ join_fault fault → (h : History) → HasFiles R held h
      → Kept held left right (Err e) h
  unprepared_kept fault e is h had = subst (λ k. Kept held left right (Err k) h) (sym is) (go fault)
    where
      go : (fault : JobFault) → Kept held left right (Err (join_fault fault)) h
      go (Outside call) = ((both_kept h had).0, ((both_kept h had).1, inl (had joined_book here)))
      go (Damaged name at) = ((both_kept h had).0, ((both_kept h had).1, had joined_book here))
      go (Spent n) = ((both_kept h had).0, ((both_kept h had).1, had joined_book here))
      go no_memory = ((both_kept h had).0, ((both_kept h had).1, inl (had joined_book here)))

  -- ---- where they differ

  pub differ_so : (d : Difference) (e : JoinFault) → e ≡ differ_fault d → (h : History)
      → PreparedSo held left right (Ok (Differs d)) h → Joined held left right (Err e) h
  differ_so d e is h x = subst (λ k. Joined held left right (Err k) h) (sym is) (x.0, x.1)

  pub differ_kept : (d : Difference) (e : JoinFault) → e ≡ differ_fault d → (h : History) → HasFiles R held h
      → Kept held left right (Err e) h
  differ_kept d e is h had =
      subst (λ k. Kept held left right (Err k) h) (sym is)
      ((both_kept h had).0, ((both_kept h had).1, had joined_book here))

  -- ---- the publishing

  -- a file of another folder has a name like this
  named_so : (folder w : List ℕ) → Contains (archive_files held folder) w → (x : List ℕ) × (w ≡ folder ++ 47 ∷ x)
  named_so folder w (zero, low, at) = (codes "book", sym at)
  named_so folder w (suc k, low, at) = go (folder_book held folder).segments (k, omega (arith, low), at)
    where
      go : (gs : List Segment) → Contains (map (λ (g : Segment). segment_name folder g.number) gs) w
          → (x : List ℕ) × (w ≡ folder ++ 47 ∷ x)
      go [] one = absurd (none_in w one)
      go (g ∷ gs) (zero, low, at) = (segment_stem g.number, sym at)
      go (g ∷ gs) (suc k, low, at) = go gs (k, omega (arith, low), at)

  archive_stays : (folder : List ℕ) → bytes_eq folder joined_folder ≡ false
      → ((w : List ℕ) → Contains (archive_files held folder) w → Contains R w) → (added history : History)
      → Every (IsOf (ReplacesBookOf joined_folder)) added history → Others (LeavesFolders left right) added history
      → HasFiles R held history → HasFiles (archive_files held folder) held (added ++ history)
  archive_stays folder other within added history made others had w one =
      let n = named_so folder w one in
      stays_so (ReplacesBookOf joined_folder) w (held w)
      (λ call k. subst (λ v. touches call v ≡ false) (sym n.1) (quiet_other folder n.0 other call k))
      (settled w (within w one)).0 added history made
      (one_spared (ReplacesBookOf joined_folder) left right w (is_read held left right w (within w one)) added history made others)
      (had w (within w one))

  module _ (b : Struct) (report : JoinReport) (counted : IsCounted (Ready b report)) where
    -- what stands behind the publishing
    done_so : (added history : History) → Every (IsOf (ReplacesBookOf joined_folder)) added history
        → Others (LeavesFolders left right) added history → PreparedSo held left right (Ok (Ready b report)) history
        → HasNewBook (book_view b) (added ++ history) → JoinDone held left right report (added ++ history)
    done_so added history made others x new =
        let j = x.1 in
        let cs = j.1.0 in
        join_done (book_view b) (added ++ history) new held left right (folder_book held joined_folder).next cs report refl j.0
        (alone_stays left right (folder_book held joined_folder).next (book_view b).ends (book_view b) cs added history made others
        j.1.1.0)
        j.1.1.1.0 j.1.1.1.1.0 counted j.1.1.1.1.1.1.0 j.1.1.1.1.1.1.1

    ended : (result : Result JoinReport JoinFault) → IfErr result IsFinishFault → (added history : History)
        → Every (IsOf (ReplacesBookOf joined_folder)) added history → Others (LeavesFolders left right) added history
        → PreparedSo held left right (Ok (Ready b report)) history
        → FinishedSo (held joined_book) (book_view b) report result (added ++ history)
        → Joined held left right result (added ++ history)
    ended (Ok r) only added history made others x f =
        (x.0, subst (λ k. JoinDone held left right k (added ++ history)) (sym f.0) (done_so added history made others x f.1))
    ended (Err (Job (Outside call))) only added history made others x f = tt
    ended (Err (Job (Damaged name at))) only added history made others x f = absurd only
    ended (Err (Job (Spent n))) only added history made others x f = absurd only
    ended (Err (Job no_memory)) only added history made others x f = absurd only
    ended (Err (Differ source kind name at)) only added history made others x f = absurd only
    ended (Err NoMemory) only added history made others x f = tt

    old_or_done : (added history : History) → Every (IsOf (ReplacesBookOf joined_folder)) added history
        → Others (LeavesFolders left right) added history → PreparedSo held left right (Ok (Ready b report)) history
        → Has joined_book (held joined_book) (added ++ history) ⊎ HasNewBook (book_view b) (added ++ history)
        → OldOrDone held left right (added ++ history)
    old_or_done added history made others x (inl k) = inl k
    old_or_done added history made others x (inr k) = inr (report, done_so added history made others x k)

    book_kept : (result : Result JoinReport JoinFault) → IfErr result IsFinishFault → (added history : History)
        → Every (IsOf (ReplacesBookOf joined_folder)) added history → Others (LeavesFolders left right) added history
        → PreparedSo held left right (Ok (Ready b report)) history
        → FinishedSo (held joined_book) (book_view b) report result (added ++ history)
        → BookKept held left right result (added ++ history)
    book_kept (Ok r) only added history made others x f = tt
    book_kept (Err (Job (Outside call))) only added history made others x f = old_or_done added history made others x f
    book_kept (Err (Job (Damaged name at))) only added history made others x f = absurd only
    book_kept (Err (Job (Spent n))) only added history made others x f = absurd only
    book_kept (Err (Job no_memory)) only added history made others x f = absurd only
    book_kept (Err (Differ source kind name at)) only added history made others x f = absurd only
    book_kept (Err NoMemory) only added history made others x f = old_or_done added history made others x f

    pub published_join : (result : Result JoinReport JoinFault) → IfErr result IsFinishFault → {old new : Option History}
        → Adds old new (Every (IsOf (ReplacesBookOf joined_folder)))
        → Adds old new (Leads (anyhow (LeavesBoth joined_book)) (Has joined_book (held joined_book))
        (FinishedSo (held joined_book) (book_view b) report result))
        → Adds old new (Leads (anyhow (LeavesFolders left right))
        (λ h. HasFiles R held h × PreparedSo held left right (Ok (Ready b report)) h)
        (λ h. Joined held left right result h × Kept held left right result h))
    published_join result only own told =
        adds_both (Leads (anyhow (LeavesFolders left right))
        (λ h. HasFiles R held h × PreparedSo held left right (Ok (Ready b report)) h)
        (λ h. Joined held left right result h × Kept held left right result h)) own told
        (λ added history made x. record {
          leads = λ others had.
              let f = x.leads (leaves_book left right added history others) (had.0 joined_book here) in (
                ended result only added history made others had.1 f,
                (
                  archive_stays left (other_folder left can) in_left added history made others had.0,
                  (
                    archive_stays right (other_folder right could) in_right added history made others had.0,
                    book_kept result only added history made others had.1 f,
                  ),
                ),
              );
          own = owned_anyhow added history;
        })
