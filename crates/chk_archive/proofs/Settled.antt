-- The calls of a run, one behind the other.
use Rattle.std.proofs.Common.{◌≡◌, ◌⊎◌, ℕ, ◌≤◌, false, List, length, Option, None, Ok, Err, Result, ap, sym, subst, ◌∙◌, refl}
use Rattle.std.specs.Prelude.{IsTrue}
use Rattle.chk_site.specs.declared.acts.OutsideFault.{OutsideFault}
use Rattle.chk_site.specs.Acts.{Deed, Starts}
use Rattle.chk_site.specs.Files.{File}
use Rattle.chk_site.specs.History.{History, Every, files_after}
use Rattle.chk_site.specs.Site.{Adds}
use Rattle.chk_site.specs.Runs.{Leads}
use Rattle.chk_site.proofs.Leads.{leads_as, leads_then}
use Rattle.chk_world.specs.Names.{ArchiveFolder, SegmentFile, Name}
use Rattle.chk_world.specs.Books.{Book, book_of}
use Rattle.chk_world.specs.Rules.{Legal}
use Rattle.chk_world.specs.Places.{As}
use Rattle.chk_world.specs.Sight.{job, Sight, sight, own_book, AtJob}
use Rattle.chk_world.specs.JobSteps.{IsOf}
use Rattle.chk_world.proofs.ToldCalls.{talks}
use Rattle.chk_record_index.specs.Faults.{job_fault, IsOfRead}
use Rattle.chk_record_index.specs.declared.fault.JobFault.{JobFault}
use Rattle.chk_record_index.specs.declared.fault.JobFault.TheVariants.{Outside, Damaged, Spent, NoMemory}
use Rattle.chk_archive_parts.proofs.OneFile.{Knows}
use Rattle.chk_archive_parts.proofs.FromKnown.{from_known, reach, reach_known, with_fact}
use Rattle.chk_archive.specs.Archived.{Archived, Begun, MergesBy, NoStray}
use Rattle.chk_archive.specs.Beginning.{HasBegun}
use Rattle.chk_archive.specs.FolderNames.{names_segment}
use Rattle.chk_archive.specs.Listed.{IsListed}
use Rattle.chk_archive.specs.Merged.{few_stay, many_merged, IsMergeOf, IsMerged, Merged}
use Rattle.chk_archive.specs.Reports.{Report}
use Rattle.chk_archive.specs.Running.{FinishesBy, takes_by, removes_closed}
use Rattle.chk_archive.specs.Sinks.{OwnAre, ShowsSinks, ListsSinks, lists_sinks, as_sight}
use Rattle.chk_archive.specs.Written.{for_merge}
use Rattle.chk_archive.specs.Tidying.{HasBook, IsTidy, TidiesBy, lists_archive, removes_stray}
use Rattle.chk_archive.proofs.Finished.{of_fault}
use Rattle.chk_archive.proofs.NoStrays.{no_stray}
use Rattle.chk_archive.proofs.Readied.{merges_start, quiet_merge}

tidies_start : (b : Book) → TidiesBy b Starts → ⊥
tidies_start b h = elim h [ ]

quiet_tidy : (b : Book) (call : Deed) → TidiesBy b call → talks call ≡ false
quiet_tidy b call lists_archive = refl
quiet_tidy b call (removes_stray name stray) = refl

lists_start : ListsSinks Starts → ⊥
lists_start h = elim h [ ]

quiet_list : (call : Deed) → ListsSinks call → talks call ≡ false
quiet_list call lists_sinks = refl

finish_start : FinishesBy Starts → ⊥
finish_start (takes_by call k) = merges_start k

quiet_finish : (call : Deed) → FinishesBy call → talks call ≡ false
quiet_finish call (takes_by c k) = quiet_merge c k
quiet_finish call (removes_closed name closed) = refl

pub begin_fails : (stamped : List (List ℕ)) (loaded : Book) (fault : JobFault) (h : History) → IsOfRead fault
    → HasBegun stamped loaded (Err fault) h → Archived stamped loaded (Err fault) h
begin_fails stamped loaded (Outside call) h of k = k
begin_fails stamped loaded (Damaged name place) h of k = k
begin_fails stamped loaded (Spent n) h of k = absurd of
begin_fails stamped loaded NoMemory h of k = k

pub merge_fails : (stamped : List (List ℕ)) (loaded b c : Book) (fault : JobFault) (h : History)
    → Merged stamped b c (Err fault) h → Archived stamped loaded (Err fault) h
merge_fails stamped loaded b c (Outside call) h k = k
merge_fails stamped loaded b c (Damaged name place) h k = k
merge_fails stamped loaded b c (Spent n) h k = record {
  legal = k.legal;
  may_act = k.may_act;
  alive = λ runs.
      let p = k.alive runs in
      let same : book_of (files_after h) ArchiveFolder ≡ b = p.3 in (
        p.0,
        for_merge (subst (λ (x : Book). 16 ≤ length x.segments) (sym same) p.1) (ap (λ (x : Book). x.next) same ∙ p.2),
      );
}
merge_fails stamped loaded b c NoMemory h k = k

-- it goes by the job's own files alone
of_own : (loaded b : Book) (v : Sight) → IsMergeOf loaded b v → IsMergeOf loaded b (as_sight v.own)
of_own loaded b v (few_stay few same) = few_stay few same
of_own loaded b v (many_merged many g number alone next counts records) = many_merged many g number alone next counts records

own_of : (loaded b : Book) (v : Sight) → IsMergeOf loaded b (as_sight v.own) → IsMergeOf loaded b v
own_of loaded b v (few_stay few same) = few_stay few same
own_of loaded b v (many_merged many g number alone next counts records) = many_merged many g number alone next counts records

pub ends_stopped : (stamped : List (List ℕ)) (loaded : Book) (r : Result Report JobFault) (h : History)
    → AtJob stamped (λ u. ⊥) h → Archived stamped loaded r h
ends_stopped stamped loaded (Ok report) h k =
    record { legal = k.legal; may_act = k.may_act; alive = λ runs. absurd (k.alive runs) }
ends_stopped stamped loaded (Err (Outside call)) h k = k.legal
ends_stopped stamped loaded (Err (Damaged name place)) h k = k
ends_stopped stamped loaded (Err (Spent n)) h k =
    record { legal = k.legal; may_act = k.may_act; alive = λ runs. absurd (k.alive runs) }
ends_stopped stamped loaded (Err NoMemory) h k = k.legal

module _ (stamped : List (List ℕ)) (loaded b c : Book) {a m : Option History}
    (begun : Adds a m (Leads (As stamped job) (Begun stamped loaded) (HasBegun stamped loaded (Ok b)))) where
  has_begun : Adds a m (Leads (As stamped job) (Begun stamped loaded) (AtJob stamped (λ u. HasBook b u × (b ≡ loaded))))
  has_begun = leads_as (λ h k. k)
      (λ h k. record {
        legal = k.legal;
        may_act = k.may_act;
        alive = λ runs. let p = k.alive runs in (p.0 ∙ sym p.1, p.1);
      }) begun

  pub tidy_fails : {n : Option History} (fault : OutsideFault)
      → Adds m n (Leads (As stamped job) (AtJob stamped (HasBook b)) (Legal stamped))
      → Adds a n (Leads (As stamped job) (Begun stamped loaded) (Archived stamped loaded (Err (job_fault fault))))
  tidy_fails fault told =
      leads_then has_begun
      (leads_as (λ h k. record { legal = k.legal; may_act = k.may_act; alive = λ runs. (k.alive runs).0 })
      (λ h k. of_fault stamped loaded fault h k) told)

  module _ {n : Option History} (tidied : Adds m n (Leads (As stamped job) (AtJob stamped (HasBook b)) (AtJob stamped (IsTidy b))))
      (own : Adds m n (Every (IsOf (TidiesBy b)))) where
    is_tidy : Adds a n (Leads (As stamped job) (Begun stamped loaded) (AtJob stamped (λ u. IsTidy b u × (b ≡ loaded))))
    is_tidy =
        leads_then has_begun
        (leads_as (λ h k. k)
        (λ h k. record {
          legal = k.0.legal;
          may_act = k.0.may_act;
          alive = λ runs. (k.0.alive runs, k.1 runs);
        })
        (with_fact stamped (TidiesBy b) (tidies_start b) (quiet_tidy b) (b ≡ loaded) (HasBook b)
        (AtJob stamped (IsTidy b)) own tidied))

    pub many_fails : {z : Option History} (fault : JobFault)
        → Adds n z (Leads (As stamped job) (AtJob stamped (IsTidy b)) (Merged stamped b c (Err fault)))
        → Adds a z (Leads (As stamped job) (Begun stamped loaded) (Archived stamped loaded (Err fault)))
    many_fails fault told =
        leads_then is_tidy
        (leads_as (λ h k. record { legal = k.legal; may_act = k.may_act; alive = λ runs. (k.alive runs).0 })
        (λ h k. merge_fails stamped loaded b c fault h k) told)

    pub is_merged : {z : Option History} → Adds n z (Leads (As stamped job) (AtJob stamped (IsTidy b)) (AtJob stamped (IsMerged b c)))
        → Adds n z (Every (IsOf MergesBy))
        → Adds a z (Leads (As stamped job) (Begun stamped loaded) (AtJob stamped (IsMerged loaded c)))
    is_merged told made =
        leads_then is_tidy
        (leads_as (λ h k. k)
        (λ h k. record {
          legal = k.0.legal;
          may_act = k.0.may_act;
          alive = λ runs. subst (λ x. IsMerged x c (sight h)) (k.1 runs) (k.0.alive runs);
        })
        (with_fact stamped MergesBy merges_start quiet_merge (b ≡ loaded) (IsTidy b) (AtJob stamped (IsMerged b c)) made told))

-- ---- the listing, and what follows it

pub listing_fails : (stamped : List (List ℕ)) (loaded b : Book) (fault : OutsideFault) {m z : Option History}
    → Adds m z (Every (IsOf ListsSinks))
    → ((own : Name → Option File) → Adds m z (Leads (As stamped job) (AtJob stamped (OwnAre own)) (Legal stamped)))
    → Adds m z (Leads (As stamped job) (AtJob stamped (IsMerged loaded b)) (Archived stamped loaded (Err (job_fault fault))))
listing_fails stamped loaded b fault made told =
    from_known stamped ListsSinks lists_start quiet_list (IsMerged loaded b) (Archived stamped loaded (Err (job_fault fault))) made
    (λ h k runs.
    reach stamped h (AtJob stamped (OwnAre (sight h).own)) (Archived stamped loaded (Err (job_fault fault)))
    (leads_as (λ g j. j) (λ g j. of_fault stamped loaded fault g j) (told (sight h).own))
    (record { legal = k.legal; may_act = k.may_act; alive = λ still n. refl }))
    (λ h k. of_fault stamped loaded fault h k.legal)

module _ (stamped : List (List ℕ)) (loaded b : Book) (names : List (List ℕ)) where
  abbrev Ready : Sight → Type 0
  Ready v = ShowsSinks v.own names v × IsMerged loaded b v

  pub is_ready : {m z : Option History} → Adds m z (Every (IsOf ListsSinks))
      → ((own : Name → Option File) → Adds m z (Leads (As stamped job) (AtJob stamped (OwnAre own)) (AtJob stamped (ShowsSinks own names))))
      → Adds m z (Leads (As stamped job) (AtJob stamped (IsMerged loaded b)) (AtJob stamped Ready))
  is_ready made told =
      from_known stamped ListsSinks lists_start quiet_list (IsMerged loaded b) (AtJob stamped Ready) made
      (λ h k runs.
      let old = k.alive runs in
      reach stamped h (AtJob stamped (OwnAre (sight h).own)) (AtJob stamped Ready)
      (leads_as (λ g j. j)
      (λ g j. record {
        legal = j.legal;
        may_act = j.may_act;
        alive = λ still. goes h g old (j.alive still);
      }) (told (sight h).own))
      (record { legal = k.legal; may_act = k.may_act; alive = λ still n. refl }))
      (λ h k. record { legal = k.legal; may_act = k.may_act; alive = λ runs. absurd (k.alive runs) })
    where
      goes : (h g : History) → IsMerged loaded b (sight h) → ShowsSinks (sight h).own names (sight g) → Ready (sight g)
      goes h g old s =
          let same : (sight g).own ≡ (sight h).own = λ i n. s.own_now n i in (
            subst (λ o. ShowsSinks o names (sight g)) (sym same) s,
            record {
              book = ap (λ o. own_book (as_sight o) ArchiveFolder) same ∙ old.book;
              strays = λ k count.
                  subst (λ o. (o (SegmentFile ArchiveFolder k) ≡ None) ⊎ (IsTrue (names_segment b k) ⊎ IsTrue (names_segment loaded k)))
                  (sym same) (old.strays k count);
              merged = own_of loaded b (sight g)
                  (subst (λ o. IsMergeOf loaded b (as_sight o)) (sym same) (of_own loaded b (sight h) old.merged));
            },
          )

  pub is_archived : (r : Result Report JobFault) {m z : Option History} → Adds m z (Every (IsOf FinishesBy))
      → ((v : Sight) (at : IsListed stamped names b v) → NoStray loaded at.shows.listing.upto
      → IsMergeOf loaded b v
      → Adds m z (Leads (As stamped job) (Knows stamped v) (Archived stamped loaded r)))
      → Adds m z (Leads (As stamped job) (AtJob stamped Ready) (Archived stamped loaded r))
  is_archived r made told =
      from_known stamped FinishesBy finish_start quiet_finish Ready (Archived stamped loaded r) made
      (λ h k runs.
      let p = k.alive runs in
      let at : IsListed stamped names b (sight h) =
      record { history = h; legal = k.legal; is = refl; shows = p.0; book = p.1.book } in
      reach_known stamped h Ready (Archived stamped loaded r)
      (told (sight h) at (no_stray stamped names b (sight h) at loaded p.1.strays) p.1.merged) k)
      (ends_stopped stamped loaded r)
