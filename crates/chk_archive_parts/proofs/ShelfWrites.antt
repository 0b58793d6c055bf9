-- Records of a shelf while a segment is written.
use Rattle.std.proofs.Common.{◌≡◌, ℕ, ◌<◌, false, List, [], ◌∷◌, ◌++◌, length, Option, Ok, Err, Result, ap, subst, ◌∙◌, refl}
use Rattle.std.specs.Prelude.{Contains, IsFalse, codes, slice_index_or}
use Rattle.chk_site.specs.History.{History, Every, is_stopped}
use Rattle.chk_site.specs.Site.{Adds}
use Rattle.chk_site.specs.Runs.{Leads, anyhow}
use Rattle.chk_site.proofs.Runs.{adds_as}
use Rattle.chk_site.proofs.Leads.{leads_as, leads_then}
use Rattle.chk_chunk.specs.Keys.{Key, Chunk}
use Rattle.chk_world.specs.Names.{ArchiveFolder, Name, BookFile, SegmentFile, read}
use Rattle.chk_world.specs.Places.{As}
use Rattle.chk_world.specs.Sight.{job, Sight, sight, AtJob}
use Rattle.chk_world.specs.JobSteps.{IsOf, ReadsFile, WritesTo}
use Rattle.chk_world.proofs.NameTests.{same_name}
use Rattle.chk_record_index.specs.Heads.{Head}
use Rattle.chk_record_index.specs.Faults.{IsOfRead}
use Rattle.chk_record_index.specs.declared.fault.JobFault.{JobFault}
use Rattle.chk_record_index.specs.declared.fault.JobFault.TheVariants.{Outside, Damaged, Spent, NoMemory}
use Rattle.chk_archive_plan.specs.Passes.{head_in}
use Rattle.chk_book.specs.Folders.{segment_name}
use Rattle.chk_book.specs.declared.segmenter.Segmenter.{Segmenter}
use Rattle.chk_archive_parts.specs.Gathering.{held, held_at, CanBeRead, own_book_file, own_segment, shown_sink}
use Rattle.chk_archive_parts.specs.Fetching.{IsRecordAt}
use Rattle.chk_archive_parts.specs.Cuts.{cut_of}
use Rattle.chk_archive_parts.specs.Writes.{SameBut, IsFree, IsSoFar, PutSo, CutSo}
use Rattle.chk_archive_parts.proofs.FromKnown.{with_fact}
use Rattle.chk_archive_parts.proofs.OneSegment.{quiet_write}
use Rattle.chk_world.proofs.Lifts.{no_write_starts}
use Rattle.chk_record_reader.specs.Segments.{HasFiles, SparesFiles}
use Rattle.chk_archive_parts.specs.Cuts.{no_chunk}
use Rattle.chk_archive_parts.specs.Records.{AreRecords}
use Rattle.chk_archive_parts.specs.Shelves.{AreKept, value_kept, CanShelve, ShownSo}
use Rattle.chk_archive_parts.specs.declared.shelf.Shelf.{Shelf}
use Rattle.chk_archive_parts.proofs.Among.{record_at}
use Rattle.chk_archive_parts.proofs.ManyFiles.{reads_all}

module _ (v : Sight) (files : List (List ℕ)) (heads : List Head) (cs : List Chunk) (records : AreRecords v files heads cs)
    (i : ℕ) (low : i < length heads) where
  abbrev pub C : Chunk
  C = slice_index_or cs i no_chunk

  abbrev pub H : Head
  H = head_in heads i

  is_record : IsRecordAt v files heads i C
  is_record = record_at v files heads cs records i low

  -- ---- while a segment is written

  module _ (stamped : List (List ℕ)) (s : Segmenter) (chunks : List Chunk) (free : IsFree v files s.number)
      (r t : Shelf) (result : Result (Unit {0}) JobFault) where
    abbrev pub P : Sight → Type 0
    P u = IsSoFar v chunks s u × AreKept v files heads r

    same_held : (u : Sight) → SameBut s.number v u → (w : List ℕ) → Contains files w → held u w ≡ held v w
    same_held u b w one = go (read w) (records.sound w one).can (free.apart w one)
      where
        go : (n : Name) → CanBeRead v n → IsFalse (same_name n (SegmentFile ArchiveFolder s.number))
            → held_at u n ≡ held_at v n
        go n own_book_file apart = b.own (BookFile ArchiveFolder) refl
        go n (own_segment k count) apart = b.own (SegmentFile ArchiveFolder k) apart
        go n (shown_sink x shown) apart = b.sinks x

    led : {old new : Option History} → Adds old new (Leads (anyhow (SparesFiles files)) (CanShelve v files heads r)
        (ShownSo v files heads C.value t result))
        → Adds old new (Every (IsOf ReadsFile))
        → Adds old new (Leads (As stamped job) (AtJob stamped P)
        (λ h. AtJob stamped P h × (is_stopped h ≡ false → AreKept v files heads r
        → ShownSo v files heads C.value t result h)))
    led raw own =
        reads_all stamped P v files records.sound (λ u p. p.0.same.listing)
        (λ u p w one. same_held u p.0.same w one)
        (λ h. AreKept v files heads r → ShownSo v files heads C.value t result h)
        (adds_as (Leads (anyhow (SparesFiles files)) (HasFiles files (held v))
        (λ h. AreKept v files heads r → ShownSo v files heads C.value t result h)) raw
        (λ added history l. record { leads = λ others h x. l.leads others (h, x); own = l.own }))
        own

    -- it was refused
    pub not_fetched : (next : List Chunk) (fault : JobFault) → result ≡ Err fault → IsOfRead fault
        → {old new : Option History}
        → Adds old new (Leads (anyhow (SparesFiles files)) (CanShelve v files heads r)
        (ShownSo v files heads C.value t result))
        → Adds old new (Every (IsOf ReadsFile))
        → Adds old new (Leads (As stamped job) (AtJob stamped P) (CutSo stamped v files heads next s t (Err fault)))
    not_fetched next fault e only raw own =
        leads_as (λ h k. k) (λ h z. go fault e only h z.0 z.1) (led raw own)
      where
        go : (fault : JobFault) → result ≡ Err fault → IsOfRead fault → (h : History) → AtJob stamped P h
            → (is_stopped h ≡ false → AreKept v files heads r → ShownSo v files heads C.value t result h)
            → CutSo stamped v files heads next s t (Err fault) h
        go (Outside call) e only h p f = p.legal
        go (Damaged name at) e only h p f = record {
          legal = p.legal;
          may_act = p.may_act;
          alive = λ runs. subst (λ x. ShownSo v files heads C.value t x h) e (f runs (p.alive runs).1);
        }
        go (Spent n) e only h p f = p.legal
        go NoMemory e only h p f = p.legal

    abbrev pub X : Type 0
    X = AreKept v files heads t × (value_kept t ≡ C.value)

    -- it is there
    pub is_fetched : (value : Unit {0}) → result ≡ Ok value → {old new : Option History}
        → Adds old new (Leads (anyhow (SparesFiles files)) (CanShelve v files heads r)
        (ShownSo v files heads C.value t result))
        → Adds old new (Every (IsOf ReadsFile))
        → Adds old new (Leads (As stamped job) (AtJob stamped P)
        (AtJob stamped (λ u. IsSoFar v chunks s u × X)))
    is_fetched value e raw own =
        leads_as (λ h k. k)
        (λ h z. record {
          legal = z.0.legal;
          may_act = z.0.may_act;
          alive = λ runs.
              let p = z.0.alive runs in
              let f = subst (λ x. ShownSo v files heads C.value t x h) e (z.1 runs p.1) in
              (p.0, (f.0.1, f.1));
        })
        (led raw own)

    -- and it is written
    module _ (after : Segmenter) (put : Result (Unit {0}) JobFault) (skip : ℕ) (k : Key) (value : List ℕ)
        (key_is : k ≡ H.key) (value_is : value ≡ value_kept t) where
      given : X → cut_of skip (record { key = k; value = value }) ≡ cut_of skip C
      given x =
          ap (cut_of skip)
          (λ j. record {
            key = (key_is ∙ ap (λ (d : Chunk). d.key) is_record.is) j;
            value = (value_is ∙ x.1) j;
          })

      done : (put : Result (Unit {0}) JobFault) (h : History)
          → PutSo stamped v (chunks ++ cut_of skip (record { key = k; value = value }) ∷ []) after put h
          → (is_stopped h ≡ false → X) → CutSo stamped v files heads (chunks ++ cut_of skip C ∷ []) after t put h
      done (Ok value) h z x = record {
        legal = z.legal;
        may_act = z.may_act;
        alive = λ runs. (
          subst (λ d. IsSoFar v (chunks ++ d ∷ []) after (sight h)) (given (x runs)) (z.alive runs),
          (x runs).0,
        );
      }
      done (Err (Outside call)) h z x = z
      done (Err (Damaged name at)) h z x = z
      done (Err (Spent n)) h z x = z
      done (Err NoMemory) h z x = z

      pub cut_done : {old mid new : Option History}
          → Adds old mid (Leads (As stamped job) (AtJob stamped P) (AtJob stamped (λ u. IsSoFar v chunks s u × X)))
          → Adds mid new (Leads (As stamped job) (AtJob stamped (IsSoFar v chunks s))
          (PutSo stamped v (chunks ++ cut_of skip (record { key = k; value = value }) ∷ []) after put))
          → Adds mid new (Every (IsOf (WritesTo (segment_name (codes "archive") s.number))))
          → Adds old new (Leads (As stamped job) (AtJob stamped P)
          (CutSo stamped v files heads (chunks ++ cut_of skip C ∷ []) after t put))
      cut_done first told own =
          let N = segment_name (codes "archive") s.number in
          leads_then first
          (leads_as (λ h k. k) (λ h z. done put h z.0 z.1)
          (with_fact stamped (WritesTo N) (no_write_starts N) (quiet_write N) X (IsSoFar v chunks s)
          (PutSo stamped v (chunks ++ cut_of skip (record { key = k; value = value }) ∷ []) after put) own told))
