-- Whether one of some records has the data of another one.
use Rattle.std.proofs.Common.{◌≡◌, ℕ, ◌+◌, ◌≤◌, ◌<◌, ◌||◌, Bool, true, false, List, [], ◌∷◌, length, take, drop, Option, Ok, Err, Result, ap, sym, subst, ◌∙◌, refl}
use Rattle.std.specs.List.{list_any}
use Rattle.std.specs.Prelude.{bytes_eq, slice_index_or}
use Rattle.std.proofs.lemmas.Bool.{or_from}
use Rattle.std.proofs.lemmas.List.{take_more, take_all, drop_more, take-append-drop}
use Rattle.std.proofs.lemmas.List.Folds.{list_any-append}
use Rattle.chk_site.specs.History.{History}
use Rattle.chk_site.specs.Site.{Adds}
use Rattle.chk_site.specs.Runs.{Leads, Side, anyhow}
use Rattle.chk_site.proofs.Runs.{adds_as}
use Rattle.chk_site.proofs.Leads.{leads_as, leads_none, leads_then}
use Rattle.chk_chunk.specs.Keys.{Chunk}
use Rattle.chk_world.specs.Sight.{Sight}
use Rattle.chk_record_index.specs.Heads.{Head}
use Rattle.chk_record_index.specs.Order.{no_head}
use Rattle.chk_record_index.specs.declared.fault.JobFault.{JobFault}
use Rattle.chk_record_index.specs.declared.fault.JobFault.TheVariants.{Outside, Damaged, Spent, NoMemory}
use Rattle.chk_record_reader.specs.ReadBack.{value_held}
use Rattle.chk_record_reader.specs.Segments.{SparesFiles}
use Rattle.chk_record_reader.specs.declared.reader.RecordReader.{RecordReader}
use Rattle.chk_archive_parts.specs.declared.cuts.Cut.{Cut}
use Rattle.chk_archive_parts.specs.Cuts.{no_chunk}
use Rattle.chk_archive_parts.specs.Records.{AreRecords}
use Rattle.chk_archive_parts.specs.Fetching.{IsRecordAt, AreWindows, CanFetchAll, FetchedAll}
use Rattle.chk_archive_parts.specs.Kept.{value_in, has_value, AmongSo, CanFind, FoundSo}
use Rattle.chk_archive_parts.proofs.CutLists.{zip_at, no_cut}

-- a fact of values stays
pub leads_with : (X : Type 0) {S : Side} {A B : History → Type 0} {old new : Option History}
    → Adds old new (Leads S A B) → Adds old new (Leads S (λ h. A h × X) (λ h. B h × X))
leads_with X {S = S} {A = A} {B = B} told =
    adds_as (Leads S (λ h. A h × X) (λ h. B h × X)) told
    (λ added history x. record { leads = λ s h. (x.leads s h.0, h.1); own = x.own })

module _ (v : Sight) (files : List (List ℕ)) (heads : List Head) (cs : List Chunk) (records : AreRecords v files heads cs) where
  abbrev pub S : Side
  S = anyhow (SparesFiles files)

  pub record_at : (i : ℕ) → i < length heads → IsRecordAt v files heads i (slice_index_or cs i no_chunk)
  record_at i low = zip_at _ heads cs records.each i low no_head no_chunk

  -- ---- among the known ones

  module _ (known : List Cut) (value : List ℕ) (i : ℕ) (A : History → Type 0) (r : RecordReader) where
    abbrev pub K : Cut
    K = slice_index_or known i no_cut

    abbrev p : Cut → Bool
    p k = bytes_eq (value_in cs k.index) value

    abbrev pub SoFar : ℕ → RecordReader → History → Type 0
    SoFar n q = λ h. CanFetchAll v files q h × (has_value value cs (take n known) ≡ false)

    pub among_none : length known ≤ i → {old new : Option History} → Adds old new (Leads S A (SoFar i r))
        → Adds old new (Leads S A (AmongSo v files value cs known r (Ok false)))
    among_none low told =
        leads_as (λ h k. k) (λ h z. (z.0, sym (ap (has_value value cs) (sym (take_all i known low)) ∙ z.1))) told

    module _ (low : i < length known) (q : RecordReader) (result : Result (Unit {0}) JobFault) {old mid new : Option History}
        (so_far : Adds old mid (Leads S A (SoFar i r)))
        (fetched : Adds mid new (Leads S (CanFetchAll v files r) (FetchedAll v files (slice_index_or cs K.index no_chunk) q result))) where
      both : Adds old new (Leads S A (λ h. FetchedAll v files (slice_index_or cs K.index no_chunk) q result h
          × (has_value value cs (take i known) ≡ false)))
      both = leads_then so_far (leads_with (has_value value cs (take i known) ≡ false) fetched)

      module _ (u : Unit {0}) (done : result ≡ Ok u) where
        got : (h : History) → FetchedAll v files (slice_index_or cs K.index no_chunk) q result h
            → CanFetchAll v files q h × (value_held q ≡ value_in cs K.index)
        got h f = subst (λ x. FetchedAll v files (slice_index_or cs K.index no_chunk) q x h) done f

        pub among_more : bytes_eq (value_held q) value ≡ false → Adds old new (Leads S A (SoFar (i + 1) q))
        among_more other =
            leads_as (λ h k. k)
            (λ h z.
            let f = got h z.0 in (
              f.0,
              ap (list_any p) (take_more known i no_cut low)
                  ∙ (list_any-append p (take i known) (K ∷ [])
                  ∙ or_from (list_any p (take i known)) (p K || false) z.1
                  (or_from (p K) false (ap (λ l. bytes_eq l value) (sym f.1) ∙ other) refl)),
            ))
            both

        pub among_found : bytes_eq (value_held q) value ≡ true
            → Adds old new (Leads S A (AmongSo v files value cs known q (Ok true)))
        among_found same =
            leads_as (λ h k. k)
            (λ h z.
            let f = got h z.0 in
            let rest = list_any p (drop (i + 1) known) in (
              f.0,
              sym (ap (list_any p) (sym (take-append-drop i known))
                  ∙ (list_any-append p (take i known) (drop i known)
                  ∙ (ap (λ b. b || list_any p (drop i known)) z.1
                  ∙ (ap (list_any p) (drop_more known i no_cut low)
                  ∙ ap (λ b. b || rest) (ap (λ l. bytes_eq l value) (sym f.1) ∙ same))))),
            ))
            both

      pub among_fails : (fault : JobFault) → result ≡ Err fault
          → Adds old new (Leads S A (AmongSo v files value cs known q (Err fault)))
      among_fails fault e =
          leads_as (λ h k. k)
          (λ h z. go fault h (subst (λ x. FetchedAll v files (slice_index_or cs K.index no_chunk) q x h) e z.0)) both
        where
          go : (fault : JobFault) (h : History) → FetchedAll v files (slice_index_or cs K.index no_chunk) q (Err fault) h
              → AmongSo v files value cs known q (Err fault) h
          go (Outside call) h k = tt
          go (Damaged name at) h k = k
          go (Spent n) h k = tt
          go NoMemory h k = tt

  -- ---- where some are known

  module _ (known : List Cut) (index : ℕ) (r q : RecordReader) where
    pub found_none : (known ≡ []) → (now : Option History)
        → Adds now now (Leads S (CanFind v files r q) (FoundSo v files (value_in cs index) cs known r q (Ok false)))
    found_none e now = leads_none now (λ h k. (k, sym (ap (has_value (value_in cs index) cs) e)))

    module _ (after : RecordReader) (result : Result (Unit {0}) JobFault) {old mid : Option History}
        (fetched : Adds old mid (Leads S (CanFetchAll v files q) (FetchedAll v files (slice_index_or cs index no_chunk) after result))) where
      pub found_fails : (t : RecordReader) (fault : JobFault) → result ≡ Err fault
          → Adds old mid (Leads S (CanFind v files r q) (FoundSo v files (value_in cs index) cs known t after (Err fault)))
      found_fails t fault e =
          leads_as (λ h k. (k.0, k.2))
          (λ h z. go fault h (subst (λ x. FetchedAll v files (slice_index_or cs index no_chunk) after x h) e z)) fetched
        where
          go : (fault : JobFault) (h : History) → FetchedAll v files (slice_index_or cs index no_chunk) after (Err fault) h
              → FoundSo v files (value_in cs index) cs known t after (Err fault) h
          go (Outside call) h k = tt
          go (Damaged name at) h k = k
          go (Spent n) h k = tt
          go NoMemory h k = tt

      pub found_then : (u : Unit {0}) → result ≡ Ok u → (t : RecordReader) (value : List ℕ) → value ≡ value_held after
          → (found : Result Bool JobFault) {new : Option History}
          → Adds mid new (Leads S (CanFetchAll v files r) (AmongSo v files value cs known t found))
          → Adds old new (Leads S (CanFind v files r q) (FoundSo v files (value_in cs index) cs known t after found))
      found_then u done t value is found told =
          leads_then
          (leads_as {B' = λ h. CanFetchAll v files r h × X} (λ h k. ((k.0, k.2), k.1))
          (λ h z.
          let f = subst (λ x. FetchedAll v files (slice_index_or cs index no_chunk) after x h) done z.0 in
          ((f.0.0, z.1), (f.0.1, f.1)))
          (leads_with (AreWindows v files r) fetched))
          (leads_as (λ h k. k) (λ h z. go found h z.0 z.1) (leads_with X told))
        where
          X : Type 0
          X = AreWindows v files after × (value_held after ≡ value_in cs index)

          go : (found : Result Bool JobFault) (h : History) → AmongSo v files value cs known t found h → X
              → FoundSo v files (value_in cs index) cs known t after found h
          go (Ok b) h k x =
              ((k.0.0, k.0.1, x.0), k.1 ∙ ap (λ l. has_value l cs known) (is ∙ x.1))
          go (Err (Outside call)) h k x = tt
          go (Err (Damaged name at)) h k x = k
          go (Err (Spent n)) h k x = tt
          go (Err NoMemory) h k x = tt
