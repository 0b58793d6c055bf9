-- What the reads of a run lead to, whatever was told before.
use Rattle.std.proofs.Common.{◌≡◌, ℕ, ◌<◌, false, List, [], ◌∷◌, ◌++◌, length, Option, Some, None, Ok, Err, Result, refl, sym, subst, ◌∙◌, arith, inl, inr}
use Rattle.std.specs.Prelude.{drop, Contains, IfErr, IsTrue, codes, slice_index_or}
use Rattle.std.proofs.lemmas.Option.{same_Some}
use Rattle.std.proofs.lemmas.List.{append_cancel_right}
use Rattle.std.proofs.lemmas.List.Elements.{Contains-append_left, Contains-get_or}
use Rattle.chk_site.specs.declared.acts.OutsideFault.{OutsideFault}
use Rattle.chk_site.specs.declared.acts.OutsideFault.TheVariants.{Outside as site_failed, NoMemory as no_memory}
use Rattle.chk_site.specs.Acts.{Deed, touches}
use Rattle.chk_site.specs.Files.{File, Files, IsSettled}
use Rattle.chk_site.specs.Effect.{IsSmallFile}
use Rattle.chk_site.specs.History.{Step, History, Every, Others}
use Rattle.chk_site.specs.Site.{Adds}
use Rattle.chk_site.specs.Runs.{anyhow, Leads}
use Rattle.chk_site.proofs.Runs.{adds_as}
use Rattle.chk_site.proofs.Leads.{leads_as, leads_then, owned_anyhow}
use Rattle.chk_replace.specs.Load.{Has}
use Rattle.chk_chunk.specs.Keys.{Chunk}
use Rattle.chk_world.specs.Books.{Book, book_in, ends_rise}
use Rattle.chk_world.specs.Jobs.{segment_list}
use Rattle.chk_world.specs.JobSteps.{IsOf, ReadsFile, SparesFile, WritesTo, removes, creates, appends, syncs}
use Rattle.chk_world.specs.Sight.{Sight}
use Rattle.chk_world.proofs.Each.{later_one}
use Rattle.chk_world.proofs.Segments.{counts_in, none_in}
use Rattle.chk_record_index.specs.Heads.{Head}
use Rattle.chk_record_index.specs.Order.{no_head}
use Rattle.chk_record_index.specs.Faults.{job_fault, IsOfRead, IsOfWrite}
use Rattle.chk_record_index.specs.declared.fault.JobFault.{JobFault}
use Rattle.chk_record_index.specs.declared.fault.JobFault.TheVariants.{Outside, Damaged, Spent, NoMemory}
use Rattle.chk_book.specs.Books.{book_view}
use Rattle.chk_book.specs.Loaded.{LoadedBook, IsBookOf, book_result, file_bytes}
use Rattle.chk_book.specs.declared.book.Book.{Book as Struct}
use Rattle.chk_record_reader.specs.Segments.{names_of, HasFiles, SparesFiles, AreSettled}
use Rattle.chk_record_reader.specs.Merging.{AreApart}
use Rattle.chk_record_reader.specs.ReadBack.{value_held}
use Rattle.chk_record_reader.specs.declared.reader.RecordReader.{RecordReader}
use Rattle.chk_record_reader.proofs.Frames.{reads_quiet, stays_so, spares_one, among}
use Rattle.chk_archive_parts.specs.Cuts.{no_chunk}
use Rattle.chk_archive_parts.specs.Gathering.{held as known_file, AreSound}
use Rattle.chk_archive_parts.specs.Records.{IsRecordOf, AreRecords}
use Rattle.chk_archive_plan.specs.Passes.{head_in}
use Rattle.chk_archive_parts.specs.Fetching.{head_file, IsRecordAt, AreWindows, CanFetch, Fetched}
use Rattle.chk_archive_parts.proofs.CutLists.{zip_at}
use Rattle.chk_demux.specs.Beginning.{Begins, starts, only_reads}
use Rattle.chk_demux.specs.Damage.{archive_name, demux_name, archive_book, with_books, reads_of, reads_from, no_book, BooksAlone, no_archive_book, no_demux_book, bad_records, LoadedBooks, HasCounts, AreRead, AreOfNew, ReadsOn, NotDamaged, SplitSoundly, RanSoundly, ReadAll}
use Rattle.chk_demux.specs.Due.{IsDueFrom, IsDueIn}
use Rattle.chk_demux.specs.Enough.{RunsFrom, IsEnoughFrom}
use Rattle.chk_demux.specs.Shown.{PutsIf}
use Rattle.chk_demux.proofs.Due.{book_rises}
use Rattle.chk_demux.specs.declared.beginning.Books.{Books}

-- ---- frames

-- own calls that don't touch the files leave them
pub files_stay : (K : Deed → Type 0) (names : List (List ℕ)) (held : Files)
    → ((call : Deed) → K call → (w : List ℕ) → Contains names w → touches call w ≡ false) → AreSettled names held
    → {old new : Option History} → Adds old new (Every (IsOf K))
    → Adds old new (Leads (anyhow (SparesFiles names)) (HasFiles names held) (HasFiles names held))
files_stay K names held quiet settled told =
    adds_as (Leads (anyhow (SparesFiles names)) (HasFiles names held) (HasFiles names held)) told
    (λ added history every. record {
      leads = λ s h w one.
          stays_so K w (held w) (λ call k. quiet call k w one) (settled w one).0 added history every
          (spares_one names w one added history s) (h w one);
      own = owned_anyhow added history;
    })

spares_fewer : (all some : List (List ℕ)) → ((w : List ℕ) → Contains some w → Contains all w)
    → (added history : History) → Others (SparesFiles all) added history → Others (SparesFiles some) added history
spares_fewer all some within [] history others = tt
spares_fewer all some within (step ∷ added) history others = (
  spares_fewer all some within added history others.0,
  λ theirs w one. others.1 theirs w (within w one),
)

-- what some files lead to, all of them lead to
pub among_more : (all some : List (List ℕ)) (held : Files) → ((w : List ℕ) → Contains some w → Contains all w)
    → {B : History → Type 0} {old new : Option History}
    → Adds old new (Leads (anyhow (SparesFiles some)) (HasFiles some held) B)
    → Adds old new (Leads (anyhow (SparesFiles all)) (HasFiles all held) B)
among_more all some held within {B = B} told =
    adds_as (Leads (anyhow (SparesFiles all)) (HasFiles all held) B) told
    (λ added history x. record {
      leads = λ s h. x.leads (spares_fewer all some within added history s) (λ w one. h w (within w one));
      own = owned_anyhow added history;
    })

-- what doesn't speak of the history stays beside it
pub beside : (X : Type 0) {S : History → Step → Type 0} {B C : History → Type 0}
    {old new : Option History} → Adds old new (Leads (anyhow S) B C)
    → Adds old new (Leads (anyhow S) (λ h. B h × X) (λ h. C h × X))
beside X {S = S} {B = B} {C = C} told =
    adds_as (Leads (anyhow S) (λ h. B h × X) (λ h. C h × X)) told
    (λ added history l. record {
      leads = λ s h. (l.leads s h.0, h.1);
      own = owned_anyhow added history;
    })

-- what a fact leads to, of calls that are made anyhow
pub given : {S : History → Step → Type 0} (X : Type 0) {B C : History → Type 0} {Q : History → History → Type 0}
    {mid new : Option History} → Adds mid new Q → (X → Adds mid new (Leads (anyhow S) B C))
    → Adds mid new (Leads (anyhow S) (λ h. X × B h) C)
given {S = S} X {B = B} {C = C} first second = record {
  told = λ history e.
      let y = first.told history e in (
        y.0,
        y.1,
        record {
          leads = λ s h.
              let w = (second h.0).told history e in
              let same : w.0 ≡ y.0 = append_cancel_right w.0 y.0 history
              (same_Some (w.0 ++ history) (y.0 ++ history) (sym w.1 ∙ y.1)) in
              let l : Leads (anyhow S) B C y.0 history = subst (λ (a : History). Leads (anyhow S) B C a history) same w.2 in
              l.leads s h.1;
          own = owned_anyhow y.0 history;
        },
      );
  untold = first.untold;
}

-- ---- writes

pub memory_writes : {T : Type 0} (r : Result T JobFault) → IfErr r (λ fault. fault ≡ NoMemory) → IfErr r IsOfWrite
memory_writes (Ok value) is = tt
memory_writes (Err (Outside call)) is = tt
memory_writes (Err (Damaged name at)) is = absurd (cc)
memory_writes (Err (Spent n)) is = absurd (cc)
memory_writes (Err NoMemory) is = tt

pub call_writes : (fault : OutsideFault) → IsOfWrite (job_fault fault)
call_writes (site_failed call) = tt
call_writes no_memory = tt

quiet_writes : (names : List (List ℕ)) (s : List ℕ) → AreApart names s → (call : Deed) → WritesTo s call → (w : List ℕ)
    → Contains names w → touches call w ≡ false
quiet_writes names s apart call removes w one = apart w one
quiet_writes names s apart call creates w one = apart w one
quiet_writes names s apart call (appends piece) w one = apart w one
quiet_writes names s apart call syncs w one = apart w one

-- ---- one record, and several

module _ (v : Sight) (files : List (List ℕ)) (heads : List Head) (cs : List Chunk) (records : AreRecords v files heads cs)
    (ws : List (List ℕ)) (within : AreOfNew files heads ws) (settled : AreSettled ws (known_file v)) where
  abbrev Sp' : History → Step → Type 0
  Sp' = SparesFiles ws

  abbrev Hs' : History → Type 0
  Hs' = HasFiles ws (known_file v)

  abbrev pub On : RecordReader → History → Type 0
  On r h = AreRead v ws files r h

  abbrev pub With : RecordReader → Type 0 → History → Type 0
  With r X h = On r h × X

  module _ (i : ℕ) (low : i < length heads) (r t : RecordReader) (result : Result (Unit {0}) JobFault) {old mid : Option History}
      (raw : (v : Sight) (c : Chunk) → AreSound v files → IsRecordAt v files heads i c
      → Adds old mid (Leads (anyhow (SparesFile (head_file files heads i))) (CanFetch v files heads i r)
      (Fetched v files heads i c t result)))
      (own : Adds old mid (Every (IsOf ReadsFile))) where
    abbrev D : Chunk
    D = slice_index_or cs i no_chunk

    is : IsRecordAt v files heads i D
    is = zip_at (IsRecordOf v files) heads cs records.each i low no_head no_chunk

    abbrev W : List ℕ
    W = head_file files heads i

    fetched : Adds old mid (Leads (anyhow Sp') (On r) (λ h. Hs' h × Fetched v files heads i D t result h))
    fetched =
        adds_as (Leads (anyhow Sp') (On r) (λ h. Hs' h × Fetched v files heads i D t result h))
        (among ws (known_file v) W settled (within (head_in heads i) (Contains-get_or heads i no_head low))
        (adds_as (Leads (anyhow (SparesFile W)) (Has W (known_file v W))
        (λ h. AreWindows v files r → Fetched v files heads i D t result h)) (raw v D records.sound is)
        (λ added history l. record { leads = λ others h x. l.leads others (h, x); own = owned_anyhow added history })) own)
        (λ added history x. record {
          leads = λ s h. let y = x.leads s h.0 in (y.0, y.1 h.1);
          own = owned_anyhow added history;
        })

    pub fetch_refused : (U X Y : Type 0) (other : RecordReader) (fault : JobFault) → result ≡ Err fault
        → Adds old mid (Leads (anyhow Sp') (With r X) (ReadsOn {T = U} v ws files other Y (Err fault)))
    fetch_refused U X Y other fault bad =
        leads_as (λ h z. z.0) (λ h z. go fault h (subst (λ x. Fetched v files heads i D t x h) bad z.1)) fetched
      where
        go : (fault : JobFault) (h : History) → Fetched v files heads i D t (Err fault) h
            → ReadsOn {T = U} v ws files other Y (Err fault) h
        go (Outside call) h z = tt
        go (Damaged name at) h z = z
        go (Spent n) h z = tt
        go NoMemory h z = tt

    pub fetched_on : (X : Type 0) (value : Unit {0}) → result ≡ Ok value
        → Adds old mid (Leads (anyhow Sp') (With r X) (With t ((value_held t ≡ D.value) × X)))
    fetched_on X value good =
        leads_as (λ h z. z)
        (λ h z.
        let y = subst (λ x. Fetched v files heads i D t x h) good z.0.1 in
        ((z.0.0, y.0), (y.1, z.1))) (beside X fetched)

  -- what is written leaves the files
  pub written_on : (s : List ℕ) → AreApart ws s → (t : RecordReader) (X Y : Type 0)
      (q : Result (Unit {0}) JobFault) → IfErr q IsOfWrite
      → ((value : Unit {0}) → q ≡ Ok value → X → Y)
      → {mid new : Option History} → Adds mid new (Every (IsOf (WritesTo s)))
      → Adds mid new (Leads (anyhow Sp') (With t X) (ReadsOn v ws files t Y q))
  written_on s apart t X Y q only then own =
      adds_as (Leads (anyhow Sp') (With t X) (ReadsOn v ws files t Y q))
      (files_stay (WritesTo s) ws (known_file v) (quiet_writes ws s apart) settled own)
      (λ added history x. record {
        leads = λ o h. go q only then (added ++ history) (x.leads o h.0.0, h.0.1) h.1;
        own = owned_anyhow added history;
      })
    where
      go : (q : Result (Unit {0}) JobFault) → IfErr q IsOfWrite
          → ((value : Unit {0}) → q ≡ Ok value → X → Y) → (h : History) → On t h → X
          → ReadsOn v ws files t Y q h
      go (Ok value) only then h on x = (on, then value refl x)
      go (Err (Outside call)) only then h on x = tt
      go (Err (Damaged name at)) only then h on x = absurd only
      go (Err (Spent n)) only then h on x = tt
      go (Err NoMemory) only then h on x = tt

  -- a refusal is one of what follows too, and what was done is what follows begins with
  pub on_refused : {T : Type 0} (U Y Z : Type 0) (t other : RecordReader) (q : Result T JobFault)
      (fault : JobFault) → q ≡ Err fault → {B : History → Type 0} {old new : Option History}
      → Adds old new (Leads (anyhow Sp') B (ReadsOn v ws files t Y q))
      → Adds old new (Leads (anyhow Sp') B (ReadsOn {T = U} v ws files other Z (Err fault)))
  on_refused {T = T} U Y Z t other q fault bad told =
      leads_as (λ h z. z) (λ h z. go fault h (subst (λ x. ReadsOn v ws files t Y x h) bad z)) told
    where
      go : (fault : JobFault) (h : History) → ReadsOn {T = T} v ws files t Y (Err fault) h
          → ReadsOn {T = U} v ws files other Z (Err fault) h
      go (Outside call) h z = tt
      go (Damaged name at) h z = z
      go (Spent n) h z = tt
      go NoMemory h z = tt

  pub on_done : {T : Type 0} (Y : Type 0) (t : RecordReader) (q : Result T JobFault) (value : T)
      → q ≡ Ok value → {B : History → Type 0} {old new : Option History}
      → Adds old new (Leads (anyhow Sp') B (ReadsOn v ws files t Y q))
      → Adds old new (Leads (anyhow Sp') B (With t Y))
  on_done Y t q value good told =
      leads_as (λ h z. z) (λ h z. subst (λ x. ReadsOn v ws files t Y x h) good z) told

  -- of all streams
  pub none_damaged : {T : Type 0} (U Y Z : Type 0) (t : RecordReader) (q : Result T JobFault)
      (fault : JobFault) → q ≡ Err fault → {old new : Option History}
      → Adds old new (Leads (anyhow Sp') Hs' (ReadsOn v ws files t Y q))
      → Adds old new (Leads (anyhow Sp') Hs' (NotDamaged {T = U} Z (Err fault)))
  none_damaged {T = T} U Y Z t q fault bad told =
      leads_as (λ h z. z) (λ h z. go fault h (subst (λ x. ReadsOn v ws files t Y x h) bad z)) told
    where
      go : (fault : JobFault) (h : History) → ReadsOn {T = T} v ws files t Y (Err fault) h
          → NotDamaged {T = U} Z (Err fault) h
      go (Outside call) h z = tt
      go (Damaged name at) h z = z
      go (Spent n) h z = tt
      go NoMemory h z = tt

-- ---- the split, and what is entered behind it

module _ (types : List (List ℕ)) (b records : Book) (files : Files) (m n : ℕ) (r : Result ℕ JobFault)
    {old mid : Option History}
    (told : Adds old mid (Leads (anyhow (SparesFiles (names_of (codes "archive") b))) (HasFiles (names_of (codes "archive") b) files)
    (SplitSoundly types b records files m n r))) where
  abbrev Runs : Type 0
  Runs = (first : ℕ) × RunsFrom b records files first

  abbrev Ran : {U : Type 0} → Option History → Result U JobFault → Type 0
  Ran new q =
      Adds old new (Leads (anyhow (SparesFiles (names_of (codes "archive") b)))
      (HasFiles (names_of (codes "archive") b) files) (RanSoundly types b records files q))

  pub split_refused : (U : Type 0) (fault : JobFault) → IsOfRead fault → r ≡ Err fault
      → Ran {U = U} mid (Err fault)
  split_refused U fault only is =
      leads_as (λ h z. z)
      (λ h z. go fault only h (subst (λ x. SplitSoundly types b records files m n x h) is z)) told
    where
      go : (fault : JobFault) → IsOfRead fault → (h : History)
          → SplitSoundly types b records files m n (Err fault) h
          → RanSoundly {T = U} types b records files (Err fault) h
      go (Outside call) only h z = tt
      go (Damaged name at) only h z = z
      go (Spent n) only h z = absurd only
      go NoMemory only h z = tt

  -- records were put, of which none was before
  pub split_spent : (U : Type 0) (left : ℕ) → r ≡ Ok left → m ≡ 0 → 0 < n → (k : ℕ)
      → Ran {U = U} mid (Err (Spent k))
  split_spent U left is none some k =
      leads_as (λ h z. z)
      (λ h z.
      let y = subst (λ x. SplitSoundly types b records files m n x h) is z in
      go y.0 y.1 y.2) told
    where
      go : (first : ℕ) → RunsFrom b records files first
          → PutsIf (IsDueFrom types b records files first) m n → IsDueIn types b records files
      go first runs (inl same) = absurd (let z : ⊥ = omega (arith, same, none, some) in z)
      go first runs (inr due) = (first, runs, due)

  pub split_on : {U : Type 0} (left : ℕ) → r ≡ Ok left → (q : Result U JobFault) → IfErr q IsOfWrite
      → {P : History → History → Type 0} {new : Option History} → Adds mid new P → Ran new q
  split_on {U = U} left is q only second =
      leads_then
      (leads_as {B' = λ h. Runs} (λ h z. z)
      (λ h z. let y = subst (λ x. SplitSoundly types b records files m n x h) is z in (y.0, y.1)) told)
      (adds_as (Leads (anyhow (SparesFiles (names_of (codes "archive") b))) (λ h. Runs)
      (RanSoundly types b records files q)) second
      (λ added history p. record {
        leads = λ s x. go q only x (added ++ history);
        own = owned_anyhow added history;
      }))
    where
      go : (q : Result U JobFault) → IfErr q IsOfWrite → Runs → (h : History)
          → RanSoundly types b records files q h
      go (Ok value) only x h = x
      go (Err (Outside call)) only x h = tt
      go (Err (Damaged name at)) only x h = absurd only
      go (Err (Spent n)) only x h = absurd only
      go (Err NoMemory) only x h = tt

-- ---- the same where nothing is damaged

pub clear_refused : {S : History → Step → Type 0} {B : History → Type 0} (T U : Type 0)
    (r : Result T JobFault)
    (fault : JobFault) → r ≡ Err fault → {old mid : Option History}
    → Adds old mid (Leads (anyhow S) B (NotDamaged (Unit {0}) r))
    → Adds old mid (Leads (anyhow S) B (NotDamaged {T = U} (Unit {0}) (Err fault)))
clear_refused T U r fault is told =
    leads_as (λ h z. z) (λ h z. go fault h (subst (λ x. NotDamaged (Unit {0}) x h) is z)) told
  where
    go : (fault : JobFault) (h : History) → NotDamaged {T = T} (Unit {0}) (Err fault) h
        → NotDamaged {T = U} (Unit {0}) (Err fault) h
    go (Outside call) h z = tt
    go (Damaged name at) h z = z
    go (Spent n) h z = tt
    go NoMemory h z = tt

pub clear_spent : {S : History → Step → Type 0} {B : History → Type 0} (T U : Type 0)
    (r : Result T JobFault)
    (k : ℕ) {old mid : Option History} → Adds old mid (Leads (anyhow S) B (NotDamaged (Unit {0}) r))
    → Adds old mid (Leads (anyhow S) B (NotDamaged {T = U} (Unit {0}) (Err (Spent k))))
clear_spent T U r k told = leads_as (λ h z. z) (λ h z. tt) told

pub clear_on : {S : History → Step → Type 0} {B : History → Type 0} {T U : Type 0}
    (r : Result T JobFault)
    (q : Result U JobFault) → IfErr q IsOfWrite → {P : History → History → Type 0}
    {old mid new : Option History}
    → Adds old mid (Leads (anyhow S) B (NotDamaged (Unit {0}) r)) → Adds mid new P
    → Adds old new (Leads (anyhow S) B (NotDamaged (Unit {0}) q))
clear_on {S = S} {U = U} r q only told second =
    leads_then (leads_as {B' = λ h. Unit {0}} (λ h z. z) (λ h z. tt) told)
    (adds_as (Leads (anyhow S) (λ h. Unit {0}) (NotDamaged (Unit {0}) q)) second
    (λ added history p. record {
      leads = λ s x. go q only (added ++ history);
      own = owned_anyhow added history;
    }))
  where
    go : (q : Result U JobFault) → IfErr q IsOfWrite → (h : History) → NotDamaged (Unit {0}) q h
    go (Ok value) only h = tt
    go (Err (Outside call)) only h = tt
    go (Err (Damaged name at)) only h = absurd only
    go (Err (Spent n)) only h = absurd only
    go (Err NoMemory) only h = tt

-- ---- the books

quiet_begins : (call : Deed) → Begins call → (w : List ℕ) → touches call w ≡ false
quiet_begins call starts w = refl
quiet_begins call (only_reads c k) w = reads_quiet w c k

module _ (held : Files) (names : List (List ℕ)) (settled : AreSettled (with_books names) held) where
  abbrev All : List (List ℕ)
  All = with_books names

  abbrev Sp : History → Step → Type 0
  Sp = SparesFiles All

  abbrev Hs : History → Type 0
  Hs = HasFiles All held

  a_in : Contains All archive_name
  a_in = (0, omega arith, refl)

  d_in : Contains All demux_name
  d_in = (1, omega arith, refl)

  pub small_archive : IsSmallFile (held archive_name)
  small_archive = (settled archive_name a_in).1

  pub small_demux : IsSmallFile (held demux_name)
  small_demux = (settled demux_name d_in).1

  -- the start leaves them
  pub started : {old mid : Option History} → Adds old mid (Every (IsOf Begins)) → Adds old mid (Leads (anyhow Sp) Hs Hs)
  started own = files_stay Begins All held (λ call k w one. quiet_begins call k w) settled own

  pub not_started : (fault : OutsideFault) {P : History → History → Type 0} {old mid : Option History} → Adds old mid P
      → Adds old mid (Leads (anyhow Sp) Hs (LoadedBooks names held (Err (job_fault fault))))
  not_started fault told =
      adds_as (Leads (anyhow Sp) Hs (LoadedBooks names held (Err (job_fault fault)))) told
      (λ added history p. record { leads = λ s h. go fault (added ++ history); own = owned_anyhow added history })
    where
      go : (fault : OutsideFault) (h : History) → LoadedBooks names held (Err (job_fault fault)) h
      go (site_failed call) h = tt
      go no_memory h = tt

  -- the archive's book
  module _ (r : Result Struct JobFault) {old mid m : Option History} (begun : Adds old mid (Leads (anyhow Sp) Hs Hs))
      (raw : Adds mid m (Leads (anyhow (SparesFile archive_name)) (Has archive_name (held archive_name))
      (LoadedBook (codes "archive") (held archive_name) (book_result r))))
      (own : Adds mid m (Every (IsOf ReadsFile))) where
    abbrev First : Result Struct JobFault → History → Type 0
    First x h = Hs h × LoadedBook (codes "archive") (held archive_name) (book_result x) h

    loaded : Adds old m (Leads (anyhow Sp) Hs (First r))
    loaded = leads_then begun (among All held archive_name settled a_in raw own)

    pub archive_refused : (fault : JobFault) → r ≡ Err fault
        → Adds old m (Leads (anyhow Sp) Hs (LoadedBooks names held (Err fault)))
    archive_refused fault is = leads_as (λ h z. z) (λ h z. go fault h (subst (λ x. First x h) is z).1) loaded
      where
        go : (fault : JobFault) (h : History)
            → LoadedBook (codes "archive") (held archive_name) (book_result (Err fault)) h
            → LoadedBooks names held (Err fault) h
        go (Outside call) h z = tt
        go (Damaged name at) h z = no_archive_book z.0 z.1
        go (Spent n) h z = tt
        go NoMemory h z = tt

    -- and then that of the records
    module _ (a : Struct) (is : r ≡ Ok a) (q : Result Struct JobFault) {new : Option History}
        (raw2 : Adds m new (Leads (anyhow (SparesFile demux_name)) (Has demux_name (held demux_name))
        (LoadedBook (codes "demux") (held demux_name) (book_result q))))
        (own2 : Adds m new (Every (IsOf ReadsFile))) where
      abbrev IsArchive : Type 0
      IsArchive = (book_view a ≡ archive_book held) × IsBookOf (file_bytes (held archive_name)) (archive_book held)

      abbrev Second : Result Struct JobFault → History → Type 0
      Second x h = IsArchive × Hs h × LoadedBook (codes "demux") (held demux_name) (book_result x) h

      first_is : Adds old m (Leads (anyhow Sp) Hs (λ h. IsArchive × Hs h))
      first_is =
          leads_as (λ h z. z)
          (λ h z.
          let y = subst (λ x. First x h) is z in
          ((y.1.1, subst (IsBookOf (file_bytes (held archive_name))) y.1.1 y.1.2), y.0)) loaded

      both : Adds old new (Leads (anyhow Sp) Hs (Second q))
      both =
          leads_then first_is
          (adds_as (Leads (anyhow Sp) (λ h. IsArchive × Hs h) (Second q))
          (among All held demux_name settled d_in raw2 own2)
          (λ added history x. record {
            leads = λ s h. let y = x.leads s h.1 in (h.0, y.0, y.1);
            own = owned_anyhow added history;
          }))

      pub demux_refused : (fault : JobFault) → q ≡ Err fault
          → Adds old new (Leads (anyhow Sp) Hs (LoadedBooks names held (Err fault)))
      demux_refused fault bad = leads_as (λ h z. z) (λ h z. go fault h (subst (λ x. Second x h) bad z).2) both
        where
          go : (fault : JobFault) (h : History)
              → LoadedBook (codes "demux") (held demux_name) (book_result (Err fault)) h
              → LoadedBooks names held (Err fault) h
          go (Outside call) h z = tt
          go (Damaged name at) h z = no_demux_book z.0 z.1
          go (Spent n) h z = tt
          go NoMemory h z = tt

      pub books_loaded : (d : Struct) → q ≡ Ok d
          → Adds old new (Leads (anyhow Sp) Hs
          (LoadedBooks names held (Ok (record { archive = a; demux = d }))))
      books_loaded d good =
          leads_as (λ h z. z)
          (λ h z.
          let y = subst (λ x. Second x h) good z in
          record {
            same = y.1;
            is = y.0.0;
            records = y.2.1;
            archive = y.0.1;
            demux = subst (IsBookOf (file_bytes (held demux_name))) y.2.1 y.2.2;
          }) both

  -- the numbers of a book's segments
  counted : (o : Option File) → IsSettled o → IsBookOf (file_bytes o) (book_in o) → HasCounts (book_in o)
  counted None whole so g one = absurd (none_in g one)
  counted (Some f) whole so g one =
      counts_in (Some f) (record { whole = whole; book = book_in (Some f); is = so.0 }) g
      (Contains-append_left (book_in (Some f)).segments (segment_list (book_in (Some f)).aside) g one)

  within : (w : List ℕ) → Contains names w → Contains All w
  within w one =
      later_one archive_name (demux_name ∷ names) w (later_one demux_name names w one)

  abbrev Known : Books → Type 0
  Known b =
      (book_view b.archive ≡ archive_book held) × (book_view b.demux ≡ book_in (held demux_name))
      × IsBookOf (file_bytes (held archive_name)) (archive_book held)
      × IsBookOf (file_bytes (held demux_name)) (book_in (held demux_name))

  -- what is done with both books
  then_run : {C : History → Type 0} (b : Books) (s : Result Books JobFault) → s ≡ Ok b
      → {Q : History → History → Type 0} {old mid new : Option History}
      → Adds old mid (Leads (anyhow Sp) Hs (LoadedBooks names held s)) → Adds mid new Q
      → (Known b → AreSettled names held → HasCounts (book_view b.archive)
      → IsTrue (ends_rise (book_view b.archive).ends) → IsTrue (ends_rise (book_view b.demux).ends)
      → Adds mid new (Leads (anyhow (SparesFiles names)) (HasFiles names held) C))
      → Adds old new (Leads (anyhow Sp) Hs C)
  then_run b s is first made raw =
      leads_then
      (leads_as (λ h z. z)
      (λ h z.
      let y = subst (λ x. LoadedBooks names held x h) is z in
      ((y.is, y.records, y.archive, y.demux), y.same)) first)
      (given (Known b) made
      (λ k.
      among_more All names held within
      (raw k (λ w one. settled w (within w one))
      (subst HasCounts (sym k.0) (counted (held archive_name) (settled archive_name a_in).0 k.2))
      (subst (λ (x : Book). IsTrue (ends_rise x.ends)) (sym k.0)
      (book_rises (file_bytes (held archive_name)) (archive_book held) k.2))
      (subst (λ (x : Book). IsTrue (ends_rise x.ends)) (sym k.1)
      (book_rises (file_bytes (held demux_name)) (book_in (held demux_name)) k.3)))))

-- ---- the run

module _ (held : Files) (settled : AreSettled (reads_of held) held) (types : List (List ℕ))
    (s : Result Books JobFault) {old mid : Option History}
    (first : Adds old mid (Leads (anyhow (SparesFiles (reads_of held)))
    (HasFiles (reads_of held) held)
    (LoadedBooks (names_of (codes "archive") (archive_book held)) held s))) where
  abbrev Named : List (List ℕ)
  Named = names_of (codes "archive") (archive_book held)

  abbrev Ended : {T : Type 0} → Option History → Result T JobFault → Type 0
  Ended new r =
      Adds old new (Leads (anyhow (SparesFiles (reads_of held))) (HasFiles (reads_of held) held)
      (ReadAll types held r))

  pub not_loaded : (U : Type 0) (fault : JobFault) → IsOfRead fault → s ≡ Err fault
      → Ended {T = U} mid (Err fault)
  not_loaded U fault only is =
      leads_as (λ h z. z) (λ h z. go fault only h
      (subst (λ x. LoadedBooks Named held x h) is z)) first
    where
      go : (fault : JobFault) → IsOfRead fault → (h : History) → LoadedBooks Named held
          (Err fault) h
          → ReadAll {T = U} types held (Err fault) h
      go (Outside call) only h z = tt
      go (Damaged name at) only h z = no_book z
      go (Spent n) only h z = absurd only
      go NoMemory only h z = tt

  pub all_read : {T : Type 0} (b : Books) → s ≡ Ok b → (r : Result T JobFault)
      {Q : History → History → Type 0}
      {new : Option History} → Adds mid new Q
      → (AreSettled (names_of (codes "archive") (book_view b.archive)) held → HasCounts
      (book_view b.archive)
      → IsTrue (ends_rise (book_view b.archive).ends) → IsTrue (ends_rise (book_view b.demux).ends)
      → Adds mid new (Leads (anyhow (SparesFiles
      (names_of (codes "archive") (book_view b.archive))))
      (HasFiles (names_of (codes "archive") (book_view b.archive)) held)
      (RanSoundly types (book_view b.archive) (book_view b.demux) held r)))
      → Ended new r
  all_read {T = T} b is r {new = new} made raw =
      then_run held Named settled b s is first made
      (λ k own counts sorted rises.
      leads_as (λ h z. z) (λ h z. wholly k r h z)
      (subst (λ (x : Book). Adds mid new
      (Leads (anyhow (SparesFiles (names_of (codes "archive") x)))
      (HasFiles (names_of (codes "archive") x) held)
      (RanSoundly types x (book_view b.demux) held r))) k.0
      (raw (subst (λ (x : Book). AreSettled (names_of (codes "archive") x) held)
      (sym k.0) own) counts sorted
      rises)))
    where
      wholly : Known held Named settled b → (r : Result T JobFault) (h : History)
          → RanSoundly types (archive_book held) (book_view b.demux) held r h
          → ReadAll types held r h
      wholly k (Ok value) h z = record {
        archive = k.2;
        demux = k.3;
        first = z.0;
        runs = subst (λ (x : Book). RunsFrom (archive_book held) x held z.0) k.1 z.1;
      }
      wholly k (Err (Outside call)) h z = tt
      wholly k (Err (Damaged name at)) h d = bad_records d.0 d.1
      wholly k (Err (Spent n)) h z = subst
          (λ (x : Book). IsDueIn types (archive_book held) x held) k.1 z
      wholly k (Err NoMemory) h z = tt

-- ---- the same where the segments from some one on suffice, whatever the older ones are

module _ (held : Files) (n : ℕ) (enough : IsEnoughFrom (archive_book held)
    (book_in (held demux_name)) held n)
    (settled : AreSettled (reads_from held n) held) (s : Result Books JobFault)
    {old mid : Option History}
    (first : Adds old mid (Leads (anyhow (SparesFiles (reads_from held n)))
    (HasFiles (reads_from held n) held)
    (LoadedBooks (drop n (names_of (codes "archive") (archive_book held))) held s))) where
  abbrev Newest : List (List ℕ)
  Newest = drop n (names_of (codes "archive") (archive_book held))

  abbrev Clear : {T : Type 0} → Option History → Result T JobFault → Type 0
  Clear new r =
      Adds old new (Leads (anyhow (SparesFiles (reads_from held n)))
      (HasFiles (reads_from held n) held)
      (BooksAlone held r))

  pub older_refused : (U : Type 0) (fault : JobFault) → s ≡ Err fault → Clear {T = U} mid
      (Err fault)
  older_refused U fault is =
      leads_as (λ h z. z) (λ h z. go fault h (subst (λ x. LoadedBooks Newest held x h) is z)) first
    where
      go : (fault : JobFault) (h : History) → LoadedBooks Newest held (Err fault) h
          → BooksAlone {T = U} held (Err fault) h
      go (Outside call) h z = tt
      go (Damaged name at) h z = z
      go (Spent n) h z = tt
      go NoMemory h z = tt

  pub older_read : {T : Type 0} (b : Books) → s ≡ Ok b → (r : Result T JobFault)
      {Q : History → History → Type 0}
      {new : Option History} → Adds mid new Q
      → (IsEnoughFrom (book_view b.archive) (book_view b.demux) held n
      → AreSettled (drop n (names_of (codes "archive") (book_view b.archive))) held
      → HasCounts (book_view b.archive)
      → IsTrue (ends_rise (book_view b.archive).ends) → IsTrue (ends_rise (book_view b.demux).ends)
      → Adds mid new (Leads (anyhow (SparesFiles
      (drop n (names_of (codes "archive") (book_view b.archive)))))
      (HasFiles (drop n (names_of (codes "archive") (book_view b.archive))) held)
      (NotDamaged (Unit {0}) r)))
      → Clear new r
  older_read {T = T} b is r {new = new} made raw =
      then_run held Newest settled b s is first made
      (λ k own counts sorted rises.
      leads_as (λ h z. z) (λ h z. go r h z)
      (subst (λ (x : Book). Adds mid new
      (Leads (anyhow (SparesFiles (drop n (names_of (codes "archive") x))))
      (HasFiles (drop n (names_of (codes "archive") x)) held) (NotDamaged (Unit {0}) r))) k.0
      (raw
      (subst (λ (x : Book). IsEnoughFrom (book_view b.archive) x held n) (sym k.1)
      (subst (λ (x : Book). IsEnoughFrom x (book_in (held demux_name)) held n) (sym k.0) enough))
      (subst (λ (x : Book). AreSettled (drop n (names_of (codes "archive") x)) held)
      (sym k.0) own) counts sorted
      rises)))
    where
      go : (r : Result T JobFault) (h : History) → NotDamaged (Unit {0}) r h → BooksAlone held r h
      go (Ok value) h z = tt
      go (Err (Outside call)) h z = tt
      go (Err (Damaged name at)) h z = absurd z
      go (Err (Spent n)) h z = tt
      go (Err NoMemory) h z = tt
