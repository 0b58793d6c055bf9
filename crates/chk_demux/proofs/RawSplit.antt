-- What the split of an archive's newest segments leads to, whatever was told before.
use Rattle.std.proofs.Common.{◌≡◌, ◌∙◌, ℕ, ◌≤◌, ◌-◌, zero, suc, ◌+◌, ◌<◌, ◌^◌, Bool, true, false, List, [], ◌∷◌, ◌++◌, length, take, drop, map, Option, Some, None, Ok, Err, Result, ap, ap₂, sym, subst, refl, arith, if◌then◌else◌, get_or}
use Rattle.std.specs.Prelude.{Contains, IsTrue, bytes_eq, codes, filter, filter_map}
use Rattle.std.specs.List.{list_any}
use Rattle.std.proofs.lemmas.List.{take-append-drop, drop-drop, length-take-le}
use Rattle.std.proofs.lemmas.List.Elements.{Contains-append_right}
use Rattle.std.proofs.lemmas.List.Folds.{list_any_at}
use Rattle.std.proofs.lemmas.Map.Views.{Contains-from_any}
use Rattle.std.proofs.lemmas.Slice.Eq.{bytes_eq-Decides}
use Rattle.chk_site.specs.Files.{File, Files, IsSettled}
use Rattle.chk_site.specs.Effect.{IsSmallFile}
use Rattle.chk_site.specs.History.{History}
use Rattle.chk_site.specs.Site.{Adds}
use Rattle.chk_site.specs.Runs.{anyhow, Leads}
use Rattle.chk_site.proofs.Leads.{leads_as, leads_then}
use Rattle.chk_chunk.specs.Keys.{Chunk, chunk_limit}
use Rattle.chk_seqfile.specs.Headers.{header}
use Rattle.chk_seqfile.proofs.FileLemmas.{IsSequenceFile-header, records_of-written_header}
use Rattle.chk_seqfile.proofs.HeaderLemmas.{length-header}
use Rattle.chk_world.specs.ArchiveRuns.{in_order}
use Rattle.chk_world.specs.Books.{Segment, Book, AllChunks, chunk_of, chunks_within, ends_rise}
use Rattle.chk_world.specs.TrueBooks.{HasBytes}
use Rattle.chk_world.specs.Names.{ArchiveFolder, SegmentFile, read, spell}
use Rattle.chk_world.specs.Sight.{Sight}
use Rattle.chk_world.proofs.Each.{Each, each_at, each_filter, filter_in, later_one}
use Rattle.chk_world.proofs.BooksTrue.{each_flat, each_within}
use Rattle.chk_world.proofs.NameLemmas.{read-spell}
use Rattle.chk_world.proofs.Segments.{none_in}
use Rattle.chk_record_index.specs.Heads.{Head, heads_in}
use Rattle.chk_record_index.specs.Order.{in_head_order}
use Rattle.chk_record_index.specs.Pieces.{bytes_in}
use Rattle.chk_record_index.specs.declared.fault.JobFault.{JobFault}
use Rattle.chk_record_index.specs.declared.fault.JobFault.TheVariants.{Outside, Damaged, Spent, NoMemory}
use Rattle.chk_book.specs.Folders.{segment_name}
use Rattle.chk_record_reader.specs.Segments.{names_of, chunks_in_files, HasFiles, SparesFiles, AreSettled, IsSound, heads_from}
use Rattle.chk_record_reader.specs.Merging.{AreApart}
use Rattle.chk_archive_parts.specs.Gathering.{held as known_file, held_at, CanBeRead, own_segment, IsSoundFile, AreSound, heads_of}
use Rattle.chk_archive_parts.specs.Records.{AreRecords, chunks_held, file_at, found_in}
use Rattle.chk_archive_parts.proofs.FoundRecords.{records_in_order}
use Rattle.chk_archive_parts.proofs.OneSegment.{segment_spelled}
use Rattle.chk_demux.specs.Damage.{HasCounts, AreOfNew, NotDamaged, SplitSoundly}
use Rattle.chk_demux_scan.specs.Forward.{is_past, past_of as heads_past}
use Rattle.chk_demux.specs.Due.{HasRecord, HasDue}
use Rattle.chk_demux.specs.Enough.{places_for, RunsFrom, AreNewest, SoundNewest, SoundOlder}
use Rattle.chk_demux.specs.Shown.{PutsIf}
use Rattle.chk_demux.specs.Splitting.{is_stamped, StreamsRise}
use Rattle.chk_demux.proofs.Due.{order_bytes, put_as}
use Rattle.chk_demux.proofs.HeadsInOrder.{streams_rise}
use Rattle.chk_demux.proofs.NewHeads.{in_sorted}
use Rattle.chk_demux.proofs.NewestHeads.{suffix_records}
use Rattle.chk_demux.proofs.RawReads.{among_more, given}
use Rattle.chk_demux.proofs.Suffixes.{suffix_chunks, suffix_files}
use Rattle.chk_demux.proofs.Thinned.{chunk_past, filter_in_order, past_records, past_same}

-- ---- a file without records

abbrev blank_marker : List ℕ
blank_marker = 0 ∷ 0 ∷ 0 ∷ 0 ∷ 0 ∷ 0 ∷ 0 ∷ 0 ∷ 0 ∷ 0 ∷ 0 ∷ 0 ∷ 0 ∷ 0 ∷ 0 ∷ 0 ∷ []

blank_bytes : List ℕ
blank_bytes = header blank_marker

blank : File
blank = record { bytes = blank_bytes; synced = length blank_bytes }

blank_chunks : AllChunks chunk_limit blank.bytes
unfolding blank blank_bytes
blank_chunks = record {
  form = IsSequenceFile-header blank_marker refl;
  all = ap (λ rs. length (filter_map (chunk_of chunk_limit) rs)) (records_of-written_header blank_marker refl)
      ∙ sym (ap length (records_of-written_header blank_marker refl));
}

blank_small : length blank.bytes < 2 ^ 63
unfolding blank blank_bytes
blank_small = let size = length-header blank_marker refl in omega (arith, size)

-- ---- the records of the newest segments

-- bytes that aren't there are of no chunks
none_is_some : (x : ℕ) (xs : List ℕ) → [] ≡ x ∷ xs → ⊥
none_is_some x xs e = cc

no_chunks : (most : ℕ) → AllChunks most [] → ⊥
no_chunks most all =
    none_is_some _ _ (all.form.is ∙ ap (λ l. l ++ all.form.entries) all.form.header.is)

-- the job that knows just these files
abbrev sight_of : Files → Sight
sight_of files = record { listing = None; own = λ n. files (spell n); sinks = λ x. None }

in_dropped : (i : ℕ) (xs : List (List ℕ)) (w : List ℕ) → Contains (drop i xs) w → Contains xs w
in_dropped i xs w one =
    subst (λ l. Contains l w) (take-append-drop i xs)
    (Contains-append_right (take i xs) (drop i xs) w one)

module _ (b records : Book) (files : Files) (least : ℕ)
    (settled : AreSettled (drop least (names_of (codes "archive") b)) files) (counts : HasCounts b)
    (first : ℕ) (up : least ≤ first) (runs : RunsFrom b records files first) where
  abbrev Names : List (List ℕ)
  Names = names_of (codes "archive") b

  abbrev New : List (List ℕ)
  New = drop first Names

  -- the newest files, and in place of each other one a file without records
  abbrev seen : Files
  seen w = if list_any (bytes_eq w) New then files w else Some blank

  abbrev V : Sight
  V = sight_of seen

  in_names : (w : List ℕ) → Contains New w → Contains Names w
  in_names w one = in_dropped first Names w one

  -- the newest files are among those that stay
  in_least : (w : List ℕ) → Contains New w → Contains (drop least Names) w
  in_least w one =
      in_dropped (first - least) (drop least Names) w
      (subst (λ l. Contains l w)
      (sym (drop-drop (first - least) least Names
      ∙ ap (λ i. drop i Names) (let z : least + (first - least) ≡ first = omega
      (arith, up) in z))) one)

  seen_new : (w : List ℕ) → Contains New w → seen w ≡ files w
  seen_new w one =
      ap (λ t. if t then files w else Some blank)
      (list_any_at (bytes_eq w) New one.0 w one.1
      ((bytes_eq-Decides w (get_or New one.0 w)).1 (sym one.2)))

  module _ (g : Segment) (one : Contains b.segments g) where
    abbrev Q : List ℕ
    Q = segment_name (codes "archive") g.number

    reads_it : read Q ≡ SegmentFile ArchiveFolder g.number
    reads_it = ap read (segment_spelled g.number) ∙ read-spell (SegmentFile ArchiveFolder g.number) (counts g one)

    held_it : known_file V Q ≡ seen Q
    held_it = ap (held_at V) reads_it ∙ ap seen (sym (segment_spelled g.number))

    sound_file : (f : File) → seen Q ≡ Some f → AllChunks chunk_limit f.bytes → length f.bytes < 2 ^ 63
        → IsSoundFile V Q
    sound_file f is all small = record {
      can = subst (CanBeRead V) (sym reads_it) (own_segment g.number (counts g one));
      file = f;
      there = held_it ∙ is;
      chunks = all;
      small = subst IsSmallFile (sym (held_it ∙ is)) small;
    }

    sound_it : Contains Names Q → IsSoundFile V Q
    sound_it k = go (list_any (bytes_eq Q) New) refl
      where
        there : (o : Option File) → files Q ≡ o → seen Q ≡ files Q → IsSmallFile o
            → AllChunks chunk_limit (bytes_in o) → IsSoundFile V Q
        there None is same small all = absurd (no_chunks chunk_limit all)
        there (Some f) is same small all = sound_file f (same ∙ is) all small

        go : (t : Bool) → list_any (bytes_eq Q) New ≡ t → IsSoundFile V Q
        go true is =
            let m = Contains-from_any {eq = bytes_eq} (λ x y. (bytes_eq-Decides x y).0) Q New is in
            there (files Q) refl (seen_new Q m) (settled Q (in_least Q m)).1
            (each_at (IsSound chunk_limit files) New Q runs.suffice.sound m)
        go false is =
            sound_file blank (ap (λ t. if t then files Q else Some blank) is) blank_chunks blank_small

  -- of each name
  of_name : (P : List ℕ → Type 0)
      → ((g : Segment) → Contains b.segments g → Contains Names (segment_name (codes "archive") g.number)
      → P (segment_name (codes "archive") g.number))
      → (w : List ℕ) → Contains Names w → P w
  of_name P each w one = go b.segments (λ g k. k) (λ x k. k) one
    where
      go : (gs : List Segment) → ((g : Segment) → Contains gs g → Contains b.segments g)
          → ((x : List ℕ) → Contains (map (λ (g : Segment). segment_name (codes "archive") g.number) gs) x
          → Contains Names x)
          → Contains (map (λ (g : Segment). segment_name (codes "archive") g.number) gs) w → P w
      go [] of all k = absurd (none_in w k)
      go (g ∷ gs) of all (zero, low, is) =
          subst P is
          (each g (of g (0, omega arith, refl))
          (all (segment_name (codes "archive") g.number) (0, omega arith, refl)))
      go (g ∷ gs) of all (suc k, low, is) =
          go gs (λ f m. of f (later_one g gs f m))
          (λ x m. all x (later_one (segment_name (codes "archive") g.number)
          (map (λ (g : Segment). segment_name (codes "archive") g.number) gs) x m))
          (k, omega (arith, low), is)

  held_new : (w : List ℕ) → Contains New w → known_file V w ≡ files w
  held_new w one =
      of_name (λ w. known_file V w ≡ seen w) (λ g k m. held_it g k) w (in_names w one)
      ∙ seen_new w one

  sound_all : AreSound V Names
  sound_all w one = of_name (IsSoundFile V) (λ g k m. sound_it g k m) w one

  apart : (k : ℕ) → AreApart New (segment_name (codes "demux") k)
  apart k w one =
      of_name (λ w. bytes_eq w (segment_name (codes "demux") k) ≡ false) (λ g m l. refl) w (in_names w one)

  settled_new : AreSettled New (known_file V)
  settled_new w one =
      subst (λ o. IsSettled o × IsSmallFile o) (sym (held_new w one)) (settled w (in_least w one))

  heads_alike : (n : ℕ) (ws : List (List ℕ)) → ((w : List ℕ) → Contains ws w → known_file V w ≡ files w)
      → heads_from chunk_limit files n ws ≡ heads_of V n ws
  heads_alike n [] same = refl
  heads_alike n (w ∷ ws) same =
      ap₂ (λ o l. heads_in chunk_limit n (bytes_in o) ++ l) (sym (same w (0, omega arith, refl)))
      (heads_alike (n + 1) ws (λ x one. same x (later_one w ws x one)))

  chunks_alike : (ws : List (List ℕ)) → ((w : List ℕ) → Contains ws w → known_file V w ≡ files w)
      → found_in V ws ≡ chunks_in_files chunk_limit files ws
  chunks_alike [] same = refl
  chunks_alike (w ∷ ws) same =
      ap₂ (λ o l. chunks_within chunk_limit (bytes_in o) ++ l) (same w (0, omega arith, refl))
      (chunks_alike ws (λ x one. same x (later_one w ws x one)))

  -- the chunks of what is new
  abbrev Chunks : List Chunk
  Chunks = filter (chunk_past b records) (in_order (found_in V New))

  all_bytes : Each HasBytes (in_order (found_in V New))
  all_bytes =
      order_bytes (found_in V New)
      (each_flat HasBytes (chunks_held V) New
      (λ w. each_within chunk_limit (bytes_in (known_file V w))))

  has_bytes : Each HasBytes Chunks
  has_bytes =
      each_filter HasBytes (chunk_past b records) (in_order (found_in V New)) all_bytes

  front_size : first ≡ length (take first Names)
  front_size = sym (length-take-le first Names runs.within)

  abbrev Places : List ℕ
  Places = places_for b records

  module _ (heads : List Head)
      (order : heads ≡ in_head_order (heads_past b.ends Places
      (heads_from chunk_limit files first New))) where
    order_v : heads ≡ heads_past b.ends Places (in_head_order (heads_of V first New))
    order_v =
        order
        ∙ (ap (λ hs. in_head_order (heads_past b.ends Places hs)) (heads_alike first New held_new)
        ∙ filter_in_order (is_past b.ends Places) (heads_of V first New))

    all_records : AreRecords V Names (in_head_order (heads_of V first New))
        (in_order (found_in V New))
    all_records =
        subst (λ l. AreRecords V Names (in_head_order (heads_of V first New)) (in_order l))
        (suffix_chunks V Names first (take first Names) New front_size
        (sym (take-append-drop first Names)))
        (suffix_records V Names (in_order (found_in V Names)) (records_in_order V Names sound_all) first
        runs.within (in_head_order (heads_of V first New)) refl)

    are_records : AreRecords V Names heads Chunks
    are_records =
        subst (λ hs. AreRecords V Names hs Chunks) (sym order_v)
        (past_records b records V Names (in_head_order (heads_of V first New))
        (in_order (found_in V New)) all_records)

    of_new : AreOfNew Names heads New
    of_new h one =
        each_at (λ (k : Head). Contains New (file_at Names k.file)) (heads_of V first New) h
        (suffix_files V Names New first (take first Names) New front_size
        (sym (take-append-drop first Names)) (λ w k. k))
        (in_sorted (heads_of V first New) h
        (filter_in (is_past b.ends Places) (in_head_order (heads_of V first New)) h
        (subst (λ hs. Contains hs h) order_v one)))

    rise : StreamsRise heads
    rise =
        subst StreamsRise (sym order)
        (streams_rise (heads_past b.ends Places (heads_from chunk_limit files first New)))

  module _ (sorted : IsTrue (ends_rise b.ends)) (types : List (List ℕ)) (m n : ℕ) where
    due : HasDue types b records Chunks → HasDue types b records (in_order (found_in V New))
    due (e, named, has) = (
      e,
      named,
      subst (HasRecord (is_stamped types e.stream.kind))
          (past_same b records sorted e named (in_order (found_in V New)) all_bytes) has,
    )

    soundly : (q : Result ℕ JobFault) (h : History)
        → NotDamaged (PutsIf (HasDue types b records Chunks) m n) q h
        → SplitSoundly types b records files m n q h
    soundly (Ok left) h puts = (
      first,
      runs,
      subst (λ cs. PutsIf (HasDue types b records (in_order cs)) m n) (chunks_alike New held_new)
          (put_as m n due puts),
    )
    soundly (Err (Outside call)) h puts = tt
    soundly (Err (Damaged name at)) h puts = absurd puts
    soundly (Err (Spent k)) h puts = tt
    soundly (Err NoMemory) h puts = tt

from_zero : (n : ℕ) → 0 ≤ n
from_zero n = omega arith

-- ---- the split

module _ (b : Book) (files : Files) (settled : AreSettled (names_of (codes "archive") b) files) (counts : HasCounts b)
    (types : List (List ℕ)) (records : Book) (m n : ℕ) (r : Result (List Head) JobFault)
    {old mid : Option History}
    (told : Adds old mid (Leads (anyhow (SparesFiles (names_of (codes "archive") b)))
    (HasFiles (names_of (codes "archive") b) files) (SoundNewest b records files r))) where
  abbrev All : List (List ℕ)
  All = names_of (codes "archive") b

  pub heads_refused : (fault : JobFault) → r ≡ Err fault
      → Adds old mid (Leads (anyhow (SparesFiles All)) (HasFiles All files)
      (SplitSoundly types b records files m n (Err fault)))
  heads_refused fault is =
      leads_as (λ h z. z) (λ h z. go fault h (subst (λ x. SoundNewest b records files x h) is z)) told
    where
      go : (fault : JobFault) (h : History) → SoundNewest b records files (Err fault) h
          → SplitSoundly types b records files m n (Err fault) h
      go (Outside call) h z = tt
      go (Damaged name at) h z = z
      go (Spent n) h z = tt
      go NoMemory h z = tt

  pub heads_read : IsTrue (ends_rise b.ends) → (heads : List Head) → r ≡ Ok heads → (ns : List (List ℕ)) → ns ≡ All → (k : ℕ)
      → (q : Result ℕ JobFault) {P : History → History → Type 0} {new : Option History}
      → Adds mid new P
      → ((v : Sight) (cs : List Chunk) (ws : List (List ℕ)) → AreRecords v ns heads cs
      → Each HasBytes cs
      → AreOfNew ns heads ws → AreSettled ws (known_file v)
      → AreApart ws (segment_name (codes "demux") k) → StreamsRise heads
      → Adds mid new (Leads (anyhow (SparesFiles ws)) (HasFiles ws (known_file v))
      (NotDamaged (PutsIf (HasDue types b records cs) m n) q)))
      → Adds old new (Leads (anyhow (SparesFiles All)) (HasFiles All files)
      (SplitSoundly types b records files m n q))
  heads_read sorted heads is ns are k q {new = new} made raw =
      leads_then
      (leads_as {B' = λ h. AreNewest b records files heads × HasFiles All files h} (λ h z. z)
      (λ h z. let y = subst (λ x. SoundNewest b records files x h) is z in (y.1, y.0)) told)
      (given (AreNewest b records files heads) made on)
    where
      on : AreNewest b records files heads
          → Adds mid new (Leads (anyhow (SparesFiles All)) (HasFiles All files)
          (SplitSoundly types b records files m n q))
      on x =
          let now = drop x.first All in
          let v = V b records files 0 settled counts x.first (from_zero x.first) x.runs in
          let cs = Chunks b records files 0 settled counts x.first (from_zero x.first) x.runs in
          among_more All now files (in_names b records files 0 settled counts x.first
          (from_zero x.first) x.runs)
          (leads_as (λ h z w one. z w one ∙ sym
          (held_new b records files 0 settled counts x.first (from_zero x.first) x.runs w one))
          (λ h z. soundly b records files 0 settled counts x.first
          (from_zero x.first) x.runs sorted types m n q h z)
          (raw v cs now
          (subst (λ ws. AreRecords v ws heads cs) (sym are)
          (are_records b records files 0 settled counts x.first
          (from_zero x.first) x.runs heads x.order))
          (has_bytes b records files 0 settled counts x.first (from_zero x.first) x.runs)
          (subst (λ ws. AreOfNew ws heads now) (sym are)
          (of_new b records files 0 settled counts x.first
          (from_zero x.first) x.runs heads x.order))
          (settled_new b records files 0 settled counts x.first (from_zero x.first) x.runs)
          (apart b records files 0 settled counts x.first (from_zero x.first) x.runs k)
          (rise b records files 0 settled counts x.first (from_zero x.first) x.runs heads x.order)))

-- ---- the same where older files may be anything

module _ (b records : Book) (files : Files) (least : ℕ)
    (settled : AreSettled (drop least (names_of (codes "archive") b)) files) (counts : HasCounts b)
    (r : Result (List Head) JobFault) {old mid : Option History}
    (told : Adds old mid (Leads (anyhow (SparesFiles (drop least (names_of (codes "archive") b))))
    (HasFiles (drop least (names_of (codes "archive") b)) files)
    (SoundOlder b records files least r))) where
  abbrev Least : List (List ℕ)
  Least = drop least (names_of (codes "archive") b)

  pub older_fails : (fault : JobFault) → r ≡ Err fault
      → Adds old mid (Leads (anyhow (SparesFiles Least)) (HasFiles Least files)
      (NotDamaged {T = ℕ} (Unit {0}) (Err fault)))
  older_fails fault is =
      leads_as (λ h z. z) (λ h z. go fault h
      (subst (λ x. SoundOlder b records files least x h) is z)) told
    where
      go : (fault : JobFault) (h : History) → SoundOlder b records files least (Err fault) h
          → NotDamaged {T = ℕ} (Unit {0}) (Err fault) h
      go (Outside call) h z = tt
      go (Damaged name at) h z = z
      go (Spent n) h z = tt
      go NoMemory h z = tt

  pub older_split : (heads : List Head) → r ≡ Ok heads → (ns : List (List ℕ))
      → ns ≡ names_of (codes "archive") b → (k : ℕ) → (X : List Chunk → Type 0)
      → (q : Result ℕ JobFault) {P : History → History → Type 0} {new : Option History}
      → Adds mid new P
      → ((v : Sight) (cs : List Chunk) (ws : List (List ℕ)) → AreRecords v ns heads cs
      → Each HasBytes cs
      → AreOfNew ns heads ws → AreSettled ws (known_file v)
      → AreApart ws (segment_name (codes "demux") k) → StreamsRise heads
      → Adds mid new (Leads (anyhow (SparesFiles ws)) (HasFiles ws (known_file v))
      (NotDamaged (X cs) q)))
      → Adds old new (Leads (anyhow (SparesFiles Least)) (HasFiles Least files)
      (NotDamaged (Unit {0}) q))
  older_split heads is ns are k X q {new = new} made raw =
      leads_then
      (leads_as {B' = λ h. ((x : AreNewest b records files heads) ×
      (least ≤ x.first)) × HasFiles Least files h}
      (λ h z. z)
      (λ h z. let y = subst (λ x. SoundOlder b records files least x h) is z in
      ((y.1, y.2), y.0)) told)
      (given ((x : AreNewest b records files heads) × (least ≤ x.first)) made (λ x. on x.0 x.1))
    where
      clear : (X : Type 0) (q : Result ℕ JobFault) (h : History) → NotDamaged X q h
          → NotDamaged (Unit {0}) q h
      clear X (Ok left) h z = tt
      clear X (Err (Outside call)) h z = tt
      clear X (Err (Damaged name at)) h z = z
      clear X (Err (Spent n)) h z = tt
      clear X (Err NoMemory) h z = tt

      on : (x : AreNewest b records files heads) → least ≤ x.first
          → Adds mid new (Leads (anyhow (SparesFiles Least)) (HasFiles Least files)
          (NotDamaged (Unit {0}) q))
      on x up =
          let now = drop x.first (names_of (codes "archive") b) in
          let v = V b records files least settled counts x.first up x.runs in
          let cs = Chunks b records files least settled counts x.first up x.runs in
          among_more Least now files
          (in_least b records files least settled counts x.first up x.runs)
          (leads_as (λ h z w one. z w one ∙ sym
          (held_new b records files least settled counts x.first up x.runs w one))
          (λ h z. clear (X cs) q h z)
          (raw v cs now
          (subst (λ ws. AreRecords v ws heads cs) (sym are)
          (are_records b records files least settled counts x.first up x.runs heads x.order))
          (has_bytes b records files least settled counts x.first up x.runs)
          (subst (λ ws. AreOfNew ws heads now) (sym are)
          (of_new b records files least settled counts x.first up x.runs heads x.order))
          (settled_new b records files least settled counts x.first up x.runs)
          (apart b records files least settled counts x.first up x.runs k)
          (rise b records files least settled counts x.first up x.runs heads x.order)))
