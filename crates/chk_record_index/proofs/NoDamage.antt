-- A file of chunks is damaged nowhere.
use Rattle.std.proofs.Common.{◌≡◌, ◌≢◌, inl, inr, ◌⊎◌, ℕ, zero, suc, ◌+◌, ◌<◌, ◌≤◌, ◌^◌, Bool, true, false, List, [], ◌∷◌, ◌++◌, length, take, drop, Option, Some, None, Err, refl, sym, ap, subst, ◌∙◌, append_assoc, arith, length-append}
use Rattle.std.specs.Prelude.{filter_map, nat_lt, nat_le, ◌&&◌}
use Rattle.std.proofs.lemmas.Bool.{and_parts, leb-true, cases_lt}
use Rattle.std.proofs.lemmas.List.{take-append-drop, take_at, drop_at, drop-append-le, length-drop, take-append-le, nil_from_length}
use Rattle.std.proofs.lemmas.List.Elements.{filter_map-append}
use Rattle.chk_bytes.specs.Numbers.{spelled, spelled_at}
use Rattle.chk_bytes.specs.Words.{joined}
use Rattle.chk_bytes.proofs.NumberLemmas.{spelled-be32}
use Rattle.chk_seqfile.specs.Headers.{read_header}
use Rattle.chk_seqfile.specs.declared.headers.HeaderRef.{HeaderRef}
use Rattle.chk_seqfile.specs.declared.headers.HeaderFault.{HeaderFault}
use Rattle.chk_seqfile.specs.declared.headers.HeaderFault.TheVariants.{Short}
use Rattle.chk_seqfile.specs.declared.entries.Why.{Why}
use Rattle.chk_seqfile.specs.declared.entries.Why.TheVariants.{Torn}
use Rattle.chk_seqfile.specs.Entries.{IsSequenceFile, IsEntry, AreEntries, Entry, RecordEntry, Damaged, entry_at, sync_entry, record_entry, Placed, placed, records_of, records_at}
use Rattle.chk_seqfile.proofs.EntryLemmas.{entry_at-nil, entry_at-record, entry_at-sync, entry_at-torn, entry_some}
use Rattle.chk_seqfile.proofs.FileLemmas.{records_of-append}
use Rattle.chk_seqfile.proofs.RecordLemmas.{records_at-record}
use Rattle.chk_seqfile.proofs.HeaderLemmas.{read_header-append, read_header-cut}
use Rattle.chk_chunk.specs.Keys.{Key, Chunk, has_value, read_key}
use Rattle.chk_chunk.proofs.KeyLaws.{read_is_key}
use Rattle.chk_chunk.proofs.KeySizes.{key_size}
use Rattle.chk_salvage.specs.Front.{IsReadSo, DamageAt}
use Rattle.chk_salvage.specs.Longs.{IsLong}
use Rattle.chk_salvage.proofs.FrontLemmas.{header_of_front}
use Rattle.chk_world.specs.Books.{AllChunks, chunk_of, chunk_with, chunk_if}
use Rattle.chk_record_index.specs.Feeding.{AreChunks, limit_of, bad_header, bad_entry, long_entry, bad_record, IsBadAt, no_header, torn, spoiled}

-- ---- the header

header_read : (bytes : List ℕ) (f : IsSequenceFile bytes) → (fault : HeaderFault) → read_header bytes ≡ Err fault → ⊥
header_read bytes f fault wrong =
    let ok = ap read_header f.is ∙ read_header-append f.marker f.head f.entries f.header in cc

front_header : (bytes front rest : List ℕ) (f : IsSequenceFile bytes) → bytes ≡ front ++ rest → (fault : HeaderFault) → read_header front ≡ Err fault → fault ≢ Short → ⊥
front_header bytes front rest f is fault wrong other = by (cases_lt (length front) (length f.head))
  where
    same : front ++ rest ≡ f.head ++ f.entries
    same = sym is ∙ f.is

    by : (length front < length f.head) ⊎ (length f.head ≤ length front) → ⊥
    by (inl less) =
        let cut : front ≡ take (length front) f.head =
        sym (take_at front rest (length front) refl) ∙ (ap (take (length front)) same ∙ take-append-le (length front) f.head f.entries (omega arith)) in
        let short = ap read_header cut ∙ read_header-cut f.marker f.head (length front) f.header less in
        other (let e : Err fault ≡ Err Short = sym wrong ∙ short in cc)
    by (inr more) =
        let head : take (length f.head) front ≡ f.head =
        sym (take-append-le (length f.head) front rest (omega arith)) ∙ (ap (take (length f.head)) same ∙ take_at f.head f.entries (length f.head) refl) in
        let whole : front ≡ f.head ++ drop (length f.head) front = sym (take-append-drop (length f.head) front) ∙ ap (λ t. t ++ drop (length f.head) front) head in
        let ok = ap read_header whole ∙ read_header-append f.marker f.head (drop (length f.head) front) f.header in cc

-- ---- entries

record_parts : (k v m w : List ℕ) → Path Entry (RecordEntry k v) (RecordEntry m w) → (k ≡ m) × (v ≡ w)
record_parts k v m w e = (ap key_in e, ap value_in e)
  where
    key_in : Entry → List ℕ
    key_in (RecordEntry key value) = key
    key_in other = []

    value_in : Entry → List ℕ
    value_in (RecordEntry key value) = value
    value_in other = []

-- two entries that begin the same bytes are one
one_entry : (marker d e xs ys : List ℕ) → length marker ≡ 16 → IsEntry marker d → IsEntry marker e → d ++ xs ≡ e ++ ys → d ≡ e
one_entry marker d e xs ys wide (inl s) (inl t) same = s ∙ sym t
one_entry marker d e xs ys wide (inl s) (inr t) same =
    absurd (let a = ap (λ z. entry_at marker (z ++ xs)) s ∙ entry_at-sync marker xs wide in
    let b = ap (λ z. entry_at marker (z ++ ys)) t.is ∙ entry_at-record marker t.key t.value ys t.small in
    let c = ap (entry_at marker) same in cc)
one_entry marker d e xs ys wide (inr s) (inl t) same =
    absurd (let a = ap (λ z. entry_at marker (z ++ xs)) s.is ∙ entry_at-record marker s.key s.value xs s.small in
    let b = ap (λ z. entry_at marker (z ++ ys)) t ∙ entry_at-sync marker ys wide in
    let c = ap (entry_at marker) same in cc)
one_entry marker d e xs ys wide (inr s) (inr t) same =
    let a = ap (λ z. entry_at marker (z ++ xs)) s.is ∙ entry_at-record marker s.key s.value xs s.small in
    let b = ap (λ z. entry_at marker (z ++ ys)) t.is ∙ entry_at-record marker t.key t.value ys t.small in
    let parts = record_parts s.key s.value t.key t.value (sym a ∙ (ap (entry_at marker) same ∙ b)) in
    s.is ∙ (ap (λ z. record_entry z s.value) parts.0 ∙ (ap (λ z. record_entry t.key z) parts.1 ∙ sym t.is))

-- behind some of a file's entries stand the others
rest_entries : (marker : List ℕ) (ds es : List (List ℕ)) (tail : List ℕ) → length marker ≡ 16 → AreEntries marker ds → AreEntries marker es
    → joined es ≡ joined ds ++ tail → (fs : List (List ℕ)) × AreEntries marker fs × (tail ≡ joined fs)
rest_entries marker [] es tail wide ds_each es_each same = (es, es_each, sym same)
rest_entries marker (d ∷ ds) [] tail wide ds_each es_each same =
    absurd (let some = entry_some marker d ds_each.0 in let n = ap length same in let a = length-append d (joined ds) in let b = length-append (d ++ joined ds) tail in
    let z : ⊥ = omega arith in z)
rest_entries marker (d ∷ ds) (e ∷ es) tail wide ds_each es_each same =
    let split : d ++ (joined ds ++ tail) ≡ e ++ joined es = sym (same ∙ append_assoc d (joined ds) tail) in
    let one = one_entry marker d e (joined ds ++ tail) (joined es) wide ds_each.0 es_each.0 split in
    rest_entries marker ds es tail wide ds_each.1 es_each.1
    (sym (drop_at e (joined es) (length e) refl) ∙ (ap (drop (length e)) (sym split)
    ∙ (ap (λ n. drop n (d ++ (joined ds ++ tail))) (ap length (sym one)) ∙ drop_at d (joined ds ++ tail) (length d) refl)))

-- ---- what stands where reading has come to

read_so_same : (bytes front rest marker : List ℕ) (at : ℕ) → bytes ≡ front ++ rest → IsReadSo marker front at → IsReadSo marker bytes at
read_so_same bytes front rest marker at is so =
    let same : take at bytes ≡ take at front = ap (take at) is ∙ take-append-le at front rest so.within in
    let p = subst (λ x. (h : IsSequenceFile x) × (h.marker ≡ marker)) (sym same) (so.file, so.marker_is) in
    record {
      within = (let a = ap length is in let b = length-append front rest in let c = so.within in let z : at ≤ length bytes = omega arith in z);
      file = p.0;
      marker_is = p.1;
    }

-- where a front of the file was read, the other entries stand behind it
entries_behind : (bytes marker : List ℕ) (at : ℕ) (f : IsSequenceFile bytes) (so : IsReadSo marker bytes at)
    → (fs : List (List ℕ)) × AreEntries marker fs × (drop at bytes ≡ joined fs)
entries_behind bytes marker at f so =
    let h = so.file in
    let ok = ap read_header f.is ∙ read_header-append f.marker f.head f.entries f.header in
    let heads : Path HeaderRef (record { marker = h.marker; end = length h.head }) (record { marker = f.marker; end = length f.head }) =
    (let a = header_of_front bytes at h in let b = ok in cc) in
    let markers : f.marker ≡ marker = sym (ap (λ (r : HeaderRef). r.marker) heads) ∙ so.marker_is in
    let sizes : length h.head ≡ length f.head = ap (λ (r : HeaderRef). r.end) heads in
    let whole : bytes ≡ h.head ++ (h.entries ++ drop at bytes) =
    sym (take-append-drop at bytes) ∙ (ap (λ x. x ++ drop at bytes) h.is ∙ append_assoc h.head h.entries (drop at bytes)) in
    let behind : joined f.form.pieces ≡ joined h.form.pieces ++ drop at bytes =
    sym f.form.is
    ∙ (sym (ap (drop (length f.head)) f.is ∙ drop_at f.head f.entries (length f.head) refl)
    ∙ (ap (λ n. drop n bytes) (sym sizes)
    ∙ (ap (drop (length h.head)) whole ∙ (drop_at h.head (h.entries ++ drop at bytes) (length h.head) refl
    ∙ ap (λ x. x ++ drop at bytes) h.form.is)))) in
    rest_entries marker h.form.pieces f.form.pieces (drop at bytes) (ap length (sym so.marker_is) ∙ h.header.marker_size)
    (subst (λ k. AreEntries k h.form.pieces) so.marker_is h.form.each)
    (subst (λ k. AreEntries k f.form.pieces) markers f.form.each) behind

-- what begins an entry is no damage but a torn end
entry_cut : (marker e part more rest : List ℕ) (why : Why) → length marker ≡ 16 → IsEntry marker e → part ++ rest ≡ e ++ more
    → entry_at marker part ≡ Damaged why → why ≢ Torn → ⊥
entry_cut marker e part more rest why wide entry same wrong other = by (cases_lt (length part) (length e))
  where
    by : (length part < length e) ⊎ (length e ≤ length part) → ⊥
    by (inl less) =
        let cut : part ≡ take (length part) e =
        sym (take_at part rest (length part) refl) ∙ (ap (take (length part)) same ∙ take-append-le (length part) e more (omega arith)) in
        torn_or_none (length part) refl less cut
      where
        torn_or_none : (k : ℕ) → length part ≡ k → k < length e → part ≡ take k e → ⊥
        torn_or_none zero none less cut =
            let nothing = ap (entry_at marker) (nil_from_length part none) ∙ entry_at-nil marker in cc
        torn_or_none (suc k) some less cut =
            let t = ap (entry_at marker) cut ∙ entry_at-torn marker e (suc k) entry wide (omega arith) less in
            other (let x : Path Entry (Damaged why) (Damaged Torn) = sym wrong ∙ t in cc)
    by (inr more_of) =
        let head : take (length e) part ≡ e =
        sym (take-append-le (length e) part rest (omega arith)) ∙ (ap (take (length e)) same ∙ take_at e more (length e) refl) in
        let whole : part ≡ e ++ drop (length e) part = sym (take-append-drop (length e) part) ∙ ap (λ t. t ++ drop (length e) part) head in
        whole_entry entry whole
      where
        whole_entry : IsEntry marker e → part ≡ e ++ drop (length e) part → ⊥
        whole_entry (inl s) w =
            let a = ap (entry_at marker) w ∙ (ap (λ z. entry_at marker (z ++ drop (length e) part)) s ∙ entry_at-sync marker (drop (length e) part) wide) in cc
        whole_entry (inr r) w =
            let a = ap (entry_at marker) w ∙ (ap (λ z. entry_at marker (z ++ drop (length e) part)) r.is ∙ entry_at-record marker r.key r.value (drop (length e) part) r.small) in cc

-- ---- records that are no chunks

few_chunks : (most : ℕ) (rs : List Placed) → length (filter_map (chunk_of most) rs) ≤ length rs
few_chunks most [] = omega arith
few_chunks most (r ∷ rs) = by (few_chunks most rs) (chunk_of most r) refl
  where
    by : length (filter_map (chunk_of most) rs) ≤ length rs → (o : Option Chunk) → chunk_of most r ≡ o
        → length (filter_map (chunk_of most) (r ∷ rs)) ≤ length (r ∷ rs)
    by n None e = rw e (omega arith)
    by n (Some c) e = rw e (omega arith)

none_among : (most : ℕ) (xs ys : List Placed) (r : Placed) → AreChunks most (xs ++ r ∷ ys) → chunk_of most r ≡ None → ⊥
none_among most xs ys r all none =
    let a = ap length (filter_map-append (chunk_of most) xs (r ∷ ys)) in
    let b = length-append (filter_map (chunk_of most) xs) (filter_map (chunk_of most) (r ∷ ys)) in
    let c : length (filter_map (chunk_of most) (r ∷ ys)) ≡ length (filter_map (chunk_of most) ys) = rw none refl in
    let d = few_chunks most xs in
    let e = few_chunks most ys in
    let f = length-append xs (r ∷ ys) in
    let z : ⊥ = omega arith in z

-- a chunk's record isn't long
chunk_small : (most : ℕ) (r : Placed) → (chunk_of most r ≡ None) ⊎ (length r.key + length r.value ≤ most + 16409)
chunk_small most r = by (read_key r.key) refl
  where
    by_value : (k : Key) → read_key r.key ≡ Some k → (b : Bool) → has_value most k r.value ≡ b → (chunk_of most r ≡ None) ⊎ (length r.key + length r.value ≤ most + 16409)
    by_value k e false v = inl (ap (λ o. chunk_with most o r.value) e ∙ ap (λ b. chunk_if b k r.value) v)
    by_value k e true v =
        let n : ℕ = length r.value in
        let a = and_parts (nat_lt 0 n) (nat_le n most && nat_le (k.start + n) k.seq) v in
        let short = leb-true n most (and_parts (nat_le n most) (nat_le (k.start + n) k.seq) a.1).0 in
        let key = key_size k r.key (read_is_key k r.key e) in
        inr (omega arith)

    by : (o : Option Key) → read_key r.key ≡ o → (chunk_of most r ≡ None) ⊎ (length r.key + length r.value ≤ most + 16409)
    by None e = inl (ap (λ o. chunk_with most o r.value) e)
    by (Some k) e = by_value k e (has_value most k r.value) refl

-- ---- the law

module _ (most : ℕ) (bytes : List ℕ) (all : AllChunks most bytes) where
  -- the records of a front are the first ones
  records_split : (marker : List ℕ) (at : ℕ) (so : IsReadSo marker bytes at)
      → records_of bytes ≡ records_of (take at bytes) ++ records_at so.file.marker (length (take at bytes)) (drop at bytes)
  records_split marker at so =
      ap records_of (sym (take-append-drop at bytes)) ∙ records_of-append (take at bytes) (drop at bytes) so.file

  not_record : (front rest : List ℕ) → bytes ≡ front ++ rest → (marker : List ℕ) (end : ℕ) (before : List Placed) (r : Placed) → IsReadSo marker front end
      → chunk_of most r ≡ None → records_of (take end front) ≡ before ++ r ∷ [] → ⊥
  not_record front rest is marker end before r so none records =
      let here = read_so_same bytes front rest marker end is so in
      let same : take end bytes ≡ take end front = ap (take end) is ∙ take-append-le end front rest so.within in
      let more = records_at here.file.marker (length (take end bytes)) (drop end bytes) in
      let split : records_of bytes ≡ before ++ r ∷ more =
      records_split marker end here ∙ (ap (λ b. records_of b ++ more) same ∙ (ap (λ rs. rs ++ more) records ∙ append_assoc before (r ∷ []) more)) in
      none_among most before more r (subst (AreChunks most) split all.all) none

  not_entry : (front rest : List ℕ) → bytes ≡ front ++ rest → (marker : List ℕ) (at : ℕ) (why : Why) → IsReadSo marker front at
      → DamageAt marker front at why → why ≢ Torn → ⊥
  not_entry front rest is marker at why so wrong other =
      let here = read_so_same bytes front rest marker at is so in
      let behind : drop at front ++ rest ≡ drop at bytes = sym (ap (drop at) is ∙ drop-append-le at front rest so.within) in
      let wide : length marker ≡ 16 = ap length (sym so.marker_is) ∙ so.file.header.marker_size in
      by wide behind (entries_behind bytes marker at all.form here)
    where
      by : length marker ≡ 16 → drop at front ++ rest ≡ drop at bytes → ((fs : List (List ℕ)) × AreEntries marker fs × (drop at bytes ≡ joined fs)) → ⊥
      by wide behind ([], each, are) =
          let none : drop at front ≡ [] = nil_from_length (drop at front) (let a = ap length (behind ∙ are) in let b = length-append (drop at front) rest in omega arith) in
          let nothing = ap (entry_at marker) none ∙ entry_at-nil marker in cc
      by wide behind (e ∷ es, each, are) = entry_cut marker e (drop at front) (joined es) rest why wide each.0 (behind ∙ are) wrong other

  not_long : (front rest : List ℕ) → bytes ≡ front ++ rest → (marker : List ℕ) (at need : ℕ) → IsReadSo marker front at → IsLong (limit_of most) front at need → ⊥
  not_long front rest is marker at need so long =
      let here = read_so_same bytes front rest marker at is so in
      let behind : drop at front ++ rest ≡ drop at bytes = sym (ap (drop at) is ∙ drop-append-le at front rest so.within) in
      let wide : length marker ≡ 16 = ap length (sym so.marker_is) ∙ so.file.header.marker_size in
      by here wide behind (entries_behind bytes marker at all.form here)
    where
      four : (more : List ℕ) → drop at front ++ rest ≡ more → spelled_at at 4 front ≡ spelled (take 4 more)
      four more same =
          let fits = length-drop at front in
          let there = long.there in
          ap spelled (sym (take-append-le 4 (drop at front) rest (omega arith)) ∙ ap (take 4) same)

      record_here : (here : IsReadSo marker bytes at) (key value more : List ℕ) → 8 + length key + length value < 2 ^ 31 → drop at bytes ≡ record_entry key value ++ more
          → drop at front ++ rest ≡ drop at bytes → ⊥
      record_here here key value more small are behind =
          let n : spelled_at at 4 front ≡ 8 + length key + length value =
          four (record_entry key value ++ more) (behind ∙ are) ∙ spelled-be32 (8 + length key + length value) (omega arith) in
          let place : ℕ = length (take at bytes) in
          let first = ap (entry_at here.file.marker) are ∙ entry_at-record here.file.marker key value more small in
          let split = records_split marker at here
          ∙ ap (λ rs. records_of (take at bytes) ++ rs) (records_at-record here.file.marker place (drop at bytes) key value first) in
          let over = long.over in
          let need_is = long.is in
          elim (chunk_small most (placed place key value)) [
            | inl none ↦ none_among most (records_of (take at bytes)) _ (placed place key value) (subst (AreChunks most) split all.all) none
            | inr short ↦ (let z : ⊥ = omega arith in z)
          ]

      by : IsReadSo marker bytes at → length marker ≡ 16 → drop at front ++ rest ≡ drop at bytes → ((fs : List (List ℕ)) × AreEntries marker fs × (drop at bytes ≡ joined fs)) → ⊥
      by here wide behind ([], each, are) =
          let a = ap length (behind ∙ are) in let b = length-append (drop at front) rest in let c = length-drop at front in let d = long.there in
          let z : ⊥ = omega arith in z
      by here wide behind (e ∷ es, (inl s, more), are) =
          let n : spelled_at at 4 front ≡ 4294967295 = four (sync_entry marker ++ joined es) (behind ∙ (are ∙ ap (λ x. x ++ joined es) s)) in
          let need_is = long.is in let small = long.small in
          let z : ⊥ = omega arith in z
      by here wide behind (e ∷ es, (inr r, more), are) =
          record_here here r.key r.value (joined es) r.small (are ∙ ap (λ x. x ++ joined es) r.is) behind

  not_torn : (marker : List ℕ) (at : ℕ) → IsReadSo marker bytes at → DamageAt marker bytes at Torn → ⊥
  not_torn marker at so wrong =
      let wide : length marker ≡ 16 = ap length (sym so.marker_is) ∙ so.file.header.marker_size in
      by wide (entries_behind bytes marker at all.form so)
    where
      by : length marker ≡ 16 → ((fs : List (List ℕ)) × AreEntries marker fs × (drop at bytes ≡ joined fs)) → ⊥
      by wide ([], each, are) = let nothing = ap (entry_at marker) are ∙ entry_at-nil marker in cc
      by wide (e ∷ es, (inl s, more), are) =
          let a = ap (entry_at marker) (are ∙ ap (λ x. x ++ joined es) s) ∙ entry_at-sync marker (joined es) wide in cc
      by wide (e ∷ es, (inr r, more), are) =
          let a = ap (entry_at marker) (are ∙ ap (λ x. x ++ joined es) r.is) ∙ entry_at-record marker r.key r.value (joined es) r.small in cc

  pub no_damage : (at : ℕ) → IsBadAt most bytes at → ⊥
  no_damage at (no_header short first) = header_read bytes all.form Short short
  no_damage at (torn marker so wrong chunks) = not_torn marker at so wrong
  no_damage at (spoiled front begins (bad_header fault wrong other first)) = front_header bytes front begins.0 all.form begins.1 fault wrong other
  no_damage at (spoiled front begins (bad_entry marker why so wrong other chunks)) = not_entry front begins.0 begins.1 marker at why so wrong other
  no_damage at (spoiled front begins (long_entry marker need so long chunks)) = not_long front begins.0 begins.1 marker at need so long
  no_damage at (spoiled front begins (bad_record marker end before r so none place records chunks)) = not_record front begins.0 begins.1 marker end before r so none records
