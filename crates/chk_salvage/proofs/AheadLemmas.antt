-- Records that are ahead.
use Rattle.std.proofs.Common.{◌≡◌, ℕ, ◌+◌, ◌^◌, ◌<◌, ◌≤◌, List, [], ◌∷◌, ◌++◌, length, take, drop, Some, arith, ap, ap₂, sym, subst, ◌∙◌, ⊎_elim}
use Rattle.std.proofs.lemmas.List.{length-append, length-take-le, length-drop, take-append-le, drop-append-le, take-append-drop, drop-drop, append_assoc, append-nil, drop_all, get_or-take, get_or-drop, get_or_past}
use Rattle.std.proofs.lemmas.Bool.{cases_lt}
use Rattle.std.proofs.lemmas.Bool.Decides.{nat_tests}
use Rattle.chk_bytes.specs.Laws.{AreBytes}
use Rattle.chk_bytes.specs.Numbers.{be32, spelled, spelled_at, with_length}
use Rattle.chk_bytes.proofs.NumberLemmas.{be32-spelled}
use Rattle.chk_seqfile.specs.declared.entries.Why.TheVariants.{Torn}
use Rattle.chk_seqfile.specs.Entries.{Damaged, entry_at, record_entry, size_of_record, placed, records_at, records_of}
use Rattle.chk_seqfile.proofs.EntryLemmas.{length-record_entry}
use Rattle.chk_seqfile.proofs.FileLemmas.{records_of-append, records_at-alone, Entries-record}
use Rattle.chk_salvage.specs.Front.{IsReadSo, DamageAt}
use Rattle.chk_salvage.specs.Feeding.{fed_place, fed_rest, fed_limit, fed_marker, IsFedSo, IsFed}
use Rattle.chk_salvage.specs.Ahead.{HasHead, IsWholeBy, IsAhead, placed_ahead}
use Rattle.chk_salvage.specs.declared.pieces.Pieces.{Pieces}
use Rattle.chk_salvage.specs.declared.fed.Ahead.{Ahead}
use Rattle.chk_salvage.proofs.FrontLemmas.{take_further, read_so_more}
use Rattle.chk_salvage.proofs.FeedLemmas.{read_so_longer}
use Rattle.chk_seqfile.proofs.FoundEntries.{parted}

-- four bytes from a place are those of the number that they spell, whatever follows
four_at : (at n : ℕ) (bytes more : List ℕ) → AreBytes bytes → at + 4 ≤ length bytes → spelled_at at 4 bytes ≡ n
    → take 4 (drop at (bytes ++ more)) ≡ be32 n
four_at at n bytes more are within is =
    let four : List ℕ = take 4 (drop at bytes) in
    let left = length-drop at bytes in
    let size : length four ≡ 4 = length-take-le 4 (drop at bytes) (omega arith) in
    ap (take 4) (drop-append-le at bytes more (omega arith)) ∙ take-append-le 4 (drop at bytes) more (omega arith)
    ∙ sym (be32-spelled four size (λ i. ⊎_elim
    (λ inside. rw (get_or-take 4 (drop at bytes) i 0 inside, get_or-drop at bytes i 0) (are (at + i)))
    (λ past. rw (get_or_past four i 0 (omega arith)) (omega arith))
    (cases_lt i 4)))
    ∙ ap be32 is

module _ (bytes : List ℕ) (k v : ℕ) (are : AreBytes bytes) (h : HasHead bytes k v) where
  -- its key
  abbrev head_key : List ℕ
  head_key = take k (drop 12 bytes)

  key_long : length head_key ≡ k
  key_long = length-take-le k (drop 12 bytes) (omega (arith, h.come, length-drop 12 bytes))

  -- with as many bytes as it asks for it is a record
  whole_record : (more : List ℕ) → length bytes + length more ≡ 16 + k + v
      → bytes ++ more ≡ record_entry head_key (drop (16 + k) (bytes ++ more))
  whole_record more all =
      let b : List ℕ = bytes ++ more in
      let value : List ℕ = drop (16 + k) b in
      let size : length b ≡ 16 + k + v = length-append bytes more ∙ all in
      let come = h.come in
      let lv : length value ≡ v = omega (arith, length-drop (16 + k) b) in
      let lk = key_long in
      let left = length-drop 12 bytes in
      let key_is : take k (drop 12 b) ≡ head_key =
      ap (take k) (drop-append-le 12 bytes more (omega arith)) ∙ take-append-le k (drop 12 bytes) more (omega arith) in
      let first : take 4 b ≡ be32 (8 + length head_key + length value) =
      four_at 0 (8 + k + v) bytes more are (omega arith) h.size ∙ ap be32 (omega arith) in
      let second : take 4 (drop 4 b) ≡ be32 (4 + length head_key) =
      four_at 4 (4 + k) bytes more are (omega arith) h.key_part ∙ ap be32 (omega arith) in
      let third : take 4 (drop 8 b) ≡ be32 (length head_key) =
      four_at 8 k bytes more are (omega arith) h.key_size ∙ ap be32 (omega arith) in
      let fourth : take 4 (drop (12 + k) b) ≡ be32 (length value) =
      four_at (12 + k) v bytes more are (omega arith) h.value_size ∙ ap be32 (omega arith) in
      let before_value : 12 + k + 4 ≡ 16 + k = omega arith in
      let value_all : drop (12 + k) b ≡ with_length value =
      parted (12 + k) 4 b ∙ ap₂ (λ a n. a ++ drop n b) fourth before_value in
      let key_all : drop 12 b ≡ head_key ++ with_length value = parted 12 k b ∙ ap₂ (λ x y. x ++ y) key_is value_all in
      parted 0 4 b ∙ ap₂ (λ x y. x ++ y) first (parted 4 4 b ∙ ap₂ (λ x y. x ++ y) second
      (parted 8 4 b ∙ ap₂ (λ x y. x ++ y) third key_all
      ∙ sym (append_assoc (be32 (length head_key)) head_key (with_length value))))

  -- with fewer it is torn
  torn_record : (marker more : List ℕ) → length bytes + length more < 16 + k + v → entry_at marker (bytes ++ more) ≡ Damaged Torn
  unfolding entry_at
  torn_record marker more few =
      let b : List ℕ = bytes ++ more in
      let size : length b ≡ length bytes + length more = length-append bytes more in
      let come = h.come in
      let small = h.small in
      let first : spelled_at 0 4 b ≡ 8 + k + v = ap spelled (take-append-le 4 bytes more (omega arith)) ∙ h.size in
      let left = length-drop 4 bytes in
      let second : spelled_at 4 4 b ≡ 4 + k =
      ap (λ x. spelled (take 4 x)) (drop-append-le 4 bytes more (omega arith)) ∙ ap spelled (take-append-le 4 (drop 4 bytes) more (omega arith)) ∙ h.key_part in
      grind (arith, nat_tests)

-- ---- of a reader

module _ (p : Pieces) (marker : List ℕ) (before : fed_marker p ≡ Some marker) (k v : ℕ) (are : AreBytes (fed_rest p)) (h : HasHead (fed_rest p) k v)
    (fed more : List ℕ) (f : IsFed p fed) where
  abbrev key : List ℕ
  key = head_key (fed_rest p) k v are h

  so_before : IsReadSo marker fed (fed_place p)
  so_before = subst (λ m. IsFedSo m fed (fed_place p)) before f.so

  so_longer : IsReadSo marker (fed ++ more) (fed_place p)
  so_longer = read_so_longer marker fed more (fed_place p) so_before

  behind : drop (fed_place p) (fed ++ more) ≡ fed_rest p ++ more
  behind = drop-append-le (fed_place p) fed more f.within ∙ ap (λ x. x ++ more) f.rest

  sizes : length fed ≡ fed_place p + length (fed_rest p)
  sizes = let within = f.within in let rest = ap length f.rest in omega (arith, length-drop (fed_place p) fed)

  torn_ahead : length fed + length more < fed_place p + (16 + k + v) → DamageAt marker (fed ++ more) (fed_place p) Torn
  torn_ahead few =
      let size = sizes in
      ap (entry_at marker) behind ∙ torn_record (fed_rest p) k v are h marker more (omega arith)

  module _ (a : Ahead) (at : a.at ≡ fed_place p) (is : a.key.now ≡ key) (wide : a.size ≡ v) (end : a.end ≡ fed_place p + (16 + k + v))
      (all : length fed + length more ≡ a.end) where
    abbrev value : List ℕ
    value = drop (16 + k) (fed_rest p ++ more)

    abbrev piece : List ℕ
    piece = record_entry key value

    long_key : length key ≡ k
    long_key = key_long (fed_rest p) k v are h

    long_value : length value ≡ v
    long_value = let size = sizes in let come = h.come in omega (arith, length-drop (16 + k) (fed_rest p ++ more), length-append (fed_rest p) more)

    small : 8 + length key + length value < 2 ^ 31
    small = let a = long_key in let b = long_value in let c = h.small in omega arith

    stands : drop (fed_place p) (fed ++ more) ≡ piece ++ []
    stands =
        let size = sizes in
        behind ∙ whole_record (fed_rest p) k v are h more (omega arith) ∙ sym (append-nil piece)

    further : fed_place p + length piece ≡ a.end
    further = let a = long_key in let b = long_value in let c = length-record_entry key value in omega arith

    whole_ahead : IsWholeBy marker fed more a
    whole_ahead = record {
      so = subst (IsReadSo marker (fed ++ more)) further
          (read_so_more marker (fed ++ more) (fed_place p) piece [] so_longer (Entries-record marker key value small) stands);
      value = value;
      size = long_value ∙ sym wide;
      records = ap (λ n. records_of (take n (fed ++ more))) (sym further)
          ∙ ap records_of (take_further (fed ++ more) (fed_place p) piece [] so_longer.within stands)
          ∙ records_of-append (take (fed_place p) (fed ++ more)) piece so_longer.file
          ∙ ap₂ (λ m n. records_of (take (fed_place p) (fed ++ more)) ++ records_at m n piece) so_longer.marker_is
          (length-take-le (fed_place p) (fed ++ more) so_longer.within)
          ∙ ap₂ (λ x y. records_of x ++ y) front (records_at-alone marker (fed_place p) key value wide_marker small ∙ ap (λ r. r ∷ []) given);
    }
      where
        front : take (fed_place p) (fed ++ more) ≡ take a.at fed
        front = take-append-le (fed_place p) fed more f.within ∙ ap (λ n. take n fed) (sym at)

        wide_marker : length marker ≡ 16
        wide_marker = ap length (sym so_before.marker_is) ∙ so_before.file.header.marker_size

        last : fed_place p + size_of_record key value ≡ a.end
        last = let a = long_key in let b = long_value in omega arith

        given : placed (fed_place p) key value ≡ placed_ahead a value
        given = λ i. record { at = (sym at) i; end = last i; key = (sym is) i; value = value }

-- ---- going on behind it

pub passed : (old new : Pieces) (a : Ahead) (end : ℕ) → IsAhead old a → a.end ≡ end → fed_marker new ≡ fed_marker old → fed_place new ≡ end
    → fed_rest new ≡ [] → (fed missing : List ℕ) → IsFed old fed → length fed + length missing ≡ end → IsFed new (fed ++ missing)
passed old new a end ahead is same place rest fed missing f all =
    let whole = ahead.whole fed missing f (all ∙ sym is) in
    let size : length (fed ++ missing) ≡ end = length-append fed missing ∙ all in
    record {
      within = omega (arith, place, size);
      rest = ap (λ n. drop n (fed ++ missing)) place ∙ drop_all end (fed ++ missing) (omega (arith, size)) ∙ sym rest;
      so = subst (λ m. IsFedSo m (fed ++ missing) (fed_place new)) (sym (same ∙ ahead.opened))
          (subst (IsReadSo ahead.marker (fed ++ missing)) (is ∙ sym place) whole.so);
    }

-- ---- what is seen of one

pub stands_ahead : (p : Pieces) (marker : List ℕ) (k v : ℕ) (a : Ahead) → fed_marker p ≡ Some marker → AreBytes (fed_rest p) → HasHead (fed_rest p) k v
    → a.at ≡ fed_place p → a.key.now ≡ take k (drop 12 (fed_rest p)) → a.size ≡ v → a.end ≡ fed_place p + (16 + k + v)
    → length (fed_rest p) < 16 + k + v → 8 + k + v ≤ fed_limit p → a.end < 2 ^ 63 → IsAhead p a
stands_ahead p marker k v a opened are h at is wide end few within fits =
    let long : length a.key.now ≡ k = ap length is ∙ key_long (fed_rest p) k v are h in
    record {
      marker = marker;
      opened = opened;
      at = at;
      end = omega (arith, at, end, long, wide);
      come = omega (arith, h.come, long);
      owed = omega (arith, at, end, few);
      within = omega (arith, long, wide, within);
      fits = fits;
      whole = λ fed missing f all. whole_ahead p marker opened k v are h fed missing f a at is wide end all;
      torn = λ fed more f few. (
        subst (IsReadSo marker (fed ++ more)) (sym at) (so_longer p marker opened k v are h fed more f),
        subst (λ n. DamageAt marker (fed ++ more) n Torn) (sym at)
            (torn_ahead p marker opened k v are h fed more f (omega (arith, few, end))),
      );
    }
