-- Readers that are fed.
use Rattle.std.proofs.Common.{◌≡◌, ◌≢◌, ℕ, ◌+◌, ◌-◌, ◌^◌, ◌<◌, ◌≤◌, ◌⊎◌, List, [], ◌∷◌, ◌++◌, length, take, drop, Option, Some, None, Ok, Err, inl, inr, ⊎_elim, arith, refl, ap, ap₂, sym, subst, ◌∙◌}
use Rattle.std.proofs.lemmas.List.{length-append, length-take-le, length-drop, drop_at, take-append-le, drop-append-le, drop-drop, append-nil}
use Rattle.std.proofs.lemmas.Bool.{cases_lt}
use Rattle.chk_bytes.specs.Numbers.{spelled, spelled_at}
use Rattle.chk_bytes.proofs.NumberLemmas.{spelled-be32}
use Rattle.chk_seqfile.specs.declared.headers.HeaderRef.{HeaderRef}
use Rattle.chk_seqfile.specs.declared.headers.HeaderFault.{HeaderFault}
use Rattle.chk_seqfile.specs.declared.headers.HeaderFault.TheVariants.{Short}
use Rattle.chk_seqfile.specs.declared.entries.Why.{Why}
use Rattle.chk_seqfile.specs.declared.entries.Why.TheVariants.{Torn}
use Rattle.chk_seqfile.specs.Headers.{read_header, read_front, read_fields}
use Rattle.chk_seqfile.specs.Entries as entries
use Rattle.chk_seqfile.specs.Entries.{Entries, SyncEntry, RecordEntry, NoEntry, entry_at, records_at, records_of, record_entry, size_of_record, placed}
use Rattle.chk_seqfile.proofs.EntryLemmas.{length-record_entry, key_in_record, value_in_record}
use Rattle.chk_seqfile.proofs.FoundEntries.{nothing_found, sync_number, torn_short}
use Rattle.chk_seqfile.proofs.FileLemmas.{records_of-append, records_of-behind, records_at-alone, Entries-record}
use Rattle.chk_seqfile.proofs.HeaderLemmas.{read_header-sound}
use Rattle.chk_salvage.specs.Front.{IsReadSo}
use Rattle.chk_salvage.specs.Longs.{IsLong, NotLong}
use Rattle.chk_salvage.specs.Views.{placed_of}
use Rattle.chk_salvage.specs.Feeding.{fed_place, fed_rest, fed_limit, fed_marker, IsFedSo, IsFed, Stands, GivesNone, record_fed, Answers}
use Rattle.chk_salvage.specs.Steps.{GoesOn, Stepped}
use Rattle.chk_salvage.specs.Skipping.{IsBehindSyncs}
use Rattle.chk_salvage.specs.declared.entry.EntryRef.{EntryRef}
use Rattle.chk_salvage.specs.declared.pieces.Pieces.{Pieces}
use Rattle.chk_salvage.specs.declared.fed.Fed.{Fed}
use Rattle.chk_salvage.specs.declared.fed.Fed.TheVariants as answers
use Rattle.chk_salvage.specs.declared.fed.Step.{Step}
use Rattle.chk_salvage.specs.declared.fed.Step.TheVariants as step
use Rattle.chk_salvage.proofs.FrontLemmas.{take_further, read_so_header, read_so_more}
use Rattle.chk_salvage.proofs.ReaderLemmas.{nothing_at_end}

-- ---- more bytes

-- what was read stays read
pub read_so_longer : (marker bytes more : List ℕ) (place : ℕ) → IsReadSo marker bytes place → IsReadSo marker (bytes ++ more) place
read_so_longer marker bytes more place so =
    let within = so.within in
    let same : take place (bytes ++ more) ≡ take place bytes = take-append-le place bytes more within in
    record {
      within = omega (arith, length-append bytes more);
      file = record {
        marker = so.file.marker;
        head = so.file.head;
        entries = so.file.entries;
        is = same ∙ so.file.is;
        header = so.file.header;
        form = so.file.form;
      };
      marker_is = so.marker_is;
    }

so_longer : (marker : Option (List ℕ)) (bytes more : List ℕ) (place : ℕ) → IsFedSo marker bytes place → IsFedSo marker (bytes ++ more) place
so_longer None bytes more place so = so
so_longer (Some marker) bytes more place so = read_so_longer marker bytes more place so

-- a piece more
pub fed_more : (old new : Pieces) (fed piece : List ℕ) → fed_marker new ≡ fed_marker old → fed_place new ≡ fed_place old
    → fed_rest new ≡ fed_rest old ++ piece → IsFed old fed → IsFed new (fed ++ piece)
fed_more old new fed piece markers places rests h =
    let within = h.within in
    record {
      within = omega (arith, length-append fed piece, places);
      rest = ap (λ n. drop n (fed ++ piece)) places ∙ drop-append-le (fed_place old) fed piece within
          ∙ ap (λ x. x ++ piece) h.rest ∙ sym rests;
      so = subst (λ m. IsFedSo m (fed ++ piece) (fed_place new)) (sym markers)
          (subst (IsFedSo (fed_marker old) (fed ++ piece)) (sym places) (so_longer (fed_marker old) fed piece (fed_place old) h.so));
    }

-- ---- going on

-- over entries
module _ (old new : Pieces) (marker piece fed : List ℕ) (before : fed_marker old ≡ Some marker) (after : fed_marker new ≡ Some marker)
    (rests : fed_rest old ≡ piece ++ fed_rest new) (places : fed_place new ≡ fed_place old + length piece) (form : Entries marker piece) (h : IsFed old fed) where
  so_before : IsReadSo marker fed (fed_place old)
  so_before = subst (λ m. IsFedSo m fed (fed_place old)) before h.so

  split : drop (fed_place old) fed ≡ piece ++ fed_rest new
  split = h.rest ∙ rests

  so_after : IsReadSo marker fed (fed_place new)
  so_after = subst (IsReadSo marker fed) (sym places) (read_so_more marker fed (fed_place old) piece (fed_rest new) so_before form split)

  pub fed_by_entries : IsFed new fed
  fed_by_entries = record {
    within = so_after.within;
    rest = ap (λ n. drop n fed) places ∙ sym (drop-drop (length piece) (fed_place old) fed) ∙ ap (drop (length piece)) split
        ∙ drop_at piece (fed_rest new) (length piece) refl;
    so = subst (λ m. IsFedSo m fed (fed_place new)) (sym after) so_after;
  }

  pub records_by_entries : records_of (take (fed_place new) fed) ≡ records_of (take (fed_place old) fed) ++ records_at marker (fed_place old) piece
  records_by_entries =
      ap (λ n. records_of (take n fed)) places
      ∙ ap records_of (take_further fed (fed_place old) piece (fed_rest new) so_before.within split)
      ∙ records_of-append (take (fed_place old) fed) piece so_before.file
      ∙ ap₂ (λ m n. records_of (take (fed_place old) fed) ++ records_at m n piece) so_before.marker_is (length-take-le (fed_place old) fed so_before.within)

-- a long record is one wherever the same bytes stand
long_moves : (limit : ℕ) (xs ys : List ℕ) (a b need : ℕ) → drop a xs ≡ drop b ys → b ≤ length ys → IsLong limit xs a need → IsLong limit ys b need
long_moves limit xs ys a b need same within long =
    let sizes : length (drop a xs) ≡ length (drop b ys) = ap length same in
    let there = long.there in
    record {
      there = omega (arith, length-drop a xs, length-drop b ys);
      is = long.is ∙ ap (λ x. spelled (take 4 x)) same;
      over = long.over;
      small = long.small;
    }

not_long_moves : (limit : ℕ) (xs ys : List ℕ) (a b : ℕ) → drop a xs ≡ drop b ys → a ≤ length xs → NotLong limit xs a → NotLong limit ys b
not_long_moves limit xs ys a b same within none = λ need long. none need (long_moves limit ys xs b a need (sym same) within long)

-- where an answer without a record stands, no sync entry does
not_sync : (limit : ℕ) (fed marker : List ℕ) (place : ℕ) (stop : Fed) → GivesNone stop → Stands limit fed (Some marker) place stop
    → entry_at marker (drop place fed) ≡ SyncEntry → ⊥
not_sync limit fed marker place (answers.Entry e) none stands sync = none
not_sync limit fed marker place answers.More none (inl last, fits, short) sync = let nothing = nothing_at_end marker fed place last in cc
not_sync limit fed marker place answers.More none (inr torn, fits, short) sync = cc
not_sync limit fed marker place (answers.Header fault) none stands sync = stands
not_sync limit fed marker place (answers.Damaged at why) none (same, damage, mended, fits) sync = cc
not_sync limit fed marker place (answers.Long at need) none (same, long) sync =
    let number = sync_number marker (drop place fed) sync in
    let is : need ≡ spelled_at 0 4 (drop place fed) = long.is in
    let small = long.small in
    absurd (omega arith)

-- the same answer stands at the same place
stands_same : (limit limit' place place' : ℕ) (fed : List ℕ) (m m' : Option (List ℕ)) (stop : Fed) → limit' ≡ limit → m' ≡ m → place' ≡ place
    → Stands limit fed m place stop → Stands limit' fed m' place' stop
stands_same limit limit' place place' fed m m' stop limits markers places stands =
    subst (λ l. Stands l fed m' place' stop) (sym limits)
    (subst (λ k. Stands limit fed k place' stop) (sym markers) (subst (λ p. Stands limit fed m p stop) (sym places) stands))

-- over sync entries
pub goes_syncs : (old new : Pieces) (marker : List ℕ) → fed_marker old ≡ Some marker → fed_marker new ≡ fed_marker old → fed_limit new ≡ fed_limit old
    → IsBehindSyncs marker old.bytes.items old.used new.used → fed_rest new ≡ drop new.used old.bytes.items
    → fed_place new ≡ fed_place old + (new.used - old.used) → GoesOn old new
goes_syncs old new marker before same limits b rests places =
    let between = b.between in
    let size = between.size in
    let onward = b.way.onward in
    let further : fed_place new ≡ fed_place old + length between.syncs = omega (arith, places) in
    let split : fed_rest old ≡ between.syncs ++ fed_rest new = between.split ∙ ap (λ x. between.syncs ++ x) (sym rests) in
    record {
      limit = limits;
      onward = omega (arith, places);
      fed = λ fed h. fed_by_entries old new marker between.syncs fed before (same ∙ before) split further between.form h;
      records = λ fed h. records_by_entries old new marker between.syncs fed before (same ∙ before) split further between.form h
          ∙ ap (λ x. records_of (take (fed_place old) fed) ++ x) (between.no_records (fed_place old)) ∙ append-nil (records_of (take (fed_place old) fed));
      stays = λ fed stop h none stands.
          let other = not_sync (fed_limit old) fed marker (fed_place old) stop none
          (subst (λ k. Stands (fed_limit old) fed k (fed_place old) stop) before stands) in
          let still : new.used ≡ old.used = b.way.none (λ sync. other (ap (entry_at marker) h.rest ∙ sync)) in
          (same, omega (arith, places));
    }

-- no bytes have no records
pub records_of-nil : records_of [] ≡ []
unfolding records_of read_header read_fields read_front
records_of-nil = refl

-- before the header's end all bytes are left
all_left : (p : Pieces) (fed : List ℕ) → fed_marker p ≡ None → IsFed p fed → (fed_place p ≡ 0) × (fed ≡ fed_rest p)
all_left p fed none h =
    let place : fed_place p ≡ 0 = subst (λ m. IsFedSo m fed (fed_place p)) none h.so in
    (place, ap (λ n. drop n fed) (sym place) ∙ h.rest)

-- over the header
no_header_answer : (limit : ℕ) (fed : List ℕ) (place : ℕ) (head : HeaderRef) (stop : Fed) → read_header fed ≡ Ok head → GivesNone stop → Stands limit fed None place stop → ⊥
no_header_answer limit fed place head (answers.Entry e) read none stands = none
no_header_answer limit fed place head answers.More read none stands = cc
no_header_answer limit fed place head (answers.Header fault) read none (refused, other) = cc
no_header_answer limit fed place head (answers.Damaged at why) read none stands = stands
no_header_answer limit fed place head (answers.Long at need) read none stands = stands

pub goes_header : (old new : Pieces) (head : HeaderRef) → fed_marker old ≡ None → fed_marker new ≡ Some head.marker → fed_limit new ≡ fed_limit old
    → read_header (fed_rest old) ≡ Ok head → fed_rest new ≡ drop head.end (fed_rest old) → fed_place new ≡ fed_place old + head.end → GoesOn old new
goes_header old new head none after limits read rests places = record {
  limit = limits;
  onward = omega (arith, places);
  fed = λ fed h. let all = all_left old fed none h in
      let there : read_header fed ≡ Ok head = ap read_header all.1 ∙ read in
      let so = read_so_header fed head there in
      let end : fed_place new ≡ head.end = omega (arith, places, all.0) in
      record {
        within = subst (λ n. n ≤ length fed) (sym end) so.within;
        rest = ap₂ drop end all.1 ∙ sym rests;
        so = subst (λ m. IsFedSo m fed (fed_place new)) (sym after) (subst (IsReadSo head.marker fed) (sym end) so);
      };
  records = λ fed h. let all = all_left old fed none h in
      let there : read_header fed ≡ Ok head = ap read_header all.1 ∙ read in
      let found = read_header-sound fed head there in
      let end : fed_place new ≡ head.end = omega (arith, places, all.0) in
      ap (λ n. records_of (take n fed)) end
      ∙ ap records_of (sym (append-nil (take head.end fed))) ∙ records_of-behind head.marker (take head.end fed) [] found.1
      ∙ sym (ap (λ n. records_of (take n fed)) all.0 ∙ records_of-nil);
  stays = λ fed stop h gives stands. let all = all_left old fed none h in
      absurd (no_header_answer (fed_limit old) fed (fed_place old) head stop (ap read_header all.1 ∙ read) gives
      (subst (λ k. Stands (fed_limit old) fed k (fed_place old) stop) none stands));
}

-- going on, and then a step
pub stepped_after : (a b c : Pieces) (s : Step) → GoesOn a b → Stepped b c s → Stepped a c s
stepped_after a b c s goes stepped answer shown =
    let x = stepped answer shown in
    let onward = goes.onward in
    let further = x.onward in
    record {
      limit = x.limit ∙ goes.limit;
      onward = omega arith;
      by_fed = λ fed h. let y = x.by_fed fed (goes.fed fed h) in
          record {
            state = y.state;
            records = y.records ∙ ap (λ r. r ++ record_fed answer) (goes.records fed h);
            stands = y.stands;
            stays = λ stop none stands. let same = goes.stays fed stop h none stands in
                let then = y.stays stop none (stands_same (fed_limit a) (fed_limit b) (fed_place a) (fed_place b) fed (fed_marker a) (fed_marker b) stop
                goes.limit same.0 same.1 stands) in
                (then.0, then.1 ∙ same.1);
          };
    }

-- ---- what stands at the place

module _ (p : Pieces) (marker : List ℕ) (before : fed_marker p ≡ Some marker) (fed : List ℕ) (h : IsFed p fed) where
  -- it stands there in what was fed
  there : (e : entries.Entry) → entry_at marker (fed_rest p) ≡ e → entry_at marker (drop (fed_place p) fed) ≡ e
  there e first = ap (entry_at marker) h.rest ∙ first

  -- the condition of an answer, with the marker
  stands_with : (answer : Fed) → Stands (fed_limit p) fed (Some marker) (fed_place p) answer → Stands (fed_limit p) fed (fed_marker p) (fed_place p) answer
  stands_with answer stands = subst (λ k. Stands (fed_limit p) fed k (fed_place p) answer) (sym before) stands

  stands_without : (answer : Fed) → Stands (fed_limit p) fed (fed_marker p) (fed_place p) answer → Stands (fed_limit p) fed (Some marker) (fed_place p) answer
  stands_without answer stands = subst (λ k. Stands (fed_limit p) fed k (fed_place p) answer) before stands

  -- no record is given
  unchanged : (answer : Fed) → record_fed answer ≡ [] → Stands (fed_limit p) fed (Some marker) (fed_place p) answer
      → ((stop : Fed) → GivesNone stop → Stands (fed_limit p) fed (Some marker) (fed_place p) stop → answer ≡ stop) → Answers p p fed answer
  unchanged answer nothing stands only = record {
    state = h;
    records = sym (ap (λ r. records_of (take (fed_place p) fed) ++ r) nothing ∙ append-nil (records_of (take (fed_place p) fed)));
    stands = stands_with answer stands;
    stays = λ stop none stood. (only stop none (stands_without stop stood), refl);
  }

-- more is wanted
only_more : (limit : ℕ) (fed marker : List ℕ) (place : ℕ) → (entry_at marker (drop place fed) ≡ NoEntry) ⊎ (entry_at marker (drop place fed) ≡ entries.Damaged Torn)
    → NotLong limit fed place → (stop : Fed) → GivesNone stop → Stands limit fed (Some marker) place stop → answers.More ≡ stop
only_more limit fed marker place here short (answers.Entry e) none stands = absurd none
only_more limit fed marker place here short answers.More none stands = refl
only_more limit fed marker place here short (answers.Header fault) none stands = absurd stands
only_more limit fed marker place (inl nothing) short (answers.Damaged at why) none (same, damage, mended, fits) = cc
only_more limit fed marker place (inr torn) short (answers.Damaged at why) none (same, damage, mended, fits) =
    let reason : why ≡ Torn = cc in absurd (mended reason)
only_more limit fed marker place here short (answers.Long at need) none (same, long) = absurd (short need long)

unfinished : (limit : ℕ) (fed marker : List ℕ) (place : ℕ) → place ≤ length fed → 64 ≤ limit
    → (entry_at marker (drop place fed) ≡ NoEntry) ⊎ (entry_at marker (drop place fed) ≡ entries.Damaged Torn)
    → NotLong limit fed place → Stands limit fed (Some marker) place answers.More
unfinished limit fed marker place within bounded (inl nothing) short =
    let size = ap length (nothing_found marker (drop place fed) nothing) in
    let last : place ≡ length fed = omega (arith, length-drop place fed) in
    (inl last, short, omega arith)
unfinished limit fed marker place within bounded (inr torn) short =
    let size = length-drop place fed in
    let few = torn_short marker (drop place fed) limit torn (omega arith)
    (λ four small. ⊎_elim (λ over. absurd (short (spelled_at place 4 fed)
    (record { there = omega arith; is = refl; over = over; small = small }))) (λ fits. fits)
    (cases_lt limit (spelled_at place 4 fed))) in
    (inr torn, short, omega arith)

pub stepped_more : (p : Pieces) (marker : List ℕ) → fed_marker p ≡ Some marker → p.used ≤ length p.bytes.items → 64 ≤ fed_limit p
    → (entry_at marker (fed_rest p) ≡ NoEntry) ⊎ (entry_at marker (fed_rest p) ≡ entries.Damaged Torn)
    → NotLong (fed_limit p) p.bytes.items p.used → Stepped p p step.More
stepped_more p marker before used bounded here short (answers.Entry e) shown = absurd shown
stepped_more p marker before used bounded here short answers.More shown = record {
  limit = refl;
  onward = omega arith;
  by_fed = λ fed h.
      let place : ℕ = fed_place p in
      let there_short : NotLong (fed_limit p) fed place = not_long_moves (fed_limit p) p.bytes.items fed p.used place (sym h.rest) used short in
      let there_here : (entry_at marker (drop place fed) ≡ NoEntry) ⊎ (entry_at marker (drop place fed) ≡ entries.Damaged Torn) =
      ⊎_elim (λ nothing. inl (there p marker before fed h NoEntry nothing)) (λ torn. inr (there p marker before fed h (entries.Damaged Torn) torn)) here in
      unchanged p marker before fed h answers.More refl (unfinished (fed_limit p) fed marker place h.within bounded there_here there_short)
      (only_more (fed_limit p) fed marker place there_here there_short);
}
stepped_more p marker before used bounded here short (answers.Header fault) shown = absurd shown
stepped_more p marker before used bounded here short (answers.Damaged at why) shown = absurd shown
stepped_more p marker before used bounded here short (answers.Long at need) shown = absurd shown

-- damage stands there
only_damaged : (limit : ℕ) (fed marker : List ℕ) (place : ℕ) (why : Why) → entry_at marker (drop place fed) ≡ entries.Damaged why → why ≢ Torn
    → NotLong limit fed place → (stop : Fed) → GivesNone stop → Stands limit fed (Some marker) place stop → answers.Damaged place why ≡ stop
only_damaged limit fed marker place why here mended short (answers.Entry e) none stands = absurd none
only_damaged limit fed marker place why here mended short answers.More none (inl last, fits, few) = let nothing = nothing_at_end marker fed place last in cc
only_damaged limit fed marker place why here mended short answers.More none (inr torn, fits, few) = let reason : why ≡ Torn = cc in absurd (mended reason)
only_damaged limit fed marker place why here mended short (answers.Header fault) none stands = absurd stands
only_damaged limit fed marker place why here mended short (answers.Damaged at other) none (same, damage, kept, fits) =
    let reason : why ≡ other = cc in ap₂ answers.Damaged (sym same) reason
only_damaged limit fed marker place why here mended short (answers.Long at need) none (same, long) = absurd (short need long)

pub stepped_damaged : (p : Pieces) (marker : List ℕ) (why : Why) → fed_marker p ≡ Some marker → p.used ≤ length p.bytes.items
    → entry_at marker (fed_rest p) ≡ entries.Damaged why → why ≢ Torn → NotLong (fed_limit p) p.bytes.items p.used → Stepped p p (step.Damaged why)
stepped_damaged p marker why before used here mended short (answers.Entry e) shown = absurd shown
stepped_damaged p marker why before used here mended short answers.More shown = absurd shown
stepped_damaged p marker why before used here mended short (answers.Header fault) shown = absurd shown
stepped_damaged p marker why before used here mended short (answers.Damaged at other) (at_place, same) = record {
  limit = refl;
  onward = omega arith;
  by_fed = λ fed h.
      let place : ℕ = fed_place p in
      let there_short : NotLong (fed_limit p) fed place = not_long_moves (fed_limit p) p.bytes.items fed p.used place (sym h.rest) used short in
      let there_here : entry_at marker (drop place fed) ≡ entries.Damaged why = there p marker before fed h (entries.Damaged why) here in
      let is : answers.Damaged at other ≡ answers.Damaged place why = ap₂ answers.Damaged at_place same in
      unchanged p marker before fed h (answers.Damaged at other) refl
      (at_place, there_here ∙ ap entries.Damaged (sym same), (λ torn. mended (sym same ∙ torn)), there_short)
      (λ stop none stands. is ∙ only_damaged (fed_limit p) fed marker place why there_here mended there_short stop none stands);
}
stepped_damaged p marker why before used here mended short (answers.Long at need) shown = absurd shown

-- a record that is too long stands there
only_long : (limit : ℕ) (fed marker : List ℕ) (place need : ℕ) → IsLong limit fed place need
    → (stop : Fed) → GivesNone stop → Stands limit fed (Some marker) place stop → answers.Long place need ≡ stop
only_long limit fed marker place need long (answers.Entry e) none stands = absurd none
only_long limit fed marker place need long answers.More none (here, fits, few) = absurd (fits need long)
only_long limit fed marker place need long (answers.Header fault) none stands = absurd stands
only_long limit fed marker place need long (answers.Damaged at why) none (same, damage, mended, fits) = absurd (fits need long)
only_long limit fed marker place need long (answers.Long at other) none (same, long') = ap₂ answers.Long (sym same) (long.is ∙ sym long'.is)

pub stepped_long : (p : Pieces) (marker : List ℕ) (need : ℕ) → fed_marker p ≡ Some marker → p.used ≤ length p.bytes.items
    → IsLong (fed_limit p) p.bytes.items p.used need → Stepped p p (step.Long need)
stepped_long p marker need before used long (answers.Entry e) shown = absurd shown
stepped_long p marker need before used long answers.More shown = absurd shown
stepped_long p marker need before used long (answers.Header fault) shown = absurd shown
stepped_long p marker need before used long (answers.Damaged at why) shown = absurd shown
stepped_long p marker need before used long (answers.Long at other) (at_place, same) = record {
  limit = refl;
  onward = omega arith;
  by_fed = λ fed h.
      let place : ℕ = fed_place p in
      let there_long : IsLong (fed_limit p) fed place need = long_moves (fed_limit p) p.bytes.items fed p.used place need (sym h.rest) h.within long in
      let is : answers.Long at other ≡ answers.Long place need = ap₂ answers.Long at_place same in
      unchanged p marker before fed h (answers.Long at other) refl
      (at_place, subst (IsLong (fed_limit p) fed place) (sym same) there_long)
      (λ stop none stands. is ∙ only_long (fed_limit p) fed marker place need there_long stop none stands);
}

-- a record that isn't too long is within the limit
record_fits : (limit : ℕ) (bytes key value rest : List ℕ) (at : ℕ) → drop at bytes ≡ record_entry key value ++ rest
    → 8 + length key + length value < 2 ^ 31 → NotLong limit bytes at → 8 + length key + length value ≤ limit
record_fits limit bytes key value rest at found small short =
    let size = 8 + length key + length value in
    let sizes : length (drop at bytes) ≡ length (record_entry key value ++ rest) = ap length found in
    let is : spelled_at at 4 bytes ≡ size = ap (λ x. spelled (take 4 x)) found ∙ spelled-be32 size (omega (arith, small)) in
    ⊎_elim (λ over. absurd (short size (record {
      there = omega (arith, sizes, length-drop at bytes);
      is = sym is;
      over = over;
      small = small;
    }))) (λ fits. fits) (cases_lt limit size)

-- a record stands there
no_other : (limit : ℕ) (fed marker : List ℕ) (place : ℕ) (key value : List ℕ) → entry_at marker (drop place fed) ≡ RecordEntry key value
    → NotLong limit fed place → (stop : Fed) → GivesNone stop → Stands limit fed (Some marker) place stop → ⊥
no_other limit fed marker place key value here short (answers.Entry e) none stands = none
no_other limit fed marker place key value here short answers.More none (inl last, fits, few) = let nothing = nothing_at_end marker fed place last in cc
no_other limit fed marker place key value here short answers.More none (inr torn, fits, few) = cc
no_other limit fed marker place key value here short (answers.Header fault) none stands = stands
no_other limit fed marker place key value here short (answers.Damaged at why) none (same, damage, mended, fits) = cc
no_other limit fed marker place key value here short (answers.Long at need) none (same, long) = short need long

placed_same : (e : EntryRef) (at : ℕ) (key value : List ℕ) → e.at ≡ at → e.end ≡ at + size_of_record key value → e.key.now ≡ key → e.value.now ≡ value
    → placed_of e ≡ placed at key value
placed_same e at key value begin end key_is value_is =
    ap₂ (λ a b. record { at = a; end = b; key = e.key.now; value = e.value.now }) begin end
    ∙ ap₂ (λ k v. record { at = at; end = at + size_of_record key value; key = k; value = v }) key_is value_is

pub stepped_record : (old new : Pieces) (marker key value : List ℕ) → fed_marker old ≡ Some marker → fed_marker new ≡ Some marker → fed_limit new ≡ fed_limit old
    → new.bytes.items ≡ old.bytes.items → new.used ≡ old.used + size_of_record key value → fed_place new ≡ fed_place old + size_of_record key value
    → old.used ≤ length old.bytes.items → entry_at marker (fed_rest old) ≡ RecordEntry key value
    → 8 + length key + length value < 2 ^ 31 → fed_rest old ≡ record_entry key value ++ drop (old.used + size_of_record key value) old.bytes.items
    → NotLong (fed_limit old) old.bytes.items old.used → Stepped old new (step.Entry old.used (length key) (length value))
stepped_record old new marker key value before after limits items further places used here small found short answers.More shown = absurd shown
stepped_record old new marker key value before after limits items further places used here small found short (answers.Header fault) shown = absurd shown
stepped_record old new marker key value before after limits items further places used here small found short (answers.Damaged at why) shown = absurd shown
stepped_record old new marker key value before after limits items further places used here small found short (answers.Long at need) shown = absurd shown
stepped_record old new marker key value before after limits items further places used here small found short (answers.Entry e) (begin, end, key_is, value_is) = record {
  limit = limits;
  onward = omega (arith, places);
  by_fed = λ fed h.
      let there_here : entry_at marker (drop (fed_place old) fed) ≡ RecordEntry key value = there old marker before fed h (RecordEntry key value) here in
      let there_short : NotLong (fed_limit old) fed (fed_place old) =
      not_long_moves (fed_limit old) old.bytes.items fed old.used (fed_place old) (sym h.rest) used short in
      record {
        state = fed_by_entries old new marker piece fed before after rests place_further form h;
        records = records_by_entries old new marker piece fed before after rests place_further form h
            ∙ ap (λ r. records_of (take (fed_place old) fed) ++ r)
            (records_at-alone marker (fed_place old) key value (so_wide (fed_place old) fed h) small ∙ ap (λ r. r ∷ []) (sym given));
        stands = stands_end fed;
        stays = λ stop none stands. absurd (no_other (fed_limit old) fed marker (fed_place old) key value there_here there_short stop none
            (stands_without old marker before fed h stop stands));
      };
}
  where
    piece : List ℕ
    piece = record_entry key value

    form : Entries marker piece
    form = Entries-record marker key value small

    rests : fed_rest old ≡ piece ++ fed_rest new
    rests = found ∙ ap (λ r. piece ++ r) (ap₂ drop (sym further) (sym items))

    place_further : fed_place new ≡ fed_place old + length piece
    place_further = places ∙ ap (λ n. fed_place old + n) (sym (length-record_entry key value))

    so_wide : (place : ℕ) (fed : List ℕ) → IsFed old fed → length marker ≡ 16
    so_wide place fed h =
        let so : IsReadSo marker fed (fed_place old) = subst (λ m. IsFedSo m fed (fed_place old)) before h.so in
        ap length (sym so.marker_is) ∙ so.file.header.marker_size

    key_there : take (length key) (drop (old.used + 12) new.bytes.items) ≡ key
    key_there = ap (λ x. take (length key) (drop (old.used + 12) x)) items ∙ ap (take (length key)) (sym (drop-drop 12 old.used old.bytes.items))
        ∙ ap (λ x. take (length key) (drop 12 x)) found ∙ key_in_record key value (drop (old.used + size_of_record key value) old.bytes.items)

    value_there : take (length value) (drop (old.used + 16 + length key) new.bytes.items) ≡ value
    value_there = let sum : old.used + 16 + length key ≡ old.used + (16 + length key) = omega arith in
        ap₂ (λ n x. take (length value) (drop n x)) sum items ∙ ap (take (length value)) (sym (drop-drop (16 + length key) old.used old.bytes.items))
        ∙ ap (λ x. take (length value) (drop (16 + length key) x)) found ∙ value_in_record key value (drop (old.used + size_of_record key value) old.bytes.items)

    given : placed_of e ≡ placed (fed_place old) key value
    given = placed_same e (fed_place old) key value (omega (arith, begin, places)) (end ∙ places) (key_is ∙ key_there) (value_is ∙ value_there)

    stands_end : (fed : List ℕ) → Stands (fed_limit new) fed (fed_marker new) (fed_place new) (answers.Entry e)
    stands_end fed =
        let fits = record_fits (fed_limit old) old.bytes.items key value _ old.used found small short in
        let key_size : length e.key.now ≡ length key = ap length (key_is ∙ key_there) in
        let value_size : length e.value.now ≡ length value = ap length (value_is ∙ value_there) in
        (end, omega (arith, fits, key_size, value_size, limits))

-- ---- the header is refused, or not whole

only_short : (limit : ℕ) (fed : List ℕ) (place : ℕ) → read_header fed ≡ Err Short → (stop : Fed) → GivesNone stop → Stands limit fed None place stop → answers.More ≡ stop
only_short limit fed place read (answers.Entry e) none stands = absurd none
only_short limit fed place read answers.More none stands = refl
only_short limit fed place read (answers.Header fault) none (refused, other) = let same : fault ≡ Short = cc in absurd (other same)
only_short limit fed place read (answers.Damaged at why) none stands = absurd stands
only_short limit fed place read (answers.Long at need) none stands = absurd stands

only_header : (limit : ℕ) (fed : List ℕ) (place : ℕ) (fault : HeaderFault) → read_header fed ≡ Err fault → fault ≢ Short → (stop : Fed) → GivesNone stop
    → Stands limit fed None place stop → answers.Header fault ≡ stop
only_header limit fed place fault read long (answers.Entry e) none stands = absurd none
only_header limit fed place fault read long answers.More none stands = let same : fault ≡ Short = cc in absurd (long same)
only_header limit fed place fault read long (answers.Header other) none (refused, far) = let same : fault ≡ other = cc in ap answers.Header same
only_header limit fed place fault read long (answers.Damaged at why) none stands = absurd stands
only_header limit fed place fault read long (answers.Long at need) none stands = absurd stands

-- nothing is given before the header's end
module _ (p : Pieces) (before : fed_marker p ≡ None) (fed : List ℕ) (h : IsFed p fed) where
  unopened : (answer : Fed) → record_fed answer ≡ [] → Stands (fed_limit p) fed None (fed_place p) answer
      → ((stop : Fed) → GivesNone stop → Stands (fed_limit p) fed None (fed_place p) stop → answer ≡ stop) → Answers p p fed answer
  unopened answer nothing stands only = record {
    state = h;
    records = sym (ap (λ r. records_of (take (fed_place p) fed) ++ r) nothing ∙ append-nil (records_of (take (fed_place p) fed)));
    stands = subst (λ k. Stands (fed_limit p) fed k (fed_place p) answer) (sym before) stands;
    stays = λ stop none stood. (only stop none (subst (λ k. Stands (fed_limit p) fed k (fed_place p) stop) before stood), refl);
  }

pub stepped_short : (p : Pieces) → fed_marker p ≡ None → ((fed : List ℕ) → IsFed p fed → read_header fed ≡ Err Short) → Stepped p p step.More
stepped_short p before read (answers.Entry e) shown = absurd shown
stepped_short p before read answers.More shown = record {
  limit = refl;
  onward = omega arith;
  by_fed = λ fed h. unopened p before fed h answers.More refl (read fed h) (only_short (fed_limit p) fed (fed_place p) (read fed h));
}
stepped_short p before read (answers.Header fault) shown = absurd shown
stepped_short p before read (answers.Damaged at why) shown = absurd shown
stepped_short p before read (answers.Long at need) shown = absurd shown

pub stepped_header : (p : Pieces) (fault : HeaderFault) → fed_marker p ≡ None → ((fed : List ℕ) → IsFed p fed → read_header fed ≡ Err fault) → fault ≢ Short
    → Stepped p p (step.Header fault)
stepped_header p fault before read long (answers.Entry e) shown = absurd shown
stepped_header p fault before read long answers.More shown = absurd shown
stepped_header p fault before read long (answers.Header other) same = record {
  limit = refl;
  onward = omega arith;
  by_fed = λ fed h. unopened p before fed h (answers.Header other) refl (read fed h ∙ ap (λ f. Err f) (sym same), λ short. long (sym same ∙ short))
      (λ stop none stands. ap answers.Header same ∙ only_header (fed_limit p) fed (fed_place p) fault (read fed h) long stop none stands);
}
stepped_header p fault before read long (answers.Damaged at why) shown = absurd shown
stepped_header p fault before read long (answers.Long at need) shown = absurd shown
