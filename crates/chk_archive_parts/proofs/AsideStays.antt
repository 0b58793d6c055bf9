-- Where what is kept is what was set aside, the records that are kept are just those of the first file.
use Rattle.std.proofs.Common.{◌≡◌, ◌⊎◌, inl, inr, ℕ, zero, suc, ◌+◌, ◌-◌, ◌≤◌, ◌<◌, Bool, true, false, cond, ◌&&◌, List, [], ◌∷◌, ◌++◌, length, take, drop, Option, Some, None, ap, sym, subst, ◌∙◌, refl, arith, true≢false, length-append, length-drop}
use Rattle.std.specs.Prelude.{Contains, filter, filter_map, option_map, nat_eq, nat_lt, bytes_eq, slice_index_or}
use Rattle.std.specs.List.{AllZip, cons_option}
use Rattle.std.proofs.lemmas.Bool.{and_parts, and_from, cases_lt, cases_order, eq-eqb, lt-ltb}
use Rattle.std.proofs.lemmas.List.{drop-drop, get_or-drop, get_or-take, get_or-map, length-map, length-take-le, take-append-drop}
use Rattle.std.proofs.lemmas.List.Elements.{filter-append}
use Rattle.chk_chunk.specs.Keys.{Stream, Chunk, chunk_begin, chunk_end, chunk_limit, same_stream, same_data}
use Rattle.chk_seqfile.specs.Entries.{Placed, records_of}
use Rattle.chk_world.specs.ArchiveRuns.{comes_before}
use Rattle.chk_world.specs.Books.{chunk_of}
use Rattle.chk_world.specs.Sight.{Sight}
use Rattle.chk_world.specs.TrueBooks.{HasBytes}
use Rattle.chk_world.proofs.Each.{Each, each_as, filter_each}
use Rattle.chk_world.proofs.Ends.{bytes_same, bytes_self}
use Rattle.chk_world.proofs.NameTests.{streams_same, nat_same}
use Rattle.chk_record_index.specs.Heads.{Head, head_of, head_at, heads_in}
use Rattle.chk_record_index.specs.Order.{no_head, head_before, put_by, sort_by, in_head_order}
use Rattle.chk_record_index.specs.Pieces.{bytes_in}
use Rattle.chk_record_index.proofs.Sorting.{each_put}
use Rattle.chk_archive_plan.specs.HeadsOf.{IsHeadOf, AreHeads}
use Rattle.chk_archive_plan.specs.Passes.{between, head_in, IsSpan, AreSpans}
use Rattle.chk_archive_plan.specs.Plan.{reached_from}
use Rattle.chk_archive_plan.specs.declared.spans.Known.{Known}
use Rattle.chk_archive_plan.specs.declared.spans.Span.{Span}
use Rattle.chk_archive_plan.proofs.Bridges.{each_index}
use Rattle.chk_archive_plan.proofs.ChunkOrder.{Ordered}
use Rattle.chk_archive_plan.proofs.Parts.{stream_self}
use Rattle.chk_archive_plan.proofs.SpanBlocks.{differs, span_past}
use Rattle.chk_record_reader.specs.ReadBack.{chunk_at}
use Rattle.chk_archive_parts.specs.declared.cuts.Cut.{Cut}
use Rattle.chk_archive_parts.specs.Cuts.{no_chunk, cut_of, cut_chunk, cut_chunks}
use Rattle.chk_archive_parts.specs.Gathering.{held, heads_of}
use Rattle.chk_archive_parts.specs.Kept.{is_first, rise_from, are_old_aside, IsFirst}
use Rattle.chk_archive_parts.specs.Records.{file_at, IsRecordOf, AreRecords}
use Rattle.chk_archive_parts.proofs.CutLists.{zip_at, no_cut}
use Rattle.chk_archive_parts.proofs.FoundRecords.{is_head}
use Rattle.chk_archive_parts.proofs.KeptOnce.{same_behind, Differ, differ_at, same_length}
use Rattle.chk_archive_plan.proofs.Blocks.{filter_all}
use Rattle.chk_world.proofs.BooksTrue.{each_append as each_join}
use Rattle.chk_archive_parts.proofs.Rising.{RisesFrom, IsIn, is_in, heads_past}
use Rattle.chk_archive_plan.proofs.HeadOrder.{compares}

-- ---- heads in order: of those that are alike the ones of the first file lead

abbrev IsLed : Head → Head → Type 0
IsLed h k = head_before h k ≡ false → head_before k h ≡ false → k.file ≡ 0 → h.file ≡ 0

abbrev AreLed : List Head → Type 0
AreLed [] = Unit {0}
AreLed (h ∷ hs) = Each (IsLed h) hs × AreLed hs

put_led : (h : Head) (hs : List Head) → Each (IsLed h) hs → AreLed hs → AreLed (put_by head_before h hs)
put_led h [] all led = (tt, tt)
put_led h (k ∷ hs) all led = go (head_before k h) refl (put_led h hs all.1 led.1)
  where
    go : (b : Bool) → head_before k h ≡ b → AreLed (put_by head_before h hs)
        → AreLed (elim b as (λ t. List Head) [ true ↦ k ∷ put_by head_before h hs | false ↦ h ∷ k ∷ hs ])
    go true e rest = (each_put head_before (IsLed k) h hs (λ n m. absurd (true≢false (sym e ∙ n))) led.0, rest)
    go false e rest = (all, led)

each_sort : (P : Head → Type 0) (hs : List Head) → Each P hs → Each P (sort_by head_before hs)
each_sort P [] all = tt
each_sort P (h ∷ hs) all = each_put head_before P h (sort_by head_before hs) all.0 (each_sort P hs all.1)

sort_led : (hs : List Head) → AreLed hs → AreLed (sort_by head_before hs)
sort_led [] led = tt
sort_led (h ∷ hs) led = put_led h (sort_by head_before hs) (each_sort (IsLed h) hs led.0) (sort_led hs led.1)

led_at : (hs : List Head) → AreLed hs → (i j : ℕ) → i < j → j < length hs → IsLed (head_in hs i) (head_in hs j)
led_at [] led i j low high = absurd (let z : ⊥ = omega (arith, high) in z)
led_at (h ∷ hs) led i zero low high = absurd (let z : ⊥ = omega (arith, low) in z)
led_at (h ∷ hs) led zero (suc j) low high = each_index (IsLed h) hs led.0 j (omega (arith, high)) no_head
led_at (h ∷ hs) led (suc i) (suc j) low high = led_at hs led.1 i j (omega (arith, low)) (omega (arith, high))

none_led : (ks : List Head) → Each (λ k. k.file ≡ 0 → ⊥) ks → AreLed ks
none_led [] later = tt
none_led (k ∷ ks) later =
    (each_as (λ x. x.file ≡ 0 → ⊥) (IsLed k) ks (λ x other n m e. absurd (other e)) later.1, none_led ks later.1)

each_any : {X : Type 0} (P : X → Type 0) (xs : List X) → ((x : X) → P x) → Each P xs
each_any P [] f = tt
each_any P (x ∷ xs) f = (f x, each_any P xs f)

front_led : (hs ks : List Head) → Each (λ h. h.file ≡ 0) hs → Each (λ k. k.file ≡ 0 → ⊥) ks → AreLed (hs ++ ks)
front_led [] ks first later = none_led ks later
front_led (h ∷ hs) ks first later = (each_any (IsLed h) (hs ++ ks) (λ k n m e. first.0), front_led hs ks first.1 later)

file_is : (n : ℕ) (rs : List Placed) → Each (λ h. h.file ≡ n) (filter_map (head_at chunk_limit n) rs)
file_is n [] = tt
file_is n (r ∷ rs) = go (chunk_of chunk_limit r) (file_is n rs)
  where
    go : (o : Option Chunk) → Each (λ h. h.file ≡ n) (filter_map (head_at chunk_limit n) rs)
        → Each (λ h. h.file ≡ n) (cons_option (option_map (head_of n r.at) o) (filter_map (head_at chunk_limit n) rs))
    go None rest = rest
    go (Some c) rest = (refl, rest)

later_files : (v : Sight) (n : ℕ) → 0 < n → (ws : List (List ℕ)) → Each (λ h. h.file ≡ 0 → ⊥) (heads_of v n ws)
later_files v n low [] = tt
later_files v n low (w ∷ ws) =
    each_join (λ (h : Head). h.file ≡ 0 → ⊥) (heads_in chunk_limit n (bytes_in (held v w))) (heads_of v (n + 1) ws)
    (each_as (λ (h : Head). h.file ≡ n) (λ (h : Head). h.file ≡ 0 → ⊥) (heads_in chunk_limit n (bytes_in (held v w)))
    (λ h is e. let z : ⊥ = omega (arith, low, is, e) in z) (file_is n (records_of (bytes_in (held v w)))))
    (later_files v (n + 1) (omega arith) ws)

-- ---- what is there

put_has : (h x : Head) (hs : List Head) → (x ≡ h) ⊎ IsIn hs x → IsIn (put_by head_before h hs) x
put_has h x [] one = one
put_has h x (k ∷ hs) one = go (head_before k h) (put_has h x hs)
  where
    go : (b : Bool) → ((x ≡ h) ⊎ IsIn hs x → IsIn (put_by head_before h hs) x)
        → IsIn (elim b as (λ t. List Head) [ true ↦ k ∷ put_by head_before h hs | false ↦ h ∷ k ∷ hs ]) x
    go true rest = elim one [
      | inl is ↦ inr (rest (inl is))
      | inr there ↦ elim there [ inl is ↦ inl is | inr more ↦ inr (rest (inr more)) ]
    ]
    go false rest = one

sort_has : (hs : List Head) (x : Head) → IsIn hs x → IsIn (sort_by head_before hs) x
sort_has [] x one = one
sort_has (h ∷ hs) x (inl is) = put_has h x (sort_by head_before hs) (inl is)
sort_has (h ∷ hs) x (inr one) = put_has h x (sort_by head_before hs) (inr (sort_has hs x one))

in_front : (hs ks : List Head) (x : Head) → IsIn hs x → IsIn (hs ++ ks) x
in_front [] ks x one = absurd one
in_front (h ∷ hs) ks x (inl is) = inl is
in_front (h ∷ hs) ks x (inr one) = inr (in_front hs ks x one)

place_of : (hs : List Head) (x : Head) → IsIn hs x → (f : ℕ) × (f < length hs) × (head_in hs f ≡ x)
place_of [] x one = absurd one
place_of (k ∷ ks) x (inl is) = (0, omega arith, sym is)
place_of (k ∷ ks) x (inr one) = let p = place_of ks x one in let low = p.1 in (suc p.0, omega (arith, low), p.2)

nth_in : (hs : List Head) (i : ℕ) → i < length hs → IsIn hs (head_in hs i)
nth_in [] i low = absurd (let z : ⊥ = omega (arith, low) in z)
nth_in (h ∷ hs) zero low = inl refl
nth_in (h ∷ hs) (suc i) low = inr (nth_in hs i (omega (arith, low)))

same_turned : (c d : Chunk) → same_data c d ≡ true → same_data d c ≡ true
same_turned c d e =
    let a = and_parts (same_stream c.key.stream d.key.stream)
    (nat_eq c.key.seq d.key.seq && bytes_eq c.value d.value) e in
    let b = and_parts (nat_eq c.key.seq d.key.seq) (bytes_eq c.value d.value) a.1 in
    let seq = nat_same c.key.seq d.key.seq b.0 in
    and_from (same_stream d.key.stream c.key.stream) (nat_eq d.key.seq c.key.seq && bytes_eq d.value c.value)
    (subst (λ t. same_stream d.key.stream t ≡ true) (sym (streams_same c.key.stream d.key.stream a.0)) (stream_self d.key.stream))
    (and_from (nat_eq d.key.seq c.key.seq) (bytes_eq d.value c.value) (eq-eqb d.key.seq c.key.seq (sym seq))
    (subst (λ l. bytes_eq d.value l ≡ true) (sym (bytes_same c.value d.value b.1)) (bytes_self d.value)))

-- ---- a list of which just a back passes

filter_none : (p : Chunk → Bool) (xs : List Chunk) → filter p xs ≡ [] → Each (λ x. p x ≡ false) xs
filter_none p [] none = tt
filter_none p (x ∷ xs) none = go (p x) refl (filter_none p xs)
  where
    go : (b : Bool) → p x ≡ b → (filter p xs ≡ [] → Each (λ x. p x ≡ false) xs) → Each (λ x. p x ≡ false) (x ∷ xs)
    go true e rest =
        let size = ap length (sym (ap (λ b. cond b (x ∷ filter p xs) (filter p xs)) e) ∙ none) in
        absurd (let z : ⊥ = omega (arith, size) in z)
    go false e rest = (e, rest (sym (ap (λ b. cond b (x ∷ filter p xs) (filter p xs)) e) ∙ none))

no_more : (xs ys : List Chunk) → xs ++ ys ≡ ys → xs ≡ []
no_more [] ys e = refl
no_more (x ∷ xs) ys e =
    let size = ap length e in
    let both = length-append xs ys in
    absurd (let z : ⊥ = omega (arith, size, both) in z)

module _ (p : Chunk → Bool) (xs : List Chunk) (n : ℕ) (is : filter p xs ≡ drop n xs) where
  back_passes : Each (λ x. p x ≡ true) (drop n xs)
  back_passes = subst (Each (λ x. p x ≡ true)) is (filter_each p xs)

  front_fails : Each (λ x. p x ≡ false) (take n xs)
  front_fails =
      filter_none p (take n xs)
      (no_more (filter p (take n xs)) (drop n xs)
      (ap (λ l. filter p (take n xs) ++ l) (sym (filter_all p (drop n xs) back_passes))
      ∙ (sym (filter-append p (take n xs) (drop n xs)) ∙ (ap (filter p) (take-append-drop n xs) ∙ is))))

-- ---- in which span records that are alike stand

zip_heads : (v : Sight) (files : List (List ℕ)) (hs : List Head) (cs : List Chunk) → AllZip (IsRecordOf v files) hs cs
    → AreHeads hs cs
zip_heads v files [] [] zip = tt
zip_heads v files [] (c ∷ cs) zip = absurd zip
zip_heads v files (h ∷ hs) [] zip = absurd zip
zip_heads v files (h ∷ hs) (c ∷ cs) zip = (is_head v files h c zip.0, zip_heads v files hs cs zip.1)

module _ (known : List Known) (heads : List Head) (cs : List Chunk) (are : AreHeads heads cs) (o : Ordered cs)
    (bytes : Each HasBytes cs) (size : length heads ≡ length cs) where
  abbrev stream_in : ℕ → Stream
  stream_in k = (head_in heads k).key.stream

  begins_behind : (at : ℕ) (ss : List Span) → AreSpans known heads at ss (length heads) → (s : Span) (k : ℕ) → k < length ss
      → slice_index_or ss k s ≡ s → (at ≤ s.first) × IsSpan known heads s
  begins_behind at [] all s k low is = absurd (let z : ⊥ = omega (arith, low) in z)
  begins_behind at (t ∷ ss) all s zero low is =
      subst (λ x. (at ≤ x.first) × IsSpan known heads x) is (let e = all.0 in omega (arith, e), all.1)
  begins_behind at (t ∷ ss) all s (suc k) low is =
      let rest = begins_behind t.end ss all.2 s k (omega (arith, low)) is in
      let e = all.0 in
      let beyond = all.1.beyond in
      let far = rest.0 in
      (omega (arith, e, beyond, far), rest.1)

  -- none of the span's stream stands before it
  none_before : (at : ℕ) (ss : List Span) → AreSpans known heads at ss (length heads) → (s : Span) (k : ℕ) → k < length ss
      → slice_index_or ss k s ≡ s → (f : ℕ) → at ≤ f → f < s.first → same_stream (stream_in f) (stream_in s.first) ≡ true → ⊥
  none_before at [] all s k low is f from before same = omega (arith, low)
  none_before at (t ∷ ss) all s zero low is f from before same =
      let e = all.0 in
      let first = ap (λ (x : Span). x.first) is in
      omega (arith, e, first, from, before)
  none_before at (t ∷ ss) all s (suc k) low is f from before same =
      let rest = begins_behind t.end ss all.2 s k (omega (arith, low)) is in
      let far = rest.0 in
      let within = rest.1.within in
      let beyond = rest.1.beyond in
      let e = all.0 in
      elim (cases_lt f t.end) [
        | inl inside ↦
            let own = all.1.one f (omega (arith, e, from)) inside in
            let other = differs known heads cs are o t all.1 s.first far (omega (arith, within, beyond, size)) in
            true≢false (sym same ∙ subst (λ x. same_stream x (stream_in s.first) ≡ false)
            (streams_same (stream_in t.first) (stream_in f) own) other)
        | inr outside ↦ none_before t.end ss all.2 s k (omega (arith, low)) is f outside before same
      ]

  module _ (s : Span) (span : IsSpan known heads s) where
    abbrev Xs : List Chunk
    Xs = between s.first s.end cs

    abbrev ends_over : Chunk → Bool
    ends_over c = nat_lt (reached_from s.from Xs) (chunk_end c)

    few : s.end ≤ length cs
    few = let within = span.within in omega (arith, within, size)

    split_at : filter ends_over Xs ≡ drop (s.past - s.first) Xs
    split_at =
        let low = span.low in
        span_past known heads cs are o bytes s span
        ∙ sym (drop-drop (s.past - s.first) s.first (take s.end cs)
        ∙ ap (λ n. drop n (take s.end cs)) (let z : s.first + (s.past - s.first) ≡ s.past = omega (arith, low) in z))

    in_block : (i : ℕ) → s.first ≤ i → i < s.end → slice_index_or Xs (i - s.first) no_chunk ≡ slice_index_or cs i no_chunk
    in_block i low high =
        get_or-drop s.first (take s.end cs) (i - s.first) no_chunk
        ∙ (ap (λ n. slice_index_or (take s.end cs) n no_chunk) (let z : s.first + (i - s.first) ≡ i = omega (arith, low) in z)
        ∙ get_or-take s.end cs i no_chunk high)

    block_size : length Xs ≡ s.end - s.first
    block_size =
        let a = length-take-le s.end cs few in
        let b = length-drop s.first (take s.end cs) in
        omega (arith, a, b)

    before_gap : (i : ℕ) → s.first ≤ i → i < s.past → ends_over (slice_index_or cs i no_chunk) ≡ false
    before_gap i low under =
        let past = span.low in
        let high = span.high in
        let n = s.past - s.first in
        let all = block_size in
        let taken = length-take-le n Xs (omega (arith, past, high, all)) in
        ap ends_over (sym (get_or-take n Xs (i - s.first) no_chunk (omega (arith, low, under))
        ∙ in_block i low (omega (arith, under, high))))
        ∙ each_index (λ x. ends_over x ≡ false) (take n Xs) (front_fails ends_over Xs n split_at) (i - s.first)
        (omega (arith, taken, low, under)) no_chunk

    behind_gap : (i : ℕ) → s.past ≤ i → i < s.end → ends_over (slice_index_or cs i no_chunk) ≡ true
    behind_gap i low under =
        let past = span.low in
        let n = s.past - s.first in
        let all = block_size in
        let dropped = length-drop n Xs in
        ap ends_over (sym (get_or-drop n Xs (i - s.past) no_chunk
        ∙ (ap (λ k. slice_index_or Xs k no_chunk) (let z : n + (i - s.past) ≡ i - s.first = omega (arith, past, low) in z)
        ∙ in_block i (omega (arith, past, low)) under)))
        ∙ each_index (λ x. ends_over x ≡ true) (drop n Xs) (back_passes ends_over Xs n split_at) (i - s.past)
        (omega (arith, dropped, all, low, under, past)) no_chunk

  -- one that is equal to one past a gap, and stands before it, stands past the same gap
  stands_past : (ss : List Span) → AreSpans known heads 0 ss (length heads) → (s : Span) → Contains ss s → (f m : ℕ) → f < m
      → s.past ≤ m → m < s.end → same_data (slice_index_or cs m no_chunk) (slice_index_or cs f no_chunk) ≡ true → s.past ≤ f
  stands_past ss all s one f m before low high same =
      let span = (begins_behind 0 ss all s one.0 one.1 one.2).1 in
      let within = span.within in
      let past = span.low in
      let cm = slice_index_or cs m no_chunk in
      let cf = slice_index_or cs f no_chunk in
      let a = and_parts (same_stream cm.key.stream cf.key.stream)
      (nat_eq cm.key.seq cf.key.seq && bytes_eq cm.value cf.value) same in
      let b = and_parts (nat_eq cm.key.seq cf.key.seq) (bytes_eq cm.value cf.value) a.1 in
      let hm = heads_at heads cs are m (omega (arith, high, within, size)) in
      let hf = heads_at heads cs are f (omega (arith, before, high, within, size)) in
      let streams : stream_in f ≡ stream_in m =
      hf ∙ (sym (streams_same cm.key.stream cf.key.stream a.0) ∙ sym hm) in
      elim (cases_lt f s.past) [
        | inr is ↦ is
        | inl under ↦ elim (cases_lt f s.first) [
          | inl far ↦
              let own = span.one m (omega (arith, past, low)) high in
              absurd (none_before 0 ss all s one.0 one.1 one.2 f (omega arith) far
              (subst (λ x. same_stream x (stream_in s.first) ≡ true)
              (streams_same (stream_in s.first) (stream_in m) own ∙ sym streams) (stream_self (stream_in s.first))))
          | inr near ↦
              absurd (true≢false (sym (behind_gap s span m low high)
              ∙ (ap (nat_lt (reached_from s.from (Xs s span))) (nat_same cm.key.seq cf.key.seq b.0)
              ∙ before_gap s span f near under)))
        ]
      ]
    where
      heads_at : (hs : List Head) (ds : List Chunk) → AreHeads hs ds → (i : ℕ) → i < length ds
          → (head_in hs i).key.stream ≡ (slice_index_or ds i no_chunk).key.stream
      heads_at [] [] all i low = absurd (let z : ⊥ = omega (arith, low) in z)
      heads_at [] (d ∷ ds) all i low = absurd all
      heads_at (h ∷ hs) [] all i low = absurd all
      heads_at (h ∷ hs) (d ∷ ds) all zero low = ap (λ k. k.stream) all.0.key
      heads_at (h ∷ hs) (d ∷ ds) all (suc i) low = heads_at hs ds all.1 i (omega (arith, low))

-- ---- what is kept

module _ (v : Sight) (w : List ℕ) (ws : List (List ℕ)) (heads : List Head) (cs : List Chunk) (known : List Known)
    (spans : List Span) (cuts : List Cut) (heads_are : heads ≡ in_head_order (heads_of v 0 (w ∷ ws)))
    (records : AreRecords v (w ∷ ws) heads cs) (o : Ordered cs) (bytes : Each HasBytes cs)
    (are : AreSpans known heads 0 spans (length heads)) (first : Each (IsFirst cs spans) cuts)
    (differ : Differ (cut_chunks cs cuts))
    (count : length cuts ≡ length (heads_in chunk_limit 0 (bytes_in (held v w))))
    (same : (i : ℕ) → i < length cuts → same_data (cut_chunk cs (slice_index_or cuts i no_cut))
    (chunk_at (bytes_in (held v w)) (head_in (heads_in chunk_limit 0 (bytes_in (held v w))) i)) ≡ true) where
  abbrev All : List Head
  All = heads_in chunk_limit 0 (bytes_in (held v w))

  abbrev Asides : Head → Chunk
  Asides h = chunk_at (bytes_in (held v w)) h

  size : length heads ≡ length cs
  size = same_length (IsRecordOf v (w ∷ ws)) heads cs records.each

  all_first : Each (λ h. h.file ≡ 0) All
  all_first = file_is 0 (records_of (bytes_in (held v w)))

  led : AreLed heads
  led =
      subst AreLed (sym heads_are)
      (sort_led (heads_of v 0 (w ∷ ws))
      (front_led All (heads_of v (0 + 1) ws) all_first (later_files v (0 + 1) (omega arith) ws)))

  record_at : (i : ℕ) → i < length heads → IsRecordOf v (w ∷ ws) (head_in heads i) (slice_index_or cs i no_chunk)
  record_at i low = zip_at (IsRecordOf v (w ∷ ws)) heads cs records.each i low no_head no_chunk

  -- of a record of the first file
  is_aside : (i : ℕ) → i < length heads → (head_in heads i).file ≡ 0
      → Asides (head_in heads i) ≡ slice_index_or cs i no_chunk
  is_aside i low file =
      subst (λ n. chunk_at (bytes_in (held v (file_at (w ∷ ws) n))) (head_in heads i) ≡ slice_index_or cs i no_chunk) file
      (record_at i low).is

  module _ (i : ℕ) (low : i < length cuts) where
    abbrev K : Cut
    K = slice_index_or cuts i no_cut

    one : IsFirst cs spans K
    one = each_index (IsFirst cs spans) cuts first i low no_cut

    below : K.index < length heads
    below =
        let span = (begins_behind known heads cs (zip_heads v (w ∷ ws) heads cs records.each) o bytes size 0 spans are one.span
        one.one.0 one.one.1 one.one.2).1 in
        let within = span.within in
        let high = one.high in
        omega (arith, high, within)

    -- the record of the first file that has its data
    abbrev A : Head
    A = head_in All i

    there : IsIn heads A
    there =
        subst (λ l. IsIn l A) (sym heads_are)
        (sort_has (heads_of v 0 (w ∷ ws)) A
        (in_front All (heads_of v (0 + 1) ws) A (nth_in All i (omega (arith, low, count)))))

    a_first : A.file ≡ 0
    a_first = each_index (λ (h : Head). h.file ≡ 0) All all_first i (omega (arith, low, count)) no_head

    kept_is : cut_chunk cs K ≡ slice_index_or cs K.index no_chunk
    kept_is = ap (λ n. cut_of n (slice_index_or cs K.index no_chunk)) one.whole

    same_there : same_data (slice_index_or cs K.index no_chunk) (Asides A) ≡ true
    same_there = subst (λ c. same_data c (Asides A) ≡ true) kept_is (same i low)

    -- it is of the first file
    of_first : (head_in heads K.index).file ≡ 0
    of_first =
        let p = place_of heads A there in
        let f = p.0 in
        let file : (head_in heads f).file ≡ 0 = ap (λ (h : Head). h.file) p.2 ∙ a_first in
        let is : Asides A ≡ slice_index_or cs f no_chunk = ap Asides (sym p.2) ∙ is_aside f p.1 file in
        let alike : same_data (slice_index_or cs K.index no_chunk) (slice_index_or cs f no_chunk) ≡ true =
        subst (λ c. same_data (slice_index_or cs K.index no_chunk) c ≡ true) is same_there in
        let apart = same_behind (slice_index_or cs K.index no_chunk) (slice_index_or cs f no_chunk) alike in
        let hm = is_head v (w ∷ ws) (head_in heads K.index) (slice_index_or cs K.index no_chunk) (record_at K.index below) in
        let hf = is_head v (w ∷ ws) (head_in heads f) (slice_index_or cs f no_chunk) (record_at f p.1) in
        elim (cases_order f K.index) [
          | inl same_place ↦ subst (λ n. (head_in heads n).file ≡ 0) same_place file
          | inr other ↦ elim other [
            | inr behind ↦
                led_at heads led K.index f behind p.1
                (compares (head_in heads K.index) (head_in heads f) _ _ hm hf ∙ apart.0)
                (compares (head_in heads f) (head_in heads K.index) _ _ hf hm ∙ apart.1) file
            | inl before ↦
                let past = stands_past known heads cs (zip_heads v (w ∷ ws) heads cs records.each) o bytes size spans are one.span
                one.one f K.index before one.low one.high alike in
                absurd (true≢false (sym (same_turned (slice_index_or cs K.index no_chunk) (slice_index_or cs f no_chunk) alike)
                ∙ one.first f past before))
          ]
        ]

  -- and just the one at its place
  is_it : (i : ℕ) (low : i < length cuts) → head_in heads (K i low).index ≡ A i low
  is_it i low =
      let h = head_in heads (K i low).index in
      let r = record_at (K i low).index (below i low) in
      let p = place_of All h (is_in All h
      (subst (λ n. Contains (heads_in chunk_limit n (bytes_in (held v (file_at (w ∷ ws) n)))) h) (of_first i low) r.known)) in
      let j = p.0 in
      let few : j < length cuts = let n = p.1 in omega (arith, n, count) in
      let is : Asides (head_in All j) ≡ cut_chunk cs (K i low) =
      ap Asides p.2 ∙ (is_aside (K i low).index (below i low) (of_first i low) ∙ sym (kept_is i low)) in
      let alike : same_data (cut_chunk cs (K j few)) (cut_chunk cs (K i low)) ≡ true =
      subst (λ c. same_data (cut_chunk cs (K j few)) c ≡ true) is (same j few) in
      let sizes = length-map cuts (cut_chunk cs) in
      let at_i = get_or-map (cut_chunk cs) cuts i no_cut no_chunk low in
      let at_j = get_or-map (cut_chunk cs) cuts j no_cut no_chunk few in
      elim (cases_order j i) [
        | inl same_place ↦ sym p.2 ∙ ap (head_in All) same_place
        | inr other ↦ elim other [
          | inl before ↦
              let apart = differ_at (cut_chunks cs cuts) differ j i before (omega (arith, low, sizes)) in
              absurd (true≢false (sym alike
              ∙ (ap (λ c. same_data c (cut_chunk cs (K i low))) (sym at_j)
              ∙ (ap (same_data (slice_index_or (cut_chunks cs cuts) j no_chunk)) (sym at_i) ∙ apart))))
          | inr behind ↦
              let apart = differ_at (cut_chunks cs cuts) differ i j behind (omega (arith, few, sizes)) in
              absurd (true≢false (sym (same_turned (cut_chunk cs (K j few)) (cut_chunk cs (K i low)) alike)
              ∙ (ap (λ c. same_data c (cut_chunk cs (K j few))) (sym at_i)
              ∙ (ap (same_data (slice_index_or (cut_chunks cs cuts) i no_chunk)) (sym at_j) ∙ apart))))
        ]
      ]

  rises : (ks : List Cut) (hs : List Head) → length ks ≡ length hs
      → ((i : ℕ) → i < length ks → (head_in heads (slice_index_or ks i no_cut).index ≡ head_in hs i)
      × ((slice_index_or ks i no_cut).skip ≡ 0))
      → Each (λ h. h.file ≡ 0) hs → (last : ℕ) → RisesFrom (suc last) hs → rise_from heads last ks ≡ true
  rises [] hs sizes each files last rise = refl
  rises (k ∷ ks) [] sizes each files last rise = absurd (let z : ⊥ = omega (arith, sizes) in z)
  rises (k ∷ ks) (h ∷ hs) sizes each files last rise =
      let here = each 0 (omega arith) in
      let x = head_in heads k.index in
      let at = ap (λ (y : Head). y.at) here.0 in
      let up = rise.0 in
      let rest = rises ks hs (omega (arith, sizes)) (λ i low. each (suc i) (omega (arith, low))) files.1 x.at
      (subst (λ n. RisesFrom (suc n) hs) (sym at) rise.1) in
      and_from (is_first x) (nat_eq k.skip 0 && (nat_lt last x.at && rise_from heads x.at ks))
      (eq-eqb x.file 0 (ap (λ (y : Head). y.file) here.0 ∙ files.0))
      (and_from (nat_eq k.skip 0) (nat_lt last x.at && rise_from heads x.at ks) (eq-eqb k.skip 0 here.1)
      (and_from (nat_lt last x.at) (rise_from heads x.at ks) (lt-ltb last x.at (omega (arith, at, up))) rest))

  -- they are all records of the first file, as they stand there
  pub aside_stays : are_old_aside heads (length All) cuts ≡ true
  aside_stays =
      and_from (nat_eq (length cuts) (length All)) (rise_from heads 0 cuts) (eq-eqb (length cuts) (length All) count)
      (rises cuts All count (λ i low. (is_it i low, (one i low).whole)) all_first 0 (heads_past chunk_limit 0 (bytes_in (held v w))))
