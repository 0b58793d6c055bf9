-- The new records of each stream, behind the old ones, are the split of its archive.
use Rattle.std.proofs.Common.{◌≡◌, ◌⊎◌, inl, inr, ℕ, ◌+◌, ◌-◌, ◌≤◌, Bool, true, false, ◌||◌, List, [], ◌∷◌, ◌++◌, length, map, drop, Option, Some, None, ap, ap₂, sym, subst, ◌∙◌, refl, arith, length-append, length-drop, if◌then◌else◌, bytes_eq}
use Rattle.std.specs.Prelude.{Any, Contains, filter, max, nat_lt, nat_le, ◌==◌}
use Rattle.std.specs.List.{list_all, list_any}
use Rattle.std.proofs.lemmas.Bool.{and_parts}
use Rattle.std.proofs.lemmas.List.{map-append}
use Rattle.std.proofs.lemmas.List.Elements.{filter-append}
use Rattle.std.proofs.lemmas.List.Sums.{sum_by-cons, sum_by-append}
use Rattle.chk_bytes.specs.Words.{joined}
use Rattle.chk_bytes.specs.Stems.{is_count}
use Rattle.chk_site.specs.Files.{File, Files}
use Rattle.chk_site.specs.History.{History, files_after}
use Rattle.chk_chunk.specs.Keys.{Stream, Chunk, chunk_limit, record_limit, same_stream, is_of}
use Rattle.chk_world.specs.Names.{ArchiveFolder, DemuxFolder, BookFile, file}
use Rattle.chk_world.specs.Books.{End, Book, Version, book_in, book_of, values, is_book, is_segment, segments_rise, is_end, ends_rise}
use Rattle.chk_world.specs.Committed.{OnFile}
use Rattle.chk_world.specs.Jobs.{Run, BookNamesSyncedSegments}
use Rattle.chk_world.specs.Laws.{IsWholeBook}
use Rattle.chk_world.specs.Rules.{Legal}
use Rattle.chk_world.specs.Splits.{Record, ends_from, lines_from, has_stamp, records_behind, stamped_records, split, record_in}
use Rattle.chk_world.specs.Streams.{start_of}
use Rattle.chk_world.specs.TrueBooks.{HasBytes}
use Rattle.chk_world.proofs.NameTests.{streams_same}
use Rattle.chk_world.proofs.Each.{Each, each_at, each_filter, each_from, filter_each, filter_in, first_in, later_one, passes_in}
use Rattle.chk_world.proofs.Segments.{book_is, none_in}
use Rattle.chk_world.proofs.SmallFiles.{readable}
use Rattle.chk_world.proofs.SpelledLemmas.{book_so}
use Rattle.chk_world.proofs.BooksTrue.{books_stay_true, each_named, has_start_is, run_length}
use Rattle.chk_record_index.specs.Heads.{Head}
use Rattle.chk_archive_plan.proofs.Parts.{run_then, stream_self}
use Rattle.chk_book.specs.Books.{end_in}
use Rattle.chk_demux_split.specs.Laws.{size_of}
use Rattle.chk_demux_split.specs.Splitting.{pieces_of}
use Rattle.chk_demux_split.proofs.RecordLemmas.{split_goes_on, split_pieces}
use Rattle.chk_demux.specs.Demuxed.{all_named, NamesStamped}
use Rattle.chk_demux.specs.Giving.{record_chunk}
use Rattle.chk_demux.specs.Splitting.{split_from, past_in, is_stamped, stream_chunks, stream_left, all_chunks, all_left}
use Rattle.chk_demux.specs.Writes.{bytes_of}
use Rattle.chk_demux.proofs.Ordered.{of_stream}
use Rattle.chk_demux.proofs.Places.{past_values}
use Rattle.chk_demux.proofs.Prefixes.{records_are_the_split, split_none}
use Rattle.chk_archive_parts.proofs.EndsInOrder.{Sorted, sorted, Has, has_any}
use Rattle.chk_demux.proofs.SortedEnds.{EndOf, find_end, not_has, none_of, just_of, sum_each, sum_both, bytes_over}

-- ---- how many bytes the records have

values_size : (xs : List Chunk) → length (values xs) ≡ bytes_of xs
values_size [] = refl
values_size (c ∷ xs) =
    length-append c.value (values xs)
    ∙ (ap (λ n. length c.value + n) (values_size xs) ∙ sym (sum_by-cons (λ (c : Chunk). length c.value) c xs))

records_size : (xs : List Chunk) → size_of (map record_in xs) ≡ bytes_of xs
records_size [] = refl
records_size (c ∷ xs) =
    sum_by-cons (λ (r : Record). length r.bytes) (record_in c) (map record_in xs)
    ∙ (ap (λ n. length c.value + n) (records_size xs) ∙ sym (sum_by-cons (λ (c : Chunk). length c.value) c xs))

ends_size : (at : ℕ) (ps : List (List ℕ)) → size_of (ends_from at ps) ≡ length (joined ps)
ends_size at [] = refl
ends_size at (p ∷ ps) =
    sum_by-cons (λ (r : Record). length r.bytes) (record { bytes = p; end = at + length p }) (ends_from (at + length p) ps)
    ∙ (ap (λ n. length p + n) (ends_size (at + length p) ps) ∙ sym (length-append p (joined ps)))

-- they are of the bytes
lines_fit : (line bytes : List ℕ) → length (joined (lines_from line bytes)) ≤ length line + length bytes
lines_fit line [] = omega arith
lines_fit line (b ∷ bytes) =
    go (b == 10 || nat_le chunk_limit (length (line ++ b ∷ []))) (lines_fit [] bytes) (lines_fit (line ++ b ∷ []) bytes)
  where
    go : (t : Bool) → length (joined (lines_from [] bytes)) ≤ length {A = ℕ} [] + length bytes
        → length (joined (lines_from (line ++ b ∷ []) bytes)) ≤ length (line ++ b ∷ []) + length bytes
        → length (joined (elim t as (λ t. List (List ℕ)) [
          | true ↦ (line ++ b ∷ []) ∷ lines_from [] bytes
          | false ↦ lines_from (line ++ b ∷ []) bytes
        ])) ≤ length line + length (b ∷ bytes)
    go true fresh on =
        let all = length-append (line ++ b ∷ []) (joined (lines_from [] bytes)) in
        let size = length-append line (b ∷ []) in
        omega (arith, all, size, fresh)
    go false fresh on = let size = length-append line (b ∷ []) in omega (arith, size, on)

records_fit : (begun : List ℕ) (lines : List (List ℕ))
    → length (joined (records_behind begun lines)) ≤ length begun + length (joined lines)
records_fit begun [] = omega arith
records_fit begun (line ∷ lines) =
    go (has_stamp line || nat_lt record_limit (length begun + length line)) (records_fit line lines)
    (records_fit (begun ++ line) lines)
  where
    go : (t : Bool) → length (joined (records_behind line lines)) ≤ length line + length (joined lines)
        → length (joined (records_behind (begun ++ line) lines)) ≤ length (begun ++ line) + length (joined lines)
        → length (joined (elim t as (λ t. List (List ℕ)) [
          | true ↦ begun ∷ records_behind line lines
          | false ↦ records_behind (begun ++ line) lines
        ])) ≤ length begun + length (joined (line ∷ lines))
    go true fresh on =
        let all = length-append begun (joined (records_behind line lines)) in
        let size = length-append line (joined lines) in
        omega (arith, all, size, fresh)
    go false fresh on =
        let both = length-append begun line in
        let size = length-append line (joined lines) in
        omega (arith, both, size, on)

pub pieces_fit : (t : Bool) (bytes : List ℕ) → length (joined (pieces_of t bytes)) ≤ length bytes
pieces_fit false bytes = let fit = lines_fit [] bytes in omega (arith, fit)
pieces_fit true bytes = go (lines_from [] bytes) (lines_fit [] bytes)
  where
    go : (ls : List (List ℕ)) → length (joined ls) ≤ length {A = ℕ} [] + length bytes
        → length (joined (stamped_records ls)) ≤ length bytes
    go [] low = omega arith
    go (line ∷ lines) low =
        let fit = records_fit line lines in
        let size = length-append line (joined lines) in
        omega (arith, low, fit, size)

-- ---- the ends of a book

pub rise_of : (w : Version) (b : Book) → is_book w b ≡ true → ends_rise b.ends ≡ true
rise_of w b h =
    let p1 = and_parts (is_count b.next) _ h in
    let p2 = and_parts (nat_lt (length b.segments) 4294967296) _ p1.1 in
    let p3 = and_parts (list_all (is_segment b.next) b.segments) _ p2.1 in
    let p4 = and_parts (segments_rise b.segments) _ p3.1 in
    let p5 = and_parts (nat_lt (length b.ends) 4294967296) _ p4.1 in
    let p6 = and_parts (list_all is_end b.ends) _ p5.1 in
    (and_parts (ends_rise b.ends) _ p6.1).0

rise_in : (o : Option File) → OnFile o IsWholeBook → ends_rise (book_in o).ends ≡ true
rise_in None w = refl
rise_in (Some f) w =
    let so = book_so f.bytes w.book w.is in
    subst (λ (x : Book). ends_rise x.ends ≡ true) (sym (book_is (Some f) f w.book refl w.is)) (rise_of so.0 w.book so.1)

-- where the book says that a stream ends
data Known (s : Stream) (es : List End) : Type 0 where
  listed : (k : EndOf s es) → end_in 0 es s ≡ k.end.end → Known s es
  unlisted : Each (λ (e : End). same_stream s e.stream ≡ false) es → end_in 0 es s ≡ 0 → Known s es

known : (s : Stream) (es : List End) → Known s es
known s [] = unlisted tt refl
known s (e ∷ es) = go (same_stream s e.stream) refl (known s es)
  where
    go : (b : Bool) → same_stream s e.stream ≡ b → Known s es → Known s (e ∷ es)
    go true same rest =
        listed (record { end = e; one = (0, omega arith, refl); is = sym (streams_same s e.stream same) })
        (ap (λ b. if b then e.end else end_in 0 es s) same)
    go false other (listed k is) =
        listed (record { end = k.end; one = later_one e es k.end k.one; is = k.is })
        (ap (λ b. if b then e.end else end_in 0 es s) other ∙ is)
    go false other (unlisted none is) =
        unlisted (other, none) (ap (λ b. if b then e.end else end_in 0 es s) other ∙ is)

-- a stream that isn't listed has no chunks
no_chunks : (s : Stream) (es : List End) (cs : List Chunk)
    → ((c : Chunk) → Contains cs c → Any (λ (e : End). e.stream ≡ c.key.stream) es)
    → Each (λ (e : End). same_stream s e.stream ≡ false) es → filter (is_of s) cs ≡ []
no_chunks s es cs all none = go (filter (is_of s) cs) refl
  where
    go : (l : List Chunk) → filter (is_of s) cs ≡ l → l ≡ []
    go [] is = refl
    go (c ∷ l) is =
        let passed : Contains (filter (is_of s) cs) c = first_in (filter (is_of s) cs) c l is in
        let of : is_of s c ≡ true =
        each_at (λ (c : Chunk). is_of s c ≡ true) (filter (is_of s) cs) c (filter_each (is_of s) cs) passed in
        absurd (not_has s es none (subst (λ t. Has t es) (sym (streams_same s c.key.stream of))
        (has_any c.key.stream es (all c (filter_in (is_of s) cs c passed)))))

-- where no other stream has chunks, each chunk's is listed
listed_all : (es : List End) (xs : List Chunk)
    → ((s : Stream) → Each (λ (e : End). same_stream s e.stream ≡ false) es → filter (is_of s) xs ≡ [])
    → (c : Chunk) → Contains xs c → EndOf c.key.stream es
listed_all es xs none c one = go (find_end c.key.stream es)
  where
    go : EndOf c.key.stream es ⊎ Each (λ (e : End). same_stream c.key.stream e.stream ≡ false) es → EndOf c.key.stream es
    go (inl k) = k
    go (inr no_end) =
        absurd (none_in c (subst (λ l. Contains l c) (none c.key.stream no_end)
        (passes_in (is_of c.key.stream) xs c one (stream_self c.key.stream))))

has_end : (s : Stream) (es : List End) → EndOf s es → Has s es
has_end s es k = has_any s es (k.one.0, k.end, k.one.1, k.one.2, k.is)

-- ---- the records that are made of a split

shown : (heads : List Head) (e : End) (rs : List Record) → map record_in (map (record_chunk heads e) rs) ≡ rs
shown heads e [] = refl
shown heads e (r ∷ rs) = ap (λ l. r ∷ l) (shown heads e rs)

pub start_same : (heads : List Head) (e : End) (rs : List Record)
    → Each (λ (c : Chunk). c.key.start ≡ e.start) (map (record_chunk heads e) rs)
start_same heads e [] = tt
start_same heads e (r ∷ rs) = (refl, start_same heads e rs)

-- they run
new_run : (heads : List Head) (e : End) (at : ℕ) (ps : List (List ℕ))
    → Run e.start at (map (record_chunk heads e) (ends_from at ps)) (at + length (joined ps))
new_run heads e at [] = let z : at + 0 ≡ at = omega arith in z
new_run heads e at (p ∷ ps) = (
  refl,
  let z : at + length p - length p ≡ at = omega arith in z,
  subst (Run e.start (at + length p) (map (record_chunk heads e) (ends_from (at + length p) ps)))
      (let size = length-append p (joined ps) in
      let z : at + length p + length (joined ps) ≡ at + length (p ++ joined ps) = omega (arith, size) in z)
      (new_run heads e (at + length p) ps),
)

max_is : (m n : ℕ) → m ≤ n → max m n ≡ n
max_is m n low = grind (arith, low)

max_none : (m : ℕ) → max m 0 ≡ m
max_none m = grind arith

none_first : (l : List Chunk) (more : List Record) → map record_in l ++ more ≡ [] → l ≡ []
none_first [] more e = refl
none_first (c ∷ l) more e = absurd (cc)

left_over : (n m l : ℕ) → n + m ≤ l → l - n - m + (n + m) ≡ l
left_over n m l low = omega (arith, low)

-- ---- at a legal history

module _ (stamped types : List (List ℕ)) (named : NamesStamped stamped types) (history : History)
    (legal : Legal stamped history) (heads : List Head) where
  abbrev pub F : Files
  F = files_after history

  abbrev pub A : Book
  A = book_of F ArchiveFolder

  abbrev pub D : Book
  D = book_of F DemuxFolder

  abbrev pub archived : List Chunk
  archived = all_named F ArchiveFolder

  abbrev pub olds : List Chunk
  olds = all_named F DemuxFolder

  abbrev pub outs : List Chunk
  outs = all_chunks types D heads archived A.ends

  abbrev pub old_of : Stream → List Chunk
  old_of s = filter (is_of s) olds

  abbrev pub own_chunks : End → List Chunk
  own_chunks e = stream_chunks types D heads archived e

  pub archive_true : BookNamesSyncedSegments ArchiveFolder history A
  archive_true = books_stay_true stamped history legal ArchiveFolder

  pub records_true : BookNamesSyncedSegments DemuxFolder history D
  records_true = books_stay_true stamped history legal DemuxFolder

  pub archive_rises : ends_rise A.ends ≡ true
  archive_rises = rise_in (file F (BookFile ArchiveFolder)) ((readable stamped history legal).books ArchiveFolder)

  pub archive_sorted : Sorted A.ends
  archive_sorted = sorted A.ends archive_rises

  pub records_rise : ends_rise D.ends ≡ true
  records_rise = rise_in (file F (BookFile DemuxFolder)) ((readable stamped history legal).books DemuxFolder)

  pub records_sorted : Sorted D.ends
  records_sorted = sorted D.ends records_rise

  -- ---- of one stream

  module _ (e : End) (one : Contains A.ends e) where
    abbrev V : List ℕ
    V = values (filter (is_of e.stream) archived)

    abbrev from : ℕ
    from = split_from D e

    -- the old records run to where the split goes on
    pub old_run : Run e.start e.start (old_of e.stream) from
    old_run = go (known e.stream D.ends)
      where
        go : Known e.stream D.ends → Run e.start e.start (old_of e.stream) from
        go (listed k is) =
            let d : End = k.end in
            let run : Run d.start d.start (old_of d.stream) d.end = records_true.ends d k.one in
            let size = run_length d.start d.start (old_of d.stream) d.end
            (each_filter HasBytes (is_of d.stream) olds (each_named F DemuxFolder D)) run in
            let start : d.start ≡ e.start =
            has_start_is history d (records_true.starts d k.one)
            ∙ (ap (start_of history) k.is ∙ sym (has_start_is history e (archive_true.starts e one))) in
            let low : e.start ≤ d.end = omega (arith, size, start) in
            subst (Run e.start e.start (old_of e.stream)) (sym (ap (max e.start) is ∙ max_is e.start d.end low))
            (subst (λ s. Run e.start e.start (old_of s) d.end) k.is
            (subst (λ n. Run n n (old_of d.stream) d.end) start run))
        go (unlisted none is) =
            subst (λ l. Run e.start e.start l from) (sym (no_chunks e.stream D.ends olds records_true.listed none))
            (ap (max e.start) is ∙ max_none e.start)

    from_is : from ≡ e.start + bytes_of (old_of e.stream)
    from_is =
        sym (run_length e.start e.start (old_of e.stream) from
        (each_filter HasBytes (is_of e.stream) olds (each_named F DemuxFolder D)) old_run)
        ∙ ap (λ n. e.start + n) (values_size (old_of e.stream))

    past_is : past_in from e.stream archived ≡ drop (bytes_of (old_of e.stream)) V
    past_is =
        past_values e.start e.start e.end (filter (is_of e.stream) archived) from
        (each_filter HasBytes (is_of e.stream) archived (each_named F ArchiveFolder A)) (archive_true.ends e one)
        ∙ ap (λ n. drop n V) (minus from e.start (bytes_of (old_of e.stream)) from_is)
      where
        minus : (f s n : ℕ) → f ≡ s + n → f - s ≡ n
        minus f s n is = omega (arith, is)

    -- the new records are those of the split behind the old ones
    stream_whole : map record_in (old_of e.stream) ++ map record_in (own_chunks e) ≡ split stamped e.stream e.start V
    stream_whole =
        let s = e.stream in
        let first = map record_in (old_of s) in
        let goes = records_are_the_split stamped history legal s in
        let is : split stamped s e.start V ≡ first ++ goes.0 =
        ap (λ n. split stamped s n V) (has_start_is history e (archive_true.starts e one)) ∙ goes.1 in
        let size = records_size (old_of s) in
        let past = past_in from s archived in
        let new : map record_in (own_chunks e) ≡ goes.0 =
        shown heads e (ends_from from (pieces_of (is_stamped types s.kind) past))
        ∙ (ap (λ t. ends_from from (pieces_of t past)) (sym (named s.kind))
        ∙ (sym (split_pieces stamped s from past)
        ∙ (ap₂ (split stamped s) (from_is ∙ ap (λ n. e.start + n) (sym size)) (past_is ∙ ap (λ n. drop n V) (sym size))
        ∙ sym (split_goes_on stamped s e.start V first goes.0 is)))) in
        ap (λ l. first ++ l) new ∙ sym is

    pub own_are : filter (is_of e.stream) (olds ++ outs) ≡ old_of e.stream ++ own_chunks e
    own_are =
        filter-append (is_of e.stream) olds outs
        ∙ ap (λ l. old_of e.stream ++ l) (just_of own_chunks (λ e. of_stream heads e _) A.ends archive_sorted e one)

    -- all records of the stream run
    pub whole_run : (to : ℕ) × Run e.start e.start (filter (is_of e.stream) (olds ++ outs)) to
    whole_run =
        let ps = pieces_of (is_stamped types e.stream.kind) (past_in from e.stream archived) in (
          from + length (joined ps),
          subst (λ l. Run e.start e.start l (from + length (joined ps))) (sym own_are)
              (run_then e.start e.start from (from + length (joined ps)) (old_of e.stream) (own_chunks e) old_run
              (new_run heads e from ps)),
        )

    abbrev Pieces : List (List ℕ)
    Pieces = pieces_of (is_stamped types e.stream.kind) (past_in from e.stream archived)

    made_size : bytes_of (own_chunks e) ≡ length (joined Pieces)
    made_size =
        sym (records_size (own_chunks e))
        ∙ (ap size_of (shown heads e (ends_from from Pieces)) ∙ ends_size from Pieces)

    -- all of them are bytes of the archive
    all_fit : bytes_of (old_of e.stream) + length (joined Pieces) ≤ length V
    all_fit =
        let s = e.stream in
        let t = list_any (bytes_eq s.kind) stamped in
        let whole : bytes_of (old_of s) + length (joined Pieces) ≡ length (joined (pieces_of t V)) =
        ap₂ (λ x y. x + y) (sym (records_size (old_of s))) (sym made_size ∙ sym (records_size (own_chunks e)))
        ∙ (sym (sum_by-append (λ (r : Record). length r.bytes) (map record_in (old_of s)) (map record_in (own_chunks e)))
        ∙ (ap size_of (stream_whole ∙ split_pieces stamped s e.start V) ∙ ends_size e.start (pieces_of t V))) in
        let fit = pieces_fit t V in
        omega (arith, whole, fit)

    pub new_fits : from + length (joined Pieces) ≤ e.end
    new_fits =
        let size = run_length e.start e.start (filter (is_of e.stream) archived) e.end
        (each_filter HasBytes (is_of e.stream) archived (each_named F ArchiveFolder A)) (archive_true.ends e one) in
        fitting from e.start (bytes_of (old_of e.stream)) (length (joined Pieces)) (length V) e.end from_is all_fit size
      where
        fitting : (f s n m l t : ℕ) → f ≡ s + n → n + m ≤ l → s + l ≡ t → f + m ≤ t
        fitting f s n m l t is low end = omega (arith, is, low, end)

    -- what is left of it
    left_here : stream_left types D archived e + bytes_of (filter (is_of e.stream) (olds ++ outs))
        ≡ bytes_of (filter (is_of e.stream) archived)
    left_here =
        let s = e.stream in
        let n = bytes_of (old_of s) in
        let m = length (joined Pieces) in
        let both : bytes_of (filter (is_of s) (olds ++ outs)) ≡ n + m =
        ap bytes_of own_are
        ∙ (sum_by-append (λ (c : Chunk). length c.value) (old_of s) (own_chunks e) ∙ ap (λ k. n + k) made_size) in
        ap (λ k. k - m + bytes_of (filter (is_of s) (olds ++ outs))) (ap length past_is ∙ length-drop n V)
        ∙ (ap (λ k. length V - n - m + k) both ∙ (left_over n m (length V) all_fit ∙ values_size (filter (is_of s) archived)))

  -- ---- of all streams

  parts_are : (s : Stream) → map record_in (filter (is_of s) (olds ++ outs))
      ≡ map record_in (old_of s) ++ map record_in (filter (is_of s) outs)
  parts_are s = ap (map record_in) (filter-append (is_of s) olds outs) ∙ map-append record_in (old_of s) (filter (is_of s) outs)

  old_gone : (s : Stream) → filter (is_of s) archived ≡ [] → old_of s ≡ []
  old_gone s gone =
      let goes = records_are_the_split stamped history legal s in
      none_first (old_of s) goes.0
      (sym goes.1 ∙ (ap (λ l. split stamped s (start_of history s) (values l)) gone ∙ split_none stamped s (start_of history s)))

  -- a stream that the archive doesn't list has none
  module _ (s : Stream) (none : Each (λ (e : End). same_stream s e.stream ≡ false) A.ends) where
    none_archived : filter (is_of s) archived ≡ []
    none_archived = no_chunks s A.ends archived archive_true.listed none

    none_old : old_of s ≡ []
    none_old = old_gone s none_archived

    pub none_new : filter (is_of s) outs ≡ []
    none_new = none_of own_chunks (λ e. of_stream heads e _) s A.ends none

    none_here : filter (is_of s) (olds ++ outs) ≡ []
    none_here = filter-append (is_of s) olds outs ∙ ap₂ (λ x y. x ++ y) none_old none_new

  -- the records of each stream, the new ones too, are the split of its archive
  pub whole_split : (s : Stream) (start : ℕ) → ((e : End) → Contains A.ends e → e.stream ≡ s → e.start ≡ start)
      → map record_in (filter (is_of s) (olds ++ outs)) ≡ split stamped s start (values (filter (is_of s) archived))
  whole_split s start starts = go (find_end s A.ends)
    where
      go : EndOf s A.ends ⊎ Each (λ (e : End). same_stream s e.stream ≡ false) A.ends
          → map record_in (filter (is_of s) (olds ++ outs)) ≡ split stamped s start (values (filter (is_of s) archived))
      go (inl k) =
          let e = k.end in
          subst (λ t. map record_in (filter (is_of t) (olds ++ outs)) ≡ split stamped t start (values (filter (is_of t) archived))) k.is
          (ap (map record_in) (own_are e k.one)
          ∙ (map-append record_in (old_of e.stream) (own_chunks e)
          ∙ (stream_whole e k.one
          ∙ ap (λ n. split stamped e.stream n (values (filter (is_of e.stream) archived))) (starts e k.one k.is))))
      go (inr none) =
          ap (map record_in) (none_here s none)
          ∙ sym (ap (λ l. split stamped s start (values l)) (none_archived s none) ∙ split_none stamped s start)

  -- each new record's stream is listed
  pub new_listed : (c : Chunk) → Contains outs c → EndOf c.key.stream A.ends
  new_listed = listed_all A.ends outs none_new

  pub left_is : all_left types D archived A.ends + bytes_of (olds ++ outs) ≡ bytes_of archived
  left_is =
      let mine : End → ℕ = λ e. bytes_of (filter (is_of e.stream) (olds ++ outs)) in
      let all : End → ℕ = λ e. bytes_of (filter (is_of e.stream) archived) in
      ap (λ n. all_left types D archived A.ends + n)
      (sym (bytes_over A.ends archive_sorted (olds ++ outs)
      (each_from (λ (c : Chunk). Has c.key.stream A.ends) (olds ++ outs)
      (λ c one. has_end c.key.stream A.ends (listed_all A.ends (olds ++ outs) none_here c one)))))
      ∙ (sym (sum_both (stream_left types D archived) mine A.ends)
      ∙ (sum_each (λ (e : End). stream_left types D archived e + mine e) all A.ends
      (each_from (λ (e : End). stream_left types D archived e + mine e ≡ all e) A.ends left_here)
      ∙ bytes_over A.ends archive_sorted archived
      (each_from (λ (c : Chunk). Has c.key.stream A.ends) archived
      (λ c one. has_any c.key.stream A.ends (archive_true.listed c one)))))
