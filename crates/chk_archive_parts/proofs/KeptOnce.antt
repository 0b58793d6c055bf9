-- Chunks that stand in order, of which each is kept once.
use Rattle.std.proofs.Common.{◌≡◌, ℕ, zero, suc, ◌+◌, ◌-◌, ◌≤◌, ◌<◌, ◌&&◌, ◌||◌, not, Bool, true, false, cond, List, [], ◌∷◌, ◌++◌, length, take, drop, ap, sym, subst, ◌∙◌, refl, arith, true≢false, length-drop}
use Rattle.std.specs.List.{AllZip, list_any}
use Rattle.std.specs.Prelude.{Contains, filter, nat_eq, nat_lt, bytes_eq, slice_index_or}
use Rattle.std.proofs.Math.ListN.{drop_of_length-le}
use Rattle.std.proofs.Math.Seq.{take-length}
use Rattle.std.proofs.lemmas.Bool.{and_parts, and_from, or_from, or_parts, eqb-true, eq-eqb, cond_both}
use Rattle.std.proofs.lemmas.List.{map-append, drop_more, length-take-le, get_or-take, drop-drop, take-append-drop, take-append-le, drop-append-le}
use Rattle.std.proofs.lemmas.List.Elements.{filter-append}
use Rattle.std.proofs.lemmas.List.Folds.{list_any-append}
use Rattle.chk_chunk.specs.Keys.{Chunk, chunk_begin, chunk_end, same_stream, stream_lt, same_data}
use Rattle.chk_world.specs.ArchiveRuns.{comes_before, once}
use Rattle.chk_world.proofs.Each.{Each, each_as, later_one, each_filter, filter_each}
use Rattle.chk_world.proofs.Ends.{bytes_same}
use Rattle.chk_world.proofs.NameTests.{streams_same}
use Rattle.chk_record_index.specs.Heads.{Head}
use Rattle.chk_record_index.proofs.Orders.{Tested, lex_tested, tested_through, numbers, streams}
use Rattle.chk_archive_plan.specs.Passes.{between, IsSpan, AreSpans}
use Rattle.chk_archive_plan.specs.declared.spans.Span.{Span}
use Rattle.chk_archive_plan.specs.declared.spans.Known.{Known}
use Rattle.chk_archive_plan.proofs.ChunkOrder.{Ordered}
use Rattle.chk_archive_plan.proofs.Bridges.{between_drop, each_index}
use Rattle.chk_archive_parts.specs.Cuts.{no_chunk, cut_of, cut_chunk, cut_chunks}
use Rattle.chk_archive_parts.specs.Kept.{past_chunks, whole_from, past_cuts}
use Rattle.chk_archive_parts.proofs.CutParts.{place}
use Rattle.chk_world.proofs.BooksTrue.{each_append as each_join}
use Rattle.chk_archive_plan.proofs.Blocks.{filter_all}

pub between_more : {X : Type 0} (xs : List X) (i j : ℕ) (d : X) → i < j → j ≤ length xs
    → between i j xs ≡ slice_index_or xs i d ∷ between (i + 1) j xs
between_more xs i j d low high =
    let size = length-take-le j xs high in
    drop_more (take j xs) i d (omega (arith, low, size))
    ∙ ap (λ x. x ∷ between (i + 1) j xs) (get_or-take j xs i d low)

-- ---- chunks of which neither comes before the other

abbrev pub tie : Chunk → Chunk → Bool
tie c d =
    same_stream c.key.stream d.key.stream
    && (nat_eq (chunk_begin c) (chunk_begin d) && nat_eq (chunk_end c) (chunk_end d))

tested : Tested comes_before tie
tested =
    lex_tested (λ (c d : Chunk). stream_lt c.key.stream d.key.stream)
    (λ (c d : Chunk). same_stream c.key.stream d.key.stream)
    (λ (c d : Chunk). nat_lt (chunk_begin c) (chunk_begin d)
    || (nat_eq (chunk_begin c) (chunk_begin d) && nat_lt (chunk_end c) (chunk_end d)))
    (λ (c d : Chunk). nat_eq (chunk_begin c) (chunk_begin d) && nat_eq (chunk_end c) (chunk_end d))
    (tested_through (λ (c : Chunk). c.key.stream) stream_lt same_stream streams)
    (lex_tested (λ (c d : Chunk). nat_lt (chunk_begin c) (chunk_begin d))
    (λ (c d : Chunk). nat_eq (chunk_begin c) (chunk_begin d))
    (λ (c d : Chunk). nat_lt (chunk_end c) (chunk_end d))
    (λ (c d : Chunk). nat_eq (chunk_end c) (chunk_end d))
    (tested_through chunk_begin nat_lt nat_eq numbers)
    (tested_through chunk_end nat_lt nat_eq numbers))

-- chunks with the same data are such
same_ties : (c d : Chunk) → same_data c d ≡ true → tie c d ≡ true
same_ties c d e =
    let p = and_parts (same_stream c.key.stream d.key.stream)
    (nat_eq c.key.seq d.key.seq && bytes_eq c.value d.value) e in
    let q = and_parts (nat_eq c.key.seq d.key.seq) (bytes_eq c.value d.value) p.1 in
    let seq = eqb-true c.key.seq d.key.seq q.0 in
    let size = ap length (bytes_same c.value d.value q.1) in
    and_from (same_stream c.key.stream d.key.stream) _ p.0
    (and_from (nat_eq (chunk_begin c) (chunk_begin d)) (nat_eq (chunk_end c) (chunk_end d))
    (eq-eqb (chunk_begin c) (chunk_begin d) (omega (arith, seq, size))) q.0)

-- the later one comes not before the first
abbrev pub IsBehind : Chunk → Chunk → Type 0
IsBehind c d = comes_before d c ≡ false

-- so neither comes before the other
pub same_behind : (c d : Chunk) → same_data c d ≡ true → (comes_before c d ≡ false) × (comes_before d c ≡ false)
same_behind c d e = tested.neither c d (same_ties c d e)

-- ---- each one once

pub each_once : (P : Chunk → Type 0) (cs : List Chunk) → Each P cs → Each P (once cs)
each_once P [] all = tt
each_once P (c ∷ cs) all =
    (all.0, each_filter P (λ d. not (same_data c d)) (once cs) (each_once P cs all.1))

unlike : (c : Chunk) (b : Bool) → (b ≡ true → ⊥) → not b ≡ true
unlike c true h = absurd (h refl)
unlike c false h = refl

-- what isn't alike with its neighbour is like none behind it
apart : (c d x : Chunk) → tie c d ≡ false → IsBehind c d → IsBehind d x → not (same_data c x) ≡ true
apart c d x e cd dx = unlike c (same_data c x) (λ same.
    let far = tested.neither c x (same_ties c x same) in
    true≢false (sym (tested.are_alike c d (tested.order.onward c x d far.0 dx) cd) ∙ e))

-- what is the same as one is the same as those that this one is the same as
same_onward : (c x d : Chunk) → same_data c x ≡ true → same_data x d ≡ true → same_data c d ≡ true
same_onward c x d p q =
    let a = and_parts (same_stream c.key.stream x.key.stream)
    (nat_eq c.key.seq x.key.seq && bytes_eq c.value x.value) p in
    let b = and_parts (nat_eq c.key.seq x.key.seq) (bytes_eq c.value x.value) a.1 in
    let u = and_parts (same_stream x.key.stream d.key.stream)
    (nat_eq x.key.seq d.key.seq && bytes_eq x.value d.value) q in
    let v = and_parts (nat_eq x.key.seq d.key.seq) (bytes_eq x.value d.value) u.1 in
    and_from (same_stream c.key.stream d.key.stream) _
    (subst (λ t. same_stream c.key.stream t ≡ true) (streams_same x.key.stream d.key.stream u.0) a.0)
    (and_from (nat_eq c.key.seq d.key.seq) (bytes_eq c.value d.value)
    (subst (λ n. nat_eq c.key.seq n ≡ true) (eqb-true x.key.seq d.key.seq v.0) b.0)
    (subst (λ l. bytes_eq c.value l ≡ true) (bytes_same x.value d.value v.1) b.1))

filter_on : (p : Chunk → Bool) (x : Chunk) (xs : List Chunk) → p x ≡ true → filter p (x ∷ xs) ≡ x ∷ filter p xs
filter_on p x xs e = ap (λ b. cond b (x ∷ filter p xs) (filter p xs)) e

filter_off : (p : Chunk → Bool) (x : Chunk) (xs : List Chunk) → p x ≡ false → filter p (x ∷ xs) ≡ filter p xs
filter_off p x xs e = ap (λ b. cond b (x ∷ filter p xs) (filter p xs)) e

abbrev other_than : Chunk → Chunk → Bool
other_than c x = not (same_data c x)

-- where no two that follow each other are alike, each is kept
abbrev pub NoTies : List Chunk → Type 0
NoTies cs = (i : ℕ) → suc i < length cs → tie (slice_index_or cs i no_chunk) (slice_index_or cs (suc i) no_chunk) ≡ false

pub lone_once : (cs : List Chunk) → Ordered cs → NoTies cs → once cs ≡ cs
lone_once [] o none = refl
lone_once (c ∷ cs) o none =
    ap (λ l. c ∷ filter (other_than c) l) (lone_once cs o.1 (λ i low. none (suc i) (omega (arith, low))))
    ∙ ap (λ l. c ∷ l) (filter_all (other_than c) cs (far cs o none))
  where
    far : (ds : List Chunk) → Ordered (c ∷ ds) → NoTies (c ∷ ds) → Each (λ x. other_than c x ≡ true) ds
    far [] o none = tt
    far (d ∷ es) o none =
        let e : tie c d ≡ false = none 0 (omega arith) in (
          unlike c (same_data c d) (λ same. true≢false (sym (same_ties c d same) ∙ e)),
          each_as (IsBehind d) (λ x. other_than c x ≡ true) es (λ x dx. apart c d x e o.0.0 dx) o.1.0,
        )

-- ---- of lists in order

each_parts : {X : Type 0} (P : X → Type 0) (xs ys : List X) → Each P (xs ++ ys) → Each P xs × Each P ys
each_parts P [] ys a = (tt, a)
each_parts P (x ∷ xs) ys a = let p = each_parts P xs ys a.1 in ((a.0, p.0), p.1)

pairs_join : (xs ys zs : List Chunk) → Ordered (xs ++ ys)
    → ((P : Chunk → Type 0) → Each P ys → Each P zs) → Ordered zs → Ordered (xs ++ zs)
pairs_join [] ys zs pairs less rest = rest
pairs_join (x ∷ xs) ys zs pairs less rest =
    let p = each_parts (IsBehind x) xs ys pairs.0 in
    (each_join (IsBehind x) xs zs p.0 (less (IsBehind x) p.1), pairs_join xs ys zs pairs.1 less rest)

each_drop : {X : Type 0} (P : X → Type 0) (n : ℕ) (xs : List X) → Each P xs → Each P (drop n xs)
each_drop P zero xs a = a
each_drop P (suc n) [] a = tt
each_drop P (suc n) (x ∷ xs) a = each_drop P n xs a.1

pairs_drop : (n : ℕ) (xs : List Chunk) → Ordered xs → Ordered (drop n xs)
pairs_drop zero xs a = a
pairs_drop (suc n) [] a = tt
pairs_drop (suc n) (x ∷ xs) a = pairs_drop n xs a.1

-- ---- of spans

pub same_length : (P : Head → Chunk → Type 0) (hs : List Head) (cs : List Chunk) → AllZip P hs cs → length hs ≡ length cs
same_length P [] [] all = refl
same_length P [] (c ∷ cs) all = absurd all
same_length P (h ∷ hs) [] all = absurd all
same_length P (h ∷ hs) (c ∷ cs) all = let rest = same_length P hs cs all.1 in omega (arith, rest)

whole_are : (cs : List Chunk) (at : ℕ) (hs : List Head) (ds post : List Chunk) → drop at cs ≡ ds ++ post
    → length hs ≡ length ds → cut_chunks cs (whole_from at hs) ≡ ds
whole_are cs at [] [] post is size = refl
whole_are cs at [] (d ∷ ds) post is size = absurd (let z : ⊥ = omega (arith, size) in z)
whole_are cs at (h ∷ hs) [] post is size = absurd (let z : ⊥ = omega (arith, size) in z)
whole_are cs at (h ∷ hs) (d ∷ ds) post is size =
    let here = place cs at d (ds ++ post) is in
    ap (λ c. cut_of 0 c ∷ cut_chunks cs (whole_from (at + 1) hs)) here.0
    ∙ ap (λ l. d ∷ l) (whole_are cs (at + 1) hs ds post here.1 (omega (arith, size)))

-- the records past the gaps are the chunks there
pub past_are : (heads : List Head) (cs : List Chunk) → length heads ≡ length cs → (spans : List Span)
    → ((s : Span) → Contains spans s → (s.past ≤ s.end) × (s.end ≤ length heads))
    → cut_chunks cs (past_cuts heads spans) ≡ past_chunks cs spans
past_are heads cs size [] within = refl
past_are heads cs size (s ∷ ss) within =
    let w = within s (0, omega arith, refl) in
    let hs = between s.past s.end heads in
    let ds = between s.past s.end cs in
    let high : s.end ≤ length cs = let h = w.1 in omega (arith, h, size) in
    let a = length-drop s.past (take s.end heads) in
    let b = length-drop s.past (take s.end cs) in
    let x = length-take-le s.end heads w.1 in
    let y = length-take-le s.end cs high in
    map-append (cut_chunk cs) (whole_from s.past hs) (past_cuts heads ss)
    ∙ (ap (λ l. l ++ cut_chunks cs (past_cuts heads ss))
    (whole_are cs s.past hs ds (drop s.end cs) (sym (between_drop s.past s.end cs w.0 high)) (omega (arith, a, b, x, y)))
    ∙ ap (λ l. ds ++ l) (past_are heads cs size ss (λ t one. within t (later_one s ss t one))))

module _ (known : List Known) (heads : List Head) (cs : List Chunk) (size : length heads ≡ length cs) where
  -- what stands past a span's gap, and what stands behind the span
  behind_gap : (s : Span) → IsSpan known heads s → drop s.past cs ≡ between s.past s.end cs ++ drop s.end cs
  behind_gap s span =
      sym (between_drop s.past s.end cs span.high (let low = span.within in omega (arith, low, size)))

  each_past : (P : Chunk → Type 0) (at : ℕ) (ss : List Span) → AreSpans known heads at ss (length heads)
      → Each P (drop at cs) → Each P (past_chunks cs ss)
  each_past P at [] all a = tt
  each_past P at (s ∷ ss) all a =
      let span = all.1 in
      let gone = drop_past s.first s.past span.low (subst (λ n. Each P (drop n cs)) (sym all.0) a) in
      let p = each_parts P (between s.past s.end cs) (drop s.end cs) (subst (Each P) (behind_gap s span) gone) in
      each_join P (between s.past s.end cs) (past_chunks cs ss) p.0 (each_past P s.end ss all.2 p.1)
    where
      drop_past : (i j : ℕ) → i ≤ j → Each P (drop i cs) → Each P (drop j cs)
      drop_past i j low e =
          let n : i + (j - i) ≡ j = omega (arith, low) in
          subst (λ m. Each P (drop m cs)) n
          (subst (Each P) (drop-drop (j - i) i cs) (each_drop P (j - i) (drop i cs) e))

  pub past_ordered : (at : ℕ) (ss : List Span) → AreSpans known heads at ss (length heads) → Ordered cs
      → Ordered (past_chunks cs ss)
  past_ordered at [] all pairs = tt
  past_ordered at (s ∷ ss) all pairs =
      let span = all.1 in
      pairs_join (between s.past s.end cs) (drop s.end cs) (past_chunks cs ss)
      (subst Ordered (behind_gap s span) (pairs_drop s.past cs pairs))
      (λ P. each_past P s.end ss all.2) (past_ordered s.end ss all.2 pairs)

-- ---- sifted one by one

tie_turned : (c d : Chunk) → tie c d ≡ true → tie d c ≡ true
tie_turned c d e = let n = tested.neither c d e in tested.are_alike d c n.1 n.0

tie_onward : (c d x : Chunk) → tie c d ≡ true → tie d x ≡ true → tie c x ≡ true
tie_onward c d x p q =
    let n = tested.neither c d p in
    let m = tested.neither d x q in
    tested.are_alike c x (tested.order.onward c d x n.0 m.0) (tested.order.onward x d c m.1 n.1)

pub self_behind : (c : Chunk) → comes_before c c ≡ false
self_behind c = go (comes_before c c) refl
  where
    go : (b : Bool) → comes_before c c ≡ b → comes_before c c ≡ false
    go true e = tested.order.one_way c c e
    go false e = e

tie_self : (c : Chunk) → tie c c ≡ true
tie_self c = tested.are_alike c c (self_behind c) (self_behind c)

pub is_false : (b : Bool) → (b ≡ true → ⊥) → b ≡ false
is_false true h = absurd (h refl)
is_false false h = refl

-- of the kept ones those from this place on are alike with one, and no others
pub record Apart (c : Chunk) (g : ℕ) (kept : List Chunk) : Type 0 where
  pub far : Each (λ x. tie c x ≡ false) (take g kept)
  pub near : Each (λ x. tie c x ≡ true) (drop g kept)

-- the next one is alike with the one before it
pub goes_apart : (c d : Chunk) (g : ℕ) (kept : List Chunk) → tie c d ≡ true → Apart c g kept → Apart d g kept
goes_apart c d g kept same a = record {
  far = each_as (λ x. tie c x ≡ false) (λ x. tie d x ≡ false) (take g kept)
      (λ x off. is_false (tie d x) (λ e. true≢false (sym (tie_onward c d x same e) ∙ off))) a.far;
  near = each_as (λ x. tie c x ≡ true) (λ x. tie d x ≡ true) (drop g kept)
      (λ x on. tie_onward d c x (tie_turned c d same) on) a.near;
}

-- it isn't
pub stops_apart : (c d : Chunk) (kept : List Chunk) → tie c d ≡ false → comes_before d c ≡ false
    → Each (λ x. comes_before c x ≡ false) kept → Apart d (length kept) kept
stops_apart c d kept off behind all = record {
  far = subst (Each (λ x. tie d x ≡ false)) (sym (take-length kept))
      (each_as (λ x. comes_before c x ≡ false) (λ x. tie d x ≡ false) kept
      (λ x low. is_false (tie d x) (λ e.
      let n = tested.neither d x e in
      true≢false (sym (tested.are_alike c d (tested.order.onward c x d low n.1) behind) ∙ off))) all);
  near = subst (Each (λ x. tie d x ≡ true)) (sym (drop_of_length-le kept (omega arith))) tt;
}

-- it is kept, too
pub put_apart : (d : Chunk) (g : ℕ) (kept : List Chunk) → g ≤ length kept → Apart d g kept → Apart d g (kept ++ d ∷ [])
put_apart d g kept low a = record {
  far = subst (Each (λ x. tie d x ≡ false)) (sym (take-append-le g kept (d ∷ []) low)) a.far;
  near = subst (Each (λ x. tie d x ≡ true)) (sym (drop-append-le g kept (d ∷ []) low))
      (each_join (λ x. tie d x ≡ true) (drop g kept) (d ∷ []) a.near (tie_self d, tt));
}

any_none : (p : Chunk → Bool) (xs : List Chunk) → Each (λ x. p x ≡ false) xs → list_any p xs ≡ false
any_none p [] all = refl
any_none p (x ∷ xs) all = or_from (p x) (list_any p xs) all.0 (any_none p xs all.1)

any_as : (p q : Chunk → Bool) (xs : List Chunk) → Each (λ x. p x ≡ q x) xs → list_any p xs ≡ list_any q xs
any_as p q [] all = refl
any_as p q (x ∷ xs) all = ap (λ b. b || list_any p xs) all.0 ∙ ap (λ b. q x || b) (any_as p q xs all.1)

-- among the kept ones that are alike the data tell
pub any_data : (d : Chunk) (g : ℕ) (kept : List Chunk) → Apart d g kept
    → list_any (λ x. same_data x d) kept ≡ list_any (λ x. bytes_eq x.value d.value) (drop g kept)
any_data d g kept a =
    let p : Chunk → Bool = λ x. same_data x d in
    ap (list_any p) (sym (take-append-drop g kept))
    ∙ (list_any-append p (take g kept) (drop g kept)
    ∙ (ap (λ b. b || list_any p (drop g kept)) (any_none p (take g kept)
    (each_as (λ x. tie d x ≡ false) (λ x. p x ≡ false) (take g kept)
    (λ x off. is_false (p x) (λ e. true≢false (sym (tie_turned x d (same_ties x d e)) ∙ off))) a.far))
    ∙ any_as p (λ x. bytes_eq x.value d.value) (drop g kept)
    (each_as (λ x. tie d x ≡ true) (λ x. p x ≡ bytes_eq x.value d.value) (drop g kept)
    (λ x on. same_by x d (tie_turned d x on)) a.near)))
  where
    same_by : (x d : Chunk) → tie x d ≡ true → same_data x d ≡ bytes_eq x.value d.value
    same_by x d e =
        let s = and_parts (same_stream x.key.stream d.key.stream)
        (nat_eq (chunk_begin x) (chunk_begin d) && nat_eq (chunk_end x) (chunk_end d)) e in
        let t = and_parts (nat_eq (chunk_begin x) (chunk_begin d)) (nat_eq (chunk_end x) (chunk_end d)) s.1 in
        ap (λ b. b && (nat_eq x.key.seq d.key.seq && bytes_eq x.value d.value)) s.0
        ∙ ap (λ b. b && bytes_eq x.value d.value) t.1

abbrev pub new_one : Bool → Chunk → List Chunk
new_one b d = elim b [ true ↦ [] | false ↦ d ∷ [] ]

any_filter : (p q : Chunk → Bool) (xs : List Chunk) → ((x : Chunk) → p x ≡ true → q x ≡ true)
    → list_any p (filter q xs) ≡ list_any p xs
any_filter p q [] h = refl
any_filter p q (x ∷ xs) h = go (q x) refl (any_filter p q xs h)
  where
    go : (b : Bool) → q x ≡ b → list_any p (filter q xs) ≡ list_any p xs
        → list_any p (cond (q x) (x ∷ filter q xs) (filter q xs)) ≡ list_any p (x ∷ xs)
    go true e rest = ap (λ b. list_any p (cond b (x ∷ filter q xs) (filter q xs))) e ∙ ap (λ b. p x || b) rest
    go false e rest =
        ap (λ b. list_any p (cond b (x ∷ filter q xs) (filter q xs))) e
        ∙ (rest ∙ ap (λ b. b || list_any p xs) (sym (is_false (p x) (λ y. true≢false (sym (h x y) ∙ e)))))

-- one more at the end is kept where none of the kept ones has its data
pub once_more : (xs : List Chunk) (d : Chunk)
    → once (xs ++ d ∷ []) ≡ once xs ++ new_one (list_any (λ x. same_data x d) (once xs)) d
once_more [] d = refl
once_more (c ∷ xs) d =
    ap (λ l. c ∷ filter (other_than c) l) (once_more xs d)
    ∙ ap (λ l. c ∷ l) (filter-append (other_than c) (once xs) (new_one (list_any p (once xs)) d)
    ∙ ap (λ l. filter (other_than c) (once xs) ++ l) (go (same_data c d) refl (list_any p (once xs)) refl))
  where
    p : Chunk → Bool
    p x = same_data x d

    rest : Bool
    rest = list_any p (filter (other_than c) (once xs))

    go : (s : Bool) → same_data c d ≡ s → (b : Bool) → list_any p (once xs) ≡ b
        → filter (other_than c) (new_one (list_any p (once xs)) d)
        ≡ new_one (same_data c d || rest) d
    go true e true f =
        ap (λ b. filter (other_than c) (new_one b d)) f ∙ ap (λ b. new_one (b || rest) d) (sym e)
    go true e false f =
        ap (λ b. filter (other_than c) (new_one b d)) f
        ∙ (filter_off (other_than c) d [] (ap not e) ∙ ap (λ b. new_one (b || rest) d) (sym e))
    go false e b f =
        let same : rest ≡ b = any_filter p (other_than c) (once xs)
        (λ x on. unlike c (same_data c x) (λ y. true≢false (sym (same_onward c x d y on) ∙ e))) ∙ f in
        ap (λ t. filter (other_than c) (new_one t d)) f
        ∙ (kept b ∙ (ap (λ t. new_one t d) (sym same) ∙ ap (λ t. new_one (t || rest) d) (sym e)))
      where
        kept : (b : Bool) → filter (other_than c) (new_one b d) ≡ new_one b d
        kept true = refl
        kept false = filter_on (other_than c) d [] (ap not e)

-- what is the same as one is among those that are kept where it is among all
pub any_once : (xs : List Chunk) (d : Chunk) → list_any (λ x. same_data x d) (once xs) ≡ list_any (λ x. same_data x d) xs
any_once [] d = refl
any_once (c ∷ xs) d = go (same_data c d) refl (any_once xs d)
  where
    p : Chunk → Bool
    p x = same_data x d

    go : (b : Bool) → same_data c d ≡ b → list_any p (once xs) ≡ list_any p xs
        → (same_data c d || list_any p (filter (other_than c) (once xs))) ≡ (same_data c d || list_any p xs)
    go true e rest =
        ap (λ b. b || list_any p (filter (other_than c) (once xs))) e ∙ sym (ap (λ b. b || list_any p xs) e)
    go false e rest =
        ap (λ b. same_data c d || b)
        (any_filter p (other_than c) (once xs)
        (λ x on. unlike c (same_data c x) (λ y. true≢false (sym (same_onward c x d y on) ∙ e)))
        ∙ rest)

-- none of them is the same as a later one
abbrev pub Differ : List Chunk → Type 0
Differ [] = Unit {0}
Differ (c ∷ cs) = Each (λ x. other_than c x ≡ true) cs × Differ cs

differ_filter : (p : Chunk → Bool) (xs : List Chunk) → Differ xs → Differ (filter p xs)
differ_filter p [] all = tt
differ_filter p (x ∷ xs) all =
    let rest = differ_filter p xs all.1 in
    cond_both (p x) (x ∷ filter p xs) (filter p xs) Differ
    (λ e. (each_filter (λ y. other_than x y ≡ true) p xs all.0, rest)) (λ e. rest)

pub once_differ : (xs : List Chunk) → Differ (once xs)
once_differ [] = tt
once_differ (c ∷ cs) =
    (filter_each (other_than c) (once cs), differ_filter (other_than c) (once cs) (once_differ cs))

pub differ_at : (xs : List Chunk) → Differ xs → (i j : ℕ) → i < j → j < length xs
    → same_data (slice_index_or xs i no_chunk) (slice_index_or xs j no_chunk) ≡ false
differ_at [] all i j low high = absurd (let z : ⊥ = omega (arith, high) in z)
differ_at (x ∷ xs) all i zero low high = absurd (let z : ⊥ = omega (arith, low) in z)
differ_at (x ∷ xs) all zero (suc j) low high =
    is_false (same_data x (slice_index_or xs j no_chunk))
    (λ e. true≢false (sym (each_index (λ y. other_than x y ≡ true) xs all.0 j (omega (arith, high)) no_chunk) ∙ ap not e))
differ_at (x ∷ xs) all (suc i) (suc j) low high = differ_at xs all.1 i j (omega (arith, low)) (omega (arith, high))

pub none_any : (p : Chunk → Bool) (xs : List Chunk) → list_any p xs ≡ false → (i : ℕ) → i < length xs
    → p (slice_index_or xs i no_chunk) ≡ false
none_any p [] none i low = absurd (let z : ⊥ = omega (arith, low) in z)
none_any p (x ∷ xs) none zero low = (or_parts (p x) (list_any p xs) none).0
none_any p (x ∷ xs) none (suc i) low = none_any p xs (or_parts (p x) (list_any p xs) none).1 i (omega (arith, low))
