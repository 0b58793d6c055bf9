-- Heads that were taken file by file, the last file first, are put in the same order as those that
-- stand as in the files.
use Rattle.std.proofs.Common.{◌≡◌, ◌⊎◌, inl, inr, ℕ, ◌<◌, ◌≤◌, Bool, true, false, true≢false, List, [], ◌∷◌, ◌++◌, Option, Some, None, refl, sym, ◌∙◌, ap, subst, arith, append-nil, if◌then◌else◌, ◌&&◌, ◌||◌}
use Rattle.std.specs.Prelude.{Contains, filter, nat_lt, nat_eq, nat_le, not, ◌==◌}
use Rattle.std.specs.List.Sorted.{ties}
use Rattle.std.proofs.lemmas.Bool.{cases_Bool, and_parts, and_cases, or_parts, not-true, eqb-true, lt-ltb}
use Rattle.std.proofs.lemmas.List.{get_or_default}
use Rattle.std.proofs.lemmas.List.Elements.{filter-append}
use Rattle.std.proofs.lemmas.Option.{none-some}
use Rattle.chk_chunk.specs.Keys.{same_stream, stream_lt}
use Rattle.chk_world.specs.Books.{End}
use Rattle.chk_world.proofs.Each.{Each, each_from, each_at, filter_each, filter_in, first_in}
use Rattle.chk_world.proofs.NameTests.{streams_same}
use Rattle.chk_record_index.specs.Heads.{Head}
use Rattle.chk_record_index.specs.Order.{head_before, in_head_order}
use Rattle.chk_record_index.proofs.Orders.{WeakOrder, lex, through, tested_through, numbers, streams}
use Rattle.chk_record_index.proofs.Sorting.{one_order, sort_sorted, sort_ties}
use Rattle.chk_record_reader.specs.Courses.{is_head_of, end_of, goes_on, first_break}
use Rattle.chk_record_reader.specs.OnePass.{no_end, IsListed}
use Rattle.chk_demux_scan.proofs.Streams.{end_found}
use Rattle.chk_demux_scan.proofs.Streams.{HasBytes}
use Rattle.chk_demux_scan.proofs.Forwards.{filter_swap}
use Rattle.chk_demux_scan.specs.Backward.{RunsBack, AllRunBack}
use Rattle.chk_demux_scan.specs.Newest.{SameTies}

heads_ordered : WeakOrder head_before
heads_ordered =
    lex (λ (h k : Head). stream_lt h.key.stream k.key.stream)
    (λ (h k : Head). same_stream h.key.stream k.key.stream)
    (λ (h k : Head). nat_lt h.begin k.begin ||
    (nat_eq h.begin k.begin && nat_lt h.key.seq k.key.seq))
    (tested_through (λ (h : Head). h.key.stream) stream_lt same_stream streams)
    (lex (λ (h k : Head). nat_lt h.begin k.begin) (λ (h k : Head). nat_eq h.begin k.begin)
    (λ (h k : Head). nat_lt h.key.seq k.key.seq)
    (tested_through (λ (h : Head). h.begin) nat_lt nat_eq numbers)
    (through (λ (h : Head). h.key.seq) nat_lt numbers.order))

-- what no order tells apart in the same way is put in order in the same way
pub in_one_order : (hs ks : List Head) → SameTies hs ks → in_head_order hs ≡ in_head_order ks
in_one_order hs ks same =
    one_order head_before heads_ordered (in_head_order hs) (in_head_order ks)
    (sort_sorted head_before heads_ordered hs) (sort_sorted head_before heads_ordered ks)
    (λ z. sort_ties head_before heads_ordered z hs ∙
    (same z ∙ sym (sort_ties head_before heads_ordered z ks)))

-- ---- lists

each_behind : {X : Type 0} (P : X → Type 0) (xs ys : List X) → Each P (xs ++ ys) → Each P ys
each_behind P [] ys all = all
each_behind P (x ∷ xs) ys all = each_behind P xs ys all.1

none_pass : {X : Type 0} (p : X → Bool) (xs : List X) → Each (λ x. p x ≡ false) xs
    → filter p xs ≡ []
none_pass p [] all = refl
none_pass p (x ∷ xs) all = ap (λ b. if b then x ∷ filter p xs else filter p xs) all.0 ∙ none_pass p
    xs all.1

swap : (xs ys : List Head) → (xs ≡ []) ⊎ (ys ≡ []) → xs ++ ys ≡ ys ++ xs
swap xs ys (inl none) = ap (λ l. l ++ ys) none ∙
    (sym (append-nil ys) ∙ sym (ap (λ l. ys ++ l) none))
swap xs ys (inr none) = ap (λ l. xs ++ l) none ∙
    (append-nil xs ∙ sym (ap (λ l. l ++ xs) none))

-- ---- the records of a stream in front of others of it

abbrev Past : End → ℕ → Head → Type 0
Past e n h = is_head_of e.stream h ≡ true → n ≤ h.begin

abbrev Below : End → ℕ → Head → Type 0
Below e n h = is_head_of e.stream h ≡ true → h.begin < n

past : (e : End) (n : ℕ) (hs : List Head) → Each HasBytes hs → first_break e.stream e n hs ≡ None
    → Each (Past e n) hs
past e n [] some fine = tt
past e n (h ∷ hs) some fine =
    go (λ m f. past e m hs some.1 f) (is_head_of e.stream h) (goes_on e n h) refl refl fine
  where
    later : (m : ℕ) → n ≤ m → (ks : List Head) → Each (Past e m) ks → Each (Past e n) ks
    later m less [] all = tt
    later m less (k ∷ ks) all = (
      (λ is. let a = all.0 is in let z : n ≤ k.begin = omega
          (arith, a, less) in z),
      later m less ks all.1,
    )

    go : ((m : ℕ) → first_break e.stream e m hs ≡ None → Each (Past e m) hs) → (b g : Bool)
        → is_head_of e.stream h ≡ b
        → goes_on e n h ≡ g
        → (if b then (if g then first_break e.stream e h.key.seq hs else Some h) else first_break
        e.stream e n hs) ≡ None
        → Each (Past e n) (h ∷ hs)
    go rest true true is on fine =
        let p = and_parts (h.key.start == e.start) (h.begin == n && nat_le h.key.seq e.end) on in
        let q = and_parts (h.begin == n) (nat_le h.key.seq e.end) p.1 in
        let at : h.begin ≡ n = eqb-true h.begin n q.0 in
        let has : h.begin < h.key.seq = some.0 in (
          (λ own. let z : n ≤ h.begin = omega (arith, at) in z),
          later h.key.seq (let z : n ≤ h.key.seq = omega (arith, at, has) in z) hs
              (rest h.key.seq fine),
        )
    go rest true false is on fine = absurd (none-some h (sym fine))
    go rest false g is on fine = ((λ own. absurd (true≢false (sym own ∙ is))), rest n fine)

apart : (e : End) (n : ℕ) (block found : List Head) (x : Head) → Each HasBytes (block ++ found)
    → first_break e.stream e n (block ++ found) ≡ None → Contains found x
    → is_head_of e.stream x ≡ true
    → Each (Below e x.begin) block
apart e n [] found x some fine there mine = tt
apart e n (h ∷ block) found x some fine there mine =
    go (λ m f. apart e m block found x some.1 f there mine) (is_head_of e.stream h) (goes_on e n h)
    refl fine
  where
    go : ((m : ℕ) → first_break e.stream e m (block ++ found) ≡ None
        → Each (Below e x.begin) block)
        → (b g : Bool) → is_head_of e.stream h ≡ b
        → (if b then (if g then first_break e.stream e h.key.seq (block ++ found) else Some h)
        else first_break e.stream e n (block ++ found)) ≡ None
        → Each (Below e x.begin) (h ∷ block)
    go rest true true is fine =
        let behind = each_behind (Past e h.key.seq) block found
        (past e h.key.seq (block ++ found) some.1 fine) in
        let far : h.key.seq ≤ x.begin = each_at (Past e h.key.seq) found x behind there mine in
        let has : h.begin < h.key.seq = some.0 in
        ((λ own. let z : h.begin < x.begin = omega (arith, far, has) in z), rest h.key.seq fine)
    go rest true false is fine = absurd (none-some h (sym fine))
    go rest false g is fine = ((λ own. absurd (true≢false (sym own ∙ is))), rest n fine)

-- ---- no head of the one part is like one of the other

module _ (es : List End) (block found : List Head) (all : AllRunBack es (block ++ found))
    (bytes : Each HasBytes (block ++ found)) where
  each_runs : Each (λ e. RunsBack e (block ++ found)) es
  each_runs = each_from (λ e. RunsBack e (block ++ found)) es
      (λ e one. subst (λ d. RunsBack d (block ++ found))
      (get_or_default es one.0 no_end e one.1 ∙ one.2) (all.run one.0 one.1))

  -- the end of a head's stream
  end_for : (x : Head) → Contains found x → (e : End) × (is_head_of e.stream x ≡ true) × RunsBack e
      (block ++ found)
  end_for x there =
      go (end_of x.key.stream es) refl (each_at (IsListed es) found x
      (each_behind (IsListed es) block found all.listed) there)
    where
      go : (o : Option End) → end_of x.key.stream es ≡ o → (end_of x.key.stream es ≡ None → ⊥)
          → (e : End) × (is_head_of e.stream x ≡ true) × RunsBack e (block ++ found)
      go None is listed = absurd (listed is)
      go (Some e) is listed =
          let f = end_found (λ e. RunsBack e (block ++ found)) x.key.stream es e each_runs is in
          let same : x.key.stream ≡ e.stream = streams_same x.key.stream e.stream f.0 in (
            e,
            subst (λ t. same_stream e.stream t ≡ true) (sym same)
                (subst (λ t. same_stream t e.stream ≡ true) same f.0),
            f.1,
          )

  -- two that tie with a third don't come before each other
  neither : (z x y : Head) → ties head_before z x ≡ true → ties head_before z y ≡ true
      → head_before y x ≡ false
  neither z x y p q =
      let a = and_parts (not (head_before z x)) (not (head_before x z)) p in
      let b = and_parts (not (head_before z y)) (not (head_before y z)) q in
      heads_ordered.onward y z x (not-true (head_before y z) b.1) (not-true (head_before z x) a.0)

  unlike : (z x : Head) → Contains found x → ties head_before z x ≡ true
      → Each (λ y. ties head_before z y ≡ false) block
  unlike z x there tie = go block (apart e.0 _ block found x bytes e.2.unbroken there e.1)
    where
      e : (e : End) × (is_head_of e.stream x ≡ true) × RunsBack e (block ++ found)
      e = end_for x there

      one : (y : Head) → Below e.0 x.begin y → ties head_before z y ≡ true → ⊥
      one y below also =
          let first = neither z x y tie also in
          let second = neither z y x also tie in
          let p = or_parts (stream_lt y.key.stream x.key.stream)
          (same_stream y.key.stream x.key.stream &&
          (nat_lt y.begin x.begin || (nat_eq y.begin x.begin && nat_lt y.key.seq x.key.seq)))
          first in
          let q = or_parts (stream_lt x.key.stream y.key.stream)
          (same_stream x.key.stream y.key.stream &&
          (nat_lt x.begin y.begin || (nat_eq x.begin y.begin && nat_lt x.key.seq y.key.seq)))
          second in
          let alike : same_stream y.key.stream x.key.stream ≡ true = streams.are_alike y.key.stream
          x.key.stream p.0 q.0 in
          let same : y.key.stream ≡ x.key.stream = streams_same y.key.stream x.key.stream alike in
          let low : y.begin < x.begin = below
          (subst (λ t. same_stream e.0.stream t ≡ true) (sym same) e.1) in
          elim (and_cases (same_stream y.key.stream x.key.stream)
          (nat_lt y.begin x.begin || (nat_eq y.begin x.begin && nat_lt y.key.seq x.key.seq)) p.1) [
            | inl apart ↦ true≢false (sym alike ∙ apart)
            | inr other ↦
                true≢false (sym (lt-ltb y.begin x.begin low)
                ∙ (or_parts (nat_lt y.begin x.begin)
                (nat_eq y.begin x.begin && nat_lt y.key.seq x.key.seq) other).0)
          ]

      go : (ys : List Head) → Each (Below e.0 x.begin) ys
          → Each (λ y. ties head_before z y ≡ false) ys
      go [] all = tt
      go (y ∷ ys) all = (
        elim (cases_Bool (ties head_before z y)) [
          | inl also ↦ absurd (one y all.0 also)
          | inr other ↦ other
        ],
        go ys all.1,
      )

  one_empty : (z : Head) → (filter (ties head_before z) found ≡ []) ⊎
      (filter (ties head_before z) block ≡ [])
  one_empty z = go (filter (ties head_before z) found) refl
    where
      go : (xs : List Head) → filter (ties head_before z) found ≡ xs
          → (filter (ties head_before z) found ≡ []) ⊎ (filter (ties head_before z) block ≡ [])
      go [] is = inl is
      go (x ∷ xs) is =
          let tie = (subst (Each (λ y. ties head_before z y ≡ true)) is
          (filter_each (ties head_before z) found)).0 in
          let there = filter_in (ties head_before z) found x
          (first_in (filter (ties head_before z) found) x xs is) in
          inr (none_pass (ties head_before z) block (unlike z x there tie))

  -- so those of the file's heads that pass a test may stand behind those of the later files, or in
  -- front of them
  pub ties_step : (p : Head → Bool) (heads : List Head) → SameTies heads (filter p found)
      → SameTies (heads ++ filter p block) (filter p (block ++ found))
  ties_step p heads same z =
      filter-append t heads (filter p block)
      ∙ (ap (λ l. l ++ filter t (filter p block)) (same z)
      ∙ (swap (filter t (filter p found)) (filter t (filter p block)) (empty (one_empty z))
      ∙ (sym (filter-append t (filter p block) (filter p found))
      ∙ sym (ap (filter t) (filter-append p block found)))))
    where
      t : Head → Bool
      t = ties head_before z

      none_left : (hs : List Head) → filter t hs ≡ [] → filter t (filter p hs) ≡ []
      none_left hs none = filter_swap t p hs ∙ ap (filter p) none

      empty : (filter t found ≡ []) ⊎ (filter t block ≡ [])
          → (filter t (filter p found) ≡ []) ⊎ (filter t (filter p block) ≡ [])
      empty (inl none) = inl (none_left found none)
      empty (inr none) = inr (none_left block none)
