-- Streams' records in one file, followed from its first one on.
use Rattle.std.proofs.Common.{◌≡◌, ◌<◌, ◌∙◌, inl, inr, ℕ, zero, suc, Bool, true, false, true≢false, List, [], ◌∷◌, ◌++◌, length, map, get_or, set, Some, None, refl, sym, ap, subst, arith, if◌then◌else◌, append_assoc, append-nil, ◌&&◌, ◌||◌, ◌==◌, get_or-set_same, get_or-set_other}
use Rattle.std.specs.Prelude.{IsTrue, filter, nat_lt, nat_le}
use Rattle.std.specs.List.Sorted.{ties}
use Rattle.std.proofs.lemmas.Bool.{cases_eq, cases_Bool, and_parts, and_from, eqb-true, eq-eqb}
use Rattle.std.proofs.lemmas.List.{get_or_default, length-map}
use Rattle.std.proofs.lemmas.List.Elements.{filter-append}
use Rattle.std.proofs.lemmas.Option.{none-some}
use Rattle.chk_chunk.specs.Keys.{Stream, same_stream}
use Rattle.chk_world.specs.Books.{End, ends_rise}
use Rattle.chk_world.proofs.Each.{Each}
use Rattle.chk_world.proofs.BooksTrue.{each_append}
use Rattle.chk_world.proofs.NameTests.{streams_same}
use Rattle.chk_record_index.specs.Heads.{Head}
use Rattle.chk_record_index.specs.Order.{head_before}
use Rattle.chk_book.specs.declared.lists.End.{End as EndStruct}
use Rattle.chk_book.specs.Views.{end_view}
use Rattle.chk_record_reader.specs.Courses.{is_head_of, is_end_of, end_of, goes_on, first_break, reached}
use Rattle.chk_record_reader.specs.OnePass.{end_at, AreOnce, IsListed}
use Rattle.chk_demux_scan.specs.Backward.{begin_in, RunsBack, AllRunBack, AreBegins}
use Rattle.chk_demux_scan.specs.Forward.{no_span, is_past, past_of, follows, IsSpan, no_records, some_records, AreSpans, IsBroken, NextSpan, JoinsSpan, stays, joins, LeavesSpan, Looks, runs}
use Rattle.chk_demux_scan.specs.Newest.{SameTies}
use Rattle.chk_demux_scan.specs.declared.forward.Span.{Span}
use Rattle.chk_record_reader.proofs.OnePass.{end_there, head_listed}
use Rattle.chk_demux_scan.proofs.Backwards.{Course, course_behind, begins_so, once, not_listed}

-- ---- records behind others

pub break_on : (e : End) (b : ℕ) (xs ys : List Head) → first_break e.stream e b xs ≡ None
    → first_break e.stream e b (xs ++ ys) ≡ first_break e.stream e (reached e.stream b xs) ys
break_on e b [] ys fine = refl
break_on e b (x ∷ xs) ys fine =
    go (λ n f. break_on e n xs ys f) (is_head_of e.stream x) (goes_on e b x) fine
  where
    go : ((n : ℕ) → first_break e.stream e n xs ≡ None
        → first_break e.stream e n (xs ++ ys) ≡ first_break e.stream e (reached e.stream n xs) ys)
        → (p g : Bool)
        → (if p then (if g then first_break e.stream e x.key.seq xs else Some x)
        else first_break e.stream e b xs) ≡ None
        → (if p then (if g then first_break e.stream e x.key.seq (xs ++ ys) else Some x)
        else first_break e.stream e b (xs ++ ys))
        ≡ first_break e.stream e
        (if p then reached e.stream x.key.seq xs else reached e.stream b xs) ys
    go rest true true fine = rest x.key.seq fine
    go rest true false fine = absurd (none-some x (sym fine))
    go rest false g fine = rest b fine

pub reached_on : (s : Stream) (b : ℕ) (xs ys : List Head)
    → reached s b (xs ++ ys) ≡ reached s (reached s b xs) ys
reached_on s b [] ys = refl
reached_on s b (x ∷ xs) ys = go (λ n. reached_on s n xs ys) (is_head_of s x)
  where
    go : ((n : ℕ) → reached s n (xs ++ ys) ≡ reached s (reached s n xs) ys) → (p : Bool)
        → (if p then reached s x.key.seq (xs ++ ys) else reached s b (xs ++ ys))
        ≡ reached s (if p then reached s x.key.seq xs else reached s b xs) ys
    go rest true = rest x.key.seq
    go rest false = rest b

-- ---- the place of a head's stream

-- the end is that of the head's stream
mine_of : (h : Head) (e : End) → is_end_of h.key.stream e ≡ true → is_head_of e.stream h ≡ true
mine_of h e found =
    let of_end : h.key.stream ≡ e.stream = streams_same h.key.stream e.stream found in
    subst (λ t. same_stream e.stream t ≡ true) (sym of_end)
    (subst (λ t. same_stream t e.stream ≡ true) of_end found)

-- no other end is
other_end : (es : List End) → AreOnce es → (h : Head) (k : ℕ) → k < length es
    → is_end_of h.key.stream (end_at es k) ≡ true → (j : ℕ) → (j ≡ k → ⊥) → j < length es
    → is_head_of (end_at es j).stream h ≡ false
other_end es only h k below found j apart low =
    elim (cases_Bool (is_head_of (end_at es j).stream h)) [
      | inl its ↦ absurd (apart (only j k low below
          (subst (λ t. same_stream (end_at es j).stream t ≡ true)
          (streams_same h.key.stream (end_at es k).stream found) its)))
      | inr other ↦ other
    ]

once_behind : (e : End) (es : List End) → AreOnce (e ∷ es) → AreOnce es
once_behind e es only j k a b same =
    let z : suc j ≡ suc k = only (suc j) (suc k) (omega (arith, a)) (omega (arith, b)) same in
    omega (arith, z)

past_once : (es : List End) (places : List ℕ) (h : Head) (k : ℕ) → AreOnce es
    → length places ≡ length es → k < length es → is_end_of h.key.stream (end_at es k) ≡ true
    → is_past es places h ≡ nat_lt (get_or places k 0) h.key.seq
past_once [] places h k only same low found = absurd (let z : ⊥ = omega (arith, low) in z)
past_once (e ∷ es) [] h k only same low found = absurd (let z : ⊥ = omega (arith, same) in z)
past_once (e ∷ es) (p ∷ ps) h zero only same low found =
    ap (λ b. if b then nat_lt p h.key.seq else is_past es ps h) (mine_of h e found)
past_once (e ∷ es) (p ∷ ps) h (suc k) only same low found =
    ap (λ b. if b then nat_lt p h.key.seq else is_past es ps h)
    (other_end (e ∷ es) only h (suc k) low found 0 (λ at. let z : ⊥ = omega (arith, at) in z)
    (omega arith))
    ∙ past_once es ps h k (once_behind e es only) (omega (arith, same)) (omega (arith, low)) found

pub past_at : (es : List End) (places : List ℕ) (h : Head) (k : ℕ) → IsTrue (ends_rise es)
    → length places ≡ length es → k < length es → is_end_of h.key.stream (end_at es k) ≡ true
    → is_past es places h ≡ nat_lt (get_or places k 0) h.key.seq
past_at es places h k rise same low found = past_once es places h k (once es rise) same low found

-- ---- a head more

-- of some records it doesn't matter what stands behind them, or where they are gone through from
begin_on : (e : End) (b : ℕ) (hs ks : List Head) → (reached e.stream b hs ≡ b → ⊥)
    → begin_in e (hs ++ ks) ≡ begin_in e hs
begin_on e b [] ks some = absurd (some refl)
begin_on e b (h ∷ hs) ks some = go (λ m. begin_on e b hs ks m) (is_head_of e.stream h) some
  where
    go : ((reached e.stream b hs ≡ b → ⊥) → begin_in e (hs ++ ks) ≡ begin_in e hs) → (p : Bool)
        → ((if p then reached e.stream h.key.seq hs else reached e.stream b hs) ≡ b → ⊥)
        → (if p then h.begin else begin_in e (hs ++ ks)) ≡ (if p then h.begin else begin_in e hs)
    go rest true has = refl
    go rest false has = rest has

reached_any : (s : Stream) (b c : ℕ) (hs : List Head) → (reached s b hs ≡ b → ⊥)
    → reached s c hs ≡ reached s b hs
reached_any s b c [] some = absurd (some refl)
reached_any s b c (h ∷ hs) some = go (λ m. reached_any s b c hs m) (is_head_of s h) some
  where
    go : ((reached s b hs ≡ b → ⊥) → reached s c hs ≡ reached s b hs) → (p : Bool)
        → ((if p then reached s h.key.seq hs else reached s b hs) ≡ b → ⊥)
        → (if p then reached s h.key.seq hs else reached s c hs)
        ≡ (if p then reached s h.key.seq hs else reached s b hs)
    go rest true has = refl
    go rest false has = rest has

-- those in front of others don't break where all don't
break_front : (e : End) (b : ℕ) (xs ys : List Head) → first_break e.stream e b (xs ++ ys) ≡ None
    → first_break e.stream e b xs ≡ None
break_front e b [] ys fine = refl
break_front e b (x ∷ xs) ys fine =
    go (λ n m. break_front e n xs ys m) (is_head_of e.stream x) (goes_on e b x) fine
  where
    go : ((n : ℕ) → first_break e.stream e n (xs ++ ys) ≡ None
        → first_break e.stream e n xs ≡ None)
        → (p g : Bool)
        → (if p then (if g then first_break e.stream e x.key.seq (xs ++ ys) else Some x)
        else first_break e.stream e b (xs ++ ys)) ≡ None
        → (if p then (if g then first_break e.stream e x.key.seq xs else Some x)
        else first_break e.stream e b xs) ≡ None
    go rest true true on = rest x.key.seq on
    go rest true false on = absurd (none-some x (sym on))
    go rest false g on = rest b on

-- records of other streams
abbrev Others : End → List Head → Type 0
Others e hs = Each (λ h. is_head_of e.stream h ≡ false) hs

begin_skip : (e : End) (hs ks : List Head) → Others e hs → begin_in e (hs ++ ks) ≡ begin_in e ks
begin_skip e [] ks all = refl
begin_skip e (h ∷ hs) ks all =
    ap (λ b. if b then h.begin else begin_in e (hs ++ ks)) all.0 ∙ begin_skip e hs ks all.1

break_skip : (e : End) (b : ℕ) (hs ks : List Head) → Others e hs
    → first_break e.stream e b (hs ++ ks) ≡ first_break e.stream e b ks
break_skip e b [] ks all = refl
break_skip e b (h ∷ hs) ks all =
    ap (λ p. if p then (if goes_on e b h then first_break e.stream e h.key.seq (hs ++ ks)
    else Some h) else first_break e.stream e b (hs ++ ks)) all.0 ∙ break_skip e b hs ks all.1

reached_skip : (e : End) (b : ℕ) (hs ks : List Head) → Others e hs
    → reached e.stream b (hs ++ ks) ≡ reached e.stream b ks
reached_skip e b [] ks all = refl
reached_skip e b (h ∷ hs) ks all =
    ap (λ p. if p then reached e.stream h.key.seq (hs ++ ks) else reached e.stream b (hs ++ ks))
    all.0 ∙ reached_skip e b hs ks all.1

-- one record of the stream
one_break : (e : End) (b : ℕ) (h : Head) → is_head_of e.stream h ≡ true → goes_on e b h ≡ true
    → first_break e.stream e b (h ∷ []) ≡ None
one_break e b h mine on =
    ap (λ p. if p then (if goes_on e b h then first_break e.stream e h.key.seq [] else Some h)
    else first_break e.stream e b []) mine
    ∙ ap (λ g. if g then first_break e.stream e h.key.seq [] else Some h) on

one_reached : (e : End) (b : ℕ) (h : Head) → is_head_of e.stream h ≡ true
    → reached e.stream b (h ∷ []) ≡ h.key.seq
one_reached e b h mine =
    ap (λ p. if p then reached e.stream h.key.seq [] else reached e.stream b []) mine

one_begin : (e : End) (h : Head) → is_head_of e.stream h ≡ true → begin_in e (h ∷ []) ≡ h.begin
one_begin e h mine = ap (λ p. if p then h.begin else begin_in e []) mine

goes_from : (e : End) (b : ℕ) (h : Head) → (h.key.start == e.start) ≡ true → h.begin ≡ b
    → nat_le h.key.seq e.end ≡ true → goes_on e b h ≡ true
goes_from e b h start at within =
    and_from (h.key.start == e.start) (h.begin == b && nat_le h.key.seq e.end) start
    (and_from (h.begin == b) (nat_le h.key.seq e.end) (eq-eqb h.begin b at) within)

no_test : (a b : ℕ) → a < b → (a == b) ≡ false
no_test a b less = elim (cases_Bool (a == b)) [
  | inl same ↦
      absurd (let at : a ≡ b = eqb-true a b same in let z : ⊥ = omega (arith, at, less) in z)
  | inr other ↦ other
]

pub span_more : (e : End) (hs : List Head) (s t : Span) (h : Head)
    → is_head_of e.stream h ≡ true → follows e s h ≡ true → h.begin < h.key.seq
    → IsSpan e hs s → NextSpan s h t → IsSpan e (hs ++ h ∷ []) t
span_more e hs s t h mine on some is next = go is
  where
    p : ((h.key.start == e.start) ≡ true)
        × ((nat_le h.key.seq e.end && (s.first == s.next || s.next == h.begin)) ≡ true)
    p = and_parts (h.key.start == e.start)
        (nat_le h.key.seq e.end && (s.first == s.next || s.next == h.begin)) on

    q : (nat_le h.key.seq e.end ≡ true) × ((s.first == s.next || s.next == h.begin) ≡ true)
    q = and_parts (nat_le h.key.seq e.end) (s.first == s.next || s.next == h.begin) p.1

    go : IsSpan e hs s → IsSpan e (hs ++ h ∷ []) t
    go (no_records same none) =
        let at : t.first ≡ h.begin = next.1
        ∙ ap (λ (b : Bool). if b then h.begin else s.first) (eq-eqb s.first s.next same) in
        let ends = next.0 in
        some_records (omega (arith, at, ends, some))
        (begin_skip e hs (h ∷ []) none ∙ (one_begin e h mine ∙ sym at))
        (break_skip e t.first hs (h ∷ []) none
        ∙ one_break e t.first h mine (goes_from e t.first h p.0 (sym at) q.0))
        (reached_skip e t.first hs (h ∷ []) none ∙ (one_reached e t.first h mine ∙ sym ends))
    go (some_records less begins fine ends) =
        let apart : (s.first == s.next) ≡ false = no_test s.first s.next less in
        let to : s.next ≡ h.begin = eqb-true s.next h.begin
        (ap (λ (b : Bool). b || s.next == h.begin) (sym apart) ∙ q.1) in
        let at : t.first ≡ s.first = next.1
        ∙ ap (λ (b : Bool). if b then h.begin else s.first) apart in
        let last = next.0 in
        let has : reached e.stream s.first hs ≡ s.first → ⊥ =
        λ back. let z : ⊥ = omega (arith, back, ends, less) in z in
        some_records (omega (arith, at, last, less, to, some))
        (begin_on e s.first hs (h ∷ []) has ∙ (begins ∙ sym at))
        (ap (λ n. first_break e.stream e n (hs ++ h ∷ [])) at
        ∙ (break_on e s.first hs (h ∷ []) fine
        ∙ (ap (λ n. first_break e.stream e n (h ∷ [])) ends
        ∙ one_break e s.next h mine (goes_from e s.next h p.0 (sym to) q.0))))
        (ap (λ n. reached e.stream n (hs ++ h ∷ [])) at
        ∙ (reached_on e.stream s.first hs (h ∷ [])
        ∙ (one_reached e (reached e.stream s.first hs) h mine ∙ sym last)))

pub span_elsewhere : (e : End) (hs : List Head) (s : Span) (h : Head)
    → is_head_of e.stream h ≡ false → IsSpan e hs s → IsSpan e (hs ++ h ∷ []) s
span_elsewhere e hs s h other (no_records same none) =
    no_records same (each_append (λ k. is_head_of e.stream k ≡ false) hs (h ∷ []) none (other, tt))
span_elsewhere e hs s h other (some_records less begins fine ends) =
    some_records less
    (begin_on e s.first hs (h ∷ []) (λ back. let z : ⊥ = omega (arith, back, ends, less) in z)
    ∙ begins)
    (break_on e s.first hs (h ∷ []) fine
    ∙ break_skip e (reached e.stream s.first hs) (h ∷ []) [] (other, tt))
    (reached_on e.stream s.first hs (h ∷ [])
    ∙ (reached_skip e (reached e.stream s.first hs) (h ∷ []) [] (other, tt) ∙ ends))

-- one of its records begins where those in front of it end
goes_behind : (e : End) (b : ℕ) (hs later : List Head) (h : Head) → is_head_of e.stream h ≡ true
    → first_break e.stream e b (hs ++ h ∷ later) ≡ None
    → goes_on e (reached e.stream b hs) h ≡ true
goes_behind e b hs later h mine fine =
    go (goes_on e (reached e.stream b hs) h)
    (ap (λ p. if p then (if goes_on e (reached e.stream b hs) h
    then first_break e.stream e h.key.seq later else Some h)
    else first_break e.stream e (reached e.stream b hs) later) (sym mine)
    ∙ (sym (break_on e b hs (h ∷ later) (break_front e b hs (h ∷ later) fine)) ∙ fine))
  where
    go : (g : Bool) → (if g then first_break e.stream e h.key.seq later else Some h) ≡ None
        → g ≡ true
    go true on = refl
    go false on = absurd (none-some h (sym on))

-- the head goes on from those of its stream in the file
follows_from : (e : End) (hs : List Head) (s : Span) (b : ℕ) (h : Head) → IsSpan e hs s
    → goes_on e (reached e.stream b hs) h ≡ true → follows e s h ≡ true
follows_from e hs s b h is on =
    and_from (h.key.start == e.start)
    (nat_le h.key.seq e.end && (s.first == s.next || s.next == h.begin)) p.0
    (and_from (nat_le h.key.seq e.end) (s.first == s.next || s.next == h.begin) q.1 (go is))
  where
    p : ((h.key.start == e.start) ≡ true)
        × ((h.begin == reached e.stream b hs && nat_le h.key.seq e.end) ≡ true)
    p = and_parts (h.key.start == e.start)
        (h.begin == reached e.stream b hs && nat_le h.key.seq e.end) on

    q : ((h.begin == reached e.stream b hs) ≡ true) × (nat_le h.key.seq e.end ≡ true)
    q = and_parts (h.begin == reached e.stream b hs) (nat_le h.key.seq e.end) p.1

    go : IsSpan e hs s → (s.first == s.next || s.next == h.begin) ≡ true
    go (no_records same none) =
        ap (λ (x : Bool). x || s.next == h.begin) (eq-eqb s.first s.next same)
    go (some_records less begins fine ends) =
        let at = eqb-true h.begin (reached e.stream b hs) q.0 in
        let there = reached_any e.stream s.first b hs
        (λ back. let z : ⊥ = omega (arith, back, ends, less) in z) in
        ap (λ (x : Bool). x || s.next == h.begin) (no_test s.first s.next less)
        ∙ eq-eqb s.next h.begin (sym ends ∙ (sym there ∙ sym at))

-- the head isn't of a stream in the book
pub broken_unlisted : (es : List End) (hs : List Head) (h : Head)
    → end_of h.key.stream es ≡ None → IsBroken es (hs ++ h ∷ [])
broken_unlisted es hs h none front later all =
    not_listed es (front ++ hs) later h none
    (subst (AllRunBack es)
    (ap (λ l. front ++ l) (append_assoc hs (h ∷ []) later)
    ∙ sym (append_assoc front hs (h ∷ later))) all)

-- the head doesn't go on
pub broken_here : (es : List End) (hs : List Head) (spans : List Span) (h : Head) (k : ℕ)
    → k < length es → is_end_of h.key.stream (end_at es k) ≡ true
    → follows (end_at es k) (get_or spans k no_span) h ≡ false → AreSpans es hs spans
    → IsBroken es (hs ++ h ∷ [])
broken_here es hs spans h k low found off are front later all =
    let e = end_at es k in
    let back = all.run k low in
    let c = course_behind e (begin_in e (front ++ ((hs ++ h ∷ []) ++ later))) front
    ((hs ++ h ∷ []) ++ later) back.unbroken back.reaches in
    let fine : first_break e.stream e c.0 (hs ++ h ∷ later) ≡ None =
    ap (first_break e.stream e c.0) (sym (append_assoc hs (h ∷ []) later)) ∙ c.1.fine in
    true≢false
    (sym (follows_from e hs (get_or spans k no_span) c.0 h (are.are k low)
    (goes_behind e c.0 hs later h (mine_of h e found) fine)) ∙ off)

pub broken_more : (es : List End) (hs : List Head) (h : Head) → IsBroken es hs
    → IsBroken es (hs ++ h ∷ [])
broken_more es hs h broken front later all =
    broken front (h ∷ later)
    (subst (λ l. AllRunBack es (front ++ l)) (append_assoc hs (h ∷ []) later) all)

-- ---- the same of the structs of ends

module _ (ends : List EndStruct) (spans : List Span) (h : Head) (k : ℕ) (e : EndStruct) (s : Span)
    (below : k < length ends) (same : length spans ≡ length ends) (is : e ≡ get_or ends k e)
    (at : s ≡ get_or spans k s)
    (found : is_end_of h.key.stream (end_at (map end_view ends) k) ≡ true) where
  abbrev Ends : List End
  Ends = map end_view ends

  within : k < length Ends
  within = let count = length-map ends end_view in omega (arith, count, below)

  test_is : (x : Bool) → follows (end_view e) s h ≡ x
      → follows (end_at Ends k) (get_or spans k no_span) h ≡ x
  test_is x so =
      subst (λ d. follows d (get_or spans k no_span) h ≡ x) (end_there ends k e below is)
      (subst (λ r. follows (end_view e) r h ≡ x)
      (at ∙ get_or_default spans k s no_span (omega (arith, below, same))) so)

  pub spans_more : IsTrue (ends_rise Ends) → follows (end_view e) s h ≡ true
      → h.begin < h.key.seq → (t : Span) → NextSpan s h t → (seen : List Head)
      → AreSpans Ends seen spans → AreSpans Ends (seen ++ h ∷ []) (set spans k t)
  spans_more rise on some t next seen are = record {
    listed = each_append (IsListed Ends) seen (h ∷ []) are.listed
        (head_listed h.key.stream Ends k within found, tt);
    are = λ j low. elim (cases_eq j k) [
      | inl here ↦
          subst (λ i. IsSpan (end_at Ends i) (seen ++ h ∷ []) (get_or (set spans k t) i no_span))
          (sym here)
          (subst (IsSpan (end_at Ends k) (seen ++ h ∷ []))
          (sym (get_or-set_same spans k t no_span (omega (arith, below, same))))
          (span_more (end_at Ends k) seen (get_or spans k no_span) t h
          (mine_of h (end_at Ends k) found) (test_is true on) some (are.are k within)
          (subst (λ r. NextSpan r h t)
          (at ∙ get_or_default spans k s no_span (omega (arith, below, same))) next)))
      | inr apart ↦
          subst (IsSpan (end_at Ends j) (seen ++ h ∷ []))
          (sym (get_or-set_other spans k j t no_span apart))
          (span_elsewhere (end_at Ends j) seen (get_or spans j no_span) h
          (other_end Ends (once Ends rise) h k within found j apart low) (are.are j low))
    ];
  }

  pub broken_at : follows (end_view e) s h ≡ false → (seen : List Head) → AreSpans Ends seen spans
      → IsBroken Ends (seen ++ h ∷ [])
  broken_at off seen are = broken_here Ends seen spans h k within found (test_is false off) are

-- ---- a file in front of the later ones

pub joined : (e : End) (hs later : List Head) (s : Span) (old new : ℕ) → IsSpan e hs s
    → JoinsSpan s old new → old ≡ begin_in e later → RunsBack e later
    → RunsBack e (hs ++ later) × (new ≡ begin_in e (hs ++ later))
joined e hs later s old new (no_records same none) (stays same_too is) at back =
    let begin = begin_skip e hs later none in (
      record {
        unbroken = ap (λ n. first_break e.stream e n (hs ++ later)) begin
            ∙ (break_skip e (begin_in e later) hs later none ∙ back.unbroken);
        reaches = ap (λ n. reached e.stream n (hs ++ later)) begin
            ∙ (reached_skip e (begin_in e later) hs later none ∙ back.reaches);
      },
      is ∙ (at ∙ sym begin),
    )
joined e hs later s old new (no_records same none) (joins apart to is) at back = absurd (apart same)
joined e hs later s old new (some_records less begins fine ends) (stays same is) at back =
    absurd (let z : ⊥ = omega (arith, less, same) in z)
joined e hs later s old new (some_records less begins fine ends) (joins apart to is) at back =
    let begin : begin_in e (hs ++ later) ≡ s.first =
    begin_on e s.first hs later (λ r. let z : ⊥ = omega (arith, r, ends, less) in z) ∙ begins in
    let behind : reached e.stream s.first hs ≡ begin_in e later = ends ∙ (to ∙ at) in (
      record {
        unbroken = ap (λ n. first_break e.stream e n (hs ++ later)) begin
            ∙ (break_on e s.first hs later fine
            ∙ (ap (λ n. first_break e.stream e n later) behind ∙ back.unbroken));
        reaches = ap (λ n. reached e.stream n (hs ++ later)) begin
            ∙ (reached_on e.stream s.first hs later
            ∙ (ap (λ n. reached e.stream n later) behind ∙ back.reaches));
      },
      is ∙ sym begin,
    )

pub not_joined : (es : List End) (front hs later : List Head) (spans : List Span)
    (begins : List ℕ) (k : ℕ) → k < length es → AreSpans es hs spans
    → LeavesSpan (get_or spans k no_span) (get_or begins k 0) → AreBegins es later begins
    → AllRunBack es (front ++ (hs ++ later)) → ⊥
not_joined es front hs later spans begins k low are leaves course all = go (are.are k low)
  where
    e : End
    e = end_at es k

    s : Span
    s = get_or spans k no_span

    c : (c : ℕ) × Course e c (hs ++ later)
    c = course_behind e (begin_in e (front ++ (hs ++ later))) front (hs ++ later)
        (all.run k low).unbroken (all.run k low).reaches

    behind : reached e.stream c.0 hs ≡ begin_in e later
    behind =
        begins_so e (reached e.stream c.0 hs) later
        (sym (break_on e c.0 hs later (break_front e c.0 hs later c.1.fine)) ∙ c.1.fine)
        (sym (reached_on e.stream c.0 hs later) ∙ c.1.ends)

    go : IsSpan e hs s → ⊥
    go (no_records same none) = leaves.0 same
    go (some_records less begins fine ends) =
        leaves.1
        (sym ends
        ∙ (sym (reached_any e.stream s.first c.0 hs
        (λ r. let z : ⊥ = omega (arith, r, ends, less) in z))
        ∙ (behind ∙ sym (course.are k low))))

-- all streams' records stand in front of the later ones
pub all_joined : (es : List End) (spans : List Span) (before after : List ℕ)
    → ((k : ℕ) → k < length es
    → JoinsSpan (get_or spans k no_span) (get_or before k 0) (get_or after k 0))
    → (seen later : List Head) → AreSpans es seen spans → AreBegins es later before
    → AreBegins es (seen ++ later) after
all_joined es spans before after each seen later are course = record {
  all = record {
    listed = each_append (IsListed es) seen later are.listed course.all.listed;
    run = λ k low. (one k low).0;
  };
  are = λ k low. (one k low).1;
}
  where
    one : (k : ℕ) → k < length es → RunsBack (end_at es k) (seen ++ later)
        × (get_or after k 0 ≡ begin_in (end_at es k) (seen ++ later))
    one k low =
        joined (end_at es k) seen later (get_or spans k no_span) (get_or before k 0)
        (get_or after k 0) (are.are k low) (each k low) (course.are k low)
        (course.all.run k low)

-- ---- what is held

pub filter_swap : (p q : Head → Bool) (hs : List Head)
    → filter p (filter q hs) ≡ filter q (filter p hs)
filter_swap p q [] = refl
filter_swap p q (h ∷ hs) = go (filter_swap p q hs) (p h) (q h) refl refl
  where
    put : (t : Head → Bool) (ks : List Head) (b : Bool) → t h ≡ b
        → filter t (h ∷ ks) ≡ (if b then h ∷ filter t ks else filter t ks)
    put t ks b is = ap (λ c. if c then h ∷ filter t ks else filter t ks) is

    go : filter p (filter q hs) ≡ filter q (filter p hs) → (a b : Bool) → p h ≡ a → q h ≡ b
        → filter p (if b then h ∷ filter q hs else filter q hs)
        ≡ filter q (if a then h ∷ filter p hs else filter p hs)
    go rest true true pa qb =
        put p (filter q hs) true pa
        ∙ (ap (λ l. h ∷ l) rest ∙ sym (put q (filter p hs) true qb))
    go rest true false pa qb = rest ∙ sym (put q (filter p hs) false qb)
    go rest false true pa qb = put p (filter q hs) false pa ∙ rest
    go rest false false pa qb = rest

pub ties_past : (p : Head → Bool) (hs ks : List Head) → SameTies hs ks
    → SameTies (filter p hs) (filter p ks)
ties_past p hs ks same z =
    filter_swap (ties head_before z) p hs
    ∙ (ap (filter p) (same z) ∙ sym (filter_swap (ties head_before z) p ks))

-- ---- what was looked at

-- a head of what is new was put behind the others
pub looks_new : (es : List End) (places : List ℕ) (seen old new : List Head) (h : Head)
    (spans after : List Span) → AreSpans es (seen ++ h ∷ []) after → is_past es places h ≡ true
    → new ≡ old ++ past_of es places seen
    → Looks es places (seen ++ h ∷ []) old (new ++ h ∷ []) after false
looks_new es places seen old new h spans after are past is =
    runs are
    (ap (λ l. l ++ h ∷ []) is
    ∙ (append_assoc old (past_of es places seen) (h ∷ [])
    ∙ ap (λ l. old ++ l)
    (ap (λ l. past_of es places seen ++ l)
    (sym (ap (λ (b : Bool). if b then h ∷ [] else []) past))
    ∙ sym (filter-append (is_past es places) seen (h ∷ [])))))

-- an old one wasn't
pub looks_old : (es : List End) (places : List ℕ) (seen old new : List Head) (h : Head)
    (after : List Span) → AreSpans es (seen ++ h ∷ []) after → is_past es places h ≡ false
    → new ≡ old ++ past_of es places seen
    → Looks es places (seen ++ h ∷ []) old new after false
looks_old es places seen old new h after are past is =
    runs are
    (is
    ∙ ap (λ l. old ++ l)
    (sym (append-nil (past_of es places seen))
    ∙ (ap (λ l. past_of es places seen ++ l)
    (sym (ap (λ (b : Bool). if b then h ∷ [] else []) past))
    ∙ sym (filter-append (is_past es places) seen (h ∷ [])))))
