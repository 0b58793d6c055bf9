-- Streams' records, followed in one pass over their heads.
use Rattle.std.proofs.Common.{◌≡◌, ◌<◌, ◌≤◌, ◌+◌, ◌-◌, inl, inr, ℕ, zero, suc, Bool, true, false, true≢false, List, [], ◌∷◌, length, map, get_or, Option, Some, None, refl, sym, ◌∙◌, ap, subst, arith, if◌then◌else◌, get_or-set_same, get_or-set_other}
use Rattle.std.proofs.lemmas.Bool.{cases_eq, cases_lt, cases_Bool}
use Rattle.std.proofs.lemmas.List.{get_or-map, get_or_default, length-map}
use Rattle.std.proofs.lemmas.Option.{none-some}
use Rattle.chk_chunk.specs.Keys.{Stream, same_stream, stream_lt}
use Rattle.chk_world.specs.Books.{End}
use Rattle.chk_world.proofs.Each.{Each, each_from}
use Rattle.chk_world.proofs.NameTests.{streams_same}
use Rattle.chk_record_index.specs.Heads.{Head}
use Rattle.chk_record_index.specs.Order.{no_head}
use Rattle.chk_record_index.proofs.Orders.{streams}
use Rattle.chk_book.specs.declared.lists.End.{End as EndStruct}
use Rattle.chk_book.specs.Views.{end_view}
use Rattle.chk_record_reader.specs.Courses.{is_head_of, is_end_of, end_of, goes_on, first_break, reached, first_head, IsBreakBy}
use Rattle.chk_record_reader.specs.Checking.{AllGoWell}
use Rattle.chk_record_reader.specs.OnePass.{no_end, end_at, AreOnce, TookHeadAt, TookHead, AreReached, IsCourse, AreCourses, IsListed}
use Rattle.chk_record_reader.proofs.Checked.{end_found, head_found}

-- ---- ends in byte order are of one stream each

pub stream_onward : (a b c : Stream) → stream_lt a b ≡ true → stream_lt b c ≡ true → stream_lt a c ≡ true
stream_onward a b c p q = elim (cases_Bool (stream_lt a c)) [
  | inl before ↦ before
  | inr late ↦ absurd (true≢false (sym p ∙ streams.order.onward a c b late (streams.order.one_way b c q)))
]

-- each of the first ends comes before the later ones of them
abbrev pub AreRising : List End → ℕ → Type 0
AreRising es n = (j k : ℕ) → j < k → k < n → stream_lt (end_at es j).stream (end_at es k).stream ≡ true

pub rising_more : (es : List End) (i : ℕ) → 1 ≤ i → AreRising es i
    → stream_lt (end_at es (i - 1)).stream (end_at es i).stream ≡ true → AreRising es (i + 1)
rising_more es i some are next j k below within = elim (cases_lt k i) [
  | inl early ↦ are j k below early
  | inr late ↦
      let at : i ≡ k = omega arith in
      subst (λ m. stream_lt (end_at es j).stream (end_at es m).stream ≡ true) at
      (elim (cases_eq j (i - 1)) [
        | inl same ↦ subst (λ m. stream_lt (end_at es m).stream (end_at es i).stream ≡ true) (sym same) next
        | inr other ↦
            stream_onward (end_at es j).stream (end_at es (i - 1)).stream (end_at es i).stream
            (are j (i - 1) (omega (arith, other)) (omega arith)) next
      ])
]

pub rising_once : (es : List End) (n : ℕ) → length es ≤ n → AreRising es n → AreOnce es
rising_once es n all are j k low high same = elim (cases_lt j k) [
  | inl below ↦ absurd (true≢false (sym (are j k below (omega arith)) ∙ (streams.neither (end_at es j).stream (end_at es k).stream same).0))
  | inr late ↦ elim (cases_lt k j) [
    | inl above ↦ absurd (true≢false (sym (are k j above (omega arith)) ∙ (streams.neither (end_at es j).stream (end_at es k).stream same).1))
    | inr early ↦ omega arith
  ]
]

-- ---- a head is taken

module _ (es : List End) (heads rest : List Head) (before after : List ℕ) (h : Head) (k : ℕ)
    (took : TookHeadAt es before after h k) where
  of_end : h.key.stream ≡ (end_at es k).stream
  of_end = streams_same h.key.stream (end_at es k).stream took.found

  -- its own stream goes on
  taken_here : k < length before → IsCourse heads (h ∷ rest) (end_at es k) (get_or before k 0)
      → IsCourse heads rest (end_at es k) (get_or after k 0)
  taken_here room was =
      let e = end_at es k in
      let from = get_or before k 0 in
      let to : get_or after k 0 ≡ h.key.seq =
      ap (λ l. get_or l k 0) took.taken ∙ get_or-set_same before k h.key.seq 0 room
      in
      let of : is_head_of e.stream h ≡ true =
      subst (λ t. same_stream e.stream t ≡ true) (sym of_end)
      (subst (λ t. same_stream t e.stream ≡ true) of_end took.found)
      in
      record {
        breaks = was.breaks
            ∙ (ap (λ b. if b then (if goes_on e from h then first_break e.stream e h.key.seq rest else Some h)
            else first_break e.stream e from rest) of
            ∙ (ap (λ b. if b then first_break e.stream e h.key.seq rest else Some h) took.on
            ∙ ap (λ n. first_break e.stream e n rest) (sym to)));
        reaches = was.reaches
            ∙ (ap (λ b. if b then reached e.stream h.key.seq rest else reached e.stream from rest) of
            ∙ ap (λ n. reached e.stream n rest) (sym to));
      }

  -- another stream stays as it is
  taken_elsewhere : (j : ℕ) → (j ≡ k → ⊥) → AreOnce es → j < length es
      → IsCourse heads (h ∷ rest) (end_at es j) (get_or before j 0)
      → IsCourse heads rest (end_at es j) (get_or after j 0)
  taken_elsewhere j other once below was =
      let e = end_at es j in
      let from = get_or before j 0 in
      let to : get_or after j 0 ≡ from =
      ap (λ l. get_or l j 0) took.taken ∙ get_or-set_other before k j h.key.seq 0 other
      in
      let of : is_head_of e.stream h ≡ false = elim (cases_Bool (is_head_of e.stream h)) [
        | inl its ↦ absurd (other (once j k below took.within (subst (λ t. same_stream e.stream t ≡ true) of_end its)))
        | inr is_other ↦ is_other
      ]
      in
      record {
        breaks = was.breaks
            ∙ (ap (λ b. if b then (if goes_on e from h then first_break e.stream e h.key.seq rest else Some h)
            else first_break e.stream e from rest) of
            ∙ ap (λ n. first_break e.stream e n rest) (sym to));
        reaches = was.reaches
            ∙ (ap (λ b. if b then reached e.stream h.key.seq rest else reached e.stream from rest) of
            ∙ ap (λ n. reached e.stream n rest) (sym to));
      }

pub courses_on : (es : List End) (heads rest : List Head) (before after : List ℕ) (h : Head) → AreOnce es
    → length before ≡ length es → TookHead es before after h → AreCourses es heads (h ∷ rest) before
    → AreCourses es heads rest after
courses_on es heads rest before after h once same took are j below = elim (cases_eq j took.0) [
  | inl here ↦
      subst (λ i. IsCourse heads rest (end_at es i) (get_or after i 0)) (sym here)
      (taken_here es heads rest before after h took.0 took.1 (let t = took.1.within in omega (arith, t, same))
      (are took.0 took.1.within))
  | inr other ↦ taken_elsewhere es heads rest before after h took.0 took.1 j other once below (are j below)
]

pub head_listed : (s : Stream) (es : List End) (k : ℕ) → k < length es → is_end_of s (end_at es k) ≡ true
    → end_of s es ≡ None → ⊥
head_listed s [] k below found none = omega arith
head_listed s (e ∷ es) zero below found none =
    none-some e (sym none ∙ ap (λ b. if b then Some e else end_of s es) found)
head_listed s (e ∷ es) (suc k) below found none =
    go (head_listed s es k (omega (arith, below)) found) (is_end_of s e) refl
  where
    go : (end_of s es ≡ None → ⊥) → (b : Bool) → is_end_of s e ≡ b → ⊥
    go later true is = none-some e (sym none ∙ ap (λ b. if b then Some e else end_of s es) is)
    go later false is = later (sym (ap (λ b. if b then Some e else end_of s es) is) ∙ none)

-- ---- the beginning and the end of the pass

-- the end at a place is that of the struct there
pub end_there : (es : List EndStruct) (k : ℕ) (e : EndStruct) → k < length es → e ≡ get_or es k e
    → end_view e ≡ end_at (map end_view es) k
end_there es k e below is = ap end_view is ∙ sym (get_or-map end_view es k e no_end below)

-- a struct of no stream
no_struct : EndStruct
no_struct = record { source = []; kind = []; name = []; start = 0; end = 0 }

pub courses_begin : (es : List EndStruct) (heads : List Head) (starts : List ℕ)
    → starts ≡ map (λ (e : EndStruct). e.start) es → AreCourses (map end_view es) heads heads starts
courses_begin es heads starts are k below =
    let e = end_at (map end_view es) k in
    let within : k < length es = let same = length-map es end_view in omega (arith, same, below) in
    let at : get_or starts k 0 ≡ e.start =
    ap (λ l. get_or l k 0) are
    ∙ (get_or-map (λ (d : EndStruct). d.start) es k no_struct 0 within
    ∙ sym (ap (λ (d : End). d.start) (get_or-map end_view es k no_struct no_end within)))
    in
    record {
      breaks = ap (λ n. first_break e.stream e n heads) (sym at);
      reaches = ap (λ n. reached e.stream n heads) (sym at);
    }

pub all_passed : (es : List End) (heads : List Head) (rs : List ℕ) → AreCourses es heads [] rs → AreReached es rs
    → ((j : ℕ) → j < length heads → IsListed es (get_or heads j no_head)) → AllGoWell es heads
all_passed es heads rs are ends listed s = go (end_of s es) refl
  where
    well : Each (λ e. IsBreakBy e.stream (Some e) heads None) es
    well = each_from (λ e. IsBreakBy e.stream (Some e) heads None) es
        (λ e one.
        let same : end_at es one.0 ≡ e = get_or_default es one.0 no_end e one.1 ∙ one.2 in
        let course = are one.0 one.1 in
        subst (λ d. IsBreakBy d.stream (Some d) heads None) same
        (course.breaks, course.reaches ∙ ends one.0 one.1))

    each_listed : Each (IsListed es) heads
    each_listed = each_from (IsListed es) heads
        (λ h one. subst (IsListed es) (get_or_default heads one.0 no_head h one.1 ∙ one.2) (listed one.0 one.1))

    unlisted : end_of s es ≡ None → (o : Option Head) → first_head s heads ≡ o → IsBreakBy s None heads None
    unlisted none None e = (e, tt)
    unlisted none (Some h) e =
        let f = head_found (IsListed es) s heads h each_listed e in
        absurd (f.1 (subst (λ t. end_of t es ≡ None) (streams_same s h.key.stream f.0) none))

    go : (o : Option End) → end_of s es ≡ o → IsBreakBy s (end_of s es) heads None
    go None e = subst (λ o. IsBreakBy s o heads None) (sym e) (unlisted e (first_head s heads) refl)
    go (Some d) e =
        let f = end_found (λ e. IsBreakBy e.stream (Some e) heads None) s es d well e in
        subst (λ o. IsBreakBy s o heads None) (sym e)
        (subst (λ t. IsBreakBy t (Some d) heads None) (sym (streams_same s d.stream f.0)) f.1)
