-- Streams that stand one behind the other: each runs as its end says, and all are in order.
use Rattle.std.proofs.Common.{◌≡◌, ℕ, suc, ◌≤◌, Bool, true, false, List, [], ◌∷◌, ◌++◌, length, Option, Some, None, refl, sym, ◌∙◌, ap, subst, arith, append_assoc, append-nil, if◌then◌else◌, true≢false, inl, inr}
use Rattle.std.specs.Prelude.{filter}
use Rattle.std.proofs.lemmas.Bool.{cases_Bool}
use Rattle.std.proofs.lemmas.List.{get_or_default}
use Rattle.chk_chunk.specs.Keys.{Stream, same_stream, stream_lt}
use Rattle.chk_world.specs.Books.{End}
use Rattle.chk_world.proofs.Each.{Each, each_from}
use Rattle.chk_world.proofs.NameTests.{streams_same}
use Rattle.chk_record_index.specs.Heads.{Head}
use Rattle.chk_record_index.proofs.Orders.{streams}
use Rattle.chk_record_reader.specs.Courses.{is_head_of, is_end_of, end_of, goes_on, first_break, reached, first_head, IsBreakBy}
use Rattle.chk_record_reader.specs.OnePass.{no_end, end_at}
use Rattle.chk_record_reader.proofs.OnePass.{AreRising}
use Rattle.chk_archive_merge.specs.Tours.{GoesOnIn, IsBlock, AreBlocks}

-- ---- a head more, a file further, a stream more

pub block_more : (e : End) (at low : ℕ) (hs : List Head) (h : Head) (to high i : ℕ)
    → IsBlock e at low hs to high → GoesOnIn e to h → high ≤ h.file → h.file ≤ i
    → IsBlock e at low (hs ++ h ∷ []) h.key.seq i
block_more e at low [] h to high i block on far upto =
    (subst (λ n. GoesOnIn e n h) block.0 on, (let b = block.1 in let z : low ≤ h.file = omega arith in z), (refl, upto))
block_more e at low (k ∷ hs) h to high i block on far upto =
    (block.0, block.1, block_more e k.key.seq k.file hs h to high i block.2 on far upto)

pub block_further : (e : End) (at low : ℕ) (hs : List Head) (to high i : ℕ)
    → IsBlock e at low hs to high → high ≤ i → IsBlock e at low hs to i
block_further e at low [] to high i block on =
    (block.0, (let b = block.1 in let z : low ≤ i = omega arith in z))
block_further e at low (k ∷ hs) to high i block on =
    (block.0, block.1, block_further e k.key.seq k.file hs to high i block.2 on)

pub blocks_more : (es : List End) (e : End) (past now : List Head) (high : ℕ) → AreBlocks es past
    → IsBlock e e.start 0 now e.end high → AreBlocks (es ++ e ∷ []) (past ++ now)
blocks_more [] e past now high none block =
    (now, [], high, ap (λ l. l ++ now) none ∙ sym (append-nil now), block, refl)
blocks_more (d ∷ es) e past now high (own, rest, h, split, first, more) block = (
  own,
  rest ++ now,
  h,
  ap (λ l. l ++ now) split ∙ append_assoc own rest now,
  first,
  blocks_more es e rest now high more block,
)

-- ---- a block by itself

-- each head of a block is of its stream
pub block_of : (e : End) (at low : ℕ) (hs : List Head) (to high : ℕ) → IsBlock e at low hs to high
    → Each (λ (h : Head). is_head_of e.stream h ≡ true) hs
block_of e at low [] to high block = tt
block_of e at low (h ∷ hs) to high block = (block.0.of, block_of e h.key.seq h.file hs to high block.2)

pub block_breaks : (e : End) (at low : ℕ) (hs : List Head) (to high : ℕ) → IsBlock e at low hs to high
    → (first_break e.stream e at hs ≡ None) × (reached e.stream at hs ≡ to)
block_breaks e at low [] to high block = (refl, sym block.0)
block_breaks e at low (h ∷ hs) to high block =
    let rest = block_breaks e h.key.seq h.file hs to high block.2 in (
      ap (λ b. if b then (if goes_on e at h then first_break e.stream e h.key.seq hs else Some h) else first_break e.stream e at hs)
          block.0.of
          ∙ (ap (λ b. if b then first_break e.stream e h.key.seq hs else Some h) block.0.on ∙ rest.0),
      ap (λ b. if b then reached e.stream h.key.seq hs else reached e.stream at hs) block.0.of ∙ rest.1,
    )

-- ---- heads of one stream, and those of another one

pub all_of : (s t : Stream) → same_stream s t ≡ true → (hs : List Head)
    → Each (λ (h : Head). is_head_of t h ≡ true) hs → filter (is_head_of s) hs ≡ hs
all_of s t same [] all = refl
all_of s t same (h ∷ hs) all =
    let mine : is_head_of s h ≡ true = subst (λ x. same_stream x h.key.stream ≡ true) (sym (streams_same s t same)) all.0 in
    ap (λ b. if b then h ∷ filter (is_head_of s) hs else filter (is_head_of s) hs) mine
    ∙ ap (λ l. h ∷ l) (all_of s t same hs all.1)

pub none_of : (s t : Stream) → same_stream s t ≡ false → (hs : List Head)
    → Each (λ (h : Head). is_head_of t h ≡ true) hs → filter (is_head_of s) hs ≡ []
none_of s t other [] all = refl
none_of s t other (h ∷ hs) all =
    let is : t ≡ h.key.stream = streams_same t h.key.stream all.0 in
    let not : is_head_of s h ≡ false = subst (λ x. same_stream s x ≡ false) is other in
    ap (λ b. if b then h ∷ filter (is_head_of s) hs else filter (is_head_of s) hs) not ∙ none_of s t other hs all.1

pub filter_both : {X : Type 0} (p : X → Bool) (xs ys : List X) → filter p (xs ++ ys) ≡ filter p xs ++ filter p ys
filter_both p [] ys = refl
filter_both p (x ∷ xs) ys = go (p x) (filter_both p xs ys)
  where
    go : (b : Bool) → filter p (xs ++ ys) ≡ filter p xs ++ filter p ys
        → (if b then x ∷ filter p (xs ++ ys) else filter p (xs ++ ys))
        ≡ (if b then x ∷ filter p xs else filter p xs) ++ filter p ys
    go true rest = ap (λ l. x ∷ l) rest
    go false rest = rest

-- ---- ends in byte order

abbrev pub Precedes : End → End → Type 0
Precedes e d = stream_lt e.stream d.stream ≡ true

abbrev pub Rise : List End → Type 0
Rise [] = Unit {0}
Rise (e ∷ es) = Each (Precedes e) es × Rise es

pub rise : (es : List End) → AreRising es (length es) → Rise es
rise [] all = tt
rise (e ∷ es) all = (
  each_from (Precedes e) es
      (λ d one.
      let same : end_at es one.0 ≡ d = get_or_default es one.0 no_end d one.1 ∙ one.2 in
      subst (λ (x : End). stream_lt e.stream x.stream ≡ true) same
      (all 0 (suc one.0) (omega arith) (let i = one.1 in omega arith))),
  rise es (λ j k low high. all (suc j) (suc k) (omega (arith, low)) (omega (arith, high))),
)

-- no stream of later ends is an earlier one
pub later_other : (s : Stream) (e : End) (es : List End) → Each (Precedes e) es → is_end_of s e ≡ true
    → end_of s es ≡ None
later_other s e [] all is = refl
later_other s e (d ∷ es) all is =
    let same : s ≡ e.stream = streams_same s e.stream is in
    let before : stream_lt s d.stream ≡ true = subst (λ x. stream_lt x d.stream ≡ true) (sym same) all.0 in
    let other : is_end_of s d ≡ false = elim (cases_Bool (is_end_of s d)) [
      | inl one ↦ absurd (true≢false (sym before ∙ (streams.neither s d.stream one).0))
      | inr not ↦ not
    ] in
    ap (λ b. if b then Some d else end_of s es) other ∙ later_other s e es all.1 is

-- ---- what blocks have of a stream

-- none, where it has no end; else its block
abbrev pub IsPart : Stream → Option End → List Head → Type 0
IsPart s None hs = hs ≡ []
IsPart s (Some e) hs = (same_stream s e.stream ≡ true) × ((high : ℕ) × IsBlock e e.start 0 hs e.end high)

pub part_of : (s : Stream) (es : List End) (heads : List Head) → Rise es → AreBlocks es heads
    → IsPart s (end_of s es) (filter (is_head_of s) heads)
part_of s [] heads rises none = ap (filter (is_head_of s)) none
part_of s (e ∷ es) heads rises (own, rest, high, split, block, more) = go (part_of s es rest rises.1 more) (is_end_of s e) refl
  where
    both : filter (is_head_of s) heads ≡ filter (is_head_of s) own ++ filter (is_head_of s) rest
    both = ap (filter (is_head_of s)) split ∙ filter_both (is_head_of s) own rest

    go : IsPart s (end_of s es) (filter (is_head_of s) rest) → (b : Bool) → is_end_of s e ≡ b
        → IsPart s (if b then Some e else end_of s es) (filter (is_head_of s) heads)
    go later true is =
        let none : filter (is_head_of s) rest ≡ [] =
        subst (λ o. IsPart s o (filter (is_head_of s) rest)) (later_other s e es rises.0 is) later in
        let mine : filter (is_head_of s) own ≡ own =
        all_of s e.stream is own (block_of e e.start 0 own e.end high block) in
        let all : filter (is_head_of s) heads ≡ own =
        both ∙ (ap (λ l. filter (is_head_of s) own ++ l) none ∙ (append-nil (filter (is_head_of s) own) ∙ mine)) in
        (is, (high, subst (λ l. IsBlock e e.start 0 l e.end high) (sym all) block))
    go later false is =
        subst (λ l. IsPart s (end_of s es) l)
        (sym (both ∙ ap (λ l. l ++ filter (is_head_of s) rest)
        (none_of s e.stream is own (block_of e e.start 0 own e.end high block)))) later

-- ---- what breaks is told by a stream's own heads

pub break_filtered : (s : Stream) (e : End) (n : ℕ) (hs : List Head)
    → (first_break s e n hs ≡ first_break s e n (filter (is_head_of s) hs)) × (reached s n hs ≡ reached s n (filter (is_head_of s) hs))
break_filtered s e n [] = (refl, refl)
break_filtered s e n (h ∷ hs) = go (is_head_of s h) refl (λ (m : ℕ). break_filtered s e m hs)
  where
    go : (b : Bool) → is_head_of s h ≡ b
        → ((m : ℕ) → (first_break s e m hs ≡ first_break s e m (filter (is_head_of s) hs)) × (reached s m hs ≡ reached s m (filter (is_head_of s) hs)))
        → ((if b then (if goes_on e n h then first_break s e h.key.seq hs else Some h) else first_break s e n hs)
        ≡ first_break s e n (if b then h ∷ filter (is_head_of s) hs else filter (is_head_of s) hs))
        × ((if b then reached s h.key.seq hs else reached s n hs)
        ≡ reached s n (if b then h ∷ filter (is_head_of s) hs else filter (is_head_of s) hs))
    go true mine rest = (
      ap (λ l. if goes_on e n h then l else Some h) (rest h.key.seq).0
          ∙ sym (ap (λ b. if b then (if goes_on e n h then first_break s e h.key.seq (filter (is_head_of s) hs) else Some h)
          else first_break s e n (filter (is_head_of s) hs)) mine),
      (rest h.key.seq).1
          ∙ sym (ap (λ b. if b then reached s h.key.seq (filter (is_head_of s) hs) else reached s n (filter (is_head_of s) hs)) mine),
    )
    go false other rest = rest n

pub none_filtered : (s : Stream) (hs : List Head) → filter (is_head_of s) hs ≡ [] → first_head s hs ≡ None
none_filtered s [] none = refl
none_filtered s (h ∷ hs) none = go (is_head_of s h) (λ e. none_filtered s hs e) none
  where
    go : (b : Bool) → (filter (is_head_of s) hs ≡ [] → first_head s hs ≡ None)
        → (if b then h ∷ filter (is_head_of s) hs else filter (is_head_of s) hs) ≡ []
        → (if b then Some h else first_head s hs) ≡ None
    go true rest e = absurd (cc)
    go false rest e = rest e

-- so heads of which each stream has its block run as the ends say
pub goes_well : (s : Stream) (o : Option End) (hs : List Head) → IsPart s o (filter (is_head_of s) hs) → IsBreakBy s o hs None
goes_well s None hs none = (none_filtered s hs none, tt)
goes_well s (Some e) hs (same, (high, block)) =
    let is : e.stream ≡ s = sym (streams_same s e.stream same) in
    let b = block_breaks e e.start 0 (filter (is_head_of s) hs) e.end high block in
    let f = break_filtered s e e.start hs in (
      f.0 ∙ subst (λ t. first_break t e e.start (filter (is_head_of s) hs) ≡ None) is b.0,
      f.1 ∙ subst (λ t. reached t e.start (filter (is_head_of s) hs) ≡ e.end) is b.1,
    )
