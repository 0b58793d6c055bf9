-- Heads that rise strictly are those of a list put in order, where they have of each stream what that has.
use Rattle.std.proofs.Common.{◌≡◌, ℕ, ◌<◌, ◌≤◌, Bool, true, false, List, [], ◌∷◌, ◌++◌, refl, sym, ◌∙◌, ap, subst, arith, if◌then◌else◌, inl, inr}
use Rattle.std.specs.Prelude.{filter, ◌&&◌, ◌||◌, ◌==◌, nat_lt, nat_eq, nat_le}
use Rattle.std.proofs.lemmas.Bool.{cases_Bool, and_parts, eqb-true}
use Rattle.chk_chunk.specs.Keys.{Stream, same_stream, stream_lt}
use Rattle.chk_world.specs.Books.{End}
use Rattle.chk_world.proofs.Each.{Each, each_as}
use Rattle.chk_world.proofs.NameTests.{streams_same}
use Rattle.chk_record_index.specs.Heads.{Head}
use Rattle.chk_record_index.specs.Order.{head_before, put_by, in_head_order}
use Rattle.chk_record_index.proofs.Orders.{WeakOrder, lex, through, tested_through, numbers, streams}
use Rattle.chk_record_reader.specs.Courses.{is_head_of}
use Rattle.chk_archive_merge.specs.Tours.{GoesOnIn, IsBlock, AreBlocks}
use Rattle.chk_archive_merge.proofs.Blocks.{Precedes, Rise, filter_both}

heads_ordered : WeakOrder head_before
heads_ordered =
    lex (λ (h k : Head). stream_lt h.key.stream k.key.stream) (λ (h k : Head). same_stream h.key.stream k.key.stream)
    (λ (h k : Head). nat_lt h.begin k.begin || (nat_eq h.begin k.begin && nat_lt h.key.seq k.key.seq))
    (tested_through (λ (h : Head). h.key.stream) stream_lt same_stream streams)
    (lex (λ (h k : Head). nat_lt h.begin k.begin) (λ (h k : Head). nat_eq h.begin k.begin) (λ (h k : Head). nat_lt h.key.seq k.key.seq)
    (tested_through (λ (h : Head). h.begin) nat_lt nat_eq numbers)
    (through (λ (h : Head). h.key.seq) nat_lt numbers.order))

abbrev Before : Head → Head → Type 0
Before h k = head_before h k ≡ true

-- each head comes before all behind it
abbrev pub Strict : List Head → Type 0
Strict [] = Unit {0}
Strict (h ∷ hs) = Each (Before h) hs × Strict hs

-- ---- a head taken out

module _ (h : Head) where
  abbrev S : Stream
  S = h.key.stream

  -- where it is the first one of its stream
  pub record IsOut (heads rest : List Head) : Type 0 where
    pub front : List Head
    pub back : List Head
    pub split : heads ≡ front ++ h ∷ back
    pub none : filter (is_head_of S) front ≡ []
    pub left : filter (is_head_of S) back ≡ rest

  out : (heads rest : List Head) → filter (is_head_of S) heads ≡ h ∷ rest → IsOut heads rest
  out [] rest is = absurd (cc)
  out (k ∷ heads) rest is = go (is_head_of S k) refl (λ e. out heads rest e) is
    where
      go : (b : Bool) → is_head_of S k ≡ b → (filter (is_head_of S) heads ≡ h ∷ rest → IsOut heads rest)
          → (if b then k ∷ filter (is_head_of S) heads else filter (is_head_of S) heads) ≡ h ∷ rest → IsOut (k ∷ heads) rest
      go true mine more e = record {
        front = [];
        back = heads;
        split = ap (λ x. x ∷ heads) (let f : k ≡ h = cc in f);
        none = refl;
        left = (let f : filter (is_head_of S) heads ≡ rest = cc in f);
      }
      go false other more e =
          let o = more e in
          record {
            front = k ∷ o.front;
            back = o.back;
            split = ap (λ l. k ∷ l) o.split;
            none = ap (λ b. if b then k ∷ filter (is_head_of S) o.front else filter (is_head_of S) o.front) other ∙ o.none;
            left = o.left;
          }

  -- without it the rest is strict, and it is put back to its place
  each_left : (front back : List Head) (k : Head) → Each (Before k) (front ++ h ∷ back) → Each (Before k) (front ++ back) × Before k h
  each_left [] back k all = (all.1, all.0)
  each_left (x ∷ front) back k all = let r = each_left front back k all.1 in ((all.0, r.0), r.1)

  strict_left : (front back : List Head) → Strict (front ++ h ∷ back) → Strict (front ++ back)
  strict_left [] back all = all.1
  strict_left (x ∷ front) back all = ((each_left front back x all.0).0, strict_left front back all.1)

  put_back : (front back : List Head) → Strict (front ++ h ∷ back) → put_by head_before h (front ++ back) ≡ front ++ h ∷ back
  put_back [] [] all = refl
  put_back [] (k ∷ back) all =
      ap (λ b. elim b [ true ↦ k ∷ put_by head_before h back | false ↦ h ∷ k ∷ back ]) (heads_ordered.one_way h k all.0.0)
  put_back (x ∷ front) back all =
      ap (λ b. elim b [ true ↦ x ∷ put_by head_before h (front ++ back) | false ↦ h ∷ x ∷ (front ++ back) ]) (each_left front back x all.0).1
      ∙ ap (λ l. x ∷ l) (put_back front back all.1)

-- the same of each stream
abbrev pub SameStreams : List Head → List Head → Type 0
SameStreams hs ks = (s : Stream) → filter (is_head_of s) hs ≡ filter (is_head_of s) ks

own_first : (h : Head) (hs : List Head) → filter (is_head_of h.key.stream) (h ∷ hs) ≡ h ∷ filter (is_head_of h.key.stream) hs
own_first h hs = ap (λ b. if b then h ∷ filter (is_head_of h.key.stream) hs else filter (is_head_of h.key.stream) hs) (streams.are_alike h.key.stream h.key.stream
    (irreflexive h.key.stream) (irreflexive h.key.stream))
  where
    irreflexive : (s : Stream) → stream_lt s s ≡ false
    irreflexive s = elim (cases_Bool (stream_lt s s)) [ inl is ↦ streams.order.one_way s s is | inr not ↦ not ]

pub in_order : (hs ks : List Head) → SameStreams ks hs → Strict ks → in_head_order hs ≡ ks
in_order [] [] same strict = refl
in_order [] (k ∷ ks) same strict = absurd (let e = sym (own_first k ks) ∙ same k.key.stream in cc)
in_order (h ∷ hs) ks same strict =
    ap (put_by head_before h) (in_order hs (o.front ++ o.back) left (strict_left h o.front o.back (subst Strict o.split strict)))
    ∙ (put_back h o.front o.back (subst Strict o.split strict) ∙ sym o.split)
  where
    o : IsOut h ks (filter (is_head_of h.key.stream) hs)
    o = out h ks (filter (is_head_of h.key.stream) hs) (same h.key.stream ∙ own_first h hs)

    left : SameStreams (o.front ++ o.back) hs
    left s = go (is_head_of s h) refl
      where
        parts : filter (is_head_of s) ks ≡ filter (is_head_of s) o.front ++ filter (is_head_of s) (h ∷ o.back)
        parts = ap (filter (is_head_of s)) o.split ∙ filter_both (is_head_of s) o.front (h ∷ o.back)

        go : (b : Bool) → is_head_of s h ≡ b → filter (is_head_of s) (o.front ++ o.back) ≡ filter (is_head_of s) hs
        go true mine =
            let is : h.key.stream ≡ s = sym (streams_same s h.key.stream mine) in
            subst (λ t. filter (is_head_of t) (o.front ++ o.back) ≡ filter (is_head_of t) hs) is
            (filter_both (is_head_of h.key.stream) o.front o.back
            ∙ (ap (λ l. l ++ filter (is_head_of h.key.stream) o.back) o.none ∙ o.left))
        go false other =
            filter_both (is_head_of s) o.front o.back
            ∙ (sym (parts ∙ ap (λ l. filter (is_head_of s) o.front ++ l)
            (ap (λ b. if b then h ∷ filter (is_head_of s) o.back else filter (is_head_of s) o.back) other))
            ∙ (same s ∙ ap (λ b. if b then h ∷ filter (is_head_of s) hs else filter (is_head_of s) hs) other))

-- ---- blocks rise strictly

strict_both : (hs ks : List Head) → Strict hs → Strict ks → Each (λ h. Each (Before h) ks) hs → Strict (hs ++ ks)
strict_both [] ks a b all = b
strict_both (h ∷ hs) ks a b all = (join hs a.0, strict_both hs ks a.1 b all.1)
  where
    join : (xs : List Head) → Each (Before h) xs → Each (Before h) (xs ++ ks)
    join [] x = all.0
    join (y ∷ ys) x = (x.0, join ys x.1)

by_stream : (h k : Head) → stream_lt h.key.stream k.key.stream ≡ true → Before h k
by_stream h k less = ap (λ b. b || (same_stream h.key.stream k.key.stream
    && (nat_lt h.begin k.begin || (nat_eq h.begin k.begin && nat_lt h.key.seq k.key.seq)))) less

by_begin : (h k : Head) → same_stream h.key.stream k.key.stream ≡ true → h.begin < k.begin → Before h k
by_begin h k same less =
    let low : nat_lt h.begin k.begin ≡ true = grind (arith, less) in
    let other : stream_lt h.key.stream k.key.stream ≡ false = (streams.neither h.key.stream k.key.stream same).0 in
    ap (λ b. b || (same_stream h.key.stream k.key.stream
    && (nat_lt h.begin k.begin || (nat_eq h.begin k.begin && nat_lt h.key.seq k.key.seq)))) other
    ∙ (ap (λ b. b && (nat_lt h.begin k.begin || (nat_eq h.begin k.begin && nat_lt h.key.seq k.key.seq))) same
    ∙ ap (λ b. b || (nat_eq h.begin k.begin && nat_lt h.key.seq k.key.seq)) low)

-- the head is of the stream, and begins there or past it
abbrev BeginsIn : End → ℕ → Head → Type 0
BeginsIn e n h = (is_head_of e.stream h ≡ true) × (n ≤ h.begin)

begin_is : (e : End) (at : ℕ) (h : Head) → GoesOnIn e at h → h.begin ≡ at
begin_is e at h on =
    let p = and_parts (h.key.start == e.start) (h.begin == at && nat_le h.key.seq e.end) on.on in
    let q = and_parts (h.begin == at) (nat_le h.key.seq e.end) p.1 in eqb-true h.begin at q.0

block_begins : (e : End) (at low : ℕ) (hs : List Head) (to high : ℕ) → IsBlock e at low hs to high → Each (BeginsIn e at) hs
block_begins e at low [] to high block = tt
block_begins e at low (h ∷ hs) to high block =
    let is : h.begin ≡ at = begin_is e at h block.0 in
    let some = block.0.some in (
      (block.0.of, (let z : at ≤ h.begin = omega arith in z)),
      each_as (BeginsIn e h.key.seq) (BeginsIn e at) hs (λ k b. (b.0, (let l = b.1 in let z : at ≤ k.begin = omega arith in z)))
          (block_begins e h.key.seq h.file hs to high block.2),
    )

block_strict : (e : End) (at low : ℕ) (hs : List Head) (to high : ℕ) → IsBlock e at low hs to high → Strict hs
block_strict e at low [] to high block = tt
block_strict e at low (h ∷ hs) to high block = (
  each_as (BeginsIn e h.key.seq) (Before h) hs
      (λ k b.
      let some = block.0.some in
      let mine : e.stream ≡ h.key.stream = streams_same e.stream h.key.stream block.0.of in
      let far = b.1 in
      by_begin h k (subst (λ s. same_stream s k.key.stream ≡ true) mine b.0) (omega (arith, some, far)))
      (block_begins e h.key.seq h.file hs to high block.2),
  block_strict e h.key.seq h.file hs to high block.2,
)

-- each head of later ends' blocks is of a later stream
behind : (e : End) (es : List End) (heads : List Head) → Each (Precedes e) es → AreBlocks es heads
    → Each (λ (k : Head). stream_lt e.stream k.key.stream ≡ true) heads
behind e [] heads before none = subst (Each (λ (k : Head). stream_lt e.stream k.key.stream ≡ true)) (sym none) tt
behind e (d ∷ es) heads before (own, rest, high, split, block, more) =
    subst (Each (λ (k : Head). stream_lt e.stream k.key.stream ≡ true)) (sym split)
    (both (behind e es rest before.1 more) own (block_begins d d.start 0 own d.end high block))
  where
    both : Each (λ (k : Head). stream_lt e.stream k.key.stream ≡ true) rest → (hs : List Head) → Each (BeginsIn d d.start) hs
        → Each (λ (k : Head). stream_lt e.stream k.key.stream ≡ true) (hs ++ rest)
    both later [] all = later
    both later (h ∷ hs) all = (
      subst (λ s. stream_lt e.stream s ≡ true) (streams_same d.stream h.key.stream all.0.0) before.0,
      both later hs all.1,
    )

pub blocks_strict : (es : List End) (heads : List Head) → Rise es → AreBlocks es heads → Strict heads
blocks_strict [] heads rises none = subst Strict (sym none) tt
blocks_strict (e ∷ es) heads rises (own, rest, high, split, block, more) =
    subst Strict (sym split)
    (strict_both own rest (block_strict e e.start 0 own e.end high block) (blocks_strict es rest rises.1 more)
    (each_as (BeginsIn e e.start) (λ h. Each (Before h) rest) own
    (λ h b.
    let is : e.stream ≡ h.key.stream = streams_same e.stream h.key.stream b.0 in
    each_as (λ (k : Head). stream_lt e.stream k.key.stream ≡ true) (Before h) rest
    (λ k less. by_stream h k (subst (λ s. stream_lt s k.key.stream ≡ true) is less))
    (behind e es rest rises.0 more))
    (block_begins e e.start 0 own e.end high block)))
