-- Heads whose files rise are told by those of each file.
use Rattle.std.proofs.Common.{◌≡◌, ℕ, suc, ◌+◌, ◌<◌, ◌≤◌, Bool, true, false, List, [], ◌∷◌, ◌++◌, length, Option, Some, None, refl, sym, ◌∙◌, ap, ap₂, subst, arith, append-nil, if◌then◌else◌, inl, inr}
use Rattle.std.specs.Prelude.{filter}
use Rattle.std.proofs.lemmas.Bool.{cases_eq, cases_lt, ne_eqb}
use Rattle.chk_site.specs.Files.{Files}
use Rattle.chk_chunk.specs.Keys.{Stream}
use Rattle.chk_seqfile.specs.Entries.{records_of}
use Rattle.chk_world.specs.Books.{End}
use Rattle.chk_world.proofs.Each.{Each}
use Rattle.chk_record_index.specs.Heads.{Head, heads_in}
use Rattle.chk_record_index.specs.Order.{in_head_order}
use Rattle.chk_record_index.specs.Pieces.{bytes_in}
use Rattle.chk_record_reader.specs.Courses.{is_head_of, end_of}
use Rattle.chk_record_reader.specs.Checking.{AllGoWell}
use Rattle.chk_record_reader.specs.Segments.{heads_from}
use Rattle.chk_record_reader.proofs.AllRead.{numbered}
use Rattle.chk_archive_merge.specs.Sides.{is_in, AreWithin}
use Rattle.chk_archive_merge.specs.Tours.{IsBlock, AreBlocks}
use Rattle.chk_archive_merge.proofs.Blocks.{Rise, IsPart, part_of, goes_well, filter_both}
use Rattle.chk_archive_merge.proofs.InOrder.{SameStreams, in_order, blocks_strict}

-- the files' numbers rise from this one on
abbrev FilesRise : ℕ → List Head → Type 0
FilesRise low [] = Unit {0}
FilesRise low (h ∷ hs) = (low ≤ h.file) × FilesRise h.file hs

lower : (low high : ℕ) (hs : List Head) → low ≤ high → FilesRise high hs → FilesRise low hs
lower low high [] less all = tt
lower low high (h ∷ hs) less all = ((let a = all.0 in let z : low ≤ h.file = omega arith in z), all.1)

rise_filter : (p : Head → Bool) (low : ℕ) (hs : List Head) → FilesRise low hs → FilesRise low (filter p hs)
rise_filter p low [] all = tt
rise_filter p low (h ∷ hs) all = go (p h) (rise_filter p h.file hs all.1)
  where
    go : (b : Bool) → FilesRise h.file (filter p hs) → FilesRise low (if b then h ∷ filter p hs else filter p hs)
    go true rest = (all.0, rest)
    go false rest = lower low h.file (filter p hs) all.0 rest

block_files : (e : End) (at low : ℕ) (hs : List Head) (to high : ℕ) → IsBlock e at low hs to high → FilesRise low hs
block_files e at low [] to high block = tt
block_files e at low (h ∷ hs) to high block = (block.1, block_files e h.key.seq h.file hs to high block.2)

part_files : (s : Stream) (o : Option End) (hs : List Head) → IsPart s o hs → FilesRise 0 hs
part_files s None hs none = subst (FilesRise 0) (sym none) tt
part_files s (Some e) hs (same, (high, block)) = block_files e e.start 0 hs e.end high block

-- ---- the heads of one file

pub is_own : (h : Head) → is_in h.file h ≡ true
is_own h = grind (arith)

pub not_own : (i : ℕ) (h : Head) → (i ≡ h.file → ⊥) → is_in i h ≡ false
not_own i h other = ne_eqb h.file i (λ e. other (sym e))

one_first : (h : Head) (hs : List Head) → filter (is_in h.file) (h ∷ hs) ≡ h ∷ filter (is_in h.file) hs
one_first h hs = ap (λ b. if b then h ∷ filter (is_in h.file) hs else filter (is_in h.file) hs) (is_own h)

none_below : (i low : ℕ) (hs : List Head) → i < low → FilesRise low hs → filter (is_in i) hs ≡ []
none_below i low [] less all = refl
none_below i low (h ∷ hs) less all =
    let far = all.0 in
    ap (λ b. if b then h ∷ filter (is_in i) hs else filter (is_in i) hs) (not_own i h (λ e. omega (arith, e, far, less)))
    ∙ none_below i h.file hs (omega (arith, far, less)) all.1

-- lists whose files rise, with the same of each file, are the same
files_same : (a b : ℕ) (hs ks : List Head) → FilesRise a hs → FilesRise b ks
    → ((i : ℕ) → filter (is_in i) hs ≡ filter (is_in i) ks) → hs ≡ ks
files_same a b [] [] ha kb same = refl
files_same a b [] (k ∷ ks) ha kb same = absurd (let e = same k.file ∙ one_first k ks in cc)
files_same a b (h ∷ hs) [] ha kb same = absurd (let e = sym (one_first h hs) ∙ same h.file in cc)
files_same a b (h ∷ hs) (k ∷ ks) ha kb same = elim (cases_lt h.file k.file) [
  | inl less ↦ absurd (let e = sym (one_first h hs) ∙ (same h.file ∙ none_below h.file k.file (k ∷ ks) less ((let z : k.file ≤ k.file = omega arith in z), kb.1)) in cc)
  | inr far ↦ elim (cases_lt k.file h.file) [
    | inl less ↦ absurd (let e = sym (one_first k ks) ∙ (sym (same k.file) ∙ none_below k.file h.file (h ∷ hs) less ((let z : h.file ≤ h.file = omega arith in z), ha.1)) in cc)
    | inr back ↦ both (λ c d e f g. files_same c d hs ks e f g) (omega (arith, far, back))
  ]
]
  where
    both : ((c d : ℕ) → FilesRise c hs → FilesRise d ks → ((i : ℕ) → filter (is_in i) hs ≡ filter (is_in i) ks) → hs ≡ ks)
        → h.file ≡ k.file → h ∷ hs ≡ k ∷ ks
    both later is = ap₂ (λ x l. x ∷ l) first (later h.file k.file ha.1 kb.1 rest)
      where
        fronts : h ∷ filter (is_in h.file) hs ≡ k ∷ filter (is_in h.file) ks
        fronts = sym (one_first h hs) ∙ (same h.file
            ∙ subst (λ n. filter (is_in n) (k ∷ ks) ≡ k ∷ filter (is_in n) ks) (sym is) (one_first k ks))

        first : h ≡ k
        first = let e = fronts in cc

        rest : (i : ℕ) → filter (is_in i) hs ≡ filter (is_in i) ks
        rest i = elim (cases_eq i h.file) [
          | inl own ↦ subst (λ n. filter (is_in n) hs ≡ filter (is_in n) ks) (sym own) (let e = fronts in let f : filter (is_in h.file) hs ≡ filter (is_in h.file) ks = cc in f)
          | inr other ↦
              sym (ap (λ b. if b then h ∷ filter (is_in i) hs else filter (is_in i) hs) (not_own i h other))
              ∙ (same i ∙ ap (λ b. if b then k ∷ filter (is_in i) ks else filter (is_in i) ks) (not_own i k (λ e. other (e ∙ sym is))))
        ]

-- ---- the heads of all files, file after file

all_numbered : (i number : ℕ) (hs : List Head) → Each (λ (h : Head). h.file ≡ number) hs → (i ≡ number → ⊥) → filter (is_in i) hs ≡ []
all_numbered i number [] all other = refl
all_numbered i number (h ∷ hs) all other =
    ap (λ b. if b then h ∷ filter (is_in i) hs else filter (is_in i) hs) (not_own i h (λ e. other (e ∙ all.0)))
    ∙ all_numbered i number hs all.1 other

just_numbered : (number : ℕ) (hs : List Head) → Each (λ (h : Head). h.file ≡ number) hs → filter (is_in number) hs ≡ hs
just_numbered number [] all = refl
just_numbered number (h ∷ hs) all =
    ap (λ b. if b then h ∷ filter (is_in number) hs else filter (is_in number) hs)
    (subst (λ n. is_in n h ≡ true) all.0 (is_own h))
    ∙ ap (λ l. h ∷ l) (just_numbered number hs all.1)

own_rise : (number : ℕ) (hs : List Head) → Each (λ (h : Head). h.file ≡ number) hs → FilesRise number hs
own_rise number [] all = tt
own_rise number (h ∷ hs) all = (
  (let e = all.0 in let z : number ≤ h.file = omega arith in z),
  subst (λ n. FilesRise n hs) (sym all.0) (own_rise number hs all.1),
)

rise_both : (number : ℕ) (hs ks : List Head) → Each (λ (h : Head). h.file ≡ number) hs → FilesRise (number + 1) ks → FilesRise number (hs ++ ks)
rise_both number [] ks all more = lower number (number + 1) ks (omega arith) more
rise_both number (h ∷ hs) ks all more = (
  (let e = all.0 in let z : number ≤ h.file = omega arith in z),
  subst (λ n. FilesRise n (hs ++ ks)) (sym all.0) (rise_both number hs ks all.1 more),
)

module _ (most : ℕ) (held : Files) where
  abbrev Own : ℕ → List ℕ → List Head
  Own number w = heads_in most number (bytes_in (held w))

  own_numbered : (number : ℕ) (w : List ℕ) → Each (λ (h : Head). h.file ≡ number) (Own number w)
  own_numbered number w = numbered most number (records_of (bytes_in (held w)))

  from_rise : (number : ℕ) (ws : List (List ℕ)) → FilesRise number (heads_from most held number ws)
  from_rise number [] = tt
  from_rise number (w ∷ ws) = rise_both number (Own number w) (heads_from most held (number + 1) ws) (own_numbered number w) (from_rise (number + 1) ws)

  -- of each file the heads are all that it has
  abbrev pub HaveAll : ℕ → List (List ℕ) → List Head → Type 0
  HaveAll number [] heads = Unit {0}
  HaveAll number (w ∷ ws) heads = (filter (is_in number) heads ≡ Own number w) × HaveAll (number + 1) ws heads

  past_all : (i count : ℕ) (heads : List Head) → count ≤ i → AreWithin count heads → filter (is_in i) heads ≡ []
  past_all i count [] past all = refl
  past_all i count (h ∷ hs) past all =
      let low = all.0 in
      ap (λ b. if b then h ∷ filter (is_in i) hs else filter (is_in i) hs) (not_own i h (λ e. omega (arith, e, low, past)))
      ∙ past_all i count hs past all.1

  each_file : (number : ℕ) (ws : List (List ℕ)) (heads : List Head) → AreWithin (number + length ws) heads → HaveAll number ws heads
      → (i : ℕ) → number ≤ i → filter (is_in i) heads ≡ filter (is_in i) (heads_from most held number ws)
  each_file number [] heads within all i past = past_all i (number + 0) heads (omega (arith, past)) within
  each_file number (w ∷ ws) heads within all i past = elim (cases_eq i number) [
    | inl here ↦
        subst (λ n. filter (is_in n) heads ≡ filter (is_in n) (Own number w ++ rest)) (sym here)
        (all.0 ∙ sym (filter_both (is_in number) (Own number w) rest
        ∙ (ap₂ (λ a b. a ++ b) (just_numbered number (Own number w) (own_numbered number w))
        (none_below number (number + 1) rest (omega arith) (from_rise (number + 1) ws)) ∙ append-nil (Own number w))))
    | inr other ↦
        each_file (number + 1) ws heads (subst (λ n. AreWithin n heads) (let z : number + suc (length ws) ≡ number + 1 + length ws = omega arith in z) within) all.1 i
        (omega (arith, past, other))
        ∙ sym (filter_both (is_in i) (Own number w) rest
        ∙ ap (λ l. l ++ filter (is_in i) rest) (all_numbered i number (Own number w) (own_numbered number w) other))
  ]
    where
      rest : List Head
      rest = heads_from most held (number + 1) ws

  filters_turn : (p q : Head → Bool) (hs : List Head) → filter p (filter q hs) ≡ filter q (filter p hs)
  filters_turn p q [] = refl
  filters_turn p q (h ∷ hs) = go (p h) (q h) refl refl (filters_turn p q hs)
    where
      go : (a b : Bool) → p h ≡ a → q h ≡ b → filter p (filter q hs) ≡ filter q (filter p hs)
          → filter p (if b then h ∷ filter q hs else filter q hs) ≡ filter q (if a then h ∷ filter p hs else filter p hs)
      go true true pa qb rest = rw (pa, qb) (ap (λ l. h ∷ l) rest)
      go true false pa qb rest = rw qb rest
      go false true pa qb rest = rw pa rest
      go false false pa qb rest = rest

  -- blocks that have all heads of each file have all of each stream
  pub have_streams : (names : List (List ℕ)) (es : List End) (heads : List Head) → Rise es → AreBlocks es heads
      → AreWithin (length names) heads → HaveAll 0 names heads → SameStreams heads (heads_from most held 0 names)
  have_streams names es heads rises blocks within all s =
      files_same 0 0 (filter (is_head_of s) heads) (filter (is_head_of s) (heads_from most held 0 names))
      (part_files s (end_of s es) (filter (is_head_of s) heads) (part_of s es heads rises blocks))
      (rise_filter (is_head_of s) 0 (heads_from most held 0 names) (from_rise 0 names))
      (λ i. filters_turn (is_in i) (is_head_of s) heads
      ∙ (ap (filter (is_head_of s)) (each_file 0 names heads
      (subst (λ n. AreWithin n heads) (let e : length names ≡ 0 + length names = omega arith in e) within) all i (omega arith))
      ∙ sym (filters_turn (is_in i) (is_head_of s) (heads_from most held 0 names))))

  -- so they are all heads in order, and run as the ends say
  pub merged_heads : (names : List (List ℕ)) (es : List End) (heads : List Head) → Rise es → AreBlocks es heads
      → AreWithin (length names) heads → HaveAll 0 names heads
      → (heads ≡ in_head_order (heads_from most held 0 names)) × AllGoWell es (heads_from most held 0 names)
  merged_heads names es heads rises blocks within all =
      let same = have_streams names es heads rises blocks within all in (
        sym (in_order (heads_from most held 0 names) heads same (blocks_strict es heads rises blocks)),
        λ s. goes_well s (end_of s es) (heads_from most held 0 names)
            (subst (IsPart s (end_of s es)) (same s) (part_of s es heads rises blocks)),
      )
