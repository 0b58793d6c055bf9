-- Records that stand in order are sifted one by one.
use Rattle.std.proofs.Common.{◌≡◌, ℕ, zero, suc, ◌+◌, ◌≤◌, ◌<◌, ◌||◌, Bool, true, false, List, [], ◌∷◌, ◌++◌, length, take, drop, All, ap, sym, subst, ◌∙◌, refl, arith, length-append}
use Rattle.std.specs.List.{list_any}
use Rattle.std.specs.Prelude.{map, bytes_eq, slice_index_or}
use Rattle.std.proofs.lemmas.List.{length-map, length-take-le, get_or-take, map-append, take_more, drop-map, get_or-map, append-nil}
use Rattle.std.proofs.lemmas.List.Elements.{All-drop}
use Rattle.chk_chunk.specs.Keys.{Chunk, chunk_begin, same_data}
use Rattle.chk_world.specs.ArchiveRuns.{comes_before, once}
use Rattle.chk_world.specs.Sight.{Sight}
use Rattle.chk_world.proofs.Each.{Each, each_from}
use Rattle.chk_record_index.specs.Heads.{Head}
use Rattle.chk_record_index.specs.Order.{no_head}
use Rattle.chk_archive_plan.specs.Passes.{head_in}
use Rattle.chk_archive_plan.proofs.ChunkOrder.{Ordered}
use Rattle.chk_archive_parts.specs.declared.cuts.Cut.{Cut}
use Rattle.chk_archive_parts.specs.Cuts.{no_chunk, cut_of, cut_chunk, cut_chunks}
use Rattle.chk_archive_parts.specs.Records.{AreRecords, IsRecordOf}
use Rattle.chk_archive_parts.specs.Kept.{AreWhole, repeats, goes_on, NoneRepeats, group_of, new_cut, value_in, has_value, IsNew}
use Rattle.chk_archive_parts.proofs.CutLists.{zip_at, no_cut}
use Rattle.chk_archive_parts.proofs.Fetches.{any_default}
use Rattle.chk_archive_parts.proofs.KeptOnce.{tie, each_once, self_behind, Apart, goes_apart, stops_apart, put_apart, any_data, new_one, once_more, NoTies, lone_once, any_once, none_any, Differ, once_differ, differ_at}
use Rattle.chk_world.proofs.BooksTrue.{each_append as each_join}

-- those before a place come not behind it
before_place : (ds : List Chunk) → Ordered ds → (i : ℕ) → i < length ds
    → Each (λ c. comes_before (slice_index_or ds i no_chunk) c ≡ false) (take i ds)
before_place [] o i low = absurd (let z : ⊥ = omega (arith, low) in z)
before_place (d ∷ ds) o zero low = tt
before_place (d ∷ ds) o (suc i) low = (
  at ds o.0 i (omega (arith, low)),
  before_place ds o.1 i (omega (arith, low)),
)
  where
    at : (es : List Chunk) → Each (λ e. comes_before e d ≡ false) es → (j : ℕ) → j < length es
        → comes_before (slice_index_or es j no_chunk) d ≡ false
    at [] all j low = absurd (let z : ⊥ = omega (arith, low) in z)
    at (e ∷ es) all zero low = all.0
    at (e ∷ es) all (suc j) low = at es all.1 j (omega (arith, low))

each_snoc : (P : Chunk → Type 0) (xs : List Chunk) (x : Chunk) → Each P xs → P x → Each P (xs ++ x ∷ [])
each_snoc P [] x all here = (here, tt)
each_snoc P (y ∷ ys) x all here = (all.0, each_snoc P ys x all.1 here)

-- one that stands later isn't behind one that stands earlier
later_behind : (ds : List Chunk) → Ordered ds → (i j : ℕ) → i < j → j < length ds
    → comes_before (slice_index_or ds j no_chunk) (slice_index_or ds i no_chunk) ≡ false
later_behind [] o i j low high = absurd (let z : ⊥ = omega (arith, high) in z)
later_behind (d ∷ ds) o i zero low high = absurd (let z : ⊥ = omega (arith, low) in z)
later_behind (d ∷ ds) o zero (suc j) low high = (before_place (d ∷ ds) o (suc j) high).0
later_behind (d ∷ ds) o (suc i) (suc j) low high =
    later_behind ds o.1 i j (omega (arith, low)) (omega (arith, high))

any_map : (p : Chunk → Bool) (f : Cut → Chunk) (q : Cut → Bool) (ks : List Cut) → All (λ (k : Cut). p (f k) ≡ q k) ks
    → list_any p (map f ks) ≡ list_any q ks
any_map p f q [] same = refl
any_map p f q (k ∷ ks) same =
    ap (λ b. b || list_any p (map f ks)) (same 0 k (omega arith))
    ∙ ap (λ b. q k || b) (any_map p f q ks (λ i d low. same (suc i) d (omega (arith, low))))

none_apart : (d : Chunk) (n : ℕ) → Apart d n []
none_apart d zero = record { far = tt; near = tt }
none_apart d (suc n) = record { far = tt; near = tt }

repeat_is : (h k : Head) (c d : Chunk) → h.key ≡ c.key → h.begin ≡ chunk_begin c → k.key ≡ d.key
    → k.begin ≡ chunk_begin d → repeats h k ≡ tie c d
repeat_is h k c d hk hb kk kb =
    ap (λ (n : ℕ). repeats h (record k { begin = n })) kb
    ∙ (ap (λ (n : ℕ). repeats (record h { begin = n }) (record k { begin = chunk_begin d })) hb
    ∙ (ap (λ x. repeats (record h { key = x; begin = chunk_begin c }) (record k { begin = chunk_begin d })) hk
    ∙ ap (λ x. repeats (record h { key = c.key; begin = chunk_begin c }) (record k { key = x; begin = chunk_begin d })) kk))

-- the chunk that is written of the record at a place in the list
abbrev pub nth : List Chunk → List Cut → ℕ → Chunk
nth cs past i = cut_chunk cs (slice_index_or past i no_cut)

-- the chunks of a list in order up to a place are sifted: of those that are kept, the ones from `group` on are alike with the last
pub record SiftedTo (cs : List Chunk) (past cuts : List Cut) (place group : ℕ) : Type 0 where
  pub once_is : cut_chunks cs cuts ≡ once (take place (cut_chunks cs past))
  pub low : group ≤ length cuts
  pub near : (n : ℕ) → suc n ≡ place → Apart (nth cs past n) group (cut_chunks cs cuts)
  pub news : Each (IsNew cs past) cuts

pub sift_begins : (cs : List Chunk) (past : List Cut) → SiftedTo cs past [] 0 0
sift_begins cs past = record {
  once_is = refl;
  low = omega arith;
  near = λ n e. absurd (let z : ⊥ = omega (arith, e) in z);
  news = tt;
}

module _ (v : Sight) (files : List (List ℕ)) (heads : List Head) (cs : List Chunk) (records : AreRecords v files heads cs)
    (past : List Cut) (whole : AreWhole (length heads) past) where
  abbrev Ds : List Chunk
  Ds = cut_chunks cs past

  nth_is : (i : ℕ) → i < length past → slice_index_or Ds i no_chunk ≡ nth cs past i
  nth_is i low = get_or-map (cut_chunk cs) past i no_cut no_chunk low

  head_is : (i : ℕ) → i < length past
      → IsRecordOf v files (head_in heads (slice_index_or past i no_cut).index) (nth cs past i)
  head_is i low =
      let k : Cut = slice_index_or past i no_cut in
      subst (λ (n : ℕ). IsRecordOf v files (head_in heads k.index) (cut_of n (slice_index_or cs k.index no_chunk)))
      (sym (whole i no_cut low).1)
      (zip_at (IsRecordOf v files) heads cs records.each k.index (whole i no_cut low).0 no_head no_chunk)

  -- heads are alike as their chunks are
  goes_same : (i : ℕ) → suc i < length past → goes_on heads past (suc i) ≡ tie (nth cs past i) (nth cs past (suc i))
  goes_same i low =
      let first = head_is i (omega (arith, low)) in
      let second = head_is (suc i) low in
      repeat_is (head_in heads (slice_index_or past i no_cut).index) (head_in heads (slice_index_or past (suc i) no_cut).index)
      (nth cs past i) (nth cs past (suc i)) (ap (λ (c : Chunk). c.key) first.is) first.begin
      (ap (λ (c : Chunk). c.key) second.is) second.begin

  -- where none is alike with the one before it, all are kept
  pub all_kept : Ordered Ds → NoneRepeats heads past → Ds ≡ once Ds
  all_kept o none = sym (lone_once Ds o no_ties)
    where
      no_ties : NoTies Ds
      no_ties i low =
          let size = length-map past (cut_chunk cs) in
          let below : suc i < length past = omega (arith, low, size) in
          ap (λ c. tie c (slice_index_or Ds (suc i) no_chunk)) (nth_is i (omega (arith, below)))
          ∙ (ap (tie (nth cs past i)) (nth_is (suc i) below)
          ∙ (sym (goes_same i below) ∙ none (suc i) below))

  -- and each is the first of its chunk
  pub all_new : Ordered Ds → NoneRepeats heads past → Each (IsNew cs past) past
  all_new o none = each_from (IsNew cs past) past (λ k one. record {
    place = one.0;
    low = one.1;
    is = any_default past one.0 no_cut k one.1 ∙ one.2;
    new = λ i few.
        let size = length-map past (cut_chunk cs) in
        let below = one.1 in
        let differ = differ_at Ds (subst Differ (sym (all_kept o none)) (once_differ Ds)) i one.0 few (omega (arith, below, size)) in
        let is = any_default past one.0 no_cut k one.1 ∙ one.2 in
        ap (λ c. same_data (nth cs past i) (cut_chunk cs c)) (sym is)
        ∙ (ap (λ c. same_data c (nth cs past one.0)) (sym (nth_is i (omega (arith, few, below))))
        ∙ (ap (same_data (slice_index_or Ds i no_chunk)) (sym (nth_is one.0 below)) ∙ differ));
  })

  module _ (cuts : List Cut) (place group : ℕ) (at : SiftedTo cs past cuts place group) (o : Ordered Ds)
      (low : place < length past) where
    abbrev Ks : List Chunk
    Ks = cut_chunks cs cuts

    abbrev G : ℕ
    G = group_of (goes_on heads past place) group (length cuts)

    pub group_low : G ≤ length cuts
    group_low = go (goes_on heads past place)
      where
        go : (b : Bool) → group_of b group (length cuts) ≤ length cuts
        go true = at.low
        go false = omega arith

    pub grouped : Apart (nth cs past place) G Ks
    grouped = go place refl
      where
        goal : ℕ → Bool → Type 0
        goal p b = Apart (nth cs past p) (group_of b group (length cuts)) Ks

        by : (n : ℕ) → suc n ≡ place → (b : Bool) → tie (nth cs past n) (nth cs past (suc n)) ≡ b → goal (suc n) b
        by n e true same = goes_apart (nth cs past n) (nth cs past (suc n)) group Ks same (at.near n e)
        by n e false off =
            let size = length-map cuts (cut_chunk cs) in
            let sizes = length-map past (cut_chunk cs) in
            let below : n < length past = omega (arith, e, low) in
            let next : suc n < length past = omega (arith, e, low) in
            let inside : n < length Ds = omega (arith, below, sizes) in
            let m : n + 1 ≡ place = omega (arith, e) in
            let behind : comes_before (nth cs past (suc n)) (nth cs past n) ≡ false =
            subst (λ c. comes_before (nth cs past (suc n)) c ≡ false) (nth_is n below)
            (subst (λ c. comes_before c (slice_index_or Ds n no_chunk) ≡ false) (nth_is (suc n) next)
            (later_behind Ds o n (suc n) (omega arith) (omega (arith, next, sizes)))) in
            let earlier : Each (λ x. comes_before (nth cs past n) x ≡ false) (take n Ds) =
            subst (λ c. Each (λ x. comes_before c x ≡ false) (take n Ds)) (nth_is n below) (before_place Ds o n inside) in
            let upto : Each (λ x. comes_before (nth cs past n) x ≡ false) (take place Ds) =
            subst (Each (λ x. comes_before (nth cs past n) x ≡ false))
            (ap (λ c. take n Ds ++ c ∷ []) (sym (nth_is n below)) ∙ (sym (take_more Ds n no_chunk inside) ∙ ap (λ m. take m Ds) m))
            (each_snoc (λ x. comes_before (nth cs past n) x ≡ false) (take n Ds) (nth cs past n) earlier
            (self_behind (nth cs past n))) in
            let kept : Each (λ x. comes_before (nth cs past n) x ≡ false) Ks =
            subst (Each (λ x. comes_before (nth cs past n) x ≡ false)) (sym at.once_is)
            (each_once (λ x. comes_before (nth cs past n) x ≡ false) (take place Ds) upto) in
            subst (λ m. Apart (nth cs past (suc n)) m Ks) size
            (stops_apart (nth cs past n) (nth cs past (suc n)) Ks off behind kept)

        go : (p : ℕ) → p ≡ place → Apart (nth cs past place) G Ks
        go zero e =
            subst (λ l. Apart (nth cs past place) G l) (sym (at.once_is ∙ ap (λ m. once (take m Ds)) (sym e)))
            (none_apart (nth cs past place) G)
        go (suc n) e =
            let next : suc n < length past = omega (arith, e, low) in
            subst (λ p. goal p (goes_on heads past p)) e
            (subst (goal (suc n)) (sym (goes_same n next)) (by n e (tie (nth cs past n) (nth cs past (suc n))) refl))

    module _ (found : Bool) (is : found ≡ has_value (value_in cs (slice_index_or past place no_cut).index) cs (drop G cuts))
        (cuts_whole : AreWhole (length heads) cuts) where
      abbrev D : Chunk
      D = nth cs past place

      tells : list_any (λ x. same_data x D) Ks ≡ found
      tells =
          any_data D G Ks grouped
          ∙ (ap (list_any (λ (x : Chunk). bytes_eq x.value D.value)) (drop-map (cut_chunk cs) G cuts)
          ∙ (any_map (λ (x : Chunk). bytes_eq x.value D.value) (cut_chunk cs)
          (λ (k : Cut). bytes_eq (value_in cs k.index) (value_in cs (slice_index_or past place no_cut).index)) (drop G cuts)
          (λ i d below.
          let k = slice_index_or (drop G cuts) i d in
          let w = All-drop (λ (k : Cut). (k.index < length heads) × (k.skip ≡ 0)) G cuts cuts_whole i d below in
          ap (λ (n : ℕ). bytes_eq (drop n (value_in cs k.index)) D.value) w.1
          ∙ ap (λ (n : ℕ). bytes_eq (value_in cs k.index) (drop n (value_in cs (slice_index_or past place no_cut).index)))
          (whole place no_cut low).1) ∙ sym is))

      so_far : once (take (place + 1) Ds) ≡ Ks ++ new_one found D
      so_far =
          let sizes = length-map past (cut_chunk cs) in
          ap once (take_more Ds place no_chunk (omega (arith, low, sizes))
          ∙ ap (λ c. take place Ds ++ c ∷ []) (nth_is place low))
          ∙ (once_more (take place Ds) D
          ∙ (ap (λ l. l ++ new_one (list_any (λ x. same_data x D) l) D) (sym at.once_is)
          ∙ ap (λ b. Ks ++ new_one b D) tells))

      same_place : (n : ℕ) → suc n ≡ place + 1 → n ≡ place
      same_place n e = omega (arith, e)

      abbrev K : Cut
      K = slice_index_or past place no_cut

      sift_leaves : found ≡ true → SiftedTo cs past cuts (place + 1) G
      sift_leaves e = record {
        once_is = sym (so_far ∙ (ap (λ b. Ks ++ new_one b D) e ∙ append-nil Ks));
        low = group_low;
        near = λ n m. subst (λ p. Apart (nth cs past p) G Ks) (sym (same_place n m)) grouped;
        news = at.news;
      }

      -- none of those before it is the same
      is_new : found ≡ false → IsNew cs past K
      is_new e = record {
        place = place;
        low = low;
        is = refl;
        new = λ i few.
            let sizes = length-map past (cut_chunk cs) in
            let all : list_any (λ x. same_data x D) (take place Ds) ≡ false =
            sym (any_once (take place Ds) D)
            ∙ (ap (list_any (λ x. same_data x D)) (sym at.once_is) ∙ (tells ∙ e)) in
            let size = length-take-le place Ds (omega (arith, low, sizes)) in
            ap (λ c. same_data c D) (sym (nth_is i (omega (arith, few, low))))
            ∙ (ap (λ c. same_data c D) (sym (get_or-take place Ds i no_chunk few))
            ∙ none_any (λ x. same_data x D) (take place Ds) all i (omega (arith, few, size)));
      }

      sift_keeps : found ≡ false → SiftedTo cs past (cuts ++ K ∷ []) (place + 1) G
      sift_keeps e =
          let size = length-map cuts (cut_chunk cs) in
          let few = group_low in
          record {
            once_is = map-append (cut_chunk cs) cuts (K ∷ []) ∙ sym (so_far ∙ ap (λ b. Ks ++ new_one b D) e);
            low = let n = length-append cuts (K ∷ []) in omega (arith, n, few);
            near = λ n m.
                subst (λ p. Apart (nth cs past p) G (cut_chunks cs (cuts ++ K ∷ []))) (sym (same_place n m))
                (subst (Apart D G) (sym (map-append (cut_chunk cs) cuts (K ∷ [])))
                (put_apart D G Ks (omega (arith, size, few)) grouped));
            news = each_join (IsNew cs past) cuts (K ∷ []) at.news (is_new e, tt);
          }

      pub sift_more : (now : List Cut) → now ≡ cuts ++ new_cut found K → SiftedTo cs past now (place + 1) G
      sift_more now e = go found refl
        where
          go : (b : Bool) → found ≡ b → SiftedTo cs past now (place + 1) G
          go true f =
              subst (λ l. SiftedTo cs past l (place + 1) G)
              (sym (e ∙ (ap (λ b. cuts ++ new_cut b K) f ∙ append-nil cuts))) (sift_leaves f)
          go false f =
              subst (λ l. SiftedTo cs past l (place + 1) G) (sym (e ∙ ap (λ b. cuts ++ new_cut b K) f)) (sift_keeps f)
