-- What is known of a stream, by a search among sorted streams.
use Rattle.std.proofs.Common.{◌≡◌, ◌<◌, inl, inr, ℕ, zero, suc, Bool, true, false, true≢false, List, [], ◌∷◌, length, drop, get_or, refl, sym, ◌∙◌, ap, arith, if◌then◌else◌}
use Rattle.std.specs.Prelude.{Option, Some, None}
use Rattle.std.specs.Cmp.{IsStrictWeakOrder}
use Rattle.std.specs.List.Sorted.{IsPartitionedBy, IsPartitionPoint}
use Rattle.std.proofs.Math.Seq.{drop-cons}
use Rattle.std.proofs.lemmas.Bool.{cases_Bool, cases_lt}
use Rattle.std.proofs.lemmas.List.{drop_all, get_or_default}
use Rattle.std.proofs.lemmas.List.Sorted.{sorted_far}
use Rattle.chk_chunk.specs.Keys.{Stream, same_stream, stream_lt}
use Rattle.chk_record_index.specs.Heads.{Head}
use Rattle.chk_record_index.proofs.Orders.{streams, through}
use Rattle.chk_record_index.proofs.Sorting.{as_std}
use Rattle.chk_archive_plan.specs.declared.spans.Known.{Known}
use Rattle.chk_archive_plan.specs.Passes.{begins_at, known_of, known_stream, AreSorted}
use Rattle.chk_archive_plan.specs.Starts.{start_known}
use Rattle.chk_record_index.proofs.Apart.{apart as not_same}

abbrev pub known_lt : Known → Known → Bool
known_lt k l = stream_lt (known_stream k) (known_stream l)

pub known_ordered : IsStrictWeakOrder (λ (k l : Known). stream_lt (known_stream k) (known_stream l))
known_ordered = as_std known_lt (through known_stream stream_lt streams.order)

-- none that comes before a stream stands behind one that doesn't
pub parted : (ks : List Known) (s : Stream) → AreSorted ks
    → IsPartitionedBy (λ (k : Known). stream_lt (known_stream k) s) ks
parted ks s rise i j d low high on =
    elim (cases_Bool (stream_lt (known_stream (get_or ks i d)) s)) [
      | inl is_so ↦ is_so
      | inr not_so ↦
          absurd
          (true≢false
          (sym on
          ∙ streams.order.onward (known_stream (get_or ks j d)) (known_stream (get_or ks i d)) s
          (sorted_far known_lt known_ordered ks rise i j d low high) not_so))
    ]

-- those that are of other streams are gone by
passed : (ks : List Known) (i : ℕ) (s : Stream)
    → ((k : ℕ) (d : Known) → k < i → k < length ks
    → same_stream (known_stream (get_or ks k d)) s ≡ false)
    → known_of ks s ≡ known_of (drop i ks) s
passed ks zero s other = refl
passed [] (suc i) s other = refl
passed (x ∷ ks) (suc i) s other =
    let rest =
    passed ks i s (λ k d low high. other (suc k) d (omega (arith, low)) (omega (arith, high)))
    in
    ap (λ b. if b then Some x else known_of ks s) (other zero x (omega arith) (omega arith)) ∙ rest

-- a stream behind one that comes behind another isn't that one
behind : (s t u : Stream) → stream_lt s u ≡ false → same_stream s u ≡ false
    → stream_lt t s ≡ false → same_stream t u ≡ false
behind s t u late other after = elim (cases_Bool (same_stream t u)) [
  | inl same ↦
      let back = streams.order.onward u t s (streams.neither t u same).1 after in
      absurd (true≢false (sym (streams.are_alike s u late back) ∙ other))
  | inr is_other ↦ is_other
]

abbrev pub IsPlaceIn : List Known → Stream → ℕ → Type 0
IsPlaceIn ks s i =
    IsPartitionPoint (λ (k : Known). stream_lt (known_stream k) s ≡ true)
    (λ (k : Known). stream_lt (known_stream k) s ≡ false) ks i

-- the stream that stands at the place of the search
pub present : (ks : List Known) (s : Stream) (i : ℕ) (d : Known) → IsPlaceIn ks s i
    → i < length ks → same_stream (known_stream (get_or ks i d)) s ≡ true
    → known_of ks s ≡ Some (get_or ks i d)
present ks s i d at low same =
    passed ks i s (λ k d below in_list. not_same (known_stream (get_or ks k d)) s
    (at.0 k d (omega arith) below))
    ∙ (ap (λ l. known_of l s) (drop-cons ks i d low)
    ∙ ap (λ b. if b then Some (get_or ks i d) else known_of (drop (suc i) ks) s) same)

-- another one stands there, or none
pub absent : (ks : List Known) (s : Stream) (i : ℕ) (any : Known) → AreSorted ks
    → IsPlaceIn ks s i
    → (i < length ks → same_stream (known_stream (get_or ks i any)) s ≡ false)
    → known_of ks s ≡ None
absent ks s i any rise at other =
    passed ks (length ks) s (λ k d below in_list. elim (cases_lt k i) [
      | inl early ↦
          not_same (known_stream (get_or ks k d)) s (at.0 k d (omega arith) early)
      | inr late ↦
          let here : i < length ks = omega (arith, late, below) in
          behind (known_stream (get_or ks i d)) (known_stream (get_or ks k d)) s
          (at.1 i d (omega arith) here)
          (ap (λ l. same_stream (known_stream l) s) (get_or_default ks i d any here) ∙ other here)
          (sorted_far known_lt known_ordered ks rise i k d late below)
    ])
    ∙ ap (λ l. known_of l s) (drop_all (length ks) ks (omega arith))

-- ---- what is known of a stream

abbrev end_by : ℕ → Option Known → ℕ
end_by n None = n
end_by n (Some k) = k.end

abbrev start_by : ℕ → Option Known → ℕ
start_by n None = n
start_by n (Some k) = k.start

begins_by : (ks : List Known) (h : Head)
    → begins_at ks h ≡ end_by h.key.start (known_of ks h.key.stream)
begins_by [] h = refl
begins_by (k ∷ ks) h = go (same_stream (known_stream k) h.key.stream) (begins_by ks h)
  where
    go : (b : Bool) → begins_at ks h ≡ end_by h.key.start (known_of ks h.key.stream)
        → (if b then k.end else begins_at ks h)
        ≡ end_by h.key.start (if b then Some k else known_of ks h.key.stream)
    go true e = refl
    go false e = e

starts_by : (n : ℕ) (ks : List Known) (s : Stream)
    → start_known n ks s ≡ start_by n (known_of ks s)
starts_by n [] s = refl
starts_by n (k ∷ ks) s = go (same_stream (known_stream k) s) (starts_by n ks s)
  where
    go : (b : Bool) → start_known n ks s ≡ start_by n (known_of ks s)
        → (if b then k.start else start_known n ks s)
        ≡ start_by n (if b then Some k else known_of ks s)
    go true e = refl
    go false e = e

pub begins_known : (ks : List Known) (h : Head) (k : Known) → known_of ks h.key.stream ≡ Some k
    → begins_at ks h ≡ k.end
begins_known ks h k is = begins_by ks h ∙ ap (end_by h.key.start) is

pub begins_unknown : (ks : List Known) (h : Head) → known_of ks h.key.stream ≡ None
    → begins_at ks h ≡ h.key.start
begins_unknown ks h is = begins_by ks h ∙ ap (end_by h.key.start) is

pub starts_known : (n : ℕ) (ks : List Known) (s : Stream) (k : Known) → known_of ks s ≡ Some k
    → start_known n ks s ≡ k.start
starts_known n ks s k is = starts_by n ks s ∙ ap (start_by n) is

pub starts_unknown : (n : ℕ) (ks : List Known) (s : Stream) → known_of ks s ≡ None
    → start_known n ks s ≡ n
starts_unknown n ks s is = starts_by n ks s ∙ ap (start_by n) is
