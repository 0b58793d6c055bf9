-- A new stream: the state with its adaptor is sound, once its line was written.
use Rattle.std.proofs.Common.{◌≡◌, ◌≢◌, ℕ, zero, suc, ◌≤◌, ◌<◌, false, ◌==◌, ◌||◌, List, [], ◌∷◌}
use Rattle.std.proofs.Common.{◌++◌, length, map, Some, None, ap, sym, subst, ◌∙◌, refl, arith}
use Rattle.std.proofs.Common.{if◌then◌else◌}
use Rattle.std.specs.Prelude.{slice_get, slice_set, slice_index}
use Rattle.std.specs.List.{list_any}
use Rattle.std.proofs.lemmas.Bool.{ne_eqb}
use Rattle.std.proofs.lemmas.Option.{same_Some, none-some}
use Rattle.std.proofs.lemmas.List.{get_or-set_same, get_or-set_other}
use Rattle.chk_chunk.specs.Keys.{Stream}
use Rattle.chk_chunk.specs.declared.Chunk.{Chunk}
use Rattle.chk_world.specs.Checkpoints.{Line}
use Rattle.chk_agent_adaptor.specs.declared.adaptor.Phase.TheVariants.{Live, Past}
use Rattle.chk_agent_adaptor.specs.Adaptors.{Adaptor, adaptor_of, is_past, line_at, stream_at}
use Rattle.chk_agent_delivery.specs.Basis.{Basis, AreOwned}
use Rattle.chk_agent_delivery.specs.Turns.{begun_at}
use Rattle.chk_agent_delivery.specs.Sound.{IsSound as IsSoundDelivery, ends_after, next_begins}
use Rattle.chk_agent.specs.States.{State, committed_at, lines_at, lines_of, basis_of}
use Rattle.chk_agent.specs.Settles.{saved_now}
use Rattle.chk_agent.specs.Fits.{FitsPlace, IsSound}
use Rattle.chk_agent.specs.Adds.{with_added}
use Rattle.chk_agent.specs.Takes.{IsNewLine}
use Rattle.chk_agent.proofs.Soundness.{HavePlaces, sound_written, owned_on, map_at, at_map}
use Rattle.chk_agent.proofs.Soundness.{below_at, size_map}
use Rattle.chk_agent.proofs.StartingSound.{place_again, line_again}
use Rattle.chk_agent.proofs.AddingNames.{apart_more}
use Rattle.chk_agent.proofs.AddingPast.{set_size}

-- ---- lists

pub data AtEnd {X : Type 0} (xs : List X) (y : X) (i : ℕ) (x : X) : Type 0 where
  before : slice_get xs i ≡ Some x → AtEnd xs y i x
  last : i ≡ length xs → y ≡ x → AtEnd xs y i x

pub at_end : {X : Type 0} (xs : List X) (y : X) (i : ℕ) (x : X) → slice_get (xs ++ y ∷ []) i ≡ Some x → AtEnd xs y i x
at_end [] y zero x at = last refl (same_Some y x at)
at_end [] y (suc i) x at = absurd (none-some x at)
at_end (z ∷ xs) y zero x at = before at
at_end (z ∷ xs) y (suc i) x at = elim (at_end xs y i x at) [ before e ↦ before e | last e f ↦ last (ap suc e) f ]

pub get_more : {X : Type 0} (xs ys : List X) (i : ℕ) (x : X) → slice_get xs i ≡ Some x → slice_get (xs ++ ys) i ≡ Some x
get_more [] ys i x at = absurd (none-some x at)
get_more (z ∷ xs) ys zero x at = at
get_more (z ∷ xs) ys (suc i) x at = get_more xs ys i x at

pub size_more : {X : Type 0} (xs : List X) (y : X) → length (xs ++ y ∷ []) ≡ suc (length xs)
size_more [] y = refl
size_more (x ∷ xs) y = ap suc (size_more xs y)

set_both : (xs : List ℕ) (i j x y : ℕ) → j ≢ i → slice_set (slice_set xs i x) j y ≡ slice_set (slice_set xs j y) i x
set_both [] i j x y other = refl
set_both (z ∷ xs) zero zero x y other = absurd (other refl)
set_both (z ∷ xs) zero (suc j) x y other = refl
set_both (z ∷ xs) (suc i) zero x y other = refl
set_both (z ∷ xs) (suc i) (suc j) x y other = ap (λ ks. z ∷ ks) (set_both xs i j x y (λ e. other (ap suc e)))

-- the lines with one more
pub lines_more : (xs : List Adaptor) (ends : List ℕ) (a : Adaptor) (o : ℕ) → length xs < length ends
    → lines_at (xs ++ a ∷ []) (slice_set ends (length xs) o) ≡ lines_at xs ends ++ line_at o a ∷ []
lines_more [] [] a o few = absurd (let z : ⊥ = omega (arith, few) in z)
lines_more [] (e ∷ ends) a o few = refl
lines_more (x ∷ xs) [] a o few = absurd (let z : ⊥ = omega (arith, few) in z)
lines_more (x ∷ xs) (e ∷ ends) a o few = ap (λ ls. line_at e x ∷ ls) (lines_more xs ends a o (omega (arith, few)))

-- ---- what is to be delivered

-- a number past the streams owns nothing
pub no_owner : (b : Basis) (n : ℕ) → length b.streams ≤ n → (owners : List ℕ) (chunks : List Chunk) → AreOwned b owners chunks
    → list_any (λ i. i == n) owners ≡ false
no_owner b n past [] chunks owned = refl
no_owner b n past (i ∷ owners) [] owned = absurd owned
no_owner b n past (i ∷ owners) (c ∷ chunks) owned =
    let below = below_at b.streams i _ owned.0 in
    let other : i ≢ n = λ e. let z : ⊥ = omega (arith, below, past, e) in z in
    ap (λ t. t || list_any (λ i. i == n) owners) (ne_eqb i n other) ∙ no_owner b n past owners chunks owned.2

ends_other : (b : Basis) (n x : ℕ) → length b.streams ≤ n → (ends owners : List ℕ) (chunks : List Chunk) → AreOwned b owners chunks
    → ends_after (slice_set ends n x) owners chunks ≡ slice_set (ends_after ends owners chunks) n x
ends_other b n x past ends [] chunks owned = refl
ends_other b n x past ends (i ∷ owners) [] owned = absurd owned
ends_other b n x past ends (i ∷ owners) (c ∷ chunks) owned =
    let below = below_at b.streams i _ owned.0 in
    let other : i ≢ n = λ e. let z : ⊥ = omega (arith, below, past, e) in z in
    ap (λ es. ends_after es owners chunks) (set_both ends n i x c.seq other)
    ∙ ends_other b n x past (slice_set ends i c.seq) owners chunks owned.2

ends_size : (ends owners : List ℕ) (chunks : List Chunk) → length (ends_after ends owners chunks) ≡ length ends
ends_size ends [] chunks = refl
ends_size ends (i ∷ owners) [] = refl
ends_size ends (i ∷ owners) (c ∷ chunks) = ends_size (slice_set ends i c.seq) owners chunks ∙ set_size ends i c.seq

-- ---- the state

module _ (s : State) (sound : IsSound s) (l : Line) (new : IsNewLine s l)
    (lasts : length s.delivery.table.last ≡ length s.delivery.table.committed) where
  abbrev N : ℕ
  N = length s.adaptors

  abbrev A : Adaptor
  A = adaptor_of l

  pub known : N < length s.delivery.table.committed
  known = let room = new.room in let size = sound.known in omega (arith, room, size)

  streams_few : length (basis_of s).streams ≤ N
  streams_few = let size = size_map (stream_at s.source) s.adaptors in omega (arith, size)

  pub none_owned : list_any (λ i. i == N) s.delivery.owners ≡ false
  none_owned = no_owner (basis_of s) N streams_few s.delivery.owners s.delivery.queue.chunks sound.owned

  begins_are : next_begins (begun_at N l.start s.delivery) ≡ slice_set (next_begins s.delivery) N l.start
  begins_are =
      ends_other (basis_of s) N l.start streams_few s.delivery.table.last s.delivery.owners s.delivery.queue.chunks sound.owned

  begin_at : (i : ℕ) → i ≢ N → slice_index (next_begins (begun_at N l.start s.delivery)) i ≡ slice_index (next_begins s.delivery) i
  begin_at i other = ap (λ xs. slice_index xs i) begins_are ∙ get_or-set_other (next_begins s.delivery) N i l.start 0 other

  pub end_at : (i : ℕ) → i ≢ N → slice_index (slice_set s.delivery.table.committed N l.start) i ≡ committed_at s i
  end_at i other = get_or-set_other s.delivery.table.committed N i l.start 0 other

  pub end_here : slice_index (slice_set s.delivery.table.committed N l.start) N ≡ l.start
  end_here = get_or-set_same s.delivery.table.committed N l.start 0 known

  begin_here : slice_index (next_begins (begun_at N l.start s.delivery)) N ≡ l.start
  begin_here =
      let size = ends_size s.delivery.table.last s.delivery.owners s.delivery.queue.chunks in
      let below = known in
      ap (λ xs. slice_index xs N) begins_are ∙ get_or-set_same (next_begins s.delivery) N l.start 0 (omega (arith, size, lasts, below))

  pub below : (i : ℕ) (a : Adaptor) → slice_get s.adaptors i ≡ Some a → i ≢ N
  below i a at e = let less = below_at s.adaptors i a at in let z : ⊥ = omega (arith, less, e) in z

  abbrev T : State
  T = with_added s None l

  place_here : FitsPlace l.start l.start A
  place_here = subst (λ o. FitsPlace o o A) new.offset (place_again l new.spelled)

  pub places : HavePlaces T.adaptors (next_begins T.delivery) T.delivery.table.committed
  places = record {
    few = let room = new.room in let size = size_more s.adaptors A in omega (arith, room, size);
    apart =
        apart_more A (ap (λ live. is_past (if live then Live else Past)) new.live) 0 0 s.adaptors new.stream new.name sound.apart;
    each = λ i a at. elim (at_end s.adaptors A i a at) [
      | before e ↦
          subst (λ o. FitsPlace o (slice_index T.delivery.table.committed i) a) (sym (begin_at i (below i a e)))
          (subst (λ o. FitsPlace (slice_index (next_begins s.delivery) i) o a) (sym (end_at i (below i a e))) (sound.each i a e).place)
      | last e is ↦
          subst (λ i. FitsPlace (slice_index (next_begins T.delivery) i) (slice_index T.delivery.table.committed i) a) (sym e)
          (subst (FitsPlace (slice_index (next_begins T.delivery) N) (slice_index T.delivery.table.committed N)) is
          (subst (λ o. FitsPlace o (slice_index T.delivery.table.committed N) A) (sym begin_here)
          (subst (λ o. FitsPlace l.start o A) (sym end_here) place_here)))
    ];
  }

  pub streams_more : (i : ℕ) (t : Stream) → slice_get (map (stream_at s.source) s.adaptors) i ≡ Some t
      → slice_get (map (stream_at s.source) T.adaptors) i ≡ Some t
  streams_more i t at =
      let k = map_at (stream_at s.source) s.adaptors i t at in
      at_map (stream_at s.source) T.adaptors i k.0 (get_more s.adaptors (A ∷ []) i k.0 k.1) ∙ ap Some k.2

  pub new_sound : IsSoundDelivery (begun_at N l.start s.delivery) → IsSound (saved_now T)
  new_sound delivery =
      sound_written T sound.source delivery sound.enough (set_size s.delivery.table.committed N l.start ∙ sound.known) places
      (owned_on (basis_of s) (basis_of T) streams_more refl s.delivery.owners s.delivery.queue.chunks sound.owned)

  pub new_lines : lines_of T ≡ lines_of s ++ l ∷ []
  new_lines =
      lines_more s.adaptors s.delivery.table.committed A l.start known
      ∙ ap (λ k. lines_of s ++ k ∷ []) (ap (λ o. line_at o A) (sym new.offset) ∙ line_again l)
