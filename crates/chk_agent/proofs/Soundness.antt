-- The invariant of an agent: what follows from it, and how it goes on.
use Rattle.std.proofs.Common.{◌≡◌, ℕ, zero, suc, ◌≤◌, ◌<◌, Bool, true, false, ◌&&◌, ◌||◌, not, List}
use Rattle.std.proofs.Common.{[], ◌∷◌, length, map, nat_le, nat_lt, nat_eq, Option, Some, ap, sym}
use Rattle.std.proofs.Common.{subst, ◌∙◌, refl, arith, true≢false, bytes_eq, ◌^◌, if◌then◌else◌}
use Rattle.std.specs.Prelude.{IsTrue, Contains, Any, slice_get, slice_set, slice_index, find}
use Rattle.std.specs.List.{list_all, list_any}
use Rattle.std.proofs.lemmas.Bool.{and_parts, and_from, le-leb, leb-true, lt-ltb, ltb-true}
use Rattle.std.proofs.lemmas.Bool.{eqb-true}
use Rattle.std.proofs.lemmas.Option.{same_Some, none-some}
use Rattle.chk_bytes.specs.Numbers.{limit}
use Rattle.chk_bytes.specs.Words.{is_word}
use Rattle.chk_control.specs.Classes.{is_plain}
use Rattle.chk_control.specs.Lines.{is_name}
use Rattle.chk_site.specs.Logs.{TheBase, Past}
use Rattle.chk_chunk.specs.Keys.{Stream, start_limit}
use Rattle.chk_chunk.specs.declared.Chunk.{Chunk}
use Rattle.chk_tail.specs.Walks.{Spot}
use Rattle.chk_rotate.specs.Marks.{place_of, BeginsBelow}
use Rattle.chk_world.specs.Names.{is_source}
use Rattle.chk_world.specs.Checkpoints.{Line, Two, is_line, is_line_of, same_log, clash, are_apart}
use Rattle.chk_world.specs.Checkpoints.{are_lines, fits_version, is_after_text, is_absent}
use Rattle.chk_world.specs.Reading.{IsPlacePast}
use Rattle.chk_world.specs.Answering.{MovesToLater}
use Rattle.chk_world.proofs.Ends.{bytes_self}
use Rattle.chk_world.proofs.NewLines.{line_found}
use Rattle.chk_agent_adaptor.specs.Adaptors.{Adaptor, is_past, stream_at, line_at, read_line, IsPastLine}
use Rattle.chk_agent_delivery.specs.States.{State as Delivery}
use Rattle.chk_agent_delivery.specs.Basis.{Basis, AreOwned, IsSaved, Fits, stream_of_chunk}
use Rattle.chk_agent_delivery.specs.Sound.{IsSound as IsSoundDelivery, next_begins}
use Rattle.chk_agent.specs.States.{State, committed_at, lines_at, lines_of, basis_of}
use Rattle.chk_agent.specs.Settles.{saved_now, unsure}
use Rattle.chk_agent.specs.Fits.{IsEnough, mark_line, IsMarked, FitsPlace, FitsAdaptor, IsSound}
use Rattle.chk_agent.proofs.Suffixes.{later_same, later_then, later_behind, later_past, place_later}
use Rattle.chk_agent.proofs.Suffixes.{place_read, place_among}
use Rattle.chk_control.proofs.SpelledLemmas.{false_from_not as not-true}
use Rattle.chk_world.proofs.SpelledLemmas.{all_fit_two as all_fit}
use Rattle.chk_agent_delivery.proofs.Due.{neither}

-- ---- lists

pub in_at : {X : Type 0} (xs : List X) (i : ℕ) (x : X) → slice_get xs i ≡ Some x → Contains xs x
in_at [] i x e = absurd (none-some x e)
in_at (y ∷ xs) zero x e = (0, omega arith, same_Some y x e)
in_at (y ∷ xs) (suc i) x e = let r = in_at xs i x e in let below = r.1 in (suc r.0, omega (arith, below), r.2)

pub below_at : {X : Type 0} (xs : List X) (i : ℕ) (x : X) → slice_get xs i ≡ Some x → i < length xs
below_at [] i x e = absurd (none-some x e)
below_at (y ∷ xs) zero x e = omega arith
below_at (y ∷ xs) (suc i) x e = let r = below_at xs i x e in omega (arith, r)

any_at : {X : Type 0} (P : X → Type 0) (xs : List X) (i : ℕ) (x : X) → slice_get xs i ≡ Some x → P x → Any P xs
any_at P xs i x at p = let c = in_at xs i x at in (c.0, x, c.1, c.2, p)

pub map_at : {X Y : Type 0} (f : X → Y) (xs : List X) (i : ℕ) (y : Y) → slice_get (map f xs) i ≡ Some y
    → (x : X) × (slice_get xs i ≡ Some x) × (f x ≡ y)
map_at f [] i y e = absurd (none-some y e)
map_at f (x ∷ xs) zero y e = (x, refl, same_Some (f x) y e)
map_at f (x ∷ xs) (suc i) y e = map_at f xs i y e

pub at_map : {X Y : Type 0} (f : X → Y) (xs : List X) (i : ℕ) (x : X) → slice_get xs i ≡ Some x
    → slice_get (map f xs) i ≡ Some (f x)
at_map f [] i x e = absurd (none-some x e)
at_map f (y ∷ xs) zero x e = ap (λ z. Some (f z)) (same_Some y x e)
at_map f (y ∷ xs) (suc i) x e = at_map f xs i x e

pub size_map : {X Y : Type 0} (f : X → Y) (xs : List X) → length (map f xs) ≡ length xs
size_map f [] = refl
size_map f (x ∷ xs) = ap suc (size_map f xs)

-- ---- the lines of adaptors

pub size_lines : (adaptors : List Adaptor) (ends : List ℕ) → length (lines_at adaptors ends) ≡ length adaptors
size_lines [] ends = refl
size_lines (a ∷ adaptors) [] = ap suc (size_lines adaptors [])
size_lines (a ∷ adaptors) (o ∷ ends) = ap suc (size_lines adaptors ends)

-- a line is that of an adaptor
pub line_in : (adaptors : List Adaptor) (ends : List ℕ) (l : Line) → Contains (lines_at adaptors ends) l
    → (i : ℕ) × (a : Adaptor) × (slice_get adaptors i ≡ Some a) × (l ≡ line_at (slice_index ends i) a)
line_in [] ends l (k, below, at) = absurd (let z : ⊥ = omega (arith, below) in z)
line_in (a ∷ adaptors) [] l (zero, below, at) = (0, a, refl, sym at)
line_in (a ∷ adaptors) [] l (suc k, below, at) =
    let r = line_in adaptors [] l (k, omega (arith, below), at) in (suc r.0, r.1, r.2, r.3)
line_in (a ∷ adaptors) (o ∷ ends) l (zero, below, at) = (0, a, refl, sym at)
line_in (a ∷ adaptors) (o ∷ ends) l (suc k, below, at) =
    let r = line_in adaptors ends l (k, omega (arith, below), at) in (suc r.0, r.1, r.2, r.3)

-- each adaptor has its line
pub in_lines : (adaptors : List Adaptor) (ends : List ℕ) (i : ℕ) (a : Adaptor) → slice_get adaptors i ≡ Some a
    → Contains (lines_at adaptors ends) (line_at (slice_index ends i) a)
in_lines [] ends i a at = absurd (none-some a at)
in_lines (b ∷ adaptors) [] zero a at = (0, omega arith, ap (line_at 0) (same_Some b a at))
in_lines (b ∷ adaptors) [] (suc i) a at =
    let r = in_lines adaptors [] i a at in let below = r.1 in (suc r.0, omega (arith, below), r.2)
in_lines (b ∷ adaptors) (o ∷ ends) zero a at = (0, omega arith, ap (line_at o) (same_Some b a at))
in_lines (b ∷ adaptors) (o ∷ ends) (suc i) a at =
    let r = in_lines adaptors ends i a at in let below = r.1 in (suc r.0, omega (arith, below), r.2)

clash_any : (o : ℕ) (a : Adaptor) (adaptors : List Adaptor) (ends : List ℕ)
    → list_any (clash (line_at o a)) (lines_at adaptors ends) ≡ list_any (clash (line_at 0 a)) (map (line_at 0) adaptors)
clash_any o a [] ends = refl
clash_any o a (b ∷ adaptors) [] = ap (λ t. clash (line_at 0 a) (line_at 0 b) || t) (clash_any o a adaptors [])
clash_any o a (b ∷ adaptors) (p ∷ ends) = ap (λ t. clash (line_at 0 a) (line_at 0 b) || t) (clash_any o a adaptors ends)

-- whether they are apart isn't a matter of their offsets
pub apart_at : (adaptors : List Adaptor) (ends : List ℕ)
    → are_apart (lines_at adaptors ends) ≡ are_apart (map (line_at 0) adaptors)
apart_at [] ends = refl
apart_at (a ∷ adaptors) [] = (λ i. not (clash_any 0 a adaptors [] i) && apart_at adaptors [] i)
apart_at (a ∷ adaptors) (o ∷ ends) = (λ i. not (clash_any o a adaptors ends i) && apart_at adaptors ends i)

all_lines : (adaptors : List Adaptor) (ends : List ℕ)
    → ((i : ℕ) (a : Adaptor) → slice_get adaptors i ≡ Some a → is_line (line_at (slice_index ends i) a) ≡ true)
    → list_all is_line (lines_at adaptors ends) ≡ true
all_lines [] ends each = refl
all_lines (a ∷ adaptors) [] each = and_from (is_line (line_at 0 a)) _ (each 0 a refl) (all_lines adaptors [] (λ i. each (suc i)))
all_lines (a ∷ adaptors) (o ∷ ends) each =
    and_from (is_line (line_at o a)) _ (each 0 a refl) (all_lines adaptors ends (λ i. each (suc i)))

any_line : (l : Line) (adaptors : List Adaptor) (ends : List ℕ) → Any (λ a. IsTrue (same_log l (line_at 0 a))) adaptors
    → Any (λ m. IsTrue (same_log l m)) (lines_at adaptors ends)
any_line l [] ends (k, a, below, at, same) = absurd (let z : ⊥ = omega (arith, below) in z)
any_line l (b ∷ adaptors) [] (zero, a, below, at, same) =
    (0, line_at 0 a, omega arith, ap (line_at 0) at, same)
any_line l (b ∷ adaptors) [] (suc k, a, below, at, same) =
    let r = any_line l adaptors [] (k, a, omega (arith, below), at, same) in
    let b = r.2 in (suc r.0, r.1, omega (arith, b), r.3, r.4)
any_line l (b ∷ adaptors) (o ∷ ends) (zero, a, below, at, same) =
    (0, line_at o a, omega arith, ap (line_at o) at, same)
any_line l (b ∷ adaptors) (o ∷ ends) (suc k, a, below, at, same) =
    let r = any_line l adaptors ends (k, a, omega (arith, below), at, same) in
    let b = r.2 in (suc r.0, r.1, omega (arith, b), r.3, r.4)

-- ---- the line of one adaptor

kept : (a b c d e f : Bool) {r s : Bool} → (a && (b && (c && (d && (e && (f && r)))))) ≡ true → (r ≡ true → s ≡ true)
    → (a && (b && (c && (d && (e && (f && s)))))) ≡ true
kept true true true true true true all on = on all
kept true true true true true false all on = absurd (true≢false (sym all))
kept true true true true false f all on = absurd (true≢false (sym all))
kept true true true false e f all on = absurd (true≢false (sym all))
kept true true false d e f all on = absurd (true≢false (sym all))
kept true false c d e f all on = absurd (true≢false (sym all))
kept false b c d e f all on = absurd (true≢false (sym all))

-- where it begins and ends; one that reads the base file alone begins with its start
pub record HasPlace (l : Line) : Type 0 where
  pub begun : l.start ≤ l.first
  pub on : l.first ≤ l.offset
  pub within : l.offset < 2 ^ 63
  pub plain : is_plain l.class ≡ true → l.first ≡ l.start

pub has_place : (l : Line) → is_line l ≡ true → HasPlace l
has_place l is =
    let p = and_parts (is_name l.name) _ is in
    let p = and_parts (is_word l.kind) _ p.1 in
    let p = and_parts (is_word l.path) _ p.1 in
    let p = and_parts (is_after_text l.after) _ p.1 in
    let p = and_parts (nat_lt l.start start_limit) _ p.1 in
    let begun = and_parts (nat_le l.start l.first) _ p.1 in
    let on = and_parts (nat_le l.first l.offset) _ begun.1 in
    let within = and_parts (nat_lt l.offset limit) _ on.1 in
    record {
      begun = leb-true l.start l.first begun.0;
      on = leb-true l.first l.offset on.0;
      within = ltb-true l.offset limit within.0;
      plain = λ plain. base (is_plain l.class) (is_absent l.after) plain within.1;
    }
  where
    base : (p a : Bool) → p ≡ true → (not p || (a && nat_eq l.first l.start)) ≡ true → l.first ≡ l.start
    base true true plain e = eqb-true l.first l.start e
    base true false plain e = absurd (true≢false (sym e))
    base false a plain e = absurd (true≢false (sym plain))

-- a line stays one at another offset of its generation that is no greater, and whether live or not
pub line_on : (l : Line) (o : ℕ) → l.first ≤ o → o ≤ l.offset → is_line l ≡ true → is_line (record l { offset = o }) ≡ true
line_on l o from to is = kept (is_name l.name) (is_word l.kind) (is_word l.path) (is_after_text l.after) (nat_lt l.start start_limit)
    (nat_le l.start l.first) is (λ rest.
    let p = and_parts (nat_le l.first l.offset) _ rest in
    let q = and_parts (nat_lt l.offset limit) _ p.1 in
    let below = ltb-true l.offset limit q.0 in
    and_from (nat_le l.first o) _ (le-leb l.first o from) (and_from (nat_lt o limit) _ (lt-ltb o limit (omega (arith, below, to))) q.1))

-- the line at an offset can be spelled
pub line_spelled : (a : Adaptor) → IsMarked a → (o : ℕ) → BeginsBelow o a.marks → o ≤ a.read.offset
    → is_line (line_at o a) ≡ true
line_spelled a marked o from to =
    let p = place_among a.marks o from in
    subst (λ (q : Spot). is_line (record (line_at o a) { first = q.first; after = q.after }) ≡ true) (sym p.is)
    (line_on (mark_line a p.mark) o p.begins to (marked.spelled p.mark p.one))

-- the reader is at or past the line
pub past_line : (source : List ℕ) (lines : List Line) (begin committed : ℕ) (a : Adaptor)
    → (f : FitsAdaptor source lines begin committed a) → IsPastLine f.saved (read_line a)
past_line source lines begin committed a f = record {
  class = f.class;
  start = f.start;
  behind = later_behind f.saved.after a.read.after moves;
  past = by_class (is_plain a.class) refl;
}
  where
    here : place_of a.marks a.read.offset ≡ a.read
    here = place_read a f.place.marked.placed

    moves : MovesToLater f.saved.after a.read.after
    moves =
        later_then f.saved.after (place_of a.marks committed).after a.read.after f.later
        (subst (λ (p : Spot). MovesToLater (place_of a.marks committed).after p.after) here
        (place_later a.marks committed a.read.offset f.place.to f.place.marked.suffixes))

    read_place : HasPlace (read_line a)
    read_place =
        has_place (read_line a)
        (subst (λ (p : Spot). is_line (record (line_at a.read.offset a) { first = p.first; after = p.after }) ≡ true) here
        (line_spelled a f.place.marked a.read.offset (begins_on a.marks f.place.from) (omega arith)))
      where
        begins_on : (marks : List Spot) → BeginsBelow committed marks → BeginsBelow a.read.offset marks
        begins_on [] from = from
        begins_on (m ∷ marks) from = let to = f.place.to in omega (arith, from, to)

    by_class : (plain : Bool) → is_plain a.class ≡ plain
        → IsPlacePast (if plain then TheBase else Past a.read.after) (read_line a) f.saved
    by_class true e =
        let saved : is_plain f.saved.class ≡ true = ap is_plain f.class ∙ e in
        let from = (has_place f.saved f.is_saved).plain saved in
        let first = read_place.plain e in
        let on = read_place.on in
        let start = f.start in
        let low = f.on in
        let high = f.place.to in
        (saved, omega (arith, from, first, on, start, low, high))
    by_class false e = (
      ap not (ap is_plain f.class ∙ e),
      later_past f.saved.after a.read.after moves,
      (let low = f.on in let high = f.place.to in omega (arith, low, high)),
    )

-- its committed end may go on
pub fits_on : (source : List ℕ) (lines : List Line) (begin next committed end : ℕ) (a : Adaptor)
    → FitsAdaptor source lines begin committed a → next ≡ begin → committed ≤ end → end ≤ a.read.offset
    → FitsAdaptor source lines next end a
fits_on source lines begin next committed end a f same on to = record {
  saved = f.saved;
  there = f.there;
  is_saved = f.is_saved;
  class = f.class;
  start = f.start;
  place = record { marked = f.place.marked; queued = same ∙ f.place.queued; from = begins_on a.marks f.place.from; to = to };
  on = let so_far = f.on in omega (arith, so_far, on);
  later =
      later_then f.saved.after (place_of a.marks committed).after (place_of a.marks end).after f.later
      (place_later a.marks committed end on f.place.marked.suffixes);
}
  where
    begins_on : (marks : List Spot) → BeginsBelow committed marks → BeginsBelow end marks
    begins_on [] from = from
    begins_on (m ∷ marks) from = omega (arith, from, on)

-- ---- what follows of the state

-- the adaptors with these begins and committed ends have their places, and their lines may stand in one checkpoint
pub record HavePlaces (adaptors : List Adaptor) (begins ends : List ℕ) : Type 0 where
  pub few : length adaptors ≤ 10000
  pub apart : IsTrue (are_apart (map (line_at 0) adaptors))
  pub each : (i : ℕ) (a : Adaptor) → slice_get adaptors i ≡ Some a
      → FitsPlace (slice_index begins i) (slice_index ends i) a

pub have_places : (s : State) → IsSound s → HavePlaces s.adaptors (next_begins s.delivery) s.delivery.table.committed
have_places s sound = record { few = sound.few; apart = sound.apart; each = λ i a at. (sound.each i a at).place }

pub lines_good : (adaptors : List Adaptor) (begins ends : List ℕ) → HavePlaces adaptors begins ends
    → IsTrue (are_lines Two (lines_at adaptors ends))
lines_good adaptors begins ends h =
    let lines = lines_at adaptors ends in
    let size = size_lines adaptors ends in
    let few = h.few in
    and_from (nat_le (length lines) 10000) _ (le-leb (length lines) 10000 (omega (arith, size, few)))
    (and_from (list_all is_line lines) _
    (all_lines adaptors ends (λ i a at. let f = h.each i a at in line_spelled a f.marked (slice_index ends i) f.from f.to))
    (and_from (list_all (fits_version Two) lines) _ (all_fit lines) (apart_at adaptors ends ∙ h.apart)))

-- the lines that would be written now can be
pub lines_spelled : (s : State) → IsSound s → IsTrue (are_lines Two (lines_of s))
lines_spelled s sound =
    lines_good s.adaptors (next_begins s.delivery) s.delivery.table.committed (have_places s sound)

-- none of the saved ones is lost
pub none_lost : (s : State) → IsSound s → (l : Line) → Contains s.saved l → Any (λ m. IsTrue (same_log l m)) (lines_of s)
none_lost s sound l one = any_line l s.adaptors s.delivery.table.committed (sound.none_lost l one)

-- the delivery fits the streams and the lines
pub fits_basis : (s : State) → IsSound s → Fits (basis_of s) s.delivery
fits_basis s sound = record {
  saved = λ i t at.
      let k = map_at (stream_at s.source) s.adaptors i t at in
      let f = sound.each i k.0 k.1 in
      subst (IsSaved (basis_of s)) k.2 (record { source = refl; line = f.saved; there = f.there });
  owned = sound.owned;
  known =
      let few = sound.few in
      let known = sound.known in
      let size = size_map (stream_at s.source) s.adaptors in omega (arith, few, known, size);
}

-- the line of an adaptor is found by its stream among those that would be written now
pub line_there : (source : List ℕ) (adaptors : List Adaptor) (ends : List ℕ) → IsTrue (are_apart (map (line_at 0) adaptors))
    → (i : ℕ) (a : Adaptor) → slice_get adaptors i ≡ Some a
    → find (is_line_of (stream_at source a)) (lines_at adaptors ends) ≡ Some (line_at (slice_index ends i) a)
line_there source adaptors ends apart i a at =
    line_found source (lines_at adaptors ends) (line_at (slice_index ends i) a) (apart_at adaptors ends ∙ apart)
    (in_lines adaptors ends i a at)

-- ---- how it goes on

-- chunks that are owned stay so where each stream keeps its number
pub owned_on : (b c : Basis) → ((i : ℕ) (t : Stream) → slice_get b.streams i ≡ Some t → slice_get c.streams i ≡ Some t)
    → b.cluster ≡ c.cluster → (owners : List ℕ) (chunks : List Chunk) → AreOwned b owners chunks → AreOwned c owners chunks
owned_on b c streams cluster [] [] owned = tt
owned_on b c streams cluster [] (x ∷ chunks) owned = owned
owned_on b c streams cluster (i ∷ owners) [] owned = owned
owned_on b c streams cluster (i ∷ owners) (x ∷ chunks) owned = (
  streams i (stream_of_chunk x) owned.0,
  owned.1 ∙ cluster,
  owned_on b c streams cluster owners chunks owned.2,
)

-- a state whose lines are those that were saved
pub sound_written : (s : State) → IsTrue (is_source s.source) → IsSoundDelivery s.delivery
    → IsEnough s.delivery.rules → length s.delivery.table.committed ≡ 10000 → HavePlaces s.adaptors (next_begins s.delivery) s.delivery.table.committed
    → AreOwned (basis_of s) s.delivery.owners s.delivery.queue.chunks → IsSound (saved_now s)
sound_written s source delivery enough known h owned = record {
  source = source;
  delivery = delivery;
  enough = enough;
  known = known;
  few = h.few;
  each = λ i a at. let f = h.each i a at in record {
    saved = line_at (committed_at s i) a;
    there = line_there s.source s.adaptors s.delivery.table.committed h.apart i a at;
    is_saved = line_spelled a f.marked (committed_at s i) f.from f.to;
    class = refl;
    start = refl;
    place = f;
    on = omega arith;
    later = later_same (place_of a.marks (committed_at s i)).after;
  };
  owned = owned_on (basis_of s) (basis_of (saved_now s)) (λ i t at. at) refl s.delivery.owners s.delivery.queue.chunks owned;
  none_lost = λ l one.
      let r = line_in s.adaptors s.delivery.table.committed l one in
      any_at (λ a. IsTrue (same_log l (line_at 0 a))) s.adaptors r.0 r.1 r.2
      (subst (λ (k : Line). IsTrue (same_log k (line_at 0 r.1))) (sym r.3)
      (and_from (bytes_eq r.1.kind r.1.kind) (bytes_eq r.1.path r.1.path) (bytes_self r.1.kind) (bytes_self r.1.path)));
  apart = h.apart;
}

-- the lines of the state were written
pub sound_saved : (s : State) → IsSound s → IsSound (saved_now s)
sound_saved s sound =
    sound_written s sound.source sound.delivery sound.enough sound.known (have_places s sound) sound.owned

-- the adaptor is still of that stream and name, and a past one stays past
pub record GoesOnAs (a b : Adaptor) : Type 0 where
  pub name : b.name ≡ a.name
  pub kind : b.kind ≡ a.kind
  pub path : b.path ≡ a.path
  pub past : is_past a.phase ≡ true → is_past b.phase ≡ true

abbrev pub AllGoOn : List Adaptor → List Adaptor → Type 0
AllGoOn [] [] = Unit {0}
AllGoOn (a ∷ xs) (b ∷ bs) = GoesOnAs a b × AllGoOn xs bs
AllGoOn xs bs = ⊥

go_on_same : (xs : List Adaptor) → AllGoOn xs xs
go_on_same [] = tt
go_on_same (a ∷ xs) = (record { name = refl; kind = refl; path = refl; past = λ e. e }, go_on_same xs)

-- one of them is another one
pub go_on_at : (xs : List Adaptor) (i : ℕ) (a b : Adaptor) → slice_get xs i ≡ Some a → GoesOnAs a b
    → AllGoOn xs (slice_set xs i b)
go_on_at [] i a b at on = tt
go_on_at (x ∷ xs) zero a b at on = (subst (λ k. GoesOnAs k b) (sym (same_Some x a at)) on, go_on_same xs)
go_on_at (x ∷ xs) (suc i) a b at on = (record { name = refl; kind = refl; path = refl; past = λ e. e }, go_on_at xs i a b at on)

size_on : (xs bs : List Adaptor) → AllGoOn xs bs → length bs ≡ length xs
size_on [] [] on = refl
size_on [] (b ∷ bs) on = absurd on
size_on (a ∷ xs) [] on = absurd on
size_on (a ∷ xs) (b ∷ bs) on = ap suc (size_on xs bs on.1)

pub streams_on : (source : List ℕ) (xs bs : List Adaptor) → AllGoOn xs bs
    → map (stream_at source) xs ≡ map (stream_at source) bs
streams_on source [] [] on = refl
streams_on source [] (b ∷ bs) on = absurd on
streams_on source (a ∷ xs) [] on = absurd on
streams_on source (a ∷ xs) (b ∷ bs) on =
    λ i. record { source = source; kind = sym on.0.kind i; name = sym on.0.path i } ∷ streams_on source xs bs on.1 i

log_on : (l : Line) (xs bs : List Adaptor) → AllGoOn xs bs → Any (λ a. IsTrue (same_log l (line_at 0 a))) xs
    → Any (λ a. IsTrue (same_log l (line_at 0 a))) bs
log_on l [] bs on (k, a, below, at, same) = absurd (let z : ⊥ = omega (arith, below) in z)
log_on l (x ∷ xs) [] on any = absurd on
log_on l (x ∷ xs) (y ∷ bs) on (zero, a, below, at, same) = (
  0,
  y,
  omega arith,
  refl,
  subst (λ kind. (bytes_eq l.kind kind && bytes_eq l.path y.path) ≡ true) (sym on.0.kind)
      (subst (λ path. (bytes_eq l.kind x.kind && bytes_eq l.path path) ≡ true) (sym on.0.path)
      (subst (λ (k : Adaptor). same_log l (line_at 0 k) ≡ true) (sym at) same)),
)
log_on l (x ∷ xs) (y ∷ bs) on (suc k, a, below, at, same) =
    let r = log_on l xs bs on.1 (k, a, omega (arith, below), at, same) in
    let b = r.2 in (suc r.0, r.1, omega (arith, b), r.3, r.4)

-- two lines that don't clash don't do so where one of them, or both, is live no more
fewer : (same name la lb ma mb : Bool) → (la ≡ true → ma ≡ true) → (lb ≡ true → mb ≡ true)
    → (same || (not la && (not lb && name))) ≡ false → (same || (not ma && (not mb && name))) ≡ false
fewer true name la lb ma mb a b e = e
fewer false name la lb true mb a b e = refl
fewer false name la lb false true a b e = refl
fewer false name true lb false false a b e = absurd (true≢false (sym (a refl)))
fewer false name false true false false a b e = absurd (true≢false (sym (b refl)))
fewer false name false false false false a b e = e

clash_on : (a b c d : Adaptor) → GoesOnAs a c → GoesOnAs b d → clash (line_at 0 a) (line_at 0 b) ≡ false
    → clash (line_at 0 c) (line_at 0 d) ≡ false
clash_on a b c d on_a on_b apart =
    fewer (bytes_eq c.kind d.kind && bytes_eq c.path d.path) (bytes_eq c.name d.name) (is_past a.phase) (is_past b.phase)
    (is_past c.phase) (is_past d.phase) on_a.past on_b.past
    ((λ i. (bytes_eq (on_a.kind i) (on_b.kind i) && bytes_eq (on_a.path i) (on_b.path i))
    || (not (is_past a.phase) && (not (is_past b.phase) && bytes_eq (on_a.name i) (on_b.name i)))) ∙ apart)

none_clash : (a c : Adaptor) → GoesOnAs a c → (xs bs : List Adaptor) → AllGoOn xs bs
    → list_any (clash (line_at 0 a)) (map (line_at 0) xs) ≡ false
    → list_any (clash (line_at 0 c)) (map (line_at 0) bs) ≡ false
none_clash a c on_a [] [] on apart = refl
none_clash a c on_a [] (d ∷ bs) on apart = absurd on
none_clash a c on_a (b ∷ xs) [] on apart = absurd on
none_clash a c on_a (b ∷ xs) (d ∷ bs) on apart =
    let n = neither (clash (line_at 0 a) (line_at 0 b)) _ apart in
    ap (λ t. t || list_any (clash (line_at 0 c)) (map (line_at 0) bs)) (clash_on a b c d on_a on.0 n.0)
    ∙ none_clash a c on_a xs bs on.1 n.1

apart_on : (xs bs : List Adaptor) → AllGoOn xs bs → are_apart (map (line_at 0) xs) ≡ true
    → are_apart (map (line_at 0) bs) ≡ true
apart_on [] [] on apart = refl
apart_on [] (b ∷ bs) on apart = absurd on
apart_on (a ∷ xs) [] on apart = absurd on
apart_on (a ∷ xs) (b ∷ bs) on apart =
    let p = and_parts (not (list_any (clash (line_at 0 a)) (map (line_at 0) xs))) _ apart in
    and_from (not (list_any (clash (line_at 0 b)) (map (line_at 0) bs))) _
    (ap not (none_clash a b on.0 xs bs on.1 (not-true (list_any (clash (line_at 0 a)) (map (line_at 0) xs)) p.0)))
    (apart_on xs bs on.1 p.1)

-- What a call may change at once: the adaptors keep their streams and names, and each fits what is
-- then to be delivered.
pub record Changes (s : State) (bs : List Adaptor) (d : Delivery) : Type 0 where
  pub on : AllGoOn s.adaptors bs
  pub delivery : IsSoundDelivery d
  pub rules : d.rules ≡ s.delivery.rules
  pub known : length d.table.committed ≡ length s.delivery.table.committed
  pub each : (i : ℕ) (b : Adaptor) → slice_get bs i ≡ Some b
      → FitsAdaptor s.source s.saved (slice_index (next_begins d) i) (slice_index d.table.committed i) b
  pub owned : AreOwned (basis_of s) d.owners d.queue.chunks

pub sound_changed : (s : State) → IsSound s → (bs : List Adaptor) (last : Option ℕ) (d : Delivery) → Changes s bs d
    → IsSound (record s { adaptors = bs; last = last; delivery = d })
sound_changed s sound bs last d c = record {
  source = sound.source;
  delivery = c.delivery;
  enough = subst IsEnough (sym c.rules) sound.enough;
  known = c.known ∙ sound.known;
  few = let few = sound.few in let size = size_on s.adaptors bs c.on in omega (arith, few, size);
  each = c.each;
  owned =
      owned_on (basis_of s) (basis_of (record s { adaptors = bs; last = last; delivery = d }))
      (λ i t at. subst (λ ts. slice_get ts i ≡ Some t) (streams_on s.source s.adaptors bs c.on) at) refl d.owners d.queue.chunks c.owned;
  none_lost = λ l one. log_on l s.adaptors bs c.on (sound.none_lost l one);
  apart = apart_on s.adaptors bs c.on sound.apart;
}

-- What a call that leaves the adaptors makes of what is to be delivered: each next chunk begins
-- where it did, and each committed end goes on, up to the place read at most.
pub record Delivers (s : State) (d : Delivery) : Type 0 where
  pub delivery : IsSoundDelivery d
  pub rules : d.rules ≡ s.delivery.rules
  pub known : length d.table.committed ≡ length s.delivery.table.committed
  pub begins : (i : ℕ) (a : Adaptor) → slice_get s.adaptors i ≡ Some a
      → slice_index (next_begins d) i ≡ slice_index (next_begins s.delivery) i
  pub on : (i : ℕ) (a : Adaptor) → slice_get s.adaptors i ≡ Some a → committed_at s i ≤ slice_index d.table.committed i
  pub to : (i : ℕ) (a : Adaptor) → slice_get s.adaptors i ≡ Some a → slice_index d.table.committed i ≤ a.read.offset
  pub owned : AreOwned (basis_of s) d.owners d.queue.chunks

pub sound_delivered : (s : State) → IsSound s → (d : Delivery) → Delivers s d → IsSound (record s { delivery = d })
sound_delivered s sound d h = sound_changed s sound s.adaptors s.last d (record {
  on = go_on_same s.adaptors;
  delivery = h.delivery;
  rules = h.rules;
  known = h.known;
  each = λ i a at.
      fits_on s.source s.saved (slice_index (next_begins s.delivery) i) (slice_index (next_begins d) i) (committed_at s i)
      (slice_index d.table.committed i) a (sound.each i a at) (h.begins i a at) (h.on i a at) (h.to i a at);
  owned = h.owned;
})

-- it isn't known what the file has
pub sound_unsure : (s : State) → IsSound s → IsSound (unsure s)
sound_unsure s sound = record {
  source = sound.source;
  delivery = sound.delivery;
  enough = sound.enough;
  known = sound.known;
  few = sound.few;
  each = sound.each;
  owned = owned_on (basis_of s) (basis_of (unsure s)) (λ i t at. at) refl s.delivery.owners s.delivery.queue.chunks sound.owned;
  none_lost = sound.none_lost;
  apart = sound.apart;
}
