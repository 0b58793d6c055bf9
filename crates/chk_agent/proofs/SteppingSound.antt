-- The invariant over a step of one adaptor.
use Rattle.std.proofs.Common.{◌≡◌, ◌⊎◌, inl, inr, ℕ, zero, suc, ◌+◌, ◌≤◌, ◌<◌, ◌^◌, Bool, true}
use Rattle.std.proofs.Common.{false, ◌&&◌, ◌||◌, not, List, [], ◌∷◌, ◌++◌, length, Some, Option, Ok}
use Rattle.std.proofs.Common.{ap, sym, subst, ◌∙◌, refl, arith, true≢false, nat_le, nat_lt, nat_eq}
use Rattle.std.proofs.Common.{if◌then◌else◌}
use Rattle.std.specs.Prelude.{IsTrue, Contains, slice_get, slice_index, slice_set}
use Rattle.std.proofs.lemmas.Bool.{and_parts, and_from, le-leb, leb-true, lt-ltb}
use Rattle.std.proofs.lemmas.Option.{same_Some, none-some}
use Rattle.chk_bytes.specs.Numbers.{limit}
use Rattle.chk_bytes.specs.Words.{is_word}
use Rattle.chk_control.specs.Classes.{is_plain}
use Rattle.chk_control.specs.Lines.{is_name}
use Rattle.chk_chunk.specs.Keys.{start_limit, is_chunk}
use Rattle.chk_chunk.specs.declared.Chunk.{Chunk}
use Rattle.chk_chunk.specs.Lent.{chunk_of}
use Rattle.chk_tail.specs.declared.step.Step.{Step}
use Rattle.chk_tail.specs.declared.step.Step.TheVariants.{Bytes, AtEnd, Shrank as is_short}
use Rattle.chk_tail.specs.Walks.{Spot}
use Rattle.chk_rotate.specs.Marks.{mark_at, place_of, BeginsBelow, RiseTo, last_of, newest_at}
use Rattle.chk_world.specs.Checkpoints.{Line, is_line, is_after_text, is_absent}
use Rattle.chk_world.specs.Answering.{MovesToLater}
use Rattle.chk_agent_adaptor.specs.declared.adaptor.Phase.{Phase}
use Rattle.chk_agent_adaptor.specs.declared.adaptor.Phase.TheVariants.{Live, Stopping, Shrank, Past}
use Rattle.chk_agent_adaptor.specs.Adaptors.{Adaptor, is_past, is_stepped, stream_at, read_line, IsPlaced}
use Rattle.chk_agent_adaptor.specs.Steps.{way_of, phase_after, stepped}
use Rattle.chk_acks.specs.Table.{Table}
use Rattle.chk_agent_delivery.specs.States.{State as Delivery}
use Rattle.chk_agent_delivery.specs.Basis.{Basis, AreOwned, stream_of_chunk}
use Rattle.chk_agent_delivery.specs.Sound.{IsSound as IsSoundDelivery, ends_after, next_begins}
use Rattle.chk_agent.specs.States.{State, process, committed_at, basis_of, chunk_given}
use Rattle.chk_agent.specs.Fills.{queued, after_step}
use Rattle.chk_agent.specs.Fits.{SuffixesRise, mark_line, IsMarked, FitsAdaptor, IsSound}
use Rattle.chk_agent.proofs.Suffixes.{later_same, later_then}
use Rattle.chk_agent.proofs.Soundness.{below_at, at_map, sound_changed, go_on_at}
use Rattle.chk_agent.proofs.SteppingWalks.{given_size, GivenFrom, Follows, Passes, WalkEnds}
use Rattle.chk_agent_delivery.proofs.Due.{set_index as set_other}
use Rattle.chk_agent_delivery.proofs.Rows.{length_set}

-- ---- a line that can be spelled, part by part

pub record Spelled (l : Line) : Type 0 where
  pub name : is_name l.name ≡ true
  pub kind : is_word l.kind ≡ true
  pub path : is_word l.path ≡ true
  pub after : is_after_text l.after ≡ true
  pub low : nat_lt l.start start_limit ≡ true
  pub begun : nat_le l.start l.first ≡ true
  pub on : nat_le l.first l.offset ≡ true
  pub within : nat_lt l.offset limit ≡ true
  pub base : (not (is_plain l.class) || (is_absent l.after && nat_eq l.first l.start)) ≡ true

pub spelled_of : (l : Line) → is_line l ≡ true → Spelled l
spelled_of l is =
    let p = and_parts (is_name l.name) _ is in
    let q = and_parts (is_word l.kind) _ p.1 in
    let r = and_parts (is_word l.path) _ q.1 in
    let s = and_parts (is_after_text l.after) _ r.1 in
    let t = and_parts (nat_lt l.start start_limit) _ s.1 in
    let u = and_parts (nat_le l.start l.first) _ t.1 in
    let v = and_parts (nat_le l.first l.offset) _ u.1 in
    let w = and_parts (nat_lt l.offset limit) _ v.1 in
    record { name = p.0; kind = q.0; path = r.0; after = s.0; low = t.0; begun = u.0; on = v.0; within = w.0; base = w.1 }

line_of : (l : Line) → Spelled l → is_line l ≡ true
line_of l s =
    and_from (is_name l.name) _ s.name (and_from (is_word l.kind) _ s.kind (and_from (is_word l.path) _ s.path
    (and_from (is_after_text l.after) _ s.after (and_from (nat_lt l.start start_limit) _ s.low (and_from (nat_le l.start l.first) _ s.begun
    (and_from (nat_le l.first l.offset) _ s.on (and_from (nat_lt l.offset limit) _ s.within s.base)))))))

-- ---- the marks

pub in_both : {X : Type 0} (xs ys : List X) (x : X) → Contains (xs ++ ys) x → Contains xs x ⊎ Contains ys x
in_both [] ys x one = inr one
in_both (y ∷ xs) ys x (zero, below, at) = inl (zero, omega arith, at)
in_both (y ∷ xs) ys x (suc k, below, at) = elim (in_both xs ys x (k, omega (arith, below), at)) [
  | inl c ↦ let b = c.1 in inl (suc c.0, omega (arith, b), c.2)
  | inr c ↦ inr c
]

follows_moves : (a b : Option (List ℕ)) → Follows a b → MovesToLater a b
follows_moves a b f = subst (MovesToLater a) (sym f.is) (inr f.later)

suffixes_from : (rotated : Bool) (n : Spot) (low high : ℕ) (marks : List Spot) → Passes rotated n.after low high marks → SuffixesRise (n ∷ marks)
suffixes_from rotated n low high [] p = tt
suffixes_from rotated n low high (m ∷ marks) p =
    (follows_moves n.after m.after p.1, suffixes_from rotated m m.first high marks p.4)

suffixes_more : (rotated : Bool) (m : Spot) (ms marks : List Spot) (low high : ℕ) → SuffixesRise (m ∷ ms)
    → Passes rotated (last_of m ms).after low high marks → SuffixesRise (m ∷ ms ++ marks)
suffixes_more rotated m [] marks low high up p = suffixes_from rotated m low high marks p
suffixes_more rotated m (n ∷ ms) marks low high up p = (up.0, suffixes_more rotated n ms marks low high up.1 p)

mark_later : (m : Spot) (marks : List Spot) (o : ℕ) → SuffixesRise (m ∷ marks) → MovesToLater m.after (mark_at marks m o).after
mark_later m [] o rise = later_same m.after
mark_later m (n ∷ marks) o rise = go (nat_le n.first o) (mark_later n marks o rise.1)
  where
    go : (b : Bool) → MovesToLater n.after (mark_at marks n o).after → MovesToLater m.after (if b then mark_at marks n o else m).after
    go true rest = later_then m.after n.after (mark_at marks n o).after rise.0 rest
    go false rest = later_same m.after

-- with more marks the place of an offset lies in the same generation or in a later one
mark_more : (m : Spot) (ms marks : List Spot) (o : ℕ) → SuffixesRise (m ∷ ms ++ marks)
    → MovesToLater (mark_at ms m o).after (mark_at (ms ++ marks) m o).after
mark_more m [] marks o up = mark_later m marks o up
mark_more m (n ∷ ms) marks o up = go (nat_le n.first o) (mark_more n ms marks o up.1)
  where
    go : (b : Bool) → MovesToLater (mark_at ms n o).after (mark_at (ms ++ marks) n o).after
        → MovesToLater (if b then mark_at ms n o else m).after (if b then mark_at (ms ++ marks) n o else m).after
    go true rest = rest
    go false rest = later_same m.after

place_more : (ms marks : List Spot) (o : ℕ) → BeginsBelow o ms → SuffixesRise (ms ++ marks)
    → MovesToLater (place_of ms o).after (place_of (ms ++ marks) o).after
place_more [] marks o from up = absurd from
place_more (m ∷ ms) marks o from up = mark_more m ms marks o up

begins_more : (ms marks : List Spot) (o : ℕ) → BeginsBelow o ms → BeginsBelow o (ms ++ marks)
begins_more [] marks o from = absurd from
begins_more (m ∷ ms) marks o from = from

-- what is known of each of them
passed_one : (rotated : Bool) (after : Option (List ℕ)) (low high : ℕ) (marks : List Spot) → Passes rotated after low high marks
    → (m : Spot) → Contains marks m
    → IsTrue rotated × IsTrue (is_after_text m.after) × (low ≤ m.first) × (m.first ≤ high)
passed_one rotated after low high [] p m (k, below, at) = absurd (let z : ⊥ = omega (arith, below) in z)
passed_one rotated after low high (n ∷ marks) p m (zero, below, at) =
    subst (λ m. IsTrue rotated × IsTrue (is_after_text m.after) × (low ≤ m.first) × (m.first ≤ high)) at
    (p.0, subst (λ a. IsTrue (is_after_text a)) (sym p.1.is) p.1.known, p.2, p.3)
passed_one rotated after low high (n ∷ marks) p m (suc k, below, at) =
    let r = passed_one rotated n.after n.first high marks p.4 m (k, omega (arith, below), at) in
    let first = p.2 in
    let later = r.2 in (r.0, r.1, omega (arith, first, later), r.3)

-- ---- the adaptor

-- where a step may have come to: a checkpoint can hold each place up to there
abbrev pub EndsWithin : Spot → Type 0
EndsWithin next = next.offset < 2 ^ 63

module _ (a : Adaptor) (h : IsMarked a) (step : Step) (next : Spot) (marks : List Spot)
    (w : Passes (not (is_plain a.class)) a.read.after a.read.offset next.offset marks) (on : a.read.offset ≤ next.offset) (within : EndsWithin next) where
  after_last : (ms : List Spot) → newest_at ms a.read.offset ≡ a.read → RiseTo ms a.read.offset → SuffixesRise ms → SuffixesRise (ms ++ marks)
  after_last [] newest rise up = absurd rise
  after_last (m ∷ ms) newest rise up =
      suffixes_more (not (is_plain a.class)) m ms marks a.read.offset next.offset up
      (subst (λ k. Passes (not (is_plain a.class)) k a.read.offset next.offset marks) (sym (ap (λ (p : Spot). p.after) newest)) w)

  -- a mark that was there
  first_mark : (ms : List Spot) → RiseTo ms a.read.offset → (m : Spot) × Contains ms m
  first_mark [] rise = absurd rise
  first_mark (m ∷ ms) rise = (m, (0, omega arith, refl))

  spelled_more : (b : Adaptor) → b ≡ stepped marks next (Ok step) a → (m : Spot) → Contains (a.marks ++ marks) m
      → is_line (record (read_line a) { offset = next.offset; first = m.first; after = m.after }) ≡ true
  spelled_more b is m one = elim (in_both a.marks marks m one) [
    | inl old ↦
        let s = spelled_of (mark_line a m) (h.spelled m old) in
        let from = leb-true m.first a.read.offset s.on in
        line_of (record (read_line a) { offset = next.offset; first = m.first; after = m.after }) (record {
          name = s.name;
          kind = s.kind;
          path = s.path;
          after = s.after;
          low = s.low;
          begun = s.begun;
          on = le-leb m.first next.offset (omega (arith, from, on));
          within = lt-ltb next.offset limit within;
          base = s.base;
        })
    | inr new ↦
        let f = first_mark a.marks h.placed.rises in
        let s = spelled_of (mark_line a f.0) (h.spelled f.0 f.1) in
        let p = passed_one (not (is_plain a.class)) a.read.after a.read.offset next.offset marks w m new in
        let begun = leb-true a.start f.0.first s.begun in
        let from = leb-true f.0.first a.read.offset s.on in
        let low = p.2 in
        line_of (record (read_line a) { offset = next.offset; first = m.first; after = m.after }) (record {
          name = s.name;
          kind = s.kind;
          path = s.path;
          after = p.1;
          low = s.low;
          begun = le-leb a.start m.first (omega (arith, begun, from, low));
          on = le-leb m.first next.offset p.3;
          within = lt-ltb next.offset limit within;
          base = ap (λ x. x || (is_absent m.after && nat_eq m.first a.start)) p.0;
        })
  ]

  marked_step : IsPlaced (stepped marks next (Ok step) a) → IsMarked (stepped marks next (Ok step) a)
  marked_step placed = record {
    placed = placed;
    suffixes = after_last a.marks h.placed.newest h.placed.rises h.suffixes;
    spelled = λ m one. spelled_more (stepped marks next (Ok step) a) refl m one;
  }

  pub fits_step : (source : List ℕ) (lines : List Line) (begin now committed : ℕ) → FitsAdaptor source lines begin committed a
      → IsPlaced (stepped marks next (Ok step) a) → now ≡ next.offset → FitsAdaptor source lines now committed (stepped marks next (Ok step) a)
  fits_step source lines begin now committed f placed at = record {
    saved = f.saved;
    there = f.there;
    is_saved = f.is_saved;
    class = f.class;
    start = f.start;
    place = record {
      marked = marked_step placed;
      queued = at;
      from = begins_more a.marks marks committed f.place.from;
      to = let to = f.place.to in omega (arith, to, on);
    };
    on = f.on;
    later =
        later_then f.saved.after (place_of a.marks committed).after (place_of (a.marks ++ marks) committed).after f.later
        (place_more a.marks marks committed f.place.from (after_last a.marks h.placed.newest h.placed.rises h.suffixes));
  }

-- ---- what is to be delivered

set_same : (xs : List ℕ) (i x : ℕ) → i < length xs → slice_index (slice_set xs i x) i ≡ x
set_same [] i x below = absurd (let z : ⊥ = omega (arith, below) in z)
set_same (y ∷ xs) zero x below = refl
set_same (y ∷ xs) (suc i) x below = set_same xs i x (omega (arith, below))

ends_more : (last owners : List ℕ) (chunks : List Chunk) (i : ℕ) (c : Chunk) → length owners ≡ length chunks
    → ends_after last (owners ++ i ∷ []) (chunks ++ c ∷ []) ≡ slice_set (ends_after last owners chunks) i c.seq
ends_more last [] [] i c many = refl
ends_more last [] (d ∷ chunks) i c many = absurd (let z : ⊥ = omega (arith, many) in z)
ends_more last (j ∷ owners) [] i c many = absurd (let z : ⊥ = omega (arith, many) in z)
ends_more last (j ∷ owners) (d ∷ chunks) i c many = ends_more (slice_set last j d.seq) owners chunks i c (omega (arith, many))

pub ends_size : (last owners : List ℕ) (chunks : List Chunk) → length (ends_after last owners chunks) ≡ length last
ends_size last [] chunks = refl
ends_size last (i ∷ owners) [] = refl
ends_size last (i ∷ owners) (c ∷ chunks) = ends_size (slice_set last i c.seq) owners chunks ∙ length_set last i c.seq

owned_more : (b : Basis) (owners : List ℕ) (chunks : List Chunk) (i : ℕ) (c : Chunk) → AreOwned b owners chunks
    → slice_get b.streams i ≡ Some (stream_of_chunk c) → c.cluster ≡ b.cluster → AreOwned b (owners ++ i ∷ []) (chunks ++ c ∷ [])
owned_more b [] [] i c owned of cluster = (of, cluster, tt)
owned_more b [] (d ∷ chunks) i c owned of cluster = absurd owned
owned_more b (j ∷ owners) [] i c owned of cluster = absurd owned
owned_more b (j ∷ owners) (d ∷ chunks) i c owned of cluster = (owned.0, owned.1, owned_more b owners chunks i c owned.2 of cluster)

-- what stands at a place, where one is another one
pub set_at : (xs : List Adaptor) (i j : ℕ) (b c : Adaptor) → slice_get (slice_set xs i b) j ≡ Some c
    → ((j ≡ i) × (c ≡ b)) ⊎ ((j ≡ i → ⊥) × (slice_get xs j ≡ Some c))
set_at [] i j b c e = absurd (none-some c e)
set_at (x ∷ xs) zero zero b c e = inl (refl, sym (same_Some b c e))
set_at (x ∷ xs) zero (suc j) b c e = inr (λ k. let z : ⊥ = omega (arith, k) in z, e)
set_at (x ∷ xs) (suc i) zero b c e = inr (λ k. let z : ⊥ = omega (arith, k) in z, e)
set_at (x ∷ xs) (suc i) (suc j) b c e = elim (set_at xs i j b c e) [
  | inl h ↦ inl (ap suc h.0, h.1)
  | inr h ↦ inr (λ k. h.0 (let z : j ≡ i = omega (arith, k) in z), h.1)
]

-- ---- the state

still_past : (p : Phase) (step : Step) (next : Spot) → is_stepped p ≡ true → is_past p ≡ true → is_past (phase_after step next p) ≡ true
still_past Live step next on e = absurd (true≢false (sym e))
still_past (Stopping end) step next on e = absurd (true≢false (sym e))
still_past Shrank step next on e = absurd (true≢false (sym e))
still_past Past step next on e = absurd (true≢false (sym on))

-- what is then to be delivered: the bytes of the step behind the rest
pub record Queues (s : State) (i : ℕ) (a : Adaptor) (step : Step) (d : Delivery) : Type 0 where
  pub is : d ≡ queued s i a step s.delivery
  pub sound : IsSoundDelivery d

module _ (s : State) (sound : IsSound s) (i : ℕ) (a : Adaptor) (at : slice_get s.adaptors i ≡ Some a) where
  pub known_end : length s.delivery.table.last ≡ length s.delivery.table.committed → i < length (next_begins s.delivery)
  known_end ends =
      let below = below_at s.adaptors i a at in
      let few = sound.few in
      let known = sound.known in
      let size = ends_size s.delivery.table.last s.delivery.owners s.delivery.queue.chunks in
      omega (arith, below, few, known, ends, size)

  next_after : (step : Step) (next : ℕ) → length s.delivery.table.last ≡ length s.delivery.table.committed
      → next ≡ a.read.offset + given_size step → GivenFrom a.read.offset step
      → (slice_index (next_begins (queued s i a step s.delivery)) i ≡ next)
      × ((j : ℕ) → (j ≡ i → ⊥) → slice_index (next_begins (queued s i a step s.delivery)) j ≡ slice_index (next_begins s.delivery) j)
  next_after (Bytes bytes end) next ends is given =
      let c = chunk_given s a bytes end in
      let more = ends_more s.delivery.table.last s.delivery.owners s.delivery.queue.chunks i c sound.delivery.as_many in (
        ap (λ xs. slice_index xs i) more ∙ (set_same (next_begins s.delivery) i end (known_end ends) ∙ (given.1 ∙ sym is)),
        λ j other. ap (λ xs. slice_index xs j) more ∙ set_other (next_begins s.delivery) i j end other,
      )
  next_after AtEnd next ends is given =
      (let q = (sound.each i a at).place.queued in let z : slice_index (next_begins s.delivery) i ≡ next = omega (arith, q, is) in z, λ j other. refl)
  next_after (is_short had size) next ends is given =
      (let q = (sound.each i a at).place.queued in let z : slice_index (next_begins s.delivery) i ≡ next = omega (arith, q, is) in z, λ j other. refl)

  owned_after : (step : Step) → AreOwned (basis_of s) (queued s i a step s.delivery).owners (queued s i a step s.delivery).queue.chunks
  owned_after (Bytes bytes end) =
      owned_more (basis_of s) s.delivery.owners s.delivery.queue.chunks i (chunk_given s a bytes end) sound.owned
      (at_map (stream_at s.source) s.adaptors i a at) refl
  owned_after AtEnd = sound.owned
  owned_after (is_short had size) = sound.owned

  committed_after : (step : Step) → (queued s i a step s.delivery).table ≡ s.delivery.table
  committed_after (Bytes bytes end) = refl
  committed_after AtEnd = refl
  committed_after (is_short had size) = refl

  rules_after : (step : Step) → (queued s i a step s.delivery).rules ≡ s.delivery.rules
  rules_after (Bytes bytes end) = refl
  rules_after AtEnd = refl
  rules_after (is_short had size) = refl

  module _ (step : Step) (next : Spot) (marks : List Spot) (w : WalkEnds (way_of (process s) a) step a.read next marks)
      (on : is_stepped a.phase ≡ true) (within : EndsWithin next) (placed : IsPlaced (stepped marks next (Ok step) a))
      (ends : length s.delivery.table.last ≡ length s.delivery.table.committed) where
    abbrev B : Adaptor
    B = stepped marks next (Ok step) a

    each_after : (j : ℕ) (c : Adaptor) → slice_get (slice_set s.adaptors i B) j ≡ Some c
        → FitsAdaptor s.source s.saved (slice_index (next_begins (queued s i a step s.delivery)) j) (committed_at s j) c
    each_after j c e =
        let n = next_after step next.offset ends w.offset w.given in
        elim (set_at s.adaptors i j B c e) [
          | inl h ↦
              subst (FitsAdaptor s.source s.saved (slice_index (next_begins (queued s i a step s.delivery)) j) (committed_at s j)) (sym h.1)
              (subst (λ j. FitsAdaptor s.source s.saved (slice_index (next_begins (queued s i a step s.delivery)) j) (committed_at s j) B) (sym h.0)
              (fits_step a (sound.each i a at).place.marked step next marks w.passed
              (let offset = w.offset in omega (arith, offset)) within s.source s.saved (slice_index (next_begins s.delivery) i)
              (slice_index (next_begins (queued s i a step s.delivery)) i) (committed_at s i) (sound.each i a at) placed n.0))
          | inr h ↦
              subst (λ k. FitsAdaptor s.source s.saved k (committed_at s j) c) (sym (n.1 j h.0)) (sound.each j c h.1)
        ]

    -- the state after the step is sound
    pub sound_step : IsSoundDelivery (queued s i a step s.delivery) → IsSound (after_step i step a B s)
    sound_step left = sound_changed s sound (slice_set s.adaptors i B) (Some i) (queued s i a step s.delivery) (record {
      on = go_on_at s.adaptors i a B at (record { name = refl; kind = refl; path = refl; past = still_past a.phase step next on });
      delivery = left;
      rules = rules_after step;
      known = ap (λ (t : Table). length t.committed) (committed_after step);
      each = λ j c e.
          subst (λ (t : Table). FitsAdaptor s.source s.saved (slice_index (next_begins (queued s i a step s.delivery)) j) (slice_index t.committed j) c)
          (sym (committed_after step)) (each_after j c e);
      owned = owned_after step;
    })

-- ---- the chunk

-- a chunk of what was given can be spelled
pub valid_given : (s : State) (sound : IsSound s) (i : ℕ) (a : Adaptor) → slice_get s.adaptors i ≡ Some a → (bytes : List ℕ) (end : ℕ)
    → GivenFrom a.read.offset (Bytes bytes end) → length bytes ≤ 131072 → end < 2 ^ 63 → IsTrue (is_word s.source) → IsTrue (is_word s.cluster)
    → is_chunk (chunk_of (chunk_given s a bytes end)) ≡ true
valid_given s sound i a at bytes end given most within source cluster =
    let f = sound.each i a at in
    let m = some_mark a.marks f.place.from in
    let l = spelled_of (mark_line a m.0) (f.place.marked.spelled m.0 m.1) in
    let begun = leb-true a.start m.0.first l.begun in
    let on = leb-true m.0.first a.read.offset l.on in
    let some = given.0 in
    let is = given.1 in
    and_from _ _
    (and_from _ _ (and_from (is_word s.source) _ source (and_from (is_word a.kind) _ l.kind l.path))
    (and_from (is_word s.cluster) _ cluster (and_from (nat_lt a.start start_limit) _ l.low
    (and_from (nat_lt a.start end) _ (lt-ltb a.start end (omega (arith, begun, on, some, is))) (lt-ltb end limit within)))))
    (and_from (nat_lt 0 (length bytes)) _ (lt-ltb 0 (length bytes) some)
    (and_from (nat_le (length bytes) 131072) _ (le-leb (length bytes) 131072 most)
    (le-leb (a.start + length bytes) end (omega (arith, begun, on, is)))))
  where
    some_mark : (ms : List Spot) → BeginsBelow (committed_at s i) ms → (m : Spot) × Contains ms m
    some_mark [] from = absurd from
    some_mark (m ∷ ms) from = (m, (0, omega arith, refl))
