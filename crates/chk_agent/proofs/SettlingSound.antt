-- The invariant over a settle: who goes back, and what is forgotten.
use Rattle.std.proofs.Common.{◌≡◌, inl, inr, ℕ, zero, suc, ◌≤◌, Bool, true, false, List, [], ◌∷◌}
use Rattle.std.proofs.Common.{length, Some, None, ap, sym, subst, ◌∙◌, refl, arith, true≢false}
use Rattle.std.proofs.Common.{nat_le, if◌then◌else◌}
use Rattle.std.specs.Prelude.{Contains, slice_get, slice_index}
use Rattle.std.proofs.lemmas.Bool.{leb-true, cases_lt}
use Rattle.std.proofs.lemmas.Option.{same_Some, none-some}
use Rattle.chk_tail.specs.Walks.{Spot}
use Rattle.chk_rotate.specs.Marks.{mark_at, place_of, forgotten, kept_to, BeginsBelow, RiseTo}
use Rattle.chk_rotate.specs.Marks.{newest_at}
use Rattle.chk_rotate.proofs.MarkLemmas.{kept_one, kept_none, rise_kept, rise_forgotten}
use Rattle.chk_rotate.proofs.MarkLemmas.{newest_kept, newest_forgotten}
use Rattle.chk_world.specs.Checkpoints.{is_line}
use Rattle.chk_world.specs.Answering.{MovesToLater}
use Rattle.chk_agent_adaptor.specs.declared.adaptor.Phase.{Phase}
use Rattle.chk_agent_adaptor.specs.declared.adaptor.Phase.TheVariants.{Live, Stopping, Shrank, Past}
use Rattle.chk_agent_adaptor.specs.Adaptors.{Adaptor, is_past, sent_back, settled_one, phase_back}
use Rattle.chk_agent_adaptor.specs.Adaptors.{phase_at}
use Rattle.chk_agent_delivery.specs.Sound.{IsSound as IsSoundDelivery, next_begins}
use Rattle.chk_agent_delivery.specs.Turns.{is_one_of, without_adaptors, last_back}
use Rattle.chk_agent_delivery.proofs.Members.{in_filter}
use Rattle.chk_agent.specs.States.{State, committed_at, basis_of}
use Rattle.chk_agent.specs.Settles.{all_back, reset, settled_all, settled}
use Rattle.chk_agent.specs.Fits.{SuffixesRise, mark_line, IsMarked, FitsAdaptor, IsSound}
use Rattle.chk_agent.proofs.Soundness.{below_at, line_on, AllGoOn, GoesOnAs, sound_changed}
use Rattle.chk_agent.proofs.SettlingBack.{back_one, back_at, place_kept}
use Rattle.chk_agent.proofs.SettlingNext.{gone_ends, other_ends, last_at, owned_left}
use Rattle.chk_agent_delivery.proofs.Leaving.{length-last_back as last_size}

-- ---- marks up to an offset

suffixes_kept : (marks : List Spot) (x o : ℕ) → RiseTo marks x → BeginsBelow o marks → SuffixesRise marks → SuffixesRise (kept_to o marks)
suffixes_kept [] x o rise from up = absurd from
suffixes_kept (m ∷ []) x o rise from up = subst SuffixesRise (sym (kept_one m [] o from)) tt
suffixes_kept (m ∷ n ∷ marks) x o rise from up = elim (cases_lt o n.first) [
  | inl above ↦
      subst SuffixesRise (sym (kept_one m (n ∷ marks) o from ∙ ap (λ ms. m ∷ ms) (kept_none n marks x o rise.1 above))) tt
  | inr below ↦
      let on : n.first ≤ o = omega (arith, below) in
      let e = kept_one n marks o on in
      let rest : SuffixesRise (n ∷ kept_to o marks) = subst SuffixesRise e (suffixes_kept (n ∷ marks) x o rise.1 on up.1) in
      subst SuffixesRise (sym (kept_one m (n ∷ marks) o from ∙ ap (λ ms. m ∷ ms) e)) (up.0, rest)
]

pub place_offset : (marks : List Spot) (o : ℕ) → (place_of marks o).offset ≡ o
place_offset [] o = refl
place_offset (m ∷ marks) o = refl

begins_kept : (marks : List Spot) (o : ℕ) → BeginsBelow o marks → BeginsBelow o (kept_to o marks)
begins_kept [] o from = absurd from
begins_kept (m ∷ marks) o from = subst (BeginsBelow o) (sym (kept_one m marks o from)) from

marked_back : (o : ℕ) (a : Adaptor) → BeginsBelow o a.marks → o ≤ a.read.offset → IsMarked a → IsMarked (sent_back o a)
marked_back o a from to h = record {
  placed = record {
    rises = subst (RiseTo (kept_to o a.marks)) (sym at) (rise_kept a.marks a.read.offset o h.placed.rises from);
    newest = ap (newest_at (kept_to o a.marks)) at ∙ newest_kept a.marks a.read.offset o h.placed.rises from;
  };
  suffixes = suffixes_kept a.marks a.read.offset o h.placed.rises from h.suffixes;
  spelled = λ m one.
      let k = in_filter (λ (m : Spot). nat_le m.first o) a.marks m one in
      subst (λ k. is_line (record (mark_line a m) { offset = k }) ≡ true) (sym at)
      (line_on (mark_line a m) o (leb-true m.first o k.1) to (h.spelled m k.0));
}
  where
    at : (place_of a.marks o).offset ≡ o
    at = place_offset a.marks o

fits_back : (source : List ℕ) (a : Adaptor) (begin next o : ℕ) {lines : _} → FitsAdaptor source lines begin o a → next ≡ o
    → FitsAdaptor source lines next o (sent_back o a)
fits_back source a begin next o f is = record {
  saved = f.saved;
  there = f.there;
  is_saved = f.is_saved;
  class = f.class;
  start = f.start;
  place = record {
    marked = marked_back o a f.place.from f.place.to f.place.marked;
    queued = is ∙ sym (place_offset a.marks o);
    from = begins_kept a.marks o f.place.from;
    to = let at = place_offset a.marks o in omega (arith, at);
  };
  on = f.on;
  later =
      subst (λ (p : Spot). MovesToLater f.saved.after p.after)
      (sym (place_kept a.marks a.read.offset o f.place.marked.placed.rises f.place.from)) f.later;
}

past_back : (p : Phase) → is_past p ≡ true → is_past (phase_back p) ≡ true
past_back Live e = e
past_back (Stopping end) e = e
past_back Shrank e = e
past_back Past e = e

all_go_back : (gone committed : List ℕ) (i : ℕ) (xs : List Adaptor) → AllGoOn xs (all_back gone committed i xs)
all_go_back gone committed i [] = tt
all_go_back gone committed i (a ∷ xs) = (one (is_one_of gone i), all_go_back gone committed (suc i) xs)
  where
    one : (b : Bool) → GoesOnAs a (if b then sent_back (slice_index committed i) a else a)
    one true = record { name = refl; kind = refl; path = refl; past = past_back a.phase }
    one false = record { name = refl; kind = refl; path = refl; past = λ e. e }

-- the expired adaptors are back
pub sound_reset : (s : State) → IsSound s → (gone : List ℕ) → length s.delivery.table.last ≡ length s.delivery.table.committed
    → IsSoundDelivery (without_adaptors gone s.delivery) → IsSound (reset gone s)
sound_reset s sound gone ends left = sound_changed s sound (all_back gone s.delivery.table.committed 0 s.adaptors) s.last (without_adaptors gone s.delivery)
    (record {
      on = all_go_back gone s.delivery.table.committed 0 s.adaptors;
      delivery = left;
      rules = refl;
      known = refl;
      each = λ i b at.
          let r = back_at gone s.delivery.table.committed s.adaptors 0 i i b (omega arith) at in
          fits i r.0 b r.1 r.2 (is_one_of gone i) refl;
      owned = owned_left (basis_of s) gone s.delivery.owners s.delivery.queue.chunks sound.owned;
    })
  where
    t : List ℕ
    t = last_back gone s.delivery.table.committed 0 s.delivery.table.last

    at_last : (i : ℕ) (a : Adaptor) → slice_get s.adaptors i ≡ Some a
        → slice_index t i ≡ (if is_one_of gone i then committed_at s i else slice_index s.delivery.table.last i)
    at_last i a at =
        let below = below_at s.adaptors i a at in
        let few = sound.few in
        let known = sound.known in
        last_at gone s.delivery.table.committed s.delivery.table.last 0 i i (omega arith) (omega (arith, below, few, known, ends))

    fits : (i : ℕ) (a b : Adaptor) → slice_get s.adaptors i ≡ Some a → b ≡ back_one gone s.delivery.table.committed i a
        → (x : Bool) → is_one_of gone i ≡ x
        → FitsAdaptor s.source s.saved (slice_index (next_begins (without_adaptors gone s.delivery)) i) (committed_at s i) b
    fits i a b at is true e =
        subst (FitsAdaptor s.source s.saved (slice_index (next_begins (without_adaptors gone s.delivery)) i) (committed_at s i))
        (sym (is ∙ ap (λ x. if x then sent_back (committed_at s i) a else a) e))
        (fits_back s.source a (slice_index (next_begins s.delivery) i) (slice_index (next_begins (without_adaptors gone s.delivery)) i)
        (committed_at s i) (sound.each i a at)
        (gone_ends gone s.delivery.owners s.delivery.queue.chunks t i e
        ∙ (at_last i a at ∙ ap (λ x. if x then committed_at s i else slice_index s.delivery.table.last i) e)))
    fits i a b at is false e =
        subst (FitsAdaptor s.source s.saved (slice_index (next_begins (without_adaptors gone s.delivery)) i) (committed_at s i))
        (sym (is ∙ ap (λ x. if x then sent_back (committed_at s i) a else a) e))
        (subst (λ k. FitsAdaptor s.source s.saved k (committed_at s i) a)
        (sym (other_ends gone s.delivery.owners s.delivery.queue.chunks t s.delivery.table.last i sound.delivery.as_many e
        (last_size gone s.delivery.table.committed 0 s.delivery.table.last)
        (at_last i a at ∙ ap (λ x. if x then committed_at s i else slice_index s.delivery.table.last i) e)))
        (sound.each i a at))

-- ---- marks from an offset on

pub place_forgotten : (marks : List Spot) (o : ℕ) → place_of (forgotten o marks) o ≡ place_of marks o
place_forgotten [] o = refl
place_forgotten (m ∷ []) o = refl
place_forgotten (m ∷ n ∷ marks) o = go (nat_le n.first o) refl (place_forgotten (n ∷ marks) o)
  where
    go : (b : Bool) → nat_le n.first o ≡ b → place_of (forgotten o (n ∷ marks)) o ≡ place_of (n ∷ marks) o
        → place_of (if b then forgotten o (n ∷ marks) else m ∷ n ∷ marks) o ≡ place_of (m ∷ n ∷ marks) o
    go true e rest = rest ∙ sym (ap (λ b. record (if b then mark_at marks n o else m) { offset = o }) e)
    go false e rest = refl

suffixes_forgotten : (marks : List Spot) (o : ℕ) → SuffixesRise marks → SuffixesRise (forgotten o marks)
suffixes_forgotten [] o up = up
suffixes_forgotten (m ∷ []) o up = up
suffixes_forgotten (m ∷ n ∷ marks) o up = go (nat_le n.first o) (suffixes_forgotten (n ∷ marks) o up.1)
  where
    go : (b : Bool) → SuffixesRise (forgotten o (n ∷ marks)) → SuffixesRise (if b then forgotten o (n ∷ marks) else m ∷ n ∷ marks)
    go true rest = rest
    go false rest = up

pub in_forgotten : (marks : List Spot) (o : ℕ) (m : Spot) → Contains (forgotten o marks) m → Contains marks m
in_forgotten [] o m one = one
in_forgotten (k ∷ []) o m one = one
in_forgotten (k ∷ n ∷ marks) o m one = go (nat_le n.first o) one (in_forgotten (n ∷ marks) o m)
  where
    go : (b : Bool) → Contains (if b then forgotten o (n ∷ marks) else k ∷ n ∷ marks) m
        → (Contains (forgotten o (n ∷ marks)) m → Contains (n ∷ marks) m) → Contains (k ∷ n ∷ marks) m
    go true one rest = let r = rest one in let b = r.1 in (suc r.0, omega (arith, b), r.2)
    go false one rest = one

begins_forgotten : (marks : List Spot) (o : ℕ) → BeginsBelow o marks → BeginsBelow o (forgotten o marks)
begins_forgotten [] o from = from
begins_forgotten (m ∷ []) o from = from
begins_forgotten (m ∷ n ∷ marks) o from = go (nat_le n.first o) refl (begins_forgotten (n ∷ marks) o)
  where
    go : (b : Bool) → nat_le n.first o ≡ b → (n.first ≤ o → BeginsBelow o (forgotten o (n ∷ marks)))
        → BeginsBelow o (if b then forgotten o (n ∷ marks) else m ∷ n ∷ marks)
    go true e rest = rest (leb-true n.first o e)
    go false e rest = from

fits_settled : (source : List ℕ) (a : Adaptor) (begin o : ℕ) {lines : _} → FitsAdaptor source lines begin o a
    → FitsAdaptor source lines begin o (settled_one o a)
fits_settled source a begin o f = record {
  saved = f.saved;
  there = f.there;
  is_saved = f.is_saved;
  class = f.class;
  start = f.start;
  place = record {
    marked = record {
      placed = record {
        rises = rise_forgotten a.marks a.read.offset o f.place.marked.placed.rises;
        newest = newest_forgotten a.marks o a.read.offset ∙ f.place.marked.placed.newest;
      };
      suffixes = suffixes_forgotten a.marks o f.place.marked.suffixes;
      spelled = λ m one. f.place.marked.spelled m (in_forgotten a.marks o m one);
    };
    queued = f.place.queued;
    from = begins_forgotten a.marks o f.place.from;
    to = f.place.to;
  };
  on = f.on;
  later = subst (λ (p : Spot). MovesToLater f.saved.after p.after) (sym (place_forgotten a.marks o)) f.later;
}

-- what becomes of one
pub settled_at : (xs : List Adaptor) (ends : List ℕ) (i : ℕ) (b : Adaptor) → length xs ≤ length ends
    → slice_get (settled_all xs ends) i ≡ Some b → (a : Adaptor) × (slice_get xs i ≡ Some a) × (b ≡ settled_one (slice_index ends i) a)
settled_at [] ends i b few e = absurd (none-some b e)
settled_at (a ∷ xs) [] i b few e = absurd (let z : ⊥ = omega (arith, few) in z)
settled_at (a ∷ xs) (o ∷ ends) zero b few e = (a, refl, sym (same_Some _ b e))
settled_at (a ∷ xs) (o ∷ ends) (suc i) b few e = settled_at xs ends i b (omega (arith, few)) e

past_at : (o : ℕ) (p : Phase) → is_past p ≡ true → is_past (phase_at o p) ≡ true
past_at o Live e = e
past_at o (Stopping None) e = e
past_at o (Stopping (Some end)) e = absurd (true≢false (sym e))
past_at o Shrank e = e
past_at o Past e = e

pub all_settle : (xs : List Adaptor) (ends : List ℕ) → AllGoOn xs (settled_all xs ends)
all_settle [] ends = tt
all_settle (a ∷ xs) [] = (record { name = refl; kind = refl; path = refl; past = λ e. e }, all_settle xs [])
all_settle (a ∷ xs) (o ∷ ends) = (record { name = refl; kind = refl; path = refl; past = past_at o a.phase }, all_settle xs ends)

-- those that came to their ends are past
pub sound_settled : (s : State) → IsSound s → IsSound (settled s)
sound_settled s sound = sound_changed s sound (settled_all s.adaptors s.delivery.table.committed) s.last s.delivery (record {
  on = all_settle s.adaptors s.delivery.table.committed;
  delivery = sound.delivery;
  rules = refl;
  known = refl;
  each = λ i b at.
      let few = sound.few in
      let known = sound.known in
      let r = settled_at s.adaptors s.delivery.table.committed i b (omega (arith, few, known)) at in
      subst (FitsAdaptor s.source s.saved (slice_index (next_begins s.delivery) i) (committed_at s i)) (sym r.2)
      (fits_settled s.source r.0 (slice_index (next_begins s.delivery) i) (committed_at s i) (sound.each i r.0 r.1));
  owned = sound.owned;
})
