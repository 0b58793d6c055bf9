-- What the history holds of a state stays over a settle.
use Rattle.std.proofs.Common.{◌≡◌, inl, inr, ℕ, zero, suc, ◌≤◌, Bool, true, false, not, List, []}
use Rattle.std.proofs.Common.{◌∷◌, length, map, Some, None, ap, sym, subst, ◌∙◌, refl, arith}
use Rattle.std.proofs.Common.{true≢false, nat_le, if◌then◌else◌}
use Rattle.std.specs.Prelude.{IsTrue, Contains, slice_get, find}
use Rattle.std.specs.List.{list_any}
use Rattle.std.proofs.lemmas.Bool.{le-leb, leb-true, cases_lt}
use Rattle.std.proofs.lemmas.Option.{same_Some}
use Rattle.chk_site.specs.History.{History}
use Rattle.chk_chunk.specs.Keys.{Stream}
use Rattle.chk_tail.specs.Walks.{Spot}
use Rattle.chk_rotate.specs.Marks.{mark_at, place_of, forgotten, kept_to, BeginsBelow, RiseTo}
use Rattle.chk_rotate.proofs.MarkLemmas.{kept_one, kept_none}
use Rattle.chk_world.specs.Checkpoints.{Line, is_line_of}
use Rattle.chk_world.specs.Streams.{is_stream_cut}
use Rattle.chk_world.specs.Standing.{Stands}
use Rattle.chk_agent_adaptor.specs.Adaptors.{Adaptor, stream_at, line_at, read_line, sent_back}
use Rattle.chk_agent_adaptor.specs.Adaptors.{settled_one}
use Rattle.chk_agent_adaptor.specs.Facts.{place_line, MarksStand, ReaderStands}
use Rattle.chk_agent_delivery.specs.States.{State as Delivery}
use Rattle.chk_agent_delivery.specs.Basis.{Basis}
use Rattle.chk_agent_delivery.specs.Facts.{Holds as HoldsDelivery, PostStands}
use Rattle.chk_agent_delivery.specs.Turns.{is_one_of, without_adaptors, without_chunks}
use Rattle.chk_agent_delivery.proofs.Members.{in_filter}
use Rattle.chk_agent.specs.States.{State, committed_at, basis_of, lines_of}
use Rattle.chk_agent.specs.Settles.{all_back, reset, settled_all, settled, saved_now}
use Rattle.chk_agent.specs.Facts.{Holds}
use Rattle.chk_agent.specs.Fits.{IsSound}
use Rattle.chk_agent.proofs.Soundness.{in_at, at_map, map_at, line_there, streams_on}
use Rattle.chk_agent.proofs.SettlingBack.{back_at, streams_back}
use Rattle.chk_agent.proofs.SettlingNext.{chunk_left, all_left}
use Rattle.chk_agent.proofs.SettlingSound.{place_offset, settled_at, all_settle}
use Rattle.chk_agent_adaptor.proofs.Told.{stands_like}

-- the place of one in a list
pub at_in : {X : Type 0} (xs : List X) (x : X) → Contains xs x → (i : ℕ) × (slice_get xs i ≡ Some x)
at_in [] x (k, below, at) = absurd (let z : ⊥ = omega (arith, below) in z)
at_in (y ∷ xs) x (zero, below, at) = (0, ap (λ k. Some k) at)
at_in (y ∷ xs) x (suc k, below, at) = let r = at_in xs x (k, omega (arith, below), at) in (suc r.0, r.1)

-- ---- places

module _ (history : History) (s : Stream) (a : Adaptor) where
  -- a place between the beginning of a generation and one that stands in it, at a cut place
  between : (m : Spot) (x o : ℕ) → Stands history s (place_line a (record m { offset = x })) → m.first ≤ o → o ≤ x
      → IsTrue (is_stream_cut history s o) → Stands history s (place_line a (record m { offset = o }))
  between m x o h low high cut =
      let within = h.place.within in
      record {
        first = h.first;
        founded = h.founded;
        place = record { first = h.place.first; on = low; within = omega (arith, within, high) };
        cut = inr cut;
        suffix = h.suffix;
      }

  mark_stands : (marks : List Spot) (m : Spot) (o : ℕ) → MarksStand history s a (m ∷ marks) → m.first ≤ o → o ≤ a.read.offset
      → IsTrue (is_stream_cut history s o) → Stands history s (place_line a (record (mark_at marks m o) { offset = o }))
  mark_stands [] m o h low high cut = between m a.read.offset o h low high cut
  mark_stands (n ∷ marks) m o h low high cut = go (nat_le n.first o) refl (mark_stands marks n o h.1)
    where
      go : (b : Bool) → nat_le n.first o ≡ b
          → (n.first ≤ o → o ≤ a.read.offset → IsTrue (is_stream_cut history s o) → Stands history s (place_line a (record (mark_at marks n o) { offset = o })))
          → Stands history s (place_line a (record (if b then mark_at marks n o else m) { offset = o }))
      go true e rest = rest (leb-true n.first o e) high cut
      go false e rest = between m n.first o h.0 low (below e) cut
        where
          below : nat_le n.first o ≡ false → o ≤ n.first
          below e = elim (cases_lt o n.first) [
            | inl less ↦ omega (arith, less)
            | inr more ↦ absurd (true≢false (sym (le-leb n.first o (omega (arith, more))) ∙ e))
          ]

  -- the place of a committed end stands
  pub place_stands : (marks : List Spot) (o : ℕ) → MarksStand history s a marks → BeginsBelow o marks → o ≤ a.read.offset
      → IsTrue (is_stream_cut history s o) → Stands history s (place_line a (place_of marks o))
  place_stands [] o h from high cut = absurd from
  place_stands (m ∷ marks) o h from high cut = mark_stands marks m o h from high cut

  -- so does the line at it
  pub end_stands : (o : ℕ) → MarksStand history s a a.marks → BeginsBelow o a.marks → o ≤ a.read.offset
      → IsTrue (is_stream_cut history s o) → Stands history s (line_at o a)
  end_stands o h from high cut =
      stands_like history s (place_line a (place_of a.marks o)) (line_at o a) (sym (place_offset a.marks o)) refl refl
      (place_stands a.marks o h from high cut)

  -- the marks of one that goes back
  marks_back : (o : ℕ) (b : Adaptor) → b.read.offset ≡ o → (x : ℕ) (marks : List Spot) → RiseTo marks x → MarksStand history s a marks
      → BeginsBelow o marks → o ≤ a.read.offset → IsTrue (is_stream_cut history s o) → MarksStand history s b (kept_to o marks)
  marks_back o b read x [] rise h from high cut = absurd from
  marks_back o b read x (m ∷ []) rise h from high cut =
      subst (MarksStand history s b) (sym (kept_one m [] o from))
      (stands_like history s _ (place_line b (record m { offset = b.read.offset })) read refl refl (between m a.read.offset o h from high cut))
  marks_back o b read x (m ∷ n ∷ marks) rise h from high cut = elim (cases_lt o n.first) [
    | inl above ↦
        subst (MarksStand history s b) (sym (kept_one m (n ∷ marks) o from ∙ ap (λ ms. m ∷ ms) (kept_none n marks x o rise.1 above)))
        (stands_like history s _ (place_line b (record m { offset = b.read.offset })) read refl refl
        (between m n.first o h.0 from (omega (arith, above)) cut))
    | inr below ↦
        let on : n.first ≤ o = omega (arith, below) in
        let e = kept_one n marks o on in
        let rest : MarksStand history s b (n ∷ kept_to o marks) =
        subst (MarksStand history s b) e (marks_back o b read x (n ∷ marks) rise.1 h.1 on high cut) in
        subst (MarksStand history s b) (sym (kept_one m (n ∷ marks) o from ∙ ap (λ ms. m ∷ ms) e))
        (stands_like history s _ (place_line b (record n { first = m.first; after = m.after; offset = n.first })) refl refl refl h.0, rest)
  ]

  -- the marks of another one at the same place
  pub marks_like : (b : Adaptor) → b.read ≡ a.read → (marks : List Spot) → MarksStand history s a marks → MarksStand history s b marks
  marks_like b read [] h = tt
  marks_like b read (m ∷ []) h =
      stands_like history s _ (place_line b (record m { offset = b.read.offset })) (ap (λ (p : Spot). p.offset) read) refl refl h
  marks_like b read (m ∷ n ∷ marks) h =
      (stands_like history s _ (place_line b (record m { offset = n.first })) refl refl refl h.0, marks_like b read (n ∷ marks) h.1)

  -- the marks that aren't forgotten
  marks_settled : (o : ℕ) (b : Adaptor) → b.read ≡ a.read → (marks : List Spot) → MarksStand history s a marks
      → MarksStand history s b (forgotten o marks)
  marks_settled o b read [] h = tt
  marks_settled o b read (m ∷ []) h =
      stands_like history s _ (place_line b (record m { offset = b.read.offset })) (ap (λ (p : Spot). p.offset) read) refl refl h
  marks_settled o b read (m ∷ n ∷ marks) h = go (nat_le n.first o) (marks_settled o b read (n ∷ marks) h.1)
    where
      go : (x : Bool) → MarksStand history s b (forgotten o (n ∷ marks))
          → MarksStand history s b (if x then forgotten o (n ∷ marks) else m ∷ n ∷ marks)
      go true rest = rest
      go false rest = marks_like b read (m ∷ n ∷ marks) h

-- ---- the readers

reader_back : (history : History) (source : List ℕ) (a : Adaptor) (o : ℕ) → ReaderStands source a history → RiseTo a.marks a.read.offset
    → BeginsBelow o a.marks → o ≤ a.read.offset → IsTrue (is_stream_cut history (stream_at source a) o) → ReaderStands source (sent_back o a) history
reader_back history source a o h rise from high cut = record {
  read =
      stands_like history (stream_at source a) (place_line a (place_of a.marks o)) (read_line (sent_back o a)) refl refl refl
      (place_stands history (stream_at source a) a a.marks o h.marks from high cut);
  marks = marks_back history (stream_at source a) a o (sent_back o a) (place_offset a.marks o) a.read.offset a.marks rise h.marks from high cut;
}

reader_settled : (history : History) (source : List ℕ) (a : Adaptor) (o : ℕ) → ReaderStands source a history
    → ReaderStands source (settled_one o a) history
reader_settled history source a o h = record {
  read = stands_like history (stream_at source a) (read_line a) (read_line (settled_one o a)) refl refl refl h.read;
  marks = marks_settled history (stream_at source a) a o (settled_one o a) refl a.marks h.marks;
}

-- ---- what is to be delivered

delivery_left : (history : History) (b : Basis) (gone : List ℕ) (d : Delivery) → length d.owners ≡ length d.queue.chunks
    → HoldsDelivery b d history → HoldsDelivery b (without_adaptors gone d) history
delivery_left history b gone d many h = record {
  queue = λ c one. h.queue c (chunk_left gone d.owners d.queue.chunks c one);
  rows = λ r one. h.rows r (in_filter (λ r. not (is_one_of gone r.adaptor)) d.table.rows r one).0;
  ends = h.ends;
  post = post (list_any (is_one_of gone) d.owners) refl;
  poll = h.poll;
}
  where
    post : (x : Bool) → list_any (is_one_of gone) d.owners ≡ x
        → PostStands b.source (without_chunks gone d.owners d.queue.chunks) (if x then None else d.post) history
    post true e = tt
    post false e =
        subst (λ cs. PostStands b.source cs d.post history) (sym (all_left gone d.owners d.queue.chunks many e)) h.post

-- the same adaptors' streams, and the same lines
pub basis_like : (s : State) (xs : List Adaptor) → map (stream_at s.source) xs ≡ map (stream_at s.source) s.adaptors
    → basis_of s ≡ basis_of (record s { adaptors = xs })
basis_like s xs same = λ i. record { source = s.source; cluster = s.cluster; streams = sym same i; lines = s.saved }

-- ---- the state

module _ (history : History) (s : State) (sound : IsSound s) (h : Holds s history) where
  -- a reader may stop at each committed end
  pub end_cut : (i : ℕ) (a : Adaptor) → slice_get s.adaptors i ≡ Some a
      → IsTrue (is_stream_cut history (stream_at s.source a) (committed_at s i))
  end_cut i a at =
      let f = sound.each i a at in
      (h.delivery.ends i (stream_at s.source a) f.saved (at_map (stream_at s.source) s.adaptors i a at) f.there).cut

  pub holds_reset : (gone : List ℕ) → Holds (reset gone s) history
  holds_reset gone = record {
    readers = λ b one.
        let k = at_in (all_back gone s.delivery.table.committed 0 s.adaptors) b one in
        let r = back_at gone s.delivery.table.committed s.adaptors 0 k.0 k.0 b (omega arith) k.1 in
        subst (λ b. ReaderStands s.source b history) (sym r.2) (reader k.0 r.0 r.1 (is_one_of gone k.0));
    delivery =
        subst (λ b. HoldsDelivery b (without_adaptors gone s.delivery) history)
        (basis_like s (all_back gone s.delivery.table.committed 0 s.adaptors) (streams_back s.source gone s.delivery.table.committed 0 s.adaptors))
        (delivery_left history (basis_of s) gone s.delivery sound.delivery.as_many h.delivery);
  }
    where
      reader : (i : ℕ) (a : Adaptor) → slice_get s.adaptors i ≡ Some a → (x : Bool)
          → ReaderStands s.source (if x then sent_back (committed_at s i) a else a) history
      reader i a at true =
          let f = sound.each i a at in
          reader_back history s.source a (committed_at s i)
          (h.readers a (in_at s.adaptors i a at)) f.place.marked.placed.rises f.place.from
          f.place.to (end_cut i a at)
      reader i a at false = h.readers a (in_at s.adaptors i a at)

  pub holds_settled : Holds (settled s) history
  holds_settled = record {
    readers = λ b one.
        let k = at_in (settled_all s.adaptors s.delivery.table.committed) b one in
        let few = sound.few in
        let known = sound.known in
        let r = settled_at s.adaptors s.delivery.table.committed k.0 b (omega (arith, few, known)) k.1 in
        subst (λ b. ReaderStands s.source b history) (sym r.2)
        (reader_settled history s.source r.0 (committed_at s k.0) (h.readers r.0 (in_at s.adaptors k.0 r.0 r.1)));
    delivery =
        subst (λ b. HoldsDelivery b s.delivery history)
        (basis_like s (settled_all s.adaptors s.delivery.table.committed)
        (sym (streams_on s.source s.adaptors (settled_all s.adaptors s.delivery.table.committed) (all_settle s.adaptors s.delivery.table.committed))))
        h.delivery;
  }

  -- the saved lines are now those of the state
  pub holds_saved : Holds (saved_now s) history
  holds_saved = record {
    readers = h.readers;
    delivery = record {
      queue = h.delivery.queue;
      rows = h.delivery.rows;
      ends = λ i t saved at there.
          let k = map_at (stream_at s.source) s.adaptors i t at in
          let f = sound.each i k.0 k.1 in
          let found : find (is_line_of t) (lines_of s) ≡ Some (line_at (committed_at s i) k.0) =
          subst (λ t. find (is_line_of t) (lines_of s) ≡ Some (line_at (committed_at s i) k.0)) k.2
          (line_there s.source s.adaptors s.delivery.table.committed sound.apart i k.0 k.1) in
          let same : saved ≡ line_at (committed_at s i) k.0 = same_Some saved (line_at (committed_at s i) k.0) (sym there ∙ found) in
          let e = h.delivery.ends i t f.saved at (subst (λ t. find (is_line_of t) s.saved ≡ Some f.saved) k.2 f.there) in
          record {
            acknowledged = λ o low high.
                let offset : saved.offset ≡ committed_at s i = ap (λ (l : Line). l.offset) same in
                absurd (let z : ⊥ = omega (arith, offset, low, high) in z);
            first = e.first;
            founded = e.founded;
            cut = e.cut;
          };
      post = h.delivery.post;
      poll = h.delivery.poll;
    };
  }
