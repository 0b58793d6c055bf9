-- What a control line makes of the state is sound, and the history holds it.
use Rattle.std.proofs.Common.{◌≡◌, ℕ, zero, suc, ◌+◌, Bool, true, false, List, [], ◌∷◌, length}
use Rattle.std.proofs.Common.{Some, ap, sym, subst, ◌∙◌, refl, arith, if◌then◌else◌}
use Rattle.std.specs.Prelude.{slice_get, slice_set, slice_index}
use Rattle.std.proofs.lemmas.Option.{same_Some, none-some}
use Rattle.chk_site.specs.History.{History}
use Rattle.chk_chunk.specs.Keys.{Stream}
use Rattle.chk_tail.specs.Walks.{Spot}
use Rattle.chk_world.specs.Checkpoints.{Line}
use Rattle.chk_agent_adaptor.specs.declared.adaptor.Phase.{Phase}
use Rattle.chk_agent_adaptor.specs.declared.adaptor.Phase.TheVariants.{Live, Stopping, Shrank, Past}
use Rattle.chk_agent_adaptor.specs.Adaptors.{Adaptor, is_past, read_line, sent_back, stopped, shut_down}
use Rattle.chk_agent_adaptor.specs.Adaptors.{phase_to_end}
use Rattle.chk_agent_adaptor.specs.Facts.{place_line, MarksStand, ReaderStands}
use Rattle.chk_agent_delivery.specs.Sound.{IsSound as IsSoundDelivery}
use Rattle.chk_agent_delivery.specs.Turns.{without_adaptors, is_one_of}
use Rattle.chk_agent_delivery.specs.Facts.{Holds as HoldsDelivery}
use Rattle.chk_agent.specs.States.{State}
use Rattle.chk_agent.specs.Facts.{Holds}
use Rattle.chk_agent.specs.Fits.{FitsAdaptor, IsSound}
use Rattle.chk_agent.specs.Settles.{all_back, reset}
use Rattle.chk_agent.specs.Commands.{all_past, stopped_state, first_again}
use Rattle.chk_agent.proofs.Soundness.{in_at, GoesOnAs, AllGoOn, go_on_at, streams_on}
use Rattle.chk_agent.proofs.Soundness.{sound_changed}
use Rattle.chk_agent.proofs.SettlingSound.{sound_reset}
use Rattle.chk_agent.proofs.SettlingHolds.{at_in, holds_reset}
use Rattle.chk_agent_adaptor.proofs.Told.{stands_like}

-- ---- the phase is no matter of where an adaptor stands

fits_phase : (source : List ℕ) (lines : List Line) (begin committed : ℕ) (a : Adaptor) (p : Phase)
    → FitsAdaptor source lines begin committed a
    → FitsAdaptor source lines begin committed (record a { phase = p })
fits_phase source lines begin committed a p f =
    let m = f.place.marked in
    record {
      saved = f.saved;
      there = f.there;
      is_saved = f.is_saved;
      class = f.class;
      start = f.start;
      place = record {
        marked = record {
          placed = record { rises = m.placed.rises; newest = m.placed.newest };
          suffixes = m.suffixes;
          spelled = m.spelled;
        };
        queued = f.place.queued;
        from = f.place.from;
        to = f.place.to;
      };
      on = f.on;
      later = f.later;
    }

marks_phase : (history : History) (s : Stream) (a : Adaptor) (p : Phase) (marks : List Spot)
    → MarksStand history s a marks
    → MarksStand history s (record a { phase = p }) marks
marks_phase history s a p [] h = tt
marks_phase history s a p (m ∷ []) h =
    let at = record m { offset = a.read.offset } in
    stands_like history s (place_line a at) (place_line
    (record a { phase = p }) at) refl refl refl h
marks_phase history s a p (m ∷ n ∷ marks) h =
    let at = record m { offset = n.first } in (
      stands_like history s (place_line a at) (place_line
          (record a { phase = p }) at) refl refl refl h.0,
      marks_phase history s a p (n ∷ marks) h.1,
    )

reader_phase : (history : History) (source : List ℕ) (a : Adaptor) (p : Phase)
    → ReaderStands source a history
    → ReaderStands source (record a { phase = p }) history
reader_phase history source a p h = record {
  read = stands_like history _ (read_line a) (read_line
      (record a { phase = p })) refl refl refl h.read;
  marks = marks_phase history _ a p a.marks h.marks;
}

-- the one of a number, in another phase
pub record InPhase (xs : List Adaptor) (j : ℕ) (b : Adaptor) : Type 0 where
  pub adaptor : Adaptor
  pub at : slice_get xs j ≡ Some adaptor
  pub phase : Phase
  pub is : b ≡ record adaptor { phase = phase }

-- the same adaptors, in other phases
pub record Rephased (xs bs : List Adaptor) : Type 0 where
  pub on : AllGoOn xs bs
  pub each : (j : ℕ) (b : Adaptor) → slice_get bs j ≡ Some b → InPhase xs j b

pub phases_sound : (s : State) → IsSound s → (bs : List Adaptor) → Rephased s.adaptors bs
    → IsSound (record s { adaptors = bs })
phases_sound s sound bs r = sound_changed s sound bs s.last s.delivery (record {
  on = r.on;
  delivery = sound.delivery;
  rules = refl;
  known = refl;
  each = λ j b at.
      let k = r.each j b at in
      subst (FitsAdaptor s.source s.saved _ _) (sym k.is)
      (fits_phase s.source s.saved _ _ k.adaptor k.phase (sound.each j k.adaptor k.at));
  owned = sound.owned;
})

pub phases_hold : (history : History) (s : State) → Holds s history → (bs : List Adaptor)
    → Rephased s.adaptors bs
    → Holds (record s { adaptors = bs }) history
phases_hold history s h bs r = record {
  readers = λ b one.
      let i = at_in bs b one in
      let k = r.each i.0 b i.1 in
      subst (λ b. ReaderStands s.source b history) (sym k.is)
      (reader_phase history s.source k.adaptor k.phase (h.readers k.adaptor
      (in_at s.adaptors i.0 k.adaptor k.at)));
  delivery =
      subst (λ b. HoldsDelivery b s.delivery history)
      (λ i. record {
        source = s.source;
        cluster = s.cluster;
        streams = streams_on s.source
            s.adaptors bs r.on i;
        lines = s.saved;
      })
      h.delivery;
}

-- ---- one is to end

ending_on : (p : Phase) → is_past p ≡ true → is_past (phase_to_end p) ≡ true
ending_on Live e = e
ending_on (Stopping end) e = e
ending_on Shrank e = e
ending_on Past e = e

set_phase : (xs : List Adaptor) (i : ℕ) (a : Adaptor) (p : Phase) → slice_get xs i ≡ Some a
    → (j : ℕ) (b : Adaptor)
    → slice_get (slice_set xs i (record a { phase = p })) j ≡ Some b → InPhase xs j b
set_phase [] i a p at j b e = absurd (none-some a at)
set_phase (x ∷ xs) zero a p at zero b e = record {
  adaptor = a;
  at = at;
  phase = p;
  is = sym
      (same_Some (record a { phase = p }) b e);
}
set_phase (x ∷ xs) zero a p at
    (suc j) b e = record { adaptor = b; at = e; phase = b.phase; is = refl }
set_phase (x ∷ xs) (suc i) a p at zero b e = record {
  adaptor = b;
  at = e;
  phase = b.phase;
  is =
      refl;
}
set_phase (x ∷ xs) (suc i) a p at (suc j) b e =
    let r = set_phase xs i a p at j b e in record {
      adaptor = r.adaptor;
      at = r.at;
      phase =
          r.phase;
      is = r.is;
    }

pub ending_rephased : (xs : List Adaptor) (i : ℕ) (a : Adaptor) → slice_get xs i ≡ Some a
    → Rephased xs (slice_set xs i (shut_down a))
ending_rephased xs i a at = record {
  on = go_on_at xs i a (shut_down a) at
      (record { name = refl; kind = refl; path = refl; past = ending_on a.phase });
  each = λ j b e. set_phase xs i a (phase_to_end a.phase) at j b e;
}

-- ---- some are past

past_head : (g : Bool) (o : ℕ) (x : Adaptor)
    → (if g then stopped o x else x) ≡ record (if g then sent_back o x else x) {
      phase =
          (if g then Past else x.phase);
    }
past_head true o x = refl
past_head false o x = refl

past_each : (gone committed : List ℕ) (i : ℕ) (xs : List Adaptor) (j : ℕ) (b : Adaptor)
    → slice_get (all_past gone committed i xs) j ≡ Some b
    → InPhase (all_back gone committed i xs) j b
past_each gone committed i [] j b e = absurd (none-some b e)
past_each gone committed i (x ∷ xs) zero b e = record {
  adaptor = (if is_one_of gone i then sent_back (slice_index committed i) x else x);
  at = refl;
  phase = (if is_one_of gone i then Past else x.phase);
  is = sym (same_Some _ b e) ∙ past_head (is_one_of gone i) (slice_index committed i) x;
}
past_each gone committed i (x ∷ xs) (suc j) b e =
    let r = past_each gone committed (i + 1) xs j b e in
    record {
      adaptor = r.adaptor;
      at = ap (λ k. slice_get (all_back gone committed k xs) j)
          (let z : suc i ≡ i + 1 = omega arith in z) ∙ r.at;
      phase = r.phase;
      is = r.is;
    }

past_on : (gone committed : List ℕ) (i : ℕ) (xs : List Adaptor)
    → AllGoOn (all_back gone committed i xs) (all_past gone committed i xs)
past_on gone committed i [] = tt
past_on gone committed i (x ∷ xs) = (
  head (is_one_of gone i) (slice_index committed i),
  subst (λ k. AllGoOn (all_back gone committed k xs) (all_past gone committed (i + 1) xs))
      (let z : i + 1 ≡ suc i = omega arith in z)
      (past_on gone committed (i + 1) xs),
)
  where
    head : (g : Bool) (o : ℕ) → GoesOnAs (if g then sent_back o x else x)
        (if g then stopped o x else x)
    head true o = record { name = refl; kind = refl; path = refl; past = λ e. refl }
    head false o = record { name = refl; kind = refl; path = refl; past = λ e. e }

past_rephased : (gone committed : List ℕ) (xs : List Adaptor)
    → Rephased (all_back gone committed 0 xs) (all_past gone committed 0 xs)
past_rephased gone committed xs = record {
  on = past_on gone committed 0 xs;
  each = λ j b e.
      past_each gone committed 0 xs j b e;
}

pub stopped_sound : (s : State) → IsSound s → (gone : List ℕ)
    → length s.delivery.table.last ≡ length s.delivery.table.committed
    → IsSoundDelivery (without_adaptors gone s.delivery) → IsSound (stopped_state gone s)
stopped_sound s sound gone ends left =
    phases_sound (reset gone s) (sound_reset s sound gone ends left)
    (all_past gone s.delivery.table.committed 0 s.adaptors)
    (past_rephased gone s.delivery.table.committed s.adaptors)

pub stopped_holds : (history : History) (s : State) → IsSound s → Holds s history
    → (gone : List ℕ) → Holds (stopped_state gone s) history
stopped_holds history s sound h gone =
    phases_hold history (reset gone s) (holds_reset history s sound h gone)
    (all_past gone s.delivery.table.committed 0 s.adaptors)
    (past_rephased gone s.delivery.table.committed s.adaptors)

-- ---- the first address is in use

pub first_holds : (history : History) (s : State) → Holds s history → Holds (first_again s) history
first_holds history s h =
    let d = h.delivery in
    record {
      readers = h.readers;
      delivery = record {
        queue = d.queue;
        rows = d.rows;
        ends = d.ends;
        post = d.post;
        poll =
            d.poll;
      };
    }
