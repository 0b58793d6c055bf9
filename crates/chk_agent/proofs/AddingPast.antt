-- A past adaptor that lives again: the state is sound, and the history holds it.
use Rattle.std.proofs.Common.{◌≡◌, ℕ, zero, suc, true, List, [], ◌∷◌, length, map, Some, None, ap}
use Rattle.std.proofs.Common.{sym, subst, ◌∙◌, refl, arith}
use Rattle.std.specs.Prelude.{IsTrue, Any, slice_get, slice_set, slice_index}
use Rattle.std.proofs.lemmas.Bool.{and_parts, and_from}
use Rattle.std.proofs.lemmas.Option.{same_Some, none-some}
use Rattle.chk_site.specs.History.{History}
use Rattle.chk_control.specs.Lines.{is_name}
use Rattle.chk_world.specs.Checkpoints.{Line, same_log}
use Rattle.chk_agent_adaptor.specs.Adaptors.{Adaptor, line_at, read_line, revived, stream_at}
use Rattle.chk_agent_adaptor.specs.Facts.{ReaderStands}
use Rattle.chk_agent_delivery.specs.Facts.{Holds as HoldsDelivery}
use Rattle.chk_agent_delivery.specs.Sound.{next_begins}
use Rattle.chk_agent.specs.States.{State, committed_at, basis_of}
use Rattle.chk_agent.specs.Facts.{Holds, Matches}
use Rattle.chk_agent.specs.Fits.{FitsAdaptor, IsSound}
use Rattle.chk_agent.specs.Adds.{named_in, revived_at}
use Rattle.chk_agent.proofs.Soundness.{in_at, owned_on}
use Rattle.chk_agent.proofs.SettlingHolds.{at_in, marks_like}
use Rattle.chk_agent_adaptor.proofs.Told.{stands_like}
use Rattle.chk_agent.proofs.AddingNames.{apart_revived}

-- what stands in a list of which one was replaced
pub data AtSet {X : Type 0} (xs : List X) (n : ℕ) (y : X) (i : ℕ) (x : X) : Type 0 where
  other : slice_get xs i ≡ Some x → AtSet xs n y i x
  here : i ≡ n → y ≡ x → AtSet xs n y i x

pub at_set : {X : Type 0} (xs : List X) (n : ℕ) (y : X) (i : ℕ) (x : X) → slice_get (slice_set xs n y) i ≡ Some x
    → AtSet xs n y i x
at_set [] n y i x at = absurd (none-some x at)
at_set (z ∷ xs) zero y zero x at = here refl (same_Some y x at)
at_set (z ∷ xs) zero y (suc i) x at = other at
at_set (z ∷ xs) (suc n) y zero x at = other at
at_set (z ∷ xs) (suc n) y (suc i) x at = elim (at_set xs n y i x at) [ other e ↦ other e | here e f ↦ here (ap suc e) f ]

pub set_size : {X : Type 0} (xs : List X) (n : ℕ) (y : X) → length (slice_set xs n y) ≡ length xs
set_size [] n y = refl
set_size (z ∷ xs) zero y = refl
set_size (z ∷ xs) (suc n) y = ap suc (set_size xs n y)

streams_set : (source name : List ℕ) (xs : List Adaptor) (n : ℕ) (a : Adaptor) → slice_get xs n ≡ Some a
    → map (stream_at source) (slice_set xs n (revived name a)) ≡ map (stream_at source) xs
streams_set source name [] n a at = refl
streams_set source name (x ∷ xs) zero a at = ap (λ y. stream_at source y ∷ map (stream_at source) xs) (sym (same_Some x a at))
streams_set source name (x ∷ xs) (suc n) a at = ap (λ ys. stream_at source x ∷ ys) (streams_set source name xs n a at)

log_set : (l : Line) (name : List ℕ) (xs : List Adaptor) (n : ℕ) (a : Adaptor) → slice_get xs n ≡ Some a
    → Any (λ a. IsTrue (same_log l (line_at 0 a))) xs → Any (λ a. IsTrue (same_log l (line_at 0 a))) (slice_set xs n (revived name a))
log_set l name [] n a at any = any
log_set l name (x ∷ xs) zero a at (zero, b, below, is, same) = (
  0,
  revived name a,
  omega arith,
  refl,
  subst (λ (b : Adaptor). same_log l (line_at 0 b) ≡ true) (sym is ∙ same_Some x a at) same,
)
log_set l name (x ∷ xs) zero a at (suc k, b, below, is, same) = (suc k, b, below, is, same)
log_set l name (x ∷ xs) (suc n) a at (zero, b, below, is, same) = (0, b, omega arith, is, same)
log_set l name (x ∷ xs) (suc n) a at (suc k, b, below, is, same) =
    let r = log_set l name xs n a at (k, b, omega (arith, below), is, same) in
    let c = r.2 in (suc r.0, r.1, omega (arith, c), r.3, r.4)

module _ (s : State) (sound : IsSound s) (n : ℕ) (a : Adaptor) (at : slice_get s.adaptors n ≡ Some a) (name : List ℕ) where
  abbrev T : State
  T = revived_at s n name a

  fits : is_name name ≡ true → FitsAdaptor s.source s.saved (slice_index (next_begins s.delivery) n) (committed_at s n) (revived name a)
  fits good =
      let f = sound.each n a at in
      record {
        saved = f.saved;
        there = f.there;
        is_saved = f.is_saved;
        class = f.class;
        start = f.start;
        place = record {
          marked = record {
            placed = record { rises = f.place.marked.placed.rises; newest = f.place.marked.placed.newest };
            suffixes = f.place.marked.suffixes;
            spelled = λ m one.
                let p = and_parts (is_name a.name) _ (f.place.marked.spelled m one) in
                and_from (is_name name) _ good p.1;
          };
          queued = f.place.queued;
          from = f.place.from;
          to = f.place.to;
        };
        on = f.on;
        later = f.later;
      }

  pub revived_sound : is_name name ≡ true → named_in name 0 s.adaptors ≡ None → IsSound T
  revived_sound good free = record {
    source = sound.source;
    delivery = sound.delivery;
    enough = sound.enough;
    known = sound.known;
    few = let few = sound.few in let size = set_size s.adaptors n (revived name a) in omega (arith, few, size);
    each = λ i b there. elim (at_set s.adaptors n (revived name a) i b there) [
      | other e ↦ sound.each i b e
      | here e is ↦
          subst (λ i. FitsAdaptor s.source s.saved (slice_index (next_begins s.delivery) i) (committed_at s i) b) (sym e)
          (subst (FitsAdaptor s.source s.saved (slice_index (next_begins s.delivery) n) (committed_at s n)) is (fits good))
    ];
    owned =
        owned_on (basis_of s) (basis_of T)
        (λ i t there. subst (λ ts. slice_get ts i ≡ Some t) (sym (streams_set s.source name s.adaptors n a at)) there) refl
        s.delivery.owners s.delivery.queue.chunks sound.owned;
    none_lost = λ l one. log_set l name s.adaptors n a at (sound.none_lost l one);
    apart = apart_revived name 0 s.adaptors n a at free sound.apart;
  }

  pub holds_revived : (history : History) → Holds s history → Holds T history
  holds_revived history h = record {
    readers = λ b one. reader b (at_in (slice_set s.adaptors n (revived name a)) b one);
    delivery =
        subst (λ b. HoldsDelivery b s.delivery history)
        (λ i. record {
          source = s.source;
          cluster = s.cluster;
          streams = sym (streams_set s.source name s.adaptors n a at) i;
          lines = s.saved;
        }) h.delivery;
  }
    where
      again : ReaderStands s.source (revived name a) history
      again =
          let r = h.readers a (in_at s.adaptors n a at) in
          record {
            read = stands_like history (stream_at s.source a) (read_line a) (read_line (revived name a)) refl refl refl r.read;
            marks = marks_like history (stream_at s.source a) a (revived name a) refl a.marks r.marks;
          }

      reader : (b : Adaptor) → (i : ℕ) × (slice_get (slice_set s.adaptors n (revived name a)) i ≡ Some b) → ReaderStands s.source b history
      reader b (i, there) = elim (at_set s.adaptors n (revived name a) i b there) [
        | other e ↦ h.readers b (in_at s.adaptors i b e)
        | here e is ↦ subst (λ b. ReaderStands s.source b history) is again
      ]

  -- what matches the state matches it then too
  pub revived_matches : (stamped : List (List ℕ)) (h : History) → Matches stamped s h → Matches stamped T h
  revived_matches stamped h x = record {
    legal = x.legal;
    may_act = x.may_act;
    alive = λ run ready. let k = x.alive run ready in
        record { one_cluster = k.one_cluster; lines_are = k.lines_are; holds = holds_revived h k.holds };
  }
