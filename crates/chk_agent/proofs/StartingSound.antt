-- The state of a start is sound.
use Rattle.std.proofs.Common.{◌≡◌, ℕ, zero, suc, ◌≤◌, ◌<◌, Bool, true, false, ◌&&◌, ◌||◌, not, List}
use Rattle.std.proofs.Common.{[], ◌∷◌, length, map, nat_le, Some, ap, sym, subst, ◌∙◌, refl, arith}
use Rattle.std.proofs.Common.{bytes_eq, if◌then◌else◌}
use Rattle.std.specs.Prelude.{IsTrue, slice_get, slice_index, slice_index_or}
use Rattle.std.specs.List.{list_all, list_any}
use Rattle.std.proofs.lemmas.Bool.{and_parts, leb-true}
use Rattle.chk_tail.specs.Walks.{Spot}
use Rattle.chk_checkpoint.specs.declared.CheckLine.{CheckLine}
use Rattle.chk_checkpoint.specs.Lines.{shown}
use Rattle.chk_world.specs.Names.{is_source}
use Rattle.chk_world.specs.Checkpoints.{Line, Two, is_line, same_log, clash, are_apart, are_lines}
use Rattle.chk_world.specs.Checkpoints.{fits_version}
use Rattle.chk_agent_adaptor.specs.declared.adaptor.Phase.TheVariants.{Live, Past}
use Rattle.chk_agent_adaptor.specs.Adaptors.{Adaptor, adaptor_of, is_past, line_at}
use Rattle.chk_agent_delivery.specs.Basis.{AreOwned}
use Rattle.chk_agent_delivery.specs.Sound.{IsSound as IsSoundDelivery, ends_after, next_begins}
use Rattle.chk_agent.specs.States.{State, lines_at, basis_of}
use Rattle.chk_agent.specs.Fits.{IsEnough, mark_line, FitsPlace, IsSound}
use Rattle.chk_failover.specs.Turns.{Turns}
use Rattle.chk_agent_delivery.specs.declared.delivery.Rules.{Rules}
use Rattle.chk_agent_delivery.specs.States.{State as Delivery}
use Rattle.chk_agent.specs.Loading.{AreLines, BeginsAt, IsEmptyFor, IsBegun}
use Rattle.chk_agent.proofs.Soundness.{has_place, HavePlaces, sound_written, in_at, map_at}
use Rattle.chk_agent.proofs.Soundness.{size_map}

-- lines that may stand in one checkpoint
pub record AreGood (lines : List Line) : Type 0 where
  pub few : length lines ≤ 10000
  pub each : AreLines lines
  pub apart : are_apart lines ≡ true

all_in : (lines : List Line) → list_all is_line lines ≡ true → AreLines lines
all_in [] all l (k, below, at) = absurd (let z : ⊥ = omega (arith, below) in z)
all_in (m ∷ lines) all l (zero, below, at) = subst (λ m. is_line m ≡ true) at (and_parts (is_line m) _ all).0
all_in (m ∷ lines) all l (suc k, below, at) = all_in lines (and_parts (is_line m) _ all).1 l (k, omega (arith, below), at)

pub are_good : (lines : List Line) → IsTrue (are_lines Two lines) → AreGood lines
are_good lines e =
    let p = and_parts (nat_le (length lines) 10000) _ e in
    let q = and_parts (list_all is_line lines) _ p.1 in
    record {
      few = leb-true (length lines) 10000 p.0;
      each = all_in lines q.0;
      apart = (and_parts (list_all (fits_version Two) lines) _ q.1).1;
    }

-- ---- the adaptor of a line

live_again : (live : Bool) → not (is_past (if live then Live else Past)) ≡ live
live_again true = refl
live_again false = refl

-- its line is that one
pub line_again : (l : Line) → line_at l.offset (adaptor_of l) ≡ l
line_again l = ap (λ live. record l { live = live }) (live_again l.live)

pub lines_again : (lines : List Line) (ends : List ℕ)
    → ((i : ℕ) (l : Line) → slice_get lines i ≡ Some l → slice_index ends i ≡ l.offset)
    → lines_at (map adaptor_of lines) ends ≡ lines
lines_again [] ends begins = refl
lines_again (l ∷ lines) [] begins = λ i. first i ∷ lines_again lines [] (λ i. begins (suc i)) i
  where
    first : line_at 0 (adaptor_of l) ≡ l
    first = subst (λ o. line_at o (adaptor_of l) ≡ l) (sym (begins 0 l refl)) (line_again l)
lines_again (l ∷ lines) (o ∷ ends) begins = λ i. first i ∷ lines_again lines ends (λ i. begins (suc i)) i
  where
    first : line_at o (adaptor_of l) ≡ l
    first = subst (λ o. line_at o (adaptor_of l) ≡ l) (sym (begins 0 l refl)) (line_again l)

clash_again : (l : Line) (lines : List Line)
    → list_any (clash (line_at 0 (adaptor_of l))) (map (line_at 0) (map adaptor_of lines)) ≡ list_any (clash l) lines
clash_again l [] = refl
clash_again l (m ∷ lines) = λ i.
    (same_log l m || (live_again l.live i && (live_again m.live i && bytes_eq l.name m.name))) || clash_again l lines i

apart_again : (lines : List Line) → are_apart (map (line_at 0) (map adaptor_of lines)) ≡ are_apart lines
apart_again [] = refl
apart_again (l ∷ lines) = λ i. not (clash_again l lines i) && apart_again lines i

pub place_again : (l : Line) → is_line l ≡ true → FitsPlace l.offset l.offset (adaptor_of l)
place_again l is =
    let on = (has_place l is).on in
    record {
      marked = record {
        placed = record { rises = on; newest = refl };
        suffixes = tt;
        spelled = λ m in_marks. spelled m in_marks.0 in_marks.1 in_marks.2;
      };
      queued = refl;
      from = on;
      to = omega arith;
    }
  where
    mark : Spot
    mark = record { after = l.after; first = l.first; offset = l.first }

    spelled : (m : Spot) (k : ℕ) → k < 1 → slice_index_or (mark ∷ []) k m ≡ m → is_line (mark_line (adaptor_of l) m) ≡ true
    spelled m zero below at = subst (λ m. is_line (mark_line (adaptor_of l) m) ≡ true) at is
    spelled m (suc k) below at = absurd (let z : ⊥ = omega (arith, below) in z)

-- ---- the state

-- nothing waits, and the adaptor of each line begins at its offset
pub record IsBegunFor (lines : List Line) (d : Delivery) : Type 0 where
  pub sound : IsSoundDelivery d
  pub owners : d.owners ≡ []
  pub chunks : d.queue.chunks ≡ []
  pub known : length d.table.committed ≡ 10000
  pub begins : (i : ℕ) (l : Line) → slice_get lines i ≡ Some l → BeginsAt d i l

pub begun_for : (ring : Turns) (rules : Rules) (lines : List Line) (old new : Delivery) → IsEmptyFor ring rules 10000 old
    → IsBegun lines old new → IsSoundDelivery new → IsBegunFor lines new
begun_for ring rules lines old new empty begun sound = record {
  sound = sound;
  owners = ap (λ (d : Delivery). d.owners) begun.rest ∙ empty.owners;
  chunks = ap (λ (d : Delivery). d.queue.chunks) begun.rest ∙ empty.queue;
  known = begun.known ∙ empty.known;
  begins = begun.begins;
}

-- the adaptors and what is to be delivered are made of the lines of a checkpoint
pub record IsMade (lines : List Line) (adaptors : List Adaptor) (d : Delivery) : Type 0 where
  pub good : AreGood lines
  pub are : adaptors ≡ map adaptor_of lines
  pub begun : IsBegunFor lines d

made_places : (lines : List Line) (adaptors : List Adaptor) (d : Delivery) → IsMade lines adaptors d
    → HavePlaces adaptors (next_begins d) d.table.committed
made_places lines adaptors d h = record {
  few =
      let few = h.good.few in
      let size = ap length h.are in
      let same = size_map adaptor_of lines in omega (arith, few, size, same);
  apart = ap (λ xs. are_apart (map (line_at 0) xs)) h.are ∙ (apart_again lines ∙ h.good.apart);
  each = λ i a at.
      let k = map_at adaptor_of lines i a (subst (λ xs. slice_get xs i ≡ Some a) h.are at) in
      subst (FitsPlace (slice_index (next_begins d) i) (slice_index d.table.committed i)) k.2 (at_line i k.0 k.1);
}
  where
    at_line : (i : ℕ) (l : Line) → slice_get lines i ≡ Some l
        → FitsPlace (slice_index (next_begins d) i) (slice_index d.table.committed i) (adaptor_of l)
    at_line i l at =
        let b = h.begun.begins i l at in
        subst (λ os. FitsPlace (slice_index (ends_after d.table.last os d.queue.chunks) i) (slice_index d.table.committed i) (adaptor_of l))
        (sym h.begun.owners)
        (subst (λ o. FitsPlace o (slice_index d.table.committed i) (adaptor_of l)) (sym b.last)
        (subst (λ o. FitsPlace l.offset o (adaptor_of l)) (sym b.committed) (place_again l (h.good.each l (in_at lines i l at)))))

-- its lines are those
pub made_lines : (lines : List Line) (adaptors : List Adaptor) (d : Delivery) → IsMade lines adaptors d
    → lines_at adaptors d.table.committed ≡ lines
made_lines lines adaptors d h =
    ap (λ xs. lines_at xs d.table.committed) h.are
    ∙ lines_again lines d.table.committed (λ i l at. (h.begun.begins i l at).committed)

pub made_sound : (s : State) → IsTrue (is_source s.source) → IsEnough s.delivery.rules
    → IsMade s.saved s.adaptors s.delivery → IsSound s
made_sound s source enough h =
    subst (λ saved. IsSound (record s { saved = saved })) (made_lines s.saved s.adaptors s.delivery h)
    (sound_written s source h.begun.sound enough h.begun.known (made_places s.saved s.adaptors s.delivery h)
    (subst (λ os. AreOwned (basis_of s) os s.delivery.queue.chunks) (sym h.begun.owners)
    (subst (AreOwned (basis_of s) []) (sym h.begun.chunks) tt)))

-- what a start makes of the lines that it loaded
pub is_made : (ring : Turns) (rules : Rules) (items seen : List CheckLine) (adaptors : List Adaptor) (old new view : Delivery)
    → IsTrue (are_lines Two (map shown items)) → seen ≡ items → IsEmptyFor ring rules 10000 old
    → IsBegun (map shown seen) old new → adaptors ≡ map adaptor_of (map shown items) → IsSoundDelivery view → view ≡ new
    → IsMade (map shown items) adaptors new
is_made ring rules items seen adaptors old new view good same empty begun are sound is = record {
  good = are_good (map shown items) good;
  are = are;
  begun =
      begun_for ring rules (map shown items) old new empty (subst (λ ls. IsBegun (map shown ls) old new) same begun)
      (subst IsSoundDelivery is sound);
}
