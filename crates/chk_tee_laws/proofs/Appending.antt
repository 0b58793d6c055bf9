-- The appends that a collector did since it took a message: they rise, and stand in their sinks.
use Rattle.std.proofs.Common.{◌≡◌, ◌⊎◌, inl, inr, ℕ, ◌<◌, List, [], ◌∷◌, ◌++◌, length, length-append, ap, sym, subst, arith}
use Rattle.chk_chunk.specs.Keys.{Chunk}
use Rattle.chk_http_grammar.specs.Messages.{Ack}
use Rattle.chk_seqfile.specs.Entries.{sync_entry}
use Rattle.chk_seqfile.proofs.EntryLemmas.{length-record_entry}
use Rattle.chk_site.specs.History.{Step, History}
use Rattle.chk_tee.specs.Messages.{Teed}
use Rattle.chk_tee_sender.specs.Sieves.{mark_of}
use Rattle.chk_tee_sender.specs.declared.sieve.Mark.{Mark}
use Rattle.chk_world.specs.Collectors.{Appended, Tells, TellAll, marker}
use Rattle.chk_tee_laws.specs.Passed.{IsAbove, Each, place}
use Rattle.chk_tee_laws.proofs.Order.{EachLine, LinesRise, told_at}
use Rattle.chk_tee_laws.proofs.Reached.{IsReached, reached_stays}

-- where an append ended
abbrev pub end_of : Appended → Mark
end_of w = mark_of w.stem w.end

-- something was appended
abbrev pub HasSome : Appended → Type 0
HasSome w = 0 < length w.piece

-- it holds of each append of some bytes
abbrev pub EachEnd : (Mark → Type 0) → List Appended → Type 0
EachEnd P [] = Unit {0}
EachEnd P (w ∷ ws) = (HasSome w → P (end_of w)) × EachEnd P ws

abbrev pub EndsRise : List Appended → Type 0
EndsRise [] = Unit {0}
EndsRise (w ∷ ws) = (HasSome w → EachEnd (IsAbove (end_of w)) ws) × EndsRise ws

pub ends_same : {P Q : Mark → Type 0} → ((m : Mark) → P m → Q m) → (ws : List Appended)
    → EachEnd P ws → EachEnd Q ws
ends_same keeps [] all = tt
ends_same keeps (w ∷ ws) all = (λ some. keeps (end_of w) (all.0 some), ends_same keeps ws all.1)

ends_join : (P : Mark → Type 0) (ws us : List Appended) → EachEnd P ws → EachEnd P us
    → EachEnd P (ws ++ us)
ends_join P [] us all more = more
ends_join P (w ∷ ws) us all more = (all.0, ends_join P ws us all.1 more)

rise_more : (ws us : List Appended) → EndsRise ws → EndsRise us
    → EachEnd (λ m. EachEnd (IsAbove m) us) ws → EndsRise (ws ++ us)
rise_more [] us rise more apart = more
rise_more (w ∷ ws) us rise more apart = (
  λ some. ends_join (IsAbove (end_of w)) ws us (rise.0 some) (apart.0 some),
  rise_more ws us
      rise.1 more apart.1,
)

-- what is known of the appends since a taking, and of what was passed before
pub record AreNew (name : List ℕ) (history : History) (items : List Teed) (ws : List Appended) :
    Type 0 where
  pub rise : EndsRise ws
  pub reached : EachEnd (IsReached name history) ws
  pub above : Each (λ t. EachEnd (IsAbove (place t)) ws) items

-- so it stays where nothing is appended
pub new_stay : (name : List ℕ) (history : History) (step : Step) (items : List Teed)
    (ws : List Appended) → AreNew name history items ws
    → AreNew name (step ∷ history) items ws
new_stay name history step items ws new = record {
  rise = new.rise;
  reached = ends_same (reached_stays name history step) ws new.reached;
  above = new.above;
}

-- and where these are appended, which lie above all that was reached
pub new_more : (name : List ℕ) (history : History) (step : Step) (items : List Teed)
    (ws us : List Appended) → AreNew name history items ws
    → Each (λ t. IsReached name history (place t)) items → EndsRise us
    → EachEnd (IsReached name (step ∷ history)) us
    → ((m : Mark) → IsReached name history m → EachEnd (IsAbove m) us)
    → AreNew name (step ∷ history) items (ws ++ us)
new_more name history step items ws us new passed rise reached above = record {
  rise = rise_more ws us new.rise rise (ends_same above ws new.reached);
  reached = ends_join (IsReached name (step ∷ history)) ws us
      (ends_same (reached_stays name history step) ws new.reached) reached;
  above = both items new.above passed;
}
  where
    both : (ts : List Teed) → Each (λ t. EachEnd (IsAbove (place t)) ws) ts
        → Each (λ t. IsReached name history (place t)) ts
        → Each (λ t. EachEnd (IsAbove (place t)) (ws ++ us)) ts
    both [] old now = tt
    both (t ∷ ts) old now = (
      ends_join (IsAbove (place t)) ws us old.0 (above (place t) now.0),
      both ts old.1 now.1,
    )

-- ---- the lines that tell of them

-- a record has some bytes
told_some : (c : Chunk) (a : Ack) (w : Appended) → Tells c a w → HasSome w
told_some c a w t = go t.piece
  where
    entry : 0 < length t.entry
    entry = omega (arith, ap length t.is.2, length-record_entry t.is.0 c.value)

    go : (w.piece ≡ t.entry) ⊎ (w.piece ≡ sync_entry (marker w.stem) ++ t.entry) → HasSome w
    go (inl e) = omega (arith, entry, ap length e)
    go (inr e) = omega (
      arith,
      entry,
      ap length e,
      length-append (sync_entry (marker w.stem))
          t.entry,
    )

-- the line tells of the place where the append ended
same_place : (c : Chunk) (a : Ack) (w : Appended) → Tells c a w → end_of w ≡ told_at a
same_place c a w t = λ i. mark_of (sym t.stem i) (sym t.end i)

pub told_each : (P : Mark → Type 0) (chunks : List Chunk) (acks : List Ack) (ws : List Appended)
    → TellAll chunks acks ws → EachEnd P ws
    → EachLine P acks
told_each P [] [] ws tells all = tt
told_each P [] (a ∷ acks) ws tells all = absurd tells
told_each P (c ∷ cs) [] ws tells all = absurd tells
told_each P (c ∷ cs) (a ∷ acks) [] tells all = absurd tells
told_each P (c ∷ cs) (a ∷ acks) (w ∷ ws) (inr t) all = told_each P (c ∷ cs) (a ∷ acks) ws t all.1
told_each P (c ∷ cs) (a ∷ acks) (w ∷ ws) (inl t) all =
    (subst P (same_place c a w t.0) (all.0 (told_some c a w t.0)), told_each P cs acks ws t.1 all.1)

pub told_rise : (chunks : List Chunk) (acks : List Ack) (ws : List Appended)
    → TellAll chunks acks ws → EndsRise ws → LinesRise acks
told_rise [] [] ws tells rise = tt
told_rise [] (a ∷ acks) ws tells rise = absurd tells
told_rise (c ∷ cs) [] ws tells rise = absurd tells
told_rise (c ∷ cs) (a ∷ acks) [] tells rise = absurd tells
told_rise (c ∷ cs) (a ∷ acks) (w ∷ ws) (inr t) rise = told_rise (c ∷ cs) (a ∷ acks) ws t rise.1
told_rise (c ∷ cs) (a ∷ acks) (w ∷ ws) (inl t) rise = (
  subst (λ m. EachLine (IsAbove m) acks) (same_place c a w t.0)
      (told_each (IsAbove (end_of w)) cs acks ws t.1 (rise.0 (told_some c a w t.0))),
  told_rise cs acks ws t.1 rise.1,
)
