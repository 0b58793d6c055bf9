-- The reads of a step obey the agent's rule, and what they give is the stream's log.
use Rattle.std.proofs.Common.{◌≡◌, inl, inr, ℕ, ◌+◌, ◌≤◌, Bool, true, false, ◌||◌, not, List, []}
use Rattle.std.proofs.Common.{length, Option, Some, None, Result, Ok, Err, ap, sym, subst, ◌∙◌}
use Rattle.std.proofs.Common.{refl, arith, true≢false, if◌then◌else◌}
use Rattle.std.specs.Prelude.{IsTrue}
use Rattle.chk_control.specs.Classes.{is_plain, breaks_lines}
use Rattle.chk_site.specs.declared.acts.Call.TheVariants.{LogRead}
use Rattle.chk_site.specs.declared.acts.CallFault.{CallFault}
use Rattle.chk_site.specs.declared.acts.CallFault.TheVariants.{Failed, Missing, Exists, Short}
use Rattle.chk_site.specs.declared.acts.CallFault.TheVariants.{NoMemory}
use Rattle.chk_site.specs.declared.acts.OutsideFault.{OutsideFault}
use Rattle.chk_site.specs.declared.suffixes.Piece.{Piece}
use Rattle.chk_site.specs.Suffixes.{is_after}
use Rattle.chk_site.specs.Logs.{TheBase, Past}
use Rattle.chk_site.specs.History.{History}
use Rattle.chk_site.specs.Site.{Adds, answered, Calls, Ends, IsTaken, piece_given}
use Rattle.chk_site.specs.Runs.{Leads}
use Rattle.chk_site.proofs.Leads.{leads_then, leads_as}
use Rattle.chk_chunk.specs.Keys.{Stream}
use Rattle.chk_world.specs.Names.{is_source}
use Rattle.chk_world.specs.Checkpoints.{Line, is_after_text}
use Rattle.chk_world.specs.Agents.{is_at_or_past, same_suffix, stream_of}
use Rattle.chk_world.specs.Places.{As}
use Rattle.chk_world.specs.Standing.{Stands}
use Rattle.chk_world.specs.Reading.{IsAtOrBehind, IsPlacePast, moved, passed}
use Rattle.chk_world.specs.Knowing.{agent, Grows, Both, Told, AfterRead}
use Rattle.chk_world.proofs.AgentKnows.{both_grow}
use Rattle.chk_world.proofs.AgentDoes.{Gained, IsReaderOf, read_told, read_ends}
use Rattle.chk_world.proofs.LinesStand.{stands_on, text_lt_trans}
use Rattle.chk_agent_adaptor.proofs.Texts.{take_length, taken_all, taken_within, part_is, takes_to_stop}
use Rattle.chk_world.proofs.LinesRead.{chunk_on}
use Rattle.chk_tail.specs.declared.step.Step.{Step}
use Rattle.chk_tail.specs.Taking.{asks_at, taken_of}
use Rattle.chk_tail.specs.Walks.{Spot, Way, part, reading, behind, mark_behind, given_marks}
use Rattle.chk_tail.specs.Walks.{Decides, Walks, decided, walked, unkept}
use Rattle.chk_agent_adaptor.specs.Facts.{GaveChunk, IsLong}
use Rattle.chk_agent_adaptor.proofs.Unshort.{short_told}
use Rattle.chk_agent_adaptor.proofs.WalkFacts.{at_spot, MarksAre, WalkFacts}
use Rattle.chk_control.proofs.SpelledLemmas.{false_from_not as not_true}

-- ---- what a read adds grows

pub after_read_grows : (stamped : List (List ℕ)) (source : List ℕ) → IsTrue (is_source source)
    → (s : Stream) → IsTrue (is_source s.source)
    → (l : Line) (piece : Piece) (n : ℕ) → Grows stamped (agent source) (AfterRead s l piece n)
after_read_grows stamped source known s of l piece n history step legal no_start h = record {
  place = stands_on stamped history step legal s of (moved l n) h.place;
  chunk = λ c valid from.
      chunk_on stamped history step legal c
      (subst (λ (t : Stream). IsTrue (is_source t.source)) (sym from.stream) of) valid
      (h.chunk c valid from);
  end = λ suffix e. stands_on stamped history step legal s of
      (passed l suffix (length piece.bytes)) (h.end suffix e);
}

gained_grows : (stamped : List (List ℕ)) (source : List ℕ) → IsTrue (is_source source)
    → (s : Stream) → IsTrue (is_source s.source)
    → (l : Line) (count : Piece → ℕ) (given : Option Piece)
    → Grows stamped (agent source) (Gained (λ piece h. AfterRead s l piece (count piece) h) given)
gained_grows stamped source known s of l count None history step legal no_start h = tt
gained_grows stamped source known s of l count (Some piece) history step legal no_start h =
    after_read_grows stamped source known s of l piece (count piece) history step legal no_start h

-- ---- the reader behind a generation

or_true : (b : Bool) → (b || true) ≡ true
or_true true = refl
or_true false = refl

after_transitive : (a : Option (List ℕ)) (x y : List ℕ) → is_after a x ≡ true
    → is_after (Some x) y ≡ true → is_after a y ≡ true
after_transitive None x y p q = refl
after_transitive (Some w) x y p q = text_lt_trans w x y p q

pub reader_behind : (source : List ℕ) (lines : List Line) (l : Line) (p q : Spot) (suffix : List ℕ)
    → is_plain l.class ≡ false
    → is_after p.after suffix ≡ true → q.after ≡ Some suffix → p.offset ≤ q.offset
    → IsReaderOf source lines (at_spot l p) → IsReaderOf source lines (at_spot l q)
reader_behind source lines l p q suffix several on is far r =
    let ahead : is_after r.line.after suffix ≡ true = r.behind suffix on in
    let was : IsPlacePast (Past p.after) (at_spot l p) r.line =
    subst (λ b. IsPlacePast (if b then TheBase else Past p.after) (at_spot l p) r.line) several
    r.past in
    let past : is_at_or_past r.line.after (Some suffix) ≡ true = rw ahead
    (or_true (same_suffix r.line.after (Some suffix))) in
    let before = was.2 in
    record {
      line = r.line;
      one = r.one;
      there = r.there;
      path = r.path;
      class = r.class;
      start = r.start;
      behind = subst (IsAtOrBehind r.line.after) (sym is)
          (λ x later. after_transitive r.line.after suffix x ahead later);
      past =
          subst (λ b. IsPlacePast (if b then TheBase else Past q.after) (at_spot l q) r.line)
          (sym several) (
            was.0,
            subst (λ o. IsTrue (is_at_or_past r.line.after o))
                (sym is) past,
            omega (arith, before, far),
          );
    }

-- ---- the step

module _ (stamped : List (List ℕ)) (source : List ℕ) (known : IsTrue (is_source source))
    (cluster : List ℕ) (lines : List Line) (l : Line) where
  abbrev S : Stream
  S = stream_of source l

  -- how the stream's reader reads
  abbrev W : Way
  W =
      record {
        who = agent source;
        path = l.path;
        lines = breaks_lines l.class;
        rotated = not (is_plain l.class);
      }

  abbrev Count : Piece → ℕ
  Count piece = taken_of (breaks_lines l.class) piece

  abbrev Most : Spot → ℕ
  Most p = asks_at p.offset

  abbrev Facts : (F : History → Type 0) → Spot → List Spot → Result Step OutsideFault → Spot
      → History → Type 0
  Facts F p marks result next = Both F (WalkFacts S l p marks result next)

  same_spot : (p : Spot) (n : ℕ) → moved (at_spot l p) n ≡ at_spot l (behind p None n)
  same_spot p n = refl

  -- one read, from its place
  one_read : (F : History → Type 0) → Grows stamped (agent source) F → (p : Spot)
      → IsReaderOf source lines (at_spot l p) → IsTrue (is_after_text p.after)
      → ((h : History) → F h → Stands h S (at_spot l p))
      → (given : Result Piece CallFault) (got : Option Piece) {old new : Option History}
      → IsTaken given got → Adds old new (Calls (reading W p) (answered piece_given given))
      → Adds old new (Leads (As stamped (agent source)) (Told stamped source cluster lines F)
      (Told stamped source cluster lines
      (Both F (Gained (λ piece h. AfterRead S (at_spot l p) piece (Count piece) h) got))))
  one_read F grows p reader named stands given got is call =
      read_told stamped source known cluster lines F grows (at_spot l p) reader stands
      (part W.rotated p.after) (part_is l.class p.after named) (Most p)
      given got Count (λ piece e. (
        taken_within (breaks_lines l.class) piece,
        takes_to_stop
            (breaks_lines l.class) piece (Most p) (omega arith),
      )) is call

  pub told_as : {F G : History → Type 0} {A : History → Type 0} {old new : Option History}
      → ((h : History) → F h → G h)
      → Adds old new (Leads (As stamped (agent source)) A (Told stamped source cluster lines F))
      → Adds old new (Leads (As stamped (agent source)) A (Told stamped source cluster lines G))
  told_as less p =
      leads_as (λ h x. x) (λ h x. record {
        legal = x.legal;
        may_act = x.may_act;
        alive = λ r. let k = x.alive r in
            record {
              one_cluster = k.one_cluster;
              lines_are = k.lines_are;
              holds = less h k.holds;
            };
      }) p

  unread : (F : History → Type 0) → Grows stamped (agent source) F → (p : Spot)
      → IsReaderOf source lines (at_spot l p) → IsTrue (is_after_text p.after)
      → ((h : History) → F h → Stands h S (at_spot l p))
      → (given : Result Piece CallFault) (outside : OutsideFault) (next : Spot)
      {old new : Option History} → Ends LogRead given outside → next ≡ p
      → Adds old new (Calls (reading W p) (answered piece_given given))
      → Adds old new (Leads (As stamped (agent source)) (Told stamped source cluster lines F)
      (Told stamped source cluster lines (Facts F p [] (Err outside) next)))
  unread F grows p reader named stands given outside next ends next_is call =
      told_as (λ h x. record {
        one = x;
        two = record {
          next_stands = subst (λ q. Stands h S (at_spot l q)) (sym next_is) (stands h x);
          marks_are = tt;
          chunk = tt;
          long = tt;
        };
      })
      (read_ends stamped source known cluster lines F grows (at_spot l p) reader stands
      (part W.rotated p.after) (part_is l.class p.after named) (Most p)
      given outside ends call)

  -- a read that decides
  by_decision : (F : History → Type 0) → Grows stamped (agent source) F → (p : Spot)
      → IsReaderOf source lines (at_spot l p) → IsTrue (is_after_text p.after)
      → ((h : History) → F h → Stands h S (at_spot l p))
      → (given : Result Piece CallFault) (result : Result Step OutsideFault) (next : Spot)
      {old new : Option History} → Adds old new (Calls (reading W p) (answered piece_given given))
      → Decides W p given result next
      → Adds old new (Leads (As stamped (agent source)) (Told stamped source cluster lines F)
      (Told stamped source cluster lines
      (Facts F p (given_marks (breaks_lines l.class) p given) result next)))
  by_decision F grows p reader named stands (Ok piece) result next call
      (ends, inl (some, result_is, next_is)) =
      told_as (λ h x. record {
        one = x.one;
        two = record {
          next_stands = subst (λ q. Stands h S (at_spot l q)) (sym next_is)
              (at_next h piece.ended refl x.two);
          marks_are = marks_at h piece.ended refl x.two;
          chunk =
              subst (λ r. GaveChunk S l.start r h) (sym result_is)
              (λ c valid stream start seq value.
              x.two.chunk c valid (record {
                stream = stream;
                start = start;
                seq = seq ∙ ap (λ k. p.offset + k)
                    (sym (take_length (Count piece) piece.bytes
                    (taken_within (breaks_lines l.class) piece)));
                value_is = value;
              }));
          long = subst IsLong (sym result_is) tt;
        };
      }) (one_read F grows p reader named stands (Ok piece) (Some piece) refl call)
    where
      at_next : (h : History) (o : Option (List ℕ)) → piece.ended ≡ o
          → AfterRead S (at_spot l p) piece (Count piece) h
          → Stands h S (at_spot l (behind p o (Count piece)))
      at_next h None e x = x.place
      at_next h (Some suffix) e x =
          let all : Count piece ≡ length piece.bytes = taken_all
          (breaks_lines l.class) piece suffix e in
          subst (λ n. Stands h S (passed (at_spot l p) suffix n)) (sym all) (x.end suffix e)

      marks_at : (h : History) (o : Option (List ℕ)) → piece.ended ≡ o
          → AfterRead S (at_spot l p) piece (Count piece) h
          → MarksAre S l p (mark_behind p o (Count piece)) next h
      marks_at h None e x = tt
      marks_at h (Some suffix) e x = (at_next h (Some suffix) e x, x.place, tt)
  by_decision F grows p reader named stands (Ok piece) result next call
      (ends, inr (none, not_ended, result_is, next_is)) =
      told_as (λ h x. record {
        one = x.one;
        two = record {
          next_stands = subst (λ q. Stands h S (at_spot l q)) (sym next_is) (stands h x.one);
          marks_are = subst (λ o. MarksAre S l p (mark_behind p o (Count piece)) next h)
              (sym not_ended) tt;
          chunk = subst (λ r. GaveChunk S l.start r h) (sym result_is) tt;
          long = subst IsLong (sym result_is) tt;
        };
      }) (one_read F grows p reader named stands (Ok piece) (Some piece) refl call)
  by_decision F grows p reader named stands (Err (Short size)) result next call
      (result_is, next_is) =
      told_as (λ h x. record { one = x.one; two = absurd x.two })
      (short_told stamped source known cluster lines F grows (at_spot l p) reader stands
      (part W.rotated p.after) (part_is l.class p.after named) (Most p) size call)
  by_decision F grows p reader named stands (Err Failed) (Ok gave) next call d = absurd d
  by_decision F grows p reader named stands (Err Missing) (Ok gave) next call d = absurd d
  by_decision F grows p reader named stands (Err Exists) (Ok gave) next call d = absurd d
  by_decision F grows p reader named stands (Err NoMemory) (Ok gave) next call d = absurd d
  by_decision F grows p reader named stands (Err Missing) (Err outside) next call d = absurd d.0
  by_decision F grows p reader named stands (Err Exists) (Err outside) next call d = absurd d.0
  by_decision F grows p reader named stands (Err Failed) (Err outside) next call (ends, next_is) =
      unread F grows p reader named stands (Err Failed) outside next ends next_is call
  by_decision F grows p reader named stands (Err NoMemory) (Err outside) next call
      (ends, next_is) =
      unread F grows p reader named stands (Err NoMemory) outside next ends next_is call

  -- each of the reads in turn
  pub walk_told : (result : Result Step OutsideFault) (next : Spot) (F : History → Type 0)
      → Grows stamped (agent source) F → (p : Spot) (marks : List Spot)
      {old new : Option History} → IsReaderOf source lines (at_spot l p)
      → IsTrue (is_after_text p.after) → ((h : History) → F h → Stands h S (at_spot l p))
      → Walks W result next p marks old new
      → Adds old new (Leads (As stamped (agent source)) (Told stamped source cluster lines F)
      (Told stamped source cluster lines (Facts F p marks result next)))
  walk_told result next F grows p marks reader named stands (decided given call d) =
      by_decision F grows p reader named stands given result next call d
  walk_told result next F grows p marks reader named stands
      (walked {marks = later} piece suffix ended ends none call rest) =
      let q : Spot = behind p (Some suffix) 0 in
      let G : History → Type 0 = Gained
      (λ piece h. AfterRead S (at_spot l p) piece (Count piece) h) (Some piece) in
      let F' : History → Type 0 = Both F G in
      let all : length piece.bytes ≡ 0 = sym (taken_all (breaks_lines l.class) piece suffix ended)
      ∙ none in
      let on = ends.2 in
      let no_plain : is_plain l.class ≡ false = not_true (is_plain l.class) ends.0 in
      let behind_stands : (h : History) → F' h → Stands h S (at_spot l q) = λ h x.
      subst (λ n. Stands h S (passed (at_spot l p) suffix n)) all (x.two.end suffix ended) in
      let first = one_read F grows p reader named stands (Ok piece) (Some piece) refl call in
      let second = walk_told result next F'
      (both_grow stamped (agent source) F G grows
      (after_read_grows stamped source known S known (at_spot l p) piece (Count piece)))
      q later (reader_behind source lines l p q suffix no_plain on refl (omega arith) reader)
      ends.1 behind_stands rest in
      told_as (λ h x. record {
        one = x.one.one;
        two = record {
          next_stands = x.two.next_stands;
          marks_are = (
            behind_stands h x.one,
            subst (λ n. Stands h S (moved (at_spot l p) n)) none x.one.two.place,
            x.two.marks_are,
          );
          chunk = x.two.chunk;
          long = x.two.long;
        };
      }) (leads_then first second)
  walk_told result next F grows p [] reader named stands
      (unkept piece some call result_is next_is) =
      told_as (λ h x. record {
        one = x.one;
        two = record {
          next_stands = subst (λ q. Stands h S (at_spot l q)) (sym next_is) (stands h x.one);
          marks_are = tt;
          chunk = subst (λ r. GaveChunk S l.start r h) (sym result_is) tt;
          long = subst IsLong (sym result_is) tt;
        };
      }) (one_read F grows p reader named stands (Ok piece) (Some piece) refl call)
