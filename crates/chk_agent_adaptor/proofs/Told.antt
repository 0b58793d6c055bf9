-- What a step of an adaptor leads to, with any facts carried beside it.
use Rattle.std.proofs.Common.{◌≡◌, ℕ, Bool, List, [], ◌∷◌, ◌++◌, Option, Some, None, Result, Ok}
use Rattle.std.proofs.Common.{Err, ap, sym, subst, refl, bytes_eq}
use Rattle.std.specs.Prelude.{IsTrue, find}
use Rattle.std.proofs.lemmas.Bool.{and_parts}
use Rattle.chk_site.specs.declared.acts.CallFault.{CallFault}
use Rattle.chk_site.specs.declared.acts.OutsideFault.{OutsideFault}
use Rattle.chk_site.specs.declared.acts.Who.{Who}
use Rattle.chk_site.specs.declared.suffixes.Piece.{Piece}
use Rattle.chk_site.specs.History.{Step as Act, History}
use Rattle.chk_site.specs.Site.{Adds}
use Rattle.chk_site.specs.Runs.{Leads}
use Rattle.chk_chunk.specs.Keys.{Stream}
use Rattle.chk_tail.specs.declared.step.Step.{Step}
use Rattle.chk_tail.specs.Taking.{taken_of}
use Rattle.chk_tail.specs.Walks.{Spot, Way, mark_behind, given_marks}
use Rattle.chk_tail.specs.Walks.{Walks, decided, walked, unkept}
use Rattle.chk_rotate.specs.Marks.{RiseTo, newest_at}
use Rattle.chk_world.specs.Names.{is_source}
use Rattle.chk_world.specs.Checkpoints.{Line, is_after_text, is_line_of}
use Rattle.chk_world.specs.Rules.{Legal}
use Rattle.chk_world.specs.Places.{As}
use Rattle.chk_world.specs.Standing.{Stands}
use Rattle.chk_world.specs.Knowing.{agent, Grows, Both, Told}
use Rattle.chk_world.proofs.Ends.{bytes_same}
use Rattle.chk_world.proofs.CheckpointsMove.{found}
use Rattle.chk_world.proofs.AgentDoes.{IsReaderOf}
use Rattle.chk_world.proofs.LinesStand.{stands_on}
use Rattle.chk_agent_adaptor.specs.Adaptors.{Adaptor, stream_at, read_line, IsPastLine, IsPlaced}
use Rattle.chk_agent_adaptor.specs.Steps.{stepped, IsStepped}
use Rattle.chk_agent_adaptor.specs.Facts.{place_line, MarksStand, ReaderStands, StepStands}
use Rattle.chk_agent_adaptor.proofs.WalkFacts.{at_spot, MarksAre, WalkFacts}
use Rattle.chk_agent_adaptor.proofs.WalkTold.{told_as, walk_told}

-- Whether a place stands lies in its offset, its beginning and its suffix alone.
pub stands_like : (history : History) (s : Stream) (l m : Line) → m.offset ≡ l.offset
    → m.first ≡ l.first → m.after ≡ l.after → Stands history s l → Stands history s m
stands_like history s l m offset first after h =
    subst (λ o. Stands history s (record m { offset = o })) (sym offset)
    (subst (λ o. Stands history s (record m { offset = l.offset; first = o })) (sym first)
    (subst (λ o. Stands history s (record m { offset = l.offset; first = l.first; after = o }))
    (sym after) (record {
      first = h.first;
      founded = h.founded;
      place = record { first = h.place.first; on = h.place.on; within = h.place.within };
      cut = h.cut;
      suffix = h.suffix;
    })))

-- ---- the reader stands after every further step

marks_grow : (stamped : List (List ℕ)) (s : Stream) → IsTrue (is_source s.source) → (a : Adaptor)
    (marks : List Spot) (history : History) (step : Act) → Legal stamped (step ∷ history)
    → MarksStand history s a marks → MarksStand (step ∷ history) s a marks
marks_grow stamped s known a [] history step legal h = tt
marks_grow stamped s known a (m ∷ []) history step legal h =
    stands_on stamped history step legal s known _ h
marks_grow stamped s known a (m ∷ n ∷ marks) history step legal h = (
  stands_on stamped history step legal s known _ h.0,
  marks_grow stamped s known a (n ∷ marks) history step legal h.1,
)

pub reader_grows : (stamped : List (List ℕ)) (source : List ℕ) → IsTrue (is_source source)
    → (a : Adaptor) → Grows stamped (agent source) (ReaderStands source a)
reader_grows stamped source known a history step legal no_start h = record {
  read = stands_on stamped history step legal (stream_at source a) known (read_line a) h.read;
  marks = marks_grow stamped (stream_at source a) known a a.marks history step legal h.marks;
}

-- ---- the marks after a step

-- the last mark is that of the generation in which the place lies
abbrev EndsIn : Spot → List Spot → Type 0
EndsIn p [] = ⊥
EndsIn p (m ∷ []) = (m.first ≡ p.first) × (m.after ≡ p.after)
EndsIn p (m ∷ n ∷ marks) = EndsIn p (n ∷ marks)

-- each mark stands where its generation begins
abbrev AtBegin : List Spot → Type 0
AtBegin [] = Unit {0}
AtBegin (m ∷ marks) = (m.offset ≡ m.first) × AtBegin marks

ends_in : (m : Spot) (marks : List Spot) (o : ℕ) (p : Spot) → newest_at (m ∷ marks) o ≡ p
    → EndsIn p (m ∷ marks)
ends_in m [] o p newest =
    (ap (λ (q : Spot). q.first) newest, ap (λ (q : Spot). q.after) newest)
ends_in m (n ∷ marks) o p newest = ends_in n marks o p newest

placed_ends : (marks : List Spot) (o : ℕ) (p : Spot) → RiseTo marks o → newest_at marks o ≡ p
    → EndsIn p marks
placed_ends [] o p rise newest = absurd rise
placed_ends (m ∷ marks) o p rise newest = ends_in m marks o p newest

given_begin : (lines : Bool) (p : Spot) (given : Result Piece CallFault)
    → AtBegin (given_marks lines p given)
given_begin lines p (Err fault) = tt
given_begin lines p (Ok piece) = go piece.ended
  where
    go : (ended : Option (List ℕ)) → AtBegin (mark_behind p ended (taken_of lines piece))
    go None = tt
    go (Some suffix) = (refl, tt)

walk_begins : (way : Way) (result : Result Step OutsideFault) (next p : Spot)
    (marks : List Spot) {old new : Option History}
    → Walks way result next p marks old new → AtBegin marks
walk_begins way result next p marks (decided given told d) = given_begin way.lines p given
walk_begins way result next p marks
    (walked {marks = later} piece suffix ended ends none told rest) =
    (refl, walk_begins way result next _ later rest)
walk_begins way result next p marks (unkept piece some told is next_is) = tt

module _ (history : History) (source : List ℕ) (a b : Adaptor)
    (same : stream_at source b ≡ stream_at source a) where
  abbrev S : Stream
  S = stream_at source a

  abbrev L : Line
  L = read_line a

  at_b : (m : Line) → Stands history S m → Stands history (stream_at source b) m
  at_b m h = subst (λ t. Stands history t m) (sym same) h

  -- the marks that a walk made, with the place read behind them
  walk_marks : (p : Spot) (marks : List Spot) (next : Spot) → MarksAre S L p marks next history
      → AtBegin marks → (m : Spot) → m.first ≡ p.first → m.after ≡ p.after
      → Stands history S (at_spot L next) → EndsIn next (m ∷ marks) → b.read ≡ next
      → MarksStand history (stream_at source b) b (m ∷ marks)
  walk_marks p [] next facts begins m first after here ends read =
      at_b _ (stands_like history S (at_spot L next)
      (place_line b (record m { offset = b.read.offset })) (ap (λ (q : Spot). q.offset) read)
      ends.0 ends.1 here)
  walk_marks p (n ∷ marks) next facts begins m first after here ends read = (
    at_b _ (stands_like history S (at_spot L (record p { offset = n.offset }))
        (place_line b (record m { offset = n.first })) (sym begins.0) first after facts.1),
    walk_marks n marks next facts.2 begins.1 n refl refl here ends read,
  )

  -- behind the marks that were there
  more_marks : (old : List Spot) (marks : List Spot) (next : Spot) → MarksStand history S a old
      → EndsIn a.read old → MarksAre S L a.read marks next history → AtBegin marks
      → Stands history S (at_spot L next) → EndsIn next (old ++ marks) → b.read ≡ next
      → MarksStand history (stream_at source b) b (old ++ marks)
  more_marks [] marks next h in_last facts begins here ends read = absurd in_last
  more_marks (m ∷ []) marks next h in_last facts begins here ends read =
      walk_marks a.read marks next facts begins m in_last.0 in_last.1 here ends read
  more_marks (m ∷ n ∷ old) marks next h in_last facts begins here ends read = (
    at_b _ (stands_like history S _
        (place_line b (record m { offset = n.first })) refl refl refl h.0),
    more_marks (n ∷ old) marks next h.1 in_last facts begins here ends read,
  )

-- the stepped reader stands, and so does each chunk of what it gave
step_stands : (history : History) (source : List ℕ) (a b : Adaptor) (marks : List Spot)
    (next : Spot) (result : Result Step OutsideFault) → ReaderStands source a history
    → IsPlaced a → AtBegin marks → IsPlaced b → b ≡ stepped marks next result a
    → WalkFacts (stream_at source a) (read_line a) a.read marks result next history
    → StepStands source a result b history
step_stands history source a b marks next (Err fault) h placed begins at_end is w =
    subst (λ (c : Adaptor). StepStands source a (Err fault) c history) (sym is)
    (record { reader = h; chunk = tt; long = tt })
step_stands history source a b marks next (Ok step) h placed begins at_end is w =
    let c : Adaptor = stepped marks next (Ok step) a in
    let there = subst IsPlaced is at_end in
    subst (λ (c : Adaptor). StepStands source a (Ok step) c history) (sym is)
    (record {
      reader = record {
        read = stands_like history (stream_at source a) (at_spot (read_line a) next) (read_line c)
            refl refl refl w.next_stands;
        marks = more_marks history source a c refl a.marks marks next h.marks
            (placed_ends a.marks a.read.offset a.read placed.rises placed.newest) w.marks_are
            begins
            w.next_stands (placed_ends c.marks c.read.offset next there.rises there.newest) refl;
      };
      chunk = w.chunk;
      long = w.long;
    })

-- ---- the step

-- the reader of an adaptor that is at or past its line
reader_of : (source : List ℕ) (lines : List Line) (a : Adaptor) (saved : Line)
    → find (is_line_of (stream_at source a)) lines ≡ Some saved → IsPastLine saved (read_line a)
    → IsReaderOf source lines (read_line a)
reader_of source lines a saved there past =
    let f = found (is_line_of (stream_at source a)) lines saved there in
    record {
      line = saved;
      one = f.one;
      there = there;
      path = sym (bytes_same a.path saved.path
          (and_parts (bytes_eq a.kind saved.kind) (bytes_eq a.path saved.path) f.passes).1);
      class = past.class;
      start = past.start;
      behind = past.behind;
      past = past.past;
    }

-- From any facts that grow, of which one is that the reader stands, a step leads to these facts
-- and those of the step.
pub step_leads : (stamped : List (List ℕ)) (source : List ℕ) → IsTrue (is_source source)
    → (cluster : List ℕ) (lines : List Line) (a b : Adaptor) (result : Result Step OutsideFault)
    (saved : Line) {before after : Option History}
    → find (is_line_of (stream_at source a)) lines ≡ Some saved → IsPastLine saved (read_line a)
    → IsTrue (is_after_text a.read.after) → IsPlaced a → IsPlaced b
    → IsStepped (agent source) a result b before after
    → (F : History → Type 0) → Grows stamped (agent source) F
    → ((h : History) → F h → ReaderStands source a h)
    → Adds before after (Leads (As stamped (agent source)) (Told stamped source cluster lines F)
    (Told stamped source cluster lines (Both F (StepStands source a result b))))
step_leads stamped source known cluster lines a b result saved there past named placed at_end step
    F grows stands =
    told_as stamped source known cluster lines (read_line a) (λ h x. record {
      one = x.one;
      two = step_stands h source a b step.marks step.next result (stands h x.one) placed
          (walk_begins _ result step.next a.read step.marks step.walks) at_end step.is x.two;
    })
    (walk_told stamped source known cluster lines (read_line a) result step.next F grows a.read
    step.marks (reader_of source lines a saved there past) named
    (λ h x. (stands h x).read) step.walks)

-- The same of the reader alone.
pub step_told : (stamped : List (List ℕ)) (who : Who) (source cluster : List ℕ)
    (lines : List Line) (saved : Line) (a b : Adaptor) (result : Result Step OutsideFault)
    {before after : Option History}
    → IsTrue (is_after_text a.read.after) → IsPlaced a → IsPlaced b
    → IsStepped who a result b before after → who ≡ agent source → IsTrue (is_source source)
    → find (is_line_of (stream_at source a)) lines ≡ Some saved → IsPastLine saved (read_line a)
    → Adds before after (Leads (As stamped who)
    (Told stamped source cluster lines (ReaderStands source a))
    (Told stamped source cluster lines (StepStands source a result b)))
step_told stamped who source cluster lines saved a b result {before = before} {after = after} named
    placed at_end step me known there past =
    subst (λ (w : Who). Adds before after (Leads (As stamped w)
    (Told stamped source cluster lines (ReaderStands source a))
    (Told stamped source cluster lines (StepStands source a result b)))) (sym me)
    (told_as stamped source known cluster lines (read_line a) (λ h x. x.two)
    (step_leads stamped source known cluster lines a b result saved there past named placed at_end
    (subst (λ (w : Who). IsStepped w a result b before after) me step)
    (ReaderStands source a) (reader_grows stamped source known a) (λ h x. x)))
