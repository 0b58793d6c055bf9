-- What an agent knows of its history, how it stays, and that it lets the checkpoint go on.
use Rattle.std.proofs.Common.{◌≡◌, inl, inr, ℕ, suc, List, [], ◌∷◌, ◌++◌, Option, Some, None, Result, subst, refl, arith}
use Rattle.std.specs.Prelude.{IsTrue, Contains, find}
use Rattle.std.proofs.lemmas.Bool.{and_from}
use Rattle.chk_site.specs.declared.acts.Role.TheVariants.{Agent}
use Rattle.chk_site.specs.declared.acts.Who.{Who}
use Rattle.chk_site.specs.declared.acts.OutsideFault.{OutsideFault}
use Rattle.chk_site.specs.Suffixes.{is_after}
use Rattle.chk_site.specs.Logs.{Generation}
use Rattle.chk_site.specs.History.{Step, History, files_after, logs_after, since_start}
use Rattle.chk_site.specs.Site.{Adds}
use Rattle.chk_site.specs.Runs.{Side, Leads, MadeInTurn}
use Rattle.chk_replace.specs.Replace.{replacement}
use Rattle.chk_chunk.specs.Keys.{Stream, Chunk}
use Rattle.chk_http_grammar.specs.Messages.{Ack}
use Rattle.chk_world.specs.Names.{CheckFile, is_source, spell}
use Rattle.chk_world.specs.Checkpoints.{Line, read_checkpoint, line_of, is_line_of}
use Rattle.chk_world.specs.Agents.{Sent, GotFor, Acknowledged, SuffixMoves, has_generation, LineMay, LineIsTrue, MaySendChunk, stream_of}
use Rattle.chk_world.specs.Rules.{Legal}
use Rattle.chk_world.specs.Places.{As, AtTold}
use Rattle.chk_world.specs.Standing.{IsSuffixOf}
use Rattle.chk_world.specs.Reading.{ChunkStands}
use Rattle.chk_world.specs.Answering.{IsAnswered, IsPolled, Reaches, MovesToLater, GoesOnOrBegins, LinesGoOn}
use Rattle.chk_world.proofs.AgentCalls.{MayFollow, HasLines, KeptByWrites, WroteLines, checkpoint_replaced}
use Rattle.chk_world.proofs.PlacesStay.{Stays}

-- ---- a fact that every legal step keeps

abbrev pub AlwaysStays : List (List ℕ) → (History → Type 0) → Type 0
AlwaysStays stamped K = (history : History) (step : Step) → Legal stamped (step ∷ history) → K history → K (step ∷ history)

-- it is kept by every call, with no clause about it: the legality at the end is enough
always_on : (stamped : List (List ℕ)) (K : History → Type 0) → AlwaysStays stamped K
    → (added history : History) → Legal stamped (added ++ history)
    → K history → K (added ++ history)
always_on stamped K stays [] history legal k = k
always_on stamped K stays (step ∷ added) history legal k =
    stays (added ++ history) step legal (always_on stamped K stays added history legal.0 k)

pub told_with : (stamped : List (List ℕ)) (who : Who) (K : History → Type 0) → AlwaysStays stamped K
    → {S : Side}
    {B C : History → Type 0} {old new : Option History}
    → Adds old new (Leads S (AtTold stamped who B) (AtTold stamped who C))
    → Adds old new (Leads S (λ h. AtTold stamped who B h × K h) (λ h. AtTold stamped who C h × K h))
told_with stamped who K stays {S = S} {B = B} {C = C} p = record {
  told = λ history e.
      let x = p.told history e in (
        x.0,
        x.1,
        record {
          leads = λ s h.
              let after = x.2.leads s h.0 in
              (after, always_on stamped K stays x.0 history after.legal h.1);
          own = x.2.own;
        },
      );
  untold = p.untold;
}

-- ---- what was sent and got, among more steps

contains_more : {X : Type 0} (x y : X) (xs : List X) → Contains xs y → Contains (x ∷ xs) y
contains_more x y xs c = let below = c.1 in (suc c.0, omega (arith, below), c.2)

pub sent_more : (step : Step) (mine : List Step) (m : ℕ) (address bytes : List ℕ)
    → Sent mine m address bytes → Sent (step ∷ mine) m address bytes
sent_more step mine m address bytes h = record { step = h.step; one = contains_more step h.step mine h.one; call = h.call }

got_more : (step : Step) (mine : List Step) (m : ℕ) (bytes : List ℕ) → GotFor mine m bytes
    → GotFor (step ∷ mine) m bytes
got_more step mine m bytes h =
    record { step = h.step; one = contains_more step h.step mine h.one; call = h.call; number = h.number; of = h.of; done = h.done }

pub answered_more : (step : Step) (mine : List Step) (c : Chunk) (ack : Ack) → IsAnswered mine c ack
    → IsAnswered (step ∷ mine) c ack
answered_more step mine c ack h = record {
  post = h.post;
  address = h.address;
  sent_bytes = h.sent_bytes;
  chunks = h.chunks;
  posted = sent_more step mine h.post h.address h.sent_bytes h.posted;
  is_post = h.is_post;
  reply = h.reply;
  acks = h.acks;
  replied = got_more step mine h.post h.reply h.replied;
  is_good = h.is_good;
  line = h.line;
}

-- a chunk that was answered is acknowledged by a poll that reaches its end
pub acknowledged_from : (mine : List Step) (c : Chunk) (ack : Ack) (lengths : List Ack)
    → IsAnswered mine c ack → IsPolled mine lengths
    → Reaches lengths ack → Acknowledged mine c
acknowledged_from mine c ack lengths h p reached = record {
  post = h.post;
  address = h.address;
  sent_bytes = h.sent_bytes;
  chunks = h.chunks;
  posted = h.posted;
  is_post = h.is_post;
  reply = h.reply;
  acks = h.acks;
  replied = h.replied;
  is_good = h.is_good;
  ack = ack;
  line = h.line;
  poll = p.poll;
  poll_address = p.address;
  poll_bytes = p.sent_bytes;
  stems = p.stems;
  polled = p.polled;
  is_poll = p.is_poll;
  poll_reply = p.reply;
  lengths = lengths;
  poll_replied = p.replied;
  is_good_poll = p.is_good;
  asked = p.asked;
  committed = reached;
}

pub acknowledged_more : (step : Step) (mine : List Step) (c : Chunk) → Acknowledged mine c
    → Acknowledged (step ∷ mine) c
acknowledged_more step mine c a = record {
  post = a.post;
  address = a.address;
  sent_bytes = a.sent_bytes;
  chunks = a.chunks;
  posted = sent_more step mine a.post a.address a.sent_bytes a.posted;
  is_post = a.is_post;
  reply = a.reply;
  acks = a.acks;
  replied = got_more step mine a.post a.reply a.replied;
  is_good = a.is_good;
  ack = a.ack;
  line = a.line;
  poll = a.poll;
  poll_address = a.poll_address;
  poll_bytes = a.poll_bytes;
  stems = a.stems;
  polled = sent_more step mine a.poll a.poll_address a.poll_bytes a.polled;
  is_poll = a.is_poll;
  poll_reply = a.poll_reply;
  lengths = a.lengths;
  poll_replied = got_more step mine a.poll a.poll_reply a.poll_replied;
  is_good_poll = a.is_good_poll;
  asked = a.asked;
  committed = a.committed;
}

-- ---- the checkpoint goes on

later_moves : (gs : List Generation) (a b : Option (List ℕ)) → MovesToLater a b → IsSuffixOf b gs
    → SuffixMoves gs a b
later_moves gs a None moves known = moves
later_moves gs a (Some suffix) (inl same) known = inl same
later_moves gs a (Some suffix) (inr on) known = inr (and_from (is_after a suffix) (has_generation suffix gs) on known)

pub may_follow : (who : Who) (old new : List Line) (history : History)
    → LinesGoOn who old new history → MayFollow who history old new
may_follow who old new history h = record {
  none_lost = h.none_lost;
  each = λ l c. line (stream_of who.name l) (find (is_line_of (stream_of who.name l)) old) l (h.each l c);
  is_true = λ l was c e. true_line (stream_of who.name l) (find (is_line_of (stream_of who.name l)) old) l was e (h.each l c);
}
  where
    line : (s : Stream) (o : Option Line) (l : Line)
        → GoesOnOrBegins (since_start who history) history s o l → LineMay who history s o l
    line s None l g = record { first = g.first; offset = g.offset; after = g.after }
    line s (Some was) l g = record {
      class = g.class;
      start = g.start;
      offset = g.offset;
      after = later_moves (logs_after history s.name).rotated was.after l.after g.after g.stands.suffix;
      acknowledged = g.acknowledged;
    }

    true_line : (s : Stream) (o : Option Line) (l was : Line) → o ≡ Some was
        → GoesOnOrBegins (since_start who history) history s o l → LineIsTrue history s l
    true_line s o l was e g = let k = subst (λ o. GoesOnOrBegins (since_start who history) history s o l) e g in
        record { place = k.stands.place; cut = k.stands.cut }

-- The agent's checkpoint is replaced by lines of which it knows that they go on from the old ones.
pub lines_written : (stamped : List (List ℕ)) (source : List ℕ) → IsTrue (is_source source)
    → (old new : List Line) (bytes : List ℕ)
    → read_checkpoint bytes ≡ Some new → (A : History → Type 0) → Stays stamped (record { role = Agent; name = source }) A
    → KeptByWrites stamped (record { role = Agent; name = source }) A
    → ((history : History) → A history → LinesGoOn (record { role = Agent; name = source }) old new history)
    → (name : List ℕ) → name ≡ spell (CheckFile source)
    → {result : Result (Unit {0}) OutsideFault} {before after : Option History}
    → MadeInTurn (replacement (record { role = Agent; name = source }) name bytes) result before after
    → Adds before after (Leads (As stamped (record { role = Agent; name = source }))
    (AtTold stamped (record { role = Agent; name = source }) (HasLines A source old))
    (AtTold stamped (record { role = Agent; name = source }) (WroteLines A source new result)))
lines_written stamped source known old new bytes is_read A stays kept go_on name e script =
    checkpoint_replaced stamped source known old new bytes is_read A stays kept
    (λ history legal lines a. may_follow (record { role = Agent; name = source }) old new history (go_on history a)) name e script

-- ---- the send

-- a chunk that stands, of a line of the checkpoint, may be sent
pub may_send : (who : Who) (history : History) (c : Chunk) (k : Line)
    → c.key.stream.source ≡ who.name
    → line_of (files_after history) c.key.stream ≡ Some k → ChunkStands history c
    → MaySendChunk who history c
may_send who history c k source there h = record {
  source = source;
  known = rw there refl;
  is_true = h.is_true;
  cut = h.cut;
}
