-- The lines of a reply to a post are of sinks of the collector's start.
use Rattle.std.proofs.Common.{ℕ, ◌<◌, ◌^◌, List, [], ◌∷◌, ◌++◌, sym, ap, ◌∙◌}
use Rattle.std.specs.Prelude.{IsTrue}
use Rattle.chk_bytes.specs.Stems.{Stem, is_stem}
use Rattle.chk_http_grammar.specs.Messages.{Ack, ack_of, PollRequest}
use Rattle.chk_http_grammar.proofs.Accepted.{never_both}
use Rattle.chk_sink.specs.Puts.{IsPlaced}
use Rattle.chk_sink.specs.States.{IsSameStart, State}
use Rattle.chk_collector.specs.OwnLines.{AreOfStart, IsOfStart}
use Rattle.chk_collector.specs.Outcomes.{Lines, OutcomeOfStart}

-- the state goes on
of_later : (s t : State) (acks : List Ack) → IsSameStart s t → AreOfStart s acks → AreOfStart t acks
of_later s t [] same all = tt
of_later s t (a ∷ acks) same all = (
  record {
    collector = all.0.collector ∙ sym same.collector;
    born = all.0.born ∙ sym same.born;
    stem = all.0.stem;
    wide = all.0.wide;
  },
  of_later s t acks same all.1,
)

more : (s : State) (acks : List Ack) (a : Ack) → AreOfStart s acks → IsOfStart s a → AreOfStart s (acks ++ a ∷ [])
more s [] a all one = (one, tt)
more s (b ∷ acks) a all one = (all.0, more s acks a all.1 one)

-- one more line, of the chunk that was put last
pub of_start_more : (s t : State) (acks : List Ack) (x : Stem) (n : ℕ) → IsSameStart s t → AreOfStart s acks
    → IsPlaced t (x, n) → IsTrue (is_stem x) → n < 2 ^ 64 → AreOfStart t (acks ++ ack_of x n ∷ [])
of_start_more s t acks x n same all placed stem wide =
    more t acks (ack_of x n) (of_later s t acks same all)
    (record {
      collector = ap (λ (y : Stem). y.collector) placed.0;
      born = ap (λ (y : Stem). y.born) placed.0;
      stem = stem;
      wide = wide;
    })

-- a poll is no post
pub poll_of_start : (request : List ℕ) (s : State) (acks : List Ack) (stems : List Stem) → PollRequest stems request
    → OutcomeOfStart request s (Lines acks)
poll_of_start request s acks stems poll chunks post =
    absurd (never_both post.0 stems request post.1 poll)
