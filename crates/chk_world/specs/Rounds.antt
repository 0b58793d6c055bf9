-- A round of a stream: what was read is acknowledged, and then one run of the archive job takes it.
use Rattle.std.specs.Prelude.{◌≡◌, ℕ, ◌≤◌, IsTrue, List, ◌++◌, Contains}
use Rattle.chk_site.specs.Acts.{Sends, deed}
use Rattle.chk_site.specs.History.{Step, History, files_after}
use Rattle.chk_chunk.specs.Keys.{Stream, Chunk, is_of, chunk_end}
use Rattle.chk_http_grammar.specs.Messages.{WrittenPost}
use Rattle.chk_world.specs.Checkpoints.{checkpoint_of}
use Rattle.chk_world.specs.Streams.{whole_log, whole_end}
use Rattle.chk_world.specs.Committed.{archive_of_stream}
use Rattle.chk_world.specs.Rules.{Legal}
use Rattle.chk_world.specs.Laws.{IsComplete, agent_of}

-- what the agent of a stream sends of it in this step ends at this offset or before it
abbrev pub SendsNonePast : Stream → ℕ → Step → Type 0
SendsNonePast s end step =
    step.act.who ≡ agent_of s
    → (m : ℕ) (address bytes : List ℕ) → deed step.act ≡ Sends m address bytes
    → (chunks : List Chunk) → WrittenPost address chunks bytes
    → (c : Chunk) → Contains chunks c → IsTrue (is_of s c) → chunk_end c ≤ end

-- a round of s: its checkpoint has come to the whole log at `read`; its agent sends nothing past that; then the
-- job lists no sink under writing, and that run is complete
pub record HoldsRound (history : History) (s : Stream) : Type 0 where
  pub read : History
  pub till_checkpoint : History
  pub till_listing : History
  pub till_end : History
  pub is : history ≡ till_end ++ (till_listing ++ (till_checkpoint ++ read))
  pub checkpointed : checkpoint_of (files_after (till_checkpoint ++ read)) s ≡ whole_end read s
  pub no_more : (step : Step) → Contains (till_end ++ (till_listing ++ till_checkpoint)) step
      → SendsNonePast s (whole_end read s) step
  pub names : List (List ℕ)
  pub run : IsComplete history (record { names = names; upto = till_listing ++ (till_checkpoint ++ read) })

-- after a round the archive is the whole log that was read
abbrev pub RoundsAreWhole : Type 0
RoundsAreWhole =
    (stamped : List (List ℕ)) (history : History) → Legal stamped history → (s : Stream) (r : HoldsRound history s)
    → archive_of_stream (files_after history) s ≡ whole_log r.read s
