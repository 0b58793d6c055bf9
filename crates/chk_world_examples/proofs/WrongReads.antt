-- Reads of rotated generations that the agent's rule refuses, each beside one that differs in the one fact and is allowed.
use Rattle.std.proofs.Common.{ℕ, ◌+◌, ◌≤◌, List, Some, refl, sym, subst, true≢false, arith}
use Rattle.std.specs.Fmt.{digits}
use Rattle.std.specs.Str.{is_utf8, chars}
use lib.Utf8.{encode}
use Rattle.chk_bytes.specs.Words.{is_word}
use Rattle.chk_site.specs.Logs.{Past}
use Rattle.chk_site.specs.Acts.{ReadsLog}
use Rattle.chk_site.specs.History.{Step}
use Rattle.chk_world.specs.Names.{read, spell}
use Rattle.chk_world.specs.Checkpoints.{Line, read_checkpoint}
use Rattle.chk_world.specs.Agents.{IsAtOrPast, AgentRule, stream_of}
use Rattle.chk_world_examples.specs.Texts.{a1, path, stream}
use Rattle.chk_world_examples.proofs.ExampleMessages.{in_one}
use Rattle.chk_world_examples.specs.Agents.{day_7, day_8, day_9, between, on_day_9, rotated}

-- what is asked of a read past this suffix
of_line : (step : Step) (suffix : List ℕ) (at : ℕ) → AgentRule a1 rotated step (ReadsLog path (Past (Some suffix)) at 131072)
    → IsAtOrPast rotated stream (Past (Some suffix)) at on_day_9
unfolding read spell digits is_utf8 chars encode is_word read_checkpoint
of_line step suffix at r =
    subst (λ (l : Line). IsAtOrPast rotated (stream_of a1.name l) (Past (Some suffix)) at l)
    (sym (in_one on_day_9 r.1 (r.0, r.2, r.3))) r.4.1

-- not before the line's place in its generation
pub before_place : (step : Step) → AgentRule a1 rotated step (ReadsLog path (Past (Some day_8)) 1 131072) → ⊥
unfolding read spell digits is_utf8 chars encode is_word read_checkpoint
before_place step r = let z : 12 ≤ 0 + (10 + 1) = (of_line step day_8 1 r).2 in omega arith

pub at_place : (step : Step) → AgentRule a1 rotated step (ReadsLog path (Past (Some day_8)) 2 131072)
unfolding read spell digits is_utf8 chars encode is_word read_checkpoint
at_place step = (0, on_day_9, omega arith, refl, (refl, (refl, refl, omega arith)))

-- nor past an earlier suffix
pub past_earlier : (step : Step) → AgentRule a1 rotated step (ReadsLog path (Past (Some day_7)) 12 131072) → ⊥
unfolding read spell digits is_utf8 chars encode is_word read_checkpoint
past_earlier step r = true≢false (sym (of_line step day_7 12 r).1)

pub past_later : (step : Step) → AgentRule a1 rotated step (ReadsLog path (Past (Some day_9)) 0 131072)
unfolding read spell digits is_utf8 chars encode is_word read_checkpoint
past_later step = (0, on_day_9, omega arith, refl, (refl, (refl, refl, omega arith)))

-- a later text that is no generation's doesn't allow an earlier place
pub past_no_generation : (step : Step) → AgentRule a1 rotated step (ReadsLog path (Past (Some between)) 0 131072) → ⊥
unfolding read spell digits is_utf8 chars encode is_word read_checkpoint
past_no_generation step r = let z : 12 ≤ 0 + (10 + 0) = (of_line step between 0 r).2 in omega arith

pub at_place_past_it : (step : Step) → AgentRule a1 rotated step (ReadsLog path (Past (Some between)) 2 131072)
unfolding read spell digits is_utf8 chars encode is_word read_checkpoint
at_place_past_it step = (0, on_day_9, omega arith, refl, (refl, (refl, refl, omega arith)))
