-- The ends that a collector named in its good replies to posts, and what becomes of them.
use Rattle.std.specs.Prelude.{◌≡◌, ◌⊎◌, ℕ, ◌≤◌, Bool, false, ◌&&◌, ◌||◌, nat_lt, IsTrue, List, [], ◌∷◌, length, Contains, Some}
use Rattle.chk_bytes.specs.Stems.{Stem, is_stem, same_stem}
use Rattle.chk_site.specs.declared.acts.Role.TheVariants.{Collector}
use Rattle.chk_site.specs.declared.acts.Who.{Who}
use Rattle.chk_site.specs.declared.acts.ActAnswer.{ActAnswer}
use Rattle.chk_site.specs.declared.acts.ActAnswer.TheVariants.{Stopped}
use Rattle.chk_site.specs.Files.{Files}
use Rattle.chk_site.specs.Acts.{Deed, Removes, Cuts, Answers, deed}
use Rattle.chk_site.specs.History.{Step, History, Ever, files_after, is_by}
use Rattle.chk_chunk.specs.Keys.{Chunk}
use Rattle.chk_http_grammar.specs.Messages.{Ack, IsPostOf, IsGoodReply}
use Rattle.chk_world.specs.Names.{Name, SinkFile, read, file, stop_names}
use Rattle.chk_world.specs.Committed.{OnFile, committed_length}
use Rattle.chk_world.specs.Collectors.{Handling, handling_of, view}
use Rattle.chk_world.specs.Rules.{Legal}
use Rattle.chk_world.specs.Laws.{collector, wrote}
use Rattle.chk_world.specs.DoneSinks.{IsGone}

-- the step is a good reply of this process to a post that it took, and this is one of its lines
pub record NamesEnd (who : Who) (history : History) (step : Step) (a : Ack) : Type 0 where
  pub by : step.act.who ≡ who
  pub taking : ℕ
  pub reply : List ℕ
  pub call : deed step.act ≡ Answers taking reply
  pub message : Handling
  pub taken : handling_of taking (view who history).handled ≡ Some message
  pub chunks : List Chunk
  pub post : IsPostOf chunks message.bytes
  pub acks : List Ack
  pub is_good : IsGoodReply acks reply
  pub one : Contains acks a

-- one of its replies had this line
abbrev pub HasNamed : Who → History → Ack → Type 0
HasNamed who [] a = ⊥
HasNamed who (step ∷ history) a = NamesEnd who history step a ⊎ HasNamed who history a

-- the file is the sink under writing of this stem
abbrev pub is_sink_of : Stem → Name → Bool
is_sink_of x (SinkFile y) = same_stem x y
is_sink_of x n = false

-- the call cuts or removes the sink under writing
abbrev pub cuts_sink : Stem → Deed → Bool
cuts_sink x (Cuts w n) = is_sink_of x (read w)
cuts_sink x (Removes w) = is_sink_of x (read w)
cuts_sink x call = false

-- the answer is a stop of the process, or one that names a file of it
abbrev pub stops : Who → Bool → ActAnswer → Bool
stops who own (Stopped left) = own || stop_names who left
stops who own answer = false

-- the step may lose bytes of the sink: it cuts or removes it, or is a stop of its collector or of
-- files of that
abbrev pub gives_up : Stem → Step → Bool
gives_up x step = stops (collector x) (is_by (collector x) step) step.act.answer || cuts_sink x (deed step.act)

-- such a step came when something had been written to the sink
abbrev pub gave_up : Stem → History → Bool
gave_up x [] = false
gave_up x (step ∷ history) = (nat_lt 0 (length (wrote x history)) && gives_up x step) || gave_up x history

-- all of each sink under writing of this collector is committed, as it is after a tick that was
-- done
abbrev pub IsAllCommitted : List ℕ → Files → Type 0
IsAllCommitted name files =
    (x : Stem) → IsTrue (is_stem x) → x.collector ≡ name
    → OnFile (file files (SinkFile x)) (λ f. committed_length files x ≡ length f.bytes)

-- the sink's committed length is this end or more; or it was, and the job has removed the done sink
-- since
abbrev pub IsReached : History → Ack → Type 0
IsReached history a =
    (a.number ≤ committed_length (files_after history) a.stem)
    ⊎ (Ever (λ front. a.number ≤ committed_length (files_after front) a.stem) history × IsGone history a.stem)

-- Where all of each sink under writing is committed, each end that the collector named is, but for
-- sinks that were given up.
abbrev pub NamedEndsAreCommitted : Type 0
NamedEndsAreCommitted =
    (stamped : List (List ℕ)) (history : History) → Legal stamped history → (who : Who)
    → who.role ≡ Collector
    → IsAllCommitted who.name (files_after history) → (a : Ack) → HasNamed who history a
    → IsReached history a ⊎ IsTrue (gave_up a.stem history)
