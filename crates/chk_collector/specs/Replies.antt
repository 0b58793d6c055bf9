-- The reply by what came of the sinks' calls.
use Rattle.std.specs.Prelude.{◌≡◌, ◌⊎◌, ℕ, ◌≤◌, List, Result, Ok, Err}
use Rattle.chk_site.specs.Site.{Rose}
use Rattle.chk_http_grammar.specs.Messages.{written_reply}
use Rattle.chk_http.specs.Written.{phrase_of}
use Rattle.chk_sink.specs.declared.fault.SinkFault.{SinkFault}
use Rattle.chk_sink.specs.declared.fault.SinkFault.TheVariants.{NoMemory}
use Rattle.chk_collector.specs.Outcomes.{line, sink_fault_text}

-- its code
abbrev pub code_by : Result (Unit {0}) SinkFault → ℕ
code_by (Ok value) = 200
code_by (Err fault) = 503

-- its body, where the lines are these
abbrev pub body_by : Result (Unit {0}) SinkFault → List ℕ → List ℕ
body_by (Ok value) lines = lines
body_by (Err fault) lines = line (sink_fault_text fault)

-- want of memory is told by no reply
abbrev pub IsTold : Result (Unit {0}) SinkFault → Type 0
IsTold (Err NoMemory) = ⊥
IsTold done = Unit {0}

-- the reply is that of what was done, where the lines are these
pub record IsReplyBy (done : Result (Unit {0}) SinkFault) (lines bytes : List ℕ) : Type 0 where
  pub told : IsTold done
  pub is : bytes ≡ written_reply (code_by done) (phrase_of (code_by done)) (body_by done lines)

-- the count of faults is as it was, or a call failed for whose line there was no memory
abbrev pub MayHaveRisen : ℕ → ℕ → Type 0
MayHaveRisen before now = (now ≡ before) ⊎ (Rose before now × (before ≤ now))
