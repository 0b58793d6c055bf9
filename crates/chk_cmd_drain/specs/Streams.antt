-- The lines of the streams that a drain has read.
use Rattle.std.specs.Prelude.{◌≡◌, ℕ, List, [], ◌∷◌, if◌then◌else◌, slice_get, Option, Some, None}
use Rattle.chk_agent_adaptor.specs.Adaptors.{Adaptor, is_past}
use Rattle.chk_agent.specs.States.{State, committed_at}
use Rattle.chk_cmd_line.specs.Lines.{stream_line}

-- the line of an adaptor's stream that is committed up to this offset
abbrev pub line_of_stream : List ℕ → ℕ → Option Adaptor → List ℕ
line_of_stream source end None = []
line_of_stream source end (Some a) = stream_line source a.kind a.path end

-- the line of the adaptor of this number
abbrev pub told_line : State → ℕ → List ℕ
told_line s i = line_of_stream s.source (committed_at s i) (slice_get s.adaptors i)

-- the number of an adaptor that isn't past
abbrev pub live_here : ℕ → Adaptor → List ℕ
live_here i a = if is_past a.phase then [] else i ∷ []

-- the path of the adaptor of this number
abbrev pub IsPathAt : State → ℕ → List ℕ → Type 0
IsPathAt s i path = (a : Adaptor) × (slice_get s.adaptors i ≡ Some a) × (path ≡ a.path)
