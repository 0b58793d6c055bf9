use Rattle.std.proofs.Common.{◌≡◌, ◌++◌, drop}
use Rattle.std.specs.Prelude.{flat_map, string_bytes}
use Rattle.chk_ctl_status_rows.specs.Lines.{sink_line}
use Rattle.chk_ctl_status_rows.proofs.lines.sink_lines.Given as goal

abbrev pub invariant-loop-sink : goal.invariant-loop-sink
invariant-loop-sink l =
    string_bytes l.text ++ flat_map sink_line (drop l.sink-index l.sinks)
    ≡ flat_map sink_line l.sinks
