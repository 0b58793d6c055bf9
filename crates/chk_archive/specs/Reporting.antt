-- What the struct of a report stands for.
use Rattle.std.specs.Prelude.{map, Result, Ok, Err}
use Rattle.chk_record_index.specs.declared.fault.JobFault.{JobFault}
use Rattle.chk_book.specs.Views.{end_view}
use Rattle.chk_archive.specs.Reports.{Report}
use Rattle.chk_archive.specs.declared.report.Report.{Report as Struct}

abbrev pub report_view : Struct → Report
report_view r = record {
  unclosed = r.unclosed;
  first_unclosed = r.first_unclosed;
  taken = r.taken;
  held = r.held;
  removed = r.removed;
  ends = map end_view r.ends;
}

abbrev pub report_result : Result Struct JobFault → Result Report JobFault
report_result (Ok r) = Ok (report_view r)
report_result (Err fault) = Err fault
