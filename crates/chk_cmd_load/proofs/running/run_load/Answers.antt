use Rattle.std.proofs.lemmas.Result.{err_from_is_err_and}
use Rattle.chk_cmd_load.specs.Loads.{summary_line}
use Rattle.chk_cmd_load.proofs.LoadClauses.{cut_end, done_end, outside_ends, round_end, round_ends, done_so, unclosed_so, unclosed_end, unsaid_end}
use Rattle.chk_cmd_load.proofs.running.run_load.Goals as goal

pub returns-in_err-bytes-clause-told : goal.returns-in_err-bytes-clause-told
returns-in_err-bytes-clause-told g c stamped started acting run =
    let p = err_from_is_err_and c.from_residual-in_err-bytes.result c.from_residual-in_err-bytes.ensures.1 in
    rw (p.1, p.2)
    ((cut_end c.args.lines c.in_ok-writer.writer c.in_ok-writer.ensures c.in_err-bytes.field-0.0 c.in_err-bytes.ensures.writes).told stamped started acting run)

pub returns-in_err-bytes-clause-appends : goal.returns-in_err-bytes-clause-appends
returns-in_err-bytes-clause-appends g c =
    let p = err_from_is_err_and c.from_residual-in_err-bytes.result c.from_residual-in_err-bytes.ensures.1 in
    rw (p.1, p.2)
    ((cut_end c.args.lines c.in_ok-writer.writer c.in_ok-writer.ensures c.in_err-bytes.field-0.0 c.in_err-bytes.ensures.writes).appends)

pub returns-in_err-bytes-clause-own : goal.returns-in_err-bytes-clause-own
returns-in_err-bytes-clause-own g c =
    (cut_end c.args.lines c.in_ok-writer.writer c.in_ok-writer.ensures c.in_err-bytes.field-0.0 c.in_err-bytes.ensures.writes).own

pub returns-in_err-bytes-clause-prints : goal.returns-in_err-bytes-clause-prints
returns-in_err-bytes-clause-prints g c =
    let p = err_from_is_err_and c.from_residual-in_err-bytes.result c.from_residual-in_err-bytes.ensures.1 in
    rw (p.1, p.2)
    ((cut_end c.args.lines c.in_ok-writer.writer c.in_ok-writer.ensures c.in_err-bytes.field-0.0 c.in_err-bytes.ensures.writes).prints)

pub returns-in_err-bytes-clause-runs : goal.returns-in_err-bytes-clause-runs
returns-in_err-bytes-clause-runs g c =
    let p = err_from_is_err_and c.from_residual-in_err-bytes.result c.from_residual-in_err-bytes.ensures.1 in
    rw (p.1, p.2)
    ((cut_end c.args.lines c.in_ok-writer.writer c.in_ok-writer.ensures c.in_err-bytes.field-0.0 c.in_err-bytes.ensures.writes).runs)

pub returns-in_err-bytes-clause-last : goal.returns-in_err-bytes-clause-last
returns-in_err-bytes-clause-last g c =
    let p = err_from_is_err_and c.from_residual-in_err-bytes.result c.from_residual-in_err-bytes.ensures.1 in
    rw (p.1, p.2)
    ((cut_end c.args.lines c.in_ok-writer.writer c.in_ok-writer.ensures c.in_err-bytes.field-0.0 c.in_err-bytes.ensures.writes).last)

pub returns-in_err-rounded-clause-told : goal.returns-in_err-rounded-clause-told
returns-in_err-rounded-clause-told g c stamped started acting run =
    let p = err_from_is_err_and c.from_residual-in_err-rounded.result c.from_residual-in_err-rounded.ensures.1 in
    rw (p.1, p.2)
    ((round_end c.args.lines c.in_ok-writer.writer c.in_ok-writer.ensures c.in_ok-bytes.bytes c.in_ok-bytes.ensures.writes
    c.in_ok-words.words c.in_ok-words.ensures c.in_err-rounded.field-0.0
    c.in_err-rounded.ensures.told c.round.ensures.acts).told stamped started acting run)

pub returns-in_err-rounded-clause-appends : goal.returns-in_err-rounded-clause-appends
returns-in_err-rounded-clause-appends g c =
    let p = err_from_is_err_and c.from_residual-in_err-rounded.result c.from_residual-in_err-rounded.ensures.1 in
    rw (p.1, p.2)
    ((round_end c.args.lines c.in_ok-writer.writer c.in_ok-writer.ensures c.in_ok-bytes.bytes c.in_ok-bytes.ensures.writes
    c.in_ok-words.words c.in_ok-words.ensures c.in_err-rounded.field-0.0
    c.in_err-rounded.ensures.told c.round.ensures.acts).appends)

pub returns-in_err-rounded-clause-own : goal.returns-in_err-rounded-clause-own
returns-in_err-rounded-clause-own g c =
    (round_end c.args.lines c.in_ok-writer.writer c.in_ok-writer.ensures c.in_ok-bytes.bytes c.in_ok-bytes.ensures.writes
    c.in_ok-words.words c.in_ok-words.ensures c.in_err-rounded.field-0.0
    c.in_err-rounded.ensures.told c.round.ensures.acts).own

pub returns-in_err-rounded-clause-prints : goal.returns-in_err-rounded-clause-prints
returns-in_err-rounded-clause-prints g c =
    let p = err_from_is_err_and c.from_residual-in_err-rounded.result c.from_residual-in_err-rounded.ensures.1 in
    rw (p.1, p.2)
    ((round_end c.args.lines c.in_ok-writer.writer c.in_ok-writer.ensures c.in_ok-bytes.bytes c.in_ok-bytes.ensures.writes
    c.in_ok-words.words c.in_ok-words.ensures c.in_err-rounded.field-0.0
    c.in_err-rounded.ensures.told c.round.ensures.acts).prints)

pub returns-in_err-rounded-clause-runs : goal.returns-in_err-rounded-clause-runs
returns-in_err-rounded-clause-runs g c =
    let p = err_from_is_err_and c.from_residual-in_err-rounded.result c.from_residual-in_err-rounded.ensures.1 in
    rw (p.1, p.2)
    ((round_end c.args.lines c.in_ok-writer.writer c.in_ok-writer.ensures c.in_ok-bytes.bytes c.in_ok-bytes.ensures.writes
    c.in_ok-words.words c.in_ok-words.ensures c.in_err-rounded.field-0.0
    c.in_err-rounded.ensures.told c.round.ensures.acts).runs)

pub returns-in_err-rounded-clause-last : goal.returns-in_err-rounded-clause-last
returns-in_err-rounded-clause-last g c =
    let p = err_from_is_err_and c.from_residual-in_err-rounded.result c.from_residual-in_err-rounded.ensures.1 in
    rw (p.1, p.2)
    ((round_end c.args.lines c.in_ok-writer.writer c.in_ok-writer.ensures c.in_ok-bytes.bytes c.in_ok-bytes.ensures.writes
    c.in_ok-words.words c.in_ok-words.ensures c.in_err-rounded.field-0.0
    c.in_err-rounded.ensures.told c.round.ensures.acts).last)

pub returns-in_err-report-clause-told : goal.returns-in_err-report-clause-told
returns-in_err-report-clause-told g c stamped started acting run =
    let p = err_from_is_err_and c.from_residual-in_err-report.result c.from_residual-in_err-report.ensures.1 in
    rw (p.1, p.2)
    ((unclosed_end c.args.lines c.in_ok-writer.writer c.in_ok-writer.ensures c.in_ok-bytes.bytes c.in_ok-bytes.ensures.writes
    c.in_ok-words.words c.in_ok-words.ensures c.in_ok-rounded.rounded c.in_ok-rounded.ensures.told
    c.round.ensures.acts c.in_ok-rounded.ensures.live c.in_ok-rounded.ensures.cluster
    c.in_err-report.field-0.0 c.in_err-report.ensures).told stamped started acting run)

pub returns-in_err-report-clause-appends : goal.returns-in_err-report-clause-appends
returns-in_err-report-clause-appends g c =
    let p = err_from_is_err_and c.from_residual-in_err-report.result c.from_residual-in_err-report.ensures.1 in
    rw (p.1, p.2)
    ((unclosed_end c.args.lines c.in_ok-writer.writer c.in_ok-writer.ensures c.in_ok-bytes.bytes c.in_ok-bytes.ensures.writes
    c.in_ok-words.words c.in_ok-words.ensures c.in_ok-rounded.rounded c.in_ok-rounded.ensures.told
    c.round.ensures.acts c.in_ok-rounded.ensures.live c.in_ok-rounded.ensures.cluster
    c.in_err-report.field-0.0 c.in_err-report.ensures).appends)

pub returns-in_err-report-clause-own : goal.returns-in_err-report-clause-own
returns-in_err-report-clause-own g c =
    (unclosed_end c.args.lines c.in_ok-writer.writer c.in_ok-writer.ensures c.in_ok-bytes.bytes c.in_ok-bytes.ensures.writes
    c.in_ok-words.words c.in_ok-words.ensures c.in_ok-rounded.rounded c.in_ok-rounded.ensures.told
    c.round.ensures.acts c.in_ok-rounded.ensures.live c.in_ok-rounded.ensures.cluster
    c.in_err-report.field-0.0 c.in_err-report.ensures).own

pub returns-in_err-report-clause-prints : goal.returns-in_err-report-clause-prints
returns-in_err-report-clause-prints g c =
    let p = err_from_is_err_and c.from_residual-in_err-report.result c.from_residual-in_err-report.ensures.1 in
    rw (p.1, p.2)
    ((unclosed_end c.args.lines c.in_ok-writer.writer c.in_ok-writer.ensures c.in_ok-bytes.bytes c.in_ok-bytes.ensures.writes
    c.in_ok-words.words c.in_ok-words.ensures c.in_ok-rounded.rounded c.in_ok-rounded.ensures.told
    c.round.ensures.acts c.in_ok-rounded.ensures.live c.in_ok-rounded.ensures.cluster
    c.in_err-report.field-0.0 c.in_err-report.ensures).prints)

pub returns-in_err-report-clause-runs : goal.returns-in_err-report-clause-runs
returns-in_err-report-clause-runs g c =
    let p = err_from_is_err_and c.from_residual-in_err-report.result c.from_residual-in_err-report.ensures.1 in
    rw (p.1, p.2)
    ((unclosed_end c.args.lines c.in_ok-writer.writer c.in_ok-writer.ensures c.in_ok-bytes.bytes c.in_ok-bytes.ensures.writes
    c.in_ok-words.words c.in_ok-words.ensures c.in_ok-rounded.rounded c.in_ok-rounded.ensures.told
    c.round.ensures.acts c.in_ok-rounded.ensures.live c.in_ok-rounded.ensures.cluster
    c.in_err-report.field-0.0 c.in_err-report.ensures).runs)

pub returns-in_err-report-clause-last : goal.returns-in_err-report-clause-last
returns-in_err-report-clause-last g c =
    let p = err_from_is_err_and c.from_residual-in_err-report.result c.from_residual-in_err-report.ensures.1 in
    rw (p.1, p.2)
    ((unclosed_end c.args.lines c.in_ok-writer.writer c.in_ok-writer.ensures c.in_ok-bytes.bytes c.in_ok-bytes.ensures.writes
    c.in_ok-words.words c.in_ok-words.ensures c.in_ok-rounded.rounded c.in_ok-rounded.ensures.told
    c.round.ensures.acts c.in_ok-rounded.ensures.live c.in_ok-rounded.ensures.cluster
    c.in_err-report.field-0.0 c.in_err-report.ensures).last)

pub returns-in_err-tell-clause-told : goal.returns-in_err-tell-clause-told
returns-in_err-tell-clause-told g c stamped started acting run =
    let p = err_from_is_err_and c.from_residual-in_err-tell.result c.from_residual-in_err-tell.ensures.1 in
    rw (p.1, p.2)
    ((unsaid_end c.args.lines c.in_ok-writer.writer c.in_ok-writer.ensures c.in_ok-bytes.bytes c.in_ok-bytes.ensures.writes
    c.in_ok-words.words c.in_ok-words.ensures c.in_ok-rounded.rounded c.in_ok-rounded.ensures.told
    c.round.ensures.acts c.in_ok-rounded.ensures.live c.in_ok-rounded.ensures.cluster
    (summary_line c.in_ok-report.report) c.in_err-tell.field-0.0 c.in_err-tell.ensures.says).told stamped started acting run)

pub returns-in_err-tell-clause-appends : goal.returns-in_err-tell-clause-appends
returns-in_err-tell-clause-appends g c =
    let p = err_from_is_err_and c.from_residual-in_err-tell.result c.from_residual-in_err-tell.ensures.1 in
    rw (p.1, p.2)
    ((unsaid_end c.args.lines c.in_ok-writer.writer c.in_ok-writer.ensures c.in_ok-bytes.bytes c.in_ok-bytes.ensures.writes
    c.in_ok-words.words c.in_ok-words.ensures c.in_ok-rounded.rounded c.in_ok-rounded.ensures.told
    c.round.ensures.acts c.in_ok-rounded.ensures.live c.in_ok-rounded.ensures.cluster
    (summary_line c.in_ok-report.report) c.in_err-tell.field-0.0 c.in_err-tell.ensures.says).appends)

pub returns-in_err-tell-clause-own : goal.returns-in_err-tell-clause-own
returns-in_err-tell-clause-own g c =
    (unsaid_end c.args.lines c.in_ok-writer.writer c.in_ok-writer.ensures c.in_ok-bytes.bytes c.in_ok-bytes.ensures.writes
    c.in_ok-words.words c.in_ok-words.ensures c.in_ok-rounded.rounded c.in_ok-rounded.ensures.told
    c.round.ensures.acts c.in_ok-rounded.ensures.live c.in_ok-rounded.ensures.cluster
    (summary_line c.in_ok-report.report) c.in_err-tell.field-0.0 c.in_err-tell.ensures.says).own

pub returns-in_err-tell-clause-prints : goal.returns-in_err-tell-clause-prints
returns-in_err-tell-clause-prints g c =
    let p = err_from_is_err_and c.from_residual-in_err-tell.result c.from_residual-in_err-tell.ensures.1 in
    rw (p.1, p.2)
    ((unsaid_end c.args.lines c.in_ok-writer.writer c.in_ok-writer.ensures c.in_ok-bytes.bytes c.in_ok-bytes.ensures.writes
    c.in_ok-words.words c.in_ok-words.ensures c.in_ok-rounded.rounded c.in_ok-rounded.ensures.told
    c.round.ensures.acts c.in_ok-rounded.ensures.live c.in_ok-rounded.ensures.cluster
    (summary_line c.in_ok-report.report) c.in_err-tell.field-0.0 c.in_err-tell.ensures.says).prints)

pub returns-in_err-tell-clause-runs : goal.returns-in_err-tell-clause-runs
returns-in_err-tell-clause-runs g c =
    let p = err_from_is_err_and c.from_residual-in_err-tell.result c.from_residual-in_err-tell.ensures.1 in
    rw (p.1, p.2)
    ((unsaid_end c.args.lines c.in_ok-writer.writer c.in_ok-writer.ensures c.in_ok-bytes.bytes c.in_ok-bytes.ensures.writes
    c.in_ok-words.words c.in_ok-words.ensures c.in_ok-rounded.rounded c.in_ok-rounded.ensures.told
    c.round.ensures.acts c.in_ok-rounded.ensures.live c.in_ok-rounded.ensures.cluster
    (summary_line c.in_ok-report.report) c.in_err-tell.field-0.0 c.in_err-tell.ensures.says).runs)

pub returns-in_err-tell-clause-last : goal.returns-in_err-tell-clause-last
returns-in_err-tell-clause-last g c =
    let p = err_from_is_err_and c.from_residual-in_err-tell.result c.from_residual-in_err-tell.ensures.1 in
    rw (p.1, p.2)
    ((unsaid_end c.args.lines c.in_ok-writer.writer c.in_ok-writer.ensures c.in_ok-bytes.bytes c.in_ok-bytes.ensures.writes
    c.in_ok-words.words c.in_ok-words.ensures c.in_ok-rounded.rounded c.in_ok-rounded.ensures.told
    c.round.ensures.acts c.in_ok-rounded.ensures.live c.in_ok-rounded.ensures.cluster
    (summary_line c.in_ok-report.report) c.in_err-tell.field-0.0 c.in_err-tell.ensures.says).last)

pub returns-clause-told : goal.returns-clause-told
returns-clause-told g c stamped started acting run =
    (done_end c.args.lines c.in_ok-writer.writer c.in_ok-writer.ensures c.in_ok-bytes.bytes c.in_ok-bytes.ensures.writes
    c.in_ok-words.words c.in_ok-words.ensures c.in_ok-rounded.rounded c.in_ok-rounded.ensures.told
    c.round.ensures.acts c.in_ok-rounded.ensures.live c.in_ok-rounded.ensures.cluster
    c.in_ok-report.report c.in_ok-report.ensures c.in_ok-tell.ensures.says).told stamped started acting run

pub returns-clause-appends : goal.returns-clause-appends
returns-clause-appends g c =
    (done_end c.args.lines c.in_ok-writer.writer c.in_ok-writer.ensures c.in_ok-bytes.bytes c.in_ok-bytes.ensures.writes
    c.in_ok-words.words c.in_ok-words.ensures c.in_ok-rounded.rounded c.in_ok-rounded.ensures.told
    c.round.ensures.acts c.in_ok-rounded.ensures.live c.in_ok-rounded.ensures.cluster
    c.in_ok-report.report c.in_ok-report.ensures c.in_ok-tell.ensures.says).appends

pub returns-clause-own : goal.returns-clause-own
returns-clause-own g c =
    (done_end c.args.lines c.in_ok-writer.writer c.in_ok-writer.ensures c.in_ok-bytes.bytes c.in_ok-bytes.ensures.writes
    c.in_ok-words.words c.in_ok-words.ensures c.in_ok-rounded.rounded c.in_ok-rounded.ensures.told
    c.round.ensures.acts c.in_ok-rounded.ensures.live c.in_ok-rounded.ensures.cluster
    c.in_ok-report.report c.in_ok-report.ensures c.in_ok-tell.ensures.says).own

pub returns-clause-prints : goal.returns-clause-prints
returns-clause-prints g c =
    (done_end c.args.lines c.in_ok-writer.writer c.in_ok-writer.ensures c.in_ok-bytes.bytes c.in_ok-bytes.ensures.writes
    c.in_ok-words.words c.in_ok-words.ensures c.in_ok-rounded.rounded c.in_ok-rounded.ensures.told
    c.round.ensures.acts c.in_ok-rounded.ensures.live c.in_ok-rounded.ensures.cluster
    c.in_ok-report.report c.in_ok-report.ensures c.in_ok-tell.ensures.says).prints

pub returns-clause-runs : goal.returns-clause-runs
returns-clause-runs g c =
    (done_end c.args.lines c.in_ok-writer.writer c.in_ok-writer.ensures c.in_ok-bytes.bytes c.in_ok-bytes.ensures.writes
    c.in_ok-words.words c.in_ok-words.ensures c.in_ok-rounded.rounded c.in_ok-rounded.ensures.told
    c.round.ensures.acts c.in_ok-rounded.ensures.live c.in_ok-rounded.ensures.cluster
    c.in_ok-report.report c.in_ok-report.ensures c.in_ok-tell.ensures.says).runs

pub returns-clause-last : goal.returns-clause-last
returns-clause-last g c =
    (done_end c.args.lines c.in_ok-writer.writer c.in_ok-writer.ensures c.in_ok-bytes.bytes c.in_ok-bytes.ensures.writes
    c.in_ok-words.words c.in_ok-words.ensures c.in_ok-rounded.rounded c.in_ok-rounded.ensures.told
    c.round.ensures.acts c.in_ok-rounded.ensures.live c.in_ok-rounded.ensures.cluster
    c.in_ok-report.report c.in_ok-report.ensures c.in_ok-tell.ensures.says).last

pub returns-in_err-bytes-clause-round : goal.returns-in_err-bytes-clause-round
returns-in_err-bytes-clause-round g c =
    let p = err_from_is_err_and c.from_residual-in_err-bytes.result c.from_residual-in_err-bytes.ensures.1 in
    rw (p.1, p.2) (outside_ends c.args.lines c.in_err-bytes.field-0.0 _ _)

pub returns-in_err-rounded-clause-round : goal.returns-in_err-rounded-clause-round
returns-in_err-rounded-clause-round g c =
    let p = err_from_is_err_and c.from_residual-in_err-rounded.result c.from_residual-in_err-rounded.ensures.1 in
    let s = c.in_err-rounded.ensures in
    rw (p.1, p.2)
    (round_ends c.args.lines c.in_ok-writer.writer c.in_ok-writer.ensures c.in_ok-bytes.bytes c.in_ok-bytes.ensures.writes
    c.in_ok-words.words c.in_ok-words.ensures c.in_err-rounded.field-0.0
    (record { script = s.script; shown = s.shown; last = s.last; acts = c.round.ensures.acts }))

pub returns-in_err-report-clause-round : goal.returns-in_err-report-clause-round
returns-in_err-report-clause-round g c =
    let p = err_from_is_err_and c.from_residual-in_err-report.result c.from_residual-in_err-report.ensures.1 in
    rw (p.1, p.2)
    (unclosed_so c.args.lines c.in_ok-writer.writer c.in_ok-writer.ensures c.in_ok-bytes.bytes
    c.in_ok-bytes.ensures.writes c.in_ok-words.words c.in_ok-words.ensures c.in_ok-rounded.rounded
    (record {
      told = c.in_ok-rounded.ensures.told;
      reads = c.in_ok-rounded.ensures.reads;
      stays = c.in_ok-rounded.ensures.stays;
      live = c.in_ok-rounded.ensures.live;
      acts = c.round.ensures.acts;
    }) c.in_err-report.field-0.0 c.in_err-report.ensures)

pub returns-in_err-tell-clause-round : goal.returns-in_err-tell-clause-round
returns-in_err-tell-clause-round g c =
    let p = err_from_is_err_and c.from_residual-in_err-tell.result c.from_residual-in_err-tell.ensures.1 in
    rw (p.1, p.2) (outside_ends c.args.lines c.in_err-tell.field-0.0 _ _)

pub returns-clause-round : goal.returns-clause-round
returns-clause-round g c =
    done_so c.args.lines c.in_ok-writer.writer c.in_ok-writer.ensures c.in_ok-bytes.bytes
    c.in_ok-bytes.ensures.writes c.in_ok-words.words c.in_ok-words.ensures c.in_ok-rounded.rounded
    (record {
      told = c.in_ok-rounded.ensures.told;
      reads = c.in_ok-rounded.ensures.reads;
      stays = c.in_ok-rounded.ensures.stays;
      live = c.in_ok-rounded.ensures.live;
      acts = c.round.ensures.acts;
    }) c.in_ok-report.report c.in_ok-report.ensures c.in_ok-tell.ensures.says
