use Rattle.std.proofs.Common.{Ok, Err, ℕ, List, map, Bor}
use Rattle.chk_cmd_line.specs.Commands.{Demux}
use Rattle.chukwa_run.proofs.DemuxRun.{causes, told}
use Rattle.chukwa_run.proofs.Unbegun.{unbegun, caused_nothing}
use Rattle.chukwa_run.proofs.Statuses.{split_status}
use Rattle.chukwa_run.proofs.demuxing.run_split.Goals as goal

pub returns-in_default-clause-told : goal.returns-in_default-clause-told
returns-in_default-clause-told g c stamped earlier named =
    unbegun stamped (Demux (map {A = Bor (List ℕ)} {B = List ℕ} (λ t. t.now) c.args.kinds.now)) earlier (g.S.Site.told c.args.site.now)

pub returns-in_default-clause-causes : goal.returns-in_default-clause-causes
returns-in_default-clause-causes g c = caused_nothing (Demux (map {A = Bor (List ℕ)} {B = List ℕ} (λ t. t.now) c.args.kinds.now)) (g.S.Site.told c.args.site.now)

pub returns-in-Ok-run_demux-clause-told : goal.returns-in-Ok-run_demux-clause-told
returns-in-Ok-run_demux-clause-told g c stamped earlier named =
    let s = c.in-Ok-run_demux.ensures in
    let kinds = (map {A = Bor (List ℕ)} {B = List ℕ} (λ t. t.now) c.args.kinds.now) in
    told kinds stamped earlier named (Ok c.in-Ok-run_demux._report)
    (record {
      told = s.told;
      own = s.own;
      prints = s.prints;
      runs = s.runs;
      last = s.last;
      shown = s.shown;
      spent = s.spent;
    })

pub returns-in-Ok-run_demux-clause-causes : goal.returns-in-Ok-run_demux-clause-causes
returns-in-Ok-run_demux-clause-causes g c =
    let s = c.in-Ok-run_demux.ensures in
    let kinds = (map {A = Bor (List ℕ)} {B = List ℕ} (λ t. t.now) c.args.kinds.now) in
    causes kinds (Ok c.in-Ok-run_demux._report)
    (record {
      told = s.told;
      own = s.own;
      prints = s.prints;
      runs = s.runs;
      last = s.last;
      shown = s.shown;
      spent = s.spent;
    })

pub returns-clause-told : goal.returns-clause-told
returns-clause-told g c stamped earlier named =
    let s = c.in-Err.ensures in
    let kinds = (map {A = Bor (List ℕ)} {B = List ℕ} (λ t. t.now) c.args.kinds.now) in
    rw c.ending_of.ensures
    (told kinds stamped earlier named (Err c.in-Err.fault)
    (record {
      told = s.told;
      own = s.own;
      prints = s.prints;
      runs = s.runs;
      last = s.last;
      shown = s.shown;
      spent = s.spent;
    }))

pub returns-clause-causes : goal.returns-clause-causes
returns-clause-causes g c =
    let s = c.in-Err.ensures in
    let kinds = (map {A = Bor (List ℕ)} {B = List ℕ} (λ t. t.now) c.args.kinds.now) in
    rw c.ending_of.ensures
    (causes kinds (Err c.in-Err.fault)
    (record {
      told = s.told;
      own = s.own;
      prints = s.prints;
      runs = s.runs;
      last = s.last;
      shown = s.shown;
      spent = s.spent;
    }))

pub returns-clause-status : goal.returns-clause-status
returns-clause-status g c =
    rw c.ending_of.ensures (split_status (map {A = Bor (List ℕ)} {B = List ℕ} (λ t. t.now) c.args.kinds.now) c.in-Err.fault)
