use Rattle.std.proofs.Common.{Ok, Err, ap, ◌+◌, ◌-◌, ◌≤◌, subst}
use Rattle.std.specs.Prelude.{slice_index_or}
use Rattle.std.proofs.lemmas.Result.{err_from_is_err_and}
use Rattle.chk_site.specs.Site.{Adds}
use Rattle.chk_site.specs.Runs.{anyhow, Leads}
use Rattle.chk_replace.specs.Load.{Has}
use Rattle.chk_world.specs.JobSteps.{SparesFile}
use Rattle.chk_record_index.specs.Heads.{Head}
use Rattle.chk_record_index.specs.Order.{lent_head, no_head}
use Rattle.chk_record_reader.specs.Spans.{room_of}
use Rattle.chk_record_reader.specs.ReadBack.{IsHeld, NotHeld, HasWindow}
use Rattle.chk_record_reader.proofs.RunReads.{unsaid}
use Rattle.chk_record_index.proofs.Gathering.{no_failure, damage_no_call}
use Rattle.chk_record_reader.proofs.Fetching.{found_then, never_then, not_fetched, no_damage, failed_read, failed_last, failed_cause, damage_of, damage_read, damage_cause}
use Rattle.chk_record_index.proofs.Causes.{shows_ok, shows_outside}
use Rattle.chk_record_reader.specs.Gone.{IsGoneOf}
use Rattle.chk_record_reader.proofs.Causes.{not_again}
use Rattle.chk_record_reader.proofs.reader.RecordReader.refill.Goals as goal

pub returns-in_err-load-clause-stays : goal.returns-in_err-load-clause-stays
returns-in_err-load-clause-stays g c =
    let p = err_from_is_err_and c.from_residual.result c.from_residual.ensures.1 in
    rw (p.1, p.2) (λ other file. unsaid other file c.in_err-load.ensures.pieces)

pub returns-then-find-clause-raw : goal.returns-then-find-clause-raw
returns-then-find-clause-raw g c = λ most f few small.
    let name = c.args.name.now in
    let run = c.run_of-run.result in
    found_then most name f _ run.from run.size c.args.self.now c.load.new.self c.find.new.self
    (subst (λ h. IsHeld h c.load.new.self c.find.new.self) c.get-head.ensures.head
    c.if-find.ensures)
    (subst
    (λ (h : Head). Adds (g.S.Site.told c.args.site.now) (g.S.Site.told c.load.new.site)
    (Leads (anyhow (SparesFile name)) (Has name f) (HasWindow name f h.file run.from run.size
    c.load.new.self (Ok tt))))
    c.get-head.ensures.head (c.in_ok-load.ensures.raw f small))

pub returns-clause-raw : goal.returns-clause-raw
returns-clause-raw g c = λ most f few small.
    let name = c.args.name.now in
    let run = c.run_of-run.result in
    never_then most name f _ run.from run.size c.args.self.now c.load.new.self c.find.new.self
    c.damaged.result few
    (subst (λ (h : Head). run.from ≤ h.at) c.get-head.ensures.head c.run_of-run.ensures.behind)
    (subst (λ (h : Head). h.at - run.from + room_of h ≤ run.size) c.get-head.ensures.head
    c.run_of-run.ensures.enough)
    (subst (λ h. NotHeld h c.load.new.self c.find.new.self) c.get-head.ensures.head
    c.if-find.ensures)
    (subst
    (λ (h : Head). Adds (g.S.Site.told c.args.site.now) (g.S.Site.told c.load.new.site)
    (Leads (anyhow (SparesFile name)) (Has name f) (HasWindow name f h.file run.from run.size
    c.load.new.self (Ok tt))))
    c.get-head.ensures.head (c.in_ok-load.ensures.raw f small))
    c.clear.new.self

pub returns-clause-stays : goal.returns-clause-stays
returns-clause-stays g c = λ other file. unsaid other file c.in_ok-load.ensures.pieces

pub returns-in_err-load-clause-raw : goal.returns-in_err-load-clause-raw
returns-in_err-load-clause-raw g c =
    let p = err_from_is_err_and c.from_residual.result c.from_residual.ensures.1 in
    rw (p.1, p.2) (λ most f few small. not_fetched most c.args.name.now f _ c.args.self.now
    c.load.new.self
    c.in_err-load.field-0.0 c.in_err-load.ensures.pieces)

pub returns-in_err-load-clause-place : goal.returns-in_err-load-clause-place
returns-in_err-load-clause-place g c =
    let p = err_from_is_err_and c.from_residual.result c.from_residual.ensures.1 in
    rw (p.1, p.2) (no_damage c.args.name.now (slice_index_or c.args.heads.now c.args.index no_head)
    c.in_err-load.field-0.0)

pub returns-in_err-load-clause-only : goal.returns-in_err-load-clause-only
returns-in_err-load-clause-only g c =
    let p = err_from_is_err_and c.from_residual.result c.from_residual.ensures.1 in
    rw (p.1, p.2) (failed_read c.in_err-load.field-0.0)

pub returns-in_err-load-clause-last : goal.returns-in_err-load-clause-last
returns-in_err-load-clause-last g c =
    let p = err_from_is_err_and c.from_residual.result c.from_residual.ensures.1 in
    rw (p.1, p.2) (failed_last c.in_err-load.field-0.0 c.in_err-load.ensures.last)

pub returns-in_err-load-clause-cause : goal.returns-in_err-load-clause-cause
returns-in_err-load-clause-cause g c =
    let p = err_from_is_err_and c.from_residual.result c.from_residual.ensures.1 in
    rw (p.1, p.2) (failed_cause c.in_err-load.field-0.0 (g.S.Site.fault_count c.args.site.now)
    (g.S.Site.fault_count c.load.new.site) c.in_err-load.ensures.cause)

pub returns-clause-place : goal.returns-clause-place
returns-clause-place g c =
    damage_of c.args.name.now (slice_index_or c.args.heads.now c.args.index no_head)
    c.get-head.result.at c.damaged.result (ap (λ (h : Head). h.at) c.get-head.ensures.head)
    c.damaged.ensures

pub returns-clause-only : goal.returns-clause-only
returns-clause-only g c = damage_read c.args.name.now c.get-head.result.at c.damaged.result
    c.damaged.ensures

pub returns-clause-last : goal.returns-clause-last
returns-clause-last g c =
    no_failure {T = Unit {0}} (Err c.damaged.result)
    (damage_no_call c.args.name.now c.get-head.result.at c.damaged.result c.damaged.ensures)
    c.in_ok-load.ensures.pieces

pub returns-clause-cause : goal.returns-clause-cause
returns-clause-cause g c =
    damage_cause c.args.name.now c.get-head.result.at c.damaged.result c.damaged.ensures
    (g.S.Site.fault_count c.args.site.now) (g.S.Site.fault_count c.load.new.site)
    c.in_ok-load.ensures.cause

pub returns-in_err-load-clause-shown : goal.returns-in_err-load-clause-shown
returns-in_err-load-clause-shown g c =
    let p = err_from_is_err_and c.from_residual.result c.from_residual.ensures.1 in
    rw (p.1, p.2)
    (shows_outside (Unit {0}) (IsGoneOf c.args.name.now (slice_index_or c.args.heads.now c.args.index no_head)) c.in_err-load.field-0.0
    c.in_err-load.ensures.pieces)

pub returns-then-find-clause-shown : goal.returns-then-find-clause-shown
returns-then-find-clause-shown g c =
    shows_ok (IsGoneOf c.args.name.now (slice_index_or c.args.heads.now c.args.index no_head)) (tt {0}) c.in_ok-load.ensures.pieces

pub returns-clause-shown : goal.returns-clause-shown
returns-clause-shown g c =
    let run = c.run_of-run.result in
    let same = c.get-head.ensures.head in
    not_again c.args.name.now (slice_index_or c.args.heads.now c.args.index no_head) (lent_head c.get-head.result) run.from run.size c.load.new.self
    c.find.new.self c.damaged.result same
    (subst (λ (h : Head). run.from ≤ h.at) same c.run_of-run.ensures.behind)
    (subst (λ (h : Head). h.at - run.from + room_of h ≤ run.size) same c.run_of-run.ensures.enough)
    (subst (λ h. NotHeld h c.load.new.self c.find.new.self) same c.if-find.ensures) c.damaged.ensures c.in_ok-load.ensures.shown
