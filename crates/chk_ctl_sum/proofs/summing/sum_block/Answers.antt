use Rattle.std.proofs.Common.{◌≡◌, ◌∙◌, ◌++◌, ℕ, List, Ok, drop, refl, subst, arith}
use Rattle.std.proofs.lemmas.Result.{err_from_is_err_and}
use Rattle.chk_site.specs.History.{Every}
use Rattle.chk_site.specs.Site.{Adds}
use Rattle.chk_site.specs.Runs.{anyhow, Leads}
use Rattle.chk_site.proofs.Leads.{leads_as, leads_none, leads_then}
use Rattle.chk_site.proofs.Runs.{adds_as, adds_none}
use Rattle.chk_world.specs.JobSteps.{IsOf, ReadsFile}
use Rattle.chk_record_index.specs.Faults.{FailsLast}
use Rattle.chk_record_index.proofs.Gathering.{every_then}
use Rattle.chk_book.proofs.Added.{cause_later}
use Rattle.chk_record_reader.specs.Segments.{SparesFiles}
use Rattle.chk_record_reader.proofs.AllGathered.{fails_later}
use Rattle.chk_join_sources.specs.Comparing.{values_between, value_there}
use Rattle.chk_ctl_sum.specs.Rests.{HoldsRest}
use Rattle.chk_ctl_sum.specs.Summing.{HasSummed}
use Rattle.chk_ctl_sum.proofs.Blocks.{between_none, between_more}
use Rattle.chk_ctl_sum.proofs.Steps.{block_fails}
use Rattle.chk_ctl_sum.proofs.summing.sum_block.Goals as goal

pub loop-index-init : goal.loop-index-init
loop-index-init g c = record {
  so = λ most all held few settled side.
      leads_none (g.S.Site.told c.args.site.now)
      (λ h x. (
        x,
        subst (HoldsRest c.args.skip c.new-hasher.result)
            (between_none c.args.side.now held c.args.block.first) c.new-hasher.ensures,
      ));
  own = adds_none (g.S.Site.told c.args.site.now) (Every (IsOf ReadsFile)) (λ history. tt);
  count = refl;
  low = omega arith;
  high = c.requires.low;
}

pub loop-index-preserved : goal.loop-index-preserved
loop-index-preserved g c =
    let l = c.loop-index in
    let i = l.invariant in
    let s = c.args.side.now in
    let below = c.loop-index-test.true in
    let high = c.requires.high in
    record {
      so = λ most all held few settled side.
          let before = values_between s held c.args.block.first l.index in
          leads_then (i.so most all held few settled side)
          (subst (λ bytes. Adds (g.S.Site.told l.site) (g.S.Site.told c.take_record.new.site)
          (Leads (anyhow (SparesFiles all)) (HasSummed all held s c.args.skip before l.reader l.hasher)
          (HasSummed all held s c.args.skip bytes c.take_record.new.reader c.take_record.new.hasher)))
          (between_more s held c.args.block.first l.index i.low (omega (arith, below, high)))
          (c.in_ok-take_record.ensures.raw most all held c.args.skip before few settled side));
      own = every_then (IsOf ReadsFile) i.own c.in_ok-take_record.ensures.own;
      count = c.in_ok-take_record.ensures.cause ∙ i.count;
      low = let low = i.low in omega (arith, low);
      high = omega (arith, below);
    }

pub returns-in_err-take_record : goal.returns-in_err-take_record
returns-in_err-take_record g c =
    let p = err_from_is_err_and c.from_residual.result c.from_residual.ensures.1 in
    let l = c.loop-index in
    let i = l.invariant in
    let s = c.args.side.now in
    let fault = c.in_err-take_record.field-0.0 in
    rw (p.1, p.2)
    (record {
      raw = λ most all held few settled side.
          let before = values_between s held c.args.block.first l.index in
          leads_then (i.so most all held few settled side)
          (block_fails all held s
          (drop c.args.skip (values_between s held c.args.block.first c.args.block.end))
          c.args.skip (before ++ value_there s held l.index) c.take_record.new.reader
          c.take_record.new.hasher fault
          (c.in_err-take_record.ensures.raw most all held c.args.skip before few settled side));
      own = every_then (IsOf ReadsFile) i.own c.in_err-take_record.ensures.own;
      only = c.in_err-take_record.ensures.only;
      last = fails_later (List ℕ) (Unit {0}) fault i.own c.in_err-take_record.ensures.last;
      cause = cause_later (List ℕ) (Unit {0}) fault (g.S.Site.fault_count c.args.site.now)
          (g.S.Site.fault_count l.site) (g.S.Site.fault_count c.take_record.new.site) i.count
          c.in_err-take_record.ensures.cause;
    })

pub returns : goal.returns
returns g c =
    let l = c.loop-index in
    let i = l.invariant in
    let s = c.args.side.now in
    let past = c.loop-index-test.false in
    let high = i.high in
    let e : l.index ≡ c.args.block.end = omega (arith, past, high) in
    record {
      raw = λ most all held few settled side.
          leads_as (λ h x. x)
          (λ h x. (
            x.0,
            c.finalize.ensures c.args.skip
                (values_between s held c.args.block.first c.args.block.end)
                (subst (λ (k : ℕ). HoldsRest c.args.skip l.hasher
                (values_between s held c.args.block.first k)) e x.1),
          ))
          (i.so most all held few settled side);
      own = i.own;
      only = tt;
      last = adds_as (FailsLast {T = List ℕ} (Ok c.finalize.result)) i.own (λ added history x. tt);
      cause = i.count;
    }
