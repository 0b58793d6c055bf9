use Rattle.std.proofs.Common.{◌≡◌, ◌∙◌, ◌<◌, ℕ, Err, arith, length, refl, subst}
use Rattle.chk_site.specs.History.{Every}
use Rattle.chk_site.proofs.Runs.{adds_none}
use Rattle.chk_record_index.proofs.Gathering.{every_then}
use Rattle.chk_world.specs.JobSteps.{IsOf}
use Rattle.chk_ctl_audit_log.specs.declared.comparing.Met.{Met}
use Rattle.chk_ctl_audit_log.specs.declared.comparing.Met.TheVariants.{Differs, Ends}
use Rattle.chk_ctl_audit_log.specs.Records.{ReadsBeside}
use Rattle.chk_ctl_audit_log.proofs.Blocks.{all_met, begun, beside_own, block_fails}
use Rattle.chk_ctl_audit_log.proofs.Causes.{job_then}
use Rattle.chk_ctl_audit_log.proofs.Blocks.{one_more, parts, SoFar}
use Rattle.chk_ctl_audit_log.proofs.records.compare_block.Goals as goal

pub loop-index-init : goal.loop-index-init
loop-index-init g c = record {
  so = λ from at.
      begun c.args.who.now c.args.side.now c.args.reader.now from c.args.skip c.args.block.first
      c.args.log.now (g.S.Site.told c.args.site.now) at;
  own = adds_none (g.S.Site.told c.args.site.now)
      (Every (IsOf (ReadsBeside c.args.log.now.reader.path))) (λ history. tt);
  path = refl;
  count = refl;
  low = omega arith;
  high = c.requires.low;
}

pub loop-index-preserved : goal.loop-index-preserved
loop-index-preserved g c =
    let l = c.loop-index in
    let i = l.invariant in
    let s = c.args.side.now in
    let who = c.args.who.now in
    let below = c.loop-index-test.true in
    let top = c.requires.high in
    let path = c.args.log.now.reader.path in
    let r = c.in-Ok-All.ensures in
    record {
      so = λ from at.
          one_more who s c.args.reader.now l.reader c.compare_record.new.reader from c.args.skip
          c.args.block.first l.index i.low (omega (arith, below, top)) l.left
          c.compare_record.new.left l.log c.compare_record.new.log (i.so from at)
          (record {
            told = λ taken before is log.
                rw c.in-Ok-All.field-0-is at (r.told from c.args.skip taken before is log);
            raw = λ most all held few settled side.
                rw c.in-Ok-All.field-0-is at (r.raw most all held few settled side);
          });
      own = every_then (IsOf (ReadsBeside path)) i.own (beside_own i.path r.own);
      path = r.path ∙ i.path;
      count = r.cause ∙ i.count;
      low = let low = i.low in omega (arith, low);
      high = omega (arith, below);
    }

pub returns-in-Ok-Differs : goal.returns-in-Ok-Differs
returns-in-Ok-Differs g c =
    let l = c.loop-index in
    let i = l.invariant in
    let s = c.args.side.now in
    let who = c.args.who.now in
    let below = c.loop-index-test.true in
    let top = c.requires.high in
    let path = c.args.log.now.reader.path in
    let r = c.in-Ok-Differs.ensures in
    let high : l.index < length s.heads.now = omega (arith, below, top) in
    record {
      told = λ from at.
          parts who s c.args.reader.now l.reader c.compare_record.new.reader from c.args.skip
          c.args.block.first l.index i.low high c.args.block.end l.left
          c.compare_record.new.left l.log c.compare_record.new.log (Differs c.in-Ok-Differs.at) below top
          tt (i.so from at)
          (record {
            told = λ taken before is log.
                rw c.in-Ok-Differs.field-0-is at (r.told from c.args.skip taken before is log);
            raw = λ most all held few settled side.
                rw c.in-Ok-Differs.field-0-is at (r.raw most all held few settled side);
          });
      own = every_then (IsOf (ReadsBeside path)) i.own (beside_own i.path r.own);
      only = tt;
      cause = r.cause ∙ i.count;
    }

pub returns-in-Ok-Ends : goal.returns-in-Ok-Ends
returns-in-Ok-Ends g c =
    let l = c.loop-index in
    let i = l.invariant in
    let s = c.args.side.now in
    let who = c.args.who.now in
    let below = c.loop-index-test.true in
    let top = c.requires.high in
    let path = c.args.log.now.reader.path in
    let r = c.in-Ok-Ends.ensures in
    let high : l.index < length s.heads.now = omega (arith, below, top) in
    record {
      told = λ from at.
          parts who s c.args.reader.now l.reader c.compare_record.new.reader from c.args.skip
          c.args.block.first l.index i.low high c.args.block.end l.left
          c.compare_record.new.left l.log c.compare_record.new.log (Ends c.in-Ok-Ends.at) below top
          tt (i.so from at)
          (record {
            told = λ taken before is log.
                rw c.in-Ok-Ends.field-0-is at (r.told from c.args.skip taken before is log);
            raw = λ most all held few settled side.
                rw c.in-Ok-Ends.field-0-is at (r.raw most all held few settled side);
          });
      own = every_then (IsOf (ReadsBeside path)) i.own (beside_own i.path r.own);
      only = tt;
      cause = r.cause ∙ i.count;
    }

pub returns-in-Err : goal.returns-in-Err
returns-in-Err g c =
    let l = c.loop-index in
    let i = l.invariant in
    let path = c.args.log.now.reader.path in
    let r = c.in-Err.ensures in
    record {
      told = λ from at.
          block_fails c.args.who.now c.args.side.now c.args.reader.now l.reader
          c.compare_record.new.reader from c.args.skip c.args.block.first l.index c.args.block.end
          l.left l.log c.compare_record.new.log c.in-Err.fault (i.so from at)
          (λ most all held few settled side. r.raw most all held few settled side);
      own = every_then (IsOf (ReadsBeside path)) i.own (beside_own i.path r.own);
      only = r.only;
      cause = job_then {T = Met} (Err c.in-Err.fault) (g.S.Site.fault_count c.args.site.now)
          (g.S.Site.fault_count l.site) (g.S.Site.fault_count c.compare_record.new.site) i.count
          r.cause;
    }

pub returns : goal.returns
returns g c =
    let l = c.loop-index in
    let i = l.invariant in
    let past = c.loop-index-test.false in
    let high = i.high in
    let e : l.index ≡ c.args.block.end = omega (arith, past, high) in
    record {
      told = λ from at.
          all_met c.args.who.now c.args.side.now c.args.reader.now l.reader from c.args.skip
          c.args.block.first c.args.block.end l.left l.log
          (subst (λ (k : ℕ). SoFar c.args.who.now c.args.side.now c.args.reader.now l.reader from
          c.args.skip c.args.block.first k l.left l.log (g.S.Site.told c.args.site.now)
          (g.S.Site.told l.site)) e (i.so from at));
      own = i.own;
      only = tt;
      cause = i.count;
    }
