use Rattle.std.proofs.Common.{◌∙◌, ◌≤◌, [], Bool, List, Ok, Err, ℕ, length, get_or, min, refl, subst, sym, drop, ◌+◌}
use Rattle.std.proofs.lemmas.List.{get_or_default}
use Rattle.chk_ctl_sum.proofs.LineWords.{below_both}
use Rattle.chk_ctl_audit.specs.Streams.{Audits}
use Rattle.chk_ctl_audit.proofs.Steps.{audits_end, audits_failed, audits_next, job_then}
use Rattle.chk_ctl_audit.proofs.streams.audit_each.Goals as goal

pub loop-index-init : goal.loop-index-init
loop-index-init g c = record { faults = refl; behind = λ result new rest. rest }

pub loop-index-preserved : goal.loop-index-preserved
loop-index-preserved g c =
    let l = c.loop-index in
    let rests = c.args.rests.now in
    let digests = c.args.digests.now in
    let low = below_both (length rests) (length digests) c.min-count.result l.index
    c.min-count.ensures c.loop-index-test.true in
    let digest : List ℕ = get_or digests l.index [] in
    record {
      faults = c.in-Ok.ensures.cause ∙ l.invariant.faults;
      behind = λ result new rest.
          l.invariant.behind result new
          (audits_next c.args.side.now result rests digests l.index c.index-rests-index.result digest l.same
          c.in-Ok.one low.0 low.1 c.index-rests-index.is
          (sym (get_or_default digests l.index digest [] low.1)) c.in-Ok.ensures.told
          (subst (λ (s : Bool). Audits c.args.side.now result (drop (l.index + 1) rests) (drop (l.index + 1) digests) s
          (g.S.Site.told c.audit_stream.new.site) new) c.both-same.ensures rest));
    }

pub returns-in-Err : goal.returns-in-Err
returns-in-Err g c =
    let l = c.loop-index in
    let rests = c.args.rests.now in
    let digests = c.args.digests.now in
    let low = below_both (length rests) (length digests) c.min-count.result l.index
    c.min-count.ensures c.loop-index-test.true in
    let digest : List ℕ = get_or digests l.index [] in
    record {
      told = l.invariant.behind (Err c.in-Err.fault) (g.S.Site.told c.audit_stream.new.site)
          (audits_failed c.args.side.now c.in-Err.fault rests digests l.index c.index-rests-index.result digest
          l.same low.0 low.1 c.index-rests-index.is
          (sym (get_or_default digests l.index digest [] low.1)) c.in-Err.ensures.told);
      only = c.in-Err.ensures.only;
      cause = job_then {T = Bool} (Err c.in-Err.fault) (g.S.Site.fault_count c.args.site.now)
          (g.S.Site.fault_count l.site) (g.S.Site.fault_count c.audit_stream.new.site)
          l.invariant.faults c.in-Err.ensures.cause;
    }

pub returns : goal.returns
returns g c =
    let l = c.loop-index in
    let rests = c.args.rests.now in
    let digests = c.args.digests.now in
    let past : min (length rests) (length digests) ≤ l.index =
    subst (λ (n : ℕ). n ≤ l.index) c.min-count.ensures c.loop-index-test.false in
    record {
      told = l.invariant.behind (Ok l.same) (g.S.Site.told l.site)
          (audits_end c.args.side.now rests digests l.index l.same (g.S.Site.told l.site) past);
      only = tt;
      cause = l.invariant.faults;
    }
