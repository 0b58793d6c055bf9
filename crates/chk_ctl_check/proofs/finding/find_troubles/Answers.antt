use Rattle.std.proofs.Common.{List, arith, refl, subst, sym, ◌++◌, ◌∙◌, []}
use Rattle.chk_bytes.specs.Words.{parts_at}
use Rattle.chk_site.specs.History.{Every}
use Rattle.chk_site.proofs.Runs.{adds_none}
use Rattle.chk_world.specs.JobSteps.{IsOf}
use Rattle.chk_ctl_check.specs.declared.finding.Finding.{Finding}
use Rattle.chk_ctl_check.specs.Looking.{AsksOfLogs, LinesSeen}
use Rattle.chk_ctl_check.proofs.OwnCalls.{count_same, own_then}
use Rattle.chk_ctl_check.proofs.Split.{found_then, last_seen, no_some, one_line, size_within}
use Rattle.chk_ctl_check.proofs.finding.find_troubles.Goals as goal

pub loop-size-init : goal.loop-size-init
loop-size-init g c =
    rw (c.new-findings.ensures.items, c.new-added.ensures.items)
    (record {
      count = count_same refl;
      own = adds_none (g.S.Site.told c.args.site.now) (Every (IsOf AsksOfLogs)) (λ history. tt);
      behind = λ more new rest. rest;
    })

pub behind-rest-requires : goal.behind-rest-requires
behind-rest-requires g c =
    size_within c.loop-size.rest.now c.in-Some.size (sym c.line_size.ensures ∙ c.in-Some.is)

pub loop-size-preserved : goal.loop-size-preserved
loop-size-preserved g c =
    let l = c.loop-size in
    let is = sym c.line_size.ensures ∙ c.in-Some.is in
    let t = c.in_ok-find_in.ensures.told in
    rw (c.in_ok-line.ensures, c.behind-rest.ensures, c.in_ok-find_in.ensures.added)
    (record {
      count = omega (arith, c.find_in.ensures.count, l.invariant.count);
      own = own_then AsksOfLogs l.invariant.own c.find_in.ensures.own;
      behind = λ more new rest.
          subst (λ (fs : List Finding). LinesSeen 1 [] (parts_at 10 c.args.text.now) fs
          (g.S.Site.told c.args.site.now) new)
          (found_then l.findings.items t.0 more c.find_in.new.findings.items t.1)
          (l.invariant.behind (t.0 ++ more) new (one_line l.rest.now is t.2 rest));
    })

pub returns : goal.returns
returns g c =
    let l = c.loop-size in
    let t = c.in_ok-find_in-2.ensures.told in
    let none = sym c.line_size.ensures ∙ no_some c.line_size.result c.in_default.not-Some in
    record {
      told = subst (λ (fs : List Finding). LinesSeen 1 [] (parts_at 10 c.args.text.now) fs
          (g.S.Site.told c.args.site.now) (g.S.Site.told c.find_in-2.new.site)) (sym t.1)
          (l.invariant.behind t.0 (g.S.Site.told c.find_in-2.new.site)
          (last_seen l.rest.now none t.2));
      own = own_then AsksOfLogs l.invariant.own c.find_in-2.ensures.own;
      count = omega (arith, c.find_in-2.ensures.count, l.invariant.count);
    }

pub returns-in_err-find_in-clause-own : goal.returns-in_err-find_in-clause-own
returns-in_err-find_in-clause-own g c = own_then AsksOfLogs c.loop-size.invariant.own
    c.find_in.ensures.own

pub returns-in_err-line-clause-own : goal.returns-in_err-line-clause-own
returns-in_err-line-clause-own g c = own_then AsksOfLogs c.loop-size.invariant.own
    c.find_in.ensures.own

pub returns-in_err-find_in-2-clause-own : goal.returns-in_err-find_in-2-clause-own
returns-in_err-find_in-2-clause-own g c = own_then AsksOfLogs c.loop-size.invariant.own
    c.find_in-2.ensures.own
