use Rattle.std.proofs.Common.{[], append-nil, map, sym, ◌∙◌, ◌++◌, ◌∷◌, List, ap}
use Rattle.chk_ctl_check.specs.declared.trouble.Trouble.{Trouble}
use Rattle.chk_ctl_check.specs.Looking.{blank, finding, seen, wrong}
use Rattle.chk_ctl_check.proofs.Split.{ok_weaker}
use Rattle.chk_ctl_check.proofs.finding.see_verdict.Goals as goal

pub returns-in-Blank-clause-told : goal.returns-in-Blank-clause-told
returns-in-Blank-clause-told g c =
    ([], sym (append-nil c.args.findings.now.items), rw c.in-Blank.is blank)

pub returns-in_ok-push-in-Wrong-clause-told : goal.returns-in_ok-push-in-Wrong-clause-told
returns-in_ok-push-in-Wrong-clause-told g c = (
  finding c.args.line c.in-Wrong.trouble ∷ [],
  c.in_ok-push-in-Wrong.ensures.items,
  rw c.in-Wrong.is (wrong c.in-Wrong.trouble),
)

pub returns-in_ok-troubles-in-Reads-clause-told : goal.returns-in_ok-troubles-in-Reads-clause-told
returns-in_ok-troubles-in-Reads-clause-told g c =
    let troubles = c.in_ok-troubles-in-Reads.troubles.items in
    let told = rw c.as_str.ensures.text at c.in_ok-troubles-in-Reads.ensures.told in
    ok_weaker c.add_all.result
    (λ is. (
      map (finding c.args.line) troubles,
      is ∙ ap (λ (ts : List Trouble). c.args.findings.now.items ++ map (finding c.args.line) ts)
          c.deref.ensures.value,
      rw c.in-Reads.is (seen troubles told),
    )) c.add_all.ensures
