use Rattle.std.proofs.Common.{refl}
use Rattle.chk_ctl_run.proofs.Checked.{all_words, checked_cause}
use Rattle.chk_ctl_run.proofs.checking.show_checked.Goals as goal

pub check-given-requires-clause-words : goal.check-given-requires-clause-words
check-given-requires-clause-words g c =
    rw c.deref.ensures.value (all_words c.args.words.now.collectors.items c.requires.words)

pub returns : goal.returns
returns g c =
    let given = c.check-given.result in
    rw c.checked_as.ensures
    (record {
      told = record { given = given; checked = rw c.deref.ensures.value at c.check-given.ensures.told; is = refl };
      own = c.check-given.ensures.own;
      cause = checked_cause given (g.S.Site.fault_count c.args.site.now)
          (g.S.Site.fault_count c.check-given.new.site) c.check-given.ensures.cause;
    })
