use Rattle.chk_ctl_run.specs.Runs.{shows}
use Rattle.chk_ctl_run.proofs.running.show_asked.Goals as goal

pub show_audit-requires-clause-path : goal.show_audit-requires-clause-path
show_audit-requires-clause-path g c = (rw c.in-Audit.is at c.requires.good).1

pub returns-in-Audit : goal.returns-in-Audit
returns-in-Audit g c = record {
  told = rw c.in-Audit.is (shows c.show_audit.ensures.told);
  own = rw c.in-Audit.is c.show_audit.ensures.own;
  cause = rw c.in-Audit.is c.show_audit.ensures.cause;
}

pub returns-in-Cat : goal.returns-in-Cat
returns-in-Cat g c = record {
  told = rw c.in-Cat.is (shows c.show_stream.ensures.told);
  own = rw c.in-Cat.is c.show_stream.ensures.own;
  cause = rw c.in-Cat.is c.show_stream.ensures.cause;
}

pub show_checked-requires-clause-words : goal.show_checked-requires-clause-words
show_checked-requires-clause-words g c = (rw c.in-Check.is at c.requires.good).1

pub returns-in-Check : goal.returns-in-Check
returns-in-Check g c = record {
  told = rw c.in-Check.is (shows c.show_checked.ensures.told);
  own = rw c.in-Check.is c.show_checked.ensures.own;
  cause = rw c.in-Check.is c.show_checked.ensures.cause;
}

pub returns-in-Streams : goal.returns-in-Streams
returns-in-Streams g c = record {
  told = rw c.in-Streams.is (shows c.show_streams.ensures.told);
  own = rw c.in-Streams.is c.show_streams.ensures.own;
  cause = rw c.in-Streams.is c.show_streams.ensures.cause;
}

pub returns-in-Verify : goal.returns-in-Verify
returns-in-Verify g c = record {
  told = rw c.in-Verify.is (shows c.show_verified.ensures.told);
  own = rw c.in-Verify.is c.show_verified.ensures.own;
  cause = rw c.in-Verify.is c.show_verified.ensures.cause;
}

pub returns-in-Sum : goal.returns-in-Sum
returns-in-Sum g c = record {
  told = rw c.in-Sum.is (shows c.show_sums.ensures.told);
  own = rw c.in-Sum.is c.show_sums.ensures.own;
  cause = rw c.in-Sum.is c.show_sums.ensures.cause;
}

pub returns-in-Held : goal.returns-in-Held
returns-in-Held g c = record {
  told = rw c.in-Held.is (shows c.show_held.ensures.told);
  own = rw c.in-Held.is c.show_held.ensures.own;
  cause = rw c.in-Held.is c.show_held.ensures.cause;
}

pub returns-in-Passed : goal.returns-in-Passed
returns-in-Passed g c = record {
  told = rw c.in-Passed.is (shows c.show_passed.ensures.told);
  own = rw c.in-Passed.is c.show_passed.ensures.own;
  cause = rw c.in-Passed.is c.show_passed.ensures.cause;
}

pub returns-in-Help : goal.returns-in-Help
returns-in-Help g c = record {
  told = rw c.in-Help.is (shows c.tell_usage.ensures.told);
  own = rw c.in-Help.is c.tell_usage.ensures.own;
  cause = rw c.in-Help.is c.tell_usage.ensures.cause;
}

pub returns-in-Version : goal.returns-in-Version
returns-in-Version g c = record {
  told = rw c.in-Version.is (shows c.tell_version.ensures.told);
  own = rw c.in-Version.is c.tell_version.ensures.own;
  cause = rw c.in-Version.is c.tell_version.ensures.cause;
}

pub show_stores-requires-clause-words : goal.show_stores-requires-clause-words
show_stores-requires-clause-words g c =
    rw c.as_slice.ensures.value (rw c.in-HeldIn.is at c.requires.good)

pub returns-in-HeldIn : goal.returns-in-HeldIn
returns-in-HeldIn g c = record {
  told = rw c.in-HeldIn.is (shows (rw c.as_slice.ensures.value at c.show_stores.ensures.told));
  own = rw c.in-HeldIn.is c.show_stores.ensures.own;
  cause = rw c.in-HeldIn.is c.show_stores.ensures.cause;
}
