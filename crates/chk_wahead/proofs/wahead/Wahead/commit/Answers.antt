use Rattle.std.proofs.Common.{◌∙◌, ap, sym, option_map}
use Rattle.chk_wahead.specs.Fields.{held_of}
use Rattle.chk_wahead.proofs.Joining.{did_last}
use Rattle.chk_wahead.proofs.Fields.{seen_as, commit_held, commit_idle}
use Rattle.chk_wahead.proofs.Staying.{commit_legal}
use Rattle.chk_wahead.proofs.wahead.Wahead.commit.Goals as goal

pub returns-in-Some-clause-told : goal.returns-in-Some-clause-told
returns-in-Some-clause-told g c =
    let s = c.args.self.now in
    let known = seen_as c.self.inside s c.self.view_is c.self.invariant in
    commit_held s (held_of c.in-Some.buffer) (sym known.held ∙ ap (option_map held_of) c.in-Some.is) c.commit_held.ensures.told

pub returns-in-Some-clause-last : goal.returns-in-Some-clause-last
returns-in-Some-clause-last g c = did_last c.commit_held.ensures.told

pub returns-in-None-clause-told : goal.returns-in-None-clause-told
returns-in-None-clause-told g c =
    let s = c.args.self.now in
    let known = seen_as c.self.inside s c.self.view_is c.self.invariant in
    commit_idle s _ (sym known.held ∙ ap (option_map held_of) c.in-None.is)

pub returns-in-None-clause-last : goal.returns-in-None-clause-last
returns-in-None-clause-last g c = did_last (returns-in-None-clause-told g c)

pub returns-in-Some-clause-legal : goal.returns-in-Some-clause-legal
returns-in-Some-clause-legal g c = commit_legal c.args.self.now _ _ (returns-in-Some-clause-told g c)

pub returns-in-None-clause-legal : goal.returns-in-None-clause-legal
returns-in-None-clause-legal g c = commit_legal c.args.self.now _ _ (returns-in-None-clause-told g c)
