use Rattle.std.proofs.Common.{◌∙◌, ap, sym, option_map}
use Rattle.chk_wahead.specs.Fields.{held_of}
use Rattle.chk_wahead.proofs.Fields.{seen_as, put_nothing, put_held, put_first, put_last, is_more, is_none}
use Rattle.chk_wahead.proofs.Staying.{put_legal}
use Rattle.chk_wahead.proofs.wahead.Wahead.put.Goals as goal

pub returns-in-Some-clause-told : goal.returns-in-Some-clause-told
returns-in-Some-clause-told g c =
    let s = c.args.self.now in
    let known = seen_as c.self.inside s c.self.view_is c.self.invariant in
    put_held s (held_of c.in-Some.buffer) c.args.payload.now _ _ _ _ (is_more c.is_empty.ensures c.if-is_empty.false) (sym known.held ∙ ap (option_map held_of) c.in-Some.is) c.put_in.ensures.told

pub returns-in-None-clause-told : goal.returns-in-None-clause-told
returns-in-None-clause-told g c =
    let s = c.args.self.now in
    let known = seen_as c.self.inside s c.self.view_is c.self.invariant in
    put_first s c.args.payload.now _ _ _ _ (is_more c.is_empty.ensures c.if-is_empty.false) (sym known.held ∙ ap (option_map held_of) c.in-None.is) c.put_first.ensures.told

pub returns-in-Some-clause-last : goal.returns-in-Some-clause-last
returns-in-Some-clause-last g c = put_last c.args.self.now c.args.payload.now _ _ _ _ (returns-in-Some-clause-told g c)

pub returns-in-None-clause-last : goal.returns-in-None-clause-last
returns-in-None-clause-last g c = put_last c.args.self.now c.args.payload.now _ _ _ _ (returns-in-None-clause-told g c)

pub returns-in-Some-clause-legal : goal.returns-in-Some-clause-legal
returns-in-Some-clause-legal g c = put_legal c.args.self.now c.args.payload.now _ _ _ _ (returns-in-Some-clause-told g c)

pub returns-in-None-clause-legal : goal.returns-in-None-clause-legal
returns-in-None-clause-legal g c = put_legal c.args.self.now c.args.payload.now _ _ _ _ (returns-in-None-clause-told g c)

pub returns-then-is_empty-clause-told : goal.returns-then-is_empty-clause-told
returns-then-is_empty-clause-told g c = put_nothing c.args.self.now c.args.payload.now _ (is_none c.is_empty.ensures c.if-is_empty.true)

pub returns-then-is_empty-clause-legal : goal.returns-then-is_empty-clause-legal
returns-then-is_empty-clause-legal g c = put_legal c.args.self.now c.args.payload.now _ _ _ _ (returns-then-is_empty-clause-told g c)
