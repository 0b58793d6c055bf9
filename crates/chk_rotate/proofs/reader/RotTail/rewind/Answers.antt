use Rattle.std.proofs.Common.{refl}
use Rattle.chk_rotate.specs.ReaderFields.{marks_of, mark_spot}
use Rattle.chk_rotate.proofs.Fields.{front_items, front_rises, rewound_rises, rewound_seen}
use Rattle.chk_rotate.proofs.Walking.{is_rising}
use Rattle.chk_rotate.proofs.reader.RotTail.rewind.Goals as goal

pub invariant_of-self : goal.invariant_of-self
invariant_of-self c =
    let items = c.self.inside.marks.items in
    front_rises (marks_of items) _ c.args.marks c.self.inside.offset c.self.invariant
    (front_items items c.truncate.new.self.items c.max.result c.args.marks c.max.ensures
    c.truncate.ensures.items)

pub invariant_of-self-2 : goal.invariant_of-self-2
invariant_of-self-2 c =
    let items = c.self.inside.marks.items in
    let x = c.self.inside.offset in
    let front = front_items items c.truncate.new.self.items c.max.result c.args.marks c.max.ensures
    c.truncate.ensures.items in
    rewound_rises (marks_of c.truncate.new.self.items) x c.args.offset c.max-self-inside.result
    (mark_spot c.newest.result.now)
    (front_rises (marks_of items) _ c.args.marks x c.self.invariant front) c.newest.ensures.place
    c.max-self-inside.ensures

pub returns-clause-back : goal.returns-clause-back
returns-clause-back c =
    let items = c.self.inside.marks.items in
    let front = front_items items c.truncate.new.self.items c.max.result c.args.marks c.max.ensures
    c.truncate.ensures.items in
    rw (← c.self.view_is)
    (rewound_seen c.self.inside.path c.self.inside.lines (marks_of items)
    (marks_of c.truncate.new.self.items) c.args.marks
    c.self.inside.offset c.args.offset c.max-self-inside.result
    (mark_spot c.newest.result.now) front c.newest.ensures.place
    c.max-self-inside.ensures)

pub returns-clause-rises : goal.returns-clause-rises
returns-clause-rises c =
    is_rising c.self.inside.path c.self.inside.lines
    (marks_of c.truncate.new.self.items) c.max-self-inside.result _ (invariant_of-self-2 c) refl
