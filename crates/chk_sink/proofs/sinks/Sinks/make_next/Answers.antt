use Rattle.std.proofs.Common.{Err, ◌+◌, ◌∙◌, ap, refl, List, ℕ, length, [], ◌∷◌}
use Rattle.chk_site.specs.Site.{asked, plain}
use Rattle.chk_site.specs.declared.acts.Call.TheVariants.{Append, Create}
use Rattle.chk_world.proofs.Working.{works_then, call_works, call_ends}
use Rattle.chk_sink.specs.declared.current.Current.{Current}
use Rattle.chk_sink.specs.States.{State, process, next_stem, begun}
use Rattle.chk_sink.specs.SinkFields.{writing_of}
use Rattle.chk_sink.proofs.Owning.{made_err, made_by, once_works, refused_by}
use Rattle.chk_sink.proofs.Putting.{longer_writing}
use Rattle.chk_sink.proofs.Fields.{seen_as, counted_done}
use Rattle.chk_sink.proofs.Next.{first_writing, uncreated_as, unheaded_as, unfilled_as, filled_as, counted_process}
use Rattle.chk_sink.proofs.JoinedCauses.{of_outside}
use Rattle.chk_sink.proofs.Making.{begun_on, begun_placed, begun_same, counted_same, first_is_of_stem, later_cause, outside_cause, uncreated_leaves, unfilled_leaves}
use Rattle.chk_sink.proofs.sinks.Sinks.make_next.Goals as goal

pub returns-in_err-create_next-clause-told : goal.returns-in_err-create_next-clause-told
returns-in_err-create_next-clause-told g c stamped handled chunk key value posted is v piece =
    let s = c.args.self.now in
    let known = seen_as c.self.inside s c.self.view_is c.self.invariant in
    let m = c.in_err-create_next.ensures.told in
    uncreated_as stamped s handled chunk known.named c.requires.none c.requires.good (process s)
    refl c.args.name.now c.requires.name
    m.given _ c.create_next.new.self _ _ m.came m.told m.counted
    (refused_by c.from_residual.ensures.1)

pub returns-in_err-append-clause-told : goal.returns-in_err-append-clause-told
returns-in_err-append-clause-told g c stamped handled chunk key value posted is v piece =
    let s = c.args.self.now in
    let known = seen_as c.self.inside s c.self.view_is c.self.invariant in
    let m = c.in_ok-create_next.ensures.told in
    unheaded_as stamped s handled chunk known.named c.requires.none c.requires.good (process s)
    refl c.args.name.now c.requires.name
    m.given m.came c.create_next.new.self m.counted (process c.create_next.new.self) refl
    c.args.name.now c.args.head.now
    c.requires.name c.requires.head
    c.append.result _ _ _ m.told c.in_err-append.was c.append.ensures.told
    (refused_by c.from_residual-in_err-append.ensures.1)

pub returns-in_err-append-2-clause-told : goal.returns-in_err-append-2-clause-told
returns-in_err-append-2-clause-told g c stamped handled chunk key value posted is v piece =
    let s = c.args.self.now in
    let known = seen_as c.self.inside s c.self.view_is c.self.invariant in
    let m = c.in_ok-create_next.ensures.told in
    unfilled_as stamped s handled chunk known.named c.requires.none c.requires.good (process s)
    refl c.args.name.now c.requires.name
    m.given m.came c.create_next.new.self m.counted (process c.create_next.new.self) refl
    c.args.name.now c.args.head.now
    c.requires.name c.requires.head
    key value posted is v c.args.name.now c.args.piece.now c.requires.name piece
    c.append.result _ c.in_ok-append.was m.told c.append.ensures.told
    c.append-2.result _ _ _ c.in_err-append-2.was c.append-2.ensures.told
    (refused_by c.from_residual-in_err-append-2.ensures.1)

pub returns-clause-told : goal.returns-clause-told
returns-clause-told g c stamped handled chunk key value posted is v piece =
    let s = c.args.self.now in
    let known = seen_as c.self.inside s c.self.view_is c.self.invariant in
    let m = c.in_ok-create_next.ensures.told in
    let writing = ap writing_of c.requires.current
    ∙ ap (λ (q : List ℕ). longer_writing first_writing q) piece in
    filled_as stamped s handled chunk known.named c.requires.none c.requires.good (process s) refl
    c.args.name.now c.requires.name
    m.given m.came c.create_next.new.self m.counted (process c.create_next.new.self) refl
    c.args.name.now c.args.head.now
    c.requires.name c.requires.head
    key value posted is v c.args.name.now c.args.piece.now c.requires.name piece
    c.append.result _ c.in_ok-append.was m.told c.append.ensures.told
    c.append-2.result _ c.begin.new.self (c.args.current.stem, c.args.current.size)
    c.in_ok-append-2.was c.append-2.ensures.told
    (c.begin.ensures
    ∙ (ap (λ (t : State). begun t (writing_of c.args.current) c.self.inside.abandoned)
    (m.counted ∙ counted_done s m.given m.came)
    ∙ (λ i. begun (record {
      collector = s.collector;
      born = s.born;
      number =
          s.number + 1;
      rotate = s.rotate;
      current = s.current;
      abandoned = s.abandoned;
    })
    (writing i) (known.abandoned i))))
    (ap (λ (k : Current). (k.stem, k.size)) c.requires.current
    ∙ ap (λ (q : List ℕ). (next_stem s, 96 + length q)) piece)

pub returns-in_err-create_next-clause-own : goal.returns-in_err-create_next-clause-own
returns-in_err-create_next-clause-own g c =
    let m = c.in_err-create_next.ensures.told in
    made_err c.from_residual.result _ (refused_by c.from_residual.ensures.1)
    (call_ends (asked (process c.args.self.now) Create (c.args.name.now ∷ []) 0 0) plain m.given _
    c.requires.name m.came m.told)

pub returns-in_err-append-clause-own : goal.returns-in_err-append-clause-own
returns-in_err-append-clause-own g c =
    let s = c.args.self.now in
    let m = c.in_ok-create_next.ensures.told in
    let later = c.create_next.new.self in
    made_err c.from_residual-in_err-append.result _
    (refused_by c.from_residual-in_err-append.ensures.1)
    (works_then (call_works (asked (process s) Create (c.args.name.now ∷ []) 0 0) plain m.given
    (λ v. tt) c.requires.name m.came m.told)
    (made_by (counted_process s later m.given m.counted)
    (once_works (asked (process later) Append (c.args.name.now ∷ c.args.head.now ∷ []) 0 0)
    c.append.result _ c.in_err-append.was
    c.requires.name c.append.ensures.told)))

pub returns-in_err-append-2-clause-own : goal.returns-in_err-append-2-clause-own
returns-in_err-append-2-clause-own g c =
    let s = c.args.self.now in
    let m = c.in_ok-create_next.ensures.told in
    let later = c.create_next.new.self in
    made_err c.from_residual-in_err-append-2.result _
    (refused_by c.from_residual-in_err-append-2.ensures.1)
    (works_then (call_works (asked (process s) Create (c.args.name.now ∷ []) 0 0) plain m.given
    (λ v. tt) c.requires.name m.came m.told)
    (made_by (counted_process s later m.given m.counted)
    (works_then
    (once_works (asked (process later) Append (c.args.name.now ∷ c.args.head.now ∷ []) 0 0)
    c.append.result _ c.in_ok-append.was
    c.requires.name c.append.ensures.told)
    (once_works (asked (process later) Append (c.args.name.now ∷ c.args.piece.now ∷ []) 0 0)
    c.append-2.result _ c.in_err-append-2.was
    c.requires.name c.append-2.ensures.told))))

pub returns-clause-own : goal.returns-clause-own
returns-clause-own g c =
    let s = c.args.self.now in
    let m = c.in_ok-create_next.ensures.told in
    let later = c.create_next.new.self in
    works_then (call_works (asked (process s) Create (c.args.name.now ∷ []) 0 0) plain m.given
    (λ v. tt) c.requires.name m.came m.told)
    (made_by (counted_process s later m.given m.counted)
    (works_then
    (once_works (asked (process later) Append (c.args.name.now ∷ c.args.head.now ∷ []) 0 0)
    c.append.result _ c.in_ok-append.was
    c.requires.name c.append.ensures.told)
    (once_works (asked (process later) Append (c.args.name.now ∷ c.args.piece.now ∷ []) 0 0)
    c.append-2.result _ c.in_ok-append-2.was
    c.requires.name c.append-2.ensures.told)))

pub begin-requires : goal.begin-requires
begin-requires g c =
    let m = c.in_ok-create_next.ensures.told in
    first_is_of_stem c.args.self.now c.create_next.new.self c.args.current _
    (m.counted ∙ counted_done c.args.self.now m.given m.came)
    c.requires.good c.requires.current

pub returns-in_err-create_next-clause-placed : goal.returns-in_err-create_next-clause-placed
returns-in_err-create_next-clause-placed g c = rw (refused_by c.from_residual.ensures.1) tt

pub returns-in_err-create_next-clause-goes_on : goal.returns-in_err-create_next-clause-goes_on
returns-in_err-create_next-clause-goes_on g c = rw (refused_by c.from_residual.ensures.1) tt

pub returns-in_err-create_next-clause-only : goal.returns-in_err-create_next-clause-only
returns-in_err-create_next-clause-only g c =
    of_outside _ (Err c.in_err-create_next.field-0.0) (refused_by c.from_residual.ensures.1)

pub returns-in_err-create_next-clause-same : goal.returns-in_err-create_next-clause-same
returns-in_err-create_next-clause-same g c =
    let m = c.in_err-create_next.ensures.told in
    counted_same c.args.self.now c.create_next.new.self m.given m.counted

pub returns-in_err-create_next-clause-refused : goal.returns-in_err-create_next-clause-refused
returns-in_err-create_next-clause-refused g c =
    let m = c.in_err-create_next.ensures.told in
    rw (refused_by c.from_residual.ensures.1)
    (uncreated_leaves c.args.self.now c.create_next.new.self m.given
    c.in_err-create_next.field-0.0 m.came m.counted)

pub returns-in_err-create_next-clause-cause : goal.returns-in_err-create_next-clause-cause
returns-in_err-create_next-clause-cause g c =
    outside_cause _ _ c.in_err-create_next.field-0.0 _ (refused_by c.from_residual.ensures.1)
    c.in_err-create_next.ensures.cause

pub returns-in_err-append-clause-placed : goal.returns-in_err-append-clause-placed
returns-in_err-append-clause-placed g c = rw (refused_by c.from_residual-in_err-append.ensures.1) tt

pub returns-in_err-append-clause-goes_on : goal.returns-in_err-append-clause-goes_on
returns-in_err-append-clause-goes_on g c =
    rw (refused_by c.from_residual-in_err-append.ensures.1) tt

pub returns-in_err-append-clause-only : goal.returns-in_err-append-clause-only
returns-in_err-append-clause-only g c =
    of_outside _ (Err c.in_err-append.field-0.0)
    (refused_by c.from_residual-in_err-append.ensures.1)

pub returns-in_err-append-clause-same : goal.returns-in_err-append-clause-same
returns-in_err-append-clause-same g c =
    let m = c.in_ok-create_next.ensures.told in
    counted_same c.args.self.now c.create_next.new.self m.given m.counted

pub returns-in_err-append-clause-refused : goal.returns-in_err-append-clause-refused
returns-in_err-append-clause-refused g c =
    let m = c.in_ok-create_next.ensures.told in
    rw (refused_by c.from_residual-in_err-append.ensures.1)
    (unfilled_leaves c.args.self.now c.create_next.new.self c.in_err-append.field-0.0
    (m.counted ∙ counted_done c.args.self.now m.given m.came))

pub returns-in_err-append-clause-cause : goal.returns-in_err-append-clause-cause
returns-in_err-append-clause-cause g c =
    later_cause _ _ _ c.in_err-append.field-0.0 _ c.in_ok-create_next.ensures.cause
    (refused_by c.from_residual-in_err-append.ensures.1)
    c.in_err-append.ensures.cause

pub returns-in_err-append-2-clause-placed : goal.returns-in_err-append-2-clause-placed
returns-in_err-append-2-clause-placed g c =
    rw (refused_by c.from_residual-in_err-append-2.ensures.1) tt

pub returns-in_err-append-2-clause-goes_on : goal.returns-in_err-append-2-clause-goes_on
returns-in_err-append-2-clause-goes_on g c =
    rw (refused_by c.from_residual-in_err-append-2.ensures.1) tt

pub returns-in_err-append-2-clause-only : goal.returns-in_err-append-2-clause-only
returns-in_err-append-2-clause-only g c =
    of_outside _ (Err c.in_err-append-2.field-0.0)
    (refused_by c.from_residual-in_err-append-2.ensures.1)

pub returns-in_err-append-2-clause-same : goal.returns-in_err-append-2-clause-same
returns-in_err-append-2-clause-same g c =
    let m = c.in_ok-create_next.ensures.told in
    counted_same c.args.self.now c.create_next.new.self m.given m.counted

pub returns-in_err-append-2-clause-refused : goal.returns-in_err-append-2-clause-refused
returns-in_err-append-2-clause-refused g c =
    let m = c.in_ok-create_next.ensures.told in
    rw (refused_by c.from_residual-in_err-append-2.ensures.1)
    (unfilled_leaves c.args.self.now c.create_next.new.self c.in_err-append-2.field-0.0
    (m.counted ∙ counted_done c.args.self.now m.given m.came))

pub returns-in_err-append-2-clause-cause : goal.returns-in_err-append-2-clause-cause
returns-in_err-append-2-clause-cause g c =
    later_cause _ _ _ c.in_err-append-2.field-0.0 _
    (c.in_ok-append.ensures.cause ∙ c.in_ok-create_next.ensures.cause)
    (refused_by c.from_residual-in_err-append-2.ensures.1)
    c.in_err-append-2.ensures.cause

pub returns-clause-same : goal.returns-clause-same
returns-clause-same g c =
    let s = c.args.self.now in
    let m = c.in_ok-create_next.ensures.told in
    let e = ap (λ (t : State). begun t (writing_of c.args.current) c.self.inside.abandoned)
    (m.counted ∙ counted_done s m.given m.came) in
    begun_same s c.begin.new.self c.args.current c.self.inside.abandoned _ (c.begin.ensures ∙ e)
    c.requires.current

pub returns-clause-placed : goal.returns-clause-placed
returns-clause-placed g c =
    let s = c.args.self.now in
    let m = c.in_ok-create_next.ensures.told in
    let e = ap (λ (t : State). begun t (writing_of c.args.current) c.self.inside.abandoned)
    (m.counted ∙ counted_done s m.given m.came) in
    begun_placed s c.begin.new.self c.args.current c.self.inside.abandoned _ (c.begin.ensures ∙ e)
    c.requires.current

pub returns-clause-goes_on : goal.returns-clause-goes_on
returns-clause-goes_on g c =
    let s = c.args.self.now in
    let m = c.in_ok-create_next.ensures.told in
    let e = ap (λ (t : State). begun t (writing_of c.args.current) c.self.inside.abandoned)
    (m.counted ∙ counted_done s m.given m.came) in
    begun_on s c.begin.new.self c.args.current c.self.inside.abandoned _ (c.begin.ensures ∙ e)
    c.requires.current c.requires.none
    (seen_as c.self.inside s c.self.view_is c.self.invariant).abandoned

pub returns-clause-cause : goal.returns-clause-cause
returns-clause-cause g c = c.in_ok-append-2.ensures.cause
    ∙ (c.in_ok-append.ensures.cause ∙ c.in_ok-create_next.ensures.cause)
