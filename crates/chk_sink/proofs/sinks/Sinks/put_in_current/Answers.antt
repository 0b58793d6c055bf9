use Rattle.chk_site.specs.Site.{asked}
use Rattle.chk_site.specs.declared.acts.Call.TheVariants.{Append}
use Rattle.chk_sink.specs.Faults.{sink_result}
use Rattle.chk_sink.proofs.Owning.{made_as, made_ok, made_none, made_by, made_result, once_works, refused_by}
use Rattle.std.proofs.Common.{◌≡◌, ◌+◌, ◌≤◌, ◌∙◌, ap, sym, refl, arith, List, ℕ, length, [], ◌∷◌}
use Rattle.chk_bytes.specs.Stems.{Stem}
use Rattle.chk_seqfile.specs.Entries.{piece_at}
use Rattle.chk_world.specs.Names.{SinkFile, spell}
use Rattle.chk_sink.specs.declared.current.Current.{Current}
use Rattle.chk_sink.specs.SinkFields.{writing_of}
use Rattle.chk_sink.proofs.Putting.{piece_of, longer_writing, kept_done, kept_ended}
use Rattle.chk_sink.proofs.Fields.{seen_as, open_as, put_refused, placed_kept}
use Rattle.chk_sink.proofs.PutEnds.{done_cause, ended_outside, grown_cause, grown_leaves, grown_on, grown_same, unchanged_same}
use Rattle.chk_sink.proofs.sinks.Sinks.put_in_current.Goals as goal

pub entry-requires-clause-ordered : goal.entry-requires-clause-ordered
entry-requires-clause-ordered g c = (open_as c.self.inside c.args.self.now c.in-Some.current c.self.view_is c.self.invariant c.in-Some.is).of_stem.ordered

pub grow_where_done-requires : goal.grow_where_done-requires
grow_where_done-requires g c =
    let f = open_as c.self.inside c.args.self.now c.in-Some.current c.self.view_is c.self.invariant c.in-Some.is in
    let l = c.in_ok-piece.ensures.longer in
    let size : c.in_ok-piece.longer.size ≡ c.in-Some.current.size + length c.in_ok-piece.piece = ap (λ (k : Current). k.size) l in
    let begun : 96 ≤ c.in-Some.current.size = f.of_stem.begun in
    record {
      stem = ap (λ (k : Current). k.stem) l ∙ f.of_stem.stem;
      good = f.of_stem.good;
      marker = ap (λ (k : Current). k.marker) l ∙ f.of_stem.marker;
      begun = omega (arith, size, begun);
      ordered = c.in_ok-piece.ensures.ordered;
    }

pub returns-in_err-name-clause-told : goal.returns-in_err-name-clause-told
returns-in_err-name-clause-told g c stamped handled chunk posted is v =
    put_refused stamped c.args.self.now handled chunk c.from_residual.result _ (refused_by c.from_residual.ensures.1) _

pub returns-in_err-piece-clause-told : goal.returns-in_err-piece-clause-told
returns-in_err-piece-clause-told g c stamped handled chunk posted is v =
    put_refused stamped c.args.self.now handled chunk c.from_residual-in_err-piece.result _ (refused_by c.from_residual-in_err-piece.ensures.1) _

pub returns-in_err-grow_where_done-clause-told : goal.returns-in_err-grow_where_done-clause-told
returns-in_err-grow_where_done-clause-told g c stamped handled chunk posted is v =
    let s = c.args.self.now in
    let cur = c.in-Some.current in
    let known = seen_as c.self.inside s c.self.view_is c.self.invariant in
    let f = open_as c.self.inside s cur c.self.view_is c.self.invariant c.in-Some.is in
    kept_ended stamped s (writing_of cur) handled chunk c.args.key.now c.args.value.now known.named f.some f.of_stem.good f.of_stem.begun posted is v
    c.self.inside.who known.who c.as_str.result.now c.as_slice.result.now
    (c.as_str.ensures.value ∙ (c.in_ok-name.ensures ∙ ap (λ (x : Stem). spell (SinkFile x)) f.of_stem.stem))
    (c.as_slice.ensures ∙ (c.in_ok-piece.ensures.piece ∙ ap (λ (m : List ℕ). piece_at m cur.size cur.sync_end c.args.key.now c.args.value.now) f.of_stem.marker))
    c.append_to-appended.result _ (sym c.grow_where_done.ensures.result ∙ c.in_err-grow_where_done.was) c.append_to-appended.ensures.told
    c.grow_where_done.new.self (writing_of c.in_ok-piece.longer) c.grow_where_done.ensures.new _ _
    (refused_by c.from_residual-in_err-grow_where_done.ensures.1)

pub returns-clause-told : goal.returns-clause-told
returns-clause-told g c stamped handled chunk posted is v =
    let s = c.args.self.now in
    let cur = c.in-Some.current in
    let known = seen_as c.self.inside s c.self.view_is c.self.invariant in
    let f = open_as c.self.inside s cur c.self.view_is c.self.invariant c.in-Some.is in
    let piece : c.in_ok-piece.piece ≡ piece_of s (writing_of cur) c.args.key.now c.args.value.now =
    c.in_ok-piece.ensures.piece ∙ ap (λ (m : List ℕ). piece_at m cur.size cur.sync_end c.args.key.now c.args.value.now) f.of_stem.marker in
    kept_done stamped s (writing_of cur) handled chunk c.args.key.now c.args.value.now known.named f.some f.of_stem.good f.of_stem.begun posted is v
    c.self.inside.who known.who c.as_str.result.now c.as_slice.result.now
    (c.as_str.ensures.value ∙ (c.in_ok-name.ensures ∙ ap (λ (x : Stem). spell (SinkFile x)) f.of_stem.stem))
    (c.as_slice.ensures ∙ piece)
    c.append_to-appended.result _ (sym c.grow_where_done.ensures.result ∙ c.in_ok-grow_where_done.was) c.append_to-appended.ensures.told
    c.grow_where_done.new.self (writing_of c.in_ok-piece.longer) c.grow_where_done.ensures.new
    (ap writing_of c.in_ok-piece.ensures.longer ∙ ap (λ (p : List ℕ). longer_writing (writing_of cur) p) piece)
    (c.in_ok-piece.longer.stem, c.in_ok-piece.longer.size)
    (ap (λ (k : Current). (k.stem, k.size)) c.in_ok-piece.ensures.longer ∙ (λ i. (f.of_stem.stem i, cur.size + length (piece i))))

pub returns-clause-placed : goal.returns-clause-placed
returns-clause-placed g c =
    let s = c.args.self.now in
    let f = open_as c.self.inside s c.in-Some.current c.self.view_is c.self.invariant c.in-Some.is in
    placed_kept s c.grow_where_done.new.self (writing_of c.in_ok-piece.longer) c.append_to-appended.result _
    (sym c.grow_where_done.ensures.result ∙ c.in_ok-grow_where_done.was) c.grow_where_done.ensures.new
    c.in_ok-piece.longer.stem c.in_ok-piece.longer.size (ap (λ (k : Current). k.stem) c.in_ok-piece.ensures.longer ∙ f.of_stem.stem) refl

pub returns-in_err-name-clause-own : goal.returns-in_err-name-clause-own
returns-in_err-name-clause-own g c =
    made_none c.from_residual.result _ (refused_by c.from_residual.ensures.1)

pub returns-in_err-piece-clause-own : goal.returns-in_err-piece-clause-own
returns-in_err-piece-clause-own g c =
    made_none c.from_residual-in_err-piece.result _ (refused_by c.from_residual-in_err-piece.ensures.1)

pub returns-in_err-grow_where_done-clause-own : goal.returns-in_err-grow_where_done-clause-own
returns-in_err-grow_where_done-clause-own g c =
    let s = c.args.self.now in
    let f = open_as c.self.inside s c.in-Some.current c.self.view_is c.self.invariant c.in-Some.is in
    let made = c.append_to-appended.result in
    let own = made_result (sink_result made) made refl
    (made_by (seen_as c.self.inside s c.self.view_is c.self.invariant).who
    (once_works (asked c.self.inside.who Append (c.as_str.result.now ∷ c.as_slice.result.now ∷ []) 0 0) made _ refl (c.as_str.ensures.value ∙ (c.in_ok-name.ensures ∙ ap (λ (x : Stem). spell (SinkFile x)) f.of_stem.stem)) c.append_to-appended.ensures.told)) in
    made_as (sink_result made) c.from_residual-in_err-grow_where_done.result _ (sym c.grow_where_done.ensures.result ∙ c.in_err-grow_where_done.was)
    (refused_by c.from_residual-in_err-grow_where_done.ensures.1) own

pub returns-clause-own : goal.returns-clause-own
returns-clause-own g c =
    let s = c.args.self.now in
    let f = open_as c.self.inside s c.in-Some.current c.self.view_is c.self.invariant c.in-Some.is in
    let made = c.append_to-appended.result in
    let own = made_result (sink_result made) made refl
    (made_by (seen_as c.self.inside s c.self.view_is c.self.invariant).who
    (once_works (asked c.self.inside.who Append (c.as_str.result.now ∷ c.as_slice.result.now ∷ []) 0 0) made _ refl (c.as_str.ensures.value ∙ (c.in_ok-name.ensures ∙ ap (λ (x : Stem). spell (SinkFile x)) f.of_stem.stem)) c.append_to-appended.ensures.told)) in
    made_ok (sink_result made) _ (sym c.grow_where_done.ensures.result ∙ c.in_ok-grow_where_done.was) own

pub returns-in_err-name-clause-same : goal.returns-in_err-name-clause-same
returns-in_err-name-clause-same g c = unchanged_same c.args.self.now

pub returns-in_err-name-clause-placed : goal.returns-in_err-name-clause-placed
returns-in_err-name-clause-placed g c = rw (refused_by c.from_residual.ensures.1) tt

pub returns-in_err-name-clause-goes_on : goal.returns-in_err-name-clause-goes_on
returns-in_err-name-clause-goes_on g c = rw (refused_by c.from_residual.ensures.1) tt

pub returns-in_err-name-clause-refused : goal.returns-in_err-name-clause-refused
returns-in_err-name-clause-refused g c = rw (refused_by c.from_residual.ensures.1) refl

pub returns-in_err-name-clause-only : goal.returns-in_err-name-clause-only
returns-in_err-name-clause-only g c = rw (refused_by c.from_residual.ensures.1) tt

pub returns-in_err-name-clause-cause : goal.returns-in_err-name-clause-cause
returns-in_err-name-clause-cause g c = rw (refused_by c.from_residual.ensures.1) refl

pub returns-in_err-piece-clause-same : goal.returns-in_err-piece-clause-same
returns-in_err-piece-clause-same g c = unchanged_same c.args.self.now

pub returns-in_err-piece-clause-placed : goal.returns-in_err-piece-clause-placed
returns-in_err-piece-clause-placed g c = rw (refused_by c.from_residual-in_err-piece.ensures.1) tt

pub returns-in_err-piece-clause-goes_on : goal.returns-in_err-piece-clause-goes_on
returns-in_err-piece-clause-goes_on g c = rw (refused_by c.from_residual-in_err-piece.ensures.1) tt

pub returns-in_err-piece-clause-refused : goal.returns-in_err-piece-clause-refused
returns-in_err-piece-clause-refused g c =
    rw (refused_by c.from_residual-in_err-piece.ensures.1) refl

pub returns-in_err-piece-clause-only : goal.returns-in_err-piece-clause-only
returns-in_err-piece-clause-only g c = rw (refused_by c.from_residual-in_err-piece.ensures.1) tt

pub returns-in_err-piece-clause-cause : goal.returns-in_err-piece-clause-cause
returns-in_err-piece-clause-cause g c = rw (refused_by c.from_residual-in_err-piece.ensures.1) refl

pub returns-in_err-grow_where_done-clause-same : goal.returns-in_err-grow_where_done-clause-same
returns-in_err-grow_where_done-clause-same g c =
    grown_same c.args.self.now c.grow_where_done.new.self (writing_of c.in_ok-piece.longer)
    c.append_to-appended.result c.grow_where_done.ensures.new

pub returns-in_err-grow_where_done-clause-placed : goal.returns-in_err-grow_where_done-clause-placed
returns-in_err-grow_where_done-clause-placed g c =
    rw (refused_by c.from_residual-in_err-grow_where_done.ensures.1) tt

pub returns-in_err-grow_where_done-clause-goes_on :
    goal.returns-in_err-grow_where_done-clause-goes_on
returns-in_err-grow_where_done-clause-goes_on g c =
    rw (refused_by c.from_residual-in_err-grow_where_done.ensures.1) tt

pub returns-in_err-grow_where_done-clause-refused :
    goal.returns-in_err-grow_where_done-clause-refused
returns-in_err-grow_where_done-clause-refused g c =
    rw (refused_by c.from_residual-in_err-grow_where_done.ensures.1)
    (grown_leaves c.args.self.now c.grow_where_done.new.self (writing_of c.in_ok-piece.longer)
    c.append_to-appended.result c.grow_where_done.ensures.new _
    (sym c.grow_where_done.ensures.result ∙ c.in_err-grow_where_done.was))

pub returns-in_err-grow_where_done-clause-only : goal.returns-in_err-grow_where_done-clause-only
returns-in_err-grow_where_done-clause-only g c =
    rw (refused_by c.from_residual-in_err-grow_where_done.ensures.1)
    (ended_outside c.append_to-appended.result _
    (sym c.grow_where_done.ensures.result ∙ c.in_err-grow_where_done.was))

pub returns-in_err-grow_where_done-clause-cause : goal.returns-in_err-grow_where_done-clause-cause
returns-in_err-grow_where_done-clause-cause g c =
    grown_cause _ _ c.append_to-appended.result _ _
    (sym c.grow_where_done.ensures.result ∙ c.in_err-grow_where_done.was)
    (refused_by c.from_residual-in_err-grow_where_done.ensures.1) c.append_to-appended.ensures.cause

pub returns-clause-same : goal.returns-clause-same
returns-clause-same g c = grown_same c.args.self.now c.grow_where_done.new.self
    (writing_of c.in_ok-piece.longer) c.append_to-appended.result c.grow_where_done.ensures.new

pub returns-clause-goes_on : goal.returns-clause-goes_on
returns-clause-goes_on g c =
    let cur = c.in-Some.current in
    let f = open_as c.self.inside c.args.self.now cur c.self.view_is c.self.invariant c.in-Some.is
    in
    grown_on c.args.self.now c.grow_where_done.new.self (writing_of c.in_ok-piece.longer)
    c.append_to-appended.result c.grow_where_done.ensures.new _
    (sym c.grow_where_done.ensures.result ∙ c.in_ok-grow_where_done.was) (writing_of cur) f.some
    c.in_ok-piece.piece
    (ap writing_of c.in_ok-piece.ensures.longer)

pub returns-clause-cause : goal.returns-clause-cause
returns-clause-cause g c =
    done_cause _ _ c.append_to-appended.result _
    (sym c.grow_where_done.ensures.result ∙ c.in_ok-grow_where_done.was)
    c.append_to-appended.ensures.cause
