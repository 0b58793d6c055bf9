use Rattle.chk_sink.proofs.Ticks.{none_seen, is_seen}
use Rattle.chk_world.specs.Works.{rests}
use Rattle.chk_sink.proofs.Owned.{current_puts, next_puts}
use Rattle.chk_sink.proofs.Owning.{made_none, fails_of, refused_by}
use Rattle.std.proofs.Common.{true, false, true≢false, is_some, inl, sym, ◌∙◌, ◌++◌, ap, refl, List, ℕ}
use Rattle.chk_chunk.specs.Keys.{written_key}
use Rattle.chk_chunk.specs.Lent.{lent_chunk}
use Rattle.chk_sink.proofs.Fields.{put_refused}
use Rattle.chk_sink.proofs.Whole.{after_full, chunk_small, chunk_key, same_leaves, next_leaves}
use Rattle.chk_sink.specs.States.{State}
use Rattle.chk_sink.proofs.PutEnds.{full_same, goes_next, goes_same, lets_go, same_then, spent_by, unspent}
use Rattle.chk_sink.proofs.sinks.Sinks.put.Goals.{else-is_none-via-then-is_none+else-self-eq-LAST_NUMBER, else-is_none-via-else-is_none}
use Rattle.chk_sink.proofs.sinks.Sinks.put.Goals as goal

pub returns-then-self-eq-LAST_NUMBER-clause-told : goal.returns-then-self-eq-LAST_NUMBER-clause-told
returns-then-self-eq-LAST_NUMBER-clause-told g c stamped handled posted =
    after_full stamped c.args.self.now c.let_go_of_full.new.self handled _ c.let_go_of_full.ensures
    (put_refused stamped c.let_go_of_full.new.self handled (lent_chunk c.args.chunk.now) _ _ refl _)

pub returns-in_err-write_key-clause-told : goal.returns-in_err-write_key-clause-told
returns-in_err-write_key-clause-told g c stamped handled posted =
    after_full stamped c.args.self.now c.let_go_of_full.new.self handled _ c.let_go_of_full.ensures
    (put_refused stamped c.let_go_of_full.new.self handled (lent_chunk c.args.chunk.now) c.from_residual.result _ (refused_by c.from_residual.ensures.1) _)

pub put_in_current-requires-clause-small : goal.put_in_current-requires-clause-small
put_in_current-requires-clause-small g c =
    chunk_small (lent_chunk c.args.chunk.now) _ _ c.requires
    (c.as_slice.ensures ∙ (c.in_ok-write_key.ensures.ok ∙ ap (λ (t : List ℕ). t ++ written_key (lent_chunk c.args.chunk.now).key) c.new-key.ensures)) refl

pub put_in_next-requires-clause-small : goal.put_in_next-requires-clause-small
put_in_next-requires-clause-small g c =
    chunk_small (lent_chunk c.args.chunk.now) _ _ c.requires
    (c.as_slice-else-is_some.ensures ∙ (c.in_ok-write_key.ensures.ok ∙ ap (λ (t : List ℕ). t ++ written_key (lent_chunk c.args.chunk.now).key) c.new-key.ensures)) refl

pub returns-then-is_some-clause-told : goal.returns-then-is_some-clause-told
returns-then-is_some-clause-told g c stamped handled posted =
    after_full stamped c.args.self.now c.let_go_of_full.new.self handled _ c.let_go_of_full.ensures
    (c.put_in_current.ensures.told stamped handled (lent_chunk c.args.chunk.now) posted
    (chunk_key (lent_chunk c.args.chunk.now) _ c.requires
    (c.as_slice.ensures ∙ (c.in_ok-write_key.ensures.ok ∙ ap (λ (t : List ℕ). t ++ written_key (lent_chunk c.args.chunk.now).key) c.new-key.ensures))) refl)

pub returns-clause-told : goal.returns-clause-told
returns-clause-told g c stamped handled posted =
    after_full stamped c.args.self.now c.let_go_of_full.new.self handled _ c.let_go_of_full.ensures
    (c.put_in_next.ensures.told stamped handled (lent_chunk c.args.chunk.now) posted
    (chunk_key (lent_chunk c.args.chunk.now) _ c.requires
    (c.as_slice-else-is_some.ensures ∙ (c.in_ok-write_key.ensures.ok ∙ ap (λ (t : List ℕ). t ++ written_key (lent_chunk c.args.chunk.now).key) c.new-key.ensures))) refl)

pub returns-then-self-eq-LAST_NUMBER-clause-own : goal.returns-then-self-eq-LAST_NUMBER-clause-own
returns-then-self-eq-LAST_NUMBER-clause-own g c = rests

pub returns-in_err-write_key-clause-own : goal.returns-in_err-write_key-clause-own
returns-in_err-write_key-clause-own g c =
    made_none c.from_residual.result _ (refused_by c.from_residual.ensures.1)

pub returns-then-is_some-clause-own : goal.returns-then-is_some-clause-own
returns-then-is_some-clause-own g c = current_puts c.args.self.now c.let_go_of_full.new.self c.let_go_of_full.ensures (is_seen c.self.inside c.let_go_of_full.new.self true c.self.view_is (sym c.if-is_some.ensures)) c.put_in_current.ensures.own

pub returns-clause-own : goal.returns-clause-own
returns-clause-own g c = next_puts c.args.self.now c.let_go_of_full.new.self c.let_go_of_full.ensures (is_seen c.self.inside c.let_go_of_full.new.self false c.self.view_is (sym c.if-is_some.ensures)) c.put_in_next.ensures.own

pub returns-in_err-write_key-clause-last : goal.returns-in_err-write_key-clause-last
returns-in_err-write_key-clause-last g c = fails_of _ (returns-in_err-write_key-clause-own g c)

pub returns-then-is_some-clause-last : goal.returns-then-is_some-clause-last
returns-then-is_some-clause-last g c = fails_of _ (returns-then-is_some-clause-own g c)

pub returns-clause-last : goal.returns-clause-last
returns-clause-last g c = fails_of _ (returns-clause-own g c)

pub returns-then-is_some-clause-refused : goal.returns-then-is_some-clause-refused
returns-then-is_some-clause-refused g c =
    same_leaves c.args.self.now c.let_go_of_full.new.self c.put_in_current.new.self c.put_in_current.result c.let_go_of_full.ensures
    c.put_in_current.ensures.refused

pub returns-clause-refused : goal.returns-clause-refused
returns-clause-refused g c =
    next_leaves c.args.self.now c.let_go_of_full.new.self c.put_in_next.new.self c.put_in_next.result c.let_go_of_full.ensures
    (none_seen c.self.inside c.let_go_of_full.new.self c.self.view_is (sym c.if-is_some.ensures)) c.put_in_next.ensures.refused

pub returns-then-self-eq-LAST_NUMBER-clause-same : goal.returns-then-self-eq-LAST_NUMBER-clause-same
returns-then-self-eq-LAST_NUMBER-clause-same g c =
    full_same c.args.self.now c.let_go_of_full.new.self c.let_go_of_full.ensures

pub returns-in_err-write_key-clause-same : goal.returns-in_err-write_key-clause-same
returns-in_err-write_key-clause-same g c =
    full_same c.args.self.now c.let_go_of_full.new.self c.let_go_of_full.ensures

pub returns-then-is_some-clause-same : goal.returns-then-is_some-clause-same
returns-then-is_some-clause-same g c =
    same_then c.args.self.now c.let_go_of_full.new.self c.let_go_of_full.ensures _
    c.put_in_current.ensures.same

pub returns-clause-same : goal.returns-clause-same
returns-clause-same g c = same_then c.args.self.now c.let_go_of_full.new.self
    c.let_go_of_full.ensures _ c.put_in_next.ensures.same

pub returns-then-is_some-clause-cause : goal.returns-then-is_some-clause-cause
returns-then-is_some-clause-cause g c = c.put_in_current.ensures.cause

pub returns-clause-cause : goal.returns-clause-cause
returns-clause-cause g c = c.put_in_next.ensures.cause

pub returns-then-is_some-clause-placed : goal.returns-then-is_some-clause-placed
returns-then-is_some-clause-placed g c = c.put_in_current.ensures.placed

pub returns-clause-placed : goal.returns-clause-placed
returns-clause-placed g c = c.put_in_next.ensures.placed

pub returns-in_err-write_key-clause-placed : goal.returns-in_err-write_key-clause-placed
returns-in_err-write_key-clause-placed g c = rw (refused_by c.from_residual.ensures.1) tt

pub returns-in_err-write_key-clause-goes_on : goal.returns-in_err-write_key-clause-goes_on
returns-in_err-write_key-clause-goes_on g c = rw (refused_by c.from_residual.ensures.1) tt

pub returns-in_err-write_key-clause-refused : goal.returns-in_err-write_key-clause-refused
returns-in_err-write_key-clause-refused g c =
    rw (refused_by c.from_residual.ensures.1) (inl c.let_go_of_full.ensures)

pub returns-then-self-eq-LAST_NUMBER-clause-spent :
    goal.returns-then-self-eq-LAST_NUMBER-clause-spent
returns-then-self-eq-LAST_NUMBER-clause-spent g c =
    spent_by c.args.self.now c.let_go_of_full.new.self c.let_go_of_full.ensures
    (none_seen c.self.inside c.let_go_of_full.new.self c.self.view_is c.if-is_none.ensures)
    (sym (ap (λ (t : State). t.number) c.self.view_is) ∙ c.if-self-eq-LAST_NUMBER.true)
    c.self.inside.born
    (ap (λ (t : State). t.born) c.self.view_is)

pub returns-then-self-eq-LAST_NUMBER-clause-refused :
    goal.returns-then-self-eq-LAST_NUMBER-clause-refused
returns-then-self-eq-LAST_NUMBER-clause-refused g c =
    lets_go c.args.self.now c.let_go_of_full.new.self c.let_go_of_full.ensures
    (none_seen c.self.inside c.let_go_of_full.new.self c.self.view_is c.if-is_none.ensures)

pub returns-in_err-write_key-clause-spent : goal.returns-in_err-write_key-clause-spent
returns-in_err-write_key-clause-spent g c =
    unspent c.args.self.now c.let_go_of_full.new.self c.let_go_of_full.ensures _
    (elim c.else-is_none.branch [
      | else-is_none-via-then-is_none+else-self-eq-LAST_NUMBER w ↦
          λ none last. w.if-self-eq-LAST_NUMBER.false
          (ap (λ (t : State). t.number) c.self.view_is ∙ last)
      | else-is_none-via-else-is_none w ↦
          λ none last. true≢false (sym (is_seen c.self.inside c.let_go_of_full.new.self true
          c.self.view_is w.if-is_none.ensures) ∙ ap is_some none)
    ])
    (rw (refused_by c.from_residual.ensures.1) tt)

pub returns-then-is_some-clause-spent : goal.returns-then-is_some-clause-spent
returns-then-is_some-clause-spent g c =
    unspent c.args.self.now c.let_go_of_full.new.self c.let_go_of_full.ensures _
    (λ none last. true≢false (sym (is_seen c.self.inside c.let_go_of_full.new.self true
    c.self.view_is (sym c.if-is_some.ensures)) ∙ ap is_some none))
    c.put_in_current.ensures.only

pub returns-clause-spent : goal.returns-clause-spent
returns-clause-spent g c =
    unspent c.args.self.now c.let_go_of_full.new.self c.let_go_of_full.ensures _
    (elim c.else-is_none.branch [
      | else-is_none-via-then-is_none+else-self-eq-LAST_NUMBER w ↦
          λ none last. w.if-self-eq-LAST_NUMBER.false
          (ap (λ (t : State). t.number) c.self.view_is ∙ last)
      | else-is_none-via-else-is_none w ↦
          λ none last. true≢false (sym (is_seen c.self.inside c.let_go_of_full.new.self true
          c.self.view_is w.if-is_none.ensures) ∙ ap is_some none)
    ])
    c.put_in_next.ensures.only

pub returns-then-is_some-clause-goes_on : goal.returns-then-is_some-clause-goes_on
returns-then-is_some-clause-goes_on g c =
    goes_same c.args.self.now c.let_go_of_full.new.self c.let_go_of_full.ensures _ _
    (is_seen c.self.inside c.let_go_of_full.new.self true c.self.view_is
    (sym c.if-is_some.ensures)) c.put_in_current.ensures.goes_on

pub returns-clause-goes_on : goal.returns-clause-goes_on
returns-clause-goes_on g c =
    goes_next c.args.self.now c.let_go_of_full.new.self c.let_go_of_full.ensures _ _
    (none_seen c.self.inside c.let_go_of_full.new.self c.self.view_is (sym c.if-is_some.ensures))
    c.put_in_next.ensures.goes_on
