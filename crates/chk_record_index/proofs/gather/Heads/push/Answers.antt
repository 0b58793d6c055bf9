use Rattle.std.proofs.Common.{◌-◌, [], ◌∷◌, ◌++◌, map, Ok, Err, Result, refl, sym, ap, ◌∙◌, subst, All}
use Rattle.std.specs.Prelude.{OnErr}
use Rattle.chk_chunk.specs.Lent.{lent_key}
use Rattle.chk_record_index.specs.Heads.{head_with}
use Rattle.chk_record_index.specs.HeadRows.{head_in_row}
use Rattle.chk_record_index.proofs.KeptKeys.{kept_grown}
use Rattle.chk_record_index.proofs.Rows.{Known, known_grown, view_grown, view_pushed, known_pushed}
use Rattle.chk_record_index.proofs.gather.Heads.push.Goals as goal

when_err : {T E P : Type 0} (r : Result T E) → P → OnErr r P
when_err (Ok value) p = tt
when_err (Err fault) p = p

pub returns-in_err-origin-clause-err : goal.returns-in_err-origin-clause-err
returns-in_err-origin-clause-err c =
    when_err c.from_residual.result
    (view_grown c.self.inside.origins.items c.number_of.new.origins.items c.self.inside.rows.items c.self.invariant.known c.number_of.ensures.grown ∙ c.self.view_is)

pub invariant_of-self-in_err-keep : goal.invariant_of-self-in_err-keep
invariant_of-self-in_err-keep c = record {
  known = known_grown c.self.inside.origins.items c.number_of.new.origins.items c.self.inside.rows.items c.self.invariant.known
      c.number_of.ensures.grown;
  kept = c.keep.ensures c.number_of.new.origins.items (lent_key c.args.key.now) c.requires refl c.in_ok-origin.ensures.found
      (kept_grown c.self.inside.origins.items c.number_of.new.origins.items c.self.inside.recents c.in_ok-origin.ensures.grown
      c.self.invariant.kept);
}

pub returns-in_err-keep-clause-err : goal.returns-in_err-keep-clause-err
returns-in_err-keep-clause-err c =
    when_err c.from_residual-in_err-keep.result
    (view_grown c.self.inside.origins.items c.number_of.new.origins.items c.self.inside.rows.items c.self.invariant.known c.number_of.ensures.grown ∙ c.self.view_is)

pub invariant_of-self-in_err-push : goal.invariant_of-self-in_err-push
invariant_of-self-in_err-push c = record {
  known = subst (λ rows. All (Known c.number_of.new.origins.items) rows) (sym c.in_err-push.ensures.items)
      (known_grown c.self.inside.origins.items c.number_of.new.origins.items c.self.inside.rows.items c.self.invariant.known c.number_of.ensures.grown);
  kept = c.keep.ensures c.number_of.new.origins.items (lent_key c.args.key.now) c.requires refl c.in_ok-origin.ensures.found
      (kept_grown c.self.inside.origins.items c.number_of.new.origins.items c.self.inside.recents c.in_ok-origin.ensures.grown
      c.self.invariant.kept);
}

pub returns-in_err-push-clause-err : goal.returns-in_err-push-clause-err
returns-in_err-push-clause-err c =
    when_err c.from_residual-in_err-push.result
    (ap (map (head_in_row c.number_of.new.origins.items)) c.in_err-push.ensures.items
    ∙ (view_grown c.self.inside.origins.items c.number_of.new.origins.items c.self.inside.rows.items c.self.invariant.known c.number_of.ensures.grown ∙ c.self.view_is))

pub invariant_of-self-2 : goal.invariant_of-self-2
invariant_of-self-2 c = record {
  known = subst (λ rows. All (Known c.number_of.new.origins.items) rows) (sym c.in_ok-push.ensures.items)
      (known_pushed c.self.inside.origins.items c.number_of.new.origins.items c.self.inside.rows.items
      (record { origin = c.in_ok-origin.origin; file = c.args.file; size = c.args.size; turn = 0; end = c.args.key.now.seq; at = c.args.at })
      (lent_key c.args.key.now) c.self.invariant.known c.in_ok-origin.ensures.grown c.in_ok-origin.ensures.found);
  kept = c.keep.ensures c.number_of.new.origins.items (lent_key c.args.key.now) c.requires refl c.in_ok-origin.ensures.found
      (kept_grown c.self.inside.origins.items c.number_of.new.origins.items c.self.inside.recents c.in_ok-origin.ensures.grown
      c.self.invariant.kept);
}

pub returns-clause-ok : goal.returns-clause-ok
returns-clause-ok c =
    ap (map (head_in_row c.number_of.new.origins.items)) c.in_ok-push.ensures.items
    ∙ (view_pushed c.self.inside.origins.items c.number_of.new.origins.items c.self.inside.rows.items
    (record { origin = c.in_ok-origin.origin; file = c.args.file; size = c.args.size; turn = 0; end = c.args.key.now.seq; at = c.args.at })
    (lent_key c.args.key.now) c.self.invariant.known c.in_ok-origin.ensures.grown c.in_ok-origin.ensures.found refl
    ∙ ap (λ hs. hs ++ head_with (lent_key c.args.key.now) (c.args.key.now.seq - c.args.size) c.args.file c.args.at ∷ []) c.self.view_is)
