use Rattle.std.proofs.Common.{ap, sym, ◌∙◌, [], Some}
use Rattle.std.specs.List.{filter, slice_get}
use Rattle.std.specs.Option.{option_map}
use Rattle.chk_bytes.specs.Stems.{stem_of}
use Rattle.chk_acks.specs.declared.row.Row.{Row}
use Rattle.chk_acks.specs.Rows.{is_unmarked}
use Rattle.chk_acks.specs.Table.{Table, answer_row}
use Rattle.chk_acks.proofs.Places.{none_at, place_within, row_at}
use Rattle.chk_acks.proofs.table.Acks.waiting.Goals as goal

pub returns-in_err-place : goal.returns-in_err-place
returns-in_err-place c =
    c.from_residual.ensures
    ∙ ap (option_map (λ (row : Row). (row.stem, row.offset)))
    (sym (ap (λ (t : Table). slice_get (filter is_unmarked t.rows) c.args.skip) (sym c.self.view_is)
    ∙ none_at c.self.inside.rows.rows c.deref.result.now
    (c.deref.ensures.value ∙ c.self.invariant.places) c.args.skip
    c.in_err-place.ensures.lookup.3))

pub named_at-requires : goal.named_at-requires
named_at-requires c =
    let lookup = c.in_ok-place.ensures.lookup in
    place_within c.self.inside.rows.rows c.deref.result.now
    (c.deref.ensures.value ∙ c.self.invariant.places) c.args.skip
    c.in_ok-place.field-0.now lookup.3.0 (lookup.3.1 0)

pub returns : goal.returns
returns c =
    let lookup = c.in_ok-place.ensures.lookup in
    ap Some c.named_at.ensures
    ∙ ap (option_map (λ (row : Row). (row.stem, row.offset)))
    (sym (ap (λ (t : Table). slice_get (filter is_unmarked t.rows) c.args.skip)
    (sym c.self.view_is)
    ∙ row_at c.self.inside.rows.rows c.deref.result.now
    (c.deref.ensures.value ∙ c.self.invariant.places) c.args.skip
    c.in_ok-place.field-0.now lookup.3.0 (lookup.3.1 0) (answer_row 0 0 0 (stem_of [] 0 0) 0 0)))
