use Rattle.std.proofs.Common.{arith, ap, ap₂, length, subst, sym, ◌<◌, ◌≡◌, ◌∙◌, map, fold, refl, ℕ}
use Rattle.std.specs.List.{filter}
use Rattle.std.proofs.lemmas.List.{with_items_is}
use Rattle.std.proofs.lemmas.List.Elements.{All-map, All-same}
use Rattle.std.specs.Vec.{with_items}
use Rattle.chk_acks.specs.Keeping.{Answers}
use Rattle.chk_acks.specs.Rows.{is_past, marked_at}
use Rattle.chk_acks.specs.Passes.{moved_end}
use Rattle.chk_acks.specs.Table.{Advances, Sees, Table}
use Rattle.chk_acks.specs.Sound.{IsSound}
use Rattle.chk_acks.specs.Held.{table_of}
use Rattle.chk_acks.proofs.AdaptorRows.{length-moved, moved_advances}
use Rattle.chk_acks.proofs.Settled.{settled_seen}
use Rattle.chk_acks.proofs.Sounds.{sound_seen, turn_seen}
use Rattle.chk_acks.proofs.table.Acks.seen.Goals as goal

pub advance-requires : goal.advance-requires
advance-requires c =
    All-same (λ row. row.adaptor < length c.deref_mut.result.now) c.mark.new.self.rows _
    (ap (λ (a : Answers). a.rows) c.mark.ensures)
    (All-map (λ row. row.adaptor < length c.deref_mut.result.now)
    (marked_at c.args.stem c.args.length) c.self.inside.rows.rows
    (rw c.deref_mut.ensures.value c.self.invariant.sound.known))

pub list_unmarked-requires : goal.list_unmarked-requires
list_unmarked-requires c =
    omega (
      arith,
      ap (λ (a : Answers). a.room) c.mark.ensures,
      ap (λ (a : Answers). a.room) c.keep_past.ensures,
      c.self.invariant.places_fit,
    )

-- the table after the passes
new : (c : goal.After-list_unmarked) → Table
new c = record {
  rows = c.keep_past.new.self.rows;
  committed = (with_items c.self.inside.committed c.advance.new.committed).items;
  last = c.self.inside.last.items;
  room = c.keep_past.new.self.room;
}

sees : (c : goal.After-list_unmarked)
    → Sees c.args.stem c.args.length (table_of c.self.inside) (new c)
unfolding new
sees c =
    let marks = marked_at c.args.stem c.args.length in
    let old = c.self.inside.rows.rows in
    let rows : c.mark.new.self.rows ≡ map marks old = ap (λ (a : Answers). a.rows) c.mark.ensures in
    let moved : c.advance.new.committed
    ≡ fold moved_end c.self.inside.committed.items (map marks old) =
    c.advance.ensures ∙ ap₂ (fold moved_end) c.deref_mut.ensures.value rows in
    let ends : (with_items c.self.inside.committed c.advance.new.committed).items
    ≡ fold moved_end c.self.inside.committed.items (map marks old) =
    with_items_is c.self.inside.committed c.advance.new.committed
    (omega (
      arith,
      ap (length {A = ℕ}) moved,
      length-moved c.self.inside.committed.items
          (map marks old),
    ))
    ∙ moved in
    record {
      rows =
          ap (λ (a : Answers). a.rows) c.keep_past.ensures
          ∙ ap₂ (λ ends rows. filter (is_past ends) rows) c.deref.ensures.value rows;
      committed = subst (Advances (map marks old) c.self.inside.committed.items) (sym ends)
          (moved_advances (map marks old) c.self.inside.committed.items c.self.inside.last.items
          (turn_seen c.args.stem c.args.length (table_of c.self.inside) c.self.invariant.sound));
      last = refl;
      room =
          ap (λ (a : Answers). a.room) c.keep_past.ensures
          ∙ ap (λ (a : Answers). a.room) c.mark.ensures;
    }

pub invariant_of-self : goal.invariant_of-self
unfolding new
invariant_of-self c = record {
  sound =
      sound_seen c.args.stem c.args.length (table_of c.self.inside) (new c) c.self.invariant.sound
      (sees c);
  places = c.list_unmarked.ensures.places;
  places_fit = omega (
    arith,
    (sees c).room,
    c.list_unmarked.ensures.capacity,
    c.self.invariant.places_fit,
  );
  numbered = omega (arith, c.self.invariant.numbered, (sees c).committed.as_many);
}

pub returns-clause-table : goal.returns-clause-table
unfolding new
returns-clause-table c =
    subst (λ old. Sees c.args.stem c.args.length old (new c)) c.self.view_is (sees c)

pub returns-clause-settled : goal.returns-clause-settled
unfolding new
returns-clause-settled c = λ adaptor offset known.
    settled_seen (record { stem = c.args.stem; length = c.args.length }) c.args.self.now (new c)
    (subst IsSound c.self.view_is c.self.invariant.sound) (returns-clause-table c) adaptor offset
    known
