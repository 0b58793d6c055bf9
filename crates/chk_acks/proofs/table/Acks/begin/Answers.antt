use Rattle.std.proofs.Common.{arith, ap, length, subst, sym, ◌<◌, ◌∙◌, ◌↔◌, slice_set}
use Rattle.std.proofs.lemmas.List.{length-set}
use Rattle.chk_acks.specs.Keeping.{Answers}
use Rattle.chk_acks.specs.Table.{IsSettled, Table, begun}
use Rattle.chk_acks.specs.Sound.{IsSound}
use Rattle.chk_acks.specs.Held.{table_of}
use Rattle.chk_acks.proofs.Settled.{settled_begun}
use Rattle.chk_acks.proofs.Sounds.{sound_begun}
use Rattle.chk_acks.proofs.table.Acks.begin.Goals as goal

pub list_unmarked-requires : goal.list_unmarked-requires
list_unmarked-requires c =
    omega (arith, ap (λ (a : Answers). a.room) c.drop_adaptor.ensures, c.self.invariant.places_fit)

pub invariant_of-self : goal.invariant_of-self
invariant_of-self c =
    let known : c.args.adaptor < length c.self.inside.committed.items =
    subst (λ (t : Table). c.args.adaptor < length t.committed) (sym c.self.view_is) c.requires in
    record {
      sound = subst
          (λ (a : Answers). IsSound (record {
            rows = a.rows;
            committed = slice_set c.self.inside.committed.items c.args.adaptor c.args.at;
            last = slice_set c.self.inside.last.items c.args.adaptor c.args.at;
            room = a.room;
          }))
          (sym c.drop_adaptor.ensures)
          (sound_begun c.args.adaptor c.args.at (table_of c.self.inside) known
          c.self.invariant.sound);
      places = c.list_unmarked.ensures.places;
      places_fit = omega (
        arith,
        ap (λ (a : Answers). a.room) c.drop_adaptor.ensures,
        c.list_unmarked.ensures.capacity,
        c.self.invariant.places_fit,
      );
      numbered = omega (arith, c.self.invariant.numbered, length-set c.self.inside.committed.items c.args.adaptor c.args.at);
    }

pub returns-clause-table : goal.returns-clause-table
returns-clause-table c =
    ap
    (λ (a : Answers). record {
      rows = a.rows;
      committed = slice_set c.self.inside.committed.items c.args.adaptor c.args.at;
      last = slice_set c.self.inside.last.items c.args.adaptor c.args.at;
      room = a.room;
    })
    c.drop_adaptor.ensures
    ∙ ap (begun c.args.adaptor c.args.at) c.self.view_is

pub returns-clause-settled : goal.returns-clause-settled
returns-clause-settled c = λ offset.
    subst (λ (t : Table). IsSettled t c.args.adaptor offset ↔ (offset < c.args.at))
    (sym (returns-clause-table c))
    (settled_begun c.args.adaptor c.args.at c.args.self.now c.requires offset)
