use Rattle.std.proofs.Common.{arith, ap, ap₂, length, subst, sym, ◌<◌, ◌≡◌, ◌∙◌, slice_set, slice_index, ◌++◌, ◌∷◌, [], ◌↔◌, refl, ℕ}
use Rattle.std.proofs.lemmas.Bool.{cond-true}
use Rattle.chk_acks.specs.declared.row.Row.{Row}
use Rattle.chk_acks.specs.Keeping.{Answers}
use Rattle.chk_acks.specs.Passes.{places_of}
use Rattle.chk_acks.specs.Table.{IsSettled, Table, added, answer_row}
use Rattle.chk_acks.specs.Sound.{IsSound}
use Rattle.chk_acks.specs.Held.{table_of}
use Rattle.chk_acks.proofs.PassLemmas.{length-places_of, places_of-push}
use Rattle.chk_acks.proofs.Settled.{settled_added}
use Rattle.chk_acks.proofs.Sounds.{sound_added}
use Rattle.chk_acks.proofs.table.Acks.answered.Goals as goal

-- the new row
row : (c : goal.After-self-1) → Row
row c = answer_row c.args.adaptor c.args.begin c.args.end c.args.stem c.args.offset c.args.now

free : (c : goal.After-self-1) → length c.self.inside.rows.rows < c.self.inside.rows.room
free c = subst (λ (t : Table). length t.rows < t.room) (sym c.self.view_is) c.requires.free

-- there was memory for its place
listed : (c : goal.After-self-1) → c.push.new.self.items ≡ c.self.inside.unmarked.items
    ++ (c.len.result ∷ [])
listed c =
    let fits = free c in
    c.push.ensures.items ∙ cond-true _ _ _ (c.push.ensures.succeeds
    (omega (
      arith,
      length-places_of 0 c.self.inside.rows.rows,
      ap (length {A = ℕ})
          c.self.invariant.places,
    )))

pub invariant_of-self : goal.invariant_of-self
unfolding row
invariant_of-self c =
    let known : c.args.adaptor < length c.self.inside.committed.items =
    subst (λ (t : Table). c.args.adaptor < length t.committed) (sym c.self.view_is)
    c.requires.known in
    let next : c.args.begin ≡ slice_index c.self.inside.last.items c.args.adaptor =
    c.requires.next ∙ ap (λ (t : Table). slice_index t.last c.args.adaptor) (sym c.self.view_is) in
    record {
      sound = subst
          (λ (a : Answers). IsSound (record {
            rows = a.rows;
            committed = c.self.inside.committed.items;
            last = slice_set c.self.inside.last.items c.args.adaptor c.args.end;
            room = a.room;
          }))
          (sym c.push-2.ensures)
          (sound_added (row c) (table_of c.self.inside) known (free c) next c.requires.some refl
          c.self.invariant.sound);
      places =
          listed c ∙ ap₂ (λ ps n. ps ++ (n ∷ [])) c.self.invariant.places
          (c.len.ensures.len ∙ omega arith)
          ∙ sym (ap (λ (a : Answers). places_of 0 a.rows) c.push-2.ensures
          ∙ places_of-push 0 c.self.inside.rows.rows (row c));
      places_fit = omega (
        arith,
        ap (λ (a : Answers). a.room) c.push-2.ensures,
        c.push.ensures.capacity,
        c.self.invariant.places_fit,
      );
      numbered = c.self.invariant.numbered;
    }

pub returns-clause-table : goal.returns-clause-table
unfolding row
returns-clause-table c =
    ap
    (λ (a : Answers). record {
      rows = a.rows;
      committed = c.self.inside.committed.items;
      last = slice_set c.self.inside.last.items c.args.adaptor c.args.end;
      room = a.room;
    })
    c.push-2.ensures
    ∙ ap (added (row c)) c.self.view_is

pub returns-clause-settled : goal.returns-clause-settled
unfolding row
returns-clause-settled c = λ other place.
    subst (λ (t : Table). IsSettled t other place ↔ IsSettled c.args.self.now other place)
    (sym (returns-clause-table c))
    (settled_added (row c) c.args.self.now refl other place)
